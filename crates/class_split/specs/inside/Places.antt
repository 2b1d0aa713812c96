-- The patterns of classes, and where one of them stands.
use Rattle.std.specs.Prelude.{Bool, List, map}
use Rattle.input_classes.specs.declared.class.Class.{Class}

abbrev pub patterns_of : List Class → List (List Bool)
patterns_of classes = map (λ (c : Class). c.pattern) classes
