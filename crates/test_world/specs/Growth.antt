-- Lists that may be told, and that grow at their end.
use Rattle.std.specs.Prelude.{◌≡◌, List, ◌++◌, Option, Some, None}

-- these came after what was told before, and it is told as before
abbrev pub IsLonger : {A : Type 0} → Option (List A) → Option (List A) → List A → Type 0
IsLonger None None more = Unit {0}
IsLonger None (Some now) more = ⊥
IsLonger (Some before) None more = ⊥
IsLonger (Some before) (Some now) more = now ≡ before ++ more
