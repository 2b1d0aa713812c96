use Rattle.std.proofs.Common.{◌-◌}
use Rattle.class_split.specs.inside.Places.{patterns_of}
use Rattle.class_split.proofs.Places.{StandsBetween}
use Rattle.class_split.proofs.class_number.place_of.Given as goal

abbrev pub invariant-loop-to : goal.invariant-loop-to
invariant-loop-to l = StandsBetween (patterns_of l.classes) l.pattern l.from l.to

abbrev pub decreases-loop-to : goal.decreases-loop-to
decreases-loop-to l = l.to - l.from
