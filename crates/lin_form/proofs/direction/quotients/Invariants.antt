use Rattle.std.proofs.Common.{◌≡◌, length, take}
use Rattle.lin_form.specs.Inequality.{scaled}
use Rattle.lin_form.proofs.direction.quotients.Given as goal

abbrev pub invariant-loop-index : goal.invariant-loop-index
invariant-loop-index l =
    (length l.quotients ≡ 6) × (take l.index l.numbers ≡ scaled l.divisor (take l.index l.quotients))
