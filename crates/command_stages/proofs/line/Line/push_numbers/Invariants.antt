use Rattle.std.proofs.Common.{◌≡◌, ◌≤◌, ◌+◌, ◌*◌, ◌∷◌, ◌++◌, length, take}
use Rattle.std.specs.List.{flat_map}
use Rattle.std.specs.Fmt.{signed_decimal}
use Rattle.command_stages.proofs.line.Line.push_numbers.Given as goal

abbrev pub invariant-loop-number : goal.invariant-loop-number
invariant-loop-number l =
    (l.self ≡ l.fn.self ++ flat_map (λ z. 32 ∷ signed_decimal z) (take l.number-index l.numbers))
    × (length l.self ≤ length l.fn.self + 21 * l.number-index)
