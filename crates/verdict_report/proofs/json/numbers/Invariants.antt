use Rattle.std.proofs.Common.{◌≡◌, map, take, ℤ}
use Rattle.serde_json.specs.Data.{number}
use Rattle.serde_json.specs.Find.{of_integer}
use Rattle.serde_json.specs.View.{view}
use Rattle.verdict_report.proofs.json.numbers.Given as goal

abbrev pub invariant-loop-number : goal.invariant-loop-number
invariant-loop-number l = map view l.values.items ≡ map (λ (z : ℤ). number (of_integer z)) (take l.number-index l.numbers)
