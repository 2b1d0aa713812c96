use Rattle.std.proofs.Common.{◌≡◌, ◌+◌, ◌/◌, ◌%◌, ◌∷◌, [], length, map}
use Rattle.std.specs.List.{All, range_with_len}
use Rattle.chart_model.specs.Chart.{IsState}
use Rattle.chart_meaning.proofs.charts.states.Given as goal

abbrev pub invariant-loop-number : goal.invariant-loop-number
invariant-loop-number g l =
    All (IsState 2 1 2) l.states
    × (map (λ state. state.name) l.states ≡ map (λ number. (number / 8 + 65) ∷ (number % 8 + 65) ∷ [])
    (range_with_len 0 l.number)) × (length l.states ≡ l.number)
