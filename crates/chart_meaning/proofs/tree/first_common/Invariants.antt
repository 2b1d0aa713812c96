use Rattle.std.proofs.Common.{◌≡◌, ◌==◌, find, drop}
use Rattle.std.specs.List.{list_any}
use Rattle.chart_meaning.proofs.tree.first_common.Given as goal

abbrev pub invariant-loop-state : goal.invariant-loop-state
invariant-loop-state l = find (λ s. list_any (λ t. t == s) l.others) (drop l.state-index l.states) ≡ find (λ s. list_any (λ t. t == s) l.others) l.states
