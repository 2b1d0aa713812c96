use Rattle.std.proofs.Common.{◌≡◌, ◌++◌}
use Rattle.chart_gen.specs.Generated.{transition_lines}
use Rattle.chart_gen.proofs.text.push_transitions.Given as goal

abbrev pub invariant-loop-state : goal.invariant-loop-state
invariant-loop-state l = l.text.items ≡ l.fn.text.items ++ transition_lines l.gap l.state
