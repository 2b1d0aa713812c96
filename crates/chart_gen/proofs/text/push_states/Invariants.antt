use Rattle.std.proofs.Common.{◌≡◌, ◌++◌}
use Rattle.chart_gen.specs.Generated.{state_lines}
use Rattle.chart_gen.proofs.text.push_states.Given as goal

abbrev pub invariant-loop-state : goal.invariant-loop-state
invariant-loop-state l = l.text.items ≡ l.fn.text.items ++ state_lines l.state
