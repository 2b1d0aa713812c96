use Rattle.std.proofs.Common.{◌≤◌, ◌+◌, ◌*◌, length, take}
use Rattle.strict_lines.specs.Lines.{tail_text}
use Rattle.suite_model.specs.Text.{letters}
use Rattle.suite_text.specs.inside.Lines.{Pushes}
use Rattle.suite_text.proofs.line.push_letters.Given as goal

abbrev pub invariant-loop-step : goal.invariant-loop-step
invariant-loop-step l = record {
  pushes : Pushes l.fn.scratch l.scratch (tail_text (letters (take l.step l.fn.scratch.letters)));
  short : length l.scratch.line ≤ length l.fn.scratch.line + 6 * l.step;
}
