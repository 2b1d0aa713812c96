use Rattle.std.proofs.Common.{◌≤◌, ◌+◌, ◌*◌, length, take}
use Rattle.strict_lines.specs.Lines.{tail_text}
use Rattle.suite_model.specs.Text.{numbers}
use Rattle.verdict_report.specs.inside.Lines.{Pushes}
use Rattle.verdict_report.proofs.line.push_numbers.Given as goal

abbrev pub invariant-loop-value : goal.invariant-loop-value
invariant-loop-value l = record {
  pushes : Pushes l.fn.scratch l.scratch (tail_text (numbers (take l.value-index l.values)));
  short : length l.scratch.line ≤ length l.fn.scratch.line + 21 * l.value-index;
}
