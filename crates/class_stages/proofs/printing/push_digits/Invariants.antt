use Rattle.std.proofs.Common.{◌≡◌, ◌≤◌, ◌+◌, ◌++◌, length, map, take}
use Rattle.class_stages.specs.Text.{digit_of}
use Rattle.class_stages.proofs.printing.push_digits.Given as goal

abbrev pub invariant-digits : goal.invariant-digits
invariant-digits l = (l.line ≡ l.fn.line ++ map digit_of (take l.truth-index l.truths)) × (length l.line ≤ length l.fn.line + l.truth-index)
