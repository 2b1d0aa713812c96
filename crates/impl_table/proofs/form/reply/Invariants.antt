use Rattle.std.proofs.Common.{◌≤◌, ◌-◌, length}
use Rattle.impl_table.proofs.Replies.{IsFront}
use Rattle.impl_table.proofs.form.reply.Given as goal

abbrev pub decreases-numbers : goal.decreases-numbers
decreases-numbers l = length l.line - l.end

abbrev pub invariant-numbers : goal.invariant-numbers
invariant-numbers l = record { front : IsFront l.line l.at l.end l.numbers; inside : l.end ≤ length l.line }
