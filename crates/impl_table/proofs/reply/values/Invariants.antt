use Rattle.std.proofs.Common.{◌≡◌, length, take}
use Rattle.impl_table.specs.Reading.{reply_of}
use Rattle.impl_table.proofs.reply.values.Given as goal

abbrev pub invariant-numbers : goal.invariant-numbers
invariant-numbers l = record { size : length l.values ≡ 8; done : take l.index l.values ≡ reply_of (take l.index l.numbers) }
