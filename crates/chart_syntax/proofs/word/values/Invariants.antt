use Rattle.std.proofs.Common.{◌≡◌, length, take}
use Rattle.chart_syntax.specs.Words.{vector_of}
use Rattle.chart_syntax.proofs.word.values.Given as goal

abbrev pub invariant-numbers : goal.invariant-numbers
invariant-numbers l = record { size : length l.values ≡ 6; done : take l.index l.values ≡ vector_of (take l.index l.numbers) }
