use Rattle.std.proofs.Common.{sym, ◌∙◌}
use Rattle.suite_reader.proofs.Checking.{mark_letters}
use Rattle.suite_reader.proofs.reader.Reader.take_mark.Goals as goal

pub push_letters-requires : goal.push_letters-requires
push_letters-requires c = mark_letters c.args.self.now c.args.numbers.now c.requires.counted.few_classes (sym c.check_mark.ensures ∙ c.in_default.is)
