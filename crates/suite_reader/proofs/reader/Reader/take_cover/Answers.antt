use Rattle.std.proofs.Common.{sym, ◌∙◌}
use Rattle.suite_reader.proofs.Checking.{cover_letters}
use Rattle.suite_reader.proofs.reader.Reader.take_cover.Goals as goal

pub push_letters-requires : goal.push_letters-requires
push_letters-requires c = cover_letters c.args.self.now c.args.numbers.now c.requires.counted.few_classes (sym c.check_cover.ensures ∙ c.in_default.is)
