use Rattle.std.proofs.Common.{codes}
use Rattle.suite_text.proofs.Growing.{row_lettered}
use Rattle.suite_text.proofs.write.set_row.Goals as goal

pub returns-in-Cover-clause-line : goal.returns-in-Cover-clause-line
returns-in-Cover-clause-line c = λ row e. row_lettered (codes "cover") c.args.suite.now.cover c.args.index row c.cover_letters-count.result c.cover_letters-count.new.scratch.letters _ _
    (rw (c.in-Cover.is) at e) c.cover_letters-count.ensures.letters c.set_letters.ensures.line

pub returns-in-Marks-clause-line : goal.returns-in-Marks-clause-line
returns-in-Marks-clause-line c = λ row e. row_lettered (codes "mark") c.args.suite.now.marks c.args.index row c.mark_letters-count.result c.mark_letters-count.new.scratch.letters _ _
    (rw (c.in-Marks.is) at e) c.mark_letters-count.ensures.letters c.set_letters-in-Marks.ensures.line
