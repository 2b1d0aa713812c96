use Rattle.std.proofs.Common.{◌∙◌, arith}
use Rattle.strict_lines.specs.Lines.{line_text}
use Rattle.suite_text.specs.inside.Parts.{rows}
use Rattle.test_world.proofs.Growing.{grows_by_nothing}
use Rattle.suite_text.proofs.Growing.{part_more, part_fails, row_there}
use Rattle.suite_text.proofs.write.put_section.Goals as goal

pub loop-index-init : goal.loop-index-init
loop-index-init g c = record { made = c.requires; taken = grows_by_nothing _; later = omega arith }

pub loop-index-preserved : goal.loop-index-preserved
loop-index-preserved g c =
    let there = row_there (rows c.args.section c.args.suite.now) c.loop-index.index c.count-count.result c.loop-index-test.true c.count-count.ensures in
    let later = c.put_all.ensures.put.later in
    record {
      made = c.set_row.ensures.made;
      taken = part_more line_text (rows c.args.section c.args.suite.now) c.loop-index.index _ _ _ _ there c.loop-index.invariant.taken (rw (c.line.ensures ∙ c.set_row.ensures.line _ there) at c.in-Ok.ensures.put.put);
      later = omega (arith, later);
    }

pub returns-in-Err-clause-puts : goal.returns-in-Err-clause-puts
returns-in-Err-clause-puts g c =
    let there = row_there (rows c.args.section c.args.suite.now) c.loop-index.index c.count-count.result c.loop-index-test.true c.count-count.ensures in
    part_fails line_text (rows c.args.section c.args.suite.now) c.loop-index.index _ _ _ _ _ there c.loop-index.invariant.taken c.loop-index.invariant.later (rw (c.line.ensures ∙ c.set_row.ensures.line _ there) at c.in-Err.ensures.put)
