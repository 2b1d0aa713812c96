use Rattle.std.proofs.Common.{◌∙◌, refl, ap, length, arith, inr}
use Rattle.std.proofs.lemmas.Option.{slice_get-get_or}
use Rattle.suite_model.specs.Text.{step_lines}
use Rattle.suite_text.specs.inside.Parts.{text_of}
use Rattle.test_world.proofs.Growing.{puts_then, puts_exit}
use Rattle.suite_text.proofs.Growing.{test_fits, no_test}
use Rattle.suite_text.proofs.Holding.{all_steps, head_of, holds_again, put_in_part, put_whole}
use Rattle.suite_text.proofs.write.put_test.Goals as goal

pub push_test-requires-clause-count : goal.push_test-requires-clause-count
push_test-requires-clause-count g c =
    let there = slice_get-get_or c.args.suite.now.tests c.args.test no_test c.requires.test in
    let fits = test_fits c.args.suite.now c.set_steps-count.new.scratch c.args.test _ there c.set_steps-count.ensures.made in
    let held = c.set_steps-count.ensures.steps _ there in
    omega (arith, fits, held.count)

pub push_test-requires-clause-room : goal.push_test-requires-clause-room
push_test-requires-clause-room g c =
    let there = slice_get-get_or c.args.suite.now.tests c.args.test no_test c.requires.test in
    let fits = test_fits c.args.suite.now c.set_steps-count.new.scratch c.args.test _ there c.set_steps-count.ensures.made in
    let held = c.set_steps-count.ensures.steps _ there in
    let short = held.steps.short c.set_steps-count.result (omega arith) in
    omega (arith, fits, held.count, short, ap length held.steps.line, c.has_text_room.ensures.text)

pub returns-in-Err-clause-puts : goal.returns-in-Err-clause-puts
returns-in-Err-clause-puts g c = λ t e.
    let held = c.set_steps-count.ensures.steps t e in
    let head = head_of c.args.suite.now t c.set_steps-count.result c.set_steps-count.new.scratch c.line-end.result.now c.line.result.now c.push_test.new.scratch.line held c.line-end.ensures c.line.ensures c.push_test.ensures.line in
    puts_exit (text_of (step_lines c.args.suite.now.classes t.letters t.replies)) refl (rw (head) at c.in-Err.ensures.put)

pub put_steps-requires-clause-count : goal.put_steps-requires-clause-count
put_steps-requires-clause-count g c =
    let there = slice_get-get_or c.args.suite.now.tests c.args.test no_test c.requires.test in
    let fits = test_fits c.args.suite.now c.set_steps-count.new.scratch c.args.test _ there c.set_steps-count.ensures.made in
    let held = c.set_steps-count.ensures.steps _ there in
    omega (arith, fits, held.count, c.has_text_room.ensures.ends, ap length (c.back_to.ensures.ends ∙ c.push_test.ensures.ends))

pub put_steps-requires-clause-steps : goal.put_steps-requires-clause-steps
put_steps-requires-clause-steps g c =
    let there = slice_get-get_or c.args.suite.now.tests c.args.test no_test c.requires.test in
    let held = c.set_steps-count.ensures.steps _ there in
    let again = holds_again c.args.suite.now _ c.set_steps-count.result c.set_steps-count.new.scratch c.push_test.new.scratch c.back_to.new.self _ held c.push_test.ensures.line c.push_test.ensures.letters c.push_test.ensures.ends
    c.back_to.ensures.line c.back_to.ensures.letters c.back_to.ensures.ends in
    (_, _, again.steps)

pub returns-in-Err-put_steps-clause-puts : goal.returns-in-Err-put_steps-clause-puts
returns-in-Err-put_steps-clause-puts g c = λ t e.
    let held = c.set_steps-count.ensures.steps t e in
    let head = head_of c.args.suite.now t c.set_steps-count.result c.set_steps-count.new.scratch c.line-end.result.now c.line.result.now c.push_test.new.scratch.line held c.line-end.ensures c.line.ensures c.push_test.ensures.line in
    let again = holds_again c.args.suite.now t c.set_steps-count.result c.set_steps-count.new.scratch c.push_test.new.scratch c.back_to.new.self _ held c.push_test.ensures.line c.push_test.ensures.letters c.push_test.ensures.ends
    c.back_to.ensures.line c.back_to.ensures.letters c.back_to.ensures.ends in
    let steps = again.steps.line ∙ all_steps c.args.suite.now.classes t c.set_steps-count.result held.count in
    puts_then (rw (head) at c.in-Ok.ensures.put) (put_in_part _ _ _ _ _ (rw (steps) at c.in-Err-put_steps.ensures))

pub back_to-requires : goal.back_to-requires
back_to-requires g c =
    let there = slice_get-get_or c.args.suite.now.tests c.args.test no_test c.requires.test in
    let fits = test_fits c.args.suite.now c.set_steps-count.new.scratch c.args.test _ there c.set_steps-count.ensures.made in
    let held = c.set_steps-count.ensures.steps _ there in
    omega (arith, fits, held.count, ap length c.push_test.ensures.letters)

pub returns-clause-puts : goal.returns-clause-puts
returns-clause-puts g c = λ t e.
    let held = c.set_steps-count.ensures.steps t e in
    let head = head_of c.args.suite.now t c.set_steps-count.result c.set_steps-count.new.scratch c.line-end.result.now c.line.result.now c.push_test.new.scratch.line held c.line-end.ensures c.line.ensures c.push_test.ensures.line in
    let again = holds_again c.args.suite.now t c.set_steps-count.result c.set_steps-count.new.scratch c.push_test.new.scratch c.back_to.new.self _ held c.push_test.ensures.line c.push_test.ensures.letters c.push_test.ensures.ends
    c.back_to.ensures.line c.back_to.ensures.letters c.back_to.ensures.ends in
    let steps = again.steps.line ∙ all_steps c.args.suite.now.classes t c.set_steps-count.result held.count in
    puts_then (rw (head) at c.in-Ok.ensures.put) (put_whole _ _ _ _ _ (rw (steps) at c.in-Ok-put_steps.ensures))

pub returns-clause-holds : goal.returns-clause-holds
returns-clause-holds g c =
    let there = slice_get-get_or c.args.suite.now.tests c.args.test no_test c.requires.test in
    let held = c.set_steps-count.ensures.steps _ there in
    inr (
      _,
      holds_again c.args.suite.now _ c.set_steps-count.result c.set_steps-count.new.scratch c.push_test.new.scratch c.back_to.new.self _ held c.push_test.ensures.line c.push_test.ensures.letters c.push_test.ensures.ends
          c.back_to.ensures.line c.back_to.ensures.letters c.back_to.ensures.ends,
    )
