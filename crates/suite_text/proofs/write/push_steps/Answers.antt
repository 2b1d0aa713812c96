use Rattle.std.proofs.Common.{◌+◌, ◌++◌, ◌∙◌, ap, List, ℤ, arith, get_or, length, set, sym, []}
use Rattle.std.proofs.lemmas.List.{get_or_read, length-set}
use Rattle.std.proofs.lemmas.Option.{slice_get-get_or}
use Rattle.strict_lines.specs.Lines.{line_text}
use Rattle.suite_model.specs.Text.{step_line}
use Rattle.suite_text.proofs.Growing.{no_test, at_step, test_fits}
use Rattle.suite_text.proofs.Holding.{have_more}
use Rattle.suite_text.proofs.write.push_steps.Goals as goal

pub letter-letter-requires : goal.letter-letter-requires
letter-letter-requires c =
    let there = slice_get-get_or c.args.suite.now.tests c.args.test no_test c.requires.test in
    let fits = test_fits c.args.suite.now c.args.scratch.now c.args.test _ there c.requires.made in
    let count = (c.requires.letters _ there).0 in
    let same = ap length c.loop-step.invariant.letters in
    omega (arith, fits, count, same)

pub bounds-classes-letter : goal.bounds-classes-letter
bounds-classes-letter c =
    let there = slice_get-get_or c.args.suite.now.tests c.args.test no_test c.requires.test in
    let says = c.requires.letters _ there in
    let here = at_step c.args.suite.now c.suite_keeps_rules.ensures c.args.test _ there c.args.count c.args.scratch.now.letters c.loop-step.scratch.letters says.0 says.1 c.loop-step.invariant.letters c.loop-step.step c.letter-letter.result c.loop-step-test.true c.letter-letter.ensures in
    rw (c.classes.ensures) here.inside

pub push_step-requires-clause-room : goal.push_step-requires-clause-room
push_step-requires-clause-room c =
    let there = slice_get-get_or c.args.suite.now.tests c.args.test no_test c.requires.test in
    let fits = test_fits c.args.suite.now c.args.scratch.now c.args.test _ there c.requires.made in
    let count = (c.requires.letters _ there).0 in
    let held = c.loop-step.invariant.steps _ there in
    let short = held.short c.loop-step.step (omega arith) in
    omega (arith, fits, count, short, ap length held.line, c.loop-step.invariant.room, c.has_text_room.ensures.text)

pub push_step-requires-clause-some : goal.push_step-requires-clause-some
push_step-requires-clause-some c =
    let there = slice_get-get_or c.args.suite.now.tests c.args.test no_test c.requires.test in
    let says = c.requires.letters _ there in
    let here = at_step c.args.suite.now c.suite_keeps_rules.ensures c.args.test _ there c.args.count c.args.scratch.now.letters c.loop-step.scratch.letters says.0 says.1 c.loop-step.invariant.letters c.loop-step.step c.letter-letter.result c.loop-step-test.true c.letter-letter.ensures in
    let item = get_or_read c.args.suite.now.classes c.letter-letter.result c.index-classes-letter.result here.inside (c.index-classes-letter.is ∙ ap (λ (x : List (List ℤ)). get_or x c.letter-letter.result c.index-classes-letter.result) c.classes.ensures) [] in
    rw (c.as_slice.ensures.value, item) here.some

pub keep_end-requires : goal.keep_end-requires
keep_end-requires c =
    let there = slice_get-get_or c.args.suite.now.tests c.args.test no_test c.requires.test in
    let fits = test_fits c.args.suite.now c.args.scratch.now c.args.test _ there c.requires.made in
    let count = (c.requires.letters _ there).0 in
    omega (arith, fits, count, ap length c.loop-step.invariant.letters, ap length c.push_step.ensures.pushes.letters)

pub loop-step-preserved : goal.loop-step-preserved
loop-step-preserved c = record {
  upto = omega arith;
  letters = c.keep_end.ensures.letters ∙ c.push_step.ensures.pushes.letters ∙ c.loop-step.invariant.letters;
  room = c.keep_end.ensures.room ∙ c.push_step.ensures.pushes.room ∙ c.loop-step.invariant.room;
  size = ap length c.keep_end.ensures.ends ∙ length-set c.push_step.new.scratch.ends (c.loop-step.step + 1) (length c.push_step.new.scratch.line) ∙ ap length c.push_step.ensures.pushes.ends ∙ c.loop-step.invariant.size;
  steps = λ t there.
      let says = c.requires.letters _ there in
      let here = at_step c.args.suite.now c.suite_keeps_rules.ensures c.args.test _ there c.args.count c.args.scratch.now.letters c.loop-step.scratch.letters says.0 says.1 c.loop-step.invariant.letters c.loop-step.step c.letter-letter.result c.loop-step-test.true c.letter-letter.ensures in
      let item = c.as_slice.ensures.value ∙ get_or_read c.args.suite.now.classes c.letter-letter.result c.index-classes-letter.result here.inside (c.index-classes-letter.is ∙ ap (λ (x : List (List ℤ)). get_or x c.letter-letter.result c.index-classes-letter.result) c.classes.ensures) [] in
      let fits = test_fits c.args.suite.now c.args.scratch.now c.args.test _ there c.requires.made in
      let line = c.push_step.ensures.pushes.line ∙ ap (λ x. c.loop-step.scratch.line ++ line_text (step_line x c.as_slice-in-loop-step.result.now)) item ∙ ap (λ x. c.loop-step.scratch.line ++ line_text (step_line (get_or c.args.suite.now.classes c.letter-letter.result []) x)) c.as_slice-in-loop-step.ensures.value in
      have_more c.args.suite.now.classes t c.loop-step.step c.letter-letter.result c.expected.result.now c.loop-step.scratch c.keep_end.new.self (c.loop-step.invariant.steps t there) here.is (c.expected.ensures t there)
      (omega (arith, fits, says.0, c.loop-step.invariant.size, c.has_text_room.ensures.ends)) (c.keep_end.ensures.line ∙ line) (omega (arith, ap length c.keep_end.ensures.line, c.push_step.ensures.short))
      (c.keep_end.ensures.ends ∙ ap (λ x. set x (c.loop-step.step + 1) (length c.push_step.new.scratch.line)) c.push_step.ensures.pushes.ends ∙ ap (λ x. set c.loop-step.scratch.ends (c.loop-step.step + 1) (length x)) (sym c.keep_end.ensures.line));
}
