use Rattle.std.proofs.Common.{◌∙◌, ap, length, get_or, [], arith, refl}
use Rattle.std.proofs.lemmas.List.{length-map}
use Rattle.std.proofs.lemmas.Option.{slice_get-get_or}
use Rattle.subject.specs.Suite.{in_vectors}
use Rattle.test_subject.specs.Subject.{in_line}
use Rattle.test_subject.proofs.CallerLemmas.{letters_in, class_in, item_at}
use Rattle.verdict_report.proofs.Growing.{part_more, part_fails, in_front, still_made, no_test}
use Rattle.verdict_report.proofs.write.put_inputs.Goals as goal

pub letter-letter-requires : goal.letter-letter-requires
letter-letter-requires g c =
    let t = get_or c.args.suite.now.tests c.args.test no_test in
    let there = slice_get-get_or c.args.suite.now.tests c.args.test no_test c.requires.test in
    let room = letters_in t (length t.letters) c.loop-step.scratch.letters refl (c.loop-step.invariant.letters t there) in
    let few = c.requires.steps t there in
    omega (arith, room, few, c.loop-step-test.true)

pub bounds-classes-letter : goal.bounds-classes-letter
bounds-classes-letter g c =
    let t = get_or c.args.suite.now.tests c.args.test no_test in
    let there = slice_get-get_or c.args.suite.now.tests c.args.test no_test c.requires.test in
    let few = c.requires.steps t there in
    rw (c.classes.ensures) (class_in c.args.suite.now c.suite_keeps_rules.ensures c.args.test t there (length t.letters) c.loop-step.scratch.letters refl (c.loop-step.invariant.letters t there) c.loop-step.step c.letter-letter.result (omega (arith, few, c.loop-step-test.true)) c.letter-letter.ensures)

pub returns-in-Err-clause-puts : goal.returns-in-Err-clause-puts
returns-in-Err-clause-puts g c = λ t there.
    let few = c.requires.steps t there in
    let text = c.line.ensures ∙ c.set_numbers.ensures.line ∙ ap in_line c.as_slice.ensures.value in
    let item = item_at c.args.suite.now c.suite_keeps_rules.ensures c.args.test t there (length t.letters) c.loop-step.scratch.letters refl (c.loop-step.invariant.letters t there) c.loop-step.step c.letter-letter.result (omega (arith, few, c.loop-step-test.true)) c.letter-letter.ensures c.classes.result.now c.index-classes-letter.result c.classes.ensures c.index-classes-letter.is in
    let many = length-map t.letters (λ a. get_or c.args.suite.now.classes a []) in
    let place = in_front (in_vectors c.args.suite.now.classes t.letters) c.args.steps c.loop-step.step c.index-classes-letter.result c.loop-step-test.true (omega (arith, few, many)) item in
    part_fails in_line _ c.loop-step.step c.index-classes-letter.result _ _ _ _ place (c.loop-step.invariant.taken t there) c.loop-step.invariant.later (rw text at c.in-Err.ensures.put)

pub loop-step-preserved : goal.loop-step-preserved
loop-step-preserved g c =
    let later = c.put_all.ensures.put.later in
    let text = c.line.ensures ∙ c.set_numbers.ensures.line ∙ ap in_line c.as_slice.ensures.value in
    record {
      made = still_made c.args.suite.now c.loop-step.scratch c.set_numbers.new.scratch c.loop-step.invariant.made c.set_numbers.ensures.letters c.set_numbers.ensures.room;
      letters = λ t there. rw (c.set_numbers.ensures.letters) (c.loop-step.invariant.letters t there);
      taken = λ t there.
          let few = c.requires.steps t there in
          let item = item_at c.args.suite.now c.suite_keeps_rules.ensures c.args.test t there (length t.letters) c.loop-step.scratch.letters refl (c.loop-step.invariant.letters t there) c.loop-step.step c.letter-letter.result (omega (arith, few, c.loop-step-test.true)) c.letter-letter.ensures c.classes.result.now c.index-classes-letter.result c.classes.ensures c.index-classes-letter.is in
          let many = length-map t.letters (λ a. get_or c.args.suite.now.classes a []) in
          let place = in_front (in_vectors c.args.suite.now.classes t.letters) c.args.steps c.loop-step.step c.index-classes-letter.result c.loop-step-test.true (omega (arith, few, many)) item in
          part_more in_line _ c.loop-step.step c.index-classes-letter.result _ _ _ place (c.loop-step.invariant.taken t there) (rw text at c.in-Ok.ensures.put.put);
      later = omega (arith, c.loop-step.invariant.later, later);
    }
