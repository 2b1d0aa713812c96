use Rattle.std.proofs.Common.{◌∙◌, ap, sym, length, map, take, get_or, [], arith, refl}
use Rattle.std.proofs.lemmas.List.{length-map, length-take-le, take_all}
use Rattle.std.proofs.lemmas.Option.{slice_get-get_or}
use Rattle.serde_json.specs.Data.{array}
use Rattle.serde_json.specs.View.{items_of}
use Rattle.subject.specs.Suite.{in_vectors}
use Rattle.test_subject.proofs.CallerLemmas.{letters_in, class_in, item_at}
use Rattle.verdict_report.specs.inside.Members.{numbers_data}
use Rattle.verdict_report.proofs.Growing.{in_front, no_test}
use Rattle.verdict_report.proofs.Objects.{values_more}
use Rattle.verdict_report.proofs.json.inputs.Goals as goal

pub letter-letter-requires : goal.letter-letter-requires
letter-letter-requires c =
    let t = get_or c.args.suite.now.tests c.args.test no_test in
    let there = slice_get-get_or c.args.suite.now.tests c.args.test no_test c.requires.test in
    let room = letters_in t (length t.letters) c.test_letters-count.new.scratch.letters refl (c.loop-step.invariant.letters t there) in
    let few = c.requires.steps t there in
    omega (arith, room, few, c.loop-step-test.true)

pub bounds-classes-letter : goal.bounds-classes-letter
bounds-classes-letter c =
    let t = get_or c.args.suite.now.tests c.args.test no_test in
    let there = slice_get-get_or c.args.suite.now.tests c.args.test no_test c.requires.test in
    let few = c.requires.steps t there in
    rw (c.classes.ensures) (class_in c.args.suite.now c.suite_keeps_rules.ensures c.args.test t there (length t.letters) c.test_letters-count.new.scratch.letters refl (c.loop-step.invariant.letters t there) c.loop-step.step c.letter-letter.result (omega (arith, few, c.loop-step-test.true)) c.letter-letter.ensures)

pub loop-step-preserved : goal.loop-step-preserved
loop-step-preserved c = record {
  letters = c.loop-step.invariant.letters;
  values = λ t there.
      let few = c.requires.steps t there in
      let item = item_at c.args.suite.now c.suite_keeps_rules.ensures c.args.test t there (length t.letters) c.test_letters-count.new.scratch.letters refl (c.loop-step.invariant.letters t there) c.loop-step.step c.letter-letter.result (omega (arith, few, c.loop-step-test.true)) c.letter-letter.ensures c.classes.result.now c.index-classes-letter.result c.classes.ensures c.index-classes-letter.is in
      let many = length-map t.letters (λ a. get_or c.args.suite.now.classes a []) in
      let place = in_front (in_vectors c.args.suite.now.classes t.letters) c.args.steps c.loop-step.step c.index-classes-letter.result c.loop-step-test.true (omega (arith, few, many)) item in
      values_more numbers_data _ c.loop-step.step c.index-classes-letter.result _ c.in_ok-numbers.field-0 _ place (c.loop-step.invariant.values t there) (c.in_ok-numbers.ensures ∙ ap numbers_data c.as_slice.ensures.value) c.in_ok-push.ensures.items;
}

pub returns : goal.returns
returns c = λ t there.
    let few = c.requires.steps t there in
    let many = length-map t.letters (λ a. get_or c.args.suite.now.classes a []) in
    let words = in_vectors c.args.suite.now.classes t.letters in
    let size = length-take-le c.args.steps words (omega (arith, few, many)) in
    let all = take_all c.loop-step.step (take c.args.steps words) (omega (arith, size, c.loop-step-test.false)) in
    c.from.ensures ∙ ap (λ ds. array (items_of ds)) (c.loop-step.invariant.values t there ∙ ap (map numbers_data) all)
