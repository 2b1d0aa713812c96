use Rattle.std.proofs.Common.{◌≡◌, ◌∙◌, sym, length, get_or, [], arith}
use Rattle.std.proofs.lemmas.List.{length-map}
use Rattle.std.proofs.lemmas.Option.{slice_get-get_or}
use Rattle.subject.specs.Suite.{test_case}
use Rattle.test_subject.specs.Exchange.{Reset, steps}
use Rattle.test_subject.proofs.CallerLemmas.{letters_in, as_many, class_in, item_at, item_in}
use Rattle.suite_run.proofs.Running.{stopped_one}
use Rattle.suite_run.proofs.Testing.{keeps_both, no_test, in_plan, step_stops, step_differs, step_agrees, test_ends}
use Rattle.suite_run.proofs.run.run_test.Goals as goal

pub returns-in-Err-clause-tries : goal.returns-in-Err-clause-tries
returns-in-Err-clause-tries g c = λ t there.
    let tc = test_case c.args.suite.now.classes t in
    stopped_one Reset (steps tc.word tc.replies) c.in-Err.ensures.sent

pub letter-letter-requires : goal.letter-letter-requires
letter-letter-requires g c =
    let says = c.requires.held _ (slice_get-get_or c.args.suite.now.tests c.args.test no_test c.requires.test) in
    let room = letters_in (get_or c.args.suite.now.tests c.args.test no_test) c.args.count c.args.scratch.now.letters says.size says.letters in
    omega arith

pub bounds-classes-letter : goal.bounds-classes-letter
bounds-classes-letter g c =
    let there = slice_get-get_or c.args.suite.now.tests c.args.test no_test c.requires.test in
    let says = c.requires.held _ there in
    rw (c.classes.ensures) (class_in c.args.suite.now c.suite_keeps_rules.ensures c.args.test _ there c.args.count c.args.scratch.now.letters says.size says.letters c.loop-step.step c.letter-letter.result c.loop-step-test.true c.letter-letter.ensures)

pub step-requires : goal.step-requires
step-requires g c = λ plan told.
    let there = slice_get-get_or c.args.suite.now.tests c.args.test no_test c.requires.test in
    let says = c.requires.held _ there in
    in_plan c.args.suite.now.signature plan.signature c.index-classes-letter.result (c.requires.fits plan (sym c.loop-step.invariant.keeps.plan ∙ told))
    (item_in c.args.suite.now c.suite_keeps_rules.ensures c.args.test _ there c.args.count c.args.scratch.now.letters says.size says.letters c.loop-step.step c.letter-letter.result c.loop-step-test.true c.letter-letter.ensures c.classes.result.now c.index-classes-letter.result c.classes.ensures c.index-classes-letter.is)

pub returns-in-Err-step-clause-tries : goal.returns-in-Err-step-clause-tries
returns-in-Err-step-clause-tries g c = λ t there.
    let says = c.requires.held t there in
    let size : c.args.count ≡ length t.letters = says.size in
    let many = as_many c.args.suite.now c.suite_keeps_rules.ensures c.args.test t there in
    let word = item_at c.args.suite.now c.suite_keeps_rules.ensures c.args.test t there c.args.count c.args.scratch.now.letters says.size says.letters c.loop-step.step c.letter-letter.result c.loop-step-test.true c.letter-letter.ensures c.classes.result.now c.index-classes-letter.result c.classes.ensures c.index-classes-letter.is in
    step_stops (g.S.Subject.state c.args.subject.now) (g.S.Subject.state c.loop-step.subject) (test_case c.args.suite.now.classes t) c.loop-step.step c.index-classes-letter.result _ (c.loop-step.invariant.at t there) word
    (slice_get-get_or t.replies c.loop-step.step [] (omega (arith, many, c.loop-step-test.true))) c.loop-step.invariant.keeps (g.S.Subject.state c.step.new.self) c.in-Err-step.ensures.sent

pub returns-then-differ-clause-tries : goal.returns-then-differ-clause-tries
returns-then-differ-clause-tries g c = λ t there.
    let says = c.requires.held t there in
    let word = item_at c.args.suite.now c.suite_keeps_rules.ensures c.args.test t there c.args.count c.args.scratch.now.letters says.size says.letters c.loop-step.step c.letter-letter.result c.loop-step-test.true c.letter-letter.ensures c.classes.result.now c.index-classes-letter.result c.classes.ensures c.index-classes-letter.is in
    let done = c.in-Ok-step.ensures in
    step_differs (g.S.Subject.state c.args.subject.now) (g.S.Subject.state c.loop-step.subject) (test_case c.args.suite.now.classes t) c.loop-step.step c.index-classes-letter.result _ (c.loop-step.invariant.at t there) word
    (sym (says.replies c.loop-step.step c.loop-step-test.true) ∙ c.expected.ensures) c.loop-step.invariant.keeps (g.S.Subject.state c.step.new.self) _ done.moves done.coming done.sent c.if-differ.ensures

pub loop-step-preserved : goal.loop-step-preserved
loop-step-preserved g c =
    let done = c.in-Ok-step.ensures in
    record {
      keeps = keeps_both c.loop-step.invariant.keeps done.keeps;
      follows = g.met.S.Subject.follows_along _ _ _ c.loop-step.invariant.follows done.follows;
      at = λ t there.
          let says = c.requires.held t there in
          let word = item_at c.args.suite.now c.suite_keeps_rules.ensures c.args.test t there c.args.count c.args.scratch.now.letters says.size says.letters c.loop-step.step c.letter-letter.result c.loop-step-test.true c.letter-letter.ensures c.classes.result.now c.index-classes-letter.result c.classes.ensures c.index-classes-letter.is in
          step_agrees (g.S.Subject.state c.args.subject.now) (g.S.Subject.state c.loop-step.subject) (test_case c.args.suite.now.classes t) c.loop-step.step c.index-classes-letter.result _ (c.loop-step.invariant.at t there) word
          (sym (says.replies c.loop-step.step c.loop-step-test.true) ∙ c.expected.ensures) c.loop-step.invariant.keeps (g.S.Subject.state c.step.new.self) _ done.moves done.coming done.sent c.if-differ.ensures;
    }

pub returns-clause-tries : goal.returns-clause-tries
returns-clause-tries g c = λ t there.
    let says = c.requires.held t there in
    let size : c.args.count ≡ length t.letters = says.size in
    let many = as_many c.args.suite.now c.suite_keeps_rules.ensures c.args.test t there in
    let word = length-map t.letters (λ a. get_or c.args.suite.now.classes a []) in
    test_ends (g.S.Subject.state c.args.subject.now) (g.S.Subject.state c.loop-step.subject) (test_case c.args.suite.now.classes t) c.loop-step.step (c.loop-step.invariant.at t there)
    (omega (arith, word, c.loop-step-test.false)) (word ∙ sym many) c.loop-step.invariant.keeps (g.met.S.Subject.one_each c.loop-step.subject)

pub expected-requires : goal.expected-requires
expected-requires g c =
    let says = c.requires.held _ (slice_get-get_or c.args.suite.now.tests c.args.test no_test c.requires.test) in
    let room = letters_in (get_or c.args.suite.now.tests c.args.test no_test) c.args.count c.args.scratch.now.letters says.size says.letters in
    omega arith
