use Rattle.std.proofs.Common.{◌≡◌, ◌≤◌, ◌∙◌, ap, sym, length, slice_get, Some}
use Rattle.std.proofs.lemmas.Option.{same_Some}
use Rattle.word_pool.specs.Words.{word}
use Rattle.subject.specs.Suite.{SuiteParts, Test}
use Rattle.suite_model.specs.Pooled.{pooled_test}
use Rattle.suite_model.proofs.Reading.{test_here, fits, still_made}
use Rattle.suite_model.proofs.Putting.{has_test}
use Rattle.suite_model.proofs.suite.Suite.put_test.Goals as goal

pub put_steps-requires-clause-room : goal.put_steps-requires-clause-room
put_steps-requires-clause-room c =
    let here = test_here c.self.inside.pool.words c.self.inside.replies c.self.inside.tests.items c.args.self.now.tests c.args.test c.index-id.result.now (ap (λ (p : SuiteParts). p.tests) c.self.view_is) c.requires.test c.index-id.ensures in
    fits (λ (t : Test). length t.letters ≤ length c.args.scratch.now.letters) c.args.self.now.tests c.args.test _ here c.requires.made.tests

here : (c : goal.After-put_steps) → slice_get c.args.self.now.tests c.args.test ≡ Some (pooled_test c.self.inside.pool.words c.self.inside.replies (word c.self.inside.pool.words c.index-id.result.now))
here c = test_here c.self.inside.pool.words c.self.inside.replies c.self.inside.tests.items c.args.self.now.tests c.args.test c.index-id.result.now (ap (λ (p : SuiteParts). p.tests) c.self.view_is) c.requires.test c.index-id.ensures

pub returns-clause-test : goal.returns-clause-test
returns-clause-test c = λ t e.
    has_test c.self.inside.pool.words c.self.inside.replies t (word c.self.inside.pool.words c.index-id.result.now) _ _ _ (same_Some _ _ (sym (here c) ∙ e))
    c.put_steps.ensures.count c.put_steps.ensures.letters c.put_steps.ensures.replies

pub returns-clause-still_made : goal.returns-clause-still_made
returns-clause-still_made c =
    still_made c.args.self.now c.args.scratch.now c.put_steps.new.self (word c.self.inside.pool.words c.index-id.result.now) c.requires.made
    (fits (λ (t : Test). length t.letters ≤ length c.args.scratch.now.letters) c.args.self.now.tests c.args.test _ (here c) c.requires.made.tests) c.put_steps.ensures.letters c.put_steps.ensures.kept_room
