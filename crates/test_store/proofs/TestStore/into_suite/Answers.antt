use Rattle.std.proofs.Common.{◌∙◌, ◌<◌, ap, sym, subst, length, arith}
use Rattle.std.specs.List.{All}
use Rattle.std.proofs.lemmas.List.{length-map}
use Rattle.word_pool.specs.Words.{word}
use Rattle.subject.specs.Suite.{Test}
use Rattle.suite_model.specs.Pooled.{lists, pooled_test}
use Rattle.test_store.specs.Store.{Store}
use Rattle.suite_reading.specs.State.{AreRuled}
use Rattle.test_store.proofs.Entering.{parts_of}
use Rattle.test_store.proofs.TestStore.into_suite.Goals as goal

pub from_pool-requires : goal.from_pool-requires
from_pool-requires c =
    let some : 0 < length c.self.inside.ids.items = omega (arith, c.requires.some, ap (λ (s : Store). length s.tests) c.self.view_is, length-map c.self.inside.ids.items (λ i. pooled_test c.self.inside.pool.words c.self.inside.replies.items (word c.self.inside.pool.words i))) in
    parts_of c.args.signature c.args.classes.items (lists c.args.cover.items) (lists c.args.marks.items) c.self.inside.pool.words c.self.inside.replies.items c.self.inside.ids.items c.self.inside.at
    c.self.invariant.0 c.self.invariant.1 (ap (λ (s : Store). s.now.letters) c.self.view_is ∙ ap (λ (t : Test). t.letters) c.requires.now) some
    (subst (λ (s : Store). All (AreRuled (length c.args.classes.items) (length c.args.signature.outputs)) s.tests) (sym c.self.view_is) c.requires.tests)
    c.requires.vectors c.requires.cover c.requires.marks
