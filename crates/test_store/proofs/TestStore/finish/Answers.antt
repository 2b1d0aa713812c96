use Rattle.std.proofs.Common.{◌<◌, length, sym, subst}
use Rattle.test_store.specs.Store.{Store}
use Rattle.test_store.proofs.Entering.{finished, letters_finished}
use Rattle.test_store.proofs.TestStore.finish.Goals as goal

pub invariant_of-self : goal.invariant_of-self
invariant_of-self c = (
  finished _ _ _ _ _ _ c.self.invariant.0 c.in-Ok.ensures.items c.root-self-inside.ensures.first,
  letters_finished _ _ _ _ c.self.invariant.1 c.in-Ok.ensures.items (subst (λ (s : Store). 0 < length s.now.letters) (sym c.self.view_is) c.requires.some),
)
