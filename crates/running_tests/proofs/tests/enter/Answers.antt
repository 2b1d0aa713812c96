use Rattle.std.proofs.Common.{List, ◌∷◌, ◌++◌, [], sym, subst, ap, ◌∙◌}
use Rattle.std.specs.List.{All}
use Rattle.std.proofs.lemmas.List.Elements.{All-push}
use Rattle.subject.specs.Suite.{Test}
use Rattle.suite_reading.specs.State.{AreRuled}
use Rattle.running_tests.proofs.tests.enter.Goals as goal

pub returns-clause-tests : goal.returns-clause-tests
returns-clause-tests g c =
    let P : Test → Type 0 = AreRuled 3 1 in
    let made = c.finish.ensures.tests ∙ ap (λ (l : List Test). l ++ c.loop-step.store.now ∷ []) c.loop-step.invariant.tests in
    subst (All P) (sym made) (All-push P c.args.store.now.tests c.loop-step.store.now c.requires.tests c.loop-step.invariant.ruled)
