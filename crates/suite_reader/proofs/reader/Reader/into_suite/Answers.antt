use Rattle.std.proofs.Common.{ℕ, List, length, refl, sym, subst}
use Rattle.std.specs.List.{All}
use Rattle.lin_form.specs.declared.input.Input.{Input}
use Rattle.lin_form.specs.Signature.{IsInInputRanges}
use Rattle.suite_reading.specs.State.{AreRuled}
use Rattle.suite_reader.proofs.Ending.{vectors_in, tests_ruled}
use Rattle.suite_reader.proofs.reader.Reader.into_suite.Goals as goal

pub into_suite-requires-clause-tests : goal.into_suite-requires-clause-tests
into_suite-requires-clause-tests c =
    subst (λ (x : List (List ℕ)). All (AreRuled (length c.self.inside.classes.items) (length x)) c.self.inside.store.tests) (sym c.from_vec-2.ensures)
    (tests_ruled _ c.args.self c.self.view_is c.requires.kept)

pub into_suite-requires-clause-vectors : goal.into_suite-requires-clause-vectors
into_suite-requires-clause-vectors c =
    subst (λ (x : List Input). All (IsInInputRanges x) c.self.inside.classes.items) (sym c.from_vec.ensures)
    (vectors_in _ c.args.self c.self.inside.inputs.items c.self.view_is refl c.requires.kept)
