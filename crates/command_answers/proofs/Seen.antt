-- A signature that was handed out.
use Rattle.std.proofs.Common.{◌≡◌, ℕ, List, Result, subst}
use Rattle.test_world.specs.Shelf.{ShelfState}
use Rattle.lin_form.specs.declared.signature.Signature.{Signature}
use Rattle.command_stages.specs.declared.stop.Stop.{Stop}
use Rattle.command_stages.specs.Stage.{Made}
use Rattle.run_stages.specs.Stages.{FitsOver}

-- the fit to a signature, as it was seen
pub fit_seen : (name : ℕ) (seen signature other : Signature) {words : List (List ℕ)} {shelf : ShelfState} {o : Result (Unit {0}) Stop} → seen ≡ signature → Made (FitsOver name seen other) words shelf shelf o → Made (FitsOver name signature other) words shelf shelf o
fit_seen name seen signature other {words} {shelf} {o} same made =
    let P : Signature → Type 0 = λ s. Made (FitsOver name s other) words shelf shelf o in
    subst P same made
