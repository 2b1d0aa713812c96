-- A command without cuts.
use Rattle.std.proofs.Common.{◌≡◌, ℕ, Bool, true, false, List, [], Ok}
use Rattle.test_world.specs.Shelf.{ShelfState}
use Rattle.lin_form.specs.declared.form.Comparison.{Comparison}
use Rattle.lin_form.specs.declared.signature.Signature.{Signature}
use Rattle.command_stages.specs.Stage.{Made}
use Rattle.command_stages.proofs.Stages.{made_is}
use Rattle.class_stages.specs.Cutting.{CutsAt}

pub uncut : (named : Bool) (number : ℕ) (signature : Signature) (cuts : List Comparison) {words : List (List ℕ)} {shelf : ShelfState} → named ≡ false → cuts ≡ [] → Made (CutsAt named number signature) words shelf shelf (Ok cuts)
uncut true number signature cuts e none = absurd cc
uncut false number signature cuts e none = made_is _ none
