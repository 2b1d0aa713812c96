-- What is put into a scratch fits into it.
use Rattle.std.proofs.Common.{◌≡◌, ℕ, ◌<◌, ◌≤◌, List, length, get_or, Some, slice_get, arith}
use Rattle.std.specs.List.{All}
use Rattle.std.proofs.lemmas.List.Elements.{All-get_or}
use Rattle.std.proofs.lemmas.Option.{slice_get-get_or}

pub fits : {X : Type 0} (size : X → ℕ) (xs : List X) (none : X) (most index count : ℕ) → All (λ x. size x ≤ most) xs → index < length xs →
    ((x : X) → slice_get xs index ≡ Some x → count ≡ size x) → count ≤ most
fits size xs none most index count all inside is =
    omega (arith, All-get_or (λ x. size x ≤ most) xs index none inside all, is (get_or xs index none) (slice_get-get_or xs index none inside))
