-- A shelf in memory whose bad numbers are past.
use Rattle.std.proofs.Common.{◌≡◌, ℕ, ◌<◌, ◌≤◌, Bool, true, false, List, [], ◌∷◌, get_or, refl, sym, ◌∙◌, arith}
use Rattle.std.specs.Prelude.{nat_lt, ◌&&◌}
use Rattle.std.specs.List.{list_all, Contains}
use Rattle.std.specs.Cmp.Derive.{both_true}
use Rattle.std.proofs.lemmas.Bool.Decides.{nat_tests}
use Rattle.std.proofs.lemmas.List.Folds.{list_all_at}
use Rattle.test_world.specs.Count.{raised}
use Rattle.test_world.specs.Memory.{is_past_bad, FailsAfter}

both_still : (a b c d : Bool) → (a ≡ true → c ≡ true) → (b ≡ true → d ≡ true) → (a && b) ≡ true → (c && d) ≡ true
both_still true true c d f g h = both_true (f refl) (g refl)
both_still true false c d f g h = absurd (cc)
both_still false b c d f g h = absurd (cc)

all_still : (p q : ℕ → Bool) (xs : List ℕ) → ((n : ℕ) → p n ≡ true → q n ≡ true) → list_all p xs ≡ true → list_all q xs ≡ true
all_still p q [] f h = refl
all_still p q (x ∷ xs) f h = both_still (p x) (list_all p xs) (q x) (list_all q xs) (f x) (all_still p q xs f) h

below_raised : (calls n : ℕ) → nat_lt n (raised calls) ≡ true → nat_lt n (raised (raised calls)) ≡ true
below_raised calls n h = grind (arith, nat_tests)

pub past_still : (calls : ℕ) (bad : List ℕ) → is_past_bad calls bad ≡ true → is_past_bad (raised calls) bad ≡ true
past_still calls bad = all_still (λ n. nat_lt n (raised calls)) (λ n. nat_lt n (raised (raised calls))) bad (below_raised calls)

not_below_self : (n : ℕ) → nat_lt n n ≡ false
not_below_self n = grind (arith, nat_tests)

pub past_not_bad : (calls : ℕ) (bad : List ℕ) → is_past_bad calls bad ≡ true → FailsAfter calls bad → ⊥
past_not_bad calls bad past (k, within, is) =
    let e : nat_lt (get_or bad k (raised calls)) (raised calls) ≡ false = rw is (not_below_self (raised calls)) in
    let f : is_past_bad calls bad ≡ false = list_all_at (λ n. nat_lt n (raised calls)) bad k (raised calls) within e in absurd (cc)
