-- The lexicographic order: it is strict and total, and a common front may be dropped.
use Rattle.std.proofs.Common.{◌≡◌, ℕ, ◌<◌, ◌⊎◌, List, [], ◌∷◌, ◌++◌, refl, ap, sym, ◌∙◌, inl, inr, arith}
use Rattle.std.proofs.lemmas.Bool.{cases_order}
use Rattle.word_pool.specs.Order.{IsBelow}

pub below_longer : (u : List ℕ) (a : ℕ) (v : List ℕ) → IsBelow u (u ++ a ∷ v)
below_longer [] a v = tt
below_longer (x ∷ u) a v = inr (refl, below_longer u a v)

pub below_apart : (f : List ℕ) (a : ℕ) (u : List ℕ) (b : ℕ) (w : List ℕ) → a < b → IsBelow (f ++ a ∷ u) (f ++ b ∷ w)
below_apart [] a u b w h = inl h
below_apart (x ∷ f) a u b w h = inr (refl, below_apart f a u b w h)

pub below_rest : (f u w : List ℕ) → IsBelow (f ++ u) (f ++ w) → IsBelow u w
below_rest [] u w h = h
below_rest (x ∷ f) u w (inl h) = absurd (omega (arith, h))
below_rest (x ∷ f) u w (inr h) = below_rest f u w h.1

pub below_itself : (u : List ℕ) → IsBelow u u → ⊥
below_itself [] h = h
below_itself (x ∷ u) (inl h) = omega (arith, h)
below_itself (x ∷ u) (inr h) = below_itself u h.1

-- no word stands before its own prefix
pub below_prefix : (u v : List ℕ) → IsBelow (u ++ v) u → ⊥
below_prefix [] v h = h
below_prefix (x ∷ u) v (inl h) = omega (arith, h)
below_prefix (x ∷ u) v (inr h) = below_prefix u v h.1

pub below_trans : (u v w : List ℕ) → IsBelow u v → IsBelow v w → IsBelow u w
below_trans u v [] h k = k
below_trans u [] (z ∷ w) h k = absurd h
below_trans [] (y ∷ v) (z ∷ w) h k = tt
below_trans (x ∷ u) (y ∷ v) (z ∷ w) (inl h) (inl k) = inl (omega (arith, h, k))
below_trans (x ∷ u) (y ∷ v) (z ∷ w) (inl h) (inr k) = inl (omega (arith, h, k.0))
below_trans (x ∷ u) (y ∷ v) (z ∷ w) (inr h) (inl k) = inl (omega (arith, h.0, k))
below_trans (x ∷ u) (y ∷ v) (z ∷ w) (inr h) (inr k) = inr (h.0 ∙ k.0, below_trans u v w h.1 k.1)

cases_below_at : (x : ℕ) (u : List ℕ) (y : ℕ) (w : List ℕ) → (x ≡ y) ⊎ ((x < y) ⊎ (y < x)) → (u ≡ w) ⊎ (IsBelow u w ⊎ IsBelow w u) →
    (x ∷ u ≡ y ∷ w) ⊎ (IsBelow (x ∷ u) (y ∷ w) ⊎ IsBelow (y ∷ w) (x ∷ u))
cases_below_at x u y w (inl e) (inl h) = inl cc
cases_below_at x u y w (inl e) (inr (inl h)) = inr (inl (inr (e, h)))
cases_below_at x u y w (inl e) (inr (inr h)) = inr (inr (inr (sym e, h)))
cases_below_at x u y w (inr (inl h)) k = inr (inl (inl h))
cases_below_at x u y w (inr (inr h)) k = inr (inr (inl h))

pub cases_below : (u w : List ℕ) → (u ≡ w) ⊎ (IsBelow u w ⊎ IsBelow w u)
cases_below [] [] = inl refl
cases_below [] (y ∷ w) = inr (inl tt)
cases_below (x ∷ u) [] = inr (inr tt)
cases_below (x ∷ u) (y ∷ w) = cases_below_at x u y w (cases_order x y) (cases_below u w)

-- how a word lies to a word `x`: it goes on from `x`, or `x` goes on from it, or a letter tells them apart
pub data Compared (x w : List ℕ) : Type 0 where
  within : (v : List ℕ) → w ≡ x ++ v → Compared x w
  beyond : (a : ℕ) (v : List ℕ) → x ≡ w ++ a ∷ v → Compared x w
  apart : (f : List ℕ) (a : ℕ) (u : List ℕ) (b : ℕ) (v : List ℕ) → x ≡ f ++ a ∷ u → w ≡ f ++ b ∷ v → (a < b) ⊎ (b < a) → Compared x w

compared_more : (a : ℕ) (x w : List ℕ) → Compared x w → Compared (a ∷ x) (a ∷ w)
compared_more c x w (within v e) = within v (ap (λ t. c ∷ t) e)
compared_more c x w (beyond a v e) = beyond a v (ap (λ t. c ∷ t) e)
compared_more c x w (apart f a u b v e d h) = apart (c ∷ f) a u b v (ap (λ t. c ∷ t) e) (ap (λ t. c ∷ t) d) h

compared_at : (a : ℕ) (x : List ℕ) (b : ℕ) (w : List ℕ) → (a ≡ b) ⊎ ((a < b) ⊎ (b < a)) → Compared x w → Compared (a ∷ x) (b ∷ w)
compared_at a x b w (inl e) c = rw (← e) (compared_more a x w c)
compared_at a x b w (inr h) c = apart [] a x b w refl refl h

pub compared : (x w : List ℕ) → Compared x w
compared [] w = within w refl
compared (a ∷ x) [] = beyond a x refl
compared (a ∷ x) (b ∷ w) = compared_at a x b w (cases_order a b) (compared x w)
