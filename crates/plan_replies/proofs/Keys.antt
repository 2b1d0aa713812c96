-- Numbers of keys in a list that has each key once.
use Rattle.std.proofs.Common.{◌≡◌, ℕ, ◌<◌, ◌≤◌, Bool, true, if◌then◌else◌, List, [], ◌∷◌, ◌++◌, length, slice_get, Some, ap, sym, ◌∙◌, ◌⊎◌, inl, inr, arith}
use Rattle.std.specs.List.{list_any}
use Rattle.std.proofs.lemmas.Bool.{cases_Bool, cases_lt, cond-true, cond-false}
use Rattle.std.proofs.lemmas.List.{get_or_append_left, get_or_push, length_push}
use Rattle.std.proofs.lemmas.Option.{slice_get-get_or, slice_get_within, get_or_from_slice_get}
use Rattle.plan_replies.specs.inside.Steps.{IsNumbered, Stays}

module _ {X : Type 0} where
  pub got_left : (xs : List X) (y x : X) (k : ℕ) → slice_get xs k ≡ Some x → slice_get (xs ++ y ∷ []) k ≡ Some x
  got_left xs y x k e =
      let inside : k < length xs = slice_get_within xs k x e in
      slice_get-get_or (xs ++ y ∷ []) k x (omega (arith, inside, length_push xs y)) ∙ ap Some (get_or_append_left xs (y ∷ []) x k inside ∙ get_or_from_slice_get xs k x x e)

  pub got_last : (xs : List X) (y : X) (k : ℕ) → length xs ≡ k → slice_get (xs ++ y ∷ []) k ≡ Some y
  got_last xs y k e = slice_get-get_or (xs ++ y ∷ []) k y (omega (arith, e, length_push xs y)) ∙ ap Some (get_or_push xs y y k e)

  pub pushed_only : (xs : List X) (y x : X) (k : ℕ) → slice_get (xs ++ y ∷ []) k ≡ Some x → (slice_get xs k ≡ Some x) ⊎ (x ≡ y)
  pushed_only xs y x k e = by_case (cases_lt k (length xs))
    where
      by_case : (k < length xs) ⊎ (length xs ≤ k) → (slice_get xs k ≡ Some x) ⊎ (x ≡ y)
      by_case (inl l) =
          let old = slice_get-get_or xs k x l in
          inl (old ∙ ap Some (sym (get_or_from_slice_get (xs ++ y ∷ []) k _ x (got_left xs y _ k old)) ∙ get_or_from_slice_get (xs ++ y ∷ []) k x x e))
      by_case (inr g) =
          let inside : k < length (xs ++ y ∷ []) = slice_get_within (xs ++ y ∷ []) k x e in
          let last = got_last xs y k (omega (arith, g, inside, length_push xs y)) in
          inr (sym (get_or_from_slice_get (xs ++ y ∷ []) k x x e) ∙ get_or_from_slice_get (xs ++ y ∷ []) k y x last)

  pub stays_push : (xs : List X) (y : X) → Stays xs (xs ++ y ∷ [])
  stays_push xs y k x e = got_left xs y x k e

  pub stays_itself : (xs : List X) → Stays xs xs
  stays_itself xs k x e = e

-- a key was put in where it was not there
pub numbered : {K : Type 0} (eq : K → K → Bool) (same : (x y : K) → eq x y ≡ true → x ≡ y) (keys : List K) (key : K) (keys' : List K) (n : ℕ) →
    keys' ≡ (if list_any (eq key) keys then keys else keys ++ key ∷ []) → (k : K) × ((slice_get keys' n ≡ Some k) × (eq key k ≡ true)) → IsNumbered keys key keys' n
numbered eq same keys key keys' n grown p = elim (cases_Bool (list_any (eq key) keys)) as (λ _. IsNumbered keys key keys' n) [
  | inl there ↦
      let is : keys' ≡ keys = grown ∙ cond-true (list_any (eq key) keys) keys (keys ++ key ∷ []) there in
      record { there = found; stays = λ i k e. rw (is) e; only = λ i k e. inl (ap (λ l. slice_get l i) (sym is) ∙ e); few = omega (arith, ap length is) }
  | inr none ↦
      let is : keys' ≡ keys ++ key ∷ [] = grown ∙ cond-false (list_any (eq key) keys) keys (keys ++ key ∷ []) none in
      record { there = found; stays = λ i k e. rw (is) (got_left keys key k i e); only = λ i k e. pushed_only keys key k i (ap (λ l. slice_get l i) (sym is) ∙ e); few = omega (arith, ap length is, length_push keys key) }
]
  where
    found : slice_get keys' n ≡ Some key
    found = p.1.0 ∙ ap Some (sym (same key p.0 p.1.1))
