-- Numbers of keys in a list that has each key once.
use Rattle.std.proofs.Common.{◌≡◌, ℕ, ◌<◌, Bool, true, false, if◌then◌else◌, List, [], ◌∷◌, ◌++◌, length, get_or}
use Rattle.std.proofs.Common.{slice_get, Some, refl, ap, sym, ◌∙◌, ◌⊎◌, inl, inr, All, arith}
use Rattle.std.specs.List.{list_any, position_or_len}
use Rattle.std.proofs.lemmas.Bool.{both_ways, cases_Bool, cond-true, cond-false, false_from_ne_true}
use Rattle.std.proofs.lemmas.List.{get_or_append_left, get_or_push, length_push}
use Rattle.std.proofs.lemmas.List.Folds.{list_any_at}
use Rattle.std.proofs.lemmas.List.Sums.{position_or_len_is}
use Rattle.std.proofs.lemmas.Option.{slice_get-get_or, slice_get_within}
use Rattle.abstract_machine.specs.inside.Exploring.{IsNumbered}

module _ {K : Type 0} where
  pub get-push_left : (keys : List K) (k : K) (n : ℕ) → n < length keys → slice_get (keys ++ k ∷ []) n ≡ slice_get keys n
  get-push_left keys k n h =
      slice_get-get_or (keys ++ k ∷ []) n k (omega (arith, h, length_push keys k)) ∙
      (ap Some (get_or_append_left keys (k ∷ []) k n h) ∙ sym (slice_get-get_or keys n k h))

  pub get-push_last : (keys : List K) (k : K) → slice_get (keys ++ k ∷ []) (length keys) ≡ Some k
  get-push_last keys k =
      slice_get-get_or (keys ++ k ∷ []) (length keys) k (omega (arith, length_push keys k)) ∙ ap Some (get_or_push keys k k (length keys) refl)

  -- what holds of each element by its place
  pub all_by_place : (P : K → Type 0) (keys : List K) → ((i : ℕ) (k : K) → slice_get keys i ≡ Some k → P k) → All P keys
  all_by_place P keys f i d h = f i (get_or keys i d) (slice_get-get_or keys i d h)

  -- a key that was there keeps its place
  pub kept : (old : List K) (key : K) (new : List K) (n : ℕ) → IsNumbered old key new n → (i : ℕ) (k : K) → slice_get old i ≡ Some k → slice_get new i ≡ Some k
  kept old key new n h i k e = elim h.grown as (λ _. slice_get new i ≡ Some k) [
    | inl same ↦ rw (same) e
    | inr more ↦ rw (more.0) (get-push_left old key i (slice_get_within old i k e) ∙ e)
  ]

  -- the first key of all
  pub first_key : (old : List K) (key : K) (new : List K) (n : ℕ) → old ≡ [] → IsNumbered old key new n → new ≡ key ∷ []
  first_key old key new n none h = elim h.grown as (λ _. new ≡ key ∷ []) [
    | inl same ↦ absurd (let inside = slice_get_within new n key h.there in let empty : new ≡ [] = same ∙ none in
        let size : length new ≡ 0 = ap length empty in omega (arith, inside, size))
    | inr more ↦ more.0 ∙ ap (λ l. l ++ key ∷ []) none
  ]

  module _ (eq : K → K → Bool) (same : (x y : K) → eq x y ≡ true → x ≡ y) where
    pub numbered_near : (keys : List K) (key : K) (n : ℕ) → (k : K) × ((slice_get keys n ≡ Some k) × (eq key k ≡ true)) → IsNumbered keys key keys n
    numbered_near keys key n p = record { there = p.1.0 ∙ ap Some (sym (same key p.0 p.1.1)); grown = inl refl }

    absent_at : (keys : List K) (key : K) → list_any (eq key) keys ≡ false → (k : ℕ) → k < length keys → eq key (get_or keys k key) ≡ false
    absent_at keys key none k h =
        false_from_ne_true (eq key (get_or keys k key)) (λ e. both_ways (list_any (eq key) keys) none (list_any_at (eq key) keys k key h e))

    pub numbered_found : (keys : List K) (key : K) (keys' : List K) (n : ℕ) → keys' ≡ (if list_any (eq key) keys then keys else keys ++ key ∷ []) →
        n ≡ position_or_len (eq key) keys → (k : K) × ((slice_get keys' n ≡ Some k) × (eq key k ≡ true)) → IsNumbered keys key keys' n
    numbered_found keys key keys' n grown place p = record {
      there = p.1.0 ∙ ap Some (sym (same key p.0 p.1.1));
      grown = elim (cases_Bool (list_any (eq key) keys)) as (λ _. (keys' ≡ keys) ⊎ ((keys' ≡ keys ++ key ∷ []) × (n ≡ length keys))) [
        | inl there ↦ inl (grown ∙ cond-true (list_any (eq key) keys) keys (keys ++ key ∷ []) there)
        | inr none ↦ inr (
          grown ∙ cond-false (list_any (eq key) keys) keys (keys ++ key ∷ []) none,
          place ∙ position_or_len_is (eq key) keys (length keys) key (omega arith) (absent_at keys key none) (λ h. absurd (omega (arith, h))),
        )
      ];
    }
