-- Words of letters and the words of vectors that they stand for, and the states that are reached.
use Rattle.std.proofs.Common.{◌≡◌, ◌≢◌, ℕ, ◌<◌, ◌≤◌, ℤ, Bool, true, List, [], ◌∷◌, ◌++◌, length, get_or}
use Rattle.std.proofs.Common.{slice_get, Contains, Some, refl, ap, sym, subst, ◌∙◌, inl, inr, All, AllPairs, arith}
use Rattle.std.specs.Bool.{Decides}
use Rattle.std.specs.Cmp.{IsEquivalence}
use Rattle.std.specs.List.{IsDistinct}
use Rattle.std.proofs.lemmas.Bool.{cases_order}
use Rattle.std.proofs.lemmas.List.{get_or_default, map-append}
use Rattle.std.proofs.lemmas.List.Elements.{All-contains, All-cons, All-head, All-map, All-nil, All-tail, All-weaker, Contains-get_or}
use Rattle.std.proofs.lemmas.Map.Made.{AllPairs-from_IsDistinct, IsDistinct-from_AllPairs, is_member-Decides, length-le_from_is_member}
use Rattle.std.proofs.lemmas.Option.{get_or_from_slice_get, slice_get_within}
use Rattle.input_classes.specs.VectorSet.{IsWordOf, Members, Word, box_of}
use Rattle.lin_form.specs.Atom.{IsAsSaid}
use Rattle.lin_form.specs.Signature.{IsInInputRanges}
use Rattle.subject.specs.Meaning.{IsReached, LeadsTo, Meaning, state_after}
use Rattle.subject.proofs.CallerLemmas.{reached_more, state_after-append}
use Rattle.abstract_machine.specs.Reached.{AreAllReached, AreReached, ReachesMore}
use Rattle.subject.specs.Suite.{in_vectors}
use Rattle.abstract_machine.specs.inside.Exploring.{state_of}

abbrev pub AreBelow : ℕ → List ℕ → Type 0
AreBelow n w = All (λ b. b < n) w

pub contains_at : {X : Type 0} (xs : List X) (k : ℕ) (x : X) → slice_get xs k ≡ Some x → Contains xs x
contains_at xs k x h = subst (Contains xs) (get_or_from_slice_get xs k x x h) (Contains-get_or xs k x (slice_get_within xs k x h))

-- two places of one element of a list without doubles are one
pub same_place : {X : Type 0} (xs : List X) → AllPairs (λ x y. x ≢ y) xs → (i j : ℕ) (x : X) → slice_get xs i ≡ Some x → slice_get xs j ≡ Some x → i ≡ j
same_place xs different i j x h k =
    let hi = slice_get_within xs i x h in
    let hj = slice_get_within xs j x k in
    let both = get_or_from_slice_get xs i x x h ∙ sym (get_or_from_slice_get xs j x x k) in
    elim (cases_order i j) as (λ _. i ≡ j) [
      | inl e ↦ e
      | inr d ↦ elim d as (λ _. i ≡ j) [ inl b ↦ absurd (different i j x b hj both) | inr b ↦ absurd (different j i x b hi (sym both)) ]
    ]

module _ (classes : List (List ℤ)) where
  pub vectors-members : (w : List ℕ) → AreBelow (length classes) w → IsWordOf (Members classes) (in_vectors classes w)
  vectors-members w h = All-map (Contains classes) (λ a. get_or classes a []) w (All-weaker (λ b. b < length classes)
      (λ a. Contains classes (get_or classes a []))
      (λ a k. Contains-get_or classes a [] k) w h)

  -- a word of the vectors is that of some letters
  pub letters_of : (w : Word) → IsWordOf (Members classes) w → (ls : List ℕ) × (AreBelow (length classes) ls × (in_vectors classes ls ≡ w))
  letters_of [] h = ([], (All-nil (λ b. b < length classes), refl))
  letters_of (x ∷ w) h =
      let first = All-head (Contains classes) x w h in
      let rest = letters_of w (All-tail (Contains classes) x w h) in
      let is : get_or classes first.0 [] ≡ x = get_or_default classes first.0 [] x first.1 ∙ first.2 in
      (first.0 ∷ rest.0, (All-cons (λ b. b < length classes) first.0 rest.0 first.1 rest.1.0, λ i. is i ∷ rest.1.1 i))

  module _ {S : Type 0} (m : Meaning S) where
    pub state-push : (w : List ℕ) (b : ℕ) → state_of classes m (w ++ b ∷ []) ≡ m.next (state_of classes m w) (get_or classes b [])
    state-push w b = ap (state_after m m.start) (map-append (λ a. get_or classes a []) w (b ∷ [])) ∙
        state_after-append m m.start (in_vectors classes w) (get_or classes b [] ∷ [])

    pub leads_there : (w : List ℕ) (t : S) → AreBelow (length classes) w → state_of classes m w ≡ t → LeadsTo (Members classes) m t
    leads_there w t h e = record { word = in_vectors classes w; is_word = vectors-members w h; leads = e }

    -- the vectors lie in the ranges of the inputs, so the state is reached
    pub reached : All (IsInInputRanges m.signature.inputs) classes → (w : List ℕ) (t : S) →
        AreBelow (length classes) w → state_of classes m w ≡ t → IsReached m t
    reached ranges w t h e = reached_more (Members classes) m (box_of m.signature []) t
        (λ x k. record {
          inside = All-contains (IsInInputRanges m.signature.inputs) classes x ranges k;
          said =
              All-nil (λ literal. IsAsSaid literal x);
        }) ∣ leads_there w t h e ∣₁

    module _ (eq : S → S → Bool) (laws : IsEquivalence eq) (same : (x y : S) → eq x y ≡ true → x ≡ y) where
      decides : (x y : S) → Decides (eq x y) (x ≡ y)
      decides x y = (same x y, λ e. subst (λ z. eq x z ≡ true) e (laws.refl x))

      pub are_reached : (states : List S) → All (LeadsTo (Members classes) m) states → IsDistinct eq states → AreReached (Members classes) m states
      are_reached states all once = record { reached = all; different = AllPairs-from_IsDistinct decides states once }

      -- no more are reached than those in a list that has all of them
      pub no_more : (states : List S) → AreAllReached (Members classes) m states → (n : ℕ) → length states ≤ n → ReachesMore n (Members classes) m → ⊥
      no_more states all n few h =
          let most = length-le_from_is_member laws h.states states (IsDistinct-from_AllPairs decides h.states h.are_reached.different) (λ q k.
          (is_member-Decides decides states q).1 (all.each q (All-contains (LeadsTo (Members classes) m) h.states q
          h.are_reached.reached ((is_member-Decides decides h.states q).0 k)))) in
          omega (arith, most, few, h.more)
