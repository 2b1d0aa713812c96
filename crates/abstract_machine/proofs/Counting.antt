-- There is one number of the states that a plan reaches.
use Rattle.std.proofs.Common.{◌≡◌, ◌≢◌, ℕ, ◌<◌, ◌≤◌, ◌⊎◌, List, length, get_or, Contains, AllPairs, sym, ap, ◌∙◌, inl, inr, arith}
use Rattle.std.proofs.lemmas.Bool.{cases_lt, cases_order}
use Rattle.std.proofs.lemmas.List.Elements.{All-get_or, at_from_Contains}
use Rattle.indexmap.proofs.IndexTableLemmas.Probe.{pigeonhole}
use Rattle.input_classes.specs.VectorSet.{VectorSet}
use Rattle.subject.specs.Meaning.{LeadsTo, Meaning}
use Rattle.abstract_machine.specs.Reached.{AreAllReached, ReachesExactly}

module _ {S : Type 0} (xs ys : List S) (d : S) (each : (i : ℕ) → i < length xs → Contains ys (get_or xs i d)) where
  abbrev place_by : (i : ℕ) → ((i < length xs) ⊎ (length xs ≤ i)) → ℕ
  place_by i (inl h) = (at_from_Contains ys (get_or xs i d) (each i h)).0
  place_by i (inr h) = 0

  -- where an element of the one list stands in the other
  abbrev place : ℕ → ℕ
  place i = place_by i (cases_lt i (length xs))

  within_by : (i : ℕ) (o : (i < length xs) ⊎ (length xs ≤ i)) → i < length xs → place_by i o < length ys
  within_by i (inl h) k = (at_from_Contains ys (get_or xs i d) (each i h)).1
  within_by i (inr h) k = absurd (omega (arith, h, k))

  there_by : (i : ℕ) (o : (i < length xs) ⊎ (length xs ≤ i)) → i < length xs → get_or ys (place_by i o) d ≡ get_or xs i d
  there_by i (inl h) k = (at_from_Contains ys (get_or xs i d) (each i h)).2 d
  there_by i (inr h) k = absurd (omega (arith, h, k))

  there : (i : ℕ) → i < length xs → get_or ys (place i) d ≡ get_or xs i d
  there i h = there_by i (cases_lt i (length xs)) h

  one_to_one : AllPairs (λ x y. x ≢ y) xs → (i j : ℕ) → i < length xs → j < length xs → place i ≡ place j → i ≡ j
  one_to_one different i j h k e =
      let same : get_or xs i d ≡ get_or xs j d = sym (there i h) ∙ ap (λ p. get_or ys p d) e ∙ there j k in
      elim (cases_order i j) as (λ _. i ≡ j) [
        | inl is ↦ is
        | inr not ↦ elim not as (λ _. i ≡ j) [ inl b ↦ absurd (different i j d b k same) | inr b ↦ absurd (different j i d b h (sym same)) ]
      ]

  -- different elements of the one that are all in the other are no more
  no_more_than : AllPairs (λ x y. x ≢ y) xs → length xs ≤ length ys
  no_more_than different = pigeonhole (length xs) (length ys) place (λ i h. within_by i (cases_lt i (length xs)) h) (one_to_one different)

module _ {S : Type 0} (s : VectorSet) (m : Meaning S) where
  at_most : (xs ys : List S) → AreAllReached s m xs → AreAllReached s m ys → length xs ≤ length ys
  at_most xs ys these those = no_more_than xs ys m.start
      (λ i h. those.each (get_or xs i m.start) (All-get_or (LeadsTo s m) xs i m.start h these.are_reached.reached))
      these.are_reached.different

  pub one_number : (n k : ℕ) → ReachesExactly n s m → ReachesExactly k s m → n ≡ k
  one_number n k first second =
      let up = at_most first.states second.states first.are_all second.are_all in
      let down = at_most second.states first.states second.are_all first.are_all in
      omega (arith, up, down, first.number, second.number)
