-- The replies to a word's prefixes, put from the longest prefix on.
use Rattle.std.proofs.Common.{◌≡◌, ℕ, ◌+◌, ◌-◌, ◌<◌, ◌≤◌, ℤ, List, [], ◌++◌, length, take, set, get_or, Some, slice_get, sym, ap, ◌∙◌, subst, arith, inl, inr}
use Rattle.std.proofs.lemmas.Bool.{cases_eq, cases_lt}
use Rattle.std.proofs.lemmas.List.{get_or-set_same, get_or-set_other, length-take-le, take_all, take_at, take-take}
use Rattle.std.proofs.lemmas.Option.{slice_get_within, slice_get-get_or, get_or_from_slice_get}
use Rattle.word_pool.specs.Words.{word, ArePooled}
use Rattle.subject.specs.Suite.{Test}
use Rattle.suite_model.specs.Pooled.{replies_from, pooled_test}
use Rattle.suite_model.specs.Scratch.{Place, HasTest}
use Rattle.suite_model.proofs.Words.{length-replies_from}
use Rattle.suite_model.proofs.Reading.{reply_read, number_some}

-- the whole word is the first prefix
pub whole_word : (words : List (List ℕ)) (id count : ℕ) → id < length words → count ≡ length (word words id) → slice_get words id ≡ Some (take count (word words id))
whole_word words id count inside size = slice_get-get_or words id [] inside ∙ ap (λ (u : List ℕ). Some u) (sym (take_all count (word words id) (omega (arith, size))))

-- a prefix with letters, at its number
module _ (words : List (List ℕ)) (rs : List (List ℤ)) (pooled : ArePooled words) (one_each : length words ≡ length rs + 1) (w : List ℕ) (place at : ℕ) (some : 0 < place) (within : place ≤ length w) (here : slice_get words at ≡ Some (take place w)) where
  pub at_inside : at < length words
  at_inside = slice_get_within words at (take place w) here

  there : slice_get words at ≡ Some (take (place - 1 + 1) w)
  there = here ∙ ap (λ k. Some (take k w)) (let e : place ≡ place - 1 + 1 = omega (arith, some) in e)

  pub at_some : 0 < at
  at_some = number_some words pooled w (place - 1) at (omega (arith, some, within)) there

  pub at_below : at - 1 < length rs
  at_below = let low = at_some in let high = at_inside in omega (arith, low, high, one_each)

  pub at_length : length (word words at) ≡ place
  at_length = ap length (get_or_from_slice_get words at (take place w) [] here) ∙ length-take-le place w within

  -- its longest proper prefix
  pub prefix_there : (n : ℕ) → slice_get words n ≡ Some (take (place - 1) (word words at)) → slice_get words n ≡ Some (take (place - 1) w)
  prefix_there n e = e ∙ ap (λ (u : List ℕ). Some (take (place - 1) u)) (get_or_from_slice_get words at (take place w) [] here) ∙ ap (λ (u : List ℕ). Some u) (take-take (place - 1) place w (omega arith))

  -- its reply is put
  pub reply_put : (into : List (List ℤ)) (number : ℕ) (r : List ℤ) → number ≡ at → r ≡ get_or rs (number - 1) r → length w ≤ length into
      → ((k : ℕ) → place ≤ k → k < length w → get_or into k [] ≡ get_or (replies_from words rs [] w) k [])
      → (k : ℕ) → place - 1 ≤ k → k < length w → get_or (set into (place - 1) r) k [] ≡ get_or (replies_from words rs [] w) k []
  reply_put into number r is read room put k from below = elim (cases_eq k (place - 1)) as (λ _. get_or (set into (place - 1) r) k [] ≡ get_or (replies_from words rs [] w) k []) [
    | inl same ↦
        ap (λ n. get_or (set into (place - 1) r) n []) same ∙ get_or-set_same into (place - 1) r [] (omega (arith, some, within, room))
        ∙ sym (get_or_from_slice_get (replies_from words rs [] w) (place - 1) r [] (reply_read words rs pooled w (place - 1) at r (omega (arith, some, within)) at_inside there at_below (subst (λ n. r ≡ get_or rs (n - 1) r) is read)))
        ∙ ap (λ n. get_or (replies_from words rs [] w) n []) (sym same)
    | inr other ↦ get_or-set_other into (place - 1) k r [] other ∙ put k (later other) below
  ]
    where
      later : (k ≡ place - 1 → ⊥) → place ≤ k
      later other = elim (cases_lt (place - 1) k) as (λ _. place ≤ k) [ inl less ↦ omega (arith, less, some) | inr more ↦ absurd (other (omega (arith, from, more))) ]

-- all replies are put
pub all_put : (words : List (List ℕ)) (rs into : List (List ℤ)) (w : List ℕ) (place : ℕ) → place ≤ 0 → length w ≤ length into
    → ((k : ℕ) → place ≤ k → k < length w → get_or into k [] ≡ get_or (replies_from words rs [] w) k [])
    → (step : ℕ) → step < length w → slice_get into step ≡ slice_get (replies_from words rs [] w) step
all_put words rs into w place first room put step below =
    slice_get-get_or into step [] (omega (arith, below, room)) ∙ ap (λ (r : List ℤ). Some r) (put step (omega (arith, first)) below)
    ∙ sym (slice_get-get_or (replies_from words rs [] w) step [] (omega (arith, below, length-replies_from words rs [] w)))

-- the letters and replies of a test are put
pub has_test : (words : List (List ℕ)) (rs : List (List ℤ)) (t : Test) (w : List ℕ) (count : ℕ) (place : Place) (old : List ℕ) → pooled_test words rs w ≡ t → count ≡ length w → place.letters ≡ w ++ old
    → ((step : ℕ) → step < length w → slice_get place.replies step ≡ slice_get (replies_from words rs [] w) step) → HasTest t count place
has_test words rs t w count place old is size put replies = subst (λ (u : Test). HasTest u count place) is (record {
  size = size;
  letters = ap (take count) put ∙ take_at w old count (sym size);
  replies = λ step below. replies step (omega (arith, below, size));
})
