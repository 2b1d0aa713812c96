-- The numbers of words' last steps, and the replies that they come to.
use Rattle.std.proofs.Common.{◌≡◌, ℕ, ◌+◌, ◌-◌, ◌<◌, ◌≤◌, ◌⊎◌, inl, inr, List, [], ◌∷◌, ◌++◌, length, take, map, get_or, refl, sym, ap, ◌∙◌, subst, arith, ℤ, length-append, Some, slice_get, option_map}
use Rattle.std.specs.List.{All}
use Rattle.std.proofs.lemmas.List.{same_from_push, map-append, length-map, length_push, get_or_append_left, get_or_push, get_or_read}
use Rattle.std.proofs.lemmas.Bool.{cases_lt}
use Rattle.std.proofs.lemmas.Option.{slice_get_within, get_or_from_slice_get, slice_get-get_or, slice_get-map, same_Some}
use Rattle.subject.specs.Meaning.{Meaning, state_after}
use Rattle.subject.specs.Suite.{in_vectors}
use Rattle.subject.proofs.CallerLemmas.{state_after-append}
use Rattle.suite_words.specs.Cover.{AreLetters}
use Rattle.word_pool.specs.Words.{word, ArePooled}
use Rattle.plan_replies.specs.Replies.{AreReplies, state_of}
use Rattle.plan_replies.specs.inside.Steps.{AreSteps, MakesStep}
use Rattle.plan_replies.specs.inside.Numbers.{AreStepNumbers, IsStepNumber}

-- the word with number n is that with number `at` and one letter more
pub record IsNextWord (ws : List (List ℕ)) (n at a : ℕ) : Type 0 where
  pub is : word ws n ≡ word ws at ++ a ∷ []
  pub lower : at < n

pub some_length : (ws : List (List ℕ)) → ArePooled ws → (n id len : ℕ) → 0 < n → n < length ws → id ≡ n → len ≡ length (word ws id) → 1 ≤ len
some_length ws pooled n id len some inside e size =
    let x = pooled.prefixed n some inside in
    omega (arith, size, ap (λ k. length (word ws k)) e, ap length x.extends, length-append (word ws x.shorter) (x.last ∷ []))

pub next_word : (ws : List (List ℕ)) → ArePooled ws → (n id len before place a : ℕ) → 0 < n → n < length ws → id ≡ n → len ≡ length (word ws id) →
    slice_get ws before ≡ Some (take (len - 1) (word ws id)) → (len - 1 < length (word ws id) → before < id) → place ≡ before →
    word ws id ≡ take (length (word ws id) - 1) (word ws id) ++ a ∷ [] → IsNextWord ws n place a
next_word ws pooled n id len before place a some inside e size got lower at last =
    let long = some_length ws pooled n id len some inside e size in
    let down : before < id = lower (omega (arith, size, long)) in
    record {
      is = ap (word ws) (sym e) ∙ last ∙ ap (λ l. l ++ a ∷ []) (ap (λ k. take (k - 1) (word ws id)) (sym size) ∙ sym (get_or_from_slice_get ws before _ [] got) ∙ ap (word ws) (sym at));
      lower = omega (arith, e, at, down);
    }

pub below_front : (u : List ℕ) (a n : ℕ) → AreLetters n (u ++ a ∷ []) → AreLetters n u × (a < n)
below_front u a n all = (
  λ i d h. subst (λ x. x < n) (get_or_append_left u (a ∷ []) d i h) (all i d (omega (arith, h, length-append u (a ∷ [])))),
  subst (λ x. x < n) (get_or_push u a 0 (length u) refl) (all (length u) 0 (omega (arith, length-append u (a ∷ [])))),
)

pub letter_below : (words : List (List ℕ)) (size n at a : ℕ) → All (AreLetters size) words → n < length words → IsNextWord words n at a → a < size
letter_below words size n at a below inside next = (below_front (word words at) a size (subst (AreLetters size) next.is (below n [] inside))).1

module _ {S : Type 0} (m : Meaning S) (vs : List (List ℤ)) where
  abbrev vector_of : ℕ → List ℤ
  vector_of a = get_or vs a []

  pub state_push : (u : List ℕ) (a : ℕ) → state_of m vs (u ++ a ∷ []) ≡ m.next (state_of m vs u) (vector_of a)
  state_push u a = ap (state_after m m.start) (map-append (λ a. get_or vs a []) u (a ∷ [])) ∙ state_after-append m m.start (in_vectors vs u) (vector_of a ∷ [])

  module _ (words : List (List ℕ)) (pooled : ArePooled words) (n : ℕ) (states : List S) (met nexts : List ℕ) (replies : List (List ℤ)) (numbers : List ℕ)
      (steps : AreSteps m vs states met nexts replies) (h : AreStepNumbers m vs words n states nexts replies numbers) where
    -- a word's number is that of a step
    pub number_inside : (at : ℕ) → 0 < at → at < n → get_or numbers (at - 1) 0 < length nexts
    number_inside at some lower = let x = h.each at some lower in slice_get_within nexts _ x.next x.goes

    -- the number of the state to which a word leads
    pub place_leads : (at p : ℕ) (steps_now numbers_now : List ℕ) → at < n → steps_now ≡ nexts → numbers_now ≡ numbers → (at ≡ 0 → p ≡ 0) → (0 < at → p ≡ get_or steps_now (get_or numbers_now (at - 1) 0) 0) →
        slice_get states p ≡ Some (state_of m vs (word words at))
    place_leads at p steps_now numbers_now lower e f first others = by_case (cases_lt 0 at)
      where
        by_case : (0 < at) ⊎ (at ≤ 0) → slice_get states p ≡ Some (state_of m vs (word words at))
        by_case (inl some) =
            let x = h.each at some lower in
            let is : p ≡ x.next = others some ∙ ap (λ l. get_or l (get_or numbers_now (at - 1) 0) 0) e ∙ ap (λ l. get_or nexts (get_or l (at - 1) 0) 0) f ∙ get_or_from_slice_get nexts _ x.next 0 x.goes in
            ap (slice_get states) is ∙ x.leads
        by_case (inr none) =
            let zero_at : at ≡ 0 = omega (arith, none) in
            ap (slice_get states) (first zero_at) ∙ steps.first ∙ ap (λ w. Some (state_of m vs w)) (sym (get_or_from_slice_get words 0 [] [] pooled.empty)) ∙ ap (λ k. Some (state_of m vs (word words k))) (sym zero_at)

    -- one more word
    pub numbers_more : (at a p j : ℕ) (states' : List S) (met' nexts' : List ℕ) (replies' : List (List ℤ)) → IsNextWord words n at a → slice_get states p ≡ Some (state_of m vs (word words at)) →
        MakesStep m vs states nexts replies states' met' nexts' replies' p a j → AreStepNumbers m vs words (n + 1) states' nexts' replies' (numbers ++ j ∷ [])
    numbers_more at a p j states' met' nexts' replies' step there made = record {
      one_less = omega (arith, length_push numbers j, h.one_less);
      few = omega (arith, made.few, h.few);
      each = λ k some small. number_for k some small (cases_lt k n);
    }
      where
        state_is : made.is.state ≡ state_of m vs (word words at)
        state_is = same_Some _ _ (sym made.is.start ∙ made.states_stay p _ there)

        last : IsStepNumber m vs words n states' nexts' replies' j
        last = record {
          next = made.is.next;
          goes = made.is.goes;
          leads = made.is.leads ∙ ap Some (ap (λ s. m.next s (vector_of a)) state_is ∙ sym (state_push (word words at) a) ∙ ap (state_of m vs) (sym step.is));
          reply = λ u b e.
              let both = same_from_push _ _ _ _ (sym step.is ∙ e) in
              made.is.reply ∙ ap Some (ap (λ s. m.reply s (vector_of a)) state_is ∙ ap (λ v. m.reply (state_of m vs v) (vector_of a)) both.0 ∙ ap (λ c. m.reply (state_of m vs u) (vector_of c)) both.1);
        }

        number_for : (k : ℕ) → 0 < k → k < n + 1 → (k < n) ⊎ (n ≤ k) → IsStepNumber m vs words k states' nexts' replies' (get_or (numbers ++ j ∷ []) (k - 1) 0)
        number_for k some small (inl lower) =
            let old = h.each k some lower in
            let same : get_or (numbers ++ j ∷ []) (k - 1) 0 ≡ get_or numbers (k - 1) 0 = get_or_append_left numbers (j ∷ []) 0 (k - 1) (omega (arith, some, lower, h.one_less)) in
            subst (IsStepNumber m vs words k states' nexts' replies') (sym same) (record {
              next = old.next;
              goes = made.nexts_stay _ old.next old.goes;
              leads = made.states_stay old.next _ old.leads;
              reply = λ u b e. made.replies_stay _ _ (old.reply u b e);
            })
        number_for k some small (inr g) =
            let same : k ≡ n = omega (arith, small, g) in
            let is : get_or (numbers ++ j ∷ []) (k - 1) 0 ≡ j = get_or_push numbers j 0 (k - 1) (omega (arith, same, h.one_less)) in
            subst (λ i. IsStepNumber m vs words i states' nexts' replies' (get_or (numbers ++ j ∷ []) (k - 1) 0)) (sym same)
            (subst (IsStepNumber m vs words n states' nexts' replies') (sym is) last)

  pub numbers_first : (words : List (List ℕ)) (states : List S) (nexts : List ℕ) (replies : List (List ℤ)) → length nexts ≡ 0 → AreStepNumbers m vs words 1 states nexts replies []
  numbers_first words states nexts replies none = record {
    one_less = refl;
    few = omega (arith, none);
    each = λ k some small. absurd (omega (arith, some, small));
  }

  module _ (words : List (List ℕ)) (n : ℕ) (states : List S) (met nexts : List ℕ) (replies : List (List ℤ)) (numbers : List ℕ) (steps : AreSteps m vs states met nexts replies)
      (h : AreStepNumbers m vs words n states nexts replies numbers) where
    -- each number is that of a reply
    pub numbers_inside : All (λ k. k < length replies) numbers
    numbers_inside i d small =
        let x = h.each (i + 1) (omega arith) (omega (arith, small, h.one_less)) in
        let within : get_or numbers (i + 1 - 1) 0 < length nexts = slice_get_within nexts _ x.next x.goes in
        let back : i + 1 - 1 ≡ i = omega arith in
        let is : get_or numbers i d ≡ get_or numbers i 0 = get_or_read numbers i (get_or numbers i d) small (sym (same_at d i small)) 0 in
        subst (λ k. k < length replies) (sym is) (subst (λ k. get_or numbers k 0 < length replies) back (omega (arith, within, steps.one_each)))
      where
        same_at : (d i : ℕ) → i < length numbers → get_or numbers i (get_or numbers i d) ≡ get_or numbers i d
        same_at d i small = get_or_from_slice_get numbers i _ _ (slice_get-get_or numbers i d small)

    pub replies_all : n ≡ length words → AreReplies m vs words (map (λ k. get_or replies k []) numbers)
    replies_all e = record {
      one_each = sym e ∙ h.one_less ∙ ap (λ k. k + 1) (sym (length-map numbers (λ k. get_or replies k [])));
      each = λ k u a some small is.
          let lower : k < n = omega (arith, small, e) in
          let x = h.each k some lower in
          slice_get-map (λ k. get_or replies k []) numbers (k - 1)
          ∙ ap (option_map (λ k. get_or replies k [])) (slice_get-get_or numbers (k - 1) 0 (omega (arith, some, lower, h.one_less)))
          ∙ ap Some (get_or_from_slice_get replies _ _ [] (x.reply u a is));
    }
