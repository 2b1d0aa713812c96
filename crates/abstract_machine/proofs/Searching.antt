-- The steps of an exploration.
use Rattle.std.proofs.Common.{◌≡◌, ℕ, ◌+◌, ◌*◌, ◌<◌, ◌≤◌, ℤ, Bool, true, List, [], ◌∷◌, ◌++◌, length, map, get_or}
use Rattle.std.proofs.Common.{slice_get, Some, refl, ap, sym, ◌∙◌, inl, inr, All, arith}
use Rattle.std.specs.Cmp.{IsEquivalence}
use Rattle.std.specs.List.{IsDistinct}
use Rattle.std.proofs.lemmas.Bool.{cases_lt}
use Rattle.std.proofs.lemmas.Nat.{mul-le, same_from_place}
use Rattle.std.proofs.lemmas.List.{get_or-map, get_or_append_left, get_or_push, length_push}
use Rattle.std.proofs.lemmas.List.Elements.{All-nil, All-push}
use Rattle.std.proofs.lemmas.Option.{same_Some, slice_get_within}
use Rattle.subject.specs.Meaning.{IsReached, LeadsTo, Meaning}
use Rattle.word_pool.specs.Words.{word}
use Rattle.word_pool.specs.Order.{IsBefore, IsUpTo}
use Rattle.word_pool.proofs.CallerLemmas.{before_letter, before_push, before_trans}
use Rattle.input_classes.specs.declared.class.Class.{Class}
use Rattle.input_classes.specs.VectorSet.{Members}
use Rattle.lin_form.specs.Signature.{IsInInputRanges}
use Rattle.abstract_machine.specs.Reached.{ReachesMore}
use Rattle.abstract_machine.specs.inside.Exploring.{IsExploring, IsNumbered, IsRow, state_of}
use Rattle.abstract_machine.proofs.Keys.{all_by_place, get-push_last, get-push_left, kept}
use Rattle.abstract_machine.proofs.Reaching.{AreBelow, are_reached, leads_there, reached, state-push}

module _ {S : Type 0} (classes : List (List ℤ)) (m : Meaning S) where
  -- the start alone is found
  pub exploring_start : (states : List S) → states ≡ m.start ∷ [] → IsExploring classes m states [] [] 0 0
  exploring_start states is = rw (is) record {
    upto = omega arith;
    words = [] ∷ [];
    size = refl;
    some = omega arith;
    few = omega arith;
    rows_size = omega arith;
    root = refl;
    letters = λ i h. let e : i ≡ 0 = omega (arith, h) in rw (e) (All-nil (λ b. b < length classes));
    leads = λ i h. let e : i ≡ 0 = omega (arith, h) in rw (e) refl;
    done = λ i b hb h. absurd (omega (arith, h));
    ascending = λ i j h k. absurd (omega (arith, h, k));
    tried = λ h j k. let e : j ≡ 0 = omega (arith, k) in rw (e) (inl (omega arith));
  }

  module _ (states : List S) (replies : List (List ℤ)) (rows : List (ℕ × ℕ)) (at a : ℕ) (e : IsExploring classes m states replies rows at a) where
    -- each state that is found is reached
    pub found_reached : (i : ℕ) (t : S) → slice_get states i ≡ Some t → LeadsTo (Members classes) m t
    found_reached i t h =
        let inside : i < length e.words = omega (arith, e.size, slice_get_within states i t h) in
        leads_there classes m (word e.words i) t (e.letters i inside) (same_Some (state_of classes m (word e.words i)) t (sym (e.leads i inside) ∙ h))

    -- so the plan may be advanced from it
    pub may_advance : All (IsInInputRanges m.signature.inputs) classes → (i : ℕ) (t : S) → slice_get states i ≡ Some t → IsReached m t
    may_advance ranges i t h =
        let inside : i < length e.words = omega (arith, e.size, slice_get_within states i t h) in
        reached classes m ranges (word e.words i) t (e.letters i inside) (same_Some (state_of classes m (word e.words i)) t (sym (e.leads i inside) ∙ h))

    -- all letters were tried
    pub exploring_more : at < length states → a ≡ length classes → IsExploring classes m states replies rows (at + 1) 0
    exploring_more hat end = record {
      upto = omega (arith, hat);
      words = e.words;
      size = e.size;
      some = e.some;
      few = e.few;
      rows_size = omega (arith, e.rows_size, end);
      root = e.root;
      letters = e.letters;
      leads = e.leads;
      done = e.done;
      ascending = e.ascending;
      tried = λ h j k. before_trans (word e.words j) (word e.words at ++ a ∷ []) (word e.words (at + 1) ++ 0 ∷ [])
          (e.tried (omega (arith, h)) j k) (before_push (word e.words at) (word e.words (at + 1)) a 0 (e.ascending at (at + 1) (omega arith) h));
    }

    -- one letter more
    module _ (hat : at < length states) (ha : a < length classes) (here : S) (is_here : slice_get states at ≡ Some here) (next : S) (reply : List ℤ)
        (is_next : next ≡ m.next here (get_or classes a [])) (is_reply : reply ≡ m.reply here (get_or classes a [])) where
      at_words : at < length e.words
      at_words = omega (arith, hat, e.size)

      here_is : here ≡ state_of classes m (word e.words at)
      here_is = same_Some here (state_of classes m (word e.words at)) (sym is_here ∙ e.leads at at_words)

      next_is : next ≡ m.next (state_of classes m (word e.words at)) (get_or classes a [])
      next_is = is_next ∙ ap (λ t. m.next t (get_or classes a [])) here_is

      reply_is : reply ≡ m.reply (state_of classes m (word e.words at)) (get_or classes a [])
      reply_is = is_reply ∙ ap (λ t. m.reply t (get_or classes a [])) here_is

      letters_of_next : AreBelow (length classes) (word e.words at ++ a ∷ [])
      letters_of_next = All-push (λ b. b < length classes) (word e.words at) a (e.letters at at_words) ha

      next_reached : state_of classes m (word e.words at ++ a ∷ []) ≡ next
      next_reached = state-push classes m (word e.words at) a ∙ sym next_is

      pub next_leads : LeadsTo (Members classes) m next
      next_leads = leads_there classes m (word e.words at ++ a ∷ []) next letters_of_next next_reached

      -- all states that are found now are reached
      pub all_reached : (states' : List S) (n : ℕ) → IsNumbered states next states' n → All (LeadsTo (Members classes) m) states'
      all_reached states' n numbered = elim numbered.grown as (λ _. All (LeadsTo (Members classes) m) states') [
        | inl same ↦ rw (same) (all_by_place (LeadsTo (Members classes) m) states found_reached)
        | inr more ↦ rw (more.0) (All-push (LeadsTo (Members classes) m) states next
            (all_by_place (LeadsTo (Members classes) m) states found_reached) next_leads)
      ]

      pub too_many : (eq : S → S → Bool) → IsEquivalence eq → ((x y : S) → eq x y ≡ true → x ≡ y) →
          (states' : List S) (n : ℕ) → IsNumbered states next states' n →
          IsDistinct eq states' → 1024 ≤ n → ReachesMore 1024 (Members classes) m
      too_many eq laws same states' n numbered once most = record {
        states = states';
        are_reached = are_reached classes m eq laws same states' (all_reached states' n numbered) once;
        more = omega (arith, most, slice_get_within states' n next numbered.there);
      }

      module _ (states' : List S) (n : ℕ) (numbered : IsNumbered states next states' n) (low : n < 1024) (replies' : List (List ℤ)) (k : ℕ)
          (told : IsNumbered replies reply replies' k) (words' : List (List ℕ)) (size' : length words' ≡ length states')
          (words_kept : (i : ℕ) → i < length e.words → word words' i ≡ word e.words i) (upto : IsUpTo (word words' n) (word e.words at ++ a ∷ [])) where
        old_row : (i b : ℕ) → b < length classes → i * length classes + b < length rows → (row : ℕ × ℕ) → IsRow classes m e.words states replies i b row →
            IsRow classes m words' states' replies' i b row
        old_row i b hb h row r =
            let i_inside : i < length e.words = omega (arith, at_words, e.rows_size, ha, h, row_before i b hb h) in
            let target : row.0 < length e.words = omega (
              arith,
              e.size,
              slice_get_within
                  states row.0 (m.next (state_of classes m (word e.words i)) (get_or classes b [])) r.next,
            ) in
            record {
              next = rw (words_kept i i_inside) (kept states next states' n numbered row.0
                  (m.next (state_of classes m (word e.words i)) (get_or classes b [])) r.next);
              reply = rw (words_kept i i_inside) (kept replies reply replies' k told row.1
                  (m.reply (state_of classes m (word e.words i)) (get_or classes b [])) r.reply);
              upto = rw (words_kept i i_inside, words_kept row.0 target) r.upto;
            }
          where
            row_before : (i b : ℕ) → b < length classes → i * length classes + b < length rows → i ≤ at
            row_before i b hb h = elim (cases_lt at i) as (λ _. i ≤ at) [
              | inl more ↦
                  let le : (at + 1) * length classes ≤ i * length classes = mul-le (at + 1) (length classes) i
                  (length classes) (omega (arith, more)) (omega arith) in
                  absurd (omega (arith, le, h, e.rows_size, ha))
              | inr less ↦ less
            ]

        new_row : IsRow classes m words' states' replies' at a (n, k)
        new_row = record {
          next = rw (words_kept at at_words) (numbered.there ∙ ap Some next_is);
          reply = rw (words_kept at at_words) (told.there ∙ ap Some reply_is);
          upto = rw (words_kept at at_words) upto;
        }

        pub done_more : (i b : ℕ) → b < length classes → i * length classes + b < length (rows ++ (n, k) ∷ []) →
            IsRow classes m words' states' replies' i b (get_or (rows ++ (n, k) ∷ []) (i * length classes + b) (0, 0))
        done_more i b hb h = elim (cases_lt (i * length classes + b) (length rows))
            as (λ _. IsRow classes m words' states' replies' i b (get_or (rows ++ (n, k) ∷ []) (i * length classes + b) (0, 0))) [
              | inl before ↦ rw (get_or_append_left rows ((n, k) ∷ []) (0, 0) (i * length classes + b) before)
                  (old_row i b hb before (get_or rows (i * length classes + b) (0, 0)) (e.done i b hb before))
              | inr after ↦
                  let last : i * length classes + b ≡ length rows = omega (arith, after, h, length_push rows (n, k)) in
                  let same = same_from_place i b at a (length classes) hb ha (last ∙ e.rows_size) in
                  let i_is : i ≡ at = same.0 in
                  let b_is : b ≡ a = same.1 in
                  rw (last, get_or_push rows (n, k) (0, 0) (length rows) refl, i_is, b_is) new_row
            ]

      -- the next state is there already
      pub exploring_again : (n : ℕ) → slice_get states n ≡ Some next → n < 1024 → (replies' : List (List ℤ)) (k : ℕ) → IsNumbered replies reply replies' k →
          IsExploring classes m states replies' (rows ++ (n, k) ∷ []) at (a + 1)
      exploring_again n there low replies' k told = record {
        upto = e.upto;
        words = e.words;
        size = e.size;
        some = e.some;
        few = e.few;
        rows_size = omega (arith, e.rows_size, length_push rows (n, k));
        root = e.root;
        letters = e.letters;
        leads = e.leads;
        done = done_more states n (record { there = there; grown = inl refl }) low replies' k told e.words e.size (λ i h. refl)
            (inr (e.tried at_words n (omega (arith, e.size, slice_get_within states n next there))));
        ascending = e.ascending;
        tried = λ h j hj. before_trans (word e.words j) (word e.words at ++ a ∷ []) (word e.words at ++ (a + 1) ∷ []) (e.tried h j hj)
            (before_letter (word e.words at) a (a + 1) (omega arith));
      }

      -- it is found now
      abbrev words' : List (List ℕ)
      words' = e.words ++ (word e.words at ++ a ∷ []) ∷ []

      size' : length words' ≡ length (states ++ next ∷ [])
      size' = omega (arith, e.size, length_push e.words (word e.words at ++ a ∷ []), length_push states next)

      old_word : (i : ℕ) → i < length e.words → word words' i ≡ word e.words i
      old_word i h = get_or_append_left e.words ((word e.words at ++ a ∷ []) ∷ []) [] i h

      new_word : word words' (length e.words) ≡ word e.words at ++ a ∷ []
      new_word = get_or_push e.words (word e.words at ++ a ∷ []) [] (length e.words) refl

      last_word : word words' (length states) ≡ word e.words at ++ a ∷ []
      last_word = get_or_push e.words (word e.words at ++ a ∷ []) [] (length states) e.size

      pub exploring_new : length states < 1024 → (replies' : List (List ℤ)) (k : ℕ) → IsNumbered replies reply replies' k →
          IsExploring classes m (states ++ next ∷ []) replies' (rows ++ (length states, k) ∷ []) at (a + 1)
      exploring_new low replies' k told = record {
        upto = omega (arith, e.upto, length_push states next);
        words = words';
        size = size';
        some = omega (arith, length_push states next);
        few = omega (arith, length_push states next, low);
        rows_size = omega (arith, e.rows_size, length_push rows (length states, k));
        root = old_word 0 (omega (arith, e.some, e.size)) ∙ e.root;
        letters = λ i h. elim (cases_lt i (length e.words)) as (λ _. AreBelow (length classes) (word words' i)) [
          | inl before ↦ rw (old_word i before) (e.letters i before)
          | inr after ↦ let is : i ≡ length e.words = omega (
            arith,
            after,
            h,
            length_push e.words
                (word e.words at ++ a ∷ []),
          ) in rw (is, new_word) letters_of_next
        ];
        leads = λ i h. elim (cases_lt i (length e.words)) as (λ _. slice_get (states ++ next ∷ []) i ≡ Some (state_of classes m (word words' i))) [
          | inl before ↦ rw (old_word i before) (get-push_left states next i (omega (arith, before, e.size)) ∙ e.leads i before)
          | inr after ↦
              let is : i ≡ length states = omega (arith, after, h, e.size, length_push e.words (word e.words at ++ a ∷ [])) in
              rw (is, last_word) (get-push_last states next ∙ ap Some (sym next_reached))
        ];
        done = done_more (states ++ next ∷ []) (length states) (record {
          there = get-push_last states next;
          grown =
              inr (refl, refl);
        }) low replies' k told words' size' old_word
            (inl last_word);
        ascending = λ i j h k. elim (cases_lt j (length e.words)) as (λ _. IsBefore (word words' i) (word words' j)) [
          | inl before ↦ rw (old_word i (omega (arith, h, before)), old_word j before) (e.ascending i j h before)
          | inr after ↦
              let is : j ≡ length e.words = omega (arith, after, k, length_push e.words (word e.words at ++ a ∷ [])) in
              let first : i < length e.words = omega (arith, h, is) in
              rw (is, new_word, old_word i first) (e.tried at_words i first)
        ];
        tried = λ h j k. rw (old_word at at_words)
            (let later = before_letter (word e.words at) a (a + 1) (omega arith) in
            elim (cases_lt j (length e.words)) as (λ _. IsBefore (word words' j) (word e.words at ++ (a + 1) ∷ [])) [
              | inl before ↦ rw (old_word j before) (before_trans (word e.words j) (word e.words at ++ a ∷ [])
                  (word e.words at ++ (a + 1) ∷ []) (e.tried at_words j before) later)
              | inr after ↦
                  let is : j ≡ length e.words = omega (arith, after, k, length_push e.words (word e.words at ++ a ∷ [])) in
                  rw (is, new_word) later
            ]);
      }

      -- one row more
      pub exploring_row : (states' : List S) (n : ℕ) → IsNumbered states next states' n → n < 1024 →
          (replies' : List (List ℤ)) (k : ℕ) → IsNumbered replies reply replies' k →
          (rows' : List (ℕ × ℕ)) → rows' ≡ rows ++ (n, k) ∷ [] → IsExploring classes m states' replies' rows' at (a + 1)
      exploring_row states' n numbered low replies' k told rows' grown = elim numbered.grown as (λ _. IsExploring classes m states' replies' rows' at (a + 1)) [
        | inl same ↦ rw (grown, same) (exploring_again n (rw (same) at numbered.there) low replies' k told)
        | inr more ↦ rw (grown, more.0, more.1) (exploring_new (rw (more.1) at low) replies' k told)
      ]

-- the witness of a class by its letter
pub witness_at : (classes : List Class) (a : ℕ) (class : Class) → a < length classes →
    class ≡ get_or classes a class → class.witness ≡ get_or (map (λ (c : Class). c.witness) classes) a []
witness_at classes a class h is = ap (λ (c : Class). c.witness) is ∙ sym (get_or-map (λ (c : Class). c.witness) classes a class [] h)
