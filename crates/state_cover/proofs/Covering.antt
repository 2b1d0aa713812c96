-- The words by which a breadth-first search finds its states are a cover.
use Rattle.std.proofs.Common.{◌≡◌, ℕ, ◌+◌, ◌<◌, ◌≤◌, List, [], ◌∷◌, ◌++◌, length, get_or, zero, suc, refl, ap, sym}
use Rattle.std.proofs.Common.{◌∙◌, ◌⊎◌, inl, inr, subst, append_assoc, arith}
use Rattle.std.specs.List.{All, AllPairs, Contains}
use Rattle.std.proofs.lemmas.Bool.{cases_eq, cases_order}
use Rattle.std.proofs.lemmas.List.{append-nil, get_or_default, length_push}
use Rattle.std.proofs.lemmas.List.Elements.{All-push, All-head, All-tail, All-nil}
use Rattle.fsm_core.specs.declared.breadth_first.Found.{Found}
use Rattle.fsm_core.specs.Machine.{Machine, IsWord, next, state_after}
use Rattle.fsm_core.specs.Answers.{AllReached}
use Rattle.fsm_core.specs.Search.{found_at, state_at, IsSearched, IsTriedBefore}
use Rattle.fsm_core.proofs.Searching.{state_after-push}
use Rattle.word_pool.specs.Words.{word}
use Rattle.word_pool.specs.Order.{IsBefore, IsUpTo}
use Rattle.word_pool.proofs.CallerLemmas.{before_letter, before_push, empty_first, not_up_to, up_to_push, up_to_trans}
use Rattle.suite_words.specs.Cover.{IsFirstOfItsKind}
use Rattle.state_cover.specs.Cover.{IsCover, LeadTogether}
use Rattle.state_cover.specs.inside.Entered.{AreWordsOf}

module _ (m : Machine) (found : List Found) (s : IsSearched m found) (ws : List (List ℕ)) (w : AreWordsOf found ws (length found)) where
  abbrev from_of : ℕ → ℕ
  from_of k = (found_at found k).from

  abbrev letter_of : ℕ → ℕ
  letter_of k = (found_at found k).letter

  words_below : (n k : ℕ) → k < n → k < length found → IsWord m (word ws k)
  words_below zero k h l = absurd (omega (arith, h))
  words_below (suc n) k h l = elim (cases_eq k 0) as (λ _. IsWord m (word ws k)) [
    | inl e ↦ let e' : k ≡ 0 = e in rw (e', w.root) (All-nil (λ a. a < m.letters))
    | inr d ↦
        let z : 0 < k = omega (arith, d) in
        let f = s.earlier k z l in
        rw (w.longer k z l) (All-push (λ a. a < m.letters) (word ws (from_of k)) (letter_of k)
        (words_below n (from_of k) (omega (arith, f, h)) (omega (arith, f, l))) (s.letter k z l))
  ]

  is_word : (k : ℕ) → k < length found → IsWord m (word ws k)
  is_word k l = words_below (suc k) k (omega arith) l

  leads_below : (n k : ℕ) → k < n → k < length found → state_after m 0 (word ws k) ≡ state_at found k
  leads_below zero k h l = absurd (omega (arith, h))
  leads_below (suc n) k h l = elim (cases_eq k 0) as (λ _. state_after m 0 (word ws k) ≡ state_at found k) [
    | inl e ↦ let e' : k ≡ 0 = e in ap (λ q. state_after m 0 (word ws q)) e' ∙ (ap (λ u. state_after m 0 u) w.root ∙
        (sym s.start ∙ ap (state_at found) (sym e')))
    | inr d ↦
        let z : 0 < k = omega (arith, d) in
        let f = s.earlier k z l in
        ap (λ u. state_after m 0 u) (w.longer k z l) ∙ (state_after-push m 0 (word ws (from_of k)) (letter_of k) ∙
        (ap (λ q. next m q (letter_of k)) (leads_below n (from_of k) (omega (arith, f, h)) (omega (arith, f, l))) ∙ sym (s.leads k z l)))
  ]

  leads : (k : ℕ) → k < length found → state_after m 0 (word ws k) ≡ state_at found k
  leads k l = leads_below (suc k) k (omega arith) l

  ascending_below : (n j k : ℕ) → k < n → j < k → k < length found → IsBefore (word ws j) (word ws k)
  ascending_below zero j k h less l = absurd (omega (arith, h))
  ascending_below (suc n) j k h less l =
      let z : 0 < k = omega (arith, less) in
      let f = s.earlier k z l in
      elim (cases_eq j 0) as (λ _. IsBefore (word ws j) (word ws k)) [
        | inl e ↦ let e' : j ≡ 0 = e in rw (e', w.root, w.longer k z l) (inl (omega (arith, length_push (word ws (from_of k)) (letter_of k))))
        | inr d ↦
            let y : 0 < j = omega (arith, d) in
            let lj : j < length found = omega (arith, less, l) in
            rw (w.longer j y lj, w.longer k z l) (elim (s.ordered j k y less l) as
            (λ _. IsBefore (word ws (from_of j) ++ letter_of j ∷ []) (word ws (from_of k) ++ letter_of k ∷ [])) [
              | inl b ↦ before_push (word ws (from_of j)) (word ws (from_of k)) (letter_of j) (letter_of k)
                  (ascending_below n (from_of j) (from_of k) (omega (arith, f, h)) b (omega (arith, f, l)))
              | inr b ↦ rw (b.0) (before_letter (word ws (from_of k)) (letter_of j) (letter_of k) b.1)
            ])
      ]

  ascending : (j k : ℕ) → j < k → k < length found → IsBefore (word ws j) (word ws k)
  ascending j k less l = ascending_below (suc k) j k (omega arith) less l

  -- a letter leads on to a state whose word stands at most as far as the word with the letter
  up_to : (i b k : ℕ) → i < length found → k < length found → (0 < k → ¬ IsTriedBefore i b (from_of k) (letter_of k)) → IsUpTo (word ws k) (word ws i ++ b ∷ [])
  up_to i b k li l first = elim (cases_eq k 0) as (λ _. IsUpTo (word ws k) (word ws i ++ b ∷ [])) [
    | inl e ↦ let e' : k ≡ 0 = e in rw (e', w.root) (empty_first (word ws i ++ b ∷ []))
    | inr d ↦
        let z : 0 < k = omega (arith, d) in
        let lf : from_of k < length found = omega (arith, s.earlier k z l, l) in
        rw (w.longer k z l) (elim (cases_order (from_of k) i) as (λ _. IsUpTo (word ws (from_of k) ++ letter_of k ∷ []) (word ws i ++ b ∷ [])) [
          | inl e ↦
              let e' : from_of k ≡ i = e in
              elim (cases_order (letter_of k) b) as (λ _. IsUpTo (word ws (from_of k) ++ letter_of k ∷ []) (word ws i ++ b ∷ [])) [
                | inl d' ↦ let d'' : letter_of k ≡ b = d' in rw (e', d'') (inl refl)
                | inr d' ↦ elim d' as (λ _. IsUpTo (word ws (from_of k) ++ letter_of k ∷ []) (word ws i ++ b ∷ [])) [
                  | inl less ↦ rw (e') (inr (before_letter (word ws i) (letter_of k) b less))
                  | inr more ↦ absurd (first z (inr (sym e', more)))
                ]
              ]
          | inr d' ↦ elim d' as (λ _. IsUpTo (word ws (from_of k) ++ letter_of k ∷ []) (word ws i ++ b ∷ [])) [
            | inl less ↦ inr (before_push (word ws (from_of k)) (word ws i) (letter_of k) b (ascending (from_of k) i less li))
            | inr more ↦ absurd (first z (inl more))
          ]
        ])
  ]

  -- along a word that leads to a state found, the words stay at most the prefixes
  along : (v : List ℕ) (i : ℕ) (u : List ℕ) → i < length found → IsWord m v → IsUpTo (word ws i) u →
      (j : ℕ) × ((j < length found) × ((state_at found j ≡ state_after m (state_at found i) v) × IsUpTo (word ws j) (u ++ v)))
  along [] i u hi h k = (i, (hi, (refl, rw (append-nil u) k)))
  along (b ∷ v) i u hi h k =
      let p = s.each i b hi (All-head (λ x. x < m.letters) b v h) in
      let up : IsUpTo (word ws p.0) (u ++ b ∷ []) = up_to_trans (word ws p.0) (word ws i ++ b ∷ []) (u ++ b ∷ [])
      (up_to i b p.0 hi p.1.inside p.1.first) (up_to_push (word ws i) u b k) in
      let r = along v p.0 (u ++ b ∷ []) p.1.inside (All-tail (λ x. x < m.letters) b v h) up in
      (r.0, (r.1.0, (r.1.1.0 ∙ ap (λ q. state_after m q v) p.1.leads, rw (append_assoc u (b ∷ []) v) at r.1.1.1)))

  from_start : (v : List ℕ) → IsWord m v → (j : ℕ) × ((j < length found) × ((state_at found j ≡ state_after m 0 v) × IsUpTo (word ws j) v))
  from_start v h =
      let r = along v 0 [] s.some h (inl w.root) in
      (r.0, (r.1.0, (r.1.1.0 ∙ ap (λ q. state_after m q v) s.start, r.1.1.1)))

  same_place : (j k : ℕ) → j < length found → k < length found → state_at found j ≡ state_at found k → j ≡ k
  same_place j k hj hk e = elim (cases_order j k) as (λ _. j ≡ k) [
    | inl d ↦ d
    | inr d ↦ elim d as (λ _. j ≡ k) [ inl less ↦ absurd (s.once j k less hk e) | inr more ↦ absurd (s.once k j more hj (sym e)) ]
  ]

  first_of_kind : (k : ℕ) → k < length found → IsFirstOfItsKind m.letters (LeadTogether m) (word ws k)
  first_of_kind k hk = record {
    letters = is_word k hk;
    first = λ u h b e.
        let p = from_start u h in
        let same : p.0 ≡ k = same_place p.0 k p.1.0 hk (p.1.1.0 ∙ (e ∙ leads k hk)) in
        let P : ℕ → Type 0 = λ j. IsUpTo (word ws j) u in
        not_up_to u (word ws k) b (subst P same p.1.1.1);
  }

  kind_is_there : (p : List ℕ) → IsFirstOfItsKind m.letters (LeadTogether m) p → Contains ws p
  kind_is_there p f =
      let r = from_start p f.letters in
      elim r.1.1.1 as (λ _. Contains ws p) [
        | inl e ↦ (r.0, omega (arith, r.1.0, w.size), get_or_default ws r.0 p [] (omega (arith, r.1.0, w.size)) ∙ e)
        | inr b ↦ absurd (f.first (word ws r.0) (is_word r.0 r.1.0) b (leads r.0 r.1.0 ∙ r.1.1.0))
      ]

  pub cover_all : length found ≡ m.states → AllReached m → IsCover m ws
  cover_all count reached = record {
    least = record {
      only = λ k d h.
          let h' : k < length found = omega (arith, h, w.size) in
          let e : get_or ws k d ≡ word ws k = get_or_default ws k d [] h in
          rw (e) (first_of_kind k h');
      each = kind_is_there;
      ordered = λ i j x less hj.
          let hj' : j < length found = omega (arith, hj, w.size) in
          let a : get_or ws i x ≡ word ws i = get_or_default ws i x [] (omega (arith, less, hj)) in
          let b : get_or ws j x ≡ word ws j = get_or_default ws j x [] hj in
          rw (a, b) (ascending i j less hj');
    };
    size = omega (arith, w.size, count);
    each = λ q hq.
        let r = reached q hq in
        let p = from_start r.word r.is_word in
        record { place = p.0; inside = omega (arith, p.1.0, w.size); leads = leads p.0 p.1.0 ∙ (p.1.1.0 ∙ r.leads) };
  }
