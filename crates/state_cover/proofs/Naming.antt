-- The words of a search, entered one by one.
use Rattle.std.proofs.Common.{◌≡◌, ℕ, ◌+◌, ◌<◌, ◌≤◌, List, [], ◌∷◌, ◌++◌, length, get_or, map, slice_get, Some, refl, ap, sym, ◌∙◌, ◌⊎◌, inl, inr, arith}
use Rattle.std.proofs.lemmas.Bool.{cases_lt}
use Rattle.std.proofs.lemmas.List.{append-nil, get_or_append_left, get_or_push, length_push, length-map, map-append}
use Rattle.std.proofs.lemmas.List.Elements.{All-cons, All-nil, All-push}
use Rattle.std.proofs.lemmas.Option.{get_or_from_slice_get, slice_get_within}
use Rattle.fsm_core.specs.declared.breadth_first.Found.{Found}
use Rattle.fsm_core.specs.Search.{found_at}
use Rattle.word_pool.specs.Words.{word, words_at, extension_of, AddsPrefixesOf, Enters, IsPrefixOfOne, Keeps}
use Rattle.word_pool.proofs.CallerLemmas.{ids_kept, keeps_itself, keeps_on, word_at, word_kept, words_kept}
use Rattle.state_cover.specs.inside.Entered.{AreNamed, AreWordsOf}

-- the empty word is in every pool
pub named_start : (found : List Found) (ws : List (List ℕ)) → slice_get ws 0 ≡ Some [] → AreNamed ws found ws (0 ∷ []) 1
named_start found ws e = record {
  are_words = record { size = refl; root = get_or_from_slice_get ws 0 [] [] e; longer = λ k z h. absurd (omega (arith, z, h)) };
  are_ids = All-cons (λ i. i < length ws) 0 [] (slice_get_within ws 0 [] e) (All-nil (λ i. i < length ws));
  keeps = keeps_itself ws;
  more = omega arith;
  few = omega arith;
  only = λ i low high. absurd (omega (arith, low, high));
}

pub named_count : (old : List (List ℕ)) (found : List Found) (ws : List (List ℕ)) (ids : List ℕ) (n : ℕ) → AreNamed old found ws ids n → length ids ≡ n
named_count old found ws ids n c = sym (length-map ids (word ws)) ∙ c.are_words.size

module _ (old : List (List ℕ)) (found : List Found) (ws : List (List ℕ)) (ids : List ℕ) (n : ℕ)
    (c : AreNamed old found ws ids n) (z : 0 < n) (all : (k : ℕ) → 0 < k → k ≤ n → (found_at found k).from < k)
    (from : ℕ) (from_is : from ≡ (found_at found n).from) (a : ℕ) (letter_is : a ≡ (found_at found n).letter)
    (new : List (List ℕ)) (id : ℕ) (enters : Enters ws (extension_of ws (get_or ids from 0) a) new) (keeps : Keeps ws new)
    (there : slice_get new id ≡ Some (extension_of ws (get_or ids from 0) a)) where
  earlier : from < n
  earlier = omega (arith, from_is, all n z (omega arith))

  count : length ids ≡ n
  count = named_count old found ws ids n c

  words : words_at new (ids ++ id ∷ []) ≡ words_at ws ids ++ extension_of ws (get_or ids from 0) a ∷ []
  words =
      let x = map-append (word new) ids (id ∷ []) in
      let y = words_kept ws new keeps ids c.are_ids in
      let d = get_or_from_slice_get new id (extension_of ws (get_or ids from 0) a) [] there in
      x ∙ (λ k. y k ++ d k ∷ [])

  w_is : extension_of ws (get_or ids from 0) a ≡ word (words_at ws ids) from ++ a ∷ []
  w_is = ap (λ u. u ++ a ∷ []) (sym (word_at ws ids from (omega (arith, earlier, count))))

  old_word : (k : ℕ) → k < n → word (words_at ws ids ++ extension_of ws (get_or ids from 0) a ∷ []) k ≡ word (words_at ws ids) k
  old_word k h = get_or_append_left (words_at ws ids) (extension_of ws (get_or ids from 0) a ∷ []) [] k (omega (arith, h, c.are_words.size))

  new_word : word (words_at ws ids ++ extension_of ws (get_or ids from 0) a ∷ []) n ≡ extension_of ws (get_or ids from 0) a
  new_word = get_or_push (words_at ws ids) (extension_of ws (get_or ids from 0) a) [] n c.are_words.size

  more_words : AreWordsOf found (words_at ws ids ++ extension_of ws (get_or ids from 0) a ∷ []) (n + 1)
  more_words = record {
    size = omega (arith, length_push (words_at ws ids) (extension_of ws (get_or ids from 0) a), c.are_words.size);
    root = old_word 0 z ∙ c.are_words.root;
    longer = λ k y h. elim (cases_lt k n) as (λ _. word (words_at ws ids ++ extension_of ws (get_or ids from 0) a ∷ []) k ≡
        word (words_at ws ids ++ extension_of ws (get_or ids from 0) a ∷ []) (found_at found k).from ++ (found_at found k).letter ∷ []) [
          | inl less ↦ old_word k less ∙ (c.are_words.longer k y less ∙ ap (λ u. u ++ (found_at found k).letter ∷ [])
              (sym (old_word (found_at found k).from (omega (arith, all k y (omega (arith, less)), less)))))
          | inr more ↦
              let e : k ≡ n = omega (arith, more, h) in
              rw (e) (new_word ∙ (w_is ∙ (ap (λ u. u ++ a ∷ []) (sym (old_word from earlier)) ∙
              (ap (λ q. word (words_at ws ids ++ extension_of ws (get_or ids from 0) a ∷ []) q ++ a ∷ []) from_is ∙
              ap (λ q. word (words_at ws ids ++ extension_of ws (get_or ids from 0) a ∷ []) (found_at found n).from ++ q ∷ []) letter_is))))
        ];
  }

  latest : (i : ℕ) → length ws ≤ i → i < length new → word new i ≡ extension_of ws (get_or ids from 0) a
  latest i low high = elim enters as (λ _. word new i ≡ extension_of ws (get_or ids from 0) a) [
    | inl h ↦ absurd (omega (arith, ap (λ (v : List (List ℕ)). length v) h.1, low, high))
    | inr h ↦
        let e : length ws ≡ i = omega (arith, ap (λ (v : List (List ℕ)). length v) h.1, length_push ws (extension_of ws (get_or ids from 0) a), low, high) in
        ap (λ (v : List (List ℕ)). word v i) h.1 ∙ get_or_push ws (extension_of ws (get_or ids from 0) a) [] i e
  ]

  only_more : AddsPrefixesOf old (words_at ws ids ++ extension_of ws (get_or ids from 0) a ∷ []) new
  only_more i low high = elim (cases_lt i (length ws)) as (λ _. IsPrefixOfOne (words_at ws ids ++ extension_of ws (get_or ids from 0) a ∷ []) (word new i)) [
    | inl before ↦
        let p = c.only i low before in (
          p.0,
          (
            omega (arith, p.1.0, length_push (words_at ws ids) (extension_of ws (get_or ids from 0) a)),
            rw (word_kept ws new keeps i before, old_word p.0 (omega (arith, p.1.0, c.are_words.size))) p.1.1,
          ),
        )
    | inr after ↦ (
      n,
      (
        omega (arith, c.are_words.size, length_push (words_at ws ids) (extension_of ws (get_or ids from 0) a)),
        ([], new_word ∙ (sym (latest i after high) ∙ sym (append-nil (word new i)))),
      ),
    )
  ]

  pub named_more : AreNamed old found new (ids ++ id ∷ []) (n + 1)
  named_more = record {
    are_words = rw (words) more_words;
    are_ids = All-push (λ i. i < length new) ids id (ids_kept ws new keeps ids c.are_ids)
        (slice_get_within new id (extension_of ws (get_or ids from 0) a) there);
    keeps = keeps_on old ws new c.keeps keeps;
    more = elim enters as (λ _. length old ≤ length new) [
      | inl h ↦ omega (arith, ap (λ (v : List (List ℕ)). length v) h.1, c.more)
      | inr h ↦ omega (arith, ap (λ (v : List (List ℕ)). length v) h.1, length_push ws (extension_of ws (get_or ids from 0) a), c.more)
    ];
    few = elim enters as (λ _. length new ≤ length old + (n + 1)) [
      | inl h ↦ omega (arith, ap (λ (v : List (List ℕ)). length v) h.1, c.few)
      | inr h ↦ omega (arith, ap (λ (v : List (List ℕ)). length v) h.1, length_push ws (extension_of ws (get_or ids from 0) a), c.few)
    ];
    only = rw (words) only_more;
  }
