-- Words that enter a pool, set by set.
use Rattle.std.proofs.Common.{◌≡◌, ℕ, ◌+◌, ◌-◌, ◌*◌, ◌<◌, ◌≤◌, List, [], ◌∷◌, ◌++◌, length, get_or, take, drop, map}
use Rattle.std.proofs.Common.{slice_get, Some, zero, suc, sum_by, Contains, refl, ap, sym, ◌∙◌, ◌⊎◌, inl, inr, All}
use Rattle.std.proofs.Common.{subst, append_assoc, arith}
use Rattle.std.proofs.lemmas.Bool.{cases_eq, cases_lt}
use Rattle.std.proofs.lemmas.Nat.{mul-le}
use Rattle.std.proofs.lemmas.List.{append-nil, get_or_append_left, get_or_push, length_push, take-append-drop, drop_more, nil_from_length}
use Rattle.std.proofs.lemmas.List.Sums.{sum_by-cons}
use Rattle.std.proofs.lemmas.List.Elements.{All-cons, All-nil, All-head, All-tail}
use Rattle.std.proofs.lemmas.Option.{get_or_from_slice_get, slice_get-get_or, slice_get_within}
use Rattle.word_pool.specs.Words.{word, Enters, Keeps, extension_of}
use Rattle.word_pool.specs.Words.{EntersAfter}
use Rattle.word_pool.proofs.CallerLemmas.{keeps_on, keeps_itself, length_kept, word_kept}
use Rattle.suite_build.specs.inside.Entered.{AreEntered, IsMarkAfter, letters_of}
use Rattle.word_pool.specs.Words.{IsPrefix}
use Rattle.suite_words.specs.Tests.{IsProductAfter}
use Rattle.suite_build.specs.Steps.{words_upto}
use Rattle.suite_build.proofs.Counting.{upto_some}

-- what a pool has it goes on to have
pub has : (ws : List (List ℕ)) (i : ℕ) (w : List ℕ) → slice_get ws i ≡ Some w → Contains ws w
has ws i w h = (i, slice_get_within ws i w h, get_or_from_slice_get ws i w w h)

pub has_place : (ws : List (List ℕ)) (w : List ℕ) → Contains ws w → (i : ℕ) × (slice_get ws i ≡ Some w)
has_place ws w h = (h.0, slice_get-get_or ws h.0 w h.1 ∙ ap Some h.2)

pub has_still : (old new : List (List ℕ)) → Keeps old new → (w : List ℕ) → Contains old w → Contains new w
has_still old new keeps w h = let p = has_place old w h in has new p.0 w (keeps p.0 w p.1)

pub entered_none : (ws : List (List ℕ)) (P : List ℕ → Type 0) → ((w : List ℕ) → P w → ⊥) → AreEntered ws P ws
entered_none ws P none = record {
  more = omega arith;
  each = λ w p. absurd (none w p);
  only = λ i low high. absurd (omega (arith, low, high));
}

-- one set after the other
pub entered_both : (old mid new : List (List ℕ)) (P Q R : List ℕ → Type 0) → AreEntered old P mid → Keeps mid new → AreEntered mid Q new →
    ((w : List ℕ) → P w → R w) → ((w : List ℕ) → Q w → R w) → ((w : List ℕ) → R w → P w ⊎ Q w) → AreEntered old R new
entered_both old mid new P Q R e keeps f p q r = record {
  more = omega (arith, e.more, f.more);
  each = λ w h. elim (r w h) as (λ _. Contains new w) [
    | inl a ↦ has_still mid new keeps w (e.each w a)
    | inr b ↦ f.each w b
  ];
  only = λ i low high. elim (cases_lt i (length mid)) as (λ _. (w : List ℕ) × (R w × IsPrefix (word new i) w)) [
    | inl before ↦
        let h = e.only i low before in
        (h.0, (p h.0 h.1.0, (h.1.1.0, h.1.1.1 ∙ ap (λ u. u ++ h.1.1.0) (sym (word_kept mid new keeps i before)))))
    | inr after ↦
        let h = f.only i after high in
        (h.0, (q h.0 h.1.0, h.1.1))
  ];
}

-- a word that is a prefix of one of the set entered first
pub entered_first : (old mid new : List (List ℕ)) (x : List ℕ) (Q : List ℕ → Type 0) → Enters old x mid → Keeps mid new → AreEntered mid Q new →
    (w : List ℕ) → Q w → IsPrefix x w → AreEntered old Q new
entered_first old mid new x Q enters keeps f w q prefix = elim enters as (λ _. AreEntered old Q new) [
  | inl h ↦ let P : List (List ℕ) → Type 0 = λ ws. AreEntered ws Q new in subst P h.1 f
  | inr h ↦
      let size : length mid ≡ length old + 1 = ap (λ (ws : List (List ℕ)). length ws) h.1 ∙ length_push old x in
      record {
        more = omega (arith, f.more, size);
        each = f.each;
        only = λ i low high. elim (cases_lt i (length mid)) as (λ _. (w' : List ℕ) × (Q w' × IsPrefix (word new i) w')) [
          | inl before ↦
              let at : length old ≡ i = omega (arith, low, before, size) in
              let here : word mid i ≡ x = ap (λ (ws : List (List ℕ)). word ws i) h.1 ∙ get_or_push old x [] i at in
              let is : word new i ≡ x = word_kept mid new keeps i before ∙ here in
              (w, (q, (prefix.0, prefix.1 ∙ ap (λ u. u ++ prefix.0) (sym is))))
          | inr after ↦ f.only i after high
        ];
      }
]

-- one more mark after the word u
pub marks_more : (old ws new : List (List ℕ)) (u : List ℕ) (marks : List (List ℕ)) (n : ℕ) → AreEntered old (IsMarkAfter u marks n) ws → Keeps ws new →
    (mark : List ℕ) → mark ≡ word marks n → EntersAfter ws u mark new → (i : ℕ) → slice_get new i ≡ Some (u ++ mark) →
    AreEntered old (IsMarkAfter u marks (n + 1)) new
marks_more old ws new u marks n e keeps mark is f i there =
    entered_both old ws new (IsMarkAfter u marks n) (λ w. w ≡ u ++ mark) (IsMarkAfter u marks (n + 1)) e keeps
    (record {
      more = f.more;
      each = λ w h. has new i w (there ∙ ap Some (sym h));
      only = λ j low high.
          let p = f.only j low high in (
            u ++ mark,
            (
              refl,
              (
                drop p.0 mark,
                ap (λ t. u ++ t) (sym (take-append-drop p.0 mark)) ∙ (sym (append_assoc u (take p.0 mark)
                    (drop p.0 mark)) ∙ ap (λ t. t ++ drop p.0 mark) (sym p.1.1)),
              ),
            ),
          );
    })
    (λ w h. (h.0, (omega (arith, h.1.0), h.1.1)))
    (λ w h. (n, (omega arith, h ∙ ap (λ t. u ++ t) is)))
    (λ w h. elim (cases_lt h.0 n) as (λ _. IsMarkAfter u marks n w ⊎ (w ≡ u ++ mark)) [
      | inl low ↦ inl (h.0, (low, h.1.1))
      | inr high ↦ let at : h.0 ≡ n = omega (arith, high, h.1.0) in inr (h.1.1 ∙ ap (λ t. u ++ t) (ap (word marks) at ∙ sym is))
    ])

-- the marks after u, and the products after u and each letter below a
abbrev pub IsSoFar : List ℕ → ℕ → List (List ℕ) → ℕ → ℕ → List ℕ → Type 0
IsSoFar u c marks d a w = IsMarkAfter u marks (length marks) w ⊎ ((b : ℕ) × ((b < a) × IsProductAfter (u ++ b ∷ []) c marks d w))

-- a product after u and a letter is one after u with a letter more
product_longer : (u : List ℕ) (c : ℕ) (marks : List (List ℕ)) (d b : ℕ) (w : List ℕ) → b < c →
    IsProductAfter (u ++ b ∷ []) c marks d w → IsProductAfter u c marks (d + 1) w
product_longer u c marks d b w hb p = record {
  z = b ∷ p.z;
  k = p.k;
  letters = All-cons (λ a. a < c) b p.z hb p.letters;
  short = omega (arith, p.short);
  mark = p.mark;
  is = p.is ∙ append_assoc u (b ∷ []) (p.z ++ word marks p.k);
}

mark_product : (u : List ℕ) (c : ℕ) (marks : List (List ℕ)) (d : ℕ) (w : List ℕ) → IsMarkAfter u marks (length marks) w → IsProductAfter u c marks d w
mark_product u c marks d w h = record {
  z = [];
  k = h.0;
  letters = All-nil (λ a. a < c);
  short = omega arith;
  mark = h.1.0;
  is = h.1.1;
}

product_cases : (u : List ℕ) (c : ℕ) (marks : List (List ℕ)) (d : ℕ) (w : List ℕ) (z : List ℕ) (k : ℕ) →
    All (λ a. a < c) z → length z ≤ d + 1 → k < length marks →
    w ≡ u ++ (z ++ word marks k) → IsSoFar u c marks d c w
product_cases u c marks d w [] k letters short mark is = inl (k, (mark, is))
product_cases u c marks d w (b ∷ z) k letters short mark is = inr (
  b,
  (
    All-head (λ a. a < c) b z letters,
    record {
      z = z;
      k = k;
      letters = All-tail (λ a. a < c) b z letters;
      short = omega (arith, short);
      mark = mark;
      is = is ∙ sym (append_assoc u (b ∷ []) (z ++ word marks k));
    },
  ),
)

-- the end of the letters: all products
pub products_all : (old ws : List (List ℕ)) (u : List ℕ) (c : ℕ) (marks : List (List ℕ)) (d : ℕ) → AreEntered old (IsSoFar u c marks d c) ws →
    AreEntered old (IsProductAfter u c marks (d + 1)) ws
products_all old ws u c marks d e = record {
  more = e.more;
  each = λ w p. e.each w (product_cases u c marks d w p.z p.k p.letters p.short p.mark p.is);
  only = λ i low high.
      let h = e.only i low high in (
        h.0,
        (
          elim h.1.0 as (λ _. IsProductAfter u c marks (d + 1) h.0) [
            | inl m ↦ mark_product u c marks (d + 1) h.0 m
            | inr p ↦ product_longer u c marks d p.0 h.0 p.1.0 p.1.1
          ],
          h.1.1,
        ),
      );
}

-- no letters more: the marks alone
pub products_none : (old ws : List (List ℕ)) (u : List ℕ) (c : ℕ) (marks : List (List ℕ)) → AreEntered old (IsMarkAfter u marks (length marks)) ws →
    AreEntered old (IsProductAfter u c marks 0) ws
products_none old ws u c marks e = record {
  more = e.more;
  each = λ w p. e.each w (p.k, (p.mark, p.is ∙ ap (λ z. u ++ (z ++ word marks p.k)) (nil_from_length p.z (omega (arith, p.short)))));
  only = λ i low high. let h = e.only i low high in (h.0, (mark_product u c marks 0 h.0 h.1.0, h.1.1));
}

pub so_far_none : (old ws : List (List ℕ)) (u : List ℕ) (c : ℕ) (marks : List (List ℕ)) (d : ℕ) → AreEntered old (IsMarkAfter u marks (length marks)) ws →
    AreEntered old (IsSoFar u c marks d 0) ws
so_far_none old ws u c marks d e = record {
  more = e.more;
  each = λ w h. elim h as (λ _. Contains ws w) [ inl m ↦ e.each w m | inr p ↦ absurd (omega (arith, p.1.0)) ];
  only = λ i low high. let h = e.only i low high in (h.0, (inl h.1.0, h.1.1));
}

-- the products after one more letter
pub so_far_more : (old ws mid new : List (List ℕ)) (u : List ℕ) (c : ℕ) (marks : List (List ℕ)) (d a : ℕ) → AreEntered old (IsSoFar u c marks d a) ws →
    Enters ws (u ++ a ∷ []) mid → Keeps ws mid → Keeps mid new → 0 < length marks → AreEntered mid (IsProductAfter (u ++ a ∷ []) c marks d) new →
    AreEntered old (IsSoFar u c marks d (a + 1)) new
so_far_more old ws mid new u c marks d a e enters keeps keeps' some f =
    let first : List ℕ = u ++ a ∷ [] in
    let product : IsProductAfter (u ++ a ∷ []) c marks d ((u ++ a ∷ []) ++ word marks 0) =
    mark_product (u ++ a ∷ []) c marks d ((u ++ a ∷ []) ++ word marks 0) (0, (some, refl)) in
    let g : AreEntered ws (IsProductAfter (u ++ a ∷ []) c marks d) new =
    entered_first ws mid new (u ++ a ∷ []) (IsProductAfter (u ++ a ∷ []) c marks d) enters keeps' f
    ((u ++ a ∷ []) ++ word marks 0) product (word marks 0, refl) in
    entered_both old ws new (IsSoFar u c marks d a) (IsProductAfter (u ++ a ∷ []) c marks d)
    (IsSoFar u c marks d (a + 1)) e (keeps_on ws mid new keeps keeps') g
    (λ w h. elim h as (λ _. IsSoFar u c marks d (a + 1) w) [ inl m ↦ inl m | inr p ↦ inr (p.0, (omega (arith, p.1.0), p.1.1)) ])
    (λ w h. inr (a, (omega arith, h)))
    (λ w h. elim h as (λ _. IsSoFar u c marks d a w ⊎ IsProductAfter (u ++ a ∷ []) c marks d w) [
      | inl m ↦ inl (inl m)
      | inr p ↦ elim (cases_lt p.0 a) as (λ _. IsSoFar u c marks d a w ⊎ IsProductAfter (u ++ a ∷ []) c marks d w) [
        | inl low ↦ inl (inr (p.0, (low, p.1.1)))
        | inr high ↦
            let at : p.0 ≡ a = omega (arith, high, p.1.0) in
            let P : ℕ → Type 0 = λ b. IsProductAfter (u ++ b ∷ []) c marks d w in
            inr (subst P at p.1.1)
      ]
    ])

pub letters_more : (marks : List (List ℕ)) (i : ℕ) → i < length marks → letters_of (drop i marks) ≡ length (word marks i) + letters_of (drop (i + 1) marks)
letters_more marks i h = ap letters_of (drop_more marks i [] h) ∙ sum_by-cons (λ (w : List ℕ). length w) (word marks i) (drop (i + 1) marks)

-- the marks entered so far after a word
pub record IsMarking (old ws : List (List ℕ)) (at : ℕ) (marks : List (List ℕ)) (n : ℕ) : Type 0 where
  pub keeps : Keeps old ws
  pub few : length ws + letters_of (drop n marks) ≤ length old + letters_of marks
  pub entered : AreEntered old (IsMarkAfter (word old at) marks n) ws

pub marking_none : (old : List (List ℕ)) (at : ℕ) (marks : List (List ℕ)) → IsMarking old old at marks 0
marking_none old at marks = record {
  keeps = keeps_itself old;
  few = omega arith;
  entered = entered_none old (IsMarkAfter (word old at) marks 0) (λ w p. omega (arith, p.1.0));
}

pub marking_more : (old ws new : List (List ℕ)) (at : ℕ) (marks : List (List ℕ)) (n : ℕ) → at < length old → IsMarking old ws at marks n → n < length marks →
    (mark : List ℕ) → mark ≡ word marks n → Keeps ws new → EntersAfter ws (word ws at) mark new → (i : ℕ) → slice_get new i ≡ Some (word ws at ++ mark) →
    IsMarking old new at marks (n + 1)
marking_more old ws new at marks n hat m h mark is keeps f i there =
    let same : word ws at ≡ word old at = word_kept old ws m.keeps at hat in
    record {
      keeps = keeps_on old ws new m.keeps keeps;
      few = omega (arith, m.few, f.few, letters_more marks n h, ap (λ (w : List ℕ). length w) is);
      entered = marks_more old ws new (word old at) marks n m.entered keeps mark is (rw (same) at f) i (rw (same) at there);
    }

-- the products entered so far after a word, up to the letter a
pub record IsFilling (old ws : List (List ℕ)) (at c : ℕ) (marks : List (List ℕ)) (d a : ℕ) : Type 0 where
  pub keeps : Keeps old ws
  pub few : length ws ≤ length old + letters_of marks + a * ((letters_of marks + 1) * words_upto c d)
  pub entered : AreEntered old (IsSoFar (word old at) c marks d a) ws

pub filling_none : (old ws : List (List ℕ)) (at c : ℕ) (marks : List (List ℕ)) (d : ℕ) → Keeps old ws → length ws ≤ length old + letters_of marks →
    AreEntered old (IsMarkAfter (word old at) marks (length marks)) ws → IsFilling old ws at c marks d 0
filling_none old ws at c marks d keeps few e = record {
  keeps = keeps;
  few = omega (arith, few);
  entered = so_far_none old ws (word old at) c marks d e;
}

-- how many words an extension adds
enters_few : (old new : List (List ℕ)) (w : List ℕ) → Enters old w new → length new ≤ length old + 1
enters_few old new w (inl h) = omega (arith, ap (λ (x : List (List ℕ)). length x) h.1)
enters_few old new w (inr h) = omega (arith, ap (λ (x : List (List ℕ)). length x) h.1, length_push old w)

module _ (old ws : List (List ℕ)) (at c : ℕ) (marks : List (List ℕ)) (d a : ℕ) (f : IsFilling old ws at c marks d a) (hat : at < length old) (ha : a < c)
    (room : length old + (letters_of marks + 1) * words_upto c (suc d) ≤ 4294967295) where
  -- the words of the letters up to this one
  product_fits : (a + 1) * ((letters_of marks + 1) * words_upto c d) + letters_of marks + 1 ≤ (letters_of marks + 1) * words_upto c (suc d)
  product_fits =
      let x = mul-le (a + 1) ((letters_of marks + 1) * words_upto c d) c ((letters_of marks + 1) * words_upto c d) (omega (arith, ha)) (omega arith) in
      omega (arith, x)

  pub room_for_letter : length ws < 4294967295
  room_for_letter = omega (arith, f.few, room, product_fits)

  module _ (mid : List (List ℕ)) (next : ℕ) (enters : Enters ws (extension_of ws at a) mid) (keeps : Keeps ws mid)
      (there : slice_get mid next ≡ Some (extension_of ws at a)) where
    pub next_is : word mid next ≡ word old at ++ a ∷ []
    next_is = get_or_from_slice_get mid next (extension_of ws at a) [] there ∙ ap (λ u. u ++ a ∷ []) (word_kept old ws f.keeps at hat)

    pub room_for_products : length mid + (letters_of marks + 1) * words_upto c d ≤ 4294967295
    room_for_products = omega (arith, f.few, room, product_fits, enters_few ws mid (extension_of ws at a) enters)

    pub filling_more : (new : List (List ℕ)) → 0 < length marks → Keeps mid new → length new + 1 ≤ length mid + (letters_of marks + 1) * words_upto c d →
        AreEntered mid (IsProductAfter (word mid next) c marks d) new → IsFilling old new at c marks d (a + 1)
    filling_more new some keeps' few e =
        let same : word ws at ≡ word old at = word_kept old ws f.keeps at hat in
        record {
          keeps = keeps_on old ws new f.keeps (keeps_on ws mid new keeps keeps');
          few = omega (arith, f.few, few, enters_few ws mid (extension_of ws at a) enters);
          entered = so_far_more old ws mid new (word old at) c marks d a f.entered (rw (same) at enters) keeps keeps' some (rw (next_is) at e);
        }

pub filling_all : (old ws : List (List ℕ)) (at c : ℕ) (marks : List (List ℕ)) (d : ℕ) → IsFilling old ws at c marks d c →
    (length ws + 1 ≤ length old + (letters_of marks + 1) * words_upto c (suc d)) × AreEntered old (IsProductAfter (word old at) c marks (suc d)) ws
filling_all old ws at c marks d f =
    let one : d + 1 ≡ suc d = omega arith in
    (omega (arith, f.few), rw (one) at (products_all old ws (word old at) c marks d f.entered))

pub room_for_marks : (old : ℕ) (marks : List (List ℕ)) (c d : ℕ) → old + (letters_of marks + 1) * words_upto c d ≤
    4294967295 → old + letters_of marks < 4294967295
room_for_marks old marks c d room =
    let x = mul-le (letters_of marks + 1) 1 (letters_of marks + 1) (words_upto c d) (omega arith) (upto_some c d) in
    omega (arith, x, room)

-- the marks alone add few words
pub few_marks : (old new : ℕ) (marks : List (List ℕ)) (c d : ℕ) → new ≤ old + letters_of marks → new + 1 ≤ old + (letters_of marks + 1) * words_upto c d
few_marks old new marks c d few =
    let x = mul-le (letters_of marks + 1) 1 (letters_of marks + 1) (words_upto c d) (omega arith) (upto_some c d) in
    omega (arith, x, few)
