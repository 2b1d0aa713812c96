-- The products of a whole cover, and that the ends of the pool are the tests.
use Rattle.std.proofs.Common.{◌≡◌, ℕ, ◌+◌, ◌-◌, ◌*◌, ◌<◌, ◌≤◌, List, [], ◌∷◌, ◌++◌, length, get_or, take, drop, map}
use Rattle.std.proofs.Common.{slice_get, Some, zero, suc, Contains, refl, ap, sym, ◌∙◌, ◌⊎◌, inl, inr, All, AllPairs}
use Rattle.std.proofs.Common.{subst, append_assoc, arith}
use Rattle.std.proofs.lemmas.Bool.{cases_eq, cases_lt}
use Rattle.std.proofs.lemmas.Nat.{mul-le}
use Rattle.std.proofs.lemmas.List.{append-nil, get_or_append_left, get_or-append_right, get_or_default, length-append, length-map}
use Rattle.std.proofs.lemmas.List.Elements.{All-get_or, All-from_get_or, All-nil}
use Rattle.word_pool.specs.Words.{word, Keeps, IsProperPrefix}
use Rattle.word_pool.specs.Order.{AreEnds, IsBelow, IsEnd}
use Rattle.word_pool.specs.Words.{AreIds, words_at}
use Rattle.word_pool.proofs.CallerLemmas.{keeps_itself, keeps_on, word_at, word_kept}
use Rattle.suite_build.specs.inside.Entered.{AreEntered, letters_of}
use Rattle.word_pool.specs.Words.{ArePrefixesOf, IsPrefix}
use Rattle.suite_words.specs.Tests.{AreTests, IsProduct, IsProductAfter, IsLongest}
use Rattle.suite_build.specs.Steps.{words_upto}
use Rattle.suite_build.proofs.Entered.{entered_both, entered_none}

-- a product that is a proper prefix of none
abbrev IsTest : ℕ → List (List ℕ) → List (List ℕ) → ℕ → List ℕ → Type 0
IsTest c cover marks d w = IsLongest (IsProduct c cover marks d) w

-- the products of the first n words of a cover
abbrev pub IsProductBelow : List (List ℕ) → ℕ → List (List ℕ) → ℕ → ℕ → List ℕ → Type 0
IsProductBelow cover c marks d n w = (i : ℕ) × ((i < n) × IsProductAfter (word cover i) c marks d w)

pub record IsCovering (old ws : List (List ℕ)) (ids : List ℕ) (c : ℕ) (marks : List (List ℕ)) (d n : ℕ) : Type 0 where
  pub keeps : Keeps old ws
  pub few : length ws ≤ length old + n * ((letters_of marks + 1) * words_upto c d)
  pub entered : AreEntered old (IsProductBelow (words_at old ids) c marks d n) ws

pub covering_none : (old : List (List ℕ)) (ids : List ℕ) (c : ℕ) (marks : List (List ℕ)) (d : ℕ) → IsCovering old old ids c marks d 0
covering_none old ids c marks d = record {
  keeps = keeps_itself old;
  few = omega arith;
  entered = entered_none old (IsProductBelow (words_at old ids) c marks d 0) (λ w p. omega (arith, p.1.0));
}

pub covering_room : (old ws : List (List ℕ)) (ids : List ℕ) (c : ℕ) (marks : List (List ℕ)) (d n : ℕ) → IsCovering old ws ids c marks d n → n < length ids →
    length old + length ids * ((letters_of marks + 1) * words_upto c d) ≤ 4294967295 → length ws + (letters_of marks + 1) * words_upto c d ≤ 4294967295
covering_room old ws ids c marks d n v h room =
    let x = mul-le (n + 1) ((letters_of marks + 1) * words_upto c d) (length ids) ((letters_of marks + 1) * words_upto c d) (omega (arith, h)) (omega arith) in
    omega (arith, x, v.few, room)

pub covering_more : (old ws new : List (List ℕ)) (ids : List ℕ) (c : ℕ) (marks : List (List ℕ)) (d n : ℕ) →
    IsCovering old ws ids c marks d n → AreIds old ids → n < length ids →
    (id : ℕ) → id ≡ get_or ids n 0 → Keeps ws new → length new + 1 ≤ length ws + (letters_of marks + 1) * words_upto c d →
    AreEntered ws (IsProductAfter (word ws id) c marks d) new → IsCovering old new ids c marks d (n + 1)
covering_more old ws new ids c marks d n v are h id is keeps few e =
    let inside : id < length old = rw (is) (All-get_or (λ i. i < length old) ids n 0 h are) in
    let same : word ws id ≡ word (words_at old ids) n = word_kept old ws v.keeps id inside ∙ (ap (word old) is ∙ sym (word_at old ids n h)) in
    record {
      keeps = keeps_on old ws new v.keeps keeps;
      few = omega (arith, v.few, few);
      entered = entered_both old ws new (IsProductBelow (words_at old ids) c marks d n) (IsProductAfter (word (words_at old ids) n) c marks d)
          (IsProductBelow (words_at old ids) c marks d (n + 1)) v.entered keeps (rw (same) at e)
          (λ w p. (p.0, (omega (arith, p.1.0), p.1.1)))
          (λ w p. (n, (omega arith, p)))
          (λ w p. elim (cases_lt p.0 n) as (λ _. IsProductBelow (words_at old ids) c marks d n w ⊎ IsProductAfter (word (words_at old ids) n) c marks d w) [
            | inl low ↦ inl (p.0, (low, p.1.1))
            | inr high ↦
                let at : p.0 ≡ n = omega (arith, high, p.1.0) in
                let P : ℕ → Type 0 = λ k. IsProductAfter (word (words_at old ids) k) c marks d w in
                inr (subst P at p.1.1)
          ]);
    }

pub covering_all : (old ws : List (List ℕ)) (ids : List ℕ) (c : ℕ) (marks : List (List ℕ)) (d n : ℕ) → IsCovering old ws ids c marks d n → n ≡ length ids →
    AreEntered old (IsProduct c (words_at old ids) marks d) ws
covering_all old ws ids c marks d n v end =
    let size : length (words_at old ids) ≡ length ids = length-map ids (word old) in
    record {
      more = v.entered.more;
      each = λ w p. v.entered.each w (p.i, (omega (arith, p.in_cover, size, end), p.after));
      only = λ i low high.
          let h = v.entered.only i low high in
          (h.0, (record { i = h.1.0.0; in_cover = omega (arith, h.1.0.1.0, size, end); after = h.1.0.1.1 }, h.1.1));
    }

found_at : (ws : List (List ℕ)) (w : List ℕ) (h : Contains ws w) → word ws h.0 ≡ w
found_at ws w h = get_or_default ws h.0 [] w h.1 ∙ h.2

-- the pool after the products were entered
module _ (old new : List (List ℕ)) (c : ℕ) (cover marks : List (List ℕ)) (d : ℕ) (keeps : Keeps old new) (e : AreEntered old (IsProduct c cover marks d) new)
    (front : ArePrefixesOf old (cover ++ marks)) (empty : Contains cover []) (some : 0 < length marks) where
  -- each word of the pool is a prefix of a product
  prefix_of_product : (i : ℕ) → i < length new → (w : List ℕ) × (IsProduct c cover marks d w × IsPrefix (word new i) w)
  prefix_of_product i h = elim (cases_lt i (length old)) as (λ _. (w : List ℕ) × (IsProduct c cover marks d w × IsPrefix (word new i) w)) [
    | inr after ↦ e.only i after h
    | inl before ↦
        let f = front i before in
        let same : word new i ≡ word old i = word_kept old new keeps i before in
        elim (cases_lt f.0 (length cover)) as (λ _. (w : List ℕ) × (IsProduct c cover marks d w × IsPrefix (word new i) w)) [
          | inl low ↦
              let is : word cover f.0 ≡ word new i ++ f.1.1.0 = sym (get_or_append_left cover marks [] f.0 low) ∙
              (f.1.1.1 ∙ ap (λ u. u ++ f.1.1.0) (sym same)) in (
                word cover f.0 ++ word marks 0,
                (
                  record {
                    i = f.0;
                    in_cover = low;
                    after = record {
                      z = [];
                      k = 0;
                      letters =
                          All-nil (λ a. a < c);
                      short = omega arith;
                      mark = some;
                      is = refl;
                    };
                  },
                  (f.1.1.0 ++ word marks 0, ap (λ u. u ++ word marks 0) is ∙ append_assoc (word new i) f.1.1.0 (word marks 0)),
                ),
              )
          | inr high ↦
              let k : ℕ = f.0 - length cover in
              let inside : f.0 - length cover < length marks = omega (arith, f.1.0, length-append cover marks, high) in
              let is : word marks (f.0 - length cover) ≡ word new i ++ f.1.1.0 =
              sym (get_or-append_right cover marks (length cover) f.0 [] refl high) ∙ (f.1.1.1 ∙ ap (λ u. u ++ f.1.1.0) (sym same)) in
              let root : word cover empty.0 ≡ [] = empty.2 in (
                word cover empty.0 ++ word marks (f.0 - length cover),
                (
                  record {
                    i = empty.0;
                    in_cover = empty.1;
                    after = record {
                      z = [];
                      k = f.0 - length cover;
                      letters =
                          All-nil (λ a. a < c);
                      short = omega arith;
                      mark = inside;
                      is = refl;
                    };
                  },
                  (f.1.1.0, ap (λ u. u ++ word marks (f.0 - length cover)) root ∙ is),
                ),
              )
        ]
  ]

  -- a word that a product goes on from is none at which the pool ends
  end_is_product : (i : ℕ) → IsEnd new i → (w v : List ℕ) → IsProduct c cover marks d w → w ≡ word new i ++ v → IsProduct c cover marks d (word new i)
  end_is_product i end w [] p is = let P : List ℕ → Type 0 = λ u. IsProduct c cover marks d u in subst P (is ∙ append-nil (word new i)) p
  end_is_product i end w (a ∷ v) p is =
      let h = e.each w p in
      absurd (end.longest h.0 h.1 (a, (v, found_at new w h ∙ is)))

  test_of_end : (i : ℕ) → IsEnd new i → IsTest c cover marks d (word new i)
  test_of_end i end =
      let p = prefix_of_product i end.inside in
      record {
        product = end_is_product i end p.0 p.1.1.0 p.1.0 p.1.1.1;
        longest = λ u q x. let h = e.each u q in end.longest h.0 h.1 (x.0, (x.1.0, found_at new u h ∙ x.1.1));
      }

  -- a test is in the pool, and the pool ends there
  end_of_test : (w : List ℕ) → IsTest c cover marks d w → (i : ℕ) × (IsEnd new i × (word new i ≡ w))
  end_of_test w t =
      let h = e.each w t.product in
      let at : word new h.0 ≡ w = found_at new w h in (
        h.0,
        (
          record {
            inside = h.1;
            longest = λ k hk x.
                let p = prefix_of_product k hk in
                let is : p.0 ≡ w ++ (x.0 ∷ (x.1.0 ++ p.1.1.0)) =
                p.1.1.1 ∙ (ap (λ u. u ++ p.1.1.0) (x.1.1 ∙ ap (λ u. u ++ x.0 ∷ x.1.0) at) ∙ append_assoc w (x.0 ∷ x.1.0) p.1.1.0) in
                t.longest p.0 p.1.0 (x.0, (x.1.0 ++ p.1.1.0, is));
          },
          at,
        ),
      )

  pub tests_exact : (ids : List ℕ) → AreEnds new ids → AreTests c cover marks d (words_at new ids)
  tests_exact ids ends =
      let size : length (words_at new ids) ≡ length ids = length-map ids (word new) in
      record {
        only = All-from_get_or (IsTest c cover marks d) (words_at new ids) [] (λ k h.
            let hk : k < length ids = omega (arith, h, size) in
            rw (word_at new ids k hk) (test_of_end (get_or ids k 0) (All-get_or (IsEnd new) ids k 0 hk ends.ends)));
        each = λ w t.
            let p = end_of_test w t in
            let q = ends.each p.0 p.1.0 in
            let k = q.0 in
            let place : get_or ids q.0 0 ≡ p.0 = get_or_default ids q.0 0 p.0 q.1 ∙ q.2 in
            let inside : q.0 < length (words_at new ids) = omega (arith, q.1, size) in
            let here : word (words_at new ids) q.0 ≡ w = word_at new ids q.0 q.1 ∙ (ap (word new) place ∙ p.1.1) in
            (q.0, inside, get_or_default (words_at new ids) q.0 w [] inside ∙ here);
        ascending = λ i j x less hj.
            let hj' : j < length ids = omega (arith, hj, size) in
            let hi' : i < length ids = omega (arith, less, hj') in
            let a : get_or (words_at new ids) i x ≡ word new (get_or ids i 0) = get_or_default (words_at new ids) i x
            [] (omega (arith, less, hj)) ∙ word_at new ids i hi' in
            let b : get_or (words_at new ids) j x ≡ word new (get_or ids j 0) = get_or_default (words_at new ids) j x [] hj ∙ word_at new ids j hj' in
            rw (a, b) (ends.ascending i j 0 less hj');
      }
