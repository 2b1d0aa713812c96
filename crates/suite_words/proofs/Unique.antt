-- There is at most one cover, one list of marks and one list of tests.
use Rattle.std.proofs.Common.{◌≡◌, ℕ, ℤ, ◌<◌, ◌≤◌, ◌⊎◌, List, [], ◌∷◌, ◌++◌, length, get_or, slice_get, Some, zero, suc, subst, refl, ap, sym, ◌∙◌, inl, inr, append_assoc, arith}
use Rattle.std.proofs.Math.Seq.{take-append_seam}
use Rattle.std.proofs.lemmas.Bool.{cases_eq}
use Rattle.std.proofs.lemmas.List.{append-nil}
use Rattle.std.specs.List.{All, AllPairs, Contains}
use Rattle.word_pool.specs.Order.{IsBelow, IsBefore}
use Rattle.word_pool.proofs.Orders.{below_itself, below_trans}
use Rattle.word_pool.proofs.CallerLemmas.{before_itself, before_trans, up_to_both}
use Rattle.suite_words.specs.Cover.{IsFirstOfItsKind, IsCoverBy}
use Rattle.suite_words.specs.Marks.{AreMarksBy, IsNextMark}
use Rattle.suite_words.specs.Tests.{AreLongest, AreTests, IsLongest, IsProduct}

module _ (R : List ℕ → List ℕ → Type 0) where
  in_cons : (x : List ℕ) (xs : List (List ℕ)) (z : List ℕ) (k : ℕ) → k < length (x ∷ xs) → get_or (x ∷ xs) k z ≡ z → (x ≡ z) ⊎ Contains xs z
  in_cons x xs z zero h e = inl e
  in_cons x xs z (suc k) h e = inr (k, omega (arith, h), e)

  in_list : (x : List ℕ) (xs : List (List ℕ)) (z : List ℕ) → Contains (x ∷ xs) z → (x ≡ z) ⊎ Contains xs z
  in_list x xs z c = in_cons x xs z c.0 c.1 c.2

  later : (x : List ℕ) (xs : List (List ℕ)) (z : List ℕ) → Contains xs z → Contains (x ∷ xs) z
  later x xs z c = (suc c.0, omega (arith, c.1), c.2)

  first : (x : List ℕ) (xs : List (List ℕ)) → Contains (x ∷ xs) x
  first x xs = (0, omega arith, refl)

  none : (z : List ℕ) → Contains [] z → ⊥
  none z c = omega (arith, c.1)

  head : (x : List ℕ) (xs : List (List ℕ)) → AllPairs R (x ∷ xs) → (z : List ℕ) → Contains xs z → R x z
  head x xs p z c = let P : List ℕ → Type 0 = λ y. R x y in subst P c.2 (p 0 (suc c.0) z (omega arith) (omega (arith, c.1)))

  tail : (x : List ℕ) (xs : List (List ℕ)) → AllPairs R (x ∷ xs) → AllPairs R xs
  tail x xs p i j d h k = p (suc i) (suc j) d (omega (arith, h)) (omega (arith, k))

  module _ (irreflexive : (x : List ℕ) → R x x → ⊥) (trans : (x y z : List ℕ) → R x y → R y z → R x z) where
    same_head : (x : List ℕ) (xs : List (List ℕ)) (y : List ℕ) (ys : List (List ℕ)) → AllPairs R (x ∷ xs) → AllPairs R (y ∷ ys) →
        Contains (y ∷ ys) x → Contains (x ∷ xs) y → x ≡ y
    same_head x xs y ys p q hx hy = elim (in_list y ys x hx) as (λ _. x ≡ y) [
      | inl e ↦ sym e
      | inr c ↦ elim (in_list x xs y hy) as (λ _. x ≡ y) [
        | inl e ↦ e
        | inr d ↦ absurd (irreflexive x (trans x y x (head x xs p y d) (head y ys q x c)))
      ]
    ]

    in_tail : (x : List ℕ) (xs ys : List (List ℕ)) → AllPairs R (x ∷ xs) → (z : List ℕ) → Contains xs z → Contains (x ∷ ys) z → Contains ys z
    in_tail x xs ys p z c d = elim (in_list x ys z d) as (λ _. Contains ys z) [
      | inl e ↦ absurd (irreflexive x (let P : List ℕ → Type 0 = λ y. R x y in subst P (sym e) (head x xs p z c)))
      | inr h ↦ h
    ]

    -- two ordered lists of the same words are one
    pub one_list : (xs ys : List (List ℕ)) → AllPairs R xs → AllPairs R ys → ((z : List ℕ) → Contains xs z → Contains ys z) → ((z : List ℕ) → Contains ys z → Contains xs z) → xs ≡ ys
    one_list [] [] p q f g = refl
    one_list [] (y ∷ ys) p q f g = absurd (none y (g y (first y ys)))
    one_list (x ∷ xs) [] p q f g = absurd (none x (f x (first x xs)))
    one_list (x ∷ xs) (y ∷ ys) p q f g =
        let e : x ≡ y = same_head x xs y ys p q (f x (first x xs)) (g y (first y ys)) in
        let d : y ≡ x = sym e in
        let f' : (z : List ℕ) → Contains xs z → Contains (x ∷ ys) z = λ z c. let P : List ℕ → Type 0 = λ u. Contains (u ∷ ys) z in subst P d (f z (later x xs z c)) in
        let g' : (z : List ℕ) → Contains ys z → Contains (y ∷ xs) z = λ z c. let P : List ℕ → Type 0 = λ u. Contains (u ∷ xs) z in subst P e (g z (later y ys z c)) in
        let r = one_list xs ys (tail x xs p) (tail y ys q) (λ z c. in_tail x xs ys p z c (f' z c)) (λ z c. in_tail y ys xs q z c (g' z c)) in
        cc (e, r)

-- what holds of all holds of each
member : (xs : List (List ℕ)) (P : List ℕ → Type 0) → All P xs → (z : List ℕ) → Contains xs z → P z
member xs P all z c = subst P c.2 (all c.0 z c.1)

pub cover_unique : (c : ℕ) (Alike : List ℕ → List ℕ → Type 0) (xs ys : List (List ℕ)) → IsCoverBy c Alike xs → IsCoverBy c Alike ys → xs ≡ ys
cover_unique c Alike xs ys x y = one_list IsBefore before_itself before_trans xs ys x.ordered y.ordered
    (λ z h. y.each z (member xs (IsFirstOfItsKind c Alike) x.only z h)) (λ z h. x.each z (member ys (IsFirstOfItsKind c Alike) y.only z h))

pub longest_unique : (P : List ℕ → Type 0) (xs ys : List (List ℕ)) → AreLongest P xs → AreLongest P ys → xs ≡ ys
longest_unique P xs ys x y = one_list IsBelow below_itself below_trans xs ys x.ascending y.ascending
    (λ z h. y.each z (member xs (IsLongest P) x.only z h)) (λ z h. x.each z (member ys (IsLongest P) y.only z h))

pub tests_unique : (c : ℕ) (cover marks : List (List ℕ)) (d : ℕ) (xs ys : List (List ℕ)) → AreTests c cover marks d xs → AreTests c cover marks d ys → xs ≡ ys
tests_unique c cover marks d xs ys x y = longest_unique (IsProduct c cover marks d) xs ys x y

slice_get_seam : (done : List (List ℕ)) (w : List ℕ) (xs : List (List ℕ)) → slice_get (done ++ w ∷ xs) (length done) ≡ Some w
slice_get_seam [] w xs = refl
slice_get_seam (u ∷ done) w xs = slice_get_seam done w xs

module _ (f : ℕ → List ℕ → List (List ℤ)) (n c : ℕ) where
  same_p : (p q r s : ℕ) → (p < r) ⊎ ((p ≡ r) × (q ≤ s)) → (r < p) ⊎ ((r ≡ p) × (s ≤ q)) → (p ≡ r) × (q ≡ s)
  same_p p q r s (inl h) (inl k) = absurd (omega (arith, h, k))
  same_p p q r s (inl h) (inr k) = absurd (omega (arith, h, k.0))
  same_p p q r s (inr h) (inl k) = absurd (omega (arith, h.0, k))
  same_p p q r s (inr h) (inr k) = (h.0, omega (arith, h.1, k.1))

  mark_unique : (marks : List (List ℕ)) (w v : List ℕ) → IsNextMark f n c marks w → IsNextMark f n c marks v → w ≡ v
  mark_unique marks w v a b =
      let e = same_p a.p a.q b.p b.q (a.first b.p b.q b.before b.inside b.agree) (b.first a.p a.q a.before a.inside a.agree) in
      let p : a.p ≡ b.p = e.0 in
      let q : a.q ≡ b.q = e.1 in
      up_to_both w v
      (a.least v b.letters (λ d. b.differ (ap (λ i. f i v) (sym p) ∙ (d ∙ ap (λ i. f i v) q))))
      (b.least w a.letters (λ d. a.differ (ap (λ i. f i w) p ∙ (d ∙ ap (λ i. f i w) (sym q)))))

  next_at : (done : List (List ℕ)) (w : List ℕ) (xs : List (List ℕ)) → 1 < n → AreMarksBy f n c (done ++ w ∷ xs) → IsNextMark f n c done w
  next_at done w xs many x = rw (take-append_seam done (w ∷ xs)) at (x.next (length done) w many (slice_get_seam done w xs))

  -- no mark comes after the last
  no_next : (done : List (List ℕ)) (w : List ℕ) (xs : List (List ℕ)) → 1 < n → AreMarksBy f n c (done ++ w ∷ xs) → AreMarksBy f n c (done ++ []) → ⊥
  no_next done w xs many x y =
      let m = next_at done w xs many x in
      let P : List (List ℕ) → Type 0 = λ zs. AreMarksBy f n c zs in
      (subst P (append-nil done) y).ends m.p m.q m.before m.inside m.agree

  -- what comes after marks that are alike is alike
  rest : (done xs ys : List (List ℕ)) → 1 < n → AreMarksBy f n c (done ++ xs) → AreMarksBy f n c (done ++ ys) → done ++ xs ≡ done ++ ys
  rest done [] [] many x y = refl
  rest done (w ∷ xs) [] many x y = absurd (no_next done w xs many x y)
  rest done [] (w ∷ ys) many x y = absurd (no_next done w ys many y x)
  rest done (w ∷ xs) (v ∷ ys) many x y =
      let e : w ≡ v = mark_unique done w v (next_at done w xs many x) (next_at done v ys many y) in
      let P : List (List ℕ) → Type 0 = λ zs. AreMarksBy f n c zs in
      let Q : List ℕ → Type 0 = λ u. AreMarksBy f n c (done ++ u ∷ ys) in
      let r = rest (done ++ w ∷ []) xs ys many (subst P (sym (append_assoc done (w ∷ []) xs)) x) (subst P (sym (append_assoc done (w ∷ []) ys)) (subst Q (sym e) y)) in
      sym (append_assoc done (w ∷ []) xs) ∙ (r ∙ (append_assoc done (w ∷ []) ys ∙ ap (λ u. done ++ u ∷ ys) e))

pub marks_unique : (f : ℕ → List ℕ → List (List ℤ)) (n c : ℕ) (xs ys : List (List ℕ)) → 0 < n → AreMarksBy f n c xs → AreMarksBy f n c ys → xs ≡ ys
marks_unique f n c xs ys some x y = elim (cases_eq n 1) as (λ _. xs ≡ ys) [
  | inl e ↦ x.one e ∙ sym (y.one e)
  | inr d ↦ rest f n c [] xs ys (omega (arith, some, d)) x y
]
