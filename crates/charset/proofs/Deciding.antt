-- What can be decided of the first n numbers, and their groups by a relation that can be decided.
use Rattle.std.proofs.Common.{◌≡◌, ℕ, ℤ, ◌<◌, List, [], ◌∷◌, ◌++◌, ◌⊎◌, get_or, zero, suc, subst, refl, sym, inl, inr, arith}
use Rattle.std.proofs.lemmas.Bool.{cases_Bool, cases_eq}
use Rattle.std.proofs.lemmas.Bool.Decides.{Decides-int_eq, not_from_Decides}
use Rattle.std.proofs.lemmas.Slice.Eq.{slice_eq-Decides}
use Rattle.std.proofs.Math.Numerals.{suc-eq-add-one}
use Rattle.std.specs.Bool.{Decides}
use Rattle.std.specs.Cmp.Lexicographic.{pointwise}
use Rattle.std.specs.Ordering.{int_eq}
use Rattle.charset.specs.inside.Levels.{IsGrouping, IsLeader}
use Rattle.charset.proofs.Grouping.{grouping_more, grouping_none, leaders, leaders_some}

-- it holds, or it does not
abbrev pub Told : Type 0 → Type 0
Told P = P ⊎ (P → ⊥)

pub answers_told : (xs ys : List (List ℤ)) → Told (xs ≡ ys)
answers_told xs ys =
    let r = pointwise (λ (a b : List ℤ). pointwise int_eq a b) xs ys in
    let same : Decides r (xs ≡ ys) = slice_eq-Decides (λ (a b : List ℤ). slice_eq-Decides Decides-int_eq a b (pointwise int_eq a b) refl) xs ys r refl in
    elim (cases_Bool r) as (λ _. Told (xs ≡ ys)) [
      | inl e ↦ inl (same.0 e)
      | inr e ↦ inr (not_from_Decides r same e)
    ]

-- each of the first n numbers has it, or one has it not
module _ (P : ℕ → Type 0) (told : (k : ℕ) → Told (P k)) where
  pub all_or_one : (n : ℕ) → ((k : ℕ) → k < n → P k) ⊎ ((k : ℕ) × (k < n) × (P k → ⊥))
  all_or_one zero = inl (λ k h. absurd (omega (arith, h)))
  all_or_one (suc n) =
      let Goal : Type 0 = ((k : ℕ) → k < suc n → P k) ⊎ ((k : ℕ) × (k < suc n) × (P k → ⊥)) in
      elim (told n) as (λ _. Goal) [
        | inr d ↦ inr (n, omega arith, d)
        | inl p ↦ elim (all_or_one n) as (λ _. Goal) [
          | inr one ↦ inr (one.0, omega (arith, one.1), one.2)
          | inl all ↦ inl (λ k h. elim (cases_eq k n) as (λ _. P k) [
            | inl e ↦ let e' : k ≡ n = e in subst P (sym e') p
            | inr d ↦ all k (omega (arith, h, d))
          ])
        ]
      ]

  pub all_told : (n : ℕ) → Told ((k : ℕ) → k < n → P k)
  all_told n = elim (all_or_one n) as (λ _. Told ((k : ℕ) → k < n → P k)) [
    | inl all ↦ inl all
    | inr one ↦ inr (λ all. one.2 (all one.0 one.1))
  ]

pub both_told : (P Q : Type 0) → Told P → Told Q → Told (P × Q)
both_told P Q (inl p) (inl q) = inl (p, q)
both_told P Q (inl p) (inr d) = inr (λ h. d h.1)
both_told P Q (inr d) q = inr (λ h. d h.0)

not_told : (P : Type 0) → Told P → Told (P → ⊥)
not_told P (inl p) = inr (λ d. d p)
not_told P (inr d) = inl d

-- the groups of the first n numbers, of which there are more than k
pub record HasGroups (n k : ℕ) (R : ℕ → ℕ → Type 0) : Type 0 where
  pub names : List ℕ
  pub groups : IsGrouping n names R
  pub many : k < leaders names n

module _ (R : ℕ → ℕ → Type 0) (told : (s t : ℕ) → Told (R s t)) (itself : (s : ℕ) → R s s) (flip : (s t : ℕ) → R s t → R t s)
    (chain : (s t u : ℕ) → R s t → R t u → R s u) where
  -- the earlier number u leads the group of the number at
  abbrev Leads : List ℕ → ℕ → ℕ → Type 0
  Leads names at u = (get_or names u 0 ≡ u) × R u at

  leads_told : (names : List ℕ) (at u : ℕ) → Told (Leads names at u)
  leads_told names at u = both_told (get_or names u 0 ≡ u) (R u at) (cases_eq (get_or names u 0) u) (told u at)

  leader : (names : List ℕ) (at : ℕ) → (l : ℕ) × IsLeader names R at l
  leader names at =
      let one_leads = all_or_one (λ u. Leads names at u → ⊥) (λ u. not_told (Leads names at u) (leads_told names at u)) at in
      elim one_leads as (λ _. (l : ℕ) × IsLeader names R at l) [
        | inl none ↦ (at, record { upto = omega arith; earlier = λ h. absurd (omega (arith, h)); none = λ _ u h e r. none u h (e, r) })
        | inr one ↦ elim (leads_told names at one.0) as (λ _. (l : ℕ) × IsLeader names R at l) [
          | inl x ↦ (one.0, record { upto = omega (arith, one.1); earlier = λ _. x; none = λ e. absurd (omega (arith, e, one.1)) })
          | inr d ↦ absurd (one.2 d)
        ]
      ]

  pub grouping_of : (n : ℕ) → (names : List ℕ) × IsGrouping n names R
  grouping_of zero = ([], grouping_none R itself flip chain)
  grouping_of (suc n) =
      let g = grouping_of n in
      let l = leader g.0 n in
      (g.0 ++ l.0 ∷ [], rw (suc-eq-add-one n) (grouping_more R itself flip chain g.0 n g.1 l.0 l.1))

  pub some_groups : (n : ℕ) → 0 < n → HasGroups n 0 R
  some_groups n some =
      let g = grouping_of n in
      record {
        names = g.0;
        groups = g.1;
        many = leaders_some g.0 n (omega (arith, g.1.low 0 some)) some;
      }
