-- Where a pattern stands among ascending ones.
use Rattle.std.proofs.Common.{◌≡◌, ℕ, zero, suc, ◌+◌, ◌<◌, ◌≤◌, ◌⊎◌, Bool, true, false, List, [], ◌∷◌, length, get_or, refl, ap, sym, ◌∙◌, arith, inl, inr, subst}
use Rattle.std.specs.Prelude.{Contains, Some, slice_get}
use Rattle.std.specs.List.{All, AllByRecursion}
use Rattle.std.proofs.lemmas.List.{length-map}
use Rattle.std.proofs.lemmas.List.Elements.{All-weaker, recursion_from_All}
use Rattle.lin_form.specs.Atom.{atom_truth}
use Rattle.input_classes.specs.Partition.{IsWitnessed, Partition}
use Rattle.std.proofs.lemmas.Option.{slice_get-get_or}
use Rattle.input_classes.specs.Order.{AreAscending, IsPatternBefore}
use Rattle.input_classes.specs.declared.class.Class.{Class}
use Rattle.class_split.specs.inside.Places.{patterns_of}
use Rattle.linear_refuter.specs.Sum.{Tells}
use Rattle.class_split.proofs.Patterns.{false_or_true, never_before_itself}

-- two patterns that agree up to a place, where one is false and the other true
pub before_from : (p q : List Bool) (n : ℕ) → n < length p → n < length q → ((k : ℕ) → k < n → get_or p k false ≡ get_or q k false) → get_or p n false ≡ false → get_or q n false ≡ true → IsPatternBefore p q
before_from [] q n h g same f t = absurd (omega arith)
before_from (a ∷ p) [] n h g same f t = absurd (omega arith)
before_from (a ∷ p) (b ∷ q) zero h g same f t = inl (f, t)
before_from (a ∷ p) (b ∷ q) (suc n) h g same f t = inr (same zero (omega arith), before_from p q n (omega (arith, h)) (omega (arith, g)) (λ k l. same (suc k) (omega (arith, l))) f t)

-- and the other way round, so that the first does not come before
pub not_before_from : (p q : List Bool) (n : ℕ) → n < length p → n < length q → ((k : ℕ) → k < n → get_or p k false ≡ get_or q k false) → get_or p n false ≡ true → get_or q n false ≡ false → IsPatternBefore p q → ⊥
not_before_from [] q n h g same f t b = b
not_before_from (a ∷ p) [] n h g same f t b = b
not_before_from (a ∷ p) (b ∷ q) zero h g same f t o = elim o [ inl e ↦ absurd (let u = e.0 in cc) | inr e ↦ absurd (let u = e.0 in cc) ]
not_before_from (a ∷ p) (b ∷ q) (suc n) h g same f t o =
    elim o [
      | inl e ↦ absurd (let u = e.0 in let v = e.1 in let w = same zero (omega arith) in cc)
      | inr e ↦ not_before_from p q n (omega (arith, h)) (omega (arith, g)) (λ k l. same (suc k) (omega (arith, l))) f t e.1
    ]

-- patterns that agree in all places
pub not_before_same : (p q : List Bool) → length p ≡ length q → ((k : ℕ) → k < length p → get_or p k false ≡ get_or q k false) → IsPatternBefore p q → ⊥
not_before_same [] q n same b = b
not_before_same (a ∷ p) [] n same b = b
not_before_same (a ∷ p) (b ∷ q) n same o =
    elim o [
      | inl e ↦ absurd (let u = e.0 in let v = e.1 in let w = same zero (omega arith) in cc)
      | inr e ↦ not_before_same p q (omega (arith, n)) (λ k l. same (suc k) (omega (arith, l))) e.1
    ]

-- so the second truth tells the order where two patterns first differ
pub tells_before : (p q : List Bool) (n : ℕ) (b : Bool) → n < length p → length p ≡ length q → ((k : ℕ) → k < n → get_or p k false ≡ get_or q k false) → (get_or p n false ≡ b → ⊥) → get_or q n false ≡ b → Tells b (IsPatternBefore p q)
tells_before p q n true h e same f t = elim (false_or_true (get_or p n false)) [ inl u ↦ before_from p q n h (omega (arith, h, e)) same u t | inr u ↦ absurd (f u) ]
tells_before p q n false h e same f t = elim (false_or_true (get_or p n false)) [ inl u ↦ absurd (f u) | inr u ↦ not_before_from p q n h (omega (arith, h, e)) same u t ]

before_both : (p q : List Bool) → IsPatternBefore p q → IsPatternBefore q p → ⊥
before_both [] q h g = h
before_both (a ∷ p) [] h g = h
before_both (a ∷ p) (b ∷ q) h g =
    elim h [
      | inl e ↦ elim g [ inl f ↦ absurd (let u = e.0 in let v = f.1 in cc) | inr f ↦ absurd (let u = e.0 in let v = e.1 in let w = f.0 in cc) ]
      | inr e ↦ elim g [ inl f ↦ absurd (let u = e.0 in let v = f.0 in let w = f.1 in cc) | inr f ↦ before_both p q e.1 f.1 ]
    ]

all_at : {X : Type 0} (P : X → Type 0) (xs : List X) (j : ℕ) (y : X) → AllByRecursion P xs → slice_get xs j ≡ Some y → P y
all_at P [] j y h e = absurd cc
all_at P (x ∷ xs) zero y h e = let q : x ≡ y = cc in subst P q h.0
all_at P (x ∷ xs) (suc j) y h e = all_at P xs j y h.1 e

ascending_at : (ps : List (List Bool)) (i j : ℕ) (p q : List Bool) → AreAscending ps → i < j → slice_get ps i ≡ Some p → slice_get ps j ≡ Some q → IsPatternBefore p q
ascending_at [] i j p q a h e f = absurd cc
ascending_at (r ∷ ps) zero zero p q a h e f = absurd (omega arith)
ascending_at (r ∷ ps) zero (suc j) p q a h e f =
    let b = all_at (IsPatternBefore r) ps j q (recursion_from_All (IsPatternBefore r) ps a.0) f in
    let k : r ≡ p = cc in
    let P : List Bool → Type 0 = λ t. IsPatternBefore t q in
    subst P k b
ascending_at (r ∷ ps) (suc i) zero p q a h e f = absurd (omega arith)
ascending_at (r ∷ ps) (suc i) (suc j) p q a h e f = ascending_at ps i j p q a.1 (omega (arith, h)) e f

-- a pattern stands from one place on and below another
pub record StandsBetween (ps : List (List Bool)) (p : List Bool) (from to : ℕ) : Type 0 where
  pub below : from < to
  pub limit : to ≤ length ps
  pub there : (i : ℕ) → slice_get ps i ≡ Some p → (from ≤ i) × (i < to)

pub below_length : (ps : List (List Bool)) (i : ℕ) (p : List Bool) → slice_get ps i ≡ Some p → i < length ps
below_length [] i p e = absurd cc
below_length (q ∷ ps) zero p e = omega arith
below_length (q ∷ ps) (suc i) p e = let h = below_length ps i p e in omega arith

pub place_of-Contains : (ps : List (List Bool)) (p : List Bool) (h : Contains ps p) → slice_get ps h.0 ≡ Some p
place_of-Contains ps p h = slice_get-get_or ps h.0 p h.1 ∙ ap Some h.2

pub StandsBetween-start : (ps : List (List Bool)) (p : List Bool) → Contains ps p → StandsBetween ps p 0 (length ps)
StandsBetween-start ps p h = record {
  below = let k = below_length ps h.0 p (place_of-Contains ps p h) in omega arith;
  limit = omega arith;
  there = λ i e. (omega arith, below_length ps i p e);
}

trichotomy : (i m : ℕ) → (i < m) ⊎ (m ≤ i)
trichotomy zero zero = inr (omega arith)
trichotomy zero (suc m) = inl (omega arith)
trichotomy (suc i) zero = inr (omega arith)
trichotomy (suc i) (suc m) = elim (trichotomy i m) [ inl h ↦ inl (omega (arith, h)) | inr h ↦ inr (omega (arith, h)) ]

pub StandsBetween-before : (ps : List (List Bool)) (p q : List Bool) (from to m : ℕ) → AreAscending ps → from < m → m < to → slice_get ps m ≡ Some q → IsPatternBefore p q → StandsBetween ps p from to → StandsBetween ps p from m
StandsBetween-before ps p q from to m a l h at b s = record {
  below = l;
  limit = let k = s.limit in omega arith;
  there = λ i e. (
    (s.there i e).0,
    elim (trichotomy i m) [
      | inl k ↦ k
      | inr k ↦ elim (trichotomy m i) [
        | inl j ↦ absurd (before_both p q b (ascending_at ps m i q p a j at e))
        | inr j ↦ absurd (let n : i ≡ m = omega (arith, k, j) in let o : slice_get ps m ≡ Some p = (let P : ℕ → Type 0 = λ t. slice_get ps t ≡ Some p in subst P n e) in let u : q ≡ p = cc in
            let P : List Bool → Type 0 = λ t. IsPatternBefore p t in never_before_itself p (subst P u b))
      ]
    ],
  );
}

pub StandsBetween-after : (ps : List (List Bool)) (p q : List Bool) (from to m : ℕ) → AreAscending ps → m < to → slice_get ps m ≡ Some q → (IsPatternBefore p q → ⊥) → StandsBetween ps p from to → StandsBetween ps p m to
StandsBetween-after ps p q from to m a h at b s = record {
  below = h;
  limit = s.limit;
  there = λ i e. (elim (trichotomy i m) [ inl k ↦ absurd (b (ascending_at ps i m p q a k e at)) | inr k ↦ k ], (s.there i e).1);
}

pub StandsBetween-one : (ps : List (List Bool)) (p : List Bool) (from to : ℕ) → Contains ps p → to ≤ from + 1 → StandsBetween ps p from to → slice_get ps from ≡ Some p
StandsBetween-one ps p from to h g s =
    let at = place_of-Contains ps p h in
    let k = s.there h.0 at in
    let n : h.0 ≡ from = omega (arith, k.0, k.1, g) in
    let P : ℕ → Type 0 = λ t. slice_get ps t ≡ Some p in
    subst P n at

pub pattern_at : (classes : List Class) (m : ℕ) (d : Class) → m < length classes → slice_get (patterns_of classes) m ≡ Some (get_or classes m d).pattern
pattern_at [] m d h = absurd (omega arith)
pattern_at (c ∷ classes) zero d h = refl
pattern_at (c ∷ classes) (suc m) d h = pattern_at classes m d (omega (arith, h))

-- the patterns of a partition have as many truths as it has atoms
pub patterns_as_long : (r : Partition) (n : ℕ) → length r.atoms ≡ n → All (IsWitnessed r) r.classes → All (λ (c : Class). length c.pattern ≡ n) r.classes
patterns_as_long r n e w =
    All-weaker (IsWitnessed r) (λ (c : Class). length c.pattern ≡ n)
    (λ c h. ap length (sym h.member.1) ∙ length-map r.atoms (λ atom. atom_truth atom c.witness) ∙ e) r.classes w
