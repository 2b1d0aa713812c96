-- A box has one partition by given atoms: ascending patterns with the same members, and least vectors.
use Rattle.std.proofs.Common.{subst, ◌≡◌, inl, inr, ℤ, Bool, List, [], ◌∷◌, map, Contains, refl, sym, ◌∙◌, arith}
use Rattle.std.specs.List.{All}
use Rattle.std.proofs.lemmas.Bool.{false≢true}
use Rattle.std.proofs.lemmas.Int.{ints}
use Rattle.std.proofs.lemmas.List.Elements.{All-contains, All-head, All-tail}
use Rattle.input_classes.specs.declared.class.Class.{Class}
use Rattle.input_classes.specs.Order.{IsAtMost, IsPatternBefore, AreAscending}
use Rattle.input_classes.specs.Partition.{Partition, IsPartition, IsWitnessed, patterns}
use Rattle.input_classes.proofs.Finding.{contains_cases, contains_first, contains_later, contains_none}

pub IsAtMost-itself : (xs : List ℤ) → IsAtMost xs xs
IsAtMost-itself [] = tt
IsAtMost-itself (x ∷ xs) = inr (refl, IsAtMost-itself xs)

pub IsAtMost-same : (xs ys : List ℤ) → IsAtMost xs ys → IsAtMost ys xs → xs ≡ ys
IsAtMost-same [] [] a b = refl
IsAtMost-same [] (y ∷ ys) a b = absurd b
IsAtMost-same (x ∷ xs) [] a b = absurd a
IsAtMost-same (x ∷ xs) (y ∷ ys) (inl h) (inl k) = absurd (omega (arith, ints, h, k))
IsAtMost-same (x ∷ xs) (y ∷ ys) (inl h) (inr k) = let e = k.0 in absurd (omega (arith, ints, h, e))
IsAtMost-same (x ∷ xs) (y ∷ ys) (inr h) (inl k) = let e = h.0 in absurd (omega (arith, ints, k, e))
IsAtMost-same (x ∷ xs) (y ∷ ys) (inr h) (inr k) = λ i. h.0 i ∷ IsAtMost-same xs ys h.1 k.1 i

pub IsPatternBefore-never : (p q : List Bool) → IsPatternBefore p q → IsPatternBefore q p → ⊥
IsPatternBefore-never [] q a b = a
IsPatternBefore-never (x ∷ p) [] a b = a
IsPatternBefore-never (x ∷ p) (y ∷ q) (inl h) (inl k) = false≢true (sym h.0 ∙ k.1)
IsPatternBefore-never (x ∷ p) (y ∷ q) (inl h) (inr k) = false≢true (sym h.0 ∙ sym k.0 ∙ h.1)
IsPatternBefore-never (x ∷ p) (y ∷ q) (inr h) (inl k) = false≢true (sym k.0 ∙ sym h.0 ∙ k.1)
IsPatternBefore-never (x ∷ p) (y ∷ q) (inr h) (inr k) = IsPatternBefore-never p q h.1 k.1

module _ (p : List Bool) (ps : List (List Bool)) (q : List Bool) (qs : List (List Bool)) (a : AreAscending (p ∷ ps)) (b : AreAscending (q ∷ qs)) where
  -- the first of two ascending lists that contain each other's first
  first_same : Contains (q ∷ qs) p → Contains (p ∷ ps) q → p ≡ q
  first_same h k =
      elim (contains_cases q p qs h) [
        | inl e ↦ sym e
        | inr later ↦ elim (contains_cases p q ps k) [
          | inl e ↦ e
          | inr other ↦ absurd (IsPatternBefore-never p q (All-contains (IsPatternBefore p) ps q a.0 other) (All-contains (IsPatternBefore q) qs p b.0 later))
        ]
      ]

  -- a later member of the first list is a later one of the second
  later_in : p ≡ q → ((x : List Bool) → Contains (p ∷ ps) x → Contains (q ∷ qs) x) → (x : List Bool) → Contains ps x → Contains qs x
  later_in e h x k =
      elim (contains_cases q x qs (h x (contains_later p x ps k))) [
        | inr later ↦ later
        | inl same ↦ (let before : IsPatternBefore p p = subst (IsPatternBefore p) (sym same ∙ sym e) (All-contains (IsPatternBefore p) ps x a.0 k) in absurd (IsPatternBefore-never p p before before))
      ]

pub ascending_same : (ps qs : List (List Bool)) → AreAscending ps → AreAscending qs → ((p : List Bool) → Contains ps p → Contains qs p) → ((p : List Bool) → Contains qs p → Contains ps p) → ps ≡ qs
ascending_same [] [] a b h k = refl
ascending_same [] (q ∷ qs) a b h k = absurd (contains_none q (k q (contains_first q qs)))
ascending_same (p ∷ ps) [] a b h k = absurd (contains_none p (h p (contains_first p ps)))
ascending_same (p ∷ ps) (q ∷ qs) a b h k =
    let e = first_same p ps q qs a b (h p (contains_first p ps)) (k q (contains_first q qs)) in
    let rest = ascending_same ps qs a.1 b.1 (later_in p ps q qs a b e h) (later_in q qs p ps b a (sym e) k) in
    λ i. e i ∷ rest i

-- the pattern of a class is that of a vector of the box
is_pattern : (r : Partition) (classes : List Class) → All (IsWitnessed r) classes → (other : List (List Bool)) → ((c : Class) → IsWitnessed r c → Contains other c.pattern) → (p : List Bool) → Contains (map (λ (c : Class). c.pattern) classes) p → Contains other p
is_pattern r [] w other f p h = absurd (contains_none p h)
is_pattern r (c ∷ classes) w other f p h =
    elim (contains_cases c.pattern p (map (λ (c : Class). c.pattern) classes) h) [
      | inl e ↦ subst (Contains other) e (f c (All-head (IsWitnessed r) c classes w))
      | inr later ↦ is_pattern r classes (All-tail (IsWitnessed r) c classes w) other f p later
    ]

module _ (r : Partition) (classes : List Class) where
  abbrev q : Partition
  q = record { atoms = r.atoms; ranges = r.ranges; assumed = r.assumed; classes = classes }

  class_same : (c d : Class) → c.pattern ≡ d.pattern → IsWitnessed q c → IsWitnessed r d → c ≡ d
  class_same c d e a b =
      let first = a.least d.witness (b.member.0, b.member.1 ∙ sym e) in
      let second = b.least c.witness (a.member.0, a.member.1 ∙ e) in
      let same = IsAtMost-same c.witness d.witness first second in
      λ i. record { pattern = e i; witness = same i }

  classes_same : (cs ds : List Class) → map (λ (c : Class). c.pattern) cs ≡ map (λ (c : Class). c.pattern) ds → All (IsWitnessed q) cs → All (IsWitnessed r) ds → cs ≡ ds
  classes_same [] [] e a b = refl
  classes_same [] (d ∷ ds) e a b = absurd cc
  classes_same (c ∷ cs) [] e a b = absurd cc
  classes_same (c ∷ cs) (d ∷ ds) e a b =
      let first : c.pattern ≡ d.pattern = cc in
      let later : map (λ (c : Class). c.pattern) cs ≡ map (λ (c : Class). c.pattern) ds = cc in
      let one = class_same c d first (All-head (IsWitnessed q) c cs a) (All-head (IsWitnessed r) d ds b) in
      let rest = classes_same cs ds later (All-tail (IsWitnessed q) c cs a) (All-tail (IsWitnessed r) d ds b) in
      λ i. one i ∷ rest i

  pub one_partition : IsPartition r → IsPartition q → classes ≡ r.classes
  one_partition h k =
      let into = is_pattern q classes k.witnessed (patterns r) (λ c w. subst (Contains (patterns r)) w.member.1 (h.complete c.witness w.member.0)) in
      let back = is_pattern r r.classes h.witnessed (patterns q) (λ c w. subst (Contains (patterns q)) w.member.1 (k.complete c.witness w.member.0)) in
      classes_same classes r.classes (ascending_same (patterns q) (patterns r) k.ascending h.ascending into back) k.witnessed h.witnessed
