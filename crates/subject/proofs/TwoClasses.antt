-- The three positions of the lamp in two classes by an atom, with and without an assumption, and the fault domain.
use Rattle.std.proofs.Common.{◌≡◌, ◌⊎◌, inl, inr, ℕ, zero, suc, ◌≤◌, ℤ, pos, negsuc, ◌+ℤ◌, ◌*ℤ◌, true, false, List, [], ◌∷◌, ◌++◌, Contains, refl, sym, ap, ◌∙◌, subst, arith}
use Rattle.std.specs.Prelude.{int_le}
use Rattle.std.proofs.Math.Logic.{∥∥₁_elim}
use Rattle.std.proofs.lemmas.Int.{ints}
use Rattle.std.proofs.lemmas.List.Elements.{All-nil, All-cons, All-head, All-tail}
use Rattle.lin_form.specs.Atom.{atom_truth}
use Rattle.lin_form.specs.Inequality.{says}
use Rattle.lin_form.specs.Range.{IsInRanges}
use Rattle.lin_form.specs.Signature.{ranges_of}
use Rattle.lin_form.specs.declared.atom.Atom.{Atom}
use Rattle.lin_form.specs.declared.literal.Literal.{Literal}
use Rattle.lin_form.specs.declared.signature.Signature.{Signature}
use Rattle.input_classes.specs.Order.{IsAtMost, IsPatternBefore}
use Rattle.input_classes.specs.Partition.{Partition, IsPartition, IsWitnessed, Covers, IsInClass, box_of_partition, pattern_of, patterns}
use Rattle.input_classes.specs.VectorSet.{Box, IsIn}
use Rattle.input_classes.specs.declared.class.Class.{Class}
use Rattle.input_classes.proofs.CallerLemmas.{contains_cases, contains_none, partition-covers}
use Rattle.subject.specs.Alike.{ActsLike, MembersActAlike}
use Rattle.subject.specs.Domain.{Inside, HasLikeClass, box}
use Rattle.subject.specs.FiniteMap.{plan_of_map}
use Rattle.subject.specs.Meaning.{Meaning, answer}
use Rattle.subject.specs.inside.Examples.{lamp, pressed, telling, two_classes, one_assumed, corner_witness}
use Rattle.subject.proofs.Lamp.{presses_alike, two_states}
use Rattle.subject.proofs.Lifting.{by_classes}
use Rattle.subject.proofs.Ranks.{rank_within}

-- the positions
only_three : (x : List ℤ) → IsInRanges ((pos 0, pos 2) ∷ []) x → (x ≡ pressed 0) ⊎ ((x ≡ pressed 1) ⊎ (x ≡ pressed 2))
only_three [] h = absurd h
only_three (pos zero ∷ []) h = inl refl
only_three (pos (suc zero) ∷ []) h = inr (inl refl)
only_three (pos (suc (suc zero)) ∷ []) h = inr (inr refl)
only_three (pos (suc (suc (suc n))) ∷ []) h = let high = h.0.1 in absurd (omega (arith, ints, high))
only_three (negsuc n ∷ []) h = let low = h.0.0 in absurd (omega (arith, ints, low))
only_three (a ∷ b ∷ x) h = absurd h.1

in_ranges : (n : ℕ) → n ≤ 2 → IsInRanges ((pos 0, pos 2) ∷ []) (pressed n)
in_ranges n h = ((omega (arith, ints), omega (arith, ints)), tt)

not_true : (false ∷ []) ≡ (true ∷ []) → ⊥
not_true e = cc

module _ (a : Atom) (one : a.coefficients ≡ pos 1 ∷ []) (less : a.constant ≡ negsuc 0) where
  truth_is : (z : ℤ) → atom_truth a (z ∷ []) ≡ int_le (pos 0) (pos 1 *ℤ z +ℤ pos 0 +ℤ negsuc 0)
  truth_is z = λ i. says (record { coefficients = one i; constant = less i }) (z ∷ [])

  pattern_0 : pattern_of (a ∷ []) (pressed 0) ≡ false ∷ []
  pattern_0 = λ i. truth_is (pos 0) i ∷ []

  pattern_1 : pattern_of (a ∷ []) (pressed 1) ≡ true ∷ []
  pattern_1 = λ i. truth_is (pos 1) i ∷ []

  pattern_2 : pattern_of (a ∷ []) (pressed 2) ≡ true ∷ []
  pattern_2 = λ i. truth_is (pos 2) i ∷ []

  abbrev low : Class
  low = record { pattern = false ∷ []; witness = pressed 0 }

  abbrev high : Class
  high = record { pattern = true ∷ []; witness = pressed 1 }

  abbrev r : Partition
  r = two_classes a

  in_box : (n : ℕ) → n ≤ 2 → IsIn (box_of_partition r) (pressed n)
  in_box n h = record { inside = in_ranges n h; said = All-nil _ }

  low_witnessed : IsWitnessed r low
  low_witnessed = record {
    member = (in_box 0 (omega arith), pattern_0);
    least = λ x h. elim (only_three x h.0.inside) [
      | inl e ↦ subst (λ y. IsAtMost (pressed 0) y) (sym e) (inr (refl, tt))
      | inr later ↦ elim later [
        | inl e ↦ subst (λ y. IsAtMost (pressed 0) y) (sym e) (inl (omega (arith, ints)))
        | inr e ↦ subst (λ y. IsAtMost (pressed 0) y) (sym e) (inl (omega (arith, ints)))
      ]
    ];
  }

  high_witnessed : IsWitnessed r high
  high_witnessed = record {
    member = (in_box 1 (omega arith), pattern_1);
    least = λ x h. elim (only_three x h.0.inside) [
      | inl e ↦ absurd (not_true (sym pattern_0 ∙ ap (pattern_of (a ∷ [])) (sym e) ∙ h.1))
      | inr later ↦ elim later [
        | inl e ↦ subst (λ y. IsAtMost (pressed 1) y) (sym e) (inr (refl, tt))
        | inr e ↦ subst (λ y. IsAtMost (pressed 1) y) (sym e) (inl (omega (arith, ints)))
      ]
    ];
  }

  each_pattern : (x : List ℤ) → IsIn (box_of_partition r) x → Contains (patterns r) (pattern_of (a ∷ []) x)
  each_pattern x h =
      elim (only_three x h.inside) [
        | inl e ↦ (0, omega arith, sym (ap (pattern_of (a ∷ [])) e ∙ pattern_0))
        | inr later ↦ elim later [
          | inl e ↦ (1, omega arith, sym (ap (pattern_of (a ∷ [])) e ∙ pattern_1))
          | inr e ↦ (1, omega arith, sym (ap (pattern_of (a ∷ [])) e ∙ pattern_2))
        ]
      ]

  -- the two classes are a partition
  pub is_partition : IsPartition r
  is_partition = record {
    ascending = (All-cons (IsPatternBefore (false ∷ [])) (true ∷ []) [] (inl (refl, refl)) (All-nil (IsPatternBefore (false ∷ []))), (All-nil (IsPatternBefore (true ∷ [])), tt));
    witnessed = All-cons (IsWitnessed r) low (high ∷ []) low_witnessed (All-cons (IsWitnessed r) high [] high_witnessed (All-nil (IsWitnessed r)));
    complete = each_pattern;
  }

  abbrev q : Partition
  q = one_assumed a

  high_assumed : IsWitnessed q high
  high_assumed = record {
    member = (record { inside = in_ranges 1 (omega arith); said = All-cons (λ (l : Literal). atom_truth l.atom (pressed 1) ≡ l.holds) (record { atom = a; holds = true }) [] (truth_is (pos 1)) (All-nil _) }, pattern_1);
    least = λ x h. high_witnessed.least x (record { inside = h.0.inside; said = All-nil _ }, h.1);
  }

  -- where the atom is assumed, the second class alone is a partition
  pub assumed_is_partition : IsPartition q
  assumed_is_partition = record {
    ascending = (All-nil (IsPatternBefore (true ∷ [])), tt);
    witnessed = All-cons (IsWitnessed q) high [] high_assumed (All-nil (IsWitnessed q));
    complete = λ x h. (0, omega arith, λ i. sym (All-head (λ (l : Literal). atom_truth l.atom x ≡ l.holds) (record { atom = a; holds = true }) [] h.said) i ∷ []);
  }

  -- a corner that lies outside its class is no witness
  pub corner_covers_nothing : Covers (box_of_partition (corner_witness a)) (corner_witness a) → ⊥
  corner_covers_nothing covers =
      let rest = All-tail (λ (c : Class). IsInClass (box_of_partition (corner_witness a)) (corner_witness a) c c.witness) low (record { pattern = true ∷ []; witness = pressed 0 } ∷ []) covers.witnessed in
      let second = All-head (λ (c : Class). IsInClass (box_of_partition (corner_witness a)) (corner_witness a) c c.witness) (record { pattern = true ∷ []; witness = pressed 0 }) [] rest in
      not_true (sym pattern_0 ∙ second.1)

  module _ (sg : Signature) (ranged : ranges_of sg.inputs ≡ (pos 0, pos 2) ∷ []) where
    abbrev m : Meaning ℕ
    m = plan_of_map (record { signature = sg; entries = lamp })

    covers_box : Covers (box m r) r
    covers_box = subst (λ ranges. Covers (Box ranges []) r) (sym ranged) (partition-covers r is_partition)

    position : (x : List ℤ) → IsIn (box m r) x → (x ≡ pressed 0) ⊎ ((x ≡ pressed 1) ⊎ (x ≡ pressed 2))
    position x h = only_three x (subst (λ ranges. IsInRanges ranges x) ranged h.inside)

    -- a vector of the first class, and one of the second
    is_low : (x : List ℤ) → IsInClass (box m r) r low x → x ≡ pressed 0
    is_low x h =
        elim (position x h.0) [
          | inl e ↦ e
          | inr later ↦ elim later [
            | inl e ↦ absurd (not_true (sym h.1 ∙ ap (pattern_of (a ∷ [])) e ∙ pattern_1))
            | inr e ↦ absurd (not_true (sym h.1 ∙ ap (pattern_of (a ∷ [])) e ∙ pattern_2))
          ]
        ]

    like_1 : (x : List ℤ) → IsInClass (box m r) r high x → ActsLike (box m r) m x (pressed 1)
    like_1 x h u v p k =
        elim (position x h.0) [
          | inl e ↦ absurd (not_true (sym pattern_0 ∙ ap (pattern_of (a ∷ [])) (sym e) ∙ h.1))
          | inr later ↦ elim later [
            | inl e ↦ ap (λ y. answer m (u ++ y ∷ v)) e
            | inr e ↦ ap (λ y. answer m (u ++ y ∷ v)) e ∙ sym (presses_alike sg ranged u v p k)
          ]
        ]

    members_alike : MembersActAlike (box m r) r m
    members_alike c at x y hx hy u v p k =
        elim (contains_cases low c (high ∷ []) at) [
          | inl e ↦ (
              let x0 = is_low x (subst (λ c. IsInClass (box m r) r c x) (sym e) hx) in
              let y0 = is_low y (subst (λ c. IsInClass (box m r) r c y) (sym e) hy) in
              ap (λ z. answer m (u ++ z ∷ v)) (x0 ∙ sym y0))
          | inr later ↦ elim (contains_cases high c [] later) [
            | inl e ↦ like_1 x (subst (λ c. IsInClass (box m r) r c x) (sym e) hx) u v p k ∙ sym (like_1 y (subst (λ c. IsInClass (box m r) r c y) (sym e) hy) u v p k)
            | inr none ↦ absurd (contains_none c none)
          ]
        ]

    -- the lamp lies inside its own fault domain at the bound 2
    pub lamp_is_inside : Inside m r 2 m
    lamp_is_inside = record {
      fits = record { names = refl; ranges = refl; outputs = refl };
      states = (two_states sg ranged).most;
      classes = by_classes (box m r) r m covers_box members_alike;
    }

    -- and outside at the bound 1, by its states
    pub outside_by_states : Inside m r 1 m → ⊥
    outside_by_states h =
        let few = rank_within m (box m r) (box m r) (λ w k. k) 2 1 (two_states sg ranged) h.states in
        omega (arith, few)

    abbrev i : Meaning ℕ
    i = plan_of_map (record { signature = sg; entries = telling })

    told : ((pos 1 ∷ []) ∷ []) ≡ ((pos 2 ∷ []) ∷ []) → ⊥
    told e = cc

    press_in : (n : ℕ) → n ≤ 2 → IsIn (box m r) (pressed n)
    press_in n h = record { inside = subst (λ ranges. IsInRanges ranges (pressed n)) (sym ranged) (in_ranges n h); said = All-nil _ }

    -- no class has only members that act like the position 1 in both
    no_like_class : HasLikeClass (box m r) r m i (pressed 1) → ⊥
    no_like_class c =
        elim (contains_cases low c.one (high ∷ []) c.there) [
          | inl e ↦ (
              let same = c.in_other (pressed 0) (subst (λ c. IsInClass (box m r) r c (pressed 0)) e (press_in 0 (omega arith), pattern_0)) [] [] (All-nil (IsIn (box m r))) (All-nil (IsIn (box m r))) in
              none_told same)
          | inr later ↦ elim (contains_cases high c.one [] later) [
            | inl e ↦ (
                let same = c.in_other (pressed 2) (subst (λ c. IsInClass (box m r) r c (pressed 2)) e (press_in 2 (omega arith), pattern_2)) [] [] (All-nil (IsIn (box m r))) (All-nil (IsIn (box m r))) in
                told (sym same))
            | inr none ↦ absurd (contains_none c.one none)
          ]
        ]
      where
        none_told : ([] ∷ []) ≡ ((pos 1 ∷ []) ∷ []) → ⊥
        none_told e = cc

    -- a lamp that tells two positions of one class apart lies outside, by an input
    pub outside_by_input : Inside m r 2 i → ⊥
    outside_by_input h = ∥∥₁_elim (h.classes (pressed 1) (press_in 1 (omega arith))) (λ p k. absurd p) no_like_class
