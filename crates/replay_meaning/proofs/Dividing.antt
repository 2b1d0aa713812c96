-- A chart's partition has a class, and no more than the vectors that differ on the atoms.
use Rattle.std.proofs.Common.{◌≡◌, ℕ, zero, suc, ◌<◌, ◌≤◌, ℤ, Bool, List, [], ◌∷◌, length, get_or, sym, ap, ◌∙◌, subst, arith, inl, inr}
use Rattle.std.specs.Prelude.{slice_get, Some}
use Rattle.std.proofs.lemmas.Bool.{cases_eq, cases_lt}
use Rattle.std.proofs.lemmas.List.{length-map, get_or-map}
use Rattle.std.proofs.lemmas.List.Elements.{All-map, All-weaker}
use Rattle.std.proofs.lemmas.Option.{slice_get-map, slice_get_within, get_or_from_slice_get}
use Rattle.lin_form.specs.declared.form.Comparison.{Comparison}
use Rattle.input_classes.specs.declared.class.Class.{Class}
use Rattle.input_classes.specs.Order.{IsPatternBefore, AreAscending}
use Rattle.input_classes.specs.Partition.{Partition, Covers, IsInClass, IsWitnessed, pattern_of, patterns, witnesses}
use Rattle.input_classes.specs.VectorSet.{Box, IsInBox}
use Rattle.input_classes.proofs.CallerLemmas.{IsPatternBefore-never, partition-covers}
use Rattle.chart_model.specs.Box as chart_box
use Rattle.chart_model.specs.declared.chart.Chart.{Chart}
use Rattle.chart_meaning.specs.Plan.{plan_of_chart}
use Rattle.subject.specs.Domain.{box}
use Rattle.class_stages.specs.Classes.{IsBoxEmpty, HasMoreClasses, IsChartPartition}
use Rattle.class_stages.proofs.Dividing.{truths}
use Rattle.replay_meaning.proofs.Naming.{mapped_at}

-- ascending patterns are different
ascending_apart : (ps : List (List Bool)) → AreAscending ps → (i j : ℕ) (d : List Bool) → i < j → j < length ps → get_or ps i d ≡ get_or ps j d → ⊥
ascending_apart [] h i j d less inside same = omega (arith, inside)
ascending_apart (p ∷ ps) h i zero d less inside same = omega (arith, less)
ascending_apart (p ∷ ps) h zero (suc j) d less inside same =
    let before = subst (IsPatternBefore p) (sym same) (h.0 j d (omega (arith, inside))) in
    IsPatternBefore-never p p before before
ascending_apart (p ∷ ps) h (suc i) (suc j) d less inside same = ascending_apart ps h.1 i j d (omega (arith, less)) (omega (arith, inside)) same

module _ (chart : Chart) (cuts : List Comparison) (r : Partition) (h : IsChartPartition chart cuts r) where
  pub covered : Covers (box (plan_of_chart chart) r) r
  covered = subst (λ ranges. Covers (Box ranges r.assumed) r) h.ranges (partition-covers r h.exact)

  pub some_class : (IsBoxEmpty chart → ⊥) → 0 < length r.classes
  some_class some =
      elim (cases_lt 0 (length r.classes)) [
        | inl more ↦ more
        | inr none ↦ absurd (some (λ x inside.
            let P : List (ℤ × ℤ) → Type 0 = λ ranges. IsInBox ranges r.assumed x in
            let there = h.exact.complete x (subst P (sym h.ranges) ((h.box x).1 inside)) in
            let within : there.0 < length (patterns r) = there.1 in
            omega (arith, none, within, length-map r.classes (λ (c : Class). c.pattern))))
      ]

  -- the pattern of the class of a witness
  pattern_at : (i : ℕ) (x : List ℤ) → slice_get (witnesses r) i ≡ Some x → (i < length (patterns r)) × ((d : List Bool) → get_or (patterns r) i d ≡ pattern_of r.atoms x)
  pattern_at i x e =
      let at = mapped_at (λ (c : Class). c.witness) (slice_get r.classes i) x (sym (slice_get-map (λ (c : Class). c.witness) r.classes i) ∙ e) in
      let c = at.0 in
      let is : slice_get r.classes i ≡ Some c = at.1 in
      let inside : i < length r.classes = slice_get_within r.classes i c is in
      let here : get_or r.classes i c ≡ c = get_or_from_slice_get r.classes i c c is in
      let witnessed : IsWitnessed r c = subst (IsWitnessed r) here (h.exact.witnessed i c inside) in (
        omega (arith, inside, length-map r.classes (λ (c : Class). c.pattern)),
        λ d. get_or-map (λ (c : Class). c.pattern) r.classes i c d inside ∙ ap (λ (c : Class). c.pattern) here ∙ sym witnessed.member.1 ∙ ap (pattern_of r.atoms) at.2,
      )

  same_place : (i j : ℕ) (x y : List ℤ) → slice_get (witnesses r) i ≡ Some x → slice_get (witnesses r) j ≡ Some y → pattern_of r.atoms x ≡ pattern_of r.atoms y → i < j → ⊥
  same_place i j x y e f same less =
      let a = pattern_at i x e in
      let b = pattern_at j y f in
      let d = pattern_of r.atoms x in
      ascending_apart (patterns r) h.exact.ascending i j d less b.0 (a.1 d ∙ same ∙ sym (b.1 d))

  pub few_classes : (n : ℕ) → (HasMoreClasses n chart cuts → ⊥) → length r.classes ≤ n
  few_classes n few =
      elim (cases_lt n (length r.classes)) [
        | inr enough ↦ enough
        | inl more ↦ absurd (few (record {
          vectors = witnesses r;
          more = omega (arith, more, length-map r.classes (λ (c : Class). c.witness));
          inside = All-map (chart_box.IsInBox chart) (λ (c : Class). c.witness) r.classes (All-weaker (λ (c : Class). IsInClass (box (plan_of_chart chart) r) r c c.witness) (λ (c : Class). chart_box.IsInBox chart c.witness) (λ c k. (h.box c.witness).0 k.0) r.classes covered.witnessed);
          different = λ i j x y e f same.
              let equal : pattern_of r.atoms x ≡ pattern_of r.atoms y = sym (truths chart cuts r.atoms h.atoms x) ∙ same ∙ truths chart cuts r.atoms h.atoms y in
              elim (cases_eq i j) [
                | inl one ↦ one
                | inr two ↦ elim (cases_lt i j) [
                  | inl less ↦ absurd (same_place i j x y e f equal less)
                  | inr more ↦ absurd (same_place j i y x f e (sym equal) (omega (arith, more, two)))
                ]
              ];
        }))
      ]
