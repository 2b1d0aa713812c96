-- What was read as a suite.
use Rattle.std.proofs.Common.{◌≡◌, ℕ, Bool, true, false, ◌&&◌, ℤ, List, [], ◌∷◌, map, sym, ap, subst, int_le, length}
use Rattle.std.specs.List.{All}
use Rattle.std.proofs.lemmas.Bool.{false≢true}
use Rattle.std.proofs.lemmas.List.Elements.{All-weaker}
use Rattle.lin_form.specs.declared.input.Input.{Input}
use Rattle.lin_form.specs.Signature.{IsInInputRanges}
use Rattle.subject.specs.Suite.{Test}
use Rattle.suite_reading.specs.State.{State, row_of, AreRuled}
use Rattle.suite_reading.specs.Checks.{is_in_box, is_between}
use Rattle.suite_reading.specs.inside.Kept.{Kept}
use Rattle.suite_reading.proofs.CallerLemmas.{both, in_order}

in_ranges : (inputs : List Input) (v : List ℤ) → is_in_box (map row_of inputs) v ≡ true → IsInInputRanges inputs v
in_ranges [] [] e = tt
in_ranges [] (z ∷ v) e = absurd (false≢true e)
in_ranges (input ∷ inputs) [] e = absurd (false≢true e)
in_ranges (input ∷ inputs) (z ∷ v) e =
    let h = both (is_between input.lo input.hi z) (is_in_box (map row_of inputs) v) e in
    let b = both (int_le input.lo z) (int_le z input.hi) h.0 in
    ((in_order input.lo z b.0, in_order z input.hi b.1), in_ranges inputs v h.1)

pub vectors_in : (v s : State) (inputs : List Input) → v ≡ s → v.inputs ≡ map row_of inputs → Kept s → All (IsInInputRanges inputs) v.classes
vectors_in v s inputs e rows k =
    let box : All (λ x. is_in_box v.inputs x ≡ true) v.classes = subst (λ (x : State). All (λ y. is_in_box x.inputs y ≡ true) x.classes) (sym e) k.ruled.vectors in
    All-weaker (λ x. is_in_box v.inputs x ≡ true) (IsInInputRanges inputs) (λ x h. in_ranges inputs x (subst (λ r. is_in_box r x ≡ true) rows h)) v.classes box

pub tests_ruled : (v s : State) → v ≡ s → Kept s → All (AreRuled (length v.classes) (length v.outputs)) v.tests
tests_ruled v s e k = subst (λ (x : State). All (AreRuled (length x.classes) (length x.outputs)) x.tests) (sym e) k.ruled.tests
