-- Suites with the same lines are the same.
use Rattle.std.proofs.Common.{◌≡◌, ℕ, List, [], ◌∷◌, length, map, refl, sym, ap, ◌∙◌}
use Rattle.std.proofs.Props.{props}
use mathlib.Core.HLevel.{is_prop→PathP}
use Rattle.lin_form.specs.declared.input.Input.{Input}
use Rattle.lin_form.specs.declared.signature.Signature.{Signature}
use Rattle.lin_form.specs.Range.{IsRange, IsCount}
use Rattle.subject.specs.Suite.{SuiteParts}
use Rattle.suite_reading.specs.State.{State, Row, row_of, whole}

same_input : (a b : Input) → row_of a ≡ row_of b → a ≡ b
same_input a b e = λ j. record {
  name = (e j).name;
  lo = (e j).low;
  hi = (e j).high;
  ranged = is_prop→PathP (λ k. IsRange (e k).low (e k).high) (λ k. hlevel props) a.ranged b.ranged j;
}

heads : (x : Input) (xs : List Input) (y : Input) (ys : List Input) → map row_of (x ∷ xs) ≡ map row_of (y ∷ ys) → row_of x ≡ row_of y
heads x xs y ys e = cc

tails : (x : Input) (xs : List Input) (y : Input) (ys : List Input) → map row_of (x ∷ xs) ≡ map row_of (y ∷ ys) → map row_of xs ≡ map row_of ys
tails x xs y ys e = cc

same_inputs : (xs ys : List Input) → map row_of xs ≡ map row_of ys → xs ≡ ys
same_inputs [] [] e = refl
same_inputs [] (y ∷ ys) e = absurd (cc)
same_inputs (x ∷ xs) [] e = absurd (cc)
same_inputs (x ∷ xs) (y ∷ ys) e = let h = same_input x y (heads x xs y ys e) in let t = same_inputs xs ys (tails x xs y ys e) in λ j. h j ∷ t j

pub same_suite : (s t : SuiteParts) → whole s ≡ whole t → s ≡ t
same_suite s t e =
    let i : s.signature.inputs ≡ t.signature.inputs = same_inputs s.signature.inputs t.signature.inputs (ap (λ (x : State). x.inputs) e) in
    let o : s.signature.outputs ≡ t.signature.outputs = ap (λ (x : State). x.outputs) e in
    λ j. record {
      signature = record {
        inputs = i j;
        outputs = o j;
        inputs_fit = is_prop→PathP (λ k. IsCount 6 (length (i k))) (λ k. hlevel props) s.signature.inputs_fit t.signature.inputs_fit j;
        outputs_fit = is_prop→PathP (λ k. IsCount 8 (length (o k))) (λ k. hlevel props) s.signature.outputs_fit t.signature.outputs_fit j;
      };
      bound = (e j).bound;
      states = (e j).states;
      classes = (e j).classes;
      cover = (e j).cover;
      marks = (e j).marks;
      tests = (e j).tests;
    }
