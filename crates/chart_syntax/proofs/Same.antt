-- Charts with the same lists are the same.
use Rattle.std.proofs.Common.{◌≡◌, List, [], ◌∷◌, length, map, refl}
use Rattle.std.proofs.Props.{props}
use mathlib.Core.HLevel.{is_prop→PathP}
use Rattle.lin_form.specs.declared.input.Input.{Input}
use Rattle.lin_form.specs.declared.signature.Signature.{Signature}
use Rattle.lin_form.specs.Range.{IsRange, IsCount}
use Rattle.chart_model.specs.declared.chart.Chart.{Chart}
use Rattle.chart_model.specs.Chart.{IsChart}
use Rattle.chart_syntax.specs.Reading.{bounds_of_input}

-- two charts have the same lists
pub record AreSame (a b : Chart) : Type 0 where
  pub inputs : map bounds_of_input a.signature.inputs ≡ map bounds_of_input b.signature.inputs
  pub outputs : a.signature.outputs ≡ b.signature.outputs
  pub initial : a.initial ≡ b.initial
  pub assumed : a.assumed ≡ b.assumed
  pub memories : a.memories ≡ b.memories
  pub states : a.states ≡ b.states
  pub transitions : a.transitions ≡ b.transitions

same_input : (a b : Input) → bounds_of_input a ≡ bounds_of_input b → a ≡ b
same_input a b e = λ j. record {
  name = (e j).0;
  lo = (e j).1;
  hi = (e j).2;
  ranged = is_prop→PathP (λ k. IsRange (e k).1 (e k).2) (λ k. hlevel props) a.ranged b.ranged j;
}

heads : (x : Input) (xs : List Input) (y : Input) (ys : List Input) → map bounds_of_input (x ∷ xs) ≡ map bounds_of_input (y ∷ ys)
    → bounds_of_input x ≡ bounds_of_input y
heads x xs y ys e = cc

tails : (x : Input) (xs : List Input) (y : Input) (ys : List Input) → map bounds_of_input (x ∷ xs) ≡ map bounds_of_input (y ∷ ys)
    → map bounds_of_input xs ≡ map bounds_of_input ys
tails x xs y ys e = cc

same_inputs : (xs ys : List Input) → map bounds_of_input xs ≡ map bounds_of_input ys → xs ≡ ys
same_inputs [] [] e = refl
same_inputs [] (y ∷ ys) e = absurd (cc)
same_inputs (x ∷ xs) [] e = absurd (cc)
same_inputs (x ∷ xs) (y ∷ ys) e = let h = same_input x y (heads x xs y ys e) in let t = same_inputs xs ys (tails x xs y ys e) in λ j. h j ∷ t j

same_signature : (a b : Signature) → a.inputs ≡ b.inputs → a.outputs ≡ b.outputs → a ≡ b
same_signature a b i o = λ j. record {
  inputs = i j;
  outputs = o j;
  inputs_fit = is_prop→PathP (λ k. IsCount 6 (length (i k))) (λ k. hlevel props) a.inputs_fit b.inputs_fit j;
  outputs_fit = is_prop→PathP (λ k. IsCount 8 (length (o k))) (λ k. hlevel props) a.outputs_fit b.outputs_fit j;
}

pub same_chart : (a b : Chart) → AreSame a b → a ≡ b
same_chart a b same =
    let s = same_signature a.signature b.signature (same_inputs a.signature.inputs b.signature.inputs same.inputs) same.outputs in
    λ j. record {
      signature = s j;
      initial = same.initial j;
      assumed = same.assumed j;
      memories = same.memories j;
      states = same.states j;
      transitions = same.transitions j;
      kept = is_prop→PathP (λ k. IsChart (s k) (same.initial k) (same.assumed k) (same.memories k) (same.states k) (same.transitions k))
          (λ k. hlevel props) a.kept b.kept j;
    }
