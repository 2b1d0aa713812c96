-- Whether an implementation fits, and where its signature differs.
use Rattle.std.proofs.Common.{◌≡◌, ℕ, ◌+◌, ◌<◌, ◌≤◌, Bool, true, false, if◌then◌else◌, ◌==◌, List, [], ◌∷◌, length, Option, Some, None, Ok, Err, refl, sym, ◌∙◌, ap, subst, arith}
use Rattle.lin_form.specs.declared.input.Input.{Input}
use Rattle.lin_form.specs.declared.signature.Signature.{Signature}
use Rattle.test_world.specs.Shelf.{ShelfState}
use Rattle.impl_table.specs.declared.fit.Unfit.{Unfit}
use Rattle.impl_table.specs.declared.fit.Unfit.TheVariants as unfit
use Rattle.impl_table.specs.Fitting.{is_same_input, is_same_name, first_input, first_output, inputs_difference, outputs_difference, or_later, first_difference}
use Rattle.subject.specs.Domain.{IsFitting}
use Rattle.impl_table.proofs.Differences.{fitting}
use Rattle.command_stages.specs.declared.stop.Refusal.TheVariants as refusal
use Rattle.command_stages.specs.declared.stop.SignaturePlace.{SignaturePlace}
use Rattle.command_stages.specs.declared.stop.Stop.TheVariants.{Refused}
use Rattle.command_stages.specs.declared.stop.Source.{Source}
use Rattle.command_stages.specs.Stage.{Given, Unless, Memoryless, Made}
use Rattle.command_stages.proofs.Stages.{made_is, made_refusal, made_so}
use Rattle.run_stages.specs.Stages.{FitsBy, FitsOver, place_of}

pub made_fit : (name : ℕ) (model seen other : Signature) {words : List (List ℕ)} {shelf : ShelfState} → seen ≡ other → first_difference model seen ≡ None → Made (FitsOver name model other) words shelf shelf (Ok tt)
made_fit name model seen other {words} {shelf} same e =
    let P : Option Unfit → Type 0 = λ d. Made (FitsBy name d) words shelf shelf (Ok tt) in
    made_so _ (λ n. cc) (subst P (sym e ∙ ap (first_difference model) same) (made_is _ tt))

pub made_unfit : (name : ℕ) (model seen other : Signature) (u : Unfit) (place : SignaturePlace) {words : List (List ℕ)} {shelf : ShelfState} → seen ≡ other → place ≡ place_of u → first_difference model seen ≡ Some u → Made (FitsOver name model other) words shelf shelf (Err (Refused (refusal.Unfit name place)))
made_unfit name model seen other u place {words} {shelf} same at e =
    let P : Option Unfit → Type 0 = λ d. Made (FitsBy name d) words shelf shelf (Err (Refused (refusal.Unfit name (place_of u)))) in
    let Q : SignaturePlace → Type 0 = λ p. Made (FitsOver name model other) words shelf shelf (Err (Refused (refusal.Unfit name p))) in
    subst Q (sym at) (made_so _ (λ n. cc) (subst P (sym e ∙ ap (first_difference model) same) (made_refusal _ _ tt)))

-- the number of an input or output is small
abbrev pub IsBelow : ℕ → Unfit → Type 0
IsBelow most (unfit.Input number) = number < most
IsBelow most (unfit.Output number) = number < most
IsBelow most other = Unit {0}

abbrev AreBelow : ℕ → Option Unfit → Type 0
AreBelow most None = Unit {0}
AreBelow most (Some u) = IsBelow most u

choice : (most : ℕ) (b : Bool) (d e : Option Unfit) → AreBelow most d → AreBelow most e → AreBelow most (if b then d else e)
choice most true d e p q = p
choice most false d e p q = q

input_below : (most n : ℕ) (xs ys : List Input) → n + length xs ≤ most → AreBelow most (first_input n xs ys)
input_below most n [] ys few = tt
input_below most n (a ∷ xs) [] few = tt
input_below most n (a ∷ xs) (b ∷ ys) few =
    choice most (is_same_input a b) (first_input (n + 1) xs ys) (Some (unfit.Input n)) (input_below most (n + 1) xs ys (omega (arith, few))) (omega (arith, few))

output_below : (most n : ℕ) (xs ys : List (List ℕ)) → n + length xs ≤ most → AreBelow most (first_output n xs ys)
output_below most n [] ys few = tt
output_below most n (a ∷ xs) [] few = tt
output_below most n (a ∷ xs) (b ∷ ys) few =
    choice most (is_same_name a b) (first_output (n + 1) xs ys) (Some (unfit.Output n)) (output_below most (n + 1) xs ys (omega (arith, few))) (omega (arith, few))

later : (most : ℕ) (d e : Option Unfit) → AreBelow most d → AreBelow most e → AreBelow most (or_later d e)
later most None e p q = q
later most (Some u) e p q = p

difference_below : (model other : Signature) → AreBelow 8 (first_difference model other)
difference_below model other =
    let inputs : length model.inputs ≤ 6 = model.inputs_fit.limit in
    let outputs : length model.outputs ≤ 8 = model.outputs_fit.limit in
    later 8 (inputs_difference model.inputs other.inputs) (outputs_difference model.outputs other.outputs)
    (choice 8 (length model.inputs == length other.inputs) (first_input 0 model.inputs other.inputs) (Some unfit.Inputs) (input_below 8 0 model.inputs other.inputs (omega (arith, inputs))) tt)
    (choice 8 (length model.outputs == length other.outputs) (first_output 0 model.outputs other.outputs) (Some unfit.Outputs) (output_below 8 0 model.outputs other.outputs (omega (arith, outputs))) tt)

below : (model other : Signature) (u : Unfit) → first_difference model other ≡ Some u → IsBelow 8 u
below model other u e = subst (AreBelow 8) e (difference_below model other)

pub input_number : (model other : Signature) (u : Unfit) (n : ℕ) → u ≡ unfit.Input n → first_difference model other ≡ Some u → n < 8
input_number model other u n is e = subst (IsBelow 8) is (below model other u e)

pub output_number : (model other : Signature) (u : Unfit) (n : ℕ) → u ≡ unfit.Output n → first_difference model other ≡ Some u → n < 8
output_number model other u n is e = subst (IsBelow 8) is (below model other u e)

no_difference : (name : ℕ) (d : Option Unfit) (given : Given) (sources : List Source) → FitsBy name d given sources (Ok tt) → d ≡ None
unfolding Unless
no_difference name None given sources h = refl
no_difference name (Some u) given sources h = absurd (h.1 tt)

later_none : (d e : Option Unfit) → or_later d e ≡ None → (d ≡ None) × (e ≡ None)
later_none None e h = (refl, h)
later_none (Some u) e h = absurd cc

-- the stage came to its end
pub has_fit : (name : ℕ) (model other : Signature) (given : Given) (sources : List Source) → FitsOver name model other given sources (Ok tt) → IsFitting model other
unfolding Memoryless
has_fit name model other given sources h =
    let none = later_none (inputs_difference model.inputs other.inputs) (outputs_difference model.outputs other.outputs) (no_difference name (first_difference model other) given sources h.0) in
    fitting model other none.0 none.1
