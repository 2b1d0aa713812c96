-- The first difference of two signatures.
use Rattle.std.specs.Prelude.{◌≡◌, ℕ, ◌+◌, Bool, ◌&&◌, if◌then◌else◌, ◌==◌, nat_eq, List, ◌∷◌, length}
use Rattle.std.specs.Prelude.{Option, Some, None, Result, Ok, Err}
use Rattle.std.specs.Cmp.Lexicographic.{pointwise}
use Rattle.std.specs.Ordering.{int_eq}
use Rattle.lin_form.specs.declared.input.Input.{Input}
use Rattle.lin_form.specs.declared.signature.Signature.{Signature}
use Rattle.impl_table.specs.declared.fit.Unfit.{Unfit}
use Rattle.impl_table.specs.declared.fit.Unfit.TheVariants as unfit

abbrev pub is_same_name : List ℕ → List ℕ → Bool
is_same_name = pointwise nat_eq

-- two inputs have the same name and the same range
abbrev pub is_same_input : Input → Input → Bool
is_same_input a b = is_same_name a.name b.name && int_eq a.lo b.lo && int_eq a.hi b.hi

-- the first input that differs, counted from n
abbrev pub first_input : ℕ → List Input → List Input → Option Unfit
first_input n (a ∷ model) (b ∷ other) =
    if is_same_input a b then first_input (n + 1) model other else Some (unfit.Input n)
first_input n model other = None

-- the first output whose name differs, counted from n
abbrev pub first_output : ℕ → List (List ℕ) → List (List ℕ) → Option Unfit
first_output n (a ∷ model) (b ∷ other) =
    if is_same_name a b then first_output (n + 1) model other else Some (unfit.Output n)
first_output n model other = None

abbrev pub inputs_difference : List Input → List Input → Option Unfit
inputs_difference model other = if length model == length other then first_input 0 model other else Some unfit.Inputs

abbrev pub outputs_difference : List (List ℕ) → List (List ℕ) → Option Unfit
outputs_difference model other = if length model == length other then first_output 0 model other else Some unfit.Outputs

abbrev pub or_later : Option Unfit → Option Unfit → Option Unfit
or_later (Some unfit) later = Some unfit
or_later None later = later

-- the number of inputs, then the inputs in order, then the number of outputs, then the outputs in order
abbrev pub first_difference : Signature → Signature → Option Unfit
first_difference model other =
    or_later (inputs_difference model.inputs other.inputs) (outputs_difference model.outputs other.outputs)

-- nothing differs, or this is the first that does
abbrev pub Tells : Option Unfit → Result (Unit {0}) Unfit → Type 0
Tells difference (Ok u) = difference ≡ None
Tells difference (Err unfit) = difference ≡ Some unfit
