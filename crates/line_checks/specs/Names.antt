-- Names and what they stand for: a scope tells it of the names that a sum may have.
use Rattle.std.specs.Prelude.{ℕ, Bool, true, false, nat_eq, List, [], map, Option, Some, None, position}
use Rattle.std.specs.List.{list_any}
use Rattle.std.specs.Cmp.Lexicographic.{pointwise}
use Rattle.lin_form.specs.declared.signature.Signature.{Signature}
use Rattle.line_checks.specs.declared.scope.Variable.{Variable}
use Rattle.line_checks.specs.declared.scope.Variable.TheVariants.{Input, Memory}
use Rattle.line_checks.specs.declared.scope.NameFault.{NameFault}
use Rattle.line_checks.specs.declared.scope.NameFault.TheVariants.{Misuse, Unknown}

-- the names that a sum may have, in order of declaration, and those that have another use
pub record Names : Type 0 where
  pub inputs : List (List ℕ)
  pub memories : List (List ℕ)
  pub misused : List (List ℕ)

abbrev pub is_same : List ℕ → List ℕ → Bool
is_same = pointwise nat_eq

-- one of the names is this one
abbrev pub has_name : List ℕ → List (List ℕ) → Bool
has_name name names = list_any (is_same name) names

-- the number of the first declaration of a name
abbrev pub place_of : List ℕ → List (List ℕ) → Option ℕ
place_of name names = position (is_same name) names

-- an input, or else a memory
abbrev pub variable_in : Option ℕ → Option ℕ → Option Variable
variable_in (Some i) memory = Some (Input i)
variable_in None (Some j) = Some (Memory j)
variable_in None None = None

-- what a name stands for
abbrev pub variable_of : Names → List ℕ → Option Variable
variable_of s name = variable_in (place_of name s.inputs) (place_of name s.memories)

-- a name is found, or has another use, or is unknown
abbrev pub use_check : {T : Type 0} → Option T → Bool → Option NameFault
use_check (Some found) misused = None
use_check None true = Some Misuse
use_check None false = Some Unknown

abbrev pub name_check : Names → List ℕ → Option NameFault
name_check s name = use_check (variable_of s name) (has_name name s.misused)

-- the inputs of a signature alone
abbrev pub input_scope : Signature → Names
input_scope signature = record { inputs = map (λ i. i.name) signature.inputs; memories = []; misused = [] }
