-- Sums collected into forms: each name's coefficients are added up, and so are the constants. The names of a sum are
-- checked from left to right.
use Rattle.std.specs.Prelude.{◌≡◌, ℕ, ℤ, pos, ◌+ℤ◌, ◌-ℤ◌, Bool, true, false, if◌then◌else◌, ◌==◌, ◌<◌, List, [], ◌∷◌}
use Rattle.std.specs.Prelude.{replicate, take, slice_index_or, slice_set, Option, Some, None, option_and_then}
use Rattle.std.specs.Option.{option_or}
use Rattle.lin_form.specs.declared.form.Form.{Form}
use Rattle.lin_form.specs.declared.form.Comparison.{Comparison}
use Rattle.line_forms.specs.declared.statement.Term.{Term}
use Rattle.line_forms.specs.declared.statement.Term.TheVariants as term
use Rattle.line_forms.specs.declared.statement.SignedTerm.{SignedTerm}
use Rattle.line_forms.specs.declared.statement.TestForm.{TestForm}
use Rattle.line_checks.specs.declared.scope.Variable.{Variable}
use Rattle.line_checks.specs.declared.scope.Variable.TheVariants.{Input, Memory}
use Rattle.line_checks.specs.declared.scope.NameFault.{NameFault}
use Rattle.line_checks.specs.declared.sum.Sum.{Sum}
use Rattle.line_checks.specs.Names.{Names, variable_of, name_check}

abbrev pub name_of_term : Term → Option (List ℕ)
name_of_term (term.Number n) = None
name_of_term (term.Scaled n name) = Some name
name_of_term (term.Named name) = Some name
name_of_term (term.Multiplied name n) = Some name

abbrev pub factor_of : Term → ℕ
factor_of (term.Number n) = n
factor_of (term.Scaled n name) = n
factor_of (term.Named name) = 1
factor_of (term.Multiplied name n) = n

abbrev pub some_name_check : Names → Option (List ℕ) → Option NameFault
some_name_check s None = None
some_name_check s (Some name) = name_check s name

abbrev pub term_check : Names → Term → Option NameFault
term_check s t = some_name_check s (name_of_term t)

-- the names of a sum from left to right
abbrev pub sum_check : Names → List SignedTerm → Option NameFault
sum_check s [] = None
sum_check s (t ∷ terms) = option_or (term_check s t.term) (sum_check s terms)

abbrev pub test_check : Names → TestForm → Option NameFault
test_check s t = option_or (sum_check s t.left) (sum_check s t.right)

abbrev pub signed : Bool → ℕ → ℤ
signed true n = pos 0 -ℤ pos n
signed false n = pos n

-- what the name of a term stands for; a number alone has none
abbrev pub variable_of_term : Names → Term → Option Variable
variable_of_term s t = option_and_then (variable_of s) (name_of_term t)

-- a number is added to the coefficient of a variable, or to the constant
abbrev pub with_value : Option Variable → ℤ → Sum → Sum
with_value None z sum = record sum { constant = sum.constant +ℤ z }
with_value (Some (Input i)) z sum =
    record sum { inputs = slice_set sum.inputs i (slice_index_or sum.inputs i (pos 0) +ℤ z) }
with_value (Some (Memory j)) z sum =
    record sum { memory = slice_set sum.memory j (slice_index_or sum.memory j (pos 0) +ℤ z) }

-- the other sign where the sum is subtracted
abbrev pub is_negative : Bool → Bool → Bool
is_negative true negated = if negated then false else true
is_negative false negated = negated

abbrev pub add_term : Names → Bool → Sum → SignedTerm → Sum
add_term s subtracted sum t =
    with_value (variable_of_term s t.term) (signed (is_negative subtracted t.negated) (factor_of t.term)) sum

-- the terms are added to a sum, or subtracted from it
abbrev pub collect : Names → Bool → Sum → List SignedTerm → Sum
collect s subtracted sum [] = sum
collect s subtracted sum (t ∷ terms) = collect s subtracted (add_term s subtracted sum t) terms

abbrev pub nothing : Sum
nothing = record { inputs = replicate 6 (pos 0); memory = replicate 4 (pos 0); constant = pos 0 }

-- the form of a sum: a coefficient for each of so many inputs
abbrev pub form_of : ℕ → Sum → Form
form_of width sum = record { inputs = take width sum.inputs; memory = sum.memory; constant = sum.constant }

-- the left sum minus the right sum, compared with 0
abbrev pub comparison_of : Names → ℕ → TestForm → Comparison
comparison_of s width t = record {
  form = form_of width (collect s true (collect s false nothing t.left) t.right);
  relation = t.relation;
}

-- the value that an action assigns
abbrev pub value_form_of : Names → ℕ → List SignedTerm → Form
value_form_of s width terms = form_of width (collect s false nothing terms)

-- the number of a variable in a sum, or the constant
abbrev pub number_in : Option Variable → Form → ℤ
number_in None form = form.constant
number_in (Some (Input i)) form = slice_index_or form.inputs i (pos 0)
number_in (Some (Memory j)) form = slice_index_or form.memory j (pos 0)

abbrev pub is_same_variable : Option Variable → Option Variable → Bool
is_same_variable None None = true
is_same_variable (Some (Input i)) (Some (Input k)) = i == k
is_same_variable (Some (Memory i)) (Some (Memory k)) = i == k
is_same_variable a b = false

-- the factors of the terms with this variable, or of those with none, each with its sign, added up
abbrev pub added_up : Names → Bool → Option Variable → List SignedTerm → ℤ
added_up s subtracted v [] = pos 0
added_up s subtracted v (t ∷ terms) =
    (if is_same_variable (variable_of_term s t.term) v
    then signed (is_negative subtracted t.negated) (factor_of t.term) else pos 0)
    +ℤ added_up s subtracted v terms

-- the variable is one of so many inputs or of the four memories, or none
abbrev pub IsAmong : ℕ → Option Variable → Type 0
IsAmong inputs None = Unit {0}
IsAmong inputs (Some (Input i)) = i < inputs
IsAmong inputs (Some (Memory j)) = j < 4

-- in the form of a comparison each number is what its terms add up to, those of the right side with the other sign
abbrev pub IsAddedUp : Names → ℕ → TestForm → Type 0
IsAddedUp s width t = (v : Option Variable) → IsAmong width v
    → number_in v (comparison_of s width t).form ≡ added_up s false v t.left +ℤ added_up s true v t.right

-- and so is each number in the form of an action's value
abbrev pub IsValueAddedUp : Names → ℕ → List SignedTerm → Type 0
IsValueAddedUp s width terms = (v : Option Variable) → IsAmong width v
    → number_in v (value_form_of s width terms) ≡ added_up s false v terms
