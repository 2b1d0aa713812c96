-- The names that lines declare, and what the names of a sum may stand for, by where the sum stands.
use Rattle.std.specs.Prelude.{ℕ, List, [], ◌++◌, length, map, Option, Some, None}
use Rattle.lin_form.specs.declared.form.Comparison.{Comparison}
use Rattle.line_forms.specs.declared.statement.TestForm.{TestForm}
use Rattle.line_checks.specs.declared.scope.NameFault.{NameFault}
use Rattle.line_checks.specs.declared.scope.NameFault.TheVariants as name_fault
use Rattle.line_checks.specs.Names.{Names}
use Rattle.line_checks.specs.Sums.{comparison_of}
use Rattle.chart_syntax.specs.declared.reader.Reader.{Reader}
use Rattle.chart_syntax.specs.declared.error.Kind.TheVariants as kind
use Rattle.chart_syntax.specs.declared.error.Refusal.{Refusal}
use Rattle.chart_syntax.specs.declared.error.Refusal.TheVariants.{Fault}

abbrev pub input_names : Reader → List (List ℕ)
input_names s = map (λ form. form.name) s.inputs

abbrev pub output_names : Reader → List (List ℕ)
output_names s = map (λ form. form.name) s.outputs

abbrev pub memory_names : Reader → List (List ℕ)
memory_names s = map (λ form. form.name) s.memories

-- a guard's sums have inputs and memories, and an output is misused there
abbrev pub guard_scope : Reader → Names
guard_scope s = record { inputs = input_names s; memories = memory_names s; misused = output_names s }

-- an assumption's sums have inputs
abbrev pub assumption_scope : Reader → Names
assumption_scope s = record { inputs = input_names s; memories = []; misused = [] }

-- an action's sums have memories, and an input or output is misused there
abbrev pub action_scope : Reader → Names
action_scope s = record { inputs = []; memories = memory_names s; misused = input_names s ++ output_names s }

-- the comparison of an assumption
abbrev pub assumption_of : Reader → TestForm → Comparison
assumption_of s t = comparison_of (assumption_scope s) (length s.inputs) t

abbrev pub refusal_of : NameFault → Refusal
refusal_of name_fault.Misuse = Fault kind.Misuse
refusal_of name_fault.Unknown = Fault kind.Unknown

-- what a name is refused for, as a refusal of the line
abbrev pub told : Option NameFault → Option Refusal
told None = None
told (Some fault) = Some (refusal_of fault)
