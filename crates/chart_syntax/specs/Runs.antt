-- A guard among the tokens of a line, which is line 1 of a text: what it is, and what refuses it.
use Rattle.std.specs.Prelude.{◌≡◌, ℕ, ◌<◌, ◌≤◌, List, length, Some, None}
use Rattle.lin_form.specs.declared.form.Comparison.{Comparison}
use Rattle.lin_form.specs.declared.signature.Signature.{Signature}
use Rattle.lin_form.specs.Trees.{Tree}
use Rattle.line_tokens.specs.declared.token.Token.{Token}
use Rattle.line_forms.specs.declared.lexeme.Lexeme.{Lexeme}
use Rattle.line_forms.specs.Grammar.{Guard, IsGuardText, guard_tree}
use Rattle.line_forms.specs.Trees.{tests_of}
use Rattle.line_checks.specs.declared.scope.NameFault.{NameFault}
use Rattle.line_checks.specs.Names.{Names, input_scope}
use Rattle.line_checks.specs.Guards.{guard_check, guard_of}
use Rattle.line_checks.specs.Runs.{lexemes_of, IsRun}
use Rattle.chart_syntax.specs.declared.error.Kind.TheVariants as kind
use Rattle.chart_syntax.specs.declared.error.Which.TheVariants as which
use Rattle.chart_syntax.specs.declared.error.Refusal.{Refusal}
use Rattle.chart_syntax.specs.declared.error.Refusal.TheVariants.{Fault, Limit}

-- the guard over the inputs of a signature that the longest run of tokens from `at` on says, which ends before `end`
pub record IsGuardAt (line : List ℕ) (tokens : List Token) (signature : Signature) (at end : ℕ)
    (guard : Tree Comparison) : Type 0 where
  pub said : Guard
  pub run : IsRun (lexemes_of line tokens) at end said
  pub few : tests_of (guard_tree said) ≤ 64
  pub known : guard_check (input_scope signature) (guard_tree said) ≡ None
  pub is : guard ≡ guard_of (input_scope signature) (length signature.inputs) (guard_tree said)

-- no run of tokens derives from a guard; or the longest has more than 64 comparisons; or it has no more, and a name that
-- is no input
abbrev pub RefusesRun : List Lexeme → Names → ℕ → Refusal → Type 0
RefusesRun ts s at (Fault kind.Form) = (said : Guard) → IsGuardText ts at said → ⊥
RefusesRun ts s at (Fault kind.Unknown) = (end : ℕ) × (said : Guard) × IsRun ts at end said
    × (tests_of (guard_tree said) ≤ 64) × (fault : NameFault) × (guard_check s (guard_tree said) ≡ Some fault)
RefusesRun ts s at (Fault other) = ⊥
RefusesRun ts s at (Limit which.Comparisons) = (end : ℕ) × (said : Guard) × IsRun ts at end said
    × (64 < tests_of (guard_tree said))
RefusesRun ts s at (Limit other) = ⊥

-- what refuses a guard, as a refusal of line 1
abbrev pub RefusesGuard : List ℕ → List Token → Signature → ℕ → ℕ → Refusal → Type 0
RefusesGuard line tokens signature at n refusal =
    (n ≡ 1) × RefusesRun (lexemes_of line tokens) (input_scope signature) at refusal
