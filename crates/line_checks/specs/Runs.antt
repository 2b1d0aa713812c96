-- Guards among the tokens of a line: the longest run of tokens from a place on that derives from GUARD.
use Rattle.std.specs.Prelude.{◌≡◌, ℕ, ◌<◌, ◌≤◌, List, map, Option, Some, None, Result, Ok, Err}
use Rattle.chart_model.specs.declared.guard.Guard as model
use Rattle.chart_model.specs.Guard.{plain}
use Rattle.line_tokens.specs.declared.token.Token.{Token}
use Rattle.line_tokens.specs.Lines.{content_of}
use Rattle.line_forms.specs.declared.lexeme.Lexeme.{Lexeme}
use Rattle.line_forms.specs.Lexemes.{lexeme_of}
use Rattle.line_forms.specs.Grammar.{Guard, IsGuardText, guard_size, guard_tree}
use Rattle.line_forms.specs.Longest.{IsLongest}
use Rattle.line_forms.specs.Trees.{tests_of}
use Rattle.line_checks.specs.declared.run.GuardError.{GuardError}
use Rattle.line_checks.specs.declared.run.GuardError.TheVariants as guard_error
use Rattle.line_checks.specs.Names.{Names}
use Rattle.line_checks.specs.Guards.{guard_check, guard_of}

-- what the tokens of a line mean
abbrev pub lexemes_of : List ℕ → List Token → List Lexeme
lexemes_of line tokens = map (lexeme_of (content_of line)) tokens

-- where the longest run ends, or that there is none
abbrev pub GivesEnd : {T : Type 0} → (ℕ → T → Type 0) → (T → ℕ) → ℕ → Option ℕ → Type 0
GivesEnd {T} Is size at (Some end) = (said : T) × IsLongest Is size at end said
GivesEnd {T} Is size at None = (said : T) → Is at said → ⊥

-- the longest run ends before `end` and is this guard
abbrev pub IsRun : List Lexeme → ℕ → ℕ → Guard → Type 0
IsRun ts at end said = IsLongest (IsGuardText ts) guard_size at end said

-- the guard of the longest run over the names; or there is no run; or it has more than 64 comparisons; or its first
-- name from the left that passes no check
abbrev pub GivesGuard : List Lexeme → Names → ℕ → ℕ → Result (model.Guard × ℕ) GuardError → Type 0
GivesGuard ts s width at (Ok r) = (said : Guard) × IsRun ts at r.1 said × (tests_of (guard_tree said) ≤ 64)
    × (guard_check s (guard_tree said) ≡ None) × (plain r.0 ≡ guard_of s width (guard_tree said))
GivesGuard ts s width at (Err guard_error.Form) = (said : Guard) → IsGuardText ts at said → ⊥
GivesGuard ts s width at (Err guard_error.Comparisons) = (end : ℕ) × (said : Guard) × IsRun ts at end said
    × (64 < tests_of (guard_tree said))
GivesGuard ts s width at (Err (guard_error.Fault fault)) = (end : ℕ) × (said : Guard) × IsRun ts at end said
    × (tests_of (guard_tree said) ≤ 64) × (guard_check s (guard_tree said) ≡ Some fault)
GivesGuard ts s width at (Err guard_error.Memory) = Unit {0}
