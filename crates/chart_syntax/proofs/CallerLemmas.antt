-- A line of any format has one outcome, and keeps what its format keeps.
use Rattle.std.proofs.Common.{◌≡◌, ℕ, List, Option, Some, None, sym, ◌∙◌, refl, subst}
use Rattle.std.specs.Prelude.{Ok, Err}
use Rattle.std.specs.Option.{option_or}
use Rattle.text_lines.proofs.CallerLemmas.{HasOne, HasSome, Keeps, one_step, some_step}
use Rattle.line_forms.specs.declared.lexeme.Lexeme.{Lexeme}
use Rattle.line_forms.specs.declared.parsed.ParsedLine.{ParsedLine}
use Rattle.line_forms.specs.Parsing.{AreParsed, IsParsed}
use Rattle.chart_syntax.specs.declared.error.Refusal.{Refusal}
use Rattle.chart_syntax.specs.Reading.{LineOf, TakesBy, parsed_check, parsed_next}

-- a line is parsed in one way, and cannot be parsed in none
abbrev pub IsOneParse : {T : Type 0} → (List Lexeme → T → Type 0) → Type 0
IsOneParse {T} Is = (line : List ℕ) (a b : LineOf T) → IsParsed (AreParsed Is) line a → IsParsed (AreParsed Is) line b → a ≡ b

abbrev pub IsSomeParse : {T : Type 0} → (List Lexeme → T → Type 0) → Type 0
IsSomeParse {T} Is = (line : List ℕ) → ((a : LineOf T) → IsParsed (AreParsed Is) line a → ⊥) → ⊥

pub one_taken : {S T : Type 0} (Is : List Lexeme → T → Type 0) (check : S → ParsedLine T → Option Refusal) (next : S → ParsedLine T → S)
    → IsOneParse Is → HasOne (TakesBy Is check next)
one_taken Is check next one = one_step (IsParsed (AreParsed Is)) (λ s parsed refusal. parsed_check check s parsed ≡ refusal) (parsed_next next) one
    (λ s parsed a b p q. sym p ∙ q)

pub some_taken : {S T : Type 0} (Is : List Lexeme → T → Type 0) (check : S → ParsedLine T → Option Refusal) (next : S → ParsedLine T → S)
    → IsSomeParse Is → HasSome (TakesBy Is check next)
some_taken Is check next some = some_step (IsParsed (AreParsed Is)) (λ s parsed refusal. parsed_check check s parsed ≡ refusal) (parsed_next next) some
    (λ s parsed none. none (parsed_check check s parsed) refl)

parsed_keeps : {S T : Type 0} (Is : List Lexeme → T → Type 0) (check : S → ParsedLine T → Option Refusal) (next : S → ParsedLine T → S) (Kept : S → Type 0)
    → ((s : S) (line : List ℕ) (parsed : ParsedLine T) → Kept s → IsParsed (AreParsed Is) line (Ok (Some parsed)) → check s parsed ≡ None
    → Kept (next s parsed)) → (s : S) (line : List ℕ) (parsed : LineOf T) → Kept s → IsParsed (AreParsed Is) line parsed
    → parsed_check check s parsed ≡ None → Kept (parsed_next next s parsed)
parsed_keeps Is check next Kept keeps s line (Err error) p is e = p
parsed_keeps Is check next Kept keeps s line (Ok None) p is e = p
parsed_keeps Is check next Kept keeps s line (Ok (Some parsed)) p is e = keeps s line parsed p is e

-- what each line keeps that is not blank, every line keeps
pub taken_keeps : {S T : Type 0} (Is : List Lexeme → T → Type 0) (check : S → ParsedLine T → Option Refusal) (next : S → ParsedLine T → S) (Kept : S → Type 0)
    → ((s : S) (line : List ℕ) (parsed : ParsedLine T) → Kept s → IsParsed (AreParsed Is) line (Ok (Some parsed)) → check s parsed ≡ None
    → Kept (next s parsed)) → Keeps Kept (TakesBy Is check next)
taken_keeps Is check next Kept keeps s t line p taken = subst Kept (sym taken.3) (parsed_keeps Is check next Kept keeps s line taken.0 p taken.1 taken.2)

-- where neither of two checks tells anything
pub or_none : {T : Type 0} (a b : Option T) → option_or a b ≡ None → (a ≡ None) × (b ≡ None)
or_none None b e = (refl, e)
or_none (Some r) b e = absurd (cc)
