-- What functions answer that check, resolve and take what a line says.
use Rattle.std.specs.Prelude.{◌≡◌, List, Option, Some, None, Result, Ok, Err}
use Rattle.text_lines.specs.declared.read.LineError.{LineError}
use Rattle.text_lines.specs.declared.read.LineError.TheVariants as line_error
use Rattle.chart_syntax.specs.declared.reader.Reader.{Reader}
use Rattle.chart_syntax.specs.declared.error.Refusal.{Refusal}
use Rattle.chart_syntax.specs.Checks.{Check, first_of}

-- what a function answers that resolves a part of a line and takes memory: it passes its check and this is its content,
-- or its refusal
abbrev pub Builds : {T : Type 0} → Option Refusal → T → Result T (LineError Refusal) → Type 0
Builds check content (Ok x) = (check ≡ None) × (x ≡ content)
Builds check content (Err (line_error.Refused refusal)) = check ≡ Some refusal
Builds check content (Err line_error.Memory) = Unit {0}

-- what a function answers that takes a line: it passes the checks and is taken, or this is the first refusal
abbrev pub Takes : {L : Type 0} → List (Check L) → (Reader → L → Reader) → Reader → Reader → L
    → Result (Unit {0}) (LineError Refusal) → Type 0
Takes all after old new l (Ok u) = (first_of all old l ≡ None) × (new ≡ after old l)
Takes all after old new l (Err (line_error.Refused refusal)) = first_of all old l ≡ Some refusal
Takes all after old new l (Err line_error.Memory) = Unit {0}
