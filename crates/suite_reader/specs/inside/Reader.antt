-- What a reader answers to a line.
use Rattle.std.specs.Prelude.{◌≡◌, ℕ, List, length, take, Option, None, Some, Result, Ok, Err}
use Rattle.subject.specs.Suite.{SuiteParts, Test}
use Rattle.suite_reading.specs.declared.error.SuiteKind.TheVariants as fault
use Rattle.suite_reading.specs.declared.place.Place.TheVariants as place
use Rattle.suite_reading.specs.Items.{Item}
use Rattle.suite_reading.specs.State.{State, whole}
use Rattle.suite_reading.specs.inside.Answer.{Answers}
use Rattle.suite_reader.specs.declared.error.LineError.{LineError}
use Rattle.suite_reader.specs.declared.error.SuiteError.{SuiteError}
use Rattle.suite_reader.specs.declared.error.SuiteError.TheVariants as suite_error
use Rattle.suite_reader.specs.declared.error.LineError.TheVariants.{Refused, Memory}

-- the steps that are entered are those of the first letters
abbrev pub IsFront : Test → List ℕ → Type 0
IsFront entered letters = entered.letters ≡ take (length entered.replies) letters

-- the line is taken, or refused by the first check that it does not pass; want of memory is free
abbrev pub IsAnswered : State → Option Item → State → Result (Unit {0}) LineError → Type 0
IsAnswered s said new (Ok u) = Answers s said new None
IsAnswered s said new (Err (Refused cause)) = Answers s said new (Some cause)
IsAnswered s said new (Err Memory) = Unit {0}

-- the suite that was read where nothing is left after the end line, or the fault for this line
abbrev pub IsEnd : State → ℕ → ℕ → Result SuiteParts SuiteError → Type 0
IsEnd s left line (Ok suite) = (left ≡ 0) × (whole suite ≡ s)
IsEnd s left line (Err error) = (error ≡ suite_error.Fault line fault.End) × (¬ ((left ≡ 0) × (s.place ≡ place.End)))
