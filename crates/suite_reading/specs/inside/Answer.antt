-- What is answered to a line.
use Rattle.std.specs.Prelude.{◌≡◌, Option, None, Some}
use Rattle.suite_reading.specs.declared.error.SuiteKind.TheVariants as fault
use Rattle.suite_reading.specs.declared.error.Cause.{Cause}
use Rattle.suite_reading.specs.declared.error.Cause.TheVariants.{Fault}
use Rattle.suite_reading.specs.Items.{Item}
use Rattle.suite_reading.specs.State.{State, next}
use Rattle.suite_reading.specs.Checks.{checks, first_of}

-- the first check that the item does not pass, or None with the next state
pub record Takes (s : State) (i : Item) (new : State) (answer : Option Cause) : Type 0 where
  pub cause : answer ≡ first_of (checks s i)
  pub taken : answer ≡ None → new ≡ next s i

-- the same for what tokens say, if anything
abbrev pub Answers : State → Option Item → State → Option Cause → Type 0
Answers s None new answer = answer ≡ Some (Fault fault.Form)
Answers s (Some i) new answer = Takes s i new answer
