-- The text of a suite, as a stage.
use Rattle.std.proofs.Common.{◌≡◌, ℕ, ◌≤◌, List, length, Ok, Err}
use Rattle.test_world.specs.Shelf.{ShelfState}
use Rattle.command_stages.specs.Stage.{Made, TextAt, Reading, suite_refusal}
use Rattle.command_stages.proofs.Stages.{made_refused, made_unread}
use Rattle.subject.specs.Suite.{SuiteParts}
use Rattle.suite_reading.specs.declared.error.Cause.TheVariants as cause
use Rattle.suite_reading.specs.Reading.{ReadsSuite, RefusesText}
use Rattle.suite_reader.specs.declared.error.SuiteError.{SuiteError}
use Rattle.suite_reader.specs.declared.error.SuiteError.TheVariants as suite_error
use Rattle.suite_reader.specs.Errors.{IsRefusedBy}
use Rattle.replay_stages.specs.Suites.{stop_of_suite}

-- a text that was loaded has at most so many bytes
pub short_text : (number most : ℕ) {words : List (List ℕ)} {before after : ShelfState} {bytes : List ℕ} → Made (TextAt number most) words before after (Ok bytes) → length bytes ≤ most
unfolding TextAt
short_text number most made = made.comes.2

-- a suite's text that is refused
pub made_not : (number : ℕ) {text bytes : List ℕ} {words : List (List ℕ)} {shelf : ShelfState} (e : SuiteError) → bytes ≡ text → IsRefusedBy bytes e
    → Made {A = SuiteParts} (Reading (suite_refusal number) (ReadsSuite text) (RefusesText text)) words shelf shelf (Err (stop_of_suite number e))
made_not number (suite_error.Fault line kind) same h = made_refused (suite_refusal number) ReadsSuite RefusesText line (cause.Fault kind) same h
made_not number (suite_error.Limit line which) same h = made_refused (suite_refusal number) ReadsSuite RefusesText line (cause.Limit which) same h
made_not number {text} suite_error.Memory same h = made_unread (suite_refusal number) (ReadsSuite text) (RefusesText text)
