-- The suite of a replay.
use Rattle.std.specs.Prelude.{ℕ}
use Rattle.subject.specs.Suite.{SuiteParts}
use Rattle.suite_reading.specs.Reading.{ReadsSuite, RefusesText}
use Rattle.suite_reader.specs.declared.error.SuiteError.{SuiteError}
use Rattle.suite_reader.specs.declared.error.SuiteError.TheVariants as suite_error
use Rattle.command_stages.specs.declared.stop.Refusal.TheVariants.{SuiteFault, SuiteLimit}
use Rattle.command_stages.specs.declared.stop.Departure.TheVariants.{NoMemory}
use Rattle.command_stages.specs.declared.stop.Stop.{Stop}
use Rattle.command_stages.specs.declared.stop.Stop.TheVariants.{Refused, Departed}
use Rattle.command_stages.specs.Stage.{Stage, Then, TextAt, Reading, suite_refusal}

-- how many bytes a suite's text may have
abbrev pub most_suite_bytes : ℕ
most_suite_bytes = 16777216

-- the suite that the word with this number names
abbrev pub SuiteAt : ℕ → Stage SuiteParts
SuiteAt number = Then (TextAt number most_suite_bytes)
    (λ text. Reading (suite_refusal number) (ReadsSuite text) (RefusesText text))

-- the stop for a suite's text that is refused
abbrev pub stop_of_suite : ℕ → SuiteError → Stop
stop_of_suite name (suite_error.Fault line kind) = Refused (SuiteFault name line kind)
stop_of_suite name (suite_error.Limit line which) = Refused (SuiteLimit name line which)
stop_of_suite name suite_error.Memory = Departed NoMemory
