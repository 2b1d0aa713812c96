-- Which errors a text's refusals are.
use Rattle.std.specs.Prelude.{ℕ, List}
use Rattle.suite_reading.specs.declared.error.Cause.TheVariants as cause
use Rattle.suite_reading.specs.Reading.{RefusesText}
use Rattle.suite_reader.specs.declared.error.LineError.{LineError}
use Rattle.suite_reader.specs.declared.error.LineError.TheVariants as line_error
use Rattle.suite_reader.specs.declared.error.SuiteError.{SuiteError}
use Rattle.suite_reader.specs.declared.error.SuiteError.TheVariants.{Fault, Limit, Memory}

-- the error tells the first line that is refused, with the cause; want of memory tells nothing
abbrev pub IsRefusedBy : List ℕ → SuiteError → Type 0
IsRefusedBy text (Fault line kind) = RefusesText text line (cause.Fault kind)
IsRefusedBy text (Limit line which) = RefusesText text line (cause.Limit which)
IsRefusedBy text Memory = Unit {0}

-- the error for a line with this number
abbrev pub error_at : ℕ → LineError → SuiteError
error_at line (line_error.Refused (cause.Fault kind)) = Fault line kind
error_at line (line_error.Refused (cause.Limit which)) = Limit line which
error_at line line_error.Memory = Memory
