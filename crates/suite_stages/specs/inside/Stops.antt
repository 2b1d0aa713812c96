-- The stops for a suite that is not made.
use Rattle.std.specs.Prelude.{ℕ}
use Rattle.suite_making.specs.declared.error.MakeError.{MakeError}
use Rattle.suite_making.specs.declared.error.MakeError.TheVariants as make_error
use Rattle.command_stages.specs.declared.stop.Quantity.TheVariants as quantity
use Rattle.command_stages.specs.declared.stop.Refusal.TheVariants.{Beyond, BoundBelow}
use Rattle.command_stages.specs.declared.stop.Stop.{Stop}
use Rattle.command_stages.specs.declared.stop.Departure.TheVariants.{NoMemory}
use Rattle.command_stages.specs.declared.stop.Stop.TheVariants.{Refused, Departed}

-- for this bound
abbrev pub stop_of_make : ℕ → MakeError → Stop
stop_of_make bound make_error.TooManyConfigurations = Refused (Beyond quantity.Configurations)
stop_of_make bound (make_error.BoundBelow states) = Refused (BoundBelow bound states)
stop_of_make bound make_error.TooManySteps = Refused (Beyond quantity.Steps)
stop_of_make bound make_error.Memory = Departed NoMemory
