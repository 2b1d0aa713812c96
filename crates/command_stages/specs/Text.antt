-- The stops for texts that are not loaded or not read.
use Rattle.std.specs.Prelude.{ℕ}
use Rattle.test_world.specs.declared.reading.LoadError.{LoadError}
use Rattle.test_world.specs.declared.reading.LoadError.TheVariants as load_error
use Rattle.chart_syntax.specs.declared.error.ChartError.{ChartError}
use Rattle.chart_syntax.specs.declared.error.ChartError.TheVariants as chart_error
use Rattle.command_stages.specs.declared.stop.Refusal.TheVariants.{Fault, Limit, TooLong}
use Rattle.command_stages.specs.declared.stop.Source.TheVariants.{Word}
use Rattle.command_stages.specs.declared.stop.Stop.{Stop}
use Rattle.command_stages.specs.declared.stop.Departure.TheVariants.{NoMemory, Unread}
use Rattle.command_stages.specs.declared.stop.Stop.TheVariants.{Refused, Departed}

-- the stop for a text that is not loaded
abbrev pub stop_of_load : ℕ → LoadError → Stop
stop_of_load number load_error.Fault = Departed (Unread (Word number))
stop_of_load number load_error.TooLong = Refused (TooLong number)
stop_of_load number load_error.Memory = Departed NoMemory

-- the stop for a text that has no reading
abbrev pub stop_of_chart : ℕ → ChartError → Stop
stop_of_chart name (chart_error.Fault line kind) = Refused (Fault name line kind)
stop_of_chart name (chart_error.Limit line which) = Refused (Limit name line which)
stop_of_chart name chart_error.Memory = Departed NoMemory
