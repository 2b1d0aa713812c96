-- The stops for atoms that are not listed, and for a box that is not divided.
use Rattle.std.specs.Prelude.{ℕ}
use Rattle.guard_atoms.specs.declared.error.AtomError.{AtomError}
use Rattle.guard_atoms.specs.declared.error.AtomError.TheVariants as atom_error
use Rattle.class_split.specs.declared.splitting.SplitError.{SplitError}
use Rattle.class_split.specs.declared.splitting.SplitError.TheVariants as split_error
use Rattle.command_stages.specs.declared.stop.Quantity.TheVariants as quantity
use Rattle.command_stages.specs.declared.stop.Refusal.TheVariants.{NoInput, Beyond}
use Rattle.command_stages.specs.declared.stop.Stop.{Stop}
use Rattle.command_stages.specs.declared.stop.Departure.TheVariants.{NoMemory}
use Rattle.command_stages.specs.declared.stop.Stop.TheVariants.{Refused, Departed}

abbrev pub stop_of_atoms : AtomError → Stop
stop_of_atoms atom_error.Coefficient = Refused (Beyond quantity.Coefficient)
stop_of_atoms atom_error.TooMany = Refused (Beyond quantity.Atoms)
stop_of_atoms atom_error.Memory = Departed NoMemory

-- for the chart that the word with this number names
abbrev pub stop_of_split : ℕ → SplitError → Stop
stop_of_split name split_error.TooMany = Refused (Beyond quantity.Classes)
stop_of_split name (split_error.NoInput tree) = Refused (NoInput name)
stop_of_split name split_error.Memory = Departed NoMemory
