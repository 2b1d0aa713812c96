-- The status tells whether what the text tells of passes.
use Rattle.std.proofs.Common.{◌≡◌, ℕ, Bool, true, false, Ok}
use Rattle.command_words.specs.Command.{command_of, IsCommand}
use Rattle.command_stages.specs.declared.stop.Refusal.{Refusal}
use Rattle.command_stages.specs.declared.stop.Refusal.TheVariants.{Fault}
use Rattle.command_stages.specs.declared.stop.Stop.{Stop}
use Rattle.command_stages.specs.declared.stop.Departure.TheVariants.{NoMemory}
use Rattle.command_stages.specs.declared.stop.Stop.TheVariants.{NoCommand, Refused, Departed}
use Rattle.command_stages.specs.Report.{status_of, status_of_refusal, status_of_stop}
use Rattle.command_stages.specs.Serve.{Run, IsRun}
use Rattle.command_stages.proofs.Serving.{no_zero}
use Rattle.command_answers.specs.Ends.{Answers}
use Rattle.command_meaning.specs.Means.{PutsMeaning}

-- what the text of a command shows, where it is put whole
abbrev pub TextsShow : Type 0
TextsShow = (run : Run) (passes : Bool) → IsRun Answers (IsCommand run.words) run (Ok passes) → PutsMeaning (command_of run.words) run passes

pub at_true : TextsShow → (run : Run) → IsRun Answers (IsCommand run.words) run (Ok true) → (passes : Bool) → 0 ≡ status_of (Ok passes) → PutsMeaning (command_of run.words) run passes
at_true law run h true e = law run true h
at_true law run h false e = absurd cc

pub at_false : TextsShow → (run : Run) → IsRun Answers (IsCommand run.words) run (Ok false) → (passes : Bool) → 1 ≡ status_of (Ok passes) → PutsMeaning (command_of run.words) run passes
at_false law run h true e = absurd cc
at_false law run h false e = law run false h

no_one_refusal : (refusal : Refusal) → status_of_refusal refusal ≡ 1 → ⊥
no_one_refusal (Fault name line kind) e = cc
no_one_refusal other e = cc

no_one : (stop : Stop) → status_of_stop stop ≡ 1 → ⊥
no_one NoCommand e = cc
no_one (Refused refusal) e = no_one_refusal refusal e
no_one (Departed NoMemory) e = cc
no_one (Departed other) e = cc

pub at_stop : (stop : Stop) (passes : Bool) → status_of_stop stop ≡ status_of (Ok passes) → ⊥
at_stop stop true e = no_zero stop e
at_stop stop false e = no_one stop e
