-- The arms of the top call.
use Rattle.std.proofs.Common.{◌≡◌, Bool, List, [], ℕ, Option, Some, None, Result, Ok, Err, refl, sym, subst}
use Rattle.command_words.specs.declared.command.Command.{Command}
use Rattle.command_words.specs.Command.{command_of, IsCommand}
use Rattle.command_stages.specs.declared.stop.Stop.{Stop}
use Rattle.command_stages.specs.Stage.{Stage, Printed, Made}
use Rattle.command_stages.specs.Finish.{Finishes}
use Rattle.command_stages.specs.Serve.{Answer, Run, IsRun, Whole}
use Rattle.command_stages.proofs.Serving.{run_whole}
use Rattle.command_answers.specs.Ends.{Answers, AnswersCommand}

pub as_command : {o : Option Command} {run : Run} {r : Result Bool Stop} → command_of run.words ≡ o → IsRun (AnswersCommand o) (IsCommand run.words) run r → IsRun Answers (IsCommand run.words) run r
as_command {o} {run} {r} e h =
    let P : Option Command → Type 0 = λ x. IsRun (AnswersCommand x) (IsCommand run.words) run r in
    let k : IsRun (AnswersCommand (command_of run.words)) (IsCommand run.words) run r = subst P (sym e) h in
    record { ends = k.ends; known = k.known; unread = k.unread; keeps = k.keeps; later = k.later; sound = k.sound }

-- a command that puts the whole text or nothing
pub whole : (command : Command) (stage : Stage Printed) {run : Run} {made : Result Printed Stop} {r : Result Bool Stop} → command_of run.words ≡ Some command → Made stage run.words run.shelf run.shelf_after made → Finishes (λ p. p) made run.out run.out_after r → IsRun (Whole stage) (IsCommand run.words) run r
whole command stage {run} {made} {r} e m f = run_whole stage (IsCommand run.words) run made r (command, e) m f
