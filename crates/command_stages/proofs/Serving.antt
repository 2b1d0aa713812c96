-- What holds of a call, from what it did.
use Rattle.std.proofs.Common.{◌≡◌, ℕ, ◌≤◌, Bool, true, false, List, [], Option, Some, None, Result, Ok, Err, refl, sym, ◌∙◌, ap, subst, arith, ◌⊎◌, inl, inr, length, take}
use Rattle.std.specs.Prelude.{IsSome, ◌↔◌}
use Rattle.test_world.specs.Count.{Rose}
use Rattle.test_world.specs.Shelf.{held_of, Visits, IsSound}
use Rattle.test_world.specs.Sink.{SinkState, Grows, GrowsByPrefix, Puts}
use Rattle.test_world.proofs.Growing.{grows_by_nothing, rose_before}
use Rattle.command_stages.specs.declared.stop.Refusal.{Refusal}
use Rattle.command_stages.specs.declared.stop.Refusal.TheVariants.{Fault}
use Rattle.command_stages.specs.declared.stop.Source.{Source}
use Rattle.command_stages.specs.declared.stop.Departure.{Departure}
use Rattle.command_stages.specs.declared.stop.Departure.TheVariants.{NoMemory, Unread, WriteFault}
use Rattle.command_stages.specs.declared.stop.Stop.{Stop}
use Rattle.command_stages.specs.declared.stop.Stop.TheVariants.{NoCommand, Refused, Departed}
use Rattle.command_stages.specs.Report.{status_of_refusal, status_of_departure, status_of_stop, status_of, err_line, names_of}
use Rattle.command_stages.specs.Stage.{Stage, Printed, Stopped, Comes, IsRead, IsNoRead, Made, IsDetermined}
use Rattle.command_stages.specs.Finish.{Finishes, IsCutShort}
use Rattle.command_stages.specs.Serve.{Answer, Answering, answer, Whole, Run, Call, given_of, IsFor, IsPut, HasDeparted, Ends, HoldsAllWanted, IsKnown, IsKnownTo, IsRun, IsReported, IsCarriedOut, Departs, IsAnswerOf, IsCarried, IsAnswered, IsServed, IsOne}

untouched : (before after : SinkState) → after ≡ before → Grows before after []
untouched before after e = let P : SinkState → Type 0 = λ s. Grows before s [] in subst P (sym e) (grows_by_nothing before.taken)

untouched_part : (before after : SinkState) → after ≡ before → GrowsByPrefix before after []
untouched_part before after e = (0, omega arith, untouched before after e)

-- the texts that a stage took up
abbrev Took : Run → List Source → Type 0
Took run sources = Visits run.shelf run.shelf_after (names_of run.words sources)

-- a stage that stopped
stopped_ends : (stage : Stage Printed) (command : Type 0) (run : Run) (sources : List Source) (stop : Stop) → command → run.out_after ≡ run.out → Took run sources → Stopped stop (stage (given_of run) sources (Err stop)) run.shelf.faults run.shelf_after.faults → Ends (Whole stage) command run (Err stop)
stopped_ends stage command run sources NoCommand is same took h = absurd h
stopped_ends stage command run sources (Refused refusal) is same took h = ([], (sources, (refl, h), took), (untouched run.out run.out_after same, λ e. same))
stopped_ends stage command run sources (Departed NoMemory) is same took h = (is, (sources, (refl, h), took), same)
stopped_ends stage command run sources (Departed (Unread source)) is same took h = (h.1, [], (sources, (refl, h.0), took), untouched_part run.out run.out_after same, λ e. same)
stopped_ends stage command run sources (Departed WriteFault) is same took h = absurd h

cut_ends : (stage : Stage Printed) (command : Type 0) (run : Run) (sources : List Source) (p : Printed) (stop : Stop) → Took run sources → stage (given_of run) sources (Ok p) → IsCutShort run.out run.out_after p.text stop → Ends (Whole stage) command run (Err stop)
cut_ends stage command run sources p NoCommand took is h = absurd h
cut_ends stage command run sources p (Refused refusal) took is h = absurd h
cut_ends stage command run sources p (Departed NoMemory) took is h = absurd h
cut_ends stage command run sources p (Departed (Unread source)) took is h = absurd h
cut_ends stage command run sources p (Departed WriteFault) took is h = (h.2, answer p.text (Ok p.passes), (sources, is, took), h.0)

run_ends : (stage : Stage Printed) (command : Type 0) (run : Run) (sources : List Source) (made : Result Printed Stop) (r : Result Bool Stop) → command → Took run sources → Comes stage (given_of run) sources run.shelf.faults run.shelf_after.faults made → Finishes (λ p. p) made run.out run.out_after r → Ends (Whole stage) command run r
run_ends stage command run sources (Ok p) (Ok passes) is took h f =
    let P : Bool → Type 0 = λ b. stage (given_of run) sources (Ok (let q : Printed = record { passes = b; text = p.text } in q)) in
    (p.text, (sources, subst P (sym f.0) h, took), f.1)
run_ends stage command run sources (Ok p) (Err stop) is took h f = cut_ends stage command run sources p stop took h f
run_ends stage command run sources (Err stop) r is took h f =
    let P : Result Bool Stop → Type 0 = λ x. Ends (Whole stage) command run x in subst P (sym f.0) (stopped_ends stage command run sources stop is f.1 took h)

-- what else holds at the end of a stop that is no `NoCommand`
stopped_known : (command : Type 0) (stop : Stop) (T : Type 0) (before after : ℕ) → command → Stopped stop T before after → IsKnownTo command stop
stopped_known command NoCommand T before after is h = absurd h
stopped_known command (Refused refusal) T before after is h = is
stopped_known command (Departed departure) T before after is h = is

-- a text that is cut short is so by a failed write
record IsWriteFault (command : Type 0) (before after : SinkState) (stop : Stop) : Type 0 where
  known : command → IsKnownTo command stop
  later : before.faults ≤ after.faults
  read : IsNoRead stop

cut : (command : Type 0) (before after : SinkState) (text : List ℕ) (stop : Stop) → IsCutShort before after text stop → IsWriteFault command before after stop
cut command before after text NoCommand h = absurd h
cut command before after text (Refused refusal) h = absurd h
cut command before after text (Departed NoMemory) h = absurd h
cut command before after text (Departed (Unread source)) h = absurd h
cut command before after text (Departed WriteFault) h = record { known = λ is. is; later = h.1; read = tt }

run_known : (stage : Stage Printed) (command : Type 0) (run : Run) (sources : List Source) (made : Result Printed Stop) (r : Result Bool Stop) → command → Comes stage (given_of run) sources run.shelf.faults run.shelf_after.faults made → Finishes (λ p. p) made run.out run.out_after r → IsKnown command r
run_known stage command run sources (Ok p) (Ok passes) is h f = is
run_known stage command run sources (Ok p) (Err stop) is h f = (cut command run.out run.out_after p.text stop f).known is
run_known stage command run sources (Err stop) r is h f =
    let P : Result Bool Stop → Type 0 = λ x. IsKnown command x in subst P (sym f.0) (stopped_known command stop (stage (given_of run) sources (Err stop)) run.shelf.faults run.shelf_after.faults is h)

run_later : (run : Run) (made : Result Printed Stop) (r : Result Bool Stop) → Finishes (λ p. p) made run.out run.out_after r → run.out.faults ≤ run.out_after.faults
run_later run (Ok p) (Ok passes) f = f.2
run_later run (Ok p) (Err stop) f = (cut (Unit {0}) run.out run.out_after p.text stop f).later
run_later run (Err stop) r f = let e : run.out_after.faults ≡ run.out.faults = ap (λ (s : SinkState). s.faults) f.1 in omega arith

run_read : (run : Run) (made : Result Printed Stop) (r : Result Bool Stop) → Finishes (λ p. p) made run.out run.out_after r → IsRead made → IsRead r
run_read run (Ok p) (Ok passes) f h = tt
run_read run (Ok p) (Err stop) f h = (cut (Unit {0}) run.out run.out_after p.text stop f).read
run_read run (Err stop) r f h = let P : Result Bool Stop → Type 0 = λ x. IsRead x in subst P (sym f.0) h

-- a command that puts the whole text or nothing
pub run_whole : (stage : Stage Printed) (command : Type 0) (run : Run) (made : Result Printed Stop) (r : Result Bool Stop) → command → Made stage run.words run.shelf run.shelf_after made → Finishes (λ p. p) made run.out run.out_after r → IsRun (Whole stage) command run r
run_whole stage command run made r is m f = record {
  ends = run_ends stage command run m.sources made r is m.visits m.comes f;
  known = run_known stage command run m.sources made r is m.comes f;
  unread = λ no. absurd (no is);
  keeps = m.keeps;
  later = run_later run made r f;
  sound = λ s wanted. run_read run made r f (m.sound s (λ source sources h. wanted source [] sources (refl, h))).1;
}

-- an answer that is carried out
carried : (answers : Answering) (command : Type 0) (call : Call) → IsOne answers → IsCarried answers call → (call.status ≡ 5 → ⊥) → IsAnswered answers command call
carried answers command call law done other =
    let same : IsSome (held_of call.run.shelf) → (s : List Source) (x : Answer) → IsAnswerOf answers call s x → IsCarriedOut call x =
    λ told s x h. subst (IsCarriedOut call) (law (given_of call.run) told done.is_for.0 s done.one x done.determined h.determined done.is_for.1 h.is) done.out in
    record {
      caused = inl done;
      exact = λ told s x h. inl (same told s x h);
      complete = λ told s x h shelf sink. inl (same told s x h);
      sound_shelf = λ s holds five. absurd (other five);
      sound_complete = λ s holds told t x h sink. inl (same told t x h);
    }

other_status : (n status : ℕ) → status ≡ n → (n ≡ 5 → ⊥) → status ≡ 5 → ⊥
other_status n status e other five = other (sym e ∙ five)

no_five : (refusal : Refusal) → status_of_refusal refusal ≡ 5 → ⊥
no_five (Fault name line kind) e = cc
no_five other e = cc

no_two : (refusal : Refusal) → status_of_refusal refusal ≡ 2 → ⊥
no_two (Fault name line kind) e = cc
no_two other e = cc

departed : (answers : Answering) (command : Type 0) (call : Call) (why : Departure) → HasDeparted answers command call.run why → call.status ≡ status_of_departure why → IsReported call (Err (Departed why)) → (IsSound call.run.shelf → HoldsAllWanted answers call.run → IsNoRead (Departed why)) → IsAnswered answers command call
departed answers command call (Unread source) cause status line sound =
    let d : Departs answers command call = record { why = Unread source; cause = cause; status = status; line = line } in
    record {
      caused = inr d;
      exact = λ told t x h. inr d;
      complete = λ told t x h shelf sink. absurd (shelf cause.0);
      sound_shelf = λ s holds five. absurd (sound s holds);
      sound_complete = λ s holds told t x h sink. absurd (sound s holds);
    }
departed answers command call WriteFault cause status line sound =
    let d : Departs answers command call = record { why = WriteFault; cause = cause; status = status; line = line } in
    record {
      caused = inr d;
      exact = λ told t x h. inr d;
      complete = λ told t x h shelf sink. absurd (sink cause.0);
      sound_shelf = λ s holds five. cause.0;
      sound_complete = λ s holds told t x h sink. absurd (sink cause.0);
    }
departed answers command call NoMemory cause status line sound =
    let d : Departs answers command call = record { why = NoMemory; cause = cause; status = status; line = line } in
    record {
      caused = inr d;
      exact = λ told t x h. inr d;
      complete = λ told t x h shelf sink. inr status;
      sound_shelf = λ s holds five. let e = sym status ∙ five in absurd (cc);
      sound_complete = λ s holds told t x h sink. inr status;
    }

answered : (answers : Answering) (command : Type 0) (call : Call) (r : Result Bool Stop) → IsOne answers → IsRun answers command call.run r → call.status ≡ status_of r → IsReported call r → IsAnswered answers command call
answered answers command call (Ok true) law run status line =
    carried answers command call law (record { one = answer run.ends.0 (Ok true); determined = tt; is_for = run.ends.1; out = record { status = status; put = run.ends.2; line = line } }) (other_status 0 call.status status (λ e. cc))
answered answers command call (Ok false) law run status line =
    carried answers command call law (record { one = answer run.ends.0 (Ok false); determined = tt; is_for = run.ends.1; out = record { status = status; put = run.ends.2; line = line } }) (other_status 1 call.status status (λ e. cc))
answered answers command call (Err NoCommand) law run status line =
    let h = run.ends in
    carried answers command call law (record { one = answer h.0 (Err NoCommand); determined = tt; is_for = h.1; out = record { status = status; put = h.2; line = line } }) (other_status 2 call.status status (λ e. cc))
answered answers command call (Err (Refused refusal)) law run status line =
    let h = run.ends in
    carried answers command call law (record { one = answer h.0 (Err (Refused refusal)); determined = tt; is_for = h.1; out = record { status = status; put = h.2; line = line } }) (other_status (status_of_refusal refusal) call.status status (no_five refusal))
answered answers command call (Err (Departed why)) law run status line = departed answers command call why run.ends status line run.sound

no_departure_two : (departure : Departure) → status_of_departure departure ≡ 2 → ⊥
no_departure_two NoMemory e = cc
no_departure_two other e = cc

two_known : (command : Type 0) (stop : Stop) → IsKnownTo command stop → (status_of_stop stop ≡ 2) ↔ (command → ⊥)
two_known command NoCommand is = (λ e. is, λ no. refl)
two_known command (Refused refusal) is = (λ e. absurd (no_two refusal e), λ no. absurd (no is))
two_known command (Departed departure) is = (λ e. absurd (no_departure_two departure e), λ no. absurd (no is))

known_two : (command : Type 0) (r : Result Bool Stop) → IsKnown command r → (status_of r ≡ 2) ↔ (command → ⊥)
known_two command (Ok true) is = (λ e. cc, λ no. absurd (no is))
known_two command (Ok false) is = (λ e. cc, λ no. absurd (no is))
known_two command (Err stop) is = two_known command stop is

pub served : (answers : Answering) (command : Type 0) (call : Call) (r : Result Bool Stop) → IsOne answers → IsRun answers command call.run r → call.status ≡ status_of r → IsReported call r → call.err.faults ≤ call.err_after.faults → IsServed answers command call
served answers command call r law run status line later =
    let two : (status_of r ≡ 2) ↔ (command → ⊥) = known_two command r run.known in
    record {
      answered = answered answers command call r law run status line;
      no_command = (λ e. two.0 (sym status ∙ e), λ no. status ∙ two.1 no);
      unread = run.unread;
      keeps = run.keeps;
      out_later = run.later;
      err_later = later;
    }

-- the line of a stop on `err`
pub reported : {T E : Type 0} (call : Call) (stop : Stop) (r : Result T E) → Puts call.err call.err_after (err_line call.run.words stop) r → IsReported call (Err stop)
reported call stop (Ok v) h = inl h.put
reported call stop (Err e) h = inr h.put

no_zero_refusal : (refusal : Refusal) → status_of_refusal refusal ≡ 0 → ⊥
no_zero_refusal (Fault name line kind) e = cc
no_zero_refusal other e = cc

pub no_zero : (stop : Stop) → status_of_stop stop ≡ 0 → ⊥
no_zero NoCommand e = cc
no_zero (Refused refusal) e = no_zero_refusal refusal e
no_zero (Departed NoMemory) e = cc
no_zero (Departed other) e = cc

-- a call that ends with a line on `err`
pub served_stop : {T E : Type 0} {answers : Answering} {command : Type 0} {call : Call} {stop : Stop} {r : Result T E} → IsOne answers → IsRun answers command call.run (Err stop) → call.status ≡ status_of_stop stop → Puts call.err call.err_after (err_line call.run.words stop) r → IsServed answers command call
served_stop {T} {E} {answers} {command} {call} {stop} {r} law run status line = served answers command call (Err stop) law run status (reported call stop r line) line.later
