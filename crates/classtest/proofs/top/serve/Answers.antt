use Rattle.std.proofs.Common.{◌≡◌, ◌∙◌, sym, map, Some}
use Rattle.std.specs.Prelude.{string_bytes}
use Rattle.command_words.specs.Command.{command_of}
use Rattle.command_words.specs.declared.command.Command.TheVariants.{Play, Classes, Suite, Run, Json, Replay, Gen}
use Rattle.verdict_report.specs.Json.{json_text}
use Rattle.judge_stages.specs.Verdicts.{verdict_lines}
use Rattle.gen_stages.specs.Summary.{SummaryOf}
use Rattle.command_answers.specs.Ends.{PlayEnds, ClassesEnds, SuiteEnds, RunEnds, ReplayEnds}
use Rattle.classtest.proofs.Arms.{as_command, whole}
use Rattle.classtest.proofs.top.serve.Goals as goal

pub returns-in-Some-Play : goal.returns-in-Some-Play
returns-in-Some-Play g c =
    let e : command_of (map string_bytes c.args.words.now) ≡ Some Play = sym (rw c.in-Some-Play.field-0-is at c.in-Some-Play.ensures.value) in
    as_command e (whole Play PlayEnds e c.play.ensures c.finish.ensures)

pub returns-in-Some-Classes : goal.returns-in-Some-Classes
returns-in-Some-Classes g c =
    let named = c.in-Some-Classes.cuts in
    let e : command_of (map string_bytes c.args.words.now) ≡ Some (Classes named) = sym (rw c.in-Some-Classes.field-0-is at c.in-Some-Classes.ensures.value) in
    as_command e (whole (Classes named) (ClassesEnds named) e c.classes.ensures c.finish-in-Some-Classes.ensures)

pub returns-in-Some-Suite : goal.returns-in-Some-Suite
returns-in-Some-Suite g c =
    let bound = c.in-Some-Suite.bound in
    let named = c.in-Some-Suite.cuts in
    let e : command_of (map string_bytes c.args.words.now) ≡ Some (Suite bound named) = sym (rw c.in-Some-Suite.field-0-is at c.in-Some-Suite.ensures.value) in
    as_command e (whole (Suite bound named) (SuiteEnds bound named) e c.suite.ensures c.finish-in-Some-Suite.ensures)

pub returns-in-Some-Run : goal.returns-in-Some-Run
returns-in-Some-Run g c =
    let bound = c.in-Some-Run.bound in
    let named = c.in-Some-Run.cuts in
    let e : command_of (map string_bytes c.args.words.now) ≡ Some (Run bound named) = sym (rw c.in-Some-Run.field-0-is at c.in-Some-Run.ensures.value) in
    as_command e (whole (Run bound named) (RunEnds verdict_lines bound named) e c.run.ensures c.finish-in-Some-Run.ensures)

pub returns-in-Some-Json : goal.returns-in-Some-Json
returns-in-Some-Json g c =
    let bound = c.in-Some-Json.bound in
    let named = c.in-Some-Json.cuts in
    let e : command_of (map string_bytes c.args.words.now) ≡ Some (Json bound named) = sym (rw c.in-Some-Json.field-0-is at c.in-Some-Json.ensures.value) in
    as_command e (whole (Json bound named) (RunEnds json_text bound named) e c.json.ensures c.finish-in-Some-Json.ensures)

pub returns-in-Some-Replay : goal.returns-in-Some-Replay
returns-in-Some-Replay g c =
    let e : command_of (map string_bytes c.args.words.now) ≡ Some Replay = sym (rw c.in-Some-Replay.field-0-is at c.in-Some-Replay.ensures.value) in
    as_command e (whole Replay ReplayEnds e c.replay.ensures c.finish-in-Some-Replay.ensures)

pub returns-in-Some-Gen : goal.returns-in-Some-Gen
returns-in-Some-Gen g c =
    let number = c.in-Some-Gen.number in
    let e : command_of (map string_bytes c.args.words.now) ≡ Some (Gen number) = sym (rw c.in-Some-Gen.field-0-is at c.in-Some-Gen.ensures.value) in
    as_command e (whole (Gen number) (SummaryOf number) e (c.summary_of.ensures _ _) c.finish-in-Some-Gen.ensures)
