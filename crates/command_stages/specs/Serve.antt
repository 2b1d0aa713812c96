-- A call of the program: its answer is carried out, or the call departs from it for want of memory, a failed read or a
-- failed write.
use Rattle.std.specs.Prelude.{◌≡◌, ℕ, ◌≤◌, ◌↔◌, Bool, List, [], Option, IsSome, ◌⊎◌, Result, Ok, Err}
use Rattle.test_world.specs.Count.{Rose}
use Rattle.test_world.specs.Shelf.{ShelfState, held_of, HasName, Keeps, Visits, IsSound}
use Rattle.test_world.specs.Sink.{SinkState, Grows, GrowsByPrefix}
use Rattle.command_stages.specs.declared.stop.Source.{Source}
use Rattle.command_stages.specs.declared.stop.Departure.{Departure}
use Rattle.command_stages.specs.declared.stop.Departure.TheVariants.{NoMemory, Unread, WriteFault}
use Rattle.command_stages.specs.declared.stop.Stop.{Stop}
use Rattle.command_stages.specs.declared.stop.Stop.TheVariants.{NoCommand, Refused, Departed}
use Rattle.command_stages.specs.Report.{name_of, names_of, status_of, status_of_departure, err_line}
use Rattle.command_stages.specs.Stage.{Given, Stage, Printed, IsAnswer, IsDetermined, IsRead, at_shelf}

-- an answer: what is put, and whether what it tells of passes, or why there is no more
pub record Answer : Type 0 where
  pub put : List ℕ
  pub ends : Result Bool Stop

abbrev pub answer : List ℕ → Result Bool Stop → Answer
answer put ends = record { put = put; ends = ends }

-- what is answered, given words and texts, and which texts are taken up for it
abbrev pub Answering : Type 1
Answering = Given → List Source → Answer → Type 0

-- a stage that comes to a text puts the whole text or nothing
abbrev pub WholeBy : Stage Printed → Given → List Source → List ℕ → Result Bool Stop → Type 0
WholeBy stage given sources put (Ok passes) = stage given sources (Ok (record { passes = passes; text = put }))
WholeBy stage given sources put (Err stop) = (put ≡ []) × stage given sources (Err stop)

abbrev pub Whole : Stage Printed → Answering
Whole stage given sources one = WholeBy stage given sources one.put one.ends

-- a call up to its last line: its words, the shelf and `out`, before and after
pub record Run : Type 0 where
  pub words : List (List ℕ)
  pub shelf : ShelfState
  pub shelf_after : ShelfState
  pub out : SinkState
  pub out_after : SinkState

-- a whole call: also `err`, and the status
pub record Call : Type 0 where
  pub run : Run
  pub err : SinkState
  pub err_after : SinkState
  pub status : ℕ

abbrev pub given_of : Run → Given
given_of run = at_shelf run.words run.shelf

-- this is answered, and the texts that are wanted for it were taken up, in this order, and no others
abbrev pub IsFor : Answering → Run → Answer → Type 0
IsFor answers run one = (sources : List Source) × answers (given_of run) sources one
    × Visits run.shelf run.shelf_after (names_of run.words sources)

-- this is put to `out`; with a stop that puts nothing, `out` is not touched
abbrev pub IsPut : Run → List ℕ → Result Bool Stop → Type 0
IsPut run put (Ok passes) = Grows run.out run.out_after put
IsPut run put (Err stop) = Grows run.out run.out_after put × (put ≡ [] → run.out_after ≡ run.out)

-- what must be so where a call departs from its answer, and what `out` is then
abbrev pub HasDeparted : Answering → Type 0 → Run → Departure → Type 0
HasDeparted answers command run (Unread source) = Rose run.shelf.faults run.shelf_after.faults
    × (put : List ℕ) × IsFor answers run (answer put (Err (Departed (Unread source))))
    × GrowsByPrefix run.out run.out_after put × (put ≡ [] → run.out_after ≡ run.out)
HasDeparted answers command run WriteFault = Rose run.out.faults run.out_after.faults
    × (one : Answer) × IsFor answers run one × GrowsByPrefix run.out run.out_after one.put
HasDeparted answers command run NoMemory = command × IsFor answers run (answer [] (Err (Departed NoMemory)))
    × (run.out_after ≡ run.out)

-- how a call ends before its last line: an answer is put, or the call departs
abbrev pub Ends : Answering → Type 0 → Run → Result Bool Stop → Type 0
Ends answers command run (Ok passes) =
    (put : List ℕ) × IsFor answers run (answer put (Ok passes)) × IsPut run put (Ok passes)
Ends answers command run (Err (Departed departure)) = HasDeparted answers command run departure
Ends answers command run (Err stop) =
    (put : List ℕ) × IsFor answers run (answer put (Err stop)) × IsPut run put (Err stop)

-- the shelf tells that it holds each text that a read wants
abbrev pub HoldsAllWanted : Answering → Run → Type 0
HoldsAllWanted answers run = (source : Source) (put : List ℕ) (sources : List Source)
    → answers (given_of run) sources (answer put (Err (Departed (Unread source))))
    → HasName (held_of run.shelf) (name_of run.words source)

-- the words are a command, or the stop says that they are none
abbrev pub IsKnownTo : Type 0 → Stop → Type 0
IsKnownTo command NoCommand = command → ⊥
IsKnownTo command other = command

-- the words are a command, or the end says that they are none
abbrev pub IsKnown : Type 0 → Result Bool Stop → Type 0
IsKnown command (Ok passes) = command
IsKnown command (Err stop) = IsKnownTo command stop

-- what holds of a call before its last line
pub record IsRun (answers : Answering) (command : Type 0) (run : Run) (result : Result Bool Stop) : Type 0 where
  pub ends : Ends answers command run result
  pub known : IsKnown command result
  pub unread : (command → ⊥) → run.shelf_after ≡ run.shelf
  pub keeps : Keeps run.shelf run.shelf_after
  pub later : run.out.faults ≤ run.out_after.faults
  pub sound : IsSound run.shelf → HoldsAllWanted answers run → IsRead result

-- the line of a stop was put to `err`, or a prefix of it where the count of `err` rose; nothing where there is no stop
abbrev pub IsReported : Call → Result Bool Stop → Type 0
IsReported call (Ok passes) = call.err_after ≡ call.err
IsReported call (Err stop) = Grows call.err call.err_after (err_line call.run.words stop)
    ⊎ (GrowsByPrefix call.err call.err_after (err_line call.run.words stop)
    × Rose call.err.faults call.err_after.faults)

-- the answer is carried out: its status, what is put to `out`, and the line on `err`
pub record IsCarriedOut (call : Call) (one : Answer) : Type 0 where
  pub status : call.status ≡ status_of one.ends
  pub put : IsPut call.run one.put one.ends
  pub line : IsReported call one.ends

-- the call departs from its answer, by the status and the line of why
pub record Departs (answers : Answering) (command : Type 0) (call : Call) : Type 0 where
  pub why : Departure
  pub cause : HasDeparted answers command call.run why
  pub status : call.status ≡ status_of_departure why
  pub line : IsReported call (Err (Departed why))

-- this is the answer, where these texts are taken up for it
pub record IsAnswerOf (answers : Answering) (call : Call) (sources : List Source) (one : Answer) : Type 0 where
  pub determined : IsDetermined one.ends
  pub is : answers (given_of call.run) sources one

-- an answer was carried out, and the texts that are wanted for it were taken up, in this order, and no others
pub record IsCarried (answers : Answering) (call : Call) : Type 0 where
  pub one : Answer
  pub determined : IsDetermined one.ends
  pub is_for : IsFor answers call.run one
  pub out : IsCarriedOut call one

-- what is answered
pub record IsAnswered (answers : Answering) (command : Type 0) (call : Call) : Type 0 where
  -- an answer is carried out, or the call departs
  pub caused : IsCarried answers call ⊎ Departs answers command call
  -- whatever is the answer to the texts that the shelf tells is carried out, or the call departs
  pub exact : IsSome (held_of call.run.shelf) → (sources : List Source) (one : Answer)
      → IsAnswerOf answers call sources one → IsCarriedOut call one ⊎ Departs answers command call
  -- where no count rose, it is carried out, or there was no memory
  pub complete : IsSome (held_of call.run.shelf) → (sources : List Source) (one : Answer)
      → IsAnswerOf answers call sources one → (Rose call.run.shelf.faults call.run.shelf_after.faults → ⊥)
      → (Rose call.run.out.faults call.run.out_after.faults → ⊥) → IsCarriedOut call one ⊎ (call.status ≡ 6)
  -- over a sound shelf that holds each text wanted, status 5 needs that the count of `out` rose
  pub sound_shelf : IsSound call.run.shelf → HoldsAllWanted answers call.run → call.status ≡ 5
      → Rose call.run.out.faults call.run.out_after.faults
  -- and nothing is asked of the count of the shelf
  pub sound_complete : IsSound call.run.shelf → HoldsAllWanted answers call.run → IsSome (held_of call.run.shelf)
      → (sources : List Source) (one : Answer) → IsAnswerOf answers call sources one
      → (Rose call.run.out.faults call.run.out_after.faults → ⊥) → IsCarriedOut call one ⊎ (call.status ≡ 6)

-- what holds of every call
pub record IsServed (answers : Answering) (command : Type 0) (call : Call) : Type 0 where
  pub answered : IsAnswered answers command call
  -- status 2 comes exactly where the words are no command, and then nothing is read
  pub no_command : (call.status ≡ 2) ↔ (command → ⊥)
  pub unread : (command → ⊥) → call.run.shelf_after ≡ call.run.shelf
  -- the shelf holds and tells what it did, and no count falls
  pub keeps : Keeps call.run.shelf call.run.shelf_after
  pub out_later : call.run.out.faults ≤ call.run.out_after.faults
  pub err_later : call.err.faults ≤ call.err_after.faults

-- there is one answer, where the shelf tells its texts
abbrev pub IsOne : Answering → Type 0
IsOne answers = (given : Given) → IsSome given.held → (s t : List Source) (x y : Answer) → IsDetermined x.ends
    → IsDetermined y.ends → answers given s x → answers given t y → x ≡ y
