-- Stages: what a command comes to, one stage after another, from its words and what the shelf holds.
use Rattle.std.specs.Prelude.{◌≡◌, ◌≢◌, ℕ, Bool, ◌≤◌, List, [], ◌∷◌, ◌++◌, length, Option, IsSome, ◌⊎◌, Result, Ok, Err}
use Rattle.chart_syntax.specs.declared.error.Refusal as text_error
use Rattle.chart_syntax.specs.declared.error.Refusal.TheVariants as met
use Rattle.suite_reading.specs.declared.error.Cause.{Cause}
use Rattle.suite_reading.specs.declared.error.Cause.TheVariants as cause
use Rattle.test_world.specs.Count.{Rose}
use Rattle.test_world.specs.Shelf.{ShelfState, Held, held_of, Holds, HoldsMoreThan, HasName, Keeps, Visits, IsSound}
use Rattle.command_stages.specs.declared.stop.Refusal.{Refusal}
use Rattle.command_stages.specs.declared.stop.Refusal.TheVariants.{Fault, Limit, SuiteFault, SuiteLimit, TooLong}
use Rattle.command_stages.specs.declared.stop.Source.{Source}
use Rattle.command_stages.specs.declared.stop.Source.TheVariants.{Word}
use Rattle.command_stages.specs.declared.stop.Departure.{Departure}
use Rattle.command_stages.specs.declared.stop.Departure.TheVariants.{NoMemory, Unread, WriteFault}
use Rattle.command_stages.specs.declared.stop.Stop.{Stop}
use Rattle.command_stages.specs.declared.stop.Stop.TheVariants.{NoCommand, Refused, Departed}
use Rattle.command_stages.specs.Report.{word_at, name_of, names_of}

-- what a call is given: its words, and what the shelf holds, where it tells it
pub record Given : Type 0 where
  pub words : List (List ℕ)
  pub held : Option Held

-- what a stage takes up, in order, and what it comes to: a value, a refusal, a read that may fail there, or want of
-- memory
abbrev pub Stage : Type 0 → Type 1
Stage A = Given → List Source → Result A Stop → Type 0

-- one stage, and from its value the next
unfoldable pub Then : {A B : Type 0} → Stage A → (A → Stage B) → Stage B
Then {A} first next given sources (Ok b) = (a : A) × (front rest : List Source) × (sources ≡ front ++ rest)
    × first given front (Ok a) × next a given rest (Ok b)
Then {A} first next given sources (Err stop) = first given sources (Err stop)
    ⊎ ((a : A) × (front rest : List Source) × (sources ≡ front ++ rest)
    × first given front (Ok a) × next a given rest (Err stop))

-- a value of which this holds
unfoldable pub Is : {A : Type 0} → (A → Type 0) → Stage A
Is P given sources (Ok a) = (sources ≡ []) × P a
Is P given sources (Err stop) = (sources ≡ []) × (stop ≡ Departed NoMemory)

-- refused so exactly where this holds
unfoldable pub Unless : Type 0 → Refusal → Stage (Unit {0})
Unless met refusal given sources (Ok u) = (sources ≡ []) × (met → ⊥)
Unless met refusal given sources (Err (Refused other)) = (sources ≡ []) × met × (other ≡ refusal)
Unless met refusal given sources (Err other) = (sources ≡ []) × (other ≡ Departed NoMemory)

-- the same, of a stage that takes no memory
unfoldable pub Memoryless : {A : Type 0} → Stage A → Stage A
Memoryless stage given sources result = stage given sources result × (result ≢ Err (Departed NoMemory))

-- the bytes held under the word with this number, at most so many
unfoldable pub TextAt : ℕ → ℕ → Stage (List ℕ)
TextAt number most given sources (Ok bytes) = (sources ≡ Word number ∷ [])
    × Holds given.held (word_at given.words number) bytes × (length bytes ≤ most)
TextAt number most given sources (Err (Refused refusal)) = (sources ≡ Word number ∷ [])
    × (refusal ≡ TooLong number) × HoldsMoreThan given.held (word_at given.words number) most
TextAt number most given sources (Err (Departed (Unread source))) =
    (sources ≡ Word number ∷ []) × (source ≡ Word number)
TextAt number most given sources (Err other) = (sources ≡ Word number ∷ []) × (other ≡ Departed NoMemory)

-- the refusal of the text that the word with this number names, for a line of it and what is met there
abbrev pub text_refusal : ℕ → ℕ → text_error.Refusal → Refusal
text_refusal name line (met.Fault kind) = Fault name line kind
text_refusal name line (met.Limit which) = Limit name line which

-- the same of the text of a suite
abbrev pub suite_refusal : ℕ → ℕ → Cause → Refusal
suite_refusal name line (cause.Fault kind) = SuiteFault name line kind
suite_refusal name line (cause.Limit which) = SuiteLimit name line which

-- what a text reads as, or the refusal for the first line of it that a check refuses
unfoldable pub Reading : {A C : Type 0} → (ℕ → C → Refusal) → (A → Type 0) → (ℕ → C → Type 0) → Stage A
Reading {A} {C} refusal reads refuses given sources (Ok a) = (sources ≡ []) × reads a
Reading {A} {C} refusal reads refuses given sources (Err (Refused other)) = (sources ≡ [])
    × (line : ℕ) × (met : C) × (other ≡ refusal line met) × refuses line met
Reading {A} {C} refusal reads refuses given sources (Err other) = (sources ≡ []) × (other ≡ Departed NoMemory)

-- a whole text, and whether what it tells of passes
pub record Printed : Type 0 where
  pub passes : Bool
  pub text : List ℕ

-- this text, and whether what it tells of passes
abbrev pub Prints : Bool → List ℕ → Stage Printed
Prints passes text = Is (λ printed. printed ≡ record { passes = passes; text = text })

-- how a stage function departs: as the stage does, where the count of failed reads rose if one failed; it writes nothing
abbrev pub Departing : Departure → Type 0 → ℕ → ℕ → Type 0
Departing NoMemory comes before after = comes
Departing (Unread source) comes before after = comes × Rose before after
Departing WriteFault comes before after = ⊥

-- why a stage function stops: as the stage does, and the words were found to be a command before
abbrev pub Stopped : Stop → Type 0 → ℕ → ℕ → Type 0
Stopped NoCommand comes before after = ⊥
Stopped (Refused refusal) comes before after = comes
Stopped (Departed departure) comes before after = Departing departure comes before after

-- what a stage function answers, given these counts of failed reads before and after it
abbrev pub Comes : {A : Type 0} → Stage A → Given → List Source → ℕ → ℕ → Result A Stop → Type 0
Comes stage given sources before after (Ok a) = stage given sources (Ok a)
Comes stage given sources before after (Err stop) = Stopped stop (stage given sources (Err stop)) before after

-- no read failed
abbrev pub IsNoRead : Stop → Type 0
IsNoRead (Departed (Unread source)) = ⊥
IsNoRead other = Unit {0}

-- no read failed
abbrev pub IsRead : {A : Type 0} → Result A Stop → Type 0
IsRead (Ok a) = Unit {0}
IsRead (Err stop) = IsNoRead stop

-- the shelf tells that it holds each text that a read of the stage wants
abbrev pub HoldsWanted : {A : Type 0} → Stage A → Given → Type 0
HoldsWanted stage given = (source : Source) (sources : List Source) → stage given sources (Err (Departed (Unread source)))
    → HasName given.held (name_of given.words source)

-- what a stage is given where the words are these and the shelf is this
abbrev pub at_shelf : List (List ℕ) → ShelfState → Given
at_shelf words shelf = record { words = words; held = held_of shelf }

-- what holds of a stage function: the texts that it takes up, what it answers, that the shelf is kept, and that over a
-- sound shelf no read fails
pub record Made {A : Type 0} (stage : Stage A) (words : List (List ℕ)) (before after : ShelfState)
    (result : Result A Stop) : Type 0 where
  pub sources : List Source
  pub comes : Comes stage (at_shelf words before) sources before.faults after.faults result
  pub visits : Visits before after (names_of words sources)
  pub keeps : Keeps before after
  pub sound : IsSound before → HoldsWanted stage (at_shelf words before) → IsSound after × IsRead result

-- what holds of a stage function that does not touch the shelf
abbrev pub Makes : {A : Type 0} → Stage A → Result A Stop → Type 0
Makes stage result = (words : List (List ℕ)) (shelf : ShelfState) → Made stage words shelf shelf result

-- the stop is an answer, and no departure from one
abbrev pub IsAnswer : Stop → Type 0
IsAnswer NoCommand = Unit {0}
IsAnswer (Refused refusal) = Unit {0}
IsAnswer (Departed departure) = ⊥

-- a value or a refusal
abbrev pub IsDetermined : {A : Type 0} → Result A Stop → Type 0
IsDetermined (Ok a) = Unit {0}
IsDetermined (Err stop) = IsAnswer stop

-- a stage comes to one value or refusal, where the shelf tells its texts, and it reads from these sources alone
pub record IsProper {A : Type 0} (may_read : Source → Type 0) (stage : Stage A) : Type 0 where
  pub one : (given : Given) → IsSome given.held → (s t : List Source) (x y : Result A Stop) → IsDetermined x
      → IsDetermined y → stage given s x → stage given t y → x ≡ y
  pub only : (given : Given) (sources : List Source) (source : Source) → stage given sources (Err (Departed (Unread source)))
      → may_read source

-- for a text there is at most one reading or one refusal
pub record IsDecidedBy {A C : Type 0} (reads : A → Type 0) (refuses : ℕ → C → Type 0) : Type 0 where
  pub one_reading : (a b : A) → reads a → reads b → a ≡ b
  pub one_refusal : (n m : ℕ) (met other : C) → refuses n met → refuses m other → (n ≡ m) × (met ≡ other)
  pub apart : (a : A) (n : ℕ) (met : C) → reads a → refuses n met → ⊥
