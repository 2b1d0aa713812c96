-- The words that are a command.
use Rattle.std.specs.Prelude.{◌≡◌, ℕ, ◌-◌, ◌≤◌, Bool, true, false, not, ◌&&◌, nat_lt, nat_le, if◌then◌else◌, List, [], ◌∷◌, length, codes, Option, None, Some, slice_get, unwrap_or, is_some}
use Rattle.std.specs.Char.{is_ascii_digit}
use Rattle.std.specs.List.{list_all}
use Rattle.std.specs.Option.{option_map}
use Rattle.std.specs.Str.{bytes_eq}
use Rattle.std.specs.Str.Parse.{digits_value}
use Rattle.command_words.specs.declared.command.Command.{Command}
use Rattle.command_words.specs.declared.command.Command.TheVariants.{Play, Classes, Suite, Run, Json, Replay, Gen}
use Rattle.command_words.specs.declared.command.Verb.{Verb}
use Rattle.command_words.specs.declared.command.Verb.TheVariants as verb
use Rattle.command_words.specs.declared.command.Place.{Place}
use Rattle.command_words.specs.declared.command.Place.TheVariants.{Text, Cuts, Bound, Number}

-- the word with this number, counted from 0
abbrev pub word_at : List (List ℕ) → ℕ → List ℕ
word_at words number = unwrap_or (slice_get words number) []

-- decimal digits, at least one and at most so many
abbrev pub are_digits : ℕ → List ℕ → Bool
are_digits most word = nat_lt 0 (length word) && nat_le (length word) most && list_all is_ascii_digit word

-- the number that 1 to 4 digits write, leading zeros or none, and 0 of other words
abbrev pub bound_of : List ℕ → ℕ
bound_of word = if are_digits 4 word then digits_value 10 word else 0

-- the number that 1 to 10 digits write, leading zeros or none, if it is at most 4,294,967,295
abbrev pub number_of : List ℕ → Option ℕ
number_of word =
    if are_digits 10 word && nat_lt (digits_value 10 word) 4294967296 then Some (digits_value 10 word) else None

abbrev pub bound_at : List (List ℕ) → ℕ → ℕ
bound_at words number = bound_of (word_at words number)

abbrev pub number_at : List (List ℕ) → ℕ → Option ℕ
number_at words number = number_of (word_at words number)

-- a word may stand in a place: a name is not empty, a bound is from 1 to 1,024, and a number is up to 4,294,967,295
abbrev pub takes : Place → List ℕ → Bool
takes Text word = nat_lt 0 (length word)
takes Cuts word = nat_lt 0 (length word)
takes Bound word = nat_lt 0 (bound_of word) && nat_le (bound_of word) 1024
takes Number word = is_some (number_of word)

-- the word names standard input
abbrev pub is_input : Place → List ℕ → Bool
is_input Text word = bytes_eq word (codes "-")
is_input Cuts word = bytes_eq word (codes "-")
is_input Bound word = false
is_input Number word = false

-- the words stand in these places, and at most so many of them name standard input
abbrev pub fits_places : ℕ → List Place → List (List ℕ) → Bool
fits_places left [] [] = true
fits_places left [] (word ∷ words) = false
fits_places left (place ∷ places) [] = false
fits_places left (place ∷ places) (word ∷ words) =
    if is_input place word then nat_lt 0 left && fits_places (left - 1) places words
    else takes place word && fits_places left places words

-- the word for no cuts
abbrev pub no_cuts : List ℕ
no_cuts = codes "none"

-- the word with this number, counted from 0, names a text of cuts
abbrev pub names_text : List (List ℕ) → ℕ → Bool
names_text words number = not (bytes_eq (word_at words number) no_cuts)

-- what the words after a verb stand for
abbrev pub places_of : Verb → List Place
places_of verb.Play = Text ∷ Text ∷ []
places_of verb.Classes = Text ∷ Cuts ∷ []
places_of verb.Suite = Text ∷ Bound ∷ Cuts ∷ []
places_of verb.Run = Text ∷ Bound ∷ Cuts ∷ Text ∷ []
places_of verb.Json = Text ∷ Bound ∷ Cuts ∷ Text ∷ []
places_of verb.Replay = Text ∷ Text ∷ []
places_of verb.Gen = Number ∷ []
places_of verb.SuiteWp = Text ∷ Bound ∷ Cuts ∷ []
places_of verb.Domain = Text ∷ Bound ∷ Cuts ∷ Text ∷ []
places_of verb.Mutants = Text ∷ Bound ∷ Cuts ∷ []
places_of verb.Ask = Text ∷ Bound ∷ Cuts ∷ []

-- how many of these words may name standard input: none where replies are read from it
abbrev pub inputs_of : Verb → ℕ
inputs_of verb.Ask = 0
inputs_of other = 1

-- the verb that a word names
abbrev pub verb_of : List ℕ → Option Verb
verb_of word =
    if bytes_eq word (codes "play") then Some verb.Play
    else if bytes_eq word (codes "classes") then Some verb.Classes
    else if bytes_eq word (codes "suite") then Some verb.Suite
    else if bytes_eq word (codes "run") then Some verb.Run
    else if bytes_eq word (codes "json") then Some verb.Json
    else if bytes_eq word (codes "replay") then Some verb.Replay
    else if bytes_eq word (codes "gen") then Some verb.Gen
    else if bytes_eq word (codes "suite-wp") then Some verb.SuiteWp
    else if bytes_eq word (codes "domain") then Some verb.Domain
    else if bytes_eq word (codes "mutants") then Some verb.Mutants
    else if bytes_eq word (codes "ask") then Some verb.Ask
    else None

-- the command that words after a verb are where they stand in its places: play CHART WORD; classes CHART CUTS;
-- suite CHART M CUTS; run CHART M CUTS IMPL; json CHART M CUTS IMPL; replay SUITE IMPL; gen S; the program does nothing else yet
abbrev pub command_for : Verb → List (List ℕ) → Option Command
command_for verb.Play words = Some Play
command_for verb.Classes words = Some (Classes (names_text words 1))
command_for verb.Suite words = Some (Suite (bound_at words 1) (names_text words 2))
command_for verb.Run words = Some (Run (bound_at words 1) (names_text words 2))
command_for verb.Json words = Some (Json (bound_at words 1) (names_text words 2))
command_for verb.Replay words = Some Replay
command_for verb.Gen words = option_map Gen (number_at words 0)
command_for other words = None

-- the command of a verb and the words after it
abbrev pub command_with : Option Verb → List (List ℕ) → Option Command
command_with None words = None
command_with (Some verb) words =
    if fits_places (inputs_of verb) (places_of verb) words then command_for verb words else None

abbrev pub command_of : List (List ℕ) → Option Command
command_of [] = None
command_of (verb ∷ words) = command_with (verb_of verb) words

-- the bound is from 1 to 1,024
abbrev pub IsBounded : Command → Type 0
IsBounded (Suite bound named) = (1 ≤ bound) × (bound ≤ 1024)
IsBounded (Run bound named) = (1 ≤ bound) × (bound ≤ 1024)
IsBounded (Json bound named) = (1 ≤ bound) × (bound ≤ 1024)
IsBounded other = Unit {0}

-- the words are a command
abbrev pub IsCommand : List (List ℕ) → Type 0
IsCommand words = (command : Command) × (command_of words ≡ Some command)
