-- The statuses of stops and their lines on `err`.
use Rattle.std.specs.Prelude.{ℕ, Bool, true, false, List, [], ◌∷◌, ◌++◌, map, codes, Option, Some, None, Result, Ok, Err}
use Rattle.std.specs.Fmt.{decimal}
use Rattle.chart_syntax.specs.declared.error.Kind.{Kind}
use Rattle.chart_syntax.specs.declared.error.Kind.TheVariants as kind
use Rattle.chart_syntax.specs.declared.error.Which.{Which}
use Rattle.chart_syntax.specs.declared.error.Which.TheVariants as which
use Rattle.suite_reading.specs.declared.error.SuiteKind.{SuiteKind}
use Rattle.suite_reading.specs.declared.error.SuiteKind.TheVariants as suite_kind
use Rattle.suite_reading.specs.declared.error.SuiteWhich.{SuiteWhich}
use Rattle.suite_reading.specs.declared.error.SuiteWhich.TheVariants as suite_which
use Rattle.command_stages.specs.declared.stop.Refusal.{Refusal}
pub use Rattle.command_words.specs.Command.{word_at}
use Rattle.command_stages.specs.declared.stop.Refusal.TheVariants.{Fault, Limit, SuiteFault, SuiteLimit, TooLong, NoInput, Unfit, Beyond, BoundBelow}
use Rattle.command_stages.specs.declared.stop.SignaturePlace.{SignaturePlace}
use Rattle.command_stages.specs.declared.stop.SignaturePlace.TheVariants as place
use Rattle.command_stages.specs.declared.stop.Quantity.{Quantity}
use Rattle.command_stages.specs.declared.stop.Quantity.TheVariants as quantity
use Rattle.command_stages.specs.declared.stop.Source.{Source}
use Rattle.command_stages.specs.declared.stop.Source.TheVariants.{Word, Replies}
use Rattle.command_stages.specs.declared.stop.Departure.{Departure}
use Rattle.command_stages.specs.declared.stop.Departure.TheVariants.{NoMemory, Unread, WriteFault}
use Rattle.command_stages.specs.declared.stop.Stop.{Stop}
use Rattle.command_stages.specs.declared.stop.Stop.TheVariants.{NoCommand, Refused, Departed}

-- the name of what is read from
abbrev pub name_of : List (List ℕ) → Source → List ℕ
name_of words (Word number) = word_at words number
name_of words Replies = codes "-"

-- the status of a refusal
abbrev pub status_of_refusal : Refusal → ℕ
status_of_refusal (Fault name line k) = 3
status_of_refusal (Limit name line w) = 4
status_of_refusal (SuiteFault name line k) = 3
status_of_refusal (SuiteLimit name line w) = 4
status_of_refusal (TooLong name) = 4
status_of_refusal (NoInput name) = 3
status_of_refusal (Unfit name p) = 3
status_of_refusal (Beyond q) = 4
status_of_refusal (BoundBelow bound states) = 4

-- the status of a departure
abbrev pub status_of_departure : Departure → ℕ
status_of_departure NoMemory = 6
status_of_departure (Unread source) = 5
status_of_departure WriteFault = 5

-- the status of a call that stops so
abbrev pub status_of_stop : Stop → ℕ
status_of_stop NoCommand = 2
status_of_stop (Refused refusal) = status_of_refusal refusal
status_of_stop (Departed departure) = status_of_departure departure

-- the status of a call that ends so
abbrev pub status_of : Result Bool Stop → ℕ
status_of (Ok true) = 0
status_of (Ok false) = 1
status_of (Err stop) = status_of_stop stop

-- what the line on `err` names
abbrev pub source_of : Stop → Option Source
source_of (Departed (Unread source)) = Some source
source_of (Refused (Fault name line k)) = Some (Word name)
source_of (Refused (Limit name line w)) = Some (Word name)
source_of (Refused (SuiteFault name line k)) = Some (Word name)
source_of (Refused (SuiteLimit name line w)) = Some (Word name)
source_of (Refused (TooLong name)) = Some (Word name)
source_of (Refused (NoInput name)) = Some (Word name)
source_of (Refused (Unfit name p)) = Some (Word name)
source_of other = None

-- the line of the text that it names
abbrev pub line_of_stop : Stop → Option ℕ
line_of_stop (Refused (Fault name line k)) = Some line
line_of_stop (Refused (Limit name line w)) = Some line
line_of_stop (Refused (SuiteFault name line k)) = Some line
line_of_stop (Refused (SuiteLimit name line w)) = Some line
line_of_stop other = None

-- the word for a kind of fault
abbrev pub kind_word : Kind → List ℕ
kind_word kind.Byte = codes "byte"
kind_word kind.Version = codes "version"
kind_word kind.NoSuchLine = codes "line"
kind_word kind.Misplaced = codes "order"
kind_word kind.Form = codes "form"
kind_word kind.Double = codes "double"
kind_word kind.Unknown = codes "unknown"
kind_word kind.Misuse = codes "misuse"
kind_word kind.Range = codes "range"
kind_word kind.Start = codes "start"
kind_word kind.Twice = codes "twice"
kind_word kind.OutOfBox = codes "box"
kind_word kind.Missing = codes "missing"

-- the word for a limit of a text
abbrev pub limit_word : Which → List ℕ
limit_word which.Literal = codes "literal"
limit_word which.NameBytes = codes "name"
limit_word which.Tokens = codes "tokens"
limit_word which.Nesting = codes "nesting"
limit_word which.Comparisons = codes "comparisons"
limit_word which.Inputs = codes "inputs"
limit_word which.Assumptions = codes "assumptions"
limit_word which.Outputs = codes "outputs"
limit_word which.Memories = codes "memories"
limit_word which.Product = codes "product"
limit_word which.Bound = codes "bound"
limit_word which.States = codes "states"
limit_word which.Depth = codes "depth"
limit_word which.Transitions = codes "transitions"
limit_word which.Rows = codes "rows"

-- the word for a kind of fault of a suite's text
abbrev pub suite_kind_word : SuiteKind → List ℕ
suite_kind_word suite_kind.Form = codes "form"
suite_kind_word suite_kind.Fact = codes "fact"
suite_kind_word suite_kind.Vector = codes "vector"
suite_kind_word suite_kind.Conflict = codes "conflict"
suite_kind_word suite_kind.Count = codes "count"
suite_kind_word suite_kind.End = codes "end"

-- the word for a limit of a suite's text
abbrev pub suite_limit_word : SuiteWhich → List ℕ
suite_limit_word suite_which.Literal = codes "literal"
suite_limit_word suite_which.NameBytes = codes "name"
suite_limit_word suite_which.Inputs = codes "inputs"
suite_limit_word suite_which.Outputs = codes "outputs"
suite_limit_word suite_which.Classes = codes "classes"

-- the word for a quantity
abbrev pub quantity_word : Quantity → List ℕ
quantity_word quantity.Coefficient = codes "coefficient"
quantity_word quantity.Atoms = codes "atoms"
quantity_word quantity.Classes = codes "classes"
quantity_word quantity.Configurations = codes "configurations"
quantity_word quantity.Steps = codes "steps"

-- the word for a place in a signature
abbrev pub place_word : SignaturePlace → List ℕ
place_word place.Inputs = codes "inputs"
place_word (place.Input number) = codes "input "
place_word place.Outputs = codes "outputs"
place_word (place.Output number) = codes "output "

-- the number of the input or the output that is named, from 1
abbrev pub number_in : SignaturePlace → Option ℕ
number_in (place.Input number) = Some number
number_in (place.Output number) = Some number
number_in other = None

-- what stands before the word
abbrev pub before_of : Stop → List ℕ
before_of (Refused (Limit name line w)) = codes ": limit "
before_of (Refused (TooLong name)) = codes ": limit "
before_of (Refused (SuiteLimit name line w)) = codes ": limit "
before_of (Refused (Fault name line k)) = codes ": "
before_of (Refused (SuiteFault name line k)) = codes ": "
before_of (Refused (NoInput name)) = codes ": "
before_of (Refused (Unfit name p)) = codes ": unfit "
before_of (Refused (Beyond q)) = codes "limit "
before_of (Departed (Unread source)) = codes ": "
before_of other = []

-- the word for a departure
abbrev pub departure_word : Departure → List ℕ
departure_word NoMemory = codes "no memory"
departure_word (Unread source) = codes "read fault"
departure_word WriteFault = codes "write fault"

-- the word for why
abbrev pub word_of : Stop → List ℕ
word_of NoCommand = codes "no such command"
word_of (Refused (Fault name line k)) = kind_word k
word_of (Refused (Limit name line w)) = limit_word w
word_of (Refused (SuiteFault name line k)) = suite_kind_word k
word_of (Refused (SuiteLimit name line w)) = suite_limit_word w
word_of (Refused (TooLong name)) = codes "bytes"
word_of (Refused (NoInput name)) = codes "no input"
word_of (Refused (Unfit name p)) = place_word p
word_of (Refused (Beyond q)) = quantity_word q
word_of (Refused (BoundBelow bound states)) = codes "bound "
word_of (Departed departure) = departure_word departure

-- the number that stands after the word
abbrev pub number_of : Stop → Option ℕ
number_of (Refused (Unfit name p)) = number_in p
number_of other = None

abbrev pub numbered : Option ℕ → List ℕ
numbered None = []
numbered (Some number) = decimal number

-- the bound and the number of states that stand after the word
abbrev pub bounds_of : Stop → Option (ℕ × ℕ)
bounds_of (Refused (BoundBelow bound states)) = Some (bound, states)
bounds_of other = None

abbrev pub below : Option (ℕ × ℕ) → List ℕ
below None = []
below (Some (bound, states)) = decimal bound ++ codes " below " ++ decimal states

-- the name that stands on the line, none where it names nothing
abbrev pub named : List (List ℕ) → Option Source → List ℕ
named words None = []
named words (Some source) = name_of words source

-- the place in the text that is named
abbrev pub at_line : Option ℕ → List ℕ
at_line None = []
at_line (Some line) = codes ":" ++ decimal line

-- what is said after the name
abbrev pub said : Stop → List ℕ
said stop = at_line (line_of_stop stop) ++ before_of stop ++ word_of stop ++ numbered (number_of stop)
    ++ below (bounds_of stop) ++ codes "\n"

-- the line on `err`, for the words of the call
abbrev pub err_line : List (List ℕ) → Stop → List ℕ
err_line words stop = codes "classtest: " ++ (named words (source_of stop) ++ said stop)

-- the names of these sources
abbrev pub names_of : List (List ℕ) → List Source → List (List ℕ)
names_of words sources = map (name_of words) sources
