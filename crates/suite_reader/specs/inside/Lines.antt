-- What is made of the tokens of a line.
use Rattle.std.specs.Prelude.{◌≡◌, ℕ, ◌≤◌, ℤ, Bool, true, false, List, length, take, drop, Option, None, Some}
use Rattle.strict_lines.specs.Lines.{Token}
use Rattle.suite_reading.specs.Items.{Item, SuiteLine, InputLine, OutputLine, BoundLine, StatesLine, ClassLine, CoverLine, MarkLine, TestLine, StepLine, EndLine}
use Rattle.suite_reading.specs.inside.Said.{values, step_values}
use Rattle.suite_reader.specs.declared.line.Line.{Line}
use Rattle.suite_reader.specs.declared.line.Line.TheVariants as line

-- the tokens are these numbers, or not all of them are numbers
abbrev pub IsList : List Token → List ℤ → Bool → Type 0
IsList tokens numbers true = values tokens ≡ Some numbers
IsList tokens numbers false = values tokens ≡ None

-- the tokens are a step whose vector has this many of the numbers, or no step
abbrev pub IsStep : List Token → List ℤ → Option ℕ → Type 0
IsStep tokens numbers (Some n) = (n ≤ length numbers) × (step_values tokens ≡ Some (take n numbers, drop n numbers))
IsStep tokens numbers None = step_values tokens ≡ None

abbrev pub item_in : List ℤ → Line → Item
item_in numbers line.Suite = SuiteLine
item_in numbers (line.Input name low high) = InputLine name.now low high
item_in numbers (line.Output name) = OutputLine name.now
item_in numbers (line.Bound m) = BoundLine m
item_in numbers (line.States n) = StatesLine n
item_in numbers line.Class = ClassLine numbers
item_in numbers line.Cover = CoverLine numbers
item_in numbers line.Mark = MarkLine numbers
item_in numbers line.Test = TestLine numbers
item_in numbers (line.Step n) = StepLine (take n numbers) (drop n numbers)
item_in numbers (line.End z) = EndLine z

abbrev pub item_said : List ℤ → Option Line → Option Item
item_said numbers None = None
item_said numbers (Some l) = Some (item_in numbers l)

-- the vector of a step is at the front of the numbers
abbrev pub IsCut : List ℤ → Option Line → Type 0
IsCut numbers (Some (line.Step n)) = n ≤ length numbers
IsCut numbers other = Unit {0}

-- a line that is a list of all the tokens, or none where not all of them are numbers
abbrev pub IsListLine : Line → List Token → List ℤ → Option Line → Type 0
IsListLine l tokens numbers (Some other) = (other ≡ l) × (values tokens ≡ Some numbers)
IsListLine l tokens numbers None = values tokens ≡ None
