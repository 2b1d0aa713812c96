-- The kind of line that a first word begins, and the numbers at the front of tokens.
use Rattle.std.specs.Prelude.{ℕ, ℤ, Bool, true, false, List, [], ◌∷◌, codes, if◌then◌else◌, Option}
use Rattle.std.specs.Str.{bytes_eq}
use Rattle.strict_lines.specs.Lines.{Token, Number, Word}
use Rattle.suite_reading.specs.declared.place.LineKind.{LineKind}
use Rattle.suite_reading.specs.declared.place.LineKind.TheVariants as kind
use Rattle.suite_reading.specs.Items.{Item, BoundLine, StatesLine, ClassLine, CoverLine, MarkLine, TestLine, EndLine}
use Rattle.suite_reading.specs.inside.Said.{values, list_item, number_item, suite_item, input_item, output_item, after_slash, step_item}

abbrev pub kind_of : List ℕ → LineKind
kind_of w =
    if bytes_eq w (codes "test") then kind.Test
    else if bytes_eq w (codes "class") then kind.Class
    else if bytes_eq w (codes "cover") then kind.Cover
    else if bytes_eq w (codes "mark") then kind.Mark
    else if bytes_eq w (codes "input") then kind.Input
    else if bytes_eq w (codes "output") then kind.Output
    else if bytes_eq w (codes "bound") then kind.Bound
    else if bytes_eq w (codes "states") then kind.States
    else if bytes_eq w (codes "end") then kind.End
    else if bytes_eq w (codes "suite") then kind.Suite
    else kind.Step

-- what the tokens after a first word of this kind say
abbrev pub item_by : LineKind → List ℕ → List Token → Option Item
item_by kind.Test w tokens = list_item TestLine (values tokens)
item_by kind.Class w tokens = list_item ClassLine (values tokens)
item_by kind.Cover w tokens = list_item CoverLine (values tokens)
item_by kind.Mark w tokens = list_item MarkLine (values tokens)
item_by kind.Input w tokens = input_item tokens
item_by kind.Output w tokens = output_item tokens
item_by kind.Bound w tokens = number_item BoundLine tokens
item_by kind.States w tokens = number_item StatesLine tokens
item_by kind.End w tokens = number_item EndLine tokens
item_by kind.Suite w tokens = suite_item tokens
item_by kind.Step w tokens = step_item (after_slash w (values tokens))

-- the numbers before the first token that is none
abbrev pub leading : List Token → List ℤ
leading [] = []
leading (Number z ∷ tokens) = z ∷ leading tokens
leading (Word w ∷ tokens) = []

abbrev pub is_slash : Token → Bool
is_slash (Number z) = false
is_slash (Word w) = bytes_eq w (codes "/")

-- a line of this kind has a fixed number of tokens
abbrev pub is_short : LineKind → Bool
is_short kind.Suite = true
is_short kind.Input = true
is_short kind.Output = true
is_short kind.Bound = true
is_short kind.States = true
is_short kind.End = true
is_short other = false
