-- The item that tokens say.
use Rattle.std.specs.Prelude.{ℕ, ℤ, pos, List, [], ◌∷◌, codes, if◌then◌else◌, Option, None, Some}
use Rattle.std.specs.Str.{bytes_eq}
use Rattle.std.specs.Ordering.{int_eq}
use Rattle.strict_lines.specs.Lines.{Token, Number, Word}
use Rattle.suite_reading.specs.Items.{Item, SuiteLine, InputLine, OutputLine, BoundLine, StatesLine, ClassLine, CoverLine, MarkLine, TestLine, StepLine, EndLine}

-- the numbers, where all tokens are numbers
abbrev pub with_first : ℤ → Option (List ℤ) → Option (List ℤ)
with_first z None = None
with_first z (Some zs) = Some (z ∷ zs)

abbrev pub values : List Token → Option (List ℤ)
values [] = Some []
values (Number z ∷ tokens) = with_first z (values tokens)
values (Word w ∷ tokens) = None

abbrev pub list_item : (List ℤ → Item) → Option (List ℤ) → Option Item
list_item make None = None
list_item make (Some zs) = Some (make zs)

abbrev pub number_item : (ℤ → Item) → List Token → Option Item
number_item make (Number z ∷ []) = Some (make z)
number_item make _ = None

abbrev pub suite_item : List Token → Option Item
suite_item (Number z ∷ []) = if int_eq z (pos 1) then Some SuiteLine else None
suite_item _ = None

abbrev pub input_item : List Token → Option Item
input_item (Word name ∷ Number low ∷ Number high ∷ []) = Some (InputLine name low high)
input_item _ = None

abbrev pub output_item : List Token → Option Item
output_item (Word name ∷ []) = Some (OutputLine name)
output_item _ = None

-- the vector and the reply of a step
abbrev pub after_slash : List ℕ → Option (List ℤ) → Option (List ℤ × List ℤ)
after_slash w None = None
after_slash w (Some reply) = if bytes_eq w (codes "/") then Some ([], reply) else None

abbrev pub with_number : ℤ → Option (List ℤ × List ℤ) → Option (List ℤ × List ℤ)
with_number z None = None
with_number z (Some step) = Some (z ∷ step.0, step.1)

abbrev pub step_values : List Token → Option (List ℤ × List ℤ)
step_values [] = None
step_values (Number z ∷ tokens) = with_number z (step_values tokens)
step_values (Word w ∷ tokens) = after_slash w (values tokens)

abbrev pub step_item : Option (List ℤ × List ℤ) → Option Item
step_item None = None
step_item (Some step) = Some (StepLine step.0 step.1)

-- what the tokens after a line's first word say
abbrev pub word_item : List ℕ → List Token → Option Item
word_item w tokens =
    if bytes_eq w (codes "test") then list_item TestLine (values tokens)
    else if bytes_eq w (codes "class") then list_item ClassLine (values tokens)
    else if bytes_eq w (codes "cover") then list_item CoverLine (values tokens)
    else if bytes_eq w (codes "mark") then list_item MarkLine (values tokens)
    else if bytes_eq w (codes "input") then input_item tokens
    else if bytes_eq w (codes "output") then output_item tokens
    else if bytes_eq w (codes "bound") then number_item BoundLine tokens
    else if bytes_eq w (codes "states") then number_item StatesLine tokens
    else if bytes_eq w (codes "end") then number_item EndLine tokens
    else if bytes_eq w (codes "suite") then suite_item tokens
    else step_item (after_slash w (values tokens))

abbrev pub item_of : List Token → Option Item
item_of [] = None
item_of (Number z ∷ tokens) = step_item (step_values (Number z ∷ tokens))
item_of (Word w ∷ tokens) = word_item w tokens
