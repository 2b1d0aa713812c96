-- What a line of a suite's text may say, and how it is printed.
use Rattle.std.specs.Prelude.{ℕ, ℤ, List, [], ◌∷◌, codes}
use Rattle.strict_lines.specs.Lines.{Token, Number, Word}
use Rattle.suite_model.specs.Text.{numbers, natural_line, output_line, class_line, step_line}

pub data Item : Type 0 where
  SuiteLine : Item
  InputLine : List ℕ → ℤ → ℤ → Item
  OutputLine : List ℕ → Item
  BoundLine : ℤ → Item
  StatesLine : ℤ → Item
  ClassLine : List ℤ → Item
  CoverLine : List ℤ → Item
  MarkLine : List ℤ → Item
  TestLine : List ℤ → Item
  StepLine : List ℤ → List ℤ → Item
  EndLine : ℤ → Item

abbrev pub number_line : List ℕ → ℤ → List Token
number_line word z = Word word ∷ Number z ∷ []

abbrev pub item_line : Item → List Token
item_line SuiteLine = natural_line (codes "suite") 1
item_line (InputLine name low high) = Word (codes "input") ∷ Word name ∷ Number low ∷ Number high ∷ []
item_line (OutputLine name) = output_line name
item_line (BoundLine m) = number_line (codes "bound") m
item_line (StatesLine n) = number_line (codes "states") n
item_line (ClassLine zs) = class_line zs
item_line (CoverLine zs) = Word (codes "cover") ∷ numbers zs
item_line (MarkLine zs) = Word (codes "mark") ∷ numbers zs
item_line (TestLine zs) = Word (codes "test") ∷ numbers zs
item_line (StepLine vector reply) = step_line vector reply
item_line (EndLine z) = number_line (codes "end") z
