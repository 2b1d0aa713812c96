-- The parts of a suite's text.
use Rattle.std.specs.Prelude.{ℕ, List, [], ◌∷◌, length, map, codes}
use Rattle.std.specs.List.{flat_map}
use Rattle.strict_lines.specs.Lines.{Token, line_text}
use Rattle.subject.specs.Suite.{SuiteParts}
use Rattle.suite_model.specs.Text.{natural_line, input_line, output_line, class_line, letters_line, test_lines}
use Rattle.suite_text.specs.declared.write.Section.{Section}
use Rattle.suite_text.specs.declared.write.Part.{Part}
use Rattle.suite_text.specs.declared.write.Part.TheVariants.{First, Rows, Bound, States, Tests, Last}
use Rattle.suite_text.specs.declared.write.Section.TheVariants.{Inputs, Outputs, Classes, Cover, Marks}

-- the lines of one kind
abbrev pub rows : Section → SuiteParts → List (List Token)
rows Inputs s = map input_line s.signature.inputs
rows Outputs s = map output_line s.signature.outputs
rows Classes s = map class_line s.classes
rows Cover s = map (letters_line (codes "cover")) s.cover
rows Marks s = map (letters_line (codes "mark")) s.marks

abbrev pub text_of : List (List Token) → List ℕ
text_of lines = flat_map line_text lines

abbrev pub tests_text : SuiteParts → List ℕ
tests_text s = flat_map (λ t. text_of (test_lines s.classes t)) s.tests

abbrev pub part_text : SuiteParts → Part → List ℕ
part_text s First = line_text (natural_line (codes "suite") 1)
part_text s (Rows section) = text_of (rows section s)
part_text s Bound = line_text (natural_line (codes "bound") s.bound)
part_text s States = line_text (natural_line (codes "states") s.states)
part_text s Tests = tests_text s
part_text s Last = line_text (natural_line (codes "end") (length s.tests))

-- the parts in their order
abbrev pub parts : List Part
parts = First ∷ Rows Inputs ∷ Rows Outputs ∷ Bound ∷ States ∷ Rows Classes ∷ Rows Cover ∷ Rows Marks ∷ Tests ∷ Last ∷ []

abbrev pub parts_text : SuiteParts → List ℕ
parts_text s = flat_map (part_text s) parts
