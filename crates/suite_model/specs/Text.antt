-- The text of a suite, as lines of tokens.
use Rattle.std.specs.Prelude.{ℕ, ◌+◌, ℤ, pos, List, [], ◌∷◌, ◌++◌, length, map, codes, slice_index_or}
use Rattle.std.specs.List.{flat_map}
use Rattle.lin_form.specs.declared.input.Input.{Input}
use Rattle.strict_lines.specs.Lines.{Token, Number, Word, line_text}
use Rattle.subject.specs.Suite.{SuiteParts, Test}

abbrev pub numbers : List ℤ → List Token
numbers zs = map Number zs

-- a letter is printed from 1 on
abbrev pub letters : List ℕ → List Token
letters w = map (λ a. Number (pos (a + 1))) w

-- a word and a number
abbrev pub natural_line : List ℕ → ℕ → List Token
natural_line w n = Word w ∷ Number (pos n) ∷ []

abbrev pub input_line : Input → List Token
input_line input = Word (codes "input") ∷ Word input.name ∷ Number input.lo ∷ Number input.hi ∷ []

abbrev pub output_line : List ℕ → List Token
output_line name = Word (codes "output") ∷ Word name ∷ []

abbrev pub class_line : List ℤ → List Token
class_line vector = Word (codes "class") ∷ numbers vector

abbrev pub letters_line : List ℕ → List ℕ → List Token
letters_line keyword w = Word keyword ∷ letters w

abbrev pub step_line : List ℤ → List ℤ → List Token
step_line vector reply = numbers vector ++ Word (codes "/") ∷ numbers reply

-- the steps of a test: the witnesses of its letters, with the replies
abbrev pub step_lines : List (List ℤ) → List ℕ → List (List ℤ) → List (List Token)
step_lines classes [] rs = []
step_lines classes (a ∷ w) [] = []
step_lines classes (a ∷ w) (r ∷ rs) = step_line (slice_index_or classes a []) r ∷ step_lines classes w rs

abbrev pub test_lines : List (List ℤ) → Test → List (List Token)
test_lines classes test = letters_line (codes "test") test.letters ∷ step_lines classes test.letters test.replies

-- the lines of a suite's text
abbrev pub suite_lines : SuiteParts → List (List Token)
suite_lines s = natural_line (codes "suite") 1
    ∷ (map input_line s.signature.inputs ++ (map output_line s.signature.outputs
    ++ (natural_line (codes "bound") s.bound ∷ natural_line (codes "states") s.states
    ∷ (map class_line s.classes ++ (map (letters_line (codes "cover")) s.cover
    ++ (map (letters_line (codes "mark")) s.marks
    ++ (flat_map (test_lines s.classes) s.tests ++ natural_line (codes "end") (length s.tests) ∷ [])))))))

abbrev pub suite_text : SuiteParts → List ℕ
suite_text s = flat_map line_text (suite_lines s)
