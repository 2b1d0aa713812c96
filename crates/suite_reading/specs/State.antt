-- What the lines before say.
use Rattle.std.specs.Prelude.{◌≡◌, ℕ, ◌-◌, ℤ, pos, negsuc, List, [], ◌∷◌, ◌++◌, length, map, if◌then◌else◌, nat_lt}
use Rattle.std.specs.List.{All}
use Rattle.lin_form.specs.declared.input.Input.{Input}
use Rattle.suite_words.specs.Cover.{AreLetters}
use Rattle.subject.specs.Suite.{SuiteParts, Test}
use Rattle.suite_reading.specs.declared.place.Place.{Place}
use Rattle.suite_reading.specs.declared.place.Place.TheVariants as place
use Rattle.suite_reading.specs.Items.{Item, SuiteLine, InputLine, OutputLine, BoundLine, StatesLine, ClassLine, CoverLine, MarkLine, TestLine, StepLine, EndLine}

-- an input line
pub record Row : Type 0 where
  pub name : List ℕ
  pub low : ℤ
  pub high : ℤ

-- what was read last, the parts of the suite so far, the whole tests, and the test to which steps are still to come,
-- with its replies so far
pub record State : Type 0 where
  pub place : Place
  pub inputs : List Row
  pub outputs : List (List ℕ)
  pub bound : ℕ
  pub states : ℕ
  pub classes : List (List ℤ)
  pub cover : List (List ℕ)
  pub marks : List (List ℕ)
  pub tests : List Test
  pub now : Test

abbrev pub no_test : Test
no_test = record { letters = []; replies = [] }

-- each letter is a class, and each reply has one number for each output
pub record AreRuled (classes outputs : ℕ) (t : Test) : Type 0 where
  pub letters : AreLetters classes t.letters
  pub counts : All (λ r. length r ≡ outputs) t.replies

-- before the first line
abbrev pub begun : State
begun = record {
  place = place.Start;
  inputs = [];
  outputs = [];
  bound = 0;
  states = 0;
  classes = [];
  cover = [];
  marks = [];
  tests = [];
  now = no_test;
}

-- a letter is printed from 1 on
abbrev pub letter_of : ℤ → ℕ
letter_of (pos n) = n - 1
letter_of (negsuc n) = 0

abbrev pub natural_of : ℤ → ℕ
natural_of (pos n) = n
natural_of (negsuc n) = 0

abbrev pub with_reply : Test → List ℤ → Test
with_reply t reply = record { letters = t.letters; replies = t.replies ++ reply ∷ [] }

-- after one more reply the test is whole, or more steps are to come
abbrev pub after_step : State → Test → State
after_step s t = if nat_lt (length t.replies) (length t.letters)
    then record s { place = place.Steps; now = t }
    else record s { place = place.Tests; tests = s.tests ++ t ∷ []; now = no_test }

-- what the lines say with one line more
abbrev pub next : State → Item → State
next s SuiteLine = record s { place = place.Suite }
next s (InputLine name low high) =
    record s { place = place.Inputs; inputs = s.inputs ++ record { name = name; low = low; high = high } ∷ [] }
next s (OutputLine name) = record s { place = place.Outputs; outputs = s.outputs ++ name ∷ [] }
next s (BoundLine m) = record s { place = place.Bound; bound = natural_of m }
next s (StatesLine n) = record s { place = place.States; states = natural_of n }
next s (ClassLine zs) = record s { place = place.Classes; classes = s.classes ++ zs ∷ [] }
next s (CoverLine zs) = record s { place = place.Cover; cover = s.cover ++ map letter_of zs ∷ [] }
next s (MarkLine zs) = record s { place = place.Marks; marks = s.marks ++ map letter_of zs ∷ [] }
next s (TestLine zs) = record s { place = place.Steps; now = record { letters = map letter_of zs; replies = [] } }
next s (StepLine vector reply) = after_step s (with_reply s.now reply)
next s (EndLine z) = record s { place = place.End }

abbrev pub row_of : Input → Row
row_of input = record { name = input.name; low = input.lo; high = input.hi }

-- the whole text says this suite
abbrev pub whole : SuiteParts → State
whole s = record {
  place = place.End;
  inputs = map row_of s.signature.inputs;
  outputs = s.signature.outputs;
  bound = s.bound;
  states = s.states;
  classes = s.classes;
  cover = s.cover;
  marks = s.marks;
  tests = s.tests;
  now = no_test;
}
