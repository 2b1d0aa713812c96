-- Examples, on which the definitions are tried. A lamp with a button that has three positions. The positions 1 and 2
-- turn the lamp on and off, and 0 does nothing.
use Rattle.std.specs.Prelude.{ℕ, ℤ, pos, true, false, List, [], ◌∷◌}
use Rattle.lin_form.specs.declared.atom.Atom.{Atom}
use Rattle.lin_form.specs.declared.signature.Signature.{Signature}
use Rattle.subject.specs.declared.case.Case.{Case}
use Rattle.input_classes.specs.Partition.{Partition}
use Rattle.subject.specs.Suite.{SuiteParts}
use Rattle.subject.specs.Tests.{TestCase}

-- an entry with vectors of one number
abbrev pub entry : ℕ → ℕ → ℕ → ℕ → Case
entry s x t y = record { state = s; input = pos x ∷ []; next = t; reply = pos y ∷ [] }

-- the last entry never counts
abbrev pub lamp : List Case
lamp = entry 0 1 1 1 ∷ entry 0 2 1 1 ∷ entry 1 1 0 0 ∷ entry 1 2 0 0 ∷ entry 0 1 7 9 ∷ []

abbrev pub pressed : ℕ → List ℤ
pressed x = pos x ∷ []

-- a lamp that tells the positions 1 and 2 apart
abbrev pub telling : List Case
telling = entry 0 1 0 1 ∷ entry 0 2 0 2 ∷ []

-- the classes of the positions by the atom that the position is at least 1
abbrev pub two_classes : Atom → Partition
two_classes atom = record {
  atoms = atom ∷ [];
  ranges = (pos 0, pos 2) ∷ [];
  assumed = [];
  classes =
      record { pattern = false ∷ []; witness = pressed 0 } ∷ record { pattern = true ∷ []; witness = pressed 1 } ∷ [];
}

-- the same where the atom is assumed to hold
abbrev pub one_assumed : Atom → Partition
one_assumed atom = record {
  atoms = atom ∷ [];
  ranges = (pos 0, pos 2) ∷ [];
  assumed = record { atom = atom; holds = true } ∷ [];
  classes = record { pattern = true ∷ []; witness = pressed 1 } ∷ [];
}

-- the two classes, where the second has a corner of the ranges for its witness
abbrev pub corner_witness : Atom → Partition
corner_witness atom = record {
  atoms = atom ∷ [];
  ranges = (pos 0, pos 2) ∷ [];
  assumed = [];
  classes =
      record { pattern = false ∷ []; witness = pressed 0 } ∷ record { pattern = true ∷ []; witness = pressed 0 } ∷ [];
}

-- another: a button with one position, and no entries. All its vectors are in one class
abbrev pub one_class : Partition
one_class = record {
  atoms = [];
  ranges = (pos 0, pos 0) ∷ [];
  assumed = [];
  classes = record { pattern = []; witness = pressed 0 } ∷ [];
}

-- that nothing is replied to one press
abbrev pub one_press : List TestCase
one_press = record { word = pressed 0 ∷ []; replies = [] ∷ [] } ∷ []

-- the suite of this button
abbrev pub silent_suite : Signature → SuiteParts
silent_suite signature = record {
  signature = signature;
  bound = 1;
  states = 1;
  classes = pressed 0 ∷ [];
  cover = [] ∷ [];
  marks = [] ∷ [];
  tests = record { letters = 0 ∷ []; replies = [] ∷ [] } ∷ [];
}

-- that 5 is replied to one press
abbrev pub loud_press : List TestCase
loud_press = record { word = pressed 0 ∷ []; replies = (pos 5 ∷ []) ∷ [] } ∷ []
