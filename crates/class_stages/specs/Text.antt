-- The text of classes.
use Rattle.std.specs.Prelude.{ℕ, Bool, true, false, List, [], ◌∷◌, ◌++◌, map, codes}
use Rattle.std.specs.List.{flat_map}
use Rattle.lin_form.specs.declared.atom.Atom.{Atom}
use Rattle.input_classes.specs.declared.class.Class.{Class}
use Rattle.input_classes.specs.Partition.{Partition}
use Rattle.command_stages.specs.Numbers.{after_spaces}

-- the coefficients and the constant of an atom
abbrev pub atom_line : Atom → List ℕ
atom_line atom = codes "atom" ++ after_spaces (atom.coefficients ++ atom.constant ∷ []) ++ codes "\n"

-- 1 for an atom that holds, and 0 for one that does not
abbrev pub digit_of : Bool → ℕ
digit_of true = 49
digit_of false = 48

-- the digits of the atoms, or - where there is no atom
abbrev pub pattern_text : List Bool → List ℕ
pattern_text [] = codes "-"
pattern_text (truth ∷ truths) = map digit_of (truth ∷ truths)

-- the pattern and the witness of a class
abbrev pub class_line : Class → List ℕ
class_line class = codes "class " ++ pattern_text class.pattern ++ after_spaces class.witness ++ codes "\n"

-- a line for each atom, and then a line for each class
abbrev pub classes_text : Partition → List ℕ
classes_text r = flat_map atom_line r.atoms ++ flat_map class_line r.classes
