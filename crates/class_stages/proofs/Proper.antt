-- The stages of classes have one outcome.
use Rattle.std.proofs.Common.{◌≡◌, ℕ, ℤ, Bool, true, false, List, [], ◌∷◌, ◌++◌, map, refl, sym, ◌∙◌, subst}
use Rattle.std.specs.Prelude.{◌↔◌}
use Rattle.std.specs.List.{flat_map}
use Rattle.std.proofs.Math.Path.{to_path_p}
use Rattle.std.proofs.lemmas.List.Elements.{All-weaker}
use Rattle.lin_form.specs.Atom.{inequality_of}
use Rattle.lin_form.specs.Inequality.{IsNormal}
use Rattle.lin_form.specs.SameAtom.{IsNormal-prop}
use Rattle.lin_form.specs.declared.atom.Atom.{Atom}
use Rattle.lin_form.specs.declared.form.Comparison.{Comparison}
use Rattle.lin_form.specs.declared.literal.Literal.{Literal}
use Rattle.lin_form.specs.declared.signature.Signature.{Signature}
use Rattle.input_classes.specs.declared.class.Class.{Class}
use Rattle.input_classes.specs.Partition.{Partition, IsPartition, IsWitnessed}
use Rattle.input_classes.specs.VectorSet.{Box, IsIn, box_of}
use Rattle.input_classes.proofs.CallerLemmas.{one_partition}
use Rattle.text_lines.specs.Reading.{IsDecided}
use Rattle.chart_model.specs.declared.chart.Chart.{Chart}
use Rattle.cut_syntax.specs.Cuts.{ReadsCuts, RefusesCuts}
use Rattle.command_stages.specs.declared.stop.Source.{Source}
use Rattle.command_stages.specs.declared.stop.Source.TheVariants.{Word}
use Rattle.command_stages.specs.Stage.{IsProper, IsDecidedBy}
use Rattle.command_stages.proofs.Proper.{proper_then, proper_is, proper_text, proper_reading, proper_unless}
use Rattle.command_stages.proofs.ProperBy.{IsProperBy, like_is, like_then}
use Rattle.class_stages.specs.Cutting.{CutsAt}
use Rattle.class_stages.specs.Classes.{IsChartPartition, ClassesOver}
use Rattle.class_stages.specs.Text.{atom_line, class_line, classes_text}

-- each text has at most one reading or refusal as cuts over a signature
abbrev pub CutTexts : Type 0
CutTexts = (signature : Signature) (text : List ℕ) → IsDecided (ReadsCuts signature text) (RefusesCuts signature text)

cuts_decided : CutTexts → (signature : Signature) (text : List ℕ) → IsDecidedBy (ReadsCuts signature text) (RefusesCuts signature text)
cuts_decided texts signature text = let d = texts signature text in record { one_reading = d.one_reading; one_refusal = d.one_refusal; apart = d.apart }

pub cuts_proper : {may : Source → Type 0} → CutTexts → (named : Bool) (number : ℕ) (signature : Signature) → (named ≡ true → may (Word number)) → IsProper may (CutsAt named number signature)
cuts_proper texts false number signature h = proper_is _ (λ a b p q. p ∙ sym q)
cuts_proper texts true number signature h = proper_then _ _ (proper_text number _ (h refl)) (λ text. proper_reading _ _ _ (cuts_decided texts signature text))

-- two partitions over a signature have the same atoms, ranges and classes, and their literals say the same
pub record AreSame (signature : Signature) (r q : Partition) : Type 0 where
  pub atoms : r.atoms ≡ q.atoms
  pub ranges : r.ranges ≡ q.ranges
  pub classes : r.classes ≡ q.classes
  pub box : (x : List ℤ) → IsIn (box_of signature r.assumed) x ↔ IsIn (box_of signature q.assumed) x

atom_same : (a b : Atom) → inequality_of a ≡ inequality_of b → a ≡ b
atom_same a b e = λ i. record {
  coefficients = (e i).coefficients;
  constant = (e i).constant;
  normal = to_path_p (λ j. IsNormal ((e j).coefficients) ((e j).constant)) {a = a.normal} {b = b.normal} (IsNormal-prop _ _ _ _) i;
}

atoms_same : (these those : List Atom) → map inequality_of these ≡ map inequality_of those → these ≡ those
atoms_same [] [] e = refl
atoms_same [] (b ∷ those) e = absurd cc
atoms_same (a ∷ these) [] e = absurd cc
atoms_same (a ∷ these) (b ∷ those) e =
    let first : inequality_of a ≡ inequality_of b = cc in
    let later : map inequality_of these ≡ map inequality_of those = cc in
    let one = atom_same a b first in
    let rest = atoms_same these those later in
    λ i. one i ∷ rest i

abbrev pub made_of : List Atom → List (ℤ × ℤ) → List Literal → List Class → Partition
made_of atoms ranges assumed classes = record { atoms = atoms; ranges = ranges; assumed = assumed; classes = classes }

-- a partition keeps its classes where its literals say the same in other words
other_words : (atoms : List Atom) (ranges : List (ℤ × ℤ)) (these those : List Literal) (classes : List Class) → ((x : List ℤ) → IsIn (Box ranges these) x ↔ IsIn (Box ranges those) x) → IsPartition (made_of atoms ranges those classes) → IsPartition (made_of atoms ranges these classes)
other_words atoms ranges these those classes same h = record {
  ascending = h.ascending;
  witnessed = All-weaker (IsWitnessed (made_of atoms ranges those classes)) (IsWitnessed (made_of atoms ranges these classes)) (λ c w. record { member = ((same c.witness).1 w.member.0, w.member.1); least = λ x k. w.least x ((same x).0 k.0, k.1) }) classes h.witnessed;
  complete = λ x k. h.complete x ((same x).0 k);
}

pub same_of : (chart : Chart) (cuts : List Comparison) (r q : Partition) → IsChartPartition chart cuts r → IsChartPartition chart cuts q → AreSame chart.signature r q
same_of chart cuts r q a b =
    let atoms : r.atoms ≡ q.atoms = atoms_same r.atoms q.atoms (a.atoms ∙ sym b.atoms) in
    let ranges : r.ranges ≡ q.ranges = a.ranges ∙ sym b.ranges in
    let box : (x : List ℤ) → IsIn (box_of chart.signature r.assumed) x ↔ IsIn (box_of chart.signature q.assumed) x = λ x. (λ h. (b.box x).1 ((a.box x).0 h), λ h. (a.box x).1 ((b.box x).0 h)) in
    let P : List (ℤ × ℤ) → Type 0 = λ some. (x : List ℤ) → IsIn (Box some r.assumed) x ↔ IsIn (Box some q.assumed) x in
    let Q : List Atom → Type 0 = λ some. IsPartition (made_of some q.ranges q.assumed q.classes) in
    let R : List (ℤ × ℤ) → Type 0 = λ some. IsPartition (made_of r.atoms some q.assumed q.classes) in
    let there : IsPartition (made_of r.atoms r.ranges q.assumed q.classes) = subst R (sym ranges) (subst Q (sym atoms) b.exact) in
    let moved : IsPartition (made_of r.atoms r.ranges r.assumed q.classes) = other_words r.atoms r.ranges r.assumed q.assumed q.classes (subst P (sym a.ranges) box) there in
    record { atoms = atoms; ranges = ranges; classes = sym (one_partition r q.classes a.exact moved); box = box }

pub classes_like : {may : Source → Type 0} (name : ℕ) (chart : Chart) (cuts : List Comparison) → IsProperBy may (AreSame chart.signature) (ClassesOver name chart cuts)
classes_like name chart cuts = like_then _ _ _ (proper_unless _ _) (λ u. like_then _ _ _ (proper_unless _ _) (λ v. like_then _ _ _ (proper_unless _ _) (λ w. like_then _ _ _ (proper_unless _ _) (λ x. like_is _ _ (same_of chart cuts)))))

-- the same partition has the same text
pub text_same : (signature : Signature) (r q : Partition) → AreSame signature r q → classes_text r ≡ classes_text q
text_same signature r q same = λ i. flat_map atom_line (same.atoms i) ++ flat_map class_line (same.classes i)
