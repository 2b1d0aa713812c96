-- The text of a printable suite is read as that suite.
use Rattle.std.proofs.Common.{◌≡◌, ℕ, ◌+◌, ◌<◌, ◌≤◌, inr, Bool, true, ◌&&◌, ℤ, pos, List, [], ◌∷◌, ◌++◌, length, map, get_or, codes, refl, sym, subst, append-nil, arith, unsigned_abs}
use Rattle.std.specs.List.{All, AllByRecursion, flat_map}
use Rattle.std.proofs.lemmas.Bool.{le-leb}
use Rattle.std.proofs.lemmas.Int.{ints}
use Rattle.std.proofs.lemmas.List.Elements.{recursion_from_All}
use Rattle.lin_form.specs.declared.input.Input.{Input}
use Rattle.lin_form.specs.Range.{AreWithin}
use Rattle.strict_lines.specs.Numbers.{is_within, most}
use Rattle.subject.specs.Suite.{SuiteParts, Test}
use Rattle.suite_words.specs.Cover.{AreLetters}
use Rattle.strict_lines.specs.Lines.{Token}
use Rattle.suite_model.specs.Text.{natural_line, output_line, class_line, letters_line, test_lines, suite_lines, suite_text}
use Rattle.suite_reading.specs.declared.error.SuiteKind.TheVariants as fault
use Rattle.suite_reading.specs.declared.error.SuiteWhich.TheVariants as limit
use Rattle.suite_reading.specs.declared.error.Cause.TheVariants.{Fault, Limit}
use Rattle.suite_reading.specs.declared.place.Place.{Place}
use Rattle.suite_reading.specs.declared.place.Place.TheVariants as place
use Rattle.suite_reading.specs.Items.{SuiteLine, BoundLine, StatesLine}
use Rattle.suite_reading.specs.State.{State, row_of, begun, whole}
use Rattle.suite_reading.specs.Checks.{first_of, unless, are_within}
use Rattle.suite_reading.specs.Reading.{Leads, ReadsSuite}
use Rattle.suite_reading.specs.Printable.{names_of, IsPrintable}
use Rattle.suite_reading.proofs.Heading.{at, IsOwn, IsFine, Fresh, name_in, fresh_from, own_rest, fresh_rest, fine, ordered, inputs_lead, outputs_lead, classes_lead, covers_lead, marks_lead}
use Rattle.suite_reading.proofs.Passing.{IsReply, IsFineTest, tests_lead}
use Rattle.suite_reading.proofs.ReadBack.{read_back}

all_within : (zs : List ℤ) → AllByRecursion (λ z. unsigned_abs z ≤ most) zs → are_within most zs ≡ true
all_within [] h = refl
all_within (z ∷ zs) h = (λ i. le-leb (unsigned_abs z) most h.0 i && all_within zs h.1 i)

-- the lines from the tests, the marks, .. on
abbrev from_tests : SuiteParts → List (List Token)
from_tests s = flat_map (test_lines s.classes) s.tests ++ natural_line (codes "end") (length s.tests) ∷ []

abbrev from_marks : SuiteParts → List (List Token)
from_marks s = map (letters_line (codes "mark")) s.marks ++ from_tests s

abbrev from_cover : SuiteParts → List (List Token)
from_cover s = map (letters_line (codes "cover")) s.cover ++ from_marks s

abbrev from_classes : SuiteParts → List (List Token)
from_classes s = map class_line s.classes ++ from_cover s

abbrev from_bound : SuiteParts → List (List Token)
from_bound s = natural_line (codes "bound") s.bound ∷ natural_line (codes "states") s.states ∷ from_classes s

abbrev from_outputs : SuiteParts → List (List Token)
from_outputs s = map output_line s.signature.outputs ++ from_bound s

-- what is said up to a place
abbrev said_to : SuiteParts → Place → List (List ℤ) → List (List ℕ) → List (List ℕ) → State
said_to s p classes cover marks = at p (map row_of s.signature.inputs) s.signature.outputs s.bound s.states classes cover marks []

module _ (s : SuiteParts) (p : IsPrintable s) where
  own : AllByRecursion IsOwn (names_of s.signature)
  own = recursion_from_All IsOwn (names_of s.signature) (λ i d h. record { named = p.names.named i d h; free = p.names.free i d h })

  fresh : Fresh [] (names_of s.signature)
  fresh = fresh_from [] (names_of s.signature) p.names.different

  fine_at : (a : ℕ) (d : List ℤ) → a < length s.classes → IsFine (map row_of s.signature.inputs) (get_or s.classes a d)
  fine_at a d h = fine s.signature.inputs (get_or s.classes a d) (p.rules.vectors a d h)

  words_below : (ws : List (List ℕ)) → All (AreLetters (length s.classes)) ws → AllByRecursion (AllByRecursion (λ a. a < length s.classes)) ws
  words_below ws h = recursion_from_All (AllByRecursion (λ a. a < length s.classes)) ws (λ i d inside. recursion_from_All (λ a. a < length s.classes) (get_or ws i d) (h i d inside))

  reply_fits : (i : ℕ) (d : Test) → i < length s.tests → (j : ℕ) (e : List ℤ) → j < length (get_or s.tests i d).replies → IsReply s.signature.outputs (get_or (get_or s.tests i d).replies j e)
  reply_fits i d h j e inside = record {
    size = p.rules.counts i d h j e inside;
    within = all_within (get_or (get_or s.tests i d).replies j e) (recursion_from_All (λ z. unsigned_abs z ≤ most) (get_or (get_or s.tests i d).replies j e) (p.replies i d h j e inside));
  }

  tests_fine : AllByRecursion (IsFineTest s.signature.outputs (length s.classes)) s.tests
  tests_fine = recursion_from_All (IsFineTest s.signature.outputs (length s.classes)) s.tests (λ i d h. record {
    some = p.rules.some_letter i d h;
    one_each = p.rules.one_each i d h;
    letters = recursion_from_All (λ a. a < length s.classes) (get_or s.tests i d).letters (p.rules.letters i d h);
    replies = recursion_from_All (IsReply s.signature.outputs) (get_or s.tests i d).replies (reply_fits i d h);
  })

  tests_pass : Leads (said_to s place.Marks s.classes s.cover s.marks) (from_tests s) (whole s)
  tests_pass = tests_lead (map row_of s.signature.inputs) s.signature.outputs s.bound s.states s.classes s.cover s.marks p.few_classes (λ a h. fine_at a [] h) place.Marks s.tests [] s.tests refl (inr p.some_test) refl tests_fine p.few_tests p.rules.agree

  marks_pass : Leads (said_to s place.Cover s.classes s.cover []) (from_marks s) (whole s)
  marks_pass = marks_lead (map row_of s.signature.inputs) s.signature.outputs s.bound s.states s.classes p.few_classes s.cover (omega (arith, p.cover)) place.Cover [] s.marks (from_tests s) (whole s) refl (inr p.some_mark)
      (words_below s.marks p.rules.mark_letters) tests_pass

  covers_pass : Leads (said_to s place.Classes s.classes [] []) (from_cover s) (whole s)
  covers_pass = covers_lead (map row_of s.signature.inputs) s.signature.outputs s.bound s.states s.classes p.few_classes place.Classes [] s.cover (from_marks s) (whole s) refl (inr (omega (arith, p.cover, p.some_state))) (omega (arith, p.cover))
      (words_below s.cover p.rules.cover_letters) marks_pass

  classes_pass : Leads (said_to s place.States [] [] []) (from_classes s) (whole s)
  classes_pass = classes_lead place.States (map row_of s.signature.inputs) s.signature.outputs s.bound s.states [] s.classes (from_cover s) (whole s) refl (inr p.some_class) (omega (arith, p.few_classes))
      (recursion_from_All (IsFine (map row_of s.signature.inputs)) s.classes fine_at) covers_pass

  numbers_pass : Leads (at place.Outputs (map row_of s.signature.inputs) s.signature.outputs 0 0 [] [] [] []) (from_bound s) (whole s)
  numbers_pass = (
    BoundLine (pos s.bound),
    (
      record {
        is = refl;
        passes = λ i. first_of (
            unless true (Fault fault.Form) ∷ unless (le-leb s.bound most (omega (arith, p.bound)) i) (Limit limit.Literal)
            ∷ unless (ordered (pos 1) (pos s.bound) (omega (arith, ints, p.some_state, p.up_to_bound)) i && ordered (pos s.bound) (pos 1024) (omega (arith, ints, p.bound)) i) (Fault fault.Fact) ∷ []);
      },
      (
        StatesLine (pos s.states),
        (
          record {
            is = refl;
            passes = λ i. first_of (
                unless true (Fault fault.Form) ∷ unless (le-leb s.states most (omega (arith, p.up_to_bound, p.bound)) i) (Limit limit.Literal)
                ∷ unless (ordered (pos 1) (pos s.states) (omega (arith, ints, p.some_state)) i && ordered (pos s.states) (pos s.bound) (omega (arith, ints, p.up_to_bound)) i) (Fault fault.Fact) ∷ []);
          },
          classes_pass,
        ),
      ),
    ),
  )

  outputs_pass : Leads (at place.Inputs (map row_of s.signature.inputs) [] 0 0 [] [] [] []) (from_outputs s) (whole s)
  outputs_pass = outputs_lead place.Inputs s.signature.inputs [] s.signature.outputs (from_bound s) (whole s) refl (inr s.signature.outputs_fit.least) (omega (arith, s.signature.outputs_fit.limit))
      (own_rest (map name_in s.signature.inputs) s.signature.outputs own) (fresh_outputs fresh) numbers_pass
    where
      fresh_outputs : Fresh [] (names_of s.signature) → Fresh (map name_in s.signature.inputs ++ []) s.signature.outputs
      fresh_outputs h = subst (λ d. Fresh d s.signature.outputs) (sym (append-nil (map name_in s.signature.inputs))) (fresh_rest [] (map name_in s.signature.inputs) s.signature.outputs h)

  lines_pass : Leads begun (suite_lines s) (whole s)
  lines_pass = (
    SuiteLine,
    (
      record { is = refl; passes = refl },
      inputs_lead place.Suite [] s.signature.inputs s.signature.outputs (from_outputs s) (whole s) refl (inr s.signature.inputs_fit.least) (omega (arith, s.signature.inputs_fit.limit)) own fresh outputs_pass,
    ),
  )

pub printable_read : (s : SuiteParts) → IsPrintable s → ReadsSuite (suite_text s) s
printable_read s p = read_back s (lines_pass s p)
