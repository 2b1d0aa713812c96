-- What holds of a state holds after one more item that passes its checks.
use Rattle.std.proofs.Common.{◌≡◌, ℕ, zero, suc, ◌<◌, ◌≤◌, Bool, true, false, not, ◌&&◌, cond, ℤ, pos, negsuc, List, [], ◌∷◌, ◌++◌, length, map, refl, sym, ap, ◌∙◌, subst, arith, length-append, nat_lt, Option, None, Some, eqb, get_or}
use Rattle.std.specs.List.{All, list_all}
use Rattle.std.proofs.lemmas.Bool.{false≢true, ltb-true}
use Rattle.std.proofs.lemmas.Bool.Decides.{Decides-eqb}
use Rattle.std.proofs.lemmas.Int.{ints}
use Rattle.std.specs.Int.Signed.{le_z, ◌≤ℤ◌}
use Rattle.std.specs.Prelude.{int_le}
use Rattle.std.proofs.lemmas.List.{length-map}
use Rattle.std.proofs.lemmas.List.Elements.{All-push, All-cons, All-nil}
use Rattle.std.proofs.lemmas.Option.{none-some}
use Rattle.lin_form.specs.Name.{spells_name}
use Rattle.suite_words.specs.Cover.{AreLetters}
use Rattle.subject.specs.Suite.{Test}
use Rattle.suite_reading.specs.declared.error.Cause.{Cause}
use Rattle.suite_reading.specs.declared.place.Place.{Place}
use Rattle.suite_reading.specs.declared.place.Place.TheVariants as place
use Rattle.suite_reading.specs.declared.place.LineKind.{LineKind}
use Rattle.suite_reading.specs.declared.place.LineKind.TheVariants as kind
use Rattle.suite_reading.specs.Items.{Item, SuiteLine, InputLine, OutputLine, BoundLine, StatesLine, ClassLine, CoverLine, MarkLine, TestLine, StepLine, EndLine}
use Rattle.suite_reading.specs.State.{State, begun, next, no_test, letter_of, with_reply, AreRuled}
use Rattle.suite_reading.specs.Checks.{checks, first_of, unless, may_stand, is_letter, is_in_box}
use Rattle.suite_reading.specs.inside.Kept.{level, IsCounted, IsRuled, Kept}

nth : (cs : List (Option Cause)) (k : ℕ) → first_of cs ≡ None → get_or cs k None ≡ None
nth [] k e = refl
nth (Some c ∷ cs) k e = absurd (none-some c (sym e))
nth (None ∷ cs) zero e = refl
nth (None ∷ cs) (suc k) e = nth cs k e

passes_one : (b : Bool) (c : Cause) → unless b c ≡ None → b ≡ true
passes_one true c e = refl
passes_one false c e = absurd (none-some c (sym e))

-- a check that stands at a place of checks that are all passed
pub fact : (cs : List (Option Cause)) (k : ℕ) (b : Bool) (c : Cause) → first_of cs ≡ None → get_or cs k None ≡ unless b c → b ≡ true
fact cs k b c e f = passes_one b c (sym f ∙ nth cs k e)

pub both : (a b : Bool) → a && b ≡ true → (a ≡ true) × (b ≡ true)
both true b h = (refl, h)
both false b h = absurd (false≢true h)

pub not_true : (b : Bool) → not b ≡ true → b ≡ false
not_true true h = absurd (false≢true h)
not_true false h = refl

abbrev lowest : LineKind → ℕ
lowest kind.Suite = 0
lowest kind.Input = 1
lowest kind.Output = 2
lowest kind.Bound = 3
lowest kind.States = 4
lowest kind.Class = 5
lowest kind.Cover = 6
lowest kind.Mark = 6
lowest kind.Test = 8
lowest kind.Step = 9
lowest kind.End = 10

abbrev highest : LineKind → ℕ
highest kind.Suite = 0
highest kind.Input = 2
highest kind.Output = 3
highest kind.Bound = 3
highest kind.States = 4
highest kind.Class = 6
highest kind.Cover = 7
highest kind.Mark = 8
highest kind.Test = 10
highest kind.Step = 9
highest kind.End = 10

-- between which places a line stands
pub stands : (k : LineKind) (p : Place) → may_stand k p ≡ true → (lowest k ≤ level p) × (level p ≤ highest k)
stands kind.Suite place.Start e = (omega arith, omega arith)
stands kind.Input place.Suite e = (omega arith, omega arith)
stands kind.Input place.Inputs e = (omega arith, omega arith)
stands kind.Output place.Inputs e = (omega arith, omega arith)
stands kind.Output place.Outputs e = (omega arith, omega arith)
stands kind.Bound place.Outputs e = (omega arith, omega arith)
stands kind.States place.Bound e = (omega arith, omega arith)
stands kind.Class place.States e = (omega arith, omega arith)
stands kind.Class place.Classes e = (omega arith, omega arith)
stands kind.Cover place.Classes e = (omega arith, omega arith)
stands kind.Cover place.Cover e = (omega arith, omega arith)
stands kind.Mark place.Classes e = (omega arith, omega arith)
stands kind.Mark place.Cover e = (omega arith, omega arith)
stands kind.Mark place.Marks e = (omega arith, omega arith)
stands kind.Test place.Marks e = (omega arith, omega arith)
stands kind.Test place.Tests e = (omega arith, omega arith)
stands kind.Step place.Steps e = (omega arith, omega arith)
stands kind.End place.Tests e = (omega arith, omega arith)
stands _ _ e = absurd (false≢true e)

none_all : {X : Type 0} (P : X → Type 0) (xs : List X) → xs ≡ [] → All P xs
none_all P xs e = subst (All P) (sym e) (All-nil P)

ruled_none : (c o : ℕ) (t : Test) → t ≡ no_test → AreRuled c o t
ruled_none c o t e = subst (AreRuled c o) (sym e) (record { letters = All-nil (λ a. a < c); counts = All-nil (λ r. length r ≡ o) })

pub in_order : (a b : ℤ) → int_le a b ≡ true → a ≤ℤ b
in_order a b e = grind (arith, ints)

letter_below : (n : ℕ) (z : ℤ) → is_letter n z ≡ true → letter_of z < n
letter_below n (pos k) e =
    let h = both _ _ e in
    let low = in_order (pos 1) (pos k) h.0 in
    let high = in_order (pos k) (pos n) h.1 in
    omega (arith, ints)
letter_below n (negsuc k) e = absurd (false≢true e)

pub letters_below : (n : ℕ) (zs : List ℤ) → list_all (is_letter n) zs ≡ true → AreLetters n (map letter_of zs)
letters_below n [] e = All-nil (λ a. a < n)
letters_below n (z ∷ zs) e =
    let h = both _ _ e in
    All-cons (λ a. a < n) (letter_of z) (map letter_of zs) (letter_below n z h.0) (letters_below n zs h.1)

counted_suiteline : (s : State) → IsCounted s → may_stand kind.Suite s.place ≡ true → IsCounted (next s SuiteLine)
counted_suiteline s c may =
    let at = stands kind.Suite s.place may in
    let low_at : 0 ≤ level s.place = at.0 in
    let high_at : level s.place ≤ 0 = at.1 in
    record {
      few_inputs = c.few_inputs;
      few_outputs = c.few_outputs;
      few_classes = c.few_classes;
      inputs = λ h. absurd (omega (arith, h));
      outputs = λ h. absurd (omega (arith, h));
      tests = λ h. absurd (omega (arith, h));
      no_inputs = λ h. c.no_inputs (omega (arith, high_at));
      no_outputs = λ h. c.no_outputs (omega (arith, high_at));
      no_classes = λ h. c.no_classes (omega (arith, high_at));
      no_cover = λ h. c.no_cover (omega (arith, high_at));
      no_marks = λ h. c.no_marks (omega (arith, high_at));
      no_tests = λ h. c.no_tests (omega (arith, high_at));
      closed = λ n. c.closed (λ e. false≢true (sym (ap (may_stand kind.Suite) e) ∙ may));
      opened = λ e. absurd (omega (arith, ap level e));
    }

ruled_suiteline : (s : State) → IsCounted s → IsRuled s → may_stand kind.Suite s.place ≡ true → IsRuled (next s SuiteLine)
ruled_suiteline s c r may =
    record {
      vectors = r.vectors;
      cover = r.cover;
      marks = r.marks;
      tests = r.tests;
      now = r.now;
    }

counted_inputline : (s : State) (name : List ℕ) (low high : ℤ) → IsCounted s → may_stand kind.Input s.place ≡ true → (room : length s.inputs < 6) → IsCounted (next s (InputLine name low high))
counted_inputline s name low high c may room =
    let at = stands kind.Input s.place may in
    let low_at : 1 ≤ level s.place = at.0 in
    let high_at : level s.place ≤ 2 = at.1 in
    record {
      few_inputs = omega (arith, room, length-append s.inputs (record { name = name; low = low; high = high } ∷ []));
      few_outputs = c.few_outputs;
      few_classes = c.few_classes;
      inputs = λ h. omega (arith, length-append s.inputs (record { name = name; low = low; high = high } ∷ []));
      outputs = λ h. absurd (omega (arith, h));
      tests = λ h. absurd (omega (arith, h));
      no_inputs = λ h. absurd (omega (arith, h));
      no_outputs = λ h. c.no_outputs (omega (arith, high_at));
      no_classes = λ h. c.no_classes (omega (arith, high_at));
      no_cover = λ h. c.no_cover (omega (arith, high_at));
      no_marks = λ h. c.no_marks (omega (arith, high_at));
      no_tests = λ h. c.no_tests (omega (arith, high_at));
      closed = λ n. c.closed (λ e. false≢true (sym (ap (may_stand kind.Input) e) ∙ may));
      opened = λ e. absurd (omega (arith, ap level e));
    }

ruled_inputline : (s : State) (name : List ℕ) (low high : ℤ) → IsCounted s → IsRuled s → may_stand kind.Input s.place ≡ true → IsRuled (next s (InputLine name low high))
ruled_inputline s name low high c r may =
    let at = stands kind.Input s.place may in
    let high_at : level s.place ≤ 2 = at.1 in
    let none : s.now ≡ no_test = c.closed (λ e. false≢true (sym (ap (may_stand kind.Input) e) ∙ may)) in
    record {
      vectors = none_all (λ v. is_in_box (s.inputs ++ record { name = name; low = low; high = high } ∷ []) v ≡ true) s.classes (c.no_classes (omega (arith, high_at)));
      cover = r.cover;
      marks = r.marks;
      tests = r.tests;
      now = r.now;
    }

counted_outputline : (s : State) (name : List ℕ) → IsCounted s → may_stand kind.Output s.place ≡ true → (room : length s.outputs < 8) → IsCounted (next s (OutputLine name))
counted_outputline s name c may room =
    let at = stands kind.Output s.place may in
    let low_at : 2 ≤ level s.place = at.0 in
    let high_at : level s.place ≤ 3 = at.1 in
    record {
      few_inputs = c.few_inputs;
      few_outputs = omega (arith, room, length-append s.outputs (name ∷ []));
      few_classes = c.few_classes;
      inputs = λ h. c.inputs (omega (arith, low_at));
      outputs = λ h. omega (arith, length-append s.outputs (name ∷ []));
      tests = λ h. absurd (omega (arith, h));
      no_inputs = λ h. absurd (omega (arith, h));
      no_outputs = λ h. absurd (omega (arith, h));
      no_classes = λ h. c.no_classes (omega (arith, high_at));
      no_cover = λ h. c.no_cover (omega (arith, high_at));
      no_marks = λ h. c.no_marks (omega (arith, high_at));
      no_tests = λ h. c.no_tests (omega (arith, high_at));
      closed = λ n. c.closed (λ e. false≢true (sym (ap (may_stand kind.Output) e) ∙ may));
      opened = λ e. absurd (omega (arith, ap level e));
    }

ruled_outputline : (s : State) (name : List ℕ) → IsCounted s → IsRuled s → may_stand kind.Output s.place ≡ true → IsRuled (next s (OutputLine name))
ruled_outputline s name c r may =
    let at = stands kind.Output s.place may in
    let high_at : level s.place ≤ 3 = at.1 in
    let none : s.now ≡ no_test = c.closed (λ e. false≢true (sym (ap (may_stand kind.Output) e) ∙ may)) in
    record {
      vectors = r.vectors;
      cover = r.cover;
      marks = r.marks;
      tests = none_all (AreRuled (length s.classes) (length (s.outputs ++ name ∷ []))) s.tests (c.no_tests (omega (arith, high_at)));
      now = ruled_none _ _ s.now none;
    }

counted_boundline : (s : State) (m : ℤ) → IsCounted s → may_stand kind.Bound s.place ≡ true → IsCounted (next s (BoundLine m))
counted_boundline s m c may =
    let at = stands kind.Bound s.place may in
    let low_at : 3 ≤ level s.place = at.0 in
    let high_at : level s.place ≤ 3 = at.1 in
    record {
      few_inputs = c.few_inputs;
      few_outputs = c.few_outputs;
      few_classes = c.few_classes;
      inputs = λ h. c.inputs (omega (arith, low_at));
      outputs = λ h. c.outputs (omega (arith, low_at));
      tests = λ h. absurd (omega (arith, h));
      no_inputs = λ h. absurd (omega (arith, h));
      no_outputs = λ h. absurd (omega (arith, h));
      no_classes = λ h. c.no_classes (omega (arith, high_at));
      no_cover = λ h. c.no_cover (omega (arith, high_at));
      no_marks = λ h. c.no_marks (omega (arith, high_at));
      no_tests = λ h. c.no_tests (omega (arith, high_at));
      closed = λ n. c.closed (λ e. false≢true (sym (ap (may_stand kind.Bound) e) ∙ may));
      opened = λ e. absurd (omega (arith, ap level e));
    }

ruled_boundline : (s : State) (m : ℤ) → IsCounted s → IsRuled s → may_stand kind.Bound s.place ≡ true → IsRuled (next s (BoundLine m))
ruled_boundline s m c r may =
    record {
      vectors = r.vectors;
      cover = r.cover;
      marks = r.marks;
      tests = r.tests;
      now = r.now;
    }

counted_statesline : (s : State) (n : ℤ) → IsCounted s → may_stand kind.States s.place ≡ true → IsCounted (next s (StatesLine n))
counted_statesline s n c may =
    let at = stands kind.States s.place may in
    let low_at : 4 ≤ level s.place = at.0 in
    let high_at : level s.place ≤ 4 = at.1 in
    record {
      few_inputs = c.few_inputs;
      few_outputs = c.few_outputs;
      few_classes = c.few_classes;
      inputs = λ h. c.inputs (omega (arith, low_at));
      outputs = λ h. c.outputs (omega (arith, low_at));
      tests = λ h. absurd (omega (arith, h));
      no_inputs = λ h. absurd (omega (arith, h));
      no_outputs = λ h. absurd (omega (arith, h));
      no_classes = λ h. c.no_classes (omega (arith, high_at));
      no_cover = λ h. c.no_cover (omega (arith, high_at));
      no_marks = λ h. c.no_marks (omega (arith, high_at));
      no_tests = λ h. c.no_tests (omega (arith, high_at));
      closed = λ n. c.closed (λ e. false≢true (sym (ap (may_stand kind.States) e) ∙ may));
      opened = λ e. absurd (omega (arith, ap level e));
    }

ruled_statesline : (s : State) (n : ℤ) → IsCounted s → IsRuled s → may_stand kind.States s.place ≡ true → IsRuled (next s (StatesLine n))
ruled_statesline s n c r may =
    record {
      vectors = r.vectors;
      cover = r.cover;
      marks = r.marks;
      tests = r.tests;
      now = r.now;
    }

counted_classline : (s : State) (zs : List ℤ) → IsCounted s → may_stand kind.Class s.place ≡ true → (room : length s.classes < 4096) → IsCounted (next s (ClassLine zs))
counted_classline s zs c may room =
    let at = stands kind.Class s.place may in
    let low_at : 5 ≤ level s.place = at.0 in
    let high_at : level s.place ≤ 6 = at.1 in
    record {
      few_inputs = c.few_inputs;
      few_outputs = c.few_outputs;
      few_classes = omega (arith, room, length-append s.classes (zs ∷ []));
      inputs = λ h. c.inputs (omega (arith, low_at));
      outputs = λ h. c.outputs (omega (arith, low_at));
      tests = λ h. absurd (omega (arith, h));
      no_inputs = λ h. absurd (omega (arith, h));
      no_outputs = λ h. absurd (omega (arith, h));
      no_classes = λ h. absurd (omega (arith, h));
      no_cover = λ h. c.no_cover (omega (arith, high_at));
      no_marks = λ h. c.no_marks (omega (arith, high_at));
      no_tests = λ h. c.no_tests (omega (arith, high_at));
      closed = λ n. c.closed (λ e. false≢true (sym (ap (may_stand kind.Class) e) ∙ may));
      opened = λ e. absurd (omega (arith, ap level e));
    }

ruled_classline : (s : State) (zs : List ℤ) → IsCounted s → IsRuled s → may_stand kind.Class s.place ≡ true → (inside : is_in_box s.inputs zs ≡ true) → IsRuled (next s (ClassLine zs))
ruled_classline s zs c r may inside =
    let at = stands kind.Class s.place may in
    let high_at : level s.place ≤ 6 = at.1 in
    let none : s.now ≡ no_test = c.closed (λ e. false≢true (sym (ap (may_stand kind.Class) e) ∙ may)) in
    record {
      vectors = All-push (λ v. is_in_box s.inputs v ≡ true) s.classes zs r.vectors inside;
      cover = none_all (AreLetters (length (s.classes ++ zs ∷ []))) s.cover (c.no_cover (omega (arith, high_at)));
      marks = none_all (AreLetters (length (s.classes ++ zs ∷ []))) s.marks (c.no_marks (omega (arith, high_at)));
      tests = none_all (AreRuled (length (s.classes ++ zs ∷ [])) (length s.outputs)) s.tests (c.no_tests (omega (arith, high_at)));
      now = ruled_none _ _ s.now none;
    }

counted_coverline : (s : State) (zs : List ℤ) → IsCounted s → may_stand kind.Cover s.place ≡ true → IsCounted (next s (CoverLine zs))
counted_coverline s zs c may =
    let at = stands kind.Cover s.place may in
    let low_at : 6 ≤ level s.place = at.0 in
    let high_at : level s.place ≤ 7 = at.1 in
    record {
      few_inputs = c.few_inputs;
      few_outputs = c.few_outputs;
      few_classes = c.few_classes;
      inputs = λ h. c.inputs (omega (arith, low_at));
      outputs = λ h. c.outputs (omega (arith, low_at));
      tests = λ h. absurd (omega (arith, h));
      no_inputs = λ h. absurd (omega (arith, h));
      no_outputs = λ h. absurd (omega (arith, h));
      no_classes = λ h. absurd (omega (arith, h));
      no_cover = λ h. absurd (omega (arith, h));
      no_marks = λ h. c.no_marks (omega (arith, high_at));
      no_tests = λ h. c.no_tests (omega (arith, high_at));
      closed = λ n. c.closed (λ e. false≢true (sym (ap (may_stand kind.Cover) e) ∙ may));
      opened = λ e. absurd (omega (arith, ap level e));
    }

ruled_coverline : (s : State) (zs : List ℤ) → IsCounted s → IsRuled s → may_stand kind.Cover s.place ≡ true → (are : list_all (is_letter (length s.classes)) zs ≡ true) → IsRuled (next s (CoverLine zs))
ruled_coverline s zs c r may are =
    record {
      vectors = r.vectors;
      cover = All-push (AreLetters (length s.classes)) s.cover (map letter_of zs) r.cover (letters_below (length s.classes) zs are);
      marks = r.marks;
      tests = r.tests;
      now = r.now;
    }

counted_markline : (s : State) (zs : List ℤ) → IsCounted s → may_stand kind.Mark s.place ≡ true → IsCounted (next s (MarkLine zs))
counted_markline s zs c may =
    let at = stands kind.Mark s.place may in
    let low_at : 6 ≤ level s.place = at.0 in
    let high_at : level s.place ≤ 8 = at.1 in
    record {
      few_inputs = c.few_inputs;
      few_outputs = c.few_outputs;
      few_classes = c.few_classes;
      inputs = λ h. c.inputs (omega (arith, low_at));
      outputs = λ h. c.outputs (omega (arith, low_at));
      tests = λ h. absurd (omega (arith, h));
      no_inputs = λ h. absurd (omega (arith, h));
      no_outputs = λ h. absurd (omega (arith, h));
      no_classes = λ h. absurd (omega (arith, h));
      no_cover = λ h. absurd (omega (arith, h));
      no_marks = λ h. absurd (omega (arith, h));
      no_tests = λ h. c.no_tests (omega (arith, high_at));
      closed = λ n. c.closed (λ e. false≢true (sym (ap (may_stand kind.Mark) e) ∙ may));
      opened = λ e. absurd (omega (arith, ap level e));
    }

ruled_markline : (s : State) (zs : List ℤ) → IsCounted s → IsRuled s → may_stand kind.Mark s.place ≡ true → (are : list_all (is_letter (length s.classes)) zs ≡ true) → IsRuled (next s (MarkLine zs))
ruled_markline s zs c r may are =
    record {
      vectors = r.vectors;
      cover = r.cover;
      marks = All-push (AreLetters (length s.classes)) s.marks (map letter_of zs) r.marks (letters_below (length s.classes) zs are);
      tests = r.tests;
      now = r.now;
    }

counted_testline : (s : State) (zs : List ℤ) → IsCounted s → may_stand kind.Test s.place ≡ true → (room : 0 < length zs) → IsCounted (next s (TestLine zs))
counted_testline s zs c may room =
    let at = stands kind.Test s.place may in
    let low_at : 8 ≤ level s.place = at.0 in
    let high_at : level s.place ≤ 10 = at.1 in
    record {
      few_inputs = c.few_inputs;
      few_outputs = c.few_outputs;
      few_classes = c.few_classes;
      inputs = λ h. c.inputs (omega (arith, low_at));
      outputs = λ h. c.outputs (omega (arith, low_at));
      tests = λ h. absurd (omega (arith, h));
      no_inputs = λ h. absurd (omega (arith, h));
      no_outputs = λ h. absurd (omega (arith, h));
      no_classes = λ h. absurd (omega (arith, h));
      no_cover = λ h. absurd (omega (arith, h));
      no_marks = λ h. absurd (omega (arith, h));
      no_tests = λ h. absurd (omega (arith, h));
      closed = λ n. absurd (n refl);
      opened = λ e. omega (arith, room, length-map zs letter_of);
    }

ruled_testline : (s : State) (zs : List ℤ) → IsCounted s → IsRuled s → may_stand kind.Test s.place ≡ true → (are : list_all (is_letter (length s.classes)) zs ≡ true) → IsRuled (next s (TestLine zs))
ruled_testline s zs c r may are =
    record {
      vectors = r.vectors;
      cover = r.cover;
      marks = r.marks;
      tests = r.tests;
      now = record { letters = letters_below (length s.classes) zs are; counts = All-nil (λ x. length x ≡ length s.outputs) };
    }

counted_endline : (s : State) (z : ℤ) → IsCounted s → may_stand kind.End s.place ≡ true → IsCounted (next s (EndLine z))
counted_endline s z c may =
    let at = stands kind.End s.place may in
    let low_at : 10 ≤ level s.place = at.0 in
    let high_at : level s.place ≤ 10 = at.1 in
    record {
      few_inputs = c.few_inputs;
      few_outputs = c.few_outputs;
      few_classes = c.few_classes;
      inputs = λ h. c.inputs (omega (arith, low_at));
      outputs = λ h. c.outputs (omega (arith, low_at));
      tests = λ h. c.tests (omega (arith, low_at));
      no_inputs = λ h. absurd (omega (arith, h));
      no_outputs = λ h. absurd (omega (arith, h));
      no_classes = λ h. absurd (omega (arith, h));
      no_cover = λ h. absurd (omega (arith, h));
      no_marks = λ h. absurd (omega (arith, h));
      no_tests = λ h. absurd (omega (arith, h));
      closed = λ n. c.closed (λ e. false≢true (sym (ap (may_stand kind.End) e) ∙ may));
      opened = λ e. absurd (omega (arith, ap level e));
    }

ruled_endline : (s : State) (z : ℤ) → IsCounted s → IsRuled s → may_stand kind.End s.place ≡ true → IsRuled (next s (EndLine z))
ruled_endline s z c r may =
    record {
      vectors = r.vectors;
      cover = r.cover;
      marks = r.marks;
      tests = r.tests;
      now = r.now;
    }

-- a step after which more are to come, and one that ends its test
module _ (s : State) (v reply : List ℤ) (c : IsCounted s) (r : IsRuled s) (may : may_stand kind.Step s.place ≡ true) (size : length reply ≡ length s.outputs) where
  at_steps : level s.place ≡ 9
  at_steps = let at = stands kind.Step s.place may in let l : 9 ≤ level s.place = at.0 in let h : level s.place ≤ 9 = at.1 in omega arith

  replied : Test
  replied = with_reply s.now reply

  ruled_now : AreRuled (length s.classes) (length s.outputs) (with_reply s.now reply)
  ruled_now = record { letters = r.now.letters; counts = All-push (λ x. length x ≡ length s.outputs) s.now.replies reply r.now.counts size }

  by_end : (b : Bool) → nat_lt (length (s.now.replies ++ reply ∷ [])) (length s.now.letters) ≡ b
      → Kept (cond b (record s { place = place.Steps; now = with_reply s.now reply }) (record s { place = place.Tests; tests = s.tests ++ with_reply s.now reply ∷ []; now = no_test }))
  by_end true e = record {
    counted = record {
      few_inputs = c.few_inputs;
      few_outputs = c.few_outputs;
      few_classes = c.few_classes;
      inputs = λ h. c.inputs (omega (arith, at_steps));
      outputs = λ h. c.outputs (omega (arith, at_steps));
      tests = λ h. absurd (omega (arith, h));
      no_inputs = λ h. absurd (omega (arith, h));
      no_outputs = λ h. absurd (omega (arith, h));
      no_classes = λ h. absurd (omega (arith, h));
      no_cover = λ h. absurd (omega (arith, h));
      no_marks = λ h. absurd (omega (arith, h));
      no_tests = λ h. absurd (omega (arith, h));
      closed = λ n. absurd (n refl);
      opened = λ h. ltb-true _ _ e;
    };
    ruled = record { vectors = r.vectors; cover = r.cover; marks = r.marks; tests = r.tests; now = ruled_now };
  }
  by_end false e = record {
    counted = record {
      few_inputs = c.few_inputs;
      few_outputs = c.few_outputs;
      few_classes = c.few_classes;
      inputs = λ h. c.inputs (omega (arith, at_steps));
      outputs = λ h. c.outputs (omega (arith, at_steps));
      tests = λ h. omega (arith, length-append s.tests (with_reply s.now reply ∷ []));
      no_inputs = λ h. absurd (omega (arith, h));
      no_outputs = λ h. absurd (omega (arith, h));
      no_classes = λ h. absurd (omega (arith, h));
      no_cover = λ h. absurd (omega (arith, h));
      no_marks = λ h. absurd (omega (arith, h));
      no_tests = λ h. absurd (omega (arith, h));
      closed = λ n. refl;
      opened = λ h. absurd (omega (arith, ap level h));
    };
    ruled = record {
      vectors = r.vectors;
      cover = r.cover;
      marks = r.marks;
      tests = All-push (AreRuled (length s.classes) (length s.outputs)) s.tests (with_reply s.now reply) r.tests ruled_now;
      now = ruled_none _ _ no_test refl;
    };
  }

  pub kept_step : Kept (next s (StepLine v reply))
  kept_step = by_end (nat_lt (length (s.now.replies ++ reply ∷ [])) (length s.now.letters)) refl

pub kept : (s : State) (i : Item) → first_of (checks s i) ≡ None → Kept s → Kept (next s i)
kept s SuiteLine e k = let may = fact (checks s SuiteLine) 0 (may_stand kind.Suite s.place) _ e refl in record { counted = counted_suiteline s k.counted may; ruled = ruled_suiteline s k.counted k.ruled may }
kept s (InputLine name low high) e k =
    let cs = checks s (InputLine name low high) in
    let may = (both (may_stand kind.Input s.place) (spells_name name) (fact cs 0 (may_stand kind.Input s.place && spells_name name) _ e refl)).0 in
    record { counted = counted_inputline s name low high k.counted may (ltb-true _ _ (fact cs 4 (nat_lt (length s.inputs) 6) _ e refl)); ruled = ruled_inputline s name low high k.counted k.ruled may }
kept s (OutputLine name) e k =
    let cs = checks s (OutputLine name) in
    let may = (both (may_stand kind.Output s.place) (spells_name name) (fact cs 0 (may_stand kind.Output s.place && spells_name name) _ e refl)).0 in
    record { counted = counted_outputline s name k.counted may (ltb-true _ _ (fact cs 2 (nat_lt (length s.outputs) 8) _ e refl)); ruled = ruled_outputline s name k.counted k.ruled may }
kept s (BoundLine m) e k = let may = fact (checks s (BoundLine m)) 0 (may_stand kind.Bound s.place) _ e refl in record { counted = counted_boundline s m k.counted may; ruled = ruled_boundline s m k.counted k.ruled may }
kept s (StatesLine n) e k = let may = fact (checks s (StatesLine n)) 0 (may_stand kind.States s.place) _ e refl in record { counted = counted_statesline s n k.counted may; ruled = ruled_statesline s n k.counted k.ruled may }
kept s (ClassLine zs) e k =
    let cs = checks s (ClassLine zs) in
    let may = (both (may_stand kind.Class s.place) (eqb (length zs) (length s.inputs)) (fact cs 0 (may_stand kind.Class s.place && eqb (length zs) (length s.inputs)) _ e refl)).0 in
    record {
      counted = counted_classline s zs k.counted may (ltb-true _ _ (fact cs 2 (nat_lt (length s.classes) 4096) _ e refl));
      ruled = ruled_classline s zs k.counted k.ruled may (fact cs 3 (is_in_box s.inputs zs) _ e refl);
    }
kept s (CoverLine zs) e k =
    let cs = checks s (CoverLine zs) in
    let may = fact cs 0 (may_stand kind.Cover s.place) _ e refl in
    record { counted = counted_coverline s zs k.counted may; ruled = ruled_coverline s zs k.counted k.ruled may (fact cs 2 (list_all (is_letter (length s.classes)) zs) _ e refl) }
kept s (MarkLine zs) e k =
    let cs = checks s (MarkLine zs) in
    let may = fact cs 0 (may_stand kind.Mark s.place) _ e refl in
    record { counted = counted_markline s zs k.counted may; ruled = ruled_markline s zs k.counted k.ruled may (fact cs 2 (list_all (is_letter (length s.classes)) zs) _ e refl) }
kept s (TestLine zs) e k =
    let cs = checks s (TestLine zs) in
    let front = both (may_stand kind.Test s.place) (nat_lt 0 (length zs)) (fact cs 0 (may_stand kind.Test s.place && nat_lt 0 (length zs)) _ e refl) in
    record { counted = counted_testline s zs k.counted front.0 (ltb-true _ _ front.1); ruled = ruled_testline s zs k.counted k.ruled front.0 (fact cs 2 (list_all (is_letter (length s.classes)) zs) _ e refl) }
kept s (StepLine v reply) e k =
    let cs = checks s (StepLine v reply) in
    let all = both (may_stand kind.Step s.place && eqb (length v) (length s.inputs)) (eqb (length reply) (length s.outputs))
    (fact cs 0 ((may_stand kind.Step s.place && eqb (length v) (length s.inputs)) && eqb (length reply) (length s.outputs)) _ e refl) in
    let front = both (may_stand kind.Step s.place) (eqb (length v) (length s.inputs)) all.0 in
    kept_step s v reply k.counted k.ruled front.0 ((Decides-eqb (length reply) (length s.outputs)).0 all.1)
kept s (EndLine z) e k = let may = fact (checks s (EndLine z)) 0 (may_stand kind.End s.place) _ e refl in record { counted = counted_endline s z k.counted may; ruled = ruled_endline s z k.counted k.ruled may }

pub kept_begun : Kept begun
kept_begun = record {
  counted = record {
    few_inputs = omega arith;
    few_outputs = omega arith;
    few_classes = omega arith;
    inputs = λ h. absurd (omega (arith, h));
    outputs = λ h. absurd (omega (arith, h));
    tests = λ h. absurd (omega (arith, h));
    no_inputs = λ h. refl;
    no_outputs = λ h. refl;
    no_classes = λ h. refl;
    no_cover = λ h. refl;
    no_marks = λ h. refl;
    no_tests = λ h. refl;
    closed = λ n. refl;
    opened = λ h. absurd (omega (arith, ap level h));
  };
  ruled = record { vectors = All-nil _; cover = All-nil _; marks = All-nil _; tests = All-nil _; now = ruled_none _ _ no_test refl };
}
