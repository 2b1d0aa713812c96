-- Lines that pass are the printed lines of what they say.
use Rattle.std.proofs.Common.{◌≡◌, ℕ, zero, suc, ◌+◌, ◌-◌, ◌<◌, ◌≤◌, Bool, true, false, cond, ℤ, pos, negsuc, List, [], ◌∷◌, ◌++◌, length, map, get_or, codes, refl, sym, ap, ◌∙◌, subst, arith, append_assoc, append-nil, nat_lt, nat_le, eqb, None, ◌&&◌}
use Rattle.std.specs.List.{flat_map, list_all}
use Rattle.std.specs.Cmp.Lexicographic.{pointwise}
use Rattle.std.specs.Cmp.Rules.{signed_items}
use Rattle.std.specs.Ordering.{int_eq}
use Rattle.std.proofs.lemmas.Bool.{false≢true, lt-leb, le-leb, ne_eqb}
use Rattle.std.proofs.lemmas.Bool.Decides.{Decides-int_eq}
use Rattle.std.proofs.lemmas.List.{map-append}
use Rattle.std.proofs.lemmas.List.Concat.{flat_map-append}
use Rattle.lin_form.specs.Name.{spells_name}
use Rattle.strict_lines.specs.Lines.{Token, Number, Word}
use Rattle.suite_model.specs.Text.{numbers, letters, natural_line, output_line, class_line, letters_line, step_line, step_lines, test_lines}
use Rattle.suite_reading.specs.declared.place.Place.TheVariants as place
use Rattle.suite_reading.specs.declared.place.LineKind.TheVariants as kind
use Rattle.suite_reading.specs.Items.{Item, SuiteLine, InputLine, OutputLine, BoundLine, StatesLine, ClassLine, CoverLine, MarkLine, TestLine, StepLine, EndLine, item_line}
use Rattle.suite_reading.specs.State.{State, Row, next, letter_of, natural_of, with_reply, no_test}
use Rattle.suite_reading.specs.Checks.{checks, first_of, may_stand, is_between, is_letter, witness}
use Rattle.suite_reading.specs.Reading.{Leads}
use Rattle.suite_reading.specs.inside.Kept.{level, IsCounted, Kept}
use Rattle.suite_reading.proofs.Keeping.{fact, both, stands, kept}

abbrev when : Bool → List (List Token) → List (List Token)
when b x = cond b x []

abbrev pub row_line : Row → List Token
row_line r = Word (codes "input") ∷ Word r.name ∷ Number r.low ∷ Number r.high ∷ []

-- the parts of what a state is printed with, from one part on
abbrev suite_part : State → List (List Token)
suite_part s = when (nat_le 1 (level s.place)) (natural_line (codes "suite") 1 ∷ [])

abbrev bound_part : State → List (List Token)
bound_part s = when (nat_le 4 (level s.place)) (natural_line (codes "bound") s.bound ∷ [])

abbrev states_part : State → List (List Token)
states_part s = when (nat_le 5 (level s.place)) (natural_line (codes "states") s.states ∷ [])

abbrev now_part : State → List (List Token)
now_part s = when (eqb (level s.place) 9) (test_lines s.classes s.now)

abbrev from_end : State → List (List Token)
from_end s = when (nat_le 11 (level s.place)) (natural_line (codes "end") (length s.tests) ∷ [])

abbrev from_now : State → List (List Token)
from_now s = now_part s ++ from_end s

abbrev from_tests : State → List (List Token)
from_tests s = flat_map (test_lines s.classes) s.tests ++ from_now s

abbrev from_marks : State → List (List Token)
from_marks s = map (letters_line (codes "mark")) s.marks ++ from_tests s

abbrev from_cover : State → List (List Token)
from_cover s = map (letters_line (codes "cover")) s.cover ++ from_marks s

abbrev from_classes : State → List (List Token)
from_classes s = map class_line s.classes ++ from_cover s

abbrev from_states : State → List (List Token)
from_states s = states_part s ++ from_classes s

abbrev from_bound : State → List (List Token)
from_bound s = bound_part s ++ from_states s

abbrev from_outputs : State → List (List Token)
from_outputs s = map output_line s.outputs ++ from_bound s

abbrev from_inputs : State → List (List Token)
from_inputs s = map row_line s.inputs ++ from_outputs s

abbrev pub printed : State → List (List Token)
printed s = suite_part s ++ from_inputs s

-- what comes later is empty
module _ (s : State) (c : IsCounted s) where
  no_end : level s.place < 11 → from_end s ≡ []
  no_end h = ap (λ b. when b (natural_line (codes "end") (length s.tests) ∷ [])) (lt-leb 11 (level s.place) h)

  no_now : level s.place < 9 → from_now s ≡ []
  no_now h =
      let e : eqb (level s.place) 9 ≡ false = ne_eqb (level s.place) 9 (λ f. omega (arith, h, f)) in
      let l = no_end (omega (arith, h)) in
      λ i. when (e i) (test_lines s.classes s.now) ++ l i

  none_tests : level s.place < 9 → from_tests s ≡ []
  none_tests h = let e = c.no_tests h in let l = no_now h in λ i. flat_map (test_lines s.classes) (e i) ++ l i

  none_marks : level s.place < 8 → from_marks s ≡ []
  none_marks h = let e = c.no_marks h in let l = none_tests (omega (arith, h)) in λ i. map (letters_line (codes "mark")) (e i) ++ l i

  none_cover : level s.place < 7 → from_cover s ≡ []
  none_cover h = let e = c.no_cover h in let l = none_marks (omega (arith, h)) in λ i. map (letters_line (codes "cover")) (e i) ++ l i

  none_classes : level s.place < 6 → from_classes s ≡ []
  none_classes h = let e = c.no_classes h in let l = none_cover (omega (arith, h)) in λ i. map class_line (e i) ++ l i

  none_states : level s.place < 5 → from_states s ≡ []
  none_states h =
      let e : nat_le 5 (level s.place) ≡ false = lt-leb 5 (level s.place) h in
      let l = none_classes (omega (arith, h)) in
      λ i. when (e i) (natural_line (codes "states") s.states ∷ []) ++ l i

  none_bound : level s.place < 4 → from_bound s ≡ []
  none_bound h =
      let e : nat_le 4 (level s.place) ≡ false = lt-leb 4 (level s.place) h in
      let l = none_states (omega (arith, h)) in
      λ i. when (e i) (natural_line (codes "bound") s.bound ∷ []) ++ l i

  none_outputs : level s.place < 3 → from_outputs s ≡ []
  none_outputs h = let e = c.no_outputs h in let l = none_bound (omega (arith, h)) in λ i. map output_line (e i) ++ l i

  none_inputs : level s.place < 2 → from_inputs s ≡ []
  none_inputs h = let e = c.no_inputs h in let l = none_outputs (omega (arith, h)) in λ i. map row_line (e i) ++ l i

under : {X : Type 0} (f f' a a' : List X) (x : X) → f' ≡ f → a' ≡ a ++ x ∷ [] → f' ++ a' ≡ (f ++ a) ++ x ∷ []
under f f' a a' x e g = (λ i. e i ++ g i) ∙ sym (append_assoc f a (x ∷ []))

last_part : {X : Type 0} (m t t' : List X) (x : X) → t ≡ [] → t' ≡ [] → (m ++ x ∷ []) ++ t' ≡ (m ++ t) ++ x ∷ []
last_part m t t' x e g = (λ i. (m ++ x ∷ []) ++ g i) ∙ append-nil (m ++ x ∷ []) ∙ ap (λ z. z ++ x ∷ []) (sym (append-nil m)) ∙ ap (λ z. (m ++ z) ++ x ∷ []) (sym e)

first_part : {X : Type 0} (p t t' : List X) (x : X) → p ≡ [] → t ≡ [] → t' ≡ [] → (x ∷ []) ++ t' ≡ (p ++ t) ++ x ∷ []
first_part p t t' x f e g = last_part [] t t' x e g ∙ ap (λ z. (z ++ t) ++ x ∷ []) (sym f)

rows_push : {A X : Type 0} (f : A → X) (xs : List A) (x : A) (t t' : List X) → t ≡ [] → t' ≡ [] → map f (xs ++ x ∷ []) ++ t' ≡ (map f xs ++ t) ++ f x ∷ []
rows_push f xs x t t' e g = ap (λ z. z ++ t') (map-append f xs (x ∷ [])) ∙ last_part (map f xs) t t' (f x) e g

on : (b : Bool) (x : List (List Token)) → b ≡ true → x ≡ when b x
on b x e = sym (ap (λ b. when b x) e)

off : (b : Bool) (x : List (List Token)) → b ≡ false → when b x ≡ []
off b x e = ap (λ b. when b x) e

letter_printed : (n : ℕ) (z : ℤ) → is_letter n z ≡ true → pos (letter_of z + 1) ≡ z
letter_printed n (pos zero) e = absurd (false≢true e)
letter_printed n (pos (suc k)) e = ap pos (let h : suc k - 1 + 1 ≡ suc k = omega arith in h)
letter_printed n (negsuc k) e = absurd (false≢true e)

letters_printed : (n : ℕ) (zs : List ℤ) → list_all (is_letter n) zs ≡ true → letters (map letter_of zs) ≡ numbers zs
letters_printed n [] e = refl
letters_printed n (z ∷ zs) e =
    let h = both (is_letter n z) (list_all (is_letter n) zs) e in
    let one = letter_printed n z h.0 in
    let more = letters_printed n zs h.1 in
    λ i. Number (one i) ∷ more i

natural_printed : (z most : ℤ) → is_between (pos 1) most z ≡ true → pos (natural_of z) ≡ z
natural_printed (pos n) most e = refl
natural_printed (negsuc n) most e = absurd (false≢true e)

no_steps : (classes : List (List ℤ)) (w : List ℕ) → step_lines classes w [] ≡ []
no_steps classes [] = refl
no_steps classes (a ∷ w) = refl

step_push : (classes : List (List ℤ)) (w : List ℕ) (rs : List (List ℤ)) (r : List ℤ) → length rs < length w → step_lines classes w (rs ++ r ∷ []) ≡ step_lines classes w rs ++ step_line (get_or classes (get_or w (length rs) 0) []) r ∷ []
step_push classes [] rs r h = absurd (omega (arith, h))
step_push classes (a ∷ w) [] r h = ap (λ x. step_line (get_or classes a []) r ∷ x) (no_steps classes w)
step_push classes (a ∷ w) (q ∷ rs) r h = ap (λ x. step_line (get_or classes a []) q ∷ x) (step_push classes w rs r (omega (arith, h)))

-- one more line
module _ (s : State) (k : Kept s) where
  c : IsCounted s
  c = k.counted

  suite_on : 1 ≤ level s.place → natural_line (codes "suite") 1 ∷ [] ≡ suite_part s
  suite_on h = on (nat_le 1 (level s.place)) (natural_line (codes "suite") 1 ∷ []) (le-leb 1 (level s.place) h)

  bound_on : 4 ≤ level s.place → natural_line (codes "bound") s.bound ∷ [] ≡ bound_part s
  bound_on h = on (nat_le 4 (level s.place)) (natural_line (codes "bound") s.bound ∷ []) (le-leb 4 (level s.place) h)

  states_on : 5 ≤ level s.place → natural_line (codes "states") s.states ∷ [] ≡ states_part s
  states_on h = on (nat_le 5 (level s.place)) (natural_line (codes "states") s.states ∷ []) (le-leb 5 (level s.place) h)

  -- the parts up to the states, unchanged
  head : 5 ≤ level s.place → (a a' : List (List Token)) (x : List Token) → a' ≡ a ++ x ∷ []
      → (natural_line (codes "suite") 1 ∷ []) ++ (map row_line s.inputs ++ (map output_line s.outputs ++ ((natural_line (codes "bound") s.bound ∷ []) ++ ((natural_line (codes "states") s.states ∷ []) ++ a'))))
      ≡ (suite_part s ++ (map row_line s.inputs ++ (map output_line s.outputs ++ (bound_part s ++ (states_part s ++ a))))) ++ x ∷ []
  head h a a' x e =
      under (suite_part s) _ _ _ x (suite_on (omega (arith, h))) (under (map row_line s.inputs) _ _ _ x refl (under (map output_line s.outputs) _ _ _ x refl
      (under (bound_part s) _ _ _ x (bound_on (omega (arith, h))) (under (states_part s) _ a a' x (states_on h) e))))

  printed_suite : may_stand kind.Suite s.place ≡ true → IsCounted (next s SuiteLine) → printed (next s SuiteLine) ≡ printed s ++ item_line SuiteLine ∷ []
  printed_suite may n =
      let at = stands kind.Suite s.place may in let high_at : level s.place ≤ 0 = at.1 in
      first_part (suite_part s) (from_inputs s) (from_inputs (next s SuiteLine)) (item_line SuiteLine)
      (off (nat_le 1 (level s.place)) (natural_line (codes "suite") 1 ∷ []) (lt-leb 1 (level s.place) (omega (arith, high_at))))
      (none_inputs s c (omega (arith, high_at))) (none_inputs (next s SuiteLine) n (omega arith))

  printed_input : (name : List ℕ) (low high : ℤ) → may_stand kind.Input s.place ≡ true → IsCounted (next s (InputLine name low high)) → printed (next s (InputLine name low high)) ≡ printed s ++ item_line (InputLine name low high) ∷ []
  printed_input name low high may n =
      let at = stands kind.Input s.place may in let low_at : 1 ≤ level s.place = at.0 in let high_at : level s.place ≤ 2 = at.1 in
      under (suite_part s) _ _ _ (item_line (InputLine name low high)) (suite_on low_at)
      (rows_push row_line s.inputs (record { name = name; low = low; high = high }) (from_outputs s) (from_outputs (next s (InputLine name low high))) (none_outputs s c (omega (arith, high_at))) (none_outputs (next s (InputLine name low high)) n (omega arith)))

  printed_output : (name : List ℕ) → may_stand kind.Output s.place ≡ true → IsCounted (next s (OutputLine name)) → printed (next s (OutputLine name)) ≡ printed s ++ item_line (OutputLine name) ∷ []
  printed_output name may n =
      let at = stands kind.Output s.place may in let low_at : 2 ≤ level s.place = at.0 in let high_at : level s.place ≤ 3 = at.1 in
      under (suite_part s) _ _ _ (item_line (OutputLine name)) (suite_on (omega (arith, low_at))) (under (map row_line s.inputs) _ _ _ (item_line (OutputLine name)) refl
      (rows_push output_line s.outputs name (from_bound s) (from_bound (next s (OutputLine name))) (none_bound s c (omega (arith, high_at))) (none_bound (next s (OutputLine name)) n (omega arith))))

  printed_bound : (m : ℤ) → is_between (pos 1) (pos 1024) m ≡ true → may_stand kind.Bound s.place ≡ true → IsCounted (next s (BoundLine m)) → printed (next s (BoundLine m)) ≡ printed s ++ item_line (BoundLine m) ∷ []
  printed_bound m fits may n =
      let at = stands kind.Bound s.place may in let low_at : 3 ≤ level s.place = at.0 in let high_at : level s.place ≤ 3 = at.1 in
      let line : List Token = natural_line (codes "bound") (natural_of m) in
      under (suite_part s) _ _ _ line (suite_on (omega (arith, low_at))) (under (map row_line s.inputs) _ _ _ line refl (under (map output_line s.outputs) _ _ _ line refl
      (first_part (bound_part s) (from_states s) (from_states (next s (BoundLine m))) line (off (nat_le 4 (level s.place)) (natural_line (codes "bound") s.bound ∷ []) (lt-leb 4 (level s.place) (omega (arith, high_at))))
      (none_states s c (omega (arith, high_at))) (none_states (next s (BoundLine m)) n (omega arith)))))
      ∙ ap (λ z. printed s ++ (Word (codes "bound") ∷ Number z ∷ []) ∷ []) (natural_printed m (pos 1024) fits)

  printed_states : (m : ℤ) → is_between (pos 1) (pos s.bound) m ≡ true → may_stand kind.States s.place ≡ true → IsCounted (next s (StatesLine m)) → printed (next s (StatesLine m)) ≡ printed s ++ item_line (StatesLine m) ∷ []
  printed_states m fits may n =
      let at = stands kind.States s.place may in let low_at : 4 ≤ level s.place = at.0 in let high_at : level s.place ≤ 4 = at.1 in
      let line : List Token = natural_line (codes "states") (natural_of m) in
      under (suite_part s) _ _ _ line (suite_on (omega (arith, low_at))) (under (map row_line s.inputs) _ _ _ line refl (under (map output_line s.outputs) _ _ _ line refl (under (bound_part s) _ _ _ line (bound_on low_at)
      (first_part (states_part s) (from_classes s) (from_classes (next s (StatesLine m))) line (off (nat_le 5 (level s.place)) (natural_line (codes "states") s.states ∷ []) (lt-leb 5 (level s.place) (omega (arith, high_at))))
      (none_classes s c (omega (arith, high_at))) (none_classes (next s (StatesLine m)) n (omega arith))))))
      ∙ ap (λ z. printed s ++ (Word (codes "states") ∷ Number z ∷ []) ∷ []) (natural_printed m (pos s.bound) fits)

  printed_class : (zs : List ℤ) → may_stand kind.Class s.place ≡ true → IsCounted (next s (ClassLine zs)) → printed (next s (ClassLine zs)) ≡ printed s ++ item_line (ClassLine zs) ∷ []
  printed_class zs may n =
      let at = stands kind.Class s.place may in let low_at : 5 ≤ level s.place = at.0 in let high_at : level s.place ≤ 6 = at.1 in
      head low_at _ _ (item_line (ClassLine zs))
      (rows_push class_line s.classes zs (from_cover s) (from_cover (next s (ClassLine zs))) (none_cover s c (omega (arith, high_at))) (none_cover (next s (ClassLine zs)) n (omega arith)))

  printed_cover : (zs : List ℤ) → list_all (is_letter (length s.classes)) zs ≡ true → may_stand kind.Cover s.place ≡ true → IsCounted (next s (CoverLine zs)) → printed (next s (CoverLine zs)) ≡ printed s ++ item_line (CoverLine zs) ∷ []
  printed_cover zs are may n =
      let at = stands kind.Cover s.place may in let low_at : 6 ≤ level s.place = at.0 in let high_at : level s.place ≤ 7 = at.1 in
      let line : List Token = letters_line (codes "cover") (map letter_of zs) in
      head (omega (arith, low_at)) _ _ line (under (map class_line s.classes) _ _ _ line refl
      (rows_push (letters_line (codes "cover")) s.cover (map letter_of zs) (from_marks s) (from_marks (next s (CoverLine zs))) (none_marks s c (omega (arith, high_at))) (none_marks (next s (CoverLine zs)) n (omega arith))))
      ∙ ap (λ l. printed s ++ (Word (codes "cover") ∷ l) ∷ []) (letters_printed (length s.classes) zs are)

  printed_mark : (zs : List ℤ) → list_all (is_letter (length s.classes)) zs ≡ true → may_stand kind.Mark s.place ≡ true → IsCounted (next s (MarkLine zs)) → printed (next s (MarkLine zs)) ≡ printed s ++ item_line (MarkLine zs) ∷ []
  printed_mark zs are may n =
      let at = stands kind.Mark s.place may in let low_at : 6 ≤ level s.place = at.0 in let high_at : level s.place ≤ 8 = at.1 in
      let line : List Token = letters_line (codes "mark") (map letter_of zs) in
      head (omega (arith, low_at)) _ _ line (under (map class_line s.classes) _ _ _ line refl (under (map (letters_line (codes "cover")) s.cover) _ _ _ line refl
      (rows_push (letters_line (codes "mark")) s.marks (map letter_of zs) (from_tests s) (from_tests (next s (MarkLine zs))) (none_tests s c (omega (arith, high_at))) (none_tests (next s (MarkLine zs)) n (omega arith)))))
      ∙ ap (λ l. printed s ++ (Word (codes "mark") ∷ l) ∷ []) (letters_printed (length s.classes) zs are)

  -- the parts up to the tests, unchanged
  body : 8 ≤ level s.place → (a a' : List (List Token)) (x : List Token) → a' ≡ a ++ x ∷ []
      → map class_line s.classes ++ (map (letters_line (codes "cover")) s.cover ++ (map (letters_line (codes "mark")) s.marks ++ a'))
      ≡ (map class_line s.classes ++ (map (letters_line (codes "cover")) s.cover ++ (map (letters_line (codes "mark")) s.marks ++ a))) ++ x ∷ []
  body h a a' x e = under (map class_line s.classes) _ _ _ x refl (under (map (letters_line (codes "cover")) s.cover) _ _ _ x refl (under (map (letters_line (codes "mark")) s.marks) _ a a' x refl e))

  printed_test : (zs : List ℤ) → list_all (is_letter (length s.classes)) zs ≡ true → may_stand kind.Test s.place ≡ true → IsCounted (next s (TestLine zs)) → printed (next s (TestLine zs)) ≡ printed s ++ item_line (TestLine zs) ∷ []
  printed_test zs are may n =
      let at = stands kind.Test s.place may in let low_at : 8 ≤ level s.place = at.0 in let high_at : level s.place ≤ 10 = at.1 in
      let line : List Token = letters_line (codes "test") (map letter_of zs) in
      let other : ¬ (level s.place ≡ 9) = not_steps s.place may in
      head (omega (arith, low_at)) _ _ line (body low_at _ _ line (under (flat_map (test_lines s.classes) s.tests) _ _ _ line refl
      (ap (λ l. (line ∷ l) ++ from_end (next s (TestLine zs))) (no_steps s.classes (map letter_of zs))
      ∙ first_part (now_part s) (from_end s) (from_end (next s (TestLine zs))) line (off (eqb (level s.place) 9) (test_lines s.classes s.now) (ne_eqb (level s.place) 9 other))
      (no_end s c (omega (arith, high_at))) (no_end (next s (TestLine zs)) n (omega arith)))))
      ∙ ap (λ l. printed s ++ (Word (codes "test") ∷ l) ∷ []) (letters_printed (length s.classes) zs are)
    where
      not_steps : (p : _) → may_stand kind.Test p ≡ true → ¬ (level p ≡ 9)
      not_steps place.Marks e f = omega (arith, f)
      not_steps place.Tests e f = omega (arith, f)
      not_steps _ e f = false≢true e

  printed_end : (z : ℤ) → int_eq z (pos (length s.tests)) ≡ true → may_stand kind.End s.place ≡ true → printed (next s (EndLine z)) ≡ printed s ++ item_line (EndLine z) ∷ []
  printed_end z same may =
      let at = stands kind.End s.place may in let low_at : 10 ≤ level s.place = at.0 in let high_at : level s.place ≤ 10 = at.1 in
      let line : List Token = natural_line (codes "end") (length s.tests) in
      let past : eqb (level s.place) 9 ≡ false = ne_eqb (level s.place) 9 (λ f. omega (arith, low_at, f)) in
      head (omega (arith, low_at)) _ _ line (body (omega (arith, low_at)) _ _ line (under (flat_map (test_lines s.classes) s.tests) _ _ _ line refl
      (under (now_part s) [] _ _ line (sym (off (eqb (level s.place) 9) (test_lines s.classes s.now) past))
      (ap (λ x. x ++ line ∷ []) (sym (no_end s c (omega (arith, high_at))))))))
      ∙ ap (λ x. printed s ++ (Word (codes "end") ∷ Number x ∷ []) ∷ []) (sym ((Decides-int_eq z (pos (length s.tests))).0 same))

  -- a step, after which more are to come or the test is whole
  module _ (v r : List ℤ) (same : pointwise int_eq v (witness s) ≡ true) (may : may_stand kind.Step s.place ≡ true) where
    at_nine : level s.place ≡ 9
    at_nine = let at = stands kind.Step s.place may in let l : 9 ≤ level s.place = at.0 in let h : level s.place ≤ 9 = at.1 in omega arith

    is_steps : (p : _) → may_stand kind.Step p ≡ true → p ≡ place.Steps
    is_steps place.Steps e = refl
    is_steps _ e = absurd (false≢true e)

    on_nine : test_lines s.classes s.now ≡ now_part s
    on_nine = on (eqb (level s.place) 9) (test_lines s.classes s.now) (ap (λ n. eqb n 9) at_nine)

    grown : test_lines s.classes (with_reply s.now r) ≡ test_lines s.classes s.now ++ step_line (witness s) r ∷ []
    grown = ap (λ x. letters_line (codes "test") s.now.letters ∷ x) (step_push s.classes s.now.letters s.now.replies r (c.opened (is_steps s.place may)))

    by_end : (b : Bool) → (n : IsCounted (cond b (record s { place = place.Steps; now = with_reply s.now r }) (record s { place = place.Tests; tests = s.tests ++ with_reply s.now r ∷ []; now = no_test })))
        → printed (cond b (record s { place = place.Steps; now = with_reply s.now r }) (record s { place = place.Tests; tests = s.tests ++ with_reply s.now r ∷ []; now = no_test })) ≡ printed s ++ step_line (witness s) r ∷ []
    by_end true n =
        head (omega (arith, at_nine)) _ _ (step_line (witness s) r) (body (omega (arith, at_nine)) _ _ (step_line (witness s) r) (under (flat_map (test_lines s.classes) s.tests) _ _ _ (step_line (witness s) r) refl
        (ap (λ x. x ++ []) grown ∙ last_part (test_lines s.classes s.now) (from_end s) [] (step_line (witness s) r) (no_end s c (omega (arith, at_nine))) refl
        ∙ ap (λ x. (x ++ from_end s) ++ step_line (witness s) r ∷ []) on_nine)))
    by_end false n =
        head (omega (arith, at_nine)) _ _ (step_line (witness s) r) (body (omega (arith, at_nine)) _ _ (step_line (witness s) r)
        (append-nil (flat_map (test_lines s.classes) (s.tests ++ with_reply s.now r ∷ []))
        ∙ flat_map-append (test_lines s.classes) s.tests (with_reply s.now r ∷ [])
        ∙ ap (λ x. flat_map (test_lines s.classes) s.tests ++ x) (append-nil (test_lines s.classes (with_reply s.now r)) ∙ grown)
        ∙ sym (append_assoc (flat_map (test_lines s.classes) s.tests) (test_lines s.classes s.now) (step_line (witness s) r ∷ []))
        ∙ ap (λ x. (flat_map (test_lines s.classes) s.tests ++ x) ++ step_line (witness s) r ∷ [])
        (sym (append-nil (test_lines s.classes s.now)) ∙ (λ i. on_nine i ++ sym (no_end s c (omega (arith, at_nine))) i))))

    printed_step : IsCounted (next s (StepLine v r)) → printed (next s (StepLine v r)) ≡ printed s ++ item_line (StepLine v r) ∷ []
    printed_step n = by_end (nat_lt (length (s.now.replies ++ r ∷ [])) (length s.now.letters)) n
        ∙ ap (λ x. printed s ++ step_line x r ∷ []) (sym ((signed_items v (witness s)).0 same))

pub printed_next : (s : State) (i : Item) → Kept s → first_of (checks s i) ≡ None → printed (next s i) ≡ printed s ++ item_line i ∷ []
printed_next s SuiteLine k e = printed_suite s k (fact (checks s SuiteLine) 0 (may_stand kind.Suite s.place) _ e refl) (kept s SuiteLine e k).counted
printed_next s (InputLine name low high) k e =
    let may = (both (may_stand kind.Input s.place) (spells_name name) (fact (checks s (InputLine name low high)) 0 (may_stand kind.Input s.place && spells_name name) _ e refl)).0 in
    printed_input s k name low high may (kept s (InputLine name low high) e k).counted
printed_next s (OutputLine name) k e =
    let may = (both (may_stand kind.Output s.place) (spells_name name) (fact (checks s (OutputLine name)) 0 (may_stand kind.Output s.place && spells_name name) _ e refl)).0 in
    printed_output s k name may (kept s (OutputLine name) e k).counted
printed_next s (BoundLine m) k e = printed_bound s k m (fact (checks s (BoundLine m)) 2 (is_between (pos 1) (pos 1024) m) _ e refl) (fact (checks s (BoundLine m)) 0 (may_stand kind.Bound s.place) _ e refl) (kept s (BoundLine m) e k).counted
printed_next s (StatesLine n) k e = printed_states s k n (fact (checks s (StatesLine n)) 2 (is_between (pos 1) (pos s.bound) n) _ e refl) (fact (checks s (StatesLine n)) 0 (may_stand kind.States s.place) _ e refl) (kept s (StatesLine n) e k).counted
printed_next s (ClassLine zs) k e =
    let may = (both (may_stand kind.Class s.place) (eqb (length zs) (length s.inputs)) (fact (checks s (ClassLine zs)) 0 (may_stand kind.Class s.place && eqb (length zs) (length s.inputs)) _ e refl)).0 in
    printed_class s k zs may (kept s (ClassLine zs) e k).counted
printed_next s (CoverLine zs) k e = printed_cover s k zs (fact (checks s (CoverLine zs)) 2 (list_all (is_letter (length s.classes)) zs) _ e refl) (fact (checks s (CoverLine zs)) 0 (may_stand kind.Cover s.place) _ e refl) (kept s (CoverLine zs) e k).counted
printed_next s (MarkLine zs) k e = printed_mark s k zs (fact (checks s (MarkLine zs)) 2 (list_all (is_letter (length s.classes)) zs) _ e refl) (fact (checks s (MarkLine zs)) 0 (may_stand kind.Mark s.place) _ e refl) (kept s (MarkLine zs) e k).counted
printed_next s (TestLine zs) k e =
    let may = (both (may_stand kind.Test s.place) (nat_lt 0 (length zs)) (fact (checks s (TestLine zs)) 0 (may_stand kind.Test s.place && nat_lt 0 (length zs)) _ e refl)).0 in
    printed_test s k zs (fact (checks s (TestLine zs)) 2 (list_all (is_letter (length s.classes)) zs) _ e refl) may (kept s (TestLine zs) e k).counted
printed_next s (StepLine v r) k e =
    let all = both (may_stand kind.Step s.place && eqb (length v) (length s.inputs)) (eqb (length r) (length s.outputs))
    (fact (checks s (StepLine v r)) 0 ((may_stand kind.Step s.place && eqb (length v) (length s.inputs)) && eqb (length r) (length s.outputs)) _ e refl) in
    let may = (both (may_stand kind.Step s.place) (eqb (length v) (length s.inputs)) all.0).0 in
    printed_step s k v r (fact (checks s (StepLine v r)) 3 (pointwise int_eq v (witness s)) _ e refl) may (kept s (StepLine v r) e k).counted
printed_next s (EndLine z) k e = printed_end s k z (fact (checks s (EndLine z)) 2 (int_eq z (pos (length s.tests))) _ e refl) (fact (checks s (EndLine z)) 0 (may_stand kind.End s.place) _ e refl)

-- lines that lead from a state to another are what the other has more
pub leads_printed : (s u : State) (lines : List (List Token)) → Kept s → Leads s lines u → printed u ≡ printed s ++ lines
leads_printed s u [] k h = ap printed (sym h) ∙ sym (append-nil (printed s))
leads_printed s u (line ∷ lines) k h =
    leads_printed (next s h.0) u lines (kept s h.0 h.1.0.passes k) h.1.1
    ∙ ap (λ x. x ++ lines) (printed_next s h.0 k h.1.0.passes ∙ ap (λ l. printed s ++ l ∷ []) (sym h.1.0.is))
    ∙ append_assoc (printed s) (line ∷ []) lines

pub leads_kept : (s u : State) (lines : List (List Token)) → Kept s → Leads s lines u → Kept u
leads_kept s u [] k h = subst Kept h k
leads_kept s u (line ∷ lines) k h = leads_kept (next s h.0) u lines (kept s h.0 h.1.0.passes k) h.1.1
