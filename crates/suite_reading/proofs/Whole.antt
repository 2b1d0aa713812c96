-- A text that is read is the suite's text, and is not refused.
use Rattle.std.proofs.Common.{◌≡◌, ℕ, ◌<◌, ◌≤◌, true, ℤ, List, [], ◌∷◌, ◌++◌, length, map, codes, refl, sym, ap, ◌∙◌, subst, arith, length-append, None, inl, inr, unsigned_abs}
use Rattle.std.specs.List.{flat_map, list_all}
use Rattle.std.proofs.lemmas.Bool.{leb-true, le-leb}
use Rattle.std.proofs.lemmas.List.{same_from_push}
use Rattle.lin_form.specs.declared.input.Input.{Input}
use Rattle.strict_lines.specs.Numbers.{is_within, most}
use Rattle.strict_lines.specs.Lines.{Token, line_tokens, line_text, AreSmall}
use Rattle.strict_lines.proofs.CallerLemmas.{line_printed, lines_closed}
use Rattle.subject.specs.Suite.{SuiteParts}
use Rattle.suite_model.specs.Text.{numbers, natural_line, input_line, output_line, class_line, letters_line, step_line, test_lines, suite_lines, suite_text}
use Rattle.suite_reading.specs.declared.error.Cause.{Cause}
use Rattle.suite_reading.specs.Items.{Item, SuiteLine, InputLine, OutputLine, BoundLine, StatesLine, ClassLine, CoverLine, MarkLine, TestLine, StepLine, EndLine, item_line}
use Rattle.suite_reading.specs.State.{State, begun, next, row_of, whole}
use Rattle.suite_reading.specs.Checks.{checks, first_of, are_within}
use Rattle.suite_reading.specs.Reading.{Says, Leads, ReadsSuite, RefusesText}
use Rattle.suite_reading.proofs.Keeping.{fact, both, kept_begun}
use Rattle.suite_reading.proofs.Leading.{leads_one, not_refused}
use Rattle.suite_reading.proofs.Printing.{printed, row_line, leads_printed}

weaker : (greatest : ℕ) (z : ℤ) → greatest ≤ most → is_within greatest z ≡ true → is_within most z ≡ true
weaker greatest z low e = let h : unsigned_abs z ≤ greatest = leb-true (unsigned_abs z) greatest e in le-leb (unsigned_abs z) most (omega (arith, h, low))

numbers_small : (greatest : ℕ) (zs : List ℤ) → greatest ≤ most → are_within greatest zs ≡ true → AreSmall (numbers zs)
numbers_small greatest [] low e = tt
numbers_small greatest (z ∷ zs) low e =
    let h = both (is_within greatest z) (list_all (is_within greatest) zs) e in
    (weaker greatest z low h.0, numbers_small greatest zs low h.1)

step_small : (v r : List ℤ) → are_within most v ≡ true → are_within most r ≡ true → AreSmall (step_line v r)
step_small [] r e f = (tt, numbers_small most r (omega arith) f)
step_small (z ∷ v) r e f = let h = both (is_within most z) (list_all (is_within most) v) e in (h.0, step_small v r h.1 f)

pub item_small : (s : State) (i : Item) → first_of (checks s i) ≡ None → AreSmall (item_line i)
item_small s SuiteLine e = (tt, (refl, tt))
item_small s (InputLine name low high) e =
    let cs = checks s (InputLine name low high) in
    (tt, (tt, (weaker 1000000 low (omega arith) (fact cs 2 (is_within 1000000 low) _ e refl), (weaker 1000000 high (omega arith) (fact cs 3 (is_within 1000000 high) _ e refl), tt))))
item_small s (OutputLine name) e = (tt, (tt, tt))
item_small s (BoundLine m) e = (tt, (fact (checks s (BoundLine m)) 1 (is_within most m) _ e refl, tt))
item_small s (StatesLine n) e = (tt, (fact (checks s (StatesLine n)) 1 (is_within most n) _ e refl, tt))
item_small s (ClassLine zs) e = (tt, numbers_small 1000000 zs (omega arith) (fact (checks s (ClassLine zs)) 1 (are_within 1000000 zs) _ e refl))
item_small s (CoverLine zs) e = (tt, numbers_small most zs (omega arith) (fact (checks s (CoverLine zs)) 1 (are_within most zs) _ e refl))
item_small s (MarkLine zs) e = (tt, numbers_small most zs (omega arith) (fact (checks s (MarkLine zs)) 1 (are_within most zs) _ e refl))
item_small s (TestLine zs) e = (tt, numbers_small most zs (omega arith) (fact (checks s (TestLine zs)) 1 (are_within most zs) _ e refl))
item_small s (StepLine v r) e = step_small v r (fact (checks s (StepLine v r)) 1 (are_within most v) _ e refl) (fact (checks s (StepLine v r)) 2 (are_within most r) _ e refl)
item_small s (EndLine z) e = (tt, (fact (checks s (EndLine z)) 1 (is_within most z) _ e refl, tt))

lines_text : (s u : State) (lines : List (List ℕ)) → Leads s (map line_tokens lines) u → flat_map line_text (map line_tokens lines) ≡ flat_map (λ line. line ++ 10 ∷ []) lines
lines_text s u [] h = refl
lines_text s u (l ∷ lines) h =
    let small = subst AreSmall (sym h.1.0.is) (item_small s h.0 h.1.0.passes) in
    let one = line_printed l small in
    let more = lines_text (next s h.0) u lines h.1.1 in
    λ i. one i ++ more i

rows_are : (inputs : List Input) → map row_line (map row_of inputs) ≡ map input_line inputs
rows_are [] = refl
rows_are (input ∷ inputs) = ap (λ x. input_line input ∷ x) (rows_are inputs)

whole_lines : (s : SuiteParts) → printed (whole s) ≡ suite_lines s
whole_lines s = ap (λ x. natural_line (codes "suite") 1 ∷ (x ++ (map output_line s.signature.outputs
    ++ (natural_line (codes "bound") s.bound ∷ natural_line (codes "states") s.states
    ∷ (map class_line s.classes ++ (map (letters_line (codes "cover")) s.cover ++ (map (letters_line (codes "mark")) s.marks
    ++ (flat_map (test_lines s.classes) s.tests ++ natural_line (codes "end") (length s.tests) ∷ [])))))))) (rows_are s.signature.inputs)

pub reads_text : (text : List ℕ) (s : SuiteParts) → ReadsSuite text s → text ≡ suite_text s
reads_text text s h =
    sym (lines_closed text h.0 h.1.0) ∙ sym (lines_text begun (whole s) h.0 h.1.1)
    ∙ ap (flat_map line_text) (sym (leads_printed begun (whole s) (map line_tokens h.0) kept_begun h.1.1) ∙ whole_lines s)

pub reads_one : (text : List ℕ) (s t : SuiteParts) → ReadsSuite text s → ReadsSuite text t → whole s ≡ whole t
reads_one text s t h k =
    let same : k.0 ≡ h.0 = (same_from_push k.0 h.0 [] [] (sym k.1.0 ∙ h.1.0)).0 in
    leads_one begun (whole s) (whole t) (map line_tokens h.0) h.1.1 (subst (λ ls. Leads begun (map line_tokens ls) (whole t)) same k.1.1)

-- the lines up to one, and what that says
pub record Splits (s : State) (front : List (List Token)) (line : List Token) : Type 0 where
  pub middle : State
  pub leads : Leads s front middle
  pub item : Item
  pub says : Says middle line item

pub leads_split : (s u : State) (front : List (List Token)) (line : List Token) (rest : List (List Token)) → Leads s (front ++ line ∷ rest) u → Splits s front line
leads_split s u [] line rest h = record { middle = s; leads = refl; item = h.0; says = h.1.0 }
leads_split s u (l ∷ front) line rest h =
    let more = leads_split (next s h.0) u front line rest h.1.1 in
    record { middle = more.middle; leads = (h.0, (h.1.0, more.leads)); item = more.item; says = more.says }

-- a list that ends with an empty line, and goes on after a line
record GoesOn (lines front : List (List ℕ)) (line : List ℕ) : Type 0 where
  rest : List (List ℕ)
  is : lines ≡ front ++ line ∷ rest

shorter : (lines front : List (List ℕ)) (line : List ℕ) (rest : List (List ℕ)) → lines ++ [] ∷ [] ≡ front ++ line ∷ rest → 0 < length rest → GoesOn lines front line
shorter [] [] line rest e some = let no : [] ≡ rest = cc in absurd (omega (arith, some, ap length no))
shorter [] (f ∷ front) line rest e some = let no : [] ≡ front ++ line ∷ rest = cc in absurd (omega (arith, ap length no, length-append front (line ∷ rest)))
shorter (l ∷ lines) [] line rest e some = let one : l ≡ line = cc in record { rest = lines; is = ap (λ x. x ∷ lines) one }
shorter (l ∷ lines) (f ∷ front) line rest e some =
    let one : l ≡ f = cc in
    let more : lines ++ [] ∷ [] ≡ front ++ line ∷ rest = cc in
    let g = shorter lines front line rest more some in
    let h = g.is in
    record { rest = g.rest; is = λ i. one i ∷ h i }

pub map_line : (front : List (List ℕ)) (line : List ℕ) (rest : List (List ℕ)) → map line_tokens (front ++ line ∷ rest) ≡ map line_tokens front ++ line_tokens line ∷ map line_tokens rest
map_line [] line rest = refl
map_line (f ∷ front) line rest = ap (λ x. line_tokens f ∷ x) (map_line front line rest)

pub not_both : (text : List ℕ) (s : SuiteParts) (n : ℕ) (cause : Cause) → ReadsSuite text s → RefusesText text n cause → ⊥
not_both text s n cause h (inl r) =
    let g = shorter h.0 r.front r.line r.rest (sym h.1.0 ∙ r.pieces) r.ended in
    let split = leads_split begun (whole s) (map line_tokens r.front) (line_tokens r.line) (map line_tokens g.rest)
    (subst (λ ls. Leads begun ls (whole s)) (ap (map line_tokens) g.is ∙ map_line r.front r.line g.rest) h.1.1) in
    let same : split.middle ≡ r.state = leads_one begun split.middle r.state (map line_tokens r.front) split.leads r.leads in
    not_refused r.state (line_tokens r.line) split.item cause (subst (λ x. Says x (line_tokens r.line) split.item) same split.says) r.refused
not_both text s n cause h (inr r) =
    let ends = same_from_push r.0.front h.0 r.0.last [] (sym r.0.pieces ∙ h.1.0) in
    let same : r.0.state ≡ whole s = leads_one begun r.0.state (whole s) (map line_tokens h.0) (subst (λ ls. Leads begun (map line_tokens ls) r.0.state) ends.0 r.0.leads) h.1.1 in
    r.0.refused (ends.1, ap (λ (x : State). x.place) same)
