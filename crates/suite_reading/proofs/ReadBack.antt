-- A text that is printed from lines that pass is read as these lines.
use Rattle.std.proofs.Common.{◌≡◌, ℕ, ◌<◌, ◌&&◌, nat_le, ℤ, List, [], ◌∷◌, ◌++◌, length, map, codes, refl, sym, subst, arith, length-append, None, Some}
use Rattle.std.specs.List.{AllByRecursion}
use Rattle.lin_form.specs.Name.{spells_name}
use Rattle.strict_lines.specs.Lines.{Token, Number, Word, line_tokens}
use Rattle.subject.specs.Suite.{SuiteParts}
use Rattle.suite_model.specs.Text.{numbers, step_line, suite_lines, suite_text}
use Rattle.suite_reading.specs.declared.place.LineKind.TheVariants as kind
use Rattle.suite_reading.specs.Items.{Item, SuiteLine, InputLine, OutputLine, BoundLine, StatesLine, ClassLine, CoverLine, MarkLine, TestLine, StepLine, EndLine, item_line}
use Rattle.suite_reading.specs.State.{State, begun, next, whole}
use Rattle.suite_reading.specs.Checks.{checks, first_of, may_stand}
use Rattle.suite_reading.specs.Reading.{Leads, ReadsSuite}
use Rattle.suite_reading.proofs.Keeping.{fact, both}
use Rattle.suite_reading.proofs.Whole.{item_small}
use Rattle.suite_reading.proofs.Spelling.{IsClean, IsCleanWord, IsLine, clean_of, name_clean, line_bytes, text_pieces, lines_back}

numbers_words : (zs : List ℤ) → AllByRecursion IsCleanWord (numbers zs)
numbers_words [] = tt
numbers_words (z ∷ zs) = (tt, numbers_words zs)

step_words : (v r : List ℤ) → AllByRecursion IsCleanWord (step_line v r)
step_words [] r = (record { no_space = refl; no_feed = refl; back = refl }, numbers_words r)
step_words (z ∷ v) r = (tt, step_words v r)

words_clean : (s : State) (i : Item) → first_of (checks s i) ≡ None → AllByRecursion IsCleanWord (item_line i)
words_clean s SuiteLine e = (record { no_space = refl; no_feed = refl; back = refl }, (tt, tt))
words_clean s (InputLine name low high) e =
    let front = both (may_stand kind.Input s.place) (spells_name name) (fact (checks s (InputLine name low high)) 0 (may_stand kind.Input s.place && spells_name name) _ e refl) in
    (record { no_space = refl; no_feed = refl; back = refl }, (name_clean name front.1, (tt, (tt, tt))))
words_clean s (OutputLine name) e =
    let front = both (may_stand kind.Output s.place) (spells_name name) (fact (checks s (OutputLine name)) 0 (may_stand kind.Output s.place && spells_name name) _ e refl) in
    (record { no_space = refl; no_feed = refl; back = refl }, (name_clean name front.1, tt))
words_clean s (BoundLine m) e = (record { no_space = refl; no_feed = refl; back = refl }, (tt, tt))
words_clean s (StatesLine n) e = (record { no_space = refl; no_feed = refl; back = refl }, (tt, tt))
words_clean s (ClassLine zs) e = (record { no_space = refl; no_feed = refl; back = refl }, numbers_words zs)
words_clean s (CoverLine zs) e = (record { no_space = refl; no_feed = refl; back = refl }, numbers_words zs)
words_clean s (MarkLine zs) e = (record { no_space = refl; no_feed = refl; back = refl }, numbers_words zs)
words_clean s (TestLine zs) e = (record { no_space = refl; no_feed = refl; back = refl }, numbers_words zs)
words_clean s (StepLine v r) e = step_words v r
words_clean s (EndLine z) e = (record { no_space = refl; no_feed = refl; back = refl }, (tt, tt))

some_token : (i : Item) → 0 < length (item_line i)
some_token SuiteLine = omega arith
some_token (InputLine name low high) = omega arith
some_token (OutputLine name) = omega arith
some_token (BoundLine m) = omega arith
some_token (StatesLine n) = omega arith
some_token (ClassLine zs) = omega arith
some_token (CoverLine zs) = omega arith
some_token (MarkLine zs) = omega arith
some_token (TestLine zs) = omega arith
some_token (StepLine v r) = omega (arith, length-append (numbers v) (Word (codes "/") ∷ numbers r))
some_token (EndLine z) = omega arith

lines_of : (s u : State) (lines : List (List Token)) → Leads s lines u → AllByRecursion IsLine lines
lines_of s u [] h = tt
lines_of s u (line ∷ lines) h =
    let says = h.1.0 in
    let here : IsLine (item_line h.0) = record { clean = clean_of (item_line h.0) (item_small s h.0 says.passes) (words_clean s h.0 says.passes); some = some_token h.0 } in
    (subst IsLine (sym says.is) here, lines_of (next s h.0) u lines h.1.1)

pub read_back : (s : SuiteParts) → Leads begun (suite_lines s) (whole s) → ReadsSuite (suite_text s) s
read_back s h =
    let lines = lines_of begun (whole s) (suite_lines s) h in
    (map line_bytes (suite_lines s), (text_pieces (suite_lines s) lines, subst (λ ls. Leads begun ls (whole s)) (sym (lines_back (suite_lines s) lines)) h))
