-- What everything that was declared keeps, line after line.
use Rattle.std.proofs.Common.{◌≡◌, ℕ, ◌<◌, ◌≤◌, Bool, true, false, not, ◌&&◌, List, [], ◌∷◌, ◌++◌, length}
use Rattle.std.proofs.Common.{Option, Some, None, refl, sym, ◌∙◌, ap, subst, arith, length-append}
use Rattle.std.specs.Prelude.{ℤ, ◌≤ℤ◌, if◌then◌else◌, ◌==◌, nat_lt, nat_le, int_lt, Result, Ok, Err, OnOk, is_some, option_map, unwrap_or}
use Rattle.std.specs.Prelude.{unsigned_abs}
use Rattle.std.specs.List.{All}
use Rattle.std.specs.Option.{ForSome, option_map_or, option_or}
use Rattle.std.proofs.lemmas.Bool.Decides.{nat_tests}
use Rattle.std.proofs.lemmas.Int.{ints}
use Rattle.std.proofs.lemmas.List.{length-map}
use Rattle.std.proofs.lemmas.List.Elements.{All-nil, All-cons, All-append}
use Rattle.std.proofs.lemmas.List.Quantifiers.{position-Some}
use Rattle.chart_model.specs.Chart.{IsGuard}
use Rattle.text_lines.specs.declared.read.LineError.{LineError}
use Rattle.text_lines.specs.declared.read.LineError.TheVariants.{Refused, Memory}
use Rattle.text_lines.specs.Reading.{Takes}
use Rattle.line_forms.specs.declared.parsed.ParsedLine.{ParsedLine}
use Rattle.line_forms.specs.declared.statement.InputForm.{InputForm}
use Rattle.line_forms.specs.declared.statement.Signed.{Signed}
use Rattle.line_forms.specs.declared.statement.Signed.TheVariants as signed
use Rattle.line_forms.specs.Forms.{value_of, reserved_in}
use Rattle.line_forms.specs.Parsing.{AreParsed, IsFormed, IsParsed}
use Rattle.line_forms.specs.Limits.{IsSmallNumber, IsSmallGuard}
use Rattle.line_forms.specs.Trees.{Tree, tests_of}
use Rattle.line_checks.specs.Names.{Names, is_same}
use Rattle.line_checks.specs.Guards.{guard_of}
use Rattle.chart_syntax.specs.declared.error.Kind.TheVariants as kind
use Rattle.chart_syntax.specs.declared.error.Which.TheVariants as which
use Rattle.chart_syntax.specs.declared.error.Refusal.{Refusal}
use Rattle.chart_syntax.specs.declared.error.Refusal.TheVariants.{Fault, Limit}
use Rattle.chart_syntax.specs.Checks.{fault_check, limit_check}
use Rattle.chart_syntax.specs.Reading.{LineOf}
use Rattle.chart_syntax.proofs.CallerLemmas.{or_none, taken_keeps}
use Rattle.impl_table.specs.declared.form.StateForm.{StateForm}
use Rattle.impl_table.specs.declared.form.RowForm.{RowForm}
use Rattle.impl_table.specs.declared.form.TableForm.{TableForm}
use Rattle.impl_table.specs.declared.form.TableForm.TheVariants as form
use Rattle.impl_table.specs.declared.reader.Declared.{Declared}
use Rattle.impl_table.specs.declared.table.TableState.{TableState}
use Rattle.impl_table.specs.Forms as forms
use Rattle.impl_table.specs.Forms.{IsTableForm, IsSmallTableForm}
use Rattle.impl_table.specs.Table.{IsRow}
use Rattle.impl_table.specs.Reading.{start, group_of, is_version, version_check, word_check, order_check, form_check, is_formed, front_check}
use Rattle.impl_table.specs.Reading.{comparisons_check, names_check, range_check, count_check, said_check, some_check, line_check, state_check}
use Rattle.impl_table.specs.Reading.{when_check, state_of, scope_of, state_in, row_in, next, some_next, TakesRow}
use Rattle.impl_table.specs.inside.Lines.{HasRange, IsPartial, Declares}
use Rattle.impl_table.proofs.Rows.{first_word, begins}

if_none : (b : Bool) (r : Refusal) → (if b then Some r else None) ≡ None → b ≡ false
if_none true r e = absurd (cc)
if_none false r e = refl

below : (n m : ℕ) → nat_le m n ≡ false → n < m
below n m e = grind (arith, nat_tests)

not_above : (n m : ℕ) → nat_lt m n ≡ false → n ≤ m
not_above n m e = grind (arith, nat_tests)

ordered_range : (lo hi : ℤ) → int_lt hi lo ≡ false → lo ≤ℤ hi
ordered_range lo hi e = grind (arith, ints, nat_tests)

small_value : (n : Signed) → IsSmallNumber n → unsigned_abs (value_of n) ≤ 1000000
small_value (signed.Plain n) h = omega (arith, ints)
small_value (signed.Negated n) h = omega (arith, ints)

one_more : {X : Type 0} (xs : List X) (x : X) (n : ℕ) → length xs < n → length (xs ++ x ∷ []) ≤ n
one_more xs x n h = let e = length-append xs (x ∷ []) in omega (arith, e, h)

push : {X : Type 0} (P : X → Type 0) (xs : List X) (x : X) → All P xs → P x → All P (xs ++ x ∷ [])
push P xs x all is = All-append P xs (x ∷ []) all (All-cons P x [] is (All-nil P))

all_of_none : {X : Type 0} (P : X → Type 0) (xs : List X) → (0 < length xs → ⊥) → All P xs
all_of_none P [] none = All-nil P
all_of_none P (x ∷ xs) none = absurd (none (omega arith))

-- where the first word is that of a form
-- what a line of a table is parsed as
abbrev pub IsTableLine : List ℕ → LineOf TableForm → Type 0
IsTableLine = IsParsed (AreParsed IsTableForm)

pub head_of : (line : List ℕ) (parsed : ParsedLine TableForm) (said : TableForm) → IsTableLine line (Ok (Some parsed)) → parsed.form ≡ Some said
    → parsed.head ≡ Some (first_word said)
head_of line parsed said derived e =
    let ts = derived.first ∷ derived.more in
    let is : IsTableForm ts said = subst (IsFormed IsTableForm ts) e derived.says.form in
    derived.says.head ∙ ap reserved_in (begins ts said is)

begun_if : (b v : Bool) → fault_check (not b && not v) kind.Version ≡ None → v ≡ false → b ≡ true
begun_if true v e f = refl
begun_if false true e f = absurd (cc)
begun_if false false e f = absurd (cc)

order_if : (b l : Bool) → fault_check (b && l) kind.Misplaced ≡ None → b ≡ true → l ≡ false
order_if true l e f = if_none l (Fault kind.Misplaced) e
order_if false l e f = absurd (cc)

-- what the checks before those of what it says leave of a line
pub record IsPlaced (s : Declared) (said : TableForm) : Type 0 where
  pub order : is_version (Some said) ≡ false → s.group ≤ group_of (Some (first_word said))
  pub formed : is_formed (length s.outputs) (Some said) ≡ true
  pub passes : said_check s said ≡ None

not_false : (b : Bool) → not b ≡ false → b ≡ true
not_false true e = refl
not_false false e = absurd (cc)

pub placed : (s : Declared) (line : List ℕ) (parsed : ParsedLine TableForm) (said : TableForm) → IsTableLine line (Ok (Some parsed))
    → parsed.form ≡ Some said → line_check s parsed ≡ None → IsPlaced s said
placed s line parsed said derived e none =
    let head = head_of line parsed said derived e in
    let front = or_none (front_check s parsed) (some_check s parsed.form) none in
    let a = or_none (version_check s parsed) (option_or (word_check s parsed) (option_or (order_check s parsed) (form_check s parsed))) front.0 in
    let b = or_none (word_check s parsed) (option_or (order_check s parsed) (form_check s parsed)) a.1 in
    let c = or_none (order_check s parsed) (form_check s parsed) b.1 in
    record {
      order = λ other.
          let begun = begun_if s.begun (is_version parsed.form) a.0 (ap is_version e ∙ other) in
          let less = order_if s.begun (nat_lt (group_of parsed.head) s.group) c.0 begun in
          subst (λ h. s.group ≤ group_of h) head (not_above s.group (group_of parsed.head) less);
      formed = ap (is_formed (length s.outputs)) (sym e) ∙ not_false (is_formed (length s.outputs) parsed.form)
          (if_none (not (is_formed (length s.outputs) parsed.form)) (Fault kind.Form) c.1);
      passes = subst (λ o. some_check s o ≡ None) e front.1;
    }

partial_input : (s : Declared) (f : InputForm) → IsPartial s → s.group ≤ 1 → IsSmallTableForm (form.Input f) → range_check (form.Input f) ≡ None
    → count_check s (form.Input f) ≡ None → IsPartial (next s (form.Input f))
partial_input s f p early small range count =
    let no_states : 0 < length s.states → ⊥ = λ h. let g = p.states_behind h in omega (arith, g, early) in
    let no_rows : 0 < length s.rows → ⊥ = λ h. let g = p.rows_behind h in omega (arith, g, early) in
    record {
      few = record {
        inputs = one_more s.inputs f 6 (below (length s.inputs) 6 (if_none (nat_le 6 (length s.inputs)) (Limit which.Inputs) count));
        outputs = p.few.outputs;
        states = p.few.states;
        rows = p.few.rows;
      };
      ranges = push HasRange s.inputs f p.ranges
          (record {
            ordered = ordered_range (value_of f.lo) (value_of f.hi)
                (if_none (int_lt (value_of f.hi) (value_of f.lo)) (Fault kind.Range) range);
            low = small_value f.lo small.0;
            high = small_value f.hi small.1;
          });
      replies = p.replies;
      moves = all_of_none (IsRow (length (s.inputs ++ f ∷ [])) (length s.outputs) (length s.states)) s.rows no_rows;
      states_behind = λ h. absurd (no_states h);
      rows_behind = λ h. absurd (no_rows h);
    }

partial_output : (s : Declared) (name : List ℕ) → IsPartial s → s.group ≤ 2 → count_check s (form.Output name) ≡ None → IsPartial (next s (form.Output name))
partial_output s name p early count =
    let no_states : 0 < length s.states → ⊥ = λ h. let g = p.states_behind h in omega (arith, g, early) in
    let no_rows : 0 < length s.rows → ⊥ = λ h. let g = p.rows_behind h in omega (arith, g, early) in
    record {
      few = record {
        inputs = p.few.inputs;
        outputs = one_more s.outputs name 8
            (below (length s.outputs) 8 (if_none (nat_le 8 (length s.outputs)) (Limit which.Outputs) count));
        states = p.few.states;
        rows = p.few.rows;
      };
      ranges = p.ranges;
      replies = all_of_none (λ (state : TableState). length state.reply ≡ length (s.outputs ++ name ∷ [])) s.states no_states;
      moves = all_of_none (IsRow (length s.inputs) (length (s.outputs ++ name ∷ [])) (length s.states)) s.rows no_rows;
      states_behind = λ h. absurd (no_states h);
      rows_behind = λ h. absurd (no_rows h);
    }

same_count : (n m : ℕ) → (n == m) ≡ true → n ≡ m
same_count n m e = grind (arith, nat_tests)

partial_state : (s : Declared) (f : StateForm) → IsPartial s → s.group ≤ 3 → is_formed (length s.outputs) (Some (form.State f)) ≡ true
    → count_check s (form.State f) ≡ None → IsPartial (next s (form.State f))
partial_state s f p early formed count =
    let no_rows : 0 < length s.rows → ⊥ = λ h. let g = p.rows_behind h in omega (arith, g, early) in
    record {
      few = record {
        inputs = p.few.inputs;
        outputs = p.few.outputs;
        states = one_more s.states (state_in f) 1024 (below (length s.states) 1024
            (if_none (nat_le 1024 (length s.states)) (Limit which.States) count));
        rows = p.few.rows;
      };
      ranges = p.ranges;
      replies = push (λ (state : TableState). length state.reply ≡ length s.outputs) s.states (state_in f) p.replies
          (length-map f.reply forms.value_of ∙ same_count (length f.reply) (length s.outputs) formed);
      moves = all_of_none (IsRow (length s.inputs) (length s.outputs) (length (s.states ++ state_in f ∷ []))) s.rows no_rows;
      states_behind = λ h. omega arith;
      rows_behind = λ h. absurd (no_rows h);
    }

found_if : (o : Option ℕ) (n : ℕ) → ((k : ℕ) → o ≡ Some k → k < n) → fault_check (not (is_some o)) kind.Unknown ≡ None → unwrap_or o 0 < n
found_if (Some k) n h e = h k refl
found_if None n h e = absurd (cc)

-- a name that passes is that of a state
found : (s : Declared) (name : List ℕ) → state_check s name ≡ None → unwrap_or (state_of s name) 0 < length s.states
found s name e = found_if (state_of s name) (length s.states)
    (λ k h. (position-Some (λ (state : TableState). is_same name state.name) s.states k (record { name = []; reply = [] }) h).0) e

-- the law on guards of lines
abbrev pub GuardsFit : Type 0
GuardsFit = (s : Names) (width : ℕ) (guard : Tree) → width ≤ 6 → IsSmallGuard guard → tests_of guard ≤ 64
    → IsGuard width (length s.memories) (guard_of s width guard)

guard_kept : GuardsFit → (s : Declared) (guard : Option Tree) → length s.inputs ≤ 6 → ForSome guard IsSmallGuard
    → limit_check (nat_lt 64 (option_map_or tests_of guard 0)) which.Comparisons ≡ None
    → ForSome (option_map (guard_of (scope_of s) (length s.inputs)) guard) (IsGuard (length s.inputs) 0)
guard_kept fit s None few small tests = λ g e. absurd (cc)
guard_kept fit s (Some guard) few small tests = λ g e.
    let same : guard_of (scope_of s) (length s.inputs) guard ≡ g = cc in
    subst (IsGuard (length s.inputs) 0) same (fit (scope_of s) (length s.inputs) guard few (small guard refl)
    (not_above (tests_of guard) 64 (if_none (nat_lt 64 (tests_of guard)) (Limit which.Comparisons) tests)))

partial_row : GuardsFit → (s : Declared) (f : RowForm) → IsPartial s → is_formed (length s.outputs) (Some (form.Row f)) ≡ true
    → IsSmallTableForm (form.Row f) → comparisons_check (form.Row f) ≡ None → names_check s (form.Row f) ≡ None
    → count_check s (form.Row f) ≡ None → IsPartial (next s (form.Row f))
partial_row fit s f p formed small tests names count =
    let a = or_none (state_check s f.from) (option_or (when_check s f.guard) (state_check s f.to)) names in
    let b = or_none (when_check s f.guard) (state_check s f.to) a.1 in
    record {
      few = record {
        inputs = p.few.inputs;
        outputs = p.few.outputs;
        states = p.few.states;
        rows = one_more s.rows (row_in s f) 4096 (below (length s.rows) 4096 (if_none (nat_le 4096 (length s.rows)) (Limit which.Rows) count));
      };
      ranges = p.ranges;
      replies = p.replies;
      moves = push (IsRow (length s.inputs) (length s.outputs) (length s.states)) s.rows (row_in s f) p.moves (record {
        from = found s f.from a.0;
        to = found s f.to b.1;
        reply = length-map f.reply forms.value_of ∙ same_count (length f.reply) (length s.outputs) formed;
        guard = guard_kept fit s f.guard p.few.inputs small.1 tests;
      });
      states_behind = λ h. omega arith;
      rows_behind = λ h. omega arith;
    }

pub partial_said : GuardsFit → (s : Declared) (said : TableForm) → IsPartial s → IsPlaced s said → IsSmallTableForm said → IsPartial (next s said)
partial_said fit s (form.Version n) p h small =
    record {
      few = record { inputs = p.few.inputs; outputs = p.few.outputs; states = p.few.states; rows = p.few.rows };
      ranges = p.ranges;
      replies = p.replies;
      moves = p.moves;
      states_behind = p.states_behind;
      rows_behind = p.rows_behind;
    }
partial_said fit s (form.Input f) p h small =
    let b = or_none (names_check s (form.Input f)) (option_or (range_check (form.Input f)) (count_check s (form.Input f))) h.passes in
    let c = or_none (range_check (form.Input f)) (count_check s (form.Input f)) b.1 in
    partial_input s f p (h.order refl) small c.0 c.1
partial_said fit s (form.Output name) p h small =
    let b = or_none (names_check s (form.Output name)) (count_check s (form.Output name)) h.passes in
    partial_output s name p (h.order refl) b.1
partial_said fit s (form.State f) p h small =
    let b = or_none (names_check s (form.State f)) (count_check s (form.State f)) h.passes in
    partial_state s f p (h.order refl) h.formed b.1
partial_said fit s (form.Row f) p h small =
    let a = or_none (comparisons_check (form.Row f)) (option_or (names_check s (form.Row f)) (count_check s (form.Row f))) h.passes in
    let b = or_none (names_check s (form.Row f)) (count_check s (form.Row f)) a.1 in
    partial_row fit s f p h.formed small a.0 b.0 b.1

-- what a line says is small
abbrev pub IsSmallAll : Type 0
IsSmallAll = (line : List ℕ) (parsed : ParsedLine TableForm) → IsTableLine line (Ok (Some parsed)) → ForSome parsed.form IsSmallTableForm

partial_form : IsSmallAll → GuardsFit → (s : Declared) (line : List ℕ) (parsed : ParsedLine TableForm) (o : Option TableForm) → parsed.form ≡ o
    → IsPartial s → IsTableLine line (Ok (Some parsed)) → line_check s parsed ≡ None → IsPartial (some_next s o)
partial_form small fit s line parsed None e p is none = p
partial_form small fit s line parsed (Some said) e p is none =
    partial_said fit s said p (placed s line parsed said is e none) (small line parsed is said e)

pub keeps : IsSmallAll → GuardsFit → (s t : Declared) (line : List ℕ) → IsPartial s → TakesRow s line (Ok t) → IsPartial t
keeps small fit s t line p taken = taken_keeps IsTableForm line_check (λ u parsed. some_next u parsed.form) IsPartial
    (λ u line parsed p is none. partial_form small fit u line parsed parsed.form refl p is none) s t line p taken

pub nothing_read : IsPartial start
nothing_read = record {
  few = record { inputs = omega arith; outputs = omega arith; states = omega arith; rows = omega arith };
  ranges = All-nil HasRange;
  replies = All-nil (λ (state : TableState). length state.reply ≡ 0);
  moves = All-nil (IsRow 0 0 0);
  states_behind = λ h. absurd (omega arith);
  rows_behind = λ h. absurd (omega arith);
}

-- what a line leads to, by what it says
pub takes_after : (s t : Declared) (line : List ℕ) (parsed : ParsedLine TableForm) (result : Result (Unit {0}) (LineError Refusal))
    → IsTableLine line (Ok (Some parsed)) → Declares (line_check s parsed) (some_next s parsed.form) t result → Takes TakesRow s t line result
takes_after s t line parsed (Ok u) is d = (Ok (Some parsed), is, d.0, d.1)
takes_after s t line parsed (Err (Refused refusal)) is d = (Ok (Some parsed), is, d)
takes_after s t line parsed (Err Memory) is d = tt

pub kept_after : IsSmallAll → GuardsFit → (s t : Declared) (line : List ℕ) (parsed : ParsedLine TableForm)
    (result : Result (Unit {0}) (LineError Refusal)) → IsPartial s → IsTableLine line (Ok (Some parsed))
    → Declares (line_check s parsed) (some_next s parsed.form) t result → OnOk result (IsPartial t)
kept_after small fit s t line parsed (Ok u) p is d = subst IsPartial (sym d.1) (partial_form small fit s line parsed parsed.form refl p is d.0)
kept_after small fit s t line parsed (Err error) p is d = tt
