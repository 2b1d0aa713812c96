-- The place of a line among the groups, and what a line that passes its checks keeps.
use Rattle.std.proofs.Common.{◌≡◌, ℕ, ◌≤◌, Bool, true, false, ◌||◌, ◌&&◌, not, List, ◌∷◌, Option, Some, None, refl, sym, ap, subst, arith}
use Rattle.std.specs.Prelude.{if◌then◌else◌, ◌==◌, nat_lt, Result, Ok, Err, OnOk}
use Rattle.std.proofs.lemmas.Bool.Decides.{nat_tests}
use Rattle.line_forms.specs.declared.lexeme.Lexeme.{Lexeme}
use Rattle.line_forms.specs.declared.keyword.Keyword.{Keyword}
use Rattle.line_forms.specs.declared.keyword.Keyword.TheVariants as keyword
use Rattle.line_forms.specs.declared.statement.Statement.{Statement}
use Rattle.line_forms.specs.declared.statement.Statement.TheVariants as says
use Rattle.line_forms.specs.declared.parsed.ParsedLine.{ParsedLine}
use Rattle.line_forms.specs.Forms.{IsStatement, IsHistory, reserved_in, reserved_at}
use Rattle.line_forms.specs.Parsing.{AreParsed, Says}
use Rattle.line_forms.specs.Limits.{IsSmallStatement}
use Rattle.chart_syntax.specs.declared.reader.Reader.{Reader}
use Rattle.chart_syntax.specs.declared.error.Kind.TheVariants as kind
use Rattle.chart_syntax.specs.declared.error.Refusal.{Refusal}
use Rattle.chart_syntax.specs.declared.error.Refusal.TheVariants.{Fault}
use Rattle.text_lines.specs.declared.read.LineError.{LineError}
use Rattle.std.specs.Option.{ForSome, option_or}
use Rattle.chart_syntax.specs.Checks.{first_of, checks, version_check, word_check, first_word_check, order_check, form_check, comparisons_check}
use Rattle.chart_syntax.specs.Checks.{names_check, range_check, start_check, count_check, next_form, next}
use Rattle.chart_syntax.specs.inside.Answers.{Takes}
use Rattle.chart_syntax.specs.inside.Promises.{IsPartial}
use Rattle.chart_syntax.proofs.CallerLemmas.{or_none}
use Rattle.chart_syntax.proofs.Fresh.{if_none}
use Rattle.chart_syntax.proofs.Partial.{IsPlaced, partial_statement}

-- the checks of a line's first word, by its group
abbrev heads : ℕ → Bool → ℕ → ℕ → Option Refusal
heads version stated m group = option_or (if version == 0 && not stated then Some (Fault kind.Version) else None)
    (option_or (if not (version == 0) && m == 0 then Some (Fault kind.NoSuchLine) else None)
    (if not (version == 0) && nat_lt m group then Some (Fault kind.Misplaced) else None))

order_if : (b : Bool) (m group : ℕ) → option_or (if b && true then Some (Fault kind.Version) else None)
    (option_or (if not b && m == 0 then Some (Fault kind.NoSuchLine) else None)
    (if not b && nat_lt m group then Some (Fault kind.Misplaced) else None)) ≡ None → group ≤ m
order_if true m group e = absurd (cc)
order_if false m group e =
    let h = or_none (if m == 0 then Some (Fault kind.NoSuchLine) else None) (if nat_lt m group then Some (Fault kind.Misplaced) else None) e in
    let f = if_none (nat_lt m group) (Fault kind.Misplaced) h.1 in
    grind (arith, nat_tests)

-- a later line stands after no line of a later group
in_order : (version m group : ℕ) → heads version false m group ≡ None → group ≤ m
in_order version m group e = order_if (version == 0) m group e

stated_if : (b : Bool) (stated : Bool) (group : ℕ) → option_or (if b && not stated then Some (Fault kind.Version) else None)
    (option_or (if not b && true then Some (Fault kind.NoSuchLine) else None) (if not b && nat_lt 0 group then Some (Fault kind.Misplaced)
    else None)) ≡ None → stated ≡ true
stated_if true true group e = refl
stated_if true false group e = absurd (cc)
stated_if false stated group e = absurd (cc)

small_if : (n : ℕ) (a b c : Bool) → (n == 1) ≡ a → (n == 2) ≡ b → (n == 3) ≡ c → (a || b || c) ≡ true → n ≤ 3
small_if n true b c e f g h = grind (arith, nat_tests)
small_if n false true c e f g h = grind (arith, nat_tests)
small_if n false false true e f g h = grind (arith, nat_tests)
small_if n false false false e f g h = absurd (cc)

small_version : (n : ℕ) → (n == 1 || n == 2 || n == 3) ≡ true → n ≤ 3
small_version n h = small_if n (n == 1) (n == 2) (n == 3) refl refl refl h

group_if : (b : Bool) → (if b then 0 else 2) ≤ 2
group_if true = omega arith
group_if false = omega arith

alone : (ts : List Lexeme) (i : ℕ) (target : Option (List ℕ)) (history : Bool) → IsHistory ts i target history → target ≡ None → history ≡ false
alone ts i None history h e = h
alone ts i (Some name) history h e = absurd (cc)

abbrev head_check : Reader → ParsedLine Statement → Option Refusal
head_check s l = option_or (version_check s.version l.form) (option_or (word_check s.version l.head) (order_check s l))

-- the checks of a line's first word, one after the other
heads_pass : (s : Reader) (l : ParsedLine Statement) → first_word_check s l ≡ None → order_check s l ≡ None → head_check s l ≡ None
heads_pass s l e h = let a = or_none (version_check s.version l.form) (word_check s.version l.head) e in rw (a.0, a.1, h) refl

by_head : (s : Reader) (ts : List Lexeme) (said : Statement) (k : Keyword) → reserved_at ts 0 ≡ Some k
    → head_check s (record { head = reserved_at ts 0; form = Some said }) ≡ None
    → head_check s (record { head = Some k; form = Some said }) ≡ None
by_head s ts said k e h = subst (λ o. head_check s (record { head = o; form = Some said }) ≡ None) e h

pub placed : (s : Reader) (ts : List Lexeme) (said : Statement) → IsStatement ts said
    → head_check s (record { head = reserved_at ts 0; form = Some said }) ≡ None → IsPlaced s said
placed s ts (says.Chart n) h e = small_version n (stated_if (s.version == 0) (n == 1 || n == 2 || n == 3) s.group
    (by_head s ts (says.Chart n) keyword.Chart (ap reserved_in h.0) e))
placed s ts (says.Input f) h e = in_order s.version 1 s.group (by_head s ts (says.Input f) keyword.Input (ap reserved_in h.0) e)
placed s ts (says.Assume t) h e =
    let o = in_order s.version (if s.version == 1 then 0 else 2) s.group (by_head s ts (says.Assume t) keyword.Assume (ap reserved_in h.0) e) in
    let g = group_if (s.version == 1) in
    (omega (arith, o, g), h.2)
placed s ts (says.Output f) h e = in_order s.version 3 s.group (by_head s ts (says.Output f) keyword.Output (ap reserved_in h.0) e)
placed s ts (says.Memory f) h e = in_order s.version 4 s.group (by_head s ts (says.Memory f) keyword.Memory (ap reserved_in h.0) e)
placed s ts (says.State f) h e = in_order s.version 5 s.group (by_head s ts (says.State f) keyword.State (ap reserved_in h.0) e)
placed s ts (says.Entry f) h e = tt
placed s ts (says.Exit f) h e = tt
placed s ts (says.On f) h e = alone ts _ f.target f.history h.history

after_last : (a : Option Refusal) → option_or a None ≡ None → a ≡ None
after_last None e = refl
after_last (Some r) e = absurd (cc)

partial_form : (s : Reader) (head : Option Keyword) (form : Option Statement) (ts : List Lexeme) → IsPartial s
    → AreParsed IsStatement ts (record { head = head; form = form }) → ForSome form IsSmallStatement
    → first_of checks s (record { head = head; form = form }) ≡ None → IsPartial (next_form s form)
partial_form s head None ts p parsed small pass = p
partial_form s head (Some said) ts p parsed small pass =
    let l : ParsedLine Statement = record { head = head; form = Some said } in
    let r4 = option_or (count_check s said) None in
    let r3 = option_or (start_check s said) r4 in
    let r2 = option_or (range_check s said) r3 in
    let r1 = option_or (names_check s said) r2 in
    let r0 = option_or (comparisons_check s said) r1 in
    let first = or_none (first_word_check s l) (option_or (order_check s l) (option_or (form_check s l) r0)) pass in
    let later = or_none (order_check s l) (option_or (form_check s l) r0) first.1 in
    let b = or_none (form_check s l) r0 later.1 in
    let c = or_none (comparisons_check s said) r1 b.1 in
    let d = or_none (names_check s said) r2 c.1 in
    let e = or_none (range_check s said) r3 d.1 in
    let f = or_none (start_check s said) r4 e.1 in
    let h : head_check s (record { head = reserved_at ts 0; form = Some said }) ≡ None =
    subst (λ o. head_check s (record { head = o; form = Some said }) ≡ None) parsed.head (heads_pass s l first.0 later.0) in
    partial_statement s said p (placed s ts said parsed.form h) (small said refl) c.0 d.0 e.0 f.0 (after_last (count_check s said) f.1)

-- a line that passes its checks keeps the promises
pub partial_parsed_line : (s : Reader) (l : ParsedLine Statement) (ts : List Lexeme) → IsPartial s → AreParsed IsStatement ts l → ForSome l.form IsSmallStatement → first_of checks s l ≡ None
    → IsPartial (next_form s l.form)
partial_parsed_line s l ts p parsed small pass = partial_form s l.head l.form ts p parsed small pass

-- a line that is taken keeps the promises
pub line_partial : (s t : Reader) (l : ParsedLine Statement) (line : List ℕ) (result : Result (Unit {0}) (LineError Refusal)) → IsPartial s → Says (AreParsed IsStatement) line l
    → ForSome l.form IsSmallStatement → Takes checks next s t l result → OnOk result (IsPartial t)
line_partial s t l line (Ok u) p said small takes = subst IsPartial (sym takes.1) (partial_parsed_line s l (said.first ∷ said.more) p said.says small takes.0)
line_partial s t l line (Err e) p said small takes = tt
