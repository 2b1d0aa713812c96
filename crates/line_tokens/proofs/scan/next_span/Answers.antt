use Rattle.std.proofs.Common.{◌≡◌, ◌+◌, ◌-◌, ◌<◌, ◌≤◌, ℕ, List, length, take, drop, None, sym, ◌∙◌, ap, subst}
use Rattle.std.proofs.lemmas.List.{take_rest}
use Rattle.std.specs.List.{prefix_len}
use Rattle.line_tokens.specs.declared.span.Span.{Span}
use Rattle.line_tokens.specs.Spelling.{is_blank}
use Rattle.line_tokens.specs.Tokens.{IsLongestToken, FindsLongest, HasSpans, IsFirstToken}
use Rattle.line_tokens.proofs.Scanning.{end_blank, fault_none, first_place}
use Rattle.line_tokens.proofs.scan.next_span.Goals as goal

blank_count : (line : List ℕ) (at n : ℕ) → n ≡ prefix_len is_blank (take (length line - at) (drop at line)) → prefix_len is_blank (drop at line) ≡ n
blank_count line at n e = sym (e ∙ ap (prefix_len is_blank) (take_rest line at))

none_here : (line : List ℕ) (at n : ℕ) → prefix_len is_blank (drop at line) ≡ n → at + n < length line
    → FindsLongest (take (length line - (at + n)) (drop (at + n) line)) None → (ps : List Span) → HasSpans line at ps → ⊥
none_here line at n e less h =
    let P : ℕ → Type 0 = λ k. at + k < length line → FindsLongest (drop (at + k) line) None → (ps : List Span) → HasSpans line at ps → ⊥ in
    let Q : List ℕ → Type 0 = λ xs. FindsLongest xs None in
    subst P e (fault_none line at) less (subst Q (take_rest line (at + n)) h)

found_here : (line : List ℕ) (at n k : ℕ) → prefix_len is_blank (drop at line) ≡ n → at + n < length line
    → IsLongestToken (take (length line - (at + n)) (drop (at + n) line)) k → IsFirstToken line at (record { from = at + n; to = at + n + k })
found_here line at n k e less h =
    let P : ℕ → Type 0 = λ j. at + j < length line → IsLongestToken (drop (at + j) line) k → IsFirstToken line at (record { from = at + j; to = at + j + k }) in
    let Q : List ℕ → Type 0 = λ xs. IsLongestToken xs k in
    subst P e (first_place line at k) less (subst Q (take_rest line (at + n)) h)

pub returns-then-from-line : goal.returns-then-from-line
returns-then-from-line c =
    let P : ℕ → Type 0 = λ n. length c.args.line.now ≤ c.args.at + n in
    end_blank c.args.line.now c.args.at c.requires
    (subst P (sym (blank_count c.args.line.now c.args.at c.blanks.result c.blanks.ensures.count)) c.if-from-line.true)

pub returns-in-None : goal.returns-in-None
returns-in-None c = none_here c.args.line.now c.args.at c.blanks.result
    (blank_count c.args.line.now c.args.at c.blanks.result c.blanks.ensures.count) c.if-from-line.false c.in-None.ensures.found

pub returns-in-Some : goal.returns-in-Some
returns-in-Some c = found_here c.args.line.now c.args.at c.blanks.result c.in-Some.length
    (blank_count c.args.line.now c.args.at c.blanks.result c.blanks.ensures.count) c.if-from-line.false c.in-Some.ensures.found
