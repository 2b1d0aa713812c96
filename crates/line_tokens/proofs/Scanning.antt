use Rattle.std.proofs.Common.{◌≡◌, ℕ, zero, suc, ◌+◌, ◌-◌, ◌<◌, ◌≤◌, Bool, true, false, not, List, [], ◌∷◌, ◌++◌, length, take, drop, cond, None}
use Rattle.std.proofs.Common.{refl, sym, ◌∙◌, ap, subst, arith, append_assoc, ◌⊎◌, inl, inr}
use Rattle.std.specs.List.{prefix_len, list_all}
use Rattle.std.proofs.lemmas.List.{take_all, drop-drop, length-drop, append-nil}
use Rattle.std.proofs.lemmas.Bool.{cases_lt, cases_eq}
use Rattle.line_tokens.specs.declared.span.Span.{Span}
use Rattle.line_tokens.specs.Spelling.{starts, is_blank, is_symbol_byte, is_before_equals, is_token}
use Rattle.lin_form.specs.Name.{starts_name}
use Rattle.std.specs.Char.{is_ascii_digit}
use Rattle.line_tokens.specs.Tokens.{IsLongestToken, FindsLongest, HasSpans, IsFirstToken}
use Rattle.line_tokens.proofs.Words.{true_false, no_symbol, symbol_at, run_passes, run_stops, and_first, and_second}

blank_no_letter : (b : ℕ) → is_blank b ≡ true → starts_name b ≡ false
blank_no_letter b h = grind arith

blank_no_digit : (b : ℕ) → is_blank b ≡ true → is_ascii_digit b ≡ false
blank_no_digit b h = grind arith

blank_no_symbol : (b : ℕ) → is_blank b ≡ true → is_symbol_byte b ≡ false
blank_no_symbol b h = grind arith

blank_not_before : (b : ℕ) → is_blank b ≡ true → is_before_equals b ≡ false
blank_not_before b h = grind arith

blank_no_token : (b : ℕ) (bs : List ℕ) → is_blank b ≡ true → is_token (b ∷ bs) ≡ false
blank_no_token b bs h = symbol_at b bs (blank_no_letter b h) (blank_no_digit b h) ∙ no_symbol b bs (blank_no_symbol b h) (blank_not_before b h)

not_true : (b : Bool) → (b ≡ true → ⊥) → not b ≡ true
not_true true h = absurd (h refl)
not_true false h = refl

-- a token's first byte is no blank
starts_token : (xs : List ℕ) (n : ℕ) → IsLongestToken xs n → starts (λ b. not (is_blank b)) xs ≡ true
starts_token xs zero t = absurd (let h = t.some in omega arith)
starts_token [] (suc n) t = absurd (let h = t.within in omega arith)
starts_token (b ∷ bs) (suc n) t = not_true (is_blank b) (λ h. true_false (sym t.token ∙ blank_no_token b (take n bs) h))

longest_apart : (xs : List ℕ) (m n : ℕ) → IsLongestToken xs m → IsLongestToken xs n → (m < n) ⊎ (n ≤ m) → (m ≡ n → ⊥) → ⊥
longest_apart xs m n s t (inl less) other = s.longest n less t.within t.token
longest_apart xs m n s t (inr more) other = t.longest m (omega arith) s.within s.token

longest_by : (xs : List ℕ) (m n : ℕ) → IsLongestToken xs m → IsLongestToken xs n → (m ≡ n) ⊎ (m ≡ n → ⊥) → m ≡ n
longest_by xs m n s t (inl same) = same
longest_by xs m n s t (inr other) = absurd (longest_apart xs m n s t (cases_lt m n) other)

-- one longest token stands at the front
longest_one : (xs : List ℕ) (m n : ℕ) → IsLongestToken xs m → IsLongestToken xs n → m ≡ n
longest_one xs m n s t = longest_by xs m n s t (cases_eq m n)

-- the bytes at the front that pass are those before the first that does not
prefix_none : (p : ℕ → Bool) (y : ℕ) (ys : List ℕ) (b : Bool) → p y ≡ b → not (p y) ≡ true → cond (p y) (1 + prefix_len p ys) 0 ≡ 0
prefix_none p y ys true e h = absurd (true_false (sym h ∙ ap not e))
prefix_none p y ys false e h = rw e refl

prefix_is : (p : ℕ → Bool) (k : ℕ) (ys : List ℕ) → list_all p (take k ys) ≡ true → starts (λ b. not (p b)) (drop k ys) ≡ true → prefix_len p ys ≡ k
prefix_is p zero [] all h = absurd (true_false (sym h))
prefix_is p zero (y ∷ ys) all h = prefix_none p y ys (p y) refl h
prefix_is p (suc k) [] all h = absurd (true_false (sym h))
prefix_is p (suc k) (y ∷ ys) all h = rw (
  and_first (p y) (list_all p (take k ys)) all,
  prefix_is p k ys (and_second (p y) (list_all p (take k ys)) all) h,
) (omega arith)

-- where all pass, none that does not stands anywhere
all_pass : (p : ℕ → Bool) (k : ℕ) (ys : List ℕ) → list_all p ys ≡ true → starts (λ b. not (p b)) (drop k ys) ≡ true → ⊥
all_pass p zero [] all h = true_false (sym h)
all_pass p zero (y ∷ ys) all h = true_false (sym h ∙ ap not (and_first (p y) (list_all p ys) all))
all_pass p (suc k) [] all h = true_false (sym h)
all_pass p (suc k) (y ∷ ys) all h = all_pass p k ys (and_second (p y) (list_all p ys) all) h

drop_on : (line : List ℕ) (at from : ℕ) → at ≤ from → drop (from - at) (drop at line) ≡ drop from line
drop_on line at from le = let e : at + (from - at) ≡ from = omega arith in drop-drop (from - at) at line ∙ ap (λ k. drop k line) e

starts_on : (line : List ℕ) (at from n : ℕ) → at ≤ from → IsLongestToken (drop from line) n → starts (λ b. not (is_blank b)) (drop (from - at) (drop at line)) ≡ true
starts_on line at from n le t = rw (drop_on line at from le) (starts_token (drop from line) n t)

-- the first token from a byte on stands behind the blanks there
token_from : (line : List ℕ) (at from n : ℕ) → at ≤ from → list_all is_blank (take (from - at) (drop at line)) ≡ true
    → IsLongestToken (drop from line) n → from ≡ at + prefix_len is_blank (drop at line)
token_from line at from n le blank t = let e = prefix_is is_blank (from - at) (drop at line) blank (starts_on line at from n le t) in omega (arith, e)

-- where a token or a fault stands behind the blanks, not all is blank
not_blank : (line : List ℕ) (at : ℕ) → at + prefix_len is_blank (drop at line) < length line → list_all is_blank (drop at line) ≡ true → ⊥
not_blank line at less all = true_false (sym all ∙ ap (list_all is_blank) (sym (take_all (length (drop at line)) (drop at line) (omega arith)))
    ∙ run_stops is_blank (drop at line) (length (drop at line)) (rw (length-drop at line) (omega arith)) (omega arith))

pub fault_none : (line : List ℕ) (at : ℕ) → at + prefix_len is_blank (drop at line) < length line
    → FindsLongest (drop (at + prefix_len is_blank (drop at line)) line) None → (ps : List Span) → HasSpans line at ps → ⊥
fault_none line at less none [] h = not_blank line at less h
fault_none line at less none (q ∷ qs) h =
    let e = token_from line at q.from (q.to - q.from) h.0 h.2 h.3 in
    let P : ℕ → Type 0 = λ k. IsLongestToken (drop k line) (q.to - q.from) in
    let t = subst P e h.3 in none (q.to - q.from) t.within t.token

pub end_blank : (line : List ℕ) (at : ℕ) → at ≤ length line → length line ≤ at + prefix_len is_blank (drop at line) → list_all is_blank (drop at line) ≡ true
end_blank line at le more = let few = length-drop at line in
    ap (list_all is_blank) (sym (take_all (prefix_len is_blank (drop at line)) (drop at line) (rw few (omega arith)))) ∙ run_passes is_blank (drop at line)

pub first_place : (line : List ℕ) (at k : ℕ) → at + prefix_len is_blank (drop at line) < length line
    → IsLongestToken (drop (at + prefix_len is_blank (drop at line)) line) k
    → IsFirstToken line at (record { from = at + prefix_len is_blank (drop at line); to = at + prefix_len is_blank (drop at line) + k })
first_place line at k less t =
    let n : ℕ = prefix_len is_blank (drop at line) in
    let width : at + n - at ≡ n = omega arith in
    let size : at + n + k - (at + n) ≡ k = omega arith in
    let some : 0 < k = t.some in
    let fits : k ≤ length (drop (at + n) line) = t.within in
    let left = length-drop (at + n) line in
    record {
      after = omega arith;
      some = omega arith;
      within = omega (arith, left, fits);
      blank = ap (λ j. list_all is_blank (take j (drop at line))) width ∙ run_passes is_blank (drop at line);
      longest = let P : ℕ → Type 0 = λ j. IsLongestToken (drop (at + n) line) j in subst P (sym size) t;
    }

-- behind the first token stand the others
pub first_only : (line : List ℕ) (at : ℕ) (p : Span) → IsFirstToken line at p → (ps : List Span) → HasSpans line at ps
    → (rest : List Span) × (ps ≡ p ∷ rest) × HasSpans line p.to rest
first_only line at p f [] h = absurd (all_pass is_blank (p.from - at) (drop at line) h (starts_on line at p.from (p.to - p.from) f.after f.longest))
first_only line at p f (q ∷ qs) h =
    let from : q.from ≡ p.from = token_from line at q.from (q.to - q.from) h.0 h.2 h.3
    ∙ sym (token_from line at p.from (p.to - p.from) f.after f.blank f.longest) in
    let P : ℕ → Type 0 = λ k. IsLongestToken (drop k line) (q.to - q.from) in
    let long : q.to - q.from ≡ p.to - p.from = longest_one (drop p.from line) (q.to - q.from) (p.to - p.from) (subst P from h.3) f.longest in
    let some : q.from < q.to = h.1 in
    let more : p.from < p.to = f.some in
    let to : q.to ≡ p.to = omega (arith, from, long, some, more) in
    let same : q ≡ p = λ i. record { from = from i; to = to i } in
    let Q : ℕ → Type 0 = λ k. HasSpans line k qs in
    (qs, ap (λ x. x ∷ qs) same, subst Q to h.4)

-- the spans found are the tokens' before the byte `at`
pub record IsScanned (line : List ℕ) (at : ℕ) (found : List Span) : Type 0 where
  pub within : at ≤ length line
  pub back : (rest : List Span) → HasSpans line at rest → HasSpans line 0 (found ++ rest)
  pub only : (all : List Span) → HasSpans line 0 all → (rest : List Span) × (all ≡ found ++ rest) × HasSpans line at rest

pub scanned_none : (line : List ℕ) → IsScanned line 0 []
scanned_none line = record { within = omega arith; back = λ rest h. h; only = λ all h. (all, refl, h) }

pub scanned_more : (line : List ℕ) (at : ℕ) (found : List Span) (p : Span) → IsScanned line at found → IsFirstToken line at p
    → IsScanned line p.to (found ++ p ∷ [])
scanned_more line at found p s f = record {
  within = f.within;
  back = λ rest h. let P : List Span → Type 0 = λ ps. HasSpans line 0 ps in
      subst P (sym (append_assoc found (p ∷ []) rest)) (s.back (p ∷ rest) (f.after, f.some, f.blank, f.longest, h));
  only = λ all h. let r = s.only all h in let o = first_only line at p f r.0 r.2 in
      (o.0, r.1 ∙ ap (λ ps. found ++ ps) o.1 ∙ sym (append_assoc found (p ∷ []) o.0), o.2);
}

pub scanned_end : (line : List ℕ) (at : ℕ) (found : List Span) → IsScanned line at found → list_all is_blank (drop at line) ≡ true → HasSpans line 0 found
scanned_end line at found s end = let P : List Span → Type 0 = λ ps. HasSpans line 0 ps in subst P (append-nil found) (s.back [] end)

pub scanned_fault : (line : List ℕ) (at : ℕ) (found : List Span) → IsScanned line at found → ((ps : List Span) → HasSpans line at ps → ⊥)
    → (ps : List Span) → HasSpans line 0 ps → ⊥
scanned_fault line at found s none ps h = let r = s.only ps h in none r.0 r.2
