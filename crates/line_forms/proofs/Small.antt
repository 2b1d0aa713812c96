-- What the lexemes of a line keep, and what a statement keeps that derives from them: small numbers, names that are free, few terms and few `not`s.
use Rattle.std.proofs.Common.{◌≡◌, ℕ, zero, suc, ◌+◌, ◌*◌, ◌≤◌, Bool, true, false, List, [], ◌∷◌, length, map, Option, Some, None, refl, sym, ◌∙◌}
use Rattle.std.proofs.Common.{ap, subst, arith}
use Rattle.std.specs.Prelude.{if◌then◌else◌, ◌==◌, nat_le, slice_get, unsigned_abs, option_map}
use Rattle.std.specs.List.{All}
use Rattle.std.specs.Option.{ForSome}
use Rattle.std.proofs.lemmas.Bool.Decides.{nat_tests}
use Rattle.std.proofs.lemmas.List.Elements.{All-nil, All-cons}
use Rattle.std.proofs.lemmas.Option.{slice_get_within}
use Rattle.line_tokens.specs.declared.token.Token.{Token}
use Rattle.line_tokens.specs.declared.token.Word.{Word}
use Rattle.line_tokens.specs.declared.token.Word.TheVariants as word
use Rattle.line_tokens.specs.Tokens.{spelling}
use Rattle.line_tokens.specs.Lines.{content_of}
use Rattle.line_forms.specs.declared.keyword.Keyword.{Keyword}
use Rattle.line_forms.specs.declared.keyword.Keyword.TheVariants as keyword
use Rattle.line_forms.specs.declared.lexeme.Lexeme.{Lexeme}
use Rattle.line_forms.specs.declared.lexeme.Lexeme.TheVariants.{Reserved, Named, Number, Wide, Comma, Close}
use Rattle.line_forms.specs.declared.statement.Signed.{Signed}
use Rattle.line_forms.specs.declared.statement.Signed.TheVariants.{Plain, Negated}
use Rattle.line_forms.specs.declared.statement.Term.{Term}
use Rattle.line_forms.specs.declared.statement.Term.TheVariants as term
use Rattle.line_forms.specs.declared.statement.SignedTerm.{SignedTerm}
use Rattle.line_forms.specs.declared.statement.TestForm.{TestForm}
use Rattle.line_forms.specs.declared.statement.ActionForm.{ActionForm}
use Rattle.line_forms.specs.declared.statement.Statement.{Statement}
use Rattle.line_forms.specs.declared.statement.Statement.TheVariants as says
use Rattle.line_forms.specs.Trees as tree
use Rattle.line_forms.specs.Trees.{Tree}
use Rattle.line_forms.specs.Lexemes.{keyword_of, name_meaning, symbol_of, meaning_of, lexeme_of, IsLexed}
use Rattle.line_forms.specs.Grammar.{Has, IsTerm, term_size, AreTerms, terms_size, IsFirst, first_size, IsSum, sum_size, IsTest, IsActionText}
use Rattle.line_forms.specs.Grammar.{action_size, IsEach, Guard, Conj, Unit', conj, or, unit, and, not, paren, test, IsGuardText, IsConj, IsUnit}
use Rattle.line_forms.specs.Grammar.{conj_size, unit_size, guard_tree, or_onto, conj_tree, and_onto, unit_tree}
use Rattle.line_forms.specs.Forms.{IsSigned, signed_size, IsWhen, IsStatement, AreNumbers}
use Rattle.line_forms.specs.Limits.{IsFree, IsSmallNumber, IsSmallTerm, AreSmallTerms, IsSmallTest, IsSmallAction, AreSmallTests, IsSmallGuard}
use Rattle.line_forms.specs.Limits.{IsSmallStatement}
use Rattle.line_forms.proofs.Nots.{few_nots}

abbrev pub IsPlain : Lexeme → Type 0
IsPlain (Named name) = IsFree name
IsPlain (Number n) = n ≤ 1000000
IsPlain other = Unit {0}

plain_name : (bytes : List ℕ) (k : Option Keyword) → keyword_of bytes ≡ k → IsPlain (name_meaning k bytes)
plain_name bytes None e = e
plain_name bytes (Some k) e = tt

plain_number : (n : ℕ) (b : Bool) → nat_le n 1000000 ≡ b → IsPlain (if b then Number n else Wide n)
plain_number n true e = grind (arith, nat_tests)
plain_number n false e = tt

plain_if : (b : Bool) (x y : Lexeme) → IsPlain x → IsPlain y → IsPlain (if b then x else y)
plain_if true x y p q = p
plain_if false x y p q = q

plain_symbol : (s : ℕ) → IsPlain (symbol_of s)
plain_symbol s =
    plain_if (s == 60) _ _ tt (plain_if (s == 61) _ _ tt (plain_if (s == 62) _ _ tt (plain_if (s == 188) _ _ tt (plain_if (s == 190) _ _ tt
    (plain_if (s == 161) _ _ tt (plain_if (s == 43) _ _ tt (plain_if (s == 45) _ _ tt (plain_if (s == 42) _ _ tt (plain_if (s == 40) _ _ tt
    (plain_if (s == 41) Close Comma tt tt))))))))))

plain_word : (w : Word) (bytes : List ℕ) → IsPlain (meaning_of w bytes)
plain_word word.Name bytes = plain_name bytes (keyword_of bytes) refl
plain_word (word.Number z) bytes = plain_number (unsigned_abs z) (nat_le (unsigned_abs z) 1000000) refl
plain_word (word.Symbol s) bytes = plain_symbol s

plain_at : (bytes : List ℕ) (tokens : List Token) (i : ℕ) (x : Lexeme) → Has (map (lexeme_of bytes) tokens) i x → IsPlain x
plain_at bytes [] i x e = cc
plain_at bytes (t ∷ tokens) zero x e = let same : lexeme_of bytes t ≡ x = cc in subst IsPlain same (plain_word t.word (spelling bytes t))
plain_at bytes (t ∷ tokens) (suc i) x e = plain_at bytes tokens i x e

abbrev pub ArePlain : List Lexeme → Type 0
ArePlain ts = (i : ℕ) (x : Lexeme) → Has ts i x → IsPlain x

pub plain_lexemes : (line : List ℕ) (ts : List Lexeme) → IsLexed line ts → ArePlain ts
plain_lexemes line ts h i x e = plain_at (content_of line) h.tokens i x (sym (ap (λ us. slice_get us i) h.mean) ∙ e)

pub small_signed : (ts : List Lexeme) (i : ℕ) (s : Signed) → ArePlain ts → IsSigned ts i s → IsSmallNumber s
small_signed ts i (Plain n) plain h = plain i (Number n) h
small_signed ts i (Negated n) plain h = plain (i + 1) (Number n) h.1

small_term : (ts : List Lexeme) (i : ℕ) (t : Term) → ArePlain ts → IsTerm ts i t → IsSmallTerm t
small_term ts i (term.Number n) plain h = plain i (Number n) h
small_term ts i (term.Scaled n a) plain h = plain i (Number n) h.0
small_term ts i (term.Named a) plain h = tt
small_term ts i (term.Multiplied a n) plain h = plain (i + 2) (Number n) h.2

small_terms : (ts : List Lexeme) (i : ℕ) (xs : List SignedTerm) → ArePlain ts → AreTerms ts i xs → AreSmallTerms xs
small_terms ts i [] plain h = All-nil (λ (t : SignedTerm). IsSmallTerm t.term)
small_terms ts i (x ∷ xs) plain h = All-cons (λ (t : SignedTerm). IsSmallTerm t.term) x xs (small_term ts (i + 1) x.term plain h.1)
    (small_terms ts (i + 1 + term_size x.term) xs plain h.2)

small_first : (ts : List Lexeme) (i : ℕ) (b : Bool) (t : Term) → ArePlain ts → IsFirst ts i b t → IsSmallTerm t
small_first ts i true t plain h = small_term ts (i + 1) t plain h.1
small_first ts i false t plain h = small_term ts i t plain h

small_sum : (ts : List Lexeme) (i : ℕ) (xs : List SignedTerm) → ArePlain ts → IsSum ts i xs → AreSmallTerms xs
small_sum ts i [] plain h = absurd h
small_sum ts i (x ∷ xs) plain h = All-cons (λ (t : SignedTerm). IsSmallTerm t.term) x xs (small_first ts i x.negated x.term plain h.0)
    (small_terms ts (i + first_size x.negated x.term) xs plain h.1)

-- what derives stands within the line

term_within : (ts : List Lexeme) (i : ℕ) (t : Term) → IsTerm ts i t → i + term_size t ≤ length ts
term_within ts i (term.Number n) h = let a = slice_get_within ts i (Number n) h in omega arith
term_within ts i (term.Scaled n a) h = let b = slice_get_within ts (i + 2) (Named a) h.2 in omega arith
term_within ts i (term.Named a) h = let b = slice_get_within ts i (Named a) h in omega arith
term_within ts i (term.Multiplied a n) h = let b = slice_get_within ts (i + 2) (Number n) h.2 in omega arith

terms_within : (ts : List Lexeme) (i : ℕ) (xs : List SignedTerm) → i ≤ length ts → AreTerms ts i xs → i + terms_size xs ≤ length ts
terms_within ts i [] le h = omega arith
terms_within ts i (x ∷ xs) le h =
    let a = terms_within ts (i + 1 + term_size x.term) xs (term_within ts (i + 1) x.term h.1) h.2 in
    omega (arith, a)

first_within : (ts : List Lexeme) (i : ℕ) (b : Bool) (t : Term) → IsFirst ts i b t → i + first_size b t ≤ length ts
first_within ts i true t h = let a = term_within ts (i + 1) t h.1 in omega (arith, a)
first_within ts i false t h = term_within ts i t h

sum_within : (ts : List Lexeme) (i : ℕ) (xs : List SignedTerm) → IsSum ts i xs → i + sum_size xs ≤ length ts
sum_within ts i [] h = absurd h
sum_within ts i (x ∷ xs) h =
    let a = terms_within ts (i + first_size x.negated x.term) xs (first_within ts i x.negated x.term h.0) h.1 in
    omega (arith, a)

-- how few terms stand in so few lexemes

wide_term : (t : Term) → 1 ≤ term_size t
wide_term (term.Number n) = omega arith
wide_term (term.Scaled n a) = omega arith
wide_term (term.Named a) = omega arith
wide_term (term.Multiplied a n) = omega arith

few_terms : (xs : List SignedTerm) → 2 * length xs ≤ terms_size xs
few_terms [] = omega arith
few_terms (x ∷ xs) = let a = few_terms xs in let b = wide_term x.term in omega (arith, a, b)

wide_first : (b : Bool) (t : Term) → 1 ≤ first_size b t
wide_first true t = omega arith
wide_first false t = wide_term t

few_in_sum : (xs : List SignedTerm) → 2 * length xs ≤ sum_size xs + 1
few_in_sum [] = omega arith
few_in_sum (x ∷ xs) = let a = few_terms xs in let b = wide_first x.negated x.term in omega (arith, a, b)

pub small_test : (ts : List Lexeme) (i : ℕ) (t : TestForm) → ArePlain ts → length ts ≤ 1024 → IsTest ts i t → IsSmallTest t
small_test ts i t plain short h = record {
  few =
      let a = sum_within ts (i + sum_size t.left + 1) t.right h.2 in
      let b = few_in_sum t.left in
      let c = few_in_sum t.right in
      omega (arith, a, b, c);
  left = small_sum ts i t.left plain h.0;
  right = small_sum ts (i + sum_size t.left + 1) t.right plain h.2;
}

small_action : (ts : List Lexeme) (i : ℕ) (x : ActionForm) → ArePlain ts → length ts ≤ 1024 → IsActionText ts i x → IsSmallAction x
small_action ts i x plain short h = record {
  few =
      let a = sum_within ts (i + 2) x.sum h.2 in
      let b = few_in_sum x.sum in
      omega (arith, a, b);
  terms = small_sum ts (i + 2) x.sum plain h.2;
}

small_each : (ts : List Lexeme) (i : ℕ) (lead : Lexeme) (effect : List ActionForm) → ArePlain ts → length ts ≤ 1024 → IsEach ts i lead effect
    → All IsSmallAction effect
small_each ts i lead [] plain short h = All-nil IsSmallAction
small_each ts i lead (x ∷ more) plain short h = All-cons IsSmallAction x more (small_action ts (i + 1) x plain short h.1)
    (small_each ts (i + 1 + action_size x) Comma more plain short h.2)

mutual
  pub small_guard : (ts : List Lexeme) (i : ℕ) (g : Guard) → ArePlain ts → length ts ≤ 1024 → IsGuardText ts i g → AreSmallTests (guard_tree g)
  small_guard ts i (conj c) plain short p = small_conj ts i c plain short p
  small_guard ts i (or c g) plain short p = small_or ts (i + conj_size c + 1) (conj_tree c) g plain short (small_conj ts i c plain short p.0) p.2

  small_or : (ts : List Lexeme) (i : ℕ) (front : Tree) (g : Guard) → ArePlain ts → length ts ≤ 1024 → AreSmallTests front → IsGuardText ts i g
      → AreSmallTests (or_onto front g)
  small_or ts i front (conj c) plain short small p = (small, small_conj ts i c plain short p)
  small_or ts i front (or c g) plain short small p = small_or ts (i + conj_size c + 1) (tree.or front (conj_tree c)) g plain short
      (small, small_conj ts i c plain short p.0) p.2

  small_conj : (ts : List Lexeme) (i : ℕ) (c : Conj) → ArePlain ts → length ts ≤ 1024 → IsConj ts i c → AreSmallTests (conj_tree c)
  small_conj ts i (unit u) plain short p = small_unit ts i u plain short p
  small_conj ts i (and u c) plain short p = small_and ts (i + unit_size u + 1) (unit_tree u) c plain short (small_unit ts i u plain short p.0) p.2

  small_and : (ts : List Lexeme) (i : ℕ) (front : Tree) (c : Conj) → ArePlain ts → length ts ≤ 1024 → AreSmallTests front → IsConj ts i c
      → AreSmallTests (and_onto front c)
  small_and ts i front (unit u) plain short small p = (small, small_unit ts i u plain short p)
  small_and ts i front (and u c) plain short small p = small_and ts (i + unit_size u + 1) (tree.and front (unit_tree u)) c plain short
      (small, small_unit ts i u plain short p.0) p.2

  small_unit : (ts : List Lexeme) (i : ℕ) (u : Unit') → ArePlain ts → length ts ≤ 1024 → IsUnit ts i u → AreSmallTests (unit_tree u)
  small_unit ts i (not u) plain short p = small_unit ts (i + 1) u plain short p.1
  small_unit ts i (paren g) plain short p = small_guard ts (i + 1) g plain short p.1
  small_unit ts i (test t) plain short p = small_test ts i t plain short p

pub small_when : (line : List ℕ) (ts : List Lexeme) (w : Option Guard) (value : Option Tree) → IsLexed line ts → length ts ≤ 1024 → IsWhen ts 2 w
    → value ≡ option_map guard_tree w → ForSome value IsSmallGuard
small_when line ts None value lexed short p e = λ g h. absurd (let f : None ≡ Some g = sym e ∙ h in cc)
small_when line ts (Some w) value lexed short p e = λ g h.
    let f : Some (guard_tree w) ≡ Some g = sym e ∙ h in
    let same : guard_tree w ≡ g = cc in
    let small : IsSmallGuard (guard_tree w) = record {
      tests = small_guard ts 3 w (plain_lexemes line ts lexed) short p.1;
      nots = few_nots line ts 3 w lexed p.1;
    } in
    subst IsSmallGuard same small

pub small_statement : (line : List ℕ) (ts : List Lexeme) (s : Statement) → IsLexed line ts → length ts ≤ 1024 → IsStatement ts s → IsSmallStatement s
small_statement line ts (says.Chart n) lexed short h = tt
small_statement line ts (says.Input f) lexed short h = let plain = plain_lexemes line ts lexed in
    (plain 1 (Named f.name) h.1, small_signed ts _ f.lo plain h.2, small_signed ts _ f.hi plain h.3)
small_statement line ts (says.Assume t) lexed short h = small_test ts 1 t (plain_lexemes line ts lexed) short h.1
small_statement line ts (says.Output f) lexed short h = let plain = plain_lexemes line ts lexed in
    (plain 1 (Named f.name) h.1, small_signed ts _ f.value plain h.2)
small_statement line ts (says.Memory f) lexed short h =
    let plain = plain_lexemes line ts lexed in
    record {
      free = plain 1 (Named f.name) h.1;
      lo = small_signed ts _ f.lo plain h.2;
      hi = small_signed ts _ f.hi plain h.3;
      value = small_signed ts _ f.value plain h.4;
    }
small_statement line ts (says.State f) lexed short h = plain_lexemes line ts lexed 1 (Named f.name) h.1
small_statement line ts (says.Entry f) lexed short h = small_each ts 2 (Reserved keyword.Do) f.actions (plain_lexemes line ts lexed) short h.3
small_statement line ts (says.Exit f) lexed short h = small_each ts 2 (Reserved keyword.Do) f.actions (plain_lexemes line ts lexed) short h.3
small_statement line ts (says.On f) lexed short h = record {
  guard = small_when line ts h.when f.guard lexed short h.guarded h.guard;
  effect = small_each ts _ (Reserved keyword.Do) f.effect (plain_lexemes line ts lexed) short h.effect;
}

pub small_numbers : (ts : List Lexeme) (i : ℕ) (numbers : List Signed) → ArePlain ts → AreNumbers ts i numbers → All IsSmallNumber numbers
small_numbers ts i [] plain h = All-nil IsSmallNumber
small_numbers ts i (n ∷ more) plain h = All-cons IsSmallNumber n more (small_signed ts i n plain h.0) (small_numbers ts (i + signed_size n) more plain h.1)
