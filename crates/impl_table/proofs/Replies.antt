-- The numbers of a reply stand in one way.
use Rattle.std.proofs.Common.{◌≡◌, ℕ, ◌+◌, ◌<◌, List, [], ◌∷◌, ◌++◌, length, Option, Some, None, refl, sym, ◌∙◌, ap, subst, arith}
use Rattle.std.specs.Prelude.{slice_get}
use Rattle.std.proofs.lemmas.Option.{slice_get_within}
use Rattle.line_forms.specs.declared.keyword.Keyword.{Keyword}
use Rattle.line_forms.specs.declared.lexeme.Lexeme.{Lexeme}
use Rattle.line_forms.specs.declared.lexeme.Lexeme.TheVariants.{Reserved, Minus}
use Rattle.line_forms.specs.Grammar.{Has}
use Rattle.impl_table.specs.declared.form.ReplyNumber.{ReplyNumber}
use Rattle.impl_table.specs.declared.form.ReplyNumber.TheVariants.{Plain, Negated}
use Rattle.impl_table.specs.Forms.{literal_in, literal_at, IsReplyNumber, number_size, IsReply, reply_size}
use Rattle.impl_table.specs.inside.Runs.{Ends}

one_literal : (o : Option Lexeme) (n m : ℕ) → literal_in o ≡ Some n → literal_in o ≡ Some m → n ≡ m
one_literal o n m p q = let h : Some n ≡ Some m = sym p ∙ q in cc

-- no number begins with `-`
minus_no_literal : (ts : List Lexeme) (i n : ℕ) → Has ts i Minus → literal_at ts i ≡ Some n → ⊥
minus_no_literal ts i n h e = let p : None ≡ Some n = sym (ap literal_in h) ∙ e in cc

one_number : (ts : List Lexeme) (i : ℕ) (a b : ReplyNumber) → IsReplyNumber ts i a → IsReplyNumber ts i b → a ≡ b
one_number ts i (Plain n) (Plain m) p q = ap Plain (one_literal (slice_get ts i) n m p q)
one_number ts i (Plain n) (Negated m) p q = absurd (minus_no_literal ts i n q.0 p)
one_number ts i (Negated n) (Plain m) p q = absurd (minus_no_literal ts i m p.0 q)
one_number ts i (Negated n) (Negated m) p q = ap Negated (one_literal (slice_get ts (i + 1)) n m p.1 q.1)

pub moved : (ts : List Lexeme) (i j : ℕ) → i ≡ j → Ends ts i → Ends ts j
moved ts i j e h = subst (Ends ts) e h

-- where no number follows, the numbers are the same
pub one_reply : (ts : List Lexeme) (i : ℕ) (xs ys : List ReplyNumber) → IsReply ts i xs → IsReply ts i ys → Ends ts (i + reply_size xs)
    → Ends ts (i + reply_size ys) → xs ≡ ys
one_reply ts i [] [] p q s t = refl
one_reply ts i [] (y ∷ ys) p q s t = absurd (moved ts (i + 0) i (omega arith) s y q.0)
one_reply ts i (x ∷ xs) [] p q s t = absurd (moved ts (i + 0) i (omega arith) t x p.0)
one_reply ts i (x ∷ xs) (y ∷ ys) p q s t =
    let e = one_number ts i x y p.0 q.0 in
    let a = moved ts (i + (number_size x + reply_size xs)) (i + number_size x + reply_size xs) (omega arith) s in
    let b = moved ts (i + (number_size y + reply_size ys)) (i + number_size y + reply_size ys) (omega arith) t in
    let h = one_reply ts (i + number_size x) xs ys p.1 (subst (λ n. IsReply ts (i + number_size n) ys) (sym e) q.1) a
    (subst (λ n. Ends ts (i + number_size n + reply_size ys)) (sym e) b) in
    λ j. e j ∷ h j

literal_is : (o : Option Lexeme) (n : ℕ) → literal_in o ≡ Some n → (x : Lexeme) × (o ≡ Some x)
literal_is None n e = absurd (cc)
literal_is (Some x) n e = (x, refl)

literal_within : (ts : List Lexeme) (i n : ℕ) → literal_at ts i ≡ Some n → i < length ts
literal_within ts i n e = let h = literal_is (slice_get ts i) n e in slice_get_within ts i h.0 h.1

number_within : (ts : List Lexeme) (i : ℕ) (x : ReplyNumber) → IsReplyNumber ts i x → i < length ts
number_within ts i (Plain n) h = literal_within ts i n h
number_within ts i (Negated n) h = slice_get_within ts i Minus h.0

-- no number stands where the line ends
pub ends_with_line : (ts : List Lexeme) (i : ℕ) → length ts ≡ i → Ends ts i
ends_with_line ts i e = λ x is. let a = number_within ts i x is in omega (arith, a)

-- no number is a reserved word
pub ends_with_word : (ts : List Lexeme) (i : ℕ) (k : Keyword) → Has ts i (Reserved k) → Ends ts i
ends_with_word ts i k has (Plain n) is = let p : None ≡ Some n = sym (ap literal_in has) ∙ is in cc
ends_with_word ts i k has (Negated n) is = let p = is.0 in cc

reply_joined : (ts : List Lexeme) (i : ℕ) (xs : List ReplyNumber) (x : ReplyNumber) → IsReply ts i xs → IsReplyNumber ts (i + reply_size xs) x
    → IsReply ts i (xs ++ x ∷ [])
reply_joined ts i [] x p h = (subst (λ k. IsReplyNumber ts k x) (omega arith) h, tt)
reply_joined ts i (y ∷ ys) x p h = (p.0, reply_joined ts (i + number_size y) ys x p.1 (subst (λ k. IsReplyNumber ts k x) (omega arith) h))

size_joined : (xs : List ReplyNumber) (x : ReplyNumber) → reply_size (xs ++ x ∷ []) ≡ reply_size xs + number_size x
size_joined [] x = omega arith
size_joined (y ∷ ys) x = let e = size_joined ys x in omega (arith, e)

-- the numbers read so far, and where they end
pub record IsFront (ts : List Lexeme) (i end : ℕ) (reply : List ReplyNumber) : Type 0 where
  pub spelled : IsReply ts i reply
  pub ends : end ≡ i + reply_size reply

pub front_begun : (ts : List Lexeme) (i : ℕ) → IsFront ts i i []
front_begun ts i = record { spelled = tt; ends = omega arith }

pub front_more : (ts : List Lexeme) (i end : ℕ) (xs : List ReplyNumber) (x : ReplyNumber) → IsFront ts i end xs → IsReplyNumber ts end x
    → IsFront ts i (end + number_size x) (xs ++ x ∷ [])
front_more ts i end xs x front is = record {
  spelled = reply_joined ts i xs x front.spelled (subst (λ k. IsReplyNumber ts k x) front.ends is);
  ends = let e = size_joined xs x in let f = front.ends in omega (arith, e, f);
}
