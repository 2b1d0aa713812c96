-- Bytes that are pushed one after another.
use Rattle.std.proofs.Common.{◌≡◌, ℕ, ◌+◌, ◌*◌, ◌/◌, ◌%◌, ◌^◌, ◌<◌, ◌≤◌, List, [], ◌∷◌, ◌++◌, length, take, map, get_or, refl, sym, subst, ap, ◌∙◌, arith, append_assoc, append-nil, length-append}
use Rattle.std.specs.Fmt.{decimal}
use Rattle.std.proofs.lemmas.Fmt.{length-decimal-le, decimal_digit, decimal_step}
use Rattle.std.proofs.lemmas.List.{take_more, map_push, flat_map_more}
use Rattle.suite_model.specs.Scratch.{Place}
use Rattle.strict_lines.specs.Lines.{Token, spelled, tail_text}
use Rattle.suite_text.specs.inside.Lines.{Pushes}

pub pushes_none : (p : Place) → Pushes p p []
pushes_none p = record { line = sym (append-nil p.line); letters = refl; room = refl; ends = refl }

pub pushes_more : {old mid new : Place} {a b c : List ℕ} → Pushes old mid a → Pushes mid new b → c ≡ a ++ b → Pushes old new c
pushes_more {old} {mid} {new} {a} {b} {c} p q e = record {
  line = q.line ∙ ap (λ x. x ++ b) p.line ∙ append_assoc old.line a b ∙ ap (λ x. old.line ++ x) (sym e);
  letters = q.letters ∙ p.letters;
  room = q.room ∙ p.room;
  ends = q.ends ∙ p.ends;
}

pub length_pushed : {old new : Place} {bytes : List ℕ} → Pushes old new bytes → length new.line ≡ length old.line + length bytes
length_pushed {old} {new} {bytes} p = ap length p.line ∙ length-append old.line bytes

-- the tail of one more token
pub tail_more : {X : Type 0} (f : X → Token) (xs : List X) (i : ℕ) (d : X) → i < length xs → tail_text (map f (take (i + 1) xs)) ≡ tail_text (map f (take i xs)) ++ (32 ∷ spelled (f (get_or xs i d)))
tail_more f xs i d inside =
    ap (λ ys. tail_text (map f ys)) (take_more xs i d inside)
    ∙ ap tail_text (map_push f (take i xs) (get_or xs i d))
    ∙ sym (flat_map_more (λ t. 32 ∷ spelled t) [] (map f (take i xs)) (f (get_or xs i d)))

-- a number has as many digits as it has without its last, and one more
pub shorter_by_one : (n : ℕ) → 10 ≤ n → n < 2 ^ 64 → length (decimal n) ≡ length (decimal (n / 10)) + 1
shorter_by_one n h small = ap length (decimal_step n h small) ∙ length-append (decimal (n / 10)) ((48 + n % 10) ∷ [])

pub number_length : (n : ℕ) → n < 2 ^ 64 → length (decimal n) ≤ 20
number_length n h = length-decimal-le 20 n (omega arith) (omega arith) (omega arith)

pub half_length : (n : ℕ) → n ≤ 2 ^ 63 → length (decimal n) ≤ 19
half_length n h = length-decimal-le 19 n (omega arith) (omega arith) (omega arith)

-- the line of a digit, and of a number's digits before its last and then that
pub one_digit : {old new : Place} (n : ℕ) → n < 10 → Pushes old new ((48 + n) ∷ []) → Pushes old new (decimal n)
one_digit {old} {new} n h p = subst (Pushes old new) (sym (decimal_digit n h)) p

pub more_digits : {old mid new : Place} (n : ℕ) → 10 ≤ n → n < 2 ^ 64 → Pushes old mid (decimal (n / 10)) → Pushes mid new ((48 + n % 10) ∷ []) → Pushes old new (decimal n)
more_digits n h small p q = pushes_more p q (decimal_step n h small)

pub letter_length : (n : ℕ) → n < 65536 → length (decimal (n + 1)) ≤ 5
letter_length n h = length-decimal-le 5 (n + 1) (omega arith) (omega arith) (omega arith)
