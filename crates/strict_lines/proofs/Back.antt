-- Strict numbers are what is printed.
use Rattle.std.proofs.Common.{◌≡◌, ℕ, zero, suc, ◌+◌, ◌<◌, ◌≤◌, Bool, true, false, not, ◌&&◌, ◌||◌, cond, pos, List, [], ◌∷◌, length, drop, get_or, arith, rules, refl, sym, ap, ◌∙◌, nat_lt, eqb, ◌⊎◌, inl, inr, subst, unsigned_abs, nat_le}
use Rattle.std.specs.Prelude.{fold, neg_ℤ}
use Rattle.std.specs.List.{list_all}
use Rattle.std.specs.Char.{is_ascii_digit}
use Rattle.std.specs.Fmt.{signed_decimal, decimal}
use Rattle.std.proofs.lemmas.Fmt.{decimal-digits_value, digits_decimal, digits_value-decimal, decimal_nonempty, first_decimal, decimal_digit}
use Rattle.std.proofs.lemmas.Str.Parse.{IsNumeralModel, numerals_by_fold}
use Rattle.std.proofs.lemmas.Bool.{false≢true, ltb-true, leb-true, lt-leb, le-leb}
use Rattle.std.proofs.lemmas.Bool.Decides.{nat_tests}
use Rattle.strict_lines.specs.Numbers.{value, capped, is_natural, is_number, is_negative, is_within, number_value, most}
use Rattle.strict_lines.proofs.Counting.{with_digit, both}

abbrev read_on : ℕ → List ℕ → ℕ
read_on n ds = fold with_digit n ds

own : IsNumeralModel (λ ds. list_all is_ascii_digit ds ≡ true) (read_on 0)
own = numerals_by_fold _ (search rules) read_on (search rules)

pub natural_printed : (ds : List ℕ) → is_natural ds ≡ true → value ds ≤ most → decimal (value ds) ≡ ds
natural_printed ds h small =
    let p = both (list_all is_ascii_digit ds && nat_lt 0 (length ds)) (eqb (length ds) 1 || not (eqb (get_or ds 0 0) 48)) h in
    let q = both (list_all is_ascii_digit ds) (nat_lt 0 (length ds)) p.0 in
    decimal-digits_value own ds q.0 (ltb-true 0 (length ds) q.1) (λ e. grind (arith, nat_tests, p)) (omega arith)

lt_true : (m n : ℕ) → m < n → nat_lt m n ≡ true
lt_true m n h = grind (arith, nat_tests)

first_fits : (k b : ℕ) → (k ≡ 1) ⊎ (48 < b) → eqb k 1 || not (eqb b 48) ≡ true
first_fits k b (inl e) = grind (arith, nat_tests)
first_fits k b (inr h) = grind (arith, nat_tests)

is_one : (ds : List ℕ) → list_all is_ascii_digit ds ≡ true → 0 < length ds → (length ds ≡ 1) ⊎ (48 < get_or ds 0 0) → is_natural ds ≡ true
is_one ds h k f = ap (λ b. (b && nat_lt 0 (length ds)) && (eqb (length ds) 1 || not (eqb (get_or ds 0 0) 48))) h ∙ ap (λ b. b && (eqb (length ds) 1 || not (eqb (get_or ds 0 0) 48))) (lt_true 0 (length ds) k) ∙ first_fits (length ds) (get_or ds 0 0) f

natural_of : (n : ℕ) → n ≤ most → is_natural (decimal n) ≡ true
natural_of zero small = is_one (decimal 0) (digits_decimal own 0 (omega arith)) (decimal_nonempty 0 (omega arith)) (inl (ap length (decimal_digit 0 (omega arith))))
natural_of (suc n) small = is_one (decimal (suc n)) (digits_decimal own (suc n) (omega arith)) (decimal_nonempty (suc n) (omega arith)) (inr (first_decimal (suc n) (omega arith) (omega arith)))

pub natural_read : (n : ℕ) → n ≤ most → (is_natural (decimal n) ≡ true) × (value (decimal n) ≡ n)
natural_read n small = (natural_of n small, digits_value-decimal own n (omega arith))

negative_printed : (n : ℕ) (ds : List ℕ) → decimal n ≡ ds → 0 < n → signed_decimal (neg_ℤ (pos n)) ≡ 45 ∷ ds
negative_printed zero ds e h = absurd (omega arith)
negative_printed (suc n) ds e h = ap (λ x. 45 ∷ x) e

-- the value of digits that do not begin with 0 is not 0
not_zero : (ds : List ℕ) → is_natural ds ≡ true → not (eqb (get_or ds 0 0) 48) ≡ true → value ds ≤ most → 0 < value ds
not_zero ds h k small = some (value ds) refl
  where
    some : (n : ℕ) → value ds ≡ n → 0 < n
    some zero e =
        let zero_text : ds ≡ 48 ∷ [] = sym (natural_printed ds h small) ∙ ap decimal e ∙ decimal_digit 0 (omega arith) in
        absurd (false≢true (ap (λ x. not (eqb (get_or x 0 0) 48)) (sym zero_text) ∙ k))
    some (suc n) e = omega arith

negative_first : (c : ℕ) (ds : List ℕ) → is_negative (c ∷ ds) ≡ true → c ≡ 45
negative_first c ds h = let p = both (nat_lt 0 (length (c ∷ ds))) (eqb c 45) h in grind (arith, nat_tests, p)

capped_by : (v : ℕ) (b : Bool) → nat_le v most ≡ b → cond b v (most + 1) ≤ most → (v ≤ most) × (cond b v (most + 1) ≡ v)
capped_by v true e h = (leb-true v most e, refl)
capped_by v false e h = absurd (omega (arith, h))

-- a value that stays small was small
uncapped : (v : ℕ) → capped v ≤ most → (v ≤ most) × (capped v ≡ v)
uncapped v h = capped_by v (nat_le v most) refl h

abs_neg : (v : ℕ) → unsigned_abs (neg_ℤ (pos v)) ≡ v
abs_neg zero = refl
abs_neg (suc v) = refl

by_sign : (bs : List ℕ) (b : Bool) → is_negative bs ≡ b → cond b (is_natural (drop 1 bs) && not (eqb (get_or (drop 1 bs) 0 0) 48)) (is_natural bs) ≡ true
    → unsigned_abs (cond b (neg_ℤ (pos (capped (value (drop 1 bs))))) (pos (capped (value bs)))) ≤ most
    → signed_decimal (cond b (neg_ℤ (pos (capped (value (drop 1 bs))))) (pos (capped (value bs)))) ≡ bs
by_sign bs false e h small = let u = uncapped (value bs) small in ap (λ n. signed_decimal (pos n)) u.1 ∙ natural_printed bs h u.0
by_sign [] true e h small = absurd (false≢true e)
by_sign (c ∷ ds) true e h small =
    let u = uncapped (value ds) (subst (λ n. n ≤ most) (abs_neg (capped (value ds))) small) in
    let p = both (is_natural ds) (not (eqb (get_or ds 0 0) 48)) h in
    ap (λ n. signed_decimal (neg_ℤ (pos n))) u.1
    ∙ negative_printed (value ds) ds (natural_printed ds p.0 u.0) (not_zero ds p.0 p.1 u.0) ∙ ap (λ x. x ∷ ds) (sym (negative_first c ds e))

pub printed : (bs : List ℕ) → is_number bs ≡ true → is_within most (number_value bs) ≡ true → signed_decimal (number_value bs) ≡ bs
printed bs h small = by_sign bs (is_negative bs) refl h (leb-true (unsigned_abs (number_value bs)) most small)

pub capped_over : (v : ℕ) → most < v → capped v ≡ most + 1
capped_over v h = ap (λ b. cond b v (most + 1)) (lt-leb v most h)

pub capped_same : (v : ℕ) → v ≤ most → capped v ≡ v
capped_same v h = ap (λ b. cond b v (most + 1)) (le-leb v most h)

pub capped_is : (v n : ℕ) → v ≡ n → v ≤ most → v ≡ capped n
capped_is v n e small = e ∙ sym (capped_same n (subst (λ k. k ≤ most) e small))
