-- The normal form is computed, and there is one.
use Rattle.std.proofs.Common.{◌≡◌, ℕ, zero, suc, ◌<◌, ◌≤◌, ◌%◌, ◌↔◌, List, [], ◌∷◌, length, get_or, drop, map, ℤ, pos, ◌+ℤ◌, ◌*ℤ◌, ◌≤ℤ◌, ◌<ℤ◌}
use Rattle.std.proofs.Common.{arith, ap, sym, subst, ◌∙◌, refl}
use Rattle.std.specs.Prelude.{unsigned_abs, int_div}
use Rattle.std.specs.Int.{◌∣◌, IsGcd}
use Rattle.std.specs.List.{AllByRecursion}
use Rattle.std.proofs.lemmas.Int.{ints}
use Rattle.std.proofs.lemmas.List.Elements.{All-from_recursion, recursion_from_All}
use Rattle.std.proofs.lemmas.Nat.Gcd.{IsGcd-from_zero, IsGcd-from_mod, dvd-zero, dvd_trans}
use Rattle.lin_form.specs.Inequality.{AreZero, Inequality, IsDivided, IsGreatestDivisor, IsNormalForm, scaled, turned}
use Rattle.lin_form.specs.Normal.{divided_by, divisor_of, euclid, normal_of}
use Rattle.lin_form.proofs.Integers.{IsFloor-div_euclid, exact_quotient, mul_le, mul_sum}
use Rattle.lin_form.proofs.Divisors.{IsGreatestDivisor-from, positive_divisor}

IsGcd-euclid : (steps a b : ℕ) → b ≤ steps → IsGcd a b (euclid steps a b)
IsGcd-euclid zero a b h = IsGcd-from_zero a b (omega arith)
IsGcd-euclid (suc steps) a zero h = IsGcd-from_zero a 0 refl
IsGcd-euclid (suc steps) a (suc b) h = IsGcd-from_mod a (suc b) _ (IsGcd-euclid steps (suc b) (a % suc b) (omega arith))

divides_by_recursion : (numbers : List ℤ) (d : ℕ) → (d ∣ divisor_of numbers) ↔ AllByRecursion (λ a. d ∣ unsigned_abs a) numbers
divides_by_recursion [] d = (λ h. tt, λ h. dvd-zero d)
divides_by_recursion (a ∷ numbers) d =
    let g = IsGcd-euclid (unsigned_abs a) (divisor_of numbers) (unsigned_abs a) (omega arith) in
    let r = divides_by_recursion numbers d in (
      λ h. (dvd_trans d h g.1, r.0 (dvd_trans d h g.0)),
      λ h. g.2 d (r.1 h.1) h.0,
    )

-- the divisor that is computed is the greatest
pub IsGreatestDivisor-computed : (numbers : List ℤ) → (AreZero numbers → ⊥) → IsGreatestDivisor numbers (divisor_of numbers)
IsGreatestDivisor-computed numbers some =
    IsGreatestDivisor-from numbers (divisor_of numbers)
    (λ d. (
      λ h. All-from_recursion _ numbers ((divides_by_recursion numbers d).0 h),
      λ h. (divides_by_recursion numbers d).1 (recursion_from_All _ numbers h),
    )) some

quotients_by_recursion : (numbers : List ℤ) (d : ℤ) → AllByRecursion (λ a. unsigned_abs d ∣ unsigned_abs a) numbers
    → numbers ≡ scaled d (map (λ a. int_div a d) numbers)
quotients_by_recursion [] d h = refl
quotients_by_recursion (a ∷ numbers) d h = λ i. exact_quotient a d h.0 i ∷ quotients_by_recursion numbers d h.1 i

IsDivided-computed : (whole : Inequality) → (AreZero whole.coefficients → ⊥) → IsDivided whole (divided_by (divisor_of whole.coefficients) whole)
IsDivided-computed whole some =
    let g = IsGreatestDivisor-computed whole.coefficients some in
    let p = positive_divisor whole.coefficients (divisor_of whole.coefficients) g in
    record {
      divisor = divisor_of whole.coefficients;
      common = g;
      quotients = quotients_by_recursion whole.coefficients (pos (divisor_of whole.coefficients)) (recursion_from_All _ whole.coefficients g.divides);
      floor = IsFloor-div_euclid whole.constant (divisor_of whole.coefficients) p;
    }

-- what is computed is a normal form
pub IsNormalForm-computed : (whole : Inequality) → (AreZero whole.coefficients → ⊥) → IsNormalForm whole (normal_of whole)
IsNormalForm-computed whole some = record { part = divided_by (divisor_of whole.coefficients) whole; divided = IsDivided-computed whole some; is_turned = refl }

not_below : (g : ℕ) (a b : ℤ) → 0 < g → pos g *ℤ a ≡ pos g *ℤ b → a <ℤ b → ⊥
not_below g a b p e l =
    let m = mul_le g (a +ℤ pos 1) b (omega (arith, ints)) in
    let d = mul_sum (pos g) a (pos 1) in
    let one : pos g *ℤ pos 1 ≡ pos g = omega (arith, ints) in
    omega (arith, ints)

cancel : (g : ℕ) (a b : ℤ) → 0 < g → pos g *ℤ a ≡ pos g *ℤ b → a ≡ b
cancel g a b p e = let h = not_below g a b p e in let k = not_below g b a p (sym e) in grind (arith, ints)

cancel_all : (g : ℕ) (xs ys : List ℤ) → 0 < g → scaled (pos g) xs ≡ scaled (pos g) ys → xs ≡ ys
cancel_all g [] [] p e = refl
cancel_all g [] (y ∷ ys) p e = absurd (let n = ap length e in omega arith)
cancel_all g (x ∷ xs) [] p e = absurd (let n = ap length e in omega arith)
cancel_all g (x ∷ xs) (y ∷ ys) p e =
    let h = cancel g x y p (ap (λ l. get_or l 0 (pos 0)) e) in
    let t = cancel_all g xs ys p (ap (drop 1) e) in
    λ i. h i ∷ t i

between : (a b : ℤ) → a ≤ℤ b → b ≤ℤ a → a ≡ b
between a b h k = omega (arith, ints)

one_part : (whole x y : Inequality) → IsDivided whole x → IsDivided whole y → x ≡ y
one_part whole x y h k =
    let d : h.divisor ≡ k.divisor = let l = k.common.greatest h.divisor h.common.divides in let m =
    h.common.greatest k.divisor k.common.divides in omega arith in
    let p = positive_divisor whole.coefficients h.divisor h.common in
    let e : x.coefficients ≡ y.coefficients =
    cancel_all h.divisor x.coefficients y.coefficients p
    (sym h.quotients ∙ k.quotients ∙ ap (λ g. scaled (pos g) y.coefficients) (sym d)) in
    let low : (pos h.divisor *ℤ y.constant) ≤ℤ whole.constant = subst (λ g. (pos g *ℤ y.constant) ≤ℤ whole.constant) (sym d) k.floor.below in
    let other : (pos k.divisor *ℤ x.constant) ≤ℤ whole.constant = subst (λ g. (pos g *ℤ x.constant) ≤ℤ whole.constant) d h.floor.below in
    let f : x.constant ≡ y.constant = between x.constant y.constant (k.floor.greatest x.constant other) (h.floor.greatest y.constant low) in
    λ i. record { coefficients = e i; constant = f i }

-- an inequality has one normal form
pub IsNormalForm-one : (whole x y : Inequality) → IsNormalForm whole x → IsNormalForm whole y → x ≡ y
IsNormalForm-one whole x y h k = h.is_turned ∙ ap turned (one_part whole h.part k.part h.divided k.divided) ∙ sym k.is_turned

-- which is the one that is computed
pub IsNormalForm-decided : (whole normal : Inequality) → (AreZero whole.coefficients → ⊥) → IsNormalForm whole normal ↔ (normal ≡ normal_of whole)
IsNormalForm-decided whole normal some = (
  λ h. IsNormalForm-one whole normal (normal_of whole) h (IsNormalForm-computed whole some),
  λ e. subst (IsNormalForm whole) (sym e) (IsNormalForm-computed whole some),
)
