-- What a direction says of the inequalities with its coefficients.
use Rattle.std.proofs.Common.{◌≡◌, suc, zero, ◌≤◌, ◌⊎◌, inl, inr, List, [], ◌∷◌, map, ℤ, pos, negsuc, ◌-ℤ◌, ◌<ℤ◌, neg_ℤ, Bool, true, false, not}
use Rattle.std.proofs.Common.{arith, ap, sym, subst, ◌∙◌, refl}
use Rattle.std.specs.Prelude.{unsigned_abs}
use Rattle.std.specs.Int.{int_div_euclid}
use Rattle.std.specs.List.{AllByRecursion}
use Rattle.std.proofs.lemmas.Int.{ints}
use Rattle.std.proofs.lemmas.List.Elements.{All-from_recursion}
use Rattle.lin_form.specs.Inequality.{AreZero, DividesAll, IsGreatestDivisor, IsNormal, IsNormalForm, leads_positive, scaled}
use Rattle.lin_form.specs.inside.Direction.{IsDirection, constant_on, factor, whole_of}
use Rattle.lin_form.proofs.Integers.{floor_bound, neg_product}
use Rattle.lin_form.proofs.Divisors.{AreWithin-neg, AreZero-neg, IsGreatestDivisor-neg, IsKnown, IsKnown-from, normal_above, normal_below}

size_positive : (d : ℤ) → pos 0 <ℤ d → pos (unsigned_abs d) ≡ d
size_positive d h = omega (arith, ints)

-- the number of a direction's divisor
pub IsKnown-direction : (whole : List ℤ) (d : ℤ) (leads : Bool) → IsDirection whole d leads → IsKnown whole (unsigned_abs d)
IsKnown-direction whole d leads h = IsKnown-from whole whole (unsigned_abs d) refl h.common h.within h.some

-- the constant on a direction is as small as its inequality's
pub constant_on-bound : (leads : Bool) (d k : ℤ) → pos 0 <ℤ d → unsigned_abs k ≤ 1000000000000 → unsigned_abs (constant_on leads d k) ≤ 1000000000001
constant_on-bound true d k p h = let b = floor_bound k (unsigned_abs d) (omega (arith, ints)) in let e =
    size_positive d p in let c : unsigned_abs (int_div_euclid k d) ≤ unsigned_abs k = rw e at b in omega arith
constant_on-bound false d k p h = let b = floor_bound k (unsigned_abs d) (omega (arith, ints)) in let e =
    size_positive d p in let c : unsigned_abs (int_div_euclid k d) ≤ unsigned_abs k = rw e at b in omega (arith, ints)

-- a direction gives the normal form of each inequality with its coefficients
pub normal_on : (leads : Bool) (d k : ℤ) (normal : List ℤ) → IsDirection (whole_of leads d normal) d leads
    → unsigned_abs k ≤ 1000000000000 → IsNormal normal (constant_on leads d k)
    × IsNormalForm (record { coefficients = whole_of leads d normal; constant = k })
    (record { coefficients = normal; constant = constant_on leads d k })
normal_on true d k normal h small =
    let known = IsKnown-direction (whole_of true d normal) d true h in
    let e = size_positive d h.positive in
    normal_above (whole_of true d normal) normal k (constant_on true d k) (unsigned_abs d) known h.within small
    (sym h.side) (ap (λ g. scaled g normal) (sym e)) (ap (λ g. int_div_euclid k g) (sym e))
normal_on false d k normal h small =
    let known = IsKnown-direction (whole_of false d normal) d false h in
    let e = size_positive d h.positive in
    normal_below (whole_of false d normal) normal k (constant_on false d k) (unsigned_abs d) known h.within h.some
    small (sym h.side) (ap (λ g. scaled (neg_ℤ g) normal) (sym e))
    (ap (λ g. neg_ℤ (int_div_euclid k g) -ℤ pos 1) (sym e))

neg_twice_factor : (leads : Bool) (d : ℤ) → factor (not leads) d ≡ neg_ℤ (factor leads d)
neg_twice_factor true d = refl
neg_twice_factor false d = omega (arith, ints)

scaled_turned : (g : ℤ) (numbers : List ℤ) → scaled (neg_ℤ g) numbers ≡ map neg_ℤ (scaled g numbers)
scaled_turned g [] = refl
scaled_turned g (a ∷ numbers) = λ i. neg_product g a i ∷ scaled_turned g numbers i

-- the other sign turns every coefficient
pub whole_turned : (leads : Bool) (d : ℤ) (normal : List ℤ) → whole_of (not leads) d normal ≡ map neg_ℤ (whole_of leads d normal)
whole_turned leads d normal = ap (λ g. scaled g normal) (neg_twice_factor leads d) ∙ scaled_turned (factor leads d) normal

leads_turned_by_recursion : (numbers : List ℤ) → (not (leads_positive numbers) ≡ leads_positive (map neg_ℤ numbers)) ⊎ AllByRecursion (λ a. a ≡ pos 0) numbers
leads_turned_by_recursion [] = inr tt
leads_turned_by_recursion (pos zero ∷ numbers) = elim (leads_turned_by_recursion numbers) [ inl e ↦ inl e | inr z ↦ inr (refl, z) ]
leads_turned_by_recursion (pos (suc n) ∷ numbers) = inl refl
leads_turned_by_recursion (negsuc n ∷ numbers) = inl refl

leads_turned : (numbers : List ℤ) → (AreZero numbers → ⊥) → not (leads_positive numbers) ≡ leads_positive (map neg_ℤ numbers)
leads_turned numbers some = elim (leads_turned_by_recursion numbers) [ inl e ↦ e | inr z ↦ absurd (some (All-from_recursion _ numbers z)) ]

turned : (whole : List ℤ) (d : ℤ) (leads : Bool) → IsDirection whole d leads → IsDirection (map neg_ℤ whole) d (not leads)
turned whole d leads h = record {
  positive = h.positive;
  common = IsGreatestDivisor-neg whole (unsigned_abs d) h.common;
  within = AreWithin-neg 1000000 whole h.within;
  some = λ z. h.some (AreZero-neg whole z);
  side = ap not h.side ∙ leads_turned whole h.some;
}

-- a direction with the other sign is one of the coefficients with every sign turned
pub IsDirection-turned : (leads : Bool) (d : ℤ) (normal : List ℤ) → IsDirection (whole_of leads d normal) d leads
    → IsDirection (whole_of (not leads) d normal) d (not leads)
IsDirection-turned leads d normal h =
    subst (λ whole. IsDirection whole d (not leads)) (sym (whole_turned leads d normal))
    (turned (whole_of leads d normal) d leads h)

pub abs_factor : (leads : Bool) (d : ℤ) → unsigned_abs (factor leads d) ≡ unsigned_abs d
abs_factor true d = refl
abs_factor false d = omega (arith, ints)

pub divides_factor : (leads : Bool) (d f : ℤ) (numbers : List ℤ) → f ≡ factor leads d
    → IsGreatestDivisor numbers (unsigned_abs d) → DividesAll (unsigned_abs f) numbers
divides_factor leads d f numbers e h = subst (λ n. DividesAll n numbers) (sym (ap unsigned_abs e ∙ abs_factor leads d)) h.divides

-- a literal on a direction, whose constant is stored
pub literal_made : (leads : Bool) (d k read : ℤ) (normal part : List ℤ)
    → IsDirection (whole_of leads d normal) d leads → unsigned_abs k ≤ 1000000000000 → part ≡ normal
    → read ≡ constant_on leads d k
    → IsNormal part read × IsNormalForm (record { coefficients = whole_of leads d normal; constant = k })
    (record { coefficients = part; constant = read })
literal_made leads d k read normal part h small e f = rw (e, f) (normal_on leads d k normal h small)
