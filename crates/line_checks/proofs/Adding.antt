-- The numbers of a sum are what its terms add up to.
use Rattle.std.proofs.Common.{◌≡◌, ◌<◌, ◌≤◌, ℕ, zero, suc, ℤ, pos, ◌+ℤ◌, Bool, true, false, List, [], ◌∷◌, length, Option, Some, None, refl, sym}
use Rattle.std.proofs.Common.{◌∙◌, ap, subst, arith}
use Rattle.std.specs.Prelude.{if◌then◌else◌, ◌==◌, replicate, slice_set, slice_index_or}
use Rattle.std.proofs.lemmas.Bool.Decides.{nat_tests}
use Rattle.std.proofs.lemmas.Int.{ints}
use Rattle.std.proofs.lemmas.List.{length-set, get_or-set_same, get_or-set_other, get_or-take}
use Rattle.line_forms.specs.declared.statement.SignedTerm.{SignedTerm}
use Rattle.line_forms.specs.declared.statement.TestForm.{TestForm}
use Rattle.line_checks.specs.declared.scope.Variable.{Variable}
use Rattle.line_checks.specs.declared.scope.Variable.TheVariants.{Input, Memory}
use Rattle.line_checks.specs.declared.sum.Sum.{Sum}
use Rattle.line_checks.specs.Names.{Names}
use Rattle.line_checks.specs.Sums.{variable_of_term, factor_of, signed, is_negative, with_value, add_term, collect, nothing, form_of, number_in}
use Rattle.line_checks.specs.Sums.{is_same_variable, added_up, IsAmong, IsAddedUp, IsValueAddedUp}

-- the number of a variable in a sum that is being collected
abbrev number_of : Option Variable → Sum → ℤ
number_of None sum = sum.constant
number_of (Some (Input i)) sum = slice_index_or sum.inputs i (pos 0)
number_of (Some (Memory j)) sum = slice_index_or sum.memory j (pos 0)

abbrev HasPlaceFor : Option Variable → Sum → Type 0
HasPlaceFor None sum = Unit {0}
HasPlaceFor (Some (Input i)) sum = i < length sum.inputs
HasPlaceFor (Some (Memory j)) sum = j < length sum.memory

add_zero : (x : ℤ) → x ≡ x +ℤ pos 0
add_zero x = omega (arith, ints)

add_first : (x y z : ℤ) → (x +ℤ y) +ℤ z ≡ x +ℤ (y +ℤ z)
add_first x y z = omega (arith, ints)

number_at : (xs : List ℤ) (k i : ℕ) (z : ℤ) (b : Bool) → (k == i) ≡ b → i < length xs
    → slice_index_or (slice_set xs k (slice_index_or xs k (pos 0) +ℤ z)) i (pos 0) ≡ slice_index_or xs i (pos 0) +ℤ (if b then z else pos 0)
number_at xs k i z true e less =
    let same : i ≡ k = grind (arith, nat_tests) in
    let P : ℕ → Type 0 = λ j. slice_index_or (slice_set xs j (slice_index_or xs j (pos 0) +ℤ z)) i (pos 0) ≡ slice_index_or xs i (pos 0) +ℤ z in
    subst P same (get_or-set_same xs i (slice_index_or xs i (pos 0) +ℤ z) (pos 0) less)
number_at xs k i z false e less =
    let other : i ≡ k → ⊥ = λ h. grind (arith, nat_tests) in
    get_or-set_other xs k i (slice_index_or xs k (pos 0) +ℤ z) (pos 0) other ∙ add_zero (slice_index_or xs i (pos 0))

number_with : (w v : Option Variable) (z : ℤ) (sum : Sum) → HasPlaceFor v sum
    → number_of v (with_value w z sum) ≡ number_of v sum +ℤ (if is_same_variable w v then z else pos 0)
number_with None None z sum h = refl
number_with None (Some (Input i)) z sum h = add_zero (slice_index_or sum.inputs i (pos 0))
number_with None (Some (Memory j)) z sum h = add_zero (slice_index_or sum.memory j (pos 0))
number_with (Some (Input k)) None z sum h = add_zero sum.constant
number_with (Some (Input k)) (Some (Input i)) z sum h = number_at sum.inputs k i z (k == i) refl h
number_with (Some (Input k)) (Some (Memory j)) z sum h = add_zero (slice_index_or sum.memory j (pos 0))
number_with (Some (Memory k)) None z sum h = add_zero sum.constant
number_with (Some (Memory k)) (Some (Input i)) z sum h = add_zero (slice_index_or sum.inputs i (pos 0))
number_with (Some (Memory k)) (Some (Memory j)) z sum h = number_at sum.memory k j z (k == j) refl h

place_with : (w v : Option Variable) (z : ℤ) (sum : Sum) → HasPlaceFor v sum → HasPlaceFor v (with_value w z sum)
place_with None None z sum h = h
place_with None (Some (Input i)) z sum h = h
place_with None (Some (Memory j)) z sum h = h
place_with (Some (Input k)) None z sum h = h
place_with (Some (Input k)) (Some (Input i)) z sum h = subst (λ n. i < n) (sym (length-set sum.inputs k (slice_index_or sum.inputs k (pos 0) +ℤ z))) h
place_with (Some (Input k)) (Some (Memory j)) z sum h = h
place_with (Some (Memory k)) None z sum h = h
place_with (Some (Memory k)) (Some (Input i)) z sum h = h
place_with (Some (Memory k)) (Some (Memory j)) z sum h = subst (λ n. j < n) (sym (length-set sum.memory k (slice_index_or sum.memory k (pos 0) +ℤ z))) h

number_collect : (s : Names) (subtracted : Bool) (terms : List SignedTerm) (sum : Sum) (v : Option Variable) → HasPlaceFor v sum
    → number_of v (collect s subtracted sum terms) ≡ number_of v sum +ℤ added_up s subtracted v terms
number_collect s subtracted [] sum v h = add_zero (number_of v sum)
number_collect s subtracted (t ∷ terms) sum v h =
    let w = variable_of_term s t.term in
    let z = signed (is_negative subtracted t.negated) (factor_of t.term) in
    number_collect s subtracted terms (add_term s subtracted sum t) v (place_with w v z sum h)
    ∙ ap (λ x. x +ℤ added_up s subtracted v terms) (number_with w v z sum h)
    ∙ add_first (number_of v sum) (if is_same_variable w v then z else pos 0) (added_up s subtracted v terms)

place_collect : (s : Names) (subtracted : Bool) (terms : List SignedTerm) (sum : Sum) (v : Option Variable) → HasPlaceFor v sum
    → HasPlaceFor v (collect s subtracted sum terms)
place_collect s subtracted [] sum v h = h
place_collect s subtracted (t ∷ terms) sum v h =
    place_collect s subtracted terms (add_term s subtracted sum t) v
    (place_with (variable_of_term s t.term) v (signed (is_negative subtracted t.negated) (factor_of t.term)) sum h)

form_number : (width : ℕ) (sum : Sum) (v : Option Variable) → IsAmong width v → number_in v (form_of width sum) ≡ number_of v sum
form_number width sum None h = refl
form_number width sum (Some (Input i)) h = get_or-take width sum.inputs i (pos 0) h
form_number width sum (Some (Memory j)) h = refl

zero_at : (n i : ℕ) → slice_index_or (replicate n (pos 0)) i (pos 0) ≡ pos 0
zero_at zero i = refl
zero_at (suc n) zero = refl
zero_at (suc n) (suc i) = zero_at n i

nothing_number : (v : Option Variable) → number_of v nothing ≡ pos 0
nothing_number None = refl
nothing_number (Some (Input i)) = zero_at 6 i
nothing_number (Some (Memory j)) = zero_at 4 j

nothing_place : (width : ℕ) (v : Option Variable) → width ≤ 6 → IsAmong width v → HasPlaceFor v nothing
nothing_place width None few h = tt
nothing_place width (Some (Input i)) few h = omega (arith, h, few)
nothing_place width (Some (Memory j)) few h = h

zero_add : (x : ℤ) → pos 0 +ℤ x ≡ x
zero_add x = omega (arith, ints)

-- the first terms that are collected
first_number : (s : Names) (width : ℕ) (terms : List SignedTerm) (v : Option Variable) → width ≤ 6 → IsAmong width v
    → number_of v (collect s false nothing terms) ≡ added_up s false v terms
first_number s width terms v few h =
    number_collect s false terms nothing v (nothing_place width v few h) ∙ ap (λ x. x +ℤ added_up s false v terms) (nothing_number v)
    ∙ zero_add (added_up s false v terms)

pub comparison_adds_up : (s : Names) (width : ℕ) (t : TestForm) → width ≤ 6 → IsAddedUp s width t
comparison_adds_up s width t few = λ v h.
    let left = collect s false nothing t.left in
    form_number width (collect s true left t.right) v h
    ∙ number_collect s true t.right left v (place_collect s false t.left nothing v (nothing_place width v few h))
    ∙ ap (λ x. x +ℤ added_up s true v t.right) (first_number s width t.left v few h)

pub value_adds_up : (s : Names) (width : ℕ) (terms : List SignedTerm) → width ≤ 6 → IsValueAddedUp s width terms
value_adds_up s width terms few = λ v h. form_number width (collect s false nothing terms) v h ∙ first_number s width terms v few h
