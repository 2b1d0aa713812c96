-- Where two signatures differ first.
use Rattle.std.proofs.Common.{◌≡◌, ℕ, ◌+◌, Bool, true, false, ◌&&◌, List, [], ◌∷◌, length, map, Option, Some, None, refl, sym}
use Rattle.std.proofs.Common.{◌∙◌, ap, subst, arith}
use Rattle.std.specs.Prelude.{if◌then◌else◌, ◌==◌, Result, Ok, Err, IfOk, IfErr}
use Rattle.std.proofs.lemmas.Bool.Decides.{nat_tests, Decides-int_eq}
use Rattle.std.proofs.lemmas.List.{length-map}
use Rattle.std.specs.Ordering.{int_eq}
use Rattle.std.specs.Cmp.Lexicographic.{nat_list_eq_equiv}
use Rattle.lin_form.specs.declared.input.Input.{Input}
use Rattle.lin_form.specs.declared.signature.Signature.{Signature}
use Rattle.lin_form.specs.Same.{same_bytes}
use Rattle.lin_form.specs.Signature.{range_of, ranges_of}
use Rattle.subject.specs.Domain.{IsFitting}
use Rattle.impl_table.specs.declared.fit.Unfit.{Unfit}
use Rattle.impl_table.specs.declared.fit.Unfit.TheVariants as unfit
use Rattle.impl_table.specs.Fitting.{is_same_name, is_same_input, first_input, first_output, inputs_difference, outputs_difference, Tells}

-- the same name and the same range
abbrev AreSame : Input → Input → Type 0
AreSame a b = (b.name ≡ a.name) × (range_of b ≡ range_of a)

same_if : (n l h : Bool) → (n && l && h) ≡ true → (n ≡ true) × (l ≡ true) × (h ≡ true)
same_if true true true e = (refl, refl, refl)
same_if true true false e = absurd (cc)
same_if true false h e = absurd (cc)
same_if false l h e = absurd (cc)

told_same : (a b : Input) → is_same_input a b ≡ true → AreSame a b
told_same a b e =
    let h = same_if (is_same_name a.name b.name) (int_eq a.lo b.lo) (int_eq a.hi b.hi) e in
    let lo = (Decides-int_eq a.lo b.lo).0 h.1 in
    let hi = (Decides-int_eq a.hi b.hi).0 h.2 in
    (sym (same_bytes a.name b.name h.0), λ j. (sym lo j, sym hi j))

same_told : (a b : Input) → AreSame a b → is_same_input a b ≡ true
same_told a b h =
    let n : is_same_name a.name b.name ≡ true = ap (is_same_name a.name) h.0 ∙ nat_list_eq_equiv.refl a.name in
    let l = (Decides-int_eq a.lo b.lo).1 (ap (λ r. r.0) (sym h.1)) in
    let u = (Decides-int_eq a.hi b.hi).1 (ap (λ r. r.1) (sym h.1)) in
    λ j. n j && l j && u j

-- the inputs have the same names and ranges
abbrev pub AreAlike : List Input → List Input → Type 0
AreAlike model other = (map (λ (i : Input). i.name) other ≡ map (λ (i : Input). i.name) model) × (ranges_of other ≡ ranges_of model)

if_some : {X : Type 0} (b : Bool) (rest : Option X) (x : X) → (if b then rest else Some x) ≡ None → (b ≡ true) × (rest ≡ None)
if_some true rest x e = (refl, e)
if_some false rest x e = absurd (cc)

inputs_alike : (n : ℕ) (xs ys : List Input) → length xs ≡ length ys → first_input n xs ys ≡ None → AreAlike xs ys
inputs_alike n [] [] l e = (refl, refl)
inputs_alike n [] (y ∷ ys) l e = absurd (omega (arith, l))
inputs_alike n (x ∷ xs) [] l e = absurd (omega (arith, l))
inputs_alike n (x ∷ xs) (y ∷ ys) l e =
    let h = if_some (is_same_input x y) (first_input (n + 1) xs ys) (unfit.Input n) e in
    let same = told_same x y h.0 in
    let rest = inputs_alike (n + 1) xs ys (omega (arith, l)) h.1 in
    ((λ j. same.0 j ∷ rest.0 j), (λ j. same.1 j ∷ rest.1 j))

alike_inputs : (n : ℕ) (xs ys : List Input) → AreAlike xs ys → first_input n xs ys ≡ None
alike_inputs n [] ys h = refl
alike_inputs n (x ∷ xs) [] h = refl
alike_inputs n (x ∷ xs) (y ∷ ys) h =
    let a = h.0 in
    let b = h.1 in
    let name : y.name ≡ x.name = cc in
    let names : map (λ (i : Input). i.name) ys ≡ map (λ (i : Input). i.name) xs = cc in
    let range : range_of y ≡ range_of x = cc in
    let ranges : ranges_of ys ≡ ranges_of xs = cc in
    rw (same_told x y (name, range)) (alike_inputs (n + 1) xs ys (names, ranges))

test_same : (n m : ℕ) → (n == m) ≡ true → n ≡ m
test_same n m e = grind (arith, nat_tests)

same_test : (n m : ℕ) → n ≡ m → (n == m) ≡ true
same_test n m e = grind (arith, nat_tests)

pub none_differs : (xs ys : List Input) → inputs_difference xs ys ≡ None → AreAlike xs ys
none_differs xs ys e =
    let h = if_some (length xs == length ys) (first_input 0 xs ys) unfit.Inputs e in
    inputs_alike 0 xs ys (test_same (length xs) (length ys) h.0) h.1

pub alike_none : (xs ys : List Input) → AreAlike xs ys → inputs_difference xs ys ≡ None
alike_none xs ys h =
    let l : length xs ≡ length ys = sym (length-map xs (λ (i : Input). i.name)) ∙ sym (ap length h.0) ∙ length-map ys (λ (i : Input). i.name) in
    rw (same_test (length xs) (length ys) l) (alike_inputs 0 xs ys h)

outputs_alike : (n : ℕ) (xs ys : List (List ℕ)) → length xs ≡ length ys → first_output n xs ys ≡ None → ys ≡ xs
outputs_alike n [] [] l e = refl
outputs_alike n [] (y ∷ ys) l e = absurd (omega (arith, l))
outputs_alike n (x ∷ xs) [] l e = absurd (omega (arith, l))
outputs_alike n (x ∷ xs) (y ∷ ys) l e =
    let h = if_some (is_same_name x y) (first_output (n + 1) xs ys) (unfit.Output n) e in
    let same = sym (same_bytes x y h.0) in
    let rest = outputs_alike (n + 1) xs ys (omega (arith, l)) h.1 in
    λ j. same j ∷ rest j

same_outputs : (n : ℕ) (xs : List (List ℕ)) → first_output n xs xs ≡ None
same_outputs n [] = refl
same_outputs n (x ∷ xs) = rw (nat_list_eq_equiv.refl x) (same_outputs (n + 1) xs)

pub none_differs_out : (xs ys : List (List ℕ)) → outputs_difference xs ys ≡ None → ys ≡ xs
none_differs_out xs ys e =
    let h = if_some (length xs == length ys) (first_output 0 xs ys) unfit.Outputs e in
    outputs_alike 0 xs ys (test_same (length xs) (length ys) h.0) h.1

pub alike_none_out : (xs ys : List (List ℕ)) → ys ≡ xs → outputs_difference xs ys ≡ None
alike_none_out xs ys e = subst (λ zs. outputs_difference xs zs ≡ None) (sym e) (rw (same_test (length xs) (length xs) refl) (same_outputs 0 xs))

-- nothing differs exactly where the signature fits

pub fitting : (model other : Signature) → inputs_difference model.inputs other.inputs ≡ None
    → outputs_difference model.outputs other.outputs ≡ None → IsFitting model other
fitting model other i o = let h = none_differs model.inputs other.inputs i in
    record { names = h.0; ranges = h.1; outputs = none_differs_out model.outputs other.outputs o }

pub unfit_inputs : (model other : Signature) (u : Unfit) → inputs_difference model.inputs other.inputs ≡ Some u → IsFitting model other → ⊥
unfit_inputs model other u e fit = let h = alike_none model.inputs other.inputs (fit.names, fit.ranges) in cc

pub unfit_outputs : (model other : Signature) (u : Unfit) → outputs_difference model.outputs other.outputs ≡ Some u → IsFitting model other → ⊥
unfit_outputs model other u e fit = let h = alike_none_out model.outputs other.outputs fit.outputs in cc

-- what is told of the outputs, once the inputs are alike

pub fits_after : (model other : Signature) (xs ys : List (List ℕ)) (result : Result (Unit {0}) Unfit) → xs ≡ model.outputs → ys ≡ other.outputs
    → inputs_difference model.inputs other.inputs ≡ None → Tells (outputs_difference xs ys) result → IfOk result (λ u. IsFitting model other)
fits_after model other xs ys (Ok u) p q i told = fitting model other i ((λ j. outputs_difference (sym p j) (sym q j)) ∙ told)
fits_after model other xs ys (Err unfit) p q i told = tt

pub unfit_after : (model other : Signature) (xs ys : List (List ℕ)) (result : Result (Unit {0}) Unfit) → xs ≡ model.outputs → ys ≡ other.outputs
    → Tells (outputs_difference xs ys) result → IfErr result (λ unfit. IsFitting model other → ⊥)
unfit_after model other xs ys (Ok u) p q told = tt
unfit_after model other xs ys (Err unfit) p q told = unfit_outputs model other unfit ((λ j. outputs_difference (sym p j) (sym q j)) ∙ told)
