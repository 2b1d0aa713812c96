-- Sums that are collected term by term, and how large their numbers are.
use Rattle.std.proofs.Common.{◌≡◌, ◌≤◌, ◌<◌, ◌+◌, ◌*◌, ℕ, zero, suc, ℤ, pos, ◌+ℤ◌, Bool, true, false, List, [], ◌∷◌, length, drop, get_or, Option}
use Rattle.std.proofs.Common.{Some, None, sym, ◌∙◌, ap, arith}
use Rattle.std.specs.Prelude.{unsigned_abs, slice_set, slice_index_or}
use Rattle.std.specs.Option.{option_or}
use Rattle.std.proofs.lemmas.Int.{ints}
use Rattle.std.proofs.lemmas.List.{drop_more}
use Rattle.std.proofs.lemmas.List.Elements.{All-head, All-tail}
use Rattle.std.proofs.lemmas.List.Sums.{sum_by-cons}
use Rattle.lin_form.specs.Form.{size_of}
use Rattle.line_forms.specs.declared.statement.Term.{Term}
use Rattle.line_forms.specs.declared.statement.Term.TheVariants as term
use Rattle.line_forms.specs.declared.statement.SignedTerm.{SignedTerm}
use Rattle.line_forms.specs.Limits.{IsSmallTerm, AreSmallTerms}
use Rattle.line_checks.specs.declared.scope.Variable.{Variable}
use Rattle.line_checks.specs.declared.scope.Variable.TheVariants.{Input, Memory}
use Rattle.line_checks.specs.declared.sum.Sum.{Sum}
use Rattle.line_checks.specs.Names.{Names}
use Rattle.line_checks.specs.inside.Weight.{weight}
use Rattle.line_checks.specs.Sums.{term_check, sum_check, variable_of_term, factor_of, signed, is_negative, with_value, add_term, collect}
use Rattle.line_checks.specs.declared.scope.NameFault.{NameFault}

-- a term that is refused refuses all of them
pub terms_failed : (s : Names) (terms : List SignedTerm) (i : ℕ) (t : SignedTerm) (e : NameFault) → i < length terms → t ≡ get_or terms i t
    → sum_check s (drop i terms) ≡ sum_check s terms → term_check s t.term ≡ Some e → sum_check s terms ≡ Some e
terms_failed s terms i t r less is same h =
    sym same ∙ ap (sum_check s) (drop_more terms i t less) ∙ ap (λ b. option_or (term_check s b.term) (sum_check s (drop (i + 1) terms))) (sym is)
    ∙ ap (λ o. option_or o (sum_check s (drop (i + 1) terms))) h

larger : (x z : ℤ) → unsigned_abs (x +ℤ z) ≤ unsigned_abs x + unsigned_abs z
larger x z = omega (arith, ints)

-- a number that is added to one of a list makes it larger by no more than itself
pub size_of-set : (xs : List ℤ) (i : ℕ) (z : ℤ) → size_of (slice_set xs i (slice_index_or xs i (pos 0) +ℤ z)) ≤ size_of xs + unsigned_abs z
size_of-set [] i z = omega arith
size_of-set (x ∷ xs) zero z =
    let a = sum_by-cons unsigned_abs (x +ℤ z) xs in let b = sum_by-cons unsigned_abs x xs in let l = larger x z in omega (arith, a, b, l)
size_of-set (x ∷ xs) (suc i) z =
    let a = sum_by-cons unsigned_abs x (slice_set xs i (slice_index_or xs i (pos 0) +ℤ z)) in let b = sum_by-cons unsigned_abs x xs in
    let l = size_of-set xs i z in omega (arith, a, b, l)

small_signed : (b : Bool) (n : ℕ) → n ≤ 1000000 → unsigned_abs (signed b n) ≤ 1000000
small_signed true n h = omega (arith, ints)
small_signed false n h = omega (arith, ints)

small_factor : (t : Term) → IsSmallTerm t → factor_of t ≤ 1000000
small_factor (term.Number n) h = h
small_factor (term.Scaled n name) h = h
small_factor (term.Named name) h = omega arith
small_factor (term.Multiplied name n) h = h

weight_with : (v : Option Variable) (z : ℤ) (sum : Sum) → weight (with_value v z sum) ≤ weight sum + unsigned_abs z
weight_with None z sum = let l = larger sum.constant z in omega (arith, l)
weight_with (Some (Input i)) z sum = let l = size_of-set sum.inputs i z in omega (arith, l)
weight_with (Some (Memory j)) z sum = let l = size_of-set sum.memory j z in omega (arith, l)

-- a sum of so many small terms is small
pub weight_collect : (s : Names) (subtracted : Bool) (sum : Sum) (terms : List SignedTerm) → AreSmallTerms terms
    → weight (collect s subtracted sum terms) ≤ weight sum + 1000000 * length terms
weight_collect s subtracted sum [] small = omega arith
weight_collect s subtracted sum (t ∷ terms) small =
    let z = signed (is_negative subtracted t.negated) (factor_of t.term) in
    let h = All-head (λ (t : SignedTerm). IsSmallTerm t.term) t terms small in
    let m = All-tail (λ (t : SignedTerm). IsSmallTerm t.term) t terms small in
    let a = weight_with (variable_of_term s t.term) z sum in
    let b = small_signed (is_negative subtracted t.negated) (factor_of t.term) (small_factor t.term h) in
    let d = weight_collect s subtracted (add_term s subtracted sum t) terms m in
    omega (arith, a, b, d)
