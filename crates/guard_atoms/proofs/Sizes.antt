-- Coefficients are large or small.
use Rattle.std.proofs.Common.{◌≡◌, ℕ, ◌<◌, ◌≤◌, ◌↔◌, Bool, true, false, not, ◌||◌, List, [], ◌∷◌, ◌++◌, ℤ, IsTrue, nat_lt, unsigned_abs, All, length, get_or, take, ◌+◌, map, arith, ap, subst, sym, ◌∙◌, refl}
use Rattle.std.specs.List.{list_any, AllByRecursion}
use Rattle.std.proofs.lemmas.Bool.{false≢true}
use Rattle.std.proofs.lemmas.List.{get_or-map, length-map}
use Rattle.std.proofs.lemmas.List.Folds.{list_any_at, list_any_more}
use Rattle.std.proofs.lemmas.Bool.Decides.{nat_tests}
use Rattle.std.proofs.lemmas.List.Elements.{recursion_from_All, All-from_recursion}
use Rattle.lin_form.specs.Range.{AreWithin}
use Rattle.lin_form.specs.declared.form.Comparison.{Comparison}
use Rattle.guard_atoms.specs.Atoms.{is_large}
use Rattle.guard_atoms.proofs.Each.{back, front}

or_false : (b c : Bool) → (b || c) ≡ false → (b ≡ false) × (c ≡ false)
or_false true c e = absurd (false≢true (sym e))
or_false false c e = (refl, e)

below : (n : ℕ) → nat_lt 1000000 n ≡ false → n ≤ 1000000
below n e = grind (arith, nat_tests)

not_above : (n : ℕ) → n ≤ 1000000 → nat_lt 1000000 n ≡ false
not_above n h = grind (arith, nat_tests)

abbrev IsBig : ℤ → Bool
IsBig a = nat_lt 1000000 (unsigned_abs a)

none_big : (numbers : List ℤ) → list_any IsBig numbers ≡ false → AllByRecursion (λ a. unsigned_abs a ≤ 1000000) numbers
none_big [] e = tt
none_big (a ∷ numbers) e = let h = or_false (IsBig a) (list_any IsBig numbers) e in (below (unsigned_abs a) h.0, none_big numbers h.1)

-- coefficients are small where none is large
pub small_from : (comparison : Comparison) → is_large comparison ≡ false → AreWithin 1000000 comparison.form.inputs
small_from comparison e = All-from_recursion (λ a. unsigned_abs a ≤ 1000000) comparison.form.inputs (none_big comparison.form.inputs e)

not_big : (numbers : List ℤ) → AllByRecursion (λ a. unsigned_abs a ≤ 1000000) numbers → list_any IsBig numbers ≡ false
not_big [] h = refl
not_big (a ∷ numbers) h = λ i. not_above (unsigned_abs a) h.0 i || not_big numbers h.1 i

pub large_is : (small : Bool) (comparison : Comparison) → (IsTrue small ↔ AreWithin 1000000 comparison.form.inputs) → not small ≡ is_large comparison
large_is true comparison h = sym (not_big comparison.form.inputs (recursion_from_All (λ a. unsigned_abs a ≤ 1000000) comparison.form.inputs (h.0 refl)))
large_is false comparison h = by (is_large comparison) refl
  where
    by : (b : Bool) → is_large comparison ≡ b → true ≡ is_large comparison
    by true e = sym e
    by false e = absurd (false≢true (h.1 (small_from comparison e)))

-- so it is in a list
pub all_small : (comparisons : List Comparison) → list_any is_large comparisons ≡ false → AllByRecursion (λ q. AreWithin 1000000 q.form.inputs) comparisons
all_small [] e = tt
all_small (q ∷ comparisons) e = let h = or_false (is_large q) (list_any is_large comparisons) e in (small_from q h.0, all_small comparisons h.1)

-- where none of two lists is large, the first has small coefficients alone
pub assumed_small : (assumed others : List Comparison) → list_any is_large (assumed ++ others) ≡ false → All (λ q. AreWithin 1000000 q.form.inputs) assumed
assumed_small assumed others e = All-from_recursion (λ q. AreWithin 1000000 q.form.inputs) assumed (front (λ q. AreWithin 1000000 q.form.inputs) assumed others (all_small (assumed ++ others) e))

-- and so has the second
pub small_parts : (assumed others : List Comparison) → list_any is_large (assumed ++ others) ≡ false → AllByRecursion (λ q. AreWithin 1000000 q.form.inputs) others
small_parts assumed others e = back (λ q. AreWithin 1000000 q.form.inputs) assumed others (all_small (assumed ++ others) e)

pub mapped_at : {X Y : Type 0} (f : X → Y) (xs : List X) (i : ℕ) (x : X) → i < length xs → x ≡ get_or xs i x → get_or (map f xs) i (f x) ≡ f x
mapped_at f xs i x l e = get_or-map f xs i x (f x) l ∙ ap f (sym e)

pub within : {X Y : Type 0} (f : X → Y) (xs : List X) (i : ℕ) → i < length xs → i < length (map f xs)
within f xs i l = subst (λ n. i < n) (sym (length-map xs f)) l

-- one of a list passes a test
pub some_passes : {X Y : Type 0} (p : Y → Bool) (f : X → Y) (xs : List X) (i : ℕ) (x : X) → i < length xs → x ≡ get_or xs i x → p (f x) ≡ true → true ≡ list_any p (map f xs)
some_passes p f xs i x l e h = sym (list_any_at p (map f xs) i (f x) (within f xs i l) (ap p (mapped_at f xs i x l e) ∙ h))

-- one more does not
pub none_more : {X Y : Type 0} (p : Y → Bool) (f : X → Y) (xs : List X) (i : ℕ) (x : X) → i < length xs → x ≡ get_or xs i x → p (f x) ≡ false → list_any p (take i (map f xs)) ≡ false → list_any p (take (i + 1) (map f xs)) ≡ false
none_more p f xs i x l e h k =
    let here : p (get_or (map f xs) i (f x)) ≡ false = ap p (mapped_at f xs i x l e) ∙ h in
    list_any_more p (map f xs) i (f x) (within f xs i l) ∙ (λ j. k j || here j)
