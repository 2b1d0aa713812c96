-- What is found in a list.
use Rattle.std.proofs.Common.{cond, ◌≡◌, ◌⊎◌, inl, inr, zero, suc, Bool, true, false, List, [], ◌∷◌, map, Contains, Option, Some, refl, ap, ◌∙◌, arith}
use Rattle.std.specs.Prelude.{find, IsSome}
use Rattle.std.specs.Cmp.{booleans_Decides}
use Rattle.std.specs.Cmp.Lexicographic.{pointwise}
use Rattle.std.proofs.Math.Bool.{beq}
use Rattle.std.proofs.lemmas.List.{length-map, get_or-map}
use Rattle.std.proofs.lemmas.Bool.{false≢true}
use Rattle.std.proofs.lemmas.Slice.Eq.{slice_eq-Decides}

-- what is found is an element that passes the test
pub record IsFound {X : Type 0} (test : X → Bool) (xs : List X) (o : Option X) : Type 0 where
  pub found : X
  pub is : o ≡ Some found
  pub there : Contains xs found
  pub passes : test found ≡ true

pub contains_first : {X : Type 0} (x : X) (xs : List X) → Contains (x ∷ xs) x
contains_first x xs = (zero, omega arith, refl)

pub contains_later : {X : Type 0} (x y : X) (xs : List X) → Contains xs y → Contains (x ∷ xs) y
contains_later x y xs h = (suc h.0, (let b = h.1 in omega arith), h.2)

pub contains_cases : {X : Type 0} (x y : X) (xs : List X) → Contains (x ∷ xs) y → (x ≡ y) ⊎ Contains xs y
contains_cases x y xs (zero, b, e) = inl e
contains_cases x y xs (suc k, b, e) = inr (k, omega arith, e)

pub contains_none : {X : Type 0} (x : X) → Contains [] x → ⊥
contains_none x h = let b = h.1 in absurd (omega arith)

pub contains_map : {X Y : Type 0} (f : X → Y) (xs : List X) (x : X) → Contains xs x → Contains (map f xs) (f x)
contains_map f xs x h = (h.0, rw length-map h.1, get_or-map f xs h.0 x (f x) h.1 ∙ ap f h.2)

found_cons : {X : Type 0} (test : X → Bool) (x : X) (xs : List X) (b : Bool) → test x ≡ b → (IsSome (find test xs) → IsFound test xs (find test xs)) → IsSome (cond b (Some x) (find test xs)) → IsFound test (x ∷ xs) (cond b (Some x) (find test xs))
found_cons test x xs true e later h = record { found = x; is = refl; there = contains_first x xs; passes = e }
found_cons test x xs false e later h =
    let f = later h in
    record { found = f.found; is = f.is; there = contains_later x f.found xs f.there; passes = f.passes }

pub find-found : {X : Type 0} (test : X → Bool) (xs : List X) → IsSome (find test xs) → IsFound test xs (find test xs)
find-found test [] h = absurd (false≢true h)
find-found test (x ∷ xs) h = found_cons test x xs (test x) refl (find-found test xs) h

some_cons : {X : Type 0} (x : X) (b : Bool) (o : Option X) → (b ≡ true) ⊎ IsSome o → IsSome (cond b (Some x) o)
some_cons x true o h = refl
some_cons x false o h = elim h [ inl e ↦ absurd (false≢true e) | inr later ↦ later ]

-- an element that passes the test is found, or an earlier one
pub find-some : {X Y : Type 0} (test : X → Bool) (f : X → Y) (y : Y) (xs : List X) → ((x : X) → f x ≡ y → test x ≡ true) → Contains (map f xs) y → IsSome (find test xs)
find-some test f y [] passes h = absurd (contains_none y h)
find-some test f y (x ∷ xs) passes h =
    some_cons x (test x) (find test xs) (elim (contains_cases (f x) y (map f xs) h) [
      | inl e ↦ inl (passes x e)
      | inr later ↦ inr (find-some test f y xs passes later)
    ])

pub same_pattern : (p q : List Bool) → pointwise beq p q ≡ true → p ≡ q
same_pattern p q e = (slice_eq-Decides booleans_Decides p q _ refl).0 e

pub pattern_same : (p q : List Bool) → p ≡ q → pointwise beq p q ≡ true
pattern_same p q e = (slice_eq-Decides booleans_Decides p q _ refl).1 e
