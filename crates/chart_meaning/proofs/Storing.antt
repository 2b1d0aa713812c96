-- Lists in the front of a configuration's arrays.
use Rattle.std.proofs.Common.{◌≡◌, ℕ, zero, suc, ◌+◌, ◌-◌, ◌<◌, ◌≤◌, List, [], ◌∷◌, ◌++◌, length, get_or, set, take, drop, map, replicate, Option}
use Rattle.std.proofs.Common.{None, Some, ℤ, pos, FitsSigned, w64, to_z, of_z, ◌≢◌, refl, ap, sym, ◌∙◌, add-one, arith}
use Rattle.std.specs.Prelude.{slice_get, option_and_then}
use Rattle.std.specs.Int.{w16}
use Rattle.std.proofs.lemmas.Int.{to_z-of_z}
use Rattle.std.proofs.lemmas.List.{map-set, take-replicate, take_at, drop-replicate, length-replicate}
use Rattle.lin_form.specs.Padded.{padded, IsPadded, padded-take}
use Rattle.lin_form.proofs.Padding.{IsPadded-written}
use Rattle.chart_meaning.specs.Configuration.{Configuration}
use Rattle.chart_meaning.specs.Same.{child_of, IsStored}

-- a write inside the front of a list
pub take-set_at : {X : Type 0} (n : ℕ) (xs : List X) (i : ℕ) (a : X) → take n (set xs i a) ≡ set (take n xs) i a
take-set_at zero xs i a = refl
take-set_at (suc n) [] i a = refl
take-set_at (suc n) (x ∷ xs) zero a = refl
take-set_at (suc n) (x ∷ xs) (suc i) a = ap (λ rest. x ∷ rest) (take-set_at n xs i a)

four : (xs : List ℤ) → length xs ≡ 4 → get_or xs 0 (pos 0) ∷ get_or xs 1 (pos 0) ∷ get_or xs 2 (pos 0) ∷ get_or xs 3 (pos 0) ∷ [] ≡ xs
four [] e = absurd (omega arith)
four (a ∷ []) e = absurd (omega arith)
four (a ∷ b ∷ []) e = absurd (omega arith)
four (a ∷ b ∷ c ∷ []) e = absurd (omega arith)
four (a ∷ b ∷ c ∷ d ∷ []) e = refl
four (a ∷ b ∷ c ∷ d ∷ x ∷ xs) e = absurd (omega arith)

abbrev pub widened : ℤ → ℤ
widened z = to_z w64 (of_z w64 (to_z w16 (of_z w16 z)))

pub widened-is : (z : ℤ) → FitsSigned w16 z → widened z ≡ z
widened-is z small = let wide : FitsSigned w64 z = record { sfits = omega (arith, small.sfits) } in simp to_z-of_z

pub four_widened : (n : ℕ) (xs : List ℤ) → IsPadded (pos 0) 4 n xs → FitsSigned w16 (get_or xs 0 (pos 0))
    → FitsSigned w16 (get_or xs 1 (pos 0)) → FitsSigned w16 (get_or xs 2 (pos 0))
    → FitsSigned w16 (get_or xs 3 (pos 0)) → widened (get_or xs 0 (pos 0)) ∷ widened (get_or xs 1 (pos 0)) ∷ widened
    (get_or xs 2 (pos 0)) ∷ widened (get_or xs 3 (pos 0)) ∷ [] ≡ padded (pos 0) 4 (take n xs)
four_widened n xs h a b c d =
    rw (
      widened-is (get_or xs 0 (pos 0)) a,
      widened-is (get_or xs 1 (pos 0)) b,
      widened-is (get_or xs 2 (pos 0)) c,
      widened-is (get_or xs 3 (pos 0)) d,
    ) (four xs h.size ∙ sym (padded-take h))

-- an array that holds only the filler
pub IsPadded-blank : {X : Type 0} (filler : X) (room n : ℕ) → n ≤ room → IsPadded filler room n (replicate room filler)
IsPadded-blank {X} filler room n h = record { short = h; size = length-replicate room filler; rest = drop-replicate n room filler }

pub map-replicate : {X Y : Type 0} (f : X → Y) (n : ℕ) (x : X) → map f (replicate n x) ≡ replicate n (f x)
map-replicate f zero x = refl
map-replicate f (suc n) x = ap (λ rest. f x ∷ rest) (map-replicate f n x)

pub map-take-blank : {X Y : Type 0} (f : X → Y) (room n : ℕ) (x : X) → n ≤ room → map f (take n (replicate room x)) ≡ replicate n (f x)
map-take-blank f room n x h = rw (take-replicate n room x h) (map-replicate f n x)

child_of-code : (code : ℕ) → code ≢ 0 → Some (code - 1) ≡ child_of code
child_of-code zero h = absurd (h refl)
child_of-code (suc code) h = ap Some (omega arith)

-- the last child that stands as a code
pub child_at : (n : ℕ) (codes : List ℕ) (s : ℕ) → s < length (map child_of (take n codes))
    → option_and_then (λ (child : Option ℕ). child) (slice_get (map child_of (take n codes)) s)
    ≡ child_of (get_or codes s 0)
child_at zero codes s h = absurd (omega arith)
child_at (suc n) [] s h = absurd (omega arith)
child_at (suc n) (x ∷ codes) zero h = refl
child_at (suc n) (x ∷ codes) (suc s) h = child_at n codes s (omega arith)

pub Some_child_at : (n : ℕ) (codes : List ℕ) (s : ℕ) → s < length (map child_of (take n codes)) → get_or codes s 0 ≢ 0
    → Some (get_or codes s 0 - 1) ≡ option_and_then (λ (child : Option ℕ). child)
    (slice_get (map child_of (take n codes)) s)
Some_child_at n codes s h some = child_of-code (get_or codes s 0) some ∙ sym (child_at n codes s h)

pub None_child_at : (n : ℕ) (codes : List ℕ) (s : ℕ) → s < length (map child_of (take n codes)) → get_or codes s 0 ≡ 0
    → None ≡ option_and_then (λ (child : Option ℕ). child) (slice_get (map child_of (take n codes)) s)
None_child_at n codes s h none = sym (child_at n codes s h ∙ ap child_of none)

pub children-set : (n : ℕ) (codes : List ℕ) (s child : ℕ) → map child_of (take n (set codes s (child + 1))) ≡ set (map child_of (take n codes)) s (Some child)
children-set n codes s child = rw (add-one, take-set_at n codes s (suc child)) (map-set child_of (take n codes) s (suc child))

-- a value that is kept in 16 bits
pub narrow-set : (n : ℕ) (xs : List ℤ) (i : ℕ) (z : ℤ) → FitsSigned w16 z
    → take n (set xs i (to_z w16 (of_z w16 (to_z w64 (of_z w64 z))))) ≡ set (take n xs) i z
narrow-set n xs i z small = let wide : FitsSigned w64 z = record { sfits = omega (arith, small.sfits) } in simp to_z-of_z (take-set_at n xs i z)

pub wide-set : (n : ℕ) (xs : List ℤ) (i : ℕ) (z : ℤ) → FitsSigned w64 z → take n (set xs i (to_z w64 (of_z w64 z))) ≡ set (take n xs) i z
wide-set n xs i z wide = simp to_z-of_z (take-set_at n xs i z)

-- the arrays of a new configuration
pub IsStored-new : (m n : ℕ) (outputs written : List ℤ) (codes : List ℕ) → m ≤ 4 → length outputs ≤ 8 → n ≤ 64
    → written ≡ outputs → codes ≡ replicate 64 0
    → IsStored m (length outputs) n (replicate 4 (pos 0)) (written ++ drop (length outputs) (replicate 8 (pos 0))) codes
IsStored-new m n outputs written codes few some small e none = record {
  memory_places = IsPadded-blank (pos 0) 4 m few;
  output_places = IsPadded-written (pos 0) 8 outputs written some e;
  last_places = rw none (IsPadded-blank 0 64 n small);
}

pub seen-new : (m n : ℕ) (outputs written : List ℤ) (codes : List ℕ) → m ≤ 4 → n ≤ 64 → written ≡ outputs
    → codes ≡ replicate 64 0
    → ◌≡◌ {A = Configuration}
    (record {
      leaf = 0;
      memory = take m (replicate 4 (pos 0));
      outputs = take (length outputs) (written ++ drop (length outputs) (replicate 8 (pos 0)));
      last =
          map child_of (take n codes);
    }) (record {
      leaf = 0;
      memory = replicate m (pos 0);
      outputs = outputs;
      last =
          replicate n None;
    })
seen-new m n outputs written codes few small e none =
    let a : take m (replicate 4 (pos 0)) ≡ replicate m (pos 0) = take-replicate m 4 (pos 0) few in
    let b : take (length outputs) (written ++ drop (length outputs) (replicate 8 (pos 0))) ≡ outputs =
    rw e (take_at outputs (drop (length outputs) (replicate 8 (pos 0))) (length outputs) refl) in
    let d : map child_of (take n codes) ≡ replicate n None = rw none (map-take-blank child_of 64 n 0 small) in
    λ i. record { leaf = 0; memory = a i; outputs = b i; last = d i }
