-- The values of memories that are put into a sum one memory after another.
use Rattle.std.proofs.Common.{◌≡◌, ℕ, zero, suc, ◌+◌, ◌*◌, ◌≤◌, Bool, true, false, if◌then◌else◌, List, [], ◌∷◌, ◌++◌, map, length, get_or, take, drop, ◌<◌, ℤ, pos, ◌+ℤ◌, ◌-ℤ◌, ◌*ℤ◌, ◌≤ℤ◌, ◌<ℤ◌, All, FitsSigned, w64, to_z, of_z, arith, ap, sym, subst, ◌∙◌, refl}
use Rattle.std.specs.Prelude.{flat_map, unsigned_abs}
use Rattle.std.specs.List.{AllByRecursion}
use Rattle.std.specs.Int.Signed.{lt_z}
use Rattle.std.specs.Ordering.{int_eq}
use Rattle.std.proofs.lemmas.Bool.Decides.{Decides-int_eq}
use Rattle.std.proofs.lemmas.Int.{ints, to_z-of_z, unsigned_abs-mul}
use Rattle.std.proofs.lemmas.List.{append-nil, append_assoc, drop_all, drop_more, flat_map_more, map-append, take_more}
use Rattle.std.proofs.lemmas.List.Concat.{flat_map-append}
use Rattle.std.proofs.lemmas.List.Elements.{All-from_recursion, recursion_from_All}
use Rattle.std.proofs.lemmas.List.Sums.{sum_by-cons}
use Rattle.std.proofs.lemmas.Simd.{map-map}
use Rattle.std.proofs.Math.Nat.{mul-le-mul_left}
use Rattle.lin_form.proofs.CallerLemmas.{unsigned_abs-add-le}
use Rattle.lin_form.specs.Form.{size_of, sum_of_products}
use Rattle.chart_model.specs.Chart.{IsMemory, range_size}
use Rattle.chart_model.specs.declared.state.Memory.{Memory}
use Rattle.guard_atoms.specs.Atoms.{numbers_from, valuations, values_of}
use Rattle.guard_atoms.specs.inside.Adding.{sums_from}
use Rattle.guard_atoms.proofs.Each.{joined, mapped, weaker}

-- for each number, the sums of it and the products of all values that are put in
abbrev pub sums_over : List ℤ → List Memory → List ℤ → List ℤ
sums_over cs memories constants = flat_map (λ constant. map (λ values. sum_of_products cs values +ℤ constant) (valuations cs memories)) constants

moved : (a b c : ℤ) → (a +ℤ b) +ℤ c ≡ b +ℤ (c +ℤ a)
moved a b c = omega (arith, ints)

abbrev Sums : List ℤ → List Memory → ℤ → List ℤ
Sums cs memories constant = map (λ values. sum_of_products cs values +ℤ constant) (valuations cs memories)

one_value : (c v constant : ℤ) (cs : List ℤ) (memories : List Memory) → map (λ values. sum_of_products (c ∷ cs) values +ℤ constant) (map (λ values. v ∷ values) (valuations cs memories)) ≡ Sums cs memories (constant +ℤ c *ℤ v)
one_value c v constant cs memories =
    map-map (λ values. sum_of_products (c ∷ cs) values +ℤ constant) (λ values. v ∷ values) (valuations cs memories)
    ∙ (λ i. map (λ values. moved (c *ℤ v) (sum_of_products cs values) constant i) (valuations cs memories))

each_value : (c constant : ℤ) (cs : List ℤ) (memories : List Memory) (vs : List ℤ) → map (λ values. sum_of_products (c ∷ cs) values +ℤ constant) (flat_map (λ v. map (λ values. v ∷ values) (valuations cs memories)) vs) ≡ sums_over cs memories (map (λ v. constant +ℤ c *ℤ v) vs)
each_value c constant cs memories [] = refl
each_value c constant cs memories (v ∷ vs) =
    map-append (λ values. sum_of_products (c ∷ cs) values +ℤ constant) (map (λ values. v ∷ values) (valuations cs memories)) (flat_map (λ v. map (λ values. v ∷ values) (valuations cs memories)) vs)
    ∙ (λ i. one_value c v constant cs memories i ++ each_value c constant cs memories vs i)

-- the values of one memory are put in
one_more : (c : ℤ) (cs : List ℤ) (memory : Memory) (memories : List Memory) (constants : List ℤ) → sums_over (c ∷ cs) (memory ∷ memories) constants ≡ sums_over cs memories (flat_map (λ constant. map (λ v. constant +ℤ c *ℤ v) (values_of c memory)) constants)
one_more c cs memory memories [] = refl
one_more c cs memory memories (constant ∷ constants) =
    (λ i. each_value c constant cs memories (values_of c memory) i ++ one_more c cs memory memories constants i)
    ∙ sym (flat_map-append (Sums cs memories) (map (λ v. constant +ℤ c *ℤ v) (values_of c memory)) (flat_map (λ constant. map (λ v. constant +ℤ c *ℤ v) (values_of c memory)) constants))

values_if : (c : ℤ) (memory : Memory) (b : Bool) → int_eq c (pos 0) ≡ b → values_of c memory ≡ (if b then pos 0 ∷ [] else numbers_from memory.lo (range_size memory))
values_if c memory b e = λ i. if e i then pos 0 ∷ [] else numbers_from memory.lo (range_size memory)

no_product : (c constant : ℤ) → constant +ℤ c *ℤ pos 0 ≡ constant
no_product c constant = omega (arith, ints)

nothing_put : (c : ℤ) (constants : List ℤ) → flat_map (λ constant. (constant +ℤ c *ℤ pos 0) ∷ []) constants ≡ constants
nothing_put c [] = refl
nothing_put c (constant ∷ constants) = λ i. no_product c constant i ∷ nothing_put c constants i

unnamed : (c : ℤ) (cs : List ℤ) (memory : Memory) (memories : List Memory) (constants : List ℤ) → int_eq c (pos 0) ≡ true → sums_over (c ∷ cs) (memory ∷ memories) constants ≡ sums_over cs memories constants
unnamed c cs memory memories constants e =
    one_more c cs memory memories constants
    ∙ (λ i. sums_over cs memories (flat_map (λ constant. map (λ v. constant +ℤ c *ℤ v) (values_if c memory true e i)) constants))
    ∙ ap (sums_over cs memories) (nothing_put c constants)

named : (c : ℤ) (cs : List ℤ) (memory : Memory) (memories : List Memory) (constants : List ℤ) → int_eq c (pos 0) ≡ false → sums_over (c ∷ cs) (memory ∷ memories) constants ≡ sums_over cs memories (flat_map (sums_from c memory) constants)
named c cs memory memories constants e =
    one_more c cs memory memories constants
    ∙ (λ i. sums_over cs memories (flat_map (λ constant. map (λ v. constant +ℤ c *ℤ v) (values_if c memory false e i)) constants))

no_sum : (cs : List ℤ) (constant : ℤ) → sum_of_products cs [] +ℤ constant ≡ constant
no_sum [] constant = omega (arith, ints)
no_sum (c ∷ cs) constant = omega (arith, ints)

none_left : (cs constants : List ℤ) → sums_over cs [] constants ≡ constants
none_left cs [] = refl
none_left cs (constant ∷ constants) = λ i. no_sum cs constant i ∷ none_left cs constants i

-- a number, and what the memories may add to it, is within a bound
abbrev IsBelow : ℕ → List ℤ → ℤ → Type 0
IsBelow most cs constant = unsigned_abs constant + 1000 * size_of cs ≤ most

-- the sums of which the first memories' values were put in
pub record IsPutIn (coefficients : List ℤ) (memories : List Memory) (constant : ℤ) (constants : List ℤ) (i : ℕ) : Type 0 where
  pub left : sums_over (drop i coefficients) (drop i memories) constants ≡ map (λ values. sum_of_products coefficients values +ℤ constant) (valuations coefficients memories)
  pub small : All (λ constant. unsigned_abs constant + 1000 * size_of (drop i coefficients) ≤ 901000000000) constants

size_more : (c : ℤ) (cs : List ℤ) → size_of (c ∷ cs) ≡ unsigned_abs c + size_of cs
size_more c cs = sum_by-cons unsigned_abs c cs

product_small : (c v : ℤ) → unsigned_abs v ≤ 1000 → unsigned_abs (c *ℤ v) ≤ unsigned_abs c * 1000
product_small c v h = rw unsigned_abs-mul (mul-le-mul_left (unsigned_abs c) h)

sum_small : (c v constant : ℤ) (cs : List ℤ) (most : ℕ) → unsigned_abs v ≤ 1000 → IsBelow most (c ∷ cs) constant → IsBelow most cs (constant +ℤ c *ℤ v)
sum_small c v constant cs most h k =
    let product = product_small c v h in
    let both = unsigned_abs-add-le constant (c *ℤ v) in
    let size = size_more c cs in
    omega (arith, product, both, size, k)

pub is_less : (a b : ℤ) → lt_z a b ≡ true → a <ℤ b
is_less a b e = grind (arith, ints)

pub is_not_less : (a b : ℤ) → lt_z a b ≡ false → b ≤ℤ a
is_not_less a b e = grind (arith, ints)

-- one element more of a list of lists that are put together
pub flat_more : {X Y : Type 0} (f : X → List Y) (xs : List X) (i : ℕ) (d : X) (before after : List Y) → i < length xs → before ≡ flat_map f (take i xs) → after ≡ before ++ f (get_or xs i d) → after ≡ flat_map f (take (i + 1) xs)
flat_more f xs i d before after l e h =
    h ∙ (λ j. e j ++ f (get_or xs i d)) ∙ flat_map_more f [] (take i xs) (get_or xs i d) ∙ ap (flat_map f) (sym (take_more xs i d l))

-- the sums so far, and those that are still to come
pub record IsSumming (coefficient constant : ℤ) (memory : Memory) (old sums : List ℤ) (value end : ℤ) : Type 0 where
  pub above : memory.lo ≤ℤ value
  pub below : value ≤ℤ end
  pub to : end ≡ memory.hi +ℤ pos 1
  pub same : sums ++ map (λ v. constant +ℤ coefficient *ℤ v) (numbers_from value (unsigned_abs (end -ℤ value))) ≡ old ++ sums_from coefficient memory constant

numbers_all : (memory : Memory) → IsMemory memory → range_size memory ≡ unsigned_abs (memory.hi +ℤ pos 1 -ℤ memory.lo)
numbers_all memory is =
    let below = is.above in
    let above = is.below in
    omega (arith, ints)

pub summing_begins : (coefficient constant : ℤ) (memory : Memory) (old : List ℤ) → IsMemory memory → IsSumming coefficient constant memory old old memory.lo (memory.hi +ℤ pos 1)
summing_begins coefficient constant memory old is = record {
  above = omega (arith, ints);
  below = let low = is.above in let high = is.below in omega (arith, ints);
  to = refl;
  same = λ i. old ++ map (λ v. constant +ℤ coefficient *ℤ v) (numbers_from memory.lo (sym (numbers_all memory is) i));
}

one_fewer : (value end : ℤ) → value <ℤ end → unsigned_abs (end -ℤ value) ≡ suc (unsigned_abs (end -ℤ (value +ℤ pos 1)))
one_fewer value end l = omega (arith, ints)

pub summing_more : (coefficient constant : ℤ) (memory : Memory) (old sums new : List ℤ) (value end : ℤ) → IsSumming coefficient constant memory old sums value end → value <ℤ end → new ≡ sums ++ (constant +ℤ coefficient *ℤ value) ∷ [] → IsSumming coefficient constant memory old new (value +ℤ pos 1) end
summing_more coefficient constant memory old sums new value end h l e =
    let f : ℤ → ℤ = λ v. constant +ℤ coefficient *ℤ v in
    let rest = map (λ v. constant +ℤ coefficient *ℤ v) (numbers_from (value +ℤ pos 1) (unsigned_abs (end -ℤ (value +ℤ pos 1)))) in
    record {
      above = let above = h.above in omega (arith, ints);
      below = omega (arith, ints);
      to = h.to;
      same = ap (λ l. l ++ rest) e ∙ append_assoc sums ((constant +ℤ coefficient *ℤ value) ∷ []) rest ∙ (λ i. sums ++ map (λ v. constant +ℤ coefficient *ℤ v) (numbers_from value (sym (one_fewer value end l) i))) ∙ h.same;
    }

pub summing_ends : (coefficient constant : ℤ) (memory : Memory) (old sums : List ℤ) (value end : ℤ) → IsSumming coefficient constant memory old sums value end → end ≤ℤ value → sums ≡ old ++ sums_from coefficient memory constant
summing_ends coefficient constant memory old sums value end h l =
    let below = h.below in
    let none : unsigned_abs (end -ℤ value) ≡ 0 = omega (arith, ints) in
    sym (append-nil sums) ∙ (λ i. sums ++ map (λ v. constant +ℤ coefficient *ℤ v) (numbers_from value (sym none i))) ∙ h.same

-- the next value, and its sum, are small
pub summing_small : (coefficient constant : ℤ) (memory : Memory) (old sums : List ℤ) (value end : ℤ) → IsMemory memory → IsSumming coefficient constant memory old sums value end → value <ℤ end → unsigned_abs constant + 1000 * unsigned_abs coefficient ≤ 901000000000 → (unsigned_abs (coefficient *ℤ value) ≤ 901000000000) × (unsigned_abs (constant +ℤ coefficient *ℤ value) ≤ 901000000000)
summing_small coefficient constant memory old sums value end is h l small =
    let low = is.low in
    let high = is.high in
    let above = h.above in
    let to = h.to in
    let v : unsigned_abs value ≤ 1000 = omega (arith, ints) in
    let product = product_small coefficient value v in
    let both = unsigned_abs-add-le constant (coefficient *ℤ value) in
    (omega (arith, product, small), omega (arith, product, small, both))

each_number : (P : ℤ → Type 0) (low : ℤ) (n : ℕ) → ((v : ℤ) → low ≤ℤ v → v <ℤ (low +ℤ pos n) → P v) → AllByRecursion P (numbers_from low n)
each_number P low zero f = tt
each_number P low (suc n) f = (f low (omega (arith, ints)) (omega (arith, ints)), each_number P (low +ℤ pos 1) n (λ v l h. f v (omega (arith, ints)) (omega (arith, ints))))

value_small : (memory : Memory) → IsMemory memory → (v : ℤ) → memory.lo ≤ℤ v → v <ℤ (memory.lo +ℤ pos (range_size memory)) → unsigned_abs v ≤ 1000
value_small memory is v l h =
    let low = is.low in
    let high = is.high in
    let above = is.above in
    let below = is.below in
    omega (arith, ints)

all_small : (most : ℕ) (c : ℤ) (cs : List ℤ) (memory : Memory) → IsMemory memory → (constants : List ℤ) → AllByRecursion (IsBelow most (c ∷ cs)) constants → AllByRecursion (IsBelow most cs) (flat_map (sums_from c memory) constants)
all_small most c cs memory is [] h = tt
all_small most c cs memory is (constant ∷ constants) h =
    let one : AllByRecursion (λ v. IsBelow most cs (constant +ℤ c *ℤ v)) (numbers_from memory.lo (range_size memory)) =
    each_number (λ v. IsBelow most cs (constant +ℤ c *ℤ v)) memory.lo (range_size memory) (λ v l k. sum_small c v constant cs most (value_small memory is v l k) h.0) in
    joined (IsBelow most cs) (sums_from c memory constant) (flat_map (sums_from c memory) constants)
    (mapped (IsBelow most cs) (λ v. constant +ℤ c *ℤ v) (numbers_from memory.lo (range_size memory)) one) (all_small most c cs memory is constants h.1)

below_rest : (most : ℕ) (c : ℤ) (cs : List ℤ) (constant : ℤ) → IsBelow most (c ∷ cs) constant → IsBelow most cs constant
below_rest most c cs constant h = let size = size_more c cs in omega (arith, size, h)

abbrev Most : ℕ
Most = 901000000000

-- one memory more that is named
pub put_named : (coefficients : List ℤ) (memories : List Memory) (constant : ℤ) (constants new : List ℤ) (i : ℕ) (memory : Memory) → i < length memories → i < length coefficients → memory ≡ get_or memories i memory → IsMemory memory → int_eq (get_or coefficients i (pos 0)) (pos 0) ≡ false → new ≡ flat_map (sums_from (get_or coefficients i (pos 0)) memory) constants → IsPutIn coefficients memories constant constants i → IsPutIn coefficients memories constant new (i + 1)
put_named coefficients memories constant constants new i memory l m at is e new_is h =
    let c = get_or coefficients i (pos 0) in
    let cs = drop_more coefficients i (pos 0) m in
    let ms : drop i memories ≡ memory ∷ drop (i + 1) memories = drop_more memories i memory l ∙ ap (λ q. q ∷ drop (i + 1) memories) (sym at) in
    record {
      left = ap (sums_over (drop (i + 1) coefficients) (drop (i + 1) memories)) new_is
          ∙ sym (named (get_or coefficients i (pos 0)) (drop (i + 1) coefficients) memory (drop (i + 1) memories) constants e)
          ∙ (λ j. sums_over (sym cs j) (sym ms j) constants) ∙ h.left;
      small = subst (All (IsBelow Most (drop (i + 1) coefficients))) (sym new_is)
          (All-from_recursion (IsBelow Most (drop (i + 1) coefficients)) (flat_map (sums_from (get_or coefficients i (pos 0)) memory) constants)
          (all_small Most (get_or coefficients i (pos 0)) (drop (i + 1) coefficients) memory is constants
          (recursion_from_All (IsBelow Most (get_or coefficients i (pos 0) ∷ drop (i + 1) coefficients)) constants (subst (λ l. All (IsBelow Most l) constants) cs h.small))));
    }

-- one memory more that is not named
pub put_unnamed : (coefficients : List ℤ) (memories : List Memory) (constant : ℤ) (constants : List ℤ) (i : ℕ) (memory : Memory) → i < length memories → i < length coefficients → memory ≡ get_or memories i memory → int_eq (get_or coefficients i (pos 0)) (pos 0) ≡ true → IsPutIn coefficients memories constant constants i → IsPutIn coefficients memories constant constants (i + 1)
put_unnamed coefficients memories constant constants i memory l m at e h =
    let cs = drop_more coefficients i (pos 0) m in
    let ms : drop i memories ≡ memory ∷ drop (i + 1) memories = drop_more memories i memory l ∙ ap (λ q. q ∷ drop (i + 1) memories) (sym at) in
    record {
      left = sym (unnamed (get_or coefficients i (pos 0)) (drop (i + 1) coefficients) memory (drop (i + 1) memories) constants e)
          ∙ (λ j. sums_over (sym cs j) (sym ms j) constants) ∙ h.left;
      small = All-from_recursion (IsBelow Most (drop (i + 1) coefficients)) constants
          (weaker (IsBelow Most (get_or coefficients i (pos 0) ∷ drop (i + 1) coefficients)) (IsBelow Most (drop (i + 1) coefficients)) constants
          (below_rest Most (get_or coefficients i (pos 0)) (drop (i + 1) coefficients))
          (recursion_from_All (IsBelow Most (get_or coefficients i (pos 0) ∷ drop (i + 1) coefficients)) constants (subst (λ l. All (IsBelow Most l) constants) cs h.small)));
    }

-- the values of all memories are put in
pub put_all : (coefficients : List ℤ) (memories : List Memory) (constant : ℤ) (constants : List ℤ) (i : ℕ) → length memories ≤ i → IsPutIn coefficients memories constant constants i → constants ≡ map (λ values. sum_of_products coefficients values +ℤ constant) (valuations coefficients memories)
put_all coefficients memories constant constants i l h =
    sym (none_left (drop i coefficients) constants) ∙ ap (λ ms. sums_over (drop i coefficients) ms constants) (sym (drop_all i memories l)) ∙ h.left

-- a coefficient that is 0, and one that is not
pub is_zero : (c : ℤ) → FitsSigned w64 c → of_z w64 c ≡ 0 → int_eq c (pos 0) ≡ true
is_zero c f e = (Decides-int_eq c (pos 0)).1 (sym (to_z-of_z w64 c f) ∙ ap (to_z w64) e)

pub is_not_zero : (c : ℤ) → (of_z w64 c ≡ 0 → ⊥) → int_eq c (pos 0) ≡ false
is_not_zero c f = by (int_eq c (pos 0)) refl
  where
    by : (b : Bool) → int_eq c (pos 0) ≡ b → b ≡ false
    by true e = absurd (f (ap (of_z w64) ((Decides-int_eq c (pos 0)).0 e)))
    by false e = refl
