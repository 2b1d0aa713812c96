-- What actions compute, and what they keep.
use Rattle.std.proofs.Common.{◌≡◌, ℕ, zero, suc, ◌-◌, Bool, true, false, if◌then◌else◌, set, drop, replicate, Some, subst, ◌+◌, ◌*◌, ◌<◌, ◌≤◌, List}
use Rattle.std.proofs.Common.{[], ◌∷◌, ◌++◌, length, get_or, take, ℤ, pos, ◌+ℤ◌, ◌*ℤ◌, FitsSigned, w64, refl, ap, sym, ◌∙◌, arith}
use Rattle.std.specs.Prelude.{unsigned_abs, int_lt, nat_lt, slice_get}
use Rattle.std.specs.List.{All, AllZip, AllByRecursion}
use Rattle.std.proofs.lemmas.Int.{fits_signed_from_abs, unsigned_abs-mul, ints}
use Rattle.std.proofs.lemmas.List.{length-set, take_all, at_drop_more, at_drop_all}
use Rattle.std.proofs.lemmas.List.Elements.{All-take, All-append, All-replicate, All-set, All-from_recursion, recursion_from_All}
use Rattle.std.proofs.lemmas.List.Sums.{get_or-le-sum_by, sum_by-take-le}
use Rattle.std.proofs.lemmas.Bool.Decides.{nat_tests}
use Rattle.std.proofs.lemmas.Option.{same_Some, slice_get_within, get_or_from_slice_get}
use Rattle.std.proofs.Math.Nat.{mul-le-mul}
use Rattle.lin_form.specs.declared.form.Form.{Form}
use Rattle.lin_form.specs.Padded.{padded}
use Rattle.lin_form.specs.Form.{sum_of_products, size_of}
use Rattle.lin_form.specs.Range.{AreWithin}
use Rattle.chart_model.specs.declared.action.Action.{Action}
use Rattle.chart_model.specs.declared.action.Place.TheVariants as place
use Rattle.chart_model.specs.declared.action.Place.{Place}
use Rattle.chart_model.specs.declared.chart.Chart.{Chart}
use Rattle.chart_model.specs.declared.state.Memory.{Memory}
use Rattle.chart_model.specs.Chart.{IsMemory, is_declared}
use Rattle.chart_meaning.specs.Configuration.{Configuration}
use Rattle.chart_meaning.specs.Actions.{sum_of, nearest, act, run}
use Rattle.chart_meaning.specs.IsConfiguration.{AreValues, IsInMemory}
use Rattle.lin_form.proofs.Products.{sum_of_products-more, sum_of_products-bound}

-- the sum over the first i places
pub record IsSumSoFar (coefficients numbers : List ℤ) (i : ℕ) (total : ℤ) : Type 0 where
  pub value : total ≡ sum_of_products (take i coefficients) (take i numbers)

-- a sum over the first places of memories is small
pub sum-bound : (coefficients numbers : List ℤ) (i : ℕ) → size_of coefficients ≤ 900000000 → AreWithin 1000 numbers
    → unsigned_abs (sum_of_products (take i coefficients) (take i numbers)) ≤ 900000000000
sum-bound coefficients numbers i size small =
    let part = sum_of_products-bound (take i coefficients) (take i numbers) 1000 (All-take (λ x. unsigned_abs x ≤ 1000) i numbers small) in
    let less = sum_by-take-le unsigned_abs coefficients i in
    omega arith

pub product-bound : (coefficients numbers : List ℤ) (i : ℕ) → size_of coefficients ≤ 900000000
    → AreWithin 1000 numbers → i < length coefficients → i < length numbers
    → unsigned_abs (get_or coefficients i (pos 0) *ℤ get_or numbers i (pos 0)) ≤ 900000000000
product-bound coefficients numbers i size small h k =
    let a = get_or-le-sum_by unsigned_abs coefficients i (pos 0) h in
    let b = small i (pos 0) k in
    let m : unsigned_abs (get_or coefficients i (pos 0)) * unsigned_abs
    (get_or numbers i (pos 0)) ≤ 900000000 * 1000 =
    let c : unsigned_abs (get_or coefficients i (pos 0)) ≤ 900000000 = omega arith in mul-le-mul c b in
    rw (unsigned_abs-mul (get_or coefficients i (pos 0)) (get_or numbers i (pos 0))) (omega arith)

pub IsSumSoFar-more : (coefficients numbers : List ℤ) (i : ℕ) (total : ℤ) → length coefficients ≡ length numbers
    → i < length coefficients → IsSumSoFar coefficients numbers i total
    → IsSumSoFar coefficients numbers (i + 1) (total +ℤ get_or coefficients i (pos 0) *ℤ get_or numbers i (pos 0))
IsSumSoFar-more coefficients numbers i total same h s = record {
  value = let e = sum_of_products-more coefficients numbers i (pos 0) (pos 0) same h in rw (s.value, e) refl;
}

zero_more : (a : ℤ) (coefficients : List ℤ) (n : ℕ) → a *ℤ pos 0 +ℤ sum_of_products coefficients (replicate n (pos 0)) ≡ pos 0
zero_more a [] n = omega (arith, ints)
zero_more a (b ∷ coefficients) zero = omega (arith, ints)
zero_more a (b ∷ coefficients) (suc n) = let h = zero_more b coefficients n in omega (arith, ints)

pub sum_of_products-zeros_after : (coefficients numbers : List ℤ) (n : ℕ)
    → sum_of_products coefficients (numbers ++ replicate n (pos 0)) ≡ sum_of_products coefficients numbers
sum_of_products-zeros_after [] numbers n = refl
sum_of_products-zeros_after (a ∷ coefficients) [] zero = refl
sum_of_products-zeros_after (a ∷ coefficients) [] (suc n) = zero_more a coefficients n
sum_of_products-zeros_after (a ∷ coefficients) (x ∷ numbers) n = ap (λ z. a *ℤ x +ℤ z) (sum_of_products-zeros_after coefficients numbers n)

-- the sum for a configuration's array of memories
pub sum_of-padded : (form : Form) (memory : List ℤ) → sum_of form (padded (pos 0) 4 memory) ≡ sum_of form memory
sum_of-padded form memory = ap (λ z. z +ℤ form.constant) (sum_of_products-zeros_after form.memory memory (4 - length memory))

near : (memory : Memory) (z : ℤ) (below above : Bool) → IsMemory memory → int_lt z memory.lo ≡ below
    → int_lt memory.hi z ≡ above → IsInMemory memory (if below then memory.lo else (if above then memory.hi else z))
near memory z true above m b a = let p = m.above in let q = m.below in (omega (arith, ints), omega (arith, ints))
near memory z false true m b a = let p = m.above in let q = m.below in (omega (arith, ints), omega (arith, ints))
near memory z false false m b a = (grind (arith, ints, nat_tests), grind (arith, ints, nat_tests))

-- a memory's value lies in its range
pub IsInMemory-nearest : (memory : Memory) (z : ℤ) → IsMemory memory → IsInMemory memory (nearest memory z)
IsInMemory-nearest memory z m = near memory z (int_lt z memory.lo) (int_lt memory.hi z) m refl refl

small_between : (memory : Memory) (z : ℤ) → IsMemory memory → IsInMemory memory z → unsigned_abs z ≤ 1000
small_between memory z m h = let a = m.low in let b = m.high in let p = h.0 in let q = h.1 in omega (arith, ints)

pub small_values : (memories : List Memory) (values : List ℤ) → AllByRecursion IsMemory memories
    → AllZip IsInMemory memories values → AllByRecursion (λ z. unsigned_abs z ≤ 1000) values
small_values [] [] m h = tt
small_values [] (z ∷ values) m h = absurd h
small_values (memory ∷ memories) [] m h = absurd h
small_values (memory ∷ memories) (z ∷ values) m h = (small_between memory z m.0 h.0, small_values memories values m.1 h.1)

pub AreWithin-padded : (memories : List Memory) (values : List ℤ) → All IsMemory memories
    → AllZip IsInMemory memories values → AreWithin 1000 (padded (pos 0) 4 values)
AreWithin-padded memories values m h =
    let small = All-from_recursion (λ z. unsigned_abs z ≤ 1000) values (small_values memories values (recursion_from_All IsMemory memories m) h) in
    All-append (λ z. unsigned_abs z ≤ 1000) values (replicate (4 - length values) (pos 0)) small
    (All-replicate (λ z. unsigned_abs z ≤ 1000) (4 - length values) (pos 0) (omega arith))

pub length-AllZip : {A B : Type 0} (R : A → B → Type 0) (xs : List A) (ys : List B) → AllZip R xs ys → length xs ≡ length ys
length-AllZip R [] [] h = refl
length-AllZip R [] (y ∷ ys) h = absurd h
length-AllZip R (x ∷ xs) [] h = absurd h
length-AllZip R (x ∷ xs) (y ∷ ys) h = ap suc (length-AllZip R xs ys h.1)

pub AllZip-set : {A B : Type 0} (R : A → B → Type 0) (xs : List A) (ys : List B) (i : ℕ) (x : A) (y : B)
    → slice_get xs i ≡ Some x → R x y → AllZip R xs ys → AllZip R xs (set ys i y)
AllZip-set R [] [] i x y e r h = h
AllZip-set R [] (b ∷ ys) i x y e r h = absurd h
AllZip-set R (a ∷ xs) [] i x y e r h = absurd h
AllZip-set R (a ∷ xs) (b ∷ ys) zero x y e r h = (subst (λ v. R v y) (sym (same_Some a x e)) r, h.1)
AllZip-set R (a ∷ xs) (b ∷ ys) (suc i) x y e r h = (h.0, AllZip-set R xs ys i x y e r h.1)

pub act-memory : (memories : List Memory) (action : Action) (c : Configuration) (number : ℕ) (memory : Memory) (z : ℤ)
    → action.place ≡ place.Memory number → slice_get memories number ≡ Some memory
    → z ≡ sum_of action.value (padded (pos 0) 4 c.memory)
    → act memories action c ≡ record c { memory = set c.memory number (nearest memory z) }
act-memory memories action c number memory z e found value =
    let sum : sum_of action.value c.memory ≡ z = sym (value ∙ sum_of-padded action.value c.memory) in
    rw (e, sum, found) refl

pub act-output : (memories : List Memory) (action : Action) (c : Configuration) (number : ℕ) (z : ℤ)
    → action.place ≡ place.Output number → z ≡ sum_of action.value (padded (pos 0) 4 c.memory)
    → act memories action c ≡ record c { outputs = set c.outputs number z }
act-output memories action c number z e value =
    let sum : sum_of action.value c.memory ≡ z = sym (value ∙ sum_of-padded action.value c.memory) in
    rw (e, sum) refl

pub AreValues-memory : (chart : Chart) (c : Configuration) (number : ℕ) (memory : Memory) (z : ℤ)
    → slice_get chart.memories number ≡ Some memory → IsMemory memory → AreValues chart c
    → AreValues chart (record c { memory = set c.memory number (nearest memory z) })
AreValues-memory chart c number memory z found m v = record {
  memory = AllZip-set IsInMemory chart.memories c.memory number memory (nearest memory z) found (IsInMemory-nearest memory z m) v.memory;
  outputs = v.outputs;
  limited = v.limited;
}

pub AreValues-output : (chart : Chart) (c : Configuration) (number : ℕ) (z : ℤ) → unsigned_abs z < 1000000000000
    → AreValues chart c → AreValues chart (record c { outputs = set c.outputs number z })
AreValues-output chart c number z small v = record {
  memory = v.memory;
  outputs = length-set c.outputs number z ∙ v.outputs;
  limited = All-set (λ z. unsigned_abs z < 1000000000000) c.outputs number z small v.limited;
}

-- one place of a sum: the product, the sum with it, and that both fit
pub record IsSumStep (coefficients numbers : List ℤ) (i : ℕ) (total : ℤ) : Type 0 where
  pub coefficient_fits : FitsSigned w64 (get_or coefficients i (pos 0))
  pub number_fits : FitsSigned w64 (get_or numbers i (pos 0))
  pub product_fits : FitsSigned w64 (get_or coefficients i (pos 0) *ℤ get_or numbers i (pos 0))
  pub sum_fits : FitsSigned w64 (total +ℤ get_or coefficients i (pos 0) *ℤ get_or numbers i (pos 0))
  pub next : IsSumSoFar coefficients numbers (i + 1) (total +ℤ get_or coefficients i (pos 0) *ℤ get_or numbers i (pos 0))

pub IsSumStep-made : (coefficients numbers : List ℤ) (i : ℕ) (total : ℤ) → length coefficients ≡ 4
    → length numbers ≡ 4 → i < 4 → size_of coefficients ≤ 900000000 → AreWithin 1000 numbers
    → FitsSigned w64 (get_or coefficients i (pos 0)) → IsSumSoFar coefficients numbers i total
    → IsSumStep coefficients numbers i total
IsSumStep-made coefficients numbers i total four' same h size small fits s =
    let next = IsSumSoFar-more coefficients numbers i total (four' ∙ sym same) (omega arith) s in
    let bound = sum-bound coefficients numbers (i + 1) size small in
    let product = product-bound coefficients numbers i size small (omega arith) (omega arith) in
    let number = small i (pos 0) (omega arith) in
    record {
      coefficient_fits = fits;
      number_fits = fits_signed_from_abs w64 (get_or numbers i (pos 0)) (omega arith);
      product_fits = fits_signed_from_abs w64 (get_or coefficients i (pos 0) *ℤ get_or numbers i (pos 0)) (omega arith);
      sum_fits = rw next.value (fits_signed_from_abs w64 (sum_of_products (take (i + 1) coefficients) (take (i + 1) numbers)) (omega arith));
      next = next;
    }

pub sum_whole : (coefficients numbers : List ℤ) (i : ℕ) (total : ℤ) → length coefficients ≡ 4 → length numbers ≡ 4
    → 4 ≤ i → IsSumSoFar coefficients numbers i total → total ≡ sum_of_products coefficients numbers
sum_whole coefficients numbers i total four' same h s =
    s.value ∙ (λ j. sum_of_products (take_all i coefficients (omega arith) j) (take_all i numbers (omega arith) j))

pub sum_whole-bound : (coefficients numbers : List ℤ) (i : ℕ) (total : ℤ) → size_of coefficients ≤ 900000000
    → AreWithin 1000 numbers → IsSumSoFar coefficients numbers i total → unsigned_abs total ≤ 900000000000
sum_whole-bound coefficients numbers i total m small s = rw s.value (sum-bound coefficients numbers i m small)

-- the first i actions have run
pub record IsRunning (chart : Chart) (actions : List Action) (start : Configuration) (i : ℕ) (c : Configuration) : Type 0 where
  pub goes : run chart.memories (drop i actions) c ≡ run chart.memories actions start
  pub values : AreValues chart c

pub IsRunning-more : (chart : Chart) (actions : List Action) (start : Configuration) (i : ℕ) (c d : Configuration)
    (action : Action) → i < length actions → action ≡ get_or actions i action → d ≡ act chart.memories action c
    → AreValues chart d → IsRunning chart actions start i c → IsRunning chart actions start (i + 1) d
IsRunning-more chart actions start i c d action h is e v r = record {
  goes = rw e (ap (λ a. run chart.memories (drop (i + 1) actions) (act chart.memories a c)) is
      ∙ sym (at_drop_more (λ rest. run chart.memories rest c) actions i action h) ∙ r.goes);
  values = v;
}

pub IsRunning-end : (chart : Chart) (actions : List Action) (start : Configuration) (i : ℕ) (c : Configuration)
    → length actions ≤ i → IsRunning chart actions start i c → c ≡ run chart.memories actions start
IsRunning-end chart actions start i c h r = sym (at_drop_all (λ rest. run chart.memories rest c) actions i h) ∙ r.goes

pub declared_memory : (memories outputs : ℕ) (place' : Place) (number : ℕ) → place' ≡ place.Memory number
    → is_declared memories outputs place' ≡ true → number < memories
declared_memory memories outputs place' number e d = let h : nat_lt number memories ≡ true = rw e at d in grind (arith, nat_tests)

pub All_found : {X : Type 0} (P : X → Type 0) (xs : List X) (i : ℕ) (x : X) → All P xs → slice_get xs i ≡ Some x → P x
All_found P xs i x all e = subst P (get_or_from_slice_get xs i x x e) (all i x (slice_get_within xs i x e))
