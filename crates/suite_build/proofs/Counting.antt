-- The product of steps.
use Rattle.std.proofs.Common.{◌≡◌, ℕ, ◌+◌, ◌-◌, ◌*◌, ◌<◌, ◌≤◌, zero, suc, max, List, length, All, refl, ap, sym, ◌∙◌, ◌⊎◌, inl, inr, arith}
use Rattle.std.proofs.lemmas.Bool.{cases_eq, cases_lt}
use Rattle.std.proofs.lemmas.Nat.{mul-le}
use Rattle.std.proofs.lemmas.List.Sums.{sum_by-le}
use Rattle.suite_build.specs.inside.Entered.{letters_of}
use Rattle.suite_build.specs.Steps.{steps, words_upto}

pub upto_some : (c k : ℕ) → 0 < words_upto c k
upto_some c zero = omega arith
upto_some c (suc k) = omega arith

upto_more : (c k : ℕ) → 0 < c → words_upto c k ≤ words_upto c (suc k)
upto_more c k h = omega (arith, mul-le 1 (words_upto c k) c (words_upto c k) h (omega arith))

pub upto_rises : (c j d : ℕ) → 0 < c → words_upto c j ≤ words_upto c (j + d)
upto_rises c j zero h = let e : j + 0 ≡ j = omega arith in rw (e) (omega arith)
upto_rises c j (suc d) h =
    let e : j + suc d ≡ suc (j + d) = omega arith in
    rw (e) (omega (arith, upto_rises c j d h, upto_more c (j + d) h))

pub upto_at : (c k : ℕ) → words_upto c (k + 1) ≡ 1 + c * words_upto c k
upto_at c k = let e : k + 1 ≡ suc k = omega arith in rw (e) refl

-- each product of positive numbers is at least each of them
pub product_at_least : (n w a b : ℕ) → 0 < n → 0 < a → 0 < b → w ≤ n * w * a * b
product_at_least n w a b hn ha hb =
    let x = mul-le 1 w n w hn (omega arith) in
    let y = mul-le (n * w) 1 (n * w) a (omega arith) ha in
    let z = mul-le (n * w * a) 1 (n * w * a) b (omega arith) hb in
    omega (arith, x, y, z)

-- the words of so many letters, and so the steps, are too many already
pub too_many : (n c m j : ℕ) → 0 < n → 0 < c → n ≤ m → j ≤ m - n → 20000000 < words_upto c (j + 1) → 20000000 < steps n c m
too_many n c m j hn hc hm hj h =
    let e : j + 1 + (m - n - j) ≡ m - n + 1 = omega arith in
    let rise : words_upto c (j + 1) ≤ words_upto c (m - n + 1) = rw (e) at (upto_rises c (j + 1) (m - n - j) hc) in
    let low = product_at_least n (words_upto c (m - n + 1)) (max 1 (n - 1)) (2 * n + (m - n)) hn (omega arith) (omega arith) in
    omega (arith, rise, low, h)

-- the products of the last line fit
pub fits_four : (n w a b : ℕ) → n ≤ 1024 → w ≤ 20000000 → a ≤ 1024 → b ≤ 4096 → (n * w ≤ 20480000000) ×
    ((n * w * a ≤ 20971520000000) × (n * w * a * b ≤ 85899345920000000))
fits_four n w a b hn hw ha hb =
    let x : n * w ≤ 20480000000 = mul-le n w 1024 20000000 hn hw in
    let y : n * w * a ≤ 20971520000000 = mul-le (n * w) a 20480000000 1024 x ha in
    let z : n * w * a * b ≤ 85899345920000000 = mul-le (n * w * a) b 20971520000000 4096 y hb in
    (x, (y, z))

-- what the marks add to each word of a product
marks_few : (n k : ℕ) (words : List (List ℕ)) → 0 < n → length words ≤ max 1 (n - 1) → All (λ w. length w ≤ n - 1) words →
    letters_of words + 1 ≤ max 1 (n - 1) * (2 * n + k)
marks_few n k words some count short =
    let x = sum_by-le (λ (w : List ℕ). length w) (n - 1) words short in
    let y = mul-le (length words) (n - 1) (max 1 (n - 1)) (n - 1) count (omega arith) in
    let z = mul-le (max 1 (n - 1)) (n - 1 + 1) (max 1 (n - 1)) (2 * n + k) (omega arith) (omega (arith, some)) in
    omega (arith, x, y, z)

-- the words of all products are no more than the steps
pub products_few : (n c m : ℕ) (words : List (List ℕ)) → 0 < n → length words ≤ max 1 (n - 1) → All (λ w. length w ≤ n - 1) words →
    n * ((letters_of words + 1) * words_upto c (m - n + 1)) ≤ steps n c m
products_few n c m words some count short =
    let x = marks_few n (m - n) words some count short in
    let y = mul-le (letters_of words + 1) (words_upto c (m - n + 1)) (max 1 (n - 1) * (2 * n + (m - n))) (words_upto c (m - n + 1)) x (omega arith) in
    let z = mul-le n ((letters_of words + 1) * words_upto c (m - n + 1)) n (max 1 (n - 1) * (2 * n + (m - n)) * words_upto c (m - n + 1)) (omega arith) y in
    let same : n * (max 1 (n - 1) * (2 * n + (m - n)) * words_upto c (m - n + 1)) ≡ steps n c m =
    reorder n (max 1 (n - 1)) (2 * n + (m - n)) (words_upto c (m - n + 1)) in
    omega (arith, z, same)
  where
    reorder : (n a b w : ℕ) → n * (a * b * w) ≡ n * w * a * b
    reorder n a b w = omega arith
