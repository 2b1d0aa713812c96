use Rattle.std.proofs.Common.{◌≡◌, ℕ, zero, suc, ◌+◌, ◌<◌, ◌≤◌, Bool, true, false, ◌&&◌, ◌||◌, List, [], ◌∷◌, length, take, cond, refl, sym, ◌∙◌, arith}
use Rattle.std.specs.List.{prefix_len, list_all}
use Rattle.std.proofs.lemmas.List.Sums.{prefix_len-le-length}
use Rattle.line_tokens.specs.Spelling.{starts, is_symbol_byte, is_before_equals, is_symbol, is_token}
use Rattle.lin_form.specs.Name.{starts_name, continues_name}
use Rattle.std.specs.Char.{is_ascii_digit}
use Rattle.line_tokens.specs.Tokens.{IsLongestToken}
use Rattle.line_tokens.specs.Front.{starts_symbol, starts_joined}

-- a letter is no digit and no byte of a symbol, and a digit is no byte of a symbol
pub letter_no_digit : (b : ℕ) → starts_name b ≡ true → is_ascii_digit b ≡ false
letter_no_digit b h = grind arith

pub digit_no_letter : (b : ℕ) → is_ascii_digit b ≡ true → starts_name b ≡ false
digit_no_letter b h = grind arith

pub letter_no_symbol : (b : ℕ) → starts_name b ≡ true → is_symbol_byte b ≡ false
letter_no_symbol b h = grind arith

pub letter_not_before : (b : ℕ) → starts_name b ≡ true → is_before_equals b ≡ false
letter_not_before b h = grind arith

pub digit_no_symbol : (b : ℕ) → is_ascii_digit b ≡ true → is_symbol_byte b ≡ false
digit_no_symbol b h = grind arith

pub digit_not_before : (b : ℕ) → is_ascii_digit b ≡ true → is_before_equals b ≡ false
digit_not_before b h = grind arith

or_nothing : (a : Bool) → (a || false) ≡ a
or_nothing true = refl
or_nothing false = refl

pub no_symbol : (b : ℕ) (bs : List ℕ) → is_symbol_byte b ≡ false → is_before_equals b ≡ false → is_symbol (b ∷ bs) ≡ false
no_symbol b [] p q = p
no_symbol b (c ∷ []) p q = rw q refl
no_symbol b (c ∷ d ∷ bs) p q = refl

-- what a run is whose first byte is a letter, a digit, or neither
pub name_at : (b : ℕ) (ys : List ℕ) → starts_name b ≡ true → is_token (b ∷ ys) ≡ list_all continues_name ys
name_at b ys h = rw (h, letter_no_digit b h, no_symbol b ys (letter_no_symbol b h) (letter_not_before b h))
    (or_nothing (list_all continues_name ys || false) ∙ or_nothing (list_all continues_name ys))

pub number_at : (b : ℕ) (ys : List ℕ) → is_ascii_digit b ≡ true → is_token (b ∷ ys) ≡ list_all is_ascii_digit ys
number_at b ys h = rw (digit_no_letter b h, h, no_symbol b ys (digit_no_symbol b h) (digit_not_before b h)) (or_nothing (list_all is_ascii_digit ys))

pub symbol_at : (b : ℕ) (ys : List ℕ) → starts_name b ≡ false → is_ascii_digit b ≡ false → is_token (b ∷ ys) ≡ is_symbol (b ∷ ys)
symbol_at b ys g h = rw (g, h) refl

-- the run of bytes at the front that pass, and each longer one
run_passes-at : (p : ℕ → Bool) (x : ℕ) (xs : List ℕ) (b : Bool) → p x ≡ b → list_all p (take (prefix_len p xs) xs) ≡ true
    → list_all p (take (cond b (1 + prefix_len p xs) 0) (x ∷ xs)) ≡ true
run_passes-at p x xs true e rest = let one : 1 + prefix_len p xs ≡ suc (prefix_len p xs) = omega arith in rw (one, e) rest
run_passes-at p x xs false e rest = refl

pub run_passes : (p : ℕ → Bool) (xs : List ℕ) → list_all p (take (prefix_len p xs) xs) ≡ true
run_passes p [] = refl
run_passes p (x ∷ xs) = run_passes-at p x xs (p x) refl (run_passes p xs)

run_stops-at : (p : ℕ → Bool) (x : ℕ) (xs : List ℕ) (m : ℕ) (b : Bool) → p x ≡ b → (prefix_len p xs < m → list_all p (take m xs) ≡ false)
    → cond b (1 + prefix_len p xs) 0 < suc m → list_all p (x ∷ take m xs) ≡ false
run_stops-at p x xs m true e rest h = rw e (rest (omega arith))
run_stops-at p x xs m false e rest h = rw e refl

pub run_stops : (p : ℕ → Bool) (xs : List ℕ) (m : ℕ) → prefix_len p xs < m → m ≤ length xs → list_all p (take m xs) ≡ false
run_stops p [] m h le = absurd (omega arith)
run_stops p (x ∷ xs) zero h le = absurd (omega arith)
run_stops p (x ∷ xs) (suc m) h le = run_stops-at p x xs m (p x) refl (λ k. run_stops p xs m k (omega arith)) h

pub true_false : true ≡ false → ⊥
true_false e = cc

-- the longest token at the front is the whole run of a class, where such a run is a token exactly if all of it is of the class
longest_run : (p : ℕ → Bool) (b : ℕ) (bs : List ℕ) → p b ≡ true → ((ys : List ℕ) → is_token (b ∷ ys) ≡ list_all p ys)
    → IsLongestToken (b ∷ bs) (prefix_len p (b ∷ bs))
longest_run p b bs h at = let size : prefix_len p (b ∷ bs) ≡ suc (prefix_len p bs) = rw h (omega arith) in rw size record {
  some = omega arith;
  within = within;
  token = at (take (prefix_len p bs) bs) ∙ run_passes p bs;
  longest = longer;
} where
  within : suc (prefix_len p bs) ≤ suc (length bs)
  within = let le = prefix_len-le-length p bs in omega arith

  longer : (m : ℕ) → suc (prefix_len p bs) < m → m ≤ length (b ∷ bs) → is_token (take m (b ∷ bs)) ≡ true → ⊥
  longer zero more few is = omega arith
  longer (suc m) more few is = true_false (sym is ∙ at (take m bs) ∙ run_stops p bs m (omega arith) (omega arith))

name_byte : (b : ℕ) → starts_name b ≡ true → continues_name b ≡ true
name_byte b h = rw h refl

pub name_longest : (xs : List ℕ) → starts starts_name xs ≡ true → IsLongestToken xs (prefix_len continues_name xs)
name_longest [] h = absurd (true_false (sym h))
name_longest (b ∷ bs) h = longest_run continues_name b bs (name_byte b h) (λ ys. name_at b ys h)

pub number_longest : (xs : List ℕ) → starts is_ascii_digit xs ≡ true → IsLongestToken xs (prefix_len is_ascii_digit xs)
number_longest [] h = absurd (true_false (sym h))
number_longest (b ∷ bs) h = longest_run is_ascii_digit b bs h (λ ys. number_at b ys h)

-- three bytes or more that begin with no letter and no digit are no token
long_symbol : (b : ℕ) (bs : List ℕ) (m : ℕ) → 2 < m → m ≤ length (b ∷ bs) → is_symbol (take m (b ∷ bs)) ≡ false
long_symbol b bs zero more few = absurd (omega arith)
long_symbol b bs (suc zero) more few = absurd (omega arith)
long_symbol b bs (suc (suc zero)) more few = absurd (omega arith)
long_symbol b [] (suc (suc (suc m))) more few = absurd (omega arith)
long_symbol b (c ∷ []) (suc (suc (suc m))) more few = absurd (omega arith)
long_symbol b (c ∷ d ∷ bs) (suc (suc (suc m))) more few = refl

-- two bytes of which the second is no `=`, or the first may not stand before it, are no symbol
two_symbol : (b : ℕ) (bs : List ℕ) → starts_joined (b ∷ bs) ≡ false → 2 ≤ length (b ∷ bs) → is_symbol (take 2 (b ∷ bs)) ≡ false
two_symbol b [] h few = absurd (omega arith)
two_symbol b (c ∷ bs) h few = h

no_token : (b : ℕ) (ys : List ℕ) → starts_name b ≡ false → is_ascii_digit b ≡ false → is_symbol (b ∷ ys) ≡ false → is_token (b ∷ ys) ≡ true → ⊥
no_token b ys g h s is = true_false (sym is ∙ symbol_at b ys g h ∙ s)

pub and_first : (a b : Bool) → (a && b) ≡ true → a ≡ true
and_first true b h = refl
and_first false b h = h

pub and_second : (a b : Bool) → (a && b) ≡ true → b ≡ true
and_second true b h = h
and_second false b h = absurd (true_false (sym h))

pub joined_longest : (xs : List ℕ) → starts starts_name xs ≡ false → starts is_ascii_digit xs ≡ false → starts_joined xs ≡ true → IsLongestToken xs 2
joined_longest [] g h j = absurd (true_false (sym j))
joined_longest (b ∷ []) g h j = absurd (true_false (sym (and_second (is_before_equals b) false j)))
joined_longest (b ∷ c ∷ bs) g h j = record {
  some = omega arith;
  within = omega arith;
  token = symbol_at b (c ∷ []) g h ∙ j;
  longest = longer;
} where
  longer : (m : ℕ) → 2 < m → m ≤ length (b ∷ c ∷ bs) → is_token (take m (b ∷ c ∷ bs)) ≡ true → ⊥
  longer zero more few is = omega arith
  longer (suc m) more few is = no_token b (take m (c ∷ bs)) g h (long_symbol b (c ∷ bs) (suc m) more few) is

-- no token that begins with neither letter nor digit is longer than one byte, unless it ends in `=`
no_longer : (b : ℕ) (bs : List ℕ) → starts_name b ≡ false → is_ascii_digit b ≡ false → starts_joined (b ∷ bs) ≡ false → (m : ℕ) → 1 < m
    → m ≤ length (b ∷ bs) → is_token (take m (b ∷ bs)) ≡ true → ⊥
no_longer b bs g h j zero more few is = omega arith
no_longer b bs g h j (suc zero) more few is = omega arith
no_longer b bs g h j (suc (suc zero)) more few is = no_token b (take 1 bs) g h (two_symbol b bs j few) is
no_longer b bs g h j (suc (suc (suc m))) more few is = no_token b (take (suc (suc m)) bs) g h (long_symbol b bs (suc (suc (suc m))) (omega arith) few) is

pub symbol_longest : (xs : List ℕ) → starts starts_name xs ≡ false → starts is_ascii_digit xs ≡ false → starts_joined xs ≡ false
    → starts_symbol xs ≡ true → IsLongestToken xs 1
symbol_longest [] g h j s = absurd (true_false (sym s))
symbol_longest (b ∷ bs) g h j s = record {
  some = omega arith;
  within = omega arith;
  token = symbol_at b [] g h ∙ s;
  longest = no_longer b bs g h j;
}

pub none_longest : (xs : List ℕ) → starts starts_name xs ≡ false → starts is_ascii_digit xs ≡ false → starts_joined xs ≡ false
    → starts_symbol xs ≡ false → (m : ℕ) → m ≤ length xs → is_token (take m xs) ≡ true → ⊥
none_longest [] g h j s zero few is = true_false (sym is)
none_longest [] g h j s (suc m) few is = omega arith
none_longest (b ∷ bs) g h j s zero few is = true_false (sym is)
none_longest (b ∷ bs) g h j s (suc zero) few is = no_token b [] g h s is
none_longest (b ∷ bs) g h j s (suc (suc m)) few is = no_longer b bs g h j (suc (suc m)) (omega arith) few is
