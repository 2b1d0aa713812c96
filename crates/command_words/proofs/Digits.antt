-- One to four digits are a number that is parsed.
use Rattle.std.proofs.Common.{◌≡◌, ℕ, ◌<◌, ◌≤◌, ◌^◌, Bool, true, false, nat_lt, if◌then◌else◌, List, [], ◌∷◌, length, Some, None, Result, Ok, Err, refl, sym, ◌∙◌, ap, arith}
use Rattle.std.specs.Char.{is_ascii_digit}
use Rattle.std.specs.List.{list_all}
use Rattle.std.specs.Prelude.{◌&&◌}
use Rattle.std.specs.Str.{all_ascii_digits}
use Rattle.std.specs.Str.Parse.{digits_value, ParsesUnsigned}
use Rattle.std.proofs.lemmas.Bool.{ltb-true}
use Rattle.std.proofs.lemmas.Str.Parse.{IsNumeralModel, numerals_by_value, tells_all_ascii_digits, parse_gives, digits_value_short}
use Rattle.command_words.specs.Command.{are_digits, number_of}

same_digits : (ds : List ℕ) → all_ascii_digits ds ≡ list_all is_ascii_digit ds
same_digits [] = refl
same_digits (d ∷ ds) = ap (λ b. is_ascii_digit d && b) (same_digits ds)

digits : IsNumeralModel (λ ds. all_ascii_digits ds ≡ true) (digits_value 10)
digits = numerals_by_value (λ ds. all_ascii_digits ds ≡ true) tells_all_ascii_digits

-- so few digits are parsed, where the type holds all numbers of so few
pub parsed : {E : Type 0} (bits most : ℕ) (bs : List ℕ) (e : E) → 10 ^ most ≤ 2 ^ bits → ParsesUnsigned {E = E} bits 10 bs (Err e) → 0 < length bs → length bs ≤ most → list_all is_ascii_digit bs ≡ true → ⊥
parsed {E} bits most bs e holds h some few are =
    let told : all_ascii_digits bs ≡ true = same_digits bs ∙ are in
    let small : digits_value 10 bs < 10 ^ most = digits_value_short digits bs most told few in
    let failed : Result ℕ E = Err e in
    let is : failed ≡ Ok (digits_value 10 bs) = parse_gives digits bits bs failed h told some (omega (arith, small, holds)) in
    cc

-- digits that are not parsed write a number that the type does not hold
too_large : {E : Type 0} (bits : ℕ) (bs : List ℕ) (e : E) → ParsesUnsigned {E = E} bits 10 bs (Err e) → 0 < length bs → list_all is_ascii_digit bs ≡ true → digits_value 10 bs < 2 ^ bits → ⊥
too_large {E} bits bs e h some are small =
    let told : all_ascii_digits bs ≡ true = same_digits bs ∙ are in
    let failed : Result ℕ E = Err e in
    let is : failed ≡ Ok (digits_value 10 bs) = parse_gives digits bits bs failed h told some small in
    cc

not_both : (a : Bool) (n : ℕ) → None ≡ (if a && false then Some n else None)
not_both true n = refl
not_both false n = refl

-- digits that 32 bits do not hold are no number
pub no_number : {E : Type 0} (word : List ℕ) (e : E) → ParsesUnsigned {E = E} 32 10 word (Err e) → 0 < length word → list_all is_ascii_digit word ≡ true → None ≡ number_of word
no_number word e h some are = here (nat_lt (digits_value 10 word) 4294967296) refl
  where
    here : (b : Bool) → nat_lt (digits_value 10 word) 4294967296 ≡ b → None ≡ number_of word
    here true t = absurd (too_large 32 word e h some are (ltb-true (digits_value 10 word) 4294967296 t))
    here false f = not_both (are_digits 10 word) (digits_value 10 word) ∙ ap (λ b. if are_digits 10 word && b then Some (digits_value 10 word) else None) (sym f)
