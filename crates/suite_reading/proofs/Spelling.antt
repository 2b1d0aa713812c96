-- A printed line is read as its tokens.
use Rattle.std.proofs.Common.{◌≡◌, ℕ, zero, suc, ◌+◌, ◌<◌, ◌≤◌, Bool, true, false, not, ◌&&◌, ◌||◌, cond, eqb, ℤ, pos, negsuc, neg_ℤ, List, [], ◌∷◌, ◌++◌, length, map, drop, get_or, codes, refl, sym, ap, ◌∙◌, subst, arith, append_assoc, append-nil, eq-eqb, unsigned_abs, nat_lt, nat_le}
use Rattle.std.specs.List.{flat_map, list_all, AllByRecursion}
use Rattle.std.specs.Char.{is_ascii_digit}
use Rattle.std.specs.Fmt.{signed_decimal, decimal}
use Rattle.std.proofs.lemmas.Bool.{false≢true, leb-true, lt-ltb, ne_eqb}
use Rattle.std.proofs.lemmas.Bool.Decides.{Decides-eqb, nat_tests}
use Rattle.std.proofs.lemmas.Fmt.{first_decimal}
use Rattle.std.proofs.lemmas.List.Folds.{list_all-append}
use Rattle.lin_form.specs.Name.{spells_name, starts_name, continues_name}
use Rattle.strict_lines.specs.Numbers.{is_natural, is_negative, is_number, is_within, number_value, value, capped, most}
use Rattle.strict_lines.specs.Lines.{Token, Number, Word, spelled, tail_text, line_text, onto, pieces_between, token_of, line_tokens, IsSmall, AreSmall}
use Rattle.strict_lines.proofs.Back.{natural_read, capped_same}
use Rattle.suite_reading.proofs.Keeping.{both, not_true}

abbrev is_free : ℕ → List ℕ → Bool
is_free sep bs = list_all (λ b. not (eqb b sep)) bs

cut_end : (sep : ℕ) (bs : List ℕ) → is_free sep bs ≡ true → pieces_between sep bs ≡ bs ∷ []
cut_end sep [] e = refl
cut_end sep (b ∷ bs) e =
    let h = both (not (eqb b sep)) (is_free sep bs) e in
    ap (λ c. cond c ([] ∷ pieces_between sep bs) (onto b (pieces_between sep bs))) (not_true (eqb b sep) h.0) ∙ ap (onto b) (cut_end sep bs h.1)

cut_at : (sep : ℕ) (bs rest : List ℕ) → is_free sep bs ≡ true → pieces_between sep (bs ++ sep ∷ rest) ≡ bs ∷ pieces_between sep rest
cut_at sep [] rest e = ap (λ c. cond c ([] ∷ pieces_between sep rest) (onto sep (pieces_between sep rest))) (eq-eqb sep sep refl)
cut_at sep (b ∷ bs) rest e =
    let h = both (not (eqb b sep)) (is_free sep bs) e in
    ap (λ c. cond c ([] ∷ pieces_between sep (bs ++ sep ∷ rest)) (onto b (pieces_between sep (bs ++ sep ∷ rest)))) (not_true (eqb b sep) h.0) ∙ ap (onto b) (cut_at sep bs rest h.1)

-- a token that is read as it is spelled
pub record IsClean (t : Token) : Type 0 where
  pub no_space : is_free 32 (spelled t) ≡ true
  pub no_feed : is_free 10 (spelled t) ≡ true
  pub back : token_of (spelled t) ≡ t

abbrev pub AreClean : List Token → Type 0
AreClean = AllByRecursion IsClean

abbrev pub line_bytes : List Token → List ℕ
line_bytes [] = []
line_bytes (t ∷ ts) = spelled t ++ tail_text ts

tail_pieces : (p : List ℕ) (ts : List Token) → is_free 32 p ≡ true → AreClean ts → pieces_between 32 (p ++ tail_text ts) ≡ p ∷ map spelled ts
tail_pieces p [] e clean = ap (pieces_between 32) (append-nil p) ∙ cut_end 32 p e
tail_pieces p (t ∷ ts) e clean = cut_at 32 p (spelled t ++ tail_text ts) e ∙ ap (λ x. p ∷ x) (tail_pieces (spelled t) ts clean.0.no_space clean.1)

backs : (ts : List Token) → AreClean ts → map token_of (map spelled ts) ≡ ts
backs [] clean = refl
backs (t ∷ ts) clean = let h = clean.0.back in let more = backs ts clean.1 in λ i. h i ∷ more i

pub tokens_back : (l : List Token) → AreClean l → 0 < length l → line_tokens (line_bytes l) ≡ l
tokens_back [] clean some = absurd (omega (arith, some))
tokens_back (t ∷ ts) clean some = ap (map token_of) (tail_pieces (spelled t) ts clean.0.no_space clean.1) ∙ backs (t ∷ ts) clean

tail_free : (ts : List Token) → AreClean ts → is_free 10 (tail_text ts) ≡ true
tail_free [] clean = refl
tail_free (t ∷ ts) clean = list_all-append (λ b. not (eqb b 10)) (spelled t) (tail_text ts) ∙ (λ i. clean.0.no_feed i && tail_free ts clean.1 i)

bytes_free : (l : List Token) → AreClean l → is_free 10 (line_bytes l) ≡ true
bytes_free [] clean = refl
bytes_free (t ∷ ts) clean = list_all-append (λ b. not (eqb b 10)) (spelled t) (tail_text ts) ∙ (λ i. clean.0.no_feed i && tail_free ts clean.1 i)

text_bytes : (l : List Token) (rest : List ℕ) → line_text l ++ rest ≡ line_bytes l ++ 10 ∷ rest
text_bytes [] rest = refl
text_bytes (t ∷ ts) rest = append_assoc (line_bytes (t ∷ ts)) (10 ∷ []) rest

-- lines that are read as their tokens
pub record IsLine (l : List Token) : Type 0 where
  pub clean : AreClean l
  pub some : 0 < length l

pub text_pieces : (lines : List (List Token)) → AllByRecursion IsLine lines → pieces_between 10 (flat_map line_text lines) ≡ map line_bytes lines ++ [] ∷ []
text_pieces [] all = refl
text_pieces (l ∷ lines) all =
    ap (pieces_between 10) (text_bytes l (flat_map line_text lines)) ∙ cut_at 10 (line_bytes l) (flat_map line_text lines) (bytes_free l all.0.clean)
    ∙ ap (λ x. line_bytes l ∷ x) (text_pieces lines all.1)

pub lines_back : (lines : List (List Token)) → AllByRecursion IsLine lines → map line_tokens (map line_bytes lines) ≡ lines
lines_back [] all = refl
lines_back (l ∷ lines) all = let h = tokens_back l all.0.clean all.0.some in let more = lines_back lines all.1 in λ i. h i ∷ more i

-- bytes of which none is this one
free_by : (p : ℕ → Bool) (sep : ℕ) (bs : List ℕ) → p sep ≡ false → list_all p bs ≡ true → is_free sep bs ≡ true
free_by p sep [] other e = refl
free_by p sep (b ∷ bs) other e =
    let h = both (p b) (list_all p bs) e in
    (λ i. one (eqb b sep) refl h.0 i && free_by p sep bs other h.1 i)
  where
    one : (c : Bool) → eqb b sep ≡ c → p b ≡ true → not (eqb b sep) ≡ true
    one true e k = absurd (false≢true (sym other ∙ ap p (sym ((Decides-eqb b sep).0 e)) ∙ k))
    one false e k = ap not e

no_number : (bs : List ℕ) → is_number bs ≡ false → token_of bs ≡ Word bs
no_number bs e = ap (λ c. cond c (Number (number_value bs)) (Word bs)) e

first_no_digit : (b : ℕ) → starts_name b ≡ true → is_ascii_digit b ≡ false
first_no_digit b e = by (is_ascii_digit b) refl
  where
    by : (c : Bool) → is_ascii_digit b ≡ c → is_ascii_digit b ≡ false
    by true h = absurd (grind (arith, nat_tests, e, h))
    by false h = h

first_no_minus : (b : ℕ) (c : Bool) → eqb b 45 ≡ c → starts_name b ≡ true → eqb b 45 ≡ false
first_no_minus b true e h = absurd (false≢true (ap starts_name (sym ((Decides-eqb b 45).0 e)) ∙ h))
first_no_minus b false e h = e

negative_is : (b : ℕ) (bs : List ℕ) → is_negative (b ∷ bs) ≡ eqb b 45
negative_is b bs = ap (λ c. c && eqb b 45) (lt-ltb 0 (length (b ∷ bs)) (omega arith))

name_no_number : (bs : List ℕ) → spells_name bs ≡ true → is_number bs ≡ false
name_no_number [] e = absurd (false≢true e)
name_no_number (b ∷ bs) e =
    let h = both (starts_name b) (list_all continues_name bs) e in
    ap (λ c. cond c (is_natural bs && not (eqb (get_or bs 0 0) 48)) (is_natural (b ∷ bs))) (negative_is b bs ∙ first_no_minus b (eqb b 45) refl h.0)
    ∙ ap (λ c. ((c && list_all is_ascii_digit bs) && nat_lt 0 (length (b ∷ bs))) && (eqb (length (b ∷ bs)) 1 || not (eqb b 48))) (first_no_digit b h.0)

name_bytes : (bs : List ℕ) → spells_name bs ≡ true → list_all continues_name bs ≡ true
name_bytes [] e = absurd (false≢true e)
name_bytes (b ∷ bs) e =
    let h = both (starts_name b) (list_all continues_name bs) e in
    (λ i. (h.0 i || is_ascii_digit b) && h.1 i)

pub name_clean : (bs : List ℕ) → spells_name bs ≡ true → IsClean (Word bs)
name_clean bs e = record {
  no_space = free_by continues_name 32 bs refl (name_bytes bs e);
  no_feed = free_by continues_name 10 bs refl (name_bytes bs e);
  back = no_number bs (name_no_number bs e);
}

digits_of : (ds : List ℕ) → is_natural ds ≡ true → list_all is_ascii_digit ds ≡ true
digits_of ds e = (both (list_all is_ascii_digit ds) (nat_lt 0 (length ds)) (both (list_all is_ascii_digit ds && nat_lt 0 (length ds)) (eqb (length ds) 1 || not (eqb (get_or ds 0 0) 48)) e).0).0

not_negative : (ds : List ℕ) → list_all is_ascii_digit ds ≡ true → is_negative ds ≡ false
not_negative [] e = refl
not_negative (d ∷ ds) e = negative_is d ds ∙ by (eqb d 45) refl
  where
    by : (c : Bool) → eqb d 45 ≡ c → eqb d 45 ≡ false
    by true h = absurd (false≢true (ap is_ascii_digit (sym ((Decides-eqb d 45).0 h)) ∙ (both (is_ascii_digit d) (list_all is_ascii_digit ds) e).0))
    by false h = h

pub number_clean : (z : ℤ) → is_within most z ≡ true → IsClean (Number z)
number_clean (pos n) e =
    let small : n ≤ most = leb-true n most e in
    let read = natural_read n small in
    let digits = digits_of (decimal n) read.0 in
    let plain = not_negative (decimal n) digits in
    record {
      no_space = free_by is_ascii_digit 32 (decimal n) refl digits;
      no_feed = free_by is_ascii_digit 10 (decimal n) refl digits;
      back = ap (λ c. cond (cond c (is_natural (drop 1 (decimal n)) && not (eqb (get_or (drop 1 (decimal n)) 0 0) 48)) (is_natural (decimal n))) (Number (number_value (decimal n))) (Word (decimal n))) plain
          ∙ ap (λ c. cond c (Number (number_value (decimal n))) (Word (decimal n))) read.0
          ∙ ap (λ c. Number (cond c (neg_ℤ (pos (capped (value (drop 1 (decimal n)))))) (pos (capped (value (decimal n)))))) plain
          ∙ ap (λ v. Number (pos v)) (ap capped read.1 ∙ capped_same n small);
    }
number_clean (negsuc k) e =
    let small : suc k ≤ most = leb-true (suc k) most e in
    let read = natural_read (suc k) small in
    let digits = digits_of (decimal (suc k)) read.0 in
    let first : 48 < get_or (decimal (suc k)) 0 0 = first_decimal (suc k) (omega arith) (omega (arith, small)) in
    record {
      no_space = free_by is_ascii_digit 32 (decimal (suc k)) refl digits;
      no_feed = free_by is_ascii_digit 10 (decimal (suc k)) refl digits;
      back = ap (λ c. cond (cond c (is_natural (decimal (suc k)) && not (eqb (get_or (decimal (suc k)) 0 0) 48)) (is_natural (45 ∷ decimal (suc k)))) (Number (number_value (45 ∷ decimal (suc k)))) (Word (45 ∷ decimal (suc k)))) (negative_is 45 (decimal (suc k)))
          ∙ (λ i. cond (read.0 i && not (ne_eqb (get_or (decimal (suc k)) 0 0) 48 (λ same. omega (arith, same, first)) i)) (Number (number_value (45 ∷ decimal (suc k)))) (Word (45 ∷ decimal (suc k))))
          ∙ ap (λ c. Number (cond c (neg_ℤ (pos (capped (value (decimal (suc k)))))) (pos (capped (value (45 ∷ decimal (suc k))))))) (negative_is 45 (decimal (suc k)))
          ∙ ap (λ v. Number (neg_ℤ (pos v))) (ap capped read.1 ∙ capped_same (suc k) small);
    }

-- a word that is read as it is spelled
abbrev pub IsCleanWord : Token → Type 0
IsCleanWord (Number z) = Unit {0}
IsCleanWord (Word w) = IsClean (Word w)

pub clean_of : (ts : List Token) → AreSmall ts → AllByRecursion IsCleanWord ts → AreClean ts
clean_of [] small words = tt
clean_of (Number z ∷ ts) small words = (number_clean z small.0, clean_of ts small.1 words.1)
clean_of (Word w ∷ ts) small words = (words.0, clean_of ts small.1 words.1)
