-- Names that are new, found and counted.
use Rattle.std.proofs.Common.{◌≡◌, ◌≢◌, ℕ, zero, suc, ◌<◌, ◌≤◌, Bool, true, false, cond, ◌||◌, ◌&&◌, not, List, [], ◌∷◌, ◌++◌, length, map}
use Rattle.std.proofs.Common.{get_or, Option, Some, None, refl, ◌∙◌, arith}
use Rattle.std.specs.Prelude.{if◌then◌else◌, ◌==◌, nat_lt, nat_le, int_lt, ℤ, ◌≤ℤ◌, unwrap_or, count_by, AllPairs, Contains}
use Rattle.std.specs.List.{list_any, position_or_len}
use Rattle.std.specs.Str.{bytes_eq}
use Rattle.std.proofs.lemmas.Bool.Decides.{nat_tests}
use Rattle.std.proofs.lemmas.Int.{ints}
use Rattle.std.proofs.lemmas.List.{get_or_default}
use Rattle.std.proofs.lemmas.List.Quantifiers.{all_pairs_push}
use Rattle.std.proofs.lemmas.Map.Views.{list_any-from_Contains}
use Rattle.std.specs.Cmp.Lexicographic.{nat_list_eq_equiv, bytes_decides}
use Rattle.lin_form.specs.Name.{reserved_words}
use Rattle.line_forms.specs.declared.keyword.Keyword.{Keyword}
use Rattle.chart_syntax.specs.declared.error.Refusal.{Refusal}
use Rattle.line_forms.specs.Lexemes.{keywords, keyword_in}
use Rattle.line_checks.specs.declared.scope.NameFault.{NameFault}
use Rattle.line_checks.specs.Names.{is_same, has_name, place_of, use_check}
use Rattle.line_forms.specs.Limits.{IsFree}
use Rattle.chart_syntax.specs.Scopes.{told}
use Rattle.chart_syntax.specs.Checks.{number_of}

pub told_none : (o : Option NameFault) → told o ≡ None → o ≡ None
told_none None e = refl
told_none (Some fault) e = absurd (cc)

pub if_none : (b : Bool) (r : Refusal) → (if b then Some r else None) ≡ None → b ≡ false
if_none true r e = absurd (cc)
if_none false r e = refl

pub or_false : (a b : Bool) → (a || b) ≡ false → (a ≡ false) × (b ≡ false)
or_false true b e = absurd (cc)
or_false false b e = (refl, e)

pub below : (n m : ℕ) → nat_le m n ≡ false → n < m
below n m e = grind (arith, nat_tests)

pub ordered_range : (lo hi : ℤ) → int_lt hi lo ≡ false → lo ≤ℤ hi
ordered_range lo hi e = grind (arith, ints, nat_tests)

order_if : (g m : ℕ) (a b : Bool) → (g == 0) ≡ a → nat_lt m g ≡ b → (not a && b) ≡ false → g ≤ m
order_if g m true b e f h = grind (arith, nat_tests)
order_if g m false true e f h = absurd (cc)
order_if g m false false e f h = grind (arith, nat_tests)

pub ordered : (g m : ℕ) → (not (g == 0) && nat_lt m g) ≡ false → g ≤ m
ordered g m h = order_if g m (g == 0) (nat_lt m g) refl refl h

not_among : (name : List ℕ) (names : List (List ℕ)) → has_name name names ≡ false → Contains names name → ⊥
not_among name names e h = let t : has_name name names ≡ true = list_any-from_Contains nat_list_eq_equiv name names h in cc

pub fresh_at : (name : List ℕ) (names : List (List ℕ)) → has_name name names ≡ false → (k : ℕ) (d : List ℕ) → k < length names → get_or names k d ≢ name
fresh_at name names e k d less same = not_among name names e (k, less, get_or_default names k name d less ∙ same)

pub different_push : (names : List (List ℕ)) (name : List ℕ) → AllPairs (λ a b. a ≢ b) names → has_name name names ≡ false
    → AllPairs (λ a b. a ≢ b) (names ++ name ∷ [])
different_push names name pairs e = all_pairs_push (λ a b. a ≢ b) names name pairs (fresh_at name names e)

placed_if : (n m : ℕ) (b other : Bool) → nat_lt n m ≡ b → use_check (cond b (Some n) None) other ≡ None → unwrap_or (cond b (Some n) None) 0 < m
placed_if n m true other e h = grind (arith, nat_tests)
placed_if n m false true e h = absurd (cc)
placed_if n m false false e h = absurd (cc)

-- a name that is found has a number below that of all declarations
pub number_within : (name : List ℕ) (names : List (List ℕ)) (other : Bool) → use_check (place_of name names) other ≡ None → number_of name names < length names
number_within name names other h = placed_if (position_or_len (is_same name) names) (length names)
    (nat_lt (position_or_len (is_same name) names) (length names)) other refl h

pub none_counted : {X : Type 0} (p : X → Bool) (xs : List X) → list_any p xs ≡ false → count_by p xs ≡ 0
none_counted p [] e = refl
none_counted p (x ∷ xs) e = let h = or_false (p x) (list_any p xs) e in rw h.0 (none_counted p xs h.1)

cond_none : {X : Type 0} (b : Bool) (x : X) (rest : Option X) → cond b (Some x) rest ≡ None → (b ≡ false) × (rest ≡ None)
cond_none true x rest e = absurd (cc)
cond_none false x rest e = (refl, e)

not_found : (name : List ℕ) (entries : List (List ℕ × Keyword)) (k : ℕ) (d : List ℕ) → keyword_in entries name ≡ None
    → k < length (map (λ entry. entry.0) entries) → get_or (map (λ entry. entry.0) entries) k d ≡ name → ⊥
not_found name [] k d none less same = absurd (omega arith)
not_found name (entry ∷ entries) zero d none less same =
    let h = cond_none (bytes_eq entry.0 name) entry.1 (keyword_in entries name) none in
    let t : bytes_eq entry.0 name ≡ true = (bytes_decides entry.0 name).1 same in
    let f = h.0 in
    cc
not_found name (entry ∷ entries) (suc k) d none less same =
    let h = cond_none (bytes_eq entry.0 name) entry.1 (keyword_in entries name) none in
    not_found name entries k d h.1 (omega arith) same

-- a name that is no reserved word
pub free_name : (name : List ℕ) → IsFree name → Contains reserved_words name → ⊥
free_name name free h = not_found name keywords h.0 name free h.1 h.2
