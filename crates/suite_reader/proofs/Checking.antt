-- What the checks of a line say.
use Rattle.std.proofs.Common.{◌≡◌, ℕ, zero, suc, ◌<◌, ◌≤◌, ◌↔◌, Bool, true, false, not, ◌&&◌, ◌||◌, cond, ℤ, pos, negsuc, List, [], ◌∷◌, ◌++◌, length, map, take, drop, get_or, refl, sym, ap, ◌∙◌, subst, arith, IsTrue, nat_eq, nat_le, Contains, Option, None, Some, unsigned_abs, int_le}
use Rattle.std.specs.List.{list_all, list_any}
use Rattle.std.specs.Str.{bytes_eq}
use Rattle.std.specs.Cmp.Lexicographic.{pointwise}
use Rattle.std.proofs.lemmas.Bool.{false≢true, leb-true, le-leb}
use Rattle.std.proofs.lemmas.List.{map-append}
use Rattle.std.proofs.lemmas.List.Elements.{Contains-get_or}
use Rattle.std.proofs.lemmas.List.Folds.{list_any_at, list_any_none}
use Rattle.std.proofs.lemmas.Option.{none-some}
use Rattle.std.proofs.lemmas.Slice.Eq.{bytes_eq-Decides}
use Rattle.std.proofs.lemmas.Int.{ints}
use Rattle.lin_form.specs.Name.{IsName, spells_name}
use Rattle.lin_form.specs.Range.{IsRange}
use Rattle.lin_form.specs.declared.input.Input.{Input}
use Rattle.strict_lines.specs.Numbers.{is_within}
use Rattle.suite_reading.specs.declared.error.Cause.{Cause}
use Rattle.suite_reading.specs.declared.place.Place.TheVariants as place
use Rattle.suite_reading.specs.declared.place.LineKind.TheVariants as kind
use Rattle.suite_reading.specs.Items.{InputLine, OutputLine, CoverLine, MarkLine, TestLine}
use Rattle.suite_reading.specs.State.{State, Row, row_of, next}
use Rattle.suite_reading.specs.Checks.{checks, first_of, may_stand, is_input, is_output, is_taken, is_letter}
use Rattle.suite_reading.proofs.CallerLemmas.{fact, both, in_order}

-- a test that tells whether a list has a name
pub among : (ws : List (List ℕ)) (name : List ℕ) (b : Bool) → (IsTrue b ↔ Contains ws name) → b ≡ list_any (bytes_eq name) ws
among ws name true h = let c = h.0 refl in sym (list_any_at (bytes_eq name) ws c.0 name c.1 (ap (bytes_eq name) c.2 ∙ (bytes_eq-Decides name name).1 refl))
among ws name false h = sym (list_any_none (bytes_eq name) ws (λ i d inside. differs (get_or ws i d) (Contains-get_or ws i d inside) (bytes_eq name (get_or ws i d)) refl))
  where
    differs : (w : List ℕ) → Contains ws w → (b : Bool) → bytes_eq name w ≡ b → bytes_eq name w ≡ false
    differs w c true e = absurd (false≢true (h.1 (subst (Contains ws) (sym ((bytes_eq-Decides name w).0 e)) c)))
    differs w c false e = e

abbrev has_name : List ℕ → Input → Bool
has_name name input = pointwise nat_eq input.name name

abbrev is_name : List ℕ → List ℕ → Bool
is_name name other = pointwise nat_eq other name

input_any : (inputs : List Input) (name : List ℕ) → list_any (has_name name) inputs ≡ is_input (map row_of inputs) name
input_any [] name = refl
input_any (input ∷ inputs) name = ap (λ b. has_name name input || b) (input_any inputs name)

output_any : (outputs : List (List ℕ)) (name : List ℕ) → list_any (is_name name) outputs ≡ is_output outputs name
output_any [] name = refl
output_any (output ∷ outputs) name = ap (λ b. is_name name output || b) (output_any outputs name)

pub input_taken : (v s : State) (slice inputs : List Input) (name : List ℕ) (b : Bool) → v ≡ s → v.inputs ≡ map row_of inputs → slice ≡ inputs → b ≡ list_any (has_name name) slice → b ≡ true → b ≡ is_taken s name
input_taken v s slice inputs name b e rows same is yes' =
    let here : b ≡ is_input v.inputs name = is ∙ ap (list_any (has_name name)) same ∙ input_any inputs name ∙ ap (λ x. is_input x name) (sym rows) in
    yes' ∙ ap (λ x. x || is_output v.outputs name) (sym yes' ∙ here) ∙ ap (λ x. is_taken x name) e

pub output_taken : (v s : State) (slice inputs : List Input) (names outputs : List (List ℕ)) (name : List ℕ) (b c : Bool) → v ≡ s → v.inputs ≡ map row_of inputs → slice ≡ inputs → b ≡ list_any (has_name name) slice → b ≡ false
    → v.outputs ≡ outputs → names ≡ outputs → c ≡ list_any (is_name name) names → c ≡ is_taken s name
output_taken v s slice inputs names outputs name b c e rows same is none others alike found =
    let here : b ≡ is_input v.inputs name = is ∙ ap (list_any (has_name name)) same ∙ input_any inputs name ∙ ap (λ x. is_input x name) (sym rows) in
    let there : c ≡ is_output v.outputs name = found ∙ ap (list_any (is_name name)) alike ∙ output_any outputs name ∙ ap (λ x. is_output x name) (sym others) in
    there ∙ ap (λ x. x || is_output v.outputs name) (sym none ∙ here) ∙ ap (λ x. is_taken x name) e

pub input_name : (s : State) (name : List ℕ) (low high : ℤ) → first_of (checks s (InputLine name low high)) ≡ None → IsName name
input_name s name low high e =
    let cs = checks s (InputLine name low high) in
    record {
      spelled = (both (may_stand kind.Input s.place) (spells_name name) (fact cs 0 (may_stand kind.Input s.place && spells_name name) _ e refl)).1;
      short = leb-true (length name) 32 (fact cs 1 (nat_le (length name) 32) _ e refl);
    }

pub output_name : (s : State) (name : List ℕ) → first_of (checks s (OutputLine name)) ≡ None → IsName name
output_name s name e =
    let cs = checks s (OutputLine name) in
    record {
      spelled = (both (may_stand kind.Output s.place) (spells_name name) (fact cs 0 (may_stand kind.Output s.place && spells_name name) _ e refl)).1;
      short = leb-true (length name) 32 (fact cs 1 (nat_le (length name) 32) _ e refl);
    }

pub input_range : (s : State) (name : List ℕ) (low high low' high' : ℤ) → first_of (checks s (InputLine name low high)) ≡ None → low' ≡ low → high' ≡ high → IsRange low' high'
input_range s name low high low' high' e same_low same_high =
    let cs = checks s (InputLine name low high) in
    let ranged : IsRange low high = record {
      ordered = in_order low high (fact cs 7 (int_le low high) _ e refl);
      low = leb-true (unsigned_abs low) 1000000 (fact cs 2 (is_within 1000000 low) _ e refl);
      high = leb-true (unsigned_abs high) 1000000 (fact cs 3 (is_within 1000000 high) _ e refl);
    } in
    subst (λ z. IsRange z high') (sym same_low) (subst (λ z. IsRange low z) (sym same_high) ranged)

pub took_input : (v s : State) (inputs old : List Input) (input : Input) (name : List ℕ) (low high : ℤ) → v ≡ s → v.inputs ≡ map row_of old → inputs ≡ old ++ input ∷ [] → input.name ≡ name → input.lo ≡ low → input.hi ≡ high
    → record v { place = place.Inputs; inputs = map row_of inputs } ≡ next s (InputLine name low high)
took_input v s inputs old input name low high e rows grown is_name' is_low is_high =
    let row : List Row → List Row = λ x. v.inputs ++ x in
    ap (λ (x : List Row). record v { place = place.Inputs; inputs = x })
    (ap (map row_of) grown ∙ map-append row_of old (input ∷ []) ∙ ap (λ x. x ++ row_of input ∷ []) (sym rows)
    ∙ (λ i. v.inputs ++ record { name = is_name' i; low = is_low i; high = is_high i } ∷ []))
    ∙ ap (λ x. next x (InputLine name low high)) e

weaker_letter : (n : ℕ) (z : ℤ) → n ≤ 4096 → is_letter n z ≡ true → is_letter 4096 z ≡ true
weaker_letter n (pos k) low e = grind (arith, ints)
weaker_letter n (negsuc k) low e = absurd (false≢true e)

pub weaker_letters : (n : ℕ) (zs : List ℤ) → n ≤ 4096 → list_all (is_letter n) zs ≡ true → list_all (is_letter 4096) zs ≡ true
weaker_letters n [] low e = refl
weaker_letters n (z ∷ zs) low e =
    let h = both (is_letter n z) (list_all (is_letter n) zs) e in
    (λ i. weaker_letter n z low h.0 i && weaker_letters n zs low h.1 i)

pub cover_letters : (s : State) (zs : List ℤ) → length s.classes ≤ 4096 → first_of (checks s (CoverLine zs)) ≡ None → list_all (is_letter 4096) zs ≡ true
cover_letters s zs few e = weaker_letters (length s.classes) zs few (fact (checks s (CoverLine zs)) 2 (list_all (is_letter (length s.classes)) zs) _ e refl)

pub mark_letters : (s : State) (zs : List ℤ) → length s.classes ≤ 4096 → first_of (checks s (MarkLine zs)) ≡ None → list_all (is_letter 4096) zs ≡ true
mark_letters s zs few e = weaker_letters (length s.classes) zs few (fact (checks s (MarkLine zs)) 2 (list_all (is_letter (length s.classes)) zs) _ e refl)

pub test_letters : (s : State) (zs : List ℤ) → length s.classes ≤ 4096 → first_of (checks s (TestLine zs)) ≡ None → list_all (is_letter 4096) zs ≡ true
test_letters s zs few e = weaker_letters (length s.classes) zs few (fact (checks s (TestLine zs)) 2 (list_all (is_letter (length s.classes)) zs) _ e refl)

pub input_same : (s : State) (name : List ℕ) (low high low' high' : ℤ) → low' ≡ low → high' ≡ high → first_of (checks s (InputLine name low' high')) ≡ first_of (checks s (InputLine name low high))
input_same s name low high low' high' e f = λ i. first_of (checks s (InputLine name (e i) (f i)))
