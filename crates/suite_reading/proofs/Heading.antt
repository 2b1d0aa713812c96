-- The printed lines before the tests pass.
use Rattle.std.proofs.Common.{◌≡◌, ℕ, zero, suc, ◌+◌, ◌-◌, ◌<◌, ◌≤◌, ◌⊎◌, inl, inr, Bool, true, false, not, ◌&&◌, ◌||◌, cond, eqb, ℤ, pos, negsuc, ◌≤ℤ◌, List, [], ◌∷◌, ◌++◌, length, map, get_or, codes, refl, sym, ap, ◌∙◌, subst, arith, append_assoc, append-nil, eq-eqb, unsigned_abs, nat_lt, nat_le, nat_eq, int_le, length-append, Contains, AllPairs, None}
use Rattle.std.specs.List.{list_all, list_any, AllByRecursion}
use Rattle.std.specs.Str.{bytes_eq}
use Rattle.std.specs.Cmp.Lexicographic.{pointwise}
use Rattle.std.proofs.lemmas.Bool.{false≢true, le-leb, lt-ltb}
use Rattle.std.proofs.lemmas.Int.{ints}
use Rattle.std.proofs.lemmas.List.{map-append, length-map, get_or_append_left, get_or_at}
use Rattle.std.proofs.lemmas.List.Elements.{Contains-append_right, Contains-append_left, Contains-get_or}
use Rattle.std.proofs.lemmas.List.Folds.{list_any_none}
use Rattle.std.proofs.lemmas.Slice.Eq.{bytes_eq-Decides}
use Rattle.lin_form.specs.declared.input.Input.{Input}
use Rattle.lin_form.specs.Name.{IsName, spells_name, reserved_words}
use Rattle.lin_form.specs.Same.{same_bytes}
use Rattle.lin_form.specs.Signature.{IsInInputRanges}
use Rattle.strict_lines.specs.Numbers.{is_within, most}
use Rattle.strict_lines.specs.Lines.{Token, Number, Word}
use Rattle.subject.specs.Suite.{Test}
use Rattle.suite_model.specs.Text.{numbers, letters, input_line, output_line, class_line, letters_line}
use Rattle.suite_reading.specs.declared.error.SuiteKind.TheVariants as fault
use Rattle.suite_reading.specs.declared.error.SuiteWhich.TheVariants as limit
use Rattle.suite_reading.specs.declared.error.Cause.TheVariants.{Fault, Limit}
use Rattle.suite_reading.specs.declared.place.Place.{Place}
use Rattle.suite_reading.specs.declared.place.Place.TheVariants as place
use Rattle.suite_reading.specs.declared.place.LineKind.TheVariants as kind
use Rattle.suite_reading.specs.Items.{Item, InputLine, OutputLine, ClassLine, CoverLine, MarkLine, item_line}
use Rattle.suite_reading.specs.State.{State, Row, row_of, next, no_test, letter_of}
use Rattle.suite_reading.specs.Checks.{checks, first_of, unless, may_stand, is_reserved, is_input, is_output, is_between, is_letter, is_in_box, are_within}
use Rattle.suite_reading.specs.Reading.{Leads, Says}

abbrev pub at : Place → List Row → List (List ℕ) → ℕ → ℕ → List (List ℤ) → List (List ℕ) → List (List ℕ) → List Test → State
at p inputs outputs bound states classes cover marks tests = record {
  place = p;
  inputs = inputs;
  outputs = outputs;
  bound = bound;
  states = states;
  classes = classes;
  cover = cover;
  marks = marks;
  tests = tests;
  now = no_test;
}

-- names that are none of those before
abbrev pub Fresh : List (List ℕ) → List (List ℕ) → Type 0
Fresh done [] = Unit {0}
Fresh done (x ∷ rest) = (¬ Contains done x) × Fresh (done ++ x ∷ []) rest

pub fresh_from : (done rest : List (List ℕ)) → AllPairs (λ a b. ¬ (a ≡ b)) (done ++ rest) → Fresh done rest
fresh_from done [] h = tt
fresh_from done (x ∷ rest) h = (
  (λ c.
      let inside : c.0 < length done = c.1 in
      h c.0 (length done) x inside (omega (arith, length-append done (x ∷ rest)))
      (get_or_append_left done (x ∷ rest) x c.0 c.1 ∙ c.2 ∙ sym (get_or_at done x rest x (length done) refl))),
  fresh_from (done ++ x ∷ []) rest (subst (AllPairs (λ a b. ¬ (a ≡ b))) (sym (append_assoc done (x ∷ []) rest)) h),
)

not_among : (names : List (List ℕ)) (name : List ℕ) → ¬ Contains names name → is_output names name ≡ false
not_among [] name h = refl
not_among (n ∷ ns) name h = by (pointwise nat_eq n name) refl ∙ not_among ns name (λ c. h (Contains-append_right (n ∷ []) ns name c))
  where
    by : (c : Bool) → pointwise nat_eq n name ≡ c → (pointwise nat_eq n name || is_output ns name) ≡ is_output ns name
    by true e = absurd (h (0, omega arith, same_bytes n name e))
    by false e = ap (λ c. c || is_output ns name) e

abbrev pub name_in : Input → List ℕ
name_in input = input.name

as_names : (inputs : List Input) (name : List ℕ) → is_input (map row_of inputs) name ≡ is_output (map name_in inputs) name
as_names [] name = refl
as_names (input ∷ inputs) name = ap (λ b. pointwise nat_eq input.name name || b) (as_names inputs name)

not_listed : (ws : List (List ℕ)) (name : List ℕ) → ¬ Contains ws name → list_any (bytes_eq name) ws ≡ false
not_listed ws name h = list_any_none (bytes_eq name) ws (λ i d inside. differs (get_or ws i d) (Contains-get_or ws i d inside) (bytes_eq name (get_or ws i d)) refl)
  where
    differs : (w : List ℕ) → Contains ws w → (b : Bool) → bytes_eq name w ≡ b → bytes_eq name w ≡ false
    differs w c true e = absurd (h (subst (Contains ws) (sym ((bytes_eq-Decides name w).0 e)) c))
    differs w c false e = e

-- a name that is no reserved word
pub record IsOwn (name : List ℕ) : Type 0 where
  pub named : IsName name
  pub free : ¬ Contains reserved_words name

not_reserved : (name : List ℕ) → IsOwn name → is_reserved name ≡ false
not_reserved name own = not_listed reserved_words name own.free

pub ordered : (a b : ℤ) → a ≤ℤ b → int_le a b ≡ true
ordered a b h = grind (arith, ints)

input_passes : (p : Place) (done : List Input) (x : Input) → may_stand kind.Input p ≡ true → length done < 6 → IsOwn x.name → ¬ Contains (map name_in done) x.name
    → first_of (checks (at p (map row_of done) [] 0 0 [] [] [] []) (InputLine x.name x.lo x.hi)) ≡ None
input_passes p done x may few own fresh =
    let taken = as_names done x.name ∙ not_among (map name_in done) x.name fresh in
    let reserved = not_reserved x.name own in
    λ i. first_of (
    unless (may i && own.named.spelled i) (Fault fault.Form)
    ∷ unless (le-leb (length x.name) 32 own.named.short i) (Limit limit.NameBytes)
    ∷ unless (le-leb (unsigned_abs x.lo) 1000000 x.ranged.low i) (Limit limit.Literal)
    ∷ unless (le-leb (unsigned_abs x.hi) 1000000 x.ranged.high i) (Limit limit.Literal)
    ∷ unless (lt-ltb (length (map row_of done)) 6 (omega (arith, few, length-map done row_of)) i) (Limit limit.Inputs)
    ∷ unless (not (reserved i)) (Fault fault.Fact)
    ∷ unless (not (taken i || false)) (Fault fault.Fact)
    ∷ unless (ordered x.lo x.hi x.ranged.ordered i) (Fault fault.Fact) ∷ [])

pub inputs_lead : (p : Place) (done rest : List Input) (outputs : List (List ℕ)) (more : List (List Token)) (u : State) → may_stand kind.Input p ≡ true → (p ≡ place.Inputs) ⊎ (0 < length rest) → length done + length rest ≤ 6
    → AllByRecursion IsOwn (map name_in rest ++ outputs) → Fresh (map name_in done) (map name_in rest ++ outputs) → Leads (at place.Inputs (map row_of (done ++ rest)) [] 0 0 [] [] [] []) more u
    → Leads (at p (map row_of done) [] 0 0 [] [] [] []) (map input_line rest ++ more) u
inputs_lead p done [] outputs more u may (inl e) few own fresh fin = subst (λ s. Leads s more u) (λ i. at (sym e i) (map row_of (append-nil done i)) [] 0 0 [] [] [] []) fin
inputs_lead p done [] outputs more u may (inr h) few own fresh fin = absurd (omega (arith, h))
inputs_lead p done (x ∷ rest) outputs more u may some few own fresh fin = (
  InputLine x.name x.lo x.hi,
  (
    record { is = refl; passes = input_passes p done x may (omega (arith, few)) own.0 fresh.0 },
    subst (λ (rows : List Row). Leads (at place.Inputs rows [] 0 0 [] [] [] []) (map input_line rest ++ more) u) (map-append row_of done (x ∷ []))
        (inputs_lead place.Inputs (done ++ x ∷ []) rest outputs more u refl (inl refl) (omega (arith, few, length-append done (x ∷ []))) own.1
        (subst (λ d. Fresh d (map name_in rest ++ outputs)) (sym (map-append name_in done (x ∷ []))) fresh.1)
        (subst (λ (xs : List Input). Leads (at place.Inputs (map row_of xs) [] 0 0 [] [] [] []) more u) (sym (append_assoc done (x ∷ []) rest)) fin)),
  ),
)

output_passes : (p : Place) (inputs : List Input) (done : List (List ℕ)) (x : List ℕ) → may_stand kind.Output p ≡ true → length done < 8 → IsOwn x → ¬ Contains (map name_in inputs ++ done) x
    → first_of (checks (at p (map row_of inputs) done 0 0 [] [] [] []) (OutputLine x)) ≡ None
output_passes p inputs done x may few own fresh =
    let taken = as_names inputs x ∙ not_among (map name_in inputs) x (λ c. fresh (Contains-append_left (map name_in inputs) done x c)) in
    let taken' = not_among done x (λ c. fresh (Contains-append_right (map name_in inputs) done x c)) in
    let reserved = not_reserved x own in
    λ i. first_of (
    unless (may i && own.named.spelled i) (Fault fault.Form)
    ∷ unless (le-leb (length x) 32 own.named.short i) (Limit limit.NameBytes)
    ∷ unless (lt-ltb (length done) 8 few i) (Limit limit.Outputs)
    ∷ unless (not (reserved i)) (Fault fault.Fact)
    ∷ unless (not (taken i || taken' i)) (Fault fault.Fact) ∷ [])

pub outputs_lead : (p : Place) (inputs : List Input) (done rest : List (List ℕ)) (more : List (List Token)) (u : State) → may_stand kind.Output p ≡ true → (p ≡ place.Outputs) ⊎ (0 < length rest) → length done + length rest ≤ 8
    → AllByRecursion IsOwn rest → Fresh (map name_in inputs ++ done) rest → Leads (at place.Outputs (map row_of inputs) (done ++ rest) 0 0 [] [] [] []) more u
    → Leads (at p (map row_of inputs) done 0 0 [] [] [] []) (map output_line rest ++ more) u
outputs_lead p inputs done [] more u may (inl e) few own fresh fin = subst (λ s. Leads s more u) (λ i. at (sym e i) (map row_of inputs) (append-nil done i) 0 0 [] [] [] []) fin
outputs_lead p inputs done [] more u may (inr h) few own fresh fin = absurd (omega (arith, h))
outputs_lead p inputs done (x ∷ rest) more u may some few own fresh fin = (
  OutputLine x,
  (
    record { is = refl; passes = output_passes p inputs done x may (omega (arith, few)) own.0 fresh.0 },
    outputs_lead place.Outputs inputs (done ++ x ∷ []) rest more u refl (inl refl) (omega (arith, few, length-append done (x ∷ []))) own.1
        (subst (λ d. Fresh d rest) (append_assoc (map name_in inputs) done (x ∷ [])) fresh.1)
        (subst (λ xs. Leads (at place.Outputs (map row_of inputs) xs 0 0 [] [] [] []) more u) (sym (append_assoc done (x ∷ []) rest)) fin),
  ),
)

-- own names of the first inputs, and of the outputs after them
pub own_rest : (xs ys : List (List ℕ)) → AllByRecursion IsOwn (xs ++ ys) → AllByRecursion IsOwn ys
own_rest [] ys h = h
own_rest (x ∷ xs) ys h = own_rest xs ys h.1

pub fresh_rest : (done xs ys : List (List ℕ)) → Fresh done (xs ++ ys) → Fresh (done ++ xs) ys
fresh_rest done [] ys h = subst (λ d. Fresh d ys) (sym (append-nil done)) h
fresh_rest done (x ∷ xs) ys h = subst (λ d. Fresh d ys) (append_assoc done (x ∷ []) xs) (fresh_rest (done ++ x ∷ []) xs ys h.1)

-- a witness
pub record IsFine (rows : List Row) (z : List ℤ) : Type 0 where
  pub size : length z ≡ length rows
  pub within : are_within 1000000 z ≡ true
  pub box : is_in_box rows z ≡ true

near : (lo hi z : ℤ) → unsigned_abs lo ≤ 1000000 → unsigned_abs hi ≤ 1000000 → lo ≤ℤ z → z ≤ℤ hi → unsigned_abs z ≤ 1000000
near lo hi z l h a b = omega (arith, ints)

pub fine : (inputs : List Input) (z : List ℤ) → IsInInputRanges inputs z → IsFine (map row_of inputs) z
fine [] [] h = record { size = refl; within = refl; box = refl }
fine [] (z ∷ zs) h = absurd h
fine (x ∷ inputs) [] h = absurd h
fine (x ∷ inputs) (z ∷ zs) h =
    let more = fine inputs zs h.1 in
    record {
      size = ap suc more.size;
      within = (λ i. le-leb (unsigned_abs z) 1000000 (near x.lo x.hi z x.ranged.low x.ranged.high h.0.0 h.0.1) i && more.within i);
      box = (λ i. (ordered x.lo z h.0.0 i && ordered z x.hi h.0.1 i) && more.box i);
    }

class_passes : (p : Place) (rows : List Row) (outputs : List (List ℕ)) (b n : ℕ) (done : List (List ℤ)) (z : List ℤ) → may_stand kind.Class p ≡ true → length done < 4096 → IsFine rows z
    → first_of (checks (at p rows outputs b n done [] [] []) (ClassLine z)) ≡ None
class_passes p rows outputs b n done z may few ok =
    λ i. first_of (
    unless (may i && eq-eqb (length z) (length rows) ok.size i) (Fault fault.Form)
    ∷ unless (ok.within i) (Limit limit.Literal)
    ∷ unless (lt-ltb (length done) 4096 few i) (Limit limit.Classes)
    ∷ unless (ok.box i) (Fault fault.Fact) ∷ [])

pub classes_lead : (p : Place) (rows : List Row) (outputs : List (List ℕ)) (b n : ℕ) (done rest : List (List ℤ)) (more : List (List Token)) (u : State) → may_stand kind.Class p ≡ true → (p ≡ place.Classes) ⊎ (0 < length rest) → length done + length rest ≤ 4096
    → AllByRecursion (IsFine rows) rest → Leads (at place.Classes rows outputs b n (done ++ rest) [] [] []) more u → Leads (at p rows outputs b n done [] [] []) (map class_line rest ++ more) u
classes_lead p rows outputs b n done [] more u may (inl e) few ok fin = subst (λ s. Leads s more u) (λ i. at (sym e i) rows outputs b n (append-nil done i) [] [] []) fin
classes_lead p rows outputs b n done [] more u may (inr h) few ok fin = absurd (omega (arith, h))
classes_lead p rows outputs b n done (z ∷ rest) more u may some few ok fin = (
  ClassLine z,
  (
    record { is = refl; passes = class_passes p rows outputs b n done z may (omega (arith, few)) ok.0 },
    classes_lead place.Classes rows outputs b n (done ++ z ∷ []) rest more u refl (inl refl) (omega (arith, few, length-append done (z ∷ []))) ok.1
        (subst (λ xs. Leads (at place.Classes rows outputs b n xs [] [] []) more u) (sym (append_assoc done (z ∷ []) rest)) fin),
  ),
)

-- letters as they are printed
abbrev pub said_of : List ℕ → List ℤ
said_of w = map (λ a. pos (a + 1)) w

pub said_numbers : (w : List ℕ) → letters w ≡ numbers (said_of w)
said_numbers [] = refl
said_numbers (a ∷ w) = ap (λ x. Number (pos (a + 1)) ∷ x) (said_numbers w)

pub letters_back : (w : List ℕ) → map letter_of (said_of w) ≡ w
letters_back [] = refl
letters_back (a ∷ w) = ap (λ n. n ∷ map letter_of (said_of w)) (let e : (a + 1) - 1 ≡ a = omega arith in e) ∙ ap (λ x. a ∷ x) (letters_back w)

pub said_within : (c : ℕ) (w : List ℕ) → c ≤ 4096 → AllByRecursion (λ a. a < c) w → are_within most (said_of w) ≡ true
said_within c [] few h = refl
said_within c (a ∷ w) few h = (λ i. le-leb (a + 1) most (omega (arith, h.0, few)) i && said_within c w few h.1 i)

pub said_letters : (c : ℕ) (w : List ℕ) → AllByRecursion (λ a. a < c) w → list_all (is_letter c) (said_of w) ≡ true
said_letters c [] h = refl
said_letters c (a ∷ w) h =
    (λ i. (ordered (pos 1) (pos (a + 1)) (omega (arith, ints)) i && ordered (pos (a + 1)) (pos c) (let l : a < c = h.0 in omega (arith, ints)) i) && said_letters c w h.1 i)

module _ (rows : List Row) (outputs : List (List ℕ)) (b n : ℕ) (cs : List (List ℤ)) (few : length cs ≤ 4096) where
  cover_passes : (p : Place) (done : List (List ℕ)) (w : List ℕ) → may_stand kind.Cover p ≡ true → length done < n → AllByRecursion (λ a. a < length cs) w → first_of (checks (at p rows outputs b n cs done [] []) (CoverLine (said_of w))) ≡ None
  cover_passes p done w may room below =
      λ i. first_of (
      unless (may i) (Fault fault.Form)
      ∷ unless (said_within (length cs) w few below i) (Limit limit.Literal)
      ∷ unless (said_letters (length cs) w below i) (Fault fault.Fact)
      ∷ unless (lt-ltb (length done) n room i) (Fault fault.Count) ∷ [])

  pub covers_lead : (p : Place) (done rest : List (List ℕ)) (more : List (List Token)) (u : State) → may_stand kind.Cover p ≡ true → (p ≡ place.Cover) ⊎ (0 < length rest) → length done + length rest ≤ n
      → AllByRecursion (AllByRecursion (λ a. a < length cs)) rest → Leads (at place.Cover rows outputs b n cs (done ++ rest) [] []) more u → Leads (at p rows outputs b n cs done [] []) (map (letters_line (codes "cover")) rest ++ more) u
  covers_lead p done [] more u may (inl e) room below fin = subst (λ s. Leads s more u) (λ i. at (sym e i) rows outputs b n cs (append-nil done i) [] []) fin
  covers_lead p done [] more u may (inr h) room below fin = absurd (omega (arith, h))
  covers_lead p done (w ∷ rest) more u may some room below fin = (
    CoverLine (said_of w),
    (
      record { is = ap (λ x. Word (codes "cover") ∷ x) (said_numbers w); passes = cover_passes p done w may (omega (arith, room)) below.0 },
      subst (λ x. Leads (at place.Cover rows outputs b n cs (done ++ x ∷ []) [] []) (map (letters_line (codes "cover")) rest ++ more) u) (sym (letters_back w))
          (covers_lead place.Cover (done ++ w ∷ []) rest more u refl (inl refl) (omega (arith, room, length-append done (w ∷ []))) below.1
          (subst (λ xs. Leads (at place.Cover rows outputs b n cs xs [] []) more u) (sym (append_assoc done (w ∷ []) rest)) fin)),
    ),
  )

  module _ (cover : List (List ℕ)) (all : n ≤ length cover) where
    mark_passes : (p : Place) (done : List (List ℕ)) (w : List ℕ) → may_stand kind.Mark p ≡ true → AllByRecursion (λ a. a < length cs) w → first_of (checks (at p rows outputs b n cs cover done []) (MarkLine (said_of w))) ≡ None
    mark_passes p done w may below =
        λ i. first_of (
        unless (may i) (Fault fault.Form)
        ∷ unless (said_within (length cs) w few below i) (Limit limit.Literal)
        ∷ unless (said_letters (length cs) w below i) (Fault fault.Fact)
        ∷ unless (le-leb n (length cover) all i) (Fault fault.Count) ∷ [])

    pub marks_lead : (p : Place) (done rest : List (List ℕ)) (more : List (List Token)) (u : State) → may_stand kind.Mark p ≡ true → (p ≡ place.Marks) ⊎ (0 < length rest)
        → AllByRecursion (AllByRecursion (λ a. a < length cs)) rest → Leads (at place.Marks rows outputs b n cs cover (done ++ rest) []) more u → Leads (at p rows outputs b n cs cover done []) (map (letters_line (codes "mark")) rest ++ more) u
    marks_lead p done [] more u may (inl e) below fin = subst (λ s. Leads s more u) (λ i. at (sym e i) rows outputs b n cs cover (append-nil done i) []) fin
    marks_lead p done [] more u may (inr h) below fin = absurd (omega (arith, h))
    marks_lead p done (w ∷ rest) more u may some below fin = (
      MarkLine (said_of w),
      (
        record { is = ap (λ x. Word (codes "mark") ∷ x) (said_numbers w); passes = mark_passes p done w may below.0 },
        subst (λ x. Leads (at place.Marks rows outputs b n cs cover (done ++ x ∷ []) []) (map (letters_line (codes "mark")) rest ++ more) u) (sym (letters_back w))
            (marks_lead place.Marks (done ++ w ∷ []) rest more u refl (inl refl) below.1
            (subst (λ xs. Leads (at place.Marks rows outputs b n cs cover xs []) more u) (sym (append_assoc done (w ∷ []) rest)) fin)),
      ),
    )
