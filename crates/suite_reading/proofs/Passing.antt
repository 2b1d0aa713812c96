-- The printed lines of the tests pass.
use Rattle.std.proofs.Common.{◌≡◌, ℕ, zero, suc, ◌+◌, ◌-◌, ◌<◌, ◌≤◌, ◌⊎◌, inl, inr, Bool, true, false, not, ◌&&◌, cond, eqb, ℤ, pos, List, [], ◌∷◌, ◌++◌, length, map, take, get_or, codes, refl, sym, ap, ◌∙◌, subst, arith, append_assoc, append-nil, eq-eqb, unsigned_abs, nat_lt, length-append, Contains, None}
use Rattle.std.specs.List.{flat_map, list_all, list_any, AllByRecursion}
use Rattle.std.specs.Str.{bytes_eq}
use Rattle.std.specs.Cmp.Lexicographic.{pointwise}
use Rattle.std.specs.Cmp.Rules.{signed_items}
use Rattle.std.specs.Ordering.{int_eq}
use Rattle.std.proofs.lemmas.Bool.{le-leb, lt-ltb, le-ltb, leb-true}
use Rattle.std.proofs.lemmas.Bool.Decides.{Decides-int_eq}
use Rattle.std.proofs.lemmas.List.{length-map, get_or_at, get_or-take}
use Rattle.std.proofs.lemmas.List.Elements.{Contains-append_left, Contains-push, Contains-get_or}
use Rattle.std.proofs.lemmas.List.Folds.{list_any_none}
use Rattle.std.proofs.lemmas.Slice.Eq.{bytes_eq-Decides}
use Rattle.strict_lines.specs.Numbers.{is_within, most}
use Rattle.strict_lines.specs.Lines.{Token, Number, Word}
use Rattle.subject.specs.Suite.{Test}
use Rattle.suite_model.specs.Text.{natural_line, step_line, step_lines, test_lines}
use Rattle.suite_reading.specs.declared.error.SuiteKind.TheVariants as fault
use Rattle.suite_reading.specs.declared.error.SuiteWhich.TheVariants as limit
use Rattle.suite_reading.specs.declared.error.Cause.TheVariants.{Fault, Limit}
use Rattle.suite_reading.specs.declared.place.Place.{Place}
use Rattle.suite_reading.specs.declared.place.Place.TheVariants as place
use Rattle.suite_reading.specs.declared.place.LineKind.TheVariants as kind
use Rattle.suite_reading.specs.Items.{TestLine, StepLine, EndLine, item_line}
use Rattle.suite_reading.specs.State.{State, Row, next, no_test}
use Rattle.suite_reading.specs.Checks.{checks, first_of, unless, may_stand, witness, disagrees, are_within}
use Rattle.suite_reading.specs.Reading.{Leads, Says}
use Rattle.suite_reading.proofs.Keeping.{both}
use Rattle.suite_reading.proofs.Heading.{at, IsFine, said_of, said_numbers, letters_back, said_within, said_letters}

weaker : (zs : List ℤ) → are_within 1000000 zs ≡ true → are_within most zs ≡ true
weaker [] e = refl
weaker (z ∷ zs) e =
    let h = both (is_within 1000000 z) (are_within 1000000 zs) e in
    let small : unsigned_abs z ≤ 1000000 = leb-true (unsigned_abs z) 1000000 h.0 in
    (λ i. le-leb (unsigned_abs z) most (omega (arith, small)) i && weaker zs h.1 i)

and_false : (a b : Bool) → (a ≡ true → b ≡ false) → (a && b) ≡ false
and_false true b h = h refl
and_false false b h = refl

-- one number for each output, all of them within what a line may say
pub record IsReply (outputs : List (List ℕ)) (r : List ℤ) : Type 0 where
  pub size : length r ≡ length outputs
  pub within : are_within most r ≡ true

pub record IsFineTest (outputs : List (List ℕ)) (classes : ℕ) (t : Test) : Type 0 where
  pub some : 0 < length t.letters
  pub one_each : length t.replies ≡ length t.letters
  pub letters : AllByRecursion (λ a. a < classes) t.letters
  pub replies : AllByRecursion (IsReply outputs) t.replies

abbrev test_with : List ℕ → List (List ℤ) → Test
test_with w rs = record { letters = w; replies = rs }

module _ (rows : List Row) (outputs : List (List ℕ)) (b n : ℕ) (cs : List (List ℤ)) (cover marks : List (List ℕ)) (few : length cs ≤ 4096) (fine : (a : ℕ) → a < length cs → IsFine rows (get_or cs a [])) where
  abbrev on : List Test → List ℕ → List (List ℤ) → State
  on done w rs = record { place = place.Steps; inputs = rows; outputs = outputs; bound = b; states = n; classes = cs; cover = cover; marks = marks; tests = done; now = test_with w rs }

  abbrev after : Place → List Test → State
  after p done = at p rows outputs b n cs cover marks done

  -- an earlier test agrees at the next step
  agrees_next : (done : List Test) (w : List ℕ) (rs : List (List ℤ)) (r : List ℤ) (later : List (List ℤ)) (t : Test)
      → ((k : ℕ) → take k t.letters ≡ take k w → take k t.replies ≡ take k (rs ++ r ∷ later)) → disagrees (on done w rs) r t ≡ false
  agrees_next done w rs r later t agree =
      and_false (bytes_eq (take (length rs + 1) t.letters) (take (length rs + 1) w)) _ (λ e.
      let same = agree (length rs + 1) ((bytes_eq-Decides _ _).0 e) in
      let here : get_or t.replies (length rs) [] ≡ r =
      sym (get_or-take (length rs + 1) t.replies (length rs) [] (omega arith)) ∙ ap (λ x. get_or x (length rs) []) same
      ∙ get_or-take (length rs + 1) (rs ++ r ∷ later) (length rs) [] (omega arith) ∙ get_or_at rs r later [] (length rs) refl in
      ap not ((signed_items (get_or t.replies (length rs) []) r).1 here))

  step_passes : (done : List Test) (w front rest : List ℕ) (a : ℕ) (r : List ℤ) (rs later all : List (List ℤ)) → w ≡ front ++ a ∷ rest → length front ≡ length rs → a < length cs → IsReply outputs r → all ≡ rs ++ r ∷ later
      → ((t : Test) → Contains done t → (k : ℕ) → take k t.letters ≡ take k w → take k t.replies ≡ take k all)
      → first_of (checks (on done w rs) (StepLine (get_or cs a []) r)) ≡ None
  step_passes done w front rest a r rs later all e size below ok e' agree =
      let here : get_or cs a [] ≡ witness (on done w rs) = ap (λ k. get_or cs k []) (sym (ap (λ x. get_or x (length rs) 0) e ∙ get_or_at front a rest 0 (length rs) size)) in
      let same : pointwise int_eq (get_or cs a []) (witness (on done w rs)) ≡ true = (signed_items (get_or cs a []) (witness (on done w rs))).1 here in
      let none : list_any (disagrees (on done w rs) r) done ≡ false =
      list_any_none (disagrees (on done w rs) r) done (λ k d inside. agrees_next done w rs r later (get_or done k d) (λ m alike. agree (get_or done k d) (Contains-get_or done k d inside) m alike ∙ ap (take m) e')) in
      λ i. first_of (
      unless (eq-eqb (length (get_or cs a [])) (length rows) (fine a below).size i && eq-eqb (length r) (length outputs) ok.size i) (Fault fault.Form)
      ∷ unless (weaker (get_or cs a []) (fine a below).within i) (Limit limit.Literal)
      ∷ unless (ok.within i) (Limit limit.Literal)
      ∷ unless (same i) (Fault fault.Vector)
      ∷ unless (not (none i)) (Fault fault.Conflict) ∷ [])

  steps_lead : (done : List Test) (w front rest : List ℕ) (rs later all : List (List ℤ)) (more : List (List Token)) (u : State) → w ≡ front ++ rest → length front ≡ length rs → length later ≡ length rest → 0 < length rest
      → AllByRecursion (λ a. a < length cs) rest → AllByRecursion (IsReply outputs) later → all ≡ rs ++ later
      → ((t : Test) → Contains done t → (k : ℕ) → take k t.letters ≡ take k w → take k t.replies ≡ take k all)
      → Leads (after place.Tests (done ++ test_with w all ∷ [])) more u
      → Leads (on done w rs) (step_lines cs rest later ++ more) u
  steps_lead done w front [] rs later all more u e size len some below ok e' agree k = absurd (omega (arith, some))
  steps_lead done w front (a ∷ rest) rs [] all more u e size len some below ok e' agree k = absurd (omega (arith, len))
  steps_lead done w front (a ∷ []) rs (r ∷ q ∷ later) all more u e size len some below ok e' agree k = absurd (omega (arith, len))
  steps_lead done w front (a ∷ c ∷ rest) rs (r ∷ []) all more u e size len some below ok e' agree k = absurd (omega (arith, len))
  steps_lead done w front (a ∷ []) rs (r ∷ []) all more u e size len some below ok e' agree k =
      let shut : nat_lt (length (rs ++ r ∷ [])) (length w) ≡ false = le-ltb _ _ (omega (arith, ap length e, length-append front (a ∷ []), length-append rs (r ∷ []), size)) in (
        StepLine (get_or cs a []) r,
        (
          record { is = refl; passes = step_passes done w front [] a r rs [] all e size below.0 ok.0 e' agree },
          subst (λ (x : State). Leads x more u)
              (ap (λ (x : List (List ℤ)). after place.Tests (done ++ test_with w x ∷ [])) e'
              ∙ ap (λ (x : Bool). cond x (on done w (rs ++ r ∷ [])) (after place.Tests (done ++ test_with w (rs ++ r ∷ []) ∷ []))) (sym shut)) k,
        ),
      )
  steps_lead done w front (a ∷ c ∷ rest) rs (r ∷ q ∷ later) all more u e size len some below ok e' agree k =
      let still : nat_lt (length (rs ++ r ∷ [])) (length w) ≡ true = lt-ltb _ _ (omega (arith, ap length e, length-append front (a ∷ c ∷ rest), length-append rs (r ∷ []), size)) in (
        StepLine (get_or cs a []) r,
        (
          record { is = refl; passes = step_passes done w front (c ∷ rest) a r rs (q ∷ later) all e size below.0 ok.0 e' agree },
          subst (λ (x : State). Leads x (step_lines cs (c ∷ rest) (q ∷ later) ++ more) u)
              (ap (λ (x : Bool). cond x (on done w (rs ++ r ∷ [])) (after place.Tests (done ++ test_with w (rs ++ r ∷ []) ∷ []))) (sym still))
              (steps_lead done w (front ++ a ∷ []) (c ∷ rest) (rs ++ r ∷ []) (q ∷ later) all more u (e ∙ sym (append_assoc front (a ∷ []) (c ∷ rest)))
              (omega (arith, length-append front (a ∷ []), length-append rs (r ∷ []), size)) (omega (arith, len)) (omega arith) below.1 ok.1 (e' ∙ sym (append_assoc rs (r ∷ []) (q ∷ later))) agree k),
        ),
      )

  test_passes : (p : Place) (done : List Test) (t : Test) → may_stand kind.Test p ≡ true → IsFineTest outputs (length cs) t → first_of (checks (after p done) (TestLine (said_of t.letters))) ≡ None
  test_passes p done t may ok =
      λ i. first_of (
      unless (may i && lt-ltb 0 (length (said_of t.letters)) (omega (arith, ok.some, length-map t.letters (λ (a : ℕ). pos (a + 1)))) i) (Fault fault.Form)
      ∷ unless (said_within (length cs) t.letters few ok.letters i) (Limit limit.Literal)
      ∷ unless (said_letters (length cs) t.letters ok.letters i) (Fault fault.Fact) ∷ [])

  pub tests_lead : (p : Place) (total done rest : List Test) → may_stand kind.Test p ≡ true → (p ≡ place.Tests) ⊎ (0 < length rest) → total ≡ done ++ rest → AllByRecursion (IsFineTest outputs (length cs)) rest → length total ≤ most
      → ((t v : Test) (k : ℕ) → Contains total t → Contains total v → take k t.letters ≡ take k v.letters → take k t.replies ≡ take k v.replies)
      → Leads (after p done) (flat_map (test_lines cs) rest ++ natural_line (codes "end") (length total) ∷ []) (after place.End total)
  tests_lead p total done [] may (inr h) e ok many agree = absurd (omega (arith, h))
  tests_lead p total done [] may (inl at_tests) e ok many agree =
      let same : total ≡ done = e ∙ append-nil done in
      let counted : int_eq (pos (length total)) (pos (length done)) ≡ true = (Decides-int_eq (pos (length total)) (pos (length done))).1 (ap (λ (x : List Test). pos (length x)) same) in (
        EndLine (pos (length total)),
        (
          record {
            is = refl;
            passes = λ i. first_of (
                unless (may_stand kind.End (at_tests i)) (Fault fault.Form)
                ∷ unless (le-leb (length total) most many i) (Limit limit.Literal)
                ∷ unless (counted i) (Fault fault.Count) ∷ []);
          },
          ap (after place.End) (sym same),
        ),
      )
  tests_lead p total done (t ∷ rest) may some e ok many agree =
      let e2 : total ≡ (done ++ t ∷ []) ++ rest = e ∙ sym (append_assoc done (t ∷ []) rest) in
      let among : Contains total t = subst (λ (x : List Test). Contains x t) (sym e2) (Contains-append_left (done ++ t ∷ []) rest t (Contains-push done t)) in
      let tail : List (List Token) = flat_map (test_lines cs) rest ++ natural_line (codes "end") (length total) ∷ [] in
      let later = tests_lead place.Tests total (done ++ t ∷ []) rest refl (inl refl) e2 ok.1 many agree in
      let steps = steps_lead done t.letters [] t.letters [] t.replies t.replies tail (after place.End total) refl refl ok.0.one_each ok.0.some ok.0.letters ok.0.replies refl
      (λ v h k same. agree v t k (subst (λ (x : List Test). Contains x v) (sym e) (Contains-append_left done (t ∷ rest) v h)) among same) later in (
        TestLine (said_of t.letters),
        (
          record { is = ap (λ x. Word (codes "test") ∷ x) (said_numbers t.letters); passes = test_passes p done t may ok.0 },
          subst (λ (x : List (List Token)). Leads (next (after p done) (TestLine (said_of t.letters))) x (after place.End total)) (sym (append_assoc (step_lines cs t.letters t.replies) (flat_map (test_lines cs) rest) (natural_line (codes "end") (length total) ∷ [])))
              (subst (λ (x : List ℕ). Leads (on done x []) (step_lines cs t.letters t.replies ++ tail) (after place.End total)) (sym (letters_back t.letters)) steps),
        ),
      )
