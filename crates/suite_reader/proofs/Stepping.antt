-- A step: the store's answer is the last check, and the test goes on or is whole.
use Rattle.std.proofs.Common.{◌≡◌, ◌≢◌, ℕ, zero, suc, ◌+◌, ◌<◌, ◌≤◌, Bool, true, false, not, ◌&&◌, cond, ℤ, List, [], ◌∷◌, ◌++◌, length, take, drop, get_or, refl, sym, ap, ◌∙◌, subst, arith, nat_lt, eqb, length-append, Contains, Option, None, Some, slice_get}
use Rattle.std.specs.List.{list_any}
use Rattle.std.specs.Str.{bytes_eq}
use Rattle.std.specs.Cmp.Lexicographic.{pointwise}
use Rattle.std.specs.Cmp.Rules.{signed_items}
use Rattle.std.specs.Ordering.{int_eq}
use Rattle.std.proofs.lemmas.Bool.{false≢true, lt-ltb, le-ltb}
use Rattle.std.proofs.lemmas.Bool.Decides.{Decides-eqb}
use Rattle.std.proofs.lemmas.List.{take_more, take_all, length-take-le, get_or_read}
use Rattle.std.proofs.lemmas.List.Elements.{Contains-get_or}
use Rattle.std.proofs.lemmas.List.Folds.{list_any_at, list_any_none}
use Rattle.std.proofs.lemmas.Option.{none-some, get_or_from_slice_get, slice_get-get_or}
use Rattle.std.proofs.lemmas.Slice.Eq.{bytes_eq-Decides}
use Rattle.subject.specs.Suite.{Test}
use Rattle.test_store.specs.Store.{Store, Enters, IsConflict}
use Rattle.suite_reading.specs.declared.error.Cause.{Cause}
use Rattle.suite_reading.specs.declared.error.Cause.TheVariants.{Fault}
use Rattle.suite_reading.specs.declared.error.SuiteKind.TheVariants as fault
use Rattle.suite_reading.specs.declared.place.Place.{Place}
use Rattle.suite_reading.specs.declared.place.Place.TheVariants as place
use Rattle.suite_reading.specs.declared.place.LineKind.TheVariants as kind
use Rattle.suite_reading.specs.Items.{StepLine}
use Rattle.suite_reading.specs.State.{State, next, no_test, with_reply}
use Rattle.suite_reading.specs.Checks.{checks, first_of, may_stand, disagrees}
use Rattle.suite_reading.specs.inside.Kept.{level, Kept}
use Rattle.suite_reading.proofs.CallerLemmas.{fact, both}
use Rattle.suite_reader.specs.inside.Reader.{IsFront}

is_steps : (p : Place) → may_stand kind.Step p ≡ true → p ≡ place.Steps
is_steps place.Steps e = refl
is_steps _ e = absurd (false≢true e)

first_after : (n : ℕ) (cs : List (Option Cause)) → first_of (take n cs) ≡ None → first_of cs ≡ first_of (drop n cs)
first_after zero cs e = refl
first_after (suc n) [] e = refl
first_after (suc n) (None ∷ cs) e = first_after n cs e
first_after (suc n) (Some c ∷ cs) e = absurd (none-some c (sym e))

-- what the checks but the last say of a step
module _ (s : State) (v r : List ℤ) (four : first_of (take 4 (checks s (StepLine v r))) ≡ None) where
  front : ((may_stand kind.Step s.place && eqb (length v) (length s.inputs)) ≡ true) × (eqb (length r) (length s.outputs) ≡ true)
  front = both (may_stand kind.Step s.place && eqb (length v) (length s.inputs)) (eqb (length r) (length s.outputs))
      (fact (take 4 (checks s (StepLine v r))) 0 ((may_stand kind.Step s.place && eqb (length v) (length s.inputs)) && eqb (length r) (length s.outputs)) _ four refl)

  pub at_steps : s.place ≡ place.Steps
  at_steps = is_steps s.place (both (may_stand kind.Step s.place) (eqb (length v) (length s.inputs)) front.0).0

  pub some_replies : Kept s → 0 < length r
  some_replies k =
      let same : length r ≡ length s.outputs = (Decides-eqb (length r) (length s.outputs)).0 front.1 in
      let some : 0 < length s.outputs = k.counted.outputs (subst (λ p. 3 ≤ level p) (sym at_steps) (omega arith)) in
      omega (arith, same, some)

  pub last_fails : list_any (disagrees s r) s.tests ≡ true → first_of (checks s (StepLine v r)) ≡ Some (Fault fault.Conflict)
  last_fails e = first_after 4 (checks s (StepLine v r)) four ∙ ap (λ b. first_of (cond (not b) None (Some (Fault fault.Conflict)) ∷ [])) e

  pub last_passes : list_any (disagrees s r) s.tests ≡ false → first_of (checks s (StepLine v r)) ≡ None
  last_passes e = first_after 4 (checks s (StepLine v r)) four ∙ ap (λ b. first_of (cond (not b) None (Some (Fault fault.Conflict)) ∷ [])) e

-- the store is that of the state, and this is the letter of the next step
module _ (store : Store) (s : State) (tests : store.tests ≡ s.tests) (replies : store.now.replies ≡ s.now.replies) (begun : IsFront store.now s.now.letters) (a : ℕ)
    (more : length s.now.replies < length s.now.letters) (is : a ≡ get_or s.now.letters (length s.now.replies) 0) where
  k : ℕ
  k = length s.now.replies

  entered : store.now.letters ≡ take (length s.now.replies) s.now.letters
  entered = begun ∙ ap (λ (x : List (List ℤ)). take (length x) s.now.letters) replies

  place_is : length store.now.letters ≡ length s.now.replies
  place_is = ap length entered ∙ length-take-le (length s.now.replies) s.now.letters (omega (arith, more))

  -- the letters up to this step
  pub up_to : store.now.letters ++ a ∷ [] ≡ take (length s.now.replies + 1) s.now.letters
  up_to = ap (λ l. l ++ a ∷ []) entered ∙ ap (λ x. take (length s.now.replies) s.now.letters ++ x ∷ []) is ∙ sym (take_more s.now.letters (length s.now.replies) 0 more)

  other_reply : (t : Test) (r : List ℤ) (o : Option (List ℤ)) (b : Bool) → slice_get t.replies (length s.now.replies) ≡ o → pointwise int_eq (get_or t.replies (length s.now.replies) []) r ≡ b → o ≢ Some r → 0 < length r → not b ≡ true
  other_reply t r o false e f other some = refl
  other_reply t r None true e f other some =
      let none : get_or t.replies (length s.now.replies) [] ≡ [] = get_or_none t.replies (length s.now.replies) e in
      let same : [] ≡ r = sym none ∙ (signed_items (get_or t.replies (length s.now.replies) []) r).0 f in
      absurd (omega (arith, ap length same, some))
    where
      get_or_none : (xs : List (List ℤ)) (n : ℕ) → slice_get xs n ≡ None → get_or xs n [] ≡ []
      get_or_none [] n g = refl
      get_or_none (x ∷ xs) zero g = absurd (none-some x (sym g))
      get_or_none (x ∷ xs) (suc n) g = get_or_none xs n g
  other_reply t r (Some q) true e f other some =
      absurd (other (ap (λ (x : List ℤ). Some x) (sym (get_or_from_slice_get t.replies (length s.now.replies) q [] e) ∙ (signed_items (get_or t.replies (length s.now.replies) []) r).0 f)))

  pub conflict_is : (r : List ℤ) → 0 < length r → IsConflict store a r → list_any (disagrees s r) s.tests ≡ true
  conflict_is r some c =
      let among : Contains s.tests c.test = subst (λ (ts : List Test). Contains ts c.test) tests c.among in
      let same : take (length s.now.replies + 1) c.test.letters ≡ take (length s.now.replies + 1) s.now.letters = subst (λ n. take (n + 1) c.test.letters ≡ store.now.letters ++ a ∷ []) place_is c.same ∙ up_to in
      let other : slice_get c.test.replies (length s.now.replies) ≢ Some r = subst (λ n. slice_get c.test.replies n ≢ Some r) place_is c.differs in
      let found : disagrees s r c.test ≡ true =
      (λ i. (bytes_eq-Decides (take (length s.now.replies + 1) c.test.letters) (take (length s.now.replies + 1) s.now.letters)).1 same i
      && other_reply c.test r (slice_get c.test.replies (length s.now.replies)) (pointwise int_eq (get_or c.test.replies (length s.now.replies) []) r) refl refl other some i) in
      list_any_at (disagrees s r) s.tests among.0 c.test among.1 (ap (disagrees s r) among.2 ∙ found)

  agrees_by : (t : Test) (r : List ℤ) (b : Bool) → bytes_eq (take (length s.now.replies + 1) t.letters) (take (length s.now.replies + 1) s.now.letters) ≡ b
      → (take (length s.now.replies + 1) t.letters ≡ take (length s.now.replies + 1) s.now.letters → slice_get t.replies (length s.now.replies) ≡ Some r) → (b && not (pointwise int_eq (get_or t.replies (length s.now.replies) []) r)) ≡ false
  agrees_by t r false e agree = refl
  agrees_by t r true e agree =
      ap not ((signed_items (get_or t.replies (length s.now.replies) []) r).1 (get_or_from_slice_get t.replies (length s.now.replies) r []
      (agree ((bytes_eq-Decides (take (length s.now.replies + 1) t.letters) (take (length s.now.replies + 1) s.now.letters)).0 e))))

  pub enters_is : (new : Store) (r : List ℤ) → Enters store a r new → list_any (disagrees s r) s.tests ≡ false
  enters_is new r e = list_any_none (disagrees s r) s.tests (λ i d inside. one (get_or s.tests i d) (Contains-get_or s.tests i d inside))
    where
      one : (t : Test) → Contains s.tests t → disagrees s r t ≡ false
      one t among = agrees_by t r (bytes_eq (take (length s.now.replies + 1) t.letters) (take (length s.now.replies + 1) s.now.letters)) refl (λ same.
          subst (λ n. slice_get t.replies n ≡ Some r) place_is (e.agrees t (subst (λ (ts : List Test). Contains ts t) (sym tests) among)
          (subst (λ n. take (n + 1) t.letters ≡ store.now.letters ++ a ∷ []) (sym place_is) (same ∙ sym up_to))))

-- more steps of the test are to come
pub went_on : (v s : State) (vector r : List ℤ) (now : Test) (tests : List Test) → v ≡ s → v.place ≡ place.Steps → tests ≡ v.tests → now.letters ≡ v.now.letters → now.replies ≡ v.now.replies ++ r ∷ [] → length now.replies < length now.letters
    → record v { tests = tests; now = now } ≡ next s (StepLine vector r)
went_on v s vector r now tests e at same letters replies more =
    let is : now ≡ with_reply v.now r = λ i. record { letters = letters i; replies = replies i } in
    let still : nat_lt (length (v.now.replies ++ r ∷ [])) (length v.now.letters) ≡ true = lt-ltb _ _ (omega (arith, more, ap length letters, ap length replies)) in
    (λ i. record v { place = at i; tests = same i; now = is i })
    ∙ sym (ap (λ b. cond b (record v { place = place.Steps; now = with_reply v.now r }) (record v { place = place.Tests; tests = v.tests ++ with_reply v.now r ∷ []; now = no_test })) still)
    ∙ ap (λ x. next x (StepLine vector r)) e

-- the test is whole
pub came_to_end : (v s : State) (vector r : List ℤ) (t now : Test) (tests : List Test) → v ≡ s → tests ≡ v.tests ++ t ∷ [] → t.letters ≡ v.now.letters → t.replies ≡ v.now.replies ++ r ∷ [] → length t.letters ≤ length t.replies → now ≡ no_test
    → record v { place = place.Tests; tests = tests; now = now } ≡ next s (StepLine vector r)
came_to_end v s vector r t now tests e grown letters replies whole none =
    let is : t ≡ with_reply v.now r = λ i. record { letters = letters i; replies = replies i } in
    let over : nat_lt (length (v.now.replies ++ r ∷ [])) (length v.now.letters) ≡ false = le-ltb _ _ (omega (arith, whole, ap length letters, ap length replies)) in
    (λ i. record v { place = place.Tests; tests = grown i; now = none i })
    ∙ ap (λ (x : Test). record v { place = place.Tests; tests = v.tests ++ x ∷ []; now = no_test }) is
    ∙ sym (ap (λ b. cond b (record v { place = place.Steps; now = with_reply v.now r }) (record v { place = place.Tests; tests = v.tests ++ with_reply v.now r ∷ []; now = no_test })) over)
    ∙ ap (λ x. next x (StepLine vector r)) e

-- the store is that of the state, and this is the letter of the next step
pub record IsReady (store : Store) (s : State) (a : ℕ) : Type 0 where
  pub tests : store.tests ≡ s.tests
  pub replies : store.now.replies ≡ s.now.replies
  pub begun : IsFront store.now s.now.letters
  pub more : length s.now.replies < length s.now.letters
  pub is : a ≡ get_or s.now.letters (length s.now.replies) 0

pub ready : (v s : State) (store kept : Store) (n a : ℕ) → v ≡ s → store.tests ≡ v.tests → store.now.replies ≡ v.now.replies → IsFront store.now v.now.letters → kept.tests ≡ store.tests → kept.now ≡ store.now
    → length s.now.replies < length s.now.letters → n ≡ length kept.now.replies → a ≡ get_or v.now.letters n a → IsReady kept s a
ready v s store kept n a e tests replies begun same now more at read =
    let replied : kept.now.replies ≡ s.now.replies = ap (λ (t : Test). t.replies) now ∙ replies ∙ ap (λ (x : State). x.now.replies) e in
    record {
      tests = same ∙ tests ∙ ap (λ (x : State). x.tests) e;
      replies = replied;
      begun = subst (λ (t : Test). IsFront t s.now.letters) (sym now) (subst (λ (x : State). IsFront store.now x.now.letters) e begun);
      more = more;
      is = get_or_read s.now.letters (length s.now.replies) a more
          (read ∙ ap (λ (x : State). get_or x.now.letters n a) e ∙ ap (λ m. get_or s.now.letters m a) (at ∙ ap length replied)) 0;
    }

pub conflicts : (store : Store) (s : State) (a : ℕ) (v r : List ℤ) → Kept s → IsReady store s a → first_of (take 4 (checks s (StepLine v r))) ≡ None → IsConflict store a r → first_of (checks s (StepLine v r)) ≡ Some (Fault fault.Conflict)
conflicts store s a v r k h four c = last_fails s v r four (conflict_is store s h.tests h.replies h.begun a h.more h.is r (some_replies s v r four k) c)

pub enters : (store new : Store) (s : State) (a : ℕ) (v r : List ℤ) → IsReady store s a → first_of (take 4 (checks s (StepLine v r))) ≡ None → Enters store a r new → first_of (checks s (StepLine v r)) ≡ None
enters store new s a v r h four e = last_passes s v r four (enters_is store s h.tests h.replies h.begun a h.more h.is new r e)

-- the letters that are entered where the test is whole
pub whole_letters : (store new : Store) (s : State) (a : ℕ) (r : List ℤ) → IsReady store s a → Enters store a r new → length s.now.letters ≤ length new.now.replies → new.now.letters ≡ s.now.letters
whole_letters store new s a r h e whole =
    let many : length new.now.replies ≡ length s.now.replies + 1 = omega (arith, ap length e.replies, length-append store.now.replies (r ∷ []), ap length h.replies) in
    e.letters ∙ up_to store s h.tests h.replies h.begun a h.more h.is ∙ take_all (length s.now.replies + 1) s.now.letters (omega (arith, many, whole))
