-- Replies that come one after another have at most one verdict: the first that differs from the expected one is one.
use Rattle.std.proofs.Common.{◌≡◌, ◌≢◌, ℕ, zero, suc, ◌+◌, ◌-◌, ◌<◌, ◌≤◌, ℤ, List, [], ◌∷◌, ◌++◌, length, take, drop, get_or, refl, sym, ap, ◌∙◌, arith, append_assoc, append-nil, length-append}
use Rattle.std.specs.List.{flat_map}
use Rattle.std.proofs.lemmas.List.{take-append-drop, take_more, length-take-le}
use Rattle.std.proofs.lemmas.List.Concat.{flat_map-append}
use Rattle.subject.specs.Tests.{TestCase, no_test}
use Rattle.test_subject.specs.Verdict.{NamesDifference, IsStep, test_at}
use Rattle.test_subject.specs.Exchange.{replies_to, up_to}
use Rattle.test_subject.specs.declared.verdict.Verdict.{Verdict}
use Rattle.test_subject.specs.declared.verdict.Verdict.TheVariants.{Pass, Fail}

abbrev wanted : TestCase → List (List ℤ)
wanted test = test.replies

-- two lists part at a place
record Part (given expected front : List (List ℤ)) (g : List ℤ) : Type 0 where
  e : List ℤ
  left : List (List ℤ)
  rest : List (List ℤ)
  gives : given ≡ front ++ g ∷ left
  wants : expected ≡ front ++ e ∷ rest
  differ : g ≢ e

head_same : {X : Type 0} (x y : X) (xs ys : List X) → x ∷ xs ≡ y ∷ ys → x ≡ y
head_same x y xs ys e = cc

tail_same : {X : Type 0} (x y : X) (xs ys : List X) → x ∷ xs ≡ y ∷ ys → xs ≡ ys
tail_same x y xs ys e = cc

no_front : {X : Type 0} (f : List X) (x y : X) (xs ys left : List X) → (f ++ x ∷ xs) ++ left ≡ f ++ y ∷ ys → x ≡ y
no_front [] x y xs ys left e = head_same x y (xs ++ left) ys e
no_front (z ∷ f) x y xs ys left e = no_front f x y xs ys left (tail_same z z ((f ++ x ∷ xs) ++ left) (f ++ y ∷ ys) e)

-- lists part at one place at most
one_place : (u v : List (List ℤ)) (f h : List (List ℤ)) (a b x y : List ℤ) (l m r s : List (List ℤ)) → u ≡ f ++ a ∷ l → v ≡ f ++ x ∷ r → a ≢ x → u ≡ h ++ b ∷ m → v ≡ h ++ y ∷ s → b ≢ y → (f ≡ h) × (a ≡ b)
one_place u v [] [] a b x y l m r s p q d p' q' d' = (refl, head_same a b l m (sym p ∙ p'))
one_place u v [] (z ∷ h) a b x y l m r s p q d p' q' d' = absurd (d (head_same a z l (h ++ b ∷ m) (sym p ∙ p') ∙ sym (head_same x z r (h ++ y ∷ s) (sym q ∙ q'))))
one_place u v (z ∷ f) [] a b x y l m r s p q d p' q' d' = absurd (d' (head_same b z m (f ++ a ∷ l) (sym p' ∙ p) ∙ sym (head_same y z s (f ++ x ∷ r) (sym q' ∙ q))))
one_place u v (z ∷ f) (w ∷ h) a b x y l m r s p q d p' q' d' =
    let both = sym p ∙ p' in
    let others = sym q ∙ q' in
    let same = one_place (f ++ a ∷ l) (f ++ x ∷ r) f h a b x y l m r s refl refl d (tail_same z w (f ++ a ∷ l) (h ++ b ∷ m) both) (tail_same z w (f ++ x ∷ r) (h ++ y ∷ s) others) d' in
    let first = head_same z w (f ++ a ∷ l) (h ++ b ∷ m) both in
    ((λ i. first i ∷ same.0 i), same.1)

-- the replies that are expected before a step of a test, both counted from 0
abbrev before : List TestCase → ℕ → ℕ → List (List ℤ)
before tests i j = flat_map wanted (take i tests) ++ take j (get_or tests i no_test).replies

front_length : (t : TestCase) (tests : List TestCase) (i j : ℕ) → length (before (t ∷ tests) (suc i) j) ≡ length t.replies + length (before tests i j)
front_length t tests i j = ap length (append_assoc t.replies (flat_map wanted (take i tests)) (take j (get_or tests i no_test).replies)) ∙ length-append t.replies (before tests i j)

-- steps before which as many replies are expected are one
one_step : (tests : List TestCase) (i k j l : ℕ) → i < length tests → k < length tests → j < length (get_or tests i no_test).replies → l < length (get_or tests k no_test).replies
    → length (before tests i j) ≡ length (before tests k l) → (i ≡ k) × (j ≡ l)
one_step [] i k j l hi hk hj hl e = let no : ⊥ = omega arith in absurd no
one_step (t ∷ tests) zero zero j l hi hk hj hl e = (refl, sym (length-take-le j t.replies (omega arith)) ∙ e ∙ length-take-le l t.replies (omega arith))
one_step (t ∷ tests) zero (suc k) j l hi hk hj hl e =
    let no : ⊥ = omega (arith, length-take-le j t.replies (omega arith), front_length t tests k l, e) in absurd no
one_step (t ∷ tests) (suc i) zero j l hi hk hj hl e =
    let no : ⊥ = omega (arith, length-take-le l t.replies (omega arith), front_length t tests i j, e) in absurd no
one_step (t ∷ tests) (suc i) (suc k) j l hi hk hj hl e =
    let same = one_step tests i k j l (omega arith) (omega arith) hj hl (omega (arith, front_length t tests i j, front_length t tests k l, e)) in
    (ap suc same.0, same.1)

split : {X : Type 0} (xs : List X) (k : ℕ) (d : X) → k < length xs → xs ≡ take k xs ++ get_or xs k d ∷ drop (k + 1) xs
split xs k d inside = sym (take-append-drop (k + 1) xs) ∙ ap (λ l. l ++ drop (k + 1) xs) (take_more xs k d inside) ∙ append_assoc (take k xs) (get_or xs k d ∷ []) (drop (k + 1) xs)

-- a verdict that names a difference names the place where the lists part
parts : (coming left : List (List ℤ)) (tests : List TestCase) (test step : ℕ) (given : List ℤ) → NamesDifference tests (Fail test step given) → coming ≡ replies_to tests (Fail test step given) ++ left
    → Part coming (flat_map wanted tests) (before tests (test - 1) (step - 1)) given
parts coming left tests test step given names is =
    let i = test - 1 in
    let j = step - 1 in
    let t = get_or tests i no_test in
    let front = flat_map wanted (take i tests) in
    let first : 0 < test = names.0.some_test in
    let among : test ≤ length tests = names.0.in_tests in
    let begun : 0 < step = names.0.some_step in
    let within : step ≤ length t.replies = names.0.in_test in
    record {
      e = get_or t.replies j [];
      left = left;
      rest = drop (j + 1) t.replies ++ flat_map wanted (drop (i + 1) tests);
      gives = is ∙ ap (λ l. l ++ left) (flat_map-append wanted (take i tests) (up_to t step given ∷ []) ∙ ap (λ l. front ++ l) (append-nil (take j t.replies ++ given ∷ [])) ∙ sym (append_assoc front (take j t.replies) (given ∷ [])))
          ∙ append_assoc (before tests i j) (given ∷ []) left;
      wants = ap (flat_map wanted) (split tests i no_test (omega arith)) ∙ flat_map-append wanted (take i tests) (t ∷ drop (i + 1) tests)
          ∙ ap (λ l. front ++ (l ++ flat_map wanted (drop (i + 1) tests))) (split t.replies j [] (omega arith))
          ∙ ap (λ l. front ++ l) (append_assoc (take j t.replies) (get_or t.replies j [] ∷ drop (j + 1) t.replies) (flat_map wanted (drop (i + 1) tests)))
          ∙ sym (append_assoc front (take j t.replies) (get_or t.replies j [] ∷ (drop (j + 1) t.replies ++ flat_map wanted (drop (i + 1) tests))));
      differ = names.1;
    }

-- where lists part, neither is the front of the other
not_whole : (coming left : List (List ℤ)) (tests : List TestCase) (front : List (List ℤ)) (g : List ℤ) → coming ≡ flat_map wanted tests ++ left → Part coming (flat_map wanted tests) front g → ⊥
not_whole coming left tests front g is part =
    part.differ (sym (no_front front part.e g part.rest part.left left (ap (λ l. l ++ left) (sym part.wants) ∙ sym is ∙ part.gives)))

pub one_verdict_on : (coming left other : List (List ℤ)) (tests : List TestCase) (v w : Verdict) → NamesDifference tests v → coming ≡ replies_to tests v ++ left
    → NamesDifference tests w → coming ≡ replies_to tests w ++ other → v ≡ w
one_verdict_on coming left other tests Pass Pass h p k q = refl
one_verdict_on coming left other tests Pass (Fail test step given) h p k q = absurd (not_whole coming left tests _ given p (parts coming other tests test step given k q))
one_verdict_on coming left other tests (Fail test step given) Pass h p k q = absurd (not_whole coming other tests _ given q (parts coming left tests test step given h p))
one_verdict_on coming left other tests (Fail test step given) (Fail test' step' given') h p k q =
    let a = parts coming left tests test step given h p in
    let b = parts coming other tests test' step' given' k q in
    let same = one_place coming (flat_map wanted tests) (before tests (test - 1) (step - 1)) (before tests (test' - 1) (step' - 1)) given given' a.e b.e a.left b.left a.rest b.rest a.gives a.wants a.differ b.gives b.wants b.differ in
    let t = names_test h.0 in
    let t' = names_test k.0 in
    let places = one_step tests (test - 1) (test' - 1) (step - 1) (step' - 1) t.0 t'.0 t.1 t'.1 (ap length same.0) in
    let one : test ≡ test' = from_pred test test' h.0.some_test k.0.some_test places.0 in
    let other : step ≡ step' = from_pred step step' h.0.some_step k.0.some_step places.1 in
    λ x. Fail (one x) (other x) (same.1 x)
  where
    names_test : {test step : ℕ} → IsStep tests test step → (test - 1 < length tests) × (step - 1 < length (test_at tests test).replies)
    names_test {test} {step} h =
        let a : 0 < test = h.some_test in let b : test ≤ length tests = h.in_tests in let c : 0 < step = h.some_step in let d : step ≤ length (test_at tests test).replies = h.in_test in
        (omega arith, omega arith)

    from_pred : (a b : ℕ) → 0 < a → 0 < b → a - 1 ≡ b - 1 → a ≡ b
    from_pred a b h k e = omega arith
