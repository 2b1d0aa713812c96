-- The theorem of the W-method over words: a plan with few states that answers the tests as the model does answers
-- every word so. The marks of each word of the cover may be its own (Fujiwara and others 1991).
use Rattle.std.proofs.Common.{◌≡◌, ℕ, suc, ◌+◌, ◌-◌, ◌≤◌, inl, inr, ℤ, List, [], ◌∷◌, ◌++◌, length, take, drop, get_or, Contains, refl, sym, ap, subst, ◌∙◌, arith}
use Rattle.std.proofs.lemmas.Bool.{cases_lt}
use Rattle.std.specs.List.{All, AllPairs}
use Rattle.std.specs.Prelude.{◌↔◌}
use Rattle.std.proofs.lemmas.List.{append_assoc, length-append, get_or_default}
use Rattle.std.proofs.lemmas.List.Elements.{All-nil, All-cons, All-head, All-tail, All-push, All-contains, All-contains_itself}
use Rattle.subject.specs.Alike.{Equal, HasAtMost, IsListed, LeadAlike, LeadDifferently}
use Rattle.subject.specs.Meaning.{Meaning, answer, after}
use Rattle.subject.specs.Method.{AgreeOn, AreCoverAndMarks, AreMethodTests, AreOwnMarks, HaveOwnProducts, HaveProducts, IsAnswered, IsFront, IsTested}
use Rattle.subject.specs.Domain.{Inside, box}
use Rattle.subject.specs.Tests.{AnswersTest, Passes, TestCase}
use Rattle.input_classes.specs.Partition.{Partition, Covers, witnesses}
use Rattle.input_classes.specs.VectorSet.{VectorSet, Members, IsIn, Word, IsWordOf}
use Rattle.subject.proofs.Growing.{IsSeen, IsClosed, product_word, seen_start, grow, few_seen}
use Rattle.subject.proofs.Lifting.{stable, equal_from}
use Rattle.input_classes.proofs.CallerLemmas.{words-within}
use Rattle.subject.proofs.Words.{after-cons, after-none, answer-front, alike-goes_on}

-- what the theorem rests on: all marks after tails of at most d vectors, and after one vector more the own marks of the
-- word of the cover that is reached
pub record IsProbed {S T : Type 0} (s : VectorSet) (m : Meaning S) (i : Meaning T) (cover marks : List Word) (Own : Word → Word → Type 0) (d : ℕ) : Type 0 where
  pub begins : Contains cover []
  pub cover_words : All (IsWordOf s) cover
  pub mark_words : All (IsWordOf s) marks
  pub whole : (w : Word) → IsWordOf s w → (IsListed s m cover w → ⊥) → ⊥
  pub apart : AllPairs (λ p q. AgreeOn m marks p q → ⊥) cover
  pub own_mark : (q : Word) → Contains cover q → ((w : Word) → Own q w → ⊥) → ⊥
  pub own_marks : (q w : Word) → Contains cover q → Own q w → Contains marks w
  pub own_apart : (p q : Word) → Contains cover p → Contains cover q → ((w : Word) → Own p w → after m p w ≡ after m q w) → p ≡ q
  pub answers : (p z w : Word) → Contains cover p → IsWordOf s z → length z ≤ d → Contains marks w → answer i (p ++ (z ++ w)) ≡ answer m (p ++ (z ++ w))
  pub own_answers : (p z q w : Word) → Contains cover p → IsWordOf s z → length z ≤ d + 1 → Contains cover q → LeadAlike s m (p ++ z) q → Own q w → answer i (p ++ (z ++ w)) ≡ answer m (p ++ (z ++ w))

module _ {S T : Type 0} (s : VectorSet) (m : Meaning S) (i : Meaning T) (cover marks : List Word) (Own : Word → Word → Type 0) (d : ℕ) (h : IsProbed s m i cover marks Own d) where
  product_after : (p z w : Word) → answer i (p ++ (z ++ w)) ≡ answer m (p ++ (z ++ w)) → after i (p ++ z) w ≡ after m (p ++ z) w
  product_after p z w e = ap (drop (length (p ++ z))) (ap (answer i) (append_assoc p z w) ∙ e ∙ sym (ap (answer m) (append_assoc p z w)))

  product_answer : (p z w : Word) → answer i (p ++ (z ++ w)) ≡ answer m (p ++ (z ++ w)) → answer i (p ++ z) ≡ answer m (p ++ z)
  product_answer p z w e =
      sym (answer-front i (p ++ z) w) ∙ ap (take (length (p ++ z))) (ap (answer i) (append_assoc p z w) ∙ e ∙ sym (ap (answer m) (append_assoc p z w))) ∙ answer-front m (p ++ z) w

  mark_word : (w : Word) → Contains marks w → IsWordOf s w
  mark_word w k = All-contains (IsWordOf s) marks w h.mark_words k

  -- words of the cover lead pairwise differently in the other plan too
  cover_apart : AllPairs (LeadDifferently s i) cover
  cover_apart a b c less below alike =
      let p = get_or cover a c in
      let q = get_or cover b c in
      h.apart a b c less below (λ k e short.
      let w = get_or marks k e in
      let mark = All-contains_itself marks k e short in
      let at_p = h.answers p [] w (All-contains_itself cover a c (omega arith)) (All-nil (IsIn s)) (omega arith) mark in
      let at_q = h.answers q [] w (All-contains_itself cover b c below) (All-nil (IsIn s)) (omega arith) mark in
      sym (ap (drop (length p)) at_p) ∙ alike w (mark_word w mark) ∙ ap (drop (length q)) at_q)

  module _ (final : List Word) (seen : IsSeen s i cover h.cover_words final) (closed : IsClosed s i cover h.cover_words final) (short : length final ≤ length cover + d) where
    -- all marks after a word that is seen
    mark_after : (f w : Word) → Contains final f → Contains marks w → after i f w ≡ after m f w
    mark_after f w at mark =
        let p = seen.each f at in
        let tail = p.short in
        let same = product_after p.first p.tail w (h.answers p.first p.tail w p.cover_word p.tail_word (omega arith) mark) in
        ap (λ u. after i u w) p.is ∙ same ∙ sym (ap (λ u. after m u w) p.is)

    -- a step from a word that is seen, as a product
    step_is : (e : Word) (x : List ℤ) (at : Contains final e) → e ++ x ∷ [] ≡ (seen.each e at).first ++ ((seen.each e at).tail ++ x ∷ [])
    step_is e x at = ap (λ u. u ++ x ∷ []) (seen.each e at).is ∙ append_assoc (seen.each e at).first (seen.each e at).tail (x ∷ [])

    own_test : (e : Word) (x : List ℤ) (q w : Word) (at : Contains final e) → IsIn s x → Contains cover q → LeadAlike s m (e ++ x ∷ []) q → Own q w
        → answer i ((seen.each e at).first ++ (((seen.each e at).tail ++ x ∷ []) ++ w)) ≡ answer m ((seen.each e at).first ++ (((seen.each e at).tail ++ x ∷ []) ++ w))
    own_test e x q w at in' cover_word alike mark =
        let p = seen.each e at in
        let tail = p.short in
        let size = length-append p.tail (x ∷ []) in
        h.own_answers p.first (p.tail ++ x ∷ []) q w p.cover_word (All-push (IsIn s) p.tail x p.tail_word in') (omega arith) cover_word (subst (λ u. LeadAlike s m u q) (step_is e x at) alike) mark

    own_after : (e : Word) (x : List ℤ) (q w : Word) → Contains final e → IsIn s x → Contains cover q → LeadAlike s m (e ++ x ∷ []) q → Own q w → after i (e ++ x ∷ []) w ≡ after m (e ++ x ∷ []) w
    own_after e x q w at in' cover_word alike mark =
        let p = seen.each e at in
        let same = product_after p.first (p.tail ++ x ∷ []) w (own_test e x q w at in' cover_word alike mark) in
        ap (λ u. after i u w) (step_is e x at) ∙ same ∙ sym (ap (λ u. after m u w) (step_is e x at))

    step_word : (e : Word) (x : List ℤ) → Contains final e → IsIn s x → IsWordOf s (e ++ x ∷ [])
    step_word e x at in' = All-push (IsIn s) e x (product_word s i cover h.cover_words (length final) e (seen.each e at)) in'

    -- the reply to a step from a word that is seen
    step_reply : (e : Word) (x : List ℤ) → Contains final e → IsIn s x → after i e (x ∷ []) ≡ after m e (x ∷ [])
    step_reply e x at in' =
        stable (after i e (x ∷ [])) (after m e (x ∷ [])) (λ differ. h.whole (e ++ x ∷ []) (step_word e x at in') (λ c.
        let q = c.like in
        h.own_mark q c.there (λ w mark.
        let p = seen.each e at in
        let same = product_answer p.first (p.tail ++ x ∷ []) w (own_test e x q w at in' c.there c.alike mark) in
        let whole = ap (answer i) (step_is e x at) ∙ same ∙ sym (ap (answer m) (step_is e x at)) in
        differ (ap (drop (length e)) whole))))

    -- a step and a word that is seen lead alike in the model where they do in the other plan
    mapped : (e : Word) (x : List ℤ) (f : Word) → Contains final e → IsIn s x → Contains final f → LeadAlike s i (e ++ x ∷ []) f → (LeadAlike s m (e ++ x ∷ []) f → ⊥) → ⊥
    mapped e x f at in' there alike never =
        h.whole (e ++ x ∷ []) (step_word e x at in') (λ c. h.whole f (product_word s i cover h.cover_words (length final) f (seen.each f there)) (λ g.
        let agree : (w : Word) → Own c.like w → after m c.like w ≡ after m g.like w = λ w own_mark.
        let mark = h.own_marks c.like w c.there own_mark in
        sym (c.alike w (mark_word w mark)) ∙ sym (own_after e x c.like w at in' c.there c.alike own_mark) ∙ alike w (mark_word w mark) ∙ mark_after f w there mark ∙ g.alike w (mark_word w mark) in
        let same = h.own_apart c.like g.like c.there g.there agree in
        never (λ v k. c.alike v k ∙ ap (λ u. after m u v) same ∙ sym (g.alike v k))))

    -- a word gets the same replies after words that lead alike with one that is seen
    agree : (v : Word) (e u t : Word) → IsWordOf s v → Contains final e → LeadAlike s i u e → LeadAlike s m t e → after i u v ≡ after m t v
    agree [] e u t k at left right = after-none i u ∙ sym (after-none m t)
    agree (x ∷ v) e u t k at left right =
        let in' = All-head (IsIn s) x v k in
        let rest = All-tail (IsIn s) x v k in
        let one = All-cons (IsIn s) x [] in' (All-nil (IsIn s)) in
        let reply = left (x ∷ []) one ∙ step_reply e x at in' ∙ sym (right (x ∷ []) one) in
        stable (after i u (x ∷ v)) (after m t (x ∷ v)) (λ differ. closed e x at in' (λ f there alike. mapped e x f at in' there alike (λ same.
        let next_left = λ (z : Word) (b : IsWordOf s z). alike-goes_on i s u e x in' left z b ∙ alike z b in
        let next_right = λ (z : Word) (b : IsWordOf s z). alike-goes_on m s t e x in' right z b ∙ same z b in
        let later = agree v f (u ++ x ∷ []) (t ++ x ∷ []) rest there next_left next_right in
        differ (after-cons i u x v ∙ (λ j. reply j ++ later j) ∙ sym (after-cons m t x v)))))

  -- a plan with at most d states more than the cover has words, counted over these or more words, answers every word
  -- as the model does
  pub equal_by_own : (large : VectorSet) → ((w : Word) → IsWordOf s w → IsWordOf large w) → HasAtMost large i (length cover + d) → Equal s i m
  equal_by_own large within most v k =
      stable (answer i v) (answer m v) (λ differ.
      grow s i cover h.cover_words large within (length cover + d) most (suc (length cover + d)) cover (omega arith) (seen_start s i cover h.cover_words cover_apart) (λ final seen closed.
      let few = few_seen s i cover h.cover_words large within (length cover + d) most final seen in
      differ (agree final seen closed few v [] [] [] k (seen.keeps [] h.begins) (λ z b. refl) (λ z b. refl))))

module _ {S : Type 0} (s : VectorSet) (m : Meaning S) (cover marks : List Word) (h : AreCoverAndMarks s m cover marks) where
  at_place : (p : Word) (k : Contains cover p) → get_or cover k.0 [] ≡ p
  at_place p k = get_or_default cover k.0 [] p k.1 ∙ k.2

  -- words of the cover that agree on the marks are one
  pub agree_is_one : (p q : Word) → Contains cover p → Contains cover q → AgreeOn m marks p q → p ≡ q
  agree_is_one p q first second agree =
      elim (cases_lt first.0 second.0) [
        | inl less ↦ absurd (h.apart first.0 second.0 [] less second.1 (λ k e b. ap (λ u. after m u (get_or marks k e)) (at_place p first) ∙ agree k e b ∙ sym (ap (λ u. after m u (get_or marks k e)) (at_place q second))))
        | inr more ↦ elim (cases_lt second.0 first.0) [
          | inl less ↦ absurd (h.apart second.0 first.0 [] less first.1 (λ k e b. ap (λ u. after m u (get_or marks k e)) (at_place q second) ∙ sym (agree k e b) ∙ sym (ap (λ u. after m u (get_or marks k e)) (at_place p first))))
          | inr less ↦ (let same : first.0 ≡ second.0 = omega arith in sym (at_place p first) ∙ ap (λ k. get_or cover k []) same ∙ at_place q second)
        ]
      ]

  agree_by : (p q : Word) → ((w : Word) → Contains marks w → after m p w ≡ after m q w) → AgreeOn m marks p q
  agree_by p q f k d below = f (get_or marks k d) (All-contains_itself marks k d below)

  -- all marks as the own marks of each word of the cover
  pub all_marks : (p : Word) → ((w : Word) → Contains marks w → ⊥) → ⊥
  all_marks p none = none (get_or marks 0 []) (All-contains_itself marks 0 [] h.some_mark)

  pub all_apart : (p q : Word) → Contains cover p → Contains cover q → ((w : Word) → Contains marks w → after m p w ≡ after m q w) → p ≡ q
  all_apart p q a b f = agree_is_one p q a b (agree_by p q f)

-- tests on words of a set that have the products of both kinds
pub record HasMethod {S : Type 0} (s : VectorSet) (m : Meaning S) (cover marks : List Word) (Own : Word → Word → Type 0) (d : ℕ) (tests : List TestCase) : Type 0 where
  pub model : AreCoverAndMarks s m cover marks
  pub own_mark : (q : Word) → Contains cover q → ((w : Word) → Own q w → ⊥) → ⊥
  pub own_marks : (q w : Word) → Contains cover q → Own q w → Contains marks w
  pub own_apart : (p q : Word) → Contains cover p → Contains cover q → ((w : Word) → Own p w → after m p w ≡ after m q w) → p ≡ q
  pub products : (p z w : Word) → Contains cover p → IsWordOf s z → length z ≤ d → Contains marks w → (IsFront tests (p ++ (z ++ w)) → ⊥) → ⊥
  pub own_products : (p z q w : Word) → Contains cover p → IsWordOf s z → length z ≤ d + 1 → Contains cover q → LeadAlike s m (p ++ z) q → Own q w → (IsFront tests (p ++ (z ++ w)) → ⊥) → ⊥

module _ {S T : Type 0} (s : VectorSet) (m : Meaning S) (i : Meaning T) (cover marks : List Word) (d : ℕ) (h : IsTested s m i cover marks d) where
  tested_probed : IsProbed s m i cover marks (λ q w. Contains marks w) d
  tested_probed = record {
    begins = h.model.begins;
    cover_words = h.model.cover_words;
    mark_words = h.model.mark_words;
    whole = h.model.whole;
    apart = h.model.apart;
    own_mark = λ q k. all_marks s m cover marks h.model q;
    own_marks = λ q w k mark. mark;
    own_apart = all_apart s m cover marks h.model;
    answers = λ p z w k word short mark. h.answers p z w k word (omega arith) mark;
    own_answers = λ p z q w k word short cover_word alike mark. h.answers p z w k word short mark;
  }

  pub equal_by_tests : (large : VectorSet) → ((w : Word) → IsWordOf s w → IsWordOf large w) → HasAtMost large i (length cover + d) → Equal s i m
  equal_by_tests large within most = equal_by_own s m i cover marks (λ q w. Contains marks w) d tested_probed large within most

-- a plan that passes answers the front of each test as the model does
passed_front : {S T : Type 0} (large : VectorSet) (m : Meaning S) (i : Meaning T) (tests : List TestCase) → All (IsAnswered large m) tests → Passes (answer i) tests → (u : Word) → ((IsFront tests u → ⊥) → ⊥) → answer i u ≡ answer m u
passed_front large m i tests answered passes u front =
    stable (answer i u) (answer m u) (λ differ. front (λ f.
    let expected = (All-contains (IsAnswered large m) tests f.test answered f.there).expected in
    let same = All-contains (AnswersTest (answer i)) tests f.test passes f.there ∙ expected in
    differ (sym (answer-front i u f.rest) ∙ ap (take (length u)) (sym (ap (answer i) f.is) ∙ same ∙ ap (answer m) f.is) ∙ answer-front m u f.rest)))

passed_probed : {S T : Type 0} (s large : VectorSet) (m : Meaning S) (i : Meaning T) (cover marks : List Word) (Own : Word → Word → Type 0) (d : ℕ) (tests : List TestCase) → HasMethod s m cover marks Own d tests → All (IsAnswered large m) tests → Passes (answer i) tests → IsProbed s m i cover marks Own d
passed_probed s large m i cover marks Own d tests h answered passes = record {
  begins = h.model.begins;
  cover_words = h.model.cover_words;
  mark_words = h.model.mark_words;
  whole = h.model.whole;
  apart = h.model.apart;
  own_mark = h.own_mark;
  own_marks = h.own_marks;
  own_apart = h.own_apart;
  answers = λ p z w k word short mark. passed_front large m i tests answered passes (p ++ (z ++ w)) (h.products p z w k word short mark);
  own_answers = λ p z q w k word short cover_word alike mark. passed_front large m i tests answered passes (p ++ (z ++ w)) (h.own_products p z q w k word short cover_word alike mark);
}

module _ {S T : Type 0} (m : Meaning S) (r : Partition) (n : ℕ) (i : Meaning T) (cover marks : List Word) (covers : Covers (box m r) r) (few : length cover ≤ n) (inside : Inside m r n i) where
  states_inside : HasAtMost (box m r) i (length cover + (n - length cover))
  states_inside = let size : n ≡ length cover + (n - length cover) = omega arith in subst (HasAtMost (box m r) i) size inside.states

  lifted : Equal (Members (witnesses r)) i m → Equal (box m r) i m
  lifted equal w h = equal_from (box m r) r m i covers inside.classes equal [] w (All-nil (Contains (witnesses r))) h

  -- tests on words of witnesses, inside the fault domain
  pub equal_inside : IsTested (Members (witnesses r)) m i cover marks (n - length cover) → Equal (box m r) i m
  equal_inside tested = lifted (equal_by_tests (Members (witnesses r)) m i cover marks (n - length cover) tested (box m r) (words-within (box m r) r covers) states_inside)

  -- such tests decide whether the plan is equal to the model
  pub method_decides : (Own : Word → Word → Type 0) (tests : List TestCase) → HasMethod (Members (witnesses r)) m cover marks Own (n - length cover) tests → All (IsAnswered (box m r) m) tests → (Passes (answer i) tests ↔ Equal (box m r) i m)
  method_decides Own tests h answered = (
    λ passes. lifted (equal_by_own (Members (witnesses r)) m i cover marks Own (n - length cover) (passed_probed (Members (witnesses r)) (box m r) m i cover marks Own (n - length cover) tests h answered passes) (box m r) (words-within (box m r) r covers) states_inside),
    λ equal k e below. let t = answered k e below in equal (get_or tests k e).word t.is_word ∙ sym t.expected,
  )

-- with own marks as lists
pub own_method : {S : Type 0} (s : VectorSet) (m : Meaning S) (cover marks : List Word) (own : Word → List Word) (d : ℕ) (tests : List TestCase) → AreCoverAndMarks s m cover marks → AreOwnMarks m cover marks own → HaveOwnProducts s m cover marks own d tests → HasMethod s m cover marks (λ q w. Contains (own q) w) d tests
own_method s m cover marks own d tests model h products = record {
  model = model;
  own_mark = λ q k none. none (get_or (own q) 0 []) (All-contains_itself (own q) 0 [] (h.some q k));
  own_marks = λ q w k mark. All-contains (Contains marks) (own q) w (h.among q k) mark;
  own_apart = λ p q a b agree. h.apart p q a b (λ k d below. agree (get_or (own p) k d) (All-contains_itself (own p) k d below));
  products = products.any;
  own_products = products.its_own;
}

pub tests_decide : {S T : Type 0} (m : Meaning S) (r : Partition) (n : ℕ) (i : Meaning T) (tests : List TestCase) → AreMethodTests m r n tests → Inside m r n i → (Passes (answer i) tests ↔ Equal (box m r) i m)
tests_decide m r n i tests h inside =
    method_decides m r n i h.cover h.marks h.covers h.few inside (λ q w. Contains (h.own q) w) tests
    (own_method (Members (witnesses r)) m h.cover h.marks h.own (n - length h.cover) tests h.are_marks h.are_own h.products) h.answered

-- all marks as the own marks of each word: the W-method
pub all_marks_are_own : {S : Type 0} (m : Meaning S) (r : Partition) (n : ℕ) (cover marks : List Word) (tests : List TestCase) → Covers (box m r) r → length cover ≤ n → AreCoverAndMarks (Members (witnesses r)) m cover marks → HaveProducts (Members (witnesses r)) cover marks (n - length cover) tests → All (IsAnswered (box m r) m) tests → AreMethodTests m r n tests
all_marks_are_own m r n cover marks tests covers few model products answered = record {
  cover = cover;
  marks = marks;
  own = λ q. marks;
  covers = covers;
  few = few;
  are_marks = model;
  are_own = record {
    some = λ p k. model.some_mark;
    among = λ p k. λ a d below. All-contains_itself marks a d below;
    apart = agree_is_one (Members (witnesses r)) m cover marks model;
  };
  products = record {
    any = λ p z w k word short mark. products p z w k word (omega arith) mark;
    its_own = λ p z q w k word short cover_word alike mark. products p z w k word short mark;
  };
  answered = answered;
}
