-- A plan with one vector and one state that replies nothing: one press is a complete test of it at the bound 1, and no
-- test at all is not.
use Rattle.std.proofs.Common.{inl, inr, ◌<◌, zero, suc, length, All, ◌≤◌, Contains, ◌≡◌, ℕ, ℤ, pos, Bool, true, false, ◌&&◌, cond, List, [], ◌∷◌, ◌++◌, None, Some, refl, sym, ap, subst, ◌∙◌, arith}
use Rattle.std.specs.Option.{option_map_or}
use Rattle.std.proofs.lemmas.Int.{ints}
use Rattle.std.proofs.lemmas.List.Elements.{All-nil, All-cons, All-head}
use Rattle.lin_form.specs.declared.signature.Signature.{Signature}
use Rattle.lin_form.specs.Range.{IsInRanges}
use Rattle.lin_form.specs.Signature.{ranges_of}
use Rattle.subject.specs.declared.case.Case.{Case}
use Rattle.subject.specs.Alike.{ActsLike, LeadAlike, HasRank}
use Rattle.subject.specs.Shape.{LeadAlikeBy, answer_after, IsSuiteFor, HasShape, HasWpShape, IsOwnMark, IsOwnProduct, IsWpProduct}
use Rattle.subject.specs.Suite.{Test, in_vectors}
use Rattle.word_pool.specs.Words.{word}
use Rattle.suite_words.specs.Cover.{AreLetters, IsFirstOfItsKind}
use Rattle.suite_words.specs.Tests.{IsProduct, IsLongest, AreLongest}
use Rattle.subject.proofs.Shortlex.{none_before}
use Rattle.std.proofs.lemmas.List.{append-nil}
use Rattle.subject.specs.Domain.{Complete, Inside, box}
use Rattle.subject.specs.FiniteMap.{FiniteMap, plan_of_map}
use Rattle.subject.specs.inside.Examples.{entry, pressed, one_class, one_press, silent_suite, loud_press}
use Rattle.subject.specs.Method.{AreCoverAndMarks, HaveProducts, IsAnswered, IsFront}
use Rattle.input_classes.specs.declared.class.Class.{Class}
use Rattle.input_classes.specs.Partition.{Covers, IsInClass, witnesses}
use Rattle.subject.specs.Meaning.{Meaning, answer_from, answer, state_after}
use Rattle.subject.specs.Tests.{AnswersTest, IsFirstFailure}
use Rattle.input_classes.specs.VectorSet.{VectorSet, Members, IsIn, Word, IsWordOf}
use Rattle.subject.proofs.Method.{all_marks_are_own, tests_decide}
use Rattle.subject.proofs.Words.{after-state}

only : (x : List ℤ) → IsInRanges ((pos 0, pos 0) ∷ []) x → x ≡ pressed 0
only [] h = absurd h
only (a ∷ []) h = let low = h.0.0 in let high = h.0.1 in let is : a ≡ pos 0 = omega (arith, ints) in ap (λ (z : ℤ). z ∷ []) is
only (a ∷ b ∷ x) h = absurd h.1

stays : (b : Bool) → option_map_or (λ (e : Case). e.next) (cond (true && b) (Some (entry 0 0 0 5)) None) 0 ≡ 0
stays true = refl
stays false = refl

loud_differs : ((pos 5 ∷ []) ∷ []) ≡ ([] ∷ []) → ⊥
loud_differs e = cc

only_one : {X : Type 0} (x y : X) → Contains (x ∷ []) y → x ≡ y
only_one x y (zero, b, e) = e
only_one x y (suc k, b, e) = let no : ⊥ = omega arith in absurd no

-- a word of at most one press is the front of the test
front : (z : Word) → IsWordOf (Members (witnesses one_class)) z → length z ≤ 1 → IsFront one_press (z ++ [])
front [] word short = record { test = record { word = pressed 0 ∷ []; replies = [] ∷ [] }; rest = pressed 0 ∷ []; there = (0, omega arith, refl); is = refl }
front (x ∷ []) word short = record {
  test = record { word = pressed 0 ∷ []; replies = [] ∷ [] };
  rest = [];
  there = (0, omega arith, refl);
  is = ap (λ y. y ∷ []) (only_one (pressed 0) x (All-head (Contains (witnesses one_class)) x [] word));
}
front (x ∷ y ∷ z) word short = let no : ⊥ = omega arith in absurd no

-- words of at most one letter, which is 0
record IsShort (u : List ℕ) : Type 0 where
  short : length u ≤ 1
  letters : AreLetters 1 u

nothing : (i : ℕ) → i < 1 → word ([] ∷ []) i ≡ []
nothing zero h = refl
nothing (suc i) h = absurd (omega (arith, h))

product_short : (d : ℕ) (u : List ℕ) → d ≤ 1 → IsProduct 1 ([] ∷ []) ([] ∷ []) d u → IsShort u
product_short d u few p =
    let k = p.after in
    subst IsShort (sym (k.is ∙ (λ j. nothing p.i p.in_cover j ++ (k.z ++ nothing k.k k.mark j)) ∙ append-nil k.z)) (record { short = (let e = k.short in omega (arith, e, few)); letters = k.letters })

one_letter : AreLetters 1 (0 ∷ [])
one_letter = All-cons (λ a. a < 1) 0 [] (omega arith) (All-nil (λ a. a < 1))

each_one : (P : List ℕ → Type 0) → P (0 ∷ []) → (w : List ℕ) → IsLongest P w → IsShort w → Contains ((0 ∷ []) ∷ []) w
each_one P p [] h k = absurd (h.longest (0 ∷ []) p (0, ([], refl)))
each_one P p (a ∷ []) h k =
    let below = All-head (λ a. a < 1) a [] k.letters in
    let zero_is : 0 ≡ a = omega (arith, below) in
    (0, omega arith, ap (λ b. b ∷ []) zero_is)
each_one P p (a ∷ b ∷ w) h k = let e = k.short in absurd (omega (arith, e))

-- where every product is so short, the one of one letter is the only test
longest_one : (P : List ℕ → Type 0) → P (0 ∷ []) → ((u : List ℕ) → P u → IsShort u) → AreLongest P ((0 ∷ []) ∷ [])
longest_one P p short = record {
  only = All-cons (IsLongest P) (0 ∷ []) [] (record { product = p; longest = λ u k pre. let e = (short u k).short in let is = ap length pre.1.1 in omega (arith, e, is) }) (All-nil (IsLongest P));
  each = λ w h. each_one P p w h (short w h.product);
  ascending = λ a b d less below. absurd (omega (arith, less, below));
}

module _ (sg : Signature) (ranged : ranges_of sg.inputs ≡ (pos 0, pos 0) ∷ []) where
  abbrev m : Meaning ℕ
  m = plan_of_map (record { signature = sg; entries = [] })

  abbrev s : VectorSet
  s = box m one_class

  only_in : (x : List ℤ) → IsIn s x → x ≡ pressed 0
  only_in x h = only x (subst (λ ranges. IsInRanges ranges x) ranged h.inside)

  press : IsIn s (pressed 0)
  press = record { inside = subst (λ ranges. IsInRanges ranges (pressed 0)) (sym ranged) ((omega (arith, ints), omega (arith, ints)), tt); said = All-nil _ }

  press_word : IsWordOf s (pressed 0 ∷ [])
  press_word = All-cons (IsIn s) (pressed 0) [] press (All-nil (IsIn s))

  silent_stays : (t : ℕ) (w : Word) → state_after m t w ≡ t
  silent_stays t [] = refl
  silent_stays t (x ∷ w) = silent_stays t w

  covers : Covers s one_class
  covers = record {
    classes = λ x h. refl;
    witnessed = All-cons (λ (c : Class). IsInClass s one_class c c.witness) (record { pattern = []; witness = pressed 0 }) [] (press, refl) (All-nil (λ (c : Class). IsInClass s one_class c c.witness));
  }

  only_empty : All (IsWordOf (Members (witnesses one_class))) ([] ∷ [])
  only_empty = All-cons (IsWordOf (Members (witnesses one_class))) [] [] (All-nil (Contains (witnesses one_class))) (All-nil (IsWordOf (Members (witnesses one_class))))

  -- the empty word is a state cover, and a characterisation set
  cover_and_marks : AreCoverAndMarks (Members (witnesses one_class)) m ([] ∷ []) ([] ∷ [])
  cover_and_marks = record {
    begins = (0, omega arith, refl);
    cover_words = only_empty;
    mark_words = only_empty;
    some_mark = omega arith;
    whole = λ w h never. never (record {
      like = [];
      there = (0, omega arith, refl);
      alike = λ v k. after-state m w v ∙ ap (λ t. answer_from m t v) (silent_stays 0 w) ∙ sym (after-state m [] v);
    });
    apart = λ a b d less below agree. let no : ⊥ = omega arith in no;
  }

  products : HaveProducts (Members (witnesses one_class)) ([] ∷ []) ([] ∷ []) 0 one_press
  products p z w first word short mark never =
      never (subst (λ a. IsFront one_press (a ++ (z ++ w))) (only_one [] p first) (subst (λ b. IsFront one_press (z ++ b)) (only_one [] w mark) (front z word short)))

  answered : All (IsAnswered s m) one_press
  answered = All-cons (IsAnswered s m) (record { word = pressed 0 ∷ []; replies = [] ∷ [] }) [] (record { is_word = press_word; expected = refl }) (All-nil (IsAnswered s m))

  -- one press is enough
  pub enough : Complete m one_class 1 one_press
  enough f =
      tests_decide m one_class 1 (plan_of_map f) one_press (all_marks_are_own m one_class 1 ([] ∷ []) ([] ∷ []) one_press covers (omega arith) cover_and_marks products answered)

  abbrev loud : FiniteMap
  loud = record { signature = sg; entries = entry 0 0 0 5 ∷ [] }

  stays_at : (w : Word) → state_after (plan_of_map loud) 0 w ≡ 0
  stays_at [] = refl
  stays_at (x ∷ w) = ap (λ t. state_after (plan_of_map loud) t w) (stays _) ∙ stays_at w

  same_acts : {T : Type 0} (i : Meaning T) (x y : List ℤ) → IsIn s x → IsIn s y → ActsLike s i x y
  same_acts i x y h k u v p q = ap (λ z. answer i (u ++ z ∷ v)) (only_in x h ∙ sym (only_in y k))

  loud_is_inside : Inside m one_class 1 (plan_of_map loud)
  loud_is_inside = record {
    fits = record { names = refl; ranges = refl; outputs = refl };
    states = record {
      words = [] ∷ [];
      are_words = All-cons (IsWordOf s) [] [] (All-nil (IsIn s)) (All-nil (IsWordOf s));
      few = omega arith;
      each = λ w h. ∣ record { like = []; there = (0, omega arith, refl); alike = λ v k. after-state (plan_of_map loud) w v ∙ ap (λ t. answer_from (plan_of_map loud) t v) (stays_at w) ∙ sym (after-state (plan_of_map loud) [] v) } ∣₁;
    };
    classes = λ x h. ∣ record {
      one = record { pattern = []; witness = pressed 0 };
      there = (0, omega arith, refl);
      in_model = λ y k. same_acts m y x k.0 h;
      in_other = λ y k. same_acts (plan_of_map loud) y x k.0 h;
    } ∣₁;
  }

  -- no test is too few
  pub too_few : Complete m one_class 1 [] → ⊥
  too_few complete = loud_differs ((complete loud loud_is_inside).0 (All-nil (AnswersTest (answer (plan_of_map loud)))) (pressed 0 ∷ []) press_word)

  alike_any : (u w : Word) → LeadAlike s m u w
  alike_any u w v k = after-state m u v ∙ ap (λ t. answer_from m t v) (silent_stays 0 u ∙ sym (silent_stays 0 w)) ∙ sym (after-state m w v)

  one_state : HasRank s m 1
  one_state = record {
    most = record {
      words = [] ∷ [];
      are_words = All-cons (IsWordOf s) [] [] (All-nil (IsIn s)) (All-nil (IsWordOf s));
      few = omega arith;
      each = λ w h. ∣ record { like = []; there = (0, omega arith, refl); alike = alike_any w [] } ∣₁;
    };
    words = [] ∷ [];
    are_words = All-cons (IsWordOf s) [] [] (All-nil (IsIn s)) (All-nil (IsWordOf s));
    many = refl;
    apart = λ a b d less below. absurd (omega (arith, less, below));
  }

  each_kind : (p : List ℕ) → IsFirstOfItsKind 1 (LeadAlikeBy m one_class) p → Contains ([] ∷ []) p
  each_kind [] h = (0, omega arith, refl)
  each_kind (a ∷ p) h = absurd (h.first [] (All-nil (λ a. a < 1)) (inl (omega arith)) (alike_any [] (in_vectors (witnesses one_class) (a ∷ p))))

  suits : IsSuiteFor m one_class 1 (silent_suite sg)
  suits = record {
    signature = refl;
    same_bound = refl;
    classes = refl;
    rank = one_state;
    few = omega arith;
    cover = record {
      only = All-cons (IsFirstOfItsKind 1 (LeadAlikeBy m one_class)) [] [] (record { letters = All-nil (λ a. a < 1); first = λ u h b alike. none_before u b }) (All-nil (IsFirstOfItsKind 1 (LeadAlikeBy m one_class)));
      each = each_kind;
      ordered = λ a b d less below. absurd (omega (arith, less, below));
    };
    marks = record {
      one = λ e. refl;
      next = λ k w many h. absurd (omega (arith, many));
      ends = λ a b less below agree. omega (arith, less, below);
    };
    replies = All-cons (λ (t : Test). t.replies ≡ answer m (in_vectors (pressed 0 ∷ []) t.letters)) (record { letters = 0 ∷ []; replies = [] ∷ [] }) [] refl (All-nil _);
  }

  own_short : (u : List ℕ) → IsOwnProduct 1 (LeadAlikeBy m one_class) (answer_after m one_class ([] ∷ [])) 1 ([] ∷ []) ([] ∷ []) 1 u → IsShort u
  own_short u p = subst IsShort (sym (p.is ∙ (λ j. nothing p.p p.in_cover j ++ (p.z ++ own_is p.q p.w p.reached p.own j)) ∙ append-nil p.z)) (record { short = p.short; letters = p.letters })
    where
      own_is : (q : ℕ) (w : List ℕ) → q < 1 → IsOwnMark (answer_after m one_class ([] ∷ [])) 1 ([] ∷ []) q w → w ≡ []
      own_is q w below (inl h) = h.1
      own_is q w below (inr h) = let other = h.1.0 in absurd (h.1.1.0 (omega (arith, below, other)))

  wp_product_short : (u : List ℕ) → IsWpProduct 1 (LeadAlikeBy m one_class) (answer_after m one_class ([] ∷ [])) 1 ([] ∷ []) ([] ∷ []) 0 u → IsShort u
  wp_product_short u (inl p) = product_short 0 u (omega arith) p
  wp_product_short u (inr p) = own_short u p

  -- the suite has both shapes
  pub has_shape : HasShape m one_class 1 (silent_suite sg)
  has_shape = record {
    suits = suits;
    tests = longest_one (IsProduct 1 ([] ∷ []) ([] ∷ []) 1)
        (record { i = 0; in_cover = omega arith; after = record { z = 0 ∷ []; k = 0; letters = one_letter; short = omega arith; mark = omega arith; is = refl } })
        (λ u p. product_short 1 u (omega arith) p);
  }

  pub has_wp_shape : HasWpShape m one_class 1 (silent_suite sg)
  has_wp_shape = record {
    suits = suits;
    tests = longest_one (IsWpProduct 1 (LeadAlikeBy m one_class) (answer_after m one_class ([] ∷ [])) 1 ([] ∷ []) ([] ∷ []) 0)
        (inr (record { p = 0; q = 0; z = 0 ∷ []; w = []; in_cover = omega arith; letters = one_letter; short = omega arith; reached = omega arith; alike = alike_any (in_vectors (witnesses one_class) (0 ∷ [])) []; own = inl (refl, refl); is = refl }))
        wp_product_short;
  }

  -- a first failure
  pub fails_first : IsFirstFailure (answer m) loud_press (record { test = 1; step = 1; given = [] })
  fails_first = record {
    tests_before = 0;
    steps_before = 0;
    failed = record { word = pressed 0 ∷ []; replies = (pos 5 ∷ []) ∷ [] };
    expected = pos 5 ∷ [];
    test_number = refl;
    step_number = refl;
    there = refl;
    passed = All-nil (AnswersTest (answer m));
    same = refl;
    given = refl;
    wanted = refl;
    differs = λ e. nothing_differs e;
  }
    where
      nothing_differs : [] ≡ (pos 5 ∷ []) → ⊥
      nothing_differs e = cc
