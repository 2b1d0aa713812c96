-- From the shape of a suite to the premises of the theorem.
use Rattle.std.proofs.Common.{◌≡◌, ◌≢◌, ℕ, zero, suc, ◌+◌, ◌<◌, ◌≤◌, ◌⊎◌, inl, inr, List, [], ◌∷◌, ◌++◌, length, take, map, get_or, refl, sym, ap, ◌∙◌, subst, arith, ℤ, append_assoc, append-nil, length-append, Contains}
use Rattle.std.specs.List.{All, AllPairs}
use Rattle.std.proofs.lemmas.Bool.{cases_lt, cases_eq}
use Rattle.std.proofs.lemmas.List.{map-append, length-map, get_or-map, get_or_default}
use Rattle.std.proofs.lemmas.List.Elements.{All-contains, All-weaker, All-map, All-cons, All-nil, All-append}
use Rattle.std.proofs.lemmas.Option.{slice_get-get_or, slice_get_within, same_Some}
use Rattle.input_classes.specs.Partition.{Partition, Covers, witnesses}
use Rattle.input_classes.specs.VectorSet.{Members, Word, IsWordOf}
use Rattle.input_classes.proofs.CallerLemmas.{contains_first, contains_map, words-within}
use Rattle.word_pool.specs.Words.{word, IsProperPrefix}
use Rattle.suite_words.specs.Cover.{AreLetters, IsCoverBy, IsFirstOfItsKind}
use Rattle.suite_words.specs.Marks.{AgreeOnMarks, AreMarksBy}
use Rattle.suite_words.specs.Tests.{IsProduct, AreLongest}
use Rattle.subject.specs.Alike.{LeadAlike, LeadDifferently, IsListed, HasRank, MembersActAlike}
use Rattle.subject.specs.Domain.{ActByClasses, box}
use Rattle.subject.specs.Meaning.{Meaning, after}
use Rattle.subject.specs.Method.{AgreeOn, AreCoverAndMarks, IsFront}
use Rattle.subject.specs.Shape.{LeadAlikeBy, answer_after, IsFirstApart, IsOwnMark, IsOwnProduct, IsWpProduct}
use Rattle.subject.specs.Suite.{Test, in_vectors, test_case}
use Rattle.subject.specs.Tests.{TestCase}
use Rattle.subject.proofs.Covering.{cover_rank}
use Rattle.subject.proofs.Letters.{word_in, letters_for, contains_from_map, like_word}
use Rattle.subject.proofs.Lifting.{decide_same, lead_alike_from}
use Rattle.subject.proofs.Method.{HasMethod, all_marks, all_apart}
use Rattle.subject.proofs.Ranks.{few_apart, few_listed, rank_from_witnesses}
use Rattle.subject.proofs.Shortlex.{by_shortlex, none_before}

-- no word is longer than all together
abbrev total : List (List ℕ) → ℕ
total [] = 0
total (w ∷ ws) = length w + total ws

short_in : (ws : List (List ℕ)) (i : ℕ) → i < length ws → length (word ws i) ≤ total ws
short_in [] i h = absurd (omega (arith, h))
short_in (w ∷ ws) zero h = omega arith
short_in (w ∷ ws) (suc i) h = let e = short_in ws i (omega (arith, h)) in omega (arith, e)

-- marks that two words do not agree on have a first one that is answered differently
record HasFirstApart (f : ℕ → List ℕ → List (List ℤ)) (marks : List (List ℕ)) (i j : ℕ) : Type 0 where
  mark : List ℕ
  first : IsFirstApart f marks i j mark

first_apart : (f : ℕ → List ℕ → List (List ℤ)) (marks : List (List ℕ)) (i j : ℕ) → (AgreeOnMarks f marks i j → ⊥) → HasFirstApart f marks i j
first_apart f [] i j never = absurd (never (All-nil (λ w. f i w ≡ f j w)))
first_apart f (w ∷ marks) i j never =
    elim (decide_same (f i w) (f j w)) [
      | inr differ ↦ record { mark = w; first = record { place = 0; there = refl; differ = differ; agree_before = All-nil (λ w. f i w ≡ f j w) } }
      | inl same ↦ (
          let h = first_apart f marks i j (λ rest. never (All-cons (λ w. f i w ≡ f j w) w marks same rest)) in
          record {
            mark = h.mark;
            first = record {
              place = suc h.first.place;
              there = h.first.there;
              differ = h.first.differ;
              agree_before = All-cons (λ w. f i w ≡ f j w) w (take h.first.place marks) same h.first.agree_before;
            };
          })
    ]

-- marks are words of letters, and own marks are among them
pub marks_are_letters : (f : ℕ → List ℕ → List (List ℤ)) (n c : ℕ) (marks : List (List ℕ)) → 0 < n → AreMarksBy f n c marks → All (AreLetters c) marks
marks_are_letters f n c marks some k =
    elim (cases_eq n 1) [
      | inl e ↦ subst (All (AreLetters c)) (sym (k.one e)) (All-cons (AreLetters c) [] [] (All-nil (λ a. a < c)) (All-nil (AreLetters c)))
      | inr other ↦ (λ i d inside. (k.next i (get_or marks i d) (omega (arith, some, other)) (slice_get-get_or marks i d inside)).letters)
    ]

pub own_mark_among : (f : ℕ → List ℕ → List (List ℤ)) (n c : ℕ) (marks : List (List ℕ)) → AreMarksBy f n c marks → (p : ℕ) (w : List ℕ) → IsOwnMark f n marks p w → Contains marks w
own_mark_among f n c marks k p w (inl h) = subst (λ ws. Contains ws w) (sym (k.one h.0)) (subst (Contains ([] ∷ [])) (sym h.1) (contains_first [] []))
own_mark_among f n c marks k p w (inr h) =
    let at = h.1.1.1.place in
    let there = h.1.1.1.there in
    let inside = slice_get_within marks at w there in
    (at, inside, same_Some (get_or marks at w) w (sym (slice_get-get_or marks at w inside) ∙ there))

-- the words of a product are words of letters
three_letters : (c : ℕ) (cover : List (List ℕ)) → All (AreLetters c) cover → (i : ℕ) (z w : List ℕ) → i < length cover → AreLetters c z → AreLetters c w → AreLetters c (word cover i ++ (z ++ w))
three_letters c cover h i z w below e g = All-append (λ a. a < c) (word cover i) (z ++ w) (h i [] below) (All-append (λ a. a < c) z w e g)

pub product_letters : (c : ℕ) (cover marks : List (List ℕ)) → All (AreLetters c) cover → All (AreLetters c) marks → (d : ℕ) (u : List ℕ) → IsProduct c cover marks d u → AreLetters c u
product_letters c cover marks h k d u p = subst (AreLetters c) (sym p.after.is) (three_letters c cover h p.i p.after.z (word marks p.after.k) p.in_cover p.after.letters (k p.after.k [] p.after.mark))

pub wp_letters : (c : ℕ) (Alike : List ℕ → List ℕ → Type 0) (f : ℕ → List ℕ → List (List ℤ)) (n : ℕ) (cover marks : List (List ℕ)) → All (AreLetters c) cover → All (AreLetters c) marks → AreMarksBy f n c marks → (d : ℕ) (u : List ℕ) → IsWpProduct c Alike f n cover marks d u → AreLetters c u
wp_letters c Alike f n cover marks h k are d u (inl p) = product_letters c cover marks h k d u p
wp_letters c Alike f n cover marks h k are d u (inr p) =
    subst (AreLetters c) (sym p.is) (three_letters c cover h p.p p.z p.w p.in_cover p.letters (All-contains (AreLetters c) marks p.w k (own_mark_among f n c marks are p.q p.w p.own)))

module _ {S : Type 0} (m : Meaning S) (r : Partition) (covers : Covers (box m r) r) where
  abbrev vs : List (List ℤ)
  vs = witnesses r

  abbrev c : ℕ
  c = length r.classes

  abbrev many : List (List ℕ) → List Word
  many ws = map (in_vectors vs) ws

  words_in : (ws : List (List ℕ)) → All (AreLetters c) ws → All (IsWordOf (Members vs)) (many ws)
  words_in ws below = All-map (IsWordOf (Members vs)) (in_vectors vs) ws (All-weaker (AreLetters c) (λ w. IsWordOf (Members vs) (in_vectors vs w)) (word_in r) ws below)

  pub in_box : (w : List ℕ) → AreLetters c w → IsWordOf (box m r) (in_vectors vs w)
  in_box w h = words-within (box m r) r covers (in_vectors vs w) (word_in r w h)

  -- the letters of a word of a list, from its place
  at_place : (ws : List (List ℕ)) (x : Word) (h : Contains (many ws) x) → (h.0 < length ws) × (in_vectors vs (word ws h.0) ≡ x)
  at_place ws x h =
      let b : h.0 < length (many ws) = h.1 in
      let i : h.0 < length ws = omega (arith, b, length-map ws (in_vectors vs)) in
      (i, sym (get_or-map (in_vectors vs) ws h.0 [] x i) ∙ h.2)

  placed : (ws : List (List ℕ)) (i : ℕ) → i < length ws → Contains (many ws) (in_vectors vs (word ws i))
  placed ws i h = contains_map (in_vectors vs) ws (word ws i) (i, h, sym (get_or_default ws i [] (word ws i) h))

  module _ (cover : List (List ℕ)) (h : IsCoverBy c (LeadAlikeBy m r) cover) where
    pub cover_letters : All (AreLetters c) cover
    cover_letters = All-weaker (IsFirstOfItsKind c (LeadAlikeBy m r)) (AreLetters c) (λ p f. f.letters) cover h.only

    -- words of the cover lead pairwise differently in the box
    pub cover_apart : (i j : ℕ) → i < j → j < length cover → LeadAlikeBy m r (word cover i) (word cover j) → ⊥
    cover_apart i j less below alike =
        (h.only j [] below).first (word cover i) (cover_letters i [] (omega (arith, less, below))) (h.ordered i j [] less below) alike

    alike_listed : (u w : List ℕ) → LeadAlikeBy m r u w → IsListed (box m r) m (many cover) (in_vectors vs u) → IsListed (box m r) m (many cover) (in_vectors vs w)
    alike_listed u w alike l = record { like = l.like; there = l.there; alike = λ v k. sym (alike v k) ∙ l.alike v k }

    -- each word of letters leads alike with a cover word in the box
    whole_letters : (w : List ℕ) → AreLetters c w → (IsListed (box m r) m (many cover) (in_vectors vs w) → ⊥) → ⊥
    whole_letters w = by_shortlex (λ w. AreLetters c w → (IsListed (box m r) m (many cover) (in_vectors vs w) → ⊥) → ⊥)
        (λ w earlier below none. none (record {
          like = in_vectors vs w;
          there = contains_map (in_vectors vs) cover w (h.each w (record { letters = below; first = λ u bu before alike. earlier u before bu (λ l. none (alike_listed u w alike l)) }));
          alike = λ v k. refl;
        })) w

    whole_box : (w : Word) → IsWordOf (Members vs) w → (IsListed (box m r) m (many cover) w → ⊥) → ⊥
    whole_box w k = let l = letters_for r w k in subst (λ x. (IsListed (box m r) m (many cover) x → ⊥) → ⊥) l.are (whole_letters l.letters l.below)

    whole : (w : Word) → IsWordOf (Members vs) w → (IsListed (Members vs) m (many cover) w → ⊥) → ⊥
    whole w k none = whole_box w k (λ l. none (record { like = l.like; there = l.there; alike = λ v b. l.alike v (words-within (box m r) r covers v b) }))

    empty_there : Contains cover []
    empty_there = h.each [] (record { letters = All-nil (λ a. a < c); first = λ u bu before alike. none_before u before })

    -- where each vector has a class that acts like it, the rank is the number of cover words
    pub rank_is_length : ActByClasses (box m r) r m m → (n : ℕ) → HasRank (box m r) m n → n ≡ length cover
    rank_is_length classes n rank =
        let size = length-map cover (in_vectors vs) in
        let listed = λ (w : Word) (k : IsWordOf (box m r) w) (none : IsListed (box m r) m (many cover) w → ⊥).
        like_word (box m r) r m covers classes w k (λ l. whole_box l.like l.is_word (λ t. none (record { like = t.like; there = t.there; alike = λ v b. l.alike v b ∙ t.alike v b }))) in
        let most = few_listed m (box m r) (box m r) (λ w k. k) (many cover) rank.words (All-weaker (IsWordOf (box m r)) (λ w. (IsListed (box m r) m (many cover) w → ⊥) → ⊥) listed rank.words rank.are_words) rank.apart in
        let apart : AllPairs (LeadDifferently (box m r) m) (many cover) = λ i j d less below alike.
        let inside : j < length cover = omega (arith, below, size) in
        let lower : i < length cover = omega (arith, less, inside) in
        cover_apart i j less inside (λ v k. ap (λ u. after m u v) (sym (get_or-map (in_vectors vs) cover i [] d lower)) ∙ alike v k ∙ ap (λ u. after m u v) (get_or-map (in_vectors vs) cover j [] d inside)) in
        let words : All (IsWordOf (box m r)) (many cover) = All-map (IsWordOf (box m r)) (in_vectors vs) cover (All-weaker (AreLetters c) (λ w. IsWordOf (box m r) (in_vectors vs w)) in_box cover cover_letters) in
        let least = few_apart m (box m r) (box m r) (λ w k. k) (many cover) n words apart rank.most in
        let count = rank.many in
        omega (arith, most, least, size, count)

    module _ (marks : List (List ℕ)) (k : AreMarksBy (answer_after m r cover) (length cover) c marks) where
      one_or_more : (length cover ≡ 1) ⊎ (1 < length cover)
      one_or_more =
          elim (cases_lt 1 (length cover)) [
            | inl h ↦ inr h
            | inr h ↦ inl (let b : empty_there.0 < length cover = empty_there.1 in omega (arith, h, b))
          ]

      mark_letters : All (AreLetters c) marks
      mark_letters = let b = empty_there.1 in marks_are_letters (answer_after m r cover) (length cover) c marks (omega (arith, b)) k

      some_mark : 0 < length marks
      some_mark =
          elim (cases_lt 0 (length marks)) [
            | inl h ↦ h
            | inr h ↦ elim one_or_more [
              | inl e ↦ omega (arith, ap length (k.one e))
              | inr l ↦ absurd (k.ends 0 1 (omega arith) l (λ i d inside. absurd (omega (arith, h, inside))))
            ]
          ]

      -- marks as words of vectors
      agree_back : (i j : ℕ) → AgreeOn m (many marks) (in_vectors vs (word cover i)) (in_vectors vs (word cover j)) → AgreeOnMarks (answer_after m r cover) marks i j
      agree_back i j agree n d inside =
          subst (λ w. after m (in_vectors vs (word cover i)) w ≡ after m (in_vectors vs (word cover j)) w) (get_or-map (in_vectors vs) marks n d [] inside)
          (agree n [] (omega (arith, inside, length-map marks (in_vectors vs))))

      apart : AllPairs (λ p q. AgreeOn m (many marks) p q → ⊥) (many cover)
      apart i j d before inside agree =
          let upper : j < length cover = omega (arith, inside, length-map cover (in_vectors vs)) in
          let lower : i < length cover = omega (arith, before, upper) in
          k.ends i j before upper (agree_back i j
          (subst (λ q. AgreeOn m (many marks) (in_vectors vs (word cover i)) q) (get_or-map (in_vectors vs) cover j [] d upper)
          (subst (λ p. AgreeOn m (many marks) p (get_or (many cover) j d)) (get_or-map (in_vectors vs) cover i [] d lower) agree)))

      pub cover_and_marks : AreCoverAndMarks (Members vs) m (many cover) (many marks)
      cover_and_marks = record {
        begins = contains_map (in_vectors vs) cover [] empty_there;
        cover_words = words_in cover cover_letters;
        mark_words = words_in marks mark_letters;
        some_mark = omega (arith, some_mark, length-map marks (in_vectors vs));
        whole = whole;
        apart = apart;
      }

      -- the rank, where members of a class act alike
      pub letters_rank : MembersActAlike (box m r) r m → HasRank (box m r) m (length cover)
      letters_rank alike =
          subst (HasRank (box m r) m) (length-map cover (in_vectors vs)) (rank_from_witnesses m (box m r) r covers alike (length (many cover)) (cover_rank m (Members vs) (many cover) (many marks) cover_and_marks))

      module _ (tests : List Test) where
        abbrev lettered : List (List ℕ)
        lettered = map (λ (t : Test). t.letters) tests

        abbrev cases : List TestCase
        cases = map (test_case vs) tests

        front_itself : (u : List ℕ) → Contains lettered u → IsFront cases (in_vectors vs u)
        front_itself u h =
            let t = contains_from_map (λ (t : Test). t.letters) tests u h in
            record { test = test_case vs t.from; rest = []; there = contains_map (test_case vs) tests t.from t.there; is = ap (in_vectors vs) t.is ∙ sym (append-nil (in_vectors vs u)) }

        front_shorter : (u v : List ℕ) → IsProperPrefix u v → IsFront cases (in_vectors vs v) → IsFront cases (in_vectors vs u)
        front_shorter u v pre f = record {
          test = f.test;
          rest = in_vectors vs (pre.0 ∷ pre.1.0) ++ f.rest;
          there = f.there;
          is = f.is ∙ ap (λ x. in_vectors vs x ++ f.rest) pre.1.1 ∙ ap (λ x. x ++ f.rest) (map-append (λ a. get_or vs a []) u (pre.0 ∷ pre.1.0)) ∙ append_assoc (in_vectors vs u) (in_vectors vs (pre.0 ∷ pre.1.0)) f.rest;
        }

        module _ (P : List ℕ → Type 0) (longest : AreLongest P lettered) (most : ℕ) (short : (u : List ℕ) → P u → length u ≤ most) where
          -- each product is the front of a test: of a longest product that begins with it
          fronts : (n : ℕ) (u : List ℕ) → P u → most < length u + n → (IsFront cases (in_vectors vs u) → ⊥) → ⊥
          fronts zero u p h none = let s = short u p in omega (arith, h, s)
          fronts (suc n) u p h none =
              none (front_itself u (longest.each u (record {
                product = p;
                longest = λ v q pre. fronts n v q (omega (arith, h, ap length pre.1.1, length-append u (pre.0 ∷ pre.1.0))) (λ f. none (front_shorter u v pre f));
              })))

          pub front_of : (u : List ℕ) → P u → (IsFront cases (in_vectors vs u) → ⊥) → ⊥
          front_of u p none = fronts (suc most) u p (omega arith) none

        -- a product of a word of the cover, a word of letters and a third, as words of vectors
        product_is : (i : ℕ) (z w : List ℕ) (p x y : Word) → in_vectors vs (word cover i) ≡ p → in_vectors vs z ≡ x → in_vectors vs w ≡ y → in_vectors vs (word cover i ++ (z ++ w)) ≡ p ++ (x ++ y)
        product_is i z w p x y a b e =
            map-append (λ a. get_or vs a []) (word cover i) (z ++ w)
            ∙ ap (λ x. in_vectors vs (word cover i) ++ x) (map-append (λ a. get_or vs a []) z w)
            ∙ (λ j. a j ++ (b j ++ e j))

        three_short : (i : ℕ) (z w : List ℕ) (d : ℕ) → i < length cover → length z ≤ d → length w ≤ total marks → length (word cover i ++ (z ++ w)) ≤ total cover + (d + total marks)
        three_short i z w d below e g =
            let a = short_in cover i below in
            omega (arith, a, e, g, length-append (word cover i) (z ++ w), length-append z w)

        product_short : (d : ℕ) (u : List ℕ) → IsProduct c cover marks d u → length u ≤ total cover + (d + total marks)
        product_short d u p =
            subst (λ x. length x ≤ total cover + (d + total marks)) (sym p.after.is) (three_short p.i p.after.z (word marks p.after.k) d p.in_cover p.after.short (short_in marks p.after.k p.after.mark))

        -- the product of words of vectors
        module _ (P : List ℕ → Type 0) (longest : AreLongest P lettered) (most : ℕ) (short : (u : List ℕ) → P u → length u ≤ most) (d : ℕ) (of_product : (u : List ℕ) → IsProduct c cover marks d u → P u) where
          pub have_fronts : (p z w : Word) → Contains (many cover) p → IsWordOf (Members vs) z → length z ≤ d → Contains (many marks) w → (IsFront cases (p ++ (z ++ w)) → ⊥) → ⊥
          have_fronts p z w in_cover is_word few in_marks =
              let a = at_place cover p in_cover in
              let b = at_place marks w in_marks in
              let l = letters_for r z is_word in
              let size : length l.letters ≡ length z = sym (length-map l.letters (λ a. get_or vs a [])) ∙ ap length l.are in
              let product : IsProduct c cover marks d (word cover in_cover.0 ++ (l.letters ++ word marks in_marks.0)) =
              record { i = in_cover.0; in_cover = a.0; after = record { z = l.letters; k = in_marks.0; letters = l.below; short = omega (arith, few, size); mark = b.0; is = refl } } in
              subst (λ x. (IsFront cases x → ⊥) → ⊥) (product_is in_cover.0 l.letters (word marks in_marks.0) p z w a.1 l.are b.1)
              (front_of P longest most short (word cover in_cover.0 ++ (l.letters ++ word marks in_marks.0)) (of_product (word cover in_cover.0 ++ (l.letters ++ word marks in_marks.0)) product))

        -- the W-method
        pub w_method : (n : ℕ) → AreLongest (IsProduct c cover marks (n + 1)) lettered → HasMethod (Members vs) m (many cover) (many marks) (λ q w. Contains (many marks) w) n cases
        w_method n longest =
            let fine = have_fronts (IsProduct c cover marks (n + 1)) longest (total cover + (n + 1 + total marks)) (product_short (n + 1)) (n + 1) (λ u p. p) in
            record {
              model = cover_and_marks;
              own_mark = λ q k. all_marks (Members vs) m (many cover) (many marks) cover_and_marks q;
              own_marks = λ q w k mark. mark;
              own_apart = all_apart (Members vs) m (many cover) (many marks) cover_and_marks;
              products = λ p z w a b e g. fine p z w a b (omega (arith, e)) g;
              own_products = λ p z q w a b e f alike g. fine p z w a b e g;
            }

        -- the Wp-method
        module _ (classes : ActByClasses (box m r) r m m) (n : ℕ) (longest : AreLongest (IsWpProduct c (LeadAlikeBy m r) (answer_after m r cover) (length cover) cover marks n) lettered) where
          abbrev f : ℕ → List ℕ → List (List ℤ)
          f = answer_after m r cover

          abbrev most : ℕ
          most = total cover + (n + 1 + total marks)

          mark_among : (p : ℕ) (w : List ℕ) → IsOwnMark f (length cover) marks p w → Contains marks w
          mark_among = own_mark_among f (length cover) c marks k

          mark_short : (w : List ℕ) → Contains marks w → length w ≤ total marks
          mark_short w h = subst (λ x. length x ≤ total marks) (get_or_default marks h.0 [] w h.1 ∙ h.2) (short_in marks h.0 h.1)

          own_short : (u : List ℕ) → IsOwnProduct c (LeadAlikeBy m r) f (length cover) cover marks (n + 1) u → length u ≤ most
          own_short u p = subst (λ x. length x ≤ most) (sym p.is) (three_short p.p p.z p.w (n + 1) p.in_cover p.short (mark_short p.w (mark_among p.q p.w p.own)))

          wp_short : (u : List ℕ) → IsWpProduct c (LeadAlikeBy m r) f (length cover) cover marks n u → length u ≤ most
          wp_short u (inl p) = let e = product_short n u p in omega (arith, e)
          wp_short u (inr p) = own_short u p

          -- an own mark as a word of vectors
          pub record IsOwn (q w : Word) : Type 0 where
            pub place : ℕ
            pub inside : place < length cover
            pub word_is : in_vectors vs (word cover place) ≡ q
            pub mark : List ℕ
            pub own : IsOwnMark f (length cover) marks place mark
            pub mark_is : in_vectors vs mark ≡ w

          -- cover words with different numbers have a mark that tells them apart
          told_apart : (i j : ℕ) → i < length cover → j < length cover → i ≢ j → HasFirstApart f marks i j
          told_apart i j hi hj other =
              first_apart f marks i j (λ agree.
              elim (cases_lt i j) [
                | inl less ↦ k.ends i j less hj agree
                | inr more ↦ elim (cases_lt j i) [
                  | inl less ↦ k.ends j i less hi (λ a d below. sym (agree a d below))
                  | inr same ↦ other (omega (arith, more, same))
                ]
              ])

          own_from : (i j : ℕ) → i < length cover → j < length cover → i ≢ j → (h : HasFirstApart f marks i j) → IsOwn (in_vectors vs (word cover i)) (in_vectors vs h.mark)
          own_from i j hi hj other h = record { place = i; inside = hi; word_is = refl; mark = h.mark; own = inr (j, (hj, ((λ e. other (sym e)), h.first))); mark_is = refl }

          own_some : (q : Word) → Contains (many cover) q → ((w : Word) → IsOwn q w → ⊥) → ⊥
          own_some q h none =
              let a = at_place cover q h in
              elim one_or_more [
                | inl e ↦ none [] (record { place = h.0; inside = a.0; word_is = a.1; mark = []; own = inl (e, refl); mark_is = refl })
                | inr more ↦ elim (cases_eq h.0 0) [
                  | inl first ↦ (let t = told_apart h.0 1 a.0 more (λ e. omega (arith, e, first)) in none (in_vectors vs t.mark) (subst (λ p. IsOwn p (in_vectors vs t.mark)) a.1 (own_from h.0 1 a.0 more (λ e. omega (arith, e, first)) t)))
                  | inr later ↦ (let t = told_apart h.0 0 a.0 (omega (arith, more)) later in none (in_vectors vs t.mark) (subst (λ p. IsOwn p (in_vectors vs t.mark)) a.1 (own_from h.0 0 a.0 (omega (arith, more)) later t)))
                ]
              ]

          own_among : (q w : Word) → Contains (many cover) q → IsOwn q w → Contains (many marks) w
          own_among q w h o = subst (Contains (many marks)) o.mark_is (contains_map (in_vectors vs) marks o.mark (mark_among o.place o.mark o.own))

          own_apart : (p q : Word) → Contains (many cover) p → Contains (many cover) q → ((w : Word) → IsOwn p w → after m p w ≡ after m q w) → p ≡ q
          own_apart p q hp hq agree =
              let a = at_place cover p hp in
              let b = at_place cover q hq in
              elim (cases_eq hp.0 hq.0) [
                | inl same ↦ sym a.1 ∙ ap (λ i. in_vectors vs (word cover i)) same ∙ b.1
                | inr other ↦ (
                    let t = told_apart hp.0 hq.0 a.0 b.0 other in
                    let w = in_vectors vs t.mark in
                    let own : IsOwn p w = subst (λ x. IsOwn x w) a.1 (own_from hp.0 hq.0 a.0 b.0 other t) in
                    absurd (t.first.differ (ap (λ x. after m x w) a.1 ∙ agree w own ∙ ap (λ x. after m x w) (sym b.1))))
              ]

          own_fronts : (p z q w : Word) → Contains (many cover) p → IsWordOf (Members vs) z → length z ≤ n + 1 → Contains (many cover) q → LeadAlike (Members vs) m (p ++ z) q → IsOwn q w → (IsFront cases (p ++ (z ++ w)) → ⊥) → ⊥
          own_fronts p z q w in_cover is_word few reached alike o =
              let a = at_place cover p in_cover in
              let l = letters_for r z is_word in
              let size : length l.letters ≡ length z = sym (length-map l.letters (λ a. get_or vs a [])) ∙ ap length l.are in
              let front : in_vectors vs (word cover in_cover.0 ++ l.letters) ≡ p ++ z = map-append (λ a. get_or vs a []) (word cover in_cover.0) l.letters ∙ (λ j. a.1 j ++ l.are j) in
              let lettered_front : AreLetters c (word cover in_cover.0 ++ l.letters) = All-append (λ a. a < c) (word cover in_cover.0) l.letters (cover_letters in_cover.0 [] a.0) l.below in
              let over : LeadAlike (Members vs) m (in_vectors vs (word cover in_cover.0 ++ l.letters)) (in_vectors vs (word cover o.place)) = λ v b. ap (λ x. after m x v) front ∙ alike v b ∙ ap (λ x. after m x v) (sym o.word_is) in
              let boxed = lead_alike_from (box m r) r m m covers classes (in_vectors vs (word cover in_cover.0 ++ l.letters)) (in_vectors vs (word cover o.place)) (in_box (word cover in_cover.0 ++ l.letters) lettered_front) (in_box (word cover o.place) (cover_letters o.place [] o.inside)) over in
              let u = word cover in_cover.0 ++ (l.letters ++ o.mark) in
              let product : IsOwnProduct c (LeadAlikeBy m r) f (length cover) cover marks (n + 1) u =
              record { p = in_cover.0; q = o.place; z = l.letters; w = o.mark; in_cover = a.0; letters = l.below; short = omega (arith, few, size); reached = o.inside; alike = boxed; own = o.own; is = refl } in
              subst (λ x. (IsFront cases x → ⊥) → ⊥) (product_is in_cover.0 l.letters o.mark p z w a.1 l.are o.mark_is)
              (front_of (IsWpProduct c (LeadAlikeBy m r) f (length cover) cover marks n) longest most wp_short u (inr product))

          pub wp_method : HasMethod (Members vs) m (many cover) (many marks) IsOwn n cases
          wp_method = record {
            model = cover_and_marks;
            own_mark = own_some;
            own_marks = own_among;
            own_apart = own_apart;
            products = have_fronts (IsWpProduct c (LeadAlikeBy m r) f (length cover) cover marks n) longest most wp_short n (λ u p. inl p);
            own_products = own_fronts;
          }
