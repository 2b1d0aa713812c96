-- The marks, one by one.
use Rattle.std.proofs.Common.{◌≡◌, ◌≢◌, ℕ, ℤ, ◌+◌, ◌*◌, ◌<◌, ◌≤◌, List, [], ◌∷◌, ◌++◌, length, get_or, take}
use Rattle.std.proofs.Common.{slice_get, Some, map, zero, suc, subst, refl, ap, sym, ◌∙◌, ◌⊎◌, inl, inr, All, arith}
use Rattle.std.proofs.lemmas.Bool.{cases_lt}
use Rattle.std.proofs.lemmas.List.{get_or_append_left, get_or_push, length_push, take-append-le, take_at, length-map, map-append}
use Rattle.std.proofs.lemmas.Nat.{mul-le}
use Rattle.std.proofs.lemmas.List.Elements.{All-get_or, All-push}
use Rattle.std.proofs.lemmas.Option.{get_or_from_slice_get, slice_get-get_or, slice_get_within}
use Rattle.fsm_core.specs.Machine.{Machine, IsMachine, IsWord, state_after}
use Rattle.fsm_core.specs.Answers.{answer_from, numbers}
use Rattle.fsm_core.proofs.Machines.{answers_from_numbers, numbers_from_answers}
use Rattle.word_pool.specs.Words.{word, Keeps}
use Rattle.word_pool.specs.Words.{AreIds, EntersAfter, AddsPrefixesOf, words_at}
use Rattle.state_cover.specs.Cover.{IsCover}
use Rattle.word_pool.proofs.CallerLemmas.{ids_kept, keeps_itself, keeps_on, prefixes_more, words_kept}
use Rattle.state_cover.proofs.CallerLemmas.{cover_differs}
use Rattle.charset.specs.inside.Levels.{AreAlikeBy, AreStates, IsFirstPair, IsGrouping, IsLeastApart, NoPair, answer_at}
use Rattle.suite_words.specs.Marks.{AgreeOnMarks, AreMarksBy, IsNextMark}
use Rattle.charset.specs.Marks.{AreMarks, answer_after}
use Rattle.charset.proofs.Grouping.{leaders, leaders_upto, leaders_some, more_or_same}

module _ (m : Machine) (qs names w : List ℕ) where
  pub by_itself : (i : ℕ) → AreAlikeBy m qs names w i i
  by_itself i = (refl, refl)

  pub by_flip : (i j : ℕ) → AreAlikeBy m qs names w i j → AreAlikeBy m qs names w j i
  by_flip i j r = (sym r.0, sym r.1)

  pub by_chain : (i j k : ℕ) → AreAlikeBy m qs names w i j → AreAlikeBy m qs names w j k → AreAlikeBy m qs names w i k
  by_chain i j k r q = (r.0 ∙ q.0, r.1 ∙ q.1)

-- the marks found so far, the groups of places on which they agree, and the place before which each is alone
pub record IsMarking (m : Machine) (qs names : List ℕ) (found : List (List ℕ)) (from : ℕ) : Type 0 where
  pub groups : IsGrouping m.states names (AgreeOnMarks (answer_at m qs) found)
  pub next : (k : ℕ) (w : List ℕ) → slice_get found k ≡ Some w → IsNextMark (answer_at m qs) m.states m.letters (take k found) w
  pub passed : (i j : ℕ) → i < from → i < j → j < m.states → get_or names i 0 ≢ get_or names j 0
  pub many : length found < leaders names m.states
  pub short : All (λ w. length w < m.states) found

pub marking_first : (m : Machine) (qs names : List ℕ) → length names ≡ m.states →
    ((s : ℕ) → s < m.states → get_or names s 0 ≡ 0) → 0 < m.states → IsMarking m qs names [] 0
marking_first m qs names size z some = record {
  groups = record {
    size = size;
    low = λ s h. omega (arith, z s h);
    own = λ s h. ap (λ i. get_or names i 0) (z s h) ∙ (z 0 some ∙ sym (z s h));
    alike = λ s t hs ht e k d h. absurd (omega (arith, h));
    joined = λ s t hs ht r. z s hs ∙ sym (z t ht);
  };
  next = λ k w e. absurd (omega (arith, slice_get_within [] k w e));
  passed = λ i j h. absurd (omega (arith, h));
  many = leaders_some names m.states (z 0 some) some;
  short = λ k d h. absurd (omega (arith, h));
}

-- one mark more
module _ (m : Machine) (sound : IsMachine m) (qs names : List ℕ) (states : AreStates m qs) (found : List (List ℕ))
    (from : ℕ) (i : IsMarking m qs names found from)
    (p q : ℕ) (pair : IsFirstPair names from p q) (w : List ℕ) (apart : IsLeastApart m (get_or qs p 0) (get_or qs q 0) w) where
  inside_q : q < m.states
  inside_q = omega (arith, pair.inside, i.groups.size)

  inside_p : p < m.states
  inside_p = omega (arith, pair.before, inside_q)

  state_in : (k : ℕ) → k < m.states → get_or qs k 0 < m.states
  state_in k h = All-get_or (λ s. s < m.states) qs k 0 (omega (arith, h, states.size)) states.inside

  -- answers differ exactly where numbers do
  differ_from : (v : List ℕ) → IsWord m v → answer_at m qs p v ≢ answer_at m qs q v → numbers m (get_or qs p 0) v ≢ numbers m (get_or qs q 0) v
  differ_from v wv d e = d (answers_from_numbers m m (get_or qs p 0) (get_or qs q 0) v refl e)

  is_next : IsNextMark (answer_at m qs) m.states m.letters found w
  is_next = record {
    p = p;
    q = q;
    before = pair.before;
    inside = inside_q;
    agree = i.groups.alike p q inside_p inside_q pair.same;
    first = λ a b less hb r.
        let e : get_or names a 0 ≡ get_or names b 0 = i.groups.joined a b (omega (arith, less, hb)) hb r in
        elim (cases_lt a from) as (λ _. (p < a) ⊎ ((p ≡ a) × (q ≤ b))) [
          | inl low ↦ absurd (i.passed a b low less hb e)
          | inr high ↦ pair.first a b high less (omega (arith, hb, i.groups.size)) e
        ];
    letters = apart.is_word;
    differ = λ e. apart.differ (numbers_from_answers m sound (get_or qs p 0) (get_or qs q 0) w (state_in p inside_p) (state_in q inside_q) apart.is_word e);
    least = λ v wv d. apart.least v wv (differ_from v wv d);
  }

  module _ (finer : List ℕ) (g : IsGrouping (length qs) finer (AreAlikeBy m qs names w)) where
    g' : IsGrouping m.states finer (AreAlikeBy m qs names w)
    g' = rw (states.size) at g

    agree_more : (a b : ℕ) → a < m.states → b < m.states → AreAlikeBy m qs names w a b → AgreeOnMarks (answer_at m qs) (found ++ w ∷ []) a b
    agree_more a b ha hb r = All-push (λ v. answer_at m qs a v ≡ answer_at m qs b v) found w (i.groups.alike a b ha hb r.0)
        (answers_from_numbers m m (get_or qs a 0) (get_or qs b 0) w refl r.1)

    agree_fewer : (a b : ℕ) → AgreeOnMarks (answer_at m qs) (found ++ w ∷ []) a b → AgreeOnMarks (answer_at m qs) found a b
    agree_fewer a b r k d h =
        rw (get_or_append_left found (w ∷ []) d k h) at (r k d (omega (arith, h, length_push found w)))

    agree_last : (a b : ℕ) → AgreeOnMarks (answer_at m qs) (found ++ w ∷ []) a b → answer_at m qs a w ≡ answer_at m qs b w
    agree_last a b r = rw (get_or_push found w [] (length found) refl) at (r (length found) [] (omega (arith, length_push found w)))

    names_finer : (a b : ℕ) → a < m.states → b < m.states → get_or finer a 0 ≡ get_or finer b 0 → get_or names a 0 ≡ get_or names b 0
    names_finer a b ha hb e = (g'.alike a b ha hb e).0

    groups_more : IsGrouping m.states finer (AgreeOnMarks (answer_at m qs) (found ++ w ∷ []))
    groups_more = record {
      size = g'.size;
      low = g'.low;
      own = g'.own;
      alike = λ a b ha hb e. agree_more a b ha hb (g'.alike a b ha hb e);
      joined = λ a b ha hb r. g'.joined a b ha hb (
        i.groups.joined a b ha hb (agree_fewer a b r),
        numbers_from_answers m sound (get_or qs a 0) (get_or qs b 0) w (state_in a ha) (state_in b hb) apart.is_word (agree_last a b r),
      );
    }

    more_leaders : leaders names m.states < leaders finer m.states
    more_leaders = elim (more_or_same m.states names finer (AgreeOnMarks (answer_at m qs) found)
        (AgreeOnMarks (answer_at m qs) (found ++ w ∷ [])) i.groups groups_more agree_fewer) as
        (λ _. leaders names m.states < leaders finer m.states) [
          | inl more ↦ more
          | inr same ↦ absurd (apart.differ ((g'.alike p q inside_p inside_q (same p inside_p ∙ (pair.same ∙ sym (same q inside_q)))).1))
        ]

    pub marking_more : length w < m.states → IsMarking m qs finer (found ++ w ∷ []) p
    marking_more short = record {
      groups = groups_more;
      next = λ k v e. elim (cases_lt k (length found)) as (λ _. IsNextMark (answer_at m qs) m.states m.letters (take k (found ++ w ∷ [])) v) [
        | inl low ↦
            let there : slice_get found k ≡ Some v = slice_get-get_or found k v low ∙
            ap Some (sym (get_or_append_left found (w ∷ []) v k low) ∙ get_or_from_slice_get (found ++ w ∷ []) k v v e) in
            rw (take-append-le k found (w ∷ []) (omega (arith, low))) (i.next k v there)
        | inr high ↦
            let at : k ≡ length found = omega (arith, high, slice_get_within (found ++ w ∷ []) k v e, length_push found w) in
            let is : v ≡ w = sym (get_or_from_slice_get (found ++ w ∷ []) k v v e) ∙ get_or_push found w v k (sym at) in
            rw (take_at found (w ∷ []) k (sym at), is) is_next
      ];
      passed = λ a b low less hb e.
          let e' : get_or names a 0 ≡ get_or names b 0 = names_finer a b (omega (arith, less, hb)) hb e in
          elim (cases_lt a from) as (λ _. ⊥) [
            | inl before ↦ i.passed a b before less hb e'
            | inr after ↦ elim (pair.first a b after less (omega (arith, hb, i.groups.size)) e') as (λ _. ⊥) [
              | inl d ↦ omega (arith, d, low)
              | inr d ↦ omega (arith, d.0, low)
            ]
          ];
      many = omega (arith, i.many, more_leaders, length_push found w);
      short = All-push (λ v. length v < m.states) found w i.short short;
    }

-- no pair is left
pub marking_all : (m : Machine) (qs names : List ℕ) (found : List (List ℕ)) (from : ℕ) → IsMarking m qs names found from → NoPair names from → 1 < m.states →
    AreMarksBy (answer_at m qs) m.states m.letters found
marking_all m qs names found from i none many = record {
  one = λ e. absurd (omega (arith, e, many));
  next = λ k w h e. i.next k w e;
  ends = λ a b less hb r.
      let e : get_or names a 0 ≡ get_or names b 0 = i.groups.joined a b (omega (arith, less, hb)) hb r in
      elim (cases_lt a from) as (λ _. ⊥) [
        | inl before ↦ i.passed a b before less hb e
        | inr after ↦ none a b after less (omega (arith, hb, i.groups.size)) e
      ];
}

-- one cover word: the empty word
pub marks_of_one : (f : ℕ → List ℕ → List (List ℤ)) (c : ℕ) → AreMarksBy f 1 c ([] ∷ [])
marks_of_one f c = record {
  one = λ _. refl;
  next = λ k w h. absurd (omega (arith, h));
  ends = λ a b less hb. absurd (omega (arith, less, hb));
}

-- the marks so far are in the pool
pub record IsCharting (m : Machine) (qs : List ℕ) (old ws : List (List ℕ)) (ids names : List ℕ) (from : ℕ) : Type 0 where
  pub marking : IsMarking m qs names (words_at ws ids) from
  pub keeps : Keeps old ws
  pub are_ids : AreIds ws ids
  pub more : length old ≤ length ws
  pub few : length ws ≤ length old + length ids * m.states
  pub only : AddsPrefixesOf old (words_at ws ids) ws

pub charting_first : (m : Machine) (qs names : List ℕ) (ws : List (List ℕ)) → length names ≡ m.states →
    ((s : ℕ) → s < m.states → get_or names s 0 ≡ 0) → 0 < m.states →
    IsCharting m qs ws ws [] names 0
charting_first m qs names ws size z some = record {
  marking = marking_first m qs names size z some;
  keeps = keeps_itself ws;
  are_ids = λ k d h. absurd (omega (arith, h));
  more = omega arith;
  few = omega arith;
  only = λ i low high. absurd (omega (arith, low, high));
}

-- there is room for one mark more
pub room_left : (m : Machine) → IsMachine m → (qs : List ℕ) (old ws : List (List ℕ)) (ids names : List ℕ) (from : ℕ) → IsCharting m qs old ws ids names from →
    length old ≤ 2000000000 → (n : ℕ) → n < m.states → length ws + n < 4294967295
room_left m sound qs old ws ids names from c old_few n h =
    let count : length ids ≤ 1024 = omega (arith, c.marking.many, length-map ids (word ws), leaders_upto names m.states, sound.few_states) in
    let product = mul-le (length ids) m.states 1024 1024 count sound.few_states in
    omega (arith, c.few, product, old_few, h, sound.few_states)

pub grown_by : (m : Machine) → IsMachine m → (qs : List ℕ) (old ws : List (List ℕ)) (ids names : List ℕ) (from : ℕ) → IsCharting m qs old ws ids names from →
    length ws ≤ length old + 1048576
grown_by m sound qs old ws ids names from c =
    let count : length ids ≤ 1024 = omega (arith, c.marking.many, length-map ids (word ws), leaders_upto names m.states, sound.few_states) in
    let product = mul-le (length ids) m.states 1024 1024 count sound.few_states in
    omega (arith, c.few, product)

module _ (m : Machine) (sound : IsMachine m) (qs names : List ℕ) (states : AreStates m qs) (old ws : List (List ℕ))
    (ids : List ℕ) (from : ℕ) (c : IsCharting m qs old ws ids names from)
    (p q : ℕ) (pair : IsFirstPair names from p q) (w : List ℕ) (apart : IsLeastApart m (get_or qs p 0) (get_or qs q 0) w) (short : length w < m.states)
    (finer : List ℕ) (g : IsGrouping (length qs) finer (AreAlikeBy m qs names w)) (new : List (List ℕ)) (id : ℕ) (there : slice_get new id ≡ Some w)
    (keeps : Keeps ws new) (e : EntersAfter ws [] w new) where
  words_more : words_at new (ids ++ id ∷ []) ≡ words_at ws ids ++ w ∷ []
  words_more =
      let a = map-append (word new) ids (id ∷ []) in
      let b = words_kept ws new keeps ids c.are_ids in
      let d = get_or_from_slice_get new id w [] there in
      a ∙ (λ k. b k ++ d k ∷ [])

  pub charting_more : IsCharting m qs old new (ids ++ id ∷ []) finer p
  charting_more = record {
    marking = rw (words_more) (marking_more m sound qs names states (words_at ws ids) from c.marking p q pair w apart finer g short);
    keeps = keeps_on old ws new c.keeps keeps;
    are_ids = All-push (λ i. i < length new) ids id (ids_kept ws new keeps ids c.are_ids) (slice_get_within new id w there);
    more = omega (arith, c.more, e.more);
    few = omega (arith, c.few, e.few, short, ap (λ x. x * m.states) (length_push ids id));
    only = rw (words_more) (prefixes_more old ws (words_at ws ids) c.more c.only w new keeps e);
  }

-- the states of a cover
pub state_at : (m : Machine) (cover : List (List ℕ)) (i : ℕ) → get_or (map (state_after m 0) cover) i 0 ≡ state_after m 0 (word cover i)
state_at m [] i = refl
state_at m (p ∷ cover) zero = refl
state_at m (p ∷ cover) (suc i) = state_at m cover i

pub states_are : (m : Machine) (cover : List (List ℕ)) → IsCover m cover → (qs : List ℕ) →
    qs ≡ map (state_after m 0) cover → All (λ s. s < m.states) qs → AreStates m qs
states_are m cover c qs e inside = record {
  size = ap (λ (x : List ℕ). length x) e ∙ (length-map cover (state_after m 0) ∙ c.size);
  inside = inside;
  once = λ i j less hj d.
      let hj' : j < length cover = omega (arith, hj, ap (λ (x : List ℕ). length x) e, length-map cover (state_after m 0)) in
      let a : get_or qs i 0 ≡ state_after m 0 (word cover i) = ap (λ (x : List ℕ). get_or x i 0) e ∙ state_at m cover i in
      let b : get_or qs j 0 ≡ state_after m 0 (word cover j) = ap (λ (x : List ℕ). get_or x j 0) e ∙ state_at m cover j in
      cover_differs m cover c i j less hj' (sym a ∙ (d ∙ b));
}

-- the marks of the states are those of the cover
pub marks_are : (m : Machine) (cover : List (List ℕ)) → IsCover m cover → (qs : List ℕ) → qs ≡ map (state_after m 0) cover → (marks : List (List ℕ)) →
    AreMarksBy (answer_at m qs) m.states m.letters marks → AreMarks m cover marks
marks_are m cover c qs e marks h =
    let at : (i : ℕ) → get_or qs i 0 ≡ state_after m 0 (word cover i) = λ i. ap (λ (x : List ℕ). get_or x i 0) e ∙ state_at m cover i in
    let same : answer_at m qs ≡ answer_after m cover = λ k i w. answer_from m (at i k) w in
    subst (λ f. AreMarksBy f (length cover) m.letters marks) same (rw (← c.size) at h)

pub marks_one : (m : Machine) (cover : List (List ℕ)) → IsCover m cover → m.states ≡ 1 → AreMarks m cover ([] ∷ [])
marks_one m cover c e = rw (c.size, e) (marks_of_one (answer_after m cover) m.letters)
