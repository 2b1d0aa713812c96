-- There are fewer marks than states, and each has fewer letters.
use Rattle.std.proofs.Common.{◌≡◌, ◌≢◌, ℕ, ℤ, ◌+◌, ◌-◌, ◌<◌, ◌≤◌, List, [], ◌∷◌, length, get_or, take, max, zero, suc, refl, ap, sym}
use Rattle.std.proofs.Common.{◌∙◌, ◌⊎◌, inl, inr, All, arith}
use Rattle.std.proofs.lemmas.Bool.{cases_eq, cases_lt}
use Rattle.std.proofs.lemmas.List.{get_or-take, length-take-le}
use Rattle.std.proofs.lemmas.List.Elements.{All-cons, All-from_get_or, All-nil}
use Rattle.std.proofs.Math.Numerals.{suc-eq-add-one}
use Rattle.std.proofs.lemmas.Option.{slice_get-get_or}
use Rattle.fsm_core.specs.Machine.{Machine, IsMachine, IsWord, next, number, state_after}
use Rattle.fsm_core.specs.Answers.{AnswerDifferently, IsReduced, answer_from, numbers}
use Rattle.fsm_core.proofs.Machines.{numbers_from_answers, state_inside}
use Rattle.word_pool.specs.Words.{word}
use Rattle.word_pool.specs.Order.{IsUpTo}
use Rattle.state_cover.specs.Cover.{IsCover}
use Rattle.suite_words.specs.Marks.{AgreeOnMarks, AreMarksBy}
use Rattle.charset.specs.inside.Levels.{AreAlikeOn, AreAlikeOnAll, AreAlikeUpTo}
use Rattle.charset.specs.Marks.{AreMarks, answer_after}
use Rattle.charset.proofs.Deciding.{HasGroups, Told, all_or_one, all_told, answers_told, both_told, grouping_of, some_groups}
use Rattle.charset.proofs.Grouping.{leaders_upto, more_or_same}
use Rattle.charset.proofs.Leveling.{all_chain, all_flip, all_itself, alike_none, grouping_next, groups_rise}

-- the first k marks are answered alike after the cover words i and j
abbrev AgreeBelow : (ℕ → List ℕ → List (List ℤ)) → List (List ℕ) → ℕ → ℕ → ℕ → Type 0
AgreeBelow f marks k i j = (t : ℕ) → t < k → f i (word marks t) ≡ f j (word marks t)

-- each mark splits a group of cover words
module _ (f : ℕ → List ℕ → List (List ℤ)) (n c : ℕ) (marks : List (List ℕ)) (x : AreMarksBy f n c marks) where
  mark_told : (i j t : ℕ) → Told (f i (word marks t) ≡ f j (word marks t))
  mark_told i j t = answers_told (f i (word marks t)) (f j (word marks t))

  agree_told : (k i j : ℕ) → Told (AgreeBelow f marks k i j)
  agree_told k i j = all_told (λ t. f i (word marks t) ≡ f j (word marks t)) (mark_told i j) k

  agree_itself : (k i : ℕ) → AgreeBelow f marks k i i
  agree_itself k i t h = refl

  agree_flip : (k i j : ℕ) → AgreeBelow f marks k i j → AgreeBelow f marks k j i
  agree_flip k i j r t h = sym (r t h)

  agree_chain : (k i j l : ℕ) → AgreeBelow f marks k i j → AgreeBelow f marks k j l → AgreeBelow f marks k i l
  agree_chain k i j l r q t h = r t h ∙ q t h

  agree_fewer : (k i j : ℕ) → AgreeBelow f marks (k + 1) i j → AgreeBelow f marks k i j
  agree_fewer k i j r t h = r t (omega (arith, h))

  agree_taken : (k i j : ℕ) → k ≤ length marks → AgreeOnMarks f (take k marks) i j → AgreeBelow f marks k i j
  agree_taken k i j upto r t h = rw (get_or-take k marks t [] h) at (r t [] (omega (arith, h, length-take-le k marks upto)))

  groups_more : (k : ℕ) → k < length marks → 1 < n → HasGroups n k (AgreeBelow f marks k) → HasGroups n (k + 1) (AgreeBelow f marks (k + 1))
  groups_more k inside some old =
      let new = grouping_of (AgreeBelow f marks (k + 1)) (agree_told (k + 1)) (agree_itself (k + 1)) (agree_flip (k + 1)) (agree_chain (k + 1)) n in
      let mark = x.next k (word marks k) some (slice_get-get_or marks k [] inside) in
      let p = mark.p in
      let q = mark.q in
      let hp : mark.p < n = omega (arith, mark.before, mark.inside) in
      let together : get_or old.names mark.p 0 ≡ get_or old.names mark.q 0 =
      old.groups.joined mark.p mark.q hp mark.inside (agree_taken k mark.p mark.q (omega (arith, inside)) mark.agree) in
      elim (more_or_same n old.names new.0 (AgreeBelow f marks k) (AgreeBelow f marks (k + 1)) old.groups new.1 (agree_fewer k)) as
      (λ _. HasGroups n (k + 1) (AgreeBelow f marks (k + 1))) [
        | inl more ↦ record { names = new.0; groups = new.1; many = omega (arith, old.many, more) }
        | inr same ↦ absurd (mark.differ
            (new.1.alike mark.p mark.q hp mark.inside (same mark.p hp ∙ (together ∙ sym (same mark.q mark.inside))) k (omega arith)))
      ]

  groups_at : (k : ℕ) → k ≤ length marks → 1 < n → HasGroups n k (AgreeBelow f marks k)
  groups_at zero upto some =
      some_groups (AgreeBelow f marks 0) (agree_told 0) (agree_itself 0) (agree_flip 0) (agree_chain 0) n (omega (arith, some))
  groups_at (suc k) upto some = rw (suc-eq-add-one k) (groups_more k (omega (arith, upto)) some (groups_at k (omega (arith, upto)) some))

  pub fewer_marks : 1 < n → length marks < n
  fewer_marks some =
      let g = groups_at (length marks) (omega arith) some in
      omega (arith, g.many, leaders_upto g.names n)

-- the words of at most k letters tell each two states apart
abbrev AreApart : Machine → ℕ → Type 0
AreApart m k = (s t : ℕ) → s < m.states → t < m.states → AreAlikeUpTo m k s t → s ≡ t

module _ (m : Machine) (sound : IsMachine m) (reduced : IsReduced m) where
  letter_told : (names : List ℕ) (s t a : ℕ) → Told (AreAlikeOn m names a s t)
  letter_told names s t a = both_told (number m s a ≡ number m t a) (get_or names (next m s a) 0 ≡ get_or names (next m t a) 0)
      (cases_eq (number m s a) (number m t a)) (cases_eq (get_or names (next m s a) 0) (get_or names (next m t a) 0))

  alike_told : (names : List ℕ) (s t : ℕ) → Told (AreAlikeOnAll m names s t)
  alike_told names s t = both_told (get_or names s 0 ≡ get_or names t 0) ((a : ℕ) → a < m.letters → AreAlikeOn m names a s t)
      (cases_eq (get_or names s 0) (get_or names t 0)) (all_told (λ a. AreAlikeOn m names a s t) (letter_told names s t) m.letters)

  -- one letter more tells more states apart, unless all are apart
  level_more : (k : ℕ) → HasGroups m.states k (AreAlikeUpTo m k) → AreApart m k ⊎ HasGroups m.states (k + 1) (AreAlikeUpTo m (k + 1))
  level_more k old =
      let Goal : Type 0 = AreApart m k ⊎ HasGroups m.states (k + 1) (AreAlikeUpTo m (k + 1)) in
      elim (all_told (λ s. get_or old.names s 0 ≡ s) (λ s. cases_eq (get_or old.names s 0) s) (length old.names)) as (λ _. Goal) [
        | inl alone ↦ inl (λ s t hs ht r.
            sym (alone s (omega (arith, hs, old.groups.size))) ∙ (old.groups.joined s t hs ht r ∙ alone t (omega (arith, ht, old.groups.size))))
        | inr more ↦
            let new = grouping_of (AreAlikeOnAll m old.names) (alike_told old.names) (all_itself m old.names) (all_flip m old.names)
            (all_chain m old.names) m.states in
            inr (record {
              names = new.0;
              groups = grouping_next m sound old.names k old.groups new.0 new.1;
              many = omega (arith, old.many, groups_rise m sound old.names k old.groups new.0 new.1 reduced more);
            })
      ]

  level_at_most : (k : ℕ) → AreApart m k ⊎ HasGroups m.states k (AreAlikeUpTo m k)
  level_at_most zero = inr (some_groups (AreAlikeUpTo m 0) (λ s t. inl (alike_none m s t)) (λ s. alike_none m s s) (λ s t _. alike_none m t s)
      (λ s t u _ _. alike_none m s u) m.states sound.some_states)
  level_at_most (suc k) =
      let Goal : Type 0 = AreApart m (suc k) ⊎ HasGroups m.states (suc k) (AreAlikeUpTo m (suc k)) in
      let wider : AreApart m k → AreApart m (suc k) = λ apart s t hs ht r. apart s t hs ht (λ v hv short. r v hv (omega (arith, short))) in
      elim (level_at_most k) as (λ _. Goal) [
        | inl apart ↦ inl (wider apart)
        | inr old ↦ elim (level_more k old) as (λ _. Goal) [
          | inl apart ↦ inl (wider apart)
          | inr new ↦ inr (rw (suc-eq-add-one k) new)
        ]
      ]

  -- the words of fewer letters than there are states tell each two states apart
  pub all_apart : AreApart m (m.states - 1)
  all_apart = elim (level_at_most (m.states - 1)) as (λ _. AreApart m (m.states - 1)) [
    | inl apart ↦ apart
    | inr old ↦ elim (level_more (m.states - 1) old) as (λ _. AreApart m (m.states - 1)) [
      | inl apart ↦ apart
      | inr new ↦ absurd (omega (arith, new.many, leaders_upto new.names m.states, sound.some_states))
    ]
  ]

module _ (m : Machine) (sound : IsMachine m) (cover marks : List (List ℕ)) (c : IsCover m cover) (x : AreMarks m cover marks) where
  state_in : (i : ℕ) → i < length cover → state_after m 0 (word cover i) < m.states
  state_in i h = state_inside m sound 0 (word cover i) sound.some_states (c.least.only i [] h).letters

  mark_letters : 1 < length cover → (k : ℕ) → k < length marks → IsWord m (word marks k)
  mark_letters some k h = (x.next k (word marks k) some (slice_get-get_or marks k [] h)).letters

  -- some mark tells two cover words apart
  places_differ : (i j : ℕ) → i < j → j < length cover → AnswerDifferently m (state_after m 0 (word cover i)) (state_after m 0 (word cover j))
  places_differ i j less hj =
      elim (all_or_one (λ t. answer_after m cover i (word marks t) ≡ answer_after m cover j (word marks t))
      (λ t. answers_told (answer_after m cover i (word marks t)) (answer_after m cover j (word marks t))) (length marks)) as
      (λ _. AnswerDifferently m (state_after m 0 (word cover i)) (state_after m 0 (word cover j))) [
        | inl all ↦ absurd (x.ends i j less hj (All-from_get_or (λ w. answer_after m cover i w ≡ answer_after m cover j w) marks [] all))
        | inr one ↦ record { word = word marks one.0; is_word = mark_letters (omega (arith, less, hj)) one.0 one.1; differ = one.2 }
      ]

  flipped : (s t : ℕ) → AnswerDifferently m s t → AnswerDifferently m t s
  flipped s t d = record { word = d.word; is_word = d.is_word; differ = λ e. d.differ (sym e) }

  places_apart : (i j : ℕ) → i < length cover → j < length cover → i ≢ j →
      AnswerDifferently m (state_after m 0 (word cover i)) (state_after m 0 (word cover j))
  places_apart i j hi hj d = elim (cases_lt i j) as
      (λ _. AnswerDifferently m (state_after m 0 (word cover i)) (state_after m 0 (word cover j))) [
        | inl less ↦ places_differ i j less hj
        | inr more ↦ flipped (state_after m 0 (word cover j)) (state_after m 0 (word cover i)) (places_differ j i (omega (arith, more, d)) hi)
      ]

  -- a machine whose cover has marks is reduced
  is_reduced : IsReduced m
  is_reduced s t hs ht d =
      let a = c.each s hs in
      let b = c.each t ht in
      rw (← a.leads, ← b.leads) (places_apart a.place b.place a.inside b.inside
      (λ e. d (sym a.leads ∙ (ap (λ i. state_after m 0 (word cover i)) e ∙ b.leads))))

  -- a word is as long at least as one that is as far as it
  length_up_to : (w v : List ℕ) → IsUpTo w v → length w ≤ length v
  length_up_to w v (inl e) = omega (arith, ap (λ (u : List ℕ). length u) e)
  length_up_to w v (inr (inl shorter)) = omega (arith, shorter)
  length_up_to w v (inr (inr below)) = omega (arith, below.0)

  short_mark : 1 < length cover → (k : ℕ) → k < length marks → length (word marks k) ≤ m.states - 1
  short_mark some k h =
      let mark = x.next k (word marks k) some (slice_get-get_or marks k [] h) in
      let s = state_after m 0 (word cover mark.p) in
      let t = state_after m 0 (word cover mark.q) in
      let hs = state_in mark.p (omega (arith, mark.before, mark.inside)) in
      let ht = state_in mark.q mark.inside in
      elim (cases_lt (m.states - 1) (length (word marks k))) as (λ _. length (word marks k) ≤ m.states - 1) [
        | inr fits ↦ fits
        | inl long ↦
            let alike : AreAlikeUpTo m (m.states - 1) (state_after m 0 (word cover mark.p)) (state_after m 0 (word cover mark.q)) = λ v hv short.
            elim (answers_told (answer_from m s v) (answer_from m t v)) as (λ _. numbers m s v ≡ numbers m t v) [
              | inl e ↦ numbers_from_answers m sound s t v hs ht hv e
              | inr d ↦ absurd (omega (arith, length_up_to (word marks k) v (mark.least v hv d), long, short))
            ] in
            absurd (mark.differ (ap (λ u. answer_from m u (word marks k)) (all_apart m sound is_reduced s t hs ht alike)))
      ]

  one_mark : length cover ≤ 1 → marks ≡ [] ∷ []
  one_mark few = x.one (omega (arith, few, c.size, sound.some_states))

  empty_short : All (λ (w : List ℕ). length w ≤ m.states - 1) ([] ∷ [])
  empty_short = All-cons (λ (w : List ℕ). length w ≤ m.states - 1) [] [] (omega arith) (All-nil (λ (w : List ℕ). length w ≤ m.states - 1))

  pub marks_few : length marks ≤ max 1 (m.states - 1)
  marks_few = elim (cases_lt 1 (length cover)) as (λ _. length marks ≤ max 1 (m.states - 1)) [
    | inl some ↦ omega (arith, fewer_marks (answer_after m cover) (length cover) m.letters marks x some, c.size)
    | inr few ↦ omega (arith, ap (λ (ws : List (List ℕ)). length ws) (one_mark few))
  ]

  pub marks_short : All (λ w. length w ≤ m.states - 1) marks
  marks_short = elim (cases_lt 1 (length cover)) as (λ _. All (λ w. length w ≤ m.states - 1) marks) [
    | inl some ↦ All-from_get_or (λ w. length w ≤ m.states - 1) marks [] (short_mark some)
    | inr few ↦ rw (one_mark few) empty_short
  ]
