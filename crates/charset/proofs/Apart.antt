-- The shortlex-least word that two states answer differently.
use Rattle.std.proofs.Common.{◌≡◌, ◌≢◌, ℕ, ◌+◌, ◌-◌, ◌*◌, ◌<◌, ◌≤◌, List, [], ◌∷◌, ◌++◌, length, get_or, drop, refl}
use Rattle.std.proofs.Common.{ap, sym, ◌∙◌, inl, inr, arith, append_assoc}
use Rattle.std.proofs.lemmas.Bool.{cases_eq, cases_lt, cases_order}
use Rattle.std.proofs.lemmas.List.{append-nil, get_or-take, get_or-drop, length_push, nil_from_length}
use Rattle.std.proofs.lemmas.List.Elements.{All-cons, All-nil, All-head, All-tail}
use Rattle.fsm_core.specs.Machine.{Machine, IsMachine, IsWord, next, number}
use Rattle.fsm_core.specs.Answers.{numbers}
use Rattle.fsm_core.proofs.Machines.{row_inside}
use Rattle.word_pool.specs.Order.{IsBefore, IsUpTo}
use Rattle.charset.specs.inside.Levels.{AreAlikeOn, AreAlikeUpTo, AreLevels, IsGrouping, IsLeastApart, PartAt, level_at}
use Rattle.charset.proofs.Leveling.{alike_letter, alike_none, letters_alike}

-- what is read from the list of all levels, of one of them
pub level_read : (n : ℕ) (names : List ℕ) (k s : ℕ) → s < n → get_or (level_at n names k) s 0 ≡ get_or names (k * n + s) 0
level_read n names k s h = get_or-take n (drop (k * n) names) s 0 h ∙ get_or-drop (k * n) names s 0

-- the end of the search for the level
pub parts_at : (m : Machine) (names : List ℕ) (last : ℕ) → AreLevels m names last → (s t level : ℕ) → s < m.states → t < m.states → level ≤ last →
    ((k : ℕ) → k < level → get_or (level_at m.states names k) s 0 ≡ get_or (level_at m.states names k) t 0) →
    get_or (level_at m.states names level) s 0 ≢ get_or (level_at m.states names level) t 0 → PartAt m s t level
parts_at m names last l s t level hs ht upto same differ = record {
  apart = λ r. differ ((l.level level upto).joined s t hs ht r);
  alike = λ k hk. (l.level k (omega (arith, hk, upto))).alike s t hs ht (same k hk);
}

-- a level in which two states have one name is not the last
pub not_last : (m : Machine) (names : List ℕ) (last : ℕ) → AreLevels m names last → (s t level : ℕ) → s < m.states → t < m.states → s ≢ t → level ≤ last →
    get_or (level_at m.states names level) s 0 ≡ get_or (level_at m.states names level) t 0 → level < last
not_last m names last l s t level hs ht d upto e = elim (cases_lt level last) as (λ _. level < last) [
  | inl h ↦ h
  | inr h ↦
      let is : level ≡ last = omega (arith, h, upto) in
      absurd (d (sym (l.alone s hs) ∙ (ap (λ k. get_or (level_at m.states names k) s 0) (sym is) ∙
      (e ∙ (ap (λ k. get_or (level_at m.states names k) t 0) is ∙ l.alone t ht)))))
]

-- what is left of the word from two states that part at a level
pub record IsRest (m : Machine) (s t level : ℕ) (w : List ℕ) : Type 0 where
  pub size : length w ≡ level
  pub least : 0 < level → IsLeastApart m s t w

module _ (m : Machine) (sound : IsMachine m) (names : List ℕ) (k : ℕ) (g : IsGrouping m.states names
    (AreAlikeUpTo m k)) (s t : ℕ) (hs : s < m.states) (ht : t < m.states)
    (p : PartAt m s t (k + 1)) where
  -- some letter tells them apart
  pub some_letter : ¬ ((a : ℕ) → a < m.letters → AreAlikeOn m names a s t)
  some_letter h = p.apart (letters_alike m k s t (λ a ha.
      let q = h a ha in
      (q.0, g.alike (next m s a) (next m t a) (row_inside m sound s a hs ha).0 (row_inside m sound t a ht ha).0 q.1)))

  module _ (a : ℕ) (ha : a < m.letters) (apart : ¬ AreAlikeOn m names a s t) (first : (b : ℕ) → b < a → AreAlikeOn m names b s t) where
    -- above level 0 it is answered alike, and its targets part one level below
    pub targets_part : 0 < k → PartAt m (next m s a) (next m t a) k
    targets_part hk =
        let q = alike_letter m (k - 1) s t (λ v w short. p.alike k (omega arith) v w (omega (arith, short, hk))) a ha in
        record {
          apart = λ r. apart (q.0, g.joined (next m s a) (next m t a) (row_inside m sound s a hs ha).0 (row_inside m sound t a ht ha).0 r);
          alike = λ j hj. (alike_letter m j s t (p.alike (j + 1) (omega (arith, hj))) a ha).1;
        }

    -- at level 0 it is answered differently
    reply_differs : k ≡ 0 → number m s a ≢ number m t a
    reply_differs z e =
        let none : AreAlikeUpTo m k (next m s a) (next m t a) = λ v w short. alike_none m (next m s a) (next m t a) v w (omega (arith, short, z)) in
        apart (e, g.joined (next m s a) (next m t a) (row_inside m sound s a hs ha).0 (row_inside m sound t a ht ha).0 none)

    module _ (w : List ℕ) (rest : IsRest m (next m s a) (next m t a) k w) where
      least_differs : numbers m s (a ∷ w) ≢ numbers m t (a ∷ w)
      least_differs e = elim (cases_eq k 0) as (λ _. ⊥) [
        | inl z ↦ let d : number m s a ≡ number m t a = cc in reply_differs z d
        | inr d ↦
            let f : numbers m (next m s a) w ≡ numbers m (next m t a) w = cc in
            (rest.least (omega (arith, d))).differ f
      ]

      least_word : IsWord m (a ∷ w)
      least_word = elim (cases_eq k 0) as (λ _. IsWord m (a ∷ w)) [
        | inl z ↦ let e : w ≡ [] = nil_from_length w (omega (arith, rest.size, z)) in
            rw (e) (All-cons (λ x. x < m.letters) a [] ha (All-nil (λ x. x < m.letters)))
        | inr d ↦ All-cons (λ x. x < m.letters) a w ha (rest.least (omega (arith, d))).is_word
      ]

      -- a word of as many letters that begins with the same one
      least_same : (v : List ℕ) → length v ≡ k → IsWord m v → numbers m s (a ∷ v) ≢ numbers m t (a ∷ v) → IsUpTo (a ∷ w) (a ∷ v)
      least_same v size wv differ = elim (cases_eq k 0) as (λ _. IsUpTo (a ∷ w) (a ∷ v)) [
        | inl z ↦
            let e : w ≡ [] = nil_from_length w (omega (arith, rest.size, z)) in
            let f : v ≡ [] = nil_from_length v (omega (arith, size, z)) in
            inl (cc)
        | inr d ↦
            let hk : 0 < k = omega (arith, d) in
            let q = alike_letter m (k - 1) s t (λ u x short. p.alike k (omega arith) u x (omega (arith, short, hk))) a ha in
            let r : number m s a ≡ number m t a = q.0 in
            elim ((rest.least hk).least v wv (λ e. differ (cc))) as (λ _. IsUpTo (a ∷ w) (a ∷ v)) [
              | inl e ↦ inl (ap (λ x. a ∷ x) e)
              | inr b ↦ inr (elim b as (λ _. IsBefore (a ∷ w) (a ∷ v)) [
                | inl shorter ↦ absurd (omega (arith, shorter, size, rest.size))
                | inr below ↦ inr (omega (arith, below.0), inr (refl, below.1))
              ])
            ]
      ]

      least_of : (v : List ℕ) → IsWord m v → numbers m s v ≢ numbers m t v → IsUpTo (a ∷ w) v
      least_of [] wv differ = absurd (differ refl)
      least_of (b ∷ v) wv differ =
          let hb : b < m.letters = All-head (λ x. x < m.letters) b v wv in
          let tail = All-tail (λ x. x < m.letters) b v wv in
          elim (cases_order (length v) k) as (λ _. IsUpTo (a ∷ w) (b ∷ v)) [
            | inr (inl short) ↦ absurd (differ (p.alike k (omega arith) (b ∷ v) wv (omega (arith, short))))
            | inr (inr long) ↦ inr (inl (omega (arith, long, rest.size)))
            | inl size ↦
                let size' : length v ≡ k = size in
                elim (cases_order a b) as (λ _. IsUpTo (a ∷ w) (b ∷ v)) [
                  | inl e ↦ let e' : a ≡ b = e in rw (← e') (least_same v size' tail (λ f. differ (rw (← e') f)))
                  | inr (inl low) ↦ inr (inr (omega (arith, size', rest.size), inl low))
                  | inr (inr high) ↦
                      let q = first b high in
                      let r : numbers m (next m s b) v ≡ numbers m (next m t b) v =
                      g.alike (next m s b) (next m t b) (row_inside m sound s b hs hb).0 (row_inside m sound t b ht hb).0 q.1 v tail (omega (arith, size')) in
                      let o = q.0 in
                      absurd (differ (cc))
                ]
          ]

      pub rest_more : IsRest m s t (k + 1) (a ∷ w)
      rest_more = record {
        size = omega (arith, rest.size);
        least = λ _. record { is_word = least_word; differ = least_differs; least = least_of };
      }

-- the word so far, after which two states part at a level
pub record IsSeparating (m : Machine) (state other first second level : ℕ) (word : List ℕ) : Type 0 where
  pub first_inside : first < m.states
  pub second_inside : second < m.states
  pub parts : 0 < level → PartAt m first second level
  pub whole : (w : List ℕ) → IsRest m first second level w → IsLeastApart m state other (word ++ w)
  pub short : length word + level < m.states

pub separating_first : (m : Machine) (s t level : ℕ) → s < m.states → t < m.states → PartAt m s t level → level < m.states → IsSeparating m s t s t level []
separating_first m s t level hs ht p few = record {
  first_inside = hs;
  second_inside = ht;
  parts = λ _. p;
  whole = λ w r. r.least (positive level p);
  short = omega (arith, few);
}
  where
    positive : (l : ℕ) → PartAt m s t l → 0 < l
    positive l q = elim (cases_eq l 0) as (λ _. 0 < l) [
      | inl z ↦ absurd (q.apart (λ v w short. alike_none m s t v w (omega (arith, short, z))))
      | inr d ↦ omega (arith, d)
    ]

pub separating_more : (m : Machine) → IsMachine m → (names : List ℕ) (k : ℕ) → IsGrouping m.states names (AreAlikeUpTo m k) →
    (state other first second : ℕ) (word : List ℕ) → IsSeparating m state other first second (k + 1) word →
    (a : ℕ) → a < m.letters → ¬ AreAlikeOn m names a first second → ((b : ℕ) → b < a → AreAlikeOn m names b first second) →
    IsSeparating m state other (next m first a) (next m second a) k (word ++ a ∷ [])
separating_more m sound names k g state other first second word i a ha apart below =
    let p = i.parts (omega arith) in
    record {
      first_inside = (row_inside m sound first a i.first_inside ha).0;
      second_inside = (row_inside m sound second a i.second_inside ha).0;
      parts = targets_part m sound names k g first second i.first_inside i.second_inside p a ha apart below;
      whole = λ w r. rw (append_assoc word (a ∷ []) w)
          (i.whole (a ∷ w) (rest_more m sound names k g first second i.first_inside i.second_inside p a ha apart below w r));
      short = omega (arith, i.short, length_push word a);
    }

pub separating_all : (m : Machine) (state other first second level : ℕ) (word : List ℕ) → IsSeparating m state other first second level word → level ≡ 0 →
    IsLeastApart m state other word
separating_all m state other first second level word i z =
    rw (append-nil word) at (i.whole [] (record { size = omega (arith, z); least = λ h. absurd (omega (arith, h, z)) }))
