-- Groups by the words of at most k letters, level by level.
use Rattle.std.proofs.Common.{◌≡◌, ℕ, ◌+◌, ◌*◌, ◌<◌, ◌≤◌, List, [], ◌∷◌, ◌++◌, length, get_or, take, drop, refl, ap, sym, ◌∙◌, inl, inr, arith}
use Rattle.std.proofs.lemmas.Bool.{cases_eq, cases_lt}
use Rattle.std.proofs.lemmas.Nat.{mul-le}
use Rattle.std.proofs.lemmas.List.{length-append, take_all, take-append-le, drop_at, drop-append-le, length-drop}
use Rattle.std.proofs.lemmas.List.Elements.{All-cons, All-nil, All-head, All-tail}
use Rattle.fsm_core.specs.Machine.{Machine, IsMachine, IsWord, next, number}
use Rattle.fsm_core.specs.Answers.{IsReduced, numbers}
use Rattle.fsm_core.proofs.Machines.{row_inside, answers_from_numbers}
use Rattle.charset.specs.inside.Levels.{AreAlikeOnAll, AreAlikeUpTo, AreLevels, IsGrouping, level_at}
use Rattle.charset.proofs.Grouping.{leaders, leaders_upto, leaders_some, more_or_same}

module _ (m : Machine) (names : List ℕ) where
  pub all_itself : (s : ℕ) → AreAlikeOnAll m names s s
  all_itself s = (refl, λ a h. (refl, refl))

  pub all_flip : (s t : ℕ) → AreAlikeOnAll m names s t → AreAlikeOnAll m names t s
  all_flip s t r = (sym r.0, λ a h. (sym ((r.1 a h).0), sym ((r.1 a h).1)))

  pub all_chain : (s t u : ℕ) → AreAlikeOnAll m names s t → AreAlikeOnAll m names t u → AreAlikeOnAll m names s u
  all_chain s t u r q = (r.0 ∙ q.0, λ a h. ((r.1 a h).0 ∙ (q.1 a h).0, (r.1 a h).1 ∙ (q.1 a h).1))

-- the words of no letters tell no states apart
pub alike_none : (m : Machine) (s t : ℕ) → AreAlikeUpTo m 0 s t
alike_none m s t [] w h = refl
alike_none m s t (a ∷ v) w h = absurd (omega (arith, h))

pub alike_fewer : (m : Machine) (k s t : ℕ) → AreAlikeUpTo m (k + 1) s t → AreAlikeUpTo m k s t
alike_fewer m k s t h v w short = h v w (omega (arith, short))

-- alike by the words of at most k + 1 letters: each letter is answered alike and leads to states alike by those of at most k
pub alike_letter : (m : Machine) (k s t : ℕ) → AreAlikeUpTo m (k + 1) s t → (a : ℕ) → a < m.letters →
    (number m s a ≡ number m t a) × AreAlikeUpTo m k (next m s a) (next m t a)
alike_letter m k s t h a ha =
    let none : IsWord m [] = All-nil (λ x. x < m.letters) in
    let e : numbers m s (a ∷ []) ≡ numbers m t (a ∷ []) = h (a ∷ []) (All-cons (λ x. x < m.letters) a [] ha none) (omega arith) in
    (cc, λ v w short. let d : numbers m s (a ∷ v) ≡ numbers m t (a ∷ v) = h (a ∷ v) (All-cons (λ x. x < m.letters) a v ha w) (omega (arith, short)) in cc)

pub letters_alike : (m : Machine) (k s t : ℕ) → ((a : ℕ) → a < m.letters → (number m s a ≡ number m t a) × AreAlikeUpTo m k (next m s a) (next m t a)) →
    AreAlikeUpTo m (k + 1) s t
letters_alike m k s t h [] w short = refl
letters_alike m k s t h (a ∷ v) w short =
    let p = h a (All-head (λ x. x < m.letters) a v w) in
    let e : numbers m (next m s a) v ≡ numbers m (next m t a) v = p.1 v (All-tail (λ x. x < m.letters) a v w) (omega (arith, short)) in
    let d = p.0 in
    cc

-- level 0: one group
pub grouping_first : (m : Machine) (names : List ℕ) → length names ≡ m.states → ((s : ℕ) → s < m.states → get_or names s 0 ≡ 0) → 0 < m.states →
    IsGrouping m.states names (AreAlikeUpTo m 0)
grouping_first m names size z some = record {
  size = size;
  low = λ s h. omega (arith, z s h);
  own = λ s h. ap (λ i. get_or names i 0) (z s h) ∙ (z 0 some ∙ sym (z s h));
  alike = λ s t hs ht e. alike_none m s t;
  joined = λ s t hs ht r. z s hs ∙ sym (z t ht);
}

module _ (m : Machine) (sound : IsMachine m) (names : List ℕ) (k : ℕ) (g : IsGrouping m.states names (AreAlikeUpTo m k))
    (finer : List ℕ) (h : IsGrouping m.states finer (AreAlikeOnAll m names)) where
  pub grouping_next : IsGrouping m.states finer (AreAlikeUpTo m (k + 1))
  grouping_next = record {
    size = h.size;
    low = h.low;
    own = h.own;
    alike = λ s t hs ht e. letters_alike m k s t (λ a ha.
        let p = (h.alike s t hs ht e).1 a ha in
        (p.0, g.alike (next m s a) (next m t a) (row_inside m sound s a hs ha).0 (row_inside m sound t a ht ha).0 p.1));
    joined = λ s t hs ht r. h.joined s t hs ht (
      g.joined s t hs ht (alike_fewer m k s t r),
      λ a ha.
          let p = alike_letter m k s t r a ha in
          (p.0, g.joined (next m s a) (next m t a) (row_inside m sound s a hs ha).0 (row_inside m sound t a ht ha).0 p.1),
    );
  }

  -- where no name changes, states of one group answer every word alike
  stable : ((s : ℕ) → s < m.states → get_or finer s 0 ≡ get_or names s 0) → (word : List ℕ) (s t : ℕ) → s < m.states →
      t < m.states → get_or names s 0 ≡ get_or names t 0 →
      IsWord m word → numbers m s word ≡ numbers m t word
  stable same [] s t hs ht e w = refl
  stable same (a ∷ v) s t hs ht e w =
      let ha : a < m.letters = All-head (λ x. x < m.letters) a v w in
      let p = (h.alike s t hs ht (same s hs ∙ (e ∙ sym (same t ht)))).1 a ha in
      let d = p.0 in
      let rest = stable same v (next m s a) (next m t a) (row_inside m sound s a hs ha).0
      (row_inside m sound t a ht ha).0 p.1 (All-tail (λ x. x < m.letters) a v w) in
      cc

  -- in a reduced machine there are more groups, unless each state is alone
  pub groups_rise : IsReduced m → ¬ ((s : ℕ) → s < length names → get_or names s 0 ≡ s) → leaders names m.states < leaders finer m.states
  groups_rise reduced some = elim (more_or_same m.states names finer (AreAlikeUpTo m k) (AreAlikeUpTo m (k + 1)) g
      grouping_next (λ s t r. alike_fewer m k s t r)) as
      (λ _. leaders names m.states < leaders finer m.states) [
        | inl more ↦ more
        | inr same ↦ absurd (some (λ s h. elim (cases_eq (get_or names s 0) s) as (λ _. get_or names s 0 ≡ s) [
          | inl e ↦ e
          | inr d ↦
              let hs : s < m.states = omega (arith, h, g.size) in
              let hu : get_or names s 0 < m.states = omega (arith, g.low s hs, hs) in
              let t = reduced (get_or names s 0) s hu hs d in
              absurd (t.differ (answers_from_numbers m m (get_or names s 0) s t.word refl
              (stable same t.word (get_or names s 0) s hu hs (g.own s hs) t.is_word)))
        ]))
      ]

-- the levels so far, of which `names` is the last
pub record IsLeveling (m : Machine) (all names : List ℕ) (last : ℕ) : Type 0 where
  pub size : length all ≡ (last + 1) * m.states
  pub level : (k : ℕ) → k ≤ last → IsGrouping m.states (level_at m.states all k) (AreAlikeUpTo m k)
  pub here : level_at m.states all last ≡ names
  pub many : last < leaders names m.states

pub leveling_first : (m : Machine) (names : List ℕ) → length names ≡ m.states → ((s : ℕ) → s < m.states → get_or names s 0 ≡ 0) → 0 < m.states →
    IsLeveling m names names 0
leveling_first m names size z some =
    let start : 0 * m.states ≡ 0 = omega arith in
    let same : take m.states (drop (0 * m.states) names) ≡ names =
    ap (λ i. take m.states (drop i names)) start ∙ take_all m.states names (omega (arith, size)) in
    record {
      size = omega (arith, size);
      level = λ k hk. elim (cases_eq k 0) as (λ _. IsGrouping m.states (level_at m.states names k) (AreAlikeUpTo m k)) [
        | inl e ↦ let e' : k ≡ 0 = e in rw (e', same) (grouping_first m names size z some)
        | inr d ↦ absurd (omega (arith, d, hk))
      ];
      here = same;
      many = leaders_some names m.states (z 0 some) some;
    }

level_kept : (n : ℕ) (all more : List ℕ) (k count : ℕ) → length all ≡ count * n → k < count → level_at n (all ++ more) k ≡ level_at n all k
level_kept n all more k count size h =
    let fit : k * n + n ≤ count * n = omega (arith, mul-le (k + 1) n count n (omega (arith, h)) (omega arith)) in
    let low : k * n ≤ length all = omega (arith, fit, size) in
    ap (take n) (drop-append-le (k * n) all more low) ∙ take-append-le n (drop (k * n) all) more (omega (arith, length-drop (k * n) all, fit, size))

level_new : (n : ℕ) (all more : List ℕ) (count : ℕ) → length all ≡ count * n → length more ≡ n → level_at n (all ++ more) count ≡ more
level_new n all more count size same = ap (take n) (drop_at all more (count * n) size) ∙ take_all n more (omega (arith, same))

pub leveling_more : (m : Machine) → IsMachine m → IsReduced m → (all names : List ℕ) (last : ℕ) → IsLeveling m all names last →
    ¬ ((s : ℕ) → s < length names → get_or names s 0 ≡ s) → (finer : List ℕ) → IsGrouping m.states finer (AreAlikeOnAll m names) →
    IsLeveling m (all ++ finer) finer (last + 1)
leveling_more m sound reduced all names last l some finer h =
    let g : IsGrouping m.states names (AreAlikeUpTo m last) = rw (l.here) at (l.level last (omega arith)) in
    let new : level_at m.states (all ++ finer) (last + 1) ≡ finer = level_new m.states all finer (last + 1) l.size h.size in
    record {
      size = omega (arith, length-append all finer, l.size, h.size);
      level = λ k hk. elim (cases_lt k (last + 1)) as (λ _. IsGrouping m.states (level_at m.states (all ++ finer) k) (AreAlikeUpTo m k)) [
        | inl low ↦ rw (level_kept m.states all finer k (last + 1) l.size low) (l.level k (omega (arith, low)))
        | inr high ↦ let e : k ≡ last + 1 = omega (arith, hk, high) in rw (e, new) (grouping_next m sound names last g finer h)
      ];
      here = new;
      many = omega (arith, l.many, groups_rise m sound names last g finer h reduced some);
    }

pub leveling_all : (m : Machine) (all names : List ℕ) (last : ℕ) → IsLeveling m all names last →
    ((s : ℕ) → s < length names → get_or names s 0 ≡ s) → AreLevels m all last
leveling_all m all names last l alone =
    let g : IsGrouping m.states names (AreAlikeUpTo m last) = rw (l.here) at (l.level last (omega arith)) in
    record {
      size = l.size;
      level = l.level;
      alone = λ s h. rw (l.here) (alone s (omega (arith, h, g.size)));
      few = omega (arith, l.many, leaders_upto names m.states);
    }
