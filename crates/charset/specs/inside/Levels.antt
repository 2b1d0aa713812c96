-- The states of a machine in groups, where a list names the first state of the group of each. Contracts of
-- public calls name none of this.
use Rattle.std.specs.Prelude.{◌≡◌, ◌≢◌, ℕ, ℤ, ◌+◌, ◌*◌, ◌<◌, ◌≤◌, ◌⊎◌, List, length, take, drop, slice_index, All}
use Rattle.fsm_core.specs.Machine.{Machine, IsWord, next, number}
use Rattle.fsm_core.specs.Answers.{answer_from, numbers}
use Rattle.word_pool.specs.Order.{IsUpTo}

-- the first n numbers in groups of those alike by R: each is named by the first of its group
pub record IsGrouping (n : ℕ) (names : List ℕ) (R : ℕ → ℕ → Type 0) : Type 0 where
  pub size : length names ≡ n
  pub low : (s : ℕ) → s < n → slice_index names s ≤ s
  pub own : (s : ℕ) → s < n → slice_index names (slice_index names s) ≡ slice_index names s
  pub alike : (s t : ℕ) → s < n → t < n → slice_index names s ≡ slice_index names t → R s t
  pub joined : (s t : ℕ) → s < n → t < n → R s t → slice_index names s ≡ slice_index names t

-- l leads the group of s: an earlier leader that is alike, or s itself where there is none
pub record IsLeader (names : List ℕ) (R : ℕ → ℕ → Type 0) (s l : ℕ) : Type 0 where
  pub upto : l ≤ s
  pub earlier : l < s → (slice_index names l ≡ l) × R l s
  pub none : l ≡ s → (u : ℕ) → u < s → slice_index names u ≡ u → ¬ R u s

-- two states answer the letter a alike, and it leads them to one group
abbrev pub AreAlikeOn : Machine → List ℕ → ℕ → ℕ → ℕ → Type 0
AreAlikeOn m names a s t =
    (number m s a ≡ number m t a) × (slice_index names (next m s a) ≡ slice_index names (next m t a))

-- two states are of one group, and each letter leads them to one group and is answered alike
abbrev pub AreAlikeOnAll : Machine → List ℕ → ℕ → ℕ → Type 0
AreAlikeOnAll m names s t =
    (slice_index names s ≡ slice_index names t) × ((a : ℕ) → a < m.letters → AreAlikeOn m names a s t)

-- two states answer the words of at most k letters alike
abbrev pub AreAlikeUpTo : Machine → ℕ → ℕ → ℕ → Type 0
AreAlikeUpTo m k s t = (w : List ℕ) → IsWord m w → length w ≤ k → numbers m s w ≡ numbers m t w

-- the list of level k, of n names each
abbrev pub level_at : ℕ → List ℕ → ℕ → List ℕ
level_at n names k = take n (drop (k * n) names)

-- the levels of a machine: level k has the groups by the words of at most k letters, and each state is alone in
-- the last one
pub record AreLevels (m : Machine) (names : List ℕ) (last : ℕ) : Type 0 where
  pub size : length names ≡ (last + 1) * m.states
  pub level : (k : ℕ) → k ≤ last → IsGrouping m.states (level_at m.states names k) (AreAlikeUpTo m k)
  pub alone : (s : ℕ) → s < m.states → slice_index (level_at m.states names last) s ≡ s
  pub few : last < m.states

-- the shortlex-least word that two states answer differently, by the numbers of replies
pub record IsLeastApart (m : Machine) (s t : ℕ) (w : List ℕ) : Type 0 where
  pub is_word : IsWord m w
  pub differ : numbers m s w ≢ numbers m t w
  pub least : (v : List ℕ) → IsWord m v → numbers m s v ≢ numbers m t v → IsUpTo w v

-- two states part at a level: by the words of that many letters and by no shorter ones
pub record PartAt (m : Machine) (s t level : ℕ) : Type 0 where
  pub apart : ¬ AreAlikeUpTo m level s t
  pub alike : (k : ℕ) → k < level → AreAlikeUpTo m k s t

-- two places are of one group, and their states answer a word alike
abbrev pub AreAlikeBy : Machine → List ℕ → List ℕ → List ℕ → ℕ → ℕ → Type 0
AreAlikeBy m states names w i j =
    (slice_index names i ≡ slice_index names j) ×
    (numbers m (slice_index states i) w ≡ numbers m (slice_index states j) w)

-- the first pair of places, from a place on, that have one name
pub record IsFirstPair (names : List ℕ) (from p q : ℕ) : Type 0 where
  pub from_on : from ≤ p
  pub before : p < q
  pub inside : q < length names
  pub same : slice_index names p ≡ slice_index names q
  pub first : (i j : ℕ) → from ≤ i → i < j → j < length names → slice_index names i ≡ slice_index names j →
      (p < i) ⊎ ((p ≡ i) × (q ≤ j))

-- no pair of places from a place on has one name
abbrev pub NoPair : List ℕ → ℕ → Type 0
NoPair names from = (i j : ℕ) → from ≤ i → i < j → j < length names → slice_index names i ≢ slice_index names j

-- what the states with the numbers of places answer
abbrev pub answer_at : Machine → List ℕ → ℕ → List ℕ → List (List ℤ)
answer_at m states i w = answer_from m (slice_index states i) w

-- the states are states of the machine, and no state stands twice
pub record AreStates (m : Machine) (states : List ℕ) : Type 0 where
  pub size : length states ≡ m.states
  pub inside : All (λ s. s < m.states) states
  pub once : (i j : ℕ) → i < j → j < length states → slice_index states i ≢ slice_index states j
