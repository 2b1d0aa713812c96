-- Partition refinement: the states of a machine lie in numbered blocks, and a list gives the block of each
-- state. States of different blocks differ by some word, and blocks are split until they are stable.
use Rattle.std.specs.Prelude.{◌≡◌, ◌≢◌, ℕ, ◌<◌, ◌≤◌, List, length, slice_index}
use Rattle.fsm_core.specs.Machine.{Machine, IsWord, next, number}
use Rattle.fsm_core.specs.Answers.{numbers}

-- some word that two states answer by different numbers
pub record IsSeparated (m : Machine) (s t : ℕ) : Type 0 where
  pub word : List ℕ
  pub is_word : IsWord m word
  pub differ : numbers m s word ≢ numbers m t word

-- the blocks are numbered in the order of their first states: where all blocks before a state are below n,
-- the state's own is at most n
abbrev pub AreInOrder : List ℕ → Type 0
AreInOrder blocks = (t n : ℕ) → t < length blocks → ((u : ℕ) → u < t → slice_index blocks u < n) → slice_index blocks t ≤ n

-- the states of a machine in blocks, where states of different blocks are separated
pub record AreBlocks (m : Machine) (blocks : List ℕ) : Type 0 where
  pub size : length blocks ≡ m.states
  pub in_order : AreInOrder blocks
  pub apart : (s t : ℕ) → s < length blocks → t < length blocks → slice_index blocks s ≢ slice_index blocks t → IsSeparated m s t

-- no state's number of its block fell
pub record AreFiner (old new : List ℕ) : Type 0 where
  pub size : length old ≡ length new
  pub upto : (t : ℕ) → t < length new → slice_index old t ≤ slice_index new t

-- two states answer the letter a alike, and it leads them to one block
abbrev pub AreAlikeOn : Machine → List ℕ → ℕ → ℕ → ℕ → Type 0
AreAlikeOn m blocks a s t = (number m s a ≡ number m t a) × (slice_index blocks (next m s a) ≡ slice_index blocks (next m t a))

-- the letter a leads states of one new block to one old block, and they answer it alike
abbrev pub AgreeOn : Machine → List ℕ → ℕ → List ℕ → Type 0
AgreeOn m old a new = (s t : ℕ) → s < length new → t < length new → slice_index new s ≡ slice_index new t → AreAlikeOn m old a s t

-- each of the letters is answered alike by two states, and leads them to one block
abbrev pub AreAlikeOnEach : Machine → List ℕ → List ℕ → ℕ → ℕ → Type 0
AreAlikeOnEach m blocks letters s t = (i : ℕ) → i < length letters → AreAlikeOn m blocks (slice_index letters i) s t

-- none of the letters splits a block
abbrev pub AreStableOn : Machine → List ℕ → List ℕ → Type 0
AreStableOn m letters blocks = (i : ℕ) → i < length letters → AgreeOn m blocks (slice_index letters i) blocks

-- all letters of a machine, in order
pub record AreAllLetters (m : Machine) (letters : List ℕ) : Type 0 where
  pub are_letters : IsWord m letters
  pub count : length letters ≡ m.letters
  pub each : (a : ℕ) → a < length letters → slice_index letters a ≡ a

-- no letter splits a block
abbrev pub AreStable : Machine → List ℕ → Type 0
AreStable m blocks = (a : ℕ) → a < m.letters → AgreeOn m blocks a blocks
