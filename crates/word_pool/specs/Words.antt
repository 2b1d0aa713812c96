-- The words of a pool, as contracts see them. A letter is a number, a word is a list of letters, and the
-- id of a word is its place in the list of words.
use Rattle.std.specs.Prelude.{◌≡◌, ℕ, ◌+◌, ◌<◌, ◌≤◌, ◌⊎◌, List, [], ◌∷◌, ◌++◌, length, take, map, slice_get, slice_index_or, All, Contains, Some}

-- what contracts see of a pool: its words by id, and how many more are sure to find room
pub record Words : Type 0 where
  pub words : List (List ℕ)
  pub spare : ℕ

-- the word with an id, and the empty word past the end
abbrev pub word : List (List ℕ) → ℕ → List ℕ
word ws i = slice_index_or ws i []

-- the word with an id, followed by a letter
abbrev pub extension_of : List (List ℕ) → ℕ → ℕ → List ℕ
extension_of ws i a = word ws i ++ a ∷ []

-- the words with these ids
abbrev pub words_at : List (List ℕ) → List ℕ → List (List ℕ)
words_at ws ids = map (word ws) ids

-- the ids are those of words
abbrev pub AreIds : List (List ℕ) → List ℕ → Type 0
AreIds ws ids = All (λ i. i < length ws) ids

-- `w` begins with `u`
abbrev pub IsPrefix : List ℕ → List ℕ → Type 0
IsPrefix u w = (v : List ℕ) × (w ≡ u ++ v)

-- `u` is a prefix of one of the words
abbrev pub IsPrefixOfOne : List (List ℕ) → List ℕ → Type 0
IsPrefixOfOne words u = (k : ℕ) × ((k < length words) × IsPrefix u (word words k))

-- `w` begins with `u` and goes on with a letter `a`
abbrev pub IsProperPrefix : List ℕ → List ℕ → Type 0
IsProperPrefix u w = (a : ℕ) × ((v : List ℕ) × (w ≡ u ++ a ∷ v))

-- the word `i` is a word with a lower id and one letter more
pub record IsExtension (ws : List (List ℕ)) (i : ℕ) : Type 0 where
  pub shorter : ℕ
  pub last : ℕ
  pub lower : shorter < i
  pub extends : word ws i ≡ word ws shorter ++ last ∷ []

-- the words of a pool: the empty word is the first, no word has two ids, and the longest proper prefix of
-- each other word has a lower id
pub record ArePooled (ws : List (List ℕ)) : Type 0 where
  pub empty : slice_get ws 0 ≡ Some []
  pub different : (i j : ℕ) → i < length ws → j < length ws → word ws i ≡ word ws j → i ≡ j
  pub prefixed : (i : ℕ) → 0 < i → i < length ws → IsExtension ws i

-- every word of `old` has the same id in `new`
abbrev pub Keeps : List (List ℕ) → List (List ℕ) → Type 0
Keeps old new = (i : ℕ) (w : List ℕ) → slice_get old i ≡ Some w → slice_get new i ≡ Some w

-- a word enters a list of words: nothing changes where it is there, else it comes last
abbrev pub Enters : List (List ℕ) → List ℕ → List (List ℕ) → Type 0
Enters old w new = (Contains old w × (new ≡ old)) ⊎ (¬ Contains old w × (new ≡ old ++ w ∷ []))

-- each word of a pool is a prefix of one of `words`
abbrev pub ArePrefixesOf : List (List ℕ) → List (List ℕ) → Type 0
ArePrefixesOf ws words = (i : ℕ) → i < length ws → IsPrefixOfOne words (word ws i)

-- each word that was added to a pool is a prefix of one of `words`
abbrev pub AddsPrefixesOf : List (List ℕ) → List (List ℕ) → List (List ℕ) → Type 0
AddsPrefixesOf old words new = (i : ℕ) → length old ≤ i → i < length new → IsPrefixOfOne words (word new i)

-- words that begin with `u` and go on with letters of `w` were added to a pool, and no more than `w` has letters
pub record EntersAfter (old : List (List ℕ)) (u w : List ℕ) (new : List (List ℕ)) : Type 0 where
  pub more : length old ≤ length new
  pub few : length new ≤ length old + length w
  pub only : (i : ℕ) → length old ≤ i → i < length new → (n : ℕ) × ((n ≤ length w) × (word new i ≡ u ++ take n w))
