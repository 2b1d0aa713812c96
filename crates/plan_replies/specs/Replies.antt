-- The replies of a plan to the words of a pool.
use Rattle.std.specs.Prelude.{◌≡◌, ℕ, ◌+◌, ◌-◌, ◌<◌, ℤ, List, [], ◌∷◌, ◌++◌, length, Some, slice_get, slice_index_or}
use Rattle.subject.specs.Meaning.{Meaning, answer, state_after}
use Rattle.subject.specs.Suite.{Test, in_vectors}
use Rattle.word_pool.specs.Words.{word}

-- a word of letters with the plan's answer to the vectors that it stands for
abbrev pub answered : {S : Type 0} → Meaning S → List (List ℤ) → List ℕ → Test
answered m classes w = record { letters = w; replies = answer m (in_vectors classes w) }

-- the state to which a word of letters leads
abbrev pub state_of : {S : Type 0} → Meaning S → List (List ℤ) → List ℕ → S
state_of m classes w = state_after m m.start (in_vectors classes w)

-- the plan's reply to the last letter of the word u and a letter
abbrev pub reply_of : {S : Type 0} → Meaning S → List (List ℤ) → List ℕ → ℕ → List ℤ
reply_of m classes u a = m.reply (state_of m classes u) (slice_index_or classes a [])

-- the reply to the last letter of each word but the empty one
pub record AreReplies {S : Type 0} (m : Meaning S) (classes : List (List ℤ)) (words : List (List ℕ))
    (replies : List (List ℤ)) : Type 0 where
  pub one_each : length words ≡ length replies + 1
  pub each : (k : ℕ) (u : List ℕ) (a : ℕ) → 0 < k → k < length words → word words k ≡ u ++ a ∷ []
      → slice_get replies (k - 1) ≡ Some (reply_of m classes u a)
