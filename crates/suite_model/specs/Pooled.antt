-- The parts from which a suite is made: the words of a pool, with one reply for each but the empty word.
use Rattle.std.specs.Prelude.{◌≡◌, ℕ, suc, ◌+◌, ◌-◌, ◌<◌, ℤ, List, [], ◌∷◌, ◌++◌, length, map, if◌then◌else◌, slice_index_or, Vec}
use Rattle.std.specs.List.{All}
use Rattle.std.specs.Str.{bytes_eq}
use Rattle.lin_form.specs.declared.signature.Signature.{Signature}
use Rattle.lin_form.specs.Signature.{IsInInputRanges}
use Rattle.word_pool.specs.Words.{word, words_at, AreIds, ArePrefixesOf}
use Rattle.suite_words.specs.Cover.{AreLetters}
use Rattle.subject.specs.Suite.{SuiteParts, Test}

-- the place of a word in a list of words, or their number
abbrev pub number_of : List (List ℕ) → List ℕ → ℕ
number_of [] u = 0
number_of (w ∷ ws) u = if bytes_eq w u then 0 else suc (number_of ws u)

-- the reply to the last letter of a word that is not empty: that of the word with number k stands at place k - 1
abbrev pub reply_to : List (List ℕ) → List (List ℤ) → List ℕ → List ℤ
reply_to words replies u = slice_index_or replies (number_of words u - 1) []

-- the replies to the letters v that come after u
abbrev pub replies_from : List (List ℕ) → List (List ℤ) → List ℕ → List ℕ → List (List ℤ)
replies_from words replies u [] = []
replies_from words replies u (a ∷ v) = reply_to words replies (u ++ a ∷ []) ∷ replies_from words replies (u ++ a ∷ []) v

-- the test of a word, with the replies to its prefixes
abbrev pub pooled_test : List (List ℕ) → List (List ℤ) → List ℕ → Test
pooled_test words replies w = record { letters = w; replies = replies_from words replies [] w }

-- the tests of the words with these ids
abbrev pub pooled_tests : List (List ℕ) → List (List ℤ) → List ℕ → List Test
pooled_tests words replies ids = map (λ i. pooled_test words replies (word words i)) ids

-- the letters of each word of a list of vectors
abbrev pub lists : {A : Type 0} → List (Vec ℕ A) → List (List ℕ)
lists vectors = map (λ v. v.items) vectors

-- words of a pool, the ids of the tests and the replies make a suite with the other parts: every word is a prefix of a
-- test, and the reply to the last letter of the word with number k stands at place k - 1
pub record MakeSuite (signature : Signature) (classes : List (List ℤ)) (cover marks : List (List ℕ))
    (words : List (List ℕ)) (ids : List ℕ) (replies : List (List ℤ)) : Type 0 where
  pub vectors : All (IsInInputRanges signature.inputs) classes
  pub letters : All (AreLetters (length classes)) words
  pub cover_letters : All (AreLetters (length classes)) cover
  pub mark_letters : All (AreLetters (length classes)) marks
  pub are_ids : AreIds words ids
  pub some_letter : All (λ i. 0 < length (word words i)) ids
  pub prefixes : ArePrefixesOf words (words_at words ids)
  pub one_each : length words ≡ length replies + 1
  pub counts : All (λ r. length r ≡ length signature.outputs) replies

-- a suite has the words of a pool with these replies
pub record IsPooled (s : SuiteParts) (words : List (List ℕ)) (replies : List (List ℤ)) : Type 0 where
  pub ids : List ℕ
  pub makes : MakeSuite s.signature s.classes s.cover s.marks words ids replies
  pub tests : s.tests ≡ pooled_tests words replies ids
