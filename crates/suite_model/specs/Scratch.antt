-- The place for the letters of a word and for one line.
use Rattle.std.specs.Prelude.{◌≡◌, ℕ, ◌+◌, ◌*◌, ◌<◌, ◌≤◌, ℤ, List, length, take, slice_get}
use Rattle.std.specs.List.{All}
use Rattle.subject.specs.Suite.{SuiteParts, Test}

-- `letters` and `replies` have as many places as there is room for, `room` is that of the line, and `ends` has where the
-- line ended at each number of steps
pub record Place : Type 0 where
  pub letters : List ℕ
  pub line : List ℕ
  pub room : ℕ
  pub ends : List ℕ
  pub replies : List (List ℤ)

-- the bytes that a line takes which has this many letters: 6 for each with its space, since a letter is a `u16`, and
-- 320 for a line's word, or for its word, six inputs and eight outputs
abbrev pub line_room : ℕ → ℕ
line_room letters = 320 + 6 * letters

-- the bytes that the lines of a test take: 320 for each step and a line with the letters
abbrev pub text_room : ℕ → ℕ
text_room letters = 320 + 326 * letters

-- there is room for the letters of each word of the suite, and for a line with as many letters as there is room for
pub record IsMadeFor (s : SuiteParts) (place : Place) : Type 0 where
  pub tests : All (λ (t : Test). length t.letters ≤ length place.letters) s.tests
  pub cover : All (λ w. length w ≤ length place.letters) s.cover
  pub marks : All (λ w. length w ≤ length place.letters) s.marks
  pub line : line_room (length place.letters) ≤ place.room

-- the first `count` letters and replies are those of a test
pub record HasTest (t : Test) (count : ℕ) (place : Place) : Type 0 where
  pub size : count ≡ length t.letters
  pub letters : take count place.letters ≡ t.letters
  pub replies : (step : ℕ) → step < count → slice_get place.replies step ≡ slice_get t.replies step
