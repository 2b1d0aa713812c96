-- What of a line is no comment.
use Rattle.std.specs.Prelude.{ℕ, ◌-◌, not, if◌then◌else◌, ◌==◌, List, length, take, slice_index}
use Rattle.std.specs.List.{prefix_len}

-- a line without the carriage return that is its last byte
abbrev pub without_return : List ℕ → List ℕ
without_return line = if slice_index line (length line - 1) == 13 then take (length line - 1) line else line

-- a line up to its first `#`
abbrev pub without_comment : List ℕ → List ℕ
without_comment line = take (prefix_len (λ b. not (b == 35)) line) line

-- what of a line is read: no carriage return at its end, and no comment
abbrev pub content_of : List ℕ → List ℕ
content_of line = without_comment (without_return line)
