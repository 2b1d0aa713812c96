-- Whether a text is read as a table, which its first line tells that is not blank.
use Rattle.std.specs.Prelude.{ℕ, Bool, false, if◌then◌else◌, ◌==◌, List, [], ◌∷◌, length, take, drop, codes}
use Rattle.std.specs.List.{prefix_len}
use Rattle.std.specs.Str.{bytes_eq}
use Rattle.lin_form.specs.Name.{continues_name}
use Rattle.line_tokens.specs.Lines.{content_of}
use Rattle.line_tokens.specs.Spelling.{is_blank}
use Rattle.text_lines.specs.Lines.{lines_of}

-- what of a line is read, from its first byte on that is no space or tab
abbrev pub said_of : List ℕ → List ℕ
said_of line = drop (prefix_len is_blank (content_of line)) (content_of line)

-- the letters, digits and `_` at the front
abbrev pub first_word : List ℕ → List ℕ
first_word said = take (prefix_len continues_name said) said

-- the first line that is not blank begins with the word `table`
abbrev pub are_table_lines : List (List ℕ) → Bool
are_table_lines [] = false
are_table_lines (line ∷ lines) =
    if length (said_of line) == 0 then are_table_lines lines else bytes_eq (first_word (said_of line)) (codes "table")

abbrev pub is_table_text : List ℕ → Bool
is_table_text text = are_table_lines (lines_of text)
