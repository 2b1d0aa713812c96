-- What stands at the front of a run of bytes.
use Rattle.std.specs.Prelude.{ℕ, Bool, false, ◌&&◌, ◌==◌, List, [], ◌∷◌}
use Rattle.line_tokens.specs.Spelling.{starts, is_symbol_byte, is_before_equals}

-- a symbol of one byte stands at the front
abbrev pub starts_symbol : List ℕ → Bool
starts_symbol bytes = starts is_symbol_byte bytes

-- a symbol of two bytes stands at the front
abbrev pub starts_joined : List ℕ → Bool
starts_joined [] = false
starts_joined (b ∷ bs) = is_before_equals b && starts (λ c. c == 61) bs
