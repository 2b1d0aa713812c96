-- What a piece stands for.
use Rattle.strict_lines.specs.Lines.{Token, Number, Word}
use Rattle.strict_lines.specs.declared.pieces.Piece.{Piece}
use Rattle.strict_lines.specs.declared.pieces.Piece.TheVariants as piece

abbrev pub said : Piece → Token
said (piece.Number z) = Number z
said (piece.Word w) = Word w.now
