-- Lemmas for the crates above: where a text is cut.
pub use Rattle.strict_lines.proofs.Cutting.{cut_first, cut_last}
pub use Rattle.strict_lines.proofs.Joining.{line_printed, lines_closed}
