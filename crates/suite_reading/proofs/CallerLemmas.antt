-- Lemmas for the crates above: what a check that is passed says, and lines that pass, one after another.
pub use Rattle.suite_reading.proofs.Keeping.{fact, both, not_true, in_order, stands, kept, kept_begun}
pub use Rattle.suite_reading.proofs.Leading.{Goes, goes_on, is_refused, leads_push}
pub use Rattle.suite_reading.proofs.Printing.{leads_kept}
