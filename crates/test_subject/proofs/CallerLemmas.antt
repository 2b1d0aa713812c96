-- Lemmas for the crates above: verdicts that name a step, and the steps of a suite's tests.
pub use Rattle.test_subject.proofs.Verdicts.{names_step}
pub use Rattle.test_subject.proofs.Places.{all_at, letters_in, test_there, as_many, class_in, item_at, item_in, one_for_each}
