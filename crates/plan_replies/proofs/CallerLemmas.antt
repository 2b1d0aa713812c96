-- Lemmas for the crates above.
pub use Rattle.plan_replies.proofs.Numbers.{below_front}
pub use Rattle.plan_replies.proofs.Answering.{answers_are, tests_are}
