-- Lemmas for the crates above: answers part by part, words of witnesses, numbers of states, first failures, and the
-- theorem of the W-method, also with own marks for each word of the cover.
pub use Rattle.subject.proofs.Words.{answer_from-append, state_after-append, length-answer_from, after-state, length-after, answer-after, alike-goes_on, same_steps-act}
pub use Rattle.subject.proofs.Witnesses.{witness-acts, word-acts, answers-witnesses}
pub use Rattle.subject.proofs.Lifting.{decide_same, stable, from_mere, by_classes, equal_from, lead_alike_from}
pub use Rattle.subject.proofs.Ranks.{alike-in_witnesses, few_apart, rank_within, more_states, most_over_witnesses, most_from_witnesses, rank_from_witnesses}
pub use Rattle.subject.proofs.Failures.{passes_or_fails, excludes, one_failure}
pub use Rattle.subject.proofs.Method.{IsProbed, HasMethod, equal_by_own, equal_by_tests, equal_inside, method_decides, own_method, tests_decide}
pub use Rattle.subject.proofs.ReachedStates.{reached_word, reached_start, leads_on, reached_step, reached_more, holds_where_reached}
pub use Rattle.subject.proofs.Acting.{acts-over_witnesses, acts-after_words}
pub use Rattle.subject.proofs.Covering.{cover_rank}
pub use Rattle.subject.proofs.Letters.{IsMapped, contains_from_map, all_of_each, word_in, HasLetters, letters_for, in_model_alone}
pub use Rattle.subject.proofs.FromShape.{letters_rank, rank_is_length, marks_are_letters, own_mark_among, product_letters, wp_letters}
pub use Rattle.subject.proofs.Suites.{one_shape, one_wp_shape, shape_answered, wp_shape_answered, shape_decides, wp_shape_decides}
