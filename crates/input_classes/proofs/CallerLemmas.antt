-- Lemmas for the crates above: what is found in a list, the class of a vector, words of witnesses, numbers of patterns.
pub use Rattle.input_classes.proofs.Finding.{IsFound, find-found, find-some, contains_first, contains_later, contains_cases, contains_none, contains_map, same_pattern, pattern_same}
pub use Rattle.input_classes.proofs.Witnesses.{HasWitness, partition-covers, witnessed, witness-within, witness-member, members-within, word-within, word-member, words-within}
pub use Rattle.input_classes.proofs.Few.{few_patterns}
pub use Rattle.input_classes.proofs.One.{IsAtMost-itself, IsAtMost-same, IsPatternBefore-never, ascending_same, one_partition}
