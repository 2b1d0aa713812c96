use Rattle.concretise.proofs.answering.concrete.Goals as goal

pub suite_of_words-requires-clause-words : goal.suite_of_words-requires-clause-words
suite_of_words-requires-clause-words g c = rw (c.words.ensures, c.words-2.ensures) c.requires.words

pub returns-clause-suite : goal.returns-clause-suite
returns-clause-suite g c = rw (c.words.ensures, c.words-2.ensures) at c.suite_of_words.ensures.suite

pub returns-clause-complete : goal.returns-clause-complete
returns-clause-complete g c = rw (c.words.ensures, c.words-2.ensures) at c.suite_of_words.ensures.complete
