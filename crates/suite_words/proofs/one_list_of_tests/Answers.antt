use Rattle.suite_words.proofs.Unique.{tests_unique}
use Rattle.suite_words.proofs.one_list_of_tests.Goals as goal

pub returns : goal.returns
returns c = tests_unique
