use Rattle.suite_words.proofs.Unique.{marks_unique}
use Rattle.suite_words.proofs.one_list_of_marks.Goals as goal

pub returns : goal.returns
returns c = λ f n m. marks_unique f n m
