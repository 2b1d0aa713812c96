use Rattle.suite_words.proofs.Same.{same_marks}
use Rattle.suite_words.proofs.marks_of_the_same_answers.Goals as goal

pub returns : goal.returns
returns c = λ f g n m marks same. same_marks n m f g same marks
