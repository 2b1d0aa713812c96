use Rattle.subject.proofs.Letters.{word_in, letters_for}
use Rattle.subject.proofs.shapes.letters_stand_for_witnesses.Goals as goal

pub returns-clause-words : goal.returns-clause-words
returns-clause-words c = word_in

pub returns-clause-letters : goal.returns-clause-letters
returns-clause-letters c = λ r w h. let l = letters_for r w h in (l.letters, (l.below, l.are))
