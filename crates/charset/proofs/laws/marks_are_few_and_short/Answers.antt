use Rattle.charset.proofs.Few.{marks_few, marks_short}
use Rattle.charset.proofs.laws.marks_are_few_and_short.Goals as goal

pub returns-clause-count : goal.returns-clause-count
returns-clause-count c = λ m cover marks sound covers marked. marks_few m sound cover marks covers marked

pub returns-clause-short : goal.returns-clause-short
returns-clause-short c = λ m cover marks sound covers marked. marks_short m sound cover marks covers marked
