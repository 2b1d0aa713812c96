use Rattle.lin_form.proofs.Deciding.{IsPairOf-computed, IsPairOf-decides, IsPairOf-one}
use Rattle.lin_form.proofs.laws.pairs_decide_comparisons.Goals as goal

pub returns-clause-one : goal.returns-clause-one
returns-clause-one c = IsPairOf-one

pub returns-clause-atoms : goal.returns-clause-atoms
returns-clause-atoms c = IsPairOf-computed

pub returns-clause-decided : goal.returns-clause-decided
returns-clause-decided c = IsPairOf-decides
