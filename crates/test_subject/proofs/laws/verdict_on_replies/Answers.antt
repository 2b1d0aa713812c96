use Rattle.test_subject.proofs.Replies.{one_verdict_on}
use Rattle.test_subject.proofs.laws.verdict_on_replies.Goals as goal

pub returns : goal.returns
returns c = one_verdict_on
