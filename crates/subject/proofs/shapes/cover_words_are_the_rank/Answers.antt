use Rattle.subject.proofs.FromShape.{letters_rank}
use Rattle.subject.proofs.shapes.cover_words_are_the_rank.Goals as goal

pub returns : goal.returns
returns g c = λ r cover marks covers alike are_cover are_marks. letters_rank (g.P.Plan.plan c.args.model.now) r covers cover are_cover marks are_marks alike
