use Rattle.line_forms.proofs.Unique.{one_list}
use Rattle.line_forms.proofs.numbers.NumbersLineForm.one.Goals as goal

pub returns : goal.returns
returns c = λ ts a b p q. one_list ts 0 a b p q
