use Rattle.line_forms.specs.Parsing.{AreParsed}
use Rattle.line_forms.proofs.Formed.{one_in}
use Rattle.line_forms.proofs.Parsing.{one_parsed}
use Rattle.line_forms.proofs.parsed.one_parse.Goals as goal

pub returns : goal.returns
returns g c = one_parsed (AreParsed g.F.LineForm.Is) (one_in g.F.LineForm.Is c.one.ensures) c.one_tokenizing.ensures
