use Rattle.line_forms.specs.Parsing.{AreParsed}
use Rattle.line_forms.proofs.Formed.{some_in}
use Rattle.line_forms.proofs.Parsing.{some_parsed}
use Rattle.line_forms.proofs.parsed.some_parse.Goals as goal

pub returns : goal.returns
returns g c = some_parsed (AreParsed g.F.LineForm.Is) (some_in g.F.LineForm.Is)
