use Rattle.lin_form.specs.Name.{reserved_words}
use Rattle.suite_reader.proofs.Checking.{among}
use Rattle.suite_reader.proofs.names.is_reserved.Goals as goal

pub returns : goal.returns
returns c = among reserved_words c.args.name.now c.is_reserved.result c.is_reserved.ensures
