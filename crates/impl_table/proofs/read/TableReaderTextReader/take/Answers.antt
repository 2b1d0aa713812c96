use Rattle.std.proofs.Common.{subst}
use Rattle.std.specs.Prelude.{Ok}
use Rattle.impl_table.proofs.Keeping.{IsTableLine, kept_after}
use Rattle.impl_table.proofs.read.TableReaderTextReader.take.Goals as goal

pub take-requires-clause-small : goal.take-requires-clause-small
take-requires-clause-small c = c.small_parse.ensures c.args.line.now c.in-Ok-Some.parsed
    (subst (λ parsed. IsTableLine c.args.line.now (Ok parsed)) c.in-Ok-Some.field-0-is c.in-Ok-Some.ensures)

pub returns-clause-kept : goal.returns-clause-kept
returns-clause-kept c =
    let is = subst (λ parsed. IsTableLine c.args.line.now (Ok parsed)) c.in-Ok-Some.field-0-is c.in-Ok-Some.ensures in
    kept_after c.small_parse.ensures c.guards_fit.ensures c.args.self.now.declared c.take.new.declared c.args.line.now c.in-Ok-Some.parsed
    c.take.result c.requires is c.take.ensures
