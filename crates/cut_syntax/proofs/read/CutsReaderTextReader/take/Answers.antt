use Rattle.std.proofs.Common.{rules, ◌≡◌, true, [], ◌∷◌, ◌++◌, sym, subst}
use Rattle.std.specs.Prelude.{Ok}
use Rattle.line_forms.specs.CutForms.{IsCutsForm}
use Rattle.line_forms.specs.Parsing.{AreParsed, IsParsed}
use Rattle.cut_syntax.specs.Cuts.{CutsState}
use Rattle.cut_syntax.specs.inside.Lines.{IsOver, AreRead}
use Rattle.cut_syntax.proofs.Keeping.{one_more}
use Rattle.cut_syntax.proofs.read.CutsReaderTextReader.take.Goals as goal

pub added-requires : goal.added-requires
added-requires c = c.small_parse.ensures c.args.line.now c.in-Ok-Some.parsed
    (subst (λ parsed. IsParsed (AreParsed IsCutsForm) c.args.line.now (Ok parsed)) c.in-Ok-Some.field-0-is c.in-Ok-Some.ensures)

pub returns-clause-kept : goal.returns-clause-kept
returns-clause-kept c =
    let old = c.args.self.now in
    let s : CutsState = record { signature = old.signature.now; begun = old.begun; cuts = old.cuts.items } in
    let over = subst (IsOver old.signature.now) c.in-Some.is c.in-Ok.ensures.over in
    let pushed : c.push.new.self.items ≡ old.cuts.items ++ c.in-Some.cut ∷ [] = search rules in
    subst (λ cuts. AreRead (record { signature = old.signature.now; begun = true; cuts = cuts })) (sym pushed)
    (one_more s c.in-Some.cut c.requires over.0 over.1)
