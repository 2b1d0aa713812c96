use Rattle.std.proofs.Common.{List, false, sym, subst}
use Rattle.lin_form.specs.declared.form.Comparison.{Comparison}
use Rattle.text_lines.specs.Lines.{lines_of}
use Rattle.text_lines.specs.Reading.{Leads}
use Rattle.cut_syntax.specs.Cuts.{CutsState, TakesCut, AreOver}
use Rattle.cut_syntax.proofs.Keeping.{same_signature}
use Rattle.cut_syntax.proofs.read.read_cuts.Goals as goal

pub returns-clause-read : goal.returns-clause-read
returns-clause-read c =
    let r = c.read_text.new.reader in
    let last : CutsState = record { signature = r.signature.now; begun = r.begun; cuts = r.cuts.items } in
    let from : List Comparison → CutsState = λ cuts. record { signature = c.args.signature.now; begun = false; cuts = cuts } in
    record {
      last = last;
      leads = subst (λ cuts. Leads TakesCut (from cuts) (lines_of c.args.text.now) last) c.new-2.ensures.items c.in-Ok.ensures.read;
      ended = c.in-Ok.ensures.ended;
      content = sym c.from_vec.ensures;
    }

pub returns-clause-width : goal.returns-clause-width
returns-clause-width c =
    let r = c.read_text.new.reader in
    let last : CutsState = record { signature = r.signature.now; begun = r.begun; cuts = r.cuts.items } in
    let first : CutsState = record { signature = c.args.signature.now; begun = false; cuts = c.new-2.result.items } in
    let same = same_signature (lines_of c.args.text.now) first last c.in-Ok.ensures.read in
    subst (AreOver c.args.signature.now) (sym c.from_vec.ensures) (subst (λ s. AreOver s r.cuts.items) same c.in-Ok.ensures.kept.over)
