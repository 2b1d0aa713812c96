use Rattle.std.proofs.Common.{ℤ, List, refl, subst}
use Rattle.text_lines.specs.Lines.{lines_of}
use Rattle.text_lines.specs.Reading.{Leads}
use Rattle.chart_syntax.specs.Words.{WordState, TakesVector}
use Rattle.chart_syntax.proofs.DecidingWords.{all_in_box}
use Rattle.chart_syntax.proofs.word.read_word.Goals as goal

pub returns-clause-read : goal.returns-clause-read
returns-clause-read c =
    let r = c.read_text.new.reader in
    let last : WordState = record { chart = r.chart.now; vectors = r.vectors.items } in
    let from : List (List ℤ) → WordState = λ vectors. record { chart = c.args.chart.now; vectors = vectors } in
    record {
      last = last;
      leads = subst (λ vectors. Leads TakesVector (from vectors) (lines_of c.args.text.now) last) c.new-2.ensures.items c.in-Ok.ensures.read;
      ended = refl;
      content = refl;
    }

pub returns-clause-inside : goal.returns-clause-inside
returns-clause-inside c =
    let r = c.read_text.new.reader in
    let last : WordState = record { chart = r.chart.now; vectors = r.vectors.items } in
    let from : List (List ℤ) → WordState = λ vectors. record { chart = c.args.chart.now; vectors = vectors } in
    all_in_box c.args.chart.now (lines_of c.args.text.now) last
    (subst (λ vectors. Leads TakesVector (from vectors) (lines_of c.args.text.now) last) c.new-2.ensures.items c.in-Ok.ensures.read)
