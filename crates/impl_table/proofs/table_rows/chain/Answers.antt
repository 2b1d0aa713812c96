use Rattle.std.proofs.Common.{◌≡◌, ◌+◌, ◌-◌, ◌<◌, ◌∙◌, length, get_or, subst, arith}
use Rattle.std.proofs.lemmas.List.{length-set}
use Rattle.std.proofs.lemmas.List.Elements.{All-get_or}
use Rattle.std.proofs.lemmas.Option.{slice_get-get_or}
use Rattle.impl_table.specs.declared.table.Row.{Row}
use Rattle.impl_table.specs.inside.Chains.{AreChainedFrom}
use Rattle.impl_table.proofs.Chaining.{chained_before}
use Rattle.impl_table.proofs.table_rows.chain.Goals as goal

pub rows-preserved : goal.rows-preserved
rows-preserved c =
    let rows = c.args.rows.now in
    let i = c.rows.at - 1 in
    let row = get_or rows i c.index-rows-at.result in
    let within = c.rows.invariant.within in
    let inside : i < length rows = omega (arith, c.rows-test.true, within) in
    let one : c.rows.at ≡ i + 1 = omega (arith, c.rows-test.true) in
    let states = c.rows.invariant.states in
    let from : row.from < length c.args.firsts.now = All-get_or (λ (r : Row). r.from < length c.args.firsts.now) rows i c.index-rows-at.result
    inside c.requires.from in
    record {
      within = omega (arith, inside);
      states = length-set c.rows.firsts row.from i ∙ states;
      chained = chained_before rows i row c.rows.firsts c.rows.nexts (slice_get-get_or rows i c.index-rows-at.result inside) (omega (arith, from, states))
          (subst (λ n. AreChainedFrom rows n c.rows.firsts c.rows.nexts) one c.rows.invariant.chained);
    }
