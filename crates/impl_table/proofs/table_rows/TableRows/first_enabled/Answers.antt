use Rattle.std.proofs.Common.{◌∙◌, length, ap, sym, arith}
use Rattle.impl_table.proofs.Chaining.{search_ends, search_goes_on, next_of_state, next_behind}
use Rattle.impl_table.proofs.table_rows.TableRows.first_enabled.Goals as goal

pub returns-then-holds : goal.returns-then-holds
returns-then-holds c =
    search_ends c.as_slice-rows.result.now c.args.self.now c.self.inside.firsts.items c.self.inside.nexts.items c.args.state c.rows.at
    c.index-rows-at.result c.args.vector.now
    (c.as_slice-rows.ensures ∙ c.self.view_is) c.rows-test.true c.index-rows-at.is c.rows.invariant.of_state c.rows.invariant.rest
    (sym c.holds.ensures ∙ c.if-holds.true)

pub rows-smaller : goal.rows-smaller
rows-smaller c =
    let seen = c.as_slice-rows.ensures ∙ c.self.view_is in
    let behind = next_behind c.as_slice-rows.result.now c.args.self.now c.self.inside.firsts.items c.self.inside.nexts.items c.args.state
    c.rows.at c.index-rows-at.result c.args.vector.now
    seen c.rows-test.true c.index-rows-at.is c.rows.invariant.of_state c.rows.invariant.rest c.index.result.now
    (rw (c.self.view_is) at c.self.invariant) c.index.ensures in
    omega (arith, behind, c.rows-test.true, ap length seen)

pub rows-preserved : goal.rows-preserved
rows-preserved c =
    let seen = c.as_slice-rows.ensures ∙ c.self.view_is in
    let chained = rw (c.self.view_is) at c.self.invariant in
    record {
      rest = search_goes_on c.as_slice-rows.result.now c.args.self.now c.self.inside.firsts.items c.self.inside.nexts.items c.args.state c.rows.at
          c.index-rows-at.result c.args.vector.now
          seen c.rows-test.true c.index-rows-at.is c.rows.invariant.of_state c.rows.invariant.rest c.index.result.now chained c.index.ensures
          (sym c.holds.ensures ∙ c.if-holds.false);
      of_state = next_of_state c.as_slice-rows.result.now c.args.self.now c.self.inside.firsts.items c.self.inside.nexts.items c.args.state
          c.rows.at c.index-rows-at.result c.args.vector.now
          seen c.rows-test.true c.index-rows-at.is c.rows.invariant.of_state c.rows.invariant.rest c.index.result.now chained c.index.ensures;
    }
