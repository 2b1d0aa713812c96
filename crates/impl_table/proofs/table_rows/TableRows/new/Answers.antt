use Rattle.std.proofs.Common.{◌≡◌, length, List, ℕ, ◌++◌, take, drop, sym, subst, arith}
use Rattle.std.proofs.lemmas.List.{take_at}
use Rattle.impl_table.specs.inside.Chains.{AreChained, AreChainedFrom}
use Rattle.impl_table.proofs.Chaining.{all_chained}
use Rattle.impl_table.proofs.table_rows.TableRows.new.Goals as goal

pub invariant_of-result : goal.invariant_of-result
invariant_of-result c =
    let rows = c.args.rows in
    let firsts = c.chain.new.firsts in
    let nexts = c.chain.new.nexts in
    let states : length firsts ≡ c.args.states = omega (arith, c.chain.ensures.states, c.as_mut_slice.ensures.len, c.in_ok-firsts.ensures.len) in
    let chained : AreChainedFrom rows 0 firsts nexts = rw (c.as_slice.ensures) at c.chain.ensures.chained in
    let one_each : length nexts ≡ length rows = chained.one_each in
    let few : length firsts ≡ c.in_ok-firsts.firsts.len = omega (arith, states, c.in_ok-firsts.ensures.len) in
    let sizes : length nexts ≡ c.in_ok-nexts.nexts.len = omega (arith, one_each, c.in_ok-nexts.ensures.len, c.len.ensures) in
    let whole : AreChained rows firsts nexts = all_chained rows c.args.states firsts nexts c.requires.from states chained in
    subst (λ (l : List ℕ). AreChained rows l (take c.in_ok-nexts.nexts.len (nexts ++ drop (length nexts) c.in_ok-nexts.nexts.items)))
    (sym (take_at firsts (drop (length firsts) c.in_ok-firsts.firsts.items) c.in_ok-firsts.firsts.len few))
    (subst (λ (l : List ℕ). AreChained rows firsts l) (sym (take_at nexts (drop (length nexts) c.in_ok-nexts.nexts.items) c.in_ok-nexts.nexts.len sizes)) whole)
