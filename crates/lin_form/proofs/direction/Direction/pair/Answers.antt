use Rattle.std.proofs.Common.{Some, None}
use Rattle.std.proofs.lemmas.Int.{to_z-of_z}
use Rattle.lin_form.proofs.Deciding.{computed_both}
use Rattle.lin_form.proofs.Truths.{if_atom, if_none, IsPairOver-made}
use Rattle.lin_form.proofs.direction.Direction.pair.Goals as goal

pub returns-in-Some-clause-atoms : goal.returns-in-Some-clause-atoms
returns-in-Some-clause-atoms c =
    let k = c.ranges.constant in
    let first = simp to_z-of_z at c.claim-first.ensures.first in
    let second = rw c.in-Some.is at (simp to_z-of_z at c.claim-first.ensures.second) in
    computed_both c.args.relation (record { coefficients = c.args.self.now; constant = c.args.constant })
    (Some c.claim-first.result.first.atom) (Some c.in-Some.literal.atom) c.claim-first.ensures.some first.atom
    (if_atom _ _ second)

pub returns-in-Some-clause-first : goal.returns-in-Some-clause-first
returns-in-Some-clause-first c = let k = c.ranges.constant in let first = simp to_z-of_z at c.claim-first.ensures.first in first.atom

pub returns-in-Some-clause-second : goal.returns-in-Some-clause-second
returns-in-Some-clause-second c = let k = c.ranges.constant in if_atom _ _ (rw c.in-Some.is at (simp to_z-of_z at c.claim-first.ensures.second))

pub returns-in-Some-clause-width : goal.returns-in-Some-clause-width
returns-in-Some-clause-width c =
    let k = c.ranges.constant in
    let first = simp to_z-of_z at c.claim-first.ensures.first in
    let second = rw c.in-Some.is at (simp to_z-of_z at c.claim-first.ensures.second) in
    IsPairOver-made c.args.relation (record { coefficients = c.args.self.now; constant = c.args.constant })
    (Some c.claim-first.result.first.atom) (Some c.in-Some.literal.atom) first.atom (if_atom _ _ second)

pub returns-in-None-clause-atoms : goal.returns-in-None-clause-atoms
returns-in-None-clause-atoms c =
    let k = c.ranges.constant in
    let first = simp to_z-of_z at c.claim-first.ensures.first in
    let second = rw c.in-None.is at (simp to_z-of_z at c.claim-first.ensures.second) in
    computed_both c.args.relation (record { coefficients = c.args.self.now; constant = c.args.constant })
    (Some c.claim-first.result.first.atom) None c.claim-first.ensures.some first.atom (if_none _ second)

pub returns-in-None-clause-first : goal.returns-in-None-clause-first
returns-in-None-clause-first c = let k = c.ranges.constant in let first = simp to_z-of_z at c.claim-first.ensures.first in first.atom

pub returns-in-None-clause-second : goal.returns-in-None-clause-second
returns-in-None-clause-second c = let k = c.ranges.constant in if_none _ (rw c.in-None.is at (simp to_z-of_z at c.claim-first.ensures.second))

pub returns-in-None-clause-width : goal.returns-in-None-clause-width
returns-in-None-clause-width c =
    let k = c.ranges.constant in
    let first = simp to_z-of_z at c.claim-first.ensures.first in
    let second = rw c.in-None.is at (simp to_z-of_z at c.claim-first.ensures.second) in
    IsPairOver-made c.args.relation (record { coefficients = c.args.self.now; constant = c.args.constant })
    (Some c.claim-first.result.first.atom) None first.atom (if_none _ second)
