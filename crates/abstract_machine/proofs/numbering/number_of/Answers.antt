use Rattle.abstract_machine.proofs.Keys.{numbered_found, numbered_near}
use Rattle.abstract_machine.proofs.numbering.number_of.Goals as goal

pub returns-in-Some-clause-numbered : goal.returns-in-Some-clause-numbered
returns-in-Some-clause-numbered g c same = numbered_near g.K.PartialEq.eq same c.args.keys.now.keys c.args.key.now c.in-Some.place
    (rw (c.as_slice.ensures.keys) at c.in-Some.ensures)

pub returns-clause-numbered : goal.returns-clause-numbered
returns-clause-numbered g c same =
    let found = c.in_ok-found.ensures.stored in
    numbered_found g.K.PartialEq.eq same c.args.keys.now.keys c.args.key.now c.insert_full.new.self.keys c.in_ok-found.found.0
    c.in_ok-found.ensures.keys c.in_ok-found.ensures.index (found.0, (found.1, found.2))
