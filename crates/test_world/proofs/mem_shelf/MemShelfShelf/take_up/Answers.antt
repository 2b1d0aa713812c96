use Rattle.std.proofs.Common.{rules, None, Some, ◌∙◌}
use Rattle.test_world.proofs.Places.{found}
use Rattle.test_world.proofs.mem_shelf.MemShelfShelf.take_up.Goals as goal

pub returns-in_default-clause-fails : goal.returns-in_default-clause-fails
returns-in_default-clause-fails c =
    let place = found c.args.name.now c.self.inside.texts.items None (rw c.deref-2.ensures.value at c.in_default.ensures) in
    search rules

pub invariant_of-self-2 : goal.invariant_of-self-2
invariant_of-self-2 c =
    let place = found c.args.name.now c.self.inside.texts.items (Some c.in-Some.place) (rw c.deref-2.ensures.value at c.in-Some.ensures) in
    search rules

pub returns-clause-fails : goal.returns-clause-fails
returns-clause-fails c =
    let place = found c.args.name.now c.self.inside.texts.items (Some c.in-Some.place) (rw c.deref-2.ensures.value at c.in-Some.ensures) in
    search rules

pub returns-clause-ok : goal.returns-clause-ok
returns-clause-ok c =
    let place = found c.args.name.now c.self.inside.texts.items (Some c.in-Some.place) (rw c.deref-2.ensures.value at c.in-Some.ensures) in
    search rules

pub returns-in_default-clause-succeeds : goal.returns-in_default-clause-succeeds
returns-in_default-clause-succeeds c =
    let place = found c.args.name.now c.self.inside.texts.items None (rw c.deref-2.ensures.value at c.in_default.ensures) in
    λ sound has. place.variant ∙ (rw (← c.self.view_is) at has)
