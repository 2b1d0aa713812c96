use Rattle.std.proofs.Common.{◌≡◌, length, map, ap, subst, ◌∙◌, ◌<◌, ◌≤◌, sym}
use Rattle.std.proofs.lemmas.List.{length-map}
use Rattle.lin_form.specs.Atom.{inequality_of}
use Rattle.guard_atoms.specs.Atoms.{add}
use Rattle.guard_atoms.proofs.Finding.{inserted}
use Rattle.guard_atoms.proofs.found.Found.add.Goals as goal
use Rattle.guard_atoms.proofs.found.Found.add.Goals.{After-len}

-- the atoms after it was put in
added : (c : After-len) → map inequality_of c.insert.new.self.keys ≡ add c.args.self.now (inequality_of c.args.atom)
added c = ap (map inequality_of) c.in-Ok.ensures.keys ∙ inserted c.self.inside.atoms.keys c.args.atom ∙ ap (λ l. add l (inequality_of c.args.atom)) c.self.view_is

counted : (c : After-len) → length (map inequality_of c.insert.new.self.keys) ≡ c.len.result
counted c = length-map c.insert.new.self.keys inequality_of ∙ sym c.len.ensures.len

pub returns-then-len-gt-MOST : goal.returns-then-len-gt-MOST
returns-then-len-gt-MOST c =
    let d = (goal.at.returns-then-len-gt-MOST c).After-len in
    subst (λ n. 128 < n) (sym (counted d) ∙ ap length (added d)) c.if-len-gt-MOST.true

pub returns : goal.returns
returns c =
    let d = (goal.at.returns c).After-len in
    (added d, λ few. subst (λ n. n ≤ 128) (sym (counted d)) c.if-len-gt-MOST.false)
