use Rattle.std.proofs.Common.{◌≡◌, ◌++◌, ◌≤◌, length, map, ap, subst, sym, ◌∙◌}
use Rattle.std.specs.List.{IsDistinct}
use Rattle.std.proofs.lemmas.List.{append-nil, length-map}
use Rattle.std.proofs.lemmas.Map.Iter.{rest_all}
use Rattle.lin_form.specs.Atom.{inequality_of}
use Rattle.lin_form.specs.SameAtom.{same_atom}
use Rattle.lin_form.specs.declared.atom.Atom.{Atom}
use Rattle.guard_atoms.proofs.Finding.{are_atoms}
use Rattle.guard_atoms.proofs.found.Found.into_atoms.Goals as goal
use Rattle.guard_atoms.proofs.found.Found.into_atoms.Goals.{In-None}

-- all atoms were put into the list
whole : (c : In-None) → c.loop-atom.list.items ≡ c.self.inside.atoms.keys
whole c =
    let none = rest_all (λ (a : Atom). a) c.loop-atom.atom-iterator c.next.new.self c.next.result c.in-None.is c.next.ensures.steps in
    sym (append-nil c.loop-atom.list.items) ∙ ap (λ l. c.loop-atom.list.items ++ l) (sym none) ∙ c.loop-atom.invariant ∙ c.into_iter-atom-iterator.ensures.into_iter_gives.0

pub from_list-requires : goal.from_list-requires
from_list-requires c =
    let all = whole (goal.at.from_list-requires c).In-None in
    let counted : length c.args.self ≡ length c.self.inside.atoms.keys = ap length (sym c.self.view_is) ∙ length-map c.self.inside.atoms.keys inequality_of in
    are_atoms c.loop-atom.list.items (subst (IsDistinct same_atom) (sym all) c.self.invariant) (subst (λ n. n ≤ 128) (counted ∙ ap length (sym all)) c.requires)

pub returns : goal.returns
returns c = ap (map inequality_of) (c.from_list.ensures ∙ whole (goal.at.returns c).In-None) ∙ c.self.view_is
