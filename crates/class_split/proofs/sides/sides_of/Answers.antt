use Rattle.std.proofs.Common.{◌≡◌, get_or, refl, sym, ◌<◌, arith, ◌∙◌, not, Bool, subst}
use Rattle.std.proofs.lemmas.List.Elements.{at_read}
use Rattle.lin_form.proofs.CallerLemmas.{length-IsInRanges}
use Rattle.lin_form.specs.declared.atom.Atom.{Atom}
use Rattle.class_split.specs.declared.node.Node.{Node}
use Rattle.class_split.specs.inside.Node.{IsSide}
use Rattle.class_split.proofs.Nodes.{IsNode-one, IsSide-same, IsSide-other, AreSameRegions-itself, at_width, one_truth}
use Rattle.class_split.proofs.sides.sides_of.Goals as goal

pub atom_holds-truth-requires : goal.atom_holds-truth-requires
atom_holds-truth-requires c = at_width c.args.atoms.now c.args.index c.index-atoms-index.result c.requires.index c.index-atoms-index.is c.requires.node.width ∙ length-IsInRanges c.args.node.region.part c.args.node.vector c.requires.node.here.inside

pub returns-in-None : goal.returns-in-None
returns-in-None c =
    let atoms = c.args.atoms.now in
    let i = c.args.index in
    let a = c.index-atoms-index.result in
    let at : (d : Atom) → get_or atoms i d ≡ a = at_read atoms (λ b. b ≡ a) i a c.requires.index c.index-atoms-index.is refl in
    let t = c.atom_holds-truth.result in
    let none = c.in-None.ensures in
    let next : Node = record { region = c.args.node.region; vector = c.args.node.vector; is_least = c.args.node.is_least; pattern = c.with_truth.result } in (
      IsNode-one atoms i c.args.node next a t (omega (arith, c.requires.index, c.requires.short)) at refl refl refl c.with_truth.ensures
          (one_truth c.args.node.region c.in_ok-region.region a t c.in_ok-region.ensures none) c.requires.node,
      AreSameRegions-itself c.args.node.region,
    )

pub returns : goal.returns
returns c =
    let atoms = c.args.atoms.now in
    let i = c.args.index in
    let a = c.index-atoms-index.result in
    let at : (d : Atom) → get_or atoms i d ≡ a = at_read atoms (λ b. b ≡ a) i a c.requires.index c.index-atoms-index.is refl in
    let t = c.atom_holds-truth.result in
    let few : i < 128 = omega (arith, c.requires.index, c.requires.short) in
    let found = c.in-Some.ensures in
    let one : Node = record { region = c.in_ok-restricted-in-Some.field-0; vector = c.args.node.vector; is_least = c.args.node.is_least; pattern = c.with_truth-in-Some.result } in
    let other : Node = record { region = c.in_ok-region.region; vector = c.in-Some.found.vector; is_least = c.in-Some.found.is_least; pattern = c.with_truth-in-Some-2.result } in
    let same = IsSide-same atoms i c.args.node one a t few at (sym c.atom_holds-truth.ensures) c.requires.node c.in_ok-restricted-in-Some.ensures refl refl c.with_truth-in-Some.ensures in
    let far = IsSide-other atoms i c.args.node other a (not t) c.in-Some.found few at c.requires.node c.in_ok-region.ensures found refl refl c.with_truth-in-Some-2.ensures in
    let P : Bool → Type 0 = λ b. IsSide atoms i c.args.node.region b one in
    let Q : Bool → Type 0 = λ b. IsSide atoms i c.args.node.region (not b) other in
    (subst P c.if-truth.false same, subst Q c.if-truth.false far)

pub returns-then-truth : goal.returns-then-truth
returns-then-truth c =
    let atoms = c.args.atoms.now in
    let i = c.args.index in
    let a = c.index-atoms-index.result in
    let at : (d : Atom) → get_or atoms i d ≡ a = at_read atoms (λ b. b ≡ a) i a c.requires.index c.index-atoms-index.is refl in
    let t = c.atom_holds-truth.result in
    let few : i < 128 = omega (arith, c.requires.index, c.requires.short) in
    let found = c.in-Some.ensures in
    let one : Node = record { region = c.in_ok-restricted-in-Some.field-0; vector = c.args.node.vector; is_least = c.args.node.is_least; pattern = c.with_truth-in-Some.result } in
    let other : Node = record { region = c.in_ok-region.region; vector = c.in-Some.found.vector; is_least = c.in-Some.found.is_least; pattern = c.with_truth-in-Some-2.result } in
    let same = IsSide-same atoms i c.args.node one a t few at (sym c.atom_holds-truth.ensures) c.requires.node c.in_ok-restricted-in-Some.ensures refl refl c.with_truth-in-Some.ensures in
    let far = IsSide-other atoms i c.args.node other a (not t) c.in-Some.found few at c.requires.node c.in_ok-region.ensures found refl refl c.with_truth-in-Some-2.ensures in
    let P : Bool → Type 0 = λ b. IsSide atoms i c.args.node.region b one in
    let Q : Bool → Type 0 = λ b. IsSide atoms i c.args.node.region (not b) other in
    (subst Q c.if-truth.true far, subst P c.if-truth.true same)
