use Rattle.std.proofs.Common.{subst, sym, ◌∙◌, refl, ◌≡◌, Bool, true, false, not}
use Rattle.std.proofs.Math.Bool.{beq}
use Rattle.std.proofs.lemmas.List.{take_all}
use Rattle.std.proofs.lemmas.List.Elements.{All-more}
use Rattle.lin_form.specs.Atom.{AreAsSaid, IsAsSaid}
use Rattle.lin_form.specs.declared.literal.Literal.{Literal}
use Rattle.lin_form.proofs.truth.all_as_said.Goals as goal

same : (a b : Bool) → not (beq a b) ≡ false → a ≡ b
same true true e = refl
same true false e = e
same false true e = sym e
same false false e = refl

pub loop-literal-preserved : goal.loop-literal-preserved
loop-literal-preserved c =
    let P : Literal → Type 0 = λ literal. IsAsSaid literal c.args.vector.now in
    let here : P c.literal-item.result = sym c.atom_holds.ensures ∙ same _ _ c.if-atom_holds-literal.false in
    All-more P c.args.literals.now c.loop-literal.literal-index c.literal-item.result c.loop-literal-test.true
    c.loop-literal.invariant (subst P c.literal-item.is here)

pub returns : goal.returns
returns c = (
  λ _. subst (λ literals. AreAsSaid literals c.args.vector.now)
      (take_all c.loop-literal.literal-index c.args.literals.now c.loop-literal-test.false) c.loop-literal.invariant,
  λ _. refl,
)
