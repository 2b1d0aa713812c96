use Rattle.std.proofs.Common.{◌≡◌, Bool, true, false, not, refl, sym, arith}
use Rattle.std.proofs.Math.Bool.{beq}
use Rattle.std.proofs.lemmas.Bool.{false≢true}
use Rattle.class_split.proofs.Places.{not_before_same, tells_before}
use Rattle.class_split.proofs.class_number.is_before.Goals as goal

differ : (a b : Bool) → not (beq a b) ≡ true → a ≡ b → ⊥
differ true true h e = false≢true h
differ true false h e = false≢true (sym e)
differ false true h e = false≢true e
differ false false h e = false≢true h

pub returns-then-one-index : goal.returns-then-one-index
returns-then-one-index c = tells_before c.args.one.now c.args.other.now c.loop-index.index _ c.loop-index-test.true c.requires c.loop-index.invariant (λ e. differ _ _ c.if-one-index.true e) refl

pub returns : goal.returns
returns c = not_before_same c.args.one.now c.args.other.now c.requires (λ k l. c.loop-index.invariant k (omega (arith, l, c.loop-index-test.false)))
