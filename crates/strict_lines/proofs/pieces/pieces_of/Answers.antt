use Rattle.std.proofs.Common.{◌≡◌, ◌≤◌, ◌+◌, length, sym, subst, arith, map}
use Rattle.strict_lines.specs.Lines.{line_tokens}
use Rattle.strict_lines.specs.declared.pieces.Piece.{Piece}
use Rattle.std.specs.Prelude.{List}
use Rattle.strict_lines.specs.Pieces.{said}
use Rattle.strict_lines.proofs.Cutting.{AreSoFar, pieces_all, pieces_more}
use Rattle.strict_lines.proofs.pieces.pieces_of.Goals as goal

pub returns-then-end-line : goal.returns-then-end-line
returns-then-end-line c =
    subst (λ (x : List Piece). map said x ≡ line_tokens c.args.line.now) (sym c.in_ok-push.ensures.items)
    (pieces_all c.args.line.now c.loop-from.from c.next_byte-end.result c.loop-from.pieces.items c.piece_of.result c.next_byte-end.ensures c.if-end-line.true c.piece_of.ensures c.loop-from.invariant.1)

pub loop-from-preserved : goal.loop-from-preserved
loop-from-preserved c =
    let up : c.next_byte-end.result ≤ length c.args.line.now = c.next_byte-end.ensures.upto in (
      omega (arith, c.if-end-line.false, up),
      subst (λ x. AreSoFar c.args.line.now (c.next_byte-end.result + 1) x) (sym c.in_ok-push.ensures.items)
          (pieces_more c.args.line.now c.loop-from.from c.next_byte-end.result c.loop-from.pieces.items c.piece_of.result c.next_byte-end.ensures (omega (arith, c.if-end-line.false, up)) c.piece_of.ensures c.loop-from.invariant.1),
    )
