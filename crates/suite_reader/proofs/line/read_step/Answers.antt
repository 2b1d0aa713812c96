use Rattle.std.proofs.Common.{◌≡◌, ◌<◌, ◌+◌, ◌-◌, suc, ℤ, List, ◌∙◌, ◌++◌, map, ap, sym, arith, length, take, drop, subst, false, None, length-drop}
use Rattle.std.proofs.lemmas.List.{take_rest}
use Rattle.strict_lines.specs.declared.pieces.Piece.{Piece}
use Rattle.strict_lines.specs.Pieces.{said}
use Rattle.suite_reading.specs.inside.Said.{values}
use Rattle.suite_reader.specs.inside.Words.{leading}
use Rattle.suite_reader.proofs.Leading.{step_none, step_other, step_short, values_none, is_step}
use Rattle.suite_reader.proofs.line.read_step.Goals as goal

pub returns-then-count-pieces : goal.returns-then-count-pieces
returns-then-count-pieces c = step_none c.args.pieces.now c.in_ok-count.count c.in_ok-count.ensures.count c.if-count-pieces.true

pub returns-then-not-is_slash : goal.returns-then-not-is_slash
returns-then-not-is_slash c = step_other c.args.pieces.now c.in_ok-count.count _ c.in_ok-count.ensures.count (omega (arith, c.in_ok-count.ensures.upto, c.if-count-pieces.false)) (sym c.if-not-is_slash.ensures)

pub returns-then-replied-reply : goal.returns-then-replied-reply
returns-then-replied-reply c =
    let inside : c.in_ok-count.count < length c.args.pieces.now = omega (arith, c.in_ok-count.ensures.upto, c.if-count-pieces.false) in
    let reply : List Piece = take (length c.args.pieces.now - (c.in_ok-count.count + 1)) (drop (c.in_ok-count.count + 1) c.args.pieces.now) in
    let same : reply ≡ drop (suc c.in_ok-count.count) c.args.pieces.now = take_rest c.args.pieces.now (c.in_ok-count.count + 1) ∙ ap (λ n. drop n c.args.pieces.now) (let e : c.in_ok-count.count + 1 ≡ suc c.in_ok-count.count = omega arith in e) in
    step_short c.args.pieces.now c.in_ok-count.count c.in_ok-count.ensures.count inside
    (subst (λ (x : List Piece). values (map said x) ≡ None) same (values_none reply (omega (arith, c.in_ok-replied.ensures.count, c.if-replied-reply.true))))

pub returns : goal.returns
returns c =
    let inside : c.in_ok-count.count < length c.args.pieces.now = omega (arith, c.in_ok-count.ensures.upto, c.if-count-pieces.false) in
    let reply : List Piece = take (length c.args.pieces.now - (c.in_ok-count.count + 1)) (drop (c.in_ok-count.count + 1) c.args.pieces.now) in
    let same : reply ≡ drop (suc c.in_ok-count.count) c.args.pieces.now = take_rest c.args.pieces.now (c.in_ok-count.count + 1) ∙ ap (λ n. drop n c.args.pieces.now) (let e : c.in_ok-count.count + 1 ≡ suc c.in_ok-count.count = omega arith in e) in
    is_step c.args.pieces.now reply c.in_ok-count.count c.in_ok-replied.replied _ c.push_leading.new.numbers.items c.push_leading-2.new.numbers.items c.in_ok-count.ensures.count inside (sym c.if-not-is_slash.ensures) same
    (c.in_ok-count.ensures.numbers ∙ ap (λ (x : List ℤ). x ++ leading (map said c.args.pieces.now)) c.clear.ensures.items)
    c.in_ok-replied.ensures.count c.in_ok-replied.ensures.upto c.if-replied-reply.false c.in_ok-replied.ensures.numbers
