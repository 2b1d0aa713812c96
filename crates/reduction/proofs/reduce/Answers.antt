use Rattle.std.proofs.Common.{◌∙◌, ap}
use Rattle.fsm_core.specs.Machine.{machine_of}
use Rattle.reduction.specs.Quotient.{AreRepresentatives, AreRowsOf}
use Rattle.reduction.proofs.Quotients.{IsReduction, quotient_sound, reduction}
use Rattle.reduction.proofs.reduce.Goals as goal

representatives : (c : goal.After-letters) → AreRepresentatives c.in_ok-blocks.blocks.items c.in_ok-representatives.representatives.items
representatives c = rw (c.as_slice.ensures.value) at c.in_ok-representatives.ensures

rows : (c : goal.After-letters) → AreRowsOf c.args.fsm.now c.in_ok-blocks.blocks.items c.in_ok-representatives.representatives.items c.in_ok-rows.rows
rows c = rw (c.as_slice-2.ensures.value, c.as_slice-3.ensures.value) at c.in_ok-rows.ensures

pub from_rows-requires : goal.from_rows-requires
from_rows-requires c =
    rw (c.letters.ensures.count, c.in_ok-replies.ensures)
    (quotient_sound c.args.fsm.now c.letters.ensures.sound c.in_ok-blocks.blocks.items c.in_ok-representatives.representatives.items
    c.in_ok-blocks.ensures.blocks c.in_ok-blocks.ensures.stable (representatives c) c.in_ok-rows.rows (rows c))

reduction_is : (c : goal.After-drop-representatives-2) → IsReduction c.args.fsm.now c.from_rows.result c.in_ok-blocks.blocks.items
reduction_is c =
    let m = c.args.fsm.now in
    let p : AreRepresentatives c.in_ok-blocks.blocks.items c.in_ok-representatives.representatives.items =
    rw (c.as_slice.ensures.value) at c.in_ok-representatives.ensures in
    let o : AreRowsOf m c.in_ok-blocks.blocks.items c.in_ok-representatives.representatives.items c.in_ok-rows.rows =
    rw (c.as_slice-2.ensures.value, c.as_slice-3.ensures.value) at c.in_ok-rows.ensures in
    reduction m c.letters.ensures.sound c.in_ok-blocks.blocks.items c.in_ok-representatives.representatives.items
    c.in_ok-blocks.ensures.blocks c.in_ok-blocks.ensures.stable p c.in_ok-rows.rows o c.from_rows.result
    (c.from_rows.ensures.made ∙
    (ap (λ k. machine_of k c.in_ok-rows.rows c.in_ok-replies.replies.items) c.letters.ensures.count ∙
    ap (λ l. machine_of m.letters c.in_ok-rows.rows l) c.in_ok-replies.ensures))

pub returns : goal.returns
returns c =
    let r = reduction_is c in
    record {
      answers = r.answers;
      joined = r.joined;
      reduced = r.reduced;
      reached = r.reached c.requires.reached;
      machine = c.from_rows.ensures.sound;
      letters = ap (λ m. m.letters) c.from_rows.ensures.made ∙ c.letters.ensures.count;
      replies = ap (λ m. m.replies) c.from_rows.ensures.made ∙ c.in_ok-replies.ensures;
      start = r.start;
      each = c.in_ok-blocks.ensures.blocks.size;
      within = r.within;
      onto = r.onto;
    }
