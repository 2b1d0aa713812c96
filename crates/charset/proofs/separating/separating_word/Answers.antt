use Rattle.std.proofs.Common.{◌≡◌, ◌+◌, ◌-◌, arith}
use Rattle.charset.specs.inside.Levels.{AreAlikeUpTo, IsGrouping}
use Rattle.charset.proofs.Apart.{IsSeparating, separating_more, some_letter}
use Rattle.charset.proofs.separating.separating_word.Goals as goal
use Rattle.charset.proofs.separating.separating_word.Goals.{After-level_of}

-- the word so far, where the level is one more
before : (c : After-level_of) → IsSeparating c.args.fsm.now c.args.state c.args.other c.loop-level.first
    c.loop-level.second (c.loop-level.level - 1 + 1) c.loop-level.word.items
before c =
    let one : c.loop-level.level ≡ c.loop-level.level - 1 + 1 = omega (arith, c.loop-level-test.true) in
    rw (one) at c.loop-level.invariant.separating

grouping : (c : After-level_of) → IsGrouping c.args.fsm.now.states c.level_of.result.now (AreAlikeUpTo c.args.fsm.now (c.loop-level.level - 1))
grouping c = rw (c.level_of.ensures.names) (c.requires.levels.level (c.loop-level.level - 1) (omega (arith, c.loop-level.invariant.upto)))

pub parting_letter-letter-requires-clause-some : goal.parting_letter-letter-requires-clause-some
parting_letter-letter-requires-clause-some c =
    let i = before c in
    some_letter c.args.fsm.now c.level_of.ensures.sound c.level_of.result.now (c.loop-level.level - 1) (grouping c) c.loop-level.first c.loop-level.second
    i.first_inside i.second_inside (i.parts (omega arith))

pub loop-level-preserved : goal.loop-level-preserved
loop-level-preserved c =
    let d = (goal.at.loop-level-preserved c).After-level_of in
    let m = c.args.fsm.now in
    let a = c.parting_letter-letter.result in
    let more = separating_more m c.level_of.ensures.sound c.level_of.result.now (c.loop-level.level - 1) (grouping d)
    c.args.state c.args.other c.loop-level.first c.loop-level.second
    c.loop-level.word.items (before d) a c.parting_letter-letter.ensures.letter c.parting_letter-letter.ensures.apart c.parting_letter-letter.ensures.first in
    record {
      separating = rw (c.in_ok-push.ensures.items, c.step-first.ensures.row, c.step-second.ensures.row) more;
      upto = omega (arith, c.loop-level.invariant.upto);
    }
