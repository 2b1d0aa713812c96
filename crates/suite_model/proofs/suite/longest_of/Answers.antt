use Rattle.std.proofs.Common.{◌≤◌, length, arith, Vec, ℕ}
use Rattle.std.specs.declared.alloc.Global.{Global}
use Rattle.std.proofs.lemmas.List.Elements.{All-map}
use Rattle.suite_model.proofs.Reading.{longest_more, all_taken}
use Rattle.suite_model.proofs.suite.longest_of.Goals as goal
use Rattle.suite_model.proofs.suite.longest_of.Goals.{then-len-most, else-len-most}

pub loop-word-preserved : goal.loop-word-preserved
loop-word-preserved c = longest_more (λ (w : Vec ℕ Global). length w.items) c.args.words.now c.loop-word.word-index c.word-item.result c.loop-word.most _ c.loop-word-test.true c.word-item.is c.loop-word.invariant
    (elim c.if-len-most.branch [ then-len-most w ↦ omega arith | else-len-most w ↦ omega arith ])
    (elim c.if-len-most.branch [ then-len-most w ↦ omega arith | else-len-most w ↦ omega arith ])

pub returns : goal.returns
returns c = All-map (λ w. length w ≤ c.loop-word.most) (λ (v : Vec ℕ Global). v.items) c.args.words.now (all_taken (λ (w : Vec ℕ Global). length w.items ≤ c.loop-word.most) c.args.words.now c.loop-word.word-index (omega arith) c.loop-word.invariant)
