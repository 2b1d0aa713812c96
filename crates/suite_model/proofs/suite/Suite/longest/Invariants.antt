use Rattle.std.proofs.Common.{◌≤◌, ◌<◌, ◌≡◌, ℕ, length, take, get_or}
use Rattle.std.specs.List.{All}
use Rattle.word_pool.specs.Words.{word}
use Rattle.suite_model.proofs.suite.Suite.longest.Given as goal

-- no test so far is longer, and one of all is as long
abbrev pub invariant-loop-test : goal.invariant-loop-test
invariant-loop-test l = record {
  bounded : All (λ i. length (word l.self-inside.pool.words i) ≤ l.most) (take l.test-index l.self-inside.tests.items);
  reached : (k : ℕ) × ((k < length l.self-inside.tests.items) × (length (word l.self-inside.pool.words (get_or l.self-inside.tests.items k 0)) ≡ l.most));
}
