use Rattle.std.proofs.Common.{◌≡◌, ℕ, ◌<◌, ◌≤◌, [], length, take, get_or, slice_get, Some}
use Rattle.word_pool.specs.Words.{word}
use Rattle.suite_model.specs.Pooled.{replies_from}
use Rattle.suite_model.proofs.scratch.put_replies.Given as goal

-- the replies from a place on are put, and the word is the prefix before it
abbrev pub invariant-prefixes : goal.invariant-prefixes
invariant-prefixes l = record {
  within : l.place ≤ length (word l.pool.words l.fn.id);
  room : length l.into ≡ length l.fn.into;
  at : slice_get l.pool.words l.at ≡ Some (take l.place (word l.pool.words l.fn.id));
  put : (k : ℕ) → l.place ≤ k → k < length (word l.pool.words l.fn.id) → get_or l.into k [] ≡ get_or (replies_from l.pool.words l.replies [] (word l.pool.words l.fn.id)) k [];
}

abbrev pub decreases-prefixes : goal.decreases-prefixes
decreases-prefixes l = l.place
