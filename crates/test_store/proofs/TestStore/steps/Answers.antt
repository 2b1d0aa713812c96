use Rattle.std.proofs.Common.{◌∙◌, [], length, sym, ap}
use Rattle.word_pool.specs.Words.{word}
use Rattle.suite_model.proofs.CallerLemmas.{length-replies_from}
use Rattle.test_store.specs.Store.{Store}
use Rattle.test_store.proofs.TestStore.steps.Goals as goal

pub returns-clause-replies : goal.returns-clause-replies
returns-clause-replies c = c.length.ensures ∙ sym (length-replies_from c.self.inside.pool.words c.self.inside.replies.items [] (word c.self.inside.pool.words c.self.inside.at))
    ∙ ap (λ (s : Store). length s.now.replies) c.self.view_is
