use Rattle.std.proofs.Common.{◌≡◌, ◌≤◌, ◌∙◌, ap, sym, length, slice_get, Some}
use Rattle.std.proofs.lemmas.Option.{same_Some}
use Rattle.word_pool.specs.Words.{word}
use Rattle.subject.specs.Suite.{SuiteParts, Test}
use Rattle.suite_model.specs.Pooled.{pooled_test}
use Rattle.suite_model.proofs.Reading.{test_here, fits, answered, still_made}
use Rattle.suite_model.proofs.suite.Suite.test_letters.Goals as goal

here : (c : goal.After-put_word-arg-1) → slice_get c.args.self.now.tests c.args.test ≡ Some (pooled_test c.self.inside.pool.words c.self.inside.replies (word c.self.inside.pool.words c.index-id.result.now))
here c = test_here c.self.inside.pool.words c.self.inside.replies c.self.inside.tests.items c.args.self.now.tests c.args.test c.index-id.result.now (ap (λ (p : SuiteParts). p.tests) c.self.view_is) c.requires.test c.index-id.ensures

room : (c : goal.After-put_word-arg-1) → length (word c.self.inside.pool.words c.index-id.result.now) ≤ length c.args.scratch.now.letters
room c = fits (λ (t : Test). length t.letters ≤ length c.args.scratch.now.letters) c.args.self.now.tests c.args.test _ (here c) c.requires.made.tests

here_then : (c : goal.After-put_word) → slice_get c.args.self.now.tests c.args.test ≡ Some (pooled_test c.self.inside.pool.words c.self.inside.replies (word c.self.inside.pool.words c.index-id.result.now))
here_then c = test_here c.self.inside.pool.words c.self.inside.replies c.self.inside.tests.items c.args.self.now.tests c.args.test c.index-id.result.now (ap (λ (p : SuiteParts). p.tests) c.self.view_is) c.requires.test c.index-id.ensures

room_then : (c : goal.After-put_word) → length (word c.self.inside.pool.words c.index-id.result.now) ≤ length c.args.scratch.now.letters
room_then c = fits (λ (t : Test). length t.letters ≤ length c.args.scratch.now.letters) c.args.self.now.tests c.args.test _ (here_then c) c.requires.made.tests

pub put_word-requires-clause-room : goal.put_word-requires-clause-room
put_word-requires-clause-room c = room c

pub returns-clause-letters : goal.returns-clause-letters
returns-clause-letters c = λ t e. answered (word c.self.inside.pool.words c.index-id.result.now) t.letters _ _ _ (ap (λ (t : Test). t.letters) (same_Some _ _ (sym (here_then c) ∙ e))) c.put_word.ensures.count c.put_word.ensures.letters

pub returns-clause-still_made : goal.returns-clause-still_made
returns-clause-still_made c = still_made c.args.self.now c.args.scratch.now c.put_word.new.self (word c.self.inside.pool.words c.index-id.result.now) c.requires.made (room_then c) c.put_word.ensures.letters c.put_word.ensures.kept_room
