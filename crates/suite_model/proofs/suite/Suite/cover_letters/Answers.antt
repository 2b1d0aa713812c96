use Rattle.std.proofs.Common.{◌≡◌, ◌≤◌, ◌∙◌, ap, sym, length, slice_get, Some}
use Rattle.std.proofs.lemmas.Option.{same_Some}
use Rattle.subject.specs.Suite.{SuiteParts}
use Rattle.suite_model.proofs.Reading.{element, fits, answered, still_made}
use Rattle.suite_model.proofs.suite.Suite.cover_letters.Goals as goal

here : (c : goal.After-as_slice) → slice_get c.args.self.now.cover c.args.index ≡ Some (c.as_slice.result.now)
here c = element c.self.inside.cover.items c.index.result.now c.args.index c.args.self.now.cover (ap (λ (p : SuiteParts). p.cover) c.self.view_is) c.requires.index c.index.ensures ∙ ap (λ x. Some x) (sym c.as_slice.ensures.value)

room : (c : goal.After-as_slice) → length c.as_slice.result.now ≤ length c.args.scratch.now.letters
room c = fits (λ w. length w ≤ length c.args.scratch.now.letters) c.args.self.now.cover c.args.index c.as_slice.result.now (here c) c.requires.made.cover

here_then : (c : goal.After-put_letters) → slice_get c.args.self.now.cover c.args.index ≡ Some (c.as_slice.result.now)
here_then c = element c.self.inside.cover.items c.index.result.now c.args.index c.args.self.now.cover (ap (λ (p : SuiteParts). p.cover) c.self.view_is) c.requires.index c.index.ensures ∙ ap (λ x. Some x) (sym c.as_slice.ensures.value)

room_then : (c : goal.After-put_letters) → length c.as_slice.result.now ≤ length c.args.scratch.now.letters
room_then c = fits (λ w. length w ≤ length c.args.scratch.now.letters) c.args.self.now.cover c.args.index c.as_slice.result.now (here_then c) c.requires.made.cover

pub put_letters-requires : goal.put_letters-requires
put_letters-requires c = room c

pub returns-clause-letters : goal.returns-clause-letters
returns-clause-letters c = λ w e. answered c.as_slice.result.now w _ _ _ (same_Some _ _ (sym (here_then c) ∙ e)) c.put_letters.ensures.count c.put_letters.ensures.letters

pub returns-clause-still_made : goal.returns-clause-still_made
returns-clause-still_made c = still_made c.args.self.now c.args.scratch.now c.put_letters.new.self c.as_slice.result.now c.requires.made (room_then c) c.put_letters.ensures.letters c.put_letters.ensures.room
