use Rattle.std.proofs.Common.{◌≡◌, ◌∙◌, length, ap, subst, List}
use Rattle.fsm_core.specs.declared.breadth_first.Found.{Found}
use Rattle.fsm_core.specs.Search.{IsSearched}
use Rattle.state_cover.specs.inside.Entered.{AreNamed}
use Rattle.state_cover.proofs.Covering.{cover_all}
use Rattle.state_cover.proofs.cover.Goals as goal

pub enter_all-requires-clause-count : goal.enter_all-requires-clause-count
enter_all-requires-clause-count c = ap (λ (l : List Found). length l) c.as_slice.ensures.value ∙ c.in_ok-found.ensures.all.1 c.requires.reached

pub returns-clause-cover : goal.returns-clause-cover
returns-clause-cover c =
    let named = rw (c.as_slice.ensures.value) at c.in_ok-words.ensures.named in
    cover_all c.args.fsm.now c.in_ok-found.found.items c.in_ok-found.ensures.searched _ named.are_words
    (c.in_ok-found.ensures.all.1 c.requires.reached) c.requires.reached
