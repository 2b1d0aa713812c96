use Rattle.std.proofs.Common.{◌≡◌, ℕ, ◌+◌, ◌<◌, ◌∷◌, [], ◌++◌, List, length, get_or, take, map, refl, ◌∙◌, arith}
use Rattle.std.proofs.lemmas.List.{length-map, map-append, take_more, take_all, get_or_read}
use Rattle.std.proofs.lemmas.List.Elements.{All-get_or, All-push}
use Rattle.fsm_core.specs.Machine.{IsWord, state_after}
use Rattle.word_pool.specs.Words.{word}
use Rattle.word_pool.specs.Words.{words_at}
use Rattle.word_pool.proofs.CallerLemmas.{word_at}
use Rattle.charset.proofs.states_of.Goals as goal
use Rattle.charset.proofs.states_of.Goals.{After-id-item}

item_is : (c : After-id-item) → c.id-item.result ≡ get_or c.args.ids.now c.loop-id.id-index 0
item_is c = get_or_read c.args.ids.now c.loop-id.id-index c.id-item.result (omega (arith, c.loop-id-test.true)) c.id-item.is 0

pub state_of-requires-clause-word : goal.state_of-requires-clause-word
state_of-requires-clause-word c =
    let ws = c.args.pool.now.words in
    let ids : List ℕ = c.args.ids.now in
    let h : c.loop-id.id-index < length ids = omega (arith, c.loop-id-test.true) in
    let inside : c.loop-id.id-index < length (words_at ws ids) = omega (arith, h, length-map ids (word ws)) in
    rw (item_is (goal.at.state_of-requires-clause-word c).After-id-item) (rw (word_at ws ids c.loop-id.id-index h) at
    (All-get_or (IsWord c.args.fsm.now) (words_at ws ids) c.loop-id.id-index [] inside c.requires.words))

-- one state more
states_more : (step : List ℕ → ℕ) (ws : List (List ℕ)) (ids : List ℕ) (at : ℕ) (states : List ℕ) → at < length ids →
    states ≡ map step (words_at ws (take at ids)) →
    (id s : ℕ) → id ≡ get_or ids at 0 → s ≡ step (word ws id) → states ++ s ∷ [] ≡ map step (words_at ws (take (at + 1) ids))
states_more step ws ids at states h e id s is s_is =
    rw (
      take_more ids at 0 h,
      map-append (word ws) (take at ids) (get_or ids at 0 ∷ []),
      map-append step
          (words_at ws (take at ids)) (word ws (get_or ids at 0) ∷ []),
      ← e,
      ← is,
      ← s_is,
    ) refl

pub loop-id-preserved : goal.loop-id-preserved
loop-id-preserved c =
    let d = (goal.at.loop-id-preserved c).After-id-item in
    record {
      states = c.in_ok-push.ensures.items ∙ states_more (state_after c.args.fsm.now 0) c.args.pool.now.words
          c.args.ids.now c.loop-id.id-index c.loop-id.states.items
          (omega (arith, c.loop-id-test.true)) c.loop-id.invariant.states c.id-item.result c.in_ok-state_of.field-0 (item_is d) c.in_ok-state_of.ensures.state;
      inside = rw (c.in_ok-push.ensures.items) (All-push (λ s. s < c.args.fsm.now.states) c.loop-id.states.items
          c.in_ok-state_of.field-0 c.loop-id.invariant.inside c.in_ok-state_of.ensures.inside);
    }

pub returns-clause-states : goal.returns-clause-states
returns-clause-states c = rw (take_all c.loop-id.id-index c.args.ids.now (omega (arith, c.loop-id-test.false))) at c.loop-id.invariant.states
