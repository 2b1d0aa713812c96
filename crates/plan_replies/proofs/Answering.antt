-- The tests of a pool with a plan's replies.
use Rattle.std.proofs.Common.{◌≡◌, ℕ, ◌-◌, ◌<◌, List, [], ◌∷◌, ◌++◌, length, map, refl, sym, ap, ◌∙◌, ℤ, append_assoc, length-append, arith}
use Rattle.std.proofs.lemmas.List.Elements.{All-head, All-tail}
use Rattle.std.proofs.lemmas.Option.{get_or_from_slice_get}
use Rattle.subject.specs.Meaning.{Meaning, answer_from}
use Rattle.subject.specs.Suite.{Test, in_vectors}
use Rattle.suite_model.specs.Pooled.{pooled_tests, replies_from, reply_to}
use Rattle.suite_model.proofs.CallerLemmas.{IsThere, prefix_in, not_first, reply_at}
use Rattle.word_pool.specs.Words.{word, AreIds, ArePooled}
use Rattle.plan_replies.specs.Replies.{AreReplies, answered, reply_of, state_of}
use Rattle.plan_replies.proofs.Numbers.{state_push}

module _ {S : Type 0} (m : Meaning S) (vs : List (List ℤ)) (ws : List (List ℕ)) (rs : List (List ℤ)) (pooled : ArePooled ws) (h : AreReplies m vs ws rs) where
  -- the replies to the letters after u are the plan's answer
  pub answers_are : (u v : List ℕ) → IsThere ws (u ++ v) → replies_from ws rs u v ≡ answer_from m (state_of m vs u) (in_vectors vs v)
  answers_are u [] there = refl
  answers_are u (a ∷ v) there =
      let whole : IsThere ws ((u ++ a ∷ []) ++ v) = record { place = there.place; inside = there.inside; is = there.is ∙ sym (append_assoc u (a ∷ []) v) } in
      let here = prefix_in ws pooled (u ++ a ∷ []) v whole in
      let some : 0 < here.place = not_first ws pooled here.place (u ++ a ∷ []) here.is (omega (arith, length-append u (a ∷ []))) in
      let first : reply_to ws rs (u ++ a ∷ []) ≡ reply_of m vs u a =
      reply_at ws rs pooled (u ++ a ∷ []) here.place here.inside here.is ∙ get_or_from_slice_get rs (here.place - 1) _ [] (h.each here.place u a some here.inside here.is) in
      ap (λ x. x ∷ replies_from ws rs (u ++ a ∷ []) v) first
      ∙ ap (λ x. reply_of m vs u a ∷ x) (answers_are (u ++ a ∷ []) v whole ∙ ap (λ s. answer_from m s (in_vectors vs v)) (state_push m vs u a))

  pub tests_are : (ids : List ℕ) → AreIds ws ids → pooled_tests ws rs ids ≡ map (λ i. answered m vs (word ws i)) ids
  tests_are [] all = refl
  tests_are (i ∷ ids) all =
      let there : IsThere ws ([] ++ word ws i) = record { place = i; inside = All-head (λ i. i < length ws) i ids all; is = refl } in
      ap (λ x. let t : Test = record { letters = word ws i; replies = x } in t ∷ pooled_tests ws rs ids) (answers_are [] (word ws i) there)
      ∙ ap (λ x. answered m vs (word ws i) ∷ x) (tests_are ids (All-tail (λ i. i < length ws) i ids all))
