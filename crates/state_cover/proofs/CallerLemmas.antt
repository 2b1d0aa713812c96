-- Lemmas on a cover, for the crates above.
use Rattle.std.proofs.Common.{◌≡◌, ◌≢◌, ℕ, ◌<◌, List, [], ◌∷◌, length, get_or, subst, refl, sym, ◌∙◌, ◌⊎◌, inl, inr, Contains, arith}
use Rattle.std.proofs.lemmas.List.Elements.{All-get_or, All-nil}
use Rattle.fsm_core.specs.Machine.{Machine, IsWord, state_after}
use Rattle.word_pool.specs.Words.{word}
use Rattle.word_pool.specs.Order.{IsBefore}
use Rattle.suite_words.specs.Cover.{IsFirstOfItsKind}
use Rattle.state_cover.specs.Cover.{IsCover, LeadTogether}

module _ (m : Machine) (cover : List (List ℕ)) (c : IsCover m cover) where
  pub cover_kind : (k : ℕ) → k < length cover → IsFirstOfItsKind m.letters (LeadTogether m) (word cover k)
  cover_kind k h = c.least.only k [] h

  pub cover_words : (k : ℕ) → k < length cover → IsWord m (word cover k)
  cover_words k h = (cover_kind k h).letters

  -- the words of a cover lead to different states
  pub cover_differs : (i j : ℕ) → i < j → j < length cover → state_after m 0 (word cover i) ≢ state_after m 0 (word cover j)
  cover_differs i j less hj e =
      let hi : i < length cover = omega (arith, less, hj) in
      (cover_kind j hj).first (word cover i) (cover_words i hi) (c.least.ordered i j [] less hj) e

  -- the empty word is in a cover
  pub cover_empty : Contains cover []
  cover_empty = c.least.each [] (record { letters = All-nil (λ a. a < m.letters); first = λ u h b e. nothing_before u b })
    where
      nothing_before : (u : List ℕ) → IsBefore u [] → ⊥
      nothing_before u (inl h) = omega (arith, h)
      nothing_before u (inr h) = h.1
