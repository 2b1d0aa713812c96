-- Lemmas on machines, for the crates above too: numbers stay in range, and equal answers have equal numbers.
use Rattle.std.proofs.Common.{◌≡◌, ℕ, ◌+◌, ◌*◌, ◌<◌, List, [], ◌∷◌, length, refl, arith}
use Rattle.std.proofs.lemmas.Nat.{mul-add-lt}
use Rattle.std.proofs.lemmas.List.Elements.{All-get_or, All-head, All-tail}
use Rattle.fsm_core.specs.Machine.{Machine, IsMachine, IsWord, next, number, reply_at, state_after}
use Rattle.fsm_core.specs.Answers.{answer_from, numbers}

module _ (m : Machine) (sound : IsMachine m) where
  pub row_inside : (s a : ℕ) → s < m.states → a < m.letters → (next m s a < m.states) × (number m s a < length m.replies)
  row_inside s a hs ha = All-get_or (λ (r : ℕ × ℕ). (r.0 < m.states) × (r.1 < length m.replies)) m.rows (s * m.letters + a) (0, 0)
      (omega (arith, sound.size, mul-add-lt s m.letters a m.states hs ha)) sound.in_range

  pub state_inside : (s : ℕ) (word : List ℕ) → s < m.states → IsWord m word → state_after m s word < m.states
  state_inside s [] hs w = hs
  state_inside s (a ∷ word) hs w =
      state_inside (next m s a) word (row_inside s a hs (All-head (λ x. x < m.letters) a word w)).0 (All-tail (λ x. x < m.letters) a word w)

  -- states that answer a word alike answer it by the same numbers
  pub numbers_from_answers : (s t : ℕ) (word : List ℕ) → s < m.states → t < m.states → IsWord m word → answer_from m s word ≡ answer_from m t word →
      numbers m s word ≡ numbers m t word
  numbers_from_answers s t [] hs ht w e = refl
  numbers_from_answers s t (a ∷ word) hs ht w e =
      let ha : a < m.letters = All-head (λ x. x < m.letters) a word w in
      let p = row_inside s a hs ha in
      let q = row_inside t a ht ha in
      let heads : reply_at m.replies (number m s a) ≡ reply_at m.replies (number m t a) = cc in
      let tails : answer_from m (next m s a) word ≡ answer_from m (next m t a) word = cc in
      let first : number m s a ≡ number m t a = sound.different (number m s a) (number m t a) p.1 q.1 heads in
      let rest = numbers_from_answers (next m s a) (next m t a) word p.0 q.0 (All-tail (λ x. x < m.letters) a word w) tails in
      cc

-- the same numbers give the same answer, of two machines with the same replies
pub answers_from_numbers : (m r : Machine) (s t : ℕ) (word : List ℕ) → m.replies ≡ r.replies → numbers m s word ≡ numbers r t word →
    answer_from m s word ≡ answer_from r t word
answers_from_numbers m r s t [] e h = refl
answers_from_numbers m r s t (a ∷ word) e h =
    let first : number m s a ≡ number r t a = cc in
    let tails : numbers m (next m s a) word ≡ numbers r (next r t a) word = cc in
    let rest = answers_from_numbers m r (next m s a) (next r t a) word e tails in
    cc
