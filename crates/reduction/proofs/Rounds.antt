-- Each letter in turn: the sum of the blocks' numbers rises, or nothing changes and the letter splits no block.
use Rattle.std.proofs.Common.{◌≡◌, ℕ, zero, suc, ◌+◌, ◌*◌, ◌<◌, ◌≤◌, ◌⊎◌, Bool, true, false, List, [], ◌∷◌, length}
use Rattle.std.proofs.Common.{get_or, sum, MatchBool, refl, ap, sym, subst, ◌∙◌, inl, inr, arith}
use Rattle.std.proofs.lemmas.Bool.{cases_Bool, cases_eq, false≢true, true≢false}
use Rattle.std.proofs.lemmas.List.Elements.{All-from_get_or}
use Rattle.std.proofs.lemmas.List.Sums.{sum_by-cons, sum_by-le}
use Rattle.std.proofs.lemmas.List.{get_or_read}
use Rattle.fsm_core.specs.Machine.{Machine, next, number}
use Rattle.reduction.specs.Blocks.{AgreeOn, AreAlikeOn, AreAlikeOnEach, AreAllLetters, AreBlocks, AreFiner, AreInOrder, AreStable, AreStableOn}
use Rattle.reduction.specs.Quotient.{AreRepresentatives}

-- the states from `at` on were compared with the representatives of their blocks, where the blocks were `old`
pub record IsRound (m : Machine) (letters old blocks representatives : List ℕ) (changed : Bool) (at : ℕ) : Type 0 where
  pub are_blocks : AreBlocks m blocks
  pub are_representatives : AreRepresentatives blocks representatives
  pub risen : changed ≡ true → sum old < sum blocks
  pub kept : changed ≡ false → blocks ≡ old
  pub alike : changed ≡ false → (s : ℕ) → at ≤ s → s < m.states →
      AreAlikeOnEach m blocks letters s (get_or representatives (get_or blocks s 0) 0)

pub round_none : (m : Machine) (letters blocks representatives : List ℕ) → AreBlocks m blocks → AreRepresentatives blocks representatives →
    (at : ℕ) → m.states ≤ at → IsRound m letters blocks blocks representatives false at
round_none m letters blocks representatives b p at end = record {
  are_blocks = b;
  are_representatives = p;
  risen = λ e. absurd (false≢true e);
  kept = λ _. refl;
  alike = λ _ s hs ht. absurd (omega (arith, hs, ht, end));
}

-- lists of one length, where no number falls: they are the same, or the sum rises
same_or_risen : (xs ys : List ℕ) → length xs ≡ length ys → ((t : ℕ) → t < length ys → get_or xs t 0 ≤ get_or ys t 0) → (xs ≡ ys) ⊎ (sum xs < sum ys)
same_or_risen [] [] size h = inl refl
same_or_risen [] (y ∷ ys) size h = absurd (omega (arith, size))
same_or_risen (x ∷ xs) [] size h = absurd (omega (arith, size))
same_or_risen (x ∷ xs) (y ∷ ys) size h =
    let first : x ≤ y = h 0 (omega arith) in
    let a = sum_by-cons (λ (n : ℕ). n) x xs in
    let b = sum_by-cons (λ (n : ℕ). n) y ys in
    elim (same_or_risen xs ys (omega (arith, size)) (λ t ht. h (suc t) (omega (arith, ht)))) as (λ _. (x ∷ xs ≡ y ∷ ys) ⊎ (sum (x ∷ xs) < sum (y ∷ ys))) [
      | inl e ↦ elim (cases_eq x y) as (λ _. (x ∷ xs ≡ y ∷ ys) ⊎ (sum (x ∷ xs) < sum (y ∷ ys))) [
        | inl d ↦ inl (cc)
        | inr d ↦ inr (omega (arith, a, b, first, d, ap (λ l. sum l) e))
      ]
      | inr rise ↦ inr (omega (arith, a, b, first, rise))
    ]

-- what two reads of vectors gave as the representative of a state's block
pub representative_read : (m : Machine) (blocks representatives : List ℕ) → AreBlocks m blocks → AreRepresentatives blocks representatives →
    (s i rep : ℕ) → s < m.states → i ≡ get_or blocks s i → rep ≡ get_or representatives i rep → rep ≡ get_or representatives (get_or blocks s 0) 0
representative_read m blocks representatives b p s i rep h e e' =
    let hs : s < length blocks = omega (arith, h, b.size) in
    let is : i ≡ get_or blocks s 0 = get_or_read blocks s i hs e 0 in
    let low : i < length representatives = rw (is) (p.each s hs) in
    get_or_read representatives i rep low e' 0 ∙ ap (λ n. get_or representatives n 0) is

module _ (m : Machine) (letters old blocks representatives : List ℕ) (changed : Bool) (at : ℕ)
    (r : IsRound m letters old blocks representatives changed (at + 1))
    (inside : at < m.states) (rep : ℕ) (is : rep ≡ get_or representatives (get_or blocks at 0) 0) where
  -- none of the letters tells the state from its representative
  pub round_alike : AreAlikeOnEach m blocks letters at rep → IsRound m letters old blocks representatives changed at
  round_alike h = record {
    are_blocks = r.are_blocks;
    are_representatives = r.are_representatives;
    risen = r.risen;
    kept = r.kept;
    alike = λ never s hs ht i hi. elim (cases_eq s at) as (λ _. AreAlikeOn m blocks (get_or letters i 0) s (get_or representatives (get_or blocks s 0) 0)) [
      | inl d ↦ let d' : s ≡ at = d in rw (d', ← is) (h i hi)
      | inr d ↦ r.alike never s (omega (arith, hs, d)) ht i hi
    ];
  }

  module _ (a : ℕ) (differ : ¬ AreAlikeOn m blocks a at rep) (finer : List ℕ) (b : AreBlocks m finer)
      (f : AreFiner blocks finer) (agree : AgreeOn m blocks a finer) where
    -- the letter a tells them apart, so the sum of the blocks' numbers rises where the blocks are split by it
    sum_rises : sum blocks < sum finer
    sum_rises = elim (same_or_risen blocks finer f.size f.upto) as (λ _. sum blocks < sum finer) [
      | inl e ↦
          let i = get_or blocks at 0 in
          let p = r.are_representatives in
          let hat : at < length blocks = omega (arith, inside, r.are_blocks.size) in
          let low : rep < length finer = rw (is) (omega (arith, p.inside i (p.each at hat), r.are_blocks.size, b.size)) in
          let same : get_or finer at 0 ≡ get_or finer rep 0 = rw (← e, is) (sym (p.own i (p.each at hat))) in
          absurd (differ (agree at rep (omega (arith, inside, b.size)) low same))
      | inr h ↦ h
    ]

    pub round_split : (picked : List ℕ) → AreRepresentatives finer picked → IsRound m letters old finer picked true at
    round_split picked p = record {
      are_blocks = b;
      are_representatives = p;
      risen = λ _. elim (cases_Bool changed) as (λ _. sum old < sum finer) [
        | inl before ↦ omega (arith, r.risen before, sum_rises)
        | inr first ↦ omega (arith, ap (λ l. sum l) (r.kept first), sum_rises)
      ];
      kept = λ d. absurd (true≢false d);
      alike = λ d. absurd (true≢false d);
    }

-- no state differs from the representative of its block: none of the letters splits a block
stable_from_alike : (m : Machine) (letters blocks representatives : List ℕ) → length blocks ≡ m.states →
    ((s : ℕ) → s < m.states → AreAlikeOnEach m blocks letters s (get_or representatives (get_or blocks s 0) 0)) → AreStableOn m letters blocks
stable_from_alike m letters blocks representatives size alike i hi s t hs ht e =
    let a = get_or letters i 0 in
    let p = alike s (omega (arith, hs, size)) i hi in
    let q = alike t (omega (arith, ht, size)) i hi in
    let same = ap (λ i. get_or representatives i 0) e in (
      p.0 ∙ (ap (λ r. number m r a) same ∙ sym q.0),
      p.1 ∙ (ap (λ r. get_or blocks (next m r a) 0) same ∙ sym q.1),
    )

-- the end of a round
pub round_result : (m : Machine) (letters old blocks representatives : List ℕ) (changed : Bool) (at : ℕ) →
    IsRound m letters old blocks representatives changed at → at ≡ 0 → MatchBool changed (sum old < sum blocks) (AreStableOn m letters blocks)
round_result m letters old blocks representatives true at r end = r.risen refl
round_result m letters old blocks representatives false at r end =
    stable_from_alike m letters blocks representatives r.are_blocks.size (λ s hs i hi. r.alike refl s (omega (arith, end)) hs i hi)

-- a round over all letters
pub stable_on_all : (m : Machine) (letters blocks : List ℕ) → AreAllLetters m letters → AreStableOn m letters blocks → AreStable m blocks
stable_on_all m letters blocks all h a ha =
    let inside : a < length letters = omega (arith, ha, all.count) in
    subst (λ b. AgreeOn m blocks b blocks) (all.each a inside) (h a inside)

-- no block's number is above the place of its states
pub block_upto : (blocks : List ℕ) → AreInOrder blocks → (n t : ℕ) → t < n → t < length blocks → get_or blocks t 0 ≤ t
block_upto blocks ordered zero t h ht = absurd (omega (arith, h))
block_upto blocks ordered (suc n) t h ht =
    ordered t t ht (λ u hu. omega (arith, hu, block_upto blocks ordered n u (omega (arith, hu, h)) (omega (arith, hu, ht))))

-- so the sum of the blocks' numbers is at most the square of the number of states
pub sum_upto : (m : Machine) (blocks : List ℕ) → AreBlocks m blocks → sum blocks ≤ m.states * m.states
sum_upto m blocks h =
    let low : (t : ℕ) → t < length blocks → get_or blocks t 0 ≤ m.states =
    λ t ht. omega (arith, block_upto blocks h.in_order (t + 1) t (omega arith) ht, ht, h.size) in
    rw (h.size) at (sum_by-le (λ (n : ℕ). n) m.states blocks (All-from_get_or (λ x. x ≤ m.states) blocks 0 low))
