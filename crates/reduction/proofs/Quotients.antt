-- The machine whose states are the blocks answers as the machine, and no two of its states answer alike.
use Rattle.std.proofs.Common.{◌≡◌, ℕ, ◌*◌, ◌/◌, ◌%◌, ◌<◌, List, [], ◌∷◌, length, get_or, slice_get, Some, All}
use Rattle.std.proofs.Common.{Contains, add-zero, refl, ap, sym, ◌∙◌, inl, inr, arith}
use Rattle.std.proofs.lemmas.Bool.{cases_eq}
use Rattle.std.proofs.lemmas.List.Elements.{All-from_get_or, All-head, All-tail, Contains-get_or}
use Rattle.std.proofs.lemmas.Nat.{div_below, div-add-mod', div-mul-add, mod_below}
use Rattle.std.proofs.lemmas.Option.{get_or_from_slice_get, slice_get-get_or, slice_get_within}
use Rattle.fsm_core.specs.Machine.{Machine, IsMachine, IsWord, machine_of, next, number, state_after}
use Rattle.fsm_core.specs.Answers.{AllReached, IsReduced, JoinAlike, KeepAnswers, numbers}
use Rattle.fsm_core.proofs.Machines.{answers_from_numbers, numbers_from_answers, row_inside}
use Rattle.reduction.specs.Blocks.{AreBlocks, AreStable}
use Rattle.reduction.specs.Quotient.{AreRepresentatives, AreRowsOf}
use Rattle.reduction.proofs.Rounds.{block_upto}

-- the states of r are the blocks of the states of m
pub record IsReduction (m r : Machine) (image : List ℕ) : Type 0 where
  pub answers : KeepAnswers m r image
  pub joined : JoinAlike m image
  pub reduced : IsReduced r
  pub reached : AllReached m → AllReached r
  pub start : slice_get image 0 ≡ Some 0
  pub within : All (λ i. i < r.states) image
  pub onto : (i : ℕ) → i < r.states → Contains image i

module _ (m : Machine) (sound : IsMachine m) (blocks reps : List ℕ) (b : AreBlocks m blocks) (stable : AreStable m blocks) (p : AreRepresentatives blocks reps)
    (rows : List (ℕ × ℕ)) (o : AreRowsOf m blocks reps rows) where
  abbrev quotient : Machine
  quotient = machine_of m.letters rows m.replies

  states_are : length rows / m.letters ≡ length reps
  states_are = rw (o.size) (rw add-zero at (div-mul-add (length reps) m.letters 0 sound.some_letters))

  rep_inside : (i : ℕ) → i < length reps → get_or reps i 0 < m.states
  rep_inside i h = omega (arith, p.inside i h, b.size)

  block_inside : (s : ℕ) → s < m.states → get_or blocks s 0 < length reps
  block_inside s h = p.each s (omega (arith, h, b.size))

  -- the block of a state goes to the block of the state's next, and answers as the state does
  next_is : (s a : ℕ) → s < m.states → a < m.letters → next quotient (get_or blocks s 0) a ≡ get_or blocks (next m s a) 0
  next_is s a hs ha =
      let i = get_or blocks s 0 in
      let hi = block_inside s hs in
      ap (λ r. r.0) (o.row i a hi ha) ∙
      (stable a ha (get_or reps i 0) s (p.inside i hi) (omega (arith, hs, b.size)) (p.own i hi)).1

  number_is : (s a : ℕ) → s < m.states → a < m.letters → number quotient (get_or blocks s 0) a ≡ number m s a
  number_is s a hs ha =
      let i = get_or blocks s 0 in
      let hi = block_inside s hs in
      ap (λ r. r.1) (o.row i a hi ha) ∙
      (stable a ha (get_or reps i 0) s (p.inside i hi) (omega (arith, hs, b.size)) (p.own i hi)).0

  pub quotient_sound : IsMachine quotient
  quotient_sound = record {
    some_states = omega (arith, states_are, block_inside 0 sound.some_states);
    few_states = omega (arith, states_are, p.few, b.size, sound.few_states);
    some_letters = sound.some_letters;
    few_letters = sound.few_letters;
    size = o.size ∙ ap (λ n. n * m.letters) (sym states_are);
    in_range = All-from_get_or (λ (r : ℕ × ℕ). (r.0 < length rows / m.letters) × (r.1 < length m.replies)) rows (0, 0) (λ place h.
        let i = place / m.letters in
        let a = place % m.letters in
        let hi : i < length reps = div_below place m.letters (length reps) sound.some_letters (omega (arith, h, o.size)) in
        let ha : a < m.letters = mod_below place m.letters sound.some_letters in
        let e : get_or rows place (0, 0) ≡ (get_or blocks (next m (get_or reps i 0) a) 0, number m (get_or reps i 0) a) =
        ap (λ n. get_or rows n (0, 0)) (sym (div-add-mod' place m.letters)) ∙ o.row i a hi ha in
        let inside = row_inside m sound (get_or reps i 0) a (rep_inside i hi) ha in
        rw (e) (omega (arith, block_inside (next m (get_or reps i 0) a) inside.0, states_are), inside.1));
    different = sound.different;
  }

  numbers_alike : (s : ℕ) (word : List ℕ) → s < m.states → IsWord m word → numbers m s word ≡ numbers quotient (get_or blocks s 0) word
  numbers_alike s [] hs w = refl
  numbers_alike s (a ∷ word) hs w =
      let ha = All-head (λ x. x < m.letters) a word w in
      let h = numbers_alike (next m s a) word (row_inside m sound s a hs ha).0 (All-tail (λ x. x < m.letters) a word w) in
      cc (number_is s a hs ha, next_is s a hs ha, h)

  leads_alike : (s : ℕ) (word : List ℕ) → s < m.states → IsWord m word → state_after quotient (get_or blocks s 0) word ≡ get_or blocks (state_after m s word) 0
  leads_alike s [] hs w = refl
  leads_alike s (a ∷ word) hs w =
      let ha = All-head (λ x. x < m.letters) a word w in
      ap (λ t. state_after quotient t word) (next_is s a hs ha) ∙
      leads_alike (next m s a) word (row_inside m sound s a hs ha).0 (All-tail (λ x. x < m.letters) a word w)

  first_block : get_or blocks 0 0 ≡ 0
  first_block = omega (arith, block_upto blocks b.in_order 1 0 (omega arith) (omega (arith, b.size, sound.some_states)))

  keeps_answers : KeepAnswers m quotient blocks
  keeps_answers s i at word w =
      let hs : s < m.states = omega (arith, slice_get_within blocks s i at, b.size) in
      rw (← get_or_from_slice_get blocks s i 0 at) (answers_from_numbers m quotient s (get_or blocks s 0) word refl (numbers_alike s word hs w))

  is_reduced : IsReduced quotient
  is_reduced i j hi hj differ =
      let hi' : i < length reps = omega (arith, hi, states_are) in
      let hj' : j < length reps = omega (arith, hj, states_are) in
      let s = get_or reps i 0 in
      let t = get_or reps j 0 in
      let d = b.apart s t (p.inside i hi') (p.inside j hj') (λ e. differ (sym (p.own i hi') ∙ (e ∙ p.own j hj'))) in
      record {
        word = d.word;
        is_word = d.is_word;
        differ = λ e. d.differ (
            numbers_alike s d.word (rep_inside i hi') d.is_word ∙
            (ap (λ k. numbers quotient k d.word) (p.own i hi') ∙
            (numbers_from_answers quotient quotient_sound i j d.word hi hj d.is_word e ∙
            (ap (λ k. numbers quotient k d.word) (sym (p.own j hj')) ∙
            sym (numbers_alike t d.word (rep_inside j hj') d.is_word)))));
      }

  joins_alike : JoinAlike m blocks
  joins_alike s t hs ht alike = elim (cases_eq (get_or blocks s 0) (get_or blocks t 0)) as (λ _. slice_get blocks s ≡ slice_get blocks t) [
    | inl e ↦ slice_get-get_or blocks s 0 (omega (arith, hs, b.size)) ∙ (ap Some e ∙ sym (slice_get-get_or blocks t 0 (omega (arith, ht, b.size))))
    | inr d ↦
        let told = b.apart s t (omega (arith, hs, b.size)) (omega (arith, ht, b.size)) d in
        absurd (told.differ (numbers_from_answers m sound s t told.word hs ht told.is_word (alike told.word told.is_word)))
  ]

  all_reached : AllReached m → AllReached quotient
  all_reached reached i hi =
      let hi' : i < length reps = omega (arith, hi, states_are) in
      let w = reached (get_or reps i 0) (rep_inside i hi') in
      record {
        word = w.word;
        is_word = w.is_word;
        leads =
            let e = leads_alike 0 w.word sound.some_states w.is_word in
            ap (λ s. state_after quotient s w.word) (sym first_block) ∙ (e ∙ (ap (λ s. get_or blocks s 0) w.leads ∙ p.own i hi'));
      }

  start_is : slice_get blocks 0 ≡ Some 0
  start_is = slice_get-get_or blocks 0 0 (omega (arith, b.size, sound.some_states)) ∙ ap Some first_block

  images_within : All (λ i. i < length rows / m.letters) blocks
  images_within = All-from_get_or (λ i. i < length rows / m.letters) blocks 0 (λ s h. omega (arith, p.each s h, states_are))

  images_onto : (i : ℕ) → i < length rows / m.letters → Contains blocks i
  images_onto i hi =
      let hi' : i < length reps = omega (arith, hi, states_are) in
      rw (p.own i hi') at (Contains-get_or blocks (get_or reps i 0) 0 (p.inside i hi'))

  pub reduction : (r : Machine) → r ≡ quotient → IsReduction m r blocks
  reduction r e = rw (e) record {
    answers = keeps_answers;
    joined = joins_alike;
    reduced = is_reduced;
    reached = all_reached;
    start = start_is;
    within = images_within;
    onto = images_onto;
  }
