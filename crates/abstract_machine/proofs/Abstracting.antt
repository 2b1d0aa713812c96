-- A reduced machine that answers words of letters as a plan answers the vectors that they stand for.
use Rattle.std.proofs.Common.{◌≡◌, ℕ, zero, suc, ◌<◌, ◌≤◌, ℤ, List, [], ◌∷◌, ◌++◌, length, map, drop}
use Rattle.std.proofs.Common.{get_or, Contains, refl, ap, sym, subst, ◌∙◌, inl, inr, All}
use Rattle.std.proofs.Common.{arith}
use Rattle.std.proofs.Math.Seq.{drop-append_seam}
use Rattle.std.proofs.lemmas.Bool.{cases_eq, cases_lt}
use Rattle.std.proofs.lemmas.List.{get_or-map, get_or_append_left, get_or_push, length-map, length_push, map-append}
use Rattle.std.proofs.lemmas.List.Elements.{All-append, All-from_get_or, Contains-get_or}
use Rattle.fsm_core.specs.Machine.{IsMachine, IsWord, Machine, next, number, reply_at, state_after}
use Rattle.fsm_core.specs.Answers.{AllReached, IsReduced, answer_from}
use Rattle.fsm_core.proofs.Machines.{state_inside}
use Rattle.input_classes.specs.VectorSet.{IsWordOf, Members, Word}
use Rattle.subject.specs.Alike.{HasRank, LeadAlike}
use Rattle.subject.specs.Meaning.{Meaning, after, answer}
use Rattle.subject.specs.Suite.{in_vectors}
use Rattle.word_pool.specs.Words.{word}
use Rattle.abstract_machine.specs.Explored.{AnswersAs}
use Rattle.abstract_machine.proofs.Reaching.{letters_of, vectors-members}

module _ (g : Machine) where
  pub machine-append : (s : ℕ) (u v : List ℕ) → answer_from g s (u ++ v) ≡ answer_from g s u ++ answer_from g (state_after g s u) v
  machine-append s [] v = refl
  machine-append s (b ∷ u) v = ap (λ l. reply_at g.replies (number g s b) ∷ l) (machine-append (next g s b) u v)

  pub machine-length : (s : ℕ) (u : List ℕ) → length (answer_from g s u) ≡ length u
  machine-length s [] = refl
  machine-length s (b ∷ u) = ap suc (machine-length (next g s b) u)

  -- what is answered after u
  pub machine-after : (u v : List ℕ) → drop (length u) (answer_from g 0 (u ++ v)) ≡ answer_from g (state_after g 0 u) v
  machine-after u v = ap (drop (length u)) (machine-append 0 u v)
      ∙ ap (λ n. drop n (answer_from g 0 u ++ answer_from g (state_after g 0 u) v)) (sym (machine-length 0 u))
      ∙ drop-append_seam (answer_from g 0 u) (answer_from g (state_after g 0 u) v)

-- a word for each state below n
pub record HasWords (g : Machine) (n : ℕ) : Type 0 where
  pub words : List (List ℕ)
  pub size : length words ≡ n
  pub each : (s : ℕ) → s < n → IsWord g (word words s) × (state_after g 0 (word words s) ≡ s)

pub words_upto : (g : Machine) → AllReached g → (n : ℕ) → n ≤ g.states → HasWords g n
words_upto g reached zero h = record { words = []; size = refl; each = λ s k. absurd (omega (arith, k)) }
words_upto g reached (suc n) h =
    let before = words_upto g reached n (omega (arith, h)) in
    let last = reached n (omega (arith, h)) in
    record {
      words = before.words ++ last.word ∷ [];
      size = (let size = before.size in omega (arith, length_push before.words last.word, size));
      each = λ s k. elim (cases_lt s n) as (λ _. IsWord g (word (before.words ++ last.word ∷ []) s) ×
          (state_after g 0 (word (before.words ++ last.word ∷ []) s) ≡ s)) [
            | inl low ↦ rw (get_or_append_left before.words (last.word ∷ []) [] s (omega (arith, low, before.size))) (before.each s low)
            | inr high ↦
                let is : s ≡ n = omega (arith, high, k) in
                rw (is, get_or_push before.words last.word [] n before.size) (last.is_word, last.leads)
          ];
    }

module _ {S : Type 0} (classes : List (List ℤ)) (m : Meaning S) (g : Machine) (sound : IsMachine g)
    (letters : g.letters ≡ length classes) (answers : AnswersAs classes m g) where
  -- what the plan answers after a word is what the machine answers in the state to which the word leads
  pub after_is : (u v : List ℕ) → IsWord g u → IsWord g v → after m (in_vectors classes u) (in_vectors classes v) ≡ answer_from g (state_after g 0 u) v
  after_is u v hu hv =
      ap (drop (length (in_vectors classes u))) (ap (answer m) (sym (map-append (λ a. get_or classes a []) u v)) ∙ sym
      (answers (u ++ v) (All-append (λ a. a < g.letters) u v hu hv)))
      ∙ ap (λ n. drop n (answer_from g 0 (u ++ v))) (length-map u (λ a. get_or classes a []))
      ∙ machine-after g u v

  to_members : (w : List ℕ) → IsWord g w → IsWordOf (Members classes) (in_vectors classes w)
  to_members w h = vectors-members classes w (subst (λ n. All (λ a. a < n) w) letters h)

  from_members : (w : Word) → IsWordOf (Members classes) w → (ls : List ℕ) × (IsWord g ls × (in_vectors classes ls ≡ w))
  from_members w h = let ls = letters_of classes w h in (ls.0, (subst (λ n. All (λ a. a < n) ls.0) (sym letters) ls.1.0, ls.1.1))

  -- words that lead to one state lead alike
  pub alike_from : (u w : List ℕ) → IsWord g u → IsWord g w → state_after g 0 u ≡ state_after g 0 w →
      LeadAlike (Members classes) m (in_vectors classes u) (in_vectors classes w)
  alike_from u w hu hw e v k =
      let ls = from_members v k in
      subst (λ x. after m (in_vectors classes u) x ≡ after m (in_vectors classes w) x) ls.1.1
      (after_is u ls.0 hu ls.1.0 ∙ ap (λ s. answer_from g s ls.0) e ∙ sym (after_is w ls.0 hw ls.1.0))

  module _ (reduced : IsReduced g) where
    -- and the other way round
    pub alike_to : (u w : List ℕ) → IsWord g u → IsWord g w → LeadAlike (Members classes) m (in_vectors classes u)
        (in_vectors classes w) → state_after g 0 u ≡ state_after g 0 w
    alike_to u w hu hw alike = elim (cases_eq (state_after g 0 u) (state_after g 0 w)) as (λ _. state_after g 0 u ≡ state_after g 0 w) [
      | inl e ↦ e
      | inr d ↦
          let apart = reduced (state_after g 0 u) (state_after g 0 w) (state_inside g sound 0 u sound.some_states hu)
          (state_inside g sound 0 w sound.some_states hw) d in
          absurd (apart.differ (sym (after_is u apart.word hu apart.is_word) ∙ alike (in_vectors classes apart.word) (to_members apart.word apart.is_word)
          ∙ after_is w apart.word hw apart.is_word))
    ]

    -- the number of states is the rank
    pub machine_rank : AllReached g → HasRank (Members classes) m g.states
    machine_rank reached =
        let ws = words_upto g reached g.states (omega arith) in
        let each_word : (s : ℕ) → s < length ws.words → get_or (map (in_vectors classes) ws.words) s [] ≡ in_vectors classes (word ws.words s) =
        λ s h. get_or-map (in_vectors classes) ws.words s [] [] h in
        let are_words : All (IsWordOf (Members classes)) (map (in_vectors classes) ws.words) =
        All-from_get_or (IsWordOf (Members classes)) (map (in_vectors classes) ws.words) [] (λ s h.
        let hs : s < length ws.words = subst (λ n. s < n) (length-map ws.words (in_vectors classes)) h in
        rw (each_word s hs) (to_members (word ws.words s) (ws.each s (omega (arith, hs, ws.size))).0)) in
        record {
          most = record {
            words = map (in_vectors classes) ws.words;
            are_words = are_words;
            few = omega (arith, length-map ws.words (in_vectors classes), ws.size);
            each = λ w k.
                let ls = from_members w k in
                let s = state_after g 0 ls.0 in
                let inside : s < g.states = state_inside g sound 0 ls.0 sound.some_states ls.1.0 in
                let hs : s < length ws.words = omega (arith, inside, ws.size) in
                let there : Contains (map (in_vectors classes) ws.words) (in_vectors classes (word ws.words s)) =
                subst (Contains (map (in_vectors classes) ws.words)) (each_word s hs)
                (Contains-get_or (map (in_vectors classes) ws.words) s [] (rw length-map hs)) in
                ∣ record {
                  like = in_vectors classes (word ws.words s);
                  there = there;
                  alike = subst (λ x. LeadAlike (Members classes) m x (in_vectors classes (word ws.words s))) ls.1.1
                      (alike_from ls.0 (word ws.words s) ls.1.0 (ws.each s inside).0 (sym (ws.each s inside).1));
                } ∣₁;
          };
          words = map (in_vectors classes) ws.words;
          are_words = are_words;
          many = length-map ws.words (in_vectors classes) ∙ ws.size;
          apart = λ i j d less below alike.
              let hj : j < length ws.words = subst (λ n. j < n) (length-map ws.words (in_vectors classes)) below in
              let hi : i < length ws.words = omega (arith, less, hj) in
              let one = ws.each i (omega (arith, hi, ws.size)) in
              let two = ws.each j (omega (arith, hj, ws.size)) in
              let first : get_or (map (in_vectors classes) ws.words) i d ≡ in_vectors classes (word ws.words i) =
              get_or-map (in_vectors classes) ws.words i [] d hi in
              let second : get_or (map (in_vectors classes) ws.words) j d ≡ in_vectors classes (word ws.words j) =
              get_or-map (in_vectors classes) ws.words j [] d hj in
              let same = alike_to (word ws.words i) (word ws.words j) one.0 two.0
              (λ v k. ap (λ x. after m x v) (sym first) ∙ alike v k ∙ ap (λ x. after m x v) second) in
              omega (arith, less, sym one.1 ∙ same ∙ two.1);
        }
