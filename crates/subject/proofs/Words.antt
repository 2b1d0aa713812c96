-- Answers to words, part by part.
use Rattle.std.proofs.Common.{◌≡◌, ℕ, zero, suc, ◌+◌, ◌<◌, ℤ, List, [], ◌∷◌, ◌++◌, length, take, drop, get_or, refl, sym, ap, ◌∙◌}
use Rattle.std.proofs.lemmas.List.{take_more}
use Rattle.std.proofs.Math.Seq.{drop-append_seam, take-append_seam}
use Rattle.std.proofs.lemmas.List.Elements.{All-cons}
use Rattle.subject.specs.Alike.{LeadAlike, ActsLike}
use Rattle.subject.specs.Meaning.{Meaning, state_after, answer_from, answer, after, IsReachedOn}
use Rattle.input_classes.specs.VectorSet.{VectorSet, IsIn, Word}

module _ {S : Type 0} (m : Meaning S) where
  -- the replies to u and then v
  pub answer_from-append : (s : S) (u v : Word) → answer_from m s (u ++ v) ≡ answer_from m s u ++ answer_from m (state_after m s u) v
  answer_from-append s [] v = refl
  answer_from-append s (x ∷ u) v = ap (λ l. m.reply s x ∷ l) (answer_from-append (m.next s x) u v)

  pub state_after-append : (s : S) (u v : Word) → state_after m s (u ++ v) ≡ state_after m (state_after m s u) v
  state_after-append s [] v = refl
  state_after-append s (x ∷ u) v = state_after-append (m.next s x) u v

  -- one reply per vector
  pub length-answer_from : (s : S) (u : Word) → length (answer_from m s u) ≡ length u
  length-answer_from s [] = refl
  length-answer_from s (x ∷ u) = ap suc (length-answer_from (m.next s x) u)

  -- the replies after u are those from the state to which u leads
  pub after-state : (u v : Word) → after m u v ≡ answer_from m (state_after m m.start u) v
  after-state u v =
      ap (drop (length u)) (answer_from-append m.start u v)
      ∙ ap (λ n. drop n (answer m u ++ answer_from m (state_after m m.start u) v)) (sym (length-answer_from m.start u))
      ∙ drop-append_seam (answer m u) (answer_from m (state_after m m.start u) v)

  pub length-after : (u v : Word) → length (after m u v) ≡ length v
  length-after u v = ap length (after-state u v) ∙ length-answer_from (state_after m m.start u) v

  pub answer-after : (u v : Word) → answer m (u ++ v) ≡ answer m u ++ after m u v
  answer-after u v = answer_from-append m.start u v ∙ ap (λ l. answer m u ++ l) (sym (after-state u v))

  -- a word and one more vector
  pub answer-push : (u : Word) (x : List ℤ) → answer m (u ++ x ∷ []) ≡ answer m u ++ m.reply (state_after m m.start u) x ∷ []
  answer-push u x = answer_from-append m.start u (x ∷ [])

  pub state_after-push : (u : Word) (x : List ℤ) → state_after m m.start (u ++ x ∷ []) ≡ m.next (state_after m m.start u) x
  state_after-push u x = state_after-append m.start u (x ∷ [])

  -- one vector more of a word that is read
  pub answer-more : (w : Word) (i : ℕ) (x : List ℤ) → i < length w → x ≡ get_or w i x → answer m (take (i + 1) w) ≡ answer m (take i w) ++ m.reply (state_after m m.start (take i w)) x ∷ []
  answer-more w i x below is = ap (answer m) (take_more w i x below ∙ ap (λ y. take i w ++ y ∷ []) (sym is)) ∙ answer-push (take i w) x

  pub state_after-more : (w : Word) (i : ℕ) (x : List ℤ) → i < length w → x ≡ get_or w i x → state_after m m.start (take (i + 1) w) ≡ m.next (state_after m m.start (take i w)) x
  state_after-more w i x below is = ap (state_after m m.start) (take_more w i x below ∙ ap (λ y. take i w ++ y ∷ []) (sym is)) ∙ state_after-push (take i w) x

  -- a loop that has answered the first i vectors answers one more
  pub answered_more : (w : Word) (i : ℕ) (x : List ℤ) (replies more : List (List ℤ)) (s : S) (reply : List ℤ) → i < length w → x ≡ get_or w i x → replies ≡ answer m (take i w) → s ≡ state_after m m.start (take i w) → reply ≡ m.reply s x → more ≡ replies ++ reply ∷ [] → more ≡ answer m (take (i + 1) w)
  answered_more w i x replies more s reply below is before at given grown =
      grown ∙ ap (λ l. l ++ reply ∷ []) before ∙ ap (λ y. answer m (take i w) ++ y ∷ []) (given ∙ ap (λ t. m.reply t x) at) ∙ sym (answer-more w i x below is)

  pub moved_more : (w : Word) (i : ℕ) (x : List ℤ) (s t : S) → i < length w → x ≡ get_or w i x → s ≡ state_after m m.start (take i w) → t ≡ m.next s x → t ≡ state_after m m.start (take (i + 1) w)
  moved_more w i x s t below is at given = given ∙ ap (λ r. m.next r x) at ∙ sym (state_after-more w i x below is)

  -- the answer to the front of a word
  pub answer-front : (u v : Word) → take (length u) (answer m (u ++ v)) ≡ answer m u
  answer-front u v =
      ap (take (length u)) (answer-after u v) ∙ ap (λ n. take n (answer m u ++ after m u v)) (sym (length-answer_from m.start u)) ∙ take-append_seam (answer m u) (after m u v)

  pub answer_from-take : (t : S) (w : Word) (k : ℕ) → answer_from m t (take k w) ≡ take k (answer_from m t w)
  answer_from-take t w zero = refl
  answer_from-take t [] (suc k) = refl
  answer_from-take t (x ∷ w) (suc k) = ap (λ l. m.reply t x ∷ l) (answer_from-take (m.next t x) w k)

  -- a reply, and the replies after it
  pub after-cons : (u : Word) (x : List ℤ) (v : Word) → after m u (x ∷ v) ≡ after m u (x ∷ []) ++ after m (u ++ x ∷ []) v
  after-cons u x v =
      after-state u (x ∷ v)
      ∙ ap (λ t. m.reply (state_after m m.start u) x ∷ answer_from m t v) (sym (state_after-push u x))
      ∙ sym (λ j. after-state u (x ∷ []) j ++ after-state (u ++ x ∷ []) v j)

  pub after-none : (u : Word) → after m u [] ≡ []
  after-none u = after-state u []

  -- words that lead alike still do after one more vector
  pub alike-goes_on : (s : VectorSet) (u w : Word) (x : List ℤ) → IsIn s x → LeadAlike s m u w → LeadAlike s m (u ++ x ∷ []) (w ++ x ∷ [])
  alike-goes_on s u w x h alike v k =
      let states = alike (x ∷ v) (All-cons (IsIn s) x v h k) in
      let first = later-state u x v in
      let second = later-state w x v in
      after-state (u ++ x ∷ []) v ∙ first ∙ ap (drop 1) (sym (after-state u (x ∷ v)) ∙ states ∙ after-state w (x ∷ v)) ∙ sym second ∙ sym (after-state (w ++ x ∷ []) v)
    where
      later-state : (a : Word) (y : List ℤ) (z : Word) → answer_from m (state_after m m.start (a ++ y ∷ [])) z ≡ drop 1 (answer_from m (state_after m m.start a) (y ∷ z))
      later-state a y z = ap (λ t. answer_from m t z) (state_after-push a y)

  -- vectors with the same next state and reply in every state that is reached
  pub same_steps-act : (s : VectorSet) (x y : List ℤ) → ((t : S) → IsReachedOn s m t → (m.next t x ≡ m.next t y) × (m.reply t x ≡ m.reply t y)) → ActsLike s m x y
  same_steps-act s x y same u v p q =
      let t = state_after m m.start u in
      let here = same t ∣ record { word = u; is_word = p; leads = refl } ∣₁ in
      answer_from-append m.start u (x ∷ v)
      ∙ ap (λ l. answer m u ++ l) (λ i. here.1 i ∷ answer_from m (here.0 i) v)
      ∙ sym (answer_from-append m.start u (y ∷ v))
