-- A step that was made before, and one that is new.
use Rattle.std.proofs.Common.{◌≡◌, ℕ, ◌+◌, ◌-◌, ◌*◌, ◌/◌, ◌%◌, ◌<◌, ◌⊎◌, inl, inr, List, [], ◌∷◌, ◌++◌, length, get_or, refl, sym, ap, ◌∙◌, subst, arith, ℤ, Some, slice_get}
use Rattle.std.proofs.lemmas.List.{get_or_read, length_push}
use Rattle.std.proofs.lemmas.Bool.{cases_eq}
use Rattle.std.proofs.lemmas.Nat.{div-mul-add, mod-mul-add}
use Rattle.std.proofs.lemmas.Option.{slice_get_within, slice_get-get_or}
use Rattle.subject.specs.Meaning.{Meaning, IsReached}
use Rattle.plan_replies.specs.inside.Steps.{AreSteps, IsMet, IsNumbered, IsStepOf, MakesStep, Stays}
use Rattle.plan_replies.proofs.Keys.{got_last, stays_itself, stays_push}

module _ {S : Type 0} (m : Meaning S) (vs : List (List ℤ)) where
  abbrev vector_of : ℕ → List ℤ
  vector_of a = get_or vs a []

  pub step_stays : (states states' : List S) (nexts nexts' : List ℕ) (replies replies' : List (List ℤ)) (p a n : ℕ) → Stays states states' → Stays nexts nexts' → Stays replies replies' →
      IsStepOf m vs states nexts replies p a n → IsStepOf m vs states' nexts' replies' p a n
  step_stays states states' nexts nexts' replies replies' p a n x y z h = record {
    state = h.state;
    next = h.next;
    start = x p h.state h.start;
    goes = y n h.next h.goes;
    leads = x h.next (m.next h.state (vector_of a)) h.leads;
    reply = z n (m.reply h.state (vector_of a)) h.reply;
  }

  -- no step yet
  pub none_made : (states : List S) (n : ℕ) → IsNumbered [] m.start states n → IsReached m m.start → AreSteps m vs states [] [] []
  none_made states n h reached =
      let here : n < length states = slice_get_within states n m.start h.there in
      let first : n ≡ 0 = omega (arith, here, h.few) in
      record {
        few = h.few;
        one_each = refl;
        first = ap (slice_get states) (sym first) ∙ h.there;
        reached = λ k s e. begun k s (h.only k s e);
        met_are = λ i some. absurd (omega (arith, some));
      }
    where
      begun : (k : ℕ) (s : S) → (slice_get [] k ≡ Some s) ⊎ (s ≡ m.start) → IsReached m s
      begun k s (inl none) = absurd (omega (arith, slice_get_within [] k s none))
      begun k s (inr is) = subst (IsReached m) (sym is) reached

  module _ (states : List S) (met nexts : List ℕ) (replies : List (List ℤ)) (h : AreSteps m vs states met nexts replies) where
    -- the step was made before
    pub known_step : (now : List ℕ) (p a i known : ℕ) → now ≡ met → known ≡ get_or now i 0 → 0 < known → i ≡ p * length vs + a → a < length vs → IsStepOf m vs states nexts replies p a (known - 1)
    known_step now p a i known same read some pair below =
        let value : known ≡ get_or met i 0 = read ∙ ap (λ x. get_or x i 0) same in
        let old : IsMet m vs states nexts replies i (known - 1) = subst (λ x. IsMet m vs states nexts replies i (x - 1)) (sym value) (h.met_are i (subst (λ x. 0 < x) value some)) in
        let pairs : old.place * length vs + old.letter ≡ p * length vs + a = sym old.pair ∙ pair in
        let place_same : old.place ≡ p = sym (div-mul-add old.place (length vs) old.letter old.inside) ∙ ap (λ x. x / length vs) pairs ∙ div-mul-add p (length vs) a below in
        let letter_same : old.letter ≡ a = sym (mod-mul-add old.place (length vs) old.letter old.inside) ∙ ap (λ x. x % length vs) pairs ∙ mod-mul-add p (length vs) a below in
        subst (λ x. IsStepOf m vs states nexts replies x a (known - 1)) place_same (subst (λ x. IsStepOf m vs states nexts replies old.place x (known - 1)) letter_same old.is)

    pub makes_none : (p a n : ℕ) → IsStepOf m vs states nexts replies p a n → MakesStep m vs states nexts replies states met nexts replies p a n
    makes_none p a n is = record {
      are = h;
      states_stay = stays_itself states;
      nexts_stay = stays_itself nexts;
      replies_stay = stays_itself replies;
      few = omega arith;
      is = is;
    }

    -- the step is new
    pub makes_step : (states' : List S) (met' : List ℕ) (p a i n j : ℕ) (s t : S) (x y : List ℤ) → p < length states → a < length vs → s ≡ get_or states p s → x ≡ get_or vs a x → i ≡ p * length vs + a →
        t ≡ m.next s x → y ≡ m.reply s x → IsReached m t → IsNumbered states t states' j → n ≡ length nexts → get_or met' i 0 ≡ n + 1 →
        ((other : ℕ) → (other ≡ i → ⊥) → get_or met' other 0 ≡ get_or met other 0) → MakesStep m vs states nexts replies states' met' (nexts ++ j ∷ []) (replies ++ y ∷ []) p a n
    makes_step states' met' p a i n j s t x y inside below read_s read_x pair next reply reached found count here others = record {
      are = record {
        few = omega (arith, found.few, h.few, length_push nexts j);
        one_each = omega (arith, length_push replies y, length_push nexts j, h.one_each);
        first = found.stays 0 m.start h.first;
        reached = λ k u e. reached_at k u (found.only k u e);
        met_are = λ o some. met_at o some (cases_eq o i);
      };
      states_stay = found.stays;
      nexts_stay = stays_push nexts j;
      replies_stay = stays_push replies y;
      few = omega (arith, length_push nexts j);
      is = is;
    }
      where
        vector_is : x ≡ vector_of a
        vector_is = get_or_read vs a x below read_x []

        is : IsStepOf m vs states' (nexts ++ j ∷ []) (replies ++ y ∷ []) p a n
        is = record {
          state = s;
          next = j;
          start = found.stays p s (slice_get-get_or states p s inside ∙ ap Some (sym read_s));
          goes = got_last nexts j n (sym count);
          leads = found.there ∙ ap Some (next ∙ ap (m.next s) vector_is);
          reply = got_last replies y n (omega (arith, count, h.one_each)) ∙ ap Some (reply ∙ ap (m.reply s) vector_is);
        }

        reached_at : (k : ℕ) (u : S) → (slice_get states k ≡ Some u) ⊎ (u ≡ t) → IsReached m u
        reached_at k u (inl old) = h.reached k u old
        reached_at k u (inr new) = subst (IsReached m) (sym new) reached

        met_at : (o : ℕ) → 0 < get_or met' o 0 → (o ≡ i) ⊎ (o ≡ i → ⊥) → IsMet m vs states' (nexts ++ j ∷ []) (replies ++ y ∷ []) o (get_or met' o 0 - 1)
        met_at o some (inl same) =
            let one_more : get_or met' o 0 ≡ n + 1 = ap (λ k. get_or met' k 0) same ∙ here in
            let value : get_or met' o 0 - 1 ≡ n = omega (arith, one_more) in
            record { place = p; letter = a; inside = below; pair = same ∙ pair; is = subst (IsStepOf m vs states' (nexts ++ j ∷ []) (replies ++ y ∷ []) p a) (sym value) is }
        met_at o some (inr different) =
            let value : get_or met' o 0 ≡ get_or met o 0 = others o different in
            let old = h.met_are o (subst (λ k. 0 < k) value some) in
            record {
              place = old.place;
              letter = old.letter;
              inside = old.inside;
              pair = old.pair;
              is = subst (λ k. IsStepOf m vs states' (nexts ++ j ∷ []) (replies ++ y ∷ []) old.place old.letter (k - 1)) (sym value)
                  (step_stays states states' nexts (nexts ++ j ∷ []) replies (replies ++ y ∷ []) old.place old.letter _ found.stays (stays_push nexts j) (stays_push replies y) old.is);
            }
