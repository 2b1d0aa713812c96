-- States that are reached on words of a set go on being reached, and what the start has and each step keeps they have.
use Rattle.std.proofs.Common.{ℤ, List, [], ◌∷◌, ◌++◌, refl, ap, ◌∙◌, subst}
use Rattle.std.proofs.Math.Logic.{∥∥₁_elim, ∥∥₁_map}
use Rattle.std.proofs.lemmas.List.Elements.{All-nil, All-head, All-tail, All-push, All-weaker}
use Rattle.input_classes.specs.VectorSet.{VectorSet, IsIn, Word, IsWordOf}
use Rattle.subject.specs.Meaning.{Meaning, state_after, IsReachedOn, LeadsTo}
use Rattle.subject.proofs.Words.{state_after-push}

module _ {S : Type 0} (s : VectorSet) (m : Meaning S) where
  pub reached_word : (w : Word) → IsWordOf s w → IsReachedOn s m (state_after m m.start w)
  reached_word w h = ∣ record { word = w; is_word = h; leads = refl } ∣₁

  pub reached_start : IsReachedOn s m m.start
  reached_start = reached_word [] (All-nil (IsIn s))

  pub leads_on : (t : S) (x : List ℤ) → LeadsTo s m t → IsIn s x → LeadsTo s m (m.next t x)
  leads_on t x h k = record {
    word = h.word ++ x ∷ [];
    is_word = All-push (IsIn s) h.word x h.is_word k;
    leads = state_after-push m h.word x ∙ ap (λ u. m.next u x) h.leads;
  }

  pub reached_step : (t : S) (x : List ℤ) → IsReachedOn s m t → IsIn s x → IsReachedOn s m (m.next t x)
  reached_step t x h k = ∥∥₁_map h (λ l. leads_on t x l k)

  pub reached_more : (larger : VectorSet) (t : S) → ((x : List ℤ) → IsIn s x → IsIn larger x) → IsReachedOn s m t → IsReachedOn larger m t
  reached_more larger t within h = ∥∥₁_map h (λ l. record { word = l.word; is_word = All-weaker (IsIn s) (IsIn larger) within l.word l.is_word; leads = l.leads })

  module _ (Q : S → Type 0) (keeps : (t : S) (x : List ℤ) → Q t → IsIn s x → Q (m.next t x)) where
    kept : (t : S) (w : Word) → Q t → IsWordOf s w → Q (state_after m t w)
    kept t [] q h = q
    kept t (x ∷ w) q h = kept (m.next t x) w (keeps t x q (All-head (IsIn s) x w h)) (All-tail (IsIn s) x w h)

    -- a proposition that the start has and each step keeps holds of each state that is reached
    pub holds_where_reached : ((t : S) → IsProp (Q t)) → Q m.start → (t : S) → IsReachedOn s m t → Q t
    holds_where_reached prop start t h = ∥∥₁_elim h (prop t) (λ l. subst Q l.leads (kept m.start l.word start l.is_word))
