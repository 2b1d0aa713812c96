-- What is noted of the steps of one state.
use Rattle.std.proofs.Common.{◌≡◌, ℕ, zero, suc, ◌<◌, ◌≤◌, ℤ, List, [], ◌∷◌, ◌++◌, length, take, Option, None, Some, refl, ap, sym, subst, ◌∙◌}
use Rattle.std.proofs.Common.{◌⊎◌, inl, inr, ⊎_elim, arith}
use Rattle.std.specs.Prelude.{replicate, slice_set, Result, Ok, Err, IfOk, IfErr, IsErrAnd, OnOk}
use Rattle.abstract_machine.specs.declared.error.ExploreError.{ExploreError}
use Rattle.std.proofs.lemmas.Option.{same_Some, slice_get_within}
use Rattle.lin_form.specs.Signature.{IsInInputRanges}
use Rattle.subject.specs.Meaning.{Branches, IsBranchOf, Meaning}
use Rattle.abstract_machine.specs.inside.Branches.{AreStepsOn, IsStep, IsStepOn, step_at}
use Rattle.abstract_machine.specs.inside.Exploring.{IsNumbered}
use Rattle.abstract_machine.proofs.Keys.{kept}

nothing_in : (n k : ℕ) (s : ℕ × ℕ) → step_at (replicate n None) k ≡ Some s → ⊥
nothing_in zero k s e = cc
nothing_in (suc n) zero s e = cc
nothing_in (suc n) (suc k) s e = nothing_in n k s e

-- what is noted in a list that was cut and filled up was noted in it
pub noted_before : (noted : List (Option (ℕ × ℕ))) (m n k : ℕ) (s : ℕ × ℕ)
    → step_at (take m noted ++ replicate n None) k ≡ Some s → step_at noted k ≡ Some s
noted_before noted zero n k s e = absurd (nothing_in n k s e)
noted_before [] (suc m) n k s e = absurd (nothing_in n k s e)
noted_before (x ∷ noted) (suc m) n zero s e = e
noted_before (x ∷ noted) (suc m) n (suc k) s e = noted_before noted m n k s e

-- what is noted where one step is put in
pub noted_more : (noted : List (Option (ℕ × ℕ))) (b : ℕ) (step : ℕ × ℕ) (k : ℕ) (s : ℕ × ℕ)
    → step_at (slice_set noted b (Some step)) k ≡ Some s → (step_at noted k ≡ Some s) ⊎ ((k ≡ b) × (s ≡ step))
noted_more [] b step k s e = inl e
noted_more (x ∷ noted) zero step zero s e = inr (refl, sym (same_Some step s e))
noted_more (x ∷ noted) zero step (suc k) s e = inl e
noted_more (x ∷ noted) (suc b) step zero s e = inl e
noted_more (x ∷ noted) (suc b) step (suc k) s e =
    ⊎_elim (λ p. inl p) (λ q. inr (ap suc q.0, q.1)) (noted_more noted b step k s e)

module _ {S : Type 0} (m : Meaning S) (branches : Branches S) (states : List S) (replies : List (List ℤ)) (t : S) where
  -- nothing is noted
  pub none_noted : (noted : List (Option (ℕ × ℕ))) → noted ≡ [] → AreStepsOn m branches states replies t noted
  none_noted noted none k step e = cc

  -- a step whose branch is noted
  pub step_again : (noted : List (Option (ℕ × ℕ))) → AreStepsOn m branches states replies t noted → (x : List ℤ) (k : ℕ)
      (step : ℕ × ℕ) → length states ≤ 1024 → IsInInputRanges m.signature.inputs x → branches t x ≡ Some k
      → IsBranchOf m branches t k → step_at noted k ≡ Some step → IsStep m states replies t x states replies step
  step_again noted are x k step few fits at alike e =
      let s = are k step e in
      let same = alike s.input x s.fits fits s.branch at in
      let inside = slice_get_within states step.0 (m.next t s.input) s.next in
      record {
        next = record { there = s.next ∙ ap Some same.0; grown = inl refl };
        reply = record { there = s.reply ∙ ap Some same.1; grown = inl refl };
        low = omega (arith, few, inside);
      }

  -- after a step the notes are right still
  pub noted_still : (noted : List (Option (ℕ × ℕ))) → AreStepsOn m branches states replies t noted → (x : List ℤ)
      (states' : List S) (replies' : List (List ℤ)) (step : ℕ × ℕ) → IsStep m states replies t x states' replies' step
      → AreStepsOn m branches states' replies' t noted
  noted_still noted are x states' replies' step is k other e =
      let s = are k other e in
      record {
        input = s.input;
        fits = s.fits;
        branch = s.branch;
        next = kept states (m.next t x) states' step.0 is.next other.0 (m.next t s.input) s.next;
        reply = kept replies (m.reply t x) replies' step.1 is.reply other.1 (m.reply t s.input) s.reply;
      }

  -- a step is noted
  pub noted_now : (noted : List (Option (ℕ × ℕ))) → AreStepsOn m branches states replies t noted → (x : List ℤ) (b : ℕ)
      (states' : List S) (replies' : List (List ℤ)) (step : ℕ × ℕ) → IsInInputRanges m.signature.inputs x
      → branches t x ≡ Some b → IsStep m states replies t x states' replies' step → (noted' : List (Option (ℕ × ℕ)))
      → ((k : ℕ) (s : ℕ × ℕ) → step_at noted' k ≡ Some s → (step_at noted k ≡ Some s) ⊎ ((k ≡ b) × (s ≡ step)))
      → AreStepsOn m branches states' replies' t noted'
  noted_now noted are x b states' replies' step fits at is noted' more k other e =
      ⊎_elim (λ before. noted_still noted are x states' replies' step is k other before)
      (λ now.
      subst (λ n. IsStepOn m branches states' replies' t n other) (sym now.0)
      (subst (IsStepOn m branches states' replies' t b) (sym now.1)
      record { input = x; fits = fits; branch = at; next = is.next.there; reply = is.reply.there })) (more k other e)

  -- and so they are where it was made, whatever came of it
  pub noted_where_made : (noted : List (Option (ℕ × ℕ))) → AreStepsOn m branches states replies t noted → (x : List ℤ)
      (states' : List S) (replies' : List (List ℤ)) (r : Result (ℕ × ℕ) ExploreError)
      → IfOk r (IsStep m states replies t x states' replies') → OnOk r (AreStepsOn m branches states' replies' t noted)
  noted_where_made noted are x states' replies' (Ok step) is = noted_still noted are x states' replies' step is
  noted_where_made noted are x states' replies' (Err e) is = tt

-- a step that was made
pub made : {S : Type 0} (m : Meaning S) (states : List S) (replies : List (List ℤ)) (t : S) (x : List ℤ)
    (states' : List S) (replies' : List (List ℤ)) (n r : ℕ) (next : S) (reply : List ℤ) → next ≡ m.next t x
    → reply ≡ m.reply t x → IsNumbered states next states' n → IsNumbered replies reply replies' r → n < 1024
    → IsStep m states replies t x states' replies' (n, r)
made m states replies t x states' replies' n r next reply is_next is_reply there told low = record {
  next = subst (λ s. IsNumbered states s states' n) is_next there;
  reply = subst (λ (o : List ℤ). IsNumbered replies o replies' r) is_reply told;
  low = low;
}

-- what the exit of a `?` says of its error
pub passed_up : {T E : Type 0} (r : Result T E) (e : E) (P : E → Type 0) → IsErrAnd r (λ y. y ≡ e) → P e → IfErr r P
passed_up (Ok x) e P is p = tt
passed_up (Err y) e P is p = subst P (sym is) p
