use Rattle.std.proofs.Common.{◌≡◌, ℕ, ◌<◌, List, [], ◌∷◌, ◌++◌, All, ap, ◌∙◌, arith}
use Rattle.std.proofs.lemmas.List.Elements.{All-push}
use Rattle.reduction.proofs.columns.different_letters.Goals as goal
use Rattle.reduction.proofs.columns.different_letters.Goals.{then-is_new+in_ok-push, else-is_new}

one_more : (n : ℕ) (letters new : List ℕ) (a : ℕ) → new ≡ letters ++ a ∷ [] → a < n → All (λ b. b < n) letters → All (λ b. b < n) new
one_more n letters new a e h all = rw (e) (All-push (λ b. b < n) letters a all h)

no_more : (n : ℕ) (letters new : List ℕ) → new ≡ letters → All (λ b. b < n) letters → All (λ b. b < n) new
no_more n letters new e all = rw (e) all

pub loop-letter-preserved : goal.loop-letter-preserved
loop-letter-preserved c = elim c.if-is_new.branch [
  | then-is_new+in_ok-push w ↦ one_more c.args.fsm.now.letters c.loop-letter.letters.items c.if-is_new.letters.items c.loop-letter.letter
      (ap (λ v. v.items) w.letters-is ∙ w.in_ok-push.ensures.items)
      (omega (arith, c.loop-letter-test.true, c.letters-letter-end.ensures.count)) c.loop-letter.invariant
  | else-is_new w ↦ no_more c.args.fsm.now.letters c.loop-letter.letters.items c.if-is_new.letters.items
      (ap (λ v. v.items) w.letters-is) c.loop-letter.invariant
]
