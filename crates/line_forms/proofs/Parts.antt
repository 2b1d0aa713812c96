-- The parts of a line that begins with `on`, read one after another.
use Rattle.std.proofs.Common.{◌≡◌, ℕ, ◌+◌, Bool, true, false, List, [], ◌∷◌, length, Option, Some, None, refl, sym, ◌∙◌, ap, subst, arith}
use Rattle.std.specs.Prelude.{Err}
use Rattle.line_forms.specs.declared.keyword.Keyword.{Keyword}
use Rattle.line_forms.specs.declared.keyword.Keyword.TheVariants as keyword
use Rattle.line_forms.specs.declared.lexeme.Lexeme.{Lexeme}
use Rattle.line_forms.specs.declared.lexeme.Lexeme.TheVariants.{Reserved}
use Rattle.line_forms.specs.declared.statement.TestForm.{TestForm}
use Rattle.line_forms.specs.declared.statement.ActionForm.{ActionForm}
use Rattle.line_forms.specs.declared.statement.OnForm.{OnForm}
use Rattle.line_forms.specs.declared.error.ParseError.{ParseError}
use Rattle.line_forms.specs.declared.error.ParseError.TheVariants.{Form, Memory}
use Rattle.line_forms.specs.Grammar.{Has, IsTest, test_size, Guard, IsGuardText, guard_size, IsEach, each_size}
use Rattle.line_forms.specs.Forms.{IsNamed, named_size, IsMarked, marked_size, IsWhen, when_size, IsHistory, IsOnForm, IsAssumeForm}
use Rattle.line_forms.specs.Longest.{in_sum, in_guard, Stops, IsLongest, IsOnly, GivesOnly, GivesWhen, Derives}
use Rattle.line_forms.proofs.Compare.{all_wider, widened, one_test}
use Rattle.line_forms.proofs.Ends.{settled, stopped}
use Rattle.line_forms.proofs.Chains.{guard_settled}
use Rattle.line_forms.proofs.Effects.{at_end}

pub narrower : (ts : List Lexeme) (i : ℕ) → Stops in_guard ts i → Stops in_sum ts i
narrower ts i stops = λ h. stops (widened in_sum in_guard ts i i all_wider refl h)

pub moved : (class : Lexeme → Bool) (ts : List Lexeme) (i j : ℕ) → i ≡ j → Stops class ts i → Stops class ts j
moved class ts i j e h = subst (Stops class ts) e h

-- a guard behind `when`
when_one : (ts : List Lexeme) (i end : ℕ) (g : Guard) (w : Option Guard) → Has ts i (Reserved keyword.When)
    → IsLongest (IsGuardText ts) guard_size (i + 1) end g → IsWhen ts i w → Stops in_guard ts (i + when_size w) → w ≡ Some g
when_one ts i end g None has long is stops = absurd (is has)
when_one ts i end g (Some h) has long is stops =
    let e = guard_settled ts (i + 1) end g h long is.1 (moved in_guard ts (i + (1 + guard_size h)) (i + 1 + guard_size h) (omega arith) stops) in
    λ j. Some (e j)

pub when_read : (ts : List Lexeme) (i end : ℕ) (g : Guard) → Has ts i (Reserved keyword.When) → IsLongest (IsGuardText ts) guard_size (i + 1) end g
    → IsOnly (IsWhen ts) when_size in_guard ts i end (Some g)
when_read ts i end g has long = record {
  spelled = (has, long.spelled);
  ends = let e = long.ends in omega arith;
  only = λ w is stops. when_one ts i end g w has long is stops;
}

behind_target : (ts : List Lexeme) (i : ℕ) (target : Option (List ℕ)) (history : Bool) → IsNamed ts i keyword.Go target
    → IsHistory ts (i + named_size target) target history → length ts ≡ i + named_size target + marked_size history → Stops in_guard ts i
behind_target ts i None true named is whole = absurd (cc)
behind_target ts i None false named is whole = at_end in_guard ts i (omega arith)
behind_target ts i (Some name) history named is whole = stopped in_guard ts i (Reserved keyword.Go) named.0 refl

pub behind_effect : (ts : List Lexeme) (f : OnForm) (h : IsOnForm ts f) → Stops in_guard ts (2 + when_size h.when + each_size f.effect)
behind_effect ts f h = behind_target ts (2 + when_size h.when + each_size f.effect) f.target f.history h.target h.history h.whole

behind_each : (ts : List Lexeme) (i : ℕ) (effect : List ActionForm) → IsEach ts i (Reserved keyword.Do) effect
    → Stops in_guard ts (i + each_size effect) → Stops in_guard ts i
behind_each ts i [] each stops = moved in_guard ts (i + 0) i (omega arith) stops
behind_each ts i (a ∷ more) each stops = stopped in_guard ts i (Reserved keyword.Do) each.0 refl

pub behind_when : (ts : List Lexeme) (f : OnForm) (h : IsOnForm ts f) → Stops in_guard ts (2 + when_size h.when)
behind_when ts f h = behind_each ts (2 + when_size h.when) f.effect h.effect (behind_effect ts f h)

pub when_failed : (ts : List Lexeme) (e : ParseError) → GivesWhen (IsWhen ts) when_size ts 2 (Err e) → Derives (IsOnForm ts) (Err e)
when_failed ts Form none = λ f h. none h.when h.guarded (behind_when ts f h)
when_failed ts Memory none = tt

-- where the guard that was read ends, the actions of every derivation begin
when_place : (ts : List Lexeme) (at : ℕ) (w : Option Guard) (f : OnForm) (h : IsOnForm ts f) → IsOnly (IsWhen ts) when_size in_guard ts 2 at w
    → 2 + when_size h.when ≡ at
when_place ts at w f h read = ap (λ x. 2 + when_size x) (read.only h.when h.guarded (behind_when ts f h)) ∙ sym read.ends

pub effect_failed : (ts : List Lexeme) (at : ℕ) (w : Option Guard) (e : ParseError) → IsOnly (IsWhen ts) when_size in_guard ts 2 at w
    → GivesOnly (λ i. IsEach ts i (Reserved keyword.Do)) each_size in_sum ts at (Err e) → Derives (IsOnForm ts) (Err e)
effect_failed ts at w Form read none = λ f h.
    let p = when_place ts at w f h read in
    none f.effect (subst (λ k. IsEach ts k (Reserved keyword.Do) f.effect) p h.effect)
    (subst (λ k. Stops in_sum ts (k + each_size f.effect)) p (narrower ts (2 + when_size h.when + each_size f.effect) (behind_effect ts f h)))
effect_failed ts at w Memory read none = tt

-- what is read before `go`: the guard, and the actions, which end at a place
pub record IsReadToGo (ts : List Lexeme) (w : Option Guard) (effect : List ActionForm) (end : ℕ) : Type 0 where
  pub at : ℕ
  pub guarded : IsOnly (IsWhen ts) when_size in_guard ts 2 at w
  pub each : IsOnly (λ i. IsEach ts i (Reserved keyword.Do)) each_size in_sum ts at end effect

same_effect : (ts : List Lexeme) (w : Option Guard) (effect : List ActionForm) (end : ℕ) (f : OnForm) (h : IsOnForm ts f)
    → IsReadToGo ts w effect end → f.effect ≡ effect
same_effect ts w effect end f h read =
    let p = when_place ts read.at w f h read.guarded in
    read.each.only f.effect (subst (λ k. IsEach ts k (Reserved keyword.Do) f.effect) p h.effect)
    (subst (λ k. Stops in_sum ts (k + each_size f.effect)) p (narrower ts (2 + when_size h.when + each_size f.effect) (behind_effect ts f h)))

same_end : (ts : List Lexeme) (w : Option Guard) (effect : List ActionForm) (end : ℕ) (f : OnForm) (h : IsOnForm ts f)
    → IsReadToGo ts w effect end → 2 + when_size h.when + each_size f.effect ≡ end
same_end ts w effect end f h read =
    let p = when_place ts read.at w f h read.guarded in
    let g = same_effect ts w effect end f h read in
    (λ j. p j + each_size (g j)) ∙ sym read.each.ends

pub go_failed : (ts : List Lexeme) (w : Option Guard) (effect : List ActionForm) (end : ℕ) (e : ParseError) → IsReadToGo ts w effect end
    → Derives (IsNamed ts end keyword.Go) (Err e) → Derives (IsOnForm ts) (Err e)
go_failed ts w effect end Form read none = λ f h. none f.target (subst (λ i. IsNamed ts i keyword.Go f.target) (same_end ts w effect end f h read) h.target)
go_failed ts w effect end Memory read none = tt

pub one_named : (ts : List Lexeme) (i : ℕ) (k : Keyword) (a b : Option (List ℕ)) → IsNamed ts i k a → IsNamed ts i k b → a ≡ b
one_named ts i k None None p q = refl
one_named ts i k None (Some n) p q = absurd (p q.0)
one_named ts i k (Some n) None p q = absurd (q p.0)
one_named ts i k (Some n) (Some m) p q = let h = p.1 in let g = q.1 in cc

pub one_marked : (ts : List Lexeme) (i : ℕ) (k : Keyword) (a b : Bool) → IsMarked ts i k a → IsMarked ts i k b → a ≡ b
one_marked ts i k true true p q = refl
one_marked ts i k true false p q = absurd (q p)
one_marked ts i k false true p q = absurd (p q)
one_marked ts i k false false p q = refl

pub one_history : (ts : List Lexeme) (i : ℕ) (target : Option (List ℕ)) (a b : Bool) → IsHistory ts i target a → IsHistory ts i target b → a ≡ b
one_history ts i None a b p q = p ∙ sym q
one_history ts i (Some name) a b p q = one_marked ts i keyword.History a b p q

pub length_failed : (ts : List Lexeme) (w : Option Guard) (effect : List ActionForm) (end : ℕ) (target : Option (List ℕ)) (history : Bool)
    → IsReadToGo ts w effect end → IsNamed ts end keyword.Go target → IsHistory ts (end + named_size target) target history
    → (length ts ≡ end + named_size target + marked_size history → ⊥) → (f : OnForm) → IsOnForm ts f → ⊥
length_failed ts w effect end target history read go is other f h =
    let e = same_end ts w effect end f h read in
    let g = one_named ts end keyword.Go f.target target (subst (λ i. IsNamed ts i keyword.Go f.target) e h.target) go in
    let P : ℕ → Option (List ℕ) → Type 0 = λ i t. IsHistory ts (i + named_size t) t f.history in
    let k : P end target = subst (P end) g (subst (λ i. P i f.target) e h.history) in
    let d = one_history ts (end + named_size target) target f.history history k is in
    other (h.whole ∙ (λ j. e j + named_size (g j) + marked_size (d j)))

-- the comparison of an assumption is the one that was read
pub assume_same : (ts : List Lexeme) (end : ℕ) (t x : TestForm) → IsLongest (IsTest ts) test_size 1 end t → IsAssumeForm ts x → x ≡ t
assume_same ts end t x long is = settled (IsTest ts) test_size in_sum ts 1 end t x long is.1 (at_end in_sum ts (1 + test_size x) is.3)
    (one_test ts 1 x t is.1 long.spelled)
