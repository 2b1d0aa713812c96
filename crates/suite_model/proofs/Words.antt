-- The words of a pool by their numbers, and the replies to their letters.
use Rattle.std.proofs.Common.{◌≡◌, ℕ, zero, suc, ◌+◌, ◌-◌, ◌<◌, Bool, true, false, cond, List, [], ◌∷◌, ◌++◌, length, take, get_or, refl, sym, ap, ◌∙◌, subst, arith, ℤ, append_assoc, append-nil, length-append, Some, slice_get}
use Rattle.std.specs.Str.{bytes_eq}
use Rattle.std.specs.List.{All}
use Rattle.std.proofs.lemmas.Slice.Eq.{bytes_eq-Decides}
use Rattle.std.proofs.lemmas.List.{take_more, take_all, same_from_push, nil_from_length, length-take-le}
use Rattle.std.proofs.lemmas.List.Elements.{All-cons, All-nil}
use Rattle.std.proofs.lemmas.Option.{get_or_from_slice_get}
use Rattle.word_pool.specs.Words.{word, ArePooled}
use Rattle.suite_model.specs.Pooled.{number_of, reply_to, replies_from}

differs : (w u : List ℕ) (n : ℕ) (b : Bool) → bytes_eq w u ≡ b → (w ≡ u → ⊥) → cond b 0 (suc n) ≡ suc n
differs w u n true e = λ no. absurd (no ((bytes_eq-Decides w u).0 e))
differs w u n false e = λ no. refl

pub numbered : (ws : List (List ℕ)) (u : List ℕ) (i : ℕ) → i < length ws → word ws i ≡ u → ((j : ℕ) → j < i → word ws j ≡ u → ⊥) → number_of ws u ≡ i
numbered [] u i inside here first = absurd (omega arith)
numbered (w ∷ ws) u zero inside here first = ap (λ b. cond b 0 (suc (number_of ws u))) ((bytes_eq-Decides w u).1 here)
numbered (w ∷ ws) u (suc i) inside here first =
    differs w u (number_of ws u) (bytes_eq w u) refl (first 0 (omega arith))
    ∙ ap suc (numbered ws u i (omega arith) here (λ j h e. first (suc j) (omega arith) e))

pub numbered_at : (ws : List (List ℕ)) → ArePooled ws → (u : List ℕ) (i : ℕ) → i < length ws → word ws i ≡ u → number_of ws u ≡ i
numbered_at ws pooled u i inside here = numbered ws u i inside here (λ j h e. let same : j ≡ i = pooled.different j i (omega arith) inside (e ∙ sym here) in omega arith)

-- a word that begins with another is behind it in the pool
pub record IsThere (ws : List (List ℕ)) (u : List ℕ) : Type 0 where
  pub place : ℕ
  pub inside : place < length ws
  pub is : word ws place ≡ u

empty_first : (ws : List (List ℕ)) → ArePooled ws → word ws 0 ≡ []
empty_first ws pooled = get_or_from_slice_get ws 0 [] [] pooled.empty

prefix_by : (ws : List (List ℕ)) → ArePooled ws → (n : ℕ) (u v : List ℕ) → length v ≡ n → IsThere ws (u ++ v) → IsThere ws u
prefix_by ws pooled zero u v e there = record { place = there.place; inside = there.inside; is = there.is ∙ ap (λ x. u ++ x) (nil_from_length v e) ∙ append-nil u }
prefix_by ws pooled (suc n) u v e there =
    let some : 0 < there.place = first there.place refl in
    let x = pooled.prefixed there.place some there.inside in
    let within : n < length v = omega arith in
    let split : v ≡ take n v ++ get_or v n 0 ∷ [] = sym (take_all (n + 1) v (omega arith)) ∙ take_more v n 0 within in
    let last : word ws x.shorter ++ x.last ∷ [] ≡ (u ++ take n v) ++ get_or v n 0 ∷ [] =
    sym x.extends ∙ there.is ∙ ap (λ y. u ++ y) split ∙ sym (append_assoc u (take n v) (get_or v n 0 ∷ [])) in
    let lower : x.shorter < there.place = x.lower in
    prefix_by ws pooled n u (take n v) (length-take-le n v (omega arith))
    (record { place = x.shorter; inside = (let i : there.place < length ws = there.inside in omega arith); is = (same_from_push _ _ _ _ last).0 })
  where
    first : (p : ℕ) → there.place ≡ p → 0 < p
    first zero h = let no : u ++ v ≡ [] = sym there.is ∙ ap (word ws) h ∙ empty_first ws pooled in absurd (omega (arith, ap length no, length-append u v))
    first (suc p) h = omega arith

pub prefix_in : (ws : List (List ℕ)) → ArePooled ws → (u v : List ℕ) → IsThere ws (u ++ v) → IsThere ws u
prefix_in ws pooled u v there = prefix_by ws pooled (length v) u v refl there

pub reply_at : (ws : List (List ℕ)) (rs : List (List ℤ)) → ArePooled ws → (u : List ℕ) (i : ℕ) → i < length ws → word ws i ≡ u → reply_to ws rs u ≡ get_or rs (i - 1) []
reply_at ws rs pooled u i inside here = ap (λ n. get_or rs (n - 1) []) (numbered_at ws pooled u i inside here)

pub length-replies_from : (ws : List (List ℕ)) (rs : List (List ℤ)) (u v : List ℕ) → length (replies_from ws rs u v) ≡ length v
length-replies_from ws rs u [] = refl
length-replies_from ws rs u (a ∷ v) = ap suc (length-replies_from ws rs (u ++ a ∷ []) v)

pub take-replies_from : (ws : List (List ℕ)) (rs : List (List ℤ)) (n : ℕ) (u v : List ℕ) → take n (replies_from ws rs u v) ≡ replies_from ws rs u (take n v)
take-replies_from ws rs zero u [] = refl
take-replies_from ws rs zero u (a ∷ v) = refl
take-replies_from ws rs (suc n) u [] = refl
take-replies_from ws rs (suc n) u (a ∷ v) = ap (λ x. reply_to ws rs (u ++ a ∷ []) ∷ x) (take-replies_from ws rs n (u ++ a ∷ []) v)

pub get-replies_from : (ws : List (List ℕ)) (rs : List (List ℤ)) (u v : List ℕ) (k : ℕ) → k < length v → slice_get (replies_from ws rs u v) k ≡ Some (reply_to ws rs (u ++ take (suc k) v))
get-replies_from ws rs u [] k h = absurd (omega arith)
get-replies_from ws rs u (a ∷ v) zero h = refl
get-replies_from ws rs u (a ∷ v) (suc k) h = get-replies_from ws rs (u ++ a ∷ []) v k (omega arith) ∙ ap (λ x. Some (reply_to ws rs x)) (append_assoc u (a ∷ []) (take (suc k) v))

pub push_some : (u v : List ℕ) (a : ℕ) → 0 < length ((u ++ a ∷ []) ++ v)
push_some u v a = omega (arith, length-append (u ++ a ∷ []) v, length-append u (a ∷ []))

pub not_first : (ws : List (List ℕ)) → ArePooled ws → (p : ℕ) (u : List ℕ) → word ws p ≡ u → 0 < length u → 0 < p
not_first ws pooled zero u e some = let no : u ≡ [] = sym e ∙ empty_first ws pooled in absurd (omega (arith, ap length no))
not_first ws pooled (suc p) u e some = omega arith

-- what holds of every reply holds of those to a word
pub each_reply : (P : List ℤ → Type 0) (ws : List (List ℕ)) (rs : List (List ℤ)) → ArePooled ws → length ws ≡ length rs + 1 → All P rs → (u v : List ℕ) → IsThere ws (u ++ v) → All P (replies_from ws rs u v)
each_reply P ws rs pooled size each u [] there = All-nil P
each_reply P ws rs pooled size each u (a ∷ v) there =
    let e : (u ++ a ∷ []) ++ v ≡ u ++ a ∷ v = append_assoc u (a ∷ []) v in
    let whole : IsThere ws ((u ++ a ∷ []) ++ v) = record { place = there.place; inside = there.inside; is = there.is ∙ sym e } in
    let here = prefix_in ws pooled (u ++ a ∷ []) v whole in
    let some : 0 < here.place = not_first ws pooled here.place (u ++ a ∷ []) here.is (omega (arith, length-append u (a ∷ []))) in
    let inside : here.place < length ws = here.inside in
    All-cons P _ _ (subst P (sym (reply_at ws rs pooled (u ++ a ∷ []) here.place here.inside here.is)) (each (here.place - 1) [] (omega arith)))
    (each_reply P ws rs pooled size each (u ++ a ∷ []) v whole)
