-- A stage whose values may differ, where what comes next does not tell them apart.
use Rattle.std.proofs.Common.{◌≡◌, ℕ, List, Result, Ok, Err, refl, sym, ◌∙◌, ap, subst, inl, inr}
use Rattle.std.specs.Prelude.{IsSome}
use Rattle.command_stages.specs.declared.stop.Source.{Source}
use Rattle.command_stages.specs.declared.stop.Departure.TheVariants.{Unread}
use Rattle.command_stages.specs.declared.stop.Stop.{Stop}
use Rattle.command_stages.specs.declared.stop.Stop.TheVariants.{Departed}
use Rattle.command_stages.specs.Stage.{Given, Stage, Then, Is, IsAnswer, IsDetermined, IsProper}
use Rattle.command_stages.proofs.Proper.{same_value}

-- two outcomes are like each other, or the same stop
abbrev pub AreLike : {A : Type 0} → (A → A → Type 0) → Result A Stop → Result A Stop → Type 0
AreLike Like (Ok a) (Ok b) = Like a b
AreLike Like (Ok a) (Err y) = ⊥
AreLike Like (Err x) (Ok b) = ⊥
AreLike Like (Err x) (Err y) = x ≡ y

-- a stage comes to values that are like one another, or to one refusal
pub record IsProperBy {A : Type 0} (may_read : Source → Type 0) (Like : A → A → Type 0) (stage : Stage A) : Type 0 where
  pub one : (given : Given) → IsSome given.held → (s t : List Source) (x y : Result A Stop) → IsDetermined x → IsDetermined y → stage given s x → stage given t y → AreLike Like x y
  pub only : (given : Given) (sources : List Source) (source : Source) → stage given sources (Err (Departed (Unread source))) → may_read source

-- what comes next does not tell these values apart
abbrev pub IsMoved : {A B : Type 0} → (A → A → Type 0) → (A → Stage B) → Type 0
IsMoved {A} {B} Like next = (a b : A) → Like a b → (given : Given) (s : List Source) (x : Result B Stop) → next b given s x → next a given s x

one_is : {A : Type 0} (Like : A → A → Type 0) (P : A → Type 0) → ((a b : A) → P a → P b → Like a b) → (given : Given) (s t : List Source) (x y : Result A Stop) → IsDetermined x → IsDetermined y → Is P given s x → Is P given t y → AreLike Like x y
unfolding Is
one_is Like P like given s t (Ok a) (Ok b) d e p q = like a b p.1 q.1
one_is Like P like given s t (Ok a) (Err y) d e p q = let Q : Stop → Type 0 = λ z. IsAnswer z in absurd (subst Q q.1 e)
one_is Like P like given s t (Err x) y d e p q = let Q : Stop → Type 0 = λ z. IsAnswer z in absurd (subst Q p.1 d)

only_is : {A : Type 0} (P : A → Type 0) (given : Given) (s : List Source) (source : Source) → Is P given s (Err (Departed (Unread source))) → ⊥
unfolding Is
only_is P given s source h = let e = h.1 in cc

pub like_is : {A : Type 0} {reads : Source → Type 0} (Like : A → A → Type 0) (P : A → Type 0) → ((a b : A) → P a → P b → Like a b) → IsProperBy reads Like (Is P)
like_is Like P like = record { one = λ given told s t x y d e p q. one_is Like P like given s t x y d e p q; only = λ given s source h. absurd (only_is P given s source h) }

refusals_like : {A B : Type 0} (Like : B → B → Type 0) (x y : Stop) → (let o : Result A Stop = Err x in o) ≡ Err y → AreLike Like (Err x) (Err y)
refusals_like Like x y e = cc

one_after : {A B : Type 0} (reads : Source → Type 0) (Like : B → B → Type 0) (first : Stage A) (next : A → Stage B) → IsProper reads first → ((a : A) → IsProperBy reads Like (next a)) → (given : Given) → IsSome given.held → (s t : List Source) (x y : Result B Stop) → IsDetermined x → IsDetermined y → Then first next given s x → Then first next given t y → AreLike Like x y
unfolding Then
one_after {A} {B} reads Like first next one two given told s t (Ok u) (Ok v) d e (a, f, g, j, p, m) (b, h, k, l, q, n) =
    let P : A → Type 0 = λ z. next z given k (Ok v) in
    (two a).one given told g k (Ok u) (Ok v) tt tt m (subst P (same_value reads first one given told f h a b p q) n)
one_after {A} {B} reads Like first next one two given told s t (Ok u) (Err y) d e (a, f, g, j, p, m) (inl q) = let s = one.one given told f t (Ok a) (Err y) tt e p q in absurd (cc)
one_after {A} {B} reads Like first next one two given told s t (Ok u) (Err y) d e (a, f, g, j, p, m) (inr (b, h, k, l, q, n)) =
    let P : A → Type 0 = λ z. next z given k (Err y) in
    (two a).one given told g k (Ok u) (Err y) tt e m (subst P (same_value reads first one given told f h a b p q) n)
one_after {A} {B} reads Like first next one two given told s t (Err x) (Ok v) d e (inl p) (b, h, k, l, q, n) = let s = one.one given told h s (Ok b) (Err x) tt d q p in absurd (cc)
one_after {A} {B} reads Like first next one two given told s t (Err x) (Ok v) d e (inr (a, f, g, j, p, m)) (b, h, k, l, q, n) =
    let P : A → Type 0 = λ z. next z given k (Ok v) in
    (two a).one given told g k (Err x) (Ok v) d tt m (subst P (same_value reads first one given told f h a b p q) n)
one_after {A} {B} reads Like first next one two given told s t (Err x) (Err y) d e (inl p) (inl q) = refusals_like {A = A} Like x y (one.one given told s t (Err x) (Err y) d e p q)
one_after {A} {B} reads Like first next one two given told s t (Err x) (Err y) d e (inl p) (inr (b, h, k, l, q, n)) = let s = one.one given told h s (Ok b) (Err x) tt d q p in absurd (cc)
one_after {A} {B} reads Like first next one two given told s t (Err x) (Err y) d e (inr (a, f, g, j, p, m)) (inl q) = let s = one.one given told f t (Ok a) (Err y) tt e p q in absurd (cc)
one_after {A} {B} reads Like first next one two given told s t (Err x) (Err y) d e (inr (a, f, g, j, p, m)) (inr (b, h, k, l, q, n)) =
    let P : A → Type 0 = λ z. next z given k (Err y) in
    (two a).one given told g k (Err x) (Err y) d e m (subst P (same_value reads first one given told f h a b p q) n)

only_after : {A B : Type 0} (reads : Source → Type 0) (Like : B → B → Type 0) (first : Stage A) (next : A → Stage B) → IsProper reads first → ((a : A) → IsProperBy reads Like (next a)) → (given : Given) (s : List Source) (source : Source) → Then first next given s (Err (Departed (Unread source))) → reads source
unfolding Then
only_after reads Like first next one two given s source (inl p) = one.only given s source p
only_after reads Like first next one two given s source (inr (a, f, g, j, p, m)) = (two a).only given g source m

-- a stage that ends in values like one another
pub like_then : {A B : Type 0} {reads : Source → Type 0} (Like : B → B → Type 0) (first : Stage A) (next : A → Stage B) → IsProper reads first → ((a : A) → IsProperBy reads Like (next a)) → IsProperBy reads Like (Then first next)
like_then {A} {B} {reads} Like first next one two = record { one = one_after reads Like first next one two; only = only_after reads Like first next one two }

one_beyond : {A B : Type 0} (reads : Source → Type 0) (Like : A → A → Type 0) (first : Stage A) (next : A → Stage B) → IsProperBy reads Like first → ((a : A) → IsProper reads (next a)) → IsMoved Like next → (given : Given) → IsSome given.held → (s t : List Source) (x y : Result B Stop) → IsDetermined x → IsDetermined y → Then first next given s x → Then first next given t y → x ≡ y
unfolding Then
one_beyond {A} {B} reads Like first next one two moved given told s t (Ok u) (Ok v) d e (a, f, g, j, p, m) (b, h, k, l, q, n) =
    (two a).one given told g k (Ok u) (Ok v) tt tt m (moved a b (one.one given told f h (Ok a) (Ok b) tt tt p q) given k (Ok v) n)
one_beyond {A} {B} reads Like first next one two moved given told s t (Ok u) (Err y) d e (a, f, g, j, p, m) (inl q) = absurd (one.one given told f t (Ok a) (Err y) tt e p q)
one_beyond {A} {B} reads Like first next one two moved given told s t (Ok u) (Err y) d e (a, f, g, j, p, m) (inr (b, h, k, l, q, n)) =
    (two a).one given told g k (Ok u) (Err y) tt e m (moved a b (one.one given told f h (Ok a) (Ok b) tt tt p q) given k (Err y) n)
one_beyond {A} {B} reads Like first next one two moved given told s t (Err x) (Ok v) d e (inl p) (b, h, k, l, q, n) = absurd (one.one given told s h (Err x) (Ok b) d tt p q)
one_beyond {A} {B} reads Like first next one two moved given told s t (Err x) (Ok v) d e (inr (a, f, g, j, p, m)) (b, h, k, l, q, n) =
    (two a).one given told g k (Err x) (Ok v) d tt m (moved a b (one.one given told f h (Ok a) (Ok b) tt tt p q) given k (Ok v) n)
one_beyond {A} {B} reads Like first next one two moved given told s t (Err x) (Err y) d e (inl p) (inl q) = ap Err (one.one given told s t (Err x) (Err y) d e p q)
one_beyond {A} {B} reads Like first next one two moved given told s t (Err x) (Err y) d e (inl p) (inr (b, h, k, l, q, n)) = absurd (one.one given told s h (Err x) (Ok b) d tt p q)
one_beyond {A} {B} reads Like first next one two moved given told s t (Err x) (Err y) d e (inr (a, f, g, j, p, m)) (inl q) = absurd (one.one given told f t (Ok a) (Err y) tt e p q)
one_beyond {A} {B} reads Like first next one two moved given told s t (Err x) (Err y) d e (inr (a, f, g, j, p, m)) (inr (b, h, k, l, q, n)) =
    (two a).one given told g k (Err x) (Err y) d e m (moved a b (one.one given told f h (Ok a) (Ok b) tt tt p q) given k (Err y) n)

only_beyond : {A B : Type 0} (reads : Source → Type 0) (Like : A → A → Type 0) (first : Stage A) (next : A → Stage B) → IsProperBy reads Like first → ((a : A) → IsProper reads (next a)) → (given : Given) (s : List Source) (source : Source) → Then first next given s (Err (Departed (Unread source))) → reads source
unfolding Then
only_beyond reads Like first next one two given s source (inl p) = one.only given s source p
only_beyond reads Like first next one two given s source (inr (a, f, g, j, p, m)) = (two a).only given g source m

-- a stage whose values are like one another, and a next one that does not tell them apart
pub proper_beyond : {A B : Type 0} {reads : Source → Type 0} (Like : A → A → Type 0) (first : Stage A) (next : A → Stage B) → IsProperBy reads Like first → ((a : A) → IsProper reads (next a)) → IsMoved Like next → IsProper reads (Then first next)
proper_beyond {A} {B} {reads} Like first next one two moved = record { one = one_beyond reads Like first next one two moved; only = only_beyond reads Like first next one two }

-- what comes after a stage that does not tell these values apart
pub moved_then : {A B C : Type 0} (Like : A → A → Type 0) (next : A → Stage B) (last : B → Stage C) → IsMoved Like next → IsMoved Like (λ a. Then (next a) last)
unfolding Then
moved_then Like next last moved a b like given s (Ok c) (x, u, v, e, p, q) = (x, u, v, e, moved a b like given u (Ok x) p, q)
moved_then Like next last moved a b like given s (Err y) (inl p) = inl (moved a b like given s (Err y) p)
moved_then Like next last moved a b like given s (Err y) (inr (x, u, v, e, p, q)) = inr (x, u, v, e, moved a b like given u (Ok x) p, q)

-- two stages of which neither tells these values apart
pub moved_both : {A B C : Type 0} (Like : A → A → Type 0) (next : A → Stage B) (last : A → B → Stage C) → IsMoved Like next → ((b : B) → IsMoved Like (λ a. last a b)) → IsMoved Like (λ a. Then (next a) (last a))
unfolding Then
moved_both Like next last moved later a b like given s (Ok c) (x, u, v, e, p, q) = (x, u, v, e, moved a b like given u (Ok x) p, later x a b like given v (Ok c) q)
moved_both Like next last moved later a b like given s (Err y) (inl p) = inl (moved a b like given s (Err y) p)
moved_both Like next last moved later a b like given s (Err y) (inr (x, u, v, e, p, q)) = inr (x, u, v, e, moved a b like given u (Ok x) p, later x a b like given v (Err y) q)
