-- A stage has one outcome.
use Rattle.std.proofs.Common.{◌≡◌, ℕ, ◌≤◌, Bool, List, [], ◌++◌, Option, Some, None, Result, Ok, Err, refl, sym, ◌∙◌, ap, subst, arith, ◌⊎◌, inl, inr}
use Rattle.std.specs.Prelude.{IsSome, length}
use Rattle.test_world.specs.Shelf.{Held, Holds, HoldsMoreThan}
use Rattle.command_stages.specs.declared.stop.Refusal.{Refusal}
use Rattle.command_stages.specs.declared.stop.Refusal.TheVariants.{TooLong}
use Rattle.command_stages.specs.declared.stop.Source.{Source}
use Rattle.command_stages.specs.declared.stop.Source.TheVariants.{Word, Replies}
use Rattle.command_stages.specs.declared.stop.Departure.TheVariants.{Unread}
use Rattle.command_stages.specs.declared.stop.Stop.{Stop}
use Rattle.command_stages.specs.declared.stop.Stop.TheVariants.{NoCommand, Refused, Departed}
use Rattle.command_stages.specs.Report.{word_at}
use Rattle.command_stages.specs.Stage.{Given, Stage, Then, Is, Unless, Memoryless, TextAt, Reading, Printed, Prints, IsAnswer, IsDetermined, IsProper, IsDecidedBy}
use Rattle.command_stages.specs.Serve.{Answer, answer, Answering, Whole, IsOne}

ok_same : {A E : Type 0} (a b : A) → (let o : Result A E = Ok a in o) ≡ Ok b → a ≡ b
ok_same a b e = cc

err_same : {A B E : Type 0} (x y : E) → (let o : Result A E = Err x in o) ≡ Err y → (let o : Result B E = Err x in o) ≡ Err y
err_same x y e = let s : x ≡ y = cc in ap Err s

-- the value of the first stage, however it was reached
pub same_value : {A : Type 0} (reads : Source → Type 0) (first : Stage A) → IsProper reads first → (given : Given) → IsSome given.held → (s t : List Source) (a b : A) → first given s (Ok a) → first given t (Ok b) → b ≡ a
same_value reads first one given told s t a b p q = ok_same b a (one.one given told t s (Ok b) (Ok a) tt tt q p)

one_then : {A B : Type 0} (reads : Source → Type 0) (first : Stage A) (next : A → Stage B) → IsProper reads first → ((a : A) → IsProper reads (next a)) → (given : Given) → IsSome given.held → (s t : List Source) (x y : Result B Stop) → IsDetermined x → IsDetermined y → Then first next given s x → Then first next given t y → x ≡ y
unfolding Then
one_then {A} {B} reads first next one two given told s t (Ok u) (Ok v) d e (a, f, g, j, p, m) (b, h, k, l, q, n) =
    let P : A → Type 0 = λ z. next z given k (Ok v) in
    (two a).one given told g k (Ok u) (Ok v) tt tt m (subst P (same_value reads first one given told f h a b p q) n)
one_then {A} {B} reads first next one two given told s t (Ok u) (Err y) d e (a, f, g, j, p, m) (inl q) = let s = one.one given told f t (Ok a) (Err y) tt e p q in absurd (cc)
one_then {A} {B} reads first next one two given told s t (Ok u) (Err y) d e (a, f, g, j, p, m) (inr (b, h, k, l, q, n)) =
    let P : A → Type 0 = λ z. next z given k (Err y) in
    (two a).one given told g k (Ok u) (Err y) tt e m (subst P (same_value reads first one given told f h a b p q) n)
one_then {A} {B} reads first next one two given told s t (Err x) (Ok v) d e (inl p) (b, h, k, l, q, n) = let s = one.one given told h s (Ok b) (Err x) tt d q p in absurd (cc)
one_then {A} {B} reads first next one two given told s t (Err x) (Ok v) d e (inr (a, f, g, j, p, m)) (b, h, k, l, q, n) =
    let P : A → Type 0 = λ z. next z given k (Ok v) in
    (two a).one given told g k (Err x) (Ok v) d tt m (subst P (same_value reads first one given told f h a b p q) n)
one_then {A} {B} reads first next one two given told s t (Err x) (Err y) d e (inl p) (inl q) = err_same x y (one.one given told s t (Err x) (Err y) d e p q)
one_then {A} {B} reads first next one two given told s t (Err x) (Err y) d e (inl p) (inr (b, h, k, l, q, n)) = let s = one.one given told h s (Ok b) (Err x) tt d q p in absurd (cc)
one_then {A} {B} reads first next one two given told s t (Err x) (Err y) d e (inr (a, f, g, j, p, m)) (inl q) = let s = one.one given told f t (Ok a) (Err y) tt e p q in absurd (cc)
one_then {A} {B} reads first next one two given told s t (Err x) (Err y) d e (inr (a, f, g, j, p, m)) (inr (b, h, k, l, q, n)) =
    let P : A → Type 0 = λ z. next z given k (Err y) in
    (two a).one given told g k (Err x) (Err y) d e m (subst P (same_value reads first one given told f h a b p q) n)

only_then : {A B : Type 0} (reads : Source → Type 0) (first : Stage A) (next : A → Stage B) → IsProper reads first → ((a : A) → IsProper reads (next a)) → (given : Given) (s : List Source) (source : Source) → Then first next given s (Err (Departed (Unread source))) → reads source
unfolding Then
only_then reads first next one two given s source (inl p) = one.only given s source p
only_then reads first next one two given s source (inr (a, f, g, j, p, m)) = (two a).only given g source m

pub proper_then : {A B : Type 0} {reads : Source → Type 0} (first : Stage A) (next : A → Stage B) → IsProper reads first → ((a : A) → IsProper reads (next a)) → IsProper reads (Then first next)
proper_then {A} {B} {reads} first next one two = record { one = one_then reads first next one two; only = only_then reads first next one two }

one_is : {A : Type 0} (P : A → Type 0) → ((a b : A) → P a → P b → a ≡ b) → (given : Given) (s t : List Source) (x y : Result A Stop) → IsDetermined x → IsDetermined y → Is P given s x → Is P given t y → x ≡ y
unfolding Is
one_is P same given s t (Ok a) (Ok b) d e p q = ap Ok (same a b p.1 q.1)
one_is P same given s t (Ok a) (Err y) d e p q = let Q : Stop → Type 0 = λ z. IsAnswer z in absurd (subst Q q.1 e)
one_is P same given s t (Err x) y d e p q = let Q : Stop → Type 0 = λ z. IsAnswer z in absurd (subst Q p.1 d)

only_is : {A : Type 0} (P : A → Type 0) (given : Given) (s : List Source) (source : Source) → Is P given s (Err (Departed (Unread source))) → ⊥
unfolding Is
only_is P given s source h = let e = h.1 in cc

pub proper_is : {A : Type 0} {reads : Source → Type 0} (P : A → Type 0) → ((a b : A) → P a → P b → a ≡ b) → IsProper reads (Is P)
proper_is P same = record { one = λ given told s t x y d e p q. one_is P same given s t x y d e p q; only = λ given s source h. absurd (only_is P given s source h) }

pub proper_prints : {reads : Source → Type 0} (passes : Bool) (text : List ℕ) → IsProper reads (Prints passes text)
proper_prints passes text = proper_is _ (λ a b p q. p ∙ sym q)

-- what an outcome of a limit is
abbrev IsLimit : Type 0 → Refusal → Result (Unit {0}) Stop → Type 0
IsLimit met refusal (Ok u) = met → ⊥
IsLimit met refusal (Err stop) = met × (stop ≡ Refused refusal)

limit_of : (met : Type 0) (refusal : Refusal) (given : Given) (s : List Source) (x : Result (Unit {0}) Stop) → IsDetermined x → Unless met refusal given s x → IsLimit met refusal x
unfolding Unless
limit_of met refusal given s (Ok u) d p = p.1
limit_of met refusal given s (Err (Refused other)) d p = (p.1, ap Refused p.2)
limit_of met refusal given s (Err NoCommand) d p = let e = p.1 in absurd (cc)
limit_of met refusal given s (Err (Departed departure)) d p = absurd d

one_limit : (met : Type 0) (refusal : Refusal) (x y : Result (Unit {0}) Stop) → IsLimit met refusal x → IsLimit met refusal y → x ≡ y
one_limit met refusal (Ok a) (Ok b) p q = refl
one_limit met refusal (Ok a) (Err y) p q = absurd (p q.0)
one_limit met refusal (Err x) (Ok b) p q = absurd (q p.0)
one_limit met refusal (Err x) (Err y) p q = ap Err (p.1 ∙ sym q.1)

only_unless : (met : Type 0) (refusal : Refusal) (given : Given) (s : List Source) (source : Source) → Unless met refusal given s (Err (Departed (Unread source))) → ⊥
unfolding Unless
only_unless met refusal given s source h = let e = h.1 in cc

pub proper_unless : {reads : Source → Type 0} (met : Type 0) (refusal : Refusal) → IsProper reads (Unless met refusal)
proper_unless met refusal = record { one = λ given told s t x y d e p q. one_limit met refusal x y (limit_of met refusal given s x d p) (limit_of met refusal given t y e q); only = λ given s source h. absurd (only_unless met refusal given s source h) }

pub proper_so : {A : Type 0} {reads : Source → Type 0} (stage : Stage A) → IsProper reads stage → IsProper reads (Memoryless stage)
unfolding Memoryless
proper_so stage proper = record { one = λ given told s t x y d e p q. proper.one given told s t x y d e p.0 q.0; only = λ given s source h. proper.only given s source h.0 }

some_same : {X : Type 0} (a b : X) → Some a ≡ Some b → a ≡ b
some_same a b e = cc

pub holds_one : (held : Option Held) (name a b : List ℕ) → IsSome held → Holds held name a → Holds held name b → a ≡ b
holds_one None name a b told p q = absurd (cc)
holds_one (Some held) name a b told p q = some_same a b (sym p ∙ q)

holds_most : (held : Option Held) (name a : List ℕ) (most : ℕ) → IsSome held → Holds held name a → length a ≤ most → HoldsMoreThan held name most → ⊥
holds_most None name a most told p few q = absurd (cc)
holds_most (Some held) name a most told p few q =
    let e : a ≡ q.0 = some_same a q.0 (sym p ∙ q.1) in
    let l : length a ≡ length q.0 = ap length e in
    let m = q.2 in omega arith

-- what a determined outcome of a text is
abbrev IsTextOf : ℕ → ℕ → Given → Result (List ℕ) Stop → Type 0
IsTextOf number most given (Ok bytes) = Holds given.held (word_at given.words number) bytes × (length bytes ≤ most)
IsTextOf number most given (Err stop) = (stop ≡ Refused (TooLong number)) × HoldsMoreThan given.held (word_at given.words number) most

text_of : (number most : ℕ) (given : Given) (s : List Source) (x : Result (List ℕ) Stop) → IsDetermined x → TextAt number most given s x → IsTextOf number most given x
unfolding TextAt
text_of number most given s (Ok bytes) d p = (p.1, p.2)
text_of number most given s (Err (Refused refusal)) d p = (ap Refused p.1, p.2)
text_of number most given s (Err NoCommand) d p = let e = p.1 in absurd (cc)
text_of number most given s (Err (Departed departure)) d p = absurd d

one_text : (number most : ℕ) (given : Given) → IsSome given.held → (x y : Result (List ℕ) Stop) → IsTextOf number most given x → IsTextOf number most given y → x ≡ y
one_text number most given told (Ok a) (Ok b) p q = ap Ok (holds_one given.held (word_at given.words number) a b told p.0 q.0)
one_text number most given told (Ok a) (Err y) p q = absurd (holds_most given.held (word_at given.words number) a most told p.0 p.1 q.1)
one_text number most given told (Err x) (Ok b) p q = absurd (holds_most given.held (word_at given.words number) b most told q.0 q.1 p.1)
one_text number most given told (Err x) (Err y) p q = ap Err (p.0 ∙ sym q.0)

only_text : (number most : ℕ) (given : Given) (s : List Source) (source : Source) → TextAt number most given s (Err (Departed (Unread source))) → source ≡ Word number
unfolding TextAt
only_text number most given s source h = h.1

pub proper_text : {reads : Source → Type 0} (number most : ℕ) → reads (Word number) → IsProper reads (TextAt number most)
proper_text {reads} number most may = record { one = λ given told s t x y d e p q. one_text number most given told x y (text_of number most given s x d p) (text_of number most given t y e q); only = λ given s source h. subst reads (sym (only_text number most given s source h)) may }

-- the refusal of a text, as what a reader tells of it
record IsTold {C : Type 0} (refusal : ℕ → C → Refusal) (refuses : ℕ → C → Type 0) (stop : Stop) : Type 0 where
  line : ℕ
  what : C
  refused : refuses line what
  is : stop ≡ Refused (refusal line what)

told : {A C : Type 0} (refusal : ℕ → C → Refusal) (reads : A → Type 0) (refuses : ℕ → C → Type 0) (given : Given) (s : List Source) (stop : Stop) → IsAnswer stop → Reading refusal reads refuses given s (Err stop) → IsTold refusal refuses stop
unfolding Reading
told refusal reads refuses given s (Refused other) d h = record { line = h.1; what = h.2; refused = h.4; is = ap Refused h.3 }
told refusal reads refuses given s NoCommand d h = let e = h.1 in absurd (cc)
told refusal reads refuses given s (Departed departure) d h = absurd d

reads_of : {A C : Type 0} (refusal : ℕ → C → Refusal) (reads : A → Type 0) (refuses : ℕ → C → Type 0) (given : Given) (s : List Source) (a : A) → Reading refusal reads refuses given s (Ok a) → reads a
unfolding Reading
reads_of refusal reads refuses given s a h = h.1

one_reading : {A C : Type 0} (refusal : ℕ → C → Refusal) (reads : A → Type 0) (refuses : ℕ → C → Type 0) → IsDecidedBy reads refuses → (given : Given) (s t : List Source) (x y : Result A Stop) → IsDetermined x → IsDetermined y → Reading refusal reads refuses given s x → Reading refusal reads refuses given t y → x ≡ y
one_reading refusal reads refuses decided given s t (Ok a) (Ok b) d e p q = ap Ok (decided.one_reading a b (reads_of refusal reads refuses given s a p) (reads_of refusal reads refuses given t b q))
one_reading refusal reads refuses decided given s t (Ok a) (Err y) d e p q = let u = told refusal reads refuses given t y e q in absurd (decided.apart a u.line u.what (reads_of refusal reads refuses given s a p) u.refused)
one_reading refusal reads refuses decided given s t (Err x) (Ok b) d e p q = let u = told refusal reads refuses given s x d p in absurd (decided.apart b u.line u.what (reads_of refusal reads refuses given t b q) u.refused)
one_reading refusal reads refuses decided given s t (Err x) (Err y) d e p q =
    let u = told refusal reads refuses given s x d p in
    let v = told refusal reads refuses given t y e q in
    let w = decided.one_refusal u.line v.line u.what v.what u.refused v.refused in
    ap Err (u.is ∙ (λ i. Refused (refusal (w.0 i) (w.1 i))) ∙ sym v.is)

only_reading : {A C : Type 0} (refusal : ℕ → C → Refusal) (reads : A → Type 0) (refuses : ℕ → C → Type 0) (given : Given) (s : List Source) (source : Source) → Reading refusal reads refuses given s (Err (Departed (Unread source))) → ⊥
unfolding Reading
only_reading refusal reads refuses given s source h = let e = h.1 in cc

pub proper_reading : {A C : Type 0} {may : Source → Type 0} (refusal : ℕ → C → Refusal) (reads : A → Type 0) (refuses : ℕ → C → Type 0) → IsDecidedBy reads refuses → IsProper may (Reading refusal reads refuses)
proper_reading refusal reads refuses decided = record { one = λ given told_it s t x y d e p q. one_reading refusal reads refuses decided given s t x y d e p q; only = λ given s source h. absurd (only_reading refusal reads refuses given s source h) }

one_whole : (stage : Stage Printed) (given : Given) (s t : List Source) → ((x y : Result Printed Stop) → IsDetermined x → IsDetermined y → stage given s x → stage given t y → x ≡ y) → (a b : List ℕ) (x y : Result Bool Stop) → IsDetermined x → IsDetermined y → Whole stage given s (answer a x) → Whole stage given t (answer b y) → answer a x ≡ answer b y
one_whole stage given s t one a b (Ok p) (Ok q) d e f g = ap (λ (r : Printed). answer r.text (Ok r.passes)) (ok_same (let r : Printed = record { passes = p; text = a } in r) (let r : Printed = record { passes = q; text = b } in r) (one (Ok (record { passes = p; text = a })) (Ok (record { passes = q; text = b })) tt tt f g))
one_whole stage given s t one a b (Ok p) (Err y) d e f g = let s = one (Ok (record { passes = p; text = a })) (Err y) tt e f g.1 in absurd (cc)
one_whole stage given s t one a b (Err x) (Ok q) d e f g = let s = one (Err x) (Ok (record { passes = q; text = b })) d tt f.1 g in absurd (cc)
one_whole stage given s t one a b (Err x) (Err y) d e f g = (λ i. answer ((f.0 ∙ sym g.0) i) (err_same x y (one (Err x) (Err y) d e f.1 g.1) i))

pub whole_one : (may : Source → Type 0) (stage : Stage Printed) → IsProper may stage → (given : Given) → IsSome given.held → (s t : List Source) (x y : Answer) → IsDetermined x.ends → IsDetermined y.ends → Whole stage given s x → Whole stage given t y → x ≡ y
whole_one may stage proper given told s t x y d e p q = one_whole stage given s t (λ a b f g. proper.one given told s t a b f g) x.put y.put x.ends y.ends d e p q
