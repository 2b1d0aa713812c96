-- Turns one after another, and what was sent in them.
use Rattle.std.proofs.Common.{◌≡◌, ◌≢◌, ℕ, ℤ, List, [], ◌∷◌, ◌++◌, Option, Some, None, refl, sym, ap, ◌∙◌, subst, append_assoc, append-nil}
use Rattle.std.proofs.lemmas.List.Concat.{flat_map-append}
use Rattle.test_world.specs.Growth.{IsLonger}
use Rattle.test_world.specs.Sink.{SinkState}
use Rattle.test_world.proofs.Growing.{grows_by_nothing, grows_by_both, prefix_after, prefix_before}
use Rattle.test_subject.specs.Subject.{SubjectState, IsAhead, Gives, Sends, SendsPrefix}
use Rattle.test_subject.specs.Exchange.{Turn, Step, turn_line, lines, exchange}
use Rattle.suite_run.specs.inside.Running.{turn_replies, replies, Ran, Stopped}
use Rattle.suite_run.proofs.Turns.{exchange-ran, exchange-differs, exchange-next}

ahead_none : {A : Type 0} (o : Option (List A)) → IsAhead o o []
ahead_none None = tt
ahead_none (Some xs) = refl

ahead_both : {A : Type 0} (a b c : Option (List A)) (x y : List A) → IsAhead a b x → IsAhead b c y → IsAhead a c (x ++ y)
ahead_both None None None x y h k = tt
ahead_both None None (Some c) x y h k = k
ahead_both None (Some b) c x y h k = absurd h
ahead_both (Some a) None c x y h k = absurd h
ahead_both (Some a) (Some b) None x y h k = k
ahead_both (Some a) (Some b) (Some c) x y h k = h ∙ ap (λ l. x ++ l) k ∙ sym (append_assoc x y c)

-- what is told in front is told behind
ahead_told : {A : Type 0} (a b : Option (List A)) (x before : List A) → IsAhead a b x → a ≡ Some before → (left : List A) × (before ≡ x ++ left)
ahead_told None b x before h e = absurd (cc)
ahead_told (Some a) None x before h e = absurd h
ahead_told (Some a) (Some b) x before h e = (b, sym (same e) ∙ h)
  where
    same : Some a ≡ Some before → a ≡ before
    same e = cc

abbrev sink : Option (List ℕ) → SinkState
sink sent = record { taken = sent; faults = 0; puts = 0 }

pub sends_after : (a b c : SubjectState) (front rest : List ℕ) → Sends a b front → SendsPrefix b c rest → SendsPrefix a c (front ++ rest)
sends_after a b c front rest h k = prefix_after (sink a.sent) (sink b.sent) (sink c.sent) front rest h k

pub sends_before : (a b : SubjectState) (front rest : List ℕ) → SendsPrefix a b front → SendsPrefix a b (front ++ rest)
sends_before a b front rest h = prefix_before (sink a.sent) (sink b.sent) front rest h

pub ran_none : (a : SubjectState) → Ran a a []
ran_none a = record { coming = ahead_none a.coming; sent = grows_by_nothing a.sent }

pub ran_both : {a b c : SubjectState} {x y : List Turn} → Ran a b x → Ran b c y → Ran a c (x ++ y)
ran_both {a} {b} {c} {x} {y} h k = record {
  coming = subst (λ (l : List (List ℤ)). IsAhead a.coming c.coming l) (sym (flat_map-append turn_replies x y)) (ahead_both a.coming b.coming c.coming (replies x) (replies y) h.coming k.coming);
  sent = subst (λ (l : List ℕ). IsLonger a.sent c.sent l) (sym (flat_map-append turn_line x y)) (grows_by_both a.sent b.sent c.sent (lines x) (lines y) h.sent k.sent);
}

-- one call that succeeded
pub ran_one : {a b : SubjectState} (t : Turn) → Gives a b (turn_replies t) → Sends a b (turn_line t) → Ran a b (t ∷ [])
ran_one {a} {b} t coming sent = record {
  coming = subst (λ (l : List (List ℤ)). IsAhead a.coming b.coming l) (sym (append-nil (turn_replies t))) coming;
  sent = subst (λ (l : List ℕ). IsLonger a.sent b.sent l) (sym (append-nil (turn_line t))) sent;
}

-- one call that failed
pub stopped_one : {a b : SubjectState} (t : Turn) (rest : List Turn) → SendsPrefix a b (turn_line t) → Stopped a b (t ∷ rest)
stopped_one {a} {b} t rest sent = record { done = []; next = t; rest = rest; between = a; is = refl; ran = ran_none a; sent = sent }

pub stopped_after : {a b c : SubjectState} {x y : List Turn} → Ran a b x → Stopped b c y → Stopped a c (x ++ y)
stopped_after {a} {b} {c} {x} {y} h k = record {
  done = x ++ k.done;
  next = k.next;
  rest = k.rest;
  between = k.between;
  is = ap (λ l. x ++ l) k.is ∙ sym (append_assoc x k.done (k.next ∷ k.rest));
  ran = ran_both h k.ran;
  sent = k.sent;
}

pub stopped_before : {a b : SubjectState} {x : List Turn} (y : List Turn) → Stopped a b x → Stopped a b (x ++ y)
stopped_before {a} {b} {x} y h = record {
  done = h.done;
  next = h.next;
  rest = h.rest ++ y;
  between = h.between;
  is = ap (λ l. l ++ y) h.is ∙ append_assoc h.done (h.next ∷ h.rest) y;
  ran = h.ran;
  sent = h.sent;
}

-- at a fault a prefix of the lines of all turns was sent
pub stopped_lines : {a b : SubjectState} {x : List Turn} → Stopped a b x → SendsPrefix a b (lines x)
stopped_lines {a} {b} {x} h =
    let whole : lines x ≡ (lines h.done ++ turn_line h.next) ++ lines h.rest =
    ap lines h.is ∙ flat_map-append turn_line h.done (h.next ∷ h.rest) ∙ sym (append_assoc (lines h.done) (turn_line h.next) (lines h.rest)) in
    subst (SendsPrefix a b) (sym whole) (sends_before a b (lines h.done ++ turn_line h.next) (lines h.rest) (sends_after a h.between b (lines h.done) (turn_line h.next) h.ran.sent h.sent))

-- and no more than the exchange
pub stopped_exchange : {a b : SubjectState} {x : List Turn} (coming : List (List ℤ)) → Stopped a b x → a.coming ≡ Some coming → SendsPrefix a b (exchange x coming)
stopped_exchange {a} {b} {x} coming h told =
    let left = ahead_told a.coming h.between.coming (replies h.done) coming h.ran.coming told in
    let next = exchange-next h.next h.rest left.0 in
    let whole : exchange x coming ≡ (lines h.done ++ turn_line h.next) ++ next.0 =
    ap (λ l. exchange l coming) h.is ∙ exchange-ran h.done (h.next ∷ h.rest) coming left.0 left.1 ∙ ap (λ l. lines h.done ++ l) next.1 ∙ sym (append_assoc (lines h.done) (turn_line h.next) next.0) in
    subst (SendsPrefix a b) (sym whole) (sends_before a b (lines h.done ++ turn_line h.next) next.0 (sends_after a h.between b (lines h.done) (turn_line h.next) h.ran.sent h.sent))

-- where all replies are the expected ones, the exchange is whole
pub ran_exchange : {a b : SubjectState} {x : List Turn} (coming : List (List ℤ)) → Ran a b x → a.coming ≡ Some coming → Sends a b (exchange x coming)
ran_exchange {a} {b} {x} coming h told =
    let left = ahead_told a.coming b.coming (replies x) coming h.coming told in
    let whole : exchange x coming ≡ lines x =
    ap (λ l. exchange l coming) (sym (append-nil x)) ∙ exchange-ran x [] coming left.0 left.1 ∙ append-nil (lines x) in
    subst (Sends a b) (sym whole) h.sent

-- where a reply differs, it ends there
pub differs_exchange : {a b : SubjectState} (x y : List Turn) (i g e : List ℤ) (coming : List (List ℤ)) → Ran a b (x ++ Step i g ∷ []) → g ≢ e → a.coming ≡ Some coming → Sends a b (exchange (x ++ Step i e ∷ y) coming)
differs_exchange {a} {b} x y i g e coming h differs told =
    let left = ahead_told a.coming b.coming (replies (x ++ Step i g ∷ [])) coming h.coming told in
    subst (Sends a b) (sym (exchange-differs x y i g e coming left.0 differs left.1)) h.sent
