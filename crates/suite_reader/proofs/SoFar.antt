-- What was read of a text up to a line's start, and what comes next.
use Rattle.std.proofs.Common.{◌≡◌, ℕ, suc, ◌+◌, ◌-◌, ◌<◌, ◌≤◌, Bool, true, false, cond, eqb, List, [], ◌∷◌, ◌++◌, length, map, take, drop, refl, sym, ap, ◌∙◌, subst, arith, append_assoc, length-append, length-drop, None, Some, Result, Ok, Err, IfOk, IfErr, inl, inr}
use Rattle.std.proofs.lemmas.List.{map-append, nil_from_length}
use Rattle.strict_lines.specs.Lines.{Token, line_tokens, pieces_between, onto}
use Rattle.strict_lines.specs.inside.Places.{IsNext}
use Rattle.strict_lines.proofs.CallerLemmas.{cut_first, cut_last}
use Rattle.subject.specs.Suite.{SuiteParts}
use Rattle.suite_reading.specs.declared.error.Cause.{Cause}
use Rattle.suite_reading.specs.declared.error.Cause.TheVariants as cause
use Rattle.suite_reading.specs.declared.error.SuiteKind.TheVariants as fault
use Rattle.suite_reading.specs.declared.place.Place.TheVariants as place
use Rattle.suite_reading.specs.State.{State, begun, whole}
use Rattle.suite_reading.specs.Reading.{Leads, pieces_of_text, ReadsSuite, RefusesText}
use Rattle.suite_reading.specs.inside.Said.{item_of}
use Rattle.suite_reading.specs.inside.Answer.{Answers}
use Rattle.suite_reading.specs.inside.Kept.{Kept}
use Rattle.suite_reading.proofs.CallerLemmas.{goes_on, is_refused, leads_push, leads_kept, kept_begun}
use Rattle.suite_reader.specs.declared.error.LineError.{LineError}
use Rattle.suite_reader.specs.declared.error.LineError.TheVariants as line_error
use Rattle.suite_reader.specs.declared.error.SuiteError.{SuiteError}
use Rattle.suite_reader.specs.Errors.{IsRefusedBy, error_at}
use Rattle.suite_reader.specs.inside.Reader.{IsAnswered, IsEnd}

-- the lines before this place lead to the state
pub record IsSoFar (text : List ℕ) (from number : ℕ) (state : State) : Type 0 where
  pub upto : from ≤ length text
  pub few : number ≤ from + 1
  pub front : List (List ℕ)
  pub pieces : pieces_of_text text ≡ front ++ pieces_between 10 (drop from text)
  pub counted : number ≡ length front + 1
  pub leads : Leads begun (map line_tokens front) state

pub first : (text : List ℕ) (state : State) → state ≡ begun → IsSoFar text 0 1 state
first text state e = record { upto = omega arith; few = omega arith; front = []; pieces = refl; counted = refl; leads = sym e }

pub kept_so_far : (text : List ℕ) (from number : ℕ) (state : State) → IsSoFar text from number state → Kept state
kept_so_far text from number state h = leads_kept begun state (map line_tokens h.front) kept_begun h.leads

some_pieces : (sep : ℕ) (bs : List ℕ) → 0 < length (pieces_between sep bs)
some_pieces sep [] = omega arith
some_pieces sep (b ∷ bs) = by (eqb b sep)
  where
    onto_some : (qs : List (List ℕ)) → 0 < length (onto b qs)
    onto_some [] = omega arith
    onto_some (q ∷ qs) = omega arith

    by : (c : Bool) → 0 < length (cond c ([] ∷ pieces_between sep bs) (onto b (pieces_between sep bs)))
    by true = omega arith
    by false = onto_some (pieces_between sep bs)

module _ (text : List ℕ) (from number end : ℕ) (s new : State) (h : IsSoFar text from number s) (n : IsNext 10 text from end) (inside : end < length text) where
  line : List ℕ
  line = take (end - from) (drop from text)

  cut : pieces_of_text text ≡ h.front ++ take (end - from) (drop from text) ∷ pieces_between 10 (drop (end + 1) text)
  cut = h.pieces ∙ ap (λ x. h.front ++ x) (cut_first 10 text from end n inside)

  -- the line is taken
  pub goes : Answers s (item_of (line_tokens (take (end - from) (drop from text)))) new None → IsSoFar text (end + 1) (number + 1) new
  goes a =
      let g = goes_on s new (line_tokens (take (end - from) (drop from text))) a in
      record {
        upto = omega (arith, inside);
        few = (let l : from ≤ end = n.later in omega (arith, l, h.few));
        front = h.front ++ take (end - from) (drop from text) ∷ [];
        pieces = cut ∙ sym (append_assoc h.front (take (end - from) (drop from text) ∷ []) (pieces_between 10 (drop (end + 1) text)));
        counted = omega (arith, h.counted, length-append h.front (take (end - from) (drop from text) ∷ []));
        leads = subst (λ ls. Leads begun ls new) (sym (map-append line_tokens h.front (take (end - from) (drop from text) ∷ [])))
            (subst (Leads begun (map line_tokens h.front ++ line_tokens (take (end - from) (drop from text)) ∷ [])) (sym g.is)
            (leads_push begun s (map line_tokens h.front) (line_tokens (take (end - from) (drop from text))) g.item h.leads g.says));
      }

  -- the line is refused
  pub line_refused : (why : Cause) → Answers s (item_of (line_tokens (take (end - from) (drop from text)))) new (Some why) → RefusesText text number why
  line_refused why a = inl (record {
    front = h.front;
    line = take (end - from) (drop from text);
    rest = pieces_between 10 (drop (end + 1) text);
    state = s;
    pieces = cut;
    ended = some_pieces 10 (drop (end + 1) text);
    at = h.counted;
    leads = h.leads;
    refused = is_refused s new (line_tokens (take (end - from) (drop from text))) why a;
  })

  pub refused_at_line : (e : LineError) → IsAnswered s (item_of (line_tokens (take (end - from) (drop from text)))) new (Err e) → IsRefusedBy text (error_at number e)
  refused_at_line (line_error.Refused (cause.Fault kind)) a = line_refused (cause.Fault kind) a
  refused_at_line (line_error.Refused (cause.Limit which)) a = line_refused (cause.Limit which) a
  refused_at_line line_error.Memory a = tt

module _ (text : List ℕ) (from number end : ℕ) (s : State) (h : IsSoFar text from number s) (n : IsNext 10 text from end) (last : end ≡ length text) where
  cut_end : pieces_of_text text ≡ h.front ++ drop from text ∷ []
  cut_end = h.pieces ∙ ap (λ x. h.front ++ x) (cut_last 10 text from end n last)

  -- the text stops within a line or before its end line
  pub end_refused : ¬ ((end - from ≡ 0) × (s.place ≡ place.End)) → RefusesText text number (cause.Fault fault.End)
  end_refused other = inr (
    record {
      front = h.front;
      last = drop from text;
      state = s;
      pieces = cut_end;
      at = h.counted;
      leads = h.leads;
      refused = λ p. other (omega (arith, ap length p.0, length-drop from text, last), p.1);
    },
    refl,
  )

  pub end_read : (suite : SuiteParts) → end - from ≡ 0 → whole suite ≡ s → ReadsSuite text suite
  end_read suite none is =
      let empty : drop from text ≡ [] = nil_from_length (drop from text) (omega (arith, length-drop from text, last, none)) in
      (h.front, (cut_end ∙ ap (λ x. h.front ++ x ∷ []) empty, subst (Leads begun (map line_tokens h.front)) (sym is) h.leads))

  pub refused_at_end : (r : Result SuiteParts SuiteError) → IsEnd s (end - from) number r → IfErr r (IsRefusedBy text)
  refused_at_end (Ok suite) e = tt
  refused_at_end (Err error) e = subst (IsRefusedBy text) (sym e.0) (end_refused e.1)

  pub read_at_end : (r : Result SuiteParts SuiteError) → IsEnd s (end - from) number r → IfOk r (ReadsSuite text)
  read_at_end (Ok suite) e = end_read suite e.0 e.1
  read_at_end (Err error) e = tt
