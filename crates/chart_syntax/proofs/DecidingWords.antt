-- A text is read or refused as a word over a chart in one way, and its vectors lie in the box.
use Rattle.std.proofs.Common.{◌≡◌, ℕ, List, [], ℤ, Option, Some, None, refl, sym, ◌∙◌, ap, subst, inl, inr}
use Rattle.std.specs.Prelude.{Ok, Err}
use Rattle.std.specs.List.{All}
use Rattle.std.proofs.lemmas.List.Elements.{All-nil, All-cons, All-append}
use Rattle.chart_model.specs.declared.chart.Chart.{Chart}
use Rattle.lin_form.proofs.CallerLemmas.{length-IsInInputRanges}
use Rattle.text_lines.specs.Reading.{Leads}
use Rattle.text_lines.proofs.CallerLemmas.{decided, one_step, some_step, leads_keep}
use Rattle.line_forms.specs.declared.statement.Signed.{Signed}
use Rattle.line_forms.specs.Parsing.{AreParsed, IsParsed}
use Rattle.chart_syntax.specs.declared.error.Kind.TheVariants as kind
use Rattle.chart_syntax.specs.declared.error.Refusal.{Refusal}
use Rattle.chart_syntax.specs.declared.error.Refusal.TheVariants.{Fault}
use Rattle.chart_syntax.specs.Checks.{line_error_of}
use Rattle.chart_syntax.specs.Reading.{LineOf, refusal_in}
use Rattle.chart_syntax.specs.Words.{IsInBox, IsWhole, ChecksVector, ChecksNumbers, ChecksParsed, IsWordLine, WordState, vector_of}
use Rattle.chart_syntax.specs.Words.{vectors_in, vectors_of, next_vectors, TakesVector, nothing_missing, begin, IsDecidedWord}
use Rattle.chart_syntax.proofs.CallerLemmas.{IsOneParse, IsSomeParse}

whole_box : (chart : Chart) (vector : List ℤ) → IsInBox chart vector → IsWhole chart vector
whole_box chart vector h = sym (length-IsInInputRanges chart.signature.inputs vector h.ranges)

-- a line's numbers have one check's answer
one_vector_check : (chart : Chart) (vector : List ℤ) (a b : Option Refusal) → ChecksVector chart vector a → ChecksVector chart vector b → a ≡ b
one_vector_check chart vector None None p q = refl
one_vector_check chart vector None (Some s) p (inl q) = absurd (q.0 (whole_box chart vector p))
one_vector_check chart vector None (Some s) p (inr q) = absurd (q.1 p)
one_vector_check chart vector (Some r) None (inl p) q = absurd (p.0 (whole_box chart vector q))
one_vector_check chart vector (Some r) None (inr p) q = absurd (p.1 q)
one_vector_check chart vector (Some r) (Some s) (inl p) (inl q) = ap Some (p.1 ∙ sym q.1)
one_vector_check chart vector (Some r) (Some s) (inl p) (inr q) = absurd (p.0 q.0)
one_vector_check chart vector (Some r) (Some s) (inr p) (inl q) = absurd (q.0 p.0)
one_vector_check chart vector (Some r) (Some s) (inr p) (inr q) = ap Some (p.2 ∙ sym q.2)

one_numbers_check : (chart : Chart) (numbers : Option (List Signed)) (a b : Option Refusal) → ChecksNumbers chart numbers a
    → ChecksNumbers chart numbers b → a ≡ b
one_numbers_check chart None a b p q = p ∙ sym q
one_numbers_check chart (Some numbers) a b p q = one_vector_check chart (vector_of numbers) a b p q

one_check : (chart : Chart) (parsed : LineOf (List Signed)) (a b : Option Refusal) → ChecksParsed chart parsed a → ChecksParsed chart parsed b → a ≡ b
one_check chart (Err error) a b p q = p ∙ sym q
one_check chart (Ok None) a b p q = p ∙ sym q
one_check chart (Ok (Some parsed)) a b p q = one_numbers_check chart parsed.form a b p q

-- it cannot be that a line's numbers have none
some_vector_check : (chart : Chart) (vector : List ℤ) → ((a : Option Refusal) → ChecksVector chart vector a → ⊥) → ⊥
some_vector_check chart vector h = h (Some (Fault kind.Form)) (inl (λ whole. h (Some (Fault kind.OutOfBox)) (inr (whole, (λ box. h None box), refl)), refl))

some_numbers_check : (chart : Chart) (numbers : Option (List Signed)) → ((a : Option Refusal) → ChecksNumbers chart numbers a → ⊥) → ⊥
some_numbers_check chart None h = h (Some (Fault kind.Form)) refl
some_numbers_check chart (Some numbers) h = some_vector_check chart (vector_of numbers) h

some_check : (chart : Chart) (parsed : LineOf (List Signed)) → ((a : Option Refusal) → ChecksParsed chart parsed a → ⊥) → ⊥
some_check chart (Err error) h = h (refusal_in (line_error_of error)) refl
some_check chart (Ok None) h = h None refl
some_check chart (Ok (Some parsed)) h = some_numbers_check chart parsed.form h

pub word_decided : IsOneParse IsWordLine → IsSomeParse IsWordLine → (chart : Chart) (text : List ℕ) → IsDecidedWord chart text
word_decided one some chart text =
    decided TakesVector nothing_missing (λ s vectors. s.vectors ≡ vectors) (λ s. Unit {0}) (begin chart) text
    (one_step (IsParsed (AreParsed IsWordLine)) (λ s parsed. ChecksParsed s.chart parsed) next_vectors one (λ s. one_check s.chart))
    (some_step (IsParsed (AreParsed IsWordLine)) (λ s parsed. ChecksParsed s.chart parsed) next_vectors some (λ s. some_check s.chart))
    tt (λ s t line k h. tt) (λ s a b p q. sym p ∙ q) (λ s k e none. none s.vectors refl)

numbers_in_box : (chart : Chart) (numbers : Option (List Signed)) → ChecksNumbers chart numbers None → All (IsInBox chart) (vectors_in numbers)
numbers_in_box chart None h = All-nil (IsInBox chart)
numbers_in_box chart (Some numbers) h = All-cons (IsInBox chart) (vector_of numbers) [] h (All-nil (IsInBox chart))

parsed_in_box : (chart : Chart) (parsed : LineOf (List Signed)) → ChecksParsed chart parsed None → All (IsInBox chart) (vectors_of parsed)
parsed_in_box chart (Err error) h = All-nil (IsInBox chart)
parsed_in_box chart (Ok None) h = All-nil (IsInBox chart)
parsed_in_box chart (Ok (Some parsed)) h = numbers_in_box chart parsed.form h

-- the vectors so far lie in the box of this chart
record IsInside (chart : Chart) (s : WordState) : Type 0 where
  pub same : s.chart ≡ chart
  pub inside : All (IsInBox chart) s.vectors

stays_inside : (chart : Chart) (s t : WordState) (line : List ℕ) → IsInside chart s → TakesVector s line (Ok t) → IsInside chart t
stays_inside chart s t line p h = subst (IsInside chart) (sym h.3) (record {
  same = p.same;
  inside = All-append (IsInBox chart) s.vectors (vectors_of h.0) p.inside
      (parsed_in_box chart h.0 (subst (λ c. ChecksParsed c h.0 None) p.same h.2));
})

pub all_in_box : (chart : Chart) (lines : List (List ℕ)) (t : WordState) → Leads TakesVector (begin chart) lines t → All (IsInBox chart) t.vectors
all_in_box chart lines t h =
    let start : IsInside chart (begin chart) = record { same = refl; inside = All-nil (IsInBox chart) } in
    (leads_keep (IsInside chart) TakesVector (stays_inside chart) lines (begin chart) t start h).inside
