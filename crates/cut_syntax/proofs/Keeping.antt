-- What is kept from line to line.
use Rattle.std.proofs.Common.{◌≡◌, ℕ, true, List, [], ◌∷◌, ◌++◌, length, Some, None, refl, ◌∙◌, ap}
use Rattle.std.specs.Prelude.{Ok, Err}
use Rattle.std.proofs.lemmas.List.Elements.{All-nil, All-cons, All-append}
use Rattle.lin_form.specs.declared.form.Comparison.{Comparison}
use Rattle.lin_form.specs.declared.signature.Signature.{Signature}
use Rattle.chart_model.specs.Cuts.{IsCut}
use Rattle.text_lines.specs.Reading.{Leads}
use Rattle.text_lines.proofs.CallerLemmas.{leads_keep}
use Rattle.line_forms.specs.declared.cuts.CutsForm.{CutsForm}
use Rattle.chart_syntax.specs.Reading.{LineOf, parsed_next}
use Rattle.cut_syntax.specs.Cuts.{CutsState, TakesCut, begin, next}
use Rattle.cut_syntax.specs.inside.Lines.{AreRead}

pub nothing_read : (signature : Signature) → AreRead (begin signature)
nothing_read signature = record { cuts = All-nil IsCut; over = All-nil (λ (cut : Comparison). length cut.form.inputs ≡ length signature.inputs) }

-- with one cut more
pub one_more : (s : CutsState) (cut : Comparison) → AreRead s → IsCut cut → length cut.form.inputs ≡ length s.signature.inputs
    → AreRead (record s { begun = true; cuts = s.cuts ++ cut ∷ [] })
one_more s cut read is wide = record {
  cuts = All-append IsCut s.cuts (cut ∷ []) read.cuts (All-cons IsCut cut [] is (All-nil IsCut));
  over =
      let Wide : Comparison → Type 0 = λ c. length c.form.inputs ≡ length s.signature.inputs in
      All-append Wide s.cuts (cut ∷ []) read.over (All-cons Wide cut [] wide (All-nil Wide));
}

next_signature : (s : CutsState) (parsed : LineOf CutsForm) → (parsed_next next s parsed).signature ≡ s.signature
next_signature s (Err error) = refl
next_signature s (Ok None) = refl
next_signature s (Ok (Some parsed)) = refl

-- the lines keep the signature
pub same_signature : (lines : List (List ℕ)) (s t : CutsState) → Leads TakesCut s lines t → t.signature ≡ s.signature
same_signature lines s t leads =
    leads_keep (λ u. u.signature ≡ s.signature) TakesCut (λ u v line same taken. ap (λ w. w.signature) taken.3 ∙ next_signature u taken.0
    ∙ same) lines s t refl leads
