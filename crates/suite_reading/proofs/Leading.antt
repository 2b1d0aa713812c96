-- Lines that pass, one after another.
use Rattle.std.proofs.Common.{◌≡◌, List, [], ◌∷◌, ◌++◌, refl, sym, ap, ◌∙◌, subst, Option, None, Some, inl, inr}
use Rattle.std.proofs.lemmas.Option.{same_Some, none-some}
use Rattle.strict_lines.specs.Lines.{Token}
use Rattle.suite_reading.specs.declared.error.Cause.{Cause}
use Rattle.suite_reading.specs.Items.{Item, item_line}
use Rattle.suite_reading.specs.State.{State, next}
use Rattle.suite_reading.specs.Checks.{checks, first_of}
use Rattle.suite_reading.specs.Reading.{Says, RefusesLine, Leads}
use Rattle.suite_reading.specs.inside.Said.{item_of}
use Rattle.suite_reading.specs.inside.Answer.{Answers}
use Rattle.suite_reading.proofs.Saying.{item_is, said_back}

-- an item that the line says, and the state after it
pub record Goes (s : State) (line : List Token) (new : State) : Type 0 where
  pub item : Item
  pub says : Says s line item
  pub is : new ≡ next s item

pub goes_on : (s new : State) (line : List Token) → Answers s (item_of line) new None → Goes s line new
goes_on s new line a = by (item_of line) refl a
  where
    by : (o : Option Item) → item_of line ≡ o → Answers s o new None → Goes s line new
    by None e h = absurd (none-some _ h)
    by (Some i) e h = record { item = i; says = record { is = item_is line i e; passes = sym h.cause }; is = h.taken refl }

pub is_refused : (s new : State) (line : List Token) (cause : Cause) → Answers s (item_of line) new (Some cause) → RefusesLine s line cause
is_refused s new line cause a = by (item_of line) refl a
  where
    by : (o : Option Item) → item_of line ≡ o → Answers s o new (Some cause) → RefusesLine s line cause
    by None e h = inl ((λ i f. none-some i (sym e ∙ ap item_of f ∙ said_back i)), same_Some _ _ h)
    by (Some i) e h = inr (i, (item_is line i e, sym h.cause))

pub leads_push : (s u : State) (lines : List (List Token)) (line : List Token) (i : Item) → Leads s lines u → Says u line i → Leads s (lines ++ line ∷ []) (next u i)
leads_push s u [] line i h says = (i, (subst (λ x. Says x line i) (sym h) says, ap (λ x. next x i) h))
leads_push s u (l ∷ lines) line i h says = (h.0, (h.1.0, leads_push (next s h.0) u lines line i h.1.1 says))

-- a line says one item
pub item_one : (line : List Token) (i j : Item) → line ≡ item_line i → line ≡ item_line j → i ≡ j
item_one line i j e f = same_Some _ _ (sym (said_back i) ∙ ap item_of (sym e ∙ f) ∙ said_back j)

pub leads_one : (s u v : State) (lines : List (List Token)) → Leads s lines u → Leads s lines v → u ≡ v
leads_one s u v [] h k = sym h ∙ k
leads_one s u v (line ∷ lines) h k =
    let same : k.0 ≡ h.0 = item_one line k.0 h.0 k.1.0.is h.1.0.is in
    leads_one (next s h.0) u v lines h.1.1 (subst (λ i. Leads (next s i) lines v) same k.1.1)

pub not_refused : (s : State) (line : List Token) (i : Item) (cause : Cause) → Says s line i → RefusesLine s line cause → ⊥
not_refused s line i cause says (inl h) = h.0 i says.is
not_refused s line i cause says (inr h) =
    let same : h.0 ≡ i = item_one line h.0 i h.1.0 says.is in
    none-some cause (sym says.passes ∙ ap (λ x. first_of (checks s x)) (sym same) ∙ h.1.1)
