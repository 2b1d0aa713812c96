-- Tokens say one item at most, and it is the one that they are printed from.
use Rattle.std.proofs.Common.{◌≡◌, ℕ, ℤ, pos, Bool, true, false, cond, List, [], ◌∷◌, refl, ap, ◌∙◌, codes, Option, None, Some, ◌⊎◌, inl, inr}
use Rattle.std.specs.Str.{bytes_eq}
use Rattle.std.specs.Ordering.{int_eq}
use Rattle.std.proofs.lemmas.Bool.Decides.{Decides-int_eq}
use Rattle.std.proofs.lemmas.Slice.Eq.{bytes_eq-Decides}
use Rattle.std.proofs.lemmas.Option.{same_Some, none-some}
use Rattle.strict_lines.specs.Lines.{Token, Number, Word}
use Rattle.suite_model.specs.Text.{numbers, step_line}
use Rattle.suite_reading.specs.Items.{Item, SuiteLine, InputLine, OutputLine, BoundLine, StatesLine, ClassLine, CoverLine, MarkLine, TestLine, StepLine, EndLine, item_line, number_line}
use Rattle.suite_reading.specs.inside.Said.{with_first, values, list_item, number_item, suite_item, input_item, output_item, word_item, after_slash, with_number, step_values, step_item, item_of}

pub values_numbers : (zs : List ℤ) → values (numbers zs) ≡ Some zs
values_numbers [] = refl
values_numbers (z ∷ zs) = ap (with_first z) (values_numbers zs)

step_back : (v r : List ℤ) → step_values (step_line v r) ≡ Some (v, r)
step_back [] r = ap (after_slash (codes "/")) (values_numbers r)
step_back (z ∷ v) r = ap (with_number z) (step_back v r)

-- each item is what its line says
pub said_back : (i : Item) → item_of (item_line i) ≡ Some i
said_back SuiteLine = refl
said_back (InputLine name low high) = refl
said_back (OutputLine name) = refl
said_back (BoundLine m) = refl
said_back (StatesLine n) = refl
said_back (ClassLine zs) = ap (list_item ClassLine) (values_numbers zs)
said_back (CoverLine zs) = ap (list_item CoverLine) (values_numbers zs)
said_back (MarkLine zs) = ap (list_item MarkLine) (values_numbers zs)
said_back (TestLine zs) = ap (list_item TestLine) (values_numbers zs)
said_back (StepLine [] r) = ap (λ o. step_item (after_slash (codes "/") o)) (values_numbers r)
said_back (StepLine (z ∷ v) r) = ap step_item (step_back (z ∷ v) r)
said_back (EndLine z) = refl

pub values_are : (tokens : List Token) (zs : List ℤ) → values tokens ≡ Some zs → tokens ≡ numbers zs
values_are [] zs e = ap numbers (same_Some _ _ e)
values_are (Word w ∷ tokens) zs e = absurd (none-some zs e)
values_are (Number z ∷ tokens) zs e = by (λ ys f. values_are tokens ys f) (values tokens) refl e
  where
    by : ((ys : List ℤ) → values tokens ≡ Some ys → tokens ≡ numbers ys) → (o : Option (List ℤ)) → values tokens ≡ o → with_first z o ≡ Some zs → Number z ∷ tokens ≡ numbers zs
    by are None f g = absurd (none-some zs g)
    by are (Some ys) f g = ap (λ x. Number z ∷ x) (are ys f) ∙ ap numbers (same_Some _ _ g)

slash_is : (w : List ℕ) (tokens : List Token) (step : List ℤ × List ℤ) → after_slash w (values tokens) ≡ Some step → Word w ∷ tokens ≡ step_line step.0 step.1
slash_is w tokens step e = by (values tokens) refl e
  where
    by : (o : Option (List ℤ)) → values tokens ≡ o → after_slash w o ≡ Some step → Word w ∷ tokens ≡ step_line step.0 step.1
    by None f g = absurd (none-some step g)
    by (Some reply) f g = here (bytes_eq w (codes "/")) refl g
      where
        here : (b : Bool) → bytes_eq w (codes "/") ≡ b → cond b (Some ([], reply)) None ≡ Some step → Word w ∷ tokens ≡ step_line step.0 step.1
        here false h k = absurd (none-some step k)
        here true h k = ap (λ x. Word x ∷ tokens) ((bytes_eq-Decides w (codes "/")).0 h) ∙ ap (λ x. Word (codes "/") ∷ x) (values_are tokens reply f)
            ∙ ap (λ (x : List ℤ × List ℤ). step_line x.0 x.1) (same_Some _ _ k)

step_values_are : (tokens : List Token) (step : List ℤ × List ℤ) → step_values tokens ≡ Some step → tokens ≡ step_line step.0 step.1
step_values_are [] step e = absurd (none-some step e)
step_values_are (Word w ∷ tokens) step e = slash_is w tokens step e
step_values_are (Number z ∷ tokens) step e = by (λ rest f. step_values_are tokens rest f) (step_values tokens) refl e
  where
    by : ((rest : List ℤ × List ℤ) → step_values tokens ≡ Some rest → tokens ≡ step_line rest.0 rest.1) → (o : Option (List ℤ × List ℤ)) → step_values tokens ≡ o → with_number z o ≡ Some step → Number z ∷ tokens ≡ step_line step.0 step.1
    by are None f g = absurd (none-some step g)
    by are (Some rest) f g = ap (λ x. Number z ∷ x) (are rest f) ∙ ap (λ (x : List ℤ × List ℤ). step_line x.0 x.1) (same_Some _ _ g)

step_is : (tokens : List Token) (i : Item) → step_item (step_values tokens) ≡ Some i → tokens ≡ item_line i
step_is tokens i e = by (step_values tokens) refl e
  where
    by : (o : Option (List ℤ × List ℤ)) → step_values tokens ≡ o → step_item o ≡ Some i → tokens ≡ item_line i
    by None f g = absurd (none-some i g)
    by (Some step) f g = step_values_are tokens step f ∙ ap item_line (same_Some _ _ g)

chosen : {X : Type 0} (b : Bool) (x y z : X) → cond b x y ≡ z → ((b ≡ true) × (x ≡ z)) ⊎ ((b ≡ false) × (y ≡ z))
chosen true x y z e = inl (refl, e)
chosen false x y z e = inr (refl, e)

list_is : (keyword : List ℕ) (make : List ℤ → Item) → ((zs : List ℤ) → Word keyword ∷ numbers zs ≡ item_line (make zs)) → (tokens : List Token) (i : Item) → list_item make (values tokens) ≡ Some i → Word keyword ∷ tokens ≡ item_line i
list_is keyword make shape tokens i e = by (values tokens) refl e
  where
    by : (o : Option (List ℤ)) → values tokens ≡ o → list_item make o ≡ Some i → Word keyword ∷ tokens ≡ item_line i
    by None f g = absurd (none-some i g)
    by (Some zs) f g = ap (λ x. Word keyword ∷ x) (values_are tokens zs f) ∙ shape zs ∙ ap item_line (same_Some _ _ g)

number_is : (keyword : List ℕ) (make : ℤ → Item) → ((z : ℤ) → number_line keyword z ≡ item_line (make z)) → (tokens : List Token) (i : Item) → number_item make tokens ≡ Some i → Word keyword ∷ tokens ≡ item_line i
number_is keyword make shape [] i e = absurd (none-some i e)
number_is keyword make shape (Word w ∷ tokens) i e = absurd (none-some i e)
number_is keyword make shape (Number z ∷ []) i e = shape z ∙ ap item_line (same_Some _ _ e)
number_is keyword make shape (Number z ∷ t ∷ tokens) i e = absurd (none-some i e)

suite_is : (tokens : List Token) (i : Item) → suite_item tokens ≡ Some i → Word (codes "suite") ∷ tokens ≡ item_line i
suite_is [] i e = absurd (none-some i e)
suite_is (Word w ∷ tokens) i e = absurd (none-some i e)
suite_is (Number z ∷ t ∷ tokens) i e = absurd (none-some i e)
suite_is (Number z ∷ []) i e = by (chosen (int_eq z (pos 1)) (Some SuiteLine) None (Some i) e)
  where
    by : ((int_eq z (pos 1) ≡ true) × (Some SuiteLine ≡ Some i)) ⊎ ((int_eq z (pos 1) ≡ false) × (None ≡ Some i)) → Word (codes "suite") ∷ Number z ∷ [] ≡ item_line i
    by (inl h) = ap (λ x. Word (codes "suite") ∷ Number x ∷ []) ((Decides-int_eq z (pos 1)).0 h.0) ∙ ap item_line (same_Some _ _ h.1)
    by (inr h) = absurd (none-some i h.1)

input_is : (tokens : List Token) (i : Item) → input_item tokens ≡ Some i → Word (codes "input") ∷ tokens ≡ item_line i
input_is (Word name ∷ Number low ∷ Number high ∷ []) i e = ap item_line (same_Some _ _ e)
input_is [] i e = absurd (none-some i e)
input_is (Number z ∷ tokens) i e = absurd (none-some i e)
input_is (Word name ∷ []) i e = absurd (none-some i e)
input_is (Word name ∷ Word w ∷ tokens) i e = absurd (none-some i e)
input_is (Word name ∷ Number low ∷ []) i e = absurd (none-some i e)
input_is (Word name ∷ Number low ∷ Word w ∷ tokens) i e = absurd (none-some i e)
input_is (Word name ∷ Number low ∷ Number high ∷ t ∷ tokens) i e = absurd (none-some i e)

output_is : (tokens : List Token) (i : Item) → output_item tokens ≡ Some i → Word (codes "output") ∷ tokens ≡ item_line i
output_is (Word name ∷ []) i e = ap item_line (same_Some _ _ e)
output_is [] i e = absurd (none-some i e)
output_is (Number z ∷ tokens) i e = absurd (none-some i e)
output_is (Word name ∷ t ∷ tokens) i e = absurd (none-some i e)

module _ (w : List ℕ) (tokens : List Token) (i : Item) where
  -- a line that begins with this word
  with_word : (keyword : List ℕ) → bytes_eq w keyword ≡ true → Word keyword ∷ tokens ≡ item_line i → Word w ∷ tokens ≡ item_line i
  with_word keyword h e = ap (λ x. Word x ∷ tokens) ((bytes_eq-Decides w keyword).0 h) ∙ e

  or_step : step_item (after_slash w (values tokens)) ≡ Some i → Word w ∷ tokens ≡ item_line i
  or_step e = step_is (Word w ∷ tokens) i e

  go : (keyword : List ℕ) (x y : Option Item) → (x ≡ Some i → Word keyword ∷ tokens ≡ item_line i) → (y ≡ Some i → Word w ∷ tokens ≡ item_line i)
      → cond (bytes_eq w keyword) x y ≡ Some i → Word w ∷ tokens ≡ item_line i
  go keyword x y here later e = by (chosen (bytes_eq w keyword) x y (Some i) e)
    where
      by : ((bytes_eq w keyword ≡ true) × (x ≡ Some i)) ⊎ ((bytes_eq w keyword ≡ false) × (y ≡ Some i)) → Word w ∷ tokens ≡ item_line i
      by (inl h) = with_word keyword h.0 (here h.1)
      by (inr h) = later h.1

  word_is : word_item w tokens ≡ Some i → Word w ∷ tokens ≡ item_line i
  word_is = go (codes "test") _ _ (list_is (codes "test") TestLine (λ zs. refl) tokens i)
      (go (codes "class") _ _ (list_is (codes "class") ClassLine (λ zs. refl) tokens i)
      (go (codes "cover") _ _ (list_is (codes "cover") CoverLine (λ zs. refl) tokens i)
      (go (codes "mark") _ _ (list_is (codes "mark") MarkLine (λ zs. refl) tokens i)
      (go (codes "input") _ _ (input_is tokens i)
      (go (codes "output") _ _ (output_is tokens i)
      (go (codes "bound") _ _ (number_is (codes "bound") BoundLine (λ z. refl) tokens i)
      (go (codes "states") _ _ (number_is (codes "states") StatesLine (λ z. refl) tokens i)
      (go (codes "end") _ _ (number_is (codes "end") EndLine (λ z. refl) tokens i)
      (go (codes "suite") _ _ (suite_is tokens i) or_step)))))))))

-- the tokens are those of the item that they say
pub item_is : (line : List Token) (i : Item) → item_of line ≡ Some i → line ≡ item_line i
item_is [] i e = absurd (none-some i e)
item_is (Number z ∷ tokens) i e = step_is (Number z ∷ tokens) i e
item_is (Word w ∷ tokens) i e = word_is w tokens i e
