-- The inputs and outputs of a chart that is read have names, each once, which are no reserved words.
use Rattle.std.proofs.Common.{◌≡◌, ◌≢◌, ℕ, ◌<◌, Bool, true, false, List, [], ◌∷◌, ◌++◌, length, map, get_or, Option, Some, None, Ok, Err, refl, sym, ap, ◌∙◌, subst, arith, length-append, Contains}
use Rattle.std.specs.Prelude.{nat_le, if◌then◌else◌, ◌==◌, slice_get}
use Rattle.std.specs.List.{All}
use Rattle.std.specs.Option.{option_map}
use Rattle.std.proofs.lemmas.List.{get_or_append_left}
use Rattle.std.proofs.lemmas.List.Elements.{All-append, All-map, All-nil, All-push}
use Rattle.std.proofs.lemmas.Option.{slice_get-map, slice_get_within, get_or_from_slice_get}
use Rattle.lin_form.specs.Name.{IsName, reserved_words}
use Rattle.lin_form.specs.declared.input.Input.{Input}
use Rattle.line_tokens.specs.declared.token.Token.{Token}
use Rattle.line_tokens.specs.declared.token.Word.{Word}
use Rattle.line_tokens.specs.declared.token.Word.TheVariants as word
use Rattle.line_tokens.specs.Lines.{content_of}
use Rattle.line_forms.specs.declared.keyword.Keyword.{Keyword}
use Rattle.line_forms.specs.declared.lexeme.Lexeme.{Lexeme}
use Rattle.line_forms.specs.declared.lexeme.Lexeme.TheVariants as lexeme
use Rattle.line_forms.specs.declared.statement.InputForm.{InputForm}
use Rattle.line_forms.specs.declared.statement.OutputForm.{OutputForm}
use Rattle.line_forms.specs.declared.statement.Statement.{Statement}
use Rattle.line_forms.specs.declared.statement.Statement.TheVariants as says
use Rattle.line_forms.specs.Forms.{IsStatement}
use Rattle.line_forms.specs.Grammar.{Has}
use Rattle.line_forms.specs.Lexemes.{IsLexed, IsSound, keyword_of, lexeme_of, meaning_of, name_meaning, number_of, symbol_of}
use Rattle.line_forms.specs.Parsing.{AreParsed, IsFormed, IsParsed}
use Rattle.line_forms.proofs.Sound.{sound_tokens}
use Rattle.text_lines.specs.Reading.{Leads}
use Rattle.chart_model.specs.Chart.{AreNames}
use Rattle.chart_model.specs.declared.chart.Chart.{Chart}
use Rattle.chart_syntax.specs.declared.reader.Reader.{Reader}
use Rattle.chart_syntax.specs.Checks.{next, next_form, start}
use Rattle.chart_syntax.specs.Reading.{LineOf, Reads, TakesLine, bounds_of_form, bounds_of_input, parsed_next}
use Rattle.suite_reading.specs.Printable.{AreFreeNames, names_of}

-- the lexeme is no name
abbrev IsOther : Lexeme → Type 0
IsOther (lexeme.Named name) = ⊥
IsOther other = Unit {0}

either : (b : Bool) (x y : Lexeme) → IsOther x → IsOther y → IsOther (if b then x else y)
either true x y p q = p
either false x y p q = q

other_symbol : (s : ℕ) → IsOther (symbol_of s)
other_symbol s =
    either (s == 60) _ _ tt (either (s == 61) _ _ tt (either (s == 62) _ _ tt (either (s == 188) _ _ tt (either (s == 190) _ _ tt (either (s == 161) _ _ tt
    (either (s == 43) _ _ tt (either (s == 45) _ _ tt (either (s == 42) _ _ tt (either (s == 40) _ _ tt (either (s == 41) _ _ tt tt))))))))))

other_number : (n : ℕ) → IsOther (number_of n)
other_number n = either (nat_le n 1000000) (lexeme.Number n) (lexeme.Wide n) tt tt

no_other : (x : Lexeme) (name : List ℕ) → IsOther x → x ≡ lexeme.Named name → ⊥
no_other x name h e = subst IsOther e h

same_name : (k : Option Keyword) (bytes name : List ℕ) → name_meaning k bytes ≡ lexeme.Named name → bytes ≡ name
same_name None bytes name e = cc
same_name (Some k) bytes name e = absurd (cc)

-- what means a name is a word that is spelled so
name_word : (w : Word) (bytes name : List ℕ) → meaning_of w bytes ≡ lexeme.Named name → (w ≡ word.Name) × (bytes ≡ name)
name_word word.Name bytes name e = (refl, same_name (keyword_of bytes) bytes name e)
name_word (word.Number z) bytes name e = absurd (no_other _ name (other_number _) e)
name_word (word.Symbol s) bytes name e = absurd (no_other _ name (other_symbol s) e)

-- the element that is mapped to the one at a place
pub mapped_at : {A B : Type 0} (f : A → B) (o : Option A) (b : B) → option_map f o ≡ Some b → (a : A) × (o ≡ Some a) × (f a ≡ b)
mapped_at f (Some a) b e = (a, refl, cc)
mapped_at f None b e = absurd (cc)

-- a name among the lexemes of a line is one
named : (line : List ℕ) (ts : List Lexeme) → IsLexed line ts → (i : ℕ) (name : List ℕ) → Has ts i (lexeme.Named name) → IsName name
named line ts lexed i name has =
    let content = content_of line in
    let there : option_map (lexeme_of content) (slice_get lexed.tokens i) ≡ Some (lexeme.Named name) =
    sym (slice_get-map (lexeme_of content) lexed.tokens i) ∙ ap (λ (us : List Lexeme). slice_get us i) (sym lexed.mean) ∙ has in
    let at = mapped_at (lexeme_of content) (slice_get lexed.tokens i) (lexeme.Named name) there in
    let token = at.0 in
    let is : slice_get lexed.tokens i ≡ Some token = at.1 in
    let w = name_word token.word _ name at.2 in
    let inside : i < length lexed.tokens = slice_get_within lexed.tokens i token is in
    let sound = (sound_tokens line lexed.tokens lexed.tokenized).each i token inside in
    let P : Token → Type 0 = IsSound content in
    subst IsName w.1 ((subst P (get_or_from_slice_get lexed.tokens i token token is) sound).name w.0)

-- the inputs and outputs that were declared have names
record HaveNames (s : Reader) : Type 0 where
  inputs : All (λ (form : InputForm). IsName form.name) s.inputs
  outputs : All (λ (form : OutputForm). IsName form.name) s.outputs

named_form : (ts : List Lexeme) → ((name : List ℕ) → Has ts 1 (lexeme.Named name) → IsName name) → (s : Reader) (form : Option Statement) → IsFormed IsStatement ts form → HaveNames s → HaveNames (next_form s form)
named_form ts name s None is h = h
named_form ts name s (Some (says.Chart n)) is h = record { inputs = h.inputs; outputs = h.outputs }
named_form ts name s (Some (says.Input f)) is h = record { inputs = All-push (λ (form : InputForm). IsName form.name) s.inputs f h.inputs (name f.name is.1); outputs = h.outputs }
named_form ts name s (Some (says.Assume f)) is h = record { inputs = h.inputs; outputs = h.outputs }
named_form ts name s (Some (says.Output f)) is h = record { inputs = h.inputs; outputs = All-push (λ (form : OutputForm). IsName form.name) s.outputs f h.outputs (name f.name is.1) }
named_form ts name s (Some (says.Memory f)) is h = record { inputs = h.inputs; outputs = h.outputs }
named_form ts name s (Some (says.State f)) is h = record { inputs = h.inputs; outputs = h.outputs }
named_form ts name s (Some (says.Entry f)) is h = record { inputs = h.inputs; outputs = h.outputs }
named_form ts name s (Some (says.Exit f)) is h = record { inputs = h.inputs; outputs = h.outputs }
named_form ts name s (Some (says.On f)) is h = record { inputs = h.inputs; outputs = h.outputs }

named_line : (s : Reader) (line : List ℕ) (parsed : LineOf Statement) → IsParsed (AreParsed IsStatement) line parsed → HaveNames s → HaveNames (parsed_next next s parsed)
named_line s line (Err error) is h = h
named_line s line (Ok None) is h = h
named_line s line (Ok (Some parsed)) is h = named_form (is.first ∷ is.more) (λ name has. named line (is.first ∷ is.more) is.lexed 1 name has) s parsed.form is.says.form h

named_lines : (s u : Reader) (lines : List (List ℕ)) → Leads TakesLine s lines u → HaveNames s → HaveNames u
named_lines s u [] leads h = subst HaveNames leads h
named_lines s u (line ∷ lines) leads h =
    let t = leads.0 in
    let one = leads.1 in
    named_lines t u lines leads.2 (subst HaveNames (sym one.3) (named_line s line one.0 one.1 h))

same_inputs : (inputs : List Input) (forms : List InputForm) → map bounds_of_input inputs ≡ map bounds_of_form forms → map (λ (input : Input). input.name) inputs ≡ map (λ (form : InputForm). form.name) forms
same_inputs [] [] e = refl
same_inputs [] (form ∷ forms) e = absurd cc
same_inputs (input ∷ inputs) [] e = absurd cc
same_inputs (input ∷ inputs) (form ∷ forms) e =
    let first : bounds_of_input input ≡ bounds_of_form form = cc in
    let later : map bounds_of_input inputs ≡ map bounds_of_form forms = cc in
    let rest = same_inputs inputs forms later in
    λ j. (first j).0 ∷ rest j

-- the names of the chart are names
named_chart : (text : List ℕ) (chart : Chart) → Reads text chart → All IsName (names_of chart.signature)
named_chart text chart reads =
    let h = named_lines start reads.last _ reads.leads (record { inputs = All-nil _; outputs = All-nil _ }) in
    All-append IsName (map (λ (input : Input). input.name) chart.signature.inputs) chart.signature.outputs
    (subst (All IsName) (sym (same_inputs chart.signature.inputs reads.last.inputs reads.content.inputs)) (All-map IsName (λ (form : InputForm). form.name) reads.last.inputs h.inputs))
    (subst (All IsName) (sym reads.content.outputs) (All-map IsName (λ (form : OutputForm). form.name) reads.last.outputs h.outputs))

-- names in front of others are different and free where all are
front_names : (some more : List (List ℕ)) → AreNames (some ++ more) → All IsName some → AreFreeNames some
front_names some more h named = record {
  named = named;
  free = λ i d inside. subst (λ name. Contains reserved_words name → ⊥) (get_or_append_left some more d i inside) (h.free i d (omega (arith, inside, length-append some more)));
  different = λ i j d less inside.
      let P : List ℕ → Type 0 = λ name. get_or some i d ≢ name in
      let Q : List ℕ → Type 0 = λ name. name ≢ get_or (some ++ more) j d in
      subst P (get_or_append_left some more d j inside) (subst Q (get_or_append_left some more d i (omega (arith, less, inside))) (h.different i j d less (omega (arith, inside, length-append some more))));
}

-- the names of a chart that is read
pub free_names : (text : List ℕ) (chart : Chart) → Reads text chart → AreFreeNames (names_of chart.signature)
free_names text chart reads =
    let inputs = map (λ (input : Input). input.name) chart.signature.inputs in
    let memories = map (λ memory. memory.name) chart.memories in
    front_names (inputs ++ chart.signature.outputs) memories chart.kept.names (named_chart text chart reads)
