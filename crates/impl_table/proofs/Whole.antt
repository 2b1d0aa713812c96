-- What was declared is the content of one table.
use Rattle.std.proofs.Common.{◌≡◌, ℕ, ◌≤◌, Bool, true, false, not, ◌||◌, List, [], ◌∷◌, length, map, Some, None, refl, sym, ◌∙◌, ap, subst, arith}
use Rattle.std.specs.Prelude.{if◌then◌else◌, ◌==◌}
use Rattle.std.specs.List.{All}
use Rattle.std.proofs.Props.{props}
use mathlib.Core.HLevel.{is_prop→PathP}
use Rattle.std.proofs.lemmas.Bool.Decides.{nat_tests}
use Rattle.std.proofs.lemmas.List.{length-map}
use Rattle.std.proofs.lemmas.List.Elements.{All-head, All-tail}
use Rattle.lin_form.specs.declared.input.Input.{Input}
use Rattle.lin_form.specs.declared.signature.Signature.{Signature}
use Rattle.lin_form.specs.Range.{IsRange, IsCount}
use Rattle.line_forms.specs.declared.statement.InputForm.{InputForm}
use Rattle.line_forms.specs.Forms.{value_of}
use Rattle.chart_syntax.specs.declared.error.Kind.TheVariants as kind
use Rattle.chart_syntax.specs.declared.error.Refusal.TheVariants.{Fault}
use Rattle.chart_syntax.specs.Reading.{bounds_of_input, bounds_of_form}
use Rattle.impl_table.specs.declared.reader.Declared.{Declared}
use Rattle.impl_table.specs.declared.table.TableState.{TableState}
use Rattle.impl_table.specs.declared.table.Table.{Table}
use Rattle.impl_table.specs.Table.{IsRow, IsTable}
use Rattle.impl_table.specs.Reading.{IsContent, end_check, is_missing}
use Rattle.impl_table.specs.inside.Lines.{HasRange, IsPartial}

-- there is an input, an output and a state
pub record IsComplete (s : Declared) : Type 0 where
  pub inputs : 1 ≤ length s.inputs
  pub outputs : 1 ≤ length s.outputs
  pub states : 1 ≤ length s.states

some_if : (n : ℕ) (b : Bool) → (n == 0) ≡ b → b ≡ false → 1 ≤ n
some_if n true e f = absurd (cc)
some_if n false e f = grind (arith, nat_tests)

or_false : (a b : Bool) → (a || b) ≡ false → (a ≡ false) × (b ≡ false)
or_false true b e = absurd (cc)
or_false false b e = (refl, e)

end_if : (begun missing : Bool) → (if not begun then Some (Fault kind.Version) else if missing then Some (Fault kind.Missing) else None) ≡ None
    → missing ≡ false
end_if true true e = absurd (let h : Some (Fault kind.Missing) ≡ None = e in cc)
end_if true false e = refl
end_if false missing e = absurd (let h : Some (Fault kind.Version) ≡ None = e in cc)

complete : (s : Declared) → end_check s ≡ None → IsComplete s
complete s e =
    let h = end_if s.begun (is_missing s) e in
    let a = or_false (length s.inputs == 0 || length s.outputs == 0) (length s.states == 0) h in
    let b = or_false (length s.inputs == 0) (length s.outputs == 0) a.0 in
    record {
      inputs = some_if (length s.inputs) (length s.inputs == 0) refl b.0;
      outputs = some_if (length s.outputs) (length s.outputs == 0) refl b.1;
      states = some_if (length s.states) (length s.states == 0) refl a.1;
    }

same_length : (xs : List Input) (forms : List InputForm) → map bounds_of_input xs ≡ map bounds_of_form forms → length xs ≡ length forms
same_length xs forms e = sym (length-map xs bounds_of_input) ∙ ap length e ∙ length-map forms bounds_of_form

-- as many inputs and outputs as a signature has
pub inputs_fit : (s : Declared) (inputs : List Input) → IsPartial s → end_check s ≡ None
    → map bounds_of_input inputs ≡ map bounds_of_form s.inputs → IsCount 6 (length inputs)
inputs_fit s inputs p e same = let n = same_length inputs s.inputs same in let full = (complete s e).inputs in let few = p.few.inputs in
    record { least = omega (arith, n, full); limit = omega (arith, n, few) }

pub outputs_fit : (s : Declared) (outputs : List (List ℕ)) → IsPartial s → end_check s ≡ None → outputs ≡ s.outputs → IsCount 8 (length outputs)
outputs_fit s outputs p e same = let n = ap length same in let full = (complete s e).outputs in let few = p.few.outputs in
    record { least = omega (arith, n, full); limit = omega (arith, n, few) }

-- what was declared keeps what every table keeps
pub is_table : (s : Declared) (signature : Signature) → IsPartial s → end_check s ≡ None
    → map bounds_of_input signature.inputs ≡ map bounds_of_form s.inputs → signature.outputs ≡ s.outputs → IsTable signature s.states s.rows
is_table s signature p e inputs outputs =
    let full = (complete s e).states in
    let i : length signature.inputs ≡ length s.inputs = same_length signature.inputs s.inputs inputs in
    let o : length signature.outputs ≡ length s.outputs = ap length outputs in
    record {
      few_states = record { least = full; limit = p.few.states };
      few_rows = p.few.rows;
      replies = subst (λ n. All (λ (state : TableState). length state.reply ≡ n) s.states) (sym o) p.replies;
      moves = subst (λ n. All (IsRow n (length signature.outputs) (length s.states)) s.rows) (sym i)
          (subst (λ n. All (IsRow (length s.inputs) n (length s.states)) s.rows) (sym o) p.moves);
    }

inputs_exist : (forms : List InputForm) → All HasRange forms → (inputs : List Input) × (map bounds_of_input inputs ≡ map bounds_of_form forms)
inputs_exist [] h = ([], refl)
inputs_exist (form ∷ forms) h =
    let rest = inputs_exist forms (All-tail HasRange form forms h) in
    let input : Input = record { name = form.name; lo = value_of form.lo; hi = value_of form.hi; ranged = All-head HasRange form forms h } in
    (input ∷ rest.0, ap (λ xs. (form.name, value_of form.lo, value_of form.hi) ∷ xs) rest.1)

-- there is a table with this content
pub exists : (s : Declared) → IsPartial s → end_check s ≡ None → ((table : Table) → IsContent s table → ⊥) → ⊥
exists s p e none =
    let found = inputs_exist s.inputs p.ranges in
    let signature : Signature = record {
      inputs = found.0;
      outputs = s.outputs;
      inputs_fit = inputs_fit s found.0 p e found.1;
      outputs_fit = outputs_fit s s.outputs p e refl;
    } in
    let table : Table = record { signature = signature; states = s.states; rows = s.rows; kept = is_table s signature p e found.1 refl } in
    none table (record { inputs = found.1; outputs = refl; states = refl; rows = refl })

same_input : (a b : Input) → bounds_of_input a ≡ bounds_of_input b → a ≡ b
same_input a b e = λ j. record {
  name = (e j).0;
  lo = (e j).1;
  hi = (e j).2;
  ranged = is_prop→PathP (λ k. IsRange (e k).1 (e k).2) (λ k. hlevel props) a.ranged b.ranged j;
}

heads : (x : Input) (xs : List Input) (y : Input) (ys : List Input) → map bounds_of_input (x ∷ xs) ≡ map bounds_of_input (y ∷ ys)
    → bounds_of_input x ≡ bounds_of_input y
heads x xs y ys e = cc

tails : (x : Input) (xs : List Input) (y : Input) (ys : List Input) → map bounds_of_input (x ∷ xs) ≡ map bounds_of_input (y ∷ ys)
    → map bounds_of_input xs ≡ map bounds_of_input ys
tails x xs y ys e = cc

same_inputs : (xs ys : List Input) → map bounds_of_input xs ≡ map bounds_of_input ys → xs ≡ ys
same_inputs [] [] e = refl
same_inputs [] (y ∷ ys) e = absurd (cc)
same_inputs (x ∷ xs) [] e = absurd (cc)
same_inputs (x ∷ xs) (y ∷ ys) e = let h = same_input x y (heads x xs y ys e) in let t = same_inputs xs ys (tails x xs y ys e) in λ j. h j ∷ t j

same_signature : (a b : Signature) → a.inputs ≡ b.inputs → a.outputs ≡ b.outputs → a ≡ b
same_signature a b i o = λ j. record {
  inputs = i j;
  outputs = o j;
  inputs_fit = is_prop→PathP (λ k. IsCount 6 (length (i k))) (λ k. hlevel props) a.inputs_fit b.inputs_fit j;
  outputs_fit = is_prop→PathP (λ k. IsCount 8 (length (o k))) (λ k. hlevel props) a.outputs_fit b.outputs_fit j;
}

-- tables with the same content are the same
pub same_table : (s : Declared) (a b : Table) → IsContent s a → IsContent s b → a ≡ b
same_table s a b p q =
    let signature = same_signature a.signature b.signature (same_inputs a.signature.inputs b.signature.inputs (p.inputs ∙ sym q.inputs))
    (p.outputs ∙ sym q.outputs) in
    let states = p.states ∙ sym q.states in
    let rows = p.rows ∙ sym q.rows in
    λ j. record {
      signature = signature j;
      states = states j;
      rows = rows j;
      kept = is_prop→PathP (λ k. IsTable (signature k) (states k) (rows k)) (λ k. hlevel props) a.kept b.kept j;
    }
