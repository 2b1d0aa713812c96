-- The stage that reads the cuts of a command.
use Rattle.std.specs.Prelude.{◌≡◌, ℕ, Bool, true, false, List, []}
use Rattle.lin_form.specs.declared.form.Comparison.{Comparison}
use Rattle.lin_form.specs.declared.signature.Signature.{Signature}
use Rattle.cut_syntax.specs.Cuts.{ReadsCuts, RefusesCuts}
use Rattle.command_stages.specs.Stage.{Stage, Then, Is, TextAt, Reading, text_refusal}
use Rattle.command_stages.specs.Texts.{most_bytes}

-- the cuts over a signature that the word with this number names, or none
abbrev pub CutsAt : Bool → ℕ → Signature → Stage (List Comparison)
CutsAt false number signature = Is (λ cuts. cuts ≡ [])
CutsAt true number signature = Then (TextAt number most_bytes)
    (λ text. Reading (text_refusal number) (ReadsCuts signature text) (RefusesCuts signature text))
