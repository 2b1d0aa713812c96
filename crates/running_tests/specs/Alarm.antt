-- The signature of the alarm on which suites are tried.
use Rattle.std.specs.Prelude.{◌≡◌, pos, [], ◌∷◌, map, codes}
use Rattle.lin_form.specs.declared.signature.Signature.{Signature}
use Rattle.lin_form.specs.Signature.{ranges_of}

-- one input from 0 to 10, and one output
pub record IsAlarm (signature : Signature) : Type 0 where
  pub names : map (λ input. input.name) signature.inputs ≡ codes "v" ∷ []
  pub ranges : ranges_of signature.inputs ≡ (pos 0, pos 10) ∷ []
  pub outputs : signature.outputs ≡ codes "alarm" ∷ []
