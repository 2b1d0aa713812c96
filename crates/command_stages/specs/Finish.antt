-- What is put where a command came to a text, or to none.
use Rattle.std.specs.Prelude.{◌≡◌, ℕ, Bool, ◌≤◌, List, Result, Ok, Err}
use Rattle.test_world.specs.Count.{Rose}
use Rattle.test_world.specs.Sink.{SinkState, Grows, GrowsByPrefix}
use Rattle.command_stages.specs.declared.stop.Departure.TheVariants.{WriteFault}
use Rattle.command_stages.specs.declared.stop.Stop.{Stop}
use Rattle.command_stages.specs.declared.stop.Stop.TheVariants.{Departed}
use Rattle.command_stages.specs.Stage.{Printed}

-- a write failed, and a prefix of the text was taken
abbrev pub IsCutShort : SinkState → SinkState → List ℕ → Stop → Type 0
IsCutShort before after text (Departed WriteFault) =
    GrowsByPrefix before after text × (before.faults ≤ after.faults) × Rose before.faults after.faults
IsCutShort before after text other = ⊥

-- the text is put, and the answer is whether what it tells of passes; or a write failed; and nothing is put where there
-- is no text
abbrev pub Finishes : {P : Type 0} → (P → Printed) → Result P Stop → SinkState → SinkState → Result Bool Stop → Type 0
Finishes printed (Ok p) before after (Ok passes) =
    (passes ≡ (printed p).passes) × Grows before after (printed p).text × (before.faults ≤ after.faults)
Finishes printed (Ok p) before after (Err stop) = IsCutShort before after (printed p).text stop
Finishes printed (Err stop) before after result = (result ≡ Err stop) × (after ≡ before)
