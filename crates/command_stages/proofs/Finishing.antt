-- A text that was put, and then could not be handed on.
use Rattle.std.proofs.Common.{◌≡◌, ℕ, ◌≤◌, List, Option, Result, Ok, Err, sym, subst, arith}
use Rattle.test_world.specs.Growth.{IsLonger}
use Rattle.test_world.specs.Sink.{SinkState, Grows, Puts, HandsOn}
use Rattle.test_world.proofs.Growing.{prefix_whole, rose_before}
use Rattle.command_stages.specs.declared.stop.Departure.TheVariants.{WriteFault}
use Rattle.command_stages.specs.declared.stop.Stop.TheVariants.{Departed}
use Rattle.command_stages.specs.Finish.{IsCutShort}

-- what is handed on was taken before
handed_on : (before mid after : SinkState) (text : List ℕ) → Grows before mid text → after.taken ≡ mid.taken → Grows before after text
handed_on before mid after text grows same = let P : Option (List ℕ) → Type 0 = λ taken. IsLonger before.taken taken text in subst P (sym same) grows

pub not_handed_on : {T E U F : Type 0} {before mid after : SinkState} {text : List ℕ} {x : T} {e : F} → Puts {T = T} {E = E} before mid text (Ok x) → HandsOn {T = U} {E = F} mid after (Err e) → IsCutShort before after text (Departed WriteFault)
not_handed_on {T} {E} {U} {F} {before} {mid} {after} {text} puts hands =
    let early : before.faults ≤ mid.faults = puts.later in
    let late : mid.faults ≤ after.faults = hands.later in
    (prefix_whole before after text (handed_on before mid after text puts.put hands.taken), omega arith, rose_before before.faults mid.faults after.faults early hands.fault)
