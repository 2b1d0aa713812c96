-- The lines of classes.
use Rattle.std.proofs.Common.{◌≡◌, ℕ, ◌≤◌, List, length, Result, Ok, Err, refl, sym, subst, arith}
use Rattle.std.specs.List.{All, flat_map}
use Rattle.std.proofs.lemmas.List.Elements.{All-weaker}
use Rattle.test_world.specs.Sink.{SinkState, Puts}
use Rattle.test_world.proofs.Growing.{puts_then, puts_exit}
use Rattle.lin_form.specs.Range.{AreRanges}
use Rattle.lin_form.proofs.CallerLemmas.{length-IsInRanges}
use Rattle.input_classes.specs.declared.class.Class.{Class}
use Rattle.input_classes.specs.Partition.{Partition, IsWitnessed}
use Rattle.class_split.specs.ExactPartition.{IsExactPartition}
use Rattle.class_stages.specs.Text.{atom_line, class_line, classes_text}

-- a witness has one number for each range
pub narrow : (r : Partition) → IsExactPartition r → AreRanges r.ranges → All (λ (c : Class). length c.witness ≤ 6) r.classes
narrow r exact ranges = All-weaker (IsWitnessed r) (λ (c : Class). length c.witness ≤ 6) (λ c w. omega (arith, length-IsInRanges r.ranges c.witness w.member.0.inside, ranges.count.limit)) r.classes exact.exact.witnessed

pub put_both : {X Y T E : Type 0} {x : X} {text : List ℕ} {result : Result T E} (r : Partition) {old between new : SinkState} → text ≡ classes_text r → Puts {T = X} {E = Y} old between (flat_map atom_line r.atoms) (Ok x) → Puts {T = T} {E = E} between new (flat_map class_line r.classes) result → Puts {T = T} {E = E} old new text result
put_both {X} {Y} {T} {E} {x} {text} {result} r {old} {between} {new} e first next = let P : List ℕ → Type 0 = λ t. Puts {T = T} {E = E} old new t result in subst P (sym e) (puts_then first next)

pub put_first : {X Y T E : Type 0} {y : Y} {e : E} {text : List ℕ} (r : Partition) {old new : SinkState} → text ≡ classes_text r → Puts {T = X} {E = Y} old new (flat_map atom_line r.atoms) (Err y) → Puts {T = T} {E = E} old new text (Err e)
put_first {X} {Y} {T} {E} {y} {e} {text} r {old} {new} is first =
    let P : List ℕ → Type 0 = λ t. Puts {T = T} {E = E} old new t (Err e) in
    let whole : Puts {T = T} {E = E} old new (classes_text r) (Err e) = puts_exit (flat_map class_line r.classes) refl first in
    subst P (sym is) whole
