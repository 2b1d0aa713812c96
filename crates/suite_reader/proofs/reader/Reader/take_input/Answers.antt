use Rattle.std.proofs.Common.{refl, sym, ◌∙◌, w64}
use Rattle.std.proofs.lemmas.Int.{to_z-of_z}
use Rattle.suite_reader.proofs.Checking.{input_name, input_range, input_same, took_input}
use Rattle.suite_reader.proofs.reader.Reader.take_input.Goals as goal

pub from_bytes-requires : goal.from_bytes-requires
from_bytes-requires c =
    let same = input_same c.args.self.now c.args.name.now c.args.low c.args.high _ _ (to_z-of_z w64 c.args.low c.ranges.low) (to_z-of_z w64 c.args.high c.ranges.high) in
    input_name c.args.self.now c.args.name.now c.args.low c.args.high (sym (c.check_input.ensures ∙ same) ∙ c.in_default.is)

pub invariant_of-input : goal.invariant_of-input
invariant_of-input c =
    let low = to_z-of_z w64 c.args.low c.ranges.low in
    let high = to_z-of_z w64 c.args.high c.ranges.high in
    record { ranged = input_range c.args.self.now c.args.name.now c.args.low c.args.high _ _ (sym (c.check_input.ensures ∙ input_same c.args.self.now c.args.name.now c.args.low c.args.high _ _ low high) ∙ c.in_default.is) low high }

pub returns : goal.returns
returns c =
    let low = to_z-of_z w64 c.args.low c.ranges.low in
    let high = to_z-of_z w64 c.args.high c.ranges.high in
    record {
      cause = sym c.in_default.is ∙ c.check_input.ensures ∙ input_same c.args.self.now c.args.name.now c.args.low c.args.high _ _ low high;
      taken = λ e. took_input _ c.args.self.now c.push.new.self.items c.self.inside.inputs.items _ c.args.name.now c.args.low c.args.high c.self.view_is refl c.in-Ok.ensures.items c.from_bytes.ensures low high;
    }
