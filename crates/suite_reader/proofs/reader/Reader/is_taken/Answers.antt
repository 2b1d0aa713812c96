use Rattle.std.proofs.Common.{refl}
use Rattle.suite_reader.proofs.Checking.{input_taken, output_taken}
use Rattle.suite_reader.proofs.reader.Reader.is_taken.Goals as goal

pub returns-then-is_input : goal.returns-then-is_input
returns-then-is_input c = input_taken _ c.args.self.now c.as_slice.result.now c.self.inside.inputs.items c.args.name.now c.is_input.result c.self.view_is refl c.as_slice.ensures.value c.is_input.ensures c.if-is_input.true

pub returns-else-is_input : goal.returns-else-is_input
returns-else-is_input c = output_taken _ c.args.self.now c.as_slice.result.now c.self.inside.inputs.items c.as_slice-else-is_input.result.now c.self.inside.outputs.items c.args.name.now c.is_input.result c.is_output.result c.self.view_is refl c.as_slice.ensures.value c.is_input.ensures c.if-is_input.false refl c.as_slice-else-is_input.ensures.value c.is_output.ensures
