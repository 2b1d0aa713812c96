use Rattle.std.proofs.Common.{ap, ◌∙◌, map}
use Rattle.line_tokens.specs.Tokens.{token_at}
use Rattle.line_tokens.proofs.Reading.{refused_in, inside_tokens}
use Rattle.line_tokens.proofs.tokenizer.Tokenizer.read.Goals as goal

pub returns-in-Err-read-clause-err : goal.returns-in-Err-read-clause-err
returns-in-Err-read-clause-err c = refused_in c.content-content.result.now c.args.line.now c.spans.new.found.items c.in-Err-read.error
    c.content-content.ensures (rw c.in-Ok-true.field-0-test at c.in-Ok-true.ensures) (rw c.as_slice.ensures.value at c.in-Err-read.ensures.err)

pub nesting-requires : goal.nesting-requires
nesting-requires c = inside_tokens c.content-content.result.now c.spans.new.found.items c.as_slice-2.result.now
    (c.as_slice-2.ensures.value ∙ c.in-Ok.ensures.ok.0 ∙ ap (map (token_at c.content-content.result.now)) c.as_slice.ensures.value)
    (rw c.in-Ok-true.field-0-test at c.in-Ok-true.ensures)
