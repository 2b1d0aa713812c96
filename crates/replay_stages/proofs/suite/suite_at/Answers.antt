use Rattle.std.proofs.Common.{◌≤◌, length, subst, sym, ℕ, List}
use Rattle.command_stages.specs.Stage.{suite_refusal}
use Rattle.command_stages.proofs.Stages.{made_then, made_stop, made_read}
use Rattle.suite_reading.specs.Reading.{ReadsSuite, RefusesText}
use Rattle.replay_stages.specs.Suites.{most_suite_bytes}
use Rattle.replay_stages.proofs.Reading.{short_text, made_not}
use Rattle.replay_stages.proofs.suite.suite_at.Goals as goal

pub read_suite-requires : goal.read_suite-requires
read_suite-requires g c = subst (λ (x : List ℕ). length x ≤ 16777216) (sym c.bytes.ensures) (short_text c.args.number most_suite_bytes c.in-Ok.ensures)

pub returns-in-Err : goal.returns-in-Err
returns-in-Err g c = made_stop _ _ c.in-Err.ensures

pub returns-in-Ok-read_suite : goal.returns-in-Ok-read_suite
returns-in-Ok-read_suite g c = made_then _ _ c.in-Ok.ensures (made_read (suite_refusal c.args.number) ReadsSuite RefusesText c.bytes.ensures c.in-Ok-read_suite.ensures.read)

pub returns : goal.returns
returns g c = made_then _ _ c.in-Ok.ensures (rw c.refused.ensures (made_not c.args.number c.in-Err-read_suite.error c.bytes.ensures c.in-Err-read_suite.ensures.refused))
