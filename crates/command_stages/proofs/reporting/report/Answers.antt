use Rattle.std.proofs.Common.{codes, map, string_bytes}
use Rattle.std.proofs.lemmas.Result.{err_from_is_err_and}
use Rattle.test_world.proofs.Growing.{puts_then, puts_exit}
use Rattle.command_stages.specs.Report.{named, source_of, said}
use Rattle.command_stages.proofs.reporting.report.Goals as goal

pub returns-in_err-put_all : goal.returns-in_err-put_all
returns-in_err-put_all g c = puts_exit _ (err_from_is_err_and c.from_residual.result c.from_residual.ensures.1).1 c.in_err-put_all.ensures.put

pub returns-in_err-put_all-2 : goal.returns-in_err-put_all-2
returns-in_err-put_all-2 g c = puts_then c.in_ok-put_all.ensures.put (puts_exit _ (err_from_is_err_and c.from_residual-in_err-put_all-2.result c.from_residual-in_err-put_all-2.ensures.1).1 (rw (c.as_bytes.ensures.value, c.name.ensures, c.source.ensures) at c.in_err-put_all-2.ensures.put))

pub returns : goal.returns
returns g c = puts_then c.in_ok-put_all.ensures.put (puts_then (rw (c.as_bytes.ensures.value, c.name.ensures, c.source.ensures) at c.in_ok-put_all-2.ensures.put) (rw (c.bytes.ensures, c.set_said.ensures) at c.put_all-3.ensures.put))
