use Rattle.line_tokens.proofs.Scanning.{scanned_more, scanned_end}
use Rattle.line_tokens.proofs.scan.spans.Goals as goal

pub returns-in-End : goal.returns-in-End
returns-in-End c = scanned_end c.args.line.now c.scan.at c.scan.found.items c.scan.invariant c.in-End.ensures

pub scan-preserved : goal.scan-preserved
scan-preserved c = rw c.in_ok-push-in-Found.ensures.items
    (scanned_more c.args.line.now c.scan.at c.scan.found.items c.in-Found.span c.scan.invariant c.in-Found.ensures)
