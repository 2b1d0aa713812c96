use Rattle.std.proofs.Common.{◌-◌, length}
use Rattle.line_tokens.proofs.Scanning.{IsScanned}
use Rattle.line_tokens.proofs.scan.spans.Given as goal

abbrev pub invariant-scan : goal.invariant-scan
invariant-scan l = IsScanned l.line l.at l.found.items

abbrev pub decreases-scan : goal.decreases-scan
decreases-scan l = length l.line - l.at
