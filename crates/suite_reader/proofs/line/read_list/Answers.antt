use Rattle.std.proofs.Common.{ℤ, List, ◌∙◌, ◌++◌, map, ap}
use Rattle.strict_lines.specs.Pieces.{said}
use Rattle.suite_reader.specs.inside.Words.{leading}
use Rattle.suite_reader.proofs.Leading.{is_list}
use Rattle.suite_reader.proofs.line.read_list.Goals as goal

pub returns : goal.returns
returns c = is_list c.args.pieces.now c.in_ok-count.count c.push_leading.new.numbers.items c.in_ok-count.ensures.count c.in_ok-count.ensures.upto
    (c.in_ok-count.ensures.numbers ∙ ap (λ (x : List ℤ). x ++ leading (map said c.args.pieces.now)) c.clear.ensures.items)
