-- How large a sum is.
use Rattle.std.specs.Prelude.{ℕ, ◌+◌, unsigned_abs}
use Rattle.lin_form.specs.Form.{size_of}
use Rattle.line_checks.specs.declared.sum.Sum.{Sum}

-- the absolute values of all numbers of a sum
abbrev pub weight : Sum → ℕ
weight sum = size_of sum.inputs + size_of sum.memory + unsigned_abs sum.constant
