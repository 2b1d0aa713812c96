-- What functions answer that make a check, and that resolve names, sums and guards.
use Rattle.std.specs.Prelude.{◌≡◌, ◌<◌, Option, Some, None, Result, Ok, Err}
use Rattle.line_checks.specs.declared.scope.Variable.{Variable}
use Rattle.line_checks.specs.declared.scope.Variable.TheVariants.{Input, Memory}
use Rattle.line_checks.specs.declared.scope.NameFault.{NameFault}
use Rattle.line_checks.specs.declared.guard.Unresolved.{Unresolved}
use Rattle.line_checks.specs.declared.guard.Unresolved.TheVariants as unresolved

-- what there is, or why there is nothing
abbrev pub Finds : {T K : Type 0} → Option T → Option K → Result T K → Type 0
Finds found check (Ok x) = found ≡ Some x
Finds found check (Err why) = (found ≡ None) × (check ≡ Some why)

-- what a function answers that makes one check
abbrev pub MakesCheck : {K : Type 0} → Option K → Result (Unit {0}) K → Type 0
MakesCheck check (Ok u) = check ≡ None
MakesCheck check (Err found) = check ≡ Some found

-- the check passes and this is the content, or what the check tells
abbrev pub Gives : {T K : Type 0} → Option K → T → Result T K → Type 0
Gives check content (Ok x) = (check ≡ None) × (x ≡ content)
Gives check content (Err found) = check ≡ Some found

-- the variable is one of the six inputs and four memories that a sum has room for
abbrev pub HasPlace : Option Variable → Type 0
HasPlace None = Unit {0}
HasPlace (Some (Input i)) = i < 6
HasPlace (Some (Memory j)) = j < 4

-- the same of a value that takes memory, whose meaning is this content
abbrev pub Resolves : {T V : Type 0} → (T → V) → Option NameFault → V → Result T Unresolved → Type 0
Resolves meaning check content (Ok x) = (check ≡ None) × (meaning x ≡ content)
Resolves meaning check content (Err (unresolved.Fault found)) = check ≡ Some found
Resolves meaning check content (Err unresolved.Memory) = Unit {0}
