use Rattle.std.proofs.Common.{[], ◌∷◌, map}
use Rattle.std.specs.Prelude.{string_bytes}
use Rattle.command_words.specs.declared.command.Place.TheVariants.{Text, Cuts}
use Rattle.command_words.proofs.Bounding.{after_name}
use Rattle.command_words.proofs.command.command_for.Goals as goal

pub returns-in-Suite-clause-bound : goal.returns-in-Suite-clause-bound
returns-in-Suite-clause-bound c = rw (c.bound_at-bound.ensures) (after_name (Cuts ∷ []) (map string_bytes c.args.words.now) (rw c.in-Suite.is at c.requires))

pub returns-in-Run-clause-bound : goal.returns-in-Run-clause-bound
returns-in-Run-clause-bound c = rw (c.bound_at-bound-in-Run.ensures) (after_name (Cuts ∷ Text ∷ []) (map string_bytes c.args.words.now) (rw c.in-Run.is at c.requires))

pub returns-in-Json-clause-bound : goal.returns-in-Json-clause-bound
returns-in-Json-clause-bound c = rw (c.bound_at-bound-in-Json.ensures) (after_name (Cuts ∷ Text ∷ []) (map string_bytes c.args.words.now) (rw c.in-Json.is at c.requires))
