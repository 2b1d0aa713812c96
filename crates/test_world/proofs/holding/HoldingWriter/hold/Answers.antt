use Rattle.std.proofs.Common.{rules, take, length, ◌+◌, refl}
use Rattle.std.proofs.lemmas.Slice.{take-put_mid}
use Rattle.test_world.proofs.Writing.{held_on}
use Rattle.test_world.proofs.holding.HoldingWriter.hold.Goals as goal

pub returns-clause-held : goal.returns-clause-held
returns-clause-held g c =
    rw c.copy_from_slice.ensures.after (held_on c.self.inside.start _ (take c.self.inside.end c.self.inside.held) c.args.self.now.held c.args.bytes.now
    (take-put_mid c.self.inside.end _ c.self.inside.held c.args.bytes.now (c.self.inside.end + length c.args.bytes.now) refl (search rules)) (search rules) (search rules))
