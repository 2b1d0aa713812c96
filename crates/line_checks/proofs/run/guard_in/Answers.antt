use Rattle.std.proofs.Common.{refl, sym, subst}
use Rattle.line_forms.specs.Limits.{AreSmallTests}
use Rattle.line_forms.proofs.Sound.{sound_line, is_lexed, short_lexed}
use Rattle.line_forms.proofs.Small.{small_guard, plain_lexemes}
use Rattle.line_checks.proofs.run.guard_in.Goals as goal

pub fill-requires : goal.fill-requires
fill-requires c = sound_line c.args.line.now c.content.result.now c.args.tokens.now c.args.tokens.now c.requires c.content.ensures refl

pub returns-in-Ok-guard_at-clause-small : goal.returns-in-Ok-guard_at-clause-small
returns-in-Ok-guard_at-clause-small c =
    let line = c.args.line.now in
    let ts = c.fill.new.self in
    let lexed = is_lexed line c.content.result.now c.args.tokens.now c.args.tokens.now ts c.requires c.content.ensures refl c.in-Ok.ensures in
    let h = c.in-Ok-guard_at.ensures.found in
    subst AreSmallTests (sym h.2) (small_guard ts c.args.at h.0 (plain_lexemes line ts lexed) (short_lexed line ts lexed) h.1.spelled)
