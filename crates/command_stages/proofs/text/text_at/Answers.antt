use Rattle.std.proofs.Common.{Ok, Err}
use Rattle.command_stages.proofs.Stages.{made_text}
use Rattle.command_stages.proofs.text.text_at.Goals as goal

pub returns-in-Ok : goal.returns-in-Ok
returns-in-Ok g c = made_text c.args.number c.args.most _ _ _ (Ok c.in-Ok.text) _ c.word_at.ensures
    (record { loads = c.in-Ok.ensures.loads; keeps = c.in-Ok.ensures.keeps; visits = c.in-Ok.ensures.visits; stays_sound = c.in-Ok.ensures.stays_sound; no_fault = c.in-Ok.ensures.no_fault })

pub returns-in-Err : goal.returns-in-Err
returns-in-Err g c = rw c.stop_of_load.ensures (made_text c.args.number c.args.most _ _ _ (Err c.in-Err.error) _ c.word_at.ensures
    (record { loads = c.in-Err.ensures.loads; keeps = c.in-Err.ensures.keeps; visits = c.in-Err.ensures.visits; stays_sound = c.in-Err.ensures.stays_sound; no_fault = c.in-Err.ensures.no_fault }))
