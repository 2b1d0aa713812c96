use Rattle.command_answers.proofs.Printing.{IsPrinted}
use Rattle.command_answers.proofs.play.print_replies.Given as goal

abbrev pub invariant-word : goal.invariant-word
invariant-word g l = IsPrinted l.plan l.word l.vector-index l.config (g.K.Sink.state l.fn.out) (g.K.Sink.state l.out)
