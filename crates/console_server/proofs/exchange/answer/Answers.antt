use Rattle.console_server.proofs.Served.{answered, stopped}
use Rattle.console_server.proofs.exchange.answer.Goals as goal

pub returns-clause-answered : goal.returns-clause-answered
returns-clause-answered g c =
    answered c.args.frame.now c.args.console.now.failed c.serve.new.self.failed (g.K.Sink.held c.args.out.now) (g.K.Sink.held c.serve.new.out)
    c.in_ok-tag.tag c.in_ok-tag.request c.in_ok-reply.reply c.frame_of.result c.in_ok-tag.ensures c.in_ok-reply.ensures.answered c.frame_of.ensures.spelled c.frame_of.ensures.fits

pub returns-clause-stopped : goal.returns-clause-stopped
returns-clause-stopped g c =
    stopped c.args.frame.now c.args.console.now.failed c.serve.new.self.failed (g.K.Sink.held c.args.out.now) (g.K.Sink.held c.serve.new.out)
    c.in_ok-tag.tag c.in_ok-tag.request c.in_ok-reply.reply c.frame_of.result _ c.in_ok-tag.ensures c.in_ok-reply.ensures.answered
