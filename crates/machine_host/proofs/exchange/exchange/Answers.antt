use Rattle.std.proofs.Common.{◌<◌, inl, inr, refl, sym, ap, subst}
use Rattle.machine_host.specs.Talk.{left, left_of}
use Rattle.machine_host.proofs.Exchanged.{is_request, request_of, is_reply, not_refused, asks_less, went, unserved, unentered, only_memory, on_fault, same_quanta}
use Rattle.machine_host.proofs.exchange.exchange.Goals as goal

pub answer-requires-clause-request : goal.answer-requires-clause-request
answer-requires-clause-request g c =
    let a = c.requires.sent.0 in
    let s = c.requires.sent.2 in
    (a.writing.tag, request_of s, is_request c.args.frame.now a.writing.tag a.writing.asked s)

pub returns-clause-less : goal.returns-clause-less
returns-clause-less g c =
    let a = c.requires.sent.0 in
    let w = c.requires.sent.1 in
    let s = c.requires.sent.2 in
    let tag = a.writing.tag in
    let served = (c.in_ok-reply.ensures {u = tt}).answered tag (request_of s) (is_request c.args.frame.now tag a.writing.asked s) in
    let is = is_reply c.args.console.now.failed c.answer.new.console.failed c.args.frame.now tag a.writing.asked s c.in_ok-reply.reply.items (g.K.Sink.held c.args.out.now) (g.K.Sink.held c.answer.new.out) served.0 served.1 in
    let e = c.in_default.ensures {u = tt} in
    subst (λ n. left c.take_reply.new.self < n) (sym (ap left_of w))
    (asks_less c.args.machine.now c.take_reply.new.self a c.in_ok-reply.reply.items c.requires.asking w is c.requires.able e.lacks e.entered)

pub want_of_memory-requires : goal.want_of_memory-requires
want_of_memory-requires g c =
    let a = c.requires.sent.0 in
    let w = c.requires.sent.1 in
    let s = c.requires.sent.2 in
    let tag = a.writing.tag in
    let served = (c.in_ok-reply.ensures {u = tt}).answered tag (request_of s) (is_request c.args.frame.now tag a.writing.asked s) in
    let is = is_reply c.args.console.now.failed c.answer.new.console.failed c.args.frame.now tag a.writing.asked s c.in_ok-reply.reply.items (g.K.Sink.held c.args.out.now) (g.K.Sink.held c.answer.new.out) served.0 served.1 in
    only_memory c.args.machine.now 1 c.in_ok-reply.reply.items c.in-Err.fault (c.in-Err.ensures {u = tt}).refused
    (not_refused c.args.machine.now a c.in_ok-reply.reply.items c.requires.asking w is)

pub returns-clause-went : goal.returns-clause-went
returns-clause-went g c = λ start talk.
    let a = c.requires.sent.0 in
    let s = c.requires.sent.2 in
    let tag = a.writing.tag in
    let served = (c.in_ok-reply.ensures {u = tt}).answered tag (request_of s) (is_request c.args.frame.now tag a.writing.asked s) in
    let e = c.in_default.ensures {u = tt} in
    went c.args.machine.now c.take_reply.new.self c.args.frame.now c.in_ok-reply.reply.items tag a.writing.asked s start (g.K.Sink.held c.args.out.now) (g.K.Sink.held c.answer.new.out) c.args.console.now.failed c.answer.new.console.failed served.0
    c.requires.handed e.lacks e.entered talk

pub returns-in-Err-clause-stopped : goal.returns-in-Err-clause-stopped
returns-in-Err-clause-stopped g c = λ start talk.
    let a = c.requires.sent.0 in
    let s = c.requires.sent.2 in
    let tag = a.writing.tag in
    let served = (c.in_ok-reply.ensures {u = tt}).answered tag (request_of s) (is_request c.args.frame.now tag a.writing.asked s) in
    let u = (c.in-Err.ensures {u = tt}).unchanged in
    unentered c.args.machine.now c.take_reply.new.self c.args.frame.now c.in_ok-reply.reply.items tag a.writing.asked s start (g.K.Sink.held c.args.out.now) (g.K.Sink.held c.answer.new.out) c.args.console.now.failed c.answer.new.console.failed served.0
    u.journal (ap (λ s. s.trace) u.state) talk

pub returns-in_err-reply-clause-stopped : goal.returns-in_err-reply-clause-stopped
returns-in_err-reply-clause-stopped g c = on_fault c.from_residual.result _ (λ start talk.
    let a = c.requires.sent.0 in
    let s = c.requires.sent.2 in
    let tag = a.writing.tag in
    let m = c.args.machine.now in
    elim ((c.in_err-reply.ensures {u = tt}).stopped tag (request_of s) (is_request c.args.frame.now tag a.writing.asked s)) [
      | inl same ↦ unserved m c.args.frame.now start (g.K.Sink.held c.args.out.now) (g.K.Sink.held c.answer.new.out) c.args.console.now.failed c.answer.new.console.failed (ap (λ k. k.failed) same.0) same.1 talk
      | inr served ↦ unentered m m c.args.frame.now served.0 tag a.writing.asked s start (g.K.Sink.held c.args.out.now) (g.K.Sink.held c.answer.new.out) c.args.console.now.failed c.answer.new.console.failed served.1 refl refl talk
    ])

pub returns-clause-quanta : goal.returns-clause-quanta
returns-clause-quanta g c = same_quanta c.args.machine.now c.take_reply.new.self c.in_ok-reply.reply.items (c.in_default.ensures {u = tt}).entered
