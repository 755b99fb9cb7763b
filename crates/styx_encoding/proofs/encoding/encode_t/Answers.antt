use Rattle.std.proofs.Common.{arith}
use Rattle.std.proofs.lemmas.Result.{err_from_is_err_and}
use Rattle.styx_msg.specs.Styx.{t_row}
use Rattle.styx_encoding.proofs.Put.{encoded, too_long, long_enough, encoded_fits, refused, t_sizes}
use Rattle.styx_encoding.proofs.encoding.encode_t.Goals as goal

pub returns-in_err-add_t_body-clause-answer : goal.returns-in_err-add_t_body-clause-answer
returns-in_err-add_t_body-clause-answer c =
    let p = err_from_is_err_and c.from_residual-in_err-add_t_body.result
    c.from_residual-in_err-add_t_body.ensures.1 in
    rw (p.1, p.2) (too_long c.args.tag (t_row c.args.m.now) c.in_ok-out.out.items c.in_err-add_t_body.field-0.0
    (t_sizes c.args.m.now) c.in_err-add_t_body.ensures.added)

pub sized-requires : goal.sized-requires
sized-requires c = long_enough c.in_ok-out.out.items c.add_t_body.new.out.items
    (t_row c.args.m.now).fields c.args.tag c.t_type.result c.in_ok-out.ensures c.in_ok-add_t_body.ensures.added

pub returns-clause-answer : goal.returns-clause-answer
returns-clause-answer c =
    encoded c.args.tag (t_row c.args.m.now) c.in_ok-out.out.items c.add_t_body.new.out.items c.sized.result (rw
    (← c.t_type.ensures) c.in_ok-out.ensures) c.in_ok-add_t_body.ensures.added c.sized.ensures

pub returns-in_err-add_t_body-clause-refused : goal.returns-in_err-add_t_body-clause-refused
returns-in_err-add_t_body-clause-refused c =
    refused c.args.tag (t_row c.args.m.now) c.from_residual-in_err-add_t_body.result
    (returns-in_err-add_t_body-clause-answer c)

pub returns-clause-refused : goal.returns-clause-refused
returns-clause-refused c = refused c.args.tag (t_row c.args.m.now) c.sized.result (returns-clause-answer c)

pub returns-clause-fits : goal.returns-clause-fits
returns-clause-fits c =
    encoded_fits c.args.tag (t_row c.args.m.now) c.sized.result (omega arith) (rw (← c.t_type.ensures)
    (omega arith)) c.in_ok-add_t_body.ensures.fits (returns-clause-answer c)
