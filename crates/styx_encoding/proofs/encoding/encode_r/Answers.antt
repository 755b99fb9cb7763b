use Rattle.std.proofs.Common.{arith}
use Rattle.std.proofs.lemmas.Result.{err_from_is_err_and}
use Rattle.styx_msg.specs.Styx.{r_row}
use Rattle.styx_encoding.proofs.Put.{encoded, too_long, long_enough, encoded_fits, refused, r_sizes}
use Rattle.styx_encoding.proofs.encoding.encode_r.Goals as goal

pub returns-in_err-add_r_body-clause-answer : goal.returns-in_err-add_r_body-clause-answer
returns-in_err-add_r_body-clause-answer c =
    let p = err_from_is_err_and c.from_residual-in_err-add_r_body.result
    c.from_residual-in_err-add_r_body.ensures.1 in
    rw (p.1, p.2) (too_long c.args.tag (r_row c.args.m.now) c.in_ok-out.out.items c.in_err-add_r_body.field-0.0
    (r_sizes c.args.m.now) c.in_err-add_r_body.ensures.added)

pub sized-requires : goal.sized-requires
sized-requires c = long_enough c.in_ok-out.out.items c.add_r_body.new.out.items
    (r_row c.args.m.now).fields c.args.tag c.r_type.result c.in_ok-out.ensures c.in_ok-add_r_body.ensures.added

pub returns-clause-answer : goal.returns-clause-answer
returns-clause-answer c =
    encoded c.args.tag (r_row c.args.m.now) c.in_ok-out.out.items c.add_r_body.new.out.items c.sized.result (rw
    (← c.r_type.ensures) c.in_ok-out.ensures) c.in_ok-add_r_body.ensures.added c.sized.ensures

pub returns-in_err-add_r_body-clause-refused : goal.returns-in_err-add_r_body-clause-refused
returns-in_err-add_r_body-clause-refused c =
    refused c.args.tag (r_row c.args.m.now) c.from_residual-in_err-add_r_body.result
    (returns-in_err-add_r_body-clause-answer c)

pub returns-clause-refused : goal.returns-clause-refused
returns-clause-refused c = refused c.args.tag (r_row c.args.m.now) c.sized.result (returns-clause-answer c)

pub returns-clause-fits : goal.returns-clause-fits
returns-clause-fits c =
    encoded_fits c.args.tag (r_row c.args.m.now) c.sized.result (omega arith) (rw (← c.r_type.ensures)
    (omega arith)) c.in_ok-add_r_body.ensures.fits (returns-clause-answer c)
