use Rattle.std.proofs.Common.{◌∙◌, sym, arith}
use Rattle.std.proofs.lemmas.Result.{err_from_is_err_and}
use Rattle.styx_msg.specs.Styx.{t_row}
use Rattle.styx_decoding.specs.Reading.{t_number, t_kind_of, t_body_at}
use Rattle.styx_decoding.proofs.Rows.{t_kind_is, t_direction}
use Rattle.styx_decoding.proofs.Frames.{failed, left_over, read_whole, no_type}
use Rattle.styx_decoding.proofs.decoding.t_answer.Goals as goal

pub returns-in_default-t_kind : goal.returns-in_default-t_kind
returns-in_default-t_kind c =
    let f = c.in-Some.frame in
    no_type t_row t_number t_kind_of t_body_at t_kind_is t_direction c.args.bytes.now f.body.now f.kind f.tag
    f.size (rw c.in-Some.is at c.in_ok-frame.ensures) (sym c.t_kind.ensures ∙ c.in_default-t_kind.is)

pub returns-in_err-message : goal.returns-in_err-message
returns-in_err-message c =
    let f = c.in-Some.frame in
    let p = err_from_is_err_and c.from_residual-in_err-message.result c.from_residual-in_err-message.ensures.1 in
    rw (p.1, p.2)
    (failed t_row t_number t_kind_of t_body_at t_kind_is t_direction c.args.bytes.now f.body.now f.kind f.tag
    f.size c.in-Some-t_kind.kind c.in_err-message.field-0.0
    (rw c.in-Some.is at c.in_ok-frame.ensures) c.in-Some-t_kind.ensures c.in_err-message.ensures)

pub returns-then-not-is_empty : goal.returns-then-not-is_empty
returns-then-not-is_empty c =
    let f = c.in-Some.frame in
    left_over t_row t_number t_kind_of t_body_at t_kind_is t_direction c.args.bytes.now f.body.now f.kind f.tag
    f.size c.in-Some-t_kind.kind c.in_ok-message.message c.in_ok-message.rest.now
    (rw c.in-Some.is at c.in_ok-frame.ensures) c.in-Some-t_kind.ensures c.in_ok-message.ensures (grind arith)

pub returns : goal.returns
returns c =
    let f = c.in-Some.frame in
    read_whole t_row t_number t_kind_of t_body_at t_kind_is t_direction c.args.bytes.now f.body.now f.kind f.tag
    f.size c.in-Some-t_kind.kind c.in_ok-message.message c.in_ok-message.rest.now (λ i. omega
    (arith, c.type_inv.bytes i))
    (rw c.in-Some.is at c.in_ok-frame.ensures) c.in-Some-t_kind.ensures c.in_ok-message.ensures (grind arith)
