use Rattle.styx_msg.specs.Styx.{t_row}
use Rattle.styx_decoding.specs.Reading.{t_number, t_kind_of, t_body_at}
use Rattle.styx_decoding.proofs.Rows.{t_kind_is, t_direction}
use Rattle.styx_decoding.proofs.Frames.{short_answer, size_answer, type_answer, body_answer, whole_answer}
use Rattle.styx_decoding.proofs.decoding.decode_t.Goals as goal

pub returns-clause-whole : goal.returns-clause-whole
returns-clause-whole c =
    whole_answer t_row t_number t_kind_of t_body_at t_kind_is t_direction c.args.bytes.now c.t_answer.result
    c.t_answer.ensures

pub returns-clause-short : goal.returns-clause-short
returns-clause-short c = short_answer t_row c.args.bytes.now c.t_answer.result c.t_answer.ensures

pub returns-clause-bad_size : goal.returns-clause-bad_size
returns-clause-bad_size c = size_answer t_row c.args.bytes.now c.t_answer.result c.t_answer.ensures

pub returns-clause-bad_type : goal.returns-clause-bad_type
returns-clause-bad_type c = type_answer t_row c.args.bytes.now c.t_answer.result c.t_answer.ensures

pub returns-clause-bad_body : goal.returns-clause-bad_body
returns-clause-bad_body c = body_answer t_row c.args.bytes.now c.t_answer.result c.t_answer.ensures
