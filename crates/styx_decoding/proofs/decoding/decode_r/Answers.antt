use Rattle.styx_msg.specs.Styx.{r_row}
use Rattle.styx_decoding.specs.Reading.{r_number, r_kind_of, r_body_at}
use Rattle.styx_decoding.proofs.Rows.{r_kind_is, r_direction}
use Rattle.styx_decoding.proofs.Frames.{short_answer, size_answer, type_answer, body_answer, whole_answer}
use Rattle.styx_decoding.proofs.decoding.decode_r.Goals as goal

pub returns-clause-whole : goal.returns-clause-whole
returns-clause-whole c =
    whole_answer r_row r_number r_kind_of r_body_at r_kind_is r_direction c.args.bytes.now c.r_answer.result
    c.r_answer.ensures

pub returns-clause-short : goal.returns-clause-short
returns-clause-short c = short_answer r_row c.args.bytes.now c.r_answer.result c.r_answer.ensures

pub returns-clause-bad_size : goal.returns-clause-bad_size
returns-clause-bad_size c = size_answer r_row c.args.bytes.now c.r_answer.result c.r_answer.ensures

pub returns-clause-bad_type : goal.returns-clause-bad_type
returns-clause-bad_type c = type_answer r_row c.args.bytes.now c.r_answer.result c.r_answer.ensures

pub returns-clause-bad_body : goal.returns-clause-bad_body
returns-clause-bad_body c = body_answer r_row c.args.bytes.now c.r_answer.result c.r_answer.ensures
