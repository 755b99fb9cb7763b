use Rattle.std.proofs.Common.{ap, sym, ◌∙◌, arith, inl, Ok}
use Rattle.dis_format.proofs.Fields.{ok_is}
use Rattle.dis_format.proofs.Whole.{found, only}
use Rattle.dis_reading.proofs.Whole.{never}
use Rattle.dis_reading.proofs.read_object.Goals as goal

pub returns-in-Ok-clause-found : goal.returns-in-Ok-clause-found
returns-in-Ok-clause-found c =
    found c.in-Ok.object c.args.bytes.now (λ i. omega (arith, c.type_inv.bytes i)) c.in-Ok.ensures

pub returns-in-Ok-clause-only : goal.returns-in-Ok-clause-only
returns-in-Ok-clause-only c =
    λ o s. inl (ap Ok (ok_is c.in-Ok.object o (sym c.in-Ok.ensures ∙ only o c.args.bytes.now s)))

pub returns-in-Err-Refused-clause-only : goal.returns-in-Err-Refused-clause-only
returns-in-Err-Refused-clause-only c =
    λ o s. absurd (never o c.in-Err-Refused.refusal c.args.bytes.now (only o c.args.bytes.now s)
    (rw c.in-Err-Refused.field-0-is at c.in-Err-Refused.ensures))
