-- Constants that are bytes or ints.
use Rattle.std.proofs.Common.{◌≡◌, ℕ, ℤ, suc, pos, negsuc, Bool, true, List, [], Some, refl, ap, ◌∙◌, arith, inl}
use Rattle.std.proofs.lemmas.Int.{ints}
use Rattle.std.proofs.lemmas.Bool.{le-leb}
use Rattle.limbo_types.specs.Types as ty
use Rattle.limbo_types.specs.Types.{Ty}
use Rattle.limbo_values.specs.declared.number.Kind.TheVariants.{Byte, Int}
use Rattle.limbo_values.specs.Numbers.{InRange}
use Rattle.limbo_values.proofs.Ranges.{within}
use Rattle.limbo_typed.specs.Typed as typed
use Rattle.limbo_typed.specs.declared.stmt.Constant.TheVariants as constant
use Rattle.limbo_meaning.specs.Trees.{Literal}
use Rattle.limbo_meaning.specs.Values.{Num}
use Rattle.system_model.specs.Limits.{frames_limit}
use Rattle.core_code.specs.Code.{Give}
use Rattle.core_code.specs.Machine as code
use Rattle.core_code.specs.Slots as core
use Rattle.core_code.specs.Slots.{Holds}
use Rattle.core_typing.specs.Held as held
use Rattle.core_typing.specs.Held.{Of}
use Rattle.dis_isa.specs.declared.inst.Operand.TheVariants as operand
use Rattle.dis_isa.specs.declared.inst.Middle.TheVariants as middle
use Rattle.dis_isa.specs.declared.op.Op.TheVariants as op
use Rattle.dis_meaning.specs.Words.{Found}
use Rattle.value_frames.specs.Frames.{number_place}
use Rattle.value_moves.specs.Operands.{inst, own}
use Rattle.value_code.specs.Objects.{object_of, placed}
use Rattle.value_code.specs.Data.{fits_source}
use Rattle.value_code.specs.Code.{number_source}
use Rattle.number_effects.proofs.Reading.{operands_are_read}
use Rattle.number_effects.proofs.Numbers.{numbers_work}
use Rattle.value_follows.specs.Stands.{types_of}
use Rattle.value_follows.specs.Sides.{program}
use Rattle.value_follows.specs.Rows.{Base, InstrGoes, LiteralsGo}
use Rattle.value_follows.proofs.Standing.{finds, code_here}
use Rattle.value_follows.proofs.Slots.{uses}
use Rattle.value_follows.proofs.Single.{single}
use Rattle.value_follows.proofs.Jumps.{row, behind_it}
use Rattle.value_follows.proofs.Putting.{old_word}
use Rattle.value_follows.proofs.Numbers.{leads, int_read, int_moved, number_stored}

ints_go : (m : typed.Module) (b : Base m) (z : ℤ) (into : ℕ) (from : List ℕ) → InstrGoes m (Give ty.Int (Literal (constant.Number z)) into from)
ints_go m b z into from k i x p q ready here =
    single m b i p q k x ready (λ now w y r hold worlds.
    let is = r.stands.is in
    let instr = Give ty.Int (Literal (constant.Number z)) into from in
    let found = finds m is.function p.frame.pc is.known instr r.stands.goes (code_here m now i y p q r instr here) in
    let at = row m b now i w y p q r hold worlds instr here in
    int_moved m b now i w y p q r hold worlds instr here into
    (uses m now i y [] p.frame q.frame is p.frame.pc instr (code_here m now i y p q r instr here)).0 found.3
    refl (number_source (fits_source z) z at.at) refl z
    (int_read m b now i w y p q r hold worlds instr here (fits_source z) z at.at refl (at.stand (placed m at.at ty.Int (Num z)) (inl refl)))
    []
    (behind_it m b now i w y p q r hold worlds instr here 0 (suc p.frame.pc) (held.put is.known into (Of ty.Int [])) (omega arith) refl)
    (ap (code.next frames_limit (program m) w p) here
    ∙ ap (λ (y : ℤ). code.goes_on w p (core.put p.frame.slots into (Holds (Num y)))) (within Int z found.2.0)))

-- a byte is an immediate
byte_fits : (z : ℤ) → InRange Byte z → fits_source z ≡ true
byte_fits (pos n) r =
    let below = r.below in
    le-leb n 536870911 (omega (arith, ints, below))
byte_fits (negsuc n) r = let above = r.above in absurd (omega (arith, ints, above))

bytes_go : (m : typed.Module) (b : Base m) (z : ℤ) (into : ℕ) (from : List ℕ) → InstrGoes m (Give ty.Byte (Literal (constant.Number z)) into from)
bytes_go m b z into from k i x p q ready here =
    single m b i p q k x ready (λ now w y r hold worlds.
    let is = r.stands.is in
    let instr = Give ty.Byte (Literal (constant.Number z)) into from in
    let found = finds m is.function p.frame.pc is.known instr r.stands.goes (code_here m now i y p q r instr here) in
    let range : InRange Byte z = found.2.0 in
    let at = row m b now i w y p q r hold worlds instr here in
    let uses = uses m now i y [] p.frame q.frame is p.frame.pc instr (code_here m now i y p q r instr here) in
    let to = number_place m.adts (types_of m is.function) into in
    let move = inst op.Movb (operand.Imm z) middle.None (own to) in
    let old = (old_word m now i y p q r into uses.0 found.3).number Byte refl in
    number_stored m b now i w y p q r hold worlds instr here into uses.0 found.3
    refl move
    (ap (λ (fits : Bool). Some (inst op.Movb (number_source fits z at.at) middle.None (own to))) (byte_fits z range))
    Byte refl z range []
    (behind_it m b now i w y p q r hold worlds instr here 0 (suc p.frame.pc) (held.put is.known into (Of ty.Byte [])) (omega arith) refl)
    (ap (code.next frames_limit (program m) w p) here
    ∙ ap (λ (y : ℤ). code.goes_on w p (core.put p.frame.slots into (Holds (Num y)))) (within Byte z range))
    (numbers_work.moves frames_limit (object_of m) y q move Byte z q.frame.words to (leads m b now i w y p q r hold worlds instr here into uses.0 found.3) old.0
    refl (operands_are_read.source_given y q Byte z ∙ ap Found (within Byte z range)) old.1)
    (omega arith))

pub literals_go : LiteralsGo
literals_go m b ty.Byte z into from small k i x p q ready here = bytes_go m b z into from k i x p q ready here
literals_go m b ty.Int z into from small k i x p q ready here = ints_go m b z into from k i x p q ready here
literals_go m b ty.Big z into from small k i x p q ready here = absurd (small refl)
literals_go m b t z into from small k i x p q ready here =
    absurd (finds m ready.0.stands.is.function p.frame.pc ready.0.stands.is.known (Give t (Literal (constant.Number z)) into from)
    ready.0.stands.goes (code_here m k i x p q ready.0 (Give t (Literal (constant.Number z)) into from) here)).2.0
