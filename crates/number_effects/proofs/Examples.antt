-- Instructions over a frame of three words, worked out by hand, and by the laws, whose premises are met there.
use Rattle.std.proofs.Common.{◌≡◌, ℕ, ◌<◌, pos, true, List, [], ◌∷◌, length, None, Ok, codes, refl, ap, arith}
use Rattle.std.proofs.lemmas.Int.{ints}
use Rattle.process_model.specs.Process.{Ends}
use Rattle.system_model.specs.Ending.{Ended}
use Rattle.limbo_values.specs.declared.number.Kind.TheVariants.{Int}
use Rattle.limbo_values.specs.declared.operator.Operator.TheVariants.{Add}
use Rattle.limbo_values.specs.declared.operator.Comparison.TheVariants.{Equal}
use Rattle.limbo_values.specs.Numbers.{wrapped}
use Rattle.limbo_values.proofs.Ranges.{within}
use Rattle.dis_isa.specs.declared.inst.Inst.{Inst}
use Rattle.dis_isa.specs.declared.inst.Middle.TheVariants as middle
use Rattle.dis_isa.specs.declared.inst.Operand.TheVariants as operand
use Rattle.dis_isa.specs.declared.op.Op.TheVariants as op
use Rattle.dis_file.specs.declared.object.Object.{Object}
use Rattle.dis_meaning.specs.Words.{InFrame, Word, Plain, Refer, Address, Found, Wrong, Raises, type_check}
use Rattle.dis_meaning.specs.Process.{Frame, Process}
use Rattle.dis_memory.specs.Blocks.{World}
use Rattle.dis_memory.specs.Places.{memory}
use Rattle.dis_memory.specs.Process.{jumps, next}
use Rattle.dis_memory.specs.Step.{obey}
use Rattle.value_moves.specs.Operands.{inst, own, of_own}
use Rattle.value_moves.specs.Spots.{Leads}
use Rattle.value_moves.proofs.Leading.{spots_lead}
use Rattle.number_effects.specs.Giving.{StoresNumber}
use Rattle.number_effects.proofs.Numbers.{numbers_work}

wraps : wrapped Int (pos 8) ≡ pos 8
wraps = within Int (pos 8) (record { above = omega (arith, ints); below = omega (arith, ints) })

-- An int, a reference and an address.
abbrev words : List Word
words = Plain (pos 5) ∷ Refer None ∷ Address (InFrame 0) (pos 4) ∷ []

abbrev frame : List Word → Frame
frame ws = record { serial = 0; instance = 0; pc = 3; words = ws }

abbrev running : List Word → Process
running ws = record { number = 1; frame = frame ws; below = []; made = []; printing = None }

module _ (limit : ℕ) (o : Object) (x : World) where
  abbrev adds : Inst
  adds = inst op.Addw (operand.Imm (pos 3)) middle.None (own 0)

  eight : obey limit o x (running words) adds op.Addw
      ≡ Found (next (memory x (running (Plain (pos 8) ∷ Refer None ∷ Address (InFrame 0) (pos 4) ∷ []))))
  eight = ap (λ z. Found (next (memory x (running (Plain z ∷ Refer None ∷ Address (InFrame 0) (pos 4) ∷ []))))) wraps

  -- The same by the law: each premise is read off.
  leads : Leads x (running words) (own 0) words 0
  leads = (spots_lead.own x (running words) 0).0

  eight_stored : StoresNumber (obey limit o x (running words) adds op.Addw) x (running words) leads.place Int words 0 (pos 8)
  eight_stored = numbers_work.calculates limit o x (running words) adds Int Add (pos 3) (pos 5) words 0 leads (pos 5) (pos 8) refl refl refl refl
      (ap Ok wraps)

  -- Nothing is divided by 0; but a destination that is no number is told first.
  divided : obey limit o x (running words) (inst op.Divw (operand.Imm (pos 0)) middle.None (own 0)) op.Divw ≡ Raises (codes "zero divide")
  divided = refl

  told_first : obey limit o x (running words) (inst op.Divw (operand.Imm (pos 0)) (of_own 0) (own 4)) op.Divw ≡ Wrong type_check
  told_first = refl

  -- An address is read as 0, and a number takes its place.
  moved_over : obey limit o x (running words) (inst op.Movw (own 0) middle.None (own 8)) op.Movw
      ≡ Found (next (memory x (running (Plain (pos 5) ∷ Refer None ∷ Plain (pos 5) ∷ []))))
  moved_over = refl

  -- Nil equals nil, so the process goes on there, if that is a place of the code.
  goes_there : 2 < length o.insts
      → obey limit o x (running words) (inst op.Beqw (own 4) (of_own 4) (operand.Imm (pos 2))) op.Beqw ≡ Found (jumps x (running words) 2)
  goes_there lt =
      numbers_work.references limit o x (running words) (inst op.Beqw (own 4) (of_own 4) (operand.Imm (pos 2))) Equal None None true 2 refl refl refl
      refl refl lt

  ends : obey limit o x (running words) (inst op.Ret operand.None middle.None operand.None) op.Ret ≡ Found (Ends x Ended)
  ends = refl
