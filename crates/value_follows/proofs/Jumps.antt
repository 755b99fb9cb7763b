-- Jumps: one instruction each, which goes where the other goes.
use Rattle.std.proofs.Common.{◌≡◌, ℕ, ℤ, suc, pos, ◌+◌, ◌-◌, ◌<◌, Bool, true, false, if◌then◌else◌, [], ◌∷◌, Option, Some, length, refl, sym, ap, ◌∙◌, subst, arith}
use Rattle.std.specs.Prelude.{slice_get, slice_index_or, All}
use Rattle.std.specs.Ordering.{int_eq}
use Rattle.limbo_typed.specs.Typed as typed
use Rattle.limbo_values.specs.declared.number.Kind.TheVariants.{Int}
use Rattle.limbo_values.specs.declared.operator.Comparison.{Comparison}
use Rattle.limbo_values.specs.declared.operator.Comparison.TheVariants.{Equal, Unequal}
use Rattle.limbo_values.specs.Operators as operators
use Rattle.limbo_values.specs.Operators.{compared}
use Rattle.limbo_meaning.specs.Values.{Num}
use Rattle.limbo_meaning.specs.Operations.{holds}
use Rattle.core_code.specs.Control.{on_or_past, leads_to}
use Rattle.core_code.proofs.Closed.{functions_are_closed}
use Rattle.limbo_meaning.specs.Program.{routine_of}
use Rattle.core_code.specs.Slots as core
use Rattle.core_code.specs.Slots.{Slot, Holds}
use Rattle.dis_isa.specs.declared.inst.Middle.TheVariants as middle
use Rattle.dis_isa.specs.declared.inst.Operand.TheVariants as operand
use Rattle.dis_isa.specs.declared.op.Op.{Op}
use Rattle.dis_isa.specs.declared.op.Op.TheVariants as op
use Rattle.dis_meaning.specs.Words.{Found}
use Rattle.dis_meaning.specs.Numbers.{Branches, number_row, number_at}
use Rattle.limbo_meaning.specs.Process.{Shared}
use Rattle.system_model.specs.Limits.{frames_limit}
use Rattle.core_code.specs.Code.{Instr, Jump, Back, Unless, Mirror}
use Rattle.core_code.specs.Machine as code
use Rattle.core_typing.specs.Held as held
use Rattle.core_typing.specs.Held.{Decided}
use Rattle.core_typing.specs.Going.{stand, behind, mirrored}
use Rattle.dis_isa.specs.declared.inst.Inst.{Inst}
use Rattle.dis_meaning.specs.Process.{Process}
use Rattle.dis_memory.specs.Blocks.{World}
use Rattle.dis_memory.specs.Process.{jumps}
use Rattle.value_words.specs.Facts.{Facts}
use Rattle.value_code.specs.Objects.{object_of, of_function, size_at}
use Rattle.value_code.specs.Works.{jump_to}
use Rattle.value_code.specs.Code.{code_of}
use Rattle.number_effects.proofs.Control.{control_goes}
use Rattle.number_effects.proofs.Stepping.{steps_obey}
use Rattle.value_words.proofs.Rows.{is_there}
use Rattle.value_frames.specs.Frames.{number_place}
use Rattle.value_frames.specs.Standing.{truth}
use Rattle.value_moves.specs.Operands.{inst, own}
use Rattle.value_moves.proofs.Leading.{spots_lead}
use Rattle.number_effects.specs.Stepping.{Reaches}
use Rattle.number_effects.specs.Numbers.{where_holds}
use Rattle.number_effects.proofs.Numbers.{numbers_work}
use Rattle.number_effects.proofs.Reading.{operands_are_read}
use Rattle.value_follows.specs.Stands.{Ready, GoesOn, place_of, types_of}
use Rattle.value_follows.specs.Sides.{sides, HoldTheSame, program}
use Rattle.value_follows.specs.Rows.{Base, RowStands, JumpsGo, BacksGo, UnlessGoes, MirrorsGo, site_of}
use Rattle.value_follows.proofs.Standing.{goes_behind, finds, reaches, row_here, code_here, at_slots, at_words, ready_at}
use Rattle.value_follows.proofs.Slots.{uses, number_is, decision_is}
use Rattle.value_follows.proofs.Single.{Once, single, both_go}

-- where code goes on, the object has code
pub inside_there : (m : typed.Module) (b : Base m) (number : ℕ) (f : typed.Function) (pc : ℕ) (known : held.Slots)
    → slice_get m.functions number ≡ Some f → GoesOn m f pc known → place_of m number f pc < length (object_of m).insts
inside_there m b number f pc known there goes = let g = goes 1 in b.inside number f pc g.0 there g.1

module _ (m : typed.Module) (b : Base m) (k : Facts) (i : ℕ) (w : Shared) (x : World) (p : code.Process) (q : Process) (ready : Ready m k i x p q) (hold : HoldTheSame m k i x p q) (worlds : (sides m).worlds k w x) (instr : Instr) (here : slice_get p.frame.code p.frame.pc ≡ Some instr) where
  abbrev number : ℕ
  number = ready.stands.is.number

  abbrev function : typed.Function
  function = ready.stands.is.function

  abbrev pub row : RowStands m number function p.frame.pc instr
  row = row_here m b k i w x p q _ ready.stands.is hold worlds.0 instr here

  -- the row's instruction, as the process reaches it
  pub first : (inst : Inst) → slice_get (code_of (site_of m number function p.frame.pc row.at) instr) 0 ≡ Some inst
      → Reaches (object_of m ∷ []) x q (object_of m) inst
  first inst is = reaches m b k i w x p q _ ready.stands.is hold worlds.0 instr 0 inst here row is (ready.pc ∙ omega arith)

  -- where the machine's process goes to another place, and the other does
  pub lands : (pc at : ℕ) → (sides m).code.step x q ≡ jumps x q at → at ≡ place_of m number function pc
      → GoesOn m function pc ready.stands.is.known → (sides m).program.step w p ≡ code.goes_to w p pc p.frame.slots → Once m b i p q k w x
  lands pc at step there goes does =
      both_go m b i p q k w x hold worlds (at_slots m k i x p q ready pc p.frame.slots) (at_words m k i x p q ready at q.frame.words)
      step does (ready_at m k i x p q ready pc at goes there)

  -- where its row is a jump
  pub jump_goes : (pc : ℕ) → slice_get (code_of (site_of m number function p.frame.pc row.at) instr) 0 ≡ Some (jump_to (place_of m number function pc))
      → GoesOn m function pc ready.stands.is.known → (sides m).program.step w p ≡ code.goes_to w p pc p.frame.slots → Once m b i p q k w x
  jump_goes pc is goes does =
      let target = place_of m number function pc in
      lands pc target
      (steps_obey.does frames_limit (object_of m ∷ []) x q (object_of m) (jump_to target) (jumps x q target) (first (jump_to target) is)
      (control_goes.jmp frames_limit (object_of m) x q (jump_to target) target refl refl
      (inside_there m b number function pc ready.stands.is.known ready.stands.is.there goes)))
      refl goes does

  -- the next row begins behind this one
  pub next_place : (size : ℕ) → size_at m function.of.answer (of_function m function) p.frame.pc (Some instr) ≡ size
      → q.frame.pc + size ≡ place_of m number function (suc p.frame.pc)
  next_place size e =
      let f = ap (λ (o : Option Instr). size_at m function.of.answer (of_function m function) p.frame.pc o) (code_here m k i x p q ready instr here) in
      let g = ready.pc in
      omega (arith, e, f, g)

  -- The code has an instruction where this one goes over so many, whether or not it does so.
  pub past_within : (n : ℕ) → leads_to p.frame.pc instr ≡ on_or_past p.frame.pc n
      → place_of m number function (suc p.frame.pc + n) < length (object_of m).insts
  past_within n leads =
      let row = code_here m k i x p q ready instr here in
      let all = (functions_are_closed m.adts (routine_of function)).inside p.frame.pc instr row in
      let within = subst (All (λ to. to < length (of_function m function).code)) leads all 1 0 (omega arith) in
      let t = is_there (of_function m function).code (suc p.frame.pc + n) within in
      b.inside number function (suc p.frame.pc + n) t.0 ready.stands.is.there t.1

  -- where its row is a branch by an int of a slot and 0, and the other goes so
  module _ (s n : ℕ) (o : Op) (c : Comparison) (op_is : number_row o ≡ Some (Branches Int c)) (z : ℤ)
      (found : number_at Int q.frame.words (pos (number_place m.adts (types_of m function) s)) ≡ Found z) where
    abbrev branch : Inst
    branch = inst o (own (number_place m.adts (types_of m function) s)) (middle.Imm (pos 0)) (operand.Imm (pos (place_of m number function (suc p.frame.pc + n))))

    pub branch_goes : slice_get (code_of (site_of m number function p.frame.pc row.at) instr) 0 ≡ Some branch
        → size_at m function.of.answer (of_function m function) p.frame.pc (Some instr) ≡ 1
        → leads_to p.frame.pc instr ≡ on_or_past p.frame.pc n
        → (jumped : Bool) → compared c z (pos 0) ≡ jumped
        → GoesOn m function (suc p.frame.pc + code.choice jumped n 0) ready.stands.is.known
        → (sides m).program.step w p ≡ code.goes_to w p (suc p.frame.pc + code.choice jumped n 0) p.frame.slots → Once m b i p q k w x
    branch_goes is size leads jumped e goes does = go jumped e goes does
      where
        target : ℕ
        target = place_of m number function (suc p.frame.pc + n)

        step_is : (h : Bool) → compared c z (pos 0) ≡ h → (sides m).code.step x q ≡ where_holds x q h target
        step_is h e =
            steps_obey.does frames_limit (object_of m ∷ []) x q (object_of m) branch (where_holds x q h target) (first branch is)
            (numbers_work.branches frames_limit (object_of m) x q branch Int c z (pos 0) target op_is
            (operands_are_read.source_number x q (own (number_place m.adts (types_of m function) s)) q.frame.words
            (number_place m.adts (types_of m function) s) Int (spots_lead.own x q (number_place m.adts (types_of m function) s)).0 ∙ found)
            (operands_are_read.middle_given x q Int (pos 0)) refl (past_within n leads)
            ∙ ap (λ g. Found (where_holds x q g target)) e)

        go : (h : Bool) → compared c z (pos 0) ≡ h → GoesOn m function (suc p.frame.pc + code.choice h n 0) ready.stands.is.known
            → (sides m).program.step w p ≡ code.goes_to w p (suc p.frame.pc + code.choice h n 0) p.frame.slots → Once m b i p q k w x
        go true e goes f = lands (suc p.frame.pc + n) target (step_is true e) refl goes f
        go false e goes f =
            let g = next_place 1 size in
            let same : suc p.frame.pc + 0 ≡ suc p.frame.pc = omega arith in
            lands (suc p.frame.pc) (suc q.frame.pc) (step_is false e) (omega (arith, g))
            (subst (λ l. GoesOn m function l ready.stands.is.known) same goes) (f ∙ ap (λ l. code.goes_to w p l p.frame.slots) same)

  -- code that goes on behind it
  pub behind_it : (j pc : ℕ) (known : held.Slots) → j < length (behind m.adts p.frame.pc ready.stands.is.known instr)
      → slice_index_or (behind m.adts p.frame.pc ready.stands.is.known instr) j (stand pc known) ≡ stand pc known → GoesOn m function pc known
  behind_it = goes_behind m function p.frame.pc ready.stands.is.known instr ready.stands.goes (code_here m k i x p q ready instr here)

-- ---- jumps

pub jumps_go : JumpsGo
jumps_go m b n k i x p q ready here =
    single m b i p q k x ready (λ now w y r hold worlds.
    jump_goes m b now i w y p q r hold worlds (Jump n) here (suc p.frame.pc + n) refl
    (behind_it m b now i w y p q r hold worlds (Jump n) here 0 (suc p.frame.pc + n) r.stands.is.known (omega arith) refl)
    (ap (code.next frames_limit (program m) w p) here))

pub backs_go : BacksGo
backs_go m b n k i x p q ready here =
    single m b i p q k x ready (λ now w y r hold worlds.
    jump_goes m b now i w y p q r hold worlds (Back n) here (p.frame.pc - n) refl
    (behind_it m b now i w y p q r hold worlds (Back n) here 0 (p.frame.pc - n) r.stands.is.known (omega arith) refl)
    (ap (code.next frames_limit (program m) w p) here))

-- ---- branches by a slot

value_here : (slots : core.Slots) (s : ℕ) (z : ℤ) → core.slot slots s ≡ Holds (Num z) → holds (core.value_of (core.slot slots s)) ≡ operators.holds z
value_here slots s z e = ap (λ (l : Slot). holds (core.value_of l)) e

either : (m : typed.Module) (f : typed.Function) (pc n : ℕ) (known : held.Slots) (b : Bool) → GoesOn m f (suc pc + n) known
    → GoesOn m f (suc pc) known → GoesOn m f (suc pc + code.choice b n 0) known
either m f pc n known true far near = far
either m f pc n known false far near = subst (λ l. GoesOn m f l known) (omega arith) near

chosen : (b : Bool) (n : ℕ) → code.choice (if b then false else true) 0 n ≡ code.choice b n 0
chosen true n = refl
chosen false n = refl

pub unless_goes : UnlessGoes
unless_goes m b s n k i x p q ready here =
    single m b i p q k x ready (λ now w y r hold worlds.
    let is = r.stands.is in
    let row = code_here m now i y p q r (Unless s n) here in
    let z = number_is m now i y [] p.frame q.frame is Int s refl (uses m now i y [] p.frame q.frame is p.frame.pc (Unless s n) row) (λ e. e)
    (finds m is.function p.frame.pc is.known (Unless s n) r.stands.goes row) in
    branch_goes m b now i w y p q r hold worlds (Unless s n) here s n op.Beqw Equal refl z.number z.found refl refl refl
    (int_eq z.number (pos 0)) refl
    (either m is.function p.frame.pc n is.known (int_eq z.number (pos 0))
    (behind_it m b now i w y p q r hold worlds (Unless s n) here 0 (suc p.frame.pc + n) is.known (omega arith) refl)
    (behind_it m b now i w y p q r hold worlds (Unless s n) here 1 (suc p.frame.pc) is.known (omega arith) refl))
    (ap (code.next frames_limit (program m) w p) here
    ∙ ap (λ (h : Bool). code.goes_to w p (suc p.frame.pc + code.choice h 0 n) p.frame.slots) (value_here p.frame.slots s z.number z.holds)
    ∙ ap (λ (l : ℕ). code.goes_to w p (suc p.frame.pc + l) p.frame.slots) (chosen (int_eq z.number (pos 0)) n)))

-- what was decided holds or doesn't
truth_holds : (b : Bool) → compared Unequal (truth b) (pos 0) ≡ b
truth_holds true = refl
truth_holds false = refl

truth_is : (b : Bool) → operators.holds (truth b) ≡ b
truth_is true = refl
truth_is false = refl

mirror_goes : (m : typed.Module) (f : typed.Function) (pc d n : ℕ) (known : held.Slots) (h : Bool) → GoesOn m f pc known
    → slice_get (of_function m f).code pc ≡ Some (Mirror d n) → held.slot known d ≡ Decided h → GoesOn m f (suc pc + code.choice h n 0) known
mirror_goes m f pc d n known true goes here e =
    goes_behind m f pc known (Mirror d n) goes here 0 (suc pc + n) known
    (subst (λ g. 0 < length (mirrored pc n known g)) (sym e) (omega arith))
    (ap (λ g. slice_index_or (mirrored pc n known g) 0 (stand (suc pc + n) known)) e)
mirror_goes m f pc d n known false goes here e =
    subst (λ l. GoesOn m f l known) (omega arith)
    (goes_behind m f pc known (Mirror d n) goes here 0 (suc pc) known
    (subst (λ g. 0 < length (mirrored pc n known g)) (sym e) (omega arith))
    (ap (λ g. slice_index_or (mirrored pc n known g) 0 (stand (suc pc) known)) e))

pub mirrors_go : MirrorsGo
mirrors_go m b d n k i x p q ready here =
    single m b i p q k x ready (λ now w y r hold worlds.
    let is = r.stands.is in
    let row = code_here m now i y p q r (Mirror d n) here in
    let known = finds m is.function p.frame.pc is.known (Mirror d n) r.stands.goes row in
    let z = decision_is m now i y [] p.frame q.frame is known.0 d (uses m now i y [] p.frame q.frame is p.frame.pc (Mirror d n) row)
    (λ e. e) known.1 in
    branch_goes m b now i w y p q r hold worlds (Mirror d n) here d n op.Bnew Unequal refl (truth known.0) z.found refl refl refl
    known.0 (truth_holds known.0)
    (mirror_goes m is.function p.frame.pc d n is.known known.0 r.stands.goes row known.1)
    (ap (code.next frames_limit (program m) w p) here
    ∙ ap (λ (h : Bool). code.goes_to w p (suc p.frame.pc + code.choice h n 0) p.frame.slots)
    (value_here p.frame.slots d (truth known.0) z.holds ∙ truth_is known.0)))
