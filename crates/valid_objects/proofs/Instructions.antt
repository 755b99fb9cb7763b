-- The code of each instruction, and of all: its numbers fit their fields.
use Rattle.std.proofs.Common.{◌≡◌, ℕ, zero, suc, ℤ, pos, negsuc, ◌+◌, ◌-◌, ◌*◌, ◌<◌, ◌≤◌, max, true, List, [], ◌∷◌, ◌++◌, length, Option}
use Rattle.std.proofs.Common.{Some, None, refl, sym, ap, ◌∙◌, subst, arith}
use Rattle.std.specs.Prelude.{slice_get}
use Rattle.dis_isa.specs.declared.inst.Inst as code_inst
use Rattle.dis_isa.specs.declared.inst.Middle.{Middle}
use Rattle.dis_isa.specs.declared.inst.Middle.TheVariants as middle
use Rattle.dis_isa.specs.declared.inst.Operand as isa
use Rattle.dis_isa.specs.declared.inst.Operand.TheVariants as operand
use Rattle.dis_isa.specs.declared.op.Op.{Op}
use Rattle.dis_isa.specs.declared.op.Op.TheVariants as op
use Rattle.limbo_values.specs.declared.number.Kind.{Kind}
use Rattle.limbo_values.specs.declared.number.Kind.TheVariants.{Byte, Int, Big}
use Rattle.limbo_values.specs.declared.operator.Operator.TheVariants as operator
use Rattle.limbo_values.specs.declared.operator.Unary.{Unary}
use Rattle.limbo_values.specs.declared.operator.Unary.TheVariants as unary
use Rattle.limbo_typed.specs.declared.operation.Operation.{Operation}
use Rattle.limbo_typed.specs.declared.operation.Operation.TheVariants as operation
use Rattle.slot_code.specs.Code.{Spot, Variable, Global, Temporary, Argument, Operand, In, Number, Inst, Move, Hand, Alter, Operate, Branch}
use Rattle.slot_code.specs.Code.{Jump, Skip, Back, Begin, Call, Format, Print, Return, Leave, Function, Module}
use Rattle.dis_objects.specs.Frames.{Callee, Calls, Prints, Room, room_of, made_by, made_from, made_at, all_bytes, most_bytes, argument_bytes}
use Rattle.dis_objects.specs.Frames.{first_place, block_place, spot_count, operand_count, inst_count, count, temporary_place, answer_place}
use Rattle.dis_objects.specs.Code.{Code, Context, inst, own, place, place_of, source, middle_of, as_middle, moving, altered, converted, decided}
use Rattle.dis_objects.specs.Code.{altering, operating, jump_to, moved, zeroed, passed, answer_to, framed, frame_type, calling, printing, answer}
use Rattle.dis_objects.specs.Code.{inst_code, insts_code, insts_data, data_of, data_bytes, source_data, move_op, arithmetic_op, shift_op}
use Rattle.dis_objects.specs.Code.{branch_op, number_middle, fits_middle, spot_kind, operand_kind, right_kind}
use Rattle.dis_objects.specs.Objects.{base_of, context, zeros_place, data_place, function_data, functions_data, functions_code, entry, begins}
use Rattle.dis_objects.specs.Objects.{ends_at_once, init_of, all_code}
use Rattle.dis_objects.specs.Proper.{IsRead, IsWritten, IsTaken, ProperInst, CallsFunction, PrintsFormat}
use Rattle.dis_objects.proofs.Growing.{bytes_append}
use Rattle.dis_objects.proofs.Walks.{made_next, fits_from, count_within}
use Rattle.part_code.specs.Held.{IsMiddle, IsHeld, AllHeld}
use Rattle.valid_objects.specs.Writable.{IsWritable, most_moved}
use Rattle.valid_objects.proofs.Spelling.{Each, each_both}
use Rattle.valid_objects.proofs.Operands.{Holds, HoldsMiddle, HoldsInst, HoldsCode, inst_holds, own_holds, data_holds, made_holds, own_middle}
use Rattle.valid_objects.proofs.Operands.{number_holds, source_holds, middle_holds, count_fits}
use Rattle.valid_objects.proofs.Places.{there_within, near, functions_few, entry_near, global_near, place_near, made_near, variable_near}
use Rattle.valid_objects.proofs.Places.{temporary_near, block_near, ready_near}

-- ---- rows of instructions

moving_holds : (k : Kind) (s d : isa.Operand) → Holds s → Holds d → HoldsInst (moving k s d)
moving_holds k s d a b = inst_holds (move_op k) s middle.None d a tt b

jump_holds : (pc : ℕ) → pc < 536870912 → HoldsInst (jump_to pc)
jump_holds pc h = inst_holds op.Jmp operand.None middle.None (operand.Imm (pos pc)) tt tt (number_holds pc h)

small_middle : (n : ℕ) → n ≤ 32767 → (at : ℕ) → HoldsMiddle (number_middle (fits_middle (pos n)) (pos n) at)
small_middle n h at = middle_holds (pos n) at (count_fits n h)

moved_holds : (n : ℕ) (s d : isa.Operand) (at : ℕ) → n ≤ 32767 → Holds s → Holds d → HoldsInst (moved n s d at)
moved_holds n s d at h a b =
    inst_holds op.Movm s (number_middle (fits_middle (pos n)) (pos n) at) d a (small_middle n h at) b

by_number : (o : Op) (s d : isa.Operand) (z : ℤ) → HoldsMiddle (middle.Imm z) → Holds s → Holds d → HoldsInst (inst o s (middle.Imm z) d)
by_number o s d z m a b = inst_holds o s (middle.Imm z) d a m b

altered_holds : (u : Unary) (k : Kind) (s d : isa.Operand) → Holds s → Holds d → HoldsInst (altered u k s d)
altered_holds unary.Plus k s d a b = moving_holds k s d a b
altered_holds unary.Minus k s d a b = by_number (arithmetic_op operator.Subtract k) s d (pos 0) ((refl, refl), tt) a b
altered_holds unary.Complement k s d a b = by_number (arithmetic_op operator.Subtract k) s d (negsuc 0) ((refl, refl), tt) a b
altered_holds unary.Increment k s d a b = by_number (arithmetic_op operator.Add k) s d (pos 1) ((refl, refl), tt) a b
altered_holds unary.Decrement k s d a b = by_number (arithmetic_op operator.Add k) s d (negsuc 0) ((refl, refl), tt) a b

passing_holds : Holds (own 20)
passing_holds = own_holds 20 (omega arith)

converted_holds : (from to : Kind) (s d : isa.Operand) → Holds s → Holds d → HoldsCode (converted from to s d)
converted_holds Byte Int s d a b = (inst_holds op.Cvtbw s middle.None d a tt b, tt)
converted_holds Int Byte s d a b = (inst_holds op.Cvtwb s middle.None d a tt b, tt)
converted_holds Int Big s d a b = (inst_holds op.Cvtwl s middle.None d a tt b, tt)
converted_holds Big Int s d a b = (inst_holds op.Cvtlw s middle.None d a tt b, tt)
converted_holds Byte Big s d a b =
    (inst_holds op.Cvtbw s middle.None (own 20) a tt passing_holds, (inst_holds op.Cvtwl (own 20) middle.None d passing_holds tt b, tt))
converted_holds Big Byte s d a b =
    (inst_holds op.Cvtlw s middle.None (own 20) a tt passing_holds, (inst_holds op.Cvtwb (own 20) middle.None d passing_holds tt b, tt))
converted_holds Byte Byte s d a b = (moving_holds Byte s d a b, tt)
converted_holds Int Int s d a b = (moving_holds Int s d a b, tt)
converted_holds Big Big s d a b = (moving_holds Big s d a b, tt)

decided_holds : (here : ℕ) (o : Op) (s : isa.Operand) (m : Middle) (d : isa.Operand) → here ≤ 1048576 → Holds s → HoldsMiddle m → Holds d
    → HoldsCode (decided here o s m d)
decided_holds here o s m d h a x b = (
  inst_holds o s m (operand.Imm (pos (here + 3))) a x (number_holds (here + 3) (omega (arith, h))),
  (
    moving_holds Int (operand.Imm (pos 0)) d (number_holds 0 (omega arith)) b,
    (
      jump_holds (here + 4) (omega (arith, h)),
      (moving_holds Int (operand.Imm (pos 1)) d (number_holds 1 (omega arith)) b, tt),
    ),
  ),
)

altering_holds : (here : ℕ) (o : Operation) (s d : isa.Operand) → here ≤ 1048576 → Holds s → Holds d → HoldsCode (altering here o s d)
altering_holds here (operation.Alter u k) s d h a b = (altered_holds u k s d a b, tt)
altering_holds here operation.Not s d h a b = decided_holds here op.Beqw s (middle.Imm (pos 0)) d h a ((refl, refl), tt) b
altering_holds here (operation.Convert from to) s d h a b = converted_holds from to s d a b
altering_holds here o s d h a b = tt

first_most : (a b c : ℕ) → max a b ≤ c → a ≤ c
first_most a b c h = omega (arith, h)

second_most : (a b c : ℕ) → max a b ≤ c → b ≤ c
second_most a b c h = omega (arith, h)

-- ---- a function

module _ (m : Module) (w : IsWritable m) (n : ℕ) (f : Function) (e : slice_get m.functions n ≡ Some f) where
  abbrev C : Context
  C = context m n f

  abbrev HasSpot : Spot → Type 0
  HasSpot s = (k : Kind) → spot_count k s ≤ count k f.code

  abbrev HasOperand : Operand → Type 0
  HasOperand x = (k : Kind) → operand_count k x ≤ count k f.code

  -- What is being made ready has its room.
  abbrev Fits : List Callee → Type 0
  Fits cs = all_bytes m.functions cs ≤ most_bytes m.functions [] f.code

  spot_holds : (cs : List Callee) (s : Spot) → IsRead m f s → HasSpot s → Holds (place_of C cs s)
  spot_holds cs (Variable k x) h t = let l = variable_near m w n f e x in own_holds _ (omega (arith, l))
  spot_holds cs (Global k x) h t = data_holds _ (global_near m w k x)
  spot_holds cs (Temporary k d) h t = let l = temporary_near m w n f e k d (t k) in own_holds _ (omega (arith, l))
  spot_holds cs (Argument k i) h t = absurd h

  argument_holds : (cs : List Callee) (k : Kind) (i : ℕ) → Fits cs → Holds (place_of C cs (Argument k i))
  argument_holds [] k i h = own_holds 0 (omega arith)
  argument_holds (c ∷ cs) k i h = let l = ready_near m w n f e c cs i h in own_holds _ (omega (arith, l))

  into_holds : (cs : List Callee) (s : Spot) → IsWritten m f cs s → HasSpot s → Fits cs → Holds (place_of C cs s)
  into_holds cs (Variable k x) h t b = spot_holds cs (Variable k x) h t
  into_holds cs (Global k x) h t b = spot_holds cs (Global k x) h t
  into_holds cs (Temporary k d) h t b = spot_holds cs (Temporary k d) h t
  into_holds cs (Argument k i) h t b = argument_holds cs k i b

  spot_middle : (s : Spot) → IsMiddle (In s) → IsRead m f s → HasSpot s → HoldsMiddle (as_middle (place_of C [] s))
  spot_middle (Variable k x) i h t = own_middle _ (variable_near m w n f e x)
  spot_middle (Global k x) i h t = absurd i
  spot_middle (Temporary k d) i h t = own_middle _ (temporary_near m w n f e k d (t k))
  spot_middle (Argument k j) i h t = absurd h

  operand_holds : (k : Kind) (x : Operand) (at : ℕ) → at ≤ zeros_place m → IsTaken m f k x → HasOperand x → Holds (source C x at)
  operand_holds k (In s) at l h t = spot_holds [] s h.0 t
  operand_holds k (Number z) at l h t = let b = near m w in source_holds z at (omega (arith, l, b))

  operand_middle : (k : Kind) (x : Operand) (at : ℕ) → IsMiddle x → IsTaken m f k x → HasOperand x → HoldsMiddle (middle_of C x at)
  operand_middle k (In s) at i h t = spot_middle s i h.0 t
  operand_middle k (Number z) at i h t = middle_holds z at i

  here_near : (pc : ℕ) → place C pc ≤ 1048576
  here_near pc = place_near m w n f e pc

  to_holds : (pc : ℕ) → Holds (operand.Imm (pos (place C pc)))
  to_holds pc = let l = here_near pc in number_holds (place C pc) (omega (arith, l))

  goes_holds : (pc : ℕ) → HoldsInst (jump_to (place C pc))
  goes_holds pc = let l = here_near pc in jump_holds (place C pc) (omega (arith, l))

  operating_holds : (here at : ℕ) (o : Operation) (s : Spot) (x y : Operand) (d : isa.Operand) → here ≤ 1048576 → at ≤ zeros_place m
      → IsHeld (Operate o s x y) → IsTaken m f (operand_kind o) x → IsTaken m f (right_kind o) y → HasOperand x → HasOperand y → Holds d
      → HoldsCode (operating C here at o x y d)
  operating_holds here at (operation.Arithmetic u k) s x y d h l i a b t v z =
      (inst_holds _ _ _ d (operand_holds k y at l b v) (operand_middle k x _ i a t) z, tt)
  operating_holds here at (operation.Shift u k) s x y d h l i a b t v z =
      (inst_holds _ _ _ d (operand_holds Int y at l b v) (operand_middle k x _ i a t) z, tt)
  operating_holds here at (operation.Compare u k) s x y d h l i a b t v z =
      decided_holds here _ _ _ d h (operand_holds k x at l a t) (operand_middle k y _ i b v) z
  operating_holds here at o s x y d h l i a b t v z = tt

  -- ---- calls and prints

  made_word_holds : Holds (own (room_of m.functions f).made)
  made_word_holds = let l = made_near m w n f e in own_holds _ (omega (arith, l))

  in_made_holds : (at : ℕ) → at < 536870912 → Holds (operand.IndFp (pos (room_of m.functions f).made) (pos at))
  in_made_holds at h = let l = made_near m w n f e in made_holds _ at (omega (arith, l)) h

  framed_holds : (k : ℕ) → k ≤ 1048577 → HoldsInst (framed C (pos k))
  framed_holds k l = inst_holds op.Frame (operand.Imm (pos k)) middle.None _ (number_holds k (omega (arith, l))) tt made_word_holds

  first_near : (c : Callee) → first_place c < 536870912
  first_near (Calls g) = omega arith
  first_near (Prints ps) = omega arith

  -- So many bytes are moved at once.
  few_moved : (c : Callee) (cs : List Callee) → Fits (c ∷ cs) → argument_bytes m.functions c ≤ 32767
  few_moved c cs h = let l = w.moved n f e in omega (arith, h, l)

  others_fit : (c : Callee) (cs : List Callee) → Fits (c ∷ cs) → Fits cs
  others_fit c cs h = omega (arith, h)

  block_holds : (c : Callee) (cs : List Callee) → Fits (c ∷ cs) → Holds (own (block_place m.functions (room_of m.functions f) cs))
  block_holds c cs h = let l = block_near m w n f e cs (others_fit c cs h) in own_holds _ (omega (arith, l))

  passed_holds : (c : Callee) (cs : List Callee) (at : ℕ) → Fits (c ∷ cs) → HoldsInst (passed C cs c at)
  passed_holds c cs at h = moved_holds _ _ _ at (few_moved c cs h) (block_holds c cs h) (in_made_holds (first_place c) (first_near c))

  zeroed_holds : (c : Callee) (cs : List Callee) (at : ℕ) → Fits (c ∷ cs) → HoldsInst (zeroed C cs c at)
  zeroed_holds c cs at h =
      let l = near m w in
      moved_holds _ _ _ at (few_moved c cs h) (data_holds (zeros_place m) (omega (arith, l))) (block_holds c cs h)

  answer_to_holds : (cs : List Callee) (s : Spot) → Holds (place_of C cs s) → HoldsInst (answer_to C cs s)
  answer_to_holds cs s h = inst_holds op.Lea (place_of C cs s) middle.None _ h tt (in_made_holds answer_place (omega arith))

  calling_holds : (cs : List Callee) (k : Kind) (g count at : ℕ) (into : Spot) → CallsFunction m f cs k g count into → Fits cs → HasSpot into
      → HoldsCode (calling C at g into cs)
  calling_holds cs k g count at into q b t =
      let fits : Fits (Calls g ∷ q.others) = subst Fits q.last b in
      let l = there_within m.functions g q.function q.there in
      let few = functions_few m w in
      let r = entry_near m w g in
      subst (λ ds. HoldsCode (calling C at g into ds)) (sym q.last) (
        framed_holds (suc g) (omega (arith, l, few)),
        (
          passed_holds (Calls g) q.others at fits,
          (
            answer_to_holds q.others into (into_holds q.others into q.written t (others_fit (Calls g) q.others fits)),
            (inst_holds op.Call _ middle.None _ made_word_holds tt (number_holds (base_of m.functions g) (omega (arith, r))), tt),
          ),
        ),
      )

  printing_holds : (cs : List Callee) (count at : ℕ) (into : Spot) → PrintsFormat m f cs count into → Fits cs → HasSpot into
      → at ≤ zeros_place m → HoldsCode (printing C at into cs)
  printing_holds cs count at into q b t l =
      let c = Prints q.pieces in
      let fits : Fits (c ∷ q.others) = subst Fits q.last b in
      let few = functions_few m w in
      let r = near m w in
      subst (λ ds. HoldsCode (printing C at into ds)) (sym q.last) (
        framed_holds (suc (length m.functions)) (omega (arith, few)),
        (
          inst_holds op.Movp (operand.Mp (pos at)) middle.None _ (data_holds at (omega (arith, l, r))) tt (in_made_holds 32 (omega arith)),
          (
            passed_holds c q.others (at + 4) fits,
            (
              answer_to_holds q.others into (spot_holds q.others into q.written t),
              (
                inst_holds op.Mcall _ (middle.Imm (pos 16)) _ made_word_holds ((refl, refl), tt) (data_holds 4 (omega arith)),
                tt,
              ),
            ),
          ),
        ),
      )

  answer_holds : (k : Kind) (s : isa.Operand) → Holds s → HoldsCode (answer k s)
  answer_holds k s h = (
    moving_holds k s (operand.IndFp (pos 16) (pos 0)) h (made_holds 16 0 (omega arith) (omega arith)),
    (inst_holds op.Ret operand.None middle.None operand.None tt tt tt, tt),
  )

  -- ---- an instruction

  one_holds : (pc at : ℕ) (i : Inst) → slice_get f.code pc ≡ Some i → ProperInst m f (made_at f.code pc) pc i → IsHeld i
      → at ≤ zeros_place m → ((k : Kind) → inst_count k i ≤ count k f.code) → Fits (made_at f.code pc) → Fits (made_by (made_at f.code pc) i)
      → HoldsCode (inst_code C pc at (made_at f.code pc) i)
  one_holds pc at (Move into x) there h i l t b a = (
    moving_holds (spot_kind into) _ _
        (operand_holds (spot_kind into) x at l h.1 (λ k. second_most (spot_count k into) (operand_count k x) (count k f.code) (t k)))
        (into_holds _ into h.0 (λ k. first_most (spot_count k into) (operand_count k x) (count k f.code) (t k)) b),
    tt,
  )
  one_holds pc at (Hand into x) there h i l t b a = (
    moving_holds (spot_kind into) _ _
        (operand_holds (spot_kind into) x at l h.1 (λ k. second_most (spot_count k into) (operand_count k x) (count k f.code) (t k)))
        (into_holds _ into h.0 (λ k. first_most (spot_count k into) (operand_count k x) (count k f.code) (t k)) b),
    tt,
  )
  one_holds pc at (Alter o into x) there h i l t b a =
      altering_holds (place C pc) o _ _ (here_near pc)
      (operand_holds (operand_kind o) x at l h.3 (λ k. second_most (spot_count k into) (operand_count k x) (count k f.code) (t k)))
      (into_holds _ into h.1 (λ k. first_most (spot_count k into) (operand_count k x) (count k f.code) (t k)) b)
  one_holds pc at (Operate o into x y) there h i l t b a =
      operating_holds (place C pc) at o into x y _ (here_near pc) l i h.3 h.4
      (λ k. first_most (operand_count k x) (operand_count k y) (count k f.code) (two_most k into x y (t k)))
      (λ k. second_most (operand_count k x) (operand_count k y) (count k f.code) (two_most k into x y (t k)))
      (into_holds _ into h.1
      (λ k. first_most (spot_count k into) (max (operand_count k x) (operand_count k y)) (count k f.code) (t k)) b)
    where
      two_most : (k : Kind) (into : Spot) (x y : Operand) → max (spot_count k into) (max (operand_count k x) (operand_count k y)) ≤ count k f.code
          → max (operand_count k x) (operand_count k y) ≤ count k f.code
      two_most k into x y z = second_most (spot_count k into) (max (operand_count k x) (operand_count k y)) (count k f.code) z
  one_holds pc at (Branch k o x y j) there h i l t b a = (
    inst_holds (branch_op o k) _ _ _
        (operand_holds k x at l h.0 (λ z. first_most (operand_count z x) (operand_count z y) (count z f.code) (t z)))
        (operand_middle k y _ i h.1 (λ z. second_most (operand_count z x) (operand_count z y) (count z f.code) (t z)))
        (to_holds (suc pc + j)),
    tt,
  )
  one_holds pc at (Jump j) there h i l t b a = (goes_holds (suc pc + j), tt)
  one_holds pc at (Skip j) there h i l t b a = (goes_holds (suc pc + j), tt)
  one_holds pc at (Back j) there h i l t b a = (goes_holds (pc - j), tt)
  one_holds pc at (Begin g) there h i l t b a = (zeroed_holds (Calls g) (made_at f.code pc) at a, tt)
  one_holds pc at (Format ps) there h i l t b a = (zeroed_holds (Prints ps) (made_at f.code pc) at a, tt)
  one_holds pc at (Call k g j into) there h i l t b a = calling_holds (made_at f.code pc) k g j at into h.0 b t
  one_holds pc at (Print j into) there h i l t b a = printing_holds (made_at f.code pc) j at into h.0 b t l
  one_holds pc at (Return x) there h i l t b a = answer_holds f.answer _ (operand_holds f.answer x at l h.0 t)
  one_holds pc at Leave there h i l t b a = answer_holds f.answer (operand.Imm (pos 0)) (number_holds 0 (omega arith))

  inst_here : (pc at : ℕ) (i : Inst) → slice_get f.code pc ≡ Some i → IsHeld i → at ≤ zeros_place m
      → HoldsCode (inst_code C pc at (made_at f.code pc) i)
  inst_here pc at i there h l =
      let next = made_next [] f.code pc i there in
      let after : Fits (made_from [] f.code (suc pc)) = fits_from m.functions [] f.code (suc pc) in
      one_holds pc at i there ((w.proper.functions n f e).each pc i there) h l (λ k. count_within k f.code pc i there)
      (fits_from m.functions [] f.code pc) (subst Fits next after)

  -- ---- all of them

  insts_hold : (pc at : ℕ) (cs : List Callee) (is : List Inst) → cs ≡ made_at f.code pc
      → ((j : ℕ) (i : Inst) → slice_get is j ≡ Some i → slice_get f.code (pc + j) ≡ Some i) → AllHeld is
      → at + data_bytes (insts_data m.functions f.answer cs is) ≤ zeros_place m → HoldsCode (insts_code C pc at cs is)
  insts_hold pc at cs [] q there h l = tt
  insts_hold pc at cs (i ∷ is) q there h l =
      let here : slice_get f.code pc ≡ Some i = let z : pc + 0 ≡ pc = omega arith in subst (λ k. slice_get f.code k ≡ Some i) z (there 0 i refl) in
      let bytes = bytes_append (data_of m.functions f.answer cs i) (insts_data m.functions f.answer (made_by cs i) is) in
      let one : HoldsCode (inst_code C pc at cs i) =
      subst (λ ds. HoldsCode (inst_code C pc at ds i)) (sym q) (inst_here pc at i here h.0 (omega (arith, l))) in
      let next : made_by cs i ≡ made_at f.code (suc pc) = ap (λ ds. made_by ds i) q ∙ sym (made_next [] f.code pc i here) in
      let more : HoldsCode (insts_code C (suc pc) (at + data_bytes (data_of m.functions f.answer cs i)) (made_by cs i) is) =
      insts_hold (suc pc) (at + data_bytes (data_of m.functions f.answer cs i)) (made_by cs i) is next
      (λ j k z. let s : pc + suc j ≡ suc pc + j = omega arith in subst (λ p. slice_get f.code p ≡ Some k) s (there (suc j) k z)) h.1
      (omega (arith, l, bytes)) in
      each_both HoldsInst (inst_code C pc at cs i) _ one more

  pub function_holds : (at : ℕ) → at + data_bytes (function_data m.functions f) ≤ zeros_place m → HoldsCode (insts_code C 0 at [] f.code)
  function_holds at l =
      insts_hold 0 at [] f.code refl (λ j i z. let s : j ≡ 0 + j = omega arith in subst (λ p. slice_get f.code p ≡ Some i) s z) (w.held n f e) l

-- ---- the module

module _ (m : Module) (w : IsWritable m) where
  functions_hold : (n at : ℕ) (fs : List Function)
      → ((j : ℕ) (g : Function) → slice_get fs j ≡ Some g → slice_get m.functions (n + j) ≡ Some g)
      → at + data_bytes (functions_data m.functions fs) ≤ zeros_place m → HoldsCode (functions_code m n at fs)
  functions_hold n at [] there l = tt
  functions_hold n at (f ∷ fs) there l =
      let here : slice_get m.functions n ≡ Some f =
      let z : n + 0 ≡ n = omega arith in subst (λ k. slice_get m.functions k ≡ Some f) z (there 0 f refl) in
      let bytes = bytes_append (function_data m.functions f) (functions_data m.functions fs) in
      let one : HoldsCode (insts_code (context m n f) 0 at [] f.code) = function_holds m w n f here at (omega (arith, l, bytes)) in
      let more : HoldsCode (functions_code m (suc n) (at + data_bytes (function_data m.functions f)) fs) =
      functions_hold (suc n) (at + data_bytes (function_data m.functions f)) fs
      (λ j g z. let s : n + suc j ≡ suc n + j = omega arith in subst (λ p. slice_get m.functions p ≡ Some g) s (there (suc j) g z))
      (omega (arith, l, bytes)) in
      each_both HoldsInst (insts_code (context m n f) 0 at [] f.code) _ one more

  entry_holds : (o : Option ℕ) → HoldsCode (entry m.functions o)
  entry_holds None = (inst_holds op.Ret operand.None middle.None operand.None tt tt tt, tt)
  entry_holds (Some k) =
      let l = entry_near m w k in (
        inst_holds op.Load _ (middle.Imm (pos 0)) _ (data_holds 0 (omega arith)) ((refl, refl), tt) (data_holds 4 (omega arith)),
        (
          inst_holds op.Lea (own 20) middle.None (own 16) (own_holds 20 (omega arith)) tt (own_holds 16 (omega arith)),
          (jump_holds (base_of m.functions k) (omega (arith, l)), tt),
        ),
      )

  pub code_holds : HoldsCode (all_code m)
  code_holds =
      each_both HoldsInst (entry m.functions (init_of m)) (functions_code m 0 (data_place m) m.functions) (entry_holds (init_of m))
      (functions_hold 0 (data_place m) m.functions
      (λ j g z. let s : j ≡ 0 + j = omega arith in subst (λ p. slice_get m.functions p ≡ Some g) s z) (omega arith))
