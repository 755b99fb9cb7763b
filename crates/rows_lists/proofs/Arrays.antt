-- New arrays.
use Rattle.std.proofs.Common.{◌≡◌, ℕ, ℤ, suc, pos, negsuc, ◌*◌, ◌<◌, Bool, true, false, if◌then◌else◌, List, [], ◌∷◌, ◌++◌, replicate, length, Some, Ok, Err, refl, sym, ap, ◌∙◌, subst, arith, inl, inr}
use Rattle.std.specs.Prelude.{slice_get, nat_lt, nat_le}
use Rattle.std.proofs.Math.Nat.{mul_comm}
use Rattle.std.proofs.lemmas.Bool.{ltb-true, ltb-false, leb-true, le-leb}
use Rattle.process_model.specs.Process.{Ends}
use Rattle.system_model.specs.Ending.{Broken}
use Rattle.limbo_types.specs.Types as ty
use Rattle.limbo_types.specs.Types.{Ty}
use Rattle.limbo_layout.specs.Layout.{Room, Laid}
use Rattle.limbo_values.specs.declared.number.Kind.TheVariants.{Int}
use Rattle.limbo_values.specs.Numbers.{InRange}
use Rattle.limbo_typed.specs.declared.operation.Operation.TheVariants.{NewArray}
use Rattle.limbo_typed.specs.Typed as typed
use Rattle.limbo_meaning.specs.Memory as source
use Rattle.limbo_meaning.specs.Exceptions.{negative_size, too_large}
use Rattle.inf_text.specs.Steps.{◌>>=◌}
use Rattle.limbo_meaning.specs.Operations.{new_array, new_elements, largest, size_of}
use Rattle.limbo_meaning.specs.Process.{Shared}
use Rattle.limbo_meaning.specs.Trees.{Operate}
use Rattle.limbo_meaning.specs.Values as value
use Rattle.limbo_meaning.specs.Values.{Value, Num, Array, number_of, zero_of}
use Rattle.system_model.specs.Limits.{frames_limit}
use Rattle.core_code.proofs.Rounds.{rounds_give_rooms}
use Rattle.core_code.specs.Code.{Instr, Give}
use Rattle.core_code.specs.Machine as code
use Rattle.core_code.specs.Slots as core
use Rattle.core_code.specs.Slots.{Slot, Holds}
use Rattle.core_typing.specs.Held as held
use Rattle.core_typing.specs.Held.{Of}
use Rattle.core_typing.specs.Needs.{AreThese, IsClean}
use Rattle.core_typing.specs.Going.{got_by}
use Rattle.dis_isa.specs.declared.inst.Inst.{Inst}
use Rattle.dis_isa.specs.declared.inst.Middle.TheVariants as middle
use Rattle.dis_isa.specs.declared.op.Op.TheVariants as op
use Rattle.dis_file.specs.declared.types.TypeDesc.{TypeDesc}
use Rattle.dis_meaning.specs.Words.{Found, Raises, or_wrong, type_check}
use Rattle.dis_meaning.specs.Process.{Process}
use Rattle.dis_memory.specs.Blocks.{World, next_serial, bytes_for, most_bytes, blank_array}
use Rattle.dis_memory.specs.Operands.{middle_type}
use Rattle.dis_memory.specs.Places.{source_of}
use Rattle.value_words.specs.Forms as forms
use Rattle.value_words.specs.Facts.{Facts}
use Rattle.value_words.specs.Stands.{an_array}
use Rattle.value_heaps.specs.Types.{desc_of}
use Rattle.value_heaps.proofs.Words.{named_where}
use Rattle.value_frames.specs.Frames.{number_place, reference_place}
use Rattle.value_frames.specs.Standing.{a_value}
use Rattle.value_frames.specs.Types.{desc}
use Rattle.value_moves.specs.Operands.{inst, own}
use Rattle.value_moves.proofs.Leading.{spots_lead}
use Rattle.value_code.specs.Data.{OfValue}
use Rattle.value_code.specs.Objects.{object_of, type_number}
use Rattle.value_code.proofs.Having.{objects_have}
use Rattle.number_effects.specs.Stepping.{Reaches}
use Rattle.number_effects.proofs.Reading.{operands_are_read}
use Rattle.number_effects.proofs.Stepping.{steps_obey}
use Rattle.block_effects.specs.Stored.{Comes, ReferenceThere, AfterBlock}
use Rattle.block_effects.proofs.Arrays.{arrays_come}
use Rattle.value_follows.specs.Stands.{types_of, place_of, GoesOn}
use Rattle.value_follows.specs.Sides.{sides, HoldTheSame, program}
use Rattle.value_follows.specs.Rows.{Base, InstrGoes}
use Rattle.value_follows.proofs.Comparing.{one_slot}
use Rattle.value_follows.proofs.Slots.{number_is, NumberIs}
use Rattle.value_follows.proofs.Standing.{finds, code_here}
use Rattle.value_follows.proofs.Single.{Once, both_end}
use Rattle.rows_lists.specs.Rows.{ArraysGo}
use Rattle.rows_lists.proofs.OnTheWay.{On, frame_is, row_code, reaches_it}
use Rattle.rows_lists.proofs.New.{value_made}
use Rattle.rows_lists.proofs.Coming.{reference_there, block_comes}
use Rattle.rows_lists.proofs.Needing.{used, found, next_on, goes_on_behind, rests, one_goes}
use Rattle.rows_lists.proofs.Lists.{one_name, comes}
use Rattle.rows_lists.proofs.Zeros.{same_desc, zero_words, zeros_bare, zeros, zero_block, as_many, zeros_stand}

not_le : (a c : ℕ) → c < a → nat_le a c ≡ false
not_le a c l = go (nat_le a c) refl
  where
    go : (g : Bool) → nat_le a c ≡ g → g ≡ false
    go true e = let h = leb-true a c e in absurd (omega (arith, h, l))
    go false e = refl

module _ (m : typed.Module) (b : Base m) (item : Ty) (into a : ℕ) where
  abbrev instr : Instr
  instr = Give (ty.ArrayOf item) (Operate NewArray) into (a ∷ [])

  module _ (k : Facts) (i : ℕ) (w : Shared) (x : World) (n : ℕ) (f : typed.Function) (p : code.Process) (q : Process) (on : On m k i x [] n f 0 p q)
      (hold : HoldTheSame m k i x p q) (worlds : (sides m).worlds k w x) (here : slice_get p.frame.code p.frame.pc ≡ Some instr)
      (r : Room) (laid : Laid m.adts item r) where
    abbrev place : ℕ → ℕ
    place s = number_place m.adts (types_of m f) s

    abbrev to : ℕ
    to = reference_place m.adts (types_of m f) into

    abbrev it : Inst
    it = inst op.Newaz (own (place a)) (middle.Imm (pos (type_number m (OfValue item)))) (own to)

    -- its elements' type
    element_there : middle_type (object_of m) (middle.Imm (pos (type_number m (OfValue item)))) ≡ Found (desc_of r)
    element_there =
        ap (or_wrong type_check)
        (objects_have.types m n f p.frame.pc instr (OfValue item) on.there (row_code m k i x [] n f 0 p q on instr here) (inr (inl refl)))
        ∙ ap (λ (s : Room). Found (desc s.size s.references)) (rounds_give_rooms.rooms m.adts item r laid)
        ∙ ap (λ (d : TypeDesc). Found d) (same_desc m.adts item r laid)

    -- what the other makes of a length
    abbrev made_by : ℤ → code.Does
    made_by z = comes m w p (ty.ArrayOf item) NewArray into (new_array m.adts (code.memory frames_limit (program m) w p) item z)

    abbrev by_size : Bool → ℕ → code.Does
    by_size g l =
        comes m w p (ty.ArrayOf item) NewArray into
        ((if g then Err too_large else Ok l) >>= λ l. Ok (new_elements (code.memory frames_limit (program m) w p) (replicate l (zero_of m.adts item))))

    -- how many bytes the elements take
    size_is : (l : ℕ) → l * size_of m.adts item ≡ bytes_for (desc_of r) l
    size_is l = ap (λ (s : ℕ). l * s) (rounds_give_rooms.sizes m.adts item r laid) ∙ mul_comm l r.size

    module _ (z : NumberIs m k i x [] p.frame q.frame (frame_is m k i x [] n f 0 p q on) Int a) (there : into < length p.frame.slots)
        (clean : IsClean (held.slot on.known into)) (is : Reaches (object_of m ∷ []) x q (object_of m) it)
        (next : suc q.frame.pc ≡ place_of m n f (suc p.frame.pc))
        (goes : GoesOn m f (suc p.frame.pc) (held.put on.known into (Of (ty.ArrayOf item) (got_by m.adts (ty.ArrayOf item) (Operate NewArray))))) where
      abbrev d : ReferenceThere x q (own to)
      d = let rest = rests m k i x n f 0 p q on into there clean in reference_there m b k i w x [] n f 0 p q on hold worlds into there refl rest.0 rest.1

      long_read : (y : ℤ) → z.number ≡ y → source_of Int x q (own (place a)) ≡ Found y
      long_read y e =
          operands_are_read.source_number x q (own (place a)) q.frame.words (place a) Int (spots_lead.own x q (place a)).0 ∙ z.found
          ∙ ap (λ (z : ℤ). Found z) e

      does : (y : ℤ) → z.number ≡ y → (sides m).program.step w p ≡ made_by y
      does y e =
          ap (code.next frames_limit (program m) w p) here
          ∙ ap (λ (s : Slot). made_by (number_of (core.value_of s))) z.holds
          ∙ ap made_by e

      ends : (text : List ℕ) → Comes frames_limit (object_of m) x q it (Raises text) → (sides m).program.step w p ≡ Ends w (Broken text) → Once m b i p q k w x
      ends text raises so = both_end m b i p q k w x worlds (Broken text) (steps_obey.raises frames_limit (object_of m ∷ []) x q (object_of m) it text is raises) so

      -- an array comes
      array_made : (l : ℕ) → z.number ≡ pos l → nat_lt largest (l * size_of m.adts item) ≡ false → Once m b i p q k w x
      array_made l e small =
          let vs = zeros m item r laid l in
          let new = zero_block m item r laid l in
          let live = got_by m.adts (ty.ArrayOf item) (Operate NewArray) in
          let part : value.Part = record { array = length w.heap; start = 0; long = length vs } in
          let made = value_made m k i w x worlds new (Some (forms.Elements item (length vs)))
          (λ c h. let at = named_where (zero_words r (length vs)) c h in absurd (zeros_bare r (length vs) at.0 c at.1))
          (source.Elements vs) (λ now grows known formed. zeros_stand m item r laid l (subst (InRange Int) e z.range) now (next_serial x) formed) in
          let few = ltb-false largest (l * size_of m.adts item) small in
          let bytes = size_is l in
          let rest = rests m k i x n f 0 p q on into there clean in
          block_comes m b k i w x [] n f 0 p q on hold worlds into there refl it is rest.0 rest.1 new
          (subst (λ (c : ℕ). Comes frames_limit (object_of m) x q it (AfterBlock x q d (blank_array (desc_of r) c))) (sym (as_many m item r laid l))
          ((arrays_come frames_limit (object_of m) x q).make.array op.Newaz (own (place a)) (own to) (middle.Imm (pos (type_number m (OfValue item))))
          (desc_of r) l d (inr refl) (long_read (pos l) e) element_there (le-leb (bytes_for (desc_of r) l) most_bytes (omega (arith, few, bytes)))))
          made.now (record { heap = w.heap ++ Some (source.Elements vs) ∷ []; outside = w.outside }) made.made made.after
          (ty.ArrayOf item) live (Array (Some part))
          (λ words h.
          a_value words (number_place m.adts (types_of m f) into) to (ty.ArrayOf item) live (Array (Some part))
          (an_array to item (Some (next_serial x)) (Some part) h (inl (record { fact = made.known; formed = made.formed }, refl)))
          (λ j c e. one_name c (Some (length w.heap)) j e))
          next goes
          (does (pos l) e ∙ ap (λ (g : Bool). by_size g l) small)

      go : (y : ℤ) → z.number ≡ y → Once m b i p q k w x
      go (pos l) e = sized (nat_lt largest (l * size_of m.adts item)) refl
        where
          sized : (g : Bool) → nat_lt largest (l * size_of m.adts item) ≡ g → Once m b i p q k w x
          sized false small = array_made l e small
          sized true large =
              let many = ltb-true largest (l * size_of m.adts item) large in
              let bytes = size_is l in
              ends too_large
              ((arrays_come frames_limit (object_of m) x q).make.too_large op.Newaz (own (place a)) (own to) (middle.Imm (pos (type_number m (OfValue item))))
              (desc_of r) l d (inr refl) (long_read (pos l) e) element_there
              (not_le (bytes_for (desc_of r) l) most_bytes (omega (arith, many, bytes))))
              (does (pos l) e ∙ ap (λ (g : Bool). by_size g l) large)
      go (negsuc l) e =
          ends negative_size
          ((arrays_come frames_limit (object_of m) x q).make.negative op.Newaz (own (place a)) (own to) (middle.Imm (pos (type_number m (OfValue item))))
          (desc_of r) l d (inr refl) (long_read (negsuc l) e) element_there)
          (does (negsuc l) e)

  array_row : InstrGoes m instr
  array_row k i x p q ready here =
      one_goes m b i p q k x ready (λ now w y on hold worlds.
      let n = ready.0.stands.is.number in
      let f = ready.0.stands.is.function in
      let there = used m now i y [] n f 0 p q on instr here in
      let needs = found m now i y [] n f 0 p q on instr here in
      let these = subst (AreThese on.known (a ∷ [])) needs.2.0.2 needs.1 in
      let laid = needs.2.2 in
      let z = number_is m now i y [] p.frame q.frame (frame_is m now i y [] n f 0 p q on) Int a refl there.1.0 (λ e. e) these.0 in
      go now i w y n f p q on hold worlds here laid.0 laid.1 z there.0 needs.3
      (reaches_it m b i p q [] n f 0 now w y on hold worlds instr here (it now i w y n f p q on hold worlds here laid.0 laid.1) refl)
      (next_on m now i y [] n f 0 p q on instr here 1 refl refl)
      (goes_on_behind m now i y [] n f 0 p q on instr here 0 (suc p.frame.pc) _ (omega arith) refl)
      z.number refl)

pub arrays_go : ArraysGo
arrays_go m b t into from k i x p q ready here =
    let it = Give t (Operate NewArray) into from in
    let r = ready.0 in
    let known = r.stands.is.known in
    let found = finds m r.stands.is.function p.frame.pc known it r.stands.goes (code_here m k i x p q r it here) in
    let slot = one_slot known from ty.Int (subst (AreThese known from) found.2.0.2 found.1) in
    array_row m b found.2.0.0 into slot.0 k i x p q ready
    (here ∙ ap (λ (u : Ty). Some (Give u (Operate NewArray) into from)) found.2.0.1
    ∙ ap (λ (rs : List ℕ). Some (Give (ty.ArrayOf found.2.0.0) (Operate NewArray) into rs)) slot.1)
