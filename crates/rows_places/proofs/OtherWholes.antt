-- Whole elements of arrays that are stored by the turns of a loop.
use Rattle.std.proofs.Common.{◌≡◌, ℕ, ℤ, Bool, suc, pos, ◌+◌, ◌<◌, ◌≤◌, List, [], ◌∷◌, length, Option, Some, None, refl, sym, ap, ◌∙◌, subst, arith, inl}
use Rattle.std.specs.Prelude.{Ok, slice_get}
use Rattle.process_model.specs.Process.{Went, Ends}
use Rattle.system_model.specs.Ending.{Broken}
use Rattle.system_model.specs.Limits.{frames_limit}
use Rattle.limbo_types.specs.Types.{Ty}
use Rattle.limbo_values.specs.declared.number.Kind.TheVariants.{Int}
use Rattle.limbo_values.specs.declared.operator.Operator.TheVariants.{Subtract}
use Rattle.limbo_values.specs.Numbers.{InRange, wrapped}
use Rattle.limbo_values.specs.Operators.{applied, text_of}
use Rattle.limbo_values.proofs.Ranges.{within}
use Rattle.limbo_typed.specs.Typed as typed
use Rattle.limbo_meaning.specs.Evaluation.{element_at}
use Rattle.limbo_meaning.specs.Exceptions.{dereference_of_nil}
use Rattle.limbo_meaning.specs.Process.{Shared}
use Rattle.limbo_meaning.specs.Values as value
use Rattle.limbo_meaning.specs.Values.{Num, Array, part_of}
use Rattle.core_code.specs.Code.{Instr, Other}
use Rattle.core_code.specs.Machine as code
use Rattle.core_code.specs.Slots as core
use Rattle.core_code.specs.Slots.{Regions, slot, value_of}
use Rattle.core_typing.specs.Held as held
use Rattle.dis_isa.specs.declared.inst.Inst.{Inst}
use Rattle.dis_isa.specs.declared.inst.Operand.TheVariants as operand
use Rattle.dis_isa.specs.declared.op.Op.TheVariants as op
use Rattle.dis_meaning.specs.Words.{Word, Plain, Access, Found, ◌>>=◌, word_at, number_in}
use Rattle.dis_meaning.specs.Process.{Process}
use Rattle.dis_memory.specs.Blocks.{World}
use Rattle.value_words.specs.Facts.{Facts}
use Rattle.value_words.proofs.Bytes.{word_found}
use Rattle.value_frames.specs.Frames.{element_place, passing_place, number_place}
use Rattle.value_moves.specs.Operands.{Code, inst, own, of_own, behind, moved}
use Rattle.value_moves.proofs.Changing.{words_change}
use Rattle.value_moves.proofs.Leading.{spots_lead}
use Rattle.value_code.specs.Data.{OfRecord}
use Rattle.value_code.specs.Objects.{object_of, of_function, blank_site}
use Rattle.value_code.specs.Operands.{in_slot}
use Rattle.value_code.specs.Code.{Site, code_of, element_of}
use Rattle.number_effects.specs.Giving.{with_word}
use Rattle.number_effects.proofs.Numbers.{numbers_work}
use Rattle.number_effects.proofs.Reading.{operands_are_read}
use Rattle.number_effects.proofs.Stepping.{steps_obey}
use Rattle.value_follows.specs.Stands.{Ready, GoesOn, types_of}
use Rattle.value_follows.specs.Sides.{sides, HoldTheSame, program}
use Rattle.value_follows.specs.Rows.{Base}
use Rattle.value_follows.proofs.Standing.{finds, goes_behind, code_here}
use Rattle.value_follows.proofs.Slots.{uses}
use Rattle.value_follows.proofs.Several.{moved_to, moved_names, hold_as, Next, goes_silently}
use Rattle.rows_places.specs.Rows.{OtherWholeGoes}
use Rattle.limbo_layout.specs.Layout.{limit}
use Rattle.value_frames.specs.Frames.{Boxed, form_of, room_for}
use Rattle.rows_boxes.proofs.Typed.{is_sized}
use Rattle.rows_places.proofs.Sizing.{many_of, last_moves, front_long}
use Rattle.rows_places.proofs.Fitting.{PlacesFit, places_fit}
use Rattle.rows_places.proofs.Going.{going_on}
use Rattle.rows_places.proofs.Last.{site_now, reaches_here}
use Rattle.rows_places.proofs.Arrays.{LinkageWord, linkage_word}
use Rattle.rows_places.proofs.Linking.{Linked, linked, fits_plain}
use Rattle.rows_places.proofs.Elements.{no_element}
use Rattle.rows_places.proofs.Indexing.{onward}
use Rattle.rows_places.proofs.Addressing.{address_way}
use Rattle.rows_places.proofs.Others.{has_number, found_same, plain_same, less_one, one_less, HasTurn, turn_there}
use Rattle.rows_places.proofs.Filling.{HasArray}
use Rattle.rows_places.proofs.FillingWholes.{Fills, fill_raises, filled_way}

module _ (m : typed.Module) (b : Base m) (fit : PlacesFit m) (t : Ty) (array loop from : ℕ) (form : form_of t ≡ Boxed) (sizes : Bool)
    (is_so : is_sized m.adts t ≡ sizes) (small : (room_for m.adts t).size ≤ limit) (i : ℕ) (p : code.Process) (here : slice_get p.frame.code p.frame.pc ≡ Some (Other t array loop from)) (turn : HasTurn p loop) where
  abbrev instr : Instr
  instr = Other t array loop from

  abbrev n : ℕ
  n = turn.0

  abbrev z : ℤ
  z = core.index_of (core.Turns n turn.1)

  abbrev front : (c : Site) → Code
  front c =
      inst op.Subw (operand.Imm (pos 1)) (of_own (number_place c.scene.adts c.scene.variables loop)) (own passing_place)
      ∷ element_of c array (own passing_place) ∷ []

  code_is : (c : Site) (n : ℕ) (move : Inst)
      → slice_get (moved c.scene.adts t (c.type_number (OfRecord t)) (in_slot c.scene t from) (behind element_place 0)) n ≡ Some move
      → slice_get (code_of c instr) (suc (1 + n)) ≡ Some move
  code_is c n move e = ap (λ l. slice_get (code_of c instr) l) (let z : suc (1 + n) ≡ suc (suc n) = omega arith in z) ∙ e

  long_is : (c : Site) → c.scene.adts ≡ m.adts → length (code_of c instr) ≡ suc 1 + suc (many_of sizes)
  long_is c e =
      let last = last_moves m.adts t (c.type_number (OfRecord t)) (in_slot c.scene t from) (behind element_place 0) sizes form is_so in
      ap (λ (l : Code). suc (suc (length l)))
      (ap (λ d. moved d t (c.type_number (OfRecord t)) (in_slot c.scene t from) (behind element_place 0)) e ∙ last.1)
      ∙ ap (λ n. suc (suc n)) (front_long sizes (room_for m.adts t).size last.0)
      ∙ (let z : suc (suc (suc (many_of sizes))) ≡ suc 1 + suc (many_of sizes) = omega arith in z)

  goes_behind_it : (f : typed.Function) (known : held.Slots) → GoesOn m f p.frame.pc known → slice_get (of_function m f).code p.frame.pc ≡ Some instr
      → GoesOn m f (suc p.frame.pc) known
  goes_behind_it f known goes there = goes_behind m f p.frame.pc known instr goes there 0 (suc p.frame.pc) known (omega arith) refl

  does : (has_array : HasArray p array) → Fills m b fit t array from form sizes is_so small i p instr here z has_array 1 code_is (λ m f pc. inl refl) long_is goes_behind_it
  does has_array v =
      ap (code.next frames_limit (program m) v p) here
      ∙ ap (λ (o : Option value.Part). code.part_or_none frames_limit (program m) v p o
      (λ part. code.stores frames_limit (program m) v p (element_at t part (core.index_of (slot p.frame.slots loop))) (value_of (slot p.frame.slots from)))) has_array.1
      ∙ ap (λ (l : core.Slot). code.stores frames_limit (program m) v p (element_at t has_array.0 (core.index_of l)) (value_of (slot p.frame.slots from))) turn.2

  does_none : part_of (value_of (slot p.frame.slots array)) ≡ None → (v : Shared) → (sides m).program.step v p ≡ Ends v (Broken dereference_of_nil)
  does_none none v =
      ap (code.next frames_limit (program m) v p) here
      ∙ ap (λ (o : Option value.Part). code.part_or_none frames_limit (program m) v p o
      (λ part. code.stores frames_limit (program m) v p (element_at t part (core.index_of (slot p.frame.slots loop))) (value_of (slot p.frame.slots from)))) none

  module _ (k : Facts) (w : Shared) (x : World) (q : Process) (ready : Ready m k i x p q) (hold : HoldTheSame m k i x p q) (worlds : (sides m).worlds k w x) where
    abbrev f : typed.Function
    f = ready.stands.is.function

    abbrev known : held.Slots
    known = ready.stands.is.known

    abbrev n_at : ℕ
    n_at = number_place m.adts (types_of m f) loop

    so_far : q.frame.pc ≡ q.frame.pc + 0
    so_far = omega arith

    module _ (next : word_at q.frame.words (pos n_at) ≡ Found (Plain (pos n))) where
      range : InRange Int (pos n)
      range = ready.stands.is.words.kind.ranged _ (pos n) (word_found q.frame.words n_at (Plain (pos n)) next).1

      word_there : LinkageWord m k i x p q ready passing_place
      word_there = linkage_word m k i x p q ready passing_place refl (omega arith)

      abbrev others : List Word
      others = with_word q.frame.words passing_place (Plain z)

      link : Linked m k i x p q ready passing_place refl (omega arith) (omega arith) word_there (Plain z) (λ r e. absurd cc)
          (λ y e. subst (InRange Int) (plain_same z y e) (one_less n turn.1 range))
      link =
          linked m k i x p q ready passing_place refl (omega arith) (omega arith) word_there (Plain z) (λ r e. absurd cc)
          (λ y e. subst (InRange Int) (plain_same z y e) (one_less n turn.1 range))

      subtracted : applied Int Subtract (pos n) (pos 1) ≡ Ok z
      subtracted =
          ap (λ (z : ℤ). Ok (wrapped Int z)) (less_one n turn.1) ∙ ap (λ (z : ℤ). Ok z) (within Int z (one_less n turn.1 range))

      steps : (sides m).code.step x q ≡ Went x (moved_to q (suc q.frame.pc) others)
      steps =
          let real = site_now m b k i w x p q ready hold worlds instr here q.frame.pc q.printing 0 so_far in
          let subtract = inst op.Subw (operand.Imm (pos 1)) (of_own n_at) (own passing_place) in
          let lead = spots_lead.own x q passing_place in
          let old = has_number word_there.old word_there.no_refer in
          let number = numbers_work.calculates frames_limit (object_of m) x q subtract Int Subtract (pos 1) (pos n) q.frame.words passing_place lead.0
          old.0 z refl (operands_are_read.source_given x q Int (pos 1))
          (operands_are_read.own_middle x q Int (pos n_at) (own passing_place) ∙ operands_are_read.own_number x q Int n_at
          ∙ ap (λ (a : Access Word). a >>= number_in) next)
          (ap (λ (a : Access Word). a >>= number_in) word_there.found ∙ old.1) subtracted in
          let stored_so = words_change.word q.frame.words passing_place word_there.old (Plain z) word_there.found
          (fits_plain word_there.old (Plain z) word_there.no_refer (λ r e. absurd cc)) in
          let same : number.0.others ≡ others = found_same number.0.others others (sym number.0.found ∙ stored_so.0) in
          steps_obey.stores frames_limit (object_of m ∷ []) x q (object_of m) subtract x lead.0.place number.0.others _
          (reaches_here m b k i w x p q ready hold worlds instr here q.frame.pc q.printing 0 so_far subtract refl) number.1 (lead.1 number.0.others)
          ∙ ap (λ ws. Went x (moved_to q (suc q.frame.pc) ws)) same

      other_stored : array < length p.frame.slots → from < length p.frame.slots → Next m b i p (suc (suc (many_of sizes))) k w x q
      other_stored below_a below_f =
          let size = long_is (blank_site m f.of.answer (of_function m f) p.frame.pc) refl in
          let first = moved_to q q.frame.pc others in
          goes_silently m b i p (suc (suc (many_of sizes))) k w x q (moved_to q (suc q.frame.pc) others) steps worlds
          (onward m b k i w x p q ready hold worlds instr here q.frame.pc q.printing 0 so_far refl (subst (λ l. 1 < l) (sym size) (omega arith)) others)
          (going_on m b i p first (moved_to q (suc q.frame.pc) others) (λ l. refl) (suc (many_of sizes)) k x link.still
          (hold_as m b i p k x q (moved_to q (suc q.frame.pc) others) (λ l. sym (moved_names q (suc q.frame.pc) others link.names l)) hold)
          (λ last v y s grows same holds alike.
          let h = s.stands.is.function in
          let so_far' : suc q.frame.pc ≡ first.frame.pc + 1 = omega arith in
          let found = finds m h p.frame.pc s.stands.is.known instr s.stands.goes (code_here m last i y p first s instr here) in
          let size' = long_is (blank_site m h.of.answer (of_function m h) p.frame.pc) refl in
          address_way m b last i v y p first s holds alike instr here (suc q.frame.pc) None 1 so_far' array t z below_a found.1 (own passing_place)
          (operands_are_read.source_number y (moved_to q (suc q.frame.pc) others) (own passing_place) others passing_place Int
          (spots_lead.own y (moved_to q (suc q.frame.pc) others) passing_place).0 ∙ ap (λ (a : Access Word). a >>= number_in) link.word)
          refl refl (subst (λ l. 2 < l) (sym size') (omega arith)) (many_of sizes)
          (λ none. does_none none v)
          (λ part raised some out.
          fill_raises m b fit t array from form sizes is_so small i p instr here z (part, some) 1 code_is (λ m f pc. inl refl) long_is goes_behind_it (does (part, some)) v (text_of raised)
          (no_element m last i v y p first s holds alike (suc q.frame.pc) None (Array (Some part)) (Num z) [] part refl z refl raised out))
          (λ others' last' v' y' be.
          filled_way m b fit t array from form sizes is_so small i p instr here z (be.whole, be.array) 1 code_is (λ m f pc. inl refl) long_is goes_behind_it (does (be.whole, be.array)) last v y first s holds alike
          (suc q.frame.pc) None so_far' below_a below_f found.1 found.3 found.0 others' last' v' y' be refl)))

pub other_whole_goes : OtherWholeGoes
other_whole_goes m b t array loop from whole k i x p q ready here = (
  suc (suc (many_of (is_sized m.adts t))),
  going_on m b i p q q (λ n. refl) (suc (suc (many_of (is_sized m.adts t)))) k x ready.0 ready.1 (λ now w y s grows same hold worlds.
      let f = s.stands.is.function in
      let instr = Other t array loop from in
      let row_is = code_here m now i y p q s instr here in
      let found = finds m f p.frame.pc s.stands.is.known instr s.stands.goes row_is in
      let used = uses m now i y [] p.frame q.frame s.stands.is p.frame.pc instr row_is in
      let turn = turn_there m now i y p q s loop used.1 found.2 in
      other_stored m b (places_fit m) t array loop from whole.0 (is_sized m.adts t) refl whole.1 i p here turn.0 now w y q s hold worlds turn.1 used.0 used.2),
)
