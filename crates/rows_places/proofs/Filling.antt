-- Elements of arrays that are stored by an initialiser.
use Rattle.std.proofs.Common.{◌≡◌, ℕ, ℤ, Bool, true, false, suc, pos, ◌+◌, ◌<◌, List, [], ◌∷◌, length, Option, Some, None, refl, sym, ap, ◌∙◌, subst, arith, inl, inr}
use Rattle.std.specs.Prelude.{Err, slice_get}
use Rattle.inf_text.specs.Steps.{◌>>=◌}
use Rattle.process_model.specs.Process.{Ends}
use Rattle.system_model.specs.Ending.{Broken}
use Rattle.system_model.specs.Limits.{frames_limit}
use Rattle.limbo_types.specs.Types as ty
use Rattle.limbo_types.specs.Types.{Ty}
use Rattle.limbo_layout.specs.Adts.{Def, Has}
use Rattle.limbo_layout.specs.Layout.{is_alone}
use Rattle.limbo_kept.specs.Operating.{HasRoom}
use Rattle.limbo_values.specs.declared.number.Kind.TheVariants.{Int}
use Rattle.limbo_values.specs.Operators.{text_of}
use Rattle.limbo_typed.specs.Typed as typed
use Rattle.limbo_meaning.specs.Evaluation.{element_at}
use Rattle.limbo_meaning.specs.Exceptions.{Raising, dereference_of_nil}
use Rattle.limbo_meaning.specs.Memory.{Memory}
use Rattle.limbo_meaning.specs.Places.{Element as ElementRoot, root_value, root_put, stored_at, with_part}
use Rattle.limbo_meaning.specs.Process.{Shared}
use Rattle.limbo_meaning.specs.Values as value
use Rattle.limbo_meaning.specs.Values.{Value, Num, Array, part_of, fitted}
use Rattle.core_code.specs.Code.{Instr, Element}
use Rattle.core_code.specs.Machine as code
use Rattle.core_code.specs.Slots.{slot, value_of}
use Rattle.core_typing.specs.Held as held
use Rattle.core_typing.specs.Needs.{IsA}
use Rattle.dis_isa.specs.declared.inst.Operand.TheVariants as operand
use Rattle.dis_isa.specs.declared.inst.Middle.TheVariants as middle
use Rattle.dis_meaning.specs.Words.{Word, Found}
use Rattle.dis_meaning.specs.Process.{Process, Printing}
use Rattle.dis_memory.specs.Blocks.{World}
use Rattle.dis_memory.specs.Places.{source_of}
use Rattle.value_words.specs.Facts.{Facts}
use Rattle.value_frames.specs.Frames.{form_of, element_place}
use Rattle.value_moves.specs.Operands.{Code, inst, behind}
use Rattle.value_moves.proofs.Leading.{spots_lead}
use Rattle.value_code.specs.Data.{fits_source, OfRecord}
use Rattle.value_code.specs.Objects.{of_function, constants, placed, blank_site}
use Rattle.value_code.specs.Operands.{in_slot, by_form}
use Rattle.value_code.specs.Code.{Site, code_of, number_source, element_of}
use Rattle.number_effects.proofs.Reading.{operands_are_read}
use Rattle.value_follows.specs.Stands.{Ready, GoesOn}
use Rattle.value_follows.specs.Sides.{sides, HoldTheSame, program}
use Rattle.value_follows.specs.Rows.{Base}
use Rattle.value_follows.proofs.Standing.{same_some, finds, goes_behind, instance_here, code_here}
use Rattle.value_follows.proofs.Slots.{uses, number_there}
use Rattle.value_follows.proofs.Single.{Once}
use Rattle.value_follows.proofs.Several.{moved_to, Next, row_now}
use Rattle.rows_places.specs.Rows.{IsSimple, ElementGoes}
use Rattle.rows_places.proofs.Fitting.{PlacesFit, places_fit}
use Rattle.rows_places.proofs.Words.{same_form}
use Rattle.rows_places.proofs.Going.{going_on}
use Rattle.rows_places.proofs.Last.{simple_op, simple_moved, site_now, there}
use Rattle.rows_places.proofs.Arrays.{array_here}
use Rattle.rows_places.proofs.Elements.{element_place_here, no_element}
use Rattle.rows_places.proofs.Giving.{slot_gives, source_here}
use Rattle.rows_places.proofs.Storing.{simple_stored}
use Rattle.rows_places.proofs.Addressing.{AtAddress, address_way}

-- ---- an int as a source

same_value : (y z : ℤ) → Num y ≡ Num z → y ≡ z
same_value y z e = cc

module _ (m : typed.Module) (b : Base m) (k : Facts) (i : ℕ) (w : Shared) (x : World) (p : code.Process) (q : Process) (ready : Ready m k i x p q) (hold : HoldTheSame m k i x p q) (worlds : (sides m).worlds k w x) where
  pub int_source : (fits : Bool) (z : ℤ) (to : ℕ) → fits_source z ≡ fits → Has (constants m) (placed m to ty.Int (Num z))
      → source_of Int x q (number_source fits z to) ≡ Found z
  int_source true z to e h =
      operands_are_read.source_given x q Int z
  int_source false z to e h =
      let instance = instance_here m b k i w x p q [] ready.stands.is hold worlds.0 in
      let constant = instance.2 (placed m to ty.Int (Num z)) h in
      let n = number_there m.adts k instance.0 to ty.Int (Num z) Int refl constant.stands in
      operands_are_read.source_number x q (operand.Mp (pos to)) instance.0 to Int (spots_lead.of_module x q 0 instance.0 to instance.1).0 ∙ n.found
      ∙ ap (λ (y : ℤ). Found y) (same_value n.number z (sym n.is))

-- types whose values take one word have a room
pub simple_room : (defs : List Def) (t : Ty) → IsSimple t → HasRoom defs t
simple_room defs ty.Byte s = (_, is_alone ty.Byte _ refl)
simple_room defs ty.Int s = (_, is_alone ty.Int _ refl)
simple_room defs ty.Chars s = (_, is_alone ty.Chars _ refl)
simple_room defs ty.Nil s = (_, is_alone ty.Nil _ refl)
simple_room defs (ty.ArrayOf t) s = (_, is_alone (ty.ArrayOf t) _ refl)
simple_room defs (ty.ListOf t) s = (_, is_alone (ty.ListOf t) _ refl)
simple_room defs (ty.ChanOf t) s = (_, is_alone (ty.ChanOf t) _ refl)
simple_room defs (ty.RefAdt a) s = (_, is_alone (ty.RefAdt a) _ refl)
simple_room defs (ty.RefPick a j) s = (_, is_alone (ty.RefPick a j) _ refl)
simple_room defs (ty.Module a) s = (_, is_alone (ty.Module a) _ refl)
simple_room defs t (inl e) = absurd cc
simple_room defs t (inr e) = absurd cc

-- A slot has an array, not `nil`.
abbrev pub HasArray : code.Process → (array : ℕ) → Type 0
HasArray p a = (part : value.Part) × (part_of (value_of (slot p.frame.slots a)) ≡ Some part)

-- ---- a value of a slot goes to where the linkage has the address of

module _ (m : typed.Module) (b : Base m) (fit : PlacesFit m) (t : Ty) (array from : ℕ) (simple : IsSimple t) (i : ℕ) (p : code.Process) (instr : Instr)
    (here : slice_get p.frame.code p.frame.pc ≡ Some instr) (z : ℤ) (has_array : HasArray p array) (j : ℕ)
    (last_is : (c : Site) → slice_get (code_of c instr) (suc j) ≡ Some (inst (simple_op t) (in_slot c.scene t from) middle.None (behind element_place 0)))
    (long_is : (c : Site) → length (code_of c instr) ≡ suc j + 1)
    (goes_on : (f : typed.Function) (known : held.Slots) → GoesOn m f p.frame.pc known → slice_get (of_function m f).code p.frame.pc ≡ Some instr
    → GoesOn m f (suc p.frame.pc) known) where
  abbrev val : Value
  val = value_of (slot p.frame.slots from)

  abbrev part : value.Part
  part = has_array.0

  abbrev operands : List Value
  operands = Array (Some part) ∷ Num z ∷ []

  -- what the source does: it stores the value there
  abbrev writes_by : Shared → Raising Value → code.Does
  writes_by v r =
      code.unless_raised frames_limit (program m) v p
      (r >>= λ old. stored_at m.adts (code.memory_of v p.frame) (element_at t part z) old val >>= λ new.
      root_put (code.memory_of v p.frame) ElementRoot operands new)
      (λ n. code.goes_with v p n p.frame.slots)

  abbrev pub Fills : Type 0
  Fills = (v : Shared) → (sides m).program.step v p ≡ writes_by v (root_value (code.memory_of v p.frame) ElementRoot operands)

  module _ (does : Fills) where
    pub fill_raises : (v : Shared) (text : List ℕ) → root_value (code.memory_of v p.frame) ElementRoot operands ≡ Err text
        → (sides m).program.step v p ≡ Ends v (Broken text)
    fill_raises v text raised = does v ∙ ap (writes_by v) raised

    module _ (k : Facts) (w : Shared) (x : World) (q : Process) (ready : Ready m k i x p q) (hold : HoldTheSame m k i x p q) (worlds : (sides m).worlds k w x)
        (pc : ℕ) (pr : Option Printing) (so_far : pc ≡ q.frame.pc + j) (below_a : array < length p.frame.slots) (below_f : from < length p.frame.slots)
        (is_array : IsA ready.stands.is.known array (ty.ArrayOf t)) (is_item : IsA ready.stands.is.known from t) where
      pub element_filled : (others : List Word) (last : Facts) (v : Shared) (y : World)
          → AtAddress m b k i w x p q ready hold worlds instr here pc pr j so_far array t z others last v y
          → Once m b i p (moved_to q (suc pc) others) last v y
      element_filled others last v y be =
          let q' = moved_to q q.frame.pc others in
          let s = be.still in
          let h = s.stands.is.function in
          let so_far' : suc pc ≡ q'.frame.pc + suc j = omega (arith, so_far) in
          let is_array' = subst (λ kn. IsA kn array (ty.ArrayOf t)) (sym be.known_so) is_array in
          let is_item' = subst (λ kn. IsA kn from t) (sym be.known_so) is_item in
          let u = is_item'.0 in
          let form = same_form u t is_item'.2 in
          let a = array_here m last i v y p q' s be.holds be.alike (suc pc) None array t below_a is_array' in
          let some = sym (ap part_of a.holds ∙ a.array.is) ∙ be.array in
          let same : part ≡ be.whole = same_some part be.whole (sym has_array.1 ∙ be.array) in
          let place = element_place_here m last i v y p q' s be.holds be.alike (suc pc) None fit array t a be.whole some z be.h be.index be.address
          (Array (Some part)) (Num z) [] (ap (λ (o : value.Part). Some o) same) refl [] t tt refl in
          let real = site_now m b last i v y p q' s be.holds be.alike instr here (suc pc) None (suc j) so_far' in
          let blank = blank_site m h.of.answer (of_function m h) p.frame.pc in
          let room = simple_room m.adts u (simple_as u form simple) in
          let source = source_here m last i v y p q' s be.holds be.alike (suc pc) None from below_f u is_item'.1 room [] u t refl is_item'.2 simple in
          simple_stored m b last i v y p q' s be.holds be.alike instr here (suc pc) None (suc j) so_far' (long_is blank)
          ElementRoot operands (behind element_place 0) t [] place (fitted m.adts t val)
          (goes_on h s.stands.is.known s.stands.goes (code_here m last i y p q' s instr here))
          (does v ∙ ap (writes_by v) place.rooted
          ∙ ap (λ (r : Raising Memory). code.unless_raised frames_limit (program m) v p r (λ n. code.goes_with v p n p.frame.slots))
          (place.rooting (with_part [] (fitted m.adts t val) place.value)))
          source simple
          (slot_gives m last i v y p q' s be.holds be.alike (suc pc) None from below_f u is_item'.1 room [] u t refl is_item'.2 simple)
          (last_is real ∙ ap (λ f. Some (inst (simple_op t) (by_form real.scene f from) middle.None (behind element_place 0))) (sym form))
        where
          simple_as : (u : Ty) → form_of u ≡ form_of t → IsSimple t → IsSimple u
          simple_as u e (inl f) = inl (e ∙ f)
          simple_as u e (inr f) = inr (e ∙ f)

-- ---- an element by its number

module _ (m : typed.Module) (b : Base m) (fit : PlacesFit m) (t : Ty) (array : ℕ) (index : ℤ) (from : ℕ) (simple : IsSimple t)
    (i : ℕ) (p : code.Process) (here : slice_get p.frame.code p.frame.pc ≡ Some (Element t array index from)) where
  abbrev instr : Instr
  instr = Element t array index from

  last_is : (c : Site) → slice_get (code_of c instr) 1 ≡ Some (inst (simple_op t) (in_slot c.scene t from) middle.None (behind element_place 0))
  last_is c =
      ap (λ (l : Code). slice_get (element_of c array (number_source (fits_source index) index c.at) ∷ l) 1)
      (simple_moved c.scene.adts t (c.type_number (OfRecord t)) (in_slot c.scene t from) (behind element_place 0) simple)

  long_is : (c : Site) → length (code_of c instr) ≡ 1 + 1
  long_is c =
      ap (λ (l : Code). suc (length l))
      (simple_moved c.scene.adts t (c.type_number (OfRecord t)) (in_slot c.scene t from) (behind element_place 0) simple)

  goes_behind_it : (f : typed.Function) (known : held.Slots) → GoesOn m f p.frame.pc known → slice_get (of_function m f).code p.frame.pc ≡ Some instr
      → GoesOn m f (suc p.frame.pc) known
  goes_behind_it f known goes there = goes_behind m f p.frame.pc known instr goes there 0 (suc p.frame.pc) known (omega arith) refl

  does : (has_array : HasArray p array) → Fills m b fit t array from simple i p instr here index has_array 0 last_is long_is goes_behind_it
  does has_array v =
      ap (code.next frames_limit (program m) v p) here
      ∙ ap (λ (o : Option value.Part). code.part_or_none frames_limit (program m) v p o
      (λ part. code.stores frames_limit (program m) v p (element_at t part index) (value_of (slot p.frame.slots from)))) has_array.1

  does_none : part_of (value_of (slot p.frame.slots array)) ≡ None → (v : Shared) → (sides m).program.step v p ≡ Ends v (Broken dereference_of_nil)
  does_none none v =
      ap (code.next frames_limit (program m) v p) here
      ∙ ap (λ (o : Option value.Part). code.part_or_none frames_limit (program m) v p o
      (λ part. code.stores frames_limit (program m) v p (element_at t part index) (value_of (slot p.frame.slots from)))) none

  element_stored : (k : Facts) (w : Shared) (x : World) (q : Process) (ready : Ready m k i x p q) (hold : HoldTheSame m k i x p q) (worlds : (sides m).worlds k w x)
      → Next m b i p 1 k w x q
  element_stored k w x q ready hold worlds =
      let f = ready.stands.is.function in
      let row_is = code_here m k i x p q ready instr here in
      let found = finds m f p.frame.pc ready.stands.is.known instr ready.stands.goes row_is in
      let used = uses m k i x [] p.frame q.frame ready.stands.is p.frame.pc instr row_is in
      let so_far : q.frame.pc ≡ q.frame.pc + 0 = omega arith in
      let blank = blank_site m f.of.answer (of_function m f) p.frame.pc in
      let real = site_now m b k i w x p q ready hold worlds instr here q.frame.pc q.printing 0 so_far in
      let row_at = row_now m b k i w x p q ready hold worlds instr here in
      let store = code.memory_of w p.frame in
      address_way m b k i w x p q ready hold worlds instr here q.frame.pc q.printing 0 so_far array t index used.0 found.1
      (number_source (fits_source index) index real.at)
      (int_source m b k i w x p q ready hold worlds (fits_source index) index real.at refl (row_at.stand (placed m real.at ty.Int (Num index)) (inl refl)))
      refl refl (subst (λ n. 1 < n) (sym (long_is blank)) (omega arith)) 0
      (λ none. does_none none w)
      (λ part raised some out.
      fill_raises m b fit t array from simple i p instr here index (part, some) 0 last_is long_is goes_behind_it (does (part, some)) w (text_of raised)
      (no_element m k i w x p q ready hold worlds q.frame.pc q.printing (Array (Some part)) (Num index) [] part refl index refl raised out))
      (λ others last v y be.
      element_filled m b fit t array from simple i p instr here index (be.whole, be.array) 0 last_is long_is goes_behind_it (does (be.whole, be.array)) k w x q ready hold worlds
      q.frame.pc q.printing so_far used.0 used.1 found.1 found.2 others last v y be)

pub element_goes : ElementGoes
element_goes m b t array index from simple k i x p q ready here = (
  1,
  going_on m b i p q q (λ n. refl) 1 k x ready.0 ready.1 (λ now w y s grows same hold worlds.
      element_stored m b (places_fit m) t array index from simple i p here now w y q s hold worlds),
)
