-- Whole elements of arrays that are stored by an initialiser.
use Rattle.rows_places.proofs.Places.{grows_same}
use Rattle.std.proofs.Common.{◌≡◌, ℕ, ℤ, Bool, true, false, suc, pos, ◌+◌, ◌/◌, ◌<◌, ◌≤◌, List, [], ◌∷◌, length, Option, Some, None, refl, sym, ap, ◌∙◌, subst, arith, inl, inr}
use Rattle.std.specs.Prelude.{Err, slice_get}
use Rattle.inf_text.specs.Steps.{◌>>=◌}
use Rattle.process_model.specs.Process.{Ends}
use Rattle.system_model.specs.Ending.{Broken}
use Rattle.system_model.specs.Limits.{frames_limit}
use Rattle.limbo_types.specs.Types as ty
use Rattle.limbo_types.specs.Types.{Ty}
use Rattle.limbo_layout.specs.Adts.{Has}
use Rattle.limbo_kept.specs.Operating.{HasRoom}
use Rattle.limbo_values.specs.Operators.{text_of}
use Rattle.limbo_typed.specs.Typed as typed
use Rattle.limbo_meaning.specs.Evaluation.{element_at}
use Rattle.limbo_meaning.specs.Exceptions.{Raising, dereference_of_nil}
use Rattle.limbo_meaning.specs.Memory.{Memory}
use Rattle.limbo_meaning.specs.Places.{Element as ElementRoot, root_value, root_put, stored_at, with_part}
use Rattle.limbo_meaning.specs.Process.{Shared}
use Rattle.limbo_meaning.specs.Values as value
use Rattle.limbo_meaning.specs.Values.{Value, Num, Array, part_of, fitted}
use Rattle.core_code.specs.Code.{Instr, Element}
use Rattle.core_code.specs.Machine as code
use Rattle.core_code.specs.Slots.{slot, value_of}
use Rattle.core_typing.specs.Held as held
use Rattle.core_typing.specs.Needs.{IsA}
use Rattle.dis_isa.specs.declared.inst.Inst.{Inst}
use Rattle.dis_meaning.specs.Words.{Word}
use Rattle.dis_meaning.specs.Process.{Process, Printing}
use Rattle.dis_memory.specs.Blocks.{World}
use Rattle.value_words.specs.Facts.{Facts}
use Rattle.value_frames.specs.Frames.{element_place}
use Rattle.value_moves.specs.Operands.{Code, behind, moved}
use Rattle.value_code.specs.Data.{fits_source, OfRecord}
use Rattle.value_code.specs.Objects.{object_of, of_function, placed, blank_site}
use Rattle.value_code.specs.Operands.{in_slot, by_form}
use Rattle.value_code.specs.Code.{Site, code_of, number_source}
use Rattle.value_follows.specs.Stands.{Ready, GoesOn}
use Rattle.value_follows.specs.Sides.{sides, HoldTheSame, program}
use Rattle.value_follows.specs.Rows.{Base}
use Rattle.value_follows.proofs.Standing.{same_some, finds, goes_behind, code_here}
use Rattle.value_follows.proofs.Slots.{uses}
use Rattle.value_follows.proofs.Single.{Once}
use Rattle.value_follows.proofs.Several.{moved_to, Next, row_now}
use Rattle.rows_places.proofs.Words.{same_form}
use Rattle.rows_places.proofs.Going.{going_on, at_place_of}
use Rattle.rows_places.proofs.Arrays.{array_here}
use Rattle.rows_places.proofs.Elements.{element_place_here, no_element}
use Rattle.rows_places.proofs.Addressing.{AtAddress, address_way}
use Rattle.rows_places.specs.Rows.{ElementWholeGoes}
use Rattle.limbo_layout.specs.Layout.{limit}
use Rattle.value_frames.specs.Frames.{Boxed, form_of}
use Rattle.dis_meaning.specs.Words.{Plain}
use Rattle.number_effects.specs.Giving.{with_word}
use Rattle.value_follows.specs.Rows.{is_tidied}
use Rattle.value_follows.proofs.Putting.{word_same}
use Rattle.rows_boxes.proofs.Typed.{is_sized, sizing}
use Rattle.rows_places.proofs.Sizing.{many_of, IsOnWay, last_moves, last_there, front_long, sized_way, link}
use Rattle.rows_places.proofs.Elements.{address_later}
use Rattle.rows_places.proofs.Fitting.{PlacesFit, places_fit}
use Rattle.rows_places.proofs.Last.{site_now}
use Rattle.rows_places.proofs.Places.{place_lives}
use Rattle.rows_places.proofs.Changing.{both_change}
use Rattle.rows_places.proofs.Wholes.{LiesThere, slot_lies, whole_type, written_from}
use Rattle.rows_places.proofs.Filling.{int_source, HasArray}
use Rattle.value_moves.proofs.Moving.{values_move}
use Rattle.value_code.proofs.Having.{objects_have}
use Rattle.value_code.specs.Laws.{names_at}
use Rattle.value_frames.specs.Frames.{room_for, passing_place}
use Rattle.value_code.specs.Objects.{type_number}

-- ---- a value of a slot goes to where the linkage has the address of

module _ (m : typed.Module) (b : Base m) (fit : PlacesFit m) (t : Ty) (array from : ℕ) (form : form_of t ≡ Boxed) (sizes : Bool)
    (is_so : is_sized m.adts t ≡ sizes) (small : (room_for m.adts t).size ≤ limit) (i : ℕ) (p : code.Process) (instr : Instr)
    (here : slice_get p.frame.code p.frame.pc ≡ Some instr) (z : ℤ) (has_array : HasArray p array) (j : ℕ)
    (code_is : (c : Site) (n : ℕ) (move : Inst)
    → slice_get (moved c.scene.adts t (c.type_number (OfRecord t)) (in_slot c.scene t from) (behind element_place 0)) n ≡ Some move
    → slice_get (code_of c instr) (suc (j + n)) ≡ Some move)
    (names : (m : typed.Module) (f : typed.Function) (pc : ℕ) → Has (names_at m f pc instr) (OfRecord t))
    (long_is : (c : Site) → c.scene.adts ≡ m.adts → length (code_of c instr) ≡ suc j + suc (many_of sizes))
    (goes_on : (f : typed.Function) (known : held.Slots) → GoesOn m f p.frame.pc known → slice_get (of_function m f).code p.frame.pc ≡ Some instr
    → GoesOn m f (suc p.frame.pc) known) where
  abbrev val : Value
  val = value_of (slot p.frame.slots from)

  abbrev part : value.Part
  part = has_array.0

  abbrev operands : List Value
  operands = Array (Some part) ∷ Num z ∷ []

  -- what the source does: it stores the value there
  abbrev writes_by : Shared → Raising Value → code.Does
  writes_by v r =
      code.unless_raised frames_limit (program m) v p
      (r >>= λ old. stored_at m.adts (code.memory_of v p.frame) (element_at t part z) old val >>= λ new.
      root_put (code.memory_of v p.frame) ElementRoot operands new)
      (λ n. code.goes_with v p n p.frame.slots)

  abbrev pub Fills : Type 0
  Fills = (v : Shared) → (sides m).program.step v p ≡ writes_by v (root_value (code.memory_of v p.frame) ElementRoot operands)

  module _ (does : Fills) where
    pub fill_raises : (v : Shared) (text : List ℕ) → root_value (code.memory_of v p.frame) ElementRoot operands ≡ Err text
        → (sides m).program.step v p ≡ Ends v (Broken text)
    fill_raises v text raised = does v ∙ ap (writes_by v) raised

    module _ (k : Facts) (w : Shared) (x : World) (q : Process) (ready : Ready m k i x p q) (hold : HoldTheSame m k i x p q) (worlds : (sides m).worlds k w x)
        (pc : ℕ) (pr : Option Printing) (so_far : pc ≡ q.frame.pc + j) (below_a : array < length p.frame.slots) (below_f : from < length p.frame.slots)
        (is_array : IsA ready.stands.is.known array (ty.ArrayOf t)) (is_item : IsA ready.stands.is.known from t) (room : HasRoom m.adts t) where
      pub element_filled : (others : List Word) (last : Facts) (v : Shared) (y : World)
          → AtAddress m b k i w x p q ready hold worlds instr here pc pr j so_far array t z others last v y
          → (at : ℕ) → at ≡ q.frame.pc + suc (j + many_of sizes) → IsOnWay sizes (room_for m.adts t).size (moved_to q at others)
          → Once m b i p (moved_to q at others) last v y
      element_filled others last v y be at so_far' so =
          let q' = moved_to q q.frame.pc others in
          let s = be.still in
          let h = s.stands.is.function in
          let is_array' = subst (λ kn. IsA kn array (ty.ArrayOf t)) (sym be.known_so) is_array in
          let is_item' = subst (λ kn. IsA kn from t) (sym be.known_so) is_item in
          let u = is_item'.0 in
          let forms = same_form u t is_item'.2 in
          let a = array_here m last i v y p q' s be.holds be.alike at None array t below_a is_array' in
          let some = sym (ap part_of a.holds ∙ a.array.is) ∙ be.array in
          let same : part ≡ be.whole = same_some part be.whole (sym has_array.1 ∙ be.array) in
          let place = element_place_here m last i v y p q' s be.holds be.alike at None fit array t a be.whole some z be.h be.index be.address
          (Array (Some part)) (Num z) [] (ap (λ (o : value.Part). Some o) same) refl [] t tt refl in
          let real = site_now m b last i v y p q' s be.holds be.alike instr here at None (suc (j + many_of sizes)) so_far' in
          let blank = blank_site m h.of.answer (of_function m h) p.frame.pc in
          let r = room_for m.adts t in
          let same_type = whole_type u t form is_item'.2 in
          let room_u = subst (HasRoom m.adts) (sym same_type) room in
          let n = type_number m (OfRecord t) in
          let source = in_slot real.scene t from in
          let lies = subst (λ o. LiesThere m last i v y p q' s be.holds be.alike at None o t (fitted m.adts t val))
          (ap (λ c. by_form real.scene c from) forms)
          (slot_lies m last i v y p q' s be.holds be.alike at None from below_f u is_item'.1 room_u [] u t refl is_item'.2 form) in
          let move = last_moves m.adts t n source (behind element_place 0) sizes form is_so in
          let at_now = at_place_of q' at None in
          let type = objects_have.types m s.stands.is.number h p.frame.pc instr (OfRecord t) s.stands.is.there (code_here m last i y p q' s instr here)
          (names m h p.frame.pc) in
          let mv = move.2 last frames_limit (object_of m) y at_now (fitted m.adts t val) lies.words place.words lies.byte place.byte lies.leads place.leads.0 lies.lies
          (values_move.room m.adts last place.words place.byte t r place.value place.lies) type so in
          let stands = values_move.stands m.adts last lies.words place.words mv.0 lies.byte place.byte t r (fitted m.adts t val) lies.lies
          (values_move.room m.adts last place.words place.byte t r place.value place.lies) mv.1 in
          let new = with_part [] (fitted m.adts t val) place.value in
          both_change m b last i v y p q' s be.holds be.alike instr here at None (suc (j + many_of sizes)) so_far'
          (long_is blank refl ∙ (let e : suc j + suc (many_of sizes) ≡ suc (j + many_of sizes) + 1 = omega arith in e))
          ElementRoot operands (behind element_place 0) t [] place (place.becomes new) mv.0
          (place.anew last grows_same mv.0 lies.words lies.byte (fitted m.adts t val) mv.1 stands.0)
          (λ u wd e. elim (written_from place.words mv.0 lies.words place.byte lies.byte r.size mv.1 u wd e) [
            | inl was ↦ place_lives m last i v y p q' s be.holds be.alike at None ElementRoot operands (behind element_place 0) t [] place u wd was
            | inr now ↦ lies.lives u now.0 now.1
          ])
          move.0 (code_is real (many_of sizes) move.0 (ap (λ (l : Code). slice_get l (many_of sizes)) move.1 ∙ last_there sizes r.size move.0)) mv.2
          (does v ∙ ap (writes_by v) place.rooted
          ∙ ap (λ (r : Raising Memory). code.unless_raised frames_limit (program m) v p r (λ n. code.goes_with v p n p.frame.slots))
          (place.rooting new))
          (goes_on h s.stands.is.known s.stands.goes (code_here m last i y p q' s instr here))

      -- it goes, with the size in front where that comes first
      pub filled_way : (others : List Word) (last : Facts) (v : Shared) (y : World)
          → AtAddress m b k i w x p q ready hold worlds instr here pc pr j so_far array t z others last v y → is_tidied instr ≡ false
          → Next m b i p (many_of sizes) last v y (moved_to q (suc pc) others)
      filled_way others last v y be plain = go sizes refl
        where
          go : (d : Bool) → sizes ≡ d → Next m b i p (many_of d) last v y (moved_to q (suc pc) others)
          go false e =
              element_filled others last v y be (suc pc)
              (let one : suc pc ≡ q.frame.pc + suc (j + 0) = omega (arith, so_far) in one ∙ ap (λ d. q.frame.pc + suc (j + many_of d)) (sym e))
              (subst (λ d. IsOnWay d (room_for m.adts t).size (moved_to q (suc pc) others)) (sym e) tt)
          go true e =
              let q' = moved_to q q.frame.pc others in
              let s = be.still in
              let h = s.stands.is.function in
              let bytes = (room_for m.adts t).size in
              let so_far' : suc pc ≡ q'.frame.pc + suc j = omega (arith, so_far) in
              let real = site_now m b last i v y p q' s be.holds be.alike instr here (suc pc) None (suc j) so_far' in
              let blank = blank_site m h.of.answer (of_function m h) p.frame.pc in
              let move = last_moves m.adts t (type_number m (OfRecord t)) (in_slot real.scene t from) (behind element_place 0) true form (is_so ∙ e) in
              let sized_words = with_word others passing_place (Plain (pos bytes)) in
              let linked = link m b last i v y p q' s be.holds be.alike instr here (suc pc) None (suc j) so_far' bytes small in
              let many = ap many_of e in
              let long = long_is blank refl in
              sized_way m b last i v y p q' s be.holds be.alike instr here (suc pc) None (suc j) so_far' bytes small
              (ap (λ n. slice_get (code_of real instr) n) (let z : suc j ≡ suc (j + 0) = omega arith in z)
              ∙ code_is real 0 (sizing bytes) (ap (λ (l : Code). slice_get l 0) move.1))
              plain (subst (λ n. suc (suc j) < n) (sym long) (omega (arith, many))) 0
              (λ now w' u is.
              element_filled sized_words now w' u (record {
                still = is.still;
                function = is.function ∙ be.function;
                known_so = is.known ∙ be.known_so;
                holds = is.holds;
                alike = is.alike;
                whole = be.whole;
                array = be.array;
                h = be.h;
                index = be.index;
                address = address_later m last now sized_words be.whole t be.h is.grows (record {
                  block = be.address.block;
                  byte = be.address.byte;
                  named = be.address.named;
                  word = word_same others sized_words element_place (linked.changes.words (element_place / 4) (inr (omega arith))) ∙ be.address.word;
                  is = be.address.is;
                });
              }) (suc (suc pc))
              (let two : suc (suc pc) ≡ q.frame.pc + suc (j + 1) = omega (arith, so_far) in two ∙ ap (λ d. q.frame.pc + suc (j + many_of d)) (sym e))
              (subst (λ d. IsOnWay d (room_for m.adts t).size (moved_to q (suc (suc pc)) sized_words)) (sym e) is.passing))

-- ---- an element by its number

module _ (m : typed.Module) (b : Base m) (fit : PlacesFit m) (t : Ty) (array : ℕ) (index : ℤ) (from : ℕ) (form : form_of t ≡ Boxed) (sizes : Bool)
    (is_so : is_sized m.adts t ≡ sizes) (small : (room_for m.adts t).size ≤ limit) (i : ℕ) (p : code.Process) (here : slice_get p.frame.code p.frame.pc ≡ Some (Element t array index from)) where
  abbrev instr : Instr
  instr = Element t array index from

  code_is : (c : Site) (n : ℕ) (move : Inst)
      → slice_get (moved c.scene.adts t (c.type_number (OfRecord t)) (in_slot c.scene t from) (behind element_place 0)) n ≡ Some move
      → slice_get (code_of c instr) (suc (0 + n)) ≡ Some move
  code_is c n move e = ap (λ l. slice_get (code_of c instr) l) (let z : suc (0 + n) ≡ suc n = omega arith in z) ∙ e

  long_is : (c : Site) → c.scene.adts ≡ m.adts → length (code_of c instr) ≡ suc 0 + suc (many_of sizes)
  long_is c e =
      let last = last_moves m.adts t (c.type_number (OfRecord t)) (in_slot c.scene t from) (behind element_place 0) sizes form is_so in
      ap (λ (l : Code). suc (length l))
      (ap (λ d. moved d t (c.type_number (OfRecord t)) (in_slot c.scene t from) (behind element_place 0)) e ∙ last.1)
      ∙ ap suc (front_long sizes (room_for m.adts t).size last.0)
      ∙ (let z : suc (suc (many_of sizes)) ≡ suc 0 + suc (many_of sizes) = omega arith in z)

  goes_behind_it : (f : typed.Function) (known : held.Slots) → GoesOn m f p.frame.pc known → slice_get (of_function m f).code p.frame.pc ≡ Some instr
      → GoesOn m f (suc p.frame.pc) known
  goes_behind_it f known goes there = goes_behind m f p.frame.pc known instr goes there 0 (suc p.frame.pc) known (omega arith) refl

  does : (has_array : HasArray p array) → Fills m b fit t array from form sizes is_so small i p instr here index has_array 0 code_is (λ m f pc. inl refl) long_is goes_behind_it
  does has_array v =
      ap (code.next frames_limit (program m) v p) here
      ∙ ap (λ (o : Option value.Part). code.part_or_none frames_limit (program m) v p o
      (λ part. code.stores frames_limit (program m) v p (element_at t part index) (value_of (slot p.frame.slots from)))) has_array.1

  does_none : part_of (value_of (slot p.frame.slots array)) ≡ None → (v : Shared) → (sides m).program.step v p ≡ Ends v (Broken dereference_of_nil)
  does_none none v =
      ap (code.next frames_limit (program m) v p) here
      ∙ ap (λ (o : Option value.Part). code.part_or_none frames_limit (program m) v p o
      (λ part. code.stores frames_limit (program m) v p (element_at t part index) (value_of (slot p.frame.slots from)))) none

  element_stored : (k : Facts) (w : Shared) (x : World) (q : Process) (ready : Ready m k i x p q) (hold : HoldTheSame m k i x p q) (worlds : (sides m).worlds k w x)
      → Next m b i p (suc (many_of sizes)) k w x q
  element_stored k w x q ready hold worlds =
      let f = ready.stands.is.function in
      let row_is = code_here m k i x p q ready instr here in
      let found = finds m f p.frame.pc ready.stands.is.known instr ready.stands.goes row_is in
      let used = uses m k i x [] p.frame q.frame ready.stands.is p.frame.pc instr row_is in
      let so_far : q.frame.pc ≡ q.frame.pc + 0 = omega arith in
      let blank = blank_site m f.of.answer (of_function m f) p.frame.pc in
      let real = site_now m b k i w x p q ready hold worlds instr here q.frame.pc q.printing 0 so_far in
      let row_at = row_now m b k i w x p q ready hold worlds instr here in
      let store = code.memory_of w p.frame in
      address_way m b k i w x p q ready hold worlds instr here q.frame.pc q.printing 0 so_far array t index used.0 found.1
      (number_source (fits_source index) index real.at)
      (int_source m b k i w x p q ready hold worlds (fits_source index) index real.at refl (row_at.stand (placed m real.at ty.Int (Num index)) (inl refl)))
      refl refl (subst (λ n. 1 < n) (sym (long_is blank refl)) (omega arith)) (many_of sizes)
      (λ none. does_none none w)
      (λ part raised some out.
      fill_raises m b fit t array from form sizes is_so small i p instr here index (part, some) 0 code_is (λ m f pc. inl refl) long_is goes_behind_it (does (part, some)) w (text_of raised)
      (no_element m k i w x p q ready hold worlds q.frame.pc q.printing (Array (Some part)) (Num index) [] part refl index refl raised out))
      (λ others last v y be.
      filled_way m b fit t array from form sizes is_so small i p instr here index (be.whole, be.array) 0 code_is (λ m f pc. inl refl) long_is goes_behind_it (does (be.whole, be.array)) k w x q ready hold worlds
      q.frame.pc q.printing so_far used.0 used.1 found.1 found.2 found.0 others last v y be refl)

pub element_whole_goes : ElementWholeGoes
element_whole_goes m b t array index from whole k i x p q ready here = (
  suc (many_of (is_sized m.adts t)),
  going_on m b i p q q (λ n. refl) (suc (many_of (is_sized m.adts t))) k x ready.0 ready.1 (λ now w y s grows same hold worlds.
      element_stored m b (places_fit m) t array index from whole.0 (is_sized m.adts t) refl whole.1 i p here now w y q s hold worlds),
)
