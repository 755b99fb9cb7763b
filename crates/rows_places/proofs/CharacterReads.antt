-- Characters of strings that are read into slots, by where the string stands.
use Rattle.std.proofs.Common.{◌≡◌, ℕ, suc, pos, ◌+◌, ◌/◌, ◌<◌, List, [], ◌∷◌, length, Option, Some, None, refl, sym, ap, ◌∙◌, subst, arith}
use Rattle.std.specs.Prelude.{Ok, slice_get, slice_index_or}
use Rattle.system_model.specs.Limits.{frames_limit}
use Rattle.limbo_types.specs.Types as ty
use Rattle.limbo_types.specs.Types.{Ty}
use Rattle.limbo_typed.specs.Typed as typed
use Rattle.limbo_kept.specs.Trees.{WayIs}
use Rattle.limbo_meaning.specs.Exceptions.{dereference_of_nil}
use Rattle.limbo_meaning.specs.Operations.{item_of}
use Rattle.limbo_meaning.specs.Places.{Root, Local, Global, Element, Target, count_of}
use Rattle.limbo_meaning.specs.Process.{Shared}
use Rattle.limbo_meaning.specs.Trees.{Read}
use Rattle.limbo_meaning.specs.Values.{Value, part_of, nothing}
use Rattle.core_code.specs.Code.{Instr, Give}
use Rattle.core_code.specs.Machine as code
use Rattle.core_code.specs.Slots as core
use Rattle.core_typing.specs.Held as held
use Rattle.core_typing.specs.Needs.{AreThese, IsA, IsClean}
use Rattle.core_typing.specs.Written.{told}
use Rattle.dis_isa.specs.declared.inst.Inst.{Inst}
use Rattle.dis_isa.specs.declared.inst.Operand as isa
use Rattle.dis_isa.specs.declared.inst.Operand.TheVariants as operand
use Rattle.dis_isa.specs.declared.op.Op.TheVariants as op
use Rattle.dis_meaning.specs.Words.{Word, Refer, Found}
use Rattle.dis_meaning.specs.Process.{Process}
use Rattle.dis_memory.specs.Blocks.{World}
use Rattle.value_words.specs.Forms.{Adts}
use Rattle.value_words.specs.Facts.{Facts, IsName}
use Rattle.value_words.proofs.Bytes.{word_found}
use Rattle.value_heaps.proofs.Words.{named_by}
use Rattle.value_frames.specs.Frames.{reference_place, number_place, element_place}
use Rattle.value_frames.specs.Frames as frames
use Rattle.value_moves.specs.Operands.{inst, own, of_own, behind}
use Rattle.value_moves.proofs.Leading.{spots_lead}
use Rattle.value_code.specs.Objects.{object_of, of_function, or_nothing}
use Rattle.value_code.specs.Operands.{adt_of}
use Rattle.value_code.specs.Code.{Site, code_of}
use Rattle.value_follows.specs.Stands.{Ready, scope, types_of}
use Rattle.value_follows.specs.Sides.{sides, HoldTheSame}
use Rattle.value_follows.specs.Rows.{Base}
use Rattle.value_follows.proofs.Standing.{same_some, finds, code_here}
use Rattle.value_follows.proofs.Slots.{uses}
use Rattle.value_follows.proofs.Single.{Once}
use Rattle.value_follows.proofs.Several.{moved_to, Next}
use Rattle.rows_places.specs.Rows.{way_from, character_from, CharactersGo}
use Rattle.rows_places.proofs.Fitting.{PlacesFit, BeginsSo, places_fit}
use Rattle.rows_places.proofs.Words.{found_there}
use Rattle.rows_places.proofs.Going.{going_on}
use Rattle.rows_places.proofs.Last.{site_now, raised_here}
use Rattle.rows_places.proofs.Nil.{nil_indexed}
use Rattle.rows_places.proofs.Places.{place_lives, TargetIs, target_is, at_target, no_target, target_place}
use Rattle.rows_places.proofs.Globals.{place as global_at, global_place}
use Rattle.rows_places.proofs.Locals.{place as local_at, part_there}
use Rattle.rows_places.proofs.Arrays.{array_here}
use Rattle.rows_places.proofs.Elements.{element_place_here}
use Rattle.rows_places.proofs.Looking.{ElementSlots, element_slots, Behind, element_way}
use Rattle.rows_places.proofs.Characters.{character_raises, character_comes, index_at, below_at}

-- the way to the string
string_way : (m : typed.Module) (f : typed.Function) (root : Root) (part : List ℕ) (us : List Ty) (t : Ty)
    → WayIs (scope m f) (character_from root part) us t → (is : WayIs (scope m f) (way_from root part) us ty.Chars) × (t ≡ ty.Int)
string_way m f root part us t is =
    (record { root = is.root; room = is.room; begins = is.begins; inner = is.inner; leads = is.leads; ends = is.ends.0; indexed = λ e. absurd cc }, is.ends.1)

module _ (m : typed.Module) (b : Base m) (fit : PlacesFit m) (t : Ty) (root : Root) (part : List ℕ) (into : ℕ) (from : List ℕ)
    (i : ℕ) (p : code.Process) (here : slice_get p.frame.code p.frame.pc ≡ Some (Give t (Read (character_from root part)) into from))
    (k : Facts) (w : Shared) (x : World) (q : Process) (ready : Ready m k i x p q) (hold : HoldTheSame m k i x p q) (worlds : (sides m).worlds k w x) where
  abbrev instr : Instr
  instr = Give t (Read (character_from root part)) into from

  abbrev f : typed.Function
  f = ready.stands.is.function

  abbrev known : held.Slots
  known = ready.stands.is.known

  -- What is known of the row's slots.
  pub record RowSlots : Type 0 where
    pub us : List Ty
    pub these : AreThese known from us
    pub way : WayIs (scope m f) (way_from root part) us ty.Chars
    pub is_int : t ≡ ty.Int
    pub clean : IsClean (held.slot known into)
    pub begins : BeginsSo (told (of_function m f).code p.frame.pc) known root from
    pub index : ℕ
    pub index_there : slice_get from (count_of root) ≡ Some index
    pub index_is : IsA known index ty.Int
    pub below_into : into < length p.frame.slots
    pub below_index : index < length p.frame.slots

  pub row_slots : RowSlots
  row_slots =
      let row_is = code_here m k i x p q ready instr here in
      let found = finds m f p.frame.pc known instr ready.stands.goes row_is in
      let used = uses m k i x [] p.frame q.frame ready.stands.is p.frame.pc instr row_is in
      let operands = fit.operands f p.frame.pc known instr ready.stands.goes row_is in
      let way = string_way m f root part found.0 t found.2.0 in
      record {
        us = found.0;
        these = found.1;
        way = way.0;
        is_int = way.1;
        clean = found.3;
        begins = operands.0;
        index = operands.1.0;
        index_there = operands.1.1;
        index_is = operands.1.2;
        below_into = used.0;
        below_index = below_at (length p.frame.slots) from (count_of root) operands.1.0 used.1 operands.1.1;
      }

  -- the index stands in the middle
  pub index_middle : (s : RowSlots) (c : Site) → slice_index_or from (count_of root) 0 ≡ s.index
  index_middle s c = index_at from (count_of root) s.index 0 s.index_there

-- ---- variables

module _ (m : typed.Module) (b : Base m) (fit : PlacesFit m) (t : Ty) (v : ℕ) (part : List ℕ) (into : ℕ) (from : List ℕ)
    (i : ℕ) (p : code.Process) (k : Facts) (w : Shared) (x : World) (q : Process) (ready : Ready m k i x p q) (hold : HoldTheSame m k i x p q)
    (worlds : (sides m).worlds k w x) where
  at_begin : q.frame.pc ≡ q.frame.pc + 0
  at_begin = omega arith

  local_read : slice_get p.frame.code p.frame.pc ≡ Some (Give t (Read (character_from (Local v) part)) into from) → Once m b i p q k w x
  local_read here =
      let instr = Give t (Read (character_from (Local v) part)) into from in
      let s = row_slots m b fit t (Local v) part into from i p here k w x q ready hold worlds in
      let there = part_there m k i x p q ready v part s.us ty.Chars s.way in
      let place = local_at m k i x p q ready v part in
      let real = site_now m b k i w x p q ready hold worlds instr here q.frame.pc q.printing 0 at_begin in
      character_comes m b k i w x p q ready hold worlds t (Local v) part into from here s.is_int q.frame.pc q.printing 0 at_begin refl
      s.below_into s.clean s.index s.below_index s.index_there s.index_is (own place) q.frame.words place (spots_lead.own x q place).0 there.value
      (ap (λ (u : Value). Ok u) (found_there p.frame.variables v nothing there.value there.there).1) there.lies.stands
      (λ u e.
      let named = named_by q.frame.words (place / 4) u (word_found q.frame.words place (Refer (Some u)) e).1 in
      hold.same.live u (hold.same.roots u (omega (arith, named))))
      (ap (λ n. Some (inst op.Indc (own place) (of_own (number_place m.adts (types_of m ready.stands.is.function) n))
      (own (number_place m.adts (types_of m ready.stands.is.function) into))))
      (index_middle m b fit t (Local v) part into from i p here k w x q ready hold worlds s real))

  global_read : slice_get p.frame.code p.frame.pc ≡ Some (Give t (Read (character_from (Global v) part)) into from) → Once m b i p q k w x
  global_read here =
      let instr = Give t (Read (character_from (Global v) part)) into from in
      let s = row_slots m b fit t (Global v) part into from i p here k w x q ready hold worlds in
      let values = core.values_of p.frame.slots from in
      let place = global_place m k i w x p q ready hold worlds q.frame.pc q.printing v part s.us ty.Chars s.way values in
      let o = operand.Mp (pos (global_at m k i w x p q ready hold worlds q.frame.pc q.printing v part)) in
      let real = site_now m b k i w x p q ready hold worlds instr here q.frame.pc q.printing 0 at_begin in
      character_comes m b k i w x p q ready hold worlds t (Global v) part into from here s.is_int q.frame.pc q.printing 0 at_begin refl
      s.below_into s.clean s.index s.below_index s.index_there s.index_is o place.words place.byte place.leads.0 place.value
      place.rooted place.lies.stands
      (λ u e. place_lives m k i w x p q ready hold worlds q.frame.pc q.printing (Global v) values o ty.Chars part place u (place.byte / 4)
      (word_found place.words place.byte (Refer (Some u)) e).1)
      (ap (λ n. Some (inst op.Indc o (of_own (number_place m.adts (types_of m ready.stands.is.function) n))
      (own (number_place m.adts (types_of m ready.stands.is.function) into))))
      (index_middle m b fit t (Global v) part into from i p here k w x q ready hold worlds s real))

-- ---- what references name

module _ (m : typed.Module) (b : Base m) (fit : PlacesFit m) (t : Ty) (part : List ℕ) (into r0 : ℕ) (rs : List ℕ)
    (i : ℕ) (p : code.Process) (here : slice_get p.frame.code p.frame.pc ≡ Some (Give t (Read (character_from Target part)) into (r0 ∷ rs)))
    (k : Facts) (w : Shared) (x : World) (q : Process) (ready : Ready m k i x p q) (hold : HoldTheSame m k i x p q) (worlds : (sides m).worlds k w x) where
  abbrev target_instr : Instr
  target_instr = Give t (Read (character_from Target part)) into (r0 ∷ rs)

  abbrev target_f : typed.Function
  target_f = ready.stands.is.function

  so_far_0 : q.frame.pc ≡ q.frame.pc + 0
  so_far_0 = omega arith

  abbrev slots : RowSlots m b fit t Target part into (r0 ∷ rs) i p here k w x q ready hold worlds
  slots = row_slots m b fit t Target part into (r0 ∷ rs) i p here k w x q ready hold worlds

  abbrev real : Site
  real = site_now m b k i w x p q ready hold worlds target_instr here q.frame.pc q.printing 0 so_far_0

  module _ (below : r0 < length p.frame.slots)
      (target : TargetIs m k i w x p q ready hold worlds q.frame.pc q.printing part slots.us ty.Chars slots.way r0 rs below slots.these)
      (same : or_nothing (told (of_function m target_f).code p.frame.pc r0) ≡ target.type) where
    abbrev source : isa.Operand
    source = at_target m k i w x p q ready hold worlds q.frame.pc q.printing part slots.us ty.Chars slots.way r0 rs below slots.these target.type

    abbrev target_look : Inst
    target_look =
        inst op.Indc source (of_own (number_place m.adts (types_of m target_f) slots.index)) (own (number_place m.adts (types_of m target_f) into))

    begins : slice_get (code_of real target_instr) 0 ≡ Some target_look
    begins =
        ap (λ n. Some (inst op.Indc (behind (reference_place m.adts (types_of m target_f) r0) (frames.within m.adts (adt_of real.scene (real.told r0)) part))
        (of_own (number_place m.adts (types_of m target_f) n)) (own (number_place m.adts (types_of m target_f) into))))
        (index_middle m b fit t Target part into (r0 ∷ rs) i p here k w x q ready hold worlds slots real)
        ∙ ap (λ u. Some (inst op.Indc (behind (reference_place m.adts (types_of m target_f) r0) (frames.within m.adts (adt_of real.scene u) part))
        (of_own (number_place m.adts (types_of m target_f) slots.index)) (own (number_place m.adts (types_of m target_f) into)))) same

    target_character : Once m b i p q k w x
    target_character = go target.ref.refers target.ref.name refl refl target.ref.named
      where
        go : (r n : Option ℕ) → target.ref.refers ≡ r → target.ref.name ≡ n → IsName k (Some (Adts slots.way.begins.0)) r n → Once m b i p q k w x
        go None None e g h =
            raised_here m b k i w x p q ready hold worlds target_instr here q.frame.pc q.printing 0 so_far_0 target_look begins dereference_of_nil
            (nil_indexed frames_limit (object_of m) x q (reference_place m.adts (types_of m target_f) r0)
            (frames.within m.adts (adt_of real.scene target.type) part) (target.ref.word ∙ ap (λ (o : Option ℕ). Found (Refer o)) e)
            (own (number_place m.adts (types_of m target_f) into)) (of_own (number_place m.adts (types_of m target_f) slots.index)))
            (character_raises m b k i w x p q ready hold worlds t Target part into (r0 ∷ rs) here dereference_of_nil
            (no_target m k i w x p q ready hold worlds q.frame.pc q.printing part slots.us ty.Chars slots.way r0 rs below slots.these target g))
        go (Some s) (Some n) e g h =
            let place = target_place m k i w x p q ready hold worlds q.frame.pc q.printing part slots.us ty.Chars slots.way r0 rs below slots.these target s n e g in
            character_comes m b k i w x p q ready hold worlds t Target part into (r0 ∷ rs) here slots.is_int q.frame.pc q.printing 0 so_far_0 refl
            slots.below_into slots.clean slots.index slots.below_index slots.index_there slots.index_is source place.words place.byte place.leads.0 place.value
            place.rooted place.lies.stands
            (λ u e. place_lives m k i w x p q ready hold worlds q.frame.pc q.printing Target (core.values_of p.frame.slots (r0 ∷ rs)) source ty.Chars part place
            u (place.byte / 4) (word_found place.words place.byte (Refer (Some u)) e).1)
            begins
        go None (Some n) e g h = absurd h
        go (Some s) None e g h = absurd h

  target_read : Once m b i p q k w x
  target_read =
      let used = uses m k i x [] p.frame q.frame ready.stands.is p.frame.pc target_instr (code_here m k i x p q ready target_instr here) in
      let target = target_is m k i w x p q ready hold worlds q.frame.pc q.printing part slots.us ty.Chars slots.way r0 rs used.1.0 slots.these in
      target_character used.1.0 target (ap or_nothing slots.begins.2 ∙ same_some slots.begins.0 target.type (sym slots.begins.1 ∙ target.known))

-- ---- elements

module _ (m : typed.Module) (b : Base m) (fit : PlacesFit m) (t : Ty) (part : List ℕ) (into r0 r1 : ℕ) (rs : List ℕ)
    (i : ℕ) (p : code.Process) (here : slice_get p.frame.code p.frame.pc ≡ Some (Give t (Read (character_from Element part)) into (r0 ∷ r1 ∷ rs))) where
  abbrev from : List ℕ
  from = r0 ∷ r1 ∷ rs

  abbrev element_instr : Instr
  element_instr = Give t (Read (character_from Element part)) into from

  module _ (k : Facts) (w : Shared) (x : World) (q : Process) (ready : Ready m k i x p q) (hold : HoldTheSame m k i x p q) (worlds : (sides m).worlds k w x) where
    abbrev g : typed.Function
    g = ready.stands.is.function

    module _ (item : Ty) (slots : ElementSlots m g ready.stands.is.known p.frame.pc r0 r1 part ty.Chars item) (below0 : r0 < length p.frame.slots) (others : List Word) where
      element_character : (last : Facts) (v : Shared) (y : World)
          → Behind m b k i w x p q ready hold worlds element_instr here r0 r1 (core.values_of p.frame.slots rs) part ty.Chars item others last v y
          → Once m b i p (moved_to q (suc q.frame.pc) others) last v y
      element_character last v y be =
          let q' = moved_to q q.frame.pc others in
          let s = be.still in
          let h = s.stands.is.function in
          let so_far' : suc q.frame.pc ≡ q'.frame.pc + 1 = omega arith in
          let slots' = subst (λ c. ElementSlots m c s.stands.is.known p.frame.pc r0 r1 part ty.Chars item) (sym be.function)
          (subst (λ kn. ElementSlots m g kn p.frame.pc r0 r1 part ty.Chars item) (sym be.known_so) slots) in
          let a = array_here m last i v y p q' s be.holds be.alike (suc q.frame.pc) None r0 item below0 (slots'.type, slots'.has_type, slots'.array) in
          let some = sym (ap part_of a.holds ∙ a.array.is) ∙ be.array in
          let place = element_place_here m last i v y p q' s be.holds be.alike (suc q.frame.pc) None fit r0 item a be.whole some be.z be.h be.index be.address
          (core.value_of (core.slot p.frame.slots r0)) (core.value_of (core.slot p.frame.slots r1)) (core.values_of p.frame.slots rs) be.array be.number
          part ty.Chars slots'.path slots'.ends in
          let row = row_slots m b fit t Element part into from i p here last v y q' s be.holds be.alike in
          let real = site_now m b last i v y p q' s be.holds be.alike element_instr here (suc q.frame.pc) None 1 so_far' in
          let told_is : real.told r0 ≡ a.type = slots'.tells ∙ same_some slots'.type a.type (sym slots'.has_type ∙ a.known) in
          let is_item : item_of (real.told r0) ≡ item = ap item_of told_is ∙ a.array.item be.whole some in
          let o = behind element_place (frames.within m.adts item part) in
          let into_at = own (number_place m.adts (types_of m h) into) in
          character_comes m b last i v y p q' s be.holds be.alike t Element part into from here row.is_int (suc q.frame.pc) None 1 so_far' refl
          row.below_into row.clean row.index row.below_index row.index_there row.index_is o place.words place.byte place.leads.0 place.value
          place.rooted place.lies.stands
          (λ u e. place_lives m last i v y p q' s be.holds be.alike (suc q.frame.pc) None Element (core.values_of p.frame.slots from) o ty.Chars part place
          u (place.byte / 4) (word_found place.words place.byte (Refer (Some u)) e).1)
          (ap (λ n. Some (inst op.Indc (behind element_place (frames.within m.adts (item_of (real.told r0)) part)) (of_own (number_place m.adts (types_of m h) n)) into_at))
          (index_middle m b fit t Element part into from i p here last v y q' s be.holds be.alike row real)
          ∙ ap (λ u. Some (inst op.Indc (behind element_place (frames.within m.adts u part)) (of_own (number_place m.adts (types_of m h) row.index)) into_at)) is_item)

    element_read : Next m b i p 1 k w x q
    element_read =
        let used = uses m k i x [] p.frame q.frame ready.stands.is p.frame.pc element_instr (code_here m k i x p q ready element_instr here) in
        let row = row_slots m b fit t Element part into from i p here k w x q ready hold worlds in
        let slots = element_slots m g ready.stands.is.known p.frame.pc r0 r1 part ty.Chars row.us (r1 ∷ rs) row.these row.way row.begins.0 row.begins.1 in
        element_way m b k i w x p q ready hold worlds element_instr here r0 r1 (core.values_of p.frame.slots rs) part ty.Chars row.way.root slots used.1.0 used.1.1.0
        refl (omega arith) refl
        (character_raises m b k i w x p q ready hold worlds t Element part into from here) 0
        (λ others last v y be. element_character row.way.root slots used.1.0 others last v y be)

-- ---- the rows

pub characters_go : CharactersGo
characters_go m b t (Local v) part into from k i x p q ready here = (
  0,
  going_on m b i p q q (λ n. refl) 0 k x ready.0 ready.1 (λ now w y s grows same hold worlds.
      local_read m b (places_fit m) t v part into from i p now w y q s hold worlds here),
)
characters_go m b t (Global v) part into from k i x p q ready here = (
  0,
  going_on m b i p q q (λ n. refl) 0 k x ready.0 ready.1 (λ now w y s grows same hold worlds.
      global_read m b (places_fit m) t v part into from i p now w y q s hold worlds here),
)
characters_go m b t Target part into [] k i x p q ready here =
    let r = ready.0 in
    let instr = Give t (Read (character_from Target part)) into [] in
    absurd ((places_fit m).operands r.stands.is.function p.frame.pc r.stands.is.known instr r.stands.goes (code_here m k i x p q r instr here)).0
characters_go m b t Target part into (r0 ∷ rs) k i x p q ready here = (
  0,
  going_on m b i p q q (λ n. refl) 0 k x ready.0 ready.1 (λ now w y s grows same hold worlds.
      target_read m b (places_fit m) t part into r0 rs i p here now w y q s hold worlds),
)
characters_go m b t Element part into [] k i x p q ready here =
    let r = ready.0 in
    let instr = Give t (Read (character_from Element part)) into [] in
    absurd ((places_fit m).operands r.stands.is.function p.frame.pc r.stands.is.known instr r.stands.goes (code_here m k i x p q r instr here)).0
characters_go m b t Element part into (r0 ∷ []) k i x p q ready here =
    let r = ready.0 in
    let instr = Give t (Read (character_from Element part)) into (r0 ∷ []) in
    absurd ((places_fit m).operands r.stands.is.function p.frame.pc r.stands.is.known instr r.stands.goes (code_here m k i x p q r instr here)).0
characters_go m b t Element part into (r0 ∷ r1 ∷ rs) k i x p q ready here = (
  1,
  going_on m b i p q q (λ n. refl) 1 k x ready.0 ready.1 (λ now w y s grows same hold worlds.
      element_read m b (places_fit m) t part into r0 r1 rs i p here now w y q s hold worlds),
)
