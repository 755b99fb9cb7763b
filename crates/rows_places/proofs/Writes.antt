-- Rows that write places of one word in blocks.
use Rattle.std.proofs.Common.{◌≡◌, ℕ, suc, pos, ◌+◌, ◌<◌, List, [], ◌∷◌, length, Option, Some, None, refl, sym, ap, ◌∙◌, subst, arith}
use Rattle.std.specs.Prelude.{slice_get}
use Rattle.limbo_types.specs.Types.{Ty}
use Rattle.limbo_typed.specs.Typed as typed
use Rattle.limbo_kept.specs.Trees.{WayIs}
use Rattle.limbo_meaning.specs.Exceptions.{dereference_of_nil}
use Rattle.limbo_meaning.specs.Operations.{item_of}
use Rattle.limbo_meaning.specs.Places.{Global, Element, Target, part_at}
use Rattle.limbo_meaning.specs.Process.{Shared}
use Rattle.limbo_meaning.specs.Values.{fitted, part_of}
use Rattle.system_model.specs.Limits.{frames_limit}
use Rattle.core_code.specs.Code.{Instr, Write}
use Rattle.core_code.specs.Machine as code
use Rattle.core_code.specs.Slots as core
use Rattle.core_typing.specs.Held as held
use Rattle.core_typing.specs.Needs.{AreThese}
use Rattle.core_typing.specs.Written.{told}
use Rattle.dis_isa.specs.declared.inst.Inst.{Inst}
use Rattle.dis_isa.specs.declared.inst.Operand as isa
use Rattle.dis_isa.specs.declared.inst.Operand.TheVariants as operand
use Rattle.dis_isa.specs.declared.inst.Middle.TheVariants as middle
use Rattle.dis_isa.specs.declared.op.Op.TheVariants as op
use Rattle.dis_meaning.specs.Words.{Word, Refer, Found}
use Rattle.dis_meaning.specs.Process.{Process}
use Rattle.dis_memory.specs.Blocks.{World}
use Rattle.value_words.specs.Forms.{Adts}
use Rattle.value_words.specs.Facts.{Facts, IsName}
use Rattle.value_frames.specs.Frames.{reference_place, number_place, element_place}
use Rattle.value_frames.specs.Frames as frames
use Rattle.value_moves.specs.Operands.{Code, inst, own, of_own, behind}
use Rattle.value_code.specs.Objects.{object_of, of_function, size_at, blank_site, or_nothing}
use Rattle.value_code.specs.Operands.{adt_of}
use Rattle.value_code.specs.Code.{Site, code_of}
use Rattle.value_follows.specs.Stands.{Ready, scope, types_of}
use Rattle.value_follows.specs.Sides.{sides, HoldTheSame}
use Rattle.value_follows.specs.Rows.{Base}
use Rattle.value_follows.proofs.Standing.{same_some, finds, code_here}
use Rattle.value_follows.proofs.Slots.{uses}
use Rattle.value_follows.proofs.Single.{Once}
use Rattle.value_follows.proofs.Several.{moved_to, Next}
use Rattle.rows_places.specs.Rows.{IsSimple, way_from, GlobalWritesGo, TargetWritesGo, ElementWritesGo}
use Rattle.rows_places.proofs.Fitting.{PlacesFit, places_fit}
use Rattle.rows_places.proofs.Going.{going_on}
use Rattle.rows_places.proofs.Last.{simple_op, site_now, raised_here}
use Rattle.rows_places.proofs.Nil.{nil_stores}
use Rattle.rows_places.proofs.Places.{TargetIs, target_is, at_target, no_target, target_place}
use Rattle.rows_places.proofs.Globals.{place as global_at, global_place}
use Rattle.rows_places.proofs.Arrays.{array_here}
use Rattle.rows_places.proofs.Elements.{element_place_here}
use Rattle.rows_places.proofs.Looking.{ElementSlots, element_slots, Behind, element_way}
use Rattle.rows_places.proofs.Writing.{agrees, SourceFor, source_for, write_raises, place_written}

-- ---- variables of the module

module _ (m : typed.Module) (b : Base m) (t : Ty) (v : ℕ) (part operands taken : List ℕ) (from : ℕ) (simple : IsSimple t)
    (i : ℕ) (p : code.Process) (here : slice_get p.frame.code p.frame.pc ≡ Some (Write t (way_from (Global v) part) operands taken from))
    (k : Facts) (w : Shared) (x : World) (q : Process) (ready : Ready m k i x p q) (hold : HoldTheSame m k i x p q) (worlds : (sides m).worlds k w x) where
  global_written : Once m b i p q k w x
  global_written =
      let instr = Write t (way_from (Global v) part) operands taken from in
      let f = ready.stands.is.function in
      let row_is = code_here m k i x p q ready instr here in
      let found = finds m f p.frame.pc ready.stands.is.known instr ready.stands.goes row_is in
      let used = uses m k i x [] p.frame q.frame ready.stands.is p.frame.pc instr row_is in
      let so_far : q.frame.pc ≡ q.frame.pc + 0 = omega arith in
      let values = core.values_of p.frame.slots operands in
      let from_there = source_for m b k i w x p q ready hold worlds q.frame.pc q.printing t taken from simple used.1
      (agrees m f p.frame.pc ready.stands.is.known t (Global v) part operands taken from ready.stands.goes row_is) found.3 in
      let place = global_place m k i w x p q ready hold worlds q.frame.pc q.printing v part found.0 t found.2 values in
      let d = operand.Mp (pos (global_at m k i w x p q ready hold worlds q.frame.pc q.printing v part)) in
      let real = site_now m b k i w x p q ready hold worlds instr here q.frame.pc q.printing 0 so_far in
      place_written m b k i w x p q ready hold worlds t (Global v) part operands taken from here simple q.frame.pc q.printing 0 so_far
      (ap (λ (l : Code). length l) (from_there.instr (blank_site m f.of.answer (of_function m f) p.frame.pc) d refl from_there.tells))
      d place from_there
      (ap (λ (l : Code). slice_get l 0) (from_there.instr real d refl from_there.tells))

pub global_writes_go : GlobalWritesGo
global_writes_go m b t v part operands taken from simple k i x p q ready here = (
  0,
  going_on m b i p q q (λ n. refl) 0 k x ready.0 ready.1 (λ now w y s grows same hold worlds.
      global_written m b t v part operands taken from simple i p here now w y q s hold worlds),
)

-- ---- what references name

module _ (m : typed.Module) (b : Base m) (fit : PlacesFit m) (t : Ty) (part : List ℕ) (r0 : ℕ) (rs taken : List ℕ) (from : ℕ) (simple : IsSimple t)
    (i : ℕ) (p : code.Process) (here : slice_get p.frame.code p.frame.pc ≡ Some (Write t (way_from Target part) (r0 ∷ rs) taken from))
    (k : Facts) (w : Shared) (x : World) (q : Process) (ready : Ready m k i x p q) (hold : HoldTheSame m k i x p q) (worlds : (sides m).worlds k w x) where
  abbrev instr : Instr
  instr = Write t (way_from Target part) (r0 ∷ rs) taken from

  abbrev f : typed.Function
  f = ready.stands.is.function

  abbrev at : ℕ
  at = q.frame.pc

  so_far_0 : at ≡ at + 0
  so_far_0 = omega arith

  abbrev real : Site
  real = site_now m b k i w x p q ready hold worlds instr here at q.printing 0 so_far_0

  module _ (us : List Ty) (is : WayIs (scope m f) (way_from Target part) us t) (below : r0 < length p.frame.slots) (these : AreThese ready.stands.is.known (r0 ∷ rs) us)
      (target : TargetIs m k i w x p q ready hold worlds at q.printing part us t is r0 rs below these)
      (same : or_nothing (told (of_function m f).code p.frame.pc r0) ≡ target.type)
      (s : SourceFor m b k i w x p q ready hold worlds at q.printing t taken from simple) where
    abbrev leads_by : isa.Operand
    leads_by = at_target m k i w x p q ready hold worlds at q.printing part us t is r0 rs below these target.type

    code_is : (c : Site) → c.scene ≡ real.scene → c.told r0 ≡ target.type → c.told from ≡ s.type
        → code_of c instr ≡ inst (simple_op t) s.source middle.None leads_by ∷ []
    code_is c e g h =
        s.instr c (behind (reference_place c.scene.adts c.scene.variables r0) (frames.within c.scene.adts (adt_of c.scene (c.told r0)) part)) e h
        ∙ ap (λ z. inst (simple_op t) s.source middle.None (behind (reference_place z.adts z.variables r0) (frames.within z.adts (adt_of z (c.told r0)) part)) ∷ []) e
        ∙ ap (λ u. inst (simple_op t) s.source middle.None (behind (reference_place m.adts (types_of m f) r0) (frames.within m.adts (adt_of real.scene u) part)) ∷ []) g

    begins : slice_get (code_of real instr) 0 ≡ Some (inst (simple_op t) s.source middle.None leads_by)
    begins = ap (λ (l : Code). slice_get l 0) (code_is real refl same s.tells)

    target_stored : Once m b i p q k w x
    target_stored = go target.ref.refers target.ref.name refl refl target.ref.named
      where
        go : (r n : Option ℕ) → target.ref.refers ≡ r → target.ref.name ≡ n → IsName k (Some (Adts is.begins.0)) r n → Once m b i p q k w x
        go None None e g h =
            raised_here m b k i w x p q ready hold worlds instr here at q.printing 0 so_far_0
            (inst (simple_op t) s.source middle.None leads_by) begins dereference_of_nil
            (nil_stores m k i w x p q ready hold worlds at q.printing frames_limit (object_of m) (reference_place m.adts (types_of m f) r0)
            (frames.within m.adts (adt_of real.scene target.type) part)
            (target.ref.word ∙ ap (λ (o : Option ℕ). Found (Refer o)) e) s.source t (fitted m.adts t (part_at taken (core.value_of (core.slot p.frame.slots from)))) simple s.gives)
            (write_raises m b k i w x p q ready hold worlds t Target part (r0 ∷ rs) taken from here dereference_of_nil
            (no_target m k i w x p q ready hold worlds at q.printing part us t is r0 rs below these target g))
        go (Some c) (Some n) e g h =
            place_written m b k i w x p q ready hold worlds t Target part (r0 ∷ rs) taken from here simple at q.printing 0 so_far_0
            (ap (λ (l : Code). length l) (code_is (blank_site m f.of.answer (of_function m f) p.frame.pc) refl same s.tells))
            leads_by (target_place m k i w x p q ready hold worlds at q.printing part us t is r0 rs below these target c n e g) s begins
        go None (Some n) e g h = absurd h
        go (Some c) None e g h = absurd h

  target_written : Once m b i p q k w x
  target_written =
      let row_is = code_here m k i x p q ready instr here in
      let found = finds m f p.frame.pc ready.stands.is.known instr ready.stands.goes row_is in
      let used = uses m k i x [] p.frame q.frame ready.stands.is p.frame.pc instr row_is in
      let target = target_is m k i w x p q ready hold worlds at q.printing part found.0 t found.2 r0 rs used.0.0 found.1 in
      let told_is = (fit.operands f p.frame.pc ready.stands.is.known instr ready.stands.goes row_is).0 in
      let same = ap or_nothing told_is.2 ∙ same_some told_is.0 target.type (sym told_is.1 ∙ target.known) in
      target_stored found.0 found.2 used.0.0 found.1 target same
      (source_for m b k i w x p q ready hold worlds at q.printing t taken from simple used.1
      (agrees m f p.frame.pc ready.stands.is.known t Target part (r0 ∷ rs) taken from ready.stands.goes row_is) found.3)

pub target_writes_go : TargetWritesGo
target_writes_go m b t part [] taken from simple k i x p q ready here =
    let r = ready.0 in
    let instr = Write t (way_from Target part) [] taken from in
    absurd ((places_fit m).operands r.stands.is.function p.frame.pc r.stands.is.known instr r.stands.goes (code_here m k i x p q r instr here)).0
target_writes_go m b t part (r0 ∷ rs) taken from simple k i x p q ready here = (
  0,
  going_on m b i p q q (λ n. refl) 0 k x ready.0 ready.1 (λ now w y s grows same hold worlds.
      target_written m b (places_fit m) t part r0 rs taken from simple i p here now w y q s hold worlds),
)

-- ---- elements

module _ (m : typed.Module) (b : Base m) (fit : PlacesFit m) (t : Ty) (part : List ℕ) (r0 r1 : ℕ) (rs taken : List ℕ) (from : ℕ) (simple : IsSimple t)
    (i : ℕ) (p : code.Process) (here : slice_get p.frame.code p.frame.pc ≡ Some (Write t (way_from Element part) (r0 ∷ r1 ∷ rs) taken from)) where
  abbrev write : Instr
  write = Write t (way_from Element part) (r0 ∷ r1 ∷ rs) taken from

  abbrev looks : (c : Site) → Inst
  looks c =
      inst op.Indx (own (reference_place c.scene.adts c.scene.variables r0)) (of_own element_place)
      (own (number_place c.scene.adts c.scene.variables r1))

  module _ (k : Facts) (w : Shared) (x : World) (q : Process) (ready : Ready m k i x p q) (hold : HoldTheSame m k i x p q) (worlds : (sides m).worlds k w x) where
    abbrev g : typed.Function
    g = ready.stands.is.function

    abbrev known : held.Slots
    known = ready.stands.is.known

    module _ (item : Ty) (slots : ElementSlots m g known p.frame.pc r0 r1 part t item)
        (below0 : r0 < length p.frame.slots) (below : from < length p.frame.slots) (others : List Word) where
      element_stored : (last : Facts) (v : Shared) (y : World)
          → Behind m b k i w x p q ready hold worlds write here r0 r1 (core.values_of p.frame.slots rs) part t item others last v y
          → Once m b i p (moved_to q (suc q.frame.pc) others) last v y
      element_stored last v y be =
          let q' = moved_to q q.frame.pc others in
          let s = be.still in
          let h = s.stands.is.function in
          let so_far' : suc q.frame.pc ≡ q'.frame.pc + 1 = omega arith in
          let slots' = subst (λ c. ElementSlots m c s.stands.is.known p.frame.pc r0 r1 part t item) (sym be.function)
          (subst (λ kn. ElementSlots m g kn p.frame.pc r0 r1 part t item) (sym be.known_so) slots) in
          let a = array_here m last i v y p q' s be.holds be.alike (suc q.frame.pc) None r0 item below0 (slots'.type, slots'.has_type, slots'.array) in
          let some = sym (ap part_of a.holds ∙ a.array.is) ∙ be.array in
          let place = element_place_here m last i v y p q' s be.holds be.alike (suc q.frame.pc) None fit r0 item a be.whole some be.z be.h be.index be.address
          (core.value_of (core.slot p.frame.slots r0)) (core.value_of (core.slot p.frame.slots r1)) (core.values_of p.frame.slots rs) be.array be.number
          part t slots'.path slots'.ends in
          let row_is = code_here m last i y p q' s write here in
          let found = finds m h p.frame.pc s.stands.is.known write s.stands.goes row_is in
          let from_there = source_for m b last i v y p q' s be.holds be.alike (suc q.frame.pc) None t taken from simple below
          (agrees m h p.frame.pc s.stands.is.known t Element part (r0 ∷ r1 ∷ rs) taken from s.stands.goes row_is) found.3 in
          let real = site_now m b last i v y p q' s be.holds be.alike write here (suc q.frame.pc) None 1 so_far' in
          let blank = blank_site m h.of.answer (of_function m h) p.frame.pc in
          let told_is : real.told r0 ≡ a.type = slots'.tells ∙ same_some slots'.type a.type (sym slots'.has_type ∙ a.known) in
          let is_item : item_of (real.told r0) ≡ item = ap item_of told_is ∙ a.array.item be.whole some in
          let d = behind element_place (frames.within m.adts (item_of (real.told r0)) part) in
          place_written m b last i v y p q' s be.holds be.alike t Element part (r0 ∷ r1 ∷ rs) taken from here simple (suc q.frame.pc) None 1 so_far'
          (ap (λ (l : Code). suc (length l)) (from_there.instr blank d refl from_there.tells))
          (behind element_place (frames.within m.adts item part)) place from_there
          (ap (λ (l : Code). slice_get (looks real ∷ l) 1) (from_there.instr real d refl from_there.tells)
          ∙ ap (λ u. Some (inst (simple_op t) from_there.source middle.None (behind element_place (frames.within m.adts u part)))) is_item)

    element_written : Next m b i p 1 k w x q
    element_written =
        let row_is = code_here m k i x p q ready write here in
        let found = finds m g p.frame.pc known write ready.stands.goes row_is in
        let used = uses m k i x [] p.frame q.frame ready.stands.is p.frame.pc write row_is in
        let operands = (fit.operands g p.frame.pc known write ready.stands.goes row_is).0 in
        let slots = element_slots m g known p.frame.pc r0 r1 part t found.0 (r1 ∷ rs) found.1 found.2 operands.0 operands.1 in
        let from_there = source_for m b k i w x p q ready hold worlds q.frame.pc q.printing t taken from simple used.1
        (agrees m g p.frame.pc known t Element part (r0 ∷ r1 ∷ rs) taken from ready.stands.goes row_is) found.3 in
        let blank = blank_site m g.of.answer (of_function m g) p.frame.pc in
        let d = behind element_place (frames.within m.adts (item_of (blank.told r0)) part) in
        let size : size_at m g.of.answer (of_function m g) p.frame.pc (Some write) ≡ 2 =
        ap (λ (l : Code). suc (length l)) (from_there.instr blank d refl from_there.tells) in
        element_way m b k i w x p q ready hold worlds write here r0 r1 (core.values_of p.frame.slots rs) part t found.2.root slots used.0.0 used.0.1.0
        refl (subst (λ n. 1 < n) (sym size) (omega arith)) refl
        (write_raises m b k i w x p q ready hold worlds t Element part (r0 ∷ r1 ∷ rs) taken from here) 0
        (λ others last v y be. element_stored found.2.root slots used.0.0 used.1 others last v y be)

pub element_writes_go : ElementWritesGo
element_writes_go m b t part [] taken from simple k i x p q ready here =
    let r = ready.0 in
    let instr = Write t (way_from Element part) [] taken from in
    absurd ((places_fit m).operands r.stands.is.function p.frame.pc r.stands.is.known instr r.stands.goes (code_here m k i x p q r instr here)).0
element_writes_go m b t part (r0 ∷ []) taken from simple k i x p q ready here =
    let r = ready.0 in
    let instr = Write t (way_from Element part) (r0 ∷ []) taken from in
    absurd ((places_fit m).operands r.stands.is.function p.frame.pc r.stands.is.known instr r.stands.goes (code_here m k i x p q r instr here)).0
element_writes_go m b t part (r0 ∷ r1 ∷ rs) taken from simple k i x p q ready here = (
  1,
  going_on m b i p q q (λ n. refl) 1 k x ready.0 ready.1 (λ now w y s grows same hold worlds.
      element_written m b (places_fit m) t part r0 r1 rs taken from simple i p here now w y q s hold worlds),
)
