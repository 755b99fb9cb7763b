-- Parts of elements of arrays that are read into slots.
use Rattle.std.proofs.Common.{◌≡◌, ℕ, suc, ◌+◌, ◌<◌, List, [], ◌∷◌, length, Some, None, refl, sym, ap, ◌∙◌, subst, arith}
use Rattle.std.specs.Prelude.{slice_get}
use Rattle.limbo_types.specs.Types.{Ty}
use Rattle.limbo_typed.specs.Typed as typed
use Rattle.limbo_meaning.specs.Places.{Element}
use Rattle.limbo_meaning.specs.Process.{Shared}
use Rattle.limbo_meaning.specs.Trees.{Read}
use Rattle.limbo_meaning.specs.Values.{part_of}
use Rattle.core_code.specs.Code.{Instr, Give}
use Rattle.core_code.specs.Machine as code
use Rattle.core_code.specs.Slots as core
use Rattle.core_typing.specs.Held as held
use Rattle.core_typing.specs.Needs.{IsClean}
use Rattle.dis_isa.specs.declared.inst.Inst.{Inst}
use Rattle.dis_isa.specs.declared.inst.Middle.TheVariants as middle
use Rattle.dis_isa.specs.declared.op.Op.TheVariants as op
use Rattle.dis_meaning.specs.Words.{Word}
use Rattle.dis_meaning.specs.Process.{Process}
use Rattle.dis_memory.specs.Blocks.{World}
use Rattle.value_words.specs.Facts.{Facts}
use Rattle.value_frames.specs.Frames.{reference_place, number_place, element_place}
use Rattle.value_frames.specs.Frames as frames
use Rattle.value_moves.specs.Operands.{Code, inst, own, of_own, behind}
use Rattle.value_code.specs.Objects.{of_function, size_at, blank_site}
use Rattle.value_code.specs.Operands.{in_slot}
use Rattle.value_code.specs.Code.{Site, code_of}
use Rattle.limbo_meaning.specs.Operations.{item_of}
use Rattle.value_follows.specs.Stands.{Ready}
use Rattle.value_follows.specs.Sides.{sides, HoldTheSame}
use Rattle.value_follows.specs.Rows.{Base}
use Rattle.value_follows.proofs.Standing.{same_some, finds, code_here}
use Rattle.value_follows.proofs.Slots.{uses}
use Rattle.value_follows.proofs.Single.{Once}
use Rattle.value_follows.proofs.Several.{moved_to, Next}
use Rattle.rows_places.specs.Rows.{IsSimple, way_from, ElementsGo}
use Rattle.rows_places.proofs.Fitting.{PlacesFit, places_fit}
use Rattle.rows_places.proofs.Going.{going_on}
use Rattle.rows_places.proofs.Last.{simple_op, site_now}
use Rattle.rows_places.proofs.Arrays.{array_here}
use Rattle.rows_places.proofs.Elements.{element_place_here}
use Rattle.rows_places.proofs.Looking.{ElementSlots, element_slots, Behind, element_way, so_far}
use Rattle.rows_places.proofs.Reading.{read_code, does_raise, read_place}

module _ (m : typed.Module) (b : Base m) (fit : PlacesFit m) (t : Ty) (part : List ℕ) (into r0 r1 : ℕ) (rs : List ℕ) (simple : IsSimple t)
    (i : ℕ) (p : code.Process) (here : slice_get p.frame.code p.frame.pc ≡ Some (Give t (Read (way_from Element part)) into (r0 ∷ r1 ∷ rs))) where
  abbrev instr : Instr
  instr = Give t (Read (way_from Element part)) into (r0 ∷ r1 ∷ rs)

  abbrev from : List ℕ
  from = r0 ∷ r1 ∷ rs

  abbrev looks : (c : Site) → Inst
  looks c =
      inst op.Indx (own (reference_place c.scene.adts c.scene.variables r0)) (of_own element_place)
      (own (number_place c.scene.adts c.scene.variables r1))

  -- the row's code, which reads by what is told of the array's slot
  code_is : (c : Site)
      → code_of c instr
      ≡ looks c ∷ inst (simple_op t) (behind element_place (frames.within c.scene.adts (item_of (c.told r0)) part)) middle.None (in_slot c.scene t into) ∷ []
  code_is c = read_code c t Element part into from simple

  module _ (k : Facts) (w : Shared) (x : World) (q : Process) (ready : Ready m k i x p q) (hold : HoldTheSame m k i x p q) (worlds : (sides m).worlds k w x) where
    abbrev f : typed.Function
    f = ready.stands.is.function

    abbrev known : held.Slots
    known = ready.stands.is.known

    size_is : size_at m f.of.answer (of_function m f) p.frame.pc (Some instr) ≡ 1 + 1
    size_is = ap (λ (l : Code). length l) (code_is (blank_site m f.of.answer (of_function m f) p.frame.pc))

    -- the element is read, once its address is there
    module _ (item : Ty) (slots : ElementSlots m f known p.frame.pc r0 r1 part t item) (used : into < length p.frame.slots)
        (below0 : r0 < length p.frame.slots) (clean : IsClean (held.slot known into)) (others : List Word) where
      element_read : (last : Facts) (v : Shared) (y : World)
          → Behind m b k i w x p q ready hold worlds instr here r0 r1 (core.values_of p.frame.slots rs) part t item others last v y
          → Once m b i p (moved_to q (suc q.frame.pc) others) last v y
      element_read last v y be =
          let q' = moved_to q q.frame.pc others in
          let s = be.still in
          let g = s.stands.is.function in
          let so_far' : suc q.frame.pc ≡ q'.frame.pc + 1 = omega arith in
          let slots' = subst (λ h. ElementSlots m h s.stands.is.known p.frame.pc r0 r1 part t item) (sym be.function)
          (subst (λ kn. ElementSlots m f kn p.frame.pc r0 r1 part t item) (sym be.known_so) slots) in
          let a = array_here m last i v y p q' s be.holds be.alike (suc q.frame.pc) None r0 item below0 (slots'.type, slots'.has_type, slots'.array) in
          let some = sym (ap part_of a.holds ∙ a.array.is) ∙ be.array in
          let place = element_place_here m last i v y p q' s be.holds be.alike (suc q.frame.pc) None fit r0 item a be.whole some be.z be.h be.index be.address
          (core.value_of (core.slot p.frame.slots r0)) (core.value_of (core.slot p.frame.slots r1)) (core.values_of p.frame.slots rs) be.array be.number
          part t slots'.path slots'.ends in
          let real = site_now m b last i v y p q' s be.holds be.alike instr here (suc q.frame.pc) None 1 so_far' in
          let told_is : real.told r0 ≡ a.type = slots'.tells ∙ same_some slots'.type a.type (sym slots'.has_type ∙ a.known) in
          let is_item : item_of (real.told r0) ≡ item = ap item_of told_is ∙ a.array.item be.whole some in
          read_place m b last i v y p q' s be.holds be.alike t Element part into from here used
          (subst (λ kn. IsClean (held.slot kn into)) (sym be.known_so) clean) simple (suc q.frame.pc) None 1 so_far'
          (ap (λ (l : Code). length l) (code_is (blank_site m g.of.answer (of_function m g) p.frame.pc)))
          (behind element_place (frames.within m.adts item part)) place
          (ap (λ (l : Code). slice_get l 1) (code_is real)
          ∙ ap (λ u. Some (inst (simple_op t) (behind element_place (frames.within m.adts u part)) middle.None (in_slot real.scene t into))) is_item)

    element_reads : Next m b i p 1 k w x q
    element_reads =
        let row_is = code_here m k i x p q ready instr here in
        let found = finds m f p.frame.pc known instr ready.stands.goes row_is in
        let used = uses m k i x [] p.frame q.frame ready.stands.is p.frame.pc instr row_is in
        let operands = (fit.operands f p.frame.pc known instr ready.stands.goes row_is).0 in
        let slots = element_slots m f known p.frame.pc r0 r1 part t found.0 (r1 ∷ rs) found.1 found.2.0 operands.0 operands.1 in
        let real = site_now m b k i w x p q ready hold worlds instr here q.frame.pc q.printing 0
        (so_far m b k i w x p q ready hold worlds instr here r0 r1 (core.values_of p.frame.slots rs) part t) in
        element_way m b k i w x p q ready hold worlds instr here r0 r1 (core.values_of p.frame.slots rs) part t found.2.0.root slots used.1.0 used.1.1.0
        refl (subst (λ n. 1 < n) (sym size_is) (omega arith)) (ap (λ (l : Code). slice_get l 0) (code_is real))
        (does_raise m b k i w x p q ready hold worlds t Element part into from here) 0
        (λ others last v y be. element_read found.2.0.root slots used.0 used.1.0 found.3 others last v y be)

pub elements_go : ElementsGo
elements_go m b t part into [] simple k i x p q ready here =
    let r = ready.0 in
    let instr = Give t (Read (way_from Element part)) into [] in
    absurd ((places_fit m).operands r.stands.is.function p.frame.pc r.stands.is.known instr r.stands.goes (code_here m k i x p q r instr here)).0
elements_go m b t part into (r0 ∷ []) simple k i x p q ready here =
    let r = ready.0 in
    let instr = Give t (Read (way_from Element part)) into (r0 ∷ []) in
    absurd ((places_fit m).operands r.stands.is.function p.frame.pc r.stands.is.known instr r.stands.goes (code_here m k i x p q r instr here)).0
elements_go m b t part into (r0 ∷ r1 ∷ rs) simple k i x p q ready here = (
  1,
  going_on m b i p q q (λ n. refl) 1 k x ready.0 ready.1 (λ now w y s grows same hold worlds.
      element_reads m b (places_fit m) t part into r0 r1 rs simple i p here now w y q s hold worlds),
)
