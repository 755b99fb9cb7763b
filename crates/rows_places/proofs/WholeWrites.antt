-- Rows that write whole values of parts and bigs.
use Rattle.rows_places.proofs.Places.{grows_same}
use Rattle.core_code.specs.Code.{Instr, Write}
use Rattle.core_code.specs.Slots.{slot, value_of}
use Rattle.core_typing.specs.Needs.{AreThese}
use Rattle.core_typing.specs.Written.{told}
use Rattle.dis_isa.specs.declared.inst.Inst.{Inst}
use Rattle.dis_meaning.specs.Process.{Printing, Process}
use Rattle.dis_meaning.specs.Words.{Found, Plain, Refer, Word, word_at}
use Rattle.dis_memory.specs.Blocks.{World}
use Rattle.limbo_kept.specs.Trees.{WayIs}
use Rattle.limbo_layout.specs.Adts.{Has}
use Rattle.limbo_meaning.specs.Exceptions.{dereference_of_nil}
use Rattle.limbo_meaning.specs.Memory.{changed, with_heap, with_variables}
use Rattle.limbo_meaning.specs.Operations.{item_of}
use Rattle.limbo_meaning.specs.Places.{Element, Global, Local, Root, Target, part_at, with_part}
use Rattle.limbo_meaning.specs.Process.{Shared}
use Rattle.limbo_meaning.specs.Values.{Value, fitted, nothing, part_of}
use Rattle.limbo_types.specs.Types.{Ty}
use Rattle.number_effects.proofs.Stepping.{steps_obey}
use Rattle.rows_places.proofs.Arrays.{array_here}
use Rattle.rows_places.proofs.Changing.{both_change}
use Rattle.rows_places.proofs.Elements.{element_place_here}
use Rattle.rows_places.proofs.Globals.{global_place, place as global_at}
use Rattle.rows_places.proofs.Words.{found_there}
use Rattle.rows_places.proofs.Going.{at_place_of, going_on}
use Rattle.rows_places.proofs.Last.{begins_at, hold_there, raised_here, reaches_here, site_now, there as process_there}
use Rattle.rows_places.proofs.Locals.{PartThere, part_there, place as local_at, root as local_root, variables_lie}
use Rattle.rows_places.proofs.Looking.{Behind, ElementSlots, element_slots, element_way}
use Rattle.rows_places.proofs.Places.{HeapPlace, place_lives, TargetIs, target_is, at_target, no_target, target_place}
use Rattle.rows_places.proofs.WholeWriting.{WholeFor, whole_for}
use Rattle.rows_places.proofs.Writing.{agrees, does_write, write_raises}
use Rattle.rows_places.specs.Rows.{ElementWholesGo, GlobalWholesGo, LocalWholesGo, TargetWholesGo, way_from}
use Rattle.rows_boxes.proofs.Typed.{is_sized, sizing}
use Rattle.rows_places.proofs.Sizing.{front_of, many_of, IsOnWay, last_there, sized_way, link}
use Rattle.rows_places.proofs.Elements.{address_later}
use Rattle.limbo_layout.specs.Layout.{limit}
use Rattle.number_effects.specs.Giving.{with_word}
use Rattle.value_follows.specs.Rows.{RowGoes}
use Rattle.rows_places.proofs.Fitting.{PlacesFit, places_fit}
use Rattle.std.proofs.Common.{Bool, true, false, List, None, Option, Some, [], ap, arith, inl, inr, length, pos, refl, subst, suc, sym, ℕ, ◌*◌, ◌+◌, ◌++◌, ◌/◌, ◌<◌, ◌∙◌, ◌∷◌, ◌≡◌, ◌≤◌, ◌⊎◌}
use Rattle.std.specs.Prelude.{Ok, slice_get, slice_set}
use Rattle.system_model.specs.Limits.{frames_limit}
use Rattle.value_code.specs.Code.{Site, code_of, put_or_zero}
use Rattle.value_code.specs.Objects.{blank_site, object_of, of_function, or_nothing, size_at}
use Rattle.value_code.specs.Operands.{adt_of}
use Rattle.value_follows.proofs.Jumps.{next_place, behind_it}
use Rattle.value_follows.proofs.Putting.{word_same}
use Rattle.value_follows.proofs.Several.{Next, moved_to}
use Rattle.value_follows.proofs.Single.{Once, both_go}
use Rattle.value_follows.proofs.Slots.{uses}
use Rattle.value_follows.proofs.Standing.{code_here, finds, same_some, stands_on}
use Rattle.value_follows.specs.Rows.{Base}
use Rattle.value_follows.specs.Sides.{HoldTheSame, sides}
use Rattle.value_follows.specs.Stands.{Awaited, GoesOn, Ready, place_of, scope, types_of}
use Rattle.value_frames.proofs.Replacing.{kinds_stay}
use Rattle.value_frames.proofs.Slots.{slots_change}
use Rattle.value_frames.specs.Frames.{Boxed, answer_place, element_place, form_of, frame_bytes, frame_references, linkage_bytes, number_place, passing_place, reference_place, room_for, row_of, spare_place, type_within}
use Rattle.value_frames.specs.Slots.{ElseAsWas}
use Rattle.value_frames.specs.Types.{AreOf}
use Rattle.value_heaps.proofs.Words.{named_by}
use Rattle.value_moves.proofs.Leading.{spots_lead}
use Rattle.value_moves.specs.Operands.{Code, behind, inst, of_own, own}
use Rattle.value_moves.specs.Writing.{Lies, Writes}
use Rattle.value_stores.proofs.Parts.{parts_lie}
use Rattle.value_stores.specs.Paths.{RowLies}
use Rattle.value_words.specs.Facts.{Facts, IsName}
use Rattle.value_words.specs.Forms.{Adts}
use Rattle.core_code.specs.Machine as code
use Rattle.core_code.specs.Slots as core
use Rattle.core_typing.specs.Held as held
use Rattle.dis_isa.specs.declared.inst.Operand as isa
use Rattle.dis_isa.specs.declared.inst.Operand.TheVariants as operand
use Rattle.dis_isa.specs.declared.op.Op.TheVariants as op
use Rattle.limbo_typed.specs.Typed as typed
use Rattle.value_frames.specs.Frames as frames

-- ---- to a place in a block

module _ (m : typed.Module) (b : Base m) (k : Facts) (i : ℕ) (w : Shared) (x : World) (p : code.Process) (q : Process) (ready : Ready m k i x p q)
    (hold : HoldTheSame m k i x p q) (worlds : (sides m).worlds k w x) (t : Ty) (root : Root) (part operands taken : List ℕ) (from : ℕ)
    (here : slice_get p.frame.code p.frame.pc ≡ Some (Write t (way_from root part) operands taken from)) (form : form_of t ≡ Boxed) (c : Bool)
    (is_so : is_sized m.adts t ≡ c)
    (pc : ℕ) (pr : Option Printing) (j : ℕ) (so_far : pc ≡ q.frame.pc + j) where
  abbrev instr : Instr
  instr = Write t (way_from root part) operands taken from

  abbrev f : typed.Function
  f = ready.stands.is.function

  abbrev values : List Value
  values = core.values_of p.frame.slots operands

  abbrev val : Value
  val = part_at taken (value_of (slot p.frame.slots from))

  abbrev at_now : Process
  at_now = process_there m b k i w x p q ready hold worlds instr here pc pr j so_far

  pub whole_here : WholeFor m b k i w x p q ready hold worlds t root part operands taken from here form c is_so pc pr j so_far
  whole_here =
      let row_is = code_here m k i x p q ready instr here in
      let found = finds m f p.frame.pc ready.stands.is.known instr ready.stands.goes row_is in
      let used = uses m k i x [] p.frame q.frame ready.stands.is p.frame.pc instr row_is in
      whole_for m b k i w x p q ready hold worlds t root part operands taken from here form c is_so pc pr j so_far used.1
      (agrees m f p.frame.pc ready.stands.is.known t root part operands taken from ready.stands.goes row_is) found.3

  goes : GoesOn m f (suc p.frame.pc) ready.stands.is.known
  goes = behind_it m b k i w x p q ready hold worlds instr here 0 (suc p.frame.pc) ready.stands.is.known (omega arith) refl

  module _ (size : size_at m f.of.answer (of_function m f) p.frame.pc (Some instr) ≡ j + 1) (o : isa.Operand) where
    abbrev is_last : Type 0
    is_last =
        (move : Inst)
        → put_or_zero (site_now m b k i w x p q ready hold worlds instr here pc pr j so_far)
        ((site_now m b k i w x p q ready hold worlds instr here pc pr j so_far).told from) t o taken from ≡ front_of c (room_for m.adts t).size ++ move ∷ []
        → begins_at m b k i w x p q ready hold worlds instr here pc pr j so_far move

    pub whole_written : IsOnWay c (room_for m.adts t).size (process_there m b k i w x p q ready hold worlds instr here pc pr j so_far)
        → HeapPlace m k i w x p q ready hold worlds pc pr root values o t part → is_last → Once m b i p at_now k w x
    whole_written so is begins =
        let puts = whole_here.puts so o is.words is.byte is.leads.0 (part_at part is.value) is.lies
        (place_lives m k i w x p q ready hold worlds pc pr root values o t part is) in
        let put = puts.2 in
        let new = with_part part (fitted m.adts t val) is.value in
        both_change m b k i w x p q ready hold worlds instr here pc pr j so_far size root values o t part is (is.becomes new) put.others
        (is.anew k grows_same put.others put.source put.from (fitted m.adts t val) put.writes put.lies) put.lives puts.0 (begins puts.0 puts.1) put.obeys
        (does_write m b k i w x p q ready hold worlds t root part operands taken from here is.value
        (with_heap (code.memory_of w p.frame) (changed w.heap is.name (is.becomes new))) is.rooted (is.rooting new))
        goes

-- ---- where the size comes first

-- a row without a look-up goes, if its last instruction does so wherever the two are ready
module _ (m : typed.Module) (b : Base m) (t : Ty) (root : Root) (part operands taken : List ℕ) (from : ℕ) (small : (room_for m.adts t).size ≤ limit)
    (i : ℕ) (p : code.Process) (here : slice_get p.frame.code p.frame.pc ≡ Some (Write t (way_from root part) operands taken from)) where
  abbrev pub InFront : Bool → Type 0
  InFront c =
      (k : Facts) (w : Shared) (x : World) (q : Process) (ready : Ready m k i x p q) (hold : HoldTheSame m k i x p q) (worlds : (sides m).worlds k w x)
      (pc : ℕ) (pr : Option Printing) (so_far : pc ≡ q.frame.pc + many_of c) → IsOnWay c (room_for m.adts t).size (at_place_of q pc pr) →
      Once m b i p (at_place_of q pc pr) k w x

  abbrev pub SizesFirst : Type 0
  SizesFirst =
      (k : Facts) (w : Shared) (x : World) (q : Process) (ready : Ready m k i x p q) (hold : HoldTheSame m k i x p q) (worlds : (sides m).worlds k w x)
      (so_far : q.frame.pc ≡ q.frame.pc + 0) →
      begins_at m b k i w x p q ready hold worlds (Write t (way_from root part) operands taken from) here q.frame.pc q.printing 0 so_far
      (sizing (room_for m.adts t).size)
      × (1 < size_at m ready.stands.is.function.of.answer (of_function m ready.stands.is.function) p.frame.pc
      (Some (Write t (way_from root part) operands taken from)))

  pub in_two : (k : Facts) (x : World) (q : Process) → (sides m).ready k i x p q → (c : Bool) → (c ≡ true → SizesFirst) → InFront c → RowGoes m k i x p q
  in_two k x q ready false first goes = (
    0,
    going_on m b i p q q (λ n. refl) 0 k x ready.0 ready.1 (λ now w y s grows same hold worlds. goes now w y q s hold worlds q.frame.pc q.printing (omega arith) tt),
  )
  in_two k x q ready true first goes = (
    1,
    going_on m b i p q q (λ n. refl) 1 k x ready.0 ready.1 (λ now w y s grows same hold worlds.
        let so_far : q.frame.pc ≡ q.frame.pc + 0 = omega arith in
        let f = first refl now w y q s hold worlds so_far in
        sized_way m b now i w y p q s hold worlds (Write t (way_from root part) operands taken from) here q.frame.pc q.printing 0 so_far
        (room_for m.adts t).size small f.0 refl f.1 0
        (λ last v z is. goes last v z (moved_to q q.frame.pc (with_word q.frame.words passing_place (Plain (pos (room_for m.adts t).size)))) is.still is.holds is.alike
        (suc q.frame.pc) None (omega arith) is.passing)),
  )

-- ---- to a variable of the function

module _ (m : typed.Module) (b : Base m) (t : Ty) (v : ℕ) (part operands taken : List ℕ) (from : ℕ) (form : form_of t ≡ Boxed) (c : Bool) (is_so : is_sized m.adts t ≡ c)
    (i : ℕ) (p : code.Process) (here : slice_get p.frame.code p.frame.pc ≡ Some (Write t (way_from (Local v) part) operands taken from))
    (k : Facts) (w : Shared) (x : World) (q : Process) (ready : Ready m k i x p q) (hold : HoldTheSame m k i x p q) (worlds : (sides m).worlds k w x) where
  abbrev write : Instr
  write = Write t (way_from (Local v) part) operands taken from

  abbrev g : typed.Function
  g = ready.stands.is.function

  abbrev ts : List Ty
  ts = types_of m g

  abbrev to : ℕ
  to = local_at m k i x p q ready v part

  abbrev root : Ty
  root = local_root m k i x p q ready v part

  abbrev many : ℕ
  many = length p.frame.slots

  module _ (there : PartThere m k i x p q ready v part t) (new : Value) (others source : List Word) (at : ℕ)
      (writes : Writes q.frame.words others to source at (room_for m.adts t).size) (lies : Lies m.adts k others to t (room_for m.adts t) new) where
    abbrev with_new : List Value
    with_new = slice_set p.frame.variables v (with_part part new there.value)

    abbrev inner : Ty
    inner = type_within m.adts root part

    writes_so : Writes q.frame.words others to source at (room_for m.adts inner).size
    writes_so = subst (λ u. Writes q.frame.words others to source at (room_for m.adts u).size) (sym there.ends) writes

    row_lies : RowLies m.adts k others linkage_bytes ts with_new
    row_lies =
        parts_lie.row_written m.adts k q.frame.words others linkage_bytes ts p.frame.variables v root part there.value new source at
        (variables_lie m k i x p q ready) there.has_type there.there there.path writes_so
        (subst (λ u. Lies m.adts k others to u (room_for m.adts u) new) (sym there.ends) lies)

    else_as_was : ElseAsWas q.frame.words others linkage_bytes (row_of m.adts ts).size
    else_as_was =
        parts_lie.row_else m.adts k q.frame.words others linkage_bytes ts p.frame.variables v root part there.value source at
        (variables_lie m k i x p q ready) there.has_type there.there there.path writes_so

    kind_stays : AreOf (frame_bytes m.adts ts many) (frame_references m.adts ts many) others
    kind_stays =
        kinds_stay.all (frame_bytes m.adts ts many) (frame_references m.adts ts many) q.frame.words others ready.stands.is.words.kind writes.many
        writes.refer writes.referred lies.whole.1

    stays : (n : ℕ) → (4 * (n / 4) + 4 ≤ linkage_bytes) ⊎ (linkage_bytes + (row_of m.adts ts).size ≤ 4 * (n / 4))
        → word_at others (pos n) ≡ word_at q.frame.words (pos n)
    stays n (inl low) = word_same q.frame.words others n (else_as_was.each (n / 4) (λ h. let a = h.0 in absurd (omega (arith, a, low))))
    stays n (inr high) = word_same q.frame.words others n (else_as_was.each (n / 4) (λ h. let a = h.1 in absurd (omega (arith, a, high))))

    abbrev behind_step : code.Process
    behind_step = code.with_frames p (code.at p.frame (suc p.frame.pc) with_new p.frame.slots) p.below

    ready_stored : (pc : ℕ) → suc pc ≡ place_of m ready.stands.is.number g (suc p.frame.pc) → GoesOn m g (suc p.frame.pc) ready.stands.is.known
        → Ready m k i x behind_step (moved_to q (suc pc) others)
    ready_stored pc next goes =
        let after_words = slots_change.variables m.adts k x.heap q.frame.serial [] ts ready.stands.is.known p.frame.variables with_new p.frame.slots
        q.frame.words others ready.stands.is.words else_as_was kind_stays row_lies.stand in
        let on = stands_on m k i x [] Awaited p q ready.stands [] (suc p.frame.pc) (suc pc) ready.stands.is.known with_new p.frame.slots others q.made
        refl after_words.0 (λ s c h. ready.stands.is.mine s c (subst (λ (own : ℕ → List ℕ). Has (own s) c) after_words.1 h)) goes
        (stays answer_place (inl (omega arith))) in
        record {
          stands = on.stands;
          pc = next
              ∙ sym (ap (λ n. place_of m n on.stands.is.function (suc p.frame.pc)) on.number
              ∙ ap (λ h. place_of m ready.stands.is.number h (suc p.frame.pc)) on.function);
          spare = ap (λ h. word_at others (pos (spare_place m.adts (types_of m h)))) on.function
              ∙ stays (spare_place m.adts ts) (inr (omega arith)) ∙ ready.spare;
          none_made = ready.none_made;
        }

  module _ (pc : ℕ) (pr : Option Printing) (so_far : pc ≡ q.frame.pc + many_of c) where
    abbrev for_it : WholeFor m b k i w x p q ready hold worlds t (Local v) part operands taken from here form c is_so pc pr (many_of c) so_far
    for_it = whole_here m b k i w x p q ready hold worlds t (Local v) part operands taken from here form c is_so pc pr (many_of c) so_far

    local_written : IsOnWay c (room_for m.adts t).size (at_place_of q pc pr) → Once m b i p (at_place_of q pc pr) k w x
    local_written so =
        let row_is = code_here m k i x p q ready write here in
        let found = finds m g p.frame.pc ready.stands.is.known write ready.stands.goes row_is in
        let there = part_there m k i x p q ready v part found.0 t found.2 in
        let at_now = at_place_of q pc pr in
        let lead = spots_lead.own x at_now to in
        let puts = for_it.puts so (own to) q.frame.words to lead.0 (part_at part there.value) there.lies
        (λ u wd e. let named = named_by q.frame.words wd u e in hold.same.live u (hold.same.roots u (omega (arith, named)))) in
        let put = puts.2 in
        let val = part_at taken (value_of (slot p.frame.slots from)) in
        let store = code.memory_of w p.frame in
        let new = with_part part (fitted m.adts t val) there.value in
        let size = for_it.long (own to) in
        let next = next_place m b k i w x p q ready hold worlds write here (suc (many_of c)) size in
        both_go m b i p at_now k w x (hold_there m b k i w x p q ready hold worlds write here pc pr (many_of c) so_far) worlds
        (behind_step there (fitted m.adts t val) put.others put.source put.from put.writes put.lies)
        (moved_to q (suc pc) put.others)
        (steps_obey.stores frames_limit (object_of m ∷ []) x at_now (object_of m) puts.0 x lead.0.place put.others _
        (reaches_here m b k i w x p q ready hold worlds write here pc pr (many_of c) so_far puts.0
        (ap (λ (l : Code). slice_get l (many_of c)) puts.1 ∙ last_there c (room_for m.adts t).size puts.0))
        put.obeys (lead.1 put.others))
        (does_write m b k i w x p q ready hold worlds t (Local v) part operands taken from here there.value
        (with_variables store (slice_set p.frame.variables v new))
        (ap (λ (u : Value). Ok u) (found_there p.frame.variables v nothing there.value there.there).1) refl)
        (ready_stored there (fitted m.adts t val) put.others put.source put.from put.writes put.lies pc
        (omega (arith, next, so_far))
        (behind_it m b k i w x p q ready hold worlds write here 0 (suc p.frame.pc) ready.stands.is.known (omega arith) refl))

pub local_wholes_go : LocalWholesGo
local_wholes_go m b t v part operands taken from whole k i x p q ready here =
    let c = is_sized m.adts t in
    in_two m b t (Local v) part operands taken from whole.1 i p here k x q ready c
    (λ e now w y r s hold worlds so_far.
    let for_it = whole_here m b now i w y p r s hold worlds t (Local v) part operands taken from here whole.0 true e r.frame.pc r.printing 0 so_far in
    let o = own (local_at m now i y p r s v part) in (
      ap (λ (l : Code). slice_get l 0) (for_it.code o).1,
      (let long = for_it.long o in subst (λ n. 1 < n) (sym long) (omega arith)),
    ))
    (λ now w y r s hold worlds pc pr so_far so.
    local_written m b t v part operands taken from whole.0 c refl i p here now w y r s hold worlds pc pr so_far so)

-- ---- to a variable of the module

pub global_wholes_go : GlobalWholesGo
global_wholes_go m b t v part operands taken from whole k i x p q ready here =
    let c = is_sized m.adts t in
    in_two m b t (Global v) part operands taken from whole.1 i p here k x q ready c
    (λ e now w y r s hold worlds so_far.
    let for_it = whole_here m b now i w y p r s hold worlds t (Global v) part operands taken from here whole.0 true e r.frame.pc r.printing 0 so_far in
    let o = operand.Mp (pos (global_at m now i w y p r s hold worlds r.frame.pc r.printing v part)) in (
      ap (λ (l : Code). slice_get l 0) (for_it.code o).1,
      (let long = for_it.long o in subst (λ n. 1 < n) (sym long) (omega arith)),
    ))
    (λ now w y r s hold worlds pc pr so_far so.
    let instr = Write t (way_from (Global v) part) operands taken from in
    let f = s.stands.is.function in
    let found = finds m f p.frame.pc s.stands.is.known instr s.stands.goes (code_here m now i y p r s instr here) in
    let values = core.values_of p.frame.slots operands in
    let o = operand.Mp (pos (global_at m now i w y p r s hold worlds pc pr v part)) in
    let for_it = whole_here m b now i w y p r s hold worlds t (Global v) part operands taken from here whole.0 c refl pc pr (many_of c) so_far in
    whole_written m b now i w y p r s hold worlds t (Global v) part operands taken from here whole.0 c refl pc pr (many_of c) so_far
    (for_it.long o ∙ (let e : suc (many_of c) ≡ many_of c + 1 = omega arith in e)) o so
    (global_place m now i w y p r s hold worlds pc pr v part found.0 t found.2 values)
    (λ move e. ap (λ (l : Code). slice_get l (many_of c)) e ∙ last_there c (room_for m.adts t).size move))

-- ---- to what a reference names

module _ (m : typed.Module) (b : Base m) (fit : PlacesFit m) (t : Ty) (part : List ℕ) (r0 : ℕ) (rs taken : List ℕ) (from : ℕ) (form : form_of t ≡ Boxed) (c : Bool)
    (is_so : is_sized m.adts t ≡ c)
    (i : ℕ) (p : code.Process) (here : slice_get p.frame.code p.frame.pc ≡ Some (Write t (way_from Target part) (r0 ∷ rs) taken from))
    (k : Facts) (w : Shared) (x : World) (q : Process) (ready : Ready m k i x p q) (hold : HoldTheSame m k i x p q) (worlds : (sides m).worlds k w x)
    (pc : ℕ) (pr : Option Printing) (j : ℕ) (so_far_0 : pc ≡ q.frame.pc + j) where
  abbrev t_instr : Instr
  t_instr = Write t (way_from Target part) (r0 ∷ rs) taken from

  abbrev t_f : typed.Function
  t_f = ready.stands.is.function

  abbrev t_real : Site
  t_real = site_now m b k i w x p q ready hold worlds t_instr here pc pr j so_far_0

  abbrev for_target : WholeFor m b k i w x p q ready hold worlds t Target part (r0 ∷ rs) taken from here form c is_so pc pr j so_far_0
  for_target = whole_here m b k i w x p q ready hold worlds t Target part (r0 ∷ rs) taken from here form c is_so pc pr j so_far_0

  module _ (us : List Ty) (is : WayIs (scope m t_f) (way_from Target part) us t) (below : r0 < length p.frame.slots) (these : AreThese ready.stands.is.known (r0 ∷ rs) us)
      (target : TargetIs m k i w x p q ready hold worlds pc pr part us t is r0 rs below these)
      (same : or_nothing (told (of_function m t_f).code p.frame.pc r0) ≡ target.type) where
    abbrev to_there : (c : Site) → isa.Operand
    to_there c = behind (reference_place c.scene.adts c.scene.variables r0) (frames.within c.scene.adts (adt_of c.scene (c.told r0)) part)

    abbrev leads_by : isa.Operand
    leads_by = at_target m k i w x p q ready hold worlds pc pr part us t is r0 rs below these target.type

    d_is : to_there t_real ≡ leads_by
    d_is = ap (λ u. behind (reference_place m.adts (types_of m t_f) r0) (frames.within m.adts (adt_of t_real.scene u) part)) same

    begins : j ≡ many_of c → (move : Inst) → put_or_zero t_real (t_real.told from) t leads_by taken from ≡ front_of c (room_for m.adts t).size ++ move ∷ []
        → slice_get (code_of t_real t_instr) j ≡ Some move
    begins is_j move e =
        ap (λ (l : Code). slice_get l j) (ap (λ c. put_or_zero t_real (t_real.told from) t c taken from) d_is ∙ e)
        ∙ ap (λ n. slice_get (front_of c (room_for m.adts t).size ++ move ∷ []) n) is_j ∙ last_there c (room_for m.adts t).size move

    target_stored : j ≡ many_of c → IsOnWay c (room_for m.adts t).size (at_place_of q pc pr) → Once m b i p (at_place_of q pc pr) k w x
    target_stored is_j so = go target.ref.refers target.ref.name refl refl target.ref.named
      where
        go : (r n : Option ℕ) → target.ref.refers ≡ r → target.ref.name ≡ n → IsName k (Some (Adts is.begins.0)) r n → Once m b i p (at_place_of q pc pr) k w x
        go None None e g h =
            let stop = for_target.stops so (reference_place m.adts (types_of m t_f) r0) (frames.within m.adts (adt_of t_real.scene target.type) part)
            (target.ref.word ∙ ap (λ (o : Option ℕ). Found (Refer o)) e) in
            raised_here m b k i w x p q ready hold worlds t_instr here pc pr j so_far_0 stop.0 (begins is_j stop.0 stop.1) dereference_of_nil stop.2
            (write_raises m b k i w x p q ready hold worlds t Target part (r0 ∷ rs) taken from here dereference_of_nil
            (no_target m k i w x p q ready hold worlds pc pr part us t is r0 rs below these target g))
        go (Some d) (Some n) e g h =
            whole_written m b k i w x p q ready hold worlds t Target part (r0 ∷ rs) taken from here form c is_so pc pr j so_far_0
            (for_target.long (to_there (blank_site m t_f.of.answer (of_function m t_f) p.frame.pc)) ∙ (let e : suc (many_of c) ≡ j + 1 = omega (arith, is_j) in e))
            leads_by so (target_place m k i w x p q ready hold worlds pc pr part us t is r0 rs below these target d n e g) (begins is_j)
        go None (Some n) e g h = absurd h
        go (Some d) None e g h = absurd h

  target_written : j ≡ many_of c → IsOnWay c (room_for m.adts t).size (at_place_of q pc pr) → Once m b i p (at_place_of q pc pr) k w x
  target_written is_j so =
      let row_is = code_here m k i x p q ready t_instr here in
      let found = finds m t_f p.frame.pc ready.stands.is.known t_instr ready.stands.goes row_is in
      let used = uses m k i x [] p.frame q.frame ready.stands.is p.frame.pc t_instr row_is in
      let target = target_is m k i w x p q ready hold worlds pc pr part found.0 t found.2 r0 rs used.0.0 found.1 in
      let told_is = (fit.operands t_f p.frame.pc ready.stands.is.known t_instr ready.stands.goes row_is).0 in
      target_stored found.0 found.2 used.0.0 found.1 target
      (ap or_nothing told_is.2 ∙ same_some told_is.0 target.type (sym told_is.1 ∙ target.known)) is_j so

pub target_wholes_go : TargetWholesGo
target_wholes_go m b t part [] taken from whole k i x p q ready here =
    let r = ready.0 in
    let instr = Write t (way_from Target part) [] taken from in
    absurd ((places_fit m).operands r.stands.is.function p.frame.pc r.stands.is.known instr r.stands.goes (code_here m k i x p q r instr here)).0
target_wholes_go m b t part (r0 ∷ rs) taken from whole k i x p q ready here =
    let c = is_sized m.adts t in
    in_two m b t Target part (r0 ∷ rs) taken from whole.1 i p here k x q ready c
    (λ e now w y r s hold worlds so_far.
    let for_it = whole_here m b now i w y p r s hold worlds t Target part (r0 ∷ rs) taken from here whole.0 true e r.frame.pc r.printing 0 so_far in
    let f = s.stands.is.function in
    let real = site_now m b now i w y p r s hold worlds (Write t (way_from Target part) (r0 ∷ rs) taken from) here r.frame.pc r.printing 0 so_far in
    let blank = blank_site m f.of.answer (of_function m f) p.frame.pc in
    let to_there : Site → isa.Operand =
    λ c. behind (reference_place c.scene.adts c.scene.variables r0) (frames.within c.scene.adts (adt_of c.scene (c.told r0)) part) in (
      ap (λ (l : Code). slice_get l 0) (for_it.code (to_there real)).1,
      (let long = for_it.long (to_there blank) in subst (λ n. 1 < n) (sym long) (omega arith)),
    ))
    (λ now w y r s hold worlds pc pr so_far so.
    target_written m b (places_fit m) t part r0 rs taken from whole.0 c refl i p here now w y r s hold worlds pc pr (many_of c) so_far refl so)

-- ---- to an element

module _ (m : typed.Module) (b : Base m) (fit : PlacesFit m) (t : Ty) (part : List ℕ) (r0 r1 : ℕ) (rs taken : List ℕ) (from : ℕ) (form : form_of t ≡ Boxed) (c : Bool)
    (is_so : is_sized m.adts t ≡ c) (small : (room_for m.adts t).size ≤ limit)
    (i : ℕ) (p : code.Process) (here : slice_get p.frame.code p.frame.pc ≡ Some (Write t (way_from Element part) (r0 ∷ r1 ∷ rs) taken from)) where
  abbrev store_it : Instr
  store_it = Write t (way_from Element part) (r0 ∷ r1 ∷ rs) taken from

  abbrev looks : (c : Site) → Inst
  looks c =
      inst op.Indx (own (reference_place c.scene.adts c.scene.variables r0)) (of_own element_place)
      (own (number_place c.scene.adts c.scene.variables r1))

  module _ (k : Facts) (w : Shared) (x : World) (q : Process) (ready : Ready m k i x p q) (hold : HoldTheSame m k i x p q) (worlds : (sides m).worlds k w x) where
    abbrev e_f : typed.Function
    e_f = ready.stands.is.function

    abbrev known : held.Slots
    known = ready.stands.is.known

    module _ (item : Ty) (slots : ElementSlots m e_f known p.frame.pc r0 r1 part t item) (below0 : r0 < length p.frame.slots) (others : List Word) where
      element_stored : (last : Facts) (v : Shared) (y : World)
          → Behind m b k i w x p q ready hold worlds store_it here r0 r1 (core.values_of p.frame.slots rs) part t item others last v y
          → (pc : ℕ) → pc ≡ q.frame.pc + suc (many_of c) → IsOnWay c (room_for m.adts t).size (moved_to q pc others)
          → Once m b i p (moved_to q pc others) last v y
      element_stored last v y be pc so_far' so =
          let q' = moved_to q q.frame.pc others in
          let s = be.still in
          let h = s.stands.is.function in
          let slots' = subst (λ c. ElementSlots m c s.stands.is.known p.frame.pc r0 r1 part t item) (sym be.function)
          (subst (λ kn. ElementSlots m e_f kn p.frame.pc r0 r1 part t item) (sym be.known_so) slots) in
          let a = array_here m last i v y p q' s be.holds be.alike pc None r0 item below0 (slots'.type, slots'.has_type, slots'.array) in
          let some = sym (ap part_of a.holds ∙ a.array.is) ∙ be.array in
          let place = element_place_here m last i v y p q' s be.holds be.alike pc None fit r0 item a be.whole some be.z be.h be.index be.address
          (core.value_of (core.slot p.frame.slots r0)) (core.value_of (core.slot p.frame.slots r1)) (core.values_of p.frame.slots rs) be.array be.number
          part t slots'.path slots'.ends in
          let real = site_now m b last i v y p q' s be.holds be.alike store_it here pc None (suc (many_of c)) so_far' in
          let blank = blank_site m h.of.answer (of_function m h) p.frame.pc in
          let told_is : real.told r0 ≡ a.type = slots'.tells ∙ same_some slots'.type a.type (sym slots'.has_type ∙ a.known) in
          let is_item : item_of (real.told r0) ≡ item = ap item_of told_is ∙ a.array.item be.whole some in
          let d = behind element_place (frames.within m.adts (item_of (real.told r0)) part) in
          let o = behind element_place (frames.within m.adts item part) in
          let d_is : d ≡ o = ap (λ u. behind element_place (frames.within m.adts u part)) is_item in
          let for_it = whole_here m b last i v y p q' s be.holds be.alike t Element part (r0 ∷ r1 ∷ rs) taken from here form c is_so pc None (suc (many_of c)) so_far' in
          whole_written m b last i v y p q' s be.holds be.alike t Element part (r0 ∷ r1 ∷ rs) taken from here form c is_so pc None (suc (many_of c)) so_far'
          (ap suc (for_it.long (behind element_place (frames.within m.adts (item_of (blank.told r0)) part)))
          ∙ (let n : suc (suc (many_of c)) ≡ suc (many_of c) + 1 = omega arith in n)) o so place
          (λ move e.
          ap (λ (l : Code). slice_get (looks real ∷ l) (suc (many_of c))) (ap (λ c. put_or_zero real (real.told from) t c taken from) d_is ∙ e)
          ∙ last_there c (room_for m.adts t).size move)

    element_written : Next m b i p (suc (many_of c)) k w x q
    element_written =
        let row_is = code_here m k i x p q ready store_it here in
        let found = finds m e_f p.frame.pc known store_it ready.stands.goes row_is in
        let used = uses m k i x [] p.frame q.frame ready.stands.is p.frame.pc store_it row_is in
        let operands = (fit.operands e_f p.frame.pc known store_it ready.stands.goes row_is).0 in
        let slots = element_slots m e_f known p.frame.pc r0 r1 part t found.0 (r1 ∷ rs) found.1 found.2 operands.0 operands.1 in
        let blank = blank_site m e_f.of.answer (of_function m e_f) p.frame.pc in
        let so_far_0 : q.frame.pc ≡ q.frame.pc + 0 = omega arith in
        let for_it = whole_here m b k i w x p q ready hold worlds t Element part (r0 ∷ r1 ∷ rs) taken from here form c is_so q.frame.pc q.printing 0 so_far_0 in
        let size : size_at m e_f.of.answer (of_function m e_f) p.frame.pc (Some store_it) ≡ suc (suc (many_of c)) =
        ap suc (for_it.long (behind element_place (frames.within m.adts (item_of (blank.told r0)) part))) in
        element_way m b k i w x p q ready hold worlds store_it here r0 r1 (core.values_of p.frame.slots rs) part t found.2.root slots used.0.0 used.0.1.0
        refl (subst (λ n. 1 < n) (sym size) (omega arith)) refl
        (write_raises m b k i w x p q ready hold worlds t Element part (r0 ∷ r1 ∷ rs) taken from here) (many_of c)
        (λ others last v y be. further found.2.root slots used.0.0 others last v y be c refl)
      where
        further : (item : Ty) → ElementSlots m e_f known p.frame.pc r0 r1 part t item → r0 < length p.frame.slots → (others : List Word) (last : Facts) (v : Shared) (y : World)
            → Behind m b k i w x p q ready hold worlds store_it here r0 r1 (core.values_of p.frame.slots rs) part t item others last v y
            → (d : Bool) → c ≡ d → Next m b i p (many_of d) last v y (moved_to q (suc q.frame.pc) others)
        further item slots below0 others last v y be false e =
            element_stored item slots below0 others last v y be (suc q.frame.pc)
            (let one : suc q.frame.pc ≡ q.frame.pc + 1 = omega arith in one ∙ ap (λ z. q.frame.pc + suc (many_of z)) (sym e))
            (subst (λ z. IsOnWay z (room_for m.adts t).size (moved_to q (suc q.frame.pc) others)) (sym e) tt)
        further item slots below0 others last v y be true e =
            let q' = moved_to q q.frame.pc others in
            let bytes = (room_for m.adts t).size in
            let s = be.still in
            let h = s.stands.is.function in
            let so_far' : suc q.frame.pc ≡ q'.frame.pc + 1 = omega arith in
            let for_it = whole_here m b last i v y p q' s be.holds be.alike t Element part (r0 ∷ r1 ∷ rs) taken from here form true (is_so ∙ e) (suc q.frame.pc) None 1 so_far' in
            let real = site_now m b last i v y p q' s be.holds be.alike store_it here (suc q.frame.pc) None 1 so_far' in
            let blank = blank_site m h.of.answer (of_function m h) p.frame.pc in
            let code = for_it.code (behind element_place (frames.within m.adts (item_of (real.told r0)) part)) in
            let size : size_at m h.of.answer (of_function m h) p.frame.pc (Some store_it) ≡ 3 =
            ap suc (for_it.long (behind element_place (frames.within m.adts (item_of (blank.told r0)) part))) in
            let sized_words = with_word others passing_place (Plain (pos bytes)) in
            let linked = link m b last i v y p q' s be.holds be.alike store_it here (suc q.frame.pc) None 1 so_far' bytes small in
            sized_way m b last i v y p q' s be.holds be.alike store_it here (suc q.frame.pc) None 1 so_far' bytes small
            (ap (λ (l : Code). slice_get (looks real ∷ l) 1) code.1) refl (subst (λ n. 2 < n) (sym size) (omega arith)) 0
            (λ now w' z is.
            element_stored item slots below0 sized_words now w' z (record {
              still = is.still;
              function = is.function ∙ be.function;
              known_so = is.known ∙ be.known_so;
              holds = is.holds;
              alike = is.alike;
              whole = be.whole;
              array = be.array;
              z = be.z;
              number = be.number;
              h = be.h;
              index = be.index;
              address = address_later m last now sized_words be.whole item be.h is.grows (record {
                block = be.address.block;
                byte = be.address.byte;
                named = be.address.named;
                word = word_same others sized_words element_place (linked.changes.words (element_place / 4) (inr (omega arith))) ∙ be.address.word;
                is = be.address.is;
              });
            }) (suc (suc q.frame.pc))
            (let two : suc (suc q.frame.pc) ≡ q.frame.pc + 2 = omega arith in two ∙ ap (λ z. q.frame.pc + suc (many_of z)) (sym e))
            (subst (λ z. IsOnWay z (room_for m.adts t).size (moved_to q (suc (suc q.frame.pc)) sized_words)) (sym e) is.passing))

pub element_wholes_go : ElementWholesGo
element_wholes_go m b t part [] taken from whole k i x p q ready here =
    let r = ready.0 in
    let instr = Write t (way_from Element part) [] taken from in
    absurd ((places_fit m).operands r.stands.is.function p.frame.pc r.stands.is.known instr r.stands.goes (code_here m k i x p q r instr here)).0
element_wholes_go m b t part (r0 ∷ []) taken from whole k i x p q ready here =
    let r = ready.0 in
    let instr = Write t (way_from Element part) (r0 ∷ []) taken from in
    absurd ((places_fit m).operands r.stands.is.function p.frame.pc r.stands.is.known instr r.stands.goes (code_here m k i x p q r instr here)).0
element_wholes_go m b t part (r0 ∷ r1 ∷ rs) taken from whole k i x p q ready here = (
  suc (many_of (is_sized m.adts t)),
  going_on m b i p q q (λ n. refl) (suc (many_of (is_sized m.adts t))) k x ready.0 ready.1 (λ now w y s grows same hold worlds.
      element_written m b (places_fit m) t part r0 r1 rs taken from whole.0 (is_sized m.adts t) refl whole.1 i p here now w y q s hold worlds),
)
