-- A reference of a value that has a record of its own goes: the slot has another record then, without that reference.
use Rattle.std.proofs.Common.{◌≡◌, ℕ, zero, suc, pos, ◌+◌, ◌/◌, ◌<◌, Bool, true, false, List, [], ◌∷◌, ◌++◌, length, Option, Some, None}
use Rattle.std.proofs.Common.{refl, sym, ap, ◌∙◌, subst, arith, inl, inr}
use Rattle.std.specs.Prelude.{slice_get, slice_set, slice_index_or, nat_eq, if◌then◌else◌}
use Rattle.std.proofs.lemmas.Bool.Decides.{eqb_tells}
use Rattle.process_model.specs.Process.{Went}
use Rattle.process_ways.specs.Ways.{Does, Way}
use Rattle.process_ways.proofs.On.{silent, stepped}
use Rattle.system_model.specs.Limits.{frames_limit}
use Rattle.heap_model.specs.Heap.{at, there}
use Rattle.heap_model.specs.Facts.{Fact, IsInner, IsFree, Covers}
use Rattle.limbo_types.specs.Types as ty
use Rattle.limbo_types.specs.Types.{Ty}
use Rattle.limbo_layout.specs.Adts.{Def, Has}
use Rattle.limbo_layout.specs.Layout.{Laid}
use Rattle.limbo_typed.specs.Typed as typed
use Rattle.limbo_meaning.specs.Process.{Shared}
use Rattle.limbo_meaning.specs.Values.{Value, references}
use Rattle.core_code.specs.Code.{Instr, Drop}
use Rattle.core_code.specs.Machine as code
use Rattle.core_code.specs.Slots as core
use Rattle.core_code.specs.Slots.{Holds}
use Rattle.core_code.specs.Terms.{count_of}
use Rattle.core_follows.proofs.Drops.{without_references}
use Rattle.core_follows.proofs.Slots.{put_same}
use Rattle.core_typing.specs.Held as held
use Rattle.core_typing.specs.Held.{Of, type_held}
use Rattle.dis_isa.specs.declared.inst.Inst.{Inst}
use Rattle.dis_isa.specs.declared.inst.Operand as isa
use Rattle.dis_isa.specs.declared.inst.Operand.TheVariants as operand
use Rattle.dis_isa.specs.declared.inst.Middle.TheVariants as middle
use Rattle.dis_isa.specs.declared.op.Op.TheVariants as op
use Rattle.dis_meaning.specs.Words.{Word, Refer, Found, word_at}
use Rattle.dis_meaning.specs.Process.{Process}
use Rattle.dis_memory.specs.Blocks.{Block, Record, World}
use Rattle.value_words.specs.Facts.{Facts}
use Rattle.value_words.proofs.Bytes.{word_found}
use Rattle.value_words.proofs.Rows.{set_other}
use Rattle.value_roots.specs.Accounts.{Accounted, to_value, to_inner}
use Rattle.value_frames.specs.Frames.{Boxed, form_of, room_for, box_bytes, spare_place, reference_place, names_at}
use Rattle.value_frames.specs.Standing.{NamesOnly}
use Rattle.value_frames.specs.Slots.{OneSlotChanged}
use Rattle.value_frames.specs.Types.{AreOf}
use Rattle.value_frames.proofs.Slots.{put_long}
use Rattle.value_moves.specs.Operands.{Code, inst, own, behind, moved, moved_by, has_references, has_some}
use Rattle.value_moves.specs.Spots.{Leads}
use Rattle.value_moves.proofs.Leading.{spots_lead}
use Rattle.value_moves.proofs.Marked.{some_there}
use Rattle.value_code.specs.Data.{nil_word, OfRecord}
use Rattle.value_code.specs.Objects.{object_of, of_function, blank_site, or_nothing, told_at, type_number}
use Rattle.value_code.specs.Code.{Site, code_of, let_one_go}
use Rattle.value_code.proofs.Having.{objects_have}
use Rattle.number_effects.specs.Giving.{StoresWord}
use Rattle.number_effects.proofs.Records.{words_move}
use Rattle.dis_memory.specs.Step.{obey}
use Rattle.number_effects.specs.Stepping.{Reaches}
use Rattle.value_follows.specs.Stands.{types_of, place_of, Awaited, GoesOn, Ready}
use Rattle.value_follows.specs.Sides.{sides, HoldTheSame, program}
use Rattle.value_follows.specs.Rows.{Base, place, AreThere}
use Rattle.value_follows.proofs.Standing.{StandsOn, same_some, goes_behind, finds, code_here as code_of_it}
use Rattle.value_follows.proofs.RootedValues.{has_at, each_accounted}
use Rattle.value_follows.proofs.Slots.{uses}
use Rattle.value_follows.proofs.Waiting.{stands_anew}
use Rattle.rows_dropping.proofs.Dropping.{DropGoes, agrees}
use Rattle.rows_dropping.proofs.Spare.{OnWay, Changed, keeps_others}
use Rattle.rows_dropping.proofs.Making.{mine_accounted, holds, new_worlds, new_changes, told_worlds, told_changes, told_so}
use Rattle.rows_dropping.proofs.Sparing.{Spares, spares_later, new_words, new_bare, new_kind, record_desc, new_steps, new_spares, world_then, facts_then, process_then}
use Rattle.rows_dropping.proofs.Sparing.{world_filled, process_filled, way_filled, mine_filled, worlds_filled, changes_filled, fill_steps, leads_in}
use Rattle.rows_dropping.proofs.Boxes.{Boxes, boxes_later, room_in, lies_in, boxes_cover, moved_boxes, moved_refers, less, less_boxes, offset, offset_there, fewer}
use Rattle.rows_dropping.proofs.Boxed.{BoxIs, box_is, inner_there, named_by_process}
use Rattle.rows_dropping.proofs.Back.{facts_back, process_back, back_steps, back_change, back_told, back_spare, back_answer, back_slot, back_own}
use Rattle.rows_dropping.proofs.Steps.{size, in_code, place_mid, place_next, rank_behind, row, at_site, reaches_it, on_way}
use Rattle.rows_dropping.proofs.Tidying.{Tidies, tidies_way, tidies_hold, nil_read}
use Rattle.rows_dropping.proofs.Typed.{Moves, type_moves}
use Rattle.rows_dropping.proofs.Still.{ready_still}

-- ---- references of a value without one of them

same_number : (n l : ℕ) → nat_eq n l ≡ true → n ≡ l
same_number n l e = elim (eqb_tells n l) [ inl y ↦ y.1 | inr y ↦ absurd (let g = y.0 in cc) ]

left_so : (n j l : ℕ) (live rest : List ℕ) (b : Bool) → nat_eq n l ≡ b → (j ≡ n → ⊥) → held.Has (l ∷ live) j → (held.Has live j → held.Has rest j)
    → held.Has (if b then rest else l ∷ rest) j
left_so n j l live rest true e ne (inl f) next = absurd (let g = same_number n l e in ne (sym f ∙ sym g))
left_so n j l live rest true e ne (inr f) next = next f
left_so n j l live rest false e ne (inl f) next = inl f
left_so n j l live rest false e ne (inr f) next = inr (next f)

pub other_left : (n j : ℕ) (live : List ℕ) → (j ≡ n → ⊥) → held.Has live j → held.Has (held.without n live) j
other_left n j [] ne h = absurd h
other_left n j (l ∷ live) ne h = left_so n j l live (held.without n live) (nat_eq n l) refl ne h (other_left n j live ne)

set_none : (rs : List (Option ℕ)) (n c : ℕ) → slice_get (slice_set rs n None) n ≡ Some (Some c) → ⊥
set_none [] zero c e = absurd cc
set_none [] (suc n) c e = absurd cc
set_none (r ∷ rs) zero c e = absurd cc
set_none (r ∷ rs) (suc n) c e = set_none rs n c e

pub names_less : (live : List ℕ) (v : Value) (n : ℕ) → NamesOnly live v → NamesOnly (held.without n live) (core.without n v)
names_less live v n names j c e =
    let f = sym (ap (λ rs. slice_get rs j) (without_references n v)) ∙ e in
    elim (eqb_tells j n) [
      | inl y ↦ absurd (set_none (references v) n c (subst (λ a. slice_get (slice_set (references v) n None) a ≡ Some (Some c)) y.1 f))
      | inr y ↦ other_left n j live y.1 (names j c (sym (set_other (references v) n j None y.1) ∙ f))
    ]

-- ---- the code

has_one : (os : List ℕ) (o : ℕ) → Has os o → has_some os ≡ true
has_one [] o h = absurd h
has_one (p ∷ os) o h = refl

moved_typed : (defs : List Def) (t : Ty) (n : ℕ) (a b : isa.Operand) → form_of t ≡ Boxed → has_references defs t ≡ true
    → moved defs t n a b ≡ inst op.Movmp a (middle.Imm (pos n)) b ∷ []
moved_typed defs ty.Big n a b e h = absurd cc
moved_typed defs (ty.Tuple ts) n a b e h =
    ap (λ (c : Bool). moved_by c n (room_for defs (ty.Tuple ts)).size a b) h
moved_typed defs (ty.Adt k) n a b e h =
    ap (λ (c : Bool). moved_by c n (room_for defs (ty.Adt k)).size a b) h
moved_typed defs t n a b e h = absurd cc

module _ (c : Site) (r n : ℕ) (t : Ty) where
  abbrev type_at : ℕ
  type_at = c.type_number (OfRecord t)

  abbrev spare_in : ℕ
  spare_in = spare_place c.scene.adts c.scene.variables

  abbrev slot_in : ℕ
  slot_in = reference_place c.scene.adts c.scene.variables r

  abbrev pub row_code : Code
  row_code =
      inst op.New (operand.Imm (pos type_at)) middle.None (own spare_in)
      ∷ inst op.Movmp (behind slot_in 0) (middle.Imm (pos type_at)) (behind spare_in 0)
      ∷ inst op.Movp nil_word middle.None (behind spare_in (slice_index_or (names_at c.scene.adts t) n 0))
      ∷ inst op.Movp (own spare_in) middle.None (own slot_in)
      ∷ inst op.Movp nil_word middle.None (own spare_in)
      ∷ []

  row_is : c.told r ≡ t → form_of t ≡ Boxed → has_references c.scene.adts t ≡ true → code_of c (Drop r n) ≡ row_code
  row_is told form refs =
      ap (λ u. let_one_go c (form_of u) u r n) told
      ∙ ap (λ f. let_one_go c f t r n) form
      ∙ ap (λ (l : Code). inst op.New (operand.Imm (pos type_at)) middle.None (own spare_in)
      ∷ l ++ (inst op.Movp nil_word middle.None (behind spare_in (slice_index_or (names_at c.scene.adts t) n 0))
      ∷ inst op.Movp (own spare_in) middle.None (own slot_in) ∷ inst op.Movp nil_word middle.None (own spare_in) ∷ []))
      (moved_typed c.scene.adts t type_at (behind slot_in 0) (behind spare_in 0) form refs)

-- ---- the row

module _ (m : typed.Module) (b : Base m) (i : ℕ) (p : code.Process) (r n : ℕ) (here : slice_get p.frame.code p.frame.pc ≡ Some (Drop r n))
    (t : Ty) (form : form_of t ≡ Boxed) (known : held.Slots) (known_so : type_held (held.slot known r) ≡ Some t)
    (laid : Laid m.adts t (room_for m.adts t)) (few : n < count_of m.adts t) (refs : has_references m.adts t ≡ true) (v : Value)
    (holds_v : core.slot p.frame.slots r ≡ Holds v) (live : List ℕ) (live_so : held.slot known r ≡ Of t live) (names : NamesOnly live v)
    (below : r < length p.frame.slots) where
  abbrev instr : Instr
  instr = Drop r n

  abbrev v_less : Value
  v_less = core.without n v

  abbrev Boxes_of : Value → Facts → List Word → Type 0
  Boxes_of u k ws = Boxes m.adts t k ws u

  module _ (far : ℕ) (k : Facts) (x : World) (q : Process) (s : OnWay m i p known [] far k x q) where
    abbrev f : typed.Function
    f = s.stands.is.function

    abbrev code_here : slice_get (of_function m f).code p.frame.pc ≡ Some instr
    code_here = in_code m b i p instr here known [] far k x q s

    known_here : type_held (held.slot s.stands.is.known r) ≡ Some t
    known_here = ap (λ (h : held.Slots). type_held (held.slot h r)) s.known_so ∙ known_so

    told_here : told_at m f.of.answer (of_function m f) p.frame.pc r ≡ t
    told_here =
        let told = agrees m f p.frame.pc s.stands.is.known instr s.stands.goes code_here in
        ap or_nothing told.2 ∙ same_some told.0 t (sym told.1 ∙ known_here)

    pub long : size m b i p instr here known [] far k x q s ≡ 5
    long = ap (λ (l : Code). length l) (row_is (blank_site m f.of.answer (of_function m f) p.frame.pc) r n t told_here form refs)

    pub type_so : slice_get (object_of m).types (type_number m (OfRecord t)) ≡ Some (record_desc m.adts t)
    type_so =
        let all = objects_have.types m s.stands.is.number f p.frame.pc instr (OfRecord (told_at m f.of.answer (of_function m f) p.frame.pc r))
        s.stands.is.there code_here (inl refl) in
        subst (λ u. slice_get (object_of m).types (type_number m (OfRecord u)) ≡ Some (record_desc m.adts u)) told_here all

    module _ (w : Shared) (hold : HoldTheSame m k i x p q) (worlds : (sides m).worlds k w x) where
      pub live_then : (y : World) (u : Process) → (sides m).code.step x q ≡ Went y u → AreThere m y u
      live_then y u e = b.there_again x y q u e worlds.0.closed (λ c h. hold.same.live c (hold.same.roots c h))

      abbrev pub at_row_code : Code
      at_row_code = row_code (at_site m b i p instr here known [] far k x q s w hold worlds) r n t

      pub reaches_row : (e : Inst) → slice_get at_row_code far ≡ Some e → Reaches (object_of m ∷ []) x q (object_of m) e
      reaches_row e h =
          reaches_it m b i p instr here known [] far k x q s w hold worlds e
          (ap (λ (l : Code). slice_get l far) (row_is (at_site m b i p instr here known [] far k x q s w hold worlds) r n t told_here form refs) ∙ h)

      -- the slot's record
      abbrev Box : Type 0
      Box = BoxIs m k i w x p q [] s.stands.is hold worlds r below (λ e. e) t form known_here

      box : Box
      box = box_is m k i w x p q [] s.stands.is hold worlds r below (λ e. e) t form known_here

      boxes_v : Boxes m.adts t k box.inner v
      boxes_v = subst (λ u. Boxes m.adts t k box.inner u) (same_held box.value v (sym box.holds ∙ holds_v)) box.boxes
        where
          same_held : (u v : Value) → ◌≡◌ {A = core.Slot} (Holds u) (Holds v) → u ≡ v
          same_held u v e = cc

  -- ---- what both hold on the way

  holds_with : (so_far : Facts → List Word → Type 0) (far : ℕ) (k : Facts) (w : Shared) (x : World) (q : Process) → Spares m i p so_far known [] far k x q
      → (sides m).worlds k w x → AreThere m x q → HoldTheSame m k i x p q
  holds_with so_far far k w x q a worlds live =
      holds m i p k x q b w known [] far a.way worlds live (λ u h. absurd h)
      (mine_accounted m i p k x q a.way.stands.is.words.own (spare_place m.adts (types_of m a.way.stands.is.function)) so_far a.mine)
      (λ u c h. absurd h)

  abbrev Step : (to_go : ℕ) (k : Facts) (w : Shared) (x : World) (q : Process) → Type 0
  Step to_go k w x q =
      Does (sides m) (place m) (λ l z r t. Way (sides m) (place m) to_go l i z r t) (place m q) k i w x p ((sides m).code.step x q)

  further : (far : ℕ) (k now : Facts) (x y : World) (q u : Process) → OnWay m i p known [] far k x q → OnWay m i p known [] (suc far) now y u
      → suc (suc far) < 5 → place m q < place m u
  further far k now x y q u s s' l =
      let a = place_mid m b i p instr here known [] far k x q s (let e = long far k x q s in omega (arith, e, l)) in
      let c = place_mid m b i p instr here known [] (suc far) now y u s' (let e = long (suc far) now y u s' in omega (arith, e, l)) in
      omega (arith, a, c)

  abbrev InBox : Value → (far : ℕ) → Facts → World → Process → Type 0
  InBox u far k x q = Spares m i p (Boxes_of u) known [] far k x q

  -- ---- the fourth instruction: the other process steps

  module _ (k : Facts) (w : Shared) (x : World) (q : Process) (a : InBox v_less 3 k x q) (hold : HoldTheSame m k i x p q)
      (worlds : (sides m).worlds k w x) where
    abbrev s3 : OnWay m i p known [] 3 k x q
    s3 = a.way

    abbrev f3 : typed.Function
    f3 = s3.stands.is.function

    abbrev box3 : Box 3 k x q s3 w hold worlds
    box3 = box 3 k x q s3 w hold worlds

    abbrev old3 : (o : Option ℕ) × (word_at q.frame.words (pos (reference_place m.adts (types_of m f3) r)) ≡ Found (Refer o))
    old3 = (Some box3.block, box3.word)

    abbrev live_less : List ℕ
    live_less = held.without n live

    abbrev names_after : NamesOnly live_less v_less
    names_after = names_less live v n names

    abbrev then_facts : Facts
    then_facts = facts_back m i p known [] 3 k w x q s3 worlds t form v_less a.mine r below old3 live_less names_after

    abbrev then_process : Process
    then_process = process_back m i p known [] 3 k w x q s3 worlds t form v_less a.mine r below old3 live_less names_after

    abbrev then_slots : core.Slots
    then_slots = core.put p.frame.slots r (Holds v_less)

    abbrev then_source : code.Process
    then_source = code.with_frames p (code.at p.frame (suc p.frame.pc) p.frame.variables then_slots) p.below

    known3 : held.slot s3.stands.is.known r ≡ Of t live
    known3 = ap (λ (h : held.Slots). held.slot h r) s3.known_so ∙ live_so

    source_steps : (sides m).program.step w p ≡ Went w then_source
    source_steps =
        ap (code.next frames_limit (program m) w p) here
        ∙ ap (λ (l : core.Slot). code.goes_on w p (core.put p.frame.slots r l)) (ap (core.dropped n) holds_v)

    goes_then : GoesOn m f3 (suc p.frame.pc) (held.put s3.stands.is.known r (Of t live_less))
    goes_then =
        subst (λ h. GoesOn m f3 (suc p.frame.pc) (held.put s3.stands.is.known r h)) (ap (held.dropped n) known3)
        (goes_behind m f3 p.frame.pc s3.stands.is.known instr s3.stands.goes (code_here 3 k x q s3) 0 (suc p.frame.pc)
        (held.put s3.stands.is.known r (held.dropped n (held.slot s3.stands.is.known r))) (omega arith) refl)

    abbrev change3 : Changed m i p s3.stands.is.words.own q.frame.serial a.mine.block k then_facts x x
    change3 = back_change m i p known [] 3 k w x q s3 worlds t form v_less a.mine r below old3 live_less names_after

    abbrev slot3 : OneSlotChanged m.adts k then_facts x.heap x.heap q.frame.serial [] (types_of m f3) s3.stands.is.known p.frame.variables p.frame.slots
        q.frame.words then_process.frame.words s3.stands.is.words r (Of t live_less) (Holds v_less) []
    slot3 = back_slot m i p known [] 3 k w x q s3 worlds t form v_less a.mine r below old3 live_less names_after

    anew : StandsOn m k i x [] Awaited p q s3.stands then_facts x [] (held.put s3.stands.is.known r (Of t live_less)) slot3.after.own
        then_source then_process
    anew =
        stands_anew m k then_facts i x x [] Awaited p q s3.stands change3.grows (omega arith)
        (keeps_others m i p known [] 3 k then_facts x x q s3 a.mine.block change3) [] (suc p.frame.pc) (suc q.frame.pc)
        (held.put s3.stands.is.known r (Of t live_less)) p.frame.variables then_slots then_process.frame.words q.made
        (put_long p.frame.slots r (Holds v_less)) slot3.after
        (λ u c h. change3.grows.makers c i (s3.stands.is.mine u c (back_own m i p known [] 3 k w x q s3 worlds t form v_less a.mine r below old3
        live_less names_after u c h))) goes_then
        (back_answer m i p known [] 3 k w x q s3 worlds t form v_less a.mine r below old3 live_less names_after)

    tidies : Tidies m i then_source then_facts x then_process
    tidies =
        let same = sym anew.function in
        let next = place_next m b i p instr here known [] 3 k x q s3 in
        let size_so = long 3 k x q s3 in
        let at = s3.pc in
        let row_so = reaches_after in
        record {
          stands = anew.stands;
          none_made = s3.none_made;
          pc = subst (λ g. suc (suc q.frame.pc) ≡ place_of m anew.stands.is.number g (suc p.frame.pc)) same
              (subst (λ u. suc (suc q.frame.pc) ≡ place_of m u f3 (suc p.frame.pc)) (sym anew.number) (omega (arith, next, size_so, at)));
          refers = (
            Some a.mine.block,
            subst (λ g. word_at then_process.frame.words (pos (spare_place m.adts (types_of m g))) ≡ Found (Refer (Some a.mine.block)))
                same (back_spare m i p known [] 3 k w x q s3 worlds t form v_less a.mine r below old3 live_less names_after),
          );
          here = subst (λ g. slice_get (object_of m).insts (suc q.frame.pc)
              ≡ Some (inst op.Movp nil_word middle.None (own (spare_place m.adts (types_of m g))))) same row_so;
          low = rank_behind m b i p instr here known [] 3 k x q s3 then_process (omega (arith, at)) (omega (arith, size_so)) refl;
        }
      where
        reaches_after : slice_get (object_of m).insts (suc q.frame.pc)
            ≡ Some (inst op.Movp nil_word middle.None (own (spare_place m.adts (types_of m f3))))
        reaches_after =
            let there = row m b i p instr here known [] 3 k x q s3 w hold worlds in
            let at = s3.pc in
            ap (slice_get (object_of m).insts) (let e : suc q.frame.pc ≡ place_of m s3.stands.is.number f3 p.frame.pc + 4 = omega (arith, at) in e)
            ∙ there.insts 4 (inst op.Movp nil_word middle.None (own (spare_place m.adts (types_of m f3))))
            (ap (λ (l : Code). slice_get l 4)
            (row_is (at_site m b i p instr here known [] 3 k x q s3 w hold worlds) r n t (told_here 3 k x q s3) form refs))

    goes3 : (sides m).code.step x q ≡ Went x then_process
    goes3 =
        back_steps m i p known [] 3 k w x q s3 worlds t form v_less a.mine r below old3 live_less names_after
        (reaches_row 3 k x q s3 w hold worlds _ refl)

    worlds3 : (sides m).worlds then_facts w x
    worlds3 = told_worlds m i k w x a.mine.block a.mine.inner worlds a.mine.there a.mine.unknown a.mine.made (λ c. 0 < code.process_names p c) a.mine.covered

    inner3 : Accounted then_facts i x.heap (code.process_names then_source) (Refer (Some a.mine.block))
    inner3 =
        let told = told_so m i k w x a.mine.block a.mine.inner worlds a.mine.there a.mine.unknown a.mine.made (λ c. 0 < code.process_names p c) a.mine.covered in
        to_inner a.mine.block (Record a.mine.inner) (subst (λ (o : Option (Fact Block)). IsInner o) (sym told) tt) a.mine.there
        (λ free. absurd (subst (λ (o : Option (Fact Block)). IsFree o) told free))
        (each_accounted then_facts i x.heap (code.process_names then_source) a.mine.inner (λ j d e.
        to_value d (boxes_cover m.adts t laid then_facts a.mine.inner v_less (code.process_names then_source)
        (named_by_process then_source r v_less (put_same p.frame.slots r (Holds v_less) below))
        (back_told m i p known [] 3 k w x q s3 worlds t form v_less a.mine r below old3 live_less names_after)
        d (has_at a.mine.inner j (Refer (Some d)) e))))

    fourth : Step 1 k w x q
    unfolding tidies
    fourth =
        stepped (sides m) (place m) (λ l z r t. Way (sides m) (place m) 1 l i z r t) k then_facts i w x x p q then_process goes3
        (told_changes m i k w x a.mine.block a.mine.inner worlds a.mine.there a.mine.unknown a.mine.made (λ c. 0 < code.process_names p c) a.mine.covered)
        w then_source source_steps worlds3
        (tidies_way m i then_source b then_facts x then_process tidies
        (tidies_hold m i then_source b then_facts w x then_process tidies worlds3 (live_then 3 k x q s3 w hold worlds x then_process goes3)
        (λ o e. subst (λ y. Accounted then_facts i x.heap (code.process_names then_source) (Refer y))
        (same_reference then_process.frame.words (spare_place m.adts (types_of m tidies.stands.is.function)) (Some a.mine.block) o tidies.refers.1 e)
        inner3)))
      where
        same_reference : (ws : List Word) (at : ℕ) (u o : Option ℕ) → word_at ws (pos at) ≡ Found (Refer u) → word_at ws (pos at) ≡ Found (Refer o) → u ≡ o
        same_reference ws at u o e g = let z : Found (Refer u) ≡ Found (Refer o) = sym e ∙ g in cc

  -- ---- the third: the reference goes from the new record

  fourth_later : (k now : Facts) (x y : World) (q : Process) → InBox v_less 3 k x q → (sides m).leaves i k now x y → HoldTheSame m now i y p q
      → InBox v_less 3 now y q
  fourth_later k now x y q a left hold =
      spares_later m i p b (Boxes_of v_less) (λ k now ws g h. boxes_later m.adts t k now ws v_less g h) known [] 3 k now x y q a left hold

  two_left : (k : Facts) (x : World) (q : Process) → InBox v_less 3 k x q → HoldTheSame m k i x p q → Way (sides m) (place m) 2 k i x p q
  two_left k x q a hold = on_way m b i p instr here known 1 (InBox v_less 3) fourth_later fourth k x q a hold

  module _ (k : Facts) (w : Shared) (x : World) (q : Process) (a : InBox v 2 k x q) (hold : HoldTheSame m k i x p q)
      (worlds : (sides m).worlds k w x) where
    abbrev s2 : OnWay m i p known [] 2 k x q
    s2 = a.way

    abbrev spare2 : ℕ
    spare2 = spare_place m.adts (types_of m s2.stands.is.function)

    abbrev off : ℕ
    off = offset m.adts t laid k a.mine.inner v a.mine.so n few

    abbrev move2 : Inst
    move2 = inst op.Movp nil_word middle.None (behind spare2 off)

    abbrev less2 : List Word
    less2 = less m.adts t laid k a.mine.inner v a.mine.so n few

    live2 : (d : ℕ) → Has less2 (Refer (Some d)) → there (at x.heap d) ≡ true
    live2 d h =
        inner_there m k i w x p q [] s2.stands.is hold worlds a.mine.block a.mine.inner a.mine.there d (fewer a.mine.inner (off / 4) d h)

    covered2 : (d : ℕ) → Has less2 (Refer (Some d)) → Covers k (λ c. 0 < code.process_names p c) d
    covered2 d h = a.mine.covered d (fewer a.mine.inner (off / 4) d h)

    abbrev lead2 : Leads x q (behind spare2 off) a.mine.inner off
    lead2 =
        leads_in m i p known [] 2 k x q s2 w worlds spare2 (Boxes_of v) (Boxes_of v_less) a.mine less2 live2 covered2 off move2
        (reaches_row 2 k x q s2 w hold worlds move2 refl)

    stored2 : StoresWord (obey frames_limit (object_of m) x q move2 op.Movp) x q lead2.place a.mine.inner off (Refer None)
    stored2 =
        let old = offset_there m.adts t laid k a.mine.inner v a.mine.so n few in
        words_move.reference frames_limit (object_of m) x q move2 None a.mine.inner off lead2 old.0 refl
        (nil_read m b k i w x p q [] s2.stands.is hold worlds) old.1

    abbrev world2 : World
    world2 = world_filled m i p known [] 2 k x q s2 w worlds spare2 (Boxes_of v) (Boxes_of v_less) a.mine less2 live2 covered2

    abbrev process2 : Process
    process2 = process_filled m i p known [] 2 k x q s2 w worlds spare2 (Boxes_of v) (Boxes_of v_less) a.mine less2 live2 covered2

    goes2 : (sides m).code.step x q ≡ Went world2 process2
    goes2 =
        fill_steps m i p known [] 2 k x q s2 w worlds spare2 (Boxes_of v) (Boxes_of v_less) a.mine less2 live2 covered2 off move2
        (reaches_row 2 k x q s2 w hold worlds move2 refl) stored2.1

    spares2 : InBox v_less 3 k world2 process2
    spares2 = record {
      way = way_filled m i p known [] 2 k x q s2 w worlds spare2 (Boxes_of v) (Boxes_of v_less) a.mine less2 live2 covered2;
      mine = mine_filled m i p known [] 2 k x q s2 w worlds spare2 (Boxes_of v) (Boxes_of v_less) a.mine less2 live2 covered2
          (less_boxes m.adts t laid k a.mine.inner v a.mine.so n few stored2.0);
    }

    third : Step 2 k w x q
    third =
        let now = worlds_filled m i p known [] 2 k x q s2 w worlds spare2 (Boxes_of v) (Boxes_of v_less) a.mine less2 live2 covered2 in
        silent (sides m) (place m) (λ l z r t. Way (sides m) (place m) 2 l i z r t) k k i w x world2 p q process2 goes2
        (changes_filled m i p known [] 2 k x q s2 w worlds spare2 (Boxes_of v) (Boxes_of v_less) a.mine less2 live2 covered2) now
        (further 2 k k x world2 q process2 s2 spares2.way (omega arith))
        (two_left k world2 process2 spares2 (holds_with (Boxes_of v_less) 3 k w world2 process2 spares2 now
        (live_then 2 k x q s2 w hold worlds world2 process2 goes2)))

  -- ---- the second: the new record gets the value

  third_later : (k now : Facts) (x y : World) (q : Process) → InBox v 2 k x q → (sides m).leaves i k now x y → HoldTheSame m now i y p q → InBox v 2 now y q
  third_later k now x y q a left hold =
      spares_later m i p b (Boxes_of v) (λ k now ws g h. boxes_later m.adts t k now ws v g h) known [] 2 k now x y q a left hold

  three_left : (k : Facts) (x : World) (q : Process) → InBox v 2 k x q → HoldTheSame m k i x p q → Way (sides m) (place m) 3 k i x p q
  three_left k x q a hold = on_way m b i p instr here known 2 (InBox v 2) third_later third k x q a hold

  abbrev IsNew : Facts → List Word → Type 0
  IsNew k ws = ws ≡ new_words m.adts t

  module _ (k : Facts) (w : Shared) (x : World) (q : Process) (a : Spares m i p IsNew known [] 1 k x q) (hold : HoldTheSame m k i x p q)
      (worlds : (sides m).worlds k w x) where
    abbrev s1 : OnWay m i p known [] 1 k x q
    s1 = a.way

    abbrev f1 : typed.Function
    f1 = s1.stands.is.function

    abbrev spare1 : ℕ
    spare1 = spare_place m.adts (types_of m f1)

    abbrev slot1 : ℕ
    slot1 = reference_place m.adts (types_of m f1) r

    abbrev box1 : Box 1 k x q s1 w hold worlds
    box1 = box 1 k x q s1 w hold worlds

    abbrev from1 : Boxes m.adts t k box1.inner v
    from1 = boxes_v 1 k x q s1 w hold worlds

    kind1 : AreOf (box_bytes m.adts t) (room_for m.adts t).references a.mine.inner
    kind1 = subst (λ ws. AreOf (box_bytes m.adts t) (room_for m.adts t).references ws) (sym a.mine.so) (new_kind m.adts t laid)

    abbrev lead_from : Leads x q (behind slot1 0) box1.inner 0
    lead_from = (spots_lead.inner x q slot1 box1.block box1.inner 0 box1.word box1.there).0

    abbrev lead_to : Leads x q (behind spare1 0) a.mine.inner 0
    lead_to = (spots_lead.inner x q spare1 a.mine.block a.mine.inner 0 a.mine.word a.mine.there).0

    abbrev move1 : Inst
    move1 = inst op.Movmp (behind slot1 0) (middle.Imm (pos (type_number m (OfRecord t)))) (behind spare1 0)

    abbrev Moved1 : Type 0
    Moved1 =
        Moves m.adts k frames_limit (object_of m) x q t (room_for m.adts t) v (type_number m (OfRecord t)) (behind slot1 0) (behind spare1 0)
        box1.inner a.mine.inner 0 0 lead_from lead_to (lies_in m.adts t laid k box1.inner v from1) (room_in m.adts t laid a.mine.inner kind1) move1

    moved1 : Moved1
    moved1 =
        let some = some_there (room_for m.adts t).references refs in
        type_moves m.adts k frames_limit (object_of m) x q t (room_for m.adts t) v (type_number m (OfRecord t)) (behind slot1 0) (behind spare1 0)
        box1.inner a.mine.inner 0 0 lead_from lead_to (lies_in m.adts t laid k box1.inner v from1) (room_in m.adts t laid a.mine.inner kind1)
        some.0 some.1 (type_so 1 k x q s1)

    boxes1 : Boxes m.adts t k moved1.0 v
    boxes1 = moved_boxes m.adts t laid k box1.inner a.mine.inner moved1.0 v from1 kind1 moved1.1

    live1 : (d : ℕ) → Has moved1.0 (Refer (Some d)) → there (at x.heap d) ≡ true
    live1 d h =
        inner_there m k i w x p q [] s1.stands.is hold worlds box1.block box1.inner box1.there d
        (moved_refers m.adts t laid k box1.inner a.mine.inner moved1.0 v from1 kind1 moved1.1 d h)

    covered1 : (d : ℕ) → Has moved1.0 (Refer (Some d)) → Covers k (λ c. 0 < code.process_names p c) d
    covered1 d h = boxes_cover m.adts t laid k moved1.0 v (code.process_names p) (named_by_process p r v holds_v) boxes1 d h

    abbrev world1 : World
    world1 = world_filled m i p known [] 1 k x q s1 w worlds spare1 IsNew (Boxes_of v) a.mine moved1.0 live1 covered1

    abbrev process1 : Process
    process1 = process_filled m i p known [] 1 k x q s1 w worlds spare1 IsNew (Boxes_of v) a.mine moved1.0 live1 covered1

    goes1 : (sides m).code.step x q ≡ Went world1 process1
    goes1 =
        fill_steps m i p known [] 1 k x q s1 w worlds spare1 IsNew (Boxes_of v) a.mine moved1.0 live1 covered1 0 move1
        (reaches_row 1 k x q s1 w hold worlds move1 refl) moved1.2

    spares1 : InBox v 2 k world1 process1
    spares1 = record {
      way = way_filled m i p known [] 1 k x q s1 w worlds spare1 IsNew (Boxes_of v) a.mine moved1.0 live1 covered1;
      mine = mine_filled m i p known [] 1 k x q s1 w worlds spare1 IsNew (Boxes_of v) a.mine moved1.0 live1 covered1 boxes1;
    }

    second : Step 3 k w x q
    second =
        let now = worlds_filled m i p known [] 1 k x q s1 w worlds spare1 IsNew (Boxes_of v) a.mine moved1.0 live1 covered1 in
        silent (sides m) (place m) (λ l z r t. Way (sides m) (place m) 3 l i z r t) k k i w x world1 p q process1 goes1
        (changes_filled m i p known [] 1 k x q s1 w worlds spare1 IsNew (Boxes_of v) a.mine moved1.0 live1 covered1) now
        (further 1 k k x world1 q process1 s1 spares1.way (omega arith))
        (three_left k world1 process1 spares1 (holds_with (Boxes_of v) 2 k w world1 process1 spares1 now
        (live_then 1 k x q s1 w hold worlds world1 process1 goes1)))

  -- ---- the first: a new record is made

  second_later : (k now : Facts) (x y : World) (q : Process) → Spares m i p IsNew known [] 1 k x q → (sides m).leaves i k now x y
      → HoldTheSame m now i y p q → Spares m i p IsNew known [] 1 now y q
  second_later k now x y q a left hold = spares_later m i p b IsNew (λ k now ws g h. h) known [] 1 k now x y q a left hold

  four_left : (k : Facts) (x : World) (q : Process) → Spares m i p IsNew known [] 1 k x q → HoldTheSame m k i x p q → Way (sides m) (place m) 4 k i x p q
  four_left k x q a hold = on_way m b i p instr here known 3 (λ k x q. Spares m i p IsNew known [] 1 k x q) second_later second k x q a hold

  module _ (k : Facts) (w : Shared) (x : World) (q : Process) (ready : Ready m k i x p q) (same : ready.stands.is.known ≡ known)
      (hold : HoldTheSame m k i x p q) (worlds : (sides m).worlds k w x) where
    abbrev s0 : OnWay m i p known [] 0 k x q
    s0 = record {
      stands = ready.stands;
      known_so = same;
      none_made = ready.none_made;
      pc = let e = ready.pc in omega (arith, e);
    }

    abbrev type0 : ℕ
    type0 = type_number m (OfRecord t)

    abbrev world0 : World
    world0 = world_then m i p known [] 0 k x q s0 w worlds t (None, ready.spare) type0 (type_so 0 k x q s0)

    abbrev facts0 : Facts
    facts0 = facts_then m i p known [] 0 k x q s0 w worlds t (None, ready.spare) type0 (type_so 0 k x q s0)

    abbrev process0 : Process
    process0 = process_then m i p known [] 0 k x q s0 w worlds t (None, ready.spare) type0 (type_so 0 k x q s0)

    goes0 : (sides m).code.step x q ≡ Went world0 process0
    goes0 =
        new_steps m i p known [] 0 k x q s0 w worlds t (None, ready.spare) type0 (type_so 0 k x q s0)
        (reaches_row 0 k x q s0 w hold worlds _ refl)

    spares0 : Spares m i p IsNew known [] 1 facts0 world0 process0
    spares0 = new_spares m i p known [] 0 k x q s0 w worlds t (None, ready.spare) type0 (type_so 0 k x q s0)

    first : Step 4 k w x q
    first =
        let now = new_worlds m i k w x q.frame.serial (new_words m.adts t) worlds (new_bare m.adts t) in
        silent (sides m) (place m) (λ l z r t. Way (sides m) (place m) 4 l i z r t) k facts0 i w x world0 p q process0 goes0
        (new_changes m i k w x q.frame.serial (new_words m.adts t) worlds (new_bare m.adts t)) now
        (further 0 k facts0 x world0 q process0 s0 spares0.way (omega arith))
        (four_left facts0 world0 process0 spares0 (holds_with IsNew 1 facts0 w world0 process0 spares0 now
        (live_then 0 k x q s0 w hold worlds world0 process0 goes0)))

-- ---- a boxed value

pub boxed_drop : (m : typed.Module) → Base m → (r n : ℕ) → DropGoes m Boxed r n
boxed_drop m b r n k i x p q ready t known_so form here = (
  4,
  (
    ready.1,
    λ now y w left hold worlds.
        let s = ready_still m b i p q k x ready.0 now y left hold in
        go now w y s.0 (ap (λ h. type_held (held.slot h r)) s.1.known ∙ known_so) hold worlds,
  ),
)
  where
    go : (k : Facts) (w : Shared) (x : World) (ready : Ready m k i x p q) → type_held (held.slot ready.stands.is.known r) ≡ Some t
        → HoldTheSame m k i x p q → (sides m).worlds k w x
        → Does (sides m) (place m) (λ l z r t. Way (sides m) (place m) 4 l i z r t) (place m q) k i w x p ((sides m).code.step x q)
    go k w x ready known_so hold worlds =
        let is = ready.stands.is in
        let in_it = code_of_it m k i x p q ready (Drop r n) here in
        let found = finds m is.function p.frame.pc is.known (Drop r n) ready.stands.goes in_it in
        let same : found.0 ≡ t = same_some found.0 t (sym found.1 ∙ known_so) in
        let few = subst (λ u. n < count_of m.adts u) same found.2 in
        let below = uses m k i x [] p.frame q.frame is p.frame.pc (Drop r n) in_it in
        let box = box_is m k i w x p q [] is hold worlds r below (λ e. e) t form known_so in
        let gone = offset_there m.adts t box.laid k box.inner box.value box.boxes n few in
        let at = (word_found box.inner (offset m.adts t box.laid k box.inner box.value box.boxes n few) (Refer gone.0) gone.1).1 in
        first m b i p r n here t form is.known known_so box.laid few
        (has_one (room_for m.adts t).references _ (box.boxes.0.only _ gone.0 at))
        box.value box.holds box.live box.known box.names below k w x q ready refl hold worlds
