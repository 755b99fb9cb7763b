-- The row of a list's first item that has a box.
use Rattle.std.proofs.Common.{◌≡◌, ◌≢◌, ℕ, suc, pos, ◌≤◌, Bool, true, false, List, [], ◌∷◌, ◌++◌, Option, Some, None, refl, ap, ◌∙◌, subst, inl, if◌then◌else◌}
use Rattle.std.specs.Prelude.{slice_get}
use Rattle.limbo_types.specs.Types as ty
use Rattle.limbo_types.specs.Types.{Ty}
use Rattle.limbo_layout.specs.Adts.{Def}
use Rattle.limbo_layout.specs.Layout.{Laid, limit}
use Rattle.limbo_values.specs.declared.number.Kind.TheVariants as kind
use Rattle.limbo_typed.specs.Typed as typed
use Rattle.limbo_typed.specs.declared.operation.Operation.TheVariants.{Head}
use Rattle.limbo_meaning.specs.Exceptions.{dereference_of_nil}
use Rattle.limbo_meaning.specs.Process.{Shared}
use Rattle.limbo_meaning.specs.Trees.{Work, Operate}
use Rattle.limbo_meaning.specs.Values.{Value, Ref, fitted}
use Rattle.system_model.specs.Limits.{frames_limit}
use Rattle.system_model.specs.Ending.{Broken}
use Rattle.core_code.specs.Code.{Instr, Give}
use Rattle.core_code.specs.Machine as code
use Rattle.core_code.specs.Slots as core
use Rattle.core_code.specs.Slots.{Holds}
use Rattle.core_typing.specs.Going.{got_by}
use Rattle.core_typing.specs.Needs.{AreThese}
use Rattle.dis_isa.specs.declared.inst.Inst.{Inst}
use Rattle.dis_isa.specs.declared.inst.Middle.TheVariants as middle
use Rattle.dis_isa.specs.declared.inst.Operand as isa
use Rattle.dis_isa.specs.declared.inst.Operand.TheVariants as operand
use Rattle.dis_isa.specs.declared.op.Op.TheVariants as op
use Rattle.dis_meaning.specs.Words.{Word, Refer, Access, Found, Raises, word_at, or_wrong, type_check}
use Rattle.dis_meaning.specs.Process.{Process}
use Rattle.dis_memory.specs.Blocks.{World}
use Rattle.dis_memory.specs.Places.{given_of}
use Rattle.dis_memory.specs.Raising.{nil_text}
use Rattle.dis_memory.specs.Process.{Does}
use Rattle.dis_memory.specs.Step.{obey}
use Rattle.value_words.specs.Facts.{Facts}
use Rattle.value_words.proofs.Wholes.{stands_whole}
use Rattle.value_frames.specs.Frames.{Boxed, form_of, passing_place, reference_place, room_for, box_bytes}
use Rattle.value_frames.specs.Types.{desc}
use Rattle.value_moves.specs.Operands.{Code, inst, own, of_own, behind, fits_middle, size_middle, has_references}
use Rattle.value_moves.specs.Writing.{Writes}
use Rattle.value_moves.proofs.Changing.{words_change}
use Rattle.value_moves.proofs.Marked.{some_there, none_there}
use Rattle.value_code.specs.Data.{OfRecord}
use Rattle.value_code.specs.Operands.{reference, in_box}
use Rattle.value_code.specs.Works.{head_op, parts_middle, element_middle, element_sized}
use Rattle.value_code.specs.Code.{Site, code_of}
use Rattle.value_code.specs.Objects.{object_of, of_function, size_at, type_number}
use Rattle.value_code.proofs.Having.{objects_have}
use Rattle.number_effects.specs.Giving.{after}
use Rattle.number_effects.proofs.Reading.{operands_are_read}
use Rattle.number_effects.proofs.Stepping.{steps_obey}
use Rattle.block_effects.specs.Stored.{ReadsCell}
use Rattle.block_effects.proofs.Lists.{lists_come}
use Rattle.value_follows.specs.Stands.{types_of}
use Rattle.value_follows.specs.Sides.{sides, HoldTheSame}
use Rattle.value_follows.specs.Rows.{Base, InstrGoes, RowStands, site_of}
use Rattle.value_follows.proofs.Standing.{finds, code_here}
use Rattle.value_follows.proofs.Slots.{number_there}
use Rattle.value_follows.proofs.Several.{Next}
use Rattle.value_follows.proofs.Comparing.{one_slot}
use Rattle.rows_boxes.proofs.Differing.{slots_differ}
use Rattle.rows_boxes.specs.Differing.{DiffersFrom}
use Rattle.rows_boxes.specs.Rows.{BoxHeadsGo}
use Rattle.rows_boxes.proofs.Boxing.{Boxing, box_place, only_one}
use Rattle.rows_boxes.proofs.Filling.{reaches_on, ends_alike, full_goes}
use Rattle.rows_boxes.proofs.Giving.{room_laid}
use Rattle.rows_boxes.proofs.Numbers.{finds_on, uses_on, ends_big}
use Rattle.rows_boxes.proofs.Bigs.{old_big, box_leads}
use Rattle.rows_boxes.proofs.Names.{names_got}
use Rattle.rows_boxes.proofs.Puts.{type_put, size_put}
use Rattle.rows_boxes.proofs.Typed.{is_sized, sizing}
use Rattle.rows_boxes.proofs.Moving.{SourceLies, target_leads, box_room, write_fills, write_goes}
use Rattle.rows_boxes.proofs.Sized.{SizeThere, LastGoes, sized_goes}
use Rattle.rows_boxes.proofs.Heads.{IsListOf, is_nil, is_cell, list_on, CellThere, cell_there, led_there, reads_nil, reads_cell, does_nil, does_head}

-- ---- the row's code

module _ (m : typed.Module) (t : Ty) (into a : ℕ) where
  abbrev from : List ℕ
  from = a ∷ []

  abbrev work : Work
  work = Operate Head

  abbrev heads : Instr
  heads = Give t work into from

  abbrev last : Site → Inst
  last c = inst (head_op (has_references m.adts t) t) (reference c.scene a) (element_middle m.adts t (c.type_number (OfRecord t))) (in_box c.scene into 0)

  abbrev all : (List Def) → Site → Code
  all d c =
      inst op.New (operand.Imm (pos (c.type_number (OfRecord t)))) middle.None (reference c.scene into)
      ∷ (element_sized d t ++ (inst (head_op (has_references d t) t) (reference c.scene a) (element_middle d t (c.type_number (OfRecord t)))
      (in_box c.scene into 0) ∷ []))

both_ifs : (z : Code) (c g : Bool) → (if c then [] else (if g then [] else z)) ≡ (if (if c then false else (if g then false else true)) then z else [])
both_ifs z true g = refl
both_ifs z false true = refl
both_ifs z false false = refl

-- where the size comes first
sized_so : (defs : List Def) (t : Ty) → form_of t ≡ Boxed → element_sized defs t ≡ (if is_sized defs t then sizing (room_for defs t).size ∷ [] else [])
sized_so defs ty.Big e = refl
sized_so defs (ty.Tuple ts) e =
    both_ifs (sizing (room_for defs (ty.Tuple ts)).size ∷ []) (has_references defs (ty.Tuple ts)) (fits_middle (pos (room_for defs (ty.Tuple ts)).size))
sized_so defs (ty.Adt n) e =
    both_ifs (sizing (room_for defs (ty.Adt n)).size ∷ []) (has_references defs (ty.Adt n)) (fits_middle (pos (room_for defs (ty.Adt n)).size))
sized_so defs t e = absurd cc

first_code : (t : Ty) (into a : ℕ) → form_of t ≡ Boxed → (c : Site) → slice_get (code_of c (Give t (Operate Head) into (a ∷ []))) 0
    ≡ Some (inst op.New (operand.Imm (pos (c.type_number (OfRecord t)))) middle.None (reference c.scene into))
first_code ty.Big into a e c = refl
first_code (ty.Tuple ts) into a e c = refl
first_code (ty.Adt n) into a e c = refl
first_code t into a e c = absurd cc

row_code : (m : typed.Module) (t : Ty) (into a : ℕ) → form_of t ≡ Boxed → (c : Site) → code_of c (Give t (Operate Head) into (a ∷ [])) ≡ all m t into a c.scene.adts c
row_code m ty.Big into a e c = refl
row_code m (ty.Tuple ts) into a e c = refl
row_code m (ty.Adt n) into a e c = refl
row_code m t into a e c = absurd cc

head_code : (m : typed.Module) (t : Ty) (into a : ℕ) → form_of t ≡ Boxed → (c : Site) → c.scene.adts ≡ m.adts → code_of c (Give t (Operate Head) into (a ∷ []))
    ≡ inst op.New (operand.Imm (pos (c.type_number (OfRecord t)))) middle.None (reference c.scene into)
    ∷ ((if is_sized m.adts t then sizing (room_for m.adts t).size ∷ [] else []) ++ (last m t into a c ∷ []))
head_code m t into a e c same =
    row_code m t into a e c ∙ ap (λ (d : List Def). all m t into a d c) same
    ∙ ap (λ (z : Code). inst op.New (operand.Imm (pos (c.type_number (OfRecord t)))) middle.None (reference c.scene into) ∷ (z ++ (last m t into a c ∷ [])))
    (sized_so m.adts t e)

-- ---- the last instruction

module _ (m : typed.Module) (b : Base m) (t : Ty) (form : form_of t ≡ Boxed) (into a : ℕ) (apart : into ≢ a) (i : ℕ) (p : code.Process)
    (here : slice_get p.frame.code p.frame.pc ≡ Some (heads m t into a)) (number : ℕ) (f : typed.Function)
    (there : slice_get m.functions number ≡ Some f) (in_code : slice_get (of_function m f).code p.frame.pc ≡ Some (heads m t into a))
    (row : RowStands m number f p.frame.pc (heads m t into a)) (j box : ℕ) (inner : List Word) (q : Process) (k : Facts) (w : Shared) (x : World)
    (s : Boxing m number f t into j box inner k i x p q) (hold : HoldTheSame m k i x p q) (worlds : (sides m).worlds k w x) where
  abbrev site : Site
  site = site_of m number f p.frame.pc row.at

  abbrev place : ℕ
  place = reference_place m.adts (types_of m f) a

  abbrev target : isa.Operand
  target = behind (box_place m number f t into) 0

  laid : Laid m.adts t (room_for m.adts t)
  laid = room_laid m.adts t (finds_on m b t (work m t into a) into (a ∷ []) number f j box inner i p q k x s here).2.1

  types : slice_get (object_of m).types (type_number m (OfRecord t)) ≡ Some (desc (box_bytes m.adts t) (room_for m.adts t).references)
  types = objects_have.types m number f p.frame.pc (heads m t into a) (OfRecord t) there in_code (inl refl)

  module _ (at_last : slice_get (code_of site (heads m t into a)) j ≡ Some (last m t into a site)) where
    -- nil has none
    nil_goes : obey frames_limit (object_of m) x q (last m t into a site) (last m t into a site).op ≡ Raises nil_text
        → core.slot p.frame.slots a ≡ Holds (Ref None) → Next m b i p 0 k w x q
    nil_goes raises holds =
        ends_alike m b number f t into j box inner i p q k w x s hold worlds 0 (Broken dereference_of_nil)
        (steps_obey.raises frames_limit (object_of m ∷ []) x q (object_of m) (last m t into a site) nil_text
        (reaches_on m b number f t into j box inner i p q k w x s hold worlds (heads m t into a) row (last m t into a site) at_last) raises)
        (does_nil m t into a w p here holds)

    -- the item of a cell is moved
    module _ (size : size_at m f.of.answer (of_function m f) p.frame.pc (Some (heads m t into a)) ≡ suc j) (c n : ℕ)
        (cell : CellThere m k i w x p q hold worlds t c n) (holds : core.slot p.frame.slots a ≡ Holds (Ref (Some n))) where
      whole : cell.head ≡ fitted m.adts t cell.head
      whole = stands_whole m.adts k cell.words 0 t cell.head cell.lies.stands

      cell_goes : (others : List Word) → Writes inner others 0 cell.words 0 (room_for m.adts t).size
          → obey frames_limit (object_of m) x q (last m t into a site) (last m t into a site).op
          ≡ after x q (target_leads m b number f t into j box inner i p q k w x s hold worlds laid).place others
          → Next m b i p 0 k w x q
      cell_goes others writes obeys =
          let given : SourceLies m t k x cell.head = record { words = cell.words; at = 0; lies = cell.lies; led = led_there m k i w x p q hold worlds t c n cell } in
          let o = work m t into a in
          full_goes m b number f t into j box inner i p q k w x s hold worlds others (got_by m.adts t o) cell.head
          (write_fills m b number f t into j box inner i p q k w x s hold worlds laid cell.head given others writes (got_by m.adts t o)
          (names_got m.adts t o cell.head refl whole))
          form (uses_on m b t o into (a ∷ []) number f j box inner i p q k x s here).0 (heads m t into a) here (λ slots. refl) size
          (write_goes m b number f t into j box inner i p q k w x s hold worlds laid cell.head given others writes (last m t into a site)
          (reaches_on m b number f t into j box inner i p q k w x s hold worlds (heads m t into a) row (last m t into a site) at_last) obeys)
          (does_head m t into a w p here n cell.head cell.tail holds cell.is whole)

-- ---- a big

big_last : (m : typed.Module) (b : Base m) (into a : ℕ) → into ≢ a → (i : ℕ) (p : code.Process) → slice_get p.frame.code p.frame.pc ≡ Some (heads m ty.Big into a)
    → (number : ℕ) (f : typed.Function) → slice_get m.functions number ≡ Some f → slice_get (of_function m f).code p.frame.pc ≡ Some (heads m ty.Big into a)
    → (row : RowStands m number f p.frame.pc (heads m ty.Big into a)) (j box : ℕ) (inner : List Word) (q : Process) (k : Facts) (w : Shared) (x : World)
    → Boxing m number f ty.Big into j box inner k i x p q → HoldTheSame m k i x p q → (sides m).worlds k w x
    → slice_get (code_of (site_of m number f p.frame.pc row.at) (heads m ty.Big into a)) j ≡ Some (last m ty.Big into a (site_of m number f p.frame.pc row.at))
    → size_at m f.of.answer (of_function m f) p.frame.pc (Some (heads m ty.Big into a)) ≡ suc j → Next m b i p 0 k w x q
big_last m b into a apart i p here number f there in_code row j box inner q k w x s hold worlds at_last size =
    let o = work m ty.Big into a in
    let found = finds_on m b ty.Big o into (a ∷ []) number f j box inner i p q k x s here in
    let these = subst (AreThese s.stands.is.known (a ∷ [])) found.2.0 found.1 in
    let list = list_on m k i x (into ∷ []) p.frame q.frame s.stands.is f s.function_is ty.Big a
    (uses_on m b ty.Big o into (a ∷ []) number f j box inner i p q k x s here).1.0 (λ h. apart (only_one into a h)) these.0 in
    go list.refers list.value list.list list.holds list.word
  where
    place : ℕ
    place = reference_place m.adts (types_of m f) a

    go : (r : Option ℕ) (v : Value) → IsListOf k ty.Big r v → core.slot p.frame.slots a ≡ Holds v → word_at q.frame.words (pos place) ≡ Found (Refer r)
        → Next m b i p 0 k w x q
    go _ _ is_nil holds word =
        let old = old_big m b number f into j box inner i p q k w x s in
        nil_goes m b ty.Big refl into a apart i p here number f there in_code row j box inner q k w x s hold worlds at_last
        ((lists_come frames_limit (object_of m) x q).head.no_number kind.Big (own place) (behind (box_place m number f ty.Big into) 0) middle.None
        (record { words = inner; byte = 0; leads = box_leads m b number f into j box inner i p q k w x s; old = old.0; stands = old.1 })
        (reads_nil m k i w x p q hold worlds ty.Big place word)) holds
    go _ _ (is_cell c n formed) holds word =
        let cell = cell_there m k i w x p q hold worlds ty.Big place c n word formed in
        let z = number_there m.adts k cell.words 0 ty.Big cell.head kind.Big refl cell.lies.stands in
        let old = old_big m b number f into j box inner i p q k w x s in
        let leads = box_leads m b number f into j box inner i p q k w x s in
        let stored = words_change.number kind.Big inner 0 old.0 z.number old.1 in
        ends_big m b (work m ty.Big into a) into (a ∷ []) number f there i p here in_code row j box inner q k w x s hold worlds
        (last m ty.Big into a (site_of m number f p.frame.pc row.at)) at_last z.number z.range (
          stored,
          (lists_come frames_limit (object_of m) x q).head.number kind.Big (own place) (behind (box_place m number f ty.Big into) 0) middle.None
              (record { element = cell.words; rest = cell.rest }) z.number stored.others
              (record { words = inner; byte = 0; leads = leads; old = old.0; stands = old.1 })
              (reads_cell m k i w x p q hold worlds ty.Big place c n cell word) z.found stored.found,
        )
        size
        (does_head m ty.Big into a w p here n cell.head cell.tail holds cell.is (stands_whole m.adts k cell.words 0 ty.Big cell.head cell.lies.stands)
        ∙ ap (λ (v : Value). code.goes_on w p (core.put p.frame.slots into (Holds v))) z.is)

-- ---- a value of parts

module _ (m : typed.Module) (b : Base m) (t : Ty) (form : form_of t ≡ Boxed)
    (parts : (c : Site) (into a : ℕ) → last m t into a c ≡ inst (if has_references m.adts t then op.Headmp else op.Headm) (reference c.scene a)
    (parts_middle (has_references m.adts t) (c.type_number (OfRecord t)) (room_for m.adts t).size) (in_box c.scene into 0))
    (sizes : is_sized m.adts t ≡ (if has_references m.adts t then false else (if fits_middle (pos (room_for m.adts t).size) then false else true)))
    (into a : ℕ) (apart : into ≢ a) (i : ℕ) (p : code.Process) (here : slice_get p.frame.code p.frame.pc ≡ Some (heads m t into a)) (number : ℕ)
    (f : typed.Function) (there : slice_get m.functions number ≡ Some f)
    (in_code : slice_get (of_function m f).code p.frame.pc ≡ Some (heads m t into a)) (row : RowStands m number f p.frame.pc (heads m t into a)) (j box : ℕ)
    (inner : List Word) (q : Process) (k : Facts) (w : Shared) (x : World) (s : Boxing m number f t into j box inner k i x p q)
    (hold : HoldTheSame m k i x p q) (worlds : (sides m).worlds k w x) (so : SizeThere (room_for m.adts t).size (is_sized m.adts t) q)
    (at_last : slice_get (code_of (site_of m number f p.frame.pc row.at) (heads m t into a)) j ≡ Some (last m t into a (site_of m number f p.frame.pc row.at)))
    (long : size_at m f.of.answer (of_function m f) p.frame.pc (Some (heads m t into a)) ≡ suc j) where
  abbrev head_site : Site
  head_site = site_of m number f p.frame.pc row.at

  abbrev list_place : ℕ
  list_place = reference_place m.adts (types_of m f) a

  abbrev box_target : isa.Operand
  box_target = behind (box_place m number f t into) 0

  abbrev bytes : ℕ
  bytes = (room_for m.adts t).size

  abbrev type : ℕ
  type = type_number m (OfRecord t)

  room_there : Laid m.adts t (room_for m.adts t)
  room_there = laid m b t form into a apart i p here number f there in_code row j box inner q k w x s hold worlds

  type_there : slice_get (object_of m).types type ≡ Some (desc (box_bytes m.adts t) (room_for m.adts t).references)
  type_there = types m b t form into a apart i p here number f there in_code row j box inner q k w x s hold worlds

  abbrev by_type : Inst
  by_type = inst op.Headmp (own list_place) (middle.Imm (pos type)) box_target

  abbrev by_bytes : Inst
  by_bytes = inst op.Headm (own list_place) (size_middle bytes) box_target

  -- which of both it is
  is_typed : has_references m.adts t ≡ true → last m t into a head_site ≡ by_type
  is_typed h =
      parts head_site into a
      ∙ ap (λ (c : Bool). inst (if c then op.Headmp else op.Headm) (own list_place) (parts_middle c type bytes) box_target) h

  is_sized_one : has_references m.adts t ≡ false → last m t into a head_site ≡ by_bytes
  is_sized_one h =
      parts head_site into a
      ∙ ap (λ (c : Bool). inst (if c then op.Headmp else op.Headm) (own list_place) (parts_middle c type bytes) box_target) h

  given_size : has_references m.adts t ≡ false → given_of kind.Int x q (size_middle bytes) ≡ Found (pos bytes)
  given_size h = go (fits_middle (pos bytes)) refl
    where
      go : (c : Bool) → fits_middle (pos bytes) ≡ c → given_of kind.Int x q (size_middle bytes) ≡ Found (pos bytes)
      go true e =
          ap (λ (g : Bool). given_of kind.Int x q (if g then middle.Imm (pos bytes) else of_own passing_place)) e
          ∙ operands_are_read.middle_given x q kind.Int (pos bytes)
      go false e =
          let is : is_sized m.adts t ≡ true =
          sizes ∙ ap (λ (g : Bool). if g then false else (if fits_middle (pos bytes) then false else true)) h
          ∙ ap (λ (g : Bool). if g then false else true) e in
          ap (λ (g : Bool). given_of kind.Int x q (if g then middle.Imm (pos bytes) else of_own passing_place)) e
          ∙ operands_are_read.own_number x q kind.Int passing_place ∙ subst (λ (g : Bool). SizeThere bytes g q) is so

  comes_as : (one : Inst) → last m t into a head_site ≡ one → (does : Access Does) → obey frames_limit (object_of m) x q one one.op ≡ does
      → obey frames_limit (object_of m) x q (last m t into a head_site) (last m t into a head_site).op ≡ does
  comes_as one e does g = ap (λ (y : Inst). obey frames_limit (object_of m) x q y y.op) e ∙ g

  -- nil
  nil_comes : (h : Bool) → has_references m.adts t ≡ h → ReadsCell x q (own list_place) None
      → obey frames_limit (object_of m) x q (last m t into a head_site) (last m t into a head_site).op ≡ Raises nil_text
  nil_comes true h reads =
      let some = some_there (room_for m.adts t).references h in
      comes_as by_type (is_typed h) (Raises nil_text)
      ((lists_come frames_limit (object_of m) x q).head.no_typed (own list_place) box_target (middle.Imm (pos type)) inner 0
      (desc (box_bytes m.adts t) (room_for m.adts t).references)
      (target_leads m b number f t into j box inner i p q k w x s hold worlds room_there) refl reads (ap (or_wrong type_check) type_there))
  nil_comes false h reads =
      comes_as by_bytes (is_sized_one h) (Raises nil_text)
      ((lists_come frames_limit (object_of m) x q).head.no_bytes (own list_place) box_target (size_middle bytes) inner 0 bytes
      (target_leads m b number f t into j box inner i p q k w x s hold worlds room_there) reads (given_size h))

  -- a cell
  module _ (c n : ℕ) (cell : CellThere m k i w x p q hold worlds t c n) (holds : core.slot p.frame.slots a ≡ Holds (Ref (Some n)))
      (word : word_at q.frame.words (pos list_place) ≡ Found (Refer (Some c))) where
    cell_comes : (h : Bool) → has_references m.adts t ≡ h → Next m b i p 0 k w x q
    cell_comes true h =
        let some = some_there (room_for m.adts t).references h in
        let room = box_room m b number f t into j box inner i p q k w x s hold worlds room_there in
        let leads = target_leads m b number f t into j box inner i p q k w x s hold worlds room_there in
        let put = type_put m.adts k t (room_for m.adts t) cell.head cell.words inner 0 0 cell.lies room some.0 some.1 in
        cell_goes m b t form into a apart i p here number f there in_code row j box inner q k w x s hold worlds at_last long c n cell holds put.others put.writes
        (comes_as by_type (is_typed h) (after x q leads.place put.others)
        ((lists_come frames_limit (object_of m) x q).head.typed (own list_place) box_target (middle.Imm (pos type))
        (record { element = cell.words; rest = cell.rest }) inner put.words put.others 0 (desc bytes (room_for m.adts t).references) leads refl
        (reads_cell m k i w x p q hold worlds t list_place c n cell word)
        (ap (or_wrong type_check) (type_there ∙ ap (λ (y : ℕ). Some (desc y (room_for m.adts t).references)) put.whole)) put.taken put.written))
    cell_comes false h =
        let room = box_room m b number f t into j box inner i p q k w x s hold worlds room_there in
        let leads = target_leads m b number f t into j box inner i p q k w x s hold worlds room_there in
        let put = size_put m.adts k t (room_for m.adts t) cell.head cell.words inner 0 0 cell.lies room (none_there (room_for m.adts t).references h) in
        cell_goes m b t form into a apart i p here number f there in_code row j box inner q k w x s hold worlds at_last long c n cell holds put.0 put.2
        (comes_as by_bytes (is_sized_one h) (after x q leads.place put.0)
        ((lists_come frames_limit (object_of m) x q).head.bytes (own list_place) box_target (size_middle bytes)
        (record { element = cell.words; rest = cell.rest }) inner put.0 0 bytes leads
        (reads_cell m k i w x p q hold worlds t list_place c n cell word) (given_size h) put.1))

  parts_last : Next m b i p 0 k w x q
  parts_last =
      let o = work m t into a in
      let found = finds_on m b t o into (a ∷ []) number f j box inner i p q k x s here in
      let these = subst (AreThese s.stands.is.known (a ∷ [])) found.2.0 found.1 in
      let list = list_on m k i x (into ∷ []) p.frame q.frame s.stands.is f s.function_is t a
      (uses_on m b t o into (a ∷ []) number f j box inner i p q k x s here).1.0 (λ h. apart (only_one into a h)) these.0 in
      go list.refers list.value list.list list.holds list.word
    where
      go : (r : Option ℕ) (v : Value) → IsListOf k t r v → core.slot p.frame.slots a ≡ Holds v → word_at q.frame.words (pos list_place) ≡ Found (Refer r)
          → Next m b i p 0 k w x q
      go _ _ is_nil holds word =
          nil_goes m b t form into a apart i p here number f there in_code row j box inner q k w x s hold worlds at_last
          (nil_comes (has_references m.adts t) refl (reads_nil m k i w x p q hold worlds t list_place word)) holds
      go _ _ (is_cell c n formed) holds word =
          cell_comes c n (cell_there m k i w x p q hold worlds t list_place c n word formed) holds word (has_references m.adts t) refl

-- ---- the row

lasts_go : (m : typed.Module) (b : Base m) (t : Ty) (form : form_of t ≡ Boxed) (small : (room_for m.adts t).size ≤ limit) (into a : ℕ) → into ≢ a
    → (i : ℕ) (p : code.Process) → slice_get p.frame.code p.frame.pc ≡ Some (heads m t into a)
    → LastGoes m b t (work m t into a) into (a ∷ []) small (λ f known found. room_laid m.adts t found.2.1) (first_code t into a form) (is_sized m.adts t)
    (last m t into a) (head_code m t into a form) i p
lasts_go m b ty.Big form small into a apart i p here number f there in_code row j box inner q k w x s hold worlds so at_last size =
    big_last m b into a apart i p here number f there in_code row j box inner q k w x s hold worlds at_last size
lasts_go m b (ty.Tuple ts) form small into a apart i p here number f there in_code row j box inner q k w x s hold worlds so at_last size =
    parts_last m b (ty.Tuple ts) refl (λ c into a. refl) refl into a apart i p here number f there in_code row j box inner q k w x s hold worlds so at_last size
lasts_go m b (ty.Adt n) form small into a apart i p here number f there in_code row j box inner q k w x s hold worlds so at_last size =
    parts_last m b (ty.Adt n) refl (λ c into a. refl) refl into a apart i p here number f there in_code row j box inner q k w x s hold worlds so at_last size
lasts_go m b t form small into a apart i p here number f there in_code row j box inner q k w x s hold worlds so at_last size = absurd cc

heads_go : (m : typed.Module) (b : Base m) (t : Ty) (form : form_of t ≡ Boxed) (small : (room_for m.adts t).size ≤ limit) (into a : ℕ) → into ≢ a
    → InstrGoes m (Give t (Operate Head) into (a ∷ []))
heads_go m b t form small into a apart =
    sized_goes m b t (work m t into a) into (a ∷ []) small (λ f known found. room_laid m.adts t found.2.1) (first_code t into a form) (is_sized m.adts t)
    (last m t into a) (head_code m t into a form) (lasts_go m b t form small into a apart)

pub box_heads_go : BoxHeadsGo
box_heads_go m b t into from form small k i x p q ready here =
    let it = Give t (Operate Head) into from in
    let r = ready.0 in
    let known = r.stands.is.known in
    let found = finds m r.stands.is.function p.frame.pc known it r.stands.goes (code_here m k i x p q r it here) in
    let slot = one_slot known from (ty.ListOf t) (subst (AreThese known from) found.2.0 found.1) in
    let differ = subst (DiffersFrom into) slot.1 (slots_differ m r.stands.is.function p.frame.pc it (code_here m k i x p q r it here)) in
    heads_go m b t form small into slot.0 differ.0 k i x p q ready
    (here ∙ ap (λ (rs : List ℕ). Some (Give t (Operate Head) into rs)) slot.1)
