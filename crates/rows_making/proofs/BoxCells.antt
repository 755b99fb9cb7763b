-- Rows that make cells of items which have a record of their own: the list comes into the slot, the size of the item may come into the
-- linkage, and the cell is made in front of the list.
use Rattle.std.proofs.Common.{◌≡◌, ◌⊎◌, ℕ, zero, suc, ◌*◌, pos, ◌/◌, ◌<◌, Bool, true, false, List, [], ◌∷◌, ◌++◌, length, Option, Some, None, refl, sym, ap, ◌∙◌, subst, arith, inl, inr, if◌then◌else◌}
use Rattle.std.specs.Prelude.{slice_get, slice_index_or}
use Rattle.process_ways.specs.Ways.{Way}
use Rattle.heap_model.specs.Heap.{at, there}
use Rattle.heap_model.specs.Facts.{IsInner, Inner}
use Rattle.heap_model.proofs.Heap.{within}
use Rattle.limbo_types.specs.Types as ty
use Rattle.limbo_types.specs.Types.{Ty}
use Rattle.limbo_layout.specs.Adts.{Def, Has}
use Rattle.limbo_layout.specs.Layout.{Laid}
use Rattle.limbo_values.specs.declared.number.Kind.TheVariants as kind
use Rattle.limbo_typed.specs.Typed as typed
use Rattle.limbo_meaning.specs.Memory as source
use Rattle.limbo_meaning.specs.Process.{Shared}
use Rattle.limbo_meaning.specs.Values.{Value, Ref, fitted}
use Rattle.system_model.specs.Limits.{frames_limit}
use Rattle.core_code.specs.Code.{Instr}
use Rattle.core_code.specs.Machine as code
use Rattle.core_code.specs.Slots as core
use Rattle.core_code.specs.Slots.{Slot, Holds}
use Rattle.core_typing.specs.Going.{Stand, stand, behind}
use Rattle.core_typing.specs.Held as held
use Rattle.core_typing.specs.Held.{Of, type_held}
use Rattle.core_typing.specs.Needs.{Finds, IsClean}
use Rattle.dis_isa.specs.declared.inst.Inst.{Inst}
use Rattle.dis_isa.specs.declared.inst.Middle.TheVariants as middle
use Rattle.dis_isa.specs.declared.inst.Operand as isa
use Rattle.dis_isa.specs.declared.op.Op.TheVariants as op
use Rattle.dis_meaning.specs.Words.{Word, Plain, Refer, Access, Found, ◌>>=◌, word_at, number_in, or_wrong, type_check}
use Rattle.dis_meaning.specs.Process.{Process}
use Rattle.dis_memory.specs.Blocks as block
use Rattle.dis_memory.specs.Blocks.{World, next_serial}
use Rattle.dis_memory.specs.Places.{given_of}
use Rattle.value_words.specs.Forms.{Form, Cells}
use Rattle.value_words.specs.Facts.{Facts, IsName}
use Rattle.value_words.specs.Stands.{a_name}
use Rattle.value_words.proofs.Later.{name_later}
use Rattle.value_words.proofs.Wholes.{stands_whole}
use Rattle.value_heaps.proofs.Words.{named_where}
use Rattle.value_frames.specs.Frames.{Boxed, form_of, passing_place, number_place, reference_place, room_for}
use Rattle.value_frames.specs.Standing.{a_value, NamesOnly}
use Rattle.value_frames.specs.Types.{desc}
use Rattle.value_moves.specs.Operands.{Code, inst, own, of_own, behind as behind_at, fits_middle, size_middle, has_references}
use Rattle.value_moves.specs.Spots.{Leads}
use Rattle.value_moves.proofs.Leading.{spots_lead}
use Rattle.value_moves.proofs.Marked.{none_there}
use Rattle.value_code.specs.Code.{Site, code_of, named_by}
use Rattle.value_code.specs.Data.{OfValue}
use Rattle.value_code.specs.Objects.{object_of, of_function, size_at, type_number, blank_site}
use Rattle.value_code.specs.Operands.{in_box, in_slot, reference}
use Rattle.value_code.specs.Works.{cons_op, parts_middle, element_middle, element_sized}
use Rattle.value_code.proofs.Having.{objects_have}
use Rattle.number_effects.specs.Giving.{with_word}
use Rattle.number_effects.specs.Stepping.{Reaches}
use Rattle.number_effects.proofs.Reading.{operands_are_read}
use Rattle.number_effects.proofs.Records.{words_move}
use Rattle.number_effects.proofs.Stepping.{steps_obey}
use Rattle.block_effects.specs.Lists.{number_words}
use Rattle.block_effects.specs.Stored.{Comes, ReferenceThere, AfterBlock}
use Rattle.block_effects.proofs.Lists.{lists_come}
use Rattle.value_follows.specs.Stands.{scope, types_of}
use Rattle.value_follows.specs.Rooted.{PlaceAccounted}
use Rattle.value_roots.specs.Accounts.{Accounted}
use Rattle.value_follows.specs.Sides.{sides, HoldTheSame}
use Rattle.value_follows.specs.Rows.{place, is_tidied, Base, RowGoes, site_of}
use Rattle.value_follows.proofs.Putting.{word_same}
use Rattle.value_follows.proofs.Several.{Next, moved_to}
use Rattle.value_follows.proofs.Single.{Once}
use Rattle.value_follows.proofs.Slots.{number_there}
use Rattle.rows_boxes.specs.Rows.{IsSmall}
use Rattle.rows_boxes.proofs.Boxing.{only_one}
use Rattle.rows_boxes.proofs.Typed.{is_sized, sizing}
use Rattle.rows_boxes.proofs.Whole.{small_range}
use Rattle.rows_dropping.proofs.Boxed.{BoxIs, box_is, inner_there}
use Rattle.value_follows.proofs.RootedValues.{has_at}
use Rattle.rows_lists.proofs.OnTheWay.{On, frame_is, on_ready, on_way, reaches_it, row_here, row_code}
use Rattle.rows_lists.proofs.New.{value_made}
use Rattle.rows_lists.proofs.Coming.{reference_there, block_comes}
use Rattle.rows_lists.proofs.Needing.{found, next_on, goes_on_behind}
use Rattle.rows_lists.proofs.Busy.{busy_alone, unnamed}
use Rattle.rows_lists.proofs.Blocks.{word_leads}
use Rattle.rows_lists.proofs.Passing.{passing_word, passed, goes_by}
use Rattle.rows_lists.proofs.Cells.{CellOf, cell_stands}
use Rattle.rows_lists.proofs.Linking.{ListHere, made_so}
use Rattle.rows_lists.proofs.Making.{list_comes, name_accounted}
use Rattle.rows_making.proofs.Cells.{big_cell, no_reference, box_cell, box_outer, typed_element, plain_element}

-- ---- the code

-- the instruction that makes the cell
abbrev pub cons_at : Ty → (into a : ℕ) → Site → Inst
cons_at t into a c =
    inst (cons_op (has_references c.scene.adts t) t) (in_slot c.scene t a) (element_middle c.scene.adts t (c.type_number (OfValue t)))
    (reference c.scene into)

both_ifs : (z : Code) (c g : Bool) → (if c then [] else (if g then [] else z)) ≡ (if (if c then false else (if g then false else true)) then z else [])
both_ifs z true g = refl
both_ifs z false true = refl
both_ifs z false false = refl

sized_so : (defs : List Def) (t : Ty) → form_of t ≡ Boxed → element_sized defs t ≡ (if is_sized defs t then sizing (room_for defs t).size ∷ [] else [])
sized_so defs ty.Big e = refl
sized_so defs (ty.Tuple ts) e =
    both_ifs (sizing (room_for defs (ty.Tuple ts)).size ∷ []) (has_references defs (ty.Tuple ts)) (fits_middle (pos (room_for defs (ty.Tuple ts)).size))
sized_so defs (ty.Adt n) e =
    both_ifs (sizing (room_for defs (ty.Adt n)).size ∷ []) (has_references defs (ty.Adt n)) (fits_middle (pos (room_for defs (ty.Adt n)).size))
sized_so defs t e = absurd cc

-- A value of parts goes by its type or as so many bytes.
record HasParts (m : typed.Module) (item : Ty) (into a : ℕ) : Type 0 where
  cons : (c : Site) → cons_at item into a c
      ≡ inst (if has_references c.scene.adts item then op.Consmp else op.Consm) (in_box c.scene a 0)
      (parts_middle (has_references c.scene.adts item) (c.type_number (OfValue item)) (room_for c.scene.adts item).size) (reference c.scene into)
  sized : is_sized m.adts item
      ≡ (if has_references m.adts item then false else (if fits_middle (pos (room_for m.adts item).size) then false else true))

kind_of_item : (m : typed.Module) (item : Ty) (into a : ℕ) → form_of item ≡ Boxed → (item ≡ ty.Big) ⊎ HasParts m item into a
kind_of_item m ty.Big into a e = inl refl
kind_of_item m (ty.Tuple ts) into a e = inr (record { cons = λ c. refl; sized = refl })
kind_of_item m (ty.Adt n) into a e = inr (record { cons = λ c. refl; sized = refl })
kind_of_item m item into a e = absurd cc

named_outer : (k : Facts) (asked : Form) (c : ℕ) (n : Option ℕ) → IsName k (Some asked) (Some c) n → Inner k c → ⊥
named_outer k asked c None i h = i
named_outer k asked c (Some n) i h = subst IsInner i.fact h

-- An instruction whose row makes a cell of an item of a type that a slot has.
pub record MakesBoxCell (m : typed.Module) (instr : Instr) (into a : ℕ) (item : Ty) (list : List Def → List Ty → isa.Operand) (live : List ℕ)
    : Type 0 where
  pub code : (c : Site) → code_of c instr
      ≡ inst op.Movp (list c.scene.adts c.scene.variables) middle.None (own (reference_place c.scene.adts c.scene.variables into))
      ∷ (element_sized c.scene.adts item ++ (cons_at item into a c ∷ []))
  pub plain : is_tidied instr ≡ false
  pub named : (answer : Ty) (told : ℕ → Ty) → Has (named_by m.adts answer told instr) (OfValue item)
  pub behind : (pc : ℕ) (known : held.Slots) → behind m.adts pc known instr ≡ stand (suc pc) (held.put known into (Of (ty.ListOf item) live)) ∷ []
  pub names : (n : ℕ) → NamesOnly live (Ref (Some n))
  pub known : (f : typed.Function) (slots : held.Slots) → Finds (scope m f) f.of.answer slots instr → type_held (held.slot slots a) ≡ Some item
  pub laid : (f : typed.Function) (slots : held.Slots) → Finds (scope m f) f.of.answer slots instr → Laid m.adts item (room_for m.adts item)

module _ (m : typed.Module) (b : Base m) (instr : Instr) (into a : ℕ) (item : Ty) (form : form_of item ≡ Boxed) (small : IsSmall m item)
    (apart : a ≡ into → ⊥) (list : List Def → List Ty → isa.Operand) (live : List ℕ) (row : MakesBoxCell m instr into a item list live)
    (i : ℕ) (p : code.Process) (here : slice_get p.frame.code p.frame.pc ≡ Some instr) (few : into < length p.frame.slots)
    (few_a : a < length p.frame.slots) (n : ℕ) (f : typed.Function) where
  abbrev bytes : ℕ
  bytes = (room_for m.adts item).size

  abbrev to : ℕ
  to = reference_place m.adts (types_of m f) into

  abbrev from : ℕ
  from = reference_place m.adts (types_of m f) a

  abbrev sizes : Bool → Code
  sizes c = if c then sizing bytes ∷ [] else []

  code_is : (c : Site) → c.scene.adts ≡ m.adts → code_of c instr
      ≡ inst op.Movp (list c.scene.adts c.scene.variables) middle.None (own (reference_place c.scene.adts c.scene.variables into))
      ∷ (sizes (is_sized m.adts item) ++ (cons_at item into a c ∷ []))
  code_is c same =
      row.code c
      ∙ ap (λ (z : Code). inst op.Movp (list c.scene.adts c.scene.variables) middle.None (own (reference_place c.scene.adts c.scene.variables into))
      ∷ (z ++ (cons_at item into a c ∷ []))) (ap (λ (d : List Def). element_sized d item) same ∙ sized_so m.adts item form)

  size_is : (pc : ℕ) → size_at m f.of.answer (of_function m f) pc (Some instr)
      ≡ suc (length (sizes (is_sized m.adts item) ++ (cons_at item into a (blank_site m f.of.answer (of_function m f) pc) ∷ [])))
  size_is pc = ap (λ (c : Code). length c) (code_is (blank_site m f.of.answer (of_function m f) pc) refl)

  long_once : is_sized m.adts item ≡ false → (pc : ℕ) → size_at m f.of.answer (of_function m f) pc (Some instr) ≡ 2
  long_once e pc =
      size_is pc ∙ ap (λ (c : Bool). suc (length (sizes c ++ (cons_at item into a (blank_site m f.of.answer (of_function m f) pc) ∷ [])))) e

  long_twice : is_sized m.adts item ≡ true → (pc : ℕ) → size_at m f.of.answer (of_function m f) pc (Some instr) ≡ 3
  long_twice e pc =
      size_is pc ∙ ap (λ (c : Bool). suc (length (sizes c ++ (cons_at item into a (blank_site m f.of.answer (of_function m f) pc) ∷ [])))) e

  -- where the size comes first, it is there
  abbrev SizeHere : Bool → Process → Type 0
  SizeHere true q = word_at q.frame.words (pos passing_place) ≡ Found (Plain (pos bytes))
  SizeHere false q = Unit {0}

  -- ---- the last instruction

  module _ (j : ℕ) (k : Facts) (w : Shared) (x : World) (q : Process) (on : On m k i x (into ∷ []) n f j p q) (hold : HoldTheSame m k i x p q)
      (worlds : (sides m).worlds k w x) (rest name : Option ℕ) (before : word_at q.frame.words (pos to) ≡ Found (Refer rest))
      (named : IsName k (Some (Cells item)) rest name) (size_here : SizeHere (is_sized m.adts item) q)
      (size : size_at m f.of.answer (of_function m f) p.frame.pc (Some instr) ≡ suc j) where
    abbrev site : Site
    site = site_of m n f p.frame.pc (row_here m b i p q (into ∷ []) n f j k w x on hold worlds instr here).at

    abbrev last : Inst
    last = cons_at item into a site

    abbrev finds_here : Finds (scope m f) f.of.answer on.known instr
    finds_here = found m k i x (into ∷ []) n f j p q on instr here

    laid : Laid m.adts item (room_for m.adts item)
    laid = row.laid f on.known finds_here

    idle : Has (into ∷ []) a → ⊥
    idle h = apart (sym (only_one into a h))

    box : BoxIs m k i w x p q (into ∷ []) (frame_is m k i x (into ∷ []) n f j p q on) hold worlds a few_a idle item form (row.known f on.known finds_here)
    box = box_is m k i w x p q (into ∷ []) (frame_is m k i x (into ∷ []) n f j p q on) hold worlds a few_a idle item form (row.known f on.known finds_here)

    -- where the item is
    source_at : isa.Operand
    source_at = behind_at from 0

    leads : Leads x q (behind_at from 0) box.inner 0
    leads = (spots_lead.inner x q from box.block box.inner 0 box.word box.there).0

    abbrev d : ReferenceThere x q (own to)
    d = reference_there m b k i w x (into ∷ []) n f j p q on hold worlds into few (busy_alone into) rest before

    -- The instruction makes a cell with these words.
    record CellMade : Type 0 where
      words : List Word
      cell : CellOf m.adts k item box.value words
      outer : (u c : ℕ) → slice_get words u ≡ Some (Refer (Some c)) → (there (at x.heap c) ≡ true) × (Inner k c → ⊥)
      comes : Comes frames_limit (object_of m) x q last (AfterBlock x q d (block.Cell words rest))

    comes_as : (one : Inst) → last ≡ one → (words : List Word) → Comes frames_limit (object_of m) x q one (AfterBlock x q d (block.Cell words rest))
        → Comes frames_limit (object_of m) x q last (AfterBlock x q d (block.Cell words rest))
    comes_as one e words g = subst (λ (y : Inst). Comes frames_limit (object_of m) x q y (AfterBlock x q d (block.Cell words rest))) (sym e) g

    -- of a big
    big_made : item ≡ ty.Big → CellMade
    big_made e =
        let z = number_there m.adts k box.inner 0 item box.value kind.Big e box.boxes.1 in
        record {
          words = number_words kind.Big z.number;
          cell = subst (λ (u : Ty). CellOf m.adts k u box.value (number_words kind.Big z.number)) (sym e)
              (subst (λ (v : Value). CellOf m.adts k ty.Big v (number_words kind.Big z.number)) (sym z.is) (big_cell m.adts k z.number z.range));
          outer = λ u c h. absurd (no_reference z.number u (Some c) h);
          comes = comes_as (inst op.Consl (behind_at from 0) middle.None (own to)) (ap (λ (u : Ty). cons_at u into a site) e)
              (number_words kind.Big z.number)
              ((lists_come frames_limit (object_of m) x q).make.number kind.Big (behind_at from 0) (own to) middle.None z.number d
              (operands_are_read.source_number x q (behind_at from 0) box.inner 0 kind.Big leads ∙ z.found));
        }

    -- of a value of parts
    abbrev type : ℕ
    type = type_number m (OfValue item)

    type_there : slice_get (object_of m).types type ≡ Some (desc bytes (room_for m.adts item).references)
    type_there =
        objects_have.types m n f p.frame.pc instr (OfValue item) on.there (row_code m k i x (into ∷ []) n f j p q on instr here) (row.named _ _)

    given_size : HasParts m item into a → has_references m.adts item ≡ false → given_of kind.Int x q (size_middle bytes) ≡ Found (pos bytes)
    given_size parts h = go (fits_middle (pos bytes)) refl
      where
        go : (c : Bool) → fits_middle (pos bytes) ≡ c → given_of kind.Int x q (size_middle bytes) ≡ Found (pos bytes)
        go true e =
            ap (λ (g : Bool). given_of kind.Int x q (if g then middle.Imm (pos bytes) else of_own passing_place)) e
            ∙ operands_are_read.middle_given x q kind.Int (pos bytes)
        go false e =
            let sized : is_sized m.adts item ≡ true =
            parts.sized ∙ ap (λ (g : Bool). if g then false else (if fits_middle (pos bytes) then false else true)) h
            ∙ ap (λ (g : Bool). if g then false else true) e in
            ap (λ (g : Bool). given_of kind.Int x q (if g then middle.Imm (pos bytes) else of_own passing_place)) e
            ∙ operands_are_read.own_number x q kind.Int passing_place
            ∙ ap (λ (w : Access Word). w >>= number_in) (subst (λ (g : Bool). SizeHere g q) sized size_here)

    box_led : (u c : ℕ) → slice_get box.inner u ≡ Some (Refer (Some c)) → (there (at x.heap c) ≡ true) × (Inner k c → ⊥)
    box_led u c e = (
      inner_there m k i w x p q (into ∷ []) (frame_is m k i x (into ∷ []) n f j p q on) hold worlds box.block box.inner box.there c
          (has_at box.inner u (Refer (Some c)) e),
      box_outer m.adts item laid k box.value box.inner box.boxes u c e,
    )

    parts_made : HasParts m item into a → (h : Bool) → has_references m.adts item ≡ h → CellMade
    parts_made parts true h = record {
      words = box.inner;
      cell = box_cell m.adts item laid k box.value box.inner box.boxes;
      outer = box_led;
      comes = comes_as (inst op.Consmp (behind_at from 0) (middle.Imm (pos type)) (own to))
          (parts.cons site ∙ ap (λ (c : Bool). inst (if c then op.Consmp else op.Consm) (behind_at from 0) (parts_middle c type bytes) (own to)) h)
          box.inner
          ((lists_come frames_limit (object_of m) x q).make.typed (behind_at from 0) (own to) (middle.Imm (pos type)) box.inner box.inner 0
          (desc bytes (room_for m.adts item).references) d leads refl (ap (or_wrong type_check) type_there)
          (typed_element m.adts item laid k box.value box.inner box.boxes h));
    }
    parts_made parts false h =
        let put = plain_element m.adts item laid k box.value h box.inner box.boxes in
        record {
          words = put.0;
          cell = box_cell m.adts item laid k box.value put.0 put.2;
          outer = λ u c e. absurd (none_there (room_for m.adts item).references h (4 * u) (put.2.0.only u (Some c) e));
          comes = comes_as (inst op.Consm (behind_at from 0) (size_middle bytes) (own to))
              (parts.cons site ∙ ap (λ (c : Bool). inst (if c then op.Consmp else op.Consm) (behind_at from 0) (parts_middle c type bytes) (own to)) h)
              put.0
              ((lists_come frames_limit (object_of m) x q).make.bytes (behind_at from 0) (own to) (size_middle bytes) box.inner put.0 0 bytes d leads
              (given_size parts h) put.1);
        }

    cell_made : (item ≡ ty.Big) ⊎ HasParts m item into a → CellMade
    cell_made (inl e) = big_made e
    cell_made (inr parts) = parts_made parts (has_references m.adts item) refl

    module _ (does : (sides m).program.step w p ≡ made_so m w p into (fitted m.adts item (core.value_of (core.slot p.frame.slots a))) name)
        (at_last : slice_get (code_of site instr) j ≡ Some last) where
      is_reached : Reaches (object_of m ∷ []) x q (object_of m) last
      is_reached = reaches_it m b i p q (into ∷ []) n f j k w x on hold worlds instr here last at_last

      rest_outer : (c : ℕ) → rest ≡ Some c → (there (at x.heap c) ≡ true) × (Inner k c → ⊥)
      rest_outer c same = (
        word_leads m k i x p q hold to rest before c same,
        named_outer k (Cells item) c name (subst (λ (o : Option ℕ). IsName k (Some (Cells item)) o name) same named),
      )

      last_goes : Once m b i p q k w x
      last_goes =
          let c = cell_made (kind_of_item m item into a form) in
          let new = block.Cell c.words rest in
          let made = value_made m k i w x worlds new (Some (Cells item)) (λ r h. all_outer c r (named_where (Refer rest ∷ c.words) r h))
          (source.Cell box.value name)
          (λ now grows known formed. cell_stands m k now grows (next_serial x) item box.value c.words c.cell rest name named
          (λ r e. within x.heap r (rest_outer r e).0) formed) in
          let e = row.behind p.frame.pc on.known in
          let next = stand (suc p.frame.pc) (held.put on.known into (Of (ty.ListOf item) live)) in
          block_comes m b k i w x (into ∷ []) n f j p q on hold worlds into few (busy_alone into) last is_reached rest before new c.comes
          made.now (record { heap = w.heap ++ Some (source.Cell box.value name) ∷ []; outside = w.outside }) made.made made.after
          (ty.ListOf item) live (Ref (Some (length w.heap)))
          (λ ws g.
          a_value ws (number_place m.adts (types_of m f) into) to (ty.ListOf item) live (Ref (Some (length w.heap)))
          (a_name to (ty.ListOf item) (Some (next_serial x)) (Some (length w.heap)) tt g (record { fact = made.known; formed = made.formed }))
          (row.names (length w.heap)))
          (next_on m k i x (into ∷ []) n f j p q on instr here (suc j) size refl)
          (goes_on_behind m k i x (into ∷ []) n f j p q on instr here 0 (suc p.frame.pc) (held.put on.known into (Of (ty.ListOf item) live))
          (subst (λ (l : List Stand). 0 < length l) (sym e) (omega arith)) (ap (λ (l : List Stand). slice_index_or l 0 next) e))
          (does
          ∙ ap (λ (s : Slot). made_so m w p into (fitted m.adts item (core.value_of s)) name) box.holds
          ∙ ap (λ (v : Value). made_so m w p into v name) (sym (stands_whole m.adts k box.inner 0 item box.value box.boxes.1)))
        where
          all_outer : (c : CellMade) → (r : ℕ) → (u : ℕ) × (slice_get (Refer rest ∷ c.words) u ≡ Some (Refer (Some r)))
              → (there (at x.heap r) ≡ true) × (Inner k r → ⊥)
          all_outer c r (zero, e) = let same : rest ≡ Some r = cc in rest_outer r same
          all_outer c r (suc u, e) = c.outer u r e

  -- ---- the way there

  -- What is at hand in front of the row: the list, and what the other comes to.
  pub record ListGiven (k : Facts) (w : Shared) (x : World) (q : Process) (on : On m k i x [] n f 0 p q) (hold : HoldTheSame m k i x p q)
      (worlds : (sides m).worlds k w x) : Type 0 where
    pub name : Option ℕ
    pub rest : ListHere m b k i w x n f p q on hold worlds item (list m.adts (types_of m f)) name
    pub does : (v : Shared) → (sides m).program.step v p ≡ made_so m v p into (fitted m.adts item (core.value_of (core.slot p.frame.slots a))) name

  -- once the list is in the slot
  abbrev with_list : Process → Option ℕ → Process
  with_list q r = moved_to q (suc q.frame.pc) (with_word q.frame.words to (Refer r))

  last_at : (j : ℕ) (site : Site) → site.scene.adts ≡ m.adts
      → slice_get (sizes (is_sized m.adts item) ++ (cons_at item into a site ∷ [])) j ≡ Some (cons_at item into a site)
      → slice_get (code_of site instr) (suc j) ≡ Some (cons_at item into a site)
  last_at j site same e = ap (λ (c : Code). slice_get c (suc j)) (code_is site same) ∙ e

  way_once : is_sized m.adts item ≡ false → (k : Facts) (x : World) (q : Process) (on : On m k i x (into ∷ []) n f 1 p q) → HoldTheSame m k i x p q
      → (rest name : Option ℕ) → word_at q.frame.words (pos to) ≡ Found (Refer rest) → IsName k (Some (Cells item)) rest name
      → ((v : Shared) → (sides m).program.step v p ≡ made_so m v p into (fitted m.adts item (core.value_of (core.slot p.frame.slots a))) name)
      → Way (sides m) (place m) 1 k i x p q
  way_once e k x q on hold rest name before named does =
      on_way m b i p q (into ∷ []) n f 1 0 k x on hold (λ now v y more on' hold' worlds'.
      let site = site_of m n f p.frame.pc (row_here m b i p q (into ∷ []) n f 1 now v y on' hold' worlds' instr here).at in
      last_goes 1 now v y q on' hold' worlds' rest name before (name_later m.adts k now [] more (Some (Cells item)) rest name named)
      (subst (λ (c : Bool). SizeHere c q) (sym e) tt) (long_once e p.frame.pc) (does v)
      (last_at 0 site refl (ap (λ (c : Bool). slice_get (sizes c ++ (cons_at item into a site ∷ [])) 0) e)))

  -- the size comes into the linkage
  way_twice : is_sized m.adts item ≡ true → (k : Facts) (x : World) (q : Process) (on : On m k i x (into ∷ []) n f 1 p q) → HoldTheSame m k i x p q
      → (rest name : Option ℕ) → word_at q.frame.words (pos to) ≡ Found (Refer rest) → IsName k (Some (Cells item)) rest name
      → ((c : ℕ) → name ≡ Some c → 0 < code.process_names p c) → ((o : ℕ) → core.slot_names (core.slot p.frame.slots into) o ≡ 0)
      → ((v : Shared) → (sides m).program.step v p ≡ made_so m v p into (fitted m.adts item (core.value_of (core.slot p.frame.slots a))) name)
      → Way (sides m) (place m) 2 k i x p q
  way_twice e k x q on hold rest name before named held none does =
      on_way m b i p q (into ∷ []) n f 1 1 k x on hold (λ now v y more on' hold' worlds'.
      let named' = name_later m.adts k now [] more (Some (Cells item)) rest name named in
      let site = site_of m n f p.frame.pc (row_here m b i p q (into ∷ []) n f 1 now v y on' hold' worlds' instr here).at in
      let old = passing_word m.adts (types_of m f) (length p.frame.slots) q.frame.words on'.words.laid on'.words.kind in
      let lead = spots_lead.own y q passing_place in
      let stored = words_move.word frames_limit (object_of m) y q (sizing bytes) (Plain (pos bytes)) q.frame.words passing_place lead.0 old.old refl
      (operands_are_read.source_plain_given y q (pos bytes)) old.plainly in
      let words = with_word q.frame.words passing_place (Plain (pos bytes)) in
      let r = moved_to q (suc q.frame.pc) words in
      let after = passed m now i y (into ∷ []) n f 1 p q on' words 4 (omega arith) stored.0.changes
      (stored.0.ranged (λ z g. small_range bytes z small g) on'.words.kind.ranged) in
      let same : word_at words (pos to) ≡ word_at q.frame.words (pos to) =
      word_same q.frame.words words to (stored.0.changes.words (to / 4) (inr (omega arith))) in
      goes_by m b i p n f now v y (into ∷ []) (into ∷ []) 1 q r on' hold' worlds' instr here row.plain
      (subst (λ (s : ℕ). 2 < s) (sym (long_twice e p.frame.pc)) (omega arith))
      (steps_obey.stores frames_limit (object_of m ∷ []) y q (object_of m) (sizing bytes) y lead.0.place words _
      (reaches_it m b i p q (into ∷ []) n f 1 now v y on' hold' worlds' instr here (sizing bytes)
      (ap (λ (c : Code). slice_get c 1) (code_is site refl) ∙ ap (λ (c : Bool). slice_get (sizes c ++ (cons_at item into a site ∷ [])) 0) e))
      stored.1 (lead.1 words))
      after
      (on_its_way now y words rest (same ∙ before) (name_accounted now i y (code.process_names p) (Cells item) rest name named' held))
      (λ s o h g. let z = none o in let y = ap (λ (a : ℕ). core.slot_names (core.slot p.frame.slots a) o) (only_one into s h) in absurd (omega (arith, z, y, g)))
      1
      (λ held_same. on_way m b i p r (into ∷ []) n f 2 0 now y after held_same (λ last u z grows on'' hold'' worlds''.
      let next = site_of m n f p.frame.pc (row_here m b i p r (into ∷ []) n f 2 last u z on'' hold'' worlds'' instr here).at in
      last_goes 2 last u z r on'' hold'' worlds'' rest name (same ∙ before) (name_later m.adts now last [] grows (Some (Cells item)) rest name named')
      (subst (λ (c : Bool). SizeHere c r) (sym e) stored.0.there) (long_twice e p.frame.pc) (does u)
      (last_at 1 next refl (ap (λ (c : Bool). slice_get (sizes c ++ (cons_at item into a next ∷ [])) 1) e)))))
    where
      same_refer : (a c : Option ℕ) → ◌≡◌ {A = Access Word} (Found (Refer a)) (Found (Refer c)) → a ≡ c
      same_refer a c e = cc

      on_its_way : (now : Facts) (y : World) (words : List Word) (rest : Option ℕ) → word_at words (pos to) ≡ Found (Refer rest)
          → Accounted now i y.heap (code.process_names p) (Refer rest) → (s : ℕ) → Has (into ∷ []) s
          → PlaceAccounted m now i y (code.process_names p) (moved_to q (suc q.frame.pc) words).frame (reference_place m.adts (types_of m f) s)
      on_its_way now y words rest here_so accounted s (inl e) o g =
          let at = subst (λ (u : ℕ). word_at words (pos (reference_place m.adts (types_of m f) u)) ≡ Found (Refer o)) (sym e) g in
          subst (λ (c : Option ℕ). Accounted now i y.heap (code.process_names p) (Refer c)) (same_refer rest o (sym here_so ∙ at)) accounted
      on_its_way now y words rest here_so accounted s (inr h) o g = absurd h

  -- the list comes into the slot first
  begins : (l : ℕ) → (k : Facts) (w : Shared) (x : World) (q : Process) (on : On m k i x [] n f 0 p q) (hold : HoldTheSame m k i x p q)
      (worlds : (sides m).worlds k w x) → (clean : IsClean (held.slot on.known into)) → (name : Option ℕ)
      → (h : ListHere m b k i w x n f p q on hold worlds item (list m.adts (types_of m f)) name)
      → 1 < size_at m f.of.answer (of_function m f) p.frame.pc (Some instr)
      → (On m k i x (into ∷ []) n f 1 p (with_list q h.rest) → HoldTheSame m k i x p (with_list q h.rest)
      → word_at (with_list q h.rest).frame.words (pos to) ≡ Found (Refer h.rest)
      → ((o : ℕ) → core.slot_names (core.slot p.frame.slots into) o ≡ 0) → Way (sides m) (place m) l k i x p (with_list q h.rest))
      → Next m b i p l k w x q
  begins l k w x q on hold worlds clean name h more way =
      let site = site_of m n f p.frame.pc (row_here m b i p q [] n f 0 k w x on hold worlds instr here).at in
      list_comes m b i p n f k w x q 0 on hold worlds into few clean instr here row.plain more (list m.adts (types_of m f)) h.rest h.read
      (reaches_it m b i p q [] n f 0 k w x on hold worlds instr here (inst op.Movp (list m.adts (types_of m f)) middle.None (own to))
      (ap (λ (c : Code). slice_get c 0) (code_is site refl)))
      (name_accounted k i x (code.process_names p) (Cells item) h.rest name h.named h.held) l
      (λ stored after still. way after still stored.there (unnamed m k i x n f 0 p q on into few clean))

-- ---- the row

module _ (m : typed.Module) (b : Base m) (instr : Instr) (into a : ℕ) (item : Ty) (form : form_of item ≡ Boxed) (small : IsSmall m item)
    (apart : a ≡ into → ⊥) (list : List Def → List Ty → isa.Operand) (live : List ℕ) (row : MakesBoxCell m instr into a item list live)
    (i : ℕ) (p : code.Process) (here : slice_get p.frame.code p.frame.pc ≡ Some instr) (few : into < length p.frame.slots)
    (few_a : a < length p.frame.slots) where
  pub box_cell_goes : (k : Facts) (x : World) (q : Process) (r : (sides m).ready k i x p q)
      → ((now : Facts) (w : Shared) (y : World) (on : On m now i y [] r.0.stands.is.number r.0.stands.is.function 0 p q)
      (hold : HoldTheSame m now i y p q) (worlds : (sides m).worlds now w y) → IsClean (held.slot on.known into)
      × ListGiven m b instr into a item form small apart list live row i p here few few_a r.0.stands.is.number r.0.stands.is.function now w y q on hold worlds)
      → RowGoes m k i x p q
  box_cell_goes k x q r given = go (is_sized m.adts item) refl
    where
      go : (c : Bool) → is_sized m.adts item ≡ c → RowGoes m k i x p q
      go false e =
          let n = r.0.stands.is.number in
          let f = r.0.stands.is.function in (
            1,
            on_way m b i p q [] n f 0 1 k x (on_ready m i p q k x r.0) r.1 (λ now w y grows on hold worlds.
                let g = given now w y on hold worlds in
                begins m b instr into a item form small apart list live row i p here few few_a n f 1 now w y q on hold worlds g.0 g.1.name g.1.rest
                (subst (λ (s : ℕ). 1 < s) (sym (long_once m b instr into a item form small apart list live row i p here few few_a n f e p.frame.pc)) (omega arith))
                (λ after still there none.
                way_once m b instr into a item form small apart list live row i p here few few_a n f e now y
                (with_list m b instr into a item form small apart list live row i p here few few_a n f q g.1.rest.rest) after still
                g.1.rest.rest g.1.name there g.1.rest.named g.1.does)),
          )
      go true e =
          let n = r.0.stands.is.number in
          let f = r.0.stands.is.function in (
            2,
            on_way m b i p q [] n f 0 2 k x (on_ready m i p q k x r.0) r.1 (λ now w y grows on hold worlds.
                let g = given now w y on hold worlds in
                begins m b instr into a item form small apart list live row i p here few few_a n f 2 now w y q on hold worlds g.0 g.1.name g.1.rest
                (subst (λ (s : ℕ). 1 < s) (sym (long_twice m b instr into a item form small apart list live row i p here few few_a n f e p.frame.pc)) (omega arith))
                (λ after still there none.
                way_twice m b instr into a item form small apart list live row i p here few few_a n f e now y
                (with_list m b instr into a item form small apart list live row i p here few few_a n f q g.1.rest.rest) after still
                g.1.rest.rest g.1.name there g.1.rest.named g.1.rest.held none g.1.does)),
          )
