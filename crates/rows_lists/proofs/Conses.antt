-- Rows that make cells: two instructions.
use Rattle.std.proofs.Common.{◌≡◌, ℕ, suc, ◌<◌, true, false, List, [], ◌∷◌, ◌++◌, length, Option, Some, refl, sym, ap, subst, arith}
use Rattle.std.specs.Prelude.{slice_get, slice_index_or}
use Rattle.process_model.specs.Process.{Went}
use Rattle.heap_model.specs.Heap.{at, there}
use Rattle.heap_model.specs.Facts.{Inner}
use Rattle.limbo_types.specs.Types as ty
use Rattle.limbo_types.specs.Types.{Ty}
use Rattle.limbo_layout.specs.Adts.{Def}
use Rattle.limbo_typed.specs.Typed as typed
use Rattle.limbo_meaning.specs.Memory as source
use Rattle.limbo_meaning.specs.Process.{Shared}
use Rattle.limbo_meaning.specs.Values.{Value, Ref}
use Rattle.system_model.specs.Limits.{frames_limit}
use Rattle.core_code.specs.Code.{Instr}
use Rattle.core_code.specs.Machine as code
use Rattle.core_code.specs.Slots as core
use Rattle.core_code.specs.Slots.{Slot, Holds}
use Rattle.core_typing.specs.Held as held
use Rattle.core_typing.specs.Held.{Of}
use Rattle.core_typing.specs.Needs.{IsClean}
use Rattle.core_typing.specs.Going.{Stand, stand, behind}
use Rattle.dis_isa.specs.declared.inst.Inst.{Inst}
use Rattle.dis_isa.specs.declared.inst.Operand as isa
use Rattle.dis_isa.specs.declared.inst.Middle.TheVariants as middle
use Rattle.dis_isa.specs.declared.op.Op.TheVariants as op
use Rattle.dis_meaning.specs.Words.{Word, Refer, Found}
use Rattle.dis_meaning.specs.Process.{Process}
use Rattle.dis_memory.specs.Blocks as block
use Rattle.dis_memory.specs.Blocks.{World}
use Rattle.dis_memory.specs.Places.{source_reference}
use Rattle.value_words.specs.Forms.{Cells}
use Rattle.value_words.specs.Facts.{Facts, Grows, IsName}
use Rattle.value_words.proofs.Later.{name_later}
use Rattle.value_frames.specs.Frames.{reference_place}
use Rattle.value_frames.specs.Standing.{NamesOnly}
use Rattle.value_moves.specs.Operands.{Code, inst, own}
use Rattle.value_code.specs.Objects.{object_of, of_function, blank_site, size_at}
use Rattle.value_code.specs.Code.{Site, code_of}
use Rattle.number_effects.specs.Giving.{with_word, WordStored}
use Rattle.block_effects.specs.Stored.{Comes, ReferenceThere, AfterBlock}
use Rattle.value_follows.specs.Stands.{types_of}
use Rattle.value_follows.specs.Sides.{sides, HoldTheSame}
use Rattle.value_follows.specs.Rows.{is_tidied, Base, RowGoes, site_of}
use Rattle.value_follows.proofs.Several.{moved_to}
use Rattle.rows_lists.proofs.OnTheWay.{On, on_ready, on_way, reaches_it, row_here}
use Rattle.rows_lists.proofs.Needing.{next_on, goes_on_behind}
use Rattle.rows_lists.proofs.Cells.{CellOf, cell_later}
use Rattle.rows_lists.proofs.Making.{cell_comes, list_comes, name_accounted}

-- An instruction whose row makes a cell: the list comes into the slot, and the cell in front of it.
pub record MakesCell (m : typed.Module) (instr : Instr) (into : ℕ) (item : Ty) (list : List Def → List Ty → isa.Operand)
    (cons : List Def → List Ty → Inst) (live : List ℕ) : Type 0 where
  pub code : (c : Site) → code_of c instr
      ≡ inst op.Movp (list c.scene.adts c.scene.variables) middle.None (own (reference_place c.scene.adts c.scene.variables into))
      ∷ cons c.scene.adts c.scene.variables ∷ []
  pub plain : is_tidied instr ≡ false
  pub behind : (pc : ℕ) (known : held.Slots) → behind m.adts pc known instr ≡ stand (suc pc) (held.put known into (Of (ty.ListOf item) live)) ∷ []
  pub names : (n : ℕ) → NamesOnly live (Ref (Some n))

module _ (m : typed.Module) (b : Base m) (instr : Instr) (into : ℕ) (item : Ty) (list : List Def → List Ty → isa.Operand)
    (cons : List Def → List Ty → Inst) (live : List ℕ) (row : MakesCell m instr into item list cons live) (i : ℕ) (p : code.Process) (q : Process)
    (here : slice_get p.frame.code p.frame.pc ≡ Some instr) where
  abbrev pub with_list : typed.Function → Option ℕ → Process
  with_list f r = moved_to q (suc q.frame.pc) (with_word q.frame.words (reference_place m.adts (types_of m f) into) (Refer r))

  -- What is at hand in front of it: the list and the item.
  pub record Given (k : Facts) (x : World) (f : typed.Function) : Type 0 where
    pub rest : Option ℕ
    pub name : Option ℕ
    pub read : source_reference x q (list m.adts (types_of m f)) ≡ Found rest
    pub named : IsName k (Some (Cells item)) rest name
    pub held : (a : ℕ) → name ≡ Some a → 0 < code.process_names p a
    pub value : Value
    pub words : List Word
    pub cell : CellOf m.adts k item value words
    pub others : WordStored q.frame.words (reference_place m.adts (types_of m f) into) (Refer rest) → (now : Facts) (y : World) → Grows k now
        → HoldTheSame m now i y p (with_list f rest) → (u c : ℕ) → slice_get words u ≡ Some (Refer (Some c))
        → (there (at y.heap c) ≡ true) × (Inner now c → ⊥)
    pub comes : WordStored q.frame.words (reference_place m.adts (types_of m f) into) (Refer rest) → (y : World)
        → (d : ReferenceThere y (with_list f rest) (own (reference_place m.adts (types_of m f) into)))
        → Comes frames_limit (object_of m) y (with_list f rest) (cons m.adts (types_of m f)) (AfterBlock y (with_list f rest) d (block.Cell words d.old))
    pub does : (w : Shared) → (sides m).program.step w p
        ≡ Went (record { heap = w.heap ++ Some (source.Cell value name) ∷ []; outside = w.outside })
        (code.with_frames p (code.at p.frame (suc p.frame.pc) p.frame.variables (core.put p.frame.slots into (Holds (Ref (Some (length w.heap)))))) p.below)

  pub cell_goes : (into < length p.frame.slots) → (k : Facts) (x : World) (r : (sides m).ready k i x p q)
      → ((now : Facts) (w : Shared) (y : World) → (on : On m now i y [] r.0.stands.is.number r.0.stands.is.function 0 p q) → HoldTheSame m now i y p q
      → (sides m).worlds now w y → IsClean (held.slot on.known into) × Given now y r.0.stands.is.function)
      → RowGoes m k i x p q
  cell_goes l k x r given =
      let n = r.0.stands.is.number in
      let f = r.0.stands.is.function in
      let size : size_at m f.of.answer (of_function m f) p.frame.pc (Some instr) ≡ 2 =
      ap (λ (c : Code). length c) (row.code (blank_site m f.of.answer (of_function m f) p.frame.pc)) in (
        1,
        on_way m b i p q [] n f 0 1 k x (on_ready m i p q k x r.0) r.1 (λ now w y grows on hold worlds.
            let g = given now w y on hold worlds in
            let it = g.1 in
            let site = site_of m n f p.frame.pc (row_here m b i p q [] n f 0 now w y on hold worlds instr here).at in
            list_comes m b i p n f now w y q 0 on hold worlds into l g.0 instr here row.plain (omega (arith, size)) (list m.adts (types_of m f)) it.rest it.read
            (reaches_it m b i p q [] n f 0 now w y on hold worlds instr here
            (inst op.Movp (list m.adts (types_of m f)) middle.None (own (reference_place m.adts (types_of m f) into)))
            (ap (λ (c : Code). slice_get c 0) (row.code site)))
            (name_accounted now i y (code.process_names p) (Cells item) it.rest it.name it.named it.held) 1
            (λ stored after still. on_way m b i p (with_list f it.rest) (into ∷ []) n f 1 0 now y after still (λ last v z more on' hold' worlds'.
            let site' = site_of m n f p.frame.pc (row_here m b i p (with_list f it.rest) (into ∷ []) n f 1 last v z on' hold' worlds' instr here).at in
            let e = row.behind p.frame.pc on'.known in
            let next = stand (suc p.frame.pc) (held.put on'.known into (Of (ty.ListOf item) live)) in
            cell_comes m b last i v z n f p (with_list f it.rest) into on' hold' worlds' l (cons m.adts (types_of m f))
            (reaches_it m b i p (with_list f it.rest) (into ∷ []) n f 1 last v z on' hold' worlds' instr here (cons m.adts (types_of m f))
            (ap (λ (c : Code). slice_get c 1) (row.code site')))
            it.rest stored.there item it.name (name_later m.adts now last it.words more (Some (Cells item)) it.rest it.name it.named)
            it.value it.words (cell_later m.adts now last more item it.value it.words it.cell)
            (it.others stored last z more hold') (it.comes stored z) live (row.names (length v.heap))
            (next_on m last i z (into ∷ []) n f 1 p (with_list f it.rest) on' instr here 2 size refl)
            (goes_on_behind m last i z (into ∷ []) n f 1 p (with_list f it.rest) on' instr here 0 (suc p.frame.pc)
            (held.put on'.known into (Of (ty.ListOf item) live))
            (subst (λ (l : List Stand). 0 < length l) (sym e) (omega arith)) (ap (λ (l : List Stand). slice_index_or l 0 next) e))
            (it.does v)))),
      )
