-- Writes of places of one word: what the source does, the row's code, and its last instruction.
use Rattle.std.proofs.Common.{◌≡◌, ℕ, suc, ◌+◌, ◌<◌, List, [], ◌∷◌, ◌++◌, length, Option, Some, refl, sym, ap, ◌∙◌, subst, arith, inl, inr}
use Rattle.std.specs.Prelude.{Ok, Err, slice_get}
use Rattle.inf_text.specs.Steps.{◌>>=◌}
use Rattle.process_model.specs.Process.{Ends}
use Rattle.system_model.specs.Ending.{Broken}
use Rattle.system_model.specs.Limits.{frames_limit}
use Rattle.limbo_types.specs.Types as ty
use Rattle.limbo_types.specs.Types.{Ty}
use Rattle.limbo_typed.specs.Typed as typed
use Rattle.limbo_kept.specs.Places.{Leads}
use Rattle.limbo_meaning.specs.Memory.{Memory, with_heap, changed}
use Rattle.limbo_meaning.specs.Places.{Root, part_at, with_part, root_value, root_put, stored_at}
use Rattle.limbo_meaning.specs.Process.{Shared}
use Rattle.limbo_meaning.specs.Values.{Value, nothing, fitted}
use Rattle.limbo_meaning.specs.Exceptions.{Raising}
use Rattle.core_code.specs.Code.{Instr, Write}
use Rattle.core_code.specs.Machine as code
use Rattle.core_code.specs.Slots as core
use Rattle.core_code.specs.Slots.{slot, value_of}
use Rattle.core_typing.specs.Held as held
use Rattle.core_typing.specs.Held.{type_held}
use Rattle.core_typing.specs.Needs.{Fills}
use Rattle.core_typing.specs.Going.{IsTold, Agrees}
use Rattle.core_typing.specs.Written.{told}
use Rattle.dis_isa.specs.declared.inst.Operand as isa
use Rattle.dis_isa.specs.declared.inst.Middle.TheVariants as middle
use Rattle.dis_meaning.specs.Process.{Process, Printing}
use Rattle.dis_memory.specs.Blocks.{World}
use Rattle.value_words.specs.Facts.{Facts}
use Rattle.value_frames.specs.Frames.{form_of}
use Rattle.value_moves.specs.Operands.{inst}
use Rattle.value_code.specs.Objects.{of_function, size_at, globals, or_nothing}
use Rattle.value_code.specs.Operands.{Scene, at_place, looked_up, first_slot, part_in_slot}
use Rattle.value_code.specs.Code.{Site, code_of, put_or_zero}
use Rattle.value_follows.specs.Stands.{Ready, GoesOn, scope, types_of}
use Rattle.value_follows.specs.Sides.{sides, HoldTheSame, program}
use Rattle.value_follows.specs.Rows.{Base}
use Rattle.value_follows.proofs.Standing.{same_some}
use Rattle.value_follows.proofs.Single.{Once}
use Rattle.value_follows.proofs.Jumps.{behind_it}
use Rattle.rows_places.specs.Rows.{IsSimple, way_from}
use Rattle.rows_places.proofs.Words.{has_parts, same_form}
use Rattle.rows_places.proofs.Last.{simple_op, begins_at, there}
use Rattle.rows_places.proofs.Sources.{slot_reads}
use Rattle.rows_places.proofs.Places.{HeapPlace}
use Rattle.rows_places.proofs.Giving.{put_value, put_simple, zero_simple, zero_source, source_here, slot_gives, zero_gives, Gives}
use Rattle.rows_places.proofs.Storing.{simple_stored}

-- ---- what is told of the slot

pub agrees : (m : typed.Module) (f : typed.Function) (pc : ℕ) (known : held.Slots) (t : Ty) (root : Root) (part operands taken : List ℕ) (from : ℕ)
    → GoesOn m f pc known → slice_get (of_function m f).code pc ≡ Some (Write t (way_from root part) operands taken from)
    → IsTold (told (of_function m f).code pc) known from
agrees m f pc known t root part operands taken from goes here =
    let g = goes 1 in
    let instr = Write t (way_from root part) operands taken from in
    (subst (λ (j : Instr). Agrees (scope m f) f.of.answer (of_function m f).code pc known j) (same_some g.0 instr (sym g.1 ∙ here)) g.3).0

not_nothing : (m : typed.Module) (w : Ty) (taken : List ℕ) (u t : Ty) → Leads m.adts w taken u → form_of u ≡ form_of t → IsSimple t → w ≡ ty.Nothing → ⊥
not_nothing m w [] u t e g (inl s) f = let h : form_of u ≡ form_of ty.Nothing = ap form_of (sym e ∙ f) in absurd cc
not_nothing m w [] u t e g (inr s) f = let h : form_of u ≡ form_of ty.Nothing = ap form_of (sym e ∙ f) in absurd cc
not_nothing m w (n ∷ ns) u t h g s f =
    let e : form_of w ≡ form_of ty.Nothing = ap form_of f in
    let b = has_parts m.adts w n h.0 h.1 in
    absurd cc

module _ (m : typed.Module) (b : Base m) (k : Facts) (i : ℕ) (w : Shared) (x : World) (p : code.Process) (q : Process) (ready : Ready m k i x p q)
    (hold : HoldTheSame m k i x p q) (worlds : (sides m).worlds k w x) (pc : ℕ) (pr : Option Printing) (t : Ty) (taken : List ℕ) (from : ℕ) (simple : IsSimple t) where
  abbrev f : typed.Function
  f = ready.stands.is.function

  abbrev known : held.Slots
  known = ready.stands.is.known

  abbrev sight : Scene
  sight = record { adts = m.adts; globals = globals m; variables = types_of m f }

  abbrev val : Value
  val = part_at taken (value_of (slot p.frame.slots from))

  -- From where the value comes, and what the instruction is.
  pub record SourceFor : Type 0 where
    pub source : isa.Operand
    pub type : Ty
    pub tells : or_nothing (told (of_function m f).code p.frame.pc from) ≡ type
    pub gives : Gives m k i w x p q ready hold worlds pc pr source t (fitted m.adts t val)
    pub instr : (c : Site) (d : isa.Operand) → c.scene ≡ sight → c.told from ≡ type
        → put_or_zero c (c.told from) t d taken from ≡ inst (simple_op t) source middle.None d ∷ []

  -- A slot that is told to have the value without parts has it.
  is_empty : from < length p.frame.slots → type_held (held.slot known from) ≡ Some ty.Nothing → value_of (slot p.frame.slots from) ≡ nothing
  is_empty below e =
      let s = slot_reads m k i w x p q ready hold worlds pc pr from below ty.Nothing e in
      s.holds ∙ (s.reads.nowhere refl).0

  pub source_for : from < length p.frame.slots → IsTold (told (of_function m f).code p.frame.pc) known from → Fills (scope m f) known t taken from
      → SourceFor
  source_for below tells (inl (u, e, room, (y, leads, fits))) =
      let same : tells.0 ≡ u = same_some tells.0 u (sym tells.1 ∙ e) in
      let some = not_nothing m u taken y t leads (same_form y t fits) simple in
      record {
        source = source_here m k i w x p q ready hold worlds pc pr from below u e room taken y t leads fits simple;
        type = u;
        tells = ap or_nothing tells.2 ∙ same;
        gives = slot_gives m k i w x p q ready hold worlds pc pr from below u e room taken y t leads fits simple;
        instr = λ c d g h.
            ap (λ v. put_or_zero c v t d taken from) h ∙ put_value c u t d taken from some ∙ put_simple c t d taken from simple
            ∙ ap (λ v. inst (simple_op t) (part_in_slot c.scene v taken from) middle.None d ∷ []) h
            ∙ ap (λ s. inst (simple_op t) (part_in_slot s u taken from) middle.None d ∷ []) g;
      }
  source_for below tells (inr (e, none, room)) =
      let same : tells.0 ≡ ty.Nothing = same_some tells.0 ty.Nothing (sym tells.1 ∙ e) in
      let empty : val ≡ nothing = ap (λ (ns : List ℕ). part_at ns (value_of (slot p.frame.slots from))) none ∙ is_empty below e in
      record {
        source = zero_source t;
        type = ty.Nothing;
        tells = ap or_nothing tells.2 ∙ same;
        gives = subst (λ v. Gives m k i w x p q ready hold worlds pc pr (zero_source t) t (fitted m.adts t v)) (sym empty)
            (zero_gives m k i w x p q ready hold worlds pc pr b t simple);
        instr = λ c d g h. ap (λ v. put_or_zero c v t d taken from) h ∙ zero_simple c t d taken from simple;
      }

-- ---- the row

module _ (m : typed.Module) (b : Base m) (k : Facts) (i : ℕ) (w : Shared) (x : World) (p : code.Process) (q : Process) (ready : Ready m k i x p q)
    (hold : HoldTheSame m k i x p q) (worlds : (sides m).worlds k w x) (t : Ty) (root : Root) (part operands taken : List ℕ) (from : ℕ)
    (here : slice_get p.frame.code p.frame.pc ≡ Some (Write t (way_from root part) operands taken from)) where
  abbrev instr : Instr
  instr = Write t (way_from root part) operands taken from

  abbrev function : typed.Function
  function = ready.stands.is.function

  abbrev values : List Value
  values = core.values_of p.frame.slots operands

  abbrev written_value : Value
  written_value = part_at taken (value_of (slot p.frame.slots from))

  -- ---- what the source does

  abbrev comes_to : Raising Memory → code.Does
  comes_to r = code.unless_raised frames_limit (program m) w p r (λ n. code.goes_with w p n p.frame.slots)

  abbrev store : Memory
  store = code.memory_of w p.frame

  abbrev writes_by : Raising Value → Raising Memory
  writes_by r =
      r >>= λ old.
      stored_at m.adts store (record { type = t; way = way_from root part; operands = values }) old written_value >>= λ new.
      root_put store root values new

  pub does_write : (old : Value) (after : Memory) → root_value store root values ≡ Ok old
      → root_put store root values (with_part part (fitted m.adts t written_value) old) ≡ Ok after
      → (sides m).program.step w p ≡ code.goes_with w p after p.frame.slots
  does_write old after rooted put =
      ap (code.next frames_limit (program m) w p) here ∙ ap (λ (r : Raising Value). comes_to (writes_by r)) rooted ∙ ap comes_to put

  pub write_raises : (text : List ℕ) → root_value store root values ≡ Err text → (sides m).program.step w p ≡ Ends w (Broken text)
  write_raises text raised =
      ap (code.next frames_limit (program m) w p) here ∙ ap (λ (r : Raising Value). comes_to (writes_by r)) raised

  -- ---- the last instruction

  module _ (simple : IsSimple t) (pc : ℕ) (pr : Option Printing) (j : ℕ) (so_far : pc ≡ q.frame.pc + j)
      (size : size_at m function.of.answer (of_function m function) p.frame.pc (Some instr) ≡ j + 1) where
    pub place_written : (o : isa.Operand) → HeapPlace m k i w x p q ready hold worlds pc pr root values o t part
        → (from_there : SourceFor m b k i w x p q ready hold worlds pc pr t taken from simple)
        → begins_at m b k i w x p q ready hold worlds instr here pc pr j so_far (inst (simple_op t) from_there.source middle.None o)
        → Once m b i p (there m b k i w x p q ready hold worlds instr here pc pr j so_far) k w x
    place_written o is s begins =
        simple_stored m b k i w x p q ready hold worlds instr here pc pr j so_far size root values o t part is (fitted m.adts t written_value)
        (behind_it m b k i w x p q ready hold worlds instr here 0 (suc p.frame.pc) ready.stands.is.known (omega arith) refl)
        (does_write is.value (with_heap store (changed w.heap is.name (is.becomes (with_part part (fitted m.adts t written_value) is.value))))
        is.rooted (is.rooting (with_part part (fitted m.adts t written_value) is.value)))
        s.source simple s.gives begins

-- ---- the row's code

pub write_code : (c : Site) (t : Ty) (root : Root) (part operands taken : List ℕ) (from : ℕ)
    → code_of c (Write t (way_from root part) operands taken from)
    ≡ looked_up c.scene root operands
    ++ put_or_zero c (c.told from) t (at_place c.scene (way_from root part) (c.told (first_slot operands)) operands) taken from
write_code c t root part operands taken from = refl
