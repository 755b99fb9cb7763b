-- Reads of places of one word: what the source does, the row's code, and what its last instruction does.
use Rattle.std.proofs.Common.{◌≡◌, ℕ, ℤ, suc, ◌+◌, ◌<◌, List, [], ◌∷◌, ◌++◌, length, Option, Some, refl, sym, ap, ◌∙◌, arith, inl, inr}
use Rattle.std.specs.Prelude.{Ok, Err, slice_get}
use Rattle.inf_text.specs.Steps.{◌>>=◌}
use Rattle.process_model.specs.Process.{Ends}
use Rattle.system_model.specs.Ending.{Broken}
use Rattle.system_model.specs.Limits.{frames_limit}
use Rattle.limbo_types.specs.Types as ty
use Rattle.limbo_types.specs.Types.{Ty}
use Rattle.limbo_layout.specs.Adts.{Def}
use Rattle.limbo_values.specs.declared.number.Kind.TheVariants as kind
use Rattle.limbo_typed.specs.Typed as typed
use Rattle.limbo_meaning.specs.Places.{Root, part_at, root_value, part_read}
use Rattle.limbo_meaning.specs.Process.{Shared}
use Rattle.limbo_meaning.specs.Values.{Value, Num, fitted, references}
use Rattle.limbo_meaning.specs.Exceptions.{Raising}
use Rattle.limbo_meaning.specs.Evaluation as evaluation
use Rattle.limbo_meaning.specs.Trees.{Read}
use Rattle.core_code.specs.Code.{Instr, Give}
use Rattle.core_code.specs.Machine as code
use Rattle.core_code.specs.Slots as core
use Rattle.core_code.specs.Slots.{Holds}
use Rattle.core_typing.specs.Held as held
use Rattle.core_typing.specs.Held.{Of}
use Rattle.core_typing.specs.Needs.{IsClean}
use Rattle.core_typing.specs.Going.{got_by}
use Rattle.dis_isa.specs.declared.inst.Operand as isa
use Rattle.dis_isa.specs.declared.inst.Middle.TheVariants as middle
use Rattle.dis_meaning.specs.Words.{Word}
use Rattle.dis_meaning.specs.Process.{Process, Printing}
use Rattle.dis_memory.specs.Blocks.{World}
use Rattle.value_words.specs.Facts.{Facts}
use Rattle.value_words.specs.Stands.{Stands}
use Rattle.value_words.proofs.Wholes.{stands_whole}
use Rattle.value_frames.specs.Standing.{NamesOnly}
use Rattle.value_moves.specs.Operands.{Code, inst, moved}
use Rattle.value_code.specs.Objects.{of_function, size_at}
use Rattle.value_code.specs.Operands.{in_slot, at_place, looked_up, first_slot, reference as reference_slot}
use Rattle.value_code.specs.Data.{OfRecord}
use Rattle.value_code.specs.Code.{Site, code_of}
use Rattle.value_follows.specs.Stands.{Ready}
use Rattle.value_follows.specs.Sides.{sides, HoldTheSame, program}
use Rattle.value_follows.specs.Rows.{Base}
use Rattle.value_follows.proofs.Slots.{number_there}
use Rattle.value_follows.proofs.Single.{Once}
use Rattle.value_follows.proofs.Jumps.{behind_it}
use Rattle.rows_places.specs.Rows.{IsSimple, way_from}
use Rattle.rows_places.proofs.Words.{read_names}
use Rattle.rows_places.proofs.Last.{simple_op, simple_moved, simple_prepared, begins_at, value_comes, there, scene}
use Rattle.rows_places.proofs.Places.{HeapPlace}

-- ---- which references of what is read may name something

num_names : (live : List ℕ) (v : Value) (z : ℤ) → v ≡ Num z → NamesOnly live v
num_names live v z e k n f =
    absurd (let g : slice_get [] k ≡ Some (Some n) = ap (λ (u : Value). slice_get (references u) k) (sym e) ∙ f in cc)

pub simple_names : (defs : List Def) (f : Facts) (words : List Word) (root : Root) (part : List ℕ) (at : ℕ) (t : Ty) (v : Value) → IsSimple t
    → Stands defs f words at t v → NamesOnly (got_by defs t (Read (way_from root part))) v
simple_names defs f words root part at ty.Byte v (inl e) s =
    let z = number_there defs f words at ty.Byte v kind.Byte refl s in num_names (got_by defs ty.Byte (Read (way_from root part))) v z.number z.is
simple_names defs f words root part at ty.Int v (inl e) s =
    let z = number_there defs f words at ty.Int v kind.Int refl s in num_names (got_by defs ty.Int (Read (way_from root part))) v z.number z.is
simple_names defs f words root part at t v (inl e) s = absurd cc
simple_names defs f words root part at t v (inr e) s = read_names defs f words (way_from root part) at t v e s

-- ---- the row's code

pub read_code : (c : Site) (t : Ty) (root : Root) (part : List ℕ) (into : ℕ) (from : List ℕ) → IsSimple t
    → code_of c (Give t (Read (way_from root part)) into from)
    ≡ looked_up c.scene root from
    ++ (inst (simple_op t) (at_place c.scene (way_from root part) (c.told (first_slot from)) from) middle.None (in_slot c.scene t into) ∷ [])
read_code c t root part into from simple =
    let n = c.type_number (OfRecord t) in
    let source = at_place c.scene (way_from root part) (c.told (first_slot from)) from in
    ap (λ (l : Code). looked_up c.scene root from ++ (l ++ moved c.scene.adts t n source (in_slot c.scene t into)))
    (simple_prepared t n (reference_slot c.scene into) simple)
    ∙ ap (λ (l : Code). looked_up c.scene root from ++ l) (simple_moved c.scene.adts t n source (in_slot c.scene t into) simple)

module _ (m : typed.Module) (b : Base m) (k : Facts) (i : ℕ) (w : Shared) (x : World) (p : code.Process) (q : Process) (ready : Ready m k i x p q)
    (hold : HoldTheSame m k i x p q) (worlds : (sides m).worlds k w x) (t : Ty) (root : Root) (part : List ℕ) (into : ℕ) (from : List ℕ)
    (here : slice_get p.frame.code p.frame.pc ≡ Some (Give t (Read (way_from root part)) into from)) where
  abbrev instr : Instr
  instr = Give t (Read (way_from root part)) into from

  abbrev function : typed.Function
  function = ready.stands.is.function

  -- ---- what the source does

  abbrev comes_to : Raising Value → code.Does
  comes_to r =
      code.gives frames_limit (program m) w p into
      (evaluation.unless_raised (r >>= λ v. part_read (record { type = t; way = way_from root part; operands = core.values_of p.frame.slots from }) (part_at part v))
      (evaluation.gets m.adts (code.memory_of w p.frame) t))

  pub does_read : (old : Value) → root_value (code.memory_of w p.frame) root (core.values_of p.frame.slots from) ≡ Ok old
      → part_at part old ≡ fitted m.adts t (part_at part old)
      → (sides m).program.step w p ≡ code.goes_on w p (core.put p.frame.slots into (Holds (part_at part old)))
  does_read old rooted whole =
      ap (code.next frames_limit (program m) w p) here ∙ ap comes_to rooted
      ∙ ap (λ (u : Value). code.goes_on w p (core.put p.frame.slots into (Holds u))) (sym whole)

  pub does_raise : (text : List ℕ) → root_value (code.memory_of w p.frame) root (core.values_of p.frame.slots from) ≡ Err text
      → (sides m).program.step w p ≡ Ends w (Broken text)
  does_raise text raised = ap (code.next frames_limit (program m) w p) here ∙ ap comes_to raised

  -- ---- a place in a block is read by the last instruction

  module _ (below : into < length p.frame.slots) (clean : IsClean (held.slot ready.stands.is.known into)) (simple : IsSimple t)
      (pc : ℕ) (pr : Option Printing) (j : ℕ) (so_far : pc ≡ q.frame.pc + j) (size : size_at m function.of.answer (of_function m function) p.frame.pc (Some instr) ≡ j + 1) where
    pub read_place : (o : isa.Operand)
        → HeapPlace m k i w x p q ready hold worlds pc pr root (core.values_of p.frame.slots from) o t part
        → begins_at m b k i w x p q ready hold worlds instr here pc pr j so_far
        (inst (simple_op t) o middle.None (in_slot (scene m b k i w x p q ready hold worlds instr here pc pr j so_far) t into))
        → Once m b i p (there m b k i w x p q ready hold worlds instr here pc pr j so_far) k w x
    read_place o is begins =
        let v = part_at part is.value in
        let live = got_by m.adts t (Read (way_from root part)) in
        value_comes m b k i w x p q ready hold worlds instr here pc pr j so_far size into below clean t o is.words is.byte is.leads.0 v is.lies.stands live
        (simple_names m.adts k is.words root part is.byte t v simple is.lies.stands)
        (behind_it m b k i w x p q ready hold worlds instr here 0 (suc p.frame.pc) (held.put ready.stands.is.known into (Of t live)) (omega arith) refl)
        (does_read is.value is.rooted (stands_whole m.adts k is.words is.byte t v is.lies.stands))
        simple begins
