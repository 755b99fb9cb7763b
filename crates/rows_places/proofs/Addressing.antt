-- Rows in which the address of an element is looked up by any index, so many instructions behind their begin.
use Rattle.std.proofs.Common.{◌≡◌, ℕ, ℤ, false, suc, ◌+◌, ◌<◌, List, length, Option, Some, None, refl, sym, ap, ◌∙◌}
use Rattle.std.specs.Prelude.{Ok, Err, slice_get}
use Rattle.process_model.specs.Process.{Ends}
use Rattle.system_model.specs.Ending.{Broken}
use Rattle.limbo_types.specs.Types as ty
use Rattle.limbo_types.specs.Types.{Ty}
use Rattle.limbo_values.specs.declared.number.Kind.TheVariants.{Int}
use Rattle.limbo_values.specs.declared.raised.Raised.{Raised}
use Rattle.limbo_values.specs.Operators.{text_of}
use Rattle.limbo_values.specs.Texts.{index_in}
use Rattle.limbo_typed.specs.Typed as typed
use Rattle.limbo_meaning.specs.Exceptions.{dereference_of_nil}
use Rattle.limbo_meaning.specs.Process.{Shared}
use Rattle.limbo_meaning.specs.Values as value
use Rattle.limbo_meaning.specs.Values.{Value, part_of}
use Rattle.core_code.specs.Code.{Instr}
use Rattle.core_code.specs.Machine as code
use Rattle.core_code.specs.Slots as core
use Rattle.core_typing.specs.Held as held
use Rattle.core_typing.specs.Needs.{IsA}
use Rattle.dis_isa.specs.declared.inst.Operand as isa
use Rattle.dis_isa.specs.declared.op.Op.TheVariants as op
use Rattle.dis_meaning.specs.Words.{Word, Found}
use Rattle.dis_meaning.specs.Process.{Process, Printing}
use Rattle.dis_memory.specs.Blocks.{World}
use Rattle.dis_memory.specs.Places.{source_of}
use Rattle.value_words.specs.Facts.{Facts}
use Rattle.value_frames.specs.Frames.{element_place, reference_place}
use Rattle.value_moves.specs.Operands.{inst, own, of_own}
use Rattle.value_code.specs.Objects.{of_function, size_at}
use Rattle.value_follows.specs.Stands.{Ready, types_of}
use Rattle.value_follows.specs.Sides.{sides, HoldTheSame}
use Rattle.value_follows.specs.Rows.{Base, is_tidied}
use Rattle.value_follows.proofs.Several.{moved_to, moved_names, hold_as, Next}
use Rattle.rows_places.proofs.Going.{going_on}
use Rattle.rows_places.proofs.Last.{there, begins_at}
use Rattle.rows_places.proofs.Arrays.{ArrayHere, array_here}
use Rattle.rows_places.proofs.Elements.{AddressHere, address_later}
use Rattle.rows_places.proofs.Indexing.{linked_there, address_there, others_of, looks_up}

module _ (m : typed.Module) (b : Base m) (k : Facts) (i : ℕ) (w : Shared) (x : World) (p : code.Process) (q : Process) (ready : Ready m k i x p q)
    (hold : HoldTheSame m k i x p q) (worlds : (sides m).worlds k w x) (instr : Instr) (here : slice_get p.frame.code p.frame.pc ≡ Some instr)
    (pc : ℕ) (pr : Option Printing) (j : ℕ) (so_far : pc ≡ q.frame.pc + j) (r0 : ℕ) (item : Ty) (z : ℤ) where
  abbrev f : typed.Function
  f = ready.stands.is.function

  abbrev known : held.Slots
  known = ready.stands.is.known

  abbrev v0 : Value
  v0 = core.value_of (core.slot p.frame.slots r0)

  -- What is so once the address is there, whatever the others did meanwhile.
  pub record AtAddress (others : List Word) (last : Facts) (v : Shared) (y : World) : Type 0 where
    pub still : Ready m last i y p (moved_to q q.frame.pc others)
    pub function : still.stands.is.function ≡ f
    pub known_so : still.stands.is.known ≡ known
    pub holds : HoldTheSame m last i y p (moved_to q q.frame.pc others)
    pub alike : (sides m).worlds last v y
    pub whole : value.Part
    pub array : part_of v0 ≡ Some whole
    pub h : ℕ
    pub index : index_in whole.long z ≡ Ok h
    pub address : AddressHere m last others whole item h

  module _ (below : r0 < length p.frame.slots) (is_array : IsA known r0 (ty.ArrayOf item)) (index : isa.Operand)
      (reads : source_of Int x (there m b k i w x p q ready hold worlds instr here pc pr j so_far) index ≡ Found z)
      (begins : begins_at m b k i w x p q ready hold worlds instr here pc pr j so_far
      (inst op.Indx (own (reference_place m.adts (types_of m f) r0)) (of_own element_place) index))
      (plain : is_tidied instr ≡ false) (long : suc j < size_at m f.of.answer (of_function m f) p.frame.pc (Some instr)) where
    a_here : ArrayHere m k i w x p q ready hold worlds pc pr r0 item
    a_here = array_here m k i w x p q ready hold worlds pc pr r0 item below is_array

    pub address_way : (n : ℕ)
        → (part_of v0 ≡ None → (sides m).program.step w p ≡ Ends w (Broken dereference_of_nil))
        → ((part : value.Part) (raised : Raised) → part_of v0 ≡ Some part → index_in part.long z ≡ Err raised
        → (sides m).program.step w p ≡ Ends w (Broken (text_of raised)))
        → ((others : List Word) (last : Facts) (v : Shared) (y : World) → AtAddress others last v y
        → Next m b i p n last v y (moved_to q (suc pc) others))
        → Next m b i p (suc n) k w x (there m b k i w x p q ready hold worlds instr here pc pr j so_far)
    address_way n no_array outside goes =
        let array : part_of v0 ≡ a_here.array.part = ap part_of a_here.holds ∙ a_here.array.is in
        looks_up m b k i w x p q ready hold worlds instr here pc pr j so_far r0 item a_here index z reads begins plain long (suc n)
        (λ none. no_array (array ∙ none))
        (λ whole raised some out. outside whole raised (array ∙ some) out)
        (λ whole some h within.
        let others = others_of m b k i w x p q ready hold worlds instr here pc pr j so_far r0 item a_here index z reads begins whole some h in
        let link = linked_there m b k i w x p q ready hold worlds instr here pc pr j so_far r0 item a_here index z reads begins whole some h in
        let address = address_there m b k i w x p q ready hold worlds instr here pc pr j so_far r0 item a_here index z reads begins whole some h within in
        going_on m b i p (moved_to q q.frame.pc others) (moved_to q (suc pc) others) (λ l. refl) n k x link.still
        (hold_as m b i p k x q (moved_to q (suc pc) others) (λ l. sym (moved_names q (suc pc) others link.names l)) hold)
        (λ last v y s grows same holds worlds'. goes others last v y (record {
          still = s;
          function = same.function ∙ link.function;
          known_so = same.known ∙ link.known;
          holds = holds;
          alike = worlds';
          whole = whole;
          array = array ∙ some;
          h = h;
          index = within;
          address = address_later m k last others whole item h grows address;
        })))
