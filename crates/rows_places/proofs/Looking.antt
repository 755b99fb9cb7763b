-- Rows that begin with the look-up of an element's address, by an array and an index in slots.
use Rattle.std.proofs.Common.{◌≡◌, ℕ, ℤ, false, suc, ◌+◌, ◌<◌, List, [], ◌∷◌, length, Some, refl, sym, ap, ◌∙◌, subst, arith}
use Rattle.std.specs.Prelude.{Ok, Err, slice_get}
use Rattle.process_model.specs.Process.{Ends}
use Rattle.system_model.specs.Ending.{Broken}
use Rattle.limbo_types.specs.Types as ty
use Rattle.limbo_types.specs.Types.{Ty}
use Rattle.limbo_values.specs.declared.number.Kind.TheVariants.{Int}
use Rattle.limbo_values.specs.Operators.{text_of}
use Rattle.limbo_values.specs.Texts.{index_in}
use Rattle.limbo_typed.specs.Typed as typed
use Rattle.limbo_kept.specs.Trees.{WayIs}
use Rattle.limbo_meaning.specs.Exceptions.{dereference_of_nil}
use Rattle.limbo_meaning.specs.Places.{Element, root_value}
use Rattle.limbo_meaning.specs.Process.{Shared}
use Rattle.limbo_meaning.specs.Values as value
use Rattle.limbo_meaning.specs.Values.{Value, part_of, number_of}
use Rattle.core_code.specs.Code.{Instr}
use Rattle.core_code.specs.Machine as code
use Rattle.core_code.specs.Slots as core
use Rattle.core_typing.specs.Held as held
use Rattle.core_typing.specs.Held.{type_held}
use Rattle.core_typing.specs.Needs.{StandsAs, IsA, AreThese}
use Rattle.core_typing.specs.Going.{IsTold}
use Rattle.core_typing.specs.Written.{told}
use Rattle.dis_isa.specs.declared.op.Op.TheVariants as op
use Rattle.dis_meaning.specs.Words.{Word}
use Rattle.dis_meaning.specs.Process.{Process}
use Rattle.dis_memory.specs.Blocks.{World}
use Rattle.value_words.specs.Facts.{Facts}
use Rattle.value_frames.specs.Frames.{element_place, number_place, reference_place, type_within}
use Rattle.value_moves.specs.Operands.{inst, own, of_own}
use Rattle.value_moves.proofs.Leading.{spots_lead}
use Rattle.value_stores.specs.Paths.{HasPath}
use Rattle.value_code.specs.Objects.{of_function, size_at, or_nothing}
use Rattle.number_effects.proofs.Reading.{operands_are_read}
use Rattle.value_follows.specs.Stands.{Ready, scope, types_of}
use Rattle.value_follows.specs.Sides.{sides, HoldTheSame}
use Rattle.value_follows.specs.Rows.{Base, is_tidied}
use Rattle.value_follows.proofs.Standing.{same_some}
use Rattle.value_follows.proofs.Slots.{number_is}
use Rattle.value_follows.proofs.Several.{moved_to, moved_names, hold_as, Next}
use Rattle.rows_places.specs.Rows.{way_from}
use Rattle.rows_places.proofs.Words.{has_path}
use Rattle.rows_places.proofs.Going.{going_on}
use Rattle.rows_places.proofs.Last.{begins_at}
use Rattle.rows_places.proofs.Arrays.{array_here}
use Rattle.rows_places.proofs.Elements.{AddressHere, address_later, no_array, no_element}
use Rattle.rows_places.proofs.Indexing.{linked_there, address_there, others_of, looks_up}

-- ---- what is known of the slots that a place begins with

module _ (m : typed.Module) (f : typed.Function) (known : held.Slots) (pc r0 r1 : ℕ) (part : List ℕ) (t : Ty) where
  pub record ElementSlots (item : Ty) : Type 0 where
    pub type : Ty
    pub has_type : type_held (held.slot known r0) ≡ Some type
    pub array : StandsAs type (ty.ArrayOf item)
    pub tells : or_nothing (told (of_function m f).code pc r0) ≡ type
    pub index : IsA known r1 ty.Int
    pub path : HasPath m.adts item part
    pub ends : type_within m.adts item part ≡ t

  first_is : (us : List Ty) (rs : List ℕ) → AreThese known (r0 ∷ rs) us → (r : Ty) → slice_get us 0 ≡ Some r → IsA known r0 r
  first_is [] rs a r e = absurd cc
  first_is (u ∷ us) rs a r e = subst (IsA known r0) (same_some u r e) a.0

  pub element_slots : (us : List Ty) (rs : List ℕ) → AreThese known (r0 ∷ rs) us → (is : WayIs (scope m f) (way_from Element part) us t)
      → IsTold (told (of_function m f).code pc) known r0 → IsA known r1 ty.Int → ElementSlots is.root
  element_slots us rs these is tells index =
      let a = first_is us rs these (ty.ArrayOf is.root) is.begins.0 in
      let path = has_path m.adts is.root part is.inner is.leads in
      record {
        type = a.0;
        has_type = a.1;
        array = a.2;
        tells = ap or_nothing tells.2 ∙ same_some tells.0 a.0 (sym tells.1 ∙ a.1);
        index = index;
        path = path.0;
        ends = path.1 ∙ is.ends;
      }

-- ---- the row up to the address

module _ (m : typed.Module) (b : Base m) (k : Facts) (i : ℕ) (w : Shared) (x : World) (p : code.Process) (q : Process) (ready : Ready m k i x p q)
    (hold : HoldTheSame m k i x p q) (worlds : (sides m).worlds k w x) (instr : Instr) (here : slice_get p.frame.code p.frame.pc ≡ Some instr)
    (r0 r1 : ℕ) (vs : List Value) (part : List ℕ) (t : Ty) where
  abbrev f : typed.Function
  f = ready.stands.is.function

  abbrev known : held.Slots
  known = ready.stands.is.known

  abbrev v0 : Value
  v0 = core.value_of (core.slot p.frame.slots r0)

  abbrev v1 : Value
  v1 = core.value_of (core.slot p.frame.slots r1)

  pub so_far : q.frame.pc ≡ q.frame.pc + 0
  so_far = omega arith

  -- What is so once the address is there, whatever the others did meanwhile.
  pub record Behind (item : Ty) (others : List Word) (last : Facts) (v : Shared) (y : World) : Type 0 where
    pub still : Ready m last i y p (moved_to q q.frame.pc others)
    pub function : still.stands.is.function ≡ f
    pub known_so : still.stands.is.known ≡ known
    pub holds : HoldTheSame m last i y p (moved_to q q.frame.pc others)
    pub alike : (sides m).worlds last v y
    pub whole : value.Part
    pub array : part_of v0 ≡ Some whole
    pub z : ℤ
    pub number : number_of v1 ≡ z
    pub h : ℕ
    pub index : index_in whole.long z ≡ Ok h
    pub address : AddressHere m last others whole item h

  module _ (item : Ty) (slots : ElementSlots m f known p.frame.pc r0 r1 part t item) (below0 : r0 < length p.frame.slots) (below1 : r1 < length p.frame.slots)
      (plain : is_tidied instr ≡ false) (long : 1 < size_at m f.of.answer (of_function m f) p.frame.pc (Some instr))
      (begins : begins_at m b k i w x p q ready hold worlds instr here q.frame.pc q.printing 0 so_far
      (inst op.Indx (own (reference_place m.adts (types_of m f) r0)) (of_own element_place) (own (number_place m.adts (types_of m f) r1))))
      (raises : (text : List ℕ) → root_value (code.memory_of w p.frame) Element (v0 ∷ v1 ∷ vs) ≡ Err text
      → (sides m).program.step w p ≡ Ends w (Broken text)) where
    pub element_way : (n : ℕ)
        → ((others : List Word) (last : Facts) (v : Shared) (y : World) → Behind item others last v y
        → Next m b i p n last v y (moved_to q (suc q.frame.pc) others))
        → Next m b i p (suc n) k w x q
    element_way n goes =
        let a = array_here m k i w x p q ready hold worlds q.frame.pc q.printing r0 item below0 (slots.type, slots.has_type, slots.array) in
        let num = number_is m k i x [] p.frame q.frame ready.stands.is Int r1 refl below1 (λ e. e) slots.index in
        let n_at = number_place m.adts (types_of m f) r1 in
        let number : number_of v1 ≡ num.number = ap (λ (l : core.Slot). number_of (core.value_of l)) num.holds in
        let array : part_of v0 ≡ a.array.part = ap part_of a.holds ∙ a.array.is in
        looks_up m b k i w x p q ready hold worlds instr here q.frame.pc q.printing 0 so_far r0 item a (own n_at) num.number
        (operands_are_read.source_number x q (own n_at) q.frame.words n_at Int (spots_lead.own x q n_at).0 ∙ num.found)
        begins plain long (suc n)
        (λ none. raises dereference_of_nil (no_array m k i w x p q ready hold worlds q.frame.pc q.printing v0 v1 vs (array ∙ none)))
        (λ whole raised some outside. raises (text_of raised)
        (no_element m k i w x p q ready hold worlds q.frame.pc q.printing v0 v1 vs whole (array ∙ some) num.number number raised outside))
        (λ whole some h index.
        let others = others_of m b k i w x p q ready hold worlds instr here q.frame.pc q.printing 0 so_far r0 item a (own n_at) num.number
        (operands_are_read.source_number x q (own n_at) q.frame.words n_at Int (spots_lead.own x q n_at).0 ∙ num.found) begins whole some h in
        let link = linked_there m b k i w x p q ready hold worlds instr here q.frame.pc q.printing 0 so_far r0 item a (own n_at) num.number
        (operands_are_read.source_number x q (own n_at) q.frame.words n_at Int (spots_lead.own x q n_at).0 ∙ num.found) begins whole some h in
        let address = address_there m b k i w x p q ready hold worlds instr here q.frame.pc q.printing 0 so_far r0 item a (own n_at) num.number
        (operands_are_read.source_number x q (own n_at) q.frame.words n_at Int (spots_lead.own x q n_at).0 ∙ num.found) begins whole some h index in
        going_on m b i p (moved_to q q.frame.pc others) (moved_to q (suc q.frame.pc) others) (λ l. refl) n k x link.still
        (hold_as m b i p k x q (moved_to q (suc q.frame.pc) others) (λ l. sym (moved_names q (suc q.frame.pc) others link.names l)) hold)
        (λ last v y s grows same holds worlds'. goes others last v y (record {
          still = s;
          function = same.function ∙ link.function;
          known_so = same.known ∙ link.known;
          holds = holds;
          alike = worlds';
          whole = whole;
          array = array ∙ some;
          z = num.number;
          number = number;
          h = h;
          index = index;
          address = address_later m k last others whole item h grows address;
        })))
