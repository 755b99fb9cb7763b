-- How long arrays and lists are.
use Rattle.std.proofs.Common.{◌≡◌, ℕ, ℤ, zero, suc, pos, ◌<◌, List, [], ◌∷◌, length, Option, Some, None, refl, sym, ap, ◌∙◌, subst, arith}
use Rattle.std.specs.Prelude.{slice_get}
use Rattle.heap_model.proofs.Heap as heap
use Rattle.limbo_types.specs.Types as ty
use Rattle.limbo_types.specs.Types.{Ty}
use Rattle.limbo_values.specs.declared.number.Kind.TheVariants.{Int}
use Rattle.limbo_values.specs.Numbers.{InRange, wrapped}
use Rattle.limbo_values.proofs.Ranges.{within, always}
use Rattle.limbo_typed.specs.declared.operation.Operation.TheVariants.{Length}
use Rattle.limbo_typed.specs.declared.operation.Sequence.TheVariants as sequence
use Rattle.limbo_typed.specs.declared.operation.Sequence.{Sequence}
use Rattle.limbo_typed.specs.Typed as typed
use Rattle.limbo_typed.specs.Fitting.{IsSequence, TakesLength}
use Rattle.limbo_meaning.specs.Memory as source
use Rattle.limbo_meaning.specs.Operations.{long_of}
use Rattle.limbo_meaning.specs.Process.{Shared}
use Rattle.limbo_meaning.specs.Trees.{Operate}
use Rattle.limbo_meaning.specs.Values.{Num, fitted, part_of, name_of}
use Rattle.system_model.specs.Limits.{frames_limit}
use Rattle.core_code.specs.Code.{Give}
use Rattle.core_code.specs.Machine as code
use Rattle.core_code.specs.Slots as core
use Rattle.core_code.specs.Slots.{Slot, Holds}
use Rattle.core_typing.specs.Held as held
use Rattle.core_typing.specs.Held.{Of}
use Rattle.core_typing.specs.Needs.{AreThese}
use Rattle.dis_isa.specs.declared.inst.Middle.TheVariants as middle
use Rattle.dis_isa.specs.declared.op.Op.TheVariants as op
use Rattle.dis_meaning.specs.Numbers.{with_number_at}
use Rattle.dis_meaning.specs.Words.{Word, Access, ◌>>=◌, reference}
use Rattle.dis_meaning.specs.Process.{Process}
use Rattle.dis_memory.specs.Blocks.{World}
use Rattle.value_words.specs.Forms.{Cells}
use Rattle.value_words.specs.Facts.{Facts, IsName}
use Rattle.value_frames.specs.Frames.{number_place, reference_place}
use Rattle.value_moves.specs.Operands.{inst, own}
use Rattle.value_moves.proofs.Leading.{spots_lead}
use Rattle.value_code.specs.Objects.{object_of}
use Rattle.number_effects.proofs.Reading.{operands_are_read}
use Rattle.block_effects.specs.Contents.{IsThere, IsList, nothing_more, one_more}
use Rattle.block_effects.proofs.Arrays.{arrays_come}
use Rattle.block_effects.proofs.Lists.{lists_come}
use Rattle.block_effects.proofs.Counting.{lists_are_counted}
use Rattle.value_follows.specs.Stands.{types_of}
use Rattle.value_follows.specs.Sides.{sides, program}
use Rattle.value_follows.specs.Rows.{Base, InstrGoes, RowGoes}
use Rattle.value_follows.proofs.Standing.{finds, code_here}
use Rattle.value_follows.proofs.Slots.{uses}
use Rattle.value_follows.proofs.Single.{single}
use Rattle.value_follows.proofs.Jumps.{behind_it}
use Rattle.value_follows.proofs.Comparing.{one_slot}
use Rattle.rows_lists.specs.Rows.{LengthsGo, CountsGo}
use Rattle.rows_lists.proofs.Blocks.{lead, word_leads}
use Rattle.rows_lists.proofs.Giving.{number_given}
use Rattle.rows_lists.proofs.Held.{name_is, part_is}
use Rattle.rows_lists.proofs.Slicing.{long_in, elements_there}

-- the type of the one operand
record OneOf (q : Sequence) (us : List Ty) (t : Ty) : Type 0 where
  type : Ty
  is : IsSequence q type
  one : us ≡ type ∷ []
  int : t ≡ ty.Int

one_of : (q : Sequence) (us : List Ty) (t : Ty) → TakesLength q us t → OneOf q us t
one_of q [] t h = absurd h
one_of q (u ∷ []) t h = record { type = u; is = h.0; one = refl; int = h.1 }
one_of q (u ∷ v ∷ us) t h = absurd h

array_type : (t : Ty) → IsSequence sequence.Array t → (item : Ty) × (t ≡ ty.ArrayOf item)
array_type (ty.ArrayOf item) h = (item, refl)
array_type t h = absurd h

list_type : (t : Ty) → IsSequence sequence.List t → (item : Ty) × (t ≡ ty.ListOf item)
list_type (ty.ListOf item) h = (item, refl)
list_type t h = absurd h

-- ---- arrays

array_long : (m : typed.Module) (b : Base m) (into a : ℕ) (k : Facts) (i : ℕ) (x : World) (p : code.Process) (q : Process) → (sides m).ready k i x p q
    → slice_get p.frame.code p.frame.pc ≡ Some (Give ty.Int (Operate (Length sequence.Array)) into (a ∷ []))
    → RowGoes m k i x p q
array_long m b into a k i x p q ready here =
    single m b i p q k x ready (λ now w y r hold worlds.
    let it = Give ty.Int (Operate (Length sequence.Array)) into (a ∷ []) in
    let is = r.stands.is in
    let row = code_here m now i y p q r it here in
    let found = finds m is.function p.frame.pc is.known it r.stands.goes row in
    let of = one_of sequence.Array found.0 ty.Int found.2.0 in
    let array = array_type of.type of.is in
    let these = subst (AreThese is.known (a ∷ [])) (of.one ∙ ap (λ (u : Ty). u ∷ []) array.1) found.1 in
    let named = uses m now i y [] p.frame q.frame is p.frame.pc it row in
    let part = part_is m now i y [] p.frame q.frame is array.0 a named.1.0 (λ e. e) these.0 in
    let at = reference_place m.adts (types_of m is.function) a in
    let to = number_place m.adts (types_of m is.function) into in
    let es = elements_there m now w y worlds array.0 part.refers part.part part.stands (word_leads m now i y p q hold at part.refers part.word) in
    let long : long_of part.part ≡ long_in p a =
    ap long_of (sym (ap (λ (s : Slot). part_of (core.value_of s)) part.holds ∙ part.is_part)) in
    let range = subst (λ (l : ℕ). InRange Int (pos l)) long es.counted in
    number_given m b now i w y p q r hold worlds it here into named.0 found.3 refl
    (inst op.Lena (own at) middle.None (own to)) refl Int refl (pos (long_in p a)) range (omega arith) []
    (λ d others e. (arrays_come frames_limit (object_of m) y q).read.long (own at) (own to) middle.None es.elements others d (
      part.refers,
      operands_are_read.source_referring y q (own at) q.frame.words at (spots_lead.own y q at).0 ∙ ap (λ (g : Access Word). g >>= reference) part.word,
      es.are,
    )
    (ap (λ (l : ℕ). with_number_at Int d.words (pos d.byte) (pos l)) (es.long ∙ long) ∙ e))
    (behind_it m b now i w y p q r hold worlds it here 0 (suc p.frame.pc) (held.put is.known into (Of ty.Int [])) (omega arith) refl)
    (ap (code.next frames_limit (program m) w p) here
    ∙ ap (λ (z : ℤ). code.goes_on w p (core.put p.frame.slots into (Holds (Num z)))) (within Int (pos (long_in p a)) range)))

pub lengths_go : LengthsGo
lengths_go m b t into from k i x p q ready here =
    let it = Give t (Operate (Length sequence.Array)) into from in
    let r = ready.0 in
    let known = r.stands.is.known in
    let found = finds m r.stands.is.function p.frame.pc known it r.stands.goes (code_here m k i x p q r it here) in
    let of = one_of sequence.Array found.0 t found.2.0 in
    let slot = one_slot known from of.type (subst (AreThese known from) of.one found.1) in
    array_long m b into slot.0 k i x p q ready
    (here ∙ ap (λ (u : Ty). Some (Give u (Operate (Length sequence.Array)) into from)) of.int
    ∙ ap (λ (rs : List ℕ). Some (Give ty.Int (Operate (Length sequence.Array)) into rs)) slot.1)

-- ---- lists

-- A list comes to an end: each cell refers to one that is older.
module _ (m : typed.Module) (k : Facts) (w : Shared) (x : World) (worlds : (sides m).worlds k w x) (t : Ty) where
  abbrev Ends : Option ℕ → Type 0
  Ends n = (long : ℕ) × IsList w.heap n long

  lists_end : (most : ℕ) (r n : Option ℕ) → IsName k (Some (Cells t)) r n → IsThere x r → ((c : ℕ) → r ≡ Some c → c < most) → Ends n
  lists_end most None None named live low = (0, nothing_more)
  lists_end most None (Some n) named live low = absurd named
  lists_end most (Some c) None named live low = absurd named
  lists_end zero (Some c) (Some n) named live low = let h = low c refl in absurd (omega (arith, h))
  lists_end (suc most) (Some c) (Some n) named live low =
      let cell = (lead m k w x worlds).cell t c n named live in
      let rest = lists_end most cell.rest cell.behind cell.named cell.rest_there
      (λ d e. let older = cell.older d e in let h = low c refl in omega (arith, older, h)) in
      (suc rest.0, one_more n cell.head cell.behind rest.0 cell.is rest.1)

  list_ends : (r n : Option ℕ) → IsName k (Some (Cells t)) r n → IsThere x r → Ends n
  list_ends r n named live = lists_end (length x.heap) r n named live (λ c e. heap.within x.heap c (live c e))

list_long : (m : typed.Module) (b : Base m) (into a : ℕ) → InstrGoes m (Give ty.Int (Operate (Length sequence.List)) into (a ∷ []))
list_long m b into a k i x p q ready here =
    single m b i p q k x ready (λ now w y r hold worlds.
    let it = Give ty.Int (Operate (Length sequence.List)) into (a ∷ []) in
    let is = r.stands.is in
    let row = code_here m now i y p q r it here in
    let found = finds m is.function p.frame.pc is.known it r.stands.goes row in
    let of = one_of sequence.List found.0 ty.Int found.2.0 in
    let list = list_type of.type of.is in
    let these = subst (AreThese is.known (a ∷ [])) (of.one ∙ ap (λ (u : Ty). u ∷ []) list.1) found.1 in
    let named = uses m now i y [] p.frame q.frame is p.frame.pc it row in
    let l = name_is m now i y [] p.frame q.frame is (ty.ListOf list.0) a tt named.1.0 (λ e. e) these.0 in
    let at = reference_place m.adts (types_of m is.function) a in
    let to = number_place m.adts (types_of m is.function) into in
    let there = word_leads m now i y p q hold at l.refers l.word in
    let ends = list_ends m now w y worlds list.0 l.refers l.name l.named there in
    number_given m b now i w y p q r hold worlds it here into named.0 found.3 refl
    (inst op.Lenl (own at) middle.None (own to)) refl Int refl (wrapped Int (pos ends.0)) (always Int (pos ends.0)) (omega arith) []
    (λ d others e. (lists_come frames_limit (object_of m) y q).read.long (own at) (own to) middle.None l.refers ends.0 others d
    (operands_are_read.source_referring y q (own at) q.frame.words at (spots_lead.own y q at).0 ∙ ap (λ (g : Access Word). g >>= reference) l.word)
    ((lead m now w y worlds).list list.0 l.refers l.name ends.0 l.named there ends.1) e)
    (behind_it m b now i w y p q r hold worlds it here 0 (suc p.frame.pc) (held.put is.known into (Of ty.Int [])) (omega arith) refl)
    (ap (code.next frames_limit (program m) w p) here
    ∙ ap (λ (s : Slot). code.goes_on w p (core.put p.frame.slots into (Holds (fitted m.adts ty.Int (Num (pos
    (source.list_length w.heap (length w.heap) (name_of (core.value_of s))))))))) l.holds
    ∙ ap (λ (n : ℕ). code.goes_on w p (core.put p.frame.slots into (Holds (fitted m.adts ty.Int (Num (pos n)))))) (lists_are_counted w.heap l.name ends.0 ends.1)))

pub counts_go : CountsGo
counts_go m b t into from k i x p q ready here =
    let it = Give t (Operate (Length sequence.List)) into from in
    let r = ready.0 in
    let known = r.stands.is.known in
    let found = finds m r.stands.is.function p.frame.pc known it r.stands.goes (code_here m k i x p q r it here) in
    let of = one_of sequence.List found.0 t found.2.0 in
    let slot = one_slot known from of.type (subst (AreThese known from) of.one found.1) in
    list_long m b into slot.0 k i x p q ready
    (here ∙ ap (λ (u : Ty). Some (Give u (Operate (Length sequence.List)) into from)) of.int
    ∙ ap (λ (rs : List ℕ). Some (Give ty.Int (Operate (Length sequence.List)) into rs)) slot.1)
