-- The number of a variant that stands in front of an adt's value.
use Rattle.std.proofs.Common.{◌≡◌, ℕ, ℤ, suc, pos, ◌+◌, ◌<◌, List, [], ◌∷◌, ◌++◌, length, Option, Some, None, refl, sym, ap, ◌∙◌, subst, arith}
use Rattle.std.specs.Prelude.{slice_get}
use Rattle.std.specs.Int.{next_multiple_of}
use Rattle.heap_model.specs.Heap.{at}
use Rattle.limbo_types.specs.Types as ty
use Rattle.limbo_types.specs.Types.{Ty}
use Rattle.limbo_layout.specs.Adts.{Def, Variant, parts, tag, field_types}
use Rattle.limbo_layout.specs.Layout.{Room, Laid, AllLaid, is_alone, of_tuple, of_adt, more_laid, alone, nothing, number}
use Rattle.limbo_values.specs.declared.number.Kind.TheVariants as kind
use Rattle.limbo_values.specs.declared.number.Kind.TheVariants.{Int}
use Rattle.limbo_values.specs.Numbers.{InRange}
use Rattle.limbo_values.proofs.Ranges.{within}
use Rattle.limbo_typed.specs.declared.operation.Operation.TheVariants.{Tag}
use Rattle.limbo_typed.specs.Typed as typed
use Rattle.limbo_typed.specs.Fitting.{IsRefOf, IsPick, TakesTag}
use Rattle.limbo_meaning.specs.Memory.{HeapValue, record_in}
use Rattle.limbo_meaning.specs.Process.{Shared}
use Rattle.limbo_meaning.specs.Trees.{Operate}
use Rattle.limbo_meaning.specs.Values.{Value, Num, Ref, Parts, row, first_in, parts_of, fitted}
use Rattle.limbo_meaning.specs.Exceptions.{Raising, dereference_of_nil}
use Rattle.limbo_meaning.specs.Operations.{Outcome, gives_inner}
use Rattle.system_model.specs.Limits.{frames_limit}
use Rattle.core_code.specs.Code.{Instr, Give}
use Rattle.core_code.specs.Machine as code
use Rattle.core_code.specs.Slots as core
use Rattle.core_code.specs.Slots.{Slot, Holds}
use Rattle.core_typing.specs.Held as held
use Rattle.core_typing.specs.Held.{Of}
use Rattle.core_typing.specs.Needs.{AreThese, IsClean}
use Rattle.dis_isa.specs.declared.inst.Inst.{Inst}
use Rattle.dis_isa.specs.declared.inst.Middle.TheVariants as middle
use Rattle.dis_isa.specs.declared.op.Op.TheVariants as op
use Rattle.dis_meaning.specs.Words.{Word, Refer, Access, Found, ◌>>=◌, word_at, plain}
use Rattle.dis_meaning.specs.Numbers.{number_at}
use Rattle.dis_meaning.specs.Process.{Process}
use Rattle.dis_memory.specs.Blocks as block
use Rattle.dis_memory.specs.Blocks.{World}
use Rattle.dis_memory.specs.Places as places
use Rattle.dis_memory.specs.Places.{spot, read}
use Rattle.dis_memory.specs.Results.{gives_plain_at}
use Rattle.value_words.specs.Forms as forms
use Rattle.value_words.specs.Forms.{Adts}
use Rattle.value_words.specs.Facts.{Facts, IsName}
use Rattle.value_words.specs.Stands.{IsReference, Stands, a_number, a_text, a_name, an_array, no_words, a_tuple, an_adt, AllStand, none_stand, more_stand}
use Rattle.value_frames.specs.Frames.{number_place, reference_place}
use Rattle.value_heaps.proofs.Formed.{is_adt}
use Rattle.value_moves.specs.Operands.{inst, own, behind}
use Rattle.value_moves.proofs.Leading.{spots_lead}
use Rattle.value_code.specs.Objects.{of_function, size_at, globals, constants}
use Rattle.number_effects.proofs.Reading.{operands_are_read}
use Rattle.value_follows.specs.Stands.{Ready, GoesOn, types_of}
use Rattle.value_follows.specs.Sides.{sides, HoldTheSame, program}
use Rattle.value_follows.specs.Rows.{Base, InstrGoes}
use Rattle.value_follows.proofs.Standing.{finds, code_here}
use Rattle.value_follows.proofs.Slots.{uses, number_there}
use Rattle.value_follows.proofs.Single.{Once, single}
use Rattle.value_follows.proofs.Jumps.{behind_it}
use Rattle.value_follows.proofs.Comparing.{one_slot}
use Rattle.value_follows.proofs.Numbers.{begins, int_moved}
use Rattle.rows_lists.specs.Rows.{TagsGo}
use Rattle.rows_lists.proofs.Blocks.{lead, word_leads}
use Rattle.rows_lists.proofs.Held.{name_is}
use Rattle.rows_lists.proofs.Giving.{raises}
use Rattle.rows_lists.proofs.Lists.{comes}

-- ---- the tag of a value

module _ (defs : List Def) (k : Facts) (words : List Word) where
  pub record TagAt (v : Value) : Type 0 where
    pub number : ℤ
    pub is : first_in (parts_of v) ≡ Num number
    pub found : number_at Int words (pos 0) ≡ Found number
    pub range : InRange Int number

  int_room : (t : Ty) (r : Room) → t ≡ ty.Int → Laid defs t r → r ≡ number 4
  int_room _ _ e (is_alone t r f) =
      let g : Some (number 4) ≡ Some r = subst (λ (u : Ty). alone u ≡ Some r) e f in
      cc
  int_room _ _ e (of_tuple ts rs l) = absurd cc
  int_room _ _ e (of_adt n d rs f l) = absurd cc

  first_there : (w : Room) (ts more : List Ty) (rs : List Room) (vs : List Value) (at : ℕ) → at ≡ 0 → w.size ≡ 0 → ts ≡ ty.Int ∷ more → AllLaid defs ts rs
      → AllStand defs k words at w ts rs vs → TagAt (Parts (row vs))
  first_there _ _ more _ _ _ z s e laid (none_stand at w) = absurd cc
  first_there _ _ more _ _ _ z s e (more_laid _ _ _ _ l ls) (more_stand at w t ts r rs v vs stands all) =
      let int : t ≡ ty.Int = cc in
      let room : r ≡ number 4 = int_room t r int l in
      let start : next_multiple_of w.size r.align ≡ 0 =
      ap (λ (n : ℕ). next_multiple_of n r.align) s ∙ ap (λ (g : Room). next_multiple_of 0 g.align) room in
      let place : at + next_multiple_of w.size r.align ≡ 0 = omega (arith, z, start) in
      let n = number_there defs k words (at + next_multiple_of w.size r.align) t v Int int stands in
      record { number = n.number; is = n.is; found = subst (λ (o : ℕ). number_at Int words (pos o) ≡ Found n.number) place n.found; range = n.range }

  has_tag : (picks : List Variant) (more : List Ty) → (picks ≡ [] → ⊥) → tag picks ++ more ≡ ty.Int ∷ more
  has_tag [] more none = absurd (none refl)
  has_tag (v ∷ vs) more none = refl

  pub tag_there : (n : ℕ) (d : Def) → slice_get defs n ≡ Some d → (d.picks ≡ [] → ⊥) → (at : ℕ) (t : Ty) (v : Value) → at ≡ 0 → t ≡ ty.Adt n
      → Stands defs k words at t v → TagAt v
  tag_there n d there picks _ _ _ z e (a_number at kind.Byte y f r) = absurd cc
  tag_there n d there picks _ _ _ z e (a_number at kind.Int y f r) = absurd cc
  tag_there n d there picks _ _ _ z e (a_number at kind.Big y f r) = absurd cc
  tag_there n d there picks _ _ _ z e (a_text at r s f h) = absurd cc
  tag_there n d there picks _ _ _ z e (a_name at t r l j f h) = absurd (subst IsReference e j)
  tag_there n d there picks _ _ _ z e (an_array at t r p f h) = absurd cc
  tag_there n d there picks _ _ _ z e (no_words at) = absurd cc
  tag_there n d there picks _ _ _ z e (a_tuple at ts rs vs l all) = absurd cc
  tag_there n d there picks _ _ _ z e (an_adt at l c rs vs f laid all) =
      let number : l ≡ n = cc in
      let g : Some c ≡ Some d = sym f ∙ ap (slice_get defs) number ∙ there in
      let same : c ≡ d = cc in
      first_there nothing (parts c) (field_types c) rs vs at z refl
      (has_tag c.picks (field_types c) (λ h. picks (ap (λ (o : Def). o.picks) (sym same) ∙ h))) laid all

-- ---- the row

module _ (m : typed.Module) (b : Base m) (into a : ℕ) where
  abbrev instr : Instr
  instr = Give ty.Int (Operate Tag) into (a ∷ [])

  module _ (k : Facts) (i : ℕ) (w : Shared) (x : World) (p : code.Process) (q : Process) (ready : Ready m k i x p q) (hold : HoldTheSame m k i x p q) (worlds : (sides m).worlds k w x) (here : slice_get p.frame.code p.frame.pc ≡ Some instr)
      (n : ℕ) (d : Def) (there : slice_get m.adts n ≡ Some d) (picks : d.picks ≡ [] → ⊥)
      (l : into < length p.frame.slots) (clean : IsClean (held.slot ready.stands.is.known into))
      (size : size_at m ready.stands.is.function.of.answer (of_function m ready.stands.is.function) p.frame.pc (Some instr) ≡ 1)
      (goes : GoesOn m ready.stands.is.function (suc p.frame.pc) (held.put ready.stands.is.known into (Of ty.Int []))) where
    abbrev from_at : ℕ
    from_at = reference_place m.adts (types_of m ready.stands.is.function) a

    abbrev to : ℕ
    to = number_place m.adts (types_of m ready.stands.is.function) into

    abbrev move : Inst
    move = inst op.Movw (behind from_at 0) middle.None (own to)

    abbrev gives_tag : Slot → Raising Outcome
    gives_tag s = gives_inner m.adts (code.memory frames_limit (program m) w p) (λ h. first_in (parts_of (record_in h))) (core.value_of s)

    tag_goes : begins m b k i w x p q ready hold worlds instr here move → (name refers : Option ℕ) → core.slot p.frame.slots a ≡ Holds (Ref name)
        → word_at q.frame.words (pos from_at) ≡ Found (Refer refers) → IsName k (Some (Adts n)) refers name → Once m b i p q k w x
    tag_goes is None None holds word named =
        raises m b k i w x p q ready hold worlds instr here move is dereference_of_nil
        (ap (λ (g : Access Word). ((g >>= λ v. places.behind v (pos 0)) >>= λ s. read x q s >>= plain) >>= λ v.
        spot x q (own to) >>= λ d. gives_plain_at x q d (Found v)) word)
        (ap (code.next frames_limit (program m) w p) here ∙ ap (λ (s : Slot). comes m w p ty.Int Tag into (gives_tag s)) holds)
    tag_goes is None (Some c) holds word named = absurd named
    tag_goes is (Some e) None holds word named = absurd named
    tag_goes is (Some e) (Some c) holds word named =
        let found = (lead m k w x worlds).named c e named.fact (word_leads m k i x p q hold from_at (Some c) word) in
        let adt = is_adt m.adts (globals m) (constants m) k c found.v found.one n found.stands.0 named.formed in
        let tag = tag_there m.adts k adt.words n d there picks 0 (ty.Adt n) adt.parts refl refl adt.stands in
        let leads = (spots_lead.inner x q from_at c adt.words 0 word (found.found ∙ ap (λ (o : block.Block). Some o) adt.is)).0 in
        let plainly = operands_are_read.int_is_plain adt.words 0 tag.number tag.found in
        int_moved m b k i w x p q ready hold worlds instr here into l clean size (behind from_at 0) is tag.number
        (record {
          word = plainly.0;
          plainly = operands_are_read.source_plain_word x q (behind from_at 0) adt.words 0 leads ∙ plainly.1;
          number = plainly.2;
          range = tag.range;
        })
        [] goes
        (ap (code.next frames_limit (program m) w p) here
        ∙ ap (λ (s : Slot). comes m w p ty.Int Tag into (gives_tag s)) holds
        ∙ ap (λ (h : Option HeapValue). code.goes_on w p (core.put p.frame.slots into (Holds (fitted m.adts ty.Int (first_in (parts_of (record_in h)))))))
        (found.is ∙ ap (λ (v : HeapValue). Some v) adt.value)
        ∙ ap (λ (v : Value). code.goes_on w p (core.put p.frame.slots into (Holds (fitted m.adts ty.Int v)))) tag.is
        ∙ ap (λ (z : ℤ). code.goes_on w p (core.put p.frame.slots into (Holds (Num z)))) (within Int tag.number tag.range))

-- a `ref` of an adt, or of a variant of it
ref_of : (n : ℕ) (t : Ty) → IsRefOf n t → IsReference t × (forms.form_of t ≡ Some (Adts n))
ref_of n (ty.RefAdt l) e = (tt, ap (λ (o : ℕ). Some (Adts o)) e)
ref_of n (ty.RefPick l j) e = (tt, ap (λ (o : ℕ). Some (Adts o)) e)
ref_of n t e = absurd e

one_ref : (defs : List Def) (us : List Ty) (t : Ty) → TakesTag defs us t
    → (u : Ty) × (us ≡ u ∷ []) × ((n : ℕ) × IsRefOf n u × IsPick defs n × (t ≡ ty.Int))
one_ref defs [] t g = absurd g
one_ref defs (u ∷ []) t g = (u, refl, g)
one_ref defs (u ∷ v ∷ us) t g = absurd g

tags_of : (m : typed.Module) (b : Base m) (into a : ℕ) → InstrGoes m (Give ty.Int (Operate Tag) into (a ∷ []))
tags_of m b into a k i x p q ready here =
    single m b i p q k x ready (λ now w y r hold worlds.
    let it = Give ty.Int (Operate Tag) into (a ∷ []) in
    let is = r.stands.is in
    let row = code_here m now i y p q r it here in
    let found = finds m is.function p.frame.pc is.known it r.stands.goes row in
    let one = one_ref m.adts found.0 ty.Int found.2.0 in
    let these = subst (AreThese is.known (a ∷ [])) one.1 found.1 in
    let named = uses m now i y [] p.frame q.frame is p.frame.pc it row in
    let of_ref = ref_of one.2.0 one.0 one.2.1 in
    let n = name_is m now i y [] p.frame q.frame is one.0 a of_ref.0 named.1.0 (λ e. e) these.0 in
    tag_goes m b into a now i w y p q r hold worlds here one.2.0 one.2.2.def one.2.2.there one.2.2.variants named.0 found.3 refl
    (behind_it m b now i w y p q r hold worlds it here 0 (suc p.frame.pc) (held.put is.known into (Of ty.Int [])) (omega arith) refl)
    refl n.name n.refers n.holds n.word (subst (λ (f : Option forms.Form). IsName now f n.refers n.name) of_ref.1 n.named))

pub tags_go : TagsGo
tags_go m b t into from k i x p q ready here =
    let it = Give t (Operate Tag) into from in
    let r = ready.0 in
    let known = r.stands.is.known in
    let found = finds m r.stands.is.function p.frame.pc known it r.stands.goes (code_here m k i x p q r it here) in
    let one = one_ref m.adts found.0 t found.2.0 in
    let slot = one_slot known from one.0 (subst (AreThese known from) one.1 found.1) in
    tags_of m b into slot.0 k i x p q ready
    (here ∙ ap (λ (u : Ty). Some (Give u (Operate Tag) into from)) one.2.3
    ∙ ap (λ (rs : List ℕ). Some (Give ty.Int (Operate Tag) into rs)) slot.1)
