-- References that come into slots by one instruction, which names no value of the heap: `nil`, and strings.
use Rattle.std.proofs.Common.{◌≡◌, ℕ, zero, suc, pos, ◌+◌, ◌*◌, ◌<◌, List, [], ◌∷◌, length, Option, Some, None, refl, sym, ap, ◌∙◌, subst, arith, inl, inr}
use Rattle.std.specs.Prelude.{slice_get}
use Rattle.heap_model.specs.Heap.{at}
use Rattle.limbo_types.specs.Types as ty
use Rattle.limbo_types.specs.Types.{Ty}
use Rattle.limbo_layout.specs.Adts.{Def, Has}
use Rattle.limbo_values.specs.declared.number.Kind.TheVariants as kind
use Rattle.limbo_typed.specs.Typed as typed
use Rattle.limbo_meaning.specs.Trees.{Nil}
use Rattle.limbo_meaning.specs.Process.{Shared}
use Rattle.limbo_meaning.specs.Values.{Value, Ref, zero_of}
use Rattle.system_model.specs.Limits.{frames_limit}
use Rattle.core_code.specs.Code.{Instr, Give}
use Rattle.core_code.specs.Machine as code
use Rattle.core_code.specs.Slots as core
use Rattle.core_code.specs.Slots.{Holds}
use Rattle.core_typing.specs.Held as held
use Rattle.core_typing.specs.Held.{Of}
use Rattle.core_typing.specs.Needs.{IsClean}
use Rattle.dis_isa.specs.declared.inst.Operand as isa
use Rattle.dis_isa.specs.declared.inst.Operand.TheVariants as operand
use Rattle.dis_isa.specs.declared.inst.Middle.TheVariants as middle
use Rattle.dis_isa.specs.declared.op.Op.TheVariants as op
use Rattle.dis_meaning.specs.Words.{Word, Refer, Access, Found, ◌>>=◌, word_at, reference}
use Rattle.dis_meaning.specs.Process.{Process}
use Rattle.dis_memory.specs.Blocks.{World}
use Rattle.dis_memory.specs.Places.{source_reference}
use Rattle.value_words.specs.Facts.{Facts}
use Rattle.value_words.specs.Stands.{Stands, a_number, a_text, a_name, an_array, no_words, a_tuple, an_adt}
use Rattle.value_frames.specs.Frames.{AsReference, form_of, number_place, reference_place, frame_bytes, frame_references}
use Rattle.value_frames.specs.Types.{AreOf}
use Rattle.value_frames.specs.Standing.{NamesOnly, ValueStands, SlotStands, a_value}
use Rattle.value_frames.specs.Slots.{ElseAsWas}
use Rattle.value_frames.proofs.Replacing.{kinds_stay}
use Rattle.value_moves.specs.Operands.{inst, own}
use Rattle.value_moves.specs.Spots.{Leads}
use Rattle.value_moves.proofs.Changing.{low_or_high}
use Rattle.value_moves.proofs.Leading.{spots_lead}
use Rattle.value_code.specs.Objects.{object_of, of_function, constants, size_at, placed}
use Rattle.value_code.specs.Data.{nil_word}
use Rattle.number_effects.specs.Giving.{with_word}
use Rattle.number_effects.proofs.Reading.{operands_are_read}
use Rattle.number_effects.proofs.Records.{words_move}
use Rattle.number_effects.proofs.Stepping.{steps_obey}
use Rattle.value_follows.specs.Stands.{Ready, GoesOn, types_of}
use Rattle.value_follows.specs.Sides.{sides, HoldTheSame, program}
use Rattle.value_follows.specs.Rows.{Base}
use Rattle.value_follows.proofs.Standing.{finds, instance_here, code_here, at_slots, at_words}
use Rattle.value_follows.proofs.Slots.{uses}
use Rattle.value_follows.proofs.Single.{Once, single, both_go}
use Rattle.value_follows.proofs.Jumps.{first, next_place, behind_it}
use Rattle.value_follows.proofs.Numbers.{begins}
use Rattle.value_follows.proofs.Putting.{at_rest}
use Rattle.rows_moving.specs.Rows.{NilsGo}
use Rattle.rows_moving.proofs.Putting.{ready_given}

-- ---- words that refer, and what stands there

module _ (defs : List Def) (k : Facts) (words : List Word) where
  -- A reference stands in one word, and wherever else that is.
  pub record OneWord (at : ℕ) (t : Ty) (v : Value) : Type 0 where
    pub refers : Option ℕ
    pub word : word_at words (pos at) ≡ Found (Refer refers)
    pub elsewhere : (others : List Word) (to : ℕ) → word_at others (pos to) ≡ Found (Refer refers) → Stands defs k others to t v

  pub one_word : (at : ℕ) (t : Ty) (v : Value) → form_of t ≡ AsReference → Stands defs k words at t v → OneWord at t v
  one_word _ _ _ e (a_number at kind.Byte z f i) = absurd cc
  one_word _ _ _ e (a_number at kind.Int z f i) = absurd cc
  one_word _ _ _ e (a_number at kind.Big z f i) = absurd cc
  one_word _ _ _ e (a_text at r s f i) = record { refers = r; word = f; elsewhere = λ others to g. a_text to r s g i }
  one_word _ _ _ e (a_name at t r n i f h) = record { refers = r; word = f; elsewhere = λ others to g. a_name to t r n i g h }
  one_word _ _ _ e (an_array at t r p f i) = record { refers = r; word = f; elsewhere = λ others to g. an_array to t r p g i }
  one_word _ _ _ e (no_words at) = absurd cc
  one_word _ _ _ e (a_tuple at ts rs vs l all) = absurd cc
  one_word _ _ _ e (an_adt at n d rs vs f l all) = absurd cc

  -- a word that stands for `nil` refers to nothing
  nil_word_refers : (at : ℕ) (t : Ty) (v : Value) → v ≡ Ref None → Stands defs k words at t v → word_at words (pos at) ≡ Found (Refer None)
  nil_word_refers _ _ _ e (a_number at j z f i) = absurd cc
  nil_word_refers _ _ _ e (a_text at r s f i) = absurd cc
  nil_word_refers _ _ _ e (a_name at t None n i f h) = f
  nil_word_refers _ _ _ e (a_name at t (Some b) None i f h) = absurd h
  nil_word_refers _ _ _ e (a_name at t (Some b) (Some n) i f h) = absurd cc
  nil_word_refers _ _ _ e (an_array at t r p f i) = absurd cc
  nil_word_refers _ _ _ e (no_words at) = absurd cc
  nil_word_refers _ _ _ e (a_tuple at ts rs vs l all) = absurd cc
  nil_word_refers _ _ _ e (an_adt at n d rs vs f l all) = absurd cc

  -- where a word refers to nothing, the zero of each type of references stands
  pub zero_stands : (at : ℕ) (t : Ty) → form_of t ≡ AsReference → word_at words (pos at) ≡ Found (Refer None)
      → Stands defs k words at t (zero_of defs t)
  zero_stands at ty.Chars e w = a_text at None [] w refl
  zero_stands at ty.Nil e w = a_name at ty.Nil None None tt w tt
  zero_stands at (ty.ArrayOf t) e w = an_array at t None None w tt
  zero_stands at (ty.ListOf t) e w = a_name at (ty.ListOf t) None None tt w tt
  zero_stands at (ty.ChanOf t) e w = a_name at (ty.ChanOf t) None None tt w tt
  zero_stands at (ty.RefAdt n) e w = a_name at (ty.RefAdt n) None None tt w tt
  zero_stands at (ty.RefPick n j) e w = a_name at (ty.RefPick n j) None None tt w tt
  zero_stands at (ty.Module n) e w = a_name at (ty.Module n) None None tt w tt
  zero_stands at t e w = absurd cc

no_name : (n k : ℕ) → slice_get (None ∷ []) k ≡ Some (Some n) → ⊥
no_name n zero e = absurd cc
no_name n (suc k) e = absurd cc

-- which names nothing
pub zero_names : (defs : List Def) (t : Ty) → form_of t ≡ AsReference → NamesOnly [] (zero_of defs t)
zero_names defs ty.Chars e k n f = absurd cc
zero_names defs ty.Nil e k n f = absurd (no_name n k f)
zero_names defs (ty.ArrayOf t) e k n f = absurd (no_name n k f)
zero_names defs (ty.ListOf t) e k n f = absurd (no_name n k f)
zero_names defs (ty.ChanOf t) e k n f = absurd (no_name n k f)
zero_names defs (ty.RefAdt a) e k n f = absurd (no_name n k f)
zero_names defs (ty.RefPick a j) e k n f = absurd (no_name n k f)
zero_names defs (ty.Module a) e k n f = absurd (no_name n k f)
zero_names defs t e k n f = absurd cc

-- ---- a reference comes into a slot that names nothing

module _ (m : typed.Module) (b : Base m) (k : Facts) (i : ℕ) (w : Shared) (x : World) (p : code.Process) (q : Process) (ready : Ready m k i x p q) (hold : HoldTheSame m k i x p q) (worlds : (sides m).worlds k w x) (instr : Instr) (here : slice_get p.frame.code p.frame.pc ≡ Some instr) where
  abbrev known : held.Slots
  known = ready.stands.is.known

  abbrev function : typed.Function
  function = ready.stands.is.function

  abbrev types : List Ty
  types = types_of m function

  -- what a constant of references refers to
  pub constant_read : (at : ℕ) (t : Ty) (v : Value) → form_of t ≡ AsReference → Has (constants m) (placed m at t v)
      → (r : Option ℕ) × (source_reference x q (operand.Mp (pos at)) ≡ Found r)
      × ((others : List Word) (to : ℕ) → word_at others (pos to) ≡ Found (Refer r) → Stands m.adts k others to t v)
  constant_read at t v form h =
      let instance = instance_here m b k i w x p q [] ready.stands.is hold worlds.0 in
      let one = one_word m.adts k instance.0 at t v form (instance.2 (placed m at t v) h).stands in (
        one.refers,
        operands_are_read.source_referring x q (operand.Mp (pos at)) instance.0 at (spots_lead.of_module x q 0 instance.0 at instance.1).0
            ∙ ap (λ (a : Access Word). a >>= reference) one.word,
        one.elsewhere,
      )

  pub nil_read : source_reference x q nil_word ≡ Found None
  nil_read =
      let instance = instance_here m b k i w x p q [] ready.stands.is hold worlds.0 in
      operands_are_read.source_referring x q nil_word instance.0 4 (spots_lead.of_module x q 0 instance.0 4 instance.1).0
      ∙ ap (λ (a : Access Word). a >>= reference)
      (nil_word_refers m.adts k instance.0 4 ty.Nil (Ref None) refl (instance.2 (placed m 4 ty.Nil (Ref None)) (inr (inl refl))).stands)

  module _ (s : ℕ) (l : s < length p.frame.slots) (clean : IsClean (held.slot known s)) where
    abbrev n_at : ℕ
    n_at = number_place m.adts types s

    abbrev r_at : ℕ
    r_at = reference_place m.adts types s

    abbrev leads : Leads x q (own r_at) q.frame.words r_at
    leads = (spots_lead.own x q r_at).0

    pub word_stored : (size : size_at m function.of.answer (of_function m function) p.frame.pc (Some instr) ≡ 1) (source : isa.Operand)
        → begins m b k i w x p q ready hold worlds instr here (inst op.Movp source middle.None (own r_at))
        → (r : Option ℕ) → source_reference x q source ≡ Found r → (t : Ty) (v : Value) (live : List ℕ)
        → ((others : List Word) → word_at others (pos r_at) ≡ Found (Refer r) → ValueStands m.adts k others n_at r_at (form_of t) t v) → NamesOnly live v
        → GoesOn m function (suc p.frame.pc) (held.put known s (Of t live))
        → (sides m).program.step w p ≡ code.goes_on w p (core.put p.frame.slots s (Holds v)) → Once m b i p q k w x
    word_stored size source is r read t v live stands names goes does =
        let idle = (at_rest m k i x p q ready s l clean).0 in
        let move = inst op.Movp source middle.None (own r_at) in
        let stored = words_move.reference frames_limit (object_of m) x q move r q.frame.words r_at leads idle.0 refl read idle.1 in
        let changes = stored.0.changes in
        let others = with_word q.frame.words r_at (Refer r) in
        let next = next_place m b k i w x p q ready hold worlds instr here 1 size in
        let else_as_was : ElseAsWas q.frame.words others n_at 8 =
        record {
          each = λ u no. elim (low_or_high (4 * u) n_at) [
            | inl low ↦ changes.words u (inl (omega (arith, low)))
            | inr high ↦ elim (low_or_high (4 * u) (n_at + 8)) [
              | inl within ↦ absurd (no (high, within))
              | inr past ↦ changes.words u (inr (omega (arith, past)))
            ]
          ];
        } in
        let kind : AreOf (frame_bytes m.adts types (length p.frame.slots)) (frame_references m.adts types (length p.frame.slots)) others =
        kinds_stay.all (frame_bytes m.adts types (length p.frame.slots)) (frame_references m.adts types (length p.frame.slots)) q.frame.words others
        ready.stands.is.words.kind changes.many changes.refer changes.referred
        (stored.0.ranged (λ z e. absurd cc) ready.stands.is.words.kind.ranged) in
        let slot : SlotStands m.adts k x.heap q.frame.serial others n_at r_at (Of t live) (Holds v) [] =
        a_value others n_at r_at t live v (stands others stored.0.there) names in
        both_go m b i p q k w x hold worlds
        (at_slots m k i x p q ready (suc p.frame.pc) (core.put p.frame.slots s (Holds v)))
        (at_words m k i x p q ready (suc q.frame.pc) others)
        (steps_obey.stores frames_limit (object_of m ∷ []) x q (object_of m) move x leads.place others _
        (first m b k i w x p q ready hold worlds instr here move is) stored.1 ((spots_lead.own x q r_at).1 others))
        does
        (ready_given m k i x p q ready s l others else_as_was kind (Of t live) (Holds v) slot (suc q.frame.pc) (omega (arith, next)) goes)

    pub reference_stored : (size : size_at m function.of.answer (of_function m function) p.frame.pc (Some instr) ≡ 1) (source : isa.Operand)
        → begins m b k i w x p q ready hold worlds instr here (inst op.Movp source middle.None (own r_at))
        → (r : Option ℕ) → source_reference x q source ≡ Found r → (t : Ty) (v : Value) (live : List ℕ) → form_of t ≡ AsReference
        → ((others : List Word) (to : ℕ) → word_at others (pos to) ≡ Found (Refer r) → Stands m.adts k others to t v) → NamesOnly live v
        → GoesOn m function (suc p.frame.pc) (held.put known s (Of t live))
        → (sides m).program.step w p ≡ code.goes_on w p (core.put p.frame.slots s (Holds v)) → Once m b i p q k w x
    reference_stored size source is r read t v live form stands names goes does =
        word_stored size source is r read t v live
        (λ others e. subst (λ f. ValueStands m.adts k others n_at r_at f t v) (sym form) (stands others r_at e)) names goes does

-- ---- `nil`

pub nils_go : NilsGo
nils_go m b t into from form k i x p q ready here =
    single m b i p q k x ready (λ now w y r hold worlds.
    let is = r.stands.is in
    let instr = Give t Nil into from in
    let found = finds m is.function p.frame.pc is.known instr r.stands.goes (code_here m now i y p q r instr here) in
    reference_stored m b now i w y p q r hold worlds instr here into
    (uses m now i y [] p.frame q.frame is p.frame.pc instr (code_here m now i y p q r instr here)).0 found.3
    refl nil_word refl None (nil_read m b now i w y p q r hold worlds instr here) t (zero_of m.adts t) [] form
    (λ others to e. zero_stands m.adts now others to t form e) (zero_names m.adts t form)
    (behind_it m b now i w y p q r hold worlds instr here 0 (suc p.frame.pc) (held.put is.known into (Of t [])) (omega arith) refl)
    (ap (code.next frames_limit (program m) w p) here))

-- ---- strings
