-- What the last instruction of a row does, where the inner ones changed nothing that refers.
use Rattle.std.proofs.Common.{◌≡◌, ℕ, ℤ, suc, pos, ◌+◌, ◌<◌, ◌≤◌, List, [], ◌∷◌, length, Option, Some, refl, sym, ap, ◌∙◌, subst, arith, inl, inr}
use Rattle.std.specs.Prelude.{slice_get}
use Rattle.process_model.specs.Process.{Ends}
use Rattle.system_model.specs.Ending.{Broken}
use Rattle.system_model.specs.Limits.{frames_limit}
use Rattle.limbo_types.specs.Types as ty
use Rattle.limbo_types.specs.Types.{Ty}
use Rattle.limbo_values.specs.declared.number.Kind.TheVariants as kind
use Rattle.limbo_values.specs.Numbers.{InRange}
use Rattle.limbo_typed.specs.Typed as typed
use Rattle.limbo_meaning.specs.Process.{Shared}
use Rattle.limbo_meaning.specs.Values.{Value, Num}
use Rattle.core_code.specs.Code.{Instr}
use Rattle.core_code.specs.Machine as code
use Rattle.core_code.specs.Slots as core
use Rattle.core_code.specs.Slots.{Holds}
use Rattle.core_typing.specs.Held as held
use Rattle.core_typing.specs.Held.{Of}
use Rattle.core_typing.specs.Needs.{IsClean}
use Rattle.dis_isa.specs.declared.inst.Inst.{Inst}
use Rattle.dis_isa.specs.declared.inst.Operand as isa
use Rattle.dis_isa.specs.declared.inst.Middle.TheVariants as middle
use Rattle.dis_isa.specs.declared.op.Op.{Op}
use Rattle.dis_isa.specs.declared.op.Op.TheVariants as op
use Rattle.dis_meaning.specs.Words.{Word, Plain, Refer, Access, Found, Raises, ◌>>=◌, number_in, reference}
use Rattle.dis_meaning.specs.Numbers.{number_at}
use Rattle.dis_meaning.specs.Process.{Process, Printing}
use Rattle.dis_memory.specs.Blocks.{World}
use Rattle.dis_memory.specs.Step.{obey}
use Rattle.value_words.specs.Contents.{AreInRange}
use Rattle.value_words.specs.Facts.{Facts}
use Rattle.value_words.specs.Stands.{Stands}
use Rattle.value_frames.specs.Frames.{AsNumber, AsReference, form_of, number_place, reference_place}
use Rattle.value_frames.specs.Standing.{ValueStands, NamesOnly, a_value}
use Rattle.value_moves.specs.Operands.{inst, own, moved}
use Rattle.value_moves.specs.Spots.{Leads}
use Rattle.value_moves.specs.Changing.{Changes}
use Rattle.value_moves.proofs.Leading.{spots_lead}
use Rattle.value_code.specs.Objects.{object_of, of_function, size_at, globals}
use Rattle.value_code.specs.Operands.{Scene, in_slot, by_form}
use Rattle.value_code.specs.Works.{prepared}
use Rattle.value_code.specs.Code.{code_of}
use Rattle.number_effects.specs.Giving.{after, with_word}
use Rattle.number_effects.specs.Stepping.{Reaches}
use Rattle.number_effects.proofs.Reading.{operands_are_read}
use Rattle.number_effects.proofs.Numbers.{numbers_work}
use Rattle.number_effects.proofs.Records.{words_move}
use Rattle.number_effects.proofs.Stepping.{steps_obey}
use Rattle.value_follows.specs.Stands.{Ready, GoesOn, place_of, types_of}
use Rattle.value_follows.specs.Sides.{sides, HoldTheSame}
use Rattle.value_follows.specs.Rows.{Base, site_of}
use Rattle.value_follows.proofs.Standing.{instance_here, at_slots, at_words}
use Rattle.value_follows.proofs.Slots.{number_there}
use Rattle.value_follows.proofs.Single.{Once, both_go, both_end}
use Rattle.value_follows.proofs.Several.{hold_as, row_now}
use Rattle.value_follows.proofs.Jumps.{next_place}
use Rattle.value_follows.proofs.Putting.{old_word, ready_put, at_rest}
use Rattle.value_follows.proofs.References.{ready_referring}
use Rattle.rows_places.specs.Rows.{IsSimple}
use Rattle.rows_places.proofs.Words.{one_word}
use Rattle.rows_places.proofs.Going.{at_place_of}
use Rattle.limbo_layout.specs.Adts.{Def}
use Rattle.limbo_values.specs.declared.number.Kind.{Kind}
use Rattle.limbo_typed.specs.Fitting.{of_kind}
use Rattle.value_code.specs.Code.{Site}

-- ---- moves of one word

-- the instruction that moves a number or a reference
abbrev pub simple_op : Ty → Op
simple_op ty.Byte = op.Movb
simple_op ty.Int = op.Movw
simple_op t = op.Movp

pub simple_moved : (defs : List Def) (t : Ty) (n : ℕ) (a d : isa.Operand) → IsSimple t → moved defs t n a d ≡ inst (simple_op t) a middle.None d ∷ []
simple_moved defs ty.Byte n a d s = refl
simple_moved defs ty.Int n a d s = refl
simple_moved defs ty.Chars n a d s = refl
simple_moved defs ty.Nil n a d s = refl
simple_moved defs (ty.ArrayOf t) n a d s = refl
simple_moved defs (ty.ListOf t) n a d s = refl
simple_moved defs (ty.ChanOf t) n a d s = refl
simple_moved defs (ty.RefAdt j) n a d s = refl
simple_moved defs (ty.RefPick j l) n a d s = refl
simple_moved defs (ty.Module j) n a d s = refl
simple_moved defs t n a d (inl e) = absurd cc
simple_moved defs t n a d (inr e) = absurd cc

pub simple_prepared : (t : Ty) (n : ℕ) (d : isa.Operand) → IsSimple t → prepared (form_of t) n d ≡ []
simple_prepared t n d (inl e) = ap (λ f. prepared f n d) e
simple_prepared t n d (inr e) = ap (λ f. prepared f n d) e

pub reference_op : (t : Ty) → form_of t ≡ AsReference → simple_op t ≡ op.Movp
reference_op ty.Byte e = absurd cc
reference_op ty.Int e = absurd cc
reference_op t e = refl

same_number : (v : Word) (y z : ℤ) → v ≡ Plain y → number_in v ≡ Found z → y ≡ z
same_number v y z e f = let g : number_in v ≡ Found y = ap number_in e in cc

-- ---- the last instruction of a row, so many instructions behind its begin

module _ (m : typed.Module) (b : Base m) (k : Facts) (i : ℕ) (w : Shared) (x : World) (p : code.Process) (q : Process) (ready : Ready m k i x p q)
    (hold : HoldTheSame m k i x p q) (worlds : (sides m).worlds k w x) (instr : Instr) (here : slice_get p.frame.code p.frame.pc ≡ Some instr)
    (pc : ℕ) (pr : Option Printing) (j : ℕ) (so_far : pc ≡ q.frame.pc + j) where
  abbrev known : held.Slots
  known = ready.stands.is.known

  abbrev function : typed.Function
  function = ready.stands.is.function

  abbrev types : List Ty
  types = types_of m function

  abbrev pub scene : Scene
  scene = record { adts = m.adts; globals = globals m; variables = types }

  -- the process there
  abbrev pub there : Process
  there = at_place_of q pc pr

  abbrev pub site_now : Site
  site_now = site_of m ready.stands.is.number function p.frame.pc (row_now m b k i w x p q ready hold worlds instr here).at

  abbrev pub begins_at : Inst → Type 0
  begins_at inst = slice_get (code_of site_now instr) j ≡ Some inst

  pub reaches_here : (inst : Inst) → begins_at inst → Reaches (object_of m ∷ []) x there (object_of m) inst
  reaches_here inst e =
      let is = instance_here m b k i w x p q [] ready.stands.is hold worlds.0 in
      record {
        object = 0;
        words = is.0;
        instance = is.1;
        code = refl;
        here = ap (λ (n : ℕ). slice_get (object_of m).insts n) (so_far ∙ ap (λ (n : ℕ). n + j) ready.pc)
            ∙ (row_now m b k i w x p q ready hold worlds instr here).insts j inst e;
      }

  pub hold_there : HoldTheSame m k i x p there
  hold_there = hold_as m b i p k x q there (λ n. refl) hold

  -- it raises an exception, and so does the other
  pub raised_here : (inst : Inst) → begins_at inst → (text : List ℕ) → obey frames_limit (object_of m) x there inst inst.op ≡ Raises text
      → (sides m).program.step w p ≡ Ends w (Broken text) → Once m b i p there k w x
  raised_here inst is text obeys does =
      both_end m b i p there k w x worlds (Broken text)
      (steps_obey.raises frames_limit (object_of m ∷ []) x there (object_of m) inst text (reaches_here inst is) obeys) does

  module _ (size : size_at m function.of.answer (of_function m function) p.frame.pc (Some instr) ≡ j + 1) where
    pub next_there : suc pc ≡ place_of m ready.stands.is.number function (suc p.frame.pc)
    next_there = let e = next_place m b k i w x p q ready hold worlds instr here (j + 1) size in omega (arith, e, so_far)

    -- ---- a value comes into a slot that names nothing

    module _ (s : ℕ) (l : s < length p.frame.slots) (clean : IsClean (held.slot known s)) where
      abbrev n_at : ℕ
      n_at = number_place m.adts types s

      abbrev r_at : ℕ
      r_at = reference_place m.adts types s

      abbrev pub number_leads : Leads x there (own n_at) q.frame.words n_at
      number_leads = (spots_lead.own x there n_at).0

      abbrev pub reference_leads : Leads x there (own r_at) q.frame.words r_at
      reference_leads = (spots_lead.own x there r_at).0

      pub number_comes : (inst : Inst) → begins_at inst → (j : Kind) → form_of (of_kind j) ≡ AsNumber → (z : ℤ) → InRange j z → (live : List ℕ)
          → GoesOn m function (suc p.frame.pc) (held.put known s (Of (of_kind j) live))
          → (sides m).program.step w p ≡ code.goes_on w p (core.put p.frame.slots s (Holds (Num z)))
          → (others : List Word) (bytes : ℕ) → bytes ≤ 4
          → obey frames_limit (object_of m) x there inst inst.op ≡ after x there number_leads.place others
          → Changes q.frame.words others n_at bytes → AreInRange others → number_at j others (pos n_at) ≡ Found z → Once m b i p there k w x
      number_comes inst is j form z range live goes does others bytes few obeys changes ranged found =
          both_go m b i p there k w x hold_there worlds
          (at_slots m k i x p q ready (suc p.frame.pc) (core.put p.frame.slots s (Holds (Num z))))
          (at_words m k i x p q ready (suc pc) others)
          (steps_obey.stores frames_limit (object_of m ∷ []) x there (object_of m) inst x number_leads.place others _
          (reaches_here inst is) obeys ((spots_lead.own x there n_at).1 others))
          does
          (ready_put m k i x p q ready s l clean others bytes few changes ranged j form z live found range (suc pc) next_there goes)

      pub reference_comes : (inst : Inst) → begins_at inst → (t : Ty) → form_of t ≡ AsReference → (live : List ℕ) (v : Value) → NamesOnly live v
          → GoesOn m function (suc p.frame.pc) (held.put known s (Of t live))
          → (sides m).program.step w p ≡ code.goes_on w p (core.put p.frame.slots s (Holds v))
          → (others : List Word)
          → obey frames_limit (object_of m) x there inst inst.op ≡ after x there reference_leads.place others
          → Changes q.frame.words others r_at 4 → AreInRange others → Stands m.adts k others r_at t v → Once m b i p there k w x
      reference_comes inst is t form live v names goes does others obeys changes ranged stands =
          both_go m b i p there k w x hold_there worlds
          (at_slots m k i x p q ready (suc p.frame.pc) (core.put p.frame.slots s (Holds v)))
          (at_words m k i x p q ready (suc pc) others)
          (steps_obey.stores frames_limit (object_of m ∷ []) x there (object_of m) inst x reference_leads.place others _
          (reaches_here inst is) obeys ((spots_lead.own x there r_at).1 others))
          does
          (ready_referring m k i x p q ready s l others changes ranged t live v
          (a_value others n_at r_at t live v (subst (λ f. ValueStands m.adts k others n_at r_at f t v) (sym form) stands) names)
          (suc pc) next_there goes)

      -- ---- it is moved from where an operand leads

      module _ (t : Ty) (o : isa.Operand) (words : List Word) (at : ℕ) (leads : Leads x there o words at) (v : Value) (stands : Stands m.adts k words at t v)
          (live : List ℕ) (names : NamesOnly live v) (goes : GoesOn m function (suc p.frame.pc) (held.put known s (Of t live)))
          (does : (sides m).program.step w p ≡ code.goes_on w p (core.put p.frame.slots s (Holds v))) where
        does_so : (u : Value) → v ≡ u → (sides m).program.step w p ≡ code.goes_on w p (core.put p.frame.slots s (Holds u))
        does_so u e = does ∙ ap (λ (y : Value). code.goes_on w p (core.put p.frame.slots s (Holds y))) e

        byte_moves : t ≡ ty.Byte → begins_at (inst op.Movb o middle.None (own n_at)) → Once m b i p there k w x
        byte_moves e is =
            let z = number_there m.adts k words at t v kind.Byte e stands in
            let old = (old_word m k i x p q ready s l clean).number kind.Byte refl in
            let move = inst op.Movb o middle.None (own n_at) in
            let n = numbers_work.moves frames_limit (object_of m) x there move kind.Byte z.number q.frame.words n_at number_leads old.0 refl
            (operands_are_read.source_number x there o words at kind.Byte leads ∙ z.found) old.1 in
            number_comes move is kind.Byte refl z.number z.range live
            (subst (λ u. GoesOn m function (suc p.frame.pc) (held.put known s (Of u live))) e goes)
            (does_so (Num z.number) z.is) n.0.others 1 (omega arith) n.1 (n.0.changes (λ e. z.range))
            (n.0.ranged z.range ready.stands.is.words.kind.ranged) (n.0.there z.range)

        int_moves : t ≡ ty.Int → begins_at (inst op.Movw o middle.None (own n_at)) → Once m b i p there k w x
        int_moves e is =
            let z = number_there m.adts k words at t v kind.Int e stands in
            let old = old_word m k i x p q ready s l clean in
            let plainly = operands_are_read.int_is_plain words at z.number z.found in
            let move = inst op.Movw o middle.None (own n_at) in
            let n = words_move.word frames_limit (object_of m) x there move plainly.0 q.frame.words n_at number_leads old.old refl
            (operands_are_read.source_plain_word x there o words at leads ∙ plainly.1) old.plainly in
            number_comes move is kind.Int refl z.number z.range live
            (subst (λ u. GoesOn m function (suc p.frame.pc) (held.put known s (Of u live))) e goes)
            (does_so (Num z.number) z.is) (with_word q.frame.words n_at plainly.0) 4 (omega arith) n.1 n.0.changes
            (n.0.ranged (λ y e. subst (InRange kind.Int) (sym (same_number plainly.0 y z.number e plainly.2)) z.range) ready.stands.is.words.kind.ranged)
            (ap (λ a. a >>= number_in) n.0.there ∙ plainly.2)

        reference_moves : form_of t ≡ AsReference → begins_at (inst op.Movp o middle.None (own r_at)) → Once m b i p there k w x
        reference_moves form is =
            let one = one_word m.adts k words at t v form stands in
            let rest = (at_rest m k i x p q ready s l clean).0 in
            let move = inst op.Movp o middle.None (own r_at) in
            let n = words_move.reference frames_limit (object_of m) x there move one.refers q.frame.words r_at reference_leads rest.0 refl
            (operands_are_read.source_referring x there o words at leads ∙ ap (λ (a : Access Word). a >>= reference) one.word) rest.1 in
            let others = with_word q.frame.words r_at (Refer one.refers) in
            reference_comes move is t form live v names goes does others n.1 n.0.changes
            (n.0.ranged (λ z e. absurd cc) ready.stands.is.words.kind.ranged) (one.elsewhere others r_at n.0.there)

        pub value_comes : IsSimple t → begins_at (inst (simple_op t) o middle.None (in_slot scene t s)) → Once m b i p there k w x
        value_comes (inl e) is = go t refl e
          where
            go : (u : Ty) → t ≡ u → form_of u ≡ AsNumber → Once m b i p there k w x
            go ty.Byte f g = byte_moves f (subst (λ u. begins_at (inst (simple_op u) o middle.None (in_slot scene u s))) f is)
            go ty.Int f g = int_moves f (subst (λ u. begins_at (inst (simple_op u) o middle.None (in_slot scene u s))) f is)
            go u f g = absurd cc
        value_comes (inr e) is =
            reference_moves e (is ∙ ap (λ f. Some (inst (simple_op t) o middle.None (by_form scene f s))) e
            ∙ ap (λ f. Some (inst f o middle.None (own r_at))) (reference_op t e))
