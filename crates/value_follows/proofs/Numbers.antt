-- Numbers that are given to slots by one instruction.
use Rattle.std.proofs.Common.{◌≡◌, ℕ, ℤ, suc, pos, negsuc, ◌&&◌, ◌<◌, ◌≤◌, Bool, true, false, List, [], ◌∷◌, length, Some, refl, sym, ap, ◌∙◌, subst, arith, inl}
use Rattle.std.specs.Prelude.{slice_get, nat_le}
use Rattle.std.proofs.lemmas.Int.{ints}
use Rattle.std.proofs.lemmas.Bool.{leb-true}
use Rattle.limbo_types.specs.Types as ty
use Rattle.limbo_types.specs.Types.{Ty}
use Rattle.limbo_layout.specs.Adts.{Has}
use Rattle.limbo_values.specs.declared.number.Kind.{Kind}
use Rattle.limbo_values.specs.declared.number.Kind.TheVariants.{Int}
use Rattle.limbo_values.specs.Numbers.{InRange}
use Rattle.limbo_typed.specs.Typed as typed
use Rattle.limbo_typed.specs.Fitting.{of_kind}
use Rattle.limbo_meaning.specs.Process.{Shared}
use Rattle.limbo_meaning.specs.Values.{Num}
use Rattle.system_model.specs.Limits.{frames_limit}
use Rattle.core_code.specs.Code.{Instr, Known}
use Rattle.core_code.specs.Machine as code
use Rattle.core_code.specs.Slots as core
use Rattle.core_code.specs.Slots.{Holds}
use Rattle.core_typing.specs.Held as held
use Rattle.core_typing.specs.Held.{Of}
use Rattle.core_typing.specs.Needs.{IsClean}
use Rattle.dis_isa.specs.declared.inst.Inst.{Inst}
use Rattle.dis_isa.specs.declared.inst.Operand as isa
use Rattle.dis_isa.specs.declared.inst.Operand.TheVariants as operand
use Rattle.dis_isa.specs.declared.inst.Middle.TheVariants as middle
use Rattle.dis_isa.specs.declared.op.Op.TheVariants as op
use Rattle.dis_meaning.specs.Words.{Word, Plain, Found, ◌>>=◌, number_in}
use Rattle.dis_meaning.specs.Numbers.{number_at}
use Rattle.dis_meaning.specs.Process.{Process}
use Rattle.dis_memory.specs.Blocks.{World}
use Rattle.dis_memory.specs.Places.{source_plain}
use Rattle.dis_memory.specs.Step.{obey}
use Rattle.value_words.specs.Contents.{AreInRange}
use Rattle.value_words.specs.Facts.{Facts}
use Rattle.value_frames.specs.Frames.{AsNumber, form_of, number_place}
use Rattle.value_moves.specs.Operands.{inst, own}
use Rattle.value_moves.specs.Spots.{Leads}
use Rattle.value_moves.specs.Changing.{Changes, bytes_in}
use Rattle.value_moves.proofs.Leading.{spots_lead}
use Rattle.value_code.specs.Objects.{object_of, of_function, constants, size_at, placed, scene}
use Rattle.value_code.specs.Data.{fits_source}
use Rattle.value_code.specs.Operands.{Scene}
use Rattle.value_code.specs.Code.{code_of, number_source}
use Rattle.number_effects.specs.Giving.{after, with_word, StoresNumber}
use Rattle.number_effects.proofs.Reading.{operands_are_read}
use Rattle.number_effects.proofs.Records.{words_move}
use Rattle.number_effects.proofs.Stepping.{steps_obey}
use Rattle.value_follows.specs.Stands.{Ready, GoesOn, types_of}
use Rattle.value_follows.specs.Sides.{sides, HoldTheSame, program}
use Rattle.value_follows.specs.Rows.{Base, site_of, InstrGoes}
use Rattle.value_follows.proofs.Standing.{finds, instance_here, code_here, at_slots, at_words}
use Rattle.value_follows.proofs.Slots.{uses, number_there}
use Rattle.value_follows.proofs.Single.{Once, single, both_go}
use Rattle.value_follows.proofs.Jumps.{row, first, next_place, behind_it}
use Rattle.value_follows.proofs.Putting.{old_word, ready_put}

-- a source that is an immediate is an int
fits_range : (z : ℤ) → fits_source z ≡ true → InRange Int z
fits_range (pos n) e = let few = leb-true n 536870911 e in record { above = omega (arith, ints); below = omega (arith, ints, few) }
fits_range (negsuc n) e = go (nat_le n 536870911) refl e
  where
    go : (b : Bool) → nat_le n 536870911 ≡ b → (b && true) ≡ true → InRange Int (negsuc n)
    go true f g = let few = leb-true n 536870911 f in record { above = omega (arith, ints, few); below = omega (arith, ints) }
    go false f g = absurd cc

same_number : (v : Word) (y z : ℤ) → v ≡ Plain y → number_in v ≡ Found z → y ≡ z
same_number v y z e f = let g : number_in v ≡ Found y = ap number_in e in cc

same_value : (y z : ℤ) → Num y ≡ Num z → y ≡ z
same_value y z e = cc

module _ (m : typed.Module) (b : Base m) (k : Facts) (i : ℕ) (w : Shared) (x : World) (p : code.Process) (q : Process) (ready : Ready m k i x p q) (hold : HoldTheSame m k i x p q) (worlds : (sides m).worlds k w x) (instr : Instr) (here : slice_get p.frame.code p.frame.pc ≡ Some instr) where
  abbrev known : held.Slots
  known = ready.stands.is.known

  abbrev function : typed.Function
  function = ready.stands.is.function

  abbrev pub seen : Scene
  seen = scene m function.of.answer (of_function m function)

  abbrev pub begins : Inst → Type 0
  begins inst =
      slice_get (code_of (site_of m ready.stands.is.number function p.frame.pc (row m b k i w x p q ready hold worlds instr here).at) instr) 0 ≡ Some inst

  -- ---- an int that is an immediate, or stands among the constants

  pub record IntRead (o : isa.Operand) (z : ℤ) : Type 0 where
    pub word : Word
    pub plainly : source_plain x q o ≡ Found word
    pub number : number_in word ≡ Found z
    pub range : InRange Int z

  pub int_read : (fits : Bool) (z : ℤ) (to : ℕ) → fits_source z ≡ fits → Has (constants m) (placed m to ty.Int (Num z)) → IntRead (number_source fits z to) z
  int_read true z to e h =
      record { word = Plain z; plainly = operands_are_read.source_plain_given x q z; number = refl; range = fits_range z e }
  int_read false z to e h =
      let instance = instance_here m b k i w x p q [] ready.stands.is hold worlds.0 in
      let constant = instance.2 (placed m to ty.Int (Num z)) h in
      let n = number_there m.adts k instance.0 to ty.Int (Num z) Int refl constant.stands in
      let same : n.number ≡ z = same_value n.number z (sym n.is) in
      let read = operands_are_read.int_is_plain instance.0 to n.number n.found in
      record {
        word = read.0;
        plainly = operands_are_read.source_plain_word x q (operand.Mp (pos to)) instance.0 to (spots_lead.of_module x q 0 instance.0 to instance.1).0 ∙ read.1;
        number = read.2 ∙ ap (λ (y : ℤ). Found y) same;
        range = subst (InRange Int) same n.range;
      }

  -- ---- a number comes into a slot that names nothing

  module _ (s : ℕ) (l : s < length p.frame.slots) (clean : IsClean (held.slot known s)) where
    abbrev to : ℕ
    to = number_place m.adts (types_of m function) s

    abbrev pub leads : Leads x q (own to) q.frame.words to
    leads = (spots_lead.own x q to).0

    module _ (size : size_at m function.of.answer (of_function m function) p.frame.pc (Some instr) ≡ 1)
        (inst : Inst) (is : begins inst) (j : Kind) (form : form_of (of_kind j) ≡ AsNumber) (z : ℤ) (range : InRange j z) (live : List ℕ)
        (goes : GoesOn m function (suc p.frame.pc) (held.put known s (Of (of_kind j) live)))
        (does : (sides m).program.step w p ≡ code.goes_on w p (core.put p.frame.slots s (Holds (Num z)))) where
      stores : (others : List Word) (bytes : ℕ) → bytes ≤ 4 → obey frames_limit (object_of m) x q inst inst.op ≡ after x q leads.place others
          → Changes q.frame.words others to bytes → AreInRange others → number_at j others (pos to) ≡ Found z → Once m b i p q k w x
      stores others bytes few obeys changes ranged found =
          let next = next_place m b k i w x p q ready hold worlds instr here 1 size in
          both_go m b i p q k w x hold worlds
          (at_slots m k i x p q ready (suc p.frame.pc) (core.put p.frame.slots s (Holds (Num z))))
          (at_words m k i x p q ready (suc q.frame.pc) others)
          (steps_obey.stores frames_limit (object_of m ∷ []) x q (object_of m) inst x leads.place others _
          (first m b k i w x p q ready hold worlds instr here inst is) obeys ((spots_lead.own x q to).1 others))
          does
          (ready_put m k i x p q ready s l clean others bytes few changes ranged j form z live found range (suc q.frame.pc) (omega (arith, next)) goes)

      pub number_stored : StoresNumber (obey frames_limit (object_of m) x q inst inst.op) x q leads.place j q.frame.words to z → bytes_in j ≤ 4
          → Once m b i p q k w x
      number_stored n few =
          stores n.0.others (bytes_in j) few n.1 (n.0.changes (λ e. range)) (n.0.ranged range ready.stands.is.words.kind.ranged) (n.0.there range)

    pub int_moved : (size : size_at m function.of.answer (of_function m function) p.frame.pc (Some instr) ≡ 1) (o : isa.Operand)
        → begins (inst op.Movw o middle.None (own to)) → (z : ℤ) → IntRead o z → (live : List ℕ)
        → GoesOn m function (suc p.frame.pc) (held.put known s (Of ty.Int live))
        → (sides m).program.step w p ≡ code.goes_on w p (core.put p.frame.slots s (Holds (Num z))) → Once m b i p q k w x
    int_moved size o is z read live goes does =
        let old = old_word m k i x p q ready s l clean in
        let stored = words_move.word frames_limit (object_of m) x q (inst op.Movw o middle.None (own to)) read.word q.frame.words to leads old.old
        refl read.plainly old.plainly in
        stores size (inst op.Movw o middle.None (own to)) is Int refl z read.range live goes does (with_word q.frame.words to read.word) 4 (omega arith)
        stored.1 stored.0.changes
        (stored.0.ranged (λ y e. subst (InRange Int) (sym (same_number read.word y z e read.number)) read.range) ready.stands.is.words.kind.ranged)
        (ap (λ a. a >>= number_in) stored.0.there ∙ read.number)

pub numbers_go : (m : typed.Module) (b : Base m) (z : ℤ) (into : ℕ) → InstrGoes m (Known (Num z) into)
numbers_go m b z into k i x p q ready here =
    single m b i p q k x ready (λ now w y r hold worlds.
    let is = r.stands.is in
    let instr = Known (Num z) into in
    let found = finds m is.function p.frame.pc is.known instr r.stands.goes (code_here m now i y p q r instr here) in
    let at = row m b now i w y p q r hold worlds instr here in
    int_moved m b now i w y p q r hold worlds instr here into
    (uses m now i y [] p.frame q.frame is p.frame.pc instr (code_here m now i y p q r instr here)) found.2
    refl (number_source (fits_source z) z at.at) refl z
    (int_read m b now i w y p q r hold worlds instr here (fits_source z) z at.at refl (at.stand (placed m at.at ty.Int (Num z)) (inl refl)))
    []
    (behind_it m b now i w y p q r hold worlds instr here 0 (suc p.frame.pc) (held.put is.known into (Of ty.Int [])) (omega arith) refl)
    (ap (code.next frames_limit (program m) w p) here))
