-- Conversions.
use Rattle.std.proofs.Common.{◌≡◌, ℕ, ℤ, List, [], ◌∷◌, Some, Ok, refl, sym, ap, ◌∙◌, arith}
use Rattle.std.specs.Prelude.{slice_get}
use Rattle.dis_isa.specs.declared.inst.Operand as isa
use Rattle.dis_isa.specs.declared.inst.Middle.TheVariants as middle
use Rattle.dis_isa.specs.declared.op.Op.{Op}
use Rattle.dis_isa.specs.declared.op.Op.TheVariants as op
use Rattle.limbo_values.specs.declared.number.Kind.{Kind}
use Rattle.limbo_values.specs.declared.number.Kind.TheVariants.{Byte, Int, Big}
use Rattle.limbo_values.specs.Numbers.{wrapped}
use Rattle.limbo_values.proofs.Ranges.{within, always}
use Rattle.limbo_typed.specs.declared.operation.Operation.TheVariants as operation
use Rattle.system_model.specs.Values.{Num}
use Rattle.system_model.specs.Limits.{frames_limit}
use Rattle.typed_meaning.specs.Values.{result_of}
use Rattle.typed_meaning.specs.World as program
use Rattle.slot_code.specs.Code.{Spot, Operand, Alter, Module}
use Rattle.slot_code.specs.Machine as machine
use Rattle.slot_code.specs.Machine.{value_of}
use Rattle.slot_code.specs.Step as slot_step
use Rattle.dis_meaning.specs.Words.{Found, ◌>>=◌}
use Rattle.dis_meaning.specs.World.{World}
use Rattle.dis_meaning.specs.Process.{Process, Does}
use Rattle.dis_meaning.specs.Places as places
use Rattle.dis_meaning.specs.Places.{Memory, Own, spot, source_of, store_number}
use Rattle.dis_meaning.specs.Step as dis_step
use Rattle.dis_meaning.specs.Step.{next, results}
use Rattle.dis_objects.specs.Frames.{Callee, made_at}
use Rattle.dis_objects.specs.Code.{Context, place, place_of, source, inst, moving, size, converted as converted_code}
use Rattle.dis_objects.specs.Objects.{context, object_of}
use Rattle.dis_objects.specs.Proper.{IsProper}
use Rattle.dis_follows.specs.Stands.{Known, Running, WorldStands}
use Rattle.dis_follows.proofs.Lookups.{HasAt}
use Rattle.dis_follows.proofs.Operands.{Taken, taken}
use Rattle.dis_follows.proofs.Simple as simple
use Rattle.dis_follows.proofs.Simple.{Goal, coded_at, proper_at, at_place, few_into, few_of, put_by, moved}

-- What a conversion does, once its operand is read.
pub converts_to : (from to : Kind) (x : World) (r : Process) (s d : isa.Operand) (a : ℤ) (t : places.Spot) (after : Memory)
    → source_of from x r s ≡ Found a
    → spot x r d ≡ Found t → store_number to x r t (wrapped to a) ≡ Found after
    → (source_of from x r s >>= λ s. spot x r d >>= λ d. results to x r d (Ok (wrapped to s))) ≡ Found (next after)
converts_to from to x r s d a t after e f g =
    ap (λ e. e >>= λ s. spot x r d >>= λ d. results to x r d (Ok (wrapped to s))) e
    ∙ ap (λ e. e >>= λ d. results to x r d (Ok (wrapped to a))) f ∙ ap (λ e. e >>= λ m. Found (next m)) g

module _ (m : Module) (proper : IsProper m) (pl : Process → ℕ) (k : Known) (number : ℕ) (w : program.World) (x : World)
    (ws : WorldStands m k w x) (p : machine.Process) (r : Process) (h : Running m k p r 0 []) where
  abbrev G : Does → Type 0
  G e = Goal m proper pl k number w x ws p r h e

  abbrev C : Context
  C = context m p.frame.function h.frame.function

  abbrev CS : List Callee
  CS = made_at h.frame.function.code p.frame.pc

  -- By one instruction of the machine.
  converted : (from to : Kind) (into : Spot) (o : Operand) (e : h.frame.inst ≡ Alter (operation.Convert from to) into o) → (o' : Op)
      → size (Alter (operation.Convert from to) into o) ≡ 1 → (at : ℕ)
      → Taken m k w x ws p.frame r h.frame.function CS h.frame.has h.frame.instance h.frame.first from o at
      → slice_get (object_of m).insts (place C p.frame.pc) ≡ Some (inst o' (source C o at) middle.None (place_of C CS into))
      → (dis_step.obey frames_limit (object_of m) x r (inst o' (source C o at) middle.None (place_of C CS into)) o'
      ≡ (source_of from x r (source C o at) >>= λ s. spot x r (place_of C CS into) >>= λ d. results to x r d (Ok (wrapped to s))))
      → G (dis_step.step frames_limit (object_of m ∷ []) x r)
  converted from to into o e o' one at a code obeys =
      let i = Alter (operation.Convert from to) into o in
      let q = proper_at m proper pl k number w x ws p r h i e in
      put_by m proper pl k number w x ws p r h i e one to into q.2 (wrapped to a.number) (always to a.number) q.1
      (few_into m proper pl k number w x ws p r h i e into (λ i. omega arith)) q.5
      (ap (λ v. slot_step.gives w p into (result_of (operation.Convert from to) (v ∷ []))) a.is)
      (inst o' (source C o at) middle.None (place_of C CS into)) (at_place m proper pl k number w x ws p r h _ code)
      (λ after t. obeys ∙ converts_to from to x r (source C o at) (place_of C CS into) a.number
      (simple.N m proper pl k number w x ws p r h into) after a.reads (simple.spot_at m proper pl k number w x ws p r h into) t)

  -- A number of the same kind is moved.
  same_kind : (j : Kind) (into : Spot) (o : Operand) (e : h.frame.inst ≡ Alter (operation.Convert j j) into o)
      → size (Alter (operation.Convert j j) into o) ≡ 1 → (at : ℕ)
      → Taken m k w x ws p.frame r h.frame.function CS h.frame.has h.frame.instance h.frame.first j o at
      → slice_get (object_of m).insts (place C p.frame.pc) ≡ Some (moving j (source C o at) (place_of C CS into))
      → G (dis_step.step frames_limit (object_of m ∷ []) x r)
  same_kind j into o e one at a code =
      let i = Alter (operation.Convert j j) into o in
      let q = proper_at m proper pl k number w x ws p r h i e in
      moved m proper pl k number w x ws p r h i e one j into q.2 o at a q.1
      (few_into m proper pl k number w x ws p r h i e into (λ i. omega arith))
      q.5
      (ap (λ v. slot_step.gives w p into (result_of (operation.Convert j j) (v ∷ []))) a.is
      ∙ ap (λ z. machine.next w p into (Num z)) (within j a.number a.range) ∙ ap (machine.next w p into) (sym a.is))
      (at_place m proper pl k number w x ws p r h _ code)

  takes : (from to : Kind) (into : Spot) (o : Operand) (e : h.frame.inst ≡ Alter (operation.Convert from to) into o)
      → (at : ℕ) × Taken m k w x ws p.frame r h.frame.function CS h.frame.has h.frame.instance h.frame.first from o at
      × HasAt (object_of m).insts (place C p.frame.pc) (converted_code from to (source C o at) (place_of C CS into))
  takes from to into o e =
      let i = Alter (operation.Convert from to) into o in
      let c = coded_at m proper pl k number w x ws p r h i e in
      let q = proper_at m proper pl k number w x ws p r h i e in (
        c.at,
        taken m k w x ws p.frame r h.frame.function CS h.frame.has h.frame.instance h.frame.first from o c.at q.3
            (few_of m proper pl k number w x ws p r h i e o (λ i. omega arith)) c.constants,
        c.code,
      )

  -- All that are one instruction.
  abbrev IsOne : (from to : Kind) → Type 0
  IsOne Byte Big = ⊥
  IsOne Big Byte = ⊥
  IsOne from to = Unit {0}

  pub convert_goes : (from to : Kind) (into : Spot) (o : Operand) → IsOne from to → h.frame.inst ≡ Alter (operation.Convert from to) into o
      → G (dis_step.step frames_limit (object_of m ∷ []) x r)
  convert_goes Byte Byte into o one e = let t = takes Byte Byte into o e in same_kind Byte into o e refl t.0 t.1 t.2.0
  convert_goes Byte Int into o one e = let t = takes Byte Int into o e in converted Byte Int into o e op.Cvtbw refl t.0 t.1 t.2.0 refl
  convert_goes Byte Big into o one e = absurd one
  convert_goes Int Byte into o one e = let t = takes Int Byte into o e in converted Int Byte into o e op.Cvtwb refl t.0 t.1 t.2.0 refl
  convert_goes Int Int into o one e = let t = takes Int Int into o e in same_kind Int into o e refl t.0 t.1 t.2.0
  convert_goes Int Big into o one e = let t = takes Int Big into o e in converted Int Big into o e op.Cvtwl refl t.0 t.1 t.2.0 refl
  convert_goes Big Byte into o one e = absurd one
  convert_goes Big Int into o one e = let t = takes Big Int into o e in converted Big Int into o e op.Cvtlw refl t.0 t.1 t.2.0 refl
  convert_goes Big Big into o one e = let t = takes Big Big into o e in same_kind Big into o e refl t.0 t.1 t.2.0
