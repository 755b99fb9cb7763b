-- Comparisons and `!` as values, and conversions between byte and big: rows whose operands are the function's own.
use Rattle.std.proofs.Common.{◌≡◌, ℕ, suc, ◌+◌, ◌<◌, pos, Bool, true, false, List, [], ◌∷◌, Some, refl, sym, ap, ◌∙◌, subst, arith}
use Rattle.std.specs.Prelude.{slice_get}
use Rattle.std.proofs.lemmas.Int.{ints}
use Rattle.process_model.specs.Follows.{Matches}
use Rattle.dis_isa.specs.declared.inst.Inst as code_inst
use Rattle.dis_isa.specs.declared.inst.Operand as isa
use Rattle.dis_isa.specs.declared.inst.Operand.TheVariants as operand
use Rattle.dis_isa.specs.declared.inst.Middle.{Middle}
use Rattle.dis_isa.specs.declared.op.Op.{Op}
use Rattle.limbo_values.specs.declared.number.Kind.TheVariants.{Int}
use Rattle.limbo_values.specs.Operators.{truth}
use Rattle.system_model.specs.Values.{Num}
use Rattle.system_model.specs.Limits.{frames_limit}
use Rattle.typed_meaning.specs.World as program
use Rattle.slot_code.specs.Code.{Spot, Variable, Global, Temporary, Argument, Operand, In, Number, Inst, Function, Module}
use Rattle.slot_code.specs.Machine as machine
use Rattle.slot_code.specs.Machine.{value_of}
use Rattle.slot_code.specs.Step as slot_step
use Rattle.dis_meaning.specs.Words.{Plain}
use Rattle.dis_meaning.specs.World.{World}
use Rattle.dis_meaning.specs.Process as dis
use Rattle.dis_meaning.specs.Process.{Frame, Process}
use Rattle.dis_meaning.specs.Step as dis_step
use Rattle.dis_meaning.specs.Step.{next, jumps, branch, target}
use Rattle.dis_objects.specs.Frames.{Callee, made_at}
use Rattle.dis_objects.specs.Code.{Context, spot_kind, place, place_of, moving, jump_to, decided, size}
use Rattle.dis_objects.specs.Objects.{context, object_of}
use Rattle.dis_objects.specs.Proper.{IsProper, IsOwn, IsWritten, GoesOn}
use Rattle.dis_follows.specs.Stands.{Known, Decides, Running, begins, denies, affirms, jumps_on, WorldStands, sides}
use Rattle.dis_follows.specs.Paces as paces
use Rattle.dis_follows.proofs.Lookups.{HasAt}
use Rattle.dis_follows.proofs.Runs.{place_on, other_step, as_known}
use Rattle.dis_follows.proofs.Obeys.{moves_int}
use Rattle.dis_follows.proofs.Advances.{at_slot, at_word, stack_same, rests, steps_once}
use Rattle.dis_follows.proofs.Paces.{place_is}
use Rattle.dis_follows.proofs.Rows as rows
use Rattle.dis_follows.proofs.Rows.{Puts}

-- What is the function's own has its value whatever the world is.
pub own_value : (g : machine.Frame) (o : Operand) → IsOwn o → (v w : program.World) → value_of v g o ≡ value_of w g o
own_value g (Number z) own v w = refl
own_value g (In (Variable k y)) own v w = refl
own_value g (In (Temporary k n)) own v w = refl
own_value g (In (Argument k i)) own v w = refl
own_value g (In (Global k y)) own v w = absurd own

-- An instruction that decides: its 1 or 0 goes to this place.
pub record Deciding (m : Module) (f : Function) (c : Context) (cs : List Callee) (pc : ℕ) (insts : List code_inst.Inst) (i : Inst)
    (here : ℕ) : Type 0 where
  pub into : Spot
  pub op : Op
  pub left : isa.Operand
  pub right : Middle
  pub code : HasAt insts here (decided here op left right (place_of c cs into))
  pub four : size i ≡ 4
  pub kind : spot_kind into ≡ Int
  pub written : IsWritten m f cs into
  pub on : GoesOn m f cs (suc pc)

module _ (m : Module) (proper : IsProper m) (k : Known) (number : ℕ) (w : program.World) (x : World) (ws : WorldStands m k w x)
    (p : machine.Process) where
  abbrev pub Goal : Process → dis.Does → Type 0
  Goal r e = Matches (sides m) (paces.place m) (paces.place m r) k number w x p e

  -- The same frames at another place of the row.
  abbrev pub at_offset : (r : Process) (offset offset' : ℕ) (h : Running m k p r offset [])
      → Running m k p (at_word m k p r offset [] h r.frame.words (offset' + place (context m p.frame.function h.frame.function) p.frame.pc))
      offset' []
  at_offset r offset offset' h = record {
    loaded = h.loaded;
    number = h.number;
    frame = record {
      function = h.frame.function;
      found = h.frame.found;
      inst = h.frame.inst;
      there = h.frame.there;
      here = refl;
      instance = h.frame.instance;
      first = h.frame.first;
      has = h.frame.has;
    };
    stack = stack_same m h.frame.function r.frame _ p.below r.below refl refl h.stack;
    frames = h.frames;
    fresh = h.fresh;
  }

  abbrev Row : (r : Process) (offset : ℕ) → Running m k p r offset [] → Type 0
  Row r offset h =
      Deciding m h.frame.function (context m p.frame.function h.frame.function) (made_at h.frame.function.code p.frame.pc) p.frame.pc
      (object_of m).insts h.frame.inst (place (context m p.frame.function h.frame.function) p.frame.pc)

  -- How far it is.
  far : (r : Process) (offset : ℕ) (h : Running m k p r offset []) → offset < size h.frame.inst
      → paces.place m r ≡ paces.rank (slice_get (object_of m).insts r.frame.pc) r.below offset
  far r offset h l = place_is m r p.frame.function h.frame.function p.frame.pc h.frame.inst offset h.frame.found h.frame.there l
      h.frame.here

  -- ---- the branch

  pub decides : (r : Process) (h : Running m k p r 0 []) (d : Row r 0 h) (b : Bool)
      → dis_step.step frames_limit (object_of m ∷ []) x r
      ≡ branch x r b (place (context m p.frame.function h.frame.function) p.frame.pc + 3)
      → Decides m h.frame.inst p.frame (Num (truth b)) → Goal r (dis_step.step frames_limit (object_of m ∷ []) x r)
  decides r h d true steps dec =
      let P = place (context m p.frame.function h.frame.function) p.frame.pc in
      let e : P + 3 ≡ 3 + P = omega arith in
      let r' = at_word m k p r 0 [] h r.frame.words (3 + P) in
      let h' = at_offset r 0 3 h in
      let at : slice_get (object_of m).insts (3 + P)
      ≡ Some (moving Int (operand.Imm (pos 1))
      (place_of (context m p.frame.function h.frame.function) (made_at h.frame.function.code p.frame.pc) d.into)) =
      ap (slice_get (object_of m).insts) (let q : 3 + P ≡ suc (suc (suc P)) = omega arith in q) ∙ d.code.1.1.1.0 in
      let four = d.four in
      let four' : size h'.frame.inst ≡ 4 = d.four in
      let first = far r 0 h (omega (arith, four)) in
      let later = far r' 3 h' (omega (arith, four')) ∙ ap (λ i. paces.rank i r.below 3) at in
      subst (Goal r) (sym (steps ∙ ap (jumps x r) e))
      (rests m (paces.place m) k number x w p (paces.place m r) k x r' (as_known k) (affirms h' dec) ws (omega (arith, first, later)))
  decides r h d false steps dec =
      let P = place (context m p.frame.function h.frame.function) p.frame.pc in
      let e : suc r.frame.pc ≡ 1 + P = omega (arith, h.frame.here) in
      let r' = at_word m k p r 0 [] h r.frame.words (1 + P) in
      let h' = at_offset r 0 1 h in
      let at : slice_get (object_of m).insts (1 + P)
      ≡ Some (moving Int (operand.Imm (pos 0))
      (place_of (context m p.frame.function h.frame.function) (made_at h.frame.function.code p.frame.pc) d.into)) =
      ap (slice_get (object_of m).insts) (let q : 1 + P ≡ suc P = omega arith in q) ∙ d.code.1.0 in
      let four = d.four in
      let four' : size h'.frame.inst ≡ 4 = d.four in
      let first = far r 0 h (omega (arith, four)) in
      let later = far r' 1 h' (omega (arith, four')) ∙ ap (λ i. paces.rank i r.below 1) at in
      subst (Goal r) (sym (steps ∙ ap (jumps x r) e))
      (rests m (paces.place m) k number x w p (paces.place m r) k x r' (as_known k) (denies h' dec) ws (omega (arith, first, later)))

  -- ---- the 0, and the 1

  pub denies_goes : (r : Process) (h : Running m k p r 1 []) (d : Row r 1 h) → rows.Few m proper k w x ws p r 1 h d.into
      → slot_step.obey frames_limit m.functions w p h.frame.inst ≡ machine.next w p d.into (Num (pos 0))
      → Goal r (dis_step.step frames_limit (object_of m ∷ []) x r)
  denies_goes r h d few does =
      let C = context m p.frame.function h.frame.function in
      let P = place C p.frame.pc in
      let q1 : suc P ≡ 1 + P = omega arith in
      let D = place_of C (made_at h.frame.function.code p.frame.pc) d.into in
      let there = rows.at_row m proper k w x ws p r 1 h (moving Int (operand.Imm (pos 0)) D) (suc P) q1 d.code.1.0 in
      let t = rows.puts_word m proper k w x ws p r 1 h d.into d.kind (pos 0) (record {
        above = omega (arith, ints);
        below = omega (arith, ints);
      })
      d.written few (Plain (pos 0)) tt refl (moving Int (operand.Imm (pos 0)) D) there
      (λ after s. moves_int frames_limit (object_of m) x r (operand.Imm (pos 0)) D (Plain (pos 0))
      (rows.N m proper k w x ws p r 1 h d.into) after
      refl (rows.spot_at m proper k w x ws p r 1 h d.into) s) in
      let four = d.four in
      let on = place_on C p.frame.pc h.frame.inst h.frame.there in
      let next_place : P + 4 ≡ place C (suc p.frame.pc) = omega (arith, on, four) in
      let jump_place : suc r.frame.pc ≡ suc (suc P) = omega (arith, h.frame.here) in
      let jump : slice_get (object_of m).insts (suc r.frame.pc) ≡ Some (jump_to (place C (suc p.frame.pc))) =
      ap (slice_get (object_of m).insts) jump_place ∙ d.code.1.1.0 ∙ ap (λ n. Some (jump_to n)) next_place in
      let zero_plus : 0 + place C (suc p.frame.pc) ≡ place C (suc p.frame.pc) = omega arith in
      let run = subst (λ n. Running m k (at_slot m k p r 1 [] h (machine.stored w p.frame d.into (Num (pos 0))).frame (suc p.frame.pc))
      (at_word m k p r 1 [] h t.words n) 0 []) zero_plus (t.run (suc p.frame.pc) 0 d.on) in
      let r' = at_word m k p r 1 [] h t.words (suc r.frame.pc) in
      let jump_place' : suc r.frame.pc ≡ 2 + P = omega (arith, h.frame.here) in
      let far_jump : paces.place m r' ≡ 0 =
      place_is m r' p.frame.function h.frame.function p.frame.pc h.frame.inst 2 h.frame.found h.frame.there
      (omega (arith, four)) jump_place'
      ∙ ap (λ i. paces.rank i r.below 2) jump in
      subst (Goal r) (sym t.steps)
      (steps_once m (paces.place m) k number x w p (paces.place m r) (machine.stored w p.frame d.into (Num (pos 0))).world
      (at_slot m k p r 1 [] h (machine.stored w p.frame d.into (Num (pos 0))).frame (suc p.frame.pc)) t.world
      (at_word m k p r 1 [] h t.words (suc r.frame.pc))
      (other_step m proper k w x ws p r 1 [] h
      ∙ does) (jumps_on (place C (suc p.frame.pc)) jump (record { behind = omega (arith, jump_place'); place = far_jump }) run) t.worlds)

  pub affirms_goes : (r : Process) (h : Running m k p r 3 []) (d : Row r 3 h) → rows.Few m proper k w x ws p r 3 h d.into
      → slot_step.obey frames_limit m.functions w p h.frame.inst ≡ machine.next w p d.into (Num (pos 1))
      → Goal r (dis_step.step frames_limit (object_of m ∷ []) x r)
  affirms_goes r h d few does =
      let C = context m p.frame.function h.frame.function in
      let P = place C p.frame.pc in
      let q1 : suc (suc (suc P)) ≡ 3 + P = omega arith in
      let D = place_of C (made_at h.frame.function.code p.frame.pc) d.into in
      let there = rows.at_row m proper k w x ws p r 3 h (moving Int (operand.Imm (pos 1)) D) (suc (suc (suc P))) q1 d.code.1.1.1.0 in
      let t = rows.puts_word m proper k w x ws p r 3 h d.into d.kind (pos 1) (record {
        above = omega (arith, ints);
        below = omega (arith, ints);
      })
      d.written few (Plain (pos 1)) tt refl (moving Int (operand.Imm (pos 1)) D) there
      (λ after s. moves_int frames_limit (object_of m) x r (operand.Imm (pos 1)) D (Plain (pos 1))
      (rows.N m proper k w x ws p r 3 h d.into) after
      refl (rows.spot_at m proper k w x ws p r 3 h d.into) s) in
      let four = d.four in
      let on = place_on C p.frame.pc h.frame.inst h.frame.there in
      let behind : 0 + place C (suc p.frame.pc) ≡ suc r.frame.pc = omega (arith, on, four, h.frame.here) in
      let run = subst (λ n. Running m k (at_slot m k p r 3 [] h (machine.stored w p.frame d.into (Num (pos 1))).frame (suc p.frame.pc))
      (at_word m k p r 3 [] h t.words n) 0 []) behind (t.run (suc p.frame.pc) 0 d.on) in
      subst (Goal r) (sym t.steps)
      (steps_once m (paces.place m) k number x w p (paces.place m r) (machine.stored w p.frame d.into (Num (pos 1))).world
      (at_slot m k p r 3 [] h (machine.stored w p.frame d.into (Num (pos 1))).frame (suc p.frame.pc)) t.world
      (at_word m k p r 3 [] h t.words (suc r.frame.pc))
      (other_step m proper k w x ws p r 3 [] h ∙ does) (begins run) t.worlds)
