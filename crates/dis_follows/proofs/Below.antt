-- A return to the frame below: both are back in it once it has the answer.
use Rattle.std.proofs.Common.{◌≡◌, ℕ, suc, ◌+◌, ℤ, pos, List, [], ◌∷◌, Some, None, refl, sym, ap, ◌∙◌, subst, arith}
use Rattle.std.specs.Prelude.{slice_get}
use Rattle.process_model.specs.Process.{Went}
use Rattle.dis_isa.specs.declared.inst.Operand as isa
use Rattle.dis_isa.specs.declared.inst.Operand.TheVariants as operand
use Rattle.limbo_values.specs.Numbers.{InRange}
use Rattle.system_model.specs.Values.{Value, Num}
use Rattle.system_model.specs.Limits.{frames_limit}
use Rattle.typed_meaning.specs.World as program
use Rattle.slot_code.specs.Code.{Spot, Variable, Global, Temporary, Argument, Function, Module}
use Rattle.slot_code.specs.Machine as machine
use Rattle.slot_code.specs.Step as slot_step
use Rattle.dis_meaning.specs.Words.{Word, Found}
use Rattle.dis_meaning.specs.World.{World}
use Rattle.dis_meaning.specs.Process.{Frame, Process, with_frames}
use Rattle.dis_meaning.specs.Places.{source_of}
use Rattle.dis_meaning.specs.Step as dis_step
use Rattle.dis_meaning.specs.Step.{next}
use Rattle.dis_objects.specs.Frames.{Callee, made_at}
use Rattle.dis_objects.specs.Code.{spot_kind, place, moving, size}
use Rattle.dis_objects.specs.Objects.{context, object_of}
use Rattle.dis_objects.specs.Proper.{IsProper}
use Rattle.dis_follows.specs.Stands.{Known, StackStands, return_inst, Running, goes_back, WorldStands}
use Rattle.dis_follows.specs.Paces as paces
use Rattle.dis_follows.proofs.Frames.{number_within}
use Rattle.dis_follows.proofs.Puts as puts
use Rattle.dis_follows.proofs.Runs.{step_is, other_step}
use Rattle.dis_follows.proofs.Advances.{stack_same, steps_once}
use Rattle.dis_follows.proofs.Paces.{place_is}
use Rattle.dis_follows.proofs.Back as back
use Rattle.dis_follows.proofs.Rows as rows
use Rattle.dis_follows.proofs.Decided.{Goal}

same_function : (w : program.World) (g : machine.Frame) (into : Spot) (v : Value) → (machine.stored w g into v).frame.function ≡ g.function
same_function w g (Variable k y) v = refl
same_function w g (Global k y) v = refl
same_function w g (Temporary k n) v = refl
same_function w g (Argument k n) v = refl

same_instance : (w : program.World) (g : machine.Frame) (into : Spot) (v : Value) → (machine.stored w g into v).frame.instance ≡ g.instance
same_instance w g (Variable k y) v = refl
same_instance w g (Global k y) v = refl
same_instance w g (Temporary k n) v = refl
same_instance w g (Argument k n) v = refl

module _ (m : Module) (proper : IsProper m) (k : Known) (number : ℕ) (w : program.World) (x : World) (ws : WorldStands m k w x)
    (p : machine.Process) (r : Process) (h : Running m k p r 0 []) (g : machine.Frame) (gs : List machine.Frame) (f : Frame)
    (fs : List Frame)
    (above : p.below ≡ g ∷ gs) (below : r.below ≡ f ∷ fs) where
  abbrev F : Function
  F = h.frame.function

  abbrev P : ℕ
  P = place (context m p.frame.function F) p.frame.pc

  abbrev S : Type 0
  S = StackStands m F r.frame (g ∷ gs) (f ∷ fs)

  stack : StackStands m F r.frame (g ∷ gs) (f ∷ fs)
  stack = subst (λ rs. StackStands m F r.frame (g ∷ gs) rs) below (subst (λ gs. StackStands m F r.frame gs r.below) above h.stack)

  module _ (st : StackStands m F r.frame (g ∷ gs) (f ∷ fs)) where
    abbrev T : Function
    T = st.0.stands.function

    abbrev CS : List Callee
    CS = made_at T.code g.pc

    abbrev M : (after : List Word) → Rattle.dis_meaning.specs.Places.Memory
    M after = back.M m k w x ws p r F g gs f fs st.0 st.1 st.3 st.4 below h.frames g.into after

    -- The process that returns, once the frame below has these words.
    abbrev then_words : (after : List Word) → (pc : ℕ) → Process
    then_words after pc = record {
      number = r.number;
      frame = record { serial = r.frame.serial; instance = r.frame.instance; pc = pc; words = r.frame.words };
      below = (M after).process.frame ∷ fs;
      made = [];
      printing = None;
    }

    next_is : (into : Spot) (after : List Word) → next (back.R m k w x ws p r F g gs f fs st.0 st.1 st.3 st.4 below h.frames into after)
        ≡ Went (back.M m k w x ws p r F g gs f fs st.0 st.1 st.3 st.4 below h.frames into after).world (record {
          number = r.number;
          frame = record { serial = r.frame.serial; instance = r.frame.instance; pc = suc r.frame.pc; words = r.frame.words };
          below = (back.M m k w x ws p r F g gs f fs st.0 st.1 st.3 st.4 below h.frames into after).process.frame ∷ fs;
          made = [];
          printing = None;
        })
    next_is (Variable j y) after = refl
    next_is (Temporary j y) after = refl
    next_is (Argument j y) after = refl
    next_is (Global j y) after =
        ap (λ l. Went (back.M m k w x ws p r F g gs f fs st.0 st.1 st.3 st.4 below h.frames (Global j y) after).world (record {
          number = r.number;
          frame = record { serial = r.frame.serial; instance = r.frame.instance; pc = suc r.frame.pc; words = r.frame.words };
          below = l;
          made = r.made;
          printing = None;
        })) below
        ∙ ap (λ l. Went (back.M m k w x ws p r F g gs f fs st.0 st.1 st.3 st.4 below h.frames (Global j y) after).world (record {
          number = r.number;
          frame = record { serial = r.frame.serial; instance = r.frame.instance; pc = suc r.frame.pc; words = r.frame.words };
          below = f ∷ fs;
          made = l;
          printing = None;
        })) h.frames

    record Like (q : Frame) : Type 0 where
      pub serial : q.serial ≡ f.serial
      pub pc : q.pc ≡ f.pc
      pub instance : q.instance ≡ f.instance

    like : (into : Spot) (after : List Word)
        → Like (back.M m k w x ws p r F g gs f fs st.0 st.1 st.3 st.4 below h.frames into after).process.frame
    like (Variable j y) after = record { serial = refl; pc = refl; instance = refl }
    like (Global j y) after = record { serial = refl; pc = refl; instance = refl }
    like (Temporary j y) after = record { serial = refl; pc = refl; instance = refl }
    like (Argument j y) after = record { serial = refl; pc = refl; instance = refl }

    returns_by : size h.frame.inst ≡ 2 → (s : isa.Operand) (z : ℤ) → InRange F.answer z → source_of F.answer x r s ≡ Found z
        → slot_step.obey frames_limit m.functions w p h.frame.inst ≡ machine.returns w p p.below (Num z)
        → slice_get (object_of m).insts P ≡ Some (moving F.answer s (operand.IndFp (pos 16) (pos 0)))
        → slice_get (object_of m).insts (suc P) ≡ Some return_inst
        → Goal m proper k number w x ws p r (dis_step.step frames_limit (object_of m ∷ []) x r)
    returns_by two s z range reads does code later =
        let kind : F.answer ≡ spot_kind g.into = st.2 ∙ sym st.0.kind in
        let range' : InRange (spot_kind g.into) z = subst (λ j. InRange j z) kind range in
        let a = back.gives m k w x ws p r F g gs f fs st.0 st.1 st.3 st.4 below h.frames (spot_kind g.into) refl s z range'
        (subst (λ j. source_of j x r s ≡ Found z) kind reads) in
        let after = a.stored.after in
        let put = puts.put_there m k w x ws g (with_frames r f fs []) T CS st.0.stands.has
        (back.fits m k w x ws p r F g gs f fs st.0 st.1 st.3 st.4 below h.frames)
        st.0.stands.instance st.0.stands.first g.into z st.0.into st.0.few range' a.stored in
        let v = machine.stored w g g.into (Num z) in
        let there = rows.at_row m proper k w x ws p r 0 h (moving (spot_kind g.into) s (operand.IndFp (pos 16) (pos 0))) P (omega arith)
        (subst (λ j. slice_get (object_of m).insts P ≡ Some (moving j s (operand.IndFp (pos 16) (pos 0)))) kind code) in
        let stepped : suc r.frame.pc ≡ 1 + P = omega (arith, h.frame.here) in
        let r' = then_words after (1 + P) in
        let steps : dis_step.step frames_limit (object_of m ∷ []) x r ≡ Went (M after).world r' =
        step_is m k w x r (moving (spot_kind g.into) s (operand.IndFp (pos 16) (pos 0))) _ ws h.frame.instance there a.does
        ∙ next_is g.into after ∙ ap (λ n. Went (M after).world (then_words after n)) stepped in
        let l = like g.into after in
        let q = (M after).process.frame in
        let p' = machine.with_frames p (machine.moved v.frame g.pc) gs in
        let fun = same_function w g g.into (Num z) in
        let home : Running m k p' (with_frames r' q fs []) 0 [] = record {
          loaded = h.loaded;
          number = h.number;
          frame = record {
            function = T;
            found = ap (slice_get m.functions) fun ∙ st.0.stands.found;
            inst = st.0.stands.inst;
            there = st.0.stands.there;
            here = l.pc ∙ st.0.stands.here ∙ ap (λ n. 0 + place (context m n T) g.pc) (sym fun);
            instance = l.instance ∙ st.0.stands.instance;
            first = same_instance w g g.into (Num z) ∙ st.0.stands.first;
            has = record {
              long = put.numbers.long;
              plain = put.numbers.plain;
              many = put.numbers.many;
              variables = put.numbers.variables;
              temporaries = put.numbers.temporaries;
              made = put.numbers.made;
            };
          };
          stack = stack_same m T f q gs fs l.serial put.linkage st.4;
          frames = refl;
          fresh = let a = l.serial in let b = st.3 in let c = h.fresh in omega (arith, a, b, c);
        } in
        let other : slot_step.step frames_limit m.functions w p ≡ Went v.world p' =
        other_step m proper k w x ws p r 0 [] h ∙ does ∙ ap (λ gs. machine.returns w p gs (Num z)) above
        ∙ ap (λ u. machine.goes_with p gs g.pc (machine.stored w g g.into u))
        (number_within g.answer z (subst (λ j. InRange j z) st.2 range)) in
        let far = place_is m r' p.frame.function F p.frame.pc h.frame.inst 1 h.frame.found h.frame.there (omega (arith, two)) refl
        ∙ ap (λ i. paces.rank i r'.below 1) (ap (slice_get (object_of m).insts) (let q : 1 + P ≡ suc P = omega arith in q) ∙ later) in
        let ret : slice_get (object_of m).insts (1 + P) ≡ Some return_inst =
        ap (slice_get (object_of m).insts) (let q : 1 + P ≡ suc P = omega arith in q) ∙ later in
        subst (Goal m proper k number w x ws p r) (sym steps)
        (steps_once m (paces.place m) k number x w p (paces.place m r) v.world p' (M after).world r' other
        (goes_back q fs refl ret (record { behind = omega arith; place = far }) h.frame.instance home) put.worlds)

  pub returns_below : size h.frame.inst ≡ 2 → (s : isa.Operand) (z : ℤ) → InRange F.answer z → source_of F.answer x r s ≡ Found z
      → slot_step.obey frames_limit m.functions w p h.frame.inst ≡ machine.returns w p p.below (Num z)
      → slice_get (object_of m).insts P ≡ Some (moving F.answer s (operand.IndFp (pos 16) (pos 0)))
      → slice_get (object_of m).insts (suc P) ≡ Some return_inst
      → Goal m proper k number w x ws p r (dis_step.step frames_limit (object_of m ∷ []) x r)
  returns_below = returns_by stack
