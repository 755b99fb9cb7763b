-- A call: the function begins in the frame that was made.
use Rattle.std.proofs.Common.{◌≡◌, ℕ, suc, ◌+◌, ◌<◌, ◌≤◌, pos, Bool, true, false, List, [], ◌∷◌, length, Some, refl, sym, ap, ◌∙◌, subst}
use Rattle.std.proofs.Common.{arith, if◌then◌else◌}
use Rattle.std.specs.Prelude.{slice_get, nat_lt, codes}
use Rattle.std.proofs.lemmas.Bool.{le-leb, eq-eqb}
use Rattle.std.proofs.lemmas.Option.{same_Some}
use Rattle.process_model.specs.Process.{Went, Ends}
use Rattle.dis_isa.specs.declared.inst.Operand.TheVariants as operand
use Rattle.dis_isa.specs.declared.inst.Middle.TheVariants as middle
use Rattle.dis_isa.specs.declared.op.Op.TheVariants as op
use Rattle.limbo_values.specs.declared.number.Kind.{Kind}
use Rattle.system_model.specs.Ending.{Broken}
use Rattle.system_model.specs.Limits.{frames_limit}
use Rattle.typed_meaning.specs.World as program
use Rattle.slot_code.specs.Code.{Temporary, Function, Module}
use Rattle.slot_code.specs.Machine as machine
use Rattle.slot_code.specs.Machine.{Made, taken, entered, waiting}
use Rattle.slot_code.specs.Step as slot_step
use Rattle.dis_meaning.specs.Words.{Found, Wrong, ◌>>=◌, bad_jump}
use Rattle.dis_meaning.specs.World.{World}
use Rattle.dis_meaning.specs.Process as dis
use Rattle.dis_meaning.specs.Process.{Frame, Process, at_pc, with_frames}
use Rattle.dis_meaning.specs.Step as dis_step
use Rattle.dis_meaning.specs.Step.{target, without, frame_at}
use Rattle.dis_objects.specs.Frames.{Callee, Calls, Room, room_of, made_at, count, inst_count}
use Rattle.dis_objects.specs.Code.{Context, place, calling, inst, made_word, size}
use Rattle.dis_objects.specs.Objects.{context, object_of, base_of}
use Rattle.dis_objects.specs.Proper.{IsProper, ProperInst, IsWritten}
use Rattle.dis_follows.specs.Stands.{Known, AllReady, HasNumbers, StackStands, FrameWaits, Running, Calling, HasArguments, AnswersTo}
use Rattle.dis_follows.specs.Stands.{begins, WorldStands}
use Rattle.dis_follows.specs.Paces as paces
use Rattle.dis_follows.proofs.Lookups.{HasAt, Coded, coded}
use Rattle.dis_follows.proofs.Runs.{step_is, have_callees, is_coded, is_proper, counted, other_step, as_known, place_on}
use Rattle.dis_follows.proofs.Simple.{spot_counted}
use Rattle.dis_follows.proofs.Frames.{get_within}
use Rattle.dis_follows.proofs.Jumps.{starts}
use Rattle.dis_follows.proofs.Far as far
use Rattle.dis_follows.proofs.Passed.{none_below}
use Rattle.dis_follows.proofs.Advances.{there, stack_same, steps_once, at_once}
use Rattle.dis_follows.proofs.Decided.{Goal}

-- Both have as many frames.
pub as_high : (m : Module) (f : Function) (r : Frame) (gs : List machine.Frame) (rs : List Frame) → StackStands m f r gs rs
    → length gs ≡ length rs
as_high m f r [] [] h = refl
as_high m f r (g ∷ gs) (q ∷ rs) h = ap suc (as_high m h.0.stands.function q gs rs h.4)
as_high m f r [] (q ∷ rs) h = absurd h
as_high m f r (g ∷ gs) [] h = absurd h

-- The code of a function begins at a place of the object.
pub entry_is : (m : Module) (proper : IsProper m) (k : Known) (w : program.World) (x : World) (ws : WorldStands m k w x) (n : ℕ)
    (f : Function)
    → slice_get m.functions n ≡ Some f → target (object_of m) (operand.Imm (pos (place (context m n f) 0)))
    ≡ Found (place (context m n f) 0)
entry_is m proper k w x ws n f e =
    let i = there f.code 0 (proper.functions n f e).some in
    let c = coded m ws.words n f 0 i.0 (have_callees m proper) ws.has.constants e i.1 in
    let s = starts m f (context m n f) 0 c.at (place (context m n f) 0) (made_at f.code 0) i.0 (object_of m).insts
    ((proper.functions n f e).each 0 i.0 i.1) c.code in
    let less = get_within (object_of m).insts (place (context m n f) 0) s.0 s.1 in
    ap (λ b. if b then Found (place (context m n f) 0) else Wrong bad_jump)
    (le-leb (suc (place (context m n f) 0)) (length (object_of m).insts) (omega (arith, less)))

module _ (m : Module) (proper : IsProper m) (k : Known) (number : ℕ) (w : program.World) (x : World) (ws : WorldStands m k w x)
    (p : machine.Process) (r : Process) (n : Frame) (h : Calling m k p r 3 n)
    (has : HasArguments m h.callee h.number (taken h.ready.arguments 0 h.arguments) n)
    (answers : AnswersTo m p r h.making.running.frame.function h.into n) where
  abbrev H : Running m k p r 3 (n ∷ [])
  H = h.making.running

  abbrev F : Function
  F = H.frame.function

  abbrev C : Context
  C = context m p.frame.function F

  abbrev CS : List Callee
  CS = made_at F.code p.frame.pc

  abbrev R : Room
  R = room_of m.functions F

  abbrev P : ℕ
  P = place C p.frame.pc

  abbrev E : ℕ
  E = place (context m h.number h.callee) 0

  abbrev waits : machine.Frame
  waits = waiting p.frame h.others h.kind h.into

  abbrev new_slot : machine.Process
  new_slot = machine.with_frames p (entered h.number 0 h.callee (taken h.ready.arguments 0 h.arguments)) (waits ∷ p.below)

  abbrev new_word : Process
  new_word = with_frames r (at_pc n E) (at_pc r.frame (suc r.frame.pc) ∷ r.below) []

  high : dis.height r ≡ machine.height p
  high = ap suc (sym (as_high m F r.frame p.below r.below H.stack))

  -- What each does, where there is room for a frame or isn't.
  slot_does : (b : Bool) → nat_lt (machine.height p) frames_limit ≡ b → slot_step.step frames_limit m.functions w p
      ≡ (if b then Went w new_slot else Ends w (Broken (codes "stack overflow")))
  slot_does b e =
      other_step m proper k w x ws p r 3 (n ∷ []) H ∙ ap (slot_step.obey frames_limit m.functions w p) h.is
      ∙ ap (slot_step.called frames_limit m.functions w p h.kind h.number h.arguments h.into) h.first
      ∙ ap (λ f. machine.calls frames_limit w p waits h.number f (taken h.ready.arguments 0 h.arguments)) h.found
      ∙ ap (λ b. if b then Went w
      (machine.with_frames p (entered h.number p.frame.instance h.callee (taken h.ready.arguments 0 h.arguments)) (waits ∷ p.below))
      else Ends w (Broken (codes "stack overflow"))) e
      ∙ ap (λ i. if b then Went w (machine.with_frames p (entered h.number i h.callee (taken h.ready.arguments 0 h.arguments))
      (waits ∷ p.below))
      else Ends w (Broken (codes "stack overflow"))) H.frame.first

  word_does : (b : Bool) → nat_lt (machine.height p) frames_limit ≡ b
      → slice_get (object_of m).insts r.frame.pc
      ≡ Some (inst op.Call (made_word C) middle.None (operand.Imm (pos (base_of m.functions h.number))))
      → dis_step.step frames_limit (object_of m ∷ []) x r ≡ (if b then Went x new_word else Ends x (Broken (codes "stack overflow")))
  word_does b e code =
      let own : r.frame.serial ≡ n.serial → ⊥ = λ e. let l = h.making.made.later in omega (arith, e, l) in
      let below = none_below m F r.frame p.below r.below n.serial H.stack h.making.made.later in
      let place_is : base_of m.functions h.number ≡ E = omega arith in
      let code' : slice_get (object_of m).insts r.frame.pc ≡ Some (inst op.Call (made_word C) middle.None (operand.Imm (pos E))) =
      code ∙ ap (λ a. Some (inst op.Call (made_word C) middle.None (operand.Imm (pos a)))) place_is in
      let one : without n.serial r.made ≡ [] =
      ap (without n.serial) H.frames ∙ ap (λ b. if b then [] else n ∷ []) (eq-eqb n.serial n.serial refl) in
      step_is m k w x r (inst op.Call (made_word C) middle.None (operand.Imm (pos E)))
      (dis_step.calls frames_limit x r n E) ws H.frame.instance code'
      (ap (λ a. a >>= frame_at x r >>= λ f. target (object_of m) (operand.Imm (pos E)) >>= λ pc.
      Found (dis_step.calls frames_limit x r f pc)) h.making.address
      ∙ ap (λ a. a >>= λ f. target (object_of m) (operand.Imm (pos E)) >>= λ pc. Found (dis_step.calls frames_limit x r f pc))
      (far.made_found x r n H.frames own below (pos 0))
      ∙ ap (λ a. a >>= λ pc. Found (dis_step.calls frames_limit x r n pc)) (entry_is m proper k w x ws h.number h.callee h.found))
      ∙ ap (λ l. if nat_lt l frames_limit then Went x
      (with_frames r (at_pc n E) (at_pc r.frame (suc r.frame.pc) ∷ r.below) (without n.serial r.made))
      else Ends x (Broken (codes "stack overflow"))) high
      ∙ ap (λ b. if b then Went x (with_frames r (at_pc n E) (at_pc r.frame (suc r.frame.pc) ∷ r.below) (without n.serial r.made))
      else Ends x (Broken (codes "stack overflow"))) e
      ∙ ap (λ fs. if b then Went x (with_frames r (at_pc n E) (at_pc r.frame (suc r.frame.pc) ∷ r.below) fs)
      else Ends x (Broken (codes "stack overflow"))) one

  enters_on : (q : Rattle.dis_objects.specs.Proper.CallsFunction m F CS h.kind h.number h.arguments h.into)
      → Rattle.dis_objects.specs.Proper.GoesOn m F q.others (suc p.frame.pc) → Running m k new_slot new_word 0 []
  enters_on q on =
      let same : q.function ≡ h.callee = same_Some q.function h.callee (sym q.there ∙ h.found) in
      let first = there h.callee.code 0 (proper.functions h.number h.callee h.found).some in
      let following = there F.code (suc p.frame.pc) on.within in
      let ready : AllReady m r.frame.words R (Calls h.number ∷ q.others) (h.ready ∷ h.others) =
      subst (λ cs. AllReady m r.frame.words R cs (h.ready ∷ h.others)) q.last
      (subst (AllReady m r.frame.words R CS) h.first H.frame.has.made) in
      let others : HasNumbers m F q.others waits r.frame.words = record {
        long = H.frame.has.long;
        plain = H.frame.has.plain;
        many = H.frame.has.many;
        variables = H.frame.has.variables;
        temporaries = H.frame.has.temporaries;
        made = ready.1;
      } in
      let next_place = place_on C p.frame.pc H.frame.inst H.frame.there in
      let long : size H.frame.inst ≡ 4 = ap size h.is in
      let few : (j : Kind) (t : ℕ) → h.into ≡ Temporary j t → t < count j F.code =
      λ j t e. let a = spot_counted j t h.into e in
      let b = counted m proper k w x ws p r 3 (n ∷ []) H j in
      let d = subst (λ i. inst_count j i ≤ count j F.code) h.is b in omega (arith, a, d) in
      let waiting_frame : FrameWaits m waits (at_pc r.frame (suc r.frame.pc)) = record {
        stands = record {
          function = F;
          found = H.frame.found;
          inst = following.0;
          there = following.1;
          here = omega (arith, next_place, long, H.frame.here);
          instance = H.frame.instance;
          first = H.frame.first;
          has = subst (λ cs. HasNumbers m F cs waits r.frame.words) (sym on.made) others;
        };
        into = subst (λ cs. IsWritten m F cs h.into) (sym on.made) q.written;
        kind = q.kind;
        few = few;
      } in
      record {
        loaded = H.loaded;
        number = H.number;
        frame = record {
          function = h.callee;
          found = h.found;
          inst = first.0;
          there = first.1;
          here = omega arith;
          instance = h.making.made.instance;
          first = refl;
          has = has;
        };
        stack = (
          waiting_frame,
          answers,
          ap (λ (f : Function). f.answer) (sym same) ∙ q.answer,
          h.making.made.later,
          stack_same m F r.frame (at_pc r.frame (suc r.frame.pc)) p.below r.below refl refl H.stack,
        );
        frames = refl;
        fresh = h.making.made.given;
      }

  pub calls_function : Goal m proper k number w x ws p r (dis_step.step frames_limit (object_of m ∷ []) x r)
  calls_function = go (nat_lt (machine.height p) frames_limit) refl
    where
      code : slice_get (object_of m).insts r.frame.pc
          ≡ Some (inst op.Call (made_word C) middle.None (operand.Imm (pos (base_of m.functions h.number))))
      code =
          let q = (subst (ProperInst m F CS p.frame.pc) h.is (is_proper m proper k w x ws p r 3 (n ∷ []) H)).0 in
          let c = subst (Coded m ws.words C (object_of m).insts P p.frame.pc CS) h.is (is_coded m proper k w x ws p r 3 (n ∷ []) H) in
          let code : HasAt (object_of m).insts P (calling C c.at h.number h.into (Calls h.number ∷ q.others)) =
          subst (λ cs. HasAt (object_of m).insts P (calling C c.at h.number h.into cs)) q.last c.code in
          ap (slice_get (object_of m).insts) (H.frame.here ∙ (let o : 3 + P ≡ suc (suc (suc P)) = omega arith in o)) ∙ code.1.1.1.0

      go : (b : Bool) → nat_lt (machine.height p) frames_limit ≡ b
          → Goal m proper k number w x ws p r (dis_step.step frames_limit (object_of m ∷ []) x r)
      go true e =
          let i = subst (ProperInst m F CS p.frame.pc) h.is (is_proper m proper k w x ws p r 3 (n ∷ []) H) in
          subst (Goal m proper k number w x ws p r) (sym (word_does true e code))
          (steps_once m (paces.place m) k number x w p (paces.place m r) w new_slot x new_word (slot_does true e)
          (begins (enters_on i.0 i.1)) ws)
      go false e =
          subst (Goal m proper k number w x ws p r) (sym (word_does false e code))
          (record {
            now = k;
            changes = as_known k;
            world = w;
            comes = at_once m (paces.place m) k number x w p (paces.place m r) (Ends w (Broken (codes "stack overflow")))
                (slot_does false e);
            worlds = ws;
          })
