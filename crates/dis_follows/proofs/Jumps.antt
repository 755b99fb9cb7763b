-- Control goes elsewhere.
use Rattle.std.proofs.Common.{◌≡◌, ℕ, suc, ◌+◌, ◌-◌, ◌<◌, Bool, true, false, List, [], ◌∷◌, length, Some, refl, sym, ap, ◌∙◌, subst, arith}
use Rattle.std.proofs.Common.{if◌then◌else◌}
use Rattle.std.specs.Prelude.{slice_get}
use Rattle.std.proofs.lemmas.Bool.{le-leb}
use Rattle.dis_isa.specs.declared.inst.Inst as code_inst
use Rattle.limbo_values.specs.declared.number.Kind.{Kind}
use Rattle.limbo_values.specs.declared.number.Kind.TheVariants.{Byte, Int, Big}
use Rattle.limbo_values.specs.declared.operator.Comparison.{Comparison}
use Rattle.limbo_values.specs.Operators.{compared}
use Rattle.limbo_typed.specs.declared.operation.Operation.TheVariants as operation
use Rattle.system_model.specs.Values.{Num}
use Rattle.system_model.specs.Limits.{frames_limit}
use Rattle.typed_meaning.specs.World as program
use Rattle.slot_code.specs.Code.{Operand, Inst, Move, Hand, Alter, Operate, Branch, Jump, Skip, Back, Begin, Call, Format, Print, Return}
use Rattle.slot_code.specs.Code.{Leave, Function, Module}
use Rattle.slot_code.specs.Machine as machine
use Rattle.slot_code.specs.Machine.{value_of}
use Rattle.slot_code.specs.Step as slot_step
use Rattle.dis_meaning.specs.Words.{Found, Wrong, bad_jump}
use Rattle.dis_meaning.specs.World.{World}
use Rattle.dis_meaning.specs.Process as dis
use Rattle.dis_meaning.specs.Process.{Frame, Process}
use Rattle.dis_meaning.specs.Step as dis_step
use Rattle.dis_meaning.specs.Step.{target, jumps, branch}
use Rattle.dis_objects.specs.Frames.{Callee, made_at, count}
use Rattle.dis_objects.specs.Code as objects
use Rattle.dis_objects.specs.Code.{Context, place, source, branch_op, inst, to_place, jump_to, inst_code, source_data, middle_data}
use Rattle.dis_objects.specs.Code.{data_bytes}
use Rattle.dis_objects.specs.Objects.{context, object_of}
use Rattle.dis_objects.specs.Proper.{IsProper, ProperInst, GoesOn}
use Rattle.dis_follows.specs.Stands.{Known, Running, begins, WorldStands}
use Rattle.dis_follows.proofs.Lookups.{HasAt, coded, data_front, data_back}
use Rattle.dis_follows.proofs.Runs.{step_is, have_callees, other_step}
use Rattle.dis_follows.proofs.Frames.{get_within}
use Rattle.dis_follows.proofs.Operands.{Taken, Middled, taken, middled}
use Rattle.dis_follows.proofs.Obeys.{branches, jumps_to}
use Rattle.dis_follows.proofs.Advances.{there, at_slot, at_word, advanced, steps_once}
use Rattle.dis_follows.proofs.Simple as simple
use Rattle.dis_follows.proofs.Simple.{Goal, coded_at, proper_at, at_place, few_of}

-- ---- the code of an instruction isn't empty

pub starts : (m : Module) (f : Function) (c : Context) (pc at here : ℕ) (cs : List Callee) (i : Inst) (l : List code_inst.Inst)
    → ProperInst m f cs pc i → HasAt l here (inst_code c pc at cs i) → (j : code_inst.Inst) × (slice_get l here ≡ Some j)
starts m f c pc at here cs (Move into x) l p h = (_, h.0)
starts m f c pc at here cs (Hand into x) l p h = (_, h.0)
starts m f c pc at here cs (Alter (operation.Alter u k) into x) l p h = (_, h.0)
starts m f c pc at here cs (Alter operation.Not into x) l p h = (_, h.0)
starts m f c pc at here cs (Alter (operation.Convert Byte Byte) into x) l p h = (_, h.0)
starts m f c pc at here cs (Alter (operation.Convert Byte Int) into x) l p h = (_, h.0)
starts m f c pc at here cs (Alter (operation.Convert Byte Big) into x) l p h = (_, h.0)
starts m f c pc at here cs (Alter (operation.Convert Int Byte) into x) l p h = (_, h.0)
starts m f c pc at here cs (Alter (operation.Convert Int Int) into x) l p h = (_, h.0)
starts m f c pc at here cs (Alter (operation.Convert Int Big) into x) l p h = (_, h.0)
starts m f c pc at here cs (Alter (operation.Convert Big Byte) into x) l p h = (_, h.0)
starts m f c pc at here cs (Alter (operation.Convert Big Int) into x) l p h = (_, h.0)
starts m f c pc at here cs (Alter (operation.Convert Big Big) into x) l p h = (_, h.0)
starts m f c pc at here cs (Alter o into x) l p h = absurd p.0
starts m f c pc at here cs (Operate (operation.Arithmetic o k) into x y) l p h = (_, h.0)
starts m f c pc at here cs (Operate (operation.Shift s k) into x y) l p h = (_, h.0)
starts m f c pc at here cs (Operate (operation.Compare o k) into x y) l p h = (_, h.0)
starts m f c pc at here cs (Operate o into x y) l p h = absurd p.0
starts m f c pc at here cs (Branch k o x y n) l p h = (_, h.0)
starts m f c pc at here cs (Jump n) l p h = (_, h.0)
starts m f c pc at here cs (Skip n) l p h = (_, h.0)
starts m f c pc at here cs (Back n) l p h = (_, h.0)
starts m f c pc at here cs (Begin g) l p h = (_, h.0)
starts m f c pc at here (d ∷ cs) (Call k g n into) l p h = (_, h.0)
starts m f c pc at here [] (Call k g n into) l p h = absurd (nothing p.0.last)
  where
    nothing : [] ≡ Rattle.dis_objects.specs.Frames.Calls g ∷ p.0.others → ⊥
    nothing e = cc
starts m f c pc at here cs (Format ps) l p h = (_, h.0)
starts m f c pc at here (d ∷ cs) (Print n into) l p h = (_, h.0)
starts m f c pc at here [] (Print n into) l p h = absurd (nothing p.0.last)
  where
    nothing : [] ≡ Rattle.dis_objects.specs.Frames.Prints p.0.pieces ∷ p.0.others → ⊥
    nothing e = cc
starts m f c pc at here cs (Return x) l p h = (_, h.0)
starts m f c pc at here cs Leave l p h = (_, h.0)

module _ (m : Module) (proper : IsProper m) (pl : Process → ℕ) (k : Known) (number : ℕ) (w : program.World) (x : World)
    (ws : WorldStands m k w x) (p : machine.Process) (r : Process) (h : Running m k p r 0 []) where
  abbrev F : Function
  F = h.frame.function

  abbrev C : Context
  C = context m p.frame.function F

  abbrev CS : List Callee
  CS = made_at F.code p.frame.pc

  abbrev G : dis.Does → Type 0
  G e = Goal m proper pl k number w x ws p r h e

  -- A place of the function's code is one of the object's.
  pub is_target : (pc : ℕ) → pc < length F.code → target (object_of m) (to_place C pc) ≡ Found (place C pc)
  is_target pc l =
      let i = there F.code pc l in
      let c = coded m ws.words p.frame.function F pc i.0 (have_callees m proper) ws.has.constants h.frame.found i.1 in
      let s = starts m F C pc c.at (place C pc) (made_at F.code pc) i.0 (object_of m).insts
      ((proper.functions p.frame.function F h.frame.found).each pc i.0 i.1) c.code in
      let less = get_within (object_of m).insts (place C pc) s.0 s.1 in
      ap (λ b. if b then Found (place C pc) else Wrong bad_jump)
      (le-leb (suc (place C pc)) (length (object_of m).insts) (omega (arith, less)))

  -- Both go on there.
  pub goes_to : (pc : ℕ) → GoesOn m F CS pc → slot_step.step frames_limit m.functions w p ≡ machine.goes w p pc
      → dis_step.step frames_limit (object_of m ∷ []) x r ≡ jumps x r (place C pc) → G (dis_step.step frames_limit (object_of m ∷ []) x r)
  goes_to pc on does steps =
      let run = advanced m k p r 0 [] h p.frame r.frame.words pc 0 CS refl refl on h.frame.has refl in
      let e : 0 + place C pc ≡ place C pc = omega arith in
      subst G (sym steps)
      (steps_once m pl k number x w p (pl r) w (at_slot m k p r 0 [] h p.frame pc) x (at_word m k p r 0 [] h r.frame.words (place C pc))
      does
      (begins (subst (λ n. Running m k (at_slot m k p r 0 [] h p.frame pc) (at_word m k p r 0 [] h r.frame.words n) 0 []) e run)) ws)

  jumping : (i : Inst) → h.frame.inst ≡ i → (pc : ℕ) → GoesOn m F CS pc
      → slot_step.obey frames_limit m.functions w p i ≡ machine.goes w p pc
      → slice_get (object_of m).insts (place C p.frame.pc) ≡ Some (jump_to (place C pc))
      → G (dis_step.step frames_limit (object_of m ∷ []) x r)
  jumping i e pc on does code =
      goes_to pc on (other_step m proper k w x ws p r 0 [] h ∙ ap (slot_step.obey frames_limit m.functions w p) e ∙ does)
      (step_is m k w x r (jump_to (place C pc)) (jumps x r (place C pc)) ws h.frame.instance
      (at_place m proper pl k number w x ws p r h _ code)
      (jumps_to frames_limit (object_of m) x r (place C pc) (is_target pc on.within)))

  pub jump_goes : (n : ℕ) → h.frame.inst ≡ Jump n → G (dis_step.step frames_limit (object_of m ∷ []) x r)
  jump_goes n e =
      let c = coded_at m proper pl k number w x ws p r h (Jump n) e in
      jumping (Jump n) e (suc p.frame.pc + n) (proper_at m proper pl k number w x ws p r h (Jump n) e) refl c.code.0

  pub skip_goes : (n : ℕ) → h.frame.inst ≡ Skip n → G (dis_step.step frames_limit (object_of m ∷ []) x r)
  skip_goes n e =
      let c = coded_at m proper pl k number w x ws p r h (Skip n) e in
      jumping (Skip n) e (suc p.frame.pc + n) (proper_at m proper pl k number w x ws p r h (Skip n) e) refl c.code.0

  pub back_goes : (n : ℕ) → h.frame.inst ≡ Back n → G (dis_step.step frames_limit (object_of m ∷ []) x r)
  back_goes n e =
      let c = coded_at m proper pl k number w x ws p r h (Back n) e in
      jumping (Back n) e (p.frame.pc - n) (proper_at m proper pl k number w x ws p r h (Back n) e) refl c.code.0

  pub branch_goes : (j : Kind) (o : Comparison) (left right : Operand) (n : ℕ) → h.frame.inst ≡ Branch j o left right n
      → G (dis_step.step frames_limit (object_of m ∷ []) x r)
  branch_goes j o left right n e =
      let i = Branch j o left right n in
      let c = coded_at m proper pl k number w x ws p r h i e in
      let q = proper_at m proper pl k number w x ws p r h i e in
      let sd = source_data j left in
      let a = taken m k w x ws p.frame r F CS h.frame.has h.frame.instance h.frame.first j left c.at q.0
      (few_of m proper pl k number w x ws p r h i e left (λ i. omega arith))
      (data_front m ws.words c.at sd (middle_data j right) c.constants) in
      let b = middled m k w x ws p.frame r F CS h.frame.has h.frame.instance h.frame.first j right (c.at + data_bytes sd) q.1
      (few_of m proper pl k number w x ws p r h i e right (λ i. omega arith))
      (data_back m ws.words c.at sd (middle_data j right) c.constants) in
      let far = suc p.frame.pc + n in
      go (compared o a.number b.number) c.at a b q refl c.code.0
    where
      abbrev_code : ℕ → code_inst.Inst
      abbrev_code at = inst (branch_op o j) (source C left at) (objects.middle_of C right (at + data_bytes (source_data j left)))
          (to_place C (suc p.frame.pc + n))

      go : (t : Bool) (at : ℕ) (a : Taken m k w x ws p.frame r F CS h.frame.has h.frame.instance h.frame.first j left at)
          (b : Middled m k w x ws p.frame r F CS h.frame.has h.frame.instance h.frame.first j right (at + data_bytes (source_data j left)))
          → ProperInst m F CS p.frame.pc (Branch j o left right n) → compared o a.number b.number ≡ t
          → slice_get (object_of m).insts (place C p.frame.pc) ≡ Some (abbrev_code at)
          → G (dis_step.step frames_limit (object_of m ∷ []) x r)
      go t at a b q is code = by_test t refl
        where
          does : slot_step.step frames_limit m.functions w p
              ≡ machine.goes w p (slot_step.chosen t (suc p.frame.pc + n) (suc p.frame.pc))
          does =
              other_step m proper k w x ws p r 0 [] h ∙ ap (slot_step.obey frames_limit m.functions w p) e
              ∙ ap (λ u. machine.goes w p (slot_step.chosen (slot_step.compared_values o u (value_of w p.frame right)) (suc p.frame.pc + n)
              (suc p.frame.pc))) a.is
              ∙ ap (λ v. machine.goes w p (slot_step.chosen (slot_step.compared_values o (Num a.number) v) (suc p.frame.pc + n)
              (suc p.frame.pc))) b.is
              ∙ ap (λ t. machine.goes w p (slot_step.chosen t (suc p.frame.pc + n) (suc p.frame.pc))) is

          steps : dis_step.step frames_limit (object_of m ∷ []) x r ≡ branch x r t (place C (suc p.frame.pc + n))
          steps =
              step_is m k w x r (abbrev_code at) _ ws h.frame.instance (at_place m proper pl k number w x ws p r h _ code)
              (branches frames_limit (object_of m) x r o j (source C left at) (to_place C (suc p.frame.pc + n))
              (objects.middle_of C right (at + data_bytes (source_data j left))) a.number b.number
              (place C (suc p.frame.pc + n)) a.reads b.reads
              (is_target (suc p.frame.pc + n) q.3.within))
              ∙ ap (λ t. branch x r t (place C (suc p.frame.pc + n))) is

          by_test : (t' : Bool) → t ≡ t' → G (dis_step.step frames_limit (object_of m ∷ []) x r)
          by_test true same =
              goes_to (suc p.frame.pc + n) q.3
              (does ∙ ap (λ t. machine.goes w p (slot_step.chosen t (suc p.frame.pc + n) (suc p.frame.pc))) same)
              (steps ∙ ap (λ t. branch x r t (place C (suc p.frame.pc + n))) same)
          by_test false same =
              goes_to (suc p.frame.pc) q.2
              (does ∙ ap (λ t. machine.goes w p (slot_step.chosen t (suc p.frame.pc + n) (suc p.frame.pc))) same)
              (steps ∙ ap (λ t. branch x r t (place C (suc p.frame.pc + n))) same
              ∙ ap (λ n. jumps x r n) (simple.behind m proper pl k number w x ws p r h (Branch j o left right n) e refl ∙ omega arith))
