-- A process of the machine tells at which instruction the other is.
use Rattle.std.proofs.Common.{◌≡◌, ℕ, zero, suc, ◌+◌, ◌-◌, ◌<◌, ◌≤◌, ℤ, List, [], ◌∷◌, Some, refl, sym, ap, ◌∙◌, subst, arith}
use Rattle.std.proofs.Common.{if◌then◌else◌}
use Rattle.std.specs.Prelude.{slice_get, take}
use Rattle.dis_isa.specs.declared.inst.Inst as code_inst
use Rattle.limbo_values.specs.declared.number.Kind.TheVariants.{Byte, Big}
use Rattle.limbo_typed.specs.declared.operation.Operation.TheVariants as operation
use Rattle.system_model.specs.Values.{Value}
use Rattle.slot_code.specs.Code.{Inst, Alter, Operate, Call, Print, Return, Leave, Function, Module}
use Rattle.slot_code.specs.Machine as machine
use Rattle.dis_meaning.specs.Process.{Frame, Process}
use Rattle.dis_objects.specs.Frames.{Callee, Calls, Prints, made_at}
use Rattle.dis_objects.specs.Code.{Context, size, sizes, start, place, calling, printing}
use Rattle.dis_objects.specs.Objects.{init_of, size_before, entry_size, entry_length, base_of, context, object_of}
use Rattle.dis_objects.specs.Proper.{IsProper, ProperInst}
use Rattle.dis_follows.specs.Stands.{Known, Decides, Passes, IsReturn, return_inst, FrameStands, Running, Calling, Printing, Entering}
use Rattle.dis_follows.specs.Stands.{Ready, StackStands}
use Rattle.dis_follows.specs.Stands as stands
use Rattle.dis_follows.specs.Paces as paces
use Rattle.dis_follows.specs.Standing.{below_place, row_at, of_next, found_in, target_of, init_place, next_place, standing_at}
use Rattle.dis_follows.proofs.Lookups.{HasAt, Coded, coded}
use Rattle.dis_follows.proofs.Paces.{less, not_less, place_is}
use Rattle.dis_follows.proofs.Advances.{there}
use Rattle.dis_follows.proofs.Runs.{have_callees}
use Rattle.dis_follows.proofs.Returns.{none_there}
use Rattle.dis_follows.proofs.Opening.{opening_data}
use Rattle.dis_follows.specs.Start.{opening_words}
use Rattle.dis_follows.proofs.JumpsOn.{some_size, begin_place}

-- ---- whose code a place is in

skip : (i : Inst) (is : List Inst) (n n' : ℕ) → n ≡ size i + n' → row_at (i ∷ is) n ≡ suc (row_at is n')
skip i is n n' e =
    ap (λ b. if b then 0 else suc (row_at is (n - size i))) (not_less n (size i) (omega (arith, e)))
    ∙ ap (λ n. suc (row_at is n)) (omega (arith, e))

row_is : (is : List Inst) (pc : ℕ) (i : Inst) (offset : ℕ) → slice_get is pc ≡ Some i → offset < size i
    → row_at is (sizes (take pc is) + offset) ≡ pc
row_is [] pc i offset e lt = absurd cc
row_is (i' ∷ is) zero i offset e lt =
    let same : i' ≡ i = cc in
    let l : 0 + offset < size i' = subst (λ i. 0 + offset < size i) (sym same) (omega (arith, lt)) in
    ap (λ b. if b then 0 else suc (row_at is (0 + offset - size i'))) (less (0 + offset) (size i') l)
row_is (i' ∷ is) (suc pc) i offset e lt = skip i' is _ (sizes (take pc is) + offset) (omega arith) ∙ ap suc (row_is is pc i offset e lt)

within_sizes : (is : List Inst) (pc : ℕ) (i : Inst) (offset : ℕ) → slice_get is pc ≡ Some i → offset < size i
    → sizes (take pc is) + offset < sizes is
within_sizes [] pc i offset e lt = absurd cc
within_sizes (i' ∷ is) zero i offset e lt =
    let same : i' ≡ i = cc in let l : offset < size i' = subst (λ i. offset < size i) (sym same) lt in omega (arith, l)
within_sizes (i' ∷ is) (suc pc) i offset e lt = let l = within_sizes is pc i offset e lt in omega (arith, l)

found_is : (fs : List Function) (n : ℕ) (f : Function) (pc : ℕ) (i : Inst) (offset : ℕ) → slice_get fs n ≡ Some f
    → slice_get f.code pc ≡ Some i
    → offset < size i → found_in fs (size_before fs n + (start f.code pc + offset)) ≡ record { function = n; pc = pc }
found_is [] n f pc i offset e h lt = absurd cc
found_is (g ∷ fs) zero f pc i offset e h lt =
    let same : g ≡ f = cc in
    let z : 0 + (start f.code pc + offset) ≡ start f.code pc + offset = omega arith in
    let l = within_sizes f.code pc i offset h lt in
    ap (found_in (g ∷ fs)) z
    ∙ ap (λ (g : Function). found_in (g ∷ fs) (start f.code pc + offset)) same
    ∙ ap (λ b. if b then record { function = 0; pc = row_at f.code (start f.code pc + offset) } else of_next
    (found_in fs (start f.code pc + offset - sizes f.code)))
    (less (start f.code pc + offset) (sizes f.code) l)
    ∙ ap (λ r. record { function = 0; pc = r }) (row_is f.code pc i offset h lt)
found_is (g ∷ fs) (suc n) f pc i offset e h lt =
    let at = size_before (g ∷ fs) (suc n) + (start f.code pc + offset) in
    let behind : at - sizes g.code ≡ size_before fs n + (start f.code pc + offset) = omega arith in
    ap (λ b. if b then record { function = 0; pc = row_at g.code at } else of_next (found_in fs (at - sizes g.code)))
    (not_less at (sizes g.code) (omega arith))
    ∙ ap (λ n. of_next (found_in fs n)) behind
    ∙ ap of_next (found_is fs n f pc i offset e h lt)

module _ (m : Module) (proper : IsProper m) (k : Known) (p : machine.Process) (r : Process) where
  abbrev Tells : Type 0
  Tells = standing_at m r ≡ record { function = p.frame.function; pc = p.frame.pc }

  -- A place in its code.
  found_at : (f : Function) (i : Inst) (offset at : ℕ) → slice_get m.functions p.frame.function ≡ Some f
      → slice_get f.code p.frame.pc ≡ Some i
      → offset < size i → at ≡ offset + place (context m p.frame.function f) p.frame.pc
      → found_in m.functions (at - entry_size m.functions) ≡ record { function = p.frame.function; pc = p.frame.pc }
  found_at f i offset at e h lt is =
      let inner : at - entry_size m.functions ≡ size_before m.functions p.frame.function + (start f.code p.frame.pc + offset) =
      omega (arith, is) in
      ap (found_in m.functions) inner ∙ found_is m.functions p.frame.function f p.frame.pc i offset e h lt

  -- It is there, and doesn't go elsewhere at once.
  stays : (offset : ℕ) (h : FrameStands m p.frame r.frame offset) → offset < size h.inst → (n : ℕ) → paces.place m r ≡ suc n → Tells
  stays offset h lt n q =
      let here = h.here in
      ap (λ b. found_in m.functions ((if b then init_place m (init_of m)
      else next_place (paces.place m r) (target_of (slice_get (object_of m).insts r.frame.pc) r.below) r.frame.pc) - entry_size
      m.functions))
      (not_less r.frame.pc (entry_size m.functions) (omega (arith, here)))
      ∙ ap (λ n. found_in m.functions
      (next_place n (target_of (slice_get (object_of m).insts r.frame.pc) r.below) r.frame.pc - entry_size m.functions)) q
      ∙ found_at h.function h.inst offset r.frame.pc h.found h.there lt here

  -- It goes elsewhere at once.
  goes_on : entry_size m.functions ≤ r.frame.pc → paces.place m r ≡ 0
      → (at : ℕ) → target_of (slice_get (object_of m).insts r.frame.pc) r.below ≡ at
      → found_in m.functions (at - entry_size m.functions) ≡ record { function = p.frame.function; pc = p.frame.pc } → Tells
  goes_on l q at e f =
      ap (λ b. found_in m.functions ((if b then init_place m (init_of m)
      else next_place (paces.place m r) (target_of (slice_get (object_of m).insts r.frame.pc) r.below) r.frame.pc) - entry_size
      m.functions))
      (not_less r.frame.pc (entry_size m.functions) l)
      ∙ ap (λ n. found_in m.functions
      (next_place n (target_of (slice_get (object_of m).insts r.frame.pc) r.below) r.frame.pc - entry_size m.functions)) q
      ∙ ap (λ n. found_in m.functions (n - entry_size m.functions)) e ∙ f

  -- Within its code, at an instruction of this rank.
  by_rank : (o : ℕ) (h : FrameStands m p.frame r.frame (suc o)) → suc o < size h.inst → (i : code_inst.Inst)
      → slice_get (object_of m).insts (suc o + place (context m p.frame.function h.function) p.frame.pc) ≡ Some i
      → (n : ℕ) → paces.op_rank i.op r.below (suc o) ≡ suc n → Tells
  by_rank o h lt i at n q =
      stays (suc o) h lt n
      (place_is m r p.frame.function h.function p.frame.pc h.inst (suc o) h.found h.there lt h.here
      ∙ ap (λ i. paces.rank i r.below (suc o)) (ap (slice_get (object_of m).insts) h.here ∙ at) ∙ q)

  -- ---- the code of each

  abbrev D : {offset : ℕ} → FrameStands m p.frame r.frame offset → Context
  D h = context m p.frame.function h.function

  abbrev CS : {offset : ℕ} → FrameStands m p.frame r.frame offset → List Callee
  CS h = made_at h.function.code p.frame.pc

  code_of : {offset : ℕ} (h : FrameStands m p.frame r.frame offset)
      → Coded m (opening_words m) (D h) (object_of m).insts (place (D h) p.frame.pc) p.frame.pc (CS h) h.inst
  code_of h = coded m (opening_words m) p.frame.function h.function p.frame.pc h.inst (have_callees m proper)
      (opening_data m) h.found h.there

  coded_as : {offset : ℕ} (h : FrameStands m p.frame r.frame offset) (i : Inst) → h.inst ≡ i
      → Coded m (opening_words m) (D h) (object_of m).insts (place (D h) p.frame.pc) p.frame.pc (CS h) i
  coded_as h i e = subst (Coded m (opening_words m) (D h) (object_of m).insts (place (D h) p.frame.pc) p.frame.pc (CS h)) e (code_of h)

  longer : (h : Inst) (i : Inst) (n : ℕ) → h ≡ i → n < size i → n < size h
  longer h i n e l = subst (λ i. n < size i) (sym e) l

  next : (o P : ℕ) (i : code_inst.Inst) (at : ℕ) → at ≡ suc o + P → slice_get (object_of m).insts at ≡ Some i
      → slice_get (object_of m).insts (suc o + P) ≡ Some i
  next o P i at e h = ap (slice_get (object_of m).insts) (sym e) ∙ h

  -- ---- each

  denied : (h : FrameStands m p.frame r.frame 1) (v : Value) (i : Inst) → h.inst ≡ i → Decides m i p.frame v → Tells
  denied h v (Operate (operation.Compare c j) into left right) e d =
      let code = (coded_as h (Operate (operation.Compare c j) into left right) e).code in
      by_rank 0 h (longer h.inst _ 1 e (omega arith)) _ (next 0 (place (D h) p.frame.pc) _ _ (omega arith) code.1.0) _ refl
  denied h v (Alter operation.Not into from) e d =
      let code = (coded_as h (Alter operation.Not into from) e).code in
      by_rank 0 h (longer h.inst _ 1 e (omega arith)) _ (next 0 (place (D h) p.frame.pc) _ _ (omega arith) code.1.0) _ refl
  denied h v i e d = absurd d

  affirmed : (h : FrameStands m p.frame r.frame 3) (v : Value) (i : Inst) → h.inst ≡ i → Decides m i p.frame v → Tells
  affirmed h v (Operate (operation.Compare c j) into left right) e d =
      let code = (coded_as h (Operate (operation.Compare c j) into left right) e).code in
      by_rank 2 h (longer h.inst _ 3 e (omega arith)) _ (next 2 (place (D h) p.frame.pc) _ _ (omega arith) code.1.1.1.0) _ refl
  affirmed h v (Alter operation.Not into from) e d =
      let code = (coded_as h (Alter operation.Not into from) e).code in
      by_rank 2 h (longer h.inst _ 3 e (omega arith)) _ (next 2 (place (D h) p.frame.pc) _ _ (omega arith) code.1.1.1.0) _ refl
  affirmed h v i e d = absurd d

  passing : (h : FrameStands m p.frame r.frame 1) (z : ℤ) (i : Inst) → h.inst ≡ i → Passes m i p.frame z → Tells
  passing h z (Alter (operation.Convert Byte Big) into from) e d =
      let code = (coded_as h (Alter (operation.Convert Byte Big) into from) e).code in
      by_rank 0 h (longer h.inst _ 1 e (omega arith)) _ (next 0 (place (D h) p.frame.pc) _ _ (omega arith) code.1.0) _ refl
  passing h z (Alter (operation.Convert Big Byte) into from) e d =
      let code = (coded_as h (Alter (operation.Convert Big Byte) into from) e).code in
      by_rank 0 h (longer h.inst _ 1 e (omega arith)) _ (next 0 (place (D h) p.frame.pc) _ _ (omega arith) code.1.0) _ refl
  passing h z i e d = absurd d

  -- In a call, and in a print.
  call_code : {o : ℕ} {n : Frame} (h : Calling m k p r o n) → (at : ℕ) × (cs : List Callee)
      × HasAt (object_of m).insts (place (D h.making.running.frame) p.frame.pc)
      (calling (D h.making.running.frame) at h.number h.into (Calls h.number ∷ cs))
  call_code h =
      let f = h.making.running.frame in
      let q = (subst (ProperInst m f.function (CS f) p.frame.pc) h.is
      ((proper.functions p.frame.function f.function f.found).each p.frame.pc f.inst f.there)).0 in
      let c = coded_as f (Call h.kind h.number h.arguments h.into) h.is in (
        c.at,
        q.others,
        subst (λ cs. HasAt (object_of m).insts (place (D f) p.frame.pc) (calling (D f) c.at h.number h.into cs)) q.last
            c.code,
      )

  print_code : {o : ℕ} {n : Frame} (h : Printing m k p r o n)
      → (at : ℕ) × HasAt (object_of m).insts (place (D h.making.running.frame) p.frame.pc)
      (printing (D h.making.running.frame) at h.into (Prints h.pieces ∷ h.cs))
  print_code h =
      let f = h.making.running.frame in
      let c = coded_as f (Print h.arguments h.into) h.is in
      (c.at, subst (λ cs. HasAt (object_of m).insts (place (D f) p.frame.pc) (printing (D f) c.at h.into cs)) h.callee c.code)

  -- In the entry.
  entering : (pc : ℕ) → Entering m k p r pc → pc < 3 → Tells
  entering pc h l =
      let three : entry_size m.functions ≡ 3 = ap entry_length h.is_init in
      let here = h.here in
      let first = there h.function.code 0 (proper.functions h.init h.function h.found).some in
      let function_is : p.frame.function ≡ h.init = ap (λ (g : machine.Frame). g.function) h.frame in
      let pc_is : p.frame.pc ≡ 0 = ap (λ (g : machine.Frame). g.pc) h.frame in
      let found : slice_get m.functions p.frame.function ≡ Some h.function = ap (slice_get m.functions) function_is ∙ h.found in
      let at : slice_get h.function.code p.frame.pc ≡ Some first.0 = ap (slice_get h.function.code) pc_is ∙ first.1 in
      let some = some_size m h.function 0 (made_at h.function.code 0) first.0
      ((proper.functions h.init h.function h.found).each 0 first.0 first.1) in
      let base : base_of m.functions h.init ≡ 0 + place (context m p.frame.function h.function) p.frame.pc =
      (let q : base_of m.functions h.init ≡ 0 + place (context m h.init h.function) 0 = omega arith in q)
      ∙ ap (λ n. 0 + place (context m n h.function) 0) (sym function_is)
      ∙ ap (λ n. 0 + place (context m p.frame.function h.function) n) (sym pc_is) in
      ap (λ b. found_in m.functions ((if b then init_place m (init_of m)
      else next_place (paces.place m r) (target_of (slice_get (object_of m).insts r.frame.pc) r.below) r.frame.pc) - entry_size
      m.functions))
      (less r.frame.pc (entry_size m.functions) (omega (arith, three, here, l)))
      ∙ ap (λ o. found_in m.functions (init_place m o - entry_size m.functions)) h.is_init
      ∙ found_at h.function first.0 0 (base_of m.functions h.init) found at some base

  -- In front of the last return.
  ending : (h : Running m k p r 1 []) → p.below ≡ [] → (i : Inst) → h.frame.inst ≡ i → IsReturn m i → Tells
  ending h last i e is =
      let stack = subst (λ gs. StackStands m h.frame.function r.frame gs r.below) last h.stack in
      let none = none_there m h.frame.function r.frame r.below stack in by i e is none
    where
      by : (i : Inst) → h.frame.inst ≡ i → IsReturn m i → r.below ≡ [] → Tells
      by (Return value) e is none =
          let code = (coded_as h.frame (Return value) e).code in
          by_rank 0 h.frame (longer h.frame.inst _ 1 e (omega arith)) return_inst
          (next 0 (place (D h.frame) p.frame.pc) _ _ (omega arith) code.1.0) 3 (ap paces.last_rank none)
      by Leave e is none =
          let code = (coded_as h.frame Leave e).code in
          by_rank 0 h.frame (longer h.frame.inst _ 1 e (omega arith)) return_inst
          (next 0 (place (D h.frame) p.frame.pc) _ _ (omega arith) code.1.0) 3 (ap paces.last_rank none)
      by i e is none = absurd is

  -- At its begin, wherever the machine's process is.
  row_begin : {r' : Process} {made : List Frame} (h : Running m k p r' 0 made) (at : ℕ) → at ≡ r'.frame.pc
      → found_in m.functions (at - entry_size m.functions) ≡ record { function = p.frame.function; pc = p.frame.pc }
  row_begin h at e =
      found_at h.frame.function h.frame.inst 0 at h.frame.found h.frame.there
      (some_size m h.frame.function p.frame.pc (made_at h.frame.function.code p.frame.pc) h.frame.inst
      ((proper.functions p.frame.function h.frame.function h.frame.found).each p.frame.pc h.frame.inst h.frame.there)) (e ∙ h.frame.here)

  pub tells : Ready m k p r → Tells
  tells (stands.enters h) = entering 0 h (omega arith)
  tells (stands.loads l h) = entering 1 h (omega arith)
  tells (stands.leaves l h a) = entering 2 h (omega arith)
  tells (stands.begins h) =
      stays 0 h.frame
      (some_size m h.frame.function p.frame.pc (made_at h.frame.function.code p.frame.pc) h.frame.inst
      ((proper.functions p.frame.function h.frame.function h.frame.found).each p.frame.pc h.frame.inst h.frame.there)) 2
      (begin_place m proper k p r h)
  tells (stands.denies h d) = denied h.frame _ h.frame.inst refl d
  tells (stands.affirms h d) = affirmed h.frame _ h.frame.inst refl d
  tells (stands.passes h z d there) = passing h.frame z h.frame.inst refl d
  tells (stands.jumps_on pc at far h) =
      goes_on far.behind far.place pc (ap (λ o. target_of o r.below) at) (row_begin h pc refl)
  tells (stands.framed n h has) =
      let c = call_code h in
      by_rank 0 h.making.running.frame (longer _ _ 1 h.is (omega arith)) _
      (next 0 (place (D h.making.running.frame) p.frame.pc) _ _ (omega arith) c.2.1.0) _ refl
  tells (stands.passed n h has) =
      let c = call_code h in
      by_rank 1 h.making.running.frame (longer _ _ 2 h.is (omega arith)) _
      (next 1 (place (D h.making.running.frame) p.frame.pc) _ _ (omega arith) c.2.1.1.0) _ refl
  tells (stands.addressed n h has answers) =
      let c = call_code h in
      by_rank 2 h.making.running.frame (longer _ _ 3 h.is (omega arith)) _
      (next 2 (place (D h.making.running.frame) p.frame.pc) _ _ (omega arith) c.2.1.1.1.0) _ refl
  tells (stands.prints n h blank) =
      let c = print_code h in
      by_rank 0 h.making.running.frame (longer _ _ 1 h.is (omega arith)) _
      (next 0 (place (D h.making.running.frame) p.frame.pc) _ _ (omega arith) c.1.1.0) _ refl
  tells (stands.formatted n h format) =
      let c = print_code h in
      by_rank 1 h.making.running.frame (longer _ _ 2 h.is (omega arith)) _
      (next 1 (place (D h.making.running.frame) p.frame.pc) _ _ (omega arith) c.1.1.1.0) _ refl
  tells (stands.printed n h format has) =
      let c = print_code h in
      by_rank 2 h.making.running.frame (longer _ _ 3 h.is (omega arith)) _
      (next 2 (place (D h.making.running.frame) p.frame.pc) _ _ (omega arith) c.1.1.1.1.0) _ refl
  tells (stands.answering n h format has answers) =
      let c = print_code h in
      by_rank 3 h.making.running.frame (longer _ _ 4 h.is (omega arith)) _
      (next 3 (place (D h.making.running.frame) p.frame.pc) _ _ (omega arith) c.1.1.1.1.1.0) _ refl
  tells (stands.goes_back f fs below at far instance h) =
      goes_on far.behind far.place f.pc (ap (λ o. target_of o r.below) at ∙ ap below_place below) (row_begin h f.pc refl)
  tells (stands.ends h is last) = ending h last h.frame.inst refl is
