-- Operations that are one instruction of the machine.
use Rattle.std.proofs.Common.{◌≡◌, ℕ, zero, suc, ◌+◌, ◌-◌, ◌<◌, ◌≤◌, ℤ, pos, negsuc, ◌+ℤ◌, ◌-ℤ◌, neg_ℤ, ◌%◌, List, [], ◌∷◌, Some, Result}
use Rattle.std.proofs.Common.{Ok, Err, refl, sym, ap, ◌∙◌, subst, arith}
use Rattle.std.specs.Prelude.{slice_get, IfOk}
use Rattle.std.proofs.lemmas.Int.{ints}
use Rattle.process_model.specs.Process.{Ends}
use Rattle.dis_isa.specs.declared.inst.Inst as code_inst
use Rattle.dis_isa.specs.declared.inst.Operand as isa
use Rattle.dis_isa.specs.declared.inst.Middle.{Middle}
use Rattle.dis_isa.specs.declared.inst.Middle.TheVariants as middle
use Rattle.limbo_values.specs.declared.number.Kind.{Kind}
use Rattle.limbo_values.specs.declared.number.Kind.TheVariants.{Byte, Int, Big}
use Rattle.limbo_values.specs.declared.operator.Operator.{Operator}
use Rattle.limbo_values.specs.declared.operator.Operator.TheVariants as operator
use Rattle.limbo_values.specs.declared.operator.Shift.{Shift}
use Rattle.limbo_values.specs.declared.operator.Unary.{Unary}
use Rattle.limbo_values.specs.declared.operator.Unary.TheVariants as unary
use Rattle.limbo_values.specs.declared.raised.Raised.{Raised}
use Rattle.limbo_values.specs.Numbers.{InRange, wrapped}
use Rattle.limbo_values.specs.Operators.{text_of, applied, shifted, altered}
use Rattle.limbo_values.proofs.Ranges.{applied_in, shifted_in, altered_in}
use Rattle.limbo_typed.specs.declared.operation.Operation.{Operation}
use Rattle.limbo_typed.specs.declared.operation.Operation.TheVariants as operation
use Rattle.system_model.specs.Values.{Num}
use Rattle.system_model.specs.Ending.{Broken}
use Rattle.system_model.specs.Limits.{frames_limit}
use Rattle.typed_meaning.specs.Values.{result_of, as_value}
use Rattle.typed_meaning.specs.World as program
use Rattle.slot_code.specs.Code.{Spot, Temporary, Operand, In, Inst, Alter, Operate, Function, Module}
use Rattle.slot_code.specs.Machine as machine
use Rattle.slot_code.specs.Machine.{value_of}
use Rattle.slot_code.specs.Step as slot_step
use Rattle.dis_meaning.specs.Words.{Found, Raises, ◌>>=◌, type_check, dead_address, bad_jump, or_wrong}
use Rattle.dis_meaning.specs.Numbers.{immediate_as}
use Rattle.dis_meaning.specs.World.{World}
use Rattle.dis_meaning.specs.Process as dis
use Rattle.dis_meaning.specs.Process.{Frame, Process}
use Rattle.dis_meaning.specs.Places as places
use Rattle.dis_meaning.specs.Places.{Memory, read_number, source_of, given_of, middle_of, spot, store_number}
use Rattle.dis_meaning.specs.Step as dis_step
use Rattle.dis_meaning.specs.Step.{next, results}
use Rattle.dis_objects.specs.Frames.{Callee, made_at, count}
use Rattle.dis_objects.specs.Code as objects
use Rattle.dis_objects.specs.Code.{Context, spot_kind, place, place_of, source, moving, inst, arithmetic_op, shift_op, size, source_data}
use Rattle.dis_objects.specs.Code.{middle_data, data_bytes}
use Rattle.dis_objects.specs.Objects.{context, object_of}
use Rattle.dis_objects.specs.Proper.{IsProper, ProperInst, IsWritten, IsTaken, GoesOn}
use Rattle.dis_follows.specs.Stands.{Known, HasData, Running, WorldStands}
use Rattle.dis_follows.proofs.Lookups.{Coded, data_front, data_back}
use Rattle.dis_follows.proofs.Runs.{other_step, as_known}
use Rattle.dis_follows.proofs.Operands.{Taken, Middled, taken, middled}
use Rattle.dis_follows.proofs.Obeys.{calculates, calculates_raises, shifts, shifts_raise}
use Rattle.dis_follows.proofs.Advances.{at_once}
use Rattle.dis_follows.proofs.Simple as simple
use Rattle.dis_follows.proofs.Simple.{Goal, coded_at, proper_at, at_place, few_into, few_of, put_by, moved}

-- ---- the middle

pub middle_given : (k : Kind) (x : World) (r : Process) (mid : Middle) (d : isa.Operand) (z : ℤ) → given_of k x r mid ≡ Found z
    → middle_of k x r mid d ≡ Found z
middle_given k x r (middle.Imm n) d z e = e
middle_given k x r (middle.Fp n) d z e = e
middle_given k x r (middle.Mp n) d z e = e
middle_given k x r middle.None d z e = absurd cc

-- ---- an exception

pub step_raises : (m : Module) (k : Known) (w : program.World) (x : World) (r : Process) (i : code_inst.Inst) (text : List ℕ)
    → WorldStands m k w x → r.frame.instance ≡ 0 → slice_get (object_of m).insts r.frame.pc ≡ Some i
    → dis_step.obey frames_limit (object_of m) x r i i.op ≡ Raises text → dis_step.step frames_limit (object_of m ∷ []) x r
    ≡ Ends x (Broken text)
step_raises m k w x r i text ws z at h =
    ap (λ n. dis.or_fault x r (or_wrong dead_address (slice_get x.blocks n) >>= dis_step.object_of
    >>= (λ n. or_wrong type_check (slice_get (object_of m ∷ []) n)) >>= λ o. dis_step.work frames_limit o x r)) z
    ∙ ap (λ bs. dis.or_fault x r (or_wrong dead_address (slice_get bs 0) >>= dis_step.object_of
    >>= (λ n. or_wrong type_check (slice_get (object_of m ∷ []) n)) >>= λ o. dis_step.work frames_limit o x r)) ws.blocks
    ∙ ap (λ o. dis.or_fault x r (or_wrong bad_jump o >>= λ i. dis_step.obey frames_limit (object_of m) x r i i.op)) at
    ∙ ap (dis.or_fault x r) h

-- ---- one operand beside a constant

minus_is : (k : Kind) (a : ℤ) → applied k operator.Subtract (immediate_as k (pos 0)) a ≡ Ok (altered k unary.Minus a)
minus_is Byte a = let e : pos 0 -ℤ a ≡ neg_ℤ a = omega (arith, ints) in ap (λ z. Ok (wrapped Byte z)) e
minus_is Int a = let e : pos 0 -ℤ a ≡ neg_ℤ a = omega (arith, ints) in ap (λ z. Ok (wrapped Int z)) e
minus_is Big a = let e : pos 0 -ℤ a ≡ neg_ℤ a = omega (arith, ints) in ap (λ z. Ok (wrapped Big z)) e

plus_is : (k : Kind) (a : ℤ) → applied k operator.Add (immediate_as k (pos 1)) a ≡ Ok (altered k unary.Increment a)
plus_is Byte a = let e : pos 1 +ℤ a ≡ a +ℤ pos 1 = omega (arith, ints) in ap (λ z. Ok (wrapped Byte z)) e
plus_is Int a = let e : pos 1 +ℤ a ≡ a +ℤ pos 1 = omega (arith, ints) in ap (λ z. Ok (wrapped Int z)) e
plus_is Big a = let e : pos 1 +ℤ a ≡ a +ℤ pos 1 = omega (arith, ints) in ap (λ z. Ok (wrapped Big z)) e

byte_complement : (a : ℤ) → InRange Byte a → wrapped Byte (pos 255 -ℤ a) ≡ wrapped Byte (negsuc 0 -ℤ a)
byte_complement (pos n) r =
    let below = r.below in
    let few : n ≤ 255 = omega (arith, ints, below) in
    let e : pos 255 -ℤ pos n ≡ pos (255 - n) = omega (arith, ints, few) in
    let f : negsuc 0 -ℤ pos n ≡ negsuc n = omega (arith, ints) in
    let g : (255 - n) % 256 ≡ 255 - n % 256 = omega (arith, few) in
    ap (wrapped Byte) e ∙ ap pos g ∙ sym (ap (wrapped Byte) f)
byte_complement (negsuc n) r = let above = r.above in absurd (omega (arith, ints, above))

byte_decrement : (a : ℤ) → InRange Byte a → wrapped Byte (pos 255 +ℤ a) ≡ wrapped Byte (a -ℤ pos 1)
byte_decrement (pos zero) r = refl
byte_decrement (pos (suc n)) r =
    let below = r.below in
    let few : suc n ≤ 255 = omega (arith, ints, below) in
    let e : pos 255 +ℤ pos (suc n) ≡ pos (256 + n) = omega (arith, ints) in
    let f : pos (suc n) -ℤ pos 1 ≡ pos n = omega (arith, ints) in
    let g : (256 + n) % 256 ≡ n % 256 = omega arith in
    ap (wrapped Byte) e ∙ ap pos g ∙ sym (ap (wrapped Byte) f)
byte_decrement (negsuc n) r = let above = r.above in absurd (omega (arith, ints, above))

complement_is : (k : Kind) (a : ℤ) → InRange k a → applied k operator.Subtract (immediate_as k (negsuc 0)) a
    ≡ Ok (altered k unary.Complement a)
complement_is Byte a r = ap Ok (byte_complement a r)
complement_is Int a r = refl
complement_is Big a r = refl

decrement_is : (k : Kind) (a : ℤ) → InRange k a → applied k operator.Add (immediate_as k (negsuc 0)) a ≡ Ok (altered k unary.Decrement a)
decrement_is Byte a r = ap Ok (byte_decrement a r)
decrement_is Int a r = let e : negsuc 0 +ℤ a ≡ a -ℤ pos 1 = omega (arith, ints) in ap (λ z. Ok (wrapped Int z)) e
decrement_is Big a r = let e : negsuc 0 +ℤ a ≡ a -ℤ pos 1 = omega (arith, ints) in ap (λ z. Ok (wrapped Big z)) e

-- ---- the rows

module _ (m : Module) (proper : IsProper m) (pl : Process → ℕ) (k : Known) (number : ℕ) (w : program.World) (x : World)
    (ws : WorldStands m k w x) (p : machine.Process) (r : Process) (h : Running m k p r 0 []) where
  abbrev F : Function
  F = h.frame.function

  abbrev C : Context
  C = context m p.frame.function F

  abbrev CS : List Callee
  CS = made_at F.code p.frame.pc

  abbrev G : dis.Does → Type 0
  G e = Goal m proper pl k number w x ws p r h e

  abbrev N : Spot → places.Spot
  N into = simple.N m proper pl k number w x ws p r h into

  -- It ends the process.
  pub breaks : (text : List ℕ) → slot_step.step frames_limit m.functions w p ≡ Ends w (Broken text)
      → dis_step.step frames_limit (object_of m ∷ []) x r ≡ Ends x (Broken text) → G (dis_step.step frames_limit (object_of m ∷ []) x r)
  breaks text does steps =
      subst G (sym steps) (record {
        now = k;
        changes = as_known k;
        world = w;
        comes = at_once m pl k number x w p (pl r) (Ends w (Broken text)) does;
        worlds = ws;
      })

  -- Where the result would go a number of its kind stands.
  pub old_there : (j : Kind) (into : Spot) → spot_kind into ≡ j → IsWritten m F CS into → simple.Few m proper pl k number w x ws p r h into
      → (z : ℤ) × (read_number j x r (N into) ≡ Found z)
  old_there j into kind written few =
      let v = simple.held_there m proper pl k number w x ws p r h into written few in
      (v.0, subst (λ j. read_number j x r (N into) ≡ Found v.0) kind v.1)

  -- Two operands of an operation, which gives a number or raises an exception.
  pub combines : (o : Operation) (into : Spot) (left right : Operand) → h.frame.inst ≡ Operate o into left right
      → size (Operate o into left right) ≡ 1
      → (j : Kind) → spot_kind into ≡ j → IsWritten m F CS into → GoesOn m F CS (suc p.frame.pc) → (a b : ℤ)
      → value_of w p.frame left ≡ Num a → value_of w p.frame right ≡ Num b → (result : Result ℤ Raised) → IfOk result (InRange j)
      → result_of o (Num a ∷ Num b ∷ []) ≡ as_value result → (c : code_inst.Inst)
      → slice_get (object_of m).insts (place C p.frame.pc) ≡ Some c
      → ((does : dis.Does) → results j x r (N into) result ≡ Found does → dis_step.obey frames_limit (object_of m) x r c c.op ≡ Found does)
      → ((text : List ℕ) → results j x r (N into) result ≡ Raises text → dis_step.obey frames_limit (object_of m) x r c c.op ≡ Raises text)
      → G (dis_step.step frames_limit (object_of m ∷ []) x r)
  combines o into left right e one j kind written on a b va vb (Ok z) range is c there obeys raises =
      put_by m proper pl k number w x ws p r h (Operate o into left right) e one j into kind z range written
      (few_into m proper pl k number w x ws p r h (Operate o into left right) e into (λ i. omega arith)) on
      (ap (λ u. slot_step.gives w p into (result_of o (u ∷ value_of w p.frame right ∷ []))) va
      ∙ ap (λ v. slot_step.gives w p into (result_of o (Num a ∷ v ∷ []))) vb ∙ ap (slot_step.gives w p into) is) c
      (at_place m proper pl k number w x ws p r h c there)
      (λ after q. obeys (next after) (ap (λ s. s >>= λ m. Found (next m)) q))
  combines o into left right e one j kind written on a b va vb (Err raised) range is c there obeys raises =
      let old = old_there j into kind written (few_into m proper pl k number w x ws p r h (Operate o into left right) e into
      (λ i. omega arith)) in
      breaks (text_of raised)
      (other_step m proper k w x ws p r 0 [] h ∙ ap (slot_step.obey frames_limit m.functions w p) e
      ∙ ap (λ u. slot_step.gives w p into (result_of o (u ∷ value_of w p.frame right ∷ []))) va
      ∙ ap (λ v. slot_step.gives w p into (result_of o (Num a ∷ v ∷ []))) vb ∙ ap (slot_step.gives w p into) is)
      (step_raises m k w x r c (text_of raised) ws h.frame.instance (at_place m proper pl k number w x ws p r h c there)
      (raises (text_of raised) (ap (λ s. s >>= λ old. Raises (text_of raised)) old.1)))

  abbrev taken_at : (j : Kind) (o : Operand) (at : ℕ) → IsTaken m F j o → ((i : Kind) (n : ℕ) → o ≡ In (Temporary i n) → n < count i F.code)
      → HasData m ws.words at (source_data j o) → Taken m k w x ws p.frame r F CS h.frame.has h.frame.instance h.frame.first j o at
  taken_at j o at t few d = taken m k w x ws p.frame r F CS h.frame.has h.frame.instance h.frame.first j o at t few d

  abbrev middled_at : (j : Kind) (o : Operand) (at : ℕ) → IsTaken m F j o
      → ((i : Kind) (n : ℕ) → o ≡ In (Temporary i n) → n < count i F.code)
      → HasData m ws.words at (middle_data j o) → Middled m k w x ws p.frame r F CS h.frame.has h.frame.instance h.frame.first j o at
  middled_at j o at t few d = middled m k w x ws p.frame r F CS h.frame.has h.frame.instance h.frame.first j o at t few d

  pub arithmetic_goes : (o : Operator) (j : Kind) (into : Spot) (left right : Operand)
      → h.frame.inst ≡ Operate (operation.Arithmetic o j) into left right → G (dis_step.step frames_limit (object_of m ∷ []) x r)
  arithmetic_goes o j into left right e =
      let i = Operate (operation.Arithmetic o j) into left right in
      let c = coded_at m proper pl k number w x ws p r h i e in
      let q = proper_at m proper pl k number w x ws p r h i e in
      let sd = source_data j right in
      let b = taken_at j right c.at q.4 (few_of m proper pl k number w x ws p r h i e right (λ i. omega arith))
      (data_front m ws.words c.at sd (middle_data j left) c.constants) in
      let a = middled_at j left (c.at + data_bytes sd) q.3 (few_of m proper pl k number w x ws p r h i e left (λ i. omega arith))
      (data_back m ws.words c.at sd (middle_data j left) c.constants) in
      let S = source C right c.at in
      let M = objects.middle_of C left (c.at + data_bytes sd) in
      let D = place_of C CS into in
      combines (operation.Arithmetic o j) into left right e refl j q.2 q.1 q.7 a.number b.number a.is b.is (applied j o a.number b.number)
      (applied_in j o a.number b.number) refl (inst (arithmetic_op o j) S M D) c.code.0
      (λ does z. calculates frames_limit (object_of m) x r o j S D M a.number b.number (N into) does b.reads
      (middle_given j x r M D a.number a.reads) (simple.spot_at m proper pl k number w x ws p r h into) z)
      (λ text z. calculates_raises frames_limit (object_of m) x r o j S D M a.number b.number (N into) text b.reads
      (middle_given j x r M D a.number a.reads) (simple.spot_at m proper pl k number w x ws p r h into) z)

  pub shift_goes : (s : Shift) (j : Kind) (into : Spot) (left right : Operand)
      → h.frame.inst ≡ Operate (operation.Shift s j) into left right → G (dis_step.step frames_limit (object_of m ∷ []) x r)
  shift_goes s j into left right e =
      let i = Operate (operation.Shift s j) into left right in
      let c = coded_at m proper pl k number w x ws p r h i e in
      let q = proper_at m proper pl k number w x ws p r h i e in
      let sd = source_data Int right in
      let b = taken_at Int right c.at q.4 (few_of m proper pl k number w x ws p r h i e right (λ i. omega arith))
      (data_front m ws.words c.at sd (middle_data j left) c.constants) in
      let a = middled_at j left (c.at + data_bytes sd) q.3 (few_of m proper pl k number w x ws p r h i e left (λ i. omega arith))
      (data_back m ws.words c.at sd (middle_data j left) c.constants) in
      let S = source C right c.at in
      let M = objects.middle_of C left (c.at + data_bytes sd) in
      let D = place_of C CS into in
      combines (operation.Shift s j) into left right e refl j q.2 q.1 q.7 a.number b.number a.is b.is (Ok (shifted j s a.number b.number))
      (shifted_in j s a.number b.number a.range) refl (inst (shift_op s j) S M D) c.code.0
      (λ does z. shifts frames_limit (object_of m) x r s j S D M a.number b.number (N into) does b.reads
      (middle_given j x r M D a.number a.reads) (simple.spot_at m proper pl k number w x ws p r h into) z)
      (λ text z. shifts_raise frames_limit (object_of m) x r s j S D M a.number b.number (N into) text b.reads
      (middle_given j x r M D a.number a.reads) (simple.spot_at m proper pl k number w x ws p r h into) z)

  -- One operand beside a constant.
  pub alters : (i : Inst) → h.frame.inst ≡ i → (u : Unary) (j : Kind) (into : Spot) (o : Operand) → i ≡ Alter (operation.Alter u j) into o
      → G (dis_step.step frames_limit (object_of m ∷ []) x r)
  alters i e u j into o same =
      let e' = e ∙ same in
      let I = Alter (operation.Alter u j) into o in
      let c = coded_at m proper pl k number w x ws p r h I e' in
      let q = proper_at m proper pl k number w x ws p r h I e' in
      let a = taken_at j o c.at q.3 (few_of m proper pl k number w x ws p r h I e' o (λ i. omega arith)) c.constants in
      go u e' c q a
    where
      S : ℕ → isa.Operand
      S at = source C o at

      D : isa.Operand
      D = place_of C CS into

      -- The machine takes the constant for its middle.
      by_constant : (u : Unary) (e' : h.frame.inst ≡ Alter (operation.Alter u j) into o) (at : ℕ) (n : Operator) (z : ℤ)
          → IsWritten m F CS into → spot_kind into ≡ j → GoesOn m F CS (suc p.frame.pc)
          → (a : Taken m k w x ws p.frame r F CS h.frame.has h.frame.instance h.frame.first j o at)
          → applied j n (immediate_as j z) a.number ≡ Ok (altered j u a.number)
          → slice_get (object_of m).insts (place C p.frame.pc) ≡ Some (inst (arithmetic_op n j) (S at) (middle.Imm z) D)
          → G (dis_step.step frames_limit (object_of m ∷ []) x r)
      by_constant u e' at n z written kind on a is there =
          put_by m proper pl k number w x ws p r h (Alter (operation.Alter u j) into o) e' refl j into kind (altered j u a.number)
          (altered_in j u a.number a.range) written
          (few_into m proper pl k number w x ws p r h (Alter (operation.Alter u j) into o) e' into (λ i. omega arith)) on
          (ap (λ v. slot_step.gives w p into (result_of (operation.Alter u j) (v ∷ []))) a.is)
          (inst (arithmetic_op n j) (S at) (middle.Imm z) D) (at_place m proper pl k number w x ws p r h _ there)
          (λ after t. calculates frames_limit (object_of m) x r n j (S at) D (middle.Imm z) (immediate_as j z) a.number (N into)
          (next after)
          a.reads refl (simple.spot_at m proper pl k number w x ws p r h into)
          (ap (results j x r (N into)) is ∙ ap (λ s. s >>= λ m. Found (next m)) t))

      go : (u : Unary) (e' : h.frame.inst ≡ Alter (operation.Alter u j) into o)
          → (c : Coded m ws.words C (object_of m).insts (place C p.frame.pc) p.frame.pc CS (Alter (operation.Alter u j) into o))
          → ProperInst m F CS p.frame.pc (Alter (operation.Alter u j) into o)
          → Taken m k w x ws p.frame r F CS h.frame.has h.frame.instance h.frame.first j o c.at
          → G (dis_step.step frames_limit (object_of m ∷ []) x r)
      go unary.Plus e' c q a =
          moved m proper pl k number w x ws p r h (Alter (operation.Alter unary.Plus j) into o) e' refl j into q.2 o c.at a q.1
          (few_into m proper pl k number w x ws p r h (Alter (operation.Alter unary.Plus j) into o) e' into (λ i. omega arith)) q.5
          (ap (λ v. slot_step.gives w p into (result_of (operation.Alter unary.Plus j) (v ∷ []))) a.is
          ∙ ap (machine.next w p into) (sym a.is))
          (at_place m proper pl k number w x ws p r h _ c.code.0)
      go unary.Minus e' c q a = by_constant unary.Minus e' c.at operator.Subtract (pos 0) q.1 q.2 q.5 a (minus_is j a.number) c.code.0
      go unary.Complement e' c q a =
          by_constant unary.Complement e' c.at operator.Subtract (negsuc 0) q.1 q.2 q.5 a (complement_is j a.number a.range) c.code.0
      go unary.Increment e' c q a = by_constant unary.Increment e' c.at operator.Add (pos 1) q.1 q.2 q.5 a (plus_is j a.number) c.code.0
      go unary.Decrement e' c q a =
          by_constant unary.Decrement e' c.at operator.Add (negsuc 0) q.1 q.2 q.5 a (decrement_is j a.number a.range) c.code.0
