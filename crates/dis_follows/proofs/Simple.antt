-- Instructions that are one of the machine's: a number goes to a place, or control goes elsewhere.
use Rattle.std.proofs.Common.{◌≡◌, ℕ, suc, ◌+◌, ◌<◌, ◌≤◌, ℤ, pos, true, List, [], ◌∷◌, Some, refl, sym, ap, ◌∙◌, subst, arith}
use Rattle.std.proofs.Common.{if◌then◌else◌}
use Rattle.std.specs.Prelude.{slice_get}
use Rattle.process_model.specs.Process.{Went}
use Rattle.process_model.specs.Follows.{Matches}
use Rattle.dis_isa.specs.declared.inst.Inst as code_inst
use Rattle.limbo_values.specs.declared.number.Kind.{Kind}
use Rattle.limbo_values.specs.declared.number.Kind.TheVariants.{Byte, Int, Big}
use Rattle.limbo_values.specs.Numbers.{InRange}
use Rattle.system_model.specs.Values.{Value, Num}
use Rattle.system_model.specs.Limits.{frames_limit}
use Rattle.typed_meaning.specs.World as program
use Rattle.slot_code.specs.Code.{Spot, Variable, Global, Temporary, Argument, Operand, In, Inst, Move, Hand, Function, Module}
use Rattle.slot_code.specs.Machine as machine
use Rattle.slot_code.specs.Machine.{same_kind}
use Rattle.slot_code.specs.Step as slot_step
use Rattle.dis_meaning.specs.Words.{Word, Found}
use Rattle.dis_meaning.specs.World.{World}
use Rattle.dis_meaning.specs.Process as dis
use Rattle.dis_meaning.specs.Process.{Frame, Process, at_pc, with_frames}
use Rattle.dis_meaning.specs.Numbers.{with_number_at}
use Rattle.dis_meaning.specs.Places as places
use Rattle.dis_meaning.specs.Places.{Memory, read_number, source_of, spot, store, store_number}
use Rattle.dis_meaning.specs.Step as dis_step
use Rattle.dis_meaning.specs.Step.{next, jumps, target}
use Rattle.dis_objects.specs.Frames.{Callee, made_at, count, inst_count, spot_count, operand_count}
use Rattle.dis_objects.specs.Code.{Context, spot_kind, global_place, place, place_of, source, moving, size, source_data}
use Rattle.dis_objects.specs.Objects.{context, object_of}
use Rattle.dis_objects.specs.Proper.{IsProper, ProperInst, IsWritten, IsTaken, GoesOn}
use Rattle.dis_follows.specs.Numbers.{Holds}
use Rattle.dis_follows.specs.Stands.{Known, HasData, Running, begins, WorldStands, sides}
use Rattle.dis_follows.proofs.Lookups.{Coded}
use Rattle.dis_follows.proofs.Runs.{step_is, place_on, is_coded, is_proper, blocks_fit, counted, other_step}
use Rattle.dis_follows.proofs.Written.{Stored, stored_as, store_at, store_word}
use Rattle.dis_follows.proofs.Operands.{Taken, taken, at_data}
use Rattle.dis_follows.proofs.Puts.{FewFits, remembered, named, words_of, bytes_of, spot_is, number_stored, word_stored, held, put_there}
use Rattle.dis_follows.proofs.Obeys.{plain_source, moves_int, moves_byte, moves_big}
use Rattle.dis_follows.proofs.Advances.{at_slot, at_word, advanced, steps_once}

-- ---- temporaries within the room

same_itself : (k : Kind) → same_kind k k ≡ true
same_itself Byte = refl
same_itself Int = refl
same_itself Big = refl

pub spot_counted : (k : Kind) (n : ℕ) (s : Spot) → s ≡ Temporary k n → n < spot_count k s
spot_counted k n s e =
    subst (λ s. n < spot_count k s) (sym e) (subst (λ b. n < (if b then suc n else 0)) (sym (same_itself k)) (omega arith))

pub operand_counted : (k : Kind) (n : ℕ) (o : Operand) → o ≡ In (Temporary k n) → n < operand_count k o
operand_counted k n o e = subst (λ o. n < operand_count k o) (sym e) (spot_counted k n (Temporary k n) refl)

module _ (m : Module) (proper : IsProper m) (pl : Process → ℕ) (k : Known) (number : ℕ) (w : program.World) (x : World)
    (ws : WorldStands m k w x) (p : machine.Process) (r : Process) (h : Running m k p r 0 []) where
  abbrev pub Goal : dis.Does → Type 0
  Goal e = Matches (sides m) pl (pl r) k number w x p e

  abbrev F : Function
  F = h.frame.function

  abbrev C : Context
  C = context m p.frame.function F

  abbrev CS : List Callee
  CS = made_at F.code p.frame.pc

  here : r.frame.pc ≡ place C p.frame.pc
  here = h.frame.here ∙ omega arith

  -- ---- a number goes to a place

  abbrev M : Spot → List Word → Memory
  M into after =
      remembered m k w x ws p.frame r F CS h.frame.has (blocks_fit m proper k w x ws p r 0 [] h) h.frame.instance h.frame.first into after

  next_is : (into : Spot) (after : List Word)
      → next (M into after) ≡ Went (M into after).world (at_word m k p r 0 [] h (M into after).process.frame.words (suc r.frame.pc))
  next_is (Variable j y) after = refl
  next_is (Global j y) after = refl
  next_is (Temporary j n) after = refl
  next_is (Argument j i) after = refl

  -- The place is at the next instruction.
  pub behind : (i : Inst) → h.frame.inst ≡ i → size i ≡ 1 → suc r.frame.pc ≡ 0 + place C (suc p.frame.pc)
  behind i e one =
      let on = place_on C p.frame.pc h.frame.inst h.frame.there in
      let its : size h.frame.inst ≡ 1 = ap size e ∙ one in
      omega (arith, here, on, its)

  pub stores : (i : Inst) → h.frame.inst ≡ i → size i ≡ 1 → (into : Spot) (z : ℤ) → IsWritten m F CS into
      → FewFits m k w x ws p.frame r F CS h.frame.has (blocks_fit m proper k w x ws p r 0 [] h) h.frame.instance h.frame.first into
      → InRange (spot_kind into) z → GoesOn m F CS (suc p.frame.pc)
      → (t : Stored (spot_kind into)
      (words_of m k w x ws p.frame r F CS h.frame.has (blocks_fit m proper k w x ws p r 0 [] h) h.frame.instance h.frame.first into)
      (bytes_of m k w x ws p.frame r F CS h.frame.has (blocks_fit m proper k w x ws p r 0 [] h) h.frame.instance h.frame.first into) z)
      → slot_step.obey frames_limit m.functions w p i ≡ machine.next w p into (Num z)
      → dis_step.step frames_limit (object_of m ∷ []) x r ≡ next (M into t.after) → Goal (dis_step.step frames_limit (object_of m ∷ []) x r)
  stores i e one into z written few range on t does steps =
      let put = put_there m k w x ws p.frame r F CS h.frame.has (blocks_fit m proper k w x ws p r 0 [] h) h.frame.instance h.frame.first
      into z
      written few range t in
      let g = (machine.stored w p.frame into (Num z)).frame in
      let words = (M into t.after).process.frame.words in
      let run = advanced m k p r 0 [] h g words (suc p.frame.pc) 0 CS (function_same into) (instance_same into) on put.numbers put.linkage
      in
      let run' = subst (λ n. Running m k (at_slot m k p r 0 [] h g (suc p.frame.pc)) (at_word m k p r 0 [] h words n) 0 [])
      (sym (behind i e one)) run in
      subst Goal (sym (steps ∙ next_is into t.after))
      (steps_once m pl k number x w p (pl r) _ _ (M into t.after).world _
      (other_step m proper k w x ws p r 0 [] h ∙ ap (slot_step.obey frames_limit m.functions w p) e ∙ does) (begins run') put.worlds)
    where
      function_same : (into : Spot) → (machine.stored w p.frame into (Num z)).frame.function ≡ p.frame.function
      function_same (Variable j y) = refl
      function_same (Global j y) = refl
      function_same (Temporary j n) = refl
      function_same (Argument j n) = refl

      instance_same : (into : Spot) → (machine.stored w p.frame into (Num z)).frame.instance ≡ p.frame.instance
      instance_same (Variable j y) = refl
      instance_same (Global j y) = refl
      instance_same (Temporary j n) = refl
      instance_same (Argument j n) = refl

  -- ---- what is at the process

  pub coded_at : (i : Inst) → h.frame.inst ≡ i → Coded m ws.words C (object_of m).insts (place C p.frame.pc) p.frame.pc CS i
  coded_at i e = subst (Coded m ws.words C (object_of m).insts (place C p.frame.pc) p.frame.pc CS) e (is_coded m proper k w x ws p r 0 [] h)

  pub proper_at : (i : Inst) → h.frame.inst ≡ i → ProperInst m F CS p.frame.pc i
  proper_at i e = subst (ProperInst m F CS p.frame.pc) e (is_proper m proper k w x ws p r 0 [] h)

  counted_at : (i : Inst) → h.frame.inst ≡ i → (j : Kind) → inst_count j i ≤ count j F.code
  counted_at i e j = subst (λ i. inst_count j i ≤ count j F.code) e (counted m proper k w x ws p r 0 [] h j)

  -- The machine's instruction there.
  pub at_place : (i : code_inst.Inst) → slice_get (object_of m).insts (place C p.frame.pc) ≡ Some i
      → slice_get (object_of m).insts r.frame.pc ≡ Some i
  at_place i e = ap (slice_get (object_of m).insts) here ∙ e

  pub few_into : (i : Inst) → h.frame.inst ≡ i → (into : Spot) → ((j : Kind) → spot_count j into ≤ inst_count j i)
      → FewFits m k w x ws p.frame r F CS h.frame.has (blocks_fit m proper k w x ws p r 0 [] h) h.frame.instance h.frame.first into
  few_into i e into less j n is = let a = spot_counted j n into is in let b = less j in let c = counted_at i e j in omega (arith, a, b, c)

  pub few_of : (i : Inst) → h.frame.inst ≡ i → (o : Operand) → ((j : Kind) → operand_count j o ≤ inst_count j i)
      → (j : Kind) (n : ℕ) → o ≡ In (Temporary j n) → n < count j F.code
  few_of i e o less j n is = let a = operand_counted j n o is in let b = less j in let c = counted_at i e j in omega (arith, a, b, c)

  -- ---- moves

  abbrev W : Spot → List Word
  W into = words_of m k w x ws p.frame r F CS h.frame.has (blocks_fit m proper k w x ws p r 0 [] h) h.frame.instance h.frame.first into

  abbrev B : Spot → ℕ
  B into = bytes_of m k w x ws p.frame r F CS h.frame.has (blocks_fit m proper k w x ws p r 0 [] h) h.frame.instance h.frame.first into

  abbrev pub N : Spot → places.Spot
  N into = named m k w x ws p.frame r F CS h.frame.has (blocks_fit m proper k w x ws p r 0 [] h) h.frame.instance h.frame.first into

  abbrev pub Few : Spot → Type 0
  Few into = FewFits m k w x ws p.frame r F CS h.frame.has (blocks_fit m proper k w x ws p r 0 [] h) h.frame.instance h.frame.first into

  abbrev pub Takes : Kind → Operand → ℕ → Type 0
  Takes j o at = Taken m k w x ws p.frame r F CS h.frame.has h.frame.instance h.frame.first j o at

  pub spot_at : (into : Spot) → spot x r (place_of C CS into) ≡ Found (N into)
  spot_at into = spot_is m k w x ws p.frame r F CS h.frame.has (blocks_fit m proper k w x ws p r 0 [] h) h.frame.instance h.frame.first into

  number_store : (j : Kind) (into : Spot) → spot_kind into ≡ j → (z : ℤ) (after : List Word)
      → with_number_at (spot_kind into) (W into) (pos (B into)) z ≡ Found after → store_number j x r (N into) z ≡ Found (M into after)
  number_store j into kind z after e =
      subst (λ j. store_number j x r (N into) z ≡ Found (M into after)) kind
      (number_stored m k w x ws p.frame r F CS h.frame.has (blocks_fit m proper k w x ws p r 0 [] h) h.frame.instance h.frame.first into z
      after e)

  pub held_there : (into : Spot) → IsWritten m F CS into → Few into → (z : ℤ) × (read_number (spot_kind into) x r (N into) ≡ Found z)
  held_there into written few = go into
      (held m k w x ws p.frame r F CS h.frame.has (blocks_fit m proper k w x ws p r 0 [] h) h.frame.instance h.frame.first into written few)
    where
      go : (into : Spot) → (v : Value) × Holds (spot_kind into) (W into) (B into) v
          → (z : ℤ) × (read_number (spot_kind into) x r (N into) ≡ Found z)
      go (Variable j y) v = (v.1.number, v.1.there)
      go (Temporary j n) v = (v.1.number, v.1.there)
      go (Argument j i) v = (v.1.number, v.1.there)
      go (Global j y) v = (
        v.1.number,
        at_data m k w x ws p.frame r F CS h.frame.has h.frame.instance h.frame.first j
            (global_place m.globals j y) v.1.number v.1.there,
      )

  -- A number goes to its place, by whatever the machine does.
  pub put_by : (i : Inst) → h.frame.inst ≡ i → size i ≡ 1 → (j : Kind) (into : Spot) → spot_kind into ≡ j → (z : ℤ) → InRange j z
      → IsWritten m F CS into → Few into → GoesOn m F CS (suc p.frame.pc)
      → slot_step.obey frames_limit m.functions w p i ≡ machine.next w p into (Num z) → (c : code_inst.Inst)
      → slice_get (object_of m).insts r.frame.pc ≡ Some c
      → ((after : Memory) → store_number j x r (N into) z ≡ Found after → dis_step.obey frames_limit (object_of m) x r c c.op
      ≡ Found (next after))
      → Goal (dis_step.step frames_limit (object_of m ∷ []) x r)
  put_by i e one j into kind z range written few on does c there obeys =
      let v = held m k w x ws p.frame r F CS h.frame.has (blocks_fit m proper k w x ws p r 0 [] h) h.frame.instance h.frame.first into
      written few in
      let range' : InRange (spot_kind into) z = subst (λ j. InRange j z) (sym kind) range in
      let s = store_at (spot_kind into) (W into) (B into) v.0 z v.1 range' in
      stores i e one into z written few range' on s.stored does
      (step_is m k w x r c (next (M into s.stored.after)) ws h.frame.instance there
      (obeys (M into s.stored.after) (number_store j into kind z s.stored.after s.is)))

  pub moved : (i : Inst) → h.frame.inst ≡ i → size i ≡ 1 → (j : Kind) (into : Spot) → spot_kind into ≡ j → (o : Operand) (at : ℕ)
      → Takes j o at → IsWritten m F CS into → Few into → GoesOn m F CS (suc p.frame.pc)
      → slot_step.obey frames_limit m.functions w p i ≡ machine.next w p into (machine.value_of w p.frame o)
      → slice_get (object_of m).insts r.frame.pc ≡ Some (moving j (source C o at) (place_of C CS into))
      → Goal (dis_step.step frames_limit (object_of m ∷ []) x r)
  moved i e one Byte into kind o at t written few on does there =
      put_by i e one Byte into kind t.number t.range written few on (does ∙ ap (machine.next w p into) t.is)
      (moving Byte (source C o at) (place_of C CS into)) there
      (λ after q. moves_byte frames_limit (object_of m) x r (source C o at) (place_of C CS into) t.number (N into) after t.reads
      (spot_at into) q)
  moved i e one Big into kind o at t written few on does there =
      put_by i e one Big into kind t.number t.range written few on (does ∙ ap (machine.next w p into) t.is)
      (moving Big (source C o at) (place_of C CS into)) there
      (λ after q. moves_big frames_limit (object_of m) x r (source C o at) (place_of C CS into) t.number (N into) after t.reads
      (spot_at into) q)
  moved i e one Int into kind o at t written few on does there =
      let v = held m k w x ws p.frame r F CS h.frame.has (blocks_fit m proper k w x ws p r 0 [] h) h.frame.instance h.frame.first into
      written few in
      let q = plain_source frames_limit (object_of m) x r (source C o at) t.number t.reads in
      let s = store_word (W into) (B into) v.0 q.word t.number (subst (λ j. Holds j (W into) (B into) v.0) kind v.1) q.is_plain q.reads in
      stores i e one into t.number written few (subst (λ j. InRange j t.number) (sym kind) t.range) on
      (stored_as Int (spot_kind into) (sym kind) (W into) (B into) t.number s.stored) (does ∙ ap (machine.next w p into) t.is)
      (step_is m k w x r (moving Int (source C o at) (place_of C CS into)) (next (M into s.stored.after)) ws h.frame.instance there
      (moves_int frames_limit (object_of m) x r (source C o at) (place_of C CS into) q.word (N into) (M into s.stored.after) q.is
      (spot_at into)
      (word_stored m k w x ws p.frame r F CS h.frame.has (blocks_fit m proper k w x ws p r 0 [] h) h.frame.instance h.frame.first into
      q.word s.stored.after s.is)))

  -- ---- a move, and a number that is handed on

  moves_on : (i : Inst) → h.frame.inst ≡ i → size i ≡ 1 → (into : Spot) (o : Operand)
      → ((j : Kind) → spot_count j into ≤ inst_count j i) → ((j : Kind) → operand_count j o ≤ inst_count j i)
      → IsWritten m F CS into → IsTaken m F (spot_kind into) o → GoesOn m F CS (suc p.frame.pc)
      → slot_step.obey frames_limit m.functions w p i ≡ machine.next w p into (machine.value_of w p.frame o) → (at : ℕ)
      → slice_get (object_of m).insts (place C p.frame.pc) ≡ Some (moving (spot_kind into) (source C o at) (place_of C CS into))
      → HasData m ws.words at (source_data (spot_kind into) o) → Goal (dis_step.step frames_limit (object_of m ∷ []) x r)
  moves_on i e one into o a b written takes on does at there constants =
      moved i e one (spot_kind into) into refl o at
      (taken m k w x ws p.frame r F CS h.frame.has h.frame.instance h.frame.first (spot_kind into) o at takes (few_of i e o b) constants)
      written (few_into i e into a) on does (at_place _ there)

  pub move_goes : (into : Spot) (o : Operand) → h.frame.inst ≡ Move into o → Goal (dis_step.step frames_limit (object_of m ∷ []) x r)
  move_goes into o e =
      let c = coded_at (Move into o) e in
      let q = proper_at (Move into o) e in
      moves_on (Move into o) e refl into o (λ j. omega arith) (λ j. omega arith) q.0 q.1 q.2 refl c.at c.code.0 c.constants

  pub hand_goes : (into : Spot) (o : Operand) → h.frame.inst ≡ Hand into o → Goal (dis_step.step frames_limit (object_of m ∷ []) x r)
  hand_goes into o e =
      let c = coded_at (Hand into o) e in
      let q = proper_at (Hand into o) e in
      moves_on (Hand into o) e refl into o (λ j. omega arith) (λ j. omega arith) q.0 q.1 q.2 refl c.at c.code.0 c.constants
