-- Within the instructions that one becomes: the last of some stores a number, and others pass control on.
use Rattle.std.proofs.Common.{◌≡◌, ℕ, suc, ◌+◌, ◌<◌, ◌≤◌, ℤ, pos, List, [], ◌∷◌, Some, refl, sym, ap, ◌∙◌, subst, arith}
use Rattle.std.specs.Prelude.{slice_get}
use Rattle.process_model.specs.Process.{Went}
use Rattle.dis_isa.specs.declared.inst.Inst as code_inst
use Rattle.limbo_values.specs.declared.number.Kind.{Kind}
use Rattle.limbo_values.specs.declared.number.Kind.TheVariants.{Int}
use Rattle.limbo_values.specs.Numbers.{InRange}
use Rattle.system_model.specs.Values.{Num}
use Rattle.system_model.specs.Limits.{frames_limit}
use Rattle.typed_meaning.specs.World as program
use Rattle.slot_code.specs.Code.{Spot, Variable, Global, Temporary, Argument, Operand, In, Inst, Function, Module}
use Rattle.slot_code.specs.Machine as machine
use Rattle.dis_meaning.specs.Words.{Word, Found, number_in}
use Rattle.dis_meaning.specs.Numbers.{with_number_at}
use Rattle.dis_meaning.specs.World.{World}
use Rattle.dis_meaning.specs.Process.{Process}
use Rattle.dis_meaning.specs.Places as places
use Rattle.dis_meaning.specs.Places.{Memory, spot, store, store_number}
use Rattle.dis_meaning.specs.Step as dis_step
use Rattle.dis_meaning.specs.Step.{next}
use Rattle.dis_objects.specs.Frames.{Callee, made_at, count, inst_count, spot_count, operand_count}
use Rattle.dis_objects.specs.Code.{Context, spot_kind, place, place_of}
use Rattle.dis_objects.specs.Objects.{context, object_of}
use Rattle.dis_objects.specs.Proper.{IsProper, ProperInst, IsWritten, GoesOn}
use Rattle.dis_follows.specs.Numbers.{Holds, IsPlain}
use Rattle.dis_follows.specs.Stands.{Known, Running, WorldStands}
use Rattle.dis_follows.proofs.Lookups.{Coded}
use Rattle.dis_follows.proofs.Runs.{step_is, is_coded, is_proper, blocks_fit, counted}
use Rattle.dis_follows.proofs.Written.{Stored, stored_as, store_at, store_word}
use Rattle.dis_follows.proofs.Puts.{FewFits, remembered, named, words_of, bytes_of, spot_is, number_stored, word_stored, held, put_there}
use Rattle.dis_follows.proofs.Advances.{at_slot, at_word, advanced}
use Rattle.dis_follows.proofs.Simple.{spot_counted, operand_counted}

module _ (m : Module) (proper : IsProper m) (k : Known) (w : program.World) (x : World) (ws : WorldStands m k w x) (p : machine.Process)
    (r : Process) (offset : ℕ) (h : Running m k p r offset []) where
  abbrev F : Function
  F = h.frame.function

  abbrev C : Context
  C = context m p.frame.function F

  abbrev CS : List Callee
  CS = made_at F.code p.frame.pc

  abbrev M : Spot → List Word → Memory
  M into after = remembered m k w x ws p.frame r F CS h.frame.has (blocks_fit m proper k w x ws p r offset [] h) h.frame.instance
      h.frame.first into after

  abbrev W : Spot → List Word
  W into = words_of m k w x ws p.frame r F CS h.frame.has (blocks_fit m proper k w x ws p r offset [] h) h.frame.instance h.frame.first into

  abbrev B : Spot → ℕ
  B into = bytes_of m k w x ws p.frame r F CS h.frame.has (blocks_fit m proper k w x ws p r offset [] h) h.frame.instance h.frame.first into

  abbrev pub N : Spot → places.Spot
  N into = named m k w x ws p.frame r F CS h.frame.has (blocks_fit m proper k w x ws p r offset [] h) h.frame.instance h.frame.first into

  abbrev pub Few : Spot → Type 0
  Few into = FewFits m k w x ws p.frame r F CS h.frame.has (blocks_fit m proper k w x ws p r offset [] h) h.frame.instance h.frame.first
      into

  -- ---- what is at the process

  pub coded_at : (i : Inst) → h.frame.inst ≡ i → Coded m ws.words C (object_of m).insts (place C p.frame.pc) p.frame.pc CS i
  coded_at i e = subst (Coded m ws.words C (object_of m).insts (place C p.frame.pc) p.frame.pc CS) e
      (is_coded m proper k w x ws p r offset [] h)

  pub proper_at : (i : Inst) → h.frame.inst ≡ i → ProperInst m F CS p.frame.pc i
  proper_at i e = subst (ProperInst m F CS p.frame.pc) e (is_proper m proper k w x ws p r offset [] h)

  counted_at : (i : Inst) → h.frame.inst ≡ i → (j : Kind) → inst_count j i ≤ count j F.code
  counted_at i e j = subst (λ i. inst_count j i ≤ count j F.code) e (counted m proper k w x ws p r offset [] h j)

  pub few_into : (i : Inst) → h.frame.inst ≡ i → (into : Spot) → ((j : Kind) → spot_count j into ≤ inst_count j i) → Few into
  few_into i e into less j n is = let a = spot_counted j n into is in let b = less j in let c = counted_at i e j in omega (arith, a, b, c)

  pub few_of : (i : Inst) → h.frame.inst ≡ i → (o : Operand) → ((j : Kind) → operand_count j o ≤ inst_count j i)
      → (j : Kind) (n : ℕ) → o ≡ In (Temporary j n) → n < count j F.code
  few_of i e o less j n is = let a = operand_counted j n o is in let b = less j in let c = counted_at i e j in omega (arith, a, b, c)

  -- The machine's instruction there.
  pub at_row : (i : code_inst.Inst) (at : ℕ) → at ≡ offset + place C p.frame.pc → slice_get (object_of m).insts at ≡ Some i
      → slice_get (object_of m).insts r.frame.pc ≡ Some i
  at_row i at q e = ap (slice_get (object_of m).insts) (h.frame.here ∙ sym q) ∙ e

  pub spot_at : (into : Spot) → spot x r (place_of C CS into) ≡ Found (N into)
  spot_at into = spot_is m k w x ws p.frame r F CS h.frame.has (blocks_fit m proper k w x ws p r offset [] h) h.frame.instance h.frame.first
      into

  -- ---- a number goes to its place

  -- What both are then, wherever control goes on.
  pub record Puts (into : Spot) (z : ℤ) : Type 0 where
    pub world : World
    pub words : List Word
    pub steps : dis_step.step frames_limit (object_of m ∷ []) x r ≡ Went world (at_word m k p r offset [] h words (suc r.frame.pc))
    pub run : (pc offset' : ℕ) → GoesOn m F CS pc
        → Running m k (at_slot m k p r offset [] h (machine.stored w p.frame into (Num z)).frame pc)
        (at_word m k p r offset [] h words (offset' + place C pc)) offset' []
    pub worlds : WorldStands m k (machine.stored w p.frame into (Num z)).world world

  next_is : (into : Spot) (after : List Word)
      → next (M into after) ≡ Went (M into after).world (at_word m k p r offset [] h (M into after).process.frame.words (suc r.frame.pc))
  next_is (Variable j y) after = refl
  next_is (Global j y) after = refl
  next_is (Temporary j n) after = refl
  next_is (Argument j i) after = refl

  same_frame : (into : Spot) (z : ℤ) → ((machine.stored w p.frame into (Num z)).frame.function ≡ p.frame.function)
      × ((machine.stored w p.frame into (Num z)).frame.instance ≡ p.frame.instance)
  same_frame (Variable j y) z = (refl, refl)
  same_frame (Global j y) z = (refl, refl)
  same_frame (Temporary j n) z = (refl, refl)
  same_frame (Argument j n) z = (refl, refl)

  puts_by : (into : Spot) (z : ℤ) → IsWritten m F CS into → Few into → InRange (spot_kind into) z
      → (t : Stored (spot_kind into) (W into) (B into) z)
      → dis_step.step frames_limit (object_of m ∷ []) x r ≡ next (M into t.after) → Puts into z
  puts_by into z written few range t steps =
      let put = put_there m k w x ws p.frame r F CS h.frame.has (blocks_fit m proper k w x ws p r offset [] h) h.frame.instance
      h.frame.first into z written few range t in
      let same = same_frame into z in
      record {
        world = (M into t.after).world;
        words = (M into t.after).process.frame.words;
        steps = steps ∙ next_is into t.after;
        run = λ pc offset' on. advanced m k p r offset [] h (machine.stored w p.frame into (Num z)).frame
            (M into t.after).process.frame.words pc
            offset' CS same.0 same.1 on put.numbers put.linkage;
        worlds = put.worlds;
      }

  number_store : (j : Kind) (into : Spot) → spot_kind into ≡ j → (z : ℤ) (after : List Word)
      → with_number_at (spot_kind into) (W into) (pos (B into)) z ≡ Found after → store_number j x r (N into) z ≡ Found (M into after)
  number_store j into kind z after e =
      subst (λ j. store_number j x r (N into) z ≡ Found (M into after)) kind
      (number_stored m k w x ws p.frame r F CS h.frame.has (blocks_fit m proper k w x ws p r offset [] h) h.frame.instance h.frame.first
      into z after e)

  pub puts_number : (j : Kind) (into : Spot) → spot_kind into ≡ j → (z : ℤ) → InRange j z → IsWritten m F CS into → Few into
      → (c : code_inst.Inst) → slice_get (object_of m).insts r.frame.pc ≡ Some c
      → ((after : Memory) → store_number j x r (N into) z ≡ Found after → dis_step.obey frames_limit (object_of m) x r c c.op
      ≡ Found (next after))
      → Puts into z
  puts_number j into kind z range written few c there obeys =
      let v = held m k w x ws p.frame r F CS h.frame.has (blocks_fit m proper k w x ws p r offset [] h) h.frame.instance h.frame.first into
      written few in
      let range' : InRange (spot_kind into) z = subst (λ j. InRange j z) (sym kind) range in
      let s = store_at (spot_kind into) (W into) (B into) v.0 z v.1 range' in
      puts_by into z written few range' s.stored
      (step_is m k w x r c (next (M into s.stored.after)) ws h.frame.instance there
      (obeys (M into s.stored.after) (number_store j into kind z s.stored.after s.is)))

  -- The same of an int's word.
  pub puts_word : (into : Spot) → spot_kind into ≡ Int → (z : ℤ) → InRange Int z → IsWritten m F CS into → Few into → (new : Word)
      → IsPlain new → number_in new ≡ Found z → (c : code_inst.Inst) → slice_get (object_of m).insts r.frame.pc ≡ Some c
      → ((after : Memory) → store x r (N into) new ≡ Found after → dis_step.obey frames_limit (object_of m) x r c c.op ≡ Found (next after))
      → Puts into z
  puts_word into kind z range written few new is_plain reads c there obeys =
      let v = held m k w x ws p.frame r F CS h.frame.has (blocks_fit m proper k w x ws p r offset [] h) h.frame.instance h.frame.first into
      written few in
      let s = store_word (W into) (B into) v.0 new z (subst (λ j. Holds j (W into) (B into) v.0) kind v.1) is_plain reads in
      puts_by into z written few (subst (λ j. InRange j z) (sym kind) range)
      (stored_as Int (spot_kind into) (sym kind) (W into) (B into) z s.stored)
      (step_is m k w x r c (next (M into s.stored.after)) ws h.frame.instance there
      (obeys (M into s.stored.after)
      (word_stored m k w x ws p.frame r F CS h.frame.has (blocks_fit m proper k w x ws p r offset [] h) h.frame.instance h.frame.first into
      new s.stored.after s.is)))
