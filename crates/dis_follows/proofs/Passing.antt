-- Conversions between byte and big, by way of an int.
use Rattle.std.proofs.Common.{◌≡◌, ℕ, suc, ◌+◌, ℤ, pos, negsuc, List, [], ◌∷◌, Some, Ok, refl, sym, ap, ◌∙◌, subst, arith, inl}
use Rattle.std.specs.Prelude.{slice_get}
use Rattle.std.proofs.lemmas.Int.{ints}
use Rattle.process_model.specs.Process.{Went}
use Rattle.dis_isa.specs.declared.inst.Operand as isa
use Rattle.dis_isa.specs.declared.inst.Middle.TheVariants as middle
use Rattle.dis_isa.specs.declared.op.Op.{Op}
use Rattle.dis_isa.specs.declared.op.Op.TheVariants as op
use Rattle.limbo_values.specs.declared.number.Kind.{Kind}
use Rattle.limbo_values.specs.declared.number.Kind.TheVariants.{Byte, Int, Big}
use Rattle.limbo_values.specs.Numbers.{InRange, wrapped}
use Rattle.limbo_values.proofs.Ranges.{within, always}
use Rattle.limbo_values.proofs.Quotients.{keeps}
use Rattle.limbo_typed.specs.declared.operation.Operation.TheVariants as operation
use Rattle.system_model.specs.Values.{Num}
use Rattle.system_model.specs.Limits.{frames_limit}
use Rattle.typed_meaning.specs.Values.{result_of}
use Rattle.typed_meaning.specs.World as program
use Rattle.slot_code.specs.Code.{Spot, Temporary, Operand, Number, Alter, Module}
use Rattle.slot_code.specs.Machine as machine
use Rattle.slot_code.specs.Machine.{value_of}
use Rattle.slot_code.specs.Step as slot_step
use Rattle.dis_meaning.specs.Words.{Word, Found, ◌>>=◌}
use Rattle.dis_meaning.specs.Numbers.{number_at}
use Rattle.dis_meaning.specs.World.{World}
use Rattle.dis_meaning.specs.Process.{Process, with_words, with_frames}
use Rattle.dis_meaning.specs.Places.{Memory, Own, spot, source_of, store_number}
use Rattle.dis_meaning.specs.Step as dis_step
use Rattle.dis_meaning.specs.Step.{next, results}
use Rattle.dis_objects.specs.Frames.{Callee, made_at, passing_place}
use Rattle.dis_objects.specs.Code.{Context, place, place_of, source, inst, own, size, converted as converted_code}
use Rattle.dis_objects.specs.Objects.{context, object_of}
use Rattle.dis_objects.specs.Proper.{IsProper, IsOwn}
use Rattle.dis_follows.specs.Stands.{Known, Passes, Running, begins, passes, WorldStands}
use Rattle.dis_follows.specs.Paces as paces
use Rattle.dis_follows.proofs.Lookups.{HasAt}
use Rattle.dis_follows.proofs.Runs.{step_is, place_on, other_step, as_known}
use Rattle.dis_follows.proofs.Operands.{Taken, taken}
use Rattle.dis_follows.proofs.Written.{store_over}
use Rattle.dis_follows.proofs.Linkage.{passing_there, passing_written}
use Rattle.dis_follows.proofs.Advances.{at_slot, at_word, stack_same, rests, steps_once}
use Rattle.dis_follows.proofs.Paces.{place_is}
use Rattle.dis_follows.proofs.Rows as rows
use Rattle.dis_follows.proofs.Decided.{Goal, own_value}
use Rattle.dis_follows.proofs.Converted.{converts_to}

byte_is_int : (a : ℤ) → InRange Byte a → wrapped Int a ≡ a
byte_is_int (pos n) r = let below = r.below in
    within Int (pos n) (record { above = omega (arith, ints, below); below = omega (arith, ints, below) })
byte_is_int (negsuc n) r = let above = r.above in absurd (omega (arith, ints, above))

module _ (m : Module) (proper : IsProper m) (k : Known) (number : ℕ) (w : program.World) (x : World) (ws : WorldStands m k w x)
    (p : machine.Process) (r : Process) where
  abbrev C : (offset : ℕ) → Running m k p r offset [] → Context
  C offset h = context m p.frame.function h.frame.function

  abbrev CS : (offset : ℕ) → Running m k p r offset [] → List Callee
  CS offset h = made_at h.frame.function.code p.frame.pc

  abbrev P : (offset : ℕ) → Running m k p r offset [] → ℕ
  P offset h = place (C offset h) p.frame.pc

  -- ---- the first: an int is written to the linkage

  first : (from to : Kind) (into : Spot) (o : Operand) (h : Running m k p r 0 [])
      (e : h.frame.inst ≡ Alter (operation.Convert from to) into o)
      → (size (Alter (operation.Convert from to) into o) ≡ 2) → IsOwn o → (at : ℕ) (one two : Op) (d : isa.Operand)
      → Taken m k w x ws p.frame r h.frame.function (CS 0 h) h.frame.has h.frame.instance h.frame.first from o at
      → slice_get (object_of m).insts (P 0 h) ≡ Some (inst one (source (C 0 h) o at) middle.None (own passing_place))
      → slice_get (object_of m).insts (suc (P 0 h)) ≡ Some (inst two (own passing_place) middle.None d)
      → (dis_step.obey frames_limit (object_of m) x r (inst one (source (C 0 h) o at) middle.None (own passing_place)) one
      ≡ (source_of from x r (source (C 0 h) o at) >>= λ s. spot x r (own passing_place) >>= λ d. results Int x r d (Ok (wrapped Int s))))
      → paces.op_rank two r.below 1 ≡ 4
      → ((z : ℤ) → ((v : program.World) → (a : ℤ) × (value_of v p.frame o ≡ Num a) × (z ≡ wrapped Int a))
      → Passes m (Alter (operation.Convert from to) into o) p.frame z)
      → Goal m proper k number w x ws p r (dis_step.step frames_limit (object_of m ∷ []) x r)
  first from to into o h e two_long is_own at one two d a code later obeys rank make =
      let F = h.frame.function in
      let old = passing_there m F (CS 0 h) p.frame r.frame.words h.frame.has in
      let z = wrapped Int a.number in
      let s = store_over Int r.frame.words 20 old.0 z old.1 (always Int a.number) in
      let words = s.stored.after in
      let r' = at_word m k p r 0 [] h words (1 + P 0 h) in
      let stepped : suc r.frame.pc ≡ 1 + P 0 h = omega (arith, h.frame.here) in
      let there = rows.at_row m proper k w x ws p r 0 h (inst one (source (C 0 h) o at) middle.None (own passing_place)) (P 0 h)
      (omega arith) code in
      let after : Memory = record { world = x; process = with_frames r (with_words r.frame words) r.below r.made } in
      let stored : store_number Int x r (Own (pos 20)) z ≡ Found after =
      ap (λ a. a >>= λ ws. Found (in_frame ws)) s.is in
      let steps : dis_step.step frames_limit (object_of m ∷ []) x r ≡ Went x r' =
      step_is m k w x r (inst one (source (C 0 h) o at) middle.None (own passing_place)) (next after) ws h.frame.instance there
      (obeys ∙ converts_to from Int x r (source (C 0 h) o at) (own passing_place) a.number (Own (pos 20)) after a.reads refl stored)
      ∙ ap (λ n. Went x (at_word m k p r 0 [] h words n)) stepped in
      let h' : Running m k p r' 1 [] = record {
        loaded = h.loaded;
        number = h.number;
        frame = record {
          function = F;
          found = h.frame.found;
          inst = h.frame.inst;
          there = h.frame.there;
          here = refl;
          instance = h.frame.instance;
          first = h.frame.first;
          has = passing_written m F (CS 0 h) p.frame r.frame.words h.frame.has z s.stored;
        };
        stack = stack_same m F r.frame r'.frame p.below r.below refl (s.stored.words_stay.others 4 (inl (omega arith))) h.stack;
        frames = h.frames;
        fresh = h.fresh;
      } in
      let long : size h.frame.inst ≡ 2 = ap size e ∙ two_long in
      let far = place_is m r p.frame.function F p.frame.pc h.frame.inst 0 h.frame.found h.frame.there (omega (arith, long)) h.frame.here in
      let far' = place_is m r' p.frame.function F p.frame.pc h.frame.inst 1 h.frame.found h.frame.there (omega (arith, long)) refl
      ∙ ap (λ i. paces.rank i r.below 1) (ap (slice_get (object_of m).insts) (let q : 1 + P 0 h ≡ suc (P 0 h) = omega arith in q)
      ∙ later) in
      let its : Passes m h.frame.inst p.frame z = subst (λ i. Passes m i p.frame z) (sym e)
      (make z (λ v. (a.number, own_value p.frame o is_own v w ∙ a.is, refl))) in
      subst (Goal m proper k number w x ws p r) (sym steps)
      (rests m (paces.place m) k number x w p (paces.place m r) k x r' (as_known k) (passes h' z its s.stored.there) ws
      (omega (arith, far, far', rank)))
    where
      in_frame : List Word → Memory
      in_frame words = record { world = x; process = with_frames r (with_words r.frame words) r.below r.made }

  -- ---- the second: what was written is converted again

  -- What is left of the number on its way is what is left of the number.
  last_is : (from to : Kind) → (size (Alter (operation.Convert from to) (Temporary to 0) (Number (pos 0))) ≡ 2) → (a : ℤ) → InRange from a
      → wrapped to (wrapped Int a) ≡ wrapped to a
  last_is Byte Byte two a range = absurd cc
  last_is Byte Int two a range = absurd cc
  last_is Byte Big two a range = ap (wrapped Big) (byte_is_int a range)
  last_is Int Byte two a range = absurd cc
  last_is Int Int two a range = absurd cc
  last_is Int Big two a range = absurd cc
  last_is Big Byte two a range = keeps Byte Int a (omega arith)
  last_is Big Int two a range = absurd cc
  last_is Big Big two a range = absurd cc

  second : (from to : Kind) (into : Spot) (o : Operand) (h : Running m k p r 1 [])
      (e : h.frame.inst ≡ Alter (operation.Convert from to) into o)
      → (size (Alter (operation.Convert from to) into o) ≡ 2)
      → (size (Alter (operation.Convert from to) (Temporary to 0) (Number (pos 0))) ≡ 2)
      → (at : ℕ) (two : Op)
      → Taken m k w x ws p.frame r h.frame.function (CS 1 h) h.frame.has h.frame.instance h.frame.first from o at → (z : ℤ)
      → ((v : program.World) → (a : ℤ) × (value_of v p.frame o ≡ Num a) × (z ≡ wrapped Int a))
      → number_at Int r.frame.words (pos passing_place) ≡ Found z
      → slice_get (object_of m).insts (suc (P 1 h)) ≡ Some (inst two (own passing_place) middle.None (place_of (C 1 h) (CS 1 h) into))
      → (dis_step.obey frames_limit (object_of m) x r (inst two (own passing_place) middle.None (place_of (C 1 h) (CS 1 h) into)) two
      ≡ (source_of Int x r (own passing_place) >>= λ s. spot x r (place_of (C 1 h) (CS 1 h) into) >>= λ d.
      results to x r d (Ok (wrapped to s))))
      → Goal m proper k number w x ws p r (dis_step.step frames_limit (object_of m ∷ []) x r)
  second from to into o h e two_long two_long' at two a z passing reads code obeys =
      let i = Alter (operation.Convert from to) into o in
      let q = rows.proper_at m proper k w x ws p r 1 h i e in
      let d = place_of (C 1 h) (CS 1 h) into in
      let c = inst two (own passing_place) middle.None d in
      let there = rows.at_row m proper k w x ws p r 1 h c (suc (P 1 h)) (omega arith) code in
      let its = passing w in
      let same : Num its.0 ≡ Num a.number = sym its.1 ∙ a.is in
      let same' : its.0 ≡ a.number = cc in
      let last : wrapped to z ≡ wrapped to a.number = ap (wrapped to) (its.2 ∙ ap (wrapped Int) same')
      ∙ last_is from to two_long' a.number a.range in
      let put = rows.puts_number m proper k w x ws p r 1 h to into q.2 (wrapped to z) (always to z) q.1
      (rows.few_into m proper k w x ws p r 1 h i e into (λ i. omega arith)) c there
      (λ after s. obeys ∙ converts_to Int to x r (own passing_place) d z (rows.N m proper k w x ws p r 1 h into) after reads
      (rows.spot_at m proper k w x ws p r 1 h into) s) in
      let on = place_on (C 1 h) p.frame.pc h.frame.inst h.frame.there in
      let four : size h.frame.inst ≡ 2 = ap size e ∙ two_long in
      let behind : 0 + place (C 1 h) (suc p.frame.pc) ≡ suc r.frame.pc = omega (arith, on, four, h.frame.here) in
      let run = subst (λ n. Running m k (at_slot m k p r 1 [] h (machine.stored w p.frame into (Num (wrapped to z))).frame (suc p.frame.pc))
      (at_word m k p r 1 [] h put.words n) 0 []) behind (put.run (suc p.frame.pc) 0 q.5) in
      let does : slot_step.obey frames_limit m.functions w p h.frame.inst ≡ machine.next w p into (Num (wrapped to z)) =
      ap (slot_step.obey frames_limit m.functions w p) e
      ∙ ap (λ v. slot_step.gives w p into (result_of (operation.Convert from to) (v ∷ []))) a.is
      ∙ ap (λ n. machine.next w p into (Num n)) (sym last) in
      subst (Goal m proper k number w x ws p r) (sym put.steps)
      (steps_once m (paces.place m) k number x w p (paces.place m r) (machine.stored w p.frame into (Num (wrapped to z))).world
      (at_slot m k p r 1 [] h (machine.stored w p.frame into (Num (wrapped to z))).frame (suc p.frame.pc)) put.world
      (at_word m k p r 1 [] h put.words (suc r.frame.pc))
      (other_step m proper k w x ws p r 1 [] h ∙ does) (begins run) put.worlds)

  -- ---- both

  takes : (offset : ℕ) (h : Running m k p r offset []) (from to : Kind) (into : Spot) (o : Operand)
      (e : h.frame.inst ≡ Alter (operation.Convert from to) into o)
      → (at : ℕ) × Taken m k w x ws p.frame r h.frame.function (CS offset h) h.frame.has h.frame.instance h.frame.first from o at
      × HasAt (object_of m).insts (P offset h)
      (converted_code from to (source (C offset h) o at) (place_of (C offset h) (CS offset h) into))
  takes offset h from to into o e =
      let i = Alter (operation.Convert from to) into o in
      let c = rows.coded_at m proper k w x ws p r offset h i e in
      let q = rows.proper_at m proper k w x ws p r offset h i e in (
        c.at,
        taken m k w x ws p.frame r h.frame.function (CS offset h) h.frame.has h.frame.instance h.frame.first from o c.at q.3
            (rows.few_of m proper k w x ws p r offset h i e o (λ i. omega arith)) c.constants,
        c.code,
      )

  pub byte_big_first : (into : Spot) (o : Operand) (h : Running m k p r 0 []) → h.frame.inst ≡ Alter (operation.Convert Byte Big) into o
      → Goal m proper k number w x ws p r (dis_step.step frames_limit (object_of m ∷ []) x r)
  byte_big_first into o h e =
      let t = takes 0 h Byte Big into o e in
      let q = rows.proper_at m proper k w x ws p r 0 h (Alter (operation.Convert Byte Big) into o) e in
      first Byte Big into o h e refl q.4 t.0 op.Cvtbw op.Cvtwl (place_of (C 0 h) (CS 0 h) into) t.1 t.2.0 t.2.1.0 refl refl (λ z f. f)

  pub big_byte_first : (into : Spot) (o : Operand) (h : Running m k p r 0 []) → h.frame.inst ≡ Alter (operation.Convert Big Byte) into o
      → Goal m proper k number w x ws p r (dis_step.step frames_limit (object_of m ∷ []) x r)
  big_byte_first into o h e =
      let t = takes 0 h Big Byte into o e in
      let q = rows.proper_at m proper k w x ws p r 0 h (Alter (operation.Convert Big Byte) into o) e in
      first Big Byte into o h e refl q.4 t.0 op.Cvtlw op.Cvtwb (place_of (C 0 h) (CS 0 h) into) t.1 t.2.0 t.2.1.0 refl refl (λ z f. f)

  pub byte_big_second : (into : Spot) (o : Operand) (h : Running m k p r 1 []) → h.frame.inst ≡ Alter (operation.Convert Byte Big) into o
      → (z : ℤ)
      → ((v : program.World) → (a : ℤ) × (value_of v p.frame o ≡ Num a) × (z ≡ wrapped Int a))
      → number_at Int r.frame.words (pos passing_place) ≡ Found z
      → Goal m proper k number w x ws p r (dis_step.step frames_limit (object_of m ∷ []) x r)
  byte_big_second into o h e z passing reads =
      let t = takes 1 h Byte Big into o e in
      second Byte Big into o h e refl refl t.0 op.Cvtwl t.1 z passing reads t.2.1.0 refl

  pub big_byte_second : (into : Spot) (o : Operand) (h : Running m k p r 1 []) → h.frame.inst ≡ Alter (operation.Convert Big Byte) into o
      → (z : ℤ)
      → ((v : program.World) → (a : ℤ) × (value_of v p.frame o ≡ Num a) × (z ≡ wrapped Int a))
      → number_at Int r.frame.words (pos passing_place) ≡ Found z
      → Goal m proper k number w x ws p r (dis_step.step frames_limit (object_of m ∷ []) x r)
  big_byte_second into o h e z passing reads =
      let t = takes 1 h Big Byte into o e in
      second Big Byte into o h e refl refl t.0 op.Cvtwb t.1 z passing reads t.2.1.0 refl
