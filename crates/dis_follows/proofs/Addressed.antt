-- A call keeps the address of the place for its answer in the frame that is made.
use Rattle.std.proofs.Common.{◌≡◌, ℕ, suc, ◌+◌, ◌<◌, ◌≤◌, List, [], ◌∷◌, Some, refl, sym, ap, ◌∙◌, subst, arith}
use Rattle.std.specs.Prelude.{slice_get}
use Rattle.process_model.specs.Process.{Went}
use Rattle.limbo_values.specs.declared.number.Kind.{Kind}
use Rattle.system_model.specs.Limits.{frames_limit}
use Rattle.typed_meaning.specs.World as program
use Rattle.slot_code.specs.Code.{Temporary, Function, Module}
use Rattle.slot_code.specs.Machine as machine
use Rattle.slot_code.specs.Machine.{taken, entered}
use Rattle.dis_meaning.specs.Words.{Word}
use Rattle.dis_meaning.specs.World.{World}
use Rattle.dis_meaning.specs.Process.{Frame, Process, with_words}
use Rattle.dis_meaning.specs.Step as dis_step
use Rattle.dis_objects.specs.Frames.{Callee, Calls, Room, room_of, made_at, count, all_bytes, most_bytes}
use Rattle.dis_objects.specs.Code.{Context, place, calling, answer_to, size}
use Rattle.dis_objects.specs.Objects.{context, object_of}
use Rattle.dis_objects.specs.Proper.{IsProper, ProperInst}
use Rattle.dis_follows.specs.Stands.{Known, AllReady, HasNumbers, Running, Calling, HasArguments, addressed, WorldStands}
use Rattle.dis_follows.specs.Paces as paces
use Rattle.dis_follows.proofs.Lookups.{HasAt, Coded}
use Rattle.dis_follows.proofs.Runs.{is_coded, is_proper, blocks_fit, counted, as_known}
use Rattle.dis_follows.proofs.Simple.{spot_counted}
use Rattle.dis_follows.proofs.Linkage.{linkage_there, linkage_written}
use Rattle.dis_follows.proofs.Advances.{stack_same, rests}
use Rattle.dis_follows.proofs.Paces.{place_is}
use Rattle.dis_follows.proofs.Addresses.{answering, with_made}
use Rattle.dis_follows.proofs.Decided.{Goal}

module _ (m : Module) (proper : IsProper m) (k : Known) (number : ℕ) (w : program.World) (x : World) (ws : WorldStands m k w x)
    (p : machine.Process) (r : Process) (n : Frame) (h : Calling m k p r 2 n)
    (has : HasArguments m h.callee h.number (taken h.ready.arguments 0 h.arguments) n) where
  abbrev H : Running m k p r 2 (n ∷ [])
  H = h.making.running

  abbrev F : Function
  F = H.frame.function

  abbrev C : Context
  C = context m p.frame.function F

  abbrev CS : List Callee
  CS = made_at F.code p.frame.pc

  abbrev R : Room
  R = room_of m.functions F

  abbrev P : ℕ
  P = place C p.frame.pc

  abbrev G : machine.Frame
  G = entered h.number 0 h.callee (taken h.ready.arguments 0 h.arguments)

  abbrev then_made : List Word → Process
  then_made words = with_made m k w x ws p r 2 n h.making words (3 + P)

  abbrev calling_on : (words : List Word) → Calling m k p (then_made words) 3 (with_words n words)
  calling_on words = record {
    making = record {
      running = record {
        loaded = H.loaded;
        number = H.number;
        frame = record {
          function = F;
          found = H.frame.found;
          inst = H.frame.inst;
          there = H.frame.there;
          here = refl;
          instance = H.frame.instance;
          first = H.frame.first;
          has = H.frame.has;
        };
        stack = stack_same m F r.frame _ p.below r.below refl refl H.stack;
        frames = refl;
        fresh = H.fresh;
      };
      made = record { later = h.making.made.later; given = h.making.made.given; instance = h.making.made.instance };
      address = h.making.address;
    };
    kind = h.kind;
    number = h.number;
    arguments = h.arguments;
    into = h.into;
    is = h.is;
    callee = h.callee;
    found = h.found;
    ready = h.ready;
    others = h.others;
    first = h.first;
  }

  pub keeps_address : Goal m proper k number w x ws p r (dis_step.step frames_limit (object_of m ∷ []) x r)
  keeps_address =
      let i = subst (ProperInst m F CS p.frame.pc) h.is (is_proper m proper k w x ws p r 2 (n ∷ []) H) in
      let q = i.0 in
      let c = subst (Coded m ws.words C (object_of m).insts P p.frame.pc CS) h.is (is_coded m proper k w x ws p r 2 (n ∷ []) H) in
      let code : HasAt (object_of m).insts P (calling C c.at h.number h.into (Calls h.number ∷ q.others)) =
      subst (λ cs. HasAt (object_of m).insts P (calling C c.at h.number h.into cs)) q.last c.code in
      let fit : all_bytes m.functions (Calls h.number ∷ q.others) ≤ most_bytes m.functions [] F.code =
      subst (λ cs. all_bytes m.functions cs ≤ most_bytes m.functions [] F.code) q.last (blocks_fit m proper k w x ws p r 2 (n ∷ []) H) in
      let ready : AllReady m r.frame.words R (Calls h.number ∷ q.others) (h.ready ∷ h.others) =
      subst (λ cs. AllReady m r.frame.words R cs (h.ready ∷ h.others)) q.last
      (subst (AllReady m r.frame.words R CS) h.first H.frame.has.made) in
      let others : HasNumbers m F q.others (record p.frame { made = h.others }) r.frame.words = record {
        long = H.frame.has.long;
        plain = H.frame.has.plain;
        many = H.frame.has.many;
        variables = H.frame.has.variables;
        temporaries = H.frame.has.temporaries;
        made = ready.1;
      } in
      let few : (j : Kind) (t : ℕ) → h.into ≡ Temporary j t → t < count j F.code =
      λ j t e. let a = spot_counted j t h.into e in
      let b = counted m proper k w x ws p r 2 (n ∷ []) H j in
      let d = subst (λ i. Rattle.dis_objects.specs.Frames.inst_count j i ≤ count j F.code) h.is b in omega (arith, a, d) in
      let old = linkage_there m h.callee [] G n.words has 4 (omega arith) in
      let there : slice_get (object_of m).insts r.frame.pc ≡ Some (answer_to C q.others h.into) =
      ap (slice_get (object_of m).insts) (H.frame.here ∙ (let o : 2 + P ≡ suc (suc P) = omega arith in o)) ∙ code.1.1.0 in
      let a = answering m k w x ws p r 2 n h.making q.others (record p.frame { made = h.others }) others H.frame.first
      (omega (arith, fit)) i.1.made h.into q.written few old.0 old.1 there in
      let after = a.stored.after in
      let stepped : suc r.frame.pc ≡ 3 + P = omega (arith, H.frame.here) in
      let steps : dis_step.step frames_limit (object_of m ∷ []) x r ≡ Went x (then_made after) =
      a.steps ∙ ap (λ pc. Went x (with_made m k w x ws p r 2 n h.making after pc)) stepped in
      let long : size H.frame.inst ≡ 4 = ap size h.is in
      let first = place_is m r p.frame.function F p.frame.pc H.frame.inst 2 H.frame.found H.frame.there (omega (arith, long)) H.frame.here
      ∙ ap (λ i. paces.rank i r.below 2) there in
      let second = place_is m (then_made after) p.frame.function F p.frame.pc H.frame.inst 3 H.frame.found H.frame.there
      (omega (arith, long)) refl
      ∙ ap (λ i. paces.rank i r.below 3) (ap (slice_get (object_of m).insts) (let o : 3 + P ≡ suc (suc (suc P)) = omega arith in o)
      ∙ code.1.1.1.0) in
      subst (Goal m proper k number w x ws p r) (sym steps)
      (rests m (paces.place m) k number x w p (paces.place m r) k x (then_made after) (as_known k)
      (addressed (with_words n after) (calling_on after) (linkage_written m h.callee [] G n.words has 16 (omega arith) a.number a.stored)
      a.answers) ws
      (omega (arith, first, second)))
