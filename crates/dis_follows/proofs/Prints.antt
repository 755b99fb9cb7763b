-- A print: what it asks of the outside, and what it answers at once.
use Rattle.std.proofs.Common.{◌≡◌, ℕ, zero, suc, ◌+◌, ◌≤◌, pos, ℤ, List, [], ◌∷◌, ◌++◌, length, map, Some, refl, sym, ap, ◌∙◌, subst, arith}
use Rattle.std.proofs.Common.{if◌then◌else◌}
use Rattle.std.specs.Prelude.{slice_get}
use Rattle.std.proofs.lemmas.Bool.{eq-eqb}
use Rattle.process_model.specs.Process.{Went}
use Rattle.dis_isa.specs.declared.inst.Inst as code_inst
use Rattle.dis_isa.specs.declared.inst.Middle.TheVariants as middle
use Rattle.dis_isa.specs.declared.op.Op.TheVariants as op
use Rattle.limbo_values.specs.declared.number.Kind.TheVariants.{Int}
use Rattle.system_model.specs.Values.{Num}
use Rattle.system_model.specs.World as outside
use Rattle.system_model.specs.Prints.{Printing as Outcome, Answers, Requests, NoReply, print}
use Rattle.system_model.specs.Limits.{frames_limit}
use Rattle.typed_meaning.specs.Formats.{text_of}
use Rattle.typed_meaning.specs.World as program
use Rattle.typed_meaning.specs.World.{with_outside}
use Rattle.slot_code.specs.Code.{Function, Module}
use Rattle.slot_code.specs.Machine as machine
use Rattle.slot_code.specs.Machine.{taken, waiting}
use Rattle.slot_code.specs.Step as slot_step
use Rattle.dis_meaning.specs.Words.{Place, Found, ◌>>=◌, type_check, dead_address, or_wrong, word_at, reference}
use Rattle.dis_meaning.specs.World as memory
use Rattle.dis_meaning.specs.World.{Content, Instance, Sys, World}
use Rattle.dis_meaning.specs.Process as dis
use Rattle.dis_meaning.specs.Process.{Frame, Process, at_pc, with_frames}
use Rattle.dis_meaning.specs.Places as places
use Rattle.dis_meaning.specs.Places.{Far, behind, data_at}
use Rattle.dis_meaning.specs.Formats.{formatted}
use Rattle.dis_meaning.specs.Step as dis_step
use Rattle.dis_meaning.specs.Step.{next, names, frame_at, module_at, function_of, sys_call, text_at, answer_spot, place_of, outside_is}
use Rattle.dis_meaning.specs.Step.{without}
use Rattle.dis_objects.specs.Frames.{Callee, Prints, Room, room_of, made_at, printed_kinds, count, inst_count}
use Rattle.dis_objects.specs.Code.{Context, place, inst, made_word, sys_word, format_text, size}
use Rattle.dis_objects.specs.Objects.{context, object_of}
use Rattle.dis_objects.specs.Proper.{IsProper, IsWritten}
use Rattle.dis_follows.specs.Numbers.{Holds}
use Rattle.dis_follows.specs.Stands.{Known, AllReady, HasNumbers, HasFormat, HasPrinted, StackStands, FrameWaits, AnswersTo, Running}
use Rattle.dis_follows.specs.Stands.{Printing, begins, WorldStands}
use Rattle.dis_follows.specs.Start.{opening, opening_words}
use Rattle.dis_follows.specs.Paces as paces
use Rattle.dis_follows.proofs.Runs.{step_is, other_step, as_known, place_on, counted}
use Rattle.dis_follows.proofs.Simple.{spot_counted}
use Rattle.dis_follows.proofs.Frames.{number_within}
use Rattle.dis_follows.proofs.Operands.{data_are}
use Rattle.dis_follows.proofs.Blocks.{printed_place}
use Rattle.dis_follows.proofs.Advances.{there, stack_same, steps_once, at_once}
use Rattle.dis_follows.proofs.Passed.{none_below}
use Rattle.dis_follows.proofs.Far as far
use Rattle.dis_follows.proofs.Told.{tells}
use Rattle.dis_follows.proofs.PrintAddressed.{read_written}
use Rattle.dis_follows.proofs.Printings.{its_code, its_proper, own, below}
use Rattle.dis_follows.proofs.Delivered as delivered
use Rattle.dis_follows.proofs.Delivered.{AnswersInt, print_int, outside_stands, delivers}
use Rattle.dis_follows.proofs.Decided.{Goal}

-- No frame below has a frame's serial.
pub own_below : (m : Module) (f : Function) (r : Frame) (gs : List machine.Frame) (rs : List Frame) → StackStands m f r gs rs
    → far.NoneHas r.serial rs
own_below m f r [] [] h = tt
own_below m f r (g ∷ gs) (r' ∷ rs) h =
    let less = h.3 in ((λ e. omega (arith, e, less)), none_below m h.0.stands.function r' gs rs r.serial h.4 less)
own_below m f r [] (r' ∷ rs) h = absurd h
own_below m f r (g ∷ gs) [] h = absurd h

-- A text of the opening is there ever after.
get_front : {A : Type 0} (xs ys : List A) (n : ℕ) (x : A) → slice_get xs n ≡ Some x → slice_get (xs ++ ys) n ≡ Some x
get_front [] ys n x e = absurd cc
get_front (y ∷ xs) ys zero x e = e
get_front (y ∷ xs) ys (suc n) x e = get_front xs ys n x e

pub text_stays : (os bs texts more : List Content) (i j : Content) (serial : ℕ) (t : List ℕ) → os ≡ i ∷ texts → bs ≡ j ∷ (texts ++ more)
    → (i ≡ memory.Text t → ⊥) → slice_get os serial ≡ Some (memory.Text t) → slice_get bs serial ≡ Some (memory.Text t)
text_stays os bs texts more i j zero t eo eb ne h =
    let same : Some i ≡ Some (memory.Text t) = ap (λ l. slice_get l 0) (sym eo) ∙ h in
    let same' : i ≡ memory.Text t = cc in absurd (ne same')
text_stays os bs texts more i j (suc n) t eo eb ne h =
    ap (λ l. slice_get l (suc n)) eb ∙ get_front texts more n (memory.Text t) (ap (λ l. slice_get l (suc n)) (sym eo) ∙ h)

-- A print answers or asks.
print_does : (w : outside.World) (t : List ℕ) → print w t ≡ NoReply → ⊥
print_does w [] e = cc
print_does w (c ∷ cs) e = cc

module _ (m : Module) (proper : IsProper m) (k : Known) (number : ℕ) (w : program.World) (x : World) (ws : WorldStands m k w x)
    (p : machine.Process) (r : Process) (n : Frame) (h : Printing m k p r 4 n) (format : HasFormat m h.pieces n)
    (has : HasPrinted m h.pieces h.ready n) (answers : AnswersTo m p r h.making.running.frame.function h.into n) where
  abbrev H : Running m k p r 4 (n ∷ [])
  H = h.making.running

  abbrev F : Function
  F = H.frame.function

  abbrev C : Context
  C = context m p.frame.function F

  abbrev CS : List Callee
  CS = made_at F.code p.frame.pc

  abbrev R : Room
  R = room_of m.functions F

  abbrev P : ℕ
  P = place C p.frame.pc

  abbrev T : List ℕ
  T = text_of h.pieces (taken h.ready.arguments 0 (length (printed_kinds h.pieces)))

  abbrev waits : machine.Frame
  waits = waiting p.frame h.others Int h.into

  abbrev Q : Process
  Q = with_frames r r.frame r.below []

  ready : AllReady m r.frame.words R (Prints h.pieces ∷ h.cs) (h.ready ∷ h.others)
  ready =
      subst (λ cs. AllReady m r.frame.words R cs (h.ready ∷ h.others)) h.callee
      (subst (AllReady m r.frame.words R CS) h.first H.frame.has.made)

  -- The frame that waits for the answer.
  abbrev waiting_frame : FrameWaits m waits (at_pc Q.frame (suc Q.frame.pc))
  waiting_frame =
      let q = its_proper m proper k number w x ws p r 3 n h in
      let following = there F.code (suc p.frame.pc) q.on.within in
      let others : HasNumbers m F h.cs waits r.frame.words = record {
        long = H.frame.has.long;
        plain = H.frame.has.plain;
        many = H.frame.has.many;
        variables = H.frame.has.variables;
        temporaries = H.frame.has.temporaries;
        made = ready.1;
      } in
      let next_place = place_on C p.frame.pc H.frame.inst H.frame.there in
      let long : size H.frame.inst ≡ 5 = ap size h.is in
      record {
        stands = record {
          function = F;
          found = H.frame.found;
          inst = following.0;
          there = following.1;
          here = omega (arith, next_place, long, H.frame.here);
          instance = H.frame.instance;
          first = H.frame.first;
          has = subst (λ cs. HasNumbers m F cs waits r.frame.words) (sym q.on.made) others;
        };
        into = subst (λ cs. IsWritten m F cs h.into) (sym q.on.made) (read_written m F h.cs h.into q.written);
        kind = q.kind;
        few = λ j t e. let a = spot_counted j t h.into e in
            let b = counted m proper k w x ws p r 4 (n ∷ []) H j in
            let d = subst (λ i. inst_count j i ≤ count j F.code) h.is b in omega (arith, a, d);
      }

  below_it : far.NoneHas r.frame.serial r.below
  below_it = own_below m F r.frame p.below r.below H.stack

  -- ---- what is printed

  slot_does : slot_step.step frames_limit m.functions w p ≡ machine.prints w p waits (print w.outside T)
  slot_does =
      let q = its_proper m proper k number w x ws p r 3 n h in
      other_step m proper k w x ws p r 4 (n ∷ []) H ∙ ap (slot_step.obey frames_limit m.functions w p) h.is
      ∙ ap (slot_step.printed frames_limit m.functions w p h.arguments h.into) h.first
      ∙ ap (λ ps. machine.prints w p waits (print w.outside (text_of ps (taken h.ready.arguments 0 h.arguments)))) ready.0.given
      ∙ ap (λ n. machine.prints w p waits (print w.outside (text_of h.pieces (taken h.ready.arguments 0 n)))) (sym q.takes)

  printed_is : dis_step.printed x n.words ≡ Found T
  printed_is =
      let q = its_proper m proper k number w x ws p r 3 n h in
      let text = text_stays (opening m).blocks x.blocks ws.texts ws.more (Instance 0 (opening_words m)) (Instance 0 ws.words) format.0
      (format_text h.pieces)
      ws.opened ws.blocks (λ e. cc) format.2 in
      ap (λ o. or_wrong type_check o >>= reference >>= text_at x >>= λ format. formatted n.words format 36) format.1
      ∙ ap (λ o. (or_wrong dead_address o >>= dis_step.text_of) >>= λ format. formatted n.words format 36) text
      ∙ tells n.words h.pieces q.holes 36 h.ready.arguments 0
      (λ j t e. subst (λ i. Holds t n.words (Rattle.slot_code.specs.Layout.place_in 36 (map Some (printed_kinds h.pieces)) j)
      (h.ready.arguments i)) (omega arith)
      (subst (λ at. Holds t n.words at (h.ready.arguments j)) (printed_place h.pieces j) (has j t e)))

  abbrev at_place : Place
  at_place = delivered.at_place m k w x ws p Q waits (suc r.frame.pc) waiting_frame refl refl below_it h.into

  abbrev at_byte : ℤ
  at_byte = delivered.at_byte m k w x ws p Q waits (suc r.frame.pc) waiting_frame refl refl below_it h.into

  answer_is : answer_spot n.words ≡ Found (Far at_place at_byte)
  answer_is =
      ap (λ o. or_wrong type_check o >>= λ w. behind w (pos 0)) answers
      ∙ ap (λ w. behind w (pos 0)) (delivered.address_is m k w x ws p Q waits (suc r.frame.pc) waiting_frame refl refl below_it h.into)
      ∙ delivered.behind_is m k w x ws p Q waits (suc r.frame.pc) waiting_frame refl refl below_it h.into

  abbrev I : code_inst.Inst
  I = inst op.Mcall (made_word C) (middle.Imm (pos 16)) sys_word

  called : dis_step.print_call x r n ≡ dis_step.prints x Q at_place at_byte (print w.outside T)
  called =
      let one : without n.serial r.made ≡ [] =
      ap (without n.serial) H.frames ∙ ap (λ b. if b then [] else n ∷ []) (eq-eqb n.serial n.serial refl) in
      ap (λ a. a >>= λ text. answer_spot n.words >>= λ s. place_of s >>= λ place.
      dis_step.prints x (with_frames r r.frame r.below (without n.serial r.made)) place (places.place_in s) (print x.outside text))
      printed_is
      ∙ ap (λ a. a >>= λ s. place_of s >>= λ place.
      dis_step.prints x (with_frames r r.frame r.below (without n.serial r.made)) place (places.place_in s) (print x.outside T)) answer_is
      ∙ ap (λ fs. dis_step.prints x (with_frames r r.frame r.below fs) at_place at_byte (print x.outside T)) one
      ∙ ap (λ o. dis_step.prints x Q at_place at_byte (print o T)) ws.outside

  obeys : dis_step.obey frames_limit (object_of m) x r I op.Mcall ≡ dis_step.prints x Q at_place at_byte (print w.outside T)
  obeys =
      let loaded = ws.has.loaded H.loaded in
      ap (λ a. a >>= frame_at x r >>= λ f. (data_at x r.frame.instance >>= λ words. word_at words (pos 4)) >>= reference >>= module_at
      x >>= λ c.
      function_of c 16 >>= λ name. sys_call x r name f) h.making.address
      ∙ ap (λ a. a >>= λ f. (data_at x r.frame.instance >>= λ words. word_at words (pos 4)) >>= reference >>= module_at x >>= λ c.
      function_of c 16 >>= λ name. sys_call x r name f)
      (far.made_found x r n H.frames (own m proper k number w x ws p r 3 n h) (below m proper k number w x ws p r 3 n h) (pos 0))
      ∙ ap (λ i. (data_at x i >>= λ words. word_at words (pos 4)) >>= reference >>= module_at x >>= λ c.
      function_of c 16 >>= λ name. sys_call x r name n) H.frame.instance
      ∙ ap (λ a. (a >>= λ words. word_at words (pos 4)) >>= reference >>= module_at x >>= λ c.
      function_of c 16 >>= λ name. sys_call x r name n) (data_are m k w x ws)
      ∙ ap (λ o. or_wrong type_check o >>= reference >>= module_at x >>= λ c. function_of c 16 >>= λ name. sys_call x r name n)
      ws.has.module_word
      ∙ ap (λ s. module_at x s >>= λ c. function_of c 16 >>= λ name. sys_call x r name n) loaded.1
      ∙ ap (λ o. or_wrong dead_address o >>= λ c. function_of c 16 >>= λ name. sys_call x r name n) loaded.2
      ∙ called

  there_is : slice_get (object_of m).insts r.frame.pc ≡ Some I
  there_is =
      let c = its_code m proper k number w x ws p r 3 n h in
      ap (slice_get (object_of m).insts) (H.frame.here ∙ (let o : 4 + P ≡ suc (suc (suc (suc P))) = omega arith in o)) ∙ c.code.1.1.1.1.0

  -- ---- what both do then

  abbrev G : dis.Does → Type 0
  G e = Goal m proper k number w x ws p r e

  outcome : (g : Outcome) → AnswersInt g → print w.outside T ≡ g → G (dis_step.step frames_limit (object_of m ∷ []) x r)
  outcome NoReply int e = absurd (print_does w.outside T e)
  outcome (Requests v message kk) int e =
      subst G (sym (step_is m k w x r I _ ws H.frame.instance there_is (obeys ∙ ap (dis_step.prints x Q at_place at_byte) e)))
      (record {
        now = k;
        changes = as_known k;
        world = with_outside w v;
        after = _;
        comes = at_once m (paces.place m) k number x w p (paces.place m r) _ (slot_does ∙ ap (machine.prints w p waits) e);
        related = record {
          loaded = H.loaded;
          number = H.number;
          waits = waiting_frame;
          int = refl;
          stack = stack_same m F r.frame (at_pc r.frame (suc r.frame.pc)) p.below r.below refl refl H.stack;
          frames = refl;
          fresh = H.fresh;
          writing = kk;
          place = at_place;
          at = at_byte;
          answers = delivered.address_is m k w x ws p Q waits (suc r.frame.pc) waiting_frame refl refl below_it h.into;
          printing = refl;
          printing_too = refl;
        };
        worlds = outside_stands m k w x ws v;
      })
  outcome (Answers v a) (z, same, range) e =
      let w' = with_outside w v in
      let x' = outside_is x v in
      let ws' = outside_stands m k w x ws v in
      let d = delivers m k w' x' ws' p Q waits (suc r.frame.pc) waiting_frame refl refl below_it z range in
      let M = delivered.M m k w' x' ws' p Q waits (suc r.frame.pc) waiting_frame refl refl below_it h.into d.after in
      let after = delivered.on_with m k w' x' ws' p Q waits (suc r.frame.pc) waiting_frame refl refl below_it M.process.frame.words in
      let run = d.runs H.loaded H.number (stack_same m F r.frame (at_pc r.frame (suc r.frame.pc)) p.below r.below refl refl H.stack) H.fresh
      in
      let steps : dis_step.step frames_limit (object_of m ∷ []) x r ≡ Went M.world after =
      step_is m k w x r I _ ws H.frame.instance there_is
      (obeys ∙ ap (dis_step.prints x Q at_place at_byte) e
      ∙ ap (λ a. dis_step.answered x' Q at_place at_byte a >>= λ m. Found (next m)) same
      ∙ ap (λ a. a >>= λ m. Found (next m)) d.stores)
      ∙ ap (λ pc. Went M.world (with_frames M.process (at_pc M.process.frame (suc pc)) M.process.below M.process.made)) d.stays
      ∙ ap (Went M.world) d.goes in
      subst G (sym steps)
      (steps_once m (paces.place m) k number x w p (paces.place m r) (machine.stored w' waits h.into (Num z)).world _ M.world after
      (slot_does ∙ ap (machine.prints w p waits) e
      ∙ ap (λ a. machine.goes_with p p.below waits.pc (machine.stored w' waits h.into (Rattle.typed_meaning.specs.Values.number_of Int a)))
      same
      ∙ ap (λ u. machine.goes_with p p.below waits.pc (machine.stored w' waits h.into u)) (number_within Int z range))
      (begins run) d.worlds)

  pub prints_goes : G (dis_step.step frames_limit (object_of m ∷ []) x r)
  prints_goes = outcome (print w.outside T) (print_int w.outside T) refl
