-- Whatever the code does next, the program does too.
use Rattle.std.proofs.Common.{◌≡◌, ℕ, zero, suc, ◌+◌, ◌<◌, Bool, true, false, List, [], ◌∷◌, ◌++◌, length, map, replicate, Option, Some}
use Rattle.std.proofs.Common.{None, refl, sym, ap, subst, ◌∙◌, arith, ⊎_elim}
use Rattle.std.proofs.lemmas.List.{length-replicate}
use Rattle.std.specs.Prelude.{slice_get, nat_lt, if◌then◌else◌}
use Rattle.styx_msg.specs.declared.message.Rmsg.{Rmsg}
use Rattle.process_model.specs.Process.{Went, Parks, Polls, Spawns, Asks, Ends}
use Rattle.process_model.specs.Naming.{Still}
use Rattle.process_model.specs.Alone.{Quiets, no_loss, one_loss, Comes}
use Rattle.process_model.specs.Shared.{SharedSides, SharesHeap}
use Rattle.process_model.specs.Shared.{SharedMatches, SharedMatchesReply, SharedFollows}
use Rattle.process_model.proofs.Quiet.{quiets_none, same_step, burst_on, comes_on}
use Rattle.process_model.specs.Renaming.{Has}
use Rattle.heap_model.specs.Heap.{Heap, at, stays, gone}
use Rattle.heap_model.proofs.Heap.{bool_or, stays_twice, all_stay, has_gone, none_gone, part}
use Rattle.limbo_types.specs.Types.{Ty}
use Rattle.system_model.specs.Prints.{Request, Writing, Printing, Answers, Requests, NoReply, print, hear}
use Rattle.system_model.specs.Ending.{Ending, Ended, Broken}
use Rattle.limbo_meaning.specs.Values.{Value, Chars, references_in, among, one}
use Rattle.limbo_meaning.specs.Memory.{HeapValue, inside}
use Rattle.limbo_meaning.specs.Exceptions.{stack_overflow}
use Rattle.limbo_meaning.specs.Trees.{Block, Done, Then, Turn, Again, join}
use Rattle.limbo_meaning.specs.Program.{Routine, Program}
use Rattle.limbo_meaning.specs.Process as source
use Rattle.limbo_meaning.specs.Process.{Shared, shared_with, with_outside}
use Rattle.limbo_meaning.specs.Rules as source_rules
use Rattle.core_code.specs.Slots.{empty, slots_name}
use Rattle.core_code.specs.Code as code
use Rattle.core_code.specs.Code.{Instr, Function}
use Rattle.core_code.specs.Machine as machine
use Rattle.core_code.specs.Machine.{Frame, waiting}
use Rattle.core_code.specs.Statements.{function_of, code_of}
use Rattle.core_follows.specs.Handled.{HandledBlock}
use Rattle.core_follows.specs.Drops.{HasAt}
use Rattle.core_follows.specs.Does.{Does}
use Rattle.core_follows.specs.Stands.{beside, sourced, coded, joined, SlotsWhole, SlotsName, place, place_at, obeys, Stands, outside}
use Rattle.core_follows.specs.Stands.{going, quietly, Going}
use Rattle.core_follows.specs.Stands.{softly, obeying, Next, goes, rests, raises, calls, prints, returns, Waits, waits, Hears, hears}
use Rattle.core_follows.specs.Follows.{AllWait, none_waits, waits_below, Ready, ready, Asking, asking, sides, HandledProgram, CodeKeeps}
use Rattle.core_follows.proofs.Blocks.{body_does}
use Rattle.core_follows.proofs.Statements.{does_goes}
use Rattle.limbo_layout.specs.Adts.{Def}

-- ---- the heap

nothing_goes : (named : ℕ → ℕ) (h : Heap HeapValue) → gone inside named h ≡ [] → stays inside named h ≡ h
nothing_goes named h e = all_stay inside named h (λ n l. ⊎_elim
    (λ (x : part inside named h n ≡ true). x)
    (λ (x : part inside named h n ≡ false). absurd (none_has (gone inside named h) n e (has_gone inside named h n l x)))
    (bool_or (part inside named h n)))
  where
    none_has : (ns : List ℕ) (n : ℕ) → ns ≡ [] → Has ns n → ⊥
    none_has [] n e h = h
    none_has (m ∷ ns) n e h = absurd cc

still_there : (named : ℕ → ℕ) (w : Shared) → Still source_rules.naming named (source_rules.naming.trim named w)
still_there named w =
    let e = stays_twice inside named w.heap in
    record {
      kept = ap (λ (h : Heap HeapValue). record { heap = h; outside = w.outside }) e;
      none = none_gone inside named
          (stays inside named w.heap) e;
    }

-- ---- a function has its code

data Compiled (program : Program) (f : ℕ) : Type 0 where
  missing : slice_get program.routines f ≡ None → slice_get (code_of program).functions f ≡ None → Compiled program f
  is_there : (r : Routine) → slice_get program.routines f ≡ Some r → slice_get (code_of program).functions f ≡ Some
      (function_of program.adts r)
      → Compiled program f

compiled : (program : Program) (f : ℕ) → Compiled program f
compiled program f = go program.routines f
    (λ e h. missing e h) (λ r e h. is_there r e h)
  where
    go : (rs : List Routine) (f : ℕ) → {X : Type 0} → (slice_get rs f ≡ None → slice_get (map (function_of program.adts) rs) f ≡ None → X)
        → ((r : Routine) → slice_get rs f ≡ Some r → slice_get (map (function_of program.adts) rs) f ≡ Some (function_of program.adts r)
        → X) → X
    go [] f none has = none refl refl
    go (r ∷ rs) zero none has = has r refl refl
    go (r ∷ rs) (suc f) none has = go rs f none has

pub join_done : (defs : List Def) (k : ℕ) (b : Block) → HandledBlock defs k b → join b Done ≡ b
join_done defs k Done h = refl
join_done defs k (Then s b) h = ap (Then s) (join_done defs k b h.1)
join_done defs k (Turn l b) h = absurd h
join_done defs k (Again l b) h = absurd h

pub has_all : (front is : List Instr) → HasAt (front ++ is) (length front) is
has_all front [] = tt
has_all front (i ∷ is) = (
  nth front,
  subst (λ (c : List Instr). HasAt c (suc (length front)) is) (assoc front)
      (subst (λ (k : ℕ). HasAt ((front ++ (i ∷ [])) ++ is) k is) (long front) (has_all (front ++ (i ∷ [])) is)),
)
  where
    nth : (xs : List Instr) → slice_get (xs ++ (i ∷ is)) (length xs) ≡ Some i
    nth [] = refl
    nth (x ∷ xs) = nth xs

    assoc : (xs : List Instr) → (xs ++ (i ∷ [])) ++ is ≡ xs ++ (i ∷ is)
    assoc [] = refl
    assoc (x ∷ xs) = ap (λ (ys : List Instr). x ∷ ys) (assoc xs)

    long : (xs : List Instr) → length (xs ++ (i ∷ [])) ≡ suc (length xs)
    long [] = refl
    long (x ∷ xs) = ap suc (long xs)

empty_names : (n k : ℕ) → slots_name (replicate k empty) n ≡ 0
empty_names n zero = refl
empty_names n (suc k) = let a = empty_names n k in omega arith

empty_whole : (k : ℕ) → SlotsWhole (replicate k empty)
empty_whole zero s = refl
empty_whole (suc k) zero = refl
empty_whole (suc k) (suc s) = empty_whole k s

place_small : (o : Option Instr) → place_at o < 3
place_small None = omega arith
place_small (Some i) = small i
  where
    small : (i : Instr) → place i < 3
    small (code.Place t v k n into from) = omega arith
    small (code.Known v s) = omega arith
    small (code.Start c) = omega arith
    small (code.Keep c from words) = omega arith
    small (code.Back n) = omega arith
    small _ = omega arith

module _ (limit : ℕ) (program : Program) (handled : HandledProgram program) where
  abbrev S : SharedSides Shared Shared source.Process machine.Process Value Request Rmsg Ending
  S = sides limit program

  -- A function's frame, where nothing is done yet.
  begins_so : (f : ℕ) (r : Routine) → slice_get program.routines f ≡ Some r → (instance : ℕ) (t : Ty) (arguments : List Value)
      → Stands limit program (machine.frame_of program.adts instance (function_of program.adts r) t arguments) [] r.body
  begins_so f r e instance t arguments =
      let g = function_of program.adts r in
      let h = handled f r e in
      outside (λ n. empty_names n g.slots) (empty_whole g.slots)
      (subst (λ (n : ℕ). Does program.adts g.code n 0 r.body) (sym (length-replicate g.slots empty))
      (subst (λ (b : Block). Does program.adts g.code g.slots 0 b) (join_done program.adts 0 r.body h)
      (body_does program.adts g.code g.slots r.body h (omega arith) (has_all [] g.code))))

  -- ---- names

  mutual
    stands_name : (g : Frame) (held : List (Option ℕ)) (todo : Block) → Stands limit program g held todo → SlotsName g.slots held
    stands_name g held todo (outside names whole d) = names
    stands_name g held todo (going x) = going_name g held todo x
    stands_name g held todo (quietly after q s) = stands_name g held after s

    going_name : (g : Frame) (held : List (Option ℕ)) (todo : Block) → Going limit program g held todo → SlotsName g.slots held
    going_name g held todo (softly after q s) = going_name g held after s
    going_name g held todo (obeying i names e k) = names

  frame_same : (g : Frame) (held : List (Option ℕ)) (todo : Block) → SlotsName g.slots held → (n : ℕ)
      → source.frame_names (beside g held todo) n ≡ machine.frame_names g n
  frame_same g held todo names n =
      ap (λ (k : ℕ). one n (Some g.instance) + (among n (references_in g.variables) + k)) (sym (names n))

  waits_name : (g : Frame) (t : Ty) (held : List (Option ℕ)) (todo : Block) → Waits limit program g t held todo → SlotsName g.slots held
  waits_name g t held todo (waits names k) = names

  all_same : (t : Ty) (fs : List source.Frame) (gs : List Frame) → AllWait limit program t fs gs → (n : ℕ)
      → source.frames_name fs n ≡ machine.frames_name gs n
  all_same t fs gs none_waits n = refl
  all_same t fs gs (waits_below {fs = fs'} {gs = gs'} g held todo w rest) n =
      let a = frame_same g held todo (waits_name g t held todo w) n in
      let b = all_same g.answer fs' gs' rest n in
      ap (λ (k : ℕ). k + source.frames_name fs' n) a ∙ ap (λ (k : ℕ). machine.frame_names g n + k) b

  all_long : (t : Ty) (fs : List source.Frame) (gs : List Frame) → AllWait limit program t fs gs → length fs ≡ length gs
  all_long t fs gs none_waits = refl
  all_long t fs gs (waits_below {fs = fs'} {gs = gs'} g held todo w rest) = ap suc (all_long g.answer fs' gs' rest)

  both_name : (g : Frame) (held : List (Option ℕ)) (todo : Block) (fs : List source.Frame) (gs : List Frame) → SlotsName g.slots held
      → AllWait limit program g.answer fs gs → (n : ℕ)
      → source.frame_names (beside g held todo) n + source.frames_name fs n ≡ machine.frame_names g n + machine.frames_name gs n
  both_name g held todo fs gs names below n =
      ap (λ (k : ℕ). k + source.frames_name fs n) (frame_same g held todo names n)
      ∙ ap (λ (k : ℕ). machine.frame_names g n + k) (all_same g.answer fs gs below n)

  -- ---- one instruction

  stands_going : (g : Frame) (held : List (Option ℕ)) (todo : Block) → Stands limit program g held todo → Going limit program g held todo
  stands_going g held todo (outside names whole d) =
      does_goes limit program g (length g.slots) g.pc todo d g.into g.variables g.slots refl (names, whole)
  stands_going g held todo (going x) = x
  stands_going g held todo (quietly after q s) = softly after q (stands_going g held after s)

  abbrev Matches : ℕ → Shared → source.Process → machine.Does → Type 0
  Matches at w p e = SharedMatches S (λ q. place_at (slice_get q.frame.code q.frame.pc)) at w p e

  -- A step of the program that an instruction stands for.
  moves_on : (at : ℕ) (w w' : Shared) (p p' : source.Process) (q : machine.Process) → S.program.step w p ≡ Went w' p'
      → Ready limit program p' q
      → Matches at w p (Went w' q)
  moves_on at w w' p p' q e r = record {
    steps = 1;
    world = w';
    after = p';
    burst = one_loss (quiets_none S.program S.naming w p) e;
    related = r;
    worlds = refl;
    pace = λ z. absurd cc;
  }

  comes_at_once : (w : Shared) (p : source.Process) (e : source.Does) → S.program.step w p ≡ e → Comes S.program S.naming w p e
  comes_at_once w p e f = record { steps = 0; world = w; before = p; quiets = quiets_none S.program S.naming w p; does = f }

  stands_still : (at : ℕ) (w : Shared) (g : Frame) (held : List (Option ℕ)) (todo : Block) (n : ℕ) (fs : List source.Frame)
      (gs : List Frame)
      (p : Option Writing) → SlotsName g.slots held → AllWait limit program g.answer fs gs
      → S.program.step w (sourced n (beside g held todo) fs) ≡ Parks w [] (sourced n (beside g held todo) fs)
      → Matches at w (sourced n (beside g held todo) fs) (Parks w [] (coded n g gs p))
  stands_still at w g held todo n fs gs p names below e = record {
    world = w;
    after = sourced n (beside g held todo) fs;
    comes = comes_at_once w (sourced n (beside g held todo) fs) (Parks w [] (sourced n (beside g held todo) fs)) e;
    waits = record { names = both_name g held todo fs gs names below; wakes = λ j a v w y f. absurd cc };
    worlds = refl;
  }

  ends_so : (at : ℕ) (w : Shared) (p : source.Process) (how : Ending) → S.program.step w p ≡ Ends w how → Matches at w p (Ends w how)
  ends_so at w p how e = record { world = w; comes = comes_at_once w p (Ends w how) e; worlds = refl }

  -- A quiet step in front.
  behind_quiet : (at : ℕ) (w : Shared) (p p1 : source.Process) (e : machine.Does) → Quiets S.program S.naming 1 w p w p1
      → Matches at w p1 e → Matches at w p e
  behind_quiet at w p p1 (Went y q) a m = record {
    steps = suc m.steps;
    world = m.world;
    after = m.after;
    burst = burst_on S.program S.naming a m.burst;
    related = m.related;
    worlds = m.worlds;
    pace = λ z. absurd (omega arith);
  }
  behind_quiet at w p p1 (Parks y bs q) a m = record {
    world = m.world;
    after = m.after;
    comes = comes_on S.program S.naming _ a m.comes;
    waits = m.waits;
    worlds = m.worlds;
  }
  behind_quiet at w p p1 (Polls y bs q q') a m = record {
    world = m.world;
    after = m.after;
    by_itself = m.by_itself;
    comes = comes_on S.program S.naming _ a m.comes;
    waits = m.waits;
    related = m.related;
    worlds = m.worlds;
  }
  behind_quiet at w p p1 (Spawns y child q) a m = record {
    world = m.world;
    own = m.own;
    after = m.after;
    comes = comes_on S.program S.naming _ a m.comes;
    related_child = m.related_child;
    related = m.related;
    worlds = m.worlds;
  }
  behind_quiet at w p p1 (Asks y x q) a m = record {
    world = m.world;
    after = m.after;
    comes = comes_on S.program S.naming _ a m.comes;
    related = m.related;
    worlds = m.worlds;
  }
  behind_quiet at w p p1 (Ends y how) a m = record { world = m.world; comes = comes_on S.program S.naming _ a m.comes; worlds = m.worlds }

  -- ---- calls and prints

  -- There is room for one frame more, or there isn't.
  room_so : (at : ℕ) (w : Shared) (p first : source.Process) (q : machine.Process) (b : Bool)
      → S.program.step w p ≡ (if b then Went w first else Ends w (Broken stack_overflow)) → Ready limit program first q
      → Matches at w p (if b then Went w q else Ends w (Broken stack_overflow))
  room_so at w p first q true e r = moves_on at w w p first q e r
  room_so at w p first q false e r = ends_so at w p (Broken stack_overflow) e

  calls_so : (at : ℕ) (w : Shared) (g : Frame) (held : List (Option ℕ)) (todo waiting_todo : Block) (n into : ℕ) (fs : List source.Frame)
      (gs : List Frame)
      (p : Option Writing) (t : Ty) (f : ℕ) (arguments : List Value) → SlotsName g.slots held → AllWait limit program g.answer fs gs
      → Waits limit program (waiting g into) t held waiting_todo
      → S.program.step w (sourced n (beside g held todo) fs)
      ≡ source.calls program.adts limit w (sourced n (beside g held todo) fs) waiting_todo t (slice_get program.routines f) arguments
      → Matches at w (sourced n (beside g held todo) fs)
      (machine.calls program.adts limit w (coded n g gs p) t into (slice_get (code_of program).functions f) arguments)
  calls_so at w g held todo wt n into fs gs p t f arguments names below ws e = by (compiled program f)
    where
      by : Compiled program f → Matches at w (sourced n (beside g held todo) fs)
          (machine.calls program.adts limit w (coded n g gs p) t into (slice_get (code_of program).functions f) arguments)
      by (missing a b) =
          subst (λ (o : Option Function). Matches at w (sourced n (beside g held todo) fs)
          (machine.calls program.adts limit w (coded n g gs p) t into o arguments)) (sym b)
          (stands_still at w g held todo n fs gs p names below
          (e ∙ ap (λ (o : Option Routine). source.calls program.adts limit w (sourced n (beside g held todo) fs) wt t o arguments) a))
      by (is_there r a b) =
          subst (λ (o : Option Function). Matches at w (sourced n (beside g held todo) fs)
          (machine.calls program.adts limit w (coded n g gs p) t into o arguments)) (sym b)
          (room_so at w (sourced n (beside g held todo) fs) (sourced n (source.frame_of program.adts g.instance r t arguments)
          (beside (waiting g into) held wt ∷ fs))
          (coded n (machine.frame_of program.adts g.instance (function_of program.adts r) t arguments) (waiting g into ∷ gs) None)
          (nat_lt (suc (length gs)) limit)
          (e ∙ ap (λ (o : Option Routine). source.calls program.adts limit w (sourced n (beside g held todo) fs) wt t o arguments) a
          ∙ ap (λ (k : ℕ). if nat_lt (suc k) limit
          then Went w (sourced n (source.frame_of program.adts g.instance r t arguments) (beside (waiting g into) held wt ∷ fs))
          else Ends w (Broken stack_overflow)) (all_long g.answer fs gs below))
          (ready n (machine.frame_of program.adts g.instance (function_of program.adts r) t arguments) [] r.body None
          (begins_so f r a g.instance t arguments)
          (waits_below (waiting g into) held wt ws below)))

  prints_so : (at : ℕ) (w : Shared) (g : Frame) (held : List (Option ℕ)) (todo wt : Block) (n into : ℕ) (o : Option ℕ) (fs : List source.Frame)
      (gs : List Frame)
      (p : Option Writing) (a : Printing) → SlotsName g.slots held → AllWait limit program g.answer fs gs → Hears limit program
      (waiting (joined (Chars [] ∷ []) g o) into) held wt
      → S.program.step w (sourced n (beside g held todo) fs) ≡ source.prints w (sourced n (beside g held todo) fs) wt a
      → Matches at w (sourced n (beside g held todo) fs) (machine.prints w (coded n g gs p) (waiting (joined (Chars [] ∷ []) g o) into) a)
  prints_so at w g held todo wt n into j fs gs p (Answers o v) names below (hears names' k) e =
      moves_on at w (with_outside w o) (sourced n (beside g held todo) fs) _ _ e (ready n _ held _ None (k v) below)
  prints_so at w g held todo wt n into j fs gs p (Requests o m k) names below h e = record {
    world = with_outside w o;
    after = record { number = n; frame = beside g held wt; below = fs; printing = Some k };
    comes = comes_at_once w (sourced n (beside g held todo) fs) _ e;
    related = asking n (waiting (joined (Chars [] ∷ []) g j) into) held wt (Some k) h below;
    worlds = refl;
  }
  prints_so at w g held todo wt n into j fs gs p NoReply names below h e = stands_still at w g held todo n fs gs p names below e

  returns_so : (at : ℕ) (w : Shared) (g : Frame) (held : List (Option ℕ)) (todo : Block) (n : ℕ) (fs : List source.Frame) (gs : List Frame)
      (p : Option Writing) (v : Value) → AllWait limit program g.answer fs gs
      → S.program.step w (sourced n (beside g held todo) fs) ≡ source.returns program.adts w (sourced n (beside g held todo) fs) fs v
      → Matches at w (sourced n (beside g held todo) fs) (machine.returns program.adts w (coded n g gs p) gs v)
  returns_so at w g held todo n fs gs p v none_waits e = ends_so at w (sourced n (beside g held todo) []) Ended e
  returns_so at w g held todo n fs gs p v (waits_below {fs = fs'} {gs = gs'} f held' todo' (waits names k) below) e =
      moves_on at w w (sourced n (beside g held todo) (beside f held' todo' ∷ fs')) _ _ e (ready n _ _ _ None (k v) below)

  -- ---- all instructions

  matches : (g : Frame) (held : List (Option ℕ)) (todo : Block) → Going limit program g held todo → (w : Shared) (n : ℕ)
      (fs : List source.Frame)
      (gs : List Frame) (p : Option Writing) → AllWait limit program g.answer fs gs
      → Matches (place_at (slice_get g.code g.pc)) w (sourced n (beside g held todo) fs) (S.code.step w (coded n g gs p))
  matches g held todo (softly after q x) w n fs gs p below =
      let a = going_name g held after x in
      behind_quiet (place_at (slice_get g.code g.pc)) w (sourced n (beside g held todo) fs) (sourced n (beside g held after) fs)
      (S.code.step w (coded n g gs p))
      (same_step S.program S.naming w (sourced n (beside g held todo) fs) (sourced n (beside g held after) fs) (q w n fs) (λ k. refl))
      (matches g held after x w n fs gs p below)
  matches g held todo (obeying i names e k) w n fs gs p below =
      let P = sourced n (beside g held todo) fs in
      let at = place_at (slice_get g.code g.pc) in
      subst (λ (o : Option Instr). Matches at w P (machine.next limit (code_of program) w (coded n g gs p) o)) (sym e) (by (k w) refl)
    where
      abbrev_at : ℕ
      abbrev_at = place_at (slice_get g.code g.pc)

      by : Next limit program w g held todo i → abbrev_at ≡ abbrev_at
          → Matches (place_at (slice_get g.code g.pc)) w (sourced n (beside g held todo) fs) (obeys limit program w (coded n g gs p) i)
      by (goes m pc slots held' after does steps st) z =
          subst (Matches (place_at (slice_get g.code g.pc)) w (sourced n (beside g held todo) fs)) (sym (does n gs p))
          (moves_on (place_at (slice_get g.code g.pc)) w (shared_with w m) (sourced n (beside g held todo) fs) _ _ (steps n fs)
          (ready n _ held' after None st below))
      by (rests pc slots does rank st) z =
          subst (Matches (place_at (slice_get g.code g.pc)) w (sourced n (beside g held todo) fs)) (sym (does n gs p))
          (record {
            steps = 0;
            world = w;
            after = sourced n (beside g held todo) fs;
            burst = no_loss (quiets_none S.program S.naming w (sourced n (beside g held todo) fs));
            related = ready n _ held todo None st below;
            worlds = refl;
            pace = λ x. subst (λ (o : Option Instr). place_at o < place_at (slice_get g.code pc)) (sym e) rank;
          })
      by (raises text does steps) z =
          subst (Matches (place_at (slice_get g.code g.pc)) w (sourced n (beside g held todo) fs)) (sym (does n gs p))
          (ends_so (place_at (slice_get g.code g.pc)) w (sourced n (beside g held todo) fs) (Broken text) (steps n fs))
      by (calls t f into o arguments wt does steps ws) z =
          subst (Matches (place_at (slice_get g.code g.pc)) w (sourced n (beside g held todo) fs)) (sym (does n gs p))
          (calls_so (place_at (slice_get g.code g.pc)) w (joined [] g o) held todo wt n into fs gs p t f arguments
          (waits_name (waiting (joined [] g o) into) t held wt ws) below ws (steps n fs))
      by (prints into o text wt does steps h) z =
          subst (Matches (place_at (slice_get g.code g.pc)) w (sourced n (beside g held todo) fs)) (sym (does n gs p))
          (prints_so (place_at (slice_get g.code g.pc)) w g held todo wt n into o fs gs p (print w.outside text) names below h (steps n fs))
      by (returns v does steps) z =
          subst (Matches (place_at (slice_get g.code g.pc)) w (sourced n (beside g held todo) fs)) (sym (does n gs p))
          (returns_so (place_at (slice_get g.code g.pc)) w g held todo n fs gs p v below (steps n fs))

  each : (w y : Shared) (p : source.Process) (q : machine.Process) → Ready limit program p q → w ≡ y
      → Matches (place_at (slice_get q.frame.code q.frame.pc)) w p (S.code.step y q)
  each w y p q (ready {below = fs} {gs = gs} n g held todo pr st below) e =
      subst (λ (z : Shared). Matches (place_at (slice_get g.code g.pc)) w (sourced n (beside g held todo) fs)
      (S.code.step z (coded n g gs pr))) e
      (matches g held todo (stands_going g held todo st) w n fs gs pr below)

  -- ---- replies

  hears_so : (w : Shared) (n : ℕ) (g : Frame) (held : List (Option ℕ)) (todo : Block) (fs : List source.Frame) (gs : List Frame)
      (pr : Option Writing)
      (a : Printing) → Hears limit program g held todo → AllWait limit program g.answer fs gs
      → SharedMatchesReply S (source.hears w (record { number = n; frame = beside g held todo; below = fs; printing = pr }) a)
      (machine.hears w (coded n g gs pr) a)
  hears_so w n g held todo fs gs pr (Answers o v) (hears names k) below =
      record { world = with_outside w o; after = _; does = refl; related = ready n _ held _ None (k v) below; worlds = refl }
  hears_so w n g held todo fs gs pr (Requests o m k) h below =
      record { world = with_outside w o; after = _; does = refl; related = asking n g held todo (Some k) h below; worlds = refl }
  hears_so w n g held todo fs gs pr NoReply h below = tt

  answers_so : (a : Rmsg) (w y : Shared) (p : source.Process) (q : machine.Process) → Asking limit program p q → w ≡ y
      → SharedMatchesReply S (S.program.answer a w p) (S.code.answer a y q)
  answers_so a w y p q (asking {below = fs} {gs = gs} n g held todo None h below) e = tt
  answers_so a w y p q (asking {below = fs} {gs = gs} n g held todo (Some k) h below) e =
      subst (λ (z : Shared). SharedMatchesReply S
      (source.hears w (record { number = n; frame = beside g held todo; below = fs; printing = Some k }) (hear a w.outside k))
      (machine.hears z (coded n g gs (Some k)) (hear a z.outside k))) e
      (hears_so w n g held todo fs gs (Some k) (hear a w.outside k) h below)

  heap_shared : SharesHeap S
  heap_shared = record {
    trim = λ named w y e. ap (λ (z : Shared). S.naming.trim named z) e;
    gone = λ named w y e. ap (λ (z : Shared). S.naming.gone named z) e;
    still = λ named w y e. still_there named w;
    kept = λ named w y e z. ap (λ (h : Heap HeapValue). record { heap = h; outside = w.outside }) (nothing_goes named w.heap z);
    kept_too = λ named w y e z. ap (λ (h : Heap HeapValue). record { heap = h; outside = y.outside }) (nothing_goes named y.heap z);
    holds = λ bs n. refl;
    names = ready_names;
    names_asking = asking_names;
  }
    where
      ready_names : (p : source.Process) (q : machine.Process) → Ready limit program p q → (n : ℕ) → source.process_names p n ≡
          machine.process_names q n
      ready_names p q (ready {below = fs} {gs = gs} k g held todo pr st below) n = both_name g held todo fs gs
          (stands_name g held todo st) below n

      asking_names : (p : source.Process) (q : machine.Process) → Asking limit program p q → (n : ℕ) → source.process_names p n ≡
          machine.process_names q n
      asking_names p q (asking {below = fs} {gs = gs} k g held todo pr (hears names h) below) n = both_name g held todo fs gs names below n

  follows_code : SharedFollows S
  follows_code = record {
    heap = heap_shared;
    place = λ q. place_at (slice_get q.frame.code q.frame.pc);
    bound = 3;
    some = omega arith;
    within = λ p q r. place_small (slice_get q.frame.code q.frame.pc);
    each = each;
    answers = answers_so;
    downs = λ l w y y' e f. absurd cc;
  }

  begins_ready : (n instance f : ℕ) (r : Routine) (g : Function) (t : Ty) (arguments : List Value) → slice_get program.routines f ≡ Some r
      → slice_get (code_of program).functions f ≡ Some g
      → Ready limit program (sourced n (source.frame_of program.adts instance r t arguments) [])
      (coded n (machine.frame_of program.adts instance g t arguments) [] None)
  begins_ready n instance f r g t arguments e h = by (compiled program f)
    where
      by : Compiled program f → Ready limit program (sourced n (source.frame_of program.adts instance r t arguments) [])
          (coded n (machine.frame_of program.adts instance g t arguments) [] None)
      by (missing a b) = let x : None ≡ Some r = sym a ∙ e in absurd cc
      by (is_there r' a b) =
          let x : Some r' ≡ Some r = sym a ∙ e in
          let y : r' ≡ r = cc in
          let z : Some (function_of program.adts r') ≡ Some g = sym b ∙ h in
          let u : function_of program.adts r' ≡ g = cc in
          subst (λ (o : Function). Ready limit program (sourced n (source.frame_of program.adts instance r t arguments) [])
          (coded n (machine.frame_of program.adts instance o t arguments) [] None)) (ap (function_of program.adts) (sym y) ∙ u)
          (ready n (machine.frame_of program.adts instance (function_of program.adts r) t arguments) [] r.body None
          (begins_so f r e instance t arguments) none_waits)

pub code_keeps : CodeKeeps
unfolding follows_code
code_keeps limit program handled = record {
  follows = follows_code limit program handled;
  pace = refl;
  begins = begins_ready limit
      program handled;
}
