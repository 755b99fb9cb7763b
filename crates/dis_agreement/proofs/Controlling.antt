-- Calls, frames, modules and prints are the same on both machines.
use Rattle.std.proofs.Common.{◌≡◌, ℕ, suc, ℤ, Bool, true, false, List, [], ◌∷◌, length, refl, sym, ap, subst, ◌∙◌, inl, inr, if◌then◌else◌}
use Rattle.std.specs.Prelude.{Option, Some, None, pos, slice_get, nat_lt, nat_eq, codes}
use Rattle.std.specs.Ordering.{int_eq}
use Rattle.std.specs.Str.{bytes_eq}
use Rattle.process_model.specs.Process.{Went, Ends}
use Rattle.dis_isa.specs.declared.inst.Inst.{Inst}
use Rattle.dis_isa.specs.declared.inst.Operand.{Operand}
use Rattle.dis_isa.specs.declared.op.Op.TheVariants as op
use Rattle.dis_file.specs.declared.object.Object.{Object}
use Rattle.dis_file.specs.declared.types.TypeDesc.{TypeDesc}
use Rattle.system_model.specs.Values.{Value}
use Rattle.system_model.specs.World as outside
use Rattle.system_model.specs.Prints.{Printing, Answers, Requests, NoReply, print}
use Rattle.system_model.specs.Ending.{Broken}
use Rattle.dis_meaning.specs.Words.{Place, InBlock, InFrame, Word, Plain, Refer, Address, Access, Found, Wrong, ◌>>=◌, type_check}
use Rattle.dis_meaning.specs.Words.{or_wrong, word_at, blank, dead_address}
use Rattle.dis_meaning.specs.World as today
use Rattle.dis_meaning.specs.Process as process
use Rattle.dis_meaning.specs.Process.{Frame, Process, with_frames, at_pc, height}
use Rattle.dis_meaning.specs.Places as old
use Rattle.dis_meaning.specs.Places.{Spot, Far, words_in, all_frames, place_in}
use Rattle.dis_meaning.specs.Step as step
use Rattle.dis_meaning.specs.Step.{made_frame, frame_of, without, place_of, names, path_of_sys, word_of, new_frame}
use Rattle.dis_memory.specs.Blocks.{Sys, World, block}
use Rattle.dis_memory.specs.Places as new
use Rattle.dis_memory.specs.Operands as operands
use Rattle.dis_memory.specs.Control as control
use Rattle.dis_memory.specs.Results as results
use Rattle.dis_memory.specs.Process.{Does, next}
use Rattle.dis_memory.specs.Sound.{IsThere, SomeRefers, FramesRefer, NothingDangles}
use Rattle.dis_memory.proofs.Growing.{both, found_same}
use Rattle.dis_memory.proofs.Sound.{reference_sound}
use Rattle.dis_counts.proofs.Named.{last_refer}
use Rattle.dis_agreement.specs.Agreement.{WorldsAgree, WaitsInside}
use Rattle.dis_agreement.proofs.Following.{Follows, found, wrong, raises, Same, finds, fails, throws, itself, chain, with_same, on}
use Rattle.dis_agreement.proofs.Reading.{immediate_same, middle_immediate_same, target_same, behind_same, spot_same, word_same}
use Rattle.dis_agreement.proofs.Reading.{reference_same}
use Rattle.dis_agreement.proofs.Reading.{text_same, module_follows, function_same}
use Rattle.dis_agreement.proofs.Storing.{Obeys, MemoriesAgree, goes_on, then_next, store_follows, gives_reference, gives_sys}
use Rattle.dis_agreement.proofs.Formatting.{printed_same}

-- ---- frames

made_refers : (fs : List Frame) (s : ℕ) (f : Frame) (n : ℕ) → made_frame fs s ≡ Found f → SomeRefers f.words n → FramesRefer fs n
made_refers [] s f n e r = absurd cc
made_refers (g ∷ fs) s f n e r = go (nat_eq g.serial s) e (λ h. made_refers fs s f n h r)
  where
    go : (b : Bool) → (if b then Found g else made_frame fs s) ≡ Found f → (made_frame fs s ≡ Found f → FramesRefer fs n)
        → FramesRefer (g ∷ fs) n
    go true e rest = inl (inr (subst (λ (h : Frame). SomeRefers h.words n) (sym (found_same g f e)) r))
    go false e rest = inr (rest e)

frame_refers : (y : World) (p : Process) (w : Word) (f : Frame) (n : ℕ) → control.frame_at y p w ≡ Found f → SomeRefers f.words n
    → FramesRefer p.made n
frame_refers y p (Address (InFrame s) at) f n e r =
    let h = both (words_in s (all_frames p)) (λ words. if int_eq at (pos 0) then made_frame p.made s else Wrong type_check) f e in
    go (int_eq at (pos 0)) h.then
  where
    go : (b : Bool) → (if b then made_frame p.made s else Wrong type_check) ≡ Found f → FramesRefer p.made n
    go true e = made_refers p.made s f n e r
    go false e = absurd cc
frame_refers y p (Address (InBlock k) at) f n e r = let h = both (block y k) (λ b. Wrong type_check) f e in let g = h.then in absurd cc
frame_refers y p (Plain z) f n e r = absurd cc
frame_refers y p (Refer s) f n e r = absurd cc

-- ---- prints

pub outside_agrees : (x : today.World) (y : World) (u : outside.World) → WorldsAgree x y
    → WorldsAgree (step.outside_is x u) (control.with_outside y u)
outside_agrees x y u w = record { outside = refl; frames = w.frames; blocks = w.blocks; instance = w.instance }

answer_same : (ws : List Word) → Same (step.answer_spot ws) (control.answer_spot ws)
answer_same ws = on _ _ (itself (word_at ws (pos 16))) (λ v e f. behind_same v (pos 0))

module _ (x : today.World) (y : World) (w : WorldsAgree x y) (here : IsThere y 0) where
  -- The answer of a print goes to its place.
  pub answered_follows : (p : Process) (u : outside.World) (place : Place) (at : ℤ) (v : Value)
      → Follows MemoriesAgree (step.answered (step.outside_is x u) p place at v) (control.answered (control.with_outside y u) p place at v)
  answered_follows p u place at v =
      store_follows (step.outside_is x u) (control.with_outside y u) p (outside_agrees x y u w) here (Far place at) (word_of v)

  prints_same : (p : Process) → WaitsInside p.frame.instance p.printing → p.frame.instance ≡ 0 → (place : Place) (at : ℤ) (g : Printing)
      → Obeys (step.prints x p place at g) (control.prints y p place at g)
  prints_same p waits inside place at (Answers u v) = then_next (answered_follows p u place at v)
  prints_same p waits inside place at (Requests u m k) = found _ _ (refl, refl, outside_agrees x y u w, inside)
  prints_same p waits inside place at NoReply = found _ _ (refl, refl, w, waits)

module _ (x : today.World) (y : World) (p : Process) (w : WorldsAgree x y) (d : NothingDangles y p) (here : IsThere y 0) where
  -- ---- frames of a process

  frame_same : (v : Word) → Same (step.frame_at x p v) (control.frame_at y p v)
  frame_same (Address (InFrame s) at) = itself (frame_of p s at)
  frame_same (Address (InBlock n) at) = go (slice_get x.blocks n)
    where
      go : (o : Option today.Content)
          → Same {T = Frame} (or_wrong dead_address o >>= λ c. Wrong type_check) (block y n >>= λ b. Wrong type_check)
      go None = fails dead_address _
      go (Some c) = fails 110 _
  frame_same (Plain z) = fails 110 _
  frame_same (Refer r) = fails 110 _

  frames_same : (o : Operand) → Same (old.source_word x p o >>= step.frame_at x p) (new.source_word y p o >>= control.frame_at y p)
  frames_same o = on _ _ (word_same x y p w here o) (λ v e f. frame_same v)

  frame_there : (o : Operand) (f : Frame) → new.source_word y p o >>= control.frame_at y p ≡ Found f → (n : ℕ) → SomeRefers f.words n
      → IsThere y n
  frame_there o f e n r =
      let h = both (new.source_word y p o) (control.frame_at y p) f e in
      d.process n (inr (last_refer n p.below p.made (frame_refers y p h.first f n h.then r)))

  -- ---- the instructions

  pub returns_same : (fs : List Frame) → Obeys (Found (step.returns x p fs)) (Found (control.returns y p fs))
  returns_same [] = found _ _ (refl, w)
  returns_same (f ∷ fs) = found _ _ (refl, w, tt)

  calls_same : (limit : ℕ) (f : Frame) (pc : ℕ) → Obeys (Found (step.calls limit x p f pc)) (Found (control.calls limit y p f pc))
  calls_same limit f pc =
      go (nat_lt (height p) limit) (with_frames p (at_pc f pc) (at_pc p.frame (suc p.frame.pc) ∷ p.below) (without f.serial p.made)) tt
    where
      go : (b : Bool) (q : Process) → WaitsInside q.frame.instance q.printing
          → Obeys (Found (if b then Went x q else Ends x (Broken (codes "stack overflow"))))
          (Found (if b then Went y q else Ends y (Broken (codes "stack overflow"))))
      go true q k = found _ _ (refl, w, k)
      go false q k = found _ _ (refl, w)

  framed_on : (desc : TypeDesc) (m : old.Memory) (n : new.Memory) → MemoriesAgree m n
      → Obeys (Found (step.next (step.framed m (blank desc)))) (Found (next (control.framed n (blank desc))))
  framed_on desc m n a =
      goes_on (step.framed m (blank desc)) (control.framed n (blank desc))
      (record {
        worlds = record {
          outside = a.worlds.outside;
          frames = ap suc a.worlds.frames;
          blocks = a.worlds.blocks;
          instance = a.worlds.instance;
        };
        process =
            ap (λ s. new_frame s n.process (blank desc)) a.worlds.frames ∙ ap (λ q. new_frame m.world.frames q (blank desc)) a.process;
      })

  typed : {a b : Access ℕ} (o : Object) (f : TypeDesc → Access process.Does) (g : TypeDesc → Access Does) → Same a b
      → ((desc : TypeDesc) → Obeys (f desc) (g desc))
      → Obeys (a >>= λ n. or_wrong type_check (slice_get o.types n) >>= f) (b >>= operands.type_of o >>= g)
  typed o f g (finds n) h = with_same f g (itself (or_wrong type_check (slice_get o.types n))) (λ desc e k. h desc)
  typed o f g (fails n b) h = wrong n _
  typed o f g (throws text) h = raises text

  module _ (limit : ℕ) (o : Object) (i : Inst) where
    pub jmp_same : Obeys (step.obey limit o x p i op.Jmp) (control.jmp limit o y p i)
    jmp_same = with_same _ _ (target_same o i.dst) (λ pc e f. found _ _ (refl, w, tt))

    pub frame_obeys : Obeys (step.obey limit o x p i op.Frame) (control.frame limit o y p i)
    frame_obeys =
        typed o _ _ (immediate_same i.src) (λ desc. with_same _ _ (spot_same x y p w here i.dst) (λ d e f.
        chain _ _ (made d) (λ m n a b r. framed_on desc m n r)))
      where
        made : (d : Spot)
            → Follows MemoriesAgree (old.store x p d (Address (InFrame x.frames) (pos 0)))
            (new.store y p d (Address (InFrame (control.next_frame y)) (pos 0)))
        made d =
            subst (λ n. Follows MemoriesAgree (old.store x p d (Address (InFrame x.frames) (pos 0)))
            (new.store y p d (Address (InFrame n) (pos 0))))
            (sym w.frames) (store_follows x y p w here d (Address (InFrame x.frames) (pos 0)))

    pub call_same : Obeys (step.obey limit o x p i op.Call) (control.call limit o y p i)
    call_same = with_same _ _ (frames_same i.src) (λ f e g. with_same _ _ (target_same o i.dst) (λ pc a b. calls_same limit f pc))

    pub load_same : Obeys (step.obey limit o x p i op.Load) (control.load limit o y p i)
    load_same =
        with_same _ _
        (on _ _ (reference_same x y p w here i.src) (λ r e f. text_same x y w r (λ n g. reference_sound y p d i.src r n f g))) (λ path e f.
        with_same _ _ (middle_immediate_same i.middle) (λ n a b.
        with_same _ _ (itself (or_wrong type_check (slice_get o.imports n))) (λ table a b. go (bytes_eq path path_of_sys) (names table))))
      where
        go : (b : Bool) (ns : List (List ℕ))
            → Obeys (old.spot x p i.dst >>= λ s.
            (if b
            then old.store (today.with_block x (today.Sys ns)) p s (Refer (Some (length x.blocks)))
            else old.store x p s (Refer None)) >>= λ m.
            Found (step.next m))
            (if b then results.gives_block y p i.dst (Found (Sys ns)) else results.gives_reference y p i.dst (Found None))
        go true ns = with_same _ _ (spot_same x y p w here i.dst) (λ s e f. gives_sys x y p w here ns s)
        go false ns = with_same _ _ (spot_same x y p w here i.dst) (λ s e f. gives_reference x y p w here s None)

    module _ (inside : p.frame.instance ≡ 0) where
      print_same : (f : Frame) → ((n : ℕ) → SomeRefers f.words n → IsThere y n) → Obeys (step.print_call x p f) (control.print_call y p f)
      print_same f there =
          with_same _ _ (printed_same x y f.words w there) (λ text e g.
          with_same _ _ (answer_same f.words) (λ s a b.
          with_same _ _ (itself (place_of s)) (λ place a b.
          subst (λ u. Obeys (step.prints x q place (place_in s) (print x.outside text))
          (control.prints y q place (place_in s) (print u text)))
          (sym w.outside) (prints_same x y w here q tt inside place (place_in s) (print x.outside text)))))
        where
          q : Process
          q = with_frames p p.frame p.below (without f.serial p.made)

      sys_same : (name : List ℕ) (f : Frame) → ((n : ℕ) → SomeRefers f.words n → IsThere y n)
          → Obeys (step.sys_call x p name f) (control.sys_call y p name f)
      sys_same name f there = go (bytes_eq name (codes "print"))
        where
          go : (b : Bool)
              → Obeys (if b then step.print_call x p f else Wrong type_check) (if b then control.print_call y p f else Wrong type_check)
          go true = print_same f there
          go false = wrong 110 _

      pub mcall_same : Obeys (step.obey limit o x p i op.Mcall) (control.mcall limit o y p i)
      mcall_same =
          with_same _ _ (frames_same i.src) (λ f e g.
          with_same _ _ (middle_immediate_same i.middle) (λ k a b.
          chain _ _ (module_follows x y w (reference_same x y p w here i.dst) (λ r n m z. reference_sound y p d i.dst r n m z))
          (λ c b m z r.
          subst (λ b. Obeys (step.function_of c k >>= λ name. step.sys_call x p name f)
          (control.function_of b k >>= λ name. control.sys_call y p name f))
          (sym r) (with_same _ _ (function_same c k) (λ name m z. sys_same name f (frame_there i.src f g))))))
