-- The call of a frame that is made: both go on in the frame that is called, or end where too many wait.
use Rattle.std.proofs.Common.{◌≡◌, ℕ, Bool, suc, pos, ◌<◌, ◌≤◌, List, [], ◌∷◌, length, inl, inr, refl, sym, ap, ◌∙◌, subst, arith}
use Rattle.std.proofs.Common.{if◌then◌else◌, lt-ltb, le-ltb}
use Rattle.std.specs.Prelude.{nat_lt, replicate}
use Rattle.process_model.specs.Process.{Went, Ends}
use Rattle.process_model.specs.Follows.{Only}
use Rattle.system_model.specs.Limits.{frames_limit}
use Rattle.system_model.specs.Ending.{Broken}
use Rattle.limbo_types.specs.Types.{Ty}
use Rattle.limbo_layout.specs.Adts.{Has}
use Rattle.limbo_typed.specs.Typed as typed
use Rattle.limbo_meaning.specs.Exceptions.{stack_overflow}
use Rattle.limbo_meaning.specs.Process.{Shared}
use Rattle.core_code.specs.Machine as code
use Rattle.core_typing.specs.Held as held
use Rattle.dis_isa.specs.declared.inst.Inst.{Inst}
use Rattle.dis_isa.specs.declared.inst.Middle.TheVariants as middle
use Rattle.dis_isa.specs.declared.inst.Operand.TheVariants as operand
use Rattle.dis_isa.specs.declared.op.Op.TheVariants as op
use Rattle.dis_meaning.specs.Words.{Address, InFrame, Found}
use Rattle.dis_meaning.specs.Process.{Frame, Process, at_pc, with_frames}
use Rattle.dis_memory.specs.Blocks.{World}
use Rattle.dis_memory.specs.Places.{source_word}
use Rattle.value_words.specs.Facts.{Facts}
use Rattle.value_frames.specs.Frames.{made_place}
use Rattle.value_moves.specs.Operands.{inst, own}
use Rattle.value_moves.proofs.Leading.{spots_lead}
use Rattle.value_moves.proofs.Changing.{low_or_high}
use Rattle.value_code.specs.Objects.{of_function, object_of, base_of}
use Rattle.number_effects.specs.Stepping.{Reaches}
use Rattle.number_effects.proofs.Control.{control_goes}
use Rattle.number_effects.proofs.Reading.{operands_are_read}
use Rattle.number_effects.proofs.Stepping.{steps_obey}
use Rattle.value_follows.specs.Stands.{GoesOn, place_of, Answer, Awaited, Waits, AllWait, none_waits, waits_below, Ready}
use Rattle.value_follows.specs.Sides.{sides, HoldTheSame}
use Rattle.value_follows.specs.Rows.{Base}
use Rattle.value_follows.proofs.Standing.{all_wait}
use Rattle.value_follows.proofs.Jumps.{inside_there}
use Rattle.value_follows.proofs.Single.{Once, both_end, nothing_changes}
use Rattle.rows_calling.proofs.OnTheWay.{On, goes_so}
use Rattle.rows_calling.proofs.Making.{Called, Made, made_found, none_left}

-- as many frames wait on one side as on the other
as_many : (m : typed.Module) (k : Facts) (i : ℕ) (x : World) (a : Answer) (t : Ty) (c : Frame) (gs : List code.Frame) (fs : List Frame)
    → AllWait m k i x a t c gs fs → length gs ≡ length fs
as_many m k i x _ _ _ _ _ (none_waits a c) = refl
as_many m k i x _ _ _ _ _ (waits_below a t c g f gs fs w rest) = ap suc (as_many m k i x Awaited g.answer f gs fs rest)

-- the call of a function by its number
abbrev pub calling : typed.Module → ℕ → Inst
calling m ng = inst op.Call (own made_place) middle.None (operand.Imm (pos (base_of m ng)))

module _ (m : typed.Module) (b : Base m) (i : ℕ) (p : code.Process) (busy : List ℕ) (n : ℕ) (f : typed.Function) (j : ℕ) (ng : ℕ) (g : typed.Function)
    (h wait : code.Frame) (first : h.pc ≡ 0)
    (begins : GoesOn m g 0 (replicate (of_function m g).slots held.empty)) where
  -- the frame that is called, and the one that waits for it
  abbrev pub callee : Frame → Frame
  callee c = at_pc c (base_of m ng)

  abbrev pub caller : Process → Frame
  caller q = at_pc q.frame (suc q.frame.pc)

  -- What the other does: it calls, where not too many frames wait.
  abbrev pub does_call : Shared → code.Does
  does_call w =
      if nat_lt (suc (length p.below)) frames_limit then Went w (code.with_frames p h (wait ∷ p.below)) else Ends w (Broken stack_overflow)

  module _ (k : Facts) (w : Shared) (x : World) (q : Process) (c : Frame) (on : On m k i x busy n f j p q) (hold : HoldTheSame m k i x p q)
      (worlds : (sides m).worlds k w x) (called : Called m k x ng g h c) (has : Made q c)
      (reach : Reaches (object_of m ∷ []) x q (object_of m) (calling m ng)) (source : (sides m).program.step w p ≡ does_call w)
      (answer : wait.answer ≡ p.frame.answer) (now : Facts) (changes : (sides m).changes (Only i) k now x x)
      (after : (sides m).worlds now w x) (called_now : Called m now x ng g h c) (waits : Waits m now i x Awaited wait (caller q) h.answer (callee c))
      (below_now : AllWait m now i x Awaited p.frame.answer q.frame p.below q.below) where
    abbrev begun : Process
    begun = with_frames q (callee c) (caller q ∷ q.below) []

    rest_wait : AllWait m now i x Awaited wait.answer (caller q) p.below q.below
    rest_wait =
        subst (λ (t : Ty). AllWait m now i x Awaited t (caller q) p.below q.below) (sym answer)
        (all_wait m now i x Awaited p.frame.answer q.frame (caller q) p.below q.below refl refl below_now)

    ready_then : Ready m now i x (code.with_frames p h (wait ∷ p.below)) begun
    ready_then = record {
      stands = record {
        number = on.process;
        is = record {
          number = ng;
          function = g;
          there = called_now.there;
          code = called_now.code;
          answer = called_now.answer;
          many = called_now.many;
          instance = called_now.instance;
          formed = called_now.formed;
          known = replicate (of_function m g).slots held.empty;
          words = called_now.words;
          mine = λ s b o. absurd (subst (λ (bs : List ℕ). Has bs b) (called_now.bare s) o);
          fresh = called_now.fresh;
        };
        goes = subst (λ (o : ℕ). GoesOn m g o (replicate (of_function m g).slots held.empty)) (sym first) begins;
        waits = waits_below Awaited h.answer (callee c) wait (caller q) p.below q.below waits rest_wait;
      };
      pc = subst (λ (o : ℕ). base_of m ng ≡ place_of m ng g o) (sym first) (omega arith);
      spare = called_now.spare;
      none_made = refl;
    }

    read : source_word x q (own made_place) ≡ Found (Address (InFrame c.serial) (pos 0))
    read = operands_are_read.source_any_word x q (own made_place) q.frame.words made_place (spots_lead.own x q made_place).0 ∙ has.address

    inside : base_of m ng < length (object_of m).insts
    inside =
        let l = inside_there m b ng g 0 (replicate (of_function m g).slots held.empty) called.there begins in
        let e : place_of m ng g 0 ≡ base_of m ng = omega arith in omega (arith, l, e)

    low : suc (length p.below) < frames_limit → Once m b i p q k w x
    low l =
        let same = as_many m k i x Awaited p.frame.answer q.frame p.below q.below on.waits in
        goes_so m b i p q busy n f j k now w w x x hold worlds changes after (code.with_frames p h (wait ∷ p.below)) begun
        (steps_obey.does frames_limit (object_of m ∷ []) x q (object_of m) (calling m ng) (Went x begun) reach
        (control_goes.call frames_limit (object_of m) x q (calling m ng) c.serial c (base_of m ng) refl read
        (made_found m k i x busy n f j p q on c has) refl inside (omega (arith, l, same))
        ∙ ap (λ (fs : List Frame). Found (Went x (with_frames q (callee c) (caller q ∷ q.below) fs))) (none_left m k i x busy n f j p q on c has)))
        (source ∙ ap (λ (b : Bool). if b then Went w (code.with_frames p h (wait ∷ p.below)) else Ends w (Broken stack_overflow))
        (lt-ltb (suc (length p.below)) frames_limit l))
        ready_then

    high : frames_limit ≤ suc (length p.below) → Once m b i p q k w x
    high l =
        let same = as_many m k i x Awaited p.frame.answer q.frame p.below q.below on.waits in
        both_end m b i p q k w x worlds (Broken stack_overflow)
        (steps_obey.does frames_limit (object_of m ∷ []) x q (object_of m) (calling m ng) (Ends x (Broken stack_overflow)) reach
        (control_goes.call_deep frames_limit (object_of m) x q (calling m ng) c.serial c (base_of m ng) refl read
        (made_found m k i x busy n f j p q on c has) refl inside (omega (arith, l, same))))
        (source ∙ ap (λ (b : Bool). if b then Went w (code.with_frames p h (wait ∷ p.below)) else Ends w (Broken stack_overflow))
        (le-ltb (suc (length p.below)) frames_limit l))

    -- More may be known then, so that what is left to the frame that waits stands for something.
    pub call_goes_then : Once m b i p q k w x
    call_goes_then = elim (low_or_high (suc (length p.below)) frames_limit) [ inl l ↦ low l | inr l ↦ high l ]

  pub call_goes : (k : Facts) (w : Shared) (x : World) (q : Process) (c : Frame) → (on : On m k i x busy n f j p q) → HoldTheSame m k i x p q
      → (sides m).worlds k w x → Called m k x ng g h c → Made q c → Reaches (object_of m ∷ []) x q (object_of m) (calling m ng)
      → (sides m).program.step w p ≡ does_call w → wait.answer ≡ p.frame.answer → Waits m k i x Awaited wait (caller q) h.answer (callee c)
      → Once m b i p q k w x
  call_goes k w x q c on hold worlds called has reach source answer waits =
      call_goes_then k w x q c on hold worlds called has reach source answer k (nothing_changes m k i x) worlds called waits on.waits
