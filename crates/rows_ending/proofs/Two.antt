-- Returns of two instructions: one that moves the answer to the slot that waits for it, and one that goes on in the frame that waits.
use Rattle.std.proofs.Common.{◌≡◌, ℕ, suc, pos, ◌<◌, List, [], ◌∷◌, length, Option, Some, refl, sym, ap, ◌∙◌, subst, arith}
use Rattle.std.specs.Prelude.{slice_get}
use Rattle.process_model.specs.Process.{Went}
use Rattle.system_model.specs.Limits.{frames_limit}
use Rattle.limbo_types.specs.Types.{Ty}
use Rattle.limbo_typed.specs.Typed as typed
use Rattle.limbo_meaning.specs.Process.{Shared}
use Rattle.limbo_meaning.specs.Values.{Value, fitted}
use Rattle.core_code.specs.Code.{Return}
use Rattle.core_code.specs.Machine as code
use Rattle.dis_isa.specs.declared.inst.Inst.{Inst}
use Rattle.dis_meaning.specs.Words.{Word, Address, InFrame, Found}
use Rattle.dis_meaning.specs.Process.{Frame, Process, with_frames, with_words, at_pc}
use Rattle.dis_memory.specs.Blocks.{World}
use Rattle.dis_memory.specs.Places.{memory}
use Rattle.process_ways.specs.Ways.{Does, Way}
use Rattle.process_ways.proofs.On.{silent}
use Rattle.value_words.specs.Facts.{Facts}
use Rattle.value_frames.specs.Frames.{Nowhere, form_of}
use Rattle.value_moves.specs.Operands.{Code}
use Rattle.value_code.specs.Objects.{object_of, of_function, blank_site}
use Rattle.value_code.specs.Code.{Site, code_of}
use Rattle.number_effects.specs.Stepping.{Reaches, on_next}
use Rattle.number_effects.proofs.Control.{control_goes}
use Rattle.number_effects.proofs.Stepping.{steps_obey}
use Rattle.value_follows.specs.Stands.{Answer, Awaited, Ready, FrameIs, Waits, AllWait, none_waits, waits_below}
use Rattle.value_follows.specs.Sides.{sides, HoldTheSame}
use Rattle.value_follows.specs.Rows.{Base, RowGoes, place, site_of}
use Rattle.value_follows.proofs.Standing.{code_here, row_here, reaches}
use Rattle.value_follows.proofs.Single.{Once, both_go, nothing_changes}
use Rattle.value_follows.proofs.Jumps.{row, first}
use Rattle.rows_ending.proofs.Endings.{ret, given, returns}
use Rattle.rows_ending.proofs.Placing.{row_at, place_is}
use Rattle.rows_ending.proofs.Returning.{Answers, ready_back}

pub same_first : (f g : Frame) (fs gs : List Frame) → f ∷ fs ≡ g ∷ gs → f ≡ g
same_first f g fs gs e = cc

pub same_place : (s t a b : ℕ) → Found (Address (InFrame s) (pos a)) ≡ Found (Address (InFrame t) (pos b)) → a ≡ b
same_place s t a b e = cc

abbrev frame_on : (m : typed.Module) (k : Facts) (i : ℕ) (x : World) (busy : List ℕ) (g : code.Frame) (f : Frame) (pc : ℕ)
    → FrameIs m k i x busy g f → FrameIs m k i x busy g (at_pc f pc)
frame_on m k i x busy g f pc is = record {
  number = is.number;
  function = is.function;
  there = is.there;
  code = is.code;
  answer = is.answer;
  many = is.many;
  instance = is.instance;
  formed = is.formed;
  known = is.known;
  words = is.words;
  mine = is.mine;
  fresh = is.fresh;
}

module _ (m : typed.Module) (b : Base m) (i : ℕ) (from : Option ℕ) (p : code.Process) (mover : Site → Inst)
    (two : (c : Site) → c.answer ≡ p.frame.answer → code_of c (Return from) ≡ mover c ∷ ret ∷ [])
    (some : form_of p.frame.answer ≡ Nowhere → ⊥) (here : slice_get p.frame.code p.frame.pc ≡ Some (Return from)) where
  -- what the frame that waits gets
  abbrev pub answer : Value
  answer = fitted m.adts p.frame.answer (given p.frame.slots from)

  -- Wherever its slot has the answer, the frame that waits may go on.
  abbrev pub Has : Facts → World → Process → Type 0
  Has k x q =
      (h : code.Frame) (l : Frame) (fs : List Frame) (waits : Waits m k i x Awaited h l p.frame.answer q.frame) → q.below ≡ l ∷ fs
      → Answers m k i x h l p.frame.answer q.frame waits answer

  module _ (k : Facts) (w : Shared) (x : World) (q : Process) (ready : Ready m k i x p q) (hold : HoldTheSame m k i x p q)
      (worlds : (sides m).worlds k w x) where
    -- ---- the second instruction

    abbrev behind_it : Process
    behind_it = on_next (memory x q)

    abbrev is_there : FrameIs m k i x [] p.frame behind_it.frame
    is_there = frame_on m k i x [] p.frame q.frame (suc q.frame.pc) ready.stands.is

    reaches_ret : Reaches (object_of m ∷ []) x behind_it (object_of m) ret
    reaches_ret =
        let r = row_here m b k i w x p behind_it [] is_there hold worlds.0 (Return from) here in
        let e = ready.pc in
        reaches m b k i w x p behind_it [] is_there hold worlds.0 (Return from) 1 ret here r
        (ap (λ (c : Code). slice_get c 1) (two (site_of m ready.stands.is.number ready.stands.is.function p.frame.pc r.at) (sym ready.stands.is.answer)))
        (omega (arith, e))

    goes_back : Has k x q → (a : Answer) (t : Ty) (callee : Frame) (gs : List code.Frame) (fs : List Frame) → a ≡ Awaited → p.frame.answer ≡ t
        → q.frame ≡ callee → p.below ≡ gs → q.below ≡ fs → AllWait m k i x a t callee gs fs → Once m b i p behind_it k w x
    goes_back has _ _ callee _ _ none s e f g (none_waits a c) = absurd (some (ap form_of s))
    goes_back has _ _ callee _ _ none s e f g (waits_below a u c h l gs fs waits rest) =
        let here_it = subst (λ o. Waits m k i x Awaited h l o q.frame) (sym s)
        (subst (λ o. Waits m k i x Awaited h l u o) (sym e) (subst (λ o. Waits m k i x o h l u c) none waits)) in
        both_go m b i p behind_it k w x hold worlds (code.with_frames p (code.answered h answer) gs) (with_frames behind_it l fs behind_it.made)
        (steps_obey.does frames_limit (object_of m ∷ []) x behind_it (object_of m) ret (Went x (with_frames behind_it l fs behind_it.made)) reaches_ret
        (control_goes.ret frames_limit (object_of m) x behind_it ret l fs refl g))
        (returns m b k i w x p q ready hold worlds from here ∙ ap (λ below. code.returns m.adts w p below (given p.frame.slots from)) f)
        (ready_back m k i x h l p.frame.answer q.frame here_it answer p behind_it gs fs ready.stands.number ready.none_made rest (has h l fs here_it g))

    -- ---- the first one

    abbrev pub at_site : Site
    at_site =
        site_of m ready.stands.is.number ready.stands.is.function p.frame.pc (row m b k i w x p q ready hold worlds (Return from) here).at

    pub begins : Reaches (object_of m ∷ []) x q (object_of m) (mover at_site)
    begins =
        first m b k i w x p q ready hold worlds (Return from) here (mover at_site)
        (ap (λ (c : Code). slice_get c 0) (two at_site (sym ready.stands.is.answer)))

    further : (e : Process) → e.frame.pc ≡ suc q.frame.pc → place m q < place m e
    further e pc =
        let function = ready.stands.is.function in
        let there = code_here m k i x p q ready (Return from) here in
        let long : (row_at m function p.frame.pc (Return from)).size ≡ 2 =
        ap (λ (c : Code). length c)
        (two (blank_site m function.of.answer (of_function m function) p.frame.pc) (sym ready.stands.is.answer)) in
        let at = ready.pc in
        let a = place_is m q ready.stands.is.number function p.frame.pc (Return from) 0 ready.stands.is.there there (omega (arith, long)) (omega (arith, at)) in
        let c = place_is m e ready.stands.is.number function p.frame.pc (Return from) 1 ready.stands.is.there there (omega (arith, long))
        (omega (arith, at, pc)) in
        omega (arith, a, c)

    abbrev pub Moves : Type 0
    Moves = Does (sides m) (place m) (λ l z r t. Way (sides m) (place m) 1 l i z r t) (place m q) k i w x p ((sides m).code.step x q)

  module _ (k : Facts) (w : Shared) (x : World) (q : Process) (ready : Ready m k i x p q) (hold : HoldTheSame m k i x p q)
      (worlds : (sides m).worlds k w x) (h : code.Frame) (l : Frame) (gs : List code.Frame) (fs : List Frame) (f : p.below ≡ h ∷ gs) (others : List Word)
      (step_is : (sides m).code.step x q ≡ Went x (on_next (memory x (with_frames q q.frame (with_words l others ∷ fs) []))))
      (waits : Waits m k i x Awaited h (with_words l others) p.frame.answer q.frame) (rest : AllWait m k i x Awaited h.answer (with_words l others) gs fs)
      (has : (now : Facts) (y : World) → Has now y (with_frames q q.frame (with_words l others ∷ fs) [])) where
    abbrev has_it : Process
    has_it = with_frames q q.frame (with_words l others ∷ fs) []

    -- But for its place it is ready as it was: of the slot that waits nothing is said.
    ready_still : Ready m k i x p has_it
    ready_still = record {
      stands = record {
        number = ready.stands.number;
        is = ready.stands.is;
        goes = ready.stands.goes;
        waits = subst (λ bs. AllWait m k i x Awaited p.frame.answer q.frame bs (with_words l others ∷ fs)) (sym f)
            (waits_below Awaited p.frame.answer q.frame h (with_words l others) gs fs waits rest);
      };
      pc = ready.pc;
      spare = ready.spare;
      none_made = refl;
    }

    pub moves : Moves k w x q ready hold worlds
    moves =
        silent (sides m) (place m) (λ l z r t. Way (sides m) (place m) 1 l i z r t) k k i w x x p q (on_next (memory x has_it)) step_is
        (nothing_changes m k i x) worlds (further k w x q ready hold worlds (on_next (memory x has_it)) refl) (
          b.holds_again k i w x p has_it ready_still worlds
              (b.there_again x x q (on_next (memory x has_it)) step_is worlds.0.closed (λ n h. hold.same.live n (hold.same.roots n h))),
          λ now y v left holds also.
              let r = (b.ready_later k now i x y p has_it ready_still left holds).0 in
              goes_back now v y has_it r holds also (has now y) Awaited p.frame.answer q.frame p.below (with_words l others ∷ fs) refl refl refl refl refl
              r.stands.waits,
        )

  -- Such a return goes, if wherever it begins the answer is moved.
  pub two_go : (k : Facts) (x : World) (q : Process) → (sides m).ready k i x p q
      → ((now : Facts) (w : Shared) (y : World) (ready : Ready m now i y p q) (hold : HoldTheSame m now i y p q) (worlds : (sides m).worlds now w y)
      (h : code.Frame) (l : Frame) (gs : List code.Frame) (fs : List Frame) → p.below ≡ h ∷ gs → q.below ≡ l ∷ fs
      → Waits m now i y Awaited h l p.frame.answer q.frame → AllWait m now i y Awaited h.answer l gs fs → Moves now w y q ready hold worlds)
      → RowGoes m k i x p q
  two_go k x q ready does = (
    1,
    (
      ready.1,
      λ now y w left hold worlds.
          let r = (b.ready_later k now i x y p q ready.0 left hold).0 in
          go now w y r hold worlds Awaited p.frame.answer q.frame p.below q.below refl refl refl refl refl r.stands.waits,
    ),
  )
    where
      go : (now : Facts) (w : Shared) (y : World) (ready : Ready m now i y p q) (hold : HoldTheSame m now i y p q) (worlds : (sides m).worlds now w y)
          (a : Answer) (t : Ty) (callee : Frame) (gs : List code.Frame) (fs : List Frame) → a ≡ Awaited → p.frame.answer ≡ t → q.frame ≡ callee
          → p.below ≡ gs → q.below ≡ fs → AllWait m now i y a t callee gs fs → Moves now w y q ready hold worlds
      go now w y ready hold worlds _ _ callee _ _ none s e f g (none_waits a c) = absurd (some (ap form_of s))
      go now w y ready hold worlds _ _ callee _ _ none s e f g (waits_below a u c h l gs fs waits rest) =
          does now w y ready hold worlds h l gs fs f g
          (subst (λ o. Waits m now i y Awaited h l o q.frame) (sym s)
          (subst (λ o. Waits m now i y Awaited h l u o) (sym e) (subst (λ o. Waits m now i y o h l u c) none waits))) rest
