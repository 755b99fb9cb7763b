-- Jumps, frames, calls and returns.
use Rattle.std.proofs.Common.{◌≡◌, ℕ, suc, ◌<◌, ◌≤◌, pos, Bool, true, false, List, [], ◌∷◌, ◌++◌, length, Some, refl, sym, ap, ◌∙◌}
use Rattle.std.proofs.Common.{if◌then◌else◌, nat_eq, codes, lt-ltb, le-ltb, inl, inr}
use Rattle.std.proofs.lemmas.Bool.Decides.{eqb_tells}
use Rattle.std.specs.Prelude.{slice_get}
use Rattle.process_model.specs.Process.{Went, Ends}
use Rattle.system_model.specs.Ending.{Broken}
use Rattle.dis_isa.specs.declared.op.Op.TheVariants as op
use Rattle.dis_isa.specs.declared.inst.Inst.{Inst}
use Rattle.dis_isa.specs.declared.inst.Operand.TheVariants as operand
use Rattle.dis_file.specs.declared.object.Object.{Object}
use Rattle.dis_file.specs.declared.types.TypeDesc.{TypeDesc}
use Rattle.dis_meaning.specs.Words.{InFrame, Word, Address, Access, Found, Wrong, ◌>>=◌, bad_jump, word_at, plain, blank}
use Rattle.dis_meaning.specs.Process.{Frame, Process, height, at_pc, with_frames}
use Rattle.dis_meaning.specs.Places.{words_in, all_frames}
use Rattle.dis_meaning.specs.Step.{made_frame, without}
use Rattle.dis_memory.specs.Blocks.{World}
use Rattle.dis_memory.specs.Operands.{target, source_type}
use Rattle.dis_memory.specs.Places.{Memory, spot, store, with_words_at, source_word}
use Rattle.dis_memory.specs.Process.{Does, jumps, next}
use Rattle.dis_memory.specs.Control.{framed, frame_at, calls, returns}
use Rattle.dis_memory.specs.Step.{obey}
use Rattle.dis_memory.proofs.Growing.{found_same}
use Rattle.value_moves.specs.Spots.{Leads}
use Rattle.value_moves.proofs.Obeying.{on}
use Rattle.number_effects.specs.Giving.{with_word, WordStored}
use Rattle.number_effects.specs.Control.{frame_address, ControlGoes}
use Rattle.number_effects.proofs.Giving.{plain_goes}
use Rattle.number_effects.proofs.Numbers.{inside, outside}
use Rattle.number_effects.proofs.Records.{type_is}

-- ---- frames that are made are there

abbrev Has : Access (List Word) → Type 0
Has a = (words : List Word) × (a ≡ Found words)

made_there : (fs : List Frame) (s : ℕ) (f : Frame) → made_frame fs s ≡ Found f → Has (words_in s fs)
made_there [] s f e = absurd cc
made_there (g ∷ fs) s f e = go (nat_eq g.serial s) (made_there fs s f) e
  where
    go : (b : Bool) → (made_frame fs s ≡ Found f → Has (words_in s fs)) → (if b then Found g else made_frame fs s) ≡ Found f
        → Has (if b then Found g.words else words_in s fs)
    go true rest h = (g.words, refl)
    go false rest h = rest h

there_behind : (gs fs : List Frame) (s : ℕ) → Has (words_in s fs) → Has (words_in s (gs ++ fs))
there_behind [] fs s h = h
there_behind (g ∷ gs) fs s h = go (nat_eq g.serial s) (there_behind gs fs s h)
  where
    go : (b : Bool) → Has (words_in s (gs ++ fs)) → Has (if b then Found g.words else words_in s (gs ++ fs))
    go true rest = (g.words, refl)
    go false rest = rest

made_serial : (fs : List Frame) (s : ℕ) (f : Frame) → made_frame fs s ≡ Found f → f.serial ≡ s
made_serial [] s f e = absurd cc
made_serial (g ∷ fs) s f e = go (nat_eq g.serial s) refl (made_serial fs s f) e
  where
    go : (b : Bool) → nat_eq g.serial s ≡ b → (made_frame fs s ≡ Found f → f.serial ≡ s) → (if b then Found g else made_frame fs s) ≡ Found f
        → f.serial ≡ s
    go true is rest h = elim (eqb_tells g.serial s) [
      | inl y ↦ ap Frame.serial (sym (found_same g f h)) ∙ y.1
      | inr y ↦ absurd (let z = sym is ∙ y.0 in cc)
    ]
    go false is rest h = rest h

module _ (limit : ℕ) (o : Object) (x : World) (p : Process) (i : Inst) where
  -- ---- jumps

  jumped : (pc : ℕ) → i.op ≡ op.Jmp → i.dst ≡ operand.Imm (pos pc) → pc < length o.insts → obey limit o x p i i.op ≡ Found (jumps x p pc)
  jumped pc is e lt = ap (obey limit o x p i) is ∙ on (target o i.dst) pc (λ q. Found (jumps x p q)) (inside o i.dst pc e lt)

  jumped_outside : (pc : ℕ) → i.op ≡ op.Jmp → i.dst ≡ operand.Imm (pos pc) → length o.insts ≤ pc → obey limit o x p i i.op ≡ Wrong bad_jump
  jumped_outside pc is e le =
      ap (obey limit o x p i) is ∙ ap (λ (c : Access ℕ). c >>= λ q. Found (jumps x p q)) (outside o i.dst pc e le)

  -- ---- frames

  module _ (words : List Word) (to : ℕ) (d : Leads x p i.dst words to) where
    frame_made : (n : ℕ) (desc : TypeDesc) (old : Word) → i.op ≡ op.Frame → i.src ≡ operand.Imm (pos n) → slice_get o.types n ≡ Some desc
        → word_at words (pos to) >>= plain ≡ Found old
        → WordStored words to (frame_address x)
        × (obey limit o x p i i.op
        ≡ (with_words_at x p d.place (with_word words to (frame_address x)) >>= λ m. Found (next (framed m (blank desc)))))
    frame_made n desc old is e f h =
        let g = plain_goes x p i.dst words to d old (frame_address x) (frame_address x) h refl in (
          g.0,
          ap (obey limit o x p i) is
              ∙ on (source_type o i.src) desc
              (λ t. spot x p i.dst >>= λ s. store x p s (frame_address x) >>= λ m. Found (next (framed m (blank t)))) (type_is o i.src n desc e f)
              ∙ on (spot x p i.dst) d.place (λ s. store x p s (frame_address x) >>= λ m. Found (next (framed m (blank desc)))) d.found
              ∙ ap (λ (c : Access Memory). c >>= λ m. Found (next (framed m (blank desc)))) g.1,
        )

  -- ---- calls

  frame_found : (s : ℕ) (f : Frame) → made_frame p.made s ≡ Found f → frame_at x p (Address (InFrame s) (pos 0)) ≡ Found f
  frame_found s f e =
      let h = there_behind (p.frame ∷ p.below) p.made s (made_there p.made s f e) in
      on (words_in s (all_frames p)) h.0 (λ words. made_frame p.made s) h.1 ∙ e

  called : (s : ℕ) (f : Frame) → i.op ≡ op.Call → source_word x p i.src ≡ Found (Address (InFrame s) (pos 0)) → made_frame p.made s ≡ Found f
      → obey limit o x p i i.op ≡ (target o i.dst >>= λ pc. Found (calls limit x p f pc))
  called s f is e h =
      ap (obey limit o x p i) is
      ∙ on (source_word x p i.src >>= frame_at x p) f (λ g. target o i.dst >>= λ pc. Found (calls limit x p g pc))
      (ap (λ (c : Access Word). c >>= frame_at x p) e ∙ frame_found s f h)

  module _ (f : Frame) (pc : ℕ) (e : i.dst ≡ operand.Imm (pos pc)) where
    abbrev by_height : Bool → Does
    by_height b =
        if b then Went x (with_frames p (at_pc f pc) (at_pc p.frame (suc p.frame.pc) ∷ p.below) (without f.serial p.made))
        else Ends x (Broken (codes "stack overflow"))

    called_inside : pc < length o.insts → (target o i.dst >>= λ q. Found (calls limit x p f q)) ≡ Found (calls limit x p f pc)
    called_inside lt = on (target o i.dst) pc (λ q. Found (calls limit x p f q)) (inside o i.dst pc e lt)

    called_outside : length o.insts ≤ pc → (target o i.dst >>= λ q. Found (calls limit x p f q)) ≡ Wrong bad_jump
    called_outside le = ap (λ (c : Access ℕ). c >>= λ q. Found (calls limit x p f q)) (outside o i.dst pc e le)

    low : height p < limit → calls limit x p f pc ≡ by_height true
    low lt = ap by_height (lt-ltb (height p) limit lt)

    high : limit ≤ height p → calls limit x p f pc ≡ by_height false
    high le = ap by_height (le-ltb (height p) limit le)

pub control_goes : ControlGoes
control_goes = record {
  jmp = λ limit o x p i pc is e lt. jumped limit o x p i pc is e lt;
  jmp_outside = λ limit o x p i pc is e le. jumped_outside limit o x p i pc is e le;
  frame = λ limit o x p i n desc target to d old is e f h. frame_made limit o x p i target to d n desc old is e f h;
  call = λ limit o x p i s f pc is e h g lt low_enough.
      called limit o x p i s f is e h ∙ called_inside limit o x p i f pc g lt ∙ ap Found (low limit o x p i f pc g low_enough);
  call_deep = λ limit o x p i s f pc is e h g lt too_high.
      called limit o x p i s f is e h ∙ called_inside limit o x p i f pc g lt ∙ ap Found (high limit o x p i f pc g too_high);
  call_outside = λ limit o x p i s f pc is e h g le. called limit o x p i s f is e h ∙ called_outside limit o x p i f pc g le;
  made_serial = made_serial;
  ret = λ limit o x p i f below is e. ap (obey limit o x p i) is ∙ ap (λ (fs : List Frame). Found (returns x p fs)) e;
  ret_last = λ limit o x p i is e. ap (obey limit o x p i) is ∙ ap (λ (fs : List Frame). Found (returns x p fs)) e;
}
