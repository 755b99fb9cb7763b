-- Frames that are made, called, and gone.
use Rattle.std.proofs.Common.{◌≡◌, ℕ, zero, suc, ◌+◌, ◌<◌, ◌≤◌, Bool, true, false, codes, List, [], ◌∷◌, ◌++◌, length, get_or, Some, refl, sym, ap, ◌∙◌, arith}
use Rattle.std.proofs.lemmas.Bool.Decides.{nat_tests}
use Rattle.std.specs.Prelude.{slice_get, reverse, nat_eq, nat_lt, if◌then◌else◌}
use Rattle.std.specs.List.{remove}
use Rattle.std.proofs.lemmas.List.{map-append, reverse-append, length-reverse, length-map}
use Rattle.std.proofs.lemmas.Option.{slice_get_within}
use Rattle.process_model.specs.Process.{Went, Ends}
use Rattle.system_model.specs.Ending.{Broken}
use Rattle.dis_isa.specs.declared.inst.Inst.{Inst}
use Rattle.dis_file.specs.declared.object.Object.{Object}
use Rattle.dis_meaning.specs.Counts.{in_frame, in_frames}
use Rattle.dis_meaning.specs.Words.{Word, Found, ◌>>=◌}
use Rattle.dis_meaning.specs.Process.{Frame, Process, with_frames, at_pc, height}
use Rattle.dis_memory.specs.Blocks.{World}
use Rattle.dis_memory.specs.Control.{frame_at, call, calls}
use Rattle.dis_memory.specs.Operands.{target}
use Rattle.dis_memory.specs.Process.{Does}
use Rattle.dis_memory.specs.Places.{source_word}
use Rattle.dis_meaning.specs.Step.{without}
use Rattle.dis_memory.specs.Naming.{names}
use Rattle.dis_places.specs.declared.frame.Frame as code_frame
use Rattle.dis_places.specs.declared.process.Process as code_process
use Rattle.dis_places.specs.Frames.{view_frame, view_frames, one, count, occurs}
use Rattle.dis_places.specs.View.{view_process}
use Rattle.dis_places.proofs.Serials.{count_append}
use Rattle.dis_stores.proofs.Named.{frames_reverse}
use Rattle.dis_stores.proofs.Written.{once, seen}
use Rattle.dis_calls.specs.Made.{entered}
use Rattle.dis_calls.proofs.Made.{count_removed, without_one, map_remove}

-- one frame more at the end
pub count_pushed : (n : ℕ) (fs : List code_frame.Frame) (f : code_frame.Frame) →
    count n (view_frames (fs ++ f ∷ [])) ≡ count n (view_frames fs) + one n (view_frame f)
count_pushed n fs f =
    let e = ap (count n) (map-append view_frame fs (f ∷ [])) in let a = count_append n (view_frames fs) (view_frame f ∷ []) in omega (arith, e, a)

-- which the definition has in front
pub pushed_front : (fs : List code_frame.Frame) (f : code_frame.Frame) → reverse (view_frames (fs ++ f ∷ [])) ≡ view_frame f ∷ reverse (view_frames fs)
pushed_front fs f = ap reverse (map-append view_frame fs (f ∷ [])) ∙ reverse-append (view_frames fs) (view_frame f ∷ [])

-- one frame less
pub count_without : (n : ℕ) (fs : List code_frame.Frame) (k : ℕ) (f : code_frame.Frame) → k < length fs → f ≡ get_or fs k f →
    count n (view_frames (remove fs k)) + one n (view_frame f) ≡ count n (view_frames fs)
count_without n fs k f lt is =
    let e = ap (count n) (map_remove view_frame fs k) in
    let r = count_removed n (view_frames fs) k (view_frame f) (seen view_frame fs k f lt is) in omega (arith, e, r)

pub made_without : (p : code_process.Process) (k : ℕ) (f : Frame) → slice_get (view_frames p.made.items) k ≡ Some f →
    view_frames (remove p.made.items k) ≡ without f.serial (view_frames p.made.items)
made_without p k f there =
    let o = once p f.serial in
    map_remove view_frame p.made.items k ∙ sym (without_one f.serial (view_frames p.made.items) k f there refl (omega (arith, o)))

pub height_is : (p : code_process.Process) → length (reverse (view_frames p.below.items)) ≡ length p.below.items
height_is p = length-reverse (view_frames p.below.items) ∙ length-map p.below.items view_frame

-- ---- what frames refer to

pub frames_both : (n : ℕ) (fs gs : List Frame) → in_frames n (fs ++ gs) ≡ in_frames n fs + in_frames n gs
frames_both n [] gs = omega arith
frames_both n (f ∷ fs) gs = let h = frames_both n fs gs in omega (arith, h)

-- One frame more, and one less.
pub named_pushed : (n : ℕ) (fs : List code_frame.Frame) (f : code_frame.Frame) →
    in_frames n (view_frames (fs ++ f ∷ [])) ≡ in_frames n (view_frames fs) + in_frame n (view_frame f)
named_pushed n fs f =
    let e = ap (in_frames n) (map-append view_frame fs (f ∷ [])) in let a = frames_both n (view_frames fs) (view_frame f ∷ []) in omega (arith, e, a)

named_removed : (n : ℕ) (fs : List Frame) (k : ℕ) (f : Frame) → slice_get fs k ≡ Some f → in_frames n (remove fs k) + in_frame n f ≡ in_frames n fs
named_removed n [] k f h = absurd cc
named_removed n (g ∷ fs) zero f h = let same : g ≡ f = cc in let o = ap (in_frame n) same in omega (arith, o)
named_removed n (g ∷ fs) (suc k) f h = let r = named_removed n fs k f h in omega (arith, r)

pub named_without : (n : ℕ) (fs : List code_frame.Frame) (k : ℕ) (f : code_frame.Frame) → k < length fs → f ≡ get_or fs k f →
    in_frames n (view_frames (remove fs k)) + in_frame n (view_frame f) ≡ in_frames n (view_frames fs)
named_without n fs k f lt is =
    let e = ap (in_frames n) (map_remove view_frame fs k) in
    let r = named_removed n (view_frames fs) k (view_frame f) (seen view_frame fs k f lt is) in omega (arith, e, r)

-- A process that goes back to the frame below.
pub back_names : (n : ℕ) (p : code_process.Process) (below : List code_frame.Frame) (f : code_frame.Frame) → p.below.items ≡ below ++ f ∷ [] →
    names (view_process p) n ≡ in_frame n (view_frame p.frame) + (in_frame n (view_frame f) + (in_frames n (reverse (view_frames below)) + in_frames n (view_frames p.made.items)))
back_names n p below f e =
    let a = frames_reverse (view_frames p.below.items) n in
    let b = ap (λ fs. in_frames n (view_frames fs)) e in
    let d = named_pushed n below f in
    let r = frames_reverse (view_frames below) n in
    omega (arith, a, b, d, r)

-- ---- a frame that is called

-- Each serial stays at most one frame's.
pub entered_once : (p : code_process.Process) (k : ℕ) (f dest caller : code_frame.Frame) (below made : List code_frame.Frame) →
    k < length p.made.items → f ≡ get_or p.made.items k f → dest.serial ≡ f.serial → caller.serial ≡ p.frame.serial →
    below ≡ p.below.items ++ caller ∷ [] → made ≡ remove p.made.items k →
    (n : ℕ) → occurs n (view_frame dest) (view_frames below) (view_frames made) ≤ 1
entered_once p k f dest caller below made lt is same same' b m n =
    let o = p.once n in
    let d = ap {B = ℕ} (λ s. if nat_eq s n then 1 else 0) same in
    let c = ap {B = ℕ} (λ s. if nat_eq s n then 1 else 0) same' in
    let b' = ap (λ fs. count n (view_frames fs)) b in
    let m' = ap (λ fs. count n (view_frames fs)) m in
    let r = count_pushed n p.below.items caller in
    let w = count_without n p.made.items k f lt is in
    omega (arith, o, d, c, b', m', r, w)

pub entered_is : (p : code_process.Process) (k pc : ℕ) (g : Frame) (f dest caller : code_frame.Frame) (below made : List code_frame.Frame) →
    k < length p.made.items → f ≡ get_or p.made.items k f → slice_get (view_frames p.made.items) k ≡ Some g →
    view_frame dest ≡ at_pc (view_frame f) pc → view_frame caller ≡ at_pc (view_frame p.frame) (suc p.frame.pc) →
    below ≡ p.below.items ++ caller ∷ [] → made ≡ remove p.made.items k →
    with_frames (view_process p) (view_frame dest) (reverse (view_frames below)) (view_frames made) ≡ entered (view_process p) g pc
entered_is p k pc g f dest caller below made lt is there d c b m =
    let found : Some (view_frame f) ≡ Some g = sym (seen view_frame p.made.items k f lt is) ∙ there in
    let same : view_frame f ≡ g = cc in
    ap (λ f. with_frames (view_process p) f (reverse (view_frames below)) (view_frames made)) (d ∙ ap (λ (f : Frame). at_pc f pc) same)
    ∙ ap (λ fs. with_frames (view_process p) (at_pc g pc) fs (view_frames made))
    (ap (λ fs. reverse (view_frames fs)) b ∙ pushed_front p.below.items caller ∙ ap (λ (f : Frame). f ∷ reverse (view_frames p.below.items)) c)
    ∙ ap (λ fs. with_frames (view_process p) (at_pc g pc) (at_pc (view_frame p.frame) (suc p.frame.pc) ∷ reverse (view_frames p.below.items)) fs)
    (ap view_frames m ∙ made_without p k g there)

-- The same frames refer to the same.
pub entered_names : (n : ℕ) (p : code_process.Process) (k : ℕ) (f dest caller : code_frame.Frame) (below made : List code_frame.Frame) →
    k < length p.made.items → f ≡ get_or p.made.items k f →
    in_frame n (view_frame dest) ≡ in_frame n (view_frame f) → in_frame n (view_frame caller) ≡ in_frame n (view_frame p.frame) →
    below ≡ p.below.items ++ caller ∷ [] → made ≡ remove p.made.items k →
    in_frame n (view_frame dest) + (in_frames n (reverse (view_frames below)) + in_frames n (view_frames made)) ≡ names (view_process p) n
entered_names n p k f dest caller below made lt is d c b m =
    let b' = ap (λ fs. in_frames n (view_frames fs)) b in
    let m' = ap (λ fs. in_frames n (view_frames fs)) m in
    let r = named_pushed n p.below.items caller in
    let w = named_without n p.made.items k f lt is in
    let q = frames_reverse (view_frames below) n in
    let s = frames_reverse (view_frames p.below.items) n in
    omega (arith, d, c, b', m', r, w, q, s)

-- Where no frame waits.
pub no_below : (p : code_process.Process) → length p.below.items ≡ 0 → reverse (view_frames p.below.items) ≡ []
no_below p e = go p.below.items e
  where
    go : (fs : List code_frame.Frame) → length fs ≡ 0 → reverse (view_frames fs) ≡ []
    go [] e = refl
    go (f ∷ fs) e = absurd (omega (arith, e))

-- ---- a call

pub made_within : (p : code_process.Process) (k : ℕ) (f : Frame) → slice_get (view_frames p.made.items) k ≡ Some f → k < length p.made.items
made_within p k f there =
    let w = slice_get_within (view_frames p.made.items) k f there in let l = length-map p.made.items view_frame in omega (arith, w, l)

module _ (x : World) (p : Process) (o : Object) (limit : ℕ) (i : Inst) where
  pub called : (w : Word) (f : Frame) (pc : ℕ) → source_word x p i.src ≡ Found w → frame_at x p w ≡ Found f → target o i.dst ≡ Found pc →
      call limit o x p i ≡ Found (calls limit x p f pc)
  called w f pc source made there =
      ap (λ a. a >>= frame_at x p >>= λ f. target o i.dst >>= λ pc. Found (calls limit x p f pc)) source
      ∙ ap (λ a. a >>= λ f. target o i.dst >>= λ pc. Found (calls limit x p f pc)) made
      ∙ ap (λ a. a >>= λ pc. Found (calls limit x p f pc)) there

-- What a call comes to, where there may be one frame more or not.
abbrev pub called_if : Bool → World → Process → Frame → ℕ → Does
called_if b x p f pc = if b then Went x (entered p f pc) else Ends x (Broken (codes "stack overflow"))

-- The process with these frames that wait.
abbrev pub still_below : code_process.Process → List Frame → Process
still_below p fs = record (view_process p) { below = fs }

pub over : (p : code_process.Process) (limit : ℕ) → limit ≤ length p.below.items + 1 → nat_lt (height (view_process p)) limit ≡ false
over p limit h = let e = height_is p in grind (arith, nat_tests, h, e)

pub not_over : (p : code_process.Process) (limit : ℕ) → length p.below.items + 1 < limit → nat_lt (height (view_process p)) limit ≡ true
not_over p limit h = let e = height_is p in grind (arith, nat_tests, h, e)
