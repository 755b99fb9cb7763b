-- How many references a run has to one block: no more than there are words and frames.
use Rattle.std.proofs.Common.{◌≡◌, ℕ, zero, suc, ◌+◌, ◌*◌, ◌≤◌, Bool, true, false, List, [], ◌∷◌, length, Some, None, refl, arith}
use Rattle.std.proofs.Common.{if◌then◌else◌}
use Rattle.std.specs.Prelude.{slice_get, nat_eq}
use Rattle.styx_msg.specs.declared.message.Rmsg.{Rmsg}
use Rattle.process_model.specs.Machine.{Event, turns, replay}
use Rattle.process_model.specs.Naming.{total}
use Rattle.process_model.specs.Process.{Doing, Ready, Waiting, Asking, Gone}
use Rattle.heap_model.specs.Heap.{Heap, at, in_all}
use Rattle.system_model.specs.Values.{Value}
use Rattle.dis_file.specs.declared.object.Object.{Object}
use Rattle.dis_meaning.specs.Counts.{refers, in_words, in_frame, in_frames}
use Rattle.dis_meaning.specs.Process.{Frame, Process}
use Rattle.dis_meaning.specs.Words.{Word, Plain, Refer, Address, Found}
use Rattle.dis_memory.specs.Blocks.{Block, Record, Text, Array, Part, Cell, Channel, Instance, Sys}
use Rattle.dis_memory.specs.Naming.{inside, names, naming, count}
use Rattle.dis_memory.specs.Rules.{rules}
use Rattle.dis_counts.specs.Counts.{Machine, begun}
use Rattle.dis_counts.specs.Opening.{Opened, opened}
use Rattle.dis_limits.specs.Limits.{LimitsStayFar, IsSized, AllSized, instructions_in}
use Rattle.dis_limits.proofs.Blocks.{blocks_stay_few}
use Rattle.dis_limits.proofs.Fitting.{Allows, FramesFit, ProcessWithin, BlockFits}
use Rattle.dis_limits.proofs.Running.{AllFit, frames_of, all_frames_in, turns_bounded, journal_bounded}
use Rattle.dis_limits.proofs.Beginning.{opening_bounded}

-- So many words fit: those of the largest type, and of the largest array.
abbrev Fits : ℕ → Type 0
Fits n = n ≤ 134217728

one_at_most : (b : Bool) → (if b then 1 else 0) ≤ 1
one_at_most true = omega arith
one_at_most false = omega arith

-- ---- words

word_few : (n : ℕ) (w : Word) → refers n w ≤ 1
word_few n (Refer (Some m)) = one_at_most (nat_eq m n)
word_few n (Refer None) = omega arith
word_few n (Plain z) = omega arith
word_few n (Address place i) = omega arith

words_few : (n : ℕ) (ws : List Word) → in_words n ws ≤ length ws
words_few n [] = omega arith
words_few n (w ∷ ws) = let y = word_few n w in let z = words_few n ws in omega arith

-- ---- blocks: the words of an element, and the reference to the rest of its list

block_few : (n : ℕ) (b : Block) → BlockFits Fits b → inside b n ≤ 134217729
block_few n (Record words) fit = let z = words_few n words in omega arith
block_few n (Text chars) fit = omega arith
block_few n (Array element long words) fit = let z = words_few n words in omega arith
block_few n (Part array start long) fit = let z = word_few n (Refer (Some array)) in omega arith
block_few n (Cell element rest) fit = let y = word_few n (Refer rest) in let z = words_few n element in omega arith
block_few n (Channel element) fit = omega arith
block_few n (Instance object words) fit = let z = words_few n words in omega arith
block_few n (Sys table) fit = omega arith

heap_few : (n : ℕ) (h : Heap Block) → ((k : ℕ) (b : Block) → at h k ≡ Some b → BlockFits Fits b)
    → in_all inside h n ≤ 134217729 * length h
heap_few n [] fit = omega arith
heap_few n (None ∷ os) fit = let z = heap_few n os (λ k b e. fit (suc k) b e) in omega arith
heap_few n (Some b ∷ os) fit =
    let y = block_few n b (fit 0 b refl) in let z = heap_few n os (λ k b e. fit (suc k) b e) in omega arith

-- ---- frames: their words, and the instance

frame_few : (n : ℕ) (f : Frame) → Fits (length f.words) → in_frame n f ≤ 134217729
frame_few n f fit = let y = one_at_most (nat_eq f.instance n) in let z = words_few n f.words in omega arith

frames_few : (n : ℕ) (fs : List Frame) → FramesFit Fits fs → in_frames n fs ≤ 134217729 * length fs
frames_few n [] fit = omega arith
frames_few n (f ∷ fs) fit = let y = frame_few n f fit.0 in let z = frames_few n fs fit.1 in omega arith

process_few : (n k : ℕ) (p : Process) → ProcessWithin Fits k p → names p n ≤ 134217729 * frames_of p
process_few n k p w =
    let x = frame_few n p.frame w.frame in
    let y = frames_few n p.below w.below in let z = frames_few n p.made w.made in omega arith

processes_few : (n : ℕ) (ps : List (Doing Process Value)) → AllFit Fits ps → total naming ps n ≤ 134217729 * all_frames_in ps
processes_few n [] all = omega arith
processes_few n (Ready p ∷ ps) all =
    let y = process_few n (frames_of p) p all.0 in let z = processes_few n ps all.1 in omega arith
processes_few n (Waiting bs p ∷ ps) all =
    let y = process_few n (frames_of p) p all.0 in let z = processes_few n ps all.1 in omega arith
processes_few n (Asking p ∷ ps) all =
    let y = process_few n (frames_of p) p all.0 in let z = processes_few n ps all.1 in omega arith
processes_few n (Gone ∷ ps) all = let z = processes_few n ps all.1 in omega arith

-- ---- runs

sized : (objects : List Object) (j : ℕ) (o : Object) → AllSized objects → slice_get objects j ≡ Some o → IsSized o
sized [] j o all e = absurd cc
sized (p ∷ ps) zero o all e = let same : p ≡ o = cc in rw (← same) all.0
sized (p ∷ ps) (suc j) o all e = sized ps j o all.1 e

allowed : (o : Object) → IsSized o → Allows Fits o
allowed o s = record {
  less = λ k n l fit. omega arith;
  array = omega arith;
  types = λ k t e. let z = s.types k t e in omega arith;
}

-- Whatever the number of instructions is.
pub references_few : (limit longest : ℕ) (o : Object) (others : List Object) (m : Opened) → AllSized (o ∷ others) → opened o ≡ Found m
    → (journal : List (Event Rmsg)) (s : Machine) → replay (rules limit (o ∷ others)) naming longest (begun m) journal ≡ Some s
    → (i n : ℕ) (t : Machine) → turns (rules limit (o ∷ others)) naming i n s ≡ Some t
    → (q : ℕ) → count t.world t.processes q ≤ 134217729 * (2 + length o.items + 2 * (instructions_in journal + n))
references_few limit longest o others m all opens journal s e i n t f q =
    let allow = λ (j : ℕ) (u : Object) (g : slice_get (o ∷ others) j ≡ Some u). allowed u (sized (o ∷ others) j u all g) in
    let first = opening_bounded Fits o (allowed o all.0) m opens in
    let after = journal_bounded Fits limit (o ∷ others) allow (1 + length o.items) 1 longest journal _ s first e in
    let last = turns_bounded Fits limit (o ∷ others) allow (1 + length o.items + instructions_in journal)
    (1 + instructions_in journal) n i s t after f in
    let blocks = last.heap.few in
    let frames = last.frames in
    let y = processes_few q t.processes last.processes in let z = heap_few q t.world.heap last.heap.each in omega arith

pub limits_stay_far : LimitsStayFar
limits_stay_far limit longest o others m all opens journal s e i n t f few = record {
  blocks = let y = blocks_stay_few limit longest o others m opens journal s e i n t f in let z = all.0.items in omega arith;
  counts = λ q.
      let y = references_few limit longest o others m all opens journal s e i n t f q in let z = all.0.items in omega arith;
}
