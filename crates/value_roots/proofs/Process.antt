-- A process names what its words do, those of all its frames together.
use Rattle.std.proofs.Common.{◌≡◌, ℕ, ◌<◌, true, List, [], ◌∷◌, ◌++◌, subst, arith}
use Rattle.heap_model.specs.Kept.{IsClosed}
use Rattle.heap_model.specs.Heap.{Heap, at, there, graph}
use Rattle.heap_model.specs.Alike.{Holds}
use Rattle.heap_model.proofs.Heap.{fun_ext}
use Rattle.dis_meaning.specs.Counts.{in_words, in_frames}
use Rattle.dis_meaning.specs.Process.{Frame, Process}
use Rattle.dis_memory.specs.Blocks.{Block}
use Rattle.dis_memory.specs.Naming as machine
use Rattle.dis_memory.specs.Naming.{inside}
use Rattle.value_words.specs.Facts.{Facts}
use Rattle.value_roots.specs.Accounts.{AllAccounted, LeadTo, frame_words, all_words, process_words}
use Rattle.value_roots.proofs.Words.{in_both}
use Rattle.value_roots.proofs.Owned.{roots}

frames_count : (fs : List Frame) (n : ℕ) → in_words n (all_words fs) ≡ in_frames n fs
frames_count [] n = omega arith
frames_count (f ∷ fs) n = let e = in_both (frame_words f) (all_words fs) n in let r = frames_count fs n in omega arith

pub process_counts : (p : Process) (n : ℕ) → in_words n (process_words p) ≡ machine.names p n
process_counts p n =
    let e = in_both (frame_words p.frame) (all_words p.below ++ all_words p.made) n in
    let f = in_both (all_words p.below) (all_words p.made) n in
    let b = frames_count p.below n in
    let m = frames_count p.made n in
    omega arith

pub process_holds : (k : Facts) (i : ℕ) (x : Heap Block) (names : ℕ → ℕ) (p : Process) → AllAccounted k i x names (process_words p)
    → ((m : ℕ) → 0 < names m → LeadTo k x m (process_words p)) → IsClosed (graph inside x)
    → ((q : ℕ) → 0 < machine.names p q → there (at x q) ≡ true) → Holds k (λ j. j ≡ i) (graph inside x) names (machine.names p)
process_holds k i x names p each leads closed live =
    subst (λ f. Holds k (λ j. j ≡ i) (graph inside x) names f) (fun_ext (process_counts p))
    (roots k i x names (process_words p) each leads closed (λ q u. live q (subst (λ n. 0 < n) (process_counts p q) u)))
