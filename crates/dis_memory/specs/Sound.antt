-- No reference names a block that isn't there.
use Rattle.std.specs.Prelude.{ℕ, ◌≡◌, ◌⊎◌, List, [], ◌∷◌, Some}
use Rattle.process_model.specs.Process.{Went, Parks, Polls, Spawns, Asks, Ends}
use Rattle.heap_model.specs.Heap.{at}
use Rattle.dis_file.specs.declared.object.Object.{Object}
use Rattle.dis_meaning.specs.Words.{Word, Plain, Refer, Address}
use Rattle.dis_meaning.specs.Process.{Frame, Process}
use Rattle.dis_meaning.specs.Places.{all_frames}
use Rattle.dis_memory.specs.Blocks.{Block, World, words_in}
use Rattle.dis_memory.specs.Process.{Does}
use Rattle.dis_memory.specs.Step.{step}

-- The block of this serial is there.
abbrev pub IsThere : World → ℕ → Type 0
IsThere x n = (b : Block) × (at x.heap n ≡ Some b)

-- A word refers to it; one of these words does. An address is no reference.
abbrev pub Refers : Word → ℕ → Type 0
Refers (Refer r) n = r ≡ Some n
Refers (Address place at) n = ⊥
Refers (Plain z) n = ⊥

abbrev pub SomeRefers : List Word → ℕ → Type 0
SomeRefers [] n = ⊥
SomeRefers (w ∷ ws) n = Refers w n ⊎ SomeRefers ws n

-- A frame does, by its instance or its words; one of these frames does.
abbrev pub FrameRefers : Frame → ℕ → Type 0
FrameRefers f n = (f.instance ≡ n) ⊎ SomeRefers f.words n

abbrev pub FramesRefer : List Frame → ℕ → Type 0
FramesRefer [] n = ⊥
FramesRefer (f ∷ fs) n = FrameRefers f n ⊎ FramesRefer fs n

-- What blocks refer to is there, and what the frames of a process refer to.
abbrev pub IsClosed : World → Type 0
IsClosed x = (m n : ℕ) (b : Block) → at x.heap m ≡ Some b → SomeRefers (words_in b) n → IsThere x n

abbrev pub IsSound : World → Process → Type 0
IsSound x p = (n : ℕ) → FramesRefer (all_frames p) n → IsThere x n

pub record NothingDangles (x : World) (p : Process) : Type 0 where
  pub heap : IsClosed x
  pub process : IsSound x p

-- So it is after what a process does.
abbrev pub NothingDanglesAfter : Does → Type 0
NothingDanglesAfter (Went y q) = NothingDangles y q
NothingDanglesAfter (Parks y bs q) = NothingDangles y q
NothingDanglesAfter (Polls y bs q r) = NothingDangles y q × NothingDangles y r
NothingDanglesAfter (Spawns y child q) = NothingDangles y child × NothingDangles y q
NothingDanglesAfter (Asks y m q) = NothingDangles y q
NothingDanglesAfter (Ends y how) = IsClosed y

-- Every instruction keeps it so: what it stores is read from somewhere, or is new.
abbrev pub NothingComesToDangle : Type 0
NothingComesToDangle =
    (limit : ℕ) (objects : List Object) (x : World) (p : Process) → NothingDangles x p → NothingDanglesAfter (step limit objects x p)
