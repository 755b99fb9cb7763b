-- Strings that change in place, where nothing else refers to them: the block becomes the next one, and the old one is gone.
use Rattle.std.specs.Prelude.{◌≡◌, ℕ, ◌+◌, ◌≤◌, Bool, true, false, List, ◌++◌, length, Some, Result, Ok, Err}
use Rattle.ref_heap.specs.declared.kind.Kind.TheVariants as kind
use Rattle.ref_heap.specs.Answers.{most}
use Rattle.ref_heap.specs.Store.{Block, Store, at, one, outside, with_block, with_content, with_new, without_block}
use Rattle.ref_heap.specs.Words.{compact}
use Rattle.dis_meaning.specs.Words.{Place, InBlock, InFrame, Refer, Access, Found}
use Rattle.dis_meaning.specs.Places.{Spot, Own, Data, Far}
use Rattle.dis_memory.specs.Places.{read}
use Rattle.dis_memory.specs.Strings.{with_character}
use Rattle.dis_places.specs.declared.fault.Halt.{Halt}
use Rattle.dis_places.specs.declared.memory.Memory.{Memory}
use Rattle.dis_places.specs.declared.process.Process as code_process
use Rattle.dis_places.specs.declared.spots.Spot as code_spot
use Rattle.dis_places.specs.View.{view_process, view_spot, view_world}
use Rattle.dis_places.specs.Words.{Halts}
use Rattle.ref_heap.specs.declared.word.Ref.{Ref}
use Rattle.dis_strings.specs.declared.renewing.Change.{Change}
use Rattle.dis_strings.specs.declared.renewing.Change.TheVariants.{Make, Renew}
use Rattle.dis_strings.specs.declared.renewing.Edit.{Edit}
use Rattle.dis_strings.specs.declared.renewing.Edit.TheVariants.{Append, Insert}

-- Whether a byte is one of a frame.
abbrev pub is_frame : Place → Bool
is_frame (InBlock n) = false
is_frame (InFrame s) = true

abbrev pub in_frame : Spot → Bool
in_frame (Own at) = true
in_frame (Data at) = false
in_frame (Far place at) = is_frame place

-- There is one reference to the block, and one more serial is left.
pub record MayRenew (h : Store) (k : ℕ) : Type 0 where
  pub block : Block
  pub live : at h k ≡ Some block
  pub only : block.count ≡ 1
  pub room : h.made ≡ most → ⊥

-- The block is a string of these characters.
pub record HasText (h : Store) (k : ℕ) (s : List ℕ) : Type 0 where
  pub block : Block
  pub live : at h k ≡ Some block
  pub kind : block.kind ≡ kind.Text
  pub content : block.content ≡ compact s

-- What an edit makes of a string, and whether it may.
abbrev pub edited : List ℕ → Edit → List ℕ
edited s (Append more) = s ++ more.items
edited s (Insert k c) = with_character s k c

abbrev pub Fits : List ℕ → Edit → Type 0
Fits s (Append more) = Unit {0}
Fits s (Insert k c) = k ≤ length s

-- The string has these characters, and all else is as it was.
pub record IsEdited (old new : Store) (k : ℕ) (s t : List ℕ) : Type 0 where
  pub before : HasText old k s
  pub is : new ≡ with_block old k (with_content before.block (compact t))
  pub outside : (n : ℕ) → outside new n ≡ outside old n

-- The string of these characters is the next block, and its reference is that of the block that is gone.
pub record IsAnew (old new : Store) (k k' : ℕ) (s t : List ℕ) : Type 0 where
  pub before : HasText old k s
  pub serial : k' ≡ old.made
  pub is : new ≡ with_new (without_block (with_block old k (with_content before.block (compact t))) k)
      (with_content before.block (compact t))
  pub outside : (n : ℕ) → outside new n + one k n ≡ outside old n + one k' n

-- A word has the only reference to a string, of which an edit makes these characters.
pub record IsOwn (m : Memory) (p : code_process.Process) (d : code_spot.Spot) (r : Ref) (edit : Edit) (t : List ℕ) : Type 0 where
  pub there : read (view_world m) (view_process p) (view_spot d) ≡ Found (Refer (Some r.serial))
  pub may : MayRenew m.heap r.serial
  pub before : List ℕ
  pub text : HasText m.heap r.serial before
  pub fits : Fits before edit
  pub is : edited before edit ≡ t

-- What comes of a change: a string of these characters.
abbrev pub Comes : Memory → code_process.Process → code_spot.Spot → Change → List ℕ → Type 0
Comes m p d (Renew r edit) t = IsOwn m p d r edit t
Comes m p d (Make text) t = text.items ≡ t

-- What the definition finds comes of the change, or there is what it raises.
abbrev pub Changes : Memory → code_process.Process → code_spot.Spot → Result Change Halt → Access (List ℕ) → Type 0
Changes m p d (Ok change) access = (t : List ℕ) × (access ≡ Found t) × Comes m p d change t
Changes m p d (Err h) access = Halts h access
