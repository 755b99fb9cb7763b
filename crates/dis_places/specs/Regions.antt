-- Where words lie that an operand reaches.
use Rattle.std.specs.Prelude.{◌≡◌, ℕ, List, [], Option, Some, None, slice_get}
use Rattle.dis_meaning.specs.Words.{Word}
use Rattle.ref_heap.specs.Store.{Block, Store, at}
use Rattle.dis_places.specs.declared.frame.Frame.{Frame}
use Rattle.dis_places.specs.declared.frames.Slot.{Slot}
use Rattle.dis_places.specs.declared.frames.Slot.TheVariants as slot
use Rattle.dis_places.specs.declared.process.Process.{Process}
use Rattle.dis_places.specs.declared.spots.Region.{Region}
use Rattle.dis_places.specs.declared.spots.Region.TheVariants as region
use Rattle.dis_places.specs.Blocks.{words_of}
use Rattle.dis_places.specs.Frames.{view_frame, view_frames, occurs, IsAt}
use Rattle.dis_places.specs.Words.{view_words}

abbrev pub words_in : Option Frame → List Word
words_in None = []
words_in (Some f) = view_words f.words.items

abbrev pub block_words : Option Block → List Word
block_words None = []
block_words (Some b) = words_of b.content

-- The words of a region.
abbrev pub words_here : Store → Process → Region → List Word
words_here h p region.Own = view_words p.frame.words.items
words_here h p (region.Below k) = words_in (slice_get p.below.items k)
words_here h p (region.Made k) = words_in (slice_get p.made.items k)
words_here h p (region.Block r) = block_words (at h r.serial)

-- The frame of this serial stands there, or there is none.
abbrev pub Stands : Slot → (serial : ℕ) → Process → Type 0
Stands slot.Running s p = p.frame.serial ≡ s
Stands (slot.Below k) s p = IsAt s (view_frames p.below.items) k
Stands (slot.Made k) s p = IsAt s (view_frames p.made.items) k
Stands slot.Gone s p = occurs s (view_frame p.frame) (view_frames p.below.items) (view_frames p.made.items) ≡ 0
