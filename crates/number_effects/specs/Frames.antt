-- How frames are found by their serials, once one is made, and once words are stored in one.
use Rattle.std.specs.Prelude.{ℕ, ◌≡◌, ◌≢◌, List, [], ◌∷◌}
use Rattle.dis_meaning.specs.Words.{Word, Found}
use Rattle.dis_meaning.specs.Process.{Frame, Process, with_words}
use Rattle.dis_meaning.specs.Places.{words_in, all_frames, with_frame_words}
use Rattle.dis_meaning.specs.Step.{made_frame, without}
use Rattle.dis_memory.specs.Places.{Memory}
use Rattle.dis_memory.specs.Control.{next_frame, framed}

-- None of these frames has this serial.
abbrev pub NoneHas : ℕ → List Frame → Type 0
NoneHas s [] = Unit {0}
NoneHas s (f ∷ fs) = (f.serial ≢ s) × NoneHas s fs

-- The frame that is made for these words.
abbrev pub new_one : Memory → List Word → Frame
new_one m words = record { serial = next_frame m.world; instance = m.process.frame.instance; pc = 0; words = words }

pub record FramesAreFound : Type 0 where
  -- The frame that was made last is found, and once it is called those are left that were made before it.
  pub new_words : (m : Memory) (words : List Word) → NoneHas (next_frame m.world) (all_frames m.process) →
      words_in (next_frame m.world) (all_frames (framed m words).process) ≡ Found words
  pub new_made : (m : Memory) (words : List Word) → NoneHas (next_frame m.world) m.process.made →
      made_frame (framed m words).process.made (next_frame m.world) ≡ Found (new_one m words)
  pub new_gone : (m : Memory) (words : List Word) → NoneHas (next_frame m.world) m.process.made →
      without (next_frame m.world) (framed m words).process.made ≡ m.process.made
  -- All others are found as they were.
  pub other_words : (m : Memory) (words : List Word) (s : ℕ) → s ≢ next_frame m.world →
      words_in s (all_frames (framed m words).process) ≡ words_in s (all_frames m.process)
  pub other_made : (m : Memory) (words : List Word) (s : ℕ) → s ≢ next_frame m.world →
      made_frame (framed m words).process.made s ≡ made_frame m.process.made s
  -- Where words are stored in a frame, it has them, and the others have their own.
  pub stored_words : (p : Process) (s : ℕ) (old new : List Word) → words_in s (all_frames p) ≡ Found old →
      words_in s (all_frames (with_frame_words p s new)) ≡ Found new
  pub stored_made : (p : Process) (s : ℕ) (f : Frame) (new : List Word) → made_frame p.made s ≡ Found f →
      made_frame (with_frame_words p s new).made s ≡ Found (with_words f new)
  pub stored_gone : (p : Process) (s : ℕ) (new : List Word) → without s (with_frame_words p s new).made ≡ without s p.made
  pub elsewhere_words : (p : Process) (s : ℕ) (new : List Word) (r : ℕ) → r ≢ s →
      words_in r (all_frames (with_frame_words p s new)) ≡ words_in r (all_frames p)
  pub elsewhere_made : (p : Process) (s : ℕ) (new : List Word) (r : ℕ) → r ≢ s →
      made_frame (with_frame_words p s new).made r ≡ made_frame p.made r
