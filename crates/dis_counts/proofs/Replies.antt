-- A reply leaves no word that refers to a block that isn't there, and lets no block go.
use Rattle.std.proofs.Common.{◌≡◌, ℕ, ℤ, Option, Some, None, refl}
use Rattle.styx_msg.specs.declared.message.Rmsg.{Rmsg}
use Rattle.process_model.specs.Process.{Went}
use Rattle.system_model.specs.Prints.{Printing, Answers, Requests, NoReply, hear}
use Rattle.system_model.specs.Values.{Value, Num}
use Rattle.system_model.specs.World as outside
use Rattle.dis_meaning.specs.Words.{Place, Access, Found, Wrong, Raises, ◌>>=◌}
use Rattle.dis_meaning.specs.Places.{Far}
use Rattle.dis_meaning.specs.Process as process
use Rattle.dis_meaning.specs.Process.{Process, with_frames}
use Rattle.dis_meaning.specs.Step.{word_of}
use Rattle.dis_memory.specs.Blocks.{World}
use Rattle.dis_memory.specs.Places.{Memory}
use Rattle.dis_memory.specs.Process.{or_fault}
use Rattle.dis_memory.specs.Control.{with_outside, outside_of, answered, hears, heard, answer}
use Rattle.dis_memory.specs.Laws.{Grown, GrownBy}
use Rattle.dis_memory.specs.Sound.{Refers, NothingDangles, NothingDanglesAfter}
use Rattle.dis_memory.proofs.Growing.{grown_same, grown_store}
use Rattle.dis_memory.proofs.Sound.{store_kept}

module _ (x : World) (p : Process) where
  -- The outside changes alone.
  outside_kept : (w : outside.World) → NothingDangles x p → NothingDangles (with_outside x w) p
  outside_kept w d = record { heap = d.heap; process = d.process }

  outside_grown : (w : outside.World) (y : World) → Grown (with_outside x w) y → Grown x y
  outside_grown w y g = record { longer = g.longer; there = g.there; empty = g.empty }

  outside_same : (w : outside.World) → Grown x (with_outside x w)
  outside_same w = let g = grown_same x in record { longer = g.longer; there = g.there; empty = g.empty }

  number_none : (v : Value) (n : ℕ) → Refers (word_of v) n → ⊥
  number_none (Num z) n r = r

  pub hears_keep : (place : Place) (k : ℤ) (g : Printing) → NothingDangles x p → NothingDanglesAfter (hears x p place k g)
  hears_keep place k (Answers w v) d = go (answered (with_outside x w) p place k v) refl
    where
      go : (a : Access Memory) → answered (with_outside x w) p place k v ≡ a
          → NothingDanglesAfter
          (or_fault x p (a >>= λ m. Found (Went m.world (with_frames m.process m.process.frame m.process.below m.process.made))))
      go (Found m) e =
          let s = store_kept (with_outside x w) p (outside_kept w d) (Far place k) (word_of v) m (λ n r. absurd (number_none v n r)) e in
          record { heap = s.heap; process = s.process }
      go (Wrong n) e = d.heap
      go (Raises text) e = d.heap
  hears_keep place k (Requests w m g) d = record { heap = d.heap; process = d.process }
  hears_keep place k NoReply d = d

  pub hears_grow : (place : Place) (k : ℤ) (g : Printing) → GrownBy x (hears x p place k g)
  hears_grow place k (Answers w v) = go (answered (with_outside x w) p place k v) refl
    where
      go : (a : Access Memory) → answered (with_outside x w) p place k v ≡ a
          → GrownBy x (or_fault x p
          (a >>= λ m. Found (Went m.world (with_frames m.process m.process.frame m.process.below m.process.made))))
      go (Found m) e = outside_grown w m.world (grown_store (with_outside x w) p (Far place k) (word_of v) m e)
      go (Wrong n) e = grown_same x
      go (Raises text) e = grown_same x
  hears_grow place k (Requests w m g) = outside_same w
  hears_grow place k NoReply = grown_same x

  pub answer_keeps : (a : Rmsg) → NothingDangles x p → NothingDanglesAfter (answer a x p)
  answer_keeps a d = go p.printing
    where
      go : (o : Option process.Printing) → NothingDanglesAfter (heard a x p o)
      go None = d
      go (Some k) = hears_keep k.place k.at (hear a (outside_of x) k.writing) d

  pub answer_grows : (a : Rmsg) → GrownBy x (answer a x p)
  answer_grows a = go p.printing
    where
      go : (o : Option process.Printing) → GrownBy x (heard a x p o)
      go None = grown_same x
      go (Some k) = hears_grow k.place k.at (hear a (outside_of x) k.writing)
