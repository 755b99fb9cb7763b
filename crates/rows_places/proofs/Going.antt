-- Rows whose inner instructions change nothing that refers, nor what the frames stand for: as long as they last, the machine's process is
-- that of two that are ready, at another place. And what the last of them does.
use Rattle.std.proofs.Common.{◌≡◌, ℕ, suc, pos, [], Option, sym, ap, ◌∙◌}
use Rattle.process_ways.specs.Ways.{Way}
use Rattle.limbo_typed.specs.Typed as typed
use Rattle.limbo_meaning.specs.Process.{Shared}
use Rattle.core_code.specs.Machine as code
use Rattle.dis_meaning.specs.Words.{word_at}
use Rattle.dis_meaning.specs.Process.{Process, Printing, at_pc, with_words}
use Rattle.dis_memory.specs.Blocks.{World}
use Rattle.dis_memory.specs.Naming as machine
use Rattle.value_words.specs.Facts.{Facts, Grows}
use Rattle.value_frames.specs.Frames.{spare_place}
use Rattle.value_follows.specs.Stands.{Ready, place_of, types_of}
use Rattle.value_follows.specs.Kept.{SameFrame}
use Rattle.value_follows.specs.Sides.{sides, HoldTheSame}
use Rattle.value_follows.specs.Rows.{place, Base}
use Rattle.value_follows.proofs.Several.{hold_as, Next}

-- the process of the machine at another place
abbrev pub at_place_of : Process → (pc : ℕ) → Option Printing → Process
at_place_of q pc printing =
    record { number = q.number; frame = at_pc (with_words q.frame q.frame.words) pc; below = q.below; made = q.made; printing = printing }

-- ---- ways

module _ (m : typed.Module) (b : Base m) (i : ℕ) (p : code.Process) where
  -- two that are ready at the begin of the row are so later, and the frame is that of the same function, of whose slots the same is known
  pub ready_still : (k now : Facts) (x y : World) (q : Process) (r : Ready m k i x p q) → (sides m).leaves i k now x y
      → HoldTheSame m now i y p q → (s : Ready m now i y p q) × SameFrame m k now i x y r.stands.is s.stands.is
  ready_still k now x y q r l h =
      let after = b.stands_later k now i x y [] _ p q r.stands l h in
      let same = after.1 in (
        record {
          stands = after.0;
          pc = r.pc ∙ sym (ap (λ n. place_of m n after.0.is.function p.frame.pc) same.number ∙ ap (λ f. place_of m r.stands.is.number f p.frame.pc) same.function);
          spare = ap (λ f. word_at q.frame.words (pos (spare_place m.adts (types_of m f)))) same.function ∙ r.spare;
          none_made = r.none_made;
        },
        same,
      )

  -- a way from here, where the two are ready at the begin of the row
  pub going_on : (first q : Process) → ((n : ℕ) → machine.names q n ≡ machine.names first n) → (n : ℕ) (k : Facts) (x : World)
      → (r : Ready m k i x p first) → HoldTheSame m k i x p q
      → ((now : Facts) (w : Shared) (y : World) (s : Ready m now i y p first) → Grows k now → SameFrame m k now i x y r.stands.is s.stands.is
      → HoldTheSame m now i y p first → (sides m).worlds now w y → Next m b i p n now w y q)
      → Way (sides m) (place m) (suc n) k i x p q
  going_on first q same n k x r hold does = (
    hold,
    λ now y w l h worlds.
        let h' = hold_as m b i p now y q first same h in
        let s = ready_still k now x y first r l h' in
        does now w y s.0 l.0.grows s.1 h' worlds,
  )
