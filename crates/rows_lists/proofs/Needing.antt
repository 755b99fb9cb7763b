-- At an instruction of a row: its slots are there and have what it needs, and the next row begins behind the last.
use Rattle.std.proofs.Common.{◌≡◌, ℕ, suc, ◌<◌, List, [], length, Option, Some, ap, arith}
use Rattle.std.specs.Prelude.{slice_get, slice_index_or}
use Rattle.limbo_typed.specs.Typed as typed
use Rattle.limbo_meaning.specs.Process.{Shared}
use Rattle.core_code.specs.Code.{Instr}
use Rattle.core_code.specs.Machine as code
use Rattle.core_code.specs.Using.{Uses}
use Rattle.core_typing.specs.Held as held
use Rattle.core_typing.specs.Held.{Of}
use Rattle.core_typing.specs.Needs.{Finds, IsClean}
use Rattle.core_typing.specs.Going.{stand, behind}
use Rattle.dis_meaning.specs.Process.{Process}
use Rattle.dis_memory.specs.Blocks.{World}
use Rattle.value_words.specs.Facts.{Facts}
use Rattle.value_frames.specs.Frames.{reference_place}
use Rattle.value_frames.specs.Standing.{RefersIdly}
use Rattle.value_code.specs.Objects.{of_function, size_at}
use Rattle.value_follows.specs.Stands.{types_of, scope, place_of, GoesOn}
use Rattle.value_follows.specs.Sides.{sides, HoldTheSame}
use Rattle.value_follows.specs.Rows.{RowGoes, Base}
use Rattle.value_follows.proofs.Standing.{finds, goes_behind}
use Rattle.value_follows.proofs.Slots.{uses}
use Rattle.value_follows.proofs.Putting.{at_rest}
use Rattle.value_follows.proofs.Several.{moved_to}
use Rattle.value_follows.proofs.Single.{Once}
use Rattle.rows_lists.proofs.OnTheWay.{On, frame_is, row_code, back, on_ready, on_way}

-- ---- at any instruction of a row

module _ (m : typed.Module) (k : Facts) (i : ℕ) (x : World) (busy : List ℕ) (n : ℕ) (f : typed.Function) (j : ℕ) (p : code.Process)
    (q : Process) (on : On m k i x busy n f j p q) (instr : Instr) (here : slice_get p.frame.code p.frame.pc ≡ Some instr) where
  pub row_is : slice_get (of_function m f).code p.frame.pc ≡ Some instr
  row_is = row_code m k i x busy n f j p q on instr here

  -- its slots are there, and have what it needs
  pub used : Uses (length p.frame.slots) instr
  used = uses m k i x busy p.frame q.frame (frame_is m k i x busy n f j p q on) p.frame.pc instr row_is

  pub found : Finds (scope m f) f.of.answer on.known instr
  found = finds m f p.frame.pc on.known instr on.goes row_is

  -- the next row begins behind the last
  pub next_on : (size : ℕ) → size_at m f.of.answer (of_function m f) p.frame.pc (Some instr) ≡ size → suc j ≡ size
      → suc q.frame.pc ≡ place_of m n f (suc p.frame.pc)
  next_on size e last =
      let a = ap (λ (o : Option Instr). size_at m f.of.answer (of_function m f) p.frame.pc o) row_is in
      let g = on.pc in
      omega (arith, e, a, g, last)

  pub goes_on_behind : (l pc : ℕ) (known : held.Slots) → l < length (behind m.adts p.frame.pc on.known instr)
      → slice_index_or (behind m.adts p.frame.pc on.known instr) l (stand pc known) ≡ stand pc known → GoesOn m f pc known
  goes_on_behind = goes_behind m f p.frame.pc on.known instr on.goes row_is

-- a slot that names nothing refers to something or nothing
module _ (m : typed.Module) (k : Facts) (i : ℕ) (x : World) (n : ℕ) (f : typed.Function) (j : ℕ) (p : code.Process) (q : Process)
    (on : On m k i x [] n f j p q) (s : ℕ) (l : s < length p.frame.slots) (clean : IsClean (held.slot on.known s)) where
  pub rests : RefersIdly m.adts k q.frame.words (reference_place m.adts (types_of m f) s)
  rests = (at_rest m k i x p (moved_to q (place_of m n f p.frame.pc) q.frame.words) (back m k i x n f j p q on) s l clean).0

-- ---- rows of one instruction

module _ (m : typed.Module) (b : Base m) (i : ℕ) (p : code.Process) (q : Process) where
  -- a row goes, if its instruction does so whatever others did
  pub one_goes : (k : Facts) (x : World) → (r : (sides m).ready k i x p q)
      → ((now : Facts) (w : Shared) (y : World) → (on : On m now i y [] r.0.stands.is.number r.0.stands.is.function 0 p q)
      → HoldTheSame m now i y p q → (sides m).worlds now w y → Once m b i p q now w y)
      → RowGoes m k i x p q
  one_goes k x r does = (
    0,
    on_way m b i p q [] r.0.stands.is.number r.0.stands.is.function 0 0 k x (on_ready m i p q k x r.0) r.1
        (λ now w y grows on hold worlds. does now w y on hold worlds),
  )
