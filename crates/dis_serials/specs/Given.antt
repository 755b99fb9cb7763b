-- Which serials frames have: those that the machine gave, each smaller than the next that it gives.
use Rattle.std.specs.Prelude.{ℕ, ◌<◌, ◌≤◌, List}
use Rattle.std.specs.List.{AllByRecursion}
use Rattle.std.proofs.Props.{props}
use Rattle.styx_msg.specs.declared.message.Rmsg.{Rmsg}
use Rattle.process_model.specs.Process.{Went, Parks, Polls, Spawns, Asks, Ends}
use Rattle.dis_file.specs.declared.object.Object.{Object}
use Rattle.dis_meaning.specs.Process.{Frame, Process}
use Rattle.dis_memory.specs.Blocks.{World}
use Rattle.dis_memory.specs.Control.{answer}
use Rattle.dis_memory.specs.Process.{Does}
use Rattle.dis_memory.specs.Step.{step}

-- Each of these has one that was given, where so many were.
abbrev pub AreGiven : (frames : ℕ) → List Frame → Type 0
AreGiven n fs = AllByRecursion (λ f. f.serial < n) fs

-- Each frame of the process has one.
pub record HasGiven (x : World) (p : Process) : Type 0 where
  pub running : p.frame.serial < x.outside.frames
  pub waiting : AreGiven x.outside.frames p.below
  pub made : AreGiven x.outside.frames p.made

-- That has at most one proof.
pub given_once : (x : World) (p : Process) → IsProp (HasGiven x p)
given_once x p = hlevel props

-- Serials are given in rising order, so that what was given stays so, and each frame of the process still has one.
pub record StaysGiven (x y : World) (q : Process) : Type 0 where
  pub rises : x.outside.frames ≤ y.outside.frames
  pub given : HasGiven y q

-- So it is after what a process does.
abbrev pub IsGivenAfter : World → Does → Type 0
IsGivenAfter x (Went y q) = StaysGiven x y q
IsGivenAfter x (Parks y bs q) = StaysGiven x y q
IsGivenAfter x (Polls y bs q r) = StaysGiven x y q × StaysGiven x y r
IsGivenAfter x (Spawns y child q) = StaysGiven x y child × StaysGiven x y q
IsGivenAfter x (Asks y m q) = StaysGiven x y q
IsGivenAfter x (Ends y how) = x.outside.frames ≤ y.outside.frames

-- Each instruction and each reply keeps it so.
pub record SerialsAreGiven : Type 0 where
  pub steps : (limit : ℕ) (objects : List Object) (x : World) (p : Process) → HasGiven x p → IsGivenAfter x (step limit objects x p)
  pub replies : (a : Rmsg) (x : World) (p : Process) → HasGiven x p → IsGivenAfter x (answer a x p)
