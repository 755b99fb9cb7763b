-- Rows of calls.
use Rattle.std.specs.Prelude.{ℕ, ◌≡◌, ◌<◌, None, Some, replicate, slice_get}
use Rattle.styx_msg.specs.declared.message.Rmsg.{Rmsg}
use Rattle.process_model.specs.Follows.{MatchesReply}
use Rattle.process_ways.specs.Ways.{with_ways}
use Rattle.limbo_types.specs.Types.{Ty}
use Rattle.limbo_layout.specs.Layout.{Laid, AllLaid}
use Rattle.limbo_layout.specs.Laying.{rooms_of}
use Rattle.limbo_typed.specs.Typed as typed
use Rattle.limbo_typed.specs.Sound.{IsSound}
use Rattle.limbo_meaning.specs.Process.{Shared}
use Rattle.limbo_meaning.specs.Program.{program_of}
use Rattle.limbo_kept.specs.Modules.{AdtsAreLaid, TextsAreWritten}
use Rattle.core_follows.specs.Modules.{ProgramPart}
use Rattle.core_code.specs.Rooms.{rooms_in}
use Rattle.core_code.specs.Code as core
use Rattle.core_code.specs.Machine as code
use Rattle.core_typing.specs.Held as held
use Rattle.core_typing.specs.Runs.{VariantsAreFew, ProgramRuns}
use Rattle.dis_meaning.specs.Process.{Process}
use Rattle.dis_memory.specs.Blocks.{World}
use Rattle.value_words.specs.Facts.{Facts}
use Rattle.value_frames.specs.Frames.{Boxed, form_of, room_for}
use Rattle.value_code.specs.Objects.{of_function}
use Rattle.value_follows.specs.Stands.{types_of, GoesOn}
use Rattle.value_follows.specs.Sides.{sides}
use Rattle.value_follows.specs.Rows.{Base, InstrGoes, place}

-- Each function begins well: its variables and its answer have layouts, and from its beginning, with empty slots, each instruction that
-- its code comes to finds what it needs.
pub record FunctionsBegin (m : typed.Module) : Type 0 where
  pub laid : (n : ℕ) (f : typed.Function) → slice_get m.functions n ≡ Some f →
      AllLaid m.adts (types_of m f) (rooms_of (rooms_in m.adts) (types_of m f))
  pub answered : (n : ℕ) (f : typed.Function) → slice_get m.functions n ≡ Some f → Laid m.adts f.of.answer (room_for m.adts f.of.answer)
  pub goes : (n : ℕ) (f : typed.Function) → slice_get m.functions n ≡ Some f →
      GoesOn m f 0 (replicate (of_function m f).slots held.empty)

-- A call of a function without operands goes on in the frame that is made for it, where its answer has no record of its own: it is nothing,
-- a number or a reference. Where too many frames wait, both processes end as broken.
abbrev pub PlainCallsGo : Type 0
PlainCallsGo =
    (m : typed.Module) → Base m → FunctionsBegin m → (t : Ty) (f into : ℕ) → (form_of t ≡ Boxed → ⊥) → InstrGoes m (core.Call t f into None)

-- So does one whose answer has a record of its own, which is made in front of the call, where values of its type take some room. (Of a
-- record without words the machine has no address.)
abbrev pub BoxedCallsGo : Type 0
BoxedCallsGo =
    (m : typed.Module) → Base m → FunctionsBegin m → (t : Ty) (f into : ℕ) → form_of t ≡ Boxed → 0 < (room_for m.adts t).size →
    InstrGoes m (core.Call t f into None)

-- The functions of each sound module of this part of the language begin well, where its adts have layouts and few variants, its texts are
-- written well and its trees are run.
abbrev pub SoundFunctionsBegin : Type 0
SoundFunctionsBegin =
    (m : typed.Module) → IsSound m → AdtsAreLaid m.adts → VariantsAreFew m.adts → TextsAreWritten m → ProgramPart (program_of m) →
    ProgramRuns m.adts (program_of m) → FunctionsBegin m

-- At a reply to a print both processes do the same: they ask again; or the answer comes to its slot, and the machine's process has one
-- instruction more until both are ready again.
abbrev pub RepliesGo : Type 0
RepliesGo =
    (m : typed.Module) → Base m → (k : Facts) (i : ℕ) (a : Rmsg) (w : Shared) (x : World) (p : code.Process) (q : Process) →
    (sides m).asking k i x p q → (sides m).worlds k w x →
    MatchesReply (with_ways (sides m) (place m)) k i x ((sides m).program.answer a w p) ((sides m).code.answer a x q)
