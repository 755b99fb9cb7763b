-- The code of each function finds its operands as it needs them; so it is of each function of a sound module.
use Rattle.std.specs.Prelude.{ℕ, ◌+◌, ◌≡◌, ◌≤◌, List, [], length, None, Some, replicate, slice_get}
use Rattle.limbo_types.specs.Types.{Ty}
use Rattle.limbo_typed.specs.Typed as typed
use Rattle.limbo_typed.specs.Sound.{IsSound}
use Rattle.limbo_meaning.specs.Trees.{Term}
use Rattle.limbo_meaning.specs.Program.{Routine, program_of}
use Rattle.limbo_kept.specs.Operating.{HasRoom}
use Rattle.limbo_kept.specs.Trees.{Signature, Scope, TermIs}
use Rattle.limbo_kept.specs.Processes.{Outline, scope_of, RoutineIs}
use Rattle.limbo_kept.specs.Modules.{TextsAreWritten, AdtsAreLaid, outline_of}
use Rattle.core_code.specs.Code.{Instr}
use Rattle.core_code.specs.Terms.{lower, type_of}
use Rattle.core_code.specs.Statements.{whole, function_of}
use Rattle.core_follows.specs.Drops.{HasAt}
use Rattle.core_follows.specs.Handled.{Handled, HandledBlock}
use Rattle.core_follows.specs.Modules.{ProgramPart}
use Rattle.core_typing.specs.Held.{Slots, empty}
use Rattle.core_typing.specs.Needs.{IsA, AllClean}
use Rattle.core_typing.specs.Going.{Goes}
use Rattle.core_typing.specs.Trees.{Formed, BlockFormed}
use Rattle.core_typing.specs.Runs.{VariantsAreFew, Runs, BlockRuns, ProgramRuns}

-- What functions answer has a layout, so that it may be put together with other operands.
abbrev pub AnswersAreLaid : Scope → Type 0
AnswersAreLaid s = (f : ℕ) (g : Signature) → slice_get s.signatures f ≡ Some g → HasRoom s.adts g.answer

-- The code of a typed tree, with its drops, goes well where no slot names anything, in front of what goes well behind it: as many slots as
-- before, in that of the tree's value one of its type, and no slot names anything again.
abbrev pub TreesGoWell : Type 0
TreesGoWell =
    (s : Scope) → AnswersAreLaid s → VariantsAreFew s.adts → (answer : Ty) (code : List Instr) (t : Term) (u : Ty) →
    TermIs s [] None t u → Handled s.adts t → Formed s t → Runs s.adts t → (pc : ℕ) (slots : Slots) → HasAt code pc (whole s.adts t) →
    (lower s.adts 0 t).free ≤ length slots → AllClean slots → (n : ℕ) →
    ((after : Slots) → length after ≡ length slots → IsA after (lower s.adts 0 t).value (type_of s.adts t) → AllClean after →
    Goes s answer code n (pc + length (whole s.adts t)) after) → Goes s answer code n pc slots

-- The same of its code without its drops, in front of a return.
abbrev pub ValuesGoWell : Type 0
ValuesGoWell =
    (s : Scope) → AnswersAreLaid s → VariantsAreFew s.adts → (answer : Ty) (code : List Instr) (t : Term) (u : Ty) →
    TermIs s [] None t u → Handled s.adts t → Formed s t → Runs s.adts t → (pc : ℕ) (slots : Slots) →
    HasAt code pc (lower s.adts 0 t).code → (lower s.adts 0 t).free ≤ length slots → AllClean slots → (n : ℕ) →
    ((after : Slots) → length after ≡ length slots → IsA after (lower s.adts 0 t).value (type_of s.adts t) →
    Goes s answer code n (pc + length (lower s.adts 0 t).code) after) → Goes s answer code n pc slots

-- The code of a typed function goes well from its beginning, with empty slots, as long as one looks.
abbrev pub FunctionsGoWell : Type 0
FunctionsGoWell =
    (o : Outline) (g : Signature) (r : Routine) → RoutineIs o g r → HandledBlock o.adts 0 r.body →
    BlockFormed (scope_of o r.variables) r.body → BlockRuns o.adts r.body → AnswersAreLaid (scope_of o r.variables) →
    VariantsAreFew o.adts → (n : ℕ) →
    Goes (scope_of o r.variables) g.answer (function_of o.adts r).code n 0 (replicate (function_of o.adts r).slots empty)

-- So does the code of each function of a sound module of this part of the language, whose adts have layouts and few variants, whose texts
-- are written well and whose trees are run; whatever may be stored.
abbrev pub SoundModulesGoWell : Type 0
SoundModulesGoWell =
    (m : typed.Module) → IsSound m → AdtsAreLaid m.adts → VariantsAreFew m.adts → TextsAreWritten m → ProgramPart (program_of m) →
    ProgramRuns m.adts (program_of m) → (f : ℕ) (g : Signature) (r : Routine) → slice_get (outline_of m).signatures f ≡ Some g →
    slice_get (program_of m).routines f ≡ Some r → (n : ℕ) →
    Goes (scope_of (outline_of m) r.variables) g.answer (function_of m.adts r).code n 0 (replicate (function_of m.adts r).slots empty)
