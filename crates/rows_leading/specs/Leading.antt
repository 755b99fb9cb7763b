-- What is asked of a module so that the row of each instruction of its code leads on, whatever values it has: what no instruction says of
-- its types, which the compiler asks of the code that it wrote.
use Rattle.std.specs.Prelude.{ℕ, ◌≡◌, ◌<◌, ◌≤◌, List, Option, None, Some, slice_get, slice_index_or}
use Rattle.process_ways.specs.Laws.{FollowsBy}
use Rattle.limbo_types.specs.Types as ty
use Rattle.limbo_types.specs.Types.{Ty}
use Rattle.limbo_layout.specs.Layout.{limit}
use Rattle.limbo_typed.specs.Typed as typed
use Rattle.limbo_typed.specs.Sound.{IsSound}
use Rattle.limbo_typed.specs.declared.print.Piece.{Piece}
use Rattle.limbo_typed.specs.declared.operation.Operation.{Operation}
use Rattle.limbo_typed.specs.declared.operation.Operation.TheVariants as operation
use Rattle.limbo_meaning.specs.Operations.{item_of}
use Rattle.limbo_meaning.specs.Trees.{Work, Operate}
use Rattle.limbo_meaning.specs.Program.{program_of}
use Rattle.limbo_kept.specs.Modules.{AdtsAreLaid, TextsAreWritten}
use Rattle.core_follows.specs.Modules.{ProgramPart}
use Rattle.core_code.specs.Code.{Instr, Give, Place, Pick, Write, Cell, Call, Print, Element, Other, Return}
use Rattle.core_code.specs.Terms.{part_types}
use Rattle.core_typing.specs.Runs.{ProgramRuns, VariantsAreFew}
use Rattle.value_frames.specs.Frames.{Boxed, form_of, room_for, row_of}
use Rattle.value_code.specs.Objects.{of_function, told_at}
use Rattle.value_follows.specs.Sides.{sides}
use Rattle.value_follows.specs.Rows.{place, bound}
use Rattle.value_steps.specs.Steps.{RowsLead}
use Rattle.rows_printing.specs.Rows.{PiecesRun, RowFits}

module _ (m : typed.Module) where
  -- Values of a type take no more bytes than a type may, so that their number is an int.
  abbrev pub Fits : Ty → Type 0
  Fits t = (room_for m.adts t).size ≤ limit

  -- So they do, and they are more than the value without parts.
  abbrev pub IsStored : Ty → Type 0
  IsStored t = (t ≡ ty.Nothing → ⊥) × Fits t

  -- An answer that has a record of its own takes some room in it.
  abbrev pub TakesRoom : Ty → Type 0
  TakesRoom t = form_of t ≡ Boxed → 0 < (room_for m.adts t).size

  abbrev pub OperationFits : Ty → Operation → Type 0
  OperationFits t operation.Ref = Fits (item_of t)
  OperationFits t operation.Cons = IsStored (item_of t)
  OperationFits t o = Unit {0}

  abbrev pub WorkFits : Ty → Work → Type 0
  WorkFits t (Operate o) = IsStored t × OperationFits t o
  WorkFits t o = IsStored t

  -- By the types that the code in front tells of slots' values, and that of the function's answer.
  module _ (told : ℕ → Ty) (answer : Ty) where
    -- a print with operands: of kinds that this part prints, which in a row take no more bytes than a type may
    abbrev pub PrintFits : List Piece → Option ℕ → Type 0
    PrintFits ps None = Unit {0}
    PrintFits ps (Some a) = PiecesRun ps × RowFits m ps

    abbrev pub InstrFits : Instr → Type 0
    InstrFits (Give t o into from) = WorkFits t o
    InstrFits (Place t v j part into from) = Fits (slice_index_or (part_types m.adts t) part ty.Nothing)
    InstrFits (Pick t part into from) = Fits (told from)
    InstrFits (Write t way operands part from) = IsStored t
    InstrFits (Cell t into item back) = IsStored t
    InstrFits (Call t f into o) = TakesRoom t
    InstrFits (Print ps into o) = PrintFits ps o
    InstrFits (Element t array index from) = IsStored t
    InstrFits (Other t array loop from) = IsStored t
    InstrFits (Return from) = Fits answer
    InstrFits i = Unit {0}

  -- So each instruction of each function's code does.
  abbrev pub CodeFits : Type 0
  CodeFits =
      (number : ℕ) (f : typed.Function) (pc : ℕ) (i : Instr) → slice_get m.functions number ≡ Some f →
      slice_get (of_function m f).code pc ≡ Some i → InstrFits (told_at m f.of.answer (of_function m f) pc) f.of.answer i

-- So do the parameters of each function, in a row.
abbrev pub ParametersFit : typed.Module → Type 0
ParametersFit m =
    (number : ℕ) (f : typed.Function) → slice_get m.functions number ≡ Some f → (row_of m.adts f.of.args).size ≤ limit

-- A sound module of the part that is compiled: its adts have layouts, and no more variants than ints count; its texts are of characters;
-- nothing in its trees is missing, and they compare and print as this part does; and its code fits.
pub record Suits (m : typed.Module) : Type 0 where
  pub sound : IsSound m
  pub laid : AdtsAreLaid m.adts
  pub few : VariantsAreFew m.adts
  pub written : TextsAreWritten m
  pub part : ProgramPart (program_of m)
  pub runs : ProgramRuns m.adts (program_of m)
  pub fits : CodeFits m
  pub parameters : ParametersFit m

-- The row of each instruction of such a module leads on, wherever two processes stand alike in front of it.
abbrev pub SuitingLead : Type 0
SuitingLead = (m : typed.Module) → Suits m → RowsLead m

-- So the machine with its object follows its three-address code.
abbrev pub SuitingFollow : Type 0
SuitingFollow = (m : typed.Module) → Suits m → FollowsBy (sides m) (place m) (bound m)
