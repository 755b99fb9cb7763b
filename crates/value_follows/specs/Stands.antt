-- When a process of the machine stands for one of three-address code over values.
use Rattle.std.specs.Prelude.{ℕ, suc, pos, ◌+◌, ◌≡◌, ◌<◌, List, [], ◌∷◌, length, Option, None, Some, slice_get}
use Rattle.heap_model.specs.Facts.{Is}
use Rattle.limbo_types.specs.Types as ty
use Rattle.limbo_types.specs.Types.{Ty}
use Rattle.limbo_layout.specs.Adts.{Has}
use Rattle.limbo_typed.specs.Typed as typed
use Rattle.system_model.specs.Prints.{Writing}
use Rattle.limbo_meaning.specs.Program.{routine_of}
use Rattle.limbo_kept.specs.Trees.{Scope}
use Rattle.limbo_kept.specs.Processes.{scope_of}
use Rattle.limbo_kept.specs.Modules.{outline_of}
use Rattle.limbo_typed.specs.declared.print.Piece.{Piece}
use Rattle.core_code.specs.Code.{Print}
use Rattle.core_code.specs.Machine as code
use Rattle.core_code.specs.Slots as core
use Rattle.core_code.specs.Slots.{slot_names}
use Rattle.core_typing.specs.Held as held
use Rattle.core_typing.specs.Held.{Of}
use Rattle.core_typing.specs.Going.{Goes, all_of}
use Rattle.dis_meaning.specs.Words.{InBlock, InFrame, Word, Refer, Address, Found, word_at}
use Rattle.dis_meaning.specs.Process.{Frame, Process}
use Rattle.dis_memory.specs.Blocks.{World}
use Rattle.value_words.specs.Forms.{Instances}
use Rattle.value_words.specs.Facts.{Facts}
use Rattle.value_frames.specs.Frames.{Form, Nowhere, AsNumber, AsReference, Boxed, form_of, answer_place, spare_place, number_place}
use Rattle.value_frames.specs.Frames.{reference_place, room_for, box_bytes}
use Rattle.value_frames.specs.Standing.{RefersIdly, IsOwn, WordsAre}
use Rattle.value_frames.specs.Later.{AreMadeBy}
use Rattle.value_code.specs.Objects.{of_function, base_of, sizes}

-- What there is in the place to which the answer of a call goes: nothing yet; a word that refers; or the words of a record.
pub data Answer : Type 0 where
  Awaited : Answer
  Referred : Option ℕ → Answer
  Filled : List Word → Answer

-- Words that refer to nothing.
abbrev pub ReferNowhere : List Word → Type 0
ReferNowhere words = (b : ℕ) → Has words (Refer (Some b)) → ⊥

-- The words of a record that is to be the box of an answer.
abbrev pub FillsSo : Answer → List Word → Type 0
FillsSo (Filled words) inner = inner ≡ words
FillsSo a inner = ReferNowhere inner

-- In front of where a process is stands the print whose answer it waits for.
pub record IsBehindPrint (p : code.Process) : Type 0 where
  pub before : ℕ
  pub pieces : List Piece
  pub operands : Option ℕ
  pub next : p.frame.pc ≡ suc before
  pub there : slice_get p.frame.code before ≡ Some (Print pieces p.frame.into operands)

module _ (m : typed.Module) where
  abbrev pub scope : typed.Function → Scope
  scope f = scope_of (outline_of m) (routine_of f).variables

  abbrev pub types_of : typed.Function → List Ty
  types_of f = (of_function m f).variables

  -- Wherever it comes to from there, each instruction finds what it needs.
  abbrev pub GoesOn : typed.Function → (pc : ℕ) → held.Slots → Type 0
  GoesOn f pc known = (n : ℕ) → Goes (scope f) f.of.answer (of_function m f).code n pc known

  -- Where the code of a function's instruction begins.
  abbrev pub place_of : (number : ℕ) → typed.Function → (pc : ℕ) → ℕ
  place_of n f pc = base_of m n + sizes m f.of.answer (of_function m f) pc

  module _ (k : Facts) (i : ℕ) (x : World) where
    -- A frame is one of this function, by its number, and its words stand for the other's variables and slots, but for busy ones.
    pub record FrameIs (busy : List ℕ) (g : code.Frame) (f : Frame) : Type 0 where
      pub number : ℕ
      pub function : typed.Function
      pub there : slice_get m.functions number ≡ Some function
      pub code : g.code ≡ (of_function m function).code
      pub answer : g.answer ≡ function.of.answer
      -- it has as many slots as the function says
      pub many : length g.slots ≡ (of_function m function).slots
      pub instance : Is k g.instance f.instance
      pub formed : k.form f.instance ≡ Some Instances
      pub known : held.Slots
      pub words : WordsAre m.adts k x.heap f.serial busy (types_of function) known g.variables g.slots f.words
      pub mine : AreMadeBy k i words.own
      pub fresh : f.serial < x.outside.frames

    -- The place of a frame's word that is spare.
    abbrev pub spare_of : typed.Function → ℕ
    spare_of f = spare_place m.adts (types_of f)

    -- The word that is to refer to an answer.
    abbrev pub RefersSo : Answer → (words : List Word) → (place : ℕ) → Type 0
    RefersSo (Referred r) words p = word_at words (pos p) ≡ Found (Refer r)
    RefersSo a words p = RefersIdly m.adts k words p

    -- Where the answer of a call goes, and what is there: nowhere, to a slot's number or reference, or to the record that is to be its box.
    -- The word at 16 of the callee's frame has the address.
    abbrev pub AnswerGoes : Answer → Form → Ty → (f : Frame) → (types : List Ty) → (into : ℕ) → (callee : Frame) → (own : ℕ → List ℕ)
        → Type 0
    AnswerGoes a Nowhere t f types into callee own = RefersIdly m.adts k f.words (reference_place m.adts types into)
    AnswerGoes a AsNumber t f types into callee own =
        RefersIdly m.adts k f.words (reference_place m.adts types into)
        × (word_at callee.words (pos answer_place) ≡ Found (Address (InFrame f.serial) (pos (number_place m.adts types into))))
    AnswerGoes a AsReference t f types into callee own =
        RefersSo a f.words (reference_place m.adts types into)
        × (word_at callee.words (pos answer_place) ≡ Found (Address (InFrame f.serial) (pos (reference_place m.adts types into))))
    AnswerGoes a Boxed t f types into callee own =
        (b : ℕ) × (inner : List Word)
        × IsOwn m.adts k x.heap f.serial f.words (reference_place m.adts types into) (box_bytes m.adts t) (room_for m.adts t).references b
        inner
        × (word_at callee.words (pos answer_place) ≡ Found (Address (InBlock b) (pos 0))) × (k.maker b ≡ Some i)
        × ((s : ℕ) → Has (own s) b → ⊥) × FillsSo a inner

    -- A frame waits for an answer of a type from the one that it called, in front of the instruction behind the call.
    pub record Waits (a : Answer) (g : code.Frame) (f : Frame) (t : Ty) (callee : Frame) : Type 0 where
      pub is : FrameIs (g.into ∷ []) g f
      pub goes : GoesOn is.function g.pc (held.put is.known g.into (Of t (all_of m.adts t)))
      pub pc : f.pc ≡ place_of is.number is.function g.pc
      pub spare : word_at f.words (pos (spare_of is.function)) ≡ Found (Refer None)
      pub answer : AnswerGoes a (form_of t) t f (types_of is.function) g.into callee is.words.own
      pub older : f.serial < callee.serial
      -- what stands in that slot until then names nothing
      pub unnamed : (n : ℕ) → slot_names (core.slot g.slots g.into) n ≡ 0

    -- All frames that wait, the latest first; the first of them for an answer of this type, which may be there already. The first function
    -- gives none.
    pub data AllWait : Answer → Ty → (callee : Frame) → List code.Frame → List Frame → Type 0 where
      none_waits : (a : Answer) (callee : Frame) → AllWait a ty.Nothing callee [] []
      waits_below : (a : Answer) (t : Ty) (callee : Frame) (g : code.Frame) (f : Frame) (gs : List code.Frame) (fs : List Frame)
          → Waits a g f t callee → AllWait Awaited g.answer f gs fs → AllWait a t callee (g ∷ gs) (f ∷ fs)

    -- The running frames stand for one another, but for busy slots, wherever in the code of the instruction the machine is; and those that
    -- wait do, the first of them with this in the place of its answer.
    pub record Stands (busy : List ℕ) (a : Answer) (p : code.Process) (q : Process) : Type 0 where
      pub number : p.number ≡ q.number
      pub is : FrameIs busy p.frame q.frame
      pub goes : GoesOn is.function p.frame.pc is.known
      pub waits : AllWait a p.frame.answer q.frame p.below q.below

    -- Two processes, at the begin of an instruction: nothing is on its way.
    pub record Ready (p : code.Process) (q : Process) : Type 0 where
      pub stands : Stands [] Awaited p q
      pub pc : q.frame.pc ≡ place_of stands.is.number stands.is.function p.frame.pc
      pub spare : word_at q.frame.words (pos (spare_of stands.is.function)) ≡ Found (Refer None)
      pub none_made : q.made ≡ []

    -- Two that wait for a reply to a print. Its answer goes to the number of a slot, which refers to Sys until then.
    pub record Asking (p : code.Process) (q : Process) : Type 0 where
      pub number : p.number ≡ q.number
      pub is : FrameIs (p.frame.into ∷ []) p.frame q.frame
      pub goes : GoesOn is.function p.frame.pc (held.put is.known p.frame.into (Of ty.Int []))
      pub waits : AllWait Awaited p.frame.answer q.frame p.below q.below
      pub pc : suc q.frame.pc ≡ place_of is.number is.function p.frame.pc
      pub behind : IsBehindPrint p
      pub spare : word_at q.frame.words (pos (spare_of is.function)) ≡ Found (Refer None)
      pub none_made : q.made ≡ []
      pub refers : RefersIdly m.adts k q.frame.words (reference_place m.adts (types_of is.function) p.frame.into)
      pub unnamed : (n : ℕ) → slot_names (core.slot p.frame.slots p.frame.into) n ≡ 0
      pub writing : Writing
      pub printing : p.printing ≡ Some writing
      pub printing_too : q.printing ≡ Some (record {
        writing = writing;
        place = InFrame q.frame.serial;
        at = pos (number_place m.adts (types_of is.function) p.frame.into);
      })
