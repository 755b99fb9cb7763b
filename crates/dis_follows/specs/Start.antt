-- What a machine begins with, for the object of a module: the module's data with their strings, and the first process.
use Rattle.std.specs.Prelude.{ℕ, suc, ℤ, pos, ◌/◌, List, [], ◌∷◌, ◌++◌, replicate, codes, Option, Some, None, slice_get}
use Rattle.dis_file.specs.declared.types.TypeDesc.{TypeDesc}
use Rattle.limbo_values.specs.declared.number.Kind.{Kind}
use Rattle.limbo_values.specs.declared.number.Kind.TheVariants.{Big}
use Rattle.system_model.specs.World.{opening_world}
use Rattle.slot_code.specs.Code.{GlobalVariable, Module}
use Rattle.dis_meaning.specs.Words as words
use Rattle.dis_meaning.specs.Words.{Plain, Refer, blank}
use Rattle.dis_meaning.specs.Numbers.{high_part, low_part}
use Rattle.dis_meaning.specs.World as memory
use Rattle.dis_meaning.specs.World.{Content, Instance, World}
use Rattle.dis_meaning.specs.Process.{Process}
use Rattle.dis_objects.specs.Code.{Datum, Text, Word, Long}
use Rattle.dis_objects.specs.Objects.{functions_data, zeros_bytes, object_of}

-- The words of a number: a big has two.
abbrev pub long_words : ℤ → List words.Word
long_words z = Plain (high_part z) ∷ Plain (low_part z) ∷ []

-- The words of each datum; a text is a block, and the next of these has this serial.
abbrev pub data_words : (serial : ℕ) → List Datum → List words.Word
data_words n [] = []
data_words n (Text t ∷ ds) = Refer (Some n) ∷ data_words (suc n) ds
data_words n (Word z ∷ ds) = Plain z ∷ data_words n ds
data_words n (Long z ∷ ds) = long_words z ++ data_words n ds

abbrev pub data_texts : List Datum → List Content
data_texts [] = []
data_texts (Text t ∷ ds) = memory.Text t ∷ data_texts ds
data_texts (Word z ∷ ds) = data_texts ds
data_texts (Long z ∷ ds) = data_texts ds

-- The words of each variable of the module.
abbrev pub number_words : Kind → ℤ → List words.Word
number_words Big z = long_words z
number_words _ z = Plain z ∷ []

abbrev pub global_words : GlobalVariable → List words.Word
global_words g = elim g.kind [ None ↦ Refer None ∷ [] | Some k ↦ number_words k g.initial ]

abbrev pub globals_words : List GlobalVariable → List words.Word
globals_words [] = []
globals_words (g ∷ gs) = global_words g ++ globals_words gs

-- The path of Sys, the module that is loaded from there, the variables of the module, the data of its functions, and zeros.
abbrev pub opening_words : Module → List words.Word
opening_words m =
    Refer (Some 1) ∷ Refer None
    ∷ (globals_words m.globals
    ++ (data_words 2 (functions_data m.functions m.functions) ++ replicate (zeros_bytes m.functions m.functions / 4) (Plain (pos 0))))

abbrev pub opening : Module → World
opening m = record {
  blocks = Instance 0 (opening_words m) ∷ memory.Text (codes "$Sys") ∷ data_texts (functions_data m.functions m.functions);
  frames = 1;
  outside = opening_world;
}

-- The first process, number 1, at the object's entry, with a frame of the entry's type.
abbrev pub entry_words : Option TypeDesc → List words.Word
entry_words None = []
entry_words (Some desc) = blank desc

abbrev pub first_process : Module → Process
first_process m = record {
  number = 1;
  frame = record { serial = 0; instance = 0; pc = 0; words = entry_words (slice_get (object_of m).types (object_of m).entry_type) };
  below = [];
  made = [];
  printing = None;
}
