-- That both sides stand alike where a machine of a module's object begins.
use Rattle.std.specs.Prelude.{ℕ, ◌≡◌, ◌≤◌, List, [], ◌∷◌, length, None, Some, slice_get}
use Rattle.process_model.specs.Naming.{Still}
use Rattle.process_ways.specs.Ways.{Way}
use Rattle.limbo_types.specs.Types.{Nothing}
use Rattle.limbo_values.specs.Texts.{longest}
use Rattle.limbo_typed.specs.Typed as typed
use Rattle.limbo_typed.specs.Sound.{IsSound, Each}
use Rattle.system_model.specs.Limits.{frames_limit}
use Rattle.limbo_meaning.specs.Values.{Ref}
use Rattle.limbo_meaning.specs.Program.{routine_of, program_of}
use Rattle.limbo_meaning.specs.Runs.{first_world, list_from}
use Rattle.limbo_kept.specs.Modules.{AdtsAreLaid, TextsAreWritten, WordsAre, TakesWords}
use Rattle.core_code.specs.Machine as code
use Rattle.core_follows.specs.Follows.{first_code}
use Rattle.dis_meaning.specs.Words.{Found}
use Rattle.dis_objects.specs.Spelled.{AreSpelled}
use Rattle.dis_counts.specs.Opening.{Opened, opened}
use Rattle.value_words.specs.Facts.{Facts}
use Rattle.value_code.specs.Objects.{of_function, init_of, object_of, all_data_of}
use Rattle.value_follows.specs.Sides.{sides}
use Rattle.value_follows.specs.Rows.{place}
use Rattle.value_opening.specs.Opening.{IsOfInt, TextsAreShort, AreOnce}
use Rattle.rows_calling.specs.Rows.{FunctionsBegin}
use Rattle.value_entry.specs.Opening.{opened_with}

-- What is asked of a module: it is sound, its adts have layouts, its written texts are of characters, spelled in UTF-8, and no longer than
-- strings may be, its variables have one initial value each at most, each number in one word is an int, and each function begins well.
pub record CanBegin (m : typed.Module) : Type 0 where
  pub sound : IsSound m
  pub adts : AdtsAreLaid m.adts
  pub written : TextsAreWritten m
  pub spelled : AreSpelled (object_of m).items
  pub short : TextsAreShort m
  pub once : AreOnce m.initials
  pub ints : Each IsOfInt (all_data_of m)
  pub begins : FunctionsBegin m

-- The module's first function is that of this number: its parameters are a `ref` of an adt and a list of strings, and it gives no answer.
pub record IsFirst (m : typed.Module) (init : ℕ) (f : typed.Function) : Type 0 where
  pub named : init_of m ≡ Some init
  pub there : slice_get m.functions init ≡ Some f
  pub takes : TakesWords (routine_of f)
  pub answer : f.of.answer ≡ Nothing

-- The words are strings: of characters, and no longer than strings may be.
pub record AreStrings (words : List (List ℕ)) : Type 0 where
  pub written : WordsAre words
  pub short : Each (λ (w : List ℕ). length w ≤ longest) words

module _ (m : typed.Module) (f : typed.Function) (words : List (List ℕ)) where
  -- The first process of three-address code: process 1, in the function, with `nil` and the list of words.
  abbrev pub first_core : code.Process
  first_core = first_code frames_limit (program_of m) 1 0 (of_function m f) Nothing (Ref None ∷ Ref (list_from 1 words) ∷ [])

  -- What a machine begins with stands for what the module begins with: its process has two instructions more until both are ready, so that
  -- they stand alike on their way; the worlds are alike; and nothing is there in the module's world that its first process doesn't name.
  pub record Leads (o : Opened) : Type 0 where
    pub known : Facts
    pub way : Way (sides m) (place m) 2 known 0 o.world first_core o.first
    pub worlds : (sides m).worlds known (first_world m words) o.world
    pub still : Still (sides m).naming ((sides m).naming.names first_core) (first_world m words)

-- There is a machine of the object that gets words, and what it begins with stands for what the module begins with.
abbrev pub EntriesLead : Type 0
EntriesLead =
    (m : typed.Module) → CanBegin m → (init : ℕ) (f : typed.Function) → IsFirst m init f → (words : List (List ℕ)) → AreStrings words →
    (o : Opened) × (opened_with (object_of m) words ≡ Found o) × Leads m f words o

-- So it is without words.
abbrev pub EntriesLeadWithout : Type 0
EntriesLeadWithout =
    (m : typed.Module) → CanBegin m → (init : ℕ) (f : typed.Function) → IsFirst m init f →
    (o : Opened) × (opened (object_of m) ≡ Found o) × Leads m f [] o
