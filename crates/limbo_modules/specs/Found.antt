-- Definitions where they stand, as the code finds them.
use Rattle.std.specs.Prelude.{◌≡◌, ◌⊎◌, ℕ, List, map, Option, None, Some, slice_get}
use Rattle.limbo_tree.specs.View.{name_of, view_fn, view_block}
use Rattle.limbo_tree.specs.declared.source.Function as code_function
use Rattle.limbo_tree.specs.Sources.{Defined}
use Rattle.limbo_top.specs.Tops.{Placed}
use Rattle.limbo_entries.specs.Entries.{Entry}
use Rattle.limbo_stmt_values.specs.limbo_stating.Functions.{Definition}
use Rattle.limbo_functions.specs.View.{definition_of}
use Rattle.limbo_modules.specs.declared.finding.Found as code_found
use Rattle.limbo_modules.specs.Definitions.{HasNone, IsDefinition}

-- a definition as it stands in a text
abbrev pub standing : (path : List ℕ) → code_function.Function → Placed
standing path f = record { path = path; top = Defined f.name.text (name_of f.part) (view_fn f.of) (view_block f.body) }

-- What is found of the function of a number.
abbrev pub IsFound : List Entry → (m : ℕ) → List Placed → (n : ℕ) → Option code_found.Found → Type 0
IsFound es m tops n None = HasNone es m tops n
IsFound es m tops n (Some f) = IsDefinition es m tops n (definition_of f.function.now)

-- The same of each function.
abbrev pub AreFound : List Entry → (m : ℕ) → List Placed → List (Option code_found.Found) → Type 0
AreFound es m tops found = (n : ℕ) (o : Option code_found.Found) → slice_get found n ≡ Some o → IsFound es m tops n o

-- What is there of a function, after a definition of one is noted: what was there, or that definition, where nothing was.
abbrev pub IsNoted : List (Option code_found.Found) → (number : ℕ) → code_found.Found → (n : ℕ) → Option code_found.Found → Type 0
IsNoted before number f n o =
    (slice_get before n ≡ Some o) ⊎ ((n ≡ number) × (slice_get before n ≡ Some None) × (o ≡ Some f))

abbrev pub view_found : List code_found.Found → List Definition
view_found fs = map (λ f. definition_of f.function.now) fs
