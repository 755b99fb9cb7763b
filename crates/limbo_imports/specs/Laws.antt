-- An imported name's number leads to what it is imported as.
use Rattle.std.specs.Prelude.{◌≡◌, ℕ, List, Option, Some, slice_get}
use Rattle.limbo_entries.specs.Entries.{Entry, IsEntry}
use Rattle.limbo_scope.specs.declared.meaning.Meaning.{Meaning}
use Rattle.limbo_scope.specs.declared.meaning.Meaning.TheVariants as meaning
use Rattle.limbo_context.specs.declared.context.Imported.{Imported}
use Rattle.limbo_meanings.specs.Meanings.{meaning_of}
use Rattle.limbo_imports.specs.Imports.{ImportsAre, IsImport}

abbrev pub ImportOfNumber : Type 0
ImportOfNumber =
    (es : List Entry) (m k n : ℕ) (e : Entry) (means others : List (Option Meaning)) (xs : List Imported) → ImportsAre es m means others xs
    → IsEntry es k e → meaning_of es m k e ≡ Some (meaning.Import n)
    → (x : Imported) × (slice_get xs n ≡ Some x) × IsImport es m means others k e x
