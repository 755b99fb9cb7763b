-- A member's number leads to the function that has the name.
use Rattle.std.specs.Prelude.{◌≡◌, ◌-◌, ℕ, List, Option, None, Some, length, slice_get}
use Rattle.limbo_tree.specs.Decls.{FnType}
use Rattle.limbo_typed.specs.Typed.{Interface, Signature}
use Rattle.limbo_declarations.specs.Rows as rows
use Rattle.limbo_entries.specs.Entries.{Entry, IsEntry}
use Rattle.limbo_scope.specs.declared.meaning.Meaning.TheVariants as meaning
use Rattle.limbo_meanings.specs.Meanings.{meaning_of}
use Rattle.limbo_exports.specs.System.{print_of}
use Rattle.limbo_exports.specs.Exports.{export_of}
use Rattle.limbo_outline_members.specs.Members.{InterfacesAre, IsInterface, SignaturesAre, IsSignature}

abbrev pub InterfaceOfNumber : Type 0
InterfaceOfNumber =
    (es : List Entry) (m k n : ℕ) (system : Option ℕ) (e : Entry) (xs : List Interface) → InterfacesAre es m system xs → IsEntry es k e
    → meaning_of es m k e ≡ Some (meaning.Module n) → (i : Interface) × (slice_get xs n ≡ Some i) × IsInterface es m system k e i

-- A function that is no print stands among its module's functions at the number that it means to others.
abbrev pub SignatureOfNumber : Type 0
SignatureOfNumber =
    (es : List Entry) (m k n a : ℕ) (system : Option ℕ) (e : Entry) (f : FnType) (xs : List Signature) → SignaturesAre es m system a xs
    → IsEntry es k e → e.within ≡ Some a → e.row.means ≡ rows.Function f → print_of system e ≡ None
    → export_of es m system k e ≡ Some (meaning.Function n) → (s : Signature) × (slice_get xs n ≡ Some s) × IsSignature es m k e s

-- A print's number is behind its module's functions, by its place among the prints.
abbrev pub PrintOfNumber : Type 0
PrintOfNumber =
    (es : List Entry) (m k n a p : ℕ) (system : Option ℕ) (e : Entry) (f : FnType) (xs : List Signature) → SignaturesAre es m system a xs
    → IsEntry es k e → e.within ≡ Some a → e.row.means ≡ rows.Function f → print_of system e ≡ Some p
    → export_of es m system k e ≡ Some (meaning.Function n) → (slice_get xs n ≡ None) × (n - length xs ≡ p)
