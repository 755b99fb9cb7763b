-- What the entries of the code stand for.
use Rattle.std.specs.Prelude.{ℕ, List, map, Option}
use Rattle.limbo_declarations.specs.View.{view_row}
use Rattle.limbo_declarations.specs.declared.row.Row as code_row
use Rattle.limbo_entries.specs.declared.entry.Entry as code_entry
use Rattle.limbo_entries.specs.Entries.{Entry}

abbrev pub view_entry : code_entry.Entry → Entry
view_entry e = record { within = e.within; row = view_row e.row }

abbrev pub entries_of : List code_entry.Entry → List Entry
entries_of es = map view_entry es

-- A row where it stands: at the top level, or inside the entry of this number.
abbrev pub placed : (scope : Option ℕ) → code_row.Row → code_entry.Entry
placed scope r = record { within = scope; row = r }

-- Of an entry the scope in which it stands, and its name.
abbrev pub key : code_entry.Entry → Option ℕ × List ℕ
key e = (e.within, e.row.name.now.text)

abbrev pub keys : List code_entry.Entry → List (Option ℕ × List ℕ)
keys es = map key es
