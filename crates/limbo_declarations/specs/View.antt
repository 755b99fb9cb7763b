-- What the rows of the code stand for.
use Rattle.std.specs.Prelude.{ℕ, List, map, option_map}
use Rattle.std.specs.Borrow.{Bor}
use Rattle.limbo_tree.specs.declared.name.Name as code_name
use Rattle.limbo_tree.specs.View.{view_expr, view_type, view_types, view_members, view_variant, view_field, view_fn}
use Rattle.limbo_declarations.specs.declared.row.Declared as code
use Rattle.limbo_declarations.specs.declared.row.Declared.TheVariants as declared
use Rattle.limbo_declarations.specs.declared.row.Row as code_row
use Rattle.limbo_declarations.specs.Rows.{Declared, Row, Constant, Alias, Variable, Inferred, Imported, Exception, Module, Adt, Function}
use Rattle.limbo_declarations.specs.Rows.{Case}

abbrev pub view_declared : code.Declared → Declared
view_declared (declared.Constant e k) = Constant (view_expr e.now) k
view_declared (declared.Alias t) = Alias (view_type t.now)
view_declared (declared.Variable t e) = Variable (view_type t.now) (option_map (λ e. view_expr e.now) e)
view_declared (declared.Inferred e) = Inferred (view_expr e.now)
view_declared (declared.Imported m) = Imported m.now.text
view_declared (declared.Exception ts) = Exception (view_types ts.now)
view_declared (declared.Module ms) = Module (view_members ms.now)
view_declared (declared.Adt ms pick) = Adt (view_members ms.now) (option_map (λ vs. map view_variant vs.now) pick)
view_declared (declared.Function f) = Function (view_fn f.now)
view_declared (declared.Case fs) = Case (map view_field fs.now)

abbrev pub view_row : code_row.Row → Row
view_row r = record { path = r.path.now; name = r.name.now.text; means = view_declared r.declared }

abbrev pub rows_of : List code_row.Row → List Row
rows_of rs = map view_row rs

-- the texts of names that are referred to
abbrev pub texts_of : List (Bor code_name.Name) → List (List ℕ)
texts_of ns = map (λ n. n.now.text) ns
