-- The functions that are declared and can be defined, in a row.
use Rattle.std.specs.Prelude.{ℕ, List, [], ◌∷◌, ◌++◌, Option, None, Some}
use Rattle.limbo_declarations.specs.Rows.{Row, Declared, Adt, Function, rows_of_members}

-- By what a function must be defined, and the path of the text in which it is declared.
pub record Wanted : Type 0 where
  pub path : List ℕ
  pub name : List ℕ
  pub part : Option (List ℕ)

-- a function's name, and its adt's where it has one
abbrev pub of_name : (path : List ℕ) (adt : Option (List ℕ)) (name : List ℕ) → Wanted
of_name p None n = record { path = p; name = n; part = None }
of_name p (Some a) n = record { path = p; name = a; part = Some n }

abbrev pub of_function : (path : List ℕ) (adt : Option (List ℕ)) (name : List ℕ) → Declared → List Wanted
of_function p adt n (Function f) = of_name p adt n ∷ []
of_function p adt n _ = []

-- the functions among these rows
abbrev pub functions_in : (adt : Option (List ℕ)) → List Row → List Wanted
functions_in adt [] = []
functions_in adt (r ∷ rs) = of_function r.path adt r.name r.means ++ functions_in adt rs

abbrev pub of_adt : (path name : List ℕ) → Declared → List Wanted
of_adt p n (Adt ms pick) = functions_in (Some n) (rows_of_members p ms)
of_adt p n _ = []

-- those of the adts among these rows
abbrev pub adt_functions_in : List Row → List Wanted
adt_functions_in [] = []
adt_functions_in (r ∷ rs) = of_adt r.path r.name r.means ++ adt_functions_in rs

abbrev pub wanted_in : (members rows : List Row) → List Wanted
wanted_in members rows = functions_in None members ++ adt_functions_in rows
