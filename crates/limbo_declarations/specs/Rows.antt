-- What trees declare, name by name (Limbo Language Reference, declarations).
use Rattle.std.specs.Prelude.{ℕ, suc, List, [], ◌∷◌, ◌++◌, map, Option, None, Some}
use Rattle.limbo_tree.specs.Types.{Ty, Tys}
use Rattle.limbo_tree.specs.Exprs.{Expr}
use Rattle.limbo_tree.specs.Decls as decls
use Rattle.limbo_tree.specs.Decls.{FnType, Field, Variant, Member, Members, NoMembers, MoreMembers, Decl}
use Rattle.limbo_tree.specs.Decls.{VarMember, FnMember, ConMember, TypeMember, AdtMember}

-- What a name is declared as: a constant with the value of `iota` for it; a type; a variable of a written type, or one whose value
-- says its type; a name that is imported from a module; an exception; a module; an adt; a function; a variant of an adt.
pub data Declared : Type 0 where
  Constant : Expr → (iota : ℕ) → Declared
  Alias : Ty → Declared
  Variable : Ty → Option Expr → Declared
  Inferred : Expr → Declared
  Imported : (source : List ℕ) → Declared
  Exception : Tys → Declared
  Module : Members → Declared
  Adt : Members → Option (List Variant) → Declared
  Function : FnType → Declared
  Case : List Field → Declared

-- A name with the path of the text in which it stands, and what it is declared as.
pub record Row : Type 0 where
  pub path : List ℕ
  pub name : List ℕ
  pub means : Declared

-- names that are declared alike
abbrev pub each : (path : List ℕ) → List (List ℕ) → Declared → List Row
each p [] d = []
each p (n ∷ ns) d = record { path = p; name = n; means = d } ∷ each p ns d

-- constants of one value: `iota` counts them
abbrev pub counted : (path : List ℕ) → ℕ → List (List ℕ) → Expr → List Row
counted p k [] e = []
counted p k (n ∷ ns) e = record { path = p; name = n; means = Constant e k } ∷ counted p (suc k) ns e

abbrev pub rows_of_decl : (path : List ℕ) → Decl → List Row
rows_of_decl p (decls.Con ns e) = counted p 0 ns e
rows_of_decl p (decls.TypeName ns t) = each p ns (Alias t)
rows_of_decl p (decls.Var ns t e) = each p ns (Variable t e)
rows_of_decl p (decls.Define ns e) = each p ns (Inferred e)
rows_of_decl p (decls.Import ns m) = each p ns (Imported m)
rows_of_decl p (decls.Exception ns ts) = each p ns (Exception ts)
rows_of_decl p (decls.Module n ms) = record { path = p; name = n; means = Module ms } ∷ []
rows_of_decl p (decls.Adt n ms pick) = record { path = p; name = n; means = Adt ms pick } ∷ []

abbrev pub rows_of_member : (path : List ℕ) → Member → List Row
rows_of_member p (VarMember ns t) = each p ns (Variable t None)
rows_of_member p (FnMember ns f) = each p ns (Function f)
rows_of_member p (ConMember ns e) = counted p 0 ns e
rows_of_member p (TypeMember ns t) = each p ns (Alias t)
rows_of_member p (AdtMember n ms pick) = record { path = p; name = n; means = Adt ms pick } ∷ []

-- The scope of a module's members.
abbrev pub rows_of_members : (path : List ℕ) → Members → List Row
rows_of_members p NoMembers = []
rows_of_members p (MoreMembers m ms) = rows_of_member p m ++ rows_of_members p ms

abbrev pub rows_of_variants : (path : List ℕ) → List Variant → List Row
rows_of_variants p [] = []
rows_of_variants p (v ∷ vs) = each p v.names (Case v.fields) ++ rows_of_variants p vs

abbrev pub rows_of_pick : (path : List ℕ) → Option (List Variant) → List Row
rows_of_pick p None = []
rows_of_pick p (Some vs) = rows_of_variants p vs

-- The scope of an adt's members: the names of its variants stand in it too.
abbrev pub rows_of_adt : (path : List ℕ) → Members → Option (List Variant) → List Row
rows_of_adt p ms pick = rows_of_members p ms ++ rows_of_pick p pick

-- The fields of a variant.
abbrev pub rows_of_fields : (path : List ℕ) → List Field → List Row
rows_of_fields p [] = []
rows_of_fields p (f ∷ fs) = each p f.names (Variable f.of None) ++ rows_of_fields p fs
