-- Where functions are declared: the places of their names in the trees of the code.
use Rattle.std.specs.Prelude.{◌≡◌, ℕ, List, [], ◌∷◌, ◌++◌, map, Option, None, Some, Vec}
use Rattle.std.specs.Global.{Global}
use Rattle.std.specs.Borrow.{Bor}
use Rattle.std.specs.List.{Contains}
use Rattle.inf_text.specs.declared.span.Span.{Span}
use Rattle.limbo_tree.specs.declared.name.Name as code_name
use Rattle.limbo_tree.specs.declared.decl.Member as code_member
use Rattle.limbo_tree.specs.declared.decl.Member.TheVariants as member
use Rattle.limbo_tree.specs.declared.decl.Variant as code_variant
use Rattle.limbo_declarations.specs.declared.row.Row as code_row
use Rattle.limbo_declarations.specs.declared.row.Declared.{Declared}
use Rattle.limbo_declarations.specs.declared.row.Declared.TheVariants as row
use Rattle.limbo_defined.specs.Wanted.{Wanted, of_name}

-- A function that must be defined, and where its name stands in the text in which it is declared.
pub record Place : Type 0 where
  pub of : Wanted
  pub at : Span

abbrev pub place : (path : List ℕ) (adt : Option (List ℕ)) → code_name.Name → Place
place p adt n = record { of = of_name p adt n.text; at = n.span }

-- the names of the functions that a member declares
abbrev pub own_names : code_member.Member → List code_name.Name
own_names (member.Function ns f s) = ns.items
own_names _ = []

-- the functions of an adt with these members
abbrev pub places_in : (path : List ℕ) (adt : Option (List ℕ)) → List code_member.Member → List Place
places_in p adt [] = []
places_in p adt (m ∷ ms) = map (place p adt) (own_names m) ++ places_in p adt ms

abbrev pub function_places : code_row.Row → Declared → List Place
function_places r (row.Function f) = place r.path.now None r.name.now ∷ []
function_places r _ = []

abbrev pub adt_places : code_row.Row → Declared → List Place
adt_places r (row.Adt ms pick) = places_in r.path.now (Some r.name.now.text) ms.now
adt_places r _ = []

-- the functions of the implemented module, whose members' rows these are
abbrev pub module_places : List code_row.Row → List Place
module_places [] = []
module_places (r ∷ rs) = function_places r r.declared ++ module_places rs

-- the functions of the adts among these rows
abbrev pub places_of_adts : List code_row.Row → List Place
places_of_adts [] = []
places_of_adts (r ∷ rs) = adt_places r r.declared ++ places_of_adts rs

abbrev pub places : (members rows : List code_row.Row) → List Place
places members rows = module_places members ++ places_of_adts rows

-- ---- functions of adts that stand in adts

-- One of these members declares the function of this name, or an adt among them does, however deep.
pub data NamesInside (n : code_name.Name) : List code_member.Member → Type 0 where
  itself : (ms : List code_member.Member) (m : code_member.Member) → Contains ms m → Contains (own_names m) n → NamesInside n ms
  inside : (ms : List code_member.Member) (adt : code_name.Name) (inner : Vec code_member.Member Global)
      (pick : Option (Vec code_variant.Variant Global)) (at : Span)
      → Contains ms (member.Adt adt inner pick at) → NamesInside n inner.items → NamesInside n ms

-- An adt among these members declares it, however deep.
pub record NamesInner (n : code_name.Name) (ms : List code_member.Member) : Type 0 where
  pub adt : code_name.Name
  pub inner : Vec code_member.Member Global
  pub pick : Option (Vec code_variant.Variant Global)
  pub at : Span
  pub there : Contains ms (member.Adt adt inner pick at)
  pub names : NamesInside n inner.items

-- A row of an adt has it in an adt inside.
pub record NamesNested (n : code_name.Name) (path : Bor (List ℕ)) (rows : List code_row.Row) : Type 0 where
  pub in_row : code_row.Row
  pub members : Bor (List code_member.Member)
  pub pick : Option (Bor (List code_variant.Variant))
  pub there : Contains rows in_row
  pub in_text : path ≡ in_row.path
  pub is_adt : in_row.declared ≡ row.Adt members pick
  pub names : NamesInner n members.now
