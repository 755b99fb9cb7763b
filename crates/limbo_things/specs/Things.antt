-- What a name, `base->name` and `base.name` are in an expression (Limbo Language Reference, expressions, modules and adts).
use Rattle.std.specs.Prelude.{ℕ, ◌≡◌, ◌-◌, ◌==◌, Bool, false, List, length, Option, None, Some, option_map, slice_get, if◌then◌else◌}
use Rattle.inf_text.specs.Options.{◌>>=◌}
use Rattle.limbo_types.specs.Types.{Ty, Nothing, Adt, RefAdt, RefPick, Module}
use Rattle.limbo_typed.specs.declared.stmt.Constant.{Constant}
use Rattle.limbo_typed.specs.declared.stmt.Constant.TheVariants as constant
use Rattle.limbo_typed.specs.declared.print.Printed.{Printed}
use Rattle.limbo_typed.specs.declared.print.Printed.TheVariants.{Print, Fprint, Sprint}
use Rattle.limbo_typed.specs.Typed.{Expr, Of, Node, Number, Chars, PlaceNode, Local, Global, Optional, Absent, Present, Var, Signature}
use Rattle.limbo_typed.specs.Sound.{type_of}
use Rattle.limbo_scope.specs.declared.meaning.Meaning.{Meaning}
use Rattle.limbo_scope.specs.declared.meaning.Meaning.TheVariants as meaning
use Rattle.limbo_scope.specs.Scopes.{seen}
use Rattle.limbo_context.specs.declared.context.Imported.{Imported}
use Rattle.limbo_context.specs.declared.context.Origin.{Origin}
use Rattle.limbo_context.specs.declared.context.Origin.TheVariants as origin
use Rattle.limbo_context.specs.Context.{Context, Body, Valued, named_in, HasVariantNamed}
use Rattle.limbo_refusals.specs.Refusals.{NoneIs}
use Rattle.limbo_places.specs.Places.{read}
use Rattle.limbo_places.specs.Targets.{Selects}

-- A value; the name of a type, or of a variant; a function of the module, and one of an adt, with the object before its `.`, where there
-- is one; a function of a module's type, and a print, with the module's value; a declared exception.
pub data Thing : Type 0 where
  AValue : Expr → Thing
  AType : Ty → Thing
  AVariant : (adt variant : ℕ) → Thing
  AFunction : (function : ℕ) → Thing
  AMethod : (function : ℕ) → (object : Optional) → Thing
  AMember : (instance : Expr) → (interface function : ℕ) → Thing
  APrint : Printed → (instance : Expr) → Thing
  AnException : (exception : ℕ) → Thing

-- the type of a value, and the type that a name is; nothing else has one
abbrev pub type_named : Thing → Ty
type_named (AValue e) = type_of e
type_named (AType t) = t
type_named _ = Nothing

-- ---- constants, types and variables

abbrev pub literal : Constant → Node
literal (constant.Number n) = Number n
literal (constant.Chars s) = Chars s

-- the value of a constant
abbrev pub constant_value : Valued → Expr
constant_value v = Of v.ty (literal v.value)

abbrev pub constant_at : List Valued → ℕ → Option Thing
constant_at constants n = option_map (λ v. AValue (constant_value v)) (slice_get constants n)

abbrev pub type_at : List Ty → ℕ → Option Thing
type_at types n = option_map AType (slice_get types n)

-- Constants and types are the same things wherever they are declared.
abbrev pub declared : Context → Meaning → Option Thing
declared c (meaning.Constant n) = constant_at c.constants n
declared c (meaning.Type n) = type_at c.types n
declared c (meaning.Adt n) = Some (AType (Adt n))
declared c (meaning.Module n) = Some (AType (Module n))
declared c _ = None

-- what stands in a variable, of the function or of the module
abbrev pub variable : (ℕ → PlaceNode) → List Var → ℕ → Option Expr
variable place variables n = option_map (λ v. read v.ty (place n)) (slice_get variables n)

-- ---- members of modules

-- The prints stand behind the functions of `Sys`: this is so many behind them.
abbrev pub printed_at : ℕ → Option Printed
printed_at n = if n == 0 then Some Print else if n == 1 then Some Fprint else if n == 2 then Some Sprint else None

abbrev pub is_number : Option ℕ → ℕ → Bool
is_number None n = false
is_number (Some m) n = m == n

abbrev pub print_at : (system : Option ℕ) → (interface behind : ℕ) → Expr → Option Thing
print_at system i n e = if is_number system i then option_map (λ p. APrint p e) (printed_at n) else None

-- a function of a module type with these functions, through a value of the module
abbrev pub function_among : (system : Option ℕ) → (interface function : ℕ) → List Signature → Expr → Option Thing
function_among system i j functions e =
    elim (slice_get functions j) [ Some s ↦ Some (AMember e i j) | None ↦ print_at system i (j - length functions) e ]

abbrev pub function_at : Context → (interface function : ℕ) → Expr → Option Thing
function_at c i j e = slice_get c.interfaces i >>= λ of. function_among c.system i j of.functions e

-- A function is there through a value of the module alone.
abbrev pub function_through : Context → (interface function : ℕ) → (through : Optional) → Option Thing
function_through c i j Absent = None
function_through c i j (Present e) = function_at c i j e

-- what a member of a module type is that means this, through a value of the module, where there is one
abbrev pub export : Context → (interface : ℕ) → (through : Optional) → Meaning → Option Thing
export c i through (meaning.Function j) = function_through c i j through
export c i through m = declared c m

-- the member of this name
abbrev pub exported : Context → (interface : ℕ) → (through : Optional) → List ℕ → Option Thing
exported c i through name = named_in c.exports i name >>= export c i through

-- `base->name`: a member of the module that the base is a value of, or the name of.
abbrev pub MemberIs : Context → List ℕ → (base : Thing) → Thing → Type 0
MemberIs c name (AValue e) thing = (i : ℕ) × (type_of e ≡ Module i) × (exported c i (Present e) name ≡ Some thing)
MemberIs c name (AType t) thing = (i : ℕ) × (t ≡ Module i) × (exported c i Absent name ≡ Some thing)
MemberIs c name _ thing = ⊥

-- ---- names

-- what an imported name is a member of: the value in a variable, or a module type alone
abbrev pub through_of : Context → Body → Origin → Option Optional
through_of c b (origin.Local x) = option_map Present (variable Local b.variables x)
through_of c b (origin.Global x) = option_map Present (variable Global c.globals x)
through_of c b origin.Type = Some Absent

abbrev pub export_from : Context → Imported → Option Optional → Option Thing
export_from c i through = through >>= λ t. export c i.interface t i.member

abbrev pub imported : Context → Body → Imported → Option Thing
imported c b i = export_from c i (through_of c b i.origin)

abbrev pub imported_at : Context → Body → ℕ → Option Thing
imported_at c b n = slice_get c.imports n >>= imported c b

-- what a name is that means this
abbrev pub meant : Context → Body → Meaning → Option Thing
meant c b (meaning.Variable n) = option_map AValue (variable Local b.variables n)
meant c b (meaning.Global n) = option_map AValue (variable Global c.globals n)
meant c b (meaning.Function n) = Some (AFunction n)
meant c b (meaning.Exception n) = Some (AnException n)
meant c b (meaning.Import n) = imported_at c b n
meant c b m = declared c m

-- `name`: what it is that the name means where it stands.
pub record NameIs (c : Context) (b : Body) (name : List ℕ) (thing : Thing) : Type 0 where
  pub means : Meaning
  pub is_seen : seen name b.scopes ≡ Some means
  pub is : meant c b means ≡ Some thing

-- ---- members of adts

-- what a member of an adt is that means this, with the object before it, where there is one
abbrev pub adt_member : Context → (object : Optional) → Meaning → Option Thing
adt_member c object (meaning.Function n) = Some (AMethod n object)
adt_member c object m = declared c m

-- the member of this name
abbrev pub member_at : Context → (adt : ℕ) → (object : Optional) → List ℕ → Option Thing
member_at c a object name = named_in c.members a name >>= adt_member c object

-- the adt of which a value is, or which it is a `ref` of, of a variant too
abbrev pub adt_of : Ty → Option ℕ
adt_of (Adt a) = Some a
adt_of (RefAdt a) = Some a
adt_of (RefPick a v) = Some a
adt_of _ = None

-- Of a value: a part of it, and else a member of its adt.
pub data PartOfValue (c : Context) (name : List ℕ) (e : Expr) (thing : Thing) : Type 0 where
  a_part : (x : Expr) → Selects c.adts name e x → thing ≡ AValue x → PartOfValue c name e thing
  a_member : (a : ℕ) → NoneIs (Selects c.adts name e) → adt_of (type_of e) ≡ Some a → member_at c a (Present e) name ≡ Some thing
      → PartOfValue c name e thing

-- Of an adt by its name: a member of it, and else its first variant of the name.
pub data PartOfAdt (c : Context) (name : List ℕ) (a : ℕ) (thing : Thing) : Type 0 where
  adt_has : member_at c a Absent name ≡ Some thing → PartOfAdt c name a thing
  a_variant : (v : ℕ) → named_in c.members a name ≡ None → HasVariantNamed c a name v → thing ≡ AVariant a v → PartOfAdt c name a thing

-- `base.name`: of a variant by its name, a member of its adt.
abbrev pub PartIs : Context → List ℕ → (base : Thing) → Thing → Type 0
PartIs c name (AValue e) thing = PartOfValue c name e thing
PartIs c name (AType (Adt a)) thing = PartOfAdt c name a thing
PartIs c name (AVariant a v) thing = member_at c a Absent name ≡ Some thing
PartIs c name _ thing = ⊥
