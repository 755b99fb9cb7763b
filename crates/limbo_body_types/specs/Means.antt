-- What a written type means where a body has come to (Limbo Language Reference, types, scope and declarations).
use Rattle.std.specs.Prelude.{◌≡◌, ℕ, List, Option, None, Some, slice_get}
use Rattle.inf_text.specs.Options.{◌>>=◌}
use Rattle.limbo_tree.specs.Types as tree
use Rattle.limbo_types.specs.Types.{Ty, Tys, Byte, Int, Big, Chars, ArrayOf, ListOf, ChanOf, Tuple, Adt, RefAdt, RefPick, Module}
use Rattle.limbo_types.specs.Types.{NoTys, MoreTys}
use Rattle.limbo_typed.specs.Typed.{Var}
use Rattle.limbo_scope.specs.declared.meaning.Meaning.{Meaning}
use Rattle.limbo_scope.specs.declared.meaning.Meaning.TheVariants as meaning
use Rattle.limbo_scope.specs.Scopes.{seen}
use Rattle.limbo_context.specs.Context.{Context, Body, named_in, HasVariantNamed}

-- ---- what a name means as a type

abbrev pub type_at : List Ty → ℕ → Option Ty
type_at types n = slice_get types n

-- A name by `type` means what it stands for, that of an adt the adt as a value, that of a module what a variable of the module holds.
abbrev pub declared_type : Context → Meaning → Option Ty
declared_type c (meaning.Type n) = type_at c.types n
declared_type c (meaning.Adt n) = Some (Adt n)
declared_type c (meaning.Module n) = Some (Module n)
declared_type c _ = None

-- An imported name means what the member means that is imported, which is never imported itself.
abbrev pub type_meant : Context → Meaning → Option Ty
type_meant c (meaning.Import n) = slice_get c.imports n >>= λ i. declared_type c i.member
type_meant c m = declared_type c m

abbrev pub MeansType : Context → Meaning → Ty → Type 0
MeansType c m t = type_meant c m ≡ Some t

-- the adt that a type is as a value, and that a name means
abbrev pub value_of : Ty → Option ℕ
value_of (Adt a) = Some a
value_of _ = None

abbrev pub adt_meant : Context → Meaning → Option ℕ
adt_meant c m = type_meant c m >>= value_of

-- ---- what stands before `->` or `.`

abbrev pub type_of_var : List Var → ℕ → Option Ty
type_of_var vars n = slice_get vars n >>= λ v. Some v.ty

-- A variable leads to its type, any other name to what it means as a type.
abbrev pub type_led : Context → Body → Meaning → Option Ty
type_led c b (meaning.Variable n) = type_of_var b.variables n
type_led c b (meaning.Global n) = type_of_var c.globals n
type_led c b m = type_meant c m

abbrev pub LeadsToType : Context → Body → Meaning → Ty → Type 0
LeadsToType c b m t = type_led c b m ≡ Some t

-- the module that a type is
abbrev pub module_of : Ty → Option ℕ
module_of (Module i) = Some i
module_of _ = None

-- the adt that a type is, as a value or by a ref, of a variant too
abbrev pub adt_of : Ty → Option ℕ
adt_of (Adt a) = Some a
adt_of (RefAdt a) = Some a
adt_of (RefPick a v) = Some a
adt_of _ = None

-- the module and the adt that a name leads to
abbrev pub module_led : Context → Body → Meaning → Option ℕ
module_led c b m = type_led c b m >>= module_of

abbrev pub adt_led : Context → Body → Meaning → Option ℕ
adt_led c b m = type_led c b m >>= adt_of

-- ---- qualified names: first, `->` member, `.` part

-- what a member means, if there is one, of the module that what stands before it leads to
abbrev pub with_member : Context → Body → Meaning → Option (List ℕ) → Option Meaning
with_member c b m None = Some m
with_member c b m (Some name) = module_led c b m >>= λ i. named_in c.exports i name

-- what a part means, if there is one, of the adt that what stands before it leads to
abbrev pub with_part : Context → Body → Meaning → Option (List ℕ) → Option Meaning
with_part c b m None = Some m
with_part c b m (Some name) = adt_led c b m >>= λ a. named_in c.members a name

-- all of a name but its part
abbrev pub head : Context → Body → tree.Qual → Option Meaning
head c b q = do
  m ← seen q.first b.scopes
  with_member c b m q.member

abbrev pub named : Context → Body → tree.Qual → Option Meaning
named c b q = do
  m ← head c b q
  with_part c b m q.part

abbrev pub IsNamed : Context → Body → tree.Qual → Meaning → Type 0
IsNamed c b q m = named c b q ≡ Some m

-- Its part names a variant of the adt that what stands before it leads to. Where the adt has a member of this name too, that counts.
pub record NamesVariant (c : Context) (b : Body) (q : tree.Qual) (a v : ℕ) : Type 0 where
  pub before : Meaning
  pub part : List ℕ
  pub headed : head c b q ≡ Some before
  pub with_part : q.part ≡ Some part
  pub leads : adt_led c b before ≡ Some a
  pub no_member : named_in c.members a part ≡ None
  pub has : HasVariantNamed c a part v

-- ---- types

mutual
  -- A type that is written where a body has come to means this type.
  pub data Means (c : Context) (b : Body) : tree.Ty → Ty → Type 0 where
    byte : Means c b tree.Byte Byte
    int : Means c b tree.Int Int
    big : Means c b tree.Big Big
    chars : Means c b tree.String Chars
    array : (t : tree.Ty) (u : Ty) → Means c b t u → Means c b (tree.ArrayOf t) (ArrayOf u)
    list : (t : tree.Ty) (u : Ty) → Means c b t u → Means c b (tree.ListOf t) (ListOf u)
    chan : (t : tree.Ty) (u : Ty) → Means c b t u → Means c b (tree.ChanOf t) (ChanOf u)
    tuple : (ts : tree.Tys) (us : Tys) → AllMean c b ts us → Means c b (tree.Tuple ts) (Tuple us)
    named_type : (q : tree.Qual) (m : Meaning) (u : Ty) → IsNamed c b q m → MeansType c m u → Means c b (tree.Named q) u
    ref_adt : (q : tree.Qual) (m : Meaning) (a : ℕ) → IsNamed c b q m → MeansType c m (Adt a) → Means c b (tree.RefTo q) (RefAdt a)
    ref_variant : (q : tree.Qual) (a v : ℕ) → NamesVariant c b q a v → Means c b (tree.RefTo q) (RefPick a v)

  pub data AllMean (c : Context) (b : Body) : tree.Tys → Tys → Type 0 where
    no_more : AllMean c b tree.NoTys NoTys
    and_more : (t : tree.Ty) (ts : tree.Tys) (u : Ty) (us : Tys) → Means c b t u → AllMean c b ts us
        → AllMean c b (tree.MoreTys t ts) (MoreTys u us)
