-- What members and parts are, as functions and tests; that they are what the definitions say is proved of them.
use Rattle.std.specs.Prelude.{ℕ, ◌≡◌, Bool, true, false, List, Option, None, Some}
use Rattle.inf_text.specs.Options.{◌>>=◌}
use Rattle.limbo_types.specs.Types.{Ty, Adt, Module}
use Rattle.limbo_layout.specs.Adts.{Def}
use Rattle.limbo_typed.specs.Typed.{Expr, Absent, Present}
use Rattle.limbo_typed.specs.Sound.{type_of, IsSettled}
use Rattle.limbo_fields.specs.Fields.{Names}
use Rattle.limbo_context.specs.Context.{Context, HasVariantNamed}
use Rattle.limbo_things.specs.Things.{Thing, AValue, AType, AVariant, exported, member_at, adt_of}

-- the module type that a type is
abbrev pub module_of : Ty → Option ℕ
module_of (Module i) = Some i
module_of _ = None

abbrev pub member_of_value : Context → List ℕ → Expr → Option Thing
member_of_value c name e = module_of (type_of e) >>= λ i. exported c i (Present e) name

abbrev pub member_of_type : Context → List ℕ → Ty → Option Thing
member_of_type c name t = module_of t >>= λ i. exported c i Absent name

abbrev pub member_of : Context → List ℕ → Thing → Option Thing
member_of c name (AValue e) = member_of_value c name e
member_of c name (AType t) = member_of_type c name t
member_of c name _ = None

-- the adt that a type is as a value
abbrev pub own_adt : Ty → Option ℕ
own_adt (Adt a) = Some a
own_adt _ = None

abbrev pub adt_member_of_value : Context → List ℕ → Expr → Option Thing
adt_member_of_value c name e = adt_of (type_of e) >>= λ a. member_at c a (Present e) name

-- A value of a type has a part of this name, and its type is settled, and so is the part's.
abbrev pub HasPart : List Def → List ℕ → Ty → Type 0
HasPart defs name of = (part : ℕ) × (t : Ty) × Names defs name of part t × IsSettled t × IsSettled of

-- What a test says.
abbrev pub Tells : Bool → Type 0 → Type 0
Tells true P = P
Tells false P = P → ⊥

-- A thing is the variant of this name of an adt.
abbrev pub IsVariant : Context → (adt : ℕ) → List ℕ → Thing → Type 0
IsVariant c a name thing = (v : ℕ) × HasVariantNamed c a name v × (thing ≡ AVariant a v)
