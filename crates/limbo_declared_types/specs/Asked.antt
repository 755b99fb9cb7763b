-- What the code asks of the types that are told of a declaration.
use Rattle.std.specs.Prelude.{◌≡◌, ℕ, List, Some, slice_get}
use Rattle.std.specs.List.{Contains}
use Rattle.limbo_types.specs.Types.{Ty, Tuple}
use Rattle.limbo_types.specs.View.{view_ty, view_tys, view_fn}
use Rattle.limbo_layout.specs.Adts.{Def}
use Rattle.limbo_refusals.specs.Refusals.{Refusal}
use Rattle.limbo_entries.specs.Entries.{Entry, IsEntry}
use Rattle.limbo_type_names.specs.Numbers.{number_of}
use Rattle.limbo_type_names.specs.Means.{Stands}
use Rattle.limbo_headers.specs.declared.header.Heading.{Heading}
use Rattle.limbo_headers.specs.declared.header.Heading.TheVariants as heading
use Rattle.limbo_context.specs.Context.{Context}
use Rattle.limbo_permits.specs.Permits.{Permits, ForbidsType}
use Rattle.limbo_members.specs.Standing.{IsAllowedIn}
use Rattle.limbo_declared_types.specs.Permitted.{MayTake, ForbidsFunction, ForbidsAdt}

-- One of these types is one that values may not have.
abbrev pub ForbidsOne : Context → List Ty → Refusal → Type 0
ForbidsOne c ts r = (t : Ty) × Contains ts t × ForbidsType c t r

-- Values may have the types that are told of a declaration.
abbrev pub PermitsHeading : Context → Heading → Type 0
PermitsHeading c (heading.Variable t) = Permits c (view_ty t.value)
PermitsHeading c (heading.Function h) = MayTake c (view_fn h.value.of)
PermitsHeading c (heading.Exception ts) = Permits c (Tuple (view_tys ts.items))
PermitsHeading c heading.Other = Unit {0}

-- Why they may not.
abbrev pub ForbidsHeading : Context → Heading → Refusal → Type 0
ForbidsHeading c (heading.Variable t) r = ForbidsType c (view_ty t.value) r
ForbidsHeading c (heading.Function h) r = ForbidsFunction c (view_fn h.value.of) r
ForbidsHeading c (heading.Exception ts) r = ForbidsType c (Tuple (view_tys ts.items)) r
ForbidsHeading c heading.Other r = ⊥

-- The declaration of a number stands for a type that values may not have.
abbrev pub ForbidsName : List Entry → (m : ℕ) → Context → (k : ℕ) → Refusal → Type 0
ForbidsName es m c k r = (u : Ty) × Stands es m k u × ForbidsType c u r

-- The parts of the adt that the declaration of a number is are allowed, where the context has it.
abbrev pub AllowsAdt : List Entry → Context → (k : ℕ) → Type 0
AllowsAdt es c k = (e : Entry) (d : Def) → IsEntry es k e → slice_get c.adts (number_of es k e) ≡ Some d → IsAllowedIn c d

-- They aren't.
abbrev pub ForbidsAdtAt : List Entry → Context → (k : ℕ) → Refusal → Type 0
ForbidsAdtAt es c k r =
    (d : Def) × ((e : Entry) → IsEntry es k e → slice_get c.adts (number_of es k e) ≡ Some d) × ForbidsAdt c d r
