-- What the code finds of names.
use Rattle.std.specs.Prelude.{◌≡◌, ◌⊎◌, ℕ, List, None, Some, Bool, true, false}
use Rattle.std.specs.List.{Contains}
use Rattle.inf_text.specs.declared.span.Span.{Span}
use Rattle.limbo_tree.specs.declared.types.TypeTree as code_type
use Rattle.limbo_tree.specs.Types as tree
use Rattle.limbo_types.specs.Types as ty
use Rattle.limbo_types.specs.View.{view_ty}
use Rattle.limbo_layout.specs.Adts.{Def}
use Rattle.limbo_fields.specs.Fields.{Names}
use Rattle.limbo_scope.specs.declared.meaning.Meaning.{Meaning}
use Rattle.limbo_scope.specs.Scopes.{seen}
use Rattle.limbo_refusals.specs.Refusals.{NoneIs}
use Rattle.limbo_context.specs.Context.{Context, Body, named_in, HasVariantNamed}
use Rattle.limbo_body_types.specs.declared.meant.Meant.{Meant}
use Rattle.limbo_body_types.specs.declared.meant.Meant.TheVariants as meant
use Rattle.limbo_body_types.specs.declared.found.Found.{Found}
use Rattle.limbo_body_types.specs.declared.found.Found.TheVariants as found
use Rattle.limbo_body_types.specs.declared.fault.WrittenFault.{WrittenFault}
use Rattle.limbo_body_types.specs.declared.fault.WrittenFault.TheVariants.{NoMemory, Unknown, NotAType}
use Rattle.limbo_body_types.specs.Means.{module_led, adt_led, head, with_member, with_part, IsNamed, NamesVariant}
use Rattle.limbo_body_types.specs.Fails.{IsLacking, HasField, NamesNoType, HasUnknown, HasNoType}

abbrev pub view_meant : Meant → ty.Ty
view_meant (meant.Kept t) = view_ty t.now
view_meant (meant.Adt n) = ty.Adt n
view_meant (meant.Module n) = ty.Module n

-- What stands before `.` has a field of this name, and neither a member nor a variant.
pub record IsField (c : Context) (b : Body) (m : Meaning) (name : List ℕ) : Type 0 where
  pub adt : ℕ
  pub leads : adt_led c b m ≡ Some adt
  pub no_member : named_in c.members adt name ≡ None
  pub no_variant : NoneIs (HasVariantNamed c adt name)
  pub field : HasField c b m name

-- A name is there, and means nothing: what stands before `->` leads to no module, what stands before `.` to no adt, or it is a field.
pub data NamesNothing (c : Context) (b : Body) (q : tree.Qual) : Type 0 where
  no_module : (name : List ℕ) (m : Meaning) → q.member ≡ Some name → seen q.first b.scopes ≡ Some m → module_led c b m ≡ None
      → NamesNothing c b q
  no_adt : (name : List ℕ) (m : Meaning) → q.part ≡ Some name → head c b q ≡ Some m → adt_led c b m ≡ None → NamesNothing c b q
  a_field : (name : List ℕ) (m : Meaning) → q.part ≡ Some name → head c b q ≡ Some m → IsField c b m name → NamesNothing c b q

-- What a test says.
abbrev pub Tells : Bool → Type 0 → Type 0
Tells true P = P
Tells false P = P → ⊥

-- A type has a part of this name.
abbrev pub HasPart : List Def → List ℕ → ty.Ty → Type 0
HasPart defs name t = (part : ℕ) × (u : ty.Ty) × Names defs name t part u

-- What is found of a member of the module that a name leads to.
abbrev pub IsMember : Context → Body → Meaning → List ℕ → Found → Type 0
IsMember c b m name found.Lacking = (i : ℕ) × (module_led c b m ≡ Some i) × (named_in c.exports i name ≡ None)
IsMember c b m name found.Nothing = module_led c b m ≡ None
IsMember c b m name (found.Named n) = with_member c b m (Some name) ≡ Some n
IsMember c b m name (found.Variant a v) = ⊥

-- The same of a part of the adt that a name leads to.
abbrev pub IsPart : Context → Body → Meaning → List ℕ → Found → Type 0
IsPart c b m name found.Lacking =
    (a : ℕ) × (adt_led c b m ≡ Some a) × (named_in c.members a name ≡ None) × NoneIs (HasVariantNamed c a name) × (HasField c b m name → ⊥)
IsPart c b m name found.Nothing = (adt_led c b m ≡ None) ⊎ IsField c b m name
IsPart c b m name (found.Named n) = with_part c b m (Some name) ≡ Some n
IsPart c b m name (found.Variant a v) = (adt_led c b m ≡ Some a) × (named_in c.members a name ≡ None) × HasVariantNamed c a name v

-- What is found of all of a name but its part.
abbrev pub IsHead : Context → Body → tree.Qual → Found → Type 0
IsHead c b q found.Lacking = IsLacking c b q
IsHead c b q found.Nothing = NamesNothing c b q
IsHead c b q (found.Named m) = head c b q ≡ Some m
IsHead c b q (found.Variant a v) = ⊥

-- What is found of a name.
abbrev pub IsFound : Context → Body → tree.Qual → Found → Type 0
IsFound c b q found.Lacking = IsLacking c b q
IsFound c b q found.Nothing = NamesNothing c b q
IsFound c b q (found.Named m) = IsNamed c b q m
IsFound c b q (found.Variant a v) = NamesVariant c b q a v

-- What is said of one name that stands at a place.
abbrev pub FailsName : Context → Body → tree.Qual → (behind_ref : Bool) → Span → WrittenFault → Type 0
FailsName c b q r at NoMemory = Unit {0}
FailsName c b q r at (Unknown s) = (s ≡ at) × IsLacking c b q
FailsName c b q r at (NotAType s) = (s ≡ at) × NamesNoType c b q r

-- One of these types fails so.
abbrev pub FailsPart : Context → Body → List code_type.TypeTree → WrittenFault → Type 0
FailsPart c b parts NoMemory = Unit {0}
FailsPart c b parts (Unknown at) = (p : code_type.TypeTree) × Contains parts p × HasUnknown c b p at
FailsPart c b parts (NotAType at) = (p : code_type.TypeTree) × Contains parts p × HasNoType c b p at
