-- By which name a written type means nothing, and why (Limbo Language Reference, types, scope and declarations).
use Rattle.std.specs.Prelude.{◌≡◌, Box, Vec, ℕ, List, None, Some, Bool, true, false}
use Rattle.std.specs.List.{Contains}
use Rattle.std.specs.Global.{Global}
use Rattle.inf_text.specs.declared.span.Span.{Span}
use Rattle.limbo_tree.specs.declared.name.Qual as code_qual
use Rattle.limbo_tree.specs.declared.types.TypeTree as code_type
use Rattle.limbo_tree.specs.declared.types.TypeTree.TheVariants as make
use Rattle.limbo_tree.specs.Types as tree
use Rattle.limbo_tree.specs.View.{view_qual}
use Rattle.limbo_types.specs.Types.{Ty}
use Rattle.limbo_fields.specs.Fields.{Names}
use Rattle.limbo_scope.specs.declared.meaning.Meaning.{Meaning}
use Rattle.limbo_scope.specs.Scopes.{seen}
use Rattle.limbo_refusals.specs.Refusals.{NoneIs}
use Rattle.limbo_context.specs.Context.{Context, Body, named_in, HasVariantNamed}
use Rattle.limbo_body_types.specs.Means.{type_led, module_led, adt_led, head, Means}
use Rattle.limbo_body_types.specs.declared.fault.WrittenFault.{WrittenFault}
use Rattle.limbo_body_types.specs.declared.fault.WrittenFault.TheVariants.{NoMemory, Unknown, NotAType}

-- What stands before `.` has a field of this name.
pub record HasField (c : Context) (b : Body) (m : Meaning) (name : List ℕ) : Type 0 where
  pub of : Ty
  pub leads : type_led c b m ≡ Some of
  pub part : ℕ
  pub ty : Ty
  pub is : Names c.adts name of part ty

-- A name isn't there: the first name isn't seen, or the module before `->` exports no such name, or the adt before `.` has neither a
-- member nor a variant nor a field of this name.
pub data IsLacking (c : Context) (b : Body) (q : tree.Qual) : Type 0 where
  first : seen q.first b.scopes ≡ None → IsLacking c b q
  member : (name : List ℕ) (m : Meaning) (i : ℕ) → q.member ≡ Some name → seen q.first b.scopes ≡ Some m → module_led c b m ≡ Some i
      → named_in c.exports i name ≡ None → IsLacking c b q
  part : (name : List ℕ) (m : Meaning) (a : ℕ) → q.part ≡ Some name → head c b q ≡ Some m → adt_led c b m ≡ Some a
      → named_in c.members a name ≡ None → NoneIs (HasVariantNamed c a name) → (HasField c b m name → ⊥) → IsLacking c b q

-- a name as a type, alone or behind `ref`
abbrev pub written : (behind_ref : Bool) → tree.Qual → tree.Ty
written false q = tree.Named q
written true q = tree.RefTo q

-- Any other name that means no type, or behind `ref` neither an adt nor a variant.
pub record NamesNoType (c : Context) (b : Body) (q : tree.Qual) (behind_ref : Bool) : Type 0 where
  pub there : IsLacking c b q → ⊥
  pub no_type : NoneIs (Means c b (written behind_ref q))

-- ---- names in a type

-- What an array, a list or a channel is written to be of, and the parts of a tuple.
pub data IsPart (t : code_type.TypeTree) : code_type.TypeTree → Type 0 where
  of_array : (element : Box code_type.TypeTree Global) (s : Span) → t ≡ make.Array element s → IsPart t element.value
  of_list : (element : Box code_type.TypeTree Global) (s : Span) → t ≡ make.List element s → IsPart t element.value
  of_chan : (element : Box code_type.TypeTree Global) (s : Span) → t ≡ make.Chan element s → IsPart t element.value
  of_tuple : (parts : Vec code_type.TypeTree Global) (s : Span) (p : code_type.TypeTree) → t ≡ make.Tuple parts s → Contains parts.items p
      → IsPart t p

-- A type writes a name that has this span, alone or behind `ref`.
pub data Writes : code_type.TypeTree → code_qual.Qual → (behind_ref : Bool) → Span → Type 0 where
  a_name : (t : code_type.TypeTree) (q : code_qual.Qual) (at : Span) → t ≡ make.Named q at → Writes t q false at
  a_ref : (t : code_type.TypeTree) (q : code_qual.Qual) (at : Span) → t ≡ make.Ref q at → Writes t q true at
  in_part : (t p : code_type.TypeTree) (q : code_qual.Qual) (behind_ref : Bool) (at : Span) → IsPart t p → Writes p q behind_ref at
      → Writes t q behind_ref at

-- ---- refusals

-- Refusal 42: a name that stands there isn't there.
pub record HasUnknown (c : Context) (b : Body) (t : code_type.TypeTree) (at : Span) : Type 0 where
  pub name : code_qual.Qual
  pub behind_ref : Bool
  pub writes : Writes t name behind_ref at
  pub lacks : IsLacking c b (view_qual name)

-- Refusal 50: a name that stands there is no type, or behind `ref` neither an adt nor a variant.
pub record HasNoType (c : Context) (b : Body) (t : code_type.TypeTree) (at : Span) : Type 0 where
  pub name : code_qual.Qual
  pub behind_ref : Bool
  pub writes : Writes t name behind_ref at
  pub no_type : NamesNoType c b (view_qual name) behind_ref

-- Why a written type means none. A want of memory says nothing.
abbrev pub Fails : Context → Body → code_type.TypeTree → WrittenFault → Type 0
Fails c b t NoMemory = Unit {0}
Fails c b t (Unknown at) = HasUnknown c b t at
Fails c b t (NotAType at) = HasNoType c b t at
