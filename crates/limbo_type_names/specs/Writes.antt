-- Names in written types, and the refusals of a type by the place of a name.
use Rattle.std.specs.Prelude.{◌≡◌, Box, Vec, ℕ, List, Option, Bool, true, false}
use Rattle.std.specs.List.{Contains}
use Rattle.std.specs.Global.{Global}
use Rattle.inf_text.specs.declared.span.Span.{Span}
use Rattle.limbo_tree.specs.declared.name.Qual as code_qual
use Rattle.limbo_tree.specs.declared.types.TypeTree as code_type
use Rattle.limbo_tree.specs.declared.types.TypeTree.TheVariants as make
use Rattle.limbo_tree.specs.View.{view_qual}
use Rattle.limbo_entries.specs.Entries.{Entry}
use Rattle.limbo_naming.specs.Naming.{Lacks}
use Rattle.limbo_naming.specs.Qualified.{of_type}
use Rattle.limbo_type_names.specs.Means.{NamesNoType}
use Rattle.limbo_type_names.specs.declared.fault.TypeFault.{TypeFault}
use Rattle.limbo_type_names.specs.declared.fault.TypeFault.TheVariants.{NoMemory, Unknown, NotAType}

-- What an array, a list or a channel is written to be of, and the parts of a tuple.
pub data IsPart (t : code_type.TypeTree) : code_type.TypeTree → Type 0 where
  of_array : (element : Box code_type.TypeTree Global) (s : Span) → t ≡ make.Array element s → IsPart t element.value
  of_list : (element : Box code_type.TypeTree Global) (s : Span) → t ≡ make.List element s → IsPart t element.value
  of_chan : (element : Box code_type.TypeTree Global) (s : Span) → t ≡ make.Chan element s → IsPart t element.value
  of_tuple : (parts : Vec code_type.TypeTree Global) (s : Span) (p : code_type.TypeTree) → t ≡ make.Tuple parts s → Contains parts.items p
      → IsPart t p

-- A type writes a name that has this span, alone or behind `ref`.
pub data Writes : code_type.TypeTree → code_qual.Qual → (behind_ref : Bool) → Span → Type 0 where
  a_name : (t : code_type.TypeTree) (q : code_qual.Qual) (at : Span) → t ≡ make.Named q at → Writes t q false at
  a_ref : (t : code_type.TypeTree) (q : code_qual.Qual) (at : Span) → t ≡ make.Ref q at → Writes t q true at
  in_part : (t p : code_type.TypeTree) (q : code_qual.Qual) (behind_ref : Bool) (at : Span) → IsPart t p → Writes p q behind_ref at
      → Writes t q behind_ref at

-- Refusal 42: a name that stands there isn't there.
pub record HasUnknown (es : List Entry) (m : ℕ) (scope : Option ℕ) (t : code_type.TypeTree) (at : Span) : Type 0 where
  pub name : code_qual.Qual
  pub behind_ref : Bool
  pub writes : Writes t name behind_ref at
  pub lacks : Lacks es m scope (of_type (view_qual name))

-- Refusal 50: a name that stands there is no type, or behind `ref` neither an adt nor a variant.
pub record HasNoType (es : List Entry) (m : ℕ) (scope : Option ℕ) (t : code_type.TypeTree) (at : Span) : Type 0 where
  pub name : code_qual.Qual
  pub behind_ref : Bool
  pub writes : Writes t name behind_ref at
  pub no_type : NamesNoType es m scope (of_type (view_qual name)) behind_ref

-- Why a type that is written in a scope means none.
abbrev pub Fails : List Entry → (m : ℕ) → (scope : Option ℕ) → code_type.TypeTree → TypeFault → Type 0
Fails es m scope t NoMemory = Unit {0}
Fails es m scope t (Unknown at) = HasUnknown es m scope t at
Fails es m scope t (NotAType at) = HasNoType es m scope t at
