-- What expressions with their parts are, as functions; that they are what the definitions say is proved of them.
use Rattle.std.specs.Prelude.{ℕ, Bool, true, false, ◌==◌, Option, None, Some, option_map, if◌then◌else◌}
use Rattle.limbo_types.specs.Types.{Ty, Int, Chars, ArrayOf, Adt, RefAdt, RefPick}
use Rattle.limbo_typed.specs.declared.operation.Sequence.{Sequence}
use Rattle.limbo_typed.specs.declared.operation.Sequence.TheVariants as sequence
use Rattle.limbo_typed.specs.declared.operation.Operation.{Operation}
use Rattle.limbo_typed.specs.declared.operation.Operation.TheVariants as op
use Rattle.limbo_typed.specs.Typed.{Expr, Of, Node, Read, Part, Apply, Optional, Absent, Present, At, Field, Element, Character, Target}
use Rattle.limbo_typed.specs.Sound.{type_of}
use Rattle.limbo_forms.specs.Forms.{choose, is_int, is_settled, ref_of}
use Rattle.limbo_places.specs.Places.{read, on_one, on_two}

abbrev pub is_string : Ty → Bool
is_string Chars = true
is_string _ = false

-- ---- elements

-- the type of an array's elements, where it is known
abbrev pub settled_element : Ty → Option Ty
settled_element (ArrayOf t) = if is_settled t then Some t else None
settled_element _ = None

-- a character of a string's value
abbrev pub character_of_value : (text index : Expr) → Expr
character_of_value text index = Of Int (on_two op.Character text index)

-- a character of a string, in the place where it stands, if it stands in one
abbrev pub character : (text index : Expr) → Expr
character (Of t (Read p)) index = read Int (Character p index)
character text index = character_of_value text index

-- what is indexed where the index is an int
abbrev pub element : (base index : Expr) → Option Expr
element base index =
    if is_string (type_of base) then Some (character base index)
    else option_map (λ t. read t (Element base index)) (settled_element (type_of base))

abbrev pub indexed : (base index : Expr) → Option Expr
indexed base index = if is_int (type_of index) then element base index else None

-- ---- slices

abbrev pub sequence_of : Ty → Option Sequence
sequence_of Chars = Some sequence.Chars
sequence_of (ArrayOf t) = Some sequence.Array
sequence_of _ = None

abbrev pub sliced_as : Ty → Option Sequence
sliced_as t = if is_settled t then sequence_of t else None

-- the type of a bound that is no int
abbrev pub no_int : Optional → Option Ty
no_int Absent = None
no_int (Present e) = if is_int (type_of e) then None else Some (type_of e)

-- ---- parts and references

-- a part of a value, in the place where it stands, if it stands in one
abbrev pub part_in : Expr → (part : ℕ) → Ty → Expr
part_in (Of of (Read p)) part t = read t (Field p part)
part_in base part t = Of t (Part base part)

-- a part of what a reference names
abbrev pub part_of_target : (adt : ℕ) → Expr → (part : ℕ) → Ty → Expr
part_of_target adt reference part t = read t (Field (At (Adt adt) (Target reference)) part)

-- a part of a value, or of what a reference names
abbrev pub part_at : Expr → (part : ℕ) → Ty → Expr
part_at base part t = choose (ref_of (type_of base)) (part_in base part t) (λ adt. part_of_target adt base part t)

abbrev pub adt_of : Ty → Option ℕ
adt_of (Adt n) = Some n
adt_of _ = None

-- the variant of an adt as which an operation makes a value
abbrev pub variant_made : ℕ → Operation → Option ℕ
variant_made n (op.Adt m v) = if m == n then v else None
variant_made n _ = None

abbrev pub made_as : ℕ → Node → Option ℕ
made_as n (Apply o es) = variant_made n o
made_as n _ = None

abbrev pub ref_type : ℕ → Option ℕ → Ty
ref_type n None = RefAdt n
ref_type n (Some v) = RefPick n v

abbrev pub reference : ℕ → Ty → Node → Expr
reference n t i = Of (ref_type n (made_as n i)) (on_one op.Ref (Of t i))

abbrev pub referred : Expr → Option Expr
referred (Of t i) = option_map (λ n. reference n t i) (adt_of t)
