-- Tests of types, and parts of them: what they say of a type is proved of them.
use Rattle.std.specs.Prelude.{ℕ, Bool, true, false, Option, None, Some, ◌&&◌, if◌then◌else◌}
use Rattle.limbo_values.specs.declared.number.Kind.{Kind}
use Rattle.limbo_values.specs.declared.number.Kind.TheVariants as kind
use Rattle.limbo_types.specs.Types.{Ty, Tys, Byte, Int, Big, Chars, Nil, ArrayOf}
use Rattle.limbo_types.specs.Types.{ListOf, ChanOf, Tuple, RefAdt, RefPick, Module, NoTys, MoreTys}
use Rattle.limbo_types.specs.Same.{same}
use Rattle.limbo_typed.specs.declared.operation.Sequence.{Sequence}
use Rattle.limbo_typed.specs.declared.operation.Sequence.TheVariants as sequence

abbrev pub choose : {A B : Type 0} → Option A → B → (A → B) → B
choose (Some a) b f = f a
choose None b f = b

abbrev pub kind_of : Ty → Option Kind
kind_of Byte = Some kind.Byte
kind_of Int = Some kind.Int
kind_of Big = Some kind.Big
kind_of _ = None

abbrev pub is_int : Ty → Bool
is_int Int = true
is_int _ = false

abbrev pub is_nil : Ty → Bool
is_nil Nil = true
is_nil _ = false

abbrev pub is_text : Ty → Bool
is_text Chars = true
is_text Nil = true
is_text _ = false

abbrev pub is_reference : Ty → Bool
is_reference (ArrayOf t) = true
is_reference (ListOf t) = true
is_reference (ChanOf t) = true
is_reference (RefAdt n) = true
is_reference (RefPick n v) = true
is_reference (Module n) = true
is_reference _ = false

abbrev pub is_channel : Ty → Bool
is_channel (ChanOf t) = true
is_channel _ = false

abbrev pub ref_of : Ty → Option ℕ
ref_of (RefAdt n) = Some n
ref_of (RefPick n v) = Some n
ref_of _ = None

abbrev pub item_of : Ty → Option Ty
item_of (ListOf t) = Some t
item_of Nil = Some Nil
item_of _ = None

abbrev pub element_of : Ty → Option Ty
element_of (ArrayOf t) = Some t
element_of _ = None

abbrev pub sequence_of : Ty → Option Sequence
sequence_of Chars = Some sequence.Chars
sequence_of (ArrayOf t) = Some sequence.Array
sequence_of (ListOf t) = Some sequence.List
sequence_of _ = None

abbrev pub is_byte : Ty → Bool
is_byte Byte = true
is_byte _ = false

abbrev pub is_bytes : Ty → Bool
is_bytes (ArrayOf t) = is_byte t
is_bytes Nil = true
is_bytes _ = false

abbrev mutual
  pub is_settled : Ty → Bool
  is_settled Nil = false
  is_settled (ArrayOf t) = is_settled t
  is_settled (ListOf t) = is_settled t
  is_settled (ChanOf t) = is_settled t
  is_settled (Tuple ts) = all_settled ts
  is_settled _ = true

  pub all_settled : Tys → Bool
  all_settled NoTys = true
  all_settled (MoreTys t ts) = is_settled t && all_settled ts

-- the kind of numbers that two types both have
abbrev pub same_kind : Ty → Ty → Option Kind
same_kind t u = choose (kind_of t) None (λ k. if same t u then Some k else None)
