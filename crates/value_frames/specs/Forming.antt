-- Values that are put together of operands, one after the other.
use Rattle.std.specs.Prelude.{ℕ, pos, List, ◌∷◌, Option, None, Some}
use Rattle.limbo_types.specs.Types.{Ty}
use Rattle.limbo_layout.specs.Adts.{Def}
use Rattle.limbo_meaning.specs.Values.{Value, Num, Parts, parts_of, zero_of}
use Rattle.limbo_meaning.specs.Places.{put_part}

-- A value of a type, of this variant of an adt, where no operand is there yet.
abbrev pub begun : List Def → Ty → (variant : Option ℕ) → Value
begun defs t None = zero_of defs t
begun defs t (Some v) = Parts (put_part 0 (Num (pos v)) (parts_of (zero_of defs t)))

-- The same with operands at the parts of these numbers.
abbrev pub formed : Value → (parts : List ℕ) → (operands : List Value) → Value
formed w (k ∷ ks) (v ∷ vs) = formed (Parts (put_part k v (parts_of w))) ks vs
formed w ks vs = w
