-- Rooms that are told only as far as a type may take room: of one that takes more it is known that it does, and its alignment.
use Rattle.std.specs.Prelude.{ℕ, List, [], ◌∷◌, nat_lt, if◌then◌else◌, slice_index_or}
use Rattle.limbo_types.specs.Types.{Ty, Tys, Byte, Int, Big, Nothing, Tuple, Adt, NoTys, MoreTys}
use Rattle.limbo_layout.specs.Layout as layout
use Rattle.limbo_layout.specs.Layout.{Room, limit, nothing, number, reference}

-- One more than the bytes that a type may take.
abbrev pub most : ℕ
most = 65537

-- What is told of a room that is too large.
abbrev pub lost : (align : ℕ) → Room
lost a = record { size = most; align = a; references = [] }

abbrev pub cut : Room → Room
cut r = if nat_lt limit r.size then lost r.align else r

-- ---- parts in order

abbrev pub behind : Room → Room → Room
behind w p = cut (layout.behind w p)

abbrev pub all_behind : Room → List Room → Room
all_behind w [] = w
all_behind w (p ∷ ps) = all_behind (behind w p) ps

abbrev pub rounded : Room → Room
rounded w = cut (layout.rounded w)

-- ---- types, by a table of adts

abbrev mutual
  pub taken : List Room → Ty → Room
  taken table Byte = number 1
  taken table Int = number 4
  taken table Big = number 8
  taken table Nothing = nothing
  taken table (Tuple ts) = rounded (all_behind nothing (all_taken table ts))
  taken table (Adt n) = slice_index_or table n nothing
  taken table t = reference

  pub all_taken : List Room → Tys → List Room
  all_taken table NoTys = []
  all_taken table (MoreTys t ts) = taken table t ∷ all_taken table ts

-- a value of a type, behind nothing
abbrev pub single : List Room → Ty → Room
single table t = behind nothing (taken table t)
