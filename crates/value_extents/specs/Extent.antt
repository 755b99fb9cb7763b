-- How much room values take and how many references they have, by a table of what the adts' values do.
use Rattle.std.specs.Prelude.{ℕ, zero, suc, ◌+◌, min, max, List, [], ◌∷◌, map, length, slice_index_or}
use Rattle.std.specs.Int.{next_multiple_of}
use Rattle.limbo_types.specs.Types.{Ty, Tys, Byte, Int, Big, Chars, Nothing, Tuple, Adt, NoTys, MoreTys}
use Rattle.limbo_layout.specs.Adts.{Def, parts}
use Rattle.limbo_layout.specs.Layout.{Room}

-- What is told of a value: its bytes, what its place is a multiple of, and how many references it has.
pub record Extent : Type 0 where
  pub size : ℕ
  pub align : ℕ
  pub count : ℕ

-- One more than the bytes that a type may take: neither bytes nor references are counted further.
abbrev pub most : ℕ
most = 65537

-- what is told of a room with so many references
abbrev pub told : Room → ℕ → Extent
told r c = record { size = min r.size most; align = r.align; count = min c most }

-- ---- values without parts

abbrev pub empty : Extent
empty = record { size = 0; align = 1; count = 0 }

-- a number of so many bytes; a string is as one of 4
abbrev pub number : ℕ → Extent
number n = record { size = n; align = n; count = 0 }

abbrev pub reference : Extent
reference = record { size = 4; align = 4; count = 1 }

-- ---- parts in order

-- a part more, at the next place that suits it
abbrev pub behind : Extent → Extent → Extent
behind w p = record {
  size = min (next_multiple_of w.size p.align + p.size) most;
  align = max w.align p.align;
  count = min (w.count + p.count) most;
}

abbrev pub all_behind : Extent → List Extent → Extent
all_behind w [] = w
all_behind w (p ∷ ps) = all_behind (behind w p) ps

-- the whole takes a multiple of its alignment
abbrev pub rounded : Extent → Extent
rounded w = record { size = min (next_multiple_of w.size w.align) most; align = w.align; count = w.count }

abbrev pub in_order : List Extent → Extent
in_order ps = rounded (all_behind empty ps)

-- ---- types, by a table of adts

abbrev mutual
  pub extent : List Extent → Ty → Extent
  extent table Byte = number 1
  extent table Int = number 4
  extent table Big = number 8
  extent table Chars = number 4
  extent table Nothing = empty
  extent table (Tuple ts) = in_order (all_extents table ts)
  extent table (Adt n) = slice_index_or table n empty
  extent table t = reference

  pub all_extents : List Extent → Tys → List Extent
  all_extents table NoTys = []
  all_extents table (MoreTys t ts) = extent table t ∷ all_extents table ts

-- those of types in a row
abbrev pub extents_of : List Extent → List Ty → List Extent
extents_of table ts = map (extent table) ts

-- The table after so many rounds: each has those whose parts have theirs. What isn't in a table is empty.
abbrev pub round : List Extent → List Def → List Extent
round table defs = map (λ d. in_order (extents_of table (parts d))) defs

abbrev pub table_after : List Def → (rounds : ℕ) → List Extent
table_after defs zero = []
table_after defs (suc k) = round (table_after defs k) defs

abbrev pub table_of : List Def → List Extent
table_of defs = table_after defs (length defs)
