-- How values lie in memory.
use Rattle.std.specs.Prelude.{◌≡◌, ℕ, ◌+◌, ◌/◌, ◌<◌, ◌≤◌, Bool, false, ◌==◌, ◌||◌, List, [], ◌∷◌, ◌++◌, map, max, Option, Some, None, slice_get}
use Rattle.std.specs.Int.{next_multiple_of}
use Rattle.std.specs.List.{range_with_len}
use Rattle.limbo_types.specs.Types.{Ty, Tys, Byte, Int, Big, Nothing, Tuple, Adt}
use Rattle.limbo_layout.specs.Adts.{Def, parts, listed}

-- The room that a value takes: its size and what its place is a multiple of, in bytes, and the offsets of the words that refer.
pub record Room : Type 0 where
  pub size : ℕ
  pub align : ℕ
  pub references : List ℕ

abbrev pub nothing : Room
nothing = record { size = 0; align = 1; references = [] }

-- a number of so many bytes
abbrev pub number : ℕ → Room
number n = record { size = n; align = n; references = [] }

abbrev pub reference : Room
reference = record { size = 4; align = 4; references = 0 ∷ [] }

-- the room of a type whose values have no parts in place: a string is a reference too
abbrev pub alone : Ty → Option Room
alone Byte = Some (number 1)
alone Int = Some (number 4)
alone Big = Some (number 8)
alone Nothing = Some nothing
alone (Tuple ts) = None
alone (Adt n) = None
alone t = Some reference

-- a part more, at the next place that suits it
abbrev pub behind : Room → Room → Room
behind w p =
    let at = next_multiple_of w.size p.align in
    record { size = at + p.size; align = max w.align p.align; references = w.references ++ map (λ o. at + o) p.references }

-- parts in order, behind what is there
abbrev pub all_behind : Room → List Room → Room
all_behind w [] = w
all_behind w (p ∷ ps) = all_behind (behind w p) ps

-- the whole takes a multiple of its alignment
abbrev pub rounded : Room → Room
rounded w = record { size = next_multiple_of w.size w.align; align = w.align; references = w.references }

abbrev pub in_order : List Room → Room
in_order ps = rounded (all_behind nothing ps)

-- The room of a type is the least relation by these three rules: an adt that holds itself as a value has none.
mutual
  pub data Laid (defs : List Def) : Ty → Room → Type 0 where
    is_alone : (t : Ty) (r : Room) → alone t ≡ Some r → Laid defs t r
    of_tuple : (ts : Tys) (rs : List Room) → AllLaid defs (listed ts) rs → Laid defs (Tuple ts) (in_order rs)
    of_adt : (n : ℕ) (d : Def) (rs : List Room) → slice_get defs n ≡ Some d → AllLaid defs (parts d) rs → Laid defs (Adt n) (in_order rs)

  pub data AllLaid (defs : List Def) : List Ty → List Room → Type 0 where
    none_laid : AllLaid defs [] []
    more_laid : (t : Ty) (ts : List Ty) (r : Room) (rs : List Room) → Laid defs t r → AllLaid defs ts rs → AllLaid defs (t ∷ ts) (r ∷ rs)

-- the most bytes that a type may take
abbrev pub limit : ℕ
limit = 65536

abbrev pub Fits : List Def → Ty → Type 0
Fits defs t = (r : Room) × Laid defs t r × (r.size ≤ limit)

abbrev pub is_in : ℕ → List ℕ → Bool
is_in n [] = false
is_in n (m ∷ ms) = (m == n) || is_in n ms

abbrev pub words : ℕ → ℕ
words size = (size + 3) / 4

-- which words refer, by their order: those at the offsets
abbrev pub map_of : Room → List Bool
map_of r = map (λ w. is_in w (map (λ o. o / 4) r.references)) (range_with_len 0 (words r.size))

-- what is told of a type's layout: its size, and its words that refer
abbrev pub IsLayout : List Def → Ty → ℕ → List Bool → Type 0
IsLayout defs t size words = (r : Room) × Laid defs t r × (size ≡ r.size) × (words ≡ map_of r)

-- a type takes more than it may
abbrev pub IsTooLarge : List Def → Ty → Type 0
IsTooLarge defs t = (r : Room) → Laid defs t r → limit < r.size
