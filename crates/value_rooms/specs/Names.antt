-- Where the references of values are that are no strings, told only as far as a type may take room.
use Rattle.std.specs.Prelude.{ℕ, zero, suc, ◌+◌, min, List, [], ◌∷◌, ◌++◌, map, length, slice_index_or, Vec}
use Rattle.std.specs.Global.{Global}
use Rattle.std.specs.Int.{next_multiple_of}
use Rattle.limbo_types.specs.Types.{Ty, Tys, Byte, Int, Big, Chars, Nothing, Tuple, Adt, NoTys, MoreTys}
use Rattle.limbo_types.specs.View.{tys_of}
use Rattle.limbo_layout.specs.Layout.{Room, nothing}
use Rattle.value_rooms.specs.Cut.{behind, most, single}

abbrev pub view_names : List (Vec ℕ Global) → List (List ℕ)
view_names all = map (λ os. os.items) all

-- offsets in what stands at a place
abbrev pub moved : (at : ℕ) → List ℕ → List ℕ
moved at os = map (λ o. min (at + o) most) os

module _ (table : List Room) (adts : List (List ℕ)) where
  abbrev mutual
    pub named : (at : ℕ) → Ty → List ℕ
    named at (Tuple ts) = all_named at nothing ts
    named at (Adt n) = moved at (slice_index_or adts n [])
    named at Byte = []
    named at Int = []
    named at Big = []
    named at Chars = []
    named at Nothing = []
    named at t = at ∷ []

    -- of values in a row, behind what takes so much room
    pub all_named : (at : ℕ) → Room → Tys → List ℕ
    all_named at w NoTys = []
    all_named at w (MoreTys t ts) =
        let part = single table t in
        named (min (at + next_multiple_of w.size part.align) most) t ++ all_named at (behind w part) ts

-- Of each adt by those of its parts, round by round. What isn't in a table has none.
module _ (table : List Room) (all : List (List Ty)) where
  abbrev pub names_round : List (List ℕ) → List (List ℕ)
  names_round adts = map (λ ts. all_named table adts 0 nothing (tys_of ts)) all

  abbrev pub names_after : (rounds : ℕ) → List (List ℕ)
  names_after zero = []
  names_after (suc k) = names_round (names_after k)

  abbrev pub names_of : List (List ℕ)
  names_of = names_after (length all)
