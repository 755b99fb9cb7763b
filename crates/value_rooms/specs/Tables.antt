-- The rooms of adts by the types of their parts, round by round: an adt takes what a tuple of its parts does.
use Rattle.std.specs.Prelude.{◌≤◌, ℕ, zero, suc, List, [], map, length}
use Rattle.limbo_types.specs.Types as ty
use Rattle.limbo_types.specs.Types.{Ty}
use Rattle.limbo_types.specs.View.{tys_of, view_ty}
use Rattle.limbo_types.specs.declared.ty.Ty as code_ty
use Rattle.std.specs.Prelude.{Vec}
use Rattle.std.specs.Global.{Global}
use Rattle.limbo_layout.specs.Adts.{Def}
use Rattle.limbo_layout.specs.Layout.{Room, limit}
use Rattle.value_frames.specs.Frames.{room_for}
use Rattle.value_rooms.specs.Cut.{taken}

-- the types of the code, of each adt
abbrev pub view_parts : List (Vec code_ty.Ty Global) → List (List Ty)
view_parts all = map (λ ts. map view_ty ts.items) all

-- Each has a room by those of its parts. What isn't in a table takes nothing.
abbrev pub round : List Room → List (List Ty) → List Room
round table all = map (λ ts. taken table (ty.Tuple (tys_of ts))) all

abbrev pub table_after : List (List Ty) → (rounds : ℕ) → List Room
table_after all zero = []
table_after all (suc k) = round (table_after all k) all

abbrev pub table_of : List (List Ty) → List Room
table_of all = table_after all (length all)

-- No adt takes more than a type may.
abbrev pub AdtsFit : List Def → Type 0
AdtsFit defs = (n : ℕ) → (room_for defs (ty.Adt n)).size ≤ limit
