-- What holds of parts by their names.
use Rattle.std.specs.Prelude.{◌≡◌, ℕ, List, Some, slice_get}
use Rattle.limbo_types.specs.Types.{Ty, Tuple, Adt, RefAdt, RefPick}
use Rattle.limbo_layout.specs.Adts.{Def, parts, listed}
use Rattle.limbo_fields.specs.Fields.{Names}

-- A name is one part at most.
abbrev pub OnePart : Type 0
OnePart =
    (defs : List Def) (name : List ℕ) (of : Ty) (a b : ℕ) (t u : Ty) → Names defs name of a t → Names defs name of b u → (a ≡ b) × (t ≡ u)

-- The parts of a value of a type, or of what it names.
abbrev pub IsPartOf : List Def → Ty → (part : ℕ) → Ty → Type 0
IsPartOf defs (Tuple ts) part t = slice_get (listed ts) part ≡ Some t
IsPartOf defs (Adt n) part t = (d : Def) × (slice_get defs n ≡ Some d) × (slice_get (parts d) part ≡ Some t)
IsPartOf defs (RefAdt n) part t = (d : Def) × (slice_get defs n ≡ Some d) × (slice_get (parts d) part ≡ Some t)
IsPartOf defs (RefPick n v) part t = (d : Def) × (slice_get defs n ≡ Some d) × (slice_get (parts d) part ≡ Some t)
IsPartOf defs _ part t = ⊥

-- What a name names is a part, of that type, by its number among the parts as they lie in memory.
abbrev pub PartsAreThere : Type 0
PartsAreThere = (defs : List Def) (name : List ℕ) (of : Ty) (part : ℕ) (t : Ty) → Names defs name of part t → IsPartOf defs of part t
