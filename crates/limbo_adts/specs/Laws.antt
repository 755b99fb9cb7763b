-- What stays where adts are put behind those that are there.
use Rattle.std.specs.Prelude.{◌↔◌, ℕ, List, ◌++◌}
use Rattle.limbo_types.specs.Types.{Ty}
use Rattle.limbo_layout.specs.Adts.{Def, Names, AreNamed}
use Rattle.limbo_layout.specs.Layout.{Room, Laid}
use Rattle.limbo_adts.specs.Reaches.{Reaches}

-- A type keeps its layout.
abbrev pub LayoutsStay : Type 0
LayoutsStay = (defs more : List Def) (t : Ty) (r : Room) → Laid defs t r → Laid (defs ++ more) t r

-- A type whose numbers name something reaches what it reached.
abbrev pub ReachesStay : Type 0
ReachesStay =
    (defs more : List Def) (modules : ℕ) (t u : Ty) → AreNamed defs modules → Names defs modules t →
    Reaches (defs ++ more) t u ↔ Reaches defs t u
