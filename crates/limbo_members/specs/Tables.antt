-- Tables of adts, as the code makes them.
use Rattle.std.specs.Prelude.{ℕ, List}
use Rattle.limbo_types.specs.Types.{Ty}
use Rattle.limbo_layout.specs.Adts.{Def, Names}
use Rattle.limbo_typed.specs.Sound.{Each}
use Rattle.limbo_context.specs.Context.{Context}

-- Each number in each of these types names something.
abbrev pub AllNameIn : List Def → (modules : ℕ) → List Ty → Type 0
AllNameIn defs modules ts = Each (λ t. Names defs modules t) ts

-- a context with these adts, and module types of these names
abbrev pub with_table : List Def → List (List ℕ) → Context → Context
with_table defs modules c = record c { adts = defs; modules = modules }
