-- What holds of what a source declares.
use Rattle.std.specs.Prelude.{◌≡◌, ◌≢◌, ℕ, List}
use Rattle.limbo_top.specs.Tops.{Placed}
use Rattle.limbo_entries.specs.Entries.{Entry}
use Rattle.limbo_declare.specs.declared.fault.NameFault.{NameFault}
use Rattle.limbo_declare.specs.declared.fault.NameFault.TheVariants.{NoMemory}
use Rattle.limbo_declare.specs.Declares.{Declares, Fails}

-- A source declares one thing at most: its declarations have one order, and the implemented module one number.
abbrev pub OneScope : Type 0
OneScope =
    (implements : List ℕ) (tops : List Placed) (es fs : List Entry) (m n : ℕ)
    → Declares implements tops es m → Declares implements tops fs n → (es ≡ fs) × (m ≡ n)

-- What is refused declares nothing.
abbrev pub RefusedDeclaresNothing : Type 0
RefusedDeclaresNothing =
    (implements : List ℕ) (tops : List Placed) (e : NameFault) → e ≢ NoMemory → Fails implements tops e
    → (es : List Entry) (m : ℕ) → Declares implements tops es m → ⊥
