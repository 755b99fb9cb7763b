-- What the code gives of a checked source.
use Rattle.std.specs.Prelude.{◌≡◌, ℕ, List, Bool, true, false, Some}
use Rattle.inf_ports.specs.Outside.{Told}
use Rattle.limbo_tree.specs.Sources.{Source}
use Rattle.limbo_top.specs.Tops.{Placed}
use Rattle.limbo_entries.specs.Entries.{Entry}
use Rattle.limbo_typed.specs.Typed as typed
use Rattle.limbo_typed.specs.View.{view_module}
use Rattle.limbo_modules.specs.limbo_stating.Reasons.{Reason, number_of}
use Rattle.limbo_modules.specs.First.{DeclaresInit}
use Rattle.limbo_modules.specs.Modules.{IsModule}
use Rattle.limbo_modules.specs.Failing.{FailsModule}
use Rattle.limbo_modules.specs.Faults.{number_told}
use Rattle.limbo_modules.specs.declared.fault.ModuleFault as module_fault
use Rattle.source_modules.specs.Checked.{IsFirst, IsOther}
use Rattle.source_modules.specs.declared.fault.ModuleFault.{ModuleFault}
use Rattle.source_modules.specs.declared.fault.ModuleFault.TheVariants as fault
use Rattle.source_modules.specs.declared.checking.Checked as code_checked

-- Whether a module declares `init` as a first one has to.
abbrev pub Begins : List Entry → (m : ℕ) → typed.Module → Bool → Type 0
Begins es m checked true = DeclaresInit es m checked
Begins es m checked false = DeclaresInit es m checked → ⊥

-- The same of a source's.
abbrev pub IsSort : Told → List ℕ → Source → typed.Module → (begins : Bool) → Type 0
IsSort told path tree checked true = IsFirst told path tree checked
IsSort told path tree checked false = IsOther told path tree checked

-- What is given of the typed module that a tree is: whether it begins, and the module itself.
pub record Gives (told : Told) (path : List ℕ) (tree : Source) (c : code_checked.Checked) : Type 0 where
  pub sort : IsSort told path tree (view_module c.module.value) c.begins

-- The same, by the declarations of the tree.
pub record GivesModule (name : List ℕ) (row : List Placed) (es : List Entry) (m : ℕ) (c : code_checked.Checked) : Type 0 where
  pub is : IsModule name row es m (view_module c.module.value)
  pub begins : Begins es m (view_module c.module.value) c.begins

-- The number of a reason for which there is none, or want of memory.
abbrev pub FailsNamed : (name : List ℕ) → List Placed → List Entry → (m : ℕ) → ModuleFault → Type 0
FailsNamed name row es m fault.NoMemory = Unit {0}
FailsNamed name row es m (fault.Refused number path at) = (k : Reason) × FailsModule name row es m k × (number ≡ number_of k)

-- This number is told, or want of memory.
abbrev pub IsNumberOf : module_fault.ModuleFault → ModuleFault → Type 0
IsNumberOf f fault.NoMemory = Unit {0}
IsNumberOf f (fault.Refused number path at) = number_told f ≡ Some number
