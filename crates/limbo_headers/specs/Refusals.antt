-- Why declarations have no types.
use Rattle.std.specs.Prelude.{◌≡◌, Box, ℕ, List, Option, Some, slice_get}
use Rattle.std.specs.List.{Contains}
use Rattle.std.specs.Borrow.{Bor}
use Rattle.std.specs.Global.{Global}
use Rattle.limbo_tree.specs.declared.types.TypeTree as code_type
use Rattle.limbo_tree.specs.declared.decl.FnType as code_fn
use Rattle.limbo_tree.specs.declared.decl.Param as code_param
use Rattle.limbo_tree.specs.declared.expr.Expr as code_expr
use Rattle.limbo_declarations.specs.declared.row.Declared as code
use Rattle.limbo_declarations.specs.declared.row.Declared.TheVariants as declared
use Rattle.limbo_entries.specs.declared.entry.Entry as code_entry
use Rattle.limbo_entries.specs.Entries.{Entry}
use Rattle.limbo_entries.specs.View.{entries_of}
use Rattle.limbo_type_names.specs.declared.fault.TypeFault.{TypeFault}
use Rattle.limbo_type_names.specs.declared.fault.TypeFault.TheVariants as fault
use Rattle.limbo_type_names.specs.declared.fault.TypesFault.{TypesFault}
use Rattle.limbo_type_names.specs.declared.fault.TypesFault.TheVariants as faults
use Rattle.limbo_type_names.specs.Writes.{Fails}

abbrev pub IsParamType : List code_param.Param → code_type.TypeTree → Type 0
IsParamType params t = (p : code_param.Param) × Contains params p × (p.of.value ≡ t)

abbrev pub IsAnswerType : Option (Box code_type.TypeTree Global) → code_type.TypeTree → Type 0
IsAnswerType answer t = (b : Box code_type.TypeTree Global) × (answer ≡ Some b) × (b.value ≡ t)

-- A type of a parameter, or that of the answer.
pub data IsTypeOf (f : code_fn.FnType) (t : code_type.TypeTree) : Type 0 where
  of_param : IsParamType f.params.items t → IsTypeOf f t
  of_answer : IsAnswerType f.answer t → IsTypeOf f t

-- A type that a declaration writes.
pub data Writes (d : code.Declared) : code_type.TypeTree → Type 0 where
  of_variable : (t : Bor code_type.TypeTree) (value : Option (Bor code_expr.Expr)) → d ≡ declared.Variable t value → Writes d t.now
  of_function : (f : Bor code_fn.FnType) (t : code_type.TypeTree) → d ≡ declared.Function f → IsTypeOf f.now t → Writes d t
  of_exception : (ts : Bor (List code_type.TypeTree)) (t : code_type.TypeTree) → d ≡ declared.Exception ts → Contains ts.now t → Writes d t

-- A type that has this property fails so, by another cause than want of memory.
abbrev pub OneFails : List Entry → (m : ℕ) → (scope : Option ℕ) → (code_type.TypeTree → Type 0) → TypeFault → Type 0
OneFails es m scope among fault.NoMemory = Unit {0}
OneFails es m scope among (fault.Unknown at) = (t : code_type.TypeTree) × among t × Fails es m scope t (fault.Unknown at)
OneFails es m scope among (fault.NotAType at) = (t : code_type.TypeTree) × among t × Fails es m scope t (fault.NotAType at)

-- A refusal of what the declaration of a number writes.
abbrev pub at_number : ℕ → TypeFault → TypesFault
at_number k fault.NoMemory = faults.NoMemory
at_number k (fault.Unknown at) = faults.Unknown k at
at_number k (fault.NotAType at) = faults.NotAType k at

-- The declaration of a number writes a type that fails so.
abbrev pub FailsHeading : List code_entry.Entry → (m : ℕ) → TypesFault → Type 0
FailsHeading all m faults.NoMemory = Unit {0}
FailsHeading all m (faults.Unknown k at) =
    (e : code_entry.Entry) × (slice_get all k ≡ Some e) × OneFails (entries_of all) m e.within (Writes e.row.declared) (fault.Unknown at)
FailsHeading all m (faults.NotAType k at) =
    (e : code_entry.Entry) × (slice_get all k ≡ Some e) × OneFails (entries_of all) m e.within (Writes e.row.declared) (fault.NotAType at)
FailsHeading all m (faults.TypeTooLarge k) = ⊥
