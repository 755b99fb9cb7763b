use Rattle.std.proofs.Common.{◌≡◌, ℕ, List, None, Some, take}
use Rattle.std.specs.List.{Contains}
use Rattle.limbo_top.specs.declared.tops.Definition as code_definition
use Rattle.limbo_top.specs.View.{view_definition}
use Rattle.limbo_defined.specs.Labels.{label}
use Rattle.limbo_defined.specs.Sets.{get_label}
use Rattle.limbo_defined.proofs.checks.unknown.Given as goal

abbrev pub invariant-loop-d : goal.invariant-loop-d
invariant-loop-d l =
    (d : code_definition.Definition) (f : List ℕ) → Contains (take l.d-index l.definitions) d → (view_definition d).part ≡ Some f
    → get_label l.set (label (view_definition d).name (Some f)) ≡ None → ⊥
