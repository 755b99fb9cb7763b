use Rattle.std.proofs.Common.{◌≡◌, codes, map, take}
use Rattle.std.specs.List.{Contains}
use Rattle.limbo_typed.specs.Typed.{Declared}
use Rattle.limbo_typed.specs.View.{view_declared}
use Rattle.limbo_modules.specs.First.{first_init}
use Rattle.limbo_modules.proofs.first.has_init.Given as goal

abbrev pub invariant-loop-function : goal.invariant-loop-function
invariant-loop-function l =
    (d : Declared) → Contains (map view_declared (take l.function-index l.declared)) d → d.name ≡ codes "init"
    → d.of ≡ first_init l.adt → ⊥
