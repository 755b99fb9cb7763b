use Rattle.std.proofs.Common.{◌≡◌, ◌++◌, drop, map}
use Rattle.dis_objects.specs.Objects.{import}
use Rattle.dis_objects.proofs.links.make_imports.Given as goal

-- The entries so far and those of the functions that are left are the whole.
abbrev pub invariant-loop-sign : goal.invariant-loop-sign
invariant-loop-sign l =
    l.table.items ++ map (λ row. import row.0 row.1.now) (drop l.sign-index l.functions)
    ≡ map (λ row. import row.0 row.1.now) l.functions
