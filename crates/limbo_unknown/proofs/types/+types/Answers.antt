use Rattle.std.proofs.Common.{◌≡◌, ◌+◌, ◌++◌, map, drop, ap, arith}
use Rattle.limbo_tree.specs.View.{view_type, tys_of}
use Rattle.limbo_declarations.proofs.Apart.{drop_more}
use Rattle.limbo_unknown.specs.Written.{in_type, in_types}
use Rattle.limbo_unknown.proofs.Gaps.{told_nothing, on}
use Rattle.limbo_unknown.proofs.Plain.{no_names}
use Rattle.limbo_unknown.proofs.types.+types.Goals as goal

pub missing_in_type-returns-in_default : goal.missing_in_type-returns-in_default
missing_in_type-returns-in_default t c =
    let d = c.in_default in
    told_nothing c.args.naming.now c.args.scope (in_type (view_type c.args.of.now))
    (no_names c.args.of.now d.not-Array d.not-List d.not-Chan d.not-Ref d.not-Named d.not-Tuple)

pub missing_in_types-loop-of-preserved : goal.missing_in_types-loop-of-preserved
missing_in_types-loop-of-preserved t c =
    let k = c.loop-of.of-index in
    let ts = c.args.types.now in
    let xs = in_type (view_type c.of-item.result) in
    let more = in_types (tys_of (map view_type (drop (k + 1) ts))) in
    let apart : in_types (tys_of (map view_type (drop k ts))) ≡ xs ++ more =
    ap (λ ys. in_types (tys_of ys)) (drop_more view_type k ts c.of-item.result (omega arith) c.of-item.is) in
    on c.args.naming.now c.args.scope (in_types (tys_of (map view_type ts))) _ xs more apart c.in_default.ensures c.loop-of.invariant
