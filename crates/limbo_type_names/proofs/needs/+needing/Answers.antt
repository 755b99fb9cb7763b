use Rattle.std.proofs.Common.{◌++◌, List, map, take, sym, ap, subst, ◌∙◌, append_assoc, arith}
use Rattle.limbo_tree.specs.View.{view_type, tys_of}
use Rattle.limbo_naming.specs.Qualified.{Qualified}
use Rattle.limbo_unknown.specs.Written.{in_type, in_types}
use Rattle.limbo_unknown.proofs.Plain.{no_names}
use Rattle.limbo_type_names.specs.Working.{AreNeeds}
use Rattle.limbo_type_names.proofs.Needing.{in_types_more, none_more}
use Rattle.limbo_type_names.proofs.needs.+needing.Goals as goal

pub push_needs-returns-in_default : goal.push_needs-returns-in_default
push_needs-returns-in_default t c = λ names are.
    let d = c.in_default in
    none_more c.args.naming.now c.args.scope names (in_type (view_type c.args.of.now)) c.args.row.now.items
    (no_names c.args.of.now d.not-Array d.not-List d.not-Chan d.not-Ref d.not-Named d.not-Tuple) are

pub push_all_needs-loop-of-preserved : goal.push_all_needs-loop-of-preserved
push_all_needs-loop-of-preserved t c = λ names are.
    let ts = c.args.types.now in
    let i = c.loop-of.of-index in
    let xs = in_types (tys_of (map view_type (take i ts))) in
    let x = c.of-item.result in
    let e = in_types_more ts i x (omega arith) c.of-item.is in
    subst (λ (z : List Qualified). AreNeeds c.args.naming.now c.args.scope z c.push_needs.new.row.items)
    (append_assoc names xs (in_type (view_type x)) ∙ ap (λ ys. names ++ ys) (sym e))
    (c.in_ok-push_needs.ensures (names ++ xs) (c.loop-of.invariant names are))
