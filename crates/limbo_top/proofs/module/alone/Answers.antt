use Rattle.std.proofs.Common.{◌≡◌, ◌+◌, List, [], ◌∷◌, ◌++◌, map, drop, ap, subst, sym, ◌∙◌, append_assoc, arith, rules}
use Rattle.limbo_declarations.specs.Rows.{Row}
use Rattle.limbo_declarations.specs.View.{rows_of}
use Rattle.limbo_declarations.proofs.Apart.{drop_more}
use Rattle.limbo_top.specs.Tops.{Definition, Alone, none_left}
use Rattle.limbo_top.specs.View.{view_definition, definitions_of}
use Rattle.std.proofs.lemmas.List.{append-nil}
use Rattle.limbo_top.proofs.Ends.{drop_all}
use Rattle.limbo_top.proofs.module.alone.Goals as goal

pub loop-d-preserved : goal.loop-d-preserved
loop-d-preserved c =
    λ rest h.
    let members = rows_of c.args.members.now.rows.items in
    let behind = definitions_of (drop (c.loop-d.d-index + 1) c.args.definitions.now) in
    let s : definitions_of (drop c.loop-d.d-index c.args.definitions.now) ≡ view_definition c.d-item.result ∷ behind = drop_more view_definition c.loop-d.d-index c.args.definitions.now c.d-item.result (omega arith) c.d-item.is in
    let p = c.in_ok-push_alone.ensures behind rest h in
    let k : Alone members (definitions_of (drop c.loop-d.d-index c.args.definitions.now)) (p.0 ++ rest) = subst (λ (ds : List Definition). Alone members ds (p.0 ++ rest)) (sym s) p.2 in
    let e : rows_of c.loop-d.rows.items ++ (p.0 ++ rest) ≡ rows_of c.push_alone.new.rows.items ++ rest = sym (append_assoc (rows_of c.loop-d.rows.items) p.0 rest) ∙ ap (λ (rs : List Row). rs ++ rest) (sym p.1) in
    subst (λ (rs : List Row). Alone members (definitions_of c.args.definitions.now) rs) e (c.loop-d.invariant (p.0 ++ rest) k)

pub returns : goal.returns
returns c =
    let members = rows_of c.args.members.now.rows.items in
    let e : drop c.loop-d.d-index c.args.definitions.now ≡ [] = drop_all c.loop-d.d-index c.args.definitions.now (omega arith) in
    let k : Alone members (definitions_of (drop c.loop-d.d-index c.args.definitions.now)) [] = rw e none_left in
    subst (λ (rs : List Row). Alone members (definitions_of c.args.definitions.now) rs) (append-nil (rows_of c.loop-d.rows.items)) (c.loop-d.invariant [] k)
