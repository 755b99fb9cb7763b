use Rattle.std.proofs.Common.{rules, ◌<◌, ◌++◌, ℕ, length, map, take, sym, subst}
use Rattle.std.proofs.lemmas.List.{length-map}
use Rattle.limbo_tree.specs.View.{view_type, name_of}
use Rattle.limbo_types.specs.View.{view_ty}
use Rattle.limbo_context.specs.View.{view_context, view_body}
use Rattle.limbo_members.specs.Written.{of_each}
use Rattle.limbo_members.proofs.Permitted.{of_each_more, each_fails}
use Rattle.limbo_members.proofs.headers.push_each.Goals as goal

pub returns-in-Err-clause-refused : goal.returns-in-Err-clause-refused
returns-in-Err-clause-refused c =
    let b : c.loop-name._name-index < length c.args.names.now = search rules in
    let l : c.loop-name._name-index < length (map name_of c.args.names.now) =
    subst (λ (n : ℕ). c.loop-name._name-index < n) (sym (length-map c.args.names.now name_of)) b in
    each_fails (view_context c.args.context.now) (view_body c.args.body.now) (map name_of c.args.names.now) (view_type c.args.of.now)
    c.loop-name._name-index c.in-Err.fault.cause l c.in-Err.ensures.refused

pub loop-name-preserved : goal.loop-name-preserved
loop-name-preserved c = λ ts h.
    let b : c.loop-name._name-index < length c.args.names.now = search rules in
    let l : c.loop-name._name-index < length (map name_of c.args.names.now) =
    subst (λ (n : ℕ). c.loop-name._name-index < n) (sym (length-map c.args.names.now name_of)) b in
    of_each_more (view_context c.args.context.now) (view_body c.args.body.now) (map name_of c.args.names.now) (view_type c.args.of.now) ts
    (map view_ty c.push_type.new.types.items) c.loop-name._name-index l
    (c.in-Ok.ensures.pushed (ts ++ of_each (take c.loop-name._name-index (map name_of c.args.names.now)) (view_type c.args.of.now))
    (c.loop-name.invariant ts h))
