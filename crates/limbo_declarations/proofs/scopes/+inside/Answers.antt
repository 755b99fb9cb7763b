use Rattle.std.proofs.Common.{◌≡◌, ℕ, ◌+◌, List, ◌∷◌, ◌++◌, map, option_map, drop, ap, subst, sym, arith}
use Rattle.std.proofs.lemmas.Result.{err_from_is_err_and, IfErr-weaker}
use Rattle.inf_text.specs.declared.span.Span.{Span}
use Rattle.limbo_tree.specs.Decls.{Member}
use Rattle.limbo_tree.specs.View.{view_member, view_variant, members_of}
use Rattle.limbo_declarations.specs.Names.{AreOnce}
use Rattle.limbo_declarations.specs.Scopes.{member_names, pick_names, MembersAreOnce, AdtIsOnce}
use Rattle.limbo_declarations.specs.declared.scopes.OnceFault.TheVariants.{Twice}
use Rattle.limbo_declarations.proofs.Apart.{drop_more, front_once}
use Rattle.limbo_declarations.proofs.Inside.{adt_inside}
use Rattle.limbo_declarations.proofs.scopes.+inside.Goals as goal

pub adt_once-returns-in_err-pick_once-clause-twice : goal.adt_once-returns-in_err-pick_once-clause-twice
adt_once-returns-in_err-pick_once-clause-twice t c =
    let ms = members_of (map view_member c.args.members.now) in
    let pick = option_map (λ vs. map view_variant vs.items) c.args.pick.now in
    let k : (at : Span) → c.in_err-pick_once.field-0.0 ≡ Twice at → AdtIsOnce ms pick → ⊥ =
    λ at e h. c.in_err-pick_once.ensures.twice at e (front_once (member_names ms) (pick_names pick) h.0) h.1 in
    let p = err_from_is_err_and c.from_residual-in_err-pick_once.result c.from_residual-in_err-pick_once.ensures.1 in
    rw (p.1, p.2) k

pub members_once-returns-in_err-member_once-clause-twice : goal.members_once-returns-in_err-member_once-clause-twice
members_once-returns-in_err-member_once-clause-twice t c =
    let rest = drop (c.loop-m.m-index + 1) c.args.members.now in
    let s : map view_member (drop c.loop-m.m-index c.args.members.now) ≡ view_member c.m-item.result ∷ map view_member rest = drop_more view_member c.loop-m.m-index c.args.members.now c.m-item.result (omega arith) c.m-item.is in
    let k : (at : Span) → c.in_err-member_once.field-0.0 ≡ Twice at → MembersAreOnce (members_of (map view_member c.args.members.now)) → ⊥ =
    λ at e all.
    let f : MembersAreOnce (members_of (view_member c.m-item.result ∷ map view_member rest)) = subst (λ (ms : List Member). MembersAreOnce (members_of ms)) s (c.loop-m.invariant.down all) in
    c.in_err-member_once.ensures.twice at e f.0 in
    let p = err_from_is_err_and c.from_residual.result c.from_residual.ensures.1 in
    rw (p.1, p.2) k

pub members_once-loop-m-preserved : goal.members_once-loop-m-preserved
members_once-loop-m-preserved t c =
    let rest = drop (c.loop-m.m-index + 1) c.args.members.now in
    let s : map view_member (drop c.loop-m.m-index c.args.members.now) ≡ view_member c.m-item.result ∷ map view_member rest = drop_more view_member c.loop-m.m-index c.args.members.now c.m-item.result (omega arith) c.m-item.is in
    record {
      up = λ k. c.loop-m.invariant.up (subst (λ (ms : List Member). MembersAreOnce (members_of ms)) (sym s) (c.in_ok-member_once.ensures.once, k));
      down = λ k. let f : MembersAreOnce (members_of (view_member c.m-item.result ∷ map view_member rest)) = subst (λ (ms : List Member). MembersAreOnce (members_of ms)) s (c.loop-m.invariant.down k) in f.1;
    }

pub member_once-returns-in-Adt-clause-twice : goal.member_once-returns-in-Adt-clause-twice
member_once-returns-in-Adt-clause-twice t c =
    IfErr-weaker c.adt_once.result _ _
    (λ f k at s h. k at s (rw (sym c.deref-in-Adt.ensures.value) at (adt_inside c.args.m.now c.in-Adt.name c.in-Adt.members c.in-Adt.pick c.in-Adt.span c.in-Adt.is h)))
    c.adt_once.ensures.twice
