use Rattle.std.proofs.Common.{◌≡◌, ℕ, List, [], ◌++◌, map, Some, ap, subst, sym, ◌∙◌, option_map}
use Rattle.std.proofs.lemmas.Result.{IfErr-weaker}
use Rattle.limbo_tree.specs.Decls.{Variant}
use Rattle.limbo_tree.specs.View.{view_member, view_variant, members_of}
use Rattle.limbo_declarations.specs.Names.{IsIndex}
use Rattle.limbo_declarations.specs.Scopes.{member_names, FieldsAreOnce, PickIsOnce}
use Rattle.limbo_declarations.specs.View.{texts_of}
use Rattle.limbo_declarations.proofs.scopes.pick_once.Goals as goal

pub returns-in_ok-index-in-Some-clause-twice : goal.returns-in_ok-index-in-Some-clause-twice
returns-in_ok-index-in-Some-clause-twice c =
    let ns : List (List ℕ) = member_names (members_of (map view_member c.args.members.now)) in
    let e : texts_of c.deref.result.now ≡ ns = ap texts_of c.deref.ensures.value ∙ c.in_ok-push_members-in-Some.ensures ∙ ap (λ all. texts_of all ++ ns) c.new-all.ensures.items in
    let i : IsIndex c.in_ok-index-in-Some.index ns = subst (λ (z : List (List ℕ)). IsIndex c.in_ok-index-in-Some.index z) e c.in_ok-index-in-Some.ensures.index in
    IfErr-weaker c.variants_once.result _ _ (λ f k at s o p. k at ns s i (rw (c.in-Some.is, sym c.deref-in-Some.ensures.value) at p)) c.variants_once.ensures.twice
