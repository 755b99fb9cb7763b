use Rattle.std.proofs.Common.{◌≡◌, ℕ, List, ap, subst, ◌∙◌, rules}
use Rattle.limbo_declarations.specs.Names.{names, IsIndex, IsRepeated}
use Rattle.limbo_declarations.proofs.Indexes.{not_once}
use Rattle.limbo_declarations.proofs.names.Names.new.Goals as goal

pub invariant_of-result : goal.invariant_of-result
invariant_of-result c =
    let e : c.deref-2.result.now ≡ names c.args.rows.items = c.deref-2.ensures.value ∙ c.in_ok-texts.ensures ∙ ap names c.deref.ensures.value in
    record { found = subst (λ (ns : List (List ℕ)). IsIndex c.in-Ok.index ns) e c.in-Ok.ensures.index }

pub returns-clause-twice : goal.returns-clause-twice
returns-clause-twice c =
    λ r f.
    let e : c.deref-2.result.now ≡ names c.args.rows.items = c.deref-2.ensures.value ∙ c.in_ok-texts.ensures ∙ ap names c.deref.ensures.value in
    not_once (names c.args.rows.items) c.in-Err-Twice.row (subst (λ (ns : List (List ℕ)). IsRepeated ns c.in-Err-Twice.row) e (search rules))
