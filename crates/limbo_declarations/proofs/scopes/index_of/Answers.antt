use Rattle.std.proofs.Common.{◌≡◌, ℕ, List, subst, ◌∙◌, rules}
use Rattle.limbo_declarations.specs.Names.{IsRepeated}
use Rattle.limbo_declarations.specs.View.{texts_of}
use Rattle.limbo_declarations.proofs.Indexes.{not_once}
use Rattle.limbo_declarations.proofs.scopes.index_of.Goals as goal

pub returns-clause-twice : goal.returns-clause-twice
returns-clause-twice c =
    λ at e.
    let f : c.deref.result.now ≡ texts_of c.args.all.now = c.deref.ensures.value ∙ c.in_ok-texts.ensures in
    not_once (texts_of c.args.all.now) c.in-Err-Twice.row (subst (λ (ns : List (List ℕ)). IsRepeated ns c.in-Err-Twice.row) f (search rules))
