use Rattle.std.proofs.Common.{◌++◌, ap, ◌∙◌}
use Rattle.limbo_lower.specs.Written.{written}
use Rattle.limbo_lower.proofs.Looping.{written_all}
use Rattle.limbo_lower.proofs.statements.put_all.Goals as goal

pub returns : goal.returns
returns c =
    ap written (c.in_ok-append.ensures {u = tt}).items ∙ ap (λ xs. written (c.args.code.now.items ++ xs)) c.reverse.ensures.items
    ∙ written_all c.args.code.now.items c.args.front.items
