use Rattle.std.proofs.Common.{sym, ◌∙◌}
use Rattle.limbo_lexer.proofs.Fronts.{behind}
use Rattle.limbo_lexer.proofs.Parts.{plain_begins}
use Rattle.limbo_lexer.proofs.constants.part_at.Goals as goal

pub returns-then-first-ne92-clause-found : goal.returns-then-first-ne92-clause-found
returns-then-first-ne92-clause-found c =
    let s = c.args.text.now in
    rw behind (plain_begins c.args.quote s c.index-text-0.result (sym c.ends_line.ensures ∙ c.if-ends_line.false) c.index-text-0.is c.if-first-quote.false c.if-first-ne92.true)
