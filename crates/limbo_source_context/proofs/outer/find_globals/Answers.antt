use Rattle.std.proofs.Common.{List, Option, subst}
use Rattle.limbo_constants.specs.declared.constant.Constant as source
use Rattle.limbo_entries.specs.View.{entries_of}
use Rattle.limbo_outline.specs.Outline as outline
use Rattle.limbo_outline.specs.Outline.{AreInitial}
use Rattle.limbo_source_context.proofs.Knowing.{initial_told}
use Rattle.limbo_source_context.proofs.Refusing.{no_type}
use Rattle.limbo_source_context.proofs.outer.find_globals.Goals as goal

pub list_globals-requires-clause-initial : goal.list_globals-requires-clause-initial
list_globals-requires-clause-initial c =
    let es = entries_of c.args.table.now.entries.items in
    rw c.deref-2.ensures.value (initial_told es c.args.implemented c.args.known.now.initials.items c.requires.known.initials)

pub returns-in-Err-NoType-clause-fails : goal.returns-in-Err-NoType-clause-fails
returns-in-Err-NoType-clause-fails c =
    let es = entries_of c.args.table.now.entries.items in
    let k = c.in-Err-NoType.number in
    no_type c.requires.table.0 es c.args.implemented c.args.known.now.initials.items k c.requires.table.1 c.requires.known.initials
    (subst (λ (z : List (Option source.Constant)). outline.HasNoType es z k) c.deref-2.ensures.value (c.in-Err-NoType.ensures.no_type k
    c.in-Err-NoType.field-0-is))
