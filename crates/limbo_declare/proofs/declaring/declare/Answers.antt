use Rattle.limbo_entries.specs.View.{entries_of}
use Rattle.limbo_top.specs.View.{placed}
use Rattle.limbo_declare.proofs.Together.{no_module, fails_table, declares}
use Rattle.limbo_declare.proofs.declaring.declare.Goals as goal

pub returns-in-Err-check_scopes-clause-fails : goal.returns-in-Err-check_scopes-clause-fails
returns-in-Err-check_scopes-clause-fails c = c.in-Err-check_scopes.ensures.fails c.args.implements.now

pub returns-in-None-clause-fails : goal.returns-in-None-clause-fails
returns-in-None-clause-fails c =
    no_module c.args.implements.now (placed c.args.tops.now) c.in-Ok.top c.in-Ok.ensures.parts (entries_of c.in-Ok-make_table.table.entries.items)
    c.in-Ok-make_table.ensures.table c.in-None.ensures.absent

pub returns-in-Ok-find_meanings-clause-declares : goal.returns-in-Ok-find_meanings-clause-declares
returns-in-Ok-find_meanings-clause-declares c =
    declares c.args.implements.now (placed c.args.tops.now) c.in-Ok.top c.in-Ok.ensures.parts (entries_of c.in-Ok-make_table.table.entries.items)
    c.in-Ok-make_table.ensures.table c.in-Some.number c.in-Ok-make_table.ensures.once c.in-Some.ensures.found c.in-Ok.ensures.top_level c.in_default.ensures.once
    c.in_default-check_defined.ensures.defined c.in_default-check_defined.ensures.known c.in_default-check_defined.ensures.once
    c.in-Ok-find_meanings.ensures.known c.in-Ok-find_meanings.ensures.values.all c.in-Ok-find_meanings.ensures.initial

pub returns-clause-fails : goal.returns-clause-fails
returns-clause-fails c =
    fails_table c.args.implements.now (placed c.args.tops.now) c.in-Ok.top c.in-Ok.ensures.parts (entries_of c.in-Ok-make_table.table.entries.items)
    c.in-Ok-make_table.ensures.table c.in-Some.number c.in-Ok-make_table.ensures.once c.in-Some.ensures.found c.in-Err-find_meanings.fault
    c.in-Err-find_meanings.ensures.fails
