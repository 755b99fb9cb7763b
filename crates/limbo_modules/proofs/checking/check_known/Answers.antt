use Rattle.std.proofs.Common.{map, refl, sym, ap, ◌∙◌}
use Rattle.std.proofs.lemmas.List.{length-map}
use Rattle.limbo_entries.specs.View.{entries_of}
use Rattle.limbo_top.specs.View.{placed}
use Rattle.limbo_context.specs.View.{view_callee}
use Rattle.limbo_functions.specs.View.{definition_of, definitions_of}
use Rattle.limbo_modules.specs.Found.{view_found}
use Rattle.limbo_modules.proofs.Assembling.{undefined_fails, one_each, is_module, function_fails}
use Rattle.limbo_modules.proofs.checking.check_known.Goals as goal

pub returns-in-Err-Undefined-clause-fails : goal.returns-in-Err-Undefined-clause-fails
returns-in-Err-Undefined-clause-fails c =
    let n = c.in-Err-Undefined.number in
    let bad = c.in-Err-Undefined.ensures.undefined n c.in-Err-Undefined.field-0-is in
    undefined_fails (entries_of c.args.declarations.now.table.entries.items) c.args.declarations.now.implemented c.args.name.now
    (placed c.args.tops.now) c.args.known c.requires.known c.len.result n c.undefined.result
    (c.len.ensures ∙ c.args.known.context.functions.ok.0) bad.0 bad.1 c.undefined.ensures

pub check_defined-requires : goal.check_defined-requires
check_defined-requires c =
    let p = c.in-Ok-prepare.prepared in
    record {
      one_each = sym (length-map p.callees.items view_callee) ∙
          one_each (entries_of c.args.declarations.now.table.entries.items) c.args.declarations.now.implemented c.args.name.now
          (placed c.args.tops.now) c.args.known c.requires.known c.len.result c.in-Ok.found.items
          (c.len.ensures ∙ c.args.known.context.functions.ok.0) c.in-Ok.ensures.definitions p.name (map view_callee p.callees.items)
          (definitions_of p.definitions.items) c.in-Ok-prepare.ensures.name c.in-Ok-prepare.ensures.callees
          (c.in-Ok-prepare.ensures.definitions ∙ ap view_found c.deref-in-Ok.ensures.value) ∙
          length-map p.definitions.items (λ f. definition_of f.now);
    }

pub returns-clause-module : goal.returns-clause-module
returns-clause-module c =
    let p = c.in-Ok-prepare.prepared in
    is_module (entries_of c.args.declarations.now.table.entries.items) c.args.declarations.now.implemented c.args.name.now
    (placed c.args.tops.now) c.args.known c.requires.known c.len.result c.in-Ok.found.items
    (c.len.ensures ∙ c.args.known.context.functions.ok.0) c.in-Ok.ensures.definitions p.name (map view_callee p.callees.items)
    (definitions_of p.definitions.items) c.in-Ok-prepare.ensures.name c.in-Ok-prepare.ensures.callees
    (c.in-Ok-prepare.ensures.definitions ∙ ap view_found c.deref-in-Ok.ensures.value) p.declared c.in-Ok-prepare.ensures.declared
    c.check_defined.result c.check_defined.ensures.name c.check_defined.ensures.initials c.check_defined.ensures.declared
    c.check_defined.ensures.functions

pub returns-clause-fails : goal.returns-clause-fails
returns-clause-fails c =
    let p = c.in-Ok-prepare.prepared in
    function_fails (entries_of c.args.declarations.now.table.entries.items) c.args.declarations.now.implemented c.args.name.now
    (placed c.args.tops.now) c.args.known c.requires.known c.len.result c.in-Ok.found.items
    (c.len.ensures ∙ c.args.known.context.functions.ok.0) c.in-Ok.ensures.definitions p.name (map view_callee p.callees.items)
    (definitions_of p.definitions.items) c.in-Ok-prepare.ensures.name c.in-Ok-prepare.ensures.callees
    (c.in-Ok-prepare.ensures.definitions ∙ ap view_found c.deref-in-Ok.ensures.value) c.check_defined.result
    c.check_defined.ensures.refused
