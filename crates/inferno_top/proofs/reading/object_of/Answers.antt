use Rattle.std.proofs.Common.{Err, ap, subst, sym, ◌∙◌}
use Rattle.limbo_typed.specs.View.{view_module}
use Rattle.limbo_typed.specs.declared.module.TypedModule.{TypedModule}
use Rattle.limbo_compiler.specs.declared.passes.CompileFault.{CompileFault}
use Rattle.inferno_top.specs.Built.{IsModuleFor}
use Rattle.inferno_top.specs.declared.reading.ReadFault.{ReadFault}
use Rattle.inferno_top.specs.Reading.{IsTreeReadFault}
use Rattle.inferno_top.proofs.Programs.{made_of, part_of, uncompiled_is}
use Rattle.inferno_top.proofs.reading.object_of.Goals as goal

pub compile-requires : goal.compile-requires
compile-requires c = record { part = part_of c.args.aim (view_module c.in-Ok.program.now) c.in-Ok.ensures.part }

pub returns-in-Ok-compile-clause-found : goal.returns-in-Ok-compile-clause-found
returns-in-Ok-compile-clause-found c = λ told path tree gives.
    subst (λ (z : TypedModule). IsModuleFor c.args.aim told path tree (view_module z)) c.in-Ok.ensures.same
    (c.in-Ok.ensures.found told path tree gives)

pub returns-in-Ok-compile-clause-made : goal.returns-in-Ok-compile-clause-made
returns-in-Ok-compile-clause-made c =
    let made = c.in-Ok-compile.ensures {u = tt} in
    made_of c.args.aim c.in-Ok.program.now c.args.checked.now.module.value c.in-Ok-compile.object c.in-Ok.ensures.same c.in-Ok.ensures.part
    made.within made.object made.spelled made.valid

pub returns-in-Err-compile-clause-refused : goal.returns-in-Err-compile-clause-refused
returns-in-Err-compile-clause-refused c = λ told path tree gives.
    subst (λ (f : ReadFault). IsTreeReadFault c.args.aim told path tree f) (sym c.uncompiled.ensures)
    (uncompiled_is told path tree c.args.aim (view_module c.in-Ok.program.now) (c.in-Ok.ensures.found told path tree gives)
    c.in-Ok.ensures.part c.in-Err-compile.fault
    (λ e. c.compile.ensures.frames (c.in-Err-compile.is ∙ ap (λ (f : CompileFault). Err f) e))
    (λ e. c.compile.ensures.code (c.in-Err-compile.is ∙ ap (λ (f : CompileFault). Err f) e)))
