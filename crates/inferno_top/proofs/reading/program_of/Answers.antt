use Rattle.std.proofs.Common.{◌≡◌, sym, subst, ◌∙◌, rules}
use Rattle.limbo_typed.specs.View.{view_module}
use Rattle.limbo_typed.specs.declared.module.TypedModule.{TypedModule}
use Rattle.inferno_top.specs.Built.{IsModuleFor}
use Rattle.inferno_top.proofs.Programs.{module_for, beginless}
use Rattle.inferno_top.proofs.reading.program_of.Goals as goal

pub returns-then-lacks_init-clause-refused : goal.returns-then-lacks_init-clause-refused
returns-then-lacks_init-clause-refused c = λ told path tree gives.
    beginless told path tree c.args.aim c.args.checked.now gives (sym c.lacks_init.ensures ∙ c.if-lacks_init.true)

pub returns-then-is_in-clause-found : goal.returns-then-is_in-clause-found
returns-then-is_in-clause-found c = λ told path tree gives.
    let same : c.deref-program.result.now ≡ c.args.checked.now.module.value = search rules in
    subst (λ (z : TypedModule). IsModuleFor c.args.aim told path tree (view_module z)) (sym same)
    (module_for told path tree c.args.aim c.args.checked.now gives (sym c.lacks_init.ensures ∙ c.if-lacks_init.false))

pub returns-else-is_in-clause-refused : goal.returns-else-is_in-clause-refused
returns-else-is_in-clause-refused c = λ told path tree gives.
    let same : c.deref-program.result.now ≡ c.args.checked.now.module.value = search rules in (
      view_module c.deref-program.result.now,
      subst (λ (z : TypedModule). IsModuleFor c.args.aim told path tree (view_module z)) (sym same)
          (module_for told path tree c.args.aim c.args.checked.now gives (sym c.lacks_init.ensures ∙ c.if-lacks_init.false)),
      sym c.is_in.ensures ∙ c.if-is_in.false,
    )
