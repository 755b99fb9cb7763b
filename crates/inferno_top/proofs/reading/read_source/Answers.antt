use Rattle.std.proofs.Common.{◌≡◌, subst, rules}
use Rattle.declared_signs.specs.Declared.{AreToldApart}
use Rattle.limbo_typed.specs.declared.module.TypedModule.{TypedModule}
use Rattle.inferno_top.specs.Outcome.{IsClashOf}
use Rattle.inf_ports.specs.Outside.{Told}
use Rattle.limbo_tree.specs.View.{view_source}
use Rattle.limbo_typed.specs.View.{view_module}
use Rattle.source_modules.specs.Given.{Gives}
use Rattle.inferno_top.specs.Built.{IsCompilable}
use Rattle.inferno_top.specs.Reading.{IsUnchecked}
use Rattle.inferno_top.proofs.Causes.{clash_unread, tree_unread, unchecked_unread}
use Rattle.inferno_top.proofs.reading.read_source.Goals as goal

pub returns-in-Err-clause-unread : goal.returns-in-Err-clause-unread
returns-in-Err-clause-unread g c = c.in-Err.ensures.unread c.args.aim

pub returns-in-Err-check_tree-clause-unread : goal.returns-in-Err-check_tree-clause-unread
returns-in-Err-check_tree-clause-unread g c =
    let told = g.H.HostTree.told c.args.files.now in
    let path = c.args.path.now in
    let tree = view_source c.in-Ok.tree in
    let at = c.in-Ok.ensures.tree in
    let before = g.H.HostTree.faults c.args.files.now in
    let middle = g.H.HostTree.faults c.read_first.new.files in
    let now = g.H.HostTree.faults c.check_tree.new.files in
    unchecked_unread c.args.aim told path at.source tree before middle now c.in-Err-check_tree.cause c.read_first.ensures.later at.stands at.has
    (subst (λ (z : Told). IsUnchecked z path tree middle now c.in-Err-check_tree.cause) c.read_first.ensures.kept c.in-Err-check_tree.ensures.unchecked)

pub returns-in-Err-object_of-clause-unread : goal.returns-in-Err-object_of-clause-unread
returns-in-Err-object_of-clause-unread g c =
    let told = g.H.HostTree.told c.args.files.now in
    let path = c.args.path.now in
    let tree = view_source c.in-Ok.tree in
    let at = c.in-Ok.ensures.tree in
    let gives = subst (λ (z : Told). Gives z path tree c.in-Ok-check_tree.checked) c.read_first.ensures.kept c.in-Ok-check_tree.ensures.checked in
    tree_unread c.args.aim told path at.source tree (g.H.HostTree.faults c.args.files.now) (g.H.HostTree.faults c.check_tree.new.files)
    c.in-Err-object_of.fault c.faulted.result at.stands at.has (c.in-Err-object_of.ensures.refused told path tree gives) c.faulted.ensures

pub returns-in-Ok-tell_apart-clause-read : goal.returns-in-Ok-tell_apart-clause-read
returns-in-Ok-tell_apart-clause-read g c =
    let told = g.H.HostTree.told c.args.files.now in
    let path = c.args.path.now in
    let tree = view_source c.in-Ok.tree in
    let at = c.in-Ok.ensures.tree in
    let gives = subst (λ (z : Told). Gives z path tree c.in-Ok-check_tree.checked) c.read_first.ensures.kept c.in-Ok-check_tree.ensures.checked in
    let m = view_module c.in-Ok-check_tree.checked.module.value in
    let same : c.deref-program.result.now ≡ c.in-Ok-check_tree.checked.module.value = search rules in
    let apart : AreToldApart m =
    subst (λ (z : TypedModule). AreToldApart (view_module z)) same c.in-Ok-tell_apart.ensures.apart in
    let made = c.in-Ok-object_of.ensures.made in
    let is : IsCompilable c.args.aim told path at.source m =
    record { is = record { tree = tree; has = at.has; sort = c.in-Ok-object_of.ensures.found told path tree gives }; has = made.has } in (
      m,
      record { source = at.source; stands = at.stands; built = record { compilable = is; apart = apart } },
      made,
    )

pub returns-clause-unread : goal.returns-clause-unread
returns-clause-unread g c =
    let told = g.H.HostTree.told c.args.files.now in
    let path = c.args.path.now in
    let tree = view_source c.in-Ok.tree in
    let at = c.in-Ok.ensures.tree in
    let gives = subst (λ (z : Told). Gives z path tree c.in-Ok-check_tree.checked) c.read_first.ensures.kept c.in-Ok-check_tree.ensures.checked in
    let m = view_module c.in-Ok-check_tree.checked.module.value in
    let same : c.deref-program.result.now ≡ c.in-Ok-check_tree.checked.module.value = search rules in
    let clash : IsClashOf m c.in-Err-tell_apart.cause =
    subst (λ (z : TypedModule). IsClashOf (view_module z) c.in-Err-tell_apart.cause) same c.in-Err-tell_apart.ensures.clash in
    let made = c.in-Ok-object_of.ensures.made in
    let is : IsCompilable c.args.aim told path at.source m =
    record { is = record { tree = tree; has = at.has; sort = c.in-Ok-object_of.ensures.found told path tree gives }; has = made.has } in
    clash_unread c.args.aim told path at.source (g.H.HostTree.faults c.args.files.now) (g.H.HostTree.faults c.check_tree.new.files) m
    c.in-Err-tell_apart.cause at.stands is clash
