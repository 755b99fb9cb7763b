use Rattle.std.proofs.Common.{refl}
use Rattle.limbo_context.specs.View.{view_context}
use Rattle.limbo_locals.proofs.Imported.{imported_on, lacks_member}
use Rattle.limbo_locals.proofs.imports.import_all.Goals as goal

pub returns-in-None-clause-refused : goal.returns-in-None-clause-refused
returns-in-None-clause-refused c = (
  refl,
  lacks_member (view_context c.args.context.now) c.args.source.interface c.args.names.now c.loop-name.name-index c.name-item.result
      c.name-item.is c.loop-name-test.true c.in-None.ensures.lacking,
)

pub loop-name-preserved : goal.loop-name-preserved
loop-name-preserved c =
    imported_on (view_context c.args.context.now) c.args.source.origin c.args.source.interface c.args.names.now c.loop-name.name-index
    c.name-item.result c.in-Some.x c.loop-name.imported.items c.push.new.self.items c.in_ok-push-in-Some.ensures.items c.name-item.is
    c.loop-name-test.true c.in-Some.ensures.imported c.loop-name.invariant
