use Rattle.limbo_adts.specs.Table.{defs_of}
use Rattle.limbo_typed.specs.View.{view_node}
use Rattle.limbo_stores.proofs.Nodes.{stores_nothing}
use Rattle.limbo_stores.proofs.Told.{nothing_stored}
use Rattle.limbo_stores.proofs.Stored.{assign_at, update_at, step_at, copy_at, send_at}
use Rattle.limbo_stores.proofs.storing.store.Goals as goal

pub returns-in-Assign : goal.returns-in-Assign
returns-in-Assign c =
    assign_at (defs_of c.args.adts.now) c.args.fd c.args.node.now c.in-Assign.pattern c.in-Assign.value c.deref.result.now
    c.pattern_store.result c.in-Assign.is c.deref.ensures c.pattern_store.ensures

pub returns-in-Update : goal.returns-in-Update
returns-in-Update c =
    update_at (defs_of c.args.adts.now) c.args.fd c.args.node.now c.in-Update.operation c.in-Update.place c.in-Update.value
    c.deref-in-Update.result.now c.place_store.result c.in-Update.is c.deref-in-Update.ensures c.place_store.ensures

pub returns-in-Step : goal.returns-in-Step
returns-in-Step c =
    step_at (defs_of c.args.adts.now) c.args.fd c.args.node.now c.in-Step.operation c.in-Step.given c.in-Step.place
    c.deref-in-Step.result.now c.place_store-in-Step.result c.in-Step.is c.deref-in-Step.ensures c.place_store-in-Step.ensures

pub returns-in-Copy : goal.returns-in-Copy
returns-in-Copy c =
    copy_at (defs_of c.args.adts.now) c.args.fd c.args.node.now c.in-Copy.array c.in-Copy.from c.in-Copy.value c.deref-in-Copy.result.now
    c.copy_closes.result c.closing.result c.in-Copy.is c.deref-in-Copy.ensures c.copy_closes.ensures c.closing.ensures

pub returns-in-Send : goal.returns-in-Send
returns-in-Send c =
    send_at (defs_of c.args.adts.now) c.args.fd c.args.node.now c.in-Send.channel c.in-Send.value c.deref-in-Send.result.now
    c.send_closes.result c.closing-in-Send.result c.in-Send.is c.deref-in-Send.ensures c.send_closes.ensures c.closing-in-Send.ensures

pub returns-in_default : goal.returns-in_default
returns-in_default c =
    nothing_stored (defs_of c.args.adts.now) c.args.fd (view_node c.args.node.now)
    (stores_nothing c.args.node.now c.in_default.not-Assign c.in_default.not-Update c.in_default.not-Step c.in_default.not-Copy
    c.in_default.not-Send)
