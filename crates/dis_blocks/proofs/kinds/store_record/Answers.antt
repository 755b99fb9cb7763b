use Rattle.std.proofs.Common.{ap, ◌∙◌}
use Rattle.ref_heap.specs.declared.kind.Kind.TheVariants as kind
use Rattle.ref_heap.specs.Words.{cells, naming}
use Rattle.dis_memory.specs.Blocks as blocks
use Rattle.dis_memory.specs.Naming.{names}
use Rattle.dis_places.specs.Blocks.{block_by}
use Rattle.dis_places.specs.View.{view_process, view_spot, view_world}
use Rattle.dis_blocks.specs.Making.{made}
use Rattle.dis_blocks.proofs.Bare.{as_cells, blank_named, bare_held, bare_stores, stores_same}
use Rattle.dis_blocks.proofs.kinds.store_record.Goals as goal

pub store_new-requires-clause-held : goal.store_new-requires-clause-held
store_new-requires-clause-held c =
    bare_held c.args.memory.now.heap (names (view_process c.args.process.now)) (naming (cells c.wide.result)) c.requires.held
    (λ n. ap (λ w. naming (cells w) n) c.wide.ensures ∙ blank_named c.args.desc.now c.in-Ok.words.items (c.in-Ok.ensures {u = tt}) n)

pub returns-in-Ok-clause-stores : goal.returns-in-Ok-clause-stores
returns-in-Ok-clause-stores c =
    let m = c.args.memory.now in
    let p = c.args.process.now in
    stores_same m _ p _ c.store_new.result _ _
    (ap (λ w. made (view_world m) (view_process p) (view_spot c.args.spot) (block_by m.tables kind.Record w)) c.wide.ensures
    ∙ ap (λ ws. made (view_world m) (view_process p) (view_spot c.args.spot) (blocks.Record ws)) (as_cells c.in-Ok.words.items ∙ c.in-Ok.ensures {u = tt}))
    (bare_stores m _ p _ (naming (cells c.wide.result)) c.store_new.result _
    (λ n. ap (λ w. naming (cells w) n) c.wide.ensures ∙ blank_named c.args.desc.now c.in-Ok.words.items (c.in-Ok.ensures {u = tt}) n) c.store_new.ensures.makes)
