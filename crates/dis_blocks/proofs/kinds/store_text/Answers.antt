use Rattle.std.proofs.Common.{ap, ◌∙◌}
use Rattle.ref_heap.specs.declared.kind.Kind.TheVariants as kind
use Rattle.ref_heap.specs.Words.{cells, naming}
use Rattle.ref_heap.proofs.Naming.{plain_names}
use Rattle.dis_memory.specs.Naming.{names}
use Rattle.dis_places.specs.Blocks.{block_by}
use Rattle.dis_places.specs.View.{view_process, view_spot, view_world}
use Rattle.dis_blocks.specs.Making.{made}
use Rattle.dis_blocks.proofs.Bare.{bare_held, bare_stores, stores_same}
use Rattle.dis_blocks.proofs.kinds.store_text.Goals as goal

pub store_new-requires-clause-held : goal.store_new-requires-clause-held
store_new-requires-clause-held c =
    bare_held c.args.memory.now.heap (names (view_process c.args.process.now)) (naming (cells c.compact.result)) c.requires.held
    (λ n. ap (λ w. naming (cells w) n) c.compact.ensures ∙ plain_names c.args.chars.items n)

pub returns-clause-stores : goal.returns-clause-stores
returns-clause-stores c =
    let m = c.args.memory.now in
    let p = c.args.process.now in
    stores_same m _ p _ c.store_new.result _ _
    (ap (λ w. made (view_world m) (view_process p) (view_spot c.args.spot) (block_by m.tables kind.Text w)) c.compact.ensures)
    (bare_stores m _ p _ (naming (cells c.compact.result)) c.store_new.result _
    (λ n. ap (λ w. naming (cells w) n) c.compact.ensures ∙ plain_names c.args.chars.items n) c.store_new.ensures.makes)
