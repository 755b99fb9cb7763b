use Rattle.std.proofs.Common.{[], sym, ap, ◌∙◌, Option}
use Rattle.std.specs.Prelude.{unwrap_or, Ok}
use Rattle.dis_file.specs.declared.types.TypeDesc.{TypeDesc}
use Rattle.ref_heap.specs.declared.kind.Kind.TheVariants as kind
use Rattle.ref_heap.specs.Words.{cells, naming}
use Rattle.ref_heap.proofs.Naming.{plain_names}
use Rattle.dis_memory.specs.Blocks as blocks
use Rattle.dis_memory.specs.Naming.{names}
use Rattle.dis_memory.specs.Strings.{byte_type}
use Rattle.dis_places.specs.Blocks.{block_by}
use Rattle.dis_places.specs.View.{view_process, view_spot, view_world}
use Rattle.dis_blocks.specs.Making.{made}
use Rattle.dis_blocks.proofs.Bare.{bare_held, bare_stores, stores_same}
use Rattle.dis_results.proofs.Onward.{halts_same}
use Rattle.dis_strings.proofs.Made.{makes_none, makes_on}
use Rattle.dis_text_numbers.specs.Packed.{words_of}
use Rattle.dis_text_numbers.proofs.arrays.finish_bytes.Goals as goal

pub store_new-requires-clause-held : goal.store_new-requires-clause-held
store_new-requires-clause-held c =
    bare_held c.args.memory.now.heap (names (view_process c.args.process.now)) (naming (cells c.compact.result)) c.requires.held
    (λ n. ap (λ w. naming (cells w) n) c.compact.ensures ∙ plain_names c.args.packed.items n)

pub returns-in-Ok-clause-goes : goal.returns-in-Ok-clause-goes
returns-in-Ok-clause-goes c =
    let m = c.args.memory.now in
    let p = c.args.process.now in
    let x = view_world m in
    let q = view_process p in
    let s = view_spot c.args.spot in
    let b = blocks.Array byte_type c.args.long (words_of c.args.packed.items) in
    makes_on x q s b m c.store_new.new.memory p c.store_new.new.process c.advance.new.process
    (stores_same m c.store_new.new.memory p c.store_new.new.process (Ok tt) _ _
    (ap (λ w. made x q s (block_by m.tables (kind.Array 0 c.args.long) w)) c.compact.ensures
    ∙ ap (λ (o : Option TypeDesc). made x q s (blocks.Array (unwrap_or o (record { size = 0; map = [] })) c.args.long (words_of c.args.packed.items))) c.requires.first.byte)
    (bare_stores m c.store_new.new.memory p c.store_new.new.process (naming (cells c.compact.result)) (Ok tt) _
    (λ n. ap (λ w. naming (cells w) n) c.compact.ensures ∙ plain_names c.args.packed.items n) c.in-Ok.ensures.makes))
    c.advance.ensures

pub returns-in-Err-clause-goes : goal.returns-in-Err-clause-goes
returns-in-Err-clause-goes c =
    let m = c.args.memory.now in
    let p = c.args.process.now in
    let x = view_world m in
    let q = view_process p in
    let s = view_spot c.args.spot in
    let b = blocks.Array byte_type c.args.long (words_of c.args.packed.items) in
    makes_none x q s b c.in-Err.halt
    (halts_same c.in-Err.halt _ _
    (sym (ap (λ w. made x q s (block_by m.tables (kind.Array 0 c.args.long) w)) c.compact.ensures
    ∙ ap (λ (o : Option TypeDesc). made x q s (blocks.Array (unwrap_or o (record { size = 0; map = [] })) c.args.long (words_of c.args.packed.items))) c.requires.first.byte))
    (c.in-Err.ensures {u = tt}).makes)
