use Rattle.std.proofs.Common.{ℕ, map, ap, sym, ◌∙◌}
use Rattle.std.specs.Prelude.{Ok}
use Rattle.ref_heap.specs.Words.{cell_of, cells, naming, wide}
use Rattle.dis_meaning.specs.Words.{Found, ◌>>=◌}
use Rattle.dis_memory.specs.Blocks.{Sys}
use Rattle.dis_memory.specs.Results.{gives_block_at}
use Rattle.dis_places.specs.Blocks.{names_by}
use Rattle.dis_places.specs.View.{view_process, view_spot, view_world}
use Rattle.dis_results.proofs.Onward.{goes_on, goes_same, halts_next, halts_same}
use Rattle.dis_blocks.proofs.Bare.{bare_stores, stores_same}
use Rattle.dis_prints.proofs.Chains.{block_stored, block_given, block_made}
use Rattle.dis_prints.proofs.modules.give_sys.Goals as goal

pub returns-in-Ok-store_new-clause-goes : goal.returns-in-Ok-store_new-clause-goes
returns-in-Ok-store_new-clause-goes c =
    let m = c.args.memory.now in
    let x = view_world m in
    let p = c.args.process.now in
    let P = view_process p in
    let s = view_spot c.in-Ok.spot in
    let b = Sys (names_by m.tables c.args.names) in
    let bare = λ (n : ℕ). ap (λ w. naming (cells w) n) (c.wide.ensures ∙ ap (λ ws. wide (map cell_of ws)) c.new.ensures.items) in
    goes_same m c.store_new.new.memory p c.advance.new.process (Ok tt) _ _
    (ap (λ a. a >>= λ d. gives_block_at x P d (Found b)) c.in-Ok.ensures ∙ block_given x P s b)
    (goes_on m c.store_new.new.memory p c.store_new.new.process c.advance.new.process (block_stored x P s b)
    (stores_same m c.store_new.new.memory p c.store_new.new.process (Ok tt) _ _ (block_made x P s b)
    (bare_stores m c.store_new.new.memory p c.store_new.new.process _ (Ok tt) _ bare c.in-Ok-store_new.ensures.makes))
    c.advance.ensures)

pub returns-in-Err-store_new-clause-goes : goal.returns-in-Err-store_new-clause-goes
returns-in-Err-store_new-clause-goes c =
    let m = c.args.memory.now in
    let x = view_world m in
    let P = view_process c.args.process.now in
    let s = view_spot c.in-Ok.spot in
    let b = Sys (names_by m.tables c.args.names) in
    halts_same c.in-Err-store_new.halt _ _
    (ap (λ a. a >>= λ d. gives_block_at x P d (Found b)) c.in-Ok.ensures ∙ block_given x P s b)
    (halts_next c.in-Err-store_new.halt (block_stored x P s b)
    (halts_same c.in-Err-store_new.halt _ _ (sym (block_made x P s b)) (c.in-Err-store_new.ensures {u = tt}).makes))
