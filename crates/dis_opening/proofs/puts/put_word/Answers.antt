use Rattle.std.proofs.Common.{sym, subst, w64}
use Rattle.std.proofs.lemmas.Int.{to_z-of_z}
use Rattle.dis_meaning.specs.Places.{Far}
use Rattle.dis_meaning.specs.Words.{InBlock}
use Rattle.dis_memory.specs.Places.{memory, store}
use Rattle.dis_places.specs.View.{view_process, view_world}
use Rattle.dis_places.specs.Words.{view_word, Gives}
use Rattle.dis_stores.specs.Storing.{block_stored, rested, settled}
use Rattle.dis_stores.proofs.Blocks.{far_store, gives_same}
use Rattle.dis_opening.proofs.Putting.{gives_alone, process_alone, exchanged_alone}
use Rattle.dis_opening.proofs.puts.put_word.Goals as goal

pub returns-clause-gives : goal.returns-clause-gives
returns-clause-gives c =
    let x = view_world c.args.memory.now in
    let p = view_process c.nobody-nobody.result in
    let q = settled (view_process c.put.new.process) in
    let n = c.args.block.serial in
    let w = view_word c.args.new in
    let y = view_world c.put.new.memory in
    let gives = subst (λ at. Gives (λ _. memory y q) c.put.result (rested (store x p (Far (InBlock n) at) w))) (to_z-of_z w64 c.args.at c.ranges.at) c.put.ensures.gives in
    gives_alone y (settled p) q c.put.result (block_stored x n c.args.at w)
    (gives_same c.put.result _ _ (λ _. memory y q) (sym (far_store x p n c.args.at w)) gives)

pub returns-clause-exchanges : goal.returns-clause-exchanges
returns-clause-exchanges c =
    let x = view_world c.args.memory.now in
    let p = view_process c.nobody-nobody.result in
    let q = settled (view_process c.put.new.process) in
    let n = c.args.block.serial in
    let w = view_word c.args.new in
    let y = view_world c.put.new.memory in
    let gives = subst (λ at. Gives (λ _. memory y q) c.put.result (rested (store x p (Far (InBlock n) at) w))) (to_z-of_z w64 c.args.at c.ranges.at) c.put.ensures.gives in
    exchanged_alone c.args.memory.now c.put.new.memory c.nobody-nobody.result c.put.new.process c.put.result c.args.new
    (process_alone y (settled p) q c.put.result (block_stored x n c.args.at w)
    (gives_same c.put.result _ _ (λ _. memory y q) (sym (far_store x p n c.args.at w)) gives))
    c.put.ensures.exchanges
