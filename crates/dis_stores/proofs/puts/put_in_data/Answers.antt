use Rattle.std.proofs.Common.{subst, w64}
use Rattle.std.proofs.lemmas.Int.{to_z-of_z}
use Rattle.dis_memory.specs.Places as places
use Rattle.dis_places.specs.View.{view_process, view_world}
use Rattle.dis_places.specs.Words.{view_word, Gives}
use Rattle.dis_stores.specs.Storing.{settled, block_stored}
use Rattle.dis_stores.proofs.Blocks.{data_store, gives_on, gives_same}
use Rattle.dis_stores.proofs.puts.put_in_data.Goals as goal

pub returns-clause-gives : goal.returns-clause-gives
returns-clause-gives c =
    let x = view_world c.args.memory.now in
    let p = view_process c.args.process.now in
    let w = view_word c.args.new in
    let r = c.put_in_block.result in
    let y = view_world c.put_in_block.new.memory in
    let gives = subst (λ at. Gives (λ _. y) r (block_stored x p.frame.instance at w)) (to_z-of_z w64 c.args.at c.ranges.at) c.put_in_block.ensures.gives in
    gives_same r _ _ _ (data_store x p c.args.at w) (gives_on r (block_stored x p.frame.instance c.args.at w) (λ _. y) (λ y. places.memory y (settled p)) gives)
