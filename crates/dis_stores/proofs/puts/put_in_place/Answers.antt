use Rattle.std.proofs.Common.{◌≡◌, sym, subst, w64}
use Rattle.std.specs.Prelude.{IfOk}
use Rattle.std.proofs.lemmas.Int.{to_z-of_z}
use Rattle.dis_meaning.specs.Words.{Found, InFrame}
use Rattle.dis_meaning.specs.Places.{Far}
use Rattle.dis_memory.specs.Places as places
use Rattle.dis_memory.specs.Places.{read, store}
use Rattle.dis_places.specs.View.{view_place, view_process, view_world}
use Rattle.dis_places.specs.Words.{view_word, Gives}
use Rattle.dis_stores.specs.Storing.{rested, settled, block_stored}
use Rattle.dis_stores.proofs.Blocks.{far_store, gives_on, gives_same}
use Rattle.dis_stores.proofs.puts.put_in_place.Goals as goal

pub returns-in-Frame-clause-stood : goal.returns-in-Frame-clause-stood
returns-in-Frame-clause-stood c =
    let x = view_world c.args.memory.now in
    let p = view_process c.args.process.now in
    subst (λ q. IfOk c.put_far.result (λ old. read x p (Far (view_place q) c.args.at) ≡ Found (view_word old))) (sym c.in-Frame.is)
    (subst (λ at. IfOk c.put_far.result (λ old. read x p (Far (InFrame c.in-Frame.serial) at) ≡ Found (view_word old)))
    (to_z-of_z w64 c.args.at c.ranges.at) (c.put_far.ensures.stood x))

pub returns-in-Block-clause-gives : goal.returns-in-Block-clause-gives
returns-in-Block-clause-gives c =
    let x = view_world c.args.memory.now in
    let p = view_process c.args.process.now in
    let n = c.in-Block.block.serial in
    let w = view_word c.args.new in
    let gives = subst (λ at. Gives (λ _. view_world c.put_in_block.new.memory) c.put_in_block.result (block_stored x n at w))
    (to_z-of_z w64 c.args.at c.ranges.at) c.put_in_block.ensures.gives in
    subst
    (λ q. Gives (λ _. places.memory (view_world c.put_in_block.new.memory) (settled p)) c.put_in_block.result (rested (store x p (Far (view_place q) c.args.at) w)))
    (sym c.in-Block.is)
    (gives_same c.put_in_block.result _ _ _ (far_store x p n c.args.at w)
    (gives_on c.put_in_block.result (block_stored x n c.args.at w) (λ _. view_world c.put_in_block.new.memory) (λ y. places.memory y (settled p)) gives))
