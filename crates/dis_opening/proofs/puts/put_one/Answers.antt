use Rattle.std.proofs.Common.{sym, subst, w64}
use Rattle.std.proofs.lemmas.Int.{to_z-of_z}
use Rattle.limbo_values.specs.Numbers.{kind_of, value_of}
use Rattle.dis_meaning.specs.Numbers.{with_number_at}
use Rattle.dis_meaning.specs.Places.{Far}
use Rattle.dis_meaning.specs.Words.{InBlock}
use Rattle.dis_memory.specs.Places.{data_at, memory, store_number}
use Rattle.dis_places.specs.View.{view_process, view_world}
use Rattle.dis_places.specs.Words.{Gives}
use Rattle.dis_stores.specs.Storing.{rested, settled}
use Rattle.dis_stores.proofs.Blocks.{gives_same}
use Rattle.dis_opening.specs.Loading.{number_stored}
use Rattle.dis_opening.proofs.Putting.{as_memory, gives_alone, process_alone, held_alone, tables_alone}
use Rattle.dis_opening.proofs.puts.put_one.Goals as goal

pub returns-clause-gives : goal.returns-clause-gives
returns-clause-gives c =
    let x = view_world c.args.memory.now in
    let p = view_process c.nobody-nobody.result in
    let q = settled (view_process c.put_number.new.process) in
    let n = c.args.block.serial in
    let kind = kind_of c.args.number in
    let z = value_of c.args.number in
    let y = view_world c.put_number.new.memory in
    let gives = subst (λ at. Gives (λ _. memory y q) c.put_number.result (rested (store_number kind x p (Far (InBlock n) at) z)))
    (to_z-of_z w64 c.args.at c.ranges.at) c.put_number.ensures.gives in
    gives_alone y (settled p) q c.put_number.result (number_stored kind x n c.args.at z)
    (gives_same c.put_number.result _ _ (λ _. memory y q) (sym (as_memory x p n (λ words. with_number_at kind words c.args.at z) (data_at x n))) gives)

pub returns-clause-held : goal.returns-clause-held
returns-clause-held c =
    let x = view_world c.args.memory.now in
    let p = view_process c.nobody-nobody.result in
    let q = settled (view_process c.put_number.new.process) in
    let n = c.args.block.serial in
    let kind = kind_of c.args.number in
    let z = value_of c.args.number in
    let y = view_world c.put_number.new.memory in
    let gives = subst (λ at. Gives (λ _. memory y q) c.put_number.result (rested (store_number kind x p (Far (InBlock n) at) z)))
    (to_z-of_z w64 c.args.at c.ranges.at) c.put_number.ensures.gives in
    held_alone c.args.memory.now c.put_number.new.memory c.nobody-nobody.result c.put_number.new.process c.put_number.result
    (process_alone y (settled p) q c.put_number.result (number_stored kind x n c.args.at z)
    (gives_same c.put_number.result _ _ (λ _. memory y q) (sym (as_memory x p n (λ words. with_number_at kind words c.args.at z) (data_at x n))) gives))
    c.put_number.ensures.alike

pub returns-clause-tables : goal.returns-clause-tables
returns-clause-tables c =
    tables_alone c.args.memory.now c.put_number.new.memory c.nobody-nobody.result c.put_number.new.process c.put_number.result c.put_number.ensures.alike
