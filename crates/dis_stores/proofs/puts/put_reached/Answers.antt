use Rattle.std.proofs.Common.{◌≡◌, subst, w64}
use Rattle.std.proofs.lemmas.Int.{to_z-of_z}
use Rattle.dis_meaning.specs.Words.{word_number, Found}
use Rattle.dis_stores.proofs.Blocks.{reaches, live, put_gives, put_stood, put_proper}
use Rattle.dis_stores.proofs.puts.put_reached.Goals as goal

pub exchange-requires-clause-live : goal.exchange-requires-clause-live
exchange-requires-clause-live c = live c.args.memory.now.tables c.args.memory.now.heap c.args.block.serial c.stands.ensures c.requires.reached

pub invariant_of-memory : goal.invariant_of-memory
invariant_of-memory c =
    let m = c.args.memory.now in
    let s = c.args.block.serial in
    let r = reaches m.tables m.heap s c.stands.ensures c.requires.reached in
    let number = subst (λ at. word_number at ≡ Found c.in-Ok.k) (to_z-of_z w64 c.args.at c.ranges.at) (c.in-Ok.ensures {u = tt}).number in
    record { proper = put_proper m c.exchange.new.heap s c.in-Ok.k c.args.at c.args.new c.stands.ensures r number c.exchange.result c.exchange.ensures.exchanged c.exchange.ensures.kept m.proper }

pub returns-in-Ok-clause-gives : goal.returns-in-Ok-clause-gives
returns-in-Ok-clause-gives c =
    let m = c.args.memory.now in
    let s = c.args.block.serial in
    let r = reaches m.tables m.heap s c.stands.ensures c.requires.reached in
    let number = subst (λ at. word_number at ≡ Found c.in-Ok.k) (to_z-of_z w64 c.args.at c.ranges.at) (c.in-Ok.ensures {u = tt}).number in
    put_gives m c.exchange.new.heap s c.in-Ok.k c.args.at c.args.new c.stands.ensures r number c.exchange.result c.exchange.ensures.exchanged c.exchange.ensures.fault

pub returns-in-Ok-clause-stood : goal.returns-in-Ok-clause-stood
returns-in-Ok-clause-stood c =
    let m = c.args.memory.now in
    let s = c.args.block.serial in
    let r = reaches m.tables m.heap s c.stands.ensures c.requires.reached in
    let number = subst (λ at. word_number at ≡ Found c.in-Ok.k) (to_z-of_z w64 c.args.at c.ranges.at) (c.in-Ok.ensures {u = tt}).number in
    put_stood m c.exchange.new.heap s c.in-Ok.k c.args.at c.args.new c.stands.ensures r number c.exchange.result c.exchange.ensures.exchanged
