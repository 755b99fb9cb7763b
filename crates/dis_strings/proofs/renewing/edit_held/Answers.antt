use Rattle.std.proofs.Common.{Ok, None, Some, refl, sym, ◌∙◌, arith, subst}
use Rattle.dis_meaning.specs.Words.{Found, Refer}
use Rattle.dis_memory.specs.Blocks as blocks
use Rattle.dis_memory.specs.Places.{store}
use Rattle.dis_memory.specs.Results.{gives_block_at}
use Rattle.dis_places.specs.View.{view_process, view_spot, view_world}
use Rattle.dis_stores.specs.Storing.{rested}
use Rattle.dis_results.specs.Going.{Goes}
use Rattle.dis_results.proofs.Onward.{never}
use Rattle.dis_strings.specs.Renewing.{edited}
use Rattle.dis_strings.proofs.Edits.{edited_keeps, renewed_keeps}
use Rattle.dis_strings.proofs.InBlocks.{lies_in}
use Rattle.dis_strings.proofs.Made.{makes_on}
use Rattle.dis_strings.proofs.Moving.{below2, first_store, made2, moved_stores, second_store, sole2, x1, x3}
use Rattle.dis_strings.proofs.Renewed.{next_held}
use Rattle.dis_strings.proofs.renewing.edit_held.Goals as goal

pub invariant_of-memory : goal.invariant_of-memory
invariant_of-memory c =
    let own = c.requires.own.1 in
    record {
      proper = edited_keeps c.args.memory.now.heap c.apply.new.heap c.args.block.serial own.before (edited own.before c.args.change) c.apply.result
          (c.apply.ensures.edited own.before own.text) c.apply.ensures.kept c.args.memory.now.proper;
    }

pub unreachable-requires : goal.unreachable-requires
unreachable-requires c =
    let m = c.args.memory.now in
    let own = c.requires.own.1 in
    let h1 = c.apply.new.heap in
    let q = view_process c.args.process.now in
    let d = view_spot c.args.spot in
    let n = (lies_in q d c.requires.block).0 in
    let l = (lies_in q d c.requires.block).1 in
    let k = c.args.block.serial in
    let s = own.before in
    let u = edited s c.args.change in
    let ok = c.stands.ensures in
    let e = c.in-Ok.ensures.edited s own.text in
    let there = own.there in
    never c.in-Err-put.field-0 (rested (store (x1 m h1 q d n k s u ok l e there) q d (Refer None))) _ (first_store m h1 q d n k s u ok l e there)
    c.in-Err-put.ensures.gives (c.in-Err-put.ensures.sure refl)

pub renew-requires : goal.renew-requires
renew-requires c =
    let m = c.args.memory.now in
    let own = c.requires.own.1 in
    let h1 = c.apply.new.heap in
    let q = view_process c.args.process.now in
    let d = view_spot c.args.spot in
    let n = (lies_in q d c.requires.block).0 in
    let l = (lies_in q d c.requires.block).1 in
    let k = c.args.block.serial in
    let s = own.before in
    let u = edited s c.args.change in
    let ok = c.stands.ensures in
    let e = c.in-Ok.ensures.edited s own.text in
    let there = own.there in
    let m2 = c.put.new.memory in
    let q2 = view_process c.put.new.process in
    let was = c.in-Ok-put.field-0 in
    let ok2 = c.stands-2.ensures in
    let may = own.may in
    let gives = c.in-Ok-put.ensures.gives in
    let stood = c.in-Ok-put.ensures.stood in
    let exchanges = c.in-Ok-put.ensures.exchanges in
    sole2 m h1 q d n k s u ok l e there m2 q2 was ok2 may gives stood exchanges

pub invariant_of-memory-2 : goal.invariant_of-memory-2
invariant_of-memory-2 c =
    let m = c.args.memory.now in
    let own = c.requires.own.1 in
    let h1 = c.apply.new.heap in
    let q = view_process c.args.process.now in
    let d = view_spot c.args.spot in
    let n = (lies_in q d c.requires.block).0 in
    let l = (lies_in q d c.requires.block).1 in
    let k = c.args.block.serial in
    let s = own.before in
    let u = edited s c.args.change in
    let ok = c.stands.ensures in
    let e = c.in-Ok.ensures.edited s own.text in
    let there = own.there in
    let m2 = c.put.new.memory in
    let q2 = view_process c.put.new.process in
    let was = c.in-Ok-put.field-0 in
    let ok2 = c.stands-2.ensures in
    let may = own.may in
    let gives = c.in-Ok-put.ensures.gives in
    let stood = c.in-Ok-put.ensures.stood in
    let exchanges = c.in-Ok-put.ensures.exchanges in
    record {
      proper = renewed_keeps m2.heap c.renew.new.self k (sole2 m h1 q d n k s u ok l e there m2 q2 was ok2 may gives stood exchanges) c.renew.result
          c.renew.ensures.ok c.renew.ensures.err m2.proper;
    }

pub unreachable-requires-in-Err-renew : goal.unreachable-requires-in-Err-renew
unreachable-requires-in-Err-renew c =
    let m = c.args.memory.now in
    let own = c.requires.own.1 in
    let h1 = c.apply.new.heap in
    let q = view_process c.args.process.now in
    let d = view_spot c.args.spot in
    let n = (lies_in q d c.requires.block).0 in
    let l = (lies_in q d c.requires.block).1 in
    let k = c.args.block.serial in
    let s = own.before in
    let u = edited s c.args.change in
    let ok = c.stands.ensures in
    let e = c.in-Ok.ensures.edited s own.text in
    let there = own.there in
    let m2 = c.put.new.memory in
    let q2 = view_process c.put.new.process in
    let was = c.in-Ok-put.field-0 in
    let ok2 = c.stands-2.ensures in
    let may = own.may in
    let gives = c.in-Ok-put.ensures.gives in
    let stood = c.in-Ok-put.ensures.stood in
    let exchanges = c.in-Ok-put.ensures.exchanges in
    may.room (sym (made2 m h1 q d n k s u ok l e there m2 q2 was ok2 may gives stood exchanges) ∙ c.in-Err-renew.ensures.only_full refl)

pub put-requires-2 : goal.put-requires-2
put-requires-2 c =
    let m = c.args.memory.now in
    let own = c.requires.own.1 in
    let h1 = c.apply.new.heap in
    let q = view_process c.args.process.now in
    let d = view_spot c.args.spot in
    let n = (lies_in q d c.requires.block).0 in
    let l = (lies_in q d c.requires.block).1 in
    let k = c.args.block.serial in
    let s = own.before in
    let u = edited s c.args.change in
    let ok = c.stands.ensures in
    let e = c.in-Ok.ensures.edited s own.text in
    let there = own.there in
    let m2 = c.put.new.memory in
    let q2 = view_process c.put.new.process in
    let was = c.in-Ok-put.field-0 in
    let ok2 = c.stands-2.ensures in
    let may = own.may in
    let gives = c.in-Ok-put.ensures.gives in
    let stood = c.in-Ok-put.ensures.stood in
    let exchanges = c.in-Ok-put.ensures.exchanges in
    let h3 = c.renew.new.self in
    let r = c.in-Ok-renew.renewed in
    let serial = c.in-Ok-renew.ensures.serial in
    let is3 = c.in-Ok-renew.ensures.ok in
    let out3 = c.in-Ok-renew.ensures.outside in
    record {
      held = λ j.
          let low = below2 m h1 q d n k s u ok l e there m2 q2 was ok2 may gives stood exchanges h3 r serial is3 out3 in
          let a = next_held m2.heap h3 k r.serial out3 (λ same. omega (arith, low, serial, same)) j in
          omega (arith, a);
    }

pub unreachable-requires-in-Err-put-2 : goal.unreachable-requires-in-Err-put-2
unreachable-requires-in-Err-put-2 c =
    let m = c.args.memory.now in
    let own = c.requires.own.1 in
    let h1 = c.apply.new.heap in
    let q = view_process c.args.process.now in
    let d = view_spot c.args.spot in
    let n = (lies_in q d c.requires.block).0 in
    let l = (lies_in q d c.requires.block).1 in
    let k = c.args.block.serial in
    let s = own.before in
    let u = edited s c.args.change in
    let ok = c.stands.ensures in
    let e = c.in-Ok.ensures.edited s own.text in
    let there = own.there in
    let m2 = c.put.new.memory in
    let q2 = view_process c.put.new.process in
    let was = c.in-Ok-put.field-0 in
    let ok2 = c.stands-2.ensures in
    let may = own.may in
    let gives = c.in-Ok-put.ensures.gives in
    let stood = c.in-Ok-put.ensures.stood in
    let exchanges = c.in-Ok-put.ensures.exchanges in
    let h3 = c.renew.new.self in
    let r = c.in-Ok-renew.renewed in
    let serial = c.in-Ok-renew.ensures.serial in
    let is3 = c.in-Ok-renew.ensures.ok in
    let out3 = c.in-Ok-renew.ensures.outside in
    never c.in-Err-put-2.field-0 (rested (store (x3 m h1 q d n k s u ok l e there m2 q2 was ok2 may gives stood exchanges h3 r serial is3 out3) q2 d (Refer (Some r.serial)))) _
    (second_store m h1 q d n k s u ok l e there m2 q2 was ok2 may gives stood exchanges h3 r serial is3 out3)
    c.in-Err-put-2.ensures.gives (c.in-Err-put-2.ensures.sure refl)

pub returns-clause-goes : goal.returns-clause-goes
returns-clause-goes c =
    λ t own.
    let m = c.args.memory.now in
    let h1 = c.apply.new.heap in
    let q = view_process c.args.process.now in
    let d = view_spot c.args.spot in
    let n = (lies_in q d c.requires.block).0 in
    let l = (lies_in q d c.requires.block).1 in
    let k = c.args.block.serial in
    let s = own.before in
    let u = edited s c.args.change in
    let ok = c.stands.ensures in
    let e = c.in-Ok.ensures.edited s own.text in
    let there = own.there in
    let m2 = c.put.new.memory in
    let q2 = view_process c.put.new.process in
    let was = c.in-Ok-put.field-0 in
    let ok2 = c.stands-2.ensures in
    let may = own.may in
    let gives = c.in-Ok-put.ensures.gives in
    let stood = c.in-Ok-put.ensures.stood in
    let exchanges = c.in-Ok-put.ensures.exchanges in
    let h3 = c.renew.new.self in
    let r = c.in-Ok-renew.renewed in
    let serial = c.in-Ok-renew.ensures.serial in
    let is3 = c.in-Ok-renew.ensures.ok in
    let out3 = c.in-Ok-renew.ensures.outside in
    let p = c.args.process.now in
    let m4 = c.put-2.new.memory in
    let p4 = c.put-2.new.process in
    subst (λ t. Goes m p (Ok tt) (gives_block_at (view_world m) q d (Found (blocks.Text t))) m4 c.advance.new.process) own.is
    (makes_on (view_world m) q d (blocks.Text u) m m4 p p4 c.advance.new.process
    (moved_stores m h1 q d n k s u ok l e there m2 q2 was ok2 may gives stood exchanges h3 r serial is3 out3 m4 p p4 c.in-Ok-put-2.field-0
    c.stands-3.ensures refl c.in-Ok-put-2.ensures.gives c.in-Ok-put-2.ensures.stood c.in-Ok-put-2.ensures.exchanges
    (c.in-Ok-put-2.ensures.tables ∙ c.in-Ok-put.ensures.tables))
    c.advance.ensures)
