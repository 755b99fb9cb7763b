use Rattle.std.proofs.Common.{Ok, arith, subst}
use Rattle.dis_meaning.specs.Words.{Found}
use Rattle.dis_memory.specs.Blocks as blocks
use Rattle.dis_memory.specs.Naming.{names}
use Rattle.dis_memory.specs.Results.{gives_block_at}
use Rattle.dis_places.specs.View.{view_process, view_spot, view_world}
use Rattle.dis_results.specs.Going.{Goes}
use Rattle.dis_strings.specs.Renewing.{edited}
use Rattle.dis_strings.proofs.Edits.{anew_keeps}
use Rattle.dis_strings.proofs.Made.{makes_on}
use Rattle.dis_strings.proofs.Owned.{frame_named, sole_of}
use Rattle.dis_strings.proofs.Renewed.{anew_held, renewed_stores}
use Rattle.dis_strings.proofs.renewing.edit_own.Goals as goal

pub edit_anew-requires-clause-sole : goal.edit_anew-requires-clause-sole
edit_anew-requires-clause-sole c =
    let q = view_process c.args.process.now in
    let own = c.requires.own.1 in
    sole_of c.args.memory.now.heap c.args.block.serial (names q) own.may c.requires.held
    (frame_named (view_world c.args.memory.now) q (view_spot c.args.spot) c.args.block.serial c.requires.frame own.there)

pub invariant_of-memory : goal.invariant_of-memory
invariant_of-memory c =
    let m = c.args.memory.now in
    let own = c.requires.own.1 in
    record {
      proper = anew_keeps m.heap c.edit_anew.new.heap c.args.block.serial own.before (edited own.before c.args.change) c.edit_anew.result
          (c.edit_anew.ensures.anew own.before own.text) c.edit_anew.ensures.kept m.proper;
    }

pub put-requires : goal.put-requires
put-requires c =
    let m = c.args.memory.now in
    let own = c.requires.own.1 in
    record {
      held = λ n.
          let a = anew_held m.heap c.edit_anew.new.heap c.args.block.serial c.in-Ok.renewed.serial own.before (edited own.before c.args.change)
          (c.in-Ok.ensures.anew own.before own.text) c.stands.ensures n in
          omega (arith, a);
    }

pub returns-clause-goes : goal.returns-clause-goes
returns-clause-goes c =
    λ t own.
    let m = c.args.memory.now in
    let p = c.args.process.now in
    let x = view_world m in
    let q = view_process p in
    let d = view_spot c.args.spot in
    let s = own.before in
    let u = edited s c.args.change in
    let k = c.args.block.serial in
    let sole = sole_of m.heap k (names q) own.may c.requires.held (frame_named x q d k c.requires.frame own.there) in
    subst (λ t. Goes m p (Ok tt) (gives_block_at x q d (Found (blocks.Text t))) c.put.new.memory c.advance.new.process) own.is
    (makes_on x q d (blocks.Text u) m c.put.new.memory p c.put.new.process c.advance.new.process
    (renewed_stores m c.put.new.memory c.edit_anew.new.heap p c.put.new.process d k c.in-Ok.renewed c.in-Ok-put.field-0 s u (c.in-Ok.ensures.anew s own.text)
    c.stands.ensures c.stands-in-Ok-put.ensures sole c.requires.frame own.there
    c.in-Ok-put.ensures.gives c.in-Ok-put.ensures.stood c.in-Ok-put.ensures.exchanges c.in-Ok-put.ensures.tables)
    c.advance.ensures)
