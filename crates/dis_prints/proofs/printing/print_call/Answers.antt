use Rattle.std.proofs.Common.{◌<◌, length, ap, sym, ◌∙◌, subst, arith}
use Rattle.dis_meaning.specs.Words.{◌>>=◌}
use Rattle.dis_places.specs.declared.spots.Region.TheVariants as region
use Rattle.dis_places.specs.Regions.{words_here}
use Rattle.dis_places.specs.View.{view_process, view_world}
use Rattle.dis_places.specs.Words.{Halts}
use Rattle.dis_stores.proofs.Blocks.{halts_on}
use Rattle.dis_calls.specs.Coming.{Comes}
use Rattle.dis_prints.specs.Discarded.{discarded}
use Rattle.dis_prints.specs.Plans.{planned, carried_out}
use Rattle.dis_prints.proofs.Left.{as_plan, alone}
use Rattle.dis_prints.proofs.printing.print_call.Goals as goal

pub carry_out-requires-clause-made : goal.carry_out-requires-clause-made
carry_out-requires-clause-made c =
    let p = c.args.process.now in
    let lt : c.args.made < length p.made.items = let l = p.made.ok.0 in omega (arith, l, c.requires.made) in
    alone p c.args.made c.index.result.now lt c.index.ensures

pub returns-in-Ok-clause-comes : goal.returns-in-Ok-clause-comes
returns-in-Ok-clause-comes c =
    let m = c.args.memory.now in
    let x = view_world m in
    let p = c.args.process.now in
    let g = c.index.result.now in
    let lt : c.args.made < length p.made.items = let l = p.made.ok.0 in omega (arith, l, c.requires.made) in
    λ f there.
    subst (λ a. Comes m p c.carry_out.result a c.carry_out.new.memory c.carry_out.new.process)
    (sym
    (as_plan p x m.heap c.args.made f g lt c.index.ensures there
    ∙ ap (λ a. a >>= carried_out x (discarded (view_process p) g.serial)) c.in-Ok.ensures.gives))
    c.carry_out.ensures.comes

pub returns-in-Err-clause-comes : goal.returns-in-Err-clause-comes
returns-in-Err-clause-comes c =
    let m = c.args.memory.now in
    let x = view_world m in
    let p = c.args.process.now in
    let g = c.index.result.now in
    let lt : c.args.made < length p.made.items = let l = p.made.ok.0 in omega (arith, l, c.requires.made) in
    λ f there.
    subst (Halts c.in-Err.halt) (sym (as_plan p x m.heap c.args.made f g lt c.index.ensures there))
    (halts_on c.in-Err.halt (planned x (words_here m.heap p (region.Made c.args.made))) (carried_out x (discarded (view_process p) g.serial)) c.in-Err.ensures.gives)
