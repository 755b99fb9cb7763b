use Rattle.std.proofs.Common.{◌≡◌, refl, sym, subst, arith}
use Rattle.dis_opening.specs.declared.fault.StartFault.TheVariants.{Malformed}
use Rattle.dis_machine.proofs.Loading.{have_all}
use Rattle.dis_machine.proofs.Starting.{there_first, none_begins, begun_kept, codes_are, few}
use Rattle.dis_counts.specs.Opening.{opened}
use Rattle.dis_opening.specs.Starting.{Refuses}
use Rattle.dis_machine.specs.Loaded.{HaveAll}
use Rattle.dis_machine.proofs.machine.Machine.start.Goals as goal

pub open-requires : goal.open-requires
open-requires c = record {
  loaded = c.in_ok-tables.ensures.loaded 0 c.index.result.now
      (there_first c.in_ok-tables.field-0.codes.items c.args.setup.objects.items c.index.result.now c.in_ok-tables.ensures.same c.requires.some c.index.ensures);
}

pub returns-clause-begun : goal.returns-clause-begun
returns-clause-begun c = record {
  same = (c.in_ok-tables.ensures.same, refl);
  codes = codes_are c.in_ok-tables.field-0.codes.items c.args.setup.objects.items c.in_ok-tables.ensures.same;
  journal = c.in_ok-journal.ensures.items;
  able = refl;
  ready = refl;
  outbox = c.new.ensures.items;
}

pub invariant_of-result-2 : goal.invariant_of-result-2
invariant_of-result-2 c =
    let codes = c.in_ok-tables.field-0.codes.items in
    let same = c.in_ok-tables.ensures.same in
    let first = there_first codes c.args.setup.objects.items c.index.result.now same c.requires.some c.index.ensures in
    let l = c.in_ok-journal.ensures.len in
    let k = c.in_ok-journal.ensures.capacity in
    let n = few codes c.args.setup.objects.items same in
    let b = c.in_ok-back.ensures.capacity in
    let m = c.len.ensures in
    record {
      kept = begun_kept codes c.index.result.now first _ refl c.in-Ok.ensures.opened c.args.setup.limit _ _ c.in_ok-journal.ensures.items c.new.ensures.items c.new-2.ensures.items refl;
      loaded = subst (λ t. HaveAll t codes) (sym c.in-Ok.ensures.tables) (have_all c.in_ok-tables.field-0.tables codes c.in_ok-tables.ensures.loaded);
      room = omega (arith, l, k);
      empty = c.in_ok-back.ensures.items;
      enough = omega (arith, n, b, m);
    }

pub returns-in-Err-clause-refused : goal.returns-in-Err-clause-refused
returns-in-Err-clause-refused c = λ e.
    let same : c.in-Err.fault ≡ Malformed = cc in
    let codes = c.in_ok-tables.field-0.codes.items in
    let first = there_first codes c.args.setup.objects.items c.index.result.now c.in_ok-tables.ensures.same c.requires.some c.index.ensures in
    none_begins codes c.args.setup.objects.items c.index.result.now c.in_ok-tables.ensures.same first
    (subst (λ f. Refuses f (opened c.index.result.now.1.object)) same c.in-Err.ensures.opened)
