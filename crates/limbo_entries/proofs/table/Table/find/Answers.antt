use Rattle.std.proofs.Common.{◌≡◌, ◌≤◌, length, None, Some, rules}
use Rattle.std.specs.Prelude.{slice_get}
use Rattle.std.proofs.lemmas.List.{length-map}
use Rattle.limbo_entries.specs.Entries as told
use Rattle.limbo_entries.specs.Entries.{Finds, HasNone, IsMember, IsEntry}
use Rattle.limbo_entries.specs.View.{view_entry, entries_of}
use Rattle.limbo_entries.proofs.Lists.{mapped, read_at}
use Rattle.limbo_entries.proofs.Seeking.{outwards, none_outwards, none_at_top, less_deep, none_so, some_of}
use Rattle.limbo_entries.proofs.table.Table.find.Goals as goal

pub returns-in-Some-member-clause-found : goal.returns-in-Some-member-clause-found
returns-in-Some-member-clause-found c =
    c.loop-at.invariant.out c.in-Some-member.found
    (rw c.in-Some.is (told.here (Some c.in-Some.number) c.in-Some-member.found c.in-Some-member.ensures.found))

pub returns-then-number-len-clause-absent : goal.returns-then-number-len-clause-absent
returns-then-number-len-clause-absent c =
    λ k f.
    let es = entries_of c.args.self.now.entries.items in
    let m = length-map c.args.self.now.entries.items view_entry in
    let l : length es ≤ c.in-Some.number = search (rules, m) in
    none_outwards es c.args.implemented c.args.name.now c.in-Some.number k l c.in_default-member.ensures.absent
    (rw c.in-Some.is at (c.loop-at.invariant.back k f))

pub loop-at-smaller : goal.loop-at-smaller
loop-at-smaller c =
    let es = c.args.self.now.entries.items in
    let h : slice_get es c.in-Some.number ≡ Some c.index.result.now =
    read_at es c.in-Some.number c.index.result.now (search rules) c.index.ensures in
    rw c.in-Some.is (less_deep es c.in-Some.number c.index.result.now c.args.self.now.outwards h)

pub loop-at-preserved : goal.loop-at-preserved
loop-at-preserved c =
    let es = c.args.self.now.entries.items in
    let h : slice_get es c.in-Some.number ≡ Some c.index.result.now =
    read_at es c.in-Some.number c.index.result.now (search rules) c.index.ensures in
    let g : IsEntry (entries_of es) c.in-Some.number (view_entry c.index.result.now) =
    mapped view_entry es c.in-Some.number c.index.result.now h in
    let none : HasNone (entries_of es) (Some c.in-Some.number) c.args.name.now = c.in_default-member.ensures.absent in
    record {
      out = λ k f. c.loop-at.invariant.out k (rw c.in-Some.is (told.further c.in-Some.number (view_entry c.index.result.now) k none g f));
      back = λ k f. outwards (entries_of es) c.args.implemented c.args.name.now c.in-Some.number (view_entry c.index.result.now) k g none
          (rw c.in-Some.is at (c.loop-at.invariant.back k f));
    }

pub returns-in-Some-member-2-clause-found : goal.returns-in-Some-member-2-clause-found
returns-in-Some-member-2-clause-found c =
    c.loop-at.invariant.out c.in-Some-member-2.found
    (rw c.in_default.is (told.here None c.in-Some-member-2.found c.in-Some-member-2.ensures.found))

pub returns-in-None-clause-found : goal.returns-in-None-clause-found
returns-in-None-clause-found c =
    some_of c.member-in-None.result c.member-in-None.ensures.found
    (λ k m. c.loop-at.invariant.out k (rw c.in_default.is (told.in_module k c.in-None.ensures.absent m)))

pub returns-in-None-clause-absent : goal.returns-in-None-clause-absent
returns-in-None-clause-absent c =
    let es = entries_of c.args.self.now.entries.items in
    none_so c.member-in-None.result c.member-in-None.ensures.absent
    (λ absent k f. none_at_top es c.args.implemented c.args.name.now k c.in-None.ensures.absent absent
    (rw c.in_default.is at (c.loop-at.invariant.back k f)))
