use Rattle.std.proofs.Common.{List, ℕ, Bool, true, subst}
use Rattle.std.proofs.lemmas.Result.{on_ok_weaker}
use Rattle.source_files.specs.Reading.{Adds, Marks}
use Rattle.source_files.proofs.Readers.{asks_kept, asks_refused}
use Rattle.source_files.proofs.reader.read_one.Goals as goal

pub returns-in_ok-clone-in-Ok-Some-clause-asks : goal.returns-in_ok-clone-in-Ok-Some-clause-asks
returns-in_ok-clone-in-Ok-Some-clause-asks g c =
    let m : Marks c.args.path.now true c.args.reader.now c.ask.new.reader =
    subst (λ (z : List ℕ). Marks z true c.args.reader.now c.ask.new.reader) c.in_ok-clone.ensures.cases
    (subst (λ (b : Bool). Marks c.in_ok-clone.field-0 b c.args.reader.now c.ask.new.reader) c.if-not-branch.false c.in_ok-ask.ensures.marked) in
    on_ok_weaker c.keep.result
    (λ k. asks_kept (g.H.HostTree.told c.args.files.now) c.args.path.now c.args.depth c.args.reader.now c.ask.new.reader c.keep.new.reader c.in-Ok-Some.tree m
    (subst (λ (z : List ℕ). Adds (record { path = z; tree = c.in-Ok-Some.tree }) c.args.depth c.ask.new.reader c.keep.new.reader) c.in_ok-clone-in-Ok-Some.ensures.cases k)
    (rw c.in-Ok-Some.field-0-is at c.in-Ok-Some.ensures.found))
    c.keep.ensures.added

pub returns-in-Err-clause-asks : goal.returns-in-Err-clause-asks
returns-in-Err-clause-asks g c =
    let m : Marks c.args.path.now true c.args.reader.now c.ask.new.reader =
    subst (λ (z : List ℕ). Marks z true c.args.reader.now c.ask.new.reader) c.in_ok-clone.ensures.cases
    (subst (λ (b : Bool). Marks c.in_ok-clone.field-0 b c.args.reader.now c.ask.new.reader) c.if-not-branch.false c.in_ok-ask.ensures.marked) in
    on_ok_weaker c.refuse.result
    (λ k. asks_refused (g.H.HostTree.told c.args.files.now) c.args.path.now c.args.depth c.args.reader.now c.ask.new.reader c.refuse.new.reader c.in-Err.fault
    (g.H.HostTree.faults c.args.files.now) (g.H.HostTree.faults c.tree_at.new.files) m k c.in-Err.ensures.refused c.in-Err.ensures.own)
    c.refuse.ensures.kept
