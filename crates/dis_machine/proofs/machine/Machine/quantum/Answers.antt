use Rattle.std.proofs.Common.{◌++◌, true, refl, sym, ap, ◌∙◌, subst, arith, map}
use Rattle.dis_steps.specs.Codes.{objects_of}
use Rattle.dis_machine.specs.declared.running.Turn.TheVariants as turn
use Rattle.dis_machine.specs.Running.{told_by, stands_after, HadTurns}
use Rattle.dis_machine.specs.Frames.{requests}
use Rattle.dis_machine.specs.Ends.{breaches}
use Rattle.dis_machine.specs.Kept.{IsKept, told_after, frames_on, view_broken}
use Rattle.dis_counts.specs.Told as traces
use Rattle.dis_steps.specs.Stepping.{AreLoaded}
use Rattle.dis_machine.specs.Loaded.{HaveAll}
use Rattle.dis_machine.proofs.Keeping.{Told, keeps_same, ready_lives, quantum_kept, cut_kept, cut_told, cut_asked, requests_since}
use Rattle.dis_machine.proofs.Loading.{are_loaded}
use Rattle.dis_machine.specs.Standing.{AsksMore}
use Rattle.dis_machine.proofs.Asks.{after_turn}
use Rattle.dis_machine.proofs.machine.Machine.quantum.Goals as goal

pub tell-requires : goal.tell-requires
tell-requires c =
    let m = c.args.self.now in
    record { room = c.in-Ok.ensures.room; sound = c.in-Ok.ensures.same.fault ∙ m.kept.sound (ready_lives m.running.doing c.requires.ready.1) }

pub invariant_of-self-in-NoMemory : goal.invariant_of-self-in-NoMemory
invariant_of-self-in-NoMemory c =
    let m = c.args.self.now in
    let t = c.run-count in
    let had : HadTurns (objects_of m.codes.items) m.running t.new.self t.result.count turn.NoMemory =
    subst (λ l. HadTurns (objects_of m.codes.items) m.running t.new.self t.result.count l) c.in-NoMemory.is
    (subst (λ os. HadTurns (objects_of os) m.running t.new.self t.result.count t.result.last) c.deref.ensures.value t.ensures.turns) in
    let keeps = keeps_same (told_after (objects_of m.codes.items) m.journal.items m.cut) m.outcome c.make_room.new.self m.kept.keeps c.in-Ok.ensures.same.outbox c.in-Ok.ensures.same.broken c.in-Ok.ensures.same.fault in
    record {
      kept = subst (λ n. IsKept (objects_of m.codes.items) m.limit m.journal.items m.entered n true t.new.self c.make_room.new.self) (sym c.cut_of-self.ensures)
          (cut_kept (objects_of m.codes.items) m.limit m.journal.items m.entered m.cut m.lacks m.running t.new.self m.outcome m.kept c.requires.able t.result.count had c.make_room.new.self c.requires.left c.requires.ready.1 keeps c.in-Ok.ensures.same.fault);
      loaded = subst (λ t. HaveAll t m.codes.items) (sym t.ensures.tables) m.loaded;
      room = m.room;
      empty = m.empty;
      enough = m.enough;
    }

pub invariant_of-self-in_default-last : goal.invariant_of-self-in_default-last
invariant_of-self-in_default-last c =
    let m = c.args.self.now in
    let t = c.run-count in
    let had = subst (λ os. HadTurns (objects_of os) m.running t.new.self t.result.count t.result.last) c.deref.ensures.value t.ensures.turns in
    let told : Told m.outcome c.tell.new.self (told_by t.result.last) = record {
      asked = λ link. c.tell.ensures.asked link ∙ ap (λ xs. frames_on link xs ++ requests link (told_by t.result.last)) c.in-Ok.ensures.same.outbox;
      broke = c.tell.ensures.broke ∙ ap (λ xs. map view_broken xs ++ breaches (told_by t.result.last)) c.in-Ok.ensures.same.broken;
      faulted = c.tell.ensures.faulted;
    } in
    let space = m.room in
    let p = c.push_reserved.ensures in
    record {
      kept = quantum_kept (objects_of m.codes.items) m.limit m.journal.items m.entered m.cut m.lacks m.running t.new.self m.outcome m.kept c.requires.able c.requires.ready.1 t.result.count t.result.last had t.ensures.stands t.ensures.some t.ensures.few t.ensures.longest c.in_default-last.not-NoMemory c.args.pid c.requires.ready.0 c.push_reserved.new.self.items p.items c.tell.new.self c.requires.left told;
      loaded = subst (λ t. HaveAll t m.codes.items) (sym t.ensures.tables) m.loaded;
      room = omega (arith, space, p.len, p.capacity, c.requires.left);
      empty = m.empty;
      enough = m.enough;
    }

pub returns-in_default-last-clause-went : goal.returns-in_default-last-clause-went
returns-in_default-last-clause-went c =
    let m = c.args.self.now in
    let t = c.run-count in
    let had = subst (λ os. HadTurns (objects_of os) m.running t.new.self t.result.count t.result.last) c.deref.ensures.value t.ensures.turns in (
      t.result.count,
      record {
        journal = c.push_reserved.ensures.items;
        asked = λ link. record {
          more = requests link (told_by t.result.last);
          asked = requests_since (objects_of m.codes.items) m.limit m.journal.items m.entered m.cut m.lacks m.running t.new.self m.outcome m.kept c.requires.able c.requires.ready.1 t.result.count t.result.last had t.ensures.stands t.ensures.some t.ensures.few t.ensures.longest c.in_default-last.not-NoMemory c.args.pid c.requires.ready.0 c.push_reserved.new.self.items c.push_reserved.ensures.items link;
          outbox = c.tell.ensures.asked link ∙ ap (λ xs. frames_on link xs ++ requests link (told_by t.result.last)) c.in-Ok.ensures.same.outbox;
        };
        same = (refl, refl);
      },
    )

pub returns-in-NoMemory-clause-stopped : goal.returns-in-NoMemory-clause-stopped
returns-in-NoMemory-clause-stopped c =
    let m = c.args.self.now in
    let t = c.run-count in
    let objects = objects_of m.codes.items in
    let had : HadTurns objects m.running t.new.self t.result.count turn.NoMemory =
    subst (λ l. HadTurns objects m.running t.new.self t.result.count l) c.in-NoMemory.is
    (subst (λ os. HadTurns (objects_of os) m.running t.new.self t.result.count t.result.last) c.deref.ensures.value t.ensures.turns) in
    record {
      journal = refl;
      told = ap (λ n. traces.told (told_after objects m.journal.items n)) c.cut_of-self.ensures ∙ cut_told objects m.limit m.journal.items m.entered m.cut m.lacks m.running t.new.self m.outcome m.kept c.requires.able t.result.count had;
      asked = λ link. ap (λ n. requests link (told_after objects m.journal.items n)) c.cut_of-self.ensures ∙ cut_asked objects m.limit m.journal.items m.entered m.cut m.lacks m.running t.new.self m.outcome m.kept c.requires.able t.result.count had link;
      outbox = λ link. ap (frames_on link) c.in-Ok.ensures.same.outbox;
      ready = t.ensures.stands ∙ ap stands_after c.in-NoMemory.is;
      same = (refl, refl);
    }

pub returns-in_default-last-clause-asks : goal.returns-in_default-last-clause-asks
returns-in_default-last-clause-asks c =
    let m = c.args.self.now in
    let t = c.run-count in
    let more = c.tell.ensures.asked 1 ∙ ap (λ xs. frames_on 1 xs ++ requests 1 (told_by t.result.last)) c.in-Ok.ensures.same.outbox in
    let asks = after_turn (frames_on 1 m.outcome.outbox.items) (frames_on 1 c.tell.new.self.outbox.items) t.result.last t.new.self.process.printing c.in_default-last.not-NoMemory t.ensures.sent more in
    subst (λ d. AsksMore (frames_on 1 m.outcome.outbox.items) (frames_on 1 c.tell.new.self.outbox.items) d t.new.self.process.printing) (sym t.ensures.stands) asks

pub run-count-requires-clause-loaded : goal.run-count-requires-clause-loaded
run-count-requires-clause-loaded c =
    let m = c.args.self.now in
    subst (λ cs. AreLoaded m.running.memory.tables cs) (sym c.deref.ensures.value) (are_loaded m.running.memory.tables m.codes.items m.loaded)
