use Rattle.std.proofs.Common.{◌≡◌, ◌++◌, ◌∷◌, [], Some, None, refl, sym, ap, ◌∙◌, subst, arith, true, IfSome}
use Rattle.dis_steps.specs.Codes.{objects_of}
use Rattle.dis_machine.specs.declared.event.Event.TheVariants as event
use Rattle.dis_machine.specs.declared.doing.Doing.TheVariants as doing
use Rattle.dis_machine.specs.declared.running.Turn.TheVariants as turn
use Rattle.dis_machine.specs.Running.{told_by, stands_heard, IsHeard, NotHeard, MeansReply}
use Rattle.dis_machine.specs.Frames.{requests}
use Rattle.dis_machine.specs.Kept.{told_after, frames_on}
use Rattle.dis_machine.specs.Loaded.{HaveAll}
use Rattle.dis_machine.proofs.Keeping.{Told, same_kept, reply_kept, requests_reply, refused_happens, unread_happens}
use Rattle.dis_machine.specs.Standing.{AsksMore}
use Rattle.dis_machine.proofs.Asks.{after_reply}
use Rattle.dis_machine.proofs.machine.Machine.take_reply.Goals as goal

pub invariant_of-self-in_default-hear : goal.invariant_of-self-in_default-hear
invariant_of-self-in_default-hear c =
    let m = c.make_room.new.self in
    let n : NotHeard (objects_of m.codes.items) c.in-Some.reply m.running c.hear.new.self = c.in_default-hear.ensures.heard (objects_of m.codes.items) in
    record {
      kept = same_kept (objects_of m.codes.items) m.limit m.journal.items m.entered m.cut m.lacks m.running c.hear.new.self m.outcome m.kept m.lacks (c.in-Ok-make_room.ensures.others.lacks ∙ c.requires.able) n.same n.stands;
      loaded = subst (λ t. HaveAll t m.codes.items) (sym c.hear.ensures.tables) m.loaded;
      room = m.room;
      empty = m.empty;
      enough = m.enough;
    }

pub returns-in_default-hear-clause-refused : goal.returns-in_default-hear-clause-refused
returns-in_default-hear-clause-refused c =
    let m = c.args.self.now in
    let objects = objects_of m.codes.items in
    let n : NotHeard objects c.in-Some.reply m.running c.hear.new.self =
    subst (λ r. NotHeard objects c.in-Some.reply r c.hear.new.self) c.in-Ok-make_room.ensures.others.running (c.in_default-hear.ensures.heard objects) in
    let told = told_after objects m.journal.items m.cut in (
      refl,
      refused_happens objects c.in-Some.reply m.running c.args.link c.args.frame.items
          (subst (λ o. MeansReply m.running c.args.link c.args.frame.items o) c.in-Some.is (subst (λ f. MeansReply m.running c.args.link f c.in-Ok.reply) c.deref.ensures.value c.in-Ok.ensures.means)) told (n.refused told),
    )

pub invariant_of-self-in-NoMemory : goal.invariant_of-self-in-NoMemory
invariant_of-self-in-NoMemory c =
    let m = c.make_room.new.self in
    let objects = objects_of m.codes.items in
    let n : IsHeard objects c.in-Some.reply m.running c.hear.new.self turn.NoMemory =
    subst (λ t. IsHeard objects c.in-Some.reply m.running c.hear.new.self t) c.in-NoMemory.is (c.in-Some-hear.ensures.heard objects) in
    let stands = c.in-Some-hear.ensures.stands ∙ ap stands_heard c.in-NoMemory.is in
    record {
      kept = same_kept objects m.limit m.journal.items m.entered m.cut m.lacks m.running c.hear.new.self m.outcome m.kept true (c.in-Ok-make_room.ensures.others.lacks ∙ c.requires.able) n
          (stands ∙ sym (ap (λ r. r.doing) c.in-Ok-make_room.ensures.others.running ∙ subst (λ o. IfSome o (λ a. c.args.self.now.running.doing ≡ doing.Asking)) c.in-Some.is c.in-Ok.ensures.asking));
      loaded = subst (λ t. HaveAll t m.codes.items) (sym c.hear.ensures.tables) m.loaded;
      room = m.room;
      empty = m.empty;
      enough = m.enough;
    }

pub invariant_of-self-in_default-heard : goal.invariant_of-self-in_default-heard
invariant_of-self-in_default-heard c =
    let m = c.make_room.new.self in
    let o = c.in-Ok-make_room.ensures.others in
    let objects = objects_of m.codes.items in
    let t = c.in-Some-hear.heard in
    let asking : m.running.doing ≡ doing.Asking = ap (λ r. r.doing) o.running ∙ subst (λ o. IfSome o (λ a. c.args.self.now.running.doing ≡ doing.Asking)) c.in-Some.is c.in-Ok.ensures.asking in
    let means : MeansReply m.running c.args.link c.args.frame.items (Some c.in-Some.reply) =
    subst (λ r. MeansReply r c.args.link c.args.frame.items (Some c.in-Some.reply)) (sym o.running)
    (subst (λ o. MeansReply c.args.self.now.running c.args.link c.args.frame.items o) c.in-Some.is (subst (λ f. MeansReply c.args.self.now.running c.args.link f c.in-Ok.reply) c.deref.ensures.value c.in-Ok.ensures.means)) in
    let more = c.push_reserved.ensures.items ∙ ap (λ f. m.journal.items ++ event.Reply c.args.link f ∷ []) c.from_vec-frame.ensures in
    let told : Told m.outcome c.tell.new.self (told_by t) = record { asked = c.tell.ensures.asked; broke = c.tell.ensures.broke; faulted = c.tell.ensures.faulted } in
    let p = c.push_reserved.ensures in
    let entry = c.in-Ok-make_room.ensures.entry in
    record {
      kept = reply_kept objects m.limit m.journal.items m.entered m.cut m.lacks m.running c.hear.new.self m.outcome m.kept (o.lacks ∙ c.requires.able) asking c.in-Some.reply c.args.link c.args.frame.items means t c.in_default-heard.not-NoMemory (c.in-Some-hear.ensures.heard objects) c.push_reserved.new.self.items more c.tell.new.self c.in-Some-hear.ensures.stands told;
      loaded = subst (λ t. HaveAll t m.codes.items) (sym c.hear.ensures.tables) m.loaded;
      room = omega (arith, entry, p.len, p.capacity);
      empty = m.empty;
      enough = m.enough;
    }

pub returns-in_default-heard-clause-entered : goal.returns-in_default-heard-clause-entered
returns-in_default-heard-clause-entered c =
    let m = c.make_room.new.self in
    let before = c.args.self.now in
    let o = c.in-Ok-make_room.ensures.others in
    let objects = objects_of m.codes.items in
    let t = c.in-Some-hear.heard in
    let asking : m.running.doing ≡ doing.Asking = ap (λ r. r.doing) o.running ∙ subst (λ o. IfSome o (λ a. before.running.doing ≡ doing.Asking)) c.in-Some.is c.in-Ok.ensures.asking in
    let means : MeansReply m.running c.args.link c.args.frame.items (Some c.in-Some.reply) =
    subst (λ r. MeansReply r c.args.link c.args.frame.items (Some c.in-Some.reply)) (sym o.running)
    (subst (λ o. MeansReply before.running c.args.link c.args.frame.items o) c.in-Some.is (subst (λ f. MeansReply before.running c.args.link f c.in-Ok.reply) c.deref.ensures.value c.in-Ok.ensures.means)) in
    let more = c.push_reserved.ensures.items ∙ ap (λ f. m.journal.items ++ event.Reply c.args.link f ∷ []) c.from_vec-frame.ensures in
    let same : told_after objects m.journal.items m.cut ≡ told_after (objects_of before.codes.items) before.journal.items before.cut =
    ap (λ os. told_after (objects_of os.items) m.journal.items m.cut) o.same.0
    ∙ ap (λ js. told_after (objects_of before.codes.items) js m.cut) c.in-Ok-make_room.ensures.journal
    ∙ ap (λ n. told_after (objects_of before.codes.items) before.journal.items n) o.cut in
    record {
      journal = more ∙ ap (λ js. js ++ event.Reply c.args.link c.args.frame.items ∷ []) c.in-Ok-make_room.ensures.journal;
      asked = λ link. record {
        more = requests link (told_by t);
        asked = requests_reply objects m.limit m.journal.items m.entered m.cut m.lacks m.running c.hear.new.self m.outcome m.kept (o.lacks ∙ c.requires.able) asking c.in-Some.reply c.args.link c.args.frame.items means t c.in_default-heard.not-NoMemory (c.in-Some-hear.ensures.heard objects) c.push_reserved.new.self.items more link ∙ ap (λ s. requests link s ++ requests link (told_by t)) same;
        outbox = c.tell.ensures.asked link ∙ ap (λ xs. frames_on link xs ++ requests link (told_by t)) c.in-Ok-make_room.ensures.same.outbox;
      };
      same = o.same;
    }

pub returns-in_default-heard-clause-asks : goal.returns-in_default-heard-clause-asks
returns-in_default-heard-clause-asks c =
    let m = c.args.self.now in
    let t = c.in-Some-hear.heard in
    let more = c.tell.ensures.asked 1 ∙ ap (λ xs. frames_on 1 xs ++ requests 1 (told_by t)) c.in-Ok-make_room.ensures.same.outbox in
    let asks = after_reply (frames_on 1 m.outcome.outbox.items) (frames_on 1 c.tell.new.self.outbox.items) t c.hear.new.self.process.printing c.in_default-heard.not-NoMemory c.in-Some-hear.ensures.sent more in
    subst (λ d. AsksMore (frames_on 1 m.outcome.outbox.items) (frames_on 1 c.tell.new.self.outbox.items) d c.hear.new.self.process.printing) (sym c.in-Some-hear.ensures.stands) asks

pub returns-in_default-reply-clause-refused : goal.returns-in_default-reply-clause-refused
returns-in_default-reply-clause-refused c =
    let m = c.args.self.now in
    let means : MeansReply m.running c.args.link c.args.frame.items None =
    subst (λ o. MeansReply m.running c.args.link c.args.frame.items o) c.in_default-reply.is
    (subst (λ f. MeansReply m.running c.args.link f c.in-Ok.reply) c.deref.ensures.value c.in-Ok.ensures.means) in
    (refl, unread_happens (objects_of m.codes.items) m.running c.args.link c.args.frame.items means (told_after (objects_of m.codes.items) m.journal.items m.cut))
