use Rattle.std.proofs.Common.{◌∷◌, sym, ap, ◌∙◌, subst}
use Rattle.std.specs.List.{remove}
use Rattle.std.proofs.lemmas.Option.{get_or_from_slice_get}
use Rattle.dis_steps.specs.Codes.{objects_of}
use Rattle.dis_machine.specs.Frames.{requests}
use Rattle.dis_machine.specs.Kept.{told_after, frames_on, IsOldest, EndsWith, Keeps}
use Rattle.dis_machine.proofs.Outbox.{handed, others_stay, left_over}
use Rattle.dis_machine.proofs.machine.Machine.next_frame.Goals as goal

pub invariant_of-self : goal.invariant_of-self
invariant_of-self c =
    let m = c.args.self.now in
    let ms = m.outcome.outbox.items in
    let place = c.in_ok-place.place in
    let o : IsOldest c.args.link ms place = subst (λ xs. IsOldest c.args.link xs place) c.deref.ensures.value c.in_ok-place.ensures in
    let after = c.remove-request.ensures.items in
    let told = told_after (objects_of m.codes.items) m.journal.items m.cut in
    let k = m.kept in
    let keeps : Keeps told (record { outbox = c.remove-request.new.self; broken = m.outcome.broken; fault = m.outcome.fault }) = record {
      fault = k.keeps.fault;
      broken = k.keeps.broken;
      outbox = λ link. subst (λ xs. EndsWith (frames_on link xs) (requests link told)) (sym after) (left_over c.args.link ms place o link (requests link told) (k.keeps.outbox link));
    } in
    record {
      kept = record { leads = k.leads; keeps = keeps; counted = k.counted; within = k.within; whole = k.whole; short = k.short; started = k.started; sound = k.sound };
      loaded = m.loaded;
      room = m.room;
      empty = m.empty;
      enough = m.enough;
    }

pub returns-clause-frame : goal.returns-clause-frame
returns-clause-frame c =
    let ms = c.args.self.now.outcome.outbox.items in
    let place = c.in_ok-place.place in
    let o : IsOldest c.args.link ms place = subst (λ xs. IsOldest c.args.link xs place) c.deref.ensures.value c.in_ok-place.ensures in
    let same = c.remove-request.ensures.value ∙ get_or_from_slice_get ms place o.request c.remove-request.result o.there in
    handed c.args.link ms place o
    ∙ ap (λ m. m.frame.items ∷ frames_on c.args.link (remove ms place)) (sym same)
    ∙ ap (λ xs. c.remove-request.result.frame.items ∷ frames_on c.args.link xs) (sym c.remove-request.ensures.items)

pub returns-clause-others : goal.returns-clause-others
returns-clause-others c = λ other ne.
    let ms = c.args.self.now.outcome.outbox.items in
    let place = c.in_ok-place.place in
    let o : IsOldest c.args.link ms place = subst (λ xs. IsOldest c.args.link xs place) c.deref.ensures.value c.in_ok-place.ensures in
    ap (frames_on other) c.remove-request.ensures.items ∙ others_stay c.args.link ms place o other ne
