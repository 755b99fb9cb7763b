-- What a reply to a print comes to.
use Rattle.std.proofs.Common.{◌≡◌, ℕ, ℤ, refl, sym, ap, ◌∙◌, subst}
use Rattle.styx_msg.specs.declared.message.Rmsg.{Rmsg}
use Rattle.process_model.specs.Process.{Effect, Went}
use Rattle.process_model.specs.Follows.{MatchesReply}
use Rattle.limbo_values.specs.declared.number.Kind.TheVariants.{Int}
use Rattle.system_model.specs.Values.{Value, Num}
use Rattle.system_model.specs.Prints.{Request, Printing as Outcome, Answers, Requests, NoReply, hear}
use Rattle.system_model.specs.Ending.{Ending}
use Rattle.typed_meaning.specs.Values.{number_of}
use Rattle.typed_meaning.specs.World as program
use Rattle.typed_meaning.specs.World.{with_outside}
use Rattle.slot_code.specs.Code.{Module}
use Rattle.slot_code.specs.Machine as machine
use Rattle.slot_code.specs.Step as slot_step
use Rattle.dis_meaning.specs.Words.{Place, Address, Found, ◌>>=◌}
use Rattle.dis_meaning.specs.World.{World}
use Rattle.dis_meaning.specs.Process as dis
use Rattle.dis_meaning.specs.Process.{Process, at_pc, with_frames}
use Rattle.dis_meaning.specs.Step as dis_step
use Rattle.dis_meaning.specs.Step.{outside_is}
use Rattle.dis_follows.specs.Stands.{Known, FrameWaits, Asking, begins, WorldStands, sides}
use Rattle.dis_follows.proofs.Runs.{as_known}
use Rattle.dis_follows.proofs.Frames.{number_within}
use Rattle.dis_follows.proofs.Advances.{stack_same}
use Rattle.dis_follows.proofs.Far as far
use Rattle.dis_follows.proofs.Prints.{own_below}
use Rattle.dis_follows.proofs.Delivered as delivered
use Rattle.dis_follows.proofs.Delivered.{AnswersInt, hear_int, outside_stands, delivers}

module _ (m : Module) (k : Known) (number : ℕ) (w : program.World) (x : World) (ws : WorldStands m k w x) (p : machine.Process)
    (r : Process)
    (h : Asking m k p r) where
  abbrev M : Effect program.World machine.Process Value Request Ending → dis.Does → Type 0
  M e f = MatchesReply (sides m) k number x e f

  abbrev waits : FrameWaits m p.frame (at_pc r.frame r.frame.pc)
  waits = h.waits

  below : far.NoneHas r.frame.serial r.below
  below = own_below m h.waits.stands.function r.frame p.below r.below h.stack

  abbrev at_place : Place
  at_place = delivered.at_place m k w x ws p r p.frame r.frame.pc waits h.int h.frames below p.frame.into

  abbrev at_byte : ℤ
  at_byte = delivered.at_byte m k w x ws p r p.frame r.frame.pc waits h.int h.frames below p.frame.into

  same_address : Address h.place h.at ≡ Address at_place at_byte
  same_address = sym h.answers ∙ delivered.address_is m k w x ws p r p.frame r.frame.pc waits h.int h.frames below p.frame.into

  same_place : h.place ≡ at_place
  same_place = let e = same_address in cc

  same_byte : h.at ≡ at_byte
  same_byte = let e = same_address in cc

  hears_alike : (g : Outcome) → AnswersInt g → M (machine.prints w p p.frame g) (dis_step.hears x r h.place h.at g)
  hears_alike NoReply int = tt
  hears_alike (Requests v message kk) int = record {
    now = k;
    changes = as_known k;
    world = with_outside w v;
    after = _;
    does = refl;
    related = record {
      loaded = h.loaded;
      number = h.number;
      waits = h.waits;
      int = h.int;
      stack = h.stack;
      frames = h.frames;
      fresh = h.fresh;
      writing = kk;
      place = h.place;
      at = h.at;
      answers = h.answers;
      printing = refl;
      printing_too = refl;
    };
    worlds = outside_stands m k w x ws v;
  }
  hears_alike (Answers v a) (z, same, range) =
      let w' = with_outside w v in
      let x' = outside_is x v in
      let ws' = outside_stands m k w x ws v in
      let d = delivers m k w' x' ws' p r p.frame r.frame.pc waits h.int h.frames below z range in
      let N = delivered.M m k w' x' ws' p r p.frame r.frame.pc waits h.int h.frames below p.frame.into d.after in
      let after = delivered.on_with m k w' x' ws' p r p.frame r.frame.pc waits h.int h.frames below N.process.frame.words in
      let on = λ (m : Rattle.dis_meaning.specs.Places.Memory).
      Went m.world (with_frames m.process m.process.frame m.process.below m.process.made) in
      let steps : dis_step.hears x r h.place h.at (Answers v a) ≡ Went N.world after =
      ap (λ q. dis.or_fault x r (dis_step.answered x' r q h.at a >>= λ m. Found (on m))) same_place
      ∙ ap (λ b. dis.or_fault x r (dis_step.answered x' r at_place b a >>= λ m. Found (on m))) same_byte
      ∙ ap (λ a. dis.or_fault x r (dis_step.answered x' r at_place at_byte a >>= λ m. Found (on m))) same
      ∙ ap (λ a. dis.or_fault x r (a >>= λ m. Found (on m))) d.stores
      ∙ ap (λ pc. Went N.world (with_frames N.process (at_pc N.process.frame pc) N.process.below N.process.made)) d.stays
      ∙ ap (Went N.world) d.goes in
      subst (M (machine.prints w p p.frame (Answers v a))) (sym steps) (record {
        now = k;
        changes = as_known k;
        world = (machine.stored w' p.frame p.frame.into (Num z)).world;
        after = _;
        does = ap (λ a. machine.goes_with p p.below p.frame.pc (machine.stored w' p.frame p.frame.into (number_of p.frame.answer a))) same
            ∙ ap (λ j. machine.goes_with p p.below p.frame.pc (machine.stored w' p.frame p.frame.into (number_of j (Num z)))) h.int
            ∙ ap (λ u. machine.goes_with p p.below p.frame.pc (machine.stored w' p.frame p.frame.into u)) (number_within Int z range);
        related = begins (d.runs h.loaded h.number (stack_same m h.waits.stands.function r.frame _ p.below r.below refl refl h.stack)
            h.fresh);
        worlds = d.worlds;
      })

  pub answers_alike : (a : Rmsg) → M (slot_step.answer a w p) (dis_step.answer a x r)
  answers_alike a =
      subst (λ c. M (slot_step.heard a w p c) (dis_step.answer a x r)) (sym h.printing)
      (subst (λ d. M (machine.prints w p p.frame (hear a w.outside h.writing)) (dis_step.heard a x r d)) (sym h.printing_too)
      (subst (λ v. M (machine.prints w p p.frame (hear a w.outside h.writing)) (dis_step.hears x r h.place h.at (hear a v h.writing)))
      (sym ws.outside)
      (hears_alike (hear a w.outside h.writing) (hear_int a w.outside h.writing))))
