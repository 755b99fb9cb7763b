-- A print gives the frame that is made the text of its format.
use Rattle.std.proofs.Common.{◌≡◌, ℕ, suc, ◌+◌, pos, ◌*◌, true, [], ◌∷◌, length, Some, None, refl, sym, ap, ◌∙◌, arith, if◌then◌else◌}
use Rattle.std.specs.Prelude.{slice_get, slice_set}
use Rattle.process_model.specs.Process.{Went}
use Rattle.dis_isa.specs.declared.inst.Operand.TheVariants as operand
use Rattle.dis_isa.specs.declared.inst.Middle.TheVariants as middle
use Rattle.dis_isa.specs.declared.op.Op.TheVariants as op
use Rattle.system_model.specs.Limits.{frames_limit}
use Rattle.typed_meaning.specs.World as program
use Rattle.slot_code.specs.Code.{Module}
use Rattle.slot_code.specs.Machine as machine
use Rattle.dis_meaning.specs.Words.{Refer, Found, Wrong, ◌>>=◌, type_check, or_wrong, word_at, reference, fits, stored}
use Rattle.dis_meaning.specs.World.{World}
use Rattle.dis_meaning.specs.Process.{Frame, Process, with_words}
use Rattle.dis_meaning.specs.Places.{data_at, spot, store}
use Rattle.dis_meaning.specs.Step as dis_step
use Rattle.dis_meaning.specs.Step.{next}
use Rattle.dis_objects.specs.Code.{inst, in_made}
use Rattle.dis_objects.specs.Objects.{object_of}
use Rattle.dis_objects.specs.Proper.{IsProper}
use Rattle.dis_follows.specs.Stands.{Known, ArePlain, Printing, formatted, WorldStands}
use Rattle.dis_follows.proofs.Stores.{set_other, set_length}
use Rattle.dis_follows.proofs.Runs.{step_is}
use Rattle.dis_follows.proofs.Operands.{data_are}
use Rattle.dis_follows.proofs.Written.{set_there}
use Rattle.dis_follows.proofs.Far as far
use Rattle.dis_follows.proofs.Printings.{format_marks, its_code, own, below, spot_in, then_made, printing_on, goes_further, P, C}
use Rattle.dis_follows.proofs.Decided.{Goal}

marked : (j : ℕ) → j ≡ 8 → slice_get format_marks j ≡ Some true
marked j e = ap (slice_get format_marks) e

module _ (m : Module) (proper : IsProper m) (k : Known) (number : ℕ) (w : program.World) (x : World) (ws : WorldStands m k w x)
    (p : machine.Process) (r : Process) (n : Frame) (h : Printing m k p r 1 n) (blank : slice_get n.words 8 ≡ Some (Refer None)) where
  pub gives_format : Goal m proper k number w x ws p r (dis_step.step frames_limit (object_of m ∷ []) x r)
  gives_format =
      let c = its_code m proper k number w x ws p r 0 n h in
      let serial = c.text.0 in
      let new = Refer (Some serial) in
      let after = slice_set n.words 8 new in
      let i = inst op.Movp (operand.Mp (pos c.at)) middle.None (in_made (C m proper k number w x ws p r 0 n h) 32) in
      let read : (data_at x r.frame.instance >>= λ words. word_at words (pos c.at)) ≡ Found new =
      ap (λ n. data_at x n >>= λ words. word_at words (pos c.at)) h.making.running.frame.instance
      ∙ ap (λ a. a >>= λ words. word_at words (pos c.at)) (data_are m k w x ws) ∙ c.text.1 in
      let put : stored n.words (pos 32) new ≡ Found after =
      ap (λ o. or_wrong type_check o >>= λ old. if fits old new then Found after else Wrong type_check) blank in
      let store_is = far.made_stored x r n h.making.running.frames (own m proper k number w x ws p r 0 n h)
      (below m proper k number w x ws p r 0 n h) (pos 32)
      new after put in
      let there : slice_get (object_of m).insts r.frame.pc ≡ Some i =
      ap (slice_get (object_of m).insts) (h.making.running.frame.here
      ∙ (let q : 1 + P m proper k number w x ws p r 0 n h ≡ suc (P m proper k number w x ws p r 0 n h) = omega arith in q)) ∙ c.code.1.0 in
      let stepped : suc r.frame.pc ≡ 2 + P m proper k number w x ws p r 0 n h = omega (arith, h.making.running.frame.here) in
      let steps : dis_step.step frames_limit (object_of m ∷ []) x r ≡ Went x (then_made m proper k number w x ws p r 0 n h after) =
      step_is m k w x r i _ ws h.making.running.frame.instance there
      (ap (λ a. a >>= reference >>= λ r'. spot x r (in_made (C m proper k number w x ws p r 0 n h) 32) >>= λ d.
      store x r d (Refer r') >>= λ m. Found (next m)) read
      ∙ ap (λ a. a >>= λ d. store x r d new >>= λ m. Found (next m)) (spot_in m proper k number w x ws p r 0 n h 32)
      ∙ ap (λ a. a >>= λ m. Found (next m)) store_is)
      ∙ ap (λ pc. Went x (record {
        number = r.number;
        frame = record { serial = r.frame.serial; instance = r.frame.instance; pc = pc; words = r.frame.words };
        below = r.below;
        made = with_words n after ∷ [];
        printing = None;
      })) stepped in
      let long : 4 * length after ≡ Rattle.dis_objects.specs.Objects.most_of_all m.functions = ap (λ n. 4 * n) (set_length n.words 8 new)
      ∙ h.long in
      goes_further m proper k number w x ws p r 0 n h i _ after (omega arith)
      (ap (slice_get (object_of m).insts) (omega arith) ∙ c.code.1.0) (ap (slice_get (object_of m).insts) (omega arith)
      ∙ c.code.1.1.0) refl refl steps
      (formatted (with_words n after) (printing_on m proper k number w x ws p r 0 n h after long still)
      (serial, set_there n.words 8 new (Refer None) blank, c.text.2))
    where
      still : ArePlain format_marks (slice_set n.words 8 (Refer (Some (its_code m proper k number w x ws p r 0 n h).text.0)))
      still j u e free =
          h.plain j u (sym (set_other n.words 8 j _ (λ q. free (marked j q))) ∙ e) free
