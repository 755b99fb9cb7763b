-- A print keeps the address of the place for its answer in the frame that is made.
use Rattle.std.proofs.Common.{◌≡◌, ℕ, suc, ◌+◌, ◌<◌, ◌≤◌, pos, ℤ, ◌*◌, true, inl, inr, List, [], ◌∷◌, Some, refl, ap, ◌∙◌, subst, arith}
use Rattle.std.specs.Prelude.{slice_get}
use Rattle.process_model.specs.Process.{Went}
use Rattle.limbo_values.specs.declared.number.Kind.{Kind}
use Rattle.limbo_values.specs.declared.number.Kind.TheVariants.{Int}
use Rattle.system_model.specs.Limits.{frames_limit}
use Rattle.typed_meaning.specs.World as program
use Rattle.slot_code.specs.Code.{Spot, Variable, Global, Temporary, Argument, Function, Module}
use Rattle.slot_code.specs.Machine as machine
use Rattle.dis_meaning.specs.Words.{Found, or_wrong, type_check, number_in, ◌>>=◌}
use Rattle.dis_meaning.specs.Numbers.{number_at}
use Rattle.dis_meaning.specs.World.{World}
use Rattle.dis_meaning.specs.Process.{Frame, Process, with_words}
use Rattle.dis_meaning.specs.Step as dis_step
use Rattle.dis_objects.specs.Frames.{Callee, Prints, argument_place, all_bytes, most_bytes, printed_kinds, count, inst_count, made_at}
use Rattle.dis_objects.specs.Frames.{room_of}
use Rattle.dis_objects.specs.Frames as frames
use Rattle.dis_objects.specs.Code.{answer_to, place}
use Rattle.dis_objects.specs.Code as objects
use Rattle.dis_objects.specs.Objects.{object_of, context}
use Rattle.dis_objects.specs.Proper.{IsProper, IsRead, IsWritten}
use Rattle.dis_follows.specs.Stands.{Known, AllReady, HasNumbers, HasFormat, HasPrinted, Running, Printing, answering as in_answering}
use Rattle.dis_follows.specs.Stands.{WorldStands}
use Rattle.dis_follows.proofs.Written.{holds_on}
use Rattle.dis_follows.proofs.Runs.{blocks_fit, counted}
use Rattle.dis_follows.proofs.Simple.{spot_counted}
use Rattle.dis_follows.proofs.Linkage.{get_some, number_of_plain}
use Rattle.dis_follows.proofs.Blocks.{lies}
use Rattle.dis_follows.proofs.Addresses.{answering, with_made}
use Rattle.dis_follows.proofs.Printings.{format_marks, its_code, its_proper, has_room, printing_on, then_made, goes_further}
use Rattle.dis_follows.proofs.Decided.{Goal}

-- What is read may be written to.
pub read_written : (m : Module) (f : Function) (cs : List Callee) (s : Spot) → IsRead m f s → IsWritten m f cs s
read_written m f cs (Variable k x) h = h
read_written m f cs (Global k x) h = h
read_written m f cs (Temporary k n) h = h
read_written m f cs (Argument k i) h = absurd h

unmarked : slice_get format_marks 4 ≡ Some true → ⊥
unmarked e = cc

module _ (m : Module) (proper : IsProper m) (k : Known) (number : ℕ) (w : program.World) (x : World) (ws : WorldStands m k w x)
    (p : machine.Process) (r : Process) (n : Frame) (h : Printing m k p r 3 n) (format : HasFormat m h.pieces n)
    (has : HasPrinted m h.pieces h.ready n) where
  abbrev H : Running m k p r 3 (n ∷ [])
  H = h.making.running

  abbrev F : Function
  F = H.frame.function

  abbrev CS : List Callee
  CS = made_at F.code p.frame.pc

  abbrev R : frames.Room
  R = room_of m.functions F

  abbrev C : objects.Context
  C = context m p.frame.function F

  abbrev P : ℕ
  P = place C p.frame.pc

  -- A word is at 16 of the frame that is made.
  old : (z : ℤ) × (number_at Int n.words (pos 16) ≡ Found z)
  old =
      let room = has_room m proper k number w x ws p r 2 n h in
      let s = get_some n.words 4 (omega (arith, room)) in
      let z = number_of_plain m F CS p.frame r.frame.words H.frame.has s.0 (h.plain 4 s.0 s.1 unmarked) in
      (z.0, ap (λ o. or_wrong type_check o >>= number_in) s.1 ∙ z.1)

  pub keeps_print_address : Goal m proper k number w x ws p r (dis_step.step frames_limit (object_of m ∷ []) x r)
  keeps_print_address =
      let c = its_code m proper k number w x ws p r 2 n h in
      let q = its_proper m proper k number w x ws p r 2 n h in
      let fit : all_bytes m.functions (Prints h.pieces ∷ h.cs) ≤ most_bytes m.functions [] F.code =
      subst (λ cs. all_bytes m.functions cs ≤ most_bytes m.functions [] F.code) h.callee (blocks_fit m proper k w x ws p r 3 (n ∷ []) H) in
      let ready : AllReady m r.frame.words R (Prints h.pieces ∷ h.cs) (h.ready ∷ h.others) =
      subst (λ cs. AllReady m r.frame.words R cs (h.ready ∷ h.others)) h.callee
      (subst (AllReady m r.frame.words R CS) h.first H.frame.has.made) in
      let others : HasNumbers m F h.cs (record p.frame { made = h.others }) r.frame.words = record {
        long = H.frame.has.long;
        plain = H.frame.has.plain;
        many = H.frame.has.many;
        variables = H.frame.has.variables;
        temporaries = H.frame.has.temporaries;
        made = ready.1;
      } in
      let few : (j : Kind) (t : ℕ) → h.into ≡ Temporary j t → t < count j F.code =
      λ j t e. let a = spot_counted j t h.into e in
      let b = counted m proper k w x ws p r 3 (n ∷ []) H j in
      let d = subst (λ i. inst_count j i ≤ count j F.code) h.is b in omega (arith, a, d) in
      let i = answer_to C h.cs h.into in
      let there : slice_get (object_of m).insts r.frame.pc ≡ Some i =
      ap (slice_get (object_of m).insts) (H.frame.here ∙ (let o : 3 + P ≡ suc (suc (suc P)) = omega arith in o)) ∙ c.code.1.1.1.0 in
      let a = answering m k w x ws p r 3 n h.making h.cs (record p.frame { made = h.others }) others H.frame.first
      (omega (arith, fit)) q.on.made h.into (read_written m F h.cs h.into q.written) few old.0 old.1 there in
      let after = a.stored.after in
      let stepped : suc r.frame.pc ≡ 4 + P = omega (arith, H.frame.here) in
      let steps : dis_step.step frames_limit (object_of m ∷ []) x r ≡ Went x (then_made m proper k number w x ws p r 2 n h after) =
      a.steps ∙ ap (λ pc. Went x (with_made m k w x ws p r 3 n h.making after pc)) stepped in
      let keeps_format : HasFormat m h.pieces (with_words n after) =
      (format.0, a.stored.words_stay.others 8 (inr (omega arith)) ∙ format.1, format.2) in
      let keeps_printed : HasPrinted m h.pieces h.ready (with_words n after) =
      λ j t e.
      let at = argument_place m.functions (Prints h.pieces) j in
      let l = lies m (Prints h.pieces) j t at (e, refl) in
      let low = l.first in
      holds_on t n.words after at (h.ready.arguments j) (a.stored.others t at (inl (omega (arith, low)))) (has j t e) in
      goes_further m proper k number w x ws p r 2 n h i _ after (omega arith)
      (ap (slice_get (object_of m).insts) (omega arith) ∙ c.code.1.1.1.0) (ap (slice_get (object_of m).insts) (omega arith)
      ∙ c.code.1.1.1.1.0) refl refl steps
      (in_answering (with_words n after)
      (printing_on m proper k number w x ws p r 2 n h after (ap (λ n. 4 * n) a.stored.words_stay.long
      ∙ h.long) (a.stored.still format_marks h.plain))
      keeps_format keeps_printed a.answers)
