-- A print gives the frame that is made its arguments.
use Rattle.std.proofs.Common.{◌≡◌, ℕ, suc, ◌+◌, ◌-◌, ◌<◌, ◌≤◌, pos, ◌/◌, ◌*◌, Bool, true, false, inl, List, [], ◌∷◌, length, Some, None}
use Rattle.std.proofs.Common.{refl, sym, ap, ◌∙◌, subst, arith}
use Rattle.std.specs.Prelude.{slice_get}
use Rattle.process_model.specs.Process.{Went}
use Rattle.dis_isa.specs.declared.inst.Operand.TheVariants as operand
use Rattle.limbo_values.specs.declared.number.Kind.TheVariants.{Int}
use Rattle.system_model.specs.Limits.{frames_limit}
use Rattle.typed_meaning.specs.World as program
use Rattle.slot_code.specs.Code.{Function, Module}
use Rattle.slot_code.specs.Machine as machine
use Rattle.dis_meaning.specs.Words.{InFrame, Found}
use Rattle.dis_meaning.specs.World.{World}
use Rattle.dis_meaning.specs.Process.{Frame, Process, with_words}
use Rattle.dis_meaning.specs.Places.{Own, Far, given_of}
use Rattle.dis_meaning.specs.Step as dis_step
use Rattle.dis_objects.specs.Frames.{Callee, Prints, block_place, argument_bytes, argument_place, all_bytes, most_bytes, printed_kinds}
use Rattle.dis_objects.specs.Code.{place, passed as passed_code, bytes_data, unless_fits, fits_middle, number_middle}
use Rattle.dis_objects.specs.Code as objects
use Rattle.dis_objects.specs.Objects.{object_of}
use Rattle.dis_objects.specs.Proper.{IsProper}
use Rattle.dis_follows.specs.Stands.{Known, AllReady, HasData, HasFormat, HasPrinted, Printing, printed, WorldStands}
use Rattle.dis_follows.proofs.Runs.{step_is, blocks_fit}
use Rattle.dis_follows.proofs.Operands.{at_data}
use Rattle.dis_follows.proofs.Linkage.{get_some}
use Rattle.dis_follows.proofs.Moved.{PlainFrom, AllPlain, reads, put}
use Rattle.dis_follows.proofs.Zeros.{bytes_aligned, block_aligned}
use Rattle.dis_follows.proofs.Begins.{word_is, moves_words, get_far}
use Rattle.dis_follows.proofs.Blocks.{lies}
use Rattle.dis_follows.proofs.Shifted.{shifted}
use Rattle.dis_follows.proofs.Passed.{plain_behind}
use Rattle.dis_follows.proofs.Far as far
use Rattle.dis_follows.proofs.Printings.{format_marks, put_plain, its_code, has_room, own, below, spot_in, then_made, printing_on}
use Rattle.dis_follows.proofs.Printings.{goes_further}
use Rattle.dis_follows.proofs.Decided.{Goal}

unmarked : (j : ℕ) → 9 ≤ j → slice_get format_marks j ≡ Some true → ⊥
unmarked j l e = let no : Some true ≡ None = sym e ∙ get_far format_marks j l in cc

module _ (m : Module) (proper : IsProper m) (k : Known) (number : ℕ) (w : program.World) (x : World) (ws : WorldStands m k w x)
    (p : machine.Process) (r : Process) (n : Frame) (h : Printing m k p r 2 n) (format : HasFormat m h.pieces n) where
  abbrev hh : Rattle.dis_follows.specs.Stands.Running m k p r 2 (n ∷ [])
  hh = h.making.running

  abbrev FF : Function
  FF = hh.frame.function

  abbrev CC : objects.Context
  CC = Rattle.dis_objects.specs.Objects.context m p.frame.function FF

  abbrev RR : Rattle.dis_objects.specs.Frames.Room
  RR = Rattle.dis_objects.specs.Frames.room_of m.functions FF

  abbrev PP : ℕ
  PP = place CC p.frame.pc

  abbrev CCS : List Callee
  CCS = Rattle.dis_objects.specs.Frames.made_at FF.code p.frame.pc

  count_read : (n at : ℕ) → HasData m ws.words at (bytes_data n) → given_of Int x r (number_middle (fits_middle (pos n)) (pos n) at)
      ≡ Found (pos n)
  count_read n at d = go (fits_middle (pos n)) d
    where
      go : (b : Bool) → HasData m ws.words at (unless_fits b (objects.Word (pos n))) → given_of Int x r (number_middle b (pos n) at)
          ≡ Found (pos n)
      go true d = refl
      go false d = at_data m k w x ws p.frame r FF CCS hh.frame.has hh.frame.instance hh.frame.first Int at (pos n) d.0

  -- The words behind the format are plain.
  plain_there : (count : ℕ) → 36 + 4 * count ≤ 4 * length n.words → PlainFrom n.words 9 count
  plain_there count l i less =
      let s = get_some n.words (9 + i) (omega (arith, l, less)) in
      (s.0, s.1, h.plain (9 + i) s.0 s.1 (unmarked (9 + i) (omega arith)))

  pub gives_arguments : Goal m proper k number w x ws p r (dis_step.step frames_limit (object_of m ∷ []) x r)
  gives_arguments =
      let c = its_code m proper k number w x ws p r 1 n h in
      let room = has_room m proper k number w x ws p r 1 n h in
      let N = argument_bytes m.functions (Prints h.pieces) in
      let B = block_place m.functions RR h.cs in
      let na = bytes_aligned m (Prints h.pieces) in
      let ba = block_aligned m FF h.cs in
      let b_is : B ≡ 4 * (B / 4) = omega (arith, ba) in
      let n_is : N ≡ 4 * (N / 4) = omega (arith, na) in
      let fit : all_bytes m.functions (Prints h.pieces ∷ h.cs) ≤ most_bytes m.functions [] FF.code =
      subst (λ cs. all_bytes m.functions cs ≤ most_bytes m.functions [] FF.code) h.callee (blocks_fit m proper k w x ws p r 2 (n ∷ []) hh)
      in
      let rd = reads r.frame.words (B / 4) (N / 4) (plain_behind m FF CCS p.frame r.frame.words hh.frame.has (B / 4) (N / 4)
      (omega (arith, ba))
      (omega (arith, ba, na, fit))) in
      let vs = rd.found in
      let vs_many : N ≡ 4 * length vs = n_is ∙ ap (λ n. 4 * n) (sym rd.many) in
      let vs_plain : AllPlain vs (length vs) = subst (AllPlain vs) (sym rd.many) rd.plain in
      let each : (i : ℕ) → i < length vs → slice_get vs i ≡ slice_get r.frame.words (B / 4 + i) =
      λ i l. let mn = rd.many in rd.each i (omega (arith, l, mn)) in
      let pt = put n.words 9 vs (plain_there (length vs) (omega (arith, room, vs_many))) vs_plain in
      let ready : AllReady m r.frame.words RR (Prints h.pieces ∷ h.cs) (h.ready ∷ h.others) =
      subst (λ cs. AllReady m r.frame.words RR cs (h.ready ∷ h.others)) h.callee
      (subst (AllReady m r.frame.words RR CCS) h.first hh.frame.has.made) in
      let i = passed_code CC h.cs (Prints h.pieces) (c.at + 4) in
      let there : slice_get (object_of m).insts r.frame.pc ≡ Some i =
      ap (slice_get (object_of m).insts) (hh.frame.here ∙ (let o : 2 + PP ≡ suc (suc PP) = omega arith in o)) ∙ c.code.1.1.0 in
      let here : suc r.frame.pc ≡ 3 + PP = omega (arith, hh.frame.here) in
      let steps : dis_step.step frames_limit (object_of m ∷ []) x r ≡ Went x (then_made m proper k number w x ws p r 1 n h pt.after) =
      step_is m k w x r i _ ws hh.frame.instance there
      (moves_words frames_limit (object_of m) x r (operand.Fp (pos B)) (operand.IndFp (pos RR.made) (pos 36))
      (number_middle (fits_middle (pos N)) (pos N) (c.at + 4))
      (Own (pos B)) (Far (InFrame n.serial) (pos 36)) r.frame.words n.words vs pt.after (B / 4) N 9 _ refl refl
      (word_is B ba) (count_read N (c.at + 4) c.constants) na rd.is (spot_in m proper k number w x ws p r 1 n h 36)
      (far.made_words x r n hh.frames (own m proper k number w x ws p r 1 n h) (below m proper k number w x ws p r 1 n h) (pos 36)) refl
      pt.is
      (far.made_with x r n hh.frames (own m proper k number w x ws p r 1 n h) (below m proper k number w x ws p r 1 n h) (pos 36) pt.after))
      ∙ ap (λ pc. Went x (record {
        number = r.number;
        frame = record { serial = r.frame.serial; instance = r.frame.instance; pc = pc; words = r.frame.words };
        below = r.below;
        made = with_words n pt.after ∷ [];
        printing = None;
      })) here in
      let keeps_format : HasFormat m h.pieces (with_words n pt.after) =
      (format.0, pt.others 8 (inl (omega arith)) ∙ format.1, format.2) in
      let has_printed : HasPrinted m h.pieces h.ready (with_words n pt.after) =
      λ j q e.
      let at = argument_place m.functions (Prints h.pieces) j in
      let l = lies m (Prints h.pieces) j q at (e, refl) in
      let low = l.first in
      let high = l.last in
      let v = ready.0.each j q at (e, refl) in
      record {
        number = v.number;
        is = v.is;
        range = v.range;
        there = shifted q pt.after r.frame.words at (B + (at - 36)) 9 (B / 4) (at - 36) (omega (arith, low)) (omega (arith, b_is))
            (λ i l l'. pt.each i (omega (arith, l', high, low, vs_many)) ∙ each i (omega (arith, l', high, low, vs_many)))
            ∙ v.there;
      } in
      goes_further m proper k number w x ws p r 1 n h i _ pt.after (omega arith)
      (ap (slice_get (object_of m).insts) (omega arith) ∙ c.code.1.1.0) (ap (slice_get (object_of m).insts) (omega arith)
      ∙ c.code.1.1.1.0) refl refl steps
      (printed (with_words n pt.after)
      (printing_on m proper k number w x ws p r 1 n h pt.after (ap (λ n. 4 * n) pt.long
      ∙ h.long) (put_plain format_marks n.words vs 9 vs_plain pt h.plain))
      keeps_format has_printed)
