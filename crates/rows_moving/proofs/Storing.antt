-- A number or a reference that is stored as part of a variable, and two processes that stand for one another then.
use Rattle.std.proofs.Common.{◌≡◌, ◌⊎◌, ℕ, ℤ, suc, pos, ◌+◌, ◌*◌, ◌/◌, ◌≤◌, List, [], ◌∷◌, length, Option, Some, refl, sym, ap, ◌∙◌, subst, arith, inl, inr}
use Rattle.std.specs.Prelude.{slice_get, slice_set}
use Rattle.limbo_types.specs.Types as ty
use Rattle.limbo_types.specs.Types.{Ty}
use Rattle.limbo_layout.specs.Adts.{Def, Has}
use Rattle.limbo_layout.specs.Layout.{Room}
use Rattle.limbo_values.specs.declared.number.Kind.TheVariants as kind
use Rattle.limbo_values.specs.Numbers.{InRange}
use Rattle.limbo_typed.specs.Typed as typed
use Rattle.limbo_meaning.specs.Process.{Shared}
use Rattle.limbo_meaning.specs.Places.{part_at, with_part}
use Rattle.limbo_meaning.specs.Memory.{with_variables}
use Rattle.limbo_meaning.specs.Values.{Value, Num, fitted}
use Rattle.system_model.specs.Limits.{frames_limit}
use Rattle.core_code.specs.Code.{Instr}
use Rattle.core_code.specs.Machine as code
use Rattle.dis_isa.specs.declared.inst.Inst.{Inst}
use Rattle.dis_isa.specs.declared.inst.Operand as isa
use Rattle.dis_isa.specs.declared.inst.Middle.TheVariants as middle
use Rattle.dis_isa.specs.declared.op.Op.TheVariants as op
use Rattle.dis_meaning.specs.Words.{Word, Plain, Refer, Found, ◌>>=◌, word_at, number_in}
use Rattle.dis_meaning.specs.Process.{Process}
use Rattle.dis_memory.specs.Blocks.{World}
use Rattle.dis_memory.specs.Places.{source_of, source_reference}
use Rattle.dis_memory.specs.Step.{obey}
use Rattle.value_words.specs.Contents.{AreInRange}
use Rattle.value_words.specs.Facts.{Facts}
use Rattle.value_words.specs.Stands.{Stands, a_number}
use Rattle.value_frames.specs.Frames.{AsReference, form_of, linkage_bytes, answer_place, spare_place, room_for, row_of, type_within}
use Rattle.value_frames.specs.Frames.{frame_bytes, frame_references}
use Rattle.value_frames.specs.Types.{AreOf}
use Rattle.value_frames.specs.Slots.{ElseAsWas}
use Rattle.value_frames.proofs.Slots.{slots_change}
use Rattle.value_frames.proofs.Replacing.{kinds_stay}
use Rattle.value_moves.specs.Operands.{inst, own}
use Rattle.value_moves.specs.Spots.{Leads}
use Rattle.value_moves.specs.Changing.{Changes}
use Rattle.value_moves.specs.Writing.{Writes, Lies}
use Rattle.value_moves.proofs.Leading.{spots_lead}
use Rattle.value_stores.specs.Paths.{RowLies}
use Rattle.value_stores.proofs.Parts.{parts_lie}
use Rattle.value_code.specs.Objects.{object_of, of_function, size_at}
use Rattle.number_effects.specs.Giving.{after, with_word}
use Rattle.number_effects.proofs.Numbers.{numbers_work}
use Rattle.number_effects.proofs.Reading.{operands_are_read}
use Rattle.number_effects.proofs.Records.{words_move}
use Rattle.number_effects.proofs.Stepping.{steps_obey}
use Rattle.value_follows.specs.Stands.{Awaited, Ready, GoesOn, place_of}
use Rattle.value_follows.specs.Sides.{sides, HoldTheSame}
use Rattle.value_follows.specs.Rows.{Base}
use Rattle.value_follows.proofs.Standing.{all_wait, at_words}
use Rattle.value_follows.proofs.Slots.{number_there}
use Rattle.value_follows.proofs.Single.{Once, both_go}
use Rattle.value_follows.proofs.Jumps.{first, next_place}
use Rattle.value_follows.proofs.Numbers.{begins, IntRead}
use Rattle.rows_moving.proofs.Putting.{word_same}
use Rattle.rows_moving.proofs.References.{one_word}
use Rattle.rows_moving.proofs.Variables.{function, types, root, place, PartThere, variables_lie}

-- ---- what was stored, as written from where it stands now

writes_again : (target others : List Word) (to size : ℕ) → Changes target others to size → AreInRange others → Writes target others to others to size
writes_again target others to size c ranged = record {
  many = c.many;
  there = λ o l. refl;
  bytes = c.bytes;
  words = c.words;
  refer = c.refer;
  referred = c.referred;
  ranged = λ s t. ranged;
}

lies_again : (defs : List Def) (k : Facts) (target others : List Word) (to size : ℕ) (t : Ty) (r : Room) (old new : Value) → Changes target others to size
    → AreInRange others → Lies defs k target to t r old → Stands defs k others to t new → Lies defs k others to t r new
lies_again defs k target others to size t r old new c ranged l stands = record {
  laid = l.laid;
  aligned = l.aligned;
  whole = (λ w h. let a = l.whole.0 w h in let many = c.many in omega (arith, a, many), ranged);
  only = λ w to e h. let s = c.refer w to e in l.only w s.0 s.1 h;
  stands = stands;
}

same_number : (v : Word) (y z : ℤ) → v ≡ Plain y → number_in v ≡ Found z → y ≡ z
same_number v y z e f = let g : number_in v ≡ Found y = ap number_in e in cc

reference_room : (defs : List Def) (t : Ty) → form_of t ≡ AsReference → (room_for defs t).size ≡ 4
reference_room defs ty.Chars e = refl
reference_room defs ty.Nil e = refl
reference_room defs (ty.ArrayOf t) e = refl
reference_room defs (ty.ListOf t) e = refl
reference_room defs (ty.ChanOf t) e = refl
reference_room defs (ty.RefAdt a) e = refl
reference_room defs (ty.RefPick a j) e = refl
reference_room defs (ty.Module a) e = refl
reference_room defs t e = absurd cc

module _ (m : typed.Module) (k : Facts) (i : ℕ) (x : World) (p : code.Process) (q : Process) (r : Ready m k i x p q) (v : ℕ) (part : List ℕ) (t : Ty)
    (there : PartThere m k i x p q r v part t) where
  abbrev ts : List Ty
  ts = types m k i x p q r

  abbrev to : ℕ
  to = place m k i x p q r v part

  -- the variables with another value as that part
  abbrev pub with_value : Value → List Value
  with_value new = slice_set p.frame.variables v (with_part part new there.value)

  abbrev pub at_variables : List Value → code.Process
  at_variables us = code.with_frames p (code.at p.frame (suc p.frame.pc) us p.frame.slots) p.below

  module _ (others : List Word) (changes : Changes q.frame.words others to (room_for m.adts t).size) (ranged : AreInRange others) (new : Value)
      (stands : Stands m.adts k others to t new) where
    abbrev u_type : Ty
    u_type = type_within m.adts (root m k i x p q r v part) part

    writes : Writes q.frame.words others to others to (room_for m.adts u_type).size
    writes = subst (λ u. Writes q.frame.words others to others to (room_for m.adts u).size) (sym there.ends)
        (writes_again q.frame.words others to (room_for m.adts t).size changes ranged)

    lies : Lies m.adts k others to u_type (room_for m.adts u_type) new
    lies = subst (λ u. Lies m.adts k others to u (room_for m.adts u) new) (sym there.ends)
        (lies_again m.adts k q.frame.words others to (room_for m.adts t).size t (room_for m.adts t) (part_at part there.value) new changes ranged
        there.lies stands)

    row_lies : RowLies m.adts k others linkage_bytes ts (with_value new)
    row_lies = parts_lie.row_written m.adts k q.frame.words others linkage_bytes ts p.frame.variables v (root m k i x p q r v part) part there.value new
        others to (variables_lie m k i x p q r) there.has_type there.there there.path writes lies

    else_as_was : ElseAsWas q.frame.words others linkage_bytes (row_of m.adts ts).size
    else_as_was = parts_lie.row_else m.adts k q.frame.words others linkage_bytes ts p.frame.variables v (root m k i x p q r v part) part there.value
        others to (variables_lie m k i x p q r) there.has_type there.there there.path writes

    kind_stays : AreOf (frame_bytes m.adts ts (length p.frame.slots)) (frame_references m.adts ts (length p.frame.slots)) others
    kind_stays =
        kinds_stay.all (frame_bytes m.adts ts (length p.frame.slots)) (frame_references m.adts ts (length p.frame.slots)) q.frame.words others
        r.stands.is.words.kind changes.many changes.refer changes.referred ranged

    stays : (at : ℕ) → (4 * (at / 4) + 4 ≤ linkage_bytes) ⊎ (linkage_bytes + (row_of m.adts ts).size ≤ 4 * (at / 4))
        → word_at others (pos at) ≡ word_at q.frame.words (pos at)
    stays at (inl low) = word_same q.frame.words others at (else_as_was.each (at / 4) (λ h. let a = h.0 in absurd (omega (arith, a, low))))
    stays at (inr high) = word_same q.frame.words others at (else_as_was.each (at / 4) (λ h. let a = h.1 in absurd (omega (arith, a, high))))

    pub ready_stored : (at : ℕ) → at ≡ place_of m r.stands.is.number r.stands.is.function (suc p.frame.pc)
        → GoesOn m r.stands.is.function (suc p.frame.pc) r.stands.is.known
        → Ready m k i x (at_variables (with_value new)) (at_words m k i x p q r at others)
    ready_stored at comes goes =
        let after = slots_change.variables m.adts k x.heap q.frame.serial [] ts r.stands.is.known p.frame.variables (with_value new) p.frame.slots
        q.frame.words others r.stands.is.words else_as_was kind_stays row_lies.stand in
        record {
          stands = record {
            number = r.stands.number;
            is = record {
              number = r.stands.is.number;
              function = r.stands.is.function;
              there = r.stands.is.there;
              code = r.stands.is.code;
              answer = r.stands.is.answer;
              many = r.stands.is.many;
              instance = r.stands.is.instance;
              formed = r.stands.is.formed;
              known = r.stands.is.known;
              words = after.0;
              mine = λ s b h. r.stands.is.mine s b (subst (λ (o : ℕ → List ℕ). Has (o s) b) after.1 h);
              fresh = r.stands.is.fresh;
            };
            goes = goes;
            waits = all_wait m k i x Awaited p.frame.answer q.frame (at_words m k i x p q r at others).frame p.below q.below refl
                (stays answer_place (inl (omega arith))) r.stands.waits;
          };
          pc = comes;
          spare = stays (spare_place m.adts ts) (inr (omega arith)) ∙ r.spare;
          none_made = r.none_made;
        }

-- ---- the instruction that stores it

module _ (m : typed.Module) (b : Base m) (k : Facts) (i : ℕ) (w : Shared) (x : World) (p : code.Process) (q : Process) (ready : Ready m k i x p q) (hold : HoldTheSame m k i x p q) (worlds : (sides m).worlds k w x) (instr : Instr) (here : slice_get p.frame.code p.frame.pc ≡ Some instr)
    (v : ℕ) (part : List ℕ) (t : Ty) (there : PartThere m k i x p q ready v part t)
    (size : size_at m (function m k i x p q ready).of.answer (of_function m (function m k i x p q ready)) p.frame.pc (Some instr) ≡ 1)
    (goes : GoesOn m (function m k i x p q ready) (suc p.frame.pc) ready.stands.is.known)
    (val : Value) (does : (sides m).program.step w p ≡ code.goes_with w p (with_variables (code.memory_of w p.frame) (with_value m k i x p q ready v part t there (fitted m.adts t val))) p.frame.slots) where
  abbrev at_place : ℕ
  at_place = place m k i x p q ready v part

  abbrev leads : Leads x q (own at_place) q.frame.words at_place
  leads = (spots_lead.own x q at_place).0

  abbrev is_first : Inst → Type 0
  is_first = begins m b k i w x p q ready hold worlds instr here

  stores : (move : Inst) → is_first move → (others : List Word) → obey frames_limit (object_of m) x q move move.op ≡ after x q leads.place others
      → Changes q.frame.words others at_place (room_for m.adts t).size → AreInRange others → Stands m.adts k others at_place t (fitted m.adts t val)
      → Once m b i p q k w x
  stores move is others obeys changes ranged stands =
      let next = next_place m b k i w x p q ready hold worlds instr here 1 size in
      both_go m b i p q k w x hold worlds
      (at_variables m k i x p q ready v part t there (with_value m k i x p q ready v part t there (fitted m.adts t val)))
      (at_words m k i x p q ready (suc q.frame.pc) others)
      (steps_obey.stores frames_limit (object_of m ∷ []) x q (object_of m) move x leads.place others _
      (first m b k i w x p q ready hold worlds instr here move is) obeys ((spots_lead.own x q at_place).1 others))
      does
      (ready_stored m k i x p q ready v part t there others changes ranged (fitted m.adts t val) stands (suc q.frame.pc) (omega (arith, next)) goes)

  -- a byte
  pub byte_stored : (source : isa.Operand) → is_first (inst op.Movb source middle.None (own at_place)) → t ≡ ty.Byte → (z : ℤ)
      → source_of kind.Byte x q source ≡ Found z → InRange kind.Byte z → fitted m.adts t val ≡ Num z → Once m b i p q k w x
  byte_stored source is e z read range fits =
      let old = number_there m.adts k q.frame.words at_place t (part_at part there.value) kind.Byte e there.lies.stands in
      let move = inst op.Movb source middle.None (own at_place) in
      let n = numbers_work.moves frames_limit (object_of m) x q move kind.Byte z q.frame.words at_place leads old.number refl read old.found in
      stores move is n.0.others n.1
      (subst (λ u. Changes q.frame.words n.0.others at_place (room_for m.adts u).size) (sym e) (n.0.changes (λ e. range)))
      (n.0.ranged range ready.stands.is.words.kind.ranged)
      (subst (λ u. Stands m.adts k n.0.others at_place u (fitted m.adts t val)) (sym e)
      (subst (λ y. Stands m.adts k n.0.others at_place ty.Byte y) (sym fits) (a_number at_place kind.Byte z (n.0.there range) range)))

  -- an int
  pub int_stored : (source : isa.Operand) → is_first (inst op.Movw source middle.None (own at_place)) → t ≡ ty.Int → (z : ℤ)
      → IntRead m b k i w x p q ready hold worlds instr here source z → fitted m.adts t val ≡ Num z → Once m b i p q k w x
  int_stored source is e z read fits =
      let old = number_there m.adts k q.frame.words at_place t (part_at part there.value) kind.Int e there.lies.stands in
      let word = operands_are_read.int_is_plain q.frame.words at_place old.number old.found in
      let move = inst op.Movw source middle.None (own at_place) in
      let others = with_word q.frame.words at_place read.word in
      let n = words_move.word frames_limit (object_of m) x q move read.word q.frame.words at_place leads word.0 refl read.plainly word.1 in
      stores move is others n.1
      (subst (λ u. Changes q.frame.words others at_place (room_for m.adts u).size) (sym e) n.0.changes)
      (n.0.ranged (λ y e. subst (InRange kind.Int) (sym (same_number read.word y z e read.number)) read.range) ready.stands.is.words.kind.ranged)
      (subst (λ u. Stands m.adts k others at_place u (fitted m.adts t val)) (sym e)
      (subst (λ y. Stands m.adts k others at_place ty.Int y) (sym fits)
      (a_number at_place kind.Int z (ap (λ a. a >>= number_in) n.0.there ∙ read.number) read.range)))

  -- a reference
  pub reference_written : (source : isa.Operand) → is_first (inst op.Movp source middle.None (own at_place)) → form_of t ≡ AsReference
      → (to : Option ℕ) → source_reference x q source ≡ Found to
      → ((others : List Word) (at : ℕ) → word_at others (pos at) ≡ Found (Refer to) → Stands m.adts k others at t (fitted m.adts t val))
      → Once m b i p q k w x
  reference_written source is form to read stands =
      let old = one_word m.adts k q.frame.words at_place t (part_at part there.value) form there.lies.stands in
      let move = inst op.Movp source middle.None (own at_place) in
      let others = with_word q.frame.words at_place (Refer to) in
      let n = words_move.reference frames_limit (object_of m) x q move to q.frame.words at_place leads old.refers refl read old.word in
      stores move is others n.1
      (subst (λ s. Changes q.frame.words others at_place s) (sym (reference_room m.adts t form)) n.0.changes)
      (n.0.ranged (λ z e. absurd cc) ready.stands.is.words.kind.ranged)
      (stands others at_place n.0.there)
