-- One word that is stored in a place of a block, by the last instruction of a row, and the source's value with that part.
use Rattle.rows_places.proofs.Places.{grows_same}
use Rattle.std.proofs.Common.{◌≡◌, ◌⊎◌, ℕ, ℤ, true, suc, pos, ◌+◌, ◌*◌, ◌/◌, ◌%◌, ◌<◌, ◌≤◌, List, Option, Some, refl, sym, ap, ◌∙◌, subst, arith, inl, inr}
use Rattle.std.specs.Prelude.{slice_get, slice_index}
use Rattle.std.proofs.lemmas.Bool.Decides.{eqb_tells}
use Rattle.heap_model.specs.Heap.{at, in_one, there as is_live}
use Rattle.system_model.specs.Limits.{frames_limit}
use Rattle.limbo_types.specs.Types as ty
use Rattle.limbo_types.specs.Types.{Ty}
use Rattle.limbo_layout.specs.Adts.{Def}
use Rattle.limbo_layout.specs.Layout.{Room}
use Rattle.limbo_values.specs.declared.number.Kind.TheVariants as kind
use Rattle.limbo_values.specs.Numbers.{InRange}
use Rattle.limbo_typed.specs.Typed as typed
use Rattle.limbo_meaning.specs.Memory.{with_heap, changed}
use Rattle.limbo_meaning.specs.Places.{Root, part_at, with_part}
use Rattle.limbo_meaning.specs.Process.{Shared}
use Rattle.limbo_meaning.specs.Values.{Value}
use Rattle.core_code.specs.Code.{Instr}
use Rattle.core_code.specs.Machine as code
use Rattle.dis_isa.specs.declared.inst.Inst.{Inst}
use Rattle.dis_isa.specs.declared.inst.Operand as isa
use Rattle.dis_isa.specs.declared.inst.Middle.TheVariants as middle
use Rattle.dis_isa.specs.declared.op.Op.TheVariants as op
use Rattle.dis_meaning.specs.Words.{Word, Plain, Refer, Access, Found, Wrong, ◌>>=◌, word_at, number_in, plain, or_wrong, type_check}
use Rattle.dis_meaning.specs.Numbers.{number_at, bytes_of}
use Rattle.dis_meaning.specs.Process.{Process, Printing}
use Rattle.dis_memory.specs.Blocks.{Block, World}
use Rattle.dis_memory.specs.Step.{obey}
use Rattle.value_words.specs.Contents.{AreInRange}
use Rattle.value_words.specs.Facts.{Facts}
use Rattle.value_words.specs.Stands.{Stands, a_number}
use Rattle.value_words.proofs.Bytes.{word_found, word_there}
use Rattle.value_words.proofs.Rows.{set_other, set_same}
use Rattle.value_heaps.proofs.Words.{named_by}
use Rattle.value_frames.specs.Frames.{AsNumber, AsReference, form_of, room_for}
use Rattle.value_moves.specs.Changing.{Changes}
use Rattle.value_moves.specs.Operands.{inst}
use Rattle.value_moves.specs.Writing.{Writes, Lies}
use Rattle.value_moves.proofs.Changing.{low_or_high}
use Rattle.value_code.specs.Objects.{object_of, of_function, size_at}
use Rattle.number_effects.specs.Giving.{after, with_word}
use Rattle.number_effects.proofs.Numbers.{numbers_work}
use Rattle.number_effects.proofs.Reading.{operands_are_read}
use Rattle.number_effects.proofs.Records.{words_move}
use Rattle.value_follows.specs.Stands.{Ready, GoesOn}
use Rattle.value_follows.specs.Sides.{sides, contents, HoldTheSame}
use Rattle.value_follows.specs.Rows.{Base}
use Rattle.value_follows.proofs.Slots.{number_there}
use Rattle.value_follows.proofs.Single.{Once}
use Rattle.rows_places.specs.Rows.{IsSimple}
use Rattle.rows_places.proofs.Words.{one_word, reference_room}
use Rattle.rows_places.proofs.Last.{there, begins_at, simple_op, reference_op}
use Rattle.rows_places.proofs.Places.{HeapPlace}
use Rattle.rows_places.proofs.Giving.{Gives, GivesByte, GivesInt, GivesReference}
use Rattle.rows_places.proofs.Changing.{both_change}

-- ---- what was stored, as written from where it stands now

pub writes_again : (target others : List Word) (to size : ℕ) → Changes target others to size → AreInRange others → Writes target others to others to size
writes_again target others to size c ranged = record {
  many = c.many;
  there = λ o l. refl;
  bytes = c.bytes;
  words = c.words;
  refer = c.refer;
  referred = c.referred;
  ranged = λ s t. ranged;
}

pub lies_again : (defs : List Def) (k : Facts) (target others : List Word) (to size : ℕ) (t : Ty) (r : Room) (old new : Value) → Changes target others to size
    → AreInRange others → Lies defs k target to t r old → Stands defs k others to t new → Lies defs k others to t r new
lies_again defs k target others to size t r old new c ranged l stands = record {
  laid = l.laid;
  aligned = l.aligned;
  whole = (λ w h. let a = l.whole.0 w h in let many = c.many in omega (arith, a, many), ranged);
  only = λ w to e h. let s = c.refer w to e in l.only w s.0 s.1 h;
  stands = stands;
}

same_number : (v : Word) (y z : ℤ) → v ≡ Plain y → number_in v ≡ Found z → y ≡ z
same_number v y z e f = let g : number_in v ≡ Found y = ap number_in e in cc

-- where a number is read, no word refers
byte_no_refer : (words : List Word) (n : ℕ) (z : ℤ) (r : Option ℕ) → number_at kind.Byte words (pos n) ≡ Found z
    → slice_get words (n / 4) ≡ Some (Refer r) → ⊥
byte_no_refer words n z r e f =
    let g : number_at kind.Byte words (pos n) ≡ Wrong type_check =
    ap (λ (o : Option Word). (or_wrong type_check o >>= number_in) >>= λ y. Found (pos (slice_index (bytes_of y) (n % 4)))) f in
    absurd cc

int_no_refer : (words : List Word) (n : ℕ) (w : Word) (r : Option ℕ) → (word_at words (pos n) >>= plain) ≡ Found w → n % 4 ≡ 0
    → slice_get words (n / 4) ≡ Some (Refer r) → ⊥
int_no_refer words n w r e whole f =
    let g : (word_at words (pos n) >>= plain) ≡ Wrong type_check = ap (λ (a : Access Word). a >>= plain) (word_there words n (Refer r) whole f) in
    absurd cc

module _ (m : typed.Module) (b : Base m) (k : Facts) (i : ℕ) (w : Shared) (x : World) (p : code.Process) (q : Process) (ready : Ready m k i x p q)
    (hold : HoldTheSame m k i x p q) (worlds : (sides m).worlds k w x) (instr : Instr) (here : slice_get p.frame.code p.frame.pc ≡ Some instr)
    (pc : ℕ) (pr : Option Printing) (j : ℕ) (so_far : pc ≡ q.frame.pc + j)
    (size : size_at m ready.stands.is.function.of.answer (of_function m ready.stands.is.function) p.frame.pc (Some instr) ≡ j + 1)
    (root : Root) (operands : List Value) (o : isa.Operand) (t : Ty) (part : List ℕ)
    (is : HeapPlace m k i w x p q ready hold worlds pc pr root operands o t part)
    (val : Value) (goes : GoesOn m ready.stands.is.function (suc p.frame.pc) ready.stands.is.known)
    (does : (sides m).program.step w p
    ≡ code.goes_with w p (with_heap (code.memory_of w p.frame) (changed w.heap is.name (is.becomes (with_part part val is.value)))) p.frame.slots) where
  abbrev at_now : Process
  at_now = there m b k i w x p q ready hold worlds instr here pc pr j so_far

  abbrev is_last : Inst → Type 0
  is_last = begins_at m b k i w x p q ready hold worlds instr here pc pr j so_far

  -- what the block referred to is there
  pub old_lives : (u wd : ℕ) → slice_get is.words wd ≡ Some (Refer (Some u)) → is_live (at x.heap u) ≡ true
  old_lives u wd e =
      let named = named_by is.words wd u e in
      let same = is.names is.words u in
      worlds.0.closed.closed is.serial u (ap is_live is.block)
      (subst (λ (c : Option Block). 0 < in_one (contents m).words c u) (sym is.block) (omega (arith, named, same)))

  stores : (move : Inst) → is_last move → (others : List Word) → obey frames_limit (object_of m) x at_now move move.op ≡ after x at_now is.leads.0.place others
      → Changes is.words others is.byte (room_for m.adts t).size → AreInRange others → Stands m.adts k others is.byte t val
      → ((u wd : ℕ) → slice_get others wd ≡ Some (Refer (Some u)) → is_live (at x.heap u) ≡ true) → Once m b i p at_now k w x
  stores move begins others obeys changes ranged stands lives =
      both_change m b k i w x p q ready hold worlds instr here pc pr j so_far size root operands o t part is
      (is.becomes (with_part part val is.value)) others
      (is.anew k grows_same others others is.byte val (writes_again is.words others is.byte (room_for m.adts t).size changes ranged)
      (lies_again m.adts k is.words others is.byte (room_for m.adts t).size t (room_for m.adts t) (part_at part is.value) val changes ranged is.lies stands))
      lives move begins obeys does goes

  -- a number took the place of one, so all words that refer are as they were
  number_lives : (others : List Word) (bytes : ℕ) → (bytes ≤ 1) ⊎ ((bytes ≤ 4) × (is.byte % 4 ≡ 0)) → Changes is.words others is.byte bytes
      → ((r : Option ℕ) → slice_get is.words (is.byte / 4) ≡ Some (Refer r) → ⊥)
      → (u wd : ℕ) → slice_get others wd ≡ Some (Refer (Some u)) → is_live (at x.heap u) ≡ true
  number_lives others bytes few changes none u wd e = elim (eqb_tells wd (is.byte / 4)) [
    | inl y ↦
        let s = changes.refer wd (Some u) e in
        absurd (none s.0 (ap (slice_get is.words) (sym y.1) ∙ s.1))
    | inr y ↦ old_lives u wd (sym (changes.words wd (apart few (low_or_high wd (is.byte / 4)) y.1)) ∙ e)
  ]
    where
      apart : (bytes ≤ 1) ⊎ ((bytes ≤ 4) × (is.byte % 4 ≡ 0)) → (wd < is.byte / 4) ⊎ (is.byte / 4 ≤ wd) → (wd ≡ is.byte / 4 → ⊥)
          → (4 * wd + 4 ≤ is.byte) ⊎ (is.byte + bytes ≤ 4 * wd)
      apart few (inl l) ne = inl (omega (arith, l))
      apart (inl few) (inr l) ne = elim (low_or_high (is.byte / 4) wd) [
        | inl more ↦ inr (omega (arith, few, more))
        | inr less ↦ absurd (ne (omega (arith, l, less)))
      ]
      apart (inr few) (inr l) ne = elim (low_or_high (is.byte / 4) wd) [
        | inl more ↦ let a = few.0 in let b = few.1 in inr (omega (arith, a, b, more))
        | inr less ↦ absurd (ne (omega (arith, l, less)))
      ]

  byte_stored : (source : isa.Operand) → t ≡ ty.Byte → GivesByte m k i w x p q ready hold worlds pc pr source val
      → is_last (inst op.Movb source middle.None o) → Once m b i p at_now k w x
  byte_stored source e g begins =
      let old = number_there m.adts k is.words is.byte t (part_at part is.value) kind.Byte e is.lies.stands in
      let move = inst op.Movb source middle.None o in
      let n = numbers_work.moves frames_limit (object_of m) x at_now move kind.Byte g.z is.words is.byte is.leads.0 old.number refl g.read old.found in
      let changes = n.0.changes (λ e. g.range) in
      stores move begins n.0.others n.1
      (subst (λ u. Changes is.words n.0.others is.byte (room_for m.adts u).size) (sym e) changes)
      (n.0.ranged g.range is.lies.whole.1)
      (subst (λ u. Stands m.adts k n.0.others is.byte u val) (sym e)
      (subst (λ y. Stands m.adts k n.0.others is.byte ty.Byte y) (sym g.is) (a_number is.byte kind.Byte g.z (n.0.there g.range) g.range)))
      (number_lives n.0.others 1 (inl (omega arith)) changes (λ r f. byte_no_refer is.words is.byte old.number r old.found f))

  int_stored : (source : isa.Operand) → t ≡ ty.Int → GivesInt m k i w x p q ready hold worlds pc pr source val
      → is_last (inst op.Movw source middle.None o) → Once m b i p at_now k w x
  int_stored source e g begins =
      let old = number_there m.adts k is.words is.byte t (part_at part is.value) kind.Int e is.lies.stands in
      let word = operands_are_read.int_is_plain is.words is.byte old.number old.found in
      let move = inst op.Movw source middle.None o in
      let others = with_word is.words is.byte g.word in
      let n = words_move.word frames_limit (object_of m) x at_now move g.word is.words is.byte is.leads.0 word.0 refl g.plainly word.1 in
      let aligned : is.byte % 4 ≡ 0 = subst (λ u. is.byte % (room_for m.adts u).align ≡ 0) e is.lies.aligned in
      stores move begins others n.1
      (subst (λ u. Changes is.words others is.byte (room_for m.adts u).size) (sym e) n.0.changes)
      (n.0.ranged (λ y e. subst (InRange kind.Int) (sym (same_number g.word y g.z e g.number)) g.range) is.lies.whole.1)
      (subst (λ u. Stands m.adts k others is.byte u val) (sym e)
      (subst (λ y. Stands m.adts k others is.byte ty.Int y) (sym g.is)
      (a_number is.byte kind.Int g.z (ap (λ a. a >>= number_in) n.0.there ∙ g.number) g.range)))
      (number_lives others 4 (inr (omega arith, aligned)) n.0.changes (λ r f. int_no_refer is.words is.byte word.0 r word.1 aligned f))

  reference_stored : (source : isa.Operand) → form_of t ≡ AsReference → GivesReference m k i w x p q ready hold worlds pc pr source t val
      → is_last (inst op.Movp source middle.None o) → Once m b i p at_now k w x
  reference_stored source form g begins =
      let old = one_word m.adts k is.words is.byte t (part_at part is.value) form is.lies.stands in
      let move = inst op.Movp source middle.None o in
      let others = with_word is.words is.byte (Refer g.refers) in
      let n = words_move.reference frames_limit (object_of m) x at_now move g.refers is.words is.byte is.leads.0 old.refers refl g.read old.word in
      let there = word_found is.words is.byte (Refer old.refers) old.word in
      stores move begins others n.1
      (subst (λ s. Changes is.words others is.byte s) (sym (reference_room m.adts t form)) n.0.changes)
      (n.0.ranged (λ z e. absurd cc) is.lies.whole.1)
      (g.stands others is.byte n.0.there)
      (λ u wd e. elim (eqb_tells wd (is.byte / 4)) [
        | inl y ↦
            let same : Some (Refer g.refers) ≡ Some (Refer (Some u)) =
            sym (set_same is.words (is.byte / 4) (Refer g.refers) (Refer old.refers) there.1) ∙ ap (slice_get others) (sym y.1) ∙ e in
            g.lives u cc
        | inr y ↦ old_lives u wd (sym (set_other is.words (is.byte / 4) wd (Refer g.refers) y.1) ∙ e)
      ])

  -- a number or a reference is stored
  pub simple_stored : (source : isa.Operand) → IsSimple t → Gives m k i w x p q ready hold worlds pc pr source t val
      → is_last (inst (simple_op t) source middle.None o) → Once m b i p at_now k w x
  simple_stored source (inl e) g begins = go t refl e
    where
      go : (u : Ty) → t ≡ u → form_of u ≡ AsNumber → Once m b i p at_now k w x
      go ty.Byte f h = byte_stored source f (g.byte f) (subst (λ u. is_last (inst (simple_op u) source middle.None o)) f begins)
      go ty.Int f h = int_stored source f (g.int f) (subst (λ u. is_last (inst (simple_op u) source middle.None o)) f begins)
      go u f h = absurd cc
  simple_stored source (inr e) g begins =
      reference_stored source e (g.reference e) (begins ∙ ap (λ c. Some (inst c source middle.None o)) (reference_op t e))
