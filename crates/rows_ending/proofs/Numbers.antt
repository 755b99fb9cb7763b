-- Returns that give a byte or an int: it is moved to the slot that waits for it, and then the frame that waits goes on.
use Rattle.std.proofs.Common.{◌≡◌, ℕ, ℤ, pos, ◌+◌, ◌≤◌, List, [], ◌∷◌, ◌++◌, Option, Some, None, refl, sym, ap, ◌∙◌, subst, arith, inr}
use Rattle.std.specs.Prelude.{slice_get}
use Rattle.std.proofs.lemmas.Int.{ints}
use Rattle.process_model.specs.Process.{Went}
use Rattle.system_model.specs.Limits.{frames_limit}
use Rattle.limbo_types.specs.Types as ty
use Rattle.limbo_types.specs.Types.{Ty}
use Rattle.limbo_values.specs.declared.number.Kind.{Kind}
use Rattle.limbo_values.specs.declared.number.Kind.TheVariants as kind
use Rattle.limbo_values.specs.Numbers.{InRange}
use Rattle.limbo_values.proofs.Ranges.{within}
use Rattle.limbo_typed.specs.Typed as typed
use Rattle.limbo_typed.specs.Fitting.{of_kind}
use Rattle.limbo_meaning.specs.Process.{Shared}
use Rattle.limbo_meaning.specs.Values.{Num, nothing, fitted, references}
use Rattle.core_code.specs.Code.{Return}
use Rattle.core_code.specs.Machine as code
use Rattle.core_code.specs.Slots as core
use Rattle.core_code.specs.Slots.{Slot}
use Rattle.core_typing.specs.Going.{all_of}
use Rattle.core_typing.specs.Needs.{IsA}
use Rattle.dis_isa.specs.declared.inst.Inst.{Inst}
use Rattle.dis_isa.specs.declared.inst.Operand as isa
use Rattle.dis_isa.specs.declared.inst.Operand.TheVariants as operand
use Rattle.dis_isa.specs.declared.inst.Middle.TheVariants as middle
use Rattle.dis_meaning.specs.Words.{Word, Plain, Address, InFrame, Found, ◌>>=◌, word_at, plain, number_in}
use Rattle.dis_meaning.specs.Numbers.{number_at}
use Rattle.dis_meaning.specs.Places.{with_frame_words}
use Rattle.dis_meaning.specs.Process.{Frame, Process, with_frames, with_words}
use Rattle.dis_memory.specs.Blocks.{World}
use Rattle.dis_memory.specs.Places.{memory, source_plain, source_of}
use Rattle.dis_memory.specs.Step.{obey}
use Rattle.value_words.specs.Contents.{AreInRange}
use Rattle.value_words.specs.Facts.{Facts}
use Rattle.value_words.specs.Stands.{a_number}
use Rattle.value_frames.specs.Frames.{Nowhere, AsNumber, form_of, answer_place, number_place, reference_place}
use Rattle.value_frames.specs.Standing.{a_value, ValueStands}
use Rattle.value_moves.specs.Operands.{inst, moved, behind, own}
use Rattle.value_moves.specs.Spots.{Leads, LeadsAndStores}
use Rattle.value_moves.specs.Changing.{Changes}
use Rattle.value_moves.proofs.Leading.{spots_lead}
use Rattle.value_code.specs.Objects.{object_of}
use Rattle.value_code.specs.Operands.{in_slot}
use Rattle.value_code.specs.Works.{move_op}
use Rattle.value_code.specs.Data.{OfRecord}
use Rattle.value_code.specs.Code.{Site, code_of, zeroed}
use Rattle.number_effects.specs.Giving.{after, with_word}
use Rattle.number_effects.specs.Stepping.{on_next}
use Rattle.number_effects.proofs.Numbers.{numbers_work}
use Rattle.number_effects.proofs.Reading.{operands_are_read}
use Rattle.number_effects.proofs.Records.{words_move}
use Rattle.number_effects.proofs.Stepping.{steps_obey}
use Rattle.value_follows.specs.Stands.{Awaited, Ready, Waits, AllWait, types_of}
use Rattle.value_follows.specs.Sides.{sides, HoldTheSame}
use Rattle.value_follows.specs.Rows.{Base, site_of}
use Rattle.value_follows.proofs.Standing.{finds, code_here}
use Rattle.value_follows.proofs.Slots.{uses, number_is}
use Rattle.rows_ending.specs.Endings.{NumberReturns}
use Rattle.rows_ending.proofs.Endings.{ret, given}
use Rattle.rows_ending.proofs.Two.{answer, Has, Moves, begins, moves, two_go, same_first, same_place}
use Rattle.rows_ending.proofs.Two.{at_site as site_here}
use Rattle.rows_ending.proofs.Waiting.{words_found, words_stored, goes_to, old_word, stays, waits_then, rest_then}

-- ---- the code

kind_is : (t : Ty) → form_of t ≡ AsNumber → (j : Kind) × (form_of (of_kind j) ≡ AsNumber) × (t ≡ of_kind j)
kind_is ty.Byte e = (kind.Byte, refl, refl)
kind_is ty.Int e = (kind.Int, refl, refl)
kind_is ty.Nothing e = absurd cc
kind_is ty.Big e = absurd cc
kind_is (ty.Tuple ts) e = absurd cc
kind_is (ty.Adt n) e = absurd cc
kind_is _ e = absurd cc

abbrev source : Site → Option ℕ → isa.Operand
source c None = operand.Imm (pos 0)
source c (Some r) = own (number_place c.scene.adts c.scene.variables r)

abbrev move : Kind → isa.Operand → Inst
move j o = inst (move_op j) o middle.None (behind answer_place 0)

number_code : (c : Site) (from : Option ℕ) (j : Kind) → form_of (of_kind j) ≡ AsNumber → c.answer ≡ of_kind j
    → code_of c (Return from) ≡ move j (source c from) ∷ ret ∷ []
number_code c None kind.Byte f e = ap (λ t. zeroed c.scene.adts t (c.type_number (OfRecord t)) c.at (behind answer_place 0) ++ ret ∷ []) e
number_code c None kind.Int f e = ap (λ t. zeroed c.scene.adts t (c.type_number (OfRecord t)) c.at (behind answer_place 0) ++ ret ∷ []) e
number_code c None kind.Big f e = absurd cc
number_code c (Some r) kind.Byte f e =
    ap (λ t. moved c.scene.adts t (c.type_number (OfRecord t)) (in_slot c.scene t r) (behind answer_place 0) ++ ret ∷ []) e
number_code c (Some r) kind.Int f e =
    ap (λ t. moved c.scene.adts t (c.type_number (OfRecord t)) (in_slot c.scene t r) (behind answer_place 0) ++ ret ∷ []) e
number_code c (Some r) kind.Big f e = absurd cc

-- ---- what is moved

-- A source is read as a number of a kind.
record Reads (x : World) (q : Process) (j : Kind) (o : isa.Operand) (z : ℤ) : Type 0 where
  range : InRange j z
  number : source_of j x q o ≡ Found z
  word : j ≡ kind.Int → (w : Word) × (source_plain x q o ≡ Found w) × (number_in w ≡ Found z)

zero_read : (x : World) (q : Process) (j : Kind) → form_of (of_kind j) ≡ AsNumber → Reads x q j (operand.Imm (pos 0)) (pos 0)
zero_read x q kind.Byte f = record {
  range = record { above = omega (arith, ints); below = omega (arith, ints) };
  number = operands_are_read.source_given x q kind.Byte (pos 0);
  word = λ e. absurd cc;
}
zero_read x q kind.Int f = record {
  range = record { above = omega (arith, ints); below = omega (arith, ints) };
  number = operands_are_read.source_given x q kind.Int (pos 0);
  word = λ e. (Plain (pos 0), operands_are_read.source_plain_given x q (pos 0), refl);
}
zero_read x q kind.Big f = absurd cc

slot_read : (x : World) (q : Process) (j : Kind) (n : ℕ) (z : ℤ) → InRange j z → number_at j q.frame.words (pos n) ≡ Found z → Reads x q j (own n) z
slot_read x q j n z range e = record {
  range = range;
  number = operands_are_read.source_number x q (own n) q.frame.words n j (spots_lead.own x q n).0 ∙ e;
  word = λ same.
      let p = operands_are_read.int_is_plain q.frame.words n z (subst (λ h. number_at h q.frame.words (pos n) ≡ Found z) same e) in
      (p.0, operands_are_read.source_plain_word x q (own n) q.frame.words n (spots_lead.own x q n).0 ∙ p.1, p.2);
}

-- ---- where it goes

-- A number is stored among words: what they are then.
record Stored (limit : ℕ) (x : World) (q : Process) (m : typed.Module) (i : Inst) (words : List Word) (to : ℕ) (d : Leads x q i.dst words to) (j : Kind)
    (z : ℤ) : Type 0 where
  others : List Word
  size : ℕ
  small : size ≤ 4
  does : obey limit (object_of m) x q i i.op ≡ after x q d.place others
  changes : Changes words others to size
  ranged : AreInRange words → AreInRange others
  found : number_at j others (pos to) ≡ Found z

same_number : (v : Word) (y z : ℤ) → v ≡ Plain y → number_in v ≡ Found z → y ≡ z
same_number v y z e f = let g : number_in v ≡ Found y = ap number_in e in cc

stored : (m : typed.Module) (x : World) (q : Process) (j : Kind) → form_of (of_kind j) ≡ AsNumber → (o : isa.Operand) (z : ℤ) → Reads x q j o z
    → (words : List Word) (to : ℕ) (d : Leads x q (behind answer_place 0) words to) (old : ℤ) → number_at j words (pos to) ≡ Found old
    → (w : Word) → word_at words (pos to) >>= plain ≡ Found w → Stored frames_limit x q m (move j o) words to d j z
stored m x q kind.Byte f o z read words to d old e w g =
    let s = numbers_work.moves frames_limit (object_of m) x q (move kind.Byte o) kind.Byte z words to d old refl read.number e in
    record {
      others = s.0.others;
      size = 1;
      small = omega arith;
      does = s.1;
      changes = s.0.changes (λ e. read.range);
      ranged = s.0.ranged read.range;
      found = s.0.there read.range;
    }
stored m x q kind.Int f o z read words to d old e w g =
    let p = read.word refl in
    let s = words_move.word frames_limit (object_of m) x q (move kind.Int o) p.0 words to d w refl p.1 g in
    record {
      others = with_word words to p.0;
      size = 4;
      small = omega arith;
      does = s.1;
      changes = s.0.changes;
      ranged = s.0.ranged (λ y e. subst (InRange kind.Int) (sym (same_number p.0 y z e p.2)) read.range);
      found = ap (λ a. a >>= number_in) s.0.there ∙ p.2;
    }
stored m x q kind.Big f o z read words to d old e w g = absurd cc

-- ---- the number that is given

fits_number : (m : typed.Module) (j : Kind) (z : ℤ) → InRange j z → fitted m.adts (of_kind j) (Num z) ≡ Num z
fits_number m kind.Byte z range = ap Num (within kind.Byte z range)
fits_number m kind.Int z range = ap Num (within kind.Int z range)
fits_number m kind.Big z range = ap Num (within kind.Big z range)

no_number : (m : typed.Module) (j : Kind) → form_of (of_kind j) ≡ AsNumber → fitted m.adts (of_kind j) nothing ≡ Num (pos 0)
no_number m kind.Byte form = refl
no_number m kind.Int form = ap Num (within kind.Int (pos 0) (record { above = omega (arith, ints); below = omega (arith, ints) }))
no_number m kind.Big form = absurd cc

-- It stands in the slots, and the machine reads it.
record Giving (m : typed.Module) (f : typed.Function) (x : World) (q : Process) (slots : core.Slots) (from : Option ℕ) (j : Kind) (c : Site) : Type 0 where
  number : ℤ
  gives : fitted m.adts (of_kind j) (given slots from) ≡ Num number
  reads : Reads x q j (source c from) number

module _ (m : typed.Module) (k : Facts) (i : ℕ) (x : World) (p : code.Process) (q : Process) (ready : Ready m k i x p q) (j : Kind)
    (form : form_of (of_kind j) ≡ AsNumber) (same : p.frame.answer ≡ of_kind j) (at : ℕ) where
  giving : (from : Option ℕ) → slice_get p.frame.code p.frame.pc ≡ Some (Return from)
      → Giving m ready.stands.is.function x q p.frame.slots from j (site_of m ready.stands.is.number ready.stands.is.function p.frame.pc at)
  giving None here =
      let reads = zero_read x q j form in
      record { number = pos 0; gives = no_number m j form; reads = reads }
  giving (Some r) here =
      let is = ready.stands.is in
      let there = code_here m k i x p q ready (Return (Some r)) here in
      let n = number_is m k i x [] p.frame q.frame is j r form (uses m k i x [] p.frame q.frame is p.frame.pc (Return (Some r)) there) (λ e. e)
      (subst (λ t. IsA is.known r t) (sym is.answer ∙ same) (finds m is.function p.frame.pc is.known (Return (Some r)) ready.stands.goes there)) in
      record {
        number = n.number;
        gives = ap (λ (l : Slot). fitted m.adts (of_kind j) (core.value_of l)) n.holds ∙ fits_number m j n.number n.range;
        reads = slot_read x q j (number_place m.adts (types_of m is.function) r) n.number n.range n.found;
      }

-- ---- the two instructions

module _ (m : typed.Module) (b : Base m) (i : ℕ) (from : Option ℕ) (p : code.Process) (here : slice_get p.frame.code p.frame.pc ≡ Some (Return from))
    (j : Kind) (form : form_of (of_kind j) ≡ AsNumber) (same : p.frame.answer ≡ of_kind j) where
  formed_so : form_of p.frame.answer ≡ AsNumber
  formed_so = ap form_of same ∙ form

  gives_some : form_of p.frame.answer ≡ Nowhere → ⊥
  gives_some e = let f = formed_so in absurd cc

  abbrev mover : Site → Inst
  mover c = move j (source c from)

  two : (c : Site) → c.answer ≡ p.frame.answer → code_of c (Return from) ≡ mover c ∷ ret ∷ []
  two c e = number_code c from j form (e ∙ same)

  module _ (k : Facts) (w : Shared) (x : World) (q : Process) (ready : Ready m k i x p q) (hold : HoldTheSame m k i x p q)
      (worlds : (sides m).worlds k w x) (h : code.Frame) (l : Frame) (gs : List code.Frame) (fs : List Frame) (f : p.below ≡ h ∷ gs)
      (g : q.below ≡ l ∷ fs) (waits : Waits m k i x Awaited h l p.frame.answer q.frame) (rest : AllWait m k i x Awaited h.answer l gs fs) where
    abbrev at_site : Site
    at_site = site_here m b i from p mover two gives_some here k w x q ready hold worlds

    give : Giving m ready.stands.is.function x q p.frame.slots from j at_site
    give = giving m k i x p q ready j form same at_site.at from here

    abbrev n_at : ℕ
    n_at = number_place m.adts (types_of m waits.is.function) h.into

    address : word_at q.frame.words (pos answer_place) ≡ Found (Address (InFrame l.serial) (pos n_at))
    address = (goes_to m k i x p.frame.answer h l q.frame waits AsNumber formed_so).1

    lead : LeadsAndStores x q (behind answer_place 0) l.words n_at (λ new. memory x (with_frame_words q l.serial new))
    lead =
        let zero : n_at + 0 ≡ n_at = omega arith in
        subst (λ a. LeadsAndStores x q (behind answer_place 0) l.words a (λ new. memory x (with_frame_words q l.serial new))) zero
        (spots_lead.frame x q answer_place l.serial n_at l.words 0 address
        (words_found m k i x p.frame.answer q h l gs fs g ready.none_made waits rest))

    is_stored : Stored frames_limit x q m (mover at_site) l.words n_at lead.0 j give.number
    is_stored =
        let old = old_word m k i x p.frame.answer h l q.frame waits in
        let is = old.number j form in
        stored m x q j form (source at_site from) give.number give.reads l.words n_at lead.0 is.0 is.1 old.old old.plainly

    step_is : (sides m).code.step x q ≡ Went x (on_next (memory x (with_frames q q.frame (with_words l is_stored.others ∷ fs) [])))
    step_is =
        steps_obey.stores frames_limit (object_of m ∷ []) x q (object_of m) (mover at_site) x lead.0.place is_stored.others
        (memory x (with_frame_words q l.serial is_stored.others)) (begins m b i from p mover two gives_some here k w x q ready hold worlds)
        is_stored.does (lead.1 is_stored.others)
        ∙ ap (λ r. Went x (on_next (memory x r)))
        (words_stored m k i x p.frame.answer q h l gs fs g ready.none_made waits rest is_stored.others)

    value_is : answer m b i from p mover two gives_some here ≡ Num give.number
    value_is = ap (λ t. fitted m.adts t (given p.frame.slots from)) same ∙ give.gives

    number_there : (now : Facts) (y : World)
        → Has m b i from p mover two gives_some here now y (with_frames q q.frame (with_words l is_stored.others ∷ fs) [])
    number_there now y h' l' fs' still e =
        let n = number_place m.adts (types_of m still.is.function) h'.into in
        let r = reference_place m.adts (types_of m still.is.function) h'.into in
        let to = goes_to m now i y p.frame.answer h' l' q.frame still AsNumber formed_so in
        let found = subst (λ o. number_at j o.words (pos n_at) ≡ Found give.number) (same_first (with_words l is_stored.others) l' fs fs' e) is_stored.found in
        let there = same_place l.serial l'.serial n_at n (sym address ∙ to.1) in
        a_value l'.words n r p.frame.answer (all_of m.adts p.frame.answer) (answer m b i from p mover two gives_some here)
        (subst (λ v. ValueStands m.adts now l'.words n r (form_of p.frame.answer) p.frame.answer v) (sym value_is)
        (subst (λ t. ValueStands m.adts now l'.words n r (form_of t) t (Num give.number)) (sym same)
        (subst (λ o. ValueStands m.adts now l'.words n r o (of_kind j) (Num give.number)) (sym form)
        (a_number n j give.number (subst (λ a. number_at j l'.words (pos a) ≡ Found give.number) there found) give.reads.range, to.0))))
        (λ a o d. let z = ap (λ v. slice_get (references v) a) value_is in absurd cc)

    number_moves : Moves m b i from p mover two gives_some here k w x q ready hold worlds
    number_moves =
        let from_it : n_at ≤ n_at = omega arith in
        let small = is_stored.small in
        let past : n_at + is_stored.size ≤ n_at + 8 = omega (arith, small) in
        let ranged = is_stored.ranged waits.is.words.kind.ranged in
        let to = goes_to m k i x p.frame.answer h l q.frame waits AsNumber formed_so in
        let idle = stays m k i x p.frame.answer h l q.frame waits is_stored.others n_at is_stored.size from_it past is_stored.changes ranged
        (reference_place m.adts (types_of m waits.is.function) h.into) (inr (omega (arith, small))) in
        moves m b i from p mover two gives_some here k w x q ready hold worlds h l gs fs f is_stored.others step_is
        (waits_then m k i x p.frame.answer h l q.frame waits is_stored.others n_at is_stored.size from_it past is_stored.changes ranged
        AsNumber formed_so ((to.0.0, idle ∙ to.0.1, to.0.2), to.1))
        (rest_then m k i x p.frame.answer h l q.frame waits is_stored.others n_at is_stored.size from_it past is_stored.changes ranged gs fs rest)
        number_there

pub number_returns : NumberReturns
number_returns m b from k i x p q ready form here =
    let j = kind_is p.frame.answer form in
    two_go m b i from p (mover m b i from p here j.0 j.1 j.2) (two m b i from p here j.0 j.1 j.2) (gives_some m b i from p here j.0 j.1 j.2) here
    k x q ready (λ now w y. number_moves m b i from p here j.0 j.1 j.2 now w y q)
