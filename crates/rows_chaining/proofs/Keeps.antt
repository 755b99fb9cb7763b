-- A region that is kept where nothing is in the loop's chain: the new record is the only one.
use Rattle.std.proofs.Common.{◌≡◌, ◌≢◌, ◌⊎◌, ℕ, true, zero, suc, pos, ◌+◌, ◌*◌, ◌/◌, ◌<◌, ◌≤◌, List, [], ◌∷◌, length, Option, Some, None, refl, sym, ap, ◌∙◌, subst, arith, inl, inr}
use Rattle.std.specs.Prelude.{slice_get}
use Rattle.std.specs.List.{range_with_len}
use Rattle.process_model.specs.Process.{Went}
use Rattle.process_ways.specs.Ways.{Way}
use Rattle.process_ways.proofs.On.{stepped}
use Rattle.heap_model.specs.Heap.{at}
use Rattle.heap_model.specs.Facts.{Fact, IsFree, Free}
use Rattle.limbo_types.specs.Types as ty
use Rattle.limbo_types.specs.Types.{Ty}
use Rattle.limbo_layout.specs.Adts.{Def, Has}
use Rattle.limbo_typed.specs.Typed as typed
use Rattle.limbo_values.specs.declared.operator.Comparison.TheVariants as comparison
use Rattle.limbo_meaning.specs.Process.{Shared}
use Rattle.limbo_meaning.specs.Values.{Value, Ref, nothing}
use Rattle.system_model.specs.Limits.{frames_limit}
use Rattle.core_code.specs.Code.{Instr, Keep}
use Rattle.core_code.specs.Machine as code
use Rattle.core_code.specs.Slots as core
use Rattle.core_code.specs.Slots.{Slot, Turns, Regions, NoRegion, MoreRegions, chain_of, next_of}
use Rattle.core_typing.specs.Held as held
use Rattle.core_typing.specs.Held.{Held, slots_in}
use Rattle.core_typing.specs.Going.{stand}
use Rattle.dis_isa.specs.declared.inst.Inst.{Inst}
use Rattle.dis_isa.specs.declared.inst.Middle.TheVariants as middle
use Rattle.dis_isa.specs.declared.inst.Operand.TheVariants as operand
use Rattle.dis_isa.specs.declared.op.Op.TheVariants as op
use Rattle.dis_meaning.specs.Words.{Word, Refer, Access, Found, ◌>>=◌, word_at, reference}
use Rattle.dis_meaning.specs.Process.{Process}
use Rattle.dis_memory.specs.Blocks.{Block, World}
use Rattle.dis_memory.specs.Places.{middle_reference}
use Rattle.dis_memory.specs.Step.{obey}
use Rattle.value_words.specs.Facts.{Facts}
use Rattle.value_words.specs.Stands as memory
use Rattle.value_words.specs.Stands.{a_number, a_text, a_name, an_array, no_words, a_tuple, an_adt}
use Rattle.value_words.proofs.Bytes.{word_there}
use Rattle.value_words.proofs.Rows.{below as within_length}
use Rattle.value_roots.specs.Accounts.{Accounted}
use Rattle.value_frames.specs.Frames.{answer_place, spare_place, number_place, reference_place, frame_bytes, frame_references, turn_bytes, turn_references}
use Rattle.value_frames.specs.Types.{AreOf}
use Rattle.value_frames.specs.Slots.{StaysSo}
use Rattle.value_frames.specs.Standing.{Single, SlotStands, a_value, a_loop, a_chain, no_more, nothing_there, WordsAre}
use Rattle.value_frames.proofs.Slots.{slots_change}
use Rattle.value_frames.proofs.Later.{frames_later}
use Rattle.value_frames.proofs.Replacing.{kinds_stay}
use Rattle.value_heaps.specs.Blocks.{IsWithin}
use Rattle.value_moves.specs.Operands.{inst, own}
use Rattle.value_moves.specs.Spots.{Leads}
use Rattle.value_moves.proofs.Leading.{spots_lead}
use Rattle.value_moves.proofs.Changing.{low_or_high}
use Rattle.value_code.specs.Data.{nil_word}
use Rattle.value_code.specs.Objects.{object_of, of_function, size_at, placed}
use Rattle.value_code.specs.Code.{nil_middle}
use Rattle.number_effects.specs.Giving.{with_word, StoresWord}
use Rattle.number_effects.specs.Numbers.{where_holds}
use Rattle.number_effects.proofs.Numbers.{numbers_work}
use Rattle.number_effects.proofs.Reading.{operands_are_read}
use Rattle.number_effects.proofs.Records.{words_move}
use Rattle.number_effects.proofs.Stepping.{steps_obey}
use Rattle.value_follows.specs.Stands.{types_of, place_of, GoesOn, Awaited, Stands}
use Rattle.value_follows.specs.Sides.{sides, HoldTheSame, program}
use Rattle.value_follows.specs.Rows.{place, Base}
use Rattle.value_follows.proofs.Putting.{word_same}
use Rattle.value_follows.proofs.RootedSlots.{in_range}
use Rattle.value_follows.proofs.RootedValues.{has_at}
use Rattle.value_follows.proofs.Several.{Next as Goes, moved_to, goes_silently, hold_as}
use Rattle.value_follows.proofs.Single.{nothing_changes}
use Rattle.value_follows.proofs.Standing.{all_wait, goes_behind, instance_here}
use Rattle.rows_dropping.proofs.Tidying.{Tidies, tidies_way, tidies_hold}
use Rattle.rows_turning.proofs.Ends.{IsEnd, end_is}
use Rattle.rows_turning.proofs.Marks.{refers_second}
use Rattle.rows_chaining.specs.Rows.{AreBare}
use Rattle.rows_chaining.proofs.Regions.{set_here, set_apart, set_long}
use Rattle.rows_chaining.proofs.Over.{Over, over_frame, over_code, over_used, over_found, over_agrees, over_rank, over_row, over_reaches, loop_so}
use Rattle.rows_chaining.proofs.Accounts.{slot_word_accounted}
use Rattle.rows_chaining.proofs.Arriving.{IsWhere, at_loop, within, elsewhere, is_where, own_by}
use Rattle.rows_chaining.proofs.Making.{turn_words, turn_bare, turn_kind}
use Rattle.rows_chaining.proofs.Carrying.{known_long}
use Rattle.rows_chaining.proofs.Clearing.{Cleared, cleared_later}

-- ---- slots that are empty

pub core_long : (slots : core.Slots) (from count : ℕ) → length (core.cleared slots from count) ≡ length slots
core_long slots from zero = refl
core_long slots from (suc c) = set_long (core.cleared slots (suc from) c) from core.empty ∙ core_long slots (suc from) c

pub core_out : (slots : core.Slots) (from count s : ℕ) → (s < from) ⊎ (from + count ≤ s) → slice_get (core.cleared slots from count) s ≡ slice_get slots s
core_out slots from zero s out = refl
core_out slots from (suc c) s (inl low) =
    set_apart (core.cleared slots (suc from) c) from s core.empty (λ e. omega (arith, e, low)) ∙ core_out slots (suc from) c s (inl (omega (arith, low)))
core_out slots from (suc c) s (inr high) =
    set_apart (core.cleared slots (suc from) c) from s core.empty (λ e. omega (arith, e, high)) ∙ core_out slots (suc from) c s (inr (omega (arith, high)))

pub core_in : (slots : core.Slots) (from count d : ℕ) → d < count → from + count ≤ length slots
    → slice_get (core.cleared slots from count) (from + d) ≡ Some core.empty
core_in slots from zero d l fits = absurd (omega (arith, l))
core_in slots from (suc c) zero l fits =
    let e = core_long slots (suc from) c in
    let z : from ≡ from + 0 = omega arith in
    subst (λ s. slice_get (core.cleared slots from (suc c)) s ≡ Some core.empty) z
    (set_here (core.cleared slots (suc from) c) from core.empty (omega (arith, fits, e)))
core_in slots from (suc c) (suc d) l fits =
    let z : suc from + d ≡ from + suc d = omega arith in
    set_apart (core.cleared slots (suc from) c) from (from + suc d) core.empty (λ e. omega (arith, e))
    ∙ subst (λ s. slice_get (core.cleared slots (suc from) c) s ≡ Some core.empty) z (core_in slots (suc from) c d (omega (arith, l)) (omega (arith, fits)))

pub held_long : (slots : held.Slots) (from count : ℕ) → length (held.cleared slots from count) ≡ length slots
held_long slots from zero = refl
held_long slots from (suc c) = set_long (held.cleared slots (suc from) c) from held.empty ∙ held_long slots (suc from) c

pub held_out : (slots : held.Slots) (from count s : ℕ) → (s < from) ⊎ (from + count ≤ s) → slice_get (held.cleared slots from count) s ≡ slice_get slots s
held_out slots from zero s out = refl
held_out slots from (suc c) s (inl low) =
    set_apart (held.cleared slots (suc from) c) from s held.empty (λ e. omega (arith, e, low)) ∙ held_out slots (suc from) c s (inl (omega (arith, low)))
held_out slots from (suc c) s (inr high) =
    set_apart (held.cleared slots (suc from) c) from s held.empty (λ e. omega (arith, e, high)) ∙ held_out slots (suc from) c s (inr (omega (arith, high)))

pub held_in : (slots : held.Slots) (from count d : ℕ) → d < count → from + count ≤ length slots
    → slice_get (held.cleared slots from count) (from + d) ≡ Some held.empty
held_in slots from zero d l fits = absurd (omega (arith, l))
held_in slots from (suc c) zero l fits =
    let e = held_long slots (suc from) c in
    let z : from ≡ from + 0 = omega arith in
    subst (λ s. slice_get (held.cleared slots from (suc c)) s ≡ Some held.empty) z
    (set_here (held.cleared slots (suc from) c) from held.empty (omega (arith, fits, e)))
held_in slots from (suc c) (suc d) l fits =
    let z : suc from + d ≡ from + suc d = omega arith in
    set_apart (held.cleared slots (suc from) c) from (from + suc d) held.empty (λ e. omega (arith, e))
    ∙ subst (λ s. slice_get (held.cleared slots (suc from) c) s ≡ Some held.empty) z (held_in slots (suc from) c d (omega (arith, l)) (omega (arith, fits)))

-- ---- the word that refers to nothing

nil_refers : (defs : List Def) (k : Facts) (words : List Word) (at : ℕ) (t : Ty) (v : Value) → v ≡ Ref None → memory.Stands defs k words at t v
    → word_at words (pos at) ≡ Found (Refer None)
nil_refers defs k words _ _ _ e (a_number at j z f i) = absurd cc
nil_refers defs k words _ _ _ e (a_text at r s f i) = absurd cc
nil_refers defs k words _ _ _ e (a_name at t None n i f h) = f
nil_refers defs k words _ _ _ e (a_name at t (Some b) None i f h) = absurd h
nil_refers defs k words _ _ _ e (a_name at t (Some b) (Some n) i f h) = absurd cc
nil_refers defs k words _ _ _ e (an_array at t r p f i) = absurd cc
nil_refers defs k words _ _ _ e (no_words at) = absurd cc
nil_refers defs k words _ _ _ e (a_tuple at ts rs vs l all) = absurd cc
nil_refers defs k words _ _ _ e (an_adt at n d rs vs f l all) = absurd cc

module _ (m : typed.Module) (b : Base m) (loop from words i : ℕ) (p : code.Process) (n : ℕ) (f : typed.Function)
    (here : slice_get p.frame.code p.frame.pc ≡ Some (Keep loop from words)) (bare : AreBare p from words)
    (empty : chain_of (core.slot p.frame.slots loop) ≡ NoRegion) where
  abbrev it : Instr
  it = Keep loop from words

  abbrev types : List Ty
  types = types_of m f

  abbrev n_at : ℕ
  n_at = number_place m.adts types loop

  abbrev r_at : ℕ
  r_at = reference_place m.adts types loop

  abbrev to : ℕ
  to = number_place m.adts types from

  abbrev spare_at : ℕ
  spare_at = spare_place m.adts types

  abbrev region : List ℕ
  region = range_with_len from words

  abbrev begin : ℕ
  begin = place_of m n f p.frame.pc

  abbrev IsClear : (j c : ℕ) (inner : List Word) (k : Facts) (x : World) (q : Process) → Type 0
  IsClear j c inner k x q = Cleared m b loop from words i p n f here bare j c inner k x q

  -- the other process then
  abbrev index : ℕ
  index = next_of (core.slot p.frame.slots loop)

  abbrev kept : core.Region
  kept = core.region p.frame.slots from words

  abbrev slots_then : core.Slots
  slots_then = core.put (core.cleared p.frame.slots from words) loop (Turns index (MoreRegions kept NoRegion))

  abbrev source_then : code.Process
  source_then = code.with_frames p (code.at p.frame (suc p.frame.pc) p.frame.variables slots_then) p.below

  module _ (j c : ℕ) (inner : List Word) (k : Facts) (w : Shared) (x : World) (q : Process) (t : IsClear j c inner k x q)
      (hold : HoldTheSame m k i x p q) (worlds : (sides m).worlds k w x) where
    abbrev fr : Over m k i x region n f j (Some c) p q
    fr = t.filled.fresh.over

    abbrev are : WordsAre m.adts k x.heap q.frame.serial region types fr.known p.frame.variables p.frame.slots q.frame.words
    are = fr.words

    below : loop < length p.frame.slots
    below = (over_used m k i x region n f j (Some c) p q fr it here).0

    fits : from + words ≤ length p.frame.slots
    fits = (over_used m k i x region n f j (Some c) p q fr it here).1

    in_front : loop < from
    in_front = (over_agrees m k i x region n f j (Some c) p q fr it here).0.0

    not_in : Has region loop → ⊥
    not_in h = let r = in_range from words loop h in let e = r.1 in let l = in_front in omega (arith, e, l)

    abbrev known_chain : held.Regions
    known_chain = (over_found m k i x region n f j (Some c) p q fr it here).0

    end : IsEnd m.adts k x.heap q.frame.serial q.frame.words r_at known_chain (are.own loop)
    end =
        let so = loop_so m k i x region n f j (Some c) p q fr loop below not_in (over_found m k i x region n f j (Some c) p q fr it here) in
        end_is m.adts k x.heap q.frame.serial q.frame.words r_at known_chain (chain_of (core.slot p.frame.slots loop)) (are.own loop) so.chain empty

    -- ---- the branch to where the chain gets its first record

    abbrev branch : Inst
    branch = inst op.Beqw (own r_at) nil_middle (operand.Imm (pos (begin + 14)))

    abbrev jumped : Process
    jumped = moved_to q (begin + 14) q.frame.words

    nil_read : middle_reference x q nil_middle ≡ Found None
    nil_read =
        let there = instance_here m b k i w x p q region (over_frame m k i x region n f j (Some c) p q fr) hold worlds.0 in
        operands_are_read.module_reference x q 0 there.0 4 there.1
        ∙ ap (λ (a : Access Word). a >>= reference)
        (nil_refers m.adts k there.0 4 ty.Nil (Ref None) refl (there.2 (placed m 4 ty.Nil (Ref None)) (inr (inl refl))).stands)

    branches : j ≡ 4 → (l : ℕ) → (IsClear 14 c inner k x jumped → HoldTheSame m k i x p jumped → Way (sides m) (place m) l k i x p jumped)
        → Goes m b i p l k w x q
    branches e l way =
        let at = fr.pc in
        let row = over_row m k i x region n f j (Some c) p q fr it here b w hold worlds in
        let reaches = over_reaches m k i x region n f j (Some c) p q fr it here b w hold worlds 4 branch q.frame.pc q.frame.words (omega (arith, at, e)) refl in
        let step =
        steps_obey.does frames_limit (object_of m ∷ []) x q (object_of m) branch (where_holds x q true (begin + 14))
        (record { object = reaches.object; words = reaches.words; instance = reaches.instance; code = reaches.code; here = reaches.here })
        (numbers_work.references frames_limit (object_of m) x q branch comparison.Equal None None true (begin + 14) refl
        (operands_are_read.source_referring x q (own r_at) q.frame.words r_at (spots_lead.own x q r_at).0 ∙ ap (λ (a : Access Word). a >>= reference) end.word)
        nil_read refl refl (within_length (object_of m).insts (begin + 14) _ (row.insts 14 _ refl))) in
        let low : place m q ≡ 6 = over_rank m k i x region n f j (Some c) p q fr it here 4 (omega arith) q (omega (arith, at, e)) in
        let high : place m jumped ≡ 16 = over_rank m k i x region n f j (Some c) p q fr it here 14 (omega arith) jumped refl in
        goes_silently m b i p l k w x q jumped step worlds (omega (arith, low, high))
        (way (record {
          filled = record {
            fresh = record {
              over = record {
                process = fr.process;
                there = fr.there;
                code = fr.code;
                answer = fr.answer;
                many = fr.many;
                instance = fr.instance;
                formed = fr.formed;
                known = fr.known;
                words = fr.words;
                mine = fr.mine;
                fresh = fr.fresh;
                goes = fr.goes;
                waits = all_wait m k i x Awaited p.frame.answer q.frame jumped.frame p.below q.below refl refl fr.waits;
                pc = refl;
                spare = fr.spare;
                none_made = fr.none_made;
              };
              there = t.filled.fresh.there;
              unknown = t.filled.fresh.unknown;
              made = t.filled.fresh.made;
              formed = t.filled.fresh.formed;
              older = t.filled.fresh.older;
            };
            kind = t.filled.kind;
            first = t.filled.first;
            last = t.filled.last;
            region = t.filled.region;
          };
          blank = t.blank;
        }) (hold_as m b i p k x q jumped (λ o. refl) hold))

    -- ---- the loop's word comes to refer to it

    abbrev link : Inst
    link = inst op.Movp (own spare_at) middle.None (own r_at)

    abbrev lead : Leads x q (own r_at) q.frame.words r_at
    lead = (spots_lead.own x q r_at).0

    stores : StoresWord (obey frames_limit (object_of m) x q link op.Movp) x q lead.place q.frame.words r_at (Refer (Some c))
    stores =
        words_move.reference frames_limit (object_of m) x q link (Some c) q.frame.words r_at lead None refl
        (operands_are_read.source_referring x q (own spare_at) q.frame.words spare_at (spots_lead.own x q spare_at).0
        ∙ ap (λ (a : Access Word). a >>= reference) fr.spare) end.word

    abbrev others : List Word
    others = with_word q.frame.words r_at (Refer (Some c))

    abbrev then : Process
    then = moved_to q (begin + 15) others

    abbrev shape : held.Region
    shape = held.region fr.known from words

    abbrev known_then : held.Slots
    known_then = held.put (held.cleared fr.known from words) loop (held.Turns (held.MoreRegions shape held.NoRegion))

    known_so : held.slot fr.known loop ≡ held.Turns held.NoRegion
    known_so = (over_found m k i x region n f j (Some c) p q fr it here).1 ∙ ap held.Turns end.known

    known_many : length fr.known ≡ length p.frame.slots
    known_many = are.as_many

    slots_many : length slots_then ≡ length p.frame.slots
    slots_many = set_long (core.cleared p.frame.slots from words) loop (Turns index (MoreRegions kept NoRegion)) ∙ core_long p.frame.slots from words

    then_many : length known_then ≡ length p.frame.slots
    then_many =
        set_long (held.cleared fr.known from words) loop (held.Turns (held.MoreRegions shape held.NoRegion)) ∙ held_long fr.known from words ∙ known_many

    same_some : {A : Type 0} (u v : A) → Some u ≡ Some v → u ≡ v
    same_some u v e = cc

    abbrev own_of : (s : ℕ) → IsWhere loop from words s → List ℕ
    own_of s h = own_by loop from words s (c ∷ []) (λ d. []) are.own h

    abbrev own_then : ℕ → List ℕ
    own_then s = own_of s (is_where loop from words s)

    abbrev StandThen : (s : ℕ) → Held → Slot → List ℕ → Type 0
    StandThen s h l os =
        SlotStands m.adts k x.heap q.frame.serial others (number_place m.adts types s) (reference_place m.adts types s) h l os

    loop_then : StandThen loop (held.Turns (held.MoreRegions shape held.NoRegion)) (Turns index (MoreRegions kept NoRegion)) (c ∷ [])
    loop_then =
        let so = loop_so m k i x region n f j (Some c) p q fr loop below not_in (over_found m k i x region n f j (Some c) p q fr it here) in
        let free : Free k c = subst (λ (o : Option (Fact Block)). IsFree o) (sym t.filled.fresh.unknown) tt in
        a_loop others n_at r_at index (held.MoreRegions shape held.NoRegion) (MoreRegions kept NoRegion) (c ∷ [])
        (word_same q.frame.words others n_at (stores.0.changes.words (n_at / 4) (inl (omega arith))) ∙ so.number)
        (a_chain others inner r_at c None shape held.NoRegion kept NoRegion [] []
        (record {
          word = stores.0.there;
          there = t.filled.fresh.there;
          free = free;
          formed = t.filled.fresh.formed;
          kind = subst (λ u. AreOf (turn_bytes u) (turn_references u) inner) (sym (known_long fr.known words from)) t.filled.kind;
        })
        t.filled.last t.filled.region (no_more inner 0 t.filled.first))

    empty_then : (s d : ℕ) → s ≡ from + d → d < words → StandThen s held.empty core.empty []
    empty_then s d e l =
        let front = in_front in
        let r = (turn_kind words).refer (8 + 8 * d + 4) (inr (inr (refers_second 8 words d l))) in
        let o : (8 + 8 * d + 4) / 4 ≡ 8 / 4 + (2 * d + 1) = omega arith in
        let a : to / 4 + (2 * d + 1) ≡ reference_place m.adts types s / 4 = omega (arith, e) in
        let found : slice_get others (reference_place m.adts types s / 4) ≡ Some (Refer r.0) =
        stores.0.changes.words (reference_place m.adts types s / 4) (inr (omega (arith, e, front)))
        ∙ sym (ap (slice_get q.frame.words) a) ∙ t.blank (2 * d + 1) (omega (arith, l)) ∙ sym (ap (slice_get (turn_words words)) o) ∙ r.1 in
        a_value others (number_place m.adts types s) (reference_place m.adts types s) ty.Nothing [] nothing
        (refl, (None, word_there others (reference_place m.adts types s) (Refer None) (omega arith) (found ∙ ap (λ (u : Option ℕ). Some (Refer u)) (is_none r.0 r.1)), nothing_there))
        (λ u v g. absurd cc)
      where
        is_none : (r : Option ℕ) → slice_get (turn_words words) ((8 + 8 * d + 4) / 4) ≡ Some (Refer r) → r ≡ None
        is_none None e = refl
        is_none (Some u) e = absurd (turn_bare words u (has_at (turn_words words) ((8 + 8 * d + 4) / 4) (Refer (Some u)) e))

    each_then : (s : ℕ) (h : Held) (l : Slot) (at : IsWhere loop from words s) → slice_get known_then s ≡ Some h → slice_get slots_then s ≡ Some l
        → StaysSo m.adts k k x.heap x.heap q.frame.serial region types fr.known p.frame.variables p.frame.slots q.frame.words others are s h l (own_of s at)
        ⊎ StandThen s h l (own_of s at)
    each_then s h l (at_loop e) a o =
        let known : held.Turns (held.MoreRegions shape held.NoRegion) ≡ h =
        same_some (held.Turns (held.MoreRegions shape held.NoRegion)) h
        (sym (set_here (held.cleared fr.known from words) loop (held.Turns (held.MoreRegions shape held.NoRegion))
        (let z = held_long fr.known from words in let v = known_many in let u = below in omega (arith, z, v, u)))
        ∙ ap (slice_get known_then) (sym e) ∙ a) in
        let holds : Turns index (MoreRegions kept NoRegion) ≡ l =
        same_some (Turns index (MoreRegions kept NoRegion)) l
        (sym (set_here (core.cleared p.frame.slots from words) loop (Turns index (MoreRegions kept NoRegion))
        (let z = core_long p.frame.slots from words in let u = below in omega (arith, z, u)))
        ∙ ap (slice_get slots_then) (sym e) ∙ o) in
        inr (subst (λ u. StandThen u h l (c ∷ [])) (sym e)
        (subst (λ u. StandThen loop h u (c ∷ [])) holds (subst (λ u. StandThen loop u (Turns index (MoreRegions kept NoRegion)) (c ∷ [])) known loop_then)))
    each_then s h l (within d less e) a o =
        let front = in_front in
        let fit = fits in
        let ne : from + d ≢ loop = λ z. omega (arith, z, front) in
        let known : held.empty ≡ h =
        same_some held.empty h
        (sym (set_apart (held.cleared fr.known from words) loop (from + d) (held.Turns (held.MoreRegions shape held.NoRegion)) ne
        ∙ held_in fr.known from words d less (let z = known_many in omega (arith, z, fit)))
        ∙ ap (slice_get known_then) (sym e) ∙ a) in
        let holds : core.empty ≡ l =
        same_some core.empty l
        (sym (set_apart (core.cleared p.frame.slots from words) loop (from + d) (Turns index (MoreRegions kept NoRegion)) ne
        ∙ core_in p.frame.slots from words d less fit)
        ∙ ap (slice_get slots_then) (sym e) ∙ o) in
        inr (subst (λ u. StandThen s h u []) holds (subst (λ u. StandThen s u core.empty []) known (empty_then s d e less)))
    each_then s h l (elsewhere ne out) a o =
        let known : slice_get fr.known s ≡ Some h =
        sym (set_apart (held.cleared fr.known from words) loop s (held.Turns (held.MoreRegions shape held.NoRegion)) ne
        ∙ held_out fr.known from words s out) ∙ a in
        let holds : slice_get p.frame.slots s ≡ Some l =
        sym (set_apart (core.cleared p.frame.slots from words) loop s (Turns index (MoreRegions kept NoRegion)) ne
        ∙ core_out p.frame.slots from words s out) ∙ o in
        inl (record {
          idle = λ busy. let r = in_range from words s busy in not_there out r.0 r.1 r.2;
          known_so = known;
          holds_so = holds;
          words_so = λ u r. stores.0.changes.words u (beside u r (low_or_high s loop));
          own_so = refl;
          kept = λ d u.
              (((frames_later m.adts k x.heap q.frame.serial region types fr.known p.frame.variables p.frame.slots q.frame.words are).owned s d u).0, refl);
        })
      where
        not_there : (s < from) ⊎ (from + words ≤ s) → (d : ℕ) → s ≡ from + d → d < words → ⊥
        not_there (inl low) d e l = omega (arith, low, e)
        not_there (inr high) d e l = omega (arith, high, e, l)

        beside : (u : ℕ) → IsWithin (number_place m.adts types s) 8 u → (s < loop) ⊎ (loop ≤ s) → (4 * u + 4 ≤ r_at) ⊎ (r_at + 4 ≤ 4 * u)
        beside u r (inl less) = let z = r.1 in inl (omega (arith, less, z))
        beside u r (inr most) = elim (low_or_high loop s) [
          | inl past ↦ let z = r.0 in inr (omega (arith, past, z))
          | inr least ↦ absurd (ne (omega (arith, most, least)))
        ]

    single_then : (s : ℕ) (at : IsWhere loop from words s) → Single (own_of s at)
    single_then s (at_loop e) = (λ h. h, tt)
    single_then s (within d l e) = tt
    single_then s (elsewhere ne out) = are.single s

    apart_then : (s r d : ℕ) (at : IsWhere loop from words s) (to : IsWhere loop from words r) → Has (own_of s at) d → Has (own_of r to) d → s ≡ r
    apart_then s r d (at_loop e) (at_loop u) h o = e ∙ sym u
    apart_then s r d (within v l u) to h o = absurd h
    apart_then s r d (at_loop e) (within v l u) h o = absurd o
    apart_then s r d (elsewhere ne out) (within v l u) h o = absurd o
    apart_then s r d (at_loop e) (elsewhere ne out) (inl u) o = let l = t.filled.fresh.older r d o in absurd (omega (arith, l, u))
    apart_then s r d (at_loop e) (elsewhere ne out) (inr u) o = absurd u
    apart_then s r d (elsewhere ne out) (at_loop e) h (inl u) = let l = t.filled.fresh.older s d h in absurd (omega (arith, l, u))
    apart_then s r d (elsewhere ne out) (at_loop e) h (inr u) = absurd u
    apart_then s r d (elsewhere ne out) (elsewhere nor past) h o = are.apart s r d h o

    past_then : (s : ℕ) (at : IsWhere loop from words s) → length p.frame.slots ≤ s → own_of s at ≡ []
    past_then s (at_loop e) l = let u = below in absurd (omega (arith, e, l, u))
    past_then s (within d less e) l = refl
    past_then s (elsewhere ne out) l = are.none_past s l

    mine_then : (s d : ℕ) (at : IsWhere loop from words s) → Has (own_of s at) d → k.maker d ≡ Some i
    mine_then s d (at_loop e) (inl u) = subst (λ v. k.maker v ≡ Some i) u t.filled.fresh.made
    mine_then s d (at_loop e) (inr u) = absurd u
    mine_then s d (within v l e) h = absurd h
    mine_then s d (elsewhere ne out) h = fr.mine s d h

    words_then : (now : WordsAre m.adts k x.heap q.frame.serial [] types known_then p.frame.variables slots_then others) × (now.own ≡ own_then)
    words_then =
        slots_change.several m.adts k k x.heap x.heap q.frame.serial region [] types fr.known known_then p.frame.variables p.frame.slots slots_then
        q.frame.words others own_then are (record { facts = λ n f e. e; makers = λ n j e. e; forms = λ n o e. e }) slots_many then_many
        (record {
          each = λ u never. elim (low_or_high (4 * u) r_at) [
            | inl low ↦ stores.0.changes.words u (inl (omega (arith, low)))
            | inr high ↦ elim (low_or_high (4 * u) (r_at + 4)) [
              | inl inside ↦ let l = below in absurd (never (omega (arith, high), omega (arith, inside, l)))
              | inr past ↦ stores.0.changes.words u (inr (omega (arith, past)))
            ]
          ];
        })
        (kinds_stay.all (frame_bytes m.adts types (length p.frame.slots)) (frame_references m.adts types (length p.frame.slots)) q.frame.words others
        are.kind stores.0.changes.many stores.0.changes.refer stores.0.changes.referred (stores.0.ranged (λ z e. absurd cc) are.kind.ranged))
        (λ s l. past_then s (is_where loop from words s) l) (λ s h. absurd h)
        (λ s h l free a o. each_then s h l (is_where loop from words s) a o)
        (λ s. single_then s (is_where loop from words s))
        (λ s r d h o. apart_then s r d (is_where loop from words s) (is_where loop from words r) h o)

    goes_then : GoesOn m f (suc p.frame.pc) known_then
    goes_then =
        goes_behind m f p.frame.pc fr.known it fr.goes (over_code m k i x region n f j (Some c) p q fr it here) 0 (suc p.frame.pc) known_then (omega arith)
        (ap (λ h. stand (suc p.frame.pc) (held.put (held.cleared fr.known from words) loop (held.Turns (held.chained (held.chain_of h) shape)))) known_so)

    abbrev stands_then : Stands m k i x [] Awaited source_then then
    stands_then = record {
      number = fr.process;
      is = record {
        number = n;
        function = f;
        there = fr.there;
        code = fr.code;
        answer = fr.answer;
        many = slots_many ∙ fr.many;
        instance = fr.instance;
        formed = fr.formed;
        known = known_then;
        words = words_then.0;
        mine = λ s d h. mine_then s d (is_where loop from words s) (subst (λ (o : ℕ → List ℕ). Has (o s) d) words_then.1 h);
        fresh = fr.fresh;
      };
      goes = goes_then;
      waits = all_wait m k i x Awaited p.frame.answer q.frame then.frame p.below q.below refl
          (word_same q.frame.words others answer_place (stores.0.changes.words (answer_place / 4) (inl (omega arith)))) fr.waits;
    }

    spare_then : word_at others (pos spare_at) ≡ Found (Refer (Some c))
    spare_then = word_same q.frame.words others spare_at (stores.0.changes.words (spare_at / 4) (inl (omega arith))) ∙ fr.spare

    abbrev tidies : Tidies m i source_then k x then
    tidies = record {
      stands = stands_then;
      none_made = fr.none_made;
      pc = let a = ap (λ o. size_at m f.of.answer (of_function m f) p.frame.pc o) (over_code m k i x region n f j (Some c) p q fr it here) in omega (arith, a);
      refers = (Some c, spare_then);
      here = (over_row m k i x region n f j (Some c) p q fr it here b w hold worlds).insts 15
          (inst op.Movp nil_word middle.None (own spare_at)) refl;
      low = over_rank m k i x region n f j (Some c) p q fr it here 15 (omega arith) then refl;
    }

    arrives : j ≡ 14 → Goes m b i p 1 k w x q
    arrives e =
        let at = fr.pc in
        let past : suc q.frame.pc ≡ begin + 15 = omega (arith, at, e) in
        let reaches = over_reaches m k i x region n f j (Some c) p q fr it here b w hold worlds 14 link q.frame.pc q.frame.words (omega (arith, at, e)) refl in
        let step =
        steps_obey.stores frames_limit (object_of m ∷ []) x q (object_of m) link x lead.place others _
        (record { object = reaches.object; words = reaches.words; instance = reaches.instance; code = reaches.code; here = reaches.here }) stores.1
        ((spots_lead.own x q r_at).1 others)
        ∙ ap (λ (pc : ℕ). Went x (moved_to q pc others)) past in
        let live = b.there_again x x q then step worlds.0.closed (λ n h. hold.same.live n (hold.same.roots n h)) in
        let l = below in
        let z = slots_many in
        let account = slot_word_accounted m k i w x source_then then [] stands_then.is worlds live loop (omega (arith, l, z)) (λ h. h) c stores.0.there in
        stepped (sides m) (place m) (λ l z r t. Way (sides m) (place m) 1 l i z r t) k k i w x x p q then step (nothing_changes m k i x) w source_then
        (ap (code.next frames_limit (program m) w p) here
        ∙ ap (λ (rs : Regions). code.goes_on w p (core.put (core.cleared p.frame.slots from words) loop (Turns index (core.chained rs kept)))) empty)
        worlds
        (tidies_way m i source_then b k x then tidies
        (tidies_hold m i source_then b k w x then tidies worlds live (λ r g.
        let o : ◌≡◌ {A = Access Word} (Found (Refer (Some c))) (Found (Refer r)) = sym spare_then ∙ g in
        let same : Some c ≡ r = cc in
        subst (λ (o : Option ℕ). Accounted k i x.heap (code.process_names source_then) (Refer o)) same account)))

  -- ---- the whole row

  at_fourteen : (c : ℕ) (inner : List Word) (k : Facts) (x : World) (q : Process) → IsClear 14 c inner k x q → HoldTheSame m k i x p q
      → Way (sides m) (place m) 2 k i x p q
  at_fourteen c inner k x q t hold = (
    hold,
    λ now y w left h worlds.
        arrives 14 c inner now w y q (cleared_later m b loop from words i p n f here bare 14 c inner k now x y q left h t) h worlds refl,
  )

  pub at_four : (c : ℕ) (inner : List Word) (k : Facts) (x : World) (q : Process) → IsClear 4 c inner k x q → HoldTheSame m k i x p q
      → Way (sides m) (place m) 3 k i x p q
  at_four c inner k x q t hold = (
    hold,
    λ now y w left h worlds.
        branches 4 c inner now w y q (cleared_later m b loop from words i p n f here bare 4 c inner k now x y q left h t) h worlds refl 2
        (λ s g. at_fourteen c inner now y _ s g),
  )
