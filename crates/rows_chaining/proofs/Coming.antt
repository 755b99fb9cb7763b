-- The first record's region is copied into its slots, and the loop's word comes to refer to the next record.
use Rattle.std.proofs.Common.{◌≡◌, ℕ, zero, suc, pos, ◌+◌, ◌-◌, ◌*◌, ◌/◌, ◌<◌, ◌≤◌, List, [], ◌∷◌, length, Option, Some, refl, sym, ap, ◌∙◌, subst, arith, inl, inr}
use Rattle.std.specs.Prelude.{slice_get}
use Rattle.std.specs.List.{range_with_len}
use Rattle.process_model.specs.Process.{Went}
use Rattle.process_ways.specs.Ways.{Way}
use Rattle.heap_model.specs.Heap.{Heap, at}
use Rattle.heap_model.specs.Facts.{Free}
use Rattle.limbo_types.specs.Types.{Ty}
use Rattle.limbo_layout.specs.Adts.{Def, Has}
use Rattle.limbo_layout.specs.Layout.{is_in}
use Rattle.limbo_typed.specs.Typed as typed
use Rattle.limbo_meaning.specs.Process.{Shared}
use Rattle.system_model.specs.Limits.{frames_limit}
use Rattle.core_code.specs.Code.{Instr, Take}
use Rattle.core_code.specs.Machine as code
use Rattle.core_code.specs.Slots as core
use Rattle.core_code.specs.Slots.{Slot, slot_names, Regions, MoreRegions, chain_of}
use Rattle.core_typing.specs.Held as held
use Rattle.core_typing.specs.Held.{Held, Of, Forming, Decided, Turns, slots_in}
use Rattle.core_typing.specs.Needs.{IsClean}
use Rattle.dis_isa.specs.declared.inst.Inst.{Inst}
use Rattle.dis_isa.specs.declared.inst.Middle.TheVariants as middle
use Rattle.dis_isa.specs.declared.op.Op.TheVariants as op
use Rattle.dis_meaning.specs.Words.{Word, Refer, Access, Found, ◌>>=◌, word_at, reference}
use Rattle.dis_meaning.specs.Process.{Process}
use Rattle.dis_memory.specs.Blocks.{Block, Record, World}
use Rattle.dis_memory.specs.Copies.{as_marked}
use Rattle.value_words.specs.Facts.{Facts}
use Rattle.value_words.proofs.Bytes.{word_found}
use Rattle.value_roots.specs.Accounts as accounts
use Rattle.value_roots.specs.Accounts.{Accounted, AllAccounted, to_nothing}
use Rattle.value_frames.specs.Frames.{answer_place, spare_place, number_place, reference_place, frame_bytes, frame_references, turn_bytes, turn_references, region_references}
use Rattle.value_frames.specs.Types.{AreOf, desc}
use Rattle.value_frames.specs.Standing.{SlotStands, WordsAre}
use Rattle.value_frames.specs.Rest.{IsAtRest}
use Rattle.value_frames.proofs.Rest.{slots_rest}
use Rattle.value_frames.proofs.Slots.{slots_change}
use Rattle.value_frames.proofs.Later.{frames_later}
use Rattle.value_frames.proofs.Replacing.{kinds_stay}
use Rattle.value_heaps.specs.Blocks.{IsWithin}
use Rattle.value_moves.specs.Operands.{inst, own, behind}
use Rattle.value_moves.proofs.Changing.{low_or_high}
use Rattle.value_moves.proofs.Copying.{Gives}
use Rattle.value_moves.proofs.Leading.{spots_lead}
use Rattle.value_moves.specs.Spots.{Leads}
use Rattle.dis_memory.specs.Step.{obey}
use Rattle.value_code.specs.Data.{OfRegion}
use Rattle.value_code.specs.Objects.{object_of, type_number}
use Rattle.value_code.proofs.Having.{objects_have}
use Rattle.number_effects.specs.Giving.{after, with_word, WordStored, StoresWord}
use Rattle.number_effects.proofs.Reading.{operands_are_read}
use Rattle.number_effects.proofs.Records.{words_move}
use Rattle.number_effects.proofs.Stepping.{steps_obey}
use Rattle.value_follows.specs.Stands.{types_of, place_of, Awaited}
use Rattle.value_follows.specs.Sides.{sides, HoldTheSame}
use Rattle.value_follows.specs.Rows.{place, Base, AreThere}
use Rattle.value_follows.proofs.Putting.{word_same}
use Rattle.value_follows.proofs.RootedSlots.{in_range, same_block}
use Rattle.value_follows.proofs.RootedValues.{has_at, stands_laid}
use Rattle.value_follows.proofs.Several.{Next as Goes, moved_to, goes_silently}
use Rattle.value_follows.proofs.Slots.{slot_is}
use Rattle.value_follows.proofs.Standing.{all_wait}
use Rattle.rows_lists.proofs.Busy.{names_nothing}
use Rattle.rows_turning.proofs.Copied.{AreCopied, copied}
use Rattle.rows_turning.proofs.Marks.{slots_give, turns_are_slots, frames_are_slots}
use Rattle.rows_turning.proofs.Returned.{copied_refer, copied_referred, copied_ranged}
use Rattle.rows_chaining.proofs.Over.{Over, over_frame, over_stands, over_code, over_used, over_found, over_agrees, over_rank, over_reaches}
use Rattle.rows_chaining.proofs.Accounts.{slot_word_accounted, within_accounted, one_accounted}
use Rattle.rows_chaining.proofs.Taking.{FirstHere, Turning, q_at, hold_on}

has_range : (from count d : ℕ) → d < count → Has (range_with_len from count) (from + d)
has_range from zero d l = absurd (omega (arith, l))
has_range from (suc n) zero l = inl (omega arith)
has_range from (suc n) (suc d) l = inr (subst (Has (range_with_len (from + 1) n)) (omega arith) (has_range (from + 1) n d (omega (arith, l))))

-- a slot that names nothing has no block as its own
at_rest : (defs : List Def) (k : Facts) (x : Heap Block) (frame : ℕ) (words : List Word) (n r : ℕ) (h : Held) (l : Slot) (own : List ℕ) → IsClean h
    → SlotStands defs k x frame words n r h l own → IsAtRest defs k words r own
at_rest defs k x frame words n r (Of t live) l own clean stands =
    let empty = subst (λ ns. SlotStands defs k x frame words n r (Of t ns) l own) clean stands in
    let v = slots_rest.is_value defs k x frame words n r t [] l own empty in
    let holds = subst (λ o. SlotStands defs k x frame words n r (Of t []) o own) v.1 empty in
    let reads = slots_rest.reads defs k x frame words n r t [] v.0 own holds in
    slots_rest.clean defs k x frame words n r t v.0 own holds (λ e. let b = reads.boxed e in stands_laid defs k b.1 0 t v.0 b.4)
at_rest defs k x frame words n r (Forming t variant ks us live) l own clean stands = absurd clean
at_rest defs k x frame words n r (Decided b) l own clean stands = slots_rest.decided defs k x frame words n r b l own stands
at_rest defs k x frame words n r (Turns held.NoRegion) l own clean stands = slots_rest.unturned defs k x frame words n r l own stands
at_rest defs k x frame words n r (Turns (held.MoreRegions g gs)) l own clean stands = absurd clean

module _ (m : typed.Module) (b : Base m) (loop from words passes i : ℕ) (p : code.Process) (n : ℕ) (f : typed.Function)
    (here : slice_get p.frame.code p.frame.pc ≡ Some (Take loop from words passes)) (g : core.Region) (rest : Regions)
    (some : chain_of (core.slot p.frame.slots loop) ≡ MoreRegions g rest) where
  abbrev it : Instr
  it = Take loop from words passes

  abbrev types : List Ty
  types = types_of m f

  abbrev r_at : ℕ
  r_at = reference_place m.adts types loop

  abbrev to : ℕ
  to = number_place m.adts types from

  abbrev spare_at : ℕ
  spare_at = spare_place m.adts types

  abbrev region : List ℕ
  region = range_with_len from words

  abbrev begin : ℕ
  begin = place_of m n f p.frame.pc

  -- ---- the region is copied

  module _ (k : Facts) (w : Shared) (x : World) (q : Process) (c : ℕ) (over : Over m k i x [] n f 2 (Some c) p q)
      (loop_word : word_at q.frame.words (pos r_at) ≡ Found (Refer (Some c))) (hold : HoldTheSame m k i x p q) (worlds : (sides m).worlds k w x)
      (one : FirstHere m b loop from words passes i p n f here g rest some k x [] 2 (Some c) q over (λ e. e)) (shape_so : slots_in one.shape ≡ words) where
    abbrev are : WordsAre m.adts k x.heap q.frame.serial [] types over.known p.frame.variables p.frame.slots q.frame.words
    are = over.words

    fits : from + words ≤ length p.frame.slots
    fits = (over_used m k i x [] n f 2 (Some c) p q over it here).1

    below : loop < length p.frame.slots
    below = (over_used m k i x [] n f 2 (Some c) p q over it here).0

    in_front : loop < from
    in_front = (over_agrees m k i x [] n f 2 (Some c) p q over it here).0

    block_so : one.block ≡ c
    block_so = let z : Some one.block ≡ Some c = same_block q.frame.words r_at (Some one.block) c one.is.word loop_word in cc

    there : at x.heap c ≡ Some (Record one.inner)
    there = subst (λ d. at x.heap d ≡ Some (Record one.inner)) block_so one.is.there

    free : Free k c
    free = subst (Free k) block_so one.is.free

    made : k.maker c ≡ Some i
    made = subst (λ d. k.maker d ≡ Some i) block_so (over.mine loop one.block (subst (λ os. Has os one.block) (sym one.own_so) (inl refl)))

    inner_kind : AreOf (turn_bytes words) (turn_references words) one.inner
    inner_kind = subst (λ u. AreOf (turn_bytes u) (turn_references u) one.inner) shape_so one.is.kind

    here_gives : (j : ℕ) → j < 2 * words → Gives one.inner (8 / 4 + j) (as_marked (is_in (4 * j) (region_references 0 words)))
    here_gives j l = slots_give one.inner 2 words (turns_are_slots words one.inner inner_kind) j l

    gone_gives : (j : ℕ) → j < 2 * words → Gives q.frame.words (to / 4 + j) (as_marked (is_in (4 * j) (region_references 0 words)))
    gone_gives j l =
        slots_give q.frame.words (to / 4) words (frames_are_slots m.adts types (length p.frame.slots) q.frame.words are.laid are.kind from words fits) j l

    abbrev type : ℕ
    type = type_number m (OfRegion words)

    typed_so : slice_get (object_of m).types type ≡ Some (desc (4 * (2 * words)) (region_references 0 words))
    typed_so =
        let same : 8 * words ≡ 4 * (2 * words) = omega arith in
        subst (λ s. slice_get (object_of m).types type ≡ Some (desc s (region_references 0 words))) same
        (objects_have.types m n f p.frame.pc it (OfRegion words) over.there (over_code m k i x [] n f 2 (Some c) p q over it here) (inr (inl refl)))

    abbrev copy : Inst
    copy = inst op.Movmp (behind spare_at 8) (middle.Imm (pos type)) (own to)

    abbrev lead_from : Leads x q (behind spare_at 8) one.inner 8
    lead_from = (spots_lead.inner x q spare_at c one.inner 8 over.spare there).0

    abbrev lead_to : Leads x q (own to) q.frame.words to
    lead_to = (spots_lead.own x q to).0

    got : (others : List Word) × AreCopied one.inner q.frame.words others 8 to (2 * words)
        × (obey frames_limit (object_of m) x q copy op.Movmp ≡ after x q lead_to.place others)
    got =
        copied frames_limit (object_of m) x q (behind spare_at 8) (own to) one.inner q.frame.words 8 to lead_from lead_to refl (omega arith) type (2 * words)
        (region_references 0 words) typed_so here_gives gone_gives

    abbrev words3 : List Word
    words3 = got.0

    abbrev ghost : Process
    ghost = moved_to q (suc q.frame.pc) words3

    step : (sides m).code.step x q ≡ Went x ghost
    step =
        steps_obey.stores frames_limit (object_of m ∷ []) x q (object_of m) copy x lead_to.place words3 _
        (let r = over_reaches m k i x [] n f 2 (Some c) p q over it here b w hold worlds 2 copy q.frame.pc q.frame.words over.pc refl in
        record { object = r.object; words = r.words; instance = r.instance; code = r.code; here = r.here }) got.2
        ((spots_lead.own x q to).1 words3)

    kind3 : AreOf (frame_bytes m.adts types (length p.frame.slots)) (frame_references m.adts types (length p.frame.slots)) words3
    kind3 =
        kinds_stay.all (frame_bytes m.adts types (length p.frame.slots)) (frame_references m.adts types (length p.frame.slots)) q.frame.words words3
        are.kind got.1.many
        (copied_refer one.inner q.frame.words words3 8 to (2 * words) (region_references 0 words) got.1 here_gives gone_gives)
        (copied_referred one.inner q.frame.words words3 8 to (2 * words) (region_references 0 words) got.1 here_gives gone_gives)
        (copied_ranged one.inner q.frame.words words3 8 to (2 * words) (region_references 0 words) got.1 here_gives gone_gives inner_kind.ranged
        are.kind.ranged)

    clean : (s : ℕ) → from ≤ s → s < from + words → IsClean (held.slot over.known s)
    clean = (over_found m k i x [] n f 2 (Some c) p q over it here).1

    slot_there : (s : ℕ) → s < length p.frame.slots
        → SlotStands m.adts k x.heap q.frame.serial q.frame.words (number_place m.adts types s) (reference_place m.adts types s) (held.slot over.known s)
        (core.slot p.frame.slots s) (are.own s)
    slot_there s l = slot_is m k i x [] p.frame q.frame (over_frame m k i x [] n f 2 (Some c) p q over) s l (λ e. e)

    bare : (s : ℕ) → Has region s → are.own s ≡ []
    bare s h =
        let r = in_range from words s h in
        let e = r.1 in
        let l = r.2 in
        let fit = fits in
        (at_rest m.adts k x.heap q.frame.serial q.frame.words (number_place m.adts types s) (reference_place m.adts types s) (held.slot over.known s)
        (core.slot p.frame.slots s) (are.own s) (clean s (omega (arith, e)) (omega (arith, e, l))) (slot_there s (omega (arith, e, l, fit)))).1

    unnamed : (s : ℕ) → Has region s → (o : ℕ) → slot_names (core.slot p.frame.slots s) o ≡ 0
    unnamed s h o =
        let r = in_range from words s h in
        let e = r.1 in
        let l = r.2 in
        let fit = fits in
        names_nothing m.adts k x.heap q.frame.serial q.frame.words (number_place m.adts types s) (reference_place m.adts types s) (held.slot over.known s)
        (core.slot p.frame.slots s) (are.own s) (slot_there s (omega (arith, e, l, fit))) (clean s (omega (arith, e)) (omega (arith, e, l))) o

    -- what lies outside of its slots is as it was
    outside : (s u : ℕ) → (Has region s → ⊥) → IsWithin (number_place m.adts types s) 8 u → slice_get words3 u ≡ slice_get q.frame.words u
    outside s u free r = elim (low_or_high s from) [
      | inl low ↦ let a = r.1 in got.1.rest u (inl (omega (arith, a, low)))
      | inr high ↦ elim (low_or_high s (from + words)) [
        | inl less ↦
            let at : from + (s - from) ≡ s = omega (arith, high) in
            absurd (free (subst (Has region) at (has_range from words (s - from) (omega (arith, high, less)))))
        | inr past ↦ let a = r.0 in got.1.rest u (inr (omega (arith, a, past)))
      ]
    ]

    stays : (at : ℕ) → 4 * (at / 4) + 4 ≤ to → word_at words3 (pos at) ≡ word_at q.frame.words (pos at)
    stays at low = word_same q.frame.words words3 at (got.1.rest (at / 4) (inl (omega (arith, low))))

    words_then : (after : WordsAre m.adts k x.heap q.frame.serial region types over.known p.frame.variables p.frame.slots words3) × (after.own ≡ are.own)
    words_then =
        let owned = (frames_later m.adts k x.heap q.frame.serial [] types over.known p.frame.variables p.frame.slots q.frame.words are).owned in
        slots_change.several m.adts k k x.heap x.heap q.frame.serial [] region types over.known over.known p.frame.variables p.frame.slots p.frame.slots
        q.frame.words words3 are.own are (record { facts = λ n f e. e; makers = λ n j e. e; forms = λ n o e. e }) refl are.as_many
        (record {
          each = λ u out. elim (low_or_high (4 * u) to) [
            | inl low ↦ got.1.rest u (inl (omega (arith, low)))
            | inr high ↦ elim (low_or_high (4 * u) (to + 8 * words)) [
              | inl inside ↦ let fit = fits in absurd (out (omega (arith, high), omega (arith, inside, fit)))
              | inr past ↦ got.1.rest u (inr (omega (arith, past)))
            ]
          ];
        })
        kind3 are.none_past bare
        (λ s h l idle a o. inl (record {
          idle = λ e. e;
          known_so = a;
          holds_so = o;
          words_so = λ u r. outside s u idle r;
          own_so = refl;
          kept = λ d u. ((owned s d u).0, refl);
        }))
        are.single are.apart

    over3 : Over m k i x region n f 3 (Some c) p ghost
    over3 =
        let at = over.pc in
        record {
          process = over.process;
          there = over.there;
          code = over.code;
          answer = over.answer;
          many = over.many;
          instance = over.instance;
          formed = over.formed;
          known = over.known;
          words = words_then.0;
          mine = λ s d h. over.mine s d (subst (λ (o : ℕ → List ℕ). Has (o s) d) words_then.1 h);
          fresh = over.fresh;
          goes = over.goes;
          waits = all_wait m k i x Awaited p.frame.answer q.frame ghost.frame p.below q.below refl (stays answer_place (omega arith)) over.waits;
          pc = omega (arith, at);
          spare = stays spare_at (omega arith) ∙ over.spare;
          none_made = over.none_made;
        }

    turning : Turning m b loop from words passes i p n f here g rest some ghost c one.inner k x
    turning =
        let front = in_front in
        record {
          over = over3;
          there = there;
          free = free;
          made = made;
          word = stays r_at (omega (arith, front)) ∙ loop_word;
          same = got.1.same;
        }

    live3 : AreThere m x ghost
    live3 = b.there_again x x q ghost step worlds.0.closed (λ n h. hold.same.live n (hold.same.roots n h))

    abbrev names : ℕ → ℕ
    names = code.process_names p

    first_account : Accounted k i x.heap names (Refer (Some c))
    first_account =
        slot_word_accounted m k i w x p q [] (over_frame m k i x [] n f 2 (Some c) p q over) worlds (λ n h. hold.same.live n (hold.same.roots n h))
        loop below (λ e. e) c loop_word

    inner_accounts : AllAccounted k i x.heap names one.inner
    inner_accounts = within_accounted k i x.heap names c first_account one.inner there free

    slot_account : (s : ℕ) → Has region s → (r : Option ℕ) → word_at words3 (pos (reference_place m.adts types s)) ≡ Found (Refer r)
        → Accounted k i x.heap names (Refer r)
    slot_account s h r e =
        let u = in_range from words s h in
        let is = u.1 in
        let l = u.2 in
        let at : reference_place m.adts types s / 4 ≡ to / 4 + (2 * u.0 + 1) = omega (arith, is) in
        let found = (word_found words3 (reference_place m.adts types s) (Refer r) e).1 in
        one_accounted k i x.heap names one.inner (Refer r) inner_accounts
        (has_at one.inner (8 / 4 + (2 * u.0 + 1)) (Refer r)
        (sym (got.1.same (2 * u.0 + 1) (omega (arith, l))) ∙ ap (slice_get words3) (sym at) ∙ found))

    hold3 : HoldTheSame m k i x p ghost
    hold3 =
        b.holds_on_way k i w x region Awaited p ghost (over_stands m k i x region n f 3 (Some c) p ghost over3) worlds live3
        (record {
          slots = λ s h r e. slot_account s h r e;
          spare = λ r e.
              let same : Some c ≡ r = let z : ◌≡◌ {A = Access Word} (Found (Refer (Some c))) (Found (Refer r)) = sym over3.spare ∙ e in cc in
              subst (λ (o : Option ℕ). Accounted k i x.heap names (Refer o)) same first_account;
          made = subst (λ fs. AllAccounted k i x.heap names (accounts.all_words fs)) (sym over.none_made) accounts.none;
          answer = tt;
        })
        (λ s o h named. let none = unnamed s h o in absurd (omega (arith, none, named)))

    pub copies : (l : ℕ) → ((ghost : Process) → Turning m b loop from words passes i p n f here g rest some ghost c one.inner k x
        → HoldTheSame m k i x p ghost → Way (sides m) (place m) l k i x p ghost)
        → Goes m b i p l k w x q
    copies l way =
        let low : place m q ≡ 4 = over_rank m k i x [] n f 2 (Some c) p q over it here 2 (omega arith) q over.pc in
        let high : place m ghost ≡ 5 = over_rank m k i x [] n f 2 (Some c) p q over it here 3 (omega arith) ghost over3.pc in
        goes_silently m b i p l k w x q ghost step worlds (omega (arith, low, high)) (way ghost turning hold3)

  -- ---- the loop's word comes to refer to the next record

  module _ (ghost : Process) (c : ℕ) (inner : List Word) (next : Option ℕ) (next_word : word_at inner (pos 0) ≡ Found (Refer next))
      (k : Facts) (w : Shared) (x : World) (t : Turning m b loop from words passes i p n f here g rest some ghost c inner k x)
      (hold : HoldTheSame m k i x p ghost) (worlds : (sides m).worlds k w x) where
    abbrev move : Inst
    move = inst op.Movp (behind spare_at 0) middle.None (own r_at)

    abbrev lead : Leads x ghost (own r_at) ghost.frame.words r_at
    lead = (spots_lead.own x ghost r_at).0

    abbrev words4 : List Word
    words4 = with_word ghost.frame.words r_at (Refer next)

    stores : StoresWord (obey frames_limit (object_of m) x ghost move op.Movp) x ghost lead.place ghost.frame.words r_at
        (Refer next)
    stores =
        words_move.reference frames_limit (object_of m) x ghost move next ghost.frame.words r_at lead (Some c) refl
        (operands_are_read.source_referring x ghost (behind spare_at 0) inner 0 (spots_lead.inner x ghost spare_at c inner 0 t.over.spare t.there).0
        ∙ ap (λ (a : Access Word). a >>= reference) next_word) t.word

    pub stored4 : WordStored ghost.frame.words r_at (Refer next)
    stored4 = stores.0

    abbrev q4 : Process
    q4 = q_at m b loop from words passes i p n f here g rest some ghost c inner next next_word t.word t.over.spare stored4 4

    goes4 : (sides m).code.step x ghost ≡ Went x q4
    goes4 =
        let at = t.over.pc in
        let past : suc ghost.frame.pc ≡ begin + 4 = omega (arith, at) in
        steps_obey.stores frames_limit (object_of m ∷ []) x ghost (object_of m) move x lead.place words4 _
        (let r = over_reaches m k i x region n f 3 (Some c) p ghost t.over it here b w hold worlds 3 move ghost.frame.pc ghost.frame.words t.over.pc refl in
        record { object = r.object; words = r.words; instance = r.instance; code = r.code; here = r.here }) stores.1
        ((spots_lead.own x ghost r_at).1 words4)
        ∙ ap (λ (pc : ℕ). Went x (moved_to ghost pc words4)) past

    pub moves : (l : ℕ) → (HoldTheSame m k i x p q4 → Way (sides m) (place m) l k i x p q4) → Goes m b i p l k w x ghost
    moves l way =
        let low : place m ghost ≡ 5 = over_rank m k i x region n f 3 (Some c) p ghost t.over it here 3 (omega arith) ghost t.over.pc in
        let high : place m q4 ≡ 6 = over_rank m k i x region n f 3 (Some c) p ghost t.over it here 4 (omega arith) q4 refl in
        goes_silently m b i p l k w x ghost q4 goes4 worlds (omega (arith, low, high))
        (way (hold_on m b loop from words passes i p n f here g rest some ghost c inner next next_word t.word t.over.spare stored4 k x 4 t.free t.there hold))
