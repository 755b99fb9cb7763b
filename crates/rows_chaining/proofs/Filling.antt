-- The second instruction of a region that is kept: the words of its slots are copied into the new record.
use Rattle.std.proofs.Common.{◌≡◌, ℕ, zero, suc, pos, ◌+◌, ◌-◌, ◌*◌, ◌/◌, ◌%◌, ◌<◌, ◌≤◌, true, List, [], ◌∷◌, length, Option, Some, None, refl, sym, ap, ◌∙◌, subst, arith, inl, inr}
use Rattle.std.specs.Prelude.{slice_get}
use Rattle.std.proofs.lemmas.List.{length-set}
use Rattle.process_model.specs.Process.{Went}
use Rattle.process_model.specs.Follows.{Only}
use Rattle.process_ways.specs.Ways.{Way}
use Rattle.process_ways.proofs.On.{silent}
use Rattle.heap_model.specs.Heap.{Heap, at, there}
use Rattle.heap_model.specs.Facts.{Fact, Carrier, Chars, IsFree, Free}
use Rattle.heap_model.specs.Worlds.{Sets}
use Rattle.heap_model.proofs.Alike.{is_inner}
use Rattle.heap_model.proofs.Heap.{there_is, there_of, within}
use Rattle.heap_model.proofs.Changes.{set_free, there_on}
use Rattle.heap_model.proofs.Growing.{grows_same}
use Rattle.limbo_types.specs.Types.{Ty}
use Rattle.limbo_layout.specs.Adts.{Def, Has}
use Rattle.limbo_layout.specs.Layout.{is_in}
use Rattle.limbo_typed.specs.Typed as typed
use Rattle.limbo_meaning.specs.Process.{Shared}
use Rattle.limbo_meaning.specs.Values.{Value}
use Rattle.system_model.specs.Limits.{frames_limit}
use Rattle.core_code.specs.Code.{Instr, Keep}
use Rattle.core_code.specs.Machine as code
use Rattle.core_code.specs.Slots as core
use Rattle.core_code.specs.Slots.{Slot, Holds, Forms, Turns, Regions, NoRegion, MoreRegions}
use Rattle.core_typing.specs.Held as held
use Rattle.core_typing.specs.Held.{Held}
use Rattle.dis_isa.specs.declared.inst.Inst.{Inst}
use Rattle.dis_isa.specs.declared.inst.Middle.TheVariants as middle
use Rattle.dis_isa.specs.declared.op.Op.TheVariants as op
use Rattle.dis_meaning.specs.Words.{Word, Refer, Access, Found, word_at}
use Rattle.dis_meaning.specs.Process.{Process}
use Rattle.dis_memory.specs.Blocks.{Block, Record, World, with_changed}
use Rattle.dis_memory.specs.Naming.{inside}
use Rattle.dis_memory.specs.Copies.{as_marked}
use Rattle.dis_memory.specs.Step.{obey}
use Rattle.value_words.specs.Facts.{Facts, Grows}
use Rattle.value_words.proofs.Bytes.{word_there}
use Rattle.value_heaps.proofs.Words.{named_by, named_where}
use Rattle.value_roots.specs.Accounts as accounts
use Rattle.value_roots.specs.Accounts.{Accounted, AllAccounted, to_inner}
use Rattle.value_frames.specs.Frames.{Form, Nowhere, AsNumber, AsReference, Boxed, form_of, spare_place, number_place, reference_place}
use Rattle.value_frames.specs.Frames.{turn_bytes, turn_references, region_references}
use Rattle.value_frames.specs.Types.{AreOf, desc}
use Rattle.value_frames.specs.Slots.{IsKept}
use Rattle.value_frames.specs.Standing.{IsIdle, nothing_there, text_left, carrier_left, RefersIdly, ValueStands, SlotStands, a_value, a_forming, a_decision, a_loop, ChainStands, no_chain, a_chain}
use Rattle.value_frames.specs.Standing.{RegionStands, no_slot, more_slots, WordsAre}
use Rattle.value_frames.proofs.Later.{frames_later}
use Rattle.value_frames.proofs.Replacing.{kinds_stay}
use Rattle.value_moves.specs.Operands.{inst, own, behind}
use Rattle.value_moves.specs.Spots.{Leads}
use Rattle.value_moves.proofs.Changing.{low_or_high}
use Rattle.value_moves.proofs.Copying.{Gives}
use Rattle.value_moves.proofs.Leading.{spots_lead}
use Rattle.value_code.specs.Data.{OfRegion}
use Rattle.value_code.specs.Objects.{object_of, type_number}
use Rattle.value_code.proofs.Having.{objects_have}
use Rattle.number_effects.specs.Giving.{after}
use Rattle.number_effects.proofs.Stepping.{steps_obey}
use Rattle.value_follows.specs.Stands.{types_of, Awaited}
use Rattle.value_follows.specs.Sides.{sides, contents, HoldTheSame}
use Rattle.value_follows.specs.Rows.{place, Base, AreThere}
use Rattle.value_follows.proofs.RootedSlots.{same_block}
use Rattle.value_follows.proofs.RootedValues.{has_at, each_accounted}
use Rattle.value_follows.proofs.Several.{Next as Goes, moved_to}
use Rattle.value_follows.proofs.Slots.{slot_is}
use Rattle.value_follows.proofs.Standing.{all_wait}
use Rattle.value_follows.proofs.Waiting.{all_wait_later}
use Rattle.rows_dropping.proofs.Spare.{set_there}
use Rattle.rows_lists.proofs.Making.{stands_outer}
use Rattle.rows_turning.proofs.Copied.{AreCopied, copied}
use Rattle.rows_turning.proofs.Marks.{AreSlots, slots_give, turns_are_slots, frames_are_slots}
use Rattle.rows_turning.proofs.Regions.{slot_moves}
use Rattle.rows_turning.proofs.Returned.{copied_refer, copied_referred, copied_ranged}
use Rattle.rows_chaining.specs.Rows.{IsBare}
use Rattle.rows_chaining.proofs.Over.{Over, over_frame, over_stands, over_code, over_used, over_rank, over_reaches}
use Rattle.rows_chaining.proofs.Accounts.{slot_word_accounted}
use Rattle.rows_chaining.proofs.Making.{Fresh, turn_words, turn_bare, turn_kind}

-- ---- slots that have no block as their own refer to none that stands for nothing

module _ (defs : List Def) (k : Facts) (x : Heap Block) (frame : ℕ) (d : ℕ) (free : Free k d) where
  not_free : (f : Fact Block) → k.fact d ≡ Some f → (IsFree (Some f) → ⊥) → ⊥
  not_free f e never = never (subst (λ (o : Option (Fact Block)). IsFree o) e free)

  not_idle : (r : Option ℕ) → r ≡ Some d → IsIdle defs k r → ⊥
  not_idle _ e nothing_there = absurd cc
  not_idle _ e (text_left b t f) = let same : b ≡ d = cc in not_free (Chars t) (ap k.fact (sym same) ∙ f) (λ z. z)
  not_idle _ e (carrier_left b c f h) = let same : b ≡ d = cc in not_free (Carrier c) (ap k.fact (sym same) ∙ f) (λ z. z)

  idly_outer : (words : List Word) (r : ℕ) → RefersIdly defs k words r → word_at words (pos r) ≡ Found (Refer (Some d)) → ⊥
  idly_outer words r h e = not_idle h.0 (same_block words r h.0 d h.1 e) h.2

  value_outer : (words : List Word) (n r : ℕ) (form : Form) (t : Ty) (v : Value) → form_of t ≡ form → ValueStands defs k words n r form t v
      → word_at words (pos r) ≡ Found (Refer (Some d)) → ⊥
  value_outer words n r Nowhere t v form s e = idly_outer words r s.1 e
  value_outer words n r AsNumber t v form s e = idly_outer words r s.1 e
  value_outer words n r AsReference t v form s e = stands_outer k defs words r t v form s d e (is_inner (k.fact d) free)
  value_outer words n r Boxed t v form (c, inner, w, box, st) e =
      let z : Some c ≡ Some d = same_block words r (Some c) d w e in
      let same : c ≡ d = cc in
      not_free (Carrier (Record inner)) (ap k.fact (sym same) ∙ box.carries) (λ z. z)

  no_chain_there : (words : List Word) (p : ℕ) (gs : held.Regions) (rs : Regions) (own : List ℕ) → ChainStands defs k x frame words p gs rs own
      → rs ≡ NoRegion → word_at words (pos p) ≡ Found (Refer (Some d)) → ⊥
  no_chain_there _ _ _ _ _ (no_chain words p f) e g = let z : None ≡ Some d = same_block words p None d f g in cc
  no_chain_there _ _ _ _ _ (a_chain words inner p b last h hs g gs own more is l r t) e f = cc

  slot_outer : (words : List Word) (n r : ℕ) (h : Held) (l : Slot) (own : List ℕ) → SlotStands defs k x frame words n r h l own → IsBare l
      → word_at words (pos r) ≡ Found (Refer (Some d)) → ⊥
  slot_outer _ _ _ _ _ _ (a_value words n r t live v s m) bare e = value_outer words n r (form_of t) t v refl s e
  slot_outer _ _ _ _ _ _ (a_forming words inner n r b t v ks us live vs is f) bare e = bare
  slot_outer _ _ _ _ _ _ (a_decision words n r b f i) bare e = idly_outer words r i e
  slot_outer _ _ _ _ _ _ (a_loop words n r next gs NoRegion own f c) bare e = no_chain_there words r gs NoRegion own c refl e
  slot_outer _ _ _ _ _ _ (a_loop words n r next gs (MoreRegions g rs) own f c) bare e = bare

module _ (defs : List Def) (k : Facts) (x : Heap Block) (frame : ℕ) where
  none_owned : (words : List Word) (p : ℕ) (gs : held.Regions) (rs : Regions) (own : List ℕ) → ChainStands defs k x frame words p gs rs own
      → rs ≡ NoRegion → own ≡ []
  none_owned _ _ _ _ _ (no_chain words p f) e = refl
  none_owned _ _ _ _ _ (a_chain words inner p b last h hs g gs own more is l r t) e = absurd cc

  pub bare_own : (words : List Word) (n r : ℕ) (h : Held) (l : Slot) (own : List ℕ) → SlotStands defs k x frame words n r h l own → IsBare l → own ≡ []
  bare_own _ _ _ _ _ _ (a_value words n r t live v s m) bare = refl
  bare_own _ _ _ _ _ _ (a_forming words inner n r b t v ks us live vs is f) bare = absurd bare
  bare_own _ _ _ _ _ _ (a_decision words n r b f i) bare = refl
  bare_own _ _ _ _ _ _ (a_loop words n r next gs NoRegion own f c) bare = none_owned words r gs NoRegion own c refl
  bare_own _ _ _ _ _ _ (a_loop words n r next gs (MoreRegions g rs) own f c) bare = absurd bare

  -- slots one behind the other are a region
  pub region_of : (words : List Word) (known : held.Slots) (slots : core.Slots) (count from p : ℕ)
      → ((d : ℕ) → d < count → SlotStands defs k x frame words (p + 8 * d) (p + 8 * d + 4) (held.slot known (from + d)) (core.slot slots (from + d)) [])
      → RegionStands defs k x frame words p (held.region known from count) (core.region slots from count) []
  region_of words known slots zero from p each = no_slot words p
  region_of words known slots (suc n) from p each =
      let z : p + 8 * 0 ≡ p = omega arith in
      let s : from + 0 ≡ from = omega arith in
      more_slots words p (held.slot known from) (held.region known (suc from) n) (core.slot slots from) (core.region slots (suc from) n) [] []
      (subst (λ (a : ℕ). SlotStands defs k x frame words a (a + 4) (held.slot known from) (core.slot slots from) []) z
      (subst (λ (a : ℕ). SlotStands defs k x frame words (p + 8 * 0) (p + 8 * 0 + 4) (held.slot known a) (core.slot slots a) []) s (each 0 (omega arith))))
      (region_of words known slots n (suc from) (p + 8) (λ d l.
      let a : p + 8 * suc d ≡ p + 8 + 8 * d = omega arith in
      let c : from + suc d ≡ suc from + d = omega arith in
      subst (λ (u : ℕ). SlotStands defs k x frame words u (u + 4) (held.slot known (suc from + d)) (core.slot slots (suc from + d)) []) a
      (subst (λ (u : ℕ). SlotStands defs k x frame words (p + 8 * suc d) (p + 8 * suc d + 4) (held.slot known u) (core.slot slots u) []) c
      (each (suc d) (omega (arith, l))))))

module _ (m : typed.Module) (b : Base m) (loop from words i : ℕ) (p : code.Process) (n : ℕ) (f : typed.Function)
    (here : slice_get p.frame.code p.frame.pc ≡ Some (Keep loop from words))
    (bare : (s : ℕ) → from ≤ s → s < from + words → IsBare (core.slot p.frame.slots s)) where
  abbrev it : Instr
  it = Keep loop from words

  abbrev types : List Ty
  types = types_of m f

  abbrev to : ℕ
  to = number_place m.adts types from

  abbrev spare_at : ℕ
  spare_at = spare_place m.adts types

  -- Such a record has a region of slots, and refers to no other of the chain.
  pub record Filled (busy : List ℕ) (j : ℕ) (c : ℕ) (inner : List Word) (k : Facts) (x : World) (q : Process) : Type 0 where
    pub fresh : Fresh m b loop from words i p n f here busy j c inner k x q
    pub kind : AreOf (turn_bytes words) (turn_references words) inner
    pub first : word_at inner (pos 0) ≡ Found (Refer None)
    pub last : word_at inner (pos 4) ≡ Found (Refer None)
    pub region : RegionStands m.adts k x.heap q.frame.serial inner 8 (held.region fresh.over.known from words) (core.region p.frame.slots from words) []

  module _ (k : Facts) (w : Shared) (x : World) (q : Process) (c : ℕ) (fr : Fresh m b loop from words i p n f here [] 1 c (turn_words words) k x q)
      (hold : HoldTheSame m k i x p q) (worlds : (sides m).worlds k w x) where
    abbrev are : WordsAre m.adts k x.heap q.frame.serial [] types fr.over.known p.frame.variables p.frame.slots q.frame.words
    are = fr.over.words

    abbrev made_words : List Word
    made_words = turn_words words

    fits : from + words ≤ length p.frame.slots
    fits = (over_used m k i x [] n f 1 (Some c) p q fr.over it here).1

    slots_in_frame : AreSlots q.frame.words (to / 4) words
    slots_in_frame = frames_are_slots m.adts types (length p.frame.slots) q.frame.words are.laid are.kind from words fits

    abbrev type : ℕ
    type = type_number m (OfRegion words)

    typed_so : slice_get (object_of m).types type ≡ Some (desc (4 * (2 * words)) (region_references 0 words))
    typed_so =
        let same : 8 * words ≡ 4 * (2 * words) = omega arith in
        subst (λ s. slice_get (object_of m).types type ≡ Some (desc s (region_references 0 words))) same
        (objects_have.types m n f p.frame.pc it (OfRegion words) fr.over.there (over_code m k i x [] n f 1 (Some c) p q fr.over it here) (inr (inl refl)))

    abbrev copy : Inst
    copy = inst op.Movmp (own to) (middle.Imm (pos type)) (behind spare_at 8)

    abbrev lead_from : Leads x q (own to) q.frame.words to
    lead_from = (spots_lead.own x q to).0

    abbrev lead_to : Leads x q (behind spare_at 8) made_words 8
    lead_to = (spots_lead.inner x q spare_at c made_words 8 fr.over.spare fr.there).0

    here_gives : (j : ℕ) → j < 2 * words → Gives q.frame.words (to / 4 + j) (as_marked (is_in (4 * j) (region_references 0 words)))
    here_gives j l = slots_give q.frame.words (to / 4) words slots_in_frame j l

    gone_gives : (j : ℕ) → j < 2 * words → Gives made_words (8 / 4 + j) (as_marked (is_in (4 * j) (region_references 0 words)))
    gone_gives j l = slots_give made_words 2 words (turns_are_slots words made_words (turn_kind words)) j l

    got : (others : List Word) × AreCopied q.frame.words made_words others to 8 (2 * words)
        × (obey frames_limit (object_of m) x q copy op.Movmp ≡ after x q lead_to.place others)
    got =
        copied frames_limit (object_of m) x q (own to) (behind spare_at 8) q.frame.words made_words to 8 lead_from lead_to (omega arith) refl type (2 * words)
        (region_references 0 words) typed_so here_gives gone_gives

    abbrev filled : List Word
    filled = got.0

    abbrev y : World
    y = with_changed x c (Record filled)

    abbrev then : Process
    then = moved_to q (suc q.frame.pc) q.frame.words

    step : (sides m).code.step x q ≡ Went y then
    step =
        steps_obey.stores frames_limit (object_of m ∷ []) x q (object_of m) copy x lead_to.place filled _
        (let r = over_reaches m k i x [] n f 1 (Some c) p q fr.over it here b w hold worlds 1 copy q.frame.pc q.frame.words fr.over.pc refl in
        record { object = r.object; words = r.words; instance = r.instance; code = r.code; here = r.here }) got.2
        ((spots_lead.inner x q spare_at c made_words 8 fr.over.spare fr.there).1 filled)

    -- ---- what the record refers to

    slot_there : (s : ℕ) → s < length p.frame.slots
        → SlotStands m.adts k x.heap q.frame.serial q.frame.words (number_place m.adts types s) (reference_place m.adts types s)
        (held.slot fr.over.known s) (core.slot p.frame.slots s) (are.own s)
    slot_there s l = slot_is m k i x [] p.frame q.frame (over_frame m k i x [] n f 1 (Some c) p q fr.over) s l (λ e. e)

    -- A word of it that refers is one of a slot.
    pub record OfSlot (j d : ℕ) : Type 0 where
      pub slot : ℕ
      pub less : slot < words
      pub is : j ≡ 2 + (2 * slot + 1)
      pub word : slice_get q.frame.words (reference_place m.adts types (from + slot) / 4) ≡ Some (Refer (Some d))

    bare_word : (j d : ℕ) → slice_get made_words j ≡ Some (Refer (Some d)) → ⊥
    bare_word j d e = turn_bare words d (has_at made_words j (Refer (Some d)) e)

    of_slot : (j d : ℕ) → slice_get filled j ≡ Some (Refer (Some d)) → OfSlot j d
    of_slot j d e = elim (low_or_high j 2) [
      | inl low ↦ absurd (bare_word j d (sym (got.1.rest j (inl (omega (arith, low)))) ∙ e))
      | inr high ↦ elim (low_or_high j (2 + 2 * words)) [
        | inr past ↦ absurd (bare_word j d (sym (got.1.rest j (inr (omega (arith, past)))) ∙ e))
        | inl inside ↦ by_half ((j - 2) / 2) ((j - 2) % 2) refl high inside
      ]
    ]
      where
        from_frame : (u : ℕ) → u < 2 * words → j ≡ 2 + u → slice_get q.frame.words (to / 4 + u) ≡ Some (Refer (Some d))
        from_frame u l at = sym (got.1.same u l) ∙ ap (slice_get filled) (sym at) ∙ e

        by_half : (s r : ℕ) → (j - 2) % 2 ≡ r → 2 ≤ j → j < 2 + 2 * words → OfSlot j d
        by_half s zero f high inside =
            let u = (j - 2) / 2 in
            let z = slots_in_frame.numbers u (omega (arith, high, inside, f)) in
            absurd (z.2 (Some d)
            (let o : Some z.0 ≡ Some (Refer (Some d)) =
            sym z.1 ∙ from_frame (2 * u) (omega (arith, high, inside, f)) (omega (arith, high, f)) in cc))
        by_half s (suc zero) f high inside =
            let u = (j - 2) / 2 in
            let at : to / 4 + (2 * u + 1) ≡ reference_place m.adts types (from + u) / 4 = omega arith in
            record {
              slot = u;
              less = omega (arith, high, inside, f);
              is = omega (arith, high, f);
              word = subst (λ v. slice_get q.frame.words v ≡ Some (Refer (Some d))) at
                  (from_frame (2 * u + 1) (omega (arith, high, inside, f)) (omega (arith, high, f)));
            }
        by_half s (suc (suc r)) f high inside = absurd (omega (arith, f))

    reads : (s d : ℕ) → slice_get q.frame.words (reference_place m.adts types s / 4) ≡ Some (Refer (Some d))
        → word_at q.frame.words (pos (reference_place m.adts types s)) ≡ Found (Refer (Some d))
    reads s d e = word_there q.frame.words (reference_place m.adts types s) (Refer (Some d)) (omega arith) e

    outer_then : (d : ℕ) → Free k d → 0 < inside (Record filled) d → c < d
    outer_then d free h =
        let v = named_where filled d h in
        let o = of_slot v.0 d v.1 in
        let l = o.less in
        let fit = fits in
        absurd (slot_outer m.adts k x.heap q.frame.serial d free q.frame.words (number_place m.adts types (from + o.slot))
        (reference_place m.adts types (from + o.slot)) (held.slot fr.over.known (from + o.slot)) (core.slot p.frame.slots (from + o.slot))
        (are.own (from + o.slot)) (slot_there (from + o.slot) (omega (arith, l, fit)))
        (bare (from + o.slot) (omega arith) (omega (arith, l))) (reads (from + o.slot) d o.word))

    live_then : (d : ℕ) → 0 < inside (Record filled) d → there (at x.heap d) ≡ true
    live_then d h =
        let v = named_where filled d h in
        let o = of_slot v.0 d v.1 in
        let u = named_by q.frame.words (reference_place m.adts types (from + o.slot) / 4) d o.word in
        hold.same.live d (hold.same.roots d (omega (arith, u)))

    set_so : Sets x.heap y.heap c (Some (Record filled))
    set_so = set_there x.heap c (Record filled) (Record made_words) fr.there

    worlds_then : (sides m).worlds k w y
    worlds_then = (
      set_free (contents m) k w.heap x.heap y.heap c (Record filled) worlds.0 fr.unknown
          (let e = length-set x.heap c (Some (Record filled)) in omega (arith, e))
          (let e = length-set x.heap c (Some (Record filled)) in
          let l = within x.heap c (there_of (at x.heap c) (Record made_words) fr.there) in omega (arith, e, l))
          set_so live_then outer_then,
      worlds.1,
    )

    changes_then : (sides m).changes (Only i) k k x y
    changes_then = (
      record {
        grows = grows_same k;
        there = λ d v e. there_is (at y.heap d) (there_on x.heap y.heap c (Record filled) set_so d (there_of (at x.heap d) v e));
        free = λ d j f e ne. (refl, set_so.apart d (λ z. ne (let v : Some i ≡ Some j = sym fr.made ∙ (ap k.maker (sym z) ∙ e) in cc)));
        carriers = λ d v e. set_so.apart d (λ z. let o : None ≡ Some (Carrier v) = sym fr.unknown ∙ (ap k.fact (sym z) ∙ e) in absurd cc);
      },
      omega arith,
    )

    -- ---- all else stands as it stood

    abbrev grows : Grows k k
    grows = record { facts = λ n f e. e; makers = λ n j e. e; forms = λ n o e. e }

    kept_own : (s d : ℕ) → Has (are.own s) d → IsKept k x.heap y.heap d
    kept_own s d h =
        let owned = (frames_later m.adts k x.heap q.frame.serial [] types fr.over.known p.frame.variables p.frame.slots q.frame.words are).owned in
        ((owned s d h).0, set_so.apart d (λ z. let l = fr.older s d h in omega (arith, l, z)))

    words_after : (now : WordsAre m.adts k y.heap q.frame.serial [] types fr.over.known p.frame.variables p.frame.slots q.frame.words) × (now.own ≡ are.own)
    words_after =
        (frames_later m.adts k x.heap q.frame.serial [] types fr.over.known p.frame.variables p.frame.slots q.frame.words are).later k y.heap grows kept_own

    abbrev over_then : Over m k i y [] n f 2 (Some c) p then
    over_then =
        let at = fr.over.pc in
        record {
          process = fr.over.process;
          there = fr.over.there;
          code = fr.over.code;
          answer = fr.over.answer;
          many = fr.over.many;
          instance = fr.over.instance;
          formed = fr.over.formed;
          known = fr.over.known;
          words = words_after.0;
          mine = λ s d h. fr.over.mine s d (subst (λ (o : ℕ → List ℕ). Has (o s) d) words_after.1 h);
          fresh = fr.over.fresh;
          goes = fr.over.goes;
          waits = all_wait m k i y Awaited p.frame.answer q.frame then.frame p.below q.below refl refl
              (all_wait_later m k k i x y q.frame.serial grows (omega arith)
              (λ d free made other. (free, set_so.apart d (λ z. other (ap k.form z ∙ fr.formed))))
              Awaited p.frame.answer q.frame p.below q.below (omega arith) fr.over.waits);
          pc = omega (arith, at);
          spare = fr.over.spare;
          none_made = fr.over.none_made;
        }

    abbrev fresh_then : Fresh m b loop from words i p n f here [] 2 c filled k y then
    fresh_then = record {
      over = over_then;
      there = set_so.here;
      unknown = fr.unknown;
      made = fr.made;
      formed = fr.formed;
      older = λ s d h. fr.older s d (subst (λ (o : ℕ → List ℕ). Has (o s) d) words_after.1 h);
    }

    kind_then : AreOf (turn_bytes words) (turn_references words) filled
    kind_then =
        kinds_stay.all (turn_bytes words) (turn_references words) made_words filled (turn_kind words) got.1.many
        (copied_refer q.frame.words made_words filled to 8 (2 * words) (region_references 0 words) got.1 here_gives gone_gives)
        (copied_referred q.frame.words made_words filled to 8 (2 * words) (region_references 0 words) got.1 here_gives gone_gives)
        (copied_ranged q.frame.words made_words filled to 8 (2 * words) (region_references 0 words) got.1 here_gives gone_gives are.kind.ranged
        (turn_kind words).ranged)

    nil_at : (o : ℕ) → Has (turn_references words) o → o % 4 ≡ 0 → o / 4 < 2 → word_at filled (pos o) ≡ Found (Refer None)
    nil_at o h even low =
        let r = kind_then.refer o h in
        go r.0 r.1
      where
        go : (r : Option ℕ) → slice_get filled (o / 4) ≡ Some (Refer r) → word_at filled (pos o) ≡ Found (Refer None)
        go None e = word_there filled o (Refer None) even e
        go (Some d) e = absurd (bare_word (o / 4) d (sym (got.1.rest (o / 4) (inl low)) ∙ e))

    region_then : RegionStands m.adts k y.heap q.frame.serial filled 8 (held.region fr.over.known from words) (core.region p.frame.slots from words) []
    region_then =
        region_of m.adts k y.heap q.frame.serial filled fr.over.known p.frame.slots words from 8 (λ d l.
        let fit = fits in
        let s = from + d in
        let now = slot_is m k i y [] p.frame then.frame (over_frame m k i y [] n f 2 (Some c) p then over_then) s (omega (arith, l, fit)) (λ e. e) in
        let none = bare_own m.adts k y.heap q.frame.serial q.frame.words (number_place m.adts types s) (reference_place m.adts types s)
        (held.slot fr.over.known s) (core.slot p.frame.slots s) (words_after.0.own s) now (bare s (omega arith) (omega (arith, l))) in
        slot_moves m.adts k q.frame.words filled y.heap q.frame.serial (number_place m.adts types s) (reference_place m.adts types s) (8 + 8 * d) (8 + 8 * d + 4)
        (held.slot fr.over.known s) (core.slot p.frame.slots s) []
        (record {
          whole = omega arith;
          whole_too = omega arith;
          same =
              let a : 8 / 4 + 2 * d ≡ (8 + 8 * d) / 4 = omega arith in
              let e : to / 4 + 2 * d ≡ number_place m.adts types s / 4 = omega arith in
              ap (slice_get filled) (sym a) ∙ got.1.same (2 * d) (omega (arith, l)) ∙ ap (slice_get q.frame.words) e;
        })
        (record {
          whole = omega arith;
          whole_too = omega arith;
          same =
              let a : 8 / 4 + (2 * d + 1) ≡ (8 + 8 * d + 4) / 4 = omega arith in
              let e : to / 4 + (2 * d + 1) ≡ reference_place m.adts types s / 4 = omega arith in
              ap (slice_get filled) (sym a) ∙ got.1.same (2 * d + 1) (omega (arith, l)) ∙ ap (slice_get q.frame.words) e;
        })
        (subst (λ os. SlotStands m.adts k y.heap q.frame.serial q.frame.words (number_place m.adts types s) (reference_place m.adts types s)
        (held.slot fr.over.known s) (core.slot p.frame.slots s) os) none now))

    filled_then : Filled [] 2 c filled k y then
    filled_then = record {
      fresh = fresh_then;
      kind = kind_then;
      first = nil_at 0 (inl refl) refl (omega arith);
      last = nil_at 4 (inr (inl refl)) refl (omega arith);
      region = region_then;
    }

    -- ---- they hold the same

    live_now : AreThere m y then
    live_now = b.there_again x y q then step worlds.0.closed (λ n h. hold.same.live n (hold.same.roots n h))

    abbrev names : ℕ → ℕ
    names = code.process_names p

    account_then : Accounted k i y.heap names (Refer (Some c))
    account_then =
        to_inner c (Record filled) (is_inner (k.fact c) (subst (λ (o : Option (Fact Block)). IsFree o) (sym fr.unknown) tt)) set_so.here (λ u. fr.made)
        (each_accounted k i y.heap names filled (λ j d e.
        let o = of_slot j d e in
        let l = o.less in
        let fit = fits in
        slot_word_accounted m k i w y p then [] (over_frame m k i y [] n f 2 (Some c) p then over_then) worlds_then live_now (from + o.slot)
        (omega (arith, l, fit)) (λ h. h) d (reads (from + o.slot) d o.word)))

    hold_then : HoldTheSame m k i y p then
    hold_then =
        b.holds_on_way k i w y [] Awaited p then (over_stands m k i y [] n f 2 (Some c) p then over_then) worlds_then live_now
        (record {
          slots = λ s h. absurd h;
          spare = λ r e.
              let z : ◌≡◌ {A = Access Word} (Found (Refer (Some c))) (Found (Refer r)) = sym fr.over.spare ∙ e in
              let same : Some c ≡ r = cc in
              subst (λ (o : Option ℕ). Accounted k i y.heap names (Refer o)) same account_then;
          made = subst (λ fs. AllAccounted k i y.heap names (accounts.all_words fs)) (sym fr.over.none_made) accounts.none;
          answer = tt;
        })
        (λ s o h. absurd h)

    -- The record gets the words of the region's slots.
    pub fills : (l : ℕ) → ((c : ℕ) (inner : List Word) (y : World) (r : Process) → Filled [] 2 c inner k y r
        → ((j : ℕ) → j < 2 * words → slice_get inner (8 / 4 + j) ≡ slice_get r.frame.words (to / 4 + j)) → HoldTheSame m k i y p r
        → Way (sides m) (place m) l k i y p r)
        → Goes m b i p l k w x q
    fills l way =
        let low : place m q ≡ 3 = over_rank m k i x [] n f 1 (Some c) p q fr.over it here 1 (omega arith) q fr.over.pc in
        let high : place m then ≡ 4 = over_rank m k i x [] n f 1 (Some c) p q fr.over it here 2 (omega arith) then over_then.pc in
        silent (sides m) (place m) (λ o z r t. Way (sides m) (place m) l o i z r t) k k i w x y p q then step changes_then worlds_then
        (omega (arith, low, high)) (way c filled y then filled_then got.1.same hold_then)
