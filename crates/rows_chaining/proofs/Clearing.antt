-- The slots of a region that is kept get the words of a second new record, which is blank.
use Rattle.std.proofs.Common.{◌≡◌, ◌≢◌, ◌⊎◌, ℕ, zero, suc, pos, ◌+◌, ◌-◌, ◌*◌, ◌/◌, ◌<◌, ◌≤◌, List, [], ◌∷◌, length, Option, Some, None, refl, sym, ap, ◌∙◌, subst, arith, inl, inr}
use Rattle.std.specs.Prelude.{slice_get}
use Rattle.std.specs.List.{range_with_len}
use Rattle.process_model.specs.Process.{Went}
use Rattle.process_ways.specs.Ways.{Way}
use Rattle.process_ways.proofs.On.{silent}
use Rattle.heap_model.specs.Heap.{at}
use Rattle.heap_model.specs.Facts.{Fact, IsFree}
use Rattle.heap_model.proofs.Alike.{is_inner}
use Rattle.heap_model.proofs.Heap.{there_of, within}
use Rattle.limbo_types.specs.Types.{Ty}
use Rattle.limbo_layout.specs.Adts.{Has}
use Rattle.limbo_layout.specs.Layout.{is_in}
use Rattle.limbo_typed.specs.Typed as typed
use Rattle.limbo_meaning.specs.Process.{Shared}
use Rattle.system_model.specs.Limits.{frames_limit}
use Rattle.core_code.specs.Code.{Instr, Keep}
use Rattle.core_code.specs.Machine as code
use Rattle.core_code.specs.Slots as core
use Rattle.core_typing.specs.Held as held
use Rattle.dis_isa.specs.declared.inst.Inst.{Inst}
use Rattle.dis_isa.specs.declared.inst.Middle.TheVariants as middle
use Rattle.dis_isa.specs.declared.inst.Operand.TheVariants as operand
use Rattle.dis_isa.specs.declared.op.Op.TheVariants as op
use Rattle.dis_meaning.specs.Words.{Word, Refer, Access, Found, word_at}
use Rattle.dis_meaning.specs.Process.{Process}
use Rattle.dis_memory.specs.Blocks.{Block, Record, World, next_serial}
use Rattle.dis_memory.specs.Copies.{as_marked}
use Rattle.dis_memory.specs.Step.{obey}
use Rattle.value_words.specs.Facts.{Facts}
use Rattle.value_words.proofs.Bytes.{word_there, word_found}
use Rattle.value_heaps.proofs.Words.{named_by}
use Rattle.value_roots.specs.Accounts.{Accounted, to_nothing, to_inner}
use Rattle.value_frames.specs.Frames.{answer_place, spare_place, number_place, reference_place, frame_bytes, frame_references, region_references}
use Rattle.value_frames.specs.Types.{AreOf, desc}
use Rattle.value_frames.specs.Slots.{IsKept}
use Rattle.value_frames.specs.Standing.{WordsAre}
use Rattle.value_frames.proofs.Slots.{slots_change}
use Rattle.value_frames.proofs.Later.{frames_later}
use Rattle.value_frames.proofs.Replacing.{kinds_stay}
use Rattle.value_heaps.specs.Blocks.{IsWithin}
use Rattle.value_moves.specs.Operands.{inst, own, behind}
use Rattle.value_moves.specs.Spots.{Leads}
use Rattle.value_moves.proofs.Changing.{low_or_high}
use Rattle.value_moves.proofs.Copying.{Gives}
use Rattle.value_moves.proofs.Leading.{spots_lead}
use Rattle.value_code.specs.Data.{OfTurn, OfRegion}
use Rattle.value_code.specs.Objects.{object_of, type_number}
use Rattle.value_code.proofs.Having.{objects_have}
use Rattle.number_effects.specs.Giving.{after, with_word, StoresWord}
use Rattle.number_effects.proofs.Records.{words_move}
use Rattle.number_effects.proofs.Stepping.{steps_obey}
use Rattle.block_effects.proofs.Giving.{stores_behind}
use Rattle.value_follows.specs.Stands.{types_of, Awaited}
use Rattle.value_follows.specs.Sides.{sides, HoldTheSame}
use Rattle.value_follows.specs.Rows.{place, Base, AreThere}
use Rattle.value_follows.proofs.Putting.{word_same}
use Rattle.value_follows.proofs.RootedSlots.{in_range}
use Rattle.value_follows.proofs.RootedValues.{has_at, each_accounted}
use Rattle.value_follows.proofs.Several.{Next as Goes, moved_to, goes_silently}
use Rattle.value_follows.proofs.Slots.{slot_is}
use Rattle.value_follows.proofs.Standing.{all_wait}
use Rattle.value_follows.proofs.Waiting.{all_wait_later}
use Rattle.rows_dropping.proofs.Spare.{Changed}
use Rattle.rows_dropping.proofs.Making.{with_new, making, new_is, new_apart, unmade, new_made, new_changed, new_worlds, new_changes}
use Rattle.rows_turning.proofs.Copied.{AreCopied, copied}
use Rattle.rows_turning.proofs.Marks.{slots_give, turns_are_slots, frames_are_slots}
use Rattle.rows_turning.proofs.Returned.{copied_refer, copied_referred, copied_ranged}
use Rattle.rows_chaining.specs.Rows.{IsBare}
use Rattle.rows_chaining.proofs.Chains.{region_stays}
use Rattle.rows_chaining.proofs.Over.{Over, over_frame, over_code, over_used, over_agrees, over_rank, over_reaches}
use Rattle.rows_chaining.proofs.Making.{turn_desc, turn_words, turn_bare, turn_kind}
use Rattle.rows_chaining.proofs.Filling.{Filled, bare_own}
use Rattle.rows_chaining.proofs.Carrying.{made_stays, filled_later, word_account, hold_filled}

module _ (m : typed.Module) (b : Base m) (loop from words i : ℕ) (p : code.Process) (n : ℕ) (f : typed.Function)
    (here : slice_get p.frame.code p.frame.pc ≡ Some (Keep loop from words))
    (bare : (s : ℕ) → from ≤ s → s < from + words → IsBare (core.slot p.frame.slots s)) where
  abbrev it : Instr
  it = Keep loop from words

  abbrev types : List Ty
  types = types_of m f

  abbrev to : ℕ
  to = number_place m.adts types from

  abbrev from_at : ℕ
  from_at = reference_place m.adts types from

  abbrev spare_at : ℕ
  spare_at = spare_place m.adts types

  abbrev region : List ℕ
  region = range_with_len from words

  abbrev New : (busy : List ℕ) (j c : ℕ) (inner : List Word) (k : Facts) (x : World) (q : Process) → Type 0
  New busy j c inner k x q = Filled m b loop from words i p n f here bare busy j c inner k x q

  has_range : (from count d : ℕ) → d < count → Has (range_with_len from count) (from + d)
  has_range from zero d l = absurd (omega (arith, l))
  has_range from (suc n) zero l = inl (omega arith)
  has_range from (suc n) (suc d) l = inr (subst (Has (range_with_len (from + 1) n)) (omega arith) (has_range (from + 1) n d (omega (arith, l))))

  -- outside of the region's slots
  outside : (s : ℕ) → (Has region s → ⊥) → (s < from) ⊎ (from + words ≤ s)
  outside s free = elim (low_or_high s from) [
    | inl low ↦ inl low
    | inr high ↦ elim (low_or_high s (from + words)) [
      | inl less ↦
          let at : from + (s - from) ≡ s = omega (arith, high) in
          absurd (free (subst (Has region) at (has_range from words (s - from) (omega (arith, high, less)))))
      | inr past ↦ inr past
    ]
  ]

  -- Besides, the first slot of the region refers to a new record, which is blank.
  pub record Remade (c : ℕ) (inner : List Word) (d : ℕ) (k : Facts) (x : World) (q : Process) : Type 0 where
    pub filled : New region 3 c inner k x q
    pub word : word_at q.frame.words (pos from_at) ≡ Found (Refer (Some d))
    pub there : at x.heap d ≡ Some (Record (turn_words words))
    pub unknown : k.fact d ≡ None
    pub made : k.maker d ≡ Some i

  -- Then they are all blank.
  pub record Cleared (j c : ℕ) (inner : List Word) (k : Facts) (x : World) (q : Process) : Type 0 where
    pub filled : New region j c inner k x q
    pub blank : (u : ℕ) → u < 2 * words → slice_get q.frame.words (to / 4 + u) ≡ slice_get (turn_words words) (8 / 4 + u)

  -- ---- a second record is made

  module _ (k : Facts) (w : Shared) (x : World) (q : Process) (c : ℕ) (inner : List Word) (t : New [] 2 c inner k x q)
      (same : (j : ℕ) → j < 2 * words → slice_get inner (8 / 4 + j) ≡ slice_get q.frame.words (to / 4 + j))
      (hold : HoldTheSame m k i x p q) (worlds : (sides m).worlds k w x) where
    abbrev fr : Over m k i x [] n f 2 (Some c) p q
    fr = t.fresh.over

    abbrev are : WordsAre m.adts k x.heap q.frame.serial [] types fr.known p.frame.variables p.frame.slots q.frame.words
    are = fr.words

    fits : from + words ≤ length p.frame.slots
    fits = (over_used m k i x [] n f 2 (Some c) p q fr it here).1

    some_words : 0 < words
    some_words = (over_agrees m k i x [] n f 2 (Some c) p q fr it here).0.1

    abbrev serial : ℕ
    serial = q.frame.serial

    abbrev now : Facts
    now = making m i k w x serial (turn_words words) worlds (turn_bare words)

    abbrev y : World
    y = with_new m i k w x serial (turn_words words) worlds (turn_bare words)

    abbrev new : ℕ
    new = next_serial x

    abbrev type : ℕ
    type = type_number m (OfTurn words)

    typed_so : slice_get (object_of m).types type ≡ Some (turn_desc words)
    typed_so = objects_have.types m n f p.frame.pc it (OfTurn words) fr.there (over_code m k i x [] n f 2 (Some c) p q fr it here) (inl refl)

    abbrev new_inst : Inst
    new_inst = inst op.New (operand.Imm (pos type)) middle.None (own from_at)

    abbrev lead : Leads x q (own from_at) q.frame.words from_at
    lead = (spots_lead.own x q from_at).0

    old : (r : Option ℕ) × (word_at q.frame.words (pos from_at) ≡ Found (Refer r))
    old =
        let slots = frames_are_slots m.adts types (length p.frame.slots) q.frame.words are.laid are.kind from words fits in
        let r = slots.references 0 some_words in
        let at : to / 4 + (2 * 0 + 1) ≡ from_at / 4 = omega arith in
        (r.0, word_there q.frame.words from_at (Refer r.0) (omega arith) (ap (slice_get q.frame.words) (sym at) ∙ r.1))

    stores : StoresWord (obey frames_limit (object_of m) x q new_inst op.New) y q lead.place q.frame.words from_at (Refer (Some new))
    stores =
        words_move.new frames_limit (object_of m) x q new_inst type (turn_desc words) q.frame.words from_at lead old.0 (inl refl) refl typed_so old.1

    abbrev words3 : List Word
    words3 = with_word q.frame.words from_at (Refer (Some new))

    abbrev then : Process
    then = moved_to q (suc q.frame.pc) words3

    step : (sides m).code.step x q ≡ Went y then
    step =
        steps_obey.stores frames_limit (object_of m ∷ []) x q (object_of m) new_inst y lead.place words3 _
        (let r = over_reaches m k i x [] n f 2 (Some c) p q fr it here b w hold worlds 2 new_inst q.frame.pc q.frame.words fr.pc refl in
        record { object = r.object; words = r.words; instance = r.instance; code = r.code; here = r.here }) stores.1
        (stores_behind x q (Record (turn_words words)) lead.place words3 _ ((spots_lead.own x q from_at).1 words3))

    changed : Changed m i p are.own serial new k now x y
    changed = new_changed m i k w x serial (turn_words words) worlds (turn_bare words) p are.own fr.mine

    not_new : (d : ℕ) (block : Block) → at x.heap d ≡ Some block → d ≢ new
    not_new d block e z = let l = within x.heap d (there_of (at x.heap d) block e) in omega (arith, l, z)

    owned : (s d : ℕ) → Has (are.own s) d → IsKept now x.heap y.heap d
    owned s d h =
        let later = (frames_later m.adts k x.heap serial [] types fr.known p.frame.variables p.frame.slots q.frame.words are).owned s d h in
        changed.keeps d later.0 (fr.mine s d h) (not_new d (Record later.1.0) later.1.1)

    kind3 : AreOf (frame_bytes m.adts types (length p.frame.slots)) (frame_references m.adts types (length p.frame.slots)) words3
    kind3 =
        kinds_stay.all (frame_bytes m.adts types (length p.frame.slots)) (frame_references m.adts types (length p.frame.slots)) q.frame.words words3
        are.kind stores.0.changes.many stores.0.changes.refer stores.0.changes.referred (stores.0.ranged (λ z e. absurd cc) are.kind.ranged)

    beside : (s u : ℕ) → (s < from) ⊎ (from + words ≤ s) → IsWithin (number_place m.adts types s) 8 u → slice_get words3 u ≡ slice_get q.frame.words u
    beside s u (inl low) r = let a = r.1 in stores.0.changes.words u (inl (omega (arith, a, low)))
    beside s u (inr high) r = let a = r.0 in let l = some_words in stores.0.changes.words u (inr (omega (arith, a, high, l)))

    words_then : (now' : WordsAre m.adts now y.heap serial region types fr.known p.frame.variables p.frame.slots words3) × (now'.own ≡ are.own)
    words_then =
        slots_change.several m.adts k now x.heap y.heap serial [] region types fr.known fr.known p.frame.variables p.frame.slots p.frame.slots
        q.frame.words words3 are.own are changed.grows refl are.as_many
        (record {
          each = λ u out. elim (low_or_high (4 * u) from_at) [
            | inl low ↦ stores.0.changes.words u (inl (omega (arith, low)))
            | inr high ↦ elim (low_or_high (4 * u) (from_at + 4)) [
              | inl inside ↦ let fit = fits in let l = some_words in absurd (out (omega (arith, high), omega (arith, inside, fit, l)))
              | inr past ↦ stores.0.changes.words u (inr (omega (arith, past)))
            ]
          ];
        })
        kind3 are.none_past
        (λ s h.
        let r = in_range from words s h in
        let e = r.1 in
        let l = r.2 in
        let fit = fits in
        bare_own m.adts k x.heap serial q.frame.words (number_place m.adts types s) (reference_place m.adts types s) (held.slot fr.known s)
        (core.slot p.frame.slots s) (are.own s)
        (slot_is m k i x [] p.frame q.frame (over_frame m k i x [] n f 2 (Some c) p q fr) s (omega (arith, e, l, fit)) (λ e. e))
        (bare s (omega (arith, e)) (omega (arith, e, l))))
        (λ s h l idle a o. inl (record {
          idle = λ e. e;
          known_so = a;
          holds_so = o;
          words_so = λ u r. beside s u (outside s idle) r;
          own_so = refl;
          kept = λ d u. owned s d u;
        }))
        are.single are.apart

    stays : (at : ℕ) → 4 * (at / 4) + 4 ≤ from_at → word_at words3 (pos at) ≡ word_at q.frame.words (pos at)
    stays at low = word_same q.frame.words words3 at (stores.0.changes.words (at / 4) (inl low))

    abbrev over_then : Over m now i y region n f 3 (Some c) p then
    over_then =
        let at = fr.pc in
        record {
          process = fr.process;
          there = fr.there;
          code = fr.code;
          answer = fr.answer;
          many = fr.many;
          instance = changed.grows.facts q.frame.instance _ fr.instance;
          formed = changed.grows.forms q.frame.instance _ fr.formed;
          known = fr.known;
          words = words_then.0;
          mine = λ s d h. changed.grows.makers d i (fr.mine s d (subst (λ (o : ℕ → List ℕ). Has (o s) d) words_then.1 h));
          fresh = let l = fr.fresh in let more = changed.more in omega (arith, l, more);
          goes = fr.goes;
          waits = all_wait m now i y Awaited p.frame.answer q.frame then.frame p.below q.below refl (stays answer_place (omega arith))
              (all_wait_later m k now i x y serial changed.grows changed.more
              (λ d free made other. changed.keeps d free made (λ e. other (ap k.form e ∙ changed.other (ap k.maker (sym e) ∙ made))))
              Awaited p.frame.answer q.frame p.below q.below (omega arith) fr.waits);
          pc = omega (arith, at);
          spare = stays spare_at (omega arith) ∙ fr.spare;
          none_made = fr.none_made;
        }

    filled_then : New region 3 c inner now y then
    filled_then = record {
      fresh = record {
        over = over_then;
        there = new_apart m i k w x serial (turn_words words) worlds (turn_bare words) c (not_new c (Record inner) t.fresh.there) ∙ t.fresh.there;
        unknown = t.fresh.unknown;
        made = changed.grows.makers c i t.fresh.made;
        formed = changed.grows.forms c _ t.fresh.formed;
        older = λ s d h. t.fresh.older s d (subst (λ (o : ℕ → List ℕ). Has (o s) d) words_then.1 h);
      };
      kind = t.kind;
      first = t.first;
      last = t.last;
      region = region_stays m.adts k now x.heap y.heap serial changed.grows inner 8 (held.region fr.known from words)
          (core.region p.frame.slots from words) [] t.region (λ d h. absurd h);
    }

    worlds_then : (sides m).worlds now w y
    worlds_then = new_worlds m i k w x serial (turn_words words) worlds (turn_bare words)

    new_there : at y.heap new ≡ Some (Record (turn_words words))
    new_there = new_is m i k w x serial (turn_words words) worlds (turn_bare words)

    new_unknown : now.fact new ≡ None
    new_unknown = (unmade m i k w x serial (turn_words words) worlds (turn_bare words)).fact

    live_then : AreThere m y then
    live_then = b.there_again x y q then step worlds.0.closed (λ n h. hold.same.live n (hold.same.roots n h))

    new_account : Accounted now i y.heap (code.process_names p) (Refer (Some new))
    new_account =
        to_inner new (Record (turn_words words)) (is_inner (now.fact new) (subst (λ (o : Option (Fact Block)). IsFree o) (sym new_unknown) tt)) new_there
        (λ u. new_made m i k w x serial (turn_words words) worlds (turn_bare words))
        (each_accounted now i y.heap (code.process_names p) (turn_words words)
        (λ j d e. absurd (turn_bare words d (has_at (turn_words words) j (Refer (Some d)) e))))

    slot_account : (s : ℕ) → Has region s → (r : Option ℕ) → word_at words3 (pos (reference_place m.adts types s)) ≡ Found (Refer r)
        → Accounted now i y.heap (code.process_names p) (Refer r)
    slot_account s h None e = to_nothing
    slot_account s h (Some d) e = by_place r.0 r.1 r.2
      where
        r : (d : ℕ) × (s ≡ from + d) × (d < words)
        r = in_range from words s h

        by_place : (z : ℕ) → s ≡ from + z → z < words → Accounted now i y.heap (code.process_names p) (Refer (Some d))
        by_place zero at l =
            let is : s ≡ from = omega (arith, at) in
            let o : ◌≡◌ {A = Access Word} (Found (Refer (Some new))) (Found (Refer (Some d))) =
            sym stores.0.there ∙ ap (λ (u : ℕ). word_at words3 (pos (reference_place m.adts types u))) (sym is) ∙ e in
            let v : new ≡ d = cc in
            subst (λ u. Accounted now i y.heap (code.process_names p) (Refer (Some u))) v new_account
        by_place (suc z) at l =
            let a : to / 4 + (2 * suc z + 1) ≡ reference_place m.adts types s / 4 = omega (arith, at) in
            let o : (8 + 8 * suc z + 4) / 4 ≡ 8 / 4 + (2 * suc z + 1) = omega arith in
            let was = stores.0.changes.words (reference_place m.adts types s / 4) (inr (omega (arith, at))) in
            let found = sym was ∙ (word_found words3 (reference_place m.adts types s) (Refer (Some d)) e).1 in
            word_account m b loop from words i p n f here bare 3 c inner now w y then filled_then worlds_then live_then (suc z) d l
            (word_there inner (8 + 8 * suc z + 4) (Refer (Some d)) (omega arith)
            (ap (slice_get inner) o ∙ same (2 * suc z + 1) (omega (arith, l)) ∙ ap (slice_get q.frame.words) a ∙ found))

    hold_then : HoldTheSame m now i y p then
    hold_then = hold_filled m b loop from words i p n f here bare 3 c inner now w y then filled_then worlds_then live_then slot_account

    pub remakes : (l : ℕ) → ((now : Facts) (y : World) (d : ℕ) (r : Process) → Remade c inner d now y r → HoldTheSame m now i y p r
        → Way (sides m) (place m) l now i y p r)
        → Goes m b i p l k w x q
    remakes l way =
        let low : place m q ≡ 4 = over_rank m k i x [] n f 2 (Some c) p q fr it here 2 (omega arith) q fr.pc in
        let high : place m then ≡ 5 = over_rank m k i x [] n f 2 (Some c) p q fr it here 3 (omega arith) then over_then.pc in
        silent (sides m) (place m) (λ o z r t. Way (sides m) (place m) l o i z r t) k now i w x y p q then step
        (new_changes m i k w x serial (turn_words words) worlds (turn_bare words)) worlds_then (omega (arith, low, high))
        (way now y new then (record {
          filled = filled_then;
          word = stores.0.there;
          there = new_there;
          unknown = new_unknown;
          made = new_made m i k w x serial (turn_words words) worlds (turn_bare words);
        }) hold_then)

  -- ---- its region is copied over the slots

  module _ (k : Facts) (w : Shared) (x : World) (q : Process) (c : ℕ) (inner : List Word) (d : ℕ) (t : Remade c inner d k x q)
      (hold : HoldTheSame m k i x p q) (worlds : (sides m).worlds k w x) where
    abbrev so_far : Over m k i x region n f 3 (Some c) p q
    so_far = t.filled.fresh.over

    abbrev were : WordsAre m.adts k x.heap q.frame.serial region types so_far.known p.frame.variables p.frame.slots q.frame.words
    were = so_far.words

    abbrev blank : List Word
    blank = turn_words words

    room : from + words ≤ length p.frame.slots
    room = (over_used m k i x region n f 3 (Some c) p q so_far it here).1

    abbrev region_type : ℕ
    region_type = type_number m (OfRegion words)

    region_typed : slice_get (object_of m).types region_type ≡ Some (desc (4 * (2 * words)) (region_references 0 words))
    region_typed =
        let same : 8 * words ≡ 4 * (2 * words) = omega arith in
        subst (λ s. slice_get (object_of m).types region_type ≡ Some (desc s (region_references 0 words))) same
        (objects_have.types m n f p.frame.pc it (OfRegion words) so_far.there (over_code m k i x region n f 3 (Some c) p q so_far it here) (inr (inl refl)))

    abbrev copy : Inst
    copy = inst op.Movmp (behind from_at 8) (middle.Imm (pos region_type)) (own to)

    abbrev lead_from : Leads x q (behind from_at 8) blank 8
    lead_from = (spots_lead.inner x q from_at d blank 8 t.word t.there).0

    abbrev lead_to : Leads x q (own to) q.frame.words to
    lead_to = (spots_lead.own x q to).0

    here_gives : (j : ℕ) → j < 2 * words → Gives blank (8 / 4 + j) (as_marked (is_in (4 * j) (region_references 0 words)))
    here_gives j l = slots_give blank 2 words (turns_are_slots words blank (turn_kind words)) j l

    gone_gives : (j : ℕ) → j < 2 * words → Gives q.frame.words (to / 4 + j) (as_marked (is_in (4 * j) (region_references 0 words)))
    gone_gives j l =
        slots_give q.frame.words (to / 4) words (frames_are_slots m.adts types (length p.frame.slots) q.frame.words were.laid were.kind from words room) j l

    got : (others : List Word) × AreCopied blank q.frame.words others 8 to (2 * words)
        × (obey frames_limit (object_of m) x q copy op.Movmp ≡ after x q lead_to.place others)
    got =
        copied frames_limit (object_of m) x q (behind from_at 8) (own to) blank q.frame.words 8 to lead_from lead_to refl (omega arith) region_type (2 * words)
        (region_references 0 words) region_typed here_gives gone_gives

    abbrev words4 : List Word
    words4 = got.0

    abbrev next : Process
    next = moved_to q (suc q.frame.pc) words4

    goes : (sides m).code.step x q ≡ Went x next
    goes =
        steps_obey.stores frames_limit (object_of m ∷ []) x q (object_of m) copy x lead_to.place words4 _
        (let r = over_reaches m k i x region n f 3 (Some c) p q so_far it here b w hold worlds 3 copy q.frame.pc q.frame.words so_far.pc refl in
        record { object = r.object; words = r.words; instance = r.instance; code = r.code; here = r.here }) got.2
        ((spots_lead.own x q to).1 words4)

    kind4 : AreOf (frame_bytes m.adts types (length p.frame.slots)) (frame_references m.adts types (length p.frame.slots)) words4
    kind4 =
        kinds_stay.all (frame_bytes m.adts types (length p.frame.slots)) (frame_references m.adts types (length p.frame.slots)) q.frame.words words4
        were.kind got.1.many
        (copied_refer blank q.frame.words words4 8 to (2 * words) (region_references 0 words) got.1 here_gives gone_gives)
        (copied_referred blank q.frame.words words4 8 to (2 * words) (region_references 0 words) got.1 here_gives gone_gives)
        (copied_ranged blank q.frame.words words4 8 to (2 * words) (region_references 0 words) got.1 here_gives gone_gives (turn_kind words).ranged
        were.kind.ranged)

    apart4 : (s u : ℕ) → (s < from) ⊎ (from + words ≤ s) → IsWithin (number_place m.adts types s) 8 u → slice_get words4 u ≡ slice_get q.frame.words u
    apart4 s u (inl low) r = let a = r.1 in got.1.rest u (inl (omega (arith, a, low)))
    apart4 s u (inr high) r = let a = r.0 in got.1.rest u (inr (omega (arith, a, high)))

    words_next : (now : WordsAre m.adts k x.heap q.frame.serial region types so_far.known p.frame.variables p.frame.slots words4) × (now.own ≡ were.own)
    words_next =
        let owned = (frames_later m.adts k x.heap q.frame.serial region types so_far.known p.frame.variables p.frame.slots q.frame.words were).owned in
        slots_change.several m.adts k k x.heap x.heap q.frame.serial region region types so_far.known so_far.known p.frame.variables p.frame.slots p.frame.slots
        q.frame.words words4 were.own were (record { facts = λ n f e. e; makers = λ n j e. e; forms = λ n o e. e }) refl were.as_many
        (record {
          each = λ u out. elim (low_or_high (4 * u) to) [
            | inl low ↦ got.1.rest u (inl (omega (arith, low)))
            | inr high ↦ elim (low_or_high (4 * u) (to + 8 * words)) [
              | inl inside ↦ let fit = room in absurd (out (omega (arith, high), omega (arith, inside, fit)))
              | inr past ↦ got.1.rest u (inr (omega (arith, past)))
            ]
          ];
        })
        kind4 were.none_past were.busy_bare
        (λ s h l idle a o. inl (record {
          idle = idle;
          known_so = a;
          holds_so = o;
          words_so = λ u r. apart4 s u (outside s idle) r;
          own_so = refl;
          kept = λ d u. ((owned s d u).0, refl);
        }))
        were.single were.apart

    holds_still : (at : ℕ) → 4 * (at / 4) + 4 ≤ to → word_at words4 (pos at) ≡ word_at q.frame.words (pos at)
    holds_still at low = word_same q.frame.words words4 at (got.1.rest (at / 4) (inl (omega (arith, low))))

    abbrev over_next : Over m k i x region n f 4 (Some c) p next
    over_next =
        let at = so_far.pc in
        record {
          process = so_far.process;
          there = so_far.there;
          code = so_far.code;
          answer = so_far.answer;
          many = so_far.many;
          instance = so_far.instance;
          formed = so_far.formed;
          known = so_far.known;
          words = words_next.0;
          mine = λ s d h. so_far.mine s d (subst (λ (o : ℕ → List ℕ). Has (o s) d) words_next.1 h);
          fresh = so_far.fresh;
          goes = so_far.goes;
          waits = all_wait m k i x Awaited p.frame.answer q.frame next.frame p.below q.below refl (holds_still answer_place (omega arith)) so_far.waits;
          pc = omega (arith, at);
          spare = holds_still spare_at (omega arith) ∙ so_far.spare;
          none_made = so_far.none_made;
        }

    filled_next : New region 4 c inner k x next
    filled_next = record {
      fresh = record {
        over = over_next;
        there = t.filled.fresh.there;
        unknown = t.filled.fresh.unknown;
        made = t.filled.fresh.made;
        formed = t.filled.fresh.formed;
        older = λ s d h. t.filled.fresh.older s d (subst (λ (o : ℕ → List ℕ). Has (o s) d) words_next.1 h);
      };
      kind = t.filled.kind;
      first = t.filled.first;
      last = t.filled.last;
      region = t.filled.region;
    }

    live_next : AreThere m x next
    live_next = b.there_again x x q next goes worlds.0.closed (λ n h. hold.same.live n (hold.same.roots n h))

    slot_next : (s : ℕ) → Has region s → (r : Option ℕ) → word_at words4 (pos (reference_place m.adts types s)) ≡ Found (Refer r)
        → Accounted k i x.heap (code.process_names p) (Refer r)
    slot_next s h None e = to_nothing
    slot_next s h (Some d) e =
        let r = in_range from words s h in
        let at = r.1 in
        let l = r.2 in
        let a : to / 4 + (2 * r.0 + 1) ≡ reference_place m.adts types s / 4 = omega (arith, at) in
        let found = (word_found words4 (reference_place m.adts types s) (Refer (Some d)) e).1 in
        absurd (turn_bare words d (has_at blank (8 / 4 + (2 * r.0 + 1)) (Refer (Some d))
        (sym (got.1.same (2 * r.0 + 1) (omega (arith, l))) ∙ ap (slice_get words4) a ∙ found)))

    hold_next : HoldTheSame m k i x p next
    hold_next = hold_filled m b loop from words i p n f here bare 4 c inner k w x next filled_next worlds live_next slot_next

    pub clears : (l : ℕ) → ((r : Process) → Cleared 4 c inner k x r → HoldTheSame m k i x p r → Way (sides m) (place m) l k i x p r) → Goes m b i p l k w x q
    clears l way =
        let low : place m q ≡ 5 = over_rank m k i x region n f 3 (Some c) p q so_far it here 3 (omega arith) q so_far.pc in
        let high : place m next ≡ 6 = over_rank m k i x region n f 3 (Some c) p q so_far it here 4 (omega arith) next over_next.pc in
        goes_silently m b i p l k w x q next goes worlds (omega (arith, low, high)) (way next (record { filled = filled_next; blank = got.1.same }) hold_next)

  -- ---- while others step

  pub remade_later : (c : ℕ) (inner : List Word) (d : ℕ) (k now : Facts) (x y : World) (q : Process) → (sides m).leaves i k now x y
      → HoldTheSame m now i y p q → Remade c inner d k x q → Remade c inner d now y q
  remade_later c inner d k now x y q left hold t =
      let named = named_by q.frame.words (from_at / 4) d (word_found q.frame.words from_at (Refer (Some d)) t.word).1 in
      let kept = made_stays m i p k now x y q left hold d (omega (arith, named)) t.unknown t.made in
      record {
        filled = filled_later m b loop from words i p n f here bare region 3 c inner k now x y q left hold t.filled;
        word = t.word;
        there = kept.1 ∙ t.there;
        unknown = kept.0;
        made = left.0.grows.makers d i t.made;
      }

  pub cleared_later : (j c : ℕ) (inner : List Word) (k now : Facts) (x y : World) (q : Process) → (sides m).leaves i k now x y
      → HoldTheSame m now i y p q → Cleared j c inner k x q → Cleared j c inner now y q
  cleared_later j c inner k now x y q left hold t = record {
    filled = filled_later m b loop from words i p n f here bare region j c inner k now x y q left hold t.filled;
    blank = t.blank;
  }
