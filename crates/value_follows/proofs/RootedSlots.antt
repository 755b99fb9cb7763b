-- What a slot's words refer to is accounted for where its value is named, and they lead to what it names: by themselves, through its box,
-- or through the records of its chain.
use Rattle.std.proofs.Common.{◌≡◌, ℕ, zero, suc, ◌+◌, ◌*◌, ◌<◌, pos, true, List, Option, Some, None, inl, inr, refl, sym}
use Rattle.std.proofs.Common.{ap, subst, arith, ◌∙◌}
use Rattle.std.specs.List.{range_with_len}
use Rattle.heap_model.specs.Heap.{Heap, at, there, in_one}
use Rattle.heap_model.specs.Facts.{Fact, Carrier, IsFree, IsInner, Inner, chars}
use Rattle.heap_model.proofs.Alike.{is_inner}
use Rattle.heap_model.proofs.Heap.{there_is}
use Rattle.limbo_types.specs.Types as ty
use Rattle.limbo_types.specs.Types.{Ty}
use Rattle.limbo_layout.specs.Adts.{Def, Has}
use Rattle.limbo_layout.specs.Layout.{alone, is_alone, reference}
use Rattle.limbo_layout.proofs.Rooms.{has_left, has_right}
use Rattle.limbo_meaning.specs.Values.{Value, references, among, nothing as no_value}
use Rattle.core_code.specs.Slots as core
use Rattle.core_code.specs.Slots.{slot_names, region_names, regions_name}
use Rattle.core_typing.specs.Held as held
use Rattle.core_typing.specs.Held.{Held}
use Rattle.dis_meaning.specs.Words.{Word, Refer, Found, word_at}
use Rattle.dis_memory.specs.Blocks.{Block, Record, words_in}
use Rattle.dis_memory.specs.Naming.{inside}
use Rattle.value_words.specs.Facts.{Facts}
use Rattle.value_words.specs.Stands.{Stands}
use Rattle.value_words.proofs.Blank.{mapped}
use Rattle.value_words.proofs.Covered.{covered}
use Rattle.value_frames.specs.Frames.{Form, Nowhere, AsNumber, AsReference, Boxed, form_of, room_for}
use Rattle.value_frames.specs.Frames.{turn_bytes, turn_references, box_bytes}
use Rattle.value_frames.specs.Forming.{begun, formed}
use Rattle.core_typing.specs.Held.{slots_in}
use Rattle.value_frames.specs.Standing.{IsBox, IsForming, IsIdle, nothing_there, text_left, carrier_left, RefersIdly, ValueStands, IsOwn}
use Rattle.value_frames.specs.Standing.{last_of, SlotStands, a_value, a_forming, a_decision, a_loop, ChainStands, no_chain, a_chain}
use Rattle.value_frames.specs.Standing.{TailStands, no_more, one_more, RegionStands, no_slot, more_slots}
use Rattle.value_roots.specs.Accounts.{Accounted, to_value, to_inner, AllAccounted, LeadTo, it, through}
use Rattle.value_roots.proofs.Words.{either, has_counts}
use Rattle.value_follows.proofs.RootedValues.{has_at, word_has, each_accounted, kind_accounted, covers_those, stands_laid}
use Rattle.value_follows.proofs.RootedValues.{value_referred}

-- a type whose values stand as references has the room of one
refers_alone : (t : Ty) → form_of t ≡ AsReference → alone t ≡ Some reference
refers_alone ty.Byte e = absurd cc
refers_alone ty.Int e = absurd cc
refers_alone ty.Big e = absurd cc
refers_alone ty.Nothing e = absurd cc
refers_alone (ty.Tuple ts) e = absurd cc
refers_alone (ty.Adt n) e = absurd cc
refers_alone _ e = refl

-- what one word refers to, read twice
pub same_block : (ws : List Word) (p : ℕ) (r : Option ℕ) (b : ℕ) → word_at ws (pos p) ≡ Found (Refer r)
    → word_at ws (pos p) ≡ Found (Refer (Some b)) → r ≡ Some b
same_block ws p r b e f = let z : Found (Refer r) ≡ Found (Refer (Some b)) = sym e ∙ f in cc

pub in_range : (from count s : ℕ) → Has (range_with_len from count) s → (d : ℕ) × (s ≡ from + d) × (d < count)
in_range from zero s h = absurd h
in_range from (suc n) s (inl e) = (0, omega (arith, e), omega arith)
in_range from (suc n) s (inr h) =
    let r = in_range (from + 1) n s h in
    let e = r.1 in
    let l = r.2 in
    (suc r.0, omega (arith, e), omega (arith, l))

-- A carrier that is there is what it carries, and what a block refers to that is there is there.
pub record IsWhole (k : Facts) (x : Heap Block) : Type 0 where
  pub carriers : (n : ℕ) (d b : Block) → k.fact n ≡ Some (Carrier d) → at x n ≡ Some b → b ≡ d
  pub closed : (a b : ℕ) → there (at x a) ≡ true → 0 < in_one inside (at x a) b → there (at x b) ≡ true

module _ (defs : List Def) (k : Facts) (x : Heap Block) (whole : IsWhole k x) where
  -- What the words refer to is there.
  abbrev pub AllThere : List Word → Type 0
  AllThere ws = (b : ℕ) → Has ws (Refer (Some b)) → there (at x b) ≡ true

  record_there : (b : ℕ) (inner : List Word) → at x b ≡ Some (Record inner) → AllThere inner
  record_there b inner e c h =
      whole.closed b c (ap there e) (subst (λ (o : Option Block). 0 < in_one inside o c) (sym e) (has_counts inner c h))

  -- a carrier that is there is what it carries
  carried : (b : ℕ) (d : Block) → k.fact b ≡ Some (Carrier d) → there (at x b) ≡ true → at x b ≡ Some d
  carried b d fact live = let h = there_is (at x b) live in h.1 ∙ ap Some (whole.carriers b d h.0 fact h.1)

  inner_carrier : (b : ℕ) (d : Block) → k.fact b ≡ Some (Carrier d) → Inner k b
  inner_carrier b d fact = subst (λ (o : Option (Fact Block)). IsInner o) (sym fact) tt

  -- ---- accounts

  module _ (i : ℕ) (names : ℕ → ℕ) where
    abbrev Account : ℕ → Type 0
    Account b = Accounted k i x names (Refer (Some b))

    abbrev Named : (ℕ → ℕ) → Type 0
    Named some = (n : ℕ) → 0 < some n → 0 < names n

    abbrev Made : List ℕ → Type 0
    Made own = (b : ℕ) → Has own b → k.maker b ≡ Some i

    carrier_accounted : (b : ℕ) (d : Block) → k.fact b ≡ Some (Carrier d) → there (at x b) ≡ true → AllAccounted k i x names (words_in d)
        → Account b
    carrier_accounted b d fact live all =
        to_inner b d (inner_carrier b d fact) (carried b d fact live)
        (λ f. absurd (subst (λ (o : Option (Fact Block)). IsFree o) fact f)) all

    pub idle_accounted : (r : Option ℕ) (b : ℕ) → IsIdle defs k r → r ≡ Some b → there (at x b) ≡ true → Account b
    idle_accounted _ b nothing_there e live = absurd cc
    idle_accounted _ b (text_left c text fact) e live =
        let same : c ≡ b = cc in subst (λ (j : ℕ). Account j) same (to_value c (chars text fact))
    idle_accounted _ b (carrier_left c d fact texts) e live =
        let same : c ≡ b = cc in
        subst (λ (j : ℕ). Account j) same
        (carrier_accounted c d fact (subst (λ (j : ℕ). there (at x j) ≡ true) (sym same) live)
        (each_accounted k i x names (words_in d) (λ j q f.
        let text = texts q (has_counts (words_in d) q (has_at (words_in d) j (Refer (Some q)) f)) in
        to_value q (chars text.0 text.1))))

    pub idly_accounted : (words : List Word) (p b : ℕ) → AllThere words → RefersIdly defs k words p
        → word_at words (pos p) ≡ Found (Refer (Some b)) → Account b
    idly_accounted words p b live h e =
        idle_accounted h.0 b h.2 (same_block words p h.0 b h.1 e) (live b (word_has words p (Refer (Some b)) e))

    -- the words of a value at the offsets of its room
    words_accounted : (words : List Word) (p o b : ℕ) (t : Ty) (v : Value) → Named (λ n. among n (references v)) → Stands defs k words p t v
        → Has (room_for defs t).references o → word_at words (pos (p + o)) ≡ Found (Refer (Some b)) → Account b
    words_accounted words p o b t v named s h e =
        to_value b (covers_those defs k names (references v) b named
        (covered defs k words p t (room_for defs t) v o b (stands_laid defs k words p t v s) s h e))

    reference_accounted : (words : List Word) (p b : ℕ) (t : Ty) (v : Value) → form_of t ≡ AsReference → Named (λ n. among n (references v))
        → Stands defs k words p t v → word_at words (pos p) ≡ Found (Refer (Some b)) → Account b
    reference_accounted words p b t v form named s e =
        let same : p + 0 ≡ p = omega arith in
        to_value b (covers_those defs k names (references v) b named
        (covered defs k words p t reference v 0 b (is_alone t reference (refers_alone t form)) s (inl refl)
        (ap (λ (j : ℕ). word_at words (pos j)) same ∙ e)))

    box_accounted : (words : List Word) (p b c : ℕ) (inner : List Word) (t : Ty) (v : Value) → AllThere words
        → Named (λ n. among n (references v)) → word_at words (pos p) ≡ Found (Refer (Some c)) → IsBox defs k t c inner
        → Stands defs k inner 0 t v → word_at words (pos p) ≡ Found (Refer (Some b)) → Account b
    box_accounted words p b c inner t v live named f box s e =
        let same : c ≡ b = let z : Some c ≡ Some b = same_block words p (Some c) b f e in cc in
        subst (λ (j : ℕ). Account j) same
        (carrier_accounted c (Record inner) box.carries (live c (word_has words p (Refer (Some c)) f))
        (kind_accounted k i x names (box_bytes defs t) (room_for defs t).references inner box.kind (λ o q h g.
        let zero_off : 0 + o ≡ o = omega arith in
        words_accounted inner 0 o q t v named s h (ap (λ (j : ℕ). word_at inner (pos j)) zero_off ∙ g))))

    value_accounted : (words : List Word) (n r b : ℕ) (f : Form) (t : Ty) (v : Value) → form_of t ≡ f → AllThere words
        → Named (λ j. among j (references v)) → ValueStands defs k words n r f t v → word_at words (pos r) ≡ Found (Refer (Some b))
        → Account b
    value_accounted words n r b Nowhere t v form live named s e = idly_accounted words r b live s.1 e
    value_accounted words n r b AsNumber t v form live named s e = idly_accounted words r b live s.1 e
    value_accounted words n r b AsReference t v form live named s e = reference_accounted words r b t v form named s e
    value_accounted words n r b Boxed t v form live named s e = box_accounted words r b s.0 s.1 t v live named s.2 s.3 s.4 e

    -- a record of the frame's own
    own_accounted : (frame : ℕ) (words : List Word) (p b c : ℕ) (size : ℕ) (offsets : List ℕ) (inner : List Word)
        → IsOwn defs k x frame words p size offsets c inner → k.maker c ≡ Some i
        → ((o q : ℕ) → Has offsets o → word_at inner (pos o) ≡ Found (Refer (Some q)) → Account q)
        → word_at words (pos p) ≡ Found (Refer (Some b)) → Account b
    own_accounted frame words p b c size offsets inner own maker each e =
        let same : c ≡ b = let z : Some c ≡ Some b = same_block words p (Some c) b own.word e in cc in
        subst (λ (j : ℕ). Account j) same
        (to_inner c (Record inner) (is_inner (k.fact c) own.free) own.there (λ f. maker)
        (kind_accounted k i x names size offsets inner own.kind each))

    -- the record of what is put together
    forming_accounted : (frame : ℕ) (words inner : List Word) (p b c : ℕ) (t : Ty) (variant : Option ℕ) (ks : List ℕ) (us : List Ty)
        (only : List ℕ) (vs : List Value) → AllThere words → Named (slot_names (core.Forms vs)) → k.maker c ≡ Some i
        → IsOwn defs k x frame words p (box_bytes defs t) (room_for defs t).references c inner
        → IsForming defs k t variant ks us only vs inner → word_at words (pos p) ≡ Found (Refer (Some b)) → Account b
    forming_accounted frame words inner p b c t variant ks us only vs live named maker own f e =
        own_accounted frame words p b c (box_bytes defs t) (room_for defs t).references inner own maker (λ o q h g.
        let zero_off : 0 + o ≡ o = omega arith in
        words_accounted inner 0 o q t (formed (begun defs t variant) ks vs) (λ n u. named n (f.names n u)) f.stands h
        (ap (λ (j : ℕ). word_at inner (pos j)) zero_off ∙ g)) e

    module _ (frame : ℕ) where
      -- what a tail's word refers to, and the last of the records behind it
      record TailAccounted (words : List Word) (p : ℕ) (last : Option ℕ) : Type 0 where
        word : (b : ℕ) → word_at words (pos p) ≡ Found (Refer (Some b)) → Account b
        end : (b : ℕ) → last ≡ Some b → Account b

      -- the words of a chain's record: the next one, the last, and those of its slots
      turn_accounted : (inner : List Word) (n : ℕ) (o q : ℕ) → ((b : ℕ) → word_at inner (pos 0) ≡ Found (Refer (Some b)) → Account b)
          → ((b : ℕ) → word_at inner (pos 4) ≡ Found (Refer (Some b)) → Account b)
          → ((s b : ℕ) → s < n → word_at inner (pos (8 + 8 * s + 4)) ≡ Found (Refer (Some b)) → Account b)
          → Has (turn_references n) o → word_at inner (pos o) ≡ Found (Refer (Some q)) → Account q
      turn_accounted inner n o q next end slots (inl f) e = next q (ap (λ (j : ℕ). word_at inner (pos j)) f ∙ e)
      turn_accounted inner n o q next end slots (inr (inl f)) e = end q (ap (λ (j : ℕ). word_at inner (pos j)) f ∙ e)
      turn_accounted inner n o q next end slots (inr (inr h)) e =
          let m = mapped (λ s. 8 + 8 * s + 4) (range_with_len 0 n) o h in
          let r = in_range 0 n m.0 m.1 in
          let l = r.2 in
          let f = r.1 in
          slots m.0 q (omega (arith, l, f)) (ap (λ (j : ℕ). word_at inner (pos j)) m.2 ∙ e)

      with_last : (last : Option ℕ) (c : ℕ) → Account c → ((b : ℕ) → last ≡ Some b → Account b) → (b : ℕ) → last_of last c ≡ Some b
          → Account b
      with_last None c a end b e = let same : c ≡ b = cc in subst (λ (j : ℕ). Account j) same a
      with_last (Some l) c a end b e = end b e

      mutual
        pub slot_accounted : (words : List Word) (n r : ℕ) (h : Held) (l : core.Slot) (own : List ℕ) → AllThere words
            → Named (slot_names l) → Made own → SlotStands defs k x frame words n r h l own
            → (b : ℕ) → word_at words (pos r) ≡ Found (Refer (Some b)) → Account b
        slot_accounted _ _ _ _ _ _ live named made (a_value words n r t only v s m) b e =
            value_accounted words n r b (form_of t) t v refl live named s e
        slot_accounted _ _ _ _ _ _ live named made (a_forming words inner n r c t variant ks us only vs o f) b e =
            forming_accounted frame words inner r b c t variant ks us only vs live named (made c (inl refl)) o f e
        slot_accounted _ _ _ _ _ _ live named made (a_decision words n r d f idly) b e = idly_accounted words r b live idly e
        slot_accounted _ _ _ _ _ _ live named made (a_loop words n r next gs rs own f c) b e =
            chain_accounted words r gs rs own live named made c b e

        chain_accounted : (words : List Word) (p : ℕ) (hs : held.Regions) (gs : core.Regions) (own : List ℕ) → AllThere words
            → Named (regions_name gs) → Made own → ChainStands defs k x frame words p hs gs own
            → (b : ℕ) → word_at words (pos p) ≡ Found (Refer (Some b)) → Account b
        chain_accounted _ _ _ _ _ live named made (no_chain words p f) b e =
            let z = same_block words p None b f e in absurd cc
        chain_accounted _ _ _ _ _ live named made (a_chain words inner p c last h hs g gs own more o f first rest) b e =
            let behind = record_there c inner o.there in
            let tail = tail_accounted inner 0 last hs gs more behind (λ n u. named n (omega (arith, u)))
            (λ q j. made q (inr (has_right own more q j))) rest in
            own_accounted frame words p b c (turn_bytes (slots_in h)) (turn_references (slots_in h)) inner o (made c (inl refl))
            (λ place q j u. turn_accounted inner (slots_in h) place q tail.word
            (λ d y. tail.end d (same_block inner 4 last d f y))
            (region_accounted inner 8 h g own behind (λ n y. named n (omega (arith, y)))
            (λ y z. made y (inr (has_left own more y z))) first) j u) e

        tail_accounted : (words : List Word) (p : ℕ) (last : Option ℕ) (hs : held.Regions) (gs : core.Regions) (own : List ℕ)
            → AllThere words → Named (regions_name gs) → Made own → TailStands defs k x frame words p last hs gs own
            → TailAccounted words p last
        tail_accounted _ _ _ _ _ _ live named made (no_more words p f) =
            record { word = λ b e. let z = same_block words p None b f e in absurd cc; end = λ b e. absurd cc }
        tail_accounted _ _ _ _ _ _ live named made (one_more words inner p c last h hs g gs own more o f first rest) =
            let behind = record_there c inner o.there in
            let tail = tail_accounted inner 0 last hs gs more behind (λ n u. named n (omega (arith, u)))
            (λ q j. made q (inr (has_right own more q j))) rest in
            let one = own_accounted frame words p c c (turn_bytes (slots_in h)) (turn_references (slots_in h)) inner o (made c (inl refl))
            (λ place q j u. turn_accounted inner (slots_in h) place q tail.word
            (λ d y. let z = same_block inner 4 None d f y in absurd cc)
            (region_accounted inner 8 h g own behind (λ n y. named n (omega (arith, y)))
            (λ y z. made y (inr (has_left own more y z))) first) j u) o.word in
            record {
              word = λ b e.
                  let same : c ≡ b = let z : Some c ≡ Some b = same_block words p (Some c) b o.word e in cc in
                  subst (λ (j : ℕ). Account j) same one;
              end = with_last last c one tail.end;
            }

        region_accounted : (words : List Word) (p : ℕ) (h : held.Region) (g : core.Region) (own : List ℕ) → AllThere words
            → Named (region_names g) → Made own → RegionStands defs k x frame words p h g own
            → (s b : ℕ) → s < slots_in h → word_at words (pos (p + 8 * s + 4)) ≡ Found (Refer (Some b)) → Account b
        region_accounted _ _ _ _ _ live named made (no_slot words p) s b l e = absurd (omega (arith, l))
        region_accounted _ _ _ _ _ live named made (more_slots words p h hs s g own more one others) zero b l e =
            let same : p + 8 * 0 + 4 ≡ p + 4 = omega arith in
            slot_accounted words p (p + 4) h s own live (λ n u. named n (omega (arith, u))) (λ q j. made q (has_left own more q j)) one
            b (ap (λ (j : ℕ). word_at words (pos j)) (sym same) ∙ e)
        region_accounted _ _ _ _ _ live named made (more_slots words p h hs s g own more one others) (suc j) b l e =
            let same : p + 8 + 8 * j + 4 ≡ p + 8 * suc j + 4 = omega arith in
            region_accounted words (p + 8) hs g more live (λ n u. named n (omega (arith, u))) (λ q y. made q (has_right own more q y))
            others j b (omega (arith, l)) (ap (λ (y : ℕ). word_at words (pos y)) same ∙ e)

  -- ---- ways

  module _ (n : ℕ) where
    abbrev Leads : List Word → Type 0
    Leads words = LeadTo k x n words

    -- a value without parts names nothing
    nothing_named : (v : Value) → v ≡ no_value → 0 < among n (references v) → ⊥
    nothing_named v e h = let none = ap (λ (u : Value). among n (references u)) e in absurd (omega (arith, h, none))

    box_leads : (words : List Word) (p c : ℕ) (inner : List Word) (t : Ty) (v : Value) → AllThere words
        → word_at words (pos p) ≡ Found (Refer (Some c)) → IsBox defs k t c inner → Stands defs k inner 0 t v
        → 0 < among n (references v) → Leads words
    box_leads words p c inner t v live f box s h =
        let has = word_has words p (Refer (Some c)) f in
        let q = value_referred defs k inner 0 t v n s h in
        through words c (Record inner) has (inner_carrier c (Record inner) box.carries) (carried c (Record inner) box.carries (live c has))
        (it inner q.block q.has q.is)

    value_leads : (words : List Word) (m r : ℕ) (f : Form) (t : Ty) (v : Value) → AllThere words → ValueStands defs k words m r f t v
        → 0 < among n (references v) → Leads words
    value_leads words m r Nowhere t v live s h = absurd (nothing_named v s.0 h)
    value_leads words m r AsNumber t v live s h =
        let q = value_referred defs k words m t v n s.0 h in it words q.block q.has q.is
    value_leads words m r AsReference t v live s h =
        let q = value_referred defs k words r t v n s h in it words q.block q.has q.is
    value_leads words m r Boxed t v live s h = box_leads words r s.0 s.1 t v live s.2 s.3 s.4 h

    -- the words of a record lead to all that is put together there
    forming_leads : (inner : List Word) (t : Ty) (variant : Option ℕ) (ks : List ℕ) (us : List Ty) (only : List ℕ) (vs : List Value)
        → IsForming defs k t variant ks us only vs inner → 0 < slot_names (core.Forms vs) n → Leads inner
    forming_leads inner t variant ks us only vs f h =
        let q = value_referred defs k inner 0 t (formed (begun defs t variant) ks vs) n f.stands (f.named n h) in
        it inner q.block q.has q.is

    module _ (frame : ℕ) where
      own_leads : (words : List Word) (p c size : ℕ) (offsets : List ℕ) (inner : List Word)
          → IsOwn defs k x frame words p size offsets c inner → Leads inner → Leads words
      own_leads words p c size offsets inner own l =
          through words c (Record inner) (word_has words p (Refer (Some c)) own.word) (is_inner (k.fact c) own.free) own.there l

      mutual
        pub slot_leads : (words : List Word) (m r : ℕ) (h : Held) (l : core.Slot) (own : List ℕ) → AllThere words
            → SlotStands defs k x frame words m r h l own → 0 < slot_names l n → Leads words
        slot_leads _ _ _ _ _ _ live (a_value words m r t only v s names) h = value_leads words m r (form_of t) t v live s h
        slot_leads _ _ _ _ _ _ live (a_forming words inner m r c t variant ks us only vs o f) h =
            own_leads words r c _ _ inner o
            (forming_leads inner t variant ks us only vs f h)
        slot_leads _ _ _ _ _ _ live (a_decision words m r d f idly) h = absurd (omega (arith, h))
        slot_leads _ _ _ _ _ _ live (a_loop words m r next gs rs own f c) h = chain_leads words r gs rs own live c h

        chain_leads : (words : List Word) (p : ℕ) (hs : held.Regions) (gs : core.Regions) (own : List ℕ) → AllThere words
            → ChainStands defs k x frame words p hs gs own → 0 < regions_name gs n → Leads words
        chain_leads _ _ _ _ _ live (no_chain words p f) j = absurd (omega (arith, j))
        chain_leads _ _ _ _ _ live (a_chain words inner p c last h hs g gs own more o f first rest) j =
            let behind = record_there c inner o.there in
            own_leads words p c _ _ inner o (elim (either (region_names g n) (regions_name gs n) j) [
              | inl y ↦ region_leads inner 8 h g own behind first y
              | inr y ↦ tail_leads inner 0 last hs gs more behind rest y
            ])

        tail_leads : (words : List Word) (p : ℕ) (last : Option ℕ) (hs : held.Regions) (gs : core.Regions) (own : List ℕ) → AllThere words
            → TailStands defs k x frame words p last hs gs own → 0 < regions_name gs n → Leads words
        tail_leads _ _ _ _ _ _ live (no_more words p f) j = absurd (omega (arith, j))
        tail_leads _ _ _ _ _ _ live (one_more words inner p c last h hs g gs own more o f first rest) j =
            let behind = record_there c inner o.there in
            own_leads words p c _ _ inner o (elim (either (region_names g n) (regions_name gs n) j) [
              | inl y ↦ region_leads inner 8 h g own behind first y
              | inr y ↦ tail_leads inner 0 last hs gs more behind rest y
            ])

        region_leads : (words : List Word) (p : ℕ) (h : held.Region) (g : core.Region) (own : List ℕ) → AllThere words
            → RegionStands defs k x frame words p h g own → 0 < region_names g n → Leads words
        region_leads _ _ _ _ _ live (no_slot words p) j = absurd (omega (arith, j))
        region_leads _ _ _ _ _ live (more_slots words p h hs s g own more one others) j =
            elim (either (slot_names s n) (region_names g n) j) [
              | inl y ↦ slot_leads words p (p + 4) h s own live one y
              | inr y ↦ region_leads words (p + 8) hs g more live others y
            ]
