-- What a frame stands for where some of its words change, or blocks of slots: what lies elsewhere stands as it stood.
use Rattle.std.proofs.Common.{◌≡◌, ℕ, zero, suc, ◌+◌, ◌*◌, ◌/◌, ◌%◌, ◌<◌, ◌≤◌, pos, Bool, true, false, List, [], ◌∷◌, length, Some}
use Rattle.std.proofs.Common.{None, refl, sym, ap, ◌∙◌, ◌==◌, ◌⊎◌, subst, arith, inl, inr}
use Rattle.std.specs.Prelude.{slice_get, slice_set}
use Rattle.std.specs.Int.{next_multiple_of}
use Rattle.std.proofs.lemmas.Bool.Decides.{eqb_tells}
use Rattle.heap_model.specs.Heap.{Heap}
use Rattle.limbo_types.specs.Types as ty
use Rattle.limbo_types.specs.Types.{Ty}
use Rattle.limbo_layout.specs.Adts.{Def, Has}
use Rattle.limbo_layout.specs.Layout.{Room, nothing, number, reference, is_alone, AllLaid, behind, all_behind}
use Rattle.limbo_layout.specs.Layout as layout
use Rattle.limbo_layout.specs.Laying.{rooms_of}
use Rattle.limbo_values.specs.declared.number.Kind.TheVariants as kind
use Rattle.limbo_meaning.specs.Values.{Value}
use Rattle.core_code.specs.Rooms.{rooms_in}
use Rattle.core_code.specs.Slots as core
use Rattle.core_typing.specs.Held as held
use Rattle.core_typing.proofs.Cleaning.{has_without, has_others}
use Rattle.dis_meaning.specs.Words.{Word, Refer, Found, word_at}
use Rattle.dis_memory.specs.Blocks.{Block}
use Rattle.value_words.specs.Facts.{Facts, Grows}
use Rattle.value_words.specs.Stands.{Stands, a_number, a_text, a_name, an_array, no_words, a_tuple, an_adt}
use Rattle.value_words.specs.Stands.{AllStand, none_stand, more_stand}
use Rattle.value_words.proofs.Aligned.{inside, ends_within}
use Rattle.value_words.proofs.Bytes.{word_found, word_there}
use Rattle.value_words.proofs.Kept.{Stay, stay_within, kept}
use Rattle.value_words.proofs.Later.{all_later}
use Rattle.value_words.proofs.Rows.{set_other}
use Rattle.value_heaps.specs.Blocks.{IsWithin}
use Rattle.value_frames.specs.Frames.{linkage_bytes, row_of, slots_place, spare_place, number_place, reference_place, form_of, frame_bytes}
use Rattle.value_frames.specs.Frames.{frame_references}
use Rattle.value_frames.specs.Types.{AreOf}
use Rattle.value_frames.specs.Standing.{Single, RefersIdly, ValueStands, IsOwn, SlotStands, a_value, a_forming, a_decision, a_loop}
use Rattle.value_frames.specs.Standing.{ChainStands, no_chain, a_chain, WordsAre}
use Rattle.value_frames.specs.Slots.{ElseAsWas, IsKept, OneSlotChanged, StaysSo, SlotsChange}
use Rattle.value_frames.proofs.Later.{slot_later}

-- ---- one of a list replaced

put_there : {A : Type 0} (xs : List A) (s : ℕ) (y z : A) → s < length xs → slice_get (slice_set xs s y) s ≡ Some z → y ≡ z
put_there [] s y z l e = absurd (omega (arith, l))
put_there (x ∷ xs) zero y z l e = cc
put_there (x ∷ xs) (suc s) y z l e = put_there xs s y z (omega (arith, l)) e

pub put_long : {A : Type 0} (xs : List A) (s : ℕ) (y : A) → length (slice_set xs s y) ≡ length xs
put_long [] zero y = refl
put_long [] (suc s) y = refl
put_long (x ∷ xs) zero y = refl
put_long (x ∷ xs) (suc s) y = ap suc (put_long xs s y)

-- ---- one of a list taken

to_held : (ns : List ℕ) (u : ℕ) → Has ns u → held.Has ns u
to_held [] u i = i
to_held (n ∷ ns) u (inl e) = inl e
to_held (n ∷ ns) u (inr i) = inr (to_held ns u i)

of_held : (ns : List ℕ) (u : ℕ) → held.Has ns u → Has ns u
of_held [] u i = i
of_held (n ∷ ns) u (inl e) = inl e
of_held (n ∷ ns) u (inr i) = inr (of_held ns u i)

pub was_among : (s u : ℕ) (ns : List ℕ) → Has (held.without s ns) u → Has ns u × (u ≡ s → ⊥)
was_among s u ns h = let i = has_without s ns u (to_held (held.without s ns) u h) in (of_held ns u i.0, i.1)

pub still_among : (s u : ℕ) (ns : List ℕ) → Has ns u → (u ≡ s → ⊥) → Has (held.without s ns) u
still_among s u ns h ne = of_held (held.without s ns) u (has_others s ns u (to_held ns u h) ne)

-- ---- what lies in words that stay

abbrev Stays : (words others : List Word) → (at : ℕ) → Type 0
Stays words others at = slice_get others (at / 4) ≡ slice_get words (at / 4)

word_stays : (words others : List Word) (at : ℕ) (w : Word) → Stays words others at → word_at words (pos at) ≡ Found w
    → word_at others (pos at) ≡ Found w
word_stays words others at w s e = let f = word_found words at w e in word_there others at w f.0 (s ∙ f.1)

stay_four : (words others : List Word) (at size : ℕ) → at % 4 ≡ 0 → size ≤ 4 → Stays words others at → Stay words others at size
stay_four words others at size a l s o i =
    let e : (at + o) / 4 ≡ at / 4 = omega (arith, a, l, i) in
    ap (slice_get others) e ∙ s ∙ ap (slice_get words) (sym e)

not_reference : (r : Room) → r.references ≡ [] → Some r ≡ Some reference → ⊥
not_reference r n e =
    let f : r ≡ reference = cc in
    let g : length r.references ≡ 1 = ap (λ (q : Room). length q.references) f in
    let h : length r.references ≡ 0 = ap length n in
    absurd (omega (arith, g, h))

-- words of a frame with these variables and slots
abbrev AreOfFrame : List Def → List Ty → core.Slots → List Word → Type 0
AreOfFrame defs types slots words = AreOf (frame_bytes defs types (length slots)) (frame_references defs types (length slots)) words

module _ (defs : List Def) (k : Facts) where
  rows_stay : (words others : List Word) (at : ℕ) (w : Room) (ts : List Ty) (rs : List Room) (vs : List Value) → AllLaid defs ts rs
      → Stay words others at (all_behind w rs).size → AllStand defs k words at w ts rs vs → AllStand defs k others at w ts rs vs
  rows_stay words others _ _ _ _ _ l s (none_stand at w) = none_stand at w
  rows_stay words others _ _ _ _ _ l s (more_stand at w t ts r rs v vs a b) =
      let i = inside defs t ts r rs l in
      let off = next_multiple_of w.size r.align in
      more_stand at w t ts r rs v vs
      (kept words others defs k (at + off) t r v i.0
      (stay_within words others at (all_behind w (r ∷ rs)).size off r.size (ends_within w r rs) s) a)
      (rows_stay words others at (behind w r) ts rs vs i.1 s b)

  -- what refers lies at a whole word
  reference_even : (words : List Word) (at : ℕ) (t : Ty) (v : Value) → layout.alone t ≡ Some reference → Stands defs k words at t v
      → at % 4 ≡ 0
  reference_even words _ _ _ e (a_number at kind.Byte z f i) = absurd (not_reference (number 1) refl e)
  reference_even words _ _ _ e (a_number at kind.Int z f i) = absurd (not_reference (number 4) refl e)
  reference_even words _ _ _ e (a_number at kind.Big z f i) = absurd (not_reference (number 8) refl e)
  reference_even words _ _ _ e (a_text at r s f i) = (word_found words at (Refer r) f).0
  reference_even words _ _ _ e (a_name at t r n i f j) = (word_found words at (Refer r) f).0
  reference_even words _ _ _ e (an_array at t r p f i) = (word_found words at (Refer r) f).0
  reference_even words _ _ _ e (no_words at) = absurd (not_reference nothing refl e)
  reference_even words _ _ _ e (a_tuple at ts rs vs l all) = absurd cc
  reference_even words _ _ _ e (an_adt at n d rs vs f l all) = absurd cc

  idly_even : (words : List Word) (p : ℕ) → RefersIdly defs k words p → p % 4 ≡ 0
  idly_even words p h = (word_found words p (Refer h.0) h.1).0

  idly_stays : (words others : List Word) (p : ℕ) → Stays words others p → RefersIdly defs k words p → RefersIdly defs k others p
  idly_stays words others p s h = (h.0, word_stays words others p (Refer h.0) s h.1, h.2)

  module _ (words : List Word) (n r : ℕ) where
    value_even : (t : Ty) (v : Value) → ValueStands defs k words n r (form_of t) t v → r % 4 ≡ 0
    value_even ty.Byte v h = idly_even words r h.1
    value_even ty.Int v h = idly_even words r h.1
    value_even ty.Big v h = (word_found words r (Refer (Some h.0)) h.2).0
    value_even ty.Chars v h = reference_even words r ty.Chars v refl h
    value_even ty.Nothing v h = idly_even words r h.1
    value_even ty.Nil v h = reference_even words r ty.Nil v refl h
    value_even (ty.ArrayOf t) v h = reference_even words r (ty.ArrayOf t) v refl h
    value_even (ty.ListOf t) v h = reference_even words r (ty.ListOf t) v refl h
    value_even (ty.ChanOf t) v h = reference_even words r (ty.ChanOf t) v refl h
    value_even (ty.Tuple ts) v h = (word_found words r (Refer (Some h.0)) h.2).0
    value_even (ty.Adt m) v h = (word_found words r (Refer (Some h.0)) h.2).0
    value_even (ty.RefAdt m) v h = reference_even words r (ty.RefAdt m) v refl h
    value_even (ty.RefPick m p) v h = reference_even words r (ty.RefPick m p) v refl h
    value_even (ty.Module m) v h = reference_even words r (ty.Module m) v refl h

    module _ (others : List Word) (even : n % 4 ≡ 0) (other : r % 4 ≡ 0) (first : Stays words others n)
        (second : Stays words others r) where
      to_stays : (t : Ty) (v : Value) → layout.alone t ≡ Some reference → Stands defs k words r t v → Stands defs k others r t v
      to_stays t v e h =
          kept words others defs k r t reference v (is_alone t reference e) (stay_four words others r 4 other (omega arith) second) h

      number_stays : (t : Ty) (size : ℕ) (v : Value) → layout.alone t ≡ Some (number size) → size ≤ 4 → Stands defs k words n t v
          → Stands defs k others n t v
      number_stays t size v e l h =
          kept words others defs k n t (number size) v (is_alone t (number size) e) (stay_four words others n size even l first) h

      value_stays : (t : Ty) (v : Value) → ValueStands defs k words n r (form_of t) t v → ValueStands defs k others n r (form_of t) t v
      value_stays ty.Byte v h = (number_stays ty.Byte 1 v refl (omega arith) h.0, idly_stays words others r second h.1)
      value_stays ty.Int v h = (number_stays ty.Int 4 v refl (omega arith) h.0, idly_stays words others r second h.1)
      value_stays ty.Big v h = (h.0, h.1, word_stays words others r (Refer (Some h.0)) second h.2, h.3, h.4)
      value_stays ty.Chars v h = to_stays ty.Chars v refl h
      value_stays ty.Nothing v h = (h.0, idly_stays words others r second h.1)
      value_stays ty.Nil v h = to_stays ty.Nil v refl h
      value_stays (ty.ArrayOf t) v h = to_stays (ty.ArrayOf t) v refl h
      value_stays (ty.ListOf t) v h = to_stays (ty.ListOf t) v refl h
      value_stays (ty.ChanOf t) v h = to_stays (ty.ChanOf t) v refl h
      value_stays (ty.Tuple ts) v h = (h.0, h.1, word_stays words others r (Refer (Some h.0)) second h.2, h.3, h.4)
      value_stays (ty.Adt m) v h = (h.0, h.1, word_stays words others r (Refer (Some h.0)) second h.2, h.3, h.4)
      value_stays (ty.RefAdt m) v h = to_stays (ty.RefAdt m) v refl h
      value_stays (ty.RefPick m p) v h = to_stays (ty.RefPick m p) v refl h
      value_stays (ty.Module m) v h = to_stays (ty.Module m) v refl h

  module _ (x : Heap Block) (frame : ℕ) where
    own_stays : (words others : List Word) (p size : ℕ) (offsets : List ℕ) (b : ℕ) (inner : List Word) → Stays words others p
        → IsOwn defs k x frame words p size offsets b inner → IsOwn defs k x frame others p size offsets b inner
    own_stays words others p size offsets b inner s o = record {
      word = word_stays words others p (Refer (Some b)) s o.word;
      there = o.there;
      free = o.free;
      formed = o.formed;
      kind = o.kind;
    }

    chain_stays : (words others : List Word) (p : ℕ) (gs : held.Regions) (rs : core.Regions) (own : List ℕ) → Stays words others p
        → ChainStands defs k x frame words p gs rs own → ChainStands defs k x frame others p gs rs own
    chain_stays _ others _ _ _ _ s (no_chain words p e) = no_chain others p (word_stays words others p (Refer None) s e)
    chain_stays _ others _ _ _ _ s (a_chain words inner p b last h hs g gs own more o e first rest) =
        a_chain others inner p b last h hs g gs own more (own_stays words others p _ _ b inner s o) e first rest

    chain_even : (words : List Word) (p : ℕ) (gs : held.Regions) (rs : core.Regions) (own : List ℕ)
        → ChainStands defs k x frame words p gs rs own → p % 4 ≡ 0
    chain_even _ _ _ _ _ (no_chain words p e) = (word_found words p (Refer None) e).0
    chain_even _ _ _ _ _ (a_chain words inner p b last h hs g gs own more o e first rest) = (word_found words p (Refer (Some b)) o.word).0

    slot_even : (words : List Word) (n r : ℕ) (h : held.Held) (l : core.Slot) (own : List ℕ)
        → SlotStands defs k x frame words n r h l own → r % 4 ≡ 0
    slot_even _ _ _ _ _ _ (a_value words n r t live v e m) = value_even words n r t v e
    slot_even _ _ _ _ _ _ (a_forming words inner n r b t variant ks us live vs o f) = (word_found words r (Refer (Some b)) o.word).0
    slot_even _ _ _ _ _ _ (a_decision words n r d e f) = idly_even words r f
    slot_even _ _ _ _ _ _ (a_loop words n r m gs rs own e c) = chain_even words r gs rs own c

    slot_stays : (words others : List Word) (n r : ℕ) (h : held.Held) (l : core.Slot) (own : List ℕ) → n % 4 ≡ 0 → r % 4 ≡ 0
        → Stays words others n → Stays words others r → SlotStands defs k x frame words n r h l own
        → SlotStands defs k x frame others n r h l own
    slot_stays _ others _ _ _ _ _ a b s i (a_value words n r t live v e m) =
        a_value others n r t live v (value_stays words n r others a b s i t v e) m
    slot_stays _ others _ _ _ _ _ a b s i (a_forming words inner n r q t variant ks us live vs o f) =
        a_forming others inner n r q t variant ks us live vs (own_stays words others r _ _ q inner i o) f
    slot_stays _ others _ _ _ _ _ a b s i (a_decision words n r d e f) =
        a_decision others n r d (word_stays words others n _ s e) (idly_stays words others r i f)
    slot_stays _ others _ _ _ _ _ a b s i (a_loop words n r m gs rs own e c) =
        a_loop others n r m gs rs own (word_stays words others n _ s e) (chain_stays words others r gs rs own i c)

    all_eight : (words others : List Word) (n : ℕ) (h : held.Held) (l : core.Slot) (own : List ℕ)
        → ((w : ℕ) → IsWithin n 8 w → slice_get others w ≡ slice_get words w) → SlotStands defs k x frame words n (n + 4) h l own
        → SlotStands defs k x frame others n (n + 4) h l own
    all_eight words others n h l own same stands =
        let a = slot_even words n (n + 4) h l own stands in
        slot_stays words others n (n + 4) h l own (omega (arith, a)) a
        (same (n / 4) (omega (arith, a), omega (arith, a))) (same ((n + 4) / 4) (omega (arith, a), omega (arith, a))) stands

    -- ---- frames, where words change

    module _ (busy : List ℕ) (types : List Ty) (known : held.Slots) (vs : List Value) (slots : core.Slots) (words others : List Word)
        (are : WordsAre defs k x frame busy types known vs slots words) where
      -- words of bytes that aren't among those that changed
      stays : (at size byte : ℕ) → ElseAsWas words others at size → (IsWithin at size (byte / 4) → ⊥) → Stays words others byte
      stays at size byte e n = e.each (byte / 4) n

      row_stays : (at size : ℕ) → ElseAsWas words others at size
          → ((o : ℕ) → o < (row_of defs types).size → IsWithin at size ((linkage_bytes + o) / 4) → ⊥)
          → AllStand defs k others linkage_bytes nothing types (rooms_of (rooms_in defs) types) vs
      row_stays at size e n =
          rows_stay words others linkage_bytes nothing types (rooms_of (rooms_in defs) types) vs are.laid
          (λ o l. stays at size (linkage_bytes + o) e (n o l)) are.values

      -- a slot of which no word changed
      each_stays : (at size u : ℕ) → ElseAsWas words others at size → (IsWithin at size (number_place defs types u / 4) → ⊥)
          → (IsWithin at size (reference_place defs types u / 4) → ⊥) → (h : held.Held) (l : core.Slot) → (Has busy u → ⊥)
          → slice_get known u ≡ Some h → slice_get slots u ≡ Some l
          → SlotStands defs k x frame others (number_place defs types u) (reference_place defs types u) h l (are.own u)
      each_stays at size u e n m h l free f g =
          slot_stays words others (number_place defs types u) (reference_place defs types u) h l (are.own u) (omega arith) (omega arith)
          (stays at size (number_place defs types u) e n) (stays at size (reference_place defs types u) e m) (are.each u h l free f g)

      -- only words that are no slot's changed, and the variables are these now
      outside : (us : List Value) (at size : ℕ) → ElseAsWas words others at size → AreOfFrame defs types slots others
          → AllStand defs k others linkage_bytes nothing types (rooms_of (rooms_in defs) types) us
          → ((u : ℕ) → (IsWithin at size (number_place defs types u / 4) → ⊥) × (IsWithin at size (reference_place defs types u / 4) → ⊥))
          → (after : WordsAre defs k x frame busy types known us slots others) × (after.own ≡ are.own)
      outside us at size e kind values apart = (
        record {
          laid = are.laid;
          kind = kind;
          values = values;
          as_many = are.as_many;
          own = are.own;
          none_past = are.none_past;
          busy_bare = are.busy_bare;
          each = λ u h l. each_stays at size u e (apart u).0 (apart u).1 h l;
          single = are.single;
          apart = are.apart;
        },
        refl,
      )

      linkage_changes : ElseAsWas words others 0 linkage_bytes → AreOfFrame defs types slots others
          → (after : WordsAre defs k x frame busy types known vs slots others) × (after.own ≡ are.own)
      linkage_changes e kind =
          outside vs 0 linkage_bytes e kind (row_stays 0 linkage_bytes e (λ o l i. let j = i.1 in omega (arith, j)))
          (λ u. (λ i. let j = i.1 in omega (arith, j), λ i. let j = i.1 in omega (arith, j)))

      variables_change : (us : List Value) → ElseAsWas words others linkage_bytes (row_of defs types).size
          → AreOfFrame defs types slots others → AllStand defs k others linkage_bytes nothing types (rooms_of (rooms_in defs) types) us
          → (after : WordsAre defs k x frame busy types known us slots others) × (after.own ≡ are.own)
      variables_change us e kind values =
          outside us linkage_bytes (row_of defs types).size e kind values
          (λ u. (λ i. let j = i.1 in omega (arith, j), λ i. let j = i.1 in omega (arith, j)))

      spare_changes : ElseAsWas words others (spare_place defs types) 4 → AreOfFrame defs types slots others
          → (after : WordsAre defs k x frame busy types known vs slots others) × (after.own ≡ are.own)
      spare_changes e kind =
          outside vs (spare_place defs types) 4 e kind
          (row_stays (spare_place defs types) 4 e (λ o l i. let j = i.0 in omega (arith, j, l)))
          (λ u. (λ i. let j = i.1 in omega (arith, j), λ i. let j = i.1 in omega (arith, j)))

-- ---- frames, where slots change

abbrev choose : Bool → List ℕ → List ℕ → List ℕ
choose true now was = now
choose false now was = was

module _ (defs : List Def) (k k' : Facts) (x x' : Heap Block) (frame : ℕ) (grows : Grows k k') where
  slot_same : (words others : List Word) (n : ℕ) (h : held.Held) (l : core.Slot) (own : List ℕ)
      → SlotStands defs k x frame words n (n + 4) h l own → ((w : ℕ) → IsWithin n 8 w → slice_get others w ≡ slice_get words w)
      → ((b : ℕ) → Has own b → IsKept k' x x' b) → SlotStands defs k' x' frame others n (n + 4) h l own
  slot_same words others n h l own stands same keeps =
      all_eight defs k' x' frame words others n h l own same
      (slot_later defs k k' grows x x' frame words n (n + 4) h l own keeps stands)

  module _ (busy : List ℕ) (types : List Ty) (known : held.Slots) (vs : List Value) (slots : core.Slots) (words others : List Word)
      (are : WordsAre defs k x frame busy types known vs slots words) where
    abbrev So : ℕ → held.Held → core.Slot → List ℕ → Type 0
    So s = StaysSo defs k k' x x' frame busy types known vs slots words others are s

    abbrev Now : ℕ → held.Held → core.Slot → List ℕ → Type 0
    Now s = SlotStands defs k' x' frame others (number_place defs types s) (reference_place defs types s)

    -- what lies in front of the slots stands as it stood
    variables_stand : ((w : ℕ) → 4 * w < slots_place defs types → slice_get others w ≡ slice_get words w)
        → AllStand defs k' others linkage_bytes nothing types (rooms_of (rooms_in defs) types) vs
    variables_stand front =
        rows_stay defs k' words others linkage_bytes nothing types (rooms_of (rooms_in defs) types) vs are.laid
        (λ o m. front ((linkage_bytes + o) / 4) (omega (arith, m)))
        (all_later defs k k' words grows linkage_bytes nothing types (rooms_of (rooms_in defs) types) vs are.values)

    so_now : (s : ℕ) (h : held.Held) (l : core.Slot) (own : List ℕ) → So s h l own → Now s h l own
    so_now s h l own so =
        slot_same words others (number_place defs types s) h l own
        (subst (λ (os : List ℕ).
        SlotStands defs k x frame words (number_place defs types s) (reference_place defs types s) h l os) (sym so.own_so)
        (are.each s h l so.idle so.known_so so.holds_so)) so.words_so so.kept

    several_change : (busy_then : List ℕ) (changed : held.Slots) (other : core.Slots) (own : ℕ → List ℕ) → length other ≡ length slots
        → length changed ≡ length slots → ((w : ℕ) → 4 * w < slots_place defs types → slice_get others w ≡ slice_get words w)
        → AreOfFrame defs types slots others → ((s : ℕ) → length slots ≤ s → own s ≡ []) → ((s : ℕ) → Has busy_then s → own s ≡ [])
        → ((s : ℕ) (h : held.Held) (l : core.Slot) → (Has busy_then s → ⊥) → slice_get changed s ≡ Some h → slice_get other s ≡ Some l
        → So s h l (own s) ⊎ Now s h l (own s)) → ((s : ℕ) → Single (own s))
        → ((s r b : ℕ) → Has (own s) b → Has (own r) b → s ≡ r)
        → (after : WordsAre defs k' x' frame busy_then types changed vs other others) × (after.own ≡ own)
    several_change busy_then changed other own many same front kind past bare each single apart = (
      record {
        laid = are.laid;
        kind = subst (λ (m : ℕ). AreOf (frame_bytes defs types m) (frame_references defs types m) others) (sym many) kind;
        values = variables_stand front;
        as_many = same ∙ sym many;
        own = own;
        none_past = λ s l. past s (omega (arith, l, many));
        busy_bare = bare;
        each = λ s h l free e f. elim (each s h l free e f) [
          | inl so ↦ so_now s h l (own s) so
          | inr now ↦ now
        ];
        single = single;
        apart = apart;
      },
      refl,
    )

    -- ---- where the words of one slot change

    module _ (s : ℕ) (e : ElseAsWas words others (number_place defs types s) 8) where
      in_front : (w : ℕ) → 4 * w < slots_place defs types → slice_get others w ≡ slice_get words w
      in_front w l = e.each w (λ i. let j = i.0 in omega (arith, j, l))

      other_so : (u : ℕ) (h : held.Held) (l : core.Slot) → (Has busy u → ⊥) → (u ≡ s → ⊥) → slice_get known u ≡ Some h
          → slice_get slots u ≡ Some l → ((b : ℕ) → Has (are.own u) b → IsKept k' x x' b) → So u h l (are.own u)
      other_so u h l idle ne f g keeps = record {
        idle = idle;
        known_so = f;
        holds_so = g;
        words_so = λ w z.
            e.each w (λ y. let p = y.0 in let q = y.1 in let a = z.0 in let c = z.1 in ne (omega (arith, p, q, a, c)));
        own_so = refl;
        kept = keeps;
      }

      -- it is among the slots of which nothing is said now, as are those of which nothing was said
      goes_on : (busy_then : List ℕ) → Has busy_then s → ((u : ℕ) → Has busy u → Has busy_then u)
          → ((u : ℕ) → Has busy_then u → are.own u ≡ []) → AreOfFrame defs types slots others
          → ((r b : ℕ) → Has (are.own r) b → IsKept k' x x' b)
          → (after : WordsAre defs k' x' frame busy_then types known vs slots others) × (after.own ≡ are.own)
      goes_on busy_then here more bare kind keeps =
          several_change busy_then known slots are.own refl are.as_many in_front kind are.none_past bare
          (λ u h l free f g.
          inl (other_so u h l (λ i. free (more u i)) (λ y. free (subst (λ (n : ℕ). Has busy_then n) (sym y) here)) f g (keeps u)))
          are.single are.apart

      module _ (h : held.Held) (l : core.Slot) (own : List ℕ) (there : s < length slots) (kind : AreOfFrame defs types slots others)
          (stand : Now s h l own) (single : Single own)
          (rest : (r b : ℕ) → (r ≡ s → ⊥) → Has (are.own r) b → (Has own b → ⊥) × IsKept k' x x' b) where
        abbrev after_own : ℕ → List ℕ
        after_own r = choose (r == s) own (are.own r)

        own_here : (r : ℕ) → r ≡ s → after_own r ≡ own
        own_here r y = elim (eqb_tells r s) [
          | inl z ↦ ap (λ b. choose b own (are.own r)) z.0
          | inr z ↦ absurd (z.1 y)
        ]

        own_elsewhere : (r : ℕ) → (r ≡ s → ⊥) → after_own r ≡ are.own r
        own_elsewhere r ne = elim (eqb_tells r s) [
          | inl z ↦ absurd (ne z.1)
          | inr z ↦ ap (λ b. choose b own (are.own r)) z.0
        ]

        -- a block is the changed slot's or another's
        is_of : (r b : ℕ) → Has (after_own r) b → ((r ≡ s) × Has own b) ⊎ ((r ≡ s → ⊥) × Has (are.own r) b)
        is_of r b i = elim (eqb_tells r s) [
          | inl z ↦ inl (z.1, subst (λ (os : List ℕ). Has os b) (own_here r z.1) i)
          | inr z ↦ inr (z.1, subst (λ (os : List ℕ). Has os b) (own_elsewhere r z.1) i)
        ]

        alone : (r q b : ℕ) → ((r ≡ s) × Has own b) ⊎ ((r ≡ s → ⊥) × Has (are.own r) b)
            → ((q ≡ s) × Has own b) ⊎ ((q ≡ s → ⊥) × Has (are.own q) b) → r ≡ q
        alone r q b (inl i) (inl j) = i.0 ∙ sym j.0
        alone r q b (inl i) (inr j) = absurd ((rest q b j.0 j.1).0 i.1)
        alone r q b (inr i) (inl j) = absurd ((rest r b i.0 i.1).0 j.1)
        alone r q b (inr i) (inr j) = are.apart r q b i.1 j.1

        each_slot : (u : ℕ) (i : held.Held) (j : core.Slot) → (Has (held.without s busy) u → ⊥)
            → slice_get (held.put known s h) u ≡ Some i → slice_get (core.put slots s l) u ≡ Some j
            → So u i j (after_own u) ⊎ Now u i j (after_own u)
        each_slot u i j free f g = elim (eqb_tells u s) [
          | inl y ↦ inr (this y.1)
          | inr y ↦ inl (another y.1)
        ]
          where
            this : u ≡ s → Now u i j (after_own u)
            this y =
                let many = are.as_many in
                let a : h ≡ i = put_there known s h i (omega (arith, there, many)) (ap (slice_get (held.put known s h)) (sym y) ∙ f) in
                let b : l ≡ j = put_there slots s l j there (ap (slice_get (core.put slots s l)) (sym y) ∙ g) in
                subst (λ (os : List ℕ). Now u i j os) (sym (own_here u y))
                (subst (λ (n : ℕ). Now n i j own) (sym y)
                (subst (λ (z : held.Held). Now s z j own) a (subst (λ (z : core.Slot). Now s h z own) b stand)))

            another : (u ≡ s → ⊥) → So u i j (after_own u)
            another ne =
                subst (λ (os : List ℕ). So u i j os) (sym (own_elsewhere u ne))
                (other_so u i j (λ c. free (still_among s u busy c ne)) ne (sym (set_other known s u h ne) ∙ f)
                (sym (set_other slots s u l ne) ∙ g) (λ b c. (rest u b ne c).1))

        slot_changes : OneSlotChanged defs k k' x x' frame busy types known vs slots words others are s h l own
        slot_changes =
            let (after, same) = several_change (held.without s busy) (held.put known s h) (core.put slots s l) after_own
            (put_long slots s l) (put_long known s h ∙ are.as_many) in_front kind
            (λ r p. own_elsewhere r (λ y. omega (arith, y, p, there)) ∙ are.none_past r p)
            (λ r i. let w = was_among s r busy i in own_elsewhere r w.1 ∙ are.busy_bare r w.0)
            each_slot
            (λ r. elim (eqb_tells r s) [
              | inl z ↦ subst (λ (os : List ℕ). Single os) (sym (own_here r z.1)) single
              | inr z ↦ subst (λ (os : List ℕ). Single os) (sym (own_elsewhere r z.1)) (are.single r)
            ])
            (λ r q b i j. alone r q b (is_of r b i) (is_of q b j)) in
            record {
              after = after;
              here = ap (λ (f : ℕ → List ℕ). f s) same ∙ own_here s refl;
              elsewhere = λ r ne. ap (λ (f : ℕ → List ℕ). f r) same ∙ own_elsewhere r ne;
            }

pub slots_change : SlotsChange
slots_change = record {
  stays = λ defs k k' x x' frame words others n h l own stands grows same keeps.
      slot_same defs k k' x x' frame grows words others n h l own stands same keeps;
  slot = λ defs k k' x x' frame busy types known vs slots words others s h l own are grows there e kind stand single rest.
      slot_changes defs k k' x x' frame grows busy types known vs slots words others are s e h l own there kind stand single rest;
  leaves = λ defs k k' x x' frame busy types known vs slots words others s are grows bare e kind keeps.
      goes_on defs k k' x x' frame grows busy types known vs slots words others are s e (s ∷ busy) (inl refl) (λ u i. inr i)
      (λ u i. elim i [ inl y ↦ ap are.own (sym y) ∙ bare | inr j ↦ are.busy_bare u j ]) kind keeps;
  within = λ defs k k' x x' frame busy types known vs slots words others s are here grows e kind keeps.
      goes_on defs k k' x x' frame grows busy types known vs slots words others are s e busy here (λ u i. i) are.busy_bare kind keeps;
  several = λ defs k k' x x' frame busy busy_then types known changed vs slots other words others own are grows many same e kind past bare
      each single apart.
      several_change defs k k' x x' frame grows busy types known vs slots words others are busy_then changed other own many same
      (λ w l. e.each w (λ i. let j = i.0 in omega (arith, j, l))) kind past bare each single apart;
  variables = λ defs k x frame busy types known vs us slots words others are e kind values.
      variables_change defs k x frame busy types known vs slots words others are us e kind values;
  linkage = λ defs k x frame busy types known vs slots words others are e kind.
      linkage_changes defs k x frame busy types known vs slots words others are e kind;
  spare = λ defs k x frame busy types known vs slots words others are e kind.
      spare_changes defs k x frame busy types known vs slots words others are e kind;
}
