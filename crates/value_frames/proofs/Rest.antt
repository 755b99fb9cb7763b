-- What a slot has by what is known of it, and that it refers idly where its value names nothing.
use Rattle.std.proofs.Common.{◌≡◌, ℕ, suc, ◌+◌, ◌*◌, ◌/◌, ◌<◌, ◌⊎◌, pos, Bool, List, [], ◌∷◌, Option, Some, None}
use Rattle.std.proofs.Common.{refl, sym, ap, ◌∙◌, subst, arith, inl, inr, if◌then◌else◌}
use Rattle.std.specs.Prelude.{slice_get}
use Rattle.std.proofs.lemmas.Bool.Decides.{eqb_tells}
use Rattle.heap_model.specs.Heap.{Heap}
use Rattle.limbo_types.specs.Types.{Ty}
use Rattle.limbo_layout.specs.Adts.{Def}
use Rattle.limbo_layout.specs.Layout.{Laid}
use Rattle.limbo_values.specs.declared.number.Kind.TheVariants as kind
use Rattle.limbo_meaning.specs.Values as value
use Rattle.limbo_meaning.specs.Values.{Value, Num, references, array_named}
use Rattle.limbo_meaning.specs.Origins.{Name}
use Rattle.core_code.specs.Slots as core
use Rattle.core_code.specs.Slots.{Slot, Holds, Forms}
use Rattle.core_typing.specs.Held as held
use Rattle.core_typing.specs.Held.{Held, Of, Forming, Decided, Turns}
use Rattle.dis_meaning.specs.Words.{Word, Plain, Refer, Address, Found, word_at}
use Rattle.dis_meaning.specs.Counts.{refers, in_words}
use Rattle.dis_memory.specs.Blocks.{Block, Record}
use Rattle.value_words.specs.Forms as forms
use Rattle.value_words.specs.Facts.{Facts, IsName, IsPart, IsText}
use Rattle.value_words.specs.Stands.{Stands, a_number, a_text, a_name, an_array, no_words, a_tuple, an_adt}
use Rattle.value_words.proofs.Bytes.{word_there}
use Rattle.value_words.proofs.Covered.{covered}
use Rattle.value_frames.specs.Frames.{Form, Nowhere, AsNumber, AsReference, Boxed, form_of, room_for, box_bytes}
use Rattle.value_frames.specs.Standing.{truth, NamesOnly, IsBox, IsForming, IsOwn, IsIdle, nothing_there, text_left, carrier_left, RefersIdly, ValueStands}
use Rattle.value_frames.specs.Standing.{SlotStands, a_value, a_forming, a_decision, a_loop, ChainStands, no_chain, a_chain}
use Rattle.value_frames.specs.Rest.{SlotReads, IsAtRest, SlotsRest}

-- ---- where a name, and a reference, stands in a row

name_there : (n : ℕ) (ns : List (Option ℕ)) → Name ns n → (k : ℕ) × (slice_get ns k ≡ Some (Some n))
name_there n [] h = absurd (omega (arith, h))
name_there n (None ∷ ns) h = let i = name_there n ns (omega (arith, h)) in (suc i.0, i.1)
name_there n (Some m ∷ ns) h = elim (eqb_tells n m) [
  | inl y ↦ (0, ap (λ j. Some (Some j)) (sym y.1))
  | inr y ↦
      let e : value.one n (Some m) ≡ 0 = ap (λ (b : Bool). if b then 1 else 0) y.0 in
      let i = name_there n ns (omega (arith, h, e)) in
      (suc i.0, i.1)
]

refers_to : (n : ℕ) (w : Word) → (w ≡ Refer (Some n)) ⊎ (refers n w ≡ 0)
refers_to n (Refer (Some m)) = elim (eqb_tells m n) [
  | inl y ↦ inl (ap (λ j. Refer (Some j)) y.1)
  | inr y ↦ inr (ap (λ (b : Bool). if b then 1 else 0) y.0)
]
refers_to n (Refer None) = inr refl
refers_to n (Plain z) = inr refl
refers_to n (Address place at) = inr refl

reference_there : (n : ℕ) (ws : List Word) → 0 < in_words n ws → (k : ℕ) × (slice_get ws k ≡ Some (Refer (Some n)))
reference_there n [] h = absurd (omega (arith, h))
reference_there n (w ∷ ws) h = elim (refers_to n w) [
  | inl e ↦ (0, ap Some e)
  | inr e ↦ let i = reference_there n ws (omega (arith, h, e)) in (suc i.0, i.1)
]

-- ---- slots by what is known of them

module _ (defs : List Def) (k : Facts) where
  reads_of : (words : List Word) (n r : ℕ) (t : Ty) (live : List ℕ) (v : Value) (own : List ℕ)
      → ValueStands defs k words n r (form_of t) t v → NamesOnly live v → own ≡ [] → SlotReads defs k words n r t live v own
  reads_of words n r t live v own s names bare = record {
    bare = bare;
    names = names;
    stands = s;
    nowhere = λ e. of Nowhere e;
    number = λ e. (of AsNumber e).0;
    beside = λ e. (of AsNumber e).1;
    reference = λ e. of AsReference e;
    boxed = λ e. of Boxed e;
  }
    where
      of : (f : Form) → form_of t ≡ f → ValueStands defs k words n r f t v
      of f e = subst (λ (g : Form). ValueStands defs k words n r g t v) e s

  module _ (x : Heap Block) (frame : ℕ) where
    -- a slot that has a value of a type
    record IsHeld (words : List Word) (n r : ℕ) (t : Ty) (live : List ℕ) (l : Slot) (own : List ℕ) : Type 0 where
      val : Value
      is : l ≡ Holds val
      reads : SlotReads defs k words n r t live val own

    value_held : (words : List Word) (n r : ℕ) (h : Held) (l : Slot) (own : List ℕ) (t : Ty) (live : List ℕ) → h ≡ Of t live
        → SlotStands defs k x frame words n r h l own → IsHeld words n r t live l own
    value_held _ _ _ _ _ _ t live e (a_value words n r u ns v s m) =
        let p : u ≡ t = cc in
        let q : ns ≡ live = cc in
        subst (λ (z : Ty). IsHeld words n r z live (Holds v) []) p
        (subst (λ (z : List ℕ). IsHeld words n r u z (Holds v) []) q
        (record { val = v; is = refl; reads = reads_of words n r u ns v [] s m refl }))
    value_held _ _ _ _ _ _ t live e (a_forming words inner n r b u variant ks us ns vs o f) = absurd cc
    value_held _ _ _ _ _ _ t live e (a_decision words n r b f i) = absurd cc
    value_held _ _ _ _ _ _ t live e (a_loop words n r next gs rs own f c) = absurd cc

    value_reads : (words : List Word) (n r : ℕ) (t : Ty) (live : List ℕ) (v : Value) (own : List ℕ)
        → SlotStands defs k x frame words n r (Of t live) (Holds v) own → SlotReads defs k words n r t live v own
    value_reads words n r t live v own s =
        let h = value_held words n r (Of t live) (Holds v) own t live refl s in
        let f = h.is in
        let e : h.val ≡ v = cc in
        subst (λ (u : Value). SlotReads defs k words n r t live u own) e h.reads

    -- one in which something is put together
    record IsFormed (words : List Word) (n r : ℕ) (t : Ty) (variant : Option ℕ) (ks : List ℕ) (us : List Ty) (live : List ℕ) (l : Slot)
        (own : List ℕ) : Type 0 where
      vs : List Value
      is : l ≡ Forms vs
      block : ℕ
      inner : List Word
      owned : own ≡ block ∷ []
      record_is : IsOwn defs k x frame words r (box_bytes defs t) (room_for defs t).references block inner
      forming : IsForming defs k t variant ks us live vs inner

    forming_held : (words : List Word) (n r : ℕ) (h : Held) (l : Slot) (own : List ℕ) (t : Ty) (variant : Option ℕ) (ks : List ℕ)
        (us : List Ty) (live : List ℕ) → h ≡ Forming t variant ks us live → SlotStands defs k x frame words n r h l own
        → IsFormed words n r t variant ks us live l own
    forming_held _ _ _ _ _ _ t variant ks us live e (a_value words n r u ns v s m) = absurd cc
    forming_held _ _ _ _ _ _ t variant ks us live e (a_forming words inner n r b u w js ws ns vs o f) =
        let p : u ≡ t = cc in
        let q : w ≡ variant = cc in
        let i : js ≡ ks = cc in
        let j : ws ≡ us = cc in
        let m : ns ≡ live = cc in
        subst (λ (z : Ty). IsFormed words n r z variant ks us live (Forms vs) (b ∷ [])) p
        (subst (λ (z : Option ℕ). IsFormed words n r u z ks us live (Forms vs) (b ∷ [])) q
        (subst (λ (z : List ℕ). IsFormed words n r u w z us live (Forms vs) (b ∷ [])) i
        (subst (λ (z : List Ty). IsFormed words n r u w js z live (Forms vs) (b ∷ [])) j
        (subst (λ (z : List ℕ). IsFormed words n r u w js ws z (Forms vs) (b ∷ [])) m
        (record { vs = vs; is = refl; block = b; inner = inner; owned = refl; record_is = o; forming = f })))))
    forming_held _ _ _ _ _ _ t variant ks us live e (a_decision words n r b f i) = absurd cc
    forming_held _ _ _ _ _ _ t variant ks us live e (a_loop words n r next gs rs own f c) = absurd cc

    -- one that tells a decision
    record IsDecided (words : List Word) (n r : ℕ) (b : Bool) (l : Slot) (own : List ℕ) : Type 0 where
      is : l ≡ Holds (Num (truth b))
      word : word_at words (pos n) ≡ Found (Plain (truth b))
      rest : IsAtRest defs k words r own

    decision_held : (words : List Word) (n r : ℕ) (h : Held) (l : Slot) (own : List ℕ) (b : Bool) → h ≡ Decided b
        → SlotStands defs k x frame words n r h l own → IsDecided words n r b l own
    decision_held _ _ _ _ _ _ b e (a_value words n r u ns v s m) = absurd cc
    decision_held _ _ _ _ _ _ b e (a_forming words inner n r q u variant ks us ns vs o f) = absurd cc
    decision_held _ _ _ _ _ _ b e (a_decision words n r c f i) =
        let p : c ≡ b = cc in
        subst (λ (z : Bool). IsDecided words n r z (Holds (Num (truth c))) []) p (record { is = refl; word = f; rest = (i, refl) })
    decision_held _ _ _ _ _ _ b e (a_loop words n r next gs rs own f c) = absurd cc

    -- and a loop's
    record IsTurning (words : List Word) (n r : ℕ) (gs : held.Regions) (l : Slot) (own : List ℕ) : Type 0 where
      next : ℕ
      regions : core.Regions
      is : l ≡ core.Turns next regions
      word : word_at words (pos n) ≡ Found (Plain (pos next))
      chain : ChainStands defs k x frame words r gs regions own

    loop_held : (words : List Word) (n r : ℕ) (h : Held) (l : Slot) (own : List ℕ) (gs : held.Regions) → h ≡ Turns gs
        → SlotStands defs k x frame words n r h l own → IsTurning words n r gs l own
    loop_held _ _ _ _ _ _ gs e (a_value words n r u ns v s m) = absurd cc
    loop_held _ _ _ _ _ _ gs e (a_forming words inner n r q u variant ks us ns vs o f) = absurd cc
    loop_held _ _ _ _ _ _ gs e (a_decision words n r c f i) = absurd cc
    loop_held _ _ _ _ _ _ gs e (a_loop words n r next hs rs own f c) =
        let p : hs ≡ gs = cc in
        subst (λ (z : held.Regions). IsTurning words n r z (core.Turns next rs) own) p
        (record { next = next; regions = rs; is = refl; word = f; chain = c })

    no_turn : (words : List Word) (p : ℕ) (hs : held.Regions) (gs : core.Regions) (own : List ℕ) → hs ≡ held.NoRegion
        → ChainStands defs k x frame words p hs gs own → IsAtRest defs k words p own
    no_turn _ _ _ _ _ e (no_chain words p f) = ((None, f, nothing_there), refl)
    no_turn _ _ _ _ _ e (a_chain words inner p b last h hs g gs own more o f first rest) = absurd cc

  -- ---- of a value nothing is named

  module _ (words : List Word) where
    idle_name : (asked : Option forms.Form) (r n : Option ℕ) (at : ℕ) → word_at words (pos at) ≡ Found (Refer r) → IsName k asked r n
        → NamesOnly [] (value.Ref n) → RefersIdly defs k words at
    idle_name asked r (Some m) at e i names = absurd (names 0 m refl)
    idle_name asked None None at e i names = (None, e, nothing_there)
    idle_name asked (Some b) None at e i names = absurd i

    idle_part : (t : Ty) (r : Option ℕ) (p : Option value.Part) (at : ℕ) → word_at words (pos at) ≡ Found (Refer r) → IsPart k t r p
        → NamesOnly [] (value.Array p) → RefersIdly defs k words at
    idle_part t r (Some p) at e i names = absurd (names 0 p.array refl)
    idle_part t None None at e i names = (None, e, nothing_there)
    idle_part t (Some b) None at e i names = absurd i

    idle_text : (r : Option ℕ) (s : List ℕ) (at : ℕ) → word_at words (pos at) ≡ Found (Refer r) → IsText k r s
        → RefersIdly defs k words at
    idle_text None s at e i = (None, e, nothing_there)
    idle_text (Some b) s at e i = (Some b, e, text_left b s i.0)

    idle_reference : (at : ℕ) (t : Ty) (v : Value) → form_of t ≡ AsReference → NamesOnly [] v → Stands defs k words at t v
        → RefersIdly defs k words at
    idle_reference _ _ _ e names (a_number at kind.Byte z f i) = absurd cc
    idle_reference _ _ _ e names (a_number at kind.Int z f i) = absurd cc
    idle_reference _ _ _ e names (a_number at kind.Big z f i) = absurd cc
    idle_reference _ _ _ e names (a_text at r s f i) = idle_text r s at f i
    idle_reference _ _ _ e names (a_name at t r n i f j) = idle_name (forms.form_of t) r n at f j names
    idle_reference _ _ _ e names (an_array at t r p f i) = idle_part t r p at f i names
    idle_reference _ _ _ e names (no_words at) = absurd cc
    idle_reference _ _ _ e names (a_tuple at ts rs vs l all) = absurd cc
    idle_reference _ _ _ e names (an_adt at n d rs vs f l all) = absurd cc

  -- what a box refers to whose value names nothing is a text
  idle_box : (t : Ty) (v : Value) (b : ℕ) (inner : List Word) → Laid defs t (room_for defs t) → NamesOnly [] v
      → IsBox defs k t b inner → Stands defs k inner 0 t v → IsIdle defs k (Some b)
  idle_box t v b inner laid names box s = carrier_left b (Record inner) box.carries (λ q i.
      let w = reference_there q inner i in
      let e : (0 + 4 * w.0) / 4 ≡ w.0 = omega arith in
      let there = word_there inner (0 + 4 * w.0) (Refer (Some q)) (omega arith) (ap (slice_get inner) e ∙ w.1) in
      elim (covered defs k inner 0 t (room_for defs t) v (4 * w.0) q laid s (box.kind.only w.0 (Some q) w.1) there) [
        | inl n ↦ let m = name_there n.0 (references v) n.1 in absurd (names m.0 n.0 m.1)
        | inr text ↦ (text.0, text.1.0)
      ])

  idle_value : (words : List Word) (n r : ℕ) (t : Ty) (v : Value) (own : List ℕ) → SlotReads defs k words n r t [] v own
      → (form_of t ≡ Boxed → Laid defs t (room_for defs t)) → RefersIdly defs k words r
  idle_value words n r t v own reads laid = go (form_of t) refl
    where
      go : (f : Form) → form_of t ≡ f → RefersIdly defs k words r
      go Nowhere e = (reads.nowhere e).1
      go AsNumber e = reads.beside e
      go AsReference e = idle_reference words r t v e reads.names (reads.reference e)
      go Boxed e =
          let b = reads.boxed e in
          (Some b.0, b.2, idle_box t v b.0 b.1 (laid e) reads.names b.3 b.4)

pub slots_rest : SlotsRest
slots_rest = record {
  is_value = λ defs k x frame words n r t live l own s.
      let h = value_held defs k x frame words n r (Of t live) l own t live refl s in (h.val, h.is);
  is_forming = λ defs k x frame words n r t variant ks us live l own s.
      let h = forming_held defs k x frame words n r (Forming t variant ks us live) l own t variant ks us live refl s in
      (h.vs, h.is, h.block, h.inner, h.owned, h.record_is, h.forming);
  is_decision = λ defs k x frame words n r b l own s.
      let h = decision_held defs k x frame words n r (Decided b) l own b refl s in (h.is, h.word);
  is_loop = λ defs k x frame words n r gs l own s.
      let h = loop_held defs k x frame words n r (Turns gs) l own gs refl s in (h.next, h.regions, h.is, h.word, h.chain);
  reads = λ defs k x frame words n r t live v own s. value_reads defs k x frame words n r t live v own s;
  clean = λ defs k x frame words n r t v own s laid.
      let reads = value_reads defs k x frame words n r t [] v own s in
      (idle_value defs k words n r t v own reads laid, reads.bare);
  decided = λ defs k x frame words n r b l own s. (decision_held defs k x frame words n r (Decided b) l own b refl s).rest;
  unturned = λ defs k x frame words n r l own s.
      let h = loop_held defs k x frame words n r (Turns held.NoRegion) l own held.NoRegion refl s in
      no_turn defs k x frame words r held.NoRegion h.regions own refl h.chain;
}
