-- What the words of a frame refer to is accounted for where its variables and slots are named, and they lead to all that these name.
use Rattle.std.proofs.Common.{◌≡◌, ℕ, zero, suc, ◌+◌, ◌<◌, ◌≤◌, ◌⊎◌, pos, List, [], ◌∷◌, length, map, Some, inl, inr}
use Rattle.std.proofs.Common.{refl, sym, ap, subst, arith, ◌∙◌}
use Rattle.std.specs.Prelude.{slice_get}
use Rattle.std.specs.List.{range_with_len}
use Rattle.std.proofs.lemmas.Bool.Decides.{eqb_tells}
use Rattle.heap_model.specs.Facts.{Refers, itself, refers}
use Rattle.limbo_layout.specs.Adts.{Has}
use Rattle.limbo_layout.specs.Layout.{nothing}
use Rattle.limbo_layout.specs.Laying.{rooms_of}
use Rattle.limbo_layout.proofs.Rooms.{has_cases}
use Rattle.limbo_typed.specs.Typed as typed
use Rattle.limbo_meaning.specs.Values.{one, among, references_in}
use Rattle.core_code.specs.Rooms.{rooms_in}
use Rattle.core_code.specs.Slots as core
use Rattle.core_code.specs.Slots.{slot, slot_names, slots_name}
use Rattle.core_code.specs.Machine as code
use Rattle.core_code.specs.Machine.{frame_names}
use Rattle.core_typing.specs.Held.{Held}
use Rattle.dis_meaning.specs.Words.{Word, Refer, Found, word_at}
use Rattle.dis_meaning.specs.Process.{Frame}
use Rattle.dis_memory.specs.Blocks.{World}
use Rattle.value_words.specs.Facts.{Facts}
use Rattle.value_words.proofs.Blank.{mapped}
use Rattle.value_words.proofs.Covered.{all_covered, behind_nothing}
use Rattle.value_words.proofs.Rows.{is_there}
use Rattle.value_frames.specs.Frames.{linkage_bytes, row_of, number_place, reference_place, frame_bytes, frame_references}
use Rattle.value_roots.specs.Accounts.{Accounted, to_value, AllAccounted, more, LeadTo, it, frame_words}
use Rattle.value_roots.proofs.Words.{either}
use Rattle.value_roots.proofs.Later.{second_leads}
use Rattle.value_follows.specs.Stands.{types_of, spare_of, FrameIs}
use Rattle.value_follows.specs.Rooted.{PlaceAccounted}
use Rattle.value_follows.proofs.RootedValues.{kind_accounted, one_is, one_names, covers_those, row_referred}
use Rattle.value_follows.proofs.RootedSlots.{in_range, IsWhole, AllThere, slot_accounted, slot_leads}

-- ---- slots

slot_within : (slots : core.Slots) (s : ℕ) (l : core.Slot) (n : ℕ) → slice_get slots s ≡ Some l → slot_names l n ≤ slots_name slots n
slot_within [] s l n e = absurd cc
slot_within (t ∷ slots) zero l n e =
    let same : t ≡ l = cc in
    subst (λ (z : core.Slot). slot_names z n ≤ slot_names t n + slots_name slots n) same (omega arith)
slot_within (t ∷ slots) (suc s) l n e = let h = slot_within slots s l n e in omega (arith, h)

record IsNamedIn (slots : core.Slots) (n : ℕ) : Type 0 where
  number : ℕ
  held : core.Slot
  there : slice_get slots number ≡ Some held
  names : 0 < slot_names held n

named_in : (slots : core.Slots) (n : ℕ) → 0 < slots_name slots n → IsNamedIn slots n
named_in [] n h = absurd (omega (arith, h))
named_in (l ∷ slots) n h = elim (either (slot_names l n) (slots_name slots n) h) [
  | inl y ↦ record { number = 0; held = l; there = refl; names = y }
  | inr y ↦ let r = named_in slots n y in record { number = suc r.number; held = r.held; there = r.there; names = r.names }
]

slot_is : (slots : core.Slots) (s : ℕ) (l : core.Slot) → slice_get slots s ≡ Some l → slot slots s ≡ l
slot_is [] s l e = absurd cc
slot_is (t ∷ slots) zero l e = cc
slot_is (t ∷ slots) (suc s) l e = slot_is slots s l e

busy_or_not : (busy : List ℕ) (s : ℕ) → Has busy s ⊎ (Has busy s → ⊥)
busy_or_not [] s = inr (λ h. h)
busy_or_not (b ∷ bs) s = elim (eqb_tells b s) [
  | inl y ↦ inl (inl y.1)
  | inr y ↦ elim (busy_or_not bs s) [ inl z ↦ inl (inr z) | inr z ↦ inr (λ h. elim h [ inl e ↦ y.1 e | inr e ↦ z e ]) ]
]

within_slots : {A : Type 0} (xs : List A) (s : ℕ) (a : A) → slice_get xs s ≡ Some a → s < length xs
within_slots [] s a e = absurd cc
within_slots (y ∷ xs) zero a e = omega arith
within_slots (y ∷ xs) (suc s) a e = let h = within_slots xs s a e in omega (arith, h)

-- ---- frames

module _ (m : typed.Module) (k : Facts) (i : ℕ) (x : World) (whole : IsWhole k x.heap) where
  abbrev pub Live : List Word → Type 0
  Live words = AllThere m.adts k x.heap whole words

  module _ (busy : List ℕ) (g : code.Frame) (f : Frame) (is : FrameIs m k i x busy g f) where
    -- A slot that isn't busy has what is known of it.
    record IsStanding (s : ℕ) (l : core.Slot) : Type 0 where
      known : Held
      of : slice_get is.known s ≡ Some known

    known_of : (s : ℕ) (l : core.Slot) → slice_get g.slots s ≡ Some l → IsStanding s l
    known_of s l e =
        let long = within_slots g.slots s l e in
        let many = is.words.as_many in
        let h = is_there is.known s (omega (arith, long, many)) in
        record { known = h.0; of = h.1 }

    module _ (names : ℕ → ℕ) (named : (n : ℕ) → 0 < frame_names g n → 0 < names n) (live : Live f.words) where
      abbrev Account : ℕ → Type 0
      Account b = Accounted k i x.heap names (Refer (Some b))

      variable_accounted : (o b : ℕ) → Has (row_of m.adts (types_of m is.function)).references o
          → word_at f.words (pos (linkage_bytes + o)) ≡ Found (Refer (Some b)) → Account b
      variable_accounted o b h e =
          let rooms = rooms_of (rooms_in m.adts) (types_of m is.function) in
          to_value b (covers_those m.adts k names (references_in g.variables) b (λ n u. named n (omega (arith, u)))
          (behind_nothing m.adts k f.words o
          (all_covered m.adts k f.words linkage_bytes nothing (types_of m is.function) rooms g.variables o b is.words.laid is.words.values
          h e)))

      standing_accounted : (s b : ℕ) → s < length g.slots → (Has busy s → ⊥)
          → word_at f.words (pos (reference_place m.adts (types_of m is.function) s)) ≡ Found (Refer (Some b)) → Account b
      standing_accounted s b l free e =
          let here = is_there g.slots s l in
          let h = known_of s here.0 here.1 in
          slot_accounted m.adts k x.heap whole i names f.serial f.words (number_place m.adts (types_of m is.function) s)
          (reference_place m.adts (types_of m is.function) s) h.known here.0 (is.words.own s) live
          (λ n u. named n (let w = slot_within g.slots s here.0 n here.1 in omega (arith, u, w)))
          (λ c j. is.mine s c j) (is.words.each s h.known here.0 free h.of here.1) b e

      pub frame_accounted : PlaceAccounted m k i x names f (spare_of m k i x is.function)
          → ((s : ℕ) → Has busy s → PlaceAccounted m k i x names f (reference_place m.adts (types_of m is.function) s))
          → AllAccounted k i x.heap names (frame_words f)
      frame_accounted spare slot =
          more (Refer (Some f.instance)) f.words
          (to_value f.instance (refers g.instance (named g.instance first) (itself is.instance)))
          (kind_accounted k i x.heap names (frame_bytes m.adts (types_of m is.function) (length g.slots))
          (frame_references m.adts (types_of m is.function) (length g.slots)) f.words is.words.kind at_place)
        where
          first : 0 < frame_names g g.instance
          first = let y = one_names g.instance in omega (arith, y)

          at_slot : (s b : ℕ) → s < length g.slots
              → word_at f.words (pos (reference_place m.adts (types_of m is.function) s)) ≡ Found (Refer (Some b)) → Account b
          at_slot s b l e = elim (busy_or_not busy s) [
            | inl y ↦ slot s y (Some b) e
            | inr y ↦ standing_accounted s b l y e
          ]

          at_place : (o b : ℕ) → Has (frame_references m.adts (types_of m is.function) (length g.slots)) o
              → word_at f.words (pos o) ≡ Found (Refer (Some b)) → Account b
          at_place o b h e = elim (has_cases (map (λ o. linkage_bytes + o) (row_of m.adts (types_of m is.function)).references) _ o h) [
            | inl y ↦
                let j = mapped (λ o. linkage_bytes + o) (row_of m.adts (types_of m is.function)).references o y in
                variable_accounted j.0 b j.1 (ap (λ (p : ℕ). word_at f.words (pos p)) j.2 ∙ e)
            | inr y ↦ elim y [
              | inl z ↦ spare (Some b) (ap (λ (p : ℕ). word_at f.words (pos p)) z ∙ e)
              | inr z ↦
                  let j = mapped (λ s. reference_place m.adts (types_of m is.function) s) (range_with_len 0 (length g.slots)) o z in
                  let r = in_range 0 (length g.slots) j.0 j.1 in
                  let d = r.1 in
                  let l = r.2 in
                  at_slot j.0 b (omega (arith, d, l)) (ap (λ (p : ℕ). word_at f.words (pos p)) j.2 ∙ e)
            ]
          ]

    -- a busy slot names something
    abbrev pub BusyNames : ℕ → Type 0
    BusyNames n = (s : ℕ) × Has busy s × (0 < slot_names (slot g.slots s) n)

    pub frame_leads : (n : ℕ) → Live f.words → 0 < frame_names g n → LeadTo k x.heap n (frame_words f) ⊎ BusyNames n
    frame_leads n live h =
        elim (either (one n (Some g.instance)) (among n (references_in g.variables) + slots_name g.slots n) h) [
          | inl y ↦
              inl
              (it (frame_words f) f.instance (inl refl)
              (subst (λ (j : ℕ). Refers k j f.instance) (sym (one_is n g.instance y)) (itself is.instance)))
          | inr y ↦ elim (either (among n (references_in g.variables)) (slots_name g.slots n) y) [
            | inl z ↦ inl (by_words (by_variable z))
            | inr z ↦ by_slot (named_in g.slots n z)
          ]
        ]
      where
        by_words : LeadTo k x.heap n f.words → LeadTo k x.heap n (frame_words f)
        by_words l = second_leads k x.heap n (Refer (Some f.instance) ∷ []) f.words l

        by_variable : 0 < among n (references_in g.variables) → LeadTo k x.heap n f.words
        by_variable z =
            let rooms = rooms_of (rooms_in m.adts) (types_of m is.function) in
            let q = row_referred m.adts k f.words linkage_bytes nothing (types_of m is.function) rooms g.variables n is.words.values z in
            it f.words q.block q.has q.is

        by_slot : IsNamedIn g.slots n → LeadTo k x.heap n (frame_words f) ⊎ BusyNames n
        by_slot r =
            let h = known_of r.number r.held r.there in
            let same = slot_is g.slots r.number r.held r.there in
            elim (busy_or_not busy r.number) [
              | inl z ↦ inr (r.number, z, subst (λ (l : core.Slot). 0 < slot_names l n) (sym same) r.names)
              | inr z ↦
                  inl (by_words
                  (slot_leads m.adts k x.heap whole n f.serial f.words (number_place m.adts (types_of m is.function) r.number)
                  (reference_place m.adts (types_of m is.function) r.number) h.known r.held (is.words.own r.number) live
                  (is.words.each r.number h.known r.held z h.of r.there) r.names))
            ]
