-- A number that comes into a slot which names nothing, and two processes that stand for one another then.
use Rattle.std.proofs.Common.{◌≡◌, ◌⊎◌, ℕ, ℤ, Bool, true, false, suc, pos, ◌+◌, ◌*◌, ◌/◌, ◌%◌, ◌==◌, ◌<◌, ◌≤◌, List, [], ◌∷◌, length, map, Option, Some, refl, sym, ap, ◌∙◌, subst, arith, inl, inr}
use Rattle.std.proofs.Common.{if◌then◌else◌}
use Rattle.std.specs.Prelude.{slice_get, slice_index}
use Rattle.std.specs.List.{range_with_len}
use Rattle.heap_model.specs.Heap.{at}
use Rattle.limbo_types.specs.Types as ty
use Rattle.limbo_types.specs.Types.{Ty}
use Rattle.limbo_layout.specs.Adts.{Def, Has}
use Rattle.limbo_layout.specs.Layout.{Laid, AllLaid, is_alone, of_tuple, of_adt, nothing, number}
use Rattle.limbo_layout.specs.Laying.{rooms_of}
use Rattle.limbo_layout.proofs.Rooms.{has_cases}
use Rattle.limbo_values.specs.declared.number.Kind.{Kind}
use Rattle.limbo_values.specs.declared.number.Kind.TheVariants as kind
use Rattle.limbo_values.specs.Numbers.{InRange}
use Rattle.limbo_typed.specs.Typed as typed
use Rattle.limbo_typed.specs.Fitting.{of_kind}
use Rattle.limbo_meaning.specs.Values.{Value, Num}
use Rattle.core_code.specs.Rooms.{rooms_in}
use Rattle.core_code.proofs.Rounds.{rounds_give_rooms}
use Rattle.core_code.specs.Machine as code
use Rattle.core_code.specs.Slots as core
use Rattle.core_code.specs.Slots.{Holds}
use Rattle.core_typing.specs.Held as held
use Rattle.core_typing.specs.Held.{Held, Of, Forming, Decided, Turns}
use Rattle.core_typing.specs.Needs.{IsClean}
use Rattle.dis_meaning.specs.Words.{Word, Plain, Refer, Address, Access, Found, Wrong, ◌>>=◌, word_at, plain, or_wrong, type_check, number_in}
use Rattle.dis_meaning.specs.Numbers.{number_at, bytes_of}
use Rattle.dis_meaning.specs.Process.{Process}
use Rattle.dis_memory.specs.Blocks.{World}
use Rattle.value_words.specs.Contents.{AreInRange}
use Rattle.value_words.specs.Facts.{Facts}
use Rattle.value_words.specs.Stands.{Stands, a_number, a_text, a_name, an_array, no_words, a_tuple, an_adt}
use Rattle.value_words.proofs.Blank.{all_within, mapped}
use Rattle.value_words.proofs.Rows.{is_there}
use Rattle.value_words.proofs.Bytes.{word_there}
use Rattle.value_frames.specs.Frames.{AsNumber, Boxed, form_of, linkage_bytes, answer_place, spare_place}
use Rattle.value_frames.specs.Frames.{number_place, reference_place, frame_bytes, frame_references, row_of, room_for}
use Rattle.value_frames.specs.Types.{AreOf}
use Rattle.value_frames.specs.Standing.{SlotStands, a_value, ValueStands, RefersIdly}
use Rattle.value_frames.specs.Rest.{IsAtRest}
use Rattle.value_frames.specs.Slots.{ElseAsWas}
use Rattle.value_frames.proofs.Rest.{slots_rest}
use Rattle.value_frames.proofs.Slots.{slots_change, put_long}
use Rattle.value_frames.proofs.Replacing.{kinds_stay}
use Rattle.value_frames.proofs.Later.{frames_later}
use Rattle.value_moves.specs.Changing.{Changes}
use Rattle.value_moves.proofs.Changing.{low_or_high}
use Rattle.value_follows.specs.Stands.{types_of, GoesOn, place_of, Ready}
use Rattle.value_follows.proofs.Standing.{at_slots, at_words, ready_on}
use Rattle.value_follows.proofs.Slots.{slot_is}

-- ---- slots that name nothing refer idly

-- what stands in a box has a layout
stands_laid : (defs : List Def) (k : Facts) (words : List Word) (at : ℕ) (t : Ty) (v : Value) → form_of t ≡ Boxed → Stands defs k words at t v
    → Laid defs t (room_for defs t)
stands_laid defs k words _ _ _ e (a_number at kind.Byte z f i) = absurd cc
stands_laid defs k words _ _ _ e (a_number at kind.Int z f i) = absurd cc
stands_laid defs k words _ _ _ e (a_number at kind.Big z f i) =
    let l : Laid defs ty.Big (number 8) = is_alone ty.Big (number 8) refl in
    subst (Laid defs ty.Big) (sym (rounds_give_rooms.rooms defs ty.Big (number 8) l)) l
stands_laid defs k words _ _ _ e (a_text at r s f i) = absurd cc
stands_laid defs k words _ _ _ e (a_name at ty.Nil r n i f j) = absurd cc
stands_laid defs k words _ _ _ e (a_name at (ty.ListOf t) r n i f j) = absurd cc
stands_laid defs k words _ _ _ e (a_name at (ty.ChanOf t) r n i f j) = absurd cc
stands_laid defs k words _ _ _ e (a_name at (ty.RefAdt a) r n i f j) = absurd cc
stands_laid defs k words _ _ _ e (a_name at (ty.RefPick a b) r n i f j) = absurd cc
stands_laid defs k words _ _ _ e (a_name at (ty.Module a) r n i f j) = absurd cc
stands_laid defs k words _ _ _ e (a_name at _ r n i f j) = absurd i
stands_laid defs k words _ _ _ e (an_array at t r p f i) = absurd cc
stands_laid defs k words _ _ _ e (no_words at) = absurd cc
stands_laid defs k words _ _ _ e (a_tuple at ts rs vs l all) =
    subst (Laid defs (ty.Tuple ts)) (sym (rounds_give_rooms.rooms defs (ty.Tuple ts) _ (of_tuple ts rs l))) (of_tuple ts rs l)
stands_laid defs k words _ _ _ e (an_adt at n d rs vs f l all) =
    subst (Laid defs (ty.Adt n)) (sym (rounds_give_rooms.rooms defs (ty.Adt n) _ (of_adt n d rs f l))) (of_adt n d rs f l)

module _ (defs : List Def) (k : Facts) (x : World) (frame : ℕ) (words : List Word) (n r : ℕ) where
  rests : (h : Held) (l : core.Slot) (own : List ℕ) → IsClean h → SlotStands defs k x.heap frame words n r h l own → IsAtRest defs k words r own
  rests (Of t live) l own clean stands =
      let empty = subst (λ ns. SlotStands defs k x.heap frame words n r (Of t ns) l own) clean stands in
      let v = slots_rest.is_value defs k x.heap frame words n r t [] l own empty in
      let holds = subst (λ o. SlotStands defs k x.heap frame words n r (Of t []) o own) v.1 empty in
      let reads = slots_rest.reads defs k x.heap frame words n r t [] v.0 own holds in
      slots_rest.clean defs k x.heap frame words n r t v.0 own holds (λ e.
      let b = reads.boxed e in stands_laid defs k b.1 0 t v.0 e b.4)
  rests (Forming t variant ks us live) l own clean stands = absurd clean
  rests (Decided b) l own clean stands = slots_rest.decided defs k x.heap frame words n r b l own stands
  rests (Turns held.NoRegion) l own clean stands = slots_rest.unturned defs k x.heap frame words n r l own stands
  rests (Turns (held.MoreRegions g gs)) l own clean stands = absurd clean

-- ---- the word of a slot's number

pub word_same : (words others : List Word) (at : ℕ) → slice_get others (at / 4) ≡ slice_get words (at / 4) → word_at others (pos at) ≡ word_at words (pos at)
word_same words others at e = go (at % 4 == 0)
  where
    go : (b : Bool) → ((if b then Found (at / 4) else Wrong type_check) >>= λ k. or_wrong type_check (slice_get others k))
        ≡ ((if b then Found (at / 4) else Wrong type_check) >>= λ k. or_wrong type_check (slice_get words k))
    go true = ap (or_wrong type_check) e
    go false = refl

-- a word that doesn't refer is plain
is_plain : (w : Word) → ((r : Option ℕ) → w ≡ Refer r → ⊥) → plain w ≡ Found w
is_plain (Plain z) none = refl
is_plain (Refer r) none = absurd (none r refl)
is_plain (Address place to) none = refl

has_number : (w : Word) → ((r : Option ℕ) → w ≡ Refer r → ⊥) → (z : ℤ) × (number_in w ≡ Found z)
has_number (Plain z) none = (z, refl)
has_number (Refer r) none = absurd (none r refl)
has_number (Address place to) none = (pos 0, refl)

module _ (defs : List Def) (types : List Ty) (n : ℕ) (words : List Word) (laid : AllLaid defs types (rooms_of (rooms_in defs) types))
    (are : AreOf (frame_bytes defs types n) (frame_references defs types n) words) (s : ℕ) (l : s < n) where
  no_reference : (o : ℕ) → Has (frame_references defs types n) o → o ≡ number_place defs types s → ⊥
  no_reference o h e = elim (has_cases (map (λ o. linkage_bytes + o) (row_of defs types).references)
      (spare_place defs types ∷ map (λ s. reference_place defs types s) (range_with_len 0 n)) o h) [
        | inl i ↦
            let a = mapped (λ o. linkage_bytes + o) (row_of defs types).references o i in
            let f = a.2 in
            let g = all_within defs nothing types (rooms_of (rooms_in defs) types) (λ q i. absurd i) laid a.0 a.1 in
            absurd (omega (arith, e, f, g))
        | inr (inl f) ↦ absurd (omega (arith, e, f))
        | inr (inr i) ↦
            let a = mapped (λ s. reference_place defs types s) (range_with_len 0 n) o i in
            let f = a.2 in
            absurd (omega (arith, e, f))
      ]

  pub record NumberWord : Type 0 where
    pub old : Word
    pub there : slice_get words (number_place defs types s / 4) ≡ Some old
    pub no_refer : (r : Option ℕ) → old ≡ Refer r → ⊥
    pub plainly : word_at words (pos (number_place defs types s)) >>= plain ≡ Found old
    pub number : (j : Kind) → form_of (of_kind j) ≡ AsNumber → (z : ℤ) × (number_at j words (pos (number_place defs types s)) ≡ Found z)

  number_read : (j : Kind) → form_of (of_kind j) ≡ AsNumber → (w : Word) → slice_get words (number_place defs types s / 4) ≡ Some w
      → ((r : Option ℕ) → w ≡ Refer r → ⊥) → (z : ℤ) × (number_at j words (pos (number_place defs types s)) ≡ Found z)
  number_read kind.Byte form w e none =
      let z = has_number w none in (
        pos (slice_index (bytes_of z.0) (number_place defs types s % 4)),
        ap (λ (a : Access ℤ). a >>= λ y. Found (pos (slice_index (bytes_of y) (number_place defs types s % 4))))
            (ap (λ (o : Option Word). or_wrong type_check o >>= number_in) e ∙ z.1),
      )
  number_read kind.Int form w e none =
      let z = has_number w none in
      (z.0, ap (λ (a : Access Word). a >>= number_in) (word_there words (number_place defs types s) w (omega arith) e) ∙ z.1)
  number_read kind.Big form w e none = absurd cc

  pub number_word : NumberWord
  number_word =
      let many = are.many in
      let old = is_there words (number_place defs types s / 4) (omega (arith, many, l)) in
      let no : (r : Option ℕ) → old.0 ≡ Refer r → ⊥ = λ r e.
      no_reference (4 * (number_place defs types s / 4))
      (are.only (number_place defs types s / 4) r (old.1 ∙ ap (λ (w : Word). Some w) e)) (omega arith) in
      record {
        old = old.0;
        there = old.1;
        no_refer = no;
        plainly = ap (λ (a : Access Word). a >>= plain) (word_there words (number_place defs types s) old.0 (omega arith) old.1) ∙ is_plain old.0 no;
        number = λ j form. number_read j form old.0 old.1 no;
      }

-- ---- a number comes

module _ (m : typed.Module) (k : Facts) (i : ℕ) (x : World) (p : code.Process) (q : Process) (r : Ready m k i x p q) (s : ℕ) (l : s < length p.frame.slots)
    (clean : IsClean (held.slot r.stands.is.known s)) where
  abbrev types : List Ty
  types = types_of m r.stands.is.function

  abbrev n_at : ℕ
  n_at = number_place m.adts types s

  pub at_rest : IsAtRest m.adts k q.frame.words (reference_place m.adts types s) (r.stands.is.words.own s)
  at_rest =
      rests m.adts k x q.frame.serial q.frame.words n_at (reference_place m.adts types s) (held.slot r.stands.is.known s)
      (core.slot p.frame.slots s) (r.stands.is.words.own s) clean
      (slot_is m k i x [] p.frame q.frame r.stands.is s l (λ e. e))

  pub old_word : NumberWord m.adts types (length p.frame.slots) q.frame.words r.stands.is.words.laid r.stands.is.words.kind s l
  old_word = number_word m.adts types (length p.frame.slots) q.frame.words r.stands.is.words.laid r.stands.is.words.kind s l

  module _ (others : List Word) (size : ℕ) (small : size ≤ 4) (changes : Changes q.frame.words others n_at size) (ranged : AreInRange others) where
    else_as_was : ElseAsWas q.frame.words others n_at 8
    else_as_was = record {
      each = λ w no. elim (low_or_high (4 * w) n_at) [
        | inl low ↦ changes.words w (inl (omega (arith, low)))
        | inr high ↦ elim (low_or_high (4 * w) (n_at + 8)) [
          | inl within ↦ absurd (no (high, within))
          | inr past ↦ changes.words w (inr (omega (arith, past, small)))
        ]
      ];
    }

    -- what lies in front, and the word that refers, are as they were
    stays : (at : ℕ) → (4 * (at / 4) + 4 ≤ n_at) ⊎ (n_at + 4 ≤ 4 * (at / 4)) → word_at others (pos at) ≡ word_at q.frame.words (pos at)
    stays at (inl low) = word_same q.frame.words others at (changes.words (at / 4) (inl low))
    stays at (inr high) = word_same q.frame.words others at (changes.words (at / 4) (inr (omega (arith, high, small))))

    still_idle : RefersIdly m.adts k others (reference_place m.adts types s)
    still_idle = let h = at_rest.0 in (h.0, stays (reference_place m.adts types s) (inr (omega arith)) ∙ h.1, h.2)

    kind_stays : AreOf (frame_bytes m.adts types (length p.frame.slots)) (frame_references m.adts types (length p.frame.slots)) others
    kind_stays =
        kinds_stay.all (frame_bytes m.adts types (length p.frame.slots)) (frame_references m.adts types (length p.frame.slots)) q.frame.words others
        r.stands.is.words.kind changes.many changes.refer changes.referred ranged

    module _ (j : Kind) (form : form_of (of_kind j) ≡ AsNumber) (z : ℤ) (live : List ℕ) (found : number_at j others (pos n_at) ≡ Found z)
        (range : InRange j z) where
      slot_stands : SlotStands m.adts k x.heap q.frame.serial others n_at (reference_place m.adts types s) (Of (of_kind j) live) (Holds (Num z)) []
      slot_stands =
          a_value others n_at (reference_place m.adts types s) (of_kind j) live (Num z)
          (subst (λ f. ValueStands m.adts k others n_at (reference_place m.adts types s) f (of_kind j) (Num z)) (sym form)
          (a_number n_at j z found range, still_idle))
          (λ a b e. absurd cc)

      pub ready_put : (to : ℕ) → to ≡ place_of m r.stands.is.number r.stands.is.function (suc p.frame.pc)
          → GoesOn m r.stands.is.function (suc p.frame.pc) (held.put r.stands.is.known s (Of (of_kind j) live))
          → Ready m k i x (at_slots m k i x p q r (suc p.frame.pc) (core.put p.frame.slots s (Holds (Num z)))) (at_words m k i x p q r to others)
      ready_put to there goes =
          let are = r.stands.is.words in
          let owned = (frames_later m.adts k x.heap q.frame.serial [] types r.stands.is.known p.frame.variables p.frame.slots q.frame.words are).owned in
          let after = slots_change.slot m.adts k k x.heap x.heap q.frame.serial [] types r.stands.is.known p.frame.variables p.frame.slots
          q.frame.words others s (Of (of_kind j) live) (Holds (Num z)) [] are
          (record { facts = λ n f e. e; makers = λ n j e. e; forms = λ n o e. e }) l else_as_was kind_stays slot_stands tt
          (λ u b ne h. (λ e. e, ((owned u b h).0, refl))) in
          ready_on m k i x p q r (suc p.frame.pc) to (held.put r.stands.is.known s (Of (of_kind j) live)) (core.put p.frame.slots s (Holds (Num z))) others
          (put_long p.frame.slots s (Holds (Num z))) after.after
          (λ u b h. elim (low_or_high u s) [
            | inl low ↦ r.stands.is.mine u b (subst (λ o. Has o b) (after.elsewhere u (λ e. omega (arith, e, low))) h)
            | inr high ↦ elim (low_or_high s u) [
              | inl more ↦ r.stands.is.mine u b (subst (λ o. Has o b) (after.elsewhere u (λ e. omega (arith, e, more))) h)
              | inr less ↦
                  let same : u ≡ s = omega (arith, high, less) in
                  absurd (subst (λ o. Has o b) (ap after.after.own same ∙ after.here) h)
            ]
          ])
          goes there
          (stays answer_place (inl (omega arith)))
          (stays (spare_place m.adts types) (inl (omega arith)))
