-- A slot that names nothing comes to be busy: its words may be any until the row's last instruction.
use Rattle.std.proofs.Common.{◌≡◌, ℕ, Bool, if◌then◌else◌, suc, pos, ◌+◌, ◌*◌, ◌/◌, ◌<◌, ◌≤◌, List, [], ◌∷◌, length, Option, Some, None, refl, ap, ◌∙◌, subst, arith, inl, inr}
use Rattle.std.specs.Prelude.{slice_get}
use Rattle.heap_model.specs.Heap.{Heap}
use Rattle.limbo_types.specs.Types.{Ty}
use Rattle.limbo_layout.specs.Adts.{Def, Has}
use Rattle.limbo_typed.specs.Typed as typed
use Rattle.limbo_meaning.specs.Values.{references, among}
use Rattle.core_code.specs.Machine as code
use Rattle.core_code.specs.Slots as core
use Rattle.core_code.specs.Slots.{Slot, Holds, Turns, slot_names, regions_name}
use Rattle.core_typing.specs.Held as held
use Rattle.core_typing.specs.Held.{Held, Of, Decided}
use Rattle.core_typing.specs.Needs.{IsClean}
use Rattle.dis_meaning.specs.Words.{Word, word_at}
use Rattle.dis_meaning.specs.Process.{Process}
use Rattle.dis_memory.specs.Blocks.{Block, World}
use Rattle.value_words.specs.Contents.{AreInRange}
use Rattle.value_words.specs.Facts.{Facts}
use Rattle.value_words.proofs.Covered.{same_names}
use Rattle.value_frames.specs.Frames.{answer_place, spare_place, number_place, reference_place, frame_bytes, frame_references}
use Rattle.value_frames.specs.Types.{AreOf}
use Rattle.value_frames.specs.Standing.{SlotStands, ChainStands, a_value, a_forming, a_decision, a_loop, no_chain, a_chain}
use Rattle.value_frames.specs.Slots.{ElseAsWas}
use Rattle.value_frames.proofs.Slots.{slots_change}
use Rattle.value_frames.proofs.Later.{frames_later}
use Rattle.value_frames.proofs.Replacing.{kinds_stay}
use Rattle.value_moves.specs.Changing.{Changes}
use Rattle.value_moves.proofs.Changing.{low_or_high}
use Rattle.value_follows.specs.Stands.{types_of, place_of, Awaited}
use Rattle.value_follows.specs.Rooted.{BusyLead}
use Rattle.value_follows.proofs.Putting.{word_same, at_rest}
use Rattle.value_follows.proofs.Several.{moved_to}
use Rattle.value_follows.proofs.Slots.{slot_is}
use Rattle.value_follows.proofs.Standing.{all_wait}
use Rattle.rows_lists.proofs.OnTheWay.{On, frame_is, back}

-- ---- a slot that names nothing names nothing

none_among : (rs : List (Option ℕ)) → ((k n : ℕ) → slice_get rs k ≡ Some (Some n) → ⊥) → (n : ℕ) → among n rs ≡ 0
none_among [] free n = refl
none_among (None ∷ rs) free n = let h = none_among rs (λ k. free (suc k)) n in omega (arith, h)
none_among (Some m ∷ rs) free n = absurd (free 0 m refl)

module _ (defs : List Def) (k : Facts) (x : Heap Block) (frame : ℕ) where
  unchained : (words : List Word) (p : ℕ) (gs : held.Regions) (rs : core.Regions) (own : List ℕ) → ChainStands defs k x frame words p gs rs own
      → gs ≡ held.NoRegion → (n : ℕ) → regions_name rs n ≡ 0
  unchained _ _ _ _ _ (no_chain words p e) f n = refl
  unchained _ _ _ _ _ (a_chain words inner p b last h hs g gs own more is e r t) f n = absurd cc

  no_regions : (gs : held.Regions) → IsClean (held.Turns gs) → gs ≡ held.NoRegion
  no_regions held.NoRegion clean = refl
  no_regions (held.MoreRegions g gs) clean = absurd clean

  pub names_nothing : (words : List Word) (n_at r_at : ℕ) (h : Held) (l : Slot) (own : List ℕ) → SlotStands defs k x frame words n_at r_at h l own
      → IsClean h → (n : ℕ) → slot_names l n ≡ 0
  names_nothing _ _ _ _ _ _ (a_value words n_at r_at t live v stands names) clean n =
      none_among (references v) (λ k n e. subst (λ (ns : List ℕ). held.Has ns k) clean (names k n e)) n
  names_nothing _ _ _ _ _ _ (a_forming words inner n_at r_at b t v ks us live vs is f) clean n = absurd clean
  names_nothing _ _ _ _ _ _ (a_decision words n_at r_at b e r) clean n = refl
  names_nothing _ _ _ _ _ _ (a_loop words n_at r_at next gs rs own e chain) clean n =
      unchained words r_at gs rs own chain (no_regions gs clean) n

module _ (m : typed.Module) (k : Facts) (i : ℕ) (x : World) (n : ℕ) (f : typed.Function) (j : ℕ) (p : code.Process) (q : Process)
    (on : On m k i x [] n f j p q) (s : ℕ) (l : s < length p.frame.slots) (clean : IsClean (held.slot on.known s)) where
  abbrev types : List Ty
  types = types_of m f

  abbrev n_at : ℕ
  n_at = number_place m.adts types s

  pub unnamed : (o : ℕ) → slot_names (core.slot p.frame.slots s) o ≡ 0
  unnamed =
      names_nothing m.adts k x.heap q.frame.serial q.frame.words n_at (reference_place m.adts types s) (held.slot on.known s)
      (core.slot p.frame.slots s) (on.words.own s) (slot_is m k i x [] p.frame q.frame (frame_is m k i x [] n f j p q on) s l (λ e. e)) clean

  -- so what is busy leads to all that it names
  pub nothing_to_lead : (r : Process) → BusyLead m k i x (s ∷ []) p r
  nothing_to_lead r t o (inl e) named =
      let none = subst (λ (t : ℕ). slot_names (core.slot p.frame.slots t) o ≡ 0) e (unnamed o) in absurd (omega (arith, none, named))
  nothing_to_lead r t o (inr h) named = absurd h

  -- it owns nothing
  bare : on.words.own s ≡ []
  bare = (at_rest m k i x p (moved_to q (place_of m n f p.frame.pc) q.frame.words) (back m k i x n f j p q on) s l clean).1

  pub busied : (others : List Word) → ElseAsWas q.frame.words others n_at 8
      → AreOf (frame_bytes m.adts types (length p.frame.slots)) (frame_references m.adts types (length p.frame.slots)) others
      → On m k i x (s ∷ []) n f (suc j) p (moved_to q (suc q.frame.pc) others)
  busied others else_as_was kind =
      let are = on.words in
      let owned = (frames_later m.adts k x.heap q.frame.serial [] types on.known p.frame.variables p.frame.slots q.frame.words are).owned in
      let after = slots_change.leaves m.adts k k x.heap x.heap q.frame.serial [] types on.known p.frame.variables p.frame.slots q.frame.words others s
      are (record { facts = λ n f e. e; makers = λ n j e. e; forms = λ n o e. e }) bare else_as_was kind
      (λ u b h. ((owned u b h).0, refl)) in
      let at = on.pc in
      record {
        process = on.process;
        there = on.there;
        code = on.code;
        answer = on.answer;
        many = on.many;
        instance = on.instance;
        formed = on.formed;
        known = on.known;
        words = after.0;
        mine = λ u b h. on.mine u b (subst (λ (o : ℕ → List ℕ). Has (o u) b) after.1 h);
        fresh = on.fresh;
        goes = on.goes;
        waits = all_wait m k i x Awaited p.frame.answer q.frame (moved_to q (suc q.frame.pc) others).frame p.below q.below refl
            (stays answer_place (omega arith)) on.waits;
        pc = omega (arith, at);
        spare = stays (spare_place m.adts types) (omega arith) ∙ on.spare;
        none_made = on.none_made;
      }
    where
      stays : (at : ℕ) → 4 * (at / 4) + 4 ≤ n_at → word_at others (pos at) ≡ word_at q.frame.words (pos at)
      stays at low = word_same q.frame.words others at (else_as_was.each (at / 4) (λ h. let a = h.0 in absurd (omega (arith, a, low))))

  -- it is the slot's word that refers
  pub busied_referring : (others : List Word) → Changes q.frame.words others (reference_place m.adts types s) 4 → AreInRange others
      → On m k i x (s ∷ []) n f (suc j) p (moved_to q (suc q.frame.pc) others)
  busied_referring others changes ranged =
      busied others
      (record {
        each = λ w out. elim (low_or_high (4 * w) n_at) [
          | inl low ↦ changes.words w (inl (omega (arith, low)))
          | inr high ↦ elim (low_or_high (4 * w) (n_at + 8)) [
            | inl within ↦ absurd (out (high, within))
            | inr past ↦ changes.words w (inr (omega (arith, past)))
          ]
        ];
      })
      (kinds_stay.all (frame_bytes m.adts types (length p.frame.slots)) (frame_references m.adts types (length p.frame.slots)) q.frame.words others
      on.words.kind changes.many changes.refer changes.referred ranged)

  -- or that of its number
  pub busied_counting : (others : List Word) → Changes q.frame.words others n_at 4 → AreInRange others
      → On m k i x (s ∷ []) n f (suc j) p (moved_to q (suc q.frame.pc) others)
  busied_counting others changes ranged =
      busied others
      (record {
        each = λ w out. elim (low_or_high (4 * w) n_at) [
          | inl low ↦ changes.words w (inl (omega (arith, low)))
          | inr high ↦ elim (low_or_high (4 * w) (n_at + 8)) [
            | inl within ↦ absurd (out (high, within))
            | inr past ↦ changes.words w (inr (omega (arith, past)))
          ]
        ];
      })
      (kinds_stay.all (frame_bytes m.adts types (length p.frame.slots)) (frame_references m.adts types (length p.frame.slots)) q.frame.words others
      on.words.kind changes.many changes.refer changes.referred ranged)

-- it is the only busy one
pub busy_alone : (s : ℕ) → held.without s (s ∷ []) ≡ []
busy_alone s = ap (λ (b : Bool). if b then [] else s ∷ []) (same_names s)
