-- A slot that names nothing, on the way: it refers idly, leads to nothing, and comes to be busy.
use Rattle.std.proofs.Common.{◌≡◌, ℕ, suc, ◌<◌, List, [], ◌∷◌, length, Option, Some, None, refl, subst, arith}
use Rattle.std.specs.Prelude.{slice_get}
use Rattle.heap_model.specs.Heap.{Heap}
use Rattle.limbo_types.specs.Types.{Ty}
use Rattle.limbo_layout.specs.Adts.{Def}
use Rattle.limbo_typed.specs.Typed as typed
use Rattle.limbo_meaning.specs.Values.{references, among}
use Rattle.core_code.specs.Machine as code
use Rattle.core_code.specs.Slots as core
use Rattle.core_code.specs.Slots.{Slot, slot_names, regions_name}
use Rattle.core_typing.specs.Held as held
use Rattle.core_typing.specs.Held.{Held, Of, Forming, Decided}
use Rattle.core_typing.specs.Needs.{IsClean}
use Rattle.dis_meaning.specs.Words.{Word}
use Rattle.dis_meaning.specs.Process.{Process, at_pc, with_frames}
use Rattle.dis_memory.specs.Blocks.{Block, World}
use Rattle.value_words.specs.Facts.{Facts}
use Rattle.value_frames.specs.Frames.{number_place, reference_place}
use Rattle.value_frames.specs.Standing.{SlotStands, ChainStands, a_value, a_forming, a_decision, a_loop, no_chain, a_chain, WordsAre}
use Rattle.value_frames.specs.Rest.{IsAtRest}
use Rattle.value_frames.proofs.Slots.{slots_change}
use Rattle.value_frames.proofs.Later.{frames_later}
use Rattle.value_follows.specs.Stands.{types_of, place_of, Awaited, Ready}
use Rattle.value_follows.proofs.Putting.{at_rest}
use Rattle.value_follows.proofs.Slots.{slot_is}
use Rattle.value_follows.proofs.Standing.{all_wait}
use Rattle.rows_calling.proofs.OnTheWay.{On, frame_is}

none_among : (rs : List (Option ℕ)) → ((k n : ℕ) → slice_get rs k ≡ Some (Some n) → ⊥) → (n : ℕ) → among n rs ≡ 0
none_among [] free n = refl
none_among (None ∷ rs) free n = let h = none_among rs (λ k. free (suc k)) n in omega (arith, h)
none_among (Some m ∷ rs) free n = absurd (free 0 m refl)

module _ (defs : List Def) (k : Facts) (x : Heap Block) (frame : ℕ) where
  unchained : (words : List Word) (p : ℕ) (gs : held.Regions) (rs : core.Regions) (own : List ℕ) → ChainStands defs k x frame words p gs rs own
      → gs ≡ held.NoRegion → (n : ℕ) → regions_name rs n ≡ 0
  unchained _ _ _ _ _ (no_chain words p e) f n = refl
  unchained _ _ _ _ _ (a_chain words inner p b last h hs g gs own more is e r t) f n = absurd cc

  no_regions : (gs : held.Regions) → IsClean (held.Turns gs) → gs ≡ held.NoRegion
  no_regions held.NoRegion clean = refl
  no_regions (held.MoreRegions g gs) clean = absurd clean

  names_nothing : (words : List Word) (n_at r_at : ℕ) (h : Held) (l : Slot) (own : List ℕ) → SlotStands defs k x frame words n_at r_at h l own
      → IsClean h → (n : ℕ) → slot_names l n ≡ 0
  names_nothing _ _ _ _ _ _ (a_value words n_at r_at t live v stands names) clean n =
      none_among (references v) (λ k n e. subst (λ (ns : List ℕ). held.Has ns k) clean (names k n e)) n
  names_nothing _ _ _ _ _ _ (a_forming words inner n_at r_at b t variant ks us live vs own forming) clean n = absurd clean
  names_nothing _ _ _ _ _ _ (a_decision words n_at r_at b e r) clean n = refl
  names_nothing _ _ _ _ _ _ (a_loop words n_at r_at next gs rs own e chain) clean n =
      unchained words r_at gs rs own chain (no_regions gs clean) n

module _ (m : typed.Module) (k : Facts) (i : ℕ) (x : World) (n : ℕ) (f : typed.Function) (j : ℕ) (p : code.Process) (q : Process)
    (on : On m k i x [] n f j p q) where
  -- the machine's process at the begin of the row, without what it made
  abbrev back_there : Process
  back_there = with_frames q (at_pc q.frame (place_of m n f p.frame.pc)) q.below []

  back : Ready m k i x p back_there
  back = record {
    stands = record {
      number = on.process;
      is = record {
        number = n;
        function = f;
        there = on.there;
        code = on.code;
        answer = on.answer;
        many = on.many;
        instance = on.instance;
        formed = on.formed;
        known = on.known;
        words = on.words;
        mine = on.mine;
        fresh = on.fresh;
      };
      goes = on.goes;
      waits = all_wait m k i x Awaited p.frame.answer q.frame (at_pc q.frame (place_of m n f p.frame.pc)) p.below q.below refl refl on.waits;
    };
    pc = refl;
    spare = on.spare;
    none_made = refl;
  }

  module _ (s : ℕ) (l : s < length p.frame.slots) (clean : IsClean (held.slot on.known s)) where
    abbrev types : List Ty
    types = types_of m f

    pub unnamed : (o : ℕ) → slot_names (core.slot p.frame.slots s) o ≡ 0
    unnamed =
        names_nothing m.adts k x.heap q.frame.serial q.frame.words (number_place m.adts types s) (reference_place m.adts types s) (held.slot on.known s)
        (core.slot p.frame.slots s) (on.words.own s) (slot_is m k i x [] p.frame q.frame (frame_is m k i x [] n f j p q on) s l (λ e. e)) clean

    pub idly : IsAtRest m.adts k q.frame.words (reference_place m.adts types s) (on.words.own s)
    unfolding back
    idly = at_rest m k i x p back_there back s l clean

    -- it is busy
    pub busied : (after : WordsAre m.adts k x.heap q.frame.serial (s ∷ []) types on.known p.frame.variables p.frame.slots q.frame.words)
        × (after.own ≡ on.words.own)
    busied =
        let owned = (frames_later m.adts k x.heap q.frame.serial [] types on.known p.frame.variables p.frame.slots q.frame.words on.words).owned in
        slots_change.leaves m.adts k k x.heap x.heap q.frame.serial [] types on.known p.frame.variables p.frame.slots q.frame.words q.frame.words s
        on.words (record { facts = λ n f e. e; makers = λ n j e. e; forms = λ n o e. e }) idly.1 (record { each = λ w no. refl }) on.words.kind
        (λ u b h. ((owned u b h).0, refl))
