-- What the slot of a loop has, and that its number may be another.
use Rattle.std.proofs.Common.{◌≡◌, ℕ, zero, suc, pos, ◌+◌, ◌*◌, ◌/◌, ◌<◌, ◌≤◌, List, [], ◌∷◌, length, refl, sym, ap, ◌∙◌, subst, arith, inl, inr}
use Rattle.std.specs.Prelude.{slice_set, slice_index_or}
use Rattle.heap_model.specs.Heap.{Heap}
use Rattle.limbo_layout.specs.Adts.{Def, Has}
use Rattle.limbo_types.specs.Types.{Ty}
use Rattle.limbo_typed.specs.Typed as typed
use Rattle.core_code.specs.Machine as code
use Rattle.core_code.specs.Slots as core
use Rattle.core_code.specs.Slots.{Slot, Turns, next_of, chain_of}
use Rattle.core_typing.specs.Held as held
use Rattle.core_typing.specs.Needs.{IsLoop}
use Rattle.dis_meaning.specs.Words.{Word, Plain, Found, word_at}
use Rattle.dis_meaning.specs.Process.{Process}
use Rattle.dis_memory.specs.Blocks.{Block, World}
use Rattle.value_words.specs.Contents.{AreInRange}
use Rattle.value_words.specs.Facts.{Facts}
use Rattle.value_frames.specs.Frames.{answer_place, spare_place, number_place, reference_place, frame_bytes, frame_references}
use Rattle.value_frames.specs.Types.{AreOf}
use Rattle.value_frames.specs.Standing.{SlotStands, ChainStands, a_loop, no_chain, a_chain}
use Rattle.value_frames.specs.Slots.{ElseAsWas}
use Rattle.value_frames.proofs.Slots.{slots_change, put_long}
use Rattle.value_frames.proofs.Later.{frames_later}
use Rattle.value_frames.proofs.Replacing.{kinds_stay}
use Rattle.value_frames.proofs.Rest.{slots_rest}
use Rattle.value_moves.specs.Changing.{Changes}
use Rattle.value_moves.proofs.Changing.{low_or_high}
use Rattle.value_follows.specs.Stands.{types_of, place_of, GoesOn, Ready}
use Rattle.value_follows.proofs.Putting.{word_same}
use Rattle.value_follows.proofs.Several.{moved_to}
use Rattle.value_follows.proofs.Slots.{slot_is}
use Rattle.value_follows.proofs.Standing.{ready_on}
use Rattle.rows_lists.proofs.OnTheWay.{On, frame_is, back}
use Rattle.rows_lists.proofs.Coming.{put_on}

-- what stands in a list, put there again, changes nothing
pub put_again : {A : Type 0} (xs : List A) (s : ℕ) (d : A) → s < length xs → slice_set xs s (slice_index_or xs s d) ≡ xs
put_again [] s d l = absurd (omega (arith, l))
put_again (x ∷ xs) zero d l = refl
put_again (x ∷ xs) (suc s) d l = ap (λ ys. x ∷ ys) (put_again xs s d (omega (arith, l)))

module _ (defs : List Def) (k : Facts) (x : Heap Block) (frame : ℕ) where
  -- a chain is the same where the word that refers to it is
  pub chain_as : (others : List Word) (words : List Word) (p : ℕ) (gs : held.Regions) (rs : core.Regions) (own : List ℕ)
      → word_at others (pos p) ≡ word_at words (pos p) → ChainStands defs k x frame words p gs rs own → ChainStands defs k x frame others p gs rs own
  chain_as others _ _ _ _ _ same (no_chain words p e) = no_chain others p (same ∙ e)
  chain_as others _ _ _ _ _ same (a_chain words inner p b last h hs g gs own more is l r t) =
      a_chain others inner p b last h hs g gs own more
      (record { word = same ∙ is.word; there = is.there; free = is.free; formed = is.formed; kind = is.kind }) l r t

module _ (defs : List Def) (k : Facts) (x : Heap Block) (frame : ℕ) where
  -- also from another place
  pub chain_at : (others : List Word) (words : List Word) (p to : ℕ) (gs : held.Regions) (rs : core.Regions) (own : List ℕ)
      → word_at others (pos to) ≡ word_at words (pos p) → ChainStands defs k x frame words p gs rs own → ChainStands defs k x frame others to gs rs own
  chain_at others _ _ to _ _ _ same (no_chain words p e) = no_chain others to (same ∙ e)
  chain_at others _ _ to _ _ _ same (a_chain words inner p b last h hs g gs own more is l r t) =
      a_chain others inner to b last h hs g gs own more
      (record { word = same ∙ is.word; there = is.there; free = is.free; formed = is.formed; kind = is.kind }) l r t

module _ (m : typed.Module) (k : Facts) (i : ℕ) (x : World) (n : ℕ) (f : typed.Function) (j : ℕ) (p : code.Process) (q : Process)
    (on : On m k i x [] n f j p q) (s : ℕ) (l : s < length p.frame.slots) (is : IsLoop on.known s) where
  abbrev types : List Ty
  types = types_of m f

  abbrev n_at : ℕ
  n_at = number_place m.adts types s

  abbrev r_at : ℕ
  r_at = reference_place m.adts types s

  abbrev here : Slot
  here = core.slot p.frame.slots s

  -- its number is the index that comes next, and its word refers to the chain
  pub record LoopIs : Type 0 where
    pub holds : here ≡ Turns (next_of here) (chain_of here)
    pub number : word_at q.frame.words (pos n_at) ≡ Found (Plain (pos (next_of here)))
    pub chain : ChainStands m.adts k x.heap q.frame.serial q.frame.words r_at is.0 (chain_of here) (on.words.own s)

  pub loop_is : LoopIs
  loop_is =
      let stands = subst (λ h. SlotStands m.adts k x.heap q.frame.serial q.frame.words n_at r_at h here (on.words.own s)) is.1
      (slot_is m k i x [] p.frame q.frame (frame_is m k i x [] n f j p q on) s l (λ e. e)) in
      let a = slots_rest.is_loop m.adts k x.heap q.frame.serial q.frame.words n_at r_at is.0 here (on.words.own s) stands in
      let e : here ≡ Turns a.0 a.1 = a.2 in
      let next : a.0 ≡ next_of here = sym (ap next_of e) in
      let chain : a.1 ≡ chain_of here = sym (ap chain_of e) in
      record {
        holds = e ∙ ap (λ (n : ℕ). Turns n a.1) next ∙ ap (Turns (next_of here)) chain;
        number = a.3 ∙ ap (λ (n : ℕ). Found (Plain (pos n))) next;
        chain = subst (λ rs. ChainStands m.adts k x.heap q.frame.serial q.frame.words r_at is.0 rs (on.words.own s)) chain a.4;
      }

  -- where its number is another both are ready behind the row
  module _ (others : List Word) (changes : Changes q.frame.words others n_at 4) (ranged : AreInRange others) (next : ℕ)
      (number : word_at others (pos n_at) ≡ Found (Plain (pos next))) where
    abbrev now : Slot
    now = Turns next (chain_of here)

    else_as_was : ElseAsWas q.frame.words others n_at 8
    else_as_was = record {
      each = λ w out. elim (low_or_high (4 * w) n_at) [
        | inl low ↦ changes.words w (inl (omega (arith, low)))
        | inr high ↦ elim (low_or_high (4 * w) (n_at + 8)) [
          | inl within ↦ absurd (out (high, within))
          | inr past ↦ changes.words w (inr (omega (arith, past)))
        ]
      ];
    }

    kind : AreOf (frame_bytes m.adts types (length p.frame.slots)) (frame_references m.adts types (length p.frame.slots)) others
    kind =
        kinds_stay.all (frame_bytes m.adts types (length p.frame.slots)) (frame_references m.adts types (length p.frame.slots)) q.frame.words others
        on.words.kind changes.many changes.refer changes.referred ranged

    stays : (at : ℕ) → 4 * (at / 4) + 4 ≤ n_at → word_at others (pos at) ≡ word_at q.frame.words (pos at)
    stays at low = word_same q.frame.words others at (changes.words (at / 4) (inl low))

    turned : SlotStands m.adts k x.heap q.frame.serial others n_at r_at (held.Turns is.0) now (on.words.own s)
    turned =
        a_loop others n_at r_at next is.0 (chain_of here) (on.words.own s) number
        (chain_as m.adts k x.heap q.frame.serial others q.frame.words r_at is.0 (chain_of here) (on.words.own s)
        (word_same q.frame.words others r_at (changes.words (r_at / 4) (inr (omega arith)))) loop_is.chain)

    pub turns_on : (to : ℕ) → to ≡ place_of m n f (suc p.frame.pc) → GoesOn m f (suc p.frame.pc) on.known
        → Ready m k i x (put_on p s now) (moved_to q to others)
    turns_on to there goes =
        let are = on.words in
        let owned = (frames_later m.adts k x.heap q.frame.serial [] types on.known p.frame.variables p.frame.slots q.frame.words are).owned in
        let after = slots_change.slot m.adts k k x.heap x.heap q.frame.serial [] types on.known p.frame.variables p.frame.slots
        q.frame.words others s (held.Turns is.0) now (are.own s) are
        (record { facts = λ n f e. e; makers = λ n j e. e; forms = λ n o e. e }) l else_as_was kind turned (are.single s)
        (λ u b ne h. (λ e. ne (are.apart u s b h e), ((owned u b h).0, refl))) in
        let many = are.as_many in
        let known : held.put on.known s (held.Turns is.0) ≡ on.known =
        ap (λ (h : held.Held). held.put on.known s h) (sym is.1) ∙ put_again on.known s held.empty (omega (arith, l, many)) in
        ready_on m k i x p (moved_to q (place_of m n f p.frame.pc) q.frame.words) (back m k i x n f j p q on) (suc p.frame.pc) to
        (held.put on.known s (held.Turns is.0)) (core.put p.frame.slots s now) others (put_long p.frame.slots s now) after.after
        (λ u b h. elim (low_or_high u s) [
          | inl low ↦ on.mine u b (subst (λ o. Has o b) (after.elsewhere u (λ e. omega (arith, e, low))) h)
          | inr high ↦ elim (low_or_high s u) [
            | inl more ↦ on.mine u b (subst (λ o. Has o b) (after.elsewhere u (λ e. omega (arith, e, more))) h)
            | inr less ↦
                let same : u ≡ s = omega (arith, high, less) in
                on.mine s b (subst (λ o. Has o b) (ap after.after.own same ∙ after.here) h)
          ]
        ])
        (subst (GoesOn m f (suc p.frame.pc)) (sym known) goes) there (stays answer_place (omega arith)) (stays (spare_place m.adts types) (omega arith))
