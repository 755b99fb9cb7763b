-- A row's last instruction puts a value into the words of a slot that names nothing, and may have made a block: then both are ready.
use Rattle.std.proofs.Common.{◌≡◌, ℕ, suc, pos, ◌+◌, ◌*◌, ◌/◌, ◌<◌, ◌≤◌, List, [], ◌∷◌, length, Option, Some, sym, ap, ◌∙◌, subst, arith, inl, inr}
use Rattle.process_model.specs.Process.{Went}
use Rattle.heap_model.specs.Facts.{Free}
use Rattle.limbo_types.specs.Types.{Ty}
use Rattle.limbo_layout.specs.Adts.{Has}
use Rattle.limbo_typed.specs.Typed as typed
use Rattle.limbo_meaning.specs.Process.{Shared}
use Rattle.limbo_meaning.specs.Values.{Value}
use Rattle.system_model.specs.Limits.{frames_limit}
use Rattle.core_code.specs.Machine as code
use Rattle.core_code.specs.Slots as core
use Rattle.core_code.specs.Slots.{Holds}
use Rattle.core_typing.specs.Held as held
use Rattle.core_typing.specs.Held.{Held, Of}
use Rattle.dis_isa.specs.declared.inst.Inst.{Inst}
use Rattle.dis_meaning.specs.Words.{Word, Refer, Found, word_at}
use Rattle.dis_meaning.specs.Process.{Process}
use Rattle.dis_memory.specs.Blocks.{Block, World, with_block, next_serial}
use Rattle.value_words.specs.Contents.{AreInRange}
use Rattle.value_words.specs.Facts.{Facts, Grows}
use Rattle.value_frames.specs.Frames.{answer_place, spare_place, number_place, reference_place, frame_bytes, frame_references}
use Rattle.value_frames.specs.Types.{AreOf}
use Rattle.value_frames.specs.Standing.{SlotStands, WordsAre}
use Rattle.value_frames.specs.Slots.{ElseAsWas, IsKept}
use Rattle.value_frames.specs.Later.{AreMadeBy}
use Rattle.value_frames.proofs.Slots.{slots_change, put_long}
use Rattle.value_frames.proofs.Replacing.{kinds_stay}
use Rattle.value_frames.proofs.Later.{frames_later}
use Rattle.value_moves.specs.Changing.{Changes}
use Rattle.value_moves.specs.Operands.{own}
use Rattle.value_moves.proofs.Changing.{low_or_high}
use Rattle.value_moves.proofs.Leading.{spots_lead}
use Rattle.value_code.specs.Objects.{object_of}
use Rattle.number_effects.specs.Giving.{with_word}
use Rattle.number_effects.specs.Stepping.{Reaches}
use Rattle.number_effects.proofs.Giving.{results_go}
use Rattle.number_effects.proofs.Stepping.{steps_obey}
use Rattle.block_effects.proofs.Giving.{stores_behind}
use Rattle.block_effects.specs.Stored.{Comes, ReferenceThere, AfterBlock}
use Rattle.value_follows.specs.Stands.{types_of, GoesOn, place_of, Awaited, Ready}
use Rattle.value_follows.specs.Sides.{sides, HoldTheSame}
use Rattle.value_follows.specs.Rows.{Base}
use Rattle.value_follows.proofs.Putting.{word_same}
use Rattle.value_follows.proofs.Single.{Once}
use Rattle.value_follows.proofs.Several.{moved_to}
use Rattle.value_follows.proofs.Waiting.{stands_anew}
use Rattle.rows_lists.proofs.New.{IsMade}
use Rattle.rows_lists.proofs.OnTheWay.{On, stands, goes_so}

-- the other behind its step
abbrev pub put_on : code.Process → (into : ℕ) → core.Slot → code.Process
put_on p s v = code.with_frames p (code.at p.frame (suc p.frame.pc) p.frame.variables (core.put p.frame.slots s v)) p.below

module _ (m : typed.Module) (k now : Facts) (i : ℕ) (x y : World) (busy : List ℕ) (n : ℕ) (f : typed.Function) (j : ℕ) (p : code.Process)
    (q : Process) (on : On m k i x busy n f j p q) (s : ℕ) (l : s < length p.frame.slots) (only : held.without s busy ≡ [])
    (grows : Grows k now) (more : x.outside.frames ≤ y.outside.frames)
    (keeps : (b : ℕ) → Free k b → k.maker b ≡ Some i → IsKept now x.heap y.heap b) where
  abbrev types : List Ty
  types = types_of m f

  abbrev n_at : ℕ
  n_at = number_place m.adts types s

  abbrev r_at : ℕ
  r_at = reference_place m.adts types s

  module _ (others : List Word) (else_as_was : ElseAsWas q.frame.words others n_at 8)
      (kind : AreOf (frame_bytes m.adts types (length p.frame.slots)) (frame_references m.adts types (length p.frame.slots)) others) where
    -- what lies in front is as it was
    stays : (at : ℕ) → 4 * (at / 4) + 4 ≤ n_at → word_at others (pos at) ≡ word_at q.frame.words (pos at)
    stays at low = word_same q.frame.words others at (else_as_was.each (at / 4) (λ h. let a = h.0 in absurd (omega (arith, a, low))))

    module _ (h : Held) (v : core.Slot) (here : SlotStands m.adts now y.heap q.frame.serial others n_at r_at h v []) where
      abbrev slots : core.Slots
      slots = core.put p.frame.slots s v

      record Changed (then : List ℕ) : Type 0 where
        words : WordsAre m.adts now y.heap q.frame.serial then types (held.put on.known s h) p.frame.variables slots others
        mine : AreMadeBy now i words.own

      changed : Changed (held.without s busy)
      changed =
          let are = on.words in
          let owned = (frames_later m.adts k x.heap q.frame.serial busy types on.known p.frame.variables p.frame.slots q.frame.words are).owned in
          let after = slots_change.slot m.adts k now x.heap y.heap q.frame.serial busy types on.known p.frame.variables p.frame.slots
          q.frame.words others s h v [] are grows l else_as_was kind here tt
          (λ u b ne h. (λ e. e, keeps b (owned u b h).0 (on.mine u b h))) in
          record {
            words = after.after;
            mine = λ u b h. elim (low_or_high u s) [
              | inl low ↦ grows.makers b i (on.mine u b (subst (λ o. Has o b) (after.elsewhere u (λ e. omega (arith, e, low))) h))
              | inr high ↦ elim (low_or_high s u) [
                | inl more ↦ grows.makers b i (on.mine u b (subst (λ o. Has o b) (after.elsewhere u (λ e. omega (arith, e, more))) h))
                | inr less ↦
                    let same : u ≡ s = omega (arith, high, less) in
                    absurd (subst (λ o. Has o b) (ap after.after.own same ∙ after.here) h)
              ]
            ];
          }

      pub ready_behind : (to : ℕ) → to ≡ place_of m n f (suc p.frame.pc) → GoesOn m f (suc p.frame.pc) (held.put on.known s h)
          → Ready m now i y (put_on p s v) (moved_to q to others)
      ready_behind to there goes =
          let c = subst Changed only changed in
          let anew = stands_anew m k now i x y busy Awaited p q (stands m k i x busy n f j p q on) grows more (λ b free made other. keeps b free made)
          [] (suc p.frame.pc) to (held.put on.known s h) p.frame.variables slots others q.made (put_long p.frame.slots s v) c.words c.mine goes
          (stays answer_place (omega arith)) in
          record {
            stands = anew.stands;
            pc = there ∙ ap (λ (g : typed.Function). place_of m n g (suc p.frame.pc)) (sym anew.function)
                ∙ ap (λ (l : ℕ). place_of m l anew.stands.is.function (suc p.frame.pc)) (sym anew.number);
            spare =
                ap (λ (g : typed.Function). word_at others (pos (spare_place m.adts (types_of m g)))) anew.function
                ∙ stays (spare_place m.adts types) (omega arith) ∙ on.spare;
            none_made = on.none_made;
          }

  -- it is the slot's word that refers
  module _ (others : List Word) (changes : Changes q.frame.words others r_at 4) (ranged : AreInRange others) where
    refer_else : ElseAsWas q.frame.words others n_at 8
    refer_else = record {
      each = λ w no. elim (low_or_high (4 * w) n_at) [
        | inl low ↦ changes.words w (inl (omega (arith, low)))
        | inr high ↦ elim (low_or_high (4 * w) (n_at + 8)) [
          | inl within ↦ absurd (no (high, within))
          | inr past ↦ changes.words w (inr (omega (arith, past)))
        ]
      ];
    }

    refer_kind : AreOf (frame_bytes m.adts types (length p.frame.slots)) (frame_references m.adts types (length p.frame.slots)) others
    refer_kind =
        kinds_stay.all (frame_bytes m.adts types (length p.frame.slots)) (frame_references m.adts types (length p.frame.slots)) q.frame.words others
        on.words.kind changes.many changes.refer changes.referred ranged

    pub ready_referring : (h : Held) (v : core.Slot) → SlotStands m.adts now y.heap q.frame.serial others n_at r_at h v [] → (to : ℕ)
        → to ≡ place_of m n f (suc p.frame.pc) → GoesOn m f (suc p.frame.pc) (held.put on.known s h)
        → Ready m now i y (put_on p s v) (moved_to q to others)
    ready_referring = ready_behind others refer_else refer_kind

-- ---- a reference to a new block comes

module _ (m : typed.Module) (b : Base m) (k : Facts) (i : ℕ) (w : Shared) (x : World) (busy : List ℕ) (n : ℕ) (f : typed.Function) (j : ℕ)
    (p : code.Process) (q : Process) (on : On m k i x busy n f j p q) (hold : HoldTheSame m k i x p q) (worlds : (sides m).worlds k w x)
    (s : ℕ) (l : s < length p.frame.slots) (only : held.without s busy ≡ []) where
  abbrev pub at_reference : ℕ
  at_reference = reference_place m.adts (types_of m f) s

  abbrev pub reference_there : (old : Option ℕ) → word_at q.frame.words (pos at_reference) ≡ Found (Refer old) → ReferenceThere x q (own at_reference)
  reference_there old e =
      record { words = q.frame.words; byte = at_reference; leads = (spots_lead.own x q at_reference).0; old = old; stands = e }

  module _ (inst : Inst) (is : Reaches (object_of m ∷ []) x q (object_of m) inst) (old : Option ℕ)
      (before : word_at q.frame.words (pos at_reference) ≡ Found (Refer old))
      (new : Block) (comes : Comes frames_limit (object_of m) x q inst (AfterBlock x q (reference_there old before) new)) where
    -- In worlds in which what was made is known, the slot stands for a value, which the other put there, too.
    pub block_comes : (now : Facts) (v : Shared) → IsMade m k now i x new → (sides m).worlds now v (with_block x new)
        → (t : Ty) (live : List ℕ) (value : Value)
        → ((words : List Word) → word_at words (pos at_reference) ≡ Found (Refer (Some (next_serial x)))
        → SlotStands m.adts now (with_block x new).heap q.frame.serial words (number_place m.adts (types_of m f) s) at_reference (Of t live) (Holds value) [])
        → suc q.frame.pc ≡ place_of m n f (suc p.frame.pc) → GoesOn m f (suc p.frame.pc) (held.put on.known s (Of t live))
        → (sides m).program.step w p ≡ Went v (put_on p s (Holds value)) → Once m b i p q k w x
    block_comes now v made worlds' t live value here next goes does =
        let word = Refer (Some (next_serial x)) in
        let others = with_word q.frame.words at_reference word in
        let stored = results_go.block x q (own at_reference) q.frame.words at_reference (spots_lead.own x q at_reference).0 old new before in
        goes_so m b i p q busy n f j k now w v x (with_block x new) hold worlds made.changes worlds' (put_on p s (Holds value))
        (moved_to q (suc q.frame.pc) others)
        (steps_obey.stores frames_limit (object_of m ∷ []) x q (object_of m) inst (with_block x new) _ others _ is comes
        (stores_behind x q new (reference_there old before).leads.place others _ ((spots_lead.own x q at_reference).1 others)))
        does
        (ready_referring m k now i x (with_block x new) busy n f j p q on s l only made.changes.0.grows made.changes.1 made.keeps
        others stored.0.changes (stored.0.ranged (λ z e. absurd cc) on.words.kind.ranged) (Of t live) (Holds value) (here others stored.0.there)
        (suc q.frame.pc) next goes)
