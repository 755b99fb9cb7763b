-- Slots that name nothing get other words, one after the other, while the machine's process is on its way through a row: numbers come there.
use Rattle.std.proofs.Common.{◌≡◌, ◌⊎◌, Bool, ℕ, ℤ, suc, pos, ◌+◌, ◌*◌, ◌/◌, ◌<◌, ◌≤◌, List, [], ◌∷◌, length, refl, ap, ◌∙◌, subst, arith, inl, inr}
use Rattle.process_model.specs.Process.{Went}
use Rattle.heap_model.specs.Heap.{Heap, at}
use Rattle.limbo_types.specs.Types as ty
use Rattle.limbo_types.specs.Types.{Ty}
use Rattle.limbo_layout.specs.Adts.{Def, Has}
use Rattle.limbo_layout.specs.Layout.{AllLaid}
use Rattle.limbo_layout.specs.Laying.{rooms_of}
use Rattle.limbo_values.specs.declared.number.Kind.TheVariants.{Int}
use Rattle.limbo_values.specs.Numbers.{InRange}
use Rattle.limbo_typed.specs.Typed as typed
use Rattle.limbo_meaning.specs.Values.{Value, Num}
use Rattle.system_model.specs.Limits.{frames_limit}
use Rattle.core_code.specs.Rooms.{rooms_in}
use Rattle.core_code.specs.Slots as core
use Rattle.core_code.specs.Slots.{Holds}
use Rattle.core_typing.specs.Held as held
use Rattle.core_typing.specs.Held.{Held, Of, Forming, Decided, Turns}
use Rattle.core_typing.specs.Needs.{IsClean}
use Rattle.dis_isa.specs.declared.inst.Inst.{Inst}
use Rattle.dis_isa.specs.declared.inst.Operand.TheVariants as operand
use Rattle.dis_isa.specs.declared.inst.Middle.TheVariants as middle
use Rattle.dis_isa.specs.declared.op.Op.TheVariants as op
use Rattle.dis_meaning.specs.Counts.{in_words}
use Rattle.dis_meaning.specs.Words.{Word, Plain, Access, Found, ◌>>=◌, word_at, number_in}
use Rattle.dis_meaning.specs.Process.{Process}
use Rattle.dis_memory.specs.Blocks.{Block, World}
use Rattle.dis_memory.specs.Step.{obey}
use Rattle.value_words.specs.Contents.{AreInRange}
use Rattle.value_words.specs.Facts.{Facts}
use Rattle.value_words.specs.Stands.{a_number}
use Rattle.value_frames.specs.Frames.{number_place, reference_place, frame_bytes, frame_references}
use Rattle.value_frames.specs.Types.{AreOf}
use Rattle.value_frames.specs.Standing.{SlotStands, a_value, a_decision, RefersIdly, WordsAre, truth}
use Rattle.value_frames.specs.Rest.{IsAtRest}
use Rattle.value_frames.specs.Later.{AreMadeBy}
use Rattle.value_frames.specs.Slots.{ElseAsWas}
use Rattle.value_frames.proofs.Rest.{slots_rest}
use Rattle.value_frames.proofs.Slots.{slots_change}
use Rattle.value_frames.proofs.Replacing.{kinds_stay}
use Rattle.value_frames.proofs.Later.{frames_later}
use Rattle.value_moves.specs.Changing.{Changes}
use Rattle.value_moves.specs.Operands.{inst, own}
use Rattle.value_moves.proofs.Changing.{low_or_high}
use Rattle.value_moves.proofs.Leading.{spots_lead}
use Rattle.value_code.specs.Objects.{object_of}
use Rattle.number_effects.specs.Giving.{with_word, WordStored, StoresWord}
use Rattle.number_effects.specs.Stepping.{Reaches}
use Rattle.number_effects.proofs.Reading.{operands_are_read}
use Rattle.number_effects.proofs.Records.{words_move}
use Rattle.number_effects.proofs.Stepping.{steps_obey}
use Rattle.value_follows.specs.Sides.{sides}
use Rattle.value_follows.proofs.RootedValues.{stands_laid}
use Rattle.value_follows.proofs.Slots.{there_below}
use Rattle.value_follows.proofs.Several.{moved_to, names_as}
use Rattle.value_follows.proofs.Putting.{NumberWord, number_word, word_same}

-- ---- slots that name nothing refer idly (as value_follows has it within its proof)

module _ (defs : List Def) (k : Facts) (x : Heap Block) (frame : ℕ) (words : List Word) (n r : ℕ) where
  rests : (h : Held) (l : core.Slot) (own : List ℕ) → IsClean h → SlotStands defs k x frame words n r h l own → IsAtRest defs k words r own
  rests (Of t live) l own clean stands =
      let empty = subst (λ ns. SlotStands defs k x frame words n r (Of t ns) l own) clean stands in
      let v = slots_rest.is_value defs k x frame words n r t [] l own empty in
      let holds = subst (λ o. SlotStands defs k x frame words n r (Of t []) o own) v.1 empty in
      let reads = slots_rest.reads defs k x frame words n r t [] v.0 own holds in
      slots_rest.clean defs k x frame words n r t v.0 own holds (λ e.
      let b = reads.boxed e in stands_laid defs k b.1 0 t v.0 b.4)
  rests (Forming t variant ks us live) l own clean stands = absurd clean
  rests (Decided b) l own clean stands = slots_rest.decided defs k x frame words n r b l own stands
  rests (Turns held.NoRegion) l own clean stands = slots_rest.unturned defs k x frame words n r l own stands
  rests (Turns (held.MoreRegions g gs)) l own clean stands = absurd clean

-- ---- changes one after the other

pub changes_both : (a b c : List Word) (at size to one from two : ℕ) → at ≤ to → to + one ≤ at + size → at ≤ from → from + two ≤ at + size
    → Changes a b to one → Changes b c from two → Changes a c at size
changes_both a b c at size to one from two l g h j f s = record {
  many = s.many ∙ f.many;
  bytes = λ n apart. s.bytes n (elim apart [ inl low ↦ inl (omega (arith, low, h)) | inr high ↦ inr (omega (arith, high, j)) ])
      ∙ f.bytes n (elim apart [ inl low ↦ inl (omega (arith, low, l)) | inr high ↦ inr (omega (arith, high, g)) ]);
  words = λ n apart. s.words n (elim apart [ inl low ↦ inl (omega (arith, low, h)) | inr high ↦ inr (omega (arith, high, j)) ])
      ∙ f.words n (elim apart [ inl low ↦ inl (omega (arith, low, l)) | inr high ↦ inr (omega (arith, high, g)) ]);
  refer = λ w r e. let t = s.refer w r e in f.refer w t.0 t.1;
  referred = λ w r e. let t = f.referred w r e in s.referred w t.0 t.1;
}

-- ---- other words come into a slot

module _ (m : typed.Module) (k : Facts) (i : ℕ) (x : Heap Block) (serial : ℕ) (types : List Ty) (vs : List Value) where
  -- Words stand for variables and slots, and what is their own was made by the process.
  abbrev pub Holding : held.Slots → core.Slots → List Word → Type 0
  Holding known slots words = (are : WordsAre m.adts k x serial [] types known vs slots words) × AreMadeBy k i are.own

  module _ (known : held.Slots) (slots : core.Slots) (words : List Word) (holding : Holding known slots words) (s : ℕ) (l : s < length slots) where
    abbrev n_at : ℕ
    n_at = number_place m.adts types s

    abbrev r_at : ℕ
    r_at = reference_place m.adts types s

    pub at_rest : IsClean (held.slot known s) → IsAtRest m.adts k words r_at (holding.0.own s)
    at_rest clean =
        let e = holding.0.as_many in
        rests m.adts k x serial words n_at r_at (held.slot known s) (core.slot slots s) (holding.0.own s) clean
        (holding.0.each s (held.slot known s) (core.slot slots s) (λ h. h) (there_below known s held.empty (omega (arith, l, e)))
        (there_below slots s core.empty l))

    module _ (others : List Word) (to size : ℕ) (from : n_at ≤ to) (past : to + size ≤ n_at + 8) (changes : Changes words others to size)
        (ranged : AreInRange others) where
      else_as_was : ElseAsWas words others n_at 8
      else_as_was = record {
        each = λ w no. elim (low_or_high (4 * w) n_at) [
          | inl low ↦ changes.words w (inl (omega (arith, low, from)))
          | inr high ↦ elim (low_or_high (4 * w) (n_at + 8)) [
            | inl within ↦ absurd (no (high, within))
            | inr over ↦ changes.words w (inr (omega (arith, over, past)))
          ]
        ];
      }

      pub kind_stays : AreOf (frame_bytes m.adts types (length slots)) (frame_references m.adts types (length slots)) others
      kind_stays =
          kinds_stay.all (frame_bytes m.adts types (length slots)) (frame_references m.adts types (length slots)) words others
          holding.0.kind changes.many changes.refer changes.referred ranged

      pub holding_then : (h : Held) (v : core.Slot) → SlotStands m.adts k x serial others n_at r_at h v []
          → Holding (held.put known s h) (core.put slots s v) others
      holding_then h v stands =
          let are = holding.0 in
          let owned = (frames_later m.adts k x serial [] types known vs slots words are).owned in
          let after = slots_change.slot m.adts k k x x serial [] types known vs slots words others s h v [] are
          (record { facts = λ n f e. e; makers = λ n j e. e; forms = λ n o e. e }) l else_as_was kind_stays stands tt
          (λ u b ne h. (λ e. e, ((owned u b h).0, refl))) in (
            after.after,
            λ u b h. elim (low_or_high u s) [
              | inl low ↦ holding.1 u b (subst (λ o. Has o b) (after.elsewhere u (λ e. omega (arith, e, low))) h)
              | inr high ↦ elim (low_or_high s u) [
                | inl more ↦ holding.1 u b (subst (λ o. Has o b) (after.elsewhere u (λ e. omega (arith, e, more))) h)
                | inr less ↦
                    let same : u ≡ s = omega (arith, high, less) in
                    absurd (subst (λ o. Has o b) (ap after.after.own same ∙ after.here) h)
              ]
            ],
          )

    -- where they do so in the slot alone, what lies apart from it is as it was
    pub lies_apart : (others : List Word) (to size : ℕ) → Changes words others to size → (at : ℕ)
        → (4 * (at / 4) + 4 ≤ to) ⊎ (to + size ≤ 4 * (at / 4)) → word_at others (pos at) ≡ word_at words (pos at)
    lies_apart others to size changes at apart = word_same words others at (changes.words (at / 4) apart)

    -- a number comes
    module _ (clean : IsClean (held.slot known s)) (z : ℤ) (stored : WordStored words n_at (Plain z)) (range : InRange Int z) where
      abbrev others_so : List Word
      others_so = with_word words n_at (Plain z)

      still_idle : RefersIdly m.adts k others_so r_at
      still_idle = let idle = (at_rest clean).0 in (idle.0, lies_apart others_so n_at 4 stored.changes r_at (inr (omega arith)) ∙ idle.1, idle.2)

      put_so : (h : Held) (v : core.Slot) → SlotStands m.adts k x serial others_so n_at r_at h v [] → Holding (held.put known s h) (core.put slots s v) others_so
      put_so h v stands =
          let from : n_at ≤ n_at = omega arith in
          holding_then others_so n_at 4 from (omega arith) stored.changes
          (stored.ranged (λ y e. subst (InRange Int) (let f : z ≡ y = cc in f) range) holding.0.kind.ranged) h v stands

      -- which is an int
      pub put_int : Holding (held.put known s (Of ty.Int [])) (core.put slots s (Holds (Num z))) others_so
      put_int =
          put_so (Of ty.Int []) (Holds (Num z))
          (a_value others_so n_at r_at ty.Int [] (Num z) (a_number n_at Int z (ap (λ (a : Access Word). a >>= number_in) stored.there) range, still_idle)
          (λ a b e. absurd cc))

      -- or tells what was decided
      pub put_decision : (d : Bool) → z ≡ truth d → Holding (held.put known s (Decided d)) (core.put slots s (Holds (Num (truth d)))) others_so
      put_decision d e =
          put_so (Decided d) (Holds (Num (truth d)))
          (a_decision others_so n_at r_at d (stored.there ∙ ap (λ (y : ℤ). Found (Plain y)) e) still_idle)

-- ---- an instruction that moves a number there

abbrev pub numbered : ℤ → (at : ℕ) → Inst
numbered z at = inst op.Movw (operand.Imm z) middle.None (own at)

module _ (m : typed.Module) (types : List Ty) (n : ℕ) (r : Process) (laid : AllLaid m.adts types (rooms_of (rooms_in m.adts) types))
    (kind : AreOf (frame_bytes m.adts types n) (frame_references m.adts types n) r.frame.words) (s : ℕ) (l : s < n) (z : ℤ) (range : InRange Int z)
  where
    abbrev to : ℕ
    to = number_place m.adts types s

    abbrev pub with_number : List Word
    with_number = with_word r.frame.words to (Plain z)

    old : NumberWord m.adts types n r.frame.words laid kind s l
    old = number_word m.adts types n r.frame.words laid kind s l

    pub same_range : (y : ℤ) → Plain z ≡ Plain y → InRange Int y
    same_range y e = subst (InRange Int) (let f : z ≡ y = cc in f) range

    pub names_same : (c : ℕ) → in_words c with_number ≡ in_words c r.frame.words
    names_same c = names_as c r.frame.words _ old.old (Plain z) old.there old.no_refer (λ r e. absurd cc)

    module _ (x : World) where
      stores : StoresWord (obey frames_limit (object_of m) x r (numbered z to) op.Movw) x r (spots_lead.own x r to).0.place r.frame.words to (Plain z)
      stores =
          words_move.word frames_limit (object_of m) x r (numbered z to) (Plain z) r.frame.words to (spots_lead.own x r to).0 old.old refl
          (operands_are_read.source_plain_given x r z) old.plainly

      pub stored : WordStored r.frame.words to (Plain z)
      stored = stores.0

      pub kind_then : AreOf (frame_bytes m.adts types n) (frame_references m.adts types n) with_number
      kind_then =
          kinds_stay.all (frame_bytes m.adts types n) (frame_references m.adts types n) r.frame.words with_number kind stored.changes.many
          stored.changes.refer stored.changes.referred (stored.ranged same_range kind.ranged)

      pub moves_number : Reaches (object_of m ∷ []) x r (object_of m) (numbered z to)
          → (sides m).code.step x r ≡ Went x (moved_to r (suc r.frame.pc) with_number)
      moves_number reaches =
          steps_obey.stores frames_limit (object_of m ∷ []) x r (object_of m) (numbered z to) x (spots_lead.own x r to).0.place with_number _
          reaches stores.1 ((spots_lead.own x r to).1 with_number)
