-- The record is made: the first instruction of a row that gives a reference to a new record. (As `rows_boxes` has it of boxes.)
use Rattle.std.proofs.Common.{◌≡◌, ℕ, suc, pos, ◌+◌, ◌*◌, ◌/◌, ◌<◌, ◌≤◌, List, [], ◌∷◌, length, Option, Some, None, refl, sym, ap, subst, ◌∙◌, arith, inl, inr, Bool, true, false, if◌then◌else◌}
use Rattle.std.specs.Prelude.{slice_get, nat_eq}
use Rattle.std.proofs.lemmas.Bool.{eqb-true}
use Rattle.process_model.specs.Process.{Went}
use Rattle.heap_model.specs.Heap.{at}
use Rattle.limbo_types.specs.Types.{Ty}
use Rattle.limbo_layout.specs.Adts.{Def, Has}
use Rattle.limbo_layout.specs.Layout.{Laid}
use Rattle.limbo_typed.specs.Typed as typed
use Rattle.limbo_meaning.specs.Process.{Shared}
use Rattle.limbo_meaning.specs.Values.{one, among, references}
use Rattle.system_model.specs.Limits.{frames_limit}
use Rattle.core_code.specs.Code.{Instr}
use Rattle.core_code.specs.Machine as code
use Rattle.core_code.specs.Slots as core
use Rattle.core_code.specs.Slots.{Slot, Holds, slot_names, regions_name}
use Rattle.core_typing.specs.Held as held
use Rattle.core_typing.specs.Held.{Held, Of, Decided, Turns}
use Rattle.core_typing.specs.Needs.{IsClean}
use Rattle.dis_isa.specs.declared.inst.Inst.{Inst}
use Rattle.dis_isa.specs.declared.inst.Operand.TheVariants as operand
use Rattle.dis_isa.specs.declared.inst.Middle.TheVariants as middle
use Rattle.dis_isa.specs.declared.op.Op.TheVariants as op
use Rattle.dis_meaning.specs.Words.{Word, Refer, Access, Found, word_at}
use Rattle.dis_meaning.specs.Process.{Process, with_frames, with_words}
use Rattle.dis_meaning.specs.Places.{Spot}
use Rattle.dis_memory.specs.Blocks.{World, Record, next_serial}
use Rattle.dis_memory.specs.Places.{memory, with_words_at}
use Rattle.dis_memory.specs.Step.{obey}
use Rattle.value_words.specs.Forms.{Form}
use Rattle.value_words.specs.Facts.{Facts}
use Rattle.value_frames.specs.Frames.{answer_place, number_place, reference_place, spare_place, box_bytes, room_for, frame_bytes, frame_references}
use Rattle.value_frames.specs.Types.{desc, AreOf}
use Rattle.value_frames.specs.Standing.{SlotStands, ChainStands, no_chain, a_chain}
use Rattle.value_frames.specs.Slots.{ElseAsWas}
use Rattle.value_frames.proofs.Rest.{slots_rest}
use Rattle.value_frames.proofs.Slots.{slots_change}
use Rattle.value_frames.proofs.Replacing.{kinds_stay}
use Rattle.value_frames.proofs.Later.{frames_later}
use Rattle.value_moves.specs.Operands.{inst, own}
use Rattle.value_moves.specs.Spots.{Leads}
use Rattle.value_moves.proofs.Changing.{low_or_high}
use Rattle.value_moves.proofs.Leading.{spots_lead}
use Rattle.value_code.specs.Objects.{object_of}
use Rattle.value_code.specs.Code.{code_of}
use Rattle.number_effects.specs.Giving.{with_word, WordStored, StoresWord}
use Rattle.number_effects.proofs.Giving.{results_go}
use Rattle.number_effects.proofs.Records.{words_move}
use Rattle.number_effects.proofs.Stepping.{steps_obey}
use Rattle.value_follows.specs.Stands.{types_of, Awaited, Ready}
use Rattle.value_follows.specs.Sides.{sides, HoldTheSame}
use Rattle.value_follows.specs.Rows.{Base, site_of}
use Rattle.value_follows.proofs.Standing.{at_words}
use Rattle.value_follows.proofs.Waiting.{stands_anew}
use Rattle.value_follows.proofs.Slots.{slot_is}
use Rattle.value_follows.proofs.Putting.{at_rest, word_same}
use Rattle.value_follows.proofs.Jumps.{row as row_at, first}
use Rattle.rows_making.proofs.New.{new_world, new_facts, new_fact, new_maker, new_form, new_there, new_grows, new_keeps, new_apart}
use Rattle.rows_boxes.proofs.Starting.{new_words, new_bare, new_kind}
use Rattle.rows_making.proofs.Making.{Making}

-- ---- a slot that names nothing

one_none : (r n : ℕ) → (r ≡ n → ⊥) → one n (Some r) ≡ 0
one_none r n ne = go (nat_eq n r) refl
  where
    zero : ℕ
    zero = 0

    go : (b : Bool) → nat_eq n r ≡ b → (if b then 1 else 0) ≡ zero
    go true e = absurd (ne (sym (eqb-true n r e)))
    go false e = refl

none_among : (rs : List (Option ℕ)) (n : ℕ) → ((k : ℕ) → slice_get rs k ≡ Some (Some n) → ⊥) → among n rs ≡ 0
none_among [] n none = refl
none_among (None ∷ rs) n none = let h = none_among rs n (λ k e. none (suc k) e) in omega (arith, h)
none_among (Some r ∷ rs) n none =
    let h = none_among rs n (λ k e. none (suc k) e) in
    let z = one_none r n (λ e. none 0 (ap (λ (a : ℕ). Some (Some a)) e)) in
    omega (arith, h, z)

module _ (defs : List Def) (k : Facts) (x : World) (frame : ℕ) where
  chain_none : (words : List Word) (p : ℕ) (gs : held.Regions) (rs : core.Regions) (own : List ℕ) → gs ≡ held.NoRegion
      → ChainStands defs k x.heap frame words p gs rs own → (n : ℕ) → regions_name rs n ≡ 0
  chain_none _ _ _ _ _ e (no_chain words p f) n = refl
  chain_none _ _ _ _ _ e (a_chain words inner p b last h hs g gs own more is l s t) n = absurd cc

  names_none : (words : List Word) (a r : ℕ) (h : Held) (l : Slot) (own : List ℕ) → IsClean h → SlotStands defs k x.heap frame words a r h l own
      → (n : ℕ) → slot_names l n ≡ 0
  names_none words a r (Of t live) l own clean s n =
      let v = slots_rest.is_value defs k x.heap frame words a r t live l own s in
      let reads = slots_rest.reads defs k x.heap frame words a r t live v.0 own (subst (λ o. SlotStands defs k x.heap frame words a r (Of t live) o own) v.1 s) in
      ap (λ (o : Slot). slot_names o n) v.1
      ∙ none_among (references v.0) n (λ j e. subst (λ (ns : List ℕ). held.Has ns j) clean (reads.names j n e))
  names_none words a r (held.Forming t v ks us live) l own clean s n = absurd clean
  names_none words a r (Decided b) l own clean s n =
      let d = slots_rest.is_decision defs k x.heap frame words a r b l own s in ap (λ (o : Slot). slot_names o n) d.0
  names_none words a r (Turns held.NoRegion) l own clean s n =
      let t = slots_rest.is_loop defs k x.heap frame words a r held.NoRegion l own s in
      ap (λ (o : Slot). slot_names o n) t.2 ∙ chain_none words r held.NoRegion t.1 own refl t.4 n
  names_none words a r (Turns (held.MoreRegions g gs)) l own clean s n = absurd clean

module _ (m : typed.Module) (b : Base m) (k : Facts) (i : ℕ) (w : Shared) (x : World) (p : code.Process) (q : Process) (ready : Ready m k i x p q)
    (hold : HoldTheSame m k i x p q) (worlds : (sides m).worlds k w x) (instr : Instr) (here : slice_get p.frame.code p.frame.pc ≡ Some instr) where
  abbrev number : ℕ
  number = ready.stands.is.number

  abbrev function : typed.Function
  function = ready.stands.is.function

  module _ (t : Ty) (of : Form) (laid : Laid m.adts t (room_for m.adts t)) (into : ℕ) (few : into < length p.frame.slots)
      (clean : IsClean (held.slot ready.stands.is.known into)) where
    abbrev to : ℕ
    to = reference_place m.adts (types_of m function) into

    abbrev serial : ℕ
    serial = next_serial x

    abbrev made_words : List Word
    made_words = new_words m.adts t

    abbrev others : List Word
    others = with_word q.frame.words to (Refer (Some serial))

    abbrev pub world_then : World
    world_then = new_world m i k w x worlds of made_words (new_bare m.adts t)

    abbrev pub facts_then : Facts
    facts_then = new_facts m i k w x worlds of made_words (new_bare m.adts t)

    abbrev pub process_then : Process
    process_then = at_words m k i x p q ready (suc q.frame.pc) others

    module _ (stored : WordStored q.frame.words to (Refer (Some serial))) where
      else_as_was : ElseAsWas q.frame.words others (number_place m.adts (types_of m function) into) 8
      else_as_was = record {
        each = λ w no. elim (low_or_high (4 * w) (number_place m.adts (types_of m function) into)) [
          | inl low ↦ stored.changes.words w (inl (omega (arith, low)))
          | inr high ↦ elim (low_or_high (4 * w) (number_place m.adts (types_of m function) into + 8)) [
            | inl within ↦ absurd (no (high, within))
            | inr past ↦ stored.changes.words w (inr (omega (arith, past)))
          ]
        ];
      }

      stays : (at : ℕ) → 4 * (at / 4) + 4 ≤ to → word_at others (pos at) ≡ word_at q.frame.words (pos at)
      stays at low = word_same q.frame.words others at (stored.changes.words (at / 4) (inl low))

      kind_stays : AreOf (frame_bytes m.adts (types_of m function) (length p.frame.slots))
          (frame_references m.adts (types_of m function) (length p.frame.slots)) others
      kind_stays =
          kinds_stay.all (frame_bytes m.adts (types_of m function) (length p.frame.slots))
          (frame_references m.adts (types_of m function) (length p.frame.slots)) q.frame.words others
          ready.stands.is.words.kind stored.changes.many stored.changes.refer stored.changes.referred
          (stored.ranged (λ z e. absurd cc) ready.stands.is.words.kind.ranged)

      pub making_then : Making m number function t of into 1 serial made_words facts_then i world_then p process_then
      making_then =
          let are = ready.stands.is.words in
          let grows = new_grows m i k w x worlds of made_words (new_bare m.adts t) in
          let keeps = new_keeps m i k w x worlds of made_words (new_bare m.adts t) in
          let owned = (frames_later m.adts k x.heap q.frame.serial [] (types_of m function) ready.stands.is.known p.frame.variables p.frame.slots
          q.frame.words are).owned in
          let after = slots_change.leaves m.adts k facts_then x.heap world_then.heap q.frame.serial [] (types_of m function) ready.stands.is.known
          p.frame.variables p.frame.slots q.frame.words others into are grows (at_rest m k i x p q ready into few clean).1 else_as_was kind_stays
          (λ r c h. keeps c i (owned r c h).0 (ready.stands.is.mine r c h)) in
          let anew = stands_anew m k facts_then i x world_then [] Awaited p q ready.stands grows (omega arith)
          (λ c free made other. keeps c i free made) (into ∷ []) p.frame.pc (suc q.frame.pc) ready.stands.is.known p.frame.variables p.frame.slots
          others q.made refl after.0
          (λ r c h. grows.makers c i (ready.stands.is.mine r c (subst (λ (o : ℕ → List ℕ). Has (o r) c) after.1 h)))
          ready.stands.goes (stays answer_place (omega arith)) in
          record {
            stands = record { number = anew.stands.number; is = anew.stands.is; goes = anew.stands.goes; waits = anew.stands.waits };
            number_is = anew.number;
            function_is = anew.function;
            pc = (let e = ready.pc in omega (arith, e));
            spare = stays (spare_place m.adts (types_of m function)) (omega arith) ∙ ready.spare;
            none_made = ready.none_made;
            word = stored.there;
            there = new_there m i k w x worlds of made_words (new_bare m.adts t);
            none = new_fact m i k w x worlds of made_words (new_bare m.adts t);
            made = new_maker m i k w x worlds of made_words (new_bare m.adts t);
            formed = new_form m i k w x worlds of made_words (new_bare m.adts t);
            kind = new_kind m.adts t laid;
            bare = new_bare m.adts t;
            apart = λ r h.
                let c = subst (λ (o : ℕ → List ℕ). Has (o r) serial) (anew.own ∙ after.1) h in
                new_apart m i k w x worlds of made_words (new_bare m.adts t) serial i (ready.stands.is.mine r serial c) refl;
            unnamed = names_none m.adts k x q.frame.serial q.frame.words (number_place m.adts (types_of m function) into) to
                (held.slot ready.stands.is.known into) (core.slot p.frame.slots into) (ready.stands.is.words.own into) clean
                (slot_is m k i x [] p.frame q.frame ready.stands.is into few (λ e. e));
          }

    module _ (type : ℕ) (typed_so : slice_get (object_of m).types type ≡ Some (desc (box_bytes m.adts t) (room_for m.adts t).references)) where
      abbrev new_inst : Inst
      new_inst = inst op.New (operand.Imm (pos type)) middle.None (own to)

      abbrev leads_there : Leads x q (own to) q.frame.words to
      leads_there = (spots_lead.own x q to).0

      goes_there : StoresWord (obey frames_limit (object_of m) x q new_inst op.New) world_then q leads_there.place q.frame.words to (Refer (Some serial))
      goes_there =
          let rest = (at_rest m k i x p q ready into few clean).0 in
          words_move.new frames_limit (object_of m) x q new_inst type (desc (box_bytes m.adts t) (room_for m.adts t).references) q.frame.words to
          leads_there rest.0 (inl refl) refl typed_so rest.1

      pub stored_there : WordStored q.frame.words to (Refer (Some serial))
      stored_there = goes_there.0

      same_spot : (s s' : Spot) → ◌≡◌ {A = Access Spot} (Found s) (Found s') → s ≡ s'
      same_spot s s' e = cc

      same_place : (spots_lead.own world_then q to).0.place ≡ leads_there.place
      same_place =
          let later = results_go.later x (Record made_words) q (own to) q.frame.words to leads_there in
          same_spot (spots_lead.own world_then q to).0.place leads_there.place
          (sym (spots_lead.own world_then q to).0.found ∙ (later.0.found ∙ ap (λ (s : Spot). Found s) later.1))

      pub goes_new : slice_get (code_of (site_of m number function p.frame.pc (row_at m b k i w x p q ready hold worlds instr here).at) instr) 0 ≡ Some new_inst
          → (sides m).code.step x q ≡ Went world_then process_then
      goes_new is =
          steps_obey.stores frames_limit (object_of m ∷ []) x q (object_of m) new_inst world_then leads_there.place others _
          (first m b k i w x p q ready hold worlds instr here new_inst is) goes_there.1
          (subst (λ (s : Spot). with_words_at world_then q s others ≡ Found (memory world_then (with_frames q (with_words q.frame others) q.below q.made)))
          same_place ((spots_lead.own world_then q to).1 others))
