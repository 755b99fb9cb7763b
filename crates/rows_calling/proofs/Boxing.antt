-- The record that is to be the box of a call's answer: it is made in the slot, which is busy from then on.
use Rattle.std.proofs.Common.{◌≡◌, ℕ, Bool, true, false, zero, suc, pos, ◌+◌, ◌*◌, ◌/◌, ◌<◌, ◌≤◌, List, [], ◌∷◌, length, Option, Some, None, inl, inr, refl, sym, ap, ◌∙◌, subst, arith}
use Rattle.std.proofs.Common.{if◌then◌else◌}
use Rattle.std.specs.Prelude.{slice_get}
use Rattle.process_model.specs.Process.{Went}
use Rattle.process_ways.specs.Ways.{Way}
use Rattle.system_model.specs.Limits.{frames_limit}
use Rattle.heap_model.specs.Heap.{at}
use Rattle.heap_model.specs.Facts.{IsFree, IsInner, Free}
use Rattle.limbo_types.specs.Types.{Ty}
use Rattle.limbo_layout.specs.Adts.{Def, Has}
use Rattle.limbo_layout.specs.Layout.{Laid}
use Rattle.limbo_typed.specs.Typed as typed
use Rattle.limbo_meaning.specs.Process.{Shared}
use Rattle.core_code.specs.Code.{Instr}
use Rattle.core_code.specs.Machine as code
use Rattle.core_code.specs.Slots as core
use Rattle.core_code.specs.Slots.{slot_names}
use Rattle.core_typing.specs.Held as held
use Rattle.core_typing.specs.Needs.{IsClean}
use Rattle.dis_file.specs.References.{marks}
use Rattle.dis_file.specs.declared.types.TypeDesc.{TypeDesc}
use Rattle.dis_isa.specs.declared.inst.Inst.{Inst}
use Rattle.dis_isa.specs.declared.inst.Middle.TheVariants as middle
use Rattle.dis_isa.specs.declared.inst.Operand.TheVariants as operand
use Rattle.dis_isa.specs.declared.op.Op.TheVariants as op
use Rattle.dis_meaning.specs.Words.{Word, Plain, Refer, Access, Found, word_at, blank, blanks}
use Rattle.dis_meaning.specs.Process.{Frame, Process, at_pc, with_words, with_frames}
use Rattle.dis_meaning.specs.Places.{Spot}
use Rattle.dis_memory.specs.Blocks.{Record, World, next_serial}
use Rattle.dis_memory.specs.Naming as machine
use Rattle.dis_memory.specs.Places.{memory, with_words_at}
use Rattle.dis_memory.specs.Step.{obey}
use Rattle.value_words.specs.Forms.{OwnedBy}
use Rattle.value_words.specs.Facts.{Facts, Grows}
use Rattle.value_words.proofs.Blank.{laid_within}
use Rattle.value_heaps.proofs.Marks.{at_word}
use Rattle.value_roots.specs.Accounts.{Accounted, to_inner}
use Rattle.value_roots.proofs.Words.{has_counts}
use Rattle.value_frames.specs.Frames.{answer_place, made_place, spare_place, number_place, reference_place, frame_bytes, frame_references, box_bytes, room_for}
use Rattle.value_frames.specs.Types.{desc, AreOf}
use Rattle.value_frames.specs.Slots.{ElseAsWas}
use Rattle.value_frames.proofs.Beginning.{frames_begin}
use Rattle.value_frames.proofs.Slots.{slots_change}
use Rattle.value_frames.proofs.Later.{frames_later}
use Rattle.value_frames.proofs.Replacing.{kinds_stay}
use Rattle.value_moves.specs.Operands.{inst, own}
use Rattle.value_moves.specs.Spots.{Leads}
use Rattle.value_moves.proofs.Changing.{low_or_high}
use Rattle.value_moves.proofs.Leading.{spots_lead}
use Rattle.value_code.specs.Objects.{object_of}
use Rattle.number_effects.specs.Giving.{with_word, WordStored, StoresWord}
use Rattle.number_effects.specs.Stepping.{Reaches}
use Rattle.number_effects.proofs.Giving.{results_go}
use Rattle.number_effects.proofs.Records.{words_move}
use Rattle.number_effects.proofs.Stepping.{steps_obey}
use Rattle.value_follows.specs.Stands.{types_of, Awaited, ReferNowhere}
use Rattle.value_follows.specs.Sides.{sides, HoldTheSame}
use Rattle.value_follows.specs.Rooted.{BusyLead, PlaceAccounted}
use Rattle.value_follows.specs.Rows.{place, is_tidied, row_of, Base}
use Rattle.value_follows.proofs.Putting.{word_same}
use Rattle.value_follows.proofs.RootedValues.{has_at, word_has, each_accounted}
use Rattle.value_follows.proofs.Several.{Next}
use Rattle.value_follows.proofs.Standing.{all_wait}
use Rattle.value_follows.proofs.Waiting.{all_wait_later}
use Rattle.rows_calling.proofs.OnTheWay.{On, on_later_with}
use Rattle.rows_calling.proofs.Clean.{unnamed, idly}
use Rattle.rows_calling.proofs.Making.{Called, called_later, Made, making_by}
use Rattle.rows_calling.proofs.Blocks.{new_world, new_facts, new_fact, new_maker, new_form, new_there, new_grows, new_keeps, new_apart, new_alike, new_changes}

-- ---- a record as it is made

blanks_bare : (d : TypeDesc) (from count : ℕ) → ReferNowhere (blanks d from count)
blanks_bare d from zero b h = h
blanks_bare d from (suc n) b (inl e) = go (marks d.map from) e
  where
    go : (h : Bool) → (if h then Refer None else Plain (pos 0)) ≡ Refer (Some b) → ⊥
    go true e = cc
    go false e = cc
blanks_bare d from (suc n) b (inr h) = blanks_bare d (suc from) n b h

module _ (defs : List Def) (t : Ty) where
  abbrev pub new_words : List Word
  new_words = blank (desc (box_bytes defs t) (room_for defs t).references)

  pub new_bare : ReferNowhere new_words
  new_bare = blanks_bare (desc (box_bytes defs t) (room_for defs t).references) 0 (box_bytes defs t / 4)

  pub new_kind : Laid defs t (room_for defs t) → AreOf (box_bytes defs t) (room_for defs t).references new_words
  new_kind laid =
      frames_begin.kind (box_bytes defs t) (room_for defs t).references (omega arith)
      (λ o h. (at_word defs t (room_for defs t) o laid h, (let l = laid_within defs t (room_for defs t) laid o h in omega (arith, l))))

-- ---- the box

-- A word of the running frame refers to a record that the process made for it, which stands for nothing yet and refers to nothing.
pub record Box (m : typed.Module) (k : Facts) (i : ℕ) (x : World) (t : Ty) (place : ℕ) (q : Process) (own : ℕ → List ℕ) (box : ℕ) (inner : List Word)
    : Type 0 where
  pub word : word_at q.frame.words (pos place) ≡ Found (Refer (Some box))
  pub there : at x.heap box ≡ Some (Record inner)
  pub none : k.fact box ≡ None
  pub made : k.maker box ≡ Some i
  pub formed : k.form box ≡ Some (OwnedBy q.frame.serial)
  pub sort : AreOf (box_bytes m.adts t) (room_for m.adts t).references inner
  pub bare : ReferNowhere inner
  pub apart : (s : ℕ) → Has (own s) box → ⊥

only_one : (a s : ℕ) → Has (a ∷ []) s → a ≡ s
only_one a s (inl e) = e
only_one a s (inr h) = absurd h

module _ (m : typed.Module) (i : ℕ) (p : code.Process) (q : Process) (t : Ty) (box : ℕ) (inner : List Word) (place_at : ℕ) where
  -- so it is while others step
  box_later : (b : Base m) (k now : Facts) (x y : World) (before after : ℕ → List ℕ) → after ≡ before → Box m k i x t place_at q before box inner
      → (sides m).leaves i k now x y → HoldTheSame m now i y p q → Box m now i y t place_at q after box inner
  box_later b k now x y before after same s left holds =
      let free : Free k box = subst IsFree (sym s.none) tt in
      let named : 0 < machine.names q box =
      let h = has_counts q.frame.words box (word_has q.frame.words place_at (Refer (Some box)) s.word) in omega (arith, h) in
      let kept = b.mine_later k now i x y p q left holds box named free s.made in
      record {
        word = s.word;
        there = kept.1 ∙ s.there;
        none = elim (left.0.free box free s.made) [
          | inl same ↦ same.0 ∙ s.none
          | inr gone ↦ absurd (let z : None ≡ Some (Record inner) = sym gone.1 ∙ (kept.1 ∙ s.there) in cc)
        ];
        made = left.0.grows.makers box i s.made;
        formed = left.0.grows.forms box _ s.formed;
        sort = s.sort;
        bare = s.bare;
        apart = λ r h. s.apart r (subst (λ (o : ℕ → List ℕ). Has (o r) box) same h);
      }

  -- and accounted for
  pub box_accounted : (k : Facts) (x : World) (own : ℕ → List ℕ) → Box m k i x t place_at q own box inner → (names : ℕ → ℕ)
      → PlaceAccounted m k i x names q.frame place_at
  box_accounted k x own s names r e =
      let found : Found (Refer r) ≡ Found (Refer (Some box)) = sym e ∙ s.word in
      let is : Some box ≡ r = cc in
      subst (λ (a : Option ℕ). Accounted k i x.heap names (Refer a)) is
      (to_inner box (Record inner) (subst IsInner (sym s.none) tt) s.there (λ free. s.made)
      (each_accounted k i x.heap names inner (λ j b e. absurd (s.bare b (has_at inner j (Refer (Some b)) e)))))

module _ (m : typed.Module) (i : ℕ) (p : code.Process) (f : typed.Function) (into : ℕ) where
  -- a busy slot that names nothing leads to all that it names
  pub leads_on : ((o : ℕ) → slot_names (core.slot p.frame.slots into) o ≡ 0) → (k : Facts) (x : World) (q : Process) → BusyLead m k i x (into ∷ []) p q
  leads_on none k x q s n h u =
      let same = ap (λ (a : ℕ). slot_names (core.slot p.frame.slots a) n) (only_one into s h) in
      let z = none n in
      absurd (omega (arith, u, same, z))

  pub slot_accounted : (k : Facts) (x : World) (q : Process) (names : ℕ → ℕ)
      → PlaceAccounted m k i x names q.frame (reference_place m.adts (types_of m f) into)
      → (s : ℕ) → Has (into ∷ []) s → PlaceAccounted m k i x names q.frame (reference_place m.adts (types_of m f) s)
  slot_accounted k x q names accounted s h =
      subst (λ (a : ℕ). PlaceAccounted m k i x names q.frame (reference_place m.adts (types_of m f) a)) (only_one into s h) accounted

module _ (m : typed.Module) (b : Base m) (i : ℕ) (p : code.Process) (n : ℕ) (f : typed.Function) (ng : ℕ) (g : typed.Function) (h : code.Frame)
    (named : (o : ℕ) → 0 < code.frame_names h o → 0 < code.process_names p o) (t : Ty) (into : ℕ) where
  abbrev r_at : ℕ
  r_at = reference_place m.adts (types_of m f) into

  abbrev n_at : ℕ
  n_at = number_place m.adts (types_of m f) into

  -- They are on their way where the next instruction leads on whatever others did.
  pub boxed_way : (l : ℕ) (k : Facts) (x : World) (j : ℕ) (q : Process) (c : Frame) (box : ℕ) (inner : List Word)
      → (on : On m k i x (into ∷ []) n f j p q) → Called m k x ng g h c → Box m k i x t r_at q on.words.own box inner → HoldTheSame m k i x p q
      → ((now : Facts) (w : Shared) (y : World) (on : On m now i y (into ∷ []) n f j p q) → Called m now y ng g h c
      → Box m now i y t r_at q on.words.own box inner → HoldTheSame m now i y p q → (sides m).worlds now w y → Next m b i p l now w y q)
      → Way (sides m) (place m) (suc l) k i x p q
  boxed_way l k x j q c box inner on called bx hold does = (
    hold,
    λ now y w left h' worlds.
        let after = on_later_with m i p q b k now x y left h' (into ∷ []) n f j on in
        does now w y after.0 (called_later m k i x ng g h c called now y left.0.grows left.1)
        (box_later m i p q t box inner r_at b k now x y on.words.own after.0.words.own after.1 bx left h') h' worlds,
  )

  -- ---- it is made

  module _ (k : Facts) (w : Shared) (x : World) (j : ℕ) (q : Process) (c : Frame) (on : On m k i x [] n f j p q) (called : Called m k x ng g h c)
      (has : Made q c) (hold : HoldTheSame m k i x p q) (worlds : (sides m).worlds k w x) (laid : Laid m.adts t (room_for m.adts t))
      (few : into < length p.frame.slots) (clean : IsClean (held.slot on.known into)) where
    abbrev serial : ℕ
    serial = next_serial x

    abbrev words_made : List Word
    words_made = new_words m.adts t

    abbrev others : List Word
    others = with_word q.frame.words r_at (Refer (Some serial))

    abbrev world_then : World
    world_then = new_world m i k w x worlds q.frame.serial words_made (new_bare m.adts t)

    abbrev facts_then : Facts
    facts_then = new_facts m i k w x worlds q.frame.serial words_made (new_bare m.adts t)

    abbrev process_then : Process
    process_then = with_frames q (at_pc (with_words q.frame others) (suc q.frame.pc)) q.below q.made

    module _ (stored : WordStored q.frame.words r_at (Refer (Some serial))) where
      else_as_was : ElseAsWas q.frame.words others n_at 8
      else_as_was = record {
        each = λ w no. elim (low_or_high (4 * w) n_at) [
          | inl low ↦ stored.changes.words w (inl (omega (arith, low)))
          | inr high ↦ elim (low_or_high (4 * w) (n_at + 8)) [
            | inl within ↦ absurd (no (high, within))
            | inr past ↦ stored.changes.words w (inr (omega (arith, past)))
          ]
        ];
      }

      stays : (at : ℕ) → 4 * (at / 4) + 4 ≤ r_at → word_at others (pos at) ≡ word_at q.frame.words (pos at)
      stays at low = word_same q.frame.words others at (stored.changes.words (at / 4) (inl low))

      sort_stays : AreOf (frame_bytes m.adts (types_of m f) (length p.frame.slots)) (frame_references m.adts (types_of m f) (length p.frame.slots)) others
      sort_stays =
          kinds_stay.all (frame_bytes m.adts (types_of m f) (length p.frame.slots)) (frame_references m.adts (types_of m f) (length p.frame.slots))
          q.frame.words others on.words.kind stored.changes.many stored.changes.refer stored.changes.referred
          (stored.ranged (λ z e. absurd cc) on.words.kind.ranged)

      abbrev grows : Grows k facts_then
      grows = new_grows m i k w x worlds q.frame.serial words_made (new_bare m.adts t)

      boxed : (after : On m facts_then i world_then (into ∷ []) n f (suc j) p process_then) × (after.words.own ≡ on.words.own)
      boxed =
          let keeps = new_keeps m i k w x worlds q.frame.serial words_made (new_bare m.adts t) in
          let owned = (frames_later m.adts k x.heap q.frame.serial [] (types_of m f) on.known p.frame.variables p.frame.slots q.frame.words on.words).owned in
          let after = slots_change.leaves m.adts k facts_then x.heap world_then.heap q.frame.serial [] (types_of m f) on.known
          p.frame.variables p.frame.slots q.frame.words others into on.words grows (idly m k i x n f j p q on into few clean).1 else_as_was sort_stays
          (λ r c h. keeps c i (owned r c h).0 (on.mine r c h)) in
          let pc = on.pc in (
            record {
              process = on.process;
              there = on.there;
              code = on.code;
              answer = on.answer;
              many = on.many;
              instance = grows.facts q.frame.instance _ on.instance;
              formed = grows.forms q.frame.instance _ on.formed;
              known = on.known;
              words = after.0;
              mine = λ r c h. grows.makers c i (on.mine r c (subst (λ (o : ℕ → List ℕ). Has (o r) c) after.1 h));
              fresh = on.fresh;
              goes = on.goes;
              waits = all_wait m facts_then i world_then Awaited p.frame.answer q.frame process_then.frame p.below q.below refl
                  (stays answer_place (omega arith))
                  (all_wait_later m k facts_then i x world_then q.frame.serial grows (omega arith)
                  (λ c free made other. keeps c i free made) Awaited p.frame.answer q.frame p.below q.below (omega arith) on.waits);
              pc = omega (arith, pc);
              spare = stays (spare_place m.adts (types_of m f)) (omega arith) ∙ on.spare;
            },
            after.1,
          )

      box_then : Box m facts_then i world_then t r_at process_then boxed.0.words.own serial words_made
      box_then = record {
        word = stored.there;
        there = new_there m i k w x worlds q.frame.serial words_made (new_bare m.adts t);
        none = new_fact m i k w x worlds q.frame.serial words_made (new_bare m.adts t);
        made = new_maker m i k w x worlds q.frame.serial words_made (new_bare m.adts t);
        formed = new_form m i k w x worlds q.frame.serial words_made (new_bare m.adts t);
        sort = new_kind m.adts t laid;
        bare = new_bare m.adts t;
        apart = λ r h.
            let c = subst (λ (o : ℕ → List ℕ). Has (o r) serial) boxed.1 h in
            new_apart m i k w x worlds q.frame.serial words_made (new_bare m.adts t) serial i (on.mine r serial c) refl;
      }

    module _ (type : ℕ) (typed_so : slice_get (object_of m).types type ≡ Some (desc (box_bytes m.adts t) (room_for m.adts t).references))
        (reach : Reaches (object_of m ∷ []) x q (object_of m) (inst op.New (operand.Imm (pos type)) middle.None (own r_at))) where
      abbrev new_inst : Inst
      new_inst = inst op.New (operand.Imm (pos type)) middle.None (own r_at)

      abbrev leads_there : Leads x q (own r_at) q.frame.words r_at
      leads_there = (spots_lead.own x q r_at).0

      goes_there : StoresWord (obey frames_limit (object_of m) x q new_inst op.New) world_then q leads_there.place q.frame.words r_at (Refer (Some serial))
      goes_there =
          let rest = (idly m k i x n f j p q on into few clean).0 in
          words_move.new frames_limit (object_of m) x q new_inst type (desc (box_bytes m.adts t) (room_for m.adts t).references) q.frame.words r_at
          leads_there rest.0 (inl refl) refl typed_so rest.1

      same_spot : (s s' : Spot) → ◌≡◌ {A = Access Spot} (Found s) (Found s') → s ≡ s'
      same_spot s s' e = cc

      same_place : (spots_lead.own world_then q r_at).0.place ≡ leads_there.place
      same_place =
          let later = results_go.later x (Record words_made) q (own r_at) q.frame.words r_at leads_there in
          same_spot (spots_lead.own world_then q r_at).0.place leads_there.place
          (sym (spots_lead.own world_then q r_at).0.found ∙ (later.0.found ∙ ap (λ (s : Spot). Found s) later.1))

      goes_new : (sides m).code.step x q ≡ Went world_then process_then
      goes_new =
          steps_obey.stores frames_limit (object_of m ∷ []) x q (object_of m) new_inst world_then leads_there.place others _ reach goes_there.1
          (subst (λ (s : Spot). with_words_at world_then q s others ≡ Found (memory world_then (with_frames q (with_words q.frame others) q.below q.made)))
          same_place ((spots_lead.own world_then q r_at).1 others))

      pub new_step : (instr : Instr) → slice_get p.frame.code p.frame.pc ≡ Some instr → is_tidied instr ≡ false → suc j < (row_of m f p.frame.pc instr).size
          → (l : ℕ)
          → ((now : Facts) (y : World) (r : Process) (box : ℕ) (on : On m now i y (into ∷ []) n f (suc j) p r) → Called m now y ng g h c → Made r c
          → Box m now i y t r_at r on.words.own box words_made → HoldTheSame m now i y p r → Way (sides m) (place m) l now i y p r)
          → Next m b i p l k w x q
      new_step instr here plain more l way =
          let stored = goes_there.0 in
          let after = (boxed stored).0 in
          let bx = box_then stored in
          let called_then = called_later m k i x ng g h c called facts_then world_then (grows stored) (omega arith) in
          let made : Made process_then c = record {
            made = has.made;
            address = stays stored made_place (omega arith) ∙ has.address;
            newer = has.newer;
          } in
          making_by m b i p n f ng g h named k facts_then w x world_then [] (into ∷ []) j q process_then c on hold worlds instr here plain more
          goes_new (new_changes m i k w x worlds q.frame.serial words_made (new_bare m.adts t))
          (new_alike m i k w x worlds q.frame.serial words_made (new_bare m.adts t)) after called_then made
          (slot_accounted m i p f into facts_then world_then process_then (code.process_names p)
          (box_accounted m i p process_then t serial words_made r_at facts_then world_then (boxed stored).0.words.own bx (code.process_names p)))
          (leads_on m i p f into (unnamed m k i x n f j p q on into few clean) facts_then world_then process_then) l
          (way facts_then world_then process_then serial after called_then made bx)
