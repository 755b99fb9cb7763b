-- Instructions that make a record to which the spare word refers, that fill it, and that let it go.
use Rattle.std.proofs.Common.{◌≡◌, ℕ, zero, suc, pos, ◌+◌, ◌*◌, ◌/◌, ◌<◌, Bool, true, false, List, [], ◌∷◌, length, Option, Some, None}
use Rattle.std.proofs.Common.{refl, ap, ◌∙◌, subst, arith, inl, inr, if◌then◌else◌}
use Rattle.std.specs.Prelude.{slice_get}
use Rattle.process_model.specs.Process.{Went}
use Rattle.process_model.specs.Follows.{Only}
use Rattle.system_model.specs.Limits.{frames_limit}
use Rattle.heap_model.specs.Heap.{at, there}
use Rattle.heap_model.specs.Facts.{Covers}
use Rattle.limbo_types.specs.Types.{Ty}
use Rattle.limbo_layout.specs.Adts.{Def, Has}
use Rattle.limbo_layout.specs.Layout.{Laid}
use Rattle.limbo_typed.specs.Typed as typed
use Rattle.limbo_meaning.specs.Process.{Shared}
use Rattle.core_code.specs.Machine as code
use Rattle.core_typing.specs.Held as held
use Rattle.dis_isa.specs.declared.inst.Inst.{Inst}
use Rattle.dis_isa.specs.declared.inst.Operand.TheVariants as operand
use Rattle.dis_isa.specs.declared.inst.Middle.TheVariants as middle
use Rattle.dis_isa.specs.declared.op.Op.TheVariants as op
use Rattle.dis_file.specs.declared.types.TypeDesc.{TypeDesc}
use Rattle.dis_file.specs.References.{marks}
use Rattle.dis_meaning.specs.Words.{Word, Plain, Refer, Found, word_at, blank, blanks}
use Rattle.dis_meaning.specs.Process.{Process}
use Rattle.dis_memory.specs.Blocks.{Record, World, next_serial}
use Rattle.dis_memory.specs.Step.{obey}
use Rattle.value_words.specs.Facts.{Facts, Grows}
use Rattle.value_words.proofs.Blank.{laid_within}
use Rattle.value_heaps.proofs.Marks.{at_word}
use Rattle.value_frames.specs.Frames.{answer_place, spare_place, box_bytes, room_for, frame_bytes, frame_references}
use Rattle.value_frames.specs.Types.{desc, AreOf}
use Rattle.value_frames.specs.Standing.{WordsAre}
use Rattle.value_frames.specs.Slots.{ElseAsWas}
use Rattle.value_frames.proofs.Slots.{slots_change}
use Rattle.value_frames.proofs.Replacing.{kinds_stay}
use Rattle.value_frames.proofs.Beginning.{frames_begin}
use Rattle.value_moves.specs.Operands.{inst, own, behind}
use Rattle.value_moves.specs.Spots.{Leads}
use Rattle.value_moves.proofs.Leading.{spots_lead}
use Rattle.value_moves.proofs.Changing.{low_or_high}
use Rattle.value_code.specs.Objects.{object_of}
use Rattle.number_effects.specs.Giving.{with_word, WordStored, StoresWord, after}
use Rattle.number_effects.specs.Stepping.{Reaches}
use Rattle.number_effects.proofs.Records.{words_move}
use Rattle.number_effects.proofs.Stepping.{steps_obey}
use Rattle.block_effects.proofs.Giving.{stores_behind}
use Rattle.value_follows.specs.Stands.{types_of, ReferNowhere}
use Rattle.value_follows.specs.Sides.{sides, HoldTheSame}
use Rattle.value_follows.specs.Rows.{Base}
use Rattle.value_follows.proofs.Putting.{word_same}
use Rattle.rows_dropping.proofs.Spare.{OnWay, Mine, Changed, way_later, mine_later, words_after, way_then, moved}
use Rattle.rows_dropping.proofs.Making.{with_new, making, new_is, unmade, new_made, new_formed, new_changed}
use Rattle.rows_dropping.proofs.Making.{with_other, other_is, other_worlds, other_changes, other_changed}

-- ---- a record as it is made

blanks_bare : (d : TypeDesc) (from count : ℕ) → ReferNowhere (blanks d from count)
blanks_bare d from zero b h = h
blanks_bare d from (suc n) b (inl e) = go (marks d.map from) e
  where
    go : (h : Bool) → (if h then Refer None else Plain (pos 0)) ≡ Refer (Some b) → ⊥
    go true e = cc
    go false e = cc
blanks_bare d from (suc n) b (inr h) = blanks_bare d (suc from) n b h

module _ (defs : List Def) (t : Ty) where
  abbrev pub record_desc : TypeDesc
  record_desc = desc (box_bytes defs t) (room_for defs t).references

  abbrev pub new_words : List Word
  new_words = blank record_desc

  pub new_bare : ReferNowhere new_words
  new_bare = blanks_bare record_desc 0 (box_bytes defs t / 4)

  pub new_kind : Laid defs t (room_for defs t) → AreOf (box_bytes defs t) (room_for defs t).references new_words
  new_kind laid =
      frames_begin.kind (box_bytes defs t) (room_for defs t).references (omega arith)
      (λ o h. (at_word defs t (room_for defs t) o laid h, (let l = laid_within defs t (room_for defs t) laid o h in omega (arith, l))))

module _ (m : typed.Module) (i : ℕ) (p : code.Process) where
  -- The spare word of a process on its way refers to such a record.
  pub record Spares (so_far : Facts → List Word → Type 0) (known : held.Slots) (busy : List ℕ) (far : ℕ) (k : Facts) (x : World) (q : Process)
      : Type 0 where
    pub way : OnWay m i p known busy far k x q
    pub mine : Mine m i p way.stands.is.words.own (spare_place m.adts (types_of m way.stands.is.function)) so_far k x q

  pub spares_later : (b : Base m) (so_far : Facts → List Word → Type 0) → ((k now : Facts) (ws : List Word) → Grows k now → so_far k ws → so_far now ws)
      → (known : held.Slots) (busy : List ℕ) (far : ℕ) (k now : Facts) (x y : World) (q : Process) → Spares so_far known busy far k x q
      → (sides m).leaves i k now x y → HoldTheSame m now i y p q → Spares so_far known busy far now y q
  spares_later b so_far grows known busy far k now x y q s left hold =
      let way = way_later m i p b k now x y q left hold known busy far s.way in
      record {
        way = way.0;
        mine = mine_later m i p b k now x y q left hold s.way.stands.is.words.own way.0.stands.is.words.own
            (spare_place m.adts (types_of m s.way.stands.is.function)) (spare_place m.adts (types_of m way.0.stands.is.function))
            so_far (λ ws h. grows k now ws left.0.grows h) way.1.own
            (ap (λ f. spare_place m.adts (types_of m f)) way.1.function) s.mine;
      }

  -- ---- the spare word is another one

  module _ (known : held.Slots) (busy : List ℕ) (far : ℕ) (k : Facts) (x : World) (q : Process) (s : OnWay m i p known busy far k x q) where
    abbrev types : List Ty
    types = types_of m s.stands.is.function

    abbrev pub spare_at : ℕ
    spare_at = spare_place m.adts types

    module _ (r : Option ℕ) (stored : WordStored q.frame.words spare_at (Refer r)) where
      abbrev pub with_spare : List Word
      with_spare = with_word q.frame.words spare_at (Refer r)

      spare_else : ElseAsWas q.frame.words with_spare spare_at 4
      spare_else = record {
        each = λ u no. elim (low_or_high (4 * u) spare_at) [
          | inl low ↦ stored.changes.words u (inl (omega (arith, low)))
          | inr high ↦ elim (low_or_high (4 * u) (spare_at + 4)) [
            | inl within ↦ absurd (no (high, within))
            | inr past ↦ stored.changes.words u (inr (omega (arith, past)))
          ]
        ];
      }

      spare_kind : AreOf (frame_bytes m.adts types (length p.frame.slots)) (frame_references m.adts types (length p.frame.slots)) with_spare
      spare_kind =
          kinds_stay.all (frame_bytes m.adts types (length p.frame.slots)) (frame_references m.adts types (length p.frame.slots)) q.frame.words with_spare
          s.stands.is.words.kind stored.changes.many stored.changes.refer stored.changes.referred
          (stored.ranged (λ z e. absurd cc) s.stands.is.words.kind.ranged)

      pub spare_answer : word_at with_spare (pos answer_place) ≡ word_at q.frame.words (pos answer_place)
      spare_answer = word_same q.frame.words with_spare answer_place (stored.changes.words (answer_place / 4) (inl (omega arith)))

      module _ (k' : Facts) (x' : World) (c : ℕ) (d : Changed m i p s.stands.is.words.own q.frame.serial c k k' x x') where
        pub spare_words : (after : WordsAre m.adts k' x'.heap q.frame.serial busy types s.stands.is.known p.frame.variables p.frame.slots with_spare)
            × (after.own ≡ s.stands.is.words.own)
        spare_words =
            let before = words_after m i p known busy far k k' x x' q s c d in
            let change = slots_change.spare m.adts k' x'.heap q.frame.serial busy types s.stands.is.known p.frame.variables p.frame.slots
            q.frame.words with_spare before.0 spare_else spare_kind in
            (change.0, change.1 ∙ before.1)

        abbrev pub spare_process : Process
        spare_process = moved m i p known busy far k k' x x' q s c d busy with_spare spare_words.0 spare_words.1 spare_answer

        abbrev pub spare_way : OnWay m i p known busy (suc far) k' x' spare_process
        spare_way = way_then m i p known busy far k k' x x' q s c d busy with_spare spare_words.0 spare_words.1 spare_answer

    -- ---- it comes to refer to a new record

    module _ (w : Shared) (worlds : (sides m).worlds k w x) (t : Ty) (old : (r : Option ℕ) × (word_at q.frame.words (pos spare_at) ≡ Found (Refer r)))
        (type : ℕ) (typed_so : slice_get (object_of m).types type ≡ Some (record_desc m.adts t)) where
      abbrev pub new_inst : Inst
      new_inst = inst op.New (operand.Imm (pos type)) middle.None (own spare_at)

      abbrev pub world_then : World
      world_then = with_new m i k w x q.frame.serial (new_words m.adts t) worlds (new_bare m.adts t)

      abbrev pub facts_then : Facts
      facts_then = making m i k w x q.frame.serial (new_words m.adts t) worlds (new_bare m.adts t)

      abbrev lead : Leads x q (own spare_at) q.frame.words spare_at
      lead = (spots_lead.own x q spare_at).0

      new_stores : StoresWord (obey frames_limit (object_of m) x q new_inst op.New) world_then q lead.place q.frame.words spare_at (Refer (Some (next_serial x)))
      new_stores =
          words_move.new frames_limit (object_of m) x q new_inst type (record_desc m.adts t) q.frame.words spare_at lead old.0 (inl refl) refl typed_so old.1

      pub new_stored : WordStored q.frame.words spare_at (Refer (Some (next_serial x)))
      new_stored = new_stores.0

      pub change_then : Changed m i p s.stands.is.words.own q.frame.serial (next_serial x) k facts_then x world_then
      change_then =
          new_changed m i k w x q.frame.serial (new_words m.adts t) worlds (new_bare m.adts t) p s.stands.is.words.own s.stands.is.mine

      abbrev pub process_then : Process
      process_then = spare_process (Some (next_serial x)) new_stored facts_then world_then (next_serial x) change_then

      pub new_steps : Reaches (object_of m ∷ []) x q (object_of m) new_inst → (sides m).code.step x q ≡ Went world_then process_then
      new_steps reaches =
          steps_obey.stores frames_limit (object_of m ∷ []) x q (object_of m) new_inst world_then lead.place
          (with_spare (Some (next_serial x)) new_stored) _ reaches new_stores.1
          (stores_behind x q (Record (new_words m.adts t)) lead.place (with_spare (Some (next_serial x)) new_stored) _
          ((spots_lead.own x q spare_at).1 (with_spare (Some (next_serial x)) new_stored)))

      abbrev pub new_spares : Spares (λ k ws. ws ≡ new_words m.adts t) known busy (suc far) facts_then world_then process_then
      new_spares = record {
        way = spare_way (Some (next_serial x)) new_stored facts_then world_then (next_serial x) change_then;
        mine = record {
          block = next_serial x;
          inner = new_words m.adts t;
          word = new_stored.there;
          there = new_is m i k w x q.frame.serial (new_words m.adts t) worlds (new_bare m.adts t);
          unknown = (unmade m i k w x q.frame.serial (new_words m.adts t) worlds (new_bare m.adts t)).fact;
          made = new_made m i k w x q.frame.serial (new_words m.adts t) worlds (new_bare m.adts t);
          formed = new_formed m i k w x q.frame.serial (new_words m.adts t) worlds (new_bare m.adts t);
          apart = λ u h. change_then.apart u
              (subst (λ (o : ℕ → List ℕ). Has (o u) (next_serial x))
              (spare_words (Some (next_serial x)) new_stored facts_then world_then (next_serial x) change_then).1 h);
          covered = λ c h. absurd (new_bare m.adts t c h);
          so = refl;
        };
      }

    -- ---- a record that the process made gets other words

    module _ (w : Shared) (worlds : (sides m).worlds k w x) (place : ℕ) (so_far then_so : Facts → List Word → Type 0)
        (c : Mine m i p s.stands.is.words.own place so_far k x q) (others : List Word)
        (live : (d : ℕ) → Has others (Refer (Some d)) → there (at x.heap d) ≡ true)
        (covered : (d : ℕ) → Has others (Refer (Some d)) → Covers k (λ n. 0 < code.process_names p n) d) where
      abbrev pub world_filled : World
      world_filled = with_other m i k w x c.block c.inner others worlds c.there c.unknown c.made live (λ n. 0 < code.process_names p n) covered

      pub change_filled : Changed m i p s.stands.is.words.own q.frame.serial c.block k k x world_filled
      change_filled =
          other_changed m i k w x c.block c.inner others worlds c.there c.unknown c.made live (λ n. 0 < code.process_names p n) covered p
          s.stands.is.words.own q.frame.serial c.apart c.formed

      pub words_filled : (after : WordsAre m.adts k world_filled.heap q.frame.serial busy types s.stands.is.known p.frame.variables p.frame.slots q.frame.words)
          × (after.own ≡ s.stands.is.words.own)
      words_filled = words_after m i p known busy far k k x world_filled q s c.block change_filled

      abbrev pub process_filled : Process
      process_filled = moved m i p known busy far k k x world_filled q s c.block change_filled busy q.frame.words words_filled.0 words_filled.1 refl

      abbrev pub way_filled : OnWay m i p known busy (suc far) k world_filled process_filled
      way_filled = way_then m i p known busy far k k x world_filled q s c.block change_filled busy q.frame.words words_filled.0 words_filled.1 refl

      pub worlds_filled : (sides m).worlds k w world_filled
      worlds_filled = other_worlds m i k w x c.block c.inner others worlds c.there c.unknown c.made live (λ n. 0 < code.process_names p n) covered

      pub changes_filled : (sides m).changes (Only i) k k x world_filled
      changes_filled = other_changes m i k w x c.block c.inner others worlds c.there c.unknown c.made live (λ n. 0 < code.process_names p n) covered

      pub mine_filled : then_so k others → Mine m i p way_filled.stands.is.words.own place then_so k world_filled process_filled
      mine_filled so = record {
        block = c.block;
        inner = others;
        word = c.word;
        there = other_is m i k w x c.block c.inner others worlds c.there c.unknown c.made live (λ n. 0 < code.process_names p n) covered;
        unknown = c.unknown;
        made = c.made;
        formed = c.formed;
        apart = λ u h. c.apart u (subst (λ (o : ℕ → List ℕ). Has (o u) c.block) words_filled.1 h);
        covered = covered;
        so = so;
      }

      -- by an instruction that stores them there
      module _ (n : ℕ) (move : Inst) (reaches : Reaches (object_of m ∷ []) x q (object_of m) move) where
        abbrev pub leads_in : Leads x q (behind place n) c.inner n
        leads_in = (spots_lead.inner x q place c.block c.inner n c.word c.there).0

        pub fill_steps : obey frames_limit (object_of m) x q move move.op ≡ after x q leads_in.place others
            → (sides m).code.step x q ≡ Went world_filled process_filled
        fill_steps obeys =
            steps_obey.stores frames_limit (object_of m ∷ []) x q (object_of m) move x leads_in.place others _ reaches obeys
            ((spots_lead.inner x q place c.block c.inner n c.word c.there).1 others)
