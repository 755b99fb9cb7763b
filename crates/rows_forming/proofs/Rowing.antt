-- The instructions of the row of an operand: its size, the move, and that its slot is let go.
use Rattle.std.proofs.Common.{◌≡◌, ◌⊎◌, ℕ, suc, pos, ◌+◌, ◌*◌, ◌<◌, true, List, [], ◌∷◌, ◌++◌, length, Option, Some, None, refl}
use Rattle.std.proofs.Common.{sym, ap, subst, ◌∙◌, arith, inl, inr}
use Rattle.std.specs.Prelude.{slice_get, slice_index_or}
use Rattle.process_model.specs.Process.{Went}
use Rattle.process_model.specs.Follows.{Only}
use Rattle.process_ways.specs.Ways.{Way}
use Rattle.process_ways.proofs.On.{stepped}
use Rattle.heap_model.specs.Heap as heap
use Rattle.heap_model.specs.Heap.{there}
use Rattle.limbo_types.specs.Types as ty
use Rattle.limbo_types.specs.Types.{Ty}
use Rattle.limbo_layout.specs.Adts.{Has}
use Rattle.limbo_typed.specs.Typed as typed
use Rattle.limbo_meaning.specs.Process.{Shared}
use Rattle.limbo_meaning.specs.Values.{Value, Parts, fitted, parts_of, references, references_in, among}
use Rattle.limbo_meaning.specs.Places.{put_part}
use Rattle.system_model.specs.Limits.{frames_limit}
use Rattle.core_code.specs.Code.{Instr}
use Rattle.core_code.specs.Machine as code
use Rattle.core_code.specs.Slots as core
use Rattle.core_code.specs.Slots.{Slot, Holds}
use Rattle.core_code.specs.Terms.{part_types, count_of}
use Rattle.core_follows.proofs.Given.{counted}
use Rattle.core_typing.specs.Held as held
use Rattle.core_typing.specs.Held.{Held, Of}
use Rattle.dis_isa.specs.declared.inst.Inst.{Inst}
use Rattle.dis_isa.specs.declared.inst.Operand as isa
use Rattle.dis_isa.specs.declared.op.Op.TheVariants as op
use Rattle.dis_meaning.specs.Words.{Word, Refer, Found, word_at}
use Rattle.dis_meaning.specs.Process.{Process}
use Rattle.dis_memory.specs.Blocks.{World}
use Rattle.value_words.specs.Facts.{Facts}
use Rattle.value_words.specs.Stands as memory
use Rattle.value_words.proofs.Wholes.{stands_whole}
use Rattle.value_frames.specs.Frames.{Nowhere, AsNumber, AsReference, Boxed, form_of, reference_place, number_place, room_for, within}
use Rattle.value_frames.specs.Frames.{box_bytes, frame_bytes, frame_references}
use Rattle.value_frames.specs.Types.{AreOf}
use Rattle.value_frames.specs.Slots.{ElseAsWas}
use Rattle.value_frames.specs.Standing.{SlotStands, RefersIdly, nothing_there}
use Rattle.value_frames.proofs.Rest.{slots_rest}
use Rattle.value_frames.proofs.Replacing.{kinds_stay}
use Rattle.value_moves.specs.Operands.{own}
use Rattle.value_moves.specs.Spots.{Leads}
use Rattle.value_moves.specs.Writing.{Writes}
use Rattle.value_moves.proofs.Changing.{low_or_high}
use Rattle.value_moves.proofs.Leading.{spots_lead}
use Rattle.value_code.specs.Data.{OfRecord}
use Rattle.value_code.specs.Operands.{Scene, in_slot, in_box}
use Rattle.value_code.specs.Code.{Site, code_of, let_go}
use Rattle.value_code.specs.Objects.{object_of, of_function, size_at, type_number, globals}
use Rattle.value_code.proofs.Having.{objects_have}
use Rattle.number_effects.specs.Giving.{with_word, StoresWord, after}
use Rattle.number_effects.proofs.Records.{words_move}
use Rattle.number_effects.proofs.Stepping.{steps_obey}
use Rattle.dis_memory.specs.Step.{obey}
use Rattle.value_follows.specs.Stands.{types_of, Ready}
use Rattle.value_follows.specs.Sides.{sides, HoldTheSame}
use Rattle.value_follows.specs.Rows.{place, AreThere, Base, RowStands}
use Rattle.value_follows.proofs.Slots.{slot_is, of_type}
use Rattle.value_follows.proofs.Several.{Next, moved_to}
use Rattle.value_follows.proofs.Single.{nothing_changes}
use Rattle.rows_forming.proofs.Nothings.{nil_read}
use Rattle.rows_forming.proofs.Builds.{box_place, builds_hold, builds_way, only_one}
use Rattle.rows_forming.proofs.Moving.{DoesMove}
use Rattle.rows_forming.proofs.Operands.{Lying, lying, fits_word, same_form, inner_there_is}
use Rattle.rows_forming.proofs.Putting.{part_type, put_stands, put_kind, part_room, written_from, named_by_process}
use Rattle.rows_forming.proofs.Putting.{world_on, changes_on, alike_on, builds_on}
use Rattle.rows_forming.proofs.Placing.{instr, part_ty, Task, State, site, size, first_value, reaches_on, type_now, idle_now, Operand, operand, does_place, value_then}
use Rattle.rows_forming.proofs.Placing.{slots_then, ks_then, vs_then, live_then, ready_then, steps_silently, further}
use Rattle.rows_forming.proofs.SoFar.{SoFar, one_more, whole_is, in_more, pos_either}

module _ (m : typed.Module) (t : Ty) (variant : Option ℕ) (j part into from : ℕ) (b : Base m) (i : ℕ) (p : code.Process)
    (here : slice_get p.frame.code p.frame.pc ≡ Some (instr m t variant j part into from)) (number : ℕ) (f : typed.Function)
    (there_is : slice_get m.functions number ≡ Some f)
    (in_code : slice_get (of_function m f).code p.frame.pc ≡ Some (instr m t variant j part into from))
    (row : RowStands m number f p.frame.pc (instr m t variant j part into from)) (known : held.Slots)
    (task : Task m t variant j part into from known p) where
  abbrev w_ty : Ty
  w_ty = part_ty m t variant j part into from

  abbrev old_value : Value
  old_value = first_value m t variant j part into from b i p here number f there_is in_code row known task

  abbrev pub Now : (far box : ℕ) (inner : List Word) (value : Value) (q : Process) (k : Facts) (x : World) → Type 0
  Now far box inner value q k x = State m t variant j part into from b i p here number f there_is in_code row known task far box inner value q k x

  abbrev pub value_so : Value → List ℕ → Value
  value_so v mine = value_then m t variant j part into from b i p here number f there_is in_code row known task v mine

  abbrev pub the_site : Site
  the_site = site m t variant j part into from b i p here number f there_is in_code row known task

  abbrev pub the_size : ℕ
  the_size = size m t variant j part into from b i p here number f there_is in_code row known task

  -- Of what is there once the operand is.
  abbrev pub SoThen : Value → List ℕ → Type 0
  SoThen v mine =
      SoFar m.adts t variant (ks_then m t variant j part into from b i p here number f there_is in_code row known task v mine)
      (task.us ++ task.type ∷ []) (live_then m t variant j part into from b i p here number f there_is in_code row known task v mine)
      (vs_then m t variant j part into from b i p here number f there_is in_code row known task v mine)

  -- ---- a slot owns nothing that has an operand

  pub bare_now : (far box : ℕ) (inner : List Word) (value : Value) (q : Process) (k : Facts) (x : World) (s : Now far box inner value q k x)
      → s.stands.is.words.own from ≡ []
  bare_now far box inner value q k x s =
      let n_at = number_place m.adts (types_of m s.stands.is.function) from in
      let r_at = reference_place m.adts (types_of m s.stands.is.function) from in
      let own_blocks = s.stands.is.words.own from in
      let h = of_type (held.slot s.stands.is.known from) task.type (ap (λ (ks : held.Slots). held.type_held (held.slot ks from)) s.known_is ∙ task.type_is) in
      let stands = subst (λ h. SlotStands m.adts k x.heap q.frame.serial q.frame.words n_at r_at h (core.slot p.frame.slots from) own_blocks) h.1
      (slot_is m k i x (into ∷ []) p.frame q.frame s.stands.is from task.below (λ e. task.apart (sym (only_one into from e)))) in
      let v = slots_rest.is_value m.adts k x.heap q.frame.serial q.frame.words n_at r_at task.type h.0 (core.slot p.frame.slots from) own_blocks stands in
      (slots_rest.reads m.adts k x.heap q.frame.serial q.frame.words n_at r_at task.type h.0 v.0 own_blocks
      (subst (λ o. SlotStands m.adts k x.heap q.frame.serial q.frame.words n_at r_at (Of task.type h.0) o own_blocks) v.1 stands)).bare

  -- ---- at one time

  module _ (far box : ℕ) (inner : List Word) (q : Process) (k : Facts) (w : Shared) (x : World) (s : Now far box inner old_value q k x)
      (hold : HoldTheSame m k i x p q) (worlds : (sides m).worlds k w x) where
    abbrev pub o : Operand m t variant j part into from b i p here number f there_is in_code row known task far box inner old_value q k w x s hold worlds
    o = operand m t variant j part into from b i p here number f there_is in_code row known task far box inner old_value q k w x s hold worlds

    pub known_from : held.slot known from ≡ Of task.type o.live
    known_from = ap (λ (ks : held.Slots). held.slot ks from) (sym s.known_is) ∙ o.known

    pub in_types : part < length (part_types m.adts t)
    in_types = (part_type m.adts t part w_ty ty.Nothing task.has).0

    -- what is there once the operand is, which is whole
    module _ (fit : o.value ≡ fitted m.adts w_ty o.value) where
      count : length (references o.value) ≡ count_of m.adts (slice_index_or (part_types m.adts t) part ty.Int)
      count =
          ap (λ (v : Value). length (references v)) fit
          ∙ (counted m.adts w_ty o.value ∙ ap (count_of m.adts) (sym (part_type m.adts t part w_ty ty.Int task.has).1))

      pub so_then : SoThen o.value o.live
      so_then = one_more m.adts t variant task.ks task.us task.live task.vs task.so k inner s.is part into from task.new task.type w_ty task.has
          o.value o.live count o.names

      pub value_is : value_so o.value o.live ≡ Parts (put_part part o.value (parts_of old_value))
      value_is = whole_is m.adts t variant task.ks task.us task.live task.vs task.so k inner s.is part into from task.new task.type w_ty task.has
          o.value o.live count o.names

      pub named_then : (n : ℕ) → 0 < among n (references (value_so o.value o.live)) → 0 < code.process_names p n
      named_then n l =
          let c = in_more n task.vs o.value in
          let a = so_then.names n l in
          elim (pos_either (among n (references_in task.vs)) (among n (references o.value)) (omega (arith, a, c))) [
            | inl y ↦ s.named n (task.so.named n y)
            | inr y ↦ named_by_process p from o.value o.holds n y
          ]

      pub leads_then : (n : ℕ) → 0 < core.slot_names (core.slot p.frame.slots into) n → 0 < among n (references (value_so o.value o.live))
      leads_then n l =
          let c = in_more n task.vs o.value in
          let a = task.named n l in
          so_then.named n (omega (arith, a, c))

    -- ---- the move

    module _ (where_so : Process → Type 0) (is_so : where_so q) (move : ℕ → isa.Operand → isa.Operand → Inst)
        (moves : DoesMove m.adts w_ty where_so move) (some : form_of w_ty ≡ Nowhere → ⊥) where
      abbrev pub source_op : isa.Operand
      source_op = in_slot the_site.scene w_ty from

      abbrev pub target_op : isa.Operand
      target_op = in_box the_site.scene into (within m.adts t (part ∷ []))

      abbrev pub move_inst : Inst
      move_inst = move (type_number m (OfRecord w_ty)) source_op target_op

      pub lies : Lying m k i w x p q (into ∷ []) s.stands.is hold worlds (globals m) from task.below
          (idle_now m t variant j part into from b i p here number f there_is in_code row known task far box inner old_value q k w x s hold worlds)
          task.type w_ty
          (type_now m t variant j part into from b i p here number f there_is in_code row known task far box inner old_value q k w x s hold worlds)
          task.fits task.safe o.value
      lies = lying m k i w x p q (into ∷ []) s.stands.is hold worlds (globals m) from task.below
          (idle_now m t variant j part into from b i p here number f there_is in_code row known task far box inner old_value q k w x s hold worlds)
          task.type w_ty
          (type_now m t variant j part into from b i p here number f there_is in_code row known task far box inner old_value q k w x s hold worlds)
          task.fits task.safe (form_of w_ty) refl some o

      scene_of : typed.Function → Scene
      scene_of g = record { adts = m.adts; globals = globals m; variables = types_of m g }

      pub source_leads : Leads x q source_op lies.words lies.place
      unfolding scene_of
      source_leads = subst (λ (g : typed.Function). Leads x q (in_slot (scene_of g) w_ty from) lies.words lies.place) s.function_is lies.leads

      abbrev pub target_leads : Leads x q target_op inner (within m.adts t (part ∷ []))
      target_leads = (spots_lead.inner x q (box_place m number f t into) box inner (within m.adts t (part ∷ [])) s.word s.there).0

      pub fit : o.value ≡ fitted m.adts w_ty o.value
      fit = stands_whole m.adts k lies.words lies.place w_ty o.value lies.lies.stands

      pub record Moved : Type 0 where
        pub others : List Word
        pub writes : Writes inner others (within m.adts t (part ∷ [])) lies.words lies.place (room_for m.adts w_ty).size
        pub obeys : obey frames_limit (object_of m) x q move_inst move_inst.op ≡ after x q target_leads.place others

      pub moved : Moved
      moved =
          let types = objects_have.types m number f p.frame.pc (instr m t variant j part into from) (OfRecord w_ty) there_is in_code (inr (inl refl)) in
          let go = moves k frames_limit (object_of m) x q o.value (type_number m (OfRecord w_ty)) source_op target_op lies.words inner lies.place
          (within m.adts t (part ∷ [])) source_leads target_leads lies.lies
          (part_room m.adts k t inner old_value s.kind s.is part in_types) types is_so in
          record { others = go.0; writes = go.1; obeys = go.2 }

      module _ (d : Moved) where
        pub kind_then : AreOf (box_bytes m.adts t) (room_for m.adts t).references d.others
        kind_then = put_kind m.adts k t inner old_value s.kind s.is part in_types lies.words d.others lies.place o.value lies.lies d.writes

        pub stands_then : memory.Stands m.adts k d.others 0 t (value_so o.value o.live)
        stands_then =
            subst (λ (v : Value). memory.Stands m.adts k d.others 0 t v) (sym (value_is fit))
            (put_stands m.adts k t inner old_value s.kind s.is part in_types lies.words d.others lies.place o.value lies.lies d.writes)

        pub led_then : (n : ℕ) → Has d.others (Refer (Some n)) → there (heap.at x.heap n) ≡ true
        led_then n h =
            elim (written_from inner d.others (within m.adts t (part ∷ [])) lies.words lies.place (room_for m.adts w_ty).size d.writes n h) [
              | inl y ↦ inner_there_is m k i w x p q (into ∷ []) s.stands.is hold worlds box inner s.there n y
              | inr y ↦ lies.led n y
            ]

        abbrev pub world_then : World
        world_then =
            world_on m b number f t into far box inner old_value known i p q k w x s worlds d.others (value_so o.value o.live) kind_then stands_then
            led_then (named_then fit) (leads_then fit)

        abbrev pub process_then : Process
        process_then = moved_to q (suc q.frame.pc) q.frame.words

        pub builds_then : Now (suc far) box d.others (value_so o.value o.live) process_then k world_then
        builds_then =
            builds_on m b number f t into far box inner old_value known i p q k w x s worlds d.others (value_so o.value o.live) kind_then stands_then
            led_then (named_then fit) (leads_then fit)

        pub changes_then : (sides m).changes (Only i) k k x world_then
        changes_then =
            changes_on m b number f t into far box inner old_value known i p q k w x s worlds d.others (value_so o.value o.live) kind_then stands_then
            led_then (named_then fit) (leads_then fit)

        pub alike_then : (sides m).worlds k w world_then
        alike_then =
            alike_on m b number f t into far box inner old_value known i p q k w x s worlds d.others (value_so o.value o.live) kind_then stands_then
            led_then (named_then fit) (leads_then fit)

        module _ (at : slice_get (code_of the_site (instr m t variant j part into from)) far ≡ Some move_inst) where
          steps_then : (sides m).code.step x q ≡ Went world_then process_then
          steps_then =
              steps_obey.stores frames_limit (object_of m ∷ []) x q (object_of m) move_inst x target_leads.place d.others _
              (reaches_on m t variant j part into from b i p here number f there_is in_code row known task far box inner old_value q k w x s hold
              worlds move_inst at) d.obeys
              ((spots_lead.inner x q (box_place m number f t into) box inner (within m.adts t (part ∷ [])) s.word s.there).1 d.others)

          there_then : AreThere m world_then process_then
          there_then = b.there_again x world_then q process_then steps_then worlds.0.closed (λ n h. hold.same.live n (hold.same.roots n h))

          -- it is the last instruction
          pub last_move : form_of w_ty ≡ AsNumber → the_size ≡ suc far → Next m b i p 0 k w x q
          last_move form long =
              let g = ap (λ (c : Option Instr). size_at m f.of.answer (of_function m f) p.frame.pc c) in_code in
              let e = s.pc in
              let same : s.stands.is.function ≡ builds_then.stands.is.function = s.function_is ∙ sym builds_then.function_is in
              let idle = subst (λ (h : typed.Function). RefersIdly m.adts k q.frame.words (reference_place m.adts (types_of m h) from)) same
              (o.reads.beside (same_form task.type w_ty task.fits ∙ form)) in
              let r = code.with_frames p (code.at p.frame (suc p.frame.pc) p.frame.variables
              (slots_then m t variant j part into from b i p here number f there_is in_code row known task o.value o.live)) p.below in
              let ready : Ready m k i world_then r process_then =
              ready_then m t variant j part into from b i p here number f there_is in_code row known task o.value o.live (suc far) box d.others
              process_then k world_then builds_then w alike_then (so_then fit) known_from
              (bare_now (suc far) box d.others (value_so o.value o.live) process_then k world_then builds_then) q.frame.words
              (record { each = λ u no. refl }) builds_then.stands.is.words.kind idle (suc q.frame.pc) (omega (arith, e, long, g)) in
              stepped (sides m) (place m) (λ l z r t. Way (sides m) (place m) 0 l i z r t) k k i w x world_then p q process_then steps_then changes_then
              w r (does_place m t variant j part into from b i p here number f there_is in_code row known task o.value o.live w o.holds) alike_then
              (ready, b.holds_again k i w world_then r process_then ready alike_then there_then)

          -- or the operand's slot is let go then
          pub first_move : suc far < the_size
              → ((now : Facts) (v : Shared) (y : World) → Now (suc far) box d.others (value_so o.value o.live) process_then now y
              → HoldTheSame m now i y p process_then → (sides m).worlds now v y → Next m b i p 0 now v y process_then)
              → Next m b i p 1 k w x q
          first_move l does =
              steps_silently m b i p 1 k k w x world_then q process_then steps_then changes_then alike_then
              (further m b i p number f (instr m t variant j part into from) there_is in_code refl far q process_then l s.pc builds_then.pc)
              (builds_way m number f t into b 0 (suc far) box d.others (value_so o.value o.live) known i p process_then k world_then builds_then
              (builds_hold m number f t into b (suc far) box d.others (value_so o.value o.live) known i p process_then k world_then builds_then w alike_then
              there_then) does)

  -- ---- the operand's slot is let go

  module _ (v : Value) (mine : List ℕ) (far box : ℕ) (inner : List Word) (q : Process) (k : Facts) (w : Shared) (x : World)
      (s : Now far box inner (value_so v mine) q k x) (hold : HoldTheSame m k i x p q) (worlds : (sides m).worlds k w x) (so : SoThen v mine)
      (holds_v : core.slot p.frame.slots from ≡ Holds v) (known_v : held.slot known from ≡ Of task.type mine)
      (form : (form_of w_ty ≡ AsReference) ⊎ (form_of w_ty ≡ Boxed)) where
    abbrev r_at : ℕ
    r_at = reference_place m.adts (types_of m s.stands.is.function) from

    refers_now : (r : Option ℕ) × (word_at q.frame.words (pos r_at) ≡ Found (Refer r))
    refers_now =
        let o = operand m t variant j part into from b i p here number f there_is in_code row known task far box inner (value_so v mine) q k w x s hold
        worlds in
        elim form [
          | inl e ↦
              let one = fits_word m.adts k q.frame.words r_at task.type w_ty o.value e task.fits task.safe
              (o.reads.reference (same_form task.type w_ty task.fits ∙ e)) in
              (one.refers, one.word)
          | inr e ↦ let box = o.reads.boxed (same_form task.type w_ty task.fits ∙ e) in (Some box.0, box.2)
        ]

    abbrev go_inst : Inst
    go_inst = let_go the_site.scene from

    abbrev go_at : ℕ
    go_at = reference_place m.adts (types_of m f) from

    same_place : r_at ≡ go_at
    same_place = ap (λ (g : typed.Function). reference_place m.adts (types_of m g) from) s.function_is

    abbrev others : List Word
    others = with_word q.frame.words go_at (Refer None)

    abbrev go_leads : Leads x q (own go_at) q.frame.words go_at
    go_leads = (spots_lead.own x q go_at).0

    stored : StoresWord (obey frames_limit (object_of m) x q go_inst op.Movp) x q go_leads.place q.frame.words go_at (Refer None)
    stored =
        words_move.reference frames_limit (object_of m) x q go_inst None q.frame.words go_at go_leads refers_now.0 refl
        (nil_read m b k i w x p q (into ∷ []) s.stands.is hold worlds)
        (ap (λ (a : ℕ). word_at q.frame.words (pos a)) (sym same_place) ∙ refers_now.1)

    abbrev process_gone : Process
    process_gone = moved_to q (suc q.frame.pc) others

    else_as_was : ElseAsWas q.frame.words others (number_place m.adts (types_of m s.stands.is.function) from) 8
    else_as_was = record {
      each = λ u no.
          let e = same_place in
          elim (low_or_high (4 * u) (number_place m.adts (types_of m s.stands.is.function) from)) [
            | inl low ↦ stored.0.changes.words u (inl (omega (arith, low, e)))
            | inr high ↦ elim (low_or_high (4 * u) (number_place m.adts (types_of m s.stands.is.function) from + 8)) [
              | inl in_it ↦ absurd (no (high, in_it))
              | inr past ↦ stored.0.changes.words u (inr (omega (arith, past, e)))
            ]
          ];
    }

    pub empties : slice_get (code_of the_site (instr m t variant j part into from)) far ≡ Some go_inst → the_size ≡ suc far → Next m b i p 0 k w x q
    empties at long =
        let g = ap (λ (c : Option Instr). size_at m f.of.answer (of_function m f) p.frame.pc c) in_code in
        let e = s.pc in
        let is = s.stands.is in
        let types = types_of m is.function in
        let steps : (sides m).code.step x q ≡ Went x process_gone =
        steps_obey.stores frames_limit (object_of m ∷ []) x q (object_of m) go_inst x go_leads.place others _
        (reaches_on m t variant j part into from b i p here number f there_is in_code row known task far box inner (value_so v mine) q k w x s hold
        worlds go_inst at) stored.1 ((spots_lead.own x q go_at).1 others) in
        let kind = kinds_stay.all (frame_bytes m.adts types (length p.frame.slots)) (frame_references m.adts types (length p.frame.slots))
        q.frame.words others is.words.kind stored.0.changes.many stored.0.changes.refer stored.0.changes.referred
        (stored.0.ranged (λ z e. absurd cc) is.words.kind.ranged) in
        let r = code.with_frames p (code.at p.frame (suc p.frame.pc) p.frame.variables
        (slots_then m t variant j part into from b i p here number f there_is in_code row known task v mine)) p.below in
        let ready : Ready m k i x r process_gone =
        ready_then m t variant j part into from b i p here number f there_is in_code row known task v mine far box inner q k x s w worlds so known_v
        (bare_now far box inner (value_so v mine) q k x s) others else_as_was kind
        (None, ap (λ (a : ℕ). word_at others (pos a)) same_place ∙ stored.0.there, nothing_there) (suc q.frame.pc) (omega (arith, e, long, g)) in
        stepped (sides m) (place m) (λ l z r t. Way (sides m) (place m) 0 l i z r t) k k i w x x p q process_gone steps (nothing_changes m k i x)
        w r (does_place m t variant j part into from b i p here number f there_is in_code row known task v mine w holds_v) worlds (
          ready,
          b.holds_again k i w x r process_gone ready worlds
              (b.there_again x x q process_gone steps worlds.0.closed (λ n h. hold.same.live n (hold.same.roots n h))),
        )
