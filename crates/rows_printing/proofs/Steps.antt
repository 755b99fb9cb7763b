-- The instructions that move operands to the frame of a print: words up to the last that refers by their type, and bytes behind them.
use Rattle.std.proofs.Common.{◌≡◌, ℕ, suc, pos, ◌+◌, ◌-◌, ◌*◌, ◌<◌, ◌≤◌, ◌/◌, ◌%◌, List, [], ◌∷◌, length, Some, inr, refl, sym, ap, ◌∙◌, subst, arith}
use Rattle.std.specs.Prelude.{slice_get}
use Rattle.process_model.specs.Process.{Went}
use Rattle.process_ways.specs.Ways.{Way}
use Rattle.system_model.specs.Limits.{frames_limit}
use Rattle.limbo_layout.specs.Adts.{Has}
use Rattle.limbo_layout.specs.Layout.{Room, limit}
use Rattle.limbo_values.specs.declared.number.Kind.TheVariants.{Int}
use Rattle.limbo_typed.specs.Typed as typed
use Rattle.limbo_typed.specs.declared.print.Piece.{Piece}
use Rattle.limbo_meaning.specs.Process.{Shared}
use Rattle.core_code.specs.Code.{Print}
use Rattle.core_code.specs.Machine as code
use Rattle.core_code.specs.Slots as core
use Rattle.core_code.specs.Slots.{slot_names}
use Rattle.dis_isa.specs.declared.inst.Inst.{Inst}
use Rattle.dis_isa.specs.declared.inst.Middle.TheVariants as middle
use Rattle.dis_isa.specs.declared.inst.Operand as isa
use Rattle.dis_isa.specs.declared.inst.Operand.TheVariants as operand
use Rattle.dis_isa.specs.declared.op.Op.TheVariants as op
use Rattle.dis_meaning.specs.Words.{Word, Plain, Access, Found, ◌>>=◌, number_in}
use Rattle.dis_meaning.specs.Numbers.{number_at}
use Rattle.dis_meaning.specs.Process.{Process, at_pc, with_words, with_frames}
use Rattle.dis_meaning.specs.Places.{with_frame_words}
use Rattle.dis_memory.specs.Blocks.{World}
use Rattle.dis_memory.specs.Places.{memory, given_of}
use Rattle.dis_memory.specs.Step.{obey}
use Rattle.value_words.specs.Contents.{AreInRange}
use Rattle.value_words.specs.Facts.{Facts}
use Rattle.value_words.proofs.Blank.{has_map, mapped}
use Rattle.value_frames.specs.Frames.{linkage_bytes, passing_place, made_place, reference_place}
use Rattle.value_frames.specs.Types.{desc}
use Rattle.value_frames.proofs.Replacing.{kinds_stay}
use Rattle.value_moves.specs.Operands.{inst, own, behind, size_middle}
use Rattle.value_moves.specs.Spots.{Leads, LeadsAndStores}
use Rattle.value_moves.specs.Writing.{Writes}
use Rattle.value_moves.proofs.Copying.{Readable}
use Rattle.value_moves.proofs.Leading.{spots_lead}
use Rattle.value_code.specs.Code.{code_of}
use Rattle.value_code.specs.Objects.{object_of}
use Rattle.number_effects.specs.Giving.{with_word, after}
use Rattle.number_effects.specs.Stepping.{on_next}
use Rattle.number_effects.proofs.Reading.{operands_are_read}
use Rattle.number_effects.proofs.Records.{words_move}
use Rattle.number_effects.proofs.Stepping.{steps_obey}
use Rattle.value_follows.specs.Stands.{types_of}
use Rattle.value_follows.specs.Sides.{sides, HoldTheSame}
use Rattle.value_follows.specs.Rows.{place, Base, site_of}
use Rattle.value_follows.proofs.Putting.{word_same}
use Rattle.value_follows.proofs.Several.{Next}
use Rattle.rows_calling.proofs.OnTheWay.{row_here, reaches_it}
use Rattle.rows_calling.proofs.Linking.{linked}
use Rattle.rows_calling.proofs.Making.{made_words, made_stored}
use Rattle.rows_calling.proofs.Answering.{on_further}
use Rattle.rows_forming.proofs.Sizing.{passing_word, small_range}
use Rattle.rows_printing.proofs.Framing.{frame_size, frame_offsets}
use Rattle.rows_printing.proofs.Lying.{HasRow, marked, readable}
use Rattle.rows_printing.proofs.Moving.{typed_goes, bytes_go, both_written}
use Rattle.rows_printing.proofs.Passing.{Passing, passing_by, now_there, same_words, lies, even, within, room, front}
use Rattle.rows_printing.proofs.Way.{size}

module _ (m : typed.Module) (b : Base m) (i : ℕ) (p : code.Process) (n : ℕ) (f : typed.Function) (ps : List Piece) (into a : ℕ)
    (here : slice_get p.frame.code p.frame.pc ≡ Some (Print ps into (Some a)))
    (none : (s : ℕ) → slot_names (core.slot p.frame.slots into) s ≡ 0) (apart : into ≡ a → ⊥) where
  abbrev r_at : ℕ
  r_at = reference_place m.adts (types_of m f) a

  abbrev the_room : Room
  the_room = room m b i p n f ps into a here none

  abbrev the_front : ℕ
  the_front = front m b i p n f ps into a here none

  abbrev the_size : ℕ
  the_size = size m b i p n f ps into (Some a) here none

  abbrev pub Now : (k : Facts) (x : World) (j : ℕ) (q : Process) (done : ℕ) → Type 0
  Now k x j q done = Passing m b i p n f ps into a here none k x j q done

  abbrev pub front_inst : ℕ → Inst
  front_inst type = inst op.Movmp (behind r_at 0) (middle.Imm (pos type)) (behind made_place linkage_bytes)

  abbrev pub rest_inst : (rest : ℕ) → Inst
  rest_inst rest = inst op.Movm (behind r_at the_front) (size_middle rest) (behind made_place (linkage_bytes + the_front))

  abbrev pub size_inst : (rest : ℕ) → Inst
  size_inst rest = inst op.Movw (operand.Imm (pos rest)) middle.None (own passing_place)

  -- the instruction of a number stands in the row
  abbrev pub Stands : ℕ → Inst → Type 0
  Stands j it = (at : ℕ) → slice_get (code_of (site_of m n f p.frame.pc at) (Print ps into (Some a))) j ≡ Some it

  module _ (k : Facts) (x : World) (j : ℕ) (q : Process) (done : ℕ) (s : Now k x j q done) where
    from : HasRow s.inner 0 the_room
    from =
        subst (λ (ws : List Word). HasRow ws 0 the_room) (same_words m b i p n f ps into a here none apart k x j q done s)
        (lies m b i p n f ps into a here none k x (into ∷ []) j q s.on (now_there m b i p n f ps into a here none apart k x j q done s))

    front_is_even : the_front % 4 ≡ 0
    front_is_even = even m b i p n f ps into a here none k x (into ∷ []) j q s.on (now_there m b i p n f ps into a here none apart k x j q done s)

    front_is_within : the_front ≤ the_room.size
    front_is_within = within m b i p n f ps into a here none k x (into ∷ []) j q s.on (now_there m b i p n f ps into a here none apart k x j q done s)

    pub ranged_inner : AreInRange s.inner
    ranged_inner = subst AreInRange (same_words m b i p n f ps into a here none apart k x j q done s) (now_there m b i p n f ps into a here none apart k x j q done s).own.kind.ranged

    target_row : HasRow s.frame.words linkage_bytes the_room
    target_row =
        let are = s.kind in
        let many = s.kind.many in
        record {
          even = refl;
          many = omega (arith, many);
          refer = λ o h. are.refer (linkage_bytes + o) (has_map (λ o. linkage_bytes + o) the_room.references o h);
          only = λ w to e low high.
              let h = mapped (λ o. linkage_bytes + o) the_room.references (4 * w) (are.only w to e) in
              let is = h.2 in
              subst (λ (o : ℕ). Has the_room.references o) (let z : h.0 ≡ 4 * w - linkage_bytes = omega (arith, is) in z) h.1;
        }

    module _ (w : Shared) (hold : HoldTheSame m k i x p q) (worlds : (sides m).worlds k w x) where
      abbrev process_then : List Word → Process
      process_then new = with_frames q (at_pc q.frame (suc q.frame.pc)) q.below (with_words s.frame new ∷ [])

      -- words are stored in it
      put_step : (it : Inst) → Stands j it → (dst : isa.Operand) (to : ℕ)
          → (lead : LeadsAndStores x q dst s.frame.words to (λ new. memory x (with_frame_words q s.frame.serial new))) → (new : List Word)
          → obey frames_limit (object_of m) x q it it.op ≡ after x q lead.0.place new → (first many more : ℕ)
          → Writes s.frame.words new to s.inner first many
          → Writes s.base new linkage_bytes s.inner 0 more → suc (suc j) < the_size → (l : ℕ)
          → ((r : Process) → Now k x (suc j) r more → HoldTheSame m k i x p r → Way (sides m) (place m) l k i x p r) → Next m b i p l k w x q
      put_step it at dst to lead new obeys first many more last written left l way =
          let step : (sides m).code.step x q ≡ Went x (process_then new) =
          steps_obey.stores frames_limit (object_of m ∷ []) x q (object_of m) it x lead.0.place new (memory x (with_frame_words q s.frame.serial new))
          (reaches_it m b i p q (into ∷ []) n f j k w x s.on hold worlds (Print ps into (Some a)) here it
          (at (row_here m b i p q (into ∷ []) n f j k w x s.on hold worlds (Print ps into (Some a)) here).at))
          obeys (lead.1 new)
          ∙ ap (λ (r : Process). Went x (on_next (memory x r))) (made_stored m k i x (into ∷ []) n f j p q s.on s.frame s.has new) in
          let now_so : Now k x (suc j) (process_then new) more = record {
            on = on_further m k i x (into ∷ []) n f j p q s.on (with_words s.frame new ∷ []);
            sys = record { box = s.sys.box; word = s.sys.word; carries = s.sys.carries };
            frame = with_words s.frame new;
            has = record { made = refl; address = s.has.address; newer = s.has.newer };
            instance = s.instance;
            kind = kinds_stay.all (frame_size m.adts ps) (frame_offsets m.adts ps) s.frame.words new s.kind last.many last.refer last.referred
                (last.ranged ranged_inner s.kind.ranged);
            base = s.base;
            bare = s.bare;
            box = s.box;
            inner = s.inner;
            box_is = record { word = s.box_is.word; there = s.box_is.there; free = s.box_is.free; made = s.box_is.made };
            written = written;
          } in
          passing_by m b i p n f ps into a here none apart k w x j q (process_then new) done more s hold worlds left step now_so l (way (process_then new) now_so)

      frame_lead : (at : ℕ)
          → LeadsAndStores x q (behind made_place at) s.frame.words (0 + at) (λ new. memory x (with_frame_words q s.frame.serial new))
      frame_lead at =
          spots_lead.frame x q made_place s.frame.serial 0 s.frame.words at s.has.address (made_words m k i x (into ∷ []) n f j p q s.on s.frame s.has)

      source_lead : (at : ℕ) → Leads x q (behind r_at at) s.inner at
      source_lead at = (spots_lead.inner x q r_at s.box s.inner at s.box_is.word s.box_is.there).0

      -- ---- words by their type

      pub front_step : done ≡ 0 → (type : ℕ) → slice_get (object_of m).types type ≡ Some (desc the_front the_room.references)
          → Stands j (front_inst type) → suc (suc j) < the_size → (l : ℕ)
          → ((r : Process) → Now k x (suc j) r the_front → HoldTheSame m k i x p r → Way (sides m) (place m) l k i x p r) → Next m b i p l k w x q
      front_step zero type types at left l way =
          let row_even = front_is_even in
          let row_within = front_is_within in
          let lead = frame_lead linkage_bytes in
          let goes = typed_goes frames_limit (object_of m) x q (behind r_at 0) (behind made_place linkage_bytes) s.inner s.frame.words 0 linkage_bytes
          (source_lead 0) lead.0 the_front refl refl row_even the_room.references
          (λ l less. marked s.inner 0 the_room from l (omega (arith, less, row_within)))
          (λ l less. marked s.frame.words linkage_bytes the_room target_row l (omega (arith, less, row_within))) type types in
          put_step (front_inst type) at (behind made_place linkage_bytes) linkage_bytes lead goes.0 goes.2 0 the_front the_front goes.1
          (both_written s.base s.frame.words goes.0 linkage_bytes s.inner 0 0 the_front the_front (omega arith)
          (subst (λ (d : ℕ). Writes s.base s.frame.words linkage_bytes s.inner 0 d) zero s.written) goes.1) left l way

      -- ---- bytes behind them

      pub rest_step : done ≡ the_front → (rest : ℕ) → the_front + rest ≡ the_room.size → given_of Int x q (size_middle rest) ≡ Found (pos rest)
          → Stands j (rest_inst rest) → suc (suc j) < the_size → (l : ℕ)
          → ((r : Process) → Now k x (suc j) r the_room.size → HoldTheSame m k i x p r → Way (sides m) (place m) l k i x p r) → Next m b i p l k w x q
      rest_step so_far rest size given at left l way =
          let row_even = front_is_even in
          let same : 0 + (linkage_bytes + the_front) ≡ linkage_bytes + the_front = omega arith in
          let lead = subst (λ (to : ℕ). LeadsAndStores x q (behind made_place (linkage_bytes + the_front)) s.frame.words to
          (λ new. memory x (with_frame_words q s.frame.serial new))) same (frame_lead (linkage_bytes + the_front)) in
          let goes = bytes_go frames_limit (object_of m) x q (behind r_at the_front) (behind made_place (linkage_bytes + the_front)) s.inner s.frame.words the_front
          (linkage_bytes + the_front) (source_lead the_front) lead.0 rest (size_middle rest) given
          (λ o less.
          let e : 0 + the_front + o ≡ the_front + o = omega arith in
          subst (Readable s.inner) e (readable s.inner 0 the_room from row_even o (omega (arith, less, size))))
          (λ o less. readable s.frame.words linkage_bytes the_room target_row row_even o (omega (arith, less, size))) in
          let nothing : 0 + the_front ≡ the_front = omega arith in
          put_step (rest_inst rest) at (behind made_place (linkage_bytes + the_front)) (linkage_bytes + the_front) lead goes.0 goes.2 the_front rest the_room.size goes.1
          (both_written s.base s.frame.words goes.0 linkage_bytes s.inner 0 the_front rest the_room.size size
          (subst (λ (d : ℕ). Writes s.base s.frame.words linkage_bytes s.inner 0 d) so_far s.written)
          (subst (λ (d : ℕ). Writes s.frame.words goes.0 (linkage_bytes + the_front) s.inner d rest) (sym nothing) goes.1)) left l way

      -- ---- their number, where it stands in the frame

      abbrev sized_words : ℕ → List Word
      sized_words rest = with_word q.frame.words passing_place (Plain (pos rest))

      abbrev sized_process : ℕ → Process
      sized_process rest = with_frames q (at_pc (with_words q.frame (sized_words rest)) (suc q.frame.pc)) q.below q.made

      pub size_step : (rest : ℕ) → rest ≤ limit → Stands j (size_inst rest) → suc (suc j) < the_size → (l : ℕ)
          → ((r : Process) → Now k x (suc j) r done → number_at Int r.frame.words (pos passing_place) ≡ Found (pos rest)
          → HoldTheSame m k i x p r → Way (sides m) (place m) l k i x p r) → Next m b i p l k w x q
      size_step rest small at left l way =
          let lead = (spots_lead.own x q passing_place).0 in
          let old = passing_word m.adts (types_of m f) (length p.frame.slots) q.frame.words s.on.words.kind in
          let stored = words_move.word frames_limit (object_of m) x q (size_inst rest) (Plain (pos rest)) q.frame.words passing_place lead old.0 refl
          (operands_are_read.source_plain_given x q (pos rest)) old.1 in
          let step : (sides m).code.step x q ≡ Went x (sized_process rest) =
          steps_obey.stores frames_limit (object_of m ∷ []) x q (object_of m) (size_inst rest) x lead.place (sized_words rest) _
          (reaches_it m b i p q (into ∷ []) n f j k w x s.on hold worlds (Print ps into (Some a)) here (size_inst rest)
          (at (row_here m b i p q (into ∷ []) n f j k w x s.on hold worlds (Print ps into (Some a)) here).at)) stored.1
          ((spots_lead.own x q passing_place).1 (sized_words rest)) in
          let now_so : Now k x (suc j) (sized_process rest) done = record {
            on = linked m k i x (into ∷ []) n f j p q s.on (sized_words rest) passing_place 4 (omega arith) (omega arith) stored.0.changes
                (stored.0.ranged (λ z e. small_range rest z small e) s.on.words.kind.ranged) q.made;
            sys = record {
              box = s.sys.box;
              word = word_same q.frame.words (sized_words rest) (reference_place m.adts (types_of m f) into) (stored.0.changes.words (reference_place m.adts (types_of m f) into / 4) (inr (omega arith))) ∙ s.sys.word;
              carries = s.sys.carries;
            };
            frame = s.frame;
            has = record {
              made = s.has.made;
              address = word_same q.frame.words (sized_words rest) made_place (stored.0.changes.words 7 (inr (omega arith))) ∙ s.has.address;
              newer = s.has.newer;
            };
            instance = s.instance;
            kind = s.kind;
            base = s.base;
            bare = s.bare;
            box = s.box;
            inner = s.inner;
            box_is = record {
              word = word_same q.frame.words (sized_words rest) r_at (stored.0.changes.words (r_at / 4) (inr (omega arith))) ∙ s.box_is.word;
              there = s.box_is.there;
              free = s.box_is.free;
              made = s.box_is.made;
            };
            written = s.written;
          } in
          passing_by m b i p n f ps into a here none apart k w x j q (sized_process rest) done done s hold worlds left step now_so l
          (way (sized_process rest) now_so (ap (λ (u : Access Word). u >>= number_in) stored.0.there))
