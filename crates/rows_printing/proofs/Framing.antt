-- The frame of a print is made, behind the load of Sys.
use Rattle.std.proofs.Common.{◌≡◌, ℕ, Bool, true, false, zero, suc, pos, ◌+◌, ◌/◌, ◌%◌, ◌<◌, ◌≤◌, List, [], ◌∷◌, ◌++◌, length, map, Option, Some, None, inl, inr, refl, ap, ◌∙◌, arith}
use Rattle.std.proofs.Common.{if◌then◌else◌}
use Rattle.std.specs.Prelude.{slice_get}
use Rattle.std.specs.Int.{next_multiple_of}
use Rattle.process_model.specs.Follows.{Only}
use Rattle.process_ways.specs.Ways.{Way}
use Rattle.system_model.specs.Limits.{frames_limit}
use Rattle.limbo_types.specs.Types as ty
use Rattle.limbo_types.specs.Types.{Ty}
use Rattle.limbo_layout.specs.Adts.{Def, Has}
use Rattle.limbo_layout.specs.Layout.{Room, nothing, behind as room_behind, all_behind, reference as reference_room, number as number_room}
use Rattle.limbo_layout.specs.Laying.{rooms_of}
use Rattle.limbo_layout.proofs.Rooms.{has_left, has_cases}
use Rattle.limbo_typed.specs.Typed as typed
use Rattle.limbo_values.specs.declared.number.Kind.TheVariants as kind
use Rattle.limbo_typed.specs.declared.print.Hole.TheVariants as hole
use Rattle.limbo_typed.specs.declared.print.Piece.{Piece}
use Rattle.limbo_typed.specs.declared.print.Piece.TheVariants as piece
use Rattle.limbo_meaning.specs.Process.{Shared}
use Rattle.core_code.specs.Rooms.{rooms_in}
use Rattle.core_code.specs.Code.{Print}
use Rattle.core_code.specs.Machine as code
use Rattle.core_code.specs.Slots as core
use Rattle.core_code.specs.Slots.{slot_names}
use Rattle.core_typing.specs.Needs.{printed}
use Rattle.dis_file.specs.References.{marks}
use Rattle.dis_file.specs.declared.types.TypeDesc.{TypeDesc}
use Rattle.dis_isa.specs.declared.inst.Inst.{Inst}
use Rattle.dis_isa.specs.declared.inst.Middle.TheVariants as middle
use Rattle.dis_isa.specs.declared.inst.Operand.TheVariants as operand
use Rattle.dis_isa.specs.declared.op.Op.TheVariants as op
use Rattle.dis_meaning.specs.Words.{Word, Plain, Refer, blank, blanks}
use Rattle.dis_meaning.specs.Process.{Frame, Process, with_words, with_frames}
use Rattle.dis_memory.specs.Blocks.{World}
use Rattle.dis_memory.specs.Places.{memory}
use Rattle.dis_memory.specs.Control.{with_frame_made, framed}
use Rattle.value_words.specs.Facts.{Facts}
use Rattle.value_words.proofs.Blank.{mapped}
use Rattle.value_frames.specs.Frames.{linkage_bytes, made_place, reference_place, row_of as all_room}
use Rattle.value_frames.specs.Types.{desc}
use Rattle.value_frames.proofs.Beginning.{frames_begin}
use Rattle.value_moves.specs.Operands.{inst, own}
use Rattle.value_moves.proofs.Leading.{spots_lead}
use Rattle.value_code.specs.Data.{PrintFrame}
use Rattle.value_code.specs.Objects.{object_of, type_number}
use Rattle.value_code.proofs.Having.{objects_have}
use Rattle.number_effects.specs.Giving.{with_word}
use Rattle.number_effects.specs.Control.{frame_address}
use Rattle.number_effects.specs.Stepping.{Reaches, on_next}
use Rattle.number_effects.proofs.Control.{control_goes}
use Rattle.number_effects.proofs.Stepping.{steps_obey}
use Rattle.value_follows.specs.Stands.{types_of, Awaited, ReferNowhere}
use Rattle.value_follows.specs.Sides.{sides, HoldTheSame}
use Rattle.value_follows.specs.Rows.{place, Base}
use Rattle.value_follows.proofs.Kept.{stands_keep}
use Rattle.value_follows.proofs.Putting.{word_same}
use Rattle.value_follows.proofs.Several.{Next}
use Rattle.value_follows.proofs.Waiting.{all_wait_later}
use Rattle.rows_calling.proofs.OnTheWay.{On, row_code}
use Rattle.rows_calling.proofs.Linking.{linkage_word, linked}
use Rattle.rows_calling.proofs.Making.{Made}
use Rattle.rows_printing.proofs.Way.{HasSys, Filled, size, print_by, filled_accounted}

-- ---- blank words refer to nothing

blanks_bare : (d : TypeDesc) (from count : ℕ) → ReferNowhere (blanks d from count)
blanks_bare d from zero b h = h
blanks_bare d from (suc n) b (inl e) = go (marks d.map from) e
  where
    go : (h : Bool) → (if h then Refer None else Plain (pos 0)) ≡ Refer (Some b) → ⊥
    go true e = cc
    go false e = cc
blanks_bare d from (suc n) b (inr h) = blanks_bare d (suc from) n b h

-- ---- the type of a print's frame

module _ (defs : List Def) (ps : List Piece) where
  -- what is printed, behind the format
  abbrev pub in_row : List Ty
  in_row = ty.Chars ∷ printed ps

  abbrev pub frame_size : ℕ
  frame_size = next_multiple_of (linkage_bytes + (all_room defs in_row).size) 4

  abbrev pub frame_offsets : List ℕ
  frame_offsets = map (λ o. linkage_bytes + o) (all_room defs in_row).references

  stays_in : (rs : List Room) (w : Room) (o : ℕ) → Has w.references o → Has (all_behind w rs).references o
  stays_in [] w o h = h
  stays_in (r ∷ rs) w o h = stays_in rs (room_behind w r) o (has_left w.references (map (λ o. next_multiple_of w.size r.align + o) r.references) o h)

  pub has_mapped : (f : ℕ → ℕ) (os : List ℕ) (o : ℕ) → Has os o → Has (map f os) (f o)
  has_mapped f (p ∷ os) o (inl e) = inl (ap f e)
  has_mapped f (p ∷ os) o (inr h) = inr (has_mapped f os o h)
  has_mapped f [] o h = absurd h

  -- the format's word is one that refers
  pub format_refers : Has frame_offsets 32
  format_refers =
      has_mapped (λ o. linkage_bytes + o) (all_room defs in_row).references 0
      (stays_in (rooms_of (rooms_in defs) (printed ps)) (room_behind nothing reference_room) 0 (inl refl))

  -- ---- its words that refer

  abbrev Good : Room → Type 0
  Good w = (o : ℕ) → Has w.references o → (o % 4 ≡ 0) × (o + 4 ≤ w.size)

  good_number : (w : Room) (size : ℕ) → Good w → Good (room_behind w (number_room size))
  good_number w size good o h = elim (has_cases w.references [] o h) [
    | inl a ↦ let g = good o a in let e = g.0 in let l = g.1 in (e, omega (arith, l, grows w.size size))
    | inr a ↦ absurd a
  ]
    where
      grows : (n size : ℕ) → n ≤ next_multiple_of n size
      grows n size = omega arith

  good_reference : (w : Room) → Good w → Good (room_behind w reference_room)
  good_reference w good o h = elim (has_cases w.references ((next_multiple_of w.size 4 + 0) ∷ []) o h) [
    | inl a ↦ let g = good o a in let l = g.1 in (g.0, omega (arith, l))
    | inr (inl e) ↦ (omega (arith, e), omega (arith, e))
    | inr (inr a) ↦ absurd a
  ]

  all_good : (ps : List Piece) (w : Room) → Good w → Good (all_behind w (rooms_of (rooms_in defs) (printed ps)))
  all_good [] w good = good
  all_good (piece.Chars cs ∷ ps) w good = all_good ps w good
  all_good (piece.Hole (hole.Decimal kind.Byte) ∷ ps) w good = all_good ps (room_behind w (number_room 4)) (good_number w 4 good)
  all_good (piece.Hole (hole.Decimal kind.Int) ∷ ps) w good = all_good ps (room_behind w (number_room 4)) (good_number w 4 good)
  all_good (piece.Hole (hole.Decimal kind.Big) ∷ ps) w good = all_good ps (room_behind w (number_room 8)) (good_number w 8 good)
  all_good (piece.Hole hole.Character ∷ ps) w good = all_good ps (room_behind w (number_room 4)) (good_number w 4 good)
  all_good (piece.Hole hole.Hexadecimal ∷ ps) w good = all_good ps (room_behind w (number_room 4)) (good_number w 4 good)
  all_good (piece.Hole hole.Chars ∷ ps) w good = all_good ps (room_behind w reference_room) (good_reference w good)
  all_good (piece.Hole hole.Error ∷ ps) w good = all_good ps w good

  pub offsets_even : (o : ℕ) → Has frame_offsets o → (o % 4 ≡ 0) × (o < frame_size)
  offsets_even o h =
      let a = mapped (λ o. linkage_bytes + o) (all_room defs in_row).references o h in
      let g = all_good ps (room_behind nothing reference_room) (good_reference nothing (λ o h. absurd h)) a.0 a.1 in
      let even = g.0 in
      let low = g.1 in
      let e = a.2 in
      (omega (arith, even, e), omega (arith, low, e))

module _ (m : typed.Module) (b : Base m) (i : ℕ) (p : code.Process) (n : ℕ) (f : typed.Function) (ps : List Piece) (into : ℕ) (o : Option ℕ)
    (here : slice_get p.frame.code p.frame.pc ≡ Some (Print ps into o))
    (none : (s : ℕ) → slot_names (core.slot p.frame.slots into) s ≡ 0) where
  abbrev r_at : ℕ
  r_at = reference_place m.adts (types_of m f) into

  abbrev pub framing : Inst
  framing = inst op.Frame (operand.Imm (pos (type_number m (PrintFrame ps)))) middle.None (own made_place)

  abbrev frame_desc : TypeDesc
  frame_desc = desc (frame_size m.adts ps) (frame_offsets m.adts ps)

  abbrev pub IsFilled : Facts → Process → Frame → Type 0
  IsFilled k q c = Filled k (code.process_names p) (frame_size m.adts ps) (frame_offsets m.adts ps) q c

  module _ (k : Facts) (w : Shared) (x : World) (j : ℕ) (q : Process) (on : On m k i x (into ∷ []) n f j p q) (s : HasSys k r_at q) (bare : q.made ≡ [])
      (hold : HoldTheSame m k i x p q) (worlds : (sides m).worlds k w x)
      (reach : Reaches (object_of m ∷ []) x q (object_of m) framing) where
    abbrev new_frame : Frame
    new_frame = record { serial = x.outside.frames; instance = q.frame.instance; pc = 0; words = blank frame_desc }

    abbrev others : List Word
    others = with_word q.frame.words made_place (frame_address x)

    abbrev then_q : Process
    then_q = on_next (framed (memory x (with_frames q (with_words q.frame others) q.below q.made)) (blank frame_desc))

    filled : IsFilled k then_q new_frame
    filled = record {
      instance = refl;
      kind = frames_begin.kind (frame_size m.adts ps) (frame_offsets m.adts ps) (omega arith) (offsets_even m.adts ps);
      covered = λ b h. absurd (blanks_bare frame_desc 0 (frame_size m.adts ps / 4) b h);
    }

    -- they stand for one another as before where a frame was made
    on_made : (j : ℕ) (r : Process) → On m k i x (into ∷ []) n f j p r → On m k i (with_frame_made x) (into ∷ []) n f j p r
    on_made j r on =
        let fresh = on.fresh in
        record {
          process = on.process;
          there = on.there;
          code = on.code;
          answer = on.answer;
          many = on.many;
          instance = on.instance;
          formed = on.formed;
          known = on.known;
          words = on.words;
          mine = on.mine;
          fresh = omega (arith, fresh);
          goes = on.goes;
          waits = all_wait_later m k k i x (with_frame_made x) r.frame.serial (record { facts = λ n f e. e; makers = λ n j e. e; forms = λ n o e. e })
              (omega arith) (λ b free made form. (free, refl)) Awaited p.frame.answer r.frame p.below r.below (omega arith) on.waits;
          pc = on.pc;
          spare = on.spare;
        }

    pub frame_step : suc (suc j) < size m b i p n f ps into o here none → (l : ℕ)
        → ((r : Process) (c : Frame) → On m k i (with_frame_made x) (into ∷ []) n f (suc j) p r → HasSys k r_at r → Made r c → IsFilled k r c → ReferNowhere c.words
        → HoldTheSame m k i (with_frame_made x) p r → Way (sides m) (place m) l k i (with_frame_made x) p r)
        → Next m b i p l k w x q
    frame_step further l way =
        let lead = spots_lead.own x q made_place in
        let old = linkage_word m.adts (types_of m f) (length p.frame.slots) q.frame.words on.words.kind 7 (omega arith) in
        let made = control_goes.frame frames_limit (object_of m) x q framing (type_number m (PrintFrame ps)) frame_desc q.frame.words made_place
        lead.0 old.0 refl refl
        (objects_have.types m n f p.frame.pc (Print ps into o) (PrintFrame ps) on.there (row_code m k i x (into ∷ []) n f j p q on (Print ps into o) here) (inl refl))
        old.1 in
        let step = steps_obey.makes_frame frames_limit (object_of m ∷ []) x q (object_of m) framing lead.0.place others
        (blank frame_desc) (memory x (with_frames q (with_words q.frame others) q.below q.made)) reach made.1 (lead.1 others) in
        let now = on_made (suc j) then_q (linked m k i x (into ∷ []) n f j p q on others made_place 4 (omega arith) (omega arith) made.0.changes
        (made.0.ranged (λ z e. absurd cc) on.words.kind.ranged) then_q.made) in
        let has : Made then_q new_frame = record {
          made = ap (λ (fs : List Frame). fs ++ new_frame ∷ []) bare;
          address = made.0.there;
          newer = on.fresh;
        } in
        let sys_then : HasSys k r_at then_q = record {
          box = s.box;
          word = word_same q.frame.words others r_at (made.0.changes.words (r_at / 4) (inr (omega arith))) ∙ s.word;
          carries = s.carries;
        } in
        print_by m b i p n f ps into o here none k k w x (with_frame_made x) (into ∷ []) j q then_q on hold worlds further step
        ((stands_keep m).changes_same (Only i) k x (with_frame_made x) refl (omega arith)) worlds now sys_then
        (filled_accounted m b i p n f ps into o here none k (with_frame_made x) (suc j) (frame_size m.adts ps) (frame_offsets m.adts ps) then_q new_frame now has.made filled)
        l (way then_q new_frame now sys_then has filled (blanks_bare frame_desc 0 (frame_size m.adts ps / 4)))
