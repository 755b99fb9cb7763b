-- A frame is made for a function that is to be called, with words that refer to nothing.
use Rattle.std.proofs.Common.{◌≡◌, ℕ, Bool, true, false, zero, suc, pos, ◌+◌, ◌/◌, ◌<◌, List, [], ◌∷◌, ◌++◌, length, map, Option, Some, None, inl, inr, refl, sym, ap, ◌∙◌, subst, arith}
use Rattle.std.proofs.Common.{if◌then◌else◌}
use Rattle.std.specs.Prelude.{slice_get, replicate}
use Rattle.std.specs.List.{range_with_len}
use Rattle.std.proofs.lemmas.List.{length-replicate}
use Rattle.process_ways.specs.Ways.{Way}
use Rattle.system_model.specs.Limits.{frames_limit}
use Rattle.limbo_types.specs.Types.{Ty}
use Rattle.limbo_layout.specs.Adts.{Def}
use Rattle.limbo_layout.specs.Layout.{AllLaid}
use Rattle.limbo_layout.specs.Laying.{rooms_of}
use Rattle.limbo_layout.proofs.Rooms.{has_right}
use Rattle.limbo_typed.specs.Typed as typed
use Rattle.limbo_meaning.specs.Values.{Value, nothing, fitted, all_fitted, zero_of, among, references, references_in}
use Rattle.limbo_meaning.specs.Process.{Shared}
use Rattle.core_code.specs.Rooms.{rooms_in}
use Rattle.core_code.specs.Code.{Instr}
use Rattle.core_code.specs.Machine as code
use Rattle.core_code.specs.Slots as core
use Rattle.core_code.proofs.Names.{zero_fitted}
use Rattle.core_typing.specs.Held as held
use Rattle.dis_file.specs.References.{marks}
use Rattle.dis_file.specs.declared.types.TypeDesc.{TypeDesc}
use Rattle.dis_isa.specs.declared.inst.Inst.{Inst}
use Rattle.dis_isa.specs.declared.inst.Middle.TheVariants as middle
use Rattle.dis_isa.specs.declared.inst.Operand.TheVariants as operand
use Rattle.dis_isa.specs.declared.op.Op.TheVariants as op
use Rattle.dis_meaning.specs.Words.{Word, Plain, Refer, Found, word_at, blank, blanks}
use Rattle.dis_meaning.specs.Process.{Frame, Process, with_words, with_frames}
use Rattle.dis_memory.specs.Blocks.{World}
use Rattle.dis_memory.specs.Places.{memory}
use Rattle.dis_memory.specs.Control.{with_frame_made, framed}
use Rattle.value_words.specs.Facts.{Facts}
use Rattle.value_words.proofs.Bytes.{word_there}
use Rattle.value_frames.specs.Frames.{linkage_bytes, made_place, spare_place, reference_place, frame_bytes, frame_references, row_of as all_room}
use Rattle.value_frames.specs.Standing.{WordsAre}
use Rattle.value_frames.specs.Types.{desc, AreOf}
use Rattle.value_frames.proofs.Beginning.{frames_begin}
use Rattle.value_moves.specs.Operands.{inst, own}
use Rattle.value_moves.proofs.Leading.{spots_lead}
use Rattle.value_code.specs.Objects.{of_function, object_of, frame_number, frame_desc}
use Rattle.value_code.proofs.Having.{objects_have}
use Rattle.number_effects.specs.Giving.{with_word}
use Rattle.number_effects.specs.Control.{frame_address}
use Rattle.number_effects.specs.Stepping.{Reaches, on_next}
use Rattle.number_effects.proofs.Control.{control_goes}
use Rattle.number_effects.proofs.Stepping.{steps_obey}
use Rattle.process_model.specs.Follows.{Only}
use Rattle.value_follows.specs.Stands.{types_of, Awaited, ReferNowhere}
use Rattle.value_follows.specs.Sides.{sides, HoldTheSame}
use Rattle.value_follows.specs.Rows.{place, is_tidied, row_of, Base}
use Rattle.value_follows.proofs.Kept.{stands_keep}
use Rattle.value_follows.proofs.Several.{Next}
use Rattle.value_follows.proofs.Waiting.{all_wait_later}
use Rattle.rows_calling.proofs.OnTheWay.{On}
use Rattle.rows_calling.proofs.Linking.{linkage_word, linked}
use Rattle.rows_calling.proofs.Making.{Called, Made, making_by}

-- ---- blank words refer to nothing

blanks_bare : (d : TypeDesc) (from count : ℕ) → ReferNowhere (blanks d from count)
blanks_bare d from zero b h = h
blanks_bare d from (suc n) b (inl e) = go (marks d.map from) e
  where
    go : (h : Bool) → (if h then Refer None else Plain (pos 0)) ≡ Refer (Some b) → ⊥
    go true e = cc
    go false e = cc
blanks_bare d from (suc n) b (inr h) = blanks_bare d (suc from) n b h

none_of : (b : Bool) (r : Option ℕ) → Some (if b then Refer None else Plain (pos 0)) ≡ Some (Refer r) → r ≡ None
none_of true r e = cc
none_of false r e = absurd cc

blank_refers : (desc : TypeDesc) (from count k : ℕ) (r : Option ℕ) → slice_get (blanks desc from count) k ≡ Some (Refer r) → r ≡ None
blank_refers desc from zero k r e = absurd cc
blank_refers desc from (suc n) zero r e = none_of (marks desc.map from) r e
blank_refers desc from (suc n) (suc k) r e = blank_refers desc (suc from) n k r e

module _ (defs : List Def) (types : List Ty) (n : ℕ) (laid : AllLaid defs types (rooms_of (rooms_in defs) types)) where
  -- so does the spare one
  blank_spare : (k : Facts) (x : World) → word_at (blank (desc (frame_bytes defs types n) (frame_references defs types n))) (pos (spare_place defs types)) ≡ Found (Refer None)
  blank_spare k x =
      let are = (frames_begin.begins defs k x.heap 0 types n laid).0 in
      let long : length (replicate n core.empty) ≡ n = length-replicate n core.empty in
      let kind = subst (λ (l : ℕ). AreOf (frame_bytes defs types l) (frame_references defs types l) (blank (desc (frame_bytes defs types n) (frame_references defs types n)))) long are.kind in
      let it = kind.refer (spare_place defs types)
      (has_right (map (λ o. linkage_bytes + o) (all_room defs types).references)
      (spare_place defs types ∷ map (λ s. reference_place defs types s) (range_with_len 0 n)) (spare_place defs types) (inl refl)) in
      let none = blank_refers (desc (frame_bytes defs types n) (frame_references defs types n)) 0 _ (spare_place defs types / 4) it.0 it.1 in
      word_there (blank (desc (frame_bytes defs types n) (frame_references defs types n))) (spare_place defs types) (Refer None) (omega arith)
      (it.1 ∙ ap (λ (r : Option ℕ). Some (Refer r)) none)

-- ---- variables that are zero name nothing

zeros_fitted : (defs : List Def) (types : List Ty) → all_fitted defs types [] ≡ map (λ t. zero_of defs t) types
zeros_fitted defs [] = refl
zeros_fitted defs (t ∷ ts) = ap (λ (vs : List Value). zero_of defs t ∷ vs) (zeros_fitted defs ts)

among_both : (n : ℕ) (rs ss : List (Option ℕ)) → among n rs ≡ 0 → among n ss ≡ 0 → among n (rs ++ ss) ≡ 0
among_both n [] ss e f = f
among_both n (r ∷ rs) ss e f = let h = among_both n rs ss (omega (arith, e)) f in omega (arith, e, h)

zeros_name : (n : ℕ) (defs : List Def) (types : List Ty) → among n (references_in (all_fitted defs types [])) ≡ 0
zeros_name n defs [] = refl
zeros_name n defs (t ∷ ts) =
    among_both n (references (fitted defs t nothing)) (references_in (all_fitted defs ts [])) (zero_fitted n defs t) (zeros_name n defs ts)

empties_name : (n k : ℕ) → core.slots_name (replicate k core.empty) n ≡ 0
empties_name n zero = refl
empties_name n (suc k) = let a = empties_name n k in omega (arith, a)

-- ---- the instruction

abbrev pub framing : typed.Module → ℕ → Inst
framing m ng = inst op.Frame (operand.Imm (pos (frame_number m ng))) middle.None (own made_place)

module _ (m : typed.Module) (i : ℕ) (p : code.Process) (ng : ℕ) (g : typed.Function) (t : Ty) where
  -- a frame of the function whose variables are zero
  abbrev pub zero_frame : code.Frame
  zero_frame = code.frame_of m.adts p.frame.instance (of_function m g) t []

  pub zero_named : (o : ℕ) → 0 < code.frame_names zero_frame o → 0 < code.process_names p o
  zero_named o h =
      let a = zeros_name o m.adts (of_function m g).variables in
      let b = empties_name o (of_function m g).slots in
      omega (arith, h, a, b)

  abbrev pub new_frame : World → Process → Frame
  new_frame x q = record { serial = x.outside.frames; instance = q.frame.instance; pc = 0; words = blank (frame_desc m (of_function m g)) }

  module _ (there : slice_get m.functions ng ≡ Some g) (laid : AllLaid m.adts (types_of m g) (rooms_of (rooms_in m.adts) (types_of m g)))
      (answer : t ≡ g.of.answer) (b : Base m) (n : ℕ) (f : typed.Function) where
    new_called : (k : Facts) (x : World) (busy : List ℕ) (j : ℕ) (q : Process) → On m k i x busy n f j p q
        → Called m k (with_frame_made x) ng g zero_frame (new_frame x q)
    new_called k x busy j q on =
        let begun = frames_begin.begins m.adts k x.heap x.outside.frames (types_of m g) (of_function m g).slots laid in
        let same = sym (zeros_fitted m.adts (types_of m g)) in
        let both = subst (λ (vs : List Value). (are : WordsAre m.adts k x.heap x.outside.frames [] (types_of m g) (replicate (of_function m g).slots held.empty) vs
        (replicate (of_function m g).slots core.empty) (blank (frame_desc m (of_function m g)))) × ((s : ℕ) → are.own s ≡ [])) same begun in
        record {
          there = there;
          code = refl;
          answer = answer;
          many = length-replicate (of_function m g).slots core.empty;
          instance = on.instance;
          formed = on.formed;
          words = both.0;
          bare = both.1;
          fresh = omega arith;
          spare = blank_spare m.adts (types_of m g) (of_function m g).slots laid k x;
        }

    -- they stand for one another as before where a frame was made
    on_made : (k : Facts) (x : World) (busy : List ℕ) (j : ℕ) (q : Process) → On m k i x busy n f j p q → On m k i (with_frame_made x) busy n f j p q
    on_made k x busy j q on =
        let fresh = on.fresh in
        record {
          process = on.process;
          there = on.there;
          code = on.code;
          answer = on.answer;
          many = on.many;
          instance = on.instance;
          formed = on.formed;
          known = on.known;
          words = on.words;
          mine = on.mine;
          fresh = omega (arith, fresh);
          goes = on.goes;
          waits = all_wait_later m k k i x (with_frame_made x) q.frame.serial (record { facts = λ n f e. e; makers = λ n j e. e; forms = λ n o e. e })
              (omega arith) (λ b free made form. (free, refl)) Awaited p.frame.answer q.frame p.below q.below (omega arith) on.waits;
          pc = on.pc;
          spare = on.spare;
        }

    module _ (k : Facts) (w : Shared) (x : World) (q : Process) (on : On m k i x [] n f 0 p q) (none : q.made ≡ []) (hold : HoldTheSame m k i x p q)
        (worlds : (sides m).worlds k w x) (reach : Reaches (object_of m ∷ []) x q (object_of m) (framing m ng)) where
      abbrev others : List Word
      others = with_word q.frame.words made_place (frame_address x)

      abbrev behind : Process
      behind = on_next (framed (memory x (with_frames q (with_words q.frame others) q.below q.made)) (blank (frame_desc m (of_function m g))))

      -- behind it they are on their way with the frame
      pub frame_step : (instr : Instr) → slice_get p.frame.code p.frame.pc ≡ Some instr → is_tidied instr ≡ false
          → 1 < (row_of m f p.frame.pc instr).size → (l : ℕ)
          → ((r : Process) (c : Frame) → On m k i (with_frame_made x) [] n f 1 p r → Called m k (with_frame_made x) ng g zero_frame c → Made r c
          → ReferNowhere c.words → HoldTheSame m k i (with_frame_made x) p r → Way (sides m) (place m) l k i (with_frame_made x) p r)
          → Next m b i p l k w x q
      frame_step instr here plain more l way =
          let lead = spots_lead.own x q made_place in
          let old = linkage_word m.adts (types_of m f) (length p.frame.slots) q.frame.words on.words.kind 7 (omega arith) in
          let made = control_goes.frame frames_limit (object_of m) x q (framing m ng) (frame_number m ng) (frame_desc m (of_function m g)) q.frame.words made_place
          lead.0 old.0 refl refl (objects_have.frames m ng g there) old.1 in
          let step = steps_obey.makes_frame frames_limit (object_of m ∷ []) x q (object_of m) (framing m ng) lead.0.place others
          (blank (frame_desc m (of_function m g))) (memory x (with_frames q (with_words q.frame others) q.below q.made)) reach made.1 (lead.1 others) in
          let now = on_made k x [] 1 behind (linked m k i x [] n f 0 p q on others made_place 4 (omega arith) (omega arith) made.0.changes
          (made.0.ranged (λ z e. absurd cc) on.words.kind.ranged) behind.made) in
          let has : Made behind (new_frame x q) = record {
            made = ap (λ (fs : List Frame). fs ++ new_frame x q ∷ []) none;
            address = made.0.there;
            newer = on.fresh;
          } in
          let called = new_called k x [] 0 q on in
          making_by m b i p n f ng g zero_frame zero_named k k w x (with_frame_made x) [] [] 0 q behind (new_frame x q) on hold worlds instr here plain more
          step ((stands_keep m).changes_same (Only i) k x (with_frame_made x) refl (omega arith)) worlds now called has
          (λ s e. absurd e) (λ s o e. absurd e) l
          (way behind (new_frame x q) now called has (blanks_bare (frame_desc m (of_function m g)) 0 (frame_bytes m.adts (types_of m g) (of_function m g).slots / 4)))
