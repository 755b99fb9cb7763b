-- Prints with operands.
use Rattle.std.proofs.Common.{◌≡◌, ℕ, Bool, true, false, zero, suc, pos, ◌+◌, ◌-◌, ◌<◌, ◌≤◌, ◌/◌, List, [], ◌∷◌, ◌++◌, length, Option, Some, inl, inr, refl, sym, ap, ◌∙◌, subst, arith}
use Rattle.std.proofs.Common.{if◌then◌else◌}
use Rattle.std.specs.Prelude.{slice_get}
use Rattle.process_ways.specs.Ways.{Way}
use Rattle.limbo_types.specs.Types as ty
use Rattle.limbo_types.specs.Types.{Ty}
use Rattle.limbo_layout.specs.Layout.{Room, more_laid, is_alone, nothing, behind as room_behind, reference as reference_room}
use Rattle.limbo_values.specs.declared.number.Kind.TheVariants.{Int}
use Rattle.limbo_typed.specs.Typed as typed
use Rattle.limbo_typed.specs.declared.print.Piece.{Piece}
use Rattle.limbo_meaning.specs.Process.{Shared}
use Rattle.limbo_meaning.specs.Values.{Value, Chars}
use Rattle.core_code.specs.Code.{Instr, Print}
use Rattle.core_code.specs.Machine as code
use Rattle.core_code.specs.Slots as core
use Rattle.core_code.specs.Slots.{slot_names}
use Rattle.core_code.specs.Terms.{part_types}
use Rattle.core_typing.specs.Held as held
use Rattle.core_typing.specs.Going.{Agrees}
use Rattle.core_typing.specs.Needs.{IsClean, printed}
use Rattle.core_typing.specs.Written.{told}
use Rattle.dis_isa.specs.declared.inst.Inst.{Inst}
use Rattle.dis_isa.specs.declared.inst.Middle.TheVariants as middle
use Rattle.dis_isa.specs.declared.inst.Operand.TheVariants as operand
use Rattle.dis_isa.specs.declared.op.Op.TheVariants as op
use Rattle.dis_meaning.specs.Words.{Word}
use Rattle.dis_meaning.specs.Process.{Process}
use Rattle.dis_memory.specs.Blocks.{World}
use Rattle.dis_memory.specs.Places.{given_of}
use Rattle.value_words.specs.Contents.{AreInRange}
use Rattle.value_words.specs.Facts.{Facts, Grows}
use Rattle.value_words.specs.Stands.{AllStand}
use Rattle.value_words.proofs.Blank.{has_more}
use Rattle.value_words.proofs.Later.{all_later}
use Rattle.value_frames.specs.Frames.{linkage_bytes, passing_place, made_place, number_place, reference_place, row_of as all_room}
use Rattle.value_frames.specs.Types.{desc}
use Rattle.value_moves.specs.Operands.{Code, inst, own, of_own, sized, fits_middle}
use Rattle.value_code.specs.Data.{Named, OfFront, PrintFrame, path_word}
use Rattle.value_code.specs.Code.{arguments, front_moved, rest_moved, front_of, last_end, let_go}
use Rattle.value_code.specs.Operands.{Scene}
use Rattle.value_code.specs.Objects.{of_function, object_of, type_number, told_at, or_nothing, scene}
use Rattle.value_code.proofs.Having.{objects_have}
use Rattle.number_effects.proofs.Reading.{operands_are_read}
use Rattle.value_follows.specs.Stands.{types_of, scope, GoesOn}
use Rattle.value_follows.specs.Sides.{sides, HoldTheSame}
use Rattle.value_follows.specs.Rows.{place, Base}
use Rattle.value_follows.proofs.Several.{Next}
use Rattle.value_follows.proofs.Slots.{uses}
use Rattle.value_follows.proofs.Standing.{finds, same_some}
use Rattle.rows_calling.proofs.OnTheWay.{On, on_way, on_ready, on_later, reaches_it, row_code, frame_is}
use Rattle.rows_calling.proofs.Answering.{addressing}
use Rattle.rows_calling.proofs.Clean.{unnamed}
use Rattle.rows_boxes.proofs.Differing.{slots_differ}
use Rattle.rows_printing.specs.Rows.{PiecesRun, RowFits, PrintsGo}
use Rattle.rows_printing.proofs.Arguments.{rooms, row_moves, printed_laid, same_content}
use Rattle.rows_printing.proofs.Filling.{formatting}
use Rattle.rows_printing.proofs.Formats.{formats, first_part}
use Rattle.rows_printing.proofs.Framing.{frame_step, framing, in_row}
use Rattle.rows_printing.proofs.Gathering.{gathers}
use Rattle.rows_printing.proofs.Loading.{load_step, loading}
use Rattle.rows_printing.proofs.Moving.{nothing_written}
use Rattle.rows_printing.proofs.Passing.{printed_tuple, Passing, together, box_of, idle, now_there, same_words, stand, filled_so, passing_way}
use Rattle.rows_printing.proofs.Printing.{calling}
use Rattle.rows_printing.proofs.Rest.{rest_way}
use Rattle.rows_printing.proofs.Row.{last_past, front_within}
use Rattle.rows_printing.proofs.Steps.{Stands, front_inst, rest_inst, size_inst, front_step, rest_step, size_step, ranged_inner}
use Rattle.rows_printing.proofs.Together.{StandInRow, listed_back}
use Rattle.rows_printing.proofs.Way.{HasSys, sys_later, size}

same_head : {A : Type 0} (x y : A) (xs ys : List A) → x ∷ xs ≡ y ∷ ys → x ≡ y
same_head x y xs ys e = cc

same_tail : {A : Type 0} (x y : A) (xs ys : List A) → x ∷ xs ≡ y ∷ ys → xs ≡ ys
same_tail x y xs ys e = cc

-- ---- of which type operands are told that they are put together

-- where code goes on, the instruction there agrees with what is told
agrees : (m : typed.Module) (f : typed.Function) (pc : ℕ) (known : held.Slots) (instr : Instr) → GoesOn m f pc known
    → slice_get (of_function m f).code pc ≡ Some instr
    → Agrees (scope m f) f.of.answer (of_function m f).code pc known instr
agrees m f pc known instr goes here =
    let g = goes 1 in
    subst (Agrees (scope m f) f.of.answer (of_function m f).code pc known) (same_some g.0 instr (sym g.1 ∙ here)) g.3

-- so in front of a print it is told that they are a tuple behind a text
row_told : (m : typed.Module) (f : typed.Function) (pc : ℕ) (known : held.Slots) (ps : List Piece) (into a : ℕ) → GoesOn m f pc known
    → slice_get (of_function m f).code pc ≡ Some (Print ps into (Some a))
    → told (of_function m f).code pc a ≡ Some (printed_tuple ps)
row_told m f pc known ps into a goes here =
    let found = finds m f pc known (Print ps into (Some a)) goes here in
    let tells = agrees m f pc known (Print ps into (Some a)) goes here in
    tells.2 ∙ sym tells.1 ∙ ap held.type_forming found.0.2.1

module _ (m : typed.Module) (b : Base m) (i : ℕ) (p : code.Process) (n : ℕ) (f : typed.Function) (ps : List Piece) (into a : ℕ)
    (here : slice_get p.frame.code p.frame.pc ≡ Some (Print ps into (Some a)))
    (none : (s : ℕ) → slot_names (core.slot p.frame.slots into) s ≡ 0) (apart : into ≡ a → ⊥) (few : into < length p.frame.slots)
    (there : slice_get m.functions n ≡ Some f) (in_code : slice_get (of_function m f).code p.frame.pc ≡ Some (Print ps into (Some a)))
    (told_so : told (of_function m f).code p.frame.pc a ≡ Some (printed_tuple ps)) (small : RowFits m ps) (runs : PiecesRun ps) where
  abbrev room : Room
  room = all_room m.adts (in_row m.adts ps)

  abbrev front : ℕ
  front = last_end room.references

  abbrev the_size : ℕ
  the_size = size m b i p n f ps into (Some a) here none

  abbrev values : List Value
  values = code.operands p.frame.slots (Some a)

  abbrev s_at : ℕ
  s_at = reference_place m.adts (types_of m f) into

  abbrev NowAt : (k : Facts) (x : World) (j : ℕ) (q : Process) (done : ℕ) → Type 0
  NowAt k x j q done = Passing m b i p n f ps into a here none k x j q done

  -- ---- what stands behind the format

  abbrev Args : Facts → List Word → Type 0
  Args k words = AllStand m.adts k words 32 (room_behind nothing reference_room) (printed ps) (rooms m.adts (printed ps)) values

  args_later : (k now : Facts) (words : List Word) → Grows k now → Args k words → Args now words
  args_later k now words grows h =
      all_later m.adts k now words grows 32 (room_behind nothing reference_room) (printed ps) (rooms m.adts (printed ps)) values h

  args_stay : (k : Facts) (words others : List Word) → ((v : ℕ) → 9 ≤ v → slice_get others v ≡ slice_get words v) → AreInRange words
      → AreInRange others → Args k words → Args k others
  args_stay k words others same first third h =
      row_moves m.adts k words others first third 4 room.size 32 32 (room_behind nothing reference_room) (printed ps) (rooms m.adts (printed ps)) values refl
      (λ o low l. same_content words others (32 + o) (same ((32 + o) / 4) (omega (arith, low)))) (omega arith) (omega arith) (printed_laid m.adts ps) h

  args_there : (k : Facts) (x : World) (j : ℕ) (q : Process) → (s : NowAt k x j q room.size) → Args k s.frame.words
  args_there k x j q s =
      let t = now_there m b i p n f ps into a here none apart k x j q room.size s in
      let stands = subst (λ (ws : List Word). StandInRow m.adts k ws 0 (ty.Chars ∷ printed ps) (Chars [] ∷ t.values))
      (same_words m b i p n f ps into a here none apart k x j q room.size s)
      (stand m b i p n f ps into a here none k x (into ∷ []) j q s.on t) in
      let moved = row_moves m.adts k s.inner s.frame.words (ranged_inner m b i p n f ps into a here none apart k x j q room.size s) s.kind.ranged 0 room.size 0 32
      nothing (ty.Chars ∷ printed ps) (rooms m.adts (ty.Chars ∷ printed ps)) (Chars [] ∷ t.values) refl
      (λ o low l. s.written.there o l) (omega arith) (omega arith) stands.laid stands.stand in
      let one = first_part m.adts k s.frame.words 32 nothing (ty.Chars ∷ printed ps) (rooms m.adts (ty.Chars ∷ printed ps)) (Chars [] ∷ t.values) moved
      ty.Chars (printed ps) refl in
      let room_is : reference_room ≡ one.room_of = same_head reference_room one.room_of (rooms m.adts (printed ps)) one.rooms one.rooms_are in
      let rooms_is : rooms m.adts (printed ps) ≡ one.rooms = same_tail reference_room one.room_of (rooms m.adts (printed ps)) one.rooms one.rooms_are in
      let values_is : t.values ≡ one.others = same_tail (Chars []) one.value t.values one.others one.values_are in
      let held_is : values ≡ one.others = ap core.operands_of t.holds ∙ values_is in
      subst (λ (vs : List Value). AllStand m.adts k s.frame.words 32 (room_behind nothing reference_room) (printed ps) (rooms m.adts (printed ps)) vs) (sym held_is)
      (subst (λ (rs : List Room). AllStand m.adts k s.frame.words 32 (room_behind nothing reference_room) (printed ps) rs one.others) (sym rooms_is)
      (subst (λ (r : Room). AllStand m.adts k s.frame.words 32 (room_behind nothing r) (printed ps) one.rooms one.others) (sym room_is) one.rest))

  -- ---- the code of the row

  abbrev told_types : List Ty
  told_types = part_types m.adts (told_at m f.of.answer (of_function m f) p.frame.pc a)

  types_are : told_types ≡ ty.Chars ∷ printed ps
  types_are = ap (λ (o : Option Ty). part_types m.adts (or_nothing o)) told_so ∙ listed_back (ty.Chars ∷ printed ps)

  abbrev its_scene : Scene
  its_scene = scene m f.of.answer (of_function m f)

  abbrev args : (Named → ℕ) → Code
  args number_of = arguments its_scene number_of (told_at m f.of.answer (of_function m f) p.frame.pc) (Some a)

  abbrev first_inst : (Named → ℕ) → Inst
  first_inst number_of = front_inst m b i p n f ps into a here none apart (number_of (OfFront told_types))

  front_some : 4 ≤ front
  front_some = last_past room.references 0 (has_more (room_behind nothing reference_room) (rooms m.adts (printed ps)) 0 (inl refl))

  first_is : (w : ℕ) → front ≡ suc w → (number : ℕ)
      → front_moved its_scene number front a ≡ front_inst m b i p n f ps into a here none apart number ∷ []
  first_is w e number = ap (λ (z : ℕ). front_moved its_scene number z a) e

  args_are : (number_of : Named → ℕ) → args number_of ≡ first_inst number_of ∷ rest_moved its_scene front (room.size - front) a
  args_are number_of =
      let some = front_some in
      ap (λ (us : List Ty). front_moved its_scene (number_of (OfFront told_types)) (front_of m.adts us) a
      ++ rest_moved its_scene (front_of m.adts us) ((all_room m.adts us).size - front_of m.adts us) a) types_are
      ∙ ap (λ (c : Code). c ++ rest_moved its_scene front (room.size - front) a) (first_is (front - 1) (omega (arith, some)) (number_of (OfFront told_types)))

  abbrev tail : ℕ → Code
  tail at =
      formatting at ∷ addressing (own (number_place m.adts (types_of m f) into)) ∷ calling m b i p n f ps into (Some a) here none ∷ let_go its_scene into ∷ []

  abbrev all_code : (Named → ℕ) → ℕ → Code → Code
  all_code number_of at c =
      inst op.Load path_word (middle.Imm (pos 0)) (own s_at) ∷ inst op.Frame (operand.Imm (pos (number_of (PrintFrame ps)))) middle.None (own made_place)
      ∷ c ++ tail at

  -- the arguments' code is this
  abbrev Are : ((Named → ℕ) → Code) → Type 0
  Are c = (number_of : Named → ℕ) → args number_of ≡ c number_of

  stands_at : (c : (Named → ℕ) → Code) → Are c → (j : ℕ) (it : Inst) → ((at : ℕ) → slice_get (all_code (type_number m) at (c (type_number m))) j ≡ Some it)
      → Stands m b i p n f ps into a here none apart j it
  stands_at c are j it e at = ap (λ (c : Code). slice_get (all_code (type_number m) at c) j) (are (type_number m)) ∙ e at

  long : (c : (Named → ℕ) → Code) → Are c → the_size ≡ length (all_code (λ d. 0) 0 (c (λ d. 0)))
  long c are = ap (λ (c : Code). length (all_code (λ d. 0) 0 c)) (are (λ d. 0))

  type_there : slice_get (object_of m).types (type_number m (OfFront told_types)) ≡ Some (desc front room.references)
  type_there =
      objects_have.types m n f p.frame.pc (Print ps into (Some a)) (OfFront told_types) there in_code (inr (inl refl))
      ∙ ap (λ (us : List Ty). Some (desc (front_of m.adts us) (all_room m.adts us).references)) types_are

  -- ---- the operands are there

  module _ (c : (Named → ℕ) → Code) (are : Are c) (j : ℕ) (last : suc (suc (suc (suc j))) ≡ the_size)
      (first : (at : ℕ) → slice_get (all_code (type_number m) at (c (type_number m))) j ≡ Some (formatting at))
      (second : (at : ℕ) → slice_get (all_code (type_number m) at (c (type_number m))) (suc j)
      ≡ Some (addressing (own (number_place m.adts (types_of m f) into))))
      (third : (at : ℕ) → slice_get (all_code (type_number m) at (c (type_number m))) (suc (suc j)) ≡ Some (calling m b i p n f ps into (Some a) here none)) where
    there_way : (k : Facts) (x : World) (q : Process) → NowAt k x j q room.size → HoldTheSame m k i x p q → Way (sides m) (place m) 4 k i x p q
    there_way k x q s hold =
        rest_way m b i p n f ps into (Some a) here none few Args args_later args_stay
        (λ k x words h reads. formats x words m.adts k reads ps runs (room_behind nothing reference_room) 36 refl (rooms m.adts (printed ps)) values refl h)
        (λ k w x j q on hold worlds. gathers m b i p n f ps into a here none apart k w x j q on hold worlds)
        j last (λ at. ap (λ (c : Code). slice_get (all_code (type_number m) at c) j) (are (type_number m)) ∙ first at)
        (λ at. ap (λ (c : Code). slice_get (all_code (type_number m) at c) (suc j)) (are (type_number m)) ∙ second at)
        (λ at. ap (λ (c : Code). slice_get (all_code (type_number m) at c) (suc (suc j))) (are (type_number m)) ∙ third at)
        k x q s.frame s.on s.sys s.has (filled_so m b i p n f ps into a here none apart k x j q room.size s) (args_there k x j q s) hold

  -- ---- the begin of the row

  frame_way : (l : ℕ) → 3 < the_size
      → ((k : Facts) (x : World) (q : Process) → NowAt k x 2 q 0 → HoldTheSame m k i x p q → Way (sides m) (place m) l k i x p q)
      → (k : Facts) (x : World) (q : Process) → On m k i x (into ∷ []) n f 1 p q → HasSys k s_at q → q.made ≡ [] → HoldTheSame m k i x p q
      → Way (sides m) (place m) (suc l) k i x p q
  frame_way l far next k x q on s bare hold =
      on_way m b i p q (into ∷ []) n f 1 l k x on hold (λ now w y grows on' hold' worlds'.
      frame_step m b i p n f ps into (Some a) here none now w y 1 q on' (sys_later k now s_at q grows s) bare hold' worlds'
      (reaches_it m b i p q (into ∷ []) n f 1 now w y on' hold' worlds' (Print ps into (Some a)) here (framing m b i p n f ps into (Some a) here none) refl)
      (omega (arith, far)) l
      (λ r c on2 s2 has2 fill2 blank held.
      let t = together m b i p n f ps into a here none now _ (into ∷ []) 2 r on2 (idle m b i p n f ps into a here none apart) in
      next now _ r (record {
        on = on2;
        sys = s2;
        frame = c;
        has = has2;
        instance = fill2.instance;
        kind = fill2.kind;
        base = c.words;
        bare = blank;
        box = t.box;
        inner = t.inner;
        box_is = box_of m b i p n f ps into a here none now _ (into ∷ []) 2 r on2 t;
        written = nothing_written c.words linkage_bytes t.inner 0;
      }) held))

  begin_row : (l : ℕ) → 3 < the_size
      → ((k : Facts) (x : World) (q : Process) → NowAt k x 2 q 0 → HoldTheSame m k i x p q → Way (sides m) (place m) l k i x p q)
      → (k : Facts) (w : Shared) (x : World) (q : Process) → (on : On m k i x [] n f 0 p q) → IsClean (held.slot on.known into) → q.made ≡ []
      → HoldTheSame m k i x p q → (sides m).worlds k w x → Next m b i p (suc l) k w x q
  begin_row l far next k w x q on clean bare hold worlds =
      load_step m b i p n f ps into (Some a) here none k w x 0 q on hold worlds few clean
      (reaches_it m b i p q [] n f 0 k w x on hold worlds (Print ps into (Some a)) here
      (loading m b i p n f ps into (Some a) here none k w x 0 q on hold worlds few clean) refl)
      bare (omega (arith, far)) (suc l)
      (λ now y r on' s' bare' held. frame_way l far next now y r on' s' bare' held)

  -- the row goes, in so many instructions
  pub record Goes : Type 0 where
    pub length_of : ℕ
    pub far : 3 < the_size
    pub goes : (k : Facts) (x : World) (q : Process) → NowAt k x 2 q 0 → HoldTheSame m k i x p q → Way (sides m) (place m) length_of k i x p q

  pub row_begins : (g : Goes) → (k : Facts) (w : Shared) (x : World) (q : Process) → (on : On m k i x [] n f 0 p q) → IsClean (held.slot on.known into)
      → q.made ≡ [] → HoldTheSame m k i x p q → (sides m).worlds k w x → Next m b i p (suc g.length_of) k w x q
  row_begins g = begin_row g.length_of g.far g.goes

  -- ---- nothing is behind the words that refer

  goes_one : Are (λ number_of. first_inst number_of ∷ []) → front ≡ room.size → Goes
  goes_one are whole =
      let size_is = long (λ number_of. first_inst number_of ∷ []) are in
      record {
        length_of = 5;
        far = omega (arith, size_is);
        goes = λ k x q s hold.
            passing_way m b i p n f ps into a here none apart 4 k x 2 q 0 s hold (λ now w y s' hold' worlds'.
            front_step m b i p n f ps into a here none apart now y 2 q 0 s' w hold' worlds' refl (type_number m (OfFront told_types)) type_there
            (stands_at (λ number_of. first_inst number_of ∷ []) are 2 (first_inst (type_number m)) (λ at. refl)) (omega (arith, size_is)) 4
            (λ r s2 held.
            there_way (λ number_of. first_inst number_of ∷ []) are 3 (sym size_is) (λ at. refl) (λ at. refl) (λ at. refl) now y r
            (subst (λ (d : ℕ). NowAt now y 3 r d) whole s2) held));
      }

  -- ---- bytes are, whose number fits an instruction

  module _ (rest : ℕ) (size_is : front + rest ≡ room.size) where
    abbrev last_inst : Inst
    last_inst = rest_inst m b i p n f ps into a here none apart rest

    abbrev number_inst : Inst
    number_inst = size_inst m b i p n f ps into a here none apart rest

    goes_two : Are (λ number_of. first_inst number_of ∷ last_inst ∷ []) → fits_middle (pos rest) ≡ true → Goes
    goes_two are fit =
        let size_so = long (λ number_of. first_inst number_of ∷ last_inst ∷ []) are in
        record {
          length_of = 6;
          far = omega (arith, size_so);
          goes = λ k x q s hold.
              passing_way m b i p n f ps into a here none apart 5 k x 2 q 0 s hold (λ now w y s' hold' worlds'.
              front_step m b i p n f ps into a here none apart now y 2 q 0 s' w hold' worlds' refl (type_number m (OfFront told_types)) type_there
              (stands_at (λ number_of. first_inst number_of ∷ last_inst ∷ []) are 2 (first_inst (type_number m)) (λ at. refl)) (omega (arith, size_so)) 5
              (λ r s2 held.
              passing_way m b i p n f ps into a here none apart 4 now y 3 r front s2 held (λ now2 w2 y2 s3 hold2 worlds2.
              rest_step m b i p n f ps into a here none apart now2 y2 3 r front s3 w2 hold2 worlds2 refl rest size_is
              (ap (λ (b : Bool). given_of Int y2 r (if b then middle.Imm (pos rest) else of_own passing_place)) fit
              ∙ operands_are_read.middle_given y2 r Int (pos rest))
              (stands_at (λ number_of. first_inst number_of ∷ last_inst ∷ []) are 3 last_inst (λ at. refl)) (omega (arith, size_so)) 4
              (λ r2 s4 held2.
              there_way (λ number_of. first_inst number_of ∷ last_inst ∷ []) are 4 (sym size_so) (λ at. refl) (λ at. refl) (λ at. refl) now2 y2 r2 s4 held2))));
        }

    -- or doesn't
    goes_three : Are (λ number_of. first_inst number_of ∷ number_inst ∷ last_inst ∷ []) → fits_middle (pos rest) ≡ false → Goes
    goes_three are fit =
        let size_so = long (λ number_of. first_inst number_of ∷ number_inst ∷ last_inst ∷ []) are in
        record {
          length_of = 7;
          far = omega (arith, size_so);
          goes = λ k x q s hold.
              passing_way m b i p n f ps into a here none apart 6 k x 2 q 0 s hold (λ now w y s' hold' worlds'.
              front_step m b i p n f ps into a here none apart now y 2 q 0 s' w hold' worlds' refl (type_number m (OfFront told_types)) type_there
              (stands_at (λ number_of. first_inst number_of ∷ number_inst ∷ last_inst ∷ []) are 2 (first_inst (type_number m)) (λ at. refl))
              (omega (arith, size_so)) 6
              (λ r s2 held.
              passing_way m b i p n f ps into a here none apart 5 now y 3 r front s2 held (λ now2 w2 y2 s3 hold2 worlds2.
              size_step m b i p n f ps into a here none apart now2 y2 3 r front s3 w2 hold2 worlds2 rest (omega (arith, size_is, small))
              (stands_at (λ number_of. first_inst number_of ∷ number_inst ∷ last_inst ∷ []) are 3 number_inst (λ at. refl)) (omega (arith, size_so)) 5
              (λ r2 s4 number held2.
              passing_way m b i p n f ps into a here none apart 4 now2 y2 4 r2 front s4 held2 (λ now3 w3 y3 s5 hold3 worlds3.
              rest_step m b i p n f ps into a here none apart now3 y3 4 r2 front s5 w3 hold3 worlds3 refl rest size_is
              (ap (λ (b : Bool). given_of Int y3 r2 (if b then middle.Imm (pos rest) else of_own passing_place)) fit
              ∙ (operands_are_read.own_number y3 r2 Int passing_place ∙ number))
              (stands_at (λ number_of. first_inst number_of ∷ number_inst ∷ last_inst ∷ []) are 4 last_inst (λ at. refl)) (omega (arith, size_so)) 4
              (λ r3 s6 held3.
              there_way (λ number_of. first_inst number_of ∷ number_inst ∷ last_inst ∷ []) are 5 (sym size_so) (λ at. refl) (λ at. refl) (λ at. refl) now3 y3 r3 s6
              held3))))));
        }

    by_fit : (fit : Bool) → fits_middle (pos rest) ≡ fit
        → ((number_of : Named → ℕ) → args number_of ≡ first_inst number_of ∷ sized rest ++ (last_inst ∷ [])) → Goes
    by_fit true e are =
        goes_two (λ number_of. are number_of
        ∙ ap (λ (b : Bool). first_inst number_of ∷ (if b then [] else number_inst ∷ []) ++ (last_inst ∷ [])) e) e
    by_fit false e are =
        goes_three (λ number_of. are number_of
        ∙ ap (λ (b : Bool). first_inst number_of ∷ (if b then [] else number_inst ∷ []) ++ (last_inst ∷ [])) e) e

  by_rest : front ≤ room.size → (rest : ℕ) → room.size - front ≡ rest → Goes
  by_rest low zero e =
      goes_one (λ number_of. args_are number_of ∙ ap (λ (z : ℕ). first_inst number_of ∷ rest_moved its_scene front z a) e) (omega (arith, low, e))
  by_rest low (suc r) e =
      by_fit (suc r) (omega (arith, low, e)) (fits_middle (pos (suc r))) refl
      (λ number_of. args_are number_of ∙ ap (λ (z : ℕ). first_inst number_of ∷ rest_moved its_scene front z a) e)

  pub row_goes : Goes
  row_goes =
      by_rest (front_within m.adts (ty.Chars ∷ printed ps)
      (more_laid ty.Chars (printed ps) reference_room (rooms m.adts (printed ps)) (is_alone ty.Chars reference_room refl) (printed_laid m.adts ps)))
      (room.size - front) refl

pub prints_go : PrintsGo
prints_go m b ps into a runs small k i x p q ready here =
    let r = ready.0.stands in
    let n = r.is.number in
    let f = r.is.function in
    let on = on_ready m i p q k x ready.0 in
    let in_code = row_code m k i x [] n f 0 p q on (Print ps into (Some a)) here in
    let few = (uses m k i x [] p.frame q.frame (frame_is m k i x [] n f 0 p q on) p.frame.pc (Print ps into (Some a)) in_code).0 in
    let found = finds m f p.frame.pc on.known (Print ps into (Some a)) on.goes in_code in
    let none = unnamed m k i x n f 0 p q on into few found.1 in
    let apart = slots_differ m f p.frame.pc (Print ps into (Some a)) in_code in
    let told_so = row_told m f p.frame.pc on.known ps into a on.goes in_code in
    let goes = row_goes m b i p n f ps into a here none apart few r.is.there in_code told_so small runs in (
      suc goes.length_of,
      (
        ready.1,
        λ now y w left h worlds.
            let later = on_later m i p q b k now x y left h [] n f 0 on in
            row_begins m b i p n f ps into a here none apart few r.is.there in_code told_so small runs goes now w y q later
            (finds m f p.frame.pc later.known (Print ps into (Some a)) later.goes in_code).1 ready.0.none_made h worlds,
      ),
    )
