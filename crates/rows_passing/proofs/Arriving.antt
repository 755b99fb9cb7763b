-- The way by which operands come to the frame that is made, up to where the rest of the row begins.
use Rattle.std.proofs.Common.{◌≡◌, ℕ, Bool, true, false, zero, suc, pos, ◌+◌, ◌-◌, ◌<◌, ◌≤◌, [], ◌∷◌, ◌++◌, length, Some, refl, ap, ◌∙◌, subst, arith}
use Rattle.std.proofs.Common.{if◌then◌else◌}
use Rattle.std.specs.Prelude.{slice_get}
use Rattle.process_ways.specs.Ways.{Way}
use Rattle.limbo_types.specs.Types.{Ty}
use Rattle.limbo_values.specs.declared.number.Kind.TheVariants.{Int}
use Rattle.limbo_typed.specs.Typed as typed
use Rattle.core_code.specs.Code.{Instr, Call}
use Rattle.core_code.specs.Machine as code
use Rattle.dis_isa.specs.declared.inst.Inst.{Inst}
use Rattle.dis_isa.specs.declared.inst.Middle.TheVariants as middle
use Rattle.dis_isa.specs.declared.inst.Operand.TheVariants as operand
use Rattle.dis_isa.specs.declared.op.Op.TheVariants as op
use Rattle.dis_meaning.specs.Words.{Found}
use Rattle.dis_meaning.specs.Numbers.{number_at}
use Rattle.dis_meaning.specs.Process.{Frame, Process}
use Rattle.dis_memory.specs.Blocks.{World}
use Rattle.dis_memory.specs.Places.{given_of}
use Rattle.value_words.specs.Facts.{Facts}
use Rattle.value_frames.specs.Frames.{linkage_bytes, passing_place, made_place, form_of, reference_place}
use Rattle.value_moves.specs.Operands.{Code, inst, own, of_own, behind, size_middle, fits_middle}
use Rattle.value_code.specs.Code.{Site, rest_moved, front_moved}
use Rattle.std.proofs.Common.{length-append}
use Rattle.value_code.specs.Operands.{Scene}
use Rattle.value_code.specs.Objects.{of_function, blank_site}
use Rattle.number_effects.proofs.Reading.{operands_are_read}
use Rattle.value_follows.specs.Stands.{types_of}
use Rattle.value_follows.specs.Sides.{sides, HoldTheSame}
use Rattle.value_follows.specs.Rows.{place, row_of as code_row, Base}
use Rattle.rows_calling.proofs.OnTheWay.{On}
use Rattle.rows_calling.proofs.Making.{Called, Made}
use Rattle.rows_calling.proofs.Plain.{body}
use Rattle.rows_passing.specs.Rows.{ParametersPass, IsToldSo}
use Rattle.rows_passing.proofs.Passing.{passing_way}
use Rattle.rows_passing.proofs.Steps.{Now, room, front, front_step, rest_step, size_step}
use Rattle.rows_passing.proofs.Finishing.{callee, finished}
use Rattle.rows_passing.proofs.Coding.{Row, row_head, row_next, body_long, row_behind, scene_now, type, type_of, type_is}

module _ (m : typed.Module) (i : ℕ) (p : code.Process) (n : ℕ) (f : typed.Function) (t : Ty) (fn into a : ℕ)
    (here : slice_get p.frame.code p.frame.pc ≡ Some (Call t fn into (Some a))) (b : Base m) (pass : ParametersPass m) (g : typed.Function)
    (there : slice_get m.functions fn ≡ Some g) (f_there : slice_get m.functions n ≡ Some f)
    (in_code : slice_get (of_function m f).code p.frame.pc ≡ Some (Call t fn into (Some a))) (told_so : IsToldSo m f p.frame.pc t fn a) where
  abbrev instr : Instr
  instr = Call t fn into (Some a)

  abbrev pub So : (k : Facts) (x : World) (j : ℕ) (q : Process) (done : ℕ) → Type 0
  So k x j q done = Now m i p n f t fn into a here b pass g there k x j q done

  abbrev pub the_front : ℕ
  the_front = front m i p n f t fn into a here b pass g there

  abbrev pub the_size : ℕ
  the_size = (room m i p n f t fn into a here b pass g there).size

  abbrev pub RowIs : ℕ → (Site → Code) → Type 0
  RowIs j c = Row m i p n f t fn into a here b pass g there f_there in_code told_so j c

  abbrev pub ends : Site → Code
  ends s = body s (form_of t) t fn into

  abbrev sc : Scene
  sc = scene_now m i p n f t fn into a here b pass g there f_there in_code told_so

  abbrev r_at : ℕ
  r_at = reference_place m.adts (types_of m f) a

  -- where the rest of the row goes on with the frame
  abbrev pub GoesFrom : (far l : ℕ) → Type 0
  GoesFrom far l =
      (k : Facts) (x : World) (q : Process) (c : Frame) → On m k i x [] n f far p q
      → Called m k x fn g (callee m i p n f t fn into a here b pass g there) c → Made q c → HoldTheSame m k i x p q
      → Way (sides m) (place m) (suc l) k i x p q

  abbrev pub Goes : Type 0
  Goes = (far : ℕ) → RowIs far ends → (l : ℕ) × GoesFrom far l

  -- where so many bytes are there
  abbrev pub PassFrom : (far done l : ℕ) → Type 0
  PassFrom far done l =
      (k : Facts) (x : World) (q : Process) → So k x far q done → HoldTheSame m k i x p q → Way (sides m) (place m) (suc l) k i x p q

  done_way : (far l : ℕ) → GoesFrom far l → PassFrom far the_size l
  done_way far l goes k x q s hold =
      goes k x q _ s.on (finished m i p n f t fn into a here b pass g there k x far q s) s.has hold

  -- ---- bytes behind the words that refer

  abbrev move_bytes : ℕ → Inst
  move_bytes rest = inst op.Movm (behind r_at the_front) (size_middle rest) (behind made_place (linkage_bytes + the_front))

  abbrev count_bytes : ℕ → Inst
  count_bytes rest = inst op.Movw (operand.Imm (pos rest)) middle.None (own passing_place)

  fits_given : (rest : ℕ) → fits_middle (pos rest) ≡ true → (x : World) (q : Process) → given_of Int x q (size_middle rest) ≡ Found (pos rest)
  fits_given rest e x q =
      ap (λ (c : Bool). given_of Int x q (if c then middle.Imm (pos rest) else of_own passing_place)) e
      ∙ operands_are_read.middle_given x q Int (pos rest)

  large_given : (rest : ℕ) → fits_middle (pos rest) ≡ false → (x : World) (q : Process)
      → number_at Int q.frame.words (pos passing_place) ≡ Found (pos rest) → given_of Int x q (size_middle rest) ≡ Found (pos rest)
  large_given rest e x q h =
      ap (λ (c : Bool). given_of Int x q (if c then middle.Imm (pos rest) else of_own passing_place)) e
      ∙ operands_are_read.own_number x q Int passing_place ∙ h

  rows_same : (j : ℕ) (c d : Site → Code) → ((s : Site) → c s ≡ d s) → RowIs j c → RowIs j d
  rows_same j c d same r = record {
    follows = λ at l x e. r.follows at l x (ap (λ (u : Code). slice_get u l) (same _) ∙ e);
    long = r.long ∙ ap (λ (u : Code). j + length u) (same _);
  }

  module _ (goes : Goes) where
    some_left : (far : ℕ) → RowIs (suc far) ends → suc far < (code_row m f p.frame.pc instr).size
    some_left far r =
        let e = r.long in
        let l = body_long (blank_site m f.of.answer (of_function m f) p.frame.pc) (form_of t) t fn into in
        omega (arith, e, l)

    bytes_way : (far rest : ℕ) → the_front + rest ≡ the_size → RowIs far (λ s. move_bytes rest ∷ ends s) → (where_so : Process → Type 0)
        → ((x : World) (q : Process) → where_so q → given_of Int x q (size_middle rest) ≡ Found (pos rest))
        → (l : ℕ) × ((k : Facts) (x : World) (q : Process) → So k x far q the_front → where_so q → HoldTheSame m k i x p q
        → Way (sides m) (place m) (suc l) k i x p q)
    bytes_way far rest size r where_so given =
        let next = row_next m i p n f t fn into a here b pass g there f_there in_code told_so far (λ s. move_bytes rest) ends r in
        let head = row_head m i p n f t fn into a here b pass g there f_there in_code told_so far (λ s. move_bytes rest) ends r in
        let last = goes (suc far) next in (
          suc last.0,
          λ k x q s so hold.
              passing_way m i p n f t fn into a here b g (suc last.0) k x far q the_front s hold
              (λ now w y s' hold' worlds'.
              rest_step m i p n f t fn into a here b pass g there now y far q the_front s' w hold' worlds' refl rest size (given y q so) head
              (some_left far next) (suc last.0)
              (λ u s'' held. done_way (suc far) last.0 last.1 now y u s'' held)),
        )

    rest_way : (far rest : ℕ) → the_front + rest ≡ the_size → RowIs far (λ s. rest_moved sc the_front rest a ++ ends s)
        → (l : ℕ) × PassFrom far the_front l
    rest_way far zero size r =
        let last = goes far r in (
          last.0,
          subst (λ (d : ℕ). PassFrom far d last.0) (omega (arith, size)) (done_way far last.0 last.1),
        )
    rest_way far (suc rest) size r = go (fits_middle (pos (suc rest))) refl
      where
        go : (fits : Bool) → fits_middle (pos (suc rest)) ≡ fits → (l : ℕ) × PassFrom far the_front l
        go true e =
            let same : (s : Site) → rest_moved sc the_front (suc rest) a ++ ends s ≡ move_bytes (suc rest) ∷ ends s = λ s.
            ap (λ (c : Bool). ((if c then [] else count_bytes (suc rest) ∷ []) ++ (move_bytes (suc rest) ∷ [])) ++ ends s) e in
            let way = bytes_way far (suc rest) size (rows_same far (λ s. rest_moved sc the_front (suc rest) a ++ ends s) (λ s. move_bytes (suc rest) ∷ ends s) same r)
            (λ q. Unit {0}) (λ x q u. fits_given (suc rest) e x q) in
            (way.0, λ k x q s hold. way.1 k x q s tt hold)
        go false e =
            let same : (s : Site) → rest_moved sc the_front (suc rest) a ++ ends s ≡ count_bytes (suc rest) ∷ move_bytes (suc rest) ∷ ends s = λ s.
            ap (λ (c : Bool). ((if c then [] else count_bytes (suc rest) ∷ []) ++ (move_bytes (suc rest) ∷ [])) ++ ends s) e in
            let r' = rows_same far (λ s. rest_moved sc the_front (suc rest) a ++ ends s) (λ s. count_bytes (suc rest) ∷ move_bytes (suc rest) ∷ ends s) same r in
            let head = row_head m i p n f t fn into a here b pass g there f_there in_code told_so far (λ s. count_bytes (suc rest)) (λ s. move_bytes (suc rest) ∷ ends s) r' in
            let next = row_next m i p n f t fn into a here b pass g there f_there in_code told_so far (λ s. count_bytes (suc rest)) (λ s. move_bytes (suc rest) ∷ ends s) r' in
            let way = bytes_way (suc far) (suc rest) size next (λ q. number_at Int q.frame.words (pos passing_place) ≡ Found (pos (suc rest)))
            (λ x q h. large_given (suc rest) e x q h) in
            let long = next.long in (
              suc way.0,
              λ k x q s hold.
                  passing_way m i p n f t fn into a here b g (suc way.0) k x far q the_front s hold
                  (λ now w y s' hold' worlds'.
                  size_step m i p n f t fn into a here b pass g there now y far q the_front s' w hold' worlds' (suc rest) (omega (arith, size)) head
                  (omega (arith, long)) (suc way.0)
                  (λ u s'' number held. way.1 now y u s'' number held)),
            )

    -- ---- words up to the last that refers

    abbrev move_words : Site → Inst
    move_words s = inst op.Movmp (behind r_at 0) (middle.Imm (pos (type_of m i p n f t fn into a here b pass g there f_there in_code told_so s))) (behind made_place linkage_bytes)

    pub all_way : (the_front ≤ the_size) → (l : ℕ) × PassFrom 1 0 l
    all_way within = go the_front refl
      where
        go : (w : ℕ) → the_front ≡ w → (l : ℕ) × PassFrom 1 0 l
        go zero e =
            let r = row_behind m i p n f t fn into a here b pass g there f_there in_code told_so in
            let r' = subst (λ (w : ℕ). RowIs 1 (λ s. front_moved sc (type_of m i p n f t fn into a here b pass g there f_there in_code told_so s) w a
            ++ (rest_moved sc the_front (the_size - the_front) a ++ ends s))) e r in
            let way = rest_way 1 (the_size - the_front) (omega (arith, within)) r' in
            (way.0, subst (λ (d : ℕ). PassFrom 1 d way.0) e way.1)
        go (suc w) e =
            let r = row_behind m i p n f t fn into a here b pass g there f_there in_code told_so in
            let tail : Site → Code = λ s. rest_moved sc the_front (the_size - the_front) a ++ ends s in
            let r' = subst (λ (w : ℕ). RowIs 1 (λ s. front_moved sc (type_of m i p n f t fn into a here b pass g there f_there in_code told_so s) w a
            ++ (rest_moved sc the_front (the_size - the_front) a ++ ends s))) e r in
            let head = row_head m i p n f t fn into a here b pass g there f_there in_code told_so 1 move_words tail r' in
            let next = row_next m i p n f t fn into a here b pass g there f_there in_code told_so 1 move_words tail r' in
            let way = rest_way 2 (the_size - the_front) (omega (arith, within)) next in
            let long = next.long in
            let joined = length-append (rest_moved sc the_front (the_size - the_front) a) (ends (blank_site m f.of.answer (of_function m f) p.frame.pc)) in
            let some_more = body_long (blank_site m f.of.answer (of_function m f) p.frame.pc) (form_of t) t fn into in (
              suc way.0,
              λ k x q s hold.
                  passing_way m i p n f t fn into a here b g (suc way.0) k x 1 q 0 s hold
                  (λ now w y s' hold' worlds'.
                  front_step m i p n f t fn into a here b pass g there now y 1 q 0 s' w hold' worlds' refl
                  (type m i p n f t fn into a here b pass g there f_there in_code told_so) (type_is m i p n f t fn into a here b pass g there f_there in_code told_so) head
                  (omega (arith, long, some_more, joined)) (suc way.0)
                  (λ u s'' held. way.1 now y u s'' held)),
            )

  -- behind the first instruction there is another one
  pub more_follow : 1 < (code_row m f p.frame.pc instr).size
  more_follow =
      let r = row_behind m i p n f t fn into a here b pass g there f_there in_code told_so in
      let long = r.long in
      let some = body_long (blank_site m f.of.answer (of_function m f) p.frame.pc) (form_of t) t fn into in
      let one = length-append (front_moved sc (type_of m i p n f t fn into a here b pass g there f_there in_code told_so (blank_site m f.of.answer (of_function m f) p.frame.pc)) the_front a)
      (rest_moved sc the_front (the_size - the_front) a ++ ends (blank_site m f.of.answer (of_function m f) p.frame.pc)) in
      let two = length-append (rest_moved sc the_front (the_size - the_front) a) (ends (blank_site m f.of.answer (of_function m f) p.frame.pc)) in
      omega (arith, long, some, one, two)
