-- The code of a call with operands: a frame is made, operands move there, and the rest is that of a call without operands.
use Rattle.std.proofs.Common.{◌≡◌, ℕ, suc, ◌+◌, ◌-◌, ◌<◌, List, ◌∷◌, ◌++◌, length, Option, Some, inl, inr, refl, ap, ◌∙◌, subst, arith, append_assoc}
use Rattle.std.specs.Prelude.{slice_get}
use Rattle.limbo_types.specs.Types.{Ty}
use Rattle.limbo_layout.specs.Layout.{Room}
use Rattle.limbo_typed.specs.Typed as typed
use Rattle.core_code.specs.Code.{Instr, Call}
use Rattle.core_code.specs.Machine as code
use Rattle.core_code.specs.Terms.{part_types}
use Rattle.dis_isa.specs.declared.inst.Inst.{Inst}
use Rattle.value_frames.specs.Frames.{Form, Nowhere, AsNumber, AsReference, Boxed, form_of, row_of}
use Rattle.value_frames.specs.Types.{desc}
use Rattle.value_moves.specs.Operands.{Code}
use Rattle.value_code.specs.Data.{OfFront}
use Rattle.value_code.specs.Operands.{Scene}
use Rattle.value_code.specs.Code.{Site, code_of, front_of, last_end, front_moved, rest_moved}
use Rattle.value_code.specs.Objects.{of_function, object_of, blank_site, told_at, or_nothing, type_number}
use Rattle.value_code.proofs.Having.{objects_have}
use Rattle.value_follows.specs.Rows.{row_of as code_row, Base, site_of}
use Rattle.rows_calling.proofs.Plain.{body}
use Rattle.rows_passing.specs.Rows.{ParametersPass, IsToldSo}
use Rattle.rows_passing.proofs.Together.{listed_back, same_row}
use Rattle.rows_passing.proofs.Steps.{room, front, as_args}

pub body_long : (s : Site) (form : Form) (t : Ty) (fn into : ℕ) → 0 < length (body s form t fn into)
body_long s Nowhere t fn into = omega arith
body_long s AsNumber t fn into = omega arith
body_long s AsReference t fn into = omega arith
body_long s Boxed t fn into = omega arith

module _ (m : typed.Module) (i : ℕ) (p : code.Process) (n : ℕ) (f : typed.Function) (t : Ty) (fn into a : ℕ)
    (here : slice_get p.frame.code p.frame.pc ≡ Some (Call t fn into (Some a))) (b : Base m) (pass : ParametersPass m) (g : typed.Function)
    (there : slice_get m.functions fn ≡ Some g) (f_there : slice_get m.functions n ≡ Some f)
    (in_code : slice_get (of_function m f).code p.frame.pc ≡ Some (Call t fn into (Some a))) (told_so : IsToldSo m f p.frame.pc t fn a) where
  abbrev pub instr : Instr
  instr = Call t fn into (Some a)

  abbrev pub blank : Site
  blank = blank_site m f.of.answer (of_function m f) p.frame.pc

  abbrev pub real : ℕ → Site
  real at = site_of m n f p.frame.pc at

  abbrev pub size : ℕ
  size = (code_row m f p.frame.pc instr).size

  -- From some instruction on the row goes on so.
  pub record Row (j : ℕ) (c : Site → Code) : Type 0 where
    pub follows : (at r : ℕ) (inst : Inst) → slice_get (c (real at)) r ≡ Some inst → slice_get (code_of (real at) instr) (j + r) ≡ Some inst
    pub long : size ≡ j + length (c blank)

  pub row_head : (j : ℕ) (x : Site → Inst) (c : Site → Code) → Row j (λ s. x s ∷ c s) → (at : ℕ)
      → slice_get (code_of (real at) instr) j ≡ Some (x (real at))
  row_head j x c r at =
      let e : j ≡ j + 0 = omega arith in
      ap (λ (l : ℕ). slice_get (code_of (real at) instr) l) e ∙ r.follows at 0 (x (real at)) refl

  pub row_next : (j : ℕ) (x : Site → Inst) (c : Site → Code) → Row j (λ s. x s ∷ c s) → Row (suc j) c
  row_next j x c r = record {
    follows = λ at l inst e.
        let same : suc j + l ≡ j + suc l = omega arith in
        ap (λ (o : ℕ). slice_get (code_of (real at) instr) o) same ∙ r.follows at (suc l) inst e;
    long = let e = r.long in omega (arith, e);
  }

  -- ---- the types that are told

  abbrev pub told_types : List Ty
  told_types = part_types m.adts (told_at m f.of.answer (of_function m f) p.frame.pc a)

  pub told_room : row_of m.adts told_types ≡ room m i p n f t fn into a here b pass g there
  told_room =
      let is : told_types ≡ told_so.0 =
      ap (λ (o : Option Ty). part_types m.adts (or_nothing o)) told_so.1 ∙ listed_back told_so.0 in
      ap (λ (ts : List Ty). row_of m.adts ts) is
      ∙ same_row m.adts told_so.0 g.of.args (as_args m i p n f t fn into a here b pass g there told_so.0 told_so.2.0 told_so.2.1 told_so.2.2)

  abbrev the_room : Room
  the_room = room m i p n f t fn into a here b pass g there

  pub front_is : front_of m.adts told_types ≡ front m i p n f t fn into a here b pass g there
  front_is = ap (λ (r : Room). last_end r.references) told_room

  pub rest_is : (row_of m.adts told_types).size - front_of m.adts told_types ≡ the_room.size - front m i p n f t fn into a here b pass g there
  rest_is = ap (λ (r : Room). r.size - last_end r.references) told_room

  -- the type of the words up to the last that refers
  abbrev pub type_of : Site → ℕ
  type_of s = s.type_number (OfFront told_types)

  abbrev pub type : ℕ
  type = type_number m (OfFront told_types)

  pub type_is : slice_get (object_of m).types type ≡ Some (desc (front m i p n f t fn into a here b pass g there) the_room.references)
  type_is =
      objects_have.types m n f p.frame.pc instr (OfFront told_types) f_there in_code (inr (inl refl))
      ∙ ap (λ (r : Room). Some (desc (last_end r.references) r.references)) told_room

  -- ---- behind the instruction that makes the frame

  abbrev pub scene_now : Scene
  scene_now = blank.scene

  abbrev pub code_behind : (front rest : ℕ) → Site → Code
  code_behind w r s = front_moved scene_now (type_of s) w a ++ (rest_moved scene_now w r a ++ body s (form_of t) t fn into)

  first_row : Row 1 (code_behind (front_of m.adts told_types) ((row_of m.adts told_types).size - front_of m.adts told_types))
  first_row =
      record {
        follows = λ at l inst e.
            let same : 1 + l ≡ suc l = omega arith in
            let joined = append_assoc (front_moved scene_now (type_of (real at)) (front_of m.adts told_types) a)
            (rest_moved scene_now (front_of m.adts told_types) ((row_of m.adts told_types).size - front_of m.adts told_types) a)
            (body (real at) (form_of t) t fn into) in
            ap (λ (o : ℕ). slice_get (code_of (real at) instr) o) same ∙ (ap (λ (c : Code). slice_get c l) joined ∙ e);
        long =
            let joined = append_assoc (front_moved scene_now (type_of blank) (front_of m.adts told_types) a)
            (rest_moved scene_now (front_of m.adts told_types) ((row_of m.adts told_types).size - front_of m.adts told_types) a)
            (body blank (form_of t) t fn into) in
            let many = ap (λ (c : Code). length c) joined in
            omega (arith, many);
      }

  pub row_behind : Row 1 (code_behind (front m i p n f t fn into a here b pass g there) (the_room.size - front m i p n f t fn into a here b pass g there))
  row_behind =
      subst (λ (w : ℕ). Row 1 (code_behind w (the_room.size - front m i p n f t fn into a here b pass g there))) front_is
      (subst (λ (r : ℕ). Row 1 (code_behind (front_of m.adts told_types) r)) rest_is first_row)
