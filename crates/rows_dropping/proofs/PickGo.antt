-- The row of such an instruction, from its end to its begin.
use Rattle.std.proofs.Common.{◌≡◌, ℕ, pos, ◌≤◌, List, [], ◌∷◌, ◌++◌, length}
use Rattle.std.proofs.Common.{refl, sym, ap, ◌∙◌, subst, arith, inl, inr, length-append}
use Rattle.limbo_types.specs.Types as ty
use Rattle.limbo_types.specs.Types.{Ty}
use Rattle.limbo_layout.specs.Adts.{Def, Has}
use Rattle.limbo_typed.specs.Typed as typed
use Rattle.limbo_meaning.specs.Values.{zero_of, fitted, nothing}
use Rattle.core_code.specs.Code.{Instr}
use Rattle.core_code.specs.Machine as code
use Rattle.core_typing.specs.Held as held
use Rattle.dis_isa.specs.declared.inst.Inst.{Inst}
use Rattle.dis_isa.specs.declared.inst.Operand.TheVariants as operand
use Rattle.dis_isa.specs.declared.inst.Middle.TheVariants as middle
use Rattle.dis_isa.specs.declared.op.Op.TheVariants as op
use Rattle.dis_meaning.specs.Words.{Word}
use Rattle.dis_meaning.specs.Process.{Process}
use Rattle.dis_memory.specs.Blocks.{World}
use Rattle.value_words.specs.Facts.{Facts, Grows}
use Rattle.value_frames.specs.Frames.{Form, Nowhere, AsNumber, AsReference, Boxed, form_of, reference_place, spare_place, number_place, within}
use Rattle.value_frames.specs.Standing.{a_value, ValueStands, NamesOnly}
use Rattle.value_moves.specs.Operands.{Code, inst, own, behind, moved}
use Rattle.value_heaps.specs.Blocks.{Constant}
use Rattle.value_code.specs.Data.{OfRecord, Zero, nil_word}
use Rattle.value_code.specs.Operands.{by_form}
use Rattle.value_code.specs.Objects.{constants, constants_from, placed}
use Rattle.value_code.specs.Code.{Site, code_of, zeroed, zero_data}
use Rattle.value_code.specs.Works.{prepared}
use Rattle.value_follows.specs.Stands.{types_of}
use Rattle.value_follows.specs.Rows.{Base}
use Rattle.rows_dropping.proofs.Boxes.{boxes_later}
use Rattle.rows_dropping.proofs.Moving.{Moving, at_once, behind_size, moving, simple_moving, size_inst, HasSize}
use Rattle.rows_dropping.proofs.Moving.{Zeroing, no_zero, number_zero, int_zero, reference_zero, parts_zero, zeroing}
use Rattle.rows_dropping.proofs.Got.{HasGot}
use Rattle.rows_dropping.proofs.Stages.{Stage, Leads, leads_same, leads_from, step_on}
use Rattle.rows_dropping.proofs.Picking.{Picks, instr, u, v, IsNew, Has_of, Starts, starts, into_new, has_got, both_got, sized}
use Rattle.rows_dropping.proofs.PickSizes.{into_sized, both_sized}
use Rattle.rows_dropping.proofs.PickInto.{makes_one, number_comes, reference_comes}
use Rattle.rows_dropping.proofs.PickBox.{boxes_come}
use Rattle.rows_dropping.proofs.PickCopy.{makes_spare, copies}
use Rattle.rows_dropping.proofs.PickZero as zeros
use Rattle.rows_dropping.proofs.PickBack.{part_live, part_names, Has_left, last_two, stage, ends}

two_more : (xs ys : Code) → 2 ≤ length ys → 2 ≤ length (xs ++ ys)
two_more xs ys l = let e = length-append xs ys in omega (arith, e, l)

module _ (m : typed.Module) (b : Base m) (i : ℕ) (p : code.Process) (t : Ty) (n into from : ℕ) (known : held.Slots) (a : Picks m p t n into from known) where
  abbrev it : Instr
  it = instr m b i p t n into from known a

  abbrev StageHere : Type 1
  StageHere = Stage m b i p it a.here known (into ∷ []) from a.whole

  abbrev LeadsHere : StageHere → (Site → Code) → Type 0
  LeadsHere s left = Leads m b i p it a.here known (into ∷ []) from a.whole s left

  abbrev live_part : List ℕ
  live_part = part_live m b i p t n into from known a

  -- ---- the code

  abbrev type_of : Site → ℕ
  type_of c = c.type_number (OfRecord t)

  abbrev type_whole : Site → ℕ
  type_whole c = c.type_number (OfRecord a.whole)

  abbrev spare_of : Site → ℕ
  spare_of c = spare_place c.scene.adts c.scene.variables

  abbrev from_of : Site → ℕ
  from_of c = reference_place c.scene.adts c.scene.variables from

  abbrev into_of : Site → ℕ
  into_of c = reference_place c.scene.adts c.scene.variables into

  abbrev place_in : ℕ
  place_in = within m.adts a.whole (n ∷ [])

  abbrev last : Site → Code
  last c = last_two m b i p t n into from known a c

  abbrev zero_code : Site → Code
  zero_code c = zeroed m.adts t (type_of c) c.at (behind (spare_of c) place_in)

  abbrev from_zero : Site → Code
  from_zero c = zero_code c ++ last c

  abbrev copy_code : Site → Code
  copy_code c = moved m.adts a.whole (type_whole c) (behind (from_of c) 0) (behind (spare_of c) 0)

  abbrev from_copy : Site → Code
  from_copy c = copy_code c ++ from_zero c

  abbrev new_spare : Site → Inst
  new_spare c = inst op.New (operand.Imm (pos (type_whole c))) middle.None (own (spare_of c))

  abbrev from_new : Site → Code
  from_new c = new_spare c ∷ from_copy c

  abbrev into_code : Form → Site → Code
  into_code f c = prepared f (type_of c) (own (into_of c)) ++ (moved m.adts t (type_of c) (behind (from_of c) place_in) (by_form c.scene f into) ++ from_new c)

  pub full : Site → Code
  full c = into_code (form_of t) c

  abbrev with_adts : Site → List Def → Ty → Code
  with_adts c defs z =
      prepared (form_of t) (type_of c) (own (into_of c))
      ++ (moved defs t (type_of c) (behind (from_of c) (within defs z (n ∷ []))) (by_form c.scene (form_of t) into)
      ++ (inst op.New (operand.Imm (pos (c.type_number (OfRecord z)))) middle.None (own (spare_of c))
      ∷ moved defs z (c.type_number (OfRecord z)) (behind (from_of c) 0) (behind (spare_of c) 0)
      ++ (zeroed defs t (type_of c) c.at (behind (spare_of c) (within defs z (n ∷ []))) ++ last c)))

  pub row_is : (c : Site) → c.scene.adts ≡ m.adts → c.told from ≡ a.whole → code_of c it ≡ full c
  unfolding full
  row_is c e f = ap (λ defs. with_adts c defs (c.told from)) e ∙ ap (λ z. with_adts c m.adts z) f

  two_last : (c : Site) → 2 ≤ length (last c)
  two_last c = omega arith

  -- ---- the stages

  abbrev Left : Facts → List Word → Type 0
  Left = Has_left m b i p t n into from known a

  abbrev Whole : Facts → List Word → Type 0
  Whole = Has_of m b i p t n into from known a a.whole (v m b i p t n into from known a)

  abbrev New : Facts → List Word → Type 0
  New = IsNew m b i p t n into from known a a.whole

  abbrev whole_later : (k now : Facts) (ws : List Word) → Grows k now → Whole k ws → Whole now ws
  whole_later k now ws g h = boxes_later m.adts a.whole k now ws (v m b i p t n into from known a) g h

  abbrev new_later : (k now : Facts) (ws : List Word) → Grows k now → New k ws → New now ws
  new_later k now ws g h = h

  abbrev left_stage : StageHere
  left_stage = stage m b i p t n into from known a

  abbrev whole_stage : StageHere
  whole_stage = both_got m b i p t n into from known a live_part Whole whole_later

  abbrev new_stage : StageHere
  new_stage = both_got m b i p t n into from known a live_part New new_later

  abbrev got_stage : StageHere
  got_stage = has_got m b i p t n into from known a live_part

  abbrev start_stage : StageHere
  start_stage = starts m b i p t n into from known a

  abbrev into_stage : StageHere
  into_stage = into_new m b i p t n into from known a

  abbrev with_size : StageHere → Ty → StageHere
  with_size s z = sized m b i p t n into from known a s z

  -- ---- zero

  data_so : zero_data t ≡ Zero t ∷ [] → (at : ℕ) → ((c : Constant) → Has (constants_from m at (zero_data t)) c → Has (constants m) c)
      → Has (constants m) (placed m at t (zero_of m.adts t))
  data_so e at all = all (placed m at t (zero_of m.adts t)) (subst (λ ds. Has (constants_from m at ds) (placed m at t (zero_of m.adts t))) (sym e) (inl refl))

  zero_moves : zero_data t ≡ Zero t ∷ []
      → ((c : Site) → zero_code c ≡ moved m.adts t (type_of c) (operand.Mp (pos c.at)) (behind (spare_of c) place_in))
      → Moving m.adts t → LeadsHere whole_stage from_zero
  zero_moves datum is (at_once move e does) =
      leads_same m b i p it a.here known (into ∷ []) from a.whole whole_stage from_zero
      (λ c. move (type_of c) (operand.Mp (pos c.at)) (behind (spare_of c) place_in) ∷ last c)
      (λ c f g. ap (λ l. l ++ last c) (is c ∙ e (type_of c) (operand.Mp (pos c.at)) (behind (spare_of c) place_in)))
      (step_on m b i p it a.here known (into ∷ []) from a.whole whole_stage left_stage
      (λ c. move (type_of c) (operand.Mp (pos c.at)) (behind (spare_of c) place_in)) last two_last
      (λ far k w x q s hold worlds number there row reaches.
      zeros.zeros_come m b i p t n into from known a live_part far k w x q s hold worlds (λ p. Unit {0}) move does tt row.at
      (data_so datum row.at row.stand) reaches)
      (ends m b i p t n into from known a))
  zero_moves datum is (behind_size move e does) =
      leads_same m b i p it a.here known (into ∷ []) from a.whole whole_stage from_zero
      (λ c. size_inst m.adts t ∷ (move (type_of c) (operand.Mp (pos c.at)) (behind (spare_of c) place_in) ∷ last c))
      (λ c f g. ap (λ l. l ++ last c) (is c ∙ e (type_of c) (operand.Mp (pos c.at)) (behind (spare_of c) place_in)))
      (step_on m b i p it a.here known (into ∷ []) from a.whole whole_stage (with_size whole_stage t) (λ c. size_inst m.adts t)
      (λ c. move (type_of c) (operand.Mp (pos c.at)) (behind (spare_of c) place_in) ∷ last c) (λ c. omega arith)
      (λ far k w x q s hold worlds number there row reaches.
      both_sized m b i p t n into from known a t a.part_small far k w x q worlds reaches live_part Whole whole_later s)
      (step_on m b i p it a.here known (into ∷ []) from a.whole (with_size whole_stage t) left_stage
      (λ c. move (type_of c) (operand.Mp (pos c.at)) (behind (spare_of c) place_in)) last two_last
      (λ far k w x q s hold worlds number there row reaches.
      zeros.zeros_come m b i p t n into from known a live_part far k w x q s.0 hold worlds (HasSize m.adts t) move does s.1 row.at
      (data_so datum row.at row.stand) reaches)
      (ends m b i p t n into from known a)))

  zero_leads : Zeroing m.adts t → LeadsHere whole_stage from_zero
  zero_leads (no_zero e code_so) =
      leads_same m b i p it a.here known (into ∷ []) from a.whole whole_stage from_zero last
      (λ c f g. ap (λ l. l ++ last c) (code_so (type_of c) c.at (behind (spare_of c) place_in)))
      (leads_from m b i p it a.here known (into ∷ []) from a.whole whole_stage left_stage last
      (λ far k x q s. zeros.nothing_left m b i p t n into from known a live_part far k x q e s) (ends m b i p t n into from known a))
  zero_leads (number_zero j o row_so e code_so) =
      leads_same m b i p it a.here known (into ∷ []) from a.whole whole_stage from_zero
      (λ c. inst o (operand.Imm (pos 0)) middle.None (behind (spare_of c) place_in) ∷ last c)
      (λ c f g. ap (λ l. l ++ last c) (code_so (type_of c) c.at (behind (spare_of c) place_in)))
      (step_on m b i p it a.here known (into ∷ []) from a.whole whole_stage left_stage
      (λ c. inst o (operand.Imm (pos 0)) middle.None (behind (spare_of c) place_in)) last two_last
      (λ far k w x q s hold worlds number there row reaches.
      zeros.number_comes m b i p t n into from known a live_part far k w x q s hold worlds j o row_so e reaches)
      (ends m b i p t n into from known a))
  zero_leads (int_zero e code_so) =
      leads_same m b i p it a.here known (into ∷ []) from a.whole whole_stage from_zero
      (λ c. inst op.Movw (operand.Imm (pos 0)) middle.None (behind (spare_of c) place_in) ∷ last c)
      (λ c f g. ap (λ l. l ++ last c) (code_so (type_of c) c.at (behind (spare_of c) place_in)))
      (step_on m b i p it a.here known (into ∷ []) from a.whole whole_stage left_stage
      (λ c. inst op.Movw (operand.Imm (pos 0)) middle.None (behind (spare_of c) place_in)) last two_last
      (λ far k w x q s hold worlds number there row reaches.
      zeros.int_comes m b i p t n into from known a live_part far k w x q s hold worlds e reaches)
      (ends m b i p t n into from known a))
  zero_leads (reference_zero form code_so) =
      leads_same m b i p it a.here known (into ∷ []) from a.whole whole_stage from_zero
      (λ c. inst op.Movp nil_word middle.None (behind (spare_of c) place_in) ∷ last c)
      (λ c f g. ap (λ l. l ++ last c) (code_so (type_of c) c.at (behind (spare_of c) place_in)))
      (step_on m b i p it a.here known (into ∷ []) from a.whole whole_stage left_stage
      (λ c. inst op.Movp nil_word middle.None (behind (spare_of c) place_in)) last two_last
      (λ far k w x q s hold worlds number there row reaches.
      zeros.reference_comes m b i p t n into from known a live_part far k w x q s hold worlds form reaches)
      (ends m b i p t n into from known a))
  zero_leads (parts_zero some datum code_so) =
      zero_moves datum (λ c. code_so (type_of c) c.at (behind (spare_of c) place_in)) (moving m.adts t some)

  -- ---- the copy

  two_zero : (c : Site) → 2 ≤ length (from_zero c)
  two_zero c = two_more (zero_code c) (last c) (two_last c)

  copy_leads : Moving m.adts a.whole → LeadsHere new_stage from_copy
  copy_leads (at_once move e does) =
      leads_same m b i p it a.here known (into ∷ []) from a.whole new_stage from_copy
      (λ c. move (type_whole c) (behind (from_of c) 0) (behind (spare_of c) 0) ∷ from_zero c)
      (λ c f g. ap (λ l. l ++ from_zero c) (e (type_whole c) (behind (from_of c) 0) (behind (spare_of c) 0)))
      (step_on m b i p it a.here known (into ∷ []) from a.whole new_stage whole_stage
      (λ c. move (type_whole c) (behind (from_of c) 0) (behind (spare_of c) 0)) from_zero two_zero
      (λ far k w x q s hold worlds number there row reaches.
      copies m b i p t n into from known a live_part (λ p. Unit {0}) move does far k w x q s tt hold worlds reaches)
      (zero_leads (zeroing m.adts t)))
  copy_leads (behind_size move e does) =
      leads_same m b i p it a.here known (into ∷ []) from a.whole new_stage from_copy
      (λ c. size_inst m.adts a.whole ∷ (move (type_whole c) (behind (from_of c) 0) (behind (spare_of c) 0) ∷ from_zero c))
      (λ c f g. ap (λ l. l ++ from_zero c) (e (type_whole c) (behind (from_of c) 0) (behind (spare_of c) 0)))
      (step_on m b i p it a.here known (into ∷ []) from a.whole new_stage (with_size new_stage a.whole) (λ c. size_inst m.adts a.whole)
      (λ c. move (type_whole c) (behind (from_of c) 0) (behind (spare_of c) 0) ∷ from_zero c) (λ c. let l = two_zero c in omega (arith, l))
      (λ far k w x q s hold worlds number there row reaches.
      both_sized m b i p t n into from known a a.whole (let l = a.small in omega (arith, l)) far k w x q worlds reaches live_part New new_later s)
      (step_on m b i p it a.here known (into ∷ []) from a.whole (with_size new_stage a.whole) whole_stage
      (λ c. move (type_whole c) (behind (from_of c) 0) (behind (spare_of c) 0)) from_zero two_zero
      (λ far k w x q s hold worlds number there row reaches.
      copies m b i p t n into from known a live_part (HasSize m.adts a.whole) move does far k w x q s.0 s.1 hold worlds reaches)
      (zero_leads (zeroing m.adts t))))

  whole_some : a.whole ≡ ty.Nothing → ⊥
  whole_some e = let f : form_of ty.Nothing ≡ Boxed = sym (ap form_of e) ∙ a.form in cc

  two_copy : (c : Site) → 2 ≤ length (from_copy c)
  two_copy c = two_more (copy_code c) (from_zero c) (two_zero c)

  -- ---- the new record

  new_leads : LeadsHere got_stage from_new
  new_leads =
      step_on m b i p it a.here known (into ∷ []) from a.whole got_stage new_stage new_spare from_copy two_copy
      (λ far k w x q s hold worlds number there row reaches.
      makes_spare m b i p t n into from known a live_part far k w x q s worlds reaches)
      (copy_leads (moving m.adts a.whole whole_some))

  two_new : (c : Site) → 2 ≤ length (from_new c)
  two_new c = let l = two_copy c in omega (arith, l)

  -- ---- the part

  abbrev names_part : NamesOnly live_part (u m b i p t n into from known a)
  names_part = part_names m b i p t n into from known a

  nothing_type : (z : Ty) → form_of z ≡ Nowhere → z ≡ ty.Nothing
  nothing_type ty.Nothing e = refl
  nothing_type ty.Byte e = absurd cc
  nothing_type ty.Int e = absurd cc
  nothing_type ty.Big e = absurd cc
  nothing_type (ty.Tuple ts) e = absurd cc
  nothing_type (ty.Adt c) e = absurd cc
  nothing_type z e = absurd cc

  -- a part without words is there
  nothing_got : t ≡ ty.Nothing → (far : ℕ) (k : Facts) (x : World) (q : Process) → Starts m b i p t n into from known a far k x q
      → HasGot m i p into t live_part (u m b i p t n into from known a) known far k x q
  nothing_got e far k x q s =
      let types = types_of m s.way.stands.is.function in
      let none : u m b i p t n into from known a ≡ nothing =
      a.fits ∙ ap (λ y. fitted m.adts y (u m b i p t n into from known a)) e in
      record {
        way = s.way;
        got = a_value q.frame.words (number_place m.adts types into) (reference_place m.adts types into) t live_part (u m b i p t n into from known a)
            (subst (λ y. ValueStands m.adts k q.frame.words (number_place m.adts types into) (reference_place m.adts types into) (form_of y) y
            (u m b i p t n into from known a)) (sym e) (none, s.idle)) names_part;
        spare = s.spare;
      }

  abbrev number_of_it : Site → ℕ
  number_of_it c = number_place c.scene.adts c.scene.variables into

  box_leads : form_of t ≡ Boxed → Moving m.adts t
      → LeadsHere into_stage (λ c. moved m.adts t (type_of c) (behind (from_of c) place_in) (behind (into_of c) 0) ++ from_new c)
  box_leads form (at_once move e does) =
      leads_same m b i p it a.here known (into ∷ []) from a.whole into_stage
      (λ c. moved m.adts t (type_of c) (behind (from_of c) place_in) (behind (into_of c) 0) ++ from_new c)
      (λ c. move (type_of c) (behind (from_of c) place_in) (behind (into_of c) 0) ∷ from_new c)
      (λ c f g. ap (λ l. l ++ from_new c) (e (type_of c) (behind (from_of c) place_in) (behind (into_of c) 0)))
      (step_on m b i p it a.here known (into ∷ []) from a.whole into_stage got_stage
      (λ c. move (type_of c) (behind (from_of c) place_in) (behind (into_of c) 0)) from_new two_new
      (λ far k w x q s hold worlds number there row reaches.
      boxes_come m b i p t n into from known a form live_part names_part (λ p. Unit {0}) move does far k w x q s tt hold worlds reaches)
      new_leads)
  box_leads form (behind_size move e does) =
      leads_same m b i p it a.here known (into ∷ []) from a.whole into_stage
      (λ c. moved m.adts t (type_of c) (behind (from_of c) place_in) (behind (into_of c) 0) ++ from_new c)
      (λ c. size_inst m.adts t ∷ (move (type_of c) (behind (from_of c) place_in) (behind (into_of c) 0) ∷ from_new c))
      (λ c f g. ap (λ l. l ++ from_new c) (e (type_of c) (behind (from_of c) place_in) (behind (into_of c) 0)))
      (step_on m b i p it a.here known (into ∷ []) from a.whole into_stage (with_size into_stage t) (λ c. size_inst m.adts t)
      (λ c. move (type_of c) (behind (from_of c) place_in) (behind (into_of c) 0) ∷ from_new c) (λ c. let l = two_new c in omega (arith, l))
      (λ far k w x q s hold worlds number there row reaches.
      into_sized m b i p t n into from known a t a.part_small far k w x q worlds reaches s)
      (step_on m b i p it a.here known (into ∷ []) from a.whole (with_size into_stage t) got_stage
      (λ c. move (type_of c) (behind (from_of c) place_in) (behind (into_of c) 0)) from_new two_new
      (λ far k w x q s hold worlds number there row reaches.
      boxes_come m b i p t n into from known a form live_part names_part (HasSize m.adts t) move does far k w x q s.0 s.1 hold worlds reaches)
      new_leads))

  boxed_some : form_of t ≡ Boxed → t ≡ ty.Nothing → ⊥
  boxed_some form e = let f : form_of ty.Nothing ≡ Boxed = sym (ap form_of e) ∙ form in cc

  two_into : (xs : Code) (c : Site) → 2 ≤ length (xs ++ from_new c)
  two_into xs c = two_more xs (from_new c) (two_new c)

  by_its_form : (f : Form) → form_of t ≡ f → LeadsHere start_stage (into_code f)
  by_its_form Nowhere form =
      let e = nothing_type t form in
      leads_same m b i p it a.here known (into ∷ []) from a.whole start_stage (into_code Nowhere) from_new
      (λ c f g. ap (λ y. moved m.adts y (type_of c) (behind (from_of c) place_in) (by_form c.scene Nowhere into) ++ from_new c) e)
      (leads_from m b i p it a.here known (into ∷ []) from a.whole start_stage got_stage from_new (nothing_got e) new_leads)
  by_its_form AsNumber form =
      let move = simple_moving m.adts t (inl form) in
      leads_same m b i p it a.here known (into ∷ []) from a.whole start_stage (into_code AsNumber)
      (λ c. move.0 (type_of c) (behind (from_of c) place_in) (own (number_of_it c)) ∷ from_new c)
      (λ c f g. ap (λ l. l ++ from_new c) (move.1 (type_of c) (behind (from_of c) place_in) (own (number_of_it c))))
      (step_on m b i p it a.here known (into ∷ []) from a.whole start_stage got_stage
      (λ c. move.0 (type_of c) (behind (from_of c) place_in) (own (number_of_it c))) from_new two_new
      (λ far k w x q s hold worlds number there row reaches.
      number_comes m b i p t n into from known a live_part names_part move.0 move.2 far k w x q s hold worlds form reaches)
      new_leads)
  by_its_form AsReference form =
      let move = simple_moving m.adts t (inr form) in
      leads_same m b i p it a.here known (into ∷ []) from a.whole start_stage (into_code AsReference)
      (λ c. move.0 (type_of c) (behind (from_of c) place_in) (own (into_of c)) ∷ from_new c)
      (λ c f g. ap (λ l. l ++ from_new c) (move.1 (type_of c) (behind (from_of c) place_in) (own (into_of c))))
      (step_on m b i p it a.here known (into ∷ []) from a.whole start_stage got_stage
      (λ c. move.0 (type_of c) (behind (from_of c) place_in) (own (into_of c))) from_new two_new
      (λ far k w x q s hold worlds number there row reaches.
      reference_comes m b i p t n into from known a live_part names_part move.0 move.2 far k w x q s hold worlds form reaches)
      new_leads)
  by_its_form Boxed form =
      step_on m b i p it a.here known (into ∷ []) from a.whole start_stage into_stage
      (λ c. inst op.New (operand.Imm (pos (type_of c))) middle.None (own (into_of c)))
      (λ c. moved m.adts t (type_of c) (behind (from_of c) place_in) (behind (into_of c) 0) ++ from_new c)
      (λ c. two_into (moved m.adts t (type_of c) (behind (from_of c) place_in) (behind (into_of c) 0)) c)
      (λ far k w x q s hold worlds number there row reaches. makes_one m b i p t n into from known a far k w x q s worlds reaches)
      (box_leads form (moving m.adts t (boxed_some form)))

  pub all_leads : LeadsHere start_stage full
  unfolding full
  all_leads = by_its_form (form_of t) refl
