-- Returns that give nothing.
use Rattle.std.proofs.Common.{◌≡◌, ℕ, List, [], ◌∷◌, ◌++◌, Option, Some, None, refl, sym, ap, ◌∙◌, subst}
use Rattle.std.specs.Prelude.{slice_get}
use Rattle.process_model.specs.Process.{Went, Ends}
use Rattle.system_model.specs.Ending.{Ended}
use Rattle.system_model.specs.Limits.{frames_limit}
use Rattle.limbo_types.specs.Types as ty
use Rattle.limbo_types.specs.Types.{Ty}
use Rattle.limbo_typed.specs.Typed as typed
use Rattle.limbo_meaning.specs.Process.{Shared}
use Rattle.limbo_meaning.specs.Values.{Value, nothing, fitted, references}
use Rattle.core_code.specs.Code.{Return}
use Rattle.core_code.specs.Machine as code
use Rattle.core_code.specs.Slots as core
use Rattle.core_typing.specs.Going.{all_of}
use Rattle.dis_isa.specs.declared.inst.Inst.{Inst}
use Rattle.dis_isa.specs.declared.inst.Operand.TheVariants as operand
use Rattle.dis_isa.specs.declared.inst.Middle.TheVariants as middle
use Rattle.dis_isa.specs.declared.op.Op.TheVariants as op
use Rattle.dis_meaning.specs.Process.{Frame, Process, with_frames}
use Rattle.dis_memory.specs.Blocks.{World}
use Rattle.value_words.specs.Facts.{Facts}
use Rattle.value_frames.specs.Frames.{Nowhere, form_of, answer_place, number_place, reference_place}
use Rattle.value_frames.specs.Standing.{a_value, ValueStands}
use Rattle.value_moves.specs.Operands.{inst, moved, behind}
use Rattle.value_code.specs.Objects.{object_of}
use Rattle.value_code.specs.Operands.{in_slot}
use Rattle.value_code.specs.Data.{OfRecord}
use Rattle.value_code.specs.Code.{Site, code_of, zeroed}
use Rattle.number_effects.proofs.Control.{control_goes}
use Rattle.number_effects.proofs.Stepping.{steps_obey}
use Rattle.value_follows.specs.Stands.{Answer, Awaited, Ready, Waits, AllWait, none_waits, waits_below, AnswerGoes, types_of}
use Rattle.value_follows.specs.Sides.{sides, HoldTheSame, program}
use Rattle.value_follows.specs.Rows.{Base, site_of}
use Rattle.value_follows.proofs.Single.{Once, single, both_go, both_end}
use Rattle.value_follows.proofs.Jumps.{row, first}
use Rattle.rows_ending.specs.Endings.{EndsGo, NothingReturns}
use Rattle.rows_ending.proofs.Returning.{ready_back}

-- what a return gives
abbrev pub given : core.Slots → Option ℕ → Value
given slots None = nothing
given slots (Some s) = core.value_of (core.slot slots s)

abbrev pub ret : Inst
ret = inst op.Ret operand.None middle.None operand.None

-- the code of a return that gives nothing
nothing_code : (c : Site) (from : Option ℕ) → c.answer ≡ ty.Nothing → slice_get (code_of c (Return from)) 0 ≡ Some ret
nothing_code c None e =
    ap (λ t. slice_get (zeroed c.scene.adts t (c.type_number (OfRecord t)) c.at (behind answer_place 0) ++ ret ∷ []) 0) e
nothing_code c (Some r) e =
    ap (λ t. slice_get (moved c.scene.adts t (c.type_number (OfRecord t)) (in_slot c.scene t r) (behind answer_place 0) ++ ret ∷ []) 0) e

-- which type gives nothing
nowhere_is : (t : Ty) → form_of t ≡ Nowhere → t ≡ ty.Nothing
nowhere_is ty.Nothing e = refl
nowhere_is ty.Byte e = absurd cc
nowhere_is ty.Int e = absurd cc
nowhere_is ty.Big e = absurd cc
nowhere_is (ty.Tuple ts) e = absurd cc
nowhere_is (ty.Adt n) e = absurd cc
nowhere_is _ e = absurd cc

module _ (m : typed.Module) (b : Base m) (k : Facts) (i : ℕ) (w : Shared) (x : World) (p : code.Process) (q : Process) (ready : Ready m k i x p q) (hold : HoldTheSame m k i x p q) (worlds : (sides m).worlds k w x) (from : Option ℕ) (here : slice_get p.frame.code p.frame.pc ≡ Some (Return from)) where
  -- what the other does
  pub returns : (sides m).program.step w p ≡ code.returns m.adts w p p.below (given p.frame.slots from)
  returns = ap (code.next frames_limit (program m) w p) here ∙ go from
    where
      go : (o : Option ℕ) → code.does frames_limit (program m) w p (Return o) ≡ code.returns m.adts w p p.below (given p.frame.slots o)
      go None = refl
      go (Some s) = refl

  module _ (nothing_there : p.frame.answer ≡ ty.Nothing) where
    reaches_it : slice_get (code_of (site_of m ready.stands.is.number ready.stands.is.function p.frame.pc
        (row m b k i w x p q ready hold worlds (Return from) here).at) (Return from)) 0 ≡ Some ret
    reaches_it =
        nothing_code (site_of m ready.stands.is.number ready.stands.is.function p.frame.pc (row m b k i w x p q ready hold worlds (Return from) here).at)
        from (sym ready.stands.is.answer ∙ nothing_there)

    go_back : (a : Answer) (t : Ty) (gs : List code.Frame) (fs : List Frame) → a ≡ Awaited → t ≡ ty.Nothing → p.frame.answer ≡ t
        → p.below ≡ gs → q.below ≡ fs → AllWait m k i x a t q.frame gs fs → Once m b i p q k w x
    go_back _ t _ _ none e s f g (none_waits a c) =
        both_end m b i p q k w x worlds Ended
        (steps_obey.does frames_limit (object_of m ∷ []) x q (object_of m) ret (Ends x Ended)
        (first m b k i w x p q ready hold worlds (Return from) here ret reaches_it)
        (control_goes.ret_last frames_limit (object_of m) x q ret refl g))
        (returns ∙ ap (λ below. code.returns m.adts w p below (given p.frame.slots from)) f)
    go_back _ t _ _ none e s f g (waits_below a u c h l gs fs waiting rest) =
        let waits = subst (λ o. Waits m k i x o h l u c) none waiting in
        let v = fitted m.adts p.frame.answer (given p.frame.slots from) in
        let empty : v ≡ nothing = ap (λ t. fitted m.adts t (given p.frame.slots from)) nothing_there in
        both_go m b i p q k w x hold worlds (code.with_frames p (code.answered h v) gs) (with_frames q l fs q.made)
        (steps_obey.does frames_limit (object_of m ∷ []) x q (object_of m) ret (Went x (with_frames q l fs q.made))
        (first m b k i w x p q ready hold worlds (Return from) here ret reaches_it)
        (control_goes.ret frames_limit (object_of m) x q ret l fs refl g))
        (returns ∙ ap (λ below. code.returns m.adts w p below (given p.frame.slots from)) f)
        (ready_back m k i x h l u c waits v p q gs fs ready.stands.number ready.none_made rest
        (a_value l.words (number_place m.adts (types_of m waits.is.function) h.into) (reference_place m.adts (types_of m waits.is.function) h.into)
        u (all_of m.adts u) v
        (subst (λ y. ValueStands m.adts k l.words (number_place m.adts (types_of m waits.is.function) h.into)
        (reference_place m.adts (types_of m waits.is.function) h.into) y u v) (sym (ap form_of e))
        (empty, subst (λ y. AnswerGoes m k i x Awaited y u l (types_of m waits.is.function) h.into c waits.is.words.own) (ap form_of e) waits.answer))
        (λ a n f. let d = ap (λ y. slice_get (references y) a) empty in absurd cc)))

pub nothing_returns : NothingReturns
nothing_returns m b from k i x p q ready form here =
    single m b i p q k x ready (λ now w y r hold worlds.
    let none = nowhere_is p.frame.answer form in
    go_back m b now i w y p q r hold worlds from here none Awaited p.frame.answer p.below q.below refl none refl refl refl r.stands.waits)

-- where no frame waits the function gives none
no_answer : (m : typed.Module) (k : Facts) (i : ℕ) (x : World) (a : Answer) (t : Ty) (c : Frame) (gs : List code.Frame) (fs : List Frame)
    → AllWait m k i x a t c gs fs → gs ≡ [] → t ≡ ty.Nothing
no_answer m k i x _ _ _ _ _ (none_waits a c) e = refl
no_answer m k i x _ _ _ _ _ (waits_below a t c g f gs fs w rest) e = absurd cc

pub ends_go : EndsGo
ends_go m b from k i x p q ready none here =
    nothing_returns m b from k i x p q ready
    (ap form_of (no_answer m k i x Awaited p.frame.answer q.frame p.below q.below ready.0.stands.waits none)) here
