-- Returns without a value of functions whose answers refer: the slot that waits comes to refer to nothing.
use Rattle.std.proofs.Common.{◌≡◌, ℕ, zero, suc, pos, ◌+◌, ◌≤◌, List, [], ◌∷◌, ◌++◌, Some, None, refl, sym, ap, ◌∙◌, subst, arith, inl, inr}
use Rattle.std.specs.Prelude.{slice_get}
use Rattle.process_model.specs.Process.{Went}
use Rattle.system_model.specs.Limits.{frames_limit}
use Rattle.limbo_types.specs.Types as ty
use Rattle.limbo_types.specs.Types.{Ty}
use Rattle.limbo_layout.specs.Adts.{Def}
use Rattle.limbo_typed.specs.Typed as typed
use Rattle.limbo_meaning.specs.Process.{Shared}
use Rattle.limbo_meaning.specs.Values.{Value, Ref, nothing, fitted, references}
use Rattle.core_code.specs.Code.{Return}
use Rattle.core_code.specs.Machine as code
use Rattle.core_typing.specs.Going.{all_of}
use Rattle.dis_isa.specs.declared.inst.Inst.{Inst}
use Rattle.dis_isa.specs.declared.inst.Middle.TheVariants as middle
use Rattle.dis_isa.specs.declared.op.Op.TheVariants as op
use Rattle.dis_meaning.specs.Words.{Word, Refer, Address, InFrame, Access, Found, ◌>>=◌, word_at, reference}
use Rattle.dis_meaning.specs.Places.{with_frame_words}
use Rattle.dis_meaning.specs.Process.{Frame, Process, with_frames, with_words}
use Rattle.dis_memory.specs.Blocks.{World}
use Rattle.dis_memory.specs.Places.{memory, source_reference}
use Rattle.value_words.specs.Facts.{Facts}
use Rattle.value_words.specs.Stands.{Stands, a_number, a_text, a_name, an_array, no_words, a_tuple, an_adt}
use Rattle.value_frames.specs.Frames.{Nowhere, AsReference, form_of, answer_place, number_place, reference_place}
use Rattle.value_frames.specs.Standing.{a_value, ValueStands, nothing_there}
use Rattle.value_moves.specs.Operands.{inst, behind}
use Rattle.value_moves.specs.Spots.{LeadsAndStores}
use Rattle.value_moves.proofs.Leading.{spots_lead}
use Rattle.value_code.specs.Objects.{object_of, placed}
use Rattle.value_code.specs.Data.{nil_word, OfRecord}
use Rattle.value_code.specs.Code.{Site, code_of, zeroed}
use Rattle.number_effects.specs.Giving.{with_word, StoresWord}
use Rattle.number_effects.specs.Stepping.{on_next}
use Rattle.number_effects.proofs.Reading.{operands_are_read}
use Rattle.number_effects.proofs.Records.{words_move}
use Rattle.number_effects.proofs.Stepping.{steps_obey}
use Rattle.dis_memory.specs.Step.{obey}
use Rattle.value_follows.specs.Stands.{Awaited, Ready, Waits, AllWait, types_of}
use Rattle.value_follows.specs.Sides.{sides, HoldTheSame}
use Rattle.value_follows.specs.Rows.{Base}
use Rattle.value_follows.proofs.Standing.{instance_here}
use Rattle.rows_ending.specs.Endings.{NilReturns}
use Rattle.rows_ending.proofs.Endings.{ret}
use Rattle.rows_ending.proofs.Two.{Has, Moves, begins, moves, two_go, same_first, same_place}
use Rattle.rows_ending.proofs.Waiting.{words_found, words_stored, goes_to, waits_then, rest_then}

-- ---- what refers to nothing

module _ (defs : List Def) (k : Facts) (words : List Word) where
  -- a word that stands for `nil` refers to nothing
  nil_refers : (at : ℕ) (t : Ty) (v : Value) → v ≡ Ref None → Stands defs k words at t v → word_at words (pos at) ≡ Found (Refer None)
  nil_refers _ _ _ e (a_number at j z f i) = absurd cc
  nil_refers _ _ _ e (a_text at r s f i) = absurd cc
  nil_refers _ _ _ e (a_name at t None n i f h) = f
  nil_refers _ _ _ e (a_name at t (Some b) None i f h) = absurd h
  nil_refers _ _ _ e (a_name at t (Some b) (Some n) i f h) = absurd cc
  nil_refers _ _ _ e (an_array at t r p f i) = absurd cc
  nil_refers _ _ _ e (no_words at) = absurd cc
  nil_refers _ _ _ e (a_tuple at ts rs vs l a) = absurd cc
  nil_refers _ _ _ e (an_adt at n d rs vs f l a) = absurd cc

  -- and it stands for the zero of each type whose values refer
  zero_stands : (at : ℕ) (t : Ty) → form_of t ≡ AsReference → word_at words (pos at) ≡ Found (Refer None) → Stands defs k words at t (fitted defs t nothing)
  zero_stands at ty.Chars e f = a_text at None [] f refl
  zero_stands at ty.Nil e f = a_name at ty.Nil None None tt f tt
  zero_stands at (ty.ArrayOf t) e f = an_array at t None None f tt
  zero_stands at (ty.ListOf t) e f = a_name at (ty.ListOf t) None None tt f tt
  zero_stands at (ty.ChanOf t) e f = a_name at (ty.ChanOf t) None None tt f tt
  zero_stands at (ty.RefAdt n) e f = a_name at (ty.RefAdt n) None None tt f tt
  zero_stands at (ty.RefPick n v) e f = a_name at (ty.RefPick n v) None None tt f tt
  zero_stands at (ty.Module n) e f = a_name at (ty.Module n) None None tt f tt
  zero_stands at ty.Byte e f = absurd cc
  zero_stands at ty.Int e f = absurd cc
  zero_stands at ty.Big e f = absurd cc
  zero_stands at ty.Nothing e f = absurd cc
  zero_stands at (ty.Tuple ts) e f = absurd cc
  zero_stands at (ty.Adt n) e f = absurd cc

-- which names nothing
one_none : (a n : ℕ) → slice_get (None ∷ []) a ≡ Some (Some n) → ⊥
one_none zero n e = cc
one_none (suc a) n e = cc

zero_bare : (defs : List Def) (t : Ty) → form_of t ≡ AsReference → (a n : ℕ) → slice_get (references (fitted defs t nothing)) a ≡ Some (Some n) → ⊥
zero_bare defs ty.Chars e a n f = cc
zero_bare defs ty.Nil e a n f = one_none a n f
zero_bare defs (ty.ArrayOf t) e a n f = one_none a n f
zero_bare defs (ty.ListOf t) e a n f = one_none a n f
zero_bare defs (ty.ChanOf t) e a n f = one_none a n f
zero_bare defs (ty.RefAdt k) e a n f = one_none a n f
zero_bare defs (ty.RefPick k v) e a n f = one_none a n f
zero_bare defs (ty.Module k) e a n f = one_none a n f
zero_bare defs ty.Byte e a n f = cc
zero_bare defs ty.Int e a n f = cc
zero_bare defs ty.Big e a n f = cc
zero_bare defs ty.Nothing e a n f = cc
zero_bare defs (ty.Tuple ts) e a n f = cc
zero_bare defs (ty.Adt k) e a n f = cc

-- ---- the code

abbrev mover : Site → Inst
mover c = inst op.Movp nil_word middle.None (behind answer_place 0)

zeroed_is : (defs : List Def) (t : Ty) (n at : ℕ) → form_of t ≡ AsReference → zeroed defs t n at (behind answer_place 0) ≡ inst op.Movp nil_word middle.None (behind answer_place 0) ∷ []
zeroed_is defs ty.Chars n at e = refl
zeroed_is defs ty.Nil n at e = refl
zeroed_is defs (ty.ArrayOf t) n at e = refl
zeroed_is defs (ty.ListOf t) n at e = refl
zeroed_is defs (ty.ChanOf t) n at e = refl
zeroed_is defs (ty.RefAdt k) n at e = refl
zeroed_is defs (ty.RefPick k v) n at e = refl
zeroed_is defs (ty.Module k) n at e = refl
zeroed_is defs ty.Byte n at e = absurd cc
zeroed_is defs ty.Int n at e = absurd cc
zeroed_is defs ty.Big n at e = absurd cc
zeroed_is defs ty.Nothing n at e = absurd cc
zeroed_is defs (ty.Tuple ts) n at e = absurd cc
zeroed_is defs (ty.Adt k) n at e = absurd cc

-- ---- the two instructions

module _ (m : typed.Module) (b : Base m) (i : ℕ) (p : code.Process) (here : slice_get p.frame.code p.frame.pc ≡ Some (Return None))
    (form : form_of p.frame.answer ≡ AsReference) where
  gives_some : form_of p.frame.answer ≡ Nowhere → ⊥
  gives_some e = cc

  two : (c : Site) → c.answer ≡ p.frame.answer → code_of c (Return None) ≡ mover c ∷ ret ∷ []
  two c e = ap (λ is. is ++ ret ∷ []) (zeroed_is c.scene.adts c.answer (c.type_number (OfRecord c.answer)) c.at (ap form_of e ∙ form))

  module _ (k : Facts) (w : Shared) (x : World) (q : Process) (ready : Ready m k i x p q) (hold : HoldTheSame m k i x p q)
      (worlds : (sides m).worlds k w x) (h : code.Frame) (l : Frame) (gs : List code.Frame) (fs : List Frame) (f : p.below ≡ h ∷ gs)
      (g : q.below ≡ l ∷ fs) (waits : Waits m k i x Awaited h l p.frame.answer q.frame) (rest : AllWait m k i x Awaited h.answer l gs fs) where
    nil_read : source_reference x q nil_word ≡ Found None
    nil_read =
        let instance = instance_here m b k i w x p q [] ready.stands.is hold worlds.0 in
        let stands = (instance.2 (placed m 4 ty.Nil (Ref None)) (inr (inl refl))).stands in
        operands_are_read.source_referring x q nil_word instance.0 4 (spots_lead.of_module x q 0 instance.0 4 instance.1).0
        ∙ ap (λ (a : Access Word). a >>= reference) (nil_refers m.adts k instance.0 4 ty.Nil (Ref None) refl stands)

    abbrev n_at : ℕ
    n_at = number_place m.adts (types_of m waits.is.function) h.into

    abbrev r_at : ℕ
    r_at = reference_place m.adts (types_of m waits.is.function) h.into

    address : word_at q.frame.words (pos answer_place) ≡ Found (Address (InFrame l.serial) (pos r_at))
    address = (goes_to m k i x p.frame.answer h l q.frame waits AsReference form).1

    lead : LeadsAndStores x q (behind answer_place 0) l.words r_at (λ new. memory x (with_frame_words q l.serial new))
    lead =
        let zero : r_at + 0 ≡ r_at = omega arith in
        subst (λ a. LeadsAndStores x q (behind answer_place 0) l.words a (λ new. memory x (with_frame_words q l.serial new))) zero
        (spots_lead.frame x q answer_place l.serial r_at l.words 0 address
        (words_found m k i x p.frame.answer q h l gs fs g ready.none_made waits rest))

    abbrev others : List Word
    others = with_word l.words r_at (Refer None)

    is_stored : StoresWord (obey frames_limit (object_of m) x q (inst op.Movp nil_word middle.None (behind answer_place 0)) op.Movp) x q lead.0.place l.words r_at (Refer None)
    is_stored =
        let old = (goes_to m k i x p.frame.answer h l q.frame waits AsReference form).0 in
        words_move.reference frames_limit (object_of m) x q (inst op.Movp nil_word middle.None (behind answer_place 0)) None l.words r_at lead.0 old.0 refl
        nil_read old.1

    step_is : (sides m).code.step x q ≡ Went x (on_next (memory x (with_frames q q.frame (with_words l others ∷ fs) [])))
    step_is =
        steps_obey.stores frames_limit (object_of m ∷ []) x q (object_of m) (inst op.Movp nil_word middle.None (behind answer_place 0)) x lead.0.place others
        (memory x (with_frame_words q l.serial others)) (begins m b i None p mover two gives_some here k w x q ready hold worlds)
        is_stored.1 (lead.1 others)
        ∙ ap (λ r. Went x (on_next (memory x r))) (words_stored m k i x p.frame.answer q h l gs fs g ready.none_made waits rest others)

    nil_there : (now : Facts) (y : World) → Has m b i None p mover two gives_some here now y (with_frames q q.frame (with_words l others ∷ fs) [])
    nil_there now y h' l' fs' still e =
        let n = number_place m.adts (types_of m still.is.function) h'.into in
        let r = reference_place m.adts (types_of m still.is.function) h'.into in
        let to = goes_to m now i y p.frame.answer h' l' q.frame still AsReference form in
        let found = subst (λ o. word_at o.words (pos r_at) ≡ Found (Refer None)) (same_first (with_words l others) l' fs fs' e) is_stored.0.there in
        let there = same_place l.serial l'.serial r_at r (sym address ∙ to.1) in
        a_value l'.words n r p.frame.answer (all_of m.adts p.frame.answer) (fitted m.adts p.frame.answer nothing)
        (subst (λ o. ValueStands m.adts now l'.words n r o p.frame.answer (fitted m.adts p.frame.answer nothing)) (sym form)
        (zero_stands m.adts now l'.words r p.frame.answer form (subst (λ a. word_at l'.words (pos a) ≡ Found (Refer None)) there found)))
        (λ a o d. absurd (zero_bare m.adts p.frame.answer form a o d))

    nil_moves : Moves m b i None p mover two gives_some here k w x q ready hold worlds
    nil_moves =
        let from_it : n_at ≤ r_at = omega arith in
        let past : r_at + 4 ≤ n_at + 8 = omega arith in
        let changes = is_stored.0.changes in
        let ranged = is_stored.0.ranged (λ z e. absurd cc) waits.is.words.kind.ranged in
        moves m b i None p mover two gives_some here k w x q ready hold worlds h l gs fs f others step_is
        (waits_then m k i x p.frame.answer h l q.frame waits others r_at 4 from_it past changes ranged AsReference form
        ((None, is_stored.0.there, nothing_there), address))
        (rest_then m k i x p.frame.answer h l q.frame waits others r_at 4 from_it past changes ranged gs fs rest) nil_there

pub nil_returns : NilReturns
nil_returns m b k i x p q ready form here =
    two_go m b i None p mover (two m b i p here form) (gives_some m b i p here form) here k x q ready
    (λ now w y. nil_moves m b i p here form now w y q)
