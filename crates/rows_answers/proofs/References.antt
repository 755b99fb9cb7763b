-- Returns that give a reference: it is moved to the slot that waits for it, and then the frame that waits goes on.
use Rattle.std.proofs.Common.{◌≡◌, ℕ, pos, ◌+◌, ◌<◌, ◌≤◌, List, [], ◌∷◌, ◌++◌, length, Option, Some, None, refl, sym, ap, ◌∙◌, subst, arith, inl}
use Rattle.std.specs.Prelude.{slice_get}
use Rattle.process_model.specs.Process.{Went}
use Rattle.heap_model.proofs.Growing.{grows_same}
use Rattle.limbo_types.specs.Types as ty
use Rattle.limbo_types.specs.Types.{Ty}
use Rattle.limbo_layout.specs.Adts.{Def, Has}
use Rattle.limbo_typed.specs.Typed as typed
use Rattle.limbo_meaning.specs.Process.{Shared}
use Rattle.limbo_meaning.specs.Values.{Value, fitted, references}
use Rattle.system_model.specs.Limits.{frames_limit}
use Rattle.core_code.specs.Code.{Return}
use Rattle.core_code.specs.Machine as code
use Rattle.core_code.specs.Slots as core
use Rattle.core_code.specs.Slots.{Holds}
use Rattle.core_typing.specs.Held as held
use Rattle.core_typing.specs.Held.{Of}
use Rattle.core_typing.specs.Going.{all_of}
use Rattle.core_typing.specs.Needs.{StandsAs}
use Rattle.dis_isa.specs.declared.inst.Inst.{Inst}
use Rattle.dis_isa.specs.declared.inst.Operand as isa
use Rattle.dis_isa.specs.declared.inst.Middle.TheVariants as middle
use Rattle.dis_isa.specs.declared.op.Op.TheVariants as op
use Rattle.dis_meaning.specs.Words.{Word, Refer, Address, InFrame, Access, Found, ◌>>=◌, word_at, reference}
use Rattle.dis_meaning.specs.Places.{with_frame_words}
use Rattle.dis_meaning.specs.Process.{Frame, Process, with_frames, with_words}
use Rattle.dis_memory.specs.Blocks.{World}
use Rattle.dis_memory.specs.Places.{memory}
use Rattle.dis_memory.specs.Step.{obey}
use Rattle.value_words.specs.Facts.{Facts, Grows}
use Rattle.value_words.specs.Stands.{Stands}
use Rattle.value_words.proofs.Covered.{covered}
use Rattle.value_words.proofs.Later.{stands_later}
use Rattle.value_roots.specs.Accounts.{Accounted, none, to_nothing, to_value}
use Rattle.value_frames.specs.Frames.{Nowhere, AsReference, form_of, answer_place, number_place, reference_place, room_for}
use Rattle.value_frames.specs.Standing.{SlotStands, a_value, ValueStands}
use Rattle.value_frames.proofs.Rest.{slots_rest}
use Rattle.value_frames.proofs.Later.{frames_later}
use Rattle.value_moves.specs.Operands.{Code, inst, own, behind, moved}
use Rattle.value_moves.specs.Spots.{LeadsAndStores}
use Rattle.value_moves.proofs.Leading.{spots_lead}
use Rattle.value_code.specs.Objects.{object_of, of_function, size_at, blank_site}
use Rattle.value_code.specs.Operands.{Scene, in_slot, by_form}
use Rattle.value_code.specs.Operands as operands
use Rattle.value_code.specs.Data.{OfRecord}
use Rattle.value_code.specs.Code.{Site, code_of}
use Rattle.number_effects.specs.Giving.{with_word, StoresWord}
use Rattle.number_effects.specs.Stepping.{on_next}
use Rattle.number_effects.proofs.Reading.{operands_are_read}
use Rattle.number_effects.proofs.Records.{words_move}
use Rattle.number_effects.proofs.Stepping.{steps_obey}
use Rattle.value_follows.specs.Stands.{Awaited, Referred, AnswerGoes, AllWait, waits_below, types_of}
use Rattle.value_follows.specs.Sides.{sides, HoldTheSame}
use Rattle.value_follows.specs.Rows.{Base, RowStands, site_of}
use Rattle.value_follows.proofs.RootedValues.{stands_laid, covers_those}
use Rattle.value_follows.proofs.Single.{nothing_changes, Once}
use Rattle.value_follows.proofs.Several.{Next}
use Rattle.value_follows.proofs.Slots.{slot_is, of_type, uses}
use Rattle.value_follows.proofs.Standing.{all_wait, finds, code_here}
use Rattle.rows_moving.proofs.Sources.{same_form, fits_word}
use Rattle.rows_ending.proofs.Endings.{ret, given}
use Rattle.rows_ending.proofs.Two.{same_first, same_place}
use Rattle.rows_ending.proofs.Waiting.{words_found, words_stored, goes_to, rest_then}
use Rattle.rows_answers.specs.Rows.{ReferenceReturns}
use Rattle.rows_answers.proofs.OnTheWay.{On, frame_is, stands, on_ready, way_on, reaches_first, further, goes_silently}
use Rattle.rows_answers.proofs.Boxed.{named_by_process}
use Rattle.rows_answers.proofs.Names.{all_named}
use Rattle.rows_answers.proofs.Placing.{waits_then}
use Rattle.rows_answers.proofs.Returning.{WaitsOn, waits_on, answer_of, goes_back}

-- ---- the code

moved_is : (defs : List Def) (s : Scene) (t : Ty) (n r : ℕ) (d : isa.Operand) → form_of t ≡ AsReference
    → moved defs t n (in_slot s t r) d ≡ inst op.Movp (operands.reference s r) middle.None d ∷ []
moved_is defs s ty.Chars n r d e = refl
moved_is defs s ty.Nil n r d e = refl
moved_is defs s (ty.ArrayOf t) n r d e = refl
moved_is defs s (ty.ListOf t) n r d e = refl
moved_is defs s (ty.ChanOf t) n r d e = refl
moved_is defs s (ty.RefAdt a) n r d e = refl
moved_is defs s (ty.RefPick a j) n r d e = refl
moved_is defs s (ty.Module a) n r d e = refl
moved_is defs s t n r d e = absurd cc

abbrev mover : (defs : List Def) (variables : List Ty) (r : ℕ) → Inst
mover defs variables r = inst op.Movp (own (reference_place defs variables r)) middle.None (behind answer_place 0)

code_is : (c : Site) (r : ℕ) → form_of c.answer ≡ AsReference → code_of c (Return (Some r)) ≡ mover c.scene.adts c.scene.variables r ∷ ret ∷ []
code_is c r e = ap (λ (is : Code). is ++ ret ∷ []) (moved_is c.scene.adts c.scene c.answer (c.type_number (OfRecord c.answer)) r (behind answer_place 0) e)

-- ---- what a reference refers to is named

refers_first : (defs : List Def) (t : Ty) → form_of t ≡ AsReference → Has (room_for defs t).references 0
refers_first defs ty.Chars e = inl refl
refers_first defs ty.Nil e = inl refl
refers_first defs (ty.ArrayOf t) e = inl refl
refers_first defs (ty.ListOf t) e = inl refl
refers_first defs (ty.ChanOf t) e = inl refl
refers_first defs (ty.RefAdt a) e = inl refl
refers_first defs (ty.RefPick a j) e = inl refl
refers_first defs (ty.Module a) e = inl refl
refers_first defs t e = absurd cc

module _ (m : typed.Module) (k : Facts) (i : ℕ) (x : World) (p : code.Process) (words : List Word) (at r : ℕ) (u : Ty) (v : Value)
    (holds : core.slot p.frame.slots r ≡ Holds v) (form : form_of u ≡ AsReference) (stands : Stands m.adts k words at u v) where
  reference_accounted : (o : Option ℕ) → word_at words (pos at) ≡ Found (Refer o) → Accounted k i x.heap (code.process_names p) (Refer o)
  reference_accounted None e = to_nothing
  reference_accounted (Some d) e =
      let zero : at + 0 ≡ at = omega arith in
      to_value d (covers_those m.adts k (code.process_names p) (references v) d (named_by_process p r v holds)
      (covered m.adts k words at u (room_for m.adts u) v 0 d (stands_laid m.adts k words at u v stands) stands (refers_first m.adts u form)
      (ap (λ (a : ℕ). word_at words (pos a)) zero ∙ e)))

-- ---- the slot that has it

module _ (m : typed.Module) (b : Base m) (i r : ℕ) (p : code.Process) (n : ℕ) (f : typed.Function) (there : slice_get m.functions n ≡ Some f)
    (here : slice_get p.frame.code p.frame.pc ≡ Some (Return (Some r)))
    (in_code : slice_get (of_function m f).code p.frame.pc ≡ Some (Return (Some r))) (row : RowStands m n f p.frame.pc (Return (Some r)))
    (few : r < length p.frame.slots) (same : p.frame.answer ≡ f.of.answer) (form : form_of p.frame.answer ≡ AsReference) where
  abbrev answer : Value
  answer = answer_of m b i p n f (Some r) here row

  some : form_of p.frame.answer ≡ Nowhere → ⊥
  some e = cc

  abbrev from : ℕ
  from = reference_place m.adts (types_of m f) r

  abbrev move : Inst
  move = mover m.adts (types_of m f) r

  module _ (k : Facts) (x : World) (q : Process) (on : On m k i x Awaited n f 0 p q) where
    pub record Gives : Type 0 where
      pub refers : Option ℕ
      pub word : word_at q.frame.words (pos from) ≡ Found (Refer refers)
      pub accounted : Accounted k i x.heap (code.process_names p) (Refer refers)
      pub elsewhere : (others : List Word) (to : ℕ) → word_at others (pos to) ≡ Found (Refer refers) → Stands m.adts k others to p.frame.answer answer

    gives : Gives
    gives =
        let is = frame_is m k i x Awaited n f 0 p q on in
        let n_at = number_place m.adts (types_of m f) r in
        let found = finds m f p.frame.pc on.known (Return (Some r)) on.goes in_code in
        let suits : StandsAs found.0 p.frame.answer = subst (λ t. StandsAs found.0 t) (sym on.answer) found.2 in
        let h = of_type (held.slot on.known r) found.0 found.1 in
        let own_blocks = on.words.own r in
        let it = subst (λ h. SlotStands m.adts k x.heap q.frame.serial q.frame.words n_at from h (core.slot p.frame.slots r) own_blocks) h.1
        (slot_is m k i x [] p.frame q.frame is r few (λ e. e)) in
        let v = slots_rest.is_value m.adts k x.heap q.frame.serial q.frame.words n_at from found.0 h.0 (core.slot p.frame.slots r) own_blocks it in
        let reads = slots_rest.reads m.adts k x.heap q.frame.serial q.frame.words n_at from found.0 h.0 v.0 own_blocks
        (subst (λ o. SlotStands m.adts k x.heap q.frame.serial q.frame.words n_at from (Of found.0 h.0) o own_blocks) v.1 it) in
        let so : form_of found.0 ≡ AsReference = same_form found.0 p.frame.answer suits ∙ form in
        let stand = reads.reference so in
        let fits = fits_word m.adts k q.frame.words from found.0 p.frame.answer v.0 form suits stand in
        record {
          refers = fits.refers;
          word = fits.word;
          accounted = reference_accounted m k i x p q.frame.words from r found.0 v.0 v.1 so stand fits.refers fits.word;
          elsewhere = λ others to e.
              subst (λ y. Stands m.adts k others to p.frame.answer (fitted m.adts p.frame.answer y)) (sym (ap core.value_of v.1))
              (fits.elsewhere others to e);
        }

  form_too : form_of f.of.answer ≡ AsReference
  form_too = ap form_of (sym same) ∙ form

  long : size_at m f.of.answer (of_function m f) p.frame.pc (Some (Return (Some r))) ≡ 2
  long = ap (λ (l : Code). length l) (code_is (blank_site m f.of.answer (of_function m f) p.frame.pc) r form_too)

  is_at : (j : ℕ) (a : Inst) → slice_get (move ∷ ret ∷ []) j ≡ Some a → slice_get (code_of (site_of m n f p.frame.pc row.at) (Return (Some r))) j ≡ Some a
  is_at j a e = ap (λ (l : Code). slice_get l j) (code_is (site_of m n f p.frame.pc row.at) r form_too) ∙ e

  module _ (k : Facts) (w : Shared) (x : World) (q : Process) (on : On m k i x Awaited n f 0 p q) (hold : HoldTheSame m k i x p q)
      (worlds : (sides m).worlds k w x) (t : WaitsOn m k i x Awaited p q) where
    give : Gives k x q on
    give = gives k x q on

    abbrev l : Frame
    l = t.frame

    abbrev n_at : ℕ
    n_at = number_place m.adts (types_of m t.waits.is.function) t.above.into

    abbrev r_at : ℕ
    r_at = reference_place m.adts (types_of m t.waits.is.function) t.above.into

    address : word_at q.frame.words (pos answer_place) ≡ Found (Address (InFrame l.serial) (pos r_at))
    address = (goes_to m k i x p.frame.answer t.above l q.frame t.waits AsReference form).1

    lead : LeadsAndStores x q (behind answer_place 0) l.words r_at (λ new. memory x (with_frame_words q l.serial new))
    lead =
        let zero : r_at + 0 ≡ r_at = omega arith in
        subst (λ a. LeadsAndStores x q (behind answer_place 0) l.words a (λ new. memory x (with_frame_words q l.serial new))) zero
        (spots_lead.frame x q answer_place l.serial r_at l.words 0 address
        (words_found m k i x p.frame.answer q t.above l t.others t.frames t.beneath on.none_made t.waits t.rest))

    abbrev others : Option ℕ → List Word
    others o = with_word l.words r_at (Refer o)

    is_stored : StoresWord (obey frames_limit (object_of m) x q move op.Movp) x q lead.0.place l.words r_at (Refer give.refers)
    is_stored =
        let old = (goes_to m k i x p.frame.answer t.above l q.frame t.waits AsReference form).0 in
        words_move.reference frames_limit (object_of m) x q move give.refers l.words r_at lead.0 old.0 refl
        (operands_are_read.source_referring x q (own from) q.frame.words from (spots_lead.own x q from).0
        ∙ ap (λ (a : Access Word). a >>= reference) give.word) old.1

    abbrev frame_then : Option ℕ → Frame
    frame_then o = with_words l (others o)

    abbrev process_then : Option ℕ → Process
    process_then o = on_next (memory x (with_frames q q.frame (frame_then o ∷ t.frames) []))

    step_is : (sides m).code.step x q ≡ Went x (process_then give.refers)
    step_is =
        steps_obey.stores frames_limit (object_of m ∷ []) x q (object_of m) move x lead.0.place (others give.refers)
        (memory x (with_frame_words q l.serial (others give.refers)))
        (reaches_first m b i p n f (Return (Some r)) row Awaited 0 q k w x on hold worlds move (is_at 0 move refl))
        is_stored.1 (lead.1 (others give.refers))
        ∙ ap (λ z. Went x (on_next (memory x z)))
        (words_stored m k i x p.frame.answer q t.above l t.others t.frames t.beneath on.none_made t.waits t.rest (others give.refers))

    -- the answer is in its place
    waits_there : AllWait m k i x (Referred give.refers) p.frame.answer (process_then give.refers).frame p.below (frame_then give.refers ∷ t.frames)
    waits_there =
        let from_it : n_at ≤ r_at = omega arith in
        let past : r_at + 4 ≤ n_at + 8 = omega arith in
        let changes = is_stored.0.changes in
        let ranged = is_stored.0.ranged (λ z e. absurd cc) t.waits.is.words.kind.ranged in
        let waits = waits_then m k i x p.frame.answer t.above l q.frame t.waits (others give.refers) r_at 4 from_it past changes ranged
        (Referred give.refers) (answer_goes form) in
        let rest = rest_then m k i x p.frame.answer t.above l q.frame t.waits (others give.refers) r_at 4 from_it past changes ranged t.others t.frames
        t.rest in
        subst (λ bs. AllWait m k i x (Referred give.refers) p.frame.answer (process_then give.refers).frame bs (frame_then give.refers ∷ t.frames))
        (sym t.below)
        (all_wait m k i x (Referred give.refers) p.frame.answer q.frame (process_then give.refers).frame (t.above ∷ t.others)
        (frame_then give.refers ∷ t.frames) refl refl
        (waits_below (Referred give.refers) p.frame.answer q.frame t.above (frame_then give.refers) t.others t.frames waits rest))
      where
        answer_goes : form_of p.frame.answer ≡ AsReference
            → AnswerGoes m k i x (Referred give.refers) (form_of p.frame.answer) p.frame.answer (frame_then give.refers)
            (types_of m t.waits.is.function) t.above.into q.frame t.waits.is.words.own
        answer_goes e =
            subst (λ o. AnswerGoes m k i x (Referred give.refers) o p.frame.answer (frame_then give.refers)
            (types_of m t.waits.is.function) t.above.into q.frame t.waits.is.words.own) (sym e) (is_stored.0.there, address)

    on_then : On m k i x (Referred give.refers) n f 1 p (process_then give.refers)
    on_then = record {
      process = on.process;
      there = on.there;
      code = on.code;
      answer = on.answer;
      many = on.many;
      instance = on.instance;
      formed = on.formed;
      known = on.known;
      words = on.words;
      mine = on.mine;
      fresh = on.fresh;
      goes = on.goes;
      waits = waits_there;
      pc = (let e = on.pc in omega (arith, e));
      spare = on.spare;
      none_made = refl;
    }

    hold_then : HoldTheSame m k i x p (process_then give.refers)
    hold_then =
        b.holds_on_way k i w x [] (Referred give.refers) p (process_then give.refers)
        (stands m k i x (Referred give.refers) n f 1 p (process_then give.refers) on_then) worlds
        (b.there_again x x q (process_then give.refers) step_is worlds.0.closed (λ c h. hold.same.live c (hold.same.roots c h)))
        (record {
          slots = λ s h. absurd h;
          spare = λ o e. subst (λ u. Accounted k i x.heap (code.process_names p) (Refer u)) (same_reference None o (sym on.spare ∙ e)) to_nothing;
          made = none;
          answer = give.accounted;
        })
        (λ s c h. absurd h)
      where
        same_reference : (u o : Option ℕ) → Found (Refer u) ≡ Found (Refer o) → u ≡ o
        same_reference u o e = cc

    -- then the frame that waits goes on
    goes_on : (now : Facts) (v : Shared) (y : World) → Grows k now → On m now i y (Referred give.refers) n f 1 p (process_then give.refers)
        → HoldTheSame m now i y p (process_then give.refers) → (sides m).worlds now v y
        → Once m b i p (process_then give.refers) now v y
    goes_on now v y grows o h after =
        let u = waits_on m now i y (Referred give.refers) p (process_then give.refers) some o.waits in
        goes_back m b i p n f (Some r) here row (Referred give.refers) 1 (process_then give.refers) now v y o h after (is_at 1 ret refl) u now
        (nothing_changes m now i y) after (grows_same now)
        (λ s c z. ((frames_later m.adts now y.heap u.frame.serial (u.above.into ∷ []) (types_of m u.waits.is.function) u.waits.is.known u.above.variables
        u.above.slots u.frame.words u.waits.is.words).owned s c z).0)
        (a_value u.frame.words (number_place m.adts (types_of m u.waits.is.function) u.above.into)
        (reference_place m.adts (types_of m u.waits.is.function) u.above.into) p.frame.answer (all_of m.adts p.frame.answer) answer
        (stands_there u form) (all_named m.adts p.frame.answer (given p.frame.slots (Some r))))
        u.rest
      where
        stands_there : (u : WaitsOn m now i y (Referred give.refers) p (process_then give.refers)) → form_of p.frame.answer ≡ AsReference
            → ValueStands m.adts now u.frame.words (number_place m.adts (types_of m u.waits.is.function) u.above.into)
            (reference_place m.adts (types_of m u.waits.is.function) u.above.into) (form_of p.frame.answer) p.frame.answer answer
        stands_there u e =
            let to = reference_place m.adts (types_of m u.waits.is.function) u.above.into in
            let goes = subst (λ z. AnswerGoes m now i y (Referred give.refers) z p.frame.answer u.frame (types_of m u.waits.is.function) u.above.into
            (process_then give.refers).frame u.waits.is.words.own) e u.waits.answer in
            let place = same_place l.serial u.frame.serial r_at to (sym address ∙ goes.1) in
            let frame = same_first (frame_then give.refers) u.frame t.frames u.frames u.beneath in
            subst (λ z. ValueStands m.adts now u.frame.words (number_place m.adts (types_of m u.waits.is.function) u.above.into) to z p.frame.answer answer)
            (sym e)
            (subst (λ (a : ℕ). Stands m.adts now u.frame.words a p.frame.answer answer) place
            (subst (λ (z : Frame). Stands m.adts now z.words r_at p.frame.answer answer) frame
            (stands_later m.adts k now (others give.refers) grows r_at p.frame.answer answer (give.elsewhere (others give.refers) r_at is_stored.0.there))))

    moves : Next m b i p 1 k w x q
    moves =
        let e = on.pc in
        goes_silently m b i p n f (Return (Some r)) row 1 k k w x x q (process_then give.refers) step_is (nothing_changes m k i x) worlds
        (further m b i p n f (Return (Some r)) row there in_code refl 0 1 q (process_then give.refers) (omega arith) (let z = long in omega (arith, z))
        (omega (arith, e)) (omega (arith, e)))
        (way_on m b i p n f (Return (Some r)) row (Referred give.refers) 1 (process_then give.refers) (process_then give.refers) (λ c. refl) 0 k x
        on_then hold_then (λ now v y grows o h h' after. goes_on now v y grows o h after))

pub reference_returns : ReferenceReturns
reference_returns m b r k i x p q ready form here =
    let is = ready.0.stands.is in
    let in_code = code_here m k i x p q ready.0 (Return (Some r)) here in
    let row = b.row_stands is.number is.function p.frame.pc (Return (Some r)) is.there in_code in
    let few = uses m k i x [] p.frame q.frame is p.frame.pc (Return (Some r)) in_code in (
      1,
      way_on m b i p is.number is.function (Return (Some r)) row Awaited 0 q q (λ c. refl) 1 k x (on_ready m i p q k x ready.0) ready.1
          (λ now w y grows on h hold worlds.
          moves m b i r p is.number is.function is.there here in_code row few is.answer form now w y q on hold worlds
          (waits_on m now i y Awaited p q (some m b i r p is.number is.function is.there here in_code row few is.answer form) on.waits)),
    )
