-- The rest of the row where the answer has no record of its own.
use Rattle.std.proofs.Common.{◌≡◌, ℕ, suc, pos, ◌/◌, ◌%◌, ◌<◌, List, [], ◌∷◌, length, Some, refl, sym, ap, ◌∙◌, subst, arith}
use Rattle.std.specs.Prelude.{slice_get}
use Rattle.process_ways.specs.Ways.{Way}
use Rattle.limbo_types.specs.Types.{Ty}
use Rattle.limbo_typed.specs.Typed as typed
use Rattle.limbo_meaning.specs.Process.{Shared}
use Rattle.core_code.specs.Code.{Instr, Call}
use Rattle.core_code.specs.Machine as code
use Rattle.core_typing.specs.Held as held
use Rattle.core_typing.specs.Needs.{IsClean}
use Rattle.dis_isa.specs.declared.inst.Inst.{Inst}
use Rattle.dis_isa.specs.declared.inst.Middle.TheVariants as middle
use Rattle.dis_isa.specs.declared.inst.Operand as isa
use Rattle.dis_isa.specs.declared.inst.Operand.TheVariants as operand
use Rattle.dis_isa.specs.declared.op.Op.TheVariants as op
use Rattle.dis_meaning.specs.Words.{Word, Address, InFrame, Found, word_at}
use Rattle.dis_meaning.specs.Process.{Frame, Process, at_pc}
use Rattle.dis_memory.specs.Blocks.{World}
use Rattle.value_words.specs.Facts.{Facts, Grows}
use Rattle.value_words.proofs.Rows.{is_there}
use Rattle.value_frames.specs.Frames.{Form, Nowhere, AsNumber, AsReference, Boxed, form_of, answer_place, made_place, number_place, reference_place, frame_bytes}
use Rattle.value_frames.specs.Standing.{RefersIdly}
use Rattle.value_moves.specs.Operands.{Code, inst, own}
use Rattle.value_moves.proofs.Leading.{spots_lead}
use Rattle.number_effects.proofs.Records.{words_move}
use Rattle.value_code.specs.Code.{Site}
use Rattle.value_code.specs.Operands.{number, reference}
use Rattle.value_code.specs.Objects.{of_function, base_of}
use Rattle.value_follows.specs.Stands.{types_of, Awaited, AnswerGoes}
use Rattle.value_follows.specs.Sides.{sides, HoldTheSame}
use Rattle.value_follows.specs.Rows.{place, Base, site_of}
use Rattle.value_follows.proofs.Several.{Next}
use Rattle.value_follows.proofs.Standing.{finds}
use Rattle.value_follows.proofs.Waiting.{idly_later}
use Rattle.rows_calling.specs.Rows.{FunctionsBegin}
use Rattle.rows_calling.proofs.OnTheWay.{On, row_code, row_here, reaches_it}
use Rattle.rows_calling.proofs.Clean.{unnamed, idly, busied}
use Rattle.rows_calling.proofs.Making.{Called, Made, making_way}
use Rattle.rows_calling.proofs.Answering.{addressing, answer_step, on_further}
use Rattle.rows_calling.proofs.Plain.{body}
use Rattle.rows_passing.specs.Rows.{ParametersPass, IsToldSo}
use Rattle.rows_passing.proofs.Passing.{into_few}
use Rattle.rows_passing.proofs.Finishing.{callee}
use Rattle.rows_passing.proofs.Coding.{row_head, row_next}
use Rattle.rows_passing.proofs.Arriving.{RowIs, GoesFrom, Goes}
use Rattle.rows_passing.proofs.Ending.{facts, grows, call_now}

module _ (m : typed.Module) (i : ℕ) (p : code.Process) (n : ℕ) (f : typed.Function) (t : Ty) (fn into a : ℕ)
    (here : slice_get p.frame.code p.frame.pc ≡ Some (Call t fn into (Some a))) (b : Base m) (pass : ParametersPass m) (begins : FunctionsBegin m)
    (g : typed.Function) (there : slice_get m.functions fn ≡ Some g) (apart : into ≡ a → ⊥) (f_there : slice_get m.functions n ≡ Some f)
    (in_code : slice_get (of_function m f).code p.frame.pc ≡ Some (Call t fn into (Some a))) (told_so : IsToldSo m f p.frame.pc t fn a)
    (named : (o : ℕ) → 0 < code.frame_names (callee m i p n f t fn into a here b pass g there) o → 0 < code.process_names p o) where
  abbrev instr : Instr
  instr = Call t fn into (Some a)

  abbrev h : code.Frame
  h = callee m i p n f t fn into a here b pass g there

  abbrev IsRow : ℕ → (Site → Code) → Type 0
  IsRow j c = RowIs m i p n f t fn into a here b pass g there f_there in_code told_so j c

  abbrev FromThere : (far l : ℕ) → Type 0
  FromThere far l = GoesFrom m i p n f t fn into a here b pass g there f_there in_code told_so far l

  abbrev call_inst : Site → Inst
  call_inst s = inst op.Call (own made_place) middle.None (operand.Imm (pos (s.entries fn)))

  module _ (k : Facts) (x : World) (j : ℕ) (q : Process) (on : On m k i x [] n f j p q) where
    pub clean : IsClean (held.slot on.known into)
    clean = (finds m f p.frame.pc on.known instr on.goes (row_code m k i x [] n f j p q on instr here)).3

    within : into < length p.frame.slots
    within = into_few m i p n f t fn into a here k x [] j q on

    -- the call, at the end of the row
    plain_end : (w : Shared) (c : Frame) → (hold : HoldTheSame m k i x p q) → (worlds : (sides m).worlds k w x) → Called m k x fn g h c → Made q c
        → IsRow j (λ s. call_inst s ∷ [])
        → ((later : Facts) → Grows k later → (own : ℕ → List ℕ)
        → AnswerGoes m later i x Awaited (form_of t) t (at_pc q.frame (suc q.frame.pc)) (types_of m f) into (at_pc c (base_of m fn)) own)
        → Next m b i p 0 k w x q
    plain_end w c hold worlds called has row goes =
        let busy = busied m k i x n f j p q on into within clean in
        let long = row.long in
        let more = grows m i p n f t fn into a here b pass begins g there apart k w x [] j q c on hold worlds (λ e. e) in
        call_now m i p n f t fn into a here b pass begins g there apart k w x [] j q c on hold worlds (λ e. e) busy.0 busy.1 called has
        (omega (arith, long)) (unnamed m k i x n f j p q on into within clean)
        (λ own owned. goes (facts m i p n f t fn into a here b pass begins g there apart k w x [] j q c on hold worlds (λ e. e)) more own)
        (row_head m i p n f t fn into a here b pass g there f_there in_code told_so j call_inst (λ s. []) row)

    rest_idly : RefersIdly m.adts k q.frame.words (reference_place m.adts (types_of m f) into)
    rest_idly = (idly m k i x n f j p q on into within clean).0

    word_there : (at : ℕ) → at < frame_bytes m.adts (types_of m f) (length p.frame.slots) → at % 4 ≡ 0
        → (v : Word) × (slice_get q.frame.words (at / 4) ≡ Some v)
    word_there at l even =
        let many = on.words.kind.many in
        is_there q.frame.words (at / 4) (omega (arith, many, l, even))

  -- an answer that is nothing: the call comes at once
  nowhere_way : form_of t ≡ Nowhere → (far : ℕ) → IsRow far (λ s. call_inst s ∷ []) → FromThere far 0
  nowhere_way form far row k x q c on called has hold =
      making_way m b i p n f fn g h named 0 k x [] far q c on called hold
      (λ now w y grows on' called' held' worlds'.
      plain_end now y far q on' w c held' worlds' called' has row
      (λ later more own.
      subst (λ (o : Form). AnswerGoes m later i y Awaited o t (at_pc q.frame (suc q.frame.pc)) (types_of m f) into (at_pc c (base_of m fn)) own) (sym form)
      (idly_later m.adts now later more q.frame.words (reference_place m.adts (types_of m f) into) (rest_idly now y far q on'))))

  -- one that stands in the slot: the address of its word is stored before
  module _ (form : Form) (e : form_of t ≡ form) (from : ℕ) (place_of : Site → isa.Operand)
      (is_own : (at : ℕ) → place_of (site_of m n f p.frame.pc at) ≡ own from)
      (goes : (k : Facts) (x : World) (q : Process) (called : Frame) (own : ℕ → List ℕ)
      → RefersIdly m.adts k q.frame.words (reference_place m.adts (types_of m f) into)
      → word_at called.words (pos answer_place) ≡ Found (Address (InFrame q.frame.serial) (pos from))
      → AnswerGoes m k i x Awaited form t (at_pc q.frame (suc q.frame.pc)) (types_of m f) into called own)
      (word_is : (k : Facts) (x : World) (j : ℕ) (q : Process) → On m k i x [] n f j p q → (v : Word) × (slice_get q.frame.words (from / 4) ≡ Some v)) where
    call_last : (far : ℕ) → IsRow far (λ s. call_inst s ∷ []) → (k : Facts) (x : World) (q : Process) (c : Frame) → On m k i x [] n f far p q
        → Called m k x fn g h c → Made q c → word_at c.words (pos answer_place) ≡ Found (Address (InFrame q.frame.serial) (pos from))
        → HoldTheSame m k i x p q → Way (sides m) (place m) 1 k i x p q
    call_last far row k x q c on called has address hold =
        making_way m b i p n f fn g h named 0 k x [] far q c on called hold
        (λ now w y grows on' called' held' worlds'.
        plain_end now y far q on' w c held' worlds' called' has row
        (λ later more own.
        subst (λ (o : Form). AnswerGoes m later i y Awaited o t (at_pc q.frame (suc q.frame.pc)) (types_of m f) into (at_pc c (base_of m fn)) own) (sym e)
        (goes later y q (at_pc c (base_of m fn)) own
        (idly_later m.adts now later more q.frame.words (reference_place m.adts (types_of m f) into) (rest_idly now y far q on')) address)))

    standing_way : (far : ℕ) → IsRow far (λ s. addressing (place_of s) ∷ call_inst s ∷ []) → FromThere far 1
    standing_way far row k x q c on called has hold =
        let head = row_head m i p n f t fn into a here b pass g there f_there in_code told_so far (λ s. addressing (place_of s)) (λ s. call_inst s ∷ []) row in
        let next = row_next m i p n f t fn into a here b pass g there f_there in_code told_so far (λ s. addressing (place_of s)) (λ s. call_inst s ∷ []) row in
        let long = row.long in
        making_way m b i p n f fn g h named 1 k x [] far q c on called hold
        (λ now w y grows on' called' held' worlds'.
        let v = word_is now y far q on' in
        answer_step m b i p n f fn g h named now w y [] far q c on' called' has held' worlds' (own from)
        (Address (InFrame q.frame.serial) (pos from)) (λ z e. cc)
        (reaches_it m b i p q [] n f far now w y on' held' worlds' instr here (addressing (own from))
        (head (row_here m b i p q [] n f far now w y on' held' worlds' instr here).at
        ∙ ap (λ (o : isa.Operand). Some (addressing o)) (is_own (row_here m b i p q [] n f far now w y on' held' worlds' instr here).at)))
        q.frame.words from (spots_lead.own y q from).0 v.0 v.1
        (words_move.own_address y q from q.frame.words from (spots_lead.own y q from).0) instr here refl (omega (arith, long)) (λ s o. absurd o) (λ s o u. absurd u) 1
        (λ called3 has3 address held3. call_last (suc far) next now y _ _ (on_further m now i y [] n f far p q on' _) called3 has3 address held3))

  pub plain_goes : (form_of t ≡ Boxed → ⊥) → Goes m i p n f t fn into a here b pass g there f_there in_code told_so
  plain_goes other far row = by (form_of t) refl
    where
      so : (o : Form) → form_of t ≡ o → IsRow far (λ s. body s o t fn into)
      so o e = subst (λ (o : Form). IsRow far (λ s. body s o t fn into)) e row

      by : (o : Form) → form_of t ≡ o → (l : ℕ) × FromThere far l
      by Nowhere e = (0, nowhere_way e far (so Nowhere e))
      by AsNumber e = (
        1,
        standing_way AsNumber e (number_place m.adts (types_of m f) into) (λ s. number s.scene into) (λ at. refl) (λ k x q c own idle address. (idle, address))
            (λ k x j q on. let l = within k x j q on in word_there k x j q on (number_place m.adts (types_of m f) into) (omega (arith, l)) (omega arith)) far
            (so AsNumber e),
      )
      by AsReference e = (
        1,
        standing_way AsReference e (reference_place m.adts (types_of m f) into) (λ s. reference s.scene into) (λ at. refl) (λ k x q c own idle address. (idle, address))
            (λ k x j q on. let l = within k x j q on in word_there k x j q on (reference_place m.adts (types_of m f) into) (omega (arith, l)) (omega arith)) far
            (so AsReference e),
      )
      by Boxed e = absurd (other e)
