-- The rest of the row where the answer has a record of its own.
use Rattle.std.proofs.Common.{◌≡◌, ℕ, suc, pos, ◌<◌, List, [], ◌∷◌, Some, inl, inr, refl, sym, subst, arith}
use Rattle.std.specs.Prelude.{slice_get}
use Rattle.process_ways.specs.Ways.{Way}
use Rattle.heap_model.specs.Facts.{IsFree, Free}
use Rattle.limbo_types.specs.Types.{Ty}
use Rattle.limbo_layout.specs.Adts.{Has}
use Rattle.limbo_layout.specs.Layout.{Laid}
use Rattle.limbo_typed.specs.Typed as typed
use Rattle.core_code.specs.Code.{Instr, Call}
use Rattle.core_code.specs.Machine as code
use Rattle.core_code.specs.Slots as core
use Rattle.core_code.specs.Slots.{slot_names}
use Rattle.dis_isa.specs.declared.inst.Inst.{Inst}
use Rattle.dis_isa.specs.declared.inst.Middle.TheVariants as middle
use Rattle.dis_isa.specs.declared.inst.Operand.TheVariants as operand
use Rattle.dis_isa.specs.declared.op.Op.TheVariants as op
use Rattle.dis_meaning.specs.Words.{Word, Address, InBlock, Found, word_at}
use Rattle.dis_meaning.specs.Process.{Frame, Process, at_pc, with_words, with_frames}
use Rattle.dis_memory.specs.Blocks.{World}
use Rattle.value_words.specs.Facts.{Facts}
use Rattle.value_words.proofs.Rows.{is_there}
use Rattle.value_frames.specs.Frames.{Form, Boxed, form_of, answer_place, made_place, reference_place, room_for}
use Rattle.value_moves.specs.Operands.{Code, inst, own, behind}
use Rattle.value_moves.proofs.Leading.{spots_lead}
use Rattle.number_effects.specs.Giving.{with_word}
use Rattle.number_effects.proofs.Records.{words_move}
use Rattle.value_code.specs.Code.{Site}
use Rattle.value_code.specs.Data.{OfRecord}
use Rattle.value_code.specs.Operands.{reference, in_box}
use Rattle.value_code.specs.Objects.{of_function, base_of, type_number}
use Rattle.value_code.proofs.Having.{objects_have}
use Rattle.value_follows.specs.Stands.{types_of, Awaited, AnswerGoes}
use Rattle.value_follows.specs.Sides.{sides, HoldTheSame}
use Rattle.value_follows.specs.Rows.{place, Base}
use Rattle.rows_calling.specs.Rows.{FunctionsBegin}
use Rattle.rows_calling.proofs.OnTheWay.{On, row_here, reaches_it}
use Rattle.rows_calling.proofs.Clean.{unnamed}
use Rattle.rows_calling.proofs.Making.{Called, Made, making_way}
use Rattle.rows_calling.proofs.Answering.{addressing, answer_step, on_further}
use Rattle.rows_calling.proofs.Boxing.{Box, new_words, boxed_way, new_step, box_accounted, slot_accounted, leads_on}
use Rattle.rows_calling.proofs.Plain.{body}
use Rattle.rows_passing.specs.Rows.{ParametersPass, IsToldSo}
use Rattle.rows_passing.proofs.Passing.{into_few}
use Rattle.rows_passing.proofs.Standing.{clean}
use Rattle.rows_passing.proofs.Finishing.{callee}
use Rattle.rows_passing.proofs.Coding.{row_head, row_next}
use Rattle.rows_passing.proofs.Arriving.{RowIs, GoesFrom, Goes}
use Rattle.rows_passing.proofs.Ending.{facts, grows, keeps, s, caller, call_now}

module _ (m : typed.Module) (i : ℕ) (p : code.Process) (n : ℕ) (f : typed.Function) (t : Ty) (fn into a : ℕ)
    (here : slice_get p.frame.code p.frame.pc ≡ Some (Call t fn into (Some a))) (b : Base m) (pass : ParametersPass m) (begins : FunctionsBegin m)
    (g : typed.Function) (there : slice_get m.functions fn ≡ Some g) (apart : into ≡ a → ⊥) (f_there : slice_get m.functions n ≡ Some f)
    (in_code : slice_get (of_function m f).code p.frame.pc ≡ Some (Call t fn into (Some a))) (told_so : IsToldSo m f p.frame.pc t fn a)
    (named : (o : ℕ) → 0 < code.frame_names (callee m i p n f t fn into a here b pass g there) o → 0 < code.process_names p o)
    (answer : t ≡ g.of.answer) (form : form_of t ≡ Boxed) (some : 0 < (room_for m.adts t).size) where
  abbrev instr : Instr
  instr = Call t fn into (Some a)

  abbrev h : code.Frame
  h = callee m i p n f t fn into a here b pass g there

  abbrev IsRow : ℕ → (Site → Code) → Type 0
  IsRow j c = RowIs m i p n f t fn into a here b pass g there f_there in_code told_so j c

  abbrev r_at : ℕ
  r_at = reference_place m.adts (types_of m f) into

  abbrev call_inst : Site → Inst
  call_inst s = inst op.Call (own made_place) middle.None (operand.Imm (pos (s.entries fn)))

  abbrev lea_inst : Site → Inst
  lea_inst s = addressing (in_box s.scene into 0)

  abbrev new_inst : Site → Inst
  new_inst s = inst op.New (operand.Imm (pos (s.type_number (OfRecord t)))) middle.None (reference s.scene into)

  module _ (none : (o : ℕ) → slot_names (core.slot p.frame.slots into) o ≡ 0) where
    only_busy : Has (into ∷ []) a → ⊥
    only_busy (inl e) = apart e
    only_busy (inr e) = e

    -- the call
    last_way : (far : ℕ) → IsRow far (λ s. call_inst s ∷ []) → (k : Facts) (x : World) (q : Process) (c : Frame) (box : ℕ) (inner : List Word)
        → (on : On m k i x (into ∷ []) n f far p q) → Called m k x fn g h c → Made q c → Box m k i x t r_at q on.words.own box inner
        → word_at c.words (pos answer_place) ≡ Found (Address (InBlock box) (pos 0)) → HoldTheSame m k i x p q
        → Way (sides m) (place m) 1 k i x p q
    last_way far row k x q c box inner on called has bx address hold =
        let long = row.long in
        boxed_way m b i p n f fn g h named t into 0 k x far q c box inner on called bx hold
        (λ now w y on' called' bx' hold' worlds'.
        let more = grows m i p n f t fn into a here b pass begins g there apart now w y (into ∷ []) far q c on' hold' worlds' only_busy in
        let other : box ≡ (s m i p n f t fn into a here b pass begins g there apart now w y (into ∷ []) far q c on' hold' worlds' only_busy).box → ⊥ = λ e.
        let it = s m i p n f t fn into a here b pass begins g there apart now w y (into ∷ []) far q c on' hold' worlds' only_busy in
        bx'.apart a (subst (λ (bs : List ℕ). Has bs box) (sym it.own_is) (inl (sym e))) in
        let free : Free now box = subst IsFree (sym bx'.none) tt in
        let kept = keeps m i p n f t fn into a here b pass begins g there apart now w y (into ∷ []) far q c on' hold' worlds' only_busy box other free in
        call_now m i p n f t fn into a here b pass begins g there apart now w y (into ∷ []) far q c on' hold' worlds' only_busy on'.words refl called' has
        (omega (arith, long)) none
        (λ own owned. subst (λ (o : Form). AnswerGoes m
        (facts m i p n f t fn into a here b pass begins g there apart now w y (into ∷ []) far q c on' hold' worlds' only_busy) i y Awaited o t
        (caller m i p n f t fn into a here b pass begins g there apart q) (types_of m f) into (at_pc c (base_of m fn)) own) (sym form) (
          box,
          inner,
          record { word = bx'.word; there = bx'.there; free = kept.0; formed = more.forms box _ bx'.formed; kind = bx'.sort },
          address,
          more.makers box i bx'.made,
          λ r e. bx'.apart r (owned r box e),
          bx'.bare,
        ))
        (row_head m i p n f t fn into a here b pass g there f_there in_code told_so far call_inst (λ s. []) row))

    -- the machine's process behind the address of the record
    abbrev then_q : Process → Frame → ℕ → Process
    then_q q c box =
        with_frames q (at_pc q.frame (suc q.frame.pc)) q.below (with_words c (with_word c.words answer_place (Address (InBlock box) (pos 0))) ∷ [])

    -- which is stored
    address_way : (far : ℕ) → IsRow far (λ s. lea_inst s ∷ call_inst s ∷ []) → (k : Facts) (x : World) (q : Process) (c : Frame) (box : ℕ)
        (inner : List Word) → (on : On m k i x (into ∷ []) n f far p q) → Called m k x fn g h c → Made q c
        → Box m k i x t r_at q on.words.own box inner → HoldTheSame m k i x p q → Way (sides m) (place m) 2 k i x p q
    address_way far row k x q c box inner on called has bx hold =
        let head = row_head m i p n f t fn into a here b pass g there f_there in_code told_so far lea_inst (λ s. call_inst s ∷ []) row in
        let next = row_next m i p n f t fn into a here b pass g there f_there in_code told_so far lea_inst (λ s. call_inst s ∷ []) row in
        let long = row.long in
        boxed_way m b i p n f fn g h named t into 1 k x far q c box inner on called bx hold
        (λ now w y on' called' bx' hold' worlds'.
        let s = (spots_lead.inner y q r_at box inner 0 bx'.word bx'.there).0 in
        let many = bx'.sort.many in
        let v = is_there inner 0 (omega (arith, many, some)) in
        answer_step m b i p n f fn g h named now w y (into ∷ []) far q c on' called' has hold' worlds' (behind r_at 0) (Address (InBlock box) (pos 0))
        (λ z e. cc)
        (reaches_it m b i p q (into ∷ []) n f far now w y on' hold' worlds' instr here (addressing (behind r_at 0))
        (head (row_here m b i p q (into ∷ []) n f far now w y on' hold' worlds' instr here).at))
        inner 0 s v.0 v.1 (words_move.inner_address y q r_at box 0 inner 0 s bx'.word) instr here refl (omega (arith, long))
        (slot_accounted m i p f into now y q (code.process_names p)
        (box_accounted m i p q t box inner r_at now y on'.words.own bx' (code.process_names p)))
        (leads_on m i p f into none now y (then_q q c box)) 1
        (λ called3 has3 address held3.
        last_way (suc far) next now y _ _ box inner (on_further m now i y (into ∷ []) n f far p q on' _) called3 has3
        (record {
          word = bx'.word;
          there = bx'.there;
          none = bx'.none;
          made = bx'.made;
          formed = bx'.formed;
          sort = bx'.sort;
          bare = bx'.bare;
          apart = bx'.apart;
        }) address held3))

  -- the record
  pub boxed_goes : Goes m i p n f t fn into a here b pass g there f_there in_code told_so
  boxed_goes far row = (2, way)
    where
      row' : IsRow far (λ s. new_inst s ∷ lea_inst s ∷ call_inst s ∷ [])
      row' = subst (λ (o : Form). IsRow far (λ s. body s o t fn into)) form row

      way : GoesFrom m i p n f t fn into a here b pass g there f_there in_code told_so far 2
      way k x q c on called has hold =
          let head = row_head m i p n f t fn into a here b pass g there f_there in_code told_so far new_inst (λ s. lea_inst s ∷ call_inst s ∷ []) row' in
          let next = row_next m i p n f t fn into a here b pass g there f_there in_code told_so far new_inst (λ s. lea_inst s ∷ call_inst s ∷ []) row' in
          let long = row'.long in
          making_way m b i p n f fn g h named 2 k x [] far q c on called hold
          (λ now w y grows on'' called' held' worlds'.
          let few = into_few m i p n f t fn into a here now y [] far q on'' in
          let free = clean m i p n f t fn into a here b pass begins g there apart f_there in_code told_so named now y far q on'' in
          new_step m b i p n f fn g h named t into now w y far q c on'' called' has held' worlds'
          (subst (λ (u : Ty). Laid m.adts u (room_for m.adts u)) (sym answer) (begins.answered fn g there)) few free
          (type_number m (OfRecord t))
          (objects_have.types m n f p.frame.pc instr (OfRecord t) f_there in_code (inl refl))
          (reaches_it m b i p q [] n f far now w y on'' held' worlds' instr here (inst op.New (operand.Imm (pos (type_number m (OfRecord t)))) middle.None (own r_at))
          (head (row_here m b i p q [] n f far now w y on'' held' worlds' instr here).at))
          instr here refl (omega (arith, long)) 2
          (λ now2 y2 r2 box on2 called2 has2 bx2 held2.
          address_way (unnamed m now i y n f far p q on'' into few free) (suc far) next now2 y2 r2 c box (new_words m.adts t) on2 called2 has2 bx2 held2))
