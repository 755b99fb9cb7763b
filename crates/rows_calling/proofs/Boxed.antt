-- Calls without operands whose answers have records of their own.
use Rattle.std.proofs.Common.{◌≡◌, ℕ, suc, pos, ◌<◌, List, [], ◌∷◌, Option, Some, None, inl, refl, sym, ap, ◌∙◌, subst, arith}
use Rattle.std.specs.Prelude.{slice_get}
use Rattle.process_ways.specs.Ways.{Way}
use Rattle.heap_model.specs.Facts.{IsFree}
use Rattle.limbo_types.specs.Types.{Ty}
use Rattle.limbo_layout.specs.Layout.{Laid}
use Rattle.limbo_typed.specs.Typed as typed
use Rattle.limbo_meaning.specs.Process.{Shared}
use Rattle.core_code.specs.Code.{Instr, Call}
use Rattle.core_code.specs.Machine as code
use Rattle.core_code.specs.Slots as core
use Rattle.core_code.specs.Slots.{slot_names}
use Rattle.core_typing.specs.Held as held
use Rattle.core_typing.specs.Held.{Of}
use Rattle.core_typing.specs.Going.{all_of}
use Rattle.dis_isa.specs.declared.inst.Inst.{Inst}
use Rattle.dis_isa.specs.declared.inst.Middle.TheVariants as middle
use Rattle.dis_isa.specs.declared.inst.Operand.TheVariants as operand
use Rattle.dis_isa.specs.declared.op.Op.TheVariants as op
use Rattle.dis_meaning.specs.Words.{Word, Address, InBlock, Found, word_at}
use Rattle.dis_meaning.specs.Process.{Frame, Process, at_pc, with_words, with_frames}
use Rattle.dis_memory.specs.Blocks.{World}
use Rattle.value_words.specs.Facts.{Facts}
use Rattle.value_words.proofs.Rows.{is_there}
use Rattle.value_frames.specs.Frames.{Form, Boxed, form_of, answer_place, reference_place, room_for}
use Rattle.value_moves.specs.Operands.{inst, own, behind}
use Rattle.value_moves.proofs.Leading.{spots_lead}
use Rattle.value_code.specs.Data.{OfRecord}
use Rattle.value_code.specs.Objects.{of_function, size_at, base_of, blank_site, type_number}
use Rattle.value_code.proofs.Having.{objects_have}
use Rattle.number_effects.specs.Giving.{with_word}
use Rattle.number_effects.proofs.Records.{words_move}
use Rattle.value_follows.specs.Stands.{types_of, Awaited, AnswerGoes, Waits}
use Rattle.value_follows.specs.Sides.{sides, HoldTheSame}
use Rattle.value_follows.specs.Rows.{place, row_of, Base, site_of}
use Rattle.value_follows.proofs.Several.{Next}
use Rattle.value_follows.proofs.Standing.{goes_behind}
use Rattle.rows_calling.specs.Rows.{FunctionsBegin, BoxedCallsGo}
use Rattle.rows_calling.proofs.OnTheWay.{On, row_code, row_here, reaches_it, on_of, on_later}
use Rattle.rows_calling.proofs.Clean.{unnamed}
use Rattle.rows_calling.proofs.Making.{Called, Made, making_way}
use Rattle.rows_calling.proofs.Calling.{calling, call_goes}
use Rattle.rows_calling.proofs.Answering.{addressing, answer_step, on_further}
use Rattle.rows_calling.proofs.Framing.{zero_frame, zero_named}
use Rattle.rows_calling.proofs.Boxing.{Box, new_words, boxed_way, new_step, box_accounted, slot_accounted, leads_on}
use Rattle.rows_calling.proofs.Plain.{body, size_is, clean, within, calls, begin_row}

module _ (m : typed.Module) (b : Base m) (begins : FunctionsBegin m) (i : ℕ) (p : code.Process) (n : ℕ) (f : typed.Function) (t : Ty) (fn into : ℕ)
    (here : slice_get p.frame.code p.frame.pc ≡ Some (Call t fn into None)) (form : form_of t ≡ Boxed) (some : 0 < (room_for m.adts t).size) where
  abbrev instr : Instr
  instr = Call t fn into None

  abbrev r_at : ℕ
  r_at = reference_place m.adts (types_of m f) into

  size : (row_of m f p.frame.pc instr).size ≡ 4
  size = size_is m i p n f t fn into here Boxed form (blank_site m f.of.answer (of_function m f) p.frame.pc)

  -- the instructions of the row behind the first
  part : (at j : ℕ) (inst : Inst) → slice_get (body (site_of m n f p.frame.pc at) Boxed t fn into) j ≡ Some inst
      → slice_get (body (site_of m n f p.frame.pc at) (form_of t) t fn into) j ≡ Some inst
  part at j inst e = ap (λ (o : Form). slice_get (body (site_of m n f p.frame.pc at) o t fn into) j) form ∙ e

  module _ (g : typed.Function) (there : slice_get m.functions fn ≡ Some g) (answer : t ≡ g.of.answer)
      (none : (o : ℕ) → slot_names (core.slot p.frame.slots into) o ≡ 0) where
    abbrev zero_one : code.Frame
    zero_one = zero_frame m i p fn g t

    abbrev named : (o : ℕ) → 0 < code.frame_names zero_one o → 0 < code.process_names p o
    named = zero_named m i p fn g t

    -- the frame that calls waits then
    waits_then : (k : Facts) (x : World) (q : Process) (c : Frame) (box : ℕ) (inner : List Word) → (on : On m k i x (into ∷ []) n f 3 p q)
        → Made q c → Box m k i x t r_at q on.words.own box inner → word_at c.words (pos answer_place) ≡ Found (Address (InBlock box) (pos 0))
        → Waits m k i x Awaited (code.waiting p.frame into) (at_pc q.frame (suc q.frame.pc)) t (at_pc c (base_of m fn))
    waits_then k x q c box inner on has bx address =
        let at = on.pc in
        let e = ap (λ (o : Option Instr). size_at m f.of.answer (of_function m f) p.frame.pc o) (row_code m k i x (into ∷ []) n f 3 p q on instr here) in
        let last = size in
        record {
          is = record {
            number = n;
            function = f;
            there = on.there;
            code = on.code;
            answer = on.answer;
            many = on.many;
            instance = on.instance;
            formed = on.formed;
            known = on.known;
            words = on.words;
            mine = on.mine;
            fresh = on.fresh;
          };
          goes = goes_behind m f p.frame.pc on.known instr on.goes (row_code m k i x (into ∷ []) n f 3 p q on instr here) 0 (suc p.frame.pc)
              (held.put on.known into (Of t (all_of m.adts t))) (omega arith) refl;
          pc = omega (arith, at, last, e);
          spare = on.spare;
          answer = subst (λ (o : Form). AnswerGoes m k i x Awaited o t (at_pc q.frame (suc q.frame.pc)) (types_of m f) into (at_pc c (base_of m fn))
              on.words.own) (sym form) (
                box,
                inner,
                record { word = bx.word; there = bx.there; free = subst IsFree (sym bx.none) tt; formed = bx.formed; kind = bx.sort },
                address,
                bx.made,
                bx.apart,
                bx.bare,
              );
          older = has.newer;
          unnamed = none;
        }

    -- the call
    last_way : (k : Facts) (x : World) (q : Process) (c : Frame) (box : ℕ) (inner : List Word) → (on : On m k i x (into ∷ []) n f 3 p q)
        → Called m k x fn g zero_one c → Made q c → Box m k i x t r_at q on.words.own box inner
        → word_at c.words (pos answer_place) ≡ Found (Address (InBlock box) (pos 0)) → HoldTheSame m k i x p q
        → Way (sides m) (place m) 1 k i x p q
    last_way k x q c box inner on called has bx address hold =
        boxed_way m b i p n f fn g zero_one named t into 0 k x 3 q c box inner on called bx hold
        (λ now w y on' called' bx' hold' worlds'.
        call_goes m b i p (into ∷ []) n f 3 fn g zero_one (code.waiting p.frame into) refl (begins.goes fn g there) now w y q c on' hold' worlds' called' has
        (reaches_it m b i p q (into ∷ []) n f 3 now w y on' hold' worlds' instr here (calling m fn)
        (part (row_here m b i p q (into ∷ []) n f 3 now w y on' hold' worlds' instr here).at 2 (calling m fn) refl))
        (calls m i p n f t fn into here b begins g there w) refl
        (waits_then now y q c box inner on' has bx' address))

    -- the machine's process behind the address of the record
    abbrev then_q : Process → Frame → ℕ → Process
    then_q q c box =
        with_frames q (at_pc q.frame (suc q.frame.pc)) q.below (with_words c (with_word c.words answer_place (Address (InBlock box) (pos 0))) ∷ [])

    -- which is stored
    address_way : (k : Facts) (x : World) (q : Process) (c : Frame) (box : ℕ) (inner : List Word) → (on : On m k i x (into ∷ []) n f 2 p q)
        → Called m k x fn g zero_one c → Made q c → Box m k i x t r_at q on.words.own box inner → HoldTheSame m k i x p q
        → Way (sides m) (place m) 2 k i x p q
    address_way k x q c box inner on called has bx hold =
        boxed_way m b i p n f fn g zero_one named t into 1 k x 2 q c box inner on called bx hold
        (λ now w y on' called' bx' hold' worlds'.
        let s = (spots_lead.inner y q r_at box inner 0 bx'.word bx'.there).0 in
        let many = bx'.sort.many in
        let v = is_there inner 0 (omega (arith, many, some)) in
        let long = size in
        answer_step m b i p n f fn g zero_one named now w y (into ∷ []) 2 q c on' called' has hold' worlds' (behind r_at 0) (Address (InBlock box) (pos 0))
        (λ z e. cc)
        (reaches_it m b i p q (into ∷ []) n f 2 now w y on' hold' worlds' instr here (addressing (behind r_at 0))
        (part (row_here m b i p q (into ∷ []) n f 2 now w y on' hold' worlds' instr here).at 1 (addressing (behind r_at 0)) refl))
        inner 0 s v.0 v.1 (words_move.inner_address y q r_at box 0 inner 0 s bx'.word) instr here refl (omega (arith, long))
        (slot_accounted m i p f into now y q (code.process_names p)
        (box_accounted m i p q t box inner r_at now y on'.words.own bx' (code.process_names p)))
        (leads_on m i p f into none now y (then_q q c box)) 1
        (λ called3 has3 address held3.
        last_way now y _ _ box inner (on_further m now i y (into ∷ []) n f 2 p q on' _) called3 has3
        (record {
          word = bx'.word;
          there = bx'.there;
          none = bx'.none;
          made = bx'.made;
          formed = bx'.formed;
          sort = bx'.sort;
          bare = bx'.bare;
          apart = bx'.apart;
        }) address held3))

  -- the record
  record_way : (k : Facts) (w : Shared) (x : World) (q : Process) → On m k i x [] n f 0 p q → q.made ≡ []
      → HoldTheSame m k i x p q → (sides m).worlds k w x → Next m b i p 3 k w x q
  record_way k w x q on bare hold worlds =
      let long = size in
      begin_row m i p n f t fn into here b begins 3 (omega (arith, long))
      (λ g there k x r c on' called has held.
      making_way m b i p n f fn g (zero_frame m i p fn g t) (zero_named m i p fn g t) 2 k x [] 1 r c on' called held
      (λ now w y grows on'' called' held' worlds'.
      let few = within m i p n f t fn into here now y 1 r on'' in
      let free = clean m i p n f t fn into here now y 1 r on'' in
      new_step m b i p n f fn g (zero_frame m i p fn g t) (zero_named m i p fn g t) t into now w y 1 r c on'' called' has held' worlds'
      (subst (λ (u : Ty). Laid m.adts u (room_for m.adts u)) (sym called'.answer) (begins.answered fn g there)) few free
      (type_number m (OfRecord t))
      (objects_have.types m n f p.frame.pc instr (OfRecord t) on''.there (row_code m now i y [] n f 1 p r on'' instr here) (inl refl))
      (reaches_it m b i p r [] n f 1 now w y on'' held' worlds' instr here (inst op.New (operand.Imm (pos (type_number m (OfRecord t)))) middle.None (own r_at))
      (part (row_here m b i p r [] n f 1 now w y on'' held' worlds' instr here).at 0 _ refl))
      instr here refl (omega (arith, long)) 2
      (λ now2 y2 r2 box on2 called2 has2 bx2 held2.
      address_way g there called'.answer (unnamed m now i y n f 1 p r on'' into few free) now2 y2 r2 c box (new_words m.adts t) on2 called2 has2 bx2 held2)))
      k w x q on bare hold worlds

pub boxed_calls_go : BoxedCallsGo
boxed_calls_go m b begins t fn into form some k i x p q ready here =
    let r = ready.0.stands in
    let n = r.is.number in
    let f = r.is.function in (
      3,
      (
        ready.1,
        λ now y w left h worlds.
            record_way m b begins i p r.is.number r.is.function t fn into here form some now w y q
            (on_later m i p q b k now x y left h [] r.is.number r.is.function 0
            (on_of m i p q k x [] r.is.number r.is.function 0 r refl refl (let e = ready.0.pc in omega (arith, e)) ready.0.spare)) ready.0.none_made h worlds,
      ),
    )
