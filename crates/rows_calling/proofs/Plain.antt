-- Calls without operands whose answers have no record of their own.
use Rattle.std.proofs.Common.{◌≡◌, ℕ, zero, suc, pos, ◌+◌, ◌/◌, ◌%◌, ◌<◌, List, [], ◌∷◌, ◌++◌, length, map, Option, Some, None, refl, sym, ap, ◌∙◌, subst, arith}
use Rattle.std.specs.Prelude.{slice_get}
use Rattle.process_ways.specs.Ways.{Way}
use Rattle.system_model.specs.Limits.{frames_limit}
use Rattle.limbo_types.specs.Types.{Ty}
use Rattle.limbo_layout.specs.Adts.{Has}
use Rattle.limbo_typed.specs.Typed as typed
use Rattle.limbo_meaning.specs.Process.{Shared}
use Rattle.limbo_kept.specs.Trees.{Signature}
use Rattle.limbo_kept.specs.Modules.{signature_of}
use Rattle.core_code.specs.Code.{Instr, Call}
use Rattle.core_code.specs.Machine as code
use Rattle.core_typing.specs.Held as held
use Rattle.core_typing.specs.Held.{Of}
use Rattle.core_typing.specs.Needs.{IsClean}
use Rattle.core_typing.specs.Going.{all_of}
use Rattle.dis_isa.specs.declared.inst.Middle.TheVariants as middle
use Rattle.dis_isa.specs.declared.inst.Operand.TheVariants as operand
use Rattle.dis_isa.specs.declared.op.Op.TheVariants as op
use Rattle.dis_meaning.specs.Words.{Word, Refer, Address, InFrame, Found, word_at}
use Rattle.dis_meaning.specs.Process.{Frame, Process, at_pc}
use Rattle.dis_memory.specs.Blocks.{World}
use Rattle.dis_memory.specs.Control.{with_frame_made}
use Rattle.value_words.specs.Facts.{Facts}
use Rattle.value_frames.specs.Frames.{Form, Nowhere, AsNumber, AsReference, Boxed, form_of, answer_place, made_place, spare_place, number_place, reference_place, frame_bytes}
use Rattle.value_frames.specs.Standing.{RefersIdly}
use Rattle.value_words.proofs.Rows.{is_there}
use Rattle.value_moves.specs.Operands.{Code, inst, own}
use Rattle.value_moves.proofs.Leading.{spots_lead}
use Rattle.number_effects.proofs.Records.{words_move}
use Rattle.value_code.specs.Works.{prepared}
use Rattle.value_code.specs.Operands.{reference}
use Rattle.value_code.specs.Code.{Site, code_of, answer_to, record_number}
use Rattle.value_code.specs.Objects.{of_function, size_at, base_of, blank_site}
use Rattle.value_code.proofs.Lists.{get_map}
use Rattle.value_follows.specs.Stands.{types_of, place_of, Awaited, AnswerGoes, Waits, Ready}
use Rattle.value_follows.specs.Sides.{sides, HoldTheSame, program}
use Rattle.value_follows.specs.Rows.{place, row_of, Base, RowGoes, site_of}
use Rattle.value_follows.proofs.Standing.{goes_behind, finds}
use Rattle.value_follows.proofs.Slots.{uses}
use Rattle.value_follows.proofs.Several.{Next}
use Rattle.rows_calling.specs.Rows.{FunctionsBegin, PlainCallsGo}
use Rattle.rows_calling.proofs.OnTheWay.{On, frame_is, row_code, row_here, reaches_it, on_of, on_later}
use Rattle.rows_calling.proofs.Clean.{unnamed, idly, busied}
use Rattle.rows_calling.proofs.Making.{Called, Made, making_way}
use Rattle.rows_calling.proofs.Calling.{calling, does_call, call_goes}
use Rattle.rows_calling.proofs.Answering.{addressing, answer_step, on_further}
use Rattle.rows_calling.proofs.Framing.{framing, zero_frame, zero_named, frame_step}

-- ---- functions by their signatures

map_got : {A B : Type 0} (h : A → B) (xs : List A) (n : ℕ) (y : B) → slice_get (map h xs) n ≡ Some y → (a : A) × (slice_get xs n ≡ Some a) × (h a ≡ y)
map_got h [] n y e = absurd cc
map_got h (x ∷ xs) zero y e = (x, refl, cc)
map_got h (x ∷ xs) (suc n) y e = map_got h xs n y e

-- the function that is called
pub record IsCalled (m : typed.Module) (fn : ℕ) (t : Ty) : Type 0 where
  pub function : typed.Function
  pub there : slice_get m.functions fn ≡ Some function
  pub answer : t ≡ function.of.answer

pub called_function : (m : typed.Module) (fn : ℕ) (t : Ty) (g : Signature) → slice_get (map signature_of m.functions) fn ≡ Some g → g.answer ≡ t
    → IsCalled m fn t
called_function m fn t g e same =
    let a = map_got signature_of m.functions fn g e in
    record { function = a.0; there = a.1; answer = sym same ∙ ap Signature.answer (sym a.2) }

-- ---- the code

abbrev pub body : Site → Form → Ty → (fn into : ℕ) → Code
body c form t fn into =
    prepared form (record_number c t) (reference c.scene into)
    ++ (answer_to c.scene form into ++ (inst op.Call (own made_place) middle.None (operand.Imm (pos (c.entries fn))) ∷ []))

module _ (m : typed.Module) (i : ℕ) (p : code.Process) (n : ℕ) (f : typed.Function) (t : Ty) (fn into : ℕ)
    (here : slice_get p.frame.code p.frame.pc ≡ Some (Call t fn into None)) where
  abbrev pub instr : Instr
  instr = Call t fn into None

  -- the row's length
  pub size_is : (form : Form) → form_of t ≡ form → (c : Site) → length (code_of c (Call t fn into None)) ≡ suc (length (body c form t fn into))
  size_is form e c = ap (λ (o : Form). suc (length (body c o t fn into))) e

  module _ (k : Facts) (x : World) (j : ℕ) (q : Process) (on : On m k i x [] n f j p q) where
    pub found : IsCalled m fn t
    found =
        let a = finds m f p.frame.pc on.known instr on.goes (row_code m k i x [] n f j p q on instr here) in
        called_function m fn t a.0.0 a.0.1 a.0.3

    pub clean : IsClean (held.slot on.known into)
    clean = (finds m f p.frame.pc on.known instr on.goes (row_code m k i x [] n f j p q on instr here)).1

    pub within : into < length p.frame.slots
    within =
        (uses m k i x [] p.frame q.frame (frame_is m k i x [] n f j p q on) p.frame.pc instr (row_code m k i x [] n f j p q on instr here)).0

    -- where the next row begins
    next_row : place_of m n f (suc p.frame.pc) ≡ place_of m n f p.frame.pc + (row_of m f p.frame.pc instr).size
    next_row =
        let e = ap (λ (o : Option Instr). size_at m f.of.answer (of_function m f) p.frame.pc o) (row_code m k i x [] n f j p q on instr here) in
        omega (arith, e)

    abbrev waiter : code.Frame
    waiter = code.waiting p.frame into

    -- the frame that calls waits then
    pub waits_then : (c there : Frame) → Made q c → there.serial ≡ c.serial → suc j ≡ (row_of m f p.frame.pc instr).size
        → ((own : ℕ → List ℕ) → AnswerGoes m k i x Awaited (form_of t) t (at_pc q.frame (suc q.frame.pc)) (types_of m f) into there own)
        → Waits m k i x Awaited waiter (at_pc q.frame (suc q.frame.pc)) t there
    waits_then c there has same last goes =
        let busy = busied m k i x n f j p q on into within clean in
        let at = on.pc in
        let next = next_row in
        let newer = has.newer in
        record {
          is = record {
            number = n;
            function = f;
            there = on.there;
            code = on.code;
            answer = on.answer;
            many = on.many;
            instance = on.instance;
            formed = on.formed;
            known = on.known;
            words = busy.0;
            mine = λ s b h. on.mine s b (subst (λ (o : ℕ → List ℕ). Has (o s) b) busy.1 h);
            fresh = on.fresh;
          };
          goes = goes_behind m f p.frame.pc on.known instr on.goes (row_code m k i x [] n f j p q on instr here) 0 (suc p.frame.pc)
              (held.put on.known into (Of t (all_of m.adts t))) (omega arith) refl;
          pc = omega (arith, at, last, next);
          spare = on.spare;
          answer = goes busy.0.own;
          older = omega (arith, newer, same);
          unnamed = unnamed m k i x n f j p q on into within clean;
        }

  module _ (b : Base m) (begins : FunctionsBegin m) (g : typed.Function) (there : slice_get m.functions fn ≡ Some g) where
    abbrev pub bare_frame : code.Frame
    bare_frame = zero_frame m i p fn g t

    -- what the other does
    pub calls : (w : Shared) → (sides m).program.step w p ≡ does_call m b i p [] n f 0 fn g bare_frame (code.waiting p.frame into) refl (begins.goes fn g there) w
    calls w =
        ap (code.next frames_limit (program m) w p) here
        ∙ ap (λ (o : _). code.calls m.adts frames_limit w (code.with_operands [] p None) t into o [])
        (get_map (λ (f : typed.Function). of_function m f) m.functions fn g there)

    -- the call, at the end of the row
    call_now : (k : Facts) (w : Shared) (x : World) (j : ℕ) (q : Process) (c : Frame) → (on : On m k i x [] n f j p q) → HoldTheSame m k i x p q
        → (worlds : (sides m).worlds k w x) → Called m k x fn g bare_frame c → Made q c → suc j ≡ (row_of m f p.frame.pc instr).size
        → ((at : ℕ) → slice_get (code_of (site_of m n f p.frame.pc at) instr) j ≡ Some (calling m fn))
        → ((own : ℕ → List ℕ) → AnswerGoes m k i x Awaited (form_of t) t (at_pc q.frame (suc q.frame.pc)) (types_of m f) into
        (at_pc c (base_of m fn)) own)
        → Next m b i p 0 k w x q
    call_now k w x j q c on hold worlds called has last is goes =
        call_goes m b i p [] n f j fn g bare_frame (code.waiting p.frame into) refl (begins.goes fn g there) k w x q c on hold worlds called has
        (reaches_it m b i p q [] n f j k w x on hold worlds instr here (calling m fn) (is (row_here m b i p q [] n f j k w x on hold worlds instr here).at))
        (calls w) refl
        (waits_then k x j q on c (at_pc c (base_of m fn)) has refl last goes)

  -- the begin of the row
  module _ (b : Base m) (begins : FunctionsBegin m) where
    pub begin_row : (l : ℕ) → (1 < (row_of m f p.frame.pc instr).size)
        → ((g : typed.Function) → slice_get m.functions fn ≡ Some g → (k : Facts) (x : World) (r : Process) (c : Frame) → On m k i x [] n f 1 p r
        → Called m k x fn g (zero_frame m i p fn g t) c → Made r c → HoldTheSame m k i x p r → Way (sides m) (place m) l k i x p r)
        → (k : Facts) (w : Shared) (x : World) (q : Process) → On m k i x [] n f 0 p q → q.made ≡ [] → HoldTheSame m k i x p q → (sides m).worlds k w x
        → Next m b i p l k w x q
    begin_row l more stage k w x q on none hold worlds =
        let g = found k x 0 q on in
        frame_step m i p fn g.function t g.there (begins.laid fn g.function g.there) g.answer b n f k w x q on none hold worlds
        (reaches_it m b i p q [] n f 0 k w x on hold worlds instr here (framing m fn) refl) instr here refl more l
        (λ r c on' called has held. stage g.function g.there k (with_frame_made x) r c on' called has held)

    -- an answer that is nothing: the call comes at once
    nowhere_way : form_of t ≡ Nowhere → (k : Facts) (w : Shared) (x : World) (q : Process) → On m k i x [] n f 0 p q → q.made ≡ []
        → HoldTheSame m k i x p q → (sides m).worlds k w x → Next m b i p 1 k w x q
    nowhere_way form k w x q on none hold worlds =
        let size = size_is Nowhere form (blank_site m f.of.answer (of_function m f) p.frame.pc) in
        begin_row 1 (omega (arith, size))
        (λ g there k x r c on' called has held.
        making_way m b i p n f fn g (zero_frame m i p fn g t) (zero_named m i p fn g t) 0 k x [] 1 r c on' called held
        (λ now w y grows on'' called' held' worlds'.
        call_now b begins g there now w y 1 r c on'' held' worlds' called' has (omega (arith, size))
        (λ at. ap (λ (o : Form). slice_get (body (site_of m n f p.frame.pc at) o t fn into) 0) form)
        (λ own'. subst (λ (o : Form). AnswerGoes m now i y Awaited o t (at_pc r.frame (suc r.frame.pc)) (types_of m f) into (at_pc c (base_of m fn)) own')
        (sym form) (idly m now i y n f 1 p r on'' into (within now y 1 r on'') (clean now y 1 r on'')).0)))
        k w x q on none hold worlds

    -- one that stands in the slot: the address of its word is stored before
    module _ (form : Form) (e : form_of t ≡ form) (from : ℕ)
        (long : length (body (blank_site m f.of.answer (of_function m f) p.frame.pc) form t fn into) ≡ 2)
        (first : (at : ℕ) → slice_get (body (site_of m n f p.frame.pc at) form t fn into) 0 ≡ Some (addressing (own from)))
        (last : (at : ℕ) → slice_get (body (site_of m n f p.frame.pc at) form t fn into) 1 ≡ Some (calling m fn))
        (goes : (k : Facts) (x : World) (q : Process) (callee : Frame) (own : ℕ → List ℕ)
        → RefersIdly m.adts k q.frame.words (reference_place m.adts (types_of m f) into)
        → word_at callee.words (pos answer_place) ≡ Found (Address (InFrame q.frame.serial) (pos from))
        → AnswerGoes m k i x Awaited form t (at_pc q.frame (suc q.frame.pc)) (types_of m f) into callee own)
        (word_is : (k : Facts) (x : World) (j : ℕ) (q : Process) → On m k i x [] n f j p q → (v : Word) × (slice_get q.frame.words (from / 4) ≡ Some v)) where
      size : (row_of m f p.frame.pc instr).size ≡ 3
      size = size_is form e (blank_site m f.of.answer (of_function m f) p.frame.pc) ∙ ap suc long

      call_last : (g : typed.Function) → slice_get m.functions fn ≡ Some g → (k : Facts) (x : World) (r : Process) (c : Frame)
          → On m k i x [] n f 2 p r → Called m k x fn g (zero_frame m i p fn g t) c → Made r c
          → word_at c.words (pos answer_place) ≡ Found (Address (InFrame r.frame.serial) (pos from)) → HoldTheSame m k i x p r
          → Way (sides m) (place m) 1 k i x p r
      call_last g there k x r c on called has address held =
          making_way m b i p n f fn g (zero_frame m i p fn g t) (zero_named m i p fn g t) 0 k x [] 2 r c on called held
          (λ now w y grows on'' called' held' worlds'.
          call_now b begins g there now w y 2 r c on'' held' worlds' called' has (sym size)
          (λ at. ap (λ (o : Form). slice_get (body (site_of m n f p.frame.pc at) o t fn into) 1) e ∙ last at)
          (λ own'. subst (λ (o : Form). AnswerGoes m now i y Awaited o t (at_pc r.frame (suc r.frame.pc)) (types_of m f) into (at_pc c (base_of m fn)) own')
          (sym e) (goes now y r (at_pc c (base_of m fn)) own' (idly m now i y n f 2 p r on'' into (within now y 2 r on'') (clean now y 2 r on'')).0 address)))

      pub standing_way : (k : Facts) (w : Shared) (x : World) (q : Process) → On m k i x [] n f 0 p q → q.made ≡ []
          → HoldTheSame m k i x p q → (sides m).worlds k w x → Next m b i p 2 k w x q
      standing_way k w x q on none hold worlds =
          begin_row 2 (omega (arith, size))
          (λ g there k x r c on' called has held.
          making_way m b i p n f fn g (zero_frame m i p fn g t) (zero_named m i p fn g t) 1 k x [] 1 r c on' called held
          (λ now w y grows on'' called' held' worlds'.
          let v = word_is now y 1 r on'' in
          answer_step m b i p n f fn g (zero_frame m i p fn g t) (zero_named m i p fn g t) now w y [] 1 r c on'' called' has held' worlds' (own from)
          (Address (InFrame r.frame.serial) (pos from)) (λ z e. cc)
          (reaches_it m b i p r [] n f 1 now w y on'' held' worlds' instr here (addressing (own from))
          (ap (λ (o : Form). slice_get (body (site_of m n f p.frame.pc (row_here m b i p r [] n f 1 now w y on'' held' worlds' instr here).at) o t fn into) 0) e
          ∙ first (row_here m b i p r [] n f 1 now w y on'' held' worlds' instr here).at))
          r.frame.words from (spots_lead.own y r from).0 v.0 v.1
          (words_move.own_address y r from r.frame.words from (spots_lead.own y r from).0) instr here refl (omega (arith, size)) (λ s o. absurd o) (λ s o u. absurd u) 1
          (λ called3 has3 address held3. call_last g there now y _ _ (on_further m now i y [] n f 1 p r on'' _) called3 has3 address held3)))
          k w x q on none hold worlds

    number_word_is : (k : Facts) (x : World) (j : ℕ) (q : Process) → On m k i x [] n f j p q → (at : ℕ) → at < frame_bytes m.adts (types_of m f) (length p.frame.slots)
        → at % 4 ≡ 0 → (v : Word) × (slice_get q.frame.words (at / 4) ≡ Some v)
    number_word_is k x j q on at l even =
        let many = on.words.kind.many in
        is_there q.frame.words (at / 4) (omega (arith, many, l, even))

    plain_way : (form_of t ≡ Boxed → ⊥) → (k : Facts) (x : World) (q : Process) → (sides m).ready k i x p q → (r : Ready m k i x p q)
        → r.stands.is.number ≡ n → r.stands.is.function ≡ f → RowGoes m k i x p q
    plain_way other k x q held r en ef = by (form_of t) refl
      where
        then_way : (l : ℕ) → ((k : Facts) (w : Shared) (x : World) (q : Process) → On m k i x [] n f 0 p q → q.made ≡ [] → HoldTheSame m k i x p q
            → (sides m).worlds k w x → Next m b i p l k w x q) → RowGoes m k i x p q
        then_way l does = (
          l,
          (
            held.1,
            λ now y w left h worlds.
                does now w y q (on_later m i p q b k now x y left h [] n f 0
                (on_of m i p q k x [] n f 0 r.stands en ef (subst (λ (o : ℕ). q.frame.pc ≡ o) (ap (λ (o : ℕ). place_of m o f p.frame.pc) en ∙ omega arith) (subst (λ (g : typed.Function). q.frame.pc ≡ place_of m r.stands.is.number g p.frame.pc) ef r.pc))
                (subst (λ (g : typed.Function). word_at q.frame.words (pos (spare_place m.adts (types_of m g))) ≡ Found (Refer None)) ef r.spare)))
                r.none_made h worlds,
          ),
        )

        by : (o : Form) → form_of t ≡ o → RowGoes m k i x p q
        by Nowhere e = then_way 1 (nowhere_way e)
        by AsNumber e =
            then_way 2 (standing_way AsNumber e (number_place m.adts (types_of m f) into) refl (λ at. refl) (λ at. refl)
            (λ k x q callee own idle address. (idle, address))
            (λ k x j q on. let l = within k x j q on in number_word_is k x j q on (number_place m.adts (types_of m f) into) (omega (arith, l)) (omega arith)))
        by AsReference e =
            then_way 2 (standing_way AsReference e (reference_place m.adts (types_of m f) into) refl (λ at. refl) (λ at. refl)
            (λ k x q callee own idle address. (idle, address))
            (λ k x j q on. let l = within k x j q on in number_word_is k x j q on (reference_place m.adts (types_of m f) into) (omega (arith, l)) (omega arith)))
        by Boxed e = absurd (other e)

pub plain_calls_go : PlainCallsGo
plain_calls_go m b begins t fn into other k i x p q ready here =
    plain_way m i p ready.0.stands.is.number ready.0.stands.is.function t fn into here b begins other k x q ready ready.0 refl refl
