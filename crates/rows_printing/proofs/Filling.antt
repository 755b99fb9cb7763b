-- What is stored in the frame of a print: the format, and the address of where the answer goes.
use Rattle.std.proofs.Common.{◌≡◌, ℕ, ℤ, zero, suc, pos, ◌+◌, ◌*◌, ◌/◌, ◌<◌, ◌≤◌, ◌⊎◌, List, [], ◌∷◌, length, Option, Some, None, inl, inr, refl, sym, ap, ◌∙◌, subst, arith}
use Rattle.std.specs.Prelude.{slice_get, slice_set}
use Rattle.process_model.specs.Process.{Went}
use Rattle.process_ways.specs.Ways.{Way}
use Rattle.system_model.specs.Limits.{frames_limit}
use Rattle.heap_model.specs.Facts.{Covers, chars}
use Rattle.limbo_types.specs.Types as ty
use Rattle.limbo_layout.specs.Adts.{Has}
use Rattle.limbo_values.specs.declared.number.Kind.TheVariants as kind
use Rattle.limbo_values.specs.Numbers.{InRange}
use Rattle.limbo_typed.specs.Typed as typed
use Rattle.limbo_typed.specs.declared.print.Piece.{Piece}
use Rattle.limbo_meaning.specs.Values.{Chars}
use Rattle.limbo_meaning.specs.Process.{Shared}
use Rattle.core_code.specs.Code.{Print}
use Rattle.core_code.specs.Machine as code
use Rattle.core_code.specs.Slots as core
use Rattle.core_code.specs.Slots.{slot_names}
use Rattle.dis_isa.specs.declared.inst.Inst.{Inst}
use Rattle.dis_isa.specs.declared.inst.Middle.TheVariants as middle
use Rattle.dis_isa.specs.declared.inst.Operand.TheVariants as operand
use Rattle.dis_isa.specs.declared.op.Op.TheVariants as op
use Rattle.dis_meaning.specs.Words.{Word, Plain, Refer, Address, InFrame, Access, Found, ◌>>=◌, word_at, plain, reference}
use Rattle.dis_meaning.specs.Process.{Frame, Process, at_pc, with_words, with_frames}
use Rattle.dis_meaning.specs.Places.{with_frame_words}
use Rattle.dis_memory.specs.Blocks.{World}
use Rattle.dis_memory.specs.Places.{memory, source_reference}
use Rattle.dis_memory.specs.Step.{obey}
use Rattle.value_words.specs.Facts.{Facts, IsText}
use Rattle.value_words.proofs.Blank.{mapped}
use Rattle.value_words.proofs.Bytes.{word_there}
use Rattle.value_words.proofs.Rows.{is_there}
use Rattle.value_frames.specs.Frames.{linkage_bytes, answer_place, made_place, number_place, reference_place, row_of as all_room}
use Rattle.value_frames.proofs.Replacing.{kinds_stay}
use Rattle.value_moves.specs.Operands.{inst, own, behind}
use Rattle.value_moves.specs.Spots.{LeadsAndStores}
use Rattle.value_moves.proofs.Leading.{spots_lead}
use Rattle.value_code.specs.Objects.{object_of, placed}
use Rattle.value_code.specs.Code.{format_text, code_of}
use Rattle.number_effects.specs.Giving.{with_word, StoresWord}
use Rattle.number_effects.specs.Stepping.{Reaches, on_next}
use Rattle.number_effects.proofs.Reading.{operands_are_read}
use Rattle.number_effects.proofs.Records.{words_move}
use Rattle.number_effects.proofs.Stepping.{steps_obey}
use Rattle.value_follows.specs.Stands.{types_of}
use Rattle.value_follows.specs.Sides.{sides, HoldTheSame}
use Rattle.value_follows.specs.Rows.{place, Base, site_of}
use Rattle.value_follows.proofs.Putting.{word_same}
use Rattle.value_follows.proofs.Several.{Next}
use Rattle.value_follows.proofs.Single.{nothing_changes}
use Rattle.value_follows.proofs.Standing.{instance_here}
use Rattle.rows_calling.proofs.OnTheWay.{On, frame_is, row_here, reaches_it}
use Rattle.rows_calling.proofs.Making.{Made, made_words, made_stored}
use Rattle.rows_calling.proofs.Answering.{addressing, on_further}
use Rattle.rows_printing.proofs.Formats.{text_there}
use Rattle.rows_printing.proofs.Way.{HasSys, size, print_by, filled_accounted}
use Rattle.rows_printing.proofs.Framing.{frame_size, frame_offsets, format_refers, in_row, IsFilled}

-- what a row has where one of its words is another
set_has : (words : List Word) (w : ℕ) (new v : Word) → Has (slice_set words w new) v → (new ≡ v) ⊎ Has words v
set_has [] w new v h = absurd h
set_has (u ∷ words) zero new v (inl e) = inl e
set_has (u ∷ words) zero new v (inr h) = inr (inr h)
set_has (u ∷ words) (suc w) new v (inl e) = inr (inl e)
set_has (u ∷ words) (suc w) new v (inr h) = elim (set_has words w new v h) [ inl e ↦ inl e | inr h ↦ inr (inr h) ]

is_plain : (w : Word) → ((r : Option ℕ) → w ≡ Refer r → ⊥) → plain w ≡ Found w
is_plain (Plain z) none = refl
is_plain (Refer r) none = absurd (none r refl)
is_plain (Address at to) none = refl

same_chars : (s t : List ℕ) → Chars s ≡ Chars t → s ≡ t
same_chars s t e = cc

-- the instruction for the format
abbrev pub formatting : ℕ → Inst
formatting at = inst op.Movp (operand.Mp (pos at)) middle.None (behind made_place linkage_bytes)

-- The format is there.
pub record HasFormat (k : Facts) (text : List ℕ) (words : List Word) : Type 0 where
  pub refers : Option ℕ
  pub word : word_at words (pos linkage_bytes) ≡ Found (Refer refers)
  pub is : IsText k refers text

module _ (m : typed.Module) (b : Base m) (i : ℕ) (p : code.Process) (n : ℕ) (f : typed.Function) (ps : List Piece) (into : ℕ) (o : Option ℕ)
    (here : slice_get p.frame.code p.frame.pc ≡ Some (Print ps into o))
    (none : (s : ℕ) → slot_names (core.slot p.frame.slots into) s ≡ 0)
    (k : Facts) (w : Shared) (x : World) (j : ℕ) (q : Process) (c : Frame) (on : On m k i x (into ∷ []) n f j p q)
    (s : HasSys k (reference_place m.adts (types_of m f) into) q) (has : Made q c)
    (fill : IsFilled m b i p n f ps into o here none k q c) (hold : HoldTheSame m k i x p q) (worlds : (sides m).worlds k w x) where
  abbrev r_at : ℕ
  r_at = reference_place m.adts (types_of m f) into

  abbrev n_at : ℕ
  n_at = number_place m.adts (types_of m f) into

  abbrev Fills : Process → Frame → Type 0
  Fills q c = IsFilled m b i p n f ps into o here none k q c

  -- What holds behind an instruction that stores a word in the frame that is made.
  abbrev pub Behind : ℕ → ℕ → Word → Type 0
  Behind l to new =
      (r : Process) (d : Frame) → On m k i x (into ∷ []) n f (suc j) p r → HasSys k r_at r → Made r d → Fills r d
      → r.frame.serial ≡ q.frame.serial → word_at d.words (pos to) ≡ Found new
      → ((v : ℕ) → (4 * v + 4 ≤ to) ⊎ (to + 4 ≤ 4 * v) → slice_get d.words v ≡ slice_get c.words v)
      → HoldTheSame m k i x p r → Way (sides m) (place m) l k i x p r

  stored_step : (it : Inst) (to : ℕ) (new : Word) → Reaches (object_of m ∷ []) x q (object_of m) it
      → (lead : LeadsAndStores x q it.dst c.words to (λ new. memory x (with_frame_words q c.serial new)))
      → StoresWord (obey frames_limit (object_of m) x q it it.op) x q lead.0.place c.words to new
      → ((d : ℕ) → new ≡ Refer (Some d) → Covers k (λ n. 0 < code.process_names p n) d)
      → ((z : ℤ) → new ≡ Plain z → InRange kind.Int z)
      → suc (suc j) < size m b i p n f ps into o here none → (l : ℕ) → Behind l to new → Next m b i p l k w x q
  stored_step it to new reach lead does covers range further l way =
      let others = with_word c.words to new in
      let frame_then = with_words c others in
      let then_q = with_frames q (at_pc q.frame (suc q.frame.pc)) q.below (frame_then ∷ []) in
      let step = steps_obey.stores frames_limit (object_of m ∷ []) x q (object_of m) it x lead.0.place others
      (memory x (with_frame_words q c.serial others)) reach does.1 (lead.1 others)
      ∙ ap (λ (r : Process). Went x (on_next (memory x r))) (made_stored m k i x (into ∷ []) n f j p q on c has others) in
      let now = on_further m k i x (into ∷ []) n f j p q on (frame_then ∷ []) in
      let made : Made then_q frame_then = record { made = refl; address = has.address; newer = has.newer } in
      let sys_then : HasSys k r_at then_q = record { box = s.box; word = s.word; carries = s.carries } in
      let changes = does.0.changes in
      let fills : Fills then_q frame_then = record {
        instance = fill.instance;
        kind = kinds_stay.all (frame_size m.adts ps) (frame_offsets m.adts ps) c.words others fill.kind changes.many changes.refer changes.referred
            (does.0.ranged range fill.kind.ranged);
        covered = λ d h. elim (set_has c.words (to / 4) new (Refer (Some d)) h) [ inl e ↦ covers d e | inr h ↦ fill.covered d h ];
      } in
      print_by m b i p n f ps into o here none k k w x x (into ∷ []) j q then_q on hold worlds further step (nothing_changes m k i x) worlds now sys_then
      (filled_accounted m b i p n f ps into o here none k x (suc j) (frame_size m.adts ps) (frame_offsets m.adts ps) then_q frame_then now made.made fills)
      l (λ held. way then_q frame_then now sys_then made fills refl does.0.there changes.words held)

  -- ---- the format

  abbrev pub text : List ℕ
  text = format_text ps

  abbrev at : ℕ
  at = (row_here m b i p q (into ∷ []) n f j k w x on hold worlds (Print ps into o) here).at

  text_read : (r : Option ℕ) × (source_reference x q (operand.Mp (pos at)) ≡ Found r) × IsText k r text
  text_read =
      let row = row_here m b i p q (into ∷ []) n f j k w x on hold worlds (Print ps into o) here in
      let instance = instance_here m b k i w x p q (into ∷ []) (frame_is m k i x (into ∷ []) n f j p q on) hold worlds.0 in
      let constant = instance.2 (placed m at ty.Chars (Chars text)) (row.stand (placed m at ty.Chars (Chars text)) (inl refl)) in
      let t = text_there m.adts k instance.0 at ty.Chars (Chars text) refl constant.stands in (
        t.refers,
        operands_are_read.source_referring x q (operand.Mp (pos at)) instance.0 at (spots_lead.of_module x q 0 instance.0 at instance.1).0
            ∙ ap (λ (a : Access Word). a >>= reference) t.word,
        subst (λ (s : List ℕ). IsText k t.refers s) (sym (same_chars text t.chars t.is)) t.text,
      )

  abbrev frame_lead : (to : ℕ) → LeadsAndStores x q (behind made_place to) c.words (0 + to) (λ new. memory x (with_frame_words q c.serial new))
  frame_lead to = spots_lead.frame x q made_place c.serial 0 c.words to has.address (made_words m k i x (into ∷ []) n f j p q on c has)

  text_covered : (r : Option ℕ) → IsText k r text → (d : ℕ) → Refer r ≡ Refer (Some d) → Covers k (λ n. 0 < code.process_names p n) d
  text_covered None is d e = absurd cc
  text_covered (Some a) is d e =
      let same : a ≡ d = cc in
      subst (λ (a : ℕ). Covers k (λ n. 0 < code.process_names p n) a) same (chars text is.0)

  pub format_step : slice_get (code_of (site_of m n f p.frame.pc at) (Print ps into o)) j ≡ Some (formatting at)
      → suc (suc j) < size m b i p n f ps into o here none → (l : ℕ)
      → ((r : Process) (d : Frame) → On m k i x (into ∷ []) n f (suc j) p r → HasSys k r_at r → Made r d → Fills r d → HasFormat k text d.words
      → ((v : ℕ) → 9 ≤ v → slice_get d.words v ≡ slice_get c.words v)
      → HoldTheSame m k i x p r → Way (sides m) (place m) l k i x p r)
      → Next m b i p l k w x q
  format_step is further l way =
      let t = text_read in
      let lead = frame_lead linkage_bytes in
      let old = fill.kind.refer linkage_bytes (format_refers m.adts ps) in
      stored_step (formatting at) linkage_bytes (Refer t.0)
      (reaches_it m b i p q (into ∷ []) n f j k w x on hold worlds (Print ps into o) here (formatting at) is) lead
      (words_move.reference frames_limit (object_of m) x q (formatting at) t.0 c.words linkage_bytes lead.0 old.0 refl t.1
      (word_there c.words linkage_bytes (Refer old.0) (omega arith) old.1))
      (text_covered t.0 t.2) (λ z e. absurd cc) further l
      (λ r d on' s' has' fill' same word stays held.
      way r d on' s' has' fill' (record { refers = t.0; word = word; is = t.2 }) (λ v l. stays v (inr (omega (arith, l)))) held)

  -- ---- the address of the answer's place

  linkage_old : (old : Word) × (word_at c.words (pos answer_place) >>= plain ≡ Found old)
  linkage_old =
      let many = fill.kind.many in
      let old = is_there c.words 4 (omega (arith, many)) in
      let no : (r : Option ℕ) → old.0 ≡ Refer r → ⊥ = λ r e.
      (let h = mapped (λ o. linkage_bytes + o) (all_room m.adts (in_row m.adts ps)).references 16
      (fill.kind.only 4 r (old.1 ∙ ap (λ (w : Word). Some w) e)) in let z = h.2 in absurd (omega (arith, z))) in
      (old.0, ap (λ (a : Access Word). a >>= plain) (word_there c.words answer_place old.0 (omega arith) old.1) ∙ is_plain old.0 no)

  abbrev pub answer_address : Word
  answer_address = Address (InFrame q.frame.serial) (pos n_at)

  pub address_step : into < length p.frame.slots
      → ((at : ℕ) → slice_get (code_of (site_of m n f p.frame.pc at) (Print ps into o)) j ≡ Some (addressing (own n_at)))
      → HasFormat k text c.words
      → suc (suc j) < size m b i p n f ps into o here none → (l : ℕ)
      → ((r : Process) (d : Frame) → On m k i x (into ∷ []) n f (suc j) p r → HasSys k r_at r → Made r d → Fills r d → HasFormat k text d.words
      → word_at d.words (pos answer_place) ≡ Found (Address (InFrame r.frame.serial) (pos n_at))
      → ((v : ℕ) → 9 ≤ v → slice_get d.words v ≡ slice_get c.words v)
      → HoldTheSame m k i x p r → Way (sides m) (place m) l k i x p r)
      → Next m b i p l k w x q
  address_step few is format further l way =
      let lead = frame_lead answer_place in
      let old = linkage_old in
      let source = (spots_lead.own x q n_at).0 in
      let many = on.words.kind.many in
      let v = is_there q.frame.words (n_at / 4) (omega (arith, many, few)) in
      let does = subst (λ (a : Word). StoresWord (obey frames_limit (object_of m) x q (addressing (own n_at)) op.Lea) x q lead.0.place c.words answer_place a)
      (words_move.own_address x q n_at q.frame.words n_at source)
      (words_move.lea frames_limit (object_of m) x q (addressing (own n_at)) q.frame.words n_at source v.0 c.words answer_place lead.0 old.0 refl v.1 old.1) in
      stored_step (addressing (own n_at)) answer_place answer_address
      (reaches_it m b i p q (into ∷ []) n f j k w x on hold worlds (Print ps into o) here (addressing (own n_at)) (is at)) lead does
      (λ d e. absurd cc) (λ z e. absurd cc) further l
      (λ r d on' s' has' fill' same word stays held.
      way r d on' s' has' fill'
      (record { refers = format.refers; word = word_same c.words d.words linkage_bytes (stays 8 (inr (omega arith))) ∙ format.word; is = format.is })
      (subst (λ (s : ℕ). word_at d.words (pos answer_place) ≡ Found (Address (InFrame s) (pos n_at))) (sym same) word) (λ v l. stays v (inr (omega (arith, l)))) held)
