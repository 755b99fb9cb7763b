-- Sys is loaded: from then on the slot of the answer refers to it.
use Rattle.std.proofs.Common.{◌≡◌, ℕ, true, suc, pos, ◌+◌, ◌*◌, ◌/◌, ◌<◌, ◌≤◌, List, [], ◌∷◌, length, Option, Some, None, inl, inr, refl, sym, ap, ◌∙◌, subst, arith}
use Rattle.std.proofs.Common.{if◌then◌else◌}
use Rattle.std.specs.Prelude.{slice_get, codes}
use Rattle.std.specs.Str.{bytes_eq}
use Rattle.process_model.specs.Process.{Went}
use Rattle.process_ways.specs.Ways.{Way}
use Rattle.system_model.specs.Limits.{frames_limit}
use Rattle.heap_model.specs.Heap.{at, there, in_one}
use Rattle.heap_model.proofs.Heap.{there_is}
use Rattle.limbo_types.specs.Types as ty
use Rattle.limbo_layout.specs.Adts.{Has}
use Rattle.limbo_typed.specs.Typed as typed
use Rattle.limbo_typed.specs.declared.print.Piece.{Piece}
use Rattle.limbo_meaning.specs.Values.{Chars}
use Rattle.limbo_meaning.specs.Process.{Shared}
use Rattle.core_code.specs.Code.{Print}
use Rattle.core_code.specs.Machine as code
use Rattle.core_code.specs.Slots as core
use Rattle.core_code.specs.Slots.{slot_names}
use Rattle.core_typing.specs.Held as held
use Rattle.core_typing.specs.Needs.{IsClean}
use Rattle.dis_isa.specs.declared.inst.Inst.{Inst}
use Rattle.dis_isa.specs.declared.inst.Middle.TheVariants as middle
use Rattle.dis_isa.specs.declared.op.Op.TheVariants as op
use Rattle.dis_meaning.specs.Words.{Word, Refer, Access, Found, ◌>>=◌, type_check, dead_address, or_wrong, word_at, reference}
use Rattle.dis_meaning.specs.Process.{Process, at_pc, with_words, with_frames}
use Rattle.dis_meaning.specs.Step.{names as names_in, path_of_sys}
use Rattle.dis_memory.specs.Blocks.{Block, Sys, World, with_block, next_serial}
use Rattle.dis_memory.specs.Naming.{inside}
use Rattle.dis_memory.specs.Kinds.{text_at, text_in}
use Rattle.dis_memory.specs.Places.{memory, source_reference}
use Rattle.dis_memory.specs.Operands.{middle_immediate}
use Rattle.dis_memory.specs.Results.{gives_block, gives_reference}
use Rattle.dis_memory.specs.Step.{obey}
use Rattle.value_words.specs.Facts.{Facts, IsText}
use Rattle.value_words.proofs.Bytes.{word_found}
use Rattle.value_heaps.proofs.Words.{named_by}
use Rattle.value_frames.specs.Frames.{answer_place, spare_place, number_place, reference_place, frame_bytes, frame_references}
use Rattle.value_frames.specs.Types.{AreOf}
use Rattle.value_frames.specs.Slots.{ElseAsWas}
use Rattle.value_frames.proofs.Slots.{slots_change}
use Rattle.value_frames.proofs.Later.{frames_later}
use Rattle.value_frames.proofs.Replacing.{kinds_stay}
use Rattle.value_moves.specs.Operands.{inst, own}
use Rattle.value_moves.proofs.Changing.{low_or_high}
use Rattle.value_moves.proofs.Leading.{spots_lead}
use Rattle.value_code.specs.Data.{path_word}
use Rattle.value_code.specs.Objects.{object_of, placed}
use Rattle.value_roots.specs.Accounts as accounts
use Rattle.value_roots.specs.Accounts.{all_words}
use Rattle.number_effects.specs.Giving.{with_word, StoresWord}
use Rattle.number_effects.specs.Stepping.{Reaches}
use Rattle.number_effects.proofs.Giving.{results_go}
use Rattle.number_effects.proofs.Reading.{operands_are_read}
use Rattle.number_effects.proofs.Stepping.{steps_obey}
use Rattle.block_effects.proofs.Giving.{stores_behind}
use Rattle.value_follows.specs.Stands.{types_of, Awaited}
use Rattle.value_follows.specs.Sides.{sides, HoldTheSame}
use Rattle.value_follows.specs.Rooted.{AreAccounted}
use Rattle.value_follows.specs.Rows.{place, Base}
use Rattle.value_follows.proofs.Putting.{word_same}
use Rattle.value_follows.proofs.Several.{Next}
use Rattle.value_follows.proofs.Standing.{all_wait, instance_here}
use Rattle.value_follows.proofs.Waiting.{all_wait_later}
use Rattle.rows_calling.proofs.OnTheWay.{On, frame_is}
use Rattle.rows_calling.proofs.Clean.{idly}
use Rattle.rows_printing.proofs.Formats.{text_there}
use Rattle.rows_printing.proofs.New.{CarrierMade, carrier_made}
use Rattle.rows_printing.proofs.Way.{sys, HasSys, size, print_by}

-- A reference that stands for a text leads to it, where it is there.
pub text_reads : (m : typed.Module) (k : Facts) (w : Shared) (x : World) → (sides m).worlds k w x → (r : Option ℕ) (s : List ℕ) → IsText k r s
    → ((b : ℕ) → r ≡ Some b → there (at x.heap b) ≡ true) → text_at x r ≡ Found s
text_reads m k w x worlds None s t live = ap (λ (s : List ℕ). Found s) (sym t)
text_reads m k w x worlds (Some b) s t live =
    let c = there_is (at x.heap b) (live b refl) in
    ap (λ (o : Option Block). or_wrong dead_address o >>= text_in)
    (c.1 ∙ ap (λ (d : Block). Some d) (worlds.0.texts b s c.0 t.0 c.1))

same_chars : (s t : List ℕ) → Chars s ≡ Chars t → s ≡ t
same_chars s t e = cc

module _ (m : typed.Module) (b : Base m) (i : ℕ) (p : code.Process) (n : ℕ) (f : typed.Function) (ps : List Piece) (into : ℕ) (o : Option ℕ)
    (here : slice_get p.frame.code p.frame.pc ≡ Some (Print ps into o))
    (none : (s : ℕ) → slot_names (core.slot p.frame.slots into) s ≡ 0)
    (k : Facts) (w : Shared) (x : World) (j : ℕ) (q : Process) (on : On m k i x [] n f j p q) (hold : HoldTheSame m k i x p q)
    (worlds : (sides m).worlds k w x) (few : into < length p.frame.slots) (clean : IsClean (held.slot on.known into)) where
  abbrev r_at : ℕ
  r_at = reference_place m.adts (types_of m f) into

  abbrev n_at : ℕ
  n_at = number_place m.adts (types_of m f) into

  abbrev pub loading : Inst
  loading = inst op.Load path_word (middle.Imm (pos 0)) (own r_at)

  abbrev serial : ℕ
  serial = next_serial x

  abbrev others : List Word
  others = with_word q.frame.words r_at (Refer (Some serial))

  abbrev world_then : World
  world_then = with_block x sys

  abbrev process_then : Process
  process_then = with_frames q (at_pc (with_words q.frame others) (suc q.frame.pc)) q.below q.made

  -- ---- the path is read

  path_there : (r : Option ℕ) × (source_reference x q path_word ≡ Found r) × (text_at x r ≡ Found (codes "$Sys"))
  path_there =
      let instance = instance_here m b k i w x p q [] (frame_is m k i x [] n f j p q on) hold worlds.0 in
      let constant = instance.2 (placed m 0 ty.Chars (Chars (codes "$Sys"))) (inl refl) in
      let text = text_there m.adts k instance.0 0 ty.Chars (Chars (codes "$Sys")) refl constant.stands in (
        text.refers,
        operands_are_read.source_referring x q path_word instance.0 0 (spots_lead.of_module x q 0 instance.0 0 instance.1).0
            ∙ ap (λ (a : Access Word). a >>= reference) text.word,
        text_reads m k w x worlds text.refers (codes "$Sys")
            (subst (λ (s : List ℕ). IsText k text.refers s) (sym (same_chars (codes "$Sys") text.chars text.is)) text.text)
            (λ c e.
            let found = word_found instance.0 0 (Refer text.refers) text.word in
            let named = named_by instance.0 0 c (found.1 ∙ ap (λ (r : Option ℕ). Some (Refer r)) e) in
            worlds.0.closed.closed q.frame.instance c (ap there instance.1)
            (subst (λ (o : Option Block). 0 < in_one inside o c) (sym instance.1) named)),
      )

  -- ---- Sys is made

  made : CarrierMade m k i w x worlds sys (λ c u. absurd (omega (arith, u)))
  made = carrier_made m k i w x worlds sys (λ c u. absurd (omega (arith, u)))

  stores : StoresWord (obey frames_limit (object_of m) x q loading op.Load) world_then q (spots_lead.own x q r_at).0.place q.frame.words r_at (Refer (Some serial))
  stores =
      let rest = (idly m k i x n f j p q on into few clean).0 in
      let path = path_there in
      let given = results_go.block x q (own r_at) q.frame.words r_at (spots_lead.own x q r_at).0 rest.0 sys rest.1 in
      let read : (source_reference x q path_word >>= text_at x) ≡ Found (codes "$Sys") =
      ap (λ (a : Access (Option ℕ)). a >>= text_at x) path.1 ∙ path.2 in (
        given.0,
        ap (λ (c : Access (List ℕ)). c >>= λ path.
            middle_immediate (middle.Imm (pos 0)) >>= λ n.
            or_wrong type_check (slice_get (object_of m).imports n) >>= λ table.
            (if bytes_eq path path_of_sys then gives_block x q (own r_at) (Found (Sys (names_in table)))
            else gives_reference x q (own r_at) (Found None))) read
            ∙ given.1,
      )

  else_as_was : ElseAsWas q.frame.words others n_at 8
  else_as_was = record {
    each = λ w no. elim (low_or_high (4 * w) n_at) [
      | inl low ↦ stores.0.changes.words w (inl (omega (arith, low)))
      | inr high ↦ elim (low_or_high (4 * w) (n_at + 8)) [
        | inl within ↦ absurd (no (high, within))
        | inr past ↦ stores.0.changes.words w (inr (omega (arith, past)))
      ]
    ];
  }

  stays : (at : ℕ) → 4 * (at / 4) + 4 ≤ r_at → word_at others (pos at) ≡ word_at q.frame.words (pos at)
  stays at low = word_same q.frame.words others at (stores.0.changes.words (at / 4) (inl low))

  sort_stays : AreOf (frame_bytes m.adts (types_of m f) (length p.frame.slots)) (frame_references m.adts (types_of m f) (length p.frame.slots)) others
  sort_stays =
      kinds_stay.all (frame_bytes m.adts (types_of m f) (length p.frame.slots)) (frame_references m.adts (types_of m f) (length p.frame.slots))
      q.frame.words others on.words.kind stores.0.changes.many stores.0.changes.refer stores.0.changes.referred
      (stores.0.ranged (λ z e. absurd cc) on.words.kind.ranged)

  loaded : On m made.now i world_then (into ∷ []) n f (suc j) p process_then
  loaded =
      let owned = (frames_later m.adts k x.heap q.frame.serial [] (types_of m f) on.known p.frame.variables p.frame.slots q.frame.words on.words).owned in
      let after = slots_change.leaves m.adts k made.now x.heap world_then.heap q.frame.serial [] (types_of m f) on.known
      p.frame.variables p.frame.slots q.frame.words others into on.words made.grows (idly m k i x n f j p q on into few clean).1 else_as_was sort_stays
      (λ r c h. made.keeps c (owned r c h).0 (on.mine r c h)) in
      let pc = on.pc in
      record {
        process = on.process;
        there = on.there;
        code = on.code;
        answer = on.answer;
        many = on.many;
        instance = made.grows.facts q.frame.instance _ on.instance;
        formed = made.grows.forms q.frame.instance _ on.formed;
        known = on.known;
        words = after.0;
        mine = λ r c h. made.grows.makers c i (on.mine r c (subst (λ (o : ℕ → List ℕ). Has (o r) c) after.1 h));
        fresh = on.fresh;
        goes = on.goes;
        waits = all_wait m made.now i world_then Awaited p.frame.answer q.frame process_then.frame p.below q.below refl
            (stays answer_place (omega arith))
            (all_wait_later m k made.now i x world_then q.frame.serial made.grows (omega arith)
            (λ c free mine other. made.keeps c free mine) Awaited p.frame.answer q.frame p.below q.below (omega arith) on.waits);
        pc = omega (arith, pc);
        spare = stays (spare_place m.adts (types_of m f)) (omega arith) ∙ on.spare;
      }

  has_sys : HasSys made.now r_at process_then
  has_sys = record { box = serial; word = stores.0.there; carries = made.known }

  step_is : Reaches (object_of m ∷ []) x q (object_of m) loading → (sides m).code.step x q ≡ Went world_then process_then
  step_is reach =
      steps_obey.stores frames_limit (object_of m ∷ []) x q (object_of m) loading world_then (spots_lead.own x q r_at).0.place others _ reach stores.1
      (stores_behind x q sys (spots_lead.own x q r_at).0.place others
      (memory x (with_frames q (with_words q.frame others) q.below q.made)) ((spots_lead.own x q r_at).1 others))

  pub load_step : Reaches (object_of m ∷ []) x q (object_of m) loading → q.made ≡ [] → suc (suc j) < size m b i p n f ps into o here none → (l : ℕ)
      → ((now : Facts) (y : World) (r : Process) → On m now i y (into ∷ []) n f (suc j) p r → HasSys now r_at r → r.made ≡ []
      → HoldTheSame m now i y p r → Way (sides m) (place m) l now i y p r)
      → Next m b i p l k w x q
  load_step reach bare further l way =
      let accounted : AreAccounted m made.now i world_then (code.process_names p) (all_words q.made) =
      subst (λ fs. AreAccounted m made.now i world_then (code.process_names p) (all_words fs)) (sym bare) accounts.none in
      print_by m b i p n f ps into o here none k made.now w x world_then [] j q process_then on hold worlds further (step_is reach) made.changes made.after
      loaded has_sys accounted l
      (λ held. way made.now world_then process_then loaded has_sys bare held)
