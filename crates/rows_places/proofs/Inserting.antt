-- A new string comes to a place: the block of a value of the heap changes, or a variable does, and the string's block is new.
use Rattle.std.proofs.Common.{◌≡◌, ◌⊎◌, ℕ, true, suc, pos, ◌+◌, ◌*◌, ◌/◌, ◌<◌, ◌≤◌, List, [], ◌∷◌, ◌++◌, length, Option, Some, refl, sym, ap, ◌∙◌, subst, arith, inl, inr}
use Rattle.std.specs.Prelude.{slice_get, slice_set}
use Rattle.std.proofs.lemmas.Bool.Decides.{eqb_tells}
use Rattle.process_model.specs.Follows.{Only}
use Rattle.process_ways.proofs.On.{stepped}
use Rattle.heap_model.specs.Heap.{Heap, at, there}
use Rattle.heap_model.specs.Facts.{Free}
use Rattle.heap_model.specs.Worlds.{Sets, WorldsAlike}
use Rattle.heap_model.proofs.Heap.{within, at_last, at_more, there_is, there_of}
use Rattle.value_moves.specs.Writing.{Lies}
use Rattle.heap_model.proofs.Changes.{set_value}
use Rattle.system_model.specs.Limits.{frames_limit}
use Rattle.limbo_types.specs.Types as ty
use Rattle.limbo_types.specs.Types.{Ty}
use Rattle.limbo_layout.specs.Adts.{Has}
use Rattle.limbo_typed.specs.Typed as typed
use Rattle.limbo_meaning.specs.Memory.{HeapValue, with_heap, with_variables, changed}
use Rattle.limbo_meaning.specs.Places.{Root, part_at, with_part}
use Rattle.limbo_meaning.specs.Process.{Shared, shared_with}
use Rattle.limbo_meaning.specs.Values.{Value, Chars}
use Rattle.core_code.specs.Code.{Instr}
use Rattle.core_code.specs.Machine as code
use Rattle.dis_isa.specs.declared.inst.Inst.{Inst}
use Rattle.dis_isa.specs.declared.inst.Operand as isa
use Rattle.dis_meaning.specs.Counts.{in_words}
use Rattle.dis_meaning.specs.Words.{Word, Refer, word_at}
use Rattle.dis_meaning.specs.Process.{Process, Printing}
use Rattle.dis_memory.specs.Blocks.{Block, Text, World, with_block, with_changed, next_serial}
use Rattle.dis_memory.specs.Step.{obey}
use Rattle.value_words.specs.Facts.{Facts, Grows, IsString}
use Rattle.value_words.specs.Stands.{Stands, a_text}
use Rattle.value_words.proofs.Bytes.{word_found}
use Rattle.value_words.proofs.Later.{stands_later}
use Rattle.value_words.proofs.Rows.{set_other, set_same}
use Rattle.value_heaps.proofs.Words.{named_where}
use Rattle.value_frames.specs.Frames.{room_for}
use Rattle.value_frames.specs.Slots.{IsKept}
use Rattle.value_frames.proofs.Later.{frames_later}
use Rattle.value_code.specs.Objects.{object_of, of_function, size_at}
use Rattle.number_effects.specs.Giving.{with_word}
use Rattle.number_effects.proofs.Giving.{results_go}
use Rattle.number_effects.proofs.Stepping.{steps_obey}
use Rattle.block_effects.specs.Stored.{ReferenceThere, AfterBlock}
use Rattle.block_effects.proofs.Giving.{stores_behind}
use Rattle.value_follows.specs.Stands.{Ready, GoesOn, types_of}
use Rattle.value_follows.specs.Sides.{sides, contents, HoldTheSame}
use Rattle.value_follows.specs.Rows.{Base, place}
use Rattle.value_follows.proofs.Standing.{at_words}
use Rattle.value_follows.proofs.Waiting.{ready_anew}
use Rattle.value_follows.proofs.Single.{Once}
use Rattle.rows_places.proofs.New.{text_made, TextMade}
use Rattle.rows_places.proofs.Last.{there as process_there, begins_at, reaches_here, hold_there, next_there}
use Rattle.rows_places.proofs.Places.{HeapPlace, place_lives}
use Rattle.rows_places.proofs.Changing.{sets, set_apart, set_here, set_long, changed_is, not_named}
use Rattle.rows_places.proofs.Storing.{writes_again, lies_again}
use Rattle.rows_places.proofs.TextPlaces.{TextIs, text_is}
use Rattle.value_heaps.specs.Blocks.{IsWithin}
use Rattle.value_frames.specs.Frames.{linkage_bytes, answer_place, spare_place, row_of, type_within, frame_bytes, frame_references}
use Rattle.value_frames.proofs.Slots.{slots_change}
use Rattle.value_frames.proofs.Replacing.{kinds_stay}
use Rattle.value_moves.specs.Writing.{Writes}
use Rattle.value_moves.specs.Operands.{own}
use Rattle.value_moves.proofs.Leading.{spots_lead}
use Rattle.value_stores.specs.Paths.{RowLies}
use Rattle.value_stores.proofs.Parts.{parts_lie}
use Rattle.value_follows.specs.Stands.{Awaited, place_of}
use Rattle.value_follows.proofs.Several.{moved_to}
use Rattle.value_follows.proofs.Jumps.{next_place}
use Rattle.value_follows.proofs.Putting.{word_same}
use Rattle.value_follows.proofs.Waiting.{stands_anew}
use Rattle.rows_places.proofs.Locals.{place as local_at, root as local_root, PartThere, variables_lie}

longer_by : {A : Type 0} (h : Heap A) (o : Option A) → length (h ++ o ∷ []) ≡ suc (length h)
longer_by [] o = refl
longer_by (v ∷ h) o = ap suc (longer_by h o)

-- ---- in a block

module _ (m : typed.Module) (b : Base m) (k : Facts) (i : ℕ) (w : Shared) (x : World) (p : code.Process) (q : Process) (ready : Ready m k i x p q)
    (hold : HoldTheSame m k i x p q) (worlds : (sides m).worlds k w x) (instr : Instr) (here : slice_get p.frame.code p.frame.pc ≡ Some instr)
    (pc : ℕ) (pr : Option Printing) (j : ℕ) (so_far : pc ≡ q.frame.pc + j)
    (size : size_at m ready.stands.is.function.of.answer (of_function m ready.stands.is.function) p.frame.pc (Some instr) ≡ j + 1)
    (root : Root) (operands : List Value) (o : isa.Operand) (part : List ℕ)
    (is : HeapPlace m k i w x p q ready hold worlds pc pr root operands o ty.Chars part) where
  abbrev f : typed.Function
  f = ready.stands.is.function

  abbrev at_now : Process
  at_now = process_there m b k i w x p q ready hold worlds instr here pc pr j so_far

  pub old_text : TextIs m k is.words is.byte (part_at part is.value)
  old_text = text_is m k is.words is.byte ty.Chars (part_at part is.value) refl is.lies.stands

  -- where the string comes to
  abbrev pub target : ReferenceThere x at_now o
  target = record { words = is.words; byte = is.byte; leads = is.leads.0; old = old_text.refers; stands = old_text.word }

  module _ (text : List ℕ) (string : IsString text) where
    made : TextMade m k i w x text
    made = text_made m k i w x worlds text

    abbrev now : Facts
    now = made.now

    abbrev grows : Grows k now
    grows = made.made.changes.0.grows

    abbrev others : List Word
    others = with_word is.words is.byte (Refer (Some (next_serial x)))

    abbrev with_text : World
    with_text = with_block x (Text text)

    abbrev after : World
    after = with_block (with_changed x is.serial (is.held others)) (Text text)

    abbrev value : HeapValue
    value = is.becomes (with_part part (Chars text) is.value)

    abbrev heap_after : Heap HeapValue
    heap_after = changed w.heap is.name value

    abbrev world_after : Shared
    world_after = shared_with w (with_heap (code.memory_of w p.frame) heap_after)

    abbrev changed_heap : Heap Block
    changed_heap = slice_set x.heap is.serial (Some (is.held others))

    not_new : is.serial ≡ next_serial x → ⊥
    not_new e =
        let below = within x.heap is.serial (there_of (at x.heap is.serial) (is.held is.words) is.block) in
        omega (arith, e, below)

    -- each block but this one is as it was with the string's
    elsewhere : (u : ℕ) → (u ≡ is.serial → ⊥) → at after.heap u ≡ at with_text.heap u
    elsewhere u ne = elim (eqb_tells u (length x.heap)) [
      | inl y ↦
          at_last changed_heap (Some (Text text)) u (y.1 ∙ sym (set_long x.heap is.serial (Some (is.held others))))
          ∙ sym (at_last x.heap (Some (Text text)) u y.1)
      | inr y ↦
          at_more changed_heap (Some (Text text)) u (λ e. y.1 (e ∙ set_long x.heap is.serial (Some (is.held others))))
          ∙ set_apart x.heap is.serial (Some (is.held others)) u ne
          ∙ sym (at_more x.heap (Some (Text text)) u y.1)
    ]

    block_here : at after.heap is.serial ≡ Some (is.held others)
    block_here =
        at_more changed_heap (Some (Text text)) is.serial (λ e. not_new (e ∙ set_long x.heap is.serial (Some (is.held others))))
        ∙ set_here x.heap is.serial (is.held is.words) (is.held others) is.block

    block_sets : Sets with_text.heap after.heap is.serial (Some (is.held others))
    block_sets = record { here = block_here; apart = elsewhere }

    value_sets : Sets w.heap heap_after is.name (Some value)
    value_sets =
        subst (λ h. Sets w.heap h is.name (Some value)) (sym (changed_is w.heap is.name is.old value is.there))
        (sets w.heap is.name is.old value is.there)

    still_there : (u : ℕ) → there (at x.heap u) ≡ true → there (at with_text.heap u) ≡ true
    still_there u e =
        let c = there_is (at x.heap u) e in
        let d = made.made.changes.0.there u c.0 c.1 in
        there_of (at with_text.heap u) d.0 d.1

    stored : (words : List Word) → words ≡ others → Stands m.adts now words is.byte ty.Chars (Chars text)
    stored words e =
        let s = results_go.block x at_now o is.words is.byte is.leads.0 old_text.refers (Text text) old_text.word in
        subst (λ ws. Stands m.adts now ws is.byte ty.Chars (Chars text)) (sym e)
        (a_text is.byte (Some (next_serial x)) text s.0.there (made.known, string))

    stands : (contents m).stands now is.serial value (is.held others)
    stands =
        let s = results_go.block x at_now o is.words is.byte is.leads.0 old_text.refers (Text text) old_text.word in
        let ranged = s.0.ranged (λ z e. absurd cc) is.lies.whole.1 in
        is.anew now grows others others is.byte (Chars text) (writes_again is.words others is.byte 4 s.0.changes ranged)
        (lies_again m.adts now is.words others is.byte 4 ty.Chars (room_for m.adts ty.Chars) (part_at part is.value) (Chars text) s.0.changes ranged
        (lies_later is.lies) (stored others refl))
      where
        lies_later : Lies m.adts k is.words is.byte ty.Chars (room_for m.adts ty.Chars) (part_at part is.value)
            → Lies m.adts now is.words is.byte ty.Chars (room_for m.adts ty.Chars) (part_at part is.value)
        lies_later l = record {
          laid = l.laid;
          aligned = l.aligned;
          whole = l.whole;
          only = l.only;
          stands = stands_later m.adts k now is.words grows is.byte ty.Chars (part_at part is.value) l.stands;
        }

    lives : (u wd : ℕ) → slice_get others wd ≡ Some (Refer (Some u)) → there (at with_text.heap u) ≡ true
    lives u wd e = elim (eqb_tells wd (is.byte / 4)) [
      | inl y ↦
          let old = (word_found is.words is.byte (Refer old_text.refers) old_text.word).1 in
          let same : Some (Refer (Some (next_serial x))) ≡ Some (Refer (Some u)) =
          sym (set_same is.words (is.byte / 4) (Refer (Some (next_serial x))) (Refer old_text.refers) old) ∙ ap (slice_get others) (sym y.1) ∙ e in
          let is_next : next_serial x ≡ u = cc in
          there_of (at with_text.heap u) (Text text) (at_last x.heap (Some (Text text)) u (sym is_next))
      | inr y ↦
          still_there u (place_lives m k i w x p q ready hold worlds pc pr root operands o ty.Chars part is u wd
          (sym (set_other is.words (is.byte / 4) wd (Refer (Some (next_serial x))) y.1) ∙ e))
    ]

    alike_after : WorldsAlike (contents m) now heap_after after.heap
    alike_after =
        set_value (contents m) now w.heap heap_after with_text.heap after.heap is.name is.serial value (is.held others) made.after.0
        (grows.facts is.serial _ is.named) stands
        (ap (λ (h : Heap HeapValue). length h) (changed_is w.heap is.name is.old value is.there) ∙ set_long w.heap is.name (Some value))
        (longer_by changed_heap (Some (Text text)) ∙ ap suc (set_long x.heap is.serial (Some (is.held others))) ∙ sym (longer_by x.heap (Some (Text text))))
        value_sets block_sets
        (λ u h.
        let named : 0 < in_words u others = let e = is.names others u in omega (arith, e, h) in
        let wd = named_where others u named in
        lives u wd.0 wd.1)

    free_apart : (u : ℕ) → Free k u → u ≡ is.serial → ⊥
    free_apart u free = not_named k is.name is.serial u is.named free

    keeps : (u : ℕ) → Free k u → k.maker u ≡ Some i → IsKept now x.heap after.heap u
    keeps u free mk = let kept = made.made.keeps u free mk in (kept.0, elsewhere u (free_apart u free) ∙ kept.1)

    changes_so : (sides m).changes (Only i) k now x after
    changes_so = (
      record {
        grows = grows;
        there = λ u c e. elim (eqb_tells u is.serial) [
          | inl y ↦ (is.held others, ap (at after.heap) y.1 ∙ block_here)
          | inr y ↦ let d = made.made.changes.0.there u c e in (d.0, elsewhere u y.1 ∙ d.1)
        ];
        free = λ u g free mk no. let kept = made.made.changes.0.free u g free mk no in (kept.0, elsewhere u (free_apart u free) ∙ kept.1);
        carriers = λ u c e.
            elsewhere u (λ s. absurd (let z = sym e ∙ ap k.fact s ∙ is.named in cc)) ∙ made.made.changes.0.carriers u c e;
      },
      made.made.changes.1,
    )

    abbrev behind_step : code.Process
    behind_step = code.with_frames p (code.at p.frame (suc p.frame.pc) p.frame.variables p.frame.slots) p.below

    ready_after : GoesOn m f (suc p.frame.pc) ready.stands.is.known → Ready m now i after behind_step (at_words m k i x p q ready (suc pc) q.frame.words)
    ready_after goes =
        let are = ready.stands.is.words in
        let later = frames_later m.adts k x.heap q.frame.serial [] (types_of m f) ready.stands.is.known p.frame.variables p.frame.slots q.frame.words are in
        let words = later.later now after.heap grows (λ s u h. keeps u (later.owned s u h).0 (ready.stands.is.mine s u h)) in
        ready_anew m k now i x after p q ready grows made.made.changes.1 (λ u free mk other. keeps u free mk)
        (suc p.frame.pc) (suc pc) ready.stands.is.known p.frame.variables p.frame.slots q.frame.words refl words.0
        (λ s u h. grows.makers u i (ready.stands.is.mine s u (subst (λ (own : ℕ → List ℕ). Has (own s) u) words.1 h))) goes
        (next_there m b k i w x p q ready hold worlds instr here pc pr j so_far size) refl refl

    pub text_inserted : (inst : Inst) → begins_at m b k i w x p q ready hold worlds instr here pc pr j so_far inst
        → obey frames_limit (object_of m) x at_now inst inst.op ≡ AfterBlock x at_now target (Text text)
        → (sides m).program.step w p ≡ code.goes_with w p (with_heap (code.memory_of w p.frame) heap_after) p.frame.slots
        → GoesOn m f (suc p.frame.pc) ready.stands.is.known → Once m b i p at_now k w x
    text_inserted inst begins obeys does goes =
        let step = steps_obey.stores frames_limit (object_of m ∷ []) x at_now (object_of m) inst with_text is.leads.0.place others _
        (reaches_here m b k i w x p q ready hold worlds instr here pc pr j so_far inst begins) obeys
        (stores_behind x at_now (Text text) is.leads.0.place others _ (is.leads.1 others)) in
        let next = at_words m k i x p q ready (suc pc) q.frame.words in
        let ready' = ready_after goes in
        let holds = hold_there m b k i w x p q ready hold worlds instr here pc pr j so_far in
        let worlds' : (sides m).worlds now world_after after = (alike_after, worlds.1) in
        stepped (sides m) (place m) (λ l z r t. (sides m).ready l i z r t) k now i w x after p at_now next step changes_so world_after behind_step does
        worlds' (
          ready',
          b.holds_again now i world_after after behind_step next ready' worlds'
              (b.there_again x after at_now next step worlds.0.closed (λ n h. holds.same.live n (holds.same.roots n h))),
        )

-- ---- in a variable of the function

module _ (m : typed.Module) (b : Base m) (k : Facts) (i : ℕ) (w : Shared) (x : World) (p : code.Process) (q : Process) (ready : Ready m k i x p q)
    (hold : HoldTheSame m k i x p q) (worlds : (sides m).worlds k w x) (instr : Instr) (here : slice_get p.frame.code p.frame.pc ≡ Some instr)
    (size : size_at m ready.stands.is.function.of.answer (of_function m ready.stands.is.function) p.frame.pc (Some instr) ≡ 1)
    (v : ℕ) (part : List ℕ) (is : PartThere m k i x p q ready v part ty.Chars) where
  abbrev g : typed.Function
  g = ready.stands.is.function

  abbrev ts : List Ty
  ts = types_of m g

  abbrev to : ℕ
  to = local_at m k i x p q ready v part

  abbrev root_type : Ty
  root_type = local_root m k i x p q ready v part

  abbrev many : ℕ
  many = length p.frame.slots

  pub so_far_0 : q.frame.pc ≡ q.frame.pc + 0
  so_far_0 = omega arith

  pub old_local : TextIs m k q.frame.words to (part_at part is.value)
  old_local = text_is m k q.frame.words to ty.Chars (part_at part is.value) refl is.lies.stands

  abbrev pub local_target : ReferenceThere x q (own to)
  local_target = record { words = q.frame.words; byte = to; leads = (spots_lead.own x q to).0; old = old_local.refers; stands = old_local.word }

  module _ (text : List ℕ) (string : IsString text) where
    local_made : TextMade m k i w x text
    local_made = text_made m k i w x worlds text

    abbrev late : Facts
    late = local_made.now

    abbrev more_known : Grows k late
    more_known = local_made.made.changes.0.grows

    abbrev new_words : List Word
    new_words = with_word q.frame.words to (Refer (Some (next_serial x)))

    abbrev text_there : World
    text_there = with_block x (Text text)

    abbrev variables : List Value
    variables = slice_set p.frame.variables v (with_part part (Chars text) is.value)

    abbrev inner : Ty
    inner = type_within m.adts root_type part

    abbrev local_behind : code.Process
    local_behind = code.with_frames p (code.at p.frame (suc p.frame.pc) variables p.frame.slots) p.below

    local_ready : GoesOn m g (suc p.frame.pc) ready.stands.is.known → Ready m late i text_there local_behind (moved_to q (suc q.frame.pc) new_words)
    local_ready goes =
        let are = ready.stands.is.words in
        let s = results_go.block x q (own to) q.frame.words to (spots_lead.own x q to).0 old_local.refers (Text text) old_local.word in
        let changes = s.0.changes in
        let ranged = s.0.ranged (λ z e. absurd cc) are.kind.ranged in
        let later = frames_later m.adts k x.heap q.frame.serial [] ts ready.stands.is.known p.frame.variables p.frame.slots q.frame.words are in
        let now_are = later.later late text_there.heap more_known (λ s u h. local_made.made.keeps u (later.owned s u h).0 (ready.stands.is.mine s u h)) in
        let lie = variables_lie m k i x p q ready in
        let row : RowLies m.adts late q.frame.words linkage_bytes ts p.frame.variables =
        record { laid = lie.laid; aligned = lie.aligned; whole = lie.whole; only = lie.only; stand = now_are.0.values } in
        let old_lies : Lies m.adts late q.frame.words to ty.Chars (room_for m.adts ty.Chars) (part_at part is.value) =
        record {
          laid = is.lies.laid;
          aligned = is.lies.aligned;
          whole = is.lies.whole;
          only = is.lies.only;
          stands = stands_later m.adts k late q.frame.words more_known to ty.Chars (part_at part is.value) is.lies.stands;
        } in
        let lies = lies_again m.adts late q.frame.words new_words to 4 ty.Chars (room_for m.adts ty.Chars) (part_at part is.value) (Chars text) changes ranged
        old_lies (a_text to (Some (next_serial x)) text s.0.there (local_made.known, string)) in
        let writes = subst (λ u. Writes q.frame.words new_words to new_words to (room_for m.adts u).size) (sym is.ends)
        (writes_again q.frame.words new_words to 4 changes ranged) in
        let row_lies = parts_lie.row_written m.adts late q.frame.words new_words linkage_bytes ts p.frame.variables v root_type part is.value (Chars text) new_words to
        row is.has_type is.there is.path writes
        (subst (λ u. Lies m.adts late new_words to u (room_for m.adts u) (Chars text)) (sym is.ends) lies) in
        let else_as_was = parts_lie.row_else m.adts late q.frame.words new_words linkage_bytes ts p.frame.variables v root_type part is.value new_words to
        row is.has_type is.there is.path writes in
        let kind = kinds_stay.all (frame_bytes m.adts ts many) (frame_references m.adts ts many) q.frame.words new_words are.kind changes.many
        changes.refer changes.referred ranged in
        let words = slots_change.variables m.adts late text_there.heap q.frame.serial [] ts ready.stands.is.known p.frame.variables variables p.frame.slots
        q.frame.words new_words now_are.0 else_as_was kind row_lies.stand in
        let stays : (n : ℕ) → (4 * (n / 4) + 4 ≤ linkage_bytes) ⊎ (linkage_bytes + (row_of m.adts ts).size ≤ 4 * (n / 4))
        → word_at new_words (pos n) ≡ word_at q.frame.words (pos n) =
        λ n l. word_same q.frame.words new_words n (else_as_was.each (n / 4) (λ h. outside n l h)) in
        let on = stands_anew m k late i x text_there [] Awaited p q ready.stands more_known local_made.made.changes.1
        (λ u free mk other. local_made.made.keeps u free mk) [] (suc p.frame.pc) (suc q.frame.pc) ready.stands.is.known variables p.frame.slots new_words q.made
        refl words.0
        (λ s c h. more_known.makers c i (ready.stands.is.mine s c (subst (λ (own : ℕ → List ℕ). Has (own s) c) (words.1 ∙ now_are.1) h))) goes
        (stays answer_place (inl (omega arith))) in
        let next = next_place m b k i w x p q ready hold worlds instr here 1 size in
        record {
          stands = on.stands;
          pc = omega (arith, next)
              ∙ sym (ap (λ n. place_of m n on.stands.is.function (suc p.frame.pc)) on.number
              ∙ ap (λ h. place_of m ready.stands.is.number h (suc p.frame.pc)) on.function);
          spare = ap (λ h. word_at new_words (pos (spare_place m.adts (types_of m h)))) on.function
              ∙ stays (spare_place m.adts ts) (inr (omega arith)) ∙ ready.spare;
          none_made = ready.none_made;
        }
      where
        outside : (n : ℕ) → (4 * (n / 4) + 4 ≤ linkage_bytes) ⊎ (linkage_bytes + (row_of m.adts ts).size ≤ 4 * (n / 4))
            → IsWithin linkage_bytes (row_of m.adts ts).size (n / 4) → ⊥
        outside n (inl low) h = let a = h.0 in absurd (omega (arith, a, low))
        outside n (inr high) h = let a = h.1 in absurd (omega (arith, a, high))

    pub local_inserted : (inst : Inst) → begins_at m b k i w x p q ready hold worlds instr here q.frame.pc q.printing 0 so_far_0 inst
        → obey frames_limit (object_of m) x q inst inst.op ≡ AfterBlock x q local_target (Text text)
        → (sides m).program.step w p ≡ code.goes_with w p (with_variables (code.memory_of w p.frame) variables) p.frame.slots
        → GoesOn m g (suc p.frame.pc) ready.stands.is.known → Once m b i p q k w x
    local_inserted inst begins obeys does goes =
        let lead = spots_lead.own x q to in
        let step = steps_obey.stores frames_limit (object_of m ∷ []) x q (object_of m) inst text_there lead.0.place new_words _
        (reaches_here m b k i w x p q ready hold worlds instr here q.frame.pc q.printing 0 so_far_0 inst begins) obeys
        (stores_behind x q (Text text) lead.0.place new_words _ (lead.1 new_words)) in
        let next = moved_to q (suc q.frame.pc) new_words in
        let ready' = local_ready goes in
        let worlds' : (sides m).worlds late w text_there = local_made.after in
        stepped (sides m) (place m) (λ l z r t. (sides m).ready l i z r t) k late i w x text_there p q next step local_made.made.changes w local_behind does
        worlds' (
          ready',
          b.holds_again late i w text_there local_behind next ready' worlds'
              (b.there_again x text_there q next step worlds.0.closed (λ n h. hold.same.live n (hold.same.roots n h))),
        )
