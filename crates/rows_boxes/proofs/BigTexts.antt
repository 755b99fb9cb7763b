-- A big as a text: the machine makes the text, and the slot refers to it. (What is known of a new text is shown as in `rows_texts`.)
use Rattle.std.proofs.Common.{◌≡◌, ℕ, suc, pos, ◌+◌, ◌*◌, ◌/◌, ◌<◌, ◌≤◌, List, [], ◌∷◌, length, Some, None, refl, sym, ap, ◌∙◌, subst, arith, inl, inr}
use Rattle.std.specs.Prelude.{slice_get}
use Rattle.process_model.specs.Follows.{Only}
use Rattle.process_ways.proofs.On.{stepped}
use Rattle.heap_model.specs.Heap.{at}
use Rattle.heap_model.specs.Facts.{Fact, Named, Chars, Carrier, IsUnmade, Learns, IsFree, Free}
use Rattle.heap_model.specs.Worlds.{Sets}
use Rattle.heap_model.proofs.Heap.{there_is, there_of}
use Rattle.heap_model.proofs.Changes.{set_free, there_on}
use Rattle.heap_model.proofs.Growing.{grows_on, learns_grows, tell}
use Rattle.heap_model.proofs.Building.{with_maker, maker_grows, maker_world, with_fact, fact_learns}
use Rattle.heap_model.proofs.Made.{last_sets, last_length}
use Rattle.limbo_types.specs.Types as ty
use Rattle.limbo_types.specs.Types.{Ty}
use Rattle.limbo_layout.specs.Adts.{Has}
use Rattle.limbo_values.specs.declared.number.Kind.TheVariants.{Big}
use Rattle.limbo_values.specs.Conversions.{number_text}
use Rattle.limbo_typed.specs.Typed as typed
use Rattle.limbo_typed.specs.declared.operation.Operation.TheVariants.{NumberText}
use Rattle.limbo_meaning.specs.Process.{Shared}
use Rattle.limbo_meaning.specs.Trees.{Operate}
use Rattle.limbo_meaning.specs.Values as value
use Rattle.limbo_meaning.specs.Values.{Value, number_of, fitted}
use Rattle.system_model.specs.Limits.{frames_limit}
use Rattle.core_code.specs.Code.{Instr, Give}
use Rattle.core_code.specs.Machine as code
use Rattle.core_code.specs.Slots as core
use Rattle.core_code.specs.Slots.{Slot, Holds}
use Rattle.core_typing.specs.Held as held
use Rattle.core_typing.specs.Held.{Of}
use Rattle.core_typing.specs.Going.{got_by}
use Rattle.core_typing.specs.Needs.{AreThese, IsClean}
use Rattle.dis_isa.specs.declared.inst.Middle.TheVariants as middle
use Rattle.dis_isa.specs.declared.op.Op.TheVariants as op
use Rattle.dis_meaning.specs.Words.{Word, Refer, word_at}
use Rattle.dis_meaning.specs.Process.{Process}
use Rattle.dis_memory.specs.Blocks.{Block, Text, World, with_block, next_serial}
use Rattle.dis_memory.specs.Naming.{inside}
use Rattle.rows_boxes.proofs.Strings.{big_string}
use Rattle.value_words.specs.Facts.{IsString, Facts, Grows}
use Rattle.value_words.specs.Stands.{a_text}
use Rattle.value_frames.specs.Frames.{answer_place, spare_place, number_place, reference_place, frame_bytes, frame_references}
use Rattle.value_frames.specs.Types.{AreOf}
use Rattle.value_frames.specs.Standing.{SlotStands, a_value}
use Rattle.value_frames.specs.Slots.{ElseAsWas, IsKept}
use Rattle.value_frames.proofs.Slots.{slots_change, put_long}
use Rattle.value_frames.proofs.Replacing.{kinds_stay}
use Rattle.value_frames.proofs.Later.{frames_later}
use Rattle.value_moves.specs.Operands.{inst, own, behind}
use Rattle.value_moves.proofs.Changing.{low_or_high}
use Rattle.value_moves.proofs.Leading.{spots_lead}
use Rattle.value_code.specs.Objects.{object_of}
use Rattle.number_effects.specs.Giving.{with_word, WordStored}
use Rattle.number_effects.proofs.Giving.{results_go}
use Rattle.number_effects.proofs.Stepping.{steps_obey}
use Rattle.block_effects.proofs.Giving.{stores_behind}
use Rattle.block_effects.proofs.Strings.{strings_come}
use Rattle.value_follows.specs.Stands.{Ready, types_of}
use Rattle.value_follows.specs.Sides.{sides, contents, program, HoldTheSame}
use Rattle.value_follows.specs.Rows.{place, Base, InstrGoes}
use Rattle.value_follows.proofs.Standing.{finds, code_here, at_words}
use Rattle.value_follows.proofs.Slots.{uses}
use Rattle.value_follows.proofs.Single.{single}
use Rattle.value_follows.proofs.Jumps.{first, next_place, behind_it}
use Rattle.value_follows.proofs.Putting.{at_rest, word_same}
use Rattle.value_follows.proofs.Waiting.{ready_anew}
use Rattle.value_follows.proofs.Comparing.{one_slot}
use Rattle.rows_boxes.specs.Rows.{BigTextsGo}
use Rattle.rows_boxes.proofs.Reading.{big_is, big_source}

-- ---- a new text

module _ (m : typed.Module) (k : Facts) (i : ℕ) (w : Shared) (x : World) (worlds : (sides m).worlds k w x) (s : List ℕ) where
  abbrev n : ℕ
  n = next_serial x

  abbrev y : World
  y = with_block x (Text s)

  unmade : IsUnmade k n
  unmade = worlds.0.unmade n (omega arith)

  sets : Sets x.heap y.heap n (Some (Text s))
  sets = last_sets x.heap (Text s)

  no_name : (q : ℕ) → 0 < inside (Text s) q → ⊥
  no_name q h = omega (arith, h)

  other : (q j : ℕ) → k.maker q ≡ Some j → q ≡ n → ⊥
  other q j e f = let z : None ≡ Some j = sym unmade.maker ∙ (ap k.maker (sym f) ∙ e) in cc

  not_named : (c : ℕ) → ◌≡◌ {A = Fact Block} (Chars s) (Named c) → ⊥
  not_named c e = cc

  abbrev begun : Facts
  begun = with_maker k n i None

  abbrev now : Facts
  now = with_fact begun n (Chars s) not_named

  learns : Learns begun now n (Chars s)
  learns = fact_learns begun n (Chars s) not_named unmade.fact

  grows : Grows k now
  grows = grows_on k begun now (maker_grows k n i None unmade) (learns_grows begun now n (Chars s) learns)

  keeps : (b : ℕ) → Free k b → k.maker b ≡ Some i → IsKept now x.heap y.heap b
  keeps b free made = (subst IsFree (sym (learns.apart b (other b i made))) free, sets.apart b (other b i made))

  changes : (sides m).changes (Only i) k now x y
  changes = (
    record {
      grows = grows;
      there = λ q d e. there_is (at y.heap q) (there_on x.heap y.heap n (Text s) sets q (there_of (at x.heap q) d e));
      free = λ q j e made ne. (learns.apart q (other q j made), sets.apart q (other q j made));
      carriers = λ q held e.
          sets.apart q (λ z. absurd (let y : None ≡ Some (Carrier held) = sym unmade.fact ∙ (ap k.fact (sym z) ∙ e) in cc));
    },
    omega arith,
  )

  same_block : (a b : Block) → Some a ≡ Some b → a ≡ b
  same_block a b e = cc

  same_text : (u t : List ℕ) → ◌≡◌ {A = Fact Block} (Chars u) (Chars t) → u ≡ t
  same_text u t e = cc

  alike : (sides m).worlds now w y
  alike =
      let long = last_length x.heap (Text s) in (
        tell (contents m) begun now w.heap y.heap n (Chars s)
            (maker_world (contents m) k n i None w.heap y.heap unmade (omega (arith, long))
            (set_free (contents m) k w.heap x.heap y.heap n (Text s) worlds.0 unmade.fact (omega (arith, long)) (omega (arith, long))
            sets (λ q p. absurd (no_name q p)) (λ q f p. absurd (no_name q p))))
            learns (omega (arith, long)) not_named (λ e. cc)
            (λ t d e f. same_block d (Text s) (sym f ∙ sets.here) ∙ ap (λ (u : List ℕ). Text u) (same_text s t e))
            (λ a st l d e f. absurd cc) (λ h d e f. absurd cc),
        worlds.1,
      )

-- ---- the row

abbrev instr : (into a : ℕ) → Instr
instr into a = Give ty.Chars (Operate (NumberText Big)) into (a ∷ [])

module _ (m : typed.Module) (b : Base m) (into a : ℕ) (k : Facts) (i : ℕ) (w : Shared) (x : World) (p : code.Process) (q : Process)
    (ready : Ready m k i x p q) (hold : HoldTheSame m k i x p q) (worlds : (sides m).worlds k w x)
    (here : slice_get p.frame.code p.frame.pc ≡ Some (instr into a)) (few : into < length p.frame.slots)
    (clean : IsClean (held.slot ready.stands.is.known into)) where
  abbrev types : List Ty
  types = types_of m ready.stands.is.function

  abbrev to : ℕ
  to = reference_place m.adts types into

  module _ (s : List ℕ) (string : IsString s) (stored : WordStored q.frame.words to (Refer (Some (next_serial x)))) where
    abbrev others : List Word
    others = with_word q.frame.words to (Refer (Some (next_serial x)))

    abbrev facts : Facts
    facts = now m k i w x worlds s

    abbrev world : World
    world = with_block x (Text s)

    abbrev live : List ℕ
    live = got_by m.adts ty.Chars (Operate (NumberText Big))

    else_as_was : ElseAsWas q.frame.words others (number_place m.adts types into) 8
    else_as_was = record {
      each = λ w no. elim (low_or_high (4 * w) (number_place m.adts types into)) [
        | inl low ↦ stored.changes.words w (inl (omega (arith, low)))
        | inr high ↦ elim (low_or_high (4 * w) (number_place m.adts types into + 8)) [
          | inl within ↦ absurd (no (high, within))
          | inr past ↦ stored.changes.words w (inr (omega (arith, past)))
        ]
      ];
    }

    stays : (at : ℕ) → 4 * (at / 4) + 4 ≤ to → word_at others (pos at) ≡ word_at q.frame.words (pos at)
    stays at low = word_same q.frame.words others at (stored.changes.words (at / 4) (inl low))

    kind_stays : AreOf (frame_bytes m.adts types (length p.frame.slots)) (frame_references m.adts types (length p.frame.slots)) others
    kind_stays =
        kinds_stay.all (frame_bytes m.adts types (length p.frame.slots)) (frame_references m.adts types (length p.frame.slots)) q.frame.words others
        ready.stands.is.words.kind stored.changes.many stored.changes.refer stored.changes.referred
        (stored.ranged (λ z e. absurd cc) ready.stands.is.words.kind.ranged)

    text_stands : SlotStands m.adts facts world.heap q.frame.serial others (number_place m.adts types into) to (Of ty.Chars live) (Holds (value.Chars s)) []
    text_stands =
        a_value others (number_place m.adts types into) to ty.Chars live (value.Chars s)
        (a_text to (Some (next_serial x)) s stored.there ((learns m k i w x worlds s).now, string)) (λ l n e. absurd cc)

    abbrev slots : core.Slots
    slots = core.put p.frame.slots into (Holds (value.Chars s))

    ready_then : Ready m facts i world (code.with_frames p (code.at p.frame (suc p.frame.pc) p.frame.variables slots) p.below)
        (at_words m k i x p q ready (suc q.frame.pc) others)
    ready_then =
        let are = ready.stands.is.words in
        let grown = grows m k i w x worlds s in
        let kept = keeps m k i w x worlds s in
        let mine = ready.stands.is.mine in
        let owned = (frames_later m.adts k x.heap q.frame.serial [] types ready.stands.is.known p.frame.variables p.frame.slots q.frame.words are).owned in
        let after = slots_change.slot m.adts k facts x.heap world.heap q.frame.serial [] types ready.stands.is.known p.frame.variables p.frame.slots
        q.frame.words others into (Of ty.Chars live) (Holds (value.Chars s)) [] are grown few else_as_was kind_stays text_stands tt
        (λ u c ne h. (λ e. e, kept c (owned u c h).0 (mine u c h))) in
        let next = next_place m b k i w x p q ready hold worlds (instr into a) here 1 refl in
        ready_anew m k facts i x world p q ready grown (omega arith) (λ c free made other. kept c free made) (suc p.frame.pc) (suc q.frame.pc)
        (held.put ready.stands.is.known into (Of ty.Chars live)) p.frame.variables slots others (put_long p.frame.slots into (Holds (value.Chars s))) after.after
        (λ u c h. elim (low_or_high u into) [
          | inl low ↦ grown.makers c i (mine u c (subst (λ o. Has o c) (after.elsewhere u (λ e. omega (arith, e, low))) h))
          | inr high ↦ elim (low_or_high into u) [
            | inl more ↦ grown.makers c i (mine u c (subst (λ o. Has o c) (after.elsewhere u (λ e. omega (arith, e, more))) h))
            | inr less ↦
                let same : u ≡ into = omega (arith, high, less) in
                absurd (subst (λ o. Has o c) (ap after.after.own same ∙ after.here) h)
          ]
        ])
        (behind_it m b k i w x p q ready hold worlds (instr into a) here 0 (suc p.frame.pc) _ (omega arith) refl) (omega (arith, next))
        (stays answer_place (omega arith)) (stays (spare_place m.adts types) (omega arith))

text_goes : (m : typed.Module) (b : Base m) (into a : ℕ) → InstrGoes m (instr into a)
text_goes m b into a k i x p q ready here =
    single m b i p q k x ready (λ known_now w v r hold worlds.
    let is = r.stands.is in
    let in_code = code_here m known_now i v p q r (instr into a) here in
    let found = finds m is.function p.frame.pc is.known (instr into a) r.stands.goes in_code in
    let named = uses m known_now i v [] p.frame q.frame is p.frame.pc (instr into a) in_code in
    let these = subst (AreThese is.known (a ∷ [])) found.2.0.0 found.1 in
    let big = big_is m known_now i v [] p.frame q.frame is is.function refl a named.1.0 (λ e. e) these.0 in
    let s = number_text big.number in
    let to = reference_place m.adts (types_of m is.function) into in
    let source = behind (reference_place m.adts (types_of m is.function) a) 0 in
    let it = inst op.Cvtlc source middle.None (own to) in
    let rest = (at_rest m known_now i v p q r into named.0 found.3).0 in
    let leads = (spots_lead.own v q to).0 in
    let stored = (results_go.block v q (own to) q.frame.words to leads rest.0 (Text s) rest.1).0 in
    let others = with_word q.frame.words to (Refer (Some (next_serial v))) in
    let world = with_block v (Text s) in
    let step = steps_obey.stores frames_limit (object_of m ∷ []) v q (object_of m) it world leads.place others _
    (first m b known_now i w v p q r hold worlds (instr into a) here it refl)
    ((strings_come frames_limit (object_of m) v q).convert.of_big source (own to) middle.None big.number
    (record { words = q.frame.words; byte = to; leads = leads; old = rest.0; stands = rest.1 })
    (big_source m known_now i v p q w hold worlds [] is is.function refl a big))
    (stores_behind v q (Text s) leads.place others _ ((spots_lead.own v q to).1 others)) in
    let after = ready_then m b into a known_now i w v p q r hold worlds here named.0 found.3 s (big_string big.number big.range) stored in
    let same = alike m known_now i w v worlds s in
    let t = at_words m known_now i v p q r (suc q.frame.pc) others in
    stepped (sides m) (place m) (λ l z r t. (sides m).ready l i z r t) known_now _ i w v world p q t step (changes m known_now i w v worlds s) w _
    (ap (code.next frames_limit (program m) w p) here
    ∙ ap (λ (l : Slot). code.goes_on w p (core.put p.frame.slots into
    (Holds (fitted m.adts ty.Chars (value.Chars (number_text (number_of (core.value_of l)))))))) big.holds)
    same
    (after, b.holds_again _ i w world _ t after same (b.there_again v world q t step worlds.0.closed (λ c h. hold.same.live c (hold.same.roots c h)))))

pub big_texts_go : BigTextsGo
big_texts_go m b t into from k i x p q ready here =
    let it = Give t (Operate (NumberText Big)) into from in
    let r = ready.0 in
    let known = r.stands.is.known in
    let found = finds m r.stands.is.function p.frame.pc known it r.stands.goes (code_here m k i x p q r it here) in
    let slot = one_slot known from ty.Big (subst (AreThese known from) found.2.0.0 found.1) in
    text_goes m b into slot.0 k i x p q ready
    (here ∙ ap (λ (v : Ty). Some (Give v (Operate (NumberText Big)) into from)) found.2.0.1
    ∙ ap (λ (rs : List ℕ). Some (Give ty.Chars (Operate (NumberText Big)) into rs)) slot.1)
