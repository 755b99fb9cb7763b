-- The other process steps: the slot from which the part comes has the new record, without it, and the other slot has the part.
use Rattle.std.proofs.Common.{◌≡◌, ℕ, suc, pos, ◌+◌, ◌<◌, Bool, true, false, List, [], ◌∷◌, Option, Some}
use Rattle.std.proofs.Common.{refl, sym, ap, ◌∙◌, subst, arith, inl, inr, if◌then◌else◌}
use Rattle.std.specs.Prelude.{slice_get, slice_index_or, nat_eq}
use Rattle.std.proofs.lemmas.Bool.Decides.{eqb_tells}
use Rattle.process_model.specs.Process.{Went}
use Rattle.process_ways.specs.Ways.{Does, Way}
use Rattle.process_ways.proofs.On.{stepped}
use Rattle.system_model.specs.Limits.{frames_limit}
use Rattle.heap_model.specs.Facts.{Fact, IsInner, IsFree}
use Rattle.heap_model.proofs.Growing.{grows_same}
use Rattle.limbo_types.specs.Types as ty
use Rattle.limbo_types.specs.Types.{Ty}
use Rattle.limbo_layout.specs.Adts.{Has}
use Rattle.limbo_typed.specs.Typed as typed
use Rattle.limbo_meaning.specs.Process.{Shared}
use Rattle.limbo_meaning.specs.Values.{Value, Parts, parts_of, fitted, nothing}
use Rattle.limbo_meaning.specs.Places.{put_part, value_part}
use Rattle.core_code.specs.Terms.{part_types}
use Rattle.core_code.specs.Code.{Instr}
use Rattle.core_code.specs.Machine as code
use Rattle.core_code.specs.Slots as core
use Rattle.core_code.specs.Slots.{Holds}
use Rattle.core_follows.proofs.Slots.{put_same, put_other}
use Rattle.core_typing.specs.Held as held
use Rattle.core_typing.specs.Held.{Held, Of, type_held, live_in, left_by}
use Rattle.core_typing.specs.Going.{out_of}
use Rattle.dis_isa.specs.declared.inst.Middle.TheVariants as middle
use Rattle.dis_isa.specs.declared.op.Op.TheVariants as op
use Rattle.dis_meaning.specs.Words.{Word, Refer, Found, word_at}
use Rattle.dis_meaning.specs.Process.{Process}
use Rattle.dis_memory.specs.Blocks.{Block, Record, World}
use Rattle.value_words.specs.Facts.{Facts}
use Rattle.value_roots.specs.Accounts.{Accounted, to_value, to_inner}
use Rattle.value_frames.specs.Frames.{number_place, reference_place, spare_place}
use Rattle.value_frames.specs.Standing.{WordsAre, SlotStands, NamesOnly}
use Rattle.value_frames.specs.Slots.{OneSlotChanged}
use Rattle.value_frames.proofs.Slots.{slots_change, put_long}
use Rattle.value_frames.proofs.Later.{frames_later}
use Rattle.value_moves.specs.Operands.{Code, inst, own}
use Rattle.value_moves.proofs.Changing.{low_or_high}
use Rattle.value_code.specs.Data.{nil_word}
use Rattle.value_code.specs.Objects.{object_of}
use Rattle.value_code.specs.Code.{Site}
use Rattle.value_follows.specs.Stands.{types_of, place_of, Awaited, GoesOn}
use Rattle.value_follows.specs.Sides.{sides, HoldTheSame, program}
use Rattle.value_follows.specs.Rows.{Base, place}
use Rattle.value_follows.proofs.Standing.{StandsOn, goes_behind}
use Rattle.value_follows.proofs.RootedValues.{has_at, each_accounted}
use Rattle.value_follows.proofs.Waiting.{stands_anew}
use Rattle.rows_dropping.proofs.Spare.{OnWay, Changed, keeps_others}
use Rattle.rows_dropping.proofs.Making.{told_worlds, told_changes, told_so}
use Rattle.rows_dropping.proofs.Boxes.{boxes_cover, boxes_later}
use Rattle.rows_dropping.proofs.Boxed.{BoxIs, named_by_process}
use Rattle.rows_dropping.proofs.Back.{facts_back, process_back, back_steps, back_change, back_told, back_spare, back_answer, back_slot, back_own, back_word}
use Rattle.rows_dropping.proofs.Steps.{size, row, in_code, place_next, rank_behind}
use Rattle.rows_dropping.proofs.Tidying.{Tidies, tidies_way, tidies_hold}
use Rattle.rows_dropping.proofs.Taking.{moves, names_taken, names_left}
use Rattle.rows_dropping.proofs.Got.{BothGot, got_on}
use Rattle.rows_dropping.proofs.Stages.{Stage, Rest, Leads, long_here, stands_here, reaches_here}
use Rattle.rows_dropping.proofs.Picking.{Picks, instr, u, from_idle, Has_of, both_got}
use Rattle.rows_dropping.proofs.PickInto.{box, known_here}
use Rattle.rows_dropping.proofs.PickZero.{left}

-- ---- of two slots neither is busy any more

with_test : (from into : ℕ) (c : Bool) → nat_eq from into ≡ c → (into ≡ from → ⊥) → (d : Bool) → nat_eq into into ≡ d
    → held.without into (if c then [] else into ∷ []) ≡ []
with_test from into true e apart d g = refl
with_test from into false e apart true g = ap (λ (c : Bool). if c then [] else into ∷ []) g
with_test from into false e apart false g =
    elim (eqb_tells into into) [
      | inl y ↦ ap (λ (c : Bool). if c then [] else into ∷ []) y.0
      | inr y ↦ absurd (y.1 refl)
    ]

none_busy : (from into : ℕ) → (into ≡ from → ⊥) → held.without into (held.without from (into ∷ [])) ≡ []
none_busy from into apart = with_test from into (nat_eq from into) refl apart (nat_eq into into) refl

module _ (m : typed.Module) (b : Base m) (i : ℕ) (p : code.Process) (t : Ty) (n into from : ℕ) (known : held.Slots) (a : Picks m p t n into from known) where
  abbrev pub the_instr : Instr
  the_instr = instr m b i p t n into from known a

  abbrev pub part : Value
  part = u m b i p t n into from known a

  abbrev pub type_so : slice_index_or (part_types m.adts a.whole) n ty.Nothing ≡ t
  type_so = a.ends

  -- which references the two have
  abbrev pub part_live : List ℕ
  part_live = held.moved (moves m.adts a.whole a.values n from into t type_so a.taken a.live a.names) a.live

  abbrev pub left_live : List ℕ
  left_live = held.staying (moves m.adts a.whole a.values n from into t type_so a.taken a.live a.names) a.live

  pub part_names : NamesOnly part_live part
  part_names = names_taken m.adts a.whole a.values n from into t type_so a.taken a.live a.names

  abbrev pub left_value : Value
  left_value = left m b i p t n into from known a part_live

  left_names : NamesOnly left_live left_value
  left_names = names_left m.adts a.whole a.values n from into t type_so a.taken a.live a.names

  abbrev pub Has_left : Facts → List Word → Type 0
  Has_left = Has_of m b i p t n into from known a a.whole left_value

  abbrev State : ℕ → Facts → World → Process → Type 0
  State far k x q = BothGot m i p into t part_live part Has_left known far k x q

  abbrev pub last_two : Site → Code
  last_two c =
      inst op.Movp (own (spare_place c.scene.adts c.scene.variables)) middle.None (own (reference_place c.scene.adts c.scene.variables from))
      ∷ inst op.Movp nil_word middle.None (own (spare_place c.scene.adts c.scene.variables)) ∷ []

  abbrev pub stage : Stage m b i p the_instr a.here known (into ∷ []) from a.whole
  stage = both_got m b i p t n into from known a part_live Has_left (λ k now ws g h. boxes_later m.adts a.whole k now ws left_value g h)

  module _ (far : ℕ) (rest : Rest m b i p the_instr a.here known (into ∷ []) from a.whole far last_two) (k : Facts) (w : Shared) (x : World) (q : Process)
      (s : State far k x q) (hold : HoldTheSame m k i x p q) (worlds : (sides m).worlds k w x) where
    abbrev way : OnWay m i p known (into ∷ []) far k x q
    way = s.spares.way

    abbrev f : typed.Function
    f = way.stands.is.function

    abbrev box_here : BoxIs m k i w x p q (into ∷ []) way.stands.is hold worlds from a.below_from (from_idle m b i p t n into from known a) a.whole a.form
        (known_here m b i p t n into from known a far k x q way w hold worlds)
    box_here = box m b i p t n into from known a far k x q way w hold worlds

    abbrev old : (o : Option ℕ) × (word_at q.frame.words (pos (reference_place m.adts (types_of m f) from)) ≡ Found (Refer o))
    old = (Some box_here.block, box_here.word)

    abbrev then_facts : Facts
    then_facts =
        facts_back m i p known (into ∷ []) far k w x q way worlds a.whole a.form left_value s.spares.mine from a.below_from old left_live left_names

    abbrev then_process : Process
    then_process =
        process_back m i p known (into ∷ []) far k w x q way worlds a.whole a.form left_value s.spares.mine from a.below_from old left_live left_names

    abbrev slots_one : core.Slots
    slots_one = core.put p.frame.slots from (Holds left_value)

    abbrev then_slots : core.Slots
    then_slots = core.put slots_one into (Holds part)

    abbrev then_source : code.Process
    then_source = code.with_frames p (code.at p.frame (suc p.frame.pc) p.frame.variables then_slots) p.below

    abbrev known_one : held.Slots
    known_one = held.put way.stands.is.known from (Of a.whole left_live)

    abbrev then_known : held.Slots
    then_known = held.put known_one into (Of t part_live)

    known_from : held.slot way.stands.is.known from ≡ Of a.whole a.live
    known_from = ap (λ (h : held.Slots). held.slot h from) way.known_so ∙ a.live_so

    source_steps : (sides m).program.step w p ≡ Went w then_source
    source_steps =
        ap (code.next frames_limit (program m) w p) a.here
        ∙ ap (λ (l : core.Slot). code.goes_on w p (core.put (core.put p.frame.slots from (Holds (Parts (put_part n (fitted m.adts t nothing)
        (parts_of (core.value_of l)))))) into (Holds (fitted m.adts t (value_part n (parts_of (core.value_of l))))))) a.holds_so
        ∙ ap (λ (y : Value). code.goes_on w p (core.put slots_one into (Holds y))) (sym a.fits)

    goes_then : GoesOn m f (suc p.frame.pc) then_known
    goes_then =
        subst (λ h. GoesOn m f (suc p.frame.pc) (held.put (held.put way.stands.is.known from (left_by (out_of m.adts (type_held h) n from into) h)) into
        (Of t (held.moved (out_of m.adts (type_held h) n from into) (live_in h))))) known_from
        (goes_behind m f p.frame.pc way.stands.is.known the_instr way.stands.goes
        (in_code m b i p the_instr a.here known (into ∷ []) far k x q way) 0 (suc p.frame.pc) _ (omega arith) refl)

    abbrev change : Changed m i p way.stands.is.words.own q.frame.serial s.spares.mine.block k then_facts x x
    change =
        back_change m i p known (into ∷ []) far k w x q way worlds a.whole a.form left_value s.spares.mine from a.below_from old left_live left_names

    abbrev first_slot : OneSlotChanged m.adts k then_facts x.heap x.heap q.frame.serial (into ∷ []) (types_of m f) way.stands.is.known p.frame.variables
        p.frame.slots q.frame.words then_process.frame.words way.stands.is.words from (Of a.whole left_live) (Holds left_value) []
    first_slot =
        back_slot m i p known (into ∷ []) far k w x q way worlds a.whole a.form left_value s.spares.mine from a.below_from old left_live left_names

    -- the other slot stands for the part still
    got_still : SlotStands m.adts then_facts x.heap q.frame.serial then_process.frame.words (number_place m.adts (types_of m f) into)
        (reference_place m.adts (types_of m f) into) (Of t part_live) (Holds part) []
    got_still =
        got_on m i p into t part_live part f k then_facts x x q then_process refl change.grows
        (λ c h.
        let low = h.0 in
        let high = h.1 in
        back_word m i p known (into ∷ []) far k w x q way worlds a.whole a.form left_value s.spares.mine from a.below_from old left_live left_names c
        (elim (low_or_high into from) [
          | inl less ↦ inl (omega (arith, low, high, less))
          | inr more ↦ elim (low_or_high from into) [
            | inl less ↦ inr (omega (arith, low, high, less))
            | inr same ↦ absurd (a.apart (omega (arith, more, same)))
          ]
        ])) s.got

    abbrev second_slot : OneSlotChanged m.adts then_facts then_facts x.heap x.heap q.frame.serial (held.without from (into ∷ [])) (types_of m f) known_one
        p.frame.variables slots_one then_process.frame.words then_process.frame.words first_slot.after into (Of t part_live) (Holds part) []
    second_slot =
        let owned = (frames_later m.adts then_facts x.heap q.frame.serial (held.without from (into ∷ [])) (types_of m f) known_one p.frame.variables
        slots_one then_process.frame.words first_slot.after).owned in
        let long = put_long p.frame.slots from (Holds left_value) in
        let below = a.below_into in
        slots_change.slot m.adts then_facts then_facts x.heap x.heap q.frame.serial (held.without from (into ∷ [])) (types_of m f) known_one
        p.frame.variables slots_one then_process.frame.words then_process.frame.words into (Of t part_live) (Holds part) [] first_slot.after
        (grows_same then_facts) (omega (arith, long, below)) (record { each = λ c h. refl })
        first_slot.after.kind got_still tt (λ r c ne h. (λ e. e, ((owned r c h).0, refl)))

    words_then : (after : WordsAre m.adts then_facts x.heap q.frame.serial [] (types_of m f) then_known p.frame.variables then_slots then_process.frame.words)
        × ((r c : ℕ) → Has (after.own r) c → Has (way.stands.is.words.own r) c)
    words_then =
        subst (λ busy. (after : WordsAre m.adts then_facts x.heap q.frame.serial busy (types_of m f) then_known p.frame.variables then_slots
        then_process.frame.words) × ((r c : ℕ) → Has (after.own r) c → Has (way.stands.is.words.own r) c)) (none_busy from into a.apart) (
          second_slot.after,
          λ r c h.
              back_own m i p known (into ∷ []) far k w x q way worlds a.whole a.form left_value s.spares.mine from a.below_from old left_live left_names r c
              (elim (low_or_high r into) [
                | inl low ↦ subst (λ o. Has o c) (second_slot.elsewhere r (λ e. omega (arith, e, low))) h
                | inr high ↦ elim (low_or_high into r) [
                  | inl more ↦ subst (λ o. Has o c) (second_slot.elsewhere r (λ e. omega (arith, e, more))) h
                  | inr less ↦
                      let same : r ≡ into = omega (arith, high, less) in
                      absurd (subst (λ o. Has o c) (ap second_slot.after.own same ∙ second_slot.here) h)
                ]
              ]),
        )

    anew : StandsOn m k i x (into ∷ []) Awaited p q way.stands then_facts x [] then_known words_then.0.own then_source then_process
    anew =
        let one = put_long p.frame.slots from (Holds left_value) in
        let two = put_long slots_one into (Holds part) in
        stands_anew m k then_facts i x x (into ∷ []) Awaited p q way.stands change.grows (omega arith)
        (keeps_others m i p known (into ∷ []) far k then_facts x x q way s.spares.mine.block change) [] (suc p.frame.pc) (suc q.frame.pc)
        then_known p.frame.variables then_slots then_process.frame.words q.made (omega (arith, one, two)) words_then.0
        (λ r c h. change.grows.makers c i (way.stands.is.mine r c (words_then.1 r c h))) goes_then
        (back_answer m i p known (into ∷ []) far k w x q way worlds a.whole a.form left_value s.spares.mine from a.below_from old left_live left_names)

    abbrev size_here : ℕ
    size_here = size m b i p the_instr a.here known (into ∷ []) far k x q way

    long : size_here ≡ far + 2
    long = long_here m b i p the_instr a.here known (into ∷ []) from a.whole stage last_two far rest k x q s

    after_it : slice_get (object_of m).insts (suc q.frame.pc) ≡ Some (inst op.Movp nil_word middle.None (own (spare_place m.adts (types_of m f))))
    after_it =
        let there = row m b i p the_instr a.here known (into ∷ []) far k x q way w hold worlds in
        let at = way.pc in
        ap (slice_get (object_of m).insts) (let e : suc q.frame.pc ≡ place_of m way.stands.is.number f p.frame.pc + (far + 1) = omega (arith, at) in e)
        ∙ there.insts (far + 1) (inst op.Movp nil_word middle.None (own (spare_place m.adts (types_of m f))))
        (stands_here m b i p the_instr a.here known (into ∷ []) from a.whole stage last_two far rest k x q s w hold worlds 1)

    tidies : Tidies m i then_source then_facts x then_process
    tidies =
        let same = sym anew.function in
        let next = place_next m b i p the_instr a.here known (into ∷ []) far k x q way in
        let size_so = long in
        let at = way.pc in
        record {
          stands = anew.stands;
          none_made = way.none_made;
          pc = subst (λ g. suc (suc q.frame.pc) ≡ place_of m anew.stands.is.number g (suc p.frame.pc)) same
              (subst (λ y. suc (suc q.frame.pc) ≡ place_of m y f (suc p.frame.pc)) (sym anew.number) (omega (arith, next, size_so, at)));
          refers = (
            Some s.spares.mine.block,
            subst (λ g. word_at then_process.frame.words (pos (spare_place m.adts (types_of m g))) ≡ Found (Refer (Some s.spares.mine.block))) same
                (back_spare m i p known (into ∷ []) far k w x q way worlds a.whole a.form left_value s.spares.mine from a.below_from old left_live left_names),
          );
          here = subst (λ g. slice_get (object_of m).insts (suc q.frame.pc)
              ≡ Some (inst op.Movp nil_word middle.None (own (spare_place m.adts (types_of m g))))) same after_it;
          low = rank_behind m b i p the_instr a.here known (into ∷ []) far k x q way then_process (omega (arith, at)) (omega (arith, size_so)) refl;
        }

    goes_here : (sides m).code.step x q ≡ Went x then_process
    goes_here =
        back_steps m i p known (into ∷ []) far k w x q way worlds a.whole a.form left_value s.spares.mine from a.below_from old left_live left_names
        (reaches_here m b i p the_instr a.here known (into ∷ []) from a.whole stage last_two far rest k x q s w hold worlds _ refl)

    abbrev named : ℕ → Type 0
    named c = 0 < code.process_names p c

    worlds_then : (sides m).worlds then_facts w x
    worlds_then =
        told_worlds m i k w x s.spares.mine.block s.spares.mine.inner worlds s.spares.mine.there s.spares.mine.unknown s.spares.mine.made named
        s.spares.mine.covered

    from_then : core.slot then_slots from ≡ Holds left_value
    from_then =
        put_other slots_one into from (Holds part) (λ e. a.apart (sym e)) ∙ put_same p.frame.slots from (Holds left_value) a.below_from

    inner_then : Accounted then_facts i x.heap (code.process_names then_source) (Refer (Some s.spares.mine.block))
    inner_then =
        let told = told_so m i k w x s.spares.mine.block s.spares.mine.inner worlds s.spares.mine.there s.spares.mine.unknown s.spares.mine.made named
        s.spares.mine.covered in
        to_inner s.spares.mine.block (Record s.spares.mine.inner) (subst (λ (o : Option (Fact Block)). IsInner o) (sym told) tt) s.spares.mine.there
        (λ free. absurd (subst (λ (o : Option (Fact Block)). IsFree o) told free))
        (each_accounted then_facts i x.heap (code.process_names then_source) s.spares.mine.inner (λ j d e.
        to_value d (boxes_cover m.adts a.whole a.laid then_facts s.spares.mine.inner left_value (code.process_names then_source)
        (named_by_process then_source from left_value from_then)
        (back_told m i p known (into ∷ []) far k w x q way worlds a.whole a.form left_value s.spares.mine from a.below_from old left_live left_names)
        d (has_at s.spares.mine.inner j (Refer (Some d)) e))))

    same_reference : (ws : List Word) (at : ℕ) (y o : Option ℕ) → word_at ws (pos at) ≡ Found (Refer y) → word_at ws (pos at) ≡ Found (Refer o) → y ≡ o
    same_reference ws at y o e g = let z : Found (Refer y) ≡ Found (Refer o) = sym e ∙ g in cc

    steps_here : Does (sides m) (place m) (λ l z r y. Way (sides m) (place m) 1 l i z r y) (place m q) k i w x p ((sides m).code.step x q)
    unfolding tidies
    steps_here =
        stepped (sides m) (place m) (λ l z r y. Way (sides m) (place m) 1 l i z r y) k then_facts i w x x p q then_process goes_here
        (told_changes m i k w x s.spares.mine.block s.spares.mine.inner worlds s.spares.mine.there s.spares.mine.unknown s.spares.mine.made named
        s.spares.mine.covered)
        w then_source source_steps worlds_then
        (tidies_way m i then_source b then_facts x then_process tidies
        (tidies_hold m i then_source b then_facts w x then_process tidies worlds_then
        (b.there_again x x q then_process goes_here worlds.0.closed (λ c h. hold.same.live c (hold.same.roots c h)))
        (λ o e. subst (λ y. Accounted then_facts i x.heap (code.process_names then_source) (Refer y))
        (same_reference then_process.frame.words (spare_place m.adts (types_of m tidies.stands.is.function)) (Some s.spares.mine.block) o tidies.refers.1 e)
        inner_then)))

  pub ends : Leads m b i p the_instr a.here known (into ∷ []) from a.whole stage last_two
  ends = (
    1,
    λ far rest k x q s hold. (
      hold,
      λ now y w left_so h worlds. steps_here far rest now w y q (stage.later far k now x y q s left_so h) h worlds,
    ),
  )
