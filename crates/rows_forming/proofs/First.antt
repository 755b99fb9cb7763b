-- The first operand: a record is made, with the number of its variant, and the operand moves there.
use Rattle.std.proofs.Common.{◌≡◌, ℕ, suc, pos, ◌<◌, List, [], ◌∷◌, length, Option, Some, refl, sym, ap}
use Rattle.std.proofs.Common.{subst, ◌∙◌, arith, inl}
use Rattle.std.specs.Prelude.{slice_get}
use Rattle.limbo_types.specs.Types as ty
use Rattle.limbo_types.specs.Types.{Ty}
use Rattle.limbo_layout.specs.Adts.{Def}
use Rattle.limbo_layout.specs.Layout.{Laid}
use Rattle.limbo_typed.specs.Typed as typed
use Rattle.limbo_typed.specs.Fitting.{HasPart}
use Rattle.limbo_kept.specs.Operating.{HasRoom}
use Rattle.limbo_meaning.specs.Process.{Shared}
use Rattle.limbo_meaning.specs.Values.{zero_of}
use Rattle.core_code.specs.Machine as code
use Rattle.core_code.specs.Slots as core
use Rattle.core_code.specs.Slots.{Slot, slot_names}
use Rattle.core_code.proofs.Rounds.{rounds_give_rooms}
use Rattle.core_typing.specs.Held as held
use Rattle.core_typing.specs.Held.{Held, Of, Decided, Turns, Forming, type_held, with_operand}
use Rattle.core_typing.specs.Needs.{StandsAs, IsClean}
use Rattle.dis_meaning.specs.Words.{word_at}
use Rattle.dis_meaning.specs.Process.{Process}
use Rattle.dis_memory.specs.Blocks.{World, next_serial}
use Rattle.value_words.specs.Facts.{Facts}
use Rattle.value_frames.specs.Forming.{begun}
use Rattle.value_frames.specs.Frames.{number_place, reference_place, spare_place, room_for}
use Rattle.value_code.specs.Data.{OfRecord}
use Rattle.value_code.specs.Objects.{of_function, type_number, size_at}
use Rattle.value_code.proofs.Having.{objects_have}
use Rattle.value_follows.specs.Stands.{types_of, place_of, Awaited, Ready}
use Rattle.value_follows.specs.Sides.{sides, HoldTheSame}
use Rattle.value_follows.specs.Rows.{Base, RowGoes}
use Rattle.value_follows.proofs.Slots.{slot_is, uses}
use Rattle.value_follows.proofs.Standing.{finds, code_here}
use Rattle.value_follows.proofs.Jumps.{row as row_at}
use Rattle.value_follows.proofs.Several.{Next}
use Rattle.rows_forming.specs.Rows.{IsAptFirst}
use Rattle.rows_forming.proofs.Builds.{Builds, builds_hold, builds_way}
use Rattle.rows_forming.proofs.New.{new_alike, new_changes}
use Rattle.rows_forming.proofs.Placing.{instr, Task, steps_silently, further}
use Rattle.rows_forming.proofs.Putting.{part_type}
use Rattle.rows_forming.proofs.SoFar.{so_far, none_so_far}
use Rattle.rows_forming.proofs.Starting.{names_none, no_operands, new_words, new_bare, builds_then, stored_there, goes_new, world_then, facts_then, process_then}

-- nothing is there yet
begins : (h : Held) (t : Ty) (variant : Option ℕ) (part : ℕ) (u : Ty) (ms : List ℕ) → IsClean h
    → with_operand t variant part u ms h ≡ Forming t variant (part ∷ []) (u ∷ []) ms
begins (Of y live) t variant part u ms clean = refl
begins (Decided b) t variant part u ms clean = refl
begins (Turns gs) t variant part u ms clean = refl
begins (Forming y v ks us live) t variant part u ms clean = elim clean [ ]

pub laid_so : (defs : List Def) (t : Ty) → HasRoom defs t → Laid defs t (room_for defs t)
laid_so defs t room = subst (Laid defs t) (sym (rounds_give_rooms.rooms defs t room.0 room.1)) room.1

module _ (m : typed.Module) (t : Ty) (variant : Option ℕ) (part into from : ℕ) (b : Base m) (i : ℕ) (p : code.Process)
    (here : slice_get p.frame.code p.frame.pc ≡ Some (instr m t variant 0 part into from)) where
  -- What is found where two are ready.
  pub record Found_so (k : Facts) (x : World) (q : Process) (ready : Ready m k i x p q) : Type 0 where
    pub task : Task m t variant 0 part into from ready.stands.is.known p
    pub value_so : so_far m.adts t variant task.ks task.vs ≡ begun m.adts t variant
    pub clean : IsClean (held.slot ready.stands.is.known into)
    pub few : into < length p.frame.slots
    pub laid : Laid m.adts t (room_for m.adts t)

  module _ (k : Facts) (x : World) (q : Process) (ready : Ready m k i x p q) (apt : IsAptFirst m ready.stands.is.known t part into from) where
    abbrev known : held.Slots
    known = ready.stands.is.known

    abbrev f : typed.Function
    f = ready.stands.is.function

    pub found_so : Found_so k x q ready
    found_so =
        let in_code = code_here m k i x p q ready (instr m t variant 0 part into from) here in
        let found = finds m f p.frame.pc known (instr m t variant 0 part into from) ready.stands.goes in_code in
        let named = uses m k i x [] p.frame q.frame ready.stands.is p.frame.pc (instr m t variant 0 part into from) in_code in
        go found.0 found.1 found.2 found.3.0 found.3.1 found.3.2 found.4
        apt.0 named
      where
        go : (u : Ty) → type_held (held.slot known from) ≡ Some u → HasRoom m.adts t → (w : Ty) → HasPart m.adts t part w → StandsAs u w
            → (from ≡ into → ⊥) → IsClean (held.slot known into) → (into < length p.frame.slots) × (from < length p.frame.slots)
            → Found_so k x q ready
        go u e room w has fits apart clean named =
            let n_at = number_place m.adts (types_of m f) into in
            let r_at = reference_place m.adts (types_of m f) into in
            let stands = slot_is m k i x [] p.frame q.frame ready.stands.is into named.0 (λ e. e) in
            let same = (part_type m.adts t part w ty.Nothing has).1 in
            record {
              task = record {
                type = u;
                type_is = e;
                has = subst (HasPart m.adts t part) (sym same) has;
                fits = subst (StandsAs u) (sym same) fits;
                safe = apt.1 u e;
                apart = apart;
                few = named.0;
                below = named.1;
                ks = [];
                us = [];
                live = [];
                vs = [];
                so = none_so_far m.adts t variant;
                new = λ h. h;
                values = no_operands m.adts k x q.frame.serial q.frame.words n_at r_at (held.slot known into) (core.slot p.frame.slots into)
                    (ready.stands.is.words.own into) clean stands;
                named = λ n l. absurd (let z = names_none m.adts k x q.frame.serial q.frame.words n_at r_at (held.slot known into)
                    (core.slot p.frame.slots into) (ready.stands.is.words.own into) clean stands n in omega (arith, l, z));
                puts = λ ms. begins (held.slot known into) t variant part u ms clean;
              };
              value_so = refl;
              clean = clean;
              few = named.0;
              laid = laid_so m.adts t room;
            }

  -- ---- the record is made

  module _ (k : Facts) (x : World) (q : Process) (ready : Ready m k i x p q) where
    abbrev pub number : ℕ
    number = ready.stands.is.number

    abbrev pub fun : typed.Function
    fun = ready.stands.is.function

    -- From where the record is there the process goes on so.
    abbrev pub GoesOnSo : ℕ → Type 0
    GoesOnSo n =
        (box : ℕ) (r : Process) (now : Facts) (v : Shared) (y : World)
        → Builds m number fun t into 1 box (new_words m.adts t) (zero_of m.adts t) ready.stands.is.known now i y p r → HoldTheSame m now i y p r
        → (sides m).worlds now v y → Next m b i p n now v y r

    pub starts : (n : ℕ) → IsClean (held.slot ready.stands.is.known into) → into < length p.frame.slots → Laid m.adts t (room_for m.adts t)
        → 1 < size_at m fun.of.answer (of_function m fun) p.frame.pc (Some (instr m t variant 0 part into from)) → HoldTheSame m k i x p q
        → GoesOnSo n → RowGoes m k i x p q
    starts n clean few laid long hold rest = (
      suc n,
      (
        hold,
        λ now y w left hold' worlds.
            let later = b.stands_later k now i x y [] Awaited p q ready.stands left hold' in
            let same = later.1 in
            let it = instr m t variant 0 part into from in
            let r : Ready m now i y p q = record {
              stands = later.0;
              pc = ready.pc
                  ∙ ap (λ (n : ℕ). place_of m n fun p.frame.pc) (sym same.number)
                  ∙ ap (λ (f : typed.Function). place_of m later.0.is.number f p.frame.pc) (sym same.function);
              spare = ap (λ (f : typed.Function). word_at q.frame.words (pos (spare_place m.adts (types_of m f)))) same.function ∙ ready.spare;
              none_made = ready.none_made;
            } in
            let in_code = code_here m now i y p q r it here in
            let clean_now = subst (λ (ks : held.Slots). IsClean (held.slot ks into)) (sym same.known) clean in
            let row = row_at m b now i w y p q r hold' worlds it here in
            let type = type_number m (OfRecord t) in
            let typed_so = objects_have.types m later.0.is.number later.0.is.function p.frame.pc it (OfRecord t) later.0.is.there in_code (inl refl) in
            let stored = stored_there m b now i w y p q r hold' worlds it here t laid into few clean_now type typed_so in
            let step = goes_new m b now i w y p q r hold' worlds it here t laid into few clean_now type typed_so refl in
            let built = builds_then m b now i w y p q r hold' worlds it here t laid into few clean_now stored in
            let facts = facts_then m b now i w y p q r hold' worlds it here t laid into few clean_now in
            let world = world_then m b now i w y p q r hold' worlds it here t laid into few clean_now in
            let u = process_then m b now i w y p q r hold' worlds it here t laid into few clean_now in
            let there = subst (λ (f : typed.Function). slice_get m.functions number ≡ Some f) refl ready.stands.is.there in
            let code_is = code_here m k i x p q ready it here in
            let s : Builds m number fun t into 1 (next_serial y) (new_words m.adts t) (zero_of m.adts t) ready.stands.is.known facts i world p u =
            subst (λ (ks : held.Slots). Builds m number fun t into 1 (next_serial y) (new_words m.adts t) (zero_of m.adts t) ks facts i world p u) same.known
            (subst (λ (f : typed.Function). Builds m number f t into 1 (next_serial y) (new_words m.adts t) (zero_of m.adts t) later.0.is.known facts i world p u)
            same.function
            (subst (λ (n : ℕ). Builds m n later.0.is.function t into 1 (next_serial y) (new_words m.adts t) (zero_of m.adts t) later.0.is.known facts i world p u)
            same.number built)) in
            let alike = new_alike m i now w y worlds q.frame.serial (new_words m.adts t) (new_bare m.adts t) in
            let live = b.there_again y world q u step worlds.0.closed (λ c h. hold'.same.live c (hold'.same.roots c h)) in
            steps_silently m b i p (suc n) now facts w y world q u step
            (new_changes m i now w y worlds q.frame.serial (new_words m.adts t) (new_bare m.adts t)) alike
            (further m b i p number fun it there code_is refl 0 q u long
            (let e = ready.pc in omega (arith, e)) s.pc)
            (builds_way m number fun t into b n 1 (next_serial y) (new_words m.adts t) (zero_of m.adts t) ready.stands.is.known i p u facts world s
            (builds_hold m number fun t into b 1 (next_serial y) (new_words m.adts t) (zero_of m.adts t) ready.stands.is.known i p u facts world s w alike live)
            (λ then v z s' h e. rest (next_serial y) u then v z s' h e)),
      ),
    )
