-- The row of an operand that moves to what is put together, from where the record is there.
use Rattle.std.proofs.Common.{◌≡◌, ℕ, zero, suc, ◌+◌, ◌<◌, ◌&&◌, Bool, false, List, [], ◌∷◌, ◌++◌, length, Option, Some, refl}
use Rattle.std.proofs.Common.{sym, ap, subst, ◌∙◌, arith, if◌then◌else◌}
use Rattle.std.specs.Prelude.{slice_get, slice_index_or, nat_eq}
use Rattle.process_model.specs.Process.{Went}
use Rattle.process_model.specs.Follows.{Only}
use Rattle.process_ways.specs.Ways.{Way}
use Rattle.process_ways.proofs.On.{silent}
use Rattle.limbo_types.specs.Types as ty
use Rattle.limbo_types.specs.Types.{Ty}
use Rattle.limbo_layout.specs.Adts.{Has}
use Rattle.limbo_typed.specs.Typed as typed
use Rattle.limbo_typed.specs.Fitting.{HasPart}
use Rattle.limbo_meaning.specs.Process.{Shared}
use Rattle.limbo_meaning.specs.Values.{Value, references_in, among}
use Rattle.system_model.specs.Limits.{frames_limit}
use Rattle.core_code.specs.Code.{Instr, Place}
use Rattle.core_code.specs.Machine as code
use Rattle.core_code.specs.Slots as core
use Rattle.core_code.specs.Slots.{Slot, Holds, Forms}
use Rattle.core_code.specs.Terms.{part_types}
use Rattle.core_typing.specs.Held as held
use Rattle.core_typing.specs.Held.{Held, Of, Forming, type_held, with_operand, live_in, or_nothing}
use Rattle.core_typing.specs.Needs.{StandsAs}
use Rattle.core_typing.specs.Going.{into_part}
use Rattle.dis_isa.specs.declared.inst.Inst.{Inst}
use Rattle.dis_meaning.specs.Words.{Word}
use Rattle.dis_meaning.specs.Process.{Process}
use Rattle.dis_memory.specs.Blocks.{World}
use Rattle.value_words.specs.Facts.{Facts}
use Rattle.value_frames.specs.Frames.{reference_place, number_place}
use Rattle.value_frames.specs.Frames.{frame_bytes, frame_references}
use Rattle.value_frames.specs.Types.{AreOf}
use Rattle.value_frames.specs.Slots.{ElseAsWas}
use Rattle.value_frames.specs.Standing.{RefersIdly}
use Rattle.value_code.specs.Code.{Site, code_of}
use Rattle.value_code.specs.Objects.{object_of, of_function, size_at, globals}
use Rattle.number_effects.specs.Stepping.{Reaches}
use Rattle.value_follows.specs.Stands.{types_of, place_of, Ready, GoesOn}
use Rattle.value_follows.specs.Sides.{sides, HoldTheSame, program}
use Rattle.value_follows.specs.Rows.{place, Row, rank, row_of, is_tidied, Base, RowStands, site_of}
use Rattle.value_follows.proofs.Standing.{instance_here, goes_behind}
use Rattle.value_follows.proofs.Paces.{places_are}
use Rattle.value_follows.proofs.Several.{Next, moved_to}
use Rattle.rows_forming.specs.Rows.{IsNoNilArray}
use Rattle.rows_forming.proofs.Builds.{Builds, only_one}
use Rattle.rows_forming.proofs.Closing.{closed}
use Rattle.rows_forming.proofs.Operands.{OperandIs, operand_is}
use Rattle.rows_forming.proofs.SoFar.{SoFar, so_far}

-- ---- how far a process is

rises : (r : Row) (j : ℕ) → is_tidied r.instr ≡ false → rank r j < rank r (suc j)
rises r zero e = subst (λ (b : Bool). 2 < (if b && nat_eq 2 r.size then 1 else 3)) (sym e) (omega arith)
rises r (suc j) e =
    subst (λ (b : Bool). (if b && nat_eq (suc (suc j)) r.size then 1 else 2 + suc j) < (if b && nat_eq (suc (suc (suc j))) r.size then 1 else 2 + suc (suc j)))
    (sym e) (omega arith)

module _ (m : typed.Module) (b : Base m) (i : ℕ) (p : code.Process) where
  -- the machine goes on, and the other doesn't
  pub steps_silently : (n : ℕ) (k now : Facts) (w : Shared) (x y : World) (q r : Process) → (sides m).code.step x q ≡ Went y r
      → (sides m).changes (Only i) k now x y → (sides m).worlds now w y → place m q < place m r → Way (sides m) (place m) n now i y p r
      → Next m b i p n k w x q
  steps_silently n k now w x y q r e changes worlds more way =
      silent (sides m) (place m) (λ l z s t. Way (sides m) (place m) n l i z s t) k now i w x y p q r e changes worlds more way

  -- so far behind the begin of a row of this function it is further
  module _ (number : ℕ) (f : typed.Function) (instr : Instr) (there : slice_get m.functions number ≡ Some f)
      (in_code : slice_get (of_function m f).code p.frame.pc ≡ Some instr) (plain : is_tidied instr ≡ false) where
    pub further : (j : ℕ) (q r : Process) → suc j < size_at m f.of.answer (of_function m f) p.frame.pc (Some instr)
        → q.frame.pc ≡ place_of m number f p.frame.pc + j → r.frame.pc ≡ place_of m number f p.frame.pc + suc j → place m q < place m r
    further j q r l e g =
        let here = (places_are m).ranked number f p.frame.pc instr j q there in_code (omega (arith, l)) e in
        let next = (places_are m).ranked number f p.frame.pc instr (suc j) r there in_code l g in
        let more = rises (row_of m f p.frame.pc instr) j plain in
        omega (arith, here, next, more)

-- ---- what the row has to do

module _ (m : typed.Module) (t : Ty) (variant : Option ℕ) (j part into from : ℕ) where
  abbrev pub instr : Instr
  instr = Place t variant j part into from

  abbrev pub part_ty : Ty
  part_ty = slice_index_or (part_types m.adts t) part ty.Nothing

  -- What is known of the slots, and what they have.
  pub record Task (known : held.Slots) (p : code.Process) : Type 0 where
    pub type : Ty
    pub type_is : type_held (held.slot known from) ≡ Some type
    pub has : HasPart m.adts t part part_ty
    pub fits : StandsAs type part_ty
    pub safe : IsNoNilArray type part_ty
    pub apart : from ≡ into → ⊥
    pub few : into < length p.frame.slots
    pub below : from < length p.frame.slots
    pub ks : List ℕ
    pub us : List Ty
    pub live : List ℕ
    pub vs : List Value
    pub so : SoFar m.adts t variant ks us live vs
    pub new : Has ks part → ⊥
    pub values : core.operands_of (core.slot p.frame.slots into) ≡ vs
    pub named : (n : ℕ) → 0 < core.slot_names (core.slot p.frame.slots into) n → 0 < among n (references_in vs)
    pub puts : (ms : List ℕ) → with_operand t variant part type ms (held.slot known into)
        ≡ Forming t variant (ks ++ part ∷ []) (us ++ type ∷ []) (live ++ ms)

  module _ (b : Base m) (i : ℕ) (p : code.Process) (here : slice_get p.frame.code p.frame.pc ≡ Some instr) (number : ℕ) (f : typed.Function)
      (there_is : slice_get m.functions number ≡ Some f) (in_code : slice_get (of_function m f).code p.frame.pc ≡ Some instr)
      (row : RowStands m number f p.frame.pc instr) (known : held.Slots) (task : Task known p) where
    abbrev pub site : Site
    site = site_of m number f p.frame.pc row.at

    abbrev pub size : ℕ
    size = size_at m f.of.answer (of_function m f) p.frame.pc (Some instr)

    abbrev pub first_value : Value
    first_value = so_far m.adts t variant task.ks task.vs

    abbrev pub State : (far box : ℕ) (inner : List Word) (value : Value) (q : Process) (k : Facts) (x : World) → Type 0
    State far box inner value q k x = Builds m number f t into far box inner value known k i x p q

    module _ (far box : ℕ) (inner : List Word) (value : Value) (q : Process) (k : Facts) (w : Shared) (x : World) (s : State far box inner value q k x)
        (hold : HoldTheSame m k i x p q) (worlds : (sides m).worlds k w x) where
      -- an instruction of the row is what the process does next
      pub reaches_on : (it : Inst) → slice_get (code_of site instr) far ≡ Some it → Reaches (object_of m ∷ []) x q (object_of m) it
      reaches_on it e =
          let is = instance_here m b k i w x p q (into ∷ []) s.stands.is hold worlds.0 in
          record {
            object = 0;
            words = is.0;
            instance = is.1;
            code = refl;
            here = ap (slice_get (object_of m).insts) s.pc ∙ row.insts far it e;
          }

      pub type_now : type_held (held.slot s.stands.is.known from) ≡ Some task.type
      type_now = ap (λ (ks : held.Slots). type_held (held.slot ks from)) s.known_is ∙ task.type_is

      pub idle_now : Has (into ∷ []) from → ⊥
      idle_now h = task.apart (sym (only_one into from h))

      -- the operand
      abbrev pub Operand : Type 0
      Operand = OperandIs m k i w x p q (into ∷ []) s.stands.is hold worlds (globals m) from task.below idle_now task.type part_ty type_now task.fits task.safe

      pub operand : Operand
      operand = operand_is m k i w x p q (into ∷ []) s.stands.is hold worlds (globals m) from task.below idle_now task.type part_ty type_now task.fits
          task.safe

    -- ---- the source's step, with this operand

    module _ (v : Value) (mine : List ℕ) where
      abbrev pub ks_then : List ℕ
      ks_then = task.ks ++ part ∷ []

      abbrev pub vs_then : List Value
      vs_then = task.vs ++ v ∷ []

      abbrev pub live_then : List ℕ
      live_then = task.live ++ held.moved (into_part m.adts t part into from) mine

      abbrev pub value_then : Value
      value_then = so_far m.adts t variant ks_then vs_then

      abbrev pub slots_then : core.Slots
      slots_then = core.put (core.put p.frame.slots from core.empty) into (Forms vs_then)

      pub does_place : (w : Shared) → core.slot p.frame.slots from ≡ Holds v
          → (sides m).program.step w p ≡ code.goes_on w p slots_then
      does_place w e =
          ap (code.next frames_limit (program m) w p) here
          ∙ (ap (λ (s : Slot). code.goes_on w p (core.put (core.put p.frame.slots from core.empty) into
          (Forms (core.operands_of (core.slot p.frame.slots into) ++ core.value_of s ∷ [])))) e
          ∙ ap (λ (us : List Value). code.goes_on w p (core.put (core.put p.frame.slots from core.empty) into (Forms (us ++ v ∷ [])))) task.values)

      abbrev pub known_then : held.Slots
      known_then = held.put (held.put known from held.empty) into (Forming t variant ks_then (task.us ++ task.type ∷ []) live_then)

      pub goes_then : (g : typed.Function) → GoesOn m g p.frame.pc known → slice_get (of_function m g).code p.frame.pc ≡ Some instr
          → held.slot known from ≡ Of task.type mine → GoesOn m g (suc p.frame.pc) known_then
      goes_then g goes code_is e =
          subst (λ (h : Held). GoesOn m g (suc p.frame.pc) (held.put (held.put known from held.empty) into h))
          (task.puts (held.moved (into_part m.adts t part into from) mine))
          (subst (λ (h : Held). GoesOn m g (suc p.frame.pc) (held.put (held.put known from held.empty) into
          (with_operand t variant part (or_nothing (type_held h)) (held.moved (into_part m.adts t part into from) (live_in h)) (held.slot known into)))) e
          (goes_behind m g p.frame.pc known instr goes code_is 0 (suc p.frame.pc) (held.put (held.put known from held.empty) into
          (with_operand t variant part (or_nothing (type_held (held.slot known from)))
          (held.moved (into_part m.adts t part into from) (live_in (held.slot known from))) (held.slot known into)))
          (omega arith) refl))

    -- ---- the end of the row, from where the operand is there

    module _ (v : Value) (mine : List ℕ) (far box : ℕ) (inner : List Word) (q : Process) (k : Facts) (x : World)
        (s : State far box inner (value_then v mine) q k x)
        (w : Shared) (worlds : (sides m).worlds k w x)
        (so : SoFar m.adts t variant (ks_then v mine) (task.us ++ task.type ∷ []) (live_then v mine) (vs_then v mine))
        (known_from : held.slot known from ≡ Of task.type mine)
        (bare : s.stands.is.words.own from ≡ []) where
      abbrev types : List Ty
      types = types_of m s.stands.is.function

      pub ready_then : (words : List Word) → ElseAsWas q.frame.words words (number_place m.adts types from) 8
          → AreOf (frame_bytes m.adts types (length p.frame.slots)) (frame_references m.adts types (length p.frame.slots)) words
          → RefersIdly m.adts k words (reference_place m.adts types from) → (to : ℕ) → to ≡ place_of m number f (suc p.frame.pc)
          → Ready m k i x (code.with_frames p (code.at p.frame (suc p.frame.pc) p.frame.variables (slots_then v mine)) p.below) (moved_to q to words)
      ready_then words else_as_was kind idle to e =
          let code_is : slice_get (of_function m s.stands.is.function).code p.frame.pc ≡ Some instr =
          subst (λ (g : typed.Function). slice_get (of_function m g).code p.frame.pc ≡ Some instr) (sym s.function_is) in_code in
          let goes = goes_then v mine s.stands.is.function
          (subst (λ (ks : held.Slots). GoesOn m s.stands.is.function p.frame.pc ks) s.known_is s.stands.goes) code_is known_from in
          closed m b number f t into far box inner known i p q k w x worlds variant (ks_then v mine) (task.us ++ task.type ∷ []) (live_then v mine)
          (vs_then v mine) s so from task.apart task.few task.below bare words else_as_was kind idle to e
          (subst (λ (ks : held.Slots). GoesOn m s.stands.is.function (suc p.frame.pc) (held.put (held.put ks from held.empty) into
          (Forming t variant (ks_then v mine) (task.us ++ task.type ∷ []) (live_then v mine)))) (sym s.known_is) goes)
