-- The row of a value without operands: a record is made, and has the number of its variant.
use Rattle.std.proofs.Common.{◌≡◌, ℕ, suc, pos, ◌<◌, true, List, [], ◌∷◌, length, Option, Some, None, refl, sym, ap}
use Rattle.std.proofs.Common.{subst, ◌∙◌, arith, inl, inr}
use Rattle.std.specs.Prelude.{slice_get}
use Rattle.process_ways.specs.Ways.{Way}
use Rattle.process_ways.proofs.On.{stepped}
use Rattle.limbo_types.specs.Types.{Ty}
use Rattle.limbo_layout.specs.Adts.{Def}
use Rattle.limbo_layout.specs.Layout.{Laid}
use Rattle.limbo_typed.specs.Typed as typed
use Rattle.limbo_typed.specs.declared.operation.Operation.{Operation}
use Rattle.limbo_kept.specs.Trees.{WorkIs}
use Rattle.limbo_meaning.specs.Evaluation.{passes_on}
use Rattle.limbo_meaning.specs.Process.{Shared}
use Rattle.limbo_meaning.specs.Trees.{Operate}
use Rattle.limbo_meaning.specs.Values.{Value, zero_of, fitted, references}
use Rattle.system_model.specs.Limits.{frames_limit}
use Rattle.core_code.specs.Code.{Instr, Gather}
use Rattle.core_code.specs.Machine as code
use Rattle.core_code.specs.Slots as core
use Rattle.core_code.specs.Slots.{Holds}
use Rattle.core_code.specs.Terms.{part_numbers, variant_of}
use Rattle.core_typing.specs.Held as held
use Rattle.core_typing.specs.Held.{Held, Of, Decided, Turns, Forming, live_formed}
use Rattle.core_typing.specs.Needs.{IsClean}
use Rattle.dis_meaning.specs.Words.{Word, word_at}
use Rattle.dis_meaning.specs.Process.{Process}
use Rattle.dis_memory.specs.Blocks.{World, Record, next_serial}
use Rattle.value_words.specs.Facts.{Facts}
use Rattle.value_words.proofs.Wholes.{stands_whole}
use Rattle.value_frames.specs.Forming.{begun, formed}
use Rattle.value_frames.specs.Frames.{Boxed, form_of, number_place, reference_place, spare_place, room_for}
use Rattle.value_frames.specs.Standing.{NamesOnly}
use Rattle.value_code.specs.Code as written
use Rattle.value_code.specs.Code.{Site, code_of, record_number}
use Rattle.value_code.specs.Data.{OfRecord}
use Rattle.value_code.specs.Objects.{object_of, of_function, type_number, size_at, blank_site}
use Rattle.value_code.proofs.Having.{objects_have}
use Rattle.value_follows.specs.Stands.{scope, types_of, place_of, Awaited, Stands, Ready, GoesOn}
use Rattle.value_follows.specs.Kept.{SameFrame}
use Rattle.value_follows.specs.Sides.{sides, HoldTheSame, program}
use Rattle.value_follows.specs.Rows.{place, Base, RowStands, RowGoes, site_of}
use Rattle.value_follows.proofs.Jumps.{row as row_at}
use Rattle.value_follows.proofs.Several.{Next}
use Rattle.value_follows.proofs.Slots.{slot_is, uses}
use Rattle.value_follows.proofs.Standing.{finds, code_here, goes_behind}
use Rattle.core_typing.specs.Going.{IsTagged}
use Rattle.rows_forming.specs.Rows.{EmptyGathersGo}
use Rattle.number_effects.specs.Stepping.{Reaches}
use Rattle.value_follows.proofs.Standing.{instance_here}
use Rattle.rows_forming.proofs.Builds.{Builds, builds_hold, builds_later}
use Rattle.rows_forming.proofs.Placing.{steps_silently, further}
use Rattle.rows_forming.proofs.Tagging.{tag_world, tag_process, tag_words, tag_builds, tag_alike, tag_changes, tag_step, tag_inst}
use Rattle.rows_forming.proofs.Filled.{full_facts, full_slots, full_ready, full_alike, full_changes}
use Rattle.rows_forming.proofs.First.{laid_so}
use Rattle.rows_forming.proofs.New.{new_alike, new_changes, new_fact}
use Rattle.rows_forming.proofs.SoFar.{begun_names}
use Rattle.rows_forming.proofs.Starting.{no_operands, new_words, new_bare, builds_then, stored_there, goes_new, world_then, facts_then, process_then}
use Rattle.rows_forming.proofs.Values.{named_some}
use Rattle.rows_forming.proofs.Works.{value_made, boxed_made}

formed_none : (w : Value) (ks : List ℕ) → formed w ks [] ≡ w
formed_none w [] = refl
formed_none w (k ∷ ks) = refl

none_live : (h : Held) → IsClean h → live_formed h ≡ []
none_live (Of t ns) clean = refl
none_live (Decided b) clean = refl
none_live (Turns gs) clean = refl
none_live (Forming t v ks us ns) clean = elim clean [ ]

begun_only : (defs : List Def) (t : Ty) (variant : Option ℕ) → NamesOnly [] (begun defs t variant)
begun_only defs t variant k n e =
    absurd (let z = begun_names defs t variant n in let l = named_some (references (begun defs t variant)) k n e in omega (arith, l, z))

no_types : (us : List Ty) → length us ≡ 0 → length us ≡ length {A = Value} []
no_types us e = e

module _ (m : typed.Module) (b : Base m) (t : Ty) (o : Operation) (into : ℕ) (passes : passes_on o ≡ true) (i : ℕ) (p : code.Process)
    (here : slice_get p.frame.code p.frame.pc ≡ Some (Gather t (Operate o) into 0)) where
  abbrev instr : Instr
  instr = Gather t (Operate o) into 0

  abbrev value : Value
  value = begun m.adts t (variant_of m.adts o)

  -- What is found where two are ready.
  module _ (k : Facts) (x : World) (q : Process) (ready : Ready m k i x p q) (clean : IsClean (held.slot ready.stands.is.known into)) where
    abbrev f : typed.Function
    f = ready.stands.is.function

    in_code : slice_get (of_function m f).code p.frame.pc ≡ Some instr
    in_code = code_here m k i x p q ready instr here

    few : into < length p.frame.slots
    few = uses m k i x [] p.frame q.frame ready.stands.is p.frame.pc instr in_code

    types_found : (us : List Ty) × WorkIs (scope m f) t (Operate o) us t × (length us ≡ 0)
    types_found =
        let found = finds m f p.frame.pc ready.stands.is.known instr ready.stands.goes in_code in
        (found.0, found.1, found.2)

    laid : Laid m.adts t (room_for m.adts t)
    laid = laid_so m.adts t types_found.1.1

    form : form_of t ≡ Boxed
    form = boxed_made m.adts t o types_found.0 passes types_found.1.0

    no_values : core.operands_of (core.slot p.frame.slots into) ≡ []
    no_values =
        no_operands m.adts k x q.frame.serial q.frame.words (number_place m.adts (types_of m f) into) (reference_place m.adts (types_of m f) into)
        (held.slot ready.stands.is.known into) (core.slot p.frame.slots into) (ready.stands.is.words.own into) clean
        (slot_is m k i x [] p.frame q.frame ready.stands.is into few (λ e. e))

    does : value ≡ fitted m.adts t value → (w : Shared)
        → (sides m).program.step w p ≡ code.goes_on w p (core.put p.frame.slots into (Holds value))
    does whole w =
        let none = formed_none value (part_numbers m.adts o 0) in
        let laid_now = laid in
        ap (code.next frames_limit (program m) w p) here
        ∙ (value_made m.adts t (room_for m.adts t) o types_found.0 [] passes laid_now types_found.1.0 types_found.2
        (subst (λ (v : Value). v ≡ fitted m.adts t v) (sym none) whole) frames_limit (program m) refl w p into 0 no_values
        ∙ ap (λ (v : Value). code.goes_on w p (core.put p.frame.slots into (Holds v))) none)

    goes_on : GoesOn m f (suc p.frame.pc) (held.put ready.stands.is.known into (Of t []))
    goes_on =
        subst (λ (h : List ℕ). GoesOn m f (suc p.frame.pc) (held.put ready.stands.is.known into (Of t h)))
        (none_live (held.slot ready.stands.is.known into) clean)
        (goes_behind m f p.frame.pc ready.stands.is.known instr ready.stands.goes in_code 0 (suc p.frame.pc)
        (held.put ready.stands.is.known into (Of t (live_formed (held.slot ready.stands.is.known into)))) (omega arith) refl)

  -- ---- while others step

  module _ (k : Facts) (x : World) (q : Process) (ready : Ready m k i x p q) (clean : IsClean (held.slot ready.stands.is.known into))
      (now : Facts) (y : World) (left : (sides m).leaves i k now x y) (hold : HoldTheSame m now i y p q) where
    later : (after : Stands m now i y [] Awaited p q) × SameFrame m k now i x y ready.stands.is after.is
    later = b.stands_later k now i x y [] Awaited p q ready.stands left hold

    pub ready_now : Ready m now i y p q
    ready_now = record {
      stands = later.0;
      pc = ready.pc
          ∙ ap (λ (n : ℕ). place_of m n ready.stands.is.function p.frame.pc) (sym later.1.number)
          ∙ ap (λ (f : typed.Function). place_of m later.0.is.number f p.frame.pc) (sym later.1.function);
      spare = ap (λ (f : typed.Function). word_at q.frame.words (pos (spare_place m.adts (types_of m f)))) later.1.function ∙ ready.spare;
      none_made = ready.none_made;
    }

    pub clean_now : IsClean (held.slot ready_now.stands.is.known into)
    unfolding ready_now
    clean_now = subst (λ (ks : held.Slots). IsClean (held.slot ks into)) (sym later.1.known) clean

  -- ---- without a variant one instruction is the row

  module _ (none : variant_of m.adts o ≡ None) (k : Facts) (x : World) (q : Process) (r : Ready m k i x p q) (hold : HoldTheSame m k i x p q)
      (clean : IsClean (held.slot r.stands.is.known into)) where
    abbrev AtOnce : Facts → Shared → World → Type 0
    AtOnce now w y = Next m b i p 0 now w y q

    at_once : (now : Facts) (w : Shared) (y : World) (r : Ready m now i y p q) → IsClean (held.slot r.stands.is.known into)
        → HoldTheSame m now i y p q → (sides m).worlds now w y → AtOnce now w y
    at_once now w y r clean hold worlds =
        let is = r.stands.is in
        let row = row_at m b now i w y p q r hold worlds instr here in
        let type = type_number m (OfRecord t) in
        let code_is = in_code now y q r clean in
        let room = laid now y q r clean in
        let slots = few now y q r clean in
        let typed_so = objects_have.types m is.number is.function p.frame.pc instr (OfRecord t) is.there code_is (inl refl) in
        let stored = stored_there m b now i w y p q r hold worlds instr here t room into slots clean type typed_so in
        let step = goes_new m b now i w y p q r hold worlds instr here t room into slots clean type typed_so refl in
        let built = builds_then m b now i w y p q r hold worlds instr here t room into slots clean stored in
        let facts = facts_then m b now i w y p q r hold worlds instr here t room into slots clean in
        let world = world_then m b now i w y p q r hold worlds instr here t room into slots clean in
        let u = process_then m b now i w y p q r hold worlds instr here t room into slots clean in
        let alike = new_alike m i now w y worlds q.frame.serial (new_words m.adts t) (new_bare m.adts t) in
        let changes = new_changes m i now w y worlds q.frame.serial (new_words m.adts t) (new_bare m.adts t) in
        let open_so = new_fact m i now w y worlds q.frame.serial (new_words m.adts t) (new_bare m.adts t) in
        let boxed = form now y q r clean in
        let same : value ≡ zero_of m.adts t = ap (λ (v : Option ℕ). begun m.adts t v) none in
        let names = subst (λ (v : Value). NamesOnly [] v) same (begun_only m.adts t (variant_of m.adts o)) in
        let whole = stands_whole m.adts facts (new_words m.adts t) 0 t (zero_of m.adts t) built.is in
        let full = full_facts m b is.number is.function t into 1 (next_serial y) (new_words m.adts t) (zero_of m.adts t) is.known i p u facts w world built
        alike open_so boxed slots names in
        let size : size_at m is.function.of.answer (of_function m is.function) p.frame.pc (Some instr) ≡ 1 =
        ap (λ (v : Option ℕ). suc (length (written.tagged (blank_site m is.function.of.answer (of_function m is.function) p.frame.pc).scene v into))) none in
        let g = ap (λ (c : Option Instr). size_at m is.function.of.answer (of_function m is.function) p.frame.pc c) code_is in
        let e = r.pc in
        let after = code.with_frames p (code.at p.frame (suc p.frame.pc) p.frame.variables
        (full_slots m b is.number is.function t into 1 (next_serial y) (new_words m.adts t) (zero_of m.adts t) is.known i p u facts w world built alike
        open_so boxed slots names)) p.below in
        let goes_there : GoesOn m built.stands.is.function (suc p.frame.pc) (held.put built.stands.is.known into (Of t [])) =
        subst (λ (h : typed.Function). GoesOn m h (suc p.frame.pc) (held.put built.stands.is.known into (Of t []))) (sym built.function_is)
        (subst (λ (ks : held.Slots). GoesOn m is.function (suc p.frame.pc) (held.put ks into (Of t []))) (sym built.known_is)
        (goes_on now y q r clean)) in
        let ready_then : Ready m full i world after u =
        full_ready m b is.number is.function t into 1 (next_serial y) (new_words m.adts t) (zero_of m.adts t) is.known i p u facts w world built alike
        open_so boxed slots names goes_there (omega (arith, e, size, g)) in
        let alike_then = full_alike m b is.number is.function t into 1 (next_serial y) (new_words m.adts t) (zero_of m.adts t) is.known i p u facts w world
        built alike open_so boxed slots names in
        stepped (sides m) (place m) (λ l z s u. Way (sides m) (place m) 0 l i z s u) now full i w y world p q u step
        (full_changes m b is.number is.function t into 1 (next_serial y) (new_words m.adts t) (zero_of m.adts t) is.known i p u facts w world built alike
        open_so boxed slots names now y changes)
        w after (does now y q r clean (subst (λ (v : Value). v ≡ fitted m.adts t v) (sym same) whole) w
        ∙ ap (λ (v : Value). code.goes_on w p (core.put p.frame.slots into (Holds v))) same)
        alike_then (
          ready_then,
          b.holds_again full i w world after u ready_then alike_then
              (b.there_again y world q u step worlds.0.closed (λ c h. hold.same.live c (hold.same.roots c h))),
        )

    pub none_goes : RowGoes m k i x p q
    none_goes = (
      0,
      (
        hold,
        λ now y w left hold' worlds.
            at_once now w y (ready_now k x q r clean now y left hold') (clean_now k x q r clean now y left hold') hold' worlds,
      ),
    )

  -- ---- with a variant its number comes by a second one

  module _ (v : ℕ) (some : variant_of m.adts o ≡ Some v) (tagged : IsTagged m.adts t (Some v)) where
    size_is : (f : typed.Function) (pc : ℕ) → size_at m f.of.answer (of_function m f) pc (Some instr) ≡ 2
    size_is f pc =
        ap (λ (v : Option ℕ). suc (length (written.tagged (blank_site m f.of.answer (of_function m f) pc).scene v into))) some

    -- the second instruction
    module _ (number : ℕ) (f : typed.Function) (there_is : slice_get m.functions number ≡ Some f)
        (code_is : slice_get (of_function m f).code p.frame.pc ≡ Some instr) (known : held.Slots) (box : ℕ) (u : Process) (k : Facts) (w : Shared)
        (x : World) (s : Builds m number f t into 1 box (new_words m.adts t) (zero_of m.adts t) known k i x p u) (undecided : k.fact box ≡ None)
        (hold : HoldTheSame m k i x p u) (worlds : (sides m).worlds k w x) (boxed : form_of t ≡ Boxed) (slots : into < length p.frame.slots)
        (goes : (g : typed.Function) → g ≡ f → (ks : held.Slots) → ks ≡ known → GoesOn m g (suc p.frame.pc) (held.put ks into (Of t [])))
        (does_so : value ≡ fitted m.adts t value → (w : Shared)
        → (sides m).program.step w p ≡ code.goes_on w p (core.put p.frame.slots into (Holds value))) where
      abbrev row : RowStands m number f p.frame.pc instr
      row = b.row_stands number f p.frame.pc instr there_is code_is

      abbrev site : Site
      site = site_of m number f p.frame.pc row.at

      abbrev whole : Value
      whole = begun m.adts t (Some v)

      abbrev world : World
      world = tag_world m b t v tagged number f into known i p u k w x 1 box s hold worlds

      abbrev then : Process
      then = tag_process m b t v tagged number f into known i p u k w x 1 box s hold worlds

      abbrev words : List Word
      words = tag_words m b t v tagged number f into known i p u k w x 1 box s hold worlds

      built : Builds m number f t into 2 box words whole known k i world p then
      built = tag_builds m b t v tagged number f into known i p u k w x 1 box s hold worlds

      alike : (sides m).worlds k w world
      alike = tag_alike m b t v tagged number f into known i p u k w x 1 box s hold worlds

      second_is : slice_get (code_of site instr) 1 ≡ Some (tag_inst m b t v tagged number f into known i p u k w x 1 box s hold worlds)
      second_is = ap (λ (c : Option ℕ). slice_get (written.begun site.scene (record_number site t) c into) 1) some

      reaches : Reaches (object_of m ∷ []) x u (object_of m) (tag_inst m b t v tagged number f into known i p u k w x 1 box s hold worlds)
      reaches =
          let is = instance_here m b k i w x p u (into ∷ []) s.stands.is hold worlds.0 in
          record {
            object = 0;
            words = is.0;
            instance = is.1;
            code = refl;
            here = ap (slice_get (object_of m).insts) s.pc ∙ row.insts 1 _ second_is;
          }

      names : NamesOnly [] whole
      names = begun_only m.adts t (Some v)

      same : value ≡ whole
      same = ap (λ (v : Option ℕ). begun m.adts t v) some

      abbrev full : Facts
      full = full_facts m b number f t into 2 box words whole known i p then k w world built alike undecided boxed slots names

      abbrev after : code.Process
      after = code.with_frames p (code.at p.frame (suc p.frame.pc) p.frame.variables
          (full_slots m b number f t into 2 box words whole known i p then k w world built alike undecided boxed slots names)) p.below

      ready_then : Ready m full i world after then
      ready_then =
          let g = ap (λ (c : Option Instr). size_at m f.of.answer (of_function m f) p.frame.pc c) code_is in
          let size = size_is f p.frame.pc in
          let e = built.pc in
          full_ready m b number f t into 2 box words whole known i p then k w world built alike undecided boxed slots names
          (goes built.stands.is.function built.function_is built.stands.is.known built.known_is) (omega (arith, e, size, g))

      last_tag : Next m b i p 0 k w x u
      last_tag =
          let step = tag_step m b t v tagged number f into known i p u k w x 1 box s hold worlds reaches in
          let fit = stands_whole m.adts k words 0 t whole built.is in
          let alike_then = full_alike m b number f t into 2 box words whole known i p then k w world built alike undecided boxed slots names in
          stepped (sides m) (place m) (λ l z s u. Way (sides m) (place m) 0 l i z s u) k full i w x world p u then step
          (full_changes m b number f t into 2 box words whole known i p then k w world built alike undecided boxed slots names k x
          (tag_changes m b t v tagged number f into known i p u k w x 1 box s hold worlds))
          w after (does_so (subst (λ (c : Value). c ≡ fitted m.adts t c) (sym same) fit) w
          ∙ ap (λ (c : Value). code.goes_on w p (core.put p.frame.slots into (Holds c))) same)
          alike_then (
            ready_then,
            b.holds_again full i w world after then ready_then alike_then
                (b.there_again x world u then step worlds.0.closed (λ c h. hold.same.live c (hold.same.roots c h))),
          )

    module _ (k : Facts) (x : World) (q : Process) (r : Ready m k i x p q) (hold : HoldTheSame m k i x p q)
        (clean : IsClean (held.slot r.stands.is.known into)) where
      at_first : (now : Facts) (w : Shared) (y : World) (r : Ready m now i y p q) → IsClean (held.slot r.stands.is.known into)
          → HoldTheSame m now i y p q → (sides m).worlds now w y → Next m b i p 1 now w y q
      at_first now w y r clean hold worlds =
          let is = r.stands.is in
          let row = row_at m b now i w y p q r hold worlds instr here in
          let type = type_number m (OfRecord t) in
          let code_is = in_code now y q r clean in
          let room = laid now y q r clean in
          let slots = few now y q r clean in
          let typed_so = objects_have.types m is.number is.function p.frame.pc instr (OfRecord t) is.there code_is (inl refl) in
          let stored = stored_there m b now i w y p q r hold worlds instr here t room into slots clean type typed_so in
          let step = goes_new m b now i w y p q r hold worlds instr here t room into slots clean type typed_so refl in
          let built = builds_then m b now i w y p q r hold worlds instr here t room into slots clean stored in
          let facts = facts_then m b now i w y p q r hold worlds instr here t room into slots clean in
          let world = world_then m b now i w y p q r hold worlds instr here t room into slots clean in
          let u = process_then m b now i w y p q r hold worlds instr here t room into slots clean in
          let alike = new_alike m i now w y worlds q.frame.serial (new_words m.adts t) (new_bare m.adts t) in
          let changes = new_changes m i now w y worlds q.frame.serial (new_words m.adts t) (new_bare m.adts t) in
          let open_so = new_fact m i now w y worlds q.frame.serial (new_words m.adts t) (new_bare m.adts t) in
          let live = b.there_again y world q u step worlds.0.closed (λ c h. hold.same.live c (hold.same.roots c h)) in
          let size = size_is is.function p.frame.pc in
          steps_silently m b i p 1 now facts w y world q u step changes alike
          (further m b i p is.number is.function instr is.there code_is refl 0 q u (omega (arith, size)) (let e = r.pc in omega (arith, e)) built.pc) (
            builds_hold m is.number is.function t into b 1 (next_serial y) (new_words m.adts t) (zero_of m.adts t) is.known i p u facts world built w alike
                live,
            λ later z v left hold' worlds'.
                let s = builds_later m is.number is.function t into b 1 (next_serial y) (new_words m.adts t) (zero_of m.adts t) is.known i p u facts later
                world z built left hold' in
                let open_still : later.fact (next_serial y) ≡ None = elim (left.0.free (next_serial y) built.free built.made) [
                  | inl same ↦ same.0 ∙ open_so
                  | inr gone ↦ absurd (let c : None ≡ Some (Record (new_words m.adts t)) = sym gone.1 ∙ s.there in cc)
                ] in
                last_tag is.number is.function is.there code_is is.known (next_serial y) u later v z s open_still hold' worlds' (form now y q r clean) slots
                (λ g e ks h.
                subst (λ (f : typed.Function). GoesOn m f (suc p.frame.pc) (held.put ks into (Of t []))) (sym e)
                (subst (λ (c : held.Slots). GoesOn m is.function (suc p.frame.pc) (held.put c into (Of t []))) (sym h) (goes_on now y q r clean)))
                (does now y q r clean),
          )

      pub some_goes : RowGoes m k i x p q
      some_goes = (
        1,
        (
          hold,
          λ now y w left hold' worlds.
              at_first now w y (ready_now k x q r clean now y left hold') (clean_now k x q r clean now y left hold') hold' worlds,
        ),
      )

pub empty_gathers_go : EmptyGathersGo
empty_gathers_go m b t o into passes tagged k i x p q r here clean = go (variant_of m.adts o) refl tagged
  where
    go : (c : Option ℕ) → variant_of m.adts o ≡ c → IsTagged m.adts t c → RowGoes m k i x p q
    go None e tag = none_goes m b t o into passes i p here e k x q r.0 r.1 clean
    go (Some v) e tag = some_goes m b t o into passes i p here v e tag k x q r.0 r.1 clean
