-- A record to which a slot is to refer is filled, by the last instruction of a row: from then on it stands for a new value of the heap, and
-- the slot for a reference to that.
use Rattle.std.proofs.Common.{◌≡◌, true, ℕ, suc, pos, ◌*◌, ◌<◌, List, [], ◌∷◌, length, Option, Some, refl, sym, ap, subst, ◌∙◌, arith, inl, inr}
use Rattle.std.specs.Prelude.{slice_get, slice_index_or}
use Rattle.process_model.specs.Process.{Went}
use Rattle.process_ways.specs.Ways.{Way}
use Rattle.process_ways.proofs.On.{stepped}
use Rattle.heap_model.specs.Heap.{Heap, there}
use Rattle.heap_model.specs.Heap as heap
use Rattle.heap_model.specs.Facts.{Free, Inner}
use Rattle.limbo_types.specs.Types as ty
use Rattle.limbo_types.specs.Types.{Ty}
use Rattle.limbo_layout.specs.Adts.{Def, Has}
use Rattle.limbo_layout.specs.Layout.{Laid}
use Rattle.limbo_typed.specs.Typed as typed
use Rattle.limbo_meaning.specs.Memory as source
use Rattle.limbo_meaning.specs.Process.{Shared}
use Rattle.limbo_meaning.specs.Values.{Value, Ref}
use Rattle.core_code.specs.Code.{Instr}
use Rattle.core_code.specs.Machine as code
use Rattle.core_code.specs.Slots as core
use Rattle.core_code.specs.Slots.{Holds}
use Rattle.core_typing.specs.Held as held
use Rattle.core_typing.specs.Held.{Of}
use Rattle.core_typing.specs.Going.{stand, behind}
use Rattle.dis_isa.specs.declared.inst.Inst.{Inst}
use Rattle.dis_meaning.specs.Words.{Word, Refer, word_at}
use Rattle.dis_meaning.specs.Process.{Process}
use Rattle.dis_memory.specs.Blocks.{World, Block, Record}
use Rattle.value_words.specs.Forms as forms
use Rattle.value_words.specs.Forms.{Form, Adts, OwnedBy}
use Rattle.value_words.specs.Facts.{Facts, Grows, IsName}
use Rattle.value_words.specs.Stands as memory
use Rattle.value_words.specs.Stands.{IsReference, a_name}
use Rattle.value_words.proofs.Blank.{laid_within}
use Rattle.value_words.proofs.Later.{stands_later}
use Rattle.value_heaps.specs.Blocks.{record_of}
use Rattle.value_frames.specs.Frames.{AsReference, form_of, number_place, reference_place, spare_place, box_bytes, room_for}
use Rattle.value_frames.specs.Types.{AreOf}
use Rattle.value_frames.specs.Standing.{SlotStands, a_value, ValueStands, NamesOnly, WordsAre}
use Rattle.value_frames.proofs.Slots.{slots_change, put_long, was_among}
use Rattle.value_frames.proofs.Later.{frames_later}
use Rattle.value_moves.specs.Writing.{Lies}
use Rattle.value_moves.proofs.Changing.{low_or_high}
use Rattle.value_code.specs.Objects.{object_of, of_function, size_at}
use Rattle.value_code.specs.Code.{code_of}
use Rattle.number_effects.specs.Stepping.{Reaches}
use Rattle.value_follows.specs.Stands.{types_of, place_of, GoesOn, Awaited, Ready}
use Rattle.value_follows.specs.Sides.{sides, contents, HoldTheSame}
use Rattle.value_follows.specs.Rows.{place, Base, RowStands, site_of}
use Rattle.value_follows.proofs.Standing.{instance_here, goes_behind}
use Rattle.value_follows.proofs.Several.{Next, moved_to}
use Rattle.rows_boxes.proofs.Boxing.{only_one}
use Rattle.rows_making.proofs.Waiting.{stands_anew}
use Rattle.rows_making.proofs.New.{filled_world, named_facts, named, named_form, named_grows, more_values, named_alike, named_keeps, named_changes}
use Rattle.rows_making.proofs.Making.{Making}

not_owned : (a s : ℕ) (f : Option Form) → f ≡ Some (Adts a) → f ≡ Some (OwnedBy s) → ⊥
not_owned a s f e g = cc

-- no slot is busy any more
idle_words : (defs : List Def) (k : Facts) (x : Heap Block) (frame : ℕ) (busy : List ℕ) (types : List Ty) (known : held.Slots) (vs : List Value)
    (slots : core.Slots) (ws : List Word) → ((s : ℕ) → Has busy s → ⊥) → (are : WordsAre defs k x frame busy types known vs slots ws)
    → (idle : WordsAre defs k x frame [] types known vs slots ws) × (idle.own ≡ are.own)
idle_words defs k x frame busy types known vs slots ws none are = (
  record {
    laid = are.laid;
    kind = are.kind;
    values = are.values;
    as_many = are.as_many;
    own = are.own;
    none_past = are.none_past;
    busy_bare = λ s h. absurd h;
    each = λ s h l free e g. are.each s h l (none s) e g;
    single = are.single;
    apart = are.apart;
  },
  refl,
)

module _ (m : typed.Module) (b : Base m) (number : ℕ) (f : typed.Function) (t : Ty) (of : Form) (into : ℕ) (j box : ℕ) (inner : List Word) (i : ℕ)
    (p : code.Process) (q : Process) (k : Facts) (w : Shared) (x : World) (s : Making m number f t of into j box inner k i x p q)
    (hold : HoldTheSame m k i x p q) (worlds : (sides m).worlds k w x) where
  abbrev known : held.Slots
  known = s.stands.is.known

  abbrev own_function : typed.Function
  own_function = s.stands.is.function

  -- an instruction of the row is what the process does next
  pub reaches_on : (instr : Instr) (row : RowStands m number f p.frame.pc instr) (inst : Inst)
      → slice_get (code_of (site_of m number f p.frame.pc row.at) instr) j ≡ Some inst → Reaches (object_of m ∷ []) x q (object_of m) inst
  reaches_on instr row inst e =
      let is = instance_here m b k i w x p q (into ∷ []) s.stands.is hold worlds.0 in
      record {
        object = 0;
        words = is.0;
        instance = is.1;
        code = refl;
        here = ap (slice_get (object_of m).insts) s.pc ∙ row.insts j inst e;
      }

  owned : (r c : ℕ) → Has (s.stands.is.words.own r) c → Free k c
  owned r c h =
      ((frames_later m.adts k x.heap q.frame.serial (into ∷ []) (types_of m own_function) known p.frame.variables p.frame.slots q.frame.words
      s.stands.is.words).owned r c h).0

  not_box : (r c : ℕ) → Has (s.stands.is.words.own r) c → c ≡ box → ⊥
  not_box r c h same = s.apart r (subst (λ (d : ℕ). Has (s.stands.is.words.own r) d) same h)

  -- A value lies in these words of the record, which refer to what is there and stands for values or texts.
  pub record Fills (words : List Word) (v : Value) : Type 0 where
    pub kind : AreOf (box_bytes m.adts t) (room_for m.adts t).references words
    pub lies : Lies m.adts k words 0 t (room_for m.adts t) v
    pub led : (n : ℕ) → Has words (Refer (Some n)) → (there (heap.at x.heap n) ≡ true) × (Inner k n → ⊥)

  module _ (words : List Word) (v : Value) (fills : Fills words v) where
    abbrev pub world_full : World
    world_full = filled_world m i k w x worlds box inner words s.there s.none s.made fills.led

    abbrev pub facts_full : Facts
    facts_full = named_facts m i k w x worlds box inner words s.there s.none s.made fills.led

    abbrev name : ℕ
    name = length w.heap

    full_grows : Grows k facts_full
    full_grows = named_grows m i k w x worlds box inner words s.there s.none s.made fills.led

    module _ (adt : ℕ) (is_adt : t ≡ ty.Adt adt) (so : of ≡ Adts adt) where
      formed : k.form box ≡ Some (Adts adt)
      formed = s.formed ∙ ap (λ (a : Form). Some a) so

      formed_then : facts_full.form box ≡ Some (Adts adt)
      formed_then = named_form m i k w x worlds box inner words s.there s.none s.made fills.led (Adts adt) formed

      -- the record stands for the new value
      record_stands : (contents m).stands facts_full box (source.Record v) (Record words)
      record_stands = (
        record_of adt (room_for m.adts t) words v formed_then
            (subst (λ (u : Ty). Laid m.adts u (room_for m.adts t)) is_adt fills.lies.laid) fills.lies.whole
            (subst (λ (u : Ty). memory.Stands m.adts facts_full words 0 u v) is_adt
            (stands_later m.adts k facts_full words full_grows 0 t v fills.lies.stands))
            fills.lies.only
            (λ u c e.
            let l = laid_within m.adts t (room_for m.adts t) fills.lies.laid (4 * u) (fills.kind.only u (Some c) e) in
            (omega arith, omega (arith, l))),
        tt,
      )

      module _ (u : Ty) (live : List ℕ) (reference : IsReference u) (asked : forms.form_of u ≡ Some (Adts adt)) (form : form_of u ≡ AsReference)
          (names : NamesOnly live (Ref (Some name))) where
        slot_stands : (g : typed.Function) → g ≡ f
            → SlotStands m.adts facts_full world_full.heap q.frame.serial q.frame.words (number_place m.adts (types_of m g) into)
            (reference_place m.adts (types_of m g) into) (Of u live) (Holds (Ref (Some name))) []
        slot_stands g same =
            let at = reference_place m.adts (types_of m g) into in
            a_value q.frame.words (number_place m.adts (types_of m g) into) at u live (Ref (Some name))
            (subst (λ o. ValueStands m.adts facts_full q.frame.words (number_place m.adts (types_of m g) into) at o u (Ref (Some name))) (sym form)
            (a_name at u (Some box) (Some name) reference
            (ap (λ (h : typed.Function). word_at q.frame.words (pos (reference_place m.adts (types_of m h) into))) same ∙ s.word)
            (subst (λ (o : Option Form). IsName facts_full o (Some box) (Some name)) (sym asked) (record {
              fact = named m i k w x worlds box inner words s.there s.none s.made fills.led;
              formed = formed_then;
            }))))
            names

        abbrev pub full_slots : core.Slots
        full_slots = core.put p.frame.slots into (Holds (Ref (Some name)))

        abbrev pub put_on : code.Process
        put_on = code.with_frames p (code.at p.frame (suc p.frame.pc) p.frame.variables full_slots) p.below

        module _ (few : into < length p.frame.slots) (instr : Instr) (here : slice_get p.frame.code p.frame.pc ≡ Some instr)
            (behind_is : (slots : held.Slots) → behind m.adts p.frame.pc slots instr ≡ stand (suc p.frame.pc) (held.put slots into (Of u live)) ∷ [])
            (size : size_at m f.of.answer (of_function m f) p.frame.pc (Some instr) ≡ suc j) where
          code_there : slice_get (of_function m own_function).code p.frame.pc ≡ Some instr
          code_there = subst (λ c. slice_get c p.frame.pc ≡ Some instr) s.stands.is.code here

          in_code : slice_get (of_function m f).code p.frame.pc ≡ Some instr
          in_code = subst (λ (g : typed.Function). slice_get (of_function m g).code p.frame.pc ≡ Some instr) s.function_is code_there

          goes_on : GoesOn m own_function (suc p.frame.pc) (held.put known into (Of u live))
          goes_on =
              let after = stand (suc p.frame.pc) (held.put known into (Of u live)) in
              goes_behind m own_function p.frame.pc known instr s.stands.goes code_there 0 (suc p.frame.pc) (held.put known into (Of u live))
              (subst (λ l. 0 < length l) (sym (behind_is known)) (omega arith))
              (ap (λ l. slice_index_or l 0 after) (behind_is known))

          next_place : suc q.frame.pc ≡ place_of m number f (suc p.frame.pc)
          next_place =
              let g = ap (λ (o : Option Instr). size_at m f.of.answer (of_function m f) p.frame.pc o) in_code in
              let e = s.pc in
              omega (arith, e, size, g)

          none_busy : (r : ℕ) → Has (held.without into (into ∷ [])) r → ⊥
          none_busy r h = let was = was_among into r (into ∷ []) h in was.1 (sym (only_one into r was.0))

          full_ready : Ready m facts_full i world_full put_on (moved_to q (suc q.frame.pc) q.frame.words)
          full_ready =
              let are = s.stands.is.words in
              let keeps = named_keeps m i k w x worlds box inner words s.there s.none s.made fills.led in
              let after = slots_change.slot m.adts k facts_full x.heap world_full.heap q.frame.serial (into ∷ []) (types_of m own_function) known
              p.frame.variables p.frame.slots q.frame.words q.frame.words into (Of u live) (Holds (Ref (Some name))) [] are full_grows few
              (record { each = λ w no. refl }) are.kind (slot_stands own_function s.function_is) tt
              (λ r c ne h. (λ e. e, keeps c (not_box r c h) (owned r c h))) in
              let idle = idle_words m.adts facts_full world_full.heap q.frame.serial (held.without into (into ∷ [])) (types_of m own_function)
              (held.put known into (Of u live)) p.frame.variables full_slots q.frame.words none_busy after.after in
              let anew = stands_anew m k facts_full i x world_full (into ∷ []) Awaited p q s.stands full_grows (omega arith)
              (λ c free made o owner l. keeps c (λ same. not_owned adt o (k.form c) (ap k.form same ∙ formed) owner) free)
              [] (suc p.frame.pc) (suc q.frame.pc) (held.put known into (Of u live)) p.frame.variables full_slots q.frame.words q.made
              (put_long p.frame.slots into (Holds (Ref (Some name)))) idle.0
              (λ r c h. full_grows.makers c i (mine after.after.own r c after.here after.elsewhere (subst (λ (o : ℕ → List ℕ). Has (o r) c) idle.1 h)))
              goes_on refl in
              record {
                stands = anew.stands;
                pc = next_place
                    ∙ ap (λ (n : ℕ). place_of m n f (suc p.frame.pc)) (sym (anew.number ∙ s.number_is))
                    ∙ ap (λ (g : typed.Function). place_of m anew.stands.is.number g (suc p.frame.pc)) (sym (anew.function ∙ s.function_is));
                spare = ap (λ (g : typed.Function). word_at q.frame.words (pos (spare_place m.adts (types_of m g)))) (anew.function ∙ s.function_is)
                    ∙ s.spare;
                none_made = s.none_made;
              }
            where
              mine : (own : ℕ → List ℕ) (r c : ℕ) → own into ≡ [] → ((u : ℕ) → (u ≡ into → ⊥) → own u ≡ s.stands.is.words.own u) → Has (own r) c
                  → k.maker c ≡ Some i
              mine own r c e g h = elim (low_or_high r into) [
                | inl low ↦ s.stands.is.mine r c (subst (λ o. Has o c) (g r (λ z. omega (arith, z, low))) h)
                | inr high ↦ elim (low_or_high into r) [
                  | inl more ↦ s.stands.is.mine r c (subst (λ o. Has o c) (g r (λ z. omega (arith, z, more))) h)
                  | inr less ↦
                      let same : r ≡ into = omega (arith, high, less) in
                      absurd (subst (λ o. Has o c) (ap own same ∙ e) h)
                ]
              ]

          -- both take a step, and are ready
          pub full_goes : (sides m).code.step x q ≡ Went world_full (moved_to q (suc q.frame.pc) q.frame.words)
              → (sides m).program.step w p ≡ Went (more_values m i k w x worlds box inner words s.there s.none s.made fills.led (source.Record v)) put_on
              → Next m b i p 0 k w x q
          full_goes e does =
              let v' = more_values m i k w x worlds box inner words s.there s.none s.made fills.led (source.Record v) in
              let alike = named_alike m i k w x worlds box inner words s.there s.none s.made fills.led (source.Record v) record_stands in
              let u = moved_to q (suc q.frame.pc) q.frame.words in
              stepped (sides m) (place m) (λ l z r t. Way (sides m) (place m) 0 l i z r t) k facts_full i w x world_full p q u e
              (named_changes m i k w x worlds box inner words s.there s.none s.made fills.led) v' put_on does alike (
                full_ready,
                b.holds_again facts_full i v' world_full put_on u full_ready alike
                    (b.there_again x world_full q u e worlds.0.closed (λ n h. hold.same.live n (hold.same.roots n h))),
              )
