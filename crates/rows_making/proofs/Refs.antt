-- The row of `ref`: a record is made, the value of a slot moves there, by one instruction or by two, and stands for a new value of the heap.
use Rattle.std.proofs.Common.{◌≡◌, ◌≢◌, ℕ, suc, pos, ◌<◌, Bool, true, false, List, [], ◌∷◌, ◌++◌, length, Some, refl, sym, ap, subst, ◌∙◌, arith, inl, inr}
use Rattle.std.specs.Prelude.{slice_get}
use Rattle.process_model.specs.Process.{Went}
use Rattle.limbo_types.specs.Types as ty
use Rattle.limbo_types.specs.Types.{Ty}
use Rattle.limbo_layout.specs.Layout.{Laid}
use Rattle.limbo_typed.specs.Typed as typed
use Rattle.limbo_typed.specs.Fitting.{IsRefOf, MakesRef}
use Rattle.limbo_typed.specs.declared.operation.Operation.TheVariants.{Ref as OfRef}
use Rattle.limbo_meaning.specs.Memory as source
use Rattle.limbo_meaning.specs.Operations.{item_of}
use Rattle.limbo_meaning.specs.Process.{Shared}
use Rattle.limbo_meaning.specs.Trees.{Operate}
use Rattle.limbo_meaning.specs.Values.{Value, Ref, fitted}
use Rattle.system_model.specs.Limits.{frames_limit}
use Rattle.core_code.specs.Code.{Instr, Give}
use Rattle.core_code.specs.Machine as code
use Rattle.core_code.specs.Slots as core
use Rattle.core_code.specs.Slots.{Slot, Holds}
use Rattle.core_code.specs.Using.{Uses}
use Rattle.core_typing.specs.Going.{got_by}
use Rattle.core_typing.specs.Held as held
use Rattle.core_typing.specs.Held.{type_held}
use Rattle.core_typing.specs.Needs.{AreThese, Finds, IsA, StandsAs}
use Rattle.dis_isa.specs.declared.inst.Inst.{Inst}
use Rattle.dis_isa.specs.declared.inst.Operand.TheVariants as operand
use Rattle.dis_isa.specs.declared.inst.Middle.TheVariants as middle
use Rattle.dis_isa.specs.declared.op.Op.TheVariants as op
use Rattle.dis_meaning.specs.Words.{Word, Plain, ◌>>=◌, number_in, word_at}
use Rattle.dis_meaning.specs.Process.{Process}
use Rattle.dis_memory.specs.Blocks.{World}
use Rattle.dis_memory.specs.Step.{obey}
use Rattle.value_words.specs.Contents.{AreInRange}
use Rattle.value_words.specs.Facts.{Facts}
use Rattle.value_words.specs.Forms.{Adts}
use Rattle.value_words.proofs.Wholes.{stands_whole}
use Rattle.value_frames.specs.Frames.{Boxed, form_of, room_for, passing_place, reference_place}
use Rattle.value_moves.specs.Changing.{Changes}
use Rattle.value_moves.specs.Operands.{Code, inst, behind, moved}
use Rattle.value_moves.specs.Spots.{Leads}
use Rattle.value_moves.proofs.Leading.{spots_lead}
use Rattle.value_code.specs.Data.{OfRecord}
use Rattle.value_code.specs.Operands.{reference, in_box}
use Rattle.value_code.specs.Code.{Site, code_of}
use Rattle.value_code.specs.Objects.{object_of, of_function, size_at, type_number, blank_site}
use Rattle.value_code.proofs.Having.{objects_have}
use Rattle.number_effects.specs.Giving as passing
use Rattle.number_effects.specs.Giving.{with_word}
use Rattle.number_effects.proofs.Reading.{operands_are_read}
use Rattle.number_effects.proofs.Records.{words_move}
use Rattle.value_follows.specs.Stands.{scope, types_of}
use Rattle.value_follows.specs.Sides.{sides, program, HoldTheSame}
use Rattle.value_follows.specs.Rows.{place, Base, InstrGoes, RowGoes, RowStands, site_of}
use Rattle.value_follows.proofs.Comparing.{one_slot}
use Rattle.value_follows.proofs.Jumps.{row as row_at}
use Rattle.value_follows.proofs.Several.{Next, moved_to}
use Rattle.value_follows.proofs.Single.{nothing_changes}
use Rattle.value_follows.proofs.Slots.{uses}
use Rattle.value_follows.proofs.Standing.{finds, code_here}
use Rattle.process_ways.specs.Ways.{Way}
use Rattle.rows_boxes.specs.Differing.{DiffersFrom}
use Rattle.rows_boxes.specs.Rows.{IsSmall}
use Rattle.rows_boxes.proofs.Boxing.{only_one}
use Rattle.rows_boxes.proofs.Differing.{slots_differ}
use Rattle.rows_boxes.proofs.Giving.{room_laid}
use Rattle.rows_boxes.proofs.Moving.{SourceLies}
use Rattle.rows_boxes.proofs.Passing.{passing_word}
use Rattle.rows_boxes.proofs.Starting.{new_words, new_bare, steps_silently, further}
use Rattle.rows_boxes.proofs.Typed.{MovesWhere, AnyHow, HasPassing, is_sized, sizing, moves_once, moves_twice}
use Rattle.rows_boxes.proofs.Whole.{small_range}
use Rattle.rows_dropping.proofs.Boxed.{BoxIs, box_is, inner_there}
use Rattle.rows_dropping.proofs.Boxes.{lies_in}
use Rattle.rows_making.specs.Rows.{RefsGo}
use Rattle.rows_making.proofs.New.{new_alike, new_changes}
use Rattle.rows_making.proofs.Making.{Making, box_place, making_holds, making_way}
use Rattle.rows_making.proofs.Starting.{world_then, facts_then, process_then, making_then, stored_there, goes_new}
use Rattle.rows_making.proofs.Passing.{passing_leads, passed_goes, making_passed}
use Rattle.rows_making.proofs.Moving.{target_leads, box_room, write_fills, write_goes}
use Rattle.rows_making.proofs.Filling.{reaches_on, full_goes}
use Rattle.rows_making.proofs.Naming.{NamesAdt, names_adt}

-- ---- what it finds

-- an adt, of which it makes a `ref`
record OfAdt (us : List Ty) (t : Ty) : Type 0 where
  adt : ℕ
  one : us ≡ ty.Adt adt ∷ []
  is : IsRefOf adt t

of_adt : (us : List Ty) (t : Ty) → MakesRef us t → OfAdt us t
of_adt (ty.Adt n ∷ []) t h = record { adt = n; one = refl; is = h }
of_adt us t h = absurd h

only_adt : (u : Ty) (n : ℕ) → StandsAs u (ty.Adt n) → u ≡ ty.Adt n
only_adt u n (inl (inl e)) = e
only_adt (ty.RefPick a v) n (inl (inr h)) = absurd cc
only_adt u n (inl (inr h)) = absurd h
only_adt u n (inr h) = absurd h.1

abbrev refs : Ty → (into a : ℕ) → Instr
refs t into a = Give t (Operate OfRef) into (a ∷ [])

record_code : (t : Ty) (into a : ℕ) (c : Site) → code_of c (refs t into a)
    ≡ inst op.New (operand.Imm (pos (c.type_number (OfRecord (item_of t))))) middle.None (reference c.scene into)
    ∷ moved c.scene.adts (item_of t) (c.type_number (OfRecord (item_of t))) (in_box c.scene a 0) (in_box c.scene into 0)
record_code t into a c = refl

-- what the other comes to
abbrev made_so : (m : typed.Module) (w : Shared) (p : code.Process) (into : ℕ) → (of given : Value) → code.Does
made_so m w p into v r =
    Went (record { heap = w.heap ++ Some (source.Record v) ∷ []; outside = w.outside })
    (code.with_frames p (code.at p.frame (suc p.frame.pc) p.frame.variables (core.put p.frame.slots into (Holds r))) p.below)

module _ (m : typed.Module) (b : Base m) (t : Ty) (adt : ℕ) (is : NamesAdt m.adts t adt) (small : IsSmall m (item_of t)) (into a : ℕ)
    (apart : into ≢ a) where
  abbrev item : Ty
  item = item_of t

  abbrev it : Instr
  it = refs t into a

  boxed : form_of item ≡ Boxed
  boxed = ap form_of is.item

  module _ (i : ℕ) (p : code.Process) (here : slice_get p.frame.code p.frame.pc ≡ Some it) (number : ℕ) (f : typed.Function)
      (there : slice_get m.functions number ≡ Some f) (in_code : slice_get (of_function m f).code p.frame.pc ≡ Some it)
      (row : RowStands m number f p.frame.pc it) where
    abbrev site : Site
    site = site_of m number f p.frame.pc row.at

    abbrev size : ℕ
    size = size_at m f.of.answer (of_function m f) p.frame.pc (Some it)

    abbrev On : (j box : ℕ) (inner : List Word) (q : Process) (k : Facts) (x : World) → Type 0
    On j box inner q k x = Making m number f item (Adts adt) into j box inner k i x p q

    module _ (j box : ℕ) (inner : List Word) (q : Process) (k : Facts) (w : Shared) (x : World) (s : On j box inner q k x)
        (hold : HoldTheSame m k i x p q) (worlds : (sides m).worlds k w x) where
      code_now : slice_get (of_function m s.stands.is.function).code p.frame.pc ≡ Some it
      code_now = subst (λ c. slice_get c p.frame.pc ≡ Some it) s.stands.is.code here

      finds_on : Finds (scope m s.stands.is.function) s.stands.is.function.of.answer s.stands.is.known it
      finds_on = finds m s.stands.is.function p.frame.pc s.stands.is.known it s.stands.goes code_now

      uses_on : Uses (length p.frame.slots) it
      uses_on = uses m k i x (into ∷ []) p.frame q.frame s.stands.is p.frame.pc it code_now

      laid : Laid m.adts item (room_for m.adts item)
      laid = room_laid m.adts item finds_on.2.2

      -- the operand's type
      known_so : type_held (held.slot s.stands.is.known a) ≡ Some item
      known_so =
          let of = of_adt finds_on.0 t finds_on.2.0 in
          let these = subst (AreThese s.stands.is.known (a ∷ [])) of.one finds_on.1 in
          let first : IsA s.stands.is.known a (ty.Adt of.adt) = these.0 in
          first.1 ∙ ap (λ (u : Ty). Some u) (only_adt first.0 of.adt first.2 ∙ sym (names_adt m.adts t of.adt of.is).item)

      box_there : BoxIs m k i w x p q (into ∷ []) s.stands.is hold worlds a uses_on.1.0 (λ h. apart (only_one into a h)) item boxed known_so
      box_there = box_is m k i w x p q (into ∷ []) s.stands.is hold worlds a uses_on.1.0 (λ h. apart (only_one into a h)) item boxed known_so

      abbrev source_lies : SourceLies m item k x box_there.value
      source_lies = record {
        words = box_there.inner;
        at = 0;
        lies = lies_in m.adts item laid k box_there.inner box_there.value box_there.boxes;
        led = inner_there m k i w x p q (into ∷ []) s.stands.is hold worlds box_there.block box_there.inner box_there.there;
      }

      source_leads : Leads x q (in_box site.scene a 0) box_there.inner 0
      source_leads =
          let at = reference_place m.adts (types_of m f) a in
          (spots_lead.inner x q at box_there.block box_there.inner 0
          (ap (λ (h : typed.Function). word_at q.frame.words (pos (reference_place m.adts (types_of m h) a))) (sym s.function_is) ∙ box_there.word)
          box_there.there).0

      does : (sides m).program.step w p ≡ made_so m w p into box_there.value (Ref (Some (length w.heap)))
      does =
          ap (code.next frames_limit (program m) w p) here
          ∙ ap (λ (l : Slot). made_so m w p into (fitted m.adts item (core.value_of l)) (fitted m.adts t (Ref (Some (length w.heap))))) box_there.holds
          ∙ ap (λ (v : Value). made_so m w p into v (fitted m.adts t (Ref (Some (length w.heap)))))
          (sym (stands_whole m.adts k box_there.inner 0 item box_there.value source_lies.lies.stands))
          ∙ ap (λ (r : Value). made_so m w p into box_there.value r) (is.fits (length w.heap))

      -- the last instruction moves the value
      last_goes : (so : Process → Type 0) → so q → (last : Inst)
          → MovesWhere m.adts item (type_number m (OfRecord item)) (in_box site.scene a 0) (behind (box_place m number f item (Adts adt) into) 0) so last
          → slice_get (code_of site it) j ≡ Some last → size ≡ suc j → Next m b i p 0 k w x q
      last_goes so now last moves at long =
          let room = box_room m b number f item (Adts adt) into j box inner i p q k w x s hold worlds laid in
          let d = target_leads m b number f item (Adts adt) into j box inner i p q k w x s hold worlds laid in
          let types = objects_have.types m number f p.frame.pc it (OfRecord item) there in_code (inr (inr (inl refl))) in
          let move = moves k frames_limit (object_of m) x q box_there.value box_there.inner inner 0 0 source_leads d source_lies.lies room types now in
          full_goes m b number f item (Adts adt) into j box inner i p q k w x s hold worlds move.0 box_there.value
          (write_fills m b number f item (Adts adt) into j box inner i p q k w x s hold worlds laid box_there.value source_lies move.0 move.1)
          adt is.item refl t (got_by m.adts t (Operate OfRef)) is.reference is.asked is.form (is.names (length w.heap))
          uses_on.0 it here (λ slots. refl) long
          (write_goes m b number f item (Adts adt) into j box inner i p q k w x s hold worlds laid box_there.value source_lies move.0 move.1 last
          (reaches_on m b number f item (Adts adt) into j box inner i p q k w x s hold worlds it row last at) move.2)
          does

      -- a word comes to pass through the frame's linkage, and the way goes on
      passes : (inst : Inst) → slice_get (code_of site it) j ≡ Some inst → (words : List Word) → Changes q.frame.words words passing_place 4
          → AreInRange words
          → obey frames_limit (object_of m) x q inst inst.op
          ≡ passing.after x q (passing_leads m b number f item (Adts adt) into j box inner i p q k w x s).place words
          → (n : ℕ) → suc j < size
          → ((now : Facts) (v : Shared) (y : World) → On (suc j) box inner (moved_to q (suc q.frame.pc) words) now y
          → HoldTheSame m now i y p (moved_to q (suc q.frame.pc) words) → (sides m).worlds now v y
          → Next m b i p n now v y (moved_to q (suc q.frame.pc) words))
          → Next m b i p (suc n) k w x q
      passes inst is words changes ranged obeys n more rest =
          let r = moved_to q (suc q.frame.pc) words in
          let step = passed_goes m b number f item (Adts adt) into j box inner i p q k w x s inst words changes ranged obeys
          (reaches_on m b number f item (Adts adt) into j box inner i p q k w x s hold worlds it row inst is) in
          let making = making_passed m b number f item (Adts adt) into j box inner i p q k w x s inst words changes ranged obeys in
          let live = b.there_again x x q r step worlds.0.closed (λ c h. hold.same.live c (hold.same.roots c h)) in
          steps_silently m b i p (suc n) k k w x x q r step (nothing_changes m k i x) worlds
          (further m b i p number f it there in_code refl j q r more s.pc making.pc)
          (making_way m number f item (Adts adt) into b n (suc j) box inner i p r k x making
          (making_holds m number f item (Adts adt) into b (suc j) box inner i p r k x making w worlds live)
          (λ now v y z h e. rest now v y z h e))

    -- where one instruction does so
    once_goes : is_sized m.adts item ≡ false → size ≡ 2 → (box : ℕ) (q : Process) (k : Facts) (w : Shared) (x : World)
        → On 1 box (new_words m.adts item) q k x → HoldTheSame m k i x p q → (sides m).worlds k w x → Next m b i p 0 k w x q
    once_goes e long box q k w x s hold worlds =
        let move = moves_once m.adts item (type_number m (OfRecord item)) (in_box site.scene a 0) (behind (box_place m number f item (Adts adt) into) 0) boxed e in
        last_goes 1 box (new_words m.adts item) q k w x s hold worlds AnyHow tt move.0 move.2
        (ap (λ (c : Code). slice_get c 1) (record_code t into a site) ∙ ap (λ (c : Code). slice_get c 0) move.1) long

    -- where the size comes first
    twice_goes : is_sized m.adts item ≡ true → size ≡ 3 → (box : ℕ) (q : Process) (k : Facts) (w : Shared) (x : World)
        → On 1 box (new_words m.adts item) q k x → HoldTheSame m k i x p q → (sides m).worlds k w x → Next m b i p 1 k w x q
    twice_goes e long box q k w x s hold worlds =
        let bytes = (room_for m.adts item).size in
        let inner = new_words m.adts item in
        let move = moves_twice m.adts item (type_number m (OfRecord item)) (in_box site.scene a 0) (behind (box_place m number f item (Adts adt) into) 0) boxed e in
        let old = passing_word m.adts (types_of m s.stands.is.function) (length p.frame.slots) q.frame.words s.stands.is.words.kind in
        let stored = words_move.word frames_limit (object_of m) x q (sizing bytes) (Plain (pos bytes)) q.frame.words passing_place
        (passing_leads m b number f item (Adts adt) into 1 box inner i p q k w x s) old.old refl (operands_are_read.source_plain_given x q (pos bytes)) old.plainly in
        passes 1 box inner q k w x s hold worlds (sizing bytes)
        (ap (λ (c : Code). slice_get c 1) (record_code t into a site) ∙ ap (λ (c : Code). slice_get c 0) move.1)
        (with_word q.frame.words passing_place (Plain (pos bytes))) stored.0.changes
        (stored.0.ranged (λ z g. small_range bytes z small g) s.stands.is.words.kind.ranged)
        stored.1 0 (subst (λ (n : ℕ). 2 < n) (sym long) (omega arith))
        (λ now v y u h g.
        last_goes 2 box inner _ now v y u h g (HasPassing bytes) (ap (λ a. a >>= number_in) stored.0.there) move.0 move.2
        (ap (λ (c : Code). slice_get c 2) (record_code t into a site) ∙ ap (λ (c : Code). slice_get c 1) move.1) long)

  -- ---- the first instruction makes the record

  starts : (n : ℕ) → ((f : typed.Function) (pc : ℕ) → 1 < size_at m f.of.answer (of_function m f) pc (Some it))
      → (k : Facts) (i : ℕ) (x : World) (p : code.Process) (q : Process) → (sides m).ready k i x p q
      → slice_get p.frame.code p.frame.pc ≡ Some it
      → ((number : ℕ) (f : typed.Function) (there : slice_get m.functions number ≡ Some f)
      (in_code : slice_get (of_function m f).code p.frame.pc ≡ Some it) (row : RowStands m number f p.frame.pc it)
      (box : ℕ) (r : Process) (now : Facts) (w : Shared) (y : World) → Making m number f item (Adts adt) into 1 box (new_words m.adts item) now i y p r
      → HoldTheSame m now i y p r → (sides m).worlds now w y → Next m b i p n now w y r)
      → Way (sides m) (place m) (suc (suc n)) k i x p q
  starts n long k i x p q r here rest = (
    r.1,
    λ now y w left hold worlds.
        let ready = (b.ready_later k now i x y p q r.0 left hold).0 in
        let fr = ready.stands.is in
        let in_code = code_here m now i y p q ready it here in
        let found = finds m fr.function p.frame.pc fr.known it ready.stands.goes in_code in
        let few = (uses m now i y [] p.frame q.frame fr p.frame.pc it in_code).0 in
        let lies = room_laid m.adts item found.2.2 in
        let row = row_at m b now i w y p q ready hold worlds it here in
        let type = type_number m (OfRecord item) in
        let typed_so = objects_have.types m fr.number fr.function p.frame.pc it (OfRecord item) fr.there in_code (inr (inr (inl refl))) in
        let stored = stored_there m b now i w y p q ready hold worlds it here item (Adts adt) lies into few found.3 type typed_so in
        let step = goes_new m b now i w y p q ready hold worlds it here item (Adts adt) lies into few found.3 type typed_so
        (ap (λ (l : Code). slice_get l 0) (record_code t into a (site_of m fr.number fr.function p.frame.pc row.at))) in
        let making = making_then m b now i w y p q ready hold worlds it here item (Adts adt) lies into few found.3 stored in
        let facts = facts_then m b now i w y p q ready hold worlds it here item (Adts adt) lies into few found.3 in
        let world = world_then m b now i w y p q ready hold worlds it here item (Adts adt) lies into few found.3 in
        let r = process_then m b now i w y p q ready hold worlds it here item (Adts adt) lies into few found.3 in
        let alike = new_alike m i now w y worlds (Adts adt) (new_words m.adts item) (new_bare m.adts item) in
        let live = b.there_again y world q r step worlds.0.closed (λ c h. hold.same.live c (hold.same.roots c h)) in
        steps_silently m b i p (suc n) now facts w y world q r step
        (new_changes m i now w y worlds (Adts adt) (new_words m.adts item) (new_bare m.adts item)) alike
        (further m b i p fr.number fr.function it fr.there in_code refl 0 q r (long fr.function p.frame.pc)
        (let e = ready.pc in omega (arith, e)) (let e = ready.pc in omega (arith, e)))
        (making_way m fr.number fr.function item (Adts adt) into b n 1 _ (new_words m.adts item) i p r facts world making
        (making_holds m fr.number fr.function item (Adts adt) into b 1 _ (new_words m.adts item) i p r facts world making w alike live)
        (λ then v z s h e. rest fr.number fr.function fr.there in_code row _ r then v z s h e)),
  )

  -- ---- the row

  length_is : (f : typed.Function) (pc : ℕ) → size_at m f.of.answer (of_function m f) pc (Some it)
      ≡ suc (length (moved m.adts item 0 (in_box (blank_site m f.of.answer (of_function m f) pc).scene a 0)
      (in_box (blank_site m f.of.answer (of_function m f) pc).scene into 0)))
  length_is f pc = ap (λ (c : Code). length c) (record_code t into a (blank_site m f.of.answer (of_function m f) pc))

  once : is_sized m.adts item ≡ false → (f : typed.Function) (pc : ℕ) → size_at m f.of.answer (of_function m f) pc (Some it) ≡ 2
  once e f pc =
      length_is f pc
      ∙ ap (λ (c : Code). suc (length c)) (moves_once m.adts item 0 (in_box (blank_site m f.of.answer (of_function m f) pc).scene a 0)
      (in_box (blank_site m f.of.answer (of_function m f) pc).scene into 0) boxed e).1

  twice : is_sized m.adts item ≡ true → (f : typed.Function) (pc : ℕ) → size_at m f.of.answer (of_function m f) pc (Some it) ≡ 3
  twice e f pc =
      length_is f pc
      ∙ ap (λ (c : Code). suc (length c)) (moves_twice m.adts item 0 (in_box (blank_site m f.of.answer (of_function m f) pc).scene a 0)
      (in_box (blank_site m f.of.answer (of_function m f) pc).scene into 0) boxed e).1

  ref_goes : InstrGoes m it
  ref_goes k i x p q ready here = go (is_sized m.adts item) refl
    where
      go : (c : Bool) → is_sized m.adts item ≡ c → RowGoes m k i x p q
      go false e = (
        1,
        starts 0 (λ f pc. subst (λ (n : ℕ). 1 < n) (sym (once e f pc)) (omega arith)) k i x p q ready here
            (λ number f there in_code row box r now w y s hold worlds.
            once_goes i p here number f there in_code row e (once e f p.frame.pc) box r now w y s hold worlds),
      )
      go true e = (
        2,
        starts 1 (λ f pc. subst (λ (n : ℕ). 1 < n) (sym (twice e f pc)) (omega arith)) k i x p q ready here
            (λ number f there in_code row box r now w y s hold worlds.
            twice_goes i p here number f there in_code row e (twice e f p.frame.pc) box r now w y s hold worlds),
      )

pub refs_go : RefsGo
refs_go m b t into from small k i x p q ready here =
    let it = Give t (Operate OfRef) into from in
    let r = ready.0 in
    let known = r.stands.is.known in
    let in_code = code_here m k i x p q r it here in
    let found = finds m r.stands.is.function p.frame.pc known it r.stands.goes in_code in
    let of = of_adt found.0 t found.2.0 in
    let slot = one_slot known from (ty.Adt of.adt) (subst (AreThese known from) of.one found.1) in
    let differ = subst (DiffersFrom into) slot.1 (slots_differ m r.stands.is.function p.frame.pc it in_code) in
    ref_goes m b t of.adt (names_adt m.adts t of.adt of.is) small into slot.0 differ.0 k i x p q ready
    (here ∙ ap (λ (rs : List ℕ). Some (Give t (Operate OfRef) into rs)) slot.1)
