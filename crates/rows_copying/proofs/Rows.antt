-- The row that copies elements of an array over others.
use Rattle.std.proofs.Common.{◌≡◌, ℕ, ℤ, pos, negsuc, zero, suc, ◌+◌, ◌*◌, ◌/◌, ◌<◌, ◌≤◌, Bool, true, false, List, [], ◌∷◌, length, Option, Some, None, refl, sym, ap, ◌∙◌, subst, arith, rules, tests, inl, inr, if◌then◌else◌}
use Rattle.std.specs.Prelude.{Result, Ok, Err, slice_get, slice_set, slice_range, nat_le, ◌&&◌}
use Rattle.inf_text.specs.Steps.{◌>>=◌}
use Rattle.process_model.specs.Process.{Ends}
use Rattle.heap_model.specs.Heap.{Heap, at, at as at_name, in_one, there}
use Rattle.system_model.specs.Ending.{Broken}
use Rattle.system_model.specs.Limits.{frames_limit}
use Rattle.limbo_types.specs.Types.{Ty}
use Rattle.limbo_layout.specs.Layout.{Room}
use Rattle.limbo_values.specs.declared.number.Kind.TheVariants.{Int}
use Rattle.limbo_values.specs.declared.raised.Raised.{Raised}
use Rattle.limbo_values.specs.declared.raised.Raised.TheVariants.{ArrayBounds}
use Rattle.limbo_values.specs.Operators.{text_of}
use Rattle.limbo_values.specs.Texts.{bounds_in}
use Rattle.limbo_typed.specs.Typed as typed
use Rattle.limbo_meaning.specs.Exceptions.{Raising, with_text}
use Rattle.limbo_meaning.specs.Memory as source
use Rattle.limbo_meaning.specs.Memory.{HeapValue, Memory, with_heap, changed, elements_in}
use Rattle.limbo_meaning.specs.Operations.{copied, copied_into, elements_of, long_of, overwritten}
use Rattle.limbo_meaning.specs.Process.{Shared}
use Rattle.limbo_meaning.specs.Values as value
use Rattle.limbo_meaning.specs.Values.{Value, part_of, number_of}
use Rattle.core_code.specs.Code.{Instr, CopyInto}
use Rattle.core_code.specs.Machine as code
use Rattle.core_code.specs.Slots as core
use Rattle.core_typing.specs.Held as held
use Rattle.dis_isa.specs.declared.inst.Inst.{Inst}
use Rattle.dis_isa.specs.declared.inst.Middle.{Middle}
use Rattle.dis_isa.specs.declared.inst.Operand as isa
use Rattle.dis_isa.specs.declared.op.Op.TheVariants as op
use Rattle.dis_meaning.specs.Words.{Word, Refer, Found, Raises}
use Rattle.dis_meaning.specs.Process.{Process}
use Rattle.dis_file.specs.declared.types.TypeDesc.{TypeDesc}
use Rattle.dis_memory.specs.Arrays.{end_from, are_alike}
use Rattle.dis_memory.specs.Blocks.{Array, Block, World, with_changed, refers}
use Rattle.dis_memory.specs.Copies.{taken as taken_words, put as put_words, moved as moved_bytes}
use Rattle.dis_memory.specs.Places.{memory, given_of}
use Rattle.dis_memory.specs.Process.{next}
use Rattle.dis_memory.specs.Step.{obey}
use Rattle.value_words.specs.Facts.{Facts}
use Rattle.value_heaps.specs.Types.{desc_of}
use Rattle.value_heaps.proofs.Words.{named_by}
use Rattle.value_frames.specs.Frames.{number_place, reference_place, room_for}
use Rattle.value_moves.specs.Operands.{inst, own, of_own}
use Rattle.value_moves.specs.Writing.{Writes}
use Rattle.value_code.specs.Objects.{object_of, globals, constants}
use Rattle.number_effects.proofs.Reading.{operands_are_read}
use Rattle.number_effects.proofs.Stepping.{steps_obey}
use Rattle.block_effects.proofs.Arrays.{arrays_come}
use Rattle.value_follows.specs.Stands.{Ready, GoesOn, types_of}
use Rattle.value_follows.specs.Sides.{sides, contents, HoldTheSame, program}
use Rattle.value_follows.specs.Rows.{Base}
use Rattle.value_follows.proofs.Standing.{finds, code_here, at_slots, at_words, ready_at}
use Rattle.value_follows.proofs.Slots.{uses, number_is}
use Rattle.value_follows.proofs.Jumps.{behind_it, next_place}
use Rattle.value_follows.proofs.Single.{Once, both_go}
use Rattle.rows_places.proofs.Going.{going_on}
use Rattle.rows_places.proofs.Last.{begins_at, reaches_here, raised_here}
use Rattle.rows_places.proofs.Arrays.{ArrayHere, array_here, reads_none, ElementsRead, reads_some}
use Rattle.rows_places.proofs.Changing.{changed_is}
use Rattle.rows_places.proofs.Wholes.{written_from}
use Rattle.rows_copying.specs.Rows.{CopyIntosGo}
use Rattle.rows_copying.proofs.Lists.{range_long, range_at, over_none}
use Rattle.rows_copying.proofs.Blocks.{AreLaid, are_laid, copied_stands}
use Rattle.rows_copying.proofs.Words.{words_go, bytes_go, refers_so, refers_not, alike}
use Rattle.rows_copying.proofs.Changing.{both_change}

-- ---- bounds

both_so : (a b : Bool) → (a && b) ≡ true → (a ≡ true) × (b ≡ true)
both_so true b e = (refl, e)
both_so false b e = absurd cc

no_more : (a b : ℕ) → nat_le a b ≡ true → a ≤ b
no_more a b h = search (rules, tests, h)

-- so many are there from the first bound on
bounds_fit : (count : ℕ) (z : ℤ) (n : ℕ) (b : ℕ × ℕ) → bounds_in count z (end_from z n) ≡ Ok b → b.0 + n ≤ count
bounds_fit count (pos i) n b e = go (nat_le i (i + n) && nat_le (i + n) count) refl e
  where
    go : (c : Bool) → (nat_le i (i + n) && nat_le (i + n) count) ≡ c → (if c then Ok (i, i + n) else Err ArrayBounds) ≡ Ok b → b.0 + n ≤ count
    go true f g =
        let same : i ≡ b.0 = ap (λ (r : Result (ℕ × ℕ) Raised). first r) g in
        let l = no_more (i + n) count (both_so (nat_le i (i + n)) (nat_le (i + n) count) f).1 in
        omega (arith, same, l)
      where
        first : Result (ℕ × ℕ) Raised → ℕ
        first (Ok c) = c.0
        first (Err r) = 0
    go false f g = absurd cc
bounds_fit count (negsuc i) n b e = absurd cc

-- ---- what the source does

copied_by : Memory → Option value.Part → List Value → Result (ℕ × ℕ) Raised → Raising Memory
copied_by store a ys r = with_text r >>= λ b. Ok (copied_into store a ys b)

copied_is : (store : Memory) (a : Option value.Part) (z : ℤ) (ys : List Value) (r : Result (ℕ × ℕ) Raised)
    → bounds_in (long_of a) z (end_from z (length ys)) ≡ r → copied store a z ys ≡ (with_text r >>= λ b. Ok (copied_into store a ys b))
copied_is store a (pos i) ys r e = ap (λ (r : Result (ℕ × ℕ) Raised). with_text r >>= λ b. Ok (copied_into store a ys b)) e
copied_is store a (negsuc i) ys r e = ap (λ (r : Result (ℕ × ℕ) Raised). with_text r >>= λ b. Ok (copied_into store a ys b)) e

set_same : {A : Type 0} (h : Heap A) (n : ℕ) (v : A) → at h n ≡ Some v → slice_set h n (Some v) ≡ h
set_same [] n v e = refl
set_same (o ∷ h) zero v e = ap (λ o. o ∷ h) (sym e)
set_same (o ∷ h) (suc n) v e = ap (λ h. o ∷ h) (set_same h n v e)

module _ (m : typed.Module) (b : Base m) (i : ℕ) (p : code.Process) (array start from : ℕ)
    (here : slice_get p.frame.code p.frame.pc ≡ Some (CopyInto array start from))
    (k : Facts) (w : Shared) (x : World) (q : Process) (ready : Ready m k i x p q) (hold : HoldTheSame m k i x p q) (worlds : (sides m).worlds k w x) where
  abbrev instr : Instr
  instr = CopyInto array start from

  abbrev f : typed.Function
  f = ready.stands.is.function

  abbrev known : held.Slots
  known = ready.stands.is.known

  abbrev store : Memory
  store = code.memory_of w p.frame

  abbrev ts : List Ty
  ts = types_of m f

  so_far : q.frame.pc ≡ q.frame.pc + 0
  so_far = omega arith

  goes : GoesOn m f (suc p.frame.pc) known
  goes = behind_it m b k i w x p q ready hold worlds instr here 0 (suc p.frame.pc) known (omega arith) refl

  abbrev comes : Raising Memory → code.Does
  comes r = code.unless_raised frames_limit (program m) w p r (λ n. code.goes_with w p n p.frame.slots)

  abbrev from_operand : isa.Operand
  from_operand = own (reference_place m.adts ts from)

  abbrev array_operand : isa.Operand
  array_operand = own (reference_place m.adts ts array)

  abbrev at_start : Middle
  at_start = of_own (number_place m.adts ts start)

  abbrev copy : Inst
  copy = inst op.Slicela from_operand at_start array_operand

  begins : begins_at m b k i w x p q ready hold worlds instr here q.frame.pc q.printing 0 so_far copy
  begins = refl

  module _ (item : Ty) (a : ArrayHere m k i w x p q ready hold worlds q.frame.pc q.printing array item)
      (c : ArrayHere m k i w x p q ready hold worlds q.frame.pc q.printing from item)
      (z : ℤ) (number : number_of (core.value_of (core.slot p.frame.slots start)) ≡ z) (given : given_of Int x q at_start ≡ Found z) where
    does_so : (pa pf : Option value.Part) → a.array.part ≡ pa → c.array.part ≡ pf
        → (sides m).program.step w p ≡ comes (copied store pa z (elements_of store pf))
    does_so pa pf e g =
        ap (code.next frames_limit (program m) w p) here
        ∙ ap (λ (o : Option value.Part). comes (copied store o (number_of (core.value_of (core.slot p.frame.slots start)))
        (elements_of store (part_of (core.value_of (core.slot p.frame.slots from)))))) (ap part_of a.holds ∙ a.array.is ∙ e)
        ∙ ap (λ (n : ℤ). comes (copied store pa n (elements_of store (part_of (core.value_of (core.slot p.frame.slots from)))))) number
        ∙ ap (λ (o : Option value.Part). comes (copied store pa z (elements_of store o))) (ap part_of c.holds ∙ c.array.is ∙ g)

    -- both end as broken
    stops : (raised : Raised) → obey frames_limit (object_of m) x q copy op.Slicela ≡ Raises (text_of raised)
        → (sides m).program.step w p ≡ Ends w (Broken (text_of raised)) → Once m b i p q k w x
    stops raised obeys does =
        raised_here m b k i w x p q ready hold worlds instr here q.frame.pc q.printing 0 so_far copy begins (text_of raised) obeys does

    -- nothing changes
    stays : obey frames_limit (object_of m) x q copy op.Slicela ≡ Found (next (memory x q))
        → (sides m).program.step w p ≡ code.goes_with w p store p.frame.slots → Once m b i p q k w x
    stays obeys does =
        both_go m b i p q k w x hold worlds (at_slots m k i x p q ready (suc p.frame.pc) p.frame.slots)
        (at_words m k i x p q ready (suc q.frame.pc) q.frame.words)
        (steps_obey.goes_on frames_limit (object_of m ∷ []) x q (object_of m) copy (memory x q)
        (reaches_here m b k i w x p q ready hold worlds instr here q.frame.pc q.printing 0 so_far copy begins) obeys)
        does
        (ready_at m k i x p q ready (suc p.frame.pc) (suc q.frame.pc) goes
        (let e = next_place m b k i w x p q ready hold worlds instr here 1 refl in omega (arith, e)))

    -- elements that are there
    elements_are : (part : value.Part) {r : ℕ} (h : ArrayHere m k i w x p q ready hold worlds q.frame.pc q.printing r item)
        → (read : ElementsRead m k i w x p q ready hold worlds q.frame.pc q.printing r item h part)
        → elements_of store (Some part) ≡ slice_range read.leads.vs read.es.start (read.es.start + read.es.long)
    elements_are part h read =
        ap (λ (o : Option HeapValue). slice_range (elements_in o) part.start (part.start + part.long)) read.leads.is
        ∙ ap (λ n. slice_range read.leads.vs n (n + part.long)) (sym read.leads.start)
        ∙ ap (λ n. slice_range read.leads.vs read.es.start (read.es.start + n)) (sym read.leads.long)

    within_all : (part : value.Part) {r : ℕ} (h : ArrayHere m k i w x p q ready hold worlds q.frame.pc q.printing r item)
        → (read : ElementsRead m k i w x p q ready hold worlds q.frame.pc q.printing r item h part)
        → read.es.start + read.es.long ≤ length read.leads.vs
    within_all part h read = let s = read.leads.start in let l = read.leads.long in let n = read.leads.within in omega (arith, s, l, n)

    elements_long : (part : value.Part) {r : ℕ} (h : ArrayHere m k i w x p q ready hold worlds q.frame.pc q.printing r item)
        → (read : ElementsRead m k i w x p q ready hold worlds q.frame.pc q.printing r item h part)
        → length (elements_of store (Some part)) ≡ read.es.long
    elements_long part h read =
        let all = within_all part h read in
        let l = range_long read.leads.vs read.es.start (read.es.start + read.es.long) (omega arith) all in
        ap (λ (xs : List Value). length xs) (elements_are part h read) ∙ (let f : length (slice_range read.leads.vs read.es.start (read.es.start + read.es.long)) ≡ read.es.long = omega (arith, l) in f)

    module _ (pa pf : value.Part) (e : a.array.part ≡ Some pa) (g : c.array.part ≡ Some pf)
        (to : ElementsRead m k i w x p q ready hold worlds q.frame.pc q.printing array item a pa)
        (taken : ElementsRead m k i w x p q ready hold worlds q.frame.pc q.printing from item c pf) where
      abbrev r : Room
      r = room_for m.adts item

      abbrev vs : List Value
      vs = to.leads.vs

      abbrev us : List Value
      us = slice_range taken.leads.vs taken.es.start (taken.es.start + taken.es.long)

      all_to : (length vs ≡ length vs) × (length vs ≡ length vs) × (to.es.element ≡ desc_of (room_for m.adts item))
          × AreLaid m.adts k item to.es.words vs (room_for m.adts item)
      all_to = are_laid m.adts (globals m) (constants m) k to.es.array item to.es.element (length vs) (length vs) to.es.words vs to.leads.stands.0 to.leads.formed

      all_taken : (length taken.leads.vs ≡ length taken.leads.vs) × (length taken.leads.vs ≡ length taken.leads.vs)
          × (taken.es.element ≡ desc_of (room_for m.adts item)) × AreLaid m.adts k item taken.es.words taken.leads.vs (room_for m.adts item)
      all_taken =
          are_laid m.adts (globals m) (constants m) k taken.es.array item taken.es.element (length taken.leads.vs) (length taken.leads.vs) taken.es.words
          taken.leads.vs taken.leads.stands.0 taken.leads.formed

      us_long : length us ≡ taken.es.long
      us_long =
          let l = range_long taken.leads.vs taken.es.start (taken.es.start + taken.es.long) (omega arith) (within_all pf c taken) in
          omega (arith, l)

      -- both are of one type
      one_type : are_alike taken.es.element to.es.element ≡ true
      one_type =
          ap (λ (d : TypeDesc). are_alike d to.es.element) all_taken.2 ∙ ap (λ (d : TypeDesc). are_alike (desc_of r) d) all_to.2 ∙ alike (desc_of r)

      inner_there : (n u wd : ℕ) (desc : TypeDesc) (long : ℕ) (ws : List Word) → at_name x.heap n ≡ Some (Array desc long ws)
          → slice_get ws wd ≡ Some (Refer (Some u)) → there (at_name x.heap u) ≡ true
      inner_there n u wd desc long ws f h =
          worlds.0.closed.closed n u (ap there f) (subst (λ (o : Option Block). 0 < in_one (contents m).words o u) (sym f) (named_by ws wd u h))

      module _ (bounds : ℕ × ℕ) (h : bounds_in pa.long z (end_from z (length (elements_of store (Some pf)))) ≡ Ok bounds) where
        abbrev there_at : ℕ
        there_at = to.es.start + bounds.0

        fits : there_at + taken.es.long ≤ length vs
        fits =
            let l = bounds_fit pa.long z (length (elements_of store (Some pf))) bounds h in
            let long = elements_long pf c taken in
            let s = to.leads.start in
            let n = to.leads.within in
            omega (arith, l, long, s, n)

        same_bounds : bounds_in to.es.long z (end_from z taken.es.long) ≡ Ok bounds
        same_bounds =
            ap (λ n. bounds_in n z (end_from z taken.es.long)) to.leads.long ∙ ap (λ n. bounds_in pa.long z (end_from z n)) (sym (elements_long pf c taken)) ∙ h

        new : List Value
        new = overwritten vs there_at us

        does : (sides m).program.step w p
            ≡ code.goes_with w p (with_heap store (changed w.heap pa.array (source.Elements (overwritten vs there_at us)))) p.frame.slots
        does =
            does_so (Some pa) (Some pf) e g ∙ ap comes (copied_is store (Some pa) z (elements_of store (Some pf)) (Ok bounds) h)
            ∙ ap (λ (o : Option HeapValue). code.goes_with w p (with_heap store (changed w.heap pa.array (source.Elements
            (overwritten (elements_in o) (pa.start + bounds.0) (elements_of store (Some pf)))))) p.frame.slots) to.leads.is
            ∙ ap (λ (xs : List Value). code.goes_with w p (with_heap store (changed w.heap pa.array (source.Elements (overwritten vs (pa.start + bounds.0) xs)))) p.frame.slots)
            (elements_are pf c taken)
            ∙ ap (λ n. code.goes_with w p (with_heap store (changed w.heap pa.array (source.Elements (overwritten vs (n + bounds.0) us)))) p.frame.slots)
            (sym to.leads.start)

        -- once other words stand in the block
        changes : (others : List Word) → Writes to.es.words others (there_at * (room_for m.adts item).size) taken.es.words
            (taken.es.start * (room_for m.adts item).size) (taken.es.long * (room_for m.adts item).size)
            → obey frames_limit (object_of m) x q copy op.Slicela
            ≡ Found (next (memory (with_changed x to.es.array (Array (desc_of (room_for m.adts item)) (length vs) others)) q)) → Once m b i p q k w x
        changes others writes obeys =
            let few : there_at + length us ≤ length vs = let l = us_long in let n = fits in omega (arith, l, n) in
            let stands = copied_stands m.adts (globals m) (constants m) k to.es.array item to.es.words others taken.es.words vs us taken.es.start there_at all_to.3
            to.leads.formed few
            (subst (λ n. Writes to.es.words others (there_at * r.size) taken.es.words (taken.es.start * r.size) (n * r.size)) (sym us_long) writes)
            all_taken.3.whole.1
            (λ j v f. all_taken.3.each (taken.es.start + j) v (range_at taken.leads.vs taken.es.start (taken.es.start + taken.es.long) j v f)) in
            both_change m b k i w x p q ready hold worlds instr here q.frame.pc q.printing 0 so_far refl pa.array to.es.array to.leads.named
            (source.Elements vs) (source.Elements (overwritten vs there_at us)) to.leads.is (desc_of r) (length vs) to.es.words others
            (to.leads.found ∙ ap (λ (d : TypeDesc). Some (Array d (length vs) to.es.words)) all_to.2) (stands, tt)
            (λ u wd f. elim (written_from to.es.words others taken.es.words (there_at * r.size) (taken.es.start * r.size) (taken.es.long * r.size) writes u wd f) [
              | inl was ↦ inner_there to.es.array u wd to.es.element (length vs) to.es.words to.leads.found was
              | inr now ↦ inner_there taken.es.array u now.0 taken.es.element (length taken.leads.vs) taken.es.words taken.leads.found now.1
            ])
            copy begins obeys does goes

        by_kind : (refer : Bool) → refers (desc_of (room_for m.adts item)) ≡ refer → Once m b i p q k w x
        by_kind true f =
            let o = refers_so m.adts item r all_to.3.laid f in
            let go = words_go m.adts k item r taken.es.words to.es.words taken.leads.vs vs all_taken.3 all_to.3 taken.es.start there_at taken.es.long
            (within_all pf c taken) fits o.0 o.1 in
            changes go.others go.writes
            ((arrays_come frames_limit (object_of m) x q).copy.words from_operand array_operand at_start z taken.es to.es bounds (desc_of r) (length vs)
            to.es.words go.taken go.others taken.read given to.read one_type same_bounds
            (ap (λ (d : TypeDesc). refers d) all_taken.2 ∙ f)
            (ap (λ (d : TypeDesc). taken_words taken.es.words (taken.es.start * (d.size / 4)) (taken.es.long * (d.size / 4))) all_taken.2 ∙ go.is_taken)
            (ap (λ (d : TypeDesc). put_words to.es.words (there_at * (d.size / 4)) go.taken) all_to.2 ∙ go.is_put)
            (to.leads.found ∙ ap (λ (d : TypeDesc). Some (Array d (length vs) to.es.words)) all_to.2))
        by_kind false f =
            let go = bytes_go m.adts k item r taken.es.words to.es.words taken.leads.vs vs all_taken.3 all_to.3 taken.es.start there_at taken.es.long
            (within_all pf c taken) fits (refers_not m.adts item r all_to.3.laid f) in
            changes go.others go.writes
            ((arrays_come frames_limit (object_of m) x q).copy.bytes from_operand array_operand at_start z taken.es to.es bounds (desc_of r) (length vs)
            to.es.words go.others taken.read given to.read one_type same_bounds
            (ap (λ (d : TypeDesc). refers d) all_taken.2 ∙ f)
            (ap (λ (d : TypeDesc). moved_bytes taken.es.words (taken.es.start * d.size) to.es.words (there_at * to.es.element.size) (taken.es.long * d.size)) all_taken.2
            ∙ ap (λ (d : TypeDesc). moved_bytes taken.es.words (taken.es.start * r.size) to.es.words (there_at * d.size) (taken.es.long * r.size)) all_to.2
            ∙ go.is_moved)
            (to.leads.found ∙ ap (λ (d : TypeDesc). Some (Array d (length vs) to.es.words)) all_to.2))

      over : (n : Result (ℕ × ℕ) Raised) → bounds_in pa.long z (end_from z (length (elements_of store (Some pf)))) ≡ n → Once m b i p q k w x
      over (Ok bounds) h = by_kind bounds h (refers (desc_of r)) refl
      over (Err raised) h =
          stops raised ((arrays_come frames_limit (object_of m) x q).copy.outside from_operand array_operand at_start z taken.es to.es raised taken.read given
          to.read one_type
          (ap (λ n. bounds_in n z (end_from z taken.es.long)) to.leads.long ∙ ap (λ n. bounds_in pa.long z (end_from z n)) (sym (elements_long pf c taken)) ∙ h))
          (does_so (Some pa) (Some pf) e g ∙ ap comes (copied_is store (Some pa) z (elements_of store (Some pf)) (Err raised) h))

    copies : (pa pf : Option value.Part) → a.array.part ≡ pa → c.array.part ≡ pf → Once m b i p q k w x
    copies None None e g = by (bounds_in 0 z (end_from z 0)) refl
      where
        by : (r : Result (ℕ × ℕ) Raised) → bounds_in 0 z (end_from z 0) ≡ r → Once m b i p q k w x
        by (Ok bounds) h =
            stays ((arrays_come frames_limit (object_of m) x q).copy.from_nil from_operand array_operand at_start z None bounds
            (reads_none m k i w x p q ready hold worlds q.frame.pc q.printing from item c g) given
            (reads_none m k i w x p q ready hold worlds q.frame.pc q.printing array item a e) h)
            (does_so None None e g ∙ ap comes (copied_is store None z [] (Ok bounds) h))
        by (Err raised) h =
            stops raised ((arrays_come frames_limit (object_of m) x q).copy.outside_from_nil from_operand array_operand at_start z None raised
            (reads_none m k i w x p q ready hold worlds q.frame.pc q.printing from item c g) given
            (reads_none m k i w x p q ready hold worlds q.frame.pc q.printing array item a e) h)
            (does_so None None e g ∙ ap comes (copied_is store None z [] (Err raised) h))
    copies None (Some pf) e g = by (bounds_in 0 z (end_from z (length (elements_of store (Some pf))))) refl
      where
        read : ElementsRead m k i w x p q ready hold worlds q.frame.pc q.printing from item c pf
        read = reads_some m k i w x p q ready hold worlds q.frame.pc q.printing from item c pf g

        long : length (elements_of store (Some pf)) ≡ read.es.long
        long = elements_long pf c read

        by : (r : Result (ℕ × ℕ) Raised) → bounds_in 0 z (end_from z (length (elements_of store (Some pf)))) ≡ r → Once m b i p q k w x
        by (Ok bounds) h =
            stays ((arrays_come frames_limit (object_of m) x q).copy.into_nil from_operand array_operand at_start z (Some read.es) bounds read.read given
            (reads_none m k i w x p q ready hold worlds q.frame.pc q.printing array item a e)
            (ap (λ n. bounds_in 0 z (end_from z n)) (sym long) ∙ h))
            (does_so None (Some pf) e g ∙ ap comes (copied_is store None z (elements_of store (Some pf)) (Ok bounds) h))
        by (Err raised) h =
            stops raised ((arrays_come frames_limit (object_of m) x q).copy.outside_nil from_operand array_operand at_start z (Some read.es) raised read.read given
            (reads_none m k i w x p q ready hold worlds q.frame.pc q.printing array item a e)
            (ap (λ n. bounds_in 0 z (end_from z n)) (sym long) ∙ h))
            (does_so None (Some pf) e g ∙ ap comes (copied_is store None z (elements_of store (Some pf)) (Err raised) h))
    copies (Some pa) None e g = by (bounds_in pa.long z (end_from z 0)) refl
      where
        read : ElementsRead m k i w x p q ready hold worlds q.frame.pc q.printing array item a pa
        read = reads_some m k i w x p q ready hold worlds q.frame.pc q.printing array item a pa e

        same : (at : ℕ) → changed w.heap pa.array (source.Elements (overwritten (elements_in (at_name w.heap pa.array)) at [])) ≡ w.heap
        same at =
            ap (λ (xs : List Value). changed w.heap pa.array (source.Elements xs))
            (over_none (elements_in (at_name w.heap pa.array)) at ∙ ap (λ (o : Option HeapValue). elements_in o) read.leads.is)
            ∙ changed_is w.heap pa.array (source.Elements read.leads.vs) (source.Elements read.leads.vs) read.leads.is
            ∙ set_same w.heap pa.array (source.Elements read.leads.vs) read.leads.is

        by : (r : Result (ℕ × ℕ) Raised) → bounds_in pa.long z (end_from z 0) ≡ r → Once m b i p q k w x
        by (Ok bounds) h =
            stays ((arrays_come frames_limit (object_of m) x q).copy.from_nil from_operand array_operand at_start z (Some read.es) bounds
            (reads_none m k i w x p q ready hold worlds q.frame.pc q.printing from item c g) given read.read
            (ap (λ n. bounds_in n z (end_from z 0)) read.leads.long ∙ h))
            (does_so (Some pa) None e g ∙ ap comes (copied_is store (Some pa) z [] (Ok bounds) h)
            ∙ ap (λ (heap : Heap HeapValue). code.goes_with w p (with_heap store heap) p.frame.slots) (same (pa.start + bounds.0)))
        by (Err raised) h =
            stops raised ((arrays_come frames_limit (object_of m) x q).copy.outside_from_nil from_operand array_operand at_start z (Some read.es) raised
            (reads_none m k i w x p q ready hold worlds q.frame.pc q.printing from item c g) given read.read
            (ap (λ n. bounds_in n z (end_from z 0)) read.leads.long ∙ h))
            (does_so (Some pa) None e g ∙ ap comes (copied_is store (Some pa) z [] (Err raised) h))
    copies (Some pa) (Some pf) e g =
        over pa pf e g (reads_some m k i w x p q ready hold worlds q.frame.pc q.printing array item a pa e)
        (reads_some m k i w x p q ready hold worlds q.frame.pc q.printing from item c pf g)
        (bounds_in pa.long z (end_from z (length (elements_of store (Some pf))))) refl

  pub copied_into_array : Once m b i p q k w x
  copied_into_array =
      let row_is = code_here m k i x p q ready instr here in
      let found = finds m f p.frame.pc known instr ready.stands.goes row_is in
      let used = uses m k i x [] p.frame q.frame ready.stands.is p.frame.pc instr row_is in
      let n = number_is m k i x [] p.frame q.frame ready.stands.is Int start refl used.1 (λ e. e) found.2 in
      let a = array_here m k i w x p q ready hold worlds q.frame.pc q.printing array found.0 used.0 found.1 in
      let c = array_here m k i w x p q ready hold worlds q.frame.pc q.printing from found.0 used.2 found.3 in
      copies found.0 a c n.number (ap (λ (l : core.Slot). number_of (core.value_of l)) n.holds)
      (operands_are_read.own_number x q Int (number_place m.adts ts start) ∙ n.found) a.array.part c.array.part refl refl

pub copy_intos_go : CopyIntosGo
copy_intos_go m b array start from k i x p q ready here = (
  0,
  going_on m b i p q q (λ n. refl) 0 k x ready.0 ready.1 (λ now w y s grows same hold worlds.
      copied_into_array m b i p array start from here now w y q s hold worlds),
)
