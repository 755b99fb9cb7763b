-- Rows of slices: two instructions, or three, where the end isn't written.
use Rattle.std.proofs.Common.{◌≡◌, ℕ, ℤ, suc, pos, ◌<◌, Bool, true, false, if◌then◌else◌, List, [], ◌∷◌, ◌++◌, length, Option, Some, None, refl, sym, ap, ◌∙◌, subst, arith, inl, inr}
use Rattle.std.specs.Prelude.{slice_get}
use Rattle.heap_model.specs.Facts.{Named, Part, slice, itself, refers as covered}
use Rattle.limbo_types.specs.Types as ty
use Rattle.limbo_types.specs.Types.{Ty}
use Rattle.limbo_layout.specs.Adts.{Def}
use Rattle.limbo_values.specs.declared.number.Kind.TheVariants.{Int}
use Rattle.limbo_values.specs.Texts.{bounds_in}
use Rattle.limbo_typed.specs.declared.operation.Operation.TheVariants.{Slice}
use Rattle.limbo_typed.specs.declared.operation.Sequence.TheVariants as sequence
use Rattle.limbo_typed.specs.Typed as typed
use Rattle.limbo_typed.specs.Fitting.{IsSliced, bound}
use Rattle.limbo_meaning.specs.Operations.{long_of}
use Rattle.limbo_meaning.specs.Process.{Shared}
use Rattle.limbo_meaning.specs.Trees.{Operate}
use Rattle.limbo_meaning.specs.Values as value
use Rattle.limbo_meaning.specs.Values.{Value, Array, part_of, number_of, array_named}
use Rattle.system_model.specs.Limits.{frames_limit}
use Rattle.core_code.specs.Code.{Instr, Give}
use Rattle.core_code.specs.Machine as code
use Rattle.core_code.specs.Slots as core
use Rattle.core_code.specs.Slots.{Slot, Holds}
use Rattle.core_typing.specs.Held as held
use Rattle.core_typing.specs.Held.{Of}
use Rattle.core_typing.specs.Needs.{AreThese, IsA, IsClean}
use Rattle.core_typing.specs.Going.{got_by}
use Rattle.dis_isa.specs.declared.inst.Middle.{Middle}
use Rattle.dis_isa.specs.declared.inst.Middle.TheVariants as middle
use Rattle.dis_isa.specs.declared.inst.Operand as isa
use Rattle.dis_isa.specs.declared.inst.Operand.TheVariants as operand
use Rattle.dis_isa.specs.declared.op.Op.TheVariants as op
use Rattle.dis_meaning.specs.Words.{Word, Refer, Access, Found, ◌>>=◌, word_at, reference, number_in}
use Rattle.dis_meaning.specs.Numbers.{number_at, with_number_at}
use Rattle.dis_meaning.specs.Process.{Process}
use Rattle.dis_memory.specs.Blocks.{World}
use Rattle.dis_memory.specs.Places.{source_of, given_of}
use Rattle.value_words.proofs.Covered.{same_names}
use Rattle.value_words.specs.Forms.{Elements}
use Rattle.value_words.specs.Facts.{Facts, Grows, IsPart}
use Rattle.value_roots.specs.Accounts.{Accounted, to_nothing, to_value}
use Rattle.value_frames.specs.Frames.{passing_place, number_place, reference_place}
use Rattle.value_moves.specs.Changing.{Changes}
use Rattle.value_moves.specs.Operands.{inst, own, of_own}
use Rattle.value_moves.proofs.Leading.{spots_lead}
use Rattle.value_code.specs.Objects.{object_of, of_function, blank_site}
use Rattle.value_code.specs.Code.{Site, code_of}
use Rattle.number_effects.proofs.Reading.{operands_are_read}
use Rattle.block_effects.proofs.Arrays.{arrays_come}
use Rattle.value_follows.specs.Stands.{types_of}
use Rattle.value_follows.specs.Sides.{sides, HoldTheSame, program}
use Rattle.value_follows.specs.Rows.{Base, RowGoes, site_of}
use Rattle.value_follows.proofs.Putting.{word_same}
use Rattle.value_follows.proofs.Several.{Next, moved_to}
use Rattle.value_follows.proofs.Slots.{number_is, NumberIs}
use Rattle.value_follows.proofs.Standing.{finds, code_here}
use Rattle.rows_lists.specs.Rows.{SlicesGo}
use Rattle.rows_lists.proofs.OnTheWay.{On, frame_is, on_ready, on_way, reaches_it, row_here}
use Rattle.rows_lists.proofs.Needing.{used, found, next_on, goes_on_behind}
use Rattle.rows_lists.proofs.Passing.{number_passes, passing_there, passing_stored}
use Rattle.rows_lists.proofs.Blocks.{word_leads}
use Rattle.rows_lists.proofs.Held.{part_is}
use Rattle.rows_lists.proofs.Making.{list_comes, with_list, in_slots}
use Rattle.rows_lists.proofs.Linking.{number_stays}
use Rattle.rows_lists.proofs.Slicing.{long_in, sliced_by, elements_there, slice_comes}

-- ---- what an array refers to is accounted for, and stands for it while more is known

part_on : (k now : Facts) → Grows k now → (t : Ty) (r : Option ℕ) (part : Option value.Part) → IsPart k t r part → IsPart now t r part
part_on k now grows t None None i = i
part_on k now grows t None (Some part) i = absurd i
part_on k now grows t (Some c) None i = absurd i
part_on k now grows t (Some c) (Some part) (inl i) =
    inl (record { fact = grows.facts c (Named part.array) i.0.fact; formed = grows.forms c (Elements t part.long) i.0.formed }, i.1)
part_on k now grows t (Some c) (Some part) (inr i) =
    let a = i.1.1.1.0 in
    inr (
      grows.facts c (Part part.array part.start part.long) i.0,
      (
        i.1.0,
        (
          i.1.1.0,
          (
            record {
              fact = grows.facts i.1.0 (Named part.array) a.fact;
              formed = grows.forms i.1.0 (Elements t i.1.1.0) a.formed;
            },
            i.1.1.1.1,
          ),
        ),
      ),
    )

part_accounted : (k : Facts) (i : ℕ) (x : World) (names : ℕ → ℕ) (t : Ty) (r : Option ℕ) (part : Option value.Part) → IsPart k t r part
    → ((a : ℕ) → array_named part ≡ Some a → 0 < names a) → Accounted k i x.heap names (Refer r)
part_accounted k i x names t None part is held = to_nothing
part_accounted k i x names t (Some c) None is held = absurd is
part_accounted k i x names t (Some c) (Some part) (inl is) held = to_value c (covered part.array (held part.array refl) (itself is.0.fact))
part_accounted k i x names t (Some c) (Some part) (inr is) held =
    to_value c (covered part.array (held part.array refl) (slice part.start part.long is.0))

-- the array that a slot has
abbrev array_in : code.Process → (slot : ℕ) → Option value.Part
array_in p s = part_of (core.value_of (core.slot p.frame.slots s))

array_held : (p : code.Process) (s : ℕ) (v : Value) → core.slot p.frame.slots s ≡ Holds v → (a : ℕ) → array_named (array_in p s) ≡ Some a
    → 0 < code.process_names p a
array_held p s v e a named = go v e (ap (λ (l : Slot). array_named (part_of (core.value_of l))) (sym e) ∙ named)
  where
    go : (v : Value) → core.slot p.frame.slots s ≡ Holds v → array_named (part_of v) ≡ Some a → 0 < code.process_names p a
    go (Array o) e f =
        let it : value.one a (Some a) ≡ 1 = ap (λ (h : Bool). if h then 1 else 0) (same_names a) in
        let same : value.one a (array_named o) ≡ 1 = ap (value.one a) f ∙ it in
        let g = in_slots p.frame.slots s a (Array o) e (omega (arith, same)) in
        omega (arith, g)
    go (value.Num z) e f = absurd cc
    go (value.Chars t) e f = absurd cc
    go (value.Ref r) e f = absurd cc
    go (value.Parts vs) e f = absurd cc

-- ---- the array comes into the slot, and then the part

module _ (m : typed.Module) (b : Base m) (item : Ty) (g h : Bool) (into a : ℕ) (slots : List ℕ) (i : ℕ) (p : code.Process)
    (here : slice_get p.frame.code p.frame.pc ≡ Some (Give (ty.ArrayOf item) (Operate (Slice sequence.Array g h)) into slots))
    (l : into < length p.frame.slots) where
  abbrev instr : Instr
  instr = Give (ty.ArrayOf item) (Operate (Slice sequence.Array g h)) into slots

  -- The row ends with these two.
  record EndsSo (j : ℕ) (from : List Def → List Ty → isa.Operand) (end : List Def → List Ty → Middle) : Type 0 where
    first : (c : Site) → slice_get (code_of c instr) j
        ≡ Some (inst op.Movp (own (reference_place c.scene.adts c.scene.variables a)) middle.None (own (reference_place c.scene.adts c.scene.variables into)))
    second : (c : Site) → slice_get (code_of c instr) (suc j)
        ≡ Some (inst op.Slicea (from c.scene.adts c.scene.variables) (end c.scene.adts c.scene.variables) (own (reference_place c.scene.adts c.scene.variables into)))
    size : (c : Site) → length (code_of c instr) ≡ suc (suc j)

  module _ (j : ℕ) (from : List Def → List Ty → isa.Operand) (end : List Def → List Ty → Middle) (row : EndsSo j from end) where
    two : (k : Facts) (w : Shared) (x : World) (n : ℕ) (f : typed.Function) (q : Process) → (on : On m k i x [] n f j p q) → HoldTheSame m k i x p q
        → (sides m).worlds k w x → IsClean (held.slot on.known into) → (v : Value) → core.slot p.frame.slots a ≡ Holds v → (r : Option ℕ)
        → word_at q.frame.words (pos (reference_place m.adts (types_of m f) a)) ≡ Found (Refer r) → IsPart k item r (array_in p a)
        → (first second : ℤ)
        → ((y : World) (t : Process) → Changes q.frame.words t.frame.words (reference_place m.adts (types_of m f) into) 4
        → source_of Int y t (from m.adts (types_of m f)) ≡ Found first)
        → ((y : World) (t : Process) → Changes q.frame.words t.frame.words (reference_place m.adts (types_of m f) into) 4
        → given_of Int y t (end m.adts (types_of m f)) ≡ Found second)
        → ((u : Shared) → (sides m).program.step u p ≡ sliced_by m u p item g h into (array_in p a) (bounds_in (long_of (array_in p a)) first second))
        → Next m b i p 1 k w x q
    two k w x n f q on hold worlds clean v holds r word named first second first_so second_so does =
        let at = reference_place m.adts (types_of m f) a in
        let to = reference_place m.adts (types_of m f) into in
        let size = row.size (blank_site m f.of.answer (of_function m f) p.frame.pc) in
        let site = site_of m n f p.frame.pc (row_here m b i p q [] n f j k w x on hold worlds instr here).at in
        list_comes m b i p n f k w x q j on hold worlds into l clean instr here refl (omega (arith, size)) (own at) r
        (operands_are_read.source_referring x q (own at) q.frame.words at (spots_lead.own x q at).0 ∙ ap (λ (o : Access Word). o >>= reference) word)
        (reaches_it m b i p q [] n f j k w x on hold worlds instr here (inst op.Movp (own at) middle.None (own to)) (row.first site))
        (part_accounted k i x (code.process_names p) item r (array_in p a) named (array_held p a v holds)) 1
        (λ stored after still.
        let t = moved_to q (suc q.frame.pc) (with_list m b i p n f k w x q j on hold worlds into l clean instr here refl (omega (arith, size)) r) in
        on_way m b i p t (into ∷ []) n f (suc j) 0 k x after still (λ last u z more on' hold' worlds'.
        let site' = site_of m n f p.frame.pc (row_here m b i p t (into ∷ []) n f (suc j) last u z on' hold' worlds' instr here).at in
        slice_comes m b last i u z n f (suc j) p t into on' hold' worlds' l item g h (from m.adts (types_of m f)) (end m.adts (types_of m f))
        (reaches_it m b i p t (into ∷ []) n f (suc j) last u z on' hold' worlds' instr here
        (inst op.Slicea (from m.adts (types_of m f)) (end m.adts (types_of m f)) (own to)) (row.second site'))
        first second (first_so z t stored.changes) (second_so z t stored.changes)
        (next_on m last i z (into ∷ []) n f (suc j) p t on' instr here (suc (suc j)) size refl)
        (goes_on_behind m last i z (into ∷ []) n f (suc j) p t on' instr here 0 (suc p.frame.pc)
        (held.put on'.known into (Of (ty.ArrayOf item) (got_by m.adts (ty.ArrayOf item) (Operate (Slice sequence.Array g h))))) (omega arith) refl)
        r (array_in p a) (part_on k last more item r (array_in p a) named) stored.there
        (bounds_in (long_of (array_in p a)) first second) refl (does u)))

-- ---- bounds, and how they are read then

module _ (m : typed.Module) (k : Facts) (i : ℕ) (x : World) (n : ℕ) (f : typed.Function) (j : ℕ) (p : code.Process) (q : Process)
    (on : On m k i x [] n f j p q) (into : ℕ) where
  abbrev to : ℕ
  to = reference_place m.adts (types_of m f) into

  abbrev place : ℕ → ℕ
  place s = number_place m.adts (types_of m f) s

  slot_source : (c : ℕ) → (z : NumberIs m k i x [] p.frame q.frame (frame_is m k i x [] n f j p q on) Int c) → (y : World) (t : Process)
      → Changes q.frame.words t.frame.words to 4 → source_of Int y t (own (place c)) ≡ Found z.number
  slot_source c z y t changes =
      operands_are_read.source_number y t (own (place c)) t.frame.words (place c) Int (spots_lead.own y t (place c)).0
      ∙ number_stays m.adts (types_of m f) q.frame.words t.frame.words into changes Int (λ e. cc) c ∙ z.found

  slot_middle : (c : ℕ) → (z : NumberIs m k i x [] p.frame q.frame (frame_is m k i x [] n f j p q on) Int c) → (y : World) (t : Process)
      → Changes q.frame.words t.frame.words to 4 → given_of Int y t (of_own (place c)) ≡ Found z.number
  slot_middle c z y t changes =
      operands_are_read.own_number y t Int (place c)
      ∙ number_stays m.adts (types_of m f) q.frame.words t.frame.words into changes Int (λ e. cc) c ∙ z.found

  passing_middle : (z : ℤ) → number_at Int q.frame.words (pos passing_place) ≡ Found z → (y : World) (t : Process)
      → Changes q.frame.words t.frame.words to 4 → given_of Int y t (of_own passing_place) ≡ Found z
  passing_middle z e y t changes =
      operands_are_read.own_number y t Int passing_place
      ∙ ap (λ (g : Access Word). g >>= number_in) (word_same q.frame.words t.frame.words passing_place (changes.words 5 (inl (omega arith)))) ∙ e

-- the array that a slot has
record ArrayHere (m : typed.Module) (k : Facts) (p : code.Process) (words : List Word) (at : ℕ) (item : Ty) (a : ℕ) : Type 0 where
  v : Value
  holds : core.slot p.frame.slots a ≡ Holds v
  refers : Option ℕ
  word : word_at words (pos at) ≡ Found (Refer refers)
  named : IsPart k item refers (array_in p a)

array_here : (m : typed.Module) (k : Facts) (i : ℕ) (x : World) (n : ℕ) (f : typed.Function) (j : ℕ) (p : code.Process) (q : Process)
    (on : On m k i x [] n f j p q) (item : Ty) (a : ℕ) → a < length p.frame.slots → IsA on.known a (ty.ArrayOf item)
    → ArrayHere m k p q.frame.words (reference_place m.adts (types_of m f) a) item a
array_here m k i x n f j p q on item a l is =
    let part = part_is m k i x [] p.frame q.frame (frame_is m k i x [] n f j p q on) item a l (λ e. e) is in
    record {
      v = part.v;
      holds = part.holds;
      refers = part.refers;
      word = part.word;
      named = subst (λ (o : Option value.Part). IsPart k item part.refers o)
          (sym (ap (λ (s : Slot). part_of (core.value_of s)) part.holds ∙ part.is_part)) part.stands;
    }

-- ---- where the end is written

module _ (m : typed.Module) (b : Base m) (item : Ty) (into a : ℕ) where
  both_written : (c e : ℕ) (k : Facts) (i : ℕ) (x : World) (p : code.Process) (q : Process) → (sides m).ready k i x p q
      → slice_get p.frame.code p.frame.pc ≡ Some (Give (ty.ArrayOf item) (Operate (Slice sequence.Array true true)) into (a ∷ c ∷ e ∷ [])) → RowGoes m k i x p q
  both_written c e k i x p q ready here =
      let it = Give (ty.ArrayOf item) (Operate (Slice sequence.Array true true)) into (a ∷ c ∷ e ∷ []) in
      let n = ready.0.stands.is.number in
      let f = ready.0.stands.is.function in
      let there = used m k i x [] n f 0 p q (on_ready m i p q k x ready.0) it here in (
        1,
        on_way m b i p q [] n f 0 1 k x (on_ready m i p q k x ready.0) ready.1 (λ now w y grows on hold worlds.
            let needs = found m now i y [] n f 0 p q on it here in
            let these = subst (AreThese on.known (a ∷ c ∷ e ∷ [])) needs.2.0.1 needs.1 in
            let frame = frame_is m now i y [] n f 0 p q on in
            let arr = array_here m now i y n f 0 p q on item a there.1.0 these.0 in
            let first = number_is m now i y [] p.frame q.frame frame Int c refl there.1.1.0 (λ e. e) these.1.0 in
            let second = number_is m now i y [] p.frame q.frame frame Int e refl there.1.1.1.0 (λ e. e) these.1.1.0 in
            two m b item true true into a (a ∷ c ∷ e ∷ []) i p here there.0 0 (λ defs types. own (number_place defs types c))
            (λ defs types. of_own (number_place defs types e)) (record { first = λ s. refl; second = λ s. refl; size = λ s. refl })
            now w y n f q on hold worlds needs.3 arr.v arr.holds arr.refers arr.word arr.named first.number second.number
            (slot_source m now i y n f 0 p q on into c first) (slot_middle m now i y n f 0 p q on into e second)
            (λ u. ap (code.next frames_limit (program m) u p) here
            ∙ ap (λ (s : Slot). sliced_by m u p item true true into (array_in p a)
            (bounds_in (long_of (array_in p a)) (number_of (core.value_of s)) (number_of (core.value_of (core.slot p.frame.slots e))))) first.holds
            ∙ ap (λ (s : Slot). sliced_by m u p item true true into (array_in p a)
            (bounds_in (long_of (array_in p a)) first.number (number_of (core.value_of s)))) second.holds)),
      )

  end_written : (e : ℕ) (k : Facts) (i : ℕ) (x : World) (p : code.Process) (q : Process) → (sides m).ready k i x p q
      → slice_get p.frame.code p.frame.pc ≡ Some (Give (ty.ArrayOf item) (Operate (Slice sequence.Array false true)) into (a ∷ e ∷ [])) → RowGoes m k i x p q
  end_written e k i x p q ready here =
      let it = Give (ty.ArrayOf item) (Operate (Slice sequence.Array false true)) into (a ∷ e ∷ []) in
      let n = ready.0.stands.is.number in
      let f = ready.0.stands.is.function in
      let there = used m k i x [] n f 0 p q (on_ready m i p q k x ready.0) it here in (
        1,
        on_way m b i p q [] n f 0 1 k x (on_ready m i p q k x ready.0) ready.1 (λ now w y grows on hold worlds.
            let needs = found m now i y [] n f 0 p q on it here in
            let these = subst (AreThese on.known (a ∷ e ∷ [])) needs.2.0.1 needs.1 in
            let frame = frame_is m now i y [] n f 0 p q on in
            let arr = array_here m now i y n f 0 p q on item a there.1.0 these.0 in
            let second = number_is m now i y [] p.frame q.frame frame Int e refl there.1.1.0 (λ e. e) these.1.0 in
            two m b item false true into a (a ∷ e ∷ []) i p here there.0 0 (λ defs types. operand.Imm (pos 0))
            (λ defs types. of_own (number_place defs types e)) (record { first = λ s. refl; second = λ s. refl; size = λ s. refl })
            now w y n f q on hold worlds needs.3 arr.v arr.holds arr.refers arr.word arr.named (pos 0) second.number
            (λ z t changes. operands_are_read.source_given z t Int (pos 0)) (slot_middle m now i y n f 0 p q on into e second)
            (λ u. ap (code.next frames_limit (program m) u p) here
            ∙ ap (λ (s : Slot). sliced_by m u p item false true into (array_in p a)
            (bounds_in (long_of (array_in p a)) (pos 0) (number_of (core.value_of s)))) second.holds)),
      )

-- ---- where it isn't, the length is looked up first

module _ (m : typed.Module) (b : Base m) (item : Ty) (g : Bool) (into a : ℕ) (slots : List ℕ) (i : ℕ) (p : code.Process)
    (here : slice_get p.frame.code p.frame.pc ≡ Some (Give (ty.ArrayOf item) (Operate (Slice sequence.Array g false)) into slots))
    (size : (c : Site) → length (code_of c (Give (ty.ArrayOf item) (Operate (Slice sequence.Array g false)) into slots)) ≡ 3)
    (code_is : (c : Site) → slice_get (code_of c (Give (ty.ArrayOf item) (Operate (Slice sequence.Array g false)) into slots)) 0
    ≡ Some (inst op.Lena (own (reference_place c.scene.adts c.scene.variables a)) middle.None (own passing_place))) where
  abbrev whole : Instr
  whole = Give (ty.ArrayOf item) (Operate (Slice sequence.Array g false)) into slots

  looked_up : (k : Facts) (x : World) (n : ℕ) (f : typed.Function) (q : Process) → (on : On m k i x [] n f 0 p q) → HoldTheSame m k i x p q
      → ((k : Facts) (x : World) → (on : On m k i x [] n f 0 p q) → ArrayHere m k p q.frame.words (reference_place m.adts (types_of m f) a) item a)
      → ((now : Facts) (w : Shared) (y : World) (t : Process) → (on : On m now i y [] n f 1 p t) → HoldTheSame m now i y p t → (sides m).worlds now w y
      → number_at Int t.frame.words (pos passing_place) ≡ Found (pos (long_in p a)) → Next m b i p 1 now w y t)
      → RowGoes m k i x p q
  looked_up k x n f q on hold array way = (
    2,
    on_way m b i p q [] n f 0 2 k x on hold (λ now w y grows on' hold' worlds.
        let at = reference_place m.adts (types_of m f) a in
        let it = inst op.Lena (own at) middle.None (own passing_place) in
        let arr = array now y on' in
        let es = elements_there m now w y worlds item arr.refers (array_in p a) arr.named (word_leads m now i y p q hold' at arr.refers arr.word) in
        let site = site_of m n f p.frame.pc (row_here m b i p q [] n f 0 now w y on' hold' worlds whole here).at in
        let stored = passing_stored m now i y n f 0 p q on' (pos (long_in p a)) in
        let d = passing_there m now i y n f 0 p q on' in
        let long = size (blank_site m f.of.answer (of_function m f) p.frame.pc) in
        number_passes m b i p n f now w y 0 q on' hold' worlds whole here refl (omega (arith, long)) it
        (reaches_it m b i p q [] n f 0 now w y on' hold' worlds whole here it (code_is site)) (pos (long_in p a)) es.counted (
          stored,
          (arrays_come frames_limit (object_of m) y q).read.long (own at) (own passing_place) middle.None es.elements stored.others d (
            arr.refers,
            operands_are_read.source_referring y q (own at) q.frame.words at (spots_lead.own y q at).0 ∙ ap (λ (o : Access Word). o >>= reference) arr.word,
            es.are,
          )
              (subst (λ (c : ℕ). with_number_at Int q.frame.words (pos passing_place) (pos c) ≡ Found stored.others) (sym es.long) stored.found),
        )
        2
        (λ t after there still. on_way m b i p t [] n f 1 1 now y after still (λ last u z more last_on last_hold last_worlds.
        way last u z t last_on last_hold last_worlds there))),
  )

module _ (m : typed.Module) (b : Base m) (item : Ty) (into a : ℕ) where
  begin_written : (c : ℕ) (k : Facts) (i : ℕ) (x : World) (p : code.Process) (q : Process) → (sides m).ready k i x p q
      → slice_get p.frame.code p.frame.pc ≡ Some (Give (ty.ArrayOf item) (Operate (Slice sequence.Array true false)) into (a ∷ c ∷ []))
      → RowGoes m k i x p q
  begin_written c k i x p q ready here =
      let it = Give (ty.ArrayOf item) (Operate (Slice sequence.Array true false)) into (a ∷ c ∷ []) in
      let n = ready.0.stands.is.number in
      let f = ready.0.stands.is.function in
      let there = used m k i x [] n f 0 p q (on_ready m i p q k x ready.0) it here in
      looked_up m b item true into a (a ∷ c ∷ []) i p here (λ s. refl) (λ s. refl) k x n f q (on_ready m i p q k x ready.0) ready.1
      (λ now y on.
      let needs = found m now i y [] n f 0 p q on it here in
      array_here m now i y n f 0 p q on item a there.1.0 (subst (AreThese on.known (a ∷ c ∷ [])) needs.2.0.1 needs.1).0)
      (λ now w y t on hold worlds passing.
      let needs = found m now i y [] n f 1 p t on it here in
      let these = subst (AreThese on.known (a ∷ c ∷ [])) needs.2.0.1 needs.1 in
      let frame = frame_is m now i y [] n f 1 p t on in
      let arr = array_here m now i y n f 1 p t on item a there.1.0 these.0 in
      let first = number_is m now i y [] p.frame t.frame frame Int c refl there.1.1.0 (λ e. e) these.1.0 in
      two m b item true false into a (a ∷ c ∷ []) i p here there.0 1 (λ defs types. own (number_place defs types c))
      (λ defs types. of_own passing_place) (record { first = λ s. refl; second = λ s. refl; size = λ s. refl })
      now w y n f t on hold worlds needs.3 arr.v arr.holds arr.refers arr.word arr.named first.number (pos (long_in p a))
      (slot_source m now i y n f 1 p t on into c first) (passing_middle m now i y n f 1 p t on into (pos (long_in p a)) passing)
      (λ u. ap (code.next frames_limit (program m) u p) here
      ∙ ap (λ (s : Slot). sliced_by m u p item true false into (array_in p a)
      (bounds_in (long_of (array_in p a)) (number_of (core.value_of s)) (pos (long_in p a)))) first.holds))

  none_written : (k : Facts) (i : ℕ) (x : World) (p : code.Process) (q : Process) → (sides m).ready k i x p q
      → slice_get p.frame.code p.frame.pc ≡ Some (Give (ty.ArrayOf item) (Operate (Slice sequence.Array false false)) into (a ∷ []))
      → RowGoes m k i x p q
  none_written k i x p q ready here =
      let it = Give (ty.ArrayOf item) (Operate (Slice sequence.Array false false)) into (a ∷ []) in
      let n = ready.0.stands.is.number in
      let f = ready.0.stands.is.function in
      let there = used m k i x [] n f 0 p q (on_ready m i p q k x ready.0) it here in
      looked_up m b item false into a (a ∷ []) i p here (λ s. refl) (λ s. refl) k x n f q (on_ready m i p q k x ready.0) ready.1
      (λ now y on.
      let needs = found m now i y [] n f 0 p q on it here in
      array_here m now i y n f 0 p q on item a there.1.0 (subst (AreThese on.known (a ∷ [])) needs.2.0.1 needs.1).0)
      (λ now w y t on hold worlds passing.
      let needs = found m now i y [] n f 1 p t on it here in
      let these = subst (AreThese on.known (a ∷ [])) needs.2.0.1 needs.1 in
      let arr = array_here m now i y n f 1 p t on item a there.1.0 these.0 in
      two m b item false false into a (a ∷ []) i p here there.0 1 (λ defs types. operand.Imm (pos 0))
      (λ defs types. of_own passing_place) (record { first = λ s. refl; second = λ s. refl; size = λ s. refl })
      now w y n f t on hold worlds needs.3 arr.v arr.holds arr.refers arr.word arr.named (pos 0) (pos (long_in p a))
      (λ z r changes. operands_are_read.source_given z r Int (pos 0)) (passing_middle m now i y n f 1 p t on into (pos (long_in p a)) passing)
      (λ u. ap (code.next frames_limit (program m) u p) here))

-- ---- slots of slices

-- How many slots there are, by which bounds are written.
data SlotsOf : Bool → Bool → List ℕ → Type 0 where
  of_both : (a c e : ℕ) → SlotsOf true true (a ∷ c ∷ e ∷ [])
  of_begin : (a c : ℕ) → SlotsOf true false (a ∷ c ∷ [])
  of_end : (a e : ℕ) → SlotsOf false true (a ∷ e ∷ [])
  of_none : (a : ℕ) → SlotsOf false false (a ∷ [])

slots_of : (known : held.Slots) (t : Ty) (g h : Bool) (rs : List ℕ) → AreThese known rs (t ∷ bound g ++ bound h) → SlotsOf g h rs
slots_of known t true true [] s = absurd s
slots_of known t true true (a ∷ []) s = absurd s.1
slots_of known t true true (a ∷ c ∷ []) s = absurd s.1.1
slots_of known t true true (a ∷ c ∷ e ∷ []) s = of_both a c e
slots_of known t true true (a ∷ c ∷ e ∷ r ∷ rs) s = absurd s.1.1.1
slots_of known t true false [] s = absurd s
slots_of known t true false (a ∷ []) s = absurd s.1
slots_of known t true false (a ∷ c ∷ []) s = of_begin a c
slots_of known t true false (a ∷ c ∷ e ∷ rs) s = absurd s.1.1
slots_of known t false true [] s = absurd s
slots_of known t false true (a ∷ []) s = absurd s.1
slots_of known t false true (a ∷ e ∷ []) s = of_end a e
slots_of known t false true (a ∷ e ∷ r ∷ rs) s = absurd s.1.1
slots_of known t false false [] s = absurd s
slots_of known t false false (a ∷ []) s = of_none a
slots_of known t false false (a ∷ r ∷ rs) s = absurd s.1

an_array_type : (t : Ty) → IsSliced sequence.Array t → (item : Ty) × (t ≡ ty.ArrayOf item)
an_array_type (ty.ArrayOf item) h = (item, refl)
an_array_type t h = absurd h

slices_of : (m : typed.Module) (b : Base m) (item : Ty) (into : ℕ) (g h : Bool) (rs : List ℕ) → SlotsOf g h rs → (k : Facts) (i : ℕ) (x : World)
    (p : code.Process) (q : Process) → (sides m).ready k i x p q
    → slice_get p.frame.code p.frame.pc ≡ Some (Give (ty.ArrayOf item) (Operate (Slice sequence.Array g h)) into rs)
    → RowGoes m k i x p q
slices_of m b item into _ _ _ (of_both a c e) k i x p q ready here = both_written m b item into a c e k i x p q ready here
slices_of m b item into _ _ _ (of_begin a c) k i x p q ready here = begin_written m b item into a c k i x p q ready here
slices_of m b item into _ _ _ (of_end a e) k i x p q ready here = end_written m b item into a e k i x p q ready here
slices_of m b item into _ _ _ (of_none a) k i x p q ready here = none_written m b item into a k i x p q ready here

pub slices_go : SlicesGo
slices_go m b t g h into from k i x p q ready here =
    let it = Give t (Operate (Slice sequence.Array g h)) into from in
    let r = ready.0 in
    let known = r.stands.is.known in
    let found = finds m r.stands.is.function p.frame.pc known it r.stands.goes (code_here m k i x p q r it here) in
    let of = an_array_type t found.2.0.0 in
    slices_of m b of.0 into g h from (slots_of known t g h from (subst (AreThese known from) found.2.0.1 found.1)) k i x p q ready
    (here ∙ ap (λ (u : Ty). Some (Give u (Operate (Slice sequence.Array g h)) into from)) of.1)
