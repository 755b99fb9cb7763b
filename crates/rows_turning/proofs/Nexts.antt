-- Rows of a loop's next index: instructions that change nothing but the linkage, and then the loop's number, or a jump over the turn.
use Rattle.std.proofs.Common.{◌≡◌, ℕ, ℤ, Bool, true, false, zero, suc, pos, ◌+◌, ◌*◌, ◌-◌, ◌/◌, ◌<◌, ◌≤◌, ◌⊎◌, List, [], ◌∷◌, ◌++◌, length, map, Option, Some, None, Ok, refl, sym, ap, ◌∙◌, subst, arith, inl, inr}
use Rattle.std.specs.Prelude.{slice_get}
use Rattle.std.specs.List.{range_with_len}
use Rattle.std.specs.Ordering.{int_cmp}
use Rattle.std.specs.Cmp.{int_cmp_is}
use Rattle.std.specs.declared.cmp.Ordering.{Ordering}
use Rattle.std.proofs.lemmas.Cmp.{int_ranked}
use Rattle.std.specs.declared.cmp.Ordering.TheVariants as order
use Rattle.std.proofs.lemmas.Int.{ints}
use Rattle.limbo_values.specs.declared.number.Kind.TheVariants.{Int}
use Rattle.limbo_values.specs.declared.operator.Comparison.TheVariants as comparison
use Rattle.limbo_values.specs.declared.operator.Operator.TheVariants as operator
use Rattle.limbo_values.specs.Numbers.{InRange, wrapped}
use Rattle.limbo_values.specs.Operators.{applied, compared, meets}
use Rattle.limbo_values.proofs.Ranges.{within}
use Rattle.process_model.specs.Process.{Went}
use Rattle.process_ways.specs.Ways.{Way}
use Rattle.limbo_types.specs.Types as ty
use Rattle.limbo_layout.specs.Adts.{Has}
use Rattle.limbo_typed.specs.Typed as typed
use Rattle.limbo_meaning.specs.Operations.{long_of}
use Rattle.limbo_meaning.specs.Process.{Shared}
use Rattle.limbo_meaning.specs.Program.{routine_of}
use Rattle.limbo_meaning.specs.Values.{Part, part_of, Num}
use Rattle.core_code.proofs.Closed.{functions_are_closed}
use Rattle.system_model.specs.Limits.{frames_limit}
use Rattle.core_code.specs.Code.{Instr, Next}
use Rattle.core_code.specs.Machine as code
use Rattle.core_code.specs.Slots as core
use Rattle.core_code.specs.Slots.{Slot, Turns, next_of, chain_of}
use Rattle.dis_isa.specs.declared.inst.Inst.{Inst}
use Rattle.dis_isa.specs.declared.inst.Middle.TheVariants as middle
use Rattle.dis_isa.specs.declared.inst.Operand.TheVariants as operand
use Rattle.dis_isa.specs.declared.op.Op.TheVariants as op
use Rattle.dis_meaning.specs.Words.{Word, Plain, Refer, Address, Access, Found, ◌>>=◌, word_at, plain, number_in, reference}
use Rattle.dis_meaning.specs.Numbers.{number_at, with_number_at}
use Rattle.dis_meaning.specs.Process.{Process}
use Rattle.dis_memory.specs.Blocks.{World}
use Rattle.dis_memory.specs.Places.{source_of}
use Rattle.value_words.specs.Facts.{Facts}
use Rattle.value_words.proofs.Bytes.{word_found}
use Rattle.value_words.proofs.Rows.{is_there}
use Rattle.value_frames.specs.Frames.{element_place, passing_place, number_place, reference_place}
use Rattle.value_heaps.specs.Blocks.{Constant}
use Rattle.value_moves.specs.Operands.{Code, inst, own, of_own}
use Rattle.value_moves.proofs.Leading.{spots_lead}
use Rattle.value_code.specs.Data.{Word as OfWord, fits_source, sorted}
use Rattle.value_code.specs.Code.{code_of, number_source, counted, passed_behind, compared_all, searched}
use Rattle.value_code.specs.Objects.{object_of, of_function, scene, data_at, constants, constants_from, placed}
use Rattle.value_code.proofs.Lists.{get_within}
use Rattle.number_effects.specs.Giving.{with_word}
use Rattle.number_effects.specs.Numbers.{where_holds}
use Rattle.number_effects.proofs.Numbers.{numbers_work}
use Rattle.number_effects.proofs.Reading.{operands_are_read}
use Rattle.number_effects.proofs.Records.{words_move}
use Rattle.number_effects.proofs.Stepping.{steps_obey}
use Rattle.block_effects.proofs.Arrays.{arrays_come}
use Rattle.value_follows.specs.Stands.{types_of, place_of}
use Rattle.value_follows.specs.Sides.{sides, HoldTheSame, program}
use Rattle.value_follows.specs.Rows.{place, row_of, site_of, Base, RowGoes}
use Rattle.value_follows.proofs.Slots.{number_there}
use Rattle.value_follows.proofs.Putting.{word_same}
use Rattle.value_follows.proofs.Several.{Next as Goes, moved_to}
use Rattle.value_follows.proofs.Single.{Once, both_go}
use Rattle.value_follows.proofs.Standing.{instance_here, ready_at, at_slots, at_words}
use Rattle.rows_lists.proofs.Blocks.{word_leads}
use Rattle.rows_lists.proofs.Held.{part_is}
use Rattle.rows_lists.proofs.Needing.{row_is, used, found, next_on, goes_on_behind}
use Rattle.rows_lists.proofs.OnTheWay.{On, frame_is, back, on_ready, on_way, row_here, reaches_it}
use Rattle.rows_lists.proofs.Passing.{goes_by, goes_over, on_holds, passing_there, passing_stored}
use Rattle.rows_lists.proofs.Slicing.{elements_there}
use Rattle.rows_turning.specs.Rows.{NextsGo}
use Rattle.rows_turning.proofs.Indices.{Above, Rise, sorted_rise, same_left, other_left, this_left}
use Rattle.rows_turning.proofs.Element.{element_word, linked, nothing_changes}
use Rattle.rows_turning.proofs.Loops.{loop_is, turns_on}

-- ---- how the next index and the array's length compare

pub is_past : (a c : ℕ) → c ≤ a → compared comparison.AtLeast (pos a) (pos c) ≡ true
is_past a c l = elim (cases a c l) [
  | inl e ↦ ap (meets comparison.AtLeast) (sym (int_cmp_is (pos a) (pos c) order.Equal (ap pos e)))
  | inr g ↦ ap (meets comparison.AtLeast) (sym (int_cmp_is (pos a) (pos c) order.Greater (omega (arith, ints, g))))
]
  where
    cases : (a c : ℕ) → c ≤ a → (a ≡ c) ⊎ (c < a)
    cases a c l = go (a - c) refl
      where
        go : (d : ℕ) → a - c ≡ d → (a ≡ c) ⊎ (c < a)
        go zero e = inl (omega (arith, l, e))
        go (suc d) e = inr (omega (arith, e))

pub is_before : (a c : ℕ) → a < c → compared comparison.AtLeast (pos a) (pos c) ≡ false
is_before a c l = ap (meets comparison.AtLeast) (sym (int_cmp_is (pos a) (pos c) order.Less (omega (arith, ints, l))))

same_long : (part : Option Part) → code.long_of part ≡ long_of part
same_long None = refl
same_long (Some p) = refl

-- a word that is read as an int which isn't 0 is that int
is_int : (words : List Word) (at next : ℕ) → number_at Int words (pos at) ≡ Found (pos (suc next)) → word_at words (pos at) ≡ Found (Plain (pos (suc next)))
is_int words at next e =
    let w = operands_are_read.int_is_plain words at (pos (suc next)) e in go w.0 w.1 w.2
  where
    unplain : (a : Access Word) (w : Word) → a >>= plain ≡ Found w → a ≡ Found w
    unplain (Found (Plain z)) w e = cc
    unplain (Found (Refer r)) w e = absurd cc
    unplain (Found (Address to o)) w e = cc
    unplain a w e = absurd cc

    go : (w : Word) → word_at words (pos at) >>= plain ≡ Found w → number_in w ≡ Found (pos (suc next)) → word_at words (pos at) ≡ Found (Plain (pos (suc next)))
    go (Plain z) a b = unplain (word_at words (pos at)) (Plain z) a ∙ ap (λ (n : ℤ). Found (Plain n)) cc
    go (Refer r) a b = absurd cc
    go (Address to o) a b = absurd cc

-- how long an array in a slot is, or 0
abbrev long_in : code.Process → (slot : ℕ) → ℕ
long_in p s = long_of (part_of (core.value_of (core.slot p.frame.slots s)))

plus_one : (a : ℕ) → a + 1 ≡ suc a
plus_one a = omega arith

-- an index that isn't the one that is looked at, and one that is
unlike : (z : ℤ) (e : ℕ) → compared comparison.Unequal z (pos e) ≡ true → z ≡ pos e → ⊥
unlike z e t f = let g = ap (meets comparison.Unequal) (int_cmp_is z (pos e) order.Equal f) in absurd cc

alike : (z : ℤ) (e : ℕ) → compared comparison.Unequal z (pos e) ≡ false → z ≡ pos e
alike z e t = go (int_cmp z (pos e)) refl t
  where
    go : (r : Ordering) → r ≡ int_cmp z (pos e) → meets comparison.Unequal r ≡ false → z ≡ pos e
    go order.Less s t = absurd cc
    go order.Equal s t = int_ranked z (pos e) order.Equal s
    go order.Greater s t = absurd cc

same_value : (y z : ℤ) → Num y ≡ Num z → y ≡ z
same_value y z e = cc

-- ---- the code behind the array's length

one_behind : (j t : ℕ) → j + 3 + t ≡ j + suc (suc (suc t))
one_behind j t = omega arith

long_compared : (zs : List ℤ) (at h past : ℕ) (i : Inst) → length (compared_all zs at h past ++ i ∷ []) ≡ 3 * length zs + 1
long_compared [] at h past i = refl
long_compared (z ∷ zs) at h past i = let e = long_compared zs (at + 8) (h + 3) past i in omega (arith, e)

some_code : (zs : List ℤ) (at h past : ℕ) (i : Inst) → (first : Inst) × (slice_get (compared_all zs at h past ++ i ∷ []) 0 ≡ Some first)
some_code [] at h past i = (i, refl)
some_code (z ∷ zs) at h past i = (_, refl)

module _ (m : typed.Module) (b : Base m) (array loop : ℕ) (named : List ℤ) (passes i : ℕ) (p : code.Process) (n : ℕ) (f : typed.Function)
    (here : slice_get p.frame.code p.frame.pc ≡ Some (Next array loop named passes)) where
  abbrev it : Instr
  it = Next array loop named passes

  abbrev at_loop : ℕ
  at_loop = number_place m.adts (types_of m f) loop

  abbrev at_array : ℕ
  at_array = reference_place m.adts (types_of m f) array

  abbrev slot : Slot
  slot = core.slot p.frame.slots loop

  abbrev index : ℕ
  index = next_of slot

  abbrev long : ℕ
  long = long_in p array

  -- what the other comes to
  abbrev comes : Shared → Option ℕ → code.Does
  comes w o = code.nexts frames_limit (program m) w p loop passes (chain_of slot) o

  left : (w : Shared) → (sides m).program.step w p ≡ comes w (code.first_left named (range_with_len index (long - index)))
  left w =
      ap (code.next frames_limit (program m) w p) here
      ∙ ap (λ (l : ℕ). comes w (code.first_left named (range_with_len index (l - index)))) (same_long (part_of (core.value_of (core.slot p.frame.slots array))))

  -- where the row begins, and what comes behind the turns
  abbrev begin : ℕ
  begin = place_of m n f p.frame.pc

  abbrev past : ℕ
  past = place_of m n f (suc p.frame.pc + passes)

  abbrev size : ℕ
  size = (row_of m f p.frame.pc it).size

  -- an index in the word for addresses of elements
  abbrev HasIndex : ℕ → Process → Type 0
  HasIndex e q = number_at Int q.frame.words (pos element_place) ≡ Found (pos e)

  abbrev HasLong : Process → Type 0
  HasLong q = number_at Int q.frame.words (pos passing_place) ≡ Found (pos long)

  -- the code from an instruction on, with which the rest of the indices are compared
  abbrev rest_code : List ℤ → (at here : ℕ) → Code
  rest_code zs at h = searched (scene m f.of.answer (of_function m f)) zs at h loop past

  -- So far behind the row's begin the rest of the indices is compared, with data so far behind its first; and they tell what is left from
  -- the index on that is looked at.
  record Left (zs : List ℤ) (e j o : ℕ) : Type 0 where
    insts_there : (at t : ℕ) → slice_get (code_of (site_of m n f p.frame.pc at) it) (j + t) ≡ slice_get (rest_code zs (at + o) (begin + j)) t
    data_there : (at : ℕ) (c : Constant) → Has (constants_from m (at + o) (map (λ z. OfWord z) zs)) c
        → Has (constants_from m at (data_at m f.of.answer (of_function m f) p.frame.pc it)) c
    long_so : size ≡ j + (3 * length zs + 1)
    rise : Rise zs
    left_so : code.first_left zs (range_with_len e (long - e)) ≡ code.first_left named (range_with_len index (long - index))
    less : e < long

  -- behind the array's length all of them are
  all_left : index < long → Left (sorted named) index 3 0
  all_left l = record {
    insts_there = λ at t.
        ap (slice_get (code_of (site_of m n f p.frame.pc at) it)) (let e : 3 + t ≡ suc (suc (suc t)) = omega arith in e)
        ∙ ap (λ (a : ℕ). slice_get (rest_code (sorted named) a (begin + 3)) t) (let e : at ≡ at + 0 = omega arith in e);
    data_there = λ at c h. subst (λ (a : ℕ). Has (constants_from m a (map (λ z. OfWord z) (sorted named))) c) (let e : at + 0 ≡ at = omega arith in e) h;
    long_so = ap (λ (l : ℕ). suc (suc (suc l))) (long_compared (sorted named) 0 3 0 (counted (own at_loop))) ∙ (let e : suc (suc (suc (3 * length (sorted named) + 1))) ≡ 3 + (3 * length (sorted named) + 1) = omega arith in e);
    rise = sorted_rise named;
    left_so = same_left named (range_with_len index (long - index));
    less = l;
  }

  -- behind one of them
  module _ (z : ℤ) (zs : List ℤ) (e j o : ℕ) (h : Left (z ∷ zs) e j o) where
    next_left : (e' : ℕ) → code.first_left zs (range_with_len e' (long - e')) ≡ code.first_left named (range_with_len index (long - index)) → e' < long
        → Left zs e' (j + 3) (o + 8)
    next_left e' is_left less = record {
      insts_there = λ at t.
          ap (slice_get (code_of (site_of m n f p.frame.pc at) it)) (one_behind j t) ∙ h.insts_there at (suc (suc (suc t)))
          ∙ ap (λ (a : ℕ). slice_get (rest_code zs a (begin + j + 3)) t) (let e : at + o + 8 ≡ at + (o + 8) = omega arith in e)
          ∙ ap (λ (a : ℕ). slice_get (rest_code zs (at + (o + 8)) a) t) (let e : begin + j + 3 ≡ begin + (j + 3) = omega arith in e);
      data_there = λ at c there. h.data_there at c
          (inr (subst (λ (a : ℕ). Has (constants_from m a (map (λ z. OfWord z) zs)) c) (let e : at + (o + 8) ≡ at + o + 8 = omega arith in e) there));
      long_so = let l = h.long_so in omega (arith, l);
      rise = h.rise.1;
      left_so = is_left;
      less = less;
    }

    -- where it is another than the one that is looked at
    other : (z ≡ pos e → ⊥) → Left zs e (j + 3) (o + 8)
    other ne = next_left e (sym (other_left z zs e (long - e) h.rise.0 ne) ∙ h.left_so) h.less

    -- where it is that one, what is left is behind it
    behind_this : z ≡ pos e → code.first_left zs (range_with_len (suc e) (long - suc e)) ≡ code.first_left named (range_with_len index (long - index))
    behind_this same =
        let less = h.less in
        sym (ap (λ (y : ℤ). code.first_left (y ∷ zs) (range_with_len e (long - e))) same
        ∙ ap (λ (d : ℕ). code.first_left (pos e ∷ zs) (range_with_len e d)) (let g : long - e ≡ suc (long - suc e) = omega (arith, less) in g)
        ∙ this_left zs e (long - suc e) (subst (λ (y : ℤ). Above y zs) same h.rise.0))
        ∙ h.left_so

  -- ---- steps of the machine

  module _ (k : Facts) (w : Shared) (x : World) (q : Process) where
    -- the other stands still while the machine's goes to a later instruction of the row
    over : (l j to : ℕ) (r : Process) → On m k i x [] n f j p q → HoldTheSame m k i x p q → (sides m).worlds k w x → j < to → to < size
        → (sides m).code.step x q ≡ Went x r → On m k i x [] n f to p r → (HoldTheSame m k i x p r → Way (sides m) (place m) l k i x p r)
        → Goes m b i p l k w x q
    over l j to r on hold worlds more within step after way =
        let live = b.there_again x x q r step worlds.0.closed (λ n h. hold.same.live n (hold.same.roots n h)) in
        let held = on_holds m b i p n f k w x [] to r after worlds live (λ s h. absurd h) (λ s o h. absurd h) in
        goes_over m b i p n f k w x [] [] j to q r on hold worlds it here refl more within step after held l (way held)

    -- the loop's number is moved there
    begins : (l : ℕ) → On m k i x [] n f 0 p q → HoldTheSame m k i x p q → (sides m).worlds k w x
        → ((now : Facts) (v : Shared) (y : World) (r : Process) → On m now i y [] n f 1 p r → HoldTheSame m now i y p r → (sides m).worlds now v y
        → HasIndex index r → Goes m b i p l now v y r)
        → Goes m b i p (suc l) k w x q
    begins l on hold worlds goes =
        let there = used m k i x [] n f 0 p q on it here in
        let needs = found m k i x [] n f 0 p q on it here in
        let of = loop_is m k i x n f 0 p q on loop there.1 needs.2 in
        let lead = spots_lead.own x q element_place in
        let inst = inst op.Movw (own at_loop) middle.None (own element_place) in
        let word = Plain (pos index) in
        let old = element_word m.adts (types_of m f) (length p.frame.slots) q.frame.words on.words.laid on.words.kind in
        let stored = words_move.word frames_limit (object_of m) x q inst word q.frame.words element_place lead.0 old.0 refl
        (operands_are_read.source_plain_word x q (own at_loop) q.frame.words at_loop (spots_lead.own x q at_loop).0
        ∙ ap (λ (a : Access Word). a >>= plain) of.number) old.1 in
        let others = with_word q.frame.words element_place word in
        let was = word_found q.frame.words at_loop word of.number in
        let ranged = stored.0.ranged
        (λ z e. subst (InRange Int) (same_plain (pos index) z e) (on.words.kind.ranged (at_loop / 4) (pos index) was.1)) on.words.kind.ranged in
        let after = linked m k i x [] n f 0 p q on element_place (omega arith) (omega arith) others stored.0.changes ranged
        (suc q.frame.pc) 1 (omega arith) in
        let r = moved_to q (suc q.frame.pc) others in
        goes_by m b i p n f k w x [] [] 0 q r on hold worlds it here refl (omega arith)
        (steps_obey.stores frames_limit (object_of m ∷ []) x q (object_of m) inst x lead.0.place others _
        (reaches_it m b i p q [] n f 0 k w x on hold worlds it here inst refl) stored.1 (lead.1 others))
        after (λ s h. absurd h) (λ s o h. absurd h) (suc l)
        (λ held. on_way m b i p r [] n f 1 l k x after held (λ now v y grows on' hold' worlds'.
        goes now v y r on' hold' worlds' (ap (λ (a : Access Word). a >>= number_in) stored.0.there)))
      where
        same_plain : (y z : ℤ) → ◌≡◌ {A = Word} (Plain y) (Plain z) → y ≡ z
        same_plain y z e = cc

    -- the array's length comes beside it
    measures : (l : ℕ) → On m k i x [] n f 1 p q → HoldTheSame m k i x p q → (sides m).worlds k w x → HasIndex index q
        → ((now : Facts) (v : Shared) (y : World) (r : Process) → On m now i y [] n f 2 p r → HoldTheSame m now i y p r → (sides m).worlds now v y
        → HasIndex index r → HasLong r → InRange Int (pos long) → Goes m b i p l now v y r)
        → Goes m b i p (suc l) k w x q
    measures l on hold worlds has goes =
        let there = used m k i x [] n f 1 p q on it here in
        let needs = found m k i x [] n f 1 p q on it here in
        let part = part_is m k i x [] p.frame q.frame (frame_is m k i x [] n f 1 p q on) needs.0 array there.0 (λ e. e) needs.1 in
        let es = elements_there m k w x worlds needs.0 part.refers part.part part.stands (word_leads m k i x p q hold at_array part.refers part.word) in
        let same : long_of part.part ≡ long = ap long_of (sym (ap (λ (s : Slot). part_of (core.value_of s)) part.holds ∙ part.is_part)) in
        let range = subst (λ (l : ℕ). InRange Int (pos l)) same es.counted in
        let inst = inst op.Lena (own at_array) middle.None (own passing_place) in
        let stored = passing_stored m k i x n f 1 p q on (pos long) in
        let d = passing_there m k i x n f 1 p q on in
        let others = stored.others in
        let changes = stored.changes (λ e. range) in
        let after = linked m k i x [] n f 1 p q on passing_place (omega arith) (omega arith) others changes
        (stored.ranged range on.words.kind.ranged) (suc q.frame.pc) 2 (omega arith) in
        let r = moved_to q (suc q.frame.pc) others in
        let lead = spots_lead.own x q passing_place in
        let kept : HasIndex index r =
        ap (λ (a : Access Word). a >>= number_in) (word_same q.frame.words others element_place (changes.words 6 (inr (omega arith)))) ∙ has in
        goes_by m b i p n f k w x [] [] 1 q r on hold worlds it here refl (omega arith)
        (steps_obey.stores frames_limit (object_of m ∷ []) x q (object_of m) inst x lead.0.place others _
        (reaches_it m b i p q [] n f 1 k w x on hold worlds it here inst refl)
        ((arrays_come frames_limit (object_of m) x q).read.long (own at_array) (own passing_place) middle.None es.elements others d (
          part.refers,
          operands_are_read.source_referring x q (own at_array) q.frame.words at_array (spots_lead.own x q at_array).0
              ∙ ap (λ (a : Access Word). a >>= reference) part.word,
          es.are,
        )
        (ap (λ (l : ℕ). with_number_at Int d.words (pos d.byte) (pos l)) (es.long ∙ same) ∙ stored.found))
        (lead.1 others))
        after (λ s h. absurd h) (λ s o h. absurd h) (suc l)
        (λ held. on_way m b i p r [] n f 2 l k x after held (λ now v y grows on' hold' worlds'.
        goes now v y r on' hold' worlds' kept (stored.there range) range))

    -- where the array's length and an index are compared
    module _ (e j : ℕ) (on : On m k i x [] n f j p q) (hold : HoldTheSame m k i x p q) (worlds : (sides m).worlds k w x) (has : HasIndex e q)
        (measured : HasLong q)
        (is : (at : ℕ) → slice_get (code_of (site_of m n f p.frame.pc at) it) j ≡ Some (passed_behind past)) where
      -- the code has an instruction there
      inside : past < length (object_of m).insts
      inside =
          let row = row_is m k i x [] n f j p q on it here in
          let within = (functions_are_closed m.adts (routine_of f)).inside p.frame.pc it row 1 0 (omega arith) in
          let t = is_there (of_function m f).code (suc p.frame.pc + passes) within in
          b.inside n f (suc p.frame.pc + passes) t.0 on.there t.1

      compares : (h : Bool) → compared comparison.AtLeast (pos e) (pos long) ≡ h → (sides m).code.step x q ≡ where_holds x q h past
      compares h c =
          steps_obey.does frames_limit (object_of m ∷ []) x q (object_of m) (passed_behind past) (where_holds x q h past)
          (reaches_it m b i p q [] n f j k w x on hold worlds it here (passed_behind past)
          (is (row_here m b i p q [] n f j k w x on hold worlds it here).at))
          (numbers_work.branches frames_limit (object_of m) x q (passed_behind past) Int comparison.AtLeast (pos e) (pos long) past refl
          (operands_are_read.source_number x q (own element_place) q.frame.words element_place Int (spots_lead.own x q element_place).0 ∙ has)
          (operands_are_read.own_number x q Int passing_place ∙ measured) refl inside
          ∙ ap (λ g. Found (where_holds x q g past)) c)

      -- none is left: both pass the turn
      passes_over : long ≤ e → (sides m).program.step w p ≡ comes w None → Once m b i p q k w x
      passes_over l does =
          let first = moved_to q begin q.frame.words in
          let ready = back m k i x n f j p q on in
          both_go m b i p q k w x hold worlds (at_slots m k i x p first ready (suc p.frame.pc + passes) p.frame.slots)
          (at_words m k i x p first ready past q.frame.words)
          (compares true (is_past e long l)) does
          (ready_at m k i x p first ready (suc p.frame.pc + passes) past
          (goes_on_behind m k i x [] n f j p q on it here 0 (suc p.frame.pc + passes) on.known (omega arith) refl) refl)

      -- one is left: the next instruction comes
      falls : (l : ℕ) → e < long → suc j < size
          → ((now : Facts) (v : Shared) (y : World) (r : Process) → On m now i y [] n f (suc j) p r → HoldTheSame m now i y p r
          → (sides m).worlds now v y → HasIndex e r → HasLong r → Goes m b i p l now v y r)
          → Goes m b i p (suc l) k w x q
      falls l less within goes =
          let r = moved_to q (suc q.frame.pc) q.frame.words in
          let at = on.pc in
          let after = linked m k i x [] n f j p q on element_place (omega arith) (omega arith) q.frame.words
          (nothing_changes q.frame.words element_place) on.words.kind.ranged (suc q.frame.pc) (suc j) (omega arith) in
          over (suc l) j (suc j) r on hold worlds (omega arith) within (compares false (is_before e long less)) after
          (λ held. on_way m b i p r [] n f (suc j) l k x after held (λ now v y grows on' hold' worlds'.
          goes now v y r on' hold' worlds' has measured))

    -- where an index that is named is compared with the one that is looked at
    module _ (z : ℤ) (zs : List ℤ) (e j o : ℕ) (h : Left (z ∷ zs) e j o) (on : On m k i x [] n f j p q) (hold : HoldTheSame m k i x p q)
        (worlds : (sides m).worlds k w x) (has : HasIndex e q) (measured : HasLong q) where
      abbrev row_at : ℕ
      row_at = (row_here m b i p q [] n f j k w x on hold worlds it here).at

      abbrev behind_it : ℕ
      behind_it = begin + j + 3

      abbrev branch : Inst
      branch = inst op.Bnew (number_source (fits_source z) z (row_at + o)) (of_own element_place) (operand.Imm (pos behind_it))

      int_source : (fits : Bool) (to : ℕ) → Has (constants m) (placed m to ty.Int (Num z)) → source_of Int x q (number_source fits z to) ≡ Found z
      int_source true to c = operands_are_read.source_given x q Int z
      int_source false to c =
          let instance = instance_here m b k i w x p q [] (frame_is m k i x [] n f j p q on) hold worlds.0 in
          let constant = instance.2 (placed m to ty.Int (Num z)) c in
          let n = number_there m.adts k instance.0 to ty.Int (Num z) Int refl constant.stands in
          operands_are_read.source_number x q (operand.Mp (pos to)) instance.0 to Int (spots_lead.of_module x q 0 instance.0 to instance.1).0 ∙ n.found
          ∙ ap (λ (y : ℤ). Found y) (same_value n.number z (sym n.is))

      -- the code behind the comparison is there
      inside_row : behind_it < length (object_of m).insts
      inside_row =
          let first = some_code zs (row_at + o + 8) (begin + j + 3) past (counted (own at_loop)) in
          get_within (object_of m).insts behind_it first.0
          (ap (slice_get (object_of m).insts) (let a : begin + j + 3 ≡ begin + (j + 3) = omega arith in a)
          ∙ (row_here m b i p q [] n f j k w x on hold worlds it here).insts (j + 3) first.0 (h.insts_there row_at 3 ∙ first.1))

      branches : (c : Bool) → compared comparison.Unequal z (pos e) ≡ c → (sides m).code.step x q ≡ where_holds x q c behind_it
      branches c d =
          steps_obey.does frames_limit (object_of m ∷ []) x q (object_of m) branch (where_holds x q c behind_it)
          (reaches_it m b i p q [] n f j k w x on hold worlds it here branch
          (ap (slice_get (code_of (site_of m n f p.frame.pc row_at) it)) (let a : j ≡ j + 0 = omega arith in a) ∙ h.insts_there row_at 0))
          (numbers_work.branches frames_limit (object_of m) x q branch Int comparison.Unequal z (pos e) behind_it refl
          (int_source (fits_source z) (row_at + o)
          ((row_here m b i p q [] n f j k w x on hold worlds it here).stand (placed m (row_at + o) ty.Int (Num z))
          (h.data_there row_at (placed m (row_at + o) ty.Int (Num z)) (inl refl))))
          (operands_are_read.own_number x q Int element_place ∙ has) refl inside_row
          ∙ ap (λ g. Found (where_holds x q g behind_it)) d)

      -- it is another, and the next one comes
      skips : (l : ℕ) → compared comparison.Unequal z (pos e) ≡ true
          → ((now : Facts) (v : Shared) (y : World) (r : Process) → On m now i y [] n f (j + 3) p r → HoldTheSame m now i y p r
          → (sides m).worlds now v y → HasIndex e r → HasLong r → Goes m b i p l now v y r)
          → Goes m b i p (suc l) k w x q
      skips l c goes =
          let r = moved_to q behind_it q.frame.words in
          let at = on.pc in
          let many = h.long_so in
          let after = linked m k i x [] n f j p q on element_place (omega arith) (omega arith) q.frame.words
          (nothing_changes q.frame.words element_place) on.words.kind.ranged behind_it (j + 3) (omega (arith, at)) in
          over (suc l) j (j + 3) r on hold worlds (omega arith) (omega (arith, many)) (branches true c) after
          (λ held. on_way m b i p r [] n f (j + 3) l k x after held (λ now v y grows on' hold' worlds'.
          goes now v y r on' hold' worlds' has measured))

      -- it is this one, and the next instruction comes
      meets_it : (l : ℕ) → compared comparison.Unequal z (pos e) ≡ false
          → ((now : Facts) (v : Shared) (y : World) (r : Process) → On m now i y [] n f (suc j) p r → HoldTheSame m now i y p r
          → (sides m).worlds now v y → HasIndex e r → HasLong r → Goes m b i p l now v y r)
          → Goes m b i p (suc l) k w x q
      meets_it l c goes =
          let r = moved_to q (suc q.frame.pc) q.frame.words in
          let at = on.pc in
          let many = h.long_so in
          let after = linked m k i x [] n f j p q on element_place (omega arith) (omega arith) q.frame.words
          (nothing_changes q.frame.words element_place) on.words.kind.ranged (suc q.frame.pc) (suc j) (omega arith) in
          over (suc l) j (suc j) r on hold worlds (omega arith) (omega (arith, many)) (branches false c) after
          (λ held. on_way m b i p r [] n f (suc j) l k x after held (λ now v y grows on' hold' worlds'.
          goes now v y r on' hold' worlds' has measured))

    -- where the index behind the one that is looked at is counted
    module _ (e j : ℕ) (on : On m k i x [] n f j p q) (hold : HoldTheSame m k i x p q) (worlds : (sides m).worlds k w x) (has : HasIndex e q)
        (less : e < long) (range : InRange Int (pos long)) where
      next_range : InRange Int (pos (suc e))
      next_range = let below = range.above in let above = range.below in record { above = omega (arith, ints); below = omega (arith, ints, above, less) }

      is_counted : applied Int operator.Add (pos e) (pos 1) ≡ Ok (pos (suc e))
      is_counted = ap Ok (ap (wrapped Int) (ap pos (plus_one e)) ∙ within Int (pos (suc e)) next_range)

      -- it is looked at
      raises : (l : ℕ) → HasLong q → ((at : ℕ) → slice_get (code_of (site_of m n f p.frame.pc at) it) j ≡ Some (counted (own element_place))) → suc j < size
          → ((now : Facts) (v : Shared) (y : World) (r : Process) → On m now i y [] n f (suc j) p r → HoldTheSame m now i y p r
          → (sides m).worlds now v y → HasIndex (suc e) r → HasLong r → Goes m b i p l now v y r)
          → Goes m b i p (suc l) k w x q
      raises l measured is within_row goes =
          let inst = counted (own element_place) in
          let lead = spots_lead.own x q element_place in
          let stored = numbers_work.calculates frames_limit (object_of m) x q inst Int operator.Add (pos 1) (pos e) q.frame.words element_place lead.0
          (pos e) (pos (suc e)) refl (operands_are_read.source_given x q Int (pos 1))
          (operands_are_read.own_middle x q Int (pos element_place) (own element_place) ∙ operands_are_read.own_number x q Int element_place ∙ has)
          has is_counted in
          let others = stored.0.others in
          let changes = stored.0.changes (λ e. next_range) in
          let at = on.pc in
          let after = linked m k i x [] n f j p q on element_place (omega arith) (omega arith) others changes
          (stored.0.ranged next_range on.words.kind.ranged) (suc q.frame.pc) (suc j) (omega arith) in
          let r = moved_to q (suc q.frame.pc) others in
          let kept : HasLong r =
          ap (λ (a : Access Word). a >>= number_in) (word_same q.frame.words others passing_place (changes.words 5 (inl (omega arith)))) ∙ measured in
          over (suc l) j (suc j) r on hold worlds (omega arith) within_row
          (steps_obey.stores frames_limit (object_of m ∷ []) x q (object_of m) inst x lead.0.place others _
          (reaches_it m b i p q [] n f j k w x on hold worlds it here inst (is (row_here m b i p q [] n f j k w x on hold worlds it here).at))
          stored.1 (lead.1 others))
          after
          (λ held. on_way m b i p r [] n f (suc j) l k x after held (λ now v y grows on' hold' worlds'.
          goes now v y r on' hold' worlds' (stored.0.there next_range) kept))

      -- it is the loop's number
      counts : ((at : ℕ) → slice_get (code_of (site_of m n f p.frame.pc at) it) j ≡ Some (counted (own at_loop))) → size ≡ suc j
          → (sides m).program.step w p ≡ comes w (Some e) → Once m b i p q k w x
      counts is last does =
          let there = used m k i x [] n f j p q on it here in
          let needs = found m k i x [] n f j p q on it here in
          let of = loop_is m k i x n f j p q on loop there.1 needs.2 in
          let inst = counted (own at_loop) in
          let lead = spots_lead.own x q at_loop in
          let stored = numbers_work.calculates frames_limit (object_of m) x q inst Int operator.Add (pos 1) (pos e) q.frame.words at_loop lead.0
          (pos index) (pos (suc e)) refl (operands_are_read.source_given x q Int (pos 1))
          (operands_are_read.own_middle x q Int (pos element_place) (own at_loop) ∙ operands_are_read.own_number x q Int element_place ∙ has)
          (ap (λ (a : Access Word). a >>= number_in) of.number) is_counted in
          let others = stored.0.others in
          both_go m b i p q k w x hold worlds _ (moved_to q (suc q.frame.pc) others)
          (steps_obey.stores frames_limit (object_of m ∷ []) x q (object_of m) inst x lead.0.place others _
          (reaches_it m b i p q [] n f j k w x on hold worlds it here inst (is (row_here m b i p q [] n f j k w x on hold worlds it here).at))
          stored.1 (lead.1 others))
          does
          (turns_on m k i x n f j p q on loop there.1 needs.2 others (stored.0.changes (λ e. next_range)) (stored.0.ranged next_range on.words.kind.ranged)
          (suc e) (is_int others at_loop e (stored.0.there next_range)) (suc q.frame.pc)
          (next_on m k i x [] n f j p q on it here (suc j) last refl)
          (goes_on_behind m k i x [] n f j p q on it here 1 (suc p.frame.pc) on.known (omega arith) refl))

  -- ---- the rest of the indices

  -- so many instructions from there on, and then both stand alike again
  record Tail (e j : ℕ) : Type 0 where
    steps : ℕ
    go : (k : Facts) (w : Shared) (x : World) (q : Process) → On m k i x [] n f j p q → HoldTheSame m k i x p q → (sides m).worlds k w x
        → HasIndex e q → HasLong q → InRange Int (pos long) → Goes m b i p steps k w x q

  none_left : (c a : ℕ) → c ≤ a → c - a ≡ 0
  none_left c a l = omega (arith, l)

  one_left : (c a : ℕ) → a < c → c - a ≡ suc (c - suc a)
  one_left c a l = omega (arith, l)

  module _ (z : ℤ) (zs : List ℤ) (e j o : ℕ) (h : Left (z ∷ zs) e j o) where
    at_second : (at : ℕ) → slice_get (code_of (site_of m n f p.frame.pc at) it) (suc j) ≡ Some (counted (own element_place))
    at_second at = ap (slice_get (code_of (site_of m n f p.frame.pc at) it)) (let a : suc j ≡ j + 1 = omega arith in a) ∙ h.insts_there at 1

    at_third : (at : ℕ) → slice_get (code_of (site_of m n f p.frame.pc at) it) (suc (suc j)) ≡ Some (passed_behind past)
    at_third at = ap (slice_get (code_of (site_of m n f p.frame.pc at) it)) (let a : suc (suc j) ≡ j + 2 = omega arith in a) ∙ h.insts_there at 2

    is_third : suc (suc (suc j)) ≡ j + 3
    is_third = omega arith

    tail_by : (Left zs (suc e) (j + 3) (o + 8) → Tail (suc e) (j + 3)) → (Left zs e (j + 3) (o + 8) → Tail e (j + 3))
        → (c : Bool) → compared comparison.Unequal z (pos e) ≡ c → (d : ℕ) → long - suc e ≡ d → Tail e j
    tail_by this that true c d l =
        let rest = that (other z zs e j o h (unlike z e c)) in
        record {
          steps = suc rest.steps;
          go = λ k w x q on hold worlds has measured range.
              skips k w x q z zs e j o h on hold worlds has measured rest.steps c
              (λ k2 w2 x2 q2 on2 hold2 worlds2 has2 long2. rest.go k2 w2 x2 q2 on2 hold2 worlds2 has2 long2 range);
        }
    tail_by this that false c zero l =
        let many = h.long_so in
        record {
          steps = 2;
          go = λ k w x q on hold worlds has measured range.
              meets_it k w x q z zs e j o h on hold worlds has measured 1 c (λ k2 w2 x2 q2 on2 hold2 worlds2 has2 long2.
              raises k2 w2 x2 q2 e (suc j) on2 hold2 worlds2 has2 h.less range 0 long2 at_second (omega (arith, many))
              (λ k3 w3 x3 q3 on3 hold3 worlds3 has3 long3.
              passes_over k3 w3 x3 q3 (suc e) (suc (suc j)) on3 hold3 worlds3 has3 long3 at_third (omega (arith, l))
              (left w3 ∙ ap (comes w3) (sym (behind_this z zs e j o h (alike z e c))
              ∙ ap (λ (d : ℕ). code.first_left zs (range_with_len (suc e) d)) l))));
        }
    tail_by this that false c (suc d) l =
        let many = h.long_so in
        let less : suc e < long = omega (arith, l) in
        let rest = this (next_left z zs e j o h (suc e) (behind_this z zs e j o h (alike z e c)) less) in
        record {
          steps = suc (suc (suc rest.steps));
          go = λ k w x q on hold worlds has measured range.
              meets_it k w x q z zs e j o h on hold worlds has measured (suc (suc rest.steps)) c (λ k2 w2 x2 q2 on2 hold2 worlds2 has2 long2.
              raises k2 w2 x2 q2 e (suc j) on2 hold2 worlds2 has2 h.less range (suc rest.steps) long2 at_second (omega (arith, many))
              (λ k3 w3 x3 q3 on3 hold3 worlds3 has3 long3.
              falls k3 w3 x3 q3 (suc e) (suc (suc j)) on3 hold3 worlds3 has3 long3 at_third rest.steps less (omega (arith, many))
              (λ k4 w4 x4 q4 on4 hold4 worlds4 has4 long4.
              rest.go k4 w4 x4 q4 (subst (λ (to : ℕ). On m k4 i x4 [] n f to p q4) is_third on4) hold4 worlds4 has4 long4 range)));
        }

  -- none is left to be compared: the loop goes on to the one that is looked at
  last_tail : (e j o : ℕ) → Left [] e j o → Tail e j
  last_tail e j o h = record {
    steps = 0;
    go = λ k w x q on hold worlds has measured range.
        counts k w x q e j on hold worlds has h.less range
        (λ at. ap (slice_get (code_of (site_of m n f p.frame.pc at) it)) (let a : j ≡ j + 0 = omega arith in a) ∙ h.insts_there at 0)
        (let many = h.long_so in omega (arith, many))
        (left w ∙ ap (comes w) (sym h.left_so ∙ ap (λ (d : ℕ). code.first_left [] (range_with_len e d)) (one_left long e h.less)));
  }

  tail : (zs : List ℤ) (e j o : ℕ) → Left zs e j o → Tail e j
  tail [] e j o h = last_tail e j o h
  tail (z ∷ zs) e j o h =
      tail_by z zs e j o h (tail zs (suc e) (j + 3) (o + 8)) (tail zs e (j + 3) (o + 8)) (compared comparison.Unequal z (pos e)) refl
      (long - suc e) refl

  -- ---- from the begin of the row on

  -- none is left, by the array's length
  goes_past : long ≤ index → (k : Facts) (x : World) (q : Process) → On m k i x [] n f 0 p q → HoldTheSame m k i x p q → RowGoes m k i x p q
  goes_past l k x q on hold = (
    2,
    on_way m b i p q [] n f 0 2 k x on hold (λ now w y grows on' hold' worlds.
        begins now w y q 1 on' hold' worlds (λ k2 w2 x2 q2 on2 hold2 worlds2 has2.
        measures k2 w2 x2 q2 0 on2 hold2 worlds2 has2 (λ k3 w3 x3 q3 on3 hold3 worlds3 has3 long3 range.
        passes_over k3 w3 x3 q3 index 2 on3 hold3 worlds3 has3 long3 (λ at. refl) l
        (left w3 ∙ ap (λ (d : ℕ). comes w3 (code.first_left named (range_with_len index d))) (none_left long index l))))),
  )

  -- the array has the first that is looked at
  goes_inside : index < long → (k : Facts) (x : World) (q : Process) → On m k i x [] n f 0 p q → HoldTheSame m k i x p q → RowGoes m k i x p q
  goes_inside l k x q on hold =
      let all = all_left l in
      let rest = tail (sorted named) index 3 0 all in
      let many = all.long_so in (
        suc (suc (suc rest.steps)),
        on_way m b i p q [] n f 0 (suc (suc (suc rest.steps))) k x on hold (λ now w y grows on' hold' worlds.
            begins now w y q (suc (suc rest.steps)) on' hold' worlds (λ k2 w2 x2 q2 on2 hold2 worlds2 has2.
            measures k2 w2 x2 q2 (suc rest.steps) on2 hold2 worlds2 has2 (λ k3 w3 x3 q3 on3 hold3 worlds3 has3 long3 range.
            falls k3 w3 x3 q3 index 2 on3 hold3 worlds3 has3 long3 (λ at. refl) rest.steps l (omega (arith, many))
            (λ k4 w4 x4 q4 on4 hold4 worlds4 has4 long4. rest.go k4 w4 x4 q4 on4 hold4 worlds4 has4 long4 range)))),
      )

  goes_by_left : (d : ℕ) → long - index ≡ d → (k : Facts) (x : World) (q : Process) → On m k i x [] n f 0 p q → HoldTheSame m k i x p q
      → RowGoes m k i x p q
  goes_by_left zero e = goes_past (omega (arith, e))
  goes_by_left (suc d) e = goes_inside (omega (arith, e))

pub nexts_go : NextsGo
nexts_go m b array loop named passes k i x p q ready here =
    goes_by_left m b array loop named passes i p ready.0.stands.is.number ready.0.stands.is.function here
    (long_in p array - next_of (core.slot p.frame.slots loop)) refl k x q (on_ready m i p q k x ready.0) ready.1
