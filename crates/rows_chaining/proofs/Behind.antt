-- A region that is kept where records are in the loop's chain already: the whole way from where its slots are blank.
use Rattle.std.proofs.Common.{◌≡◌, ◌⊎◌, ℕ, Bool, false, true, zero, suc, pos, ◌+◌, ◌*◌, ◌/◌, ◌<◌, ◌≤◌, List, [], ◌∷◌, ◌++◌, length, Option, Some, None, refl, sym, ap, ◌∙◌, subst, arith, inl, inr}
use Rattle.std.specs.Prelude.{slice_get}
use Rattle.std.specs.List.{range_with_len}
use Rattle.process_model.specs.Process.{Went}
use Rattle.process_ways.specs.Ways.{Way}
use Rattle.heap_model.specs.Heap.{at, in_one}
use Rattle.heap_model.specs.Facts.{Free}
use Rattle.heap_model.specs.Alike.{Chain, word, next}
use Rattle.heap_model.specs.Worlds.{blocks}
use Rattle.heap_model.proofs.Alike.{is_inner}
use Rattle.heap_model.proofs.Heap.{there_of}
use Rattle.limbo_types.specs.Types.{Ty}
use Rattle.limbo_layout.specs.Adts.{Has}
use Rattle.limbo_layout.proofs.Rooms.{has_left, has_right, has_cases}
use Rattle.limbo_typed.specs.Typed as typed
use Rattle.limbo_values.specs.declared.operator.Comparison.TheVariants as comparison
use Rattle.limbo_meaning.specs.Process.{Shared}
use Rattle.system_model.specs.Limits.{frames_limit}
use Rattle.core_code.specs.Code.{Instr, Keep}
use Rattle.core_code.specs.Machine as code
use Rattle.core_code.specs.Slots as core
use Rattle.core_code.specs.Slots.{Regions, NoRegion, MoreRegions, chain_of}
use Rattle.core_typing.specs.Held as held
use Rattle.dis_isa.specs.declared.inst.Inst.{Inst}
use Rattle.dis_isa.specs.declared.inst.Middle.TheVariants as middle
use Rattle.dis_isa.specs.declared.inst.Operand.TheVariants as operand
use Rattle.dis_isa.specs.declared.op.Op.TheVariants as op
use Rattle.dis_meaning.specs.Words.{Word, Plain, Refer, Access, Found, ◌>>=◌, word_at, reference}
use Rattle.dis_meaning.specs.Counts.{in_words}
use Rattle.dis_meaning.specs.Process.{Process}
use Rattle.dis_memory.specs.Blocks.{Record, World}
use Rattle.dis_memory.specs.Naming as machine
use Rattle.dis_memory.specs.Naming.{inside}
use Rattle.dis_memory.specs.Numbers.{same_reference}
use Rattle.dis_memory.specs.Step.{obey}
use Rattle.value_words.specs.Facts.{Facts}
use Rattle.value_words.proofs.Bytes.{word_found, word_there}
use Rattle.value_words.proofs.Rows.{below as within_length}
use Rattle.value_heaps.proofs.Words.{named_by}
use Rattle.value_roots.proofs.Words.{has_counts}
use Rattle.value_frames.specs.Frames.{spare_place, number_place, reference_place}
use Rattle.value_frames.specs.Standing.{Single, WordsAre, last_of}
use Rattle.value_frames.proofs.Slots.{slots_change}
use Rattle.value_frames.proofs.Later.{frames_later}
use Rattle.value_moves.specs.Operands.{inst, own, behind}
use Rattle.value_moves.specs.Spots.{Leads}
use Rattle.value_moves.proofs.Leading.{spots_lead}
use Rattle.value_code.specs.Data.{nil_word}
use Rattle.value_code.specs.Objects.{object_of}
use Rattle.value_code.specs.Code.{nil_middle}
use Rattle.number_effects.specs.Giving.{with_word, StoresWord}
use Rattle.number_effects.specs.Numbers.{where_holds}
use Rattle.number_effects.proofs.Numbers.{numbers_work}
use Rattle.number_effects.proofs.Reading.{operands_are_read}
use Rattle.number_effects.proofs.Records.{words_move}
use Rattle.number_effects.proofs.Stepping.{steps_obey}
use Rattle.value_follows.specs.Stands.{types_of, place_of}
use Rattle.value_follows.specs.Sides.{sides, contents, HoldTheSame}
use Rattle.value_follows.specs.Rows.{place, Base}
use Rattle.value_follows.proofs.RootedSlots.{in_range}
use Rattle.value_follows.proofs.RootedValues.{has_at}
use Rattle.value_follows.proofs.Several.{Next as Goes, moved_to, goes_silently, hold_as}
use Rattle.rows_dropping.proofs.Tidying.{nil_read}
use Rattle.rows_turning.proofs.Marks.{refers_second}
use Rattle.rows_chaining.specs.Rows.{AreBare}
use Rattle.rows_chaining.proofs.Alike.{holds_more}
use Rattle.rows_chaining.proofs.Chains.{FirstOf, first_of, none_behind, one_behind}
use Rattle.rows_chaining.proofs.Over.{Over, over_frame, over_used, over_found, over_agrees, over_rank, over_row, loop_so}
use Rattle.rows_chaining.proofs.Arriving.{IsWhere, at_loop, within, elsewhere, is_where, own_by}
use Rattle.rows_chaining.proofs.Making.{turn_words, turn_bare, turn_kind}
use Rattle.rows_chaining.proofs.Clearing.{Cleared, cleared_later}
use Rattle.rows_chaining.proofs.Owning.{tail_kept, region_kept, no_tail, last_is, last_own}
use Rattle.rows_chaining.proofs.Holding.{hold_less}
use Rattle.rows_chaining.proofs.Linked.{stored_more, stored_fewer, Linked, Before, own_all, linked_later, before_later, before_at, linked_from, before_from}
use Rattle.rows_chaining.proofs.Storing as storing
use Rattle.rows_chaining.proofs.Storing.{reaches, Stored, links}
use Rattle.rows_chaining.proofs.Linking.{linked_first, linked_last, linked_end}
use Rattle.rows_chaining.proofs.Joined.{joins}

-- ---- what a process refers to where words of its frame are others

module _ (A : Type 0) (q : Process) (pc : ℕ) (others : List Word) (o : ℕ) where
  names_fewer : (0 < in_words o q.frame.words → (0 < in_words o others) ⊎ A) → 0 < machine.names q o → (0 < machine.names (moved_to q pc others) o) ⊎ A
  names_fewer on h = go (in_words o q.frame.words) refl
    where
      go : (z : ℕ) → in_words o q.frame.words ≡ z → (0 < machine.names (moved_to q pc others) o) ⊎ A
      go zero e = inl (omega (arith, h, e))
      go (suc z) e = elim (on (omega (arith, e))) [
        | inl w ↦ inl (omega (arith, w))
        | inr a ↦ inr a
      ]

  names_more : (0 < in_words o others → (0 < in_words o q.frame.words) ⊎ A) → 0 < machine.names (moved_to q pc others) o → (0 < machine.names q o) ⊎ A
  names_more on h = go (in_words o others) refl
    where
      go : (z : ℕ) → in_words o others ≡ z → (0 < machine.names q o) ⊎ A
      go zero e = inl (omega (arith, h, e))
      go (suc z) e = elim (on (omega (arith, e))) [
        | inl w ↦ inl (omega (arith, w))
        | inr a ↦ inr a
      ]

last_some : (o : Option ℕ) (b : ℕ) → (l : ℕ) × (last_of o b ≡ Some l)
last_some None b = (b, refl)
last_some (Some l) b = (l, refl)

module _ (m : typed.Module) (b : Base m) (loop from words i : ℕ) (p : code.Process) (n : ℕ) (f : typed.Function)
    (here : slice_get p.frame.code p.frame.pc ≡ Some (Keep loop from words)) (bare : AreBare p from words) (g : core.Region) (rest : Regions)
    (some : chain_of (core.slot p.frame.slots loop) ≡ MoreRegions g rest) where
  abbrev it : Instr
  it = Keep loop from words

  abbrev types : List Ty
  types = types_of m f

  abbrev n_at : ℕ
  n_at = number_place m.adts types loop

  abbrev r_at : ℕ
  r_at = reference_place m.adts types loop

  abbrev to : ℕ
  to = number_place m.adts types from

  abbrev from_at : ℕ
  from_at = reference_place m.adts types from

  abbrev spare_at : ℕ
  spare_at = spare_place m.adts types

  abbrev region : List ℕ
  region = range_with_len from words

  abbrev busy : List ℕ
  busy = loop ∷ region

  abbrev begin : ℕ
  begin = place_of m n f p.frame.pc

  module _ (known : held.Slots) (c first : ℕ) (shape : held.Region) (owned : List ℕ) (shapes : held.Regions)
      (known_is : held.slot known loop ≡ held.Turns (held.MoreRegions shape shapes)) where
    abbrev Links : (j : ℕ) (r end last : Option ℕ) (hs : held.Regions) (rs : Regions) (more : List ℕ) (ws : List Word) (k : Facts) (x : World)
        (q : Process) → Type 0
    Links j r end last hs rs more ws k x q = Linked m b loop from words i p n f here bare g known c first shape owned j r end last hs rs more ws k x q

    abbrev Befores : (j : ℕ) (r end : Option ℕ) (more : List ℕ) (ws inner : List Word) (k : Facts) (x : World) (q : Process) → Type 0
    Befores j r end more ws inner k x q =
        Before m b loop from words i p n f here bare g known c first shape owned j r end shapes rest more ws inner k x q

    abbrev all_own : List ℕ → List ℕ
    all_own more = own_all m b loop from words i p n f here bare g known c first shape owned more

    abbrev shapes_then : held.Regions
    shapes_then = held.chained shapes (held.region known from words)

    abbrev rest_then : Regions
    rest_then = core.chained rest (core.region p.frame.slots from words)

    abbrev Joining : (j : ℕ) (r end : Option ℕ) (more : List ℕ) (ws : List Word) (k : Facts) (x : World) (q : Process) → Type 0
    Joining j r end more ws k x q = Links j r end (Some c) shapes_then rest_then more ws k x q

    abbrev moved : (q : Process) (j : ℕ) (others : List Word) → Process
    moved q j others = moved_to q (begin + j) others

    -- ---- the end

    at_thirteen : (more : List ℕ) (ws : List Word) (k : Facts) (x : World) (q : Process) → Joining 13 None (Some c) more ws k x q → HoldTheSame m k i x p q
        → Way (sides m) (place m) 2 k i x p q
    at_thirteen more ws k x q t hold = (
      hold,
      λ now y w left h worlds.
          joins m b loop from words i p n f here bare g rest some known c first shape owned shapes known_is more ws 13 now w y q
          (linked_later m b loop from words i p n f here bare g known c first shape owned k now x y q left h 13 None (Some c) (Some c) shapes_then rest_then
          more ws t).0 h worlds 13 refl refl,
    )

    at_ten : (more : List ℕ) (ws : List Word) (k : Facts) (x : World) (q : Process) → Joining 10 None (Some c) more ws k x q → HoldTheSame m k i x p q
        → Way (sides m) (place m) 2 k i x p q
    at_ten more ws k x q t hold = (
      hold,
      λ now y w left h worlds.
          joins m b loop from words i p n f here bare g rest some known c first shape owned shapes known_is more ws 10 now w y q
          (linked_later m b loop from words i p n f here bare g known c first shape owned k now x y q left h 10 None (Some c) (Some c) shapes_then rest_then
          more ws t).0 h worlds 10 refl refl,
    )

    -- ---- the slot's reference to the last is let go

    module _ (e : ℕ) (more : List ℕ) (ws : List Word) (k : Facts) (w : Shared) (x : World) (q : Process)
        (t : Joining 9 (Some e) (Some c) more ws k x q) (hold : HoldTheSame m k i x p q) (worlds : (sides m).worlds k w x) where
      abbrev drop : Inst
      drop = inst op.Movp nil_word middle.None (own from_at)

      abbrev lead9 : Leads x q (own from_at) q.frame.words from_at
      lead9 = (spots_lead.own x q from_at).0

      stores9 : StoresWord (obey frames_limit (object_of m) x q drop op.Movp) x q lead9.place q.frame.words from_at (Refer None)
      stores9 =
          words_move.reference frames_limit (object_of m) x q drop None q.frame.words from_at lead9 (Some e) refl
          (nil_read m b k i w x p q busy (over_frame m k i x busy n f 9 (Some c) p q t.over) hold worlds) t.from_word

      abbrev others9 : List Word
      others9 = with_word q.frame.words from_at (Refer None)

      abbrev next9 : Process
      next9 = moved q 10 others9

      step9 : (sides m).code.step x q ≡ Went x next9
      step9 =
          let at = t.over.pc in
          let past : suc q.frame.pc ≡ begin + 10 = omega (arith, at) in
          steps_obey.stores frames_limit (object_of m ∷ []) x q (object_of m) drop x lead9.place others9 _
          (reaches m b loop from words i p n f here busy c 9 k w x q t.over hold worlds 9 drop refl refl) stores9.1
          ((spots_lead.own x q from_at).1 others9)
          ∙ ap (λ (pc : ℕ). Went x (moved_to q pc others9)) past

      linked9 : Joining 10 None (Some c) more ws k x next9
      linked9 =
          linked_from m b loop from words i p n f here bare g known c first shape owned k x q 9 None (Some e) (Some c) (Some c) shapes_then rest_then more ws
          t stores9.0 (λ d z. absurd cc) 10

      abbrev Reached : ℕ → Type 0
      Reached d = Chain k (blocks (contents m) x.heap) (machine.names next9) d

      far9 : (a d : ℕ) (us : List Word) → Reached a → Free k a → k.maker a ≡ Some i → at x.heap a ≡ Some (Record us) → Has us (Refer (Some d)) → Reached d
      far9 a d us way free made found h =
          next way (is_inner (k.fact a) free) (there_of (at x.heap a) (Record us) found)
          (subst (λ o. 0 < in_one inside o d) (sym found) (has_counts us d h))

      near9 : Reached first
      near9 = word (let h = named_by others9 (r_at / 4) first (word_found others9 r_at (Refer (Some first)) linked9.is.word).1 in omega (arith, h))

      all9 : (d : ℕ) → Has ws (Refer (Some d)) → Reached d
      all9 d h = far9 first d ws near9 t.is.free (t.made first (inl refl)) t.is.there h

      reached9 : (d : ℕ) → Has (all_own more) d → Reached d
      reached9 d (inl z) = subst (λ v. Reached v) z near9
      reached9 d (inr u) = elim (has_cases owned more d u) [
        | inl v ↦
            region_kept m.adts k i x.heap q.frame.serial Reached far9 ws 8 shape g owned t.region (λ v z. t.made v (inr (has_left owned more v z))) all9 d v
        | inr v ↦
            tail_kept m.adts k i x.heap q.frame.serial Reached far9 ws 0 (Some c) shapes_then rest_then more t.tail
            (λ v z. t.made v (inr (has_right owned more v z))) all9 d v
      ]

      hold9 : HoldTheSame m k i x p next9
      hold9 =
          hold_less m i p q next9 k x
          (λ r u. elim (names_fewer (Some e ≡ Some r) q (begin + 10) others9 r (stored_fewer q.frame.words from_at None (Some e) t.from_word stores9.0 r) u) [
            | inl v ↦ word v
            | inr z ↦ reached9 r (t.from_own r z)
          ])
          (λ r u. elim (names_more (None ≡ Some r) q (begin + 10) others9 r (stored_more q.frame.words from_at None (Some e) t.from_word stores9.0 r) u) [
            | inl v ↦ v
            | inr z ↦ absurd cc
          ])
          hold

      drops : Goes m b i p 2 k w x q
      drops =
          let low : place m q ≡ 11 = over_rank m k i x busy n f 9 (Some c) p q t.over it here 9 (omega arith) q t.over.pc in
          let high : place m next9 ≡ 12 = over_rank m k i x busy n f 9 (Some c) p q t.over it here 10 (omega arith) next9 refl in
          goes_silently m b i p 2 k w x q next9 step9 worlds (omega (arith, low, high)) (at_ten more ws k x next9 linked9 hold9)

    at_nine : (e : ℕ) (more : List ℕ) (ws : List Word) (k : Facts) (x : World) (q : Process) → Joining 9 (Some e) (Some c) more ws k x q
        → HoldTheSame m k i x p q → Way (sides m) (place m) 3 k i x p q
    at_nine e more ws k x q t hold = (
      hold,
      λ now y w left h worlds.
          drops e more ws now w y q
          (linked_later m b loop from words i p n f here bare g known c first shape owned k now x y q left h 9 (Some e) (Some c) (Some c) shapes_then rest_then
          more ws t).0 h worlds,
    )

    -- ---- the first record comes to have the new one as the last

    named_from : (e j : ℕ) (end : Option ℕ) (more : List ℕ) (ws : List Word) (k : Facts) (x : World) (q : Process) → Joining j (Some e) end more ws k x q
        → 0 < machine.names q e
    named_from e j end more ws k x q t =
        let h = named_by q.frame.words (from_at / 4) e (word_found q.frame.words from_at (Refer (Some e)) t.from_word).1 in omega (arith, h)

    at_eight : (e : ℕ) (more : List ℕ) (ws : List Word) (k : Facts) (x : World) (q : Process) → Joining 8 (Some e) (Some e) more ws k x q
        → HoldTheSame m k i x p q → Way (sides m) (place m) 4 k i x p q
    at_eight e more ws k x q t hold = (
      hold,
      λ now y w left h worlds.
          let u = (linked_later m b loop from words i p n f here bare g known c first shape owned k now x y q left h 8 (Some e) (Some e) (Some c) shapes_then
          rest_then more ws t).0 in
          let low : place m q ≡ 10 = over_rank m now i y busy n f 8 (Some c) p q u.over it here 8 (omega arith) q u.over.pc in
          let high : place m (moved q 9 q.frame.words) ≡ 11 =
          over_rank m now i y busy n f 8 (Some c) p q u.over it here 9 (omega arith) (moved q 9 q.frame.words) refl in
          links m b loop from words i p n f here busy c 8 now w y q u.over h worlds first ws u.is.there u.is.free (u.made first (inl refl)) u.is.formed u.older
          (λ s d o z. u.apart s d o (inl (sym z))) 4 (omega arith) (Some e) u.ends
          (λ d z. let same : e ≡ d = cc in subst (λ v. 0 < machine.names q v) same (named_from e 8 (Some e) more ws now y q u)) r_at u.is.word 3 8 refl refl
          (omega (arith, low, high))
          (λ z s g'. at_nine e more s.others now z (moved q 9 q.frame.words)
          (linked_end m b loop from words i p n f here bare g known c first shape owned 8 now y z q (Some e) (Some e) (Some c) shapes_then rest_then more ws u s)
          g'),
    )

    at_twelve : (more : List ℕ) (ws : List Word) (k : Facts) (x : World) (q : Process) → Joining 12 None None more ws k x q
        → HoldTheSame m k i x p q → Way (sides m) (place m) 3 k i x p q
    at_twelve more ws k x q t hold = (
      hold,
      λ now y w left h worlds.
          let u = (linked_later m b loop from words i p n f here bare g known c first shape owned k now x y q left h 12 None None (Some c) shapes_then
          rest_then more ws t).0 in
          let low : place m q ≡ 14 = over_rank m now i y busy n f 12 (Some c) p q u.over it here 12 (omega arith) q u.over.pc in
          let high : place m (moved q 13 q.frame.words) ≡ 15 =
          over_rank m now i y busy n f 12 (Some c) p q u.over it here 13 (omega arith) (moved q 13 q.frame.words) refl in
          links m b loop from words i p n f here busy c 12 now w y q u.over h worlds first ws u.is.there u.is.free (u.made first (inl refl)) u.is.formed u.older
          (λ s d o z. u.apart s d o (inl (sym z))) 4 (omega arith) None u.ends (λ d z. absurd cc) r_at u.is.word 2 12 refl refl
          (omega (arith, low, high))
          (λ z s g'. at_thirteen more s.others now z (moved q 13 q.frame.words)
          (linked_end m b loop from words i p n f here bare g known c first shape owned 12 now y z q None None (Some c) shapes_then rest_then more ws u s) g'),
    )

    -- ---- the last record comes to refer to the new one

    at_seven : (e : ℕ) (more : List ℕ) (ws inner : List Word) (k : Facts) (x : World) (q : Process) → Befores 7 (Some e) (Some e) more ws inner k x q
        → HoldTheSame m k i x p q → Way (sides m) (place m) 5 k i x p q
    at_seven e more ws inner k x q t hold = (
      hold,
      λ now y w left h worlds.
          let u = before_later m b loop from words i p n f here bare g known c first shape owned k now x y q left h 7 (Some e) (Some e) shapes rest more ws
          inner t in
          let is = last_is m.adts now y.heap q.frame.serial ws 0 (Some e) shapes rest more u.linked.tail e refl in
          let one : Has (all_own more) e =
          inr (has_right owned more e (last_own m.adts now y.heap q.frame.serial ws 0 (Some e) shapes rest more u.linked.tail e refl)) in
          let low : place m q ≡ 9 = over_rank m now i y busy n f 7 (Some c) p q u.linked.over it here 7 (omega arith) q u.linked.over.pc in
          let high : place m (moved q 8 q.frame.words) ≡ 10 =
          over_rank m now i y busy n f 7 (Some c) p q u.linked.over it here 8 (omega arith) (moved q 8 q.frame.words) refl in
          links m b loop from words i p n f here busy c 7 now w y q u.linked.over h worlds e is.inner is.there is.free (u.linked.made e one) is.formed
          (u.older e one) (λ s d o z. u.linked.apart s d o (subst (Has (all_own more)) (sym z) one)) 0 (omega arith) None is.none (λ d z. absurd cc) from_at
          u.linked.from_word 4 7 refl refl (omega (arith, low, high))
          (λ z s g'. at_eight e (more ++ (c ∷ [])) ws now z (moved q 8 q.frame.words)
          (linked_last m b loop from words i p n f here bare g known c first shape owned 7 now y z q (Some e) (Some e) shapes rest more ws inner u e is.inner one s
          is.there refl)
          g'),
    )

    at_eleven : (more : List ℕ) (ws inner : List Word) (k : Facts) (x : World) (q : Process) → Befores 11 None None more ws inner k x q
        → HoldTheSame m k i x p q → Way (sides m) (place m) 4 k i x p q
    at_eleven more ws inner k x q t hold = (
      hold,
      λ now y w left h worlds.
          let u = before_later m b loop from words i p n f here bare g known c first shape owned k now x y q left h 11 None None shapes rest more ws inner t in
          let none = no_tail m.adts now y.heap q.frame.serial ws 0 None shapes rest more u.linked.tail refl in
          let low : place m q ≡ 13 = over_rank m now i y busy n f 11 (Some c) p q u.linked.over it here 11 (omega arith) q u.linked.over.pc in
          let high : place m (moved q 12 q.frame.words) ≡ 14 =
          over_rank m now i y busy n f 11 (Some c) p q u.linked.over it here 12 (omega arith) (moved q 12 q.frame.words) refl in
          links m b loop from words i p n f here busy c 11 now w y q u.linked.over h worlds first ws u.linked.is.there u.linked.is.free
          (u.linked.made first (inl refl)) u.linked.is.formed u.linked.older (λ s d o z. u.linked.apart s d o (inl (sym z))) 0 (omega arith) None none.word
          (λ d z. absurd cc) r_at u.linked.is.word 3 11 refl refl (omega (arith, low, high))
          (λ z s g'. at_twelve (more ++ (c ∷ [])) s.others now z (moved q 12 q.frame.words)
          (linked_first m b loop from words i p n f here bare g known c first shape owned 11 now y z q None None shapes rest more ws inner u first ws (inl refl) s
          refl refl refl)
          g'),
    )

    -- ---- the first slot's reference gets the last record

    module _ (e : ℕ) (more : List ℕ) (ws inner : List Word) (k : Facts) (w : Shared) (x : World) (q : Process)
        (t : Befores 6 None (Some e) more ws inner k x q) (hold : HoldTheSame m k i x p q) (worlds : (sides m).worlds k w x) where
      abbrev get : Inst
      get = inst op.Movp (behind r_at 4) middle.None (own from_at)

      abbrev lead6 : Leads x q (own from_at) q.frame.words from_at
      lead6 = (spots_lead.own x q from_at).0

      stores6 : StoresWord (obey frames_limit (object_of m) x q get op.Movp) x q lead6.place q.frame.words from_at (Refer (Some e))
      stores6 =
          words_move.reference frames_limit (object_of m) x q get (Some e) q.frame.words from_at lead6 None refl
          (operands_are_read.source_referring x q (behind r_at 4) ws 4 (spots_lead.inner x q r_at first ws 4 t.linked.is.word t.linked.is.there).0
          ∙ ap (λ (a : Access Word). a >>= reference) t.linked.ends) t.linked.from_word

      abbrev others6 : List Word
      others6 = with_word q.frame.words from_at (Refer (Some e))

      abbrev next6 : Process
      next6 = moved q 7 others6

      step6 : (sides m).code.step x q ≡ Went x next6
      step6 =
          let at = t.linked.over.pc in
          let past : suc q.frame.pc ≡ begin + 7 = omega (arith, at) in
          steps_obey.stores frames_limit (object_of m ∷ []) x q (object_of m) get x lead6.place others6 _
          (reaches m b loop from words i p n f here busy c 6 k w x q t.linked.over hold worlds 6 get refl refl) stores6.1
          ((spots_lead.own x q from_at).1 others6)
          ∙ ap (λ (pc : ℕ). Went x (moved_to q pc others6)) past

      last6 : (d : ℕ) → Some e ≡ Some d → Has (all_own more) d
      last6 d z =
          let same : e ≡ d = cc in
          subst (Has (all_own more)) same
          (inr (has_right owned more e (last_own m.adts k x.heap q.frame.serial ws 0 (Some e) shapes rest more t.linked.tail e refl)))

      before7 : Befores 7 (Some e) (Some e) more ws inner k x next6
      before7 =
          before_from m b loop from words i p n f here bare g known c first shape owned k x q 6 (Some e) None (Some e) shapes rest more ws inner 7 t stores6.0 last6

      hold6 : HoldTheSame m k i x p next6
      hold6 =
          holds_more m k i x p q next6 first (Record ws) (is_inner (k.fact first) t.linked.is.free) t.linked.is.there
          (λ r u. elim (names_fewer (None ≡ Some r) q (begin + 7) others6 r (stored_fewer q.frame.words from_at (Some e) None t.linked.from_word stores6.0 r) u) [
            | inl v ↦ v
            | inr z ↦ absurd cc
          ])
          (λ r u. elim (names_more (Some e ≡ Some r) q (begin + 7) others6 r (stored_more q.frame.words from_at (Some e) None t.linked.from_word stores6.0 r) u) [
            | inl v ↦ inl v
            | inr z ↦ inr (named_by ws 1 r ((word_found ws 4 (Refer (Some e)) t.linked.ends).1 ∙ ap (λ (o : Option ℕ). Some (Refer o)) z))
          ])
          (let h = named_by q.frame.words (r_at / 4) first (word_found q.frame.words r_at (Refer (Some first)) t.linked.is.word).1 in omega (arith, h))
          hold

      gets : Goes m b i p 5 k w x q
      gets =
          let low : place m q ≡ 8 = over_rank m k i x busy n f 6 (Some c) p q t.linked.over it here 6 (omega arith) q t.linked.over.pc in
          let high : place m next6 ≡ 9 = over_rank m k i x busy n f 6 (Some c) p q t.linked.over it here 7 (omega arith) next6 refl in
          goes_silently m b i p 5 k w x q next6 step6 worlds (omega (arith, low, high)) (at_seven e more ws inner k x next6 before7 hold6)

    at_six : (e : ℕ) (more : List ℕ) (ws inner : List Word) (k : Facts) (x : World) (q : Process) → Befores 6 None (Some e) more ws inner k x q
        → HoldTheSame m k i x p q → Way (sides m) (place m) 6 k i x p q
    at_six e more ws inner k x q t hold = (
      hold,
      λ now y w left h worlds.
          gets e more ws inner now w y q
          (before_later m b loop from words i p n f here bare g known c first shape owned k now x y q left h 6 None (Some e) shapes rest more ws inner t) h worlds,
    )

    -- ---- branches, by whether there is one record or more

    module _ (j to_j : ℕ) (r end : Option ℕ) (more : List ℕ) (ws inner : List Word) (k : Facts) (w : Shared) (x : World) (q : Process)
        (t : Befores j r end more ws inner k x q) (hold : HoldTheSame m k i x p q) (worlds : (sides m).worlds k w x) where
      -- the branch goes on with this instruction
      branches : (l : ℕ) → (sides m).code.step x q ≡ Went x (moved q to_j q.frame.words) → place m q < place m (moved q to_j q.frame.words)
          → ((u : Befores to_j r end more ws inner k x (moved q to_j q.frame.words)) → HoldTheSame m k i x p (moved q to_j q.frame.words)
          → Way (sides m) (place m) l k i x p (moved q to_j q.frame.words))
          → Goes m b i p l k w x q
      branches l step pace way =
          goes_silently m b i p l k w x q (moved q to_j q.frame.words) step worlds pace
          (way (before_at m b loop from words i p n f here bare g known c first shape owned k x q j to_j r end shapes rest more ws inner t)
          (hold_as m b i p k x q (moved q to_j q.frame.words) (λ o. refl) hold))

    module _ (end : Option ℕ) (more : List ℕ) (ws inner : List Word) (k : Facts) (w : Shared) (x : World) (q : Process)
        (t : Befores 5 None end more ws inner k x q) (hold : HoldTheSame m k i x p q) (worlds : (sides m).worlds k w x) where
      abbrev branch5 : Inst
      branch5 = inst op.Beqw (behind r_at 4) nil_middle (operand.Imm (pos (begin + 11)))

      step5 : (holds : Bool) → same_reference end None ≡ holds → (sides m).code.step x q ≡ where_holds x q holds (begin + 11)
      step5 holds z =
          let row = over_row m k i x busy n f 5 (Some c) p q t.linked.over it here b w hold worlds in
          steps_obey.does frames_limit (object_of m ∷ []) x q (object_of m) branch5 (where_holds x q holds (begin + 11))
          (reaches m b loop from words i p n f here busy c 5 k w x q t.linked.over hold worlds 5 branch5 refl refl)
          (numbers_work.references frames_limit (object_of m) x q branch5 comparison.Equal end None holds (begin + 11) refl
          (operands_are_read.source_referring x q (behind r_at 4) ws 4 (spots_lead.inner x q r_at first ws 4 t.linked.is.word t.linked.is.there).0
          ∙ ap (λ (a : Access Word). a >>= reference) t.linked.ends)
          (storing.nil_read m b loop from words i p n f here busy c 5 k w x q t.linked.over hold worlds) (ap Found z) refl
          (within_length (object_of m).insts (begin + 11) _ (row.insts 11 _ refl)))

      low5 : place m q ≡ 7
      low5 = over_rank m k i x busy n f 5 (Some c) p q t.linked.over it here 5 (omega arith) q t.linked.over.pc

      to_eleven : end ≡ None → Goes m b i p 4 k w x q
      to_eleven none =
          let low = low5 in
          let high : place m (moved q 11 q.frame.words) ≡ 13 =
          over_rank m k i x busy n f 5 (Some c) p q t.linked.over it here 11 (omega arith) (moved q 11 q.frame.words) refl in
          branches 5 11 None end more ws inner k w x q t hold worlds 4
          (step5 true (ap (λ o. same_reference o None) none)) (omega (arith, low, high))
          (λ u g'. at_eleven more ws inner k x (moved q 11 q.frame.words)
          (subst (λ o. Befores 11 None o more ws inner k x (moved q 11 q.frame.words)) none u) g')

      to_six : (e : ℕ) → end ≡ Some e → Goes m b i p 6 k w x q
      to_six e is =
          let at = t.linked.over.pc in
          let past : suc q.frame.pc ≡ begin + 6 = omega (arith, at) in
          let low = low5 in
          let high : place m (moved q 6 q.frame.words) ≡ 8 =
          over_rank m k i x busy n f 5 (Some c) p q t.linked.over it here 6 (omega arith) (moved q 6 q.frame.words) refl in
          branches 5 6 None end more ws inner k w x q t hold worlds 6
          (step5 false (ap (λ o. same_reference o None) is ∙ numbers_work.different (Some e) None (λ z. absurd cc))
          ∙ ap (λ (pc : ℕ). Went x (moved_to q pc q.frame.words)) past) (omega (arith, low, high))
          (λ u g'. at_six e more ws inner k x (moved q 6 q.frame.words)
          (subst (λ o. Befores 6 None o more ws inner k x (moved q 6 q.frame.words)) is u) g')

    abbrev WayAt : (l j : ℕ) → Type 0
    WayAt l j = (end : Option ℕ) (more : List ℕ) (ws inner : List Word) (k : Facts) (x : World) (q : Process) → Befores j None end more ws inner k x q
        → HoldTheSame m k i x p q → Way (sides m) (place m) l k i x p q

    five_one : rest ≡ NoRegion → WayAt 5 5
    five_one e end more ws inner k x q t hold = (
      hold,
      λ now y w left h worlds.
          let u = before_later m b loop from words i p n f here bare g known c first shape owned k now x y q left h 5 None end shapes rest more ws inner t in
          to_eleven end more ws inner now w y q u h worlds
          (none_behind m.adts now y.heap q.frame.serial ws 0 end shapes rest more u.linked.tail e).none,
    )

    five_more : (g2 : core.Region) (rest2 : Regions) → rest ≡ MoreRegions g2 rest2 → WayAt 7 5
    five_more g2 rest2 e end more ws inner k x q t hold = (
      hold,
      λ now y w left h worlds.
          let u = before_later m b loop from words i p n f here bare g known c first shape owned k now x y q left h 5 None end shapes rest more ws inner t in
          let two = one_behind m.adts now y.heap q.frame.serial ws 0 end shapes rest more u.linked.tail g2 rest2 e in
          let last = last_some two.behind two.block in
          to_six end more ws inner now w y q u h worlds last.0 (two.last_so ∙ last.1),
    )

    -- ---- the first branch

    module _ (end : Option ℕ) (more : List ℕ) (ws inner : List Word) (k : Facts) (w : Shared) (x : World) (q : Process)
        (t : Befores 4 None end more ws inner k x q) (hold : HoldTheSame m k i x p q) (worlds : (sides m).worlds k w x) where
      abbrev branch4 : Inst
      branch4 = inst op.Beqw (own r_at) nil_middle (operand.Imm (pos (begin + 14)))

      to_five : (l : ℕ) → WayAt l 5 → Goes m b i p l k w x q
      to_five l way =
          let row = over_row m k i x busy n f 4 (Some c) p q t.linked.over it here b w hold worlds in
          let at = t.linked.over.pc in
          let past : suc q.frame.pc ≡ begin + 5 = omega (arith, at) in
          let low : place m q ≡ 6 = over_rank m k i x busy n f 4 (Some c) p q t.linked.over it here 4 (omega arith) q t.linked.over.pc in
          let high : place m (moved q 5 q.frame.words) ≡ 7 =
          over_rank m k i x busy n f 4 (Some c) p q t.linked.over it here 5 (omega arith) (moved q 5 q.frame.words) refl in
          branches 4 5 None end more ws inner k w x q t hold worlds l
          (steps_obey.does frames_limit (object_of m ∷ []) x q (object_of m) branch4 (where_holds x q false (begin + 14))
          (reaches m b loop from words i p n f here busy c 4 k w x q t.linked.over hold worlds 4 branch4 refl refl)
          (numbers_work.references frames_limit (object_of m) x q branch4 comparison.Equal (Some first) None false (begin + 14) refl
          (operands_are_read.source_referring x q (own r_at) q.frame.words r_at (spots_lead.own x q r_at).0
          ∙ ap (λ (a : Access Word). a >>= reference) t.linked.is.word)
          (storing.nil_read m b loop from words i p n f here busy c 4 k w x q t.linked.over hold worlds)
          (ap Found (numbers_work.different (Some first) None (λ z. absurd cc))) refl
          (within_length (object_of m).insts (begin + 14) _ (row.insts 14 _ refl)))
          ∙ ap (λ (pc : ℕ). Went x (moved_to q pc q.frame.words)) past) (omega (arith, low, high))
          (λ u g'. way end more ws inner k x (moved q 5 q.frame.words) u g')

  -- ---- where the region's slots are blank

  has_range : (from count d : ℕ) → d < count → Has (range_with_len from count) (from + d)
  has_range from zero d l = absurd (omega (arith, l))
  has_range from (suc n) zero l = inl (omega arith)
  has_range from (suc n) (suc d) l = inr (subst (Has (range_with_len (from + 1) n)) (omega arith) (has_range (from + 1) n d (omega (arith, l))))

  module _ (c : ℕ) (inner : List Word) (k : Facts) (w : Shared) (x : World) (q : Process) (t : Cleared m b loop from words i p n f here bare 4 c inner k x q)
      (hold : HoldTheSame m k i x p q) (worlds : (sides m).worlds k w x) where
    abbrev fr : Over m k i x region n f 4 (Some c) p q
    fr = t.filled.fresh.over

    abbrev are : WordsAre m.adts k x.heap q.frame.serial region types fr.known p.frame.variables p.frame.slots q.frame.words
    are = fr.words

    below : loop < length p.frame.slots
    below = (over_used m k i x region n f 4 (Some c) p q fr it here).0

    in_front : loop < from
    in_front = (over_agrees m k i x region n f 4 (Some c) p q fr it here).0.0

    some_words : 0 < words
    some_words = (over_agrees m k i x region n f 4 (Some c) p q fr it here).0.1

    not_in : Has region loop → ⊥
    not_in h = let r = in_range from words loop h in let e = r.1 in let l = in_front in omega (arith, e, l)

    abbrev known_chain : held.Regions
    known_chain = (over_found m k i x region n f 4 (Some c) p q fr it here).0

    chain : FirstOf m.adts k x.heap q.frame.serial q.frame.words r_at known_chain g rest (are.own loop)
    chain =
        let so = loop_so m k i x region n f 4 (Some c) p q fr loop below not_in (over_found m k i x region n f 4 (Some c) p q fr it here) in
        first_of m.adts k x.heap q.frame.serial q.frame.words r_at known_chain (chain_of (core.slot p.frame.slots loop)) (are.own loop) so.chain g rest some

    known_so : held.slot fr.known loop ≡ held.Turns (held.MoreRegions chain.shape chain.shapes)
    known_so = (over_found m k i x region n f 4 (Some c) p q fr it here).1 ∙ ap held.Turns chain.known

    abbrev own_of : (s : ℕ) → IsWhere loop from words s → List ℕ
    own_of s h = own_by loop from words s [] (λ d. []) are.own h

    abbrev own_then : ℕ → List ℕ
    own_then s = own_of s (is_where loop from words s)

    busy_none : (s : ℕ) (at : IsWhere loop from words s) → Has busy s → own_of s at ≡ []
    busy_none s (at_loop e) h = refl
    busy_none s (within d l e) h = refl
    busy_none s (elsewhere ne out) (inl e) = absurd (ne (sym e))
    busy_none s (elsewhere ne out) (inr h) = are.busy_bare s h

    past_none : (s : ℕ) (at : IsWhere loop from words s) → length p.frame.slots ≤ s → own_of s at ≡ []
    past_none s (at_loop e) l = refl
    past_none s (within d u e) l = refl
    past_none s (elsewhere ne out) l = are.none_past s l

    -- what such a slot has it had, and isn't the loop's
    had : (s d : ℕ) (at : IsWhere loop from words s) → Has (own_of s at) d → Has (are.own s) d × ((s ≡ loop) → ⊥)
    had s d (at_loop e) h = absurd h
    had s d (within v l e) h = absurd h
    had s d (elsewhere ne out) h = (h, ne)

    single_of : (s : ℕ) (at : IsWhere loop from words s) → Single (own_of s at)
    single_of s (at_loop e) = tt
    single_of s (within d l e) = tt
    single_of s (elsewhere ne out) = are.single s

    same_of : (s : ℕ) (at : IsWhere loop from words s) → (Has busy s → ⊥) → own_of s at ≡ are.own s
    same_of s (at_loop e) idle = absurd (idle (inl (sym e)))
    same_of s (within d l e) idle = absurd (idle (inr (subst (Has region) (sym e) (has_range from words d l))))
    same_of s (elsewhere ne out) idle = refl

    words_busy : (now : WordsAre m.adts k x.heap q.frame.serial busy types fr.known p.frame.variables p.frame.slots q.frame.words)
        × (now.own ≡ own_then)
    words_busy =
        slots_change.several m.adts k k x.heap x.heap q.frame.serial region busy types fr.known fr.known p.frame.variables p.frame.slots p.frame.slots
        q.frame.words q.frame.words own_then are (record { facts = λ n f e. e; makers = λ n j e. e; forms = λ n o e. e }) refl are.as_many
        (record { each = λ u never. refl }) are.kind
        (λ s l. past_none s (is_where loop from words s) l) (λ s h. busy_none s (is_where loop from words s) h)
        (λ s h l idle a o. inl (record {
          idle = λ u. idle (inr u);
          known_so = a;
          holds_so = o;
          words_so = λ u r. refl;
          own_so = same_of s (is_where loop from words s) idle;
          kept = λ d u. (
            ((frames_later m.adts k x.heap q.frame.serial region types fr.known p.frame.variables p.frame.slots q.frame.words are).owned s d
                (had s d (is_where loop from words s) u).0).0,
            refl,
          );
        }))
        (λ s. single_of s (is_where loop from words s))
        (λ s r d h o. are.apart s r d (had s d (is_where loop from words s) h).0 (had r d (is_where loop from words r) o).0)

    had_then : (s d : ℕ) → Has (words_busy.0.own s) d → Has (are.own s) d × ((s ≡ loop) → ⊥)
    had_then s d h = had s d (is_where loop from words s) (subst (λ (o : ℕ → List ℕ). Has (o s) d) words_busy.1 h)

    abbrev over_busy : Over m k i x busy n f 4 (Some c) p q
    over_busy = record {
      process = fr.process;
      there = fr.there;
      code = fr.code;
      answer = fr.answer;
      many = fr.many;
      instance = fr.instance;
      formed = fr.formed;
      known = fr.known;
      words = words_busy.0;
      mine = λ s d h. fr.mine s d (had_then s d h).0;
      fresh = fr.fresh;
      goes = fr.goes;
      waits = fr.waits;
      pc = fr.pc;
      spare = fr.spare;
      none_made = fr.none_made;
    }

    abbrev all_owned : List ℕ
    all_owned = chain.block ∷ chain.owned ++ chain.more

    of_loop : (d : ℕ) → Has all_owned d → Has (are.own loop) d
    of_loop d h = subst (λ (os : List ℕ). Has os d) (sym chain.own_so) h

    blank_none : (r : Option ℕ) → slice_get (turn_words words) ((8 + 8 * 0 + 4) / 4) ≡ Some (Refer r) → r ≡ None
    blank_none None e = refl
    blank_none (Some u) e = absurd (turn_bare words u (has_at (turn_words words) ((8 + 8 * 0 + 4) / 4) (Refer (Some u)) e))

    from_none : word_at q.frame.words (pos from_at) ≡ Found (Refer None)
    from_none =
        let l = some_words in
        let r = (turn_kind words).refer (8 + 8 * 0 + 4) (inr (inr (refers_second 8 words 0 l))) in
        let o : (8 + 8 * 0 + 4) / 4 ≡ 8 / 4 + (2 * 0 + 1) = omega arith in
        let a : to / 4 + (2 * 0 + 1) ≡ from_at / 4 = omega arith in
        let found : slice_get q.frame.words (from_at / 4) ≡ Some (Refer r.0) =
        sym (ap (slice_get q.frame.words) a) ∙ t.blank (2 * 0 + 1) (omega (arith, l)) ∙ sym (ap (slice_get (turn_words words)) o) ∙ r.1 in
        word_there q.frame.words from_at (Refer None) (omega arith) (found ∙ ap (λ (u : Option ℕ). Some (Refer u)) (blank_none r.0 r.1))

    number_so : word_at q.frame.words (pos n_at) ≡ Found (Plain (pos (core.next_of (core.slot p.frame.slots loop))))
    number_so = (loop_so m k i x region n f 4 (Some c) p q fr loop below not_in (over_found m k i x region n f 4 (Some c) p q fr it here)).number

    before4 : Before m b loop from words i p n f here bare g fr.known c chain.block chain.shape chain.owned 4 None chain.last chain.shapes rest chain.more
        chain.inner inner k x q
    before4 = record {
      linked = record {
        over = over_busy;
        known_so = refl;
        number = number_so;
        is = chain.is;
        ends = chain.end;
        region = chain.region;
        tail = chain.tail;
        single = subst Single chain.own_so (are.single loop);
        apart = λ s d h u. let z = had_then s d h in z.1 (are.apart s loop d z.0 (of_loop d u));
        made = λ d h. fr.mine loop d (of_loop d h);
        free = λ d h.
            ((frames_later m.adts k x.heap q.frame.serial region types fr.known p.frame.variables p.frame.slots q.frame.words are).owned loop d (of_loop d h)).0;
        older = t.filled.fresh.older loop chain.block (of_loop chain.block (inl refl));
        blank = λ u l ne. t.blank u l;
        from_word = from_none;
        from_own = λ d z. absurd cc;
      };
      there = t.filled.fresh.there;
      unknown = t.filled.fresh.unknown;
      made = t.filled.fresh.made;
      formed = t.filled.fresh.formed;
      fresh = λ s d h. t.filled.fresh.older s d (had_then s d h).0;
      older = λ d h. t.filled.fresh.older loop d (of_loop d h);
      kind = t.filled.kind;
      first_word = t.filled.first;
      last_word = t.filled.last;
      region = t.filled.region;
    }

    from_one : rest ≡ NoRegion → Goes m b i p 5 k w x q
    from_one e =
        to_five fr.known c chain.block chain.shape chain.owned chain.shapes known_so chain.last chain.more chain.inner inner k w x q before4 hold worlds 5
        (five_one fr.known c chain.block chain.shape chain.owned chain.shapes known_so e)

    from_more : (g2 : core.Region) (rest2 : Regions) → rest ≡ MoreRegions g2 rest2 → Goes m b i p 7 k w x q
    from_more g2 rest2 e =
        to_five fr.known c chain.block chain.shape chain.owned chain.shapes known_so chain.last chain.more chain.inner inner k w x q before4 hold worlds 7
        (five_more fr.known c chain.block chain.shape chain.owned chain.shapes known_so g2 rest2 e)

  abbrev FourAt : ℕ → Type 0
  FourAt l = (c : ℕ) (inner : List Word) (k : Facts) (x : World) (q : Process) → Cleared m b loop from words i p n f here bare 4 c inner k x q
      → HoldTheSame m k i x p q → Way (sides m) (place m) l k i x p q

  pub four_one : rest ≡ NoRegion → FourAt 6
  four_one e c inner k x q t hold = (
    hold,
    λ now y w left h worlds.
        from_one c inner now w y q (cleared_later m b loop from words i p n f here bare 4 c inner k now x y q left h t) h worlds e,
  )

  pub four_more : (g2 : core.Region) (rest2 : Regions) → rest ≡ MoreRegions g2 rest2 → FourAt 8
  four_more g2 rest2 e c inner k x q t hold = (
    hold,
    λ now y w left h worlds.
        from_more c inner now w y q (cleared_later m b loop from words i p n f here bare 4 c inner k now x y q left h t) h worlds g2 rest2 e,
  )
