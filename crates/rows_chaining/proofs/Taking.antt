-- A region that comes back from a chain: what stands while its slots have it already and the loop still has the chain, and how it ends.
use Rattle.std.proofs.Common.{◌≡◌, ◌⊎◌, ℕ, zero, suc, pos, ◌+◌, ◌*◌, ◌/◌, ◌<◌, ◌≤◌, List, length, Option, Some, refl, sym, ap, ◌∙◌, subst, arith, inl, inr}
use Rattle.std.specs.Prelude.{slice_get}
use Rattle.std.specs.List.{range_with_len}
use Rattle.process_ways.specs.Ways.{Way}
use Rattle.heap_model.specs.Heap.{at}
use Rattle.heap_model.specs.Facts.{Free}
use Rattle.heap_model.proofs.Alike.{is_inner}
use Rattle.limbo_layout.specs.Adts.{Has}
use Rattle.limbo_types.specs.Types.{Ty}
use Rattle.limbo_typed.specs.Typed as typed
use Rattle.limbo_meaning.specs.Process.{Shared}
use Rattle.core_code.specs.Code.{Instr, Take}
use Rattle.core_code.specs.Machine as code
use Rattle.core_code.specs.Slots as core
use Rattle.core_code.specs.Slots.{Slot, Turns, Regions, MoreRegions, chain_of, next_of}
use Rattle.core_typing.specs.Held as held
use Rattle.core_typing.specs.Held.{Held, slots_in, EachHas}
use Rattle.dis_meaning.specs.Words.{Word, Refer, Found, word_at}
use Rattle.dis_meaning.specs.Counts.{in_words}
use Rattle.dis_meaning.specs.Process.{Process}
use Rattle.dis_memory.specs.Blocks.{Record, World}
use Rattle.dis_memory.specs.Naming as machine
use Rattle.value_words.specs.Facts.{Facts}
use Rattle.value_words.proofs.Bytes.{word_found}
use Rattle.value_heaps.proofs.Words.{named_by, named_where}
use Rattle.value_frames.specs.Frames.{spare_place, number_place, reference_place}
use Rattle.value_moves.proofs.Changing.{low_or_high}
use Rattle.number_effects.specs.Giving.{with_word, WordStored}
use Rattle.value_follows.specs.Stands.{types_of, place_of}
use Rattle.value_follows.specs.Sides.{sides, HoldTheSame}
use Rattle.value_follows.specs.Rows.{place, Base}
use Rattle.value_follows.proofs.Putting.{word_same}
use Rattle.value_follows.proofs.RootedSlots.{in_range}
use Rattle.value_follows.proofs.Several.{Next as Goes, moved_to}
use Rattle.rows_chaining.proofs.Alike.{holds_more, holds_fewer}
use Rattle.rows_chaining.proofs.Chains.{FirstOf, first_of}
use Rattle.rows_chaining.proofs.Over.{Over, over_used, over_found, over_agrees, over_later, loop_so}

module _ (m : typed.Module) (b : Base m) (loop from words passes i : ℕ) (p : code.Process) (n : ℕ) (f : typed.Function)
    (here : slice_get p.frame.code p.frame.pc ≡ Some (Take loop from words passes)) (g : core.Region) (rest : Regions)
    (some : chain_of (core.slot p.frame.slots loop) ≡ MoreRegions g rest) where
  abbrev pub it : Instr
  it = Take loop from words passes

  abbrev pub types : List Ty
  types = types_of m f

  abbrev pub n_at : ℕ
  n_at = number_place m.adts types loop

  abbrev pub r_at : ℕ
  r_at = reference_place m.adts types loop

  abbrev pub to : ℕ
  to = number_place m.adts types from

  abbrev pub spare_at : ℕ
  spare_at = spare_place m.adts types

  abbrev pub region : List ℕ
  region = range_with_len from words

  abbrev pub begin : ℕ
  begin = place_of m n f p.frame.pc

  -- ---- what the loop has

  module _ (k : Facts) (x : World) (busy : List ℕ) (j : ℕ) (r : Option ℕ) (q : Process) (over : Over m k i x busy n f j r p q)
      (idle : Has busy loop → ⊥) where
    abbrev pub below : loop < length p.frame.slots
    below = (over_used m k i x busy n f j r p q over it here).0

    abbrev pub fits : from + words ≤ length p.frame.slots
    fits = (over_used m k i x busy n f j r p q over it here).1

    abbrev pub in_front : loop < from
    in_front = (over_agrees m k i x busy n f j r p q over it here).0

    abbrev pub chain_known : held.Regions
    chain_known = (over_found m k i x busy n f j r p q over it here).0.0

    abbrev pub FirstHere : Type 0
    FirstHere = FirstOf m.adts k x.heap q.frame.serial q.frame.words r_at chain_known g rest (over.words.own loop)

    pub first_here : FirstHere
    first_here =
        let is = (over_found m k i x busy n f j r p q over it here).0 in
        let so = loop_so m k i x busy n f j r p q over loop below idle is in
        first_of m.adts k x.heap q.frame.serial q.frame.words r_at is.0 (chain_of (core.slot p.frame.slots loop)) (over.words.own loop) so.chain g rest some

    -- each region has as many slots
    pub shape_long : (one : FirstHere) → slots_in one.shape ≡ words
    shape_long one =
        let is = (over_found m k i x busy n f j r p q over it here).0 in
        let each = (over_agrees m k i x busy n f j r p q over it here).2 in
        (subst (EachHas words) one.known (subst (λ h. EachHas words (held.chain_of h)) is.1 each)).0

  -- ---- while the region's slots have it and the loop's slot its chain

  -- All but the slots of the region stands as before the row; they have the words of the first record, to which the loop's slot refers
  -- and the spare word does.
  pub record Turning (ghost : Process) (c : ℕ) (inner : List Word) (k : Facts) (x : World) : Type 0 where
    pub over : Over m k i x region n f 3 (Some c) p ghost
    pub there : at x.heap c ≡ Some (Record inner)
    pub free : Free k c
    pub made : k.maker c ≡ Some i
    pub word : word_at ghost.frame.words (pos r_at) ≡ Found (Refer (Some c))
    pub same : (j : ℕ) → j < 2 * words → slice_get ghost.frame.words (to / 4 + j) ≡ slice_get inner (8 / 4 + j)

  named_spare : (q : Process) (c : ℕ) → word_at q.frame.words (pos spare_at) ≡ Found (Refer (Some c)) → 0 < machine.names q c
  named_spare q c e =
      let h = named_by q.frame.words (spare_at / 4) c (word_found q.frame.words spare_at (Refer (Some c)) e).1 in omega (arith, h)

  not_idle : loop < from → Has region loop → ⊥
  not_idle l h = let r = in_range from words loop h in let e = r.1 in omega (arith, l, e)

  pub turning_later : (ghost : Process) (c : ℕ) (inner : List Word) (k now : Facts) (x y : World) → (sides m).leaves i k now x y
      → HoldTheSame m now i y p ghost → Turning ghost c inner k x → Turning ghost c inner now y
  turning_later ghost c inner k now x y left hold t =
      let kept = b.mine_later k now i x y p ghost left hold c (named_spare ghost c t.over.spare) t.free t.made in
      record {
        over = over_later m i p ghost b k now x y left hold region n f 3 (Some c) t.over;
        there = kept.1 ∙ t.there;
        free = kept.0;
        made = left.0.grows.makers c i t.made;
        word = t.word;
        same = t.same;
      }

  -- The loop's word comes to refer to what is behind it.
  module _ (ghost : Process) (c : ℕ) (inner : List Word) (next : Option ℕ) (behind : word_at inner (pos 0) ≡ Found (Refer next))
      (loop_word : word_at ghost.frame.words (pos r_at) ≡ Found (Refer (Some c)))
      (spare_word : word_at ghost.frame.words (pos spare_at) ≡ Found (Refer (Some c)))
      (stored : WordStored ghost.frame.words r_at (Refer next)) where
    abbrev pub words4 : List Word
    words4 = with_word ghost.frame.words r_at (Refer next)

    abbrev pub q_at : (j : ℕ) → Process
    q_at j = moved_to ghost (begin + j) words4

    pub spare4 : word_at words4 (pos spare_at) ≡ Found (Refer (Some c))
    spare4 = word_same ghost.frame.words words4 spare_at (stored.changes.words (spare_at / 4) (inl (omega arith))) ∙ spare_word

    same_refer : (u v : Option ℕ) → Some (Refer u) ≡ Some (Refer v) → u ≡ v
    same_refer u v e = cc

    words_fewer : (o : ℕ) → 0 < in_words o ghost.frame.words → 0 < in_words o words4
    words_fewer o h =
        let at = named_where ghost.frame.words o h in
        elim (low_or_high at.0 (r_at / 4)) [
          | inl low ↦ named_by words4 at.0 o (stored.changes.words at.0 (inl (omega (arith, low))) ∙ at.1)
          | inr high ↦ elim (low_or_high (r_at / 4) at.0) [
            | inl past ↦ named_by words4 at.0 o (stored.changes.words at.0 (inr (omega (arith, past))) ∙ at.1)
            | inr less ↦
                let here : at.0 ≡ r_at / 4 = omega (arith, high, less) in
                let is : Some (Refer (Some o)) ≡ Some (Refer (Some c)) =
                sym at.1 ∙ ap (slice_get ghost.frame.words) here ∙ (word_found ghost.frame.words r_at (Refer (Some c)) loop_word).1 in
                let same : o ≡ c = cc in
                subst (λ d. 0 < in_words d words4) (sym same)
                (named_by words4 (spare_at / 4) c (word_found words4 spare_at (Refer (Some c)) spare4).1)
          ]
        ]

    words_more : (o : ℕ) → 0 < in_words o words4 → (0 < in_words o ghost.frame.words) ⊎ (0 < in_words o inner)
    words_more o h =
        let at = named_where words4 o h in
        elim (low_or_high at.0 (r_at / 4)) [
          | inl low ↦ inl (named_by ghost.frame.words at.0 o (sym (stored.changes.words at.0 (inl (omega (arith, low)))) ∙ at.1))
          | inr high ↦ elim (low_or_high (r_at / 4) at.0) [
            | inl past ↦ inl (named_by ghost.frame.words at.0 o (sym (stored.changes.words at.0 (inr (omega (arith, past)))) ∙ at.1))
            | inr less ↦
                let here : at.0 ≡ r_at / 4 = omega (arith, high, less) in
                let is : Some (Refer (Some o)) ≡ Some (Refer next) =
                sym at.1 ∙ ap (slice_get words4) here ∙ (word_found words4 r_at (Refer next) stored.there).1 in
                let same : Some o ≡ next = same_refer (Some o) next is in
                inr (named_by inner 0 o ((word_found inner 0 (Refer next) behind).1 ∙ ap (λ (u : Option ℕ). Some (Refer u)) (sym same)))
          ]
        ]

    names_fewer : (j o : ℕ) → 0 < machine.names ghost o → 0 < machine.names (q_at j) o
    names_fewer j o h = go (in_words o ghost.frame.words) refl
      where
        go : (z : ℕ) → in_words o ghost.frame.words ≡ z → 0 < machine.names (q_at j) o
        go zero e = omega (arith, h, e)
        go (suc z) e = let w = words_fewer o (omega (arith, e)) in omega (arith, w)

    names_more : (j o : ℕ) → 0 < machine.names (q_at j) o → (0 < machine.names ghost o) ⊎ (0 < in_words o inner)
    names_more j o h = go (in_words o words4) refl
      where
        go : (z : ℕ) → in_words o words4 ≡ z → (0 < machine.names ghost o) ⊎ (0 < in_words o inner)
        go zero e = inl (omega (arith, h, e))
        go (suc z) e = elim (words_more o (omega (arith, e))) [
          | inl y ↦ inl (omega (arith, y))
          | inr y ↦ inr y
        ]

    module _ (k : Facts) (x : World) (j : ℕ) (free : Free k c) (there : at x.heap c ≡ Some (Record inner)) where
      pub hold_on : HoldTheSame m k i x p ghost → HoldTheSame m k i x p (q_at j)
      hold_on =
          holds_more m k i x p ghost (q_at j) c (Record inner) (is_inner (k.fact c) free) there (names_fewer j) (names_more j)
          (named_spare ghost c spare_word)

      pub hold_back : HoldTheSame m k i x p (q_at j) → HoldTheSame m k i x p ghost
      hold_back =
          holds_fewer m k i x p ghost (q_at j) c (Record inner) (is_inner (k.fact c) free) there (names_fewer j) (names_more j)
          (named_spare ghost c spare_word)

    -- So it is while others step.
    pub turning_way : (l j : ℕ) (k : Facts) (x : World) → Turning ghost c inner k x → HoldTheSame m k i x p (q_at j)
        → ((now : Facts) (w : Shared) (y : World) → Turning ghost c inner now y → HoldTheSame m now i y p ghost → HoldTheSame m now i y p (q_at j)
        → (sides m).worlds now w y → Goes m b i p l now w y (q_at j))
        → Way (sides m) (place m) (suc l) k i x p (q_at j)
    turning_way l j k x t hold does = (
      hold,
      λ now y w left h worlds.
          let kept = b.mine_later k now i x y p (q_at j) left h c (named_spare (q_at j) c spare4) t.free t.made in
          let back = hold_back now y j kept.0 (kept.1 ∙ t.there) h in
          does now w y (turning_later ghost c inner k now x y left back t) back h worlds,
    )
