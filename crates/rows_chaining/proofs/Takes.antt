-- Rows that take a region back: nothing is in the chain, or the region of the only record comes, that of the first of two, or of more.
use Rattle.std.proofs.Common.{◌≡◌, ◌≢◌, ◌⊎◌, ℕ, Bool, true, false, suc, pos, ◌+◌, ◌*◌, ◌/◌, ◌<◌, List, [], ◌∷◌, ◌++◌, length, Option, Some, None, refl, sym, ap, ◌∙◌, subst, arith, inl, inr}
use Rattle.std.specs.Prelude.{slice_get}
use Rattle.std.specs.List.{range_with_len}
use Rattle.std.proofs.lemmas.List.{length-set}
use Rattle.process_model.specs.Process.{Went}
use Rattle.process_model.specs.Follows.{Only}
use Rattle.process_ways.specs.Ways.{Way}
use Rattle.heap_model.specs.Heap.{Heap, at, there, in_one}
use Rattle.heap_model.specs.Facts.{Carrier, Free}
use Rattle.heap_model.specs.Worlds.{Sets}
use Rattle.heap_model.proofs.Heap.{there_is, there_of, within}
use Rattle.heap_model.proofs.Changes.{set_free, there_on}
use Rattle.heap_model.proofs.Growing.{grows_same}
use Rattle.limbo_types.specs.Types as ty
use Rattle.limbo_types.specs.Types.{Ty}
use Rattle.limbo_layout.specs.Adts.{Def, Has}
use Rattle.limbo_layout.proofs.Rooms.{has_left, has_right}
use Rattle.limbo_typed.specs.Typed as typed
use Rattle.limbo_values.specs.declared.operator.Comparison.TheVariants as comparison
use Rattle.limbo_meaning.specs.Process.{Shared}
use Rattle.limbo_meaning.specs.Values.{Value, Ref}
use Rattle.system_model.specs.Limits.{frames_limit}
use Rattle.core_code.specs.Code.{Instr, Take}
use Rattle.core_code.specs.Machine as code
use Rattle.core_code.specs.Slots as core
use Rattle.core_code.specs.Slots.{Slot, Regions, NoRegion, MoreRegions, chain_of}
use Rattle.core_typing.specs.Held as held
use Rattle.core_typing.specs.Held.{slots_in}
use Rattle.dis_isa.specs.declared.inst.Inst.{Inst}
use Rattle.dis_isa.specs.declared.inst.Middle.TheVariants as middle
use Rattle.dis_isa.specs.declared.inst.Operand.TheVariants as operand
use Rattle.dis_isa.specs.declared.op.Op.TheVariants as op
use Rattle.dis_meaning.specs.Words.{Word, Refer, Access, Found, ◌>>=◌, word_at, reference}
use Rattle.dis_meaning.specs.Counts.{in_words}
use Rattle.dis_meaning.specs.Process.{Process}
use Rattle.dis_memory.specs.Blocks.{Block, Record, World, with_changed}
use Rattle.dis_memory.specs.Naming.{inside}
use Rattle.dis_memory.specs.Places.{source_reference, middle_reference}
use Rattle.dis_memory.specs.Numbers.{same_reference}
use Rattle.value_words.specs.Facts.{Facts, Grows}
use Rattle.value_words.specs.Stands as memory
use Rattle.value_words.specs.Stands.{a_number, a_text, a_name, an_array, no_words, a_tuple, an_adt}
use Rattle.value_words.proofs.Bytes.{word_found}
use Rattle.value_words.proofs.Rows.{below as within_length}
use Rattle.value_heaps.proofs.Words.{named_by, named_where}
use Rattle.value_roots.proofs.Words.{has_counts}
use Rattle.value_frames.specs.Frames.{spare_place, reference_place, turn_bytes, turn_references}
use Rattle.value_frames.specs.Types.{AreOf}
use Rattle.value_frames.specs.Slots.{IsKept}
use Rattle.value_frames.specs.Standing.{last_of, Single, ChainStands, no_chain, a_chain, TailStands, no_more, one_more, RegionStands}
use Rattle.value_frames.proofs.Later.{frames_later}
use Rattle.value_frames.proofs.Replacing.{kinds_stay}
use Rattle.value_moves.specs.Operands.{inst, own, of_own, behind}
use Rattle.value_moves.specs.Spots.{Leads}
use Rattle.value_moves.proofs.Leading.{spots_lead}
use Rattle.value_moves.proofs.Changing.{low_or_high}
use Rattle.value_code.specs.Objects.{object_of, placed}
use Rattle.value_code.specs.Code.{nil_middle, code_of}
use Rattle.number_effects.specs.Giving.{with_word, WordStored, StoresWord}
use Rattle.number_effects.specs.Numbers.{where_holds}
use Rattle.number_effects.specs.Stepping.{Reaches}
use Rattle.number_effects.proofs.Numbers.{numbers_work}
use Rattle.number_effects.proofs.Reading.{operands_are_read}
use Rattle.number_effects.proofs.Records.{words_move}
use Rattle.number_effects.proofs.Stepping.{steps_obey}
use Rattle.dis_memory.specs.Step.{obey}
use Rattle.value_follows.specs.Stands.{types_of, place_of}
use Rattle.value_follows.specs.Sides.{sides, contents, HoldTheSame}
use Rattle.value_follows.specs.Rows.{place, Base, RowGoes, site_of}
use Rattle.value_follows.proofs.Open.{nothing_known}
use Rattle.value_follows.proofs.Putting.{word_same}
use Rattle.value_follows.proofs.RootedSlots.{in_range, same_block}
use Rattle.value_follows.proofs.RootedValues.{word_has}
use Rattle.value_follows.proofs.Several.{Next as Goes, moved_to, goes_silently}
use Rattle.value_follows.proofs.Single.{nothing_changes}
use Rattle.value_follows.proofs.Standing.{instance_here}
use Rattle.rows_dropping.proofs.Spare.{set_there}
use Rattle.rows_lists.proofs.OnTheWay.{On, on_way, on_ready}
use Rattle.rows_turning.proofs.Ends.{takes_end}
use Rattle.rows_turning.proofs.Lifted.{IsUp, falls, lifts}
use Rattle.rows_turning.proofs.Regions.{region_moves}
use Rattle.rows_chaining.specs.Rows.{TakesGo}
use Rattle.rows_chaining.proofs.Chains.{none_behind, one_behind, OneBehind, last_younger, region_stays, tail_stays, tail_at}
use Rattle.rows_chaining.proofs.Regions.{single_apart, singles}
use Rattle.rows_chaining.proofs.Over.{over_frame, over_of, over_agrees, over_rank, over_row, over_reaches}
use Rattle.rows_chaining.proofs.Taking.{FirstHere, first_here, shape_long, Turning, turning_later, turning_way, q_at, spare4, hold_on}
use Rattle.rows_chaining.proofs.Arriving.{arrives}
use Rattle.rows_chaining.proofs.Coming.{copies, stored4, moves}

-- ---- the word that refers to nothing

nil_refers : (defs : List Def) (k : Facts) (words : List Word) (at : ℕ) (t : Ty) (v : Value) → v ≡ Ref None → memory.Stands defs k words at t v
    → word_at words (pos at) ≡ Found (Refer None)
nil_refers defs k words _ _ _ e (a_number at j z f i) = absurd cc
nil_refers defs k words _ _ _ e (a_text at r s f i) = absurd cc
nil_refers defs k words _ _ _ e (a_name at t None n i f h) = f
nil_refers defs k words _ _ _ e (a_name at t (Some b) None i f h) = absurd h
nil_refers defs k words _ _ _ e (a_name at t (Some b) (Some n) i f h) = absurd cc
nil_refers defs k words _ _ _ e (an_array at t r p f i) = absurd cc
nil_refers defs k words _ _ _ e (no_words at) = absurd cc
nil_refers defs k words _ _ _ e (a_tuple at ts rs vs l all) = absurd cc
nil_refers defs k words _ _ _ e (an_adt at n d rs vs f l all) = absurd cc

last_some : (o : Option ℕ) (b : ℕ) → (l : ℕ) × (last_of o b ≡ Some l)
last_some None b = (b, refl)
last_some (Some l) b = (l, refl)

module _ (m : typed.Module) (b : Base m) (loop from words passes i : ℕ) (p : code.Process) (n : ℕ) (f : typed.Function)
    (here : slice_get p.frame.code p.frame.pc ≡ Some (Take loop from words passes)) (g : core.Region) (rest : Regions)
    (some : chain_of (core.slot p.frame.slots loop) ≡ MoreRegions g rest) where
  abbrev it : Instr
  it = Take loop from words passes

  abbrev types : List Ty
  types = types_of m f

  abbrev r_at : ℕ
  r_at = reference_place m.adts types loop

  abbrev spare_at : ℕ
  spare_at = spare_place m.adts types

  abbrev region : List ℕ
  region = range_with_len from words

  abbrev begin : ℕ
  begin = place_of m n f p.frame.pc

  abbrev Turned : (ghost : Process) (c : ℕ) (inner : List Word) (k : Facts) (x : World) → Type 0
  Turned ghost c inner k x = Turning m b loop from words passes i p n f here g rest some ghost c inner k x

  module _ (ghost : Process) (c : ℕ) (inner : List Word) (next : Option ℕ) (next_word : word_at inner (pos 0) ≡ Found (Refer next))
      (loop_word : word_at ghost.frame.words (pos r_at) ≡ Found (Refer (Some c)))
      (spare_word : word_at ghost.frame.words (pos spare_at) ≡ Found (Refer (Some c)))
      (stored : WordStored ghost.frame.words r_at (Refer next)) where
    abbrev words4 : List Word
    words4 = with_word ghost.frame.words r_at (Refer next)

    abbrev at_row : (j : ℕ) → Process
    at_row j = q_at m b loop from words passes i p n f here g rest some ghost c inner next next_word loop_word spare_word stored j

    module _ (k : Facts) (w : Shared) (x : World) (t : Turned ghost c inner k x) (back : HoldTheSame m k i x p ghost)
        (worlds : (sides m).worlds k w x) where
      idle : Has region loop → ⊥
      idle h =
          let r = in_range from words loop h in
          let e = r.1 in
          let l = (over_agrees m k i x region n f 3 (Some c) p ghost t.over it here).0 in
          omega (arith, e, l)

      abbrev First : Type 0
      First = FirstHere m b loop from words passes i p n f here g rest some k x region 3 (Some c) ghost t.over idle

      one : First
      one = first_here m b loop from words passes i p n f here g rest some k x region 3 (Some c) ghost t.over idle

      shape_so : slots_in one.shape ≡ words
      shape_so = shape_long m b loop from words passes i p n f here g rest some k x region 3 (Some c) ghost t.over idle one

      block_so : one.block ≡ c
      block_so = let z : Some one.block ≡ Some c = same_block ghost.frame.words r_at (Some one.block) c one.is.word t.word in cc

      same_inner : one.inner ≡ inner
      same_inner =
          let z : Some (Record one.inner) ≡ Some (Record inner) = sym one.is.there ∙ ap (at x.heap) block_so ∙ t.there in
          let y : Record one.inner ≡ Record inner = cc in
          cc

      abbrev own_loop : List ℕ
      own_loop = t.over.words.own loop

      owned_free : (s d : ℕ) → Has (t.over.words.own s) d → Free k d
      owned_free s d h =
          ((frames_later m.adts k x.heap ghost.frame.serial region types t.over.known p.frame.variables p.frame.slots ghost.frame.words t.over.words).owned s d h).0

      of_owned : (d : ℕ) → Has one.owned d → Has own_loop d
      of_owned d h = subst (λ os. Has os d) (sym one.own_so) (inr (has_left one.owned one.more d h))

      of_more : (d : ℕ) → Has one.more d → Has own_loop d
      of_more d h = subst (λ os. Has os d) (sym one.own_so) (inr (has_right one.owned one.more d h))

      chain_single : Single (one.block ∷ one.owned ++ one.more)
      chain_single = subst Single one.own_so (t.over.words.single loop)

      tail_here : TailStands m.adts k x.heap ghost.frame.serial inner 0 one.last one.shapes rest one.more
      tail_here = subst (λ ws. TailStands m.adts k x.heap ghost.frame.serial ws 0 one.last one.shapes rest one.more) same_inner one.tail

      inner_end : word_at inner (pos 4) ≡ Found (Refer one.last)
      inner_end = subst (λ ws. word_at ws (pos 4) ≡ Found (Refer one.last)) same_inner one.end

      same_refer : (u v : Option ℕ) → ◌≡◌ {A = Access Word} (Found (Refer u)) (Found (Refer v)) → u ≡ v
      same_refer u v e = cc

      -- ---- instructions from there

      reach : (j : ℕ) (inst : Inst) → slice_get (code_of (site_of m n f p.frame.pc
          (over_row m k i x region n f 3 (Some c) p ghost t.over it here b w back worlds).at) it) j ≡ Some inst
          → Reaches (object_of m ∷ []) x (at_row j) (object_of m) inst
      reach j inst e = over_reaches m k i x region n f 3 (Some c) p ghost t.over it here b w back worlds j inst (begin + j) words4 refl e

      row_inside : begin + 7 < length (object_of m).insts
      row_inside = within_length (object_of m).insts (begin + 7) _ ((over_row m k i x region n f 3 (Some c) p ghost t.over it here b w back worlds).insts 7 _ refl)

      nil_read : (j : ℕ) → middle_reference x (at_row j) nil_middle ≡ Found None
      nil_read j =
          let there = instance_here m b k i w x p ghost region (over_frame m k i x region n f 3 (Some c) p ghost t.over) back worlds.0 in
          operands_are_read.module_reference x (at_row j) 0 there.0 4 there.1
          ∙ ap (λ (a : Access Word). a >>= reference)
          (nil_refers m.adts k there.0 4 ty.Nil (Ref None) refl (there.2 (placed m 4 ty.Nil (Ref None)) (inr (inl refl))).stands)

      loop_read : (j : ℕ) → source_reference x (at_row j) (own r_at) ≡ Found next
      loop_read j =
          operands_are_read.source_referring x (at_row j) (own r_at) words4 r_at (spots_lead.own x (at_row j) r_at).0
          ∙ ap (λ (a : Access Word). a >>= reference) stored.there

      end_read : (j : ℕ) → source_reference x (at_row j) (behind spare_at 4) ≡ Found one.last
      end_read j =
          operands_are_read.source_referring x (at_row j) (behind spare_at 4) inner 4
          (spots_lead.inner x (at_row j) spare_at c inner 4
          (spare4 m b loop from words passes i p n f here g rest some ghost c inner next next_word loop_word spare_word stored) t.there).0
          ∙ ap (λ (a : Access Word). a >>= reference) inner_end

      abbrev to_end : Inst
      to_end = inst op.Beqw (own r_at) nil_middle (operand.Imm (pos (begin + 7)))

      abbrev to_last : Inst
      to_last = inst op.Beqw (behind spare_at 4) (of_own r_at) (operand.Imm (pos (begin + 7)))

      nil_branch : (holds : Bool) → same_reference next None ≡ holds
          → (sides m).code.step x (at_row 4) ≡ where_holds x (at_row 4) holds (begin + 7)
      nil_branch holds e =
          steps_obey.does frames_limit (object_of m ∷ []) x (at_row 4) (object_of m) to_end (where_holds x (at_row 4) holds (begin + 7))
          (reach 4 to_end refl)
          (numbers_work.references frames_limit (object_of m) x (at_row 4) to_end comparison.Equal next None holds (begin + 7) refl (loop_read 4) (nil_read 4)
          (ap Found e) refl row_inside)

      last_branch : (holds : Bool) → same_reference one.last next ≡ holds
          → (sides m).code.step x (at_row 5) ≡ where_holds x (at_row 5) holds (begin + 7)
      last_branch holds e =
          steps_obey.does frames_limit (object_of m ∷ []) x (at_row 5) (object_of m) to_last (where_holds x (at_row 5) holds (begin + 7))
          (reach 5 to_last refl)
          (numbers_work.references frames_limit (object_of m) x (at_row 5) to_last comparison.Equal one.last next holds (begin + 7) refl (end_read 5)
          (operands_are_read.own_reference x (at_row 5) r_at ∙ ap (λ (a : Access Word). a >>= reference) stored.there) (ap Found e) refl row_inside)

      -- the next instruction comes
      goes_down : (l j : ℕ) → (sides m).code.step x (at_row j) ≡ Went x (moved_to ghost (suc (begin + j)) words4) → place m (at_row j) ≡ 2 + j
          → place m (at_row (suc j)) ≡ 3 + j
          → Way (sides m) (place m) l k i x p (at_row (suc j)) → Goes m b i p l k w x (at_row j)
      goes_down l j step low high way =
          let past : suc (begin + j) ≡ begin + suc j = omega arith in
          goes_silently m b i p l k w x (at_row j) (at_row (suc j)) (step ∙ ap (λ (pc : ℕ). Went x (moved_to ghost pc words4)) past) worlds
          (omega (arith, low, high)) way

      rank4 : place m (at_row 4) ≡ 6
      rank4 = over_rank m k i x region n f 3 (Some c) p ghost t.over it here 4 (omega arith) (at_row 4) refl

      rank5 : place m (at_row 5) ≡ 7
      rank5 = over_rank m k i x region n f 3 (Some c) p ghost t.over it here 5 (omega arith) (at_row 5) refl

      rank6 : place m (at_row 6) ≡ 8
      rank6 = over_rank m k i x region n f 3 (Some c) p ghost t.over it here 6 (omega arith) (at_row 6) refl

      -- ---- the row is behind them, and no block has changed

      arrives_as_is : (q : Process) → (chain : ChainStands m.adts k x.heap ghost.frame.serial words4 r_at one.shapes rest one.more)
          → ((l : ℕ) → one.last ≡ Some l → next ≡ Some l)
          → HoldTheSame m k i x p q → (sides m).code.step x q ≡ Went x (at_row 7) → Goes m b i p 1 k w x q
      arrives_as_is q chain last hold step =
          arrives m b loop from words passes i p n f here g rest some ghost c inner next next_word stored k w x t idle one same_inner shape_so x (omega arith)
          (λ d free made other. (free, refl))
          (λ s d ne h. (owned_free s d h, refl))
          (λ d h. (owned_free loop d (of_owned d h), refl))
          t.there chain (λ l e. inl (last l e)) back worlds worlds q step (nothing_changes m k i x)
          (b.there_again x x q (at_row 7) step worlds.0.closed (λ n h. hold.same.live n (hold.same.roots n h)))

      -- nothing is behind the first
      only : rest ≡ NoRegion → (q : Process) → HoldTheSame m k i x p q → (sides m).code.step x q ≡ Went x (at_row 7) → Goes m b i p 1 k w x q
      only e q hold step =
          let z = none_behind m.adts k x.heap ghost.frame.serial inner 0 one.last one.shapes rest one.more tail_here e in
          let is : next ≡ None = same_refer next None (sym next_word ∙ z.word) in
          arrives_as_is q
          (subst (λ os. ChainStands m.adts k x.heap ghost.frame.serial words4 r_at one.shapes rest os) (sym z.bare)
          (subst (λ rs. ChainStands m.adts k x.heap ghost.frame.serial words4 r_at one.shapes rs []) (sym e)
          (subst (λ hs. ChainStands m.adts k x.heap ghost.frame.serial words4 r_at hs NoRegion []) (sym z.known)
          (no_chain words4 r_at (stored.there ∙ ap (λ (o : Option ℕ). Found (Refer o)) is)))))
          (λ l u. let v = z.none in let y : None ≡ Some l = sym v ∙ u in absurd cc) hold step

      next_none : rest ≡ NoRegion → next ≡ None
      next_none e =
          let z = none_behind m.adts k x.heap ghost.frame.serial inner 0 one.last one.shapes rest one.more tail_here e in
          same_refer next None (sym next_word ∙ z.word)

      -- ---- one is

      module _ (g2 : core.Region) (rest2 : Regions) (e : rest ≡ MoreRegions g2 rest2) where
        abbrev Second : Type 0
        Second = OneBehind m.adts k x.heap ghost.frame.serial inner 0 one.last one.shapes g2 rest2 one.more

        two : Second
        two = one_behind m.adts k x.heap ghost.frame.serial inner 0 one.last one.shapes rest one.more tail_here g2 rest2 e

        next_some : next ≡ Some two.block
        next_some = same_refer next (Some two.block) (sym next_word ∙ two.is.word)

        loop_then : word_at words4 (pos r_at) ≡ Found (Refer (Some two.block))
        loop_then = stored.there ∙ ap (λ (o : Option ℕ). Found (Refer o)) next_some

        pub falls_to_last : (l : ℕ) → Way (sides m) (place m) l k i x p (at_row 5) → Goes m b i p l k w x (at_row 4)
        falls_to_last l way =
            goes_down l 4
            (nil_branch false (ap (λ o. same_reference o None) next_some
            ∙ numbers_work.different (Some two.block) None (λ z. absurd cc))) rank4 rank5 way

        -- it is the last
        pub other : rest2 ≡ NoRegion → HoldTheSame m k i x p (at_row 5) → Goes m b i p 1 k w x (at_row 5)
        other u hold =
            let z = none_behind m.adts k x.heap ghost.frame.serial two.inner 0 two.behind two.shapes rest2 two.more two.tail u in
            let end : one.last ≡ Some two.block = two.last_so ∙ ap (λ o. last_of o two.block) z.none in
            let same : one.last ≡ next = end ∙ sym next_some in
            arrives_as_is (at_row 5)
            (subst (λ os. ChainStands m.adts k x.heap ghost.frame.serial words4 r_at one.shapes rest os) (sym two.own_so)
            (subst (λ rs. ChainStands m.adts k x.heap ghost.frame.serial words4 r_at one.shapes rs (two.block ∷ two.owned ++ two.more)) (sym e)
            (subst (λ hs. ChainStands m.adts k x.heap ghost.frame.serial words4 r_at hs (MoreRegions g2 rest2) (two.block ∷ two.owned ++ two.more)) (sym two.known)
            (a_chain words4 two.inner r_at two.block None two.shape two.shapes g2 rest2 two.owned two.more
            (record { word = loop_then; there = two.is.there; free = two.is.free; formed = two.is.formed; kind = two.is.kind })
            two.end two.region
            (subst (λ o. TailStands m.adts k x.heap ghost.frame.serial two.inner 0 o two.shapes rest2 two.more) z.none two.tail)))))
            (λ l v. sym same ∙ v) hold
            (last_branch true (ap (λ o. same_reference one.last o) (sym same) ∙ numbers_work.same one.last))

        -- more are
        module _ (g3 : core.Region) (rest3 : Regions) (u : rest2 ≡ MoreRegions g3 rest3) where
          abbrev Third : Type 0
          Third = OneBehind m.adts k x.heap ghost.frame.serial two.inner 0 two.behind two.shapes g3 rest3 two.more

          three : Third
          three = one_behind m.adts k x.heap ghost.frame.serial two.inner 0 two.behind two.shapes rest2 two.more two.tail g3 rest3 u

          abbrev last_block : ℕ
          last_block = (last_some three.behind three.block).0

          behind_so : two.behind ≡ Some last_block
          behind_so = three.last_so ∙ (last_some three.behind three.block).1

          last_so : one.last ≡ Some last_block
          last_so = two.last_so ∙ ap (λ o. last_of o two.block) behind_so

          younger : (a d : ℕ) (ws : List Word) → Free k a → Free k d → at x.heap a ≡ Some (Record ws) → Has ws (Refer (Some d)) → a < d
          younger a d ws fa fd there h = worlds.0.frees a d (Record ws) fa fd there (has_counts ws d h)

          last_more : two.block < last_block
          last_more =
              last_younger m.adts k x.heap ghost.frame.serial younger (λ ws p d e. word_has ws p (Refer (Some d)) e) two.inner 0 two.behind two.shapes rest2
              two.more two.tail two.block two.is.free two.is.there last_block behind_so

          pub falls_to_link : (l : ℕ) → Way (sides m) (place m) l k i x p (at_row 6) → Goes m b i p l k w x (at_row 5)
          falls_to_link l way =
              let more = last_more in
              let ne : one.last ≢ next = λ z.
              let y : Some last_block ≡ Some two.block = sym last_so ∙ z ∙ next_some in
              let v : last_block ≡ two.block = cc in
              omega (arith, more, v) in
              goes_down l 5 (last_branch false (numbers_work.different one.last next ne)) rank5 rank6 way

          -- ---- the new first record refers to the last

          abbrev link : Inst
          link = inst op.Movp (behind spare_at 4) middle.None (behind r_at 4)

          abbrev linked : List Word
          linked = with_word two.inner 4 (Refer (Some last_block))

          abbrev lead : Leads x (at_row 6) (behind r_at 4) two.inner 4
          lead = (spots_lead.inner x (at_row 6) r_at two.block two.inner 4 loop_then two.is.there).0

          stores : StoresWord (obey frames_limit (object_of m) x (at_row 6) link op.Movp) x (at_row 6) lead.place two.inner 4 (Refer (Some last_block))
          stores =
              words_move.reference frames_limit (object_of m) x (at_row 6) link (Some last_block) two.inner 4 lead None refl
              (end_read 6 ∙ ap Found last_so) two.end

          abbrev y : World
          y = with_changed x two.block (Record linked)

          goes_linked : (sides m).code.step x (at_row 6) ≡ Went y (at_row 7)
          goes_linked =
              let past : suc (begin + 6) ≡ begin + 7 = omega arith in
              steps_obey.stores frames_limit (object_of m ∷ []) x (at_row 6) (object_of m) link x lead.place linked _ (reach 6 link refl) stores.1
              ((spots_lead.inner x (at_row 6) r_at two.block two.inner 4 loop_then two.is.there).1 linked)
              ∙ ap (λ (pc : ℕ). Went y (moved_to ghost pc words4)) past

          set_so : Sets x.heap y.heap two.block (Some (Record linked))
          set_so = set_there x.heap two.block (Record linked) (Record two.inner) two.is.there

          unknown : k.fact two.block ≡ None
          unknown = nothing_known (k.fact two.block) two.is.free (λ z. worlds.0.bares two.block (Record two.inner) z two.is.there)

          -- what it refers to then
          refers_then : (d : ℕ) → 0 < inside (Record linked) d → (d ≡ last_block) ⊎ (0 < in_words d two.inner)
          refers_then d h =
              let v = named_where linked d h in
              elim (low_or_high v.0 1) [
                | inl low ↦ inr (named_by two.inner v.0 d (sym (stores.0.changes.words v.0 (inl (omega (arith, low)))) ∙ v.1))
                | inr high ↦ elim (low_or_high 1 v.0) [
                  | inl past ↦ inr (named_by two.inner v.0 d (sym (stores.0.changes.words v.0 (inr (omega (arith, past)))) ∙ v.1))
                  | inr less ↦
                      let at : v.0 ≡ 1 = omega (arith, high, less) in
                      let z : Some (Refer (Some d)) ≡ Some (Refer (Some last_block)) =
                      sym v.1 ∙ ap (slice_get linked) at ∙ (word_found linked 4 (Refer (Some last_block)) stores.0.there).1 in
                      inl cc
                ]
              ]

          used_there : (a d : ℕ) (ws : List Word) → at x.heap a ≡ Some (Record ws) → 0 < in_words d ws → there (at x.heap d) ≡ true
          used_there a d ws e h =
              worlds.0.closed.closed a d (there_of (at x.heap a) (Record ws) e) (subst (λ o. 0 < in_one inside o d) (sym e) h)

          last_there : there (at x.heap last_block) ≡ true
          last_there =
              used_there c last_block inner t.there
              (named_by inner 1 last_block ((word_found inner 4 (Refer one.last) inner_end).1 ∙ ap (λ (o : Option ℕ). Some (Refer o)) last_so))

          live_then : (d : ℕ) → 0 < inside (Record linked) d → there (at x.heap d) ≡ true
          live_then d h = elim (refers_then d h) [
            | inl z ↦ subst (λ v. there (at x.heap v) ≡ true) (sym z) last_there
            | inr z ↦ used_there two.block d two.inner two.is.there z
          ]

          order_then : (d : ℕ) → Free k d → 0 < inside (Record linked) d → two.block < d
          order_then d free h = elim (refers_then d h) [
            | inl z ↦ subst (λ v. two.block < v) (sym z) last_more
            | inr z ↦ worlds.0.frees two.block d (Record two.inner) two.is.free free two.is.there z
          ]

          worlds_then : (sides m).worlds k w y
          worlds_then = (
            set_free (contents m) k w.heap x.heap y.heap two.block (Record linked) worlds.0 unknown
                (let e = length-set x.heap two.block (Some (Record linked)) in omega (arith, e))
                (let e = length-set x.heap two.block (Some (Record linked)) in
                let l = within x.heap two.block (there_of (at x.heap two.block) (Record two.inner) two.is.there) in omega (arith, e, l))
                set_so live_then order_then,
            worlds.1,
          )

          made_two : k.maker two.block ≡ Some i
          made_two =
              t.over.mine loop two.block (of_more two.block (subst (λ os. Has os two.block) (sym two.own_so) (inl refl)))

          changes_then : (sides m).changes (Only i) k k x y
          changes_then = (
            record {
              grows = grows_same k;
              there = λ d v e. there_is (at y.heap d) (there_on x.heap y.heap two.block (Record linked) set_so d (there_of (at x.heap d) v e));
              free = λ d j f e ne. (refl, set_so.apart d (λ z. ne (let v : Some i ≡ Some j = sym made_two ∙ (ap k.maker (sym z) ∙ e) in cc)));
              carriers = λ d v e. set_so.apart d (λ z. let o : None ≡ Some (Carrier v) = sym unknown ∙ (ap k.fact (sym z) ∙ e) in absurd cc);
            },
            omega arith,
          )

          more_single : Single (two.block ∷ two.owned ++ two.more)
          more_single = subst Single two.own_so (singles one.owned one.more chain_single.1).1

          in_more : Has one.more two.block
          in_more = subst (λ os. Has os two.block) (sym two.own_so) (inl refl)

          kept_apart : (d : ℕ) → Free k d → d ≢ two.block → IsKept k x.heap y.heap d
          kept_apart d free ne = (free, set_so.apart d ne)

          first_apart : c ≢ two.block
          first_apart z =
              chain_single.0 (has_right one.owned one.more one.block (subst (Has one.more) (sym (block_so ∙ z)) in_more))

          grows : Grows k k
          grows = record { facts = λ n f e. e; makers = λ n j e. e; forms = λ n o e. e }

          kept_second : (d : ℕ) → Has (two.owned ++ two.more) d → IsKept k x.heap y.heap d
          kept_second d h =
              kept_apart d
              (owned_free loop d (of_more d (subst (λ os. Has os d) (sym two.own_so) (inr h))))
              (λ z. more_single.0 (subst (Has (two.owned ++ two.more)) z h))

          kind_then : AreOf (turn_bytes (slots_in two.shape)) (turn_references (slots_in two.shape)) linked
          kind_then =
              kinds_stay.all (turn_bytes (slots_in two.shape)) (turn_references (slots_in two.shape)) two.inner linked two.is.kind stores.0.changes.many
              stores.0.changes.refer stores.0.changes.referred (stores.0.ranged (λ z e. absurd cc) two.is.kind.ranged)

          region_then : RegionStands m.adts k y.heap ghost.frame.serial linked 8 two.shape g2 two.owned
          region_then =
              region_moves m.adts k two.inner linked y.heap ghost.frame.serial 8 8 two.shape g2 two.owned
              (λ v l.
              record {
                whole = omega arith;
                whole_too = omega arith;
                same = stores.0.changes.words ((8 + 4 * v) / 4) (inr (omega arith));
              })
              (region_stays m.adts k k x.heap y.heap ghost.frame.serial grows two.inner 8 two.shape g2 two.owned two.region
              (λ d h. kept_second d (has_left two.owned two.more d h)))

          tail_then : TailStands m.adts k y.heap ghost.frame.serial linked 0 (Some last_block) two.shapes rest2 two.more
          tail_then =
              subst (λ o. TailStands m.adts k y.heap ghost.frame.serial linked 0 o two.shapes rest2 two.more) behind_so
              (tail_at m.adts k y.heap ghost.frame.serial two.inner linked 0 0 two.behind two.shapes rest2 two.more
              (word_same two.inner linked 0 (stores.0.changes.words 0 (inl (omega arith))))
              (tail_stays m.adts k k x.heap y.heap ghost.frame.serial grows two.inner 0 two.behind two.shapes rest2 two.more two.tail
              (λ d h. kept_second d (has_right two.owned two.more d h))))

          chain_then : ChainStands m.adts k y.heap ghost.frame.serial words4 r_at one.shapes rest one.more
          chain_then =
              subst (λ os. ChainStands m.adts k y.heap ghost.frame.serial words4 r_at one.shapes rest os) (sym two.own_so)
              (subst (λ rs. ChainStands m.adts k y.heap ghost.frame.serial words4 r_at one.shapes rs (two.block ∷ two.owned ++ two.more)) (sym e)
              (subst (λ hs. ChainStands m.adts k y.heap ghost.frame.serial words4 r_at hs (MoreRegions g2 rest2) (two.block ∷ two.owned ++ two.more))
              (sym two.known)
              (a_chain words4 linked r_at two.block (Some last_block) two.shape two.shapes g2 rest2 two.owned two.more
              (record { word = loop_then; there = set_so.here; free = two.is.free; formed = two.is.formed; kind = kind_then })
              stores.0.there region_then tail_then)))

          pub links : HoldTheSame m k i x p (at_row 6) → Goes m b i p 1 k w x (at_row 6)
          links hold =
              arrives m b loop from words passes i p n f here g rest some ghost c inner next next_word stored k w x t idle one same_inner shape_so y
              (omega arith)
              (λ d free made other. kept_apart d free (λ z. other (ap k.form z ∙ two.is.formed)))
              (λ s d ne h. kept_apart d (owned_free s d h)
              (λ z. ne (sym (t.over.words.apart loop s d (subst (Has own_loop) (sym z) (of_more two.block in_more)) h))))
              (λ d h. kept_apart d (owned_free loop d (of_owned d h))
              (λ z. single_apart one.owned one.more d chain_single.1 h (subst (Has one.more) (sym z) in_more)))
              (set_so.apart c first_apart ∙ t.there) chain_then
              (λ l v.
              let z : Some l ≡ Some last_block = sym v ∙ last_so in
              let same : l ≡ last_block = cc in
              inr (
                two.block,
                linked,
                next_some,
                two.is.free,
                set_so.here,
                subst (λ d. Has linked (Refer (Some d))) (sym same) (word_has linked 4 (Refer (Some last_block)) stores.0.there),
              ))
              back worlds worlds_then (at_row 6) goes_linked changes_then
              (b.there_again x y (at_row 6) (at_row 7) goes_linked worlds.0.closed (λ n h. hold.same.live n (hold.same.roots n h)))

    -- ---- the ways from there

    abbrev WayAt : (l j : ℕ) → Type 0
    WayAt l j = (k : Facts) (x : World) → Turned ghost c inner k x → HoldTheSame m k i x p (at_row j) → Way (sides m) (place m) l k i x p (at_row j)

    on_from : (l j : ℕ) → ((now : Facts) (w : Shared) (y : World) → Turned ghost c inner now y → HoldTheSame m now i y p ghost → HoldTheSame m now i y p (at_row j)
        → (sides m).worlds now w y → Goes m b i p l now w y (at_row j))
        → WayAt (suc l) j
    on_from l j does k x t hold =
        turning_way m b loop from words passes i p n f here g rest some ghost c inner next next_word loop_word spare_word stored l j k x t hold does

    -- with nothing behind
    pub way_none : rest ≡ NoRegion → WayAt 2 4
    way_none e =
        on_from 1 4 (λ k w x t back hold worlds.
        only k w x t back worlds e (at_row 4) hold
        (nil_branch k w x t back worlds true (ap (λ o. same_reference o None) (next_none k w x t back worlds e))))

    hold_at : (j : ℕ) (k : Facts) (x : World) → Turned ghost c inner k x → HoldTheSame m k i x p ghost → HoldTheSame m k i x p (at_row j)
    hold_at j k x t back =
        hold_on m b loop from words passes i p n f here g rest some ghost c inner next next_word loop_word spare_word stored k x j t.free t.there back

    -- with one
    pub way_one : (g2 : core.Region) → rest ≡ MoreRegions g2 NoRegion → WayAt 3 4
    way_one g2 e =
        on_from 2 4 (λ k w x t back hold worlds.
        falls_to_last k w x t back worlds g2 NoRegion e 2
        (on_from 1 5 (λ k w x t back hold worlds. other k w x t back worlds g2 NoRegion e refl hold) k x t (hold_at 5 k x t back)))

    -- with more
    pub way_more : (g2 g3 : core.Region) (rest3 : Regions) → rest ≡ MoreRegions g2 (MoreRegions g3 rest3) → WayAt 4 4
    way_more g2 g3 rest3 e =
        on_from 3 4 (λ k w x t back hold worlds.
        falls_to_last k w x t back worlds g2 (MoreRegions g3 rest3) e 3
        (on_from 2 5 (λ k w x t back hold worlds.
        falls_to_link k w x t back worlds g2 (MoreRegions g3 rest3) e g3 rest3 refl 2
        (on_from 1 6 (λ k w x t back hold worlds. links k w x t back worlds g2 (MoreRegions g3 rest3) e g3 rest3 refl hold) k x t (hold_at 6 k x t back)))
        k x t (hold_at 5 k x t back)))

  -- ---- the whole row

  abbrev Ways : ℕ → Type 0
  Ways l =
      (ghost : Process) (c : ℕ) (inner : List Word) (next : Option ℕ) (next_word : word_at inner (pos 0) ≡ Found (Refer next))
      (loop_word : word_at ghost.frame.words (pos r_at) ≡ Found (Refer (Some c)))
      (spare_word : word_at ghost.frame.words (pos spare_at) ≡ Found (Refer (Some c)))
      (stored : WordStored ghost.frame.words r_at (Refer next)) → WayAt ghost c inner next next_word loop_word spare_word stored l 4

  tail_word : (defs : List Def) (k : Facts) (x : Heap Block) (frame : ℕ) (words : List Word) (p : ℕ) (last : Option ℕ) (hs : held.Regions) (rs : Regions)
      (own : List ℕ) → TailStands defs k x frame words p last hs rs own → (r : Option ℕ) × (word_at words (pos p) ≡ Found (Refer r))
  tail_word defs k x frame _ _ _ _ _ _ (no_more words p e) = (None, e)
  tail_word defs k x frame _ _ _ _ _ _ (one_more words inner p b last h hs g gs own more is e r t) = (Some b, is.word)

  from_two : (l : ℕ) → Ways l → (k : Facts) (w : Shared) (x : World) (q : Process) (c : ℕ) → IsUp m k i x n f 2 (Some c) p q → HoldTheSame m k i x p q
      → (sides m).worlds k w x → word_at q.frame.words (pos r_at) ≡ Found (Refer (Some c)) → Goes m b i p (suc l) k w x q
  from_two l ways k w x q c up hold worlds word =
      let over = over_of m i p q k x [] n f 2 (Some c) up.stands up.number up.function up.pc up.spare up.none_made in
      let one = first_here m b loop from words passes i p n f here g rest some k x [] 2 (Some c) q over (λ e. e) in
      let long = shape_long m b loop from words passes i p n f here g rest some k x [] 2 (Some c) q over (λ e. e) one in
      let next = tail_word m.adts k x.heap q.frame.serial one.inner 0 one.last one.shapes rest one.more one.tail in
      copies m b loop from words passes i p n f here g rest some k w x q c over word hold worlds one long (suc l) (λ ghost t held. (
        held,
        λ now y v left h worlds'.
            let u = turning_later m b loop from words passes i p n f here g rest some ghost c one.inner k now x y left h t in
            moves m b loop from words passes i p n f here g rest some ghost c one.inner next.0 next.1 now v y u h worlds' l
            (ways ghost c one.inner next.0 next.1 u.word u.over.spare
            (stored4 m b loop from words passes i p n f here g rest some ghost c one.inner next.0 next.1 now v y u h worlds') now y u),
      ))

  pub all_goes : (l : ℕ) → Ways l → (k : Facts) (x : World) (q : Process) → On m k i x [] n f 0 p q → HoldTheSame m k i x p q → RowGoes m k i x p q
  all_goes l ways k x q on hold = (
    suc (suc (suc l)),
    on_way m b i p q [] n f 0 (suc (suc (suc l))) k x on hold (λ now w y grows on' hold' worlds.
        falls m b loop from words passes i p n f here g rest some now w y q hold' worlds (suc (suc l)) on' (λ k2 w2 x2 q2 on2 hold2 worlds2.
        lifts m b loop from words passes i p n f here g rest some k2 w2 x2 q2 hold2 worlds2 (suc l) on2 (λ k3 w3 x3 q3 c up hold3 worlds3 word.
        from_two l ways k3 w3 x3 q3 c up hold3 worlds3 word))),
  )

pub takes_go : TakesGo
takes_go m b loop from words passes k i x p q ready here = go (chain_of (core.slot p.frame.slots loop)) refl
  where
    go : (rs : Regions) → chain_of (core.slot p.frame.slots loop) ≡ rs → RowGoes m k i x p q
    go NoRegion e = takes_end m b loop from words passes k i x p q ready here e
    go (MoreRegions g NoRegion) e =
        let n = ready.0.stands.is.number in
        let f = ready.0.stands.is.function in
        all_goes m b loop from words passes i p n f here g NoRegion e 2
        (λ ghost c inner next a u v s. way_none m b loop from words passes i p n f here g NoRegion e ghost c inner next a u v s refl)
        k x q (on_ready m i p q k x ready.0) ready.1
    go (MoreRegions g (MoreRegions g2 NoRegion)) e =
        let n = ready.0.stands.is.number in
        let f = ready.0.stands.is.function in
        all_goes m b loop from words passes i p n f here g (MoreRegions g2 NoRegion) e 3
        (λ ghost c inner next a u v s. way_one m b loop from words passes i p n f here g (MoreRegions g2 NoRegion) e ghost c inner next a u v s g2 refl)
        k x q (on_ready m i p q k x ready.0) ready.1
    go (MoreRegions g (MoreRegions g2 (MoreRegions g3 rest3))) e =
        let n = ready.0.stands.is.number in
        let f = ready.0.stands.is.function in
        all_goes m b loop from words passes i p n f here g (MoreRegions g2 (MoreRegions g3 rest3)) e 4
        (λ ghost c inner next a u v s.
        way_more m b loop from words passes i p n f here g (MoreRegions g2 (MoreRegions g3 rest3)) e ghost c inner next a u v s g2 g3 rest3 refl)
        k x q (on_ready m i p q k x ready.0) ready.1
