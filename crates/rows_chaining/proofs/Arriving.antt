-- The region is where it was and the loop has the rest of the chain: the other process steps.
use Rattle.std.proofs.Common.{◌≡◌, ◌≢◌, ◌⊎◌, ℕ, suc, pos, ◌+◌, ◌-◌, ◌*◌, ◌/◌, ◌<◌, ◌≤◌, List, [], ◌++◌, length, Option, Some, refl, sym, ap, ◌∙◌, subst, arith, inl, inr}
use Rattle.std.specs.Prelude.{slice_get, slice_index_or}
use Rattle.std.specs.List.{range_with_len}
use Rattle.process_model.specs.Process.{Went}
use Rattle.process_model.specs.Follows.{Only}
use Rattle.process_ways.specs.Ways.{Way}
use Rattle.process_ways.proofs.On.{stepped}
use Rattle.heap_model.specs.Heap.{at}
use Rattle.heap_model.specs.Facts.{Free}
use Rattle.heap_model.proofs.Alike.{is_inner}
use Rattle.limbo_layout.specs.Adts.{Has}
use Rattle.limbo_layout.proofs.Rooms.{has_left, has_right}
use Rattle.limbo_types.specs.Types.{Ty}
use Rattle.limbo_typed.specs.Typed as typed
use Rattle.limbo_meaning.specs.Process.{Shared}
use Rattle.system_model.specs.Limits.{frames_limit}
use Rattle.core_code.specs.Code.{Instr, Take}
use Rattle.core_code.specs.Machine as code
use Rattle.core_code.specs.Slots as core
use Rattle.core_code.specs.Slots.{Slot, Turns, Regions, MoreRegions, chain_of, next_of}
use Rattle.core_typing.specs.Held as held
use Rattle.core_typing.specs.Held.{Held, slots_in, EachHas}
use Rattle.core_typing.specs.Going.{stand, taken}
use Rattle.dis_isa.specs.declared.inst.Middle.TheVariants as middle
use Rattle.dis_isa.specs.declared.op.Op.TheVariants as op
use Rattle.dis_meaning.specs.Words.{Word, Refer, Access, Found, word_at}
use Rattle.dis_meaning.specs.Process.{Process}
use Rattle.dis_memory.specs.Blocks.{Record, World}
use Rattle.value_words.specs.Forms.{OwnedBy}
use Rattle.value_words.specs.Facts.{Facts, Grows}
use Rattle.value_words.proofs.Bytes.{word_found, word_there}
use Rattle.value_words.proofs.Rows.{below as below_length}
use Rattle.value_roots.specs.Accounts.{Accounted, to_inner}
use Rattle.value_frames.specs.Frames.{answer_place, spare_place, number_place, reference_place, slots_place, frame_bytes, frame_references, turn_bytes, turn_references}
use Rattle.value_frames.specs.Types.{AreOf}
use Rattle.value_frames.specs.Slots.{ElseAsWas, IsKept, StaysSo}
use Rattle.value_frames.specs.Standing.{Single, SlotStands, ChainStands, RegionStands, a_loop, WordsAre}
use Rattle.value_frames.proofs.Slots.{slots_change}
use Rattle.value_frames.proofs.Replacing.{kinds_stay}
use Rattle.value_heaps.specs.Blocks.{IsWithin}
use Rattle.value_moves.specs.Operands.{inst, own}
use Rattle.value_moves.proofs.Changing.{low_or_high}
use Rattle.value_code.specs.Data.{nil_word}
use Rattle.value_code.specs.Objects.{of_function, size_at}
use Rattle.number_effects.specs.Giving.{with_word, WordStored}
use Rattle.value_follows.specs.Stands.{types_of, place_of, GoesOn, Awaited, Stands}
use Rattle.value_follows.specs.Sides.{sides, HoldTheSame, program}
use Rattle.value_follows.specs.Rows.{place, Base, AreThere}
use Rattle.value_follows.proofs.Putting.{word_same}
use Rattle.value_follows.proofs.RootedSlots.{in_range}
use Rattle.value_follows.proofs.RootedValues.{each_accounted}
use Rattle.value_follows.proofs.Several.{Next as Goes, moved_to}
use Rattle.value_follows.proofs.Standing.{all_wait, goes_behind}
use Rattle.value_follows.proofs.Waiting.{all_wait_later}
use Rattle.rows_dropping.proofs.Tidying.{Tidies, tidies_way, tidies_hold}
use Rattle.rows_turning.proofs.Marks.{second_refers}
use Rattle.rows_turning.proofs.Returned.{region_returns}
use Rattle.rows_chaining.proofs.Chains.{FirstOf, region_stays}
use Rattle.rows_chaining.proofs.Regions.{set_here, set_apart, set_long, placed_long, placed_out, placed_in, held_long, held_out, held_in, held_at, slot_at, EachOwn, each_own, long, single_apart, singles}
use Rattle.rows_chaining.proofs.Over.{over_code, over_used, over_found, over_agrees, over_rank, over_row, loop_so}
use Rattle.rows_chaining.proofs.Accounts.{slot_word_accounted, within_accounted, one_accounted}
use Rattle.rows_chaining.proofs.Taking.{Turning}

-- A slot is the loop's, or one of the region, or another.
pub data IsWhere (loop from words s : ℕ) : Type 0 where
  at_loop : s ≡ loop → IsWhere loop from words s
  within : (d : ℕ) → d < words → s ≡ from + d → IsWhere loop from words s
  elsewhere : (s ≡ loop → ⊥) → (s < from) ⊎ (from + words ≤ s) → IsWhere loop from words s

pub is_where : (loop from words s : ℕ) → IsWhere loop from words s
is_where loop from words s = elim (low_or_high s from) [
  | inl low ↦ elim (low_or_high s loop) [
    | inl less ↦ elsewhere (λ e. omega (arith, e, less)) (inl low)
    | inr more ↦ elim (low_or_high loop s) [
      | inl past ↦ elsewhere (λ e. omega (arith, e, past)) (inl low)
      | inr least ↦ at_loop (omega (arith, more, least))
    ]
  ]
  | inr high ↦ elim (low_or_high s (from + words)) [
    | inl inside ↦ within (s - from) (omega (arith, inside, high)) (omega (arith, high))
    | inr past ↦ elim (low_or_high s loop) [
      | inl less ↦ elsewhere (λ e. omega (arith, e, less)) (inr past)
      | inr more ↦ elim (low_or_high loop s) [
        | inl other ↦ elsewhere (λ e. omega (arith, e, other)) (inr past)
        | inr least ↦ at_loop (omega (arith, more, least))
      ]
    ]
  ]
]

-- which blocks it has then
abbrev pub own_by : (loop from words s : ℕ) → (of_loop : List ℕ) → (of_region before : ℕ → List ℕ) → IsWhere loop from words s → List ℕ
own_by loop from words s of_loop of_region before (at_loop e) = of_loop
own_by loop from words s of_loop of_region before (within d l e) = of_region d
own_by loop from words s of_loop of_region before (elsewhere ne out) = before s

module _ (m : typed.Module) (b : Base m) (loop from words passes i : ℕ) (p : code.Process) (n : ℕ) (f : typed.Function)
    (here : slice_get p.frame.code p.frame.pc ≡ Some (Take loop from words passes)) (g : core.Region) (rest : Regions)
    (some : chain_of (core.slot p.frame.slots loop) ≡ MoreRegions g rest) where
  abbrev it : Instr
  it = Take loop from words passes

  abbrev types : List Ty
  types = types_of m f

  abbrev n_at : ℕ
  n_at = number_place m.adts types loop

  abbrev r_at : ℕ
  r_at = reference_place m.adts types loop

  abbrev to : ℕ
  to = number_place m.adts types from

  abbrev spare_at : ℕ
  spare_at = spare_place m.adts types

  abbrev region : List ℕ
  region = range_with_len from words

  abbrev begin : ℕ
  begin = place_of m n f p.frame.pc

  -- the other process then
  abbrev index : ℕ
  index = next_of (core.slot p.frame.slots loop)

  abbrev slots_then : core.Slots
  slots_then = core.put (core.placed p.frame.slots from g) loop (Turns index rest)

  abbrev pub source_then : code.Process
  source_then = code.with_frames p (code.at p.frame (suc p.frame.pc) p.frame.variables slots_then) p.below

  module _ (ghost : Process) (c : ℕ) (inner : List Word) (next : Option ℕ) (behind : word_at inner (pos 0) ≡ Found (Refer next))
      (stored : WordStored ghost.frame.words r_at (Refer next)) (k : Facts) (w : Shared) (x : World)
      (t : Turning m b loop from words passes i p n f here g rest some ghost c inner k x)
      (idle : Has region loop → ⊥)
      (one : FirstOf m.adts k x.heap ghost.frame.serial ghost.frame.words r_at
      (over_found m k i x region n f 3 (Some c) p ghost t.over it here).0.0 g rest (t.over.words.own loop))
      (same_inner : one.inner ≡ inner) (shape_so : slots_in one.shape ≡ words)
      (y : World) (more : x.outside.frames ≤ y.outside.frames)
      (others_kept : (d : ℕ) → Free k d → k.maker d ≡ Some i → (k.form d ≡ Some (OwnedBy ghost.frame.serial) → ⊥) → IsKept k x.heap y.heap d)
      (own_kept : (s d : ℕ) → (s ≡ loop → ⊥) → Has (t.over.words.own s) d → IsKept k x.heap y.heap d)
      (region_kept : (d : ℕ) → Has one.owned d → IsKept k x.heap y.heap d)
      (first_kept : at y.heap c ≡ Some (Record inner))
      (chain : ChainStands m.adts k y.heap ghost.frame.serial (with_word ghost.frame.words r_at (Refer next)) r_at one.shapes rest one.more)
      (last_near : (l : ℕ) → one.last ≡ Some l
      → (next ≡ Some l) ⊎ ((d : ℕ) × (ws : List Word) × (next ≡ Some d) × Free k d × (at y.heap d ≡ Some (Record ws)) × Has ws (Refer (Some l))))
    where
      abbrev words4 : List Word
      words4 = with_word ghost.frame.words r_at (Refer next)

      abbrev then : Process
      then = moved_to ghost (begin + 7) words4

      abbrev are : WordsAre m.adts k x.heap ghost.frame.serial region types t.over.known p.frame.variables p.frame.slots ghost.frame.words
      are = t.over.words

      abbrev grows : Grows k k
      grows = record { facts = λ n f e. e; makers = λ n j e. e; forms = λ n o e. e }

      below : loop < length p.frame.slots
      below = (over_used m k i x region n f 3 (Some c) p ghost t.over it here).0

      fits : from + words ≤ length p.frame.slots
      fits = (over_used m k i x region n f 3 (Some c) p ghost t.over it here).1

      in_front : loop < from
      in_front = (over_agrees m k i x region n f 3 (Some c) p ghost t.over it here).0

      -- the region stands in its slots
      region_there : RegionStands m.adts k y.heap ghost.frame.serial words4 to one.shape g one.owned
      region_there =
          region_returns m.adts types from k y.heap ghost.frame.serial inner words4 words4 one.shape g one.owned
          (record {
            many = refl;
            same = λ j l.
                let in_words : j < 2 * words = omega (arith, l, shape_so) in
                stored.changes.words (to / 4 + j) (inr (omega (arith, in_front))) ∙ t.same j in_words;
            rest = λ u o. refl;
          })
          (region_stays m.adts k k x.heap y.heap ghost.frame.serial grows inner 8 one.shape g one.owned
          (subst (λ ws. RegionStands m.adts k x.heap ghost.frame.serial ws 8 one.shape g one.owned) same_inner one.region) region_kept)

      each : EachOwn m.adts k y.heap ghost.frame.serial words4 to one.shape g one.owned
      each = each_own m.adts k y.heap ghost.frame.serial words4 to one.shape g one.owned region_there

      abbrev own_of : (s : ℕ) → IsWhere loop from words s → List ℕ
      own_of s h = own_by loop from words s one.more each.of are.own h

      abbrev own_then : ℕ → List ℕ
      own_then s = own_of s (is_where loop from words s)

      abbrev known_then : held.Slots
      known_then = held.put (held.placed t.over.known from one.shape) loop (held.Turns one.shapes)

      long_so : long g ≡ words
      long_so = each.as_many ∙ shape_so

      known_long : length t.over.known ≡ length p.frame.slots
      known_long = are.as_many

      slots_long : length slots_then ≡ length p.frame.slots
      slots_long = set_long (core.placed p.frame.slots from g) loop (Turns index rest) ∙ placed_long p.frame.slots from g

      then_long : length known_then ≡ length p.frame.slots
      then_long =
          set_long (held.placed t.over.known from one.shape) loop (held.Turns one.shapes) ∙ held_long t.over.known from one.shape ∙ known_long

      -- ---- what a slot has then

      same_some : {A : Type 0} (u v : A) → Some u ≡ Some v → u ≡ v
      same_some u v e = cc

      abbrev Stay : (s : ℕ) → Held → Slot → List ℕ → Type 0
      Stay s h l os =
          StaysSo m.adts k k x.heap y.heap ghost.frame.serial region types t.over.known p.frame.variables p.frame.slots ghost.frame.words words4 are s h l os

      abbrev StandThen : (s : ℕ) → Held → Slot → List ℕ → Type 0
      StandThen s h l os =
          SlotStands m.adts k y.heap ghost.frame.serial words4 (number_place m.adts types s) (reference_place m.adts types s) h l os

      loop_stands : StandThen loop (held.Turns one.shapes) (Turns index rest) one.more
      loop_stands =
          let is = (over_found m k i x region n f 3 (Some c) p ghost t.over it here).0 in
          let so = loop_so m k i x region n f 3 (Some c) p ghost t.over loop below idle is in
          a_loop words4 n_at r_at index one.shapes rest one.more
          (word_same ghost.frame.words words4 n_at (stored.changes.words (n_at / 4) (inl (omega arith))) ∙ so.number) chain

      each_then : (s : ℕ) (h : Held) (l : Slot) (at : IsWhere loop from words s) → slice_get known_then s ≡ Some h → slice_get slots_then s ≡ Some l
          → Stay s h l (own_of s at) ⊎ StandThen s h l (own_of s at)
      each_then s h l (at_loop e) a o =
          let known : held.Turns one.shapes ≡ h =
          same_some (held.Turns one.shapes) h
          (sym (set_here (held.placed t.over.known from one.shape) loop (held.Turns one.shapes)
          (let z = held_long t.over.known from one.shape in let v = known_long in let u = below in omega (arith, z, v, u)))
          ∙ ap (slice_get known_then) (sym e) ∙ a) in
          let holds : Turns index rest ≡ l =
          same_some (Turns index rest) l
          (sym (set_here (core.placed p.frame.slots from g) loop (Turns index rest)
          (let z = placed_long p.frame.slots from g in let u = below in omega (arith, z, u)))
          ∙ ap (slice_get slots_then) (sym e) ∙ o) in
          inr (subst (λ u. StandThen u h l one.more) (sym e)
          (subst (λ u. StandThen loop h u one.more) holds (subst (λ u. StandThen loop u (Turns index rest) one.more) known loop_stands)))
      each_then s h l (within d less e) a o =
          let front = in_front in
          let fit = fits in
          let ne : from + d ≢ loop = λ z. omega (arith, z, front) in
          let known : held_at one.shape d ≡ Some h =
          sym (set_apart (held.placed t.over.known from one.shape) loop (from + d) (held.Turns one.shapes) ne
          ∙ held_in t.over.known from one.shape d (omega (arith, less, shape_so)) (let z = known_long in omega (arith, z, fit, shape_so)))
          ∙ ap (slice_get known_then) (sym e) ∙ a in
          let z = long_so in
          let holds : slot_at g d ≡ Some l =
          sym (set_apart (core.placed p.frame.slots from g) loop (from + d) (Turns index rest) ne
          ∙ placed_in p.frame.slots from g d (omega (arith, less, z)) (omega (arith, fit, z)))
          ∙ ap (slice_get slots_then) (sym e) ∙ o in
          let number : to + 8 * d ≡ number_place m.adts types s = omega (arith, e) in
          inr (subst (λ u. SlotStands m.adts k y.heap ghost.frame.serial words4 u (u + 4) h l (each.of d)) number (each.stands d h l known holds))
      each_then s h l (elsewhere ne out) a o =
          let known : slice_get t.over.known s ≡ Some h =
          sym (set_apart (held.placed t.over.known from one.shape) loop s (held.Turns one.shapes) ne
          ∙ held_out t.over.known from one.shape s (out_held out)) ∙ a in
          let holds : slice_get p.frame.slots s ≡ Some l =
          sym (set_apart (core.placed p.frame.slots from g) loop s (Turns index rest) ne ∙ placed_out p.frame.slots from g s (out_core out)) ∙ o in
          inl (record {
            idle = λ busy. let r = in_range from words s busy in not_in out r.0 r.1 r.2;
            known_so = known;
            holds_so = holds;
            words_so = λ u r. stored.changes.words u (beside u r (low_or_high s loop));
            own_so = refl;
            kept = λ d u. own_kept s d ne u;
          })
        where
          out_held : (s < from) ⊎ (from + words ≤ s) → (s < from) ⊎ (from + slots_in one.shape ≤ s)
          out_held (inl low) = inl low
          out_held (inr high) = inr (omega (arith, high, shape_so))

          out_core : (s < from) ⊎ (from + words ≤ s) → (s < from) ⊎ (from + long g ≤ s)
          out_core (inl low) = inl low
          out_core (inr high) = let z = long_so in inr (omega (arith, high, z))

          not_in : (s < from) ⊎ (from + words ≤ s) → (d : ℕ) → s ≡ from + d → d < words → ⊥
          not_in (inl low) d e l = omega (arith, low, e)
          not_in (inr high) d e l = omega (arith, high, e, l)

          beside : (u : ℕ) → IsWithin (number_place m.adts types s) 8 u → (s < loop) ⊎ (loop ≤ s) → (4 * u + 4 ≤ r_at) ⊎ (r_at + 4 ≤ 4 * u)
          beside u r (inl less) = let z = r.1 in inl (omega (arith, less, z))
          beside u r (inr most) = elim (low_or_high loop s) [
            | inl past ↦ let z = r.0 in inr (omega (arith, past, z))
            | inr least ↦ absurd (ne (omega (arith, most, least)))
          ]

      -- ---- no block is there twice

      chain_single : Single (one.owned ++ one.more)
      chain_single = (subst Single one.own_so (are.single loop)).1

      of_owned : (d : ℕ) → Has one.owned d → Has (are.own loop) d
      of_owned d h = subst (λ os. Has os d) (sym one.own_so) (inr (has_left one.owned one.more d h))

      of_more : (d : ℕ) → Has one.more d → Has (are.own loop) d
      of_more d h = subst (λ os. Has os d) (sym one.own_so) (inr (has_right one.owned one.more d h))

      single_then : (s : ℕ) (at : IsWhere loop from words s) → Single (own_of s at)
      single_then s (at_loop e) = (singles one.owned one.more chain_single).1
      single_then s (within d l e) = each.single (singles one.owned one.more chain_single).0 d
      single_then s (elsewhere ne out) = are.single s

      apart_then : (s r d : ℕ) (at : IsWhere loop from words s) (to : IsWhere loop from words r) → Has (own_of s at) d → Has (own_of r to) d → s ≡ r
      apart_then s r d (at_loop e) (at_loop u) h o = e ∙ sym u
      apart_then s r d (at_loop e) (within v l u) h o = absurd (single_apart one.owned one.more d chain_single (each.among v d o) h)
      apart_then s r d (at_loop e) (elsewhere ne out) h o = absurd (ne (sym (are.apart loop r d (of_more d h) o)))
      apart_then s r d (within v l u) (at_loop e) h o = absurd (single_apart one.owned one.more d chain_single (each.among v d h) o)
      apart_then s r d (within v l u) (within z a e) h o =
          let same = each.apart (singles one.owned one.more chain_single).0 v z d h o in omega (arith, u, e, same)
      apart_then s r d (within v l u) (elsewhere ne out) h o = absurd (ne (sym (are.apart loop r d (of_owned d (each.among v d h)) o)))
      apart_then s r d (elsewhere ne out) (at_loop e) h o = absurd (ne (sym (are.apart loop s d (of_more d o) h)))
      apart_then s r d (elsewhere ne out) (within v l u) h o = absurd (ne (sym (are.apart loop s d (of_owned d (each.among v d o)) h)))
      apart_then s r d (elsewhere ne out) (elsewhere nor past) h o = are.apart s r d h o

      past_then : (s : ℕ) (at : IsWhere loop from words s) → length p.frame.slots ≤ s → own_of s at ≡ []
      past_then s (at_loop e) l = let u = below in absurd (omega (arith, e, l, u))
      past_then s (within d less e) l = let u = fits in absurd (omega (arith, e, less, l, u))
      past_then s (elsewhere ne out) l = are.none_past s l

      mine_then : (s d : ℕ) (at : IsWhere loop from words s) → Has (own_of s at) d → k.maker d ≡ Some i
      mine_then s d (at_loop e) h = t.over.mine loop d (of_more d h)
      mine_then s d (within v l e) h = t.over.mine loop d (of_owned d (each.among v d h))
      mine_then s d (elsewhere ne out) h = t.over.mine s d h

      -- ---- so the frame stands for the other's

      kind_then : AreOf (frame_bytes m.adts types (length p.frame.slots)) (frame_references m.adts types (length p.frame.slots)) words4
      kind_then =
          kinds_stay.all (frame_bytes m.adts types (length p.frame.slots)) (frame_references m.adts types (length p.frame.slots)) ghost.frame.words words4
          are.kind stored.changes.many stored.changes.refer stored.changes.referred (stored.ranged (λ z e. absurd cc) are.kind.ranged)

      else_then : ElseAsWas ghost.frame.words words4 (slots_place m.adts types) (8 * length p.frame.slots)
      else_then = record {
        each = λ u never. elim (low_or_high (4 * u) r_at) [
          | inl low ↦ stored.changes.words u (inl (omega (arith, low)))
          | inr high ↦ elim (low_or_high (4 * u) (r_at + 4)) [
            | inl inside ↦ let l = below in absurd (never (omega (arith, high), omega (arith, inside, l)))
            | inr past ↦ stored.changes.words u (inr (omega (arith, past)))
          ]
        ];
      }

      words_then : (after : WordsAre m.adts k y.heap ghost.frame.serial [] types known_then p.frame.variables slots_then words4) × (after.own ≡ own_then)
      words_then =
          slots_change.several m.adts k k x.heap y.heap ghost.frame.serial region [] types t.over.known known_then p.frame.variables p.frame.slots slots_then
          ghost.frame.words words4 own_then are grows slots_long then_long else_then kind_then
          (λ s l. past_then s (is_where loop from words s) l) (λ s h. absurd h)
          (λ s h l free a o. each_then s h l (is_where loop from words s) a o)
          (λ s. single_then s (is_where loop from words s))
          (λ s r d h o. apart_then s r d (is_where loop from words s) (is_where loop from words r) h o)

      known_so : held.slot t.over.known loop ≡ held.Turns (held.MoreRegions one.shape one.shapes)
      known_so = (over_found m k i x region n f 3 (Some c) p ghost t.over it here).0.1 ∙ ap held.Turns one.known

      goes_then : GoesOn m f (suc p.frame.pc) known_then
      goes_then =
          goes_behind m f p.frame.pc t.over.known it t.over.goes (over_code m k i x region n f 3 (Some c) p ghost t.over it here) 0 (suc p.frame.pc) known_then
          (subst (λ h. 0 < length (taken p.frame.pc passes t.over.known loop from (held.chain_of h))) (sym known_so) (omega arith))
          (ap (λ h. slice_index_or (taken p.frame.pc passes t.over.known loop from (held.chain_of h)) 0 (stand (suc p.frame.pc) known_then)) known_so)

      abbrev stands_then : Stands m k i y [] Awaited source_then then
      stands_then = record {
        number = t.over.process;
        is = record {
          number = n;
          function = f;
          there = t.over.there;
          code = t.over.code;
          answer = t.over.answer;
          many = slots_long ∙ t.over.many;
          instance = t.over.instance;
          formed = t.over.formed;
          known = known_then;
          words = words_then.0;
          mine = λ s d h. mine_then s d (is_where loop from words s) (subst (λ (o : ℕ → List ℕ). Has (o s) d) words_then.1 h);
          fresh = let l = t.over.fresh in omega (arith, l, more);
        };
        goes = goes_then;
        waits = all_wait m k i y Awaited p.frame.answer ghost.frame then.frame p.below ghost.below refl
            (word_same ghost.frame.words words4 answer_place (stored.changes.words (answer_place / 4) (inl (omega arith))))
            (all_wait_later m k k i x y ghost.frame.serial grows more others_kept Awaited p.frame.answer ghost.frame p.below ghost.below (omega arith) t.over.waits);
      }

      spare_then : word_at words4 (pos spare_at) ≡ Found (Refer (Some c))
      spare_then = word_same ghost.frame.words words4 spare_at (stored.changes.words (spare_at / 4) (inl (omega arith))) ∙ t.over.spare

      module _ (hold : HoldTheSame m k i x p ghost) (worlds : (sides m).worlds k w x) (now : (sides m).worlds k w y) where
        abbrev tidies : Tidies m i source_then k y then
        tidies = record {
          stands = stands_then;
          none_made = t.over.none_made;
          pc = let a = ap (λ o. size_at m f.of.answer (of_function m f) p.frame.pc o) (over_code m k i x region n f 3 (Some c) p ghost t.over it here) in
              omega (arith, a);
          refers = (Some c, spare_then);
          here = (over_row m k i x region n f 3 (Some c) p ghost t.over it here b w hold worlds).insts 7
              (inst op.Movp nil_word middle.None (own spare_at)) refl;
          low = over_rank m k i x region n f 3 (Some c) p ghost t.over it here 7 (omega arith) then refl;
        }

        module _ (live : AreThere m y then) where
          abbrev Account : ℕ → Type 0
          Account d = Accounted k i y.heap (code.process_names source_then) (Refer (Some d))

          loop_account : (d : ℕ) → next ≡ Some d → Account d
          loop_account d e =
              let l = below in let z = slots_long in
              slot_word_accounted m k i w y source_then then [] stands_then.is now live loop (omega (arith, l, z)) (λ h. h) d
              (stored.there ∙ ap (λ (o : Option ℕ). Found (Refer o)) e)

          last_account : (d : ℕ) → one.last ≡ Some d → Account d
          last_account d e = elim (last_near d e) [
            | inl z ↦ loop_account d z
            | inr (v, ws, is, free, there, has) ↦
                one_accounted k i y.heap (code.process_names source_then) ws (Refer (Some d))
                (within_accounted k i y.heap (code.process_names source_then) v (loop_account v is) ws there free) has
          ]

          region_account : (s d : ℕ) → s < words → slice_get inner (2 + (2 * s + 1)) ≡ Some (Refer (Some d)) → Account d
          region_account s d less e =
              let front = in_front in
              let l = fits in let z = slots_long in
              let at : to / 4 + (2 * s + 1) ≡ reference_place m.adts types (from + s) / 4 = omega arith in
              let found : slice_get words4 (reference_place m.adts types (from + s) / 4) ≡ Some (Refer (Some d)) =
              subst (λ u. slice_get words4 u ≡ Some (Refer (Some d))) at
              (stored.changes.words (to / 4 + (2 * s + 1)) (inr (omega (arith, front))) ∙ t.same (2 * s + 1) (omega (arith, less)) ∙ e) in
              slot_word_accounted m k i w y source_then then [] stands_then.is now live (from + s) (omega (arith, less, l, z)) (λ h. h) d
              (word_there words4 (reference_place m.adts types (from + s)) (Refer (Some d)) (omega arith) found)

          inner_kind : AreOf (turn_bytes words) (turn_references words) inner
          inner_kind =
              subst (λ u. AreOf (turn_bytes u) (turn_references u) inner) shape_so
              (subst (λ ws. AreOf (turn_bytes (slots_in one.shape)) (turn_references (slots_in one.shape)) ws) same_inner one.is.kind)

          first_end : word_at inner (pos 4) ≡ Found (Refer one.last)
          first_end = subst (λ ws. word_at ws (pos 4) ≡ Found (Refer one.last)) same_inner one.end

          same_refer : (u v : Option ℕ) → Some (Refer u) ≡ Some (Refer v) → u ≡ v
          same_refer u v e = cc

          word_account : (j d : ℕ) → slice_get inner j ≡ Some (Refer (Some d)) → Account d
          word_account j d e = by_place (inner_kind.only j (Some d) e)
            where
              by_place : Has (turn_references words) (4 * j) → Account d
              by_place (inl z) =
                  let is : j ≡ 0 = omega (arith, z) in
                  loop_account d (same_refer next (Some d) (sym (word_found inner 0 (Refer next) behind).1 ∙ ap (slice_get inner) (sym is) ∙ e))
              by_place (inr (inl z)) =
                  let is : j ≡ 1 = omega (arith, z) in
                  last_account d (same_refer one.last (Some d) (sym (word_found inner 4 (Refer one.last) first_end).1 ∙ ap (slice_get inner) (sym is) ∙ e))
              by_place (inr (inr h)) =
                  let a = second_refers 8 words (4 * j) h in
                  let z = a.1 in
                  let is : j ≡ 2 + (2 * a.0 + 1) = omega (arith, z) in
                  let many = inner_kind.many in
                  let long = below_length inner j (Refer (Some d)) e in
                  region_account a.0 d (omega (arith, z, many, long)) (ap (slice_get inner) (sym is) ∙ e)

          first_account : Account c
          first_account =
              to_inner c (Record inner) (is_inner (k.fact c) t.free) first_kept (λ u. t.made)
              (each_accounted k i y.heap (code.process_names source_then) inner word_account)

          hold_then : HoldTheSame m k i y source_then then
          hold_then =
              tidies_hold m i source_then b k w y then tidies now live (λ r e.
              let same : Some c ≡ r = let z : ◌≡◌ {A = Access Word} (Found (Refer (Some c))) (Found (Refer r)) = sym spare_then ∙ e in cc in
              subst (λ (o : Option ℕ). Accounted k i y.heap (code.process_names source_then) (Refer o)) same first_account)

        -- the other takes its step
        pub arrives : (q : Process) → (sides m).code.step x q ≡ Went y then → (sides m).changes (Only i) k k x y → AreThere m y then
            → Goes m b i p 1 k w x q
        arrives q step changes live =
            stepped (sides m) (place m) (λ l z r t. Way (sides m) (place m) 1 l i z r t) k k i w x y p q then step changes w source_then
            (ap (code.next frames_limit (program m) w p) here
            ∙ ap (λ (rs : Regions). code.takes frames_limit (program m) w p loop from passes (next_of (core.slot p.frame.slots loop)) rs) some)
            now (tidies_way m i source_then b k y then tidies (hold_then live))
