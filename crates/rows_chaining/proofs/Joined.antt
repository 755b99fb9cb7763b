-- A region that is kept behind others: where the row ends, the loop's chain has one more.
use Rattle.std.proofs.Common.{◌≡◌, ◌≢◌, ◌⊎◌, ℕ, true, zero, suc, pos, ◌+◌, ◌*◌, ◌/◌, ◌<◌, ◌≤◌, List, [], ◌∷◌, length, Option, Some, None, refl, sym, ap, ◌∙◌, subst, arith, inl, inr}
use Rattle.std.specs.Prelude.{slice_get}
use Rattle.std.specs.List.{range_with_len}
use Rattle.process_ways.specs.Ways.{Way}
use Rattle.process_ways.proofs.On.{stepped}
use Rattle.heap_model.specs.Heap.{at, there}
use Rattle.limbo_types.specs.Types as ty
use Rattle.limbo_types.specs.Types.{Ty}
use Rattle.limbo_layout.specs.Adts.{Has}
use Rattle.limbo_typed.specs.Typed as typed
use Rattle.limbo_meaning.specs.Process.{Shared}
use Rattle.limbo_meaning.specs.Values.{nothing}
use Rattle.system_model.specs.Limits.{frames_limit}
use Rattle.core_code.specs.Code.{Instr, Keep}
use Rattle.core_code.specs.Machine as code
use Rattle.core_code.specs.Slots as core
use Rattle.core_code.specs.Slots.{Slot, Turns, Regions, MoreRegions, chain_of, next_of}
use Rattle.core_typing.specs.Held as held
use Rattle.core_typing.specs.Held.{Held}
use Rattle.core_typing.specs.Going.{stand}
use Rattle.dis_isa.specs.declared.inst.Middle.TheVariants as middle
use Rattle.dis_isa.specs.declared.op.Op.TheVariants as op
use Rattle.dis_meaning.specs.Words.{Word, Refer, Access, Found, word_at}
use Rattle.dis_meaning.specs.Process.{Process}
use Rattle.dis_memory.specs.Blocks.{World}
use Rattle.dis_memory.specs.Naming as machine
use Rattle.dis_memory.specs.Process.{jumps}
use Rattle.value_words.specs.Facts.{Facts}
use Rattle.value_words.proofs.Bytes.{word_there}
use Rattle.value_words.proofs.Rows.{below as within_length}
use Rattle.value_roots.specs.Accounts.{Accounted}
use Rattle.value_frames.specs.Frames.{spare_place, number_place, reference_place}
use Rattle.value_frames.specs.Slots.{StaysSo}
use Rattle.value_frames.specs.Standing.{Single, SlotStands, a_value, a_loop, a_chain, nothing_there, TailStands, WordsAre}
use Rattle.value_frames.proofs.Slots.{slots_change}
use Rattle.value_frames.proofs.Later.{frames_later}
use Rattle.value_moves.specs.Operands.{inst, own}
use Rattle.value_code.specs.Data.{nil_word}
use Rattle.value_code.specs.Objects.{object_of, size_at, of_function}
use Rattle.value_code.specs.Works.{jump_to}
use Rattle.value_code.specs.Code.{code_of}
use Rattle.number_effects.proofs.Control.{control_goes}
use Rattle.number_effects.proofs.Stepping.{steps_obey}
use Rattle.value_follows.specs.Stands.{types_of, place_of, GoesOn, Awaited, Stands}
use Rattle.value_follows.specs.Sides.{sides, HoldTheSame, program}
use Rattle.value_follows.specs.Rows.{place, Base, site_of}
use Rattle.value_follows.proofs.RootedSlots.{in_range}
use Rattle.value_follows.proofs.RootedValues.{has_at, word_has}
use Rattle.value_follows.proofs.Several.{Next as Goes, moved_to}
use Rattle.value_follows.proofs.Single.{nothing_changes}
use Rattle.value_follows.proofs.Standing.{all_wait, goes_behind}
use Rattle.rows_dropping.proofs.Tidying.{Tidies, tidies_way, tidies_hold}
use Rattle.rows_turning.proofs.Marks.{refers_second}
use Rattle.rows_chaining.specs.Rows.{AreBare}
use Rattle.rows_chaining.proofs.Regions.{set_here, set_apart, set_long}
use Rattle.rows_chaining.proofs.Over.{Over, over_code, over_used, over_agrees, over_rank, over_row}
use Rattle.rows_chaining.proofs.Arriving.{IsWhere, at_loop, within, elsewhere, is_where, own_by}
use Rattle.rows_chaining.proofs.Making.{turn_words, turn_bare, turn_kind}
use Rattle.rows_chaining.proofs.Accounts.{slot_word_accounted, within_accounted, one_accounted}
use Rattle.rows_chaining.proofs.Keeps.{core_long, core_out, core_in, held_long, held_out, held_in}
use Rattle.rows_chaining.proofs.Linked.{Linked, own_all}
use Rattle.rows_chaining.proofs.Storing.{reaches}

module _ (m : typed.Module) (b : Base m) (loop from words i : ℕ) (p : code.Process) (n : ℕ) (f : typed.Function)
    (here : slice_get p.frame.code p.frame.pc ≡ Some (Keep loop from words)) (bare : AreBare p from words) (g : core.Region) (rest : Regions)
    (some : chain_of (core.slot p.frame.slots loop) ≡ MoreRegions g rest)
    (known : held.Slots) (c first : ℕ) (shape : held.Region) (owned : List ℕ) (shapes : held.Regions)
    (known_is : held.slot known loop ≡ held.Turns (held.MoreRegions shape shapes)) where
  abbrev it : Instr
  it = Keep loop from words

  abbrev types : List Ty
  types = types_of m f

  abbrev n_at : ℕ
  n_at = number_place m.adts types loop

  abbrev r_at : ℕ
  r_at = reference_place m.adts types loop

  abbrev to : ℕ
  to = number_place m.adts types from

  abbrev spare_at : ℕ
  spare_at = spare_place m.adts types

  abbrev region : List ℕ
  region = range_with_len from words

  abbrev busy : List ℕ
  busy = loop ∷ region

  abbrev begin : ℕ
  begin = place_of m n f p.frame.pc

  -- the other process then
  abbrev index : ℕ
  index = next_of (core.slot p.frame.slots loop)

  abbrev kept : core.Region
  kept = core.region p.frame.slots from words

  abbrev chain_then : Regions
  chain_then = MoreRegions g (core.chained rest kept)

  abbrev slots_then : core.Slots
  slots_then = core.put (core.cleared p.frame.slots from words) loop (Turns index chain_then)

  abbrev source_then : code.Process
  source_then = code.with_frames p (code.at p.frame (suc p.frame.pc) p.frame.variables slots_then) p.below

  abbrev all_own : List ℕ → List ℕ
  all_own more = own_all m b loop from words i p n f here bare g known c first shape owned more

  module _ (more : List ℕ) (ws : List Word) (j : ℕ) (k : Facts) (w : Shared) (x : World) (q : Process)
      (t : Linked m b loop from words i p n f here bare g known c first shape owned j None (Some c) (Some c)
      (held.chained shapes (held.region known from words)) (core.chained rest kept) more ws k x q)
      (hold : HoldTheSame m k i x p q) (worlds : (sides m).worlds k w x) where
    abbrev fr : Over m k i x busy n f j (Some c) p q
    fr = t.over

    abbrev are : WordsAre m.adts k x.heap q.frame.serial busy types fr.known p.frame.variables p.frame.slots q.frame.words
    are = fr.words

    abbrev others : List Word
    others = q.frame.words

    below : loop < length p.frame.slots
    below = (over_used m k i x busy n f j (Some c) p q fr it here).0

    fits : from + words ≤ length p.frame.slots
    fits = (over_used m k i x busy n f j (Some c) p q fr it here).1

    in_front : loop < from
    in_front = (over_agrees m k i x busy n f j (Some c) p q fr it here).0.0

    abbrev then : Process
    then = moved_to q (begin + 15) others

    abbrev shapes_then : held.Regions
    shapes_then = held.MoreRegions shape (held.chained shapes (held.region fr.known from words))

    abbrev known_then : held.Slots
    known_then = held.put (held.cleared fr.known from words) loop (held.Turns shapes_then)

    known_so : held.slot fr.known loop ≡ held.Turns (held.MoreRegions shape shapes)
    known_so = ap (λ (ks : held.Slots). held.slot ks loop) t.known_so ∙ known_is

    known_many : length fr.known ≡ length p.frame.slots
    known_many = are.as_many

    slots_many : length slots_then ≡ length p.frame.slots
    slots_many = set_long (core.cleared p.frame.slots from words) loop (Turns index chain_then) ∙ core_long p.frame.slots from words

    then_many : length known_then ≡ length p.frame.slots
    then_many = set_long (held.cleared fr.known from words) loop (held.Turns shapes_then) ∙ held_long fr.known from words ∙ known_many

    same_some : {A : Type 0} (u v : A) → Some u ≡ Some v → u ≡ v
    same_some u v e = cc

    abbrev own_of : (s : ℕ) → IsWhere loop from words s → List ℕ
    own_of s h = own_by loop from words s (all_own more) (λ d. []) are.own h

    abbrev own_then : ℕ → List ℕ
    own_then s = own_of s (is_where loop from words s)

    abbrev StandThen : (s : ℕ) → Held → Slot → List ℕ → Type 0
    StandThen s h l os =
        SlotStands m.adts k x.heap q.frame.serial others (number_place m.adts types s) (reference_place m.adts types s) h l os

    loop_then : StandThen loop (held.Turns shapes_then) (Turns index chain_then) (all_own more)
    loop_then =
        a_loop others n_at r_at index shapes_then chain_then (all_own more) t.number
        (a_chain others ws r_at first (Some c) shape (held.chained shapes (held.region fr.known from words)) g (core.chained rest kept) owned more t.is t.ends
        t.region
        (subst (λ (ks : held.Slots). TailStands m.adts k x.heap q.frame.serial ws 0 (Some c) (held.chained shapes (held.region ks from words))
        (core.chained rest kept) more) (sym t.known_so) t.tail))

    blank_none : (d : ℕ) → d < words → (r : Option ℕ) → slice_get (turn_words words) ((8 + 8 * d + 4) / 4) ≡ Some (Refer r) → r ≡ None
    blank_none d l None e = refl
    blank_none d l (Some u) e = absurd (turn_bare words u (has_at (turn_words words) ((8 + 8 * d + 4) / 4) (Refer (Some u)) e))

    word_none : (s d : ℕ) → s ≡ from + d → d < words → word_at others (pos (reference_place m.adts types s)) ≡ Found (Refer None)
    word_none s zero e l =
        let same : from ≡ s = omega (arith, e) in
        subst (λ (u : ℕ). word_at others (pos (reference_place m.adts types u)) ≡ Found (Refer None)) same t.from_word
    word_none s (suc d) e l =
        let r = (turn_kind words).refer (8 + 8 * suc d + 4) (inr (inr (refers_second 8 words (suc d) l))) in
        let o : (8 + 8 * suc d + 4) / 4 ≡ 8 / 4 + (2 * suc d + 1) = omega arith in
        let a : to / 4 + (2 * suc d + 1) ≡ reference_place m.adts types s / 4 = omega (arith, e) in
        let found : slice_get others (reference_place m.adts types s / 4) ≡ Some (Refer r.0) =
        sym (ap (slice_get others) a) ∙ t.blank (2 * suc d + 1) (omega (arith, l)) (λ z. omega (arith, z)) ∙ sym (ap (slice_get (turn_words words)) o) ∙ r.1 in
        word_there others (reference_place m.adts types s) (Refer None) (omega arith)
        (found ∙ ap (λ (u : Option ℕ). Some (Refer u)) (blank_none (suc d) l r.0 r.1))

    empty_then : (s d : ℕ) → s ≡ from + d → d < words → StandThen s held.empty core.empty []
    empty_then s d e l =
        a_value others (number_place m.adts types s) (reference_place m.adts types s) ty.Nothing [] nothing
        (refl, (None, word_none s d e l, nothing_there)) (λ u v g. absurd cc)

    each_then : (s : ℕ) (h : Held) (l : Slot) (at : IsWhere loop from words s) → slice_get known_then s ≡ Some h → slice_get slots_then s ≡ Some l
        → StaysSo m.adts k k x.heap x.heap q.frame.serial busy types fr.known p.frame.variables p.frame.slots q.frame.words others are s h l (own_of s at)
        ⊎ StandThen s h l (own_of s at)
    each_then s h l (at_loop e) a o =
        let is_known : held.Turns shapes_then ≡ h =
        same_some (held.Turns shapes_then) h
        (sym (set_here (held.cleared fr.known from words) loop (held.Turns shapes_then)
        (let z = held_long fr.known from words in let v = known_many in let u = below in omega (arith, z, v, u)))
        ∙ ap (slice_get known_then) (sym e) ∙ a) in
        let holds : Turns index chain_then ≡ l =
        same_some (Turns index chain_then) l
        (sym (set_here (core.cleared p.frame.slots from words) loop (Turns index chain_then)
        (let z = core_long p.frame.slots from words in let u = below in omega (arith, z, u)))
        ∙ ap (slice_get slots_then) (sym e) ∙ o) in
        inr (subst (λ u. StandThen u h l (all_own more)) (sym e)
        (subst (λ u. StandThen loop h u (all_own more)) holds (subst (λ u. StandThen loop u (Turns index chain_then) (all_own more)) is_known loop_then)))
    each_then s h l (within d less e) a o =
        let front = in_front in
        let fit = fits in
        let ne : from + d ≢ loop = λ z. omega (arith, z, front) in
        let is_known : held.empty ≡ h =
        same_some held.empty h
        (sym (set_apart (held.cleared fr.known from words) loop (from + d) (held.Turns shapes_then) ne
        ∙ held_in fr.known from words d less (let z = known_many in omega (arith, z, fit)))
        ∙ ap (slice_get known_then) (sym e) ∙ a) in
        let holds : core.empty ≡ l =
        same_some core.empty l
        (sym (set_apart (core.cleared p.frame.slots from words) loop (from + d) (Turns index chain_then) ne
        ∙ core_in p.frame.slots from words d less fit)
        ∙ ap (slice_get slots_then) (sym e) ∙ o) in
        inr (subst (λ u. StandThen s h u []) holds (subst (λ u. StandThen s u core.empty []) is_known (empty_then s d e less)))
    each_then s h l (elsewhere ne out) a o =
        let is_known : slice_get fr.known s ≡ Some h =
        sym (set_apart (held.cleared fr.known from words) loop s (held.Turns shapes_then) ne
        ∙ held_out fr.known from words s out) ∙ a in
        let holds : slice_get p.frame.slots s ≡ Some l =
        sym (set_apart (core.cleared p.frame.slots from words) loop s (Turns index chain_then) ne
        ∙ core_out p.frame.slots from words s out) ∙ o in
        inl (record {
          idle = idle;
          known_so = is_known;
          holds_so = holds;
          words_so = λ u r. refl;
          own_so = refl;
          kept = λ d u.
              (((frames_later m.adts k x.heap q.frame.serial busy types fr.known p.frame.variables p.frame.slots q.frame.words are).owned s d u).0, refl);
        })
      where
        not_there : (s < from) ⊎ (from + words ≤ s) → (d : ℕ) → s ≡ from + d → d < words → ⊥
        not_there (inl low) d e l = omega (arith, low, e)
        not_there (inr high) d e l = omega (arith, high, e, l)

        idle : Has busy s → ⊥
        idle (inl e) = ne (sym e)
        idle (inr h) = let r = in_range from words s h in not_there out r.0 r.1 r.2

    single_then : (s : ℕ) (at : IsWhere loop from words s) → Single (own_of s at)
    single_then s (at_loop e) = t.single
    single_then s (within d l e) = tt
    single_then s (elsewhere ne out) = are.single s

    apart_then : (s r d : ℕ) (at : IsWhere loop from words s) (to : IsWhere loop from words r) → Has (own_of s at) d → Has (own_of r to) d → s ≡ r
    apart_then s r d (at_loop e) (at_loop u) h o = e ∙ sym u
    apart_then s r d (within v l u) to h o = absurd h
    apart_then s r d (at_loop e) (within v l u) h o = absurd o
    apart_then s r d (elsewhere ne out) (within v l u) h o = absurd o
    apart_then s r d (at_loop e) (elsewhere ne out) h o = absurd (t.apart r d o h)
    apart_then s r d (elsewhere ne out) (at_loop e) h o = absurd (t.apart s d h o)
    apart_then s r d (elsewhere ne out) (elsewhere nor past) h o = are.apart s r d h o

    past_then : (s : ℕ) (at : IsWhere loop from words s) → length p.frame.slots ≤ s → own_of s at ≡ []
    past_then s (at_loop e) l = let u = below in absurd (omega (arith, e, l, u))
    past_then s (within d less e) l = refl
    past_then s (elsewhere ne out) l = are.none_past s l

    mine_then : (s d : ℕ) (at : IsWhere loop from words s) → Has (own_of s at) d → k.maker d ≡ Some i
    mine_then s d (at_loop e) h = t.made d h
    mine_then s d (within v l e) h = absurd h
    mine_then s d (elsewhere ne out) h = fr.mine s d h

    words_then : (now : WordsAre m.adts k x.heap q.frame.serial [] types known_then p.frame.variables slots_then others) × (now.own ≡ own_then)
    words_then =
        slots_change.several m.adts k k x.heap x.heap q.frame.serial busy [] types fr.known known_then p.frame.variables p.frame.slots slots_then
        q.frame.words others own_then are (record { facts = λ n f e. e; makers = λ n j e. e; forms = λ n o e. e }) slots_many then_many
        (record { each = λ u never. refl }) are.kind
        (λ s l. past_then s (is_where loop from words s) l) (λ s h. absurd h)
        (λ s h l free a o. each_then s h l (is_where loop from words s) a o)
        (λ s. single_then s (is_where loop from words s))
        (λ s r d h o. apart_then s r d (is_where loop from words s) (is_where loop from words r) h o)

    goes_then : GoesOn m f (suc p.frame.pc) known_then
    goes_then =
        goes_behind m f p.frame.pc fr.known it fr.goes (over_code m k i x busy n f j (Some c) p q fr it here) 0 (suc p.frame.pc) known_then (omega arith)
        (ap (λ h. stand (suc p.frame.pc) (held.put (held.cleared fr.known from words) loop
        (held.Turns (held.chained (held.chain_of h) (held.region fr.known from words))))) known_so)

    abbrev stands_then : Stands m k i x [] Awaited source_then then
    stands_then = record {
      number = fr.process;
      is = record {
        number = n;
        function = f;
        there = fr.there;
        code = fr.code;
        answer = fr.answer;
        many = slots_many ∙ fr.many;
        instance = fr.instance;
        formed = fr.formed;
        known = known_then;
        words = words_then.0;
        mine = λ s d h. mine_then s d (is_where loop from words s) (subst (λ (o : ℕ → List ℕ). Has (o s) d) words_then.1 h);
        fresh = fr.fresh;
      };
      goes = goes_then;
      waits = all_wait m k i x Awaited p.frame.answer q.frame then.frame p.below q.below refl refl fr.waits;
    }

    abbrev tidies : Tidies m i source_then k x then
    tidies = record {
      stands = stands_then;
      none_made = fr.none_made;
      pc = let a = ap (λ o. size_at m f.of.answer (of_function m f) p.frame.pc o) (over_code m k i x busy n f j (Some c) p q fr it here) in omega (arith, a);
      refers = (Some c, fr.spare);
      here = (over_row m k i x busy n f j (Some c) p q fr it here b w hold worlds).insts 15
          (inst op.Movp nil_word middle.None (own spare_at)) refl;
      low = over_rank m k i x busy n f j (Some c) p q fr it here 15 (omega arith) then refl;
    }

    account_then : (sides m).worlds k w x → ((o : ℕ) → 0 < machine.names then o → there (at x.heap o) ≡ true)
        → Accounted k i x.heap (code.process_names source_then) (Refer (Some c))
    account_then worlds live =
        let l = below in
        let z = slots_many in
        let account = slot_word_accounted m k i w x source_then then [] stands_then.is worlds live loop (omega (arith, l, z)) (λ h. h) first t.is.word in
        one_accounted k i x.heap (code.process_names source_then) ws (Refer (Some c))
        (within_accounted k i x.heap (code.process_names source_then) first account ws t.is.there t.is.free)
        (word_has ws 4 (Refer (Some c)) t.ends)

    -- The row's last jump: the other process steps.
    pub joins : (to_j : ℕ) → j ≡ to_j
        → slice_get (code_of (site_of m n f p.frame.pc (over_row m k i x busy n f j (Some c) p q fr it here b w hold worlds).at) it) to_j
        ≡ Some (jump_to (begin + 15)) → Goes m b i p 1 k w x q
    joins to_j e is =
        let step =
        steps_obey.does frames_limit (object_of m ∷ []) x q (object_of m) (jump_to (begin + 15)) (jumps x q (begin + 15))
        (reaches m b loop from words i p n f here busy c j k w x q fr hold worlds to_j (jump_to (begin + 15)) e is)
        (control_goes.jmp frames_limit (object_of m) x q (jump_to (begin + 15)) (begin + 15) refl refl
        (within_length (object_of m).insts (begin + 15) _ ((over_row m k i x busy n f j (Some c) p q fr it here b w hold worlds).insts 15 _ refl))) in
        let live = b.there_again x x q then step worlds.0.closed (λ n h. hold.same.live n (hold.same.roots n h)) in
        stepped (sides m) (place m) (λ l z r t. Way (sides m) (place m) 1 l i z r t) k k i w x x p q then step (nothing_changes m k i x) w source_then
        (ap (code.next frames_limit (program m) w p) here
        ∙ ap (λ (rs : Regions). code.goes_on w p (core.put (core.cleared p.frame.slots from words) loop (Turns index (core.chained rs kept)))) some)
        worlds
        (tidies_way m i source_then b k x then tidies
        (tidies_hold m i source_then b k w x then tidies worlds live (λ r z.
        let o : ◌≡◌ {A = Access Word} (Found (Refer (Some c))) (Found (Refer r)) = sym fr.spare ∙ z in
        let same : Some c ≡ r = cc in
        subst (λ (o : Option ℕ). Accounted k i x.heap (code.process_names source_then) (Refer o)) same (account_then worlds live))))
