-- While a region is in a new record: what others do leaves it as it is, and two processes hold the same there.
use Rattle.std.proofs.Common.{◌≡◌, ℕ, zero, suc, pos, ◌+◌, ◌*◌, ◌/◌, ◌<◌, ◌≤◌, true, List, [], length, Option, Some, None, refl, sym, ap, ◌∙◌, subst, arith, inl, inr}
use Rattle.std.specs.Prelude.{slice_get}
use Rattle.std.specs.List.{range_with_len}
use Rattle.heap_model.specs.Heap.{at, there, in_one}
use Rattle.heap_model.specs.Facts.{Fact, IsFree, Free}
use Rattle.heap_model.proofs.Alike.{is_inner}
use Rattle.heap_model.proofs.Heap.{there_of}
use Rattle.limbo_types.specs.Types.{Ty}
use Rattle.limbo_layout.specs.Adts.{Has}
use Rattle.limbo_layout.proofs.Rooms.{has_left, has_right}
use Rattle.limbo_typed.specs.Typed as typed
use Rattle.limbo_meaning.specs.Process.{Shared}
use Rattle.core_code.specs.Code.{Instr, Keep}
use Rattle.core_code.specs.Machine as code
use Rattle.core_code.specs.Slots as core
use Rattle.core_code.specs.Slots.{slot_names, region_names, slots_name}
use Rattle.core_typing.specs.Held as held
use Rattle.core_typing.specs.Held.{slots_in}
use Rattle.dis_meaning.specs.Words.{Word, Refer, Access, Found, word_at}
use Rattle.dis_meaning.specs.Process.{Process}
use Rattle.dis_memory.specs.Blocks.{Block, Record, World}
use Rattle.dis_memory.specs.Naming as machine
use Rattle.dis_memory.specs.Naming.{inside}
use Rattle.value_words.proofs.Rows.{below as within_length}
use Rattle.value_words.specs.Facts.{Facts}
use Rattle.value_words.proofs.Bytes.{word_found, word_there}
use Rattle.value_heaps.proofs.Words.{named_by}
use Rattle.value_roots.specs.Accounts as accounts
use Rattle.value_roots.specs.Accounts.{Accounted, AllAccounted, LeadTo, through, to_inner, process_words}
use Rattle.value_roots.proofs.Words.{either, has_counts}
use Rattle.value_frames.specs.Frames.{spare_place, reference_place, turn_references}
use Rattle.value_frames.specs.Standing.{RegionStands, no_slot, more_slots}
use Rattle.value_follows.specs.Stands.{types_of, place_of, Awaited, Stands}
use Rattle.value_follows.specs.Sides.{sides, HoldTheSame}
use Rattle.value_follows.specs.Rooted.{PlaceAccounted}
use Rattle.value_follows.specs.Rows.{Base, AreThere}
use Rattle.value_follows.proofs.RootedSlots.{IsWhole, slot_accounted, slot_leads, in_range}
use Rattle.value_follows.proofs.RootedValues.{word_has, each_accounted}
use Rattle.value_follows.proofs.Slots.{there_below}
use Rattle.rows_turning.proofs.Marks.{second_refers}
use Rattle.rows_chaining.specs.Rows.{IsBare}
use Rattle.rows_chaining.proofs.Chains.{region_stays}
use Rattle.rows_chaining.proofs.Accounts.{slot_within}
use Rattle.rows_chaining.proofs.Over.{Over, over_stands, over_used}
use Rattle.rows_chaining.proofs.Filling.{Filled}

-- ---- what is known of slots, and their blocks, stay the same

module _ (m : typed.Module) (i : ℕ) (p : code.Process) (q : Process) where
  same_over : (k : Facts) (x : World) (busy : List ℕ) (n : ℕ) (f : typed.Function) (j : ℕ) (r : Option ℕ) → (s : Stands m k i x busy Awaited p q)
      → s.is.number ≡ n → s.is.function ≡ f → q.frame.pc ≡ place_of m n f p.frame.pc + j
      → word_at q.frame.words (pos (spare_place m.adts (types_of m f))) ≡ Found (Refer r) → q.made ≡ []
      → (o : Over m k i x busy n f j r p q) × (o.words.own ≡ s.is.words.own) × (o.known ≡ s.is.known)
  same_over k x busy n f j r s a e pc spare made =
      subst (λ (l : ℕ). (q.frame.pc ≡ place_of m l f p.frame.pc + j)
      → (o : Over m k i x busy l f j r p q) × (o.words.own ≡ s.is.words.own) × (o.known ≡ s.is.known)) a
      (λ at. subst (λ (g : typed.Function). (q.frame.pc ≡ place_of m s.is.number g p.frame.pc + j)
      → (word_at q.frame.words (pos (spare_place m.adts (types_of m g))) ≡ Found (Refer r))
      → (o : Over m k i x busy s.is.number g j r p q) × (o.words.own ≡ s.is.words.own) × (o.known ≡ s.is.known)) e
      (λ pc spare. (
        record {
          process = s.number;
          there = s.is.there;
          code = s.is.code;
          answer = s.is.answer;
          many = s.is.many;
          instance = s.is.instance;
          formed = s.is.formed;
          known = s.is.known;
          words = s.is.words;
          mine = s.is.mine;
          fresh = s.is.fresh;
          goes = s.goes;
          waits = s.waits;
          pc = pc;
          spare = spare;
          none_made = made;
        },
        refl,
        refl,
      )) at spare)
      pc

  pub over_kept : (b : Base m) (k now : Facts) (x y : World) (left : (sides m).leaves i k now x y) (holds : HoldTheSame m now i y p q) (busy : List ℕ)
      (n : ℕ) (f : typed.Function) (j : ℕ) (r : Option ℕ) → (over : Over m k i x busy n f j r p q)
      → (o : Over m now i y busy n f j r p q) × (o.words.own ≡ over.words.own) × (o.known ≡ over.known)
  over_kept b k now x y left holds busy n f j r over =
      let later = b.stands_later k now i x y busy Awaited p q (over_stands m k i x busy n f j r p q over) left holds in
      let o = same_over now y busy n f j r later.0 later.1.number later.1.function over.pc over.spare over.none_made in
      (o.0, o.1 ∙ later.1.own, o.2 ∙ later.1.known)

-- what the process made, and refers to, stays as it is
pub made_stays : (m : typed.Module) (i : ℕ) (p : code.Process) (k now : Facts) (x y : World) (q : Process) → (sides m).leaves i k now x y
    → HoldTheSame m now i y p q → (c : ℕ) → 0 < machine.names q c → k.fact c ≡ None → k.maker c ≡ Some i
    → (now.fact c ≡ None) × (at y.heap c ≡ at x.heap c)
made_stays m i p k now x y q left hold c named none made =
    elim (left.0.free c (subst (λ (o : Option (Fact Block)). IsFree o) (sym none) tt) made) [
      | inl w ↦ (w.0 ∙ none, w.1)
      | inr w ↦ absurd (let z = sym (ap there w.1) ∙ hold.same.live c (hold.same.roots c named) in cc)
    ]

-- ---- what a region in a record refers to is accounted for, and its words lead to what it names

region_in : (slots : core.Slots) (count from n : ℕ) → from + count ≤ length slots → 0 < region_names (core.region slots from count) n
    → 0 < slots_name slots n
region_in slots zero from n fits h = absurd (omega (arith, h))
region_in slots (suc c) from n fits h =
    elim (either (slot_names (core.slot slots from) n) (region_names (core.region slots (suc from) c) n) h) [
      | inl u ↦
          let v = slot_within slots from (core.slot slots from) n (there_below slots from core.empty (omega (arith, fits))) in omega (arith, u, v)
      | inr u ↦ region_in slots c (suc from) n (omega (arith, fits)) u
    ]

in_region : (slots : core.Slots) (count from n d : ℕ) → d < count → 0 < slot_names (core.slot slots (from + d)) n
    → 0 < region_names (core.region slots from count) n
in_region slots zero from n d l h = absurd (omega (arith, l))
in_region slots (suc c) from n zero l h =
    let z : from + 0 ≡ from = omega arith in
    let u = subst (λ (s : ℕ). 0 < slot_names (core.slot slots s) n) z h in omega (arith, u)
in_region slots (suc c) from n (suc d) l h =
    let z : from + suc d ≡ suc from + d = omega arith in
    let u = in_region slots c (suc from) n d (omega (arith, l)) (subst (λ (s : ℕ). 0 < slot_names (core.slot slots s) n) z h) in omega (arith, u)

pub known_long : (known : held.Slots) (count from : ℕ) → slots_in (held.region known from count) ≡ count
known_long known zero from = refl
known_long known (suc c) from = ap suc (known_long known c (suc from))

module _ (m : typed.Module) (k : Facts) (w : Shared) (x : World) (worlds : (sides m).worlds k w x) where
  whole : IsWhole k x.heap
  whole = record {
    carriers = λ n d b fact e. (worlds.0.carriers n d b fact e).0;
    closed = λ c b l u. worlds.0.closed.closed c b l u;
  }

  abbrev Live : List Word → Type 0
  Live ws = (d : ℕ) → Has ws (Refer (Some d)) → there (at x.heap d) ≡ true

  region_account : (i : ℕ) (names : ℕ → ℕ) (frame : ℕ) (words : List Word) (p : ℕ) (h : held.Region) (g : core.Region) (own : List ℕ) → Live words
      → ((n : ℕ) → 0 < region_names g n → 0 < names n) → ((d : ℕ) → Has own d → k.maker d ≡ Some i) → RegionStands m.adts k x.heap frame words p h g own
      → (s d : ℕ) → s < slots_in h → word_at words (pos (p + 8 * s + 4)) ≡ Found (Refer (Some d)) → Accounted k i x.heap names (Refer (Some d))
  region_account i names frame _ _ _ _ _ live named made (no_slot words p) s d l e = absurd (omega (arith, l))
  region_account i names frame _ _ _ _ _ live named made (more_slots words p h hs s g own more one others) zero d l e =
      let same : p + 8 * 0 + 4 ≡ p + 4 = omega arith in
      slot_accounted m.adts k x.heap whole i names frame words p (p + 4) h s own live (λ n u. named n (omega (arith, u)))
      (λ q j. made q (has_left own more q j)) one d (ap (λ (j : ℕ). word_at words (pos j)) (sym same) ∙ e)
  region_account i names frame _ _ _ _ _ live named made (more_slots words p h hs s g own more one others) (suc j) d l e =
      let same : p + 8 + 8 * j + 4 ≡ p + 8 * suc j + 4 = omega arith in
      region_account i names frame words (p + 8) hs g more live (λ n u. named n (omega (arith, u))) (λ q y. made q (has_right own more q y)) others j d
      (omega (arith, l)) (ap (λ (y : ℕ). word_at words (pos y)) same ∙ e)

  region_leads : (n frame : ℕ) (words : List Word) (p : ℕ) (h : held.Region) (g : core.Region) (own : List ℕ) → Live words
      → RegionStands m.adts k x.heap frame words p h g own → 0 < region_names g n → LeadTo k x.heap n words
  region_leads n frame _ _ _ _ _ live (no_slot words p) j = absurd (omega (arith, j))
  region_leads n frame _ _ _ _ _ live (more_slots words p h hs s g own more one others) j =
      elim (either (slot_names s n) (region_names g n) j) [
        | inl y ↦ slot_leads m.adts k x.heap whole n frame words p (p + 4) h s own live one y
        | inr y ↦ region_leads n frame words (p + 8) hs g more live others y
      ]

module _ (m : typed.Module) (b : Base m) (loop from words i : ℕ) (p : code.Process) (n : ℕ) (f : typed.Function)
    (here : slice_get p.frame.code p.frame.pc ≡ Some (Keep loop from words))
    (bare : (s : ℕ) → from ≤ s → s < from + words → IsBare (core.slot p.frame.slots s)) where
  abbrev it : Instr
  it = Keep loop from words

  abbrev types : List Ty
  types = types_of m f

  abbrev spare_at : ℕ
  spare_at = spare_place m.adts types

  abbrev region : List ℕ
  region = range_with_len from words

  abbrev New : (busy : List ℕ) (j c : ℕ) (inner : List Word) (k : Facts) (x : World) (q : Process) → Type 0
  New busy j c inner k x q = Filled m b loop from words i p n f here bare busy j c inner k x q

  named_spare : (q : Process) (c : ℕ) → word_at q.frame.words (pos spare_at) ≡ Found (Refer (Some c)) → 0 < machine.names q c
  named_spare q c e =
      let h = named_by q.frame.words (spare_at / 4) c (word_found q.frame.words spare_at (Refer (Some c)) e).1 in omega (arith, h)

  -- others leave such a record as it is
  pub filled_later : (busy : List ℕ) (j c : ℕ) (inner : List Word) (k now : Facts) (x y : World) (q : Process) → (sides m).leaves i k now x y
      → HoldTheSame m now i y p q → New busy j c inner k x q → New busy j c inner now y q
  filled_later busy j c inner k now x y q left hold t =
      let o = over_kept m i p q b k now x y left hold busy n f j (Some c) t.fresh.over in
      let kept = made_stays m i p k now x y q left hold c (named_spare q c t.fresh.over.spare) t.fresh.unknown t.fresh.made in
      record {
        fresh = record {
          over = o.0;
          there = kept.1 ∙ t.fresh.there;
          unknown = kept.0;
          made = left.0.grows.makers c i t.fresh.made;
          formed = left.0.grows.forms c _ t.fresh.formed;
          older = λ s d h. t.fresh.older s d (subst (λ (own : ℕ → List ℕ). Has (own s) d) o.1 h);
        };
        kind = t.kind;
        first = t.first;
        last = t.last;
        region = subst (λ known. RegionStands m.adts now y.heap q.frame.serial inner 8 (held.region known from words) (core.region p.frame.slots from words) [])
            (sym o.2)
            (region_stays m.adts k now x.heap y.heap q.frame.serial left.0.grows inner 8 (held.region t.fresh.over.known from words)
            (core.region p.frame.slots from words) [] t.region (λ d h. absurd h));
      }

  module _ (j c : ℕ) (inner : List Word) (k : Facts) (w : Shared) (x : World) (q : Process) (t : New region j c inner k x q) (worlds : (sides m).worlds k w x)
      (live : AreThere m x q) where
    free : Free k c
    free = subst (λ (o : Option (Fact Block)). IsFree o) (sym t.fresh.unknown) tt

    fits : from + words ≤ length p.frame.slots
    fits = (over_used m k i x region n f j (Some c) p q t.fresh.over it here).1

    inner_live : (d : ℕ) → Has inner (Refer (Some d)) → there (at x.heap d) ≡ true
    inner_live d h =
        worlds.0.closed.closed c d (there_of (at x.heap c) (Record inner) t.fresh.there)
        (subst (λ o. 0 < in_one inside o d) (sym t.fresh.there) (has_counts inner d h))

    named_so : (n : ℕ) → 0 < region_names (core.region p.frame.slots from words) n → 0 < code.process_names p n
    named_so o h = let fit = fits in let u = region_in p.frame.slots words from o fit h in omega (arith, u)

    pub word_account : (s d : ℕ) → s < words → word_at inner (pos (8 + 8 * s + 4)) ≡ Found (Refer (Some d))
        → Accounted k i x.heap (code.process_names p) (Refer (Some d))
    word_account s d l e =
        let long = known_long t.fresh.over.known words from in
        region_account m k w x worlds i (code.process_names p) q.frame.serial inner 8 (held.region t.fresh.over.known from words)
        (core.region p.frame.slots from words) [] inner_live named_so (λ d h. absurd h) t.region s d (omega (arith, l, long)) e

    pub first_account : Accounted k i x.heap (code.process_names p) (Refer (Some c))
    first_account =
        to_inner c (Record inner) (is_inner (k.fact c) free) t.fresh.there (λ u. t.fresh.made)
        (each_accounted k i x.heap (code.process_names p) inner (λ j d e. by_place j d e (t.kind.only j (Some d) e)))
      where
        same_refer : (u v : Option ℕ) → Some (Refer u) ≡ Some (Refer v) → u ≡ v
        same_refer u v e = cc

        by_place : (j d : ℕ) → slice_get inner j ≡ Some (Refer (Some d)) → Has (turn_references words) (4 * j)
            → Accounted k i x.heap (code.process_names p) (Refer (Some d))
        by_place j d e (inl z) =
            let is : j ≡ 0 = omega (arith, z) in
            let o = same_refer None (Some d) (sym (word_found inner 0 (Refer None) t.first).1 ∙ ap (slice_get inner) (sym is) ∙ e) in absurd cc
        by_place j d e (inr (inl z)) =
            let is : j ≡ 1 = omega (arith, z) in
            let o = same_refer None (Some d) (sym (word_found inner 4 (Refer None) t.last).1 ∙ ap (slice_get inner) (sym is) ∙ e) in absurd cc
        by_place j d e (inr (inr h)) =
            let a = second_refers 8 words (4 * j) h in
            let z = a.1 in
            let is : j ≡ (8 + 8 * a.0 + 4) / 4 = omega (arith, z) in
            let many = t.kind.many in
            let long = within_length inner j (Refer (Some d)) e in
            word_account a.0 d (omega (arith, z, many, long))
            (word_there inner (8 + 8 * a.0 + 4) (Refer (Some d)) (omega arith) (ap (slice_get inner) (sym is) ∙ e))

    -- so both hold the same, where what the slots of the region refer to is accounted for
    pub hold_filled : ((s : ℕ) → Has region s → PlaceAccounted m k i x (code.process_names p) q.frame (reference_place m.adts types s)) → HoldTheSame m k i x p q
    hold_filled slots =
        b.holds_on_way k i w x region Awaited p q (over_stands m k i x region n f j (Some c) p q t.fresh.over) worlds live
        (record {
          slots = slots;
          spare = λ r e.
              let z : ◌≡◌ {A = Access Word} (Found (Refer (Some c))) (Found (Refer r)) = sym t.fresh.over.spare ∙ e in
              let same : Some c ≡ r = cc in
              subst (λ (o : Option ℕ). Accounted k i x.heap (code.process_names p) (Refer o)) same first_account;
          made = subst (λ fs. AllAccounted k i x.heap (code.process_names p) (accounts.all_words fs)) (sym t.fresh.over.none_made) accounts.none;
          answer = tt;
        })
        (λ s o h named.
        let r = in_range from words s h in
        let at = r.1 in
        let u = in_region p.frame.slots words from o r.0 r.2 (subst (λ (z : ℕ). 0 < slot_names (core.slot p.frame.slots z) o) at named) in
        through (process_words q) c (Record inner)
        (inr (has_left q.frame.words _ (Refer (Some c)) (word_has q.frame.words spare_at (Refer (Some c)) t.fresh.over.spare))) (is_inner (k.fact c) free)
        t.fresh.there
        (region_leads m k w x worlds o q.frame.serial inner 8 (held.region t.fresh.over.known from words) (core.region p.frame.slots from words) [] inner_live
        t.region u))
