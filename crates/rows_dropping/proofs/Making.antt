-- What the instructions of such a row do to the heap: a record is made, it is filled, and it is known as what carries a value from then on.
use Rattle.std.proofs.Common.{◌≡◌, ◌≢◌, ℕ, pos, ◌<◌, true, List, length, Option, Some, None}
use Rattle.std.proofs.Common.{refl, sym, ap, ◌∙◌, subst, arith}
use Rattle.std.proofs.lemmas.List.{length-set}
use Rattle.process_model.specs.Follows.{Only}
use Rattle.heap_model.specs.Heap.{at, there}
use Rattle.heap_model.specs.Facts.{Fact, Named, Carrier, IsUnmade, IsFree, Free, Covers, Learns}
use Rattle.heap_model.specs.Worlds.{Sets}
use Rattle.heap_model.proofs.Heap.{there_is, there_of, within}
use Rattle.heap_model.proofs.Alike.{is_inner, covers_not_inner}
use Rattle.heap_model.proofs.Changes.{set_free, there_on}
use Rattle.heap_model.proofs.Growing.{grows_same, learns_grows, tell}
use Rattle.heap_model.proofs.Building.{with_maker, maker_is, form_is, maker_grows, maker_world, with_fact, fact_learns}
use Rattle.heap_model.proofs.Made.{last_sets, last_length}
use Rattle.limbo_layout.specs.Adts.{Has}
use Rattle.limbo_typed.specs.Typed as typed
use Rattle.limbo_meaning.specs.Process.{Shared}
use Rattle.core_code.specs.Machine as code
use Rattle.core_typing.specs.Held as held
use Rattle.dis_meaning.specs.Words.{Word, Refer, Found, word_at}
use Rattle.dis_meaning.specs.Counts.{in_words}
use Rattle.dis_meaning.specs.Process.{Process}
use Rattle.dis_memory.specs.Blocks.{Block, Record, World, with_block, with_changed}
use Rattle.dis_memory.specs.Naming.{inside}
use Rattle.value_words.specs.Forms.{OwnedBy}
use Rattle.value_words.specs.Facts.{Facts, Grows}
use Rattle.value_roots.specs.Accounts.{Accounted, AllAccounted, none, to_value, to_inner, all_words}
use Rattle.value_heaps.proofs.Words.{named_where}
use Rattle.value_frames.specs.Frames.{spare_place, reference_place}
use Rattle.value_follows.specs.Stands.{types_of, Awaited}
use Rattle.value_follows.specs.Rooted.{BusyLead, PlaceAccounted}
use Rattle.value_follows.specs.Sides.{contents, sides, HoldTheSame}
use Rattle.value_follows.specs.Rows.{Base, AreThere}
use Rattle.value_follows.proofs.RootedValues.{has_at, each_accounted}
use Rattle.rows_dropping.proofs.Spare.{set_there, OnWay, Mine, free_so, Changed}

-- ---- what such a record refers to

has_named : (ws : List Word) (c : ℕ) → 0 < in_words c ws → Has ws (Refer (Some c))
has_named ws c h = let w = named_where ws c h in has_at ws w.0 (Refer (Some c)) w.1

module _ (m : typed.Module) (i : ℕ) (p : code.Process) (k : Facts) (x : World) (q : Process) where
  -- it is accounted for
  pub mine_accounted : (own : ℕ → List ℕ) (place : ℕ) (so_far : Facts → List Word → Type 0) → Mine m i p own place so_far k x q → (r : Option ℕ)
      → word_at q.frame.words (pos place) ≡ Found (Refer r) → Accounted k i x.heap (code.process_names p) (Refer r)
  mine_accounted own place so_far c r e =
      let same : Some c.block ≡ r = let z : Found (Refer (Some c.block)) ≡ Found (Refer r) = sym c.word ∙ e in cc in
      subst (λ o. Accounted k i x.heap (code.process_names p) (Refer o)) same
      (to_inner c.block (Record c.inner) (is_inner _ (free_so m i p k c.block c.unknown)) c.there (λ f. c.made)
      (each_accounted k i x.heap (code.process_names p) c.inner (λ j d g. to_value d (c.covered d (has_at c.inner j (Refer (Some d)) g)))))

  -- The two hold the same on their way, where what the busy slots and the spare word refer to is accounted for.
  pub holds : (b : Base m) (w : Shared) (known : held.Slots) (busy : List ℕ) (far : ℕ) (s : OnWay m i p known busy far k x q) → (sides m).worlds k w x
      → AreThere m x q
      → ((u : ℕ) → Has busy u → PlaceAccounted m k i x (code.process_names p) q.frame (reference_place m.adts (types_of m s.stands.is.function) u))
      → PlaceAccounted m k i x (code.process_names p) q.frame (spare_place m.adts (types_of m s.stands.is.function))
      → BusyLead m k i x busy p q → HoldTheSame m k i x p q
  holds b w known busy far s worlds live slots spare lead =
      b.holds_on_way k i w x busy Awaited p q s.stands worlds live
      (record {
        slots = slots;
        spare = spare;
        made = subst (λ fs. AllAccounted k i x.heap (code.process_names p) (all_words fs)) (sym s.none_made) none;
        answer = tt;
      })
      lead

-- ---- a record is made

module _ (m : typed.Module) (i : ℕ) (k : Facts) (w : Shared) (x : World) (serial : ℕ) (words : List Word) (worlds : (sides m).worlds k w x)
    (bare : (c : ℕ) → Has words (Refer (Some c)) → ⊥) where
  abbrev pub new : ℕ
  new = length x.heap

  abbrev pub making : Facts
  making = with_maker k new i (Some (OwnedBy serial))

  abbrev pub with_new : World
  with_new = with_block x (Record words)

  pub unmade : IsUnmade k new
  unmade = worlds.0.unmade new (omega arith)

  sets : Sets x.heap with_new.heap new (Some (Record words))
  sets = last_sets x.heap (Record words)

  more : new < length with_new.heap
  more = let e = last_length x.heap (Record words) in omega (arith, e)

  none_named : (c : ℕ) → 0 < inside (Record words) c → ⊥
  none_named c h = bare c (has_named words c h)

  pub new_is : at with_new.heap new ≡ Some (Record words)
  new_is = sets.here

  pub new_apart : (c : ℕ) → c ≢ new → at with_new.heap c ≡ at x.heap c
  new_apart c ne = sets.apart c ne

  pub new_made : making.maker new ≡ Some i
  new_made = maker_is k new i (Some (OwnedBy serial))

  pub new_formed : making.form new ≡ Some (OwnedBy serial)
  new_formed = form_is k new i (Some (OwnedBy serial))

  pub new_grows : Grows k making
  new_grows = maker_grows k new i (Some (OwnedBy serial)) unmade

  pub new_worlds : (sides m).worlds making w with_new
  new_worlds = (
    maker_world (contents m) k new i (Some (OwnedBy serial)) w.heap with_new.heap unmade more
        (set_free (contents m) k w.heap x.heap with_new.heap new (Record words) worlds.0 unmade.fact (omega (arith, more)) more sets
        (λ c h. absurd (none_named c h)) (λ c f h. absurd (none_named c h))),
    worlds.1,
  )
    where
      free_unmade : Free k new
      free_unmade = subst (λ (o : Option (Fact Block)). IsFree o) (sym unmade.fact) tt

  other : (c j : ℕ) → k.maker c ≡ Some j → c ≢ new
  other c j e z = let y : None ≡ Some j = sym unmade.maker ∙ (ap k.maker (sym z) ∙ e) in absurd cc

  pub new_changes : (sides m).changes (Only i) k making x with_new
  new_changes = (
    record {
      grows = new_grows;
      there = λ c b e. there_is (at with_new.heap c) (there_on x.heap with_new.heap new (Record words) sets c (there_of (at x.heap c) b e));
      free = λ c j f e ne. (refl, sets.apart c (other c j e));
      carriers = λ c b e. sets.apart c (λ z. let y : None ≡ Some (Carrier b) = sym unmade.fact ∙ (ap k.fact (sym z) ∙ e) in absurd cc);
    },
    omega arith,
  )

  pub new_changed : (p : code.Process) (own : ℕ → List ℕ) → ((s c : ℕ) → Has (own s) c → k.maker c ≡ Some i) → Changed m i p own serial new k making x with_new
  new_changed p own made = record {
    grows = new_grows;
    more = omega arith;
    keeps = λ b free e ne. (free, sets.apart b ne);
    facts = λ b ne. refl;
    apart = λ s h. other new i (made s new h) refl;
    other = λ e. absurd (other new i e refl);
  }

-- ---- one that the process made gets other words

module _ (m : typed.Module) (i : ℕ) (k : Facts) (w : Shared) (x : World) (c : ℕ) (inner others : List Word) (worlds : (sides m).worlds k w x)
    (there_so : at x.heap c ≡ Some (Record inner)) (unknown : k.fact c ≡ None) (made : k.maker c ≡ Some i)
    (live : (d : ℕ) → Has others (Refer (Some d)) → there (at x.heap d) ≡ true) (named : ℕ → Type 0)
    (covered : (d : ℕ) → Has others (Refer (Some d)) → Covers k named d) where
  abbrev pub with_other : World
  with_other = with_changed x c (Record others)

  filled_sets : Sets x.heap with_other.heap c (Some (Record others))
  filled_sets = set_there x.heap c (Record others) (Record inner) there_so

  pub other_is : at with_other.heap c ≡ Some (Record others)
  other_is = filled_sets.here

  pub other_worlds : (sides m).worlds k w with_other
  other_worlds = (
    set_free (contents m) k w.heap x.heap with_other.heap c (Record others) worlds.0 unknown
        (let e = length-set x.heap c (Some (Record others)) in omega (arith, e))
        (let e = length-set x.heap c (Some (Record others)) in
        let l = within x.heap c (ap there there_so) in omega (arith, e, l))
        filled_sets
        (λ d h. live d (has_named others d h))
        (λ d f h. absurd (covers_not_inner k named d (is_inner _ f) (covered d (has_named others d h)))),
    worlds.1,
  )

  pub other_changes : (sides m).changes (Only i) k k x with_other
  other_changes = (
    record {
      grows = grows_same k;
      there = λ d b e. there_is (at with_other.heap d) (there_on x.heap with_other.heap c (Record others) filled_sets d (there_of (at x.heap d) b e));
      free = λ d j f e ne. (refl, filled_sets.apart d (λ z. ne (let y : Some i ≡ Some j = sym made ∙ (ap k.maker (sym z) ∙ e) in cc)));
      carriers = λ d b e. filled_sets.apart d (λ z. let y : None ≡ Some (Carrier b) = sym unknown ∙ (ap k.fact (sym z) ∙ e) in absurd cc);
    },
    omega arith,
  )

  pub other_changed : (p : code.Process) (own : ℕ → List ℕ) (serial : ℕ) → ((s : ℕ) → Has (own s) c → ⊥) → k.form c ≡ Some (OwnedBy serial)
      → Changed m i p own serial c k k x with_other
  other_changed p own serial apart formed = record {
    grows = grows_same k;
    more = omega arith;
    keeps = λ b free e ne. (free, filled_sets.apart b ne);
    facts = λ b ne. refl;
    apart = apart;
    other = λ e. formed;
  }

-- ---- it carries what it has for good

module _ (m : typed.Module) (i : ℕ) (k : Facts) (w : Shared) (x : World) (c : ℕ) (inner : List Word) (worlds : (sides m).worlds k w x)
    (there_so : at x.heap c ≡ Some (Record inner)) (unknown : k.fact c ≡ None) (made : k.maker c ≡ Some i) (named : ℕ → Type 0)
    (covered : (d : ℕ) → Has inner (Refer (Some d)) → Covers k named d) where
  pub no_name : (n : ℕ) → ◌≡◌ {A = Fact Block} (Carrier (Record inner)) (Named n) → ⊥
  no_name n e = absurd cc

  abbrev pub telling : Facts
  telling = with_fact k c (Carrier (Record inner)) no_name

  learns : Learns k telling c (Carrier (Record inner))
  learns = fact_learns k c (Carrier (Record inner)) no_name unknown

  pub told_so : telling.fact c ≡ Some (Carrier (Record inner))
  told_so = learns.now

  pub told_grows : Grows k telling
  told_grows = learns_grows k telling c (Carrier (Record inner)) learns

  pub told_worlds : (sides m).worlds telling w x
  told_worlds = (
    tell (contents m) k telling w.heap x.heap c (Carrier (Record inner)) worlds.0 learns (within x.heap c (ap there there_so)) no_name (λ e. cc)
        (λ t b e f. absurd cc) (λ n s l b e f. absurd cc)
        (λ d b e f. (
          let y : Some (Record inner) ≡ Some b = sym there_so ∙ f in
              let z : Record inner ≡ d = cc in let v : Record inner ≡ b = cc in sym v ∙ z,
          λ u h g.
              let z : Record inner ≡ d = cc in
              covers_not_inner k named u g (covered u (has_named inner u (subst (λ o. 0 < inside o u) (sym z) h))),
        )),
    worlds.1,
  )

  pub told_changes : (sides m).changes (Only i) k telling x x
  told_changes = (
    record {
      grows = told_grows;
      there = λ d b e. (b, e);
      free = λ d j f e ne. (learns.apart d (λ z. ne (let y : Some i ≡ Some j = sym made ∙ (ap k.maker (sym z) ∙ e) in cc)), refl);
      carriers = λ d b e. refl;
    },
    omega arith,
  )

  pub told_changed : (p : code.Process) (own : ℕ → List ℕ) (serial : ℕ) → ((s : ℕ) → Has (own s) c → ⊥) → k.form c ≡ Some (OwnedBy serial)
      → Changed m i p own serial c k telling x x
  told_changed p own serial apart formed = record {
    grows = told_grows;
    more = omega arith;
    keeps = λ b free e ne. (subst (λ (o : Option (Fact Block)). IsFree o) (sym (learns.apart b ne)) free, refl);
    facts = λ b ne. learns.apart b ne;
    apart = apart;
    other = λ e. formed;
  }
