-- What a return with a box does to the heap: a record of the process's own is filled, and is known to carry its words from then on.
use Rattle.std.proofs.Common.{◌≡◌, ◌≢◌, ℕ, zero, suc, ◌<◌, true, List, [], ◌∷◌, Some, None}
use Rattle.std.proofs.Common.{refl, sym, ap, ◌∙◌, subst, arith}
use Rattle.std.specs.Prelude.{slice_set}
use Rattle.std.proofs.lemmas.List.{length-set}
use Rattle.process_model.specs.Follows.{Only}
use Rattle.heap_model.specs.Heap.{Heap, at, there}
use Rattle.heap_model.specs.Facts.{Fact, Named, Carrier, Covers, Learns}
use Rattle.heap_model.specs.Worlds.{Sets}
use Rattle.heap_model.proofs.Heap.{there_is, there_of, within}
use Rattle.heap_model.proofs.Alike.{is_inner, covers_not_inner}
use Rattle.heap_model.proofs.Changes.{set_free, there_on}
use Rattle.heap_model.proofs.Growing.{grows_same, learns_grows, tell}
use Rattle.heap_model.proofs.Building.{with_fact, fact_learns}
use Rattle.limbo_layout.specs.Adts.{Has}
use Rattle.limbo_typed.specs.Typed as typed
use Rattle.limbo_meaning.specs.Process.{Shared}
use Rattle.dis_meaning.specs.Words.{Word, Refer}
use Rattle.dis_meaning.specs.Counts.{in_words}
use Rattle.dis_memory.specs.Blocks.{Block, Record, World, with_changed}
use Rattle.dis_memory.specs.Naming.{inside}
use Rattle.value_words.specs.Facts.{Facts, Grows}
use Rattle.value_heaps.proofs.Words.{named_where}
use Rattle.value_follows.specs.Sides.{contents, sides}
use Rattle.value_follows.proofs.RootedValues.{has_at}

-- ---- a heap in which a block that is there is another one

set_there : {A : Type 0} (h : Heap A) (n : ℕ) (a b : A) → at h n ≡ Some b → Sets h (slice_set h n (Some a)) n (Some a)
set_there {A = A} h n a b e = record { here = here h n e; apart = λ q ne. apart h n q ne }
  where
    here : (h : Heap A) (n : ℕ) → at h n ≡ Some b → at (slice_set h n (Some a)) n ≡ Some a
    here [] n e = absurd cc
    here (o ∷ h) zero e = refl
    here (o ∷ h) (suc n) e = here h n e

    apart : (h : Heap A) (n q : ℕ) → q ≢ n → at (slice_set h n (Some a)) q ≡ at h q
    apart [] n q ne = refl
    apart (o ∷ h) zero zero ne = absurd (ne refl)
    apart (o ∷ h) zero (suc q) ne = refl
    apart (o ∷ h) (suc n) zero ne = refl
    apart (o ∷ h) (suc n) (suc q) ne = apart h n q (λ e. ne (ap suc e))

has_named : (ws : List Word) (c : ℕ) → 0 < in_words c ws → Has ws (Refer (Some c))
has_named ws c h = let w = named_where ws c h in has_at ws w.0 (Refer (Some c)) w.1

-- ---- one that the process made gets other words

module _ (m : typed.Module) (i : ℕ) (k : Facts) (w : Shared) (x : World) (c : ℕ) (inner others : List Word) (worlds : (sides m).worlds k w x)
    (there_so : at x.heap c ≡ Some (Record inner)) (unknown : k.fact c ≡ None) (made : k.maker c ≡ Some i)
    (live : (d : ℕ) → Has others (Refer (Some d)) → there (at x.heap d) ≡ true) (named : ℕ → Type 0)
    (covered : (d : ℕ) → Has others (Refer (Some d)) → Covers k named d) where
  abbrev pub with_other : World
  with_other = with_changed x c (Record others)

  pub filled_sets : Sets x.heap with_other.heap c (Some (Record others))
  filled_sets = set_there x.heap c (Record others) (Record inner) there_so

  pub other_is : at with_other.heap c ≡ Some (Record others)
  other_is = filled_sets.here

  pub other_worlds : (sides m).worlds k w with_other
  other_worlds = (
    set_free (contents m) k w.heap x.heap with_other.heap c (Record others) worlds.0 unknown
        (let e = length-set x.heap c (Some (Record others)) in omega (arith, e))
        (let e = length-set x.heap c (Some (Record others)) in
        let l = within x.heap c (ap there there_so) in omega (arith, e, l))
        filled_sets
        (λ d h. live d (has_named others d h))
        (λ d f h. absurd (covers_not_inner k named d (is_inner _ f) (covered d (has_named others d h)))),
    worlds.1,
  )

  pub other_changes : (sides m).changes (Only i) k k x with_other
  other_changes = (
    record {
      grows = grows_same k;
      there = λ d b e. there_is (at with_other.heap d) (there_on x.heap with_other.heap c (Record others) filled_sets d (there_of (at x.heap d) b e));
      free = λ d j f e ne. (refl, filled_sets.apart d (λ z. ne (let y : Some i ≡ Some j = sym made ∙ (ap k.maker (sym z) ∙ e) in cc)));
      carriers = λ d b e. filled_sets.apart d (λ z. let y : None ≡ Some (Carrier b) = sym unknown ∙ (ap k.fact (sym z) ∙ e) in absurd cc);
    },
    omega arith,
  )

-- ---- it carries what it has for good

module _ (m : typed.Module) (i : ℕ) (k : Facts) (w : Shared) (x : World) (c : ℕ) (inner : List Word) (worlds : (sides m).worlds k w x)
    (there_so : at x.heap c ≡ Some (Record inner)) (unknown : k.fact c ≡ None) (made : k.maker c ≡ Some i) (named : ℕ → Type 0)
    (covered : (d : ℕ) → Has inner (Refer (Some d)) → Covers k named d) where
  pub no_name : (n : ℕ) → ◌≡◌ {A = Fact Block} (Carrier (Record inner)) (Named n) → ⊥
  no_name n e = absurd cc

  abbrev pub telling : Facts
  telling = with_fact k c (Carrier (Record inner)) no_name

  pub learns : Learns k telling c (Carrier (Record inner))
  learns = fact_learns k c (Carrier (Record inner)) no_name unknown

  pub told_so : telling.fact c ≡ Some (Carrier (Record inner))
  told_so = learns.now

  pub told_grows : Grows k telling
  told_grows = learns_grows k telling c (Carrier (Record inner)) learns

  pub told_worlds : (sides m).worlds telling w x
  told_worlds = (
    tell (contents m) k telling w.heap x.heap c (Carrier (Record inner)) worlds.0 learns (within x.heap c (ap there there_so)) no_name (λ e. cc)
        (λ t b e f. absurd cc) (λ n s l b e f. absurd cc)
        (λ d b e f. (
          let y : Some (Record inner) ≡ Some b = sym there_so ∙ f in
              let z : Record inner ≡ d = cc in let v : Record inner ≡ b = cc in sym v ∙ z,
          λ u h g.
              let z : Record inner ≡ d = cc in
              covers_not_inner k named u g (covered u (has_named inner u (subst (λ o. 0 < inside o u) (sym z) h))),
        )),
    worlds.1,
  )

  pub told_changes : (sides m).changes (Only i) k telling x x
  told_changes = (
    record {
      grows = told_grows;
      there = λ d b e. (b, e);
      free = λ d j f e ne. (learns.apart d (λ z. ne (let y : Some i ≡ Some j = sym made ∙ (ap k.maker (sym z) ∙ e) in cc)), refl);
      carriers = λ d b e. refl;
    },
    omega arith,
  )
