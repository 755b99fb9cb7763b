-- What stands after a word was stored.
use Rattle.std.proofs.Common.{◌≡◌, ℕ, ◌+◌, true, false, [], ◌∷◌, map, Option, Some, None, ◌⊎◌, inl, inr, refl, sym, ap, ◌∙◌, subst, arith}
use Rattle.std.specs.Option.{option_map}
use Rattle.std.proofs.lemmas.Bool.{cases_eq}
use Rattle.ref_heap.specs.declared.word.Word as code_word
use Rattle.ref_heap.specs.Words.{cell_of, is_reference, naming}
use Rattle.ref_heap.specs.Store.{Block, Store, IsHeap, IsLive, AreHeld, at, outside, with_block, one_more}
use Rattle.ref_heap.specs.Drops.{Drops, IsPart, IsSameBut}
use Rattle.ref_heap.proofs.Put.{at_with_block}
use Rattle.heap_cuts.specs.Shapes.{Shape, shape_of, shapes}
use Rattle.heap_cuts.proofs.Listed.{held_shapes}
use Rattle.dis_meaning.specs.Words.{Word, fits}
use Rattle.dis_meaning.specs.Process as view
use Rattle.dis_meaning.specs.Places.{Spot}
use Rattle.dis_memory.specs.Blocks as blocks
use Rattle.dis_memory.specs.Places as places
use Rattle.dis_places.specs.Blocks.{view_shape, view_heap, is_proper, AreProper}
use Rattle.dis_memory.specs.Naming.{names}
use Rattle.dis_places.specs.declared.memory.Memory.{Memory}
use Rattle.dis_places.specs.declared.process.Process.{Process}
use Rattle.dis_places.specs.View.{view_process, view_world}
use Rattle.dis_places.specs.Words.{view_word}
use Rattle.dis_stores.specs.Storing.{named, rested, Exchanges, SameShapes, Settles}
use Rattle.dis_stores.proofs.Cuts.{view_uncut, view_cut, plain_named, stood_alike}

pub plain_settles : (m m' : Memory) (p p' : Process) (new old : code_word.Word) → IsHeap m'.heap → is_reference (cell_of new) ≡ false →
    fits (view_word old) (view_word new) ≡ true → Exchanges m p m' p' new old → m'.tables ≡ m.tables → Settles m p (view_world m') m' p'
plain_settles m m' p p' new old ok plain fit e tables = record {
  held = λ n.
      let a = e n in let b = plain_named new n plain in let c = plain_named old n (stood_alike new old fit ∙ plain) in
      omega (arith, a, b, c);
  heap = view_uncut m'.tables m'.heap ok m'.proper;
  outer = refl;
  tables = tables;
}

-- One more reference to a block leaves the blocks as they are.
pub hold_same : (h h' : Store) (k : ℕ) (l : IsLive h k) → h' ≡ with_block h k (one_more l.block) → SameShapes h h'
hold_same h h' k l e = record {
  shapes = ap shapes e ∙ held_shapes h k l.block l.live;
  each = λ n. ap (λ h. option_map shape_of (at h n)) e ∙ go n (cases_eq n k);
}
  where
    go : (n : ℕ) → (n ≡ k) ⊎ (n ≡ k → ⊥) → option_map shape_of (at (with_block h k (one_more l.block)) n) ≡ option_map shape_of (at h n)
    go n (inl same) =
        ap (λ n. option_map shape_of (at (with_block h k (one_more l.block)) n)) same
        ∙ ap (option_map shape_of) ((at_with_block h k (one_more l.block)).here ∙ refl)
        ∙ ap (option_map shape_of) (sym l.live) ∙ ap (λ n. option_map shape_of (at h n)) (sym same)
    go n (inr ne) = ap (option_map shape_of) ((at_with_block h k (one_more l.block)).apart n ne)

pub same_stays : (h : Store) → SameShapes h h
same_stays h = record { shapes = refl; each = λ n. refl }

-- What blocks hold by their kinds, they hold whatever their counts.
pub same_proper : (h h' : Store) → SameShapes h h' → AreProper h → AreProper h'
same_proper h h' s p n b e = go (at h n) refl
  where
    go : (o : Option Block) → at h n ≡ o → is_proper b.kind b.content ≡ true
    go None there = let a : Some (shape_of b) ≡ None = ap (option_map shape_of) (sym e) ∙ s.each n ∙ ap (option_map shape_of) there in absurd cc
    go (Some c) there =
        let a : Some (shape_of b) ≡ Some (shape_of c) = ap (option_map shape_of) (sym e) ∙ s.each n ∙ ap (option_map shape_of) there in
        let same : shape_of b ≡ shape_of c = cc in
        ap (λ (s : Shape). is_proper s.0 s.1) same ∙ p n c there

pub part_proper : (h h' : Store) → IsPart (at h') (at h) → AreProper h → AreProper h'
part_proper h h' part p n b e = go (at h n) refl (subst (λ o. IsSameBut o (at h n)) e (part n))
  where
    go : (o : Option Block) → at h n ≡ o → IsSameBut (Some b) (at h n) → is_proper b.kind b.content ≡ true
    go None there same = absurd (subst (IsSameBut (Some b)) there same)
    go (Some c) there same =
        let alike = subst (IsSameBut (Some b)) there same in
        ap (λ k. is_proper k b.content) alike.1 ∙ ap (is_proper c.kind) alike.0 ∙ p n c there

-- What was let go is among what is held.
pub was_held : (m m2 : Memory) (p p' : Process) (h1 : Store) (new was : code_word.Word) → AreHeld m.heap (names (view_process p)) →
    ((n : ℕ) → outside h1 n ≡ outside m.heap n + named new n) →
    ((n : ℕ) → outside m2.heap n + names (view_process p) n + named new n ≡ outside h1 n + names (view_process p') n + named was n) →
    AreHeld m2.heap (naming (map cell_of (was ∷ [])))
was_held m m2 p p' h1 new was held more e n = let a = held n in let b = more n in let c = e n in omega (arith, a, b, c)

pub reference_settles : (m m2 : Memory) (p p' : Process) (h1 h3 : Store) (new was : code_word.Word) (proper : AreProper h3) →
    IsHeap m2.heap → AreHeld m.heap (names (view_process p)) →
    ((n : ℕ) → outside h1 n ≡ outside m.heap n + named new n) →
    ((n : ℕ) → outside m2.heap n + names (view_process p) n + named new n ≡ outside h1 n + names (view_process p') n + named was n) →
    m2.tables ≡ m.tables → Drops m2.heap h3 (naming (map cell_of (was ∷ []))) → h3.made ≡ m2.heap.made →
    ((n : ℕ) → outside h3 n + naming (map cell_of (was ∷ [])) n ≡ outside m2.heap n) →
    Settles m p (view_world m2) (record { heap = h3; tables = m2.tables; frames = m2.frames; outside = m2.outside; proper = proper }) p'
reference_settles m m2 p p' h1 h3 new was proper ok held more e tables drops made out = record {
  held = λ n. let b = more n in let c = e n in let d = out n in omega (arith, b, c, d);
  heap =
      view_cut m2.tables m2.heap h3 (naming (map cell_of (was ∷ [])))
      (record { heap = ok; held = was_held m m2 p p' h1 new was held more e; drops = drops; made = made }) m2.proper;
  outer = refl;
  tables = tables;
}

-- Where the blocks are the same, so is what a store comes to.
pub same_store : (m : Memory) (h1 : Store) (p : view.Process) (s : Spot) (w : Word) → SameShapes m.heap h1 →
    rested (places.store (view_world m) p s w) ≡ rested (places.store (blocks.with_heap (view_world m) (view_heap m.tables h1)) p s w)
same_store m h1 p s w same =
    ap (λ hs. rested (places.store (blocks.with_heap (view_world m) (map (option_map (view_shape m.tables)) hs)) p s w)) (sym same.shapes)
