-- What is stored where words meet those of their kind.
use Rattle.std.proofs.Common.{◌≡◌, ℕ, ◌+◌, List, refl, sym, ap, ◌∙◌, arith}
use Rattle.dis_meaning.specs.Words.{Word, Access, Found, Wrong, Raises, ◌>>=◌}
use Rattle.dis_meaning.specs.Process.{Process}
use Rattle.dis_meaning.specs.Places.{Spot}
use Rattle.dis_memory.specs.Blocks.{World}
use Rattle.dis_memory.specs.Copies.{put}
use Rattle.dis_memory.specs.Places.{words_at, with_words_at}
use Rattle.std.specs.Option.{option_map}
use Rattle.std.specs.Prelude.{map, true}
use Rattle.heap_model.specs.Heap.{Heap, stays}
use Rattle.heap_cuts.proofs.Told.{stays_same}
use Rattle.ref_heap.specs.declared.word.Word as code_word
use Rattle.ref_heap.specs.Store.{Store, IsHeap, outside}
use Rattle.ref_heap.specs.Drops.{Drops}
use Rattle.system_model.specs.World as outer
use Rattle.sys_print.specs.Worlds.{view_world as view_outside}
use Rattle.dis_memory.specs.Blocks as blocks
use Rattle.dis_memory.specs.Naming.{inside, names}
use Rattle.dis_places.specs.declared.memory.Memory as code_memory
use Rattle.dis_places.specs.declared.process.Process as code_process
use Rattle.dis_places.specs.Blocks.{view_shape, view_heap, AreProper}
use Rattle.dis_places.specs.View.{view_process, view_world}
use Rattle.dis_places.specs.Words.{view_words}
use Rattle.dis_stores.specs.Storing.{rested, SameShapes, Settles}
use Rattle.dis_stores.proofs.Cuts.{view_cut, view_uncut}
use Rattle.dis_blocks.specs.Making.{Untouched}
use Rattle.dis_copies.specs.Spans.{kinds, meets, meets_at, none_refers, over, over_at, put_at, ExchangesAll}
use Rattle.dis_copies.proofs.Turns.{bare_as, plain_bare}
use Rattle.dis_copies.proofs.Overs.{put_over}

-- They are put, where each meets one of its kind.
as_meets : (x : World) (p : Process) (s : Spot) (from : ℕ) (vs : List Word) → put_at x p s from vs ≡ (words_at x p s >>= λ ws. meets ws from vs >>= λ u. with_words_at x p s (over ws from vs))
as_meets x p s from vs = go (words_at x p s)
  where
    then : (ws : List Word) (a : Access (Unit {0})) → (a >>= (λ u. Found (over ws from vs)) >>= with_words_at x p s) ≡ (a >>= λ u. with_words_at x p s (over ws from vs))
    then ws (Found u) = refl
    then ws (Wrong n) = refl
    then ws (Raises text) = refl

    go : (a : Access (List Word)) → (a >>= λ ws. put ws from vs >>= with_words_at x p s) ≡ (a >>= λ ws. meets ws from vs >>= λ u. with_words_at x p s (over ws from vs))
    go (Found ws) = ap (λ a. a >>= with_words_at x p s) (put_over ws from vs) ∙ then ws (meets ws from vs)
    go (Wrong n) = refl
    go (Raises text) = refl

pub put_wrong : (x : World) (p : Process) (s : Spot) (from : ℕ) (vs : List Word) (n : ℕ) → meets_at x p s from vs ≡ Wrong n → rested (put_at x p s from vs) ≡ Wrong n
put_wrong x p s from vs n e = ap rested (as_meets x p s from vs) ∙ go (words_at x p s) e
  where
    then : (ws : List Word) (a : Access (Unit {0})) → a ≡ Wrong n → rested (a >>= λ u. with_words_at x p s (over ws from vs)) ≡ Wrong n
    then ws a e = ap (λ a. rested (a >>= λ u. with_words_at x p s (over ws from vs))) e

    go : (a : Access (List Word)) → (a >>= λ ws. meets ws from vs) ≡ Wrong n → rested (a >>= λ ws. meets ws from vs >>= λ u. with_words_at x p s (over ws from vs)) ≡ Wrong n
    go (Found ws) e = then ws (meets ws from vs) e
    go (Wrong m) e = let same : m ≡ n = cc in ap Wrong same
    go (Raises text) e = absurd cc

pub put_met : (x : World) (p : Process) (s : Spot) (from : ℕ) (vs : List Word) → meets_at x p s from vs ≡ Found tt → put_at x p s from vs ≡ over_at x p s from vs
put_met x p s from vs e = as_meets x p s from vs ∙ go (words_at x p s) e
  where
    go : (a : Access (List Word)) → (a >>= λ ws. meets ws from vs) ≡ Found tt → (a >>= λ ws. meets ws from vs >>= λ u. with_words_at x p s (over ws from vs)) ≡ (a >>= λ ws. with_words_at x p s (over ws from vs))
    go (Found ws) e = ap (λ a. a >>= λ u. with_words_at x p s (over ws from vs)) e
    go (Wrong m) e = refl
    go (Raises text) e = refl

-- ---- what is let go

pub words_settle : (m m2 : code_memory.Memory) (p p' : code_process.Process) (h1 h3 : Store) (new was : ℕ → ℕ) (proper : AreProper h3) → IsHeap m2.heap →
    ((n : ℕ) → outside h1 n ≡ outside m.heap n + new n) →
    ((n : ℕ) → outside m2.heap n + names (view_process p) n + new n ≡ outside h1 n + names (view_process p') n + was n) →
    m2.tables ≡ m.tables → Drops m2.heap h3 was → h3.made ≡ m2.heap.made → ((n : ℕ) → outside h3 n + was n ≡ outside m2.heap n) →
    Settles m p (view_world m2) (record { heap = h3; tables = m2.tables; frames = m2.frames; outside = m2.outside; proper = proper }) p'
words_settle m m2 p p' h1 h3 new was proper ok more e tables drops made out = record {
  held = λ n. let b = more n in let c = e n in let d = out n in omega (arith, b, c, d);
  heap =
      view_cut m2.tables m2.heap h3 was
      (record { heap = ok; held = λ n. let d = out n in omega (arith, d); drops = drops; made = made }) m2.proper;
  outer = refl;
  tables = tables;
}

-- Where nothing was named by what went over, nor by what stood there.
pub plain_settle : (m m2 : code_memory.Memory) (p p' : code_process.Process) (new was : List code_word.Word) → IsHeap m2.heap → none_refers (view_words new) ≡ true →
    kinds (view_words was) ≡ kinds (view_words new) → ExchangesAll m p m2 p' new was → m2.tables ≡ m.tables → Settles m p (view_world m2) m2 p'
plain_settle m m2 p p' new was ok plain same e tables = record {
  held = λ n. let a = e n in let b = plain_bare new plain n in let c = bare_as was new plain same n in omega (arith, a, b, c);
  heap = view_uncut m2.tables m2.heap ok m2.proper;
  outer = refl;
  tables = tables;
}

-- Where the blocks are the same, so is what is put over others.
pub same_put : (m : code_memory.Memory) (h1 : Store) (p : Process) (s : Spot) (from : ℕ) (vs : List Word) → SameShapes m.heap h1 →
    rested (put_at (view_world m) p s from vs) ≡ rested (put_at (blocks.with_heap (view_world m) (view_heap m.tables h1)) p s from vs)
same_put m h1 p s from vs same =
    ap (λ hs. rested (put_at (blocks.with_heap (view_world m) (map (option_map (view_shape m.tables)) hs)) p s from vs)) (sym same.shapes)

abbrev with_outer : Heap blocks.Block → ℕ → outer.World → World
with_outer h f o = record { heap = h; outside = record { frames = f; outside = o } }

-- What was held for words is let go again.
pub untouched : (m n : code_memory.Memory) (p p' : code_process.Process) (h1 h3 : Store) (given : ℕ → ℕ) (proper : AreProper h3) → IsHeap m.heap → IsHeap n.heap →
    n.tables ≡ m.tables → n.frames ≡ m.frames → n.outside ≡ m.outside → n.heap ≡ h1 → p' ≡ p →
    SameShapes m.heap h1 → ((k : ℕ) → outside h1 k ≡ outside m.heap k + given k) →
    Drops n.heap h3 given → h3.made ≡ n.heap.made → ((k : ℕ) → outside h3 k + given k ≡ outside n.heap k) →
    Untouched m p (record { heap = h3; tables = n.tables; frames = n.frames; outside = n.outside; proper = proper }) p'
untouched m n p p' h1 h3 given proper ok ok1 tables frames rest is same_process same more drops made_same out =
    let back : (k : ℕ) → outside h3 k ≡ outside m.heap k =
    (λ k. let a = out k in let b = more k in let c = ap (λ h. outside h k) is in omega (arith, a, b, c)) in
    let heap : view_heap n.tables h3 ≡ view_heap m.tables m.heap =
    ap (λ t. view_heap t h3) tables
    ∙ view_cut m.tables n.heap h3 given
    (record { heap = ok1; held = λ k. let a = out k in omega (arith, a); drops = drops; made = made_same }) n.proper
    ∙ ap (λ h. stays inside (outside h3) (view_heap m.tables h)) is
    ∙ ap (λ hs. stays inside (outside h3) (map (option_map (view_shape m.tables)) hs)) same.shapes
    ∙ stays_same inside (outside h3) (outside m.heap) (view_heap m.tables m.heap) back
    ∙ sym (view_uncut m.tables m.heap ok m.proper) in
    record {
      world =
          ap (λ h. blocks.with_heap (view_world (record { heap = h3; tables = n.tables; frames = n.frames; outside = n.outside; proper = proper })) h) heap
          ∙ ap (λ f. with_outer (view_heap m.tables m.heap) f (view_outside n.outside)) frames
          ∙ ap (λ o. with_outer (view_heap m.tables m.heap) m.frames (view_outside o)) rest;
      held = back;
      tables = tables;
      process = same_process;
    }

pub same_meets : (m : code_memory.Memory) (h1 : Store) (p : Process) (s : Spot) (from : ℕ) (vs : List Word) → SameShapes m.heap h1 → meets_at (view_world m) p s from vs ≡ Found tt →
    meets_at (blocks.with_heap (view_world m) (view_heap m.tables h1)) p s from vs ≡ Found tt
same_meets m h1 p s from vs same e =
    ap (λ hs. meets_at (blocks.with_heap (view_world m) (map (option_map (view_shape m.tables)) hs)) p s from vs) same.shapes ∙ e
