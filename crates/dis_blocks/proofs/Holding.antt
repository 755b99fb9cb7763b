-- A block whose first word is held for it.
use Rattle.std.proofs.Common.{◌≡◌, ℕ, ◌+◌, List, [], ◌∷◌, map, Option, sym, ap, ◌∙◌, arith}
use Rattle.std.specs.Option.{option_map}
use Rattle.ref_heap.specs.declared.word.Word as code_word
use Rattle.ref_heap.specs.declared.word.Word.TheVariants as word
use Rattle.ref_heap.specs.declared.word.Ref.{Ref}
use Rattle.ref_heap.specs.Words.{Cell, cell_of, naming}
use Rattle.ref_heap.specs.Store.{Store, IsHeap, outside}
use Rattle.ref_heap.specs.Drops.{Drops}
use Rattle.ref_heap.proofs.Naming.{naming_cons}
use Rattle.heap_model.specs.Heap.{Heap, stays}
use Rattle.system_model.specs.World as outer
use Rattle.sys_print.specs.Worlds.{view_world as view_outside}
use Rattle.heap_cuts.proofs.Told.{stays_same}
use Rattle.dis_meaning.specs.Process as view
use Rattle.dis_meaning.specs.Places.{Spot}
use Rattle.dis_memory.specs.Blocks as blocks
use Rattle.dis_memory.specs.Naming.{inside}
use Rattle.dis_places.specs.declared.memory.Memory.{Memory}
use Rattle.dis_places.specs.declared.process.Process.{Process}
use Rattle.dis_places.specs.Blocks.{view_shape, view_heap, AreProper}
use Rattle.dis_places.specs.View.{view_world}
use Rattle.dis_stores.specs.Storing.{named, SameShapes}
use Rattle.dis_stores.proofs.Cuts.{view_cut, view_uncut}
use Rattle.dis_blocks.specs.Making.{made, Untouched}

-- Words of which the first alone names anything.
pub first_named : (ws : List code_word.Word) (rest : Option Ref) (element : List Cell) → map cell_of ws ≡ cell_of (word.Refer rest) ∷ element →
    ((n : ℕ) → naming element n ≡ 0) → (n : ℕ) → naming (map cell_of ws) n ≡ named (word.Refer rest) n
first_named ws rest element e bare n =
    let a = naming_cons (cell_of (word.Refer rest)) element n in let b = naming_cons (cell_of (word.Refer rest)) [] n in let c = bare n in
    ap (λ cs. naming cs n) e ∙ omega (arith, a, b, c)

pub same_made : (m : Memory) (h1 : Store) (p : view.Process) (s : Spot) (b : blocks.Block) → SameShapes m.heap h1 →
    made (view_world m) p s b ≡ made (blocks.with_heap (view_world m) (view_heap m.tables h1)) p s b
same_made m h1 p s b same =
    ap (λ hs. made (blocks.with_heap (view_world m) (map (option_map (view_shape m.tables)) hs)) p s b) (sym same.shapes)

abbrev with_outer : Heap blocks.Block → ℕ → outer.World → blocks.World
with_outer h f o = record { heap = h; outside = record { frames = f; outside = o } }

-- What was held for it is let go again.
pub untouched : (m n : Memory) (p p' : Process) (h1 h3 : Store) (given : code_word.Word) (proper : AreProper h3) → IsHeap m.heap → IsHeap n.heap →
    n.tables ≡ m.tables → n.frames ≡ m.frames → n.outside ≡ m.outside → n.heap ≡ h1 → p' ≡ p →
    SameShapes m.heap h1 → ((k : ℕ) → outside h1 k ≡ outside m.heap k + named given k) →
    Drops n.heap h3 (naming (map cell_of (given ∷ []))) → h3.made ≡ n.heap.made →
    ((k : ℕ) → outside h3 k + naming (map cell_of (given ∷ [])) k ≡ outside n.heap k) →
    Untouched m p (record { heap = h3; tables = n.tables; frames = n.frames; outside = n.outside; proper = proper }) p'
untouched m n p p' h1 h3 given proper ok ok1 tables frames rest is same_process same more drops made_same out =
    let back : (k : ℕ) → outside h3 k ≡ outside m.heap k =
    (λ k. let a = out k in let b = more k in let c = ap (λ h. outside h k) is in omega (arith, a, b, c)) in
    let heap : view_heap n.tables h3 ≡ view_heap m.tables m.heap =
    ap (λ t. view_heap t h3) tables
    ∙ view_cut m.tables n.heap h3 (naming (map cell_of (given ∷ [])))
    (record { heap = ok1; held = λ k. let a = out k in omega (arith, a); drops = drops; made = made_same }) n.proper
    ∙ ap (λ h. stays inside (outside h3) (view_heap m.tables h)) is
    ∙ ap (λ hs. stays inside (outside h3) (map (option_map (view_shape m.tables)) hs)) same.shapes
    ∙ stays_same inside (outside h3) (outside m.heap) (view_heap m.tables m.heap) back
    ∙ sym (view_uncut m.tables m.heap ok m.proper) in
    record {
      world =
          ap (λ h. blocks.with_heap (view_world (record { heap = h3; tables = n.tables; frames = n.frames; outside = n.outside; proper = proper })) h) heap
          ∙ ap (λ f. with_outer (view_heap m.tables m.heap) f (view_outside n.outside)) frames
          ∙ ap (λ o. with_outer (view_heap m.tables m.heap) m.frames (view_outside o)) rest;
      held = back;
      tables = tables;
      process = same_process;
    }
