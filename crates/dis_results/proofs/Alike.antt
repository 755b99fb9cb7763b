-- What others hold outside of blocks, after plain words were stored.
use Rattle.std.proofs.Common.{◌≡◌, true, false, refl, ◌∙◌, arith}
use Rattle.ref_heap.specs.declared.word.Word as code_word
use Rattle.ref_heap.specs.Words.{cell_of, is_reference}
use Rattle.ref_heap.specs.Store.{IsHeap}
use Rattle.dis_meaning.specs.Words.{fits}
use Rattle.dis_places.specs.declared.memory.Memory.{Memory}
use Rattle.dis_places.specs.declared.process.Process.{Process}
use Rattle.dis_places.specs.View.{view_world}
use Rattle.dis_places.specs.Words.{view_word}
use Rattle.dis_stores.specs.Storing.{Exchanges, Settles}
use Rattle.dis_stores.proofs.Cuts.{view_uncut, plain_named, stood_alike}
use Rattle.dis_results.specs.Going.{HoldsAlike}

-- A plain word in place of another holds nothing and lets nothing go.
pub plain_alike : (m m' : Memory) (p p' : Process) (new old : code_word.Word) → is_reference (cell_of new) ≡ false → fits (view_word old) (view_word new) ≡ true →
    Exchanges m p m' p' new old → m'.tables ≡ m.tables → HoldsAlike m p m' p'
plain_alike m m' p p' new old plain fit e tables = record {
  held = λ n.
      let a = e n in let b = plain_named new n plain in let c = plain_named old n (stood_alike new old fit ∙ plain) in
      omega (arith, a, b, c);
  tables = tables;
}

pub alike_twice : (m m1 m2 : Memory) (p p1 p2 : Process) → HoldsAlike m p m1 p1 → HoldsAlike m1 p1 m2 p2 → HoldsAlike m p m2 p2
alike_twice m m1 m2 p p1 p2 a b = record {
  held = λ n. let h = a.held n in let k = b.held n in omega (arith, h, k);
  tables = b.tables ∙ a.tables;
}

-- Nothing is cut then.
pub alike_settles : (m m' : Memory) (p p' : Process) → IsHeap m'.heap → HoldsAlike m p m' p' → Settles m p (view_world m') m' p'
alike_settles m m' p p' ok a = record {
  held = a.held;
  heap = view_uncut m'.tables m'.heap ok m'.proper;
  outer = refl;
  tables = a.tables;
}
