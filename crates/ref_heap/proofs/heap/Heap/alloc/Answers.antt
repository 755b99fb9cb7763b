use Rattle.std.proofs.Common.{sym, subst}
use Rattle.ref_heap.specs.Words.{Content, cells, naming}
use Rattle.ref_heap.specs.Store.{AreHeld}
use Rattle.ref_heap.proofs.Put.{blank_held}
use Rattle.std.proofs.Common.{◌≡◌, ◌+◌, ℕ, ap, arith}
use Rattle.ref_heap.specs.Words.{wide}
use Rattle.ref_heap.specs.Store.{outside, one, blank_cells}
use Rattle.ref_heap.proofs.Put.{if_map, blank_names}
use Rattle.ref_heap.proofs.heap.Heap.alloc.Goals as goal

pub add-requires-clause-held : goal.add-requires-clause-held
add-requires-clause-held c = subst (λ (w : Content). AreHeld c.args.self.now (naming (cells w))) (sym c.in_ok-words.ensures) (blank_held c.args.self.now c.args.map.now)

pub returns-clause-outside : goal.returns-clause-outside
returns-clause-outside c =
    if_map c.add.result _ _ (λ r (f : (n : ℕ) → outside c.add.new.self n + naming (cells c.in_ok-words.words) n ≡ outside c.args.self.now n + one r.serial n) n.
    let e : naming (cells c.in_ok-words.words) n ≡ naming (cells (wide (blank_cells c.args.map.now))) n = ap (λ (w : Content). naming (cells w) n) c.in_ok-words.ensures in
    omega (arith, f n, blank_names c.args.map.now n)) c.add.ensures.outside
