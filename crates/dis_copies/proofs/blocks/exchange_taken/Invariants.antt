use Rattle.std.proofs.Common.{◌≡◌, ℕ, ◌+◌, drop, Some}
use Rattle.ref_heap.specs.Store.{Block, at, outside}
use Rattle.dis_meaning.specs.Words.{Found}
use Rattle.dis_places.specs.Regions.{block_words}
use Rattle.dis_places.specs.Words.{view_words}
use Rattle.dis_copies.specs.Changes.{Changed, TakesAll}
use Rattle.dis_copies.specs.Spans.{all_named, kinds, meets, over}
use Rattle.dis_copies.proofs.blocks.exchange_taken.Given as goal

-- What is left to do leads where all of it does.
abbrev pub invariant-loop-k : goal.invariant-loop-k
invariant-loop-k l =
    let s = l.block.serial in
    let here = block_words (at l.heap s) in record {
      left : over here (l.from + l.k) (view_words (drop l.k l.words)) ≡ over (block_words (at l.initial.heap s)) l.from (view_words l.initial.words);
      meets : meets here (l.from + l.k) (view_words (drop l.k l.words)) ≡ Found tt;
      changed : Changed l.initial.heap l.heap s here;
      takes : (b : Block) → at l.heap s ≡ Some b → TakesAll b.content (drop l.k l.words);
      kinds : kinds (view_words l.words) ≡ kinds (view_words l.initial.words);
      named : (n : ℕ) → outside l.heap n + all_named l.initial.words n ≡ outside l.initial.heap n + all_named l.words n;
    }
