-- To which blocks references lead, where the two sides stand for one another.
use Rattle.std.proofs.Common.{◌≡◌, ℕ, pos, Option, Some, ap, ◌∙◌, arith}
use Rattle.heap_model.specs.Heap.{at}
use Rattle.limbo_typed.specs.Typed as typed
use Rattle.limbo_meaning.specs.Process.{Shared}
use Rattle.core_code.specs.Machine as code
use Rattle.dis_meaning.specs.Words.{Refer, Found, word_at}
use Rattle.dis_meaning.specs.Process.{Process}
use Rattle.dis_memory.specs.Blocks.{World}
use Rattle.value_words.specs.Facts.{Facts}
use Rattle.value_words.proofs.Bytes.{word_found}
use Rattle.value_heaps.proofs.Contents.{contents_are}
use Rattle.value_heaps.proofs.Words.{named_by}
use Rattle.value_code.specs.Objects.{globals, constants}
use Rattle.block_effects.specs.Contents.{AreBlocks, IsThere, ReferencesLead}
use Rattle.block_effects.proofs.Referring.{references_lead, blocks_are_such}
use Rattle.value_follows.specs.Sides.{sides, contents, HoldTheSame}

module _ (m : typed.Module) where
  are_blocks : AreBlocks m.adts (contents m)
  are_blocks =
      let such = blocks_are_such contents_are m.adts (globals m) (constants m) in
      record {
        text = such.text;
        part = such.part;
        elements = λ k n t long v b f s.
            let e = such.elements k n t long v b f s.0 in
            record { vs = e.vs; is = e.is; many = e.many; counted = e.counted; room = e.room; laid = e.laid; words = e.words; found = e.found };
        cell = λ k n t v b f s.
            let c = such.cell k n t v b f s.0 in
            record {
              head = c.head;
              behind = c.behind;
              is = c.is;
              words = c.words;
              rest = c.rest;
              named = c.named;
              found = c.found;
              holds = c.holds;
              older = c.older;
            };
      }

  pub lead : (k : Facts) (w : Shared) (x : World) → (sides m).worlds k w x → ReferencesLead m.adts (contents m) k w.heap x
  lead k w x worlds = references_lead m.adts (contents m) are_blocks k w.heap x worlds.0

  -- what a word of the running frame refers to is there
  pub word_leads : (k : Facts) (i : ℕ) (x : World) (p : code.Process) (q : Process) → HoldTheSame m k i x p q → (at : ℕ) (r : Option ℕ)
      → word_at q.frame.words (pos at) ≡ Found (Refer r) → IsThere x r
  word_leads k i x p q hold at r e n f =
      let found = word_found q.frame.words at (Refer r) e in
      let named = named_by q.frame.words _ n (found.1 ∙ ap (λ (o : Option ℕ). Some (Refer o)) f) in
      hold.same.live n (hold.same.roots n (omega (arith, named)))
