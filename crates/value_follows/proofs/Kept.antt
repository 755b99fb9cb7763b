-- Processes stand for one another while others step; and what many processes ask of the two sides that doesn't depend on the code.
use Rattle.std.proofs.Common.{◌≡◌, Some, refl, sym, subst, arith}
use Rattle.process_model.specs.Follows.{Who, Among, Heaps}
use Rattle.heap_model.specs.Heap.{Heap, at}
use Rattle.heap_model.specs.Worlds.{Changes}
use Rattle.heap_model.proofs.Growing as growing
use Rattle.heap_model.proofs.Growing.{grows_same}
use Rattle.heap_model.proofs.Staying.{heaps_join}
use Rattle.limbo_typed.specs.Typed as typed
use Rattle.dis_memory.specs.Blocks.{Block}
use Rattle.value_words.specs.Facts.{Facts}
use Rattle.value_follows.specs.Sides.{parts, sides}
use Rattle.value_follows.specs.Kept.{StandsKept, StandsKeep}
use Rattle.value_follows.proofs.KeptOwn as own
use Rattle.value_follows.proofs.KeptFrames.{frame_later, all_later, stands_later, ready_later, asking_later}
use Rattle.value_follows.proofs.KeptWays as ways

-- nothing happens to the heap
changes_nothing : (these : Who) (k : Facts) (x x' : Heap Block) → x' ≡ x → Changes (Among these) k k x x'
changes_nothing these k x x' same = record {
  grows = grows_same k;
  there = λ q b e. (b, subst (λ (h : Heap Block). at h q ≡ Some b) (sym same) e);
  free = λ q j f made not. (refl, subst (λ (h : Heap Block). at h q ≡ at x q) (sym same) refl);
  carriers = λ q b e. subst (λ (h : Heap Block). at h q ≡ at x q) (sym same) refl;
}

module _ (m : typed.Module) where
  heaps : Heaps (sides m)
  heaps = heaps_join (parts m) (λ k now v u g h. absurd h) (λ o. omega arith)

  stands_kept : StandsKept m
  stands_kept = record {
    frame_owned = λ k i x busy g f is b h. own.frame_owned m k i x is b h;
    waiting_owned = λ k i x a t callee gs fs ws b h. own.waiting_owned m k i x ws b h;
    owned_reached = λ k i x busy a p q s b h. ways.owned_reached m k i x b s h;
    asking_reached = λ k i x p q a b h. ways.asking_reached m k i x b a h;
    owned_held = λ k k' i x x' busy a p q s left names held live b h gone. ways.owned_held m k i x b k' x' left names held live s h gone;
    asking_held = λ k k' i x x' p q a left names held live b h gone. ways.asking_held m k i x b k' x' left names held live a h gone;
    owned_there = λ k k' i x x' busy a p q s left closed all b h gone. ways.owned_there m k i x b k' x' left closed all s h gone;
    asking_there = λ k k' i x x' p q a left closed all b h gone. ways.asking_there m k i x b k' x' left closed all a h gone;
    later = λ k k' i x x' busy a p q s left frames there.
        stands_later m k k' i x x' left.grows frames s (λ b h. own.stands_kept m k i x k' x' left s b h (there b h));
    ready_later = λ k k' i x x' p q r left frames there.
        ready_later m k k' i x x' left.grows frames r (λ b h. own.stands_kept m k i x k' x' left r.stands b h (there b h));
    asking_later = λ k k' i x x' p q a left frames there.
        asking_later m k k' i x x' left.grows frames a (λ b h. own.asking_kept m k i x k' x' left a b h (there b h));
    frame_later = λ k k' i x x' busy g f is grows frames kept. frame_later m k k' i x x' grows frames is kept;
    waits_later = λ k k' i x x' a t callee changed gs fs ws grows frames kept serial word.
        all_later m k k' i x x' grows frames changed (serial, word) ws kept;
    changes_same = λ these k x x' same frames. (changes_nothing these k x.heap x'.heap same, frames);
    leaves_same = λ i k x. (growing.leaves_same i k x.heap, omega arith);
    leaves_on = λ i a b c x y z l n. let u = l.1 in let v = n.1 in
        (growing.leaves_on i a b c x.heap y.heap z.heap l.0 n.0, omega (arith, u, v));
    heaps = heaps;
    table = λ k i x bs cs p q w. absurd w;
    no_downs = λ l x x' e. absurd cc;
    downs = λ k l w x x' same e. absurd cc;
    meets = λ place k i j w x bs cs p q n a a' bs' cs' p' q' l b b' apart h. absurd h;
  }

pub stands_keep : StandsKeep
stands_keep = λ m. stands_kept m
