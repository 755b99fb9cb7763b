-- A free block that is there is one of which it is open what it will stand for.
use Rattle.std.proofs.Common.{◌≡◌, ℕ, Option, Some, None, refl}
use Rattle.heap_model.specs.Heap.{Heap, at}
use Rattle.heap_model.specs.Facts.{Fact, Named, Chars, Part, Bare, Carrier, Facts, IsFree, Free}
use Rattle.heap_model.specs.Contents.{Contents}
use Rattle.heap_model.specs.Worlds.{WorldsAlike}

pub nothing_known : {B : Type 0} (o : Option (Fact B)) → IsFree o → (o ≡ Some Bare → ⊥) → o ≡ None
nothing_known None free bare = refl
nothing_known (Some Bare) free bare = absurd (bare refl)
nothing_known (Some (Named n)) free bare = absurd free
nothing_known (Some (Chars t)) free bare = absurd free
nothing_known (Some (Part a b c)) free bare = absurd free
nothing_known (Some (Carrier c)) free bare = absurd free

module _ {V B F : Type 0} (c : Contents V B F) (k : Facts B F) (w : Heap V) (x : Heap B) where
  pub open_there : WorldsAlike c k w x → (b : ℕ) (d : B) → Free k b → at x b ≡ Some d → k.fact b ≡ None
  open_there s b d free e = nothing_known (k.fact b) free (λ f. s.bares b d f e)
