-- Where operands lead.
use Rattle.std.proofs.Common.{◌≡◌, ℕ, ◌+◌, pos, List, Option, Some, refl, ap}
use Rattle.heap_model.specs.Heap.{at}
use Rattle.dis_meaning.specs.Words.{Word, InBlock, InFrame, Access, Found, ◌>>=◌, dead_address, or_wrong}
use Rattle.dis_meaning.specs.Process.{Process}
use Rattle.dis_meaning.specs.Places.{Own, Data, Far}
use Rattle.dis_memory.specs.Blocks as blocks
use Rattle.dis_memory.specs.Blocks.{Block, World, Record, Array, Instance, with_changed, reached}
use Rattle.dis_memory.specs.Places.{memory, behind}
use Rattle.value_moves.specs.Spots.{SpotsLead}

module _ (x : World) (p : Process) where
  -- the words of a block that is there, and the world with others in it
  reach : (n : ℕ) (b : Block) → at x.heap n ≡ Some b → (or_wrong dead_address (at x.heap n) >>= reached) ≡ reached b
  reach n b e = ap (λ (o : Option Block). or_wrong dead_address o >>= reached) e

  change : (n : ℕ) (b : Block) (new : List Word) → at x.heap n ≡ Some b
      → (or_wrong dead_address (at x.heap n) >>= (λ c. Found (with_changed x n (blocks.with_words new c))) >>= λ y. Found (memory y p))
      ≡ Found (memory (with_changed x n (blocks.with_words new b)) p)
  change n b new e =
      ap (λ (o : Option Block). or_wrong dead_address o >>= (λ c. Found (with_changed x n (blocks.with_words new c)))
      >>= λ y. Found (memory y p)) e

pub spots_lead : SpotsLead
spots_lead = record {
  own = λ x p n. (record { place = Own (pos n); found = refl; among = refl; byte = refl }, λ new. refl);
  of_module = λ x p object words n e. (
    record { place = Data (pos n); found = refl; among = reach x p p.frame.instance (Instance object words) e; byte = refl },
    λ new. change x p p.frame.instance (Instance object words) new e,
  );
  inner = λ x p r b words n e f. (
    record {
      place = Far (InBlock b) (pos n);
      found = ap (λ (a : Access Word). a >>= λ w. behind w (pos n)) e;
      among = reach x p b (Record words) f;
      byte = refl;
    },
    λ new. change x p b (Record words) new f,
  );
  element = λ x p r b a long type words n e f. (
    record {
      place = Far (InBlock b) (pos (a + n));
      found = ap (λ (a : Access Word). a >>= λ w. behind w (pos n)) e;
      among = reach x p b (Array type long words) f;
      byte = refl;
    },
    λ new. change x p b (Array type long words) new f,
  );
  frame = λ x p r s a words n e f. (
    record {
      place = Far (InFrame s) (pos (a + n));
      found = ap (λ (a : Access Word). a >>= λ w. behind w (pos n)) e;
      among = f;
      byte = refl;
    },
    λ new. refl,
  );
}
