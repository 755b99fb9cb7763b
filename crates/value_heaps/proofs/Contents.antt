-- Contents, with what is proved of them.
use Rattle.std.proofs.Common.{◌≡◌, ℕ, ◌<◌, Bool, true, false, List, refl, arith}
use Rattle.std.proofs.lemmas.Bool.{eqb-true}
use Rattle.std.specs.Prelude.{nat_eq, if◌then◌else◌}
use Rattle.heap_model.specs.Contents as two
use Rattle.limbo_types.specs.Types.{Ty}
use Rattle.limbo_layout.specs.Adts.{Def}
use Rattle.limbo_meaning.specs.Memory.{HeapValue}
use Rattle.dis_memory.specs.Blocks as block
use Rattle.dis_memory.specs.Blocks.{Block}
use Rattle.dis_memory.specs.Naming as machine
use Rattle.value_words.specs.Forms.{Form}
use Rattle.value_heaps.specs.Blocks.{Constant}
use Rattle.value_heaps.specs.Contents.{contents_by}
use Rattle.value_heaps.specs.Laws.{AllBlocksStand, ContentsAre}
use Rattle.value_heaps.proofs.Later.{block_later}
use Rattle.value_heaps.proofs.Reaching.{block_reaches}
use Rattle.value_heaps.proofs.Covering.{block_covers}
use Rattle.value_heaps.proofs.Words.{refers_it}

pub blocks_stand : AllBlocksStand
blocks_stand defs globals constants = record {
  later = λ k k' n v b g s. block_later defs globals constants k k' g n v b s;
  to = block_reaches defs globals constants;
  from = block_covers defs globals constants;
}

names_array : (start long array : ℕ) → 0 < machine.inside (block.Part array start long) array
names_array start long array = let e = refers_it array in omega arith

names_only : (start long array n : ℕ) → 0 < machine.inside (block.Part array start long) n → array ≡ n
names_only start long array n h = go (nat_eq array n) refl (omega (arith, h))
  where
    go : (b : Bool) → nat_eq array n ≡ b → 0 < (if b then 1 else 0) → array ≡ n
    go true e h = eqb-true array n e
    go false e h = absurd (omega (arith, h))

pub contents_are : ContentsAre
contents_are = record {
  blocks = blocks_stand;
  text_names = λ t n. refl;
  part_names = names_array;
  part_only = names_only;
}

-- What the law of two heaps takes.
abbrev pub contents : List Def → List Ty → List Constant → two.Contents HeapValue Block Form
contents = contents_by contents_are
