-- A block stands for the same where more is known.
use Rattle.std.proofs.Common.{ℕ, List, Some, length, inl, inr}
use Rattle.heap_model.specs.Facts.{Chars}
use Rattle.limbo_types.specs.Types as ty
use Rattle.limbo_types.specs.Types.{Ty}
use Rattle.limbo_layout.specs.Adts.{Def}
use Rattle.limbo_layout.specs.Layout.{nothing}
use Rattle.limbo_meaning.specs.Memory.{HeapValue}
use Rattle.dis_memory.specs.Blocks.{Block}
use Rattle.value_words.specs.Forms.{Elements, Cells, Adts, Channels, Instances}
use Rattle.value_words.specs.Facts.{Facts, Grows}
use Rattle.value_words.proofs.Later.{name_later, stands_later, all_later}
use Rattle.value_heaps.specs.Blocks.{Constant, IsBlock, elements, cell, record_of, channel, instance_of, globals_place}

module _ (defs : List Def) (globals : List Ty) (constants : List Constant) (facts later : Facts) (grows : Grows facts later) where
  pub block_later : (n : ℕ) (v : HeapValue) (b : Block) → IsBlock defs globals constants facts n v b → IsBlock defs globals constants later n v b
  block_later n _ _ (elements t r words vs f l few whole each only) =
      elements t r words vs (grows.forms n (Elements t (length vs)) f) l few whole
      (λ i v e. stands_later defs facts later words grows _ t v (each i v e)) only
  block_later n _ _ (cell t r words v tail rest f l whole s there only e older) =
      cell t r words v tail rest (grows.forms n (Cells t) f) l whole (stands_later defs facts later words grows 0 t v s) there only
      (name_later defs facts later words grows (Some (Cells t)) rest tail e) older
  block_later n _ _ (record_of a r words v f l whole s there only) =
      record_of a r words v (grows.forms n (Adts a) f) l whole (stands_later defs facts later words grows 0 (ty.Adt a) v s) there only
  block_later n _ _ (channel t desc f) = channel t desc (grows.forms n (Channels t) f)
  block_later n _ _ (instance_of object rs words vs f l whole all there only fixed) =
      instance_of object rs words vs (grows.forms n Instances f) l whole
      (all_later defs facts later words grows globals_place nothing globals rs vs all) there
      (λ w b e. elim (only w b e) [ inl i ↦ inl i | inr i ↦ inr (i.0, grows.facts b (Chars i.0) i.1) ])
      (λ c h. let o = fixed c h in record {
        room = o.room;
        laid = o.laid;
        aligned = o.aligned;
        whole = o.whole;
        stands = stands_later defs facts later words grows c.at c.type c.value o.stands;
        refer_only = o.refer_only;
      })
