-- The contents of the source's heap and of the machine's, as the law of two heaps takes them.
use Rattle.std.specs.Prelude.{List}
use Rattle.heap_model.specs.Contents.{Contents}
use Rattle.limbo_types.specs.Types.{Ty}
use Rattle.limbo_layout.specs.Adts.{Def}
use Rattle.limbo_meaning.specs.Memory.{HeapValue, inside}
use Rattle.dis_memory.specs.Blocks as block
use Rattle.dis_memory.specs.Blocks.{Block}
use Rattle.dis_memory.specs.Naming as machine
use Rattle.value_words.specs.Forms.{Form}
use Rattle.value_heaps.specs.Blocks.{Constant, IsBlock}
use Rattle.value_heaps.specs.Laws.{ContentsAre}

abbrev pub contents_by : ContentsAre → List Def → List Ty → List Constant → Contents HeapValue Block Form
contents_by law defs globals constants = record {
  inside = inside;
  words = machine.inside;
  text = block.Text;
  part = λ start long array. block.Part array start long;
  stands = IsBlock defs globals constants;
  text_names = law.text_names;
  part_names = law.part_names;
  part_only = law.part_only;
  grows = (law.blocks defs globals constants).later;
  to = (law.blocks defs globals constants).to;
  from = (law.blocks defs globals constants).from;
}
