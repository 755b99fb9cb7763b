-- How words are kept.
use Rattle.std.specs.Prelude.{Bool, true, false, None, map}
use Rattle.ref_heap.specs.Words.{Content, wide, compact, cell_of}
use Rattle.ref_heap.specs.declared.word.Word.{Word}
use Rattle.ref_heap.specs.declared.word.Word.TheVariants.{Plain, Refer}
use Rattle.ref_heap.specs.declared.words.Kept.{Kept}
use Rattle.ref_heap.specs.declared.words.Kept.TheVariants.{Wide, Compact}

abbrev pub content_of : Kept → Content
content_of (Wide words) = wide (map cell_of words.items)
content_of (Compact numbers) = compact numbers.items

abbrev pub blank_word : Bool → Word
blank_word true = Refer None
blank_word false = Plain 0
