-- How the module's data grow, item by item.
use Rattle.std.specs.Prelude.{ℕ, ◌≡◌, ◌+◌, Bool, List, ◌++◌}
use Rattle.dis_file.specs.declared.object.Item.{Item}
use Rattle.dis_objects.specs.declared.module_data.Data.{Data}
use Rattle.dis_objects.specs.Code.{Datum, data_bytes}
use Rattle.dis_objects.specs.Objects.{items_from, data_words}
use Rattle.dis_objects.specs.Spelled.{AreSpelled}

-- These items more, these words and so many bytes.
pub record Grows (old new : Data) (items : List Item) (words : List Bool) (bytes : ℕ) : Type 0 where
  pub items_are : new.items.items ≡ old.items.items ++ items
  pub words_are : new.words.items ≡ old.words.items ++ words
  pub place_is : new.place ≡ old.place + bytes
  pub spelled : AreSpelled old.items.items → AreSpelled new.items.items

-- These data more.
abbrev pub GrowsBy : (old new : Data) → List Datum → Type 0
GrowsBy old new ds = Grows old new (items_from old.place ds) (data_words ds) (data_bytes ds)
