-- The texts of the code.
use Rattle.std.specs.Prelude.{ℕ, List}
use Rattle.std.specs.List.{Contains}
use Rattle.inf_ports.specs.Outside.{Told}
use Rattle.limbo_tree.specs.declared.source.Source.{Source}
use Rattle.limbo_includes.specs.declared.included.Included.{Included}
use Rattle.limbo_includes.specs.View.{given}
use Rattle.source_files.specs.Reading.{IsRead, IsReadWhole}

-- These texts were read for a source of this path: all that it includes, and no other.
pub record AreRead (told : Told) (path : List ℕ) (source : Source) (texts : List Included) : Type 0 where
  pub named : (t : Included) → Contains texts t → IsRead told (given path source texts) t
  pub whole : IsReadWhole told (given path source texts)
