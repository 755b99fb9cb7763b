-- How the module's data grow, datum by datum.
use Rattle.std.specs.Prelude.{◌≡◌, List, ◌++◌}
use Rattle.limbo_typed.specs.Typed as typed
use Rattle.dis_objects.specs.Spelled.{AreSpelled}
use Rattle.value_code.specs.Data.{Datum}
use Rattle.value_code.specs.Objects.{items_from, data_references, end_of}
use Rattle.value_tables.specs.declared.store.Data.{Data}

-- These data more of a module: their items, the places where they refer to something, and the place behind them.
pub record GrowsBy (m : typed.Module) (old new : Data) (ds : List Datum) : Type 0 where
  pub items_are : new.items.items ≡ old.items.items ++ items_from m old.place ds
  pub references_are : new.references.items ≡ old.references.items ++ data_references m old.place ds
  pub place_is : new.place ≡ end_of m old.place ds
  pub spelled : AreSpelled old.items.items → AreSpelled new.items.items
