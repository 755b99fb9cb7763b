-- What is told of the types of a source.
use Rattle.std.specs.Prelude.{◌≡◌}
use Rattle.limbo_naming.specs.declared.naming.Naming.{Naming}
use Rattle.limbo_naming.specs.Told.{Knows}
use Rattle.limbo_type_names.specs.declared.names.TypeNames.{TypeNames}
use Rattle.limbo_type_names.specs.Numbers.{AreNumbers}
use Rattle.limbo_type_names.specs.Working.{entries_in, AreTypes}

-- It is known of each declaration what it stands for.
pub record KnowsTypes (t : TypeNames) : Type 0 where
  pub names : Knows t.naming.now
  pub numbers : AreNumbers (entries_in t.naming.now) t.numbers.items
  pub types : AreTypes (entries_in t.naming.now) t.naming.now.implemented t.types.items

-- They are the types of what these names name.
pub record AreTypesOf (n : Naming) (t : TypeNames) : Type 0 where
  pub by_naming : t.naming.now ≡ n
  pub knows : KnowsTypes t
