-- Whence the names of the top level come, in the code.
use Rattle.std.specs.Prelude.{◌≡◌, ℕ, List, ◌++◌}
use Rattle.limbo_tree.specs.Decls.{Members}
use Rattle.limbo_declarations.specs.Rows.{rows_of_members}
use Rattle.limbo_declarations.specs.View.{rows_of}
use Rattle.limbo_top.specs.declared.naming.TopLevel as code
use Rattle.limbo_top.specs.Tops.{Placed, declared, definitions, DeclaresModule, Alone}
use Rattle.limbo_top.specs.View.{definitions_of}

-- The parts of the top level are those of a source that implements the module of this name.
pub record AreParts (implements : List ℕ) (tops : List Placed) (t : code.TopLevel) : Type 0 where
  pub path : List ℕ
  pub members : Members
  pub is_module : DeclaresModule (declared tops) implements path members
  pub declared_are : rows_of t.declared.rows.items ≡ declared tops
  pub members_are : rows_of t.members.rows.items ≡ rows_of_members path members
  pub definitions_are : definitions_of t.definitions.items ≡ definitions tops
  pub alone_are : Alone (rows_of_members path members) (definitions tops) (rows_of t.alone.items)
  pub names_are : rows_of t.names.rows.items ≡ declared tops ++ rows_of_members path members ++ rows_of t.alone.items
