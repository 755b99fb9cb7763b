-- What the names in an expression mean, by the naming of the code.
use Rattle.std.specs.Prelude.{◌≡◌, ℕ, List, Option, Some, option_copied}
use Rattle.std.specs.List.{Contains}
use Rattle.limbo_tree.specs.Exprs.{Expr}
use Rattle.limbo_constants.specs.Asked.{asked}
use Rattle.limbo_constants.specs.Constants.{constant_in}
use Rattle.limbo_constants.specs.declared.constant.Constant as constant
use Rattle.limbo_entries.specs.View.{entries_of}
use Rattle.limbo_naming.specs.Qualified.{Qualified, of_expr}
use Rattle.limbo_naming.specs.Naming.{Names}
use Rattle.limbo_naming.specs.declared.naming.Naming.{Naming}
use Rattle.limbo_constant_values.specs.declared.meaning.Place.{Place}
use Rattle.limbo_constant_values.specs.Needs.{NeedsValue}
use Rattle.limbo_constant_values.specs.Answers.{Pair, IsAnswer, AreAnswers, answer_in}

abbrev pub IsAnswerOf : Naming → Place → List (Option constant.Constant) → Expr → constant.Constant → Type 0
IsAnswerOf n place values part c =
    IsAnswer (entries_of n.table.now.entries.items) n.implemented place.scope (option_copied place.counter) values part c

abbrev pub AreAnswersOf : Naming → Place → List (Option constant.Constant) → List Expr → List Pair → Type 0
AreAnswersOf n place values parts answers =
    AreAnswers (entries_of n.table.now.entries.items) n.implemented place.scope (option_copied place.counter) values parts answers

-- What an expression is, by answers for all that it asks for.
pub record Evaluates (n : Naming) (place : Place) (values : List (Option constant.Constant)) (e : Expr) (v : Option constant.Constant)
    : Type 0 where
  pub answers : List Pair
  pub are : AreAnswersOf n place values (asked e) answers
  pub gives : v ≡ constant_in (answer_in answers) e

-- The part is a name that names this declaration.
abbrev pub NamesPart : Naming → (scope : Option ℕ) → Expr → ℕ → Type 0
NamesPart n scope part r =
    (q : Qualified) × (of_expr part ≡ Some q) × Names (entries_of n.table.now.entries.items) n.implemented scope q r

-- The row has what the parts name, and nothing else.
pub record AreNeeds (n : Naming) (scope : Option ℕ) (parts : List Expr) (row : List ℕ) : Type 0 where
  pub sound : (r : ℕ) → Contains row r → (part : Expr) × Contains parts part × NamesPart n scope part r
  pub complete : (part : Expr) (r : ℕ) → Contains parts part → NamesPart n scope part r → Contains row r

-- The row has what this declaration needs for its value, and nothing else.
pub record AreNeedsOf (n : Naming) (k : ℕ) (row : List ℕ) : Type 0 where
  pub sound : (r : ℕ) → Contains row r → NeedsValue (entries_of n.table.now.entries.items) n.implemented k r
  pub complete : (r : ℕ) → NeedsValue (entries_of n.table.now.entries.items) n.implemented k r → Contains row r
