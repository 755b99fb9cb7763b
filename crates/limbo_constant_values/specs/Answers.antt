-- What the names in an expression mean, as a list.
use Rattle.std.specs.Prelude.{◌≡◌, ℕ, nat_eq, Bool, false, ◌&&◌, if◌then◌else◌, List, [], ◌∷◌, Option, None, Some, map, slice_get}
use Rattle.std.specs.List.{Contains}
use Rattle.std.specs.Cmp.Lexicographic.{pointwise}
use Rattle.limbo_tree.specs.Exprs as tree
use Rattle.limbo_tree.specs.Exprs.{Expr}
use Rattle.limbo_tree.specs.Parts.{name_in, arrow_in, dot_in}
use Rattle.limbo_tree.specs.View.{view_expr}
use Rattle.limbo_constants.specs.declared.constant.Constant as constant
use Rattle.limbo_entries.specs.Entries.{Entry, Finds}
use Rattle.limbo_naming.specs.Qualified.{Qualified, of_expr}
use Rattle.limbo_naming.specs.Naming.{Names}
use Rattle.limbo_constant_values.specs.declared.answers.Answer as code_answer
use Rattle.limbo_constant_values.specs.Values.{iota_name}

abbrev pub is_text : List ℕ → Option (List ℕ) → Bool
is_text a None = false
is_text a (Some b) = pointwise nat_eq a b

abbrev pub is_after : (Expr → Bool) → List ℕ → Option (Expr × List ℕ) → Bool
is_after is_base a None = false
is_after is_base a (Some (base, b)) = is_base base && pointwise nat_eq a b

-- whether an expression is this name
abbrev pub same_name : Expr → Expr → Bool
same_name (tree.Name a) e = is_text a (name_in e)
same_name (tree.Arrow x a) e = is_after (same_name x) a (arrow_in e)
same_name (tree.Dot x a) e = is_after (same_name x) a (dot_in e)
same_name _ e = false

-- a name, and what it means
abbrev pub Pair : Type 0
Pair = Expr × constant.Constant

abbrev pub answer_in : List Pair → Expr → Option constant.Constant
answer_in [] part = None
answer_in (x ∷ xs) part = if same_name x.0 part then Some x.1 else answer_in xs part

abbrev pub view_answer : code_answer.Answer → Pair
view_answer a = (view_expr a.part.now, a.constant.now)

abbrev pub answers_of : List code_answer.Answer → List Pair
answers_of xs = map view_answer xs

-- ---- what a name means by the values that are known

abbrev pub IsKnown : List (Option constant.Constant) → ℕ → constant.Constant → Type 0
IsKnown values r c = slice_get values r ≡ Some (Some c)

-- By the value of what it names; or by what `iota` counts, where no declaration has that name.
pub data IsAnswer (es : List Entry) (m : ℕ) (scope : Option ℕ) (counter : Option constant.Constant)
    (values : List (Option constant.Constant)) : Expr → constant.Constant → Type 0 where
  of_name : (part : Expr) (q : Qualified) (r : ℕ) (c : constant.Constant) → of_expr part ≡ Some q → Names es m scope q r
      → IsKnown values r c → IsAnswer es m scope counter values part c
  of_counter : (c : constant.Constant) → counter ≡ Some c → ((k : ℕ) → Finds es m iota_name scope k → ⊥)
      → IsAnswer es m scope counter values (tree.Name iota_name) c

-- The list has what each of some parts means, and nothing else.
pub record AreAnswers (es : List Entry) (m : ℕ) (scope : Option ℕ) (counter : Option constant.Constant)
    (values : List (Option constant.Constant)) (parts : List Expr) (answers : List Pair) : Type 0 where
  pub sound : (x : Pair) → Contains answers x → IsAnswer es m scope counter values x.0 x.1
  pub complete : (part : Expr) (c : constant.Constant) → Contains parts part → IsAnswer es m scope counter values part c
      → (d : constant.Constant) × (answer_in answers part ≡ Some d)
