-- How many nodes the trees of expressions, statements and functions have, and instructions for each.
use Rattle.std.specs.Prelude.{ℕ, suc, ◌+◌, ◌*◌, ◌≤◌, List, length, Option, Some, None}
use Rattle.limbo_types.specs.Types as ty
use Rattle.limbo_types.specs.Types.{Ty}
use Rattle.limbo_layout.specs.Adts.{Def}
use Rattle.limbo_meaning.specs.Trees as tree
use Rattle.limbo_meaning.specs.Trees.{Work, Term, Node, Lazy, Update, Fill, Terms, NoTerms, MoreTerms, Items, NoItems, MoreItems}
use Rattle.limbo_meaning.specs.Trees.{Stm, Eval, If, While, Enter, Loop, Looping, Block, Done, Then, Turn, Again}
use Rattle.limbo_meaning.specs.Program.{Routine}
use Rattle.core_code.specs.Terms.{count_of}
use Rattle.core_code.specs.Statements.{Around, whole, stm_code, function_of}

-- A place that is written is a node too.
abbrev pub written_in : Work → ℕ
written_in (tree.Assign aims) = length aims
written_in o = 0

module _ (defs : List Def) where
  -- A node counts once, and once more for each reference of its value.
  abbrev pub node_of : Ty → ℕ
  node_of t = suc (count_of defs t)

  abbrev mutual
    pub term_nodes : Term → ℕ
    term_nodes (Node t o ts) = node_of t + (written_in o + terms_nodes ts)
    term_nodes (Lazy c l r) = node_of ty.Int + (term_nodes l + term_nodes r)
    term_nodes (Update o g t w ts us) = node_of t + (1 + (terms_nodes ts + terms_nodes us))
    term_nodes (Fill t l is rest) = node_of (ty.ArrayOf t) + (term_nodes l + (items_nodes is + terms_nodes rest))
    term_nodes t = 1

    pub terms_nodes : Terms → ℕ
    terms_nodes NoTerms = 0
    terms_nodes (MoreTerms t ts) = term_nodes t + terms_nodes ts

    pub items_nodes : Items → ℕ
    items_nodes NoItems = 0
    items_nodes (MoreItems i t is) = term_nodes t + items_nodes is

  abbrev pub optional_nodes : Option Term → ℕ
  optional_nodes None = 0
  optional_nodes (Some t) = term_nodes t

  abbrev mutual
    pub stm_nodes : Stm → ℕ
    stm_nodes (Eval t) = suc (term_nodes t)
    stm_nodes (If t a b) = suc (term_nodes t + (block_nodes a + block_nodes b))
    stm_nodes (While t l) = suc (loop_nodes l)
    stm_nodes (Enter l) = suc (loop_nodes l)
    stm_nodes (tree.Return t) = suc (term_nodes t)
    stm_nodes s = 1

    pub loop_nodes : Loop → ℕ
    loop_nodes (Looping c n body) = optional_nodes c + (optional_nodes n + block_nodes body)

    pub block_nodes : Block → ℕ
    block_nodes Done = 0
    block_nodes (Then s b) = stm_nodes s + block_nodes b
    block_nodes (Turn l b) = block_nodes b
    block_nodes (Again l b) = block_nodes b

  abbrev pub routine_nodes : Routine → ℕ
  routine_nodes r = suc (block_nodes r.body)

-- Code has at most four instructions a node of its tree: that of an expression with the drops of what it got, of a statement, and of a
-- function.
pub record FourATreeNode : Type 0 where
  pub expressions : (defs : List Def) (t : Term) → length (whole defs t) ≤ 4 * term_nodes defs t
  pub statements : (defs : List Def) (around : List Around) (rest : ℕ) (s : Stm) →
      length (stm_code defs around rest s) ≤ 4 * stm_nodes defs s
  pub functions : (defs : List Def) (r : Routine) → length (function_of defs r).code ≤ 4 * routine_nodes defs r
