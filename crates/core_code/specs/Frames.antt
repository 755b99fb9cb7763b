-- How many slots functions have, by the nodes of their statements.
use Rattle.std.specs.Prelude.{ℕ, suc, ◌+◌, ◌*◌, ◌≤◌, max, List, Option, Some, None, if◌then◌else◌}
use Rattle.limbo_layout.specs.Adts.{Def}
use Rattle.limbo_meaning.specs.Trees as tree
use Rattle.limbo_meaning.specs.Trees.{Term, Node, Lazy, Update, Fill, Terms, NoTerms, MoreTerms, Items, NoItems, MoreItems}
use Rattle.limbo_meaning.specs.Trees.{Stm, Eval, If, While, Enter, Loop, Looping, Block, Done, Then, Turn, Again}
use Rattle.limbo_meaning.specs.Evaluation.{may_hold}
use Rattle.limbo_meaning.specs.Program.{Routine}
use Rattle.core_code.specs.Terms.{lower}
use Rattle.core_code.specs.Statements.{function_of}

module _ (defs : List Def) where
  -- The nodes of a tree. Of the elements of an initialiser that hold nothing the greatest counts alone.
  abbrev mutual
    pub counted_nodes : Term → ℕ
    counted_nodes (Node t o ts) = suc (all_counted ts)
    counted_nodes (Lazy c l r) = suc (counted_nodes l + counted_nodes r)
    counted_nodes (Update o g t w ts us) = suc (all_counted ts + all_counted us)
    counted_nodes (Fill t l is rest) = suc (counted_nodes l + (held is + (rest_held rest + max (greatest is) (rest_alone rest))))
    counted_nodes t = 1

    pub all_counted : Terms → ℕ
    all_counted NoTerms = 0
    all_counted (MoreTerms t ts) = counted_nodes t + all_counted ts

    -- those of the elements that hold something, together, and of the others the greatest
    pub held : Items → ℕ
    held NoItems = 0
    held (MoreItems i e is) = (if may_hold defs e then counted_nodes e else 0) + held is

    pub greatest : Items → ℕ
    greatest NoItems = 0
    greatest (MoreItems i e is) = max (if may_hold defs e then 0 else counted_nodes e) (greatest is)

    -- the element of `*`
    pub rest_held : Terms → ℕ
    rest_held NoTerms = 0
    rest_held (MoreTerms e es) = if may_hold defs e then counted_nodes e else 0

    pub rest_alone : Terms → ℕ
    rest_alone NoTerms = 0
    rest_alone (MoreTerms e es) = if may_hold defs e then 0 else counted_nodes e

  abbrev pub if_counted : Option Term → ℕ
  if_counted None = 0
  if_counted (Some t) = counted_nodes t

  -- The most that a statement counts, of a statement and those in it.
  abbrev mutual
    pub stm_counted : Stm → ℕ
    stm_counted (Eval t) = counted_nodes t
    stm_counted (If t a b) = max (counted_nodes t) (max (block_counted a) (block_counted b))
    stm_counted (While t l) = loop_counted l
    stm_counted (Enter l) = loop_counted l
    stm_counted (tree.Return t) = counted_nodes t
    stm_counted s = 0

    pub loop_counted : Loop → ℕ
    loop_counted (Looping c n body) = max (max (if_counted c) (if_counted n)) (block_counted body)

    pub block_counted : Block → ℕ
    block_counted Done = 0
    block_counted (Then s b) = max (stm_counted s) (block_counted b)
    block_counted (Turn l b) = block_counted b
    block_counted (Again l b) = block_counted b

-- A statement uses at most three slots for each node that it counts, and a function has as many as its greatest statement uses, but one at
-- least.
pub record ThreeSlotsANode : Type 0 where
  pub expressions : (defs : List Def) (lo : ℕ) (t : Term) → (lower defs lo t).free ≤ lo + 3 * counted_nodes defs t
  pub functions : (defs : List Def) (r : Routine) → (function_of defs r).slots ≤ max 1 (3 * block_counted defs r.body)
