-- How a statement begins, by its first tokens.
use Rattle.std.specs.Prelude.{List, ◌∷◌, Bool, true, false, Option, Some, None, if◌then◌else◌}
use Rattle.limbo_lexer.specs.declared.token.Kind.{Kind}
use Rattle.limbo_lexer.specs.declared.token.Kind.TheVariants as kind
use Rattle.limbo_lexer.specs.declared.token.Mark.TheVariants as mark
use Rattle.limbo_lexer.specs.declared.token.Key.{Key}
use Rattle.limbo_lexer.specs.declared.token.Key.TheVariants as key
use Rattle.limbo_reading.specs.Reading.{kinds, choose, after_mark}
use Rattle.limbo_stmt_parts.specs.declared.start.Branch.{Branch}
use Rattle.limbo_stmt_parts.specs.declared.start.Branch.TheVariants as branch
use Rattle.limbo_stmt_parts.specs.declared.start.Choice.TheVariants as choice
use Rattle.limbo_stmt_parts.specs.declared.start.Loop.TheVariants as loop
use Rattle.limbo_stmt_parts.specs.declared.start.Jump.{Jump}
use Rattle.limbo_stmt_parts.specs.declared.start.Jump.TheVariants as jump
use Rattle.limbo_stmt_parts.specs.declared.start.Start as code_start
use Rattle.limbo_stmt_parts.specs.declared.start.Start.TheVariants as begin

-- how a statement begins, and what stands behind that
pub data Start : Type 0 where
  AtEmpty : List Kind → Start
  AtBlock : List Kind → Start
  AtIf : List Kind → Start
  AtBranch : Branch → List Kind → Start
  AtLabelled : Branch → List Kind → Start
  AtJump : Jump → List Kind → Start
  AtDeclare : Start
  AtOther : Start

-- what may have a label
abbrev pub branch_of : Key → Option Branch
branch_of key.While = Some (branch.Loop loop.While)
branch_of key.Do = Some (branch.Loop loop.Do)
branch_of key.For = Some (branch.Loop loop.For)
branch_of key.Case = Some (branch.Choice choice.Case)
branch_of key.Alt = Some (branch.Choice choice.Alt)
branch_of key.Pick = Some (branch.Choice choice.Pick)
branch_of _ = None

-- what ends in a semicolon behind a keyword
abbrev pub jump_of : Key → Option Jump
jump_of key.Break = Some jump.Break
jump_of key.Continue = Some jump.Continue
jump_of key.Return = Some jump.Return
jump_of key.Exit = Some jump.Exit
jump_of key.Spawn = Some jump.Spawn
jump_of key.Raise = Some jump.Raise
jump_of _ = None

abbrev pub at_branch : List Kind → Option (Branch × List Kind)
at_branch (kind.Key k ∷ ts) = choose (branch_of k) None λ b. Some (b, ts)
at_branch _ = None

-- behind a name: what that name is the label of
abbrev pub at_label : List Kind → Option (Branch × List Kind)
at_label ts = choose (after_mark mark.Colon ts) None λ us. at_branch us

-- behind a name that is no label: whether it begins a declaration
abbrev pub declares : List Kind → Bool
declares (kind.Mark mark.Comma ∷ ts) = true
declares (kind.Mark mark.Colon ∷ ts) = true
declares (kind.Mark mark.Define ∷ ts) = true
declares _ = false

abbrev pub at_key : Key → List Kind → Start
at_key key.If ts = AtIf ts
at_key k ts = choose (branch_of k) (choose (jump_of k) AtOther λ j. AtJump j ts) λ b. AtBranch b ts

abbrev pub start : List Kind → Start
start (kind.Name n ∷ ts) = choose (at_label ts) (if declares ts then AtDeclare else AtOther) λ x. AtLabelled x.0 x.1
start (kind.Mark mark.Semicolon ∷ ts) = AtEmpty ts
start (kind.Mark mark.OpenBrace ∷ ts) = AtBlock ts
start (kind.Key k ∷ ts) = at_key k ts
start _ = AtOther

-- whether what begins so may be the head of an arm
abbrev pub may_head : Start → Bool
may_head (AtLabelled b us) = true
may_head AtDeclare = true
may_head AtOther = true
may_head _ = false

-- the start of a statement, as the code has it
abbrev pub view_start : code_start.Start → Start
view_start (begin.Empty us) = AtEmpty (kinds us.now)
view_start (begin.Block us) = AtBlock (kinds us.now)
view_start (begin.If us) = AtIf (kinds us.now)
view_start (begin.Branch b us) = AtBranch b (kinds us.now)
view_start (begin.Labelled b us) = AtLabelled b (kinds us.now)
view_start (begin.Jump j us) = AtJump j (kinds us.now)
view_start begin.Declare = AtDeclare
view_start begin.Other = AtOther
