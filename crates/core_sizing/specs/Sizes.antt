-- What parts of expressions count, as the code asks it of them.
use Rattle.std.specs.Prelude.{ℕ, ◌+◌, List, if◌then◌else◌}
use Rattle.limbo_layout.specs.Adts.{Def}
use Rattle.limbo_typed.specs.Typed as typed
use Rattle.limbo_typed.specs.Typed.{Expr, Node}
use Rattle.limbo_meaning.specs.Evaluation.{may_hold}
use Rattle.limbo_meaning.specs.Program.{term_of}
use Rattle.core_frames.specs.Sizes.{expr_size, exprs_size, pattern_size}

-- What stands behind a node of its own: of a node that isn't a read, an update or an initialiser.
abbrev pub parts_size : List Def → Node → ℕ
parts_size defs (typed.Part e n) = expr_size defs e
parts_size defs (typed.Apply o es) = exprs_size defs es
parts_size defs (typed.Lazy c l r) = expr_size defs l + expr_size defs r
parts_size defs (typed.Assign p e) = pattern_size defs p + expr_size defs e
parts_size defs (typed.Copy a i e) = expr_size defs a + (expr_size defs i + expr_size defs e)
parts_size defs (typed.Call f es) = exprs_size defs es
parts_size defs (typed.Print w m file ps es) = 48 + exprs_size defs es
parts_size defs (typed.Load i e) = expr_size defs e
parts_size defs n = 0

-- An element of an initialiser, where it may hold references, and where it holds none.
abbrev pub held : List Def → Expr → ℕ
held defs e = if may_hold defs (term_of e) then expr_size defs e else 0

abbrev pub alone : List Def → Expr → ℕ
alone defs e = if may_hold defs (term_of e) then 0 else expr_size defs e
