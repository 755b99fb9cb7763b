-- Slots of one size, each in one place of the frame for the whole function: 8 bytes, as 4 for a number and 4 for a reference.
use Rattle.std.specs.Prelude.{ℕ, ◌+◌, ◌*◌, ◌-◌, ◌≤◌, max, List}
use Rattle.std.specs.Int.{next_multiple_of}
use Rattle.limbo_layout.specs.Adts.{Def}
use Rattle.limbo_typed.specs.Typed as typed
use Rattle.limbo_typed.specs.Typed.{Function}
use Rattle.limbo_meaning.specs.Trees.{Term, Terms}
use Rattle.limbo_meaning.specs.Program.{term_of, terms_of, printed_of, operands_at, operands_to, routine_of}
use Rattle.core_code.specs.Terms.{lower, lower_all}
use Rattle.core_code.specs.Statements.{function_of}
use Rattle.core_frames.specs.Sizes.{expr_size, exprs_size, way_size, pattern_size, stmts_size, types_in, laid_size, frame_size}

-- how many slots the code of a tree uses, and of trees in a row
abbrev pub used : List Def → (lo : ℕ) → Term → ℕ
used defs lo t = (lower defs lo t).free - lo

abbrev pub all_used : List Def → (lo : ℕ) → Terms → ℕ
all_used defs lo ts = (lower_all defs lo ts).free - lo

-- Each slot has 8 bytes of what its expression counts in the frame, also one of an initialiser that its elements share. More than 8 there
-- aren't: a list has a slot for each item and one for each cell, where an item without bytes counts 16.
pub record EvenSlotsFit : Type 0 where
  pub expressions : (defs : List Def) (lo : ℕ) (e : typed.Expr) → 8 * used defs lo (term_of e) ≤ expr_size defs e
  pub lists : (defs : List Def) (lo : ℕ) (es : typed.Exprs) → 8 * all_used defs lo (terms_of es) ≤ exprs_size defs es
  pub printed : (defs : List Def) (lo : ℕ) (es : typed.Exprs) → 8 * all_used defs lo (printed_of es) ≤ exprs_size defs es
  pub places : (defs : List Def) (lo : ℕ) (p : typed.PlaceNode) → 8 * all_used defs lo (operands_at p) ≤ way_size defs p
  pub patterns : (defs : List Def) (lo : ℕ) (p : typed.Pattern) → 8 * all_used defs lo (operands_to p) ≤ pattern_size defs p
  -- Behind the variables, from the next multiple of 8 on, the frame has room for all that a function has. A statement that isn't of this
  -- part of the language counts nothing, and has one slot; so has a function that evaluates nothing.
  pub functions : (defs : List Def) (f : Function) →
      next_multiple_of (40 + laid_size defs (routine_of f).variables) 8 + 8 * (function_of defs (routine_of f)).slots
      ≤ 40 + laid_size defs (routine_of f).variables + max 16 (stmts_size defs (types_in f.variables) f.body)
  pub frames : (defs : List Def) (f : Function) → 16 ≤ stmts_size defs (types_in f.variables) f.body →
      next_multiple_of (40 + laid_size defs (routine_of f).variables) 8 + 8 * (function_of defs (routine_of f)).slots ≤ frame_size defs f
