-- Statements have few nodes, and use few slots, because the frames are small that their nodes count.
use Rattle.std.specs.Prelude.{ℕ, ℤ, suc, ◌+◌, ◌*◌, ◌≤◌, max, List}
use Rattle.limbo_types.specs.Types.{Ty}
use Rattle.limbo_layout.specs.Adts.{Def}
use Rattle.limbo_typed.specs.Typed as typed
use Rattle.limbo_typed.specs.Typed.{Function}
use Rattle.limbo_meaning.specs.Program.{term_of, terms_of, terms_if, length_term, items_of, printed_of, operands_at, operands_to}
use Rattle.limbo_meaning.specs.Program.{routine_of}
use Rattle.core_code.specs.Terms.{lower, lower_all, lower_items, lower_rest, items_end, rest_end}
use Rattle.core_code.specs.Statements.{function_of}
use Rattle.core_code.specs.Frames.{counted_nodes, all_counted, block_counted}
use Rattle.core_frames.specs.Sizes.{expr_size, exprs_size, optional_size, held_size, greatest, rest_held, rest_alone, way_size}
use Rattle.core_frames.specs.Sizes.{pattern_size, stmts_size, frame_size, types_in}

-- Each node that is counted takes 8 bytes at least of what its expression counts in the frame. So it is of an expression, of expressions in
-- a list, also as they are printed, of the operands of a place, and of those of the places of a pattern.
pub record NodesFit : Type 0 where
  pub expressions : (defs : List Def) (e : typed.Expr) → 8 * counted_nodes defs (term_of e) ≤ expr_size defs e
  pub lists : (defs : List Def) (es : typed.Exprs) → 8 * all_counted defs (terms_of es) ≤ exprs_size defs es
  pub printed : (defs : List Def) (es : typed.Exprs) → 8 * all_counted defs (printed_of es) ≤ exprs_size defs es
  pub places : (defs : List Def) (p : typed.PlaceNode) → 8 * all_counted defs (operands_at p) ≤ way_size defs p
  pub patterns : (defs : List Def) (p : typed.Pattern) → 8 * all_counted defs (operands_to p) ≤ pattern_size defs p
  -- A statement that isn't of this part of the language counts nothing, and is one node.
  pub functions : (defs : List Def) (f : Function) →
      8 * block_counted defs (routine_of f).body ≤ max 8 (stmts_size defs (types_in f.variables) f.body)

-- They use no more slots, from one on, than the bytes that they count.
pub record SlotsAreFew : Type 0 where
  pub expressions : (defs : List Def) (lo : ℕ) (e : typed.Expr) → (lower defs lo (term_of e)).free ≤ lo + expr_size defs e
  pub lists : (defs : List Def) (lo : ℕ) (es : typed.Exprs) → (lower_all defs lo (terms_of es)).free ≤ lo + exprs_size defs es
  pub printed : (defs : List Def) (lo : ℕ) (es : typed.Exprs) → (lower_all defs lo (printed_of es)).free ≤ lo + exprs_size defs es
  pub places : (defs : List Def) (lo : ℕ) (p : typed.PlaceNode) → (lower_all defs lo (operands_at p)).free ≤ lo + way_size defs p
  pub patterns : (defs : List Def) (lo : ℕ) (p : typed.Pattern) → (lower_all defs lo (operands_to p)).free ≤ lo + pattern_size defs p
  -- So do the parts of an initialiser: its length, which has a slot also where it isn't written, its elements, and the one of `*` with the
  -- slot of its loop. And so many slots lie in front of where those end that elements share.
  pub lengths : (defs : List Def) (lo : ℕ) (l : typed.Optional) (is : typed.Items) →
      (lower defs lo (length_term l is)).free ≤ suc lo + optional_size defs l
  pub items : (defs : List Def) (t : Ty) (array shared lo : ℕ) (is : typed.Items) →
      (lower_items defs t array shared lo (items_of is)).free ≤ lo + held_size defs is
  pub rests : (defs : List Def) (t : Ty) (array : ℕ) (named : List ℤ) (shared lo : ℕ) (rest : typed.Optional) →
      (lower_rest defs t array named shared lo (terms_if rest)).free ≤ suc lo + rest_held defs rest
  pub shared_items : (defs : List Def) (shared : ℕ) (is : typed.Items) → items_end defs shared (items_of is) ≤ shared + greatest defs is
  pub shared_rests : (defs : List Def) (shared : ℕ) (rest : typed.Optional) →
      rest_end defs shared (terms_if rest) ≤ shared + rest_alone defs rest
  pub functions : (defs : List Def) (f : Function) → (function_of defs (routine_of f)).slots ≤ frame_size defs f
