-- The blocks and arms of sources by their parts.
use Rattle.std.proofs.Common.{◌≡◌, ℕ, refl, sym, ap, ◌∙◌, map, List, Option, None, Some, Vec, Global}
use Rattle.limbo_tree.specs.declared.stmt.Stmt as code_stmt
use Rattle.limbo_tree.specs.declared.stmt.Block as code_block
use Rattle.limbo_tree.specs.declared.stmt.Block.{out-Block, roll-Block, roll-out-Block}
use Rattle.limbo_tree.specs.declared.stmt.Handler as code_handler
use Rattle.limbo_tree.specs.declared.stmt.Handler.{out-Handler, roll-Handler, roll-out-Handler}
use Rattle.limbo_tree.specs.declared.stmt.CaseArm as code_case_arm
use Rattle.limbo_tree.specs.declared.stmt.CaseArm.{out-CaseArm, roll-out-CaseArm}
use Rattle.limbo_tree.specs.declared.stmt.AltArm as code_alt_arm
use Rattle.limbo_tree.specs.declared.stmt.AltArm.{out-AltArm, roll-out-AltArm}
use Rattle.limbo_tree.specs.declared.stmt.PickArm as code_pick_arm
use Rattle.limbo_tree.specs.declared.stmt.PickArm.{out-PickArm, roll-out-PickArm}
use Rattle.limbo_tree.specs.declared.stmt.HandlerArm as code_handling
use Rattle.limbo_tree.specs.declared.stmt.HandlerArm.{out-HandlerArm, roll-out-HandlerArm}
use Rattle.limbo_tree.specs.Stmts as tree
use Rattle.limbo_typed.specs.declared.stmt.TStmt as made_stmt
use Rattle.limbo_typed.specs.declared.stmt.CasePattern.{CasePattern}
use Rattle.limbo_typed.specs.declared.stmt.AltHead.{AltHead}
use Rattle.limbo_typed.specs.declared.stmt.HandlerPattern.{HandlerPattern}
use Rattle.limbo_typed.specs.declared.stmt.CaseArm as made_case
use Rattle.limbo_typed.specs.declared.stmt.CaseArm.{fold-roll-CaseArm}
use Rattle.limbo_typed.specs.declared.stmt.AltArm as made_alt
use Rattle.limbo_typed.specs.declared.stmt.AltArm.{fold-roll-AltArm}
use Rattle.limbo_typed.specs.declared.stmt.PickArm as made_pick
use Rattle.limbo_typed.specs.declared.stmt.PickArm.{fold-roll-PickArm}
use Rattle.limbo_typed.specs.declared.stmt.HandlerArm as made_handler
use Rattle.limbo_typed.specs.declared.stmt.HandlerArm.{fold-roll-HandlerArm}
use Rattle.limbo_typed.specs.View as made
use Rattle.limbo_tree.specs.View.{Arm, view_case_arm, view_alt_arm, view_pick_arm, view_handler_arm, view_stmts, view_boxed, view_pattern}
use Rattle.limbo_tree.specs.View.{view_stmt, view_block, arms_of, name_of}
use Rattle.limbo_tree.specs.View as source
use Rattle.limbo_tree.specs.View.{names_of, view_handler_pattern}
use Rattle.limbo_tree.proofs.Stmts.{block_plain, view_block-handled, view_case_arm-is, view_alt_arm-is, view_pick_arm-is}
use Rattle.limbo_tree.proofs.Stmts.{view_handler_arm-is}

pub view_stmts_is : (ss : List code_stmt.Stmt) → view_stmts ss ≡ source.stmts_of (map view_stmt ss)
unfolding view_stmts
view_stmts_is ss = refl

pub block_is_plain : (b : code_block.Block) → (out-Block b).handler ≡ None → view_block b ≡ tree.Plain (view_stmts (out-Block
    b).statements.items)
block_is_plain b h = block_plain b h ∙ ap tree.Plain (sym (view_stmts_is (out-Block b).statements.items))

pub block_is_handled : (b : code_block.Block) (h : code_handler.Handler) → (out-Block b).handler ≡ Some h → view_block b
    ≡ tree.Handled (view_stmts (out-Block b).statements.items) (name_of (out-Handler h).name)
    (arms_of (map view_handler_arm (out-Handler h).arms.items))
block_is_handled b h e =
    ap view_block (sym (roll-out-Block b)
    ∙ ap (λ o. roll-Block (record { statements = (out-Block b).statements; handler = o; span = (out-Block b).span }))
    (e ∙ ap Some (sym (roll-out-Handler h))))
    ∙ view_block-handled (out-Block b).statements (out-Handler h).name (out-Handler h).arms (out-Block b).span
    ∙ ap (λ ss. tree.Handled ss (name_of (out-Handler h).name) (arms_of (map view_handler_arm (out-Handler h).arms.items)))
    (sym (view_stmts_is (out-Block b).statements.items))

abbrev pub case_arm_of : code_case_arm.CaseArm → Arm
case_arm_of a = record {
  head = tree.CaseHead (map view_pattern (out-CaseArm a).patterns.items);
  body = view_stmts (out-CaseArm a).body.items;
}

pub case_arm_is : (a : code_case_arm.CaseArm) → view_case_arm a ≡ case_arm_of a
unfolding view_stmts
case_arm_is a =
    ap view_case_arm (sym (roll-out-CaseArm a)) ∙ view_case_arm-is (out-CaseArm a).patterns (out-CaseArm a).body (out-CaseArm a).span

abbrev pub alt_arm_of : code_alt_arm.AltArm → Arm
alt_arm_of a = record { head = tree.AltHead (view_boxed (out-AltArm a).head); body = view_stmts (out-AltArm a).body.items }

pub alt_arm_is : (a : code_alt_arm.AltArm) → view_alt_arm a ≡ alt_arm_of a
unfolding view_stmts
alt_arm_is a = ap view_alt_arm (sym (roll-out-AltArm a)) ∙ view_alt_arm-is (out-AltArm a).head (out-AltArm a).body (out-AltArm a).span

abbrev pub pick_arm_of : code_pick_arm.PickArm → Arm
pick_arm_of a = record { head = tree.PickHead (names_of (out-PickArm a).names.items); body = view_stmts (out-PickArm a).body.items }

pub pick_arm_is : (a : code_pick_arm.PickArm) → view_pick_arm a ≡ pick_arm_of a
unfolding view_stmts
pick_arm_is a =
    ap view_pick_arm (sym (roll-out-PickArm a)) ∙ view_pick_arm-is (out-PickArm a).names (out-PickArm a).body (out-PickArm a).span

abbrev pub handler_arm_of : code_handling.HandlerArm → Arm
handler_arm_of a = record {
  head = tree.HandlerHead (map view_handler_pattern (out-HandlerArm a).patterns.items);
  body = view_stmts (out-HandlerArm a).body.items;
}

pub handler_arm_is : (a : code_handling.HandlerArm) → view_handler_arm a ≡ handler_arm_of a
unfolding view_stmts
handler_arm_is a =
    ap view_handler_arm (sym (roll-out-HandlerArm a))
    ∙ view_handler_arm-is (out-HandlerArm a).patterns (out-HandlerArm a).body (out-HandlerArm a).span

-- ---- and typed arms

pub made_case_arm : (ps : Vec CasePattern Global) (ss : Vec made_stmt.TStmt Global)
    → made.view_case_arm (made_case.roll-CaseArm (record { patterns = ps; body = ss }))
    ≡ record { head = ps.items; body = made.view_stmts ss.items }
unfolding made.view_stmt made.view_alt_arm made.view_case_arm made.view_handler_arm made.view_pick_arm
made_case_arm ps ss =
    fold-roll-CaseArm _ _ _ _ _ made.stmt_step made.alt_arm_step made.case_arm_step made.handler_arm_step made.pick_arm_step
    (record { patterns = ps; body = ss })

pub made_alt_arm : (h : AltHead) (ss : Vec made_stmt.TStmt Global)
    → made.view_alt_arm (made_alt.roll-AltArm (record { head = h; body = ss }))
    ≡ record { head = made.view_alt_head h; body = made.view_stmts ss.items }
unfolding made.view_stmt made.view_alt_arm made.view_case_arm made.view_handler_arm made.view_pick_arm
made_alt_arm h ss =
    fold-roll-AltArm _ _ _ _ _ made.stmt_step made.alt_arm_step made.case_arm_step made.handler_arm_step made.pick_arm_step
    (record { head = h; body = ss })

pub made_pick_arm : (vs : Vec ℕ Global) (n : ℕ) (ss : Vec made_stmt.TStmt Global)
    → made.view_pick_arm (made_pick.roll-PickArm (record { variants = vs; variable = n; body = ss }))
    ≡ record { head = record { variants = vs.items; variable = n }; body = made.view_stmts ss.items }
unfolding made.view_stmt made.view_alt_arm made.view_case_arm made.view_handler_arm made.view_pick_arm
made_pick_arm vs n ss =
    fold-roll-PickArm _ _ _ _ _ made.stmt_step made.alt_arm_step made.case_arm_step made.handler_arm_step made.pick_arm_step
    (record { variants = vs; variable = n; body = ss })

pub made_handler_arm : (ps : Vec HandlerPattern Global) (n : Option ℕ) (ss : Vec made_stmt.TStmt Global)
    → made.view_handler_arm (made_handler.roll-HandlerArm (record { patterns = ps; variable = n; body = ss }))
    ≡ record { head = record { patterns = ps.items; variable = n }; body = made.view_stmts ss.items }
unfolding made.view_stmt made.view_alt_arm made.view_case_arm made.view_handler_arm made.view_pick_arm
made_handler_arm ps n ss =
    fold-roll-HandlerArm _ _ _ _ _ made.stmt_step made.alt_arm_step made.case_arm_step made.handler_arm_step made.pick_arm_step
    (record { patterns = ps; variable = n; body = ss })
