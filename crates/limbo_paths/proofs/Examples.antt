-- Small bodies, and whether control goes through them. e is any condition or value.
use Rattle.std.proofs.Common.{◌≡◌, true, false, [], ◌∷◌, None, Some, refl}
use Rattle.limbo_typed.specs.declared.stmt.CasePattern.TheVariants as case
use Rattle.limbo_typed.specs.Typed.{Expr, Stmt, Stmts, NoStmts, MoreStmts, NoBodies, MoreBodies}
use Rattle.limbo_typed.specs.Typed.{Block, Eval, If, While, Do, For, Case, Alt, Break, Continue, Return, Exit, Handle}
use Rattle.limbo_paths.specs.Walking.{falls}

abbrev one : Stmt → Stmts
one s = MoreStmts s NoStmts

abbrev two : Stmt → Stmt → Stmts
two s t = MoreStmts s (MoreStmts t NoStmts)

module _ (e : Expr) where
  abbrev returned : Stmt
  returned = Return (Some e)

  -- if (e) return e; and with else return e;
  half : falls [] (If e (one returned) NoStmts) ≡ true
  half = refl

  both : falls [] (If e (one returned) (one Exit)) ≡ false
  both = refl

  -- { return e; e; }: what stands behind isn't asked
  behind : falls [] (Block (two returned (Eval e))) ≡ false
  behind = refl

  -- for (;;) { }, and with a `break`, also behind a `return`
  endless : falls [] (For None None None NoStmts) ≡ false
  endless = refl

  broken : falls [] (While None (two returned (Break 0))) ≡ true
  broken = refl

  tested : falls [] (While (Some e) (one returned)) ≡ true
  tested = refl

  -- for (;;) for (;;) break; the inner loop's, and the outer's
  inner : falls [] (While None (one (While None (one (Break 0))))) ≡ false
  inner = refl

  outer : falls [] (While None (one (While None (one (Break 1))))) ≡ true
  outer = refl

  -- a `break` in an `alt` ends the `alt`
  of_alt : falls [] (While None (one (Alt [] (MoreBodies (one (Break 0)) NoBodies)))) ≡ false
  of_alt = refl

  -- do return e; while (e); and with a `continue` before it
  once : falls [] (Do (one returned) (Some e)) ≡ false
  once = refl

  again : falls [] (Do (two (If e (one (Continue 0)) NoStmts) returned) (Some e)) ≡ true
  again = refl

  again_endless : falls [] (Do (two (If e (one (Continue 0)) NoStmts) returned) None) ≡ false
  again_endless = refl

  -- case e { * => return e; }, without the `*`, and with a `break`
  rest : falls [] (Case e ((case.Any ∷ []) ∷ []) (MoreBodies (one returned) NoBodies)) ≡ false
  rest = refl

  no_rest : falls [] (Case e ([] ∷ []) (MoreBodies (one returned) NoBodies)) ≡ true
  no_rest = refl

  broken_case : falls [] (Case e ((case.Any ∷ []) ∷ []) (MoreBodies (two (If e (one (Break 0)) NoStmts) returned) NoBodies)) ≡ true
  broken_case = refl

  -- { return e; } exception { * => e; }
  handled : falls [] (Handle (one returned) 0 [] (MoreBodies (one (Eval e)) NoBodies)) ≡ true
  handled = refl
