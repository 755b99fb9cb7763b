use Rattle.std.proofs.Common.{IfOk, Result, sym, refl, subst, length}
use Rattle.limbo_types.specs.View.{view_ty}
use Rattle.limbo_adts.specs.Table.{defs_of}
use Rattle.limbo_refusals.specs.declared.fault.ExprFault.{ExprFault}
use Rattle.limbo_allowed.specs.Allowed.{IsAllowed}
use Rattle.limbo_allowed.proofs.Decided.{fd_held, module_held, not_from, fits_where}
use Rattle.limbo_allowed.proofs.allowing.allow.Goals as goal
use Rattle.limbo_allowed.proofs.allowing.allow.Goals.{in-Ok, in-Err-TooLarge, in-Err-NoMemory}

pub returns-then-holds_fd-clause-refused : goal.returns-then-holds_fd-clause-refused
returns-then-holds_fd-clause-refused c = (fd_held c.args.fd (view_ty c.args.t.now)).0 (sym c.if-holds_fd.ensures)

pub returns-then-holds_module-clause-refused : goal.returns-then-holds_module-clause-refused
returns-then-holds_module-clause-refused c = (module_held c.args.system (view_ty c.args.t.now)).0 (sym c.if-holds_module.ensures)

pub returns-clause-allowed : goal.returns-clause-allowed
returns-clause-allowed c =
    let t = view_ty c.args.t.now in
    let Claim : Result (Unit {0}) ExprFault → Type 0 =
    λ r. IfOk r (λ _. IsAllowed (defs_of c.args.adts.now) (length c.args.adts.now.modules) c.args.system c.args.fd t) in
    elim c.match-layout.branch [
      | in-Ok w ↦ subst Claim (sym w.result-is) (record {
        names = c.if-not-is_named.ensures.0 refl;
        fits =
            fits_where (defs_of c.args.adts.now) t w.in-Ok.field-0.size w.in-Ok.field-0.map.items w.in-Ok.ensures.laid w.in-Ok.ensures.fits;
        no_module = not_from c.if-holds_module.ensures refl (module_held c.args.system t);
        no_fd = not_from c.if-holds_fd.ensures refl (fd_held c.args.fd t);
      })
      | in-Err-TooLarge w ↦ subst Claim (sym w.result-is) tt
      | in-Err-NoMemory w ↦ subst Claim (sym w.result-is) tt
    ]
