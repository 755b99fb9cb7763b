use Rattle.std.proofs.Common.{◌≡◌, ◌≤◌, ◌*◌, Result, Ok, Err, IfOk, sym, subst}
use Rattle.limbo_typed.specs.View.{view_module}
use Rattle.slot_code.specs.declared.code.SlotModule.{SlotModule}
use Rattle.slot_code.specs.Code as slot
use Rattle.slot_code.specs.View as view
use Rattle.typed_lower.specs.Statements.{module_code}
use Rattle.typed_lower.specs.Sizes.{nodes, instructions}
use Rattle.slot_writing.specs.declared.fault.LowerFault.{LowerFault}
use Rattle.slot_writing.proofs.FewStatements.{module_few}
use Rattle.slot_writing.proofs.lowering.lower.Goals as goal

-- what holds of a module's code holds of what is made
told : (P : slot.Module → Type 0) (made : slot.Module) (r : Result SlotModule LowerFault) → P made
    → IfOk r (λ c. view.view_module c ≡ made) → IfOk r (λ c. P (view.view_module c))
told P made (Ok c) h e = subst P (sym e) h
told P made (Err fault) h e = tt

pub returns-clause-few : goal.returns-clause-few
returns-clause-few c =
    let m = view_module c.args.module.now in
    told (λ made. instructions made.functions ≤ 8 * nodes m) (module_code m) c.lowered.result (module_few m) c.lowered.ensures.code
