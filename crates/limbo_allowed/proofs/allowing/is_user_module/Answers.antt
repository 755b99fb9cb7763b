use Rattle.limbo_types.specs.View.{view_ty}
use Rattle.limbo_allowed.proofs.Decided.{told, user_module}
use Rattle.limbo_allowed.proofs.allowing.is_user_module.Goals as goal

pub returns : goal.returns
returns c = told c.is_users.ensures (user_module c.args.system (view_ty c.args.t.now))
