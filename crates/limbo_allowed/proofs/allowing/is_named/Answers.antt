use Rattle.std.proofs.Common.{List, ℕ, length, ap, ◌∙◌}
use Rattle.limbo_layout.specs.declared.def.AdtDef.{AdtDef}
use Rattle.limbo_layout.specs.View.{view_defs}
use Rattle.limbo_types.specs.View.{view_ty}
use Rattle.limbo_adts.specs.Table.{defs_of}
use Rattle.limbo_allowed.specs.Choosing.{is_named}
use Rattle.limbo_allowed.proofs.Decided.{told, all_are_named}
use Rattle.limbo_allowed.proofs.allowing.is_named.Goals as goal

pub returns : goal.returns
returns c =
    let t = view_ty c.args.t.now in
    told
    (c.names.ensures
    ∙ ap (λ (ds : List AdtDef). is_named (view_defs ds) (length c.modules.result.now) t) c.defs.ensures
    ∙ ap (λ (ms : List (List ℕ)). is_named (defs_of c.args.adts.now) (length ms) t) c.modules.ensures)
    (all_are_named (defs_of c.args.adts.now) (length c.args.adts.now.modules) t)
