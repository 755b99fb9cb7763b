use Rattle.std.proofs.Common.{◌≡◌, ◌<◌, ◌++◌, ℕ, List, length, take, sym, ap, subst, ◌∙◌}
use Rattle.limbo_types.specs.Types.{Adt}
use Rattle.limbo_layout.specs.Adts.{Def}
use Rattle.limbo_layout.specs.Layout.{Fits}
use Rattle.limbo_layout.specs.View.{view_defs}
use Rattle.limbo_adts.specs.Table.{defs_of}
use Rattle.limbo_context.specs.View.{view_context}
use Rattle.limbo_members.specs.Tables.{with_table}
use Rattle.limbo_members.specs.Standing.{with_adts_in}
use Rattle.limbo_members.proofs.Closed.{made_of, length_defs}
use Rattle.limbo_members.proofs.Standing.{too_large_stands_not}
use Rattle.limbo_members.proofs.closing.set_adts.Goals as goal

pub returns-in-Ok-clause-table : goal.returns-in-Ok-clause-table
returns-in-Ok-clause-table c =
    let made : view_defs c.append.new.self.items ≡ take c.args.first (defs_of c.args.context.now.adts) ++ view_defs c.args.adts.items =
    made_of c.args.first c.in_ok-defs.defs.items c.truncate.new.self.items c.append.new.self.items c.args.adts.items
    (defs_of c.args.context.now.adts) c.truncate.ensures.items c.in_ok-append.ensures.items
    (c.in_ok-defs.ensures ∙ ap view_defs c.defs.ensures) in
    c.in-Ok.ensures.table
    ∙ ap (λ ds. with_table ds c.in_ok-modules.modules.items (view_context c.args.context.now)) made
    ∙ ap (λ ms. with_table (take c.args.first (defs_of c.args.context.now.adts) ++ view_defs c.args.adts.items) ms
    (view_context c.args.context.now)) (c.in_ok-modules.ensures ∙ c.modules.ensures)

pub returns-clause-refused : goal.returns-clause-refused
returns-clause-refused c =
    let made : view_defs c.append.new.self.items ≡ take c.args.first (defs_of c.args.context.now.adts) ++ view_defs c.args.adts.items =
    made_of c.args.first c.in_ok-defs.defs.items c.truncate.new.self.items c.append.new.self.items c.args.adts.items
    (defs_of c.args.context.now.adts) c.truncate.ensures.items c.in_ok-append.ensures.items
    (c.in_ok-defs.ensures ∙ ap view_defs c.defs.ensures) in
    let there = c.in-Err-TooLarge.ensures.there c.in-Err-TooLarge.adt c.in-Err-TooLarge.field-0-is in
    let large = c.in-Err-TooLarge.ensures.too_large c.in-Err-TooLarge.adt c.in-Err-TooLarge.field-0-is in
    too_large_stands_not c.args.first (with_adts_in c.args.first (view_defs c.args.adts.items) (view_context c.args.context.now))
    c.too_large.result.cause c.in-Err-TooLarge.adt
    (subst (λ (n : ℕ). c.in-Err-TooLarge.adt < n) (length_defs c.append.new.self.items ∙ ap length made) there)
    (λ f. large (subst (λ (ds : List Def). Fits ds (Adt c.in-Err-TooLarge.adt)) (sym made) f)) c.too_large.ensures
