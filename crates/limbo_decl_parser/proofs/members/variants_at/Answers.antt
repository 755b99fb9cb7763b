use Rattle.std.proofs.Common.{◌≡◌, true, false, refl, arith}
use Rattle.std.proofs.lemmas.Result.{err_from_is_err_and}
use Rattle.limbo_tree.specs.View.{view_variant}
use Rattle.limbo_reading.specs.Reading.{kinds}
use Rattle.limbo_reading.proofs.Loops.{going_more, going_end, going_fails}
use Rattle.limbo_decl_parser.specs.Decls.{variant_at, variants_end, is_closed}
use Rattle.limbo_decl_parser.proofs.Places.{variant_shorter}
use Rattle.limbo_decl_parser.proofs.members.variants_at.Goals as goal

pub returns-in_err-variant : goal.returns-in_err-variant
returns-in_err-variant c =
    let p = err_from_is_err_and c.from_residual.result c.from_residual.ensures.1 in
    let on : is_closed (kinds c.variants.rest.now) ≡ false = cc in
    rw (p.1, p.2) (going_fails c.in_err-variant.field-0.0 view_variant (variant_at c.args.budget) variants_end _ c.variants.variants.items (kinds c.variants.rest.now) (rw on refl) c.in_err-variant.ensures c.variants.invariant)

pub variants-smaller : goal.variants-smaller
variants-smaller c = omega (arith, variant_shorter c.args.budget (kinds c.variants.rest.now) (view_variant c.in_ok-variant.variant) (kinds c.in_ok-variant.after.now) c.in_ok-variant.ensures)

pub variants-preserved : goal.variants-preserved
variants-preserved c =
    let on : is_closed (kinds c.variants.rest.now) ≡ false = cc in
    rw c.in_ok-push.ensures.items (going_more view_variant (variant_at c.args.budget) variants_end _ c.variants.variants.items (kinds c.variants.rest.now) (kinds c.in_ok-variant.after.now) c.in_ok-variant.variant (rw on refl) c.in_ok-variant.ensures (variant_shorter c.args.budget (kinds c.variants.rest.now) (view_variant c.in_ok-variant.variant) (kinds c.in_ok-variant.after.now) c.in_ok-variant.ensures) c.variants.invariant)

pub returns : goal.returns
returns c =
    let off : is_closed (kinds c.variants.rest.now) ≡ true = cc in
    going_end view_variant (variant_at c.args.budget) variants_end _ c.variants.variants.items (kinds c.variants.rest.now) (rw off refl) c.variants.invariant
