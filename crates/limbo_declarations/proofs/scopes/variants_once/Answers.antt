use Rattle.std.proofs.Common.{◌≡◌, ℕ, ◌+◌, List, ◌∷◌, map, drop, ap, subst, sym, arith, rules}
use Rattle.std.proofs.lemmas.List.{at_drop_more}
use Rattle.std.proofs.lemmas.Result.{err_from_is_err_and}
use Rattle.inf_text.specs.declared.span.Span.{Span}
use Rattle.limbo_tree.specs.Decls.{Variant}
use Rattle.limbo_tree.specs.View.{view_variant}
use Rattle.limbo_declarations.specs.Names.{IsIndex}
use Rattle.limbo_declarations.specs.Scopes.{FieldsAreOnce}
use Rattle.limbo_declarations.specs.declared.scopes.OnceFault.TheVariants.{Twice}
use Rattle.limbo_declarations.proofs.Apart.{drop_more}
use Rattle.limbo_declarations.proofs.scopes.variants_once.Goals as goal

pub returns-in_err-variant_once-clause-twice : goal.returns-in_err-variant_once-clause-twice
returns-in_err-variant_once-clause-twice c =
    let rest = drop (c.loop-v.v-index + 1) c.args.variants.now in
    let s : map view_variant (drop c.loop-v.v-index c.args.variants.now) ≡ view_variant c.v-item.result ∷ map view_variant rest = drop_more view_variant c.loop-v.v-index c.args.variants.now c.v-item.result (omega arith) c.v-item.is in
    let k : (at : Span) (ns : List (List ℕ)) → c.in_err-variant_once.field-0.0 ≡ Twice at → IsIndex c.args.members.now ns → FieldsAreOnce ns (map view_variant c.args.variants.now) → ⊥ =
    λ at ns e h all.
    let f : FieldsAreOnce ns (view_variant c.v-item.result ∷ map view_variant rest) = subst (λ (vs : List Variant). FieldsAreOnce ns vs) s (c.loop-v.invariant.down ns all) in
    c.in_err-variant_once.ensures.twice at ns e h f.0 f.1 in
    let p = err_from_is_err_and c.from_residual.result c.from_residual.ensures.1 in
    rw (p.1, p.2) k

pub loop-v-preserved : goal.loop-v-preserved
loop-v-preserved c =
    let rest = drop (c.loop-v.v-index + 1) c.args.variants.now in
    let s : map view_variant (drop c.loop-v.v-index c.args.variants.now) ≡ view_variant c.v-item.result ∷ map view_variant rest = drop_more view_variant c.loop-v.v-index c.args.variants.now c.v-item.result (omega arith) c.v-item.is in
    record {
      up = λ ns h k. c.loop-v.invariant.up ns h (subst (λ (vs : List Variant). FieldsAreOnce ns vs) (sym s) (c.in_ok-variant_once.ensures.once, c.in_ok-variant_once.ensures.apart ns h, k));
      down = λ ns k. let f : FieldsAreOnce ns (view_variant c.v-item.result ∷ map view_variant rest) = subst (λ (vs : List Variant). FieldsAreOnce ns vs) s (c.loop-v.invariant.down ns k) in f.2;
    }
