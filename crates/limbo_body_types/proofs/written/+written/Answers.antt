use Rattle.std.proofs.Common.{true, false, List, map, refl, sym, ap, subst, ◌∙◌, arith}
use Rattle.std.proofs.lemmas.List.{take_all}
use Rattle.std.proofs.lemmas.Result.{IfOk-weaker, IfErr-weaker}
use Rattle.limbo_tree.specs.declared.types.TypeTree as code_type
use Rattle.limbo_tree.specs.Types as tree
use Rattle.limbo_tree.specs.View.{view_type, view_qual, tys_of}
use Rattle.limbo_tree.proofs.Exprs.{view_type-Byte, view_type-Int, view_type-Big, view_type-String, view_type-Ref, view_type-Named}
use Rattle.limbo_types.specs.Types as ty
use Rattle.limbo_types.specs.View.{view_tys}
use Rattle.limbo_types.proofs.View.{view_ty-Byte, view_ty-Int, view_ty-Big, view_ty-Chars, view_ty-Tuple}
use Rattle.limbo_context.specs.View.{view_context, view_body}
use Rattle.limbo_body_types.specs.Means as means
use Rattle.limbo_body_types.specs.Means.{AllMean}
use Rattle.limbo_body_types.specs.Fails.{of_array, of_list, of_chan, a_name, a_ref}
use Rattle.limbo_body_types.proofs.Composing.{means_as, mean_more, array_means, list_means, chan_means, of_parts, fails_as, fails_tuple, fails_part, fails_name}
use Rattle.limbo_body_types.proofs.written.+written.Goals as goal

pub tuple_in-returns-in-Err-clause-refused : goal.tuple_in-returns-in-Err-clause-refused
tuple_in-returns-in-Err-clause-refused t c =
    fails_part (view_context c.args.context.now) (view_body c.args.body.now) c.args.parts.now c.part-item.result
    (c.loop-part.part-index, omega arith, sym c.part-item.is) c.in-Err.fault c.in-Err.ensures.refused

pub tuple_in-loop-part-init : goal.tuple_in-loop-part-init
tuple_in-loop-part-init t c = rw c.new-types.ensures.items means.no_more

pub tuple_in-loop-part-preserved : goal.tuple_in-loop-part-preserved
tuple_in-loop-part-preserved t c =
    rw c.in_ok-push-in-Ok.ensures.items
    (mean_more (view_context c.args.context.now) (view_body c.args.body.now) c.args.parts.now c.loop-part.part-index c.part-item.result
    c.loop-part.types.items c.in-Ok.item (omega arith) c.part-item.is c.loop-part.invariant c.in-Ok.ensures.means)

pub tuple_in-returns-clause-means : goal.tuple_in-returns-clause-means
tuple_in-returns-clause-means t c =
    let all = subst (λ (z : List code_type.TypeTree). AllMean (view_context c.args.context.now) (view_body c.args.body.now) (tys_of (map view_type z))
    (view_tys c.loop-part.types.items)) (take_all c.loop-part.part-index c.args.parts.now (omega arith)) c.loop-part.invariant in
    means_as (view_context c.args.context.now) (view_body c.args.body.now) _ _ _ _ refl (view_ty-Tuple c.loop-part.types) (means.tuple _ _ all)

pub type_in-returns-in-Byte-clause-means : goal.type_in-returns-in-Byte-clause-means
type_in-returns-in-Byte-clause-means t c =
    means_as (view_context c.args.context.now) (view_body c.args.body.now) _ tree.Byte _ ty.Byte (ap view_type c.in-Byte.is ∙ view_type-Byte c.in-Byte.span)
    view_ty-Byte means.byte

pub type_in-returns-in-Int-clause-means : goal.type_in-returns-in-Int-clause-means
type_in-returns-in-Int-clause-means t c =
    means_as (view_context c.args.context.now) (view_body c.args.body.now) _ tree.Int _ ty.Int (ap view_type c.in-Int.is ∙ view_type-Int c.in-Int.span)
    view_ty-Int means.int

pub type_in-returns-in-Big-clause-means : goal.type_in-returns-in-Big-clause-means
type_in-returns-in-Big-clause-means t c =
    means_as (view_context c.args.context.now) (view_body c.args.body.now) _ tree.Big _ ty.Big (ap view_type c.in-Big.is ∙ view_type-Big c.in-Big.span)
    view_ty-Big means.big

pub type_in-returns-in-String-clause-means : goal.type_in-returns-in-String-clause-means
type_in-returns-in-String-clause-means t c =
    means_as (view_context c.args.context.now) (view_body c.args.body.now) _ tree.String _ ty.Chars
    (ap view_type c.in-String.is ∙ view_type-String c.in-String.span) view_ty-Chars means.chars

pub type_in-returns-in_ok-new-in-Ok-clause-means : goal.type_in-returns-in_ok-new-in-Ok-clause-means
type_in-returns-in_ok-new-in-Ok-clause-means t c =
    array_means (view_context c.args.context.now) (view_body c.args.body.now) c.args.t.now c.deref.result.now c.in-Array.element c.in-Array.span
    c.in_ok-new-in-Ok.field-0 c.in-Ok.item c.in-Array.is c.deref.ensures c.in_ok-new-in-Ok.ensures.ok c.in-Ok.ensures.means

pub type_in-returns-in-Err-clause-refused : goal.type_in-returns-in-Err-clause-refused
type_in-returns-in-Err-clause-refused t c =
    fails_as (view_context c.args.context.now) (view_body c.args.body.now) c.args.t.now c.in-Array.element.value c.deref.result.now
    (of_array c.in-Array.element c.in-Array.span c.in-Array.is) c.deref.ensures c.in-Err.fault c.in-Err.ensures.refused

pub type_in-returns-in_ok-new-in-Ok-type_in-clause-means : goal.type_in-returns-in_ok-new-in-Ok-type_in-clause-means
type_in-returns-in_ok-new-in-Ok-type_in-clause-means t c =
    list_means (view_context c.args.context.now) (view_body c.args.body.now) c.args.t.now c.deref-in-List.result.now c.in-List.element c.in-List.span
    c.in_ok-new-in-Ok-type_in.field-0 c.in-Ok-type_in.item c.in-List.is c.deref-in-List.ensures c.in_ok-new-in-Ok-type_in.ensures.ok c.in-Ok-type_in.ensures.means

pub type_in-returns-in-Err-type_in-clause-refused : goal.type_in-returns-in-Err-type_in-clause-refused
type_in-returns-in-Err-type_in-clause-refused t c =
    fails_as (view_context c.args.context.now) (view_body c.args.body.now) c.args.t.now c.in-List.element.value c.deref-in-List.result.now
    (of_list c.in-List.element c.in-List.span c.in-List.is) c.deref-in-List.ensures c.in-Err-type_in.fault c.in-Err-type_in.ensures.refused

pub type_in-returns-in_ok-new-in-Ok-type_in-2-clause-means : goal.type_in-returns-in_ok-new-in-Ok-type_in-2-clause-means
type_in-returns-in_ok-new-in-Ok-type_in-2-clause-means t c =
    chan_means (view_context c.args.context.now) (view_body c.args.body.now) c.args.t.now c.deref-in-Chan.result.now c.in-Chan.element c.in-Chan.span
    c.in_ok-new-in-Ok-type_in-2.field-0 c.in-Ok-type_in-2.item c.in-Chan.is c.deref-in-Chan.ensures c.in_ok-new-in-Ok-type_in-2.ensures.ok
    c.in-Ok-type_in-2.ensures.means

pub type_in-returns-in-Err-type_in-2-clause-refused : goal.type_in-returns-in-Err-type_in-2-clause-refused
type_in-returns-in-Err-type_in-2-clause-refused t c =
    fails_as (view_context c.args.context.now) (view_body c.args.body.now) c.args.t.now c.in-Chan.element.value c.deref-in-Chan.result.now
    (of_chan c.in-Chan.element c.in-Chan.span c.in-Chan.is) c.deref-in-Chan.ensures c.in-Err-type_in-2.fault c.in-Err-type_in-2.ensures.refused

pub type_in-returns-in-Ref-clause-means : goal.type_in-returns-in-Ref-clause-means
type_in-returns-in-Ref-clause-means t c =
    IfOk-weaker c.referred.result _ _ (λ x h.
    means_as (view_context c.args.context.now) (view_body c.args.body.now) _ (tree.RefTo (view_qual c.in-Ref.of)) _ _
    (ap view_type c.in-Ref.is ∙ view_type-Ref c.in-Ref.of c.in-Ref.span) refl h)
    c.referred.ensures.means

pub type_in-returns-in-Ref-clause-refused : goal.type_in-returns-in-Ref-clause-refused
type_in-returns-in-Ref-clause-refused t c =
    IfErr-weaker c.referred.result _ _ (λ x h.
    fails_name (view_context c.args.context.now) (view_body c.args.body.now) c.args.t.now c.in-Ref.of true c.in-Ref.span
    (a_ref c.args.t.now c.in-Ref.of c.in-Ref.span c.in-Ref.is) x h)
    c.referred.ensures.refused

pub type_in-returns-in-Named-clause-means : goal.type_in-returns-in-Named-clause-means
type_in-returns-in-Named-clause-means t c =
    IfOk-weaker c.named.result _ _ (λ x h.
    means_as (view_context c.args.context.now) (view_body c.args.body.now) _ (tree.Named (view_qual c.in-Named.name)) _ _
    (ap view_type c.in-Named.is ∙ view_type-Named c.in-Named.name c.in-Named.span) refl h)
    c.named.ensures.means

pub type_in-returns-in-Named-clause-refused : goal.type_in-returns-in-Named-clause-refused
type_in-returns-in-Named-clause-refused t c =
    IfErr-weaker c.named.result _ _ (λ x h.
    fails_name (view_context c.args.context.now) (view_body c.args.body.now) c.args.t.now c.in-Named.name false c.in-Named.span
    (a_name c.args.t.now c.in-Named.name c.in-Named.span c.in-Named.is) x h)
    c.named.ensures.refused

pub type_in-returns-in-Tuple-clause-means : goal.type_in-returns-in-Tuple-clause-means
type_in-returns-in-Tuple-clause-means t c =
    IfOk-weaker c.tuple_in.result _ _ (λ x h.
    means_as (view_context c.args.context.now) (view_body c.args.body.now) _ _ _ _
    (sym (of_parts c.args.t.now c.deref-in-Tuple.result.now c.in-Tuple.parts c.in-Tuple.span c.in-Tuple.is c.deref-in-Tuple.ensures.value)) refl h)
    c.tuple_in.ensures.means

pub type_in-returns-in-Tuple-clause-refused : goal.type_in-returns-in-Tuple-clause-refused
type_in-returns-in-Tuple-clause-refused t c =
    IfErr-weaker c.tuple_in.result _ _ (λ x h.
    fails_tuple (view_context c.args.context.now) (view_body c.args.body.now) c.args.t.now c.in-Tuple.parts c.in-Tuple.span c.in-Tuple.is x
    (rw c.deref-in-Tuple.ensures.value at h))
    c.tuple_in.ensures.refused
