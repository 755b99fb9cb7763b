use Rattle.std.proofs.Common.{true, false, List, map, refl, sym, ap, subst, ◌∙◌, arith}
use Rattle.std.proofs.lemmas.List.{take_all}
use Rattle.std.proofs.lemmas.Result.{IfOk-weaker, IfErr-weaker}
use Rattle.limbo_tree.specs.declared.types.TypeTree as code_type
use Rattle.limbo_tree.specs.Types as tree
use Rattle.limbo_tree.specs.View.{view_type, view_qual, tys_of}
use Rattle.limbo_tree.proofs.Exprs.{view_type-Byte, view_type-Int, view_type-Big, view_type-String, view_type-Array, view_type-List, view_type-Chan, view_type-Ref, view_type-Named}
use Rattle.limbo_types.specs.Types as ty
use Rattle.limbo_types.specs.View.{view_tys}
use Rattle.limbo_types.proofs.View.{view_ty-Byte, view_ty-Int, view_ty-Big, view_ty-Chars, view_ty-Tuple}
use Rattle.limbo_type_names.specs.Means as means
use Rattle.limbo_type_names.specs.Means.{Means, AllMean}
use Rattle.limbo_type_names.specs.Writes.{of_array, of_list, of_chan, a_name, a_ref, Fails}
use Rattle.limbo_type_names.specs.Working.{entries_in}
use Rattle.limbo_type_names.proofs.Composing.{mean_more, sizes_more, fails_in, fails_tuple, fails_part, fails_name, ready_same, ready_part, in_array, in_list, in_chan, in_ref, in_named, in_tuple, of_parts, means_as, below_array, below_list, below_chan, below_tuple, below_part}
use Rattle.limbo_type_names.proofs.meaning.+meaning.Goals as goal

pub tuple_in-loop-part-init : goal.tuple_in-loop-part-init
tuple_in-loop-part-init t c =
    record {
      means = rw c.new-types.ensures.items (means.no_more c.args.scope);
      nodes = rw c.new-types.ensures.items refl;
      small = omega arith;
    }

pub tuple_in-type_in-requires : goal.tuple_in-type_in-requires
tuple_in-type_in-requires t c =
    let d = below_part c.args.parts.now c.loop-part.part-index c.part-item.result (omega arith) c.part-item.is in
    (omega arith, (c.requires.sees, ready_part c.args.known c.args.scope c.args.parts.now c.loop-part.part-index c.part-item.result (omega arith) c.part-item.is c.requires.ready))

pub tuple_in-returns-in-Err-clause-fails : goal.tuple_in-returns-in-Err-clause-fails
tuple_in-returns-in-Err-clause-fails t c =
    let n = c.args.known.naming.now in
    fails_part (entries_in n) n.implemented c.args.scope c.args.parts.now c.part-item.result (c.loop-part.part-index, omega arith, sym c.part-item.is) c.in-Err.fault
    c.in-Err.ensures.fails

pub tuple_in-loop-part-preserved : goal.tuple_in-loop-part-preserved
tuple_in-loop-part-preserved t c =
    let n = c.args.known.naming.now in
    let us = c.loop-part.types.items in
    let u = c.in-Ok.item.ty in
    record {
      means = rw c.in_ok-push-in-Ok.ensures.items
          (mean_more (entries_in n) n.implemented c.args.scope c.args.parts.now c.loop-part.part-index c.part-item.result us u (omega arith) c.part-item.is
          c.loop-part.invariant.means c.in-Ok.ensures.means);
      nodes = rw c.in_ok-push-in-Ok.ensures.items
          (let a = sizes_more us u in let b = c.in-Ok.item.counted in let s = c.in_ok-nodes-in-Ok.ensures.sum in let h = c.loop-part.invariant.nodes in omega arith);
      small = c.in_ok-nodes-in-Ok.ensures.small;
    }

pub tuple_in-returns-clause-means : goal.tuple_in-returns-clause-means
tuple_in-returns-clause-means t c =
    let n = c.args.known.naming.now in
    let all = subst (λ (z : List code_type.TypeTree). AllMean (entries_in n) n.implemented c.args.scope (tys_of (map view_type z)) (view_tys c.loop-part.types.items))
    (take_all c.loop-part.part-index c.args.parts.now (omega arith)) c.loop-part.invariant.means in
    means_as (entries_in n) n.implemented c.args.scope _ _ _ _ refl (view_ty-Tuple c.loop-part.types) (means.tuple c.args.scope _ _ all)

pub type_in-type_in-requires : goal.type_in-type_in-requires
type_in-type_in-requires t c =
    let d = below_array c.args.of.now c.deref.result.now c.in-Array.element c.in-Array.span c.in-Array.is c.deref.ensures in
    (omega arith, (c.requires.sees, ready_same c.args.known c.args.scope _ _ (in_array c.args.of.now c.deref.result.now c.in-Array.element c.in-Array.span c.in-Array.is c.deref.ensures) c.requires.ready))

pub type_in-type_in-requires-in-List : goal.type_in-type_in-requires-in-List
type_in-type_in-requires-in-List t c =
    let d = below_list c.args.of.now c.deref-in-List.result.now c.in-List.element c.in-List.span c.in-List.is c.deref-in-List.ensures in
    (omega arith, (c.requires.sees, ready_same c.args.known c.args.scope _ _ (in_list c.args.of.now c.deref-in-List.result.now c.in-List.element c.in-List.span c.in-List.is c.deref-in-List.ensures) c.requires.ready))

pub type_in-type_in-requires-in-Chan : goal.type_in-type_in-requires-in-Chan
type_in-type_in-requires-in-Chan t c =
    let d = below_chan c.args.of.now c.deref-in-Chan.result.now c.in-Chan.element c.in-Chan.span c.in-Chan.is c.deref-in-Chan.ensures in
    (omega arith, (c.requires.sees, ready_same c.args.known c.args.scope _ _ (in_chan c.args.of.now c.deref-in-Chan.result.now c.in-Chan.element c.in-Chan.span c.in-Chan.is c.deref-in-Chan.ensures) c.requires.ready))

pub type_in-referred-requires-clause-ready : goal.type_in-referred-requires-clause-ready
type_in-referred-requires-clause-ready t c =
    ready_same c.args.known c.args.scope _ _ (in_ref c.args.of.now c.in-Ref.of c.in-Ref.span c.in-Ref.is) c.requires.ready

pub type_in-named-requires-clause-ready : goal.type_in-named-requires-clause-ready
type_in-named-requires-clause-ready t c =
    ready_same c.args.known c.args.scope _ _ (in_named c.args.of.now c.in-Named.name c.in-Named.span c.in-Named.is) c.requires.ready

pub type_in-tuple_in-requires : goal.type_in-tuple_in-requires
type_in-tuple_in-requires t c =
    let d = below_tuple c.args.of.now c.deref-in-Tuple.result.now c.in-Tuple.parts c.in-Tuple.span c.in-Tuple.is c.deref-in-Tuple.ensures.value in
    (omega arith, (c.requires.sees, ready_same c.args.known c.args.scope _ _ (in_tuple c.args.of.now c.deref-in-Tuple.result.now c.in-Tuple.parts c.in-Tuple.span c.in-Tuple.is c.deref-in-Tuple.ensures.value) c.requires.ready))

pub type_in-returns-in-Byte-clause-means : goal.type_in-returns-in-Byte-clause-means
type_in-returns-in-Byte-clause-means t c =
    let n = c.args.known.naming.now in
    means_as (entries_in n) n.implemented c.args.scope _ tree.Byte _ ty.Byte (ap view_type c.in-Byte.is ∙ view_type-Byte c.in-Byte.span) (c.leaf.ensures ∙ view_ty-Byte)
    (means.byte c.args.scope)

pub type_in-returns-in-Int-clause-means : goal.type_in-returns-in-Int-clause-means
type_in-returns-in-Int-clause-means t c =
    let n = c.args.known.naming.now in
    means_as (entries_in n) n.implemented c.args.scope _ tree.Int _ ty.Int (ap view_type c.in-Int.is ∙ view_type-Int c.in-Int.span) (c.leaf-in-Int.ensures ∙ view_ty-Int)
    (means.int c.args.scope)

pub type_in-returns-in-Big-clause-means : goal.type_in-returns-in-Big-clause-means
type_in-returns-in-Big-clause-means t c =
    let n = c.args.known.naming.now in
    means_as (entries_in n) n.implemented c.args.scope _ tree.Big _ ty.Big (ap view_type c.in-Big.is ∙ view_type-Big c.in-Big.span) (c.leaf-in-Big.ensures ∙ view_ty-Big)
    (means.big c.args.scope)

pub type_in-returns-in-String-clause-means : goal.type_in-returns-in-String-clause-means
type_in-returns-in-String-clause-means t c =
    let n = c.args.known.naming.now in
    means_as (entries_in n) n.implemented c.args.scope _ tree.String _ ty.Chars (ap view_type c.in-String.is ∙ view_type-String c.in-String.span) (c.leaf-in-String.ensures ∙ view_ty-Chars)
    (means.chars c.args.scope)

pub type_in-returns-in_ok-array_of-in-Ok-clause-means : goal.type_in-returns-in_ok-array_of-in-Ok-clause-means
type_in-returns-in_ok-array_of-in-Ok-clause-means t c =
    let n = c.args.known.naming.now in
    means_as (entries_in n) n.implemented c.args.scope _ (tree.ArrayOf (view_type c.in-Array.element.value)) _ _ (ap view_type c.in-Array.is ∙ view_type-Array c.in-Array.element c.in-Array.span)
    c.in_ok-array_of-in-Ok.ensures
    (means.array c.args.scope _ _ (rw c.deref.ensures at c.in-Ok.ensures.means))

pub type_in-returns-in-Err-clause-fails : goal.type_in-returns-in-Err-clause-fails
type_in-returns-in-Err-clause-fails t c =
    let n = c.args.known.naming.now in
    fails_in (entries_in n) n.implemented c.args.scope c.args.of.now c.in-Array.element.value (of_array c.in-Array.element c.in-Array.span c.in-Array.is) c.in-Err.fault
    (subst (λ (z : code_type.TypeTree). Fails (entries_in n) n.implemented c.args.scope z c.in-Err.fault) c.deref.ensures c.in-Err.ensures.fails)

pub type_in-returns-in_ok-list_of-in-Ok-type_in-clause-means : goal.type_in-returns-in_ok-list_of-in-Ok-type_in-clause-means
type_in-returns-in_ok-list_of-in-Ok-type_in-clause-means t c =
    let n = c.args.known.naming.now in
    means_as (entries_in n) n.implemented c.args.scope _ (tree.ListOf (view_type c.in-List.element.value)) _ _ (ap view_type c.in-List.is ∙ view_type-List c.in-List.element c.in-List.span)
    c.in_ok-list_of-in-Ok-type_in.ensures
    (means.list c.args.scope _ _ (rw c.deref-in-List.ensures at c.in-Ok-type_in.ensures.means))

pub type_in-returns-in-Err-type_in-clause-fails : goal.type_in-returns-in-Err-type_in-clause-fails
type_in-returns-in-Err-type_in-clause-fails t c =
    let n = c.args.known.naming.now in
    fails_in (entries_in n) n.implemented c.args.scope c.args.of.now c.in-List.element.value (of_list c.in-List.element c.in-List.span c.in-List.is) c.in-Err-type_in.fault
    (subst (λ (z : code_type.TypeTree). Fails (entries_in n) n.implemented c.args.scope z c.in-Err-type_in.fault) c.deref-in-List.ensures c.in-Err-type_in.ensures.fails)

pub type_in-returns-in_ok-chan_of-in-Ok-type_in-2-clause-means : goal.type_in-returns-in_ok-chan_of-in-Ok-type_in-2-clause-means
type_in-returns-in_ok-chan_of-in-Ok-type_in-2-clause-means t c =
    let n = c.args.known.naming.now in
    means_as (entries_in n) n.implemented c.args.scope _ (tree.ChanOf (view_type c.in-Chan.element.value)) _ _ (ap view_type c.in-Chan.is ∙ view_type-Chan c.in-Chan.element c.in-Chan.span)
    c.in_ok-chan_of-in-Ok-type_in-2.ensures
    (means.chan c.args.scope _ _ (rw c.deref-in-Chan.ensures at c.in-Ok-type_in-2.ensures.means))

pub type_in-returns-in-Err-type_in-2-clause-fails : goal.type_in-returns-in-Err-type_in-2-clause-fails
type_in-returns-in-Err-type_in-2-clause-fails t c =
    let n = c.args.known.naming.now in
    fails_in (entries_in n) n.implemented c.args.scope c.args.of.now c.in-Chan.element.value (of_chan c.in-Chan.element c.in-Chan.span c.in-Chan.is) c.in-Err-type_in-2.fault
    (subst (λ (z : code_type.TypeTree). Fails (entries_in n) n.implemented c.args.scope z c.in-Err-type_in-2.fault) c.deref-in-Chan.ensures c.in-Err-type_in-2.ensures.fails)

pub type_in-returns-in-Ref-clause-means : goal.type_in-returns-in-Ref-clause-means
type_in-returns-in-Ref-clause-means t c =
    let n = c.args.known.naming.now in
    IfOk-weaker c.referred.result _ _ (λ x h.
    means_as (entries_in n) n.implemented c.args.scope _ (tree.RefTo (view_qual c.in-Ref.of)) _ _ (ap view_type c.in-Ref.is ∙ view_type-Ref c.in-Ref.of c.in-Ref.span) refl h)
    c.referred.ensures.means

pub type_in-returns-in-Ref-clause-fails : goal.type_in-returns-in-Ref-clause-fails
type_in-returns-in-Ref-clause-fails t c =
    let n = c.args.known.naming.now in
    IfErr-weaker c.referred.result _ _ (λ x h.
    fails_name (entries_in n) n.implemented c.args.scope c.args.of.now c.in-Ref.of true c.in-Ref.span (a_ref c.args.of.now c.in-Ref.of c.in-Ref.span c.in-Ref.is) x h)
    c.referred.ensures.fails

pub type_in-returns-in-Named-clause-means : goal.type_in-returns-in-Named-clause-means
type_in-returns-in-Named-clause-means t c =
    let n = c.args.known.naming.now in
    IfOk-weaker c.named.result _ _ (λ x h.
    means_as (entries_in n) n.implemented c.args.scope _ (tree.Named (view_qual c.in-Named.name)) _ _ (ap view_type c.in-Named.is ∙ view_type-Named c.in-Named.name c.in-Named.span) refl h)
    c.named.ensures.means

pub type_in-returns-in-Named-clause-fails : goal.type_in-returns-in-Named-clause-fails
type_in-returns-in-Named-clause-fails t c =
    let n = c.args.known.naming.now in
    IfErr-weaker c.named.result _ _ (λ x h.
    fails_name (entries_in n) n.implemented c.args.scope c.args.of.now c.in-Named.name false c.in-Named.span (a_name c.args.of.now c.in-Named.name c.in-Named.span c.in-Named.is) x h)
    c.named.ensures.fails

pub type_in-returns-in-Tuple-clause-means : goal.type_in-returns-in-Tuple-clause-means
type_in-returns-in-Tuple-clause-means t c =
    let n = c.args.known.naming.now in
    IfOk-weaker c.tuple_in.result _ _ (λ x h.
    means_as (entries_in n) n.implemented c.args.scope _ _ _ _ (sym (of_parts c.args.of.now c.deref-in-Tuple.result.now c.in-Tuple.parts c.in-Tuple.span c.in-Tuple.is c.deref-in-Tuple.ensures.value)) refl h)
    c.tuple_in.ensures.means

pub type_in-returns-in-Tuple-clause-fails : goal.type_in-returns-in-Tuple-clause-fails
type_in-returns-in-Tuple-clause-fails t c =
    let n = c.args.known.naming.now in
    IfErr-weaker c.tuple_in.result _ _ (λ x h.
    fails_tuple (entries_in n) n.implemented c.args.scope c.args.of.now c.in-Tuple.parts c.in-Tuple.span c.in-Tuple.is x (rw c.deref-in-Tuple.ensures.value at h))
    c.tuple_in.ensures.fails
