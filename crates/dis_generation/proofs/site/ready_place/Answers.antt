use Rattle.std.proofs.Common.{map, ap, arith}
use Rattle.slot_code.specs.View.{view_function}
use Rattle.dis_objects.specs.Frames.{argument_bytes, all_bytes}
use Rattle.dis_objects.specs.Sites.{view_callee}
use Rattle.dis_generation.specs.Site.{functions_of}
use Rattle.dis_generation.proofs.Ready.{argument_first, argument_within, block_small}
use Rattle.dis_generation.proofs.site.ready_place.Goals as goal

pub overflow_sub-result : goal.overflow_sub-result
overflow_sub-result c =
    let a = argument_first (map view_function c.as_slice-functions.result.now) (view_callee c.in-Some.callee) c.args.number in
    omega (arith, a, c.argument_place-within.ensures, c.first_place.ensures.value)

pub overflow_add-result : goal.overflow_add-result
overflow_add-result c =
    let w = argument_within (map view_function c.as_slice-functions.result.now) (view_callee c.in-Some.callee) c.args.number in
    let b = block_small _ _ _ _ _ _ _ c.requires.stands _ c.requires.making.fits in
    let e = ap (all_bytes (functions_of c.args.site.now)) c.in-Some.ensures in
    let same = ap (λ xs. argument_bytes (map view_function xs) (view_callee c.in-Some.callee)) c.as_slice-functions.ensures.value in
    omega (
      arith,
      w,
      b,
      e,
      same,
      c.bytes.ensures,
      c.requires.making.counted,
      c.argument_bytes.ensures,
      c.argument_place-within.ensures,
      c.first_place.ensures.value,
    )

pub returns-in-Some-clause-small : goal.returns-in-Some-clause-small
returns-in-Some-clause-small c =
    let w = argument_within (map view_function c.as_slice-functions.result.now) (view_callee c.in-Some.callee) c.args.number in
    let b = block_small _ _ _ _ _ _ _ c.requires.stands _ c.requires.making.fits in
    let e = ap (all_bytes (functions_of c.args.site.now)) c.in-Some.ensures in
    let same = ap (λ xs. argument_bytes (map view_function xs) (view_callee c.in-Some.callee)) c.as_slice-functions.ensures.value in
    omega (
      arith,
      w,
      b,
      e,
      same,
      c.bytes.ensures,
      c.requires.making.counted,
      c.argument_bytes.ensures,
      c.argument_place-within.ensures,
      c.first_place.ensures.value,
    )
