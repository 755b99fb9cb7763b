use Rattle.std.proofs.Common.{map, subst, arith}
use Rattle.std.proofs.lemmas.Option.{slice_get_within}
use Rattle.dis_objects.specs.Sites.{IsCounted, view_callee, made_of}
use Rattle.slot_code.specs.View.{view_spot, view_function}
use Rattle.slot_code.specs.Code as code
use Rattle.dis_generation.specs.Site.{function_of}
use Rattle.dis_objects.proofs.Walks.{count_within}
use Rattle.dis_generation.proofs.Steps.{to_making, bytes_small, callee_small, ended}
use Rattle.dis_generation.proofs.emit.emit_call.Goals as goal

pub end-requires-clause-small : goal.end-requires-clause-small
end-requires-clause-small c =
    bytes_small c.args.site.now c.args.making.now c.requires.stands
    (to_making c.args.site.now c.args.making.now c.args.pc c.requires.making)

pub put_call-requires-clause-making : goal.put_call-requires-clause-making
put_call-requires-clause-making c =
    ended c.args.site.now c.args.making.now c.end.new.self (view_callee c.in-Some.callee)
    (to_making c.args.site.now c.args.making.now c.args.pc c.requires.making) c.in-Some.ensures.made
    (subst (λ xs. IsCounted (map view_function xs) c.end.new.self) c.as_slice.ensures.value c.end.ensures.counted)

pub put_call-requires-clause-callee : goal.put_call-requires-clause-callee
put_call-requires-clause-callee c =
    callee_small c.args.site.now c.args.making.now (view_callee c.in-Some.callee) (made_of c.end.new.self) c.requires.stands
    (to_making c.args.site.now c.args.making.now c.args.pc c.requires.making) c.in-Some.ensures.made

pub put_call-requires-clause-into : goal.put_call-requires-clause-into
put_call-requires-clause-into c = λ k. let n = count_within k (function_of c.args.site.now).code c.args.pc
    (code.Call c.args.kind c.args.function c.args.arguments (view_spot c.args.into)) c.requires.there in omega (arith, n)

pub put_call-requires-clause-there : goal.put_call-requires-clause-there
put_call-requires-clause-there c =
    let p = c.requires.stands.proper.each _ _ c.requires.there in
    slice_get_within _ _ _ p.0.there
