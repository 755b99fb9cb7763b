use Rattle.std.proofs.lemmas.Result.{on_ok_weaker}
use Rattle.limbo_layout.specs.Adts.{Def, types_of}
use Rattle.limbo_layout.specs.View.{view_def}
use Rattle.limbo_adts.specs.Closed.{named_in, Visited}
use Rattle.limbo_adts.proofs.Found.{visited_more, named_fields}
use Rattle.limbo_adts.proofs.closing.visit_def.Goals as goal

pub returns : goal.returns
returns c =
    let d : Def = view_def c.args.def.now in
    let v : Visited (named_in (types_of d.fields)) c.args.search.now.marks.items c.args.search.now.found.items c.visit_fields.new.search.marks.items c.visit_fields.new.search.found.items =
    rw c.deref.ensures.value at c.in_ok-visit_fields.ensures in
    on_ok_weaker c.visit_variants.result
    (λ w. rw (named_fields d) (visited_more _ _ _ _ _ _ _ _ v (rw c.deref-2.ensures.value at w)))
    c.visit_variants.ensures
