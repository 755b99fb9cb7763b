use Rattle.std.proofs.Common.{◌≤◌, ◌∷◌, [], Some, sym, ap, ◌∙◌, subst, arith}
use Rattle.std.proofs.lemmas.Option.{slice_get_within}
use Rattle.slot_code.specs.View.{view_inst}
use Rattle.dis_objects.specs.Frames.{Prints, all_bytes, most_bytes, inst_count}
use Rattle.dis_objects.specs.Sites.{made_of}
use Rattle.dis_objects.proofs.Walks.{count_within}
use Rattle.dis_generation.specs.Site.{functions_of, function_of}
use Rattle.dis_generation.proofs.Steps.{to_making, behind_fits}
use Rattle.dis_generation.proofs.emit.emit_inst.Goals as goal

pub emit_begin-requires-clause-making : goal.emit_begin-requires-clause-making
emit_begin-requires-clause-making c = to_making c.args.site.now c.args.making.now c.args.pc c.requires.making

pub emit_begin-requires-clause-fits : goal.emit_begin-requires-clause-fits
emit_begin-requires-clause-fits c =
    behind_fits c.args.site.now (made_of c.args.making.now) c.args.pc _ c.requires.making.made (c.requires.there
    ∙ ap (λ i. Some (view_inst i)) c.in-Begin.is)

pub emit_begin-requires-in-Format-clause-making : goal.emit_begin-requires-in-Format-clause-making
emit_begin-requires-in-Format-clause-making c = to_making c.args.site.now c.args.making.now c.args.pc c.requires.making

pub emit_begin-requires-in-Format-clause-fits : goal.emit_begin-requires-in-Format-clause-fits
emit_begin-requires-in-Format-clause-fits c =
    subst (λ ps. all_bytes (functions_of c.args.site.now) (Prints ps ∷ made_of c.args.making.now)
    ≤ most_bytes (functions_of c.args.site.now) [] (function_of c.args.site.now).code) (sym c.as_slice.ensures.value)
    (behind_fits c.args.site.now (made_of c.args.making.now) c.args.pc _ c.requires.making.made (c.requires.there
    ∙ ap (λ i. Some (view_inst i)) c.in-Format.is))

pub emit_move-requires-clause-into : goal.emit_move-requires-clause-into
emit_move-requires-clause-into c = λ k. let n = count_within k (function_of c.args.site.now).code c.args.pc (view_inst c.args.inst.now)
    c.requires.there in let e = ap (λ i. inst_count k (view_inst i)) c.in-Move.is in omega (arith, n, e)

pub emit_move-requires-clause-from : goal.emit_move-requires-clause-from
emit_move-requires-clause-from c = λ k. let n = count_within k (function_of c.args.site.now).code c.args.pc (view_inst c.args.inst.now)
    c.requires.there in let e = ap (λ i. inst_count k (view_inst i)) c.in-Move.is in omega (arith, n, e)

pub emit_move-requires-in-Hand-clause-into : goal.emit_move-requires-in-Hand-clause-into
emit_move-requires-in-Hand-clause-into c = λ k. let n = count_within k (function_of c.args.site.now).code c.args.pc
    (view_inst c.args.inst.now) c.requires.there in let e = ap (λ i. inst_count k (view_inst i)) c.in-Hand.is in omega (arith, n, e)

pub emit_move-requires-in-Hand-clause-from : goal.emit_move-requires-in-Hand-clause-from
emit_move-requires-in-Hand-clause-from c = λ k. let n = count_within k (function_of c.args.site.now).code c.args.pc
    (view_inst c.args.inst.now) c.requires.there in let e = ap (λ i. inst_count k (view_inst i)) c.in-Hand.is in omega (arith, n, e)

pub emit_alter-requires-clause-into : goal.emit_alter-requires-clause-into
emit_alter-requires-clause-into c = λ k. let n = count_within k (function_of c.args.site.now).code c.args.pc (view_inst c.args.inst.now)
    c.requires.there in let e = ap (λ i. inst_count k (view_inst i)) c.in-Alter.is in omega (arith, n, e)

pub emit_alter-requires-clause-operand : goal.emit_alter-requires-clause-operand
emit_alter-requires-clause-operand c = λ k. let n = count_within k (function_of c.args.site.now).code c.args.pc (view_inst c.args.inst.now)
    c.requires.there in let e = ap (λ i. inst_count k (view_inst i)) c.in-Alter.is in omega (arith, n, e)

pub emit_operate-requires-clause-into : goal.emit_operate-requires-clause-into
emit_operate-requires-clause-into c = λ k. let n = count_within k (function_of c.args.site.now).code c.args.pc (view_inst c.args.inst.now)
    c.requires.there in let e = ap (λ i. inst_count k (view_inst i)) c.in-Operate.is in omega (arith, n, e)

pub emit_operate-requires-clause-left : goal.emit_operate-requires-clause-left
emit_operate-requires-clause-left c = λ k. let n = count_within k (function_of c.args.site.now).code c.args.pc (view_inst c.args.inst.now)
    c.requires.there in let e = ap (λ i. inst_count k (view_inst i)) c.in-Operate.is in omega (arith, n, e)

pub emit_operate-requires-clause-right : goal.emit_operate-requires-clause-right
emit_operate-requires-clause-right c = λ k. let n = count_within k (function_of c.args.site.now).code c.args.pc (view_inst c.args.inst.now)
    c.requires.there in let e = ap (λ i. inst_count k (view_inst i)) c.in-Operate.is in omega (arith, n, e)

pub emit_alter-requires-clause-within : goal.emit_alter-requires-clause-within
emit_alter-requires-clause-within c = let w = slice_get_within (function_of c.args.site.now).code c.args.pc (view_inst c.args.inst.now)
    c.requires.there in omega (arith, w)

pub emit_operate-requires-clause-within : goal.emit_operate-requires-clause-within
emit_operate-requires-clause-within c = let w = slice_get_within (function_of c.args.site.now).code c.args.pc (view_inst c.args.inst.now)
    c.requires.there in omega (arith, w)
