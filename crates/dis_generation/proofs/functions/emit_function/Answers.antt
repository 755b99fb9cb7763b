use Rattle.std.proofs.Common.{◌≡◌, ◌+◌, ◌<◌, ◌++◌, [], length, get_or, map, ap, ◌∙◌, arith}
use Rattle.slot_code.specs.View.{view_inst, view_function}
use Rattle.dis_objects.specs.Frames.{made_by, all_bytes}
use Rattle.dis_objects.specs.Code.{data_bytes, data_of, insts_code}
use Rattle.dis_objects.specs.Objects.{function_data}
use Rattle.dis_objects.specs.Sites.{made_of}
use Rattle.dis_generation.specs.Site.{context_of, functions_of, function_of}
use Rattle.dis_generation.proofs.Ready.{most_small}
use Rattle.dis_generation.proofs.Steps.{to_making, behind_fits, inst_seen, made_seen, bytes_small, code_more, data_more}
use Rattle.dis_generation.proofs.functions.emit_function.Goals as goal

pub inst_bytes-requires-clause-old_small : goal.inst_bytes-requires-clause-old_small
inst_bytes-requires-clause-old_small c =
    bytes_small c.args.site.now c.loop-pc.making c.requires.stands
    (to_making c.args.site.now c.loop-pc.making c.loop-pc.pc c.loop-pc.invariant.stands)

pub inst_bytes-requires-clause-small : goal.inst_bytes-requires-clause-small
inst_bytes-requires-clause-small c =
    let is = c.args.site.now.function.now.code.items in
    let same = c.deref-inst-items.ensures.value in
    let long = ap length same in
    let lt : c.loop-pc.pc < length is = omega (arith, long, c.loop-pc-test.true) in
    let at = c.inst-item.is ∙ ap (λ xs. get_or xs c.loop-pc.pc c.inst-item.result) same in
    let seen = inst_seen is c.loop-pc.pc c.inst-item.result lt at in
    let fits = behind_fits c.args.site.now (made_of c.loop-pc.making) c.loop-pc.pc (view_inst c.inst-item.result)
    c.loop-pc.invariant.stands.made seen in
    let most = most_small _ _ _ _ _ _ _ c.requires.stands in
    let e = ap (λ xs. all_bytes (map view_function xs) (made_by (made_of c.loop-pc.making) (view_inst c.inst-item.result)))
    c.as_slice-functions.ensures.value in
    omega (arith, fits, most, e)

pub emit_inst-requires-clause-there : goal.emit_inst-requires-clause-there
emit_inst-requires-clause-there c =
    let is = c.args.site.now.function.now.code.items in
    let same = c.deref-inst-items.ensures.value in
    let long = ap length same in
    let lt : c.loop-pc.pc < length is = omega (arith, long, c.loop-pc-test.true) in
    let at = c.inst-item.is ∙ ap (λ xs. get_or xs c.loop-pc.pc c.inst-item.result) same in
    inst_seen is c.loop-pc.pc c.inst-item.result lt at

pub loop-pc-preserved : goal.loop-pc-preserved
loop-pc-preserved c =
    let s = c.args.site.now in
    let is = s.function.now.code.items in
    let pc = c.loop-pc.pc in
    let next = c.loop-pc.next in
    let i = c.inst-item.result in
    let cs = made_of c.loop-pc.making in
    let new = made_of c.emit_inst.new.making in
    let same = c.deref-inst-items.ensures.value in
    let long = ap length same in
    let lt : pc < length is = omega (arith, long, c.loop-pc-test.true) in
    let at = c.inst-item.is ∙ ap (λ xs. get_or xs pc i) same in
    let seen = inst_seen is pc i lt at in
    let made = (c.in_ok-emit_inst.ensures {u = tt}).made in
    let step : next + c.inst_bytes.result ≡ next + data_bytes (data_of (functions_of s) (function_of s).answer cs (view_inst i)) =
    ap (λ n. next + n) (c.inst_bytes.ensures.value ∙ ap (λ xs. data_bytes
    (data_of (map view_function xs) s.function.now.answer cs (view_inst i))) c.as_slice-functions.ensures.value) in
    record {
      stands = record {
        counted = (c.in_ok-emit_inst.ensures {u = tt}).counted;
        made = made_seen (map view_inst is) pc (view_inst i) cs new seen c.loop-pc.invariant.stands.made made;
      };
      made = code_more (context_of s) cs new is pc next (next + c.inst_bytes.result) i lt at made step c.loop-pc.insts.items
          c.emit_inst.new.insts.items (c.args.insts.now.items ++ insts_code (context_of s) 0 c.args.at [] (function_of s).code)
          (c.in_ok-emit_inst.ensures {u = tt}).added c.loop-pc.invariant.made;
      counted = data_more (functions_of s) (function_of s).answer cs new is pc next (next + c.inst_bytes.result)
          (c.args.at + data_bytes (function_data (functions_of s) (function_of s))) i lt at made step c.loop-pc.invariant.counted;
    }
