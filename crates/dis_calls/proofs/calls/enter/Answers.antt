use Rattle.std.proofs.Common.{◌<◌, ◌+◌, length, ap, ◌∙◌, add-one, arith}
use Rattle.dis_meaning.specs.Counts.{in_frame}
use Rattle.dis_meaning.specs.Process.{at_pc}
use Rattle.dis_places.specs.declared.frame.Frame as code_frame
use Rattle.dis_places.specs.Frames.{view_frame}
use Rattle.dis_calls.proofs.Calling.{entered_once, entered_is, entered_names}
use Rattle.dis_calls.proofs.calls.enter.Goals as goal

pub invariant_of-process : goal.invariant_of-process
invariant_of-process c =
    let p = c.args.process.now in
    let lt : c.args.made < length p.made.items = let l = p.made.ok.0 in omega (arith, l, c.requires.made) in
    let r = c.replace-caller.result in
    let caller : code_frame.Frame = record { serial = r.serial; instance = r.instance; pc = r.pc + 1; words = r.words } in
    record {
      once = entered_once p c.args.made c.remove-frame.result c.replace-caller.new.dest caller _ _ lt c.remove-frame.ensures.value
          (ap (λ (f : code_frame.Frame). f.serial) c.replace-caller.ensures.after) (ap (λ (f : code_frame.Frame). f.serial) c.replace-caller.ensures.value)
          c.push_reserved.ensures.items c.remove-frame.ensures.items;
    }

pub returns-clause-enters : goal.returns-clause-enters
returns-clause-enters c =
    let p = c.args.process.now in
    let lt : c.args.made < length p.made.items = let l = p.made.ok.0 in omega (arith, l, c.requires.made) in
    let r = c.replace-caller.result in
    let caller : code_frame.Frame = record { serial = r.serial; instance = r.instance; pc = r.pc + 1; words = r.words } in
    λ g there. entered_is p c.args.made c.args.pc g c.remove-frame.result c.replace-caller.new.dest caller _ _ lt c.remove-frame.ensures.value there
    (ap view_frame c.replace-caller.ensures.after)
    (ap (λ (f : code_frame.Frame). at_pc (view_frame f) (f.pc + 1)) c.replace-caller.ensures.value ∙ ap (at_pc (view_frame p.frame)) (add-one p.frame.pc))
    c.push_reserved.ensures.items c.remove-frame.ensures.items

pub returns-clause-names : goal.returns-clause-names
returns-clause-names c =
    let p = c.args.process.now in
    let lt : c.args.made < length p.made.items = let l = p.made.ok.0 in omega (arith, l, c.requires.made) in
    let r = c.replace-caller.result in
    let caller : code_frame.Frame = record { serial = r.serial; instance = r.instance; pc = r.pc + 1; words = r.words } in
    λ n. entered_names n p c.args.made c.remove-frame.result c.replace-caller.new.dest caller _ _ lt c.remove-frame.ensures.value
    (ap (λ f. in_frame n (view_frame f)) c.replace-caller.ensures.after) (ap (λ f. in_frame n (view_frame f)) c.replace-caller.ensures.value)
    c.push_reserved.ensures.items c.remove-frame.ensures.items
