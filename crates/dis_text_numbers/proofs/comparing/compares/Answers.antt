use Rattle.std.proofs.Common.{ap, ◌∙◌, sym, if◌then◌else◌}
use Rattle.limbo_values.specs.Texts.{text_compared}
use Rattle.dis_meaning.specs.Words.{Found, ◌>>=◌}
use Rattle.dis_memory.specs.Operands.{target}
use Rattle.dis_memory.specs.Places.{memory}
use Rattle.dis_memory.specs.Process.{jumps, next}
use Rattle.dis_memory.specs.Strings as strings
use Rattle.dis_places.specs.View.{view_process, view_world}
use Rattle.dis_text_numbers.proofs.Branching.{goes_there}
use Rattle.dis_text_numbers.proofs.comparing.compares.Goals as goal

pub returns-in-Ok-target-clause-goes : goal.returns-in-Ok-target-clause-goes
returns-in-Ok-target-clause-goes c =
    let m = c.args.memory.now in
    let x = view_world m in
    let p = view_process c.args.process.now in
    let i = c.args.inst in
    let o = c.args.code.now.object in
    let k = c.args.comparison in
    let s = c.in-Ok.text.now in
    let t = c.in-Ok-middle_text.text.now in
    goes_there m c.args.process.now c.branch-process.new.process c.is_met-taken.result c.in-Ok-target.pc _ c.stands.ensures c.branch-process.ensures
    (ap (λ a. a >>= λ s. strings.given_text o x p i >>= λ t. target o i.dst >>= λ pc. Found (if text_compared k s t then jumps x p pc else next (memory x p))) c.in-Ok.ensures
    ∙ ap (λ a. a >>= λ t. target o i.dst >>= λ pc. Found (if text_compared k s t then jumps x p pc else next (memory x p))) c.in-Ok-middle_text.ensures
    ∙ ap (λ a. a >>= λ pc. Found (if text_compared k s t then jumps x p pc else next (memory x p))) c.in-Ok-target.ensures
    ∙ ap (λ b. Found (if b then jumps x p c.in-Ok-target.pc else next (memory x p))) (sym c.is_met-taken.ensures))
