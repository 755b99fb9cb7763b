use Rattle.std.proofs.Common.{◌≡◌, ◌∙◌, ℕ, List, [], Option, Some, None, refl, sym, ap, subst}
use Rattle.inferno_words.specs.declared.command.Command.{Command}
use Rattle.inferno_command.specs.Asked.{object_files}
use Rattle.limbo_command.proofs.Unchanged.{untouched}
use Rattle.inferno_top.specs.Compiling.{HasCompiled}
use Rattle.inferno_top.proofs.top.decide.Goals as goal

-- the files of a command, or none
abbrev files_or : Option (List ℕ × List ℕ) → List ℕ × List ℕ
files_or None = ([], [])
files_or (Some files) = files

pub returns-in-Ok-Some-Limbo-clause-compiled : goal.returns-in-Ok-Some-Limbo-clause-compiled
returns-in-Ok-Some-Limbo-clause-compiled g c file to asks =
    let i = c.in-Ok-Some-Limbo in
    let is = ap object_files (sym (i.field-0-is ∙ ap (λ (k : Command). Some k) i.field-0-0-is) ∙ i.ensures.asked) ∙ asks in
    subst (λ (z : List ℕ × List ℕ). HasCompiled (g.H.HostTree.told c.args.files.now) (g.H.HostTree.told c.limbo-cause.new.files) z.0 z.1
    (g.H.HostTree.faults c.args.files.now) (g.H.HostTree.faults c.limbo-cause.new.files) c.limbo-cause.result.1.journal
    c.limbo-cause.result.1.objects.items (g.K.Sink.held c.args.out.now) (g.K.Sink.held c.args.out.now) c.limbo-cause.result.0)
    (ap files_or is) c.limbo-cause.ensures.compiled

pub returns-in-Err-clause-compiled : goal.returns-in-Err-clause-compiled
returns-in-Err-clause-compiled g c file to asks = record {
  ran = record { unstarted = c.nothing-in-Err.ensures.0; none = c.nothing-in-Err.ensures.1; unwritten = refl };
  left = untouched _ _ to refl;
}
