use Rattle.std.proofs.Common.{[], ◌∷◌, ◌++◌, Err, sym, ap, subst, ◌∙◌}
use Rattle.dis_file.specs.declared.object.Object.{Object}
use Rattle.dis_opening.specs.declared.fault.StartFault.{StartFault}
use Rattle.dis_machine.specs.Journal.{codes_of, start_of}
use Rattle.inferno_top.specs.Running.{IsCompiled}
use Rattle.inferno_top.proofs.Starts.{opens}
use Rattle.inferno_top.proofs.running.start.Goals as goal

pub reread-requires : goal.reread-requires
reread-requires c = record { valid = c.requires.compiled.1.made.valid }

pub unreachable-requires : goal.unreachable-requires
unreachable-requires c =
    let is = c.in-Err-Malformed.is ∙ ap (λ (f : StartFault). Err f) c.in-Err-Malformed.field-0-is in
    let pushed = c.push_reserved.ensures.items ∙ ap (λ l. l ++ (c.in_ok-name.name, c.in_ok-read.read) ∷ []) ((c.in_ok-objects.ensures {u =
    tt}).items) in
    let there = ap (λ l. start_of (codes_of l)) pushed in
    let own = subst (λ (o : Object). IsCompiled c.requires.compiled.0 o) (sym c.in_ok-read.ensures.same) c.requires.compiled.1 in
    opens c.requires.compiled.0 c.in_ok-read.read own (sym there ∙ c.start.ensures.refused is)
