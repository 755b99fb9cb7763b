use Rattle.std.proofs.Common.{ℕ, List, Option, Some, ◌∙◌, ap, refl}
use Rattle.inf_text.specs.Options.{◌>>=◌}
use Rattle.clap.specs.Words.{is_simple_and_free}
use Rattle.inferno_words.specs.Commands.{dump_in}
use Rattle.inferno_words.specs.Forms.{file_rule}
use Rattle.inferno_words.specs.declared.command.Command.TheVariants.{Dump}
use Rattle.inferno_words.proofs.Arguments.{has_value}
use Rattle.inferno_words.proofs.Places.{asked, taken, dump_simple, in_dump_file}
use Rattle.inferno_words.proofs.command.dump.Goals as goal

pub read-requires : goal.read-requires
read-requires c = ap is_simple_and_free c.in_ok-dump_form.ensures ∙ dump_simple

pub text_under-requires : goal.text_under-requires
text_under-requires c =
    let form = c.in_ok-dump_form.field-0 in
    let parsed = rw c.in-Some.is at c.in_ok-matches.ensures.parsed in
    has_value form 0 file_rule (in_dump_file form c.in_ok-dump_form.ensures) c.in-Some.matches parsed refl refl refl

pub returns-clause-asked : goal.returns-clause-asked
returns-clause-asked c = asked _ _ _ dump_in _ _ _ c.in_ok-dump_form.ensures c.in_ok-matches.ensures.read c.in-Some.is
    (ap (λ (o : Option (List ℕ)). o >>= λ file. Some (Dump file)) c.in_ok-file.ensures)

pub returns-clause-taken : goal.returns-clause-taken
returns-clause-taken c = taken _ _ _ _ _ c.in_ok-dump_form.ensures c.in_ok-matches.ensures.read c.in-Some.is
