use Rattle.std.proofs.Common.{ℕ, List, Option, Some, ◌∙◌, ap, ap₂, refl}
use Rattle.inf_text.specs.Options.{◌>>=◌}
use Rattle.clap.specs.Words.{is_simple_and_free}
use Rattle.inferno_words.specs.Commands.{limbo_in}
use Rattle.inferno_words.specs.Forms.{file_rule, out_rule}
use Rattle.inferno_words.specs.declared.command.Command.TheVariants.{Limbo}
use Rattle.inferno_words.proofs.Arguments.{has_value}
use Rattle.inferno_words.proofs.Places.{asked, taken, limbo_simple, in_limbo_file, in_limbo_out}
use Rattle.inferno_words.proofs.command.limbo.Goals as goal

pub read-requires : goal.read-requires
read-requires c = ap is_simple_and_free c.in_ok-limbo_form.ensures ∙ limbo_simple

pub text_under-requires : goal.text_under-requires
text_under-requires c =
    let form = c.in_ok-limbo_form.field-0 in
    let parsed = rw c.in-Some.is at c.in_ok-matches.ensures.parsed in
    has_value form 0 file_rule (in_limbo_file form c.in_ok-limbo_form.ensures) c.in-Some.matches parsed refl refl refl

pub text_under-requires-2 : goal.text_under-requires-2
text_under-requires-2 c =
    let form = c.in_ok-limbo_form.field-0 in
    let parsed = rw c.in-Some.is at c.in_ok-matches.ensures.parsed in
    has_value form 1 out_rule (in_limbo_out form c.in_ok-limbo_form.ensures) c.in-Some.matches parsed refl refl refl

pub returns-clause-asked : goal.returns-clause-asked
returns-clause-asked c = asked _ _ _ limbo_in _ _ _ c.in_ok-limbo_form.ensures c.in_ok-matches.ensures.read c.in-Some.is
    (ap₂ (λ (f o : Option (List ℕ)). f >>= λ file. o >>= λ out. Some (Limbo file out)) c.in_ok-file.ensures c.in_ok-out.ensures)

pub returns-clause-taken : goal.returns-clause-taken
returns-clause-taken c = taken _ _ _ _ _ c.in_ok-limbo_form.ensures c.in_ok-matches.ensures.read c.in-Some.is
