-- Where the arguments stand in the forms, and that the forms are simple.
use Rattle.std.proofs.Common.{◌≡◌, ◌∙◌, true, List, Option, Some, refl, sym, ap, subst, arith}
use Rattle.std.specs.Prelude.{is_some, option_map}
use Rattle.inf_text.specs.Options.{◌>>=◌}
use Rattle.clap.specs.Words.{App, Row, Text, app_of, found_of, rows_of, is_simple_and_free}
use Rattle.clap.specs.declared.builder.command.Command.{Command as Form}
use Rattle.clap.specs.declared.parser.matches.ArgMatches.{ArgMatches}
use Rattle.inferno_words.specs.declared.command.Command.{Command}
use Rattle.inferno_words.specs.Forms.{file_rule, quanta_rule, stats_rule, out_rule, go_form, limbo_form, dump_form, rows_by}
use Rattle.inferno_words.specs.Commands.{asked_by}
use Rattle.inferno_words.proofs.Arguments.{IsArgument}

pub go_simple : is_simple_and_free go_form ≡ true
unfolding go_form
go_simple = refl

pub limbo_simple : is_simple_and_free limbo_form ≡ true
unfolding limbo_form
limbo_simple = refl

pub dump_simple : is_simple_and_free dump_form ≡ true
unfolding dump_form
dump_simple = refl

go_file : IsArgument go_form 0 file_rule
unfolding go_form
go_file = record { plain = refl; simple = refl; free = refl; negates = refl; there = omega arith; at = λ d. refl; only = refl; own = refl }

go_quanta : IsArgument go_form 1 quanta_rule
unfolding go_form
go_quanta = record { plain = refl; simple = refl; free = refl; negates = refl; there = omega arith; at = λ d. refl; only = refl; own = refl }

go_stats : IsArgument go_form 2 stats_rule
unfolding go_form
go_stats = record { plain = refl; simple = refl; free = refl; negates = refl; there = omega arith; at = λ d. refl; only = refl; own = refl }

limbo_file : IsArgument limbo_form 0 file_rule
unfolding limbo_form
limbo_file = record { plain = refl; simple = refl; free = refl; negates = refl; there = omega arith; at = λ d. refl; only = refl; own = refl }

limbo_out : IsArgument limbo_form 1 out_rule
unfolding limbo_form
limbo_out = record { plain = refl; simple = refl; free = refl; negates = refl; there = omega arith; at = λ d. refl; only = refl; own = refl }

dump_file : IsArgument dump_form 0 file_rule
unfolding dump_form
dump_file = record { plain = refl; simple = refl; free = refl; negates = refl; there = omega arith; at = λ d. refl; only = refl; own = refl }

-- the same of a form of the code
module _ (form : Form) where
  pub in_go_file : app_of form ≡ go_form → IsArgument (app_of form) 0 file_rule
  in_go_file e = subst (λ (f : App). IsArgument f 0 file_rule) (sym e) go_file

  pub in_go_quanta : app_of form ≡ go_form → IsArgument (app_of form) 1 quanta_rule
  in_go_quanta e = subst (λ (f : App). IsArgument f 1 quanta_rule) (sym e) go_quanta

  pub in_go_stats : app_of form ≡ go_form → IsArgument (app_of form) 2 stats_rule
  in_go_stats e = subst (λ (f : App). IsArgument f 2 stats_rule) (sym e) go_stats

  pub in_limbo_file : app_of form ≡ limbo_form → IsArgument (app_of form) 0 file_rule
  in_limbo_file e = subst (λ (f : App). IsArgument f 0 file_rule) (sym e) limbo_file

  pub in_limbo_out : app_of form ≡ limbo_form → IsArgument (app_of form) 1 out_rule
  in_limbo_out e = subst (λ (f : App). IsArgument f 1 out_rule) (sym e) limbo_out

  pub in_dump_file : app_of form ≡ dump_form → IsArgument (app_of form) 0 file_rule
  in_dump_file e = subst (λ (f : App). IsArgument f 0 file_rule) (sym e) dump_file

-- the command that is made of what was read is the one that the words ask for
pub asked : (a form : App) (words : List Text) (command : List Row → Option Command) (found : Option ArgMatches) (m : ArgMatches) (c : Command) → a ≡ form
    → option_map (λ x. rows_of (found_of x)) found ≡ rows_by a words → found ≡ Some m → command (rows_of (found_of m)) ≡ Some c
    → Some c ≡ asked_by form command words
asked a form words command found m c same read is made =
    let rows : Some (rows_of (found_of m)) ≡ rows_by a words = rw is at read in
    sym made ∙ ap (λ (o : Option (List Row)). o >>= command) (rows ∙ ap (λ (f : App). rows_by f words) same)

-- and there is one where something was read
pub taken : (a form : App) (words : List Text) (found : Option ArgMatches) (m : ArgMatches) → a ≡ form
    → option_map (λ x. rows_of (found_of x)) found ≡ rows_by a words → found ≡ Some m → true ≡ is_some (rows_by form words)
taken a form words found m same read is =
    let rows : Some (rows_of (found_of m)) ≡ rows_by a words = rw is at read in
    ap (λ (o : Option (List Row)). is_some o) (rows ∙ ap (λ (f : App). rows_by f words) same)
