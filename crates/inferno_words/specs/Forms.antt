-- The forms of the commands' words (`go FILE [-q N] [--stats]`, `limbo FILE -o OUT`, `dump FILE`), as `clap` reads them.
use Rattle.std.specs.Prelude.{List, [], ◌∷◌, Option, Some, None, true, codes, pos}
use Rattle.clap.specs.Words.{App, Kinds, Row, Rule, Text, new_app, new_rule, with_rule, fault_of, matches_of}
use Rattle.clap.specs.declared.builder.action.ArgAction.TheVariants.{Set, SetTrue}
use Rattle.clap.specs.declared.builder.value_parser.ValueParser.TheVariants as vp

-- FILE: one word that is no option, and has to be there
abbrev pub file_rule : Rule
file_rule = record (new_rule (codes "file")) {
  action = Some Set;
  required = true;
}

-- `-q N` (113 is q): a number from 1 to 10,000,000
abbrev pub quanta_rule : Rule
quanta_rule = record (new_rule (codes "quanta")) {
  short = Some 113;
  action = Some Set;
  parser = Some (vp.Signed (pos 1) (pos 10000000));
}

-- `--stats`
abbrev pub stats_rule : Rule
stats_rule = record (new_rule (codes "stats")) {
  long = Some (codes "stats");
  action = Some SetTrue;
  parser = Some vp.Bool;
}

-- `-o OUT` (111 is o), which has to be there
abbrev pub out_rule : Rule
out_rule = record (new_rule (codes "out")) {
  short = Some 111;
  action = Some Set;
  required = true;
}

-- `go FILE [-q N] [--stats]`
unfoldable pub go_form : App
go_form = with_rule (with_rule (with_rule (new_app (codes "go")) file_rule) quanta_rule) stats_rule

-- `limbo FILE -o OUT`
unfoldable pub limbo_form : App
limbo_form = with_rule (with_rule (new_app (codes "limbo")) file_rule) out_rule

-- `dump FILE`
unfoldable pub dump_form : App
dump_form = with_rule (new_app (codes "dump")) file_rule

-- a value where nothing is at fault
abbrev pub if_faultless : {A : Type 0} → Kinds → A → Option A
if_faultless [] a = Some a
if_faultless (fault ∷ faults) a = None

-- what a form reads in the words, or none where it refuses them
unfoldable pub rows_by : App → List Text → Option (List Row)
rows_by form words = if_faultless (fault_of form words) (matches_of form words)
