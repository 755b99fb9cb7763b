-- Words, and the commands that they ask for.
use Rattle.std.proofs.Common.{◌≡◌, true, false, [], ◌∷◌, Some, None, refl}
use Rattle.std.specs.Prelude.{codes}
use Rattle.std.specs.Str.{chars}
use Rattle.clap.proofs.OnLiterals.{clap_on_literals}
use Rattle.inferno_words.specs.declared.command.Command.TheVariants.{Go, Limbo, Dump}
use Rattle.inferno_words.specs.Forms.{go_form, limbo_form, dump_form, rows_by}
use Rattle.inferno_words.specs.Commands.{command_in}

plain : command_in (codes "go" ∷ codes "t.b" ∷ []) ≡ Some (Go (codes "t.b") 1000000 false)
unfolding go_form rows_by chars clap_on_literals
plain = refl

with_options : command_in (codes "go" ∷ codes "--stats" ∷ codes "-q" ∷ codes "5" ∷ codes "t.b" ∷ []) ≡ Some (Go (codes "t.b") 5 true)
unfolding go_form rows_by chars clap_on_literals
with_options = refl

attached : command_in (codes "go" ∷ codes "t.b" ∷ codes "-q=7" ∷ []) ≡ Some (Go (codes "t.b") 7 false)
unfolding go_form rows_by chars clap_on_literals
attached = refl

plus_sign : command_in (codes "go" ∷ codes "t.b" ∷ codes "-q+007" ∷ []) ≡ Some (Go (codes "t.b") 7 false)
unfolding go_form rows_by chars clap_on_literals
plus_sign = refl

most_quanta : command_in (codes "go" ∷ codes "t.b" ∷ codes "-q" ∷ codes "10000000" ∷ []) ≡ Some (Go (codes "t.b") 10000000 false)
unfolding go_form rows_by chars clap_on_literals
most_quanta = refl

no_quanta : command_in (codes "go" ∷ codes "t.b" ∷ codes "-q" ∷ codes "0" ∷ []) ≡ None
unfolding go_form rows_by chars clap_on_literals
no_quanta = refl

too_many_quanta : command_in (codes "go" ∷ codes "t.b" ∷ codes "-q" ∷ codes "10000001" ∷ []) ≡ None
unfolding go_form rows_by chars clap_on_literals
too_many_quanta = refl

twice : command_in (codes "go" ∷ codes "t.b" ∷ codes "-q" ∷ codes "5" ∷ codes "-q" ∷ codes "5" ∷ []) ≡ None
unfolding go_form rows_by chars clap_on_literals
twice = refl

stats_twice : command_in (codes "go" ∷ codes "t.b" ∷ codes "--stats" ∷ codes "--stats" ∷ []) ≡ None
unfolding go_form rows_by chars clap_on_literals
stats_twice = refl

two_files : command_in (codes "go" ∷ codes "t.b" ∷ codes "u.b" ∷ []) ≡ None
unfolding go_form rows_by chars clap_on_literals
two_files = refl

help : command_in (codes "go" ∷ codes "t.b" ∷ codes "--help" ∷ []) ≡ None
unfolding go_form rows_by chars clap_on_literals
help = refl

version : command_in (codes "go" ∷ codes "t.b" ∷ codes "-V" ∷ []) ≡ None
unfolding go_form rows_by chars clap_on_literals
version = refl

after_minus_signs : command_in (codes "go" ∷ codes "--" ∷ codes "-x" ∷ []) ≡ Some (Go (codes "-x") 1000000 false)
unfolding go_form rows_by chars clap_on_literals
after_minus_signs = refl

to_object : command_in (codes "limbo" ∷ codes "a.b" ∷ codes "-o" ∷ codes "a.dis" ∷ []) ≡ Some (Limbo (codes "a.b") (codes "a.dis"))
unfolding limbo_form rows_by chars clap_on_literals
to_object = refl

no_object : command_in (codes "limbo" ∷ codes "a.b" ∷ []) ≡ None
unfolding limbo_form rows_by chars clap_on_literals
no_object = refl

no_source : command_in (codes "limbo" ∷ codes "-o" ∷ codes "a.dis" ∷ []) ≡ None
unfolding limbo_form rows_by chars clap_on_literals
no_source = refl

listing : command_in (codes "dump" ∷ codes "a.dis" ∷ []) ≡ Some (Dump (codes "a.dis"))
unfolding dump_form rows_by chars clap_on_literals
listing = refl

listing_stats : command_in (codes "dump" ∷ codes "a.dis" ∷ codes "--stats" ∷ []) ≡ None
unfolding dump_form rows_by chars clap_on_literals
listing_stats = refl

only_help : command_in (codes "--help" ∷ []) ≡ None
only_help = refl

nothing : command_in [] ≡ None
nothing = refl
