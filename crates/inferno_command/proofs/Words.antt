-- What the words name, by the command that they ask for.
use Rattle.std.proofs.Common.{◌≡◌, ◌∙◌, ℕ, List, Bool, true, refl, sym, ap}
use Rattle.std.specs.Prelude.{Option, Some, None}
use Rattle.inferno_words.specs.declared.command.Command.{Command}
use Rattle.inferno_words.specs.declared.command.Command.TheVariants.{Go, Limbo, Dump}
use Rattle.inferno_command.specs.Asked.{asked, run_file, run_quanta, listed_file, object_files, is_go_or_none}
use Rattle.inferno_command.specs.Words.{named_file, dumped_file, compiled_file, IsToRun, IsGoOrNone}

module _ (words : List (List ℕ)) where
  -- those of `go` name a file to be run
  pub to_run : (file : List ℕ) (quanta : ℕ) (stats : Bool) → Some (Go file quanta stats) ≡ asked words → IsToRun words file quanta
  to_run file quanta stats is = record { named = sym (ap run_file is); limited = sym (ap run_quanta is) }

  -- others name none
  pub unnamed : (command : Option Command) → command ≡ asked words → run_file command ≡ None → named_file words ≡ None
  unnamed command is none = sym (ap run_file is) ∙ none

  -- words that aren't those of `dump` name no file to be listed
  pub undumped : {A : Type 0} (command : Option Command) → command ≡ asked words → listed_file command ≡ None → (file : List ℕ)
      → dumped_file words ≡ Some file → A
  undumped command is none file named = let bad : None ≡ Some file = sym none ∙ ap listed_file is ∙ named in cc

  -- those of `dump` name one
  pub dumps : (file : List ℕ) → Some (Dump file) ≡ asked words → dumped_file words ≡ Some file
  dumps file is = sym (ap listed_file is)

  pub dumped_one : (file other : List ℕ) → Some (Dump file) ≡ asked words → dumped_file words ≡ Some other → file ≡ other
  dumped_one file other is named = let same : Some file ≡ Some other = ap listed_file is ∙ named in cc

  pub not_undumped : {A : Type 0} (file : List ℕ) → Some (Dump file) ≡ asked words → dumped_file words ≡ None → A
  not_undumped file is none = let bad : Some file ≡ None = ap listed_file is ∙ none in cc

-- words that name a file to be run are those of neither `dump` nor `limbo`
run_alone : (command : Option Command) (file : List ℕ) → run_file command ≡ Some file → is_go_or_none command ≡ true
run_alone (Some (Go file quanta stats)) other is = refl
run_alone (Some (Limbo file out)) other is = absurd cc
run_alone (Some (Dump file)) other is = absurd cc
run_alone None other is = absurd cc

pub named_go : (words : List (List ℕ)) (file : List ℕ) → named_file words ≡ Some file → IsGoOrNone words
named_go words file named = run_alone (asked words) file named

-- words are of the form of `dump`, of that of `limbo`, or of neither
by_command : {P : Type 0} (command : Option Command) → (is_go_or_none command ≡ true → P)
    → ((file : List ℕ) → listed_file command ≡ Some file → P) → ((file out : List ℕ) → object_files command ≡ Some (file, out) → P) → P
by_command None other dump limbo = other refl
by_command (Some (Go file quanta stats)) other dump limbo = other refl
by_command (Some (Dump file)) other dump limbo = dump file refl
by_command (Some (Limbo file out)) other dump limbo = limbo file out refl

pub by_form : {P : Type 0} (words : List (List ℕ)) → (IsGoOrNone words → P) → ((file : List ℕ) → dumped_file words ≡ Some file → P)
    → ((file out : List ℕ) → compiled_file words ≡ Some (file, out) → P) → P
by_form words other dump limbo = by_command (asked words) other dump limbo
