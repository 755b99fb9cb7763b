use Rattle.std.proofs.Common.{Bool, Option, Some, ◌≡◌, ◌∙◌, ◌≤◌, ℕ, List, ap, ap₂, refl, sym, subst}
use Rattle.std.specs.Prelude.{codes, pos}
use Rattle.std.specs.Str.Parse.{ParsesUnsigned, ExplainsUnsignedError, HasUnsignedDigitsIfOk}
use Rattle.inf_text.specs.Options.{◌>>=◌}
use Rattle.clap.specs.Words.{is_simple_and_free, found_of, rows_of}
use Rattle.clap.specs.declared.builder.value_parser.ValueParser.TheVariants as vp
use Rattle.clap.proofs.WalkLemmas.{one_text-rows}
use Rattle.inferno_words.specs.Commands.{go_in, number_under, flag_under}
use Rattle.inferno_words.specs.Forms.{file_rule, quanta_rule, stats_rule}
use Rattle.inferno_words.specs.declared.command.Command.TheVariants.{Go}
use Rattle.inferno_words.proofs.Arguments.{has_value, reads_taken}
use Rattle.inferno_words.proofs.Places.{asked, taken, go_simple, in_go_file, in_go_quanta, in_go_stats}
use Rattle.inferno_words.proofs.Taken.{quanta_read, flag_read}
use Rattle.inferno_words.proofs.command.go.Goals as goal

pub read-requires : goal.read-requires
read-requires c = ap is_simple_and_free c.in_ok-go_form.ensures ∙ go_simple

pub text_under-requires : goal.text_under-requires
text_under-requires c =
    let form = c.in_ok-go_form.field-0 in
    let parsed = rw c.in-Some.is at c.in_ok-matches.ensures.parsed in
    has_value form 0 file_rule (in_go_file form c.in_ok-go_form.ensures) c.in-Some.matches parsed refl refl refl

quanta_is : (c : goal.Joined-matches-2)
    → (c.unwrap_or-quanta.result ≡ number_under (codes "quanta") 1000000 (rows_of (found_of c.in-Some.matches)))
    × (1 ≤ c.unwrap_or-quanta.result) × (c.unwrap_or-quanta.result ≤ 10000000)
quanta_is c =
    let form = c.in_ok-go_form.field-0 in
    let m = c.in-Some.matches in
    let parsed = rw c.in-Some.is at c.in_ok-matches.ensures.parsed in
    let same = one_text-rows (found_of m) (codes "quanta") in
    let read = quanta_read _ (λ bs r. ParsesUnsigned 32 10 bs r × ExplainsUnsignedError 10 bs r × HasUnsignedDigitsIfOk bs r)
    (rows_of (found_of m)) c.get_one.result (λ e. c.get_one.ensures.none (same ∙ e)) (λ t e. c.get_one.ensures.value t (same ∙ e)) (λ u x g. g.0)
    (reads_taken form 1 quanta_rule (in_go_quanta form c.in_ok-go_form.ensures) m parsed (vp.Signed (pos 1) (pos 10000000)) refl) in
    subst (λ (q : ℕ). (q ≡ number_under (codes "quanta") 1000000 (rows_of (found_of m))) × (1 ≤ q) × (q ≤ 10000000))
    (sym c.unwrap_or-quanta.ensures) read

pub returns-clause-asked : goal.returns-clause-asked
returns-clause-asked c =
    let form = c.in_ok-go_form.field-0 in
    let m = c.in-Some.matches in
    let rows = rows_of (found_of m) in
    let parsed = rw c.in-Some.is at c.in_ok-matches.ensures.parsed in
    let same = one_text-rows (found_of m) (codes "stats") in
    let stats = flag_read rows c.get_flag-stats.result (λ e. c.get_flag-stats.ensures.none (same ∙ e))
    (λ e. c.get_flag-stats.ensures.value (same ∙ e)) (λ e. c.get_flag-stats.ensures.other (same ∙ e))
    (reads_taken form 2 stats_rule (in_go_stats form c.in_ok-go_form.ensures) m parsed vp.Bool refl) in
    let made = ap (λ (o : Option (List ℕ)). o >>= λ file. Some (Go file (number_under (codes "quanta") 1000000 rows) (flag_under (codes "stats") rows)))
    c.in_ok-file.ensures
    ∙ ap₂ (λ (q : ℕ) (b : Bool). Some (Go c.in_ok-file.file q b)) (sym (quanta_is c).0) (sym stats) in
    asked _ _ _ go_in _ _ _ c.in_ok-go_form.ensures c.in_ok-matches.ensures.read c.in-Some.is made

pub returns-clause-bounds : goal.returns-clause-bounds
returns-clause-bounds c = ((quanta_is c).1, (quanta_is c).2)

pub returns-clause-taken : goal.returns-clause-taken
returns-clause-taken c = taken _ _ _ _ _ c.in_ok-go_form.ensures c.in_ok-matches.ensures.read c.in-Some.is
