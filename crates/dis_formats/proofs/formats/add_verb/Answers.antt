use Rattle.std.proofs.Common.{◌*◌, ap, ◌∙◌, rules}
use Rattle.std.specs.Fmt.{signed_decimal}
use Rattle.dis_meaning.specs.Formats.{in_front}
use Rattle.dis_places.specs.Regions.{words_here}
use Rattle.dis_places.specs.View.{view_world}
use Rattle.dis_formats.specs.Formatting.{told}
use Rattle.dis_formats.proofs.Fronts.{big_added, text_added, int_verb_added}
use Rattle.dis_formats.proofs.formats.add_verb.Goals as goal

pub returns-in_ok-push_decimal-in-BigDecimal-clause-adds : goal.returns-in_ok-push_decimal-in-BigDecimal-clause-adds
returns-in_ok-push_decimal-in-BigDecimal-clause-adds c =
    let x = view_world c.args.memory.now in
    let words = words_here c.args.memory.now.heap c.args.process.now c.args.region in
    let old = c.args.text.now in
    let k = c.args.next in
    λ rest. ap (λ v. in_front old (told x words v (4 * k) rest)) c.in-BigDecimal.is
    ∙ big_added x words old c.push_decimal.new.text k rest signed_decimal c.in_ok-big_at-in-BigDecimal.field-0 c.next_multiple_of-first.result
    (search rules) (c.in_ok-big_at-in-BigDecimal.ensures {u = tt}) (search rules)

pub returns-in_ok-push_codes-in-Characters-clause-adds : goal.returns-in_ok-push_codes-in-Characters-clause-adds
returns-in_ok-push_codes-in-Characters-clause-adds c =
    let x = view_world c.args.memory.now in
    let words = words_here c.args.memory.now.heap c.args.process.now c.args.region in
    let old = c.args.text.now in
    let k = c.args.next in
    λ rest. ap (λ v. in_front old (told x words v (4 * k) rest)) c.in-Characters.is
    ∙ text_added x words old c.push_codes.new.text k rest c.in_ok-text_in-in-Characters.field-0.now (c.in_ok-text_in-in-Characters.ensures {u = tt})
    (search rules)

pub returns-in_ok-push_int-in_default-clause-adds : goal.returns-in_ok-push_int-in_default-clause-adds
returns-in_ok-push_int-in_default-clause-adds c =
    let x = view_world c.args.memory.now in
    let words = words_here c.args.memory.now.heap c.args.process.now c.args.region in
    int_verb_added x words c.args.text.now c.push_int.new.text c.args.next c.args.verb c.in_ok-int_at-in_default.field-0
    c.in_default.not-Percent c.in_default.not-BigDecimal c.in_default.not-Characters (c.in_ok-int_at-in_default.ensures {u = tt})
    (search rules)
