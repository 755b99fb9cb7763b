use Rattle.std.proofs.Common.{◌≡◌, ◌∙◌, ◌*◌, ◌∷◌, [], length, false, sym, ap, rules, tests, subst, arith}
use Rattle.std.specs.Prelude.{◌==◌}
use Rattle.std.proofs.lemmas.Result.{err_from_is_err_and}
use Rattle.dis_meaning.proofs.Formats.{front_more}
use Rattle.dis_meaning.specs.Formats.{in_front}
use Rattle.dis_memory.specs.Formats.{formatted}
use Rattle.dis_places.specs.Regions.{words_here}
use Rattle.dis_places.specs.View.{view_world}
use Rattle.dis_places.specs.Words.{Halts}
use Rattle.dis_formats.specs.Formatting.{told, IsVerb}
use Rattle.dis_formats.proofs.Parts.{character_told}
use Rattle.dis_formats.proofs.Fronts.{front_halts}
use Rattle.dis_formats.proofs.formats.formatted.Goals as goal

pub loop-c-preserved-then-c-ne-PERCENT : goal.loop-c-preserved-then-c-ne-PERCENT
loop-c-preserved-then-c-ne-PERCENT c =
    let x = view_world c.args.memory.now in
    let words = words_here c.args.memory.now.heap c.args.process.now c.args.region in
    let from = 4 * c.loop-c.next in
    let ch = c.in-Some.c.now in
    let more = c.in-Some.more.now in
    let text = c.loop-c.text in
    let other : (ch == 37) ≡ false = search (rules, tests) in
    let rest : c.loop-c.rest.now ≡ ch ∷ more = c.in-Some.ensures.cases.0 in
    let few = c.loop-c.invariant.few in
    record {
      whole =
          ap (λ t. in_front t (formatted x words more from)) (c.in_ok-push_code.ensures {u = tt}).ok
          ∙ sym (front_more text (ch ∷ []) (formatted x words more from))
          ∙ ap (in_front text) (sym (character_told x words ch more from other))
          ∙ ap (λ l. in_front text (formatted x words l from)) (sym rest)
          ∙ c.loop-c.invariant.whole;
      few = let l = ap length rest in omega (arith, few, l);
    }

pub loop-c-preserved : goal.loop-c-preserved
loop-c-preserved c =
    let x = view_world c.args.memory.now in
    let words = words_here c.args.memory.now.heap c.args.process.now c.args.region in
    let from = 4 * c.loop-c.next in
    let ch = c.in-Some.c.now in
    let more = c.in-Some.more.now in
    let text = c.loop-c.text in
    let percent : ch ≡ 37 = search (rules, tests) in
    let rest : c.loop-c.rest.now ≡ ch ∷ more = c.in-Some.ensures.cases.0 in
    let few = c.loop-c.invariant.few in
    let behind = c.in-Some-verb_of.behind.now in
    record {
      whole =
          sym ((c.in_ok-next.ensures {u = tt}).adds (formatted x words behind))
          ∙ ap (in_front text) (sym (c.in-Some-verb_of.ensures.verb x words from))
          ∙ ap (λ k. in_front text (formatted x words (k ∷ more) from)) (sym percent)
          ∙ ap (λ l. in_front text (formatted x words l from)) (sym rest)
          ∙ c.loop-c.invariant.whole;
      few =
          let l = ap length rest in
          let w = (c.in_ok-next.ensures {u = tt}).within in
          let s = c.in-Some-verb_of.ensures.shorter in
          omega (arith, few, l, w, s);
    }

pub returns-in_default-verb_of : goal.returns-in_default-verb_of
returns-in_default-verb_of c =
    let x = view_world c.args.memory.now in
    let words = words_here c.args.memory.now.heap c.args.process.now c.args.region in
    let from = 4 * c.loop-c.next in
    let ch = c.in-Some.c.now in
    let more = c.in-Some.more.now in
    let text = c.loop-c.text in
    let percent : ch ≡ 37 = search (rules, tests) in
    let rest : c.loop-c.rest.now ≡ ch ∷ more = c.in-Some.ensures.cases.0 in
    let none = subst (λ r. IsVerb r more) c.in_default-verb_of.is c.verb_of.ensures.verb in
    sym c.loop-c.invariant.whole
    ∙ ap (λ l. in_front text (formatted x words l from)) rest
    ∙ ap (λ k. in_front text (formatted x words (k ∷ more) from)) percent
    ∙ ap (in_front text) (none x words from)

pub returns-in_err-next : goal.returns-in_err-next
returns-in_err-next c =
    let x = view_world c.args.memory.now in
    let words = words_here c.args.memory.now.heap c.args.process.now c.args.region in
    let from = 4 * c.loop-c.next in
    let ch = c.in-Some.c.now in
    let more = c.in-Some.more.now in
    let text = c.loop-c.text in
    let halt = c.in_err-next.field-0.0 in
    let behind = c.in-Some-verb_of.behind.now in
    let percent : ch ≡ 37 = search (rules, tests) in
    let rest : c.loop-c.rest.now ≡ ch ∷ more = c.in-Some.ensures.cases.0 in
    let whole : formatted x words c.args.format.now 36 ≡ in_front text (told x words c.in-Some-verb_of.verb from (formatted x words behind)) =
    sym c.loop-c.invariant.whole
    ∙ ap (λ l. in_front text (formatted x words l from)) rest
    ∙ ap (λ k. in_front text (formatted x words (k ∷ more) from)) percent
    ∙ ap (in_front text) (c.in-Some-verb_of.ensures.verb x words from) in
    let halts = front_halts halt text (told x words c.in-Some-verb_of.verb from (formatted x words behind)) ((c.in_err-next.ensures).adds (formatted x words behind)) in
    let r = err_from_is_err_and c.from_residual-in_err-next.result c.from_residual-in_err-next.ensures.1 in
    rw (r.1, r.2) (subst (Halts halt) (sym whole) halts)
