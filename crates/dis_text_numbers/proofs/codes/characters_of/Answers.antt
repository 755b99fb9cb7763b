use Rattle.std.proofs.Common.{◌<◌, ◌++◌, length, sym, ap, ◌∙◌, arith}
use Rattle.std.specs.Prelude.{encode_utf8}
use Rattle.dis_text_numbers.proofs.Spelled.{spelled_more}
use Rattle.dis_text_numbers.proofs.codes.characters_of.Goals as goal

pub loop-code-preserved : goal.loop-code-preserved
loop-code-preserved c =
    let codes = c.args.codes.now in
    let i = c.loop-code.code-index in
    let inside : i < length codes = omega arith in
    c.in_ok-push-in-Some.ensures.bytes ∙ ap (λ bs. bs ++ encode_utf8 c.in-Some.c) c.loop-code.invariant
    ∙ sym (spelled_more codes i c.in-Some.c inside c.in-Some.ensures.value.1)
