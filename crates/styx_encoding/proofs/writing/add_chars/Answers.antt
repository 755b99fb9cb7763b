use Rattle.std.proofs.Common.{append_assoc, take, sym, subst}
use Rattle.std.specs.Prelude.{encode_utf8_all, encode_utf8}
use Rattle.std.specs.Str.{IsUtf8}
use Rattle.std.proofs.lemmas.List.{append-nil, take_all}
use Rattle.std.proofs.lemmas.Str.{IsUtf8-nil}
use Rattle.styx_encoding.proofs.Sizes.{encode_more, utf8_more, scalars_are}
use Rattle.styx_encoding.proofs.writing.add_chars.Goals as goal

pub loop-c-init : goal.loop-c-init
loop-c-init c = (sym (append-nil c.args.out.now.items), IsUtf8-nil)

pub loop-c-preserved : goal.loop-c-preserved
loop-c-preserved c =
    let more = encode_more c.args.chars.now c.loop-c.c-index c.c-item.result c.loop-c-test.true c.c-item.is in
    let here : IsUtf8 (encode_utf8 c.c-item.result) =
    rw (← c.encode_utf8.ensures.value, ← c.as_bytes.ensures.value) c.as_bytes.ensures.utf8 in (
      rw (
        c.in_ok-extend_from_slice.ensures.items,
        c.as_bytes.ensures.value,
        c.encode_utf8.ensures.value,
        c.loop-c.invariant.0,
        more,
      ) (append_assoc c.args.out.now.items (encode_utf8_all
          (take c.loop-c.c-index c.args.chars.now)) (encode_utf8 c.c-item.result)),
      utf8_more c.args.chars.now c.loop-c.c-index c.c-item.result c.loop-c-test.true c.c-item.is
          c.loop-c.invariant.1 here,
    )

pub returns-clause-scalars : goal.returns-clause-scalars
returns-clause-scalars c = scalars_are c.args.chars.now (subst (λ cs. IsUtf8 (encode_utf8_all cs))
    (take_all c.loop-c.c-index c.args.chars.now c.loop-c-test.false) c.loop-c.invariant.1)
