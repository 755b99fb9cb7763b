-- What characters spell, one after the other.
use Rattle.std.proofs.Common.{◌≡◌, ℕ, ◌+◌, ◌<◌, List, [], ◌∷◌, ◌++◌, length, take, get_or, sym, ap, ◌∙◌, append-nil, add-one}
use Rattle.std.proofs.lemmas.Str.{encodes-append}
use Rattle.std.proofs.Math.Seq.{take-suc}
use Rattle.std.specs.Prelude.{encode_utf8, encode_utf8_all}

pub spelled_more : (cs : List ℕ) (i c : ℕ) → i < length cs → c ≡ get_or cs i 0 →
    encode_utf8_all (take (i + 1) cs) ≡ encode_utf8_all (take i cs) ++ encode_utf8 c
spelled_more cs i c lt e =
    ap (λ n. encode_utf8_all (take n cs)) (add-one i) ∙ ap encode_utf8_all (take-suc cs i 0 lt)
    ∙ encodes-append (take i cs) (get_or cs i 0 ∷ [])
    ∙ ap (λ bs. encode_utf8_all (take i cs) ++ bs) (append-nil (encode_utf8 (get_or cs i 0)) ∙ ap encode_utf8 (sym e))
