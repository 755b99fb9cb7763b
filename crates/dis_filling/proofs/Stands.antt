-- What stands in the blocks, with the newest last.
use Rattle.std.proofs.Common.{◌≡◌, ℕ, zero, suc, ◌+◌, ◌-◌, ◌<◌, true, false, cond, eqb, List, [], ◌∷◌, ◌++◌}
use Rattle.std.proofs.Common.{length, refl, sym, ap, ◌∙◌, arith, reverse}
use Rattle.std.specs.Prelude.{◌&&◌}
use Rattle.std.proofs.lemmas.Bool.{ne_eqb}
use Rattle.std.proofs.lemmas.List.{reverse-append, length-reverse}
use Rattle.dis_file.specs.declared.types.TypeDesc.{TypeDesc}
use Rattle.dis_format.specs.declared.loading.Block.{Block}
use Rattle.dis_format.specs.declared.loading.Place.{Place}
use Rattle.dis_format.specs.declared.loading.Standing.{Standing}
use Rattle.dis_format.specs.Loading.{Loading, leave, is_none, array_at, all_plain, is_reference}

pub newest : (front : List Standing) (last : Standing) (block at : ℕ) → array_at (reverse (front ++ last ∷ [])) block at
    ≡ cond (eqb last.block block && eqb last.at at) last.array (array_at (reverse front) block at)
newest front last block at = rw (reverse-append front (last ∷ [])) refl

none_last : (front : List Place) (last : Place) → is_none (reverse (front ++ last ∷ [])) ≡ false
none_last front last = rw (reverse-append front (last ∷ [])) refl

none_count : (ps : List Place) → is_none ps ≡ eqb (length ps) 0
none_count [] = refl
none_count (p ∷ ps) = sym (ne_eqb (suc (length ps)) 0 (λ h. omega (arith, h)))

pub none_length : (ps : List Place) → is_none (reverse ps) ≡ eqb (length ps) 0
none_length ps = none_count (reverse ps) ∙ ap (λ (n : ℕ). eqb n 0) (length-reverse ps)

-- one byte more
pub plain_step : (types : List TypeDesc) (block : Block) (at n : ℕ) → 0 < n → is_reference types block at ≡ false
    → all_plain types block (at + 1) (n - 1) ≡ all_plain types block at n
plain_step types block at zero some e = absurd (omega arith)
plain_step types block at (suc n) some e =
    let k : suc n - 1 ≡ n = omega arith in
    let next : at + 1 ≡ suc at = omega arith in
    rw (k, next, e) refl

pub plain_stops : (types : List TypeDesc) (block : Block) (at n : ℕ) → 0 < n → is_reference types block at ≡ true
    → all_plain types block at n ≡ false
plain_stops types block at zero some e = absurd (omega arith)
plain_stops types block at (suc n) some e = rw e refl

pub left : (s : Loading) (front : List Place) (last : Place) (old : List Place) → old ≡ front ++ last ∷ []
    → record s { here = last; back = reverse front } ≡ leave s (reverse old)
left s front last old e = rw (e, reverse-append front (last ∷ [])) refl

pub left_none : (s : Loading) (old new : List Place) → old ≡ [] → new ≡ []
    → record s { back = reverse new } ≡ leave (record s { back = reverse old }) (reverse old)
left_none s old new e f = rw (e, f) refl

pub newest_of : (older front : List Standing) (last : Standing) (block at : ℕ) → older ≡ front ++ last ∷ []
    → array_at (reverse older) block at
    ≡ cond (eqb last.block block && eqb last.at at) last.array (array_at (reverse front) block at)
newest_of older front last block at e = rw e (newest front last block at)
