use Rattle.std.proofs.Common.{◌≡◌, ◌∙◌, sym, ap, subst, arith, ℕ, ◌<◌, ◌-◌, List, [], ◌∷◌, ◌++◌, length, take, drop, append_assoc, length-drop}
use Rattle.std.specs.Prelude.{encode_utf8_all}
use Rattle.std.specs.Str.{IsValidUpTo, StartsWithNoChar}
use Rattle.std.proofs.lemmas.List.{take_all, take-append-drop}
use Rattle.inf_text.specs.Lossy.{ReadsLossy, AddsSpelled}
use Rattle.inf_text.proofs.LossyLemmas.{reads_all, reads_behind, no_char_behind}
use Rattle.inf_text.proofs.text.Text.from_utf8_lossy.Goals as goal

pub loop-error-preserved : goal.loop-error-preserved
loop-error-preserved c more reads =
    let rest = c.loop-error.rest.now in
    let n = c.valid_up_to.result in
    let behind = c.split_at.result.1.now in
    let added : AddsSpelled c.loop-error.text c.push_utf8.new.text c.split_at.result.0.now = c.in_ok-push_utf8.ensures in
    let valid : IsValidUpTo rest n = rw c.valid_up_to.ensures c.in-Err.ensures.cases.1 in
    let tail : ReadsLossy (drop 1 behind) more = subst (λ (b : List ℕ). ReadsLossy b more) (take_all (length behind - 1) (drop 1 behind) (omega (arith, length-drop 1 behind))) reads in
    let none : StartsWithNoChar behind = subst StartsWithNoChar (sym c.split_at.ensures.back) (no_char_behind rest n valid) in
    let short : n < length rest = valid.short in
    let some : 0 < length behind = omega (arith, c.split_at.ensures.back_len) in
    let step = reads_behind added.chars behind more added.characters some none tail in
    let whole : encode_utf8_all added.chars ++ behind ≡ rest =
    ap (λ l. l ++ behind) (added.spelled ∙ c.split_at.ensures.front)
    ∙ ap (λ l. take n rest ++ l) c.split_at.ensures.back ∙ take-append-drop n rest in
    let pushed : c.push.new.self ≡ c.push_utf8.new.text ++ (65533 ∷ []) = c.in_ok-push.ensures.ok in
    let text : c.push.new.self ++ more ≡ c.loop-error.text ++ (added.chars ++ (65533 ∷ more)) =
    ap (λ l. l ++ more) (pushed ∙ ap (λ l. l ++ (65533 ∷ [])) added.added)
    ∙ append_assoc (c.loop-error.text ++ added.chars) (65533 ∷ []) more
    ∙ append_assoc c.loop-error.text added.chars (65533 ∷ more) in
    subst (λ (t : List ℕ). ReadsLossy c.args.bytes.now t) (sym text)
    (c.loop-error.invariant (added.chars ++ (65533 ∷ more)) (subst (λ (b : List ℕ). ReadsLossy b (added.chars ++ (65533 ∷ more))) whole step))

pub returns : goal.returns
returns c =
    let added : AddsSpelled c.loop-error.text c.push_utf8-2.new.text c.loop-error.rest.now = c.in_ok-push_utf8-2.ensures in
    let read : ReadsLossy c.loop-error.rest.now added.chars = subst (λ (b : List ℕ). ReadsLossy b added.chars) added.spelled (reads_all added.chars added.characters) in
    subst (λ (t : List ℕ). ReadsLossy c.args.bytes.now t) (sym added.added) (c.loop-error.invariant added.chars read)
