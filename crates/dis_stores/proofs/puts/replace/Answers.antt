use Rattle.std.proofs.Common.{◌≡◌, true, ap, ◌∙◌, sym, rules}
use Rattle.std.specs.Prelude.{slice_get, slice_set, if◌then◌else◌}
use Rattle.std.proofs.lemmas.List.{map-set}
use Rattle.dis_meaning.specs.Words.{◌>>=◌, Found, Wrong, fits, type_check, or_wrong}
use Rattle.dis_places.specs.Words.{view_word, view_words}
use Rattle.dis_stores.proofs.Named.{words_set}
use Rattle.dis_stores.proofs.puts.replace.Goals as goal

pub returns-clause-gives : goal.returns-clause-gives
returns-clause-gives c =
    let ws = c.args.row.now.items in
    let new = c.args.new in
    let k = c.args.k in
    let there = ap (λ ws. or_wrong type_check (slice_get (view_words ws) k)) (sym c.deref.ensures.value) ∙ c.in_ok-old.ensures.word in
    let taken : fits (view_word c.in_ok-old.old) (view_word new) ≡ true = search rules in
    ap (λ a. a >>= λ old. if fits old (view_word new) then Found (slice_set (view_words ws) k (view_word new)) else Wrong type_check) there
    ∙ ap (λ b. if b then Found (slice_set (view_words ws) k (view_word new)) else Wrong type_check) taken
    ∙ ap Found (sym (map-set view_word ws k new))

pub returns-clause-named : goal.returns-clause-named
returns-clause-named c =
    λ n. words_set c.args.row.now.items c.args.k c.in_ok-old.old c.args.new
    n (ap (λ ws. slice_get ws c.args.k) (sym c.deref.ensures.value) ∙ c.in_ok-old.ensures.stood)
