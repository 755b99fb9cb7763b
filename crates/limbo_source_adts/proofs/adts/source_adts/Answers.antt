use Rattle.std.proofs.Common.{◌≡◌, ◌<◌, ℕ, length, Ok, Err, Result, subst, sym, arith}
use Rattle.std.specs.Result.{IfOk}
use Rattle.std.proofs.lemmas.List.{length-map}
use Rattle.std.proofs.lemmas.Result.{IfErr-weaker}
use Rattle.limbo_types.specs.Types.{Adt}
use Rattle.limbo_entries.specs.View.{entries_of}
use Rattle.limbo_layout.specs.Layout.{Fits}
use Rattle.limbo_layout.specs.View.{view_def, view_defs}
use Rattle.limbo_naming.proofs.Places.{as_many}
use Rattle.limbo_source_adts.proofs.Named.{fewer, are_named}
use Rattle.limbo_source_adts.proofs.adts.source_adts.Goals as goal

both : {T E : Type 0} (r : Result T E) (P Q R : T → Type 0) → ((x : T) → P x → Q x → R x) → IfOk r P → IfOk r Q → IfOk r R
both (Ok x) P Q R f a b = f x a b
both (Err e) P Q R f a b = tt

pub new-requires-clause-few : goal.new-requires-clause-few
new-requires-clause-few c =
    let es = entries_of c.args.table.now.entries.items in
    let m = c.requires.headed.0 in
    let a = fewer es m 0 es (view_defs c.in_ok-defs.defs.items) (c.in_ok-defs.ensures m c.requires.headed.1) in
    let b : length (view_defs c.in_ok-defs.defs.items) ≡ length c.in_ok-defs.defs.items = length-map c.in_ok-defs.defs.items view_def in
    let d = as_many c.args.table.now.entries.items in
    let e = c.args.table.now.small in
    omega arith

pub new-requires-clause-named : goal.new-requires-clause-named
new-requires-clause-named c =
    let es = entries_of c.args.table.now.entries.items in
    let m = c.requires.headed.0 in
    rw c.in_ok-modules.ensures
    (are_named c.requires.table.0 es m c.requires.table.1 (view_defs c.in_ok-defs.defs.items) (c.in_ok-defs.ensures m c.requires.headed.1))

pub returns-clause-fits : goal.returns-clause-fits
returns-clause-fits c =
    both c.new.result _ _ _ (λ a e h. subst (λ ds. (n : ℕ) → n < length ds → Fits (view_defs ds) (Adt n)) (sym e) h) c.new.ensures.adts c.new.ensures.fits

pub returns-clause-too_large : goal.returns-clause-too_large
returns-clause-too_large c =
    IfErr-weaker c.new.result _ _ (λ e h n m is headed. (view_defs c.in_ok-defs.defs.items, c.in_ok-defs.ensures m headed, h n is)) c.new.ensures.too_large
