use Rattle.std.proofs.Common.{◌≡◌, ℕ, ◌<◌, length, arith}
use Rattle.std.proofs.lemmas.List.{length-map}
use Rattle.std.proofs.lemmas.Result.{err_from_is_err_and}
use Rattle.limbo_types.specs.Types.{Adt}
use Rattle.limbo_layout.specs.Layout.{Fits}
use Rattle.limbo_layout.specs.Laying.{AreLaid, room_at}
use Rattle.limbo_layout.specs.View.{view_def, view_defs}
use Rattle.limbo_layout.specs.declared.def.AdtsFault.TheVariants.{TooLarge}
use Rattle.limbo_adts.proofs.Numbers.{holds_only, names_only}
use Rattle.limbo_adts.proofs.adts.Adts.new.Goals as goal

pub lay_all-requires-clause-held : goal.lay_all-requires-clause-held
lay_all-requires-clause-held c = rw c.deref.ensures.value (holds_only (view_defs c.args.defs.items) (length c.args.modules.items) c.requires.named)

pub returns-in_err-rooms-clause-there : goal.returns-in_err-rooms-clause-there
returns-in_err-rooms-clause-there c =
    let k : (n : ℕ) → c.in_err-rooms.field-0.0 ≡ TooLarge n → n < length c.args.defs.items = rw c.deref.ensures.value at c.in_err-rooms.ensures.there in
    let p = err_from_is_err_and c.from_residual.result c.from_residual.ensures.1 in
    rw (p.1, p.2) k

pub returns-in_err-rooms-clause-first : goal.returns-in_err-rooms-clause-first
returns-in_err-rooms-clause-first c =
    let k : (n m : ℕ) → c.in_err-rooms.field-0.0 ≡ TooLarge n → m < n → Fits (view_defs c.args.defs.items) (Adt m) = rw c.deref.ensures.value at c.in_err-rooms.ensures.first in
    let p = err_from_is_err_and c.from_residual.result c.from_residual.ensures.1 in
    rw (p.1, p.2) k

pub close-requires-clause-named : goal.close-requires-clause-named
close-requires-clause-named c = rw c.deref-2.ensures.value (names_only (view_defs c.args.defs.items) (length c.args.modules.items) c.requires.named)

pub returns-clause-fits : goal.returns-clause-fits
returns-clause-fits c = λ n l.
    let a : AreLaid (view_defs c.args.defs.items) c.in_ok-rooms.rooms.items = rw c.deref.ensures.value at c.in_ok-rooms.ensures.laid in
    let m : length (view_defs c.args.defs.items) ≡ length c.args.defs.items = length-map c.args.defs.items view_def in
    let i = a.each n (omega arith) in
    (room_at c.in_ok-rooms.rooms.items n, i.laid, i.fits)
