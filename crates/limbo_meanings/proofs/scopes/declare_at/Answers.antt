use Rattle.std.proofs.Common.{◌≡◌, Some, Option, Err, length, refl, sym, ap, ◌∙◌}
use Rattle.std.proofs.lemmas.Option.{slice_get_read}
use Rattle.limbo_scope.specs.Scopes.{declared, declared_here}
use Rattle.limbo_meanings.proofs.Inside.{set_row, some_of}
use Rattle.limbo_meanings.proofs.scopes.declare_at.Goals as goal

pub returns-in-Ok-clause-declared : goal.returns-in-Ok-clause-declared
returns-in-Ok-clause-declared c =
    set_row c.args.rows.now.items c.args.outer c.args.entry.row.name.now.text c.args.meaning c.declare.new.self c.index_mut.result.now c.requires.there
    (c.in-Ok.ensures.declared ∙ ap (declared c.args.entry.row.name.now.text c.args.meaning) c.index_mut.ensures.value)

pub returns-in-Err-clause-twice : goal.returns-in-Err-clause-twice
returns-in-Err-clause-twice c = λ e.
    let row = c.index_mut.result.now in
    let s = some_of (declared_here c.args.entry.row.name.now.text row) (c.in-Err.ensures.twice.0 (ap Err e)) in
    record {
      outer = c.args.outer;
      row = row;
      meaning = s.0;
      within = refl;
      there = slice_get_read c.args.rows.now.items (length c.args.rows.now.items) c.args.outer row refl c.requires.there c.index_mut.ensures.value;
      repeated = s.1;
    }
