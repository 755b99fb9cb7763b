use Rattle.std.proofs.Common.{◌≡◌, ap}
use Rattle.std.proofs.lemmas.Result.{err_from_is_err_and}
use Rattle.limbo_declarations.specs.View.{rows_of, view_row}
use Rattle.limbo_declarations.specs.declared.row.Row as code_row
use Rattle.limbo_declarations.specs.declared.names.RowsFault.TheVariants.{Twice}
use Rattle.limbo_entries.specs.Entries as told
use Rattle.limbo_entries.specs.Entries.{HasTwice, IsAgain}
use Rattle.limbo_entries.proofs.Indexed.{begun_at, table_of, once_each, leads_outwards, none_twice}
use Rattle.limbo_entries.proofs.Repeated.{twice_of}
use Rattle.limbo_entries.proofs.table.Table.new.Goals as goal

pub returns-in_err-outermost-clause-twice : goal.returns-in_err-outermost-clause-twice
returns-in_err-outermost-clause-twice c =
    let k : (r : code_row.Row) → c.in_err-outermost.field-0.0 ≡ Twice r → HasTwice (rows_of c.args.rows.items) =
    λ r e. told.outermost (c.in_err-outermost.ensures.again r e).0 in
    let p = err_from_is_err_and c.from_residual.result c.from_residual.ensures.1 in
    rw (p.1, p.2) k

pub returns-in_err-outermost-clause-again : goal.returns-in_err-outermost-clause-again
returns-in_err-outermost-clause-again c =
    let k : (r : code_row.Row) → c.in_err-outermost.field-0.0 ≡ Twice r → IsAgain (rows_of c.args.rows.items) (view_row r) =
    λ r e. let t = c.in_err-outermost.ensures.again r e in told.outermost t.0 t.1 in
    let p = err_from_is_err_and c.from_residual.result c.from_residual.ensures.1 in
    rw (p.1, p.2) k

pub returns-in_err-scopes-clause-twice : goal.returns-in_err-scopes-clause-twice
returns-in_err-scopes-clause-twice c =
    let o = c.in_ok-outermost in
    let b = begun_at c.new-entries.result.items c.push_rows.new.entries.items c.args.rows.items o.outermost
    c.new-entries.ensures.items o.ensures.entries o.ensures.first (ap (λ v. v.items) o.ensures.rows) in
    let k : (r : code_row.Row) → c.in_err-scopes.field-0.0 ≡ Twice r → HasTwice (rows_of c.args.rows.items) =
    λ r e. twice_of (rows_of c.args.rows.items) (view_row r) (c.in_err-scopes.ensures.again r e
    (rows_of c.args.rows.items) o.outermost b) in
    let p = err_from_is_err_and c.from_residual-in_err-scopes.result c.from_residual-in_err-scopes.ensures.1 in
    rw (p.1, p.2) k

pub returns-in_err-scopes-clause-again : goal.returns-in_err-scopes-clause-again
returns-in_err-scopes-clause-again c =
    let o = c.in_ok-outermost in
    let b = begun_at c.new-entries.result.items c.push_rows.new.entries.items c.args.rows.items o.outermost
    c.new-entries.ensures.items o.ensures.entries o.ensures.first (ap (λ v. v.items) o.ensures.rows) in
    let k : (r : code_row.Row) → c.in_err-scopes.field-0.0 ≡ Twice r → IsAgain (rows_of c.args.rows.items) (view_row r) =
    λ r e. c.in_err-scopes.ensures.again r e (rows_of c.args.rows.items) o.outermost b in
    let p = err_from_is_err_and c.from_residual-in_err-scopes.result c.from_residual-in_err-scopes.ensures.1 in
    rw (p.1, p.2) k

pub invariant_of-result : goal.invariant_of-result
invariant_of-result c =
    let o = c.in_ok-outermost in
    let b = begun_at c.new-entries.result.items c.push_rows.new.entries.items c.args.rows.items o.outermost
    c.new-entries.ensures.items o.ensures.entries o.ensures.first (ap (λ v. v.items) o.ensures.rows) in
    let g = c.in_ok-scopes.ensures.grown (rows_of c.args.rows.items) o.outermost b in
    record {
      at_top = g.at_top;
      inside = g.are_scopes;
      many = g.as_many;
      outwards = leads_outwards (rows_of c.args.rows.items) c.fill.new.entries.items o.outermost c.in_ok-scopes.scopes.items _ g;
      small = c.in_ok-scopes.ensures.small;
    }

pub returns-clause-table : goal.returns-clause-table
returns-clause-table c =
    let o = c.in_ok-outermost in
    let b = begun_at c.new-entries.result.items c.push_rows.new.entries.items c.args.rows.items o.outermost
    c.new-entries.ensures.items o.ensures.entries o.ensures.first (ap (λ v. v.items) o.ensures.rows) in
    table_of (rows_of c.args.rows.items) c.fill.new.entries.items o.outermost c.in_ok-scopes.scopes.items
    (c.in_ok-scopes.ensures.grown (rows_of c.args.rows.items) o.outermost b)

pub returns-clause-once : goal.returns-clause-once
returns-clause-once c =
    let o = c.in_ok-outermost in
    let b = begun_at c.new-entries.result.items c.push_rows.new.entries.items c.args.rows.items o.outermost
    c.new-entries.ensures.items o.ensures.entries o.ensures.first (ap (λ v. v.items) o.ensures.rows) in
    once_each (rows_of c.args.rows.items) c.fill.new.entries.items o.outermost c.in_ok-scopes.scopes.items _
    (c.in_ok-scopes.ensures.grown (rows_of c.args.rows.items) o.outermost b)

pub returns-clause-none_twice : goal.returns-clause-none_twice
returns-clause-none_twice c =
    let o = c.in_ok-outermost in
    let b = begun_at c.new-entries.result.items c.push_rows.new.entries.items c.args.rows.items o.outermost
    c.new-entries.ensures.items o.ensures.entries o.ensures.first (ap (λ v. v.items) o.ensures.rows) in
    none_twice (rows_of c.args.rows.items) c.fill.new.entries.items o.outermost c.in_ok-scopes.scopes.items
    (c.in_ok-scopes.ensures.grown (rows_of c.args.rows.items) o.outermost b)
