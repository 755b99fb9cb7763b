use Rattle.std.proofs.Common.{◌≡◌, ◌<◌, length, sym, ◌∙◌, arith}
use Rattle.std.proofs.lemmas.Option.{slice_get_within}
use Rattle.limbo_entries.specs.View.{entries_of, view_entry}
use Rattle.limbo_meanings.proofs.Places.{as_many, entry_at}
use Rattle.limbo_exports.proofs.Lists.{none_more}
use Rattle.limbo_modules.specs.First.{is_draw}
use Rattle.limbo_modules.proofs.first.find_draw.Goals as goal

pub returns-then-is_draw-clause-found : goal.returns-then-is_draw-clause-found
returns-then-is_draw-clause-found c =
    let all = c.args.table.now.entries.items in
    let k = c.loop-number.number in
    let x = c.index.result.now in
    let e : c.len-number-end.result ≡ length all = c.len-number-end.ensures ∙ c.args.table.now.entries.ok.0 in
    let l : k < length all = omega arith in
    record {
      entry = view_entry x;
      there = entry_at all k x l c.index.ensures;
      holds = sym c.if-is_draw.ensures;
      none_before = c.loop-number.invariant;
    }

pub loop-number-preserved : goal.loop-number-preserved
loop-number-preserved c =
    let all = c.args.table.now.entries.items in
    let k = c.loop-number.number in
    let x = c.index.result.now in
    let e : c.len-number-end.result ≡ length all = c.len-number-end.ensures ∙ c.args.table.now.entries.ok.0 in
    let l : k < length all = omega arith in
    none_more is_draw (entries_of all) k (view_entry x) (entry_at all k x l c.index.ensures) (sym c.if-is_draw.ensures)
    c.loop-number.invariant

pub returns-clause-none : goal.returns-clause-none
returns-clause-none c = λ k f h.
    let all = c.args.table.now.entries.items in
    let m = as_many all in
    let w = slice_get_within (entries_of all) k f h in
    let e : c.len-number-end.result ≡ length all = c.len-number-end.ensures ∙ c.args.table.now.entries.ok.0 in
    let l : k < c.loop-number.number = omega arith in
    c.loop-number.invariant k f l h
