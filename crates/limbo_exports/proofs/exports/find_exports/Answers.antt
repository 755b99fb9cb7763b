use Rattle.std.proofs.Common.{◌≡◌, ◌<◌, length, ◌∙◌, arith}
use Rattle.std.proofs.lemmas.List.{length-append}
use Rattle.std.proofs.lemmas.Option.{slice_get_within}
use Rattle.limbo_entries.specs.View.{entries_of, view_entry}
use Rattle.limbo_meanings.proofs.Places.{as_many, entry_at}
use Rattle.limbo_meanings.specs.Meanings.{meaning_of}
use Rattle.limbo_exports.proofs.Exporting.{exported}
use Rattle.limbo_exports.proofs.exports.find_exports.Goals as goal

pub loop-number-preserved : goal.loop-number-preserved
loop-number-preserved c =
    let all = c.args.table.now.entries.items in
    let es = entries_of all in
    let i = c.loop-number.number in
    let x = c.index-entry.result.now in
    let e : c.len-number-end.result ≡ length all = c.len-number-end.ensures ∙ c.args.table.now.entries.ok.0 in
    let l : i < length all = omega arith in
    record {
      as_many = rw c.in_ok-push.ensures.items (simp length-append (let h = c.loop-number.invariant.as_many in omega arith));
      told = rw c.in_ok-push.ensures.items
          (exported es c.args.builtin c.args.meanings.now c.loop-number.all.items i (view_entry x) c.meaning_at-meaning.result
          c.in_ok-told.told
          c.loop-number.invariant.as_many (entry_at all i x l c.index-entry.ensures)
          c.meaning_at-meaning.ensures
          c.in_ok-told.ensures c.loop-number.invariant.told);
    }

pub returns-clause-exports : goal.returns-clause-exports
returns-clause-exports c = λ m are k f h.
    let all = c.args.table.now.entries.items in
    let n = as_many all in
    let w = slice_get_within (entries_of all) k f h in
    let e : c.len-number-end.result ≡ length all = c.len-number-end.ensures ∙ c.args.table.now.entries.ok.0 in
    let l : k < c.loop-number.number = omega arith in
    c.loop-number.invariant.told k f (meaning_of (entries_of all) m k f) l h (are k f h)
