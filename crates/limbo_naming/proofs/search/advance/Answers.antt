use Rattle.std.proofs.Common.{◌≡◌, ◌-◌, ℕ, take, sym, ◌∙◌, subst, arith}
use Rattle.std.proofs.lemmas.Result.{on_ok_weaker}
use Rattle.std.proofs.lemmas.Option.{slice_get_within}
use Rattle.limbo_entries.specs.View.{entries_of}
use Rattle.limbo_naming.specs.declared.search.Step.TheVariants.{Known, On}
use Rattle.limbo_naming.specs.Search.{LeadsTo, Tries}
use Rattle.limbo_naming.specs.Steps.{StepSays}
use Rattle.limbo_naming.proofs.Places.{as_many}
use Rattle.limbo_naming.proofs.Lists.{last_apart, same_last}
use Rattle.limbo_naming.proofs.Searching.{top_there}
use Rattle.limbo_naming.proofs.Stepping.{stands_there, known, onward}
use Rattle.limbo_naming.proofs.search.advance.Goals as goal

pub look-found-requires-clause-there : goal.look-found-requires-clause-there
look-found-requires-clause-there c =
    let l = top_there _ _ _ _ c.requires.search (take (c.len.result - 1) c.args.path.now.items) c.index-top.result.now (last_apart c.args.path.now.items c.len.result c.index-top.result.now c.requires.some (c.len.ensures ∙ c.args.path.now.ok.0) c.index-top.ensures) in
    let a = as_many c.args.table.now.entries.items in
    let b = c.requires.search.known.same_length in
    omega arith

pub settle-requires-clause-there : goal.settle-requires-clause-there
settle-requires-clause-there c = stands_there _ _ _ _ c.requires.search

pub enter-requires : goal.enter-requires
enter-requires c =
    let t : Tries (entries_of c.args.table.now.entries.items) c.args.implemented c.args.states.now.items c.index-top.result.now c.look-found.result = rw c.deref.ensures.value at c.look-found.ensures in
    let w : StepSays (entries_of c.args.table.now.entries.items) c.args.implemented c.args.states.now.items c.index-top.result.now (On c.in-On.next) =
    rw c.deref-2.ensures.value at (c.in-On.ensures (entries_of c.args.table.now.entries.items) c.args.implemented c.args.path.now.items (take (c.len.result - 1) c.args.path.now.items) c.index-top.result.now
    (rw c.deref-2.ensures.value c.requires.search) (last_apart c.args.path.now.items c.len.result c.index-top.result.now c.requires.some (c.len.ensures ∙ c.args.path.now.ok.0) c.index-top.ensures) (rw c.deref-2.ensures.value t)) in
    record { there = slice_get_within _ _ _ w.1 }

pub returns-in-Known : goal.returns-in-Known
returns-in-Known c =
    let t : Tries (entries_of c.args.table.now.entries.items) c.args.implemented c.args.states.now.items c.index-top.result.now c.look-found.result = rw c.deref.ensures.value at c.look-found.ensures in
    let w : StepSays (entries_of c.args.table.now.entries.items) c.args.implemented c.args.states.now.items c.index-top.result.now (Known c.in-Known.to) =
    c.in-Known.ensures (entries_of c.args.table.now.entries.items) c.args.implemented c.args.path.now.items (take (c.len.result - 1) c.args.path.now.items) c.index-top.result.now
    (rw c.deref-2.ensures.value c.requires.search) (last_apart c.args.path.now.items c.len.result c.index-top.result.now c.requires.some (c.len.ensures ∙ c.args.path.now.ok.0) c.index-top.ensures) (rw c.deref-2.ensures.value t) in
    let e : c.index-top.result.now ≡ c.settle.ensures.top = same_last (take (c.len.result - 1) c.args.path.now.items) c.settle.new.path.items _ _ (sym (last_apart c.args.path.now.items c.len.result c.index-top.result.now c.requires.some (c.len.ensures ∙ c.args.path.now.ok.0) c.index-top.ensures) ∙ c.settle.ensures.apart) in
    known _ _ _ _ c.requires.search c.in-Known.to _ _ c.settle.ensures
    (subst (λ (z : ℕ). LeadsTo (entries_of c.args.table.now.entries.items) c.args.implemented z c.in-Known.to) e w)

pub returns-in-On : goal.returns-in-On
returns-in-On c =
    let t : Tries (entries_of c.args.table.now.entries.items) c.args.implemented c.args.states.now.items c.index-top.result.now c.look-found.result = rw c.deref.ensures.value at c.look-found.ensures in
    let w : StepSays (entries_of c.args.table.now.entries.items) c.args.implemented c.args.states.now.items c.index-top.result.now (On c.in-On.next) =
    rw c.deref-2.ensures.value at (c.in-On.ensures (entries_of c.args.table.now.entries.items) c.args.implemented c.args.path.now.items (take (c.len.result - 1) c.args.path.now.items) c.index-top.result.now
    (rw c.deref-2.ensures.value c.requires.search) (last_apart c.args.path.now.items c.len.result c.index-top.result.now c.requires.some (c.len.ensures ∙ c.args.path.now.ok.0) c.index-top.ensures) (rw c.deref-2.ensures.value t)) in
    on_ok_weaker c.enter.result (λ x. onward _ _ _ _ c.requires.search (take (c.len.result - 1) c.args.path.now.items) c.index-top.result.now c.in-On.next (last_apart c.args.path.now.items c.len.result c.index-top.result.now c.requires.some (c.len.ensures ∙ c.args.path.now.ok.0) c.index-top.ensures) _ _ x w.0 w.1) c.enter.ensures
