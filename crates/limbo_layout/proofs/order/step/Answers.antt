use Rattle.std.proofs.Common.{◌≡◌, ℕ, ◌-◌, ◌<◌, ◌++◌, ◌∷◌, [], List, length, take, get_or, map, Bool, true, false, Some, inl, inr, refl, sym, ap, subst, ◌∙◌, arith, rules}
use Rattle.std.specs.Prelude.{slice_get}
use Rattle.std.proofs.lemmas.List.{length-map}
use Rattle.limbo_types.specs.Types.{Adt}
use Rattle.limbo_layout.specs.Adts.{Def, Has, held_in, parts}
use Rattle.limbo_layout.specs.Layout.{Fits, limit, in_order}
use Rattle.limbo_layout.specs.Laying.{rooms_of}
use Rattle.limbo_layout.specs.Paths.{IsAt, Holds, Climbs, left}
use Rattle.limbo_layout.specs.View.{view_def, view_defs}
use Rattle.limbo_layout.specs.declared.def.AdtsFault.TheVariants.{TooLarge}
use Rattle.limbo_layout.specs.declared.def.LayoutFault.TheVariants as fault
use Rattle.limbo_layout.proofs.Marks.{set_keeps}
use Rattle.limbo_layout.proofs.Climbing.{last_apart, seen_at, bool_at, top_there, circle, too_large_top, climb_push, climb_pop, less_pushed}
use Rattle.limbo_layout.proofs.order.step.Goals as goal

pub bounds-defs-top : goal.bounds-defs-top
bounds-defs-top c =
    let s = last_apart c.args.path.now.items c.len.result c.index-top.result.now c.requires.some (omega arith) c.index-top.ensures in
    let k = c.requires.climbs in
    let defs = view_defs c.args.defs.now in
    let t : c.index-top.result.now < length defs = top_there _ _ _ _ _ _ _ _ k s in
    let m : length defs ≡ length c.args.defs.now = length-map c.args.defs.now view_def in
    omega arith

pub index-requires : goal.index-requires
index-requires c =
    let s = last_apart c.args.path.now.items c.len.result c.index-top.result.now c.requires.some (omega arith) c.index-top.ensures in
    let k = c.requires.climbs in
    let defs = view_defs c.args.defs.now in
    let t : c.index-top.result.now < length defs = top_there _ _ _ _ _ _ _ _ k s in
    let m : length defs ≡ length c.args.defs.now = length-map c.args.defs.now view_def in
    let there : slice_get defs c.index-top.result.now ≡ Some (view_def c.index-defs-top.result) = seen_at c.args.defs.now c.index-top.result.now c.index-defs-top.result (omega arith) c.index-defs-top.is in
    let h : Holds defs c.index-top.result.now c.in-Some.next = record { def = view_def c.index-defs-top.result; there = there; has = c.in-Some.ensures.some.0 } in
    let n : c.in-Some.next < length defs = c.requires.held c.index-top.result.now c.in-Some.next h in
    let q = k.entered_length in
    omega arith

pub index_mut-requires : goal.index_mut-requires
index_mut-requires c =
    let s = last_apart c.args.path.now.items c.len.result c.index-top.result.now c.requires.some (omega arith) c.index-top.ensures in
    let k = c.requires.climbs in
    let defs = view_defs c.args.defs.now in
    let t : c.index-top.result.now < length defs = top_there _ _ _ _ _ _ _ _ k s in
    let m : length defs ≡ length c.args.defs.now = length-map c.args.defs.now view_def in
    let there : slice_get defs c.index-top.result.now ≡ Some (view_def c.index-defs-top.result) = seen_at c.args.defs.now c.index-top.result.now c.index-defs-top.result (omega arith) c.index-defs-top.is in
    let h : Holds defs c.index-top.result.now c.in-Some.next = record { def = view_def c.index-defs-top.result; there = there; has = c.in-Some.ensures.some.0 } in
    let n : c.in-Some.next < length defs = c.requires.held c.index-top.result.now c.in-Some.next h in
    let q = k.entered_length in
    omega arith

pub returns-then-index-clause-too_large : goal.returns-then-index-clause-too_large
returns-then-index-clause-too_large c = λ x e.
    let s = last_apart c.args.path.now.items c.len.result c.index-top.result.now c.requires.some (omega arith) c.index-top.ensures in
    let k = c.requires.climbs in
    let defs = view_defs c.args.defs.now in
    let t : c.index-top.result.now < length defs = top_there _ _ _ _ _ _ _ _ k s in
    let m : length defs ≡ length c.args.defs.now = length-map c.args.defs.now view_def in
    let there : slice_get defs c.index-top.result.now ≡ Some (view_def c.index-defs-top.result) = seen_at c.args.defs.now c.index-top.result.now c.index-defs-top.result (omega arith) c.index-defs-top.is in
    let h : Holds defs c.index-top.result.now c.in-Some.next = record { def = view_def c.index-defs-top.result; there = there; has = c.in-Some.ensures.some.0 } in
    let n : c.in-Some.next < length defs = c.requires.held c.index-top.result.now c.in-Some.next h in
    let q = k.entered_length in
    let w : IsAt c.args.table.now.entered.items c.in-Some.next true = rw c.if-index.true at (bool_at c.args.table.now.entered.items c.in-Some.next c.index.result.now (omega arith) c.index.ensures) in
    let y : Has c.args.path.now.items c.in-Some.next = elim (k.on_path c.in-Some.next w) [
      | inl b ↦ absurd (c.in-Some.ensures.some.1 (rw c.deref.ensures.value b))
      | inr b ↦ b
    ] in
    (cc, circle _ _ _ _ _ _ _ _ k s c.in-Some.next h y)

pub returns-in-Err-TooLarge-clause-too_large : goal.returns-in-Err-TooLarge-clause-too_large
returns-in-Err-TooLarge-clause-too_large c = λ x e.
    let s = last_apart c.args.path.now.items c.len.result c.index-top.result.now c.requires.some (omega arith) c.index-top.ensures in
    let k = c.requires.climbs in
    let defs = view_defs c.args.defs.now in
    let t : c.index-top.result.now < length defs = top_there _ _ _ _ _ _ _ _ k s in
    let m : length defs ≡ length c.args.defs.now = length-map c.args.defs.now view_def in
    let there : slice_get defs c.index-top.result.now ≡ Some (view_def c.index-defs-top.result) = seen_at c.args.defs.now c.index-top.result.now c.index-defs-top.result (omega arith) c.index-defs-top.is in
    let a : (n : ℕ) → Has (held_in (parts (view_def c.index-defs-top.result))) n → IsAt c.args.table.now.laid.items n true = rw c.deref.ensures.value at c.in-None.ensures.none in
    (cc, too_large_top _ _ _ _ _ _ _ _ k s (view_def c.index-defs-top.result) there a (rw c.deref-in-None.ensures.value at (c.in-Err-TooLarge.ensures.too_large c.in-Err-TooLarge.field-0-is)))

pub index_mut-requires-in-None : goal.index_mut-requires-in-None
index_mut-requires-in-None c =
    let s = last_apart c.args.path.now.items c.len.result c.index-top.result.now c.requires.some (omega arith) c.index-top.ensures in
    let k = c.requires.climbs in
    let defs = view_defs c.args.defs.now in
    let t : c.index-top.result.now < length defs = top_there _ _ _ _ _ _ _ _ k s in
    let m : length defs ≡ length c.args.defs.now = length-map c.args.defs.now view_def in
    let r = k.table.rooms_length in
    omega arith

pub index_mut-requires-in-None-2 : goal.index_mut-requires-in-None-2
index_mut-requires-in-None-2 c =
    let s = last_apart c.args.path.now.items c.len.result c.index-top.result.now c.requires.some (omega arith) c.index-top.ensures in
    let k = c.requires.climbs in
    let defs = view_defs c.args.defs.now in
    let t : c.index-top.result.now < length defs = top_there _ _ _ _ _ _ _ _ k s in
    let m : length defs ≡ length c.args.defs.now = length-map c.args.defs.now view_def in
    let r = k.table.laid_length in
    omega arith

pub returns-in_ok-push-in-Some-clause-climbs : goal.returns-in_ok-push-in-Some-clause-climbs
returns-in_ok-push-in-Some-clause-climbs c =
    let s = last_apart c.args.path.now.items c.len.result c.index-top.result.now c.requires.some (omega arith) c.index-top.ensures in
    let k = c.requires.climbs in
    let defs = view_defs c.args.defs.now in
    let t : c.index-top.result.now < length defs = top_there _ _ _ _ _ _ _ _ k s in
    let m : length defs ≡ length c.args.defs.now = length-map c.args.defs.now view_def in
    let there : slice_get defs c.index-top.result.now ≡ Some (view_def c.index-defs-top.result) = seen_at c.args.defs.now c.index-top.result.now c.index-defs-top.result (omega arith) c.index-defs-top.is in
    let h : Holds defs c.index-top.result.now c.in-Some.next = record { def = view_def c.index-defs-top.result; there = there; has = c.in-Some.ensures.some.0 } in
    let n : c.in-Some.next < length defs = c.requires.held c.index-top.result.now c.in-Some.next h in
    let q = k.entered_length in
    rw c.in_ok-push-in-Some.ensures.items (climb_push _ _ _ _ _ _ _ _ k s c.in-Some.next c.requires.held h)

pub returns-in_ok-push-in-Some-clause-less : goal.returns-in_ok-push-in-Some-clause-less
returns-in_ok-push-in-Some-clause-less c =
    let s = last_apart c.args.path.now.items c.len.result c.index-top.result.now c.requires.some (omega arith) c.index-top.ensures in
    let k = c.requires.climbs in
    let defs = view_defs c.args.defs.now in
    let t : c.index-top.result.now < length defs = top_there _ _ _ _ _ _ _ _ k s in
    let m : length defs ≡ length c.args.defs.now = length-map c.args.defs.now view_def in
    let there : slice_get defs c.index-top.result.now ≡ Some (view_def c.index-defs-top.result) = seen_at c.args.defs.now c.index-top.result.now c.index-defs-top.result (omega arith) c.index-defs-top.is in
    let h : Holds defs c.index-top.result.now c.in-Some.next = record { def = view_def c.index-defs-top.result; there = there; has = c.in-Some.ensures.some.0 } in
    let n : c.in-Some.next < length defs = c.requires.held c.index-top.result.now c.in-Some.next h in
    let q = k.entered_length in
    let w : IsAt c.args.table.now.entered.items c.in-Some.next false = rw c.if-index.false at (bool_at c.args.table.now.entered.items c.in-Some.next c.index.result.now (omega arith) c.index.ensures) in
    rw c.in_ok-push-in-Some.ensures.items (less_pushed c.args.table.now.entered.items c.args.path.now.items c.in-Some.next w)

pub returns-in-Ok-clause-climbs : goal.returns-in-Ok-clause-climbs
returns-in-Ok-clause-climbs c =
    let s = last_apart c.args.path.now.items c.len.result c.index-top.result.now c.requires.some (omega arith) c.index-top.ensures in
    let k = c.requires.climbs in
    let defs = view_defs c.args.defs.now in
    let t : c.index-top.result.now < length defs = top_there _ _ _ _ _ _ _ _ k s in
    let m : length defs ≡ length c.args.defs.now = length-map c.args.defs.now view_def in
    let there : slice_get defs c.index-top.result.now ≡ Some (view_def c.index-defs-top.result) = seen_at c.args.defs.now c.index-top.result.now c.index-defs-top.result (omega arith) c.index-defs-top.is in
    let a : (n : ℕ) → Has (held_in (parts (view_def c.index-defs-top.result))) n → IsAt c.args.table.now.laid.items n true = rw c.deref.ensures.value at c.in-None.ensures.none in
    let r = k.table.rooms_length in
    let z : c.pop.new.self.items ≡ take (c.len.result - 1) c.args.path.now.items = c.pop.ensures.rest ∙ ap (λ n. take (n - 1) c.args.path.now.items) (sym c.len.ensures) in
    rw z (climb_pop _ _ _ _ _ _ _ _ k s (view_def c.index-defs-top.result) c.in-Ok.room (omega arith) there a (rw c.deref-in-None.ensures.value at c.in-Ok.ensures.ok) c.in-Ok.ensures.fits)

pub returns-in-Ok-clause-keeps : goal.returns-in-Ok-clause-keeps
returns-in-Ok-clause-keeps c = λ n h. set_keeps c.args.table.now.laid.items c.index-top.result.now n h
