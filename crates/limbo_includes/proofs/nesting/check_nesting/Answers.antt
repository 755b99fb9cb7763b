use Rattle.std.proofs.Common.{◌≡◌, ◌+◌, ℕ, suc, true, false, subst, refl, arith}
use Rattle.std.specs.List.{Contains}
use Rattle.limbo_includes.specs.declared.links.Link.{Link}
use Rattle.limbo_includes.specs.declared.fault.IncludeFault.TheVariants.{NoInclude}
use Rattle.limbo_includes.specs.View.{given}
use Rattle.limbo_includes.specs.Links.{links_of, is_marked, IsLevel, IsLost, NoneLost}
use Rattle.limbo_includes.proofs.Levels.{level_next, links_within, lost_more, deep_there, not_deep, is_whole}
use Rattle.limbo_includes.proofs.nesting.check_nesting.Goals as goal

pub next_level-requires : goal.next_level-requires
next_level-requires c =
    let g = given c.args.path.now c.args.source.now c.args.shelf.now.texts.now in
    rw (c.deref-in-levels-2.ensures.value, c.deref-in-levels-3.ensures.value, c.in_ok-links.ensures) (links_within g c.levels.counter c.levels.marks.items c.levels.invariant.level)

pub levels-preserved : goal.levels-preserved
levels-preserved c =
    let g = given c.args.path.now c.args.source.now c.args.shelf.now.texts.now in
    let v = c.levels.invariant.level in
    let q : suc c.levels.counter ≡ c.levels.counter + 1 = omega arith in
    record {
      level =
          subst (λ (n : ℕ). IsLevel g n c.in_ok-marks-2.marks.items) q
          (level_next g c.levels.counter c.levels.marks.items c.in_ok-marks-2.marks.items v
          (rw c.deref-in-levels-3.ensures.value at c.in_ok-marks-2.ensures.same_length)
          (rw (c.deref-in-levels-2.ensures.value, c.deref-in-levels-3.ensures.value, c.in_ok-links.ensures) at c.in_ok-marks-2.ensures.sound)
          (rw (c.deref-in-levels-2.ensures.value, c.deref-in-levels-3.ensures.value, c.in_ok-links.ensures) at c.in_ok-marks-2.ensures.complete));
      lost =
          rw c.or-lost.ensures
          (lost_more g c.levels.counter c.levels.marks.items v c.levels.lost c.first_lost.result c.levels.invariant.lost
          (rw (c.deref.ensures.value, c.deref-in-levels.ensures.value, c.in_ok-links.ensures) at c.first_lost.ensures.some)
          (rw (c.deref.ensures.value, c.deref-in-levels.ensures.value, c.in_ok-links.ensures) at c.first_lost.ensures.none));
    }

pub returns-then-goes_on-clause-refused : goal.returns-then-goes_on-clause-refused
returns-then-goes_on-clause-refused c =
    let g = given c.args.path.now c.args.source.now c.args.shelf.now.texts.now in
    let q : c.levels.counter ≡ 16 = omega arith in
    let y : (l : Link) × Contains (links_of g) l × (is_marked c.levels.marks.items l.from ≡ true) =
    (rw (c.deref-2.ensures.value, c.deref-3.ensures.value, c.in_ok-links.ensures) at (c.if-goes_on.ensures.yes refl)) in
    deep_there g c.levels.counter c.levels.marks.items c.levels.invariant.level q y.0 y.1 y.2

pub returns-in-Some-clause-refused : goal.returns-in-Some-clause-refused
returns-in-Some-clause-refused c =
    let g = given c.args.path.now c.args.source.now c.args.shelf.now.texts.now in
    let q : c.levels.counter ≡ 16 = omega arith in
    let n : (l : Link) → Contains (links_of g) l → is_marked c.levels.marks.items l.from ≡ false =
    (rw (c.deref-2.ensures.value, c.deref-3.ensures.value, c.in_ok-links.ensures) at (c.if-goes_on.ensures.no refl)) in
    let k : IsLost g c.in-Some.link = (rw c.in-Some.is at c.levels.invariant.lost) in
    let e : c.in_ok-refusal-in-Some.field-0 ≡ NoInclude k.page.path c.in-Some.link.at = c.in_ok-refusal-in-Some.ensures g k.page refl refl k.there in
    rw e (k.lacks, not_deep g c.levels.counter c.levels.marks.items c.levels.invariant.level q n)

pub returns-clause-whole : goal.returns-clause-whole
returns-clause-whole c =
    let g = given c.args.path.now c.args.source.now c.args.shelf.now.texts.now in
    let q : c.levels.counter ≡ 16 = omega arith in
    let n : (l : Link) → Contains (links_of g) l → is_marked c.levels.marks.items l.from ≡ false =
    (rw (c.deref-2.ensures.value, c.deref-3.ensures.value, c.in_ok-links.ensures) at (c.if-goes_on.ensures.no refl)) in
    let k : NoneLost g c.levels.counter = (rw c.in-None.is at c.levels.invariant.lost) in
    is_whole g (not_deep g c.levels.counter c.levels.marks.items c.levels.invariant.level q n) (subst (λ (d : ℕ). NoneLost g d) q k)
