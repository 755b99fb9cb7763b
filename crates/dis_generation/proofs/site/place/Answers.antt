use Rattle.std.proofs.Common.{arith}
use Rattle.dis_generation.proofs.Ready.{places_length, place_read, place_small, code_short}
use Rattle.dis_generation.proofs.site.place.Goals as goal

pub offset_bounds-site-pc : goal.offset_bounds-site-pc
offset_bounds-site-pc c =
    let s = code_short _ _ _ _ _ _ _ c.requires.stands in
    omega (arith, s, c.requires.within)

pub bounds-site-pc : goal.bounds-site-pc
bounds-site-pc c =
    let l = places_length _ _ _ _ _ _ _ c.requires.stands in
    omega (arith, l, c.requires.within)

pub returns-clause-value : goal.returns-clause-value
returns-clause-value c = place_read _ _ _ _ _ _ _ c.requires.stands c.args.pc 0 c.requires.within

pub returns-clause-small : goal.returns-clause-small
returns-clause-small c =
    let r = place_read _ _ _ _ _ _ _ c.requires.stands c.args.pc 0 c.requires.within in
    let s = place_small _ _ _ _ _ _ _ c.requires.stands c.args.pc in
    omega (arith, r, s)
