use Rattle.std.proofs.Common.{◌≡◌, pos, map, ap, arith}
use Rattle.std.proofs.lemmas.Int.{ints}
use mir.Syntax.{w32}
use mir.Val.{to_z, of_z}
use Rattle.slot_code.specs.View.{view_function}
use Rattle.dis_objects.specs.Objects.{base_of}
use Rattle.dis_isa.specs.declared.inst.Operand.TheVariants as operand
use Rattle.dis_generation.proofs.Ready.{entries_length, entry_read, entry_small}
use Rattle.dis_generation.proofs.site.to_entry.Goals as goal

pub bounds-site-function : goal.bounds-site-function
bounds-site-function c =
    let l = entries_length _ _ _ _ _ _ _ c.requires.stands in
    omega (arith, l, c.requires.within)

pub offset-requires : goal.offset-requires
offset-requires c =
    let r = entry_read _ _ _ _ _ _ _ c.requires.stands c.args.function 0 c.requires.within in
    let s = entry_small _ _ _ _ _ _ _ c.requires.stands c.args.function in
    omega (arith, r, s)

pub returns : goal.returns
returns c =
    let r = entry_read _ _ _ _ _ _ _ c.requires.stands c.args.function 0 c.requires.within in
    let s = entry_small _ _ _ _ _ _ _ c.requires.stands c.args.function in
    let e : to_z w32 (of_z w32 c.offset.result) ≡ pos (base_of (map view_function c.args.site.now.whole.now.functions.items)
    c.args.function) = omega (arith, ints, c.offset.ensures, r, s) in
    ap operand.Imm e
