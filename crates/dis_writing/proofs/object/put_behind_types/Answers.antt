use Rattle.std.proofs.Common.{◌∷◌}
use Rattle.std.specs.List.{flat_map}
use Rattle.dis_format.specs.Parts.{byte, name, item_parts, link_parts}
use Rattle.dis_writing.proofs.Steps.{behind}
use Rattle.dis_writing.proofs.object.put_behind_types.Goals as goal

pub returns : goal.returns
returns c =
    let o = c.args.o.now in
    rw (behind c.args.out.now.items c.put_items.new.out.items (flat_map item_parts o.items)
    (byte 0 ∷ name o.«module» ∷ flat_map link_parts o.links) (rw c.as_slice.ensures at c.in_ok-put_items.ensures))
    c.put_behind_data.ensures
