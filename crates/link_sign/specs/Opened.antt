-- The adts that were opened, as the code keeps them.
use Rattle.std.specs.Prelude.{◌≡◌, ℕ}
use Rattle.std.specs.Ordering.{nat_cmp}
use Rattle.std.specs.BTreeMap.{get}
use Rattle.link_sign.specs.declared.opened.Opened.TheInside.{Inside}
use Rattle.link_sign.specs.TypeText.{opened_as}

-- the map has the place of each in the order
pub record IsPlaced (a : Inside) : Type 0 where
  pub placed : (n : ℕ) → get nat_cmp a.places n ≡ opened_as a.order.items n
