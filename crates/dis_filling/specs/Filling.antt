-- What a reader keeps of the initial data, as the definition of the format sees it.
use Rattle.std.specs.Prelude.{ℕ, ◌≤◌, ⊤, length, reverse, Option, Some, None}
use Rattle.dis_file.specs.declared.object.Item.{Item}
use Rattle.dis_format.specs.declared.kind.ItemKind.{ItemKind}
use Rattle.dis_format.specs.declared.kind.ItemKind.TheVariants as kind
use Rattle.dis_format.specs.Loading.{Loading, kind_of}
use Rattle.dis_filling.specs.declared.filled.Filled.{Filled}

-- The reader's lists have the newest last.
abbrev pub loading_of : Filled → Loading
loading_of f = record { here = f.here; back = reverse f.back.items; stands = reverse f.stands.items }

-- An item's content is as long as what is read in it.
abbrev pub IsLongEnough : ItemKind → ℕ → Type 0
IsLongEnough kind.Array n = 8 ≤ n
IsLongEnough kind.Enter n = 4 ≤ n
IsLongEnough _ n = ⊤

abbrev pub IsReadableAs : Option ItemKind → ℕ → Type 0
IsReadableAs None n = ⊤
IsReadableAs (Some kind) n = IsLongEnough kind n

abbrev pub IsReadable : Item → Type 0
IsReadable i = IsReadableAs (kind_of i.kind) (length i.content)
