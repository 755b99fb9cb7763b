-- Strings of a module's data are well-formed UTF-8, so that the machine can read them.
use Rattle.std.specs.Prelude.{◌≡◌, List, [], ◌∷◌}
use Rattle.std.specs.Str.{IsUtf8}
use Rattle.dis_file.specs.declared.object.Item.{Item}

abbrev pub IsSpelled : Item → Type 0
IsSpelled i = i.kind ≡ 3 → IsUtf8 i.content

-- Each of these items that is a string is.
abbrev pub AreSpelled : List Item → Type 0
AreSpelled [] = Unit {0}
AreSpelled (i ∷ is) = IsSpelled i × AreSpelled is
