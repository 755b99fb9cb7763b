-- Layouts worked out by hand.
use Rattle.std.proofs.Common.{◌≡◌, [], ◌∷◌, map, true, false, refl}
use Rattle.limbo_types.specs.Types.{Byte, Int, Big, Chars, Tuple, RefAdt, MoreTys, NoTys}
use Rattle.limbo_layout.specs.Adts.{Field, Variant, Def, parts}
use Rattle.limbo_layout.specs.Layout.{nothing, in_order, map_of}
use Rattle.limbo_layout.specs.Laying.{room, rooms_of}
use Rattle.limbo_layout.specs.Laws.{places}

-- `(byte, big, int)` takes 24 bytes, with its int at 16
small_room : room [] (Tuple (MoreTys Byte (MoreTys Big (MoreTys Int NoTys)))) ≡ record { size = 24; align = 8; references = [] }
small_room = refl

small_places : map (λ p. p.at) (places nothing (rooms_of [] (Byte ∷ Big ∷ Int ∷ []))) ≡ 0 ∷ 8 ∷ 16 ∷ []
small_places = refl

-- `(string, byte, ref A)`: its first and its third word refer
words_that_refer : map_of (room [] (Tuple (MoreTys Chars (MoreTys Byte (MoreTys (RefAdt 0) NoTys))))) ≡ true ∷ false ∷ true ∷ []
words_that_refer = refl

-- `adt { x: byte; pick { A => s: string; B => b: big; } }`: the tag, the common field, then what the variants have
picked : Def
picked = record {
  name = [];
  fields = record { name = []; ty = Byte } ∷ [];
  picks = record { name = []; fields = record { name = []; ty = Chars } ∷ [] } ∷ record { name = []; fields = record { name = []; ty = Big } ∷ [] } ∷ [];
}

picked_places : map (λ p. p.at) (places nothing (rooms_of [] (parts picked))) ≡ 0 ∷ 4 ∷ 8 ∷ 16 ∷ []
unfolding picked
picked_places = refl

picked_room : in_order (rooms_of [] (parts picked)) ≡ record { size = 24; align = 8; references = 8 ∷ [] }
unfolding picked
picked_room = refl
