-- A text that is being written, and what is still to be written of it.
use Rattle.std.specs.Prelude.{◌≡◌, ℕ, ◌+◌, ◌*◌, ◌<◌, List, [], ◌∷◌, ◌++◌, map, length, reverse}
use Rattle.std.specs.List.{flat_map}
use Rattle.limbo_types.specs.Types.{Ty}
use Rattle.limbo_types.specs.View.{view_ty}
use Rattle.limbo_layout.specs.Adts.{Field, Variant, Def}
use Rattle.limbo_layout.specs.View.{view_fields, view_variant}
use Rattle.link_sign.specs.declared.draft.Pending.{Pending}
use Rattle.link_sign.specs.declared.draft.Pending.TheVariants as pending
use Rattle.link_sign.specs.declared.draft.Draft.{Draft}
use Rattle.link_sign.specs.TypeText.{Piece, Letter, Whole, letters, pieces, after_commas, fields_pieces, variants_pieces, Spells}
use Rattle.link_sign.specs.Computed.{steps_for}

-- What is still to be written: a piece, a type, types that stand behind commas, fields, variants.
pub data Item : Type 0 where
  ThePiece : Piece → Item
  TheType : Ty → Item
  TheTypes : List Ty → Item
  TheFields : List Field → Item
  TheVariants : List Variant → Item

abbrev pub view_item : Pending → Item
view_item (pending.Letter c) = ThePiece (Letter c)
view_item (pending.Whole n) = ThePiece (Whole n)
view_item (pending.Type t) = TheType (view_ty t.now)
view_item (pending.Types ts) = TheTypes (map view_ty ts.now)
view_item (pending.Fields fs) = TheFields (view_fields fs.now)
view_item (pending.Variants vs) = TheVariants (map view_variant vs.now)

abbrev pub items_of : Draft → List Item
items_of d = map view_item d.pending.items

abbrev pub item_pieces : (modules : List (List ℕ)) → Item → List Piece
item_pieces modules (ThePiece p) = p ∷ []
item_pieces modules (TheType t) = pieces modules t
item_pieces modules (TheTypes ts) = after_commas (map (pieces modules) ts)
item_pieces modules (TheFields fs) = fields_pieces modules fs
item_pieces modules (TheVariants vs) = variants_pieces modules vs

-- the pieces that are to be written: the last item is the next
abbrev pub to_write : (modules : List (List ℕ)) → List Item → List Piece
to_write modules items = flat_map (item_pieces modules) (reverse items)

-- the whole text in pieces: what is written, and what is to be written
abbrev pub whole : (modules : List (List ℕ)) → Draft → List Piece
whole modules d = letters d.text.items ++ to_write modules (items_of d)

-- In how many rounds an item is gone at most, each part that it leaves counted for itself.
abbrev pub weight : Item → ℕ
weight (ThePiece p) = 1
weight i = 2

abbrev pub burden : List Item → ℕ
burden [] = 0
burden (i ∷ is) = weight i + burden is

-- Bytes are written, and items are left to be written next.
pub record Adds (bytes : List ℕ) (items : List Item) (old new : Draft) : Type 0 where
  pub text : new.text.items ≡ old.text.items ++ bytes
  pub pending : items_of new ≡ items_of old ++ items

-- Pieces are written, or left to be written, so that the whole text is what it was with them. Bytes that are written make up for
-- what is left beyond one item.
pub record Spreads (modules : List (List ℕ)) (ps : List Piece) (old new : Draft) : Type 0 where
  pub same : letters old.text.items ++ (ps ++ to_write modules (items_of old)) ≡ whole modules new
  pub less : burden (items_of new) + 8 * length old.text.items < 2 + (burden (items_of old) + 8 * length new.text.items)

-- In how many rounds all is written at most, where these adts were opened before.
abbrev pub rounds : List Def → (modules : List (List ℕ)) → (opened : List ℕ) → List Item → ℕ
rounds defs modules opened items = 8 * steps_for defs modules opened (to_write modules items) + burden items

-- An item is written: what is spelled behind it was spelled with it, and there is less to write.
pub record Steps (defs : List Def) (modules : List (List ℕ)) (item : Item) (opened opened' : List ℕ) (old new : Draft) : Type 0 where
  pub meant : (text : List ℕ) → Spells defs modules opened' (whole modules new) text →
      Spells defs modules opened (letters old.text.items ++ to_write modules (items_of old ++ item ∷ [])) text
  pub less : rounds defs modules opened' (items_of new) < rounds defs modules opened (items_of old ++ item ∷ [])

-- the items of types with commas between them
abbrev pub listed : List Ty → List Item
listed [] = []
listed (t ∷ ts) = TheTypes ts ∷ TheType t ∷ []
