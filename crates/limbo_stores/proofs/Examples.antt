-- What the definitions say of a few places.
use Rattle.std.proofs.Common.{◌≡◌, List, [], ◌∷◌, None, Some, refl, sym, ap, ◌∙◌}
use Rattle.limbo_types.specs.Types.{Ty, Chars, Adt, RefAdt, RefPick, ArrayOf}
use Rattle.limbo_layout.specs.Adts.{Def}
use Rattle.limbo_adts.specs.Reaches.{plain, Part, of_array, of_list, of_chan, of_tuple, of_adt, of_ref, of_variant}
use Rattle.limbo_adts.specs.Reaches.{Reaches, reaches_itself, reaches_through}
use Rattle.limbo_typed.specs.Typed.{Expr, Of, OpenNil, Read, Place, At, Local, Field, Element, Target, Assign, ToPlace}
use Rattle.limbo_stores.specs.Stores.{holder, CanClose, Closes, by_place}

-- adt Node { next: ref Node; name: string; }
abbrev node : Def
node = record {
  name = [];
  fields = record { name = []; ty = RefAdt 0 } ∷ record { name = []; ty = Chars } ∷ [];
  picks = [];
}

abbrev nodes : List Def
nodes = node ∷ []

-- a variable n: ref Node; n.next, n.name
abbrev variable : Place
variable = At (RefAdt 0) (Local 0)

abbrev whole : Place
whole = At (Adt 0) (Target (Of (RefAdt 0) (Read variable)))

abbrev next : Place
next = At (RefAdt 0) (Field whole 0)

abbrev name : Place
name = At Chars (Field whole 1)

in_none : holder variable ≡ None
in_none = refl

in_node : holder next ≡ Some (RefAdt 0)
in_node = refl

-- n.next = n
next_closes : Closes nodes (Assign (ToPlace next) (Of (RefAdt 0) (Read variable)))
next_closes =
    by_place (Assign (ToPlace next) (Of (RefAdt 0) (Read variable))) next refl
    (record { object = RefAdt 0; held = refl; reaches = reaches_itself (RefAdt 0) (RefAdt 0) refl })

-- n.name = s
chars_reach : (t u : Ty) → Reaches nodes t u → t ≡ Chars → u ≡ RefAdt 0 → ⊥
chars_reach _ _ (reaches_itself t u e) f g = let h : Chars ≡ RefAdt 0 = sym (ap plain f) ∙ e ∙ ap plain g in cc
chars_reach _ _ (reaches_through t p u a r) f g = no_chars t p a f
  where
    no_chars : (t p : Ty) → Part nodes t p → t ≡ Chars → ⊥
    no_chars _ _ (of_array t) e = cc
    no_chars _ _ (of_list t) e = cc
    no_chars _ _ (of_chan t) e = cc
    no_chars _ _ (of_tuple ts t h) e = cc
    no_chars _ _ (of_adt n t h) e = cc
    no_chars _ _ (of_ref n t h) e = cc
    no_chars _ _ (of_variant n v t h) e = cc

name_never : CanClose nodes name → ⊥
name_never c = chars_reach Chars c.object c.reaches refl (let e : Some (RefAdt 0) ≡ Some c.object = c.held in cc)

-- an element of an array of `ref Node` lies in the array, whichever object names the array
in_array : (i : Expr) → holder (At (RefAdt 0) (Element (Of (ArrayOf (RefAdt 0)) OpenNil) i)) ≡ Some (ArrayOf (RefAdt 0))
in_array i = refl

-- a variant's `ref` closes where its adt's does
variant_closes : Reaches nodes (RefAdt 0) (RefPick 0 1)
variant_closes = reaches_itself (RefAdt 0) (RefPick 0 1) refl
