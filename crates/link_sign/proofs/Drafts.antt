-- What drafts hold, where bytes are written and items are left.
use Rattle.std.proofs.Common.{◌≡◌, ℕ, ◌+◌, ◌*◌, ◌<◌, List, [], ◌∷◌, ◌++◌, length, reverse, Result, OnOk, refl, sym, ap, ◌∙◌, arith, append_assoc, length-append}
use Rattle.std.proofs.lemmas.List.{map-append, reverse-append}
use Rattle.std.proofs.lemmas.Result.{on_ok_weaker}
use Rattle.std.specs.List.{flat_map}
use Rattle.limbo_types.specs.Types.{Ty}
use Rattle.link_sign.specs.declared.draft.Draft.{Draft}
use Rattle.link_sign.specs.TypeText.{Piece, Letter, letters, pieces}
use Rattle.link_sign.specs.Drafts.{Item, Adds, Spreads, item_pieces, items_of, to_write, burden}

flat_map-append : {X A : Type 0} (f : X → List A) (xs ys : List X) → flat_map f (xs ++ ys) ≡ flat_map f xs ++ flat_map f ys
flat_map-append f [] ys = refl
flat_map-append f (x ∷ xs) ys = ap (λ z. f x ++ z) (flat_map-append f xs ys) ∙ sym (append_assoc (f x) (flat_map f xs) (flat_map f ys))

pub to_write-append : (modules : List (List ℕ)) (xs ys : List Item) → to_write modules (xs ++ ys) ≡ to_write modules ys ++ to_write modules xs
to_write-append modules xs ys = ap (flat_map (item_pieces modules)) (reverse-append xs ys) ∙ flat_map-append (item_pieces modules) (reverse ys) (reverse xs)

pub burden-append : (xs ys : List Item) → burden (xs ++ ys) ≡ burden xs + burden ys
burden-append [] ys = omega arith
burden-append (x ∷ xs) ys = omega (arith, burden-append xs ys)

pub letters-append : (s t : List ℕ) → letters (s ++ t) ≡ letters s ++ letters t
letters-append s t = map-append Letter s t

-- what is added are these pieces
pub spreads : (modules : List (List ℕ)) (ps : List Piece) (s : List ℕ) (is : List Item) {a b : Draft} → Adds s is a b
    → ps ≡ letters s ++ to_write modules is → burden is < 2 + 8 * length s → Spreads modules ps a b
spreads modules ps s is {a} {b} x e l = record {
  same =
      let left = to_write modules (items_of a) in
      let before = letters a.text.items in
      let written : letters b.text.items ≡ before ++ letters s = ap letters x.text ∙ letters-append a.text.items s in
      let waits : to_write modules (items_of b) ≡ to_write modules is ++ left = ap (to_write modules) x.pending ∙ to_write-append modules (items_of a) is in
      ap (λ z. before ++ (z ++ left)) e
      ∙ ap (λ z. before ++ z) (append_assoc (letters s) (to_write modules is) left)
      ∙ sym (append_assoc before (letters s) (to_write modules is ++ left))
      ∙ sym (ap (λ z. z ++ to_write modules (items_of b)) written ∙ ap (λ z. (before ++ letters s) ++ z) waits);
  less =
      let one : burden (items_of b) ≡ burden (items_of a) + burden is = ap burden x.pending ∙ burden-append (items_of a) is in
      let two : length b.text.items ≡ length a.text.items + length s = ap length x.text ∙ length-append a.text.items s in
      omega (arith, one, two, l);
}

-- the same of a type whose form is known
pub spreads_type : {T E : Type 0} (modules : List (List ℕ)) (t u : Ty) (s : List ℕ) (is : List Item) (a b : Draft) (r : Result T E) → t ≡ u
    → pieces modules u ≡ letters s ++ to_write modules is → burden is < 2 + 8 * length s → OnOk r (Adds s is a b) → OnOk r (Spreads modules (pieces modules t) a b)
spreads_type modules t u s is a b r f e l x = on_ok_weaker r (λ y. spreads modules (pieces modules t) s is y (ap (pieces modules) f ∙ e) l) x

-- the same of pieces
pub spreads_ok : {T E : Type 0} (modules : List (List ℕ)) (ps : List Piece) (s : List ℕ) (is : List Item) (a b : Draft) (r : Result T E)
    → ps ≡ letters s ++ to_write modules is → burden is < 2 + 8 * length s → OnOk r (Adds s is a b) → OnOk r (Spreads modules ps a b)
spreads_ok modules ps s is a b r e l x = on_ok_weaker r (λ y. spreads modules ps s is y e l) x
