-- What one round does.
use Rattle.std.proofs.Common.{◌≡◌, ℕ, suc, ◌+◌, ◌*◌, ◌<◌, List, [], ◌∷◌, ◌++◌, length, None, Some, refl, sym, ap, ◌∙◌, subst, arith, append_assoc, length-append}
use Rattle.std.proofs.lemmas.List.{append-nil}
use Rattle.limbo_layout.specs.Adts.{Def}
use Rattle.link_sign.specs.declared.draft.Draft.{Draft}
use Rattle.link_sign.specs.TypeText.{Piece, Letter, Whole, letters, adt_pieces, adt_at, opened_as, repeated, Spells, ends, writes, opens, repeats}
use Rattle.link_sign.specs.Computed.{size}
use Rattle.link_sign.specs.Drafts.{Item, ThePiece, Adds, Spreads, Steps, item_pieces, items_of, to_write, whole, weight, burden, rounds}
use Rattle.link_sign.proofs.Drafts.{to_write-append, burden-append, letters-append}
use Rattle.link_sign.proofs.Texts.{size-append, opening_less}

size-letters : (cs : List ℕ) → size (letters cs) ≡ length cs
size-letters [] = refl
size-letters (c ∷ cs) = ap suc (size-letters cs)

module _ (defs : List Def) (modules : List (List ℕ)) where
  -- letters are spelled by themselves
  pub under_letters : (cs : List ℕ) (o p : List ℕ) (ps qs : List Piece) → ((t : List ℕ) → Spells defs modules p qs t → Spells defs modules o ps t)
      → (t : List ℕ) → Spells defs modules p (letters cs ++ qs) t → Spells defs modules o (letters cs ++ ps) t
  under_letters [] o p ps qs f t x = f t x
  under_letters (c ∷ cs) o p ps qs f _ (writes _ _ _ u x) = writes o c (letters cs ++ ps) u (under_letters cs o p ps qs f u x)

  pub behind_letters : (cs : List ℕ) (o : List ℕ) (ps : List Piece) (t : List ℕ) → Spells defs modules o (letters cs ++ ps) t → (u : List ℕ) × (t ≡ cs ++ u) × Spells defs modules o ps u
  behind_letters [] o ps t x = (t, refl, x)
  behind_letters (c ∷ cs) o ps _ (writes _ _ _ u x) = let b = behind_letters cs o ps u x in (b.0, ap (λ z. c ∷ z) b.1, b.2)

  pub letters_spelled : (cs : List ℕ) (o : List ℕ) → Spells defs modules o (letters cs ++ []) cs
  letters_spelled [] o = ends o
  letters_spelled (c ∷ cs) o = writes o c (letters cs ++ []) cs (letters_spelled cs o)

  next_pieces : (is : List Item) (i : Item) → to_write modules (is ++ i ∷ []) ≡ item_pieces modules i ++ to_write modules is
  next_pieces is i = to_write-append modules is (i ∷ []) ∙ ap (λ z. z ++ to_write modules is) (append-nil (item_pieces modules i))

  next_burden : (is : List Item) (i : Item) → burden (is ++ i ∷ []) ≡ weight i + burden is
  next_burden is i = let e = burden-append is (i ∷ []) in omega (arith, e)

  sizes : (ps : List Piece) (old new : Draft) → letters old.text.items ++ (ps ++ to_write modules (items_of old)) ≡ whole modules new
      → length old.text.items + size (ps ++ to_write modules (items_of old)) ≡ length new.text.items + size (to_write modules (items_of new))
  sizes ps old new e =
      omega (
        arith,
        ap size e,
        size-append (letters old.text.items) (ps ++ to_write modules (items_of old)),
        size-append (letters new.text.items) (to_write modules (items_of new)),
        size-letters old.text.items,
        size-letters new.text.items,
      )

  -- pieces that stay what they are
  pub step_on : (i : Item) (o : List ℕ) (old new : Draft) → letters old.text.items ++ (item_pieces modules i ++ to_write modules (items_of old)) ≡ whole modules new
      → burden (items_of new) + 8 * length old.text.items < weight i + (burden (items_of old) + 8 * length new.text.items) → Steps defs modules i o o old new
  step_on i o old new e l = record {
    meant = λ text x. subst (λ z. Spells defs modules o z text) (sym (ap (λ z. letters old.text.items ++ z) (next_pieces (items_of old) i) ∙ e)) x;
    less = omega (arith, sizes (item_pieces modules i) old new e, ap size (next_pieces (items_of old) i), next_burden (items_of old) i, l);
  }

  -- an item that is no piece
  pub step_spreads : (i : Item) (o : List ℕ) (old new : Draft) → weight i ≡ 2 → Spreads modules (item_pieces modules i) old new → Steps defs modules i o o old new
  step_spreads i o old new two x = step_on i o old new x.same (omega (arith, two, x.less))

  added : {s : List ℕ} (old new : Draft) → Adds s [] old new → whole modules new ≡ letters old.text.items ++ (letters s ++ to_write modules (items_of old))
  added {s} old new x =
      ap (λ z. letters z ++ to_write modules (items_of new)) x.text
      ∙ ap (λ z. z ++ to_write modules (items_of new)) (letters-append old.text.items s)
      ∙ append_assoc (letters old.text.items) (letters s) (to_write modules (items_of new))
      ∙ ap (λ z. letters old.text.items ++ (letters s ++ to_write modules z)) (x.pending ∙ append-nil (items_of old))

  -- a letter
  pub step_letter : (c : ℕ) (o : List ℕ) (old new : Draft) → Adds (c ∷ []) [] old new → Steps defs modules (ThePiece (Letter c)) o o old new
  step_letter c o old new x =
      step_on (ThePiece (Letter c)) o old new (sym (added old new x))
      (omega (arith, ap burden (x.pending ∙ append-nil (items_of old)), ap length x.text, length-append old.text.items (c ∷ [])))

  -- an adt that was opened before
  pub step_again : (n k : ℕ) (o : List ℕ) (old new : Draft) → opened_as o n ≡ Some k → Adds (repeated k) [] old new → Steps defs modules (ThePiece (Whole n)) o o old new
  step_again n k o old new e x = record {
    meant = λ text y.
        let left = to_write modules (items_of old) in
        let behind : Spells defs modules o (letters old.text.items ++ (letters (repeated k) ++ left)) text = subst (λ z. Spells defs modules o z text) (added old new x) y in
        let f = λ (t : List ℕ) (z : Spells defs modules o (letters (repeated k) ++ left) t).
        let b = behind_letters (repeated k) o left t z in
        subst (λ u. Spells defs modules o (Whole n ∷ left) u) (sym b.1) (repeats o n k left b.0 e b.2) in
        subst (λ z. Spells defs modules o (letters old.text.items ++ z) text) (sym (next_pieces (items_of old) (ThePiece (Whole n))))
        (under_letters old.text.items o o (Whole n ∷ left) (letters (repeated k) ++ left) f text behind);
    less =
        let same = x.pending ∙ append-nil (items_of old) in
        omega (arith, ap burden same, ap (λ z. size (to_write modules z)) same, ap size (next_pieces (items_of old) (ThePiece (Whole n))), next_burden (items_of old) (ThePiece (Whole n)));
  }

  -- an adt that is opened now
  pub step_open : (n : ℕ) (o p : List ℕ) (old new : Draft) → opened_as o n ≡ None → p ≡ o ++ n ∷ [] → Spreads modules (adt_pieces modules (adt_at defs n)) old new
      → Steps defs modules (ThePiece (Whole n)) o p old new
  step_open n o p old new e q x = record {
    meant = λ text y.
        let left = to_write modules (items_of old) in
        let own = adt_pieces modules (adt_at defs n) in
        let behind : Spells defs modules (o ++ n ∷ []) (letters old.text.items ++ (own ++ left)) text =
        subst (λ z. Spells defs modules (o ++ n ∷ []) z text) (sym x.same) (subst (λ z. Spells defs modules z (whole modules new) text) q y) in
        subst (λ z. Spells defs modules o (letters old.text.items ++ z) text) (sym (next_pieces (items_of old) (ThePiece (Whole n))))
        (under_letters old.text.items o (o ++ n ∷ []) (Whole n ∷ left) (own ++ left) (λ t z. opens o n left t e z) text behind);
    less =
        let left = to_write modules (items_of old) in
        omega (
          arith,
          x.less,
          sizes (adt_pieces modules (adt_at defs n)) old new x.same,
          opening_less defs modules o n left e,
          ap (λ z. rounds defs modules z (items_of new)) q,
          ap size (next_pieces (items_of old) (ThePiece (Whole n))),
          next_burden (items_of old) (ThePiece (Whole n)),
        );
  }
