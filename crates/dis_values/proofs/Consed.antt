-- A cell before a list.
use Rattle.std.proofs.Common.{◌≡◌, ℕ, List, [], ◌∷◌, Option, Some, refl, sym, ap, subst, ◌∙◌}
use Rattle.std.specs.Prelude.{Result, Ok, Err, OnOk, IfOk}
use Rattle.ref_heap.specs.declared.word.Ref.{Ref}
use Rattle.ref_heap.specs.declared.kind.Kind.TheVariants.{Cell as ListCell}
use Rattle.ref_heap.specs.declared.kind.HeapFault.{HeapFault}
use Rattle.ref_heap.specs.Words.{Cell, Content, cells, refer, wide}
use Rattle.ref_heap.specs.Store.{Store, Block, IsHeap, at, fresh, with_new}
use Rattle.dis_values.specs.Lists.{IsList}
use Rattle.dis_values.proofs.Made.{new_there, other_new, not_next}

-- lists stay where a block is made
list_kept : (h : Store) (b : Block) (o : Option ℕ) (xs : List (List Cell)) → IsHeap h → IsList h o xs → IsList (with_new h b) o xs
list_kept h b o [] ok l = l
list_kept h b o (x ∷ xs) ok l =
    let c = l.1 in (
      l.0,
      record {
        serial = c.serial;
        named = c.named;
        block = c.block;
        live = other_new h b c.serial (not_next h c.serial c.block ok c.live) ∙ c.live;
        kind = c.kind;
        words = c.words;
      },
      list_kept h b l.0 xs ok l.2,
    )

pub consed : (r : Result Ref HeapFault) (h new : Store) (content : Content) (tail : Option ℕ) (element : List Cell) → IsHeap h → content ≡ wide (refer tail ∷ element)
    → IfOk r (λ (m : Ref). m.serial ≡ h.made) → OnOk r (new ≡ with_new h (fresh ListCell content))
    → IfOk r (λ (m : Ref). (xs : List (List Cell)) → IsList h tail xs → IsList new (Some m.serial) (element ∷ xs))
consed (Err e) h new content tail element ok same serial made = tt
consed (Ok m) h new content tail element ok same serial made = λ xs l.
    let b = fresh ListCell content in (
      tail,
      record {
        serial = m.serial;
        named = refl;
        block = b;
        live = ap (λ (v : Store). at v m.serial) made ∙ ap (at (with_new h b)) serial ∙ new_there h b;
        kind = refl;
        words = ap cells same;
      },
      subst (λ (v : Store). IsList v tail xs) (sym made) (list_kept h b tail xs ok l),
    )
