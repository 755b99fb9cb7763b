-- Data that grow twice.
use Rattle.std.proofs.Common.{◌≡◌, ℕ, ◌+◌, Bool, List, [], ◌∷◌, ◌++◌, refl, sym, ap, ◌∙◌, arith, append_assoc, append-nil}
use Rattle.dis_file.specs.declared.object.Item.{Item}
use Rattle.dis_objects.specs.declared.module_data.Data.{Data}
use Rattle.limbo_values.specs.declared.number.Kind.{Kind}
use Rattle.limbo_values.specs.declared.operator.Operator.{Operator}
use Rattle.limbo_values.specs.declared.operator.Shift.{Shift}
use Rattle.limbo_values.specs.declared.operator.Comparison.{Comparison}
use Rattle.limbo_typed.specs.declared.operation.Operation.{Operation}
use Rattle.limbo_typed.specs.declared.operation.Operation.TheVariants as operation
use Rattle.slot_code.specs.Code.{Operand}
use Rattle.dis_objects.specs.Code.{Datum, datum_bytes, data_bytes, operation_data}
use Rattle.dis_objects.specs.Objects.{item_of, items_from, datum_words, data_words}
use Rattle.dis_objects.specs.Growing.{Grows, GrowsBy}

pub bytes_append : (a b : List Datum) → data_bytes (a ++ b) ≡ data_bytes a + data_bytes b
bytes_append [] b = omega arith
bytes_append (d ∷ a) b = let r = bytes_append a b in omega (arith, r)

pub words_append : (a b : List Datum) → data_words (a ++ b) ≡ data_words a ++ data_words b
words_append [] b = refl
words_append (d ∷ a) b = ap (λ ws. datum_words d ++ ws) (words_append a b)
    ∙ sym (append_assoc (datum_words d) (data_words a) (data_words b))

pub items_append : (offset : ℕ) (a b : List Datum) → items_from offset (a ++ b)
    ≡ items_from offset a ++ items_from (offset + data_bytes a) b
items_append offset [] b = let e : offset ≡ offset + 0 = omega arith in ap (λ o. items_from o b) e
items_append offset (d ∷ a) b =
    let e : offset + datum_bytes d + data_bytes a ≡ offset + (datum_bytes d + data_bytes a) = omega arith in
    ap (λ xs. item_of offset d ∷ xs) (items_append (offset + datum_bytes d) a b
    ∙ ap (λ o. items_from (offset + datum_bytes d) a ++ items_from o b) e)

module _ (a b c : Data) where
  pub grows_both : (xs ys : List Item) (vs ws : List Bool) (m n : ℕ) → Grows a b xs vs m → Grows b c ys ws n →
      Grows a c (xs ++ ys) (vs ++ ws) (m + n)
  grows_both xs ys vs ws m n g h = record {
    items_are = h.items_are ∙ ap (λ s. s ++ ys) g.items_are ∙ append_assoc a.items.items xs ys;
    words_are = h.words_are ∙ ap (λ s. s ++ ws) g.words_are ∙ append_assoc a.words.items vs ws;
    place_is = let p = g.place_is in let q = h.place_is in omega (arith, p, q);
    spelled = λ s. h.spelled (g.spelled s);
  }

  -- Some data, and some more.
  pub grows_more : (ds es : List Datum) → GrowsBy a b ds → GrowsBy b c es → GrowsBy a c (ds ++ es)
  grows_more ds es g h =
      let both = grows_both (items_from a.place ds) (items_from b.place es) (data_words ds) (data_words es) (data_bytes ds) (data_bytes es)
      g h in
      record {
        items_are = both.items_are
            ∙ ap (λ p. a.items.items ++ (items_from a.place ds ++ items_from p es)) g.place_is
            ∙ ap (λ xs. a.items.items ++ xs) (sym (items_append a.place ds es));
        words_are = both.words_are ∙ ap (λ ws. a.words.items ++ ws) (sym (words_append ds es));
        place_is = let p = both.place_is in let n = bytes_append ds es in omega (arith, p, n);
        spelled = both.spelled;
      }

-- None.
pub grows_none : (a : Data) → Grows a a [] [] 0
grows_none a = record {
  items_are = sym (append-nil a.items.items);
  words_are = sym (append-nil a.words.items);
  place_is = omega arith;
  spelled = λ s. s;
}

-- Only operations on two numbers have data.
pub no_data : (a : Data) (o : Operation) (x y : Operand) → ((u : Operator) (k : Kind) → o ≡ operation.Arithmetic u k → ⊥) →
    ((u : Shift) (k : Kind) → o ≡ operation.Shift u k → ⊥) →
    ((u : Comparison) (k : Kind) → o ≡ operation.Compare u k → ⊥) → GrowsBy a a (operation_data o x y)
no_data a (operation.Arithmetic u k) x y p q r = absurd (p u k refl)
no_data a (operation.Shift u k) x y p q r = absurd (q u k refl)
no_data a (operation.Compare u k) x y p q r = absurd (r u k refl)
no_data a o x y p q r = grows_none a
