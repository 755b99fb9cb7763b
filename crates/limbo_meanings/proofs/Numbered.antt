-- Which declarations have a meaning of a kind, and which number that is.
use Rattle.std.proofs.Common.{◌≡◌, ℕ, List, Option, Some, None, true, take, refl, sym, ap, ◌∙◌}
use Rattle.std.specs.Prelude.{option_map}
use Rattle.limbo_entries.specs.Entries.{Entry}
use Rattle.limbo_scope.specs.declared.meaning.Meaning.{Meaning}
use Rattle.limbo_scope.specs.declared.meaning.Meaning.TheVariants as meaning
use Rattle.limbo_meanings.specs.declared.kind.Kind.{Kind}
use Rattle.limbo_meanings.specs.declared.kind.Kind.TheVariants as kind
use Rattle.limbo_meanings.specs.Kinds.{place, kind_of, has_kind, is_at}
use Rattle.limbo_meanings.specs.Meanings.{numbered, many_of, meaning_of}
use Rattle.limbo_meanings.proofs.Counting.{itself}

-- the meanings of a kind differ from those of any other
pub kind_in_meaning : Meaning → Option (Kind × ℕ)
kind_in_meaning (meaning.Variable n) = None
kind_in_meaning (meaning.Global n) = Some (kind.Global, n)
kind_in_meaning (meaning.Constant n) = Some (kind.Constant, n)
kind_in_meaning (meaning.Type n) = Some (kind.Type, n)
kind_in_meaning (meaning.Adt n) = Some (kind.Adt, n)
kind_in_meaning (meaning.Module n) = Some (kind.Module, n)
kind_in_meaning (meaning.Function n) = Some (kind.Function, n)
kind_in_meaning (meaning.Import n) = Some (kind.Import, n)
kind_in_meaning (meaning.Exception n) = Some (kind.Exception, n)

read_back : (k : Kind) (n : ℕ) → kind_in_meaning (numbered k n) ≡ Some (k, n)
unfolding kind_in_meaning
read_back kind.Global n = refl
read_back kind.Constant n = refl
read_back kind.Type n = refl
read_back kind.Adt n = refl
read_back kind.Module n = refl
read_back kind.Function n = refl
read_back kind.Import n = refl
read_back kind.Exception n = refl

pub one_kind : (k l : Kind) (n p : ℕ) → numbered k n ≡ numbered l p → (k ≡ l) × (n ≡ p)
one_kind k l n p h =
    let e : Some (k, n) ≡ Some (l, p) = sym (read_back k n) ∙ ap kind_in_meaning h ∙ read_back l p in
    let f : (k, n) ≡ (l, p) = cc in
    (ap (λ (z : Kind × ℕ). z.0) f, ap (λ (z : Kind × ℕ). z.1) f)

-- A declaration that means this number of a kind is of the kind, and so many of it stand before.
pub number_is : (es : List Entry) (m : ℕ) (k : ℕ) (e : Entry) (l : Kind) (n : ℕ) → meaning_of es m k e ≡ Some (numbered l n)
    → (has_kind es m (place l) e ≡ true) × (many_of es m l (take k es) ≡ n)
number_is es m k e l n h = go (kind_of es m e) refl h
  where
    go : (o : Option Kind) → kind_of es m e ≡ o → option_map (λ k'. numbered k' (many_of es m k' (take k es))) o ≡ Some (numbered l n)
        → (has_kind es m (place l) e ≡ true) × (many_of es m l (take k es) ≡ n)
    go None f g = absurd cc
    go (Some k') f g =
        let p : numbered k' (many_of es m k' (take k es)) ≡ numbered l n = cc in
        let q = one_kind k' l (many_of es m k' (take k es)) n p in (
          ap (is_at (place l)) f ∙ ap (λ z. is_at (place l) (Some z)) q.0 ∙ itself (place l),
          ap (λ z. many_of es m z (take k es)) (sym q.0) ∙ q.1,
        )
