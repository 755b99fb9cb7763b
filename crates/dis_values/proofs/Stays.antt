-- Arrays in a heap in which all blocks of another stay.
use Rattle.std.proofs.Common.{◌≡◌, ℕ, ◌+◌, ◌*◌, ◌≤◌, Option, Some, None, refl, sym, ap, subst, ◌∙◌, inl, inr}
use Rattle.std.proofs.lemmas.Bool.Decides.{eqb_tells}
use Rattle.ref_heap.specs.declared.kind.Kind.{Kind}
use Rattle.ref_heap.specs.Words.{Content, cells}
use Rattle.ref_heap.specs.Store.{Store, Block, IsHeap, at, words_of, with_block, with_new, one_more}
use Rattle.ref_heap.specs.Drops.{IsSameBut, IsPart}
use Rattle.dis_values.specs.Arrays.{Part, part_of, part_in, part_by, elements, elements_by, elements_in, size_of, IsArray, IsWhole}
use Rattle.dis_values.specs.Bytes.{HasBytes, IsPlain}
use Rattle.dis_values.proofs.Made.{block_there, other_block, other_new, not_next}

-- a block that stays
pub record Again (x : Block) (o : Option Block) : Type 0 where
  pub block : Block
  pub live : o ≡ Some block
  pub content : block.content ≡ x.content
  pub kind : block.kind ≡ x.kind

pub again : (a b : Option Block) (x : Block) → IsSameBut a b → a ≡ Some x → Again x b
again None b x p e = absurd cc
again (Some a) None x p e = absurd p
again (Some a) (Some b) x p e =
    let f : a ≡ x = cc in
    record { block = b; live = refl; content = sym p.0 ∙ ap (λ (y : Block). y.content) f; kind = sym p.1 ∙ ap (λ (y : Block). y.kind) f }

-- a reference to an array is to a live block
itself : (h : Store) (s : ℕ) (b : Block) → at h (part_of h s).array ≡ Some b → (x : Block) × (at h s ≡ Some x)
itself h s b is = go (at h s) refl
  where
    go : (o : Option Block) → at h s ≡ o → (x : Block) × (at h s ≡ Some x)
    go (Some x) e = (x, e)
    go None e = absurd (let f : None ≡ Some b = sym e ∙ sym (ap (λ (o : Option Block). at h (part_in s o).array) e) ∙ is in cc)

pub part_stays : (old new : Store) (s : ℕ) (b : Block) → IsPart (at old) (at new) → at old (part_of old s).array ≡ Some b
    → part_of new s ≡ part_of old s
part_stays old new s b p is =
    let x = itself old s b is in
    let y = again (at old s) (at new s) x.0 (p s) x.1 in
    ap (part_in s) y.live
    ∙ ap (λ (k : Kind). part_by s k (words_of y.block)) y.kind
    ∙ ap (λ (c : Content). part_by s x.0.kind (cells c)) y.content
    ∙ sym (ap (part_in s) x.1)

pub whole_stays : (old new : Store) (s k size len : ℕ) → IsPart (at old) (at new) → IsWhole old k size len → IsWhole new k size len
whole_stays old new s k size len p w =
    let y = again (at old k) (at new k) w.block (p k) w.live in
    record { block = y.block; live = y.live; kind = y.kind ∙ w.kind; bytes = w.bytes; small = w.small }

bytes_stay : (old new : Store) (k n : ℕ) → IsPart (at old) (at new) → HasBytes old k n → HasBytes new k n
bytes_stay old new k n p t =
    let y = again (at old k) (at new k) t.block (p k) t.live in
    record { block = y.block; live = y.live; numbers = t.numbers; content = y.content ∙ t.content; enough = t.enough }

pub array_stays : (old new : Store) (s : ℕ) → IsPart (at old) (at new) → IsArray old s → IsArray new s
array_stays old new s p a =
    let same = part_stays old new s a.whole.block p a.whole.live in
    record {
      size = a.size;
      length = a.length;
      whole = subst (λ (q : Part). IsWhole new q.array a.size a.length) (sym same)
          (whole_stays old new s (part_of old s).array a.size a.length p a.whole);
      within = subst (λ (q : Part). q.from + q.length ≤ a.length) (sym same) a.within;
    }

pub plain_stays : (old new : Store) (s size : ℕ) → IsPart (at old) (at new) → IsPlain old s size → IsPlain new s size
plain_stays old new s size p a =
    let same = part_stays old new s a.whole.block p a.whole.live in
    record {
      length = a.length;
      whole = subst (λ (q : Part). IsWhole new q.array size a.length) (sym same)
          (whole_stays old new s (part_of old s).array size a.length p a.whole);
      within = subst (λ (q : Part). q.from + q.length ≤ a.length) (sym same) a.within;
      kept = subst (λ (q : Part). HasBytes new q.array (size * a.length)) (sym same)
          (bytes_stay old new (part_of old s).array (size * a.length) p a.kept);
    }

pub elements_stay : (old new : Store) (s : ℕ) → IsPart (at old) (at new) → IsArray old s → elements new s ≡ elements old s
elements_stay old new s p a =
    let part = part_of old s in
    let same = part_stays old new s a.whole.block p a.whole.live in
    let y = again (at old part.array) (at new part.array) a.whole.block (p part.array) a.whole.live in
    ap (λ (q : Part). elements_by (at new q.array) q.from q.length) same
    ∙ ap (λ (o : Option Block). elements_by o part.from part.length) y.live
    ∙ ap (λ (k : Kind). elements_in (size_of k) (words_of y.block) part.from part.length) y.kind
    ∙ ap (λ (c : Content). elements_in (size_of a.whole.block.kind) (cells c) part.from part.length) y.content
    ∙ sym (ap (λ (o : Option Block). elements_by o part.from part.length) a.whole.live)

same_as : (a b : Option Block) → b ≡ a → IsSameBut a b
same_as None b e = tt
same_as (Some a) None e = absurd cc
same_as (Some a) (Some b) e = (let f : a ≡ b = cc in (ap (λ (y : Block). y.content) f, ap (λ (y : Block). y.kind) f))

-- a block is made, and all others stay
pub stay_made : (h : Store) (b : Block) → IsHeap h → IsPart (at h) (at (with_new h b))
stay_made h b ok s = go (at h s) refl
  where
    go : (o : Option Block) → at h s ≡ o → IsSameBut (at h s) (at (with_new h b) s)
    go None e = subst (λ (o : Option Block). IsSameBut o (at (with_new h b) s)) (sym e) tt
    go (Some x) e = same_as (at h s) (at (with_new h b) s) (other_new h b s (not_next h s x ok e))

-- one more reference, and all stay
pub stay_held : (h : Store) (k : ℕ) (b : Block) → at h k ≡ Some b → IsPart (at h) (at (with_block h k (one_more b)))
stay_held h k b is s = elim (eqb_tells s k) [
  | inl y ↦
      let a : at h s ≡ Some b = ap (at h) y.1 ∙ is in
      let c : at (with_block h k (one_more b)) s ≡ Some (one_more b) = ap (at (with_block h k (one_more b))) y.1
      ∙ block_there h k (one_more b) in
      subst (λ (o : Option Block). IsSameBut o (at (with_block h k (one_more b)) s)) (sym a)
      (subst (λ (o : Option Block). IsSameBut (Some b) o) (sym c) (refl, refl))
  | inr y ↦ same_as (at h s) (at (with_block h k (one_more b)) s) (other_block h k (one_more b) s y.1)
]
