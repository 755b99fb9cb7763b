-- The elements of an array in which a block's numbers were written.
use Rattle.std.proofs.Common.{◌≡◌, ◌≢◌, ◌⊎◌, ℕ, ◌+◌, ◌-◌, ◌*◌, ◌/◌, ◌<◌, ◌≤◌, zero, suc, false, List, [], ◌∷◌, ◌++◌, take, drop, length}
use Rattle.std.proofs.Common.{Option, Some, refl, sym, ap, subst, ◌∙◌, arith, inl, inr}
use Rattle.std.specs.Prelude.{eqb, map, slice_get, Result, Ok, Err, OnOk}
use Rattle.std.proofs.lemmas.Bool.Decides.{eqb_tells}
use Rattle.ref_heap.specs.declared.kind.Kind.{Kind}
use Rattle.ref_heap.specs.declared.kind.Kind.TheVariants.{Array}
use Rattle.ref_heap.specs.Words.{Cell, Content, cells, compact, plain}
use Rattle.ref_heap.specs.Store.{Store, Block, at, words_of, with_block, with_content}
use Rattle.dis_values.specs.Arrays.{Part, part_of, part_in, part_by, element, elements, elements_by, elements_in, size_of, IsWhole}
use Rattle.dis_values.specs.Bytes.{IsPlain, byte_of}
use Rattle.dis_values.specs.Copies.{Writes, ArrayTakes, overwritten}
use Rattle.dis_values.proofs.Made.{block_there, other_block}
use Rattle.dis_values.proofs.Packed.{part_kept, map_length}
use Rattle.dis_values.proofs.Written.{copied_elements, element_alike, put_same}

-- the elements of a reference, in the words of its array
pub elements_at : (h : Store) (s size len : ℕ) (b : Block) → at h (part_of h s).array ≡ Some b → b.kind ≡ Array size len
    → elements h s ≡ elements_in size (words_of b) (part_of h s).from (part_of h s).length
elements_at h s size len b is kind =
    ap (λ (o : Option Block). elements_by o (part_of h s).from (part_of h s).length) is
    ∙ ap (λ (k : Kind). elements_in (size_of k) (words_of b) (part_of h s).from (part_of h s).length) kind

-- and of the array itself
pub whole_at : (h : Store) (k size len : ℕ) (b : Block) → at h k ≡ Some b → b.kind ≡ Array size len
    → elements h k ≡ elements_in size (words_of b) 0 len
whole_at h k size len b is kind =
    let same : part_of h k ≡ record { array = k; from = 0; length = len } = ap (part_in k) is
    ∙ ap (λ (q : Kind). part_by k q (words_of b)) kind in
    ap (λ (q : Part). elements_by (at h q.array) q.from q.length) same
    ∙ ap (λ (o : Option Block). elements_by o 0 len) is
    ∙ ap (λ (q : Kind). elements_in (size_of q) (words_of b) 0 len) kind

-- element by element, what a block has after a copy
pub record Pieces (size : ℕ) (old new src : List Cell) (base from n : ℕ) : Type 0 where
  pub here : (q : ℕ) → q < n → element size new (base + q) ≡ element size src (from + q)
  pub apart : (j : ℕ) → (j < base) ⊎ (base + n ≤ j) → element size new j ≡ element size old j

pub record Took (h new : Store) (t from : ℕ) (ys : List (List Cell)) : Type 0 where
  pub array : ArrayTakes h new t from ys
  pub elements_are : elements new t ≡ overwritten (elements h t) from ys

pub took : (h new : Store) (t from size sf n len : ℕ) (src : List Cell) (c : Content) (w : IsWhole h (part_of h t).array size len)
    → (part_of h t).from + (part_of h t).length ≤ len → from + n ≤ (part_of h t).length
    → new ≡ with_block h (part_of h t).array (with_content w.block c)
    → Pieces size (words_of w.block) (cells c) src ((part_of h t).from + from) sf n
    → Took h new t from (elements_in size src sf n)
took h new t from size sf n len src c w inside fits made pieces =
    let p = part_of h t in
    let b = w.block in
    let b' = with_content b c in
    let same : part_of new t ≡ p = ap (λ (v : Store). part_of v t) made
    ∙ part_kept h t p.array size len b b' w.live w.kind refl in
    let there : at new p.array ≡ Some b' = ap (λ (v : Store). at v p.array) made ∙ block_there h p.array b' in
    let live : at new (part_of new t).array ≡ Some b' = ap (λ (q : Part). at new q.array) same ∙ there in
    record {
      array = record {
        block = b;
        live = w.live;
        content = c;
        changed = made;
        array = whole_at new p.array size len b' there w.kind
            ∙ copied_elements size (words_of b) (cells c) src 0 len (p.from + from) (p.from + from) sf n (omega arith)
            (omega arith) pieces.here pieces.apart
            ∙ sym (ap (λ (xs : List (List Cell)). overwritten xs (p.from + from) (elements_in size src sf n))
            (whole_at h p.array size len b w.live w.kind));
      };
      elements_are = elements_at new t size len b' live w.kind
          ∙ ap (λ (q : Part). elements_in size (cells c) q.from q.length) same
          ∙ copied_elements size (words_of b) (cells c) src p.from p.length from (p.from + from) sf n refl fits pieces.here pieces.apart
          ∙ sym (ap (λ (xs : List (List Cell)). overwritten xs from (elements_in size src sf n))
          (elements_at h t size len b w.live w.kind));
    }

-- the source's elements are those that were read
pub source_is : (h : Store) (s size : ℕ) (a : IsPlain h s size) → elements_in size (words_of a.whole.block) (part_of h s).from
    (part_of h s).length ≡ elements h s
source_is h s size a = sym (elements_at h s size a.length a.whole.block a.whole.live a.whole.kind)

-- bytes
pub byte_pieces : (h new : Store) (k base from n : ℕ) (src : List Cell) (w : Writes byte_of h new k base n (λ q. byte_of src (from + q)))
    → Pieces 1 (words_of w.block) (map plain w.numbers) src base from n
byte_pieces h new k base from n src w = record {
  here = λ q l. ap (λ (x : ℕ). plain x ∷ []) (w.here q l);
  apart = λ j o. ap (λ (x : ℕ). plain x ∷ []) (w.apart j o);
}

-- words
pub place_within : (q r n k : ℕ) → q < n → r < k → q * k + r < n * k
place_within q r n k l m = (let d = n - (q + 1) in let e : n ≡ q + 1 + d = omega arith in let f = ap (λ (x : ℕ). x * k) e in omega arith)

pub times_le : (a b k : ℕ) → a ≤ b → a * k ≤ b * k
times_le a b k l = (let d = b - a in let e : b ≡ a + d = omega arith in let f = ap (λ (x : ℕ). x * k) e in omega arith)

pub word_pieces : (h new : Store) (k base from n size : ℕ) (src : List Cell) → eqb size 1 ≡ false
    → (w : Writes slice_get h new k (base * (size / 4)) (n * (size / 4)) (λ q. slice_get src (from * (size / 4) + q)))
    → Pieces size (words_of w.block) (map plain w.numbers) src base from n
word_pieces h new k base from n size src wide w = record {
  here = λ q l. element_alike size (map plain w.numbers) src (base + q) (from + q) wide (λ r m.
      let e : (base + q) * (size / 4) + r ≡ base * (size / 4) + (q * (size / 4) + r) = omega arith in
      let f : from * (size / 4) + (q * (size / 4) + r) ≡ (from + q) * (size / 4) + r = omega arith in
      ap (slice_get (map plain w.numbers)) e ∙ w.here (q * (size / 4) + r) (place_within q r n (size / 4) l m) ∙ ap (slice_get src) f);
  apart = λ j o. element_alike size (map plain w.numbers) (words_of w.block) j j wide
      (λ r m. w.apart (j * (size / 4) + r) (outside j r m o));
}
  where
    outside : (j r : ℕ) → r < size / 4 → (j < base) ⊎ (base + n ≤ j) → (j * (size / 4) + r < base * (size / 4)) ⊎
        (base * (size / 4) + n * (size / 4) ≤ j * (size / 4) + r)
    outside j r m (inl l) = inl (place_within j r base (size / 4) l m)
    outside j r m (inr l) = inr (let f = times_le (base + n) j (size / 4) l in omega arith)

-- so many words of elements are there
pub words_within : (a len size : ℕ) → a ≤ len → 4 * (a * (size / 4)) ≤ size * len
words_within a len size l =
    let f = times_le a len (size / 4) l in
    let g = times_le (4 * (size / 4)) size len (omega arith) in
    omega arith

-- a reference to an array without references stays one
pub plain_kept : (h new : Store) (k : ℕ) (b : Block) (ns : List ℕ) (s size : ℕ) → at h k ≡ Some b
    → new ≡ with_block h k (with_content b (compact ns)) → length ns ≡ length (words_of b)
    → (t : ℕ) (len : ℕ) → b.kind ≡ Array t len → IsPlain h s size → IsPlain new s size
plain_kept h new k b ns s size is made long t len kind a =
    let p = part_of h s in
    let b' = with_content b (compact ns) in
    let same : part_of new s ≡ p = ap (λ (v : Store). part_of v s) made ∙ part_kept h s k t len b b' is kind refl in
    let within : (part_of new s).from + (part_of new s).length ≤ a.length =
    subst (λ (q : Part). q.from + q.length ≤ a.length) (sym same) a.within in
    elim (eqb_tells p.array k) [
      | inl y ↦
          let live : at new (part_of new s).array ≡ Some b' = ap (λ (q : Part). at new q.array) same ∙ ap (at new) y.1
          ∙ ap (λ (v : Store). at v k) made ∙ block_there h k b' in
          let one : a.whole.block ≡ b = (let f : Some a.whole.block ≡ Some b = sym a.whole.live ∙ ap (at h) y.1 ∙ is in cc) in
          let also : a.kept.block ≡ b = (let f : Some a.kept.block ≡ Some b = sym a.kept.live ∙ ap (at h) y.1 ∙ is in cc) in
          let count : length (words_of b) ≡ length a.kept.numbers
          = ap (λ (x : Block). length (words_of x)) (sym also) ∙ ap (λ (c : Content). length (cells c)) a.kept.content
          ∙ map_length a.kept.numbers in
          record {
            length = a.length;
            whole = record {
              block = b';
              live = live;
              kind = sym (ap (λ (x : Block). x.kind) one)
                  ∙ a.whole.kind;
              bytes = a.whole.bytes;
              small = a.whole.small;
            };
            within = within;
            kept = record { block = b'; live = live; numbers = ns; content = refl; enough = (let l = a.kept.enough in omega arith) };
          }
      | inr y ↦
          let stay : at new (part_of new s).array ≡ at h p.array = ap (λ (q : Part). at new q.array) same
          ∙ ap (λ (v : Store). at v p.array) made ∙ other_block h k b' p.array y.1 in
          record {
            length = a.length;
            whole = record {
              block = a.whole.block;
              live = stay ∙ a.whole.live;
              kind = a.whole.kind;
              bytes = a.whole.bytes;
              small =
                  a.whole.small;
            };
            within = within;
            kept = record {
              block = a.kept.block;
              live = stay ∙ a.kept.live;
              numbers = a.kept.numbers;
              content = a.kept.content;
              enough =
                  a.kept.enough;
            };
          }
    ]

pub room_in : (size s len x : ℕ) → s ≡ size → x ≤ len → 4 * (x * (s / 4)) ≤ size * len
room_in size s len x e l = (let f = words_within x len s l in let g = ap (λ (y : ℕ). y * len) e in omega arith)

-- what is known where the elements of an array without references were copied
pub record Copied (h new : Store) (t from s : ℕ) : Type 0 where
  pub took : Took h new t from (elements h s)
  pub plain : (u size : ℕ) → IsPlain h u size → IsPlain new u size

copied : (h new : Store) (t s from size : ℕ) (a : IsPlain h t size) (b : IsPlain h s size)
    → from + (part_of h s).length ≤ (part_of h t).length
    → (block : Block) (ns : List ℕ) → at h (part_of h t).array ≡ Some block
    → new ≡ with_block h (part_of h t).array (with_content block (compact ns)) → length ns ≡ length (words_of block)
    → Pieces size (words_of block) (map plain ns) (words_of b.whole.block) ((part_of h t).from + from) (part_of h s).from
    (part_of h s).length
    → Copied h new t from s
copied h new t s from size a b fits block ns live made long pieces =
    let k = (part_of h t).array in
    let src = words_of b.whole.block in
    let same : block ≡ a.whole.block = (let f : Some block ≡ Some a.whole.block = sym live ∙ a.whole.live in cc) in
    let made' : new ≡ with_block h k (with_content a.whole.block (compact ns)) = made
    ∙ ap (λ (x : Block). with_block h k (with_content x (compact ns))) same in
    let pieces' = subst (λ (x : Block). Pieces size (words_of x) (map plain ns) src ((part_of h t).from + from) (part_of h s).from
    (part_of h s).length) same pieces in
    let all = took h new t from size (part_of h s).from (part_of h s).length a.length src
    (compact ns) a.whole a.within fits made' pieces' in
    record {
      took = subst (λ (ys : List (List Cell)). Took h new t from ys) (source_is h s size b) all;
      plain = λ u z p. plain_kept h new k block ns u z live made long size a.length (ap (λ (x : Block). x.kind) same ∙ a.whole.kind) p;
    }

pub copied_bytes : {A E : Type 0} (r : Result A E) (h new : Store) (t s from size into to out sf n : ℕ) (a : IsPlain h t size)
    (b : IsPlain h s size) → size ≡ 1
    → into ≡ (part_of h t).array → to ≡ (part_of h t).from + from → out ≡ (part_of h s).array → sf ≡ (part_of h s).from
    → n ≡ (part_of h s).length
    → from + (part_of h s).length ≤ (part_of h t).length
    → OnOk r ((x : Block) → at h out ≡ Some x → Writes byte_of h new into to n (λ q. byte_of (words_of x) (sf + q)))
    → OnOk r (Copied h new t from s)
copied_bytes (Err e) h new t s from size into to out sf n a b one ei et eo es en fits writes = tt
copied_bytes (Ok v) h new t s from size into to out sf n a b one ei et eo es en fits writes =
    let src = words_of b.whole.block in
    let p = part_of h t in
    let q0 = part_of h s in
    let w0 = writes b.whole.block (ap (at h) eo ∙ b.whole.live) in
    let w1 = subst (λ (k : ℕ). Writes byte_of h new k to n (λ q. byte_of src (sf + q))) ei w0 in
    let w2 = subst (λ (k : ℕ). Writes byte_of h new p.array k n (λ q. byte_of src (sf + q))) et w1 in
    let w3 = subst (λ (k : ℕ). Writes byte_of h new p.array (p.from + from) n (λ q. byte_of src (k + q))) es w2 in
    let w = subst (λ (k : ℕ). Writes byte_of h new p.array (p.from + from) k (λ q. byte_of src (q0.from + q))) en w3 in
    let pieces = byte_pieces h new p.array (p.from + from) q0.from q0.length src w in
    copied h new t s from size a b fits w.block w.numbers w.live w.changed w.size
    (subst (λ (z : ℕ). Pieces z (words_of w.block) (map plain w.numbers) src (p.from + from) q0.from q0.length) (sym one) pieces)

pub copied_words : {A E : Type 0} (r : Result A E) (h new : Store) (t s from size into to out sf n z : ℕ) (a : IsPlain h t size)
    (b : IsPlain h s size) → z ≡ size → z ≢ 1
    → into ≡ (part_of h t).array → to ≡ (part_of h t).from → out ≡ (part_of h s).array → sf ≡ (part_of h s).from → n ≡ (part_of h s).length
    → from + (part_of h s).length ≤ (part_of h t).length
    → OnOk r ((x : Block) → at h out ≡ Some x → Writes slice_get h new into ((to + from) * (z / 4)) (n * (z / 4))
    (λ q. slice_get (words_of x) (sf * (z / 4) + q)))
    → OnOk r (Copied h new t from s)
copied_words (Err e) h new t s from size into to out sf n z a b ez wide ei et eo es en fits writes = tt
copied_words (Ok v) h new t s from size into to out sf n z a b ez wide ei et eo es en fits writes =
    let src = words_of b.whole.block in
    let p = part_of h t in
    let q0 = part_of h s in
    let w0 = writes b.whole.block (ap (at h) eo ∙ b.whole.live) in
    let w1 = subst (λ (k : ℕ). Writes slice_get h new k ((to + from) * (z / 4)) (n * (z / 4)) (λ q. slice_get src (sf * (z / 4) + q))) ei
    w0 in
    let w2 = subst (λ (k : ℕ). Writes slice_get h new p.array ((k + from) * (z / 4)) (n * (z / 4))
    (λ q. slice_get src (sf * (z / 4) + q))) et w1 in
    let w3 = subst (λ (k : ℕ). Writes slice_get h new p.array ((p.from + from) * (z / 4)) (n * (z / 4))
    (λ q. slice_get src (k * (z / 4) + q))) es w2 in
    let w4 = subst (λ (k : ℕ). Writes slice_get h new p.array ((p.from + from) * (z / 4)) (k * (z / 4))
    (λ q. slice_get src (q0.from * (z / 4) + q))) en w3 in
    let w = subst (λ (k : ℕ). Writes slice_get h new p.array ((p.from + from) * (k / 4)) (q0.length * (k / 4))
    (λ q. slice_get src (q0.from * (k / 4) + q))) ez w4 in
    let other : eqb size 1 ≡ false = elim (eqb_tells size 1) [ inl y ↦ absurd (wide (ez ∙ y.1)) | inr y ↦ y.0 ] in
    copied h new t s from size a b fits w.block w.numbers w.live w.changed w.size
    (word_pieces h new p.array (p.from + from) q0.from q0.length size src other w)

pub on_map : {A E : Type 0} (r : Result A E) (P Q : Type 0) → (P → Q) → OnOk r P → OnOk r Q
on_map (Ok x) P Q f p = f p
on_map (Err x) P Q f p = tt

over_none : (xs : List (List Cell)) (i : ℕ) → overwritten xs i [] ≡ xs
over_none xs i = (let e : i + 0 ≡ i = omega arith in ap (λ (x : ℕ). take i xs ++ drop x xs) e) ∙ take_drop i xs
  where
    take_drop : (i : ℕ) (xs : List (List Cell)) → take i xs ++ drop i xs ≡ xs
    take_drop zero xs = refl
    take_drop (suc i) [] = refl
    take_drop (suc i) (x ∷ xs) = ap (λ (ys : List (List Cell)). x ∷ ys) (take_drop i xs)

-- where nothing is copied, nothing changes
pub took_none : (h : Store) (t from size : ℕ) → IsPlain h t size → ArrayTakes h h t from []
took_none h t from size a = record {
  block = a.whole.block;
  live = a.whole.live;
  content = a.whole.block.content;
  changed = sym (put_same h (part_of h t).array a.whole.block a.whole.live);
  array = sym (over_none (elements h (part_of h t).array) ((part_of h t).from + from));
}
