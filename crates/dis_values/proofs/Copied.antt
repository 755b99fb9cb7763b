-- Numbers of a block written one after the other, and the elements that come of it.
use Rattle.std.proofs.Common.{◌≡◌, ◌≢◌, ◌⊎◌, ℕ, zero, suc, ◌+◌, ◌*◌, ◌<◌, ◌≤◌, List, [], ◌∷◌, length, Option, Some, refl, sym, ap}
use Rattle.std.proofs.Common.{◌∙◌, arith, inl, inr}
use Rattle.std.specs.Prelude.{map, slice_get, slice_set, Ok}
use Rattle.std.proofs.lemmas.Bool.{cases_lt}
use Rattle.std.proofs.lemmas.Bool.Decides.{eqb_tells}
use Rattle.ref_heap.specs.Words.{Cell, Content, cells, compact, plain, with_cell}
use Rattle.ref_heap.specs.Answers.{set_answer}
use Rattle.ref_heap.specs.Store.{Store, Block, at, words_of, with_block, with_content}
use Rattle.dis_values.specs.Bytes.{HasBytes, SetsByte, byte_of}
use Rattle.dis_values.specs.Copies.{Writes}
use Rattle.dis_values.proofs.Made.{block_there}
use Rattle.dis_values.proofs.Packed.{can_put_number, set_get, set_apart, set_length, map_length}
use Rattle.dis_values.proofs.Written.{put_same, put_twice}

-- the block with its numbers
as_numbers : (h : Store) (k all : ℕ) (t : HasBytes h k all) → at h k ≡ Some (with_content t.block (compact t.numbers))
as_numbers h k all t = t.live ∙ ap (λ (c : Content). Some (with_content t.block c)) t.content

pub writes_none : {A : Type 0} (read : List Cell → ℕ → A) (h : Store) (k base all : ℕ) (vs : ℕ → A) → HasBytes h k all
    → Writes read h h k base 0 vs
writes_none read h k base all vs t =
    let old : words_of t.block ≡ map plain t.numbers = ap cells t.content in
    record {
      block = t.block;
      live = t.live;
      numbers = t.numbers;
      changed = sym (put_same h k (with_content t.block (compact t.numbers)) (as_numbers h k all t));
      size = sym (map_length t.numbers) ∙ sym (ap length old);
      here = λ q l. absurd (omega arith);
      apart = λ i a. ap (λ (ws : List Cell). read ws i) (sym old);
    }

-- one more number or byte is written
pub writes_more : {A : Type 0} (read : List Cell → ℕ → A) (h cur new : Store) (k base n : ℕ) (vs : ℕ → A) → Writes read h cur k base n vs
    → (b : Block) (ns : List ℕ) → at cur k ≡ Some b → new ≡ with_block cur k (with_content b (compact ns)) → length ns ≡ length (words_of b)
    → read (map plain ns) (base + n) ≡ vs n → ((i : ℕ) → i ≢ base + n → read (map plain ns) i ≡ read (words_of b) i)
    → Writes read h new k base (n + 1) vs
writes_more read h cur new k base n vs w b ns is made size here apart =
    let mid = with_content w.block (compact w.numbers) in
    let now : at cur k ≡ Some mid = ap (λ (v : Store). at v k) w.changed ∙ block_there h k mid in
    let same : b ≡ mid = (let f : Some b ≡ Some mid = sym is ∙ now in cc) in
    let words : words_of b ≡ map plain w.numbers = ap words_of same in
    record {
      block = w.block;
      live = w.live;
      numbers = ns;
      changed = made
          ∙ ap (λ (x : Block). with_block cur k (with_content x (compact ns))) same
          ∙ ap (λ (v : Store). with_block v k (with_content w.block (compact ns))) w.changed
          ∙ put_twice h k mid (with_content w.block (compact ns));
      size = size ∙ ap length words ∙ map_length w.numbers ∙ w.size;
      here = λ q l. elim (eqb_tells q n) [
        | inl y ↦ ap (λ (x : ℕ). read (map plain ns) (base + x)) y.1 ∙ here ∙ sym (ap vs y.1)
        | inr y ↦ apart (base + q) (λ e. y.1 (omega (arith, e))) ∙ ap (λ (ws : List Cell). read ws (base + q)) words
            ∙ w.here q (omega (arith, y.1))
      ];
      apart = λ i o. apart i (λ e. absurd (beside i o e)) ∙ ap (λ (ws : List Cell). read ws i) words ∙ w.apart i (outside i o);
    }
  where
    beside : (i : ℕ) → (i < base) ⊎ (base + (n + 1) ≤ i) → i ≡ base + n → ⊥
    beside i (inl l) e = absurd (omega arith)
    beside i (inr l) e = absurd (omega arith)

    outside : (i : ℕ) → (i < base) ⊎ (base + (n + 1) ≤ i) → (i < base) ⊎ (base + n ≤ i)
    outside i (inl l) = inl l
    outside i (inr l) = inr (omega arith)

pub writes_byte : (h cur new : Store) (k base n : ℕ) (vs : ℕ → ℕ) → Writes byte_of h cur k base n vs
    → SetsByte cur new k (base + n) (vs n) → Writes byte_of h new k base (n + 1) vs
writes_byte h cur new k base n vs w s = writes_more byte_of h cur new k base n vs w s.block s.numbers s.live s.changed s.size s.here s.apart

pub writes_number : (h cur new : Store) (k base n : ℕ) (vs : ℕ → Option Cell) → Writes slice_get h cur k base n vs
    → Writes slice_get cur new k (base + n) 1 (λ _. vs n)
    → Writes slice_get h new k base (n + 1) vs
writes_number h cur new k base n vs w s =
    let first : slice_get (map plain s.numbers) (base + n) ≡ vs n = (let e : base + n ≡ base + n + 0 =
    omega arith in ap (slice_get (map plain s.numbers)) e) ∙ s.here 0 (omega arith) in
    writes_more slice_get h cur new k base n vs w s.block s.numbers s.live s.changed s.size first (λ i a. s.apart i (beside i a))
  where
    beside : (i : ℕ) → i ≢ base + n → (i < base + n) ⊎ (base + n + 1 ≤ i)
    beside i a = elim (cases_lt i (base + n)) [
      | inl l ↦ inl l
      | inr l ↦ inr (omega (arith, l))
    ]

-- the block still has so many bytes
pub writes_has : {A : Type 0} (read : List Cell → ℕ → A) (h cur : Store) (k base n all : ℕ) (vs : ℕ → A) → HasBytes h k all
    → Writes read h cur k base n vs → HasBytes cur k all
writes_has read h cur k base n all vs t w =
    let mid = with_content w.block (compact w.numbers) in
    let same : t.block ≡ w.block = (let f : Some t.block ≡ Some w.block = sym t.live ∙ w.live in cc) in
    let count : length (words_of w.block) ≡ length t.numbers = ap (λ (x : Block). length (words_of x)) (sym same)
    ∙ ap (λ (c : Content). length (cells c)) t.content ∙ map_length t.numbers in
    record {
      block = mid;
      live = ap (λ (v : Store). at v k) w.changed ∙ block_there h k mid;
      numbers = w.numbers;
      content = refl;
      enough = (let l = t.enough in let s = w.size in omega arith);
    }

number_at : (ns : List ℕ) (i : ℕ) → i < length ns → (v : ℕ) × (slice_get ns i ≡ Some v)
number_at [] i h = absurd (omega arith)
number_at (n ∷ ns) zero h = (n, refl)
number_at (n ∷ ns) (suc i) h = number_at ns i (omega arith)

-- a number is set
pub can_put_at : (h : Store) (k all i c : ℕ) → HasBytes h k all → 4 * i < all → set_answer (at h k) i (plain c) ≡ Ok tt
can_put_at h k all i c t l =
    let v = number_at t.numbers i (let e = t.enough in omega arith) in
    can_put_number h k all i v.0 c t v.1

pub writes_one : (h new : Store) (k all i c : ℕ) (t : HasBytes h k all) → 4 * i < all
    → new ≡ with_block h k (with_content t.block (with_cell t.block.content i (plain c)))
    → Writes slice_get h new k i 1 (λ _. Some (plain c))
writes_one h new k all i c t l made =
    let old : words_of t.block ≡ map plain t.numbers = ap cells t.content in
    let room : i < length t.numbers = (let e = t.enough in omega arith) in
    record {
      block = t.block;
      live = t.live;
      numbers = slice_set t.numbers i c;
      changed = made ∙ ap (λ (x : Content). with_block h k (with_content t.block (with_cell x i (plain c)))) t.content;
      size = set_length t.numbers i c ∙ sym (map_length t.numbers) ∙ sym (ap length old);
      here = λ q m. (let e : i + q ≡ i = omega arith in ap (slice_get (map plain (slice_set t.numbers i c))) e)
          ∙ set_get t.numbers i c room;
      apart = λ j o. set_apart t.numbers i j c (λ e. absurd (beside j o e)) ∙ sym (ap (λ (ws : List Cell). slice_get ws j) old);
    }
  where
    beside : (j : ℕ) → (j < i) ⊎ (i + 1 ≤ j) → j ≡ i → ⊥
    beside j (inl l) e = absurd (omega arith)
    beside j (inr l) e = absurd (omega arith)

pub writes_as : {A : Type 0} (read : List Cell → ℕ → A) (h new : Store) (k base n : ℕ) (vs us : ℕ → A) → ((q : ℕ) → q < n → us q ≡ vs q)
    → Writes read h new k base n vs → Writes read h new k base n us
writes_as read h new k base n vs us same w = record {
  block = w.block;
  live = w.live;
  numbers = w.numbers;
  changed = w.changed;
  size = w.size;
  here = λ q l. w.here q l ∙ sym (same q l);
  apart = w.apart;
}
